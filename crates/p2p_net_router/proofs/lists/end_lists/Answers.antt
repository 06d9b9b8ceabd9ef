use Rattle.std.proofs.Common.{◌≡◌, ℕ, ◌+◌, ◌++◌, ◌∷◌, [], List, get_or, take, ap, sym, subst, append-nil}
use Rattle.std.specs.Prelude.{filter, flat_map}
use Rattle.std.proofs.lemmas.List.{take_more, take_all}
use Rattle.p2p_log.specs.Lines.{stays, ended_item}
use Rattle.p2p_log_rules.specs.Effect.{peers_ends}
use Rattle.p2p_log.proofs.Lines.{filter_stays-nil}
use Rattle.p2p_net_queues.specs.Board.{held}
use Rattle.p2p_net_router.specs.Names.{Agrees, label}
use Rattle.p2p_net_router.proofs.Building.{row_ended, Agrees-ended}
use Rattle.p2p_net_router.proofs.lists.end_lists.Goals as goal

pub loop-channel-init : goal.loop-channel-init
loop-channel-init c = record {
  row = λ items apart h. ap (λ e. record c.args.row.now { ends = e }) (sym (append-nil c.args.row.now.ends));
  names = λ items apart h. subst (Agrees c.args.turn.node label (held c.args.names.now)) (sym (filter_stays-nil items)) h;
}

pub loop-channel-preserved : goal.loop-channel-preserved
loop-channel-preserved c =
    let i = c.loop-channel.channel-index in
    let all = c.args.channels.now in
    let n = c.args.turn.node in
    let r = c.args.row.now in
    let more : take (i + 1) all ≡ take i all ++ get_or all i 0 ∷ [] = take_more all i 0 c.loop-channel-test.true in
    record {
      row = λ items apart h.
          subst (λ (cs : List ℕ). c.end_list.new.row ≡ record r { ends = r.ends ++ peers_ends items n cs }) (sym more)
          (row_ended n (get_or all i 0) (take i all) (held c.loop-channel.names) items r c.loop-channel.row c.end_list.new.row
          (c.loop-channel.invariant.names items apart h) (c.loop-channel.invariant.row items apart h) c.in_ok-end_list.ensures.row);
      names = λ items apart h.
          subst (λ (cs : List ℕ). Agrees n label (held c.end_list.new.names) (filter (stays (flat_map ended_item (peers_ends items n cs))) items)) (sym more)
          (Agrees-ended n (get_or all i 0) (take i all) (held c.loop-channel.names) (held c.end_list.new.names) items apart
          (c.loop-channel.invariant.names items apart h) c.in_ok-end_list.ensures.names);
    }

pub returns-clause-row : goal.returns-clause-row
returns-clause-row c =
    λ items apart h.
    let all = c.args.channels.now in
    let r = c.args.row.now in
    subst (λ (cs : List ℕ). c.loop-channel.row ≡ record r { ends = r.ends ++ peers_ends items c.args.turn.node cs })
    (take_all c.loop-channel.channel-index all c.loop-channel-test.false) (c.loop-channel.invariant.row items apart h)

pub returns-clause-names : goal.returns-clause-names
returns-clause-names c =
    λ items apart h.
    let all = c.args.channels.now in
    subst (λ (cs : List ℕ). Agrees c.args.turn.node label (held c.loop-channel.names) (filter (stays (flat_map ended_item (peers_ends items c.args.turn.node cs))) items))
    (take_all c.loop-channel.channel-index all c.loop-channel-test.false) (c.loop-channel.invariant.names items apart h)
