use Rattle.std.proofs.Common.{arith, ◌≡◌, ◌*◌, ◌<◌, ◌^◌, ◌∙◌, ap, subst, sym, length, length-append, ◌+◌, ◌∷◌, []}
use Rattle.std.specs.Prelude.{slice_get, Some, slice_index_or}
use Rattle.std.proofs.lemmas.Option.{slice_get-get_or}
use Rattle.p2p_log.specs.declared.config.Config.{Config}
use Rattle.p2p_net_gates.specs.Dialing.{gates_of}
use Rattle.p2p_net_gates.specs.Listening.{IsNew as IsNewListening}
use Rattle.p2p_net_connections.specs.Spawner.{no_spawning}
use Rattle.p2p_net_tracker.specs.Begins.{IsNew}
use Rattle.p2p_net_node.specs.Stands.{NodeStands}
use Rattle.p2p_net_node.proofs.Starts.{absent, fits_there, each-append, node_new, links_new}
use Rattle.p2p_net.proofs.world.new_nodes.Goals as goal

pub new-requires : goal.new-requires
new-requires c =
    fits_there c.args.configs.now c.loop-number.number (slice_index_or c.args.configs.now c.loop-number.number absent) c.requires
    (slice_get-get_or c.args.configs.now c.loop-number.number absent c.loop-number-test.true)

pub loop-number-preserved : goal.loop-number-preserved
loop-number-preserved c =
    let configs = c.args.configs.now in
    let old = c.loop-number.nodes.items in
    let n = c.loop-number.number in
    let new = c.in_ok-new.field-0 in
    let there = slice_get-get_or configs n absent c.loop-number-test.true ∙ ap Some (sym c.in_ok-new.ensures.config) in
    let stands : NodeStands configs [] n new =
    node_new configs n new there (c.in_ok-new.ensures.retained ∙ ap (λ (z : Config). z.max_peers_per_set * z.tracked_peer_sets) (sym c.in_ok-new.ensures.config)) c.in_ok-new.ensures.runs c.in_ok-new.ensures.works
    (subst (λ (z : Config). z.mailbox_size < 2 ^ 64) (sym c.in_ok-new.ensures.config) c.in_ok-new.ensures.counted) c.in_ok-new.ensures.number (c.in_ok-new.ensures.router configs) c.in_ok-new.ensures.peers
    c.in_ok-new.ensures.channels
    c.in_ok-new.ensures.connections (subst (λ (z : Config). IsNew z new.tracker) (sym c.in_ok-new.ensures.config) c.in_ok-new.ensures.tracker) c.in_ok-new.ensures.dialing
    (subst (λ (z : Config). IsNewListening (gates_of z) new.listening) (sym c.in_ok-new.ensures.config) c.in_ok-new.ensures.listening)
    (subst (λ (z : Config). new.spawning ≡ no_spawning z.mailbox_size) (sym c.in_ok-new.ensures.config) c.in_ok-new.ensures.spawning)
    in
    record {
      long = ap length c.in_ok-push.ensures.items ∙ (length-append old (new ∷ []) ∙ ap (λ k. k + 1) c.loop-number.invariant.long);
      each = λ k x s.
          each-append (λ m y. NodeStands configs [] m y) old new c.loop-number.invariant.each
          (subst (λ m. NodeStands configs [] m new) (sym c.loop-number.invariant.long) stands) k x
          (subst (λ l. slice_get l k ≡ Some x) c.in_ok-push.ensures.items s);
    }

pub returns : goal.returns
returns c =
    let i = c.loop-number.invariant.long in
    let past = c.loop-number-test.false in
    let most = c.loop-number.auto.number-end in
    record { valid = c.requires; long = omega (arith, i, past, most); each = c.loop-number.invariant.each; linked = links_new c.args.configs.now }
