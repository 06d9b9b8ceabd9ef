-- An attempt is told the addresses of its peer.
use Rattle.std.proofs.Common.{◌≡◌, ℕ, Bool, true, false, List, [], ◌∷◌, ◌++◌, length, refl, ap, sym, subst, ◌∙◌, Option, Some, None}
use Rattle.p2p_base.specs.declared.key.Key.{Key}
use Rattle.p2p_address.specs.declared.ip.SocketAddr.{SocketAddr}
use Rattle.p2p_address.specs.declared.peer.Ingress.{Ingress}
use Rattle.p2p_address.specs.declared.peer.Ingress.TheVariants as ingress
use Rattle.p2p_tracker_directory.specs.declared.metadata.Metadata.{Metadata}
use Rattle.p2p_tracker_directory.specs.declared.metadata.Metadata.TheVariants as metadata
use Rattle.p2p_log.specs.declared.config.Config.{Config}
use Rattle.p2p_log.specs.declared.queue.Queue.TheVariants as queue
use Rattle.p2p_log.specs.declared.item.Item.TheVariants as item
use Rattle.p2p_log.specs.declared.entry.Entry.{Entry}
use Rattle.p2p_log.specs.declared.entry.Reply.TheVariants as reply
use Rattle.p2p_log.specs.declared.event.Act.{Act}
use Rattle.p2p_log.specs.declared.event.Act.TheVariants as act
use Rattle.p2p_log.specs.Lines.{line}
use Rattle.p2p_log_rules.specs.declared.row.Row.{Row}
use Rattle.p2p_log_rules.specs.Attempting.{Attempt, dial_rules_at, attempts_of, attempt_told_row, resolve_by}
use Rattle.p2p_log_rules.specs.Tellings as telling
use Rattle.p2p_log_rules.proofs.Attempts.{attempt_told}
use Rattle.p2p_log_rules.proofs.AttemptTellings.{addresses_told}
use Rattle.p2p_log_rules.specs.Effect.{only, row}
use Rattle.p2p_net_queues.specs.Tables as table
use Rattle.p2p_net_queues.specs.Tables.{AreBut}
use Rattle.p2p_net_gates.specs.Attempts.{resolved, Resolves}
use Rattle.p2p_net_gates.specs.DialerStands.{gates_at, attempt_of, AttemptStands, DialerStands}
use Rattle.p2p_net_gates.specs.declared.attempt.RunningAttempt.{RunningAttempt}
use Rattle.p2p_net_links.specs.Stands.{LinksStand}
use Rattle.p2p_net_links.specs.declared.links.Links.{Links}
use Rattle.p2p_net_node.specs.Staying.{TellsAttempt}
use Rattle.p2p_net_node.specs.Places as place
use Rattle.p2p_net_node.specs.Stands.{NodeStands}
use Rattle.p2p_net_node.specs.declared.node.Node.{Node}
use Rattle.p2p_net_dialing.proofs.Attempting.{other_named, other_attempt, told_is, does_itself, untold_stands, told_stands, unnamed_by, tells_performs}
use Rattle.p2p_net_node.proofs.Performing.{asked, Performs}

module _ (configs : List Config) (log : List Entry) (moment seed : ℕ) (addresses : List SocketAddr) (name n : ℕ) (x y : Node) (l ls : Links) (r : Row) (s : NodeStands configs log n x) (t : LinksStand configs log l)
    (tells : TellsAttempt x y) (kept : ls ≡ l) where
  abbrev a : Act
  a = act.Resolve addresses name n

  abbrev attempts : ℕ → Option Attempt
  attempts = attempts_of configs log n

  abbrev Done : Type 0
  Done = Performs configs log (asked moment seed a) n y ls r

  row_by : (b : Option Attempt) → attempts name ≡ b → row configs log moment seed a ≡ elim b [ None ↦ only reply.Gone | Some c ↦ resolve_by c.ingress c.is_resolved name n addresses ]
  unfolding row
  row_by b is = ap (λ (o : Option Attempt). elim o [ None ↦ only reply.Gone | Some c ↦ resolve_by c.ingress c.is_resolved name n addresses ]) is

  gone : (now : Option RunningAttempt) → row configs log moment seed a ≡ only reply.Gone → r ≡ only reply.Gone → AreBut name now x.dialing.attempts y.dialing.attempts → now ≡ table.at x.dialing.attempts name → Done
  gone now is done but now_is =
      tells_performs configs log moment seed n a x y l ls r s t (unnamed_by log n) refl tells kept (is ∙ sym done)
      (untold_stands configs log moment seed n name a (only reply.Gone) is x.dialing y.dialing (s.each place.dialer) refl refl refl (λ j other. (refl, other_attempt n name j other)) (λ j other. other_named n name j other) tells.0
      now reply.Gone (does_itself (queue.Attempt n name) (length log) (only reply.Gone)) but refl now_is)

  by_ingress : (b : Attempt) (m : Metadata Key) (at : Ingress) (done : Bool) → m ≡ metadata.Dialer b.key → attempts name ≡ Some b → table.at x.dialing.attempts name ≡ Some (attempt_of (gates_at configs n) name m b (line log (queue.Attempt n name)))
      → b.ingress ≡ at → b.is_resolved ≡ done → row configs log moment seed a ≡ resolve_by at done name n addresses → r ≡ resolve_by at done name n addresses
      → AreBut name (Some (resolved at done (length log) addresses (attempt_of (gates_at configs n) name m b (line log (queue.Attempt n name))))) x.dialing.attempts y.dialing.attempts → Done
  by_ingress b m (ingress.Dns host port) false reserved is there at_is done_is row_is is_row but =
      tells_performs configs log moment seed n a x y l ls r s t (unnamed_by log n) refl tells kept (row_is ∙ sym is_row)
      (told_stands configs log moment seed n name a (attempt_told_row name n (item.Resolved addresses)) row_is x.dialing y.dialing (s.each place.dialer) refl refl refl (λ j other. (refl, other_attempt n name j other))
      (λ j other. other_named n name j other) tells.0 (Some (resolved (ingress.Dns host port) false (length log) addresses (attempt_of (gates_at configs n) name m b (line log (queue.Attempt n name))))) (item.Resolved addresses)
      (does_itself (queue.Attempt n name) (length log) (attempt_told_row name n (item.Resolved addresses))) but
      (subst (λ (o : Option Attempt). AttemptStands (gates_at configs n) name
      (Some (resolved (ingress.Dns host port) false (length log) addresses (attempt_of (gates_at configs n) name m b (line log (queue.Attempt n name))))) o
      (line log (queue.Attempt n name) ++ record { entry = length log; place = 0; queue = queue.Attempt n name; item = item.Resolved addresses } ∷ []))
      (sym (ap (attempt_told (dial_rules_at configs n) n name (telling.addresses_told n name ∷ [])) is ∙ addresses_told (dial_rules_at configs n) n name b))
      (m, reserved, ap (λ (w : RunningAttempt). record w { is_resolved = true }) (told_is (gates_at configs n) name (length log) n m b (line log (queue.Attempt n name)) (item.Resolved addresses)))))
  by_ingress b m (ingress.Dns host port) true reserved is there at_is done_is row_is is_row but =
      gone (Some (attempt_of (gates_at configs n) name m b (line log (queue.Attempt n name)))) row_is is_row but (sym there)
  by_ingress b m (ingress.Socket socket) done reserved is there at_is done_is row_is is_row but =
      gone (Some (attempt_of (gates_at configs n) name m b (line log (queue.Attempt n name)))) row_is is_row but (sym there)

  by_attempt : (o : Option RunningAttempt) (b : Option Attempt) → table.at x.dialing.attempts name ≡ o → attempts name ≡ b → AttemptStands (gates_at configs n) name o b (line log (queue.Attempt n name))
      → Resolves o (length log) n name addresses x.dialing.attempts y.dialing.attempts r → Done
  by_attempt None None there is stands h = gone None (row_by None is) h.0 h.1 (sym there)
  by_attempt (Some w) (Some b) there is stands h =
      let same : w ≡ attempt_of (gates_at configs n) name stands.0 b (line log (queue.Attempt n name)) = stands.2 in
      by_ingress b stands.0 b.ingress b.is_resolved stands.1 is (there ∙ ap (λ z. Some z) same) refl refl (row_by (Some b) is)
      (h.0 ∙ ap (λ (z : RunningAttempt). resolve_by z.actor.ingress z.is_resolved name n addresses) same)
      (subst (λ (z : RunningAttempt). AreBut name (Some (resolved z.actor.ingress z.is_resolved (length log) addresses z)) x.dialing.attempts y.dialing.attempts) same h.1)
  by_attempt None (Some b) there is stands h = absurd stands
  by_attempt (Some w) None there is stands h = absurd stands

pub resolve_performs : (configs : List Config) (log : List Entry) (moment seed : ℕ) (addresses : List SocketAddr) (name n : ℕ) (x y : Node) (l ls : Links) (r : Row) → NodeStands configs log n x → LinksStand configs log l
    → Resolves (table.at x.dialing.attempts name) (length log) n name addresses x.dialing.attempts y.dialing.attempts r → TellsAttempt x y → ls ≡ l
    → Performs configs log (asked moment seed (act.Resolve addresses name n)) n y ls r
resolve_performs configs log moment seed addresses name n x y l ls r s t h tells kept =
    let d : DialerStands configs log n x.dialing = s.each place.dialer in
    by_attempt configs log moment seed addresses name n x y l ls r s t tells kept (table.at x.dialing.attempts name) (attempts_of configs log n name) refl refl (d.attempts name) h
