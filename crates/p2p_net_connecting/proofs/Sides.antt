-- Which side the reservation of a connection is of: as its half writes.
use Rattle.std.proofs.Common.{◌≡◌, ℕ, cond, List, Some, ap, sym, ◌∙◌, eq-eqb}
use Rattle.std.specs.Prelude.{◌==◌}
use Rattle.std.proofs.lemmas.Option.{same_Some}
use Rattle.p2p_base.specs.declared.key.Key.{Key}
use Rattle.p2p_tracker_directory.specs.declared.metadata.Metadata.{Metadata}
use Rattle.p2p_tracker_directory.specs.declared.metadata.Metadata.TheVariants as metadata
use Rattle.p2p_log.specs.declared.entry.Entry.{Entry}
use Rattle.p2p_log.specs.declared.queue.Side.TheVariants as side
use Rattle.p2p_log_rules.specs.Connections.{side_at}
use Rattle.p2p_log_rules.specs.Dialed.{dialer_of}
use Rattle.p2p_net_connections.specs.Dialing.{IsReservedOver}
use Rattle.p2p_net_tracker.specs.GivenBack.{IsOfSide}

-- over a link that this node dialed
pub reserved_side : (log : List Entry) (n link dialer : ℕ) (m : Metadata Key) → dialer_of log link ≡ Some dialer → IsReservedOver log n link m → IsOfSide (Some (side_at n dialer)) m
reserved_side log n link dialer (metadata.Dialer key) dialed h =
    let own : dialer ≡ n = same_Some dialer n (sym dialed ∙ h) in
    ap (λ b. Some (cond b side.Out side.In)) (eq-eqb dialer n own)
reserved_side log n link dialer (metadata.Listener key) dialed h =
    let same : dialer ≡ h.0 = same_Some dialer h.0 (sym dialed ∙ h.1) in
    ap (λ b. Some (cond b side.Out side.In)) (ap (λ k. k == n) same ∙ h.2)
