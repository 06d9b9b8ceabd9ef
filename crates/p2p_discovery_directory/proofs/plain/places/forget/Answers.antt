use Rattle.std.proofs.Common.{◌≡◌, true, not, length, Some, sym, ap, ◌∙◌}
use Rattle.std.specs.Prelude.{is_some}
use Rattle.std.specs.List.{find}
use Rattle.std.specs.Map.{keys_of}
use Rattle.p2p_discovery_directory.specs.Tests.{knows}
use Rattle.p2p_discovery_directory.proofs.Forgetting.{found-there, gone-kept, none-gone, less}
use Rattle.p2p_discovery_directory.proofs.plain.places.forget.Goals as goal

pub loop-peer-preserved-in-Some : goal.loop-peer-preserved-in-Some
loop-peer-preserved-in-Some g c = λ q.
    gone-kept g.met.P.Ord.total c.args.peers.now c.loop-peer.places.entries c.remove.new.self.entries c.in-Some.peer (sym c.first_gone.ensures ∙ c.in-Some.is) c.remove.ensures.updates.0 q
    ∙ c.loop-peer.invariant q

pub loop-peer-preserved-in-Some-2 : goal.loop-peer-preserved-in-Some-2
loop-peer-preserved-in-Some-2 g c = λ q.
    gone-kept g.met.P.Ord.total c.args.peers.now c.loop-peer.places.entries c.remove.new.self.entries c.in-Some.peer (sym c.first_gone.ensures ∙ c.in-Some.is) c.remove.ensures.updates.0 q
    ∙ c.loop-peer.invariant q

pub loop-peer-smaller : goal.loop-peer-smaller
loop-peer-smaller g c =
    less (is_some c.remove.result) (length c.remove.new.self.entries) (length c.loop-peer.places.entries) c.remove.ensures.len
    (ap is_some c.remove.ensures.value
    ∙ found-there g.met.P.Ord.total (λ k. not (knows g.P.Ord.cmp c.args.peers.now k)) c.loop-peer.places.entries c.in-Some.peer (sym c.first_gone.ensures ∙ c.in-Some.is))

pub returns : goal.returns
returns g c = λ q. none-gone g.met.P.Ord.total c.args.peers.now c.loop-peer.places.entries (sym c.first_gone.ensures ∙ c.in_default.is) q ∙ c.loop-peer.invariant q
