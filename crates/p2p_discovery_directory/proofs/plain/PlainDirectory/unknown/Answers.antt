use Rattle.p2p_discovery_directory.specs.Plain.{info_at}
use Rattle.p2p_discovery_directory.proofs.Gossiping.{unknown-step, unknown-done}
use Rattle.p2p_discovery_directory.proofs.plain.PlainDirectory.unknown.Goals as goal

pub loop-place-preserved : goal.loop-place-preserved
loop-place-preserved g c =
    unknown-step (λ q. info_at g.P.Ord.cmp c.args.self.now q) c.args.bits.now c.args.keys.now c.loop-place.place _ c.index-keys-place.result c.loop-place.told.items c.tell.new.told.items _
    c.loop-place-test.true c.requires c.index-keys-place.is c.in_ok-tell.ensures c.loop-place.invariant

pub returns : goal.returns
returns g c =
    unknown-done (λ q. info_at g.P.Ord.cmp c.args.self.now q) c.args.bits.now c.args.keys.now c.loop-place.place c.loop-place.told.items _ c.loop-place-test.false c.loop-place.invariant
