use Rattle.std.proofs.Common.{◌≡◌, take}
use Rattle.p2p_discovery.proofs.info.clone_infos.Given as goal

abbrev pub invariant-loop-info : goal.invariant-loop-info
invariant-loop-info g l = l.clones ≡ take l.info-index l.infos
