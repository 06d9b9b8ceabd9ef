use Rattle.std.proofs.Common.{◌≡◌, ◌++◌, take}
use Rattle.std.specs.List.{flat_map}
use Rattle.p2p_discovery.specs.Spelling.{spelled_info}
use Rattle.p2p_discovery.proofs.writing.info.put_infos.Given as goal

abbrev pub invariant-loop-info : goal.invariant-loop-info
invariant-loop-info g l = l.out.items ≡ l.fn.out.items ++ flat_map (spelled_info g.P.PublicKey.bytes_of) (take l.info-index l.infos)
