use Rattle.std.proofs.Common.{◌≡◌, drop}
use Rattle.p2p_discovery.specs.Verifying.{first_fault}
use Rattle.p2p_discovery.proofs.types.info_verifier.InfoVerifier.validate_each.Given as goal

abbrev pub invariant-loop-info : goal.invariant-loop-info
invariant-loop-info g l = first_fault g.P.PartialEq.eq l.self (g.V.Verifier.accepts l.verifier) l.now (drop l.info-index l.infos) ≡ first_fault g.P.PartialEq.eq l.self (g.V.Verifier.accepts l.verifier) l.now l.infos
