use Rattle.std.proofs.lemmas.Result.{err_from_is_err_and}
use Rattle.p2p_discovery.specs.Verifying.{first_fault}
use Rattle.p2p_discovery.proofs.Faults.{one-passed, one-refused, all-passed}
use Rattle.p2p_discovery.proofs.types.info_verifier.InfoVerifier.validate_each.Goals as goal

pub returns-in_err-validate_info : goal.returns-in_err-validate_info
returns-in_err-validate_info g c =
    let eq = g.P.PartialEq.eq in
    let accepts = g.V.Verifier.accepts c.args.verifier.now in
    let p = err_from_is_err_and c.from_residual.result c.from_residual.ensures.1 in
    rw (p.1, p.2) (λ other. one-refused eq c.args.self.now accepts c.args.now c.args.infos.now c.loop-info.info-index c.info-item.result c.in_err-validate_info.field-0.0
    (first_fault eq c.args.self.now accepts c.args.now c.args.infos.now) c.loop-info-test.true c.info-item.is (c.in_err-validate_info.ensures other) c.loop-info.invariant)

pub loop-info-preserved : goal.loop-info-preserved
loop-info-preserved g c =
    let eq = g.P.PartialEq.eq in
    let accepts = g.V.Verifier.accepts c.args.verifier.now in
    one-passed eq c.args.self.now accepts c.args.now c.args.infos.now c.loop-info.info-index c.info-item.result
    (first_fault eq c.args.self.now accepts c.args.now c.args.infos.now) c.loop-info-test.true c.info-item.is c.in_ok-validate_info.ensures c.loop-info.invariant

pub returns : goal.returns
returns g c =
    let eq = g.P.PartialEq.eq in
    let accepts = g.V.Verifier.accepts c.args.verifier.now in
    all-passed eq c.args.self.now accepts c.args.now c.args.infos.now c.loop-info.info-index
    (first_fault eq c.args.self.now accepts c.args.now c.args.infos.now) c.loop-info-test.false c.loop-info.invariant
