use Rattle.std.proofs.Common.{ap, ◌∙◌, ◌++◌}
use Rattle.std.proofs.lemmas.Result.{err_from_is_err_and}
use Rattle.std.specs.Option.{option_map}
use Rattle.p2p_runtime.proofs.streams.whole.write_all.Goals as goal

-- the rest is what was left before the write that failed
pub returns-in_err-n-clause-front : goal.returns-in_err-n-clause-front
returns-in_err-n-clause-front g c =
    let p = err_from_is_err_and c.from_residual.result c.from_residual.ensures.1 in
    rw p.1 (c.loop-rest.rest.now, ap (option_map (λ bytes. bytes ++ c.loop-rest.rest.now)) c.in_err-n.ensures.kept ∙ c.loop-rest.invariant.held)
