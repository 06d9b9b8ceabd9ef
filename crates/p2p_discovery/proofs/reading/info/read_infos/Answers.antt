use Rattle.std.proofs.lemmas.Result.{err_from_is_err_and}
use Rattle.p2p_discovery.specs.Reading.{infos_at}
use Rattle.p2p_discovery.proofs.Loops.{infos-more, infos-refused, infos-end}
use Rattle.p2p_discovery.proofs.reading.info.read_infos.Goals as goal

pub returns-in_err-info : goal.returns-in_err-info
returns-in_err-info g c =
    let k = g.P.PublicKey in
    let p = err_from_is_err_and c.from_residual.result c.from_residual.ensures.1 in
    rw (p.1, p.2) (λ other. infos-refused k.key_of k.SIZE c.loop.infos c.args.count c.loop.counter c.loop.rest c.in_err-info.field-0.0 (infos_at k.key_of k.SIZE c.args.count c.args.bytes)
    c.loop-test.true (c.in_err-info.ensures other) c.loop.invariant)

pub loop-preserved : goal.loop-preserved
loop-preserved g c =
    let k = g.P.PublicKey in
    rw c.in_ok-add.ensures.added (infos-more k.key_of k.SIZE c.loop.infos c.args.count c.loop.counter c.loop.rest c.in_ok-info.after c.in_ok-info.info (infos_at k.key_of k.SIZE c.args.count c.args.bytes)
    c.loop-test.true c.in_ok-info.ensures c.loop.invariant)

pub returns : goal.returns
returns g c =
    let k = g.P.PublicKey in
    infos-end k.key_of k.SIZE c.loop.infos c.args.count c.loop.counter c.loop.rest (infos_at k.key_of k.SIZE c.args.count c.args.bytes) c.loop-test.false c.loop.invariant
