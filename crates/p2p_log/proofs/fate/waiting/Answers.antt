-- What stands of an entry's puts is told by that entry and those after it.
use Rattle.std.proofs.Common.{◌∙◌, sym, arith}
use Rattle.std.proofs.lemmas.List.{at_drop_all}
use Rattle.p2p_log.specs.Lines.{live_from}
use Rattle.p2p_log.proofs.Waiting.{first_of, first_of-next, first_of-none, option_or-some, option_or-none}
use Rattle.p2p_log.proofs.fate.waiting.Goals as goal

pub returns-then-is_some : goal.returns-then-is_some
returns-then-is_some c =
    let next = first_of-next c.args.copy c.args.log.now c.loop-n.n c.index-log-n.result c.waiting_put-found.result (omega arith) c.index-log-n.is (rw c.as_slice.ensures at c.waiting_put-found.ensures) in
    sym (option_or-some c.waiting_put-found.result _ (sym c.is_some.ensures ∙ c.if-is_some.true)) ∙ sym next ∙ c.loop-n.invariant

pub loop-n-preserved : goal.loop-n-preserved
loop-n-preserved c =
    let next = first_of-next c.args.copy c.args.log.now c.loop-n.n c.index-log-n.result c.waiting_put-found.result (omega arith) c.index-log-n.is (rw c.as_slice.ensures at c.waiting_put-found.ensures) in
    sym (option_or-none c.waiting_put-found.result _ (sym c.is_some.ensures ∙ c.if-is_some.false)) ∙ sym next ∙ c.loop-n.invariant

pub returns : goal.returns
returns c =
    let log = c.args.log.now in
    sym (at_drop_all (λ xs. first_of c.args.copy (live_from c.loop-n.n xs)) log c.loop-n.n c.loop-n-test.false ∙ first_of-none c.args.copy c.loop-n.n)
    ∙ c.loop-n.invariant
