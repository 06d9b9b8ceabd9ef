-- An item that is gone is passed by.
use Rattle.std.proofs.Common.{◌∙◌, ap, sym, List, arith}
use Rattle.std.specs.Option.{option_or}
use Rattle.p2p_log.specs.declared.item.Envelope.{Envelope}
use Rattle.p2p_sim_report.specs.Found.{value_of, has, first_of}
use Rattle.p2p_sim_report.proofs.Backwards.{left_from-before}
use Rattle.p2p_sim_report.proofs.found.note_puts.Goals as goal

pub loop-place-preserved : goal.loop-place-preserved
loop-place-preserved c =
    λ copy.
    let answer = λ (xs : List Envelope). option_or (first_of copy xs) (value_of c.args.waiting.now copy) in
    c.loop-place.invariant copy
    ∙ sym (ap answer (left_from-before (has c.args.gone.now) c.args.n c.loop-place.place c.args.puts.now c.loop-place-test.true (omega arith) (sym c.is_in.ensures ∙ c.if-not-is_in.false)))
