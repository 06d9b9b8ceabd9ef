use Rattle.std.proofs.Common.{◌≡◌, ◌<◌, ◌+◌, ◌∙◌, ℕ, Bool, ◌||◌, List, sym, ap, length, drop, get_or}
use Rattle.std.specs.Prelude.{flat_map}
use Rattle.std.specs.List.{list_any}
use Rattle.std.proofs.lemmas.List.{at_drop_more, at_drop_all}
use Rattle.std.proofs.lemmas.List.Folds.{list_any-append}
use Rattle.p2p_log.specs.declared.end.End.{End}
use Rattle.p2p_log.specs.Lines.{ended_item, same_name}
use Rattle.p2p_sim_report.specs.Found.{has}
use Rattle.p2p_sim_report.proofs.Backwards.{turned}
use Rattle.p2p_sim_report.proofs.found.note_ended.Goals as goal

-- one more end is noted
noted-next : (p : ℕ × ℕ → Bool) (ends : List End) (i : ℕ) (d : End) (before new : Bool) → i < length ends
    → new ≡ (list_any p (ended_item (get_or ends i d)) || before)
    → (list_any p (flat_map ended_item (drop (i + 1) ends)) || new) ≡ (list_any p (flat_map ended_item (drop i ends)) || before)
noted-next p ends i d before new within more =
    let here = list_any p (ended_item (get_or ends i d)) in
    let rest = list_any p (flat_map ended_item (drop (i + 1) ends)) in
    let opened : list_any p (flat_map ended_item (drop i ends)) ≡ (here || rest) =
    at_drop_more (λ (es : List End). list_any p (flat_map ended_item es)) ends i d within
    ∙ list_any-append p (ended_item (get_or ends i d)) (flat_map ended_item (drop (i + 1) ends))
    in
    ap (λ (b : Bool). rest || b) more ∙ sym (turned here rest before) ∙ ap (λ (b : Bool). b || before) (sym opened)

pub loop-end-preserved : goal.loop-end-preserved
loop-end-preserved c =
    λ name.
    noted-next (same_name name) c.args.ends.now c.loop-end.end-index _ (has c.loop-end.gone name) (has c.note_end.new.gone name)
    c.loop-end-test.true (c.in_ok-note_end.ensures name)
    ∙ c.loop-end.invariant name

pub returns : goal.returns
returns c =
    λ name.
    sym (ap (λ (b : Bool). b || has c.loop-end.gone name)
    (at_drop_all (λ (es : List End). list_any (same_name name) (flat_map ended_item es)) c.args.ends.now c.loop-end.end-index c.loop-end-test.false))
    ∙ c.loop-end.invariant name
