-- The walk's step, and its start past the last entry.
use Rattle.std.proofs.Common.{◌≤◌, ◌-◌, ◌∙◌, ap, sym, arith, length, List, ◌||◌, Bool}
use Rattle.std.specs.Prelude.{flat_map}
use Rattle.std.specs.List.{list_any}
use Rattle.std.specs.Map.{lookup}
use Rattle.std.specs.BTreeMap.{is_at}
use Rattle.std.specs.Option.{option_or}
use Rattle.std.proofs.lemmas.List.{at_drop_all}
use Rattle.p2p_log.specs.declared.entry.Entry.{Entry}
use Rattle.p2p_log.specs.Lines.{ended_item, goes, live_from, same_name}
use Rattle.p2p_sim_report.specs.Found.{name_cmp, value_of, has, first_of}
use Rattle.p2p_sim_report.proofs.Backwards.{first_of-before, goes-before, left_from}
use Rattle.p2p_sim_report.proofs.found.carriers_in.Goals as goal

pub loop-n-init : goal.loop-n-init
unfolding value_of has live_from
loop-n-init c =
    let log = c.args.log.now in
    record {
      waiting = λ copy.
          ap (lookup (is_at (name_cmp copy))) c.new-waiting.ensures.empty
          ∙ sym (at_drop_all (λ (es : List Entry). first_of copy (live_from (length log) es)) log (length log) (omega arith));
      gone = λ name.
          ap (list_any (is_at (name_cmp name))) c.new-gone.ensures.empty
          ∙ sym (at_drop_all (λ (es : List Entry). list_any (same_name name) (flat_map goes es)) log (length log) (omega arith));
    }

pub loop-n-preserved : goal.loop-n-preserved
loop-n-preserved c =
    let log = c.args.log.now in
    let n = c.loop-n.n in
    let e = c.index-log-n.result in
    let before = has c.loop-n.gone in
    let within : n ≤ length log = omega arith in
    record {
      waiting = λ copy.
          let put = rw c.as_slice.ensures at (c.in_ok-note_puts.ensures copy) in
          put
          ∙ ap (option_or (first_of copy (left_from before (n - 1) 0 e.puts))) (c.loop-n.invariant.waiting copy)
          ∙ sym (first_of-before copy log n e before c.loop-n-test.true within c.index-log-n.is c.loop-n.invariant.gone);
      gone = λ name.
          let p = same_name name in
          let taken = rw c.as_slice-in-loop-n.ensures at (c.in_ok-note_taken.ensures name) in
          let ended = rw c.as_slice-in-loop-n-2.ensures at (c.in_ok-note_ended.ensures name) in
          ended
          ∙ ap (λ (b : Bool). list_any p (flat_map ended_item e.ends) || b) (taken ∙ ap (λ (b : Bool). list_any p e.takes || b) (c.loop-n.invariant.gone name))
          ∙ sym (goes-before name log n e c.loop-n-test.true within c.index-log-n.is);
    }
