-- Past the last entry there is no end.
use Rattle.std.proofs.Common.{◌∙◌, ap, sym, arith, length, List}
use Rattle.std.specs.Map.{lookup}
use Rattle.std.specs.BTreeMap.{is_at}
use Rattle.std.proofs.lemmas.List.{at_drop_all}
use Rattle.p2p_log.specs.declared.entry.Entry.{Entry}
use Rattle.p2p_log.specs.Fates.{ended_from}
use Rattle.p2p_sim_report.specs.Found.{name_cmp, value_of}
use Rattle.p2p_sim_report.proofs.found.ends_in.Goals as goal

pub loop-n-init : goal.loop-n-init
unfolding value_of
loop-n-init c =
    λ copy.
    let log = c.args.log.now in
    let from = λ (es : List Entry). ended_from (length log) copy es in
    ap (lookup (is_at (name_cmp copy))) c.new-ended.ensures.empty ∙ sym (at_drop_all from log (length log) (omega arith))
