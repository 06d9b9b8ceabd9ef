-- The text of a summary: how many copies there are, and how many of them were delivered, were dropped or wait.
use Rattle.std.specs.Prelude.{ℕ, ◌+◌, Bool, true, false, List, [], ◌∷◌, ◌++◌, length, filter, codes, Option, Some}
use Rattle.p2p_base.specs.declared.key.Key.{Key}
use Rattle.p2p_log.specs.declared.entry.Entry.{Entry}
use Rattle.p2p_log.specs.declared.report.Fate.{Fate}
use Rattle.p2p_log.specs.declared.report.Fate.TheVariants as fate
use Rattle.p2p_log.specs.Fates.{fate_of}
use Rattle.p2p_sim_report.specs.ReportText.{accepted_in}
use Rattle.p2p_sim_report.specs.Text.{number_onto}
use Rattle.p2p_sim_report.specs.declared.summary.Kind.{Kind}
use Rattle.p2p_sim_report.specs.declared.summary.Kind.TheVariants as kind

-- ---- the fates of all copies, in the order of a report

-- those of a send's copies from the place p on, of which there is one for each of these keys
abbrev pub send_fates : List Entry → ℕ → ℕ → List Key → List (Option Fate)
send_fates log send p [] = []
send_fates log send p (k ∷ ks) = fate_of log (send, p) ∷ send_fates log send (p + 1) ks

-- those of the copies of these entries' accepted sends, of which the first has the number n
abbrev pub fates_from : List Entry → ℕ → List Entry → List (Option Fate)
fates_from log n [] = []
fates_from log n (e ∷ es) = send_fates log n 0 (accepted_in e) ++ fates_from log (n + 1) es

abbrev pub all_fates : List Entry → List (Option Fate)
all_fates log = fates_from log 0 log

-- ---- the text

-- whether a fate is of this kind
abbrev pub is_of : Kind → Option Fate → Bool
is_of kind.Delivered (Some (fate.Delivered q n)) = true
is_of kind.Dropped (Some (fate.Dropped c n)) = true
is_of kind.Waiting (Some (fate.Waiting q)) = true
is_of _ _ = false

abbrev pub count : Kind → List (Option Fate) → ℕ
count k fates = length (filter (is_of k) fates)

-- the counts up to that of what was dropped: {"copies":c,"delivered":d,"dropped":x
abbrev pub ended_onto : List ℕ → List (Option Fate) → List ℕ
ended_onto out fates =
    number_onto (number_onto (number_onto (out ++ codes "{\"copies\":") (length fates) ++ codes ",\"delivered\":") (count kind.Delivered fates) ++ codes ",\"dropped\":") (count kind.Dropped fates)

-- {"copies":c,"delivered":d,"dropped":x,"entries":n,"waiting":w}
abbrev pub summary_onto : List ℕ → List (Option Fate) → ℕ → List ℕ
summary_onto out fates entries =
    number_onto (number_onto (ended_onto out fates ++ codes ",\"entries\":") entries ++ codes ",\"waiting\":") (count kind.Waiting fates) ++ codes "}\n"

-- the summary of a report with this log
unfoldable pub summary_text : List Entry → List ℕ
summary_text log = summary_onto [] (all_fates log) (length log)
