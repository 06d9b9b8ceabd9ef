-- The text of a report: a line for each entry, a line for each copy, and the line of counts.
use Rattle.std.specs.Prelude.{ℕ, ◌+◌, List, [], ◌∷◌, ◌++◌, codes, length, sum_by}
use Rattle.p2p_base.specs.declared.key.Key.{Key}
use Rattle.p2p_log.specs.declared.entry.Entry.{Entry}
use Rattle.p2p_log.specs.Copies.{accepted_by}
use Rattle.p2p_log.specs.Fates.{fate_of}
use Rattle.p2p_sim_report.specs.Text.{number_onto, name_onto, list_onto}
use Rattle.p2p_sim_report.specs.ItemText.{put_onto}
use Rattle.p2p_sim_report.specs.ReplyText.{reply_onto}
use Rattle.p2p_sim_report.specs.EndText.{end_onto, fate_onto}

-- an entry's line up to the value of its `reply`
abbrev pub entry_start_onto : List ℕ → ℕ → Entry → List ℕ
entry_start_onto out n e =
    list_onto put_onto (number_onto (list_onto end_onto (out ++ codes "{\"end\":") e.ends ++ codes ",\"n\":") n ++ codes ",\"put\":") e.puts
    ++ codes ",\"reply\":"

-- the line of the entry n: {"end":[..],"n":n,"put":[..],"reply":r,"take":[..]}
unfoldable pub entry_onto : List ℕ → ℕ → Entry → List ℕ
entry_onto out n e = list_onto name_onto (reply_onto (entry_start_onto out n e) e.reply ++ codes ",\"take\":") e.takes ++ codes "}\n"

-- the lines of these entries, of which the first has the number n
abbrev pub entries_onto : List ℕ → ℕ → List Entry → List ℕ
entries_onto out n [] = out
entries_onto out n (e ∷ es) = entries_onto (entry_onto out n e) (n + 1) es

-- the line of a copy: {"copy":[send,place],"fate":f}
unfoldable pub copy_line_onto : List Entry → List ℕ → ℕ × ℕ → List ℕ
copy_line_onto log out copy = fate_onto (name_onto (out ++ codes "{\"copy\":") copy ++ codes ",\"fate\":") (fate_of log copy) ++ codes "}\n"

-- the lines of a send's copies from the place p on, of which there is one for each of these keys
abbrev pub copies_onto : List Entry → List ℕ → ℕ → ℕ → List Key → List ℕ
copies_onto log out send p [] = out
copies_onto log out send p (k ∷ ks) = copies_onto log (copy_line_onto log out (send, p)) send (p + 1) ks

-- the keys for whom the entry's send was accepted
abbrev pub accepted_in : Entry → List Key
accepted_in e = accepted_by e.event.act e.reply

-- the lines of the copies of these entries' accepted sends, of which the first has the number n
abbrev pub all_copies_onto : List Entry → List ℕ → ℕ → List Entry → List ℕ
all_copies_onto log out n [] = out
all_copies_onto log out n (e ∷ es) = all_copies_onto log (copies_onto log out n 0 (accepted_in e)) (n + 1) es

-- how many copies there are
abbrev pub count_copies : List Entry → ℕ
count_copies log = sum_by (λ e. length (accepted_in e)) log

-- the last line: {"copies":c,"entries":n}
abbrev pub counts_onto : List ℕ → ℕ → ℕ → List ℕ
counts_onto out copies entries = number_onto (number_onto (out ++ codes "{\"copies\":") copies ++ codes ",\"entries\":") entries ++ codes "}\n"

-- the text of a report with this log
unfoldable pub report_text : List Entry → List ℕ
report_text log = counts_onto (all_copies_onto log (entries_onto [] 0 log) 0 log) (count_copies log) (length log)
