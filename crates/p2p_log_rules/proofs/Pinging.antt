-- From where connections count to their next pings, after one more entry.
use Rattle.std.proofs.Common.{◌≡◌, ℕ, Bool, true, false, cond, List, [], ◌∷◌, ◌++◌, length, refl, ap, sym, ◌∙◌, Option, Some, None}
use Rattle.std.specs.Prelude.{◌==◌, ◌&&◌, unwrap_or}
use Rattle.std.specs.List.{list_any}
use Rattle.p2p_log.specs.declared.config.Config.{Config}
use Rattle.p2p_log.specs.declared.queue.Queue.{Queue}
use Rattle.p2p_log.specs.declared.item.Item.{Item}
use Rattle.p2p_log.specs.declared.entry.Entry.{Entry}
use Rattle.p2p_log.specs.declared.entry.Reply.{Reply}
use Rattle.p2p_log.specs.declared.entry.Reply.TheVariants as reply
use Rattle.p2p_log.specs.declared.event.Act.{Act}
use Rattle.p2p_log.specs.declared.event.Act.TheVariants as act
use Rattle.p2p_log_rules.specs.declared.row.Half.{Half}
use Rattle.p2p_log_rules.specs.Connections.{is_answer, is_done, begins_connection}
use Rattle.p2p_log_rules.specs.Facts.{taken, state_from}
use Rattle.p2p_log_rules.specs.HalfSteps.{puts_ping}
use Rattle.p2p_log_rules.specs.Halves.{half_in}
use Rattle.p2p_log_rules.specs.Pings.{ping_frequency_at, is_past, runs_from, pings_at, or_from, last_pinged, ping_is_due}
use Rattle.p2p_log_rules.specs.Tellings.{Telling, last_or, or_new, first_or}
use Rattle.p2p_log_rules.specs.Tellings as telling
use Rattle.p2p_log_rules.specs.Told.{when, done_tells, sender_tells, over_tells, act_tells, tells, told}
use Rattle.p2p_log_rules.proofs.Connections.{steps_sender, begins_is}
use Rattle.p2p_log_rules.proofs.TellingKinds as kind
use Rattle.p2p_log_rules.proofs.Families.{telling_kind, kinds_of, has, are_apart, untold_of}
use Rattle.p2p_log_rules.proofs.Others.{last_kept, first_kept}
use Rattle.p2p_log_rules.proofs.Told.{over_quiet}
use Rattle.p2p_log_rules.proofs.Tellings.{told-append, last_or-append, first_or-append}

-- after a step at this moment that took these and put these
abbrev pub counted_now : ℕ → List Item → List (Queue × Item) → Option ℕ → Option ℕ
counted_now at items puts last = cond (puts_ping items puts) (Some at) (or_from last (cond (list_any is_answer items) (Some at) None))

is_count : Telling → Bool
is_count (telling.connection_ran m c at) = true
is_count (telling.ping_put m c at) = true
is_count _ = false

of_kinds : (t : Telling) → has (kind.connection_ran ∷ kind.ping_put ∷ []) (telling_kind t) ≡ false → is_count t ≡ false
unfolding is_count
of_kinds (telling.connection_ran m c at) h = cc
of_kinds (telling.ping_put m c at) h = cc
of_kinds _ h = refl

module _ (n conn : ℕ) where
  not_run : (t : Telling) → is_count t ≡ false → runs_from n conn t ≡ None
  unfolding is_count
  not_run (telling.connection_ran m c at) h = cc
  not_run (telling.ping_put m c at) h = cc
  not_run _ h = refl

  not_pinged : (t : Telling) → is_count t ≡ false → pings_at n conn t ≡ None
  unfolding is_count
  not_pinged (telling.connection_ran m c at) h = cc
  not_pinged (telling.ping_put m c at) h = cc
  not_pinged _ h = refl

  -- from the last ping and the first answer before, and what is told after them
  abbrev counted : List Telling → Option ℕ → Option ℕ → Option ℕ
  counted us pinged ran = or_from (last_or pinged (pings_at n conn) us) (first_or ran (runs_from n conn) us)

  counted-append : (ts us : List Telling) (pinged ran : Option ℕ) → counted (ts ++ us) pinged ran ≡ counted us (last_or pinged (pings_at n conn) ts) (first_or ran (runs_from n conn) ts)
  counted-append ts us pinged ran =
      ap (λ o. or_from o (first_or ran (runs_from n conn) (ts ++ us))) (last_or-append pinged (pings_at n conn) ts us)
      ∙ ap (λ o. or_from (last_or (last_or pinged (pings_at n conn) ts) (pings_at n conn) us) o) (first_or-append ran (runs_from n conn) ts us)

  counted_same : (us : List Telling) (pinged ran : Option ℕ) → list_any is_count us ≡ false → counted us pinged ran ≡ or_from pinged ran
  counted_same us pinged ran h =
      ap (λ o. or_from o (first_or ran (runs_from n conn) us)) (last_kept is_count (pings_at n conn) not_pinged pinged us h)
      ∙ ap (or_from pinged) (first_kept is_count (runs_from n conn) not_run ran us h)

  half_quiet : (m c : ℕ) (r : Reply) (half : Option Half) → list_any is_count (over_tells m c r half) ≡ false
  unfolding is_count
  half_quiet m c r half = over_quiet is_count 0 0 m c r half (record { over = refl; drops = λ link s. refl })

  -- what a step of a sending half makes of it
  stepped : (m c at : ℕ) (r : Reply) (items : List Item) (puts : List (Queue × Item)) (pinged ran : Option ℕ)
      → counted (done_tells r (sender_tells m c at items puts)) pinged ran ≡ cond (((m == n) && (c == conn)) && is_done r) (counted_now at items puts (or_from pinged ran)) (or_from pinged ran)
  stepped m c at reply.Ok items puts pinged ran = by (list_any is_answer items) (puts_ping items puts)
    where
      no_answer : (pinged ran : Option ℕ) → or_from pinged ran ≡ or_from (or_from pinged ran) None
      no_answer (Some x) ran = refl
      no_answer None None = refl
      no_answer None (Some y) = refl

      answered : (pinged ran : Option ℕ) → or_from pinged (Some (unwrap_or ran at)) ≡ or_from (or_from pinged ran) (Some at)
      answered (Some x) ran = refl
      answered None None = refl
      answered None (Some y) = refl

      both : (here : Bool) → or_from (unwrap_or (cond here (Some (Some at)) None) pinged) (or_new (cond here (Some at) None) ran) ≡ cond (here && true) (Some at) (or_from pinged ran)
      both true = refl
      both false = refl

      runs : (here : Bool) → or_from pinged (or_new (cond here (Some at) None) ran) ≡ cond (here && true) (or_from (or_from pinged ran) (Some at)) (or_from pinged ran)
      runs true = answered pinged ran
      runs false = refl

      pings : (here : Bool) → or_from (unwrap_or (cond here (Some (Some at)) None) pinged) ran ≡ cond (here && true) (Some at) (or_from pinged ran)
      pings true = refl
      pings false = refl

      neither : (here : Bool) → or_from pinged ran ≡ cond (here && true) (or_from (or_from pinged ran) None) (or_from pinged ran)
      neither true = no_answer pinged ran
      neither false = refl

      by : (answer ping : Bool)
          → counted (when answer (telling.connection_ran m c at ∷ []) ++ when ping (telling.ping_put m c at ∷ [])) pinged ran
          ≡ cond (((m == n) && (c == conn)) && true) (cond ping (Some at) (or_from (or_from pinged ran) (cond answer (Some at) None))) (or_from pinged ran)
      by true true = both ((m == n) && (c == conn))
      by true false = runs ((m == n) && (c == conn))
      by false true = pings ((m == n) && (c == conn))
      by false false = neither ((m == n) && (c == conn))
  stepped m c at _ items puts pinged ran = by ((m == n) && (c == conn))
    where
      by : (here : Bool) → or_from pinged ran ≡ cond (here && false) (counted_now at items puts (or_from pinged ran)) (or_from pinged ran)
      by true = refl
      by false = refl

-- what an entry makes of it
counted_by : (log : List Entry) (e : Entry) (n conn : ℕ) (pinged ran : Option ℕ)
    → counted n conn (tells (told log) log e) pinged ran ≡ cond (begins_connection n conn log e) (counted_now e.event.at (taken log e) e.puts (or_from pinged ran)) (or_from pinged ran)
unfolding tells
counted_by log e n conn pinged ran =
    by e.event.act refl ∙ ap (λ b. cond b (counted_now e.event.at (taken log e) e.puts (or_from pinged ran)) (or_from pinged ran)) (sym (begins_is log e n conn))
  where
    by : (a : Act) → e.event.act ≡ a
        → counted n conn (tells (told log) log e) pinged ran ≡ cond (steps_sender n conn a && is_done e.reply) (counted_now e.event.at (taken log e) e.puts (or_from pinged ran)) (or_from pinged ran)
    by (act.SendStep c m) is =
        let half : List Telling = over_tells m c e.reply (half_in (told log) m c) in
        let more : List Telling = done_tells e.reply (sender_tells m c e.event.at (taken log e) e.puts) in
        ap (λ a. counted n conn (act_tells (told log) log (length log) e.event.at e.event.seed e.reply (taken log e) e.puts a) pinged ran) is
        ∙ (counted-append n conn half more pinged ran
        ∙ (ap (λ o. counted n conn more o (first_or ran (runs_from n conn) half)) (last_kept is_count (pings_at n conn) (not_pinged n conn) pinged half (half_quiet n conn m c e.reply (half_in (told log) m c)))
        ∙ (ap (λ o. counted n conn more pinged o) (first_kept is_count (runs_from n conn) (not_run n conn) ran half (half_quiet n conn m c e.reply (half_in (told log) m c)))
        ∙ stepped n conn m c e.event.at e.reply (taken log e) e.puts pinged ran)))
    by a is = counted_same n conn (tells (told log) log e) pinged ran (untold_of is_count (kind.connection_ran ∷ kind.ping_put ∷ []) of_kinds (told log) log e (ap (λ b. are_apart (kinds_of b) (kind.connection_ran ∷ kind.ping_put ∷ [])) is))

pub last_pinged-told : (configs : List Config) (log : List Entry) (e : Entry) (n conn : ℕ)
    → last_pinged configs (log ++ e ∷ []) n conn ≡ cond (begins_connection n conn log e) (counted_now e.event.at (taken log e) e.puts (last_pinged configs log n conn)) (last_pinged configs log n conn)
unfolding last_pinged
last_pinged-told configs log e n conn =
    ap (λ l. counted n conn l None None) (told-append log e)
    ∙ (counted-append n conn (told log) (tells (told log) log e) None None
    ∙ counted_by log e n conn (last_or None (pings_at n conn) (told log)) (first_or None (runs_from n conn) (told log)))

-- no step of its sending half was done
pub last_pinged-kept : (configs : List Config) (log : List Entry) (e : Entry) (n conn : ℕ) → begins_connection n conn log e ≡ false → last_pinged configs (log ++ e ∷ []) n conn ≡ last_pinged configs log n conn
last_pinged-kept configs log e n conn none =
    last_pinged-told configs log e n conn ∙ ap (λ b. cond b (counted_now e.event.at (taken log e) e.puts (last_pinged configs log n conn)) (last_pinged configs log n conn)) none

-- ---- and by whether a ping is due

-- one that took its router's answer counts from there, and one that runs from where it pings
abbrev pub counted_from : ℕ → ℕ → List Item → Option ℕ → Option ℕ
counted_from frequency at items None = cond (list_any is_answer items) (Some at) None
counted_from frequency at items (Some from) = cond (is_past frequency at (Some from)) (Some at) (Some from)

abbrev pub pinged_by : ℕ → ℕ → ℕ → List Entry → Entry → Option ℕ → Option ℕ
pinged_by frequency n conn before e last = cond (begins_connection n conn before e) (counted_from frequency e.event.at (taken before e) last) last

-- a step that is done puts a ping exactly where one is due
abbrev pub PingsWhenDue : List Config → List Entry → Entry → ℕ → ℕ → Type 0
PingsWhenDue configs log e n conn = begins_connection n conn log e ≡ true → puts_ping (taken log e) e.puts ≡ ping_is_due configs log n conn e.event.at

counts_due : (frequency at : ℕ) (items : List Item) (puts : List (Queue × Item)) (last : Option ℕ) → puts_ping items puts ≡ is_past frequency at last → counted_now at items puts last ≡ counted_from frequency at items last
counts_due frequency at items puts None h = ap (λ b. cond b (Some at) (cond (list_any is_answer items) (Some at) None)) h
counts_due frequency at items puts (Some from) h = ap (λ b. cond b (Some at) (Some from)) h

pub last_pinged-append : (configs : List Config) (log : List Entry) (e : Entry) (n conn : ℕ) → PingsWhenDue configs log e n conn
    → last_pinged configs (log ++ e ∷ []) n conn ≡ pinged_by (ping_frequency_at configs n) n conn log e (last_pinged configs log n conn)
last_pinged-append configs log e n conn due = last_pinged-told configs log e n conn ∙ by (begins_connection n conn log e) due
  where
    last : Option ℕ
    last = last_pinged configs log n conn

    frequency : ℕ
    frequency = ping_frequency_at configs n

    by : (b : Bool) → (b ≡ true → puts_ping (taken log e) e.puts ≡ is_past frequency e.event.at last)
        → cond b (counted_now e.event.at (taken log e) e.puts last) last ≡ cond b (counted_from frequency e.event.at (taken log e) last) last
    by true h = counts_due frequency e.event.at (taken log e) e.puts last (h refl)
    by false h = refl

pub last_pinged-none : (configs : List Config) (n conn : ℕ) → last_pinged configs [] n conn ≡ None
unfolding last_pinged told state_from
last_pinged-none configs n conn = refl
