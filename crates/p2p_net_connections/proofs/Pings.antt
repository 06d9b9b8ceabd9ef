-- From where the connections of a node count to their next pings, after one more entry.
use Rattle.std.proofs.Common.{◌≡◌, ℕ, Bool, true, false, cond, List, [], ◌∷◌, ◌++◌, Option, Some, None, refl, ap, sym, ◌∙◌}
use Rattle.std.specs.Prelude.{◌&&◌, is_some}
use Rattle.std.specs.List.{list_any}
use Rattle.p2p_log.specs.declared.config.Config.{Config}
use Rattle.p2p_log.specs.declared.entry.Entry.{Entry}
use Rattle.p2p_log.specs.declared.event.Event.{Event}
use Rattle.p2p_log_rules.specs.Connections.{begins_connection, is_answer, has_run, runs}
use Rattle.p2p_log_rules.specs.Facts.{taken}
use Rattle.p2p_log_rules.specs.Pings.{ping_frequency_at, is_past, last_pinged, ping_is_due}
use Rattle.p2p_log_rules.specs.Effect.{effect}
pub use Rattle.p2p_log_rules.proofs.Pinging.{last_pinged-kept as pinged-kept}
use Rattle.p2p_log_rules.proofs.Connections.{runs_is}
use Rattle.p2p_log_rules.proofs.Pinging.{counted_from, pinged_by, PingsWhenDue, last_pinged-append}
use Rattle.p2p_log_rules.proofs.PingRows.{RunsWhenDue, pings_when_due}
use Rattle.p2p_net_queues.specs.Tables.{at}
use Rattle.p2p_net_connections.specs.Connections.{runs_on, pinged_on}
use Rattle.p2p_net_connections.specs.Stands.{ConnectionsStand}
use Rattle.p2p_net_connections.specs.declared.connections.Connections.{Connections}
use Rattle.p2p_net_connections.specs.declared.connections.Stage.{Stage}
use Rattle.p2p_net_connections.specs.declared.connections.Stage.TheVariants as stage

-- ---- by the log

-- one that did not count yet does so once it took its router's answer
pinged_first : (frequency n conn : ℕ) (log : List Entry) (e : Entry) → pinged_by frequency n conn log e None ≡ cond (runs n conn log e) (Some e.event.at) None
pinged_first frequency n conn log e = by (begins_connection n conn log e) (list_any is_answer (taken log e)) ∙ ap (λ b. cond b (Some e.event.at) None) (sym (runs_is log e n conn))
  where
    by : (steps answered : Bool) → cond steps (cond answered (Some e.event.at) None) None ≡ cond (steps && answered) (Some e.event.at) None
    by true answered = refl
    by false answered = refl

pub last_pinged-first : (configs : List Config) (log : List Entry) (e : Entry) (n conn : ℕ) → PingsWhenDue configs log e n conn → last_pinged configs log n conn ≡ None
    → last_pinged configs (log ++ e ∷ []) n conn ≡ cond (runs n conn log e) (Some e.event.at) None
last_pinged-first configs log e n conn pings none =
    last_pinged-append configs log e n conn pings ∙ (ap (pinged_by (ping_frequency_at configs n) n conn log e) none ∙ pinged_first (ping_frequency_at configs n) n conn log e)

-- it did not count, and takes no answer
pub pinged-idle : (configs : List Config) (log : List Entry) (e : Entry) (n conn : ℕ) → PingsWhenDue configs log e n conn → last_pinged configs log n conn ≡ None → runs n conn log e ≡ false
    → last_pinged configs (log ++ e ∷ []) n conn ≡ last_pinged configs log n conn
pinged-idle configs log e n conn pings none no_answer =
    last_pinged-first configs log e n conn pings none ∙ (ap (λ b. cond b (Some e.event.at) None) no_answer ∙ sym none)

-- it counts, and no ping is due
pub pinged-early : (configs : List Config) (log : List Entry) (e : Entry) (n conn from : ℕ) → PingsWhenDue configs log e n conn → last_pinged configs log n conn ≡ Some from → ping_is_due configs log n conn e.event.at ≡ false
    → last_pinged configs (log ++ e ∷ []) n conn ≡ last_pinged configs log n conn
pinged-early configs log e n conn from pings last early =
    let frequency = ping_frequency_at configs n in
    let not_past : is_past frequency e.event.at (Some from) ≡ false = ap (is_past frequency e.event.at) (sym last) ∙ early in
    last_pinged-append configs log e n conn pings
    ∙ (ap (pinged_by frequency n conn log e) last
    ∙ (ap (λ b. cond (begins_connection n conn log e) (cond b (Some e.event.at) (Some from)) (Some from)) not_past ∙ (same (begins_connection n conn log e) ∙ sym last)))
  where
    same : (b : Bool) → cond b (Some from) (Some from) ≡ Some from
    same true = refl
    same false = refl

-- a ping is due, and its step is done
pub pinged-due : (configs : List Config) (log : List Entry) (e : Entry) (n conn : ℕ) → PingsWhenDue configs log e n conn → ping_is_due configs log n conn e.event.at ≡ true → begins_connection n conn log e ≡ true → last_pinged configs (log ++ e ∷ []) n conn ≡ Some e.event.at
pinged-due configs log e n conn pings due steps =
    last_pinged-append configs log e n conn pings
    ∙ (ap (λ b. cond b (counted_from frequency e.event.at (taken log e) (last_pinged configs log n conn)) (last_pinged configs log n conn)) steps ∙ by (last_pinged configs log n conn) due)
  where
    frequency : ℕ
    frequency = ping_frequency_at configs n

    by : (o : Option ℕ) → is_past frequency e.event.at o ≡ true → counted_from frequency e.event.at (taken log e) o ≡ Some e.event.at
    by None past = cc
    by (Some from) past = ap (λ b. cond b (Some e.event.at) (Some from)) past

-- ---- and by the stages

pub idle_stage : (o : Option Stage) → runs_on o ≡ false → pinged_on o ≡ None
idle_stage None h = refl
idle_stage (Some stage.Begun) h = refl
idle_stage (Some (stage.Running pinged)) h = cc

pub uncounted_stage : (o : Option Stage) → pinged_on o ≡ None → runs_on o ≡ false
uncounted_stage None h = refl
uncounted_stage (Some stage.Begun) h = refl
uncounted_stage (Some (stage.Running pinged)) h = cc

pub counted_stage : (o : Option Stage) (from : ℕ) → pinged_on o ≡ Some from → runs_on o ≡ true
counted_stage None from h = cc
counted_stage (Some stage.Begun) from h = cc
counted_stage (Some (stage.Running pinged)) from h = refl

running_begun : (o : Option Stage) → runs_on o ≡ true → is_some o ≡ true
running_begun None h = cc
running_begun (Some stage.Begun) h = cc
running_begun (Some (stage.Running pinged)) h = refl

module _ (configs : List Config) (log : List Entry) (n : ℕ) (cs : Connections) (s : ConnectionsStand configs log n cs) where
  -- one that does not run counts from nowhere
  pub not_pinged : (conn : ℕ) → has_run log n conn ≡ false → last_pinged configs log n conn ≡ None
  not_pinged conn idle = sym (s.pinged conn) ∙ idle_stage (at cs.stages conn) (s.running conn ∙ idle)

  -- and no ping of it is due
  pub not_due : (conn now : ℕ) → has_run log n conn ≡ false → ping_is_due configs log n conn now ≡ false
  not_due conn now idle = ap (is_past (ping_frequency_at configs n) now) (not_pinged conn idle)

  -- one that counts from nowhere does not run
  pub not_running : (conn : ℕ) → last_pinged configs log n conn ≡ None → has_run log n conn ≡ false
  not_running conn none = sym (s.running conn) ∙ uncounted_stage (at cs.stages conn) (s.pinged conn ∙ none)

  -- one of which a ping is due runs
  pub due_runs : (conn now : ℕ) → ping_is_due configs log n conn now ≡ true → has_run log n conn ≡ true
  due_runs conn now due = by (last_pinged configs log n conn) refl due
    where
      by : (o : Option ℕ) → last_pinged configs log n conn ≡ o → is_past (ping_frequency_at configs n) now o ≡ true → has_run log n conn ≡ true
      by None last past = cc
      by (Some from) last past = sym (s.running conn) ∙ counted_stage (at cs.stages conn) from (s.pinged conn ∙ last)

  -- and has begun
  pub runs_when_due : (conn now : ℕ) → RunsWhenDue configs log n conn now
  runs_when_due conn now due =
      let runs : has_run log n conn ≡ true = due_runs conn now due in
      (sym (s.begun conn) ∙ running_begun (at cs.stages conn) (s.running conn ∙ runs), runs)

  -- so an entry of the log's own pings where that is due
  pub pings_by : (ev : Event) (conn : ℕ) → PingsWhenDue configs log (effect configs log ev) n conn
  pings_by ev conn = pings_when_due configs log ev n conn (runs_when_due conn ev.at)

  -- whether its next ping is due is told by its stage
  pub due_is : (conn now : ℕ) → is_past (ping_frequency_at configs n) now (pinged_on (at cs.stages conn)) ≡ ping_is_due configs log n conn now
  due_is conn now = ap (is_past (ping_frequency_at configs n) now) (s.pinged conn)
