-- Each kill comes after its cause: of a connection's key, since its grant.
use Rattle.std.proofs.Common.{◌≡◌, ℕ, Bool, true, false, cond, List, [], ◌∷◌, ◌++◌, take, Some, refl, ap, sym, subst, ◌∙◌, eq-eqb}
use Rattle.std.specs.Prelude.{flat_map, slice_get}
use Rattle.std.specs.List.{list_any}
use Rattle.p2p_base.specs.declared.key.Key.{Key}
use Rattle.p2p_tracker_calls.specs.declared.call.Call.{Call}
use Rattle.p2p_tracker_calls.specs.Grants.{is_held}
use Rattle.p2p_tracker_calls.specs.Jitter.{jitter_of}
use Rattle.p2p_log.specs.declared.config.Config.{Config}
use Rattle.p2p_log.specs.declared.entry.Entry.{Entry}
use Rattle.p2p_log.specs.declared.entry.Reply.{Reply}
use Rattle.p2p_log.specs.declared.entry.Reply.TheVariants as reply
use Rattle.p2p_log.specs.declared.event.Act.TheVariants as act
use Rattle.p2p_log.specs.declared.event.Event.{Event}
use Rattle.p2p_log.specs.declared.item.Envelope.{Envelope}
use Rattle.p2p_log.specs.declared.item.Item.{Item}
use Rattle.p2p_log.specs.declared.item.Item.TheVariants as item
use Rattle.p2p_log.specs.declared.queue.Queue.TheVariants as queue
use Rattle.p2p_log.specs.Lines.{name_of, line}
use Rattle.p2p_log_rules.specs.Effect.{effect, row}
use Rattle.p2p_log_rules.specs.Facts.{is_up, is_stopped, item_named, taken}
use Rattle.p2p_log_rules.specs.Lawful.{IsLawful}
use Rattle.p2p_log_rules.specs.Tracking.{key_cmp, rules_at, asked_by, grants_peer, calls_of}
use Rattle.p2p_log_rules.proofs.Calls.{item_calls, step_calls, calls_of-append}
use Rattle.p2p_log_rules.proofs.Moves.{first_has}
use Rattle.p2p_log_laws.specs.KilledSince.{has_cause, IsKilledSince, EachKillHasItsCause}
use Rattle.p2p_log_laws.specs.Kills.{IsEndedFor, ShowsKill}
use Rattle.p2p_log_laws.proofs.CausesMet.{IsMet, AllKnown, asked_met, refused_met}
use Rattle.p2p_log_rules.specs.Rows.{only}
use Rattle.p2p_log_rules.specs.TrackerRows.{tracker_step}
use Rattle.p2p_log_rules.proofs.Channels.{up_lasts}
use Rattle.p2p_log_laws.proofs.Connecting.{connect_is_reserved}
use Rattle.p2p_log_laws.proofs.EarlierLogs.{beginning_lawful}
use Rattle.p2p_log_laws.proofs.Killing.{effect_shown, effect_told}
use Rattle.p2p_log_laws.proofs.KillKnown.{IsMade, known, word_made}
use Rattle.p2p_log_laws.proofs.Prefixes.{entry_due}
use Rattle.p2p_log_laws.proofs.Puts.{IsPut, each_put}
use Rattle.p2p_log_laws.proofs.Weighing.{named_items}
use Rattle.p2p_log_rules.proofs.Steps.{steps_tracker}

module _ (configs : List Config) (n : ℕ) (script : List Event) (before : List Entry) (lawful : IsLawful configs script before) where
  abbrev Met : ℕ → List (Call Key) → Type 0
  Met conn calls = IsMet (rules_at configs n) (IsMade before n) conn calls

  abbrev calls : List (Call Key)
  calls = calls_of configs before n

  all_known : AllKnown (rules_at configs n) (IsMade before n) calls
  all_known key = known configs n key script before lawful

  -- ---- what was taken

  one_there : (e : Entry) (x : Envelope) (rest : List Envelope) → line before (queue.Tracker n) ≡ x ∷ rest → e.takes ≡ name_of x ∷ [] → taken before e ≡ x.item ∷ []
  unfolding taken
  one_there e x rest first takes =
      ap (flat_map (item_named before)) takes ∙ named_items before (x ∷ []) (first_has (IsPut before) before (queue.Tracker n) x rest (each_put before) first, tt)

  taken_met : (e : Entry) (conn : ℕ) (x : Envelope) (rest : List Envelope) → is_stopped before n ≡ false → line before (queue.Tracker n) ≡ x ∷ rest → (jitter : ℕ) (granted : Bool) (i : Item) → x.item ≡ i
      → IsEndedFor (rules_at configs n) conn before calls e.event.at i → Met conn (item_calls before i e.event.at jitter granted calls)
  taken_met e conn x rest lasts first jitter granted (item.Call question) is why = asked_met (rules_at configs n) (IsMade before n) (asked_by before question) e.event.at calls conn all_known why
  taken_met e conn x rest lasts first jitter granted (item.Connect begun key) is why =
      subst (λ (c : ℕ). Met c (item_calls before (item.Connect begun key) e.event.at jitter granted calls)) why.0
      (refused_met (rules_at configs n) (IsMade before n) key e.event.at begun calls all_known (connect_is_reserved configs script before lawful n begun key x rest lasts first is).0
      (word_made configs n script before lawful begun key x rest first is) why.1)
  taken_met e conn x rest lasts first jitter granted _ is why = absurd why

  -- ---- the calls once the entry took it

  calls_after : (e : Entry) (x : Envelope) (rest : List Envelope) → e.event.act ≡ act.Tracker n → e.reply ≡ reply.Ok → line before (queue.Tracker n) ≡ x ∷ rest → e.takes ≡ name_of x ∷ []
      → calls_of configs (before ++ e ∷ []) n
      ≡ item_calls before x.item e.event.at (jitter_of (rules_at configs n).cooldown e.event.seed) (list_any grants_peer e.puts) calls
  calls_after e x rest acts told first takes =
      let jitter = jitter_of (rules_at configs n).cooldown e.event.seed in
      let granted = list_any grants_peer e.puts in
      let steps : steps_tracker n e.event.act ≡ true = ap (steps_tracker n) acts ∙ eq-eqb n n refl in
      calls_of-append configs before e n
      ∙ (ap (λ b. cond b (step_calls before e.reply (taken before e) e.event.at jitter granted calls) calls) steps
      ∙ (ap (λ (r : Reply). step_calls before r (taken before e) e.event.at jitter granted calls) told
      ∙ ap (λ (is : List Item). step_calls before reply.Ok is e.event.at jitter granted calls) (one_there e x rest first takes)))

  -- ---- an entry

  killed_since : (e : Entry) (conn : ℕ) → is_stopped before n ≡ false → ShowsKill configs before e n conn → e.reply ≡ reply.Ok → IsKilledSince configs before e n conn
  killed_since e conn lasts shown told =
      let jitter = jitter_of (rules_at configs n).cooldown e.event.seed in
      let granted = list_any grants_peer e.puts in
      let after = calls_after e shown.oldest shown.later shown.acts told shown.stood shown.takes in
      let met : Met conn (calls_of configs (before ++ e ∷ []) n) =
      subst (Met conn) (sym after) (taken_met e conn shown.oldest shown.later lasts shown.stood jitter granted shown.oldest.item refl shown.why)
      in
      record {
        connection = met.made.0;
        made = met.made.1;
        held = subst (λ (q : Key). is_held key_cmp (calls_of configs (before ++ e ∷ []) n) q ≡ true) (sym met.made.2) met.held;
        came = subst (λ (q : Key). has_cause (rules_at configs n) (calls_of configs (before ++ e ∷ []) n) q ≡ true) (sym met.made.2) met.came;
      }

-- a tracker that does something is that of a node that has not stopped
steps_lasting : (configs : List Config) (before : List Entry) (ev : Event) (n : ℕ) → (effect configs before ev).event.act ≡ act.Tracker n → (effect configs before ev).reply ≡ reply.Ok → is_stopped before n ≡ false
unfolding effect row
steps_lasting configs before ev n acts told = up_lasts before n (by (is_up before n) refl (sym (ap (λ a. (row configs before ev.at ev.seed a).reply) acts) ∙ told))
  where
    by : (b : Bool) → is_up before n ≡ b → (cond b (tracker_step configs before n ev.at) (only reply.Gone)).reply ≡ reply.Ok → is_up before n ≡ true
    by true up said = up
    by false up said = cc

pub each_kill_has_its_cause : (configs : List Config) (script : List Event) (log : List Entry) → IsLawful configs script log → EachKillHasItsCause configs log
each_kill_has_its_cause configs script log lawful k i n conn e here there =
    let due = entry_due configs script log lawful k e here in
    let before : List Entry = take k log in
    let killed : slice_get (effect configs before due.0).puts i ≡ Some (queue.Control n conn, item.Kill) = subst (λ (x : Entry). slice_get x.puts i ≡ Some (queue.Control n conn, item.Kill)) due.1 there in
    subst (λ (x : Entry). IsKilledSince configs before x n conn) (sym due.1)
    (killed_since configs n (take k script) before (beginning_lawful configs script log lawful k) (effect configs before due.0) conn
    (steps_lasting configs before due.0 n (effect_shown configs before due.0 i n conn killed).acts (effect_told configs before due.0 i n conn killed))
    (effect_shown configs before due.0 i n conn killed) (effect_told configs before due.0 i n conn killed))
