-- An attempt that stands after an entry stood before it, with its key, and with the answer of its dial where it had one.
use Rattle.std.proofs.Common.{◌≡◌, ℕ, suc, ◌≤◌, Bool, true, false, cond, List, [], ◌∷◌, ◌++◌, length, Option, Some, None, ◌⊎◌, inl, inr, refl, ap, sym, ◌∙◌, arith, eqb-true}
use Rattle.std.specs.Prelude.{◌==◌, ◌&&◌, is_some}
use Rattle.std.specs.List.{list_any}
use Rattle.std.proofs.lemmas.Bool.Decides.{nat_tests}
use Rattle.std.proofs.lemmas.Option.{same_Some}
use Rattle.p2p_address.specs.declared.ip.SocketAddr.{SocketAddr}
use Rattle.p2p_log.specs.declared.config.Config.{Config}
use Rattle.p2p_log.specs.declared.item.Item.{Item}
use Rattle.p2p_log.specs.declared.queue.Queue.{Queue}
use Rattle.p2p_log.specs.declared.entry.Entry.{Entry}
use Rattle.p2p_log.specs.declared.entry.Reply.{Reply}
use Rattle.p2p_log.specs.declared.entry.Reply.TheVariants as reply
use Rattle.p2p_log.specs.declared.event.Act.{Act}
use Rattle.p2p_log.specs.declared.event.Act.TheVariants as act
use Rattle.p2p_log.specs.declared.event.Event.{Event}
use Rattle.p2p_log_rules.specs.declared.row.Row.{Row}
use Rattle.p2p_log_rules.specs.Attempting.{Attempt, dial_rules_at, answers_dial, attempts_of, refuse_row, connect_row}
use Rattle.p2p_log_rules.specs.Effect.{effect, entry_of, row}
use Rattle.p2p_log_rules.specs.Facts.{taken}
use Rattle.p2p_log_rules.specs.Tellings.{Telling}
use Rattle.p2p_log_rules.specs.Tellings as telling
use Rattle.p2p_log_rules.specs.Told.{act_tells, told}
use Rattle.p2p_log_rules.proofs.Attempts.{Stood, stood_before}
use Rattle.p2p_log_rules.proofs.AttemptTellings.{attempts_of-act, none_begun}
use Rattle.p2p_log_rules.proofs.TellingKinds as kind
use Rattle.p2p_log_rules.proofs.Families.{telling_kind, has, untold_act}
use Rattle.p2p_log_rules.proofs.Ignoring.{reads_some, last_or-none}
use Rattle.p2p_log_rules.proofs.Told.{quiet_act}
use Rattle.p2p_log_laws.proofs.Linking.{IsFree, IsUnanswered, IsRefused, refuse_is, IsAnswer, connect_is}

-- this attempt is one that stood
pub record GoesOn (old : Option Attempt) (a : Attempt) : Type 0 where
  pub before : Attempt
  pub stood : old ≡ Some before
  pub key : a.key ≡ before.key
  pub answer : (link : ℕ) → before.answer ≡ Some link → a.answer ≡ Some link

-- a dial is answered once
abbrev pub IsFirstAnswer : (ℕ → ℕ → Option Attempt) → Act → Reply → Type 0
IsFirstAnswer attempts (act.Connect e from n to) r = r ≡ reply.Ok → (b : Attempt) → attempts n e ≡ Some b → b.answer ≡ None
IsFirstAnswer attempts (act.Refuse e n) r = r ≡ reply.Ok → (b : Attempt) → attempts n e ≡ Some b → b.answer ≡ None
IsFirstAnswer attempts _ r = Unit {0}

module _ (n k : ℕ) where
  answer_kinds : (t : Telling) → has (kind.dial_answered ∷ []) (telling_kind t) ≡ false → reads_some (answers_dial n k) t ≡ false
  answer_kinds (telling.dial_answered m j event) h = cc
  answer_kinds _ h = refl

  unnamed : (b : Bool) (event : ℕ) → b ≡ false → is_some (cond b (Some (Some event)) None) ≡ false
  unnamed b event h = ap (λ c. is_some (cond c (Some (Some event)) None)) h

  -- of a dial that has its answer, no act tells another
  module _ (attempts : ℕ → ℕ → Option Attempt) (b : Attempt) (link : ℕ) (stood : attempts n k ≡ Some b) (answered : b.answer ≡ Some link)
      (ts : List Telling) (before : List Entry) (name at seed : ℕ) (items : List Item) (puts : List (Queue × Item)) where
    abbrev Quiet : Reply → Act → Type 0
    Quiet r a = list_any (reads_some (answers_dial n k)) (act_tells ts before name at seed r items puts a) ≡ false

    never : (o : Option ℕ) → o ≡ None → o ≡ Some link → ⊥
    never o none some = cc

    -- it is not that of this attempt, or was not answered
    by_name : (r : Reply) (m e : ℕ) (a : Act) → (r ≡ reply.Ok → (b : Attempt) → attempts m e ≡ Some b → b.answer ≡ None) → (((m == n) && (k == e)) ≡ false → Quiet r a) → r ≡ reply.Ok → Quiet r a
    by_name r m e a first other ok = by (m == n) (k == e) refl refl
      where
        by : (c d : Bool) → (m == n) ≡ c → (k == e) ≡ d → Quiet r a
        by true true at is = absurd (never b.answer (first ok b (ap (λ i. attempts i e) (eqb-true m n at) ∙ (ap (attempts n) (sym (eqb-true k e is)) ∙ stood))) answered)
        by true false at is = other (ap (λ c. c && (k == e)) at ∙ is)
        by false d at is = other (ap (λ c. c && (k == e)) at)

    answered_once : (r : Reply) (a : Act) → IsFirstAnswer attempts a r → Quiet r a
    answered_once reply.Ok (act.Connect e from m to) first =
        by_name reply.Ok m e (act.Connect e from m to) first
        (λ h. quiet_act (reads_some (answers_dial n k)) name at ts before seed reply.Ok items puts (act.Connect e from m to) (unnamed ((m == n) && (k == e)) name h, refl)) refl
    answered_once reply.Ok (act.Refuse e m) first =
        by_name reply.Ok m e (act.Refuse e m) first (λ h. quiet_act (reads_some (answers_dial n k)) name at ts before seed reply.Ok items puts (act.Refuse e m) (unnamed ((m == n) && (k == e)) name h)) refl
    answered_once _ (act.Connect e from m to) first = refl
    answered_once _ (act.Refuse e m) first = refl
    answered_once r a first = untold_act (reads_some (answers_dial n k)) (kind.dial_answered ∷ []) answer_kinds ts before name at seed r items puts a refl

-- ---- of each entry

module _ (configs : List Config) (log : List Entry) where
  free_first : (e n : ℕ) → IsFree configs log e n → (b : Attempt) → attempts_of configs log n e ≡ Some b → b.answer ≡ None
  free_first e n free b is = ap (λ (a : Attempt). a.answer) (same_Some b free.0 (sym is ∙ free.1)) ∙ free.2

  refuse_first : (e n : ℕ) (r : Row) → IsUnanswered configs log e n r ⊎ IsRefused configs log e n r → r.reply ≡ reply.Ok → (b : Attempt) → attempts_of configs log n e ≡ Some b → b.answer ≡ None
  refuse_first e n r (inl none) ok b is = absurd (none.0 ok)
  refuse_first e n r (inr refused) ok b is = free_first e n refused.0 b is

  connect_first : (e n : ℕ) (from : SocketAddr) (to : ℕ) (r : Row) → IsAnswer configs log e n from to r → r.reply ≡ reply.Ok → (b : Attempt) → attempts_of configs log n e ≡ Some b → b.answer ≡ None
  connect_first e n from to r (inl none) ok b is = absurd (none.0 ok)
  connect_first e n from to r (inr (inl refused)) ok b is = free_first e n refused.0 b is
  connect_first e n from to r (inr (inr linked)) ok b is = free_first e n linked.0 b is

  pub each_first : (at seed : ℕ) (a : Act) → IsFirstAnswer (attempts_of configs log) a (row configs log at seed a).reply
  unfolding row
  each_first at seed (act.Connect e from n to) = connect_first e n from to (connect_row configs log e from n to) (connect_is configs log e n from to)
  each_first at seed (act.Refuse e n) = refuse_first e n (refuse_row configs log e n) (refuse_is configs log e n)
  each_first at seed _ = tt

  -- an attempt of an earlier name that stands after an entry stood before it
  pub goes_on : (ev : Event) (n k : ℕ) → suc k ≤ length log → (a : Attempt) → attempts_of configs (log ++ effect configs log ev ∷ []) n k ≡ Some a → GoesOn (attempts_of configs log n k) a
  unfolding effect
  goes_on ev n k early a is =
      let e : Entry = entry_of ev (row configs log ev.at ev.seed ev.act) in
      let us : List Telling = act_tells (told log) log (length log) ev.at ev.seed e.reply (taken log e) e.puts ev.act in
      let s : Stood (dial_rules_at configs n) n k us (attempts_of configs log n k) a =
      stood_before (dial_rules_at configs n) n k us (attempts_of configs log n k) a (none_begun n k (told log) log (length log) ev.at ev.seed e.reply (taken log e) e.puts ev.act (other k (length log) early))
      (sym (attempts_of-act configs log e n k ev.act refl) ∙ is)
      in
      record {
        before = s.before;
        stood = s.is;
        key = s.key;
        answer = λ link answered.
            s.answer
            ∙ (last_or-none s.before.answer (answers_dial n k) us
            (answered_once n k (attempts_of configs log) s.before link s.is answered (told log) log (length log) ev.at ev.seed (taken log e) e.puts e.reply ev.act (each_first ev.at ev.seed ev.act)) ∙ answered);
      }
    where
      other : (k m : ℕ) → suc k ≤ m → (k == m) ≡ false
      other k m early = grind (arith, nat_tests)
