-- What a check admitted waits for one message.
use Rattle.std.proofs.Common.{◌≡◌, ℕ, zero, suc, ◌+◌, ◌<◌, Bool, true, false, cond, List, [], ◌∷◌, ◌++◌, length, take, refl, ap, sym, subst, ◌∙◌, arith, eqb-true, eq-eqb, inl, inr, Option, Some, None}
use Rattle.std.specs.Prelude.{◌==◌, ◌-◌, slice_get}
use Rattle.std.proofs.lemmas.Bool.Decides.{nat_tests}
use Rattle.p2p_base.specs.declared.key.Key.{Key}
use Rattle.p2p_log.specs.declared.config.Config.{Config}
use Rattle.p2p_log.specs.declared.entry.Entry.{Entry}
use Rattle.p2p_log.specs.declared.entry.Reply.{Reply}
use Rattle.p2p_log.specs.declared.entry.Reply.TheVariants as reply
use Rattle.p2p_log.specs.declared.event.Act.{Act}
use Rattle.p2p_log.specs.declared.event.Act.TheVariants as act
use Rattle.p2p_log.specs.declared.event.Event.{Event}
use Rattle.p2p_log.specs.declared.event.Recipients.{Recipients}
use Rattle.p2p_log.proofs.Places.{slice_get-seam}
use Rattle.p2p_log.proofs.Sending.{get_longer}
use Rattle.p2p_log_rules.specs.declared.row.Row.{Row}
use Rattle.p2p_log_rules.specs.Admitting.{offered, keys_admitted, retry_moment}
use Rattle.p2p_log_rules.specs.Checking.{Check, check_of}
use Rattle.p2p_log_rules.specs.Effect.{only, taking, takes_list, checked_row, check_row, row, effect}
use Rattle.p2p_log_rules.specs.Facts.{channels, capacity_in}
use Rattle.p2p_log_rules.specs.Lawful.{IsLawful}
use Rattle.p2p_log_rules.specs.Told.{check_tells}
use Rattle.p2p_log_rules.proofs.Checks.{check_kinds, check_of-apart, check_of-spent, check_of-made, check_of-unmade, check_of-none}
use Rattle.p2p_log_rules.proofs.Families.{kinds_of, are_apart}
use Rattle.p2p_log_laws.specs.Admitted.{IsCheckOf, ChecksAreAdmitted, ChecksAreSpentOnce}
use Rattle.p2p_log_laws.proofs.Accepting.{each_checked}
use Rattle.p2p_log_laws.proofs.Prefixes.{at_end, take_next, take_no_more}

take_longer : {X : Type 0} (xs ys : List X) (n : ℕ) (x : X) → slice_get xs n ≡ Some x → take n (xs ++ ys) ≡ take n xs
take_longer [] ys n x h = absurd (cc)
take_longer (y ∷ xs) ys zero x h = refl
take_longer (y ∷ xs) ys (suc n) x h = ap (λ l. y ∷ l) (take_longer xs ys n x h)

take_whole : {X : Type 0} (xs ys : List X) → take (length xs) (xs ++ ys) ≡ xs
take_whole [] ys = refl
take_whole (x ∷ xs) ys = ap (λ l. x ∷ l) (take_whole xs ys)

-- ---- a check has what the quota admitted

-- what a check answers, by whether its channel is registered
abbrev answer_on : Option ℕ → Row → Reply
answer_on o r = let due : Row = elim o [ None ↦ only reply.Gone | Some _ ↦ r ] in due.reply

check_admits : (o : Option ℕ) (names : List (ℕ × ℕ)) (offers keys said : List Key) (retry : ℕ) → answer_on o (taking names (checked_row offers keys retry)) ≡ reply.Checked said → said ≡ keys
check_admits None names offers keys said retry h = absurd (cc)
check_admits (Some c) names [] keys said retry h = cc
check_admits (Some c) names (k ∷ ks) [] said retry h = absurd (cc)
check_admits (Some c) names (k ∷ ks) (j ∷ js) said retry h = cc

module _ (configs : List Config) (before : List Entry) (ev : Event) (h : ChecksAreAdmitted before) (name : ℕ) (c : Check) where
  abbrev e : Entry
  e = effect configs before ev

  abbrev now : List Entry
  now = before ++ e ∷ []

  -- one that waited
  longer : check_of before name ≡ Some c → IsCheckOf now name c
  longer is =
      let old : IsCheckOf before name c = h name c is in
      record {
        entry = old.entry;
        here = get_longer before (e ∷ []) name old.entry old.here;
        to = old.to;
        asks = old.asks;
        admitted = subst (λ l. c.keys ≡ keys_admitted l c.node c.channel old.entry.event.at (offered l c.node c.channel old.to)) (sym (take_longer before (e ∷ []) name old.entry old.here)) old.admitted;
      }

  -- the one of this entry
  here_now : (n d : ℕ) (to : Recipients) (keys : List Key) → ev.act ≡ act.Check d n to → keys ≡ keys_admitted before n d ev.at (offered before n d to) → name ≡ length before
      → Some (record { node = n; channel = d; keys = keys }) ≡ Some c → IsCheckOf now name c
  unfolding effect
  here_now n d to keys is admitted at same =
      subst (λ k. IsCheckOf now k c) (sym at)
      (subst (IsCheckOf now (length before)) (value (record { node = n; channel = d; keys = keys }) same) (record {
        entry = e;
        here = slice_get-seam before e [];
        to = to;
        asks = is;
        admitted = subst (λ l. keys ≡ keys_admitted l n d ev.at (offered l n d to)) (sym (take_whole before (e ∷ []))) admitted;
      }))
    where
      value : (a : Check) → Some a ≡ Some c → a ≡ c
      value a k = cc

  module _ (d m : ℕ) (to : Recipients) (is : ev.act ≡ act.Check d m to) where
    made : (keys : List Key) → (check_row configs before d m to ev.at).reply ≡ reply.Checked keys → (b : Bool) → (name == length before) ≡ b
        → cond b (Some (record { node = m; channel = d; keys = keys })) (check_of before name) ≡ Some c → IsCheckOf now name c
    made keys says true at same =
        here_now m d to keys is
        (check_admits (capacity_in (channels configs before m) d) (takes_list before m d to) (offered before m d to) (keys_admitted before m d ev.at (offered before m d to)) keys
        (retry_moment before m d ev.at (offered before m d to)) says)
        (eqb-true name (length before) at) same
    made keys says false at same = longer same

    reply_is : e.reply ≡ (check_row configs before d m to ev.at).reply
    unfolding effect row
    reply_is = ap (λ a. (row configs before ev.at ev.seed a).reply) is

    acts : e.event.act ≡ act.Check d m to
    unfolding effect
    acts = is

    begun : (r : Reply) → (check_row configs before d m to ev.at).reply ≡ r → check_of now name ≡ Some c → IsCheckOf now name c
    begun (reply.Checked keys) says k = made keys says (name == length before) refl (sym (check_of-made before e name d m to acts keys (reply_is ∙ says)) ∙ k)
    begun _ says k = longer (sym (check_of-unmade before e name d m to acts (ap (check_tells m (length before) d) (reply_is ∙ says))) ∙ k)

  more_admitted : check_of now name ≡ Some c → IsCheckOf now name c
  unfolding effect
  more_admitted k = by ev.act refl
    where
      by_name : (b : Bool) → cond b None (check_of before name) ≡ Some c → IsCheckOf now name c
      by_name true none = absurd (cc)
      by_name false some = longer some

      by : (a : Act) → ev.act ≡ a → IsCheckOf now name c
      by (act.Check d m to) is = begun d m to is (check_row configs before d m to ev.at).reply refl k
      by (act.SendChecked bytes check priority) is = by_name (name == check) (sym (check_of-spent before e name bytes check priority is) ∙ k)
      by a is = longer (sym (check_of-apart before e name (ap (λ b. are_apart (kinds_of b) check_kinds) is)) ∙ k)

none_first : ChecksAreAdmitted []
none_first name c h = let never : None ≡ Some c = sym (check_of-none name) ∙ h in absurd (cc)

pub checks_are_admitted : (configs : List Config) (script : List Event) (log : List Entry) → IsLawful configs script log → ChecksAreAdmitted log
checks_are_admitted configs script log lawful =
    at_end configs ChecksAreAdmitted none_first (λ before ev h name c k. more_admitted configs before ev h name c k) script log lawful

-- ---- and waits for one message

long_taken : {X : Type 0} (xs : List X) (n : ℕ) (x : X) → slice_get xs n ≡ Some x → length (take n xs) ≡ n
long_taken [] n x h = absurd (cc)
long_taken (y ∷ xs) zero x h = refl
long_taken (y ∷ xs) (suc n) x h = ap suc (long_taken xs n x h)

module _ (log : List Entry) (check : ℕ) where
  abbrev IsSpent : ℕ → Type 0
  IsSpent m = check_of (take m log) check ≡ None

  -- an entry after the check's own leaves it so
  spent_stays : (before : List Entry) (e : Entry) → (check == length before) ≡ false → check_of before check ≡ None → check_of (before ++ e ∷ []) check ≡ None
  spent_stays before e late none = by e.event.act refl
    where
      either : (b : Bool) (o : Option Check) → o ≡ None → cond b None o ≡ None
      either true o h = refl
      either false o h = h

      by_reply : (d m : ℕ) (to : Recipients) → e.event.act ≡ act.Check d m to → (r : Reply) → e.reply ≡ r → check_of (before ++ e ∷ []) check ≡ None
      by_reply d m to is (reply.Checked keys) says =
          check_of-made before e check d m to is keys says ∙ (ap (λ b. cond b (Some (record { node = m; channel = d; keys = keys })) (check_of before check)) late ∙ none)
      by_reply d m to is _ says = check_of-unmade before e check d m to is (ap (check_tells m (length before) d) says) ∙ none

      by : (a : Act) → e.event.act ≡ a → check_of (before ++ e ∷ []) check ≡ None
      by (act.Check d m to) is = by_reply d m to is e.reply refl
      by (act.SendChecked bytes other priority) is = check_of-spent before e check bytes other priority is ∙ either (check == other) (check_of before check) none
      by a is = check_of-apart before e check (ap (λ b. are_apart (kinds_of b) check_kinds) is) ∙ none

  later : (m : ℕ) → check < m → IsSpent m → IsSpent (suc m)
  later m lt h = by (slice_get log m) refl
    where
      by : (o : Option Entry) → slice_get log m ≡ o → IsSpent (suc m)
      by None is = ap (λ l. check_of l check) (take_no_more log m is) ∙ h
      by (Some e) is =
          let long : length (take m log) ≡ m = long_taken log m e is in
          ap (λ l. check_of l check) (take_next log m e is) ∙ spent_stays (take m log) e (ap (λ k. check == k) long ∙ grind (arith, nat_tests)) h

  much_later : (m more : ℕ) → check < m → IsSpent m → IsSpent (more + m)
  much_later m zero lt h = let same : m ≡ 0 + m = omega arith in subst IsSpent same h
  much_later m (suc more) lt h = let same : suc (more + m) ≡ suc more + m = omega arith in subst IsSpent same (later (more + m) (omega arith) (much_later m more lt h))

  -- a message spends it
  pub spent_by : (j : ℕ) (d : Entry) (said : List ℕ) (priority : Bool) → slice_get log j ≡ Some d → d.event.act ≡ act.SendChecked said check priority → IsSpent (suc j)
  spent_by j d said priority here is =
      ap (λ l. check_of l check) (take_next log j d here)
      ∙ (check_of-spent (take j log) d check said check priority is ∙ ap (λ b. cond b None (check_of (take j log) check)) (eq-eqb check check refl))

pub checks_are_spent_once : (configs : List Config) (script : List Event) (log : List Entry) → IsLawful configs script log → ChecksAreSpentOnce log
checks_are_spent_once configs script log lawful j k check d later_entry said more one other before lt at_j is_j at_k is_k =
    elim (each_checked configs script log lawful k check later_entry more other at_k is_k) [
      | inl some ↦ absurd (no_more some.0 some.1)
      | inr none ↦ none.0
    ]
  where
    gone : check_of (take k log) check ≡ None
    gone =
        subst (λ m. check_of (take m log) check ≡ None) (sum j k lt) (much_later log check (suc j) (rest j k) (omega arith) (spent_by log check j d said one at_j is_j))
      where
        rest : (j k : ℕ) → ℕ
        rest j k = k - suc j

        sum : (j k : ℕ) → j < k → (k - suc j) + suc j ≡ k
        sum j k lt = omega arith

    no_more : (c : Check) → check_of (take k log) check ≡ Some c → ⊥
    no_more c is = let never : None ≡ Some c = sym gone ∙ is in cc
