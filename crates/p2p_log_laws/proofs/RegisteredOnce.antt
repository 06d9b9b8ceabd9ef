-- In a valid script no channel is registered twice at a node, and none once that has started.
use Rattle.std.proofs.Common.{◌≡◌, ℕ, ◌+◌, ◌≤◌, Bool, true, false, cond, List, [], ◌∷◌, ◌++◌, length, map, take, drop, Option, Some, None, refl, ap, sym, subst, ◌∙◌, arith, append_assoc, append-nil, take-append-drop, eqb-true}
use Rattle.std.specs.Prelude.{◌==◌, ◌&&◌, ◌||◌, not, flat_map, count_by, is_some, nat_le, nat_lt, slice_get}
use Rattle.std.proofs.lemmas.List.{map-append}
use Rattle.std.specs.List.{list_any}
use Rattle.std.specs.Map.{lookup}
use Rattle.std.proofs.lemmas.Bool.{and_parts, false≢true}
use Rattle.std.proofs.lemmas.Grind.{flat_map-append}
use Rattle.std.proofs.lemmas.List.Sums.{sum_by-append, sum_by-cons}
use Rattle.p2p_log.specs.declared.config.Config.{Config}
use Rattle.p2p_log.specs.declared.entry.Entry.{Entry}
use Rattle.p2p_log.specs.declared.event.Act.{Act}
use Rattle.p2p_log.specs.declared.event.Act.TheVariants as act
use Rattle.p2p_log.specs.declared.event.Event.{Event}
use Rattle.p2p_log_rules.specs.Facts.{events_of, capacity_for, with_capacity, registers_at, registered, capacity_in, has_started, starts, sum_capacities, latest_moment}
use Rattle.p2p_log_rules.specs.Effect.{mailbox_size_at}
use Rattle.p2p_log_rules.specs.Valid.{fits_usize, is_quota, may_register, may_act, is_valid_event, event_fault_from}
use Rattle.p2p_log_laws.specs.Subscribing.{registered_by, registrations, EachRegistersOnce, EachStartSettles}

count_none : {X Y : Type 0} (p : X → Bool) (es : List (X × Y)) → is_some (lookup p es) ≡ false → count_by p (map (λ e. e.0) es) ≡ 0
count_none p [] h = refl
count_none p (e ∷ es) h = by (p e.0) refl h (λ g. count_none p es g)
  where
    all : (a b c : ℕ) → a ≡ b + c → b ≡ 0 → c ≡ 0 → a ≡ 0
    all a b c sum x y = omega (arith, sum, x, y)

    by : (b : Bool) → p e.0 ≡ b → is_some (cond b (Some e.1) (lookup p es)) ≡ false → (is_some (lookup p es) ≡ false → count_by p (map (λ d. d.0) es) ≡ 0)
        → count_by p (map (λ d. d.0) (e ∷ es)) ≡ 0
    by true is g later = absurd (false≢true (sym g))
    by false is g later =
        all (count_by p (map (λ d. d.0) (e ∷ es))) (cond (p e.0) 1 0) (count_by p (map (λ d. d.0) es)) (sum_by-cons (λ x. cond (p x) 1 0) e.0 (map (λ d. d.0) es)) (ap (λ b. cond b 1 0) is) (later g)

from_not : (b : Bool) → not b ≡ true → b ≡ false
from_not false h = refl
from_not true h = absurd (false≢true h)

module _ (configs : List Config) (n : ℕ) where
  -- the channels that events register
  abbrev asked : List Event → List ℕ
  asked events = flat_map (λ v. registered_by n v.act) events

  same_one : (a : Act) → map (λ c. c.0) (registers_at configs n a) ≡ registered_by n a
  same_one (act.Register c m rate) = by (m == n)
    where
      by : (b : Bool) → map (λ (x : ℕ × ℕ). x.0) (map (with_capacity configs n) (cond b ((c, rate) ∷ []) [])) ≡ cond b (c ∷ []) []
      by true = refl
      by false = refl
  same_one _ = refl

  same_all : (events : List Event) → map (λ c. c.0) (registered configs events n) ≡ asked events
  unfolding registered
  same_all [] = refl
  same_all (v ∷ vs) =
      map-append (λ (x : ℕ × ℕ). x.0) (registers_at configs n v.act) (registered configs vs n)
      ∙ (ap (λ l. l ++ map (λ c. c.0) (registered configs vs n)) (same_one v.act) ∙ ap (λ l. registered_by n v.act ++ l) (same_all vs))

  times_more : (c : ℕ) (before more : List Event) → count_by (λ d. c == d) (asked (before ++ more)) ≡ count_by (λ d. c == d) (asked before) + count_by (λ d. c == d) (asked more)
  times_more c before more =
      ap (λ l. count_by (λ d. c == d) l) (flat_map-append (λ (v : Event). registered_by n v.act) before more) ∙ sum_by-append (λ d. cond (c == d) 1 0) (asked before) (asked more)

  abbrev Once : List Event → Type 0
  Once events = (c : ℕ) → count_by (λ d. c == d) (asked events) ≤ 1

  -- a channel that is registered was not
  unregistered : (events : List Event) (c : ℕ) → is_some (capacity_in (registered configs events n) c) ≡ false → count_by (λ d. c == d) (asked events) ≡ 0
  unregistered events c h = sym (ap (λ l. count_by (λ d. c == d) l) (same_all events)) ∙ count_none (λ k. c == k) (registered configs events n) h

  one_more : (before : List Event) (c : ℕ) (a : Act) → may_act configs before a ≡ true → count_by (λ d. c == d) (asked before) ≤ 1
      → count_by (λ d. c == d) (asked before) + count_by (λ d. c == d) (registered_by n a) ≤ 1
  one_more before c (act.Register d m rate) may old = by (m == n) refl
    where
      new : m ≡ n → count_by (λ k. d == k) (asked before) ≡ 0
      new same =
          let registers = and_parts (nat_lt m (length configs)) (may_register configs before d m rate) may in
          let fresh =
          and_parts ((not (has_started before m) && not (is_some (capacity_in (registered configs before m) d))) && is_quota rate)
          (fits_usize (capacity_for (slice_get configs m) rate) && fits_usize (mailbox_size_at configs m + (sum_capacities (registered configs before m) + capacity_for (slice_get configs m) rate)))
          registers.1
          in
          let started = and_parts (not (has_started before m) && not (is_some (capacity_in (registered configs before m) d))) (is_quota rate) fresh.0 in
          let none = and_parts (not (has_started before m)) (not (is_some (capacity_in (registered configs before m) d))) started.0 in
          unregistered before d (subst (λ (k : ℕ). is_some (capacity_in (registered configs before k) d) ≡ false) same (from_not (is_some (capacity_in (registered configs before m) d)) none.1))

      within : (a : ℕ) → a ≤ 1 → a + 0 ≤ 1
      within a h = omega (arith, h)

      alone : (b : Bool) → (c == d) ≡ b → m ≡ n → count_by (λ k. c == k) (asked before) + (0 + cond b 1 0) ≤ 1
      alone false other same = within (count_by (λ k. c == k) (asked before)) old
      alone true is same =
          let same_channel : c ≡ d = eqb-true c d is in
          let none : count_by (λ k. c == k) (asked before) ≡ 0 = subst (λ (x : ℕ). count_by (λ k. x == k) (asked before) ≡ 0) (sym same_channel) (new same) in
          (let k : count_by (λ k. c == k) (asked before) ≡ 0 = none in omega (arith, k))

      by : (b : Bool) → (m == n) ≡ b → count_by (λ k. c == k) (asked before) + count_by (λ k. c == k) (cond b (d ∷ []) []) ≤ 1
      by true is = alone (c == d) refl (eqb-true m n is)
      by false is = within (count_by (λ k. c == k) (asked before)) old
  one_more before c _ may old = within (count_by (λ d. c == d) (asked before)) old
    where
      within : (a : ℕ) → a ≤ 1 → a + 0 ≤ 1
      within a h = omega (arith, h)

  valid_parts : (before : List Event) (v : Event) → is_valid_event configs before v ≡ true → may_act configs before v.act ≡ true
  unfolding is_valid_event
  valid_parts before v h = (and_parts (nat_le (latest_moment before) v.at) (may_act configs before v.act) h).1

  once_more : (before : List Event) (v : Event) → Once before → is_valid_event configs before v ≡ true → Once (before ++ v ∷ [])
  once_more before v once valid c =
      subst (λ k. k ≤ 1) (sym (times_more c before (v ∷ [])))
      (subst (λ l. count_by (λ d. c == d) (asked before) + count_by (λ d. c == d) l ≤ 1) (sym (append-nil (registered_by n v.act)))
      (one_more before c v.act (valid_parts before v valid) (once c)))

  once_all : (before rest : List Event) → Once before → event_fault_from configs before rest ≡ None → Once (before ++ rest)
  unfolding event_fault_from
  once_all before [] once none = subst Once (sym (append-nil before)) once
  once_all before (v ∷ vs) once none = by (is_valid_event configs before v) refl none (λ more left. once_all (before ++ v ∷ []) vs more left)
    where
      by : (b : Bool) → is_valid_event configs before v ≡ b → cond b (event_fault_from configs (before ++ v ∷ []) vs) (Some (length before)) ≡ None
          → (Once (before ++ v ∷ []) → event_fault_from configs (before ++ v ∷ []) vs ≡ None → Once ((before ++ v ∷ []) ++ vs)) → Once (before ++ v ∷ vs)
      by true valid left later = subst Once (append_assoc before (v ∷ []) vs) (later (once_more before v once valid) left)
      by false valid left later = absurd (let clash : ◌≡◌ {A = Option ℕ} (Some (length before)) None = left in cc)

  same_registrations : (log : List Entry) → asked (events_of log) ≡ registrations n log
  same_registrations [] = refl
  same_registrations (e ∷ es) = ap (λ l. registered_by n e.event.act ++ l) (same_registrations es)

  fewer : (c : ℕ) (before more : List Entry) → count_by (λ d. c == d) (registrations n (before ++ more)) ≤ 1 → count_by (λ d. c == d) (registrations n before) ≤ 1
  fewer c before more h =
      less (count_by (λ d. c == d) (registrations n before)) (count_by (λ d. c == d) (registrations n more)) (count_by (λ d. c == d) (registrations n (before ++ more)))
      (ap (λ l. count_by (λ d. c == d) l) (flat_map-append (λ (e : Entry). registered_by n e.event.act) before more)
      ∙ sum_by-append (λ d. cond (c == d) 1 0) (registrations n before) (registrations n more)) h
    where
      less : (a b all : ℕ) → all ≡ a + b → all ≤ 1 → a ≤ 1
      less a b all sum le = omega (arith, sum, le)

-- ---- and none once it has started

module _ (configs : List Config) (n : ℕ) where
  started_more : (before more : List Event) → has_started before n ≡ true → has_started (before ++ more) n ≡ true
  unfolding has_started
  started_more [] more h = absurd (false≢true h)
  started_more (v ∷ vs) more h = by (starts n v.act) h (started_more vs more)
    where
      by : (b : Bool) → (b || list_any (λ w. starts n w.act) vs) ≡ true
          → (list_any (λ w. starts n w.act) vs ≡ true → list_any (λ w. starts n w.act) (vs ++ more) ≡ true) → (b || list_any (λ w. starts n w.act) (vs ++ more)) ≡ true
      by true h later = refl
      by false h later = later h

  none_by : (before : List Event) (a : Act) → has_started before n ≡ true → may_act configs before a ≡ true → registered_by n a ≡ []
  none_by before (act.Register d m rate) started may = by (m == n) refl
    where
      unstarted : not (has_started before m) ≡ true
      unstarted =
          let registers = and_parts (nat_lt m (length configs)) (may_register configs before d m rate) may in
          let fresh =
          and_parts ((not (has_started before m) && not (is_some (capacity_in (registered configs before m) d))) && is_quota rate)
          (fits_usize (capacity_for (slice_get configs m) rate) && fits_usize (mailbox_size_at configs m + (sum_capacities (registered configs before m) + capacity_for (slice_get configs m) rate)))
          registers.1
          in
          let asks = and_parts (not (has_started before m) && not (is_some (capacity_in (registered configs before m) d))) (is_quota rate) fresh.0 in
          (and_parts (not (has_started before m)) (not (is_some (capacity_in (registered configs before m) d))) asks.0).0

      by : (b : Bool) → (m == n) ≡ b → cond b (d ∷ []) [] ≡ []
      by false other = refl
      by true same = absurd (false≢true (ap not (sym (ap (has_started before) (eqb-true m n same) ∙ started)) ∙ unstarted))
  none_by before _ started may = refl

  none_asked : (before rest : List Event) → has_started before n ≡ true → event_fault_from configs before rest ≡ None → asked configs n rest ≡ []
  unfolding event_fault_from
  none_asked before [] started none = refl
  none_asked before (v ∷ vs) started none = by (is_valid_event configs before v) refl none (none_asked (before ++ v ∷ []) vs (started_more before (v ∷ []) started))
    where
      by : (b : Bool) → is_valid_event configs before v ≡ b → cond b (event_fault_from configs (before ++ v ∷ []) vs) (Some (length before)) ≡ None
          → (event_fault_from configs (before ++ v ∷ []) vs ≡ None → asked configs n vs ≡ []) → registered_by n v.act ++ asked configs n vs ≡ []
      by true valid left later = ap (λ l. l ++ asked configs n vs) (none_by before v.act started (valid_parts configs n before v valid)) ∙ later left
      by false valid left later = absurd (let clash : ◌≡◌ {A = Option ℕ} (Some (length before)) None = left in cc)

  -- the later events of valid ones are valid after the earlier ones
  fault_later : (before xs ys : List Event) → event_fault_from configs before (xs ++ ys) ≡ None → event_fault_from configs (before ++ xs) ys ≡ None
  unfolding event_fault_from
  fault_later before [] ys none = subst (λ l. event_fault_from configs l ys ≡ None) (sym (append-nil before)) none
  fault_later before (v ∷ vs) ys none = by (is_valid_event configs before v) none (fault_later (before ++ v ∷ []) vs ys)
    where
      by : (b : Bool) → cond b (event_fault_from configs (before ++ v ∷ []) (vs ++ ys)) (Some (length before)) ≡ None
          → (event_fault_from configs (before ++ v ∷ []) (vs ++ ys) ≡ None → event_fault_from configs ((before ++ v ∷ []) ++ vs) ys ≡ None)
          → event_fault_from configs (before ++ v ∷ vs) ys ≡ None
      by true left later = subst (λ l. event_fault_from configs l ys ≡ None) (append_assoc before (v ∷ []) vs) (later left)
      by false left later = absurd (let clash : ◌≡◌ {A = Option ℕ} (Some (length before)) None = left in cc)

  settled : (before more : List Entry) → event_fault_from configs [] (events_of (before ++ more)) ≡ None → has_started (events_of before) n ≡ true
      → registrations n (before ++ more) ≡ registrations n before
  settled before more none started =
      flat_map-append (λ (e : Entry). registered_by n e.event.act) before more
      ∙ (ap (λ l. registrations n before ++ l)
      (sym (same_registrations configs n more)
      ∙ none_asked (events_of before) (events_of more) started
      (fault_later [] (events_of before) (events_of more) (ap (event_fault_from configs []) (sym (map-append (λ (e : Entry). e.event) before more)) ∙ none)))
      ∙ append-nil (registrations n before))

pub each_start_settles : (configs : List Config) (log : List Entry) → EachStartSettles configs log
each_start_settles configs log none k n started =
    ap (registrations n) (sym (take-append-drop k log))
    ∙ settled configs n (take k log) (drop k log) (ap (λ l. event_fault_from configs [] (events_of l)) (take-append-drop k log) ∙ none) started

pub each_registers_once : (configs : List Config) (log : List Entry) → EachRegistersOnce configs log
each_registers_once configs log none k n c =
    fewer configs n c (take k log) (drop k log)
    (subst (λ (l : List Entry). count_by (λ d. c == d) (registrations n l) ≤ 1) (sym (take-append-drop k log))
    (subst (λ l. count_by (λ d. c == d) l ≤ 1) (same_registrations configs n log) (once_all configs n [] (events_of log) (λ d. omega arith) none c)))
