-- How many attempts of a node's dialer hold a key after one more entry.
use Rattle.std.proofs.Common.{◌≡◌, ℕ, ◌+◌, Bool, true, false, cond, List, [], ◌∷◌, ◌++◌, length, Option, Some, None, refl, ap, sym, ◌∙◌, arith, eqb-true}
use Rattle.std.specs.Prelude.{◌==◌, ◌||◌}
use Rattle.std.specs.List.{list_any}
use Rattle.p2p_base.specs.declared.key.Key.{Key}
use Rattle.p2p_log.specs.declared.config.Config.{Config}
use Rattle.p2p_log.specs.declared.item.Item.{Item}
use Rattle.p2p_log.specs.declared.item.Item.TheVariants as item
use Rattle.p2p_log.specs.declared.entry.Entry.{Entry}
use Rattle.p2p_log_rules.specs.Attempting.{Attempt, DialRules, attempts_of}
use Rattle.p2p_log_rules.specs.Tellings.{Telling}
use Rattle.p2p_log_rules.specs.Tellings as telling
use Rattle.p2p_log_rules.specs.Told.{ends, took_tells, tells, told}
use Rattle.p2p_log_rules.proofs.Attempts.{is_begun, key_of, attempt_told, key_told, attempts_by, attempts_of-append}
use Rattle.p2p_log_rules.proofs.AttemptTellings.{attempts_of-late}
use Rattle.p2p_log_rules.proofs.TellingKinds as kind
use Rattle.p2p_log_rules.proofs.Families.{telling_kind, kinds_of, has, are_apart, untold_of}
use Rattle.p2p_log_rules.proofs.Tellings.{or_left, or_right}
use Rattle.p2p_log_laws.specs.Grants.{one}
use Rattle.p2p_log_laws.specs.NodeGrants.{count_below, is_attempt_of}
use Rattle.p2p_log_laws.proofs.CountBelow.{count_kept, count_begun, count_changed}
use Rattle.p2p_log_laws.proofs.StandingAttempts.{Attempts, stands_before, longer}

module _ (rules : DialRules) (n k : ℕ) (key : Key) where
  -- it holds the key by its own key
  abbrev is_key : Option Key → Bool
  is_key o = elim o [ None ↦ false | Some x ↦ x.0 == key.0 ]

  by_key : (o : Option Attempt) → is_attempt_of key o ≡ is_key (key_of o)
  by_key None = refl
  by_key (Some a) = refl

  -- what is told of it: the same unless it ends, where none begins
  pub told_holds : (us : List Telling) (o : Option Attempt) → list_any (is_begun n k) us ≡ false → is_attempt_of key (attempt_told rules n k us o) ≡ cond (list_any (ends n k) us) false (is_attempt_of key o)
  told_holds us o none = by_key (attempt_told rules n k us o) ∙ (ap is_key (key_told rules n k us o none) ∙ by (list_any (ends n k) us))
    where
      by : (b : Bool) → is_key (cond b None (key_of o)) ≡ cond b false (is_attempt_of key o)
      by true = refl
      by false = sym (by_key o)

  -- what it took: the same
  pub took_holds : (at seed : ℕ) (items : List Item) (a : Attempt) → is_attempt_of key (attempt_told rules n k (took_tells n k at seed items) (Some a)) ≡ is_attempt_of key (Some a)
  took_holds at seed (item.Resolved addresses ∷ items) a = refl
  took_holds at seed (item.Linked ∷ items) a = refl
  took_holds at seed _ a = refl

  -- the kinds that begin or end one
  abbrev bounds : Telling → Bool
  bounds t = is_begun n k t || ends n k t

  bound_kinds : (t : Telling) → has (kind.attempt_begun ∷ kind.attempt_ended ∷ []) (telling_kind t) ≡ false → bounds t ≡ false
  bound_kinds (telling.attempt_begun m j x ingress at) h = cc
  bound_kinds (telling.attempt_ended m j) h = cc
  bound_kinds _ h = refl

  parts : (us : List Telling) → list_any bounds us ≡ false → (list_any (is_begun n k) us ≡ false) × (list_any (ends n k) us ≡ false)
  parts [] none = (refl, refl)
  parts (t ∷ ts) none =
      let here : bounds t ≡ false = or_left (bounds t) (list_any bounds ts) none in
      let later = parts ts (or_right (bounds t) (list_any bounds ts) none) in (
        ap (λ b. b || list_any (is_begun n k) ts) (or_left (is_begun n k t) (ends n k t) here) ∙ later.0,
        ap (λ b. b || list_any (ends n k) ts) (or_right (is_begun n k t) (ends n k t) here) ∙ later.1,
      )

  -- an act that tells of neither
  pub bounded_holds : (log : List Entry) (e : Entry) (o : Option Attempt) → are_apart (kinds_of e.event.act) (kind.attempt_begun ∷ kind.attempt_ended ∷ []) ≡ true → is_attempt_of key (attempt_told rules n k (tells (told log) log e) o) ≡ is_attempt_of key o
  bounded_holds log e o apart =
      let us : List Telling = tells (told log) log e in
      let none = parts us (untold_of bounds (kind.attempt_begun ∷ kind.attempt_ended ∷ []) bound_kinds (told log) log e apart) in
      told_holds us o none.0 ∙ ap (λ b. cond b false (is_attempt_of key o)) none.1

module _ (configs : List Config) (n : ℕ) (key : Key) where
  abbrev pub held_by_attempts : List Entry → ℕ
  held_by_attempts log = count_below (length log) (λ k. is_attempt_of key (attempts_of configs log n k))

module _ (configs : List Config) (n : ℕ) (key : Key) (log : List Entry) (e : Entry) where
  abbrev f : Attempts
  f = attempts_of configs log n

  abbrev p : ℕ → Bool
  p k = is_attempt_of key (attempts_of configs log n k)

  abbrev q : ℕ → Bool
  q k = is_attempt_of key (attempts_of configs (log ++ e ∷ []) n k)

  none : f (length log) ≡ None
  none = attempts_of-late configs log n (length log) (omega arith)

  -- each attempt holds the key as before
  pub holds_kept : ((k : ℕ) → is_attempt_of key (attempts_by configs n log e f k) ≡ is_attempt_of key (f k))
      → held_by_attempts configs n key (log ++ e ∷ []) ≡ held_by_attempts configs n key log
  holds_kept h =
      count_kept (length log) (length (log ++ e ∷ [])) (longer log e) p q (ap (is_attempt_of key) none)
      (λ k. ap (is_attempt_of key) (attempts_of-append configs log e n k) ∙ h k)

  -- another at one name, and as before at the others
  at_one : (i : ℕ) → ((k : ℕ) → (k == i) ≡ false → attempts_of configs (log ++ e ∷ []) n k ≡ f k) → (k : ℕ) → q k ≡ cond (k == i) (q i) (p k)
  at_one i others k = by (k == i) refl
    where
      by : (b : Bool) → (k == i) ≡ b → q k ≡ cond b (q i) (p k)
      by true same = ap q (eqb-true k i same)
      by false other = ap (is_attempt_of key) (others k other)

  -- one begins, or none
  pub holds_begun : ((k : ℕ) → (k == length log) ≡ false → attempts_of configs (log ++ e ∷ []) n k ≡ f k)
      → held_by_attempts configs n key (log ++ e ∷ []) ≡ held_by_attempts configs n key log + one (is_attempt_of key (attempts_of configs (log ++ e ∷ []) n (length log)))
  holds_begun others = count_begun (length log) (length (log ++ e ∷ [])) (longer log e) p q (ap (is_attempt_of key) none) (q (length log)) (at_one (length log) others)

  -- one goes on or ends
  pub holds_changed : (i : ℕ) (a : Attempt) → f i ≡ Some a → ((k : ℕ) → (k == i) ≡ false → attempts_of configs (log ++ e ∷ []) n k ≡ f k)
      → held_by_attempts configs n key (log ++ e ∷ []) + one (a.key.0 == key.0) ≡ held_by_attempts configs n key log + one (is_attempt_of key (attempts_of configs (log ++ e ∷ []) n i))
  holds_changed i a stands others =
      ap (λ b. held_by_attempts configs n key (log ++ e ∷ []) + one b) (sym (ap (is_attempt_of key) stands))
      ∙ count_changed (length log) (length (log ++ e ∷ [])) (longer log e) p q (ap (is_attempt_of key) none) i (q i) (stands_before configs n log i a stands) (at_one i others)
