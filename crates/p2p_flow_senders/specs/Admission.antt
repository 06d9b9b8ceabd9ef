-- The check of a list of keys: each entry is tested by the law of the quota, in order, each after the ones before it.
use Rattle.std.specs.Prelude.{◌≡◌, ℕ, max, true, cond, List, [], ◌∷◌, Result, Ok, Err}
use Rattle.std.specs.declared.cmp.Ordering.{Ordering}
use Rattle.p2p_runtime.specs.QuotaLaw.{Rate, admits, retry}
use Rattle.p2p_runtime.specs.QuotaKeys.{KeptByKey, is_known, with_admission}

-- the later of a moment and the one that a refused check tells
abbrev pub later : ℕ → Result (Unit {0}) ℕ → ℕ
later at (Ok passed) = at
later at (Err from) = max at from

module _ {K : Type 0} where
  -- what is answered of the entries `keys`, of which some were admitted, and the others pass at the latest at the moment `at`: an
  -- empty list passes, and a list of which every entry is refused doesn't
  abbrev pub answer_of : List K → List K → ℕ → Result (List K) ℕ
  answer_of [] admitted at = Ok admitted
  answer_of (key ∷ keys) [] at = Err at
  answer_of (key ∷ keys) (first ∷ admitted) at = Ok (first ∷ admitted)

  -- the latest moment handed in, after the checks of the entries at the moment `now`
  abbrev pub moment_after : List K → ℕ → ℕ → ℕ
  moment_after [] latest now = latest
  moment_after (key ∷ keys) latest now = max latest now

  module _ (cmp : K → K → Ordering) (rate : Rate) where
    -- the admissions of each key after an entry was tested: a refused one takes no cell
    abbrev pub past_with : (K → List ℕ) → K → ℕ → K → List ℕ
    past_with past key at = cond (admits rate (past key) at) (with_admission cmp past key at) past

  module _ (cmp : K → K → Ordering) (rate : Rate) where
    -- the entries that are admitted at the moment `at`, in order; `past` are the admissions of each key before
    unfoldable pub admitted : (K → List ℕ) → ℕ → List K → List K
    admitted past at [] = []
    admitted past at (key ∷ keys) =
        cond (admits rate (past key) at) (key ∷ admitted (past_with cmp rate past key at) at keys)
        (admitted (past_with cmp rate past key at) at keys)

    -- the latest moment from which one of the refused entries passes
    unfoldable pub latest_retry : (K → List ℕ) → ℕ → List K → ℕ
    latest_retry past at [] = 0
    latest_retry past at (key ∷ keys) =
        cond (admits rate (past key) at) (latest_retry (past_with cmp rate past key at) at keys)
        (max (retry rate (past key)) (latest_retry (past_with cmp rate past key at) at keys))

    -- the admissions of each key after the entries were tested
    unfoldable pub past_after : (K → List ℕ) → ℕ → List K → K → List ℕ
    past_after past at [] = past
    past_after past at (key ∷ keys) = past_after (past_with cmp rate past key at) at keys

  module _ (cmp : K → K → Ordering) (rate : Rate) where
    -- what the check of a list answers: the entries that are admitted, or the latest moment from which one passes
    abbrev pub check_by_law : (K → List ℕ) → ℕ → List K → Result (List K) ℕ
    check_by_law past at keys = answer_of keys (admitted cmp rate past at keys) (latest_retry cmp rate past at keys)

  -- something is kept for each of the keys
  abbrev pub AllKnown : (K → K → Ordering) → KeptByKey K → List K → Type 0
  AllKnown cmp kept [] = Unit {0}
  AllKnown cmp kept (key ∷ keys) = (is_known cmp kept key ≡ true) × AllKnown cmp kept keys
