-- The check of a list of keys, under way.
use Rattle.std.proofs.Common.{◌≡◌, ℕ, ◌+◌, ◌<◌, ◌≤◌, Bool, true, false, cond, max, List, [], ◌∷◌, ◌++◌, length, get_or, drop, Result, Ok, Err, is_ok, refl, sym, ap, subst, ◌∙◌, append_assoc, append-nil, arith}
use Rattle.std.specs.Prelude.{IfErr, OnOk, OnErr}
use Rattle.std.proofs.lemmas.List.{drop_more, drop_all}
use Rattle.std.specs.declared.cmp.Ordering.{Ordering}
use Rattle.p2p_runtime.specs.QuotaLaw.{Rate, admits, retry}
use Rattle.p2p_runtime.specs.QuotaKeys.{KeptByKey, StandsForEach, with_admission}
use Rattle.p2p_flow_senders.specs.Admission.{answer_of, later, moment_after, past_with, admitted, latest_retry, past_after, check_by_law}

-- what holds, holds where a call failed
pub on_err : {S E : Type 0} {X : Type 0} (r : Result S E) → X → OnErr r X
on_err (Ok s) x = tt
on_err (Err e) x = x

-- a moment that was handed in stays the latest
still : {K : Type 0} (left : List K) (at now : ℕ) → max at now ≡ at → moment_after left at now ≡ at
still [] at now e = refl
still (key ∷ left) at now e = e

module _ {K : Type 0} (cmp : K → K → Ordering) where
  -- what the check of all entries comes to, read off the entries that are left
  pub record IsUnderWay (kept : KeptByKey K) (rate : Rate) (done : List K) (retried : ℕ) (left : List K) (now : ℕ)
      (all : List K) (past : K → List ℕ) (latest : ℕ) : Type 0 where
    pub so_far : K → List ℕ
    pub moment : ℕ
    pub counts : max moment now ≡ max latest now
    pub rates : kept.rate ≡ rate
    pub stands : StandsForEach cmp kept so_far moment
    pub admits : done ++ admitted cmp rate so_far (max latest now) left ≡ admitted cmp rate past (max latest now) all
    pub retries : max retried (latest_retry cmp rate so_far (max latest now) left) ≡ latest_retry cmp rate past (max latest now) all
    pub pasts : past_after cmp rate so_far (max latest now) left ≡ past_after cmp rate past (max latest now) all
    pub last : moment_after left moment now ≡ moment_after all latest now

  pub begins : (kept : KeptByKey K) (rate : Rate) (now : ℕ) (all : List K) (past : K → List ℕ) (latest : ℕ) → kept.rate ≡ rate → StandsForEach cmp kept past latest
      → IsUnderWay kept rate [] 0 all now all past latest
  begins kept rate now all past latest rates stands = record {
    so_far = past;
    moment = latest;
    counts = refl;
    rates = rates;
    stands = stands;
    admits = refl;
    retries = omega arith;
    pasts = refl;
    last = refl;
  }

  -- what the check of one key says, at any admissions that the limiter stands for
  pub record IsChecked (kept after : KeptByKey K) (key : K) (now : ℕ) (answer : Result (Unit {0}) ℕ) (past : K → List ℕ) (latest : ℕ) : Type 0 where
    pub law : is_ok answer ≡ admits kept.rate (past key) (max latest now)
    pub retried : IfErr answer (λ from. from ≡ retry kept.rate (past key))
    pub passed : OnOk answer (StandsForEach cmp after (with_admission cmp past key (max latest now)) (max latest now))
    pub refused : OnErr answer (StandsForEach cmp after past (max latest now))

  noted-keys : (here : Bool) (done more left : List K) (key : K) → more ≡ cond here (done ++ key ∷ []) done → more ++ left ≡ done ++ cond here (key ∷ left) left
  noted-keys true done more left key e = ap (λ l. l ++ left) e ∙ append_assoc done (key ∷ []) left
  noted-keys false done more left key e = ap (λ l. l ++ left) e

  noted-retry : (answer : Result (Unit {0}) ℕ) (here : Bool) (retried from rest : ℕ) → is_ok answer ≡ here → IfErr answer (λ at. at ≡ from)
      → max (later retried answer) rest ≡ max retried (cond here rest (max from rest))
  noted-retry (Ok passed) true retried from rest e h = refl
  noted-retry (Err at) false retried from rest e h = let same : at ≡ from = h in omega arith
  noted-retry (Ok passed) false retried from rest e h = absurd (let t : true ≡ false = e in cc)
  noted-retry (Err at) true retried from rest e h = absurd (let t : false ≡ true = e in cc)

  noted-past : (answer : Result (Unit {0}) ℕ) (here : Bool) (P : (K → List ℕ) → Type 0) (with_it without : K → List ℕ) → is_ok answer ≡ here → OnOk answer (P with_it) → OnErr answer (P without)
      → P (cond here with_it without)
  noted-past (Ok passed) true P with_it without e ok err = ok
  noted-past (Err at) false P with_it without e ok err = err
  noted-past (Ok passed) false P with_it without e ok err = absurd (let t : true ≡ false = e in cc)
  noted-past (Err at) true P with_it without e ok err = absurd (let t : false ≡ true = e in cc)

  -- one entry more
  goes_on : (kept after : KeptByKey K) (rate : Rate) (done more : List K) (retried : ℕ) (key : K) (left : List K) (now : ℕ) (answer : Result (Unit {0}) ℕ) (all : List K) (past : K → List ℕ) (latest : ℕ)
      → after.rate ≡ kept.rate → ((p : K → List ℕ) (l : ℕ) → StandsForEach cmp kept p l → IsChecked kept after key now answer p l)
      → more ≡ cond (is_ok answer) (done ++ key ∷ []) done
      → IsUnderWay kept rate done retried (key ∷ left) now all past latest → IsUnderWay after rate more (later retried answer) left now all past latest
  unfolding admitted latest_retry past_after
  goes_on kept after rate done more retried key left now answer all past latest rates checked noted h =
      let at = max latest now in
      let check : IsChecked kept after key now answer h.so_far h.moment = checked h.so_far h.moment h.stands in
      let law : is_ok answer ≡ admits rate (h.so_far key) at =
      check.law ∙ (ap (λ (r : Rate). admits r (h.so_far key) (max h.moment now)) h.rates ∙ ap (λ (m : ℕ). admits rate (h.so_far key) m) h.counts) in
      let next : K → List ℕ = past_with cmp rate h.so_far key at in
      let Stands : (K → List ℕ) → Type 0 = λ p. StandsForEach cmp after p at in
      record {
        so_far = next;
        moment = at;
        counts = omega arith;
        rates = rates ∙ h.rates;
        stands =
            noted-past answer (admits rate (h.so_far key) at) Stands (with_admission cmp h.so_far key at) h.so_far law
            (subst (λ (m : ℕ). OnOk answer (StandsForEach cmp after (with_admission cmp h.so_far key m) m)) h.counts check.passed)
            (subst (λ (m : ℕ). OnErr answer (StandsForEach cmp after h.so_far m)) h.counts check.refused);
        admits = noted-keys (admits rate (h.so_far key) at) done more (admitted cmp rate next at left) key (noted ∙ ap (λ b. cond b (done ++ key ∷ []) done) law) ∙ h.admits;
        retries =
            noted-retry answer (admits rate (h.so_far key) at) retried (retry rate (h.so_far key)) (latest_retry cmp rate next at left) law
            (subst (λ (r : Rate). IfErr answer (λ from. from ≡ retry r (h.so_far key))) h.rates check.retried)
            ∙ h.retries;
        pasts = h.pasts;
        last = still left at now (omega arith) ∙ (sym h.counts ∙ h.last);
      }

  -- once every entry was tested
  pub ends : (kept : KeptByKey K) (rate : Rate) (done : List K) (retried now : ℕ) (all : List K) (past : K → List ℕ) (latest : ℕ)
      → IsUnderWay kept rate done retried [] now all past latest
      → (answer_of all done retried ≡ check_by_law cmp rate past (max latest now) all) × StandsForEach cmp kept (past_after cmp rate past (max latest now) all) (moment_after all latest now)
  unfolding admitted latest_retry past_after
  ends kept rate done retried now all past latest h = (
    ap (λ l. answer_of all l retried) (sym (append-nil done) ∙ h.admits)
        ∙ ap (λ m. answer_of all (admitted cmp rate past (max latest now) all) m) (omega (arith, h.retries)),
    subst (λ (p : K → List ℕ). StandsForEach cmp kept p (moment_after all latest now)) h.pasts
        (subst (λ (m : ℕ). StandsForEach cmp kept h.so_far m) h.last h.stands),
  )

  -- the next entry of the list in hand
  pub one_more : (kept after : KeptByKey K) (rate : Rate) (done more : List K) (retried later_on : ℕ) (keys : List K) (i : ℕ) (key : K) (now : ℕ) (answer : Result (Unit {0}) ℕ) (past : K → List ℕ) (latest : ℕ)
      → i < length keys → key ≡ get_or keys i key → after.rate ≡ kept.rate → ((p : K → List ℕ) (l : ℕ) → StandsForEach cmp kept p l → IsChecked kept after key now answer p l)
      → more ≡ cond (is_ok answer) (done ++ key ∷ []) done → later_on ≡ later retried answer
      → IsUnderWay kept rate done retried (drop i keys) now keys past latest → IsUnderWay after rate more later_on (drop (i + 1) keys) now keys past latest
  one_more kept after rate done more retried later_on keys i key now answer past latest within at rates checked noted told h =
      let next : drop i keys ≡ key ∷ drop (i + 1) keys = drop_more keys i key within ∙ ap (λ x. x ∷ drop (i + 1) keys) (sym at) in
      let here : IsUnderWay kept rate done retried (key ∷ drop (i + 1) keys) now keys past latest =
      subst (λ (l : List K). IsUnderWay kept rate done retried l now keys past latest) next h in
      subst (λ (m : ℕ). IsUnderWay after rate more m (drop (i + 1) keys) now keys past latest) (sym told)
      (goes_on kept after rate done more retried key (drop (i + 1) keys) now answer keys past latest rates checked noted here)

  pub at_end : (kept : KeptByKey K) (rate : Rate) (done : List K) (retried now : ℕ) (keys : List K) (i : ℕ) (past : K → List ℕ) (latest : ℕ)
      → length keys ≤ i → IsUnderWay kept rate done retried (drop i keys) now keys past latest
      → (answer_of keys done retried ≡ check_by_law cmp rate past (max latest now) keys) × StandsForEach cmp kept (past_after cmp rate past (max latest now) keys) (moment_after keys latest now)
  at_end kept rate done retried now keys i past latest end h =
      ends kept rate done retried now keys past latest (subst (λ (l : List K). IsUnderWay kept rate done retried l now keys past latest) (drop_all i keys end) h)
