-- Whom a queue lists for a dial: exactly those of whom the records tell it.
use Rattle.std.proofs.Common.{◌≡◌, ℕ, ◌<◌, ◌≤◌, Bool, true, false, cond, not, ◌&&◌, ◌||◌, ◌==◌, List, [], ◌∷◌, Option, Some, None, refl, sym, ap, ◌∙◌, arith, filter_map}
use Rattle.std.proofs.lemmas.Bool.{false≢true, eqb-true, eq-eqb}
use Rattle.std.proofs.lemmas.Cmp.{eq_by_cmp_equiv}
use Rattle.std.specs.Prelude.{is_some, nat_lt}
use Rattle.std.specs.Cmp.{IsTotalOrder}
use Rattle.std.specs.List.{find, filter, list_any, cons_option}
use Rattle.std.specs.List.Sorted.{IsStrictlySortedBy}
use Rattle.std.specs.Map.{keys_of, lookup, lookup_key}
use Rattle.std.specs.Ordering.{is_gt, ordering_then, MatchOrdering}
use Rattle.std.specs.BTreeMap.{is_at}
use Rattle.std.specs.declared.cmp.Ordering.{Ordering}
use Rattle.std.specs.declared.cmp.Ordering.TheVariants.{Less, Equal, Greater}
use Rattle.p2p_base.specs.Moments.{by_moment, is_moment}
use Rattle.p2p_base.specs.Sorted.{sorted_once}
use Rattle.p2p_base.proofs.MomentSteps.{has_moment}
use Rattle.p2p_base.proofs.SortedLists.{sorted-sorted_once, find-sorted_once, sorted_unique}
use Rattle.p2p_tracker_calls.specs.Blocks.{lasts_at}
use Rattle.p2p_tracker_directory.specs.Recorded.{Recorded, is_myself, is_inert, has_valid_ingress}
use Rattle.p2p_tracker_directory.specs.Tracked.{passes}
use Rattle.p2p_tracker_directory.specs.Listed.{after_block, outlook, outlook_in, is_now}
use Rattle.p2p_tracker_directory.specs.Indexed.{due_in, due_key}
use Rattle.p2p_tracker_directory.specs.declared.record.Address.{Address}
use Rattle.p2p_tracker_directory.specs.declared.record.Address.TheVariants as address
use Rattle.p2p_tracker_directory.specs.declared.record.DialStatus.TheVariants as dial
use Rattle.p2p_tracker_directory.proofs.Entries.{lookup_past}
use Rattle.p2p_tracker_directory.proofs.Exact.{both-ways}
use Rattle.p2p_tracker_directory.proofs.Found.{sorted-filter}
use Rattle.p2p_tracker_directory.proofs.Indexing.{tie_same}
use Rattle.p2p_tracker_directory.proofs.Killing.{lookup-flip, same_test}
use Rattle.p2p_tracker_directory.proofs.Tallying.{same_moment}
use Rattle.p2p_tracker_directory.proofs.Timed.{Queues}
use Rattle.p2p_tracker_directory.proofs.Walks.{apart, equal_by}
use Rattle.p2p_tracker_directory.proofs.Written.{lookup_same}

pub below_from : (t u : ℕ) (r s : Ordering) → MatchOrdering r (t < u) (t ≡ u) (u < t) → is_gt (ordering_then r s) ≡ false → t ≤ u
below_from t u Less s h e = omega (arith, h)
below_from t u Equal s h e = omega (arith, h)
below_from t u Greater s h e = absurd (false≢true (sym e))

any_first : (a b : Bool) → a ≡ true → (a || b) ≡ true
any_first true b e = refl
any_first false b e = absurd (false≢true e)

any_rest : (a b : Bool) → b ≡ true → (a || b) ≡ true
any_rest true b e = refl
any_rest false b e = e

pub both_true : (a b : Bool) → (a && b) ≡ true → (a ≡ true) × (b ≡ true)
both_true true true e = (refl, refl)
both_true true false e = absurd (false≢true e)
both_true false b e = absurd (false≢true e)

nothing : {X : Type 0} (b : Bool) → cond {A = Option X} b None None ≡ None
nothing true = refl
nothing false = refl

module _ {P X : Type 0} {cmp : P → P → Ordering} (o : IsTotalOrder cmp) (test : P → X → Bool) (same : (p q : P) (x : X) → is_at (cmp p) q ≡ true → test p x ≡ test q x) (q : P) where
  -- the key that is found among those whose entry passes
  find-filtered : (es : List (P × X)) → IsStrictlySortedBy cmp (keys_of es)
      → find (is_at (cmp q)) (keys_of (filter (λ e. test e.0 e.1) es)) ≡ cond (passes (test q) (lookup (is_at (cmp q)) es)) (lookup_key (is_at (cmp q)) es) None
  unfolding IsStrictlySortedBy
  find-filtered [] s = refl
  find-filtered (e ∷ es) s = at (is_at (cmp q) e.0) (test e.0 e.1) refl refl (find-filtered es s.1)
    where
      Rest : Option P
      Rest = find (is_at (cmp q)) (keys_of (filter (λ x. test x.0 x.1) es))

      at : (c b : Bool) → is_at (cmp q) e.0 ≡ c → test e.0 e.1 ≡ b
          → find (is_at (cmp q)) (keys_of (filter (λ x. test x.0 x.1) es)) ≡ cond (passes (test q) (lookup (is_at (cmp q)) es)) (lookup_key (is_at (cmp q)) es) None
          → find (is_at (cmp q)) (keys_of (cond b (e ∷ filter (λ x. test x.0 x.1) es) (filter (λ x. test x.0 x.1) es)))
          ≡ cond (passes (test q) (cond c (Some e.1) (lookup (is_at (cmp q)) es))) (cond c (Some e.0) (lookup_key (is_at (cmp q)) es)) None
      at true true h g i =
          ap (λ b. cond b (Some e.0) (find (is_at (cmp q)) (keys_of (filter (λ x. test x.0 x.1) es)))) h
          ∙ sym (ap (λ b. cond b (Some e.0) None) (same q e.0 e.1 h ∙ g))
      at true false h g i =
          let tied = sym ((eq_by_cmp_equiv o).symm q e.0) ∙ h in
          let none = lookup-flip o q es ∙ lookup_past o es q (apart o e.0 q (keys_of es) (equal_by (cmp e.0 q) tied) s.0) in
          i ∙ (ap (λ r. cond (passes (test q) r) (lookup_key (is_at (cmp q)) es) None) none ∙ sym (ap (λ b. cond b (Some e.0) None) (same q e.0 e.1 h ∙ g)))
      at false true h g i = ap (λ b. cond b (Some e.0) (find (is_at (cmp q)) (keys_of (filter (λ x. test x.0 x.1) es)))) h ∙ i
      at false false h g i = i

module _ {P : Type 0} {cmp : P → P → Ordering} (o : IsTotalOrder cmp) (t : ℕ) (q : P) where
  module _ (f : P → Option P) (same : (k : P) → is_at (cmp q) k ≡ true → f k ≡ f q) (own : (k x : P) → f k ≡ Some x → is_at (cmp k) x ≡ true) where
    -- the key that is found among those that a queue lists
    find-mapped : (es : List (ℕ × P))
        → find (is_at (cmp q)) (filter_map (λ e. cond (nat_lt t e.0) None (f e.1)) es) ≡ cond (list_any (λ e. not (nat_lt t e.0) && is_at (cmp q) e.1) es) (f q) None
    find-mapped [] = refl
    find-mapped (e ∷ es) = at (nat_lt t e.0) (is_at (cmp q) e.1) refl (f e.1) refl (f q) refl (find-mapped es)
      where
        at : (late c : Bool) → is_at (cmp q) e.1 ≡ c → (r : Option P) → f e.1 ≡ r → (u : Option P) → f q ≡ u
            → find (is_at (cmp q)) (filter_map (λ x. cond (nat_lt t x.0) None (f x.1)) es) ≡ cond (list_any (λ x. not (nat_lt t x.0) && is_at (cmp q) x.1) es) u None
            → find (is_at (cmp q)) (cons_option (cond late None r) (filter_map (λ x. cond (nat_lt t x.0) None (f x.1)) es))
            ≡ cond ((not late && c) || list_any (λ x. not (nat_lt t x.0) && is_at (cmp q) x.1) es) u None
        at true c h r g u v i = i
        at false true h None g u v i =
            let none : u ≡ None = sym v ∙ (sym (same e.1 h) ∙ g) in
            i ∙ (ap (λ w. cond (list_any (λ x. not (nat_lt t x.0) && is_at (cmp q) x.1) es) w None) none ∙ (nothing (list_any (λ x. not (nat_lt t x.0) && is_at (cmp q) x.1) es) ∙ sym none))
        at false true h (Some x) g u v i =
            let found = sym (tie_same o q e.1 x (own e.1 x g)) ∙ h in
            ap (λ b. cond b (Some x) (find (is_at (cmp q)) (filter_map (λ y. cond (nat_lt t y.0) None (f y.1)) es))) found ∙ (sym g ∙ (same e.1 h ∙ v))
        at false false h None g u v i = i
        at false false h (Some x) g u v i =
            let apart_from = sym (tie_same o q e.1 x (own e.1 x g)) ∙ h in
            ap (λ b. cond b (Some x) (find (is_at (cmp q)) (filter_map (λ y. cond (nat_lt t y.0) None (f y.1)) es))) apart_from ∙ i

  pub at_moment : (m : ℕ) (e : ℕ × P) → is_at (by_moment cmp (m, q)) e ≡ ((m == e.0) && is_at (cmp q) e.1)
  at_moment m e = same_moment o m e.0 q e.1

  -- a key that a queue lists is in it at a moment that has come
  come_up : (es : List (ℕ × P)) → list_any (λ e. not (nat_lt t e.0) && is_at (cmp q) e.1) es ≡ true
      → (m : ℕ) × (not (nat_lt t m) ≡ true) × (list_any (is_at (by_moment cmp (m, q))) es ≡ true)
  come_up [] h = absurd (false≢true h)
  come_up (e ∷ es) h = at (not (nat_lt t e.0) && is_at (cmp q) e.1) refl h (come_up es)
    where
      at : (b : Bool) → (not (nat_lt t e.0) && is_at (cmp q) e.1) ≡ b → (b || list_any (λ x. not (nat_lt t x.0) && is_at (cmp q) x.1) es) ≡ true
          → (list_any (λ x. not (nat_lt t x.0) && is_at (cmp q) x.1) es ≡ true → (m : ℕ) × (not (nat_lt t m) ≡ true) × (list_any (is_at (by_moment cmp (m, q))) es ≡ true))
          → (m : ℕ) × (not (nat_lt t m) ≡ true) × ((is_at (by_moment cmp (m, q)) e || list_any (is_at (by_moment cmp (m, q))) es) ≡ true)
      at true g i rest =
          let both = both_true (not (nat_lt t e.0)) (is_at (cmp q) e.1) g in (
            e.0,
            both.0,
            any_first (is_at (by_moment cmp (e.0, q)) e) (list_any (is_at (by_moment cmp (e.0, q))) es)
                (at_moment e.0 e ∙ (ap (λ b. b && is_at (cmp q) e.1) (eq-eqb e.0 e.0 refl) ∙ both.1)),
          )
      at false g i rest = let found = rest i in (found.0, found.1, any_rest (is_at (by_moment cmp (found.0, q)) e) (list_any (is_at (by_moment cmp (found.0, q))) es) found.2)

  -- and one that is in it at such a moment is listed
  is_listed : (m : ℕ) → not (nat_lt t m) ≡ true → (es : List (ℕ × P)) → list_any (is_at (by_moment cmp (m, q))) es ≡ true
      → list_any (λ e. not (nat_lt t e.0) && is_at (cmp q) e.1) es ≡ true
  is_listed m h [] g = absurd (false≢true g)
  is_listed m h (e ∷ es) g = at (is_at (by_moment cmp (m, q)) e) refl g (is_listed m h es)
    where
      at : (b : Bool) → is_at (by_moment cmp (m, q)) e ≡ b → (b || list_any (is_at (by_moment cmp (m, q))) es) ≡ true
          → (list_any (is_at (by_moment cmp (m, q))) es ≡ true → list_any (λ x. not (nat_lt t x.0) && is_at (cmp q) x.1) es ≡ true)
          → ((not (nat_lt t e.0) && is_at (cmp q) e.1) || list_any (λ x. not (nat_lt t x.0) && is_at (cmp q) x.1) es) ≡ true
      at true k i rest =
          let both = both_true (m == e.0) (is_at (cmp q) e.1) (sym (at_moment m e) ∙ k) in
          any_first (not (nat_lt t e.0) && is_at (cmp q) e.1) (list_any (λ x. not (nat_lt t x.0) && is_at (cmp q) x.1) es)
          (ap (λ n. not (nat_lt t n) && is_at (cmp q) e.1) (sym (eqb-true m e.0 both.0)) ∙ (ap (λ b. b && is_at (cmp q) e.1) h ∙ both.1))
      at false k i rest = any_rest (not (nat_lt t e.0) && is_at (cmp q) e.1) (list_any (λ x. not (nat_lt t x.0) && is_at (cmp q) x.1) es) (rest i)

  module _ (queue : List (ℕ × P)) (due : P → Option ℕ) (queued : Queues cmp queue due) where
    listed-due : list_any (λ e. not (nat_lt t e.0) && is_at (cmp q) e.1) queue ≡ passes (λ m. not (nat_lt t m)) (due q)
    listed-due = both-ways (list_any (λ e. not (nat_lt t e.0) && is_at (cmp q) e.1) queue) (passes (λ m. not (nat_lt t m)) (due q))
        (λ h. let found = come_up queue h in ap (passes (λ m. not (nat_lt t m))) (has_moment (due q) found.0 (sym found.2 ∙ queued.each q found.0)) ∙ found.1)
        (λ h. at (due q) refl h)
      where
        at : (r : Option ℕ) → due q ≡ r → passes (λ m. not (nat_lt t m)) r ≡ true → list_any (λ e. not (nat_lt t e.0) && is_at (cmp q) e.1) queue ≡ true
        at None e h = absurd (false≢true h)
        at (Some m) e h = is_listed m h queue (queued.each q m ∙ (ap (λ r. is_moment r m) e ∙ eq-eqb m m refl))

-- who is to be dialed now has come up for it
now_due : (l p i w : Bool) (a : Address) (block : Option ℕ) (next : ℕ) (private dns : Bool)
    → is_now (cond l (after_block (is_myself a) block) (cond (((is_myself a || p) && i) && has_valid_ingress a private dns) (cond w (dial.After next) dial.Now) dial.Unavailable)) ≡ true
    → cond (p && has_valid_ingress a private dns) (not w) false ≡ true
now_due true p i w address.Myself block next private dns h = absurd (false≢true h)
now_due true p i w (address.Known a) None next private dns h = absurd (false≢true h)
now_due true p i w (address.Known a) (Some end) next private dns h = absurd (false≢true h)
now_due false p i w address.Myself block next private dns h = at p i h
  where
    at : (p i : Bool) → is_now (cond ((true && i) && false) (cond w (dial.After next) dial.Now) dial.Unavailable) ≡ true → cond (p && false) (not w) false ≡ true
    at p true h = absurd (false≢true h)
    at p false h = absurd (false≢true h)
now_due false p i w (address.Known a) block next private dns h = at p i (has_valid_ingress (address.Known a) private dns) w h
  where
    at : (p i v w : Bool) → is_now (cond ((p && i) && v) (cond w (dial.After next) dial.Now) dial.Unavailable) ≡ true → cond (p && v) (not w) false ≡ true
    at true true true true h = absurd (false≢true h)
    at true true true false h = refl
    at true true false w h = absurd (false≢true h)
    at true false v w h = absurd (false≢true h)
    at false i v w h = absurd (false≢true h)

passes_cond : (b : Bool) (next t : ℕ) → passes (λ m. not (nat_lt t m)) (cond b (Some next) None) ≡ cond b (not (nat_lt t next)) false
passes_cond true next t = refl
passes_cond false next t = refl

now-due : (r : Option Recorded) (block : Option ℕ) (t : ℕ) (private dns : Bool) → is_now (outlook_in r block t private dns) ≡ true → passes (λ m. not (nat_lt t m)) (due_in r private dns) ≡ true
now-due None block t private dns h = absurd (false≢true h)
now-due (Some r) block t private dns h =
    passes_cond (nat_lt 0 r.primary && has_valid_ingress r.address private dns) r.next_dial t
    ∙ now_due (lasts_at block t) (nat_lt 0 r.primary) (is_inert r.status) (nat_lt t r.next_dial) r.address block r.next_dial private dns h

implied : {X : Type 0} (a b : Bool) (x : Option X) → (b ≡ true → a ≡ true) → cond a (cond b x None) None ≡ cond b x None
implied a true x h = ap (λ c. cond c x None) (h refl)
implied true false x h = refl
implied false false x h = refl

module _ {P X : Type 0} (test : P → Bool) where
  -- a key that is found passes
  key_passes : (es : List (P × X)) (k : P) → lookup_key test es ≡ Some k → test k ≡ true
  key_passes [] k h = absurd (false≢true (ap is_some h))
  key_passes (e ∷ es) k h = at (test e.0) refl h (key_passes es k)
    where
      at : (b : Bool) → test e.0 ≡ b → cond b (Some e.0) (lookup_key test es) ≡ Some k → (lookup_key test es ≡ Some k → test k ≡ true) → test k ≡ true
      at true g i rest = let same : e.0 ≡ k = cc in ap test (sym same) ∙ g
      at false g i rest = rest i

only_key : {P : Type 0} (b : Bool) (r : Option P) (k : P) → cond b r None ≡ Some k → r ≡ Some k
only_key true r k h = h
only_key false r k h = absurd (false≢true (ap is_some h))

passes-outlook : (r : Option Recorded) (block : Option ℕ) (t : ℕ) (private dns : Bool) → passes (λ x. is_now (outlook x block t private dns)) r ≡ is_now (outlook_in r block t private dns)
passes-outlook None block t private dns = refl
passes-outlook (Some x) block t private dns = refl

module _ {P : Type 0} {cmp : P → P → Ordering} (o : IsTotalOrder cmp) (es : List (P × Recorded)) (blocks : List (P × ℕ)) (t : ℕ) (private dns : Bool) where
  -- those that the queue lists, in the order of their keys
  pub due-peers : (queue : List (ℕ × P)) → Queues cmp queue (λ q. due_in (lookup (is_at (cmp q)) es) private dns) → IsStrictlySortedBy cmp (keys_of es)
      → sorted_once cmp (filter_map (λ e. cond (nat_lt t e.0) None (due_key (is_at (cmp e.1)) es blocks t private dns)) queue)
      ≡ keys_of (filter (λ e. is_now (outlook e.1 (lookup (is_at (cmp e.0)) blocks) t private dns)) es)
  due-peers queue queued s =
      let f : P → Option P = λ k. due_key (is_at (cmp k)) es blocks t private dns in
      let found = filter_map (λ e. cond (nat_lt t e.0) None (f e.1)) queue in
      sorted_unique o (sorted_once cmp found) (keys_of (filter (λ e. is_now (outlook e.1 (lookup (is_at (cmp e.0)) blocks) t private dns)) es))
      (sorted-sorted_once o found) (sorted-filter cmp (λ e. is_now (outlook e.1 (lookup (is_at (cmp e.0)) blocks) t private dns)) es s)
      (λ q. find-sorted_once o q found
      ∙ (find-mapped o t q f (λ k h. ap (λ test. due_key test es blocks t private dns) (sym (same_test o q k h)))
      (λ k x h. key_passes (is_at (cmp k)) es x (only_key (is_now (outlook_in (lookup (is_at (cmp k)) es) (lookup (is_at (cmp k)) blocks) t private dns)) (lookup_key (is_at (cmp k)) es) x h)) queue
      ∙ (ap (λ b. cond b (f q) None) (listed-due o t q queue (λ k. due_in (lookup (is_at (cmp k)) es) private dns) queued)
      ∙ (implied (passes (λ m. not (nat_lt t m)) (due_in (lookup (is_at (cmp q)) es) private dns)) (is_now (outlook_in (lookup (is_at (cmp q)) es) (lookup (is_at (cmp q)) blocks) t private dns))
      (lookup_key (is_at (cmp q)) es) (now-due (lookup (is_at (cmp q)) es) (lookup (is_at (cmp q)) blocks) t private dns)
      ∙ (ap (λ b. cond b (lookup_key (is_at (cmp q)) es) None) (sym (passes-outlook (lookup (is_at (cmp q)) es) (lookup (is_at (cmp q)) blocks) t private dns))
      ∙ sym (find-filtered o (λ k x. is_now (outlook x (lookup (is_at (cmp k)) blocks) t private dns))
      (λ k l x h. ap (λ b. is_now (outlook x b t private dns)) (lookup_same o k l blocks h)) q es s))))))
