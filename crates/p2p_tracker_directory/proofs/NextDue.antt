-- When to ask again for whom to dial, by a queue and the blocks, is what the records tell.
use Rattle.std.proofs.Common.{◌≡◌, ℕ, ◌≤◌, Bool, true, false, cond, not, ◌&&◌, ◌||◌, ◌==◌, List, [], ◌∷◌, Option, Some, None, refl, sym, ap, ◌∙◌, arith}
use Rattle.std.proofs.lemmas.Bool.{false≢true, eqb-true, eq-eqb, ltb-true}
use Rattle.std.proofs.lemmas.Cmp.{eq_by_cmp_equiv, ranked}
use Rattle.std.specs.Prelude.{is_some, nat_lt}
use Rattle.std.specs.Cmp.{IsTotalOrder}
use Rattle.std.specs.List.{AllByRecursion, find, list_any}
use Rattle.std.specs.List.Sorted.{IsStrictlySortedBy}
use Rattle.std.specs.Option.{option_map}
use Rattle.std.specs.Map.{keys_of, lookup}
use Rattle.std.specs.Ordering.{is_gt, nat_cmp}
use Rattle.std.specs.BTreeMap.{is_at}
use Rattle.std.specs.declared.cmp.Ordering.{Ordering}
use Rattle.std.specs.declared.cmp.Ordering.TheVariants.{Less}
use Rattle.p2p_base.specs.Moments.{by_moment, is_moment}
use Rattle.p2p_base.proofs.MomentSteps.{has_moment}
use Rattle.p2p_tracker_calls.specs.Blocks.{lasts_at}
use Rattle.p2p_tracker_calls.specs.DialList.{earlier, earliest, comes_by}
use Rattle.p2p_tracker_directory.specs.Recorded.{Recorded, is_myself, is_inert, has_valid_ingress}
use Rattle.p2p_tracker_directory.specs.Tracked.{passes}
use Rattle.p2p_tracker_directory.specs.Listed.{after_block, outlook, outlook_in, moment_of}
use Rattle.p2p_tracker_directory.specs.Indexed.{due_in, waits, unblock_at}
use Rattle.p2p_tracker_directory.specs.declared.record.Address.{Address}
use Rattle.p2p_tracker_directory.specs.declared.record.Address.TheVariants as address
use Rattle.p2p_tracker_directory.specs.declared.record.DialStatus.TheVariants as dial
use Rattle.p2p_tracker_directory.proofs.DueList.{below_from, both_true, at_moment}
use Rattle.p2p_tracker_directory.proofs.Exact.{moments-same, if_some}
use Rattle.p2p_tracker_directory.proofs.Found.{any-entries, entries-any, earliest-given, earliest-comes, no_sooner, no_later, comes-earlier_right}
use Rattle.p2p_tracker_directory.proofs.Timed.{Queues}
use Rattle.p2p_tracker_directory.proofs.Written.{lookup_same}

comes_left : (a r : Option ℕ) (t : ℕ) → comes_by a t ≡ true → comes_by (earlier a r) t ≡ true
comes_left None r t h = absurd (false≢true h)
comes_left (Some u) None t h = h
comes_left (Some u) (Some v) t h = at (nat_lt v u) refl (no_later t u h)
  where
    at : (b : Bool) → nat_lt v u ≡ b → u ≤ t → not (nat_lt t (cond b v u)) ≡ true
    at true e most = let less = ltb-true v u e in no_sooner t v (omega (arith, less, most))
    at false e most = no_sooner t u most

either_moment : (a b : Option ℕ) (n : ℕ) (Q : Type 0) → earlier a b ≡ Some n → (a ≡ Some n → Q) → (b ≡ Some n → Q) → Q
either_moment None b n Q h f g = g h
either_moment (Some u) None n Q h f g = f h
either_moment (Some u) (Some v) n Q h f g = at (nat_lt v u) h
  where
    at : (c : Bool) → Some (cond c v u) ≡ Some n → Q
    at true i = g i
    at false i = f i

module _ {P : Type 0} {cmp : P → P → Ordering} (o : IsTotalOrder cmp) (n : ℕ) (q : P) where
  -- a moment that stands behind others is no less
  no_less : (e : ℕ × P) (es : List (ℕ × P)) → AllByRecursion (λ y. by_moment cmp e y ≡ Less) es → list_any (is_at (by_moment cmp (n, q))) es ≡ true → e.0 ≤ n
  no_less e [] a h = absurd (false≢true h)
  no_less e (y ∷ es) a h = at (is_at (by_moment cmp (n, q)) y) refl h (no_less e es a.1)
    where
      at : (b : Bool) → is_at (by_moment cmp (n, q)) y ≡ b → (b || list_any (is_at (by_moment cmp (n, q))) es) ≡ true → (list_any (is_at (by_moment cmp (n, q))) es ≡ true → e.0 ≤ n) → e.0 ≤ n
      at true k i rest =
          let same = eqb-true n y.0 (both_true (n == y.0) (is_at (cmp q) y.1) (sym (at_moment o n q n y) ∙ k)).0 in
          let least = below_from e.0 y.0 (nat_cmp e.0 y.0) (cmp e.1 y.1) (ranked e.0 y.0 (nat_cmp e.0 y.0) refl) (ap is_gt a.0) in
          omega (arith, same, least)
      at false k i rest = rest i

  -- the first that passes comes by each that does
  first-comes : (test : ℕ × P → Bool) → ((e : ℕ × P) → is_at (by_moment cmp (n, q)) e ≡ true → test e ≡ true) → (es : List (ℕ × P)) → IsStrictlySortedBy (by_moment cmp) es
      → list_any (is_at (by_moment cmp (n, q))) es ≡ true → comes_by (option_map (λ e. e.0) (find test es)) n ≡ true
  unfolding IsStrictlySortedBy
  first-comes test passes_it [] s h = absurd (false≢true h)
  first-comes test passes_it (e ∷ es) s h = at (test e) (is_at (by_moment cmp (n, q)) e) refl refl h (first-comes test passes_it es s.1)
    where
      at : (b c : Bool) → test e ≡ b → is_at (by_moment cmp (n, q)) e ≡ c → (c || list_any (is_at (by_moment cmp (n, q))) es) ≡ true
          → (list_any (is_at (by_moment cmp (n, q))) es ≡ true → comes_by (option_map (λ x. x.0) (find test es)) n ≡ true)
          → comes_by (option_map (λ x. x.0) (cond b (Some e) (find test es))) n ≡ true
      at true true f g i rest =
          let same = eqb-true n e.0 (both_true (n == e.0) (is_at (cmp q) e.1) (sym (at_moment o n q n e) ∙ g)).0 in no_sooner n e.0 (omega (arith, same))
      at true false f g i rest = no_sooner n e.0 (no_less e es s.0 i)
      at false true f g i rest = absurd (false≢true (sym f ∙ passes_it e g))
      at false false f g i rest = rest i

module _ {P : Type 0} {cmp : P → P → Ordering} (o : IsTotalOrder cmp) (test : ℕ × P → Bool) where
  -- the first that passes is one that does
  first-is : (es : List (ℕ × P)) (n : ℕ) → option_map (λ e. e.0) (find test es) ≡ Some n
      → (q : P) × (test (n, q) ≡ true) × (list_any (is_at (by_moment cmp (n, q))) es ≡ true)
  first-is [] n h = absurd (false≢true (ap is_some h))
  first-is (e ∷ es) n h = at (test e) refl h (first-is es n)
    where
      at : (b : Bool) → test e ≡ b → option_map (λ x. x.0) (cond b (Some e) (find test es)) ≡ Some n
          → (option_map (λ x. x.0) (find test es) ≡ Some n → (q : P) × (test (n, q) ≡ true) × (list_any (is_at (by_moment cmp (n, q))) es ≡ true))
          → (q : P) × (test (n, q) ≡ true) × ((is_at (by_moment cmp (n, q)) e || list_any (is_at (by_moment cmp (n, q))) es) ≡ true)
      at true f i rest =
          let same : e.0 ≡ n = cc in (
            e.1,
            ap (λ m. test (m, e.1)) (sym same) ∙ f,
            ap (λ b. b || list_any (is_at (by_moment cmp (n, e.1))) es)
                (at_moment o n e.1 n e ∙ (ap (λ b. b && is_at (cmp e.1) e.1) (eq-eqb n e.0 (sym same)) ∙ (eq_by_cmp_equiv o).refl e.1)),
          )
      at false f i rest =
          let found = rest i in
          (found.0, found.1, after (is_at (by_moment cmp (n, found.0)) e) (list_any (is_at (by_moment cmp (n, found.0))) es) found.2)
        where
          after : (a b : Bool) → b ≡ true → (a || b) ≡ true
          after true b h = refl
          after false b h = h

-- the moment of a peer that waits for its next dial alone
due_moment : (l p i : Bool) (a : Address) (block : Option ℕ) (next n t : ℕ) (private dns : Bool) → (i && not l) ≡ true
    → cond (p && has_valid_ingress a private dns) (Some next) None ≡ Some n → nat_lt t n ≡ true
    → moment_of (cond l (after_block (is_myself a) block) (cond (((is_myself a || p) && i) && has_valid_ingress a private dns) (cond (nat_lt t next) (dial.After next) dial.Now) dial.Unavailable)) ≡ Some n
due_moment true p true a block next n t private dns w d h = absurd (false≢true w)
due_moment l p false a block next n t private dns w d h = absurd (false≢true w)
due_moment false p true address.Myself block next n t private dns w d h = at p d
  where
    at : (p : Bool) → cond (p && false) (Some next) None ≡ Some n → moment_of (cond ((true && true) && false) (cond (nat_lt t next) (dial.After next) dial.Now) dial.Unavailable) ≡ Some n
    at true e = absurd (false≢true (ap is_some e))
    at false e = absurd (false≢true (ap is_some e))
due_moment false p true (address.Known a) block next n t private dns w d h = at p (has_valid_ingress (address.Known a) private dns) d
  where
    at : (p v : Bool) → cond (p && v) (Some next) None ≡ Some n → moment_of (cond ((p && true) && v) (cond (nat_lt t next) (dial.After next) dial.Now) dial.Unavailable) ≡ Some n
    at true true e =
        let same : next ≡ n = cc in
        ap (λ b. moment_of (cond b (dial.After next) dial.Now)) (ap (nat_lt t) same ∙ h) ∙ e
    at true false e = absurd (false≢true (ap is_some e))
    at false v e = absurd (false≢true (ap is_some e))

due-moment : (r : Option Recorded) (block : Option ℕ) (n t : ℕ) (private dns : Bool) → waits r block t ≡ true → due_in r private dns ≡ Some n → nat_lt t n ≡ true
    → moment_of (outlook_in r block t private dns) ≡ Some n
due-moment None block n t private dns w d h = absurd (false≢true w)
due-moment (Some r) block n t private dns w d h =
    due_moment (lasts_at block t) (nat_lt 0 r.primary) (is_inert r.status) r.address block r.next_dial n t private dns w d h

block_moment : (r : Option Recorded) (block : Option ℕ) (n t : ℕ) (private dns : Bool) → passes (λ end. is_moment (unblock_at r end t) n) block ≡ true
    → is_moment (moment_of (outlook_in r block t private dns)) n ≡ true
block_moment r None n t private dns h = absurd (false≢true h)
block_moment None (Some end) n t private dns h = at (nat_lt t end) h
  where
    at : (b : Bool) → is_moment (cond b None None) n ≡ true → false ≡ true
    at true i = i
    at false i = i
block_moment (Some r) (Some end) n t private dns h = at (nat_lt t end) (is_myself r.address) refl h
  where
    at : (l m : Bool) → nat_lt t end ≡ l → is_moment (cond l (cond (not m) (Some end) None) None) n ≡ true
        → is_moment (moment_of (cond l (after_block m (Some end)) (cond (((m || nat_lt 0 r.primary) && is_inert r.status) && has_valid_ingress r.address private dns)
        (cond (nat_lt t r.next_dial) (dial.After r.next_dial) dial.Now) dial.Unavailable))) n ≡ true
    at true true e i = i
    at true false e i = i
    at false m e i = absurd (false≢true i)

-- the moment of a peer is the end of its block, or that of its next dial
split_moment : (l p i : Bool) (a : Address) (block : Option ℕ) (next n t : ℕ) (private dns : Bool) (Q : Type 0)
    → is_moment (moment_of (cond l (after_block (is_myself a) block) (cond (((is_myself a || p) && i) && has_valid_ingress a private dns) (cond (nat_lt t next) (dial.After next) dial.Now) dial.Unavailable))) n ≡ true
    → (l ≡ true → is_moment (moment_of (after_block (is_myself a) block)) n ≡ true → Q)
    → ((i && not l) ≡ true → is_moment (cond (p && has_valid_ingress a private dns) (Some next) None) n ≡ true → nat_lt t n ≡ true → Q) → Q
split_moment true p i a block next n t private dns Q h f g = f refl h
split_moment false p i address.Myself block next n t private dns Q h f g = at p i h
  where
    at : (p i : Bool) → is_moment (moment_of (cond ((true && i) && false) (cond (nat_lt t next) (dial.After next) dial.Now) dial.Unavailable)) n ≡ true → Q
    at p true e = absurd (false≢true e)
    at p false e = absurd (false≢true e)
split_moment false p i (address.Known a) block next n t private dns Q h f g = at p i (has_valid_ingress (address.Known a) private dns) (nat_lt t next) refl h g
  where
    at : (p i v w : Bool) → nat_lt t next ≡ w → is_moment (moment_of (cond ((p && i) && v) (cond w (dial.After next) dial.Now) dial.Unavailable)) n ≡ true
        → ((i && true) ≡ true → is_moment (cond (p && v) (Some next) None) n ≡ true → nat_lt t n ≡ true → Q) → Q
    at true true true true k e c = c refl e (ap (nat_lt t) (sym (eqb-true next n e)) ∙ k)
    at true true true false k e c = absurd (false≢true e)
    at true true false w k e c = absurd (false≢true e)
    at true false v w k e c = absurd (false≢true e)
    at false i v w k e c = absurd (false≢true e)

split-moment : (r : Option Recorded) (block : Option ℕ) (n t : ℕ) (private dns : Bool) (Q : Type 0) → is_moment (moment_of (outlook_in r block t private dns)) n ≡ true
    → (passes (λ end. is_moment (unblock_at r end t) n) block ≡ true → Q)
    → (waits r block t ≡ true → is_moment (due_in r private dns) n ≡ true → nat_lt t n ≡ true → Q) → Q
split-moment None block n t private dns Q h f g = absurd (false≢true h)
split-moment (Some r) block n t private dns Q h f g =
    split_moment (lasts_at block t) (nat_lt 0 r.primary) (is_inert r.status) r.address block r.next_dial n t private dns Q h (λ l e. f (at block (is_myself r.address) l e)) g
  where
    at : (b : Option ℕ) (m : Bool) → lasts_at b t ≡ true → is_moment (moment_of (after_block m b)) n ≡ true → passes (λ end. is_moment (cond (nat_lt t end) (cond (not m) (Some end) None) None) n) b ≡ true
    at None m l e = absurd (false≢true l)
    at (Some end) true l e = absurd (false≢true e)
    at (Some end) false l e = ap (λ c. is_moment (cond c (Some end) None) n) l ∙ e

passes-moment : (r : Option Recorded) (block : Option ℕ) (n t : ℕ) (private dns : Bool)
    → passes (λ x. is_moment (moment_of (outlook x block t private dns)) n) r ≡ is_moment (moment_of (outlook_in r block t private dns)) n
passes-moment None block n t private dns = refl
passes-moment (Some x) block n t private dns = refl

module _ {P : Type 0} {cmp : P → P → Ordering} (o : IsTotalOrder cmp) (es : List (P × Recorded)) (blocks : List (P × ℕ)) (t : ℕ) (private dns : Bool)
    (s : IsStrictlySortedBy cmp (keys_of es)) (r : IsStrictlySortedBy cmp (keys_of blocks)) where
  query : Option ℕ
  query = earliest (λ e. moment_of (outlook e.1 (lookup (is_at (cmp e.0)) blocks) t private dns)) es

  unblocks : Option ℕ
  unblocks = earliest (λ b. unblock_at (lookup (is_at (cmp b.0)) es) b.1 t) blocks

  -- the records tell the moment of each key
  query-comes : (q : P) (n : ℕ) → is_moment (moment_of (outlook_in (lookup (is_at (cmp q)) es) (lookup (is_at (cmp q)) blocks) t private dns)) n ≡ true → comes_by query n ≡ true
  unfolding query
  query-comes q n h =
      earliest-comes (λ e. moment_of (outlook e.1 (lookup (is_at (cmp e.0)) blocks) t private dns)) es n
      (any-entries cmp (λ k x. is_moment (moment_of (outlook x (lookup (is_at (cmp k)) blocks) t private dns)) n) q es
      (λ k x e. ap (λ b. is_moment (moment_of (outlook x b t private dns)) n) (lookup_same o q k blocks e))
      (passes-moment (lookup (is_at (cmp q)) es) (lookup (is_at (cmp q)) blocks) n t private dns ∙ h))

  unblocks-come : (q : P) (n : ℕ) → passes (λ end. is_moment (unblock_at (lookup (is_at (cmp q)) es) end t) n) (lookup (is_at (cmp q)) blocks) ≡ true → comes_by unblocks n ≡ true
  unfolding unblocks
  unblocks-come q n h =
      earliest-comes (λ b. unblock_at (lookup (is_at (cmp b.0)) es) b.1 t) blocks n
      (any-entries cmp (λ k end. is_moment (unblock_at (lookup (is_at (cmp k)) es) end t) n) q blocks
      (λ k x e. ap (λ f. is_moment (unblock_at f x t) n) (lookup_same o q k es e)) h)

  module _ (queue : List (ℕ × P)) (ordered : IsStrictlySortedBy (by_moment cmp) queue) (queued : Queues cmp queue (λ q. due_in (lookup (is_at (cmp q)) es) private dns)) where
    waiting : ℕ × P → Bool
    waiting e = nat_lt t e.0 && waits (lookup (is_at (cmp e.1)) es) (lookup (is_at (cmp e.1)) blocks) t

    pub next-due : earlier (option_map (λ e. e.0) (find (λ e. nat_lt t e.0 && waits (lookup (is_at (cmp e.1)) es) (lookup (is_at (cmp e.1)) blocks) t) queue))
        (earliest (λ b. unblock_at (lookup (is_at (cmp b.0)) es) b.1 t) blocks)
        ≡ earliest (λ e. moment_of (outlook e.1 (lookup (is_at (cmp e.0)) blocks) t private dns)) es
    unfolding waiting query unblocks
    next-due =
        moments-same (earlier (option_map (λ e. e.0) (find waiting queue)) unblocks) query
        (if_some (earlier (option_map (λ e. e.0) (find waiting queue)) unblocks) (λ n. comes_by query n ≡ true) (λ n e.
        either_moment (option_map (λ x. x.0) (find waiting queue)) unblocks n (comes_by query n ≡ true) e
        (λ f.
        let found = first-is o waiting queue n f in
        let both = both_true (nat_lt t n) (waits (lookup (is_at (cmp found.0)) es) (lookup (is_at (cmp found.0)) blocks) t) found.1 in
        let due = has_moment (due_in (lookup (is_at (cmp found.0)) es) private dns) n (sym (sym (queued.each found.0 n) ∙ found.2)) in
        query-comes found.0 n (ap (λ m. is_moment m n) (due-moment (lookup (is_at (cmp found.0)) es) (lookup (is_at (cmp found.0)) blocks) n t private dns both.1 due both.0) ∙ eq-eqb n n refl))
        (λ f.
        let found = entries-any o (λ k end. is_moment (unblock_at (lookup (is_at (cmp k)) es) end t) n) blocks r
        (earliest-given (λ b. unblock_at (lookup (is_at (cmp b.0)) es) b.1 t) blocks n f) in
        query-comes found.0 n (block_moment (lookup (is_at (cmp found.0)) es) (lookup (is_at (cmp found.0)) blocks) n t private dns found.1))))
        (if_some query (λ n. comes_by (earlier (option_map (λ e. e.0) (find waiting queue)) unblocks) n ≡ true) (λ n e.
        let found = entries-any o (λ k x. is_moment (moment_of (outlook x (lookup (is_at (cmp k)) blocks) t private dns)) n) es s
        (earliest-given (λ x. moment_of (outlook x.1 (lookup (is_at (cmp x.0)) blocks) t private dns)) es n e) in
        let q = found.0 in
        split-moment (lookup (is_at (cmp q)) es) (lookup (is_at (cmp q)) blocks) n t private dns (comes_by (earlier (option_map (λ x. x.0) (find waiting queue)) unblocks) n ≡ true)
        (sym (passes-moment (lookup (is_at (cmp q)) es) (lookup (is_at (cmp q)) blocks) n t private dns) ∙ found.1)
        (λ b. comes-earlier_right (option_map (λ x. x.0) (find waiting queue)) unblocks n (unblocks-come q n b))
        (λ w d l. comes_left (option_map (λ x. x.0) (find waiting queue)) unblocks n
        (first-comes o n q waiting (λ x h. waits_too q n w l x (both_true (n == x.0) (is_at (cmp q) x.1) (sym (at_moment o n q n x) ∙ h))) queue ordered (queued.each q n ∙ d)))))
      where
        waits_too : (q : P) (n : ℕ) → waits (lookup (is_at (cmp q)) es) (lookup (is_at (cmp q)) blocks) t ≡ true → nat_lt t n ≡ true → (x : ℕ × P)
            → ((n == x.0) ≡ true) × (is_at (cmp q) x.1 ≡ true) → waiting x ≡ true
        waits_too q n w l x h =
            ap (λ m. nat_lt t m && waits (lookup (is_at (cmp x.1)) es) (lookup (is_at (cmp x.1)) blocks) t) (sym (eqb-true n x.0 h.0))
            ∙ (ap (λ b. b && waits (lookup (is_at (cmp x.1)) es) (lookup (is_at (cmp x.1)) blocks) t) l
            ∙ (ap (λ u. waits u (lookup (is_at (cmp x.1)) blocks) t) (sym (lookup_same o q x.1 es h.1))
            ∙ (ap (λ u. waits (lookup (is_at (cmp q)) es) u t) (sym (lookup_same o q x.1 blocks h.1)) ∙ w)))
