-- What a directory is once a set was handed in.
use Rattle.std.proofs.Common.{◌≡◌, ℕ, ◌-◌, ◌^◌, ◌<◌, ◌≤◌, Bool, true, false, cond, ◌&&◌, ◌||◌, not, List, [], ◌∷◌, ◌++◌, length, drop, Option, Some, None, refl, sym, ap, ◌∙◌, arith, subst}
use Rattle.std.proofs.lemmas.Bool.{false≢true, lt-ltb, le-ltb}
use Rattle.std.proofs.lemmas.List.{drop_all}
use Rattle.std.proofs.lemmas.List.Folds.{list_any-append}
use Rattle.std.proofs.lemmas.Map.Made.{is_some-lookup}
use Rattle.std.specs.Prelude.{is_some, nat_lt}
use Rattle.std.specs.List.{list_any, filter}
use Rattle.std.specs.Option.{option_map, option_or, unwrap_or}
use Rattle.std.specs.List.Sorted.{IsStrictlySortedBy}
use Rattle.std.specs.Cmp.{IsTotalOrder}
use Rattle.std.specs.Map.{lookup, keys_of}
use Rattle.std.specs.BTreeMap.{is_at}
use Rattle.std.specs.declared.cmp.Ordering.{Ordering}
use Rattle.p2p_base.specs.Sorted.{sorted_once}
use Rattle.p2p_base.proofs.SortedLists.{sorted-sorted_once}
use Rattle.p2p_base.proofs.SortedRepeats.{any-sorted_once}
use Rattle.p2p_address.specs.declared.peer.Address.{Address as PeerAddress}
use Rattle.p2p_tracker_calls.specs.declared.call.Call.{Call}
use Rattle.p2p_tracker_calls.specs.declared.call.Call.TheVariants as call
use Rattle.p2p_tracker_calls.specs.Sets.{PeerSet, is_above, latest_index, set_of, only_secondary, is_among, is_primary_in, is_secondary_in, accepted_sets, kept_sets, is_tracked, primary_sets, secondary_sets}
use Rattle.p2p_tracker_calls.specs.Grants.{Grant, is_held}
use Rattle.p2p_tracker_calls.specs.Blocks.{is_local}
use Rattle.p2p_tracker_calls.specs.Lives.{is_change, given_by, address_of, last_grant, is_stale, is_connected}
use Rattle.p2p_tracker_calls.specs.Kills.{is_evicted, is_killed}
use Rattle.p2p_tracker_directory.specs.Recorded.{Recorded}
use Rattle.p2p_tracker_directory.specs.Stands.{Kept, StandsFor, record_of}
use Rattle.p2p_tracker_directory.specs.Tracked.{Fell, needed, swept, blanked, enters, enrolled, retired, is_left, is_above_latest, oldest_of, is_killed_where, is_killed_in, candidates, passes, is_primary_of, is_secondary_of}
use Rattle.p2p_tracker_directory.proofs.Counts.{is_tracked-counts}
use Rattle.p2p_tracker_directory.proofs.Enrolling.{HasRoom, enters-blanked}
use Rattle.p2p_tracker_directory.proofs.Keeping.{how_many-least, given_by-roles}
use Rattle.p2p_tracker_directory.proofs.Killing.{kill_step, is_left-less, lookup-flip, same_test, any-filter, lookup-only_secondary}
use Rattle.p2p_tracker_directory.proofs.Newcomers.{list_any-flip}
use Rattle.p2p_tracker_directory.proofs.StandingTracks.{none_fell, one_fell, rest_full, kept_least, stands-track, primary_sets-fell, secondary_sets-fell}
use Rattle.p2p_tracker_directory.proofs.Steps.{own, peer}
use Rattle.p2p_tracker_directory.proofs.Tracking.{needed_if}

needed_step : (local held : Bool) (cooldown n m : ℕ) (joined stale : Bool) (g : Option Grant) (a : Option PeerAddress)
    → (local ≡ false → ((nat_lt 0 n || nat_lt 0 m) || held) ≡ is_some a)
    → needed (cond local (Some (own n m)) (option_map (peer cooldown held joined n m stale g) a)) ≡ cond local (Some (own n m)) (option_map (peer cooldown held joined n m stale g) a)
unfolding own peer
needed_step true held cooldown n m joined stale g a h = refl
needed_step false held cooldown n m joined stale g None h = refl
needed_step false held cooldown n m joined stale g (Some a) h =
    needed_if (nat_lt 0 n || nat_lt 0 m) held joined (peer cooldown held joined n m stale g a)
    ∙ ap (λ b. cond b (Some (peer cooldown held joined n m stale g a)) None) (h refl)

counts_step : (local held : Bool) (cooldown n m : ℕ) (joined stale : Bool) (g : Option Grant) (a : Option PeerAddress) (s : Recorded)
    → cond local (Some (own n m)) (option_map (peer cooldown held joined n m stale g) a) ≡ Some s → (n ≡ s.primary) × (m ≡ s.secondary)
unfolding own peer
counts_step true held cooldown n m joined stale g a s e = (ap (λ o. (unwrap_or o s).primary) e, ap (λ o. (unwrap_or o s).secondary) e)
counts_step false held cooldown n m joined stale g None s e = absurd (false≢true (ap is_some e))
counts_step false held cooldown n m joined stale g (Some a) s e = (ap (λ o. (unwrap_or o s).primary) e, ap (λ o. (unwrap_or o s).secondary) e)

swept_twice : (b c : Bool) (r : Option Recorded) → needed r ≡ r → swept b (swept c r) ≡ r
swept_twice true true r e = ap needed e ∙ e
swept_twice true false r e = e
swept_twice false true r e = e
swept_twice false false r e = refl

none_there : {X : Type 0} (a : Option X) → is_some a ≡ false → a ≡ None
none_there None e = refl
none_there (Some x) e = absurd (false≢true (sym e))

given_once : {X : Type 0} (a b rest : Option X) (m : Bool) → is_some a ≡ m → b ≡ cond m None rest → is_some b ≡ true → a ≡ None
given_once a b rest true e f h = absurd (false≢true (sym (ap is_some f) ∙ h))
given_once a b rest false e f h = none_there a e

-- the secondary address of who is secondary alone counts as that of all
given_or : {X : Type 0} (a b rest : Option X) (m : Bool) → is_some a ≡ m → b ≡ cond m None rest → option_or a rest ≡ option_or a b
given_or (Some x) b rest m e f = refl
given_or None b rest true e f = absurd (false≢true e)
given_or None b rest false e f = sym f

last_of : {X : Type 0} → List X → Option X
last_of [] = None
last_of (x ∷ xs) = oldest_of x xs

oldest-push : {X : Type 0} (y x : X) (ys : List X) → oldest_of y (ys ++ x ∷ []) ≡ Some x
oldest-push y x [] = refl
oldest-push y x (z ∷ zs) = oldest-push z x zs

last-push : {X : Type 0} (x : X) (ys : List X) → last_of (ys ++ x ∷ []) ≡ Some x
unfolding last_of
last-push x [] = refl
last-push x (y ∷ ys) = oldest-push y x ys

drop-push : {X : Type 0} (x : X) (ys : List X) → drop (length ys) (ys ++ x ∷ []) ≡ x ∷ []
drop-push x [] = refl
drop-push x (y ∷ ys) = drop-push x ys

passes-or : {X : Type 0} (a b : X → Bool) (o : Option X) → passes (λ x. a x || b x) o ≡ (passes a o || passes b o)
passes-or a b None = refl
passes-or a b (Some x) = refl

passes-same : {X : Type 0} (a b : X → Bool) (o : Option X) → ((x : X) → a x ≡ b x) → passes a o ≡ passes b o
passes-same a b None h = refl
passes-same a b (Some x) h = h x

or_none : (b : Bool) → (b || false) ≡ b
or_none true = refl
or_none false = refl

module _ {X : Type 0} (n : ℕ) (x : X) (xs rest : List X) where
  -- which one falls is known before it does
  pub falls-fell : (fallen : Option X) → Fell n (x ∷ xs) rest fallen → cond (nat_lt (length xs) n) None (oldest_of x xs) ≡ fallen
  unfolding last_of
  falls-fell None f = let least = none_fell n (x ∷ xs) rest f in ap (λ b. cond b None (oldest_of x xs)) (lt-ltb (length xs) n (omega (arith, least)))
  falls-fell (Some y) f =
      let more = one_fell n (x ∷ xs) rest y f in
      ap (λ b. cond b None (oldest_of x xs)) (le-ltb (length xs) n (omega (arith, more))) ∙ (ap last_of f.parts ∙ last-push y rest)

  any-fell : (test : X → Bool) (fallen : Option X) → length xs ≤ n → Fell n (x ∷ xs) rest fallen → list_any test (drop n (x ∷ xs)) ≡ passes test fallen
  any-fell test None h f = ap (list_any test) (drop_all n (x ∷ xs) (none_fell n (x ∷ xs) rest f))
  any-fell test (Some y) h f =
      ap (λ k. list_any test (drop k (x ∷ xs))) (sym (rest_full n x xs rest y h f))
      ∙ (ap (λ ys. list_any test (drop (length rest) ys)) f.parts ∙ (ap (list_any test) (drop-push y rest) ∙ or_none (test y)))

among_some : (p s ep es : Bool) → (p || s) ≡ true → (((p || s) || ep) || es) ≡ true
among_some p s ep es e = ap (λ b. (b || ep) || es) e

among_fallen : (b ep es : Bool) → (ep || es) ≡ true → ((b || ep) || es) ≡ true
among_fallen true ep es e = refl
among_fallen false ep es e = e

any-candidates : {P : Type 0} (test : P → Bool) (set : PeerSet P) (fallen : Option (PeerSet P))
    → list_any test (candidates set fallen) ≡ (((list_any test set.primary || list_any test set.secondary) || passes (λ s. list_any test s.primary) fallen) || passes (λ s. list_any test s.secondary) fallen)
any-candidates test set None = list_any-append test set.primary set.secondary
    ∙ (sym (or_none (list_any test set.primary || list_any test set.secondary)) ∙ sym (or_none ((list_any test set.primary || list_any test set.secondary) || false)))
any-candidates test set (Some fallen) =
    list_any-append test ((set.primary ++ set.secondary) ++ fallen.primary) fallen.secondary
    ∙ ap (λ b. b || list_any test fallen.secondary) (list_any-append test (set.primary ++ set.secondary) fallen.primary
    ∙ ap (λ b. b || list_any test fallen.primary) (list_any-append test set.primary set.secondary))

module _ {P : Type 0} {cmp : P → P → Ordering} (o : IsTotalOrder cmp) {kept : Kept P} {calls : List (Call P)} (s : StandsFor cmp kept calls) where
  pub above-kept : (index : ℕ) → is_above index (accepted_sets cmp calls) ≡ is_above_latest index kept.latest
  above-kept index = above (accepted_sets cmp calls) ∙ ap (is_above_latest index) (sym s.latest)
    where
      above : (sets : List (PeerSet P)) → is_above index sets ≡ is_above_latest index (latest_index sets)
      above [] = refl
      above (x ∷ xs) = refl

  needed-kept : (q : P) → needed (lookup (is_at (cmp q)) kept.records) ≡ lookup (is_at (cmp q)) kept.records
  unfolding record_of peer own
  needed-kept q =
      ap needed (s.records q)
      ∙ (needed_step (is_local cmp kept.rules q) (is_held cmp calls q) kept.rules.cooldown (primary_sets cmp kept.rules calls q) (secondary_sets cmp kept.rules calls q)
      (is_connected cmp kept.rules calls q) (is_stale cmp kept.rules calls q) (last_grant cmp kept.rules calls q) (address_of cmp kept.rules calls q)
      (λ l. ap (λ b. b || is_held cmp calls q) (sym (is_tracked-counts cmp kept.rules calls q)) ∙ s.addressed q l)
      ∙ sym (s.records q))

  -- where memory ran out, the blank records that were made are gone
  pub stands-swept : (p r : P → Bool) (sets : List (PeerSet P)) → sets ≡ kept.sets → (es : List (P × Recorded))
      → ((q : P) → lookup (is_at (cmp q)) es ≡ swept (p q) (swept (r q) (lookup (is_at (cmp q)) kept.records)))
      → StandsFor cmp (record kept { sets = sets; records = es }) calls
  stands-swept p r sets sets_are es e = record {
    sets = sets_are ∙ s.sets;
    latest = s.latest;
    records = λ q. e q ∙ (swept_twice (p q) (r q) (lookup (is_at (cmp q)) kept.records) (needed-kept q) ∙ s.records q);
    blocks = λ q. s.blocks q;
    ordered = s.ordered;
    addressed = λ q. s.addressed q;
  }

  has_room : length kept.sets < 2 ^ 64 - 1 → (q : P) → HasRoom (lookup (is_at (cmp q)) kept.records)
  unfolding HasRoom record_of peer own primary_sets secondary_sets
  has_room h q r e =
      let counts = counts_step (is_local cmp kept.rules q) (is_held cmp calls q) kept.rules.cooldown (primary_sets cmp kept.rules calls q) (secondary_sets cmp kept.rules calls q)
      (is_connected cmp kept.rules calls q) (is_stale cmp kept.rules calls q) (last_grant cmp kept.rules calls q) (address_of cmp kept.rules calls q) r (sym (s.records q) ∙ e) in
      let long = ap length s.sets in
      let first = how_many-least (is_primary_in cmp q) (kept_sets cmp kept.rules calls) in
      let second = how_many-least (is_secondary_in cmp q) (kept_sets cmp kept.rules calls) in
      let c0 = counts.0 in
      let c1 = counts.1 in
      (omega (arith, h, long, first, c0), omega (arith, h, long, second, c1))

  module _ (index : ℕ) (primary secondary : List (P × PeerAddress)) (e : is_above_latest index kept.latest ≡ true) where
    above : is_above index (accepted_sets cmp calls) ≡ true
    above = above-kept index ∙ e

    given-track : (q : P) → given_by cmp (call.Track index primary secondary) calls q
        ≡ option_or (lookup (λ p. is_at (cmp p) q) primary) (lookup (λ p. is_at (cmp p) q) (only_secondary cmp primary secondary))
    given-track q = ap (λ b. cond b (option_or (lookup (λ p. is_at (cmp p) q) primary) (lookup (λ p. is_at (cmp p) q) (only_secondary cmp primary secondary))) None) above

    entered : length kept.sets < 2 ^ 64 - 1 → (q : P)
        → enters false (lookup (λ p. is_at (cmp p) q) (only_secondary cmp primary secondary)) (enters true (lookup (λ p. is_at (cmp p) q) primary)
        (blanked (is_secondary_in cmp q (set_of cmp index primary secondary)) (blanked (is_primary_in cmp q (set_of cmp index primary secondary)) (lookup (is_at (cmp q)) kept.records))))
        ≡ enrolled (lookup (is_at (cmp q)) kept.records) (given_by cmp (call.Track index primary secondary) calls q)
        (is_primary_in cmp q (set_of cmp index primary secondary)) (is_secondary_in cmp q (set_of cmp index primary secondary))
    entered h q =
        let r = lookup (is_at (cmp q)) kept.records in
        let a = lookup (λ p. is_at (cmp p) q) primary in
        let b = lookup (λ p. is_at (cmp p) q) (only_secondary cmp primary secondary) in
        let first = is_some-lookup (λ p. is_at (cmp p) q) primary in
        let second = is_some-lookup (λ p. is_at (cmp p) q) (only_secondary cmp primary secondary) in
        ap (λ y. enters false b (enters true a (blanked y (blanked (is_primary_in cmp q (set_of cmp index primary secondary)) r)))) (sym second)
        ∙ (ap (λ x. enters false b (enters true a (blanked (is_some b) (blanked x r)))) (sym first)
        ∙ (enters-blanked r a b (has_room h q) (given_once a b (lookup (λ p. is_at (cmp p) q) secondary) (is_among cmp (keys_of primary) q) first (lookup-only_secondary o q primary secondary))
        ∙ (ap (λ g. enrolled r g (is_some a) (is_some b)) (sym (given-track q))
        ∙ (ap (λ x. enrolled r (given_by cmp (call.Track index primary secondary) calls q) x (is_some b)) first
        ∙ ap (λ y. enrolled r (given_by cmp (call.Track index primary secondary) calls q) (is_primary_in cmp q (set_of cmp index primary secondary)) y) second))))

    module _ (rest : List (PeerSet P)) (fallen : Option (PeerSet P)) (f : Fell kept.rules.max_sets (set_of cmp index primary secondary ∷ kept.sets) rest fallen) where
      pub stands-accepted : length kept.sets < 2 ^ 64 - 1
          → (set : PeerSet P) (first second : List (P × PeerAddress)) → set ≡ set_of cmp index primary secondary → first ≡ primary → second ≡ only_secondary cmp primary secondary
          → (made both es : List (P × Recorded))
          → ((q : P) → lookup (is_at (cmp q)) made ≡ blanked (is_among cmp set.secondary q) (blanked (is_among cmp set.primary q) (lookup (is_at (cmp q)) kept.records)))
          → ((q : P) → lookup (is_at (cmp q)) both
          ≡ enters false (lookup (λ p. is_at (cmp p) q) second) (enters true (lookup (λ p. is_at (cmp p) q) first) (lookup (is_at (cmp q)) made)))
          → ((q : P) → lookup (is_at (cmp q)) es ≡ retired (lookup (is_at (cmp q)) both) (is_primary_of cmp fallen q) (is_secondary_of cmp fallen q))
          → StandsFor cmp (record kept { sets = rest; latest = Some index; records = es }) (call.Track index primary secondary ∷ calls)
      stands-accepted h set first second set_is first_is second_is made both es m b r =
          stands-track s index primary secondary above rest fallen f es
          (λ q. r q ∙ ap (λ x. retired x (is_primary_of cmp fallen q) (is_secondary_of cmp fallen q))
          (b q ∙ (ap (λ x. enters false (lookup (λ p. is_at (cmp p) q) x) (enters true (lookup (λ p. is_at (cmp p) q) first) (lookup (is_at (cmp q)) made))) second_is
          ∙ (ap (enters false (lookup (λ p. is_at (cmp p) q) (only_secondary cmp primary secondary)))
          (ap (λ x. enters true (lookup (λ p. is_at (cmp p) q) x) (lookup (is_at (cmp q)) made)) first_is
          ∙ ap (enters true (lookup (λ p. is_at (cmp p) q) primary))
          (m q ∙ ap (λ x. blanked (is_among cmp x.secondary q) (blanked (is_among cmp x.primary q) (lookup (is_at (cmp q)) kept.records))) set_is))
          ∙ entered h q))))

      evicted-fell : (q : P) → is_evicted cmp kept.rules index primary secondary calls q ≡ (is_primary_of cmp fallen q || is_secondary_of cmp fallen q)
      evicted-fell q =
          ap (λ xs. list_any (λ x. is_primary_in cmp q x || is_secondary_in cmp q x) (drop kept.rules.max_sets (set_of cmp index primary secondary ∷ xs))) (sym s.sets)
          ∙ (any-fell kept.rules.max_sets (set_of cmp index primary secondary) kept.sets rest (λ x. is_primary_in cmp q x || is_secondary_in cmp q x) fallen (kept_least s index primary secondary) f
          ∙ passes-or (is_primary_in cmp q) (is_secondary_in cmp q) fallen)

      left-fell : (q : P) → (is_left (primary_sets cmp kept.rules calls q) (is_primary_in cmp q (set_of cmp index primary secondary)) (is_primary_of cmp fallen q)
          || is_left (secondary_sets cmp kept.rules calls q) (is_secondary_in cmp q (set_of cmp index primary secondary)) (is_secondary_of cmp fallen q))
          ≡ is_tracked cmp kept.rules (call.Track index primary secondary ∷ calls) q
      left-fell q =
          let n = primary_sets cmp kept.rules calls q in
          let m = secondary_sets cmp kept.rules calls q in
          let p = is_primary_in cmp q (set_of cmp index primary secondary) in
          let r = is_secondary_in cmp q (set_of cmp index primary secondary) in
          ap (λ b. b || is_left m r (is_secondary_of cmp fallen q)) (is_left-less n p (is_primary_of cmp fallen q) ∙ ap (nat_lt 0) (sym (primary_sets-fell s index primary secondary above rest fallen f q)))
          ∙ (ap (λ b. nat_lt 0 (primary_sets cmp kept.rules (call.Track index primary secondary ∷ calls) q) || b)
          (is_left-less m r (is_secondary_of cmp fallen q) ∙ ap (nat_lt 0) (sym (secondary_sets-fell s index primary secondary above rest fallen f q)))
          ∙ sym (is_tracked-counts cmp kept.rules (call.Track index primary secondary ∷ calls) q))

      module _ (q : P) where
        given_is : option_or (lookup (is_at (cmp q)) primary) (lookup (is_at (cmp q)) secondary) ≡ given_by cmp (call.Track index primary secondary) calls q
        given_is =
            let a = lookup (λ p. is_at (cmp p) q) primary in
            let b = lookup (λ p. is_at (cmp p) q) (only_secondary cmp primary secondary) in
            let all = lookup (λ p. is_at (cmp p) q) secondary in
            ap (λ x. option_or x (lookup (is_at (cmp q)) secondary)) (lookup-flip o q primary)
            ∙ (ap (option_or a) (lookup-flip o q secondary)
            ∙ (given_or a b all (is_among cmp (keys_of primary) q) (is_some-lookup (λ p. is_at (cmp p) q) primary) (lookup-only_secondary o q primary secondary)
            ∙ sym (given-track q)))

        fallen_primary : passes (λ x. list_any (is_at (cmp q)) x.primary) fallen ≡ is_primary_of cmp fallen q
        fallen_primary = passes-same (λ x. list_any (is_at (cmp q)) x.primary) (is_primary_in cmp q) fallen (λ x. list_any-flip o q x.primary)

        fallen_secondary : passes (λ x. list_any (is_at (cmp q)) x.secondary) fallen ≡ is_secondary_of cmp fallen q
        fallen_secondary = passes-same (λ x. list_any (is_at (cmp q)) x.secondary) (is_secondary_in cmp q) fallen (λ x. list_any-flip o q x.secondary)

        any-asked : list_any (is_at (cmp q)) (candidates (set_of cmp index primary secondary) fallen)
            ≡ (((is_primary_in cmp q (set_of cmp index primary secondary) || is_secondary_in cmp q (set_of cmp index primary secondary)) || is_primary_of cmp fallen q) || is_secondary_of cmp fallen q)
        any-asked =
            let set = set_of cmp index primary secondary in
            let T = is_at (cmp q) in
            let ep = passes (λ x. list_any T x.primary) fallen in
            let es = passes (λ x. list_any T x.secondary) fallen in
            any-candidates T set fallen
            ∙ (ap (λ b. ((b || list_any T set.secondary) || ep) || es) (list_any-flip o q set.primary)
            ∙ (ap (λ b. ((is_primary_in cmp q set || b) || ep) || es) (list_any-flip o q set.secondary)
            ∙ (ap (λ b. ((is_primary_in cmp q set || is_secondary_in cmp q set) || b) || es) fallen_primary
            ∙ ap (λ b. ((is_primary_in cmp q set || is_secondary_in cmp q set) || is_primary_of cmp fallen q) || b) fallen_secondary)))

        killed-by : (list_any (is_at (cmp q)) (candidates (set_of cmp index primary secondary) fallen)
            && is_killed_where (is_at (cmp q)) kept.records primary secondary (set_of cmp index primary secondary) fallen)
            ≡ (list_any (is_at (cmp q)) (candidates (set_of cmp index primary secondary) fallen)
            && is_killed_in (record_of cmp kept.rules calls q) (given_by cmp (call.Track index primary secondary) calls q) (is_primary_in cmp q (set_of cmp index primary secondary))
            (is_secondary_in cmp q (set_of cmp index primary secondary)) (is_primary_of cmp fallen q) (is_secondary_of cmp fallen q))
        killed-by =
            let set = set_of cmp index primary secondary in
            let T = is_at (cmp q) in
            let any = list_any T (candidates set fallen) in
            let r = record_of cmp kept.rules calls q in
            let g = given_by cmp (call.Track index primary secondary) calls q in
            let given = option_or (lookup T primary) (lookup T secondary) in
            let ep = passes (λ x. list_any T x.primary) fallen in
            let es = passes (λ x. list_any T x.secondary) fallen in
            ap (λ x. any && is_killed_in x given (list_any T set.primary) (list_any T set.secondary) ep es) (s.records q)
            ∙ (ap (λ x. any && is_killed_in r x (list_any T set.primary) (list_any T set.secondary) ep es) given_is
            ∙ (ap (λ x. any && is_killed_in r g x (list_any T set.secondary) ep es) (list_any-flip o q set.primary)
            ∙ (ap (λ x. any && is_killed_in r g (is_primary_in cmp q set) x ep es) (list_any-flip o q set.secondary)
            ∙ (ap (λ x. any && is_killed_in r g (is_primary_in cmp q set) (is_secondary_in cmp q set) x es) fallen_primary
            ∙ ap (λ x. any && is_killed_in r g (is_primary_in cmp q set) (is_secondary_in cmp q set) (is_primary_of cmp fallen q) x) fallen_secondary))))

        killed-fell : (list_any (is_at (cmp q)) (candidates (set_of cmp index primary secondary) fallen)
            && is_killed_where (is_at (cmp q)) kept.records primary secondary (set_of cmp index primary secondary) fallen) ≡ is_killed cmp kept.rules index primary secondary calls q
        unfolding record_of peer own is_stale
        killed-fell =
            let set = set_of cmp index primary secondary in
            let any = list_any (is_at (cmp q)) (candidates set fallen) in
            let p = is_primary_in cmp q set in
            let r = is_secondary_in cmp q set in
            let ep = is_primary_of cmp fallen q in
            let es = is_secondary_of cmp fallen q in
            let n = primary_sets cmp kept.rules calls q in
            let m = secondary_sets cmp kept.rules calls q in
            let local = is_local cmp kept.rules q in
            let held = is_held cmp calls q in
            let stale = is_stale cmp kept.rules calls q in
            let a = address_of cmp kept.rules calls q in
            let given = given_by cmp (call.Track index primary secondary) calls q in
            killed-by
            ∙ (kill_step local held any (is_tracked cmp kept.rules calls q) kept.rules.cooldown n m (is_connected cmp kept.rules calls q) stale (last_grant cmp kept.rules calls q) a given p r ep es
            (s.addressed q)
            (λ h. any-asked ∙ among_some p r ep es (sym (given_by-roles cmp kept.rules calls index primary secondary q above) ∙ h))
            (λ h. any-asked ∙ among_fallen (p || r) ep es h)
            ∙ (ap (λ x. not local && held && (is_change given a || (x && (((is_change given a && held) || stale) || not (is_left n p ep || is_left m r es))))) (sym (evicted-fell q))
            ∙ ap (λ x. not local && held && (is_change given a || (is_evicted cmp kept.rules index primary secondary calls q && (((is_change given a && held) || stale) || not x)))) (left-fell q)))

      -- who is killed
      pub killed-kept : (set : PeerSet P) (falls : Option (PeerSet P)) (k : List P) → set ≡ set_of cmp index primary secondary
          → falls ≡ cond (nat_lt (length kept.sets) kept.rules.max_sets) None (oldest_of set kept.sets)
          → k ≡ sorted_once cmp (filter (λ p. is_killed_where (is_at (cmp p)) kept.records primary secondary set falls) (candidates set falls))
          → (q : P) → is_among cmp k q ≡ is_killed cmp kept.rules index primary secondary calls q
      killed-kept set falls k set_is falls_is k_is q =
          let Killed : PeerSet P → Option (PeerSet P) → List P = λ x y. filter (λ p. is_killed_where (is_at (cmp p)) kept.records primary secondary x y) (candidates x y) in
          let fell : falls ≡ fallen = falls_is ∙ (ap (λ x. cond (nat_lt (length kept.sets) kept.rules.max_sets) None (oldest_of x kept.sets)) set_is
          ∙ falls-fell kept.rules.max_sets (set_of cmp index primary secondary) kept.sets rest fallen f) in
          let own_set = set_of cmp index primary secondary in
          ap (λ ks. is_among cmp ks q) (k_is ∙ (ap (λ x. sorted_once cmp (Killed x falls)) set_is ∙ ap (λ x. sorted_once cmp (Killed own_set x)) fell))
          ∙ (sym (list_any-flip o q (sorted_once cmp (Killed own_set fallen)))
          ∙ (any-sorted_once o q (Killed own_set fallen)
          ∙ (any-filter o (λ p. is_killed_where (is_at (cmp p)) kept.records primary secondary own_set fallen) q (candidates own_set fallen)
          (λ p h. sym (ap (λ t. is_killed_where t kept.records primary secondary own_set fallen) (same_test o q p h)))
          ∙ killed-fell q)))

-- they stand in order
pub killed-ordered : {P : Type 0} {cmp : P → P → Ordering} (o : IsTotalOrder cmp) (most : ℕ) (sets : List (PeerSet P)) (es : List (P × Recorded)) (primary secondary : List (P × PeerAddress))
    (set : PeerSet P) (falls : Option (PeerSet P)) (k : List P) → falls ≡ cond (nat_lt (length sets) most) None (oldest_of set sets)
    → k ≡ sorted_once cmp (filter (λ p. is_killed_where (is_at (cmp p)) es primary secondary set falls) (candidates set falls)) → IsStrictlySortedBy cmp k
killed-ordered {cmp = cmp} o most sets es primary secondary set falls k falls_is k_is =
    subst (IsStrictlySortedBy cmp) (sym k_is) (sorted-sorted_once o (filter (λ p. is_killed_where (is_at (cmp p)) es primary secondary set falls) (candidates set falls)))
