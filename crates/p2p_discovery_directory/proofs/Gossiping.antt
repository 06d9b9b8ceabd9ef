-- What is told of keys, by what is kept and by the calls.
use Rattle.std.proofs.Common.{◌≡◌, ℕ, zero, suc, ◌+◌, ◌-◌, ◌<◌, ◌≤◌, Bool, true, false, cond, List, [], ◌∷◌, ◌++◌, length, take, drop, get_or, Option, Some, None, refl, sym, ap, ◌∙◌, arith, add-one, drop-cons}
use Rattle.std.proofs.lemmas.Bool.{false≢true, eq-eqb, eqb-true, ltb-true}
use Rattle.std.proofs.lemmas.List.{append_assoc, append-nil, drop_all}
use Rattle.std.specs.Prelude.{is_some, nat_lt, nat_eq, slice_get}
use Rattle.std.specs.Option.{option_map, option_to_list}
use Rattle.std.specs.declared.cmp.Ordering.{Ordering}
use Rattle.p2p_base.specs.Sorted.{sorted_once}
use Rattle.p2p_discovery.specs.declared.bit_vec.BitVec.{BitVec}
use Rattle.p2p_discovery.specs.declared.info.Info.{Info}
use Rattle.p2p_flow.specs.declared.tracked.TrackedPeers.{TrackedPeers}
use Rattle.p2p_tracker_calls.specs.declared.call.Call.{Call as LookupCall}
use Rattle.p2p_tracker_calls.specs.declared.call.Call.TheVariants as asked
use Rattle.p2p_runtime.specs.Draws.{seeded, drawn}
use Rattle.p2p_tracker_calls.specs.Peers.{peers_of}
use Rattle.p2p_tracker_calls.specs.Rules.{Rules}
use Rattle.p2p_tracker_calls.specs.Sets.{PeerSet, is_above, set_of, set_at, accepted_sets, kept_sets}
use Rattle.p2p_discovery_directory.specs.declared.call.Call.{Call}
use Rattle.p2p_discovery_directory.specs.AsLookup.{lookup_calls}
use Rattle.p2p_discovery_directory.specs.Gossip.{known_by, unknown_by, told_of, infos_of, bit_vec_of, drawn_set, random_bit_vec}
use Rattle.p2p_discovery_directory.specs.Infos.{info_of}
use Rattle.p2p_discovery_directory.specs.Plain.{Plain, info_at, Represents}

module _ {P : Type 0} (f g : P → Option (Info P)) (same : (q : P) → f q ≡ g q) where
  pub unknown-same : (bits : List Bool) (keys : List P) → unknown_by f bits keys ≡ unknown_by g bits keys
  unknown-same [] keys = refl
  unknown-same (b ∷ bits) [] = refl
  unknown-same (b ∷ bits) (q ∷ keys) =
      ap (λ x. cond b [] (option_to_list x) ++ unknown_by f bits keys) (same q) ∙ ap (λ l. cond b [] (option_to_list (g q)) ++ l) (unknown-same bits keys)

  pub known-same : (keys : List P) → known_by f keys ≡ known_by g keys
  known-same [] = refl
  known-same (q ∷ keys) = ap (λ x. is_some x ∷ known_by f keys) (same q) ∙ ap (λ l. is_some (g q) ∷ l) (known-same keys)

-- ---- the set of an index

module _ {P : Type 0} (cmp : P → P → Ordering) (rules : Rules P) (own : Info P) (calls : List (Call P)) where
  told-none : (bits : List Bool) (x : Option (PeerSet P)) → option_map peers_of x ≡ None → told_of cmp rules own calls bits x ≡ Some []
  told-none bits None e = refl
  told-none bits (Some s) e = absurd (false≢true (sym (ap is_some e)))

  told-some : (bits : List Bool) (x : Option (PeerSet P)) (peers : TrackedPeers P) → option_map peers_of x ≡ Some peers
      → told_of cmp rules own calls bits x ≡ cond (nat_eq (length bits) (length (sorted_once cmp (peers.primary ++ peers.secondary))))
      (Some (unknown_by (λ q. info_of cmp rules own calls q) bits (sorted_once cmp (peers.primary ++ peers.secondary)))) None
  told-some bits None peers e = absurd (false≢true (ap is_some e))
  told-some bits (Some s) peers e = let same : peers_of s ≡ peers = cc in rw (← same) refl

  bits-none : (index : ℕ) (x : Option (PeerSet P)) → option_map peers_of x ≡ None → None ≡ option_map (bit_vec_of cmp rules own calls) x
  bits-none index None e = refl
  bits-none index (Some s) e = absurd (false≢true (sym (ap is_some e)))

-- the set that is found has that index
found-index : {P : Type 0} (index : ℕ) (sets : List (PeerSet P)) (s : PeerSet P) → set_at index sets ≡ Some s → s.index ≡ index
found-index {P = P} index [] s e = absurd (false≢true (ap is_some e))
found-index {P = P} index (t ∷ sets) s e = at (nat_eq index t.index) refl e (found-index index sets s)
  where
    at : (b : Bool) → nat_eq index t.index ≡ b → cond b (Some t) (set_at index sets) ≡ Some s → (set_at index sets ≡ Some s → s.index ≡ index) → s.index ≡ index
    at true h g i = let same : t ≡ s = cc in ap (λ (x : PeerSet P). x.index) (sym same) ∙ sym (eqb-true index t.index h)
    at false h g i = i g

-- ---- each index stands once

-- the newest first
unfoldable pub Descends : {P : Type 0} → List (PeerSet P) → Type 0
Descends [] = Unit {0}
Descends (s ∷ sets) = (is_above s.index sets ≡ true) × Descends sets

module _ {P : Type 0} where
  below : (n : ℕ) (sets : List (PeerSet P)) → is_above n sets ≡ true → Descends sets → (k : ℕ) (s : PeerSet P) → slice_get sets k ≡ Some s → s.index < n
  unfolding Descends
  below n [] h d k s e = absurd (false≢true (ap is_some e))
  below n (t ∷ sets) h d zero s e = let same : t ≡ s = cc in rw (← same) (ltb-true t.index n h)
  below n (t ∷ sets) h d (suc k) s e =
      let first = ltb-true t.index n h in
      let next = below t.index sets d.0 d.1 k s e in
      omega (arith, first, next)

  -- what stands at a place is found by its index
  pub found-at : (sets : List (PeerSet P)) → Descends sets → (k : ℕ) (s : PeerSet P) → slice_get sets k ≡ Some s → set_at s.index sets ≡ Some s
  unfolding Descends
  found-at [] d k s e = absurd (false≢true (ap is_some e))
  found-at (t ∷ sets) d zero s e = let same : t ≡ s = cc in rw (← same, eq-eqb t.index t.index refl) refl
  found-at (t ∷ sets) d (suc k) s e = at (nat_eq s.index t.index) refl (below t.index sets d.0 d.1 k s e) (found-at sets d.1 k s e)
    where
      at : (b : Bool) → nat_eq s.index t.index ≡ b → s.index < t.index → set_at s.index sets ≡ Some s → cond b (Some t) (set_at s.index sets) ≡ Some s
      at true h lower i = let same = eqb-true s.index t.index h in absurd (omega (arith, lower, same))
      at false h lower i = i

  taken_above : (n m : ℕ) (sets : List (PeerSet P)) → is_above n sets ≡ true → is_above n (take m sets) ≡ true
  taken_above n zero sets h = refl
  taken_above n (suc m) [] h = refl
  taken_above n (suc m) (s ∷ sets) h = h

  descends_take : (m : ℕ) (sets : List (PeerSet P)) → Descends sets → Descends (take m sets)
  unfolding Descends
  descends_take zero sets d = tt
  descends_take (suc m) [] d = tt
  descends_take (suc m) (s ∷ sets) d = (taken_above s.index m sets d.0, descends_take m sets d.1)

  descends_accepted : (cmp : P → P → Ordering) (calls : List (LookupCall P)) → Descends (accepted_sets cmp calls)
  unfolding Descends accepted_sets
  descends_accepted cmp [] = tt
  descends_accepted cmp (asked.Track index primary secondary ∷ calls) = at (is_above index (accepted_sets cmp calls)) refl (descends_accepted cmp calls)
    where
      at : (b : Bool) → is_above index (accepted_sets cmp calls) ≡ b → Descends (accepted_sets cmp calls) → Descends (cond b (set_of cmp index primary secondary ∷ accepted_sets cmp calls) (accepted_sets cmp calls))
      at true h d = (h, d)
      at false h d = d
  descends_accepted cmp (asked.Overwrite p address ∷ calls) = descends_accepted cmp calls
  descends_accepted cmp (asked.Block p at ∷ calls) = descends_accepted cmp calls
  descends_accepted cmp (asked.UnblockExpired at ∷ calls) = descends_accepted cmp calls
  descends_accepted cmp (asked.Dial p at jitter granted ∷ calls) = descends_accepted cmp calls
  descends_accepted cmp (asked.Listen p at jitter granted ∷ calls) = descends_accepted cmp calls
  descends_accepted cmp (asked.Connect p at conn ∷ calls) = descends_accepted cmp calls
  descends_accepted cmp (asked.Release p ∷ calls) = descends_accepted cmp calls

  descends_kept : (cmp : P → P → Ordering) (rules : Rules P) (calls : List (LookupCall P)) → Descends (kept_sets cmp rules calls)
  unfolding kept_sets
  descends_kept cmp rules calls = descends_take rules.max_sets (accepted_sets cmp calls) (descends_accepted cmp calls)

-- ---- by the calls

abbrev vector : ℕ → List Bool → Option BitVec
vector n bits = Some (record { index = n; bits = bits })

module _ {P : Type 0} {cmp : P → P → Ordering} {d : Plain P} {calls : List (Call P)} (s : Represents cmp d calls) (index : ℕ) where
  pub infos-unkept : (bits : List Bool) → None ≡ option_map peers_of (set_at index (kept_sets cmp d.peers.rules (lookup_calls calls))) → Some [] ≡ infos_of cmp d.peers.rules d.own calls index bits
  infos-unkept bits e = sym (told-none cmp d.peers.rules d.own calls bits (set_at index (kept_sets cmp d.peers.rules (lookup_calls calls))) (sym e))

  module _ (peers : TrackedPeers P) (keys : List P) (k : keys ≡ sorted_once cmp (peers.primary ++ peers.secondary)) (e : Some peers ≡ option_map peers_of (set_at index (kept_sets cmp d.peers.rules (lookup_calls calls)))) where
    told_by_keys : (bits : List Bool) → infos_of cmp d.peers.rules d.own calls index bits ≡ cond (nat_eq (length bits) (length keys)) (Some (unknown_by (λ q. info_of cmp d.peers.rules d.own calls q) bits keys)) None
    told_by_keys bits =
        told-some cmp d.peers.rules d.own calls bits (set_at index (kept_sets cmp d.peers.rules (lookup_calls calls))) peers (sym e)
        ∙ ap (λ (ks : List P). cond (nat_eq (length bits) (length ks)) (Some (unknown_by (λ q. info_of cmp d.peers.rules d.own calls q) bits ks)) None) (sym k)

    pub infos-apart : (bits : List Bool) → nat_eq (length bits) (length keys) ≡ false → None ≡ infos_of cmp d.peers.rules d.own calls index bits
    infos-apart bits h = sym (told_by_keys bits ∙ ap (λ b. cond b (Some (unknown_by (λ q. info_of cmp d.peers.rules d.own calls q) bits keys)) None) h)

    pub infos-alike : (bits : List Bool) → nat_eq (length bits) (length keys) ≡ true → Some (unknown_by (λ q. info_at cmp d q) bits keys) ≡ infos_of cmp d.peers.rules d.own calls index bits
    infos-alike bits h =
        ap (λ (l : List (Info P)). Some l) (unknown-same (λ q. info_at cmp d q) (λ q. info_of cmp d.peers.rules d.own calls q) s.infos bits keys)
        ∙ sym (told_by_keys bits ∙ ap (λ b. cond b (Some (unknown_by (λ q. info_of cmp d.peers.rules d.own calls q) bits keys)) None) h)

    -- the bit vector of a set that is kept
    pub bit_vec-some : (bits : List Bool) → bits ≡ known_by (λ q. info_at cmp d q) keys
        → Some (record { index = index; bits = bits }) ≡ option_map (bit_vec_of cmp d.peers.rules d.own calls) (set_at index (kept_sets cmp d.peers.rules (lookup_calls calls)))
    bit_vec-some bits b = at (set_at index (kept_sets cmp d.peers.rules (lookup_calls calls))) refl e
      where
        at : (x : Option (PeerSet P)) → set_at index (kept_sets cmp d.peers.rules (lookup_calls calls)) ≡ x → Some peers ≡ option_map peers_of x
            → vector index bits ≡ option_map (bit_vec_of cmp d.peers.rules d.own calls) x
        at None f h = absurd (false≢true (sym (ap is_some h)))
        at (Some t) f h =
            let same : peers ≡ peers_of t = cc in
            let ks : keys ≡ sorted_once cmp (t.primary ++ t.secondary) = k ∙ ap (λ (p : TrackedPeers P). sorted_once cmp (p.primary ++ p.secondary)) same in
            let all : bits ≡ known_by (λ q. info_of cmp d.peers.rules d.own calls q) (sorted_once cmp (t.primary ++ t.secondary)) =
            b ∙ (known-same (λ q. info_at cmp d q) (λ q. info_of cmp d.peers.rules d.own calls q) s.infos keys ∙ ap (known_by (λ q. info_of cmp d.peers.rules d.own calls q)) ks) in
            ap (λ n. vector n bits) (sym (found-index index (kept_sets cmp d.peers.rules (lookup_calls calls)) t f)) ∙ ap (vector t.index) all

  pub bit_vec-none : None ≡ option_map peers_of (set_at index (kept_sets cmp d.peers.rules (lookup_calls calls)))
      → None ≡ option_map (bit_vec_of cmp d.peers.rules d.own calls) (set_at index (kept_sets cmp d.peers.rules (lookup_calls calls)))
  bit_vec-none e = bits-none cmp d.peers.rules d.own calls index (set_at index (kept_sets cmp d.peers.rules (lookup_calls calls))) (sym e)

-- ---- the set that a seed draws

less_one : (n : ℕ) → suc n - 1 ≡ n
less_one n = omega arith

module _ {P : Type 0} (cmp : P → P → Ordering) (rules : Rules P) (own : Info P) (calls : List (Call P)) (seed : ℕ) where
  drawn_at : (sets : List (PeerSet P)) (count place : ℕ) (x : PeerSet P) → count ≡ length sets → place ≡ (drawn (count - 1) (seeded seed)).0
      → slice_get sets (count - 1 - place) ≡ Some x → Some x ≡ drawn_set cmp rules own calls seed sets
  drawn_at [] count place x c p e = absurd (false≢true (ap is_some e))
  drawn_at (s ∷ sets) count place x c p e =
      let n : count - 1 ≡ length sets = ap (λ m. m - 1) c ∙ less_one (length sets) in
      sym e ∙ (ap (λ m. slice_get (s ∷ sets) (m - place)) n ∙ ap (λ m. slice_get (s ∷ sets) (length sets - m)) (p ∙ ap (λ m. (drawn m (seeded seed)).0) n))

  pub random-some : (count place : ℕ) → count ≡ length (kept_sets cmp rules (lookup_calls calls)) → place ≡ (drawn (count - 1) (seeded seed)).0 → (index : ℕ)
      → Some index ≡ option_map (λ s. s.index) (slice_get (kept_sets cmp rules (lookup_calls calls)) (count - 1 - place))
      → option_map (bit_vec_of cmp rules own calls) (set_at index (kept_sets cmp rules (lookup_calls calls))) ≡ random_bit_vec cmp rules own calls seed
  random-some count place c p index e =
      ap (option_map (bit_vec_of cmp rules own calls)) (at (slice_get (kept_sets cmp rules (lookup_calls calls)) (count - 1 - place)) refl e)
    where
      at : (x : Option (PeerSet P)) → slice_get (kept_sets cmp rules (lookup_calls calls)) (count - 1 - place) ≡ x → Some index ≡ option_map (λ s. s.index) x
          → set_at index (kept_sets cmp rules (lookup_calls calls)) ≡ drawn_set cmp rules own calls seed (kept_sets cmp rules (lookup_calls calls))
      at None f h = absurd (false≢true (sym (ap is_some h)))
      at (Some t) f h =
          let same : index ≡ t.index = cc in
          ap (λ n. set_at n (kept_sets cmp rules (lookup_calls calls))) same
          ∙ (found-at (kept_sets cmp rules (lookup_calls calls)) (descends_kept cmp rules (lookup_calls calls)) (count - 1 - place) t f
          ∙ drawn_at (kept_sets cmp rules (lookup_calls calls)) count place t c p f)

-- ---- key by key

at_here : {X : Type 0} (xs : List X) (i : ℕ) (d : X) → i < length xs → drop i xs ≡ get_or xs i d ∷ drop (i + 1) xs
at_here xs i d lt = rw add-one (drop-cons xs i d lt)

none_left : {P : Type 0} (f : P → Option (Info P)) (bits : List Bool) → unknown_by f bits [] ≡ []
none_left f [] = refl
none_left f (b ∷ bits) = refl

module _ {P : Type 0} (f : P → Option (Info P)) (bits : List Bool) (keys : List P) where
  pub unknown-step : (i : ℕ) (d : Bool) (k : P) (told more all : List (Info P)) → i < length keys → length bits ≡ length keys → k ≡ get_or keys i k
      → more ≡ told ++ cond (get_or bits i d) [] (option_to_list (f k)) → told ++ unknown_by f (drop i bits) (drop i keys) ≡ all → more ++ unknown_by f (drop (i + 1) bits) (drop (i + 1) keys) ≡ all
  unknown-step i d k told more all lt same is em so_far =
      let here : drop i bits ≡ get_or bits i d ∷ drop (i + 1) bits = at_here bits i d (omega (arith, lt, same)) in
      let key : drop i keys ≡ k ∷ drop (i + 1) keys = at_here keys i k lt ∙ ap (λ x. x ∷ drop (i + 1) keys) (sym is) in
      let rest : List (Info P) = unknown_by f (drop (i + 1) bits) (drop (i + 1) keys) in
      let step : unknown_by f (drop i bits) (drop i keys) ≡ cond (get_or bits i d) [] (option_to_list (f k)) ++ rest =
      ap (λ l. unknown_by f l (drop i keys)) here ∙ ap (λ l. unknown_by f (get_or bits i d ∷ drop (i + 1) bits) l) key in
      ap (λ l. l ++ rest) em ∙ (append_assoc told (cond (get_or bits i d) [] (option_to_list (f k))) rest ∙ (ap (λ l. told ++ l) (sym step) ∙ so_far))

  pub unknown-done : (i : ℕ) (told all : List (Info P)) → length keys ≤ i → told ++ unknown_by f (drop i bits) (drop i keys) ≡ all → told ≡ all
  unknown-done i told all le so_far =
      sym (append-nil told) ∙ (ap (λ l. told ++ l) (sym (none_left f (drop i bits))) ∙ (ap (λ l. told ++ unknown_by f (drop i bits) l) (sym (drop_all i keys le)) ∙ so_far))
