-- A directory stands for its calls with one more peer set.
use Rattle.std.proofs.Common.{◌≡◌, ℕ, ◌+◌, ◌-◌, ◌≤◌, ◌<◌, Bool, true, false, cond, List, [], ◌∷◌, length, take, Option, Some, None, refl, sym, ap, ◌∙◌, subst, arith, length-append, append-nil}
use Rattle.std.proofs.lemmas.Bool.{false≢true, ltb-true, ltb-false}
use Rattle.std.proofs.lemmas.List.{length-take}
use Rattle.std.specs.Prelude.{is_some, nat_lt}
use Rattle.std.specs.Option.{option_or}
use Rattle.std.specs.Map.{lookup}
use Rattle.std.specs.BTreeMap.{is_at}
use Rattle.std.specs.declared.cmp.Ordering.{Ordering}
use Rattle.p2p_address.specs.declared.peer.Address.{Address as PeerAddress}
use Rattle.p2p_tracker_calls.specs.declared.call.Call.{Call}
use Rattle.p2p_tracker_calls.specs.declared.call.Call.TheVariants as call
use Rattle.p2p_tracker_calls.specs.Sets.{PeerSet, how_many, is_above, latest_index, set_of, only_secondary, is_primary_in, is_secondary_in, accepted_sets, kept_sets, primary_sets, secondary_sets}
use Rattle.p2p_tracker_calls.specs.Blocks.{block_of}
use Rattle.p2p_tracker_calls.specs.Lives.{given_by}
use Rattle.p2p_tracker_directory.specs.Recorded.{Recorded}
use Rattle.p2p_tracker_directory.specs.Tracked.{Fell, one_if, enrolled, retired, passes, is_primary_of, is_secondary_of}
use Rattle.p2p_tracker_directory.specs.Stands.{Kept, StandsFor, record_of}
use Rattle.p2p_tracker_directory.proofs.Enrolling.{enrolled-none, retired-none}
use Rattle.p2p_tracker_directory.proofs.Keeping.{take-fits, take-init, how_many-fits, how_many-over, kept_sets-track, kept_sets-refused, record_of-track, addressed-track, given_by-roles}

module _ {X : Type 0} (n : ℕ) where
  take_least : (xs : List X) → length (take n xs) ≤ n
  take_least xs = let e = length-take n xs in omega (arith, e)

  pub none_fell : (whole rest : List X) → Fell n whole rest None → length whole ≤ n
  none_fell whole rest f = at (nat_lt n (length whole)) refl
    where
      at : (b : Bool) → nat_lt n (length whole) ≡ b → length whole ≤ n
      at true e = absurd (false≢true (f.over (ltb-true n (length whole) e)))
      at false e = ltb-false n (length whole) e

  pub one_fell : (whole rest : List X) (last : X) → Fell n whole rest (Some last) → n < length whole
  one_fell whole rest last f = at (nat_lt n (length whole)) refl
    where
      at : (b : Bool) → nat_lt n (length whole) ≡ b → n < length whole
      at true e = ltb-true n (length whole) e
      at false e = absurd (false≢true (sym (ap is_some (f.fits (ltb-false n (length whole) e)))))

  pub rest_full : (x : X) (xs rest : List X) (last : X) → length xs ≤ n → Fell n (x ∷ xs) rest (Some last) → length rest ≡ n
  rest_full x xs rest last h f =
      let long = one_fell (x ∷ xs) rest last f in
      let sum = ap length f.parts ∙ length-append rest (last ∷ []) in
      omega (arith, h, long, sum)

  -- what stays is what is taken of the whole
  take-fell : (x : X) (xs rest : List X) (fallen : Option X) → length xs ≤ n → Fell n (x ∷ xs) rest fallen → rest ≡ take n (x ∷ xs)
  take-fell x xs rest None h f = sym (append-nil rest) ∙ (sym f.parts ∙ sym (take-fits n (x ∷ xs) (none_fell (x ∷ xs) rest f)))
  take-fell x xs rest (Some last) h f = sym (ap (take n) f.parts ∙ take-init n rest last (rest_full x xs rest last h f))

  -- the whole is what was kept, with one more before it
  pub fell-pushed : (x pushed : X) (xs reserved whole rest : List X) (fallen : Option X) → pushed ≡ x → reserved ≡ xs → whole ≡ pushed ∷ reserved
      → Fell n whole rest fallen → Fell n (x ∷ xs) rest fallen
  fell-pushed x pushed xs reserved whole rest fallen x_is xs_are whole_is f =
      subst (λ ys. Fell n ys rest fallen) (whole_is ∙ (ap (λ y. y ∷ reserved) x_is ∙ ap (λ ys. x ∷ ys) xs_are)) f

  how_many-fell : (test : X → Bool) (x : X) (xs rest : List X) (fallen : Option X) → length xs ≤ n → Fell n (x ∷ xs) rest fallen
      → how_many test (take n (x ∷ xs)) ≡ (how_many test xs + one_if (test x)) - one_if (passes test fallen)
  how_many-fell test x xs rest None h f = how_many-fits test n x xs (none_fell (x ∷ xs) rest f)
  how_many-fell test x xs rest (Some last) h f = how_many-over test n x xs rest last f.parts (rest_full x xs rest last h f)

module _ {P : Type 0} {cmp : P → P → Ordering} {kept : Kept P} {calls : List (Call P)} (s : StandsFor cmp kept calls) (index : ℕ) (primary secondary : List (P × PeerAddress)) where
  pub kept_least : length kept.sets ≤ kept.rules.max_sets
  unfolding kept_sets
  kept_least = subst (λ xs. length xs ≤ kept.rules.max_sets) (sym s.sets) (take_least kept.rules.max_sets (accepted_sets cmp calls))

  module _ (e : is_above index (accepted_sets cmp calls) ≡ false) where
    given_none : (q : P) → given_by cmp (call.Track index primary secondary) calls q ≡ None
    given_none q = ap (λ b. cond b (option_or (lookup (λ p. is_at (cmp p) q) primary) (lookup (λ p. is_at (cmp p) q) (only_secondary cmp primary secondary))) None) e

    none_more : (n : ℕ) → n ≡ (n + 0) - 0
    none_more n = omega arith

    primary_sets-refused : (q : P) → primary_sets cmp kept.rules (call.Track index primary secondary ∷ calls) q ≡ (primary_sets cmp kept.rules calls q + 0) - 0
    unfolding primary_sets
    primary_sets-refused q = ap (how_many (is_primary_in cmp q)) (kept_sets-refused cmp kept.rules calls index primary secondary e) ∙ none_more (how_many (is_primary_in cmp q) (kept_sets cmp kept.rules calls))

    secondary_sets-refused : (q : P) → secondary_sets cmp kept.rules (call.Track index primary secondary ∷ calls) q ≡ (secondary_sets cmp kept.rules calls q + 0) - 0
    unfolding secondary_sets
    secondary_sets-refused q = ap (how_many (is_secondary_in cmp q)) (kept_sets-refused cmp kept.rules calls index primary secondary e) ∙ none_more (how_many (is_secondary_in cmp q) (kept_sets cmp kept.rules calls))

    -- a set that isn't accepted changes nothing
    pub stands-refused_track : StandsFor cmp kept (call.Track index primary secondary ∷ calls)
    unfolding block_of accepted_sets
    stands-refused_track = record {
      sets = s.sets ∙ sym (kept_sets-refused cmp kept.rules calls index primary secondary e);
      latest = s.latest ∙ sym (ap (λ b. latest_index (cond b (set_of cmp index primary secondary ∷ accepted_sets cmp calls) (accepted_sets cmp calls))) e);
      records = λ q. s.records q
          ∙ (sym (ap (λ g. retired (enrolled (record_of cmp kept.rules calls q) g false false) false false) (given_none q)
          ∙ (ap (λ r. retired r false false) (enrolled-none (record_of cmp kept.rules calls q)) ∙ retired-none (record_of cmp kept.rules calls q)))
          ∙ sym (record_of-track cmp kept.rules calls index primary secondary q (s.addressed q) false false false false (ap is_some (given_none q)) (primary_sets-refused q) (secondary_sets-refused q)));
      blocks = λ q. s.blocks q;
      ordered = s.ordered;
      addressed = λ q. addressed-track cmp kept.rules calls index primary secondary q (s.addressed q) false false false false (ap is_some (given_none q)) (primary_sets-refused q) (secondary_sets-refused q);
    }

  module _ (e : is_above index (accepted_sets cmp calls) ≡ true) (rest : List (PeerSet P)) (fallen : Option (PeerSet P))
      (f : Fell kept.rules.max_sets (set_of cmp index primary secondary ∷ kept.sets) rest fallen) where
    pub primary_sets-fell : (q : P) → primary_sets cmp kept.rules (call.Track index primary secondary ∷ calls) q
        ≡ (primary_sets cmp kept.rules calls q + one_if (is_primary_in cmp q (set_of cmp index primary secondary))) - one_if (is_primary_of cmp fallen q)
    unfolding primary_sets
    primary_sets-fell q =
        ap (how_many (is_primary_in cmp q)) (kept_sets-track cmp kept.rules calls index primary secondary e ∙ ap (λ xs. take kept.rules.max_sets (set_of cmp index primary secondary ∷ xs)) (sym s.sets))
        ∙ (how_many-fell kept.rules.max_sets (is_primary_in cmp q) (set_of cmp index primary secondary) kept.sets rest fallen kept_least f
        ∙ ap (λ xs. (how_many (is_primary_in cmp q) xs + one_if (is_primary_in cmp q (set_of cmp index primary secondary))) - one_if (is_primary_of cmp fallen q)) s.sets)

    pub secondary_sets-fell : (q : P) → secondary_sets cmp kept.rules (call.Track index primary secondary ∷ calls) q
        ≡ (secondary_sets cmp kept.rules calls q + one_if (is_secondary_in cmp q (set_of cmp index primary secondary))) - one_if (is_secondary_of cmp fallen q)
    unfolding secondary_sets
    secondary_sets-fell q =
        ap (how_many (is_secondary_in cmp q)) (kept_sets-track cmp kept.rules calls index primary secondary e ∙ ap (λ xs. take kept.rules.max_sets (set_of cmp index primary secondary ∷ xs)) (sym s.sets))
        ∙ (how_many-fell kept.rules.max_sets (is_secondary_in cmp q) (set_of cmp index primary secondary) kept.sets rest fallen kept_least f
        ∙ ap (λ xs. (how_many (is_secondary_in cmp q) xs + one_if (is_secondary_in cmp q (set_of cmp index primary secondary))) - one_if (is_secondary_of cmp fallen q)) s.sets)

    -- one that is accepted comes before the others, of which the last may fall out
    pub stands-track : (es : List (P × Recorded))
        → ((q : P) → lookup (is_at (cmp q)) es
        ≡ retired (enrolled (lookup (is_at (cmp q)) kept.records) (given_by cmp (call.Track index primary secondary) calls q)
        (is_primary_in cmp q (set_of cmp index primary secondary)) (is_secondary_in cmp q (set_of cmp index primary secondary))) (is_primary_of cmp fallen q) (is_secondary_of cmp fallen q))
        → StandsFor cmp (record kept { sets = rest; latest = Some index; records = es }) (call.Track index primary secondary ∷ calls)
    unfolding block_of accepted_sets
    stands-track es r = record {
      sets = take-fell kept.rules.max_sets (set_of cmp index primary secondary) kept.sets rest fallen kept_least f
          ∙ sym (kept_sets-track cmp kept.rules calls index primary secondary e ∙ ap (λ xs. take kept.rules.max_sets (set_of cmp index primary secondary ∷ xs)) (sym s.sets));
      latest = sym (ap (λ b. latest_index (cond b (set_of cmp index primary secondary ∷ accepted_sets cmp calls) (accepted_sets cmp calls))) e);
      records = λ q. r q
          ∙ (ap (λ x. retired (enrolled x (given_by cmp (call.Track index primary secondary) calls q)
          (is_primary_in cmp q (set_of cmp index primary secondary)) (is_secondary_in cmp q (set_of cmp index primary secondary))) (is_primary_of cmp fallen q) (is_secondary_of cmp fallen q)) (s.records q)
          ∙ sym (record_of-track cmp kept.rules calls index primary secondary q (s.addressed q) (is_primary_in cmp q (set_of cmp index primary secondary)) (is_secondary_in cmp q (set_of cmp index primary secondary))
          (is_primary_of cmp fallen q) (is_secondary_of cmp fallen q)
          (given_by-roles cmp kept.rules calls index primary secondary q e) (primary_sets-fell q) (secondary_sets-fell q)));
      blocks = λ q. s.blocks q;
      ordered = s.ordered;
      addressed = λ q. addressed-track cmp kept.rules calls index primary secondary q (s.addressed q) (is_primary_in cmp q (set_of cmp index primary secondary)) (is_secondary_in cmp q (set_of cmp index primary secondary))
          (is_primary_of cmp fallen q) (is_secondary_of cmp fallen q)
          (given_by-roles cmp kept.rules calls index primary secondary q e) (primary_sets-fell q) (secondary_sets-fell q);
    }
