-- What is kept of a key, once it was told infos and once more calls were made.
use Rattle.std.proofs.Common.{◌≡◌, ◌⊎◌, ℕ, zero, suc, ◌≤◌, Bool, true, false, cond, ltb, ◌&&◌, List, [], ◌∷◌, Option, Some, None, refl, sym, ap, subst, ◌∙◌, arith, inl, inr}
use Rattle.std.specs.List.{Contains}
use Rattle.std.specs.BTreeMap.{is_at}
use Rattle.std.specs.declared.cmp.Ordering.{Ordering}
use Rattle.std.proofs.lemmas.Bool.{false≢true, ltb-true, ltb-false}
use Rattle.p2p_tracker_calls.specs.Blocks.{is_local}
use Rattle.p2p_tracker_calls.specs.Lives.{is_alive}
use Rattle.p2p_tracker_calls.specs.Rules.{Rules}
use Rattle.p2p_discovery.specs.declared.info.Info.{Info}
use Rattle.p2p_discovery_directory.specs.declared.call.Call.{Call}
use Rattle.p2p_discovery_directory.specs.declared.call.Call.TheVariants as call
use Rattle.p2p_discovery_directory.specs.AsLookup.{lookup_calls}
use Rattle.p2p_discovery_directory.specs.Infos.{is_newer, kept_by, kept_after, told_by, info_of}
use Rattle.p2p_discovery_directory.specs.Laws.{IsKeptSince, NewestIsKept, OnlyWhatWasToldIsKept, IsKeptWithTheRecord, IsForgottenWithTheRecord, OwnIsKeptForGood}

both_true : (a b : Bool) → (a && b) ≡ true → (a ≡ true) × (b ≡ true)
both_true true b e = (refl, e)
both_true false b e = absurd (false≢true e)

module _ {P : Type 0} (cmp : P → P → Ordering) where
  -- ---- one info

  since : (moment : ℕ) (b : Bool) (i kept : Info P) → (b ≡ true → moment ≤ i.timestamp) → moment ≤ kept.timestamp → IsKeptSince moment (cond b (Some i) (Some kept))
  since moment true i kept newer le = (i, refl, newer refl)
  since moment false i kept newer le = (kept, refl, le)

  -- what is kept stays, or a newer one does
  stays : (moment : ℕ) (q : P) (i : Info P) (kept : Option (Info P)) → IsKeptSince moment kept → IsKeptSince moment (kept_by cmp q i kept)
  stays moment q i None (k, e, le) = absurd cc
  stays moment q i (Some kept) (k, e, le) =
      let same : kept ≡ k = cc in
      let long : moment ≤ kept.timestamp = subst (λ (j : Info P). moment ≤ j.timestamp) (sym same) le in
      since moment (is_at (cmp i.public_key) q && ltb kept.timestamp i.timestamp) i kept
      (λ t. let later = ltb-true kept.timestamp i.timestamp (both_true (is_at (cmp i.public_key) q) (ltb kept.timestamp i.timestamp) t).1 in omega arith) long

  newer_stays : (b : Bool) (i kept : Info P) → ltb kept.timestamp i.timestamp ≡ b → IsKeptSince i.timestamp (cond b (Some i) (Some kept))
  newer_stays true i kept e = (i, refl, omega arith)
  newer_stays false i kept e = (kept, refl, ltb-false kept.timestamp i.timestamp e)

  -- an info of the key is kept, unless a newer one is
  taken : (q : P) (i : Info P) (kept : Option (Info P)) → is_at (cmp i.public_key) q ≡ true → IsKeptSince i.timestamp (kept_by cmp q i kept)
  taken q i None at = rw at (i, refl, omega arith)
  taken q i (Some kept) at = rw at (newer_stays (ltb kept.timestamp i.timestamp) i kept refl)

  chosen : (b : Bool) (i k : Info P) (kept : Option (Info P)) → cond b (Some i) kept ≡ Some k → (kept ≡ Some k) ⊎ ((b ≡ true) × (i ≡ k))
  chosen true i k kept e = inr (refl, cc)
  chosen false i k kept e = inl e

  is_of : (q : P) (i k : Info P) (kept : Option (Info P)) → kept_by cmp q i kept ≡ Some k → (kept ≡ Some k) ⊎ ((is_at (cmp i.public_key) q ≡ true) × (i ≡ k))
  is_of q i k kept e =
      elim (chosen (is_at (cmp i.public_key) q && is_newer i kept) i k kept e) [
        | inl before ↦ inl before
        | inr now ↦ inr ((both_true (is_at (cmp i.public_key) q) (is_newer i kept) now.0).0, now.1)
      ]

  -- ---- several

  pub all-stay : (moment : ℕ) (q : P) (infos : List (Info P)) (kept : Option (Info P)) → IsKeptSince moment kept → IsKeptSince moment (kept_after cmp q infos kept)
  unfolding kept_after
  all-stay moment q [] kept h = h
  all-stay moment q (i ∷ infos) kept h = all-stay moment q infos (kept_by cmp q i kept) (stays moment q i kept h)

  pub one-taken : (q : P) (infos : List (Info P)) (kept : Option (Info P)) (i : Info P) → Contains infos i → is_at (cmp i.public_key) q ≡ true → IsKeptSince i.timestamp (kept_after cmp q infos kept)
  unfolding kept_after
  one-taken q [] kept i (k, lt, e) at = absurd (omega arith)
  one-taken q (j ∷ infos) kept i (zero, lt, e) at =
      let same : j ≡ i = e in
      all-stay i.timestamp q infos (kept_by cmp q j kept) (subst (λ (x : Info P). IsKeptSince i.timestamp (kept_by cmp q x kept)) (sym same) (taken q i kept at))
  one-taken q (j ∷ infos) kept i (suc k, lt, e) at = one-taken q infos (kept_by cmp q j kept) i (k, omega arith, e) at

  pub told-or-kept : (q : P) (infos : List (Info P)) (kept : Option (Info P)) (k : Info P) → kept_after cmp q infos kept ≡ Some k
      → (kept ≡ Some k) ⊎ (Contains infos k × (is_at (cmp k.public_key) q ≡ true))
  unfolding kept_after
  told-or-kept q [] kept k e = inl e
  told-or-kept q (i ∷ infos) kept k e =
      elim (told-or-kept q infos (kept_by cmp q i kept) k e) [
        | inr later ↦ inr ((suc later.0.0, omega (arith, later.0.1), later.0.2), later.1)
        | inl now ↦
            elim (is_of q i k kept now) [
              | inl before ↦ inl before
              | inr this ↦ inr ((0, omega arith, this.1), subst (λ (x : Info P). is_at (cmp x.public_key) q ≡ true) this.1 this.0)
            ]
      ]

  told_stays : (moment : ℕ) (q : P) (c : Call P) (kept : Option (Info P)) → IsKeptSince moment kept → IsKeptSince moment (told_by cmp c q kept)
  told_stays moment q (call.Track index primary secondary) kept h = h
  told_stays moment q (call.Block p at) kept h = h
  told_stays moment q (call.UnblockExpired at) kept h = h
  told_stays moment q (call.Dial p at jitter granted) kept h = h
  told_stays moment q (call.Listen p at jitter granted) kept h = h
  told_stays moment q (call.Connect p) kept h = h
  told_stays moment q (call.Release p) kept h = h
  told_stays moment q (call.UpdatePeers infos) kept h = all-stay moment q infos kept h

  -- ---- calls

  info_of-alive : (rules : Rules P) (own : Info P) (c : Call P) (calls : List (Call P)) (q : P) → is_local cmp rules q ≡ false → is_alive cmp rules (lookup_calls (c ∷ calls)) q ≡ true
      → info_of cmp rules own (c ∷ calls) q ≡ told_by cmp c q (info_of cmp rules own calls q)
  unfolding info_of
  info_of-alive rules own c calls q other alive = rw (other, alive) refl

  pub own-is-kept : OwnIsKeptForGood cmp
  unfolding info_of
  own-is-kept rules own [] q local = rw local refl
  own-is-kept rules own (c ∷ calls) q local = rw local refl

  pub forgotten-with : IsForgottenWithTheRecord cmp
  unfolding info_of
  forgotten-with rules own [] q other dead = rw other refl
  forgotten-with rules own (c ∷ calls) q other dead = rw (other, dead) refl

  pub newest-is-kept : NewestIsKept cmp
  newest-is-kept rules own calls infos q i other alive told at =
      subst (IsKeptSince i.timestamp) (sym (info_of-alive rules own (call.UpdatePeers infos) calls q other alive)) (one-taken q infos (info_of cmp rules own calls q) i told at)

  with_record : (rules : Rules P) (own : Info P) (calls : List (Call P)) (c : Call P) (q : P) (i : Info P) (local : Bool) → is_local cmp rules q ≡ local → is_alive cmp rules (lookup_calls (c ∷ calls)) q ≡ true
      → info_of cmp rules own calls q ≡ Some i → IsKeptSince i.timestamp (info_of cmp rules own (c ∷ calls) q)
  with_record rules own calls c q i true local alive kept =
      let same : own ≡ i = let e : Some own ≡ Some i = sym (own-is-kept rules own calls q local) ∙ kept in cc in
      (i, own-is-kept rules own (c ∷ calls) q local ∙ ap (λ (x : Info P). Some x) same, omega arith)
  with_record rules own calls c q i false other alive kept =
      subst (IsKeptSince i.timestamp) (sym (info_of-alive rules own c calls q other alive)) (told_stays i.timestamp q c (info_of cmp rules own calls q) (i, kept, omega arith))

  pub kept-with : IsKeptWithTheRecord cmp
  kept-with rules own calls c q i alive kept = with_record rules own calls c q i (is_local cmp rules q) refl alive kept

  told_only : (rules : Rules P) (own : Info P) (calls : List (Call P)) (infos : List (Info P)) (q : P) (i : Info P) (alive : Bool) → is_local cmp rules q ≡ false
      → is_alive cmp rules (lookup_calls (call.UpdatePeers infos ∷ calls)) q ≡ alive → info_of cmp rules own (call.UpdatePeers infos ∷ calls) q ≡ Some i
      → (info_of cmp rules own calls q ≡ Some i) ⊎ (Contains infos i × (is_at (cmp i.public_key) q ≡ true))
  told_only rules own calls infos q i true other alive kept =
      told-or-kept q infos (info_of cmp rules own calls q) i (sym (info_of-alive rules own (call.UpdatePeers infos) calls q other alive) ∙ kept)
  told_only rules own calls infos q i false other dead kept =
      let none : None ≡ Some i = sym (forgotten-with rules own (call.UpdatePeers infos ∷ calls) q other dead) ∙ kept in
      absurd cc

  pub only-told : OnlyWhatWasToldIsKept cmp
  only-told rules own calls infos q i other kept = told_only rules own calls infos q i (is_alive cmp rules (lookup_calls (call.UpdatePeers infos ∷ calls)) q) other refl kept
