-- No key is stale, since no address ever changes.
use Rattle.std.proofs.Common.{◌≡◌, ◌⊎◌, ℕ, Bool, true, false, cond, ◌&&◌, ◌||◌, not, List, [], ◌∷◌, Option, Some, None, refl, sym, ap, ◌∙◌, inl, inr}
use Rattle.std.proofs.lemmas.Bool.{and_left, and_right, or_from, or_parts}
use Rattle.std.specs.Prelude.{is_some}
use Rattle.std.specs.Option.{option_or}
use Rattle.std.specs.List.{list_any, filter}
use Rattle.std.specs.Map.{lookup, keys_of}
use Rattle.std.specs.BTreeMap.{is_at}
use Rattle.std.specs.declared.cmp.Ordering.{Ordering}
use Rattle.p2p_address.specs.declared.peer.Address.{Address}
use Rattle.p2p_tracker_calls.specs.declared.call.Call.TheVariants as asked
use Rattle.p2p_tracker_calls.specs.declared.call.Call.{Call as LookupCall}
use Rattle.p2p_tracker_calls.specs.Blocks.{is_local}
use Rattle.p2p_tracker_calls.specs.Grants.{Grant, is_held}
use Rattle.p2p_tracker_calls.specs.Lives.{same_address, is_change, given_by, is_alive, address_of, is_stale}
use Rattle.p2p_tracker_calls.specs.Rules.{Rules}
use Rattle.p2p_tracker_calls.specs.Sets.{is_above, accepted_sets, only_secondary, is_tracked}
use Rattle.p2p_tracker_directory.specs.Stands.{Kept, StandsFor}
use Rattle.p2p_discovery_directory.specs.declared.call.Call.{Call}
use Rattle.p2p_discovery_directory.specs.declared.call.Call.TheVariants as call
use Rattle.p2p_discovery_directory.specs.AsLookup.{nowhere, placed, lookup_calls}
use Rattle.p2p_discovery_directory.specs.Plain.{IsPlain}

-- none, or the one address that all have
Nowhere : Option Address → Type 0
Nowhere o = (o ≡ None) ⊎ (o ≡ Some nowhere)

nowhere_none : Nowhere None
unfolding Nowhere
nowhere_none = inl refl

nowhere_some : Nowhere (Some nowhere)
unfolding Nowhere
nowhere_some = inr refl

nowhere_if : (b : Bool) (o : Option Address) → Nowhere o → Nowhere (cond b o None)
nowhere_if true o h = h
nowhere_if false o h = nowhere_none

nowhere_first : (b : Bool) (o : Option Address) → Nowhere o → Nowhere (cond b (Some nowhere) o)
nowhere_first true o h = nowhere_some
nowhere_first false o h = h

nowhere_or : (o p : Option Address) → Nowhere o → Nowhere p → Nowhere (option_or o p)
nowhere_or None p h k = k
nowhere_or (Some x) p h k = h

module _ {P : Type 0} where
  nowhere_placed : (test : P → Bool) (keys : List P) → Nowhere (lookup test (placed keys))
  nowhere_placed test [] = nowhere_none
  nowhere_placed test (k ∷ keys) = nowhere_first (test k) (lookup test (placed keys)) (nowhere_placed test keys)

  nowhere_ahead : (test : P → Bool) (b : Bool) (k : P) (es : List (P × Address)) → Nowhere (lookup test es) → Nowhere (lookup test (cond b ((k, nowhere) ∷ es) es))
  nowhere_ahead test true k es h = nowhere_first (test k) (lookup test es) h
  nowhere_ahead test false k es h = h

  nowhere_filter : (test : P → Bool) (keep : P × Address → Bool) (keys : List P) → Nowhere (lookup test (filter keep (placed keys)))
  nowhere_filter test keep [] = nowhere_none
  nowhere_filter test keep (k ∷ keys) = nowhere_ahead test (keep (k, nowhere)) k (filter keep (placed keys)) (nowhere_filter test keep keys)

module _ {P : Type 0} (cmp : P → P → Ordering) where
  nowhere_given : (index : ℕ) (primary secondary : List P) (calls : List (LookupCall P)) (q : P) → Nowhere (given_by cmp (asked.Track index (placed primary) (placed secondary)) calls q)
  nowhere_given index primary secondary calls q =
      nowhere_if (is_above index (accepted_sets cmp calls))
      (option_or (lookup (λ p. is_at (cmp p) q) (placed primary)) (lookup (λ p. is_at (cmp p) q) (only_secondary cmp (placed primary) (placed secondary))))
      (nowhere_or (lookup (λ p. is_at (cmp p) q) (placed primary)) (lookup (λ p. is_at (cmp p) q) (only_secondary cmp (placed primary) (placed secondary)))
      (nowhere_placed (λ p. is_at (cmp p) q) primary)
      (nowhere_filter (λ p. is_at (cmp p) q) (λ e. not (list_any (is_at (cmp e.0)) (keys_of (placed primary)))) secondary))

module _ {P : Type 0} (cmp : P → P → Ordering) (rules : Rules P) where
  nowhere_after : (c : LookupCall P) (calls : List (LookupCall P)) (q : P) → Nowhere (given_by cmp c calls q) → Nowhere (address_of cmp rules calls q) → Nowhere (address_of cmp rules (c ∷ calls) q)
  unfolding address_of
  nowhere_after c calls q g h =
      nowhere_if (is_alive cmp rules (c ∷ calls) q && not (is_local cmp rules q)) (option_or (given_by cmp c calls q) (address_of cmp rules calls q))
      (nowhere_or (given_by cmp c calls q) (address_of cmp rules calls q) g h)

  address-nowhere : (calls : List (Call P)) (q : P) → Nowhere (address_of cmp rules (lookup_calls calls) q)
  unfolding address_of lookup_calls
  address-nowhere [] q = nowhere_none
  address-nowhere (call.Track index primary secondary ∷ calls) q =
      nowhere_after (asked.Track index (placed primary) (placed secondary)) (lookup_calls calls) q (nowhere_given cmp index primary secondary (lookup_calls calls) q) (address-nowhere calls q)
  address-nowhere (call.Block p at ∷ calls) q = nowhere_after (asked.Block p at) (lookup_calls calls) q nowhere_none (address-nowhere calls q)
  address-nowhere (call.UnblockExpired at ∷ calls) q = nowhere_after (asked.UnblockExpired at) (lookup_calls calls) q nowhere_none (address-nowhere calls q)
  address-nowhere (call.Dial p at jitter granted ∷ calls) q = nowhere_after (asked.Dial p at jitter granted) (lookup_calls calls) q nowhere_none (address-nowhere calls q)
  address-nowhere (call.Listen p at jitter granted ∷ calls) q = nowhere_after (asked.Listen p at jitter granted) (lookup_calls calls) q nowhere_none (address-nowhere calls q)
  address-nowhere (call.Connect p ∷ calls) q = nowhere_after (asked.Connect p None 0) (lookup_calls calls) q nowhere_none (address-nowhere calls q)
  address-nowhere (call.Release p ∷ calls) q = nowhere_after (asked.Release p) (lookup_calls calls) q nowhere_none (address-nowhere calls q)
  address-nowhere (call.UpdatePeers infos ∷ calls) q = address-nowhere calls q

same_nowhere : not (same_address nowhere nowhere) ≡ false
same_nowhere = refl

-- an address that is given to a key that has it, or isn't held, makes nothing stale
no_change : (given before : Option Address) (held : Bool) → Nowhere given → Nowhere before → (before ≡ None → held ≡ false) → (is_change given before && held) ≡ false
unfolding Nowhere
no_change given before held (inl g) b none = and_left (is_change given before) held (ap (λ o. is_change o before) g)
no_change given before held (inr g) (inl b) none = and_right (is_change given before) held (none b)
no_change given before held (inr g) (inr b) none =
    and_left (is_change given before) held (ap (λ o. is_change o before) g ∙ ap (λ o. is_change (Some nowhere) o) b ∙ same_nowhere)

after_grant : (b : Bool) (g : Grant) (stale : Bool) → stale ≡ false → cond (is_some (cond b (Some g) None) || false) false (false || stale) ≡ false
after_grant true g stale e = refl
after_grant false g stale e = e

after_release : (b : Bool) (stale : Bool) → stale ≡ false → cond b false stale ≡ false
after_release true stale e = refl
after_release false stale e = e

module _ {P : Type 0} (cmp : P → P → Ordering) (rules : Rules P) (calls : List (Call P)) (q : P) where
  stale-track : (index : ℕ) (primary secondary : List P) → (address_of cmp rules (lookup_calls calls) q ≡ None → is_held cmp (lookup_calls calls) q ≡ false)
      → is_stale cmp rules (lookup_calls calls) q ≡ false → is_stale cmp rules (lookup_calls (call.Track index primary secondary ∷ calls)) q ≡ false
  unfolding is_stale lookup_calls
  stale-track index primary secondary none e =
      or_from (is_change (given_by cmp (asked.Track index (placed primary) (placed secondary)) (lookup_calls calls) q) (address_of cmp rules (lookup_calls calls) q) && is_held cmp (lookup_calls calls) q)
      (is_stale cmp rules (lookup_calls calls) q)
      (no_change (given_by cmp (asked.Track index (placed primary) (placed secondary)) (lookup_calls calls) q) (address_of cmp rules (lookup_calls calls) q) (is_held cmp (lookup_calls calls) q)
      (nowhere_given cmp index primary secondary (lookup_calls calls) q) (address-nowhere cmp rules calls q) none) e

  pub stale-after : (c : Call P) → (address_of cmp rules (lookup_calls calls) q ≡ None → is_held cmp (lookup_calls calls) q ≡ false)
      → is_stale cmp rules (lookup_calls calls) q ≡ false → is_stale cmp rules (lookup_calls (c ∷ calls)) q ≡ false
  unfolding is_stale lookup_calls
  stale-after (call.Track index primary secondary) none e = stale-track index primary secondary none e
  stale-after (call.Block p at) none e = e
  stale-after (call.UnblockExpired at) none e = e
  stale-after (call.Dial p at jitter granted) none e = after_grant (granted && is_at (cmp p) q) (at, jitter) (is_stale cmp rules (lookup_calls calls) q) e
  stale-after (call.Listen p at jitter granted) none e = after_grant (granted && is_at (cmp p) q) (at, jitter) (is_stale cmp rules (lookup_calls calls) q) e
  stale-after (call.Connect p) none e = e
  stale-after (call.Release p) none e = after_release (is_at (cmp p) q) (is_stale cmp rules (lookup_calls calls) q) e
  stale-after (call.UpdatePeers infos) none e = e

module _ {P : Type 0} {cmp : P → P → Ordering} {kept : Kept P} where
  pub unheld_without : (calls : List (LookupCall P)) → StandsFor cmp kept calls → (q : P) → is_local cmp kept.rules q ≡ false → address_of cmp kept.rules calls q ≡ None → is_held cmp calls q ≡ false
  unheld_without calls s q other none = (or_parts (is_tracked cmp kept.rules calls q) (is_held cmp calls q) (s.addressed q other ∙ ap is_some none)).1
