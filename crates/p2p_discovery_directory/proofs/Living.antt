-- Which peers have a record after one more call, and what is kept of infos then.
use Rattle.std.proofs.Common.{◌≡◌, ℕ, Bool, true, false, cond, ◌&&◌, ◌||◌, not, List, [], ◌∷◌, Option, Some, None, refl, sym, ap, subst, ◌∙◌}
use Rattle.std.proofs.lemmas.Bool.{false≢true}
use Rattle.std.specs.Prelude.{is_some}
use Rattle.std.specs.Option.{option_or}
use Rattle.std.specs.Map.{lookup}
use Rattle.std.specs.BTreeMap.{is_at}
use Rattle.std.specs.declared.cmp.Ordering.{Ordering}
use Rattle.p2p_address.specs.declared.peer.Address.{Address}
use Rattle.p2p_discovery.specs.declared.info.Info.{Info}
use Rattle.p2p_tracker_calls.specs.declared.call.Call.{Call as LookupCall}
use Rattle.p2p_tracker_calls.specs.declared.call.Call.TheVariants as asked
use Rattle.p2p_tracker_calls.specs.Blocks.{is_local}
use Rattle.p2p_tracker_calls.specs.Grants.{Grant, held_by, is_held}
use Rattle.p2p_tracker_calls.specs.Lives.{given_by, is_alive, address_of}
use Rattle.p2p_tracker_calls.specs.Rules.{Rules}
use Rattle.p2p_tracker_calls.specs.Sets.{accepted_sets, kept_sets, is_tracked}
use Rattle.p2p_tracker_directory.specs.Stands.{Kept, StandsFor}
use Rattle.p2p_tracker_directory.proofs.Exact.{both-ways}
use Rattle.p2p_discovery_directory.specs.declared.call.Call.{Call}
use Rattle.p2p_discovery_directory.specs.declared.call.Call.TheVariants as call
use Rattle.p2p_discovery_directory.specs.AsLookup.{lookup_calls}
use Rattle.p2p_discovery_directory.specs.Infos.{told_by, info_of}
use Rattle.p2p_discovery_directory.specs.Plain.{Plain, info_in, info_at, Represents, IsPlain}
use Rattle.p2p_discovery_directory.proofs.Keeping.{forgotten-with}

-- ---- who has a record

-- the call tells of no info, and ends no record
abbrev pub is_quiet : {P : Type 0} → Call P → Bool
is_quiet (call.Track index primary secondary) = false
is_quiet (call.Release p) = false
is_quiet (call.UpdatePeers infos) = false
is_quiet _ = true

still_held : (b : Bool) (g : Grant) (tracked held : Bool) → (tracked || held) ≡ true → (tracked || held_by (cond b (Some g) None) false held) ≡ true
still_held b g true held h = refl
still_held true g false held h = refl
still_held false g false held h = h

module _ {P : Type 0} (cmp : P → P → Ordering) (rules : Rules P) where
  -- a record that there is stays
  quiet_stays : (c : Call P) → is_quiet c ≡ true → (calls : List (Call P)) (q : P) → is_alive cmp rules (lookup_calls calls) q ≡ true → is_alive cmp rules (lookup_calls (c ∷ calls)) q ≡ true
  unfolding lookup_calls is_held is_tracked kept_sets accepted_sets
  quiet_stays (call.Track index primary secondary) e calls q h = absurd (false≢true e)
  quiet_stays (call.Block p at) e calls q h = h
  quiet_stays (call.UnblockExpired at) e calls q h = h
  quiet_stays (call.Dial p at jitter granted) e calls q h = still_held (granted && is_at (cmp p) q) (at, jitter) (is_tracked cmp rules (lookup_calls calls) q) (is_held cmp (lookup_calls calls) q) h
  quiet_stays (call.Listen p at jitter granted) e calls q h = still_held (granted && is_at (cmp p) q) (at, jitter) (is_tracked cmp rules (lookup_calls calls) q) (is_held cmp (lookup_calls calls) q) h
  quiet_stays (call.Connect p) e calls q h = h
  quiet_stays (call.Release p) e calls q h = absurd (false≢true e)
  quiet_stays (call.UpdatePeers infos) e calls q h = absurd (false≢true e)

  -- who has a record after a call had one before, or was given an address by it
  given_or_before : (c : LookupCall P) (calls : List (LookupCall P)) (q : P) → is_local cmp rules q ≡ false → is_alive cmp rules (c ∷ calls) q ≡ true
      → address_of cmp rules (c ∷ calls) q ≡ option_or (given_by cmp c calls q) (address_of cmp rules calls q)
  unfolding address_of
  given_or_before c calls q other alive = rw (alive, other) refl

module _ {P : Type 0} {cmp : P → P → Ordering} where
  addressed_by : {kept : Kept P} (rules : Rules P) → kept.rules ≡ rules → (calls : List (LookupCall P)) → StandsFor cmp kept calls → (q : P) → is_local cmp rules q ≡ false
      → is_alive cmp rules calls q ≡ is_some (address_of cmp rules calls q)
  addressed_by rules e calls s q = subst (λ r. is_local cmp r q ≡ false → is_alive cmp r calls q ≡ is_some (address_of cmp r calls q)) e (s.addressed q)

module _ {P : Type 0} {cmp : P → P → Ordering} {kept after : Kept P} (e : after.rules ≡ kept.rules) (c : LookupCall P) (calls : List (LookupCall P)) (s : StandsFor cmp kept calls) (t : StandsFor cmp after (c ∷ calls))
    (q : P) (other : is_local cmp kept.rules q ≡ false) where
  -- who has a record after a call was given an address by it, or had one before
  pub alive-given : is_alive cmp kept.rules (c ∷ calls) q ≡ true → is_some (option_or (given_by cmp c calls q) (address_of cmp kept.rules calls q)) ≡ true
  alive-given alive =
      sym (ap is_some (given_or_before cmp kept.rules c calls q other alive)) ∙ (sym (addressed_by kept.rules e (c ∷ calls) t q other) ∙ alive)

  -- who is given none had one before
  pub alive-before : given_by cmp c calls q ≡ None → is_alive cmp kept.rules (c ∷ calls) q ≡ true → is_alive cmp kept.rules calls q ≡ true
  alive-before none alive =
      s.addressed q other ∙ (ap (λ g. is_some (option_or g (address_of cmp kept.rules calls q))) (sym none) ∙ alive-given alive)

module _ {P : Type 0} {cmp : P → P → Ordering} {kept after : Kept P} (e : after.rules ≡ kept.rules) (calls : List (Call P)) (s : StandsFor cmp kept (lookup_calls calls)) (q : P) (other : is_local cmp kept.rules q ≡ false) where
  quiet_before : (c : Call P) → is_quiet c ≡ true → StandsFor cmp after (lookup_calls (c ∷ calls)) → is_alive cmp kept.rules (lookup_calls (c ∷ calls)) q ≡ true → is_alive cmp kept.rules (lookup_calls calls) q ≡ true
  unfolding lookup_calls
  quiet_before (call.Track index primary secondary) quiet t alive = absurd (false≢true quiet)
  quiet_before (call.Block p at) quiet t alive = alive-before e (asked.Block p at) (lookup_calls calls) s t q other refl alive
  quiet_before (call.UnblockExpired at) quiet t alive = alive-before e (asked.UnblockExpired at) (lookup_calls calls) s t q other refl alive
  quiet_before (call.Dial p at jitter granted) quiet t alive = alive-before e (asked.Dial p at jitter granted) (lookup_calls calls) s t q other refl alive
  quiet_before (call.Listen p at jitter granted) quiet t alive = alive-before e (asked.Listen p at jitter granted) (lookup_calls calls) s t q other refl alive
  quiet_before (call.Connect p) quiet t alive = alive-before e (asked.Connect p None 0) (lookup_calls calls) s t q other refl alive
  quiet_before (call.Release p) quiet t alive = absurd (false≢true quiet)
  quiet_before (call.UpdatePeers infos) quiet t alive = absurd (false≢true quiet)

  -- a quiet call makes no record and ends none
  pub alive-quiet : (c : Call P) → is_quiet c ≡ true → StandsFor cmp after (lookup_calls (c ∷ calls)) → is_alive cmp kept.rules (lookup_calls (c ∷ calls)) q ≡ is_alive cmp kept.rules (lookup_calls calls) q
  alive-quiet c quiet t = both-ways _ _ (quiet_before c quiet t) (quiet_stays cmp kept.rules c quiet calls q)
