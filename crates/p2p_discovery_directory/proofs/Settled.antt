-- A plain directory after a call, which may have found no memory.
use Rattle.std.proofs.Common.{◌≡◌, ℕ, Bool, ◌&&◌, ◌||◌, not, List, [], ◌∷◌, Option, None, refl, sym, ap, subst}
use Rattle.std.specs.Prelude.{Result, Ok, Err, IfOk, OnErr}
use Rattle.std.specs.Cmp.{IsTotalOrder}
use Rattle.std.specs.BTreeMap.{is_at}
use Rattle.std.specs.declared.cmp.Ordering.{Ordering}
use Rattle.p2p_address.specs.declared.ip.IpAddr.{IpAddr}
use Rattle.p2p_address.specs.declared.peer.Address.{Address}
use Rattle.p2p_discovery.specs.declared.info.Info.{Info}
use Rattle.p2p_tracker_calls.specs.Allows as facts
use Rattle.p2p_tracker_calls.specs.declared.call.Call.{Call as LookupCall}
use Rattle.p2p_tracker_calls.specs.declared.call.Call.TheVariants as asked
use Rattle.p2p_tracker_directory.specs.Stands.{Kept, StandsFor}
use Rattle.p2p_discovery_directory.specs.declared.call.Call.{Call}
use Rattle.p2p_discovery_directory.specs.declared.call.Call.TheVariants as call
use Rattle.p2p_discovery_directory.specs.AsLookup.{placed, lookup_calls}
use Rattle.p2p_discovery_directory.specs.Plain.{Represents, IsPlain}
use Rattle.p2p_discovery_directory.specs.Tests.{holds, reserves}
use Rattle.p2p_discovery_directory.proofs.Dialed.{as-dial}
use Rattle.p2p_discovery_directory.proofs.Turned.{held-same, reserved-same, held-track, reserved-track, held-block, reserved-block, held-unblock, reserved-unblock, held-listen, reserved-listen, held-connect, reserved-connect, held-release, reserved-release}
use Rattle.p2p_discovery_directory.proofs.Representing.{plain_of, represents-quiet, plain-quiet}

-- ---- a call as one of a directory of lookup

pub as-none : {P : Type 0} {cmp : P → P → Ordering} {after : Kept P} → StandsFor cmp after [] → StandsFor cmp after (lookup_calls [])
unfolding lookup_calls
as-none s = s

module _ {P : Type 0} {cmp : P → P → Ordering} {after : Kept P} (calls : List (Call P)) where
  pub as-track : (index : ℕ) (primary secondary : List P) (a b : List (P × Address)) → a ≡ placed primary → b ≡ placed secondary → StandsFor cmp after (asked.Track index a b ∷ lookup_calls calls)
      → StandsFor cmp after (lookup_calls (call.Track index primary secondary ∷ calls))
  unfolding lookup_calls
  as-track index primary secondary a b ea eb s =
      subst (λ x. StandsFor cmp after (asked.Track index x (placed secondary) ∷ lookup_calls calls)) ea (subst (λ y. StandsFor cmp after (asked.Track index a y ∷ lookup_calls calls)) eb s)

  pub as-block : (p : P) (at : ℕ) → StandsFor cmp after (asked.Block p at ∷ lookup_calls calls) → StandsFor cmp after (lookup_calls (call.Block p at ∷ calls))
  unfolding lookup_calls
  as-block p at s = s

  pub as-unblock : (at : ℕ) → StandsFor cmp after (asked.UnblockExpired at ∷ lookup_calls calls) → StandsFor cmp after (lookup_calls (call.UnblockExpired at ∷ calls))
  unfolding lookup_calls
  as-unblock at s = s

  pub as-listen : (p : P) (at jitter : ℕ) (granted : Bool) → StandsFor cmp after (asked.Listen p at jitter granted ∷ lookup_calls calls) → StandsFor cmp after (lookup_calls (call.Listen p at jitter granted ∷ calls))
  unfolding lookup_calls
  as-listen p at jitter granted s = s

  pub as-connect : (p : P) → StandsFor cmp after (asked.Connect p None 0 ∷ lookup_calls calls) → StandsFor cmp after (lookup_calls (call.Connect p ∷ calls))
  unfolding lookup_calls
  as-connect p s = s

  pub as-release : (p : P) → StandsFor cmp after (asked.Release p ∷ lookup_calls calls) → StandsFor cmp after (lookup_calls (call.Release p ∷ calls))
  unfolding lookup_calls
  as-release p s = s

-- ---- calls that need memory

module _ {P : Type 0} (cmp : P → P → Ordering) (peers after : Kept P) (own : Info P) (places : List (P × Option (Info P))) where
  -- where the directory of lookup is as before, so is the whole
  pub same-whole : {X E : Type 0} (r : Result X E) → OnErr r (after ≡ peers) → OnErr r (plain_of after own places ≡ plain_of peers own places)
  same-whole (Ok x) n = tt
  same-whole (Err x) n = ap (λ k. plain_of k own places) n

module _ {P : Type 0} {cmp : P → P → Ordering} {peers : Kept P} {own : Info P} {places : List (P × Option (Info P))} (after : Kept P) (i : IsPlain cmp (plain_of peers own places)) (e : after.rules ≡ peers.rules) (p : P) (at : ℕ) where
  pub plain-block : {X E : Type 0} (r : Result X E) → IfOk r (λ b. (calls : List (LookupCall P)) → StandsFor cmp peers calls → StandsFor cmp after (asked.Block p at ∷ calls)) → OnErr r (after ≡ peers)
      → IsPlain cmp (plain_of after own places)
  plain-block (Ok x) t n = plain-quiet i e (call.Block p at) refl (as-block i.calls p at (t (lookup_calls i.calls) i.stands.peers))
  plain-block (Err x) t n = subst (λ k. IsPlain cmp (plain_of k own places)) (sym n) i

  pub held-after_block : {X E : Type 0} (r : Result X E) → IfOk r (λ b. (calls : List (LookupCall P)) → StandsFor cmp peers calls → StandsFor cmp after (asked.Block p at ∷ calls)) → OnErr r (after ≡ peers)
      → (q : P) → holds cmp after q ≡ holds cmp peers q
  held-after_block (Ok x) t n q = held-block i.stands.peers e p at (t (lookup_calls i.calls) i.stands.peers) q
  held-after_block (Err x) t n q = ap (λ k. holds cmp k q) n

  pub reserved-after_block : {X E : Type 0} (r : Result X E) → IfOk r (λ b. (calls : List (LookupCall P)) → StandsFor cmp peers calls → StandsFor cmp after (asked.Block p at ∷ calls)) → OnErr r (after ≡ peers)
      → (q : P) → reserves cmp after q ≡ reserves cmp peers q
  reserved-after_block (Ok x) t n q = reserved-block i.stands.peers e p at (t (lookup_calls i.calls) i.stands.peers) q
  reserved-after_block (Err x) t n q = ap (λ k. reserves cmp k q) n

  pub told-block : {X E : Type 0} (r : Result X E) → IfOk r (λ b. (calls : List (LookupCall P)) → StandsFor cmp peers calls → StandsFor cmp after (asked.Block p at ∷ calls))
      → IfOk r (λ b. (calls : List (Call P)) → Represents cmp (plain_of peers own places) calls → Represents cmp (plain_of after own places) (call.Block p at ∷ calls))
  told-block (Ok x) t = λ calls s. represents-quiet e calls s (call.Block p at) refl (as-block calls p at (t (lookup_calls calls) s.peers))
  told-block (Err x) t = tt

-- ---- calls that need none

module _ {P : Type 0} {cmp : P → P → Ordering} {peers after : Kept P} {own : Info P} {places : List (P × Option (Info P))} (i : IsPlain cmp (plain_of peers own places)) (e : after.rules ≡ peers.rules) where
  pub plain-unblock : (at : ℕ) → ((calls : List (LookupCall P)) → StandsFor cmp peers calls → StandsFor cmp after (asked.UnblockExpired at ∷ calls)) → IsPlain cmp (plain_of after own places)
  plain-unblock at t = plain-quiet i e (call.UnblockExpired at) refl (as-unblock i.calls at (t (lookup_calls i.calls) i.stands.peers))

  pub held-after_unblock : (at : ℕ) → ((calls : List (LookupCall P)) → StandsFor cmp peers calls → StandsFor cmp after (asked.UnblockExpired at ∷ calls)) → (q : P) → holds cmp after q ≡ holds cmp peers q
  held-after_unblock at t q = held-unblock i.stands.peers e at (t (lookup_calls i.calls) i.stands.peers) q

  pub reserved-after_unblock : (at : ℕ) → ((calls : List (LookupCall P)) → StandsFor cmp peers calls → StandsFor cmp after (asked.UnblockExpired at ∷ calls)) → (q : P) → reserves cmp after q ≡ reserves cmp peers q
  reserved-after_unblock at t q = reserved-unblock i.stands.peers e at (t (lookup_calls i.calls) i.stands.peers) q

  pub plain-listen : (p : P) (at jitter : ℕ) (granted : Bool) → ((calls : List (LookupCall P)) → StandsFor cmp peers calls → StandsFor cmp after (asked.Listen p at jitter granted ∷ calls)) → IsPlain cmp (plain_of after own places)
  plain-listen p at jitter granted t = plain-quiet i e (call.Listen p at jitter granted) refl (as-listen i.calls p at jitter granted (t (lookup_calls i.calls) i.stands.peers))

  pub plain-dial : (p : P) (at jitter : ℕ) (granted : Bool) → ((calls : List (LookupCall P)) → StandsFor cmp peers calls → StandsFor cmp after (asked.Listen p at jitter granted ∷ calls)) → IsPlain cmp (plain_of after own places)
  plain-dial p at jitter granted t = plain-quiet i e (call.Dial p at jitter granted) refl (as-dial i.calls p at jitter granted (t (lookup_calls i.calls) i.stands.peers))

  pub held-after_listen : (o : IsTotalOrder cmp) (p : P) (source : IpAddr) (at jitter : ℕ) (granted : Bool) → ((calls : List (LookupCall P)) → StandsFor cmp peers calls → granted ≡ facts.allows_listen cmp peers.rules calls p source at)
      → ((calls : List (LookupCall P)) → StandsFor cmp peers calls → StandsFor cmp after (asked.Listen p at jitter granted ∷ calls)) → (q : P) → holds cmp after q ≡ (holds cmp peers q || (granted && is_at (cmp p) q))
  held-after_listen o p source at jitter granted g t q =
      held-listen i.stands.peers e o p source at jitter granted (g (lookup_calls i.calls) i.stands.peers) (t (lookup_calls i.calls) i.stands.peers) q

  pub reserved-after_listen : (o : IsTotalOrder cmp) (p : P) (source : IpAddr) (at jitter : ℕ) (granted : Bool) → ((calls : List (LookupCall P)) → StandsFor cmp peers calls → granted ≡ facts.allows_listen cmp peers.rules calls p source at)
      → ((calls : List (LookupCall P)) → StandsFor cmp peers calls → StandsFor cmp after (asked.Listen p at jitter granted ∷ calls)) → (q : P) → reserves cmp after q ≡ (reserves cmp peers q || (granted && is_at (cmp p) q))
  reserved-after_listen o p source at jitter granted g t q =
      reserved-listen i.stands.peers e o p source at jitter granted (g (lookup_calls i.calls) i.stands.peers) (t (lookup_calls i.calls) i.stands.peers) q

  pub plain-connect : (p : P) → ((calls : List (LookupCall P)) (conn : ℕ) → StandsFor cmp peers calls → StandsFor cmp after (asked.Connect p None conn ∷ calls)) → IsPlain cmp (plain_of after own places)
  plain-connect p t = plain-quiet i e (call.Connect p) refl (as-connect i.calls p (t (lookup_calls i.calls) 0 i.stands.peers))

  pub held-after_connect : (p : P) → ((calls : List (LookupCall P)) (conn : ℕ) → StandsFor cmp peers calls → StandsFor cmp after (asked.Connect p None conn ∷ calls)) → (q : P) → holds cmp after q ≡ holds cmp peers q
  held-after_connect p t q = held-connect i.stands.peers e p 0 (t (lookup_calls i.calls) 0 i.stands.peers) q

  pub reserved-after_connect : (p : P) → ((calls : List (LookupCall P)) (conn : ℕ) → StandsFor cmp peers calls → StandsFor cmp after (asked.Connect p None conn ∷ calls)) → (q : P)
      → reserves cmp after q ≡ (reserves cmp peers q && not (is_at (cmp p) q))
  reserved-after_connect p t q = reserved-connect i.stands.peers e i.unstale p 0 (t (lookup_calls i.calls) 0 i.stands.peers) q

  pub held-after_release : (p : P) → ((calls : List (LookupCall P)) → StandsFor cmp peers calls → StandsFor cmp after (asked.Release p ∷ calls)) → (q : P) → holds cmp after q ≡ (holds cmp peers q && not (is_at (cmp p) q))
  held-after_release p t q = held-release i.stands.peers e p (t (lookup_calls i.calls) i.stands.peers) q

  pub reserved-after_release : (p : P) → ((calls : List (LookupCall P)) → StandsFor cmp peers calls → StandsFor cmp after (asked.Release p ∷ calls)) → (q : P) → reserves cmp after q ≡ (reserves cmp peers q && not (is_at (cmp p) q))
  reserved-after_release p t q = reserved-release i.stands.peers e p (t (lookup_calls i.calls) i.stands.peers) q

module _ {P : Type 0} {cmp : P → P → Ordering} {peers : Kept P} {own : Info P} {places : List (P × Option (Info P))} (after : Kept P) (i : IsPlain cmp (plain_of peers own places)) (e : after.rules ≡ peers.rules) where
  pub held-after_track : (index : ℕ) (a b : List (P × Address)) {X E : Type 0} (r : Result X E) → IfOk r (λ o. (calls : List (LookupCall P)) → StandsFor cmp peers calls → StandsFor cmp after (asked.Track index a b ∷ calls))
      → OnErr r ((calls : List (LookupCall P)) → StandsFor cmp peers calls → StandsFor cmp after calls) → (q : P) → holds cmp after q ≡ holds cmp peers q
  held-after_track index a b (Ok x) t n q = held-track i.stands.peers e index a b (t (lookup_calls i.calls) i.stands.peers) q
  held-after_track index a b (Err x) t n q = held-same i.stands.peers e (n (lookup_calls i.calls) i.stands.peers) q

  pub reserved-after_track : (index : ℕ) (a b : List (P × Address)) {X E : Type 0} (r : Result X E) → IfOk r (λ o. (calls : List (LookupCall P)) → StandsFor cmp peers calls → StandsFor cmp after (asked.Track index a b ∷ calls))
      → OnErr r ((calls : List (LookupCall P)) → StandsFor cmp peers calls → StandsFor cmp after calls) → (q : P) → reserves cmp after q ≡ reserves cmp peers q
  reserved-after_track index a b (Ok x) t n q = reserved-track i.stands.peers e index a b (t (lookup_calls i.calls) i.stands.peers) q
  reserved-after_track index a b (Err x) t n q = reserved-same i.stands.peers e (n (lookup_calls i.calls) i.stands.peers) q
