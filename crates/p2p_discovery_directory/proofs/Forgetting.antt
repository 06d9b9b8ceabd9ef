-- A plain directory after a call that may end records, or tells of infos.
use Rattle.std.proofs.Common.{◌≡◌, ℕ, ◌+◌, ◌<◌, arith, if◌then◌else◌, Bool, true, false, cond, ◌&&◌, ◌||◌, not, List, [], ◌∷◌, Option, Some, None, refl, sym, ap, subst, ◌∙◌}
use Rattle.std.proofs.lemmas.Bool.{false≢true, or_right}
use Rattle.std.proofs.lemmas.Cmp.{eq_by_cmp_equiv}
use Rattle.std.specs.Prelude.{is_some, Result, Ok, Err, IfOk, OnOk, OnErr}
use Rattle.std.specs.Cmp.{IsTotalOrder}
use Rattle.std.specs.Map.{lookup, keys_of}
use Rattle.std.specs.List.{filter, find, list_any}
use Rattle.std.specs.BTreeMap.{is_at}
use Rattle.std.specs.Option.{option_map, option_or}
use Rattle.std.specs.declared.cmp.Ordering.{Ordering}
use Rattle.p2p_address.specs.declared.peer.Address.{Address}
use Rattle.p2p_discovery.specs.declared.info.Info.{Info}
use Rattle.p2p_tracker_calls.specs.declared.call.Call.{Call as LookupCall}
use Rattle.p2p_tracker_calls.specs.declared.call.Call.TheVariants as asked
use Rattle.p2p_tracker_calls.specs.Blocks.{is_local}
use Rattle.p2p_tracker_calls.specs.Grants.{is_held}
use Rattle.p2p_tracker_calls.specs.Lives.{given_by, is_alive, address_of}
use Rattle.p2p_tracker_calls.specs.Rules.{Rules}
use Rattle.p2p_tracker_calls.specs.Sets.{is_among, accepted_sets, kept_sets, is_tracked, is_above, only_secondary}
use Rattle.p2p_tracker_directory.specs.Stands.{Kept, StandsFor, record_of}
use Rattle.p2p_tracker_directory.proofs.Exact.{both-ways}
use Rattle.p2p_discovery_directory.specs.declared.call.Call.{Call}
use Rattle.p2p_discovery_directory.specs.declared.call.Call.TheVariants as call
use Rattle.p2p_discovery_directory.specs.AsLookup.{nowhere, lookup_calls, placed}
use Rattle.p2p_discovery_directory.specs.Infos.{kept_after, told_by, info_of}
use Rattle.p2p_discovery_directory.specs.Plain.{Plain, info_in, Represents, IsPlain}
use Rattle.p2p_discovery_directory.specs.Tests.{knows}
use Rattle.p2p_discovery_directory.proofs.Living.{alive-given, alive-before}
use Rattle.p2p_discovery_directory.proofs.Places.{lookup-equal}
use Rattle.p2p_discovery_directory.proofs.Representing.{plain_of, represents-after, represents-same, plain-after, plain-same, gone-of}
use Rattle.p2p_discovery_directory.proofs.Settled.{as-track, as-release}

-- ---- who has a record

some_mapped : {X Y : Type 0} (f : X → Y) (o : Option X) → is_some (option_map f o) ≡ is_some o
some_mapped f None = refl
some_mapped f (Some x) = refl

module _ {P : Type 0} {cmp : P → P → Ordering} where
  -- of another peer there is a record exactly where the calls tell so
  pub knows-alive : {kept : Kept P} {calls : List (LookupCall P)} → StandsFor cmp kept calls → (q : P) → is_local cmp kept.rules q ≡ false → knows cmp kept q ≡ is_alive cmp kept.rules calls q
  unfolding record_of
  knows-alive {kept = kept} {calls = calls} s q other =
      let found : knows cmp kept q ≡ is_some (address_of cmp kept.rules calls q) = ap is_some (s.records q) ∙ rw other (some_mapped _ (address_of cmp kept.rules calls q)) in
      found ∙ sym (s.addressed q other)

  -- equal keys have one record
  pub knows-equal : (o : IsTotalOrder cmp) (kept : Kept P) (p q : P) → is_at (cmp p) q ≡ true → knows cmp kept p ≡ knows cmp kept q
  knows-equal o kept p q e = ap is_some (lookup-equal o p q e kept.records)

module _ {P : Type 0} {cmp : P → P → Ordering} {after : Kept P} (rules : Rules P) (e : after.rules ≡ rules) {calls : List (LookupCall P)} where
  alive-now : StandsFor cmp after calls → (q : P) → is_local cmp rules q ≡ false → knows cmp after q ≡ is_alive cmp rules calls q
  alive-now t q other = subst (λ r. is_local cmp r q ≡ false → knows cmp after q ≡ is_alive cmp r calls q) e (knows-alive t q) other

-- ---- places without a record

module _ {P X : Type 0} {cmp : P → P → Ordering} (o : IsTotalOrder cmp) where
  -- what is found among the keys of entries is there
  pub found-there : (f : P → Bool) (es : List (P × X)) (k : P) → find f (keys_of es) ≡ Some k → is_some (lookup (is_at (cmp k)) es) ≡ true
  found-there f [] k e = absurd (false≢true (ap is_some e))
  found-there f (x ∷ es) k e = at (f x.0) e (found-there f es k)
    where
      some_if : (b : Bool) → (is_some (lookup (is_at (cmp k)) es) ≡ true) → is_some (cond b (Some x.1) (lookup (is_at (cmp k)) es)) ≡ true
      some_if true h = refl
      some_if false h = h

      at : (b : Bool) → cond b (Some x.0) (find f (keys_of es)) ≡ Some k → (find f (keys_of es) ≡ Some k → is_some (lookup (is_at (cmp k)) es) ≡ true)
          → is_some (cond (is_at (cmp k) x.0) (Some x.1) (lookup (is_at (cmp k)) es)) ≡ true
      at true h i = let same : x.0 ≡ k = cc in ap (λ b. is_some (cond b (Some x.1) (lookup (is_at (cmp k)) es))) (ap (is_at (cmp k)) same ∙ (eq_by_cmp_equiv o).refl k)
      at false h i = some_if (is_at (cmp k) x.0) (i h)

  -- where none is found, the key of each entry fails the test
  none-found : (f : P → Bool) → ((p q : P) → is_at (cmp p) q ≡ true → f p ≡ f q) → (es : List (P × X)) → find f (keys_of es) ≡ None → (q : P) → is_some (lookup (is_at (cmp q)) es) ≡ true → f q ≡ false
  none-found f alike [] e q h = absurd (false≢true h)
  none-found f alike (x ∷ es) e q h = at (f x.0) (is_at (cmp q) x.0) refl refl e h (none-found f alike es)
    where
      at : (b c : Bool) → f x.0 ≡ b → is_at (cmp q) x.0 ≡ c → cond b (Some x.0) (find f (keys_of es)) ≡ None → is_some (cond c (Some x.1) (lookup (is_at (cmp q)) es)) ≡ true
          → (find f (keys_of es) ≡ None → (r : P) → is_some (lookup (is_at (cmp r)) es) ≡ true → f r ≡ false) → f q ≡ false
      at true c fx qx g s i = absurd (false≢true (sym (ap is_some g)))
      at false true fx qx g s i = alike q x.0 qx ∙ fx
      at false false fx qx g s i = i g q s

found-passes : {P : Type 0} (f : P → Bool) (ks : List P) (k : P) → find f ks ≡ Some k → f k ≡ true
found-passes f [] k e = absurd (false≢true (ap is_some e))
found-passes f (x ∷ ks) k e = at (f x) refl e (found-passes f ks k)
  where
    at : (b : Bool) → f x ≡ b → cond b (Some x) (find f ks) ≡ Some k → (find f ks ≡ Some k → f k ≡ true) → f k ≡ true
    at true h g i = let same : x ≡ k = cc in ap f (sym same) ∙ h
    at false h g i = i g

not_known : (b : Bool) → not b ≡ true → b ≡ false
not_known true e = sym e
not_known false e = refl

known_then : (b : Bool) → not b ≡ false → b ≡ true
known_then true e = refl
known_then false e = sym e

-- a map with an entry less is shorter
pub less : (b : Bool) (m n : ℕ) → m + (if b then 1 else 0) ≡ n → b ≡ true → m < n
less true m n h e = omega (arith, h)
less false m n h e = absurd (false≢true e)

module _ {P X : Type 0} {cmp : P → P → Ordering} (o : IsTotalOrder cmp) (kept : Kept P) where
  -- a place that goes is of no record
  pub gone-kept : (es fs : List (P × X)) (p : P) → find (λ k. not (knows cmp kept k)) (keys_of es) ≡ Some p → ((q : P) → lookup (is_at (cmp q)) fs ≡ cond (is_at (cmp p) q) None (lookup (is_at (cmp q)) es))
      → (q : P) → cond (knows cmp kept q) (lookup (is_at (cmp q)) fs) None ≡ cond (knows cmp kept q) (lookup (is_at (cmp q)) es) None
  gone-kept es fs p e u q = ap (λ l. cond (knows cmp kept q) l None) (u q) ∙ at (is_at (cmp p) q) refl
    where
      neither : (k : Bool) (l : Option X) → k ≡ false → cond k None None ≡ cond k l None
      neither true l h = absurd (false≢true (sym h))
      neither false l h = refl

      at : (b : Bool) → is_at (cmp p) q ≡ b → cond (knows cmp kept q) (cond b None (lookup (is_at (cmp q)) es)) None ≡ cond (knows cmp kept q) (lookup (is_at (cmp q)) es) None
      at true h =
          neither (knows cmp kept q) (lookup (is_at (cmp q)) es)
          (sym (knows-equal o kept p q h) ∙ not_known (knows cmp kept p) (found-passes (λ k. not (knows cmp kept k)) (keys_of es) p e))
      at false h = refl

  -- once none is without a record
  pub none-gone : (es : List (P × X)) → find (λ k. not (knows cmp kept k)) (keys_of es) ≡ None → (q : P) → lookup (is_at (cmp q)) es ≡ cond (knows cmp kept q) (lookup (is_at (cmp q)) es) None
  none-gone es e q = at (lookup (is_at (cmp q)) es) (λ s. known_then (knows cmp kept q) (none-found o (λ k. not (knows cmp kept k)) (λ p r h. ap not (knows-equal o kept p r h)) es e q s))
    where
      none_either : (b : Bool) → None ≡ cond {A = Option X} b None None
      none_either true = refl
      none_either false = refl

      at : (l : Option X) → (is_some l ≡ true → knows cmp kept q ≡ true) → l ≡ cond (knows cmp kept q) l None
      at None h = none_either (knows cmp kept q)
      at (Some x) h = sym (ap (λ b. cond b (Some x) None) (h refl))

-- ---- one call that may end a record: what is kept of whom there is none is forgotten

kept_while : {I : Type 0} (alive : Bool) (o : Option (Option I)) (f : Option (Option I) → Option I) → f None ≡ None → f (cond alive o None) ≡ cond alive (f o) None
kept_while true o f e = refl
kept_while false o f e = e

some_while : {X : Type 0} (alive : Bool) (o : Option X) → (alive ≡ true → is_some o ≡ true) → is_some (cond alive o None) ≡ alive
some_while true o h = h refl
some_while false o h = refl

module _ {P : Type 0} {cmp : P → P → Ordering} {peers after : Kept P} {own : Info P} {before : List (P × Option (Info P))} (e : after.rules ≡ peers.rules) (made places : List (P × Option (Info P)))
    (same : (q : P) → info_in (lookup (is_at (cmp q)) made) ≡ info_in (lookup (is_at (cmp q)) before))
    (left : (q : P) → is_local cmp peers.rules q ≡ false → lookup (is_at (cmp q)) places ≡ cond (knows cmp after q) (lookup (is_at (cmp q)) made) None) where
  pub forgot-represents : (c : Call P) → ((q : P) (o : Option (Info P)) → told_by cmp c q o ≡ o) → (calls : List (Call P)) → Represents cmp (plain_of peers own before) calls → StandsFor cmp after (lookup_calls (c ∷ calls))
      → Represents cmp (plain_of after own places) (c ∷ calls)
  forgot-represents c quiet calls s t =
      represents-after e calls s places c
      (λ q other.
      let alive = is_alive cmp peers.rules (lookup_calls (c ∷ calls)) q in
      ap info_in (left q other) ∙ (ap (λ b. info_in (cond b (lookup (is_at (cmp q)) made) None)) (alive-now peers.rules e t q other)
      ∙ (kept_while alive (lookup (is_at (cmp q)) made) info_in refl ∙ (ap (λ x. cond alive x None) (same q) ∙ ap (λ x. cond alive x None) (sym (quiet q (info_in (lookup (is_at (cmp q)) before)))))))) t

  pub forgot-plain : (i : IsPlain cmp (plain_of peers own before)) (c : Call P) → ((q : P) (o : Option (Info P)) → told_by cmp c q o ≡ o) → StandsFor cmp after (lookup_calls (c ∷ i.calls))
      → ((q : P) → is_local cmp peers.rules q ≡ false → is_alive cmp peers.rules (lookup_calls (c ∷ i.calls)) q ≡ true → is_some (lookup (is_at (cmp q)) made) ≡ true) → IsPlain cmp (plain_of after own places)
  forgot-plain i c quiet t there =
      plain-after i e places c (forgot-represents c quiet i.calls i.stands t)
      (λ q other. ap is_some (left q other) ∙ (ap (λ b. is_some (cond b (lookup (is_at (cmp q)) made) None)) (alive-now peers.rules e t q other)
      ∙ some_while (is_alive cmp peers.rules (lookup_calls (c ∷ i.calls)) q) (lookup (is_at (cmp q)) made) (there q other)))

  -- where there was no memory, what was made is forgotten
  pub unmade-represents : (calls : List (Call P)) → Represents cmp (plain_of peers own before) calls → StandsFor cmp after (lookup_calls calls) → Represents cmp (plain_of after own places) calls
  unmade-represents calls s t =
      represents-same e calls s places
      (λ q other. ap info_in (left q other) ∙ (ap (λ b. info_in (cond b (lookup (is_at (cmp q)) made) None)) (alive-now peers.rules e t q other)
      ∙ (kept_while (is_alive cmp peers.rules (lookup_calls calls) q) (lookup (is_at (cmp q)) made) info_in refl
      ∙ (ap (λ x. cond (is_alive cmp peers.rules (lookup_calls calls) q) x None) (same q)
      ∙ unless_dead (is_alive cmp peers.rules (lookup_calls calls) q) (info_in (lookup (is_at (cmp q)) before)) (gone-of calls s q other))))) t
    where
      unless_dead : {X : Type 0} (alive : Bool) (x : Option X) → (alive ≡ false → x ≡ None) → cond alive x None ≡ x
      unless_dead true x h = refl
      unless_dead false x h = sym (h refl)

  pub unmade-plain : (i : IsPlain cmp (plain_of peers own before)) → StandsFor cmp after (lookup_calls i.calls)
      → ((q : P) → is_some (lookup (is_at (cmp q)) before) ≡ true → is_some (lookup (is_at (cmp q)) made) ≡ true) → IsPlain cmp (plain_of after own places)
  unmade-plain i t there =
      plain-same i e places (unmade-represents i.calls i.stands t)
      (λ q other. ap is_some (left q other) ∙ (ap (λ b. is_some (cond b (lookup (is_at (cmp q)) made) None)) (alive-now peers.rules e t q other)
      ∙ (some_while (is_alive cmp peers.rules (lookup_calls i.calls) q) (lookup (is_at (cmp q)) made) (λ alive. there q (i.placed q other ∙ alive)) ∙ sym (i.placed q other))))

-- ---- a release

either_way : {X : Type 0} (k at : Bool) (l : Option X) → at ≡ true → cond (not k && at) None l ≡ cond k l None
either_way true true l e = refl
either_way false true l e = refl
either_way k false l e = absurd (false≢true e)

unless_gone : {X : Type 0} (k at : Bool) (known : Bool) (l : Option X) → at ≡ false → (known ≡ false → l ≡ None) → cond (not k && at) None l ≡ cond known l None
unless_gone true at true l e h = refl
unless_gone true at false l e h = h refl
unless_gone false true known l e h = absurd (false≢true (sym e))
unless_gone false false true l e h = refl
unless_gone false false false l e h = h refl

no_some : {X : Type 0} (o : Option X) → is_some o ≡ false → o ≡ None
no_some None e = refl
no_some (Some x) e = absurd (false≢true (sym e))

-- the same by the peer's name
pub ended-of : {P : Type 0} (cmp : P → P → Ordering) (after : Kept P) (before places : List (P × Option (Info P))) (x p : P) → x ≡ p
    → ((q : P) → lookup (is_at (cmp q)) places ≡ cond (not (knows cmp after x) && is_at (cmp x) q) None (lookup (is_at (cmp q)) before))
    → (q : P) → lookup (is_at (cmp q)) places ≡ cond (not (knows cmp after p) && is_at (cmp p) q) None (lookup (is_at (cmp q)) before)
ended-of cmp after before places x p e h q = h q ∙ ap (λ y. cond (not (knows cmp after y) && is_at (cmp y) q) None (lookup (is_at (cmp q)) before)) e

module _ {P : Type 0} {cmp : P → P → Ordering} {peers after : Kept P} {own : Info P} {before : List (P × Option (Info P))} (o : IsTotalOrder cmp) (i : IsPlain cmp (plain_of peers own before)) (e : after.rules ≡ peers.rules) (p : P)
    (places : List (P × Option (Info P))) (ended : (q : P) → lookup (is_at (cmp q)) places ≡ cond (not (knows cmp after p) && is_at (cmp p) q) None (lookup (is_at (cmp q)) before))
    (stands : (calls : List (LookupCall P)) → StandsFor cmp peers calls → StandsFor cmp after (asked.Release p ∷ calls)) where
  now_stands : StandsFor cmp after (asked.Release p ∷ lookup_calls i.calls)
  now_stands = stands (lookup_calls i.calls) i.stands.peers

  -- of another key the record stays
  stays_of : (q : P) → is_at (cmp p) q ≡ false → is_alive cmp peers.rules (asked.Release p ∷ lookup_calls i.calls) q ≡ is_alive cmp peers.rules (lookup_calls i.calls) q
  unfolding is_tracked kept_sets accepted_sets is_held
  stays_of q apart = ap (λ b. is_tracked cmp peers.rules (lookup_calls i.calls) q || (not b && is_held cmp (lookup_calls i.calls) q)) apart

  knows_now : (q : P) → is_local cmp peers.rules q ≡ false → knows cmp after q ≡ is_alive cmp peers.rules (asked.Release p ∷ lookup_calls i.calls) q
  knows_now q = subst (λ r. is_local cmp r q ≡ false → knows cmp after q ≡ is_alive cmp r (asked.Release p ∷ lookup_calls i.calls) q) e (knows-alive now_stands q)

  left_of : (q : P) → is_local cmp peers.rules q ≡ false → lookup (is_at (cmp q)) places ≡ cond (knows cmp after q) (lookup (is_at (cmp q)) before) None
  left_of q other = ended q ∙ at (is_at (cmp p) q) refl
    where
      at : (b : Bool) → is_at (cmp p) q ≡ b → cond (not (knows cmp after p) && is_at (cmp p) q) None (lookup (is_at (cmp q)) before) ≡ cond (knows cmp after q) (lookup (is_at (cmp q)) before) None
      at true same = either_way (knows cmp after p) (is_at (cmp p) q) (lookup (is_at (cmp q)) before) same ∙ ap (λ k. cond k (lookup (is_at (cmp q)) before) None) (knows-equal o after p q same)
      at false apart =
          unless_gone (knows cmp after p) (is_at (cmp p) q) (knows cmp after q) (lookup (is_at (cmp q)) before) apart
          (λ unknown. no_some (lookup (is_at (cmp q)) before) (i.placed q other ∙ (sym (stays_of q apart) ∙ (sym (knows_now q other) ∙ unknown))))

  pub told-release : (calls : List (Call P)) → Represents cmp (plain_of peers own before) calls → Represents cmp (plain_of after own places) (call.Release p ∷ calls)
  told-release calls s =
      forgot-represents e before places (λ q. refl) left_of (call.Release p) (λ q x. refl) calls s (as-release calls p (stands (lookup_calls calls) s.peers))

  pub plain-release : IsPlain cmp (plain_of after own places)
  unfolding lookup_calls
  plain-release =
      forgot-plain e before places (λ q. refl) left_of i (call.Release p) (λ q x. refl) (as-release i.calls p now_stands)
      (λ q other alive. i.placed q other ∙ alive-before e (asked.Release p) (lookup_calls i.calls) i.stands.peers now_stands q other refl alive)

-- ---- a set that is handed in

some_first : {X : Type 0} (b : Bool) (x : X) (l : Option X) → is_some (cond b (Some x) l) ≡ (b || is_some l)
some_first true x l = refl
some_first false x l = refl

or_more : (t a b : Bool) → (a ≡ true → b ≡ true) → (t || a) ≡ true → (t || b) ≡ true
or_more true a b f h = refl
or_more false a b f h = f h

some_placed : {P : Type 0} (test : P → Bool) (keys : List P) → is_some (lookup test (placed keys)) ≡ list_any test keys
some_placed test [] = refl
some_placed test (k ∷ keys) = some_first (test k) nowhere (lookup test (placed keys)) ∙ ap (λ b. test k || b) (some_placed test keys)

some_filtered : {P X : Type 0} (test : P → Bool) (keep : P × X → Bool) (es : List (P × X)) → is_some (lookup test (filter keep es)) ≡ true → is_some (lookup test es) ≡ true
some_filtered test keep [] h = h
some_filtered test keep (x ∷ es) h =
    some_first (test x.0) x.1 (lookup test es)
    ∙ or_more (test x.0) (is_some (lookup test (filter keep es))) (is_some (lookup test es)) (some_filtered test keep es) (at (keep x) h)
  where
    at : (kept : Bool) → is_some (lookup test (cond kept (x ∷ filter keep es) (filter keep es))) ≡ true → (test x.0 || is_some (lookup test (filter keep es))) ≡ true
    at true g = sym (some_first (test x.0) x.1 (lookup test (filter keep es))) ∙ g
    at false g = or_right (test x.0) (is_some (lookup test (filter keep es))) g

some_if : {X : Type 0} (b : Bool) (o : Option X) → is_some (cond b o None) ≡ true → is_some o ≡ true
some_if true o h = h
some_if false o h = absurd (false≢true h)

some_of : {X : Type 0} (o p : Option X) → is_some (option_or o p) ≡ true → (is_some o || is_some p) ≡ true
some_of None p h = h
some_of (Some x) p h = refl

both_more : (a b c d : Bool) → (b ≡ true → d ≡ true) → a ≡ c → (a || b) ≡ true → (c || d) ≡ true
both_more a b c d f e h = or_more c b d f (ap (λ x. x || b) (sym e) ∙ h)

module _ {P : Type 0} (cmp : P → P → Ordering) where
  -- who is given an address by a set stands in it
  given_among : (index : ℕ) (primary secondary : List P) (calls : List (LookupCall P)) (q : P) → is_some (given_by cmp (asked.Track index (placed primary) (placed secondary)) calls q) ≡ true
      → (is_among cmp primary q || is_among cmp secondary q) ≡ true
  given_among index primary secondary calls q h =
      let test = λ (p : P). is_at (cmp p) q in
      let first = lookup test (placed primary) in
      let second = lookup test (only_secondary cmp (placed primary) (placed secondary)) in
      both_more (is_some first) (is_some second) (list_any test primary) (list_any test secondary)
      (λ g. sym (some_placed test secondary) ∙ some_filtered test (λ e. not (list_any (is_at (cmp e.0)) (keys_of (placed primary)))) (placed secondary) g)
      (some_placed test primary)
      (some_of first second (some_if (is_above index (accepted_sets cmp calls)) (option_or first second) h))

module _ {P : Type 0} (cmp : P → P → Ordering) (peers after : Kept P) (own : Info P) (before : List (P × Option (Info P))) (e : after.rules ≡ peers.rules) (made places : List (P × Option (Info P)))
    (same : (q : P) → info_in (lookup (is_at (cmp q)) made) ≡ info_in (lookup (is_at (cmp q)) before))
    (left : (q : P) → lookup (is_at (cmp q)) places ≡ cond (knows cmp after q) (lookup (is_at (cmp q)) made) None)
    (index : ℕ) (primary secondary : List P) (a b : List (P × Address)) (ea : a ≡ placed primary) (eb : b ≡ placed secondary) where
  pub told-track : {X E : Type 0} (r : Result X E) → IfOk r (λ x. (calls : List (LookupCall P)) → StandsFor cmp peers calls → StandsFor cmp after (asked.Track index a b ∷ calls))
      → IfOk r (λ x. (calls : List (Call P)) → Represents cmp (plain_of peers own before) calls → Represents cmp (plain_of after own places) (call.Track index primary secondary ∷ calls))
  told-track (Ok x) t = λ calls s. forgot-represents e made places same (λ q other. left q) (call.Track index primary secondary) (λ q y. refl) calls s (as-track calls index primary secondary a b ea eb (t (lookup_calls calls) s.peers))
  told-track (Err x) t = tt

  pub told-unmade : {X E : Type 0} (r : Result X E) → OnErr r ((calls : List (LookupCall P)) → StandsFor cmp peers calls → StandsFor cmp after calls)
      → OnErr r ((calls : List (Call P)) → Represents cmp (plain_of peers own before) calls → Represents cmp (plain_of after own places) calls)
  told-unmade (Ok x) n = tt
  told-unmade (Err x) n = λ calls s. unmade-represents e made places same (λ q other. left q) calls s (n (lookup_calls calls) s.peers)

  module _ (i : IsPlain cmp (plain_of peers own before)) (kept : (q : P) → is_some (lookup (is_at (cmp q)) before) ≡ true → is_some (lookup (is_at (cmp q)) made) ≡ true) where
    -- who has a record then has a place
    has_place : StandsFor cmp after (lookup_calls (call.Track index primary secondary ∷ i.calls)) → ((q : P) → (is_among cmp primary q || is_among cmp secondary q) ≡ true → is_some (lookup (is_at (cmp q)) made) ≡ true)
        → (q : P) → is_local cmp peers.rules q ≡ false → is_alive cmp peers.rules (lookup_calls (call.Track index primary secondary ∷ i.calls)) q ≡ true → is_some (lookup (is_at (cmp q)) made) ≡ true
    unfolding lookup_calls
    has_place t there q other alive =
        let given = given_by cmp (asked.Track index (placed primary) (placed secondary)) (lookup_calls i.calls) q in
        at (is_some given) refl (some_of given (address_of cmp peers.rules (lookup_calls i.calls) q)
        (alive-given e (asked.Track index (placed primary) (placed secondary)) (lookup_calls i.calls) i.stands.peers t q other alive))
      where
        at : (b : Bool) → is_some (given_by cmp (asked.Track index (placed primary) (placed secondary)) (lookup_calls i.calls) q) ≡ b
            → (is_some (given_by cmp (asked.Track index (placed primary) (placed secondary)) (lookup_calls i.calls) q) || is_some (address_of cmp peers.rules (lookup_calls i.calls) q)) ≡ true
            → is_some (lookup (is_at (cmp q)) made) ≡ true
        at true h either = there q (given_among cmp index primary secondary (lookup_calls i.calls) q h)
        at false h either =
            kept q (i.placed q other ∙ (i.stands.peers.addressed q other ∙ (sym (ap (λ x. x || is_some (address_of cmp peers.rules (lookup_calls i.calls) q)) h) ∙ either)))

    pub plain-track : {X E : Type 0} (r : Result X E) → IfOk r (λ x. (calls : List (LookupCall P)) → StandsFor cmp peers calls → StandsFor cmp after (asked.Track index a b ∷ calls))
        → OnErr r ((calls : List (LookupCall P)) → StandsFor cmp peers calls → StandsFor cmp after calls)
        → OnOk r ((q : P) → (is_among cmp primary q || is_among cmp secondary q) ≡ true → is_some (lookup (is_at (cmp q)) made) ≡ true) → IsPlain cmp (plain_of after own places)
    plain-track (Ok x) t n there =
        let now = as-track i.calls index primary secondary a b ea eb (t (lookup_calls i.calls) i.stands.peers) in
        forgot-plain e made places same (λ q other. left q) i (call.Track index primary secondary) (λ q y. refl) now (has_place now there)
    plain-track (Err x) t n there = unmade-plain e made places same (λ q other. left q) i (n (lookup_calls i.calls) i.stands.peers) kept

-- ---- infos that are told

as-told : {P : Type 0} {cmp : P → P → Ordering} {peers : Kept P} (infos : List (Info P)) (calls : List (Call P)) → StandsFor cmp peers (lookup_calls calls) → StandsFor cmp peers (lookup_calls (call.UpdatePeers infos ∷ calls))
unfolding lookup_calls
as-told infos calls s = s

alive-told : {P : Type 0} (cmp : P → P → Ordering) (rules : Rules P) (infos : List (Info P)) (calls : List (Call P)) (q : P) → is_alive cmp rules (lookup_calls (call.UpdatePeers infos ∷ calls)) q ≡ is_alive cmp rules (lookup_calls calls) q
unfolding lookup_calls
alive-told cmp rules infos calls q = refl

module _ {P : Type 0} {cmp : P → P → Ordering} {peers : Kept P} {own : Info P} {before : List (P × Option (Info P))} (infos : List (Info P)) (places : List (P × Option (Info P)))
    (told : (q : P) → lookup (is_at (cmp q)) places ≡ option_map (kept_after cmp q infos) (lookup (is_at (cmp q)) before)) where
  told_at : (i : IsPlain cmp (plain_of peers own before)) (q : P) → is_local cmp peers.rules q ≡ false → (alive : Bool) → is_some (lookup (is_at (cmp q)) before) ≡ alive
      → info_in (lookup (is_at (cmp q)) places) ≡ cond alive (kept_after cmp q infos (info_in (lookup (is_at (cmp q)) before))) None
  told_at i q other alive e = ap info_in (told q) ∙ at (lookup (is_at (cmp q)) before) alive e
    where
      at : (x : Option (Option (Info P))) (b : Bool) → is_some x ≡ b → info_in (option_map (kept_after cmp q infos) x) ≡ cond b (kept_after cmp q infos (info_in x)) None
      at None true h = absurd (false≢true h)
      at None false h = refl
      at (Some x) true h = refl
      at (Some x) false h = absurd (false≢true (sym h))

  module _ (i : IsPlain cmp (plain_of peers own before)) where
    -- a record has a place, whatever calls the directory stands for
    placed_by : (calls : List (Call P)) → Represents cmp (plain_of peers own before) calls → (q : P) → is_local cmp peers.rules q ≡ false → is_some (lookup (is_at (cmp q)) before) ≡ is_alive cmp peers.rules (lookup_calls calls) q
    placed_by calls s q other = i.placed q other ∙ (sym (knows-alive i.stands.peers q other) ∙ knows-alive s.peers q other)

    pub told-update : (calls : List (Call P)) → Represents cmp (plain_of peers own before) calls → Represents cmp (plain_of peers own places) (call.UpdatePeers infos ∷ calls)
    told-update calls s =
        represents-after refl calls s places (call.UpdatePeers infos)
        (λ q other. told_at i q other (is_alive cmp peers.rules (lookup_calls (call.UpdatePeers infos ∷ calls)) q) (placed_by calls s q other ∙ sym (alive-told cmp peers.rules infos calls q))) (as-told infos calls s.peers)

    pub plain-update : IsPlain cmp (plain_of peers own places)
    plain-update =
        plain-after i refl places (call.UpdatePeers infos) (told-update i.calls i.stands)
        (λ q other. ap is_some (told q) ∙ (some_mapped (kept_after cmp q infos) (lookup (is_at (cmp q)) before) ∙ (i.placed q other ∙ sym (alive-told cmp peers.rules infos i.calls q))))
