-- What a step makes of the connections that are kept.
use Rattle.std.proofs.Common.{◌≡◌, ℕ, zero, suc, ◌+◌, ◌<◌, Bool, true, false, cond, ◌&&◌, ◌||◌, not, List, [], ◌∷◌, length, get_or, take, Option, Some, None, refl, sym, ap, ◌∙◌, subst, arith, add-one}
use Rattle.std.proofs.lemmas.Bool.{false≢true}
use Rattle.std.specs.Prelude.{is_some}
use Rattle.std.specs.Option.{option_map, option_or}
use Rattle.std.specs.Cmp.{IsTotalOrder}
use Rattle.std.specs.Map.{lookup}
use Rattle.std.specs.BTreeMap.{is_at}
use Rattle.std.specs.declared.cmp.Ordering.{Ordering}
use Rattle.p2p_address.specs.declared.peer.Address.{Address}
use Rattle.p2p_tracker_calls.specs.declared.call.Call.{Call}
use Rattle.p2p_tracker_calls.specs.declared.call.Call.TheVariants as call
use Rattle.p2p_tracker_calls.specs.Rules.{Rules}
use Rattle.p2p_tracker_calls.specs.Sets.{is_above, is_among, accepted_sets, is_tracked, primary_sets, secondary_sets}
use Rattle.p2p_tracker_calls.specs.Grants.{Grant, is_held}
use Rattle.p2p_tracker_calls.specs.Blocks.{is_local, is_blocked}
use Rattle.p2p_tracker_calls.specs.Kills.{is_killed}
use Rattle.p2p_tracker_calls.specs.Lives.{address_of, last_grant, is_stale, is_connected, is_eligible, accepts, connects, is_overwritten}
use Rattle.p2p_tracker_calls.specs.Keeping.{begun_by, kept_of, is_kept, ends_connection}
use Rattle.p2p_tracker_calls.proofs.Eligible.{is_kept-more}
use Rattle.p2p_tracker_calls.proofs.KeptCalls.{kept-after}
use Rattle.p2p_tracker_directory.specs.Recorded.{is_reserved_in, is_stale_in, differs_in}
use Rattle.p2p_tracker_directory.specs.Stands.{Kept, StandsFor, record_of}
use Rattle.p2p_tracker_directory.proofs.Steps.{peer, own}
use Rattle.p2p_tracker_directory.proofs.Written.{lookup_same}
use Rattle.p2p_tracker_directory.proofs.Asked.{stale-kept, overwritten-kept}
use Rattle.p2p_tracker_directory.proofs.Standing.{is_eligible-kept}
use Rattle.p2p_tracker.specs.Following.{Follows}
use Rattle.p2p_tracker.specs.Serving.{IsEligible}
use Rattle.p2p_tracker.proofs.Standing.{eligible-same}

and_true : (b : Bool) → (b && true) ≡ b
and_true true = refl
and_true false = refl

and_false : (b : Bool) → (b && false) ≡ false
and_false true = refl
and_false false = refl

or_false : (b : Bool) → (b || false) ≡ b
or_false true = refl
or_false false = refl

or_assoc : (a b c : Bool) → (a || (b || c)) ≡ ((a || b) || c)
or_assoc true b c = refl
or_assoc false b c = refl

or_true : (b : Bool) → (b || true) ≡ true
or_true true = refl
or_true false = refl

is_false : (b : Bool) → not b ≡ true → b ≡ false
is_false true h = sym h
is_false false h = refl

first : (a b : Bool) → (a && b) ≡ true → a ≡ true
first true b h = refl
first false b h = h

last : (a b : Bool) → (a && b) ≡ true → b ≡ true
last true b h = h
last false b h = absurd (false≢true h)

was : (joins kept lasts : Bool) → joins ≡ false → ((joins || kept) && lasts) ≡ true → kept ≡ true
was true kept lasts n h = absurd (false≢true (sym n))
was false true lasts n h = refl
was false false lasts n h = h

joined : {Q : Type 0} (joins kept lasts : Bool) → ((joins || kept) && lasts) ≡ true → (joins ≡ true → Q) → (kept ≡ true → Q) → Q
joined true kept lasts h f g = f refl
joined false true lasts h f g = g refl
joined false false lasts h f g = absurd (false≢true h)

killed_step : (kept killed after : Bool) → (kept ≡ true → after ≡ not killed) → (kept ≡ false → after ≡ false) → (not killed && kept) ≡ after
killed_step true killed after h k = and_true (not killed) ∙ sym (h refl)
killed_step false killed after h k = and_false (not killed) ∙ sym (k refl)

turned : (b at changed : Bool) → (at ≡ true → b ≡ changed) → (b && at) ≡ (at && changed)
turned b true changed h = and_true b ∙ h refl
turned b false changed h = and_false b

accepted_step : (a b s t : Bool) → a ≡ b → (a ≡ true → s ≡ t) → (a && not s) ≡ (b && not t)
accepted_step true true s t e h = ap not (h refl)
accepted_step true false s t e h = absurd (false≢true (sym e))
accepted_step false true s t e h = absurd (false≢true e)
accepted_step false false s t e h = refl

held_step : (local : Bool) (cooldown n m : ℕ) (held joins stale : Bool) (g : Option Grant) (a : Option Address)
    → is_reserved_in (cond local (Some (own n m)) (option_map (peer cooldown held joins n m stale g) a)) ≡ true → held ≡ true
unfolding own peer
held_step true cooldown n m held joins stale g a e = absurd (false≢true e)
held_step false cooldown n m held joins stale g None e = absurd (false≢true e)
held_step false cooldown n m true joins stale g (Some a) e = refl
held_step false cooldown n m false joins stale g (Some a) e = absurd (false≢true e)

only_some : (o : Option ℕ) → cond (is_some o) o None ≡ o
only_some None = refl
only_some (Some n) = refl

ended_once : (b : Bool) (o : Option ℕ) → cond (not b && is_some o) o None ≡ cond b None o
ended_once true o = refl
ended_once false o = only_some o

begun_once : (a : Bool) (conn : ℕ) (o : Option ℕ) → cond (a || is_some o) (option_or (cond a (Some conn) None) o) None ≡ cond a (Some conn) o
begun_once true conn o = refl
begun_once false conn o = only_some o

module _ {P : Type 0} (cmp : P → P → Ordering) (rules : Rules P) (calls : List (Call P)) (q : P) where
  kept_by : (c : Call P) → begun_by cmp rules c calls q ≡ None → (b : Bool) → is_kept cmp rules (c ∷ calls) q ≡ b → kept_of cmp rules (c ∷ calls) q ≡ cond b (kept_of cmp rules calls q) None
  kept_by c n b e =
      (kept-after cmp rules calls q).begun c
      ∙ (ap (λ x. cond x (option_or (begun_by cmp rules c calls q) (kept_of cmp rules calls q)) None) e
      ∙ ap (λ o. cond b (option_or o (kept_of cmp rules calls q)) None) n)

  -- a call that ends nothing, and one that ends the connection of a key
  kept_same : (c : Call P) → begun_by cmp rules c calls q ≡ None → is_kept cmp rules (c ∷ calls) q ≡ is_kept cmp rules calls q → kept_of cmp rules calls q ≡ kept_of cmp rules (c ∷ calls) q
  kept_same c n e = sym (kept_by c n (is_kept cmp rules calls q) e ∙ only_some (kept_of cmp rules calls q))

  kept_ended : (c : Call P) → begun_by cmp rules c calls q ≡ None → (b : Bool) → (not b && is_kept cmp rules calls q) ≡ is_kept cmp rules (c ∷ calls) q
      → cond b None (kept_of cmp rules calls q) ≡ kept_of cmp rules (c ∷ calls) q
  kept_ended c n b e = sym (kept_by c n (not b && is_kept cmp rules calls q) (sym e) ∙ ended_once b (kept_of cmp rules calls q))

  kept_begun : (p : P) (t conn : ℕ) → cond (is_at (cmp p) q && accepts cmp rules calls q (Some t)) (Some conn) (kept_of cmp rules calls q) ≡ kept_of cmp rules (call.Connect p (Some t) conn ∷ calls) q
  kept_begun p t conn =
      sym ((kept-after cmp rules calls q).begun (call.Connect p (Some t) conn)
      ∙ (ap (λ x. cond x (option_or (begun_by cmp rules (call.Connect p (Some t) conn) calls q) (kept_of cmp rules calls q)) None) ((kept-after cmp rules calls q).connect p t conn)
      ∙ begun_once (is_at (cmp p) q && accepts cmp rules calls q (Some t)) conn (kept_of cmp rules calls q)))

  was_kept : (c : Call P) → connects cmp rules c calls q ≡ false → is_kept cmp rules (c ∷ calls) q ≡ true → is_kept cmp rules calls q ≡ true
  was_kept c n h = was (connects cmp rules c calls q) (is_kept cmp rules calls q) (not (ends_connection cmp rules c calls q)) n (sym (is_kept-more cmp rules c calls q) ∙ h)

  connected_or_kept : {Q : Type 0} (c : Call P) → is_kept cmp rules (c ∷ calls) q ≡ true → (connects cmp rules c calls q ≡ true → Q) → (is_kept cmp rules calls q ≡ true → Q) → Q
  connected_or_kept c h f g = joined (connects cmp rules c calls q) (is_kept cmp rules calls q) (not (ends_connection cmp rules c calls q)) (sym (is_kept-more cmp rules c calls q) ∙ h) f g

  reserved_held : is_reserved_in (record_of cmp rules calls q) ≡ true → is_held cmp calls q ≡ true
  unfolding record_of own peer
  reserved_held e =
      held_step (is_local cmp rules q) rules.cooldown (primary_sets cmp rules calls q) (secondary_sets cmp rules calls q)
      (is_held cmp calls q) (is_connected cmp rules calls q) (is_stale cmp rules calls q) (last_grant cmp rules calls q) (address_of cmp rules calls q) e

  other : (t : ℕ) → is_eligible cmp rules calls q t ≡ true → is_local cmp rules q ≡ false
  other t h = is_false (is_local cmp rules q) (first (not (is_local cmp rules q)) (is_tracked cmp rules calls q)
      (first (not (is_local cmp rules q) && is_tracked cmp rules calls q) (not (is_blocked cmp rules calls q t)) h))

module _ {P : Type 0} {cmp : P → P → Ordering} where
  -- a call that is no connect
  follows-on : (d e : Kept P) (cs ds : List (P × ℕ)) (calls : List (Call P)) (c : Call P) → e.rules ≡ d.rules → Follows cmp d cs calls → StandsFor cmp e (c ∷ calls)
      → ((q : P) → connects cmp d.rules c calls q ≡ false)
      → ((q : P) → lookup (is_at (cmp q)) ds ≡ kept_of cmp d.rules (c ∷ calls) q)
      → Follows cmp e ds (c ∷ calls)
  follows-on d e cs ds calls c r f s n k = record {
    stands = s;
    exactly = subst (λ (x : Rules P). (q : P) → lookup (is_at (cmp q)) ds ≡ kept_of cmp x (c ∷ calls) q) (sym r) k;
    held = subst (λ (x : Rules P). (q : P) → is_kept cmp x (c ∷ calls) q ≡ true → is_held cmp (c ∷ calls) q ≡ true) (sym r)
        (λ q h. (kept-after cmp d.rules calls q).held c (f.held q) (λ j. absurd (false≢true (sym (n q) ∙ j))) h);
    others = subst (λ (x : Rules P). (q : P) → is_kept cmp x (c ∷ calls) q ≡ true → is_local cmp x q ≡ false) (sym r)
        (λ q h. f.others q (was_kept cmp d.rules calls q c (n q) h));
  }

  module _ (d e : Kept P) (cs : List (P × ℕ)) (calls : List (Call P)) (r : e.rules ≡ d.rules) (f : Follows cmp d cs calls) where
    pub follows-unblock : (t : ℕ) → StandsFor cmp e (call.UnblockExpired t ∷ calls) → Follows cmp e cs (call.UnblockExpired t ∷ calls)
    follows-unblock t s = follows-on d e cs cs calls (call.UnblockExpired t) r f s (λ q. refl) (λ q. f.exactly q ∙ kept_same cmp d.rules calls q (call.UnblockExpired t) refl ((kept-after cmp d.rules calls q).unblock t))

    pub follows-dial : (p : P) (t j : ℕ) (b : Bool) → StandsFor cmp e (call.Dial p t j b ∷ calls) → Follows cmp e cs (call.Dial p t j b ∷ calls)
    follows-dial p t j b s = follows-on d e cs cs calls (call.Dial p t j b) r f s (λ q. refl) (λ q. f.exactly q ∙ kept_same cmp d.rules calls q (call.Dial p t j b) refl ((kept-after cmp d.rules calls q).dial p t j b))

    pub follows-listen : (p : P) (t j : ℕ) (b : Bool) → StandsFor cmp e (call.Listen p t j b ∷ calls) → Follows cmp e cs (call.Listen p t j b ∷ calls)
    follows-listen p t j b s = follows-on d e cs cs calls (call.Listen p t j b) r f s (λ q. refl) (λ q. f.exactly q ∙ kept_same cmp d.rules calls q (call.Listen p t j b) refl ((kept-after cmp d.rules calls q).listen p t j b))

    -- the set is refused
    pub follows-refused : (index : ℕ) (primary secondary : List (P × Address)) → is_above index (accepted_sets cmp calls) ≡ false
        → StandsFor cmp e (call.Track index primary secondary ∷ calls) → Follows cmp e cs (call.Track index primary secondary ∷ calls)
    follows-refused index primary secondary a s =
        follows-on d e cs cs calls (call.Track index primary secondary) r f s (λ q. refl) (λ q. f.exactly q ∙ kept_same cmp d.rules calls q (call.Track index primary secondary) refl ((kept-after cmp d.rules calls q).refused index primary secondary a))

    module _ (ds : List (P × ℕ)) where
      pub follows-release : (p : P) → StandsFor cmp e (call.Release p ∷ calls)
          → ((q : P) → lookup (is_at (cmp q)) ds ≡ cond (is_at (cmp p) q) None (lookup (is_at (cmp q)) cs)) → Follows cmp e ds (call.Release p ∷ calls)
      follows-release p s l = follows-on d e cs ds calls (call.Release p) r f s (λ q. refl)
          (λ q. l q ∙ ap (λ o. cond (is_at (cmp p) q) None o) (f.exactly q) ∙ kept_ended cmp d.rules calls q (call.Release p) refl (is_at (cmp p) q) (sym ((kept-after cmp d.rules calls q).release p)))

      pub follows-block : (p : P) (t : ℕ) → StandsFor cmp e (call.Block p t ∷ calls)
          → ((q : P) → lookup (is_at (cmp q)) ds ≡ cond (is_at (cmp p) q) None (lookup (is_at (cmp q)) cs)) → Follows cmp e ds (call.Block p t ∷ calls)
      follows-block p t s l = follows-on d e cs ds calls (call.Block p t) r f s (λ q. refl)
          (λ q. l q ∙ ap (λ o. cond (is_at (cmp p) q) None o) (f.exactly q) ∙ kept_ended cmp d.rules calls q (call.Block p t) refl (is_at (cmp p) q) (sym ((kept-after cmp d.rules calls q).block p t)))

      -- the set is accepted, and these keys are killed
      pub follows-track : (index : ℕ) (primary secondary : List (P × Address)) (killed : List P) → is_above index (accepted_sets cmp calls) ≡ true
          → ((q : P) → is_among cmp killed q ≡ is_killed cmp d.rules index primary secondary calls q)
          → StandsFor cmp e (call.Track index primary secondary ∷ calls)
          → ((q : P) → lookup (is_at (cmp q)) ds ≡ cond (is_among cmp killed q) None (lookup (is_at (cmp q)) cs)) → Follows cmp e ds (call.Track index primary secondary ∷ calls)
      follows-track index primary secondary killed a m s l = follows-on d e cs ds calls (call.Track index primary secondary) r f s (λ q. refl)
          (λ q. l q ∙ ap (λ o. cond (is_among cmp killed q) None o) (f.exactly q)
          ∙ kept_ended cmp d.rules calls q (call.Track index primary secondary) refl (is_among cmp killed q) (ap (λ b. not b && is_kept cmp d.rules calls q) (m q)
          ∙ killed_step (is_kept cmp d.rules calls q) (is_killed cmp d.rules index primary secondary calls q) (is_kept cmp d.rules (call.Track index primary secondary ∷ calls) q)
          (λ h. (kept-after cmp d.rules calls q).kill index primary secondary a h (f.held q h) (f.others q h))
          (λ h. (kept-after cmp d.rules calls q).track index primary secondary
          ∙ ap (λ b. (b && not (is_stale cmp d.rules (call.Track index primary secondary ∷ calls) q)) && is_tracked cmp d.rules (call.Track index primary secondary ∷ calls) q) h)))

module _ {P : Type 0} {cmp : P → P → Ordering} (o : IsTotalOrder cmp) (d e : Kept P) (cs ds : List (P × ℕ)) (calls : List (Call P)) (r : e.rules ≡ d.rules) (f : Follows cmp d cs calls) where
  overwritten_same : (p q : P) (given : Address) → is_at (cmp p) q ≡ true → is_overwritten cmp d.rules calls p given ≡ is_overwritten cmp d.rules calls q given
  overwritten_same p q given h =
      sym (overwritten-kept o f.stands p given) ∙ (ap (λ x. differs_in x given) (lookup_same o p q d.records h) ∙ overwritten-kept o f.stands q given)

  has_address : (q : P) → is_kept cmp d.rules calls q ≡ true → is_some (address_of cmp d.rules calls q) ≡ true
  has_address q h = sym (f.stands.addressed q (f.others q h)) ∙ (ap (λ b. is_tracked cmp d.rules calls q || b) (f.held q h) ∙ or_true (is_tracked cmp d.rules calls q))

  -- an address is given, which is another one or not
  pub follows-overwrite : (p : P) (given : Address) (b : Bool) → b ≡ is_overwritten cmp d.rules calls p given → StandsFor cmp e (call.Overwrite p given ∷ calls)
      → ((q : P) → lookup (is_at (cmp q)) ds ≡ cond (b && is_at (cmp p) q) None (lookup (is_at (cmp q)) cs)) → Follows cmp e ds (call.Overwrite p given ∷ calls)
  follows-overwrite p given b w s l = follows-on d e cs ds calls (call.Overwrite p given) r f s (λ q. refl)
      (λ q. l q ∙ ap (λ x. cond (b && is_at (cmp p) q) None x) (f.exactly q)
      ∙ kept_ended cmp d.rules calls q (call.Overwrite p given) refl (b && is_at (cmp p) q) (ap (λ x. not x && is_kept cmp d.rules calls q) (turned b (is_at (cmp p) q) (is_overwritten cmp d.rules calls q given) (λ h. w ∙ overwritten_same p q given h))
      ∙ killed_step (is_kept cmp d.rules calls q) (is_at (cmp p) q && is_overwritten cmp d.rules calls q given) (is_kept cmp d.rules (call.Overwrite p given ∷ calls) q)
      (λ h. (kept-after cmp d.rules calls q).change p given h (f.held q h) (f.others q h) (has_address q h))
      (λ h. (kept-after cmp d.rules calls q).overwrite p given ∙ ap (λ x. x && not (is_stale cmp d.rules (call.Overwrite p given ∷ calls) q)) h)))

  module _ (p : P) (t : ℕ) (reserved : is_eligible cmp d.rules calls p t ≡ true → is_reserved_in (lookup (is_at (cmp p)) d.records) ≡ true) where
    reserved_same : (q : P) → is_at (cmp p) q ≡ true → is_eligible cmp d.rules calls p t ≡ true → is_reserved_in (lookup (is_at (cmp q)) d.records) ≡ true
    reserved_same q h k = ap is_reserved_in (sym (lookup_same o p q d.records h)) ∙ reserved k

    accepts_same : (q : P) → is_at (cmp p) q ≡ true → accepts cmp d.rules calls p (Some t) ≡ accepts cmp d.rules calls q (Some t)
    accepts_same q h = accepted_step (is_eligible cmp d.rules calls p t) (is_eligible cmp d.rules calls q t) (is_stale cmp d.rules calls p) (is_stale cmp d.rules calls q)
        (eligible-same o f.stands p q t h)
        (λ k. sym (stale-kept o f.stands p (reserved k)) ∙ (ap is_stale_in (lookup_same o p q d.records h) ∙ stale-kept o f.stands q (reserved_same q h k)))

    eligible_of : (q : P) → (is_at (cmp p) q && accepts cmp d.rules calls q (Some t)) ≡ true → is_eligible cmp d.rules calls q t ≡ true
    eligible_of q h = first (is_eligible cmp d.rules calls q t) (not (is_stale cmp d.rules calls q)) (last (is_at (cmp p) q) (accepts cmp d.rules calls q (Some t)) h)

    held_of : (q : P) → (is_at (cmp p) q && accepts cmp d.rules calls q (Some t)) ≡ true → is_held cmp calls q ≡ true
    held_of q h =
        let at = first (is_at (cmp p) q) (accepts cmp d.rules calls q (Some t)) h in
        reserved_held cmp d.rules calls q (ap is_reserved_in (sym (f.stands.records q)) ∙ reserved_same q at (eligible-same o f.stands p q t at ∙ eligible_of q h))

    -- a connection begins, and is accepted or not
    pub follows-connect : (conn : ℕ) (b : Bool) → b ≡ accepts cmp d.rules calls p (Some t) → StandsFor cmp e (call.Connect p (Some t) conn ∷ calls)
        → ((q : P) → lookup (is_at (cmp q)) ds ≡ cond (b && is_at (cmp p) q) (Some conn) (lookup (is_at (cmp q)) cs)) → Follows cmp e ds (call.Connect p (Some t) conn ∷ calls)
    follows-connect conn b w s l = record {
      stands = s;
      exactly = subst (λ (x : Rules P). (q : P) → lookup (is_at (cmp q)) ds ≡ kept_of cmp x (call.Connect p (Some t) conn ∷ calls) q) (sym r)
          (λ q. l q ∙ ap (λ x. cond x (Some conn) (lookup (is_at (cmp q)) cs)) (turned b (is_at (cmp p) q) (accepts cmp d.rules calls q (Some t)) (λ h. w ∙ accepts_same q h))
          ∙ ap (λ x. cond (is_at (cmp p) q && accepts cmp d.rules calls q (Some t)) (Some conn) x) (f.exactly q)
          ∙ kept_begun cmp d.rules calls q p t conn);
      held = subst (λ (x : Rules P). (q : P) → is_kept cmp x (call.Connect p (Some t) conn ∷ calls) q ≡ true → is_held cmp (call.Connect p (Some t) conn ∷ calls) q ≡ true) (sym r)
          (λ q h. (kept-after cmp d.rules calls q).held (call.Connect p (Some t) conn) (f.held q) (held_of q) h);
      others = subst (λ (x : Rules P). (q : P) → is_kept cmp x (call.Connect p (Some t) conn ∷ calls) q ≡ true → is_local cmp x q ≡ false) (sym r)
          (λ q h. connected_or_kept cmp d.rules calls q (call.Connect p (Some t) conn) h (λ j. other cmp d.rules calls q t (eligible_of q j)) (f.others q));
    }

module _ {P : Type 0} {cmp : P → P → Ordering} (o : IsTotalOrder cmp) where
  -- where a key is eligible by one list of calls, and an eligible key is reserved, it is reserved
  pub reserved-eligible : (d : Kept P) (calls : List (Call P)) (k : P) (t : ℕ) → StandsFor cmp d calls → (IsEligible cmp d k t → is_reserved_in (lookup (is_at (cmp k)) d.records) ≡ true)
      → is_eligible cmp d.rules calls k t ≡ true → is_reserved_in (lookup (is_at (cmp k)) d.records) ≡ true
  reserved-eligible d calls k t s r h = r (λ others u. is_eligible-kept o u k t ∙ (sym (is_eligible-kept o s k t) ∙ h))

-- keys that are taken away one after another
once : (a b : Bool) (x y : Option ℕ) → y ≡ cond a None x → cond b None y ≡ cond (a || b) None x
once a true x y e = sym (ap (λ c. cond c None x) (or_true a))
once true false x y e = e
once false false x y e = e

module _ {P : Type 0} (cmp : P → P → Ordering) where
  among-suc : (ks : List P) (i : ℕ) (k q : P) → i < length ks → k ≡ get_or ks i k → is_among cmp (take (suc i) ks) q ≡ (is_among cmp (take i ks) q || is_at (cmp k) q)
  among-suc [] i k q h e = absurd (omega (arith, h))
  among-suc (x ∷ ks) zero k q h e = or_false (is_at (cmp x) q) ∙ ap (λ (y : P). is_at (cmp y) q) (sym e)
  among-suc (x ∷ ks) (suc i) k q h e = ap (λ b. is_at (cmp x) q || b) (among-suc ks i k q (omega (arith, h)) e) ∙ or_assoc (is_at (cmp x) q) (is_among cmp (take i ks) q) (is_at (cmp k) q)

  pub taken-more : (ks : List P) (i : ℕ) (k q : P) (cs ds es : List (P × ℕ)) → i < length ks → k ≡ get_or ks i k
      → lookup (is_at (cmp q)) ds ≡ cond (is_among cmp (take i ks) q) None (lookup (is_at (cmp q)) cs)
      → lookup (is_at (cmp q)) es ≡ cond (is_at (cmp k) q) None (lookup (is_at (cmp q)) ds)
      → lookup (is_at (cmp q)) es ≡ cond (is_among cmp (take (i + 1) ks) q) None (lookup (is_at (cmp q)) cs)
  taken-more ks i k q cs ds es h e l m =
      m ∙ once (is_among cmp (take i ks) q) (is_at (cmp k) q) (lookup (is_at (cmp q)) cs) (lookup (is_at (cmp q)) ds) l
      ∙ ap (λ b. cond b None (lookup (is_at (cmp q)) cs)) (sym (ap (λ (n : ℕ). is_among cmp (take n ks) q) (add-one i) ∙ among-suc ks i k q h e))
