-- A directory stands for its calls with one more.
use Rattle.std.proofs.Common.{◌≡◌, ℕ, ◌+◌, Bool, true, false, cond, ◌&&◌, ◌||◌, not, List, [], ◌∷◌, take, Option, Some, None, refl, sym, ap, ◌∙◌, subst}
use Rattle.std.proofs.lemmas.Bool.{false≢true}
use Rattle.std.proofs.lemmas.Cmp.{eq_by_cmp_equiv}
use Rattle.std.specs.Prelude.{is_some, nat_lt, zero, suc}
use Rattle.std.specs.List.{list_any}
use Rattle.std.specs.Option.{option_map, unwrap_or}
use Rattle.std.specs.Cmp.{IsTotalOrder}
use Rattle.std.specs.List.Sorted.{IsStrictlySortedBy}
use Rattle.std.specs.Map.{lookup, keys_of}
use Rattle.std.specs.BTreeMap.{is_at}
use Rattle.std.specs.declared.cmp.Ordering.{Ordering}
use Rattle.p2p_address.specs.declared.ip.IpAddr.{IpAddr}
use Rattle.p2p_address.specs.declared.peer.Address.{Address as PeerAddress}
use Rattle.p2p_base.specs.Moments.{soonest}
use Rattle.p2p_tracker_calls.specs.declared.call.Call.{Call}
use Rattle.p2p_tracker_calls.specs.declared.call.Call.TheVariants as call
use Rattle.p2p_tracker_calls.specs.Sets.{PeerSet, how_many, accepted_sets, kept_sets, is_tracked, is_primary_in, is_secondary_in, primary_sets, secondary_sets}
use Rattle.p2p_tracker_calls.specs.Grants.{Grant, is_held}
use Rattle.p2p_tracker_calls.specs.Blocks.{is_local, lasts_at, is_blocked, block_of, unless_ended, is_over}
use Rattle.p2p_tracker_calls.specs.Lives.{address_of, last_grant, is_stale, is_connected, is_eligible}
use Rattle.p2p_tracker_calls.specs.Allows as facts
use Rattle.p2p_tracker_directory.specs.Recorded.{Recorded, fresh, is_eligible_in, is_acceptable_in, is_acceptable, is_in_sets, has_valid_ingress, dials_from, is_myself, is_inert, is_reserved_in, may_dial_in, may_listen_in, reserved_by, updated, connected, without_need, written}
use Rattle.p2p_tracker_directory.specs.declared.record.Address.TheVariants as address
use Rattle.p2p_tracker_directory.specs.declared.record.Status.TheVariants as status
use Rattle.p2p_tracker_directory.specs.declared.record.ReserveResult.TheVariants as answer
use Rattle.p2p_tracker_directory.specs.Stands.{Kept, StandsFor, record_of, ends_by}
use Rattle.p2p_tracker_directory.proofs.Ended.{some_over, none_over}
use Rattle.p2p_tracker_directory.proofs.Reading.{eligible-record, acceptable-record, dial-record, listen-record}
use Rattle.p2p_tracker_directory.proofs.Steps as steps
use Rattle.p2p_tracker_directory.proofs.Steps.{own, peer, IsAddressed}
use Rattle.p2p_tracker_directory.proofs.Written.{lookup_same, lookup-written}

first : (a b : Bool) → (a && b) ≡ true → a ≡ true
first true b e = refl
first false b e = e

unchanged : (b : Bool) (r : Option Recorded) → cond b (option_map (λ s. s) r) r ≡ r
unchanged true None = refl
unchanged true (Some s) = refl
unchanged false r = refl

-- the record of another peer that isn't held, found
IsOther : Option Recorded → Type 0
IsOther r = (s : Recorded) × (r ≡ Some s) × (is_myself s.address ≡ false) × (is_inert s.status ≡ true)

three : (m s i r : Bool) → ((not m && s) && i && r) ≡ true → (m ≡ false) × (i ≡ true)
three true s i r e = absurd (false≢true e)
three false true true r e = (refl, refl)
three false true false r e = absurd (false≢true e)
three false false i r e = absurd (false≢true e)

may_dial-other : (r : Option Recorded) (t : ℕ) (private dns : Bool) → may_dial_in r t private dns ≡ true → IsOther r
unfolding IsOther
may_dial-other None t private dns e = absurd (false≢true e)
may_dial-other (Some s) t private dns e =
    let within = first (is_eligible_in (Some s) && is_inert s.status && not (nat_lt t s.cool)) (nat_lt 0 s.primary)
    (first (is_eligible_in (Some s) && is_inert s.status && not (nat_lt t s.cool) && nat_lt 0 s.primary) (has_valid_ingress s.address private dns) e) in
    let both = three (is_myself s.address) (is_in_sets s) (is_inert s.status) (not (nat_lt t s.cool)) within in
    (s, refl, both.0, both.1)

may_listen-other : (r : Option Recorded) (source : IpAddr) (t : ℕ) (bypass : Bool) → may_listen_in r source t bypass ≡ true → IsOther r
unfolding IsOther
may_listen-other None source t bypass e = absurd (false≢true e)
may_listen-other (Some s) source t bypass e =
    let both = three (is_myself s.address) (is_in_sets s) (is_inert s.status) (bypass || dials_from s.address source) (first (is_acceptable s source bypass) (not (nat_lt t s.cool)) e) in
    (s, refl, both.0, both.1)

other_step : (local : Bool) (cooldown n m : ℕ) (held joined stale : Bool) (g : Option Grant) (a : Option PeerAddress) (s : Recorded)
    → cond local (Some (own n m)) (option_map (peer cooldown held joined n m stale g) a) ≡ Some s → is_myself s.address ≡ false → is_inert s.status ≡ true
    → (local ≡ false) × (is_some a ≡ true) × (held ≡ false)
unfolding own peer
other_step true cooldown n m held joined stale g a s e h i = absurd (false≢true (sym h ∙ sym (ap (λ o. is_myself (unwrap_or o s).address) e)))
other_step false cooldown n m held joined stale g None s e h i = absurd (false≢true (ap is_some e))
other_step false cooldown n m true true stale g (Some a) s e h i = absurd (false≢true (ap (λ o. is_inert (unwrap_or o s).status) e ∙ i))
other_step false cooldown n m true false stale g (Some a) s e h i = absurd (false≢true (ap (λ o. is_inert (unwrap_or o s).status) e ∙ i))
other_step false cooldown n m false joined stale g (Some a) s e h i = (refl, refl, refl)

not_stale : (stale held : Bool) → (stale ≡ true → held ≡ true) → held ≡ false → stale ≡ false
not_stale true held h e = sym (h refl) ∙ e
not_stale false held h e = refl

reserved_step : (local : Bool) (cooldown n m : ℕ) (held joined stale : Bool) (g : Option Grant) (a : Option PeerAddress)
    → is_reserved_in (cond local (Some (own n m)) (option_map (peer cooldown held joined n m stale g) a)) ≡ true
    → (local ≡ false) × (held ≡ true) × (joined ≡ false)
unfolding own peer
reserved_step true cooldown n m held joined stale g a e = absurd (false≢true e)
reserved_step false cooldown n m held joined stale g None e = absurd (false≢true e)
reserved_step false cooldown n m true true stale g (Some a) e = absurd (false≢true e)
reserved_step false cooldown n m true false stale g (Some a) e = (refl, refl, refl)
reserved_step false cooldown n m false joined stale g (Some a) e = absurd (false≢true e)

none_kept : {X : Type 0} (n : ℕ) (xs : List X) → xs ≡ [] → take n xs ≡ []
none_kept zero xs e = refl
none_kept (suc n) xs e = ap (take (suc n)) e

no_block : (b l m : Bool) (x y : Option ℕ) → (b ≡ true → (l || m) ≡ true) → y ≡ cond (b && not l && not m) x y
no_block true true m x y h = refl
no_block true false true x y h = refl
no_block true false false x y h = absurd (false≢true (h refl))
no_block false l m x y h = refl

new_block : (b l m : Bool) (x y : Option ℕ) → (b ≡ true → l ≡ false) → (b ≡ true → m ≡ false) → cond b x y ≡ cond (b && not l && not m) x y
new_block true true m x y h k = absurd (false≢true (sym (h refl)))
new_block true false true x y h k = absurd (false≢true (sym (k refl)))
new_block true false false x y h k = refl
new_block false l m x y h k = refl

module _ {P : Type 0} (cmp : P → P → Ordering) (kept : Kept P) where
  pub stands-init : ((q : P) → lookup (is_at (cmp q)) kept.records ≡ cond (is_local cmp kept.rules q) (Some (fresh address.Myself)) None)
      → kept.blocks ≡ [] → kept.sets ≡ [] → kept.latest ≡ None → StandsFor cmp kept []
  unfolding record_of address_of is_tracked is_held primary_sets secondary_sets kept_sets accepted_sets block_of how_many IsStrictlySortedBy
  stands-init r b t l = record {
    sets = t ∙ sym (none_kept kept.rules.max_sets [] refl);
    latest = l;
    records = λ q. r q ∙ ap (λ (sets : List (PeerSet P)). cond (is_local cmp kept.rules q) (Some (record {
      address = address.Myself;
      status = status.Inert;
      primary = how_many (is_primary_in cmp q) sets;
      secondary = how_many (is_secondary_in cmp q) sets;
      is_stale = false;
      cool = 0;
      next_dial = 0;
    })) None) (sym (none_kept kept.rules.max_sets [] refl));
    blocks = λ q. ap (lookup (is_at (cmp q))) b;
    ordered = subst (λ bs. IsStrictlySortedBy cmp (keys_of bs)) (sym b) tt;
    addressed = λ q o. ap (λ (sets : List (PeerSet P)). list_any (λ s. is_primary_in cmp q s || is_secondary_in cmp q s) sets || false) (none_kept kept.rules.max_sets [] refl);
  }

module _ {P : Type 0} {cmp : P → P → Ordering} (o : IsTotalOrder cmp) {kept : Kept P} {calls : List (Call P)} (s : StandsFor cmp kept calls) where
  -- what holds of the record of a key holds of that of an equal one
  alike : (Q : Option Recorded → Type 0) (p q : P) → Q (lookup (is_at (cmp p)) kept.records) → is_at (cmp p) q ≡ true → Q (record_of cmp kept.rules calls q)
  alike Q p q h e = subst Q (lookup_same o p q kept.records e ∙ s.records q) h

  is_other : (q : P) → IsOther (record_of cmp kept.rules calls q)
      → (is_local cmp kept.rules q ≡ false) × (is_some (address_of cmp kept.rules calls q) ≡ true) × (is_held cmp calls q ≡ false)
  unfolding IsOther record_of peer own
  is_other q h =
      other_step (is_local cmp kept.rules q) kept.rules.cooldown (primary_sets cmp kept.rules calls q) (secondary_sets cmp kept.rules calls q)
      (is_held cmp calls q) (is_connected cmp kept.rules calls q) (is_stale cmp kept.rules calls q) (last_grant cmp kept.rules calls q)
      (address_of cmp kept.rules calls q) h.0 h.1 h.2 h.3

  not_stale_by : (q : P) → IsOther (record_of cmp kept.rules calls q) → is_stale cmp kept.rules calls q ≡ false
  not_stale_by q h = not_stale (is_stale cmp kept.rules calls q) (is_held cmp calls q) (steps.stale-held cmp kept.rules calls q) (is_other q h).2

  is_reserved_by : (q : P) → is_reserved_in (record_of cmp kept.rules calls q) ≡ true
      → (is_local cmp kept.rules q ≡ false) × (is_held cmp calls q ≡ true) × (is_connected cmp kept.rules calls q ≡ false)
  unfolding record_of peer own
  is_reserved_by q h =
      reserved_step (is_local cmp kept.rules q) kept.rules.cooldown (primary_sets cmp kept.rules calls q) (secondary_sets cmp kept.rules calls q)
      (is_held cmp calls q) (is_connected cmp kept.rules calls q) (is_stale cmp kept.rules calls q) (last_grant cmp kept.rules calls q) (address_of cmp kept.rules calls q) h

  pub is_eligible-kept : (p : P) (t : ℕ) → is_eligible cmp kept.rules calls p t ≡ (is_eligible_in (lookup (is_at (cmp p)) kept.records) && not (lasts_at (lookup (is_at (cmp p)) kept.blocks) t))
  is_eligible-kept p t =
      eligible-record cmp kept.rules calls p (s.addressed p) t
      ∙ ap (λ r. is_eligible_in r && not (is_blocked cmp kept.rules calls p t)) (sym (s.records p))
      ∙ ap (λ b. is_eligible_in (lookup (is_at (cmp p)) kept.records) && not (lasts_at b t)) (sym (s.blocks p))

  pub is_acceptable-kept : (p : P) (source : IpAddr) (t : ℕ)
      → facts.is_acceptable cmp kept.rules calls p source t ≡ (is_acceptable_in (lookup (is_at (cmp p)) kept.records) source kept.rules.bypass && not (lasts_at (lookup (is_at (cmp p)) kept.blocks) t))
  is_acceptable-kept p source t =
      acceptable-record cmp kept.rules calls p (s.addressed p) source t
      ∙ ap (λ r. is_acceptable_in r source kept.rules.bypass && not (is_blocked cmp kept.rules calls p t)) (sym (s.records p))
      ∙ ap (λ b. is_acceptable_in (lookup (is_at (cmp p)) kept.records) source kept.rules.bypass && not (lasts_at b t)) (sym (s.blocks p))

  pub allows_dial-kept : (p : P) (t : ℕ)
      → facts.allows_dial cmp kept.rules calls p t ≡ (may_dial_in (lookup (is_at (cmp p)) kept.records) t kept.rules.private kept.rules.dns && not (lasts_at (lookup (is_at (cmp p)) kept.blocks) t))
  allows_dial-kept p t =
      dial-record cmp kept.rules calls p (s.addressed p) t
      ∙ ap (λ r. may_dial_in r t kept.rules.private kept.rules.dns && not (is_blocked cmp kept.rules calls p t)) (sym (s.records p))
      ∙ ap (λ b. may_dial_in (lookup (is_at (cmp p)) kept.records) t kept.rules.private kept.rules.dns && not (lasts_at b t)) (sym (s.blocks p))

  pub allows_listen-kept : (p : P) (source : IpAddr) (t : ℕ)
      → facts.allows_listen cmp kept.rules calls p source t ≡ (may_listen_in (lookup (is_at (cmp p)) kept.records) source t kept.rules.bypass && not (lasts_at (lookup (is_at (cmp p)) kept.blocks) t))
  allows_listen-kept p source t =
      listen-record cmp kept.rules calls p (s.addressed p) source t
      ∙ ap (λ r. may_listen_in r source t kept.rules.bypass && not (is_blocked cmp kept.rules calls p t)) (sym (s.records p))
      ∙ ap (λ b. may_listen_in (lookup (is_at (cmp p)) kept.records) source t kept.rules.bypass && not (lasts_at b t)) (sym (s.blocks p))

  at_key : (f : Recorded → Recorded) (q : P) (b : Bool) → cond b (option_map f (lookup (is_at (cmp q)) kept.records)) (lookup (is_at (cmp q)) kept.records)
      ≡ cond b (option_map f (record_of cmp kept.rules calls q)) (record_of cmp kept.rules calls q)
  at_key f q b = ap (λ r. cond b (option_map f r) r) (s.records q)

  pub stands-refused_dial : (p : P) (t j : ℕ) → StandsFor cmp kept (call.Dial p t j false ∷ calls)
  unfolding block_of kept_sets accepted_sets
  stands-refused_dial p t j = record {
    sets = s.sets;
    latest = s.latest;
    records = λ q. s.records q ∙ sym (steps.record_of-refused_dial cmp kept.rules calls q (s.addressed q) p t j);
    blocks = λ q. s.blocks q;
    ordered = s.ordered;
    addressed = λ q. steps.addressed-refused_dial cmp kept.rules calls q (s.addressed q) p t j;
  }

  pub stands-refused_listen : (p : P) (t j : ℕ) → StandsFor cmp kept (call.Listen p t j false ∷ calls)
  unfolding block_of kept_sets accepted_sets
  stands-refused_listen p t j = record {
    sets = s.sets;
    latest = s.latest;
    records = λ q. s.records q ∙ sym (steps.record_of-refused_listen cmp kept.rules calls q (s.addressed q) p t j);
    blocks = λ q. s.blocks q;
    ordered = s.ordered;
    addressed = λ q. steps.addressed-refused_listen cmp kept.rules calls q (s.addressed q) p t j;
  }

  stands-granted_dial : (p : P) (t j : ℕ) (es : List (P × Recorded)) → IsOther (lookup (is_at (cmp p)) kept.records)
      → es ≡ written cmp (lookup (is_at (cmp p)) kept.records) kept.records p (λ r. reserved_by answer.Reserved r t kept.rules.cooldown j)
      → StandsFor cmp (record kept { records = es }) (call.Dial p t j true ∷ calls)
  unfolding block_of kept_sets accepted_sets
  stands-granted_dial p t j es other e = record {
    sets = s.sets;
    latest = s.latest;
    records = λ q. ap (lookup (is_at (cmp q))) e
        ∙ lookup-written o p q kept.records (λ r. reserved_by answer.Reserved r t kept.rules.cooldown j)
        ∙ at_key (λ r. reserved_by answer.Reserved r t kept.rules.cooldown j) q (is_at (cmp p) q)
        ∙ sym (steps.record_of-dial cmp kept.rules calls q (s.addressed q) p t j (λ b. (is_other q (alike IsOther p q other b)).0) (λ b. not_stale_by q (alike IsOther p q other b)));
    blocks = λ q. s.blocks q;
    ordered = s.ordered;
    addressed = λ q. steps.addressed-dial cmp kept.rules calls q (s.addressed q) p t j (λ b. (is_other q (alike IsOther p q other b)).1);
  }

  stands-granted_listen : (p : P) (t j : ℕ) (es : List (P × Recorded)) → IsOther (lookup (is_at (cmp p)) kept.records)
      → es ≡ written cmp (lookup (is_at (cmp p)) kept.records) kept.records p (λ r. reserved_by answer.Reserved r t kept.rules.cooldown j)
      → StandsFor cmp (record kept { records = es }) (call.Listen p t j true ∷ calls)
  unfolding block_of kept_sets accepted_sets
  stands-granted_listen p t j es other e = record {
    sets = s.sets;
    latest = s.latest;
    records = λ q. ap (lookup (is_at (cmp q))) e
        ∙ lookup-written o p q kept.records (λ r. reserved_by answer.Reserved r t kept.rules.cooldown j)
        ∙ at_key (λ r. reserved_by answer.Reserved r t kept.rules.cooldown j) q (is_at (cmp p) q)
        ∙ sym (steps.record_of-listen cmp kept.rules calls q (s.addressed q) p t j (λ b. (is_other q (alike IsOther p q other b)).0) (λ b. not_stale_by q (alike IsOther p q other b)));
    blocks = λ q. s.blocks q;
    ordered = s.ordered;
    addressed = λ q. steps.addressed-listen cmp kept.rules calls q (s.addressed q) p t j (λ b. (is_other q (alike IsOther p q other b)).1);
  }

  pub stands-dial : (p : P) (t j : ℕ) (granted : Bool) (es : List (P × Recorded))
      → granted ≡ may_dial_in (lookup (is_at (cmp p)) kept.records) t kept.rules.private kept.rules.dns
      → es ≡ written cmp (lookup (is_at (cmp p)) kept.records) kept.records p (λ r. cond granted (reserved_by answer.Reserved r t kept.rules.cooldown j) r)
      → StandsFor cmp (record kept { records = es }) (call.Dial p t j granted ∷ calls)
  unfolding block_of kept_sets accepted_sets
  stands-dial p t j true es e w = stands-granted_dial p t j es (may_dial-other _ t kept.rules.private kept.rules.dns (sym e)) w
  stands-dial p t j false es e w = record {
    sets = s.sets;
    latest = s.latest;
    records = λ q. ap (lookup (is_at (cmp q))) w ∙ lookup-written o p q kept.records (λ r. r) ∙ unchanged (is_at (cmp p) q) (lookup (is_at (cmp q)) kept.records)
        ∙ (stands-refused_dial p t j).records q;
    blocks = λ q. s.blocks q;
    ordered = s.ordered;
    addressed = λ q. (stands-refused_dial p t j).addressed q;
  }

  pub stands-listen : (p : P) (source : IpAddr) (t j : ℕ) (granted : Bool) (es : List (P × Recorded))
      → granted ≡ may_listen_in (lookup (is_at (cmp p)) kept.records) source t kept.rules.bypass
      → es ≡ written cmp (lookup (is_at (cmp p)) kept.records) kept.records p (λ r. cond granted (reserved_by answer.Reserved r t kept.rules.cooldown j) r)
      → StandsFor cmp (record kept { records = es }) (call.Listen p t j granted ∷ calls)
  unfolding block_of kept_sets accepted_sets
  stands-listen p source t j true es e w = stands-granted_listen p t j es (may_listen-other _ source t kept.rules.bypass (sym e)) w
  stands-listen p source t j false es e w = record {
    sets = s.sets;
    latest = s.latest;
    records = λ q. ap (lookup (is_at (cmp q))) w ∙ lookup-written o p q kept.records (λ r. r) ∙ unchanged (is_at (cmp p) q) (lookup (is_at (cmp q)) kept.records)
        ∙ (stands-refused_listen p t j).records q;
    blocks = λ q. s.blocks q;
    ordered = s.ordered;
    addressed = λ q. (stands-refused_listen p t j).addressed q;
  }

  pub stands-connect : (p : P) (conn : ℕ) (es : List (P × Recorded)) → is_reserved_in (lookup (is_at (cmp p)) kept.records) ≡ true
      → es ≡ written cmp (lookup (is_at (cmp p)) kept.records) kept.records p connected → StandsFor cmp (record kept { records = es }) (call.Connect p None conn ∷ calls)
  unfolding block_of kept_sets accepted_sets
  stands-connect p conn es reserved e = record {
    sets = s.sets;
    latest = s.latest;
    records = λ q. ap (lookup (is_at (cmp q))) e ∙ lookup-written o p q kept.records connected ∙ at_key connected q (is_at (cmp p) q)
        ∙ sym (steps.record_of-connect cmp kept.rules calls q (s.addressed q) p conn
        (λ b. (is_reserved_by q (alike (λ r. is_reserved_in r ≡ true) p q reserved b)).0)
        (λ b. (is_reserved_by q (alike (λ r. is_reserved_in r ≡ true) p q reserved b)).1)
        (λ b. (is_reserved_by q (alike (λ r. is_reserved_in r ≡ true) p q reserved b)).2));
    blocks = λ q. s.blocks q;
    ordered = s.ordered;
    addressed = λ q. steps.addressed-connect cmp kept.rules calls q (s.addressed q) p None conn;
  }

  pub stands-overwrite : (p : P) (given : PeerAddress) (es : List (P × Recorded))
      → es ≡ written cmp (lookup (is_at (cmp p)) kept.records) kept.records p (λ r. updated r given) → StandsFor cmp (record kept { records = es }) (call.Overwrite p given ∷ calls)
  unfolding block_of kept_sets accepted_sets
  stands-overwrite p given es e = record {
    sets = s.sets;
    latest = s.latest;
    records = λ q. ap (lookup (is_at (cmp q))) e ∙ lookup-written o p q kept.records (λ r. updated r given) ∙ at_key (λ r. updated r given) q (is_at (cmp p) q)
        ∙ sym (steps.record_of-overwrite cmp kept.rules calls q (s.addressed q) p given);
    blocks = λ q. s.blocks q;
    ordered = s.ordered;
    addressed = λ q. steps.addressed-overwrite cmp kept.rules calls q (s.addressed q) p given;
  }

  pub stands-release : (p : P) (es : List (P × Recorded))
      → ((q : P) → lookup (is_at (cmp q)) es ≡ cond (is_at (cmp p) q) (without_need (lookup (is_at (cmp q)) kept.records)) (lookup (is_at (cmp q)) kept.records))
      → StandsFor cmp (record kept { records = es }) (call.Release p ∷ calls)
  unfolding block_of kept_sets accepted_sets
  stands-release p es e = record {
    sets = s.sets;
    latest = s.latest;
    records = λ q. e q ∙ ap (λ r. cond (is_at (cmp p) q) (without_need r) r) (s.records q) ∙ sym (steps.record_of-release cmp kept.rules calls q (s.addressed q) p);
    blocks = λ q. s.blocks q;
    ordered = s.ordered;
    addressed = λ q. steps.addressed-release cmp kept.rules calls q (s.addressed q) p;
  }

  same_local : (p q : P) → is_at (cmp p) q ≡ true → is_local cmp kept.rules p ≡ is_local cmp kept.rules q
  same_local p q e =
      (eq_by_cmp_equiv o).symm kept.rules.local p ∙ (eq_by_cmp_equiv o).congr p q kept.rules.local e ∙ (eq_by_cmp_equiv o).symm q kept.rules.local

  same_block : (p q : P) → is_at (cmp p) q ≡ true → lookup (is_at (cmp p)) kept.blocks ≡ block_of cmp kept.rules calls q
  same_block p q e = lookup_same o p q kept.blocks e ∙ s.blocks q

  pub stands-unblockable : (p : P) (t : ℕ) → (is_local cmp kept.rules p || lasts_at (lookup (is_at (cmp p)) kept.blocks) t) ≡ true → StandsFor cmp kept (call.Block p t ∷ calls)
  unfolding block_of kept_sets accepted_sets
  stands-unblockable p t e = record {
    sets = s.sets;
    latest = s.latest;
    records = λ q. s.records q ∙ sym (steps.record_of-block cmp kept.rules calls q (s.addressed q) p t);
    blocks = λ q. s.blocks q ∙ no_block (is_at (cmp p) q) (is_local cmp kept.rules q) (lasts_at (block_of cmp kept.rules calls q) t) (Some (t + kept.rules.block_duration)) (block_of cmp kept.rules calls q)
        (λ b. sym (ap (λ l. l || lasts_at (lookup (is_at (cmp p)) kept.blocks) t) (same_local p q b) ∙ ap (λ m. is_local cmp kept.rules q || lasts_at m t) (same_block p q b)) ∙ e);
    ordered = s.ordered;
    addressed = λ q. steps.addressed-block cmp kept.rules calls q (s.addressed q) p t;
  }

  pub stands-block : (p : P) (t : ℕ) (bs : List (P × ℕ)) → is_local cmp kept.rules p ≡ false → lasts_at (lookup (is_at (cmp p)) kept.blocks) t ≡ false
      → ((q : P) → lookup (is_at (cmp q)) bs ≡ cond (is_at (cmp p) q) (Some (t + kept.rules.block_duration)) (lookup (is_at (cmp q)) kept.blocks))
      → IsStrictlySortedBy cmp (keys_of bs) → StandsFor cmp (record kept { blocks = bs }) (call.Block p t ∷ calls)
  unfolding block_of kept_sets accepted_sets
  stands-block p t bs l m e ordered = record {
    sets = s.sets;
    latest = s.latest;
    records = λ q. s.records q ∙ sym (steps.record_of-block cmp kept.rules calls q (s.addressed q) p t);
    blocks = λ q. e q ∙ ap (cond (is_at (cmp p) q) (Some (t + kept.rules.block_duration))) (s.blocks q)
        ∙ new_block (is_at (cmp p) q) (is_local cmp kept.rules q) (lasts_at (block_of cmp kept.rules calls q) t) (Some (t + kept.rules.block_duration)) (block_of cmp kept.rules calls q)
        (λ b. sym (same_local p q b) ∙ l) (λ b. ap (λ x. lasts_at x t) (sym (same_block p q b)) ∙ m);
    ordered = ordered;
    addressed = λ q. steps.addressed-block cmp kept.rules calls q (s.addressed q) p t;
  }

  pub stands-unblock : (t : ℕ) (bs : List (P × ℕ)) → ((q : P) → lookup (is_at (cmp q)) bs ≡ unless_ended (lookup (is_at (cmp q)) kept.blocks) t) → IsStrictlySortedBy cmp (keys_of bs)
      → StandsFor cmp (record kept { blocks = bs }) (call.UnblockExpired t ∷ calls)
  unfolding block_of kept_sets accepted_sets
  stands-unblock t bs e ordered = record {
    sets = s.sets;
    latest = s.latest;
    records = λ q. s.records q ∙ sym (steps.record_of-unblock cmp kept.rules calls q (s.addressed q) t);
    blocks = λ q. e q ∙ ap (λ r. unless_ended r t) (s.blocks q);
    ordered = ordered;
    addressed = λ q. steps.addressed-unblock cmp kept.rules calls q (s.addressed q) t;
  }

  -- some block has ended, and which
  pub over-kept : (t : ℕ) → ends_by (soonest kept.blocks) t ≡ true → (q : P) × (is_over (block_of cmp kept.rules calls q) t ≡ true)
  over-kept t e = let found = some_over o kept.blocks t s.ordered e in (found.0, ap (λ r. is_over r t) (sym (s.blocks found.0)) ∙ found.1)

  -- none has
  pub none_over-kept : (t : ℕ) → ends_by (soonest kept.blocks) t ≡ false → (q : P) → is_over (block_of cmp kept.rules calls q) t ≡ false
  none_over-kept t e q = ap (λ r. is_over r t) (sym (s.blocks q)) ∙ none_over (is_at (cmp q)) kept.blocks t e
