-- What ends a connection, by the calls of a tracker, is a cause that came since the grant of the connection's key.
use Rattle.std.proofs.Common.{◌≡◌, ℕ, zero, suc, Bool, true, false, cond, List, [], ◌∷◌, Option, Some, None, inl, inr, refl, ap, sym, subst, ◌∙◌, eq-eqb}
use Rattle.std.specs.Prelude.{◌&&◌, ◌||◌, not, filter, is_some, slice_get}
use Rattle.std.specs.BTreeMap.{is_at}
use Rattle.std.proofs.lemmas.Bool.{and_parts, false≢true}
use Rattle.std.proofs.lemmas.Option.{same_Some}
use Rattle.p2p_base.specs.declared.key.Key.{Key}
use Rattle.p2p_address.specs.declared.peer.Address.{Address}
use Rattle.p2p_tracker_calls.specs.declared.call.Call.{Call}
use Rattle.p2p_tracker_calls.specs.declared.call.Call.TheVariants as call
use Rattle.p2p_tracker_calls.specs.Blocks.{lasts_at, is_local, is_blocked}
use Rattle.p2p_tracker_calls.specs.Grants.{is_held}
use Rattle.p2p_tracker_calls.specs.Keeping.{kept_of}
use Rattle.p2p_tracker_calls.specs.Kills.{is_evicted, is_killed, killed_keys}
use Rattle.p2p_tracker_calls.specs.Lives.{is_change, given_by, address_of, is_stale, accepts, is_other_than, is_overwritten}
use Rattle.p2p_tracker_calls.specs.Named.{named_keys}
use Rattle.p2p_tracker_calls.specs.Overwrites.{overwritten}
use Rattle.p2p_tracker_calls.specs.Rules.{Rules}
use Rattle.p2p_tracker_calls.specs.Sets.{is_above, accepted_sets, is_tracked}
use Rattle.p2p_tracker_calls.proofs.Eligible.{tracked-is_kept, not_stale-is_kept}
use Rattle.p2p_log.specs.declared.asked.Asked.TheVariants as ask
use Rattle.p2p_log.specs.declared.event.Act.{Act}
use Rattle.p2p_log.specs.declared.event.Act.TheVariants as act
use Rattle.p2p_log_rules.specs.Tracking.{key_cmp}
use Rattle.p2p_log_rules.proofs.Calls.{asked_calls}
use Rattle.p2p_log_laws.specs.KilledSince.{is_cause, has_cause}
use Rattle.p2p_log_laws.specs.Kills.{IsOverwritten, IsEndedBy}
use Rattle.p2p_log_laws.proofs.HeldCalls.{at_key, held_overwritten}
use Rattle.p2p_log_laws.proofs.KeptKnown.{IsClear, Knows, knows_more, plain_fit}

or_first : (a b : Bool) → a ≡ true → (a || b) ≡ true
or_first true b h = refl
or_first false b h = absurd (false≢true h)

or_last : (a b : Bool) → b ≡ true → (a || b) ≡ true
or_last true b h = refl
or_last false b h = h

-- what is left of a list passes
passing : {X : Type 0} (p : X → Bool) (xs : List X) (i : ℕ) (x : X) → slice_get (filter p xs) i ≡ Some x → p x ≡ true
passing p [] i x h = absurd (cc)
passing p (y ∷ ys) i x h = by (p y) refl i h (λ j there. passing p ys j x there)
  where
    by : (b : Bool) → p y ≡ b → (j : ℕ) → slice_get (cond b (y ∷ filter p ys) (filter p ys)) j ≡ Some x → ((k : ℕ) → slice_get (filter p ys) k ≡ Some x → p x ≡ true) → p x ≡ true
    by true is zero here later = ap p (sym (same_Some y x here)) ∙ is
    by true is (suc j) here later = later j here
    by false is j here later = later j here

changes : (o : Option Address) (given : Address) → is_other_than o given ≡ true → is_change (Some given) o ≡ true
changes None given h = absurd (false≢true h)
changes (Some before) given h = h

-- a key that a peer set kills, which was tracked and not stale, got another address or is tracked no more
killed_by : (above change evicted stale tracked was held before : Bool) → above ≡ true → (change || (evicted && (stale || not tracked))) ≡ true → stale ≡ ((change && held) || before) → before ≡ false → was ≡ true
    → (above && (change || (was && not tracked))) ≡ true
killed_by false change evicted stale tracked was held before a k s b w = absurd (false≢true a)
killed_by true true evicted stale tracked was held before a k s b w = refl
killed_by true false false stale tracked was held before a k s b w = absurd (false≢true k)
killed_by true false true stale tracked was held before a k s b w =
    let fresh : stale ≡ false = s ∙ b in
    ap (λ x. x && not tracked) w ∙ (sym (ap (λ x. x || not tracked) fresh) ∙ k)

accepted_if : (l t b s : Bool) → l ≡ false → t ≡ true → b ≡ false → s ≡ false → (((not l && t) && not b) && not s) ≡ true
accepted_if l t b s p q r u = ap (λ x. ((not x && t) && not b) && not s) p ∙ (ap (λ x. (x && not b) && not s) q ∙ (ap (λ x. not x && not s) r ∙ ap not u))

module _ (rules : Rules Key) (Made : Key → ℕ → Type 0) where
  -- after these calls the connection is of a key that is held, and since its grant a cause came
  pub record IsMet (conn : ℕ) (calls : List (Call Key)) : Type 0 where
    pub key : Key
    pub made : Made key conn
    pub held : is_held key_cmp calls key ≡ true
    pub came : has_cause rules calls key ≡ true

  abbrev pub AllKnown : List (Call Key) → Type 0
  AllKnown calls = (key : Key) → Knows rules key (Made key) calls

  kept_there : (calls : List (Call Key)) (key : Key) (conn : ℕ) → kept_of key_cmp rules calls key ≡ Some conn → is_some (kept_of key_cmp rules calls key) ≡ true
  kept_there calls key conn kept = ap is_some kept

  -- ---- a peer set

  track_met : (index : ℕ) (primary secondary : List (Key × Address)) (calls : List (Call Key)) (conn i : ℕ) (key : Key) → AllKnown calls → is_above index (accepted_sets key_cmp calls) ≡ true
      → slice_get (killed_keys key_cmp rules index primary secondary calls) i ≡ Some key → kept_of key_cmp rules calls key ≡ Some conn → IsMet conn (call.Track index primary secondary ∷ calls)
  unfolding has_cause is_held is_stale
  track_met index primary secondary calls conn i key known above there kept =
      let this : Call Key = call.Track index primary secondary in
      let kills : is_killed key_cmp rules index primary secondary calls key ≡ true =
      passing (λ q. is_killed key_cmp rules index primary secondary calls q) (named_keys key_cmp calls) i key there
      in
      let change = is_change (given_by key_cmp this calls key) (address_of key_cmp rules calls key) in
      let stale = is_stale key_cmp rules (this ∷ calls) key in
      let tracked = is_tracked key_cmp rules (this ∷ calls) key in
      let evicted = is_evicted key_cmp rules index primary secondary calls key in
      let parts = and_parts (not (is_local key_cmp rules key) && is_held key_cmp calls key) (change || (evicted && (stale || not tracked))) kills in
      let holds = and_parts (not (is_local key_cmp rules key)) (is_held key_cmp calls key) parts.0 in
      record {
        key = key;
        made = (known key).made conn kept;
        held = holds.1;
        came =
            or_first (is_cause rules this calls key) (has_cause rules calls key)
            (killed_by (is_above index (accepted_sets key_cmp calls)) change evicted stale tracked (is_tracked key_cmp rules calls key) (is_held key_cmp calls key) (is_stale key_cmp rules calls key)
            above parts.1 refl (not_stale-is_kept key_cmp rules calls key (kept_there calls key conn kept)) (tracked-is_kept key_cmp rules calls key (kept_there calls key conn kept)));
      }

  -- ---- new addresses

  caused_overwritten : (es : List (Key × Address)) (calls : List (Call Key)) (key : Key) → has_cause rules calls key ≡ true → has_cause rules (overwritten es calls) key ≡ true
  unfolding overwritten has_cause
  caused_overwritten [] calls key h = h
  caused_overwritten (e ∷ es) calls key h =
      caused_overwritten es (call.Overwrite e.0 e.1 ∷ calls) key (or_last (is_cause rules (call.Overwrite e.0 e.1) calls key) (has_cause rules calls key) h)

  changed_met : (p : Key) (given : Address) (es : List (Key × Address)) (calls : List (Call Key)) (conn : ℕ) → AllKnown calls → is_overwritten key_cmp rules calls p given ≡ true
      → kept_of key_cmp rules calls p ≡ Some conn → IsMet conn (overwritten es (call.Overwrite p given ∷ calls))
  unfolding has_cause is_held
  changed_met p given es calls conn known other kept =
      let itself : is_at (key_cmp p) p ≡ true = at_key p p ∙ eq-eqb p.0 p.0 refl in
      let change = changes (address_of key_cmp rules calls p) given (and_parts (not (is_local key_cmp rules p)) (is_other_than (address_of key_cmp rules calls p) given) other).1 in
      record {
        key = p;
        made = (known p).made conn kept;
        held = held_overwritten es (call.Overwrite p given ∷ calls) p ∙ (known p).held (kept_there calls p conn kept);
        came =
            caused_overwritten es (call.Overwrite p given ∷ calls) p
            (or_first (is_cause rules (call.Overwrite p given) calls p) (has_cause rules calls p)
            (ap (λ b. b && is_change (Some given) (address_of key_cmp rules calls p)) itself ∙ change));
      }

  overwrite_met : (es : List (Key × Address)) (calls : List (Call Key)) (conn : ℕ) → AllKnown calls → IsOverwritten rules conn es calls → IsMet conn (overwritten es calls)
  unfolding overwritten
  overwrite_met [] calls conn known h = absurd h
  overwrite_met (e ∷ es) calls conn known (inl now) = changed_met e.0 e.1 es calls conn known now.0 now.1
  overwrite_met (e ∷ es) calls conn known (inr later) =
      overwrite_met es (call.Overwrite e.0 e.1 ∷ calls) conn
      (λ key. knows_more rules key (Made key) (call.Overwrite e.0 e.1) calls (plain_fit rules key (Made key) (call.Overwrite e.0 e.1) calls refl refl refl) (known key)) later

  -- ---- a block

  block_met : (key : Key) (at : ℕ) (calls : List (Call Key)) (conn : ℕ) → AllKnown calls → kept_of key_cmp rules calls key ≡ Some conn → IsMet conn (call.Block key at ∷ calls)
  unfolding has_cause is_held
  block_met key at calls conn known kept = record {
    key = key;
    made = (known key).made conn kept;
    held = (known key).held (kept_there calls key conn kept);
    came = or_first (is_at (key_cmp key) key) (has_cause rules calls key) (at_key key key ∙ eq-eqb key.0 key.0 refl);
  }

  -- what was asked
  pub asked_met : (o : Option Act) (at : ℕ) (calls : List (Call Key)) (conn : ℕ) → AllKnown calls → IsEndedBy rules conn calls o → IsMet conn (asked_calls o at calls)
  asked_met (Some (act.Ask (ask.Track index peers) m)) at calls conn known why = track_met index peers.primary peers.secondary calls conn why.1 why.2 known why.0 why.3 why.4
  asked_met (Some (act.Ask (ask.Overwrite peers) m)) at calls conn known why = overwrite_met peers calls conn known why
  asked_met (Some (act.Ask (ask.Block key) m)) at calls conn known why = block_met key at calls conn known why
  asked_met _ at calls conn known why = absurd why

  -- ---- a connection that begins too late

  pub refused_met : (key : Key) (at conn : ℕ) (calls : List (Call Key)) → AllKnown calls → is_held key_cmp calls key ≡ true → Made key conn → accepts key_cmp rules calls key (Some at) ≡ false
      → IsMet conn (call.Connect key (Some at) conn ∷ calls)
  unfolding has_cause is_held
  refused_met key at conn calls known held made refused = record {
    key = key;
    made = made;
    held = held;
    came = by (has_cause rules calls key) refl;
  }
    where
      by : (b : Bool) → has_cause rules calls key ≡ b → has_cause rules calls key ≡ true
      by true is = is
      by false is =
          let clear : IsClear rules key calls = (known key).clear held is in
          absurd
          (false≢true
          (sym refused
          ∙ accepted_if (is_local key_cmp rules key) (is_tracked key_cmp rules calls key) (is_blocked key_cmp rules calls key at) (is_stale key_cmp rules calls key) clear.other clear.tracked
          (ap (λ o. lasts_at o at) clear.unblocked) clear.fresh))
