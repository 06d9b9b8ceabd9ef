-- What is known of a key by the calls of a tracker, and is kept by each call: while it is held, it may be connected, or there is a cause to end its connection.
use Rattle.std.proofs.Common.{◌≡◌, ℕ, ◌+◌, Bool, true, false, cond, List, [], ◌∷◌, take, Option, Some, None, ◌⊎◌, inl, inr, refl, ap, sym, ◌∙◌}
use Rattle.std.specs.Prelude.{◌&&◌, ◌||◌, not, is_some}
use Rattle.std.specs.List.{list_any}
use Rattle.std.specs.Option.{option_or}
use Rattle.std.specs.BTreeMap.{is_at}
use Rattle.std.specs.Map.{lookup}
use Rattle.std.proofs.lemmas.Bool.{false≢true}
use Rattle.p2p_base.specs.declared.key.Key.{Key}
use Rattle.p2p_address.specs.declared.peer.Address.{Address}
use Rattle.p2p_tracker_calls.specs.declared.call.Call.{Call}
use Rattle.p2p_tracker_calls.specs.declared.call.Call.TheVariants as call
use Rattle.p2p_tracker_calls.specs.Blocks.{lasts_at, unless_ended, is_local, block_of}
use Rattle.p2p_tracker_calls.specs.Grants.{Grant, grant_by, releases, held_by, is_held}
use Rattle.p2p_tracker_calls.specs.Keeping.{begun_by, kept_of, is_kept}
use Rattle.p2p_tracker_calls.specs.Lives.{is_change, given_by, address_of, is_stale, connects}
use Rattle.p2p_tracker_calls.specs.Rules.{Rules}
use Rattle.p2p_tracker_calls.specs.Sets.{is_above, only_secondary, set_of, accepted_sets, is_primary_in, is_secondary_in, kept_sets, is_tracked}
use Rattle.p2p_tracker_calls.proofs.Eligible.{kept_of-more}
use Rattle.p2p_tracker_calls.proofs.KeptCalls.{kept-after}
use Rattle.p2p_log_rules.specs.Tracking.{key_cmp}
use Rattle.p2p_log_laws.specs.KilledSince.{is_cause, has_cause}

neither : (a b : Bool) → (a || b) ≡ false → (a ≡ false) × (b ≡ false)
neither true b h = absurd (false≢true (sym h))
neither false b h = (refl, h)

from_not : (a : Bool) → not a ≡ false → a ≡ true
from_not true h = refl
from_not false h = sym h

-- what is there of two, where there is something
of_two : (b : Bool) (x y : Option ℕ) (conn : ℕ) → cond b (option_or x y) None ≡ Some conn → (x ≡ Some conn) ⊎ (y ≡ Some conn)
of_two false x y conn h = absurd (cc)
of_two true None y conn h = inr h
of_two true (Some m) y conn h = inl h

module _ (rules : Rules Key) (key : Key) where
  -- the key is another's, in a set that is kept, and was neither given another address since its grant nor blocked
  pub record IsClear (calls : List (Call Key)) : Type 0 where
    pub other : is_local key_cmp rules key ≡ false
    pub tracked : is_tracked key_cmp rules calls key ≡ true
    pub fresh : is_stale key_cmp rules calls key ≡ false
    pub unblocked : block_of key_cmp rules calls key ≡ None

  -- what a grant of the key wants
  pub record IsFree (calls : List (Call Key)) : Type 0 where
    pub other : is_local key_cmp rules key ≡ false
    pub tracked : is_tracked key_cmp rules calls key ≡ true
    pub unblocked : block_of key_cmp rules calls key ≡ None

  abbrev held : List (Call Key) → Bool
  held calls = is_held key_cmp calls key

  abbrev caused : List (Call Key) → Bool
  caused calls = has_cause rules calls key

  -- while it is held, it is clear as long as nothing came that ends its connection
  abbrev pub IsClearUncaused : List (Call Key) → Type 0
  IsClearUncaused calls = held calls ≡ true → caused calls ≡ false → IsClear calls

  -- a dial or a listen of the key, that is granted or not
  asked_clear : (calls : List (Call Key)) (g : Grant) (b : Bool) → (is_some (cond b (Some g) None) ≡ true → IsFree calls) → IsClearUncaused calls
      → held_by (cond b (Some g) None) false (held calls) ≡ true → cond (is_some (cond b (Some g) None)) false (caused calls) ≡ false
      → IsFree calls × (cond (is_some (cond b (Some g) None) || false) false (is_stale key_cmp rules calls key) ≡ false)
  asked_clear calls g true free old h u = (free refl, refl)
  asked_clear calls g false free old h u = let c = old h u in (record { other = c.other; tracked = c.tracked; unblocked = c.unblocked }, c.fresh)

  release_parts : (b before : Bool) → held_by None b before ≡ true → (b ≡ false) × (before ≡ true)
  release_parts true before h = absurd (false≢true h)
  release_parts false before h = (refl, h)

  given_same : (b : Bool) (given : Address) (o : Option Address) → (b && is_change (Some given) o) ≡ false → is_change (cond b (Some given) None) o ≡ false
  given_same true given o h = h
  given_same false given o h = refl

  stale_less : (change held stale : Bool) → change ≡ false → stale ≡ false → ((change && held) || stale) ≡ false
  stale_less true held stale c s = absurd (false≢true (sym c))
  stale_less false held stale c s = s

  track_parts : (above change was is : Bool) → (above && (change || (was && not is))) ≡ false → was ≡ true → (above ≡ true → (change ≡ false) × (is ≡ true))
  track_parts true change was is h w a = let parts = neither change (was && not is) h in (parts.0, from_not is (sym (ap (λ b. b && not is) w) ∙ parts.1))
  track_parts false change was is h w a = absurd (false≢true a)

  -- a peer set that is no cause leaves a clear key clear
  track_clear : (index : ℕ) (primary secondary : List (Key × Address)) (calls : List (Call Key)) → IsClear calls → (b : Bool) → is_above index (accepted_sets key_cmp calls) ≡ b
      → is_cause rules (call.Track index primary secondary) calls key ≡ false → IsClear (call.Track index primary secondary ∷ calls)
  unfolding is_stale is_tracked kept_sets accepted_sets block_of
  track_clear index primary secondary calls c true is uncaused =
      let change = is_change (given_by key_cmp (call.Track index primary secondary) calls key) (address_of key_cmp rules calls key) in
      let told =
      track_parts (is_above index (accepted_sets key_cmp calls)) change (is_tracked key_cmp rules calls key) (is_tracked key_cmp rules (call.Track index primary secondary ∷ calls) key) uncaused c.tracked is
      in
      record {
        other = c.other;
        tracked = told.1;
        fresh = stale_less change (held calls) (is_stale key_cmp rules calls key) told.0 c.fresh;
        unblocked = c.unblocked;
      }
  track_clear index primary secondary calls c false is uncaused =
      let change = is_change (given_by key_cmp (call.Track index primary secondary) calls key) (address_of key_cmp rules calls key) in
      record {
        other = c.other;
        tracked =
            ap
            (λ b. list_any (λ s. is_primary_in key_cmp key s || is_secondary_in key_cmp key s) (take rules.max_sets (cond b (set_of key_cmp index primary secondary ∷ accepted_sets key_cmp calls) (accepted_sets key_cmp calls))))
            is ∙ c.tracked;
        fresh =
            stale_less change (held calls) (is_stale key_cmp rules calls key)
            (ap
            (λ b. is_change (cond b (option_or (lookup (λ p. is_at (key_cmp p) key) primary) (lookup (λ p. is_at (key_cmp p) key) (only_secondary key_cmp primary secondary))) None) (address_of key_cmp rules calls key))
            is) c.fresh;
        unblocked = c.unblocked;
      }

  clear_more : (c : Call Key) (calls : List (Call Key)) → (is_some (grant_by key_cmp c key) ≡ true → IsFree calls) → IsClearUncaused calls → IsClearUncaused (c ∷ calls)
  unfolding has_cause is_held is_stale is_tracked kept_sets accepted_sets block_of
  clear_more (call.Dial p at jitter granted) calls free old h u =
      let a = asked_clear calls (at, jitter) (granted && is_at (key_cmp p) key) free old h u in
      record { other = a.0.other; tracked = a.0.tracked; fresh = a.1; unblocked = a.0.unblocked }
  clear_more (call.Listen p at jitter granted) calls free old h u =
      let a = asked_clear calls (at, jitter) (granted && is_at (key_cmp p) key) free old h u in
      record { other = a.0.other; tracked = a.0.tracked; fresh = a.1; unblocked = a.0.unblocked }
  clear_more (call.Connect p at conn) calls free old h u =
      let c = old h u in record { other = c.other; tracked = c.tracked; fresh = c.fresh; unblocked = c.unblocked }
  clear_more (call.Release p) calls free old h u =
      let parts = release_parts (is_at (key_cmp p) key) (held calls) h in
      let c = old parts.1 u in
      record {
        other = c.other;
        tracked = c.tracked;
        fresh = ap (λ b. cond b false (is_stale key_cmp rules calls key)) parts.0 ∙ c.fresh;
        unblocked = c.unblocked;
      }
  clear_more (call.UnblockExpired at) calls free old h u =
      let c = old h u in record { other = c.other; tracked = c.tracked; fresh = c.fresh; unblocked = ap (λ o. unless_ended o at) c.unblocked }
  clear_more (call.Block p at) calls free old h u =
      let parts = neither (is_at (key_cmp p) key) (caused calls) u in
      let c = old h parts.1 in
      record {
        other = c.other;
        tracked = c.tracked;
        fresh = c.fresh;
        unblocked =
            ap (λ b. cond (b && not (is_local key_cmp rules key) && not (lasts_at (block_of key_cmp rules calls key) at)) (Some (at + rules.block_duration)) (block_of key_cmp rules calls key)) parts.0 ∙ c.unblocked;
      }
  clear_more (call.Overwrite p address) calls free old h u =
      let parts = neither (is_at (key_cmp p) key && is_change (Some address) (address_of key_cmp rules calls key)) (caused calls) u in
      let c = old h parts.1 in
      record {
        other = c.other;
        tracked = c.tracked;
        fresh =
            stale_less (is_change (given_by key_cmp (call.Overwrite p address) calls key) (address_of key_cmp rules calls key)) (held calls) (is_stale key_cmp rules calls key)
            (given_same (is_at (key_cmp p) key) address (address_of key_cmp rules calls key) parts.0) c.fresh;
        unblocked = c.unblocked;
      }
  clear_more (call.Track index primary secondary) calls free old h u =
      let parts = neither (is_cause rules (call.Track index primary secondary) calls key) (caused calls) u in
      track_clear index primary secondary calls (old h parts.1) (is_above index (accepted_sets key_cmp calls)) refl parts.0

  pub record Knows (Made : ℕ → Type 0) (calls : List (Call Key)) : Type 0 where
    -- whose connection is kept is held, and the connection was made
    pub held : is_kept key_cmp rules calls key ≡ true → is_held key_cmp calls key ≡ true
    pub made : (conn : ℕ) → kept_of key_cmp rules calls key ≡ Some conn → Made conn
    pub clear : IsClearUncaused calls

  -- what a call has to show, after those before it
  pub record IsFit (Made : ℕ → Type 0) (c : Call Key) (calls : List (Call Key)) : Type 0 where
    pub grants : is_some (grant_by key_cmp c key) ≡ true → IsFree calls
    pub connects : connects key_cmp rules c calls key ≡ true → is_held key_cmp calls key ≡ true
    pub begins : (conn : ℕ) → begun_by key_cmp rules c calls key ≡ Some conn → Made conn

  module _ (Made : ℕ → Type 0) where
    pub knows_none : Knows Made []
    unfolding kept_of is_held
    knows_none = record { held = λ h. absurd (false≢true h); made = λ conn h. absurd (cc); clear = λ h u. absurd (false≢true h) }

    -- one that grants nothing, and begins nothing
    pub plain_fit : (c : Call Key) (calls : List (Call Key)) → grant_by key_cmp c key ≡ None → begun_by key_cmp rules c calls key ≡ None → connects key_cmp rules c calls key ≡ false
        → IsFit Made c calls
    plain_fit c calls none never apart = record {
      grants = λ h. absurd (false≢true (sym (ap is_some none) ∙ h));
      connects = λ h. absurd (false≢true (sym apart ∙ h));
      begins = λ conn h. absurd (let clash : ◌≡◌ {A = Option ℕ} None (Some conn) = sym never ∙ h in cc);
    }

    pub knows_more : (c : Call Key) (calls : List (Call Key)) → IsFit Made c calls → Knows Made calls → Knows Made (c ∷ calls)
    knows_more c calls fit old = record {
      held = (kept-after key_cmp rules calls key).held c old.held fit.connects;
      made = λ conn h.
          elim (
          of_two (is_kept key_cmp rules (c ∷ calls) key) (begun_by key_cmp rules c calls key) (kept_of key_cmp rules calls key) conn
          (sym (kept_of-more key_cmp rules c calls key) ∙ h)
          ) [ inl now ↦ fit.begins conn now | inr before ↦ old.made conn before ];
      clear = clear_more c calls fit.grants old.clear;
    }

  pub knows_weaker : (Made Other : ℕ → Type 0) → ((conn : ℕ) → Made conn → Other conn) → (calls : List (Call Key)) → Knows Made calls → Knows Other calls
  knows_weaker Made Other weaker calls old = record { held = old.held; made = λ conn h. weaker conn (old.made conn h); clear = old.clear }
