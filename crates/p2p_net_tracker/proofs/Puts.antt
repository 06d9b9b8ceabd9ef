-- What holds of each thing that a tracker puts, by parts of what it puts.
use Rattle.std.proofs.Common.{ℕ, Bool, true, false, cond, List, [], ◌∷◌, Option, Some, None}
use Rattle.std.specs.Prelude.{slice_index_or, slice_set}
use Rattle.std.specs.List.{AllByRecursion as Each}
use Rattle.p2p_address.specs.declared.peer.Address.{Address}
use Rattle.p2p_base.specs.declared.key.Key.{Key}
use Rattle.p2p_flow.specs.declared.update.PeerSetUpdate.{PeerSetUpdate}
use Rattle.p2p_tracker_calls.specs.declared.call.Call.{Call}
use Rattle.p2p_tracker_calls.specs.declared.call.Call.TheVariants as call
use Rattle.p2p_tracker_calls.specs.Keeping.{kept_of}
use Rattle.p2p_tracker_calls.specs.Lives.{is_overwritten}
use Rattle.p2p_tracker_calls.specs.Rules.{Rules}
use Rattle.p2p_tracker.specs.Putting.{kills_of, overwrite_kills}
use Rattle.p2p_tracker.specs.Telling.{kill_put, updates_put, told_of_sets, sets_put}
use Rattle.p2p_tracker.specs.declared.stepped.Put.{Put}
use Rattle.p2p_tracker.specs.declared.stepped.Put.TheVariants as put
use Rattle.p2p_log.proofs.Each.{Each-append}
use Rattle.p2p_log_rules.specs.Tracking.{key_cmp}

module _ (P : Put Key → Type 0) where
  pub each_if : (b : Bool) (xs : List (Put Key)) → Each P xs → Each P (cond b xs [])
  each_if true xs h = h
  each_if false xs h = tt

  -- the updates of such subscriptions, and the sets of blocked keys
  module _ (Q : ℕ → Type 0) where
    each_update : ((ticket : ℕ) (u : PeerSetUpdate Key) → Q ticket → P (put.Update ticket u)) → (ts : List ℕ) (u : PeerSetUpdate Key) → Each Q ts → Each P (updates_put ts u)
    each_update f [] u h = tt
    each_update f (t ∷ ts) u h = (f t u h.0, each_update f ts u h.1)

    pub each_told : ((ticket : ℕ) (u : PeerSetUpdate Key) → Q ticket → P (put.Update ticket u)) → (ts : List ℕ) (o : Option (PeerSetUpdate Key)) → Each Q ts → Each P (told_of_sets ts o)
    each_told f ts None h = tt
    each_told f ts (Some u) h = each_update f ts u h

    pub each_set : ((ticket : ℕ) (keys : List Key) (dropped : Option (List Key)) → Q ticket → P (put.Blocked ticket keys dropped)) → (waiting : List (Option (List Key))) (ts : List ℕ) (keys : List Key) → Each Q ts
        → Each P (sets_put waiting ts keys)
    each_set f waiting [] keys h = tt
    each_set f waiting (t ∷ ts) keys h = (f t keys (slice_index_or waiting t None) h.0, each_set f (slice_set waiting t (Some keys)) ts keys h.1)

  -- kills
  module _ (kill : (k : Key) (conn : ℕ) → P (put.Kill k conn)) where
    pub each_kill : (k : Key) (o : Option ℕ) → Each P (kill_put k o)
    each_kill k None = tt
    each_kill k (Some conn) = (kill k conn, tt)

    module _ (rules : Rules Key) where
      pub each_kills : (calls : List (Call Key)) (ks : List Key) → Each P (kills_of key_cmp rules calls ks)
      each_kills calls [] = tt
      each_kills calls (k ∷ ks) =
          Each-append P (kill_put k (kept_of key_cmp rules calls k)) (kills_of key_cmp rules calls ks) (each_kill k (kept_of key_cmp rules calls k)) (each_kills calls ks)

      pub each_overwrite : (es : List (Key × Address)) (calls : List (Call Key)) → Each P (overwrite_kills key_cmp rules es calls)
      each_overwrite [] calls = tt
      each_overwrite (e ∷ es) calls =
          let kill = kill_put e.0 (kept_of key_cmp rules calls e.0) in
          let more = call.Overwrite e.0 e.1 ∷ calls in
          Each-append P (cond (is_overwritten key_cmp rules calls e.0 e.1) kill []) (overwrite_kills key_cmp rules es more)
          (each_if (is_overwritten key_cmp rules calls e.0 e.1) kill (each_kill e.0 (kept_of key_cmp rules calls e.0))) (each_overwrite es more)
