-- The laws of `Connected` and `Carrier` at `Messenger`.
use Rattle.std.specs.Prelude.{◌≡◌, ℕ, ◌+◌, [], ◌∷◌, length}
use Rattle.std.proofs.Common.{length-append}
use Rattle.std.proofs.Math.ListN.{length-set}
use Rattle.p2p_base.specs.Queue.{empty_queue, without_oldest, closed_queue}
use Rattle.p2p_router.specs.Messenger.{Desk, subscribed, list_taken, receiver_dropped, lists_of}

module _ {P : Type 0} where
  pub subscribe_counts : (d : Desk P) → length (subscribed d).lists ≡ length d.lists + 1
  subscribe_counts d = length-append d.lists (empty_queue 1 ∷ [])

  pub list_taken_keeps : (d : Desk P) (n : ℕ) → length (list_taken d n).lists ≡ length d.lists
  list_taken_keeps d n = length-set d.lists n (without_oldest (lists_of d n))

  pub receiver_dropped_keeps : (d : Desk P) (n : ℕ) → length (receiver_dropped d n).lists ≡ length d.lists
  receiver_dropped_keeps d n = length-set d.lists n (closed_queue (lists_of d n))
