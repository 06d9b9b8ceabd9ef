-- The order of queues answers that two are equal exactly where they are the same.
use Rattle.std.specs.Prelude.{◌≡◌, ℕ, nat_eq}
use Rattle.std.specs.Ordering.{nat_cmp, on, then_cmp, eq_of_both, is_eq}
use Rattle.std.specs.Cmp.Rules.{comparing}
use Rattle.std.proofs.Common.{rules}
use Rattle.p2p_log.specs.declared.queue.Queue.{Queue}
use Rattle.p2p_log.specs.QueueCode.{kind_of, owner_of, detail_of}
use Rattle.p2p_log.specs.QueueOrder.{queue_eq, queue_cmp}

-- by any three numbers
matches_by : {T : Type 0} (f g h : T → ℕ) (x y : T) → eq_of_both (on f nat_eq) (eq_of_both (on g nat_eq) (on h nat_eq)) x y ≡ is_eq (then_cmp (then_cmp (on f nat_cmp) (on g nat_cmp)) (on h nat_cmp) x y)
matches_by f g h = Prim.search (comparing, rules)

pub matches_eq : (x y : Queue) → queue_eq x y ≡ is_eq (queue_cmp x y)
matches_eq x y = matches_by kind_of owner_of detail_of x y
