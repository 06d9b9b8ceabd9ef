-- When two queues are the same.
use Rattle.std.proofs.Common.{◌≡◌, ℕ, true, arith}
use Rattle.std.specs.Prelude.{◌==◌, ◌&&◌}
use Rattle.std.proofs.lemmas.Bool.Decides.{nat_tests}
use Rattle.p2p_log.specs.declared.queue.Queue.{Queue}
use Rattle.std.specs.Ordering.{is_eq}
use Rattle.p2p_log.specs.QueueOrder.{queue_cmp}
use Rattle.p2p_log.specs.QueueCode.{kind_of, owner_of, detail_of, same_queue}

-- three numbers against three
same_three : (a b c x y z u v w : ℕ) → ((a == x) && ((b == y) && (c == z))) ≡ true → ((a == u) && ((b == v) && (c == w))) ≡ ((x == u) && ((y == v) && (z == w)))
same_three a b c x y z u v w h = grind (arith, nat_tests)

-- the same queue is the same as any other
pub same_queue-congr : (p q r : Queue) → same_queue p q ≡ true → same_queue p r ≡ same_queue q r
same_queue-congr p q r h =
    same_three (kind_of p) (owner_of p) (detail_of p) (kind_of q) (owner_of q) (detail_of q) (kind_of r) (owner_of r) (detail_of r) h

pub same_queue-refl : (p : Queue) → same_queue p p ≡ true
same_queue-refl p = grind (arith, nat_tests)

pub same_queue-sym : (p q : Queue) → same_queue p q ≡ same_queue q p
same_queue-sym p q = grind (arith, nat_tests)

-- the order of queues tells the same as equal
pub is_eq-queue_cmp : (p q : Queue) → is_eq (queue_cmp p q) ≡ same_queue p q
is_eq-queue_cmp p q = grind (arith, nat_tests)
