-- Queues of one code are one queue.
use Rattle.std.proofs.Common.{◌≡◌, ℕ, suc, zero, true, List, refl, ap, sym, ◌∙◌, eqb-true}
use Rattle.std.specs.Prelude.{◌==◌, ◌&&◌, filter}
use Rattle.std.specs.List.{AllByRecursion as Each}
use Rattle.std.proofs.lemmas.Bool.{and_parts}
use Rattle.p2p_log.specs.declared.queue.Side.TheVariants as side
use Rattle.p2p_log.specs.declared.queue.Queue.{Queue}
use Rattle.p2p_log.specs.declared.queue.Queue.TheVariants as queue
use Rattle.p2p_log.specs.declared.item.Envelope.{Envelope}
use Rattle.p2p_log.specs.QueueCode.{kind_of, owner_of, detail_of, same_queue}
use Rattle.p2p_log.specs.Lines.{stands_in}
use Rattle.p2p_log.proofs.Each.{Each-passing}

-- the queue of a code
queue_of : ℕ → ℕ → ℕ → Queue
queue_of zero n d = queue.Router n
queue_of (suc zero) n d = queue.Peers n d
queue_of (suc (suc zero)) n d = queue.RouterAnswer n d
queue_of (suc (suc (suc zero))) n d = queue.High n d
queue_of (suc (suc (suc (suc zero)))) n d = queue.Low n d
queue_of (suc (suc (suc (suc (suc zero))))) n d = queue.Link n side.Out
queue_of (suc (suc (suc (suc (suc (suc zero)))))) n d = queue.Link n side.In
queue_of (suc (suc (suc (suc (suc (suc (suc zero))))))) n d = queue.Channel n d
queue_of (suc (suc (suc (suc (suc (suc (suc (suc zero)))))))) n d = queue.Tracker n
queue_of (suc (suc (suc (suc (suc (suc (suc (suc (suc zero))))))))) n d = queue.Addresses n
queue_of (suc (suc (suc (suc (suc (suc (suc (suc (suc (suc zero)))))))))) n d = queue.Dialer n
queue_of (suc (suc (suc (suc (suc (suc (suc (suc (suc (suc (suc zero))))))))))) n d = queue.Control n d
queue_of (suc (suc (suc (suc (suc (suc (suc (suc (suc (suc (suc (suc zero)))))))))))) n d = queue.PeerSet n d
queue_of (suc (suc (suc (suc (suc (suc (suc (suc (suc (suc (suc (suc (suc zero))))))))))))) n d = queue.PeerSetUpdates n d
queue_of (suc (suc (suc (suc (suc (suc (suc (suc (suc (suc (suc (suc (suc (suc zero)))))))))))))) n d = queue.Blocked n d
queue_of (suc (suc (suc (suc (suc (suc (suc (suc (suc (suc (suc (suc (suc (suc (suc zero))))))))))))))) n d = queue.Attempt n d
queue_of (suc (suc (suc (suc (suc (suc (suc (suc (suc (suc (suc (suc (suc (suc (suc (suc zero)))))))))))))))) n d = queue.Arrivals n
queue_of (suc (suc (suc (suc (suc (suc (suc (suc (suc (suc (suc (suc (suc (suc (suc (suc (suc zero))))))))))))))))) n d = queue.Handshake n d
queue_of (suc (suc (suc (suc (suc (suc (suc (suc (suc (suc (suc (suc (suc (suc (suc (suc (suc (suc zero)))))))))))))))))) n d = queue.Spawner n
queue_of k n d = queue.Held n d

queue_of-code : (q : Queue) → queue_of (kind_of q) (owner_of q) (detail_of q) ≡ q
unfolding queue_of
queue_of-code (queue.Router n) = refl
queue_of-code (queue.Peers n c) = refl
queue_of-code (queue.RouterAnswer n e) = refl
queue_of-code (queue.High n e) = refl
queue_of-code (queue.Low n e) = refl
queue_of-code (queue.Link e side.Out) = refl
queue_of-code (queue.Link e side.In) = refl
queue_of-code (queue.Channel n c) = refl
queue_of-code (queue.Tracker n) = refl
queue_of-code (queue.Addresses n) = refl
queue_of-code (queue.Dialer n) = refl
queue_of-code (queue.Control n e) = refl
queue_of-code (queue.PeerSet n e) = refl
queue_of-code (queue.PeerSetUpdates n e) = refl
queue_of-code (queue.Blocked n e) = refl
queue_of-code (queue.Attempt n e) = refl
queue_of-code (queue.Arrivals n) = refl
queue_of-code (queue.Handshake n e) = refl
queue_of-code (queue.Spawner n) = refl
queue_of-code (queue.Held n e) = refl

pub queue_from_same : (p q : Queue) → same_queue p q ≡ true → q ≡ p
queue_from_same p q h =
    let k = and_parts (kind_of p == kind_of q) ((owner_of p == owner_of q) && (detail_of p == detail_of q)) h in
    let d = and_parts (owner_of p == owner_of q) (detail_of p == detail_of q) k.1 in
    let kind : kind_of p ≡ kind_of q = eqb-true (kind_of p) (kind_of q) k.0 in
    let owner : owner_of p ≡ owner_of q = eqb-true (owner_of p) (owner_of q) d.0 in
    let detail : detail_of p ≡ detail_of q = eqb-true (detail_of p) (detail_of q) d.1 in
    sym (queue_of-code q)
    ∙ (ap (λ n. queue_of n (owner_of q) (detail_of q)) (sym kind)
    ∙ (ap (λ n. queue_of (kind_of p) n (detail_of q)) (sym owner)
    ∙ (ap (λ n. queue_of (kind_of p) (owner_of p) n) (sym detail) ∙ queue_of-code p)))

-- what stands in a queue's line is in that queue
pub Each-in_queue : (q : Queue) (xs : List Envelope) → Each (λ x. x.queue ≡ q) (filter (stands_in q) xs)
Each-in_queue q xs = Each-passing (λ x. x.queue ≡ q) (stands_in q) (λ x h. queue_from_same q x.queue h) xs
