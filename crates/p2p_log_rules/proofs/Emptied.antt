-- Of which kinds the queues are that are emptied with a node.
use Rattle.std.proofs.Common.{ℕ, List, [], ◌∷◌, ◌++◌, Option, Some, None}
use Rattle.std.specs.Prelude.{flat_map}
use Rattle.std.specs.List.{AllByRecursion as Each}
use Rattle.p2p_log.specs.declared.queue.Queue.{Queue}
use Rattle.p2p_log.specs.declared.queue.Queue.TheVariants as queue
use Rattle.p2p_log.specs.declared.queue.Side.{Side}
use Rattle.p2p_log.specs.declared.item.Item.{Item}
use Rattle.p2p_log.specs.declared.item.Envelope.{Envelope}
use Rattle.p2p_log.specs.declared.entry.Entry.{Entry}
use Rattle.p2p_log.specs.Lines.{line}
use Rattle.p2p_log.proofs.Each.{Each-append}
use Rattle.p2p_log_rules.specs.declared.row.Half.{Half}
use Rattle.p2p_log_rules.specs.Connections.{half_at}
use Rattle.p2p_log_rules.specs.Dropping.{LinkEnd, other_side, dialing_end, listening_end, arrival_end, half_end}
use Rattle.p2p_log_rules.specs.Handshakes.{handshakes_of, came_over}
use Rattle.p2p_log_rules.specs.Stopping.{towards, brought_to, brought_by, with_attempt, with_handshake, with_half, queues_at, emptied_at}
use Rattle.p2p_log_rules.specs.Told.{told, half_to_be, attempts_in, connections_in}

-- what is so of each kind of them
pub record OfKinds (n : ℕ) (P : Queue → Type 0) : Type 0 where
  pub router : P (queue.Router n)
  pub tracker : P (queue.Tracker n)
  pub spawner : P (queue.Spawner n)
  pub arrivals : P (queue.Arrivals n)
  pub update : P (queue.Addresses n)
  pub dialer : P (queue.Dialer n)
  pub attempt : (k : ℕ) → P (queue.Attempt n k)
  pub handshake : (h : ℕ) → P (queue.Handshake n h)
  pub high : (conn : ℕ) → P (queue.High n conn)
  pub low : (conn : ℕ) → P (queue.Low n conn)
  pub held : (conn : ℕ) → P (queue.Held n conn)
  pub control : (conn : ℕ) → P (queue.Control n conn)
  pub ready : (conn : ℕ) → P (queue.RouterAnswer n conn)
  pub link : (l : ℕ) (s : Side) → P (queue.Link l s)

module _ (log : List Entry) (n : ℕ) (P : Queue → Type 0) (kinds : OfKinds n P) where
  each_towards : (o : Option LinkEnd) → Each P (towards o)
  each_towards None = tt
  each_towards (Some e) = (kinds.link e.0 (other_side e.1), tt)

  each_half : (conn : ℕ) (o : Option Half) → Each P (with_half n conn o)
  each_half conn None = tt
  each_half conn (Some h) =
      (kinds.high conn, (kinds.low conn, (kinds.held conn, (kinds.control conn, (kinds.ready conn, (kinds.link h.link (other_side h.writes), tt))))))

  each_of : {X : Type 0} (f : X → List Queue) → ((x : X) → Each P (f x)) → (xs : List X) → Each P (flat_map f xs)
  each_of f every [] = tt
  each_of f every (x ∷ xs) = Each-append P (f x) (flat_map f xs) (every x) (each_of f every xs)

  -- so it is of those that are emptied in order
  pub each_queue : Each P (queues_at log n)
  each_queue = (
    kinds.router,
    (
      kinds.tracker,
      (
        kinds.spawner,
        (
          kinds.arrivals,
          (
            kinds.update,
            (
              kinds.dialer,
              Each-append P (flat_map (with_attempt log n) (attempts_in (told log) n))
                  (flat_map (with_handshake log n) (handshakes_of log n) ++ flat_map (λ conn. with_half n conn (half_at log n conn)) (connections_in (told log) n))
                  (each_of (with_attempt log n) (λ k. (kinds.attempt k, each_towards (dialing_end log n k))) (attempts_in (told log) n))
                  (Each-append P (flat_map (with_handshake log n) (handshakes_of log n)) (flat_map (λ conn. with_half n conn (half_at log n conn)) (connections_in (told log) n))
                  (each_of (with_handshake log n) (λ h. (kinds.handshake h, each_towards (listening_end (came_over log h)))) (handshakes_of log n))
                  (each_of (λ conn. with_half n conn (half_at log n conn)) (λ conn. each_half conn (half_at log n conn)) (connections_in (told log) n))),
            ),
          ),
        ),
      ),
    ),
  )

  brought_each : (q : Queue) (i : Item) → Each P (brought_to log q i)
  brought_each (queue.Spawner m) i = each_towards (half_end (half_to_be (told log) m i))
  brought_each (queue.Arrivals m) i = each_towards (arrival_end (i ∷ []))
  brought_each _ i = tt

  -- and of those that are brought
  pub each_emptied : Each P (emptied_at log n)
  each_emptied =
      Each-append P (queues_at log n) (flat_map (brought_by log) (line log (queue.Spawner n)) ++ flat_map (brought_by log) (line log (queue.Arrivals n))) each_queue
      (Each-append P (flat_map (brought_by log) (line log (queue.Spawner n))) (flat_map (brought_by log) (line log (queue.Arrivals n)))
      (each_of (brought_by log) (λ (x : Envelope). brought_each x.queue x.item) (line log (queue.Spawner n)))
      (each_of (brought_by log) (λ (x : Envelope). brought_each x.queue x.item) (line log (queue.Arrivals n))))
