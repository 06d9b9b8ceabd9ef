-- All that ends with a node that stops, in order, is what the log says ends, and the node and the links hold what is left.
use Rattle.std.proofs.Common.{◌≡◌, ℕ, List, [], ◌∷◌, ◌++◌, refl, ap, ◌∙◌, Option, Some, None}
use Rattle.std.specs.Prelude.{filter, flat_map}
use Rattle.std.specs.List.{AllByRecursion as Each}
use Rattle.p2p_log.specs.declared.entry.Entry.{Entry}
use Rattle.p2p_log.specs.declared.queue.Queue.{Queue}
use Rattle.p2p_log.specs.declared.queue.Queue.TheVariants as queue
use Rattle.p2p_log.specs.declared.item.Envelope.{Envelope}
use Rattle.p2p_log.specs.declared.item.Item.{Item}
use Rattle.p2p_log.specs.Drained.{drained, each_with, drained_with}
use Rattle.p2p_log.specs.Lines.{stands_in}
use Rattle.p2p_log.proofs.Each.{Each-append}
use Rattle.p2p_log_rules.specs.declared.row.Half.{Half}
use Rattle.p2p_log_rules.specs.Connections.{half_at}
use Rattle.p2p_log_rules.specs.Dropping.{LinkEnd, other_side, dialing_end, listening_end}
use Rattle.p2p_log_rules.specs.Handshakes.{handshakes_of, came_over}
use Rattle.p2p_log_rules.specs.Stopping.{towards, brought_to, brought_by, with_attempt, with_handshake, with_half, queues_at}
use Rattle.p2p_log_rules.specs.Told.{told, attempts_in, connections_in}
use Rattle.p2p_log_laws.proofs.Draining.{BringsNone, drained_with-then, drained_with-none}
use Rattle.p2p_net_calls.specs.Stopping.{left}

-- ---- queues that bring nothing

plain : (log : List Entry) (q : Queue) → ((i : Item) → brought_to log q i ≡ []) → BringsNone (brought_by log) q
plain log q none x is = ap (λ p. brought_to log p x.item) is ∙ none x.item

module _ (log : List Entry) (n : ℕ) where
  abbrev Plain : Queue → Type 0
  Plain q = BringsNone (brought_by log) q

  towards_none : (o : Option LinkEnd) → Each Plain (towards o)
  towards_none None = tt
  towards_none (Some e) = (plain log (queue.Link e.0 (other_side e.1)) (λ i. refl), tt)

  attempt_none : (k : ℕ) → Each Plain (with_attempt log n k)
  attempt_none k = (plain log (queue.Attempt n k) (λ i. refl), towards_none (dialing_end log n k))

  handshake_none : (h : ℕ) → Each Plain (with_handshake log n h)
  handshake_none h = (plain log (queue.Handshake n h) (λ i. refl), towards_none (listening_end (came_over log h)))

  half_none : (conn : ℕ) (o : Option Half) → Each Plain (with_half n conn o)
  half_none conn None = tt
  half_none conn (Some half) = (
    plain log (queue.High n conn) (λ i. refl),
    (plain log (queue.Low n conn) (λ i. refl), (plain log (queue.Held n conn) (λ i. refl), (plain log (queue.Control n conn) (λ i. refl), (plain log (queue.RouterAnswer n conn) (λ i. refl), (plain log (queue.Link half.link (other_side half.writes)) (λ i. refl), tt))))),
  )

  all_none : (g : ℕ → List Queue) → ((k : ℕ) → Each Plain (g k)) → (ks : List ℕ) → Each Plain (flat_map g ks)
  all_none g each [] = tt
  all_none g each (k ∷ ks) = Each-append Plain (g k) (flat_map g ks) (each k) (all_none g each ks)

  -- what a node holds
  abbrev pub attempts : List Queue
  attempts = flat_map (with_attempt log n) (attempts_in (told log) n)

  abbrev pub handshakes : List Queue
  handshakes = flat_map (with_handshake log n) (handshakes_of log n)

  abbrev pub connections : List Queue
  connections = flat_map (λ conn. with_half n conn (half_at log n conn)) (connections_in (told log) n)

  abbrev pub calls : List Queue
  calls = queue.Router n ∷ queue.Tracker n ∷ []

  abbrev pub told_queues : List Queue
  told_queues = queue.Addresses n ∷ queue.Dialer n ∷ []

  abbrev pub last : List Queue
  last = told_queues ++ (attempts ++ (handshakes ++ connections))

  calls_none : Each Plain calls
  calls_none = (plain log (queue.Router n) (λ i. refl), (plain log (queue.Tracker n) (λ i. refl), tt))

  last_none : Each Plain last
  last_none = (
    plain log (queue.Addresses n) (λ i. refl),
    (
      plain log (queue.Dialer n) (λ i. refl),
      Each-append Plain attempts (handshakes ++ connections) (all_none (with_attempt log n) attempt_none (attempts_in (told log) n))
          (Each-append Plain handshakes connections (all_none (with_handshake log n) handshake_none (handshakes_of log n))
          (all_none (λ conn. with_half n conn (half_at log n conn)) (λ conn. half_none conn (half_at log n conn)) (connections_in (told log) n))),
    ),
  )

  -- what comes of all of them, in parts: of the mailboxes, of the messages to the spawner, of the arrivals, and of the others
  module _ (items : List Envelope) where
    abbrev pub first : List Envelope
    first = drained items calls

    abbrev pub after_first : List Envelope
    after_first = left first items

    abbrev pub messages : List Envelope
    messages = each_with (brought_by log) after_first (filter (stands_in (queue.Spawner n)) after_first)

    abbrev pub after_messages : List Envelope
    after_messages = left messages after_first

    abbrev pub arrivals : List Envelope
    arrivals = each_with (brought_by log) after_messages (filter (stands_in (queue.Arrivals n)) after_messages)

    abbrev pub after_arrivals : List Envelope
    after_arrivals = left arrivals after_messages

    pub in_parts : drained_with (brought_by log) items (queues_at log n) ≡ first ++ (messages ++ (arrivals ++ drained after_arrivals last))
    in_parts =
        drained_with-then (brought_by log) items calls (queue.Spawner n ∷ queue.Arrivals n ∷ last) calls_none
        ∙ ap (λ d. first ++ (messages ++ (arrivals ++ d))) (drained_with-none (brought_by log) after_arrivals last last_none)
