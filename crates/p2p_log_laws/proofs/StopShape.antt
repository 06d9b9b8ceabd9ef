-- The shape of an act that stops a node: what waits there, and what is in flight towards it, ends untaken, with its copies.
use Rattle.std.proofs.Common.{◌≡◌, ℕ, Bool, true, false, cond, List, [], ◌∷◌, ◌++◌, Some, inl, inr, refl, ap, sym, subst, ◌∙◌}
use Rattle.std.specs.Prelude.{◌||◌, slice_get, flat_map, Option, None}
use Rattle.std.specs.List.{list_any, AllByRecursion as Each}
use Rattle.p2p_log.specs.declared.config.Config.{Config}
use Rattle.p2p_log.specs.declared.queue.Queue.{Queue}
use Rattle.p2p_log.specs.declared.queue.Queue.TheVariants as queue
use Rattle.p2p_log.specs.declared.queue.Side.TheVariants as side
use Rattle.p2p_log.specs.declared.item.Item.{Item}
use Rattle.p2p_log.specs.declared.item.Envelope.{Envelope}
use Rattle.p2p_log.specs.declared.end.Cause.TheVariants as cause
use Rattle.p2p_log.specs.declared.entry.Entry.{Entry}
use Rattle.p2p_log.specs.declared.entry.Reply.TheVariants as reply
use Rattle.p2p_log.specs.declared.event.Act.{Act}
use Rattle.p2p_log.specs.declared.event.Act.TheVariants as act
use Rattle.p2p_log.specs.declared.event.Event.{Event}
use Rattle.p2p_log.specs.Copies.{carries}
use Rattle.p2p_log.specs.Drained.{all_end, drained_with}
use Rattle.p2p_log.specs.Lines.{live, line, stands_in}
use Rattle.p2p_log.specs.QueueCode.{same_queue}
use Rattle.p2p_log.proofs.Each.{Has, Has-after, Has-first, Has-flat_map, Has-kept, Each-has, place_of}
use Rattle.p2p_log.proofs.Names.{AreApart-live_from}
use Rattle.p2p_log.proofs.Queues.{same_queue-refl}
use Rattle.p2p_log.proofs.Taken.{Each-drained_with, drained_with_taken, BringsOthers}
use Rattle.p2p_log_rules.specs.declared.row.Row.{Row}
use Rattle.p2p_log_rules.specs.Dropping.{LinkEnd, arrival_end, half_end}
use Rattle.p2p_log_rules.specs.Effect.{entry_of, only}
use Rattle.p2p_log_rules.specs.Facts.{is_stopped}
use Rattle.p2p_log_rules.specs.Stopping.{towards, brought_to, brought_by, queues_at, emptied_at, stop_row}
use Rattle.p2p_log_rules.specs.Told.{told, half_to_be}
use Rattle.p2p_log_rules.proofs.Emptied.{each_queue}
use Rattle.p2p_log_laws.specs.Causes.{Shows}
use Rattle.p2p_log_laws.proofs.Bulk.{emptied_shape}
use Rattle.p2p_log_laws.proofs.Reaching.{ends_in}
use Rattle.p2p_log_laws.proofs.Shape.{Shape, still}
use Rattle.p2p_log_laws.proofs.Showing.{Standing}

module _ (configs : List Config) (log : List Entry) (by_start : Bool) (n : ℕ) where
  abbrev a : Act
  a = act.Stop by_start n

  abbrev qs : List Queue
  qs = queues_at log n

  abbrev all : List Queue
  all = emptied_at log n

  abbrev rest : List Envelope
  rest = drained_with (brought_by log) (live log) qs

  abbrev due : Row
  due = record { reply = reply.Ok; takes = []; puts = []; ends = all_end cause.NodeStopped rest }

  -- a queue that is emptied is one of those
  any_has : (ps : List Queue) (p : Queue) → Has ps p → list_any (λ q. same_queue q p) ps ≡ true
  any_has [] p has = absurd has
  any_has (q ∷ qs) p (inl is) = ap (λ b. b || list_any (λ r. same_queue r p) qs) (ap (λ r. same_queue r p) is ∙ same_queue-refl p)
  any_has (q ∷ qs) p (inr has) = ap (λ b. same_queue q p || b) (any_has qs p has) ∙ or_true (same_queue q p)
    where
      or_true : (b : Bool) → (b || true) ≡ true
      or_true true = refl
      or_true false = refl

  near : (p : Queue) → Has all p → ends_in configs log a p ≡ true
  near p has = any_has all p has

  -- what is brought by what waits in a queue is in flight over a link, and not there
  not_there : (q : Queue) → ((link : ℕ) → (same_queue q (queue.Link link side.Out) ≡ false) × (same_queue q (queue.Link link side.In) ≡ false))
      → (o : Option LinkEnd) → Each (λ p. same_queue q p ≡ false) (towards o)
  not_there q away None = tt
  not_there q away (Some (link, side.Out)) = ((away link).1, tt)
  not_there q away (Some (link, side.In)) = ((away link).0, tt)

  silent : (q : Queue) → ((i : Item) → brought_to log q i ≡ []) → BringsOthers (brought_by log) q
  silent q none x is = subst (Each (λ p. same_queue q p ≡ false)) (sym (ap (λ p. brought_to log p x.item) is ∙ none x.item)) tt

  spawner_brings : BringsOthers (brought_by log) (queue.Spawner n)
  spawner_brings x is =
      subst (Each (λ p. same_queue (queue.Spawner n) p ≡ false)) (sym (ap (λ p. brought_to log p x.item) is))
      (not_there (queue.Spawner n) (λ link. (refl, refl)) (half_end (half_to_be (told log) n x.item)))

  arrivals_bring : BringsOthers (brought_by log) (queue.Arrivals n)
  arrivals_bring x is =
      subst (Each (λ p. same_queue (queue.Arrivals n) p ≡ false)) (sym (ap (λ p. brought_to log p x.item) is))
      (not_there (queue.Arrivals n) (λ link. (refl, refl)) (arrival_end (x.item ∷ [])))

  pub others : Each (BringsOthers (brought_by log)) qs
  others = each_queue log n (BringsOthers (brought_by log)) (record {
    router = silent (queue.Router n) (λ i. refl);
    tracker = silent (queue.Tracker n) (λ i. refl);
    spawner = spawner_brings;
    arrivals = arrivals_bring;
    update = silent (queue.Addresses n) (λ i. refl);
    dialer = silent (queue.Dialer n) (λ i. refl);
    attempt = λ k. silent (queue.Attempt n k) (λ i. refl);
    handshake = λ h. silent (queue.Handshake n h) (λ i. refl);
    high = λ conn. silent (queue.High n conn) (λ i. refl);
    low = λ conn. silent (queue.Low n conn) (λ i. refl);
    held = λ conn. silent (queue.Held n conn) (λ i. refl);
    control = λ conn. silent (queue.Control n conn) (λ i. refl);
    ready = λ conn. silent (queue.RouterAnswer n conn) (λ i. refl);
    link = λ l s. silent (queue.Link l s) (λ i. refl);
  })

  -- what is brought is emptied
  abbrev Brings : Queue → Type 0
  Brings q = (y x : Envelope) → Has (live log) y → y.queue ≡ q → Has (brought_by log y) x.queue → Has all x.queue

  none_brought : (q : Queue) → ((i : Item) → brought_to log q i ≡ []) → Brings q
  none_brought q none y x stood is has = absurd (subst (λ l. Has l x.queue) (ap (λ p. brought_to log p y.item) is ∙ none y.item) has)

  abbrev brought : List Queue
  brought = flat_map (brought_by log) (line log (queue.Spawner n)) ++ flat_map (brought_by log) (line log (queue.Arrivals n))

  in_line : (q : Queue) (y : Envelope) → Has (live log) y → y.queue ≡ q → Has (line log q) y
  unfolding line
  in_line q y stood is = Has-kept (stands_in q) (live log) y (ap (same_queue q) is ∙ same_queue-refl q) stood

  spawner_brought : Brings (queue.Spawner n)
  spawner_brought y x stood is has =
      Has-after qs brought x.queue
      (Has-first (flat_map (brought_by log) (line log (queue.Spawner n))) (flat_map (brought_by log) (line log (queue.Arrivals n))) x.queue
      (Has-flat_map (brought_by log) (line log (queue.Spawner n)) y x.queue (in_line (queue.Spawner n) y stood is) has))

  arrivals_brought : Brings (queue.Arrivals n)
  arrivals_brought y x stood is has =
      Has-after qs brought x.queue
      (Has-after (flat_map (brought_by log) (line log (queue.Spawner n))) (flat_map (brought_by log) (line log (queue.Arrivals n))) x.queue
      (Has-flat_map (brought_by log) (line log (queue.Arrivals n)) y x.queue (in_line (queue.Arrivals n) y stood is) has))

  brings : Each Brings qs
  brings = each_queue log n Brings (record {
    router = none_brought (queue.Router n) (λ i. refl);
    tracker = none_brought (queue.Tracker n) (λ i. refl);
    spawner = spawner_brought;
    arrivals = arrivals_brought;
    update = none_brought (queue.Addresses n) (λ i. refl);
    dialer = none_brought (queue.Dialer n) (λ i. refl);
    attempt = λ k. none_brought (queue.Attempt n k) (λ i. refl);
    handshake = λ h. none_brought (queue.Handshake n h) (λ i. refl);
    high = λ conn. none_brought (queue.High n conn) (λ i. refl);
    low = λ conn. none_brought (queue.Low n conn) (λ i. refl);
    held = λ conn. none_brought (queue.Held n conn) (λ i. refl);
    control = λ conn. none_brought (queue.Control n conn) (λ i. refl);
    ready = λ conn. none_brought (queue.RouterAnswer n conn) (λ i. refl);
    link = λ l s. none_brought (queue.Link l s) (λ i. refl);
  })

  within : Each (λ x. Has all x.queue) rest
  within =
      Each-drained_with (brought_by log) (λ x. Has all x.queue) (live log) (live log) qs (λ y has. has) (λ x has. Has-first qs brought x.queue has)
      (λ y x stood has here. Each-has Brings qs y.queue brings has y x stood refl here)

  shows : Standing configs log → (ev : Event) → ev.act ≡ a → (q : Queue) → Has all q → (x : Envelope) (place : ℕ) → slice_get (line log q) place ≡ Some x → (copy : ℕ × ℕ) → carries copy x ≡ true
      → Shows configs log (entry_of ev due) copy cause.NodeStopped
  shows stand ev acts q has x place at copy bears =
      record { node = n; by_start = by_start; stops = acts; done = refl; from = q; with = place_of all q has; place = place; left = x; stood = at; carried = bears }

  pub stop_shape : Shape configs log a (stop_row log n)
  stop_shape = by (is_stopped log n)
    where
      by : (b : Bool) → Shape configs log a (cond b (only reply.Gone) due)
      by true = still configs log a reply.Gone refl refl
      by false =
          emptied_shape configs log a reply.Ok refl refl [] tt [] refl (λ copy. refl) [] tt tt all near cause.NodeStopped rest
          (drained_with_taken (brought_by log) (live log) qs (AreApart-live_from 0 log) others) within (λ stand ev acts. tt) shows
