-- What a step of a listener comes to, but for the end of an arrival that it turns away, and which end it drops.
use Rattle.std.proofs.Common.{◌≡◌, ℕ, Bool, true, false, cond, List, [], ◌∷◌, drop, length, refl, ap, sym, ◌∙◌, Option, Some, None}
use Rattle.std.specs.Prelude.{filter}
use Rattle.p2p_base.specs.declared.key.Key.{Key}
use Rattle.p2p_tracker_calls.specs.declared.gates.Reply.{Reply as GatesReply}
use Rattle.p2p_tracker_calls.specs.declared.gates.Reply.TheVariants as gates
use Rattle.p2p_log.specs.declared.config.Config.{Config}
use Rattle.p2p_log.specs.declared.queue.Queue.{Queue}
use Rattle.p2p_log.specs.declared.queue.Queue.TheVariants as queue
use Rattle.p2p_log.specs.declared.queue.Side.{Side}
use Rattle.p2p_log.specs.declared.queue.Side.TheVariants as side
use Rattle.p2p_log.specs.declared.item.Item.{Item}
use Rattle.p2p_log.specs.declared.item.Item.TheVariants as item
use Rattle.p2p_log.specs.declared.item.Envelope.{Envelope}
use Rattle.p2p_log.specs.declared.entry.Entry.{Entry}
use Rattle.p2p_log.specs.declared.entry.Reply.{Reply}
use Rattle.p2p_log.specs.declared.entry.Reply.TheVariants as reply
use Rattle.p2p_log.specs.declared.event.Event.{Event}
use Rattle.p2p_log.specs.declared.event.Act.TheVariants as act
use Rattle.p2p_log.specs.QueueCode.{same_queue}
use Rattle.p2p_log.proofs.QueueNames.{queue_from_same}
use Rattle.p2p_log.specs.Lines.{name_of, placed, stands_in, line}
use Rattle.p2p_log_rules.specs.declared.row.Row.{Row}
use Rattle.p2p_log_rules.specs.Dropping.{LinkEnd, arrival_end, arriving_end, listener_step_row}
use Rattle.p2p_log_rules.specs.Effect.{only, row, entry_of}
use Rattle.p2p_log_rules.specs.Facts.{is_up, taken}
use Rattle.p2p_log_rules.specs.Listening.{gate_rules_at, known_of, has_place, gates_puts, listener_turn, listener_row}
use Rattle.p2p_log_rules.specs.Puts.{turns_away}
use Rattle.p2p_net_queues.proofs.Going.{first_left}
use Rattle.p2p_net_node.specs.Places as place
use Rattle.p2p_net_node.specs.declared.node.Node.{Node}
use Rattle.p2p_net_dialing.proofs.DroppedEnds.{dropped, LeavesLinks, end_by, DidBeside}
use Rattle.p2p_net_dialing.proofs.HandingOn.{none_gone}
use Rattle.p2p_net_tracker.specs.Stands.{is_told}

-- a queue in which a tracker tells something is no listener's
pub told_no_arrivals : (n m : ℕ) (q : Queue) → is_told n q ≡ true → same_queue (queue.Arrivals m) q ≡ false
told_no_arrivals n m (queue.Addresses j) h = refl
told_no_arrivals n m (queue.Dialer j) h = refl
told_no_arrivals n m (queue.Control j c) h = refl
told_no_arrivals n m (queue.PeerSet j c) h = refl
told_no_arrivals n m (queue.PeerSetUpdates j c) h = refl
told_no_arrivals n m (queue.Blocked j c) h = refl
told_no_arrivals n m (queue.Handshake j c) h = refl
told_no_arrivals n m _ h = cc

-- what was asked for a handshake that begins, as an item
abbrev pub asked_for : ℕ → Key → GatesReply → Option Item
asked_for k key gates.Admitted = Some (item.AskAcceptable k key)
asked_for k key _ = None

-- the parts that a step of a listener changes
abbrev pub named : List place.Part
named = place.tracker ∷ place.listener ∷ []

-- the link of an arrival that was refused
abbrev pub refused_for : ℕ → GatesReply → Option ℕ
refused_for link gates.Admitted = None
refused_for link _ = Some link

-- the end that is dropped by such a row
abbrev pub lost_by : List Entry → ℕ → Row → Option LinkEnd
lost_by log n r = cond (turns_away r.reply) (arriving_end log n) None

-- what a step comes to, but for the end of a link: the row is that of the listener, and the node stands for the log with its entry, by which
-- that end is dropped too; what was taken is what might be; and the code drops the same end
pub record Heard (configs : List Config) (log : List Entry) (ev : Event) (n : ℕ) (x y : Node) (r : Row) (refused : Option ℕ) : Type 0 where
  pub did : DidBeside configs log ev n x y named (lost_by log n r) (listener_row configs log n ev.at) r
  pub took : cond (turns_away r.reply) (arrival_end (taken log (entry_of ev (dropped log (lost_by log n r) r)))) None ≡ lost_by log n r
  pub drops : end_by false refused side.In ≡ lost_by log n r

-- the row of the act
pub step_row : (configs : List Config) (log : List Entry) (moment seed n : ℕ) → row configs log moment seed (act.Listener n) ≡ listener_step_row configs log n moment
unfolding row
step_row configs log moment seed n = refl

-- a turn of a listener of a node that runs, by what waits for it
pub turn_row : (configs : List Config) (log : List Entry) (n moment : ℕ) → is_up log n ≡ true → (us zs : List Envelope) → line log (queue.Addresses n) ≡ us → line log (queue.Arrivals n) ≡ zs
    → listener_row configs log n moment ≡ listener_turn (gate_rules_at configs n) (known_of configs log n) (has_place configs log n) n (length log) moment us zs
turn_row configs log n moment up us zs u z =
    let turn : List Envelope → List Envelope → Row = listener_turn (gate_rules_at configs n) (known_of configs log n) (has_place configs log n) n (length log) moment in
    ap (λ b. cond b (turn (line log (queue.Addresses n)) (line log (queue.Arrivals n))) (only reply.Gone)) up ∙ (ap (λ q. turn q (line log (queue.Arrivals n))) u ∙ ap (turn us) z)

-- where one waits alone, none is what is left when the first is taken
pub only_first : (log : List Entry) (q : Queue) (z : Envelope) → line log q ≡ z ∷ [] → (p : Queue) (b : Bool) → same_queue q p ≡ b → cond b [] (line log p) ≡ cond b (drop 1 (line log p)) (line log p)
only_first log q z one p true same = sym (ap (drop 1) (ap (line log) (queue_from_same q p same) ∙ one))
only_first log q z one p false other = refl

-- ---- what it takes and asks is in no link

arrivals_elsewhere : (n : ℕ) (s : Side) (j : ℕ) → same_queue (queue.Arrivals n) (queue.Link j s) ≡ false
arrivals_elsewhere n side.Out j = refl
arrivals_elsewhere n side.In j = refl

update_elsewhere : (n : ℕ) (s : Side) (j : ℕ) → same_queue (queue.Addresses n) (queue.Link j s) ≡ false
update_elsewhere n side.Out j = refl
update_elsewhere n side.In j = refl

asked_elsewhere : (n k : ℕ) (key : Key) (told : GatesReply) (s : Side) (j : ℕ) → filter (stands_in (queue.Link j s)) (placed k 0 (gates_puts n k key told)) ≡ []
asked_elsewhere n k key gates.Admitted side.Out j = refl
asked_elsewhere n k key gates.Admitted side.In j = refl
asked_elsewhere n k key _ s j = refl

leaves_first : (log : List Entry) (q : Queue) (z : Envelope) (zs : List Envelope) → line log q ≡ z ∷ zs → ((s : Side) (j : ℕ) → same_queue q (queue.Link j s) ≡ false) → (rep : Reply) (puts : List (Queue × Item))
    → ((s : Side) (j : ℕ) → filter (stands_in (queue.Link j s)) (placed (length log) 0 puts) ≡ []) → LeavesLinks log (record { reply = rep; takes = name_of z ∷ []; puts = puts; ends = [] })
leaves_first log q z zs first off rep puts unput = record {
  kept = λ s j. first_left log q z zs first (queue.Link j s) ∙ ap (λ b. cond b zs (line log (queue.Link j s))) (off s j);
  unput = unput;
}

module _ (log : List Entry) (n : ℕ) where
  -- where it takes an update
  pub update_leaves : (z : Envelope) (zs : List Envelope) (rep : Reply) → line log (queue.Addresses n) ≡ z ∷ zs → LeavesLinks log (record { reply = rep; takes = name_of z ∷ []; puts = []; ends = [] })
  update_leaves z zs rep first = leaves_first log (queue.Addresses n) z zs first (update_elsewhere n) rep [] (λ s j. refl)

  -- an arrival
  pub arrival_leaves : (z : Envelope) (zs : List Envelope) (rep : Reply) (key : Key) (told : GatesReply) → line log (queue.Arrivals n) ≡ z ∷ zs
      → LeavesLinks log (record { reply = rep; takes = name_of z ∷ []; puts = gates_puts n (length log) key told; ends = [] })
  arrival_leaves z zs rep key told first = leaves_first log (queue.Arrivals n) z zs first (arrivals_elsewhere n) rep (gates_puts n (length log) key told) (asked_elsewhere n (length log) key told)

  -- or nothing
  pub idle_leaves : (rep : Reply) → LeavesLinks log (only rep)
  idle_leaves rep = record {
    kept = λ s j. none_gone log (queue.Arrivals n) (line log (queue.Arrivals n)) refl (queue.Link j s) ∙ ap (λ b. cond b (line log (queue.Arrivals n)) (line log (queue.Link j s))) (arrivals_elsewhere n s j);
    unput = λ s j. refl;
  }
