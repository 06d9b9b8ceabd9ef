-- A queue of a connection that is for messages with priority holds those alone, and the other one those without.
use Rattle.p2p_log.specs.Sending.Sender.{Node}
use Rattle.p2p_log.specs.Sending.{Sender, Sending, sending_at, sending_of}
use Rattle.std.proofs.Common.{inl, inr, refl, ◌≡◌, ℕ, Bool, true, false, List, [], ◌∷◌, ◌++◌, length, Some, None, sym, subst, ◌∙◌}
use Rattle.std.specs.Prelude.{filter}
use Rattle.std.specs.List.{AllByRecursion as Each}
use Rattle.p2p_log.specs.declared.config.Config.{Config}
use Rattle.p2p_log.specs.declared.queue.Queue.{Queue}
use Rattle.p2p_log.specs.declared.queue.Queue.TheVariants as queue
use Rattle.p2p_log.specs.declared.queue.Side.{Side}
use Rattle.p2p_log.specs.declared.item.Item.{Item}
use Rattle.p2p_log.specs.declared.item.Item.TheVariants as item
use Rattle.p2p_log.specs.declared.item.Envelope.{Envelope}
use Rattle.p2p_log.specs.declared.entry.Entry.{Entry}
use Rattle.p2p_log.specs.declared.event.Event.{Event}
use Rattle.p2p_log_rules.specs.declared.row.Row.{Row}
use Rattle.p2p_log.specs.Lines.{goes, stays, placed, live}
use Rattle.p2p_log_rules.specs.Effect.{entry_of, relay_queue}
use Rattle.p2p_log.proofs.Lines.{live-append}
use Rattle.p2p_log.proofs.Each.{Each-has, Each-append, Each-filter, Each-weaker}
use Rattle.p2p_log_laws.proofs.Fitting.{Each-placed, is_idle, is_bare}
use Rattle.p2p_log_rules.specs.Moves.{Moves}
use Rattle.p2p_log_rules.proofs.Moves.{taken_stood}
use Rattle.p2p_log_laws.proofs.Shape.{Origin, OfAct, OfItem, IsSpread, Laws, Moved-origins}
use Rattle.p2p_log.proofs.Taken.{Each-taken}

-- the entry is a send of this sender, with this priority
pub record IsSentBy (all : List Entry) (send : ℕ) (sender : Sender) (priority : Bool) : Type 0 where
  pub sending : Sending
  pub at : sending_at all send ≡ Some sending
  pub by : sending.by ≡ sender
  pub with_priority : sending.priority ≡ priority

-- by whom an item in its queue was sent, and with which priority
abbrev pub Marks : List Entry → Item → Queue → Type 0
Marks all (item.Content c frame priority send to) (queue.Router n) = IsSentBy all send (Node n) priority
Marks all (item.Frame (Some copy) frame) (queue.High n conn) = IsSentBy all copy.0 (Node n) true
Marks all (item.Frame (Some copy) frame) (queue.Low n conn) = IsSentBy all copy.0 (Node n) false
-- what has gone over a link is told by the link
Marks all (item.Frame (Some copy) frame) (queue.Link link side) = Unit {0}
Marks all (item.Held c bytes copy) (queue.Held n conn) = Unit {0}
Marks all (item.Message bytes copy from) q = Unit {0}
-- what carries no copy has no mark, and the others stand in no other queue
Marks all i q = elim (is_bare i) [ true ↦ Unit {0} | false ↦ ⊥ ]

abbrev pub StandMarks : List Entry → Envelope → Type 0
StandMarks all x = Marks all x.item x.queue

abbrev PutMarks : List Entry → Queue × Item → Type 0
PutMarks all x = Marks all x.1 x.0

idle_marks : (all : List Entry) (i : Item) (q : Queue) → is_idle i ≡ true → Marks all i q
idle_marks all (item.Ready conn key) q h = absurd (cc)
idle_marks all (item.Content c frame priority send to) q h = absurd (cc)
idle_marks all (item.Frame (Some copy) frame) q h = absurd (cc)
idle_marks all (item.Held c bytes copy) q h = absurd (cc)
idle_marks all (item.Message bytes copy from) q h = absurd (cc)
idle_marks all (item.Connect conn key) q h = absurd (cc)
idle_marks all _ q h = tt

-- what is written into a link was marked where it stood
link_marks : (all : List Entry) (priority : Bool) (n conn : ℕ) (i : Item) (link : ℕ) (s : Side) → Marks all i (relay_queue priority n conn) → Marks all i (queue.Link link s)
link_marks all priority n conn (item.Frame (Some copy) frame) link s h = tt
link_marks all priority n conn (item.Frame None frame) link s h = tt
link_marks all true n conn _ link s h = h
link_marks all false n conn _ link s h = h

relay_marks : (all : List Entry) (priority : Bool) (n conn : ℕ) (copy : ℕ × ℕ) (frame : List ℕ) → IsSentBy all copy.0 (Node n) priority
    → Marks all (item.Frame (Some copy) frame) (relay_queue priority n conn)
relay_marks all true n conn copy frame h = h
relay_marks all false n conn copy frame h = h

pub relay_marked : (all : List Entry) (priority : Bool) (n conn : ℕ) (copy : ℕ × ℕ) (frame : List ℕ)
    → Marks all (item.Frame (Some copy) frame) (relay_queue priority n conn) → IsSentBy all copy.0 (Node n) priority
relay_marked all true n conn copy frame h = h
relay_marked all false n conn copy frame h = h

module _ (configs : List Config) (log : List Entry) (ev : Event) (r : Row) (m : Moves log r) (laws : Laws configs log ev.act r m) (all : List Entry)
    (here : sending_at all (length log) ≡ sending_of ev.act r.reply) (mark : Each (StandMarks all) (live log)) where
  own_marks : (q : Queue) (i : Item) → OfAct configs log ev.act r.reply q i → Marks all i q
  own_marks (queue.Tracker n) i h = subst (λ j. Marks all j (queue.Tracker n)) (sym h.3) tt
  own_marks (queue.Router n) i h = elim h [
    | inl ready ↦ subst (λ j. Marks all j (queue.Router n)) (sym ready.3) tt
    | inr sent ↦ subst (λ j. Marks all j (queue.Router n)) (sym sent.3) (record { sending = sent.0; at = here ∙ sent.1; by = sent.2; with_priority = refl })
  ]
  own_marks (queue.Link link s) i h = subst (λ j. Marks all j (queue.Link link s)) (sym h.put) tt
  own_marks _ i h = absurd h

  spread_marks : (y : Envelope) (n : ℕ) (priority : Bool) (conn : ℕ) (i : Item) → StandMarks all y → IsSpread log y n priority conn i → Marks all i (relay_queue priority n conn)
  spread_marks y n priority conn i marked h =
      let by : IsSentBy all h.send (Node n) priority =
      subst (Marks all (item.Content h.channel h.frame priority h.send h.to)) h.stood (subst (λ j. Marks all j y.queue) h.is marked)
      in
      subst (λ j. Marks all j (relay_queue priority n conn)) (sym h.put) (relay_marks all priority n conn (h.send, h.place) h.frame by)

  item_marks : (y : Envelope) (q : Queue) (i : Item) → StandMarks all y → OfItem configs log y q i → Marks all i q
  item_marks y (queue.High n conn) i marked h = spread_marks y n true conn i marked h
  item_marks y (queue.Low n conn) i marked h = spread_marks y n false conn i marked h
  item_marks y (queue.Link link s) i marked h =
      subst (λ j. Marks all j (queue.Link link s)) (sym h.put)
      (link_marks all h.priority h.node h.conn y.item link s (subst (λ p. Marks all y.item p) h.stood marked))
  item_marks y (queue.Held n conn) i marked h = subst (λ j. Marks all j (queue.Held n conn)) (sym h.put) tt
  item_marks y (queue.Channel n c) i marked h = elim h [
    | inl received ↦ subst (λ j. Marks all j (queue.Channel n c)) (sym received.put) tt
    | inr retried ↦ subst (λ j. Marks all j (queue.Channel n c)) (sym retried.put) tt
  ]
  item_marks y _ i marked h = absurd h

  marks : (x : Queue × Item) → Origin configs log ev.act r.reply m.taken x → PutMarks all x
  marks x o = elim o [
    | inl own ↦ elim own [ inl h ↦ idle_marks all x.1 x.0 h | inr h ↦ own_marks x.0 x.1 h ]
    | inr item ↦
        let marked : StandMarks all item.0 = Each-has (StandMarks all) m.taken item.0 (Each-taken (StandMarks all) (live log) m.taken mark (taken_stood log ev r m)) item.1 in
        elim item.2 [ inl h ↦ idle_marks all x.1 x.0 h | inr h ↦ item_marks item.0 x.0 x.1 marked h ]
  ]

  pub marks_kept : Each (StandMarks all) (live (log ++ entry_of ev r ∷ []))
  marks_kept =
      subst (Each (StandMarks all)) (sym (live-append log (entry_of ev r)))
      (Each-append (StandMarks all) (filter (stays (goes (entry_of ev r))) (live log)) (placed (length log) 0 r.puts)
      (Each-filter (StandMarks all) (stays (goes (entry_of ev r))) (live log) mark)
      (Each-placed (PutMarks all) (length log) 0 r.puts
      (Each-weaker (Origin configs log ev.act r.reply m.taken) (PutMarks all) marks r.puts (Moved-origins configs log ev.act r.reply m.taken r.puts laws.moved))))
