-- The lines once a connection of a node has ended: those of its own queues are empty, and the others are as they were.
use Rattle.std.proofs.Common.{◌≡◌, ℕ, Bool, true, false, cond, List, [], ◌∷◌, ◌++◌, length, refl, ap, ◌∙◌, append-nil}
use Rattle.std.specs.Prelude.{map, filter}
use Rattle.std.specs.List.{AllByRecursion as Each}
use Rattle.p2p_log.specs.declared.config.Config.{Config}
use Rattle.p2p_log.specs.declared.queue.Queue.{Queue}
use Rattle.p2p_log.specs.declared.queue.Queue.TheVariants as queue
use Rattle.p2p_log.specs.declared.queue.Side.{Side}
use Rattle.p2p_log.specs.declared.queue.Side.TheVariants as side
use Rattle.p2p_log.specs.declared.item.Item.TheVariants as item
use Rattle.p2p_log.specs.declared.item.Envelope.{Envelope}
use Rattle.p2p_log.specs.declared.end.Cause.{Cause}
use Rattle.p2p_log.specs.declared.entry.Ended.{Ended}
use Rattle.p2p_log.specs.declared.entry.Entry.{Entry}
use Rattle.p2p_log.specs.declared.event.Event.{Event}
use Rattle.p2p_log.specs.QueueCode.{same_queue}
use Rattle.p2p_log.specs.Drained.{drained}
use Rattle.p2p_log.specs.Lines.{line, name_of, stays, stands_in}
use Rattle.p2p_log_rules.specs.declared.row.Half.{Half}
use Rattle.p2p_log_rules.specs.declared.row.Row.{Row}
use Rattle.p2p_log_rules.specs.Effect.{other_side}
use Rattle.p2p_log_laws.proofs.Emptying.{drained_none}
use Rattle.p2p_net_queues.proofs.Going.{put_in}
use Rattle.p2p_net_links.specs.declared.links.Links.{Links}
use Rattle.p2p_net_node.specs.declared.node.Node.{Node}
use Rattle.p2p_net_connecting.proofs.EndLines.{line_ended, others_ended}
use Rattle.p2p_net_connecting.proofs.Leaving.{Leaving, qs, flight, left}
use Rattle.p2p_net_connecting.proofs.LeavingEntry.{half_act, entry}
use Rattle.p2p_net_node.proofs.Performing.{asked}

-- ---- queues that are apart

pub on_link : (p : Queue) (link : ℕ) (s : Side) → same_queue p (queue.Link link side.Out) ≡ false → same_queue p (queue.Link link side.In) ≡ false → same_queue p (queue.Link link s) ≡ false
on_link p link side.Out out inward = out
on_link p link side.In out inward = inward

pub link_off : (p : Queue) (link : ℕ) (s : Side) → same_queue (queue.Link link side.Out) p ≡ false → same_queue (queue.Link link side.In) p ≡ false → same_queue (queue.Link link s) p ≡ false
link_off p link side.Out out inward = out
link_off p link side.In out inward = inward

module _ {configs : List Config} {log : List Entry} {n conn : ℕ} {half : Half} {why : Ended} {c : Cause} {taken : List Envelope} {x w y : Node} {l m links : Links} {r : Row}
    (t : Leaving configs log n conn half why c taken x w y l m links r) where
  -- a queue that is none of those that end with the connection
  pub none_of : (p : Queue) → same_queue p (queue.High n conn) ≡ false → same_queue p (queue.Low n conn) ≡ false → same_queue p (queue.Held n conn) ≡ false
      → same_queue p (queue.Control n conn) ≡ false → same_queue p (queue.RouterAnswer n conn) ≡ false → same_queue p (flight t) ≡ false → Each (λ q. same_queue p q ≡ false) (qs t)
  none_of p high low holds control ready frames = (high, (low, (holds, (control, (ready, (frames, tt))))))

  pub off_flight : (p : Queue) → same_queue p (queue.Link half.link side.Out) ≡ false → same_queue p (queue.Link half.link side.In) ≡ false → same_queue p (flight t) ≡ false
  off_flight p out inward = on_link p half.link (other_side half.writes) out inward

  -- ---- what is left

  -- of what ends with the connection, nothing
  pub left_none : Each (λ p. filter (stands_in p) (filter (stays (map name_of (drained (left t) (qs t)))) (left t)) ≡ []) (qs t)
  left_none = drained_none (left t) (qs t)

  module _ (at seed : ℕ) (sends : Bool) where
    abbrev ev : Event
    ev = asked at seed (half_act sends conn n)

    abbrev e : Entry
    e = entry t at seed sends

    pub put_none : (p : Queue) → same_queue p (queue.Router n) ≡ false → same_queue p (queue.Tracker n) ≡ false → put_in log e p ≡ []
    put_none p router tracker = none (same_queue p (queue.Router n)) (same_queue p (queue.Tracker n)) router tracker
      where
        first : Envelope
        first = record { entry = length log; place = 0; queue = queue.Router n; item = item.Release half.peer }

        second : Envelope
        second = record { entry = length log; place = 1; queue = queue.Tracker n; item = item.Release half.peer }

        none : (b k : Bool) → b ≡ false → k ≡ false → cond b (first ∷ cond k (second ∷ []) []) (cond k (second ∷ []) []) ≡ []
        none false false h g = refl
        none true k h g = absurd (cc)
        none false true h g = absurd (cc)

    -- what does not end with it stays, and then comes what is put there
    pub stays_with : (p : Queue) → Each (λ q. same_queue p q ≡ false) (qs t) → line (log ++ e ∷ []) p ≡ line log p ++ put_in log e p
    stays_with p differ = others_ended log ev n conn half why c taken t.gone.stood p differ (t.gone.apart p differ)

    pub unmoved : (p : Queue) → Each (λ q. same_queue p q ≡ false) (qs t) → put_in log e p ≡ [] → line (log ++ e ∷ []) p ≡ line log p
    unmoved p differ none = stays_with p differ ∙ (ap (λ v. line log p ++ v) none ∙ append-nil (line log p))

    emptied : (p : Queue) → filter (stands_in p) (filter (stays (map name_of (drained (left t) (qs t)))) (left t)) ≡ [] → put_in log e p ≡ [] → line (log ++ e ∷ []) p ≡ []
    emptied p none quiet = line_ended log ev n conn half why c taken t.gone.stood p ∙ (ap (λ v. v ++ put_in log e p) none ∙ quiet)

    pub held_gone : line (log ++ e ∷ []) (queue.Held n conn) ≡ []
    held_gone = emptied (queue.Held n conn) left_none.1.1.0 (put_none (queue.Held n conn) refl refl)

    pub control_gone : line (log ++ e ∷ []) (queue.Control n conn) ≡ []
    control_gone = emptied (queue.Control n conn) left_none.1.1.1.0 (put_none (queue.Control n conn) refl refl)

    pub ready_gone : line (log ++ e ∷ []) (queue.RouterAnswer n conn) ≡ []
    ready_gone = emptied (queue.RouterAnswer n conn) left_none.1.1.1.1.0 (put_none (queue.RouterAnswer n conn) refl refl)

    pub flight_gone : line (log ++ e ∷ []) (flight t) ≡ []
    flight_gone = emptied (flight t) left_none.1.1.1.1.1.0 (put_none (flight t) (off (queue.Router n) refl refl) (off (queue.Tracker n) refl refl))
      where
        off : (p : Queue) → same_queue (queue.Link half.link side.Out) p ≡ false → same_queue (queue.Link half.link side.In) p ≡ false → same_queue (flight t) p ≡ false
        off p out inward = link_off p half.link (other_side half.writes) out inward
