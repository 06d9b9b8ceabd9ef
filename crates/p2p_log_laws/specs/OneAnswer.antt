-- That a handshake is asked about and answered once: one thing at a time waits of what is asked of it and of what it is told.
use Rattle.std.specs.Prelude.{ℕ, ◌+◌, ◌≤◌, ◌==◌, ◌&&◌, ◌||◌, not, Bool, true, false, List, [], count_by, Option, Some, None}
use Rattle.p2p_log.specs.declared.queue.Queue.{Queue}
use Rattle.p2p_log.specs.declared.queue.Queue.TheVariants as queue
use Rattle.p2p_log.specs.declared.item.Item.{Item}
use Rattle.p2p_log.specs.declared.item.Item.TheVariants as item
use Rattle.p2p_log.specs.declared.entry.Entry.{Entry}
use Rattle.p2p_log.specs.declared.entry.Reply.{Reply}
use Rattle.p2p_log.specs.declared.entry.Reply.TheVariants as reply
use Rattle.p2p_log.specs.declared.event.Act.{Act}
use Rattle.p2p_log.specs.declared.event.Act.TheVariants as act
use Rattle.p2p_log.specs.QueueCode.{same_queue}
use Rattle.p2p_log.specs.Lines.{live}
use Rattle.p2p_log_rules.specs.declared.row.Opening.{Opening}
use Rattle.p2p_log_rules.specs.declared.row.ListeningEnd.{ListeningEnd}
use Rattle.p2p_log_rules.specs.declared.row.ListeningEnd.TheVariants as listening
use Rattle.p2p_log_rules.specs.Facts.{state_from}
use Rattle.p2p_log_rules.specs.Handshakes.{is_handshaking, is_accepted, is_finished}
use Rattle.p2p_log_rules.specs.Links.{openings_of, listening_ends_of}
use Rattle.p2p_log_laws.specs.Grants.{one}
use Rattle.p2p_log_laws.specs.NodeGrants.{put_of}

-- ---- what waits of it

-- which words count, beside that keys were exchanged and what is asked and told then: whether its peer may connect, and that no keys were
-- exchanged
pub record Words : Type 0 where
  pub acceptance : Bool
  pub refusal : Bool

-- what its tracker is asked and tells it, and word that keys were exchanged
abbrev pub answers : Words
answers = record { acceptance = true; refusal = false }

-- what comes of the end of the exchange over its link
abbrev pub exchanges : Words
exchanges = record { acceptance = false; refusal = true }

-- whether a word that it is told counts
abbrev pub tells : Words → Item → Bool
tells w (item.Acceptable b) = w.acceptance
tells w (item.Finished false) = w.refusal
tells w _ = true

module _ (w : Words) (n name : ℕ) where
  -- whether an item asks about the handshake
  abbrev pub asks_about : Item → Bool
  asks_about (item.AskAcceptable k key) = w.acceptance && (k == name)
  asks_about (item.AskListen k key) = k == name
  asks_about _ = false

  -- whether a put is a question about it at its node's tracker, or told to it
  abbrev pub is_for : Queue × Item → Bool
  is_for x = (same_queue (queue.Tracker n) x.0 && asks_about x.1) || (same_queue (queue.Handshake n name) x.0 && tells w x.1)

  -- how many of these wait
  abbrev pub waiting_for : List Entry → ℕ
  waiting_for log = count_by (λ x. is_for (put_of x)) (live log)

module _ (n name : ℕ) where
  -- whether an item asks for the peer of the handshake
  abbrev pub asks_for : Item → Bool
  asks_for (item.AskListen k key) = k == name
  asks_for _ = false

  abbrev pub is_asked : Queue × Item → Bool
  is_asked x = same_queue (queue.Tracker n) x.0 && asks_for x.1

  -- how many such questions wait
  abbrev pub waiting_asked : List Entry → ℕ
  waiting_asked log = count_by (λ x. is_asked (put_of x)) (live log)

-- ---- the end of the exchange over its link

module _ (n name : ℕ) where
  abbrev pub is_end_of : Option ListeningEnd → Bool
  is_end_of (Some (listening.Handshake h)) = h == name
  is_end_of _ = false

  -- whether a link leads to the handshake
  abbrev pub leads_to : List Entry → ℕ → Option Opening → Bool
  leads_to before link None = false
  leads_to before link (Some o) = (o.to == n) && is_end_of (listening_ends_of before o.to link)

  abbrev pub ends_exchange : List Entry → Act → Reply → Bool
  ends_exchange before (act.Finish link ok) reply.Ok = leads_to before link (openings_of before link)
  ends_exchange before _ _ = false

  abbrev pub ended_by : List Entry → Entry → Bool → Bool
  ended_by before e ended = ends_exchange before e.event.act e.reply || ended

  -- whether the exchange over its link has ended
  unfoldable pub has_ended : List Entry → Bool
  has_ended log = state_from ended_by [] log false

-- ---- the law

module _ (n name : ℕ) where
  -- whether it is still to be told of that end, and, where its acceptance counts, was accepted
  abbrev pub is_open : Words → List Entry → Bool
  is_open w log = (not w.acceptance || is_accepted log n name) && not (has_ended n name log)

  -- one of these words waits, or it is open, and no two of these
  abbrev pub HasOne : Words → List Entry → Type 0
  HasOne w log = waiting_for w n name log + one (is_open w log) ≤ 1

  pub record HasOneAnswer (log : List Entry) : Type 0 where
    -- its question waits, or its answer, or word that keys were exchanged, or it was accepted and the exchange goes on, and no two of these
    pub answered : HasOne answers log
    -- word of the end of the exchange waits, or what is asked and told then, or the exchange goes on, and no two of these
    pub exchanged : HasOne exchanges log
    -- its peer is asked for once, while it runs, and after keys were exchanged
    pub asked : waiting_asked n name log + one (not (is_handshaking log n name && is_finished log n name)) ≤ 1
