-- What an entry puts in the line of what is held at a connection, it puts there alone.
use Rattle.std.proofs.Common.{◌≡◌, ℕ, Bool, true, false, cond, List, [], ◌∷◌, ◌⊎◌, Option, Some, None, inl, inr, refl, ap}
use Rattle.std.specs.Prelude.{nat_le, length}
use Rattle.std.specs.List.{AllByRecursion as Each}
use Rattle.p2p_log.specs.declared.config.Config.{Config}
use Rattle.p2p_log.specs.declared.queue.Queue.{Queue}
use Rattle.p2p_log.specs.declared.queue.Queue.TheVariants as queue
use Rattle.p2p_log.specs.declared.item.Item.{Item}
use Rattle.p2p_log.specs.declared.item.Item.TheVariants as item
use Rattle.p2p_log.specs.declared.item.Envelope.{Envelope}
use Rattle.p2p_log.specs.declared.end.Cause.{Cause}
use Rattle.p2p_log.specs.declared.end.Cause.TheVariants as cause
use Rattle.p2p_log.specs.declared.entry.Ended.{Ended}
use Rattle.p2p_log.specs.declared.entry.Ended.TheVariants as ended
use Rattle.p2p_log.specs.declared.entry.Entry.{Entry}
use Rattle.p2p_log.specs.declared.entry.Reply.TheVariants as reply
use Rattle.p2p_log.specs.declared.event.Act.{Act}
use Rattle.p2p_log.specs.declared.event.Act.TheVariants as act
use Rattle.p2p_log.specs.Lines.{name_of, line}
use Rattle.p2p_log.specs.QueueCode.{same_queue}
use Rattle.p2p_log.proofs.Each.{Each-weaker}
use Rattle.p2p_log.proofs.QueueNames.{queue_from_same}
use Rattle.p2p_log_rules.specs.declared.row.Half.{Half}
use Rattle.p2p_log_rules.specs.declared.row.Opening.{Opening}
use Rattle.p2p_log_rules.specs.declared.row.Row.{Row}
use Rattle.p2p_log_rules.specs.Closing.{is_closed, refused_by}
use Rattle.p2p_log_rules.specs.Connections.{live_half, is_running}
use Rattle.p2p_log_rules.specs.Effect
use Rattle.p2p_log_rules.specs.Effect.{row, goes_to}
use Rattle.p2p_log_rules.specs.Cutting.{is_broken}
use Rattle.p2p_log_rules.specs.Ending.{end_row}
use Rattle.p2p_log_rules.specs.Facts.{is_up, channels, capacity_in}
use Rattle.p2p_log_rules.specs.Frames.{message_in, is_ping_in}
use Rattle.p2p_log_rules.specs.Links.{openings_of}
use Rattle.p2p_log_rules.specs.Metering.{pings, messages, may_pass}
use Rattle.p2p_log_rules.proofs.Touches.{in_ends, away}
use Rattle.p2p_log_laws.proofs.Reaching.{writes}
use Rattle.p2p_log_laws.proofs.Shape.{Shape}
use Rattle.p2p_log_laws.proofs.Shapes.{row_shape}

-- nothing is put in this queue, or one item and nothing else anywhere
abbrev pub IsPutAlone : Queue → List (Queue × Item) → Type 0
IsPutAlone q puts = Each (λ x. goes_to q x ≡ false) puts ⊎ ((i : Item) × (puts ≡ (q, i) ∷ []))

module _ (configs : List Config) (log : List Entry) (n conn : ℕ) where
  abbrev Alone : Row → Type 0
  Alone r = IsPutAlone (queue.Held n conn) r.puts

  one_alone : (q : Queue) (i : Item) → IsPutAlone (queue.Held n conn) ((q, i) ∷ [])
  one_alone q i = by (same_queue (queue.Held n conn) q) refl
    where
      by : (b : Bool) → same_queue (queue.Held n conn) q ≡ b → IsPutAlone (queue.Held n conn) ((q, i) ∷ [])
      by true same = inr (i, ap (λ p. (p, i) ∷ []) (queue_from_same (queue.Held n conn) q same))
      by false other = inl (other, tt)

  -- ---- a step of a receiving half puts one item at most

  module _ (m e at : ℕ) (half : Half) where
    -- or, at the end of its connection, its release elsewhere
    last_alone : (why : Ended) (c : Cause) (taken : List Envelope) → Alone (end_row log m e half why c taken)
    last_alone why c taken = inl (refl, (refl, tt))

    delivered_alone : (name copy : ℕ × ℕ) (message : ℕ × List ℕ) (o : Option Cause) → Alone (Effect.delivered_row o m name half.peer copy message)
    delivered_alone name copy message (Some why) = inl tt
    delivered_alone name copy message None = one_alone (queue.Channel m message.0) (item.Message message.1 copy half.peer)

    deliver_alone : (name copy : ℕ × ℕ) (message : ℕ × List ℕ) (capacity : ℕ) → Alone (Effect.deliver_row log m name half.peer copy message capacity)
    deliver_alone name copy message capacity =
        delivered_alone name copy message (refused_by (is_closed log m message.0) (nat_le capacity (length (line log (queue.Channel m message.0)))))

    known_alone : (x : Envelope) (copy : ℕ × ℕ) (message : ℕ × List ℕ) (o : Option ℕ) (passes : Bool)
        → Alone (elim o [
          | None ↦ Effect.refused_row configs log m e at half ended.InvalidChannel cause.ChannelUnregistered x
          | Some capacity ↦ cond passes (Effect.deliver_row log m (name_of x) half.peer copy message capacity) (Effect.hold_row m e (name_of x) (item.Held message.0 message.1 copy))
        ])
    known_alone x copy message None passes = last_alone ended.InvalidChannel cause.ChannelUnregistered (x ∷ [])
    known_alone x copy message (Some capacity) true = deliver_alone (name_of x) copy message capacity
    known_alone x copy message (Some capacity) false = one_alone (queue.Held m e) (item.Held message.0 message.1 copy)

    message_alone : (x : Envelope) (copy : ℕ × ℕ) (o : Option (ℕ × List ℕ)) → Alone (Effect.message_row configs log m e at half x copy o)
    message_alone x copy None = last_alone ended.DecodeFailed cause.FrameRefused (x ∷ [])
    message_alone x copy (Some message) =
        known_alone x copy message (capacity_in (channels configs log m) message.0) (may_pass configs log m e at (messages message.0))

    quota_alone : (name : ℕ × ℕ) (passes : Bool) → Alone (cond passes (Effect.taken_row name) (Effect.hold_row m e name item.Ping))
    quota_alone name true = inl tt
    quota_alone name false = one_alone (queue.Held m e) item.Ping

    ping_alone : (x : Envelope) (is_ping : Bool) → Alone (Effect.ping_row configs log m e at half x is_ping)
    ping_alone x true = quota_alone (name_of x) (may_pass configs log m e at pings)
    ping_alone x false = last_alone ended.DecodeFailed cause.FrameRefused (x ∷ [])

    frame_alone : (x : Envelope) (i : Item) → Alone (Effect.frame_row configs log m e at half x i)
    frame_alone x (item.Frame (Some copy) frame) = message_alone x copy (message_in frame (Effect.limit_at configs m))
    frame_alone x (item.Frame None frame) = ping_alone x (is_ping_in frame (Effect.limit_at configs m))
    frame_alone x _ = inl tt

    again_alone : (name copy : ℕ × ℕ) (message : ℕ × List ℕ) (o : Option ℕ) (passes : Bool)
        → Alone (elim o [
          | None ↦ Effect.only reply.Idle
          | Some capacity ↦ cond passes (Effect.deliver_row log m name half.peer copy message capacity) (Effect.only reply.Idle)
        ])
    again_alone name copy message None passes = inl tt
    again_alone name copy message (Some capacity) true = deliver_alone name copy message capacity
    again_alone name copy message (Some capacity) false = inl tt

    passed_alone : (name : ℕ × ℕ) (passes : Bool) → Alone (cond passes (Effect.taken_row name) (Effect.only reply.Idle))
    passed_alone name true = inl tt
    passed_alone name false = inl tt

    retry_alone : (name : ℕ × ℕ) (i : Item) → Alone (Effect.retry_row configs log m e at half name i)
    retry_alone name (item.Held c bytes copy) = again_alone name copy (c, bytes) (capacity_in (channels configs log m) c) (may_pass configs log m e at (messages c))
    retry_alone name item.Ping = passed_alone name (may_pass configs log m e at pings)
    retry_alone name _ = inl tt

    none_alone : (broken : Bool) → Alone (cond broken (end_row log m e half ended.ReceiveFailed cause.ConnectionEnded []) (Effect.only reply.Idle))
    none_alone true = last_alone ended.ReceiveFailed cause.ConnectionEnded []
    none_alone false = inl tt

    held_alone : (xs frames : List Envelope) → Alone (Effect.held_row configs log m e at half xs frames)
    held_alone [] [] = none_alone (is_broken log half.link (Effect.other_side half.writes))
    held_alone [] (x ∷ frames) = frame_alone x x.item
    held_alone (x ∷ xs) frames = retry_alone (name_of x) x.item

    running_alone : (running : Bool) → Alone (cond running (Effect.receiver_row configs log m e at half) (Effect.only reply.Idle))
    running_alone true = held_alone (line log (queue.Held m e)) (line log (queue.Link half.link (Effect.other_side half.writes)))
    running_alone false = inl tt

  receiver_alone : (m e at : ℕ) → Alone (Effect.recv_step_row configs log e m at)
  receiver_alone m e at = by_up (is_up log m)
    where
      by_half : (o : Option Half) → Alone (Effect.receiving_row configs log m e at o)
      by_half None = inl tt
      by_half (Some half) = running_alone m e at half (is_running log m e)

      by_up : (b : Bool) → Alone (cond b (Effect.receiving_row configs log m e at (live_half log m e)) (Effect.only reply.Gone))
      by_up true = by_half (live_half log m e)
      by_up false = inl tt

  -- ---- each act

  ends_aside : (o : Option Opening) → in_ends o (queue.Held n conn) ≡ false
  ends_aside None = refl
  ends_aside (Some o) = refl

  -- no other act writes there
  out_of_reach : (at seed : ℕ) (a : Act) → writes configs log a (queue.Held n conn) ≡ false → Alone (row configs log at seed a)
  out_of_reach at seed a none =
      let shape : Shape configs log a (row configs log at seed a) = row_shape configs log at seed a in
      inl (Each-weaker (λ x. writes configs log a x.0 ≡ true) (λ x. goes_to (queue.Held n conn) x ≡ false)
      (λ x h. away (writes configs log a) (queue.Held n conn) x.0 none h) (row configs log at seed a).puts shape.reach.puts)

  pub put_alone : (at seed : ℕ) (a : Act) → IsPutAlone (queue.Held n conn) (row configs log at seed a).puts
  unfolding row
  put_alone at seed (act.RecvStep e m) = receiver_alone m e at
  put_alone at seed (act.Finish link ok) = out_of_reach at seed (act.Finish link ok) (ends_aside (openings_of log link))
  put_alone at seed a = out_of_reach at seed a refl
