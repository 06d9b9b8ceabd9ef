-- The shapes of the steps of a receiving half of a connection.
use Rattle.std.proofs.Common.{◌≡◌, ℕ, Bool, true, false, cond, List, [], ◌∷◌, length, Option, Some, None, inl, inr, refl, ap, sym, subst, ◌∙◌, arith, eq-eqb, leb-true}
use Rattle.std.specs.Prelude.{◌==◌, ◌||◌, nat_le}
use Rattle.std.specs.List.{AllByRecursion as Each}
use Rattle.std.proofs.lemmas.Bool.{false≢true}
use Rattle.std.proofs.lemmas.Bool.Decides.{nat_tests}
use Rattle.std.proofs.lemmas.Option.{same_Some}
use Rattle.p2p_log.specs.declared.config.Config.{Config}
use Rattle.p2p_log.specs.declared.queue.Queue.{Queue}
use Rattle.p2p_log.specs.declared.queue.Queue.TheVariants as queue
use Rattle.p2p_log.specs.declared.queue.Side.{Side}
use Rattle.p2p_log.specs.declared.item.Item.{Item}
use Rattle.p2p_log.specs.declared.item.Item.TheVariants as item
use Rattle.p2p_log.specs.declared.item.Envelope.{Envelope}
use Rattle.p2p_log.specs.declared.end.End.TheVariants as end
use Rattle.p2p_log.specs.declared.end.Outcome.TheVariants as outcome
use Rattle.p2p_log.specs.declared.end.Cause.{Cause}
use Rattle.p2p_log.specs.declared.end.Cause.TheVariants as cause
use Rattle.p2p_log.specs.declared.entry.Ended.{Ended}
use Rattle.p2p_log.specs.declared.entry.Ended.TheVariants as ended
use Rattle.p2p_log.specs.declared.entry.Entry.{Entry}
use Rattle.p2p_log.specs.declared.entry.Reply.TheVariants as reply
use Rattle.p2p_log.specs.declared.event.Event.{Event}
use Rattle.p2p_log.specs.declared.event.Act.{Act}
use Rattle.p2p_log.specs.declared.event.Act.TheVariants as act
use Rattle.p2p_log.specs.Copies.{carries, carries_copy, copies_of}
use Rattle.p2p_log.specs.Lines.{name_of, same_name, line}
use Rattle.p2p_log_rules.specs.declared.row.Half.{Half}
use Rattle.p2p_log_rules.specs.declared.row.Row.{Row}
use Rattle.p2p_log_rules.specs.Closing.{is_closed, refused_by}
use Rattle.p2p_log_rules.specs.Connections.{half_at, is_running, live_half}
use Rattle.p2p_log_rules.specs.Cutting.{is_broken}
use Rattle.p2p_log_rules.specs.Ending.{end_row}
use Rattle.p2p_log_rules.specs.Effect
use Rattle.p2p_log_rules.specs.Effect.{entry_of}
use Rattle.p2p_log_rules.specs.Facts.{is_up, channels, capacity_in, key_at}
use Rattle.p2p_log_rules.specs.Frames.{message_in, is_ping_in}
use Rattle.p2p_log_rules.specs.Metering.{pings, messages, may_pass}
use Rattle.p2p_log_rules.proofs.Moves.{one_taken, stands_first}
use Rattle.p2p_log.proofs.Each.{Has}
use Rattle.p2p_log_laws.proofs.Reaching.{reads, writes}
use Rattle.p2p_log_laws.specs.Causes.{BringsCopy, IsComing, TakesFrame, Shows}
use Rattle.p2p_log_laws.specs.Delivered.{IsCopyOf}
use Rattle.p2p_log_laws.proofs.ConnShapes.{or_left, link_in_half}
use Rattle.p2p_log_laws.proofs.EndShape.{both, with_in, end_shape, ended_shape}
use Rattle.p2p_log_laws.proofs.Fitting.{is_bare}
use Rattle.p2p_log_laws.proofs.FrameLaw.{frames_give, frames_no_ping}
use Rattle.p2p_log_laws.proofs.OneShape.{handed_shape, spent_shape}
use Rattle.p2p_log_laws.proofs.Shape.{Shape, CameInFrame, IsQuiet, OfItem, still, one_move, first_in, quiet_laws, no_delivery}
use Rattle.p2p_log_laws.proofs.Showing.{Standing, first_tells}
use Rattle.p2p_log_laws.proofs.Telling.{Arrives, IsHeld, IsOnLink}
use Rattle.p2p_log_laws.proofs.Truth.{arrives}
use Rattle.p2p_log_rules.proofs.Connections.{is_live}

-- what brings a copy carries it alone
brings_carried : (node conn : ℕ) (half : Half) (copy : ℕ × ℕ) (channel : ℕ) (bytes : List ℕ) (q : Queue) (i : Item) → BringsCopy node conn half copy channel bytes q i
    → (copies_of i ≡ copy ∷ []) × ((other : ℕ × ℕ) → carries_copy other i ≡ same_name other copy)
brings_carried node conn half copy channel bytes q i h = elim h [
  | inl frame ↦ (ap copies_of frame.1.1, λ other. ap (carries_copy other) frame.1.1)
  | inr held ↦ (ap copies_of held.1, λ other. ap (carries_copy other) held.1)
]

same_pair : (a b : ℕ × ℕ) → same_name b a ≡ true → a ≡ b
same_pair a b same = let first : a.0 ≡ b.0 = grind (arith, nat_tests) in let second : a.1 ≡ b.1 = grind (arith, nat_tests) in ap (λ k. (k, a.1)) first ∙ ap (λ k. (b.0, k)) second

-- what was sent is no ping
sent_no_ping : (configs : List Config) (log : List Entry) (link : ℕ) (side : Side) (copy : ℕ × ℕ) (frame : List ℕ) (limit : ℕ) → IsOnLink configs log link side copy frame → is_ping_in frame limit ≡ false
sent_no_ping configs log link side copy frame limit h = elim h [
  | inl of ↦ ap (λ f. is_ping_in f limit) of.5.is ∙ frames_no_ping of.5.channel of.5.bytes limit
  | inr raw ↦ ap (λ f. is_ping_in f limit) raw.is ∙ frames_no_ping raw.channel raw.bytes limit
]

module _ (configs : List Config) (log : List Entry) (conn n moment : ℕ) where
  abbrev step : Act
  step = act.RecvStep conn n

  -- it reads what is held at its connection, and its link
  reads_held : reads configs log step (queue.Held n conn) ≡ true
  reads_held = or_left _ false (both n conn)

  reads_link : (half : Half) → half_at log n conn ≡ Some half → reads configs log step (queue.Link half.link (Effect.other_side half.writes)) ≡ true
  reads_link half at = link_in_half (half_at log n conn) half n conn (Effect.other_side half.writes) at

  idle_shape : Shape configs log step (Effect.only reply.Idle)
  idle_shape = still configs log step reply.Idle refl refl

  module _ (half : Half) (at : half_at log n conn ≡ Some half) (q : Queue) (x : Envelope) (rest : List Envelope) (first : line log q ≡ x ∷ rest) (read : reads configs log step q ≡ true) where
    -- ---- a ping passes, or is held

    light_shape : (puts : List (Queue × Item)) → is_bare x.item ≡ true → Each IsQuiet puts → Each (λ y. writes configs log step y.0 ≡ true) puts
        → Shape configs log step (record { reply = reply.Ok; takes = name_of x ∷ []; puts = puts; ends = [] })
    light_shape puts light quiet near =
        let r : Row = record { reply = reply.Ok; takes = name_of x ∷ []; puts = puts; ends = [] } in
        record {
          moves = one_move log q x rest first r refl refl;
          reach = record { taken = (first_in (reads configs log step) log q x rest first read, tt); ended = tt; puts = near };
          laws = λ fitting. quiet_laws configs log step r (one_move log q x rest first r refl refl) refl refl (light, tt) tt tt quiet;
        }

    passed_shape : is_bare x.item ≡ true → Shape configs log step (Effect.taken_row (name_of x))
    passed_shape light = light_shape [] light tt tt

    ping_held_shape : is_bare x.item ≡ true → Shape configs log step (Effect.hold_row n conn (name_of x) item.Ping)
    ping_held_shape light = light_shape ((queue.Held n conn, item.Ping) ∷ []) light ((refl, refl), tt) (or_left _ false (both n conn), tt)

    -- ---- a message is delivered, or held

    module _ (copy : ℕ × ℕ) (message : ℕ × List ℕ) (brings : BringsCopy n conn half copy message.0 message.1 q x.item) where
      held_shape : OfItem configs log x (queue.Held n conn) (item.Held message.0 message.1 copy) → Shape configs log step (Effect.hold_row n conn (name_of x) (item.Held message.0 message.1 copy))
      held_shape from =
          let carried = brings_carried n conn half copy message.0 message.1 q x.item brings in
          handed_shape configs log step reply.Ok refl q x rest first read (queue.Held n conn) (item.Held message.0 message.1 copy) refl
          (or_left _ false (both n conn)) refl (sym carried.0) carried.1 from

      module _ (from : OfItem configs log x (queue.Channel n message.0) (item.Message message.1 copy half.peer))
          (arrived : Standing configs log → Arrives configs log n half copy message) where
        -- what an entry that takes it shows
        coming : (capacity : ℕ) (why : Cause) (ev : Event) → ev.act ≡ step → capacity_in (channels configs log n) message.0 ≡ Some capacity → Standing configs log
            → IsComing configs log (entry_of ev (Effect.delivered_row (Some why) n (name_of x) half.peer copy message)) copy n message.0 capacity
        coming capacity why ev steps known stand =
            let a : Arrives configs log n half copy message = arrived stand in
            record {
              conn = conn;
              steps = steps;
              half = half;
              at = at;
              from = q;
              oldest = x;
              later = rest;
              stood = first;
              takes = refl;
              sender = a.sender;
              bytes = message.1;
              brings = brings;
              sent = a.sent;
              registered = known;
            }

        -- its copy ends, for a cause that it shows
        refused_shape : (why : Cause)
            → (Standing configs log → (ev : Event) → ev.act ≡ step → Shows configs log (entry_of ev (Effect.delivered_row (Some why) n (name_of x) half.peer copy message)) copy why)
            → Shape configs log step (Effect.delivered_row (Some why) n (name_of x) half.peer copy message)
        refused_shape why shows =
            spent_shape configs log step reply.Ok refl q x rest first read copy (outcome.Dropped why)
            (brings_carried n conn half copy message.0 message.1 q x.item brings).1
            shows
            (no_delivery configs log step reply.Ok (x ∷ []) (end.Copy copy.0 copy.1 (outcome.Dropped why) ∷ []) refl)

        -- by whether the reader was dropped and whether the channel is full
        fitting_shape : (capacity : ℕ) (closed full : Bool) → capacity_in (channels configs log n) message.0 ≡ Some capacity → is_closed log n message.0 ≡ closed
            → nat_le capacity (length (line log (queue.Channel n message.0))) ≡ full
            → Shape configs log step (Effect.delivered_row (refused_by closed full) n (name_of x) half.peer copy message)
        fitting_shape capacity true full known shut size =
            refused_shape cause.ReceiverClosed
            (λ stand ev steps. inr (record { node = n; channel = message.0; capacity = capacity; coming = coming capacity cause.ReceiverClosed ev steps known stand; closed = shut }))
        fitting_shape capacity false true known shut size =
            refused_shape cause.MailboxFull
            (λ stand ev steps. record { node = n; channel = message.0; capacity = capacity; coming = coming capacity cause.MailboxFull ev steps known stand; full = leb-true capacity _ size })
        fitting_shape capacity false false known shut size =
            let carried = brings_carried n conn half copy message.0 message.1 q x.item brings in
            handed_shape configs log step reply.Ok refl q x rest first read (queue.Channel n message.0) (item.Message message.1 copy half.peer) refl
            (eq-eqb n n refl) refl (sym carried.0) carried.1 from

        deliver_shape : (capacity : ℕ) → capacity_in (channels configs log n) message.0 ≡ Some capacity → Shape configs log step (Effect.deliver_row log n (name_of x) half.peer copy message capacity)
        deliver_shape capacity known = fitting_shape capacity _ _ known refl refl

  -- ---- what is held

  module _ (half : Half) (at : half_at log n conn ≡ Some half) (x : Envelope) (rest : List Envelope) (first : line log (queue.Held n conn) ≡ x ∷ rest) where
    stood_held : x.queue ≡ queue.Held n conn
    stood_held = one_taken log (queue.Held n conn) x rest first

    held_arrives : (c : ℕ) (bytes : List ℕ) (copy : ℕ × ℕ) → x.item ≡ item.Held c bytes copy → Standing configs log → Arrives configs log n half copy (c, bytes)
    held_arrives c bytes copy is stand =
        let told : IsHeld configs log n conn c bytes copy = first_tells configs log (queue.Held n conn) x rest (item.Held c bytes copy) stand.tells first is in
        subst (λ h. Arrives configs log n h copy (c, bytes)) (same_Some told.half half (sym told.at ∙ at)) told.arrives

    again_shape : (c : ℕ) (bytes : List ℕ) (copy : ℕ × ℕ) (o : Option ℕ) (passes : Bool) → x.item ≡ item.Held c bytes copy → capacity_in (channels configs log n) c ≡ o
        → Shape configs log step (elim o [
          | None ↦ Effect.only reply.Idle
          | Some capacity ↦ cond passes (Effect.deliver_row log n (name_of x) half.peer copy (c, bytes) capacity) (Effect.only reply.Idle)
        ])
    again_shape c bytes copy None passes is known = idle_shape
    again_shape c bytes copy (Some capacity) true is known =
        deliver_shape half at (queue.Held n conn) x rest first reads_held copy (c, bytes) (inr (refl, is))
        (inr (record { conn = conn; half = half; bytes = bytes; copy = copy; at = at; stood = stood_held; is = is; put = refl }))
        (held_arrives c bytes copy is) capacity known
    again_shape c bytes copy (Some capacity) false is known = idle_shape

    ping_again_shape : (passes : Bool) → x.item ≡ item.Ping → Shape configs log step (cond passes (Effect.taken_row (name_of x)) (Effect.only reply.Idle))
    ping_again_shape true is = passed_shape half at (queue.Held n conn) x rest first reads_held (ap is_bare is)
    ping_again_shape false is = idle_shape

    retry_shape : (i : Item) → x.item ≡ i → Shape configs log step (Effect.retry_row configs log n conn moment half (name_of x) i)
    retry_shape (item.Held c bytes copy) is = again_shape c bytes copy (capacity_in (channels configs log n) c) (may_pass configs log n conn moment (messages c)) is refl
    retry_shape item.Ping is = ping_again_shape (may_pass configs log n conn moment pings) is
    retry_shape _ is = idle_shape

  -- ---- it ends its connection

  module _ (half : Half) (lived : live_half log n conn ≡ Some half) where
    abbrev link : Queue
    link = queue.Link half.link (Effect.other_side half.writes)

    at : half_at log n conn ≡ Some half
    at = (is_live log n conn half lived).at

    near_mailbox : (n == n) ≡ true
    near_mailbox = eq-eqb n n refl

    -- no frame will come
    receive_failed : Shape configs log step (end_row log n conn half ended.ReceiveFailed cause.ConnectionEnded [])
    receive_failed = ended_shape configs log step n conn half lived false refl (λ r. refl) (with_in log n conn half at) (or_left (n == n) _ near_mailbox) (or_left (n == n) _ near_mailbox) ended.ReceiveFailed [] tt tt tt

    -- for the frame that came
    module _ (x : Envelope) (rest : List Envelope) (first : line log link ≡ x ∷ rest) where
      refused : (why : Ended) (c : Cause)
          → (Standing configs log → (ev : Event) → ev.act ≡ step → (copy : ℕ × ℕ) → carries copy x ≡ true → Shows configs log (entry_of ev (Effect.refused_row configs log n conn moment half why c x)) copy c)
          → Shape configs log step (Effect.refused_row configs log n conn moment half why c x)
      refused why c shows =
          end_shape configs log step n conn half lived false refl (λ r. refl) (with_in log n conn half at) (or_left (n == n) _ near_mailbox) (or_left (n == n) _ near_mailbox) why c (x ∷ [])
          (stands_first log link x rest first) (first_in (reads configs log step) log link x rest first (reads_link half at), tt)
          (λ stand ev acts y copy has bears. shown stand ev acts y has copy bears)
        where
          shown : Standing configs log → (ev : Event) → ev.act ≡ step → (y : Envelope) → Has (x ∷ []) y → (copy : ℕ × ℕ) → carries copy y ≡ true → Shows configs log (entry_of ev (Effect.refused_row configs log n conn moment half why c x)) copy c
          shown stand ev acts y (inl is) copy bears = shows stand ev acts copy (ap (carries copy) is ∙ bears)
          shown stand ev acts y (inr none) copy bears = absurd none

      -- the frame is the copy's
      takes_frame : (why : Ended) (c : Cause) (ev : Event) → ev.act ≡ step → (other : ℕ × ℕ) (frame : List ℕ) → x.item ≡ item.Frame (Some other) frame → (copy : ℕ × ℕ) → carries copy x ≡ true
          → TakesFrame log (entry_of ev (Effect.refused_row configs log n conn moment half why c x)) copy n frame
      takes_frame why c ev acts other frame is copy bears = record {
        conn = conn;
        steps = acts;
        half = half;
        lived = lived;
        oldest = x;
        later = rest;
        stood = first;
        takes = refl;
        is = is ∙ ap (λ k. item.Frame (Some k) frame) (same_pair other copy (sym (ap (carries_copy copy) is) ∙ bears));
      }

      no_message : (other : ℕ × ℕ) (frame : List ℕ) → x.item ≡ item.Frame (Some other) frame → message_in frame (Effect.limit_at configs n) ≡ None
          → Shape configs log step (Effect.refused_row configs log n conn moment half ended.DecodeFailed cause.FrameRefused x)
      no_message other frame is none =
          refused ended.DecodeFailed cause.FrameRefused
          (λ stand ev acts copy bears. record {
            node = n;
            frame = frame;
            taken = takes_frame ended.DecodeFailed cause.FrameRefused ev acts other frame is copy bears;
            no_message = none;
            no_ping = sent_no_ping configs log half.link (Effect.other_side half.writes) other frame (Effect.limit_at configs n)
                (first_tells configs log link x rest (item.Frame (Some other) frame) stand.tells first is);
          })

      no_channel : (other : ℕ × ℕ) (frame : List ℕ) (message : ℕ × List ℕ) → x.item ≡ item.Frame (Some other) frame → message_in frame (Effect.limit_at configs n) ≡ Some message
          → capacity_in (channels configs log n) message.0 ≡ None → Shape configs log step (Effect.refused_row configs log n conn moment half ended.InvalidChannel cause.ChannelUnregistered x)
      no_channel other frame message is read unknown =
          refused ended.InvalidChannel cause.ChannelUnregistered
          (λ stand ev acts copy bears.
          let a : Arrives configs log n half other message = arrives configs frames_give log stand.halves n conn half other frame (Effect.limit_at configs n) message at
          (first_tells configs log link x rest (item.Frame (Some other) frame) stand.tells first is) read
          in
          record {
            node = n;
            frame = frame;
            taken = takes_frame ended.InvalidChannel cause.ChannelUnregistered ev acts other frame is copy bears;
            sender = a.sender;
            channel = message.0;
            bytes = message.1;
            sent = subst (λ k. IsCopyOf log k a.sender message.0 message.1 (key_at configs n)) (same_pair other copy (sym (ap (carries_copy copy) is) ∙ bears)) a.sent;
            unregistered = unknown;
          })

      -- what carries no copy
      no_ping : (frame : List ℕ) → x.item ≡ item.Frame None frame → Shape configs log step (Effect.refused_row configs log n conn moment half ended.DecodeFailed cause.FrameRefused x)
      no_ping frame is = refused ended.DecodeFailed cause.FrameRefused (λ stand ev acts copy bears. absurd (false≢true (sym (ap (carries_copy copy) is) ∙ bears)))

  -- ---- a frame, where nothing is held

  module _ (half : Half) (lived : live_half log n conn ≡ Some half) (none_held : line log (queue.Held n conn) ≡ []) (x : Envelope) (rest : List Envelope)
      (first : line log (queue.Link half.link (Effect.other_side half.writes)) ≡ x ∷ rest) where
    abbrev way : Queue
    way = queue.Link half.link (Effect.other_side half.writes)

    abbrev limit : ℕ
    limit = Effect.limit_at configs n

    lives : half_at log n conn ≡ Some half
    lives = (is_live log n conn half lived).at

    came : (copy : ℕ × ℕ) (frame : List ℕ) (message : ℕ × List ℕ) → x.item ≡ item.Frame (Some copy) frame → message_in frame limit ≡ Some message
        → CameInFrame log x n conn half message.0 message.1 copy
    came copy frame message is read =
        record { at = lives; none_held = none_held; stood = one_taken log way x rest first; frame = frame; limit = limit; is = is; read = read }

    frame_arrives : (copy : ℕ × ℕ) (frame : List ℕ) (message : ℕ × List ℕ) → x.item ≡ item.Frame (Some copy) frame → message_in frame limit ≡ Some message
        → Standing configs log → Arrives configs log n half copy message
    frame_arrives copy frame message is read stand =
        arrives configs frames_give log stand.halves n conn half copy frame limit message lives (first_tells configs log way x rest (item.Frame (Some copy) frame) stand.tells first is) read

    known_shape : (copy : ℕ × ℕ) (frame : List ℕ) (message : ℕ × List ℕ) (o : Option ℕ) (passes : Bool) → x.item ≡ item.Frame (Some copy) frame
        → message_in frame limit ≡ Some message → capacity_in (channels configs log n) message.0 ≡ o
        → Shape configs log step (elim o [
          | None ↦ Effect.refused_row configs log n conn moment half ended.InvalidChannel cause.ChannelUnregistered x
          | Some capacity ↦
              cond passes (Effect.deliver_row log n (name_of x) half.peer copy message capacity) (Effect.hold_row n conn (name_of x) (item.Held message.0 message.1 copy))
        ])
    known_shape copy frame message None passes is read known = no_channel half lived x rest first copy frame message is read known
    known_shape copy frame message (Some capacity) true is read known =
        deliver_shape half lives way x rest first (reads_link half lives) copy message (inl (refl, (frame, is)))
        (inl (record { conn = conn; half = half; bytes = message.1; copy = copy; came = came copy frame message is read; put = refl }))
        (frame_arrives copy frame message is read) capacity known
    known_shape copy frame message (Some capacity) false is read known =
        held_shape half lives way x rest first (reads_link half lives) copy message (inl (refl, (frame, is)))
        (record { half = half; channel = message.0; bytes = message.1; copy = copy; came = came copy frame message is read; put = refl })

    message_shape : (copy : ℕ × ℕ) (frame : List ℕ) (o : Option (ℕ × List ℕ)) → x.item ≡ item.Frame (Some copy) frame → message_in frame limit ≡ o
        → Shape configs log step (Effect.message_row configs log n conn moment half x copy o)
    message_shape copy frame None is read = no_message half lived x rest first copy frame is read
    message_shape copy frame (Some message) is read =
        known_shape copy frame message (capacity_in (channels configs log n) message.0) (may_pass configs log n conn moment (messages message.0)) is read refl

    quota_shape : (passes : Bool) → is_bare x.item ≡ true → Shape configs log step (cond passes (Effect.taken_row (name_of x)) (Effect.hold_row n conn (name_of x) item.Ping))
    quota_shape true light = passed_shape half lives way x rest first (reads_link half lives) light
    quota_shape false light = ping_held_shape half lives way x rest first (reads_link half lives) light

    ping_shape : (is_ping : Bool) (frame : List ℕ) → x.item ≡ item.Frame None frame → Shape configs log step (Effect.ping_row configs log n conn moment half x is_ping)
    ping_shape false frame is = no_ping half lived x rest first frame is
    ping_shape true frame is = quota_shape (may_pass configs log n conn moment pings) (ap is_bare is)

    frame_shape : (i : Item) → x.item ≡ i → Shape configs log step (Effect.frame_row configs log n conn moment half x i)
    frame_shape (item.Frame (Some copy) frame) is = message_shape copy frame (message_in frame limit) is refl
    frame_shape (item.Frame None frame) is = ping_shape (is_ping_in frame limit) frame is
    frame_shape _ is = idle_shape

  -- ---- the step

  receive_shape : (half : Half) (xs : List Envelope) → live_half log n conn ≡ Some half → line log (queue.Held n conn) ≡ []
      → line log (queue.Link half.link (Effect.other_side half.writes)) ≡ xs → Shape configs log step (Effect.receive_row configs log n conn moment half xs)
  receive_shape half [] lived none e = by_broken (is_broken log half.link (Effect.other_side half.writes))
    where
      by_broken : (b : Bool) → Shape configs log step (cond b (end_row log n conn half ended.ReceiveFailed cause.ConnectionEnded []) (Effect.only reply.Idle))
      by_broken true = receive_failed half lived
      by_broken false = idle_shape
  receive_shape half (x ∷ rest) lived none e = frame_shape half lived none x rest e x.item refl

  by_held_shape : (half : Half) (xs frames : List Envelope) → live_half log n conn ≡ Some half → line log (queue.Held n conn) ≡ xs
      → line log (queue.Link half.link (Effect.other_side half.writes)) ≡ frames → Shape configs log step (Effect.held_row configs log n conn moment half xs frames)
  by_held_shape half [] frames lived held e = receive_shape half frames lived held e
  by_held_shape half (x ∷ rest) frames lived held e = retry_shape half (is_live log n conn half lived).at x rest held x.item refl

  receiver_shape : (half : Half) (running : Bool) → live_half log n conn ≡ Some half
      → Shape configs log step (cond running (Effect.receiver_row configs log n conn moment half) (Effect.only reply.Idle))
  receiver_shape half true lived = by_held_shape half (line log (queue.Held n conn)) (line log (queue.Link half.link (Effect.other_side half.writes))) lived refl refl
  receiver_shape half false lived = idle_shape

  step_shape : (o : Option Half) → live_half log n conn ≡ o → Shape configs log step (Effect.receiving_row configs log n conn moment o)
  step_shape None lived = still configs log step reply.Gone refl refl
  step_shape (Some half) lived = receiver_shape half (is_running log n conn) lived

  pub recv_step_shape : Shape configs log step (Effect.recv_step_row configs log conn n moment)
  recv_step_shape = by_up (is_up log n)
    where
      by_up : (b : Bool) → Shape configs log step (cond b (Effect.receiving_row configs log n conn moment (live_half log n conn)) (Effect.only reply.Gone))
      by_up true = step_shape (live_half log n conn) refl
      by_up false = still configs log step reply.Gone refl refl
