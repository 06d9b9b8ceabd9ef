-- What a step of a half of a connection puts: as long as the connection goes on what it tells and hands on, and at its end its release.
use Rattle.std.proofs.Common.{◌≡◌, ℕ, Bool, true, false, cond, List, [], ◌∷◌, map, length, Option, Some, None, ◌⊎◌, inl, inr, refl, sym, subst}
use Rattle.std.specs.Prelude.{nat_le, nat_lt}
use Rattle.std.specs.List.{AllByRecursion as Each}
use Rattle.p2p_base.specs.declared.key.Key.{Key}
use Rattle.p2p_log.specs.declared.config.Config.{Config}
use Rattle.p2p_log.specs.declared.queue.Queue.{Queue}
use Rattle.p2p_log.specs.declared.queue.Queue.TheVariants as queue
use Rattle.p2p_log.specs.declared.queue.Side.{Side}
use Rattle.p2p_log.specs.declared.item.Item.{Item}
use Rattle.p2p_log.specs.declared.item.Item.TheVariants as item
use Rattle.p2p_log.specs.declared.item.Envelope.{Envelope}
use Rattle.p2p_log.specs.declared.end.Cause.{Cause}
use Rattle.p2p_log.specs.declared.end.Cause.TheVariants as cause
use Rattle.p2p_log.specs.declared.entry.Ended.{Ended}
use Rattle.p2p_log.specs.declared.entry.Ended.TheVariants as ended
use Rattle.p2p_log.specs.declared.entry.Entry.{Entry}
use Rattle.p2p_log.specs.declared.entry.Reply.{Reply}
use Rattle.p2p_log.specs.declared.entry.Reply.TheVariants as reply
use Rattle.p2p_log.specs.Lines.{name_of, line}
use Rattle.p2p_log.proofs.Each.{Each-always, Each-map}
use Rattle.p2p_log_rules.specs.declared.row.Half.{Half}
use Rattle.p2p_log_rules.specs.declared.row.Row.{Row}
use Rattle.p2p_log_rules.specs.Closing.{is_closed, refused_by}
use Rattle.p2p_log_rules.specs.Connections.{live_half, is_begun, is_running, is_end}
use Rattle.p2p_log_rules.specs.Cutting.{is_broken}
use Rattle.p2p_log_rules.specs.Dropping.{other_side}
use Rattle.p2p_log_rules.specs.Effect
use Rattle.p2p_log_rules.specs.Ending.{end_row}
use Rattle.p2p_log_rules.specs.Facts.{is_up, channels, capacity_in}
use Rattle.p2p_log_rules.specs.Frames.{message_in, is_ping_in}
use Rattle.p2p_log_rules.specs.Metering.{pings, messages, may_pass}
use Rattle.p2p_log_rules.specs.Pings.{ping_frame, ping_is_due}
use Rattle.p2p_log_rules.specs.Rows.{only, takes_oldest}

-- it puts its release to its router and its tracker
abbrev pub released : ℕ → Key → List (Queue × Item)
released n key = (queue.Router n, item.Release key) ∷ (queue.Tracker n, item.Release key) ∷ []

-- a half that had not ended ends its connection
pub record IsLast (log : List Entry) (n conn : ℕ) (r : Row) : Type 0 where
  pub half : Half
  pub lived : live_half log n conn ≡ Some half
  pub ends : is_end r.reply ≡ true
  pub puts : r.puts ≡ released n half.peer

-- the connection goes on, and each put is such, or it ends
abbrev pub IsStep : (Queue × Item → Type 0) → List Entry → ℕ → ℕ → Row → Type 0
IsStep P log n conn r = ((is_end r.reply ≡ false) × Each P r.puts) ⊎ IsLast log n conn r

module _ (configs : List Config) (log : List Entry) (conn n at : ℕ) (P : Queue × Item → Type 0) where
  abbrev Steps : Row → Type 0
  Steps r = IsStep P log n conn r

  rests : (said : Reply) → is_end said ≡ false → Steps (only said)
  rests said lives = inl (lives, tt)

  module _ (half : Half) (lived : live_half log n conn ≡ Some half) where
    over : (why : Ended) (c : Cause) (taken : List Envelope) → Steps (end_row log n conn half why c taken)
    over why c taken = inr (record { half = half; lived = lived; ends = refl; puts = refl })

  -- ---- a sending half

  module _ (link : (e : ℕ) (s : Side) (i : Item) → P (queue.Link e s, i)) (half : Half) (lived : live_half log n conn ≡ Some half) where
    abbrev put : Envelope → Queue × Item
    put y = (queue.Link half.link half.writes, y.item)

    each : (ys : List Envelope) → Each P (map put ys)
    each ys = Each-map P put ys (Each-always (λ y. P (put y)) (λ y. link half.link half.writes y.item) ys)

    written : (broken due : Bool) (ys : List Envelope) → Steps (Effect.written_row log n conn half broken due ys)
    written true false [] = rests reply.Idle refl
    written false false [] = rests reply.Idle refl
    written true false (y ∷ ys) = over half lived ended.SendFailed cause.ConnectionEnded (y ∷ ys)
    written true true ys = over half lived ended.SendFailed cause.ConnectionEnded ys
    written false false (y ∷ ys) = inl (refl, each (y ∷ ys))
    written false true ys = inl (refl, (link half.link half.writes (item.Frame None ping_frame), each ys))

    told : (xs : List Envelope) (room : Bool) (r : Row) → Steps r → Steps (Effect.told_to_end_row log n conn half xs room r)
    told [] room r s = s
    told (x ∷ xs) true r s = over half lived ended.Killed cause.ConnectionEnded (x ∷ [])
    told (x ∷ xs) false r s = s

    running : (due : Bool) → Steps (Effect.running_row configs log n conn half due)
    running due =
        let most : ℕ = Effect.beside_ping due (Effect.batch_size_at configs n) in
        let broken : Bool = is_broken log half.link (other_side half.writes) in
        told (line log (queue.Control n conn)) (nat_lt 0 most) (Effect.written_row log n conn half broken due (Effect.batch log n conn most)) (written broken due (Effect.batch log n conn most))

  answered : (xs : List Envelope) → Steps (takes_oldest xs)
  answered [] = rests reply.Idle refl
  answered (x ∷ xs) = inl (refl, tt)

  module _ (tracker : (key : Key) → P (queue.Tracker n, item.Connect conn key)) (router : (key : Key) → P (queue.Router n, item.Ready conn key))
      (link : (e : ℕ) (s : Side) (i : Item) → P (queue.Link e s, i)) where
    by_half : (half : Half) → live_half log n conn ≡ Some half → (begun runs : Bool) → Steps (Effect.half_row configs log n conn at half begun runs)
    by_half half lived false runs = inl (refl, (tracker half.peer, (router half.peer, tt)))
    by_half half lived true false = answered (line log (queue.RouterAnswer n conn))
    by_half half lived true true = running link half lived (ping_is_due configs log n conn at)

    by_sender : (o : Option Half) → live_half log n conn ≡ o → Steps (Effect.sender_row configs log n conn at o)
    by_sender None lived = rests reply.Gone refl
    by_sender (Some half) lived = by_half half lived (is_begun log n conn) (is_running log n conn)

    pub send_is : IsStep P log n conn (Effect.send_step_row configs log conn n at)
    send_is = by_up (is_up log n)
      where
        by_up : (b : Bool) → Steps (cond b (Effect.sender_row configs log n conn at (live_half log n conn)) (only reply.Gone))
        by_up true = by_sender (live_half log n conn) refl
        by_up false = rests reply.Gone refl

  -- ---- a receiving half

  module _ (held : (i : Item) → P (queue.Held n conn, i)) (channel : (c : ℕ) (i : Item) → P (queue.Channel n c, i)) where
    module _ (half : Half) (lived : live_half log n conn ≡ Some half) where
      delivered : (o : Option Cause) (name copy : ℕ × ℕ) (message : ℕ × List ℕ) → Steps (Effect.delivered_row o n name half.peer copy message)
      delivered (Some why) name copy message = inl (refl, tt)
      delivered None name copy message = inl (refl, (channel message.0 (item.Message message.1 copy half.peer), tt))

      passed : (name copy : ℕ × ℕ) (message : ℕ × List ℕ) (capacity : ℕ) (r : Row) → Steps r → (b : Bool) → Steps (cond b (Effect.deliver_row log n name half.peer copy message capacity) r)
      passed name copy message capacity r s true = delivered (refused_by (is_closed log n message.0) (nat_le capacity (length (line log (queue.Channel n message.0))))) name copy message
      passed name copy message capacity r s false = s

      pinged : (name : ℕ × ℕ) (r : Row) → Steps r → (b : Bool) → Steps (cond b (Effect.taken_row name) r)
      pinged name r s true = inl (refl, tt)
      pinged name r s false = s

      waits : (name : ℕ × ℕ) (i : Item) → Steps (Effect.hold_row n conn name i)
      waits name i = inl (refl, (held i, tt))

      by_channel : (x : Envelope) (copy : ℕ × ℕ) (message : ℕ × List ℕ) (o : Option ℕ)
          → Steps (elim o [
            | None ↦ Effect.refused_row configs log n conn at half ended.InvalidChannel cause.ChannelUnregistered x
            | Some capacity ↦
                cond (may_pass configs log n conn at (messages message.0))
                (Effect.deliver_row log n (name_of x) half.peer copy message capacity)
                (Effect.hold_row n conn (name_of x) (item.Held message.0 message.1 copy))
          ])
      by_channel x copy message None = over half lived ended.InvalidChannel cause.ChannelUnregistered (x ∷ [])
      by_channel x copy message (Some capacity) =
          passed (name_of x) copy message capacity (Effect.hold_row n conn (name_of x) (item.Held message.0 message.1 copy)) (waits (name_of x) (item.Held message.0 message.1 copy))
          (may_pass configs log n conn at (messages message.0))

      by_message : (x : Envelope) (copy : ℕ × ℕ) (o : Option (ℕ × List ℕ)) → Steps (Effect.message_row configs log n conn at half x copy o)
      by_message x copy None = over half lived ended.DecodeFailed cause.FrameRefused (x ∷ [])
      by_message x copy (Some message) = by_channel x copy message (capacity_in (channels configs log n) message.0)

      by_ping : (x : Envelope) (b : Bool) → Steps (Effect.ping_row configs log n conn at half x b)
      by_ping x false = over half lived ended.DecodeFailed cause.FrameRefused (x ∷ [])
      by_ping x true = pinged (name_of x) (Effect.hold_row n conn (name_of x) item.Ping) (waits (name_of x) item.Ping) (may_pass configs log n conn at pings)

      by_frame : (x : Envelope) (i : Item) → Steps (Effect.frame_row configs log n conn at half x i)
      by_frame x (item.Frame (Some copy) frame) = by_message x copy (message_in frame (Effect.limit_at configs n))
      by_frame x (item.Frame None frame) = by_ping x (is_ping_in frame (Effect.limit_at configs n))
      by_frame x _ = rests reply.Idle refl

      receives : (frames : List Envelope) → Steps (Effect.receive_row configs log n conn at half frames)
      receives [] = by_broken (is_broken log half.link (other_side half.writes))
        where
          by_broken : (b : Bool) → Steps (cond b (end_row log n conn half ended.ReceiveFailed cause.ConnectionEnded []) (only reply.Idle))
          by_broken true = over half lived ended.ReceiveFailed cause.ConnectionEnded []
          by_broken false = rests reply.Idle refl
      receives (x ∷ xs) = by_frame x x.item

      again : (name copy : ℕ × ℕ) (message : ℕ × List ℕ) (o : Option ℕ)
          → Steps (elim o [
            | None ↦ only reply.Idle
            | Some capacity ↦ cond (may_pass configs log n conn at (messages message.0)) (Effect.deliver_row log n name half.peer copy message capacity) (only reply.Idle)
          ])
      again name copy message None = rests reply.Idle refl
      again name copy message (Some capacity) = passed name copy message capacity (only reply.Idle) (rests reply.Idle refl) (may_pass configs log n conn at (messages message.0))

      retries : (name : ℕ × ℕ) (i : Item) → Steps (Effect.retry_row configs log n conn at half name i)
      retries name (item.Held c bytes copy) = again name copy (c, bytes) (capacity_in (channels configs log n) c)
      retries name item.Ping = pinged name (only reply.Idle) (rests reply.Idle refl) (may_pass configs log n conn at pings)
      retries name _ = rests reply.Idle refl

      by_held : (xs frames : List Envelope) → Steps (Effect.held_row configs log n conn at half xs frames)
      by_held [] frames = receives frames
      by_held (x ∷ xs) frames = retries (name_of x) x.item

      by_running : (b : Bool) → Steps (cond b (Effect.receiver_row configs log n conn at half) (only reply.Idle))
      by_running true = by_held (line log (queue.Held n conn)) (line log (queue.Link half.link (other_side half.writes)))
      by_running false = rests reply.Idle refl

    by_receiver : (o : Option Half) → live_half log n conn ≡ o → Steps (Effect.receiving_row configs log n conn at o)
    by_receiver None lived = rests reply.Gone refl
    by_receiver (Some half) lived = by_running half lived (is_running log n conn)

    pub receive_is : IsStep P log n conn (Effect.recv_step_row configs log conn n at)
    receive_is = by_up (is_up log n)
      where
        by_up : (b : Bool) → Steps (cond b (Effect.receiving_row configs log n conn at (live_half log n conn)) (only reply.Gone))
        by_up true = by_receiver (live_half log n conn) refl
        by_up false = rests reply.Gone refl

-- what is so of a release too is so of each put
pub each_step : (P : Queue × Item → Type 0) (log : List Entry) (n conn : ℕ) (r : Row) → ((key : Key) → Each P (released n key)) → IsStep P log n conn r → Each P r.puts
each_step P log n conn r release s = elim s [
  | inl goes ↦ goes.1
  | inr last ↦ subst (Each P) (sym last.puts) (release last.half.peer)
]

-- ---- a beginning

-- a half that had not ended, and not begun, begins its connection
pub record IsFirst (log : List Entry) (n conn : ℕ) (r : Row) : Type 0 where
  pub half : Half
  pub lived : live_half log n conn ≡ Some half
  pub fresh : is_begun log n conn ≡ false
  pub row : r ≡ Effect.begin_row n conn half.peer

-- whether what is put tells a tracker that a connection begins
abbrev pub tells_any : Queue → Item → Bool
tells_any (queue.Tracker n) (item.Connect conn key) = true
tells_any q i = false

module _ (configs : List Config) (log : List Entry) (conn n at : ℕ) where
  abbrev Untold : Queue × Item → Type 0
  Untold x = tells_any x.0 x.1 ≡ false

  abbrev Begins : Row → Type 0
  Begins r = IsFirst log n conn r ⊎ Each Untold r.puts

  silent : (r : Row) → IsStep Untold log n conn r → Begins r
  silent r step = inr (each_step Untold log n conn r (λ key. (refl, (refl, tt))) step)

  half_begins : (half : Half) → live_half log n conn ≡ Some half → (begun runs : Bool) → is_begun log n conn ≡ begun → Begins (Effect.half_row configs log n conn at half begun runs)
  half_begins half lived false runs fresh = inl (record { half = half; lived = lived; fresh = fresh; row = refl })
  half_begins half lived true false begun = silent (takes_oldest (line log (queue.RouterAnswer n conn))) (answered configs log conn n at Untold (line log (queue.RouterAnswer n conn)))
  half_begins half lived true true begun =
      let due : Bool = ping_is_due configs log n conn at in
      silent (Effect.running_row configs log n conn half due) (running configs log conn n at Untold (λ e s i. refl) half lived due)

  sender_begins : (o : Option Half) → live_half log n conn ≡ o → Begins (Effect.sender_row configs log n conn at o)
  sender_begins None lived = inr tt
  sender_begins (Some half) lived = half_begins half lived (is_begun log n conn) (is_running log n conn) refl

  -- it tells its tracker that it begins where it does, and that alone
  pub send_begins : Begins (Effect.send_step_row configs log conn n at)
  send_begins = by_up (is_up log n)
    where
      by_up : (b : Bool) → Begins (cond b (Effect.sender_row configs log n conn at (live_half log n conn)) (only reply.Gone))
      by_up true = sender_begins (live_half log n conn) refl
      by_up false = inr tt
