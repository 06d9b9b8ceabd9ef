-- What an entry puts tells the truth, where all that stands in queues does.
use Rattle.p2p_log.proofs.Sending.{sending_at-last}
use Rattle.p2p_log.specs.Sending.{Sender, Sending, sending_of, sending_at}
use Rattle.p2p_log.specs.Sending.Sender.{Node, Raw}
use Rattle.std.proofs.Common.{◌≡◌, ℕ, Bool, true, false, List, [], ◌∷◌, ◌++◌, length, Some, None, inl, inr, refl, ap, sym, subst, ◌∙◌}
use Rattle.std.specs.Prelude.{slice_get, filter}
use Rattle.std.specs.List.{AllByRecursion as Each}
use Rattle.std.proofs.lemmas.Option.{same_Some}
use Rattle.p2p_base.specs.declared.key.Key.{Key}
use Rattle.p2p_log.specs.declared.config.Config.{Config}
use Rattle.p2p_log.specs.declared.queue.Queue.{Queue}
use Rattle.p2p_log.specs.declared.queue.Queue.TheVariants as queue
use Rattle.p2p_log.specs.declared.queue.Side.{Side}
use Rattle.p2p_log.specs.declared.item.Item.{Item}
use Rattle.p2p_log.specs.declared.item.Item.TheVariants as item
use Rattle.p2p_log.specs.declared.item.Envelope.{Envelope}
use Rattle.p2p_log.specs.declared.entry.Entry.{Entry}
use Rattle.p2p_log.specs.declared.event.Event.{Event}
use Rattle.p2p_log_rules.specs.declared.row.Half.{Half}
use Rattle.p2p_log_rules.specs.declared.row.Row.{Row}
use Rattle.p2p_log.specs.Lines.{goes, stays, placed, live}
use Rattle.p2p_log_rules.specs.Connections.{half_at}
use Rattle.p2p_log_rules.specs.Facts.{key_at}
use Rattle.p2p_log_rules.specs.Frames.{frame_of, message_in}
use Rattle.p2p_log_rules.specs.Effect.{entry_of, relay_queue, other_side}
use Rattle.p2p_log.proofs.Lines.{live-append}
use Rattle.p2p_log_laws.specs.Delivered.{IsCopyOf, HasKey}
use Rattle.p2p_log_laws.specs.Order.{WentOver}
use Rattle.p2p_log.proofs.Each.{Each-has, Each-append, Each-filter, Each-weaker}
use Rattle.p2p_log_laws.proofs.Fitting.{Each-placed, is_idle}
use Rattle.p2p_log_laws.proofs.Meeting.{other_side-twice, HalvesMeet}
use Rattle.p2p_log_laws.proofs.Puts.{IsPut, each_put}
use Rattle.p2p_log_laws.proofs.Routing.{RoutesHold, route_peer}
use Rattle.p2p_log_rules.specs.Moves.{Moves}
use Rattle.p2p_log_rules.proofs.Connections.{half_at-longer}
use Rattle.p2p_log_rules.proofs.Moves.{taken_stood}
use Rattle.p2p_log_laws.proofs.Shape.{Origin, OfAct, OfItem, IsSpread, CameInFrame, IsReceived, IsHeldBack, IsRetried, Laws, Moved-origins}
use Rattle.p2p_log_laws.proofs.Telling.{Arrives, IsArrived, IsHeld, IsConnection-longer, Tells, Tells-longer, PutTells, StandTells, IsAddressed, copy_of_send}
use Rattle.p2p_log.proofs.Taken.{Each-taken}

-- what a frame gives is what it is of
abbrev pub FramesGive : Type 0
FramesGive = (channel : ℕ) (bytes : List ℕ) (limit : ℕ) (message : ℕ × List ℕ) → message_in (frame_of channel bytes) limit ≡ Some message
    → (message.0 ≡ channel) × (message.1 ≡ bytes)

-- ---- what is put

idle_tells : (configs : List Config) (log : List Entry) (i : Item) (q : Queue) → is_idle i ≡ true → Tells configs log i q
idle_tells configs log (item.Ready conn key) q h = absurd (cc)
idle_tells configs log (item.Content c frame priority send to) q h = absurd (cc)
idle_tells configs log (item.Frame (Some copy) frame) q h = absurd (cc)
idle_tells configs log (item.Held c bytes copy) q h = absurd (cc)
idle_tells configs log (item.Message bytes copy from) q h = absurd (cc)
idle_tells configs log (item.Connect conn key) q h = absurd (cc)
idle_tells configs log _ q h = tt

relay_tells : (configs : List Config) (log : List Entry) (priority : Bool) (n conn : ℕ) (half : Half) (copy : ℕ × ℕ) (frame : List ℕ)
    → IsAddressed configs log n conn half copy frame → Tells configs log (item.Frame (Some copy) frame) (relay_queue priority n conn)
relay_tells configs log true n conn half copy frame h = (half, h)
relay_tells configs log false n conn half copy frame h = (half, h)

relayed_is : (configs : List Config) (log : List Entry) (priority : Bool) (n conn : ℕ) (copy : ℕ × ℕ) (frame : List ℕ)
    → Tells configs log (item.Frame (Some copy) frame) (relay_queue priority n conn) → (half : Half) × IsAddressed configs log n conn half copy frame
relayed_is configs log true n conn copy frame h = h
relayed_is configs log false n conn copy frame h = h

link_tells : (configs : List Config) (log : List Entry) (priority : Bool) (n conn : ℕ) (half : Half) (i : Item) → half_at log n conn ≡ Some half
    → Tells configs log i (relay_queue priority n conn) → Tells configs log i (queue.Link half.link half.writes)
link_tells configs log priority n conn half (item.Frame (Some copy) frame) at h =
    let told = relayed_is configs log priority n conn copy frame h in
    let same : told.0 ≡ half = same_Some told.0 half (sym told.1.at ∙ at) in
    inl (n, conn, told.0, ap (λ (k : Half). k.link) same, ap (λ (k : Half). k.writes) same, told.1)
link_tells configs log priority n conn half (item.Frame None frame) at h = tt
link_tells configs log true n conn half _ at h = h
link_tells configs log false n conn half _ at h = h

-- ---- what a half takes from its link

pub arrives : (configs : List Config) → FramesGive → (log : List Entry) → HalvesMeet configs log → (n conn : ℕ) (half : Half) (copy : ℕ × ℕ) (frame : List ℕ) (limit : ℕ) (message : ℕ × List ℕ)
    → half_at log n conn ≡ Some half → Tells configs log (item.Frame (Some copy) frame) (queue.Link half.link (other_side half.writes))
    → message_in frame limit ≡ Some message → Arrives configs log n half copy message
arrives configs frames log halves n conn half copy frame limit message at told read = elim told [
  | inl of ↦
      let m : ℕ = of.0 in
      let far : Half = of.2 in
      let addressed : IsAddressed configs log m of.1 far copy frame = of.5 in
      let peers = halves.opposite m n of.1 conn far half addressed.at at of.3 of.4 in
      record {
        sender = Node m;
        begins = (of.1, far, addressed.at, of.3, of.4);
        key = peers.1;
        sent = as_read (Node m) addressed.channel addressed.bytes addressed.is far.peer peers.0 addressed.sent;
      }
  | inr raw ↦
      let writes : raw.far.writes ≡ half.writes = sym (other_side-twice raw.far.writes) ∙ (ap other_side (sym raw.ends) ∙ other_side-twice half.writes) in
      let same = halves.same_end raw.node n raw.conn conn raw.far half raw.at at raw.over writes in
      record {
        sender = Raw half.link;
        begins = refl;
        key = (n, conn, half, at, refl, refl);
        sent = as_read (Raw half.link) raw.channel raw.bytes raw.is (key_at configs raw.node) (ap (key_at configs) same.0) raw.sent;
      }
]
  where
    as_read : (by : Sender) (channel : ℕ) (bytes : List ℕ) → frame ≡ frame_of channel bytes → (key : Key) → key ≡ key_at configs n → IsCopyOf log copy by channel bytes key
        → IsCopyOf log copy by message.0 message.1 (key_at configs n)
    as_read by channel bytes is key same h =
        let gives = frames channel bytes limit message (ap (λ f. message_in f limit) (sym is) ∙ read) in
        subst (λ c. IsCopyOf log copy by c message.1 (key_at configs n)) (sym gives.0)
        (subst (λ b. IsCopyOf log copy by channel b (key_at configs n)) (sym gives.1) (subst (λ k. IsCopyOf log copy by channel bytes k) same h))

module _ (configs : List Config) (frames : FramesGive) (log : List Entry) (ev : Event) (r : Row) (m : Moves log r) (laws : Laws configs log ev.act r m)
    (tell : Each (StandTells configs log) (live log)) (halves : HalvesMeet configs log) (hold : RoutesHold configs log) where
  abbrev longer : List Entry
  longer = log ++ entry_of ev r ∷ []

  -- what the act sends
  sends_now : (s : Sending) (by : Sender) → sending_of ev.act r.reply ≡ Some s → s.by ≡ by
      → sending_at longer (length log) ≡ Some (record { by = by; channel = s.channel; priority = s.priority; bytes = s.bytes; keys = s.keys })
  sends_now s by sends is =
      subst (λ b. sending_at longer (length log) ≡ Some (record { by = b; channel = s.channel; priority = s.priority; bytes = s.bytes; keys = s.keys })) is
      (sending_at-last log (entry_of ev r) ∙ sends)

  own_tells : (q : Queue) (i : Item) → OfAct configs log ev.act r.reply q i → Tells configs longer i q
  own_tells (queue.Tracker n) i h =
      subst (λ j. Tells configs longer j (queue.Tracker n)) (sym h.3) (IsConnection-longer log (entry_of ev r ∷ []) n h.0 h.1 h.2)
  own_tells (queue.Router n) i h = elim h [
    | inl ready ↦ subst (λ j. Tells configs longer j (queue.Router n)) (sym ready.3) (IsConnection-longer log (entry_of ev r ∷ []) n ready.0 ready.1 ready.2)
    | inr sent ↦
        let s = sent.0 in
        subst (λ j. Tells configs longer j (queue.Router n)) (sym sent.3) (s.bytes, refl, record { priority = s.priority; sends = sends_now s (Node n) sent.1 sent.2 })
  ]
  own_tells (queue.Link link side) i h =
      let s = h.sending in
      subst (λ j. Tells configs longer j (queue.Link link side)) (sym h.put)
      (inr (record {
        node = h.node;
        conn = h.conn;
        far = h.far;
        at = half_at-longer log (entry_of ev r ∷ []) h.node h.conn h.far h.at;
        over = h.over;
        ends = h.ends;
        channel = s.channel;
        bytes = s.bytes;
        is = refl;
        sent = record {
          priority = s.priority;
          keys = s.keys;
          sends = sends_now s (Raw link) h.sends h.by;
          for_key = ap (λ (ks : List Key). slice_get ks 0) h.keys;
        };
      }))
  own_tells _ i h = absurd h

  -- what comes of an item that tells the truth
  module _ (y : Envelope) (told : StandTells configs log y) (was_put : IsPut log y) where
    told_as : (i : Item) (q : Queue) → y.item ≡ i → y.queue ≡ q → Tells configs log i q
    told_as i q is stood = subst (Tells configs log i) stood (subst (λ j. Tells configs log j y.queue) is told)

    spread_tells : (n : ℕ) (priority : Bool) (conn : ℕ) (i : Item) → IsSpread log y n priority conn i → Tells configs log i (relay_queue priority n conn)
    spread_tells n priority conn i h =
        let content = told_as (item.Content h.channel h.frame priority h.send h.to) (queue.Router n) h.is h.stood in
        let peer = route_peer configs log n h.key conn hold h.route in
        let half : Half = peer.0 in
        let for_peer : slice_get h.to h.place ≡ Some half.peer = h.for_key ∙ ap (λ j. Some j) (sym peer.2) in
        subst (λ j. Tells configs log j (relay_queue priority n conn)) (sym h.put)
        (relay_tells configs log priority n conn half (h.send, h.place) h.frame (record {
          at = peer.1;
          channel = h.channel;
          bytes = content.0;
          is = content.1;
          sent = copy_of_send log h.send n h.channel content.0 h.to h.place half.peer content.2 for_peer;
        }))

    -- what y put in its link went over it
    went_over : (link : ℕ) (side : Side) (copy : ℕ × ℕ) (frame : List ℕ) → y.queue ≡ queue.Link link side → y.item ≡ item.Frame (Some copy) frame → WentOver log copy link side
    went_over link side copy frame stood is = record {
      n = y.entry;
      entry = was_put.entry;
      at = was_put.at;
      place = y.place;
      frame = frame;
      put = was_put.put ∙ (ap (λ (q : Queue). Some (q, y.item)) stood ∙ ap (λ (i : Item). Some (queue.Link link side, i)) is);
    }

    -- what came in a frame may be held at its connection
    frame_held : (n conn : ℕ) (half : Half) (c : ℕ) (bytes : List ℕ) (copy : ℕ × ℕ) → CameInFrame log y n conn half c bytes copy → IsHeld configs log n conn c bytes copy
    frame_held n conn half c bytes copy h =
        let q : Queue = queue.Link half.link (other_side half.writes) in
        record {
          half = half;
          at = h.at;
          over = went_over half.link (other_side half.writes) copy h.frame h.stood h.is;
          arrives = arrives configs frames log halves n conn half copy h.frame h.limit (c, bytes) h.at (told_as (item.Frame (Some copy) h.frame) q h.is h.stood) h.read;
        }

    -- and what may be held there has arrived
    held_arrived : (n conn : ℕ) (half : Half) (c : ℕ) (bytes : List ℕ) (copy : ℕ × ℕ) → half_at log n conn ≡ Some half → IsHeld configs log n conn c bytes copy
        → IsArrived configs log bytes copy half.peer n c
    held_arrived n conn half c bytes copy at h =
        let same : h.half ≡ half = same_Some h.half half (sym h.at ∙ at) in
        record {
          sender = h.arrives.sender;
          key = subst (λ (k : Half). HasKey configs log h.arrives.sender k.peer) same h.arrives.key;
          sent = h.arrives.sent;
          link = h.half.link;
          side = other_side h.half.writes;
          over = h.over;
          begins = h.arrives.begins;
          conn = conn;
          far = h.half;
          far_at = h.at;
          far_over = refl;
          ends = refl;
        }

    received_tells : (n c : ℕ) (i : Item) → IsReceived log y n c i → Tells configs log i (queue.Channel n c)
    received_tells n c i h =
        subst (λ j. Tells configs log j (queue.Channel n c)) (sym h.put)
        (held_arrived n h.conn h.half c h.bytes h.copy h.came.at (frame_held n h.conn h.half c h.bytes h.copy h.came))

    held_tells : (n conn : ℕ) (i : Item) → IsHeldBack log y n conn i → Tells configs log i (queue.Held n conn)
    held_tells n conn i h =
        subst (λ j. Tells configs log j (queue.Held n conn)) (sym h.put) (frame_held n conn h.half h.channel h.bytes h.copy h.came)

    retried_tells : (n c : ℕ) (i : Item) → IsRetried log y n c i → Tells configs log i (queue.Channel n c)
    retried_tells n c i h =
        subst (λ j. Tells configs log j (queue.Channel n c)) (sym h.put)
        (held_arrived n h.conn h.half c h.bytes h.copy h.at (told_as (item.Held c h.bytes h.copy) (queue.Held n h.conn) h.is h.stood))

    item_tells : (q : Queue) (i : Item) → OfItem configs log y q i → Tells configs log i q
    item_tells (queue.High n conn) i h = spread_tells n true conn i h
    item_tells (queue.Low n conn) i h = spread_tells n false conn i h
    item_tells (queue.Link link s) i h =
        subst (λ e. Tells configs log i (queue.Link e s)) h.over
        (subst (λ w. Tells configs log i (queue.Link h.half.link w)) h.writes
        (subst (λ j. Tells configs log j (queue.Link h.half.link h.half.writes)) (sym h.put)
        (link_tells configs log h.priority h.node h.conn h.half y.item h.at (told_as y.item (relay_queue h.priority h.node h.conn) refl h.stood))))
    item_tells (queue.Held n conn) i h = held_tells n conn i h
    item_tells (queue.Channel n c) i h = elim h [ inl received ↦ received_tells n c i received | inr retried ↦ retried_tells n c i retried ]
    item_tells _ i h = absurd h

  tells : (x : Queue × Item) → Origin configs log ev.act r.reply m.taken x → PutTells configs longer x
  tells x o = elim o [
    | inl own ↦ elim own [ inl h ↦ idle_tells configs longer x.1 x.0 h | inr h ↦ own_tells x.0 x.1 h ]
    | inr item ↦
        let y : Envelope = item.0 in
        let stood = taken_stood log ev r m in
        let told = Each-has (StandTells configs log) m.taken y (Each-taken (StandTells configs log) (live log) m.taken tell stood) item.1 in
        let was_put = Each-has (IsPut log) m.taken y (Each-taken (IsPut log) (live log) m.taken (each_put log) stood) item.1 in
        elim item.2 [
          | inl h ↦ idle_tells configs longer x.1 x.0 h
          | inr h ↦ Tells-longer configs log (entry_of ev r ∷ []) x.1 x.0 (item_tells y told was_put x.0 x.1 h)
        ]
  ]

  pub tells_kept : Each (StandTells configs longer) (live longer)
  tells_kept =
      subst (Each (StandTells configs longer)) (sym (live-append log (entry_of ev r)))
      (Each-append (StandTells configs longer) (filter (stays (goes (entry_of ev r))) (live log)) (placed (length log) 0 r.puts)
      (Each-filter (StandTells configs longer) (stays (goes (entry_of ev r))) (live log)
      (Each-weaker (StandTells configs log) (StandTells configs longer) (λ x h. Tells-longer configs log (entry_of ev r ∷ []) x.item x.queue h) (live log) tell))
      (Each-placed (PutTells configs longer) (length log) 0 r.puts
      (Each-weaker (Origin configs log ev.act r.reply m.taken) (PutTells configs longer) tells r.puts (Moved-origins configs log ev.act r.reply m.taken r.puts laws.moved))))
