-- From where the copies of one sender come that enter a stage of their way: from the stage before.
use Rattle.p2p_log.specs.Sending.{Sender, Sending, sending_at, sending_of}
use Rattle.p2p_log.specs.Sending.Sender.{Node, Raw}
use Rattle.p2p_log_rules.proofs.Connections.{half_at-longer}
use Rattle.p2p_log_laws.proofs.Telling.{IsHeld, Tells, StandTells, WentOver-longer}
use Rattle.p2p_log_laws.proofs.Stages.{Fail, OwnFails, ItemsFail, OthersFail}
use Rattle.p2p_log.proofs.Sending.{sending_at-longer}
use Rattle.p2p_log.specs.Copies.{copies_of}
use Rattle.std.proofs.Common.{◌≡◌, ℕ, Bool, true, false, List, [], ◌++◌, length, Option, Some, None, inl, inr, refl, ap, sym, subst, ◌∙◌, eq-eqb, eqb-true}
use Rattle.std.specs.Prelude.{◌==◌, ◌&&◌, not}
use Rattle.std.proofs.lemmas.Bool.{and_parts, false≢true}
use Rattle.p2p_base.specs.declared.key.Key.{Key}
use Rattle.p2p_log.specs.declared.config.Config.{Config}
use Rattle.p2p_log.specs.declared.queue.Queue.{Queue}
use Rattle.p2p_log.specs.declared.queue.Queue.TheVariants as queue
use Rattle.p2p_log.specs.declared.queue.Side.{Side}
use Rattle.p2p_log.specs.declared.item.Item.{Item}
use Rattle.p2p_log.specs.declared.item.Item.TheVariants as item
use Rattle.p2p_log.specs.declared.item.Envelope.{Envelope}
use Rattle.p2p_log.specs.declared.entry.Entry.{Entry}
use Rattle.p2p_log_rules.specs.declared.row.Half.{Half}
use Rattle.p2p_log.specs.declared.entry.Reply.{Reply}
use Rattle.p2p_log.specs.declared.event.Act.{Act}
use Rattle.p2p_log.specs.Lines.{stands_in, live, line}
use Rattle.p2p_log_rules.specs.Effect.{relay_queue, other_side}
use Rattle.p2p_log_rules.specs.Connections.{half_at}
use Rattle.p2p_log.proofs.Queues.{same_queue-refl}
use Rattle.p2p_log_laws.specs.Order.{WentOver, Writes}
use Rattle.p2p_log_laws.proofs.ConnShapes.{relayed_fits}
use Rattle.p2p_log_laws.proofs.Fitting.{StandsFit, fits}
use Rattle.p2p_log_laws.proofs.Meeting.{other_side-twice, HalvesMeet}
use Rattle.p2p_log_laws.proofs.Marks.{IsSentBy, Marks, StandMarks, relay_marked}
use Rattle.p2p_log_laws.proofs.Shape.{OfAct, CameInFrame, IsWritten, spread_relay}
use Rattle.p2p_log_laws.proofs.OneLink.{all_puts, WasPut}
use Rattle.p2p_log.proofs.Each.{Has, Has-get, Has-kept, Has-flat_map}

-- ---- whose copy it is

abbrev same_priority : Bool → Bool → Bool
same_priority true b = b
same_priority false b = not b

abbrev same_sender : Sender → Sender → Bool
same_sender (Node n) (Node m) = n == m
same_sender (Raw n) (Raw m) = n == m
same_sender _ _ = false

senders : (a b : Sender) → same_sender a b ≡ true → a ≡ b
senders (Node n) (Node m) h = ap (λ k. Node k) (eqb-true n m h)
senders (Raw n) (Raw m) h = ap (λ k. Raw k) (eqb-true n m h)
senders (Node n) (Raw m) h = absurd (false≢true h)
senders (Raw n) (Node m) h = absurd (false≢true h)

sender_itself : (a : Sender) → same_sender a a ≡ true
sender_itself (Node n) = eq-eqb n n refl
sender_itself (Raw n) = eq-eqb n n refl

abbrev is_by : Sender → ℕ → Bool → Option Sending → Bool
is_by sender channel priority None = false
is_by sender channel priority (Some s) = same_sender s.by sender && ((s.channel == channel) && same_priority s.priority priority)

-- whether the copy is of a send of this sender, on this channel, with this priority
abbrev pub is_copy_by : List Entry → Sender → ℕ → Bool → ℕ × ℕ → Bool
is_copy_by all sender channel priority copy = is_by sender channel priority (sending_at all copy.0)

priorities : (p q : Bool) → same_priority p q ≡ true → p ≡ q
priorities true q h = sym h
priorities false true h = absurd (false≢true h)
priorities false false h = refl

priority_itself : (p : Bool) → same_priority p p ≡ true
priority_itself true = refl
priority_itself false = refl

-- of a send whose copies pass
sending_parts : (all : List Entry) (sender : Sender) (channel : ℕ) (priority : Bool) (copy : ℕ × ℕ) (s : Sending) → sending_at all copy.0 ≡ Some s
    → is_copy_by all sender channel priority copy ≡ true → (s.by ≡ sender) × (s.channel ≡ channel) × (s.priority ≡ priority)
sending_parts all sender channel priority copy s at h =
    let is : is_by sender channel priority (Some s) ≡ true = sym (ap (is_by sender channel priority) at) ∙ h in
    let parts = and_parts (same_sender s.by sender) ((s.channel == channel) && same_priority s.priority priority) is in
    let more = and_parts (s.channel == channel) (same_priority s.priority priority) parts.1 in
    (senders s.by sender parts.0, eqb-true s.channel channel more.0, priorities s.priority priority more.1)

by_parts : (all : List Entry) (sender m : Sender) (channel : ℕ) (priority p : Bool) (copy : ℕ × ℕ) → IsSentBy all copy.0 m p
    → is_copy_by all sender channel priority copy ≡ true → (m ≡ sender) × (p ≡ priority)
by_parts all sender m channel priority p copy s h =
    let parts = sending_parts all sender channel priority copy s.sending s.at h in
    (sym s.by ∙ parts.0, sym s.with_priority ∙ parts.2)

pub by_sent : (all : List Entry) (sender : Sender) (channel : ℕ) (priority : Bool) (copy : ℕ × ℕ) (bytes : List ℕ) (keys : List Key)
    → sending_at all copy.0 ≡ Some (record { by = sender; channel = channel; priority = priority; bytes = bytes; keys = keys })
    → is_copy_by all sender channel priority copy ≡ true
by_sent all sender channel priority copy bytes keys at =
    ap (is_by sender channel priority) at
    ∙ (ap (λ b. b && ((channel == channel) && same_priority priority priority)) (sender_itself sender)
    ∙ (ap (λ b. b && same_priority priority priority) (eq-eqb channel channel refl) ∙ priority_itself priority))

-- what was sent in the beginning of the log was sent
pub sent_in_all : (log more all : List Entry) → log ++ more ≡ all → (n : ℕ) (s : Sending) → sending_at log n ≡ Some s → sending_at all n ≡ Some s
sent_in_all log more all whole n s h = subst (λ (l : List Entry). sending_at l n ≡ Some s) whole (sending_at-longer log more n s h)

-- what is known of an item that is taken
abbrev pub Known : List Config → List Entry → List Entry → Envelope → Type 0
Known configs log all y = StandsFit y × StandMarks all y × WasPut all y × StandTells configs log y × Has (live log) y

-- what went over a link was put there
pub put_over : (log : List Entry) (copy : ℕ × ℕ) (link : ℕ) (side : Side) (over : WentOver log copy link side) → Has (all_puts log) (queue.Link link side, item.Frame (Some copy) over.frame)
put_over log copy link side over =
    let x : Queue × Item = (queue.Link link side, item.Frame (Some copy) over.frame) in
    Has-flat_map (λ (e : Entry). e.puts) log over.entry x (Has-get log over.n over.entry over.at) (Has-get over.entry.puts over.place x over.put)

-- nothing stands in a line that is empty
none_stands : (log : List Entry) (q : Queue) (y : Envelope) → line log q ≡ [] → Has (live log) y → y.queue ≡ q → ⊥
unfolding line
none_stands log q y none has is =
    let stands : stands_in q y ≡ true = ap (λ p. stands_in p y) (sym is) ∙ same_queue-refl y.queue in
    subst (λ (l : List Envelope). Has l y) none (Has-kept (stands_in q) (live log) y stands has)

-- ---- the stages

module _ (configs : List Config) (log more all : List Entry) (whole : log ++ more ≡ all) (sender : Sender) (channel : ℕ) (priority : Bool) (link : ℕ) (side : Side)
    (test : ℕ × ℕ → Bool)
    -- a copy that passes is of the sender, on this channel, with this priority, and is put in no other link
    (by_sender : (copy : ℕ × ℕ) → test copy ≡ true → is_copy_by all sender channel priority copy ≡ true)
    (by_link : (copy : ℕ × ℕ) → test copy ≡ true → (e : ℕ) (s : Side) (frame : List ℕ) → Has (all_puts all) (queue.Link e s, item.Frame (Some copy) frame)
    → queue.Link e s ≡ queue.Link link side)
    (a : Act) (r : Reply) (here : sending_at all (length log) ≡ sending_of a r) (puts : List (Queue × Item)) where
  abbrev Fails : Item → Type 0
  Fails i = Fail test (copies_of i)

  abbrev Own : Queue → Type 0
  Own q = OwnFails test configs log a r puts (Known configs log all) q

  abbrev Items : Queue → Type 0
  Items q = ItemsFail test configs log a r puts (Known configs log all) q

  abbrev Others : Queue → Queue → Type 0
  Others q p = OthersFail test configs log a r puts (Known configs log all) q p

  one_fails : (copy : ℕ × ℕ) → (test copy ≡ true → ⊥) → test copy ≡ false
  one_fails copy f = go (test copy) refl
    where
      go : (b : Bool) → test copy ≡ b → b ≡ false
      go true e = absurd (f e)
      go false e = refl

  -- an item that does not stand in a queue has another queue
  elsewhere : (q : Queue) (y : Envelope) → stands_in q y ≡ false → y.queue ≡ q → ⊥
  elsewhere q y away is = absurd (false≢true (sym away ∙ (ap (λ p. stands_in p y) (sym is) ∙ same_queue-refl y.queue)))

  -- what stood in the link was put there
  was_put : (y : Envelope) (e : ℕ) (s : Side) (copy : ℕ × ℕ) (frame : List ℕ) → Known configs log all y → y.queue ≡ queue.Link e s → y.item ≡ item.Frame (Some copy) frame
      → Has (all_puts all) (queue.Link e s, item.Frame (Some copy) frame)
  was_put y e s copy frame known stood is = subst (λ j. Has (all_puts all) (queue.Link e s, j)) is (subst (λ q. Has (all_puts all) (q, y.item)) stood known.2)

  -- a frame that brings such a copy comes over the link
  over_link : (y : Envelope) (n conn : ℕ) (half : Half) (c : ℕ) (bytes : List ℕ) (copy : ℕ × ℕ) → Known configs log all y → CameInFrame log y n conn half c bytes copy → test copy ≡ true
      → queue.Link half.link (other_side half.writes) ≡ queue.Link link side
  over_link y n conn half c bytes copy known h passes =
      let s = other_side half.writes in
      by_link copy passes half.link s h.frame (was_put y half.link s copy h.frame known h.stood h.is)

  -- into what is held, from the link
  pub into_held : (n conn : ℕ) → Others (queue.Held n conn) (queue.Link link side)
  into_held n conn y i known is_put h away =
      subst Fails (sym h.put) (
        one_fails h.copy (λ passes.
            elsewhere (queue.Link link side) y away (h.came.stood ∙ over_link y n conn h.half h.channel h.bytes h.copy known h.came passes)),
        tt,
      )

  -- into a channel of the node that reads the link by this connection
  module _ (halves : HalvesMeet configs all) (n conn : ℕ) (far : Half) (at : half_at all n conn ≡ Some far) (over : far.link ≡ link) (ends : side ≡ other_side far.writes) where
    -- by no other does it read there
    one_reader : (e : ℕ) (half : Half) → half_at log n e ≡ Some half → queue.Link half.link (other_side half.writes) ≡ queue.Link link side → e ≡ conn
    one_reader e half at_e is =
        let at_all : half_at all n e ≡ Some half = subst (λ (l : List Entry). half_at l n e ≡ Some half) whole (half_at-longer log more n e half at_e) in
        let same_link : half.link ≡ far.link = (cc) ∙ sym over in
        let sides : other_side half.writes ≡ other_side far.writes = (cc) ∙ ends in
        let writes : half.writes ≡ far.writes = sym (other_side-twice half.writes) ∙ (ap other_side sides ∙ other_side-twice far.writes) in
        (halves.same_end n n e conn half far at_all at same_link writes).1

    -- what was held, and brings such a copy, was held at this connection
    held_here : (y : Envelope) (c e : ℕ) (bytes : List ℕ) (copy : ℕ × ℕ) → Known configs log all y → y.queue ≡ queue.Held n e → y.item ≡ item.Held c bytes copy → test copy ≡ true
        → y.queue ≡ queue.Held n conn
    held_here y c e bytes copy known stood is passes =
        let told : IsHeld configs log n e c bytes copy = subst (Tells configs log (item.Held c bytes copy)) stood (subst (λ j. Tells configs log j y.queue) is known.3) in
        let s = other_side told.half.writes in
        let went : WentOver all copy told.half.link s = subst (λ (l : List Entry). WentOver l copy told.half.link s) whole (WentOver-longer log more copy told.half.link s told.over) in
        let same = one_reader e told.half told.at (by_link copy passes told.half.link s went.frame (put_over all copy told.half.link s went)) in
        stood ∙ ap (queue.Held n) same

    -- from what is held, where the entry puts nothing there of what came when nothing was held
    pub into_channel : (c : ℕ) → ((i : Item) → Has puts (queue.Channel n c, i) → line log (queue.Held n conn) ≡ [] → ⊥) → Others (queue.Channel n c) (queue.Held n conn)
    into_channel c busy y i known is_put h away = elim h [
      | inl received ↦
          subst Fails (sym received.put) (
            one_fails received.copy (λ passes.
                let same = one_reader received.conn received.half received.came.at (over_link y n received.conn received.half c received.bytes received.copy known received.came passes) in
                busy i is_put (subst (λ e. line log (queue.Held n e) ≡ []) same received.came.none_held)),
            tt,
          )
      | inr retried ↦
          subst Fails (sym retried.put) (
            one_fails retried.copy (λ passes.
                elsewhere (queue.Held n conn) y away (held_here y c retried.conn retried.bytes retried.copy known retried.stood retried.is passes)),
            tt,
          )
    ]

    -- at once from the link, where nothing is held
    pub into_channel_at_once : (c : ℕ) → line log (queue.Held n conn) ≡ [] → Others (queue.Channel n c) (queue.Link link side)
    into_channel_at_once c none y i known is_put h away = elim h [
      | inl received ↦
          subst Fails (sym received.put) (
            one_fails received.copy (λ passes.
                elsewhere (queue.Link link side) y away
                (received.came.stood ∙ over_link y n received.conn received.half c received.bytes received.copy known received.came passes)),
            tt,
          )
      | inr retried ↦
          subst Fails (sym retried.put) (
            one_fails retried.copy (λ passes.
                none_stands log (queue.Held n conn) y none known.4 (held_here y c retried.conn retried.bytes retried.copy known retried.stood retried.is passes)),
            tt,
          )
    ]

  -- what is written into a link is of its node, with the priority of the queue where it stood
  written_by : (y : Envelope) (i : Item) → Known configs log all y → (h : IsWritten configs log y link side i)
      → ((copy : ℕ × ℕ) → test copy ≡ true → Node h.node ≡ sender → h.priority ≡ priority → ⊥) → Fails i
  written_by y i known h clash =
      let fit : fits (queue.Link link side) y.item ≡ true = relayed_fits h.priority h.node h.conn link side y.item (subst (λ q. fits q y.item ≡ true) h.stood known.0) in
      subst Fails (sym h.put) (go y.item refl fit)
    where
      go : (j : Item) → y.item ≡ j → fits (queue.Link link side) j ≡ true → Fails j
      go (item.Frame None frame) is fit = tt
      go (item.Frame (Some copy) frame) is fit = (
        one_fails copy (λ passes.
            let marked : Marks all (item.Frame (Some copy) frame) (relay_queue h.priority h.node h.conn) =
            subst (λ q. Marks all (item.Frame (Some copy) frame) q) h.stood (subst (λ j. Marks all j y.queue) is known.1)
            in
            let parts = by_parts all sender (Node h.node) channel priority h.priority copy (relay_marked all h.priority h.node h.conn copy frame marked) (by_sender copy passes) in
            clash copy passes parts.0 parts.1),
        tt,
      )
      go _ is fit = absurd (cc)

  -- into the link, from the relay of the connection by which the node writes there: no other half writes there
  pub into_link : HalvesMeet configs all → (n : ℕ) (begins : Writes configs all (Node n) link side) → Others (queue.Link link side) (relay_queue priority n begins.0)
  into_link halves n begins y i known is_put h away =
      let at : half_at all h.node h.conn ≡ Some h.half =
      subst (λ (l : List Entry). half_at l h.node h.conn ≡ Some h.half) whole (half_at-longer log more h.node h.conn h.half h.at)
      in
      let same = halves.same_end h.node n h.conn begins.0 h.half begins.1 at begins.2 (h.over ∙ sym begins.3) (h.writes ∙ sym begins.4) in
      let relays : relay_queue h.priority h.node h.conn ≡ relay_queue h.priority n begins.0 =
      ap (λ m. relay_queue h.priority m h.conn) same.0 ∙ ap (λ c. relay_queue h.priority n c) same.1
      in
      written_by y i known h (λ copy passes by with_priority. elsewhere (relay_queue priority n begins.0) y away (h.stood ∙ (relays ∙ ap (λ b. relay_queue b n begins.0) with_priority)))

  -- a raw peer's writes are none of a node's
  pub own_link : (n : ℕ) → sender ≡ Node n → Own (queue.Link link side)
  own_link n is_node i h =
      subst Fails (sym h.put) (
        one_fails (length log, 0) (λ passes.
            let parts = sending_parts all sender channel priority (length log, 0) h.sending (here ∙ h.sends) (by_sender (length log, 0) passes) in
            let clash : Raw link ≡ Node n = sym h.by ∙ (parts.0 ∙ is_node) in
            absurd (cc)),
        tt,
      )

  -- and a node's none of a raw peer's
  pub raw_link : (e : ℕ) → sender ≡ Raw e → Items (queue.Link link side)
  raw_link e is_raw y i known h = written_by y i known h (λ copy passes by with_priority. let clash : Node h.node ≡ Raw e = by ∙ is_raw in absurd (cc))

  -- into the relay, from the mailbox
  pub into_relay : (n conn : ℕ) → Others (relay_queue priority n conn) (queue.Router n)
  into_relay n conn y i known is_put h away = absurd (elsewhere (queue.Router n) y away (spread_relay configs log y priority n conn i h).stood)

  pub own_relay : (n conn : ℕ) → Own (relay_queue priority n conn)
  own_relay n conn i h = absurd (clash priority h)
    where
      clash : (p : Bool) → OfAct configs log a r (relay_queue p n conn) i → ⊥
      clash true k = k
      clash false k = k
