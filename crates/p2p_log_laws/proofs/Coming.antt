-- From where a copy came that is read.
use Rattle.std.proofs.Common.{◌≡◌, ℕ, Bool, true, false, List, [], ◌∷◌, Some, inl, inr, refl, ap, sym, subst, ◌∙◌}
use Rattle.std.proofs.lemmas.Option.{same_Some}
use Rattle.p2p_base.specs.declared.key.Key.{Key}
use Rattle.p2p_log.specs.declared.config.Config.{Config}
use Rattle.p2p_log.specs.declared.queue.Queue.{Queue}
use Rattle.p2p_log.specs.declared.queue.Queue.TheVariants as queue
use Rattle.p2p_log.specs.declared.queue.Side.{Side}
use Rattle.p2p_log.specs.declared.item.Item.{Item}
use Rattle.p2p_log.specs.declared.item.Item.TheVariants as item
use Rattle.p2p_log.specs.declared.item.Envelope.{Envelope}
use Rattle.p2p_log.specs.declared.entry.Entry.{Entry}
use Rattle.p2p_log.specs.declared.event.Act.{Act}
use Rattle.p2p_log.specs.declared.event.Act.TheVariants as act
use Rattle.p2p_log_rules.specs.declared.row.Half.{Half}
use Rattle.p2p_log.specs.Copies.{copies_of}
use Rattle.p2p_log_rules.specs.Effect.{other_side}
use Rattle.p2p_log_rules.specs.Connections.{half_at}
use Rattle.p2p_log_rules.specs.Facts.{key_at}
use Rattle.p2p_log_rules.specs.Reading.{reading_of}
use Rattle.p2p_log.specs.Sending.{Sender}
use Rattle.p2p_log.specs.Sending.Sender.{Node, Raw}
use Rattle.p2p_log_laws.specs.Delivered.{IsCopyOf}
use Rattle.p2p_log_laws.specs.Order.{WentOver, Writes, ComesTo}
use Rattle.p2p_log_laws.proofs.Fitting.{fits, StandsFit}
use Rattle.p2p_log_laws.proofs.Puts.{IsPut}
use Rattle.p2p_log_laws.proofs.Telling.{IsArrived, Tells, StandTells}

-- whether a queue is one from which acts read
abbrev pub can_read : Queue → Bool
can_read (queue.Link e s) = true
can_read (queue.Channel n c) = true
can_read _ = false

pub reading_can : (configs : List Config) (before : List Entry) (a : Act) (q : Queue) → reading_of configs before a ≡ Some q → can_read q ≡ true
reading_can configs before (act.Recv c n) q h = ap can_read (sym (same_Some (queue.Channel n c) q h))
reading_can configs before _ q h = absurd (cc)

-- the copy was sent by this sender, and went over a link to where the queue is read
pub record HasCome (configs : List Config) (log : List Entry) (copy : ℕ × ℕ) (q : Queue) : Type 0 where
  pub sender : Sender
  pub channel : ℕ
  pub bytes : List ℕ
  pub key : Key
  pub sent : IsCopyOf log copy sender channel bytes key
  pub link : ℕ
  pub side : Side
  pub over : WentOver log copy link side
  pub begins : Writes configs log sender link side
  pub ends : ComesTo configs log q link side

module _ (configs : List Config) (log : List Entry) (copy : ℕ × ℕ) where
  -- a message that arrived at a node
  message_came : (q : Queue) (bytes : List ℕ) (other : ℕ × ℕ) (from : Key) (n c : ℕ) → other ≡ copy → IsArrived configs log bytes other from n c
      → ((link : ℕ) (side : Side) (conn : ℕ) (far : Half) → half_at log n conn ≡ Some far → far.link ≡ link → side ≡ other_side far.writes → ComesTo configs log q link side)
      → HasCome configs log copy q
  message_came q bytes other from n c same a to =
      let here : IsArrived configs log bytes copy from n c = subst (λ o. IsArrived configs log bytes o from n c) same a in
      record {
        sender = here.sender;
        channel = c;
        bytes = bytes;
        key = key_at configs n;
        sent = here.sent;
        link = here.link;
        side = here.side;
        over = here.over;
        begins = here.begins;
        ends = to here.link here.side here.conn here.far here.far_at here.far_over here.ends;
      }

  -- a frame in its link
  frame_came : (x : Envelope) (link : ℕ) (side : Side) (frame : List ℕ) → IsPut log x → x.queue ≡ queue.Link link side → x.item ≡ item.Frame (Some copy) frame
      → Tells configs log (item.Frame (Some copy) frame) (queue.Link link side) → HasCome configs log copy (queue.Link link side)
  frame_came x link side frame put stood is told =
      let over : WentOver log copy link side = record {
        n = x.entry;
        entry = put.entry;
        at = put.at;
        place = x.place;
        frame = frame;
        put = put.put ∙ (ap (λ (q : Queue). Some (q, x.item)) stood ∙ ap (λ (i : Item). Some (queue.Link link side, i)) is);
      } in
      elim told [
        | inl of ↦
            let a = of.5 in
            record { sender = Node of.0; channel = a.channel; bytes = a.bytes; key = of.2.peer; sent = a.sent; link = link; side = side; over = over; begins = (of.1, of.2, a.at, of.3, of.4); ends = (refl, refl) }
        | inr raw ↦
            record { sender = Raw link; channel = raw.channel; bytes = raw.bytes; key = key_at configs raw.node; sent = raw.sent; link = link; side = side; over = over; begins = refl; ends = (refl, refl) }
      ]

  pub has_come : (x : Envelope) → IsPut log x → StandsFit x → StandTells configs log x → copies_of x.item ≡ copy ∷ [] → can_read x.queue ≡ true → HasCome configs log copy x.queue
  has_come x put fit told carried reads = go x.queue x.item refl refl fit told carried reads
    where
      go : (q : Queue) (i : Item) → x.queue ≡ q → x.item ≡ i → fits q i ≡ true → Tells configs log i q → copies_of i ≡ copy ∷ [] → can_read q ≡ true → HasCome configs log copy q
      go (queue.Channel n c) (item.Message bytes other from) stood is f t k r = message_came (queue.Channel n c) bytes other from n c (cc) t (λ link side conn far at over e. (conn, far, at, over, e))
      go (queue.Link link side) (item.Frame (Some other) frame) stood is f t k r =
          let same : other ≡ copy = cc in
          frame_came x link side frame put stood (is ∙ ap (λ o. item.Frame (Some o) frame) same) (subst (λ o. Tells configs log (item.Frame (Some o) frame) (queue.Link link side)) same t)
      go _ _ stood is f t k r = absurd (cc)
