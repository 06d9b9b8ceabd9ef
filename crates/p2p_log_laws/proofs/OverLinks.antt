-- What came to a node by an older connection is delivered before what came there by a newer one with the same peer.
use Rattle.std.proofs.Common.{◌≡◌, ℕ, ◌<◌, ◌≤◌, Bool, true, false, List, [], ◌∷◌, take, Option, Some, None, inl, inr, ap, sym, subst, ◌∙◌, arith}
use Rattle.std.specs.Prelude.{slice_get}
use Rattle.std.proofs.lemmas.Bool.{cases_lt, false≢true}
use Rattle.std.proofs.lemmas.Option.{same_Some}
use Rattle.p2p_base.specs.declared.key.Key.{Key}
use Rattle.p2p_base.specs.declared.outcome.Feedback.TheVariants as feedback
use Rattle.p2p_base.specs.declared.outcome.Unreliable.TheVariants.{Outcome}
use Rattle.p2p_log.specs.declared.config.Config.{Config}
use Rattle.p2p_log.specs.declared.queue.Queue.{Queue}
use Rattle.p2p_log.specs.declared.queue.Queue.TheVariants as queue
use Rattle.p2p_log.specs.declared.item.Item.{Item}
use Rattle.p2p_log.specs.declared.item.Item.TheVariants as item
use Rattle.p2p_log.specs.declared.item.Envelope.{Envelope}
use Rattle.p2p_log.specs.declared.entry.Entry.{Entry}
use Rattle.p2p_log.specs.declared.entry.Reply.{Reply}
use Rattle.p2p_log.specs.declared.entry.Reply.TheVariants as reply
use Rattle.p2p_log.specs.declared.event.Act.{Act}
use Rattle.p2p_log.specs.declared.event.Act.TheVariants as act
use Rattle.p2p_log.specs.declared.event.Event.{Event}
use Rattle.p2p_log.specs.Copies.{copies_of}
use Rattle.p2p_log.specs.Lines.{name_of, line}
use Rattle.p2p_log.specs.Sending.{Sender, Sending, sending_of, sending_in, sending_at}
use Rattle.p2p_log.specs.Sending.Sender.{Node}
use Rattle.p2p_log_rules.specs.declared.row.Half.{Half}
use Rattle.p2p_log_rules.specs.Connections.{is_ended}
use Rattle.p2p_log_rules.specs.Effect.{other_side}
use Rattle.p2p_log_rules.specs.Facts.{key_at}
use Rattle.p2p_log_rules.specs.Lawful.{IsLawful}
use Rattle.p2p_log_rules.specs.Reading.{reading_of}
use Rattle.p2p_log_rules.proofs.Connections.{half_parts}
use Rattle.p2p_log_rules.proofs.Moves.{one_taken, first_has}
use Rattle.p2p_log_laws.specs.Delivered.{IsRead}
use Rattle.p2p_log_laws.specs.Leaving.{IsTakenFrom}
use Rattle.p2p_log_laws.specs.Order.{is_before, IsDelivered, Writes, CameBy, AreDeliveredInOrderOfConnections}
use Rattle.p2p_log_laws.proofs.Drops.{each_read}
use Rattle.p2p_log_laws.proofs.EndOrder.{IsOpenAt, put_open}
use Rattle.p2p_log_laws.proofs.EndOver.{first_put, first_taken}
use Rattle.p2p_log_laws.proofs.EndShown.{ended_on}
use Rattle.p2p_log_laws.proofs.Fitting.{fits, StandsFit}
use Rattle.p2p_log_laws.proofs.Halves.{halves_meet}
use Rattle.p2p_log_laws.proofs.Leaving.{leave_in_order}
use Rattle.p2p_log_laws.proofs.Ledger.{Told-each}
use Rattle.p2p_log_laws.proofs.Meeting.{other_side-twice}
use Rattle.p2p_log_laws.proofs.OneConnection.{connections_are_one}
use Rattle.p2p_log_laws.proofs.Ordering.{each_went_over, one_way}
use Rattle.p2p_log_laws.proofs.Sublists.{before_later}

-- ---- who sends, and who reads

node_sends : (log : List Entry) (n : ℕ) (s : Sending) → sending_at log n ≡ Some s → (m : ℕ) × (s.by ≡ Node m)
unfolding sending_at
node_sends log n s h = of_entry (slice_get log n) h
  where
    of_act : (a : Act) (r : Reply) → sending_of a r ≡ Some s → (m : ℕ) × (s.by ≡ Node m)
    of_act (act.Send bytes c m priority to) (reply.Sent keys) k = (m, ap (λ (t : Sending). t.by) (sym (same_Some _ s k)))
    of_act (act.SendChecked bytes check priority) (reply.Outcome (Outcome feedback.Ok) m c keys) k = (m, ap (λ (t : Sending). t.by) (sym (same_Some _ s k)))
    of_act _ _ k = absurd (cc)

    of_entry : (o : Option Entry) → sending_in o ≡ Some s → (m : ℕ) × (s.by ≡ Node m)
    of_entry None k = absurd (cc)
    of_entry (Some e) k = of_act e.event.act e.reply k

channel_read : (configs : List Config) (before : List Entry) (a : Act) (q : Queue) → reading_of configs before a ≡ Some q → (n : ℕ) × (c : ℕ) × (q ≡ queue.Channel n c)
channel_read configs before (act.Recv c n) q h = (n, c, sym (same_Some (queue.Channel n c) q h))
channel_read configs before _ q h = absurd (cc)

-- the message of a copy, where its queue takes messages
message_of : (n c : ℕ) (i : Item) (copy : ℕ × ℕ) → fits (queue.Channel n c) i ≡ true → copies_of i ≡ copy ∷ [] → (bytes : List ℕ) × (from : Key) × (i ≡ item.Message bytes copy from)
message_of n c (item.Message bytes other from) copy fit carried = let same : other ≡ copy = cc in (bytes, from, ap (λ o. item.Message bytes o from) same)
message_of n c _ copy fit carried = absurd (cc)

module _ (configs : List Config) (script : List Event) (log : List Entry) (lawful : IsLawful configs script log) where
  -- what is read was sent by a node, and is read from a channel's queue
  module _ (sender : Sender) (channel : ℕ) (priority : Bool) (q : Queue) (copy : ℕ × ℕ) (k : ℕ) (d : IsDelivered configs log copy sender channel priority q k) where
    by_node : (m : ℕ) × (sender ≡ Node m)
    by_node = node_sends log copy.0 _ d.sends

    at_node : (n : ℕ) × (c : ℕ) × (q ≡ queue.Channel n c)
    at_node = channel_read configs (take k log) d.read.event.act q d.reads

    module _ (m n c conn : ℕ) (from : sender ≡ Node m) (at : q ≡ queue.Channel n c) (by : CameBy configs log copy (queue.Channel n c) conn) where
      -- the connection by which it came is with its sender
      its_peer : by.half.peer ≡ key_at configs m
      its_peer =
          let w = each_went_over configs script log lawful sender channel priority q copy k d in
          let near : Writes configs log (Node m) w.0 w.1 = subst (λ s. Writes configs log s w.0 w.1) from w.3 in
          let way = one_way configs script log lawful copy w.0 w.1 w.2 by.half.link (other_side by.half.writes) by.over in
          ((halves_meet configs script log lawful).opposite n m conn near.0 by.half near.1 by.at near.2 (sym way.0 ∙ sym near.3)
          (sym (other_side-twice by.half.writes) ∙ ap other_side (sym way.1 ∙ sym near.4))).0

      -- it was read as the oldest, and was put there while the connection was open
      record IsReadAs : Type 0 where
        message : Envelope
        later : List Envelope
        first : line (take k log) (queue.Channel n c) ≡ message ∷ later
        taken : IsTakenFrom log (queue.Channel n c) message k
        open_then : IsOpenAt log n conn message.entry

      read_as : IsReadAs
      read_as =
          let r : IsRead configs (take k log) d.read copy = each_read configs script log lawful k d.read d.place copy d.read_at d.ended in
          let queues : r.queue ≡ queue.Channel n c = same_Some r.queue q (sym r.reads ∙ d.reads) ∙ at in
          let x : Envelope = r.oldest in
          let first : line (take k log) (queue.Channel n c) ≡ x ∷ r.later = subst (λ p. line (take k log) p ≡ x ∷ r.later) queues r.stood in
          let fit : fits (queue.Channel n c) x.item ≡ true =
          subst (λ p. fits p x.item ≡ true) (one_taken (take k log) (queue.Channel n c) x r.later first)
          (first_has StandsFit (take k log) (queue.Channel n c) x r.later (Told-each configs script log lawful k).standing.fitting first)
          in
          let i = message_of n c x.item copy fit r.carried in
          let put = first_put log k (queue.Channel n c) x r.later first in
          record {
            message = x;
            later = r.later;
            first = first;
            taken = first_taken log k (queue.Channel n c) x r.later d.read d.read_at first r.takes;
            open_then =
                put_open configs script log lawful n conn copy by.half by.at by.over x.entry c i.0 i.1 x.place put.entry put.at
                (put.put ∙ ap (λ j. Some (queue.Channel n c, j)) i.2);
          }

  pub delivered_by_older : AreDeliveredInOrderOfConnections configs log
  delivered_by_older sender channel p r q first second older newer i j a b by_older by_newer less =
      let m = by_node sender channel p q first i a in
      let at = at_node sender channel p q first i a in
      let n : ℕ = at.0 in
      let c : ℕ = at.1 in
      let old : CameBy configs log first (queue.Channel n c) older = subst (λ o. CameBy configs log first o older) at.2 by_older in
      let new : CameBy configs log second (queue.Channel n c) newer = subst (λ o. CameBy configs log second o newer) at.2 by_newer in
      let x = read_as sender channel p q first i a m.0 n c older m.1 at.2 old in
      let y = read_as sender channel r q second j b m.0 n c newer m.1 at.2 new in
      let u = half_parts log n older old.half old.at in
      let v = half_parts log n newer new.half new.at in
      let keys : u.connection.key ≡ v.connection.key =
      sym (ap (λ (h : Half). h.peer) u.is)
      ∙ (its_peer sender channel p q first i a m.0 n c older m.1 at.2 old
      ∙ (sym (its_peer sender channel r q second j b m.0 n c newer m.1 at.2 new) ∙ ap (λ (h : Half). h.peer) v.is))
      in
      let over : is_ended (take newer log) n older ≡ true = (connections_are_one configs script log lawful).older n older newer u.connection v.connection u.made v.made keys less in
      let before : x.message.entry < newer = early n x.message.entry x.open_then.lives over in
      let after : newer < y.message.entry = y.open_then.early in
      let order : is_before (name_of x.message) (name_of y.message) ≡ true =
      before_later x.message.entry x.message.place y.message.entry y.message.place (omega (arith, before, after))
      in
      let le : i ≤ j = leave_in_order configs script log lawful (queue.Channel n c) x.message y.message i j x.taken y.taken order in
      elim (cases_lt i j) [
        | inl first_one ↦ first_one
        | inr over_it ↦
            let here : i ≡ j = omega (arith, le, over_it) in
            let lines : x.message ∷ x.later ≡ y.message ∷ y.later = sym x.first ∙ (ap (λ k. line (take k log) (queue.Channel n c)) here ∙ y.first) in
            let same : x.message ≡ y.message = cc in
            let entries : x.message.entry ≡ y.message.entry = ap (λ (z : Envelope). z.entry) same in
            absurd (omega (arith, entries, before, after))
      ]
    where
      early : (n s : ℕ) → is_ended (take s log) n older ≡ false → is_ended (take newer log) n older ≡ true → s < newer
      early n s lives over = elim (cases_lt s newer) [
        | inl first_one ↦ first_one
        | inr over_it ↦ absurd (false≢true (sym lives ∙ ended_on configs script log lawful n older newer s over_it over))
      ]
