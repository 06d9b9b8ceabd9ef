-- Whose readers were dropped, after one more entry.
use Rattle.std.proofs.Common.{◌≡◌, ℕ, Bool, true, false, cond, List, [], ◌∷◌, ◌++◌, Option, Some, None, refl, ap, sym, ◌∙◌, arith}
use Rattle.std.specs.Prelude.{◌==◌, ◌&&◌, ◌||◌, length, nat_le, is_some}
use Rattle.std.proofs.lemmas.Bool.Decides.{nat_tests}
use Rattle.p2p_base.specs.Queue.{Queue}
use Rattle.p2p_base.specs.declared.key.Key.{Key}
use Rattle.p2p_flow_connection.specs.Arriving.{mailbox_of, is_open_in}
use Rattle.p2p_log.specs.declared.config.Config.{Config}
use Rattle.p2p_log.specs.declared.queue.Queue.TheVariants as queue
use Rattle.p2p_log.specs.declared.item.Envelope.{Envelope}
use Rattle.p2p_log.specs.declared.entry.Entry.{Entry}
use Rattle.p2p_log.specs.declared.entry.Reply.TheVariants as reply
use Rattle.p2p_log.specs.declared.event.Act.TheVariants as act
use Rattle.p2p_log.specs.Lines.{line}
use Rattle.p2p_log_rules.specs.Closing as closing
use Rattle.p2p_log_rules.specs.Closing.{reader_of, refused_by}
use Rattle.p2p_log_rules.specs.Connections.{is_done}
use Rattle.p2p_log_rules.specs.Facts.{channels, capacity_in}
use Rattle.p2p_log_rules.proofs.Closing.{is_closed-append, is_closed-none}
use Rattle.p2p_net_channels.specs.Channels.{no_channels, places_in, capacity_at, is_closed_in, is_closed, has_reader, refusal, closed_with}
use Rattle.p2p_net_channels.specs.Stands.{ChannelsStand}
use Rattle.p2p_net_channels.specs.declared.channels.Channels.{Channels}
use Rattle.p2p_net_channels.proofs.Mailboxes.{closed-more, refusal_by}

-- no channels, and no log
pub closed_new : (n c : ℕ) → is_closed no_channels c ≡ closing.is_closed [] n c
closed_new n c = sym (is_closed-none n c)

-- an entry that drops none
pub closed_stay : (log : List Entry) (e : Entry) (n : ℕ) (ch : Channels) → ((c : ℕ) → is_closed ch c ≡ closing.is_closed log n c) → ((c : ℕ) → closing.is_closed (log ++ e ∷ []) n c ≡ closing.is_closed log n c) → (c : ℕ) → is_closed ch c ≡ closing.is_closed (log ++ e ∷ []) n c
closed_stay log e n ch stands none c = stands c ∙ sym (none c)

-- one that drops that of a channel that has one
pub closed_more : (log : List Entry) (e : Entry) (n c : ℕ) (ch : Channels) → has_reader ch c ≡ true → ((d : ℕ) → is_closed ch d ≡ closing.is_closed log n d) → e.event.act ≡ act.Close c n → e.reply ≡ reply.Ok
    → (d : ℕ) → is_closed (closed_with c ch) d ≡ closing.is_closed (log ++ e ∷ []) n d
closed_more log e n c ch has stands acts done d =
    by (mailbox_of ch.inbounds c) refl has
    ∙ (either (d == c) (is_closed ch d)
    ∙ (ap (λ b. b || (d == c)) (stands d)
    ∙ (ap (λ b. closing.is_closed log n d || b) (sym here) ∙ sym (is_closed-append log e n d n c acts))))
  where
    by : (o : Option (Queue (Key × List ℕ))) → mailbox_of ch.inbounds c ≡ o → is_open_in o ≡ true → is_closed (closed_with c ch) d ≡ cond (d == c) true (is_closed ch d)
    by None is has_one = cc
    by (Some q) is has_one = closed-more ch.inbounds c d q is

    either : (b closed : Bool) → cond b true closed ≡ (closed || b)
    either true true = refl
    either true false = refl
    either false true = refl
    either false false = refl

    same : (n c d : ℕ) → (((n == n) && (c == d)) && true) ≡ (d == c)
    same n c d = grind (arith, nat_tests)

    here : (((n == n) && (c == d)) && is_done e.reply) ≡ (d == c)
    here = ap (λ r. ((n == n) && (c == d)) && is_done r) done ∙ same n c d

-- whether a channel has a reader, by the log
pub reader_is : (configs : List Config) (log : List Entry) (n c : ℕ) (ch : Channels) → ChannelsStand configs log n ch → has_reader ch c ≡ closing.has_reader configs log n c
reader_is configs log n c ch s =
    by (mailbox_of ch.inbounds c) ∙ (ap (λ o. reader_of o (is_closed ch c)) (s.capacities c) ∙ ap (reader_of (capacity_in (channels configs log n) c)) (s.closed c))
  where
    by : (o : Option (Queue (Key × List ℕ))) → is_open_in o ≡ reader_of (places_in o) (is_closed_in o)
    by None = refl
    by (Some q) = refl

-- why a message does not enter a channel that is registered, by the log
pub refusal_is : (configs : List Config) (log : List Entry) (n c k : ℕ) (ch : Channels) → ChannelsStand configs log n ch → capacity_at ch c ≡ Some k
    → refused_by (closing.is_closed log n c) (nat_le k (length (line log (queue.Channel n c)))) ≡ refusal ch c
refusal_is configs log n c k ch s has =
    ap (λ b. refused_by b (nat_le k (length (line log (queue.Channel n c))))) (sym (s.closed c))
    ∙ (ap (λ (l : List Envelope). refused_by (is_closed ch c) (nat_le k (length l))) (sym (s.waits c)) ∙ refusal_by ch.inbounds c k ch.waiting s.named has)

-- a channel that is registered has a capacity
pub registered_places : (ch : Channels) (c : ℕ) → is_some (mailbox_of ch.inbounds c) ≡ is_some (capacity_at ch c)
registered_places ch c = by (mailbox_of ch.inbounds c)
  where
    by : (o : Option (Queue (Key × List ℕ))) → is_some o ≡ is_some (places_in o)
    by None = refl
    by (Some q) = refl
