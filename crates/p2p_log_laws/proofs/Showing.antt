-- What an entry shows by its ends, and what is known of all that stands in queues.
use Rattle.p2p_log.specs.Sending.{keys_sent}
use Rattle.p2p_log.specs.Copies.{accepted}
use Rattle.std.proofs.Common.{◌≡◌, ℕ, true, List, ◌∷◌, ap, subst}
use Rattle.std.specs.List.{AllByRecursion as Each}
use Rattle.p2p_base.specs.declared.key.Key.{Key}
use Rattle.p2p_log.specs.declared.config.Config.{Config}
use Rattle.p2p_log.specs.declared.queue.Queue.{Queue}
use Rattle.p2p_log.specs.declared.item.Item.{Item}
use Rattle.p2p_log.specs.declared.item.Envelope.{Envelope}
use Rattle.p2p_log.specs.declared.end.End.{End}
use Rattle.p2p_log.specs.declared.end.End.TheVariants as end
use Rattle.p2p_log.specs.declared.end.Outcome.TheVariants as outcome
use Rattle.p2p_log.specs.declared.entry.Entry.{Entry}
use Rattle.p2p_log.specs.Lines.{live, line}
use Rattle.p2p_log_rules.proofs.Moves.{one_taken, first_has}
use Rattle.p2p_log_laws.specs.Causes.{Shows}
use Rattle.p2p_log_laws.specs.Delivered.{IsRead}
use Rattle.p2p_log_laws.proofs.Fitting.{StandsFit, is_item_end}
use Rattle.p2p_log_laws.proofs.Meeting.{HalvesMeet}
use Rattle.p2p_log_laws.proofs.Telling.{Tells, StandTells, IsSend}

-- each item is of its queue's kind and tells the truth, and halves over one link meet
pub record Standing (configs : List Config) (log : List Entry) : Type 0 where
  pub fitting : Each StandsFit (live log)
  pub tells : Each (StandTells configs log) (live log)
  pub halves : HalvesMeet configs log

-- what an entry with this end shows
abbrev pub EndShows : List Config → List Entry → Entry → End → Type 0
EndShows configs before e (end.Item n p) = Unit {0}
EndShows configs before e (end.Copy s p outcome.Delivered) = IsRead configs before e (s, p)
EndShows configs before e (end.Copy s p (outcome.Dropped c)) = Shows configs before e (s, p) c

pub item_shows : (configs : List Config) (before : List Entry) (e : Entry) (d : End) → is_item_end d ≡ true → EndShows configs before e d
item_shows configs before e (end.Item n p) h = tt
item_shows configs before e (end.Copy s p o) h = absurd (cc)

-- what stands in a queue is what it tells
pub first_tells : (configs : List Config) (log : List Entry) (q : Queue) (x : Envelope) (rest : List Envelope) (i : Item)
    → Each (StandTells configs log) (live log) → line log q ≡ x ∷ rest → x.item ≡ i → Tells configs log i q
first_tells configs log q x rest i tell first is =
    let told : Tells configs log x.item x.queue = first_has (StandTells configs log) log q x rest tell first in
    subst (λ p. Tells configs log i p) (one_taken log q x rest first) (subst (λ j. Tells configs log j x.queue) is told)

-- the keys of a send are those that it was accepted for
pub send_accepted : (log : List Entry) (send node channel : ℕ) (bytes : List ℕ) (keys : List Key) → IsSend log send node channel bytes keys → accepted log send ≡ keys
send_accepted log send node channel bytes keys h = ap keys_sent h.sends
