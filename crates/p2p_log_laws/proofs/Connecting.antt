-- What a tracker is about to be told of a connection that begins: its key is held, and it heard of no connection since.
use Rattle.std.proofs.Common.{◌≡◌, ℕ, true, false, List, ◌∷◌}
use Rattle.p2p_base.specs.declared.key.Key.{Key}
use Rattle.p2p_tracker_calls.specs.Grants as calls
use Rattle.p2p_tracker_calls.specs.Lives.{is_connected}
use Rattle.p2p_log.specs.declared.config.Config.{Config}
use Rattle.p2p_log.specs.declared.event.Event.{Event}
use Rattle.p2p_log.specs.declared.entry.Entry.{Entry}
use Rattle.p2p_log.specs.declared.item.Envelope.{Envelope}
use Rattle.p2p_log.specs.declared.item.Item.TheVariants as item
use Rattle.p2p_log.specs.declared.queue.Queue.TheVariants as queue
use Rattle.p2p_log.specs.Lines.{line}
use Rattle.p2p_log_rules.specs.Lawful.{IsLawful}
use Rattle.p2p_log_rules.specs.Tracking.{key_cmp, rules_at, calls_of}
use Rattle.p2p_log_rules.specs.Facts.{is_stopped}
use Rattle.p2p_log_laws.proofs.Reserving.{word_reserved}

-- a connect that a tracker is about to take is of a key that is held, and for which no connect was accepted since its grant
pub connect_is_reserved : (configs : List Config) (script : List Event) (log : List Entry) → IsLawful configs script log → (n conn : ℕ) (key : Key) (x : Envelope) (rest : List Envelope)
    → is_stopped log n ≡ false → line log (queue.Tracker n) ≡ x ∷ rest → x.item ≡ item.Connect conn key
    → (calls.is_held key_cmp (calls_of configs log n) key ≡ true) × (is_connected key_cmp (rules_at configs n) (calls_of configs log n) key ≡ false)
connect_is_reserved configs script log lawful n conn key x rest lasts first is = word_reserved configs n script log lawful lasts conn key x rest first is
