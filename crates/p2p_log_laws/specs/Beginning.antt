-- What a tracker knows of a key when it hears that a connection with it begins.
use Rattle.std.specs.Prelude.{◌≡◌, ℕ, true, false, List, ◌∷◌}
use Rattle.p2p_base.specs.declared.key.Key.{Key}
use Rattle.p2p_tracker_calls.specs.Grants.{is_held}
use Rattle.p2p_tracker_calls.specs.Lives.{is_connected}
use Rattle.p2p_log.specs.declared.config.Config.{Config}
use Rattle.p2p_log.specs.declared.queue.Queue.TheVariants as queue
use Rattle.p2p_log.specs.declared.item.Item.TheVariants as item
use Rattle.p2p_log.specs.declared.item.Envelope.{Envelope}
use Rattle.p2p_log.specs.declared.entry.Entry.{Entry}
use Rattle.p2p_log.specs.Lines.{line}
use Rattle.p2p_log_rules.specs.Facts.{is_stopped}
use Rattle.p2p_log_rules.specs.Tracking.{key_cmp, rules_at, calls_of}

-- where the next thing that the tracker of a node that has not stopped is to hear is that a connection begins, its key is reserved, and no
-- connection with it was accepted since it was
abbrev pub EachBeginsReserved : List Config → List Entry → Type 0
EachBeginsReserved configs log =
    (n conn : ℕ) (key : Key) (next : Envelope) (later : List Envelope)
    → is_stopped log n ≡ false → line log (queue.Tracker n) ≡ next ∷ later → next.item ≡ item.Connect conn key
    → (is_held key_cmp (calls_of configs log n) key ≡ true) × (is_connected key_cmp (rules_at configs n) (calls_of configs log n) key ≡ false)
