-- The one log that is lawful for a script.
use Rattle.std.specs.Prelude.{◌≡◌, ℕ, List, length, take, Some, slice_get}
use Rattle.p2p_log.specs.declared.config.Config.{Config}
use Rattle.p2p_log.specs.declared.event.Event.{Event}
use Rattle.p2p_log.specs.declared.entry.Entry.{Entry}
use Rattle.p2p_log_rules.specs.Effect.{effect}

-- a log has one entry for each event, and each is the effect of its event after the entries before it
pub record IsLawful (configs : List Config) (script : List Event) (log : List Entry) : Type 0 where
  pub long : length log ≡ length script
  pub each : (n : ℕ) (e : Entry) (ev : Event) → slice_get log n ≡ Some e → slice_get script n ≡ Some ev → e ≡ effect configs (take n log) ev
