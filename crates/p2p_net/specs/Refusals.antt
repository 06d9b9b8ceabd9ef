-- What each error of a world tells, and what it leaves.
use Rattle.std.specs.Prelude.{◌≡◌, true, false, List, length, Some, None}
use Rattle.p2p_log.specs.declared.config.Config.{Config}
use Rattle.p2p_log.specs.declared.event.Event.{Event}
use Rattle.p2p_log_rules.specs.Facts.{events_of}
use Rattle.p2p_log_rules.specs.Valid.{config_fault, event_fault, is_valid_event}
use Rattle.p2p_net.specs.declared.error.RunError.{RunError}
use Rattle.p2p_net.specs.declared.error.RunError.TheVariants as error
use Rattle.p2p_net.specs.World.{WorldView}

-- a world does not start
abbrev pub StartRefused : List Config → RunError → Type 0
StartRefused configs (error.Config i) = config_fault configs ≡ Some i
StartRefused configs (error.Event i) = ⊥
StartRefused configs error.Memory = Unit {0}

-- want of memory leaves the configurations and the log, and a world that has failed
pub record HasFailed (old new : WorldView) : Type 0 where
  pub configs : new.configs ≡ old.configs
  pub log : new.log ≡ old.log
  pub failed : new.failed ≡ true

-- an event is not applied to the old world, which leaves the new one
abbrev pub ApplyRefused : WorldView → Event → RunError → WorldView → Type 0
ApplyRefused old event (error.Config i) new = ⊥
ApplyRefused old event (error.Event i) new =
    (i ≡ length old.log × is_valid_event old.configs (events_of old.log) event ≡ false) × new ≡ old
ApplyRefused old event error.Memory new = HasFailed old new

-- a script is not run
abbrev pub RunRefused : List Config → List Event → RunError → Type 0
RunRefused configs script (error.Config i) = config_fault configs ≡ Some i
RunRefused configs script (error.Event i) = config_fault configs ≡ None × event_fault configs script ≡ Some i
RunRefused configs script error.Memory = Unit {0}
