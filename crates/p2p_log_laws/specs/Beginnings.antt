-- What a lawful log was at an earlier moment.
use Rattle.std.specs.Prelude.{ℕ, List, take}
use Rattle.p2p_log.specs.declared.config.Config.{Config}
use Rattle.p2p_log.specs.declared.event.Event.{Event}
use Rattle.p2p_log.specs.declared.entry.Entry.{Entry}
use Rattle.p2p_log_rules.specs.Lawful.{IsLawful}

-- the first entries of the log are the lawful log of as many first events of each script for which it is lawful, so what holds of
-- each lawful log held of this one at each earlier moment too
abbrev pub EachBeginningIsLawful : List Config → List Entry → Type 0
EachBeginningIsLawful configs log = (script : List Event) → IsLawful configs script log → (n : ℕ) → IsLawful configs (take n script) (take n log)
