-- Who dialed the links, by the log.
use Rattle.std.specs.Prelude.{ℕ, List, Option}
use Rattle.p2p_log.specs.declared.entry.Entry.{Entry}
use Rattle.p2p_log_rules.specs.Halves.{dialer_in}
use Rattle.p2p_log_rules.specs.Told.{told}

-- the node that dialed the link of this name
abbrev pub dialer_of : List Entry → ℕ → Option ℕ
dialer_of log link = dialer_in (told log) link
