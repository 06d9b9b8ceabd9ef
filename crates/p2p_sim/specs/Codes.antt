-- The exit status of each status.
use Rattle.std.specs.Prelude.{ℕ}
use Rattle.p2p_sim.specs.declared.status.Status.{Status}
use Rattle.p2p_sim.specs.declared.status.Status.TheVariants as status

abbrev pub code_of : Status → ℕ
code_of status.Ok = 0
code_of status.Usage = 2
code_of status.ReadFault = 3
code_of status.TooLong = 4
code_of status.NotJson = 5
code_of status.NotScript = 6
code_of status.Config = 7
code_of status.Event = 8
code_of status.WriteFault = 9
code_of status.Memory = 10
