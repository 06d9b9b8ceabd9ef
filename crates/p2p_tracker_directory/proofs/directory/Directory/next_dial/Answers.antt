use Rattle.std.proofs.Common.{◌∙◌}
use Rattle.p2p_tracker_directory.proofs.Waits.{waits-known}
use Rattle.p2p_tracker_directory.proofs.directory.Directory.next_dial.Goals as goal

pub returns-clause-exactly : goal.returns-clause-exactly
returns-clause-exactly g c = λ calls s. c.waits_from.ensures ∙ waits-known s c.args.peer.now
