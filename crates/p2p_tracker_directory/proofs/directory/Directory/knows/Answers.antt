use Rattle.std.proofs.Common.{◌∙◌}
use Rattle.p2p_tracker_directory.proofs.Waits.{recorded-known}
use Rattle.p2p_tracker_directory.proofs.directory.Directory.knows.Goals as goal

pub returns-clause-exactly : goal.returns-clause-exactly
returns-clause-exactly g c = λ calls s. c.has_record.ensures ∙ recorded-known s c.args.peer.now
