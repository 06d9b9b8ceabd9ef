use Rattle.std.proofs.Common.{◌∙◌}
use Rattle.p2p_discovery_directory.proofs.plain.answers.PlainDirectoryDirectoryOf.info.Goals as goal

pub returns-clause-exactly : goal.returns-clause-exactly
returns-clause-exactly g c = λ calls s. c.kept.ensures ∙ s.infos c.args.peer.now
