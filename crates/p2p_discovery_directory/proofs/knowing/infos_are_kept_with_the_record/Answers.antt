use Rattle.p2p_discovery_directory.proofs.Keeping.{newest-is-kept, only-told, kept-with, forgotten-with, own-is-kept}
use Rattle.p2p_discovery_directory.proofs.knowing.infos_are_kept_with_the_record.Goals as goal

pub returns-clause-newest : goal.returns-clause-newest
returns-clause-newest g c = newest-is-kept g.P.Ord.cmp

pub returns-clause-told : goal.returns-clause-told
returns-clause-told g c = only-told g.P.Ord.cmp

pub returns-clause-kept : goal.returns-clause-kept
returns-clause-kept g c = kept-with g.P.Ord.cmp

pub returns-clause-forgotten : goal.returns-clause-forgotten
returns-clause-forgotten g c = forgotten-with g.P.Ord.cmp

pub returns-clause-own : goal.returns-clause-own
returns-clause-own g c = own-is-kept g.P.Ord.cmp
