use Rattle.p2p_tracker_calls.proofs.Alternating.{is_held-turns_of, alternate-turns_of}
use Rattle.p2p_tracker_calls.proofs.turns.grants_and_releases_alternate.Goals as goal

pub returns-clause-alternate : goal.returns-clause-alternate
returns-clause-alternate g c = alternate-turns_of g.met.P.Ord.total

pub returns-clause-held : goal.returns-clause-held
returns-clause-held g c = is_held-turns_of g.P.Ord.cmp
