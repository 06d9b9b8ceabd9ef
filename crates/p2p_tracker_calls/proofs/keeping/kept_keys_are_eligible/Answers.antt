use Rattle.p2p_tracker_calls.proofs.Eligible.{all_connect_by-later, is_eligible-is_kept, not_stale-is_kept}
use Rattle.p2p_tracker_calls.proofs.keeping.kept_keys_are_eligible.Goals as goal

pub returns-clause-eligible : goal.returns-clause-eligible
returns-clause-eligible g c = is_eligible-is_kept g.P.Ord.cmp

pub returns-clause-not_stale : goal.returns-clause-not_stale
returns-clause-not_stale g c = not_stale-is_kept g.P.Ord.cmp

pub returns-clause-past : goal.returns-clause-past
returns-clause-past g c = all_connect_by-later
