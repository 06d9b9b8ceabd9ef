use Rattle.std.proofs.Common.{◌≡◌, sym}
use Rattle.p2p_threads.specs.Takes.{taken_in, left_after}
use Rattle.p2p_threads.proofs.Takes.{kept_is_taken, begins_each}
use Rattle.p2p_threads.proofs.taking.taken_in_order.Goals as goal

pub returns-clause-left : goal.returns-clause-left
returns-clause-left g c = λ q h never replays. kept_is_taken g.T.UnreliablePolicy.keep_of q h never replays

pub returns-clause-taken : goal.returns-clause-taken
returns-clause-taken g c = λ q h never replays. ((left_after g.T.UnreliablePolicy.keep_of q h).items, sym (kept_is_taken g.T.UnreliablePolicy.keep_of q h never replays))

pub returns-clause-each : goal.returns-clause-each
returns-clause-each g c = λ q h is_of never replays. begins_each is_of (taken_in h) (left_after g.T.UnreliablePolicy.keep_of q h).items _ (kept_is_taken g.T.UnreliablePolicy.keep_of q h never replays)
