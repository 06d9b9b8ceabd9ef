use Rattle.std.proofs.Common.{rules}
use Rattle.std.proofs.lemmas.List.Sorted.{answers_always}
use Rattle.p2p_flow_senders.proofs.registered.Channels.collect.Goals as goal

pub returns-clause-ordered : goal.returns-clause-ordered
returns-clause-ordered g c = c.sort_unstable_by_key.ensures.sorted (λ q. q.0) (answers_always _ _ _ (λ a r q k. search rules))
