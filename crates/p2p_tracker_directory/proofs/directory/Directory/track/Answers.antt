use Rattle.std.proofs.lemmas.Result.{IfOk-weaker}
use Rattle.p2p_tracker_directory.proofs.Exact.{both-told, killed-exact}
use Rattle.p2p_tracker_directory.proofs.directory.Directory.track.Goals as goal

pub returns-clause-accepted : goal.returns-clause-accepted
returns-clause-accepted g c = IfOk-weaker c.take_in.result _ _ (λ o t. t.accepted) c.take_in.ensures.taken

pub returns-clause-killed : goal.returns-clause-killed
returns-clause-killed g c = IfOk-weaker c.take_in.result _ _ (λ o t. t.killed) c.take_in.ensures.taken

pub returns-clause-ordered : goal.returns-clause-ordered
returns-clause-ordered g c = IfOk-weaker c.take_in.result _ _ (λ o t. t.ordered) c.take_in.ensures.taken

pub returns-clause-exactly : goal.returns-clause-exactly
returns-clause-exactly g c =
    both-told c.take_in.result _ _ _
    (λ k ordered each. λ calls one s. killed-exact g.met.C.Ord.total one s c.args.index c.args.peers.primary c.args.peers.secondary k ordered (each calls s))
    (returns-clause-ordered g c) (returns-clause-killed g c)

pub returns-clause-stands : goal.returns-clause-stands
returns-clause-stands g c = IfOk-weaker c.take_in.result _ _ (λ o t. t.stands) c.take_in.ensures.taken
