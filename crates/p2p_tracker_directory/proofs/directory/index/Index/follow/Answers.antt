use Rattle.std.proofs.Common.{refl, sym, ◌∙◌}
use Rattle.p2p_tracker_directory.proofs.Indexing.{followed, left-out}
use Rattle.p2p_tracker_directory.proofs.directory.index.Index.follow.Goals as goal

pub returns-then-not-contains_key-clause-index : goal.returns-then-not-contains_key-clause-index
returns-then-not-contains_key-clause-index g c =
    left-out g.met.C.Ord.total c.args.peer.now c.args.self.now (record c.args.self.now { sources = c.leave.new.self; queue = c.leave-then-not-contains_key.new.self }) refl refl
    c.args.records.now.entries c.args.before.0 c.args.before.1 (sym c.contains_key.ensures ∙ c.if-not-contains_key.true) c.leave.ensures c.leave-then-not-contains_key.ensures

pub returns-clause-index : goal.returns-clause-index
returns-clause-index g c =
    followed g.met.C.Ord.total c.args.peer.now c.args.self.now (record c.args.self.now { sources = c.shift.new.self; queue = c.shift-2.new.self }) refl refl
    c.args.records.now.entries c.args.before.0 c.args.before.1 (sym c.contains_key.ensures ∙ c.if-not-contains_key.false)
    c.spot-after.result.0 c.spot-after.ensures.source c.spot-after.result.1 c.spot-after.ensures.due c.shift.ensures c.shift-2.ensures
