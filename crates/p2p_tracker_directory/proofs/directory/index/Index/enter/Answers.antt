use Rattle.std.proofs.Common.{refl, sym, ◌∙◌}
use Rattle.p2p_tracker_directory.proofs.Indexing.{entered, stayed, stays-same}
use Rattle.p2p_tracker_directory.proofs.Rules.{ok-holds, err-holds, on-err}
use Rattle.p2p_tracker_directory.proofs.directory.index.Index.enter.Goals as goal

pub returns-in_err-enter-clause-memory : goal.returns-in_err-enter-clause-memory
returns-in_err-enter-clause-memory g c =
    on-err c.from_residual.result _
    (stays-same g.met.C.Ord.total c.args.peer.now c.args.self.now (record c.args.self.now { sources = c.enter.new.self }) refl refl c.in_err-enter.ensures.memory refl)

pub returns-then-is_err-clause-memory : goal.returns-then-is_err-clause-memory
returns-then-is_err-clause-memory g c =
    stayed g.met.C.Ord.total c.args.peer.now c.args.self.now (record c.args.self.now { sources = c.leave.new.self; queue = c.enter-2.new.self }) refl refl
    c.enter.new.self c.in_ok-enter.ensures.entered c.leave.ensures (err-holds c.enter-2.result _ c.enter-2.ensures.memory (sym c.is_err.ensures.value ∙ c.if-is_err.true))

pub returns-clause-entered : goal.returns-clause-entered
returns-clause-entered g c =
    entered g.met.C.Ord.total c.args.peer.now c.args.self.now (record c.args.self.now { sources = c.enter.new.self; queue = c.enter-2.new.self }) refl refl
    c.in_ok-enter.ensures.entered (ok-holds c.enter-2.result _ c.enter-2.ensures.entered (sym c.is_err.ensures.value ∙ c.if-is_err.false))
