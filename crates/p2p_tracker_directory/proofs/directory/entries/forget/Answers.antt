use Rattle.std.proofs.Common.{sym, ◌∙◌}
use Rattle.p2p_tracker_directory.proofs.Written.{lookup-forgotten}
use Rattle.p2p_tracker_directory.proofs.directory.entries.forget.Goals as goal

pub returns-then-is_unneeded : goal.returns-then-is_unneeded
returns-then-is_unneeded g c = λ q.
    lookup-forgotten g.met.C.Ord.total c.args.peer.now q c.args.records.now.entries c.remove.new.self.entries (sym c.is_unneeded.ensures ∙ c.if-is_unneeded.true) (c.remove.ensures.updates.0 q)
