use Rattle.std.proofs.Common.{Option, sym, ap, ◌∙◌}
use Rattle.std.specs.Option.{option_copied}
use Rattle.std.specs.Map.{lookup}
use Rattle.std.specs.BTreeMap.{is_at}
use Rattle.p2p_tracker_directory.specs.Recorded.{Recorded, is_eligible_in}
use Rattle.p2p_tracker_directory.specs.Stands.{Kept}
use Rattle.p2p_tracker_directory.proofs.Asked.{eligible-barred, eligible-free}
use Rattle.p2p_tracker_directory.proofs.directory.Directory.eligible.Goals as goal

pub returns-then-is_blocked : goal.returns-then-is_blocked
returns-then-is_blocked g c = λ calls s. eligible-barred g.met.C.Ord.total s c.args.peer.now c.args.now (sym c.is_blocked.ensures ∙ c.if-is_blocked.true)

pub returns-in-Some : goal.returns-in-Some
returns-in-Some g c = λ calls s.
    c.eligible.ensures ∙ (ap (λ (r : Option Recorded). is_eligible_in r) (ap option_copied (sym c.in-Some.is) ∙ c.get.ensures)
    ∙ (ap (λ (k : Kept g.row.C.Denot). is_eligible_in (lookup (is_at (g.C.Ord.cmp c.args.peer.now)) k.records)) c.self.view_is
    ∙ eligible-free g.met.C.Ord.total s c.args.peer.now c.args.now (sym c.is_blocked.ensures ∙ c.if-is_blocked.false)))

pub returns-in-None : goal.returns-in-None
returns-in-None g c = λ calls s.
    ap (λ (r : Option Recorded). is_eligible_in r) (ap option_copied (sym c.in-None.is) ∙ c.get.ensures)
    ∙ (ap (λ (k : Kept g.row.C.Denot). is_eligible_in (lookup (is_at (g.C.Ord.cmp c.args.peer.now)) k.records)) c.self.view_is
    ∙ eligible-free g.met.C.Ord.total s c.args.peer.now c.args.now (sym c.is_blocked.ensures ∙ c.if-is_blocked.false))
