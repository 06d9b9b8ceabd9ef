use Rattle.std.proofs.Common.{◌≡◌, cond, Some, None, ap, sym, ◌∙◌, subst}
use Rattle.std.specs.Map.{lookup}
use Rattle.std.specs.BTreeMap.{is_at}
use Rattle.p2p_tracker_directory.specs.Indexed.{Roster, Indexes, Follows}
use Rattle.p2p_tracker_directory.specs.Recorded.{fresh}
use Rattle.p2p_tracker_directory.proofs.Indexing.{still-blank, never-blank}
use Rattle.p2p_tracker_directory.proofs.Rules.{ok-holds, err-holds}
use Rattle.p2p_tracker_directory.proofs.directory.records.Records.insert.Goals as goal

pub invariant_of-self : goal.invariant_of-self
invariant_of-self g c =
    c.in_err-enter.ensures.memory c.self.inside.map.entries
    (subst (λ (k : Roster g.row.C.Denot). lookup (is_at (g.C.Ord.cmp c.args.peer.now)) k.entries ≡ None) (sym c.self.view_is) c.requires) c.self.invariant

pub invariant_of-self-then-is_err : goal.invariant_of-self-then-is_err
invariant_of-self-then-is_err g c =
    let es = c.self.inside.map.entries in
    let none = subst (λ (k : Roster g.row.C.Denot). lookup (is_at (g.C.Ord.cmp c.args.peer.now)) k.entries ≡ None) (sym c.self.view_is) c.requires in
    let same = (err-holds c.insert.result _ c.insert.ensures.err (sym c.is_err.ensures.value ∙ c.if-is_err.true)) in
    subst (λ xs. Indexes g.C.Ord.cmp c.follow.new.self xs) (sym same)
    (never-blank g.met.C.Ord.total c.args.peer.now es none c.self.inside.index c.enter.new.self c.in_ok-enter.ensures.entered c.self.invariant c.follow.new.self
    (subst (λ xs. Follows g.C.Ord.cmp c.enter.new.self c.follow.new.self xs c.args.peer.now None None) same c.follow.ensures.index))

pub invariant_of-self-else-is_err : goal.invariant_of-self-else-is_err
invariant_of-self-else-is_err g c =
    let es = c.self.inside.map.entries in
    let none = subst (λ (k : Roster g.row.C.Denot). lookup (is_at (g.C.Ord.cmp c.args.peer.now)) k.entries ≡ None) (sym c.self.view_is) c.requires in
    let made = ok-holds c.insert.result _ c.insert.ensures.updates (sym c.is_err.ensures.value ∙ c.if-is_err.false) in
    still-blank g.met.C.Ord.total c.args.peer.now es none c.self.inside.index c.enter.new.self c.in_ok-enter.ensures.entered c.self.invariant c.args.address c.insert.new.self.entries
    (λ q. made.0 q ∙ ap (λ r. cond (is_at (g.C.Ord.cmp c.args.peer.now) q) (Some r) (lookup (is_at (g.C.Ord.cmp q)) es)) c.at.ensures)

pub returns-clause-made : goal.returns-clause-made
returns-clause-made g c =
    let made = ok-holds c.insert.result _ c.insert.ensures.updates (sym c.is_err.ensures.value ∙ c.if-is_err.false) in
    subst (λ (k : Roster g.row.C.Denot). (q : g.row.C.Denot) → lookup (is_at (g.C.Ord.cmp q)) c.insert.new.self.entries
    ≡ cond (is_at (g.C.Ord.cmp c.args.peer.now) q) (Some (fresh c.args.address)) (lookup (is_at (g.C.Ord.cmp q)) k.entries)) c.self.view_is
    (λ q. made.0 q ∙ ap (λ r. cond (is_at (g.C.Ord.cmp c.args.peer.now) q) (Some r) (lookup (is_at (g.C.Ord.cmp q)) c.self.inside.map.entries)) c.at.ensures)
