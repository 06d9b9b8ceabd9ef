use Rattle.std.proofs.Common.{◌≡◌, true, is_some, None, sym, ◌∙◌, subst}
use Rattle.std.specs.Map.{lookup}
use Rattle.std.specs.BTreeMap.{is_at}
use Rattle.p2p_tracker_directory.specs.Indexed.{Roster}
use Rattle.p2p_tracker_directory.proofs.Indexing.{none-blanked, made-blank, no_record}
use Rattle.p2p_tracker_directory.proofs.Rules.{on-ok}
use Rattle.p2p_tracker_directory.proofs.directory.records.Records.make_blank.Goals as goal

pub returns-then-contains_key-clause-made : goal.returns-then-contains_key-clause-made
returns-then-contains_key-clause-made g c =
    none-blanked g.met.C.Ord.total c.args.peer.now c.args.self.now.entries
    (subst (λ (k : Roster g.row.C.Denot). is_some (lookup (is_at (g.C.Ord.cmp c.args.peer.now)) k.entries) ≡ true) c.self.view_is (sym c.contains_key.ensures ∙ c.if-contains_key.true))

pub insert-requires : goal.insert-requires
insert-requires g c =
    subst (λ (k : Roster g.row.C.Denot). lookup (is_at (g.C.Ord.cmp c.args.peer.now)) k.entries ≡ None) c.self.view_is
    (no_record (lookup (is_at (g.C.Ord.cmp c.args.peer.now)) c.self.inside.map.entries) (sym c.contains_key.ensures ∙ c.if-contains_key.false))

pub returns-clause-made : goal.returns-clause-made
returns-clause-made g c =
    let none = subst (λ (k : Roster g.row.C.Denot). lookup (is_at (g.C.Ord.cmp c.args.peer.now)) k.entries ≡ None) c.self.view_is
    (no_record (lookup (is_at (g.C.Ord.cmp c.args.peer.now)) c.self.inside.map.entries) (sym c.contains_key.ensures ∙ c.if-contains_key.false)) in
    on-ok c.insert.result _ _ (made-blank g.met.C.Ord.total c.args.peer.now c.args.self.now.entries none c.insert.new.self.entries) c.insert.ensures.made
