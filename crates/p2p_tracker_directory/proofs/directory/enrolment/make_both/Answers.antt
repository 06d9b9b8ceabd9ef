use Rattle.std.proofs.Common.{sym, ap, ◌∙◌}
use Rattle.std.specs.Map.{lookup}
use Rattle.std.specs.BTreeMap.{is_at}
use Rattle.p2p_tracker_calls.specs.Sets.{PeerSet, is_among}
use Rattle.p2p_tracker_directory.specs.Tracked.{blanked, swept}
use Rattle.p2p_tracker_directory.proofs.Enrolling.{swept-swap, swept-blanked}
use Rattle.p2p_tracker_directory.proofs.Rules.{on-err, on-ok, on-err-weaker}
use Rattle.p2p_tracker_directory.proofs.directory.enrolment.make_both.Goals as goal

pub returns-in_err-make_blanks-clause-memory : goal.returns-in_err-make_blanks-clause-memory
returns-in_err-make_blanks-clause-memory g c =
    let first = c.as_slice.ensures.keys ∙ ap (λ (s : PeerSet g.row.C.Denot). s.primary) c.set.view_is in
    on-err c.from_residual.result _ (λ q.
    let p = is_among g.C.Ord.cmp c.args.set.now.primary q in
    let s = is_among g.C.Ord.cmp c.args.set.now.secondary q in
    swept-swap p s (lookup (is_at (g.C.Ord.cmp q)) c.make_blanks.new.records.entries)
    ∙ (ap (swept s) (ap (λ ks. swept (is_among g.C.Ord.cmp ks q) (lookup (is_at (g.C.Ord.cmp q)) c.make_blanks.new.records.entries)) (sym first)
    ∙ (c.in_err-make_blanks.ensures.memory q ∙ ap (λ ks. swept (is_among g.C.Ord.cmp ks q) (lookup (is_at (g.C.Ord.cmp q)) c.args.records.now.entries)) first))
    ∙ sym (swept-swap p s (lookup (is_at (g.C.Ord.cmp q)) c.args.records.now.entries))))

pub returns-clause-made : goal.returns-clause-made
returns-clause-made g c =
    let first = c.as_slice.ensures.keys ∙ ap (λ (s : PeerSet g.row.C.Denot). s.primary) c.set.view_is in
    let second = c.as_slice-2.ensures.keys ∙ ap (λ (s : PeerSet g.row.C.Denot). s.secondary) c.set.view_is in
    on-ok c.make_blanks-2.result _ _ (λ h q.
    h q ∙ (ap (λ ks. blanked (is_among g.C.Ord.cmp ks q) (lookup (is_at (g.C.Ord.cmp q)) c.make_blanks.new.records.entries)) second
    ∙ ap (blanked (is_among g.C.Ord.cmp c.args.set.now.secondary q)) (c.in_ok-make_blanks.ensures.made q
    ∙ ap (λ ks. blanked (is_among g.C.Ord.cmp ks q) (lookup (is_at (g.C.Ord.cmp q)) c.args.records.now.entries)) first))) c.make_blanks-2.ensures.made

pub returns-clause-memory : goal.returns-clause-memory
returns-clause-memory g c =
    let first = c.as_slice.ensures.keys ∙ ap (λ (s : PeerSet g.row.C.Denot). s.primary) c.set.view_is in
    let second = c.as_slice-2.ensures.keys ∙ ap (λ (s : PeerSet g.row.C.Denot). s.secondary) c.set.view_is in
    on-err-weaker c.make_blanks-2.result _ _ (λ h q.
    let p = is_among g.C.Ord.cmp c.args.set.now.primary q in
    let s = is_among g.C.Ord.cmp c.args.set.now.secondary q in
    let old = lookup (is_at (g.C.Ord.cmp q)) c.args.records.now.entries in
    let mid = lookup (is_at (g.C.Ord.cmp q)) c.make_blanks.new.records.entries in
    ap (swept p) (ap (λ ks. swept (is_among g.C.Ord.cmp ks q) (lookup (is_at (g.C.Ord.cmp q)) c.make_blanks-2.new.records.entries)) (sym second)
    ∙ (h q ∙ ap (λ ks. swept (is_among g.C.Ord.cmp ks q) mid) second))
    ∙ (ap (λ r. swept p (swept s r)) (c.in_ok-make_blanks.ensures.made q ∙ ap (λ ks. blanked (is_among g.C.Ord.cmp ks q) old) first)
    ∙ swept-blanked p s old)) c.make_blanks-2.ensures.memory
