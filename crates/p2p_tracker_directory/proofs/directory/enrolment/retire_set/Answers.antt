use Rattle.std.proofs.Common.{true, false, sym, ap, ◌∙◌}
use Rattle.std.specs.Map.{lookup}
use Rattle.std.specs.BTreeMap.{is_at}
use Rattle.p2p_tracker_calls.specs.Sets.{is_among}
use Rattle.p2p_tracker_directory.specs.Tracked.{leaves, retired, is_primary_of, is_secondary_of}
use Rattle.p2p_tracker_directory.proofs.Enrolling.{leaves-both}
use Rattle.p2p_tracker_directory.proofs.directory.enrolment.retire_set.Goals as goal

pub returns-in-Some-clause-each : goal.returns-in-Some-clause-each
returns-in-Some-clause-each g c = λ q.
    c.retire-in-Some.ensures.each q
    ∙ (ap (leaves false (is_among g.C.Ord.cmp c.as_slice-in-Some.result.now q)) (c.retire.ensures.each q)
    ∙ (ap (λ ks. leaves false (is_among g.C.Ord.cmp ks q) (leaves true (is_among g.C.Ord.cmp c.as_slice.result.now q) (lookup (is_at (g.C.Ord.cmp q)) c.args.records.now.entries))) (c.as_slice-in-Some.ensures.keys ∙ ap (λ s. s.secondary) c.set.view_is)
    ∙ (ap (λ ks. leaves false (is_among g.C.Ord.cmp c.in-Some.set.secondary q) (leaves true (is_among g.C.Ord.cmp ks q) (lookup (is_at (g.C.Ord.cmp q)) c.args.records.now.entries))) (c.as_slice.ensures.keys ∙ ap (λ s. s.primary) c.set.view_is)
    ∙ (leaves-both (lookup (is_at (g.C.Ord.cmp q)) c.args.records.now.entries) (is_among g.C.Ord.cmp c.in-Some.set.primary q) (is_among g.C.Ord.cmp c.in-Some.set.secondary q)
    ∙ sym (ap (λ f. retired (lookup (is_at (g.C.Ord.cmp q)) c.args.records.now.entries) (is_primary_of g.C.Ord.cmp f q) (is_secondary_of g.C.Ord.cmp f q)) c.in-Some.is)))))
