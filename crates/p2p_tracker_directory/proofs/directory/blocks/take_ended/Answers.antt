use Rattle.std.proofs.Common.{refl, sym, ap, ◌∙◌}
use Rattle.std.proofs.lemmas.Bool.{false≢true}
use Rattle.std.specs.Map.{lookup}
use Rattle.std.specs.BTreeMap.{is_at}
use Rattle.p2p_base.specs.Moments.{soonest}
use Rattle.p2p_tracker_directory.specs.Stands.{ends_by}
use Rattle.p2p_tracker_directory.proofs.Ended.{length-popped, sorted-popped, unless_ended-popped, none_over, unless_over}
use Rattle.p2p_tracker_directory.proofs.directory.blocks.take_ended.Goals as goal

pub loop-blocks-init : goal.loop-blocks-init
loop-blocks-init g c = record { ordered = λ s. s; each = λ s q. refl; kept = λ h. refl }

pub loop-blocks-smaller : goal.loop-blocks-smaller
loop-blocks-smaller g c = length-popped g.met.C.Ord.total c.loop-blocks.blocks c.pop.new.self c.args.now (sym c.has_ended.ensures ∙ c.loop-blocks-test.true) c.pop.ensures.after

pub loop-blocks-preserved : goal.loop-blocks-preserved
loop-blocks-preserved g c = record {
  ordered = λ s.
      sorted-popped g.met.C.Ord.total c.loop-blocks.blocks c.pop.new.self c.args.now (sym c.has_ended.ensures ∙ c.loop-blocks-test.true) c.pop.ensures.after (c.loop-blocks.invariant.ordered s);
  each = λ s q.
      unless_ended-popped g.met.C.Ord.total c.loop-blocks.blocks c.pop.new.self c.args.now (sym c.has_ended.ensures ∙ c.loop-blocks-test.true) c.pop.result c.pop.ensures.value c.pop.ensures.each
      (c.loop-blocks.invariant.ordered s) q
      ∙ c.loop-blocks.invariant.each s q;
  kept = λ h. absurd (false≢true (sym h
      ∙ (ap (λ es. ends_by (soonest es) c.args.now) (sym (c.loop-blocks.invariant.kept h)) ∙ (sym c.has_ended.ensures ∙ c.loop-blocks-test.true))));
}

pub returns-clause-ordered : goal.returns-clause-ordered
returns-clause-ordered g c = c.loop-blocks.invariant.ordered

pub returns-clause-each : goal.returns-clause-each
returns-clause-each g c = λ s q.
    unless_over (lookup (is_at (g.C.Ord.cmp q)) c.loop-blocks.blocks) c.args.now
    (none_over (is_at (g.C.Ord.cmp q)) c.loop-blocks.blocks c.args.now (sym c.has_ended.ensures ∙ c.loop-blocks-test.false))
    ∙ c.loop-blocks.invariant.each s q

pub returns-clause-kept : goal.returns-clause-kept
returns-clause-kept g c = λ r. c.loop-blocks.invariant.kept (sym c.has_ended-found.ensures ∙ r)
