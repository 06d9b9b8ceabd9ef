use Rattle.std.proofs.Common.{◌-◌, ◌∙◌, sym, ap, arith}
use Rattle.std.proofs.lemmas.List.Sorted.{IsPermutation-trans}
use Rattle.p2p_runtime.proofs.Shuffling.{exchanged-more, exchanged-all}
use Rattle.p2p_runtime.proofs.draws.Draws.shuffle.Goals as goal

pub loop-left-preserved : goal.loop-left-preserved
loop-left-preserved g c = record {
  within = omega (arith, c.swap.ensures.len);
  rest =
      rw (c.swap.ensures.after, c.random_range-other.ensures.value, c.random_range-other.ensures.after)
      (sym (exchanged-more (c.loop-left.left - 1 - 1) (c.loop-left.left - 1) c.loop-left.list c.loop-left.self (omega arith)) ∙ c.loop-left.invariant.rest);
  permutation = IsPermutation-trans _ _ _ c.loop-left.invariant.permutation c.swap.ensures.permutation;
}

pub returns-clause-list : goal.returns-clause-list
returns-clause-list g c =
    ap (λ p. p.0) (sym (exchanged-all (c.loop-left.left - 1) c.loop-left.list c.loop-left.self (omega arith)) ∙ c.loop-left.invariant.rest)

pub returns-clause-after : goal.returns-clause-after
returns-clause-after g c =
    ap (λ p. p.1) (sym (exchanged-all (c.loop-left.left - 1) c.loop-left.list c.loop-left.self (omega arith)) ∙ c.loop-left.invariant.rest)
