use Rattle.std.proofs.Common.{◌≡◌, ℕ, List, ap, ◌∙◌}
use Rattle.std.specs.Map.{keys_of}
use Rattle.p2p_tracker_calls.specs.Sets.{PeerSet, only_secondary}
use Rattle.p2p_tracker_directory.proofs.directory.newcomers.prepare.Goals as goal

abbrev made : {P : Type 0} → ℕ → List P → List P → PeerSet P
made index second first = record { index = index; primary = first; secondary = second }

made_same : {P : Type 0} (index : ℕ) (a b c d : List P) → a ≡ b → c ≡ d → made index c a ≡ made index d b
made_same index a b c d e f = ap (made index c) e ∙ ap (λ s. made index s b) f

pub returns : goal.returns
returns g c =
    let second_is = c.without_primary.ensures.same ∙ ap (only_secondary g.C.Ord.cmp c.args.primary.now) c.in_ok-second.ensures.same in
    let first = ap keys_of (c.as_slice.ensures.value ∙ c.in_ok-first.ensures.same) in
    let second = ap keys_of (c.as_slice-2.ensures.value ∙ second_is) in
    record {
      set = c.in_ok-set.ensures ∙ made_same c.args.index _ (keys_of c.args.primary.now) _ (keys_of (only_secondary g.C.Ord.cmp c.args.primary.now c.args.secondary.now)) first second;
      primary = c.in_ok-first.ensures.same;
      secondary = second_is;
      primary_ordered = c.in_ok-first.ensures.ordered;
      secondary_ordered = c.without_primary.ensures.ordered;
    }
