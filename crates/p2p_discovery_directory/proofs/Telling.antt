-- Who knows all is told nothing.
use Rattle.std.proofs.Common.{◌≡◌, true, cond, List, [], ◌∷◌, ◌++◌, length, eqb, Option, Some, None, refl, ap, ◌∙◌}
use Rattle.std.specs.Prelude.{is_some}
use Rattle.std.specs.Option.{option_to_list}
use Rattle.std.specs.declared.cmp.Ordering.{Ordering}
use Rattle.std.proofs.lemmas.Bool.{eq-eqb}
use Rattle.std.proofs.lemmas.List.{length-map}
use Rattle.p2p_tracker_calls.specs.Rules.{Rules}
use Rattle.p2p_discovery.specs.declared.info.Info.{Info}
use Rattle.p2p_discovery_directory.specs.declared.call.Call.{Call}
use Rattle.p2p_discovery_directory.specs.Infos.{info_of}
use Rattle.p2p_discovery_directory.specs.Gossip.{keys_of_set, known, unknown, told_of}
use Rattle.p2p_discovery_directory.specs.Laws.{KnowsAll}

told_none : {X : Type 0} (o : Option X) (rest : List X) → rest ≡ [] → cond (is_some o) [] (option_to_list o) ++ rest ≡ []
told_none None rest e = e
told_none (Some x) rest e = e

module _ {P : Type 0} (cmp : P → P → Ordering) where
  none_unknown : (rules : Rules P) (own : Info P) (calls : List (Call P)) (keys : List P) → unknown cmp rules own calls (known cmp rules own calls keys) keys ≡ []
  none_unknown rules own calls [] = refl
  none_unknown rules own calls (q ∷ keys) = told_none (info_of cmp rules own calls q) (unknown cmp rules own calls (known cmp rules own calls keys) keys) (none_unknown rules own calls keys)

  pub knows-all : KnowsAll cmp
  knows-all rules own calls s kept =
      let keys : List P = keys_of_set cmp s in
      let as_many : eqb (length (known cmp rules own calls keys)) (length keys) ≡ true = eq-eqb _ _ (length-map keys (λ q. is_some (info_of cmp rules own calls q))) in
      ap (told_of cmp rules own calls (known cmp rules own calls keys)) kept ∙ rw as_many (ap (λ (infos : List (Info P)). Some infos) (none_unknown rules own calls keys))
