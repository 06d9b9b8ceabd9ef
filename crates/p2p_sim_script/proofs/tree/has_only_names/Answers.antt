use Rattle.std.proofs.Common.{◌∙◌, rules, tests}
use Rattle.std.specs.List.{list_any}
use Rattle.std.specs.Str.{bytes_eq}
use Rattle.std.proofs.lemmas.Iterator.Search.{all_from_yields_List}
use Rattle.std.proofs.lemmas.Iterator.{YieldsList-from_slice}
use Rattle.p2p_sim_script.proofs.Names.{has_only-members}
use Rattle.p2p_sim_script.proofs.tree.has_only_names.Goals as goal

pub returns : goal.returns
returns c =
    all_from_yields_List (λ m. list_any (λ n. bytes_eq n.now m.0.now) c.args.names.now) _ _ c.all.result c.all.ensures.ran
    (YieldsList-from_slice c.args.members.now cc) (λ x b q k. search (rules, tests))
    ∙ has_only-members c.args.names.now c.args.members.now
