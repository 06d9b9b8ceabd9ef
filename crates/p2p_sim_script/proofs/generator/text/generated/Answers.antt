use Rattle.std.proofs.Common.{ap, ◌∙◌, string_bytes}
use Rattle.std.proofs.lemmas.Result.{IfOk-weaker}
use Rattle.serde_json.specs.View.{view}
use Rattle.p2p_sim_script.specs.GeneratedTree.{script_tree}
use Rattle.p2p_sim_script.proofs.GeneratedTrees.{generated-said}
use Rattle.p2p_sim_script.proofs.generator.text.generated.Goals as goal

pub returns : goal.returns
returns c =
    let events = c.as_slice.ensures ∙ c.in_ok-made.ensures.script in
    let tree = c.in_ok-tree.ensures ∙ ap script_tree events in
    IfOk-weaker c.to_string.result _ _ (λ s h. generated-said c.args.count c.args.seed (view c.in_ok-tree.tree) (string_bytes s) tree h) c.to_string.ensures.reads_back
