-- What a cut of a link comes to.
use Rattle.std.specs.Prelude.{◌≡◌, ℕ, List}
use Rattle.p2p_log_rules.specs.declared.row.Row.{Row}
use Rattle.p2p_net_links.specs.Cutting.{cut_answer, cut_after}
use Rattle.p2p_net_links.specs.declared.links.Links.{Links}
use Rattle.p2p_net_node.specs.declared.node.Node.{Node}

-- the link is cut where it can be, and no node is changed
abbrev pub IsCut : ℕ → List Node → List Node → Links → Links → Row → Type 0
IsCut link old new l links r = (r ≡ cut_answer l link) × ((new ≡ old) × (links ≡ cut_after link l))
