-- A node that stands for a log stands for it with the entry of its next event.
use Rattle.std.proofs.Common.{◌≡◌, ℕ, [], ◌∷◌, ◌++◌, length, sym, subst, ◌∙◌}
use Rattle.p2p_log.specs.declared.entry.Entry.{Entry}
use Rattle.p2p_log.specs.declared.event.Event.{Event}
use Rattle.p2p_log_rules.specs.declared.row.Row.{Row}
use Rattle.p2p_log_rules.specs.Effect.{effect}
use Rattle.p2p_net_links.specs.Stands.{LinksStand}
use Rattle.p2p_net_links.specs.declared.links.Links.{Links}
use Rattle.p2p_net.specs.Acts.{NodeDoes}
use Rattle.p2p_net.specs.Applying.{NodeApplies, NodeStandsWith}
use Rattle.p2p_net_node.specs.Places as place
use Rattle.p2p_net_node.specs.Places.{node_of}
use Rattle.p2p_net_node.specs.Stands.{NodeStands}
use Rattle.p2p_net_node.specs.declared.node.Node.{Node}
use Rattle.p2p_net.proofs.Acting.{node_performs}
use Rattle.p2p_net_node.proofs.Performing.{Performs}
use Rattle.p2p_net.proofs.Records.{entry_of-effect}

pub applied : (k : ℕ) (ev : Event) (x y : Node) (l ls : Links) (e : Entry) → NodeApplies k ev x y l ls e → NodeStandsWith k ev x y l ls e
applied k ev x y l ls e d configs log s =
    let n = node_of log ev.act in
    let r : Row = d.0 in
    let number : x.router.number ≡ n = (s.node.each place.router).number in
    let does : NodeDoes (length log) n ev.at ev.seed ev.act x y l ls r =
    subst (λ m. NodeDoes (length log) m ev.at ev.seed ev.act x y l ls r) number
    (subst (λ i. NodeDoes i x.router.number ev.at ev.seed ev.act x y l ls r) s.next d.1.1)
    in
    let h : Performs configs log ev n y ls r = node_performs configs log ev.at ev.seed ev.act x y l ls r s.node s.links s.lawful s.allowed s.timely s.alone does in
    let is : e ≡ effect configs log ev = d.1.0 ∙ entry_of-effect configs log ev r h.row_is in
    record {
      entry = is;
      node = subst (λ (c : Entry). NodeStands configs (log ++ c ∷ []) n y) (sym is) h.node;
      links = subst (λ (c : Entry). LinksStand configs (log ++ c ∷ []) ls) (sym is) h.linked;
    }
