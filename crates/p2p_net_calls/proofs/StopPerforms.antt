-- What a stop of a node does is its row, and the node and the links stand for the log with it.
use Rattle.std.proofs.Common.{◌≡◌, ℕ, Bool, true, false, List, refl, sym, ◌∙◌}
use Rattle.std.specs.List.{AllByRecursion as Each}
use Rattle.p2p_log.specs.declared.config.Config.{Config}
use Rattle.p2p_log.specs.declared.entry.Entry.{Entry}
use Rattle.p2p_log.specs.declared.event.Act.TheVariants as act
use Rattle.p2p_log.specs.Lines.{live}
use Rattle.p2p_log.proofs.Each.{Each-weaker}
use Rattle.p2p_log_rules.specs.declared.row.Row.{Row}
use Rattle.p2p_log_laws.proofs.Carried.{copies_of-bare}
use Rattle.p2p_log_laws.proofs.Fitting.{StandsFit, bare_there}
use Rattle.p2p_net_links.specs.Stands.{LinksStand}
use Rattle.p2p_net_links.specs.declared.links.Links.{Links}
use Rattle.p2p_net_node.specs.Stands.{NodeStands}
use Rattle.p2p_net_node.specs.declared.node.Node.{Node}
use Rattle.p2p_net_node.proofs.Performing.{asked, Performs}
use Rattle.p2p_net_calls.specs.Stopping.{IsBare, Stops}
use Rattle.p2p_net_calls.proofs.StopAgain.{again_performs}
use Rattle.p2p_net_calls.proofs.StopStands.{stopped_performs}

-- what fits its queue is bare where the queue holds nothing else
fit_bare : (log : List Entry) → Each StandsFit (live log) → Each IsBare (live log)
fit_bare log fit = Each-weaker StandsFit IsBare (λ x fits holds. copies_of-bare x.item (bare_there x.queue x.item holds fits)) (live log) fit

pub stop_performs : (configs : List Config) (log : List Entry) (moment seed : ℕ) (by_start : Bool) (n : ℕ) (x y : Node) (l links : Links) (r : Row) → NodeStands configs log n x → LinksStand configs log l
    → Each StandsFit (live log) → Stops n x.stopped x y l links r → Performs configs log (asked moment seed (act.Stop by_start n)) n y links r
stop_performs configs log moment seed by_start n x y l links r s t fit = by x.stopped refl
  where
    by : (b : Bool) → x.stopped ≡ b → Stops n b x y l links r → Performs configs log (asked moment seed (act.Stop by_start n)) n y links r
    by true over d = again_performs configs log moment seed by_start n x s (sym s.life ∙ over) y l links r t d.0 d.1.0 d.1.1
    by false runs d = stopped_performs configs log moment seed by_start n x y l links r s t (sym s.life ∙ runs) (fit_bare log fit) d
