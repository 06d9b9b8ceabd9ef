-- An event that names the tracker of its node alone leaves all else as it was.
use Rattle.std.proofs.Common.{◌≡◌, ℕ, false, List, [], ◌∷◌, ◌++◌, refl, ap, sym, subst, ◌∙◌}
use Rattle.p2p_log.specs.declared.config.Config.{Config}
use Rattle.p2p_log.specs.declared.entry.Entry.{Entry}
use Rattle.p2p_log.specs.declared.event.Event.{Event}
use Rattle.p2p_log_rules.specs.declared.row.Row.{Row}
use Rattle.p2p_log_rules.specs.Effect.{row, effect, entry_of}
use Rattle.p2p_net_links.specs.Stands.{LinksStand}
use Rattle.p2p_net_links.specs.declared.links.Links.{Links}
use Rattle.p2p_net_tracker.specs.Stands.{TrackerStands}
use Rattle.p2p_net_tracker.specs.declared.tracker.Tracker.{Tracker}
use Rattle.p2p_net_node.specs.Places.{Part, channels, tracker, links, at, names}
use Rattle.p2p_net_node.specs.Staying.{Tracks}
use Rattle.p2p_net_node.specs.Stands.{NodeStands}
use Rattle.p2p_net_node.specs.declared.node.Node.{Node}
use Rattle.p2p_net_node.proofs.EachPart.{is_in, each_part}
use Rattle.p2p_net_node.proofs.Frames.{stops_unnamed, links_kept}
use Rattle.p2p_net_node.proofs.Performing.{Performs}
use Rattle.p2p_log_rules.proofs.Steps.{steps_spawner}

-- an event that names the tracker of this node alone
pub record NamesTracker (log : List Entry) (ev : Event) (n : ℕ) : Type 0 where
  pub parts : (p : Part) → is_in p (tracker ∷ []) ≡ false → names log ev.act (at p n) ≡ false
  pub unlinked : names log ev.act links ≡ false
  pub spawns : steps_spawner n ev.act ≡ false

-- the row is the event's, and the tracker stands for the log with it
abbrev pub IsDone : List Config → List Entry → Event → ℕ → Tracker → Row → Type 0
IsDone configs log ev n t r = (r ≡ row configs log ev.at ev.seed ev.act) × TrackerStands configs (log ++ entry_of ev r ∷ []) n t

pub effect_is : (configs : List Config) (log : List Entry) (ev : Event) (r : Row) → r ≡ row configs log ev.at ev.seed ev.act → entry_of ev r ≡ effect configs log ev
unfolding effect
effect_is configs log ev r h = ap (entry_of ev) h

pub track_alone : (configs : List Config) (log : List Entry) (ev : Event) (n : ℕ) (x y : Node) (l ls : Links) (r : Row) → NodeStands configs log n x → LinksStand configs log l → NamesTracker log ev n
    → Tracks y.tracker x y → ls ≡ l → IsDone configs log ev n y.tracker r → Performs configs log ev n y ls r
track_alone configs log ev n x y l ls r s t named alone kept done =
    let e = effect configs log ev in
    record {
      row_is = done.0;
      node =
          each_part configs log ev n x y (tracker ∷ []) s alone named.parts named.spawns (stops_unnamed log n channels ev.act (named.parts channels refl))
          (subst (λ (d : Entry). TrackerStands configs (log ++ d ∷ []) n y.tracker) (effect_is configs log ev r done.0) done.1, tt);
      linked = subst (LinksStand configs (log ++ e ∷ [])) (sym kept) (links_kept configs log ev l t named.unlinked);
    }

-- the tracker of a node that has this one
pub has_tracker : (t : Tracker) (x y : Node) → Tracks t x y → y.tracker ≡ t
has_tracker t x y h = ap (λ (z : Node). z.tracker) h

pub alone_by : (t : Tracker) (x y : Node) → Tracks t x y → Tracks y.tracker x y
alone_by t x y h = h ∙ ap (λ k. record x { tracker = k }) (sym (has_tracker t x y h))
