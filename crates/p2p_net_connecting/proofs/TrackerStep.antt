-- A step of a node's tracker.
use Rattle.std.proofs.Common.{◌≡◌, ℕ, Bool, true, false, cond, List, [], ◌∷◌, ◌++◌, length, refl, ap, sym, subst, ◌∙◌}
use Rattle.p2p_log.specs.declared.config.Config.{Config}
use Rattle.p2p_log.specs.declared.entry.Entry.{Entry}
use Rattle.p2p_log.specs.declared.entry.Reply.TheVariants as reply
use Rattle.p2p_log.specs.declared.event.Act.TheVariants as act
use Rattle.p2p_log_rules.specs.declared.row.Row.{Row}
use Rattle.p2p_log_rules.specs.Facts.{is_up}
use Rattle.p2p_log_rules.specs.Effect.{only, row, entry_of}
use Rattle.p2p_log_rules.specs.TrackerRows.{tracker_step}
use Rattle.p2p_net_links.specs.Stands.{LinksStand}
use Rattle.p2p_net_links.specs.declared.links.Links.{Links}
use Rattle.p2p_net_tracker.specs.Stands.{AsksRun, TrackerStands}
use Rattle.p2p_net_tracker.proofs.Steps.{tracker_steps, gone_stands}
use Rattle.p2p_net_node.specs.Places.{tracker}
use Rattle.p2p_net_node.specs.Ready.{is_node_up}
use Rattle.p2p_net_connecting.specs.Steps.{TrackerStepsBy}
use Rattle.p2p_net_node.specs.Stands.{NodeStands}
use Rattle.p2p_net_node.specs.declared.node.Node.{Node}
use Rattle.p2p_net_node.proofs.EachPart.{not_among}
use Rattle.p2p_net_node.proofs.Performing.{asked, Performs}
use Rattle.p2p_net_node.proofs.Readying.{started_is}
use Rattle.p2p_net_node.proofs.TrackerAlone.{NamesTracker, track_alone}

pub tracker_performs : (configs : List Config) (log : List Entry) (moment seed n : ℕ) (x y : Node) (l ls : Links) (r : Row) → NodeStands configs log n x → LinksStand configs log l → AsksRun log n
    → TrackerStepsBy (is_node_up x) (length log) n moment seed x y r → ls ≡ l → Performs configs log (asked moment seed (act.Tracker n)) n y ls r
unfolding row
tracker_performs configs log moment seed n x y l ls r s t runs steps kept = by (is_node_up x) (sym (started_is configs log n x s)) steps
  where
    named : NamesTracker log (asked moment seed (act.Tracker n)) n
    named = record { parts = λ p out. not_among (tracker ∷ []) p n n out; unlinked = refl; spawns = refl }

    by : (b : Bool) → is_up log n ≡ b → TrackerStepsBy b (length log) n moment seed x y r → Performs configs log (asked moment seed (act.Tracker n)) n y ls r
    by true up h =
        let done = tracker_steps configs log moment seed n x.tracker y.tracker r (s.each tracker) runs h.0 in
        track_alone configs log (asked moment seed (act.Tracker n)) n x y l ls r s t named h.1 kept
        (done.0 ∙ ap (λ b. cond b (tracker_step configs log n moment) (only reply.Gone)) (sym up), done.1)
    by false down h =
        track_alone configs log (asked moment seed (act.Tracker n)) n x y l ls r s t named (h.1 ∙ ap (λ (z : Node). record x { tracker = z.tracker }) (sym h.1)) kept (
          h.0 ∙ ap (λ b. cond b (tracker_step configs log n moment) (only reply.Gone)) (sym down),
          subst (λ k. TrackerStands configs (log ++ entry_of (asked moment seed (act.Tracker n)) k ∷ []) n y.tracker) (sym h.0)
              (subst (λ (z : Node). TrackerStands configs (log ++ entry_of (asked moment seed (act.Tracker n)) (only reply.Gone) ∷ []) n z.tracker) (sym h.1) (gone_stands configs log moment seed n x.tracker (s.each tracker))),
        )
