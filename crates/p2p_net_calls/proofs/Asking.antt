-- The questions to a node's tracker, and what those who asked take.
use Rattle.std.proofs.Common.{◌≡◌, ℕ, true, List, [], ◌∷◌, length, refl, inl, inr}
use Rattle.std.specs.Prelude.{slice_get}
use Rattle.p2p_log.specs.declared.config.Config.{Config}
use Rattle.p2p_log.specs.declared.entry.Entry.{Entry}
use Rattle.p2p_log.specs.declared.asked.Asked.{Asked}
use Rattle.p2p_log.specs.declared.event.Act.TheVariants as act
use Rattle.p2p_log_rules.specs.declared.row.Row.{Row}
use Rattle.p2p_log_rules.specs.Facts.{events_of}
use Rattle.p2p_log_rules.specs.Effect.{row}
use Rattle.p2p_log_rules.specs.Valid.{may_act}
use Rattle.p2p_net_links.specs.Stands.{LinksStand}
use Rattle.p2p_net_links.specs.declared.links.Links.{Links}
use Rattle.p2p_net_tracker.specs.Asking.{ask_answer, after_asking}
use Rattle.p2p_net_tracker.specs.Reading.{Answers, Continues}
use Rattle.p2p_net_tracker.proofs.Answering.{tracker_answers, tracker_updates, tracker_sets}
use Rattle.p2p_net_tracker.proofs.Questions.{ask_stands}
use Rattle.p2p_net_node.specs.Places.{tracker, node_asked}
use Rattle.p2p_net_node.specs.Staying.{Tracks}
use Rattle.p2p_net_node.specs.Stands.{NodeStands}
use Rattle.p2p_net_node.specs.declared.node.Node.{Node}
use Rattle.p2p_net_node.proofs.AskedOf.{set_asked, subscription_asked}
use Rattle.p2p_net_node.proofs.EachPart.{not_among}
use Rattle.p2p_net_node.proofs.Performing.{asked, Performs}
use Rattle.p2p_net_node.proofs.TrackerAlone.{track_alone, has_tracker, alone_by}

-- ---- questions

pub ask_performs : (configs : List Config) (log : List Entry) (moment seed n : ℕ) (what : Asked) (x y : Node) (l ls : Links) (r : Row) → NodeStands configs log n x → LinksStand configs log l
    → r ≡ ask_answer x.tracker n (length log) what → Tracks (after_asking x.tracker (length log) what) x y → ls ≡ l → Performs configs log (asked moment seed (act.Ask what n)) n y ls r
unfolding row
ask_performs configs log moment seed n what x y l ls r s t is alone kept =
    let now = after_asking x.tracker (length log) what in
    track_alone configs log (asked moment seed (act.Ask what n)) n x y l ls r s t (record { parts = λ p out. not_among (tracker ∷ []) p n n out; unlinked = refl; spawns = refl }) (alone_by now x y alone) kept
    (ask_stands configs log moment seed n what x.tracker y.tracker r (s.each tracker) is (has_tracker now x y alone))

-- ---- what those who asked take

pub answer_performs : (configs : List Config) (log : List Entry) (moment seed e : ℕ) (x y : Node) (l ls : Links) (r : Row) → NodeStands configs log (node_asked (slice_get log e)) x → LinksStand configs log l
    → may_act configs (events_of log) (act.Answer e) ≡ true → Answers (node_asked (slice_get log e)) e x.tracker y.tracker r → Tracks y.tracker x y → ls ≡ l
    → Performs configs log (asked moment seed (act.Answer e)) (node_asked (slice_get log e)) y ls r
unfolding row
answer_performs configs log moment seed e x y l ls r s t may answers alone kept =
    let n = node_asked (slice_get log e) in
    let question = set_asked configs log e may in
    track_alone configs log (asked moment seed (act.Answer e)) n x y l ls r s t (record { parts = λ p out. not_among (tracker ∷ []) p n n out; unlinked = refl; spawns = refl }) alone kept
    (tracker_answers configs log moment seed n e question.0 x.tracker y.tracker r (s.each tracker) question.1 answers)

pub next_performs : (configs : List Config) (log : List Entry) (moment seed e : ℕ) (x y : Node) (l ls : Links) (r : Row) → NodeStands configs log (node_asked (slice_get log e)) x → LinksStand configs log l
    → may_act configs (events_of log) (act.Next e) ≡ true → Continues (node_asked (slice_get log e)) e x.tracker y.tracker r → Tracks y.tracker x y → ls ≡ l
    → Performs configs log (asked moment seed (act.Next e)) (node_asked (slice_get log e)) y ls r
unfolding row
next_performs configs log moment seed e x y l ls r s t may goes alone kept =
    let n = node_asked (slice_get log e) in
    track_alone configs log (asked moment seed (act.Next e)) n x y l ls r s t (record { parts = λ p out. not_among (tracker ∷ []) p n n out; unlinked = refl; spawns = refl }) alone kept
    (elim (subscription_asked configs log e may) [
      | inl updates ↦ tracker_updates configs log moment seed n e x.tracker y.tracker r (s.each tracker) updates goes
      | inr blocked ↦ tracker_sets configs log moment seed n e x.tracker y.tracker r (s.each tracker) blocked goes
    ])
