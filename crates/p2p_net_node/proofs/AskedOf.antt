-- What was asked of a tracker by the event that an act names, in a script that may name it.
use Rattle.std.proofs.Common.{◌≡◌, ℕ, zero, suc, true, List, [], ◌∷◌, refl, Some, ◌⊎◌, inl, inr}
use Rattle.std.specs.Prelude.{slice_get}
use Rattle.p2p_log.specs.declared.config.Config.{Config}
use Rattle.p2p_log.specs.declared.entry.Entry.{Entry}
use Rattle.p2p_log.specs.declared.asked.Asked.TheVariants as ask
use Rattle.p2p_log.specs.declared.event.Act.{Act}
use Rattle.p2p_log.specs.declared.event.Act.TheVariants as act
use Rattle.p2p_log_rules.specs.Facts.{events_of}
use Rattle.p2p_log_rules.specs.Tracking.{asked_by}
use Rattle.p2p_log_rules.specs.Valid as valid
use Rattle.p2p_net_node.specs.Places.{asked_node, or_first, node_asked}

-- an answer is asked for to a question for a peer set
pub set_asked : (configs : List Config) (log : List Entry) (e : ℕ) → valid.is_node configs (valid.set_asked_of (slice_get (events_of log) e)) ≡ true → (index : ℕ) × (asked_by log e ≡ Some (act.Ask (ask.PeerSet index) (node_asked (slice_get log e))))
set_asked configs [] e h = cc
set_asked configs (d ∷ ds) zero h = by d.event.act h
  where
    by : (a : Act) → valid.is_node configs (valid.set_asked_by a) ≡ true → (index : ℕ) × (Some a ≡ Some (act.Ask (ask.PeerSet index) (or_first (asked_node a))))
    by (act.Ask (ask.PeerSet index) n) h = (index, refl)
    by _ h = cc
set_asked configs (d ∷ ds) (suc i) h = set_asked configs ds i h

-- what comes next is asked for of a subscription
pub subscription_asked : (configs : List Config) (log : List Entry) (e : ℕ) → valid.is_node configs (valid.subscribed_at (slice_get (events_of log) e)) ≡ true
    → (asked_by log e ≡ Some (act.Ask ask.Subscribe (node_asked (slice_get log e)))) ⊎ (asked_by log e ≡ Some (act.Ask ask.Blocked (node_asked (slice_get log e))))
subscription_asked configs [] e h = cc
subscription_asked configs (d ∷ ds) zero h = by d.event.act h
  where
    by : (a : Act) → valid.is_node configs (valid.subscribed_by a) ≡ true
        → (Some a ≡ Some (act.Ask ask.Subscribe (or_first (asked_node a)))) ⊎ (Some a ≡ Some (act.Ask ask.Blocked (or_first (asked_node a))))
    by (act.Ask ask.Subscribe n) h = inl refl
    by (act.Ask ask.Blocked n) h = inr refl
    by _ h = cc
subscription_asked configs (d ∷ ds) (suc i) h = subscription_asked configs ds i h
