-- The nodes between the two steps of an act that tells an attempt of one node, and then something at another.
use Rattle.std.proofs.Common.{◌≡◌, ℕ, Bool, true, false, cond, List, [], ◌∷◌, ◌++◌, refl, sym, subst, ◌∙◌, eqb-true, Some}
use Rattle.std.specs.Prelude.{slice_get, slice_set, ◌==◌}
use Rattle.std.proofs.lemmas.Option.{same_Some}
use Rattle.p2p_log.specs.declared.config.Config.{Config}
use Rattle.p2p_log.specs.declared.entry.Entry.{Entry}
use Rattle.p2p_net_gates.specs.DialerStands.{DialerStands}
use Rattle.p2p_net_node.specs.Stands.{NodeStands}
use Rattle.p2p_net_node.specs.declared.node.Node.{Node}
use Rattle.p2p_net_node.proofs.Nodes.{slice_get-set, below}

-- a node whose dialer alone stands for the log with the entry
pub record IsBetween (configs : List Config) (log : List Entry) (e : Entry) (j : ℕ) (w : Node) : Type 0 where
  pub before : Node
  pub stood : NodeStands configs log j before
  pub same : w ≡ record before { dialing = w.dialing }
  pub dials : DialerStands configs (log ++ e ∷ []) j w.dialing

-- so are all, once the dialer of one was told
pub dialer_told : (configs : List Config) (log : List Entry) (e : Entry) (n : ℕ) (nodes : List Node) (first after : Node) → ((j : ℕ) (w : Node) → slice_get nodes j ≡ Some w → NodeStands configs log j w)
    → slice_get nodes n ≡ Some first → after ≡ record first { dialing = after.dialing } → DialerStands configs (log ++ e ∷ []) n after.dialing
    → ((j : ℕ) (w : Node) → NodeStands configs log j w → (n == j) ≡ false → DialerStands configs (log ++ e ∷ []) j w.dialing)
    → (j : ℕ) (w : Node) → slice_get (slice_set nodes n after) j ≡ Some w → IsBetween configs log e j w
dialer_told configs log e n nodes first after each at_first same dials others j w h =
    by (n == j) refl (sym (slice_get-set nodes n j after (below nodes n first at_first)) ∙ h)
  where
    by : (b : Bool) → (n == j) ≡ b → cond b (Some after) (slice_get nodes j) ≡ Some w → IsBetween configs log e j w
    by true here g =
        let it : after ≡ w = same_Some after w g in
        let there : n ≡ j = eqb-true n j here in
        subst (IsBetween configs log e j) it
        (subst (λ i. IsBetween configs log e i after) there (record { before = first; stood = each n first at_first; same = same; dials = dials }))
    by false other g = let stood = each j w g in record { before = w; stood = stood; same = refl; dials = others j w stood other }
