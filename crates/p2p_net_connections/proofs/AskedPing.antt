-- The connections once one was asked whether it admits a ping.
use Rattle.std.proofs.Common.{◌≡◌, ℕ, List, Some, ap, sym, ◌∙◌}
use Rattle.std.specs.Map.{set_value}
use Rattle.std.specs.BTreeMap.{is_at}
use Rattle.std.specs.Ordering.{nat_cmp}
use Rattle.p2p_runtime.specs.QuotaKept.{Kept}
use Rattle.p2p_runtime.specs.QuotaCheck.{after_rate}
use Rattle.p2p_net_queues.specs.Tables.{at}
use Rattle.p2p_net_connections.specs.Connections.{metered_on, ping_metered}
use Rattle.p2p_net_connections.specs.declared.connections.Connection.{Connection}
use Rattle.p2p_net_connections.specs.declared.connections.Connections.{Connections}

pub asked_is : (cs : Connections) (c : Connection) (conn now : ℕ) (kept : Kept) (m : List (ℕ × Connection)) → at cs.spawned conn ≡ Some c → kept ≡ after_rate c.pings now
    → m ≡ set_value (is_at (nat_cmp conn)) cs.spawned (record c { pings = kept }) → record cs { spawned = m } ≡ ping_metered conn now cs
asked_is cs c conn now kept m is after set =
    ap (λ l. record cs { spawned = l })
    (set ∙ (ap (λ k. set_value (is_at (nat_cmp conn)) cs.spawned (record c { pings = k })) after ∙ ap (λ o. metered_on o conn now cs.spawned) (sym is)))
