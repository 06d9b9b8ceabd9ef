-- A quota that the first of what comes skips, and what a peer tells of where others are dialed.
use Rattle.std.specs.Prelude.{ℕ, Bool, true, false, cond, is_ok}
use Rattle.p2p_flow_connection.specs.Limiting.{fresh}
use Rattle.p2p_runtime.specs.QuotaCheck.{rate_answer, after_rate}
use Rattle.p2p_runtime.specs.QuotaLaw.{Rate}
use Rattle.p2p_discovery_peer.specs.declared.peer.after_first.AfterFirst.{AfterFirst}
use Rattle.p2p_discovery_peer.specs.declared.peer.gossip.Gossip.{Gossip}
use Rattle.p2p_discovery_peer.specs.declared.peer.gossip.Gossip.TheVariants as gossip
use Rattle.p2p_discovery_peer.specs.declared.peer.gossip.GossipKind.{GossipKind}
use Rattle.p2p_discovery_peer.specs.declared.peer.gossip.GossipKind.TheVariants as kind

abbrev pub spares_first : Rate → AfterFirst
spares_first rate = record { limiter = fresh rate; has_come = false }

-- the first is admitted, and of each later one the quota decides
abbrev pub admits : AfterFirst → ℕ → Bool
admits q now = cond q.has_come (is_ok (rate_answer q.limiter now)) true

-- the first takes no cell
abbrev pub after_check : AfterFirst → ℕ → AfterFirst
after_check q now = record { limiter = cond q.has_come (after_rate q.limiter now) q.limiter; has_come = true }

abbrev pub kind_of : {P : Type 0} → Gossip P → GossipKind
kind_of (gossip.BitVec bits) = kind.BitVec
kind_of (gossip.Peers infos) = kind.Peers
