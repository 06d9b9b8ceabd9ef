-- The half of a connection that the code finds is that of the log.
use Rattle.std.proofs.Common.{◌≡◌, ℕ, List, Option, Some, None, refl, ap, ◌∙◌}
use Rattle.std.specs.Option.{option_map}
use Rattle.p2p_log.specs.declared.config.Config.{Config}
use Rattle.p2p_log.specs.declared.entry.Entry.{Entry}
use Rattle.p2p_log_rules.specs.Connections.{half_over, half_of, live_connection, live_half}
use Rattle.p2p_log_rules.specs.Spawning.{Spawned}
use Rattle.p2p_log_rules.proofs.Connections.{half_of-live}
use Rattle.p2p_net_connections.specs.Stands.{ConnectionsStand}
use Rattle.p2p_net_connections.specs.declared.connections.Connections.{Connections}
use Rattle.p2p_net_links.specs.Stands.{LinksStand}
use Rattle.p2p_net_links.specs.declared.links.Links.{Links}
use Rattle.p2p_net_connecting.specs.Connecting.{half_in, half_by}

pub half_is : (configs : List Config) (log : List Entry) (n conn : ℕ) (cs : Connections) (l : Links) → ConnectionsStand configs log n cs → LinksStand configs log l → half_by n cs l conn ≡ live_half log n conn
half_is configs log n conn cs l s t = ap (half_in n l) (s.spawned conn) ∙ (over (live_connection log n conn) ∙ half_of-live log n conn)
  where
    over : (o : Option Spawned) → half_in n l o ≡ half_of log n o
    over None = refl
    over (Some c) = ap (option_map (half_over n c)) (t.dialers c.link)
