-- When the links stand for a log.
use Rattle.std.specs.Prelude.{◌≡◌, ℕ, List}
use Rattle.p2p_log.specs.declared.config.Config.{Config}
use Rattle.p2p_log.specs.declared.queue.Queue.TheVariants as queue
use Rattle.p2p_log.specs.declared.queue.Side.{Side}
use Rattle.p2p_log.specs.declared.entry.Entry.{Entry}
use Rattle.p2p_log_rules.specs.Cutting.{is_cut}
use Rattle.p2p_log_rules.specs.Dropping.{is_dropped}
use Rattle.p2p_log_rules.specs.Links.{openings_of}
use Rattle.p2p_log_rules.specs.Dialed.{dialer_of}
use Rattle.p2p_net_queues.specs.Lines.{HoldsLines}
use Rattle.p2p_net_queues.specs.Tables as table
use Rattle.p2p_net_links.specs.Cutting.{is_cut_at}
use Rattle.p2p_net_links.specs.Dropping.{is_dropped_at}
use Rattle.p2p_net_links.specs.Links.{way_of}
use Rattle.p2p_net_links.specs.declared.links.Links.{Links}

-- each direction of each link holds its line, and it is kept who dialed it, between whom keys are exchanged over it, which of its ends
-- were dropped, and whether it was cut
pub record LinksStand (configs : List Config) (log : List Entry) (l : Links) : Type 0 where
  pub waits : (s : Side) → HoldsLines (λ link. queue.Link link s) log (way_of l s)
  pub dialers : (k : ℕ) → table.at l.dialers k ≡ dialer_of log k
  pub openings : (k : ℕ) → table.at l.openings k ≡ openings_of log k
  pub dropped : (link : ℕ) (s : Side) → is_dropped_at l s link ≡ is_dropped log link s
  pub cut : (link : ℕ) → is_cut_at l link ≡ is_cut log link
