-- When the links hold what is left of what stood in queues, and the links with more ends dropped.
use Rattle.std.specs.Prelude.{◌≡◌, ℕ, List, [], ◌∷◌, filter}
use Rattle.p2p_log.specs.declared.queue.Queue.TheVariants as queue
use Rattle.p2p_log.specs.declared.queue.Side.{Side}
use Rattle.p2p_log.specs.declared.item.Envelope.{Envelope}
use Rattle.p2p_log.specs.Lines.{stands_in}
use Rattle.p2p_log_rules.specs.Dropping.{LinkEnd}
use Rattle.p2p_net_queues.specs.Tables.{waiting}
use Rattle.p2p_net_links.specs.Dropping.{end_dropped}
use Rattle.p2p_net_links.specs.Links.{way_of}
use Rattle.p2p_net_links.specs.declared.links.Links.{Links}

-- each direction of each link holds those of these that stand in its queue
pub record LinksLeft (l : Links) (items : List Envelope) : Type 0 where
  pub ways : (s : Side) (link : ℕ) → waiting (way_of l s) link ≡ filter (stands_in (queue.Link link s)) items

-- these ends are dropped, one after another
abbrev pub all_dropped : List LinkEnd → Links → Links
all_dropped [] l = l
all_dropped (e ∷ es) l = all_dropped es (end_dropped e.0 e.1 l)
