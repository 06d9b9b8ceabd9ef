-- A node's tracker before anything was asked.
use Rattle.std.specs.Prelude.{◌≡◌, []}
use Rattle.p2p_tracker_directory.specs.Stands.{StandsFor}
use Rattle.p2p_tracker_mailbox.specs.Mailboxes.{new_mailbox}
use Rattle.p2p_tracker.specs.Tracking.{new_tracking}
use Rattle.p2p_log.specs.declared.config.Config.{Config}
use Rattle.p2p_log.specs.declared.queue.Queue.{Queue}
use Rattle.p2p_log_rules.specs.Tracking.{key_cmp, tracker_rules_of}
use Rattle.p2p_net_queues.specs.Board.{held}
use Rattle.p2p_net_tracker.specs.declared.tracker.Tracker.{Tracker}

-- what a new tracker is
pub record IsNew (c : Config) (t : Tracker) : Type 0 where
  pub stands : StandsFor key_cmp t.actor.directory []
  pub actor : t.actor ≡ new_tracking t.actor.directory c.peer_connection_cooldown
  pub rules : t.actor.directory.rules ≡ tracker_rules_of c
  pub mailbox : t.mailbox ≡ new_mailbox c.mailbox_size
  pub local : t.oracle.local ≡ c.public_key
  pub most : t.oracle.max_peers_per_set ≡ c.max_peers_per_set
  pub names : t.names ≡ []
  pub tickets : t.tickets ≡ record { questions = []; updates = []; blocked = [] }
  pub questions : t.questions ≡ []
  pub answered : t.answered ≡ []
  pub ended : t.ended ≡ []
  pub told : (q : Queue) → held t.told q ≡ []
