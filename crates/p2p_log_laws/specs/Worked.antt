-- Scripts with the logs that they have, written out by hand.
use Rattle.std.specs.Prelude.{ℕ, true, false, List, [], ◌∷◌}
use Rattle.p2p_base.specs.declared.key.Key.{Key}
use Rattle.p2p_log.specs.declared.config.Config.{Config}
use Rattle.p2p_log.specs.declared.queue.Queue.{Queue}
use Rattle.p2p_log.specs.declared.queue.Queue.TheVariants as queue
use Rattle.p2p_log.specs.declared.item.Item.{Item}
use Rattle.p2p_log.specs.declared.item.Item.TheVariants as item
use Rattle.p2p_log.specs.declared.end.Cause.TheVariants as cause
use Rattle.p2p_log.specs.declared.end.End.{End}
use Rattle.p2p_log.specs.declared.end.End.TheVariants as end
use Rattle.p2p_log.specs.declared.end.Outcome.TheVariants as outcome
use Rattle.p2p_log.specs.declared.entry.Entry.{Entry}
use Rattle.p2p_log.specs.declared.entry.Reply.{Reply}
use Rattle.p2p_log.specs.declared.entry.Reply.TheVariants as reply
use Rattle.p2p_log.specs.declared.event.Act.{Act}
use Rattle.p2p_log.specs.declared.event.Act.TheVariants as act
use Rattle.p2p_log.specs.declared.event.Event.{Event}
use Rattle.p2p_log.specs.declared.event.Recipients.TheVariants as recipients

abbrev pub key : ℕ → Key
key k = record { 0 = k }

-- a node of this key, for two peers in each of four sets
abbrev pub node_of : ℕ → Config
node_of k = record {
  public_key = key k;
  max_peers_per_set = 2;
  max_message_size = 1024;
  mailbox_size = 4;
  tracked_peer_sets = 4;
  send_batch_size = 8;
  ping_frequency = 5000000000;
  allow_private_ips = true;
  allow_dns = true;
  bypass_ip_check = false;
  peer_connection_cooldown = 1000000000;
  block_duration = 3600000000000;
  max_concurrent_handshakes = 1024;
  allowed_handshake_rate_per_ip = record { burst = 16; period = 62500000 };
  allowed_handshake_rate_per_subnet = record { burst = 128; period = 7812500 };
  handshake_timeout = 5000000000;
  dial_timeout = 15000000000;
  dial_frequency = 500000000;
}

abbrev pub event_of : Act → Event
event_of a = record { at = 0; seed = 0; act = a }

abbrev pub entry : Act → Reply → List (ℕ × ℕ) → List (Queue × Item) → List End → Entry
entry a r takes puts ends = record { event = event_of a; reply = r; takes = takes; puts = puts; ends = ends }

-- the letters of 'hello'
abbrev pub hello : List ℕ
hello = 104 ∷ 101 ∷ 108 ∷ 108 ∷ 111 ∷ []

-- their frame on channel 7
abbrev pub hello_frame : List ℕ
hello_frame = 0 ∷ 7 ∷ 5 ∷ hello

abbrev pub register : ℕ → Act
register n = act.Register 7 n (record { burst = 1; period = 1000000000 })

abbrev pub send_hello : Act
send_hello = act.Send hello 7 0 false (recipients.One (key 2))

abbrev pub script_of : List Entry → List Event
script_of [] = []
script_of (e ∷ es) = e.event ∷ script_of es

-- ---- drops

abbrev pub one_node : List Config
one_node = node_of 1 ∷ []

-- what is sent before the start is dropped at once
abbrev pub drop_before_start : List Entry
drop_before_start =
    entry (register 0) (reply.Capacity 8) [] [] []
    ∷ entry send_hello (reply.Sent (key 2 ∷ [])) [] [] (end.Copy 1 0 (outcome.Dropped cause.Unbound) ∷ [])
    ∷ []

-- what is sent to a peer without a connection is dropped by the router
abbrev pub drop_without_connection : List Entry
drop_without_connection =
    entry (register 0) (reply.Capacity 8) [] [] []
    ∷ entry (act.Start 0) reply.Ok [] ((queue.Router 0, item.Subscribe 7) ∷ []) []
    ∷ entry send_hello (reply.Sent (key 2 ∷ [])) [] ((queue.Router 0, item.Content 7 hello_frame false 2 (key 2 ∷ [])) ∷ []) []
    ∷ entry (act.Router 0) reply.Ok ((1, 0) ∷ []) ((queue.Peers 0 7, item.Peers []) ∷ []) []
    ∷ entry (act.Router 0) reply.Ok ((2, 0) ∷ []) [] (end.Copy 2 0 (outcome.Dropped cause.NoConnection) ∷ [])
    ∷ []
