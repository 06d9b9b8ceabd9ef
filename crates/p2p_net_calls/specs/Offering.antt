-- What a message that a node offers comes to, and what it makes of the node. No log: of the router's calls the log is a matter of its own.
use Rattle.std.specs.Prelude.{◌≡◌, ℕ, Bool, true, false, List, [], ◌∷◌, length, nat_lt, Option, Some, None}
use Rattle.std.specs.BTreeMap.{insert_entry}
use Rattle.std.specs.Ordering.{nat_cmp}
use Rattle.p2p_base.specs.declared.key.Key.{Key}
use Rattle.p2p_log.specs.declared.entry.Reply.TheVariants as reply
use Rattle.p2p_log.specs.declared.event.Recipients.{Recipients}
use Rattle.p2p_log.specs.declared.event.Recipients.TheVariants as recipients
use Rattle.p2p_log.specs.Copies.{keys_of_recipients}
use Rattle.p2p_log_rules.specs.declared.row.Checked.{Checked}
use Rattle.p2p_log_rules.specs.declared.row.Row.{Row}
use Rattle.p2p_log_rules.specs.Effect.{only, taking}
use Rattle.p2p_net_queues.specs.Tables as table
use Rattle.p2p_net_channels.specs.Channels.{capacity_at}
use Rattle.p2p_net_channels.specs.Senders.{keys_passed, retry_told, keys_metered}
use Rattle.p2p_net_channels.specs.declared.channels.Channels.{Channels}
use Rattle.p2p_net_router.specs.Peers.{names_taken, peers_known}
use Rattle.p2p_net_router.specs.Telling.{closed_reply}
use Rattle.p2p_net_router.specs.declared.router.Router.{Router}
use Rattle.p2p_net_router.specs.declared.telling.Telling.{Telling}
use Rattle.p2p_net_router.specs.declared.telling.Telling.TheVariants as telling
use Rattle.p2p_net_node.specs.Staying.{Stays}
use Rattle.p2p_net_node.specs.Routing as routing
use Rattle.p2p_net_node.specs.declared.node.Node.{Node}
use Rattle.p2p_net_calls.specs.declared.offers.Offered.{Offered}

-- ---- what is offered

-- whom a message on a channel is for
abbrev pub node_offered : Node → ℕ → Recipients → List Key
node_offered x c to = keys_of_recipients (peers_known x.router c) to

-- the list that waits for a channel is taken, where a message is for all
abbrev pub ListTaken : Recipients → ℕ → Router → Router → Option (ℕ × ℕ) → Type 0
ListTaken recipients.All c old new o = routing.TakesList c old new o
ListTaken (recipients.One k) c old new o = (o ≡ None) × (new ≡ old)
ListTaken (recipients.Some ks) c old new o = (o ≡ None) × (new ≡ old)

-- whether a quota that admits these of those admits none of some
abbrev pub is_refused : List Key → List Key → Bool
is_refused [] keys = false
is_refused (k ∷ ks) [] = true
is_refused (k ∷ ks) (j ∷ js) = false

-- that list is taken, and the quota of the channel is asked for each
pub record Offers (c at : ℕ) (to : Recipients) (old new : Node) (o : Offered) : Type 0 where
  pub list : ListTaken to c old.router new.router o.list
  pub refused : o.refused ≡ is_refused (node_offered old c to) (keys_passed old.channels c (node_offered old c to) at)
  pub admitted : o.admitted ≡ keys_passed old.channels c (node_offered old c to) at
  pub retry : o.retry ≡ retry_told old.channels c (node_offered old c to) at
  pub rest : new ≡ record old { router = new.router; channels = keys_metered c (node_offered old c to) at old.channels }

-- a row with the name of the list that was taken
abbrev pub listed : Option (ℕ × ℕ) → Row → Row
listed o r = taking (names_taken o) r

-- what an offer comes to, given what becomes of it then
pub record Follows (c at : ℕ) (to : Recipients) (Then : Offered → Node → Node → Row → Type 0) (old new : Node) (r : Row) : Type 0 where
  pub mid : Node
  pub offered : Offered
  pub row : Row
  pub offers : Offers c at to old mid offered
  pub comes : Then offered mid new row
  pub is : r ≡ listed offered.list row

-- on a channel that is registered
abbrev pub FollowsOn : Option ℕ → ℕ → ℕ → Recipients → (Offered → Node → Node → Row → Type 0) → Node → Node → Row → Type 0
FollowsOn None c at to Then old new r = Stays old new r (only reply.Gone)
FollowsOn (Some capacity) c at to Then old new r = Follows c at to Then old new r

-- ---- what is sent

-- to these keys, by whether the node has stopped
abbrev pub HandsBy : Bool → Telling → ℕ → ℕ → Bool → List ℕ → List Key → Node → Node → Row → Type 0
HandsBy true tells k c priority bytes keys old new r = Stays old new r (only (closed_reply tells old.router.number c keys))
HandsBy false tells k c priority bytes keys old new r =
    (new ≡ record old { router = new.router }) × routing.Sends k tells c priority bytes keys old.router new.router r

-- and by whether the message is longer than the node lets it be
abbrev pub SendsBy : Bool → Telling → ℕ → ℕ → Bool → List ℕ → List Key → Node → Node → Row → Type 0
SendsBy true tells k c priority bytes keys old new r = Stays old new r (only (reply.MessageTooLarge (length bytes) old.config.max_message_size))
SendsBy false tells k c priority bytes keys old new r = HandsBy old.stopped tells k c priority bytes keys old new r

-- by whether the channel's quota admits none of some
abbrev pub SendsOffered : Bool → ℕ → ℕ → Bool → List ℕ → List Key → Node → Node → Row → Type 0
SendsOffered true k c priority bytes keys old new r = Stays old new r (only (reply.Sent []))
SendsOffered false k c priority bytes keys old new r = SendsBy (nat_lt old.config.max_message_size (length bytes)) telling.Sent k c priority bytes keys old new r

abbrev pub Sends : ℕ → ℕ → ℕ → Bool → List ℕ → Recipients → Node → Node → Row → Type 0
Sends k c at priority bytes to old new r =
    FollowsOn (capacity_at old.channels c) c at to (λ o mid next row. SendsOffered o.refused k c priority bytes o.admitted mid next row) old new r

-- ---- what is checked

-- what the channels keep under this number
abbrev pub checked_with : ℕ → Checked → Channels → Channels
checked_with k checked ch = record ch { checks = insert_entry nat_cmp ch.checks k checked }

abbrev pub NotesCheck : Bool → ℕ → ℕ → Offered → Node → Node → Row → Type 0
NotesCheck true k c o old new r = Stays old new r (only (reply.Retry o.retry))
NotesCheck false k c o old new r =
    (r ≡ only (reply.Checked o.admitted)) × (new ≡ record old { channels = checked_with k (record { channel = c; keys = o.admitted }) old.channels })

abbrev pub Checks : ℕ → ℕ → ℕ → Recipients → Node → Node → Row → Type 0
Checks k c at to old new r = FollowsOn (capacity_at old.channels c) c at to (λ o mid next row. NotesCheck o.refused k c o mid next row) old new r

-- a node whose channels keep these checks
abbrev pub with_checks : List (ℕ × Checked) → Node → Node
with_checks m x = record x { channels = record x.channels { checks = m } }

-- to those whom a check admitted, where it waits
abbrev pub SpendsCheck : Option Checked → ℕ → Bool → List ℕ → Node → Node → Row → Type 0
SpendsCheck None k priority bytes old new r = Stays old new r (only reply.Gone)
SpendsCheck (Some c) k priority bytes old new r =
    SendsBy (nat_lt old.config.max_message_size (length bytes)) telling.Outcome k c.channel priority bytes c.keys old new r

pub record SendsChecked (k check : ℕ) (priority : Bool) (bytes : List ℕ) (old new : Node) (r : Row) : Type 0 where
  pub left : List (ℕ × Checked)
  pub spent : table.AreBut check None old.channels.checks left
  pub comes : SpendsCheck (table.at old.channels.checks check) k priority bytes (with_checks left old) new r
