-- The attempts of a node's dialer as values: what they are told, and what a step of one comes to.
use Rattle.std.specs.Prelude.{◌≡◌, ℕ, Bool, true, false, not, cond, is_some, drop, take, length, List, [], ◌∷◌, ◌++◌, Option, Some, None}
use Rattle.std.specs.Option.{option_map}
use Rattle.p2p_base.specs.declared.key.Key.{Key}
use Rattle.p2p_address.specs.declared.ip.SocketAddr.{SocketAddr}
use Rattle.p2p_address.specs.declared.peer.Ingress.{Ingress}
use Rattle.p2p_address.specs.declared.peer.Ingress.TheVariants as ingress
use Rattle.p2p_tracker_directory.specs.Reserved.{peer_of}
use Rattle.p2p_tracker_directory.specs.declared.metadata.Metadata.{Metadata}
use Rattle.p2p_tracker_mailbox.specs.Mailboxes.{with_message_in}
use Rattle.p2p_tracker_mailbox.specs.declared.mailbox.Mailbox.{Mailbox}
use Rattle.p2p_tracker_mailbox.specs.declared.message.Message.TheVariants as message
use Rattle.p2p_gates.specs.AttemptTurns.{with_item, attempt_turn}
use Rattle.p2p_gates.specs.Attempting.{Attempting}
use Rattle.p2p_gates.specs.Stepping.{Turn}
use Rattle.p2p_gates.specs.declared.attempt.item.AttemptItem.{AttemptItem}
use Rattle.p2p_gates.specs.declared.attempt.item.AttemptItem.TheVariants as told
use Rattle.p2p_gates.specs.declared.stepped.Input.{Input}
use Rattle.p2p_gates.specs.declared.stepped.Input.TheVariants as input
use Rattle.p2p_gates.specs.declared.stepped.Outcome.{Outcome}
use Rattle.p2p_gates.specs.declared.stepped.Outcome.TheVariants as outcome
use Rattle.p2p_gates.specs.declared.stepped.Put.{Put}
use Rattle.p2p_gates.specs.declared.stepped.Put.TheVariants as put
use Rattle.p2p_gates.specs.declared.stepped.Stepped.{Stepped}
use Rattle.p2p_gates.specs.declared.stepped.Stepped.TheVariants as stepped
use Rattle.p2p_log.specs.declared.queue.Queue.TheVariants as queue
use Rattle.p2p_log.specs.declared.item.Item.{Item}
use Rattle.p2p_log.specs.declared.item.Item.TheVariants as item
use Rattle.p2p_log.specs.declared.end.End.{End}
use Rattle.p2p_log.specs.declared.entry.Reply.TheVariants as reply
use Rattle.p2p_log_rules.specs.declared.row.Row.{Row}
use Rattle.p2p_log_rules.specs.Attempting.{resolve_by, dial_answered_row}
use Rattle.p2p_log_rules.specs.Rows.{only}
use Rattle.p2p_net_queues.specs.Rows.{item_ends}
use Rattle.p2p_net_queues.specs.Tables.{AreBut}
use Rattle.p2p_net_gates.specs.declared.attempt.RunningAttempt.{RunningAttempt}
use Rattle.p2p_net_gates.specs.declared.attempt.Tried.{Tried}

abbrev pub is_name : Ingress → Bool
is_name (ingress.Socket s) = false
is_name (ingress.Dns host port) = true

-- one that has begun
abbrev pub running : Attempting Key → RunningAttempt
running a = record { actor = a; names = []; is_resolved = false; answer = None; link = None }

-- the key of an attempt that stands
abbrev pub dialed_key : Option RunningAttempt → Option Key
dialed_key None = None
dialed_key (Some a) = option_map peer_of a.actor.reserved

-- the link of which an attempt that stands has the dialing end
abbrev pub link_at : Option RunningAttempt → Option ℕ
link_at None = None
link_at (Some a) = a.link

-- ---- what it is told

-- it was told this under this name
abbrev pub told_under : ℕ × ℕ → AttemptItem → RunningAttempt → RunningAttempt
told_under name i a = record a { actor = with_item a.actor i; names = a.names ++ name ∷ [] }

-- as the first put of the entry k
abbrev pub with_told : ℕ → AttemptItem → RunningAttempt → RunningAttempt
with_told k i a = told_under (k, 0) i a

-- the row in which the attempt of this name, of this node, is told this too
abbrev pub told_in : ℕ → ℕ → Item → Row → Row
told_in n name i r = record r { puts = r.puts ++ (queue.Attempt n name, i) ∷ [] }

-- once it may have been told addresses: a name is looked up once
abbrev pub resolved : Ingress → Bool → ℕ → List SocketAddr → RunningAttempt → RunningAttempt
resolved (ingress.Dns host port) false k addresses a = record (with_told k (told.Addresses addresses) a) { is_resolved = true }
resolved _ _ k addresses a = a

-- what it is told of its dial
abbrev pub link_told : Bool → AttemptItem
link_told true = told.Linked
link_told false = told.Refused

-- once its dial may have been answered: it has an address, and that comes once
abbrev pub answered : Option SocketAddr → Bool → Bool → ℕ → RunningAttempt → RunningAttempt
answered (Some s) false links k a = record (with_told k (link_told links) a) { answer = Some k; link = cond links (Some k) a.link }
answered _ _ links k a = a

-- ---- its step

-- the names that a step takes of these, and those that it leaves
abbrev pub took_names : Input → List (ℕ × ℕ) → List (ℕ × ℕ) × List (ℕ × ℕ)
took_names input.Item names = (take 1 names, drop 1 names)
took_names _ names = ([], names)

abbrev pub has_ended : Attempting Key → Bool
has_ended a = not (is_some a.reserved)

-- the ends of these names, where it has ended, and the names that are left
abbrev pub ended : Attempting Key → List (ℕ × ℕ) → List End × List (ℕ × ℕ)
ended a names = cond (has_ended a) (item_ends names, []) ([], names)

-- whose reservation it gave back
abbrev pub released_key : Option (Put Key) → Option Key
released_key (Some (put.Release m)) = Some (peer_of m)
released_key _ = None

-- where a step ended with its reservation: the connection that is to be made over the link that answered its dial, beside this key, whose
-- reservation was given back; without such a link it is given back, too
abbrev pub handed : Outcome Key → Option Key → Option ℕ → Option Key × Option (ℕ × Metadata Key)
handed (outcome.Ready m) key None = (Some (peer_of m), None)
handed (outcome.Ready m) key (Some link) = (key, Some (link, m))
handed _ key answer = (key, None)

-- in the mailbox of its tracker
abbrev pub handed_way : Outcome Key → Option ℕ → Mailbox Key → Mailbox Key
handed_way (outcome.Ready m) None way = with_message_in way (message.Release m)
handed_way _ answer way = way

-- what it did, by what its actor did, and by the event that answered its dial
abbrev pub tried_by : Stepped Key → Attempting Key → Option ℕ → List (ℕ × ℕ) → Tried
tried_by stepped.Idle a answer names = record { row = only reply.Idle; released = None; ready = None }
tried_by (stepped.Served took p left o) a answer names = record {
  row = record { reply = reply.Ok; takes = (took_names took names).0; puts = []; ends = (ended a (took_names took names).1).0 };
  released = (handed o (released_key p) answer).0;
  ready = (handed o (released_key p) answer).1;
}

abbrev pub tried : Turn (Attempting Key) Key → Option ℕ → List (ℕ × ℕ) → Tried
tried turn answer names = tried_by turn.stepped turn.actor answer names

abbrev pub way_by : Stepped Key → Option ℕ → Mailbox Key → Mailbox Key
way_by stepped.Idle answer way = way
way_by (stepped.Served took p left o) answer way = handed_way o answer way

-- what waits in its tracker's mailbox then
abbrev pub way_after : Turn (Attempting Key) Key → Option ℕ → Mailbox Key
way_after turn answer = way_by turn.stepped answer turn.way

abbrev pub names_by : Stepped Key → Attempting Key → List (ℕ × ℕ) → List (ℕ × ℕ)
names_by stepped.Idle a names = names
names_by (stepped.Served took p left o) a names = (ended a (took_names took names).1).1

-- what it is then
abbrev pub after_turn : Turn (Attempting Key) Key → RunningAttempt → RunningAttempt
after_turn turn a = record a { actor = turn.actor; names = names_by turn.stepped turn.actor a.names }

-- ---- among the others

-- one that has ended is forgotten
abbrev pub unless_ended : RunningAttempt → Option RunningAttempt
unless_ended a = cond (has_ended a.actor) None (Some a)

-- what a step of the attempt of this name comes to
abbrev pub Tries : Option RunningAttempt → ℕ → ℕ → ℕ → List (ℕ × RunningAttempt) → List (ℕ × RunningAttempt) → Mailbox Key → Mailbox Key → Tried → Type 0
Tries None name at seed old new way after t = (t ≡ record { row = only reply.Gone; released = None; ready = None }) × (AreBut name None old new × (after ≡ way))
Tries (Some a) name at seed old new way after t =
    let turn = attempt_turn a.actor way at seed in
    (t ≡ tried turn a.answer a.names) × (AreBut name (unless_ended (after_turn turn a)) old new × (after ≡ way_after turn a.answer))

-- what it is told comes to
abbrev pub Resolves : Option RunningAttempt → ℕ → ℕ → ℕ → List SocketAddr → List (ℕ × RunningAttempt) → List (ℕ × RunningAttempt) → Row → Type 0
Resolves None k n name addresses old new r = (r ≡ only reply.Gone) × AreBut name None old new
Resolves (Some a) k n name addresses old new r =
    (r ≡ resolve_by a.actor.ingress a.is_resolved name n addresses) × AreBut name (Some (resolved a.actor.ingress a.is_resolved k addresses a)) old new

abbrev pub AnswersDial : Option RunningAttempt → ℕ → ℕ → ℕ → Bool → List (ℕ × RunningAttempt) → List (ℕ × RunningAttempt) → Row → Type 0
AnswersDial None k n name links old new r = (r ≡ only reply.Gone) × AreBut name None old new
AnswersDial (Some a) k n name links old new r =
    (r ≡ dial_answered_row a.actor.address (is_some a.answer) links name n) × AreBut name (Some (answered a.actor.address (is_some a.answer) links k a)) old new

-- that the keys were exchanged over its link, or were not: a put more of the row, where the attempt stands
abbrev pub Finishes : Option RunningAttempt → ℕ → ℕ → ℕ → Bool → List (ℕ × RunningAttempt) → List (ℕ × RunningAttempt) → Row → Row → Type 0
Finishes None k n name ok old new row after = (after ≡ row) × AreBut name None old new
Finishes (Some a) k n name ok old new row after =
    (after ≡ told_in n name (item.Finished ok) row) × AreBut name (Some (told_under (k, length row.puts) (told.Finished ok) a)) old new
