-- All that is told of a lawful log, in one record: a field for each law.
use Rattle.std.specs.Prelude.{ℕ, List}
use Rattle.p2p_base.specs.declared.key.Key.{Key}
use Rattle.p2p_log.specs.declared.config.Config.{Config}
use Rattle.p2p_log.specs.declared.entry.Entry.{Entry}
use Rattle.p2p_log_laws.specs.Admitted.{EachIsAdmitted, ChecksAreAdmitted, EachIsChecked, ChecksAreSpentOnce}
use Rattle.p2p_log_laws.specs.Beginning.{EachBeginsReserved}
use Rattle.p2p_log_laws.specs.Beginnings.{EachBeginningIsLawful}
use Rattle.p2p_log_laws.specs.Causes.{EachDropShowsItsCause}
use Rattle.p2p_log_laws.specs.Delivered.{EachIsDelivery, EachDeliveredIsRead}
use Rattle.p2p_log_laws.specs.Endings.{EachEndShows, EachEndsOne, EachIsEndedOnce, ReleasesAreTimely}
use Rattle.p2p_log_laws.specs.Fates.{EachHasFate, WaitingIsTrue, DroppedIsTrue, DeliveredIsTrue}
use Rattle.p2p_log_laws.specs.Grants.{GrantsAlternate, HasOneHolder, EachIsReleased}
use Rattle.p2p_log_laws.specs.Idling.{EachStepServesFirst}
use Rattle.p2p_log_laws.specs.KilledSince.{EachKillHasItsCause}
use Rattle.p2p_log_laws.specs.Kills.{EachKillShowsItsCause}
use Rattle.p2p_log_laws.specs.Leading.{ConnectionsAreOne, ConnectionsLead, EndsMeet}
use Rattle.p2p_log_laws.specs.Leaving.{LeaveInOrder}
use Rattle.p2p_log_laws.specs.Listed.{ListsAreCurrent}
use Rattle.p2p_log_laws.specs.NodeGrants.{granting}
use Rattle.p2p_log_laws.specs.OneAnswer.{HasOneAnswer}
use Rattle.p2p_log_laws.specs.OneEnd.{EachHasOneEnd, NothingElseEnds}
use Rattle.p2p_log_laws.specs.Order.{AreDeliveredInOrderOverOne, AreDeliveredInOrderOfConnections, EachWentOver}
use Rattle.p2p_log_laws.specs.Releasing.{EachIsReleasedAsItEnds}
use Rattle.p2p_log_laws.specs.Subscribing.{EachRegistersOnce, EachStartSettles, EachStartSubscribes}

-- each beginning of the log is lawful too, so that each of these held at each earlier moment; each step of an actor is
-- what that makes of its first input, and idle exactly where it acts and none is ready; each start puts the subscriptions of the channels that were
-- registered before it, of which none is so twice, and none later; items leave a queue in their order; each send is for those of the keys that it is
-- offered to that its channel's quota admits, and each message for a check for those that this admitted, once; the newest list that a channel was told of, to which a
-- message for all is offered, has the peers that are connected; each copy of each accepted send has exactly one end: delivered
-- once, or waiting in a queue, or dropped; what is delivered was sent, is read, and in order; each drop shows its cause; the fate
-- of each copy, which a report tells, is true; each key that is reserved at a node is held by one thing there, or its one release
-- waits, and the entry in which that thing ends puts this; each handshake waits for one answer at a time, is told once how the
-- exchange over its link ended, and asks for its peer once after that; each connection that a spawner made leads to the peer that
-- is reserved for it, is the only one of its node over its link and, while it has not ended, with its peer, meets the one of its
-- peer, and begins while its key is reserved; each kill of one shows its cause, which came since its key was granted; and each end
-- of one shows its reason, comes once, and is heard of before the next with its peer
pub record IsAccounted (configs : List Config) (log : List Entry) : Type 0 where
  pub beginnings : EachBeginningIsLawful configs log
  pub serves : EachStepServesFirst configs log
  pub starts : EachStartSubscribes log
  pub registered_once : EachRegistersOnce configs log
  pub settled : EachStartSettles configs log
  pub admitted : EachIsAdmitted configs log
  pub checks : ChecksAreAdmitted log
  pub checked : EachIsChecked configs log
  pub spent : ChecksAreSpentOnce log
  pub lists : ListsAreCurrent log
  pub in_order : LeaveInOrder log
  pub one_end : EachHasOneEnd log
  pub nothing_else : NothingElseEnds log
  pub delivery : EachIsDelivery configs log
  pub read : EachDeliveredIsRead configs log
  pub link : AreDeliveredInOrderOverOne configs log
  pub connections : AreDeliveredInOrderOfConnections configs log
  pub connection : EachWentOver configs log
  pub causes : EachDropShowsItsCause configs log
  pub fates : EachHasFate log
  pub waiting : WaitingIsTrue log
  pub dropped : DroppedIsTrue log
  pub delivered : DeliveredIsTrue log
  pub alternate : (n : ℕ) (key : Key) → GrantsAlternate (granting configs n key) log
  pub holder : (n : ℕ) (key : Key) → HasOneHolder (granting configs n key) log
  pub released : (n : ℕ) (key : Key) → EachIsReleased (granting configs n key) log
  pub given_back : EachIsReleasedAsItEnds configs log
  pub answered : (n name : ℕ) → HasOneAnswer n name log
  pub leads : ConnectionsLead configs log
  pub once : ConnectionsAreOne log
  pub ends : EndsMeet configs log
  pub begins : EachBeginsReserved configs log
  pub kills : EachKillShowsItsCause configs log
  pub killed_since : EachKillHasItsCause configs log
  pub shown : EachEndShows configs log
  pub one : EachEndsOne log
  pub ended_once : EachIsEndedOnce log
  pub timely : ReleasesAreTimely log
