-- A muxer and its handle as contracts see them, and what is made of them.
use Rattle.std.specs.Prelude.{ℕ, Bool, false, Some, None, Result, Ok, Err}
use Rattle.p2p_base.specs.Queue.{empty_queue}
use Rattle.p2p_flow.specs.declared.plain.Polled.{Polled}
use Rattle.p2p_flow.specs.declared.plain.Polled.TheVariants as polled
use Rattle.p2p_mux.specs.Muxed.{Muxed, new_queues}
use Rattle.p2p_mux.specs.Prefixed.{OnSubchannel}
use Rattle.p2p_mux.specs.Received.{Reader}
use Rattle.p2p_mux.specs.declared.error.Error.{Error}

-- a muxer: the sender and the receiver that it wraps, and whether a step of it found no memory
pub record Wrapping (S R : Type 0) : Type 0 where
  pub sender : S
  pub receiver : R
  pub has_failed : Bool

-- a handle: the sender whose messages are prefixed, and how many messages wait for each subchannel at most
pub record Handle (S : Type 0) : Type 0 where
  pub sender : S
  pub capacity : ℕ

abbrev pub new_muxer : {S R : Type 0} → S → R → Wrapping S R
new_muxer sender receiver = record { sender = sender; receiver = receiver; has_failed = false }

module _ {S : Type 0} where
  -- the sender and the receiver of a subchannel
  abbrev pub halves : Handle S → ℕ → OnSubchannel S × Reader
  halves h s = (record { sender = h.sender; subchannel = s }, record { subchannel = s; capacity = h.capacity })

  -- what the answer to a request gives, where `answer` is the subchannel that was registered
  abbrev pub registered_as : Handle S → Result (Polled ℕ) Error → Result (Polled (OnSubchannel S × Reader)) Error
  registered_as h (Ok (polled.Ready s)) = Ok (polled.Ready (halves h s))
  registered_as h (Ok polled.Pending) = Ok polled.Pending
  registered_as h (Err e) = Err e

-- where a subchannel was registered, this holds of what is given
abbrev pub IfRegistered : {X : Type 0} → Result (Polled X) Error → (X → Type 0) → Type 0
IfRegistered (Ok (polled.Ready x)) Fact = Fact x
IfRegistered (Ok polled.Pending) Fact = Unit {0}
IfRegistered (Err e) Fact = Unit {0}

-- what is built: a muxer, its handle, and its queues
pub record Building (S R P : Type 0) : Type 0 where
  pub muxer : Wrapping S R
  pub handle : Handle S
  pub queues : Muxed P

module _ {S R P : Type 0} where
  -- a muxer over a sender and a receiver, without a backup, each of whose queues has so many places
  abbrev pub plain_building : S → R → ℕ → Building S R P
  plain_building sender receiver places = record {
    muxer = new_muxer sender receiver;
    handle = record { sender = sender; capacity = places };
    queues = new_queues None;
  }

  -- the same with an empty queue for a backup, which has as many places as each subchannel
  abbrev pub with_backup_of : Building S R P → Building S R P
  with_backup_of b = record {
    muxer = b.muxer;
    handle = b.handle;
    queues = record {
      control = b.queues.control;
      requests = b.queues.requests;
      routes = b.queues.routes;
      backup = Some (empty_queue b.handle.capacity);
      ended = b.queues.ended;
    };
  }
