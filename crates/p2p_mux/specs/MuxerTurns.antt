-- The turns of a muxer: what it was asked goes before messages, and each message goes to one queue or is dropped for
-- one cause.
use Rattle.std.specs.Prelude.{ℕ, Bool, true, false, List, drop, Option, Some, None, Result, Ok, Err, slice_get}
use Rattle.std.specs.BTreeMap.{is_at, insert_entry}
use Rattle.std.specs.Map.{set_value, remove_entry}
use Rattle.std.specs.Ordering.{nat_cmp}
use Rattle.p2p_base.specs.Queue.{Queue, enqueue_answer, enqueued}
use Rattle.p2p_base.specs.declared.outcome.Sent.{Sent}
use Rattle.p2p_base.specs.declared.outcome.Sent.TheVariants as sent
use Rattle.p2p_base.specs.declared.policy.Keep.TheVariants.{Refuse}
use Rattle.p2p_flow.specs.declared.plain.Polled.{Polled}
use Rattle.p2p_flow.specs.declared.plain.Polled.TheVariants as polled
use Rattle.p2p_wire.specs.Varint.{u64_at}
use Rattle.p2p_wire.specs.declared.error.CodecError.{CodecError}
use Rattle.p2p_mux.specs.Muxed.{Muxed, new_route, route_in, with_messages, answer_at, ended_queues}
use Rattle.p2p_mux.specs.Requests.{with_answer}
use Rattle.p2p_mux.specs.declared.request.Answer.{Answer}
use Rattle.p2p_mux.specs.declared.request.Answer.TheVariants as answer
use Rattle.p2p_mux.specs.declared.request.Control.{Control}
use Rattle.p2p_mux.specs.declared.request.Control.TheVariants as control
use Rattle.p2p_mux.specs.declared.routes.Route.{Route}
use Rattle.p2p_mux.specs.declared.stepped.DropCause.TheVariants as cause
use Rattle.p2p_mux.specs.declared.stepped.MuxStepped.{MuxStepped}
use Rattle.p2p_mux.specs.declared.stepped.MuxStepped.TheVariants as stepped

-- a turn that reads no receiver: what the step answers, and what the queues are then
pub record Turn (P : Type 0) : Type 0 where
  pub stepped : MuxStepped
  pub queues : Muxed P

-- what becomes of a message by what the queue of its route answers
abbrev pub routed_as : {X : Type 0} → ℕ → ℕ → Sent X → MuxStepped
routed_as n s sent.Ok = stepped.Routed n s
routed_as n s sent.Backoff = stepped.Routed n s
routed_as n s (sent.Rejected m) = stepped.Dropped (cause.SubchannelFull s)
routed_as n s (sent.Closed m) = stepped.Dropped (cause.NoRoute s)

-- the same by what the backup's queue answers
abbrev pub backed_up_as : {X : Type 0} → ℕ → Sent X → MuxStepped
backed_up_as s sent.Ok = stepped.BackedUp s
backed_up_as s sent.Backoff = stepped.BackedUp s
backed_up_as s (sent.Rejected m) = stepped.Dropped (cause.BackupFull s)
backed_up_as s (sent.Closed m) = stepped.Dropped (cause.NoRoute s)

module _ {P : Type 0} where
  -- ---- what the muxer was asked

  abbrev pub without_control : Muxed P → Muxed P
  without_control q = record {
    control = drop 1 q.control;
    requests = q.requests;
    routes = q.routes;
    backup = q.backup;
    ended = q.ended;
  }

  -- a route is made, with so many places
  abbrev pub registers : ℕ → ℕ → ℕ → Muxed P → Turn P
  registers n s places q = record {
    stepped = stepped.Registered n s;
    queues = record {
      control = q.control;
      requests = with_answer q.requests n answer.Registered;
      routes = insert_entry nat_cmp q.routes s (new_route n places);
      backup = q.backup;
      ended = q.ended;
    };
  }

  -- a route stands already
  abbrev pub refuses : ℕ → ℕ → Muxed P → Turn P
  refuses n s q = record {
    stepped = stepped.Refused n s;
    queues = record {
      control = q.control;
      requests = with_answer q.requests n answer.Refused;
      routes = q.routes;
      backup = q.backup;
      ended = q.ended;
    };
  }

  -- a request is served, unless it was given up
  abbrev pub register_turn : Answer → Option (Route P) → ℕ → ℕ → ℕ → Muxed P → Turn P
  register_turn answer.Awaited None n s places q = registers n s places q
  register_turn answer.Awaited (Some r) n s places q = refuses n s q
  register_turn answer.Registered r n s places q = record { stepped = stepped.GivenUp n s; queues = q }
  register_turn answer.Refused r n s places q = record { stepped = stepped.GivenUp n s; queues = q }
  register_turn answer.Taken r n s places q = record { stepped = stepped.GivenUp n s; queues = q }

  abbrev pub control_turn : Control → ℕ → Muxed P → Turn P
  control_turn (control.Register n s) places q = register_turn (answer_at q n) (route_in q.routes s) n s places q
  control_turn (control.Deregister s) places q = record {
    stepped = stepped.Deregistered s;
    queues = record {
      control = q.control;
      requests = q.requests;
      routes = remove_entry (is_at (nat_cmp s)) q.routes;
      backup = q.backup;
      ended = q.ended;
    };
  }

  -- ---- a message

  -- it goes to the queue of its route
  abbrev pub routes_on : Route P → ℕ → P × List ℕ → Muxed P → Turn P
  routes_on r s m q = record {
    stepped = routed_as r.request s (enqueue_answer Refuse r.messages m);
    queues = record {
      control = q.control;
      requests = q.requests;
      routes = set_value (is_at (nat_cmp s)) q.routes (with_messages r (enqueued Refuse r.messages m));
      backup = q.backup;
      ended = q.ended;
    };
  }

  -- without a route it goes to the backup's queue, if there is one
  abbrev pub backs_up : Option (Queue (ℕ × (P × List ℕ))) → ℕ → P × List ℕ → Muxed P → Turn P
  backs_up None s m q = record { stepped = stepped.Dropped (cause.NoRoute s); queues = q }
  backs_up (Some b) s m q = record {
    stepped = backed_up_as s (enqueue_answer Refuse b (s, m));
    queues = record {
      control = q.control;
      requests = q.requests;
      routes = q.routes;
      backup = Some (enqueued Refuse b (s, m));
      ended = q.ended;
    };
  }

  abbrev pub route_turn : Option (Route P) → ℕ → P × List ℕ → Muxed P → Turn P
  route_turn (Some r) s m q = routes_on r s m q
  route_turn None s m q = backs_up q.backup s m q

  -- the subchannel and the payload that its bytes say; bytes without a prefix are dropped
  abbrev pub parsed_turn : Result (ℕ × List ℕ) CodecError → P → Muxed P → Turn P
  parsed_turn (Err e) from q = record { stepped = stepped.Dropped cause.PrefixBad; queues = q }
  parsed_turn (Ok (s, payload)) from q = route_turn (route_in q.routes s) s (from, payload) q

  abbrev pub message_turn : P × List ℕ → Muxed P → Turn P
  message_turn m q = parsed_turn (u64_at m.1) m.0 q

  -- ---- a step

  -- what the receiver gives
  abbrev pub received_turn : {E : Type 0} → Result (Polled (P × List ℕ)) E → Muxed P → Turn P
  received_turn (Ok (polled.Ready m)) q = message_turn m q
  received_turn (Ok polled.Pending) q = record { stepped = stepped.Idle; queues = q }
  received_turn (Err e) q = record { stepped = stepped.Ended; queues = ended_queues q }

-- a turn: what the step answers, and what the queues and the receiver's way are then
pub record WholeTurn (P W : Type 0) : Type 0 where
  pub stepped : MuxStepped
  pub queues : Muxed P
  pub way : W

module _ {P W : Type 0} where
  abbrev pub on_way : W → Turn P → WholeTurn P W
  on_way w t = record { stepped = t.stepped; queues = t.queues; way = w }

  -- the oldest that the muxer was asked, or else what its receiver gives, which leaves its way so
  abbrev pub open_turn : {E : Type 0} → Option Control → ℕ → Muxed P → W → Result (Polled (P × List ℕ)) E → W
      → WholeTurn P W
  open_turn (Some c) places q w received after = on_way w (control_turn c places (without_control q))
  open_turn None places q w received after = on_way after (received_turn received q)

  abbrev pub turn_by : {E : Type 0} → Bool → ℕ → Muxed P → W → Result (Polled (P × List ℕ)) E → W → WholeTurn P W
  turn_by true places q w received after = record { stepped = stepped.Ended; queues = q; way = w }
  turn_by false places q w received after = open_turn (slice_get q.control 0) places q w received after

  -- the turn of a muxer whose routes have so many places, where its receiver would give `received` and leave its way
  -- `after`: one that has ended takes nothing
  abbrev pub mux_turn : {E : Type 0} → ℕ → Muxed P → W → Result (Polled (P × List ℕ)) E → W → WholeTurn P W
  mux_turn places q w received after = turn_by q.ended places q w received after
