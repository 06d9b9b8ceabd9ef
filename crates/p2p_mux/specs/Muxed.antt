-- The queues of a muxer as contracts see them, and what its handle and its receivers leave of them.
use Rattle.std.specs.Prelude.{ℕ, Bool, true, false, ◌&&◌, not, cond, is_some, List, [], ◌∷◌, ◌++◌, length, Option, Some, None, slice_get}
use Rattle.std.specs.BTreeMap.{is_at}
use Rattle.std.specs.Map.{lookup, set_value}
use Rattle.std.specs.Ordering.{nat_cmp}
use Rattle.p2p_base.specs.Queue.{Queue, empty_queue, oldest, without_oldest, closed_queue}
use Rattle.p2p_mux.specs.Requests.{answer_of, with_answer, answer_left, route_made}
use Rattle.p2p_mux.specs.declared.request.Answer.{Answer}
use Rattle.p2p_mux.specs.declared.request.Answer.TheVariants as answer
use Rattle.p2p_mux.specs.declared.request.Control.{Control}
use Rattle.p2p_mux.specs.declared.request.Control.TheVariants as control
use Rattle.p2p_mux.specs.declared.request.Request.{Request}
use Rattle.p2p_mux.specs.declared.routes.Route.{Route}

-- what waits for the muxer, the oldest first; the requests, each at its number; the routes, by their subchannels, which
-- keep what waits on them when the muxer ends; the backup's queue, if there is one, with the subchannels of its
-- messages; and whether the muxer has ended
pub record Muxed (P : Type 0) : Type 0 where
  pub control : List Control
  pub requests : List Request
  pub routes : List (ℕ × Route P)
  pub backup : Option (Queue (ℕ × (P × List ℕ)))
  pub ended : Bool

module _ {P : Type 0} where
  -- nothing was asked, and there is no route
  abbrev pub new_queues : Option (Queue (ℕ × (P × List ℕ))) → Muxed P
  new_queues backup = record { control = []; requests = []; routes = []; backup = backup; ended = false }

  -- ---- routes

  abbrev pub new_route : ℕ → ℕ → Route P
  new_route request places = record { request = request; messages = empty_queue places }

  abbrev pub route_in : List (ℕ × Route P) → ℕ → Option (Route P)
  route_in routes s = lookup (is_at (nat_cmp s)) routes

  abbrev pub with_messages : Route P → Queue (P × List ℕ) → Route P
  with_messages r messages = record { request = r.request; messages = messages }

  abbrev pub changed : (Queue (P × List ℕ) → Queue (P × List ℕ)) → Option (Route P) → List (ℕ × Route P) → ℕ
      → List (ℕ × Route P)
  changed f None routes s = routes
  changed f (Some r) routes s = set_value (is_at (nat_cmp s)) routes (with_messages r (f r.messages))

  -- the routes once the queue of a subchannel's route, if there is one, was changed
  abbrev pub changed_at : (Queue (P × List ℕ) → Queue (P × List ℕ)) → List (ℕ × Route P) → ℕ → List (ℕ × Route P)
  changed_at f routes s = changed f (route_in routes s) routes s

  abbrev pub oldest_on : Option (Route P) → Option (P × List ℕ)
  oldest_on None = None
  oldest_on (Some r) = oldest r.messages

  -- the subchannel has a route: a muxer that has ended has none
  abbrev pub has_route : Muxed P → ℕ → Bool
  has_route q s = not q.ended && is_some (route_in q.routes s)

  -- the oldest message that waits for a subchannel
  abbrev pub waiting_on : Muxed P → ℕ → Option (P × List ℕ)
  waiting_on q s = oldest_on (route_in q.routes s)

  -- after it was taken
  abbrev pub without_waiting : Muxed P → ℕ → Muxed P
  without_waiting q s = record {
    control = q.control;
    requests = q.requests;
    routes = changed_at without_oldest q.routes s;
    backup = q.backup;
    ended = q.ended;
  }

  -- ---- requests

  -- what became of the request of a number
  abbrev pub answer_at : Muxed P → ℕ → Answer
  answer_at q n = answer_of (slice_get q.requests n)

  -- after one more request, for a subchannel
  abbrev pub requested : Muxed P → ℕ → Muxed P
  requested q s = record {
    control = q.control ++ control.Register (length q.requests) s ∷ [];
    requests = q.requests ++ record { subchannel = s; answer = answer.Awaited } ∷ [];
    routes = q.routes;
    backup = q.backup;
    ended = q.ended;
  }

  abbrev pub with_requests : Muxed P → List Request → Muxed P
  with_requests q requests = record {
    control = q.control;
    requests = requests;
    routes = q.routes;
    backup = q.backup;
    ended = q.ended;
  }

  -- after the answer to the request of a number was asked for
  abbrev pub without_answer : Muxed P → ℕ → Muxed P
  without_answer q n = with_requests q (with_answer q.requests n (answer_left q.ended (answer_at q n)))

  -- once the receiver of a subchannel is gone: what waits is dropped, and a muxer that hasn't ended is told
  abbrev pub without_receiver : Muxed P → ℕ → Muxed P
  without_receiver q s = record {
    control = cond q.ended q.control (q.control ++ control.Deregister s ∷ []);
    requests = q.requests;
    routes = changed_at closed_queue q.routes s;
    backup = q.backup;
    ended = q.ended;
  }

  abbrev pub given_up_as : Option ℕ → Muxed P → Muxed P
  given_up_as None q = q
  given_up_as (Some s) q = without_receiver q s

  -- once a request was given up: it has no answer to give, and where it had made a route, the receiver is gone
  abbrev pub given_up : Muxed P → ℕ → Muxed P
  given_up q n =
      given_up_as (route_made (slice_get q.requests n)) (with_requests q (with_answer q.requests n answer.Taken))

  -- ---- the end

  -- once the muxer has ended: what it was asked is dropped, and answers and messages that wait stay
  abbrev pub ended_queues : Muxed P → Muxed P
  ended_queues q = record { control = []; requests = q.requests; routes = q.routes; backup = q.backup; ended = true }
