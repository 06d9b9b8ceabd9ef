-- The shapes of what attempts are told, and of their steps: none moves a copy, but those end that are in flight towards an end of a link
-- that an attempt drops.
use Rattle.std.proofs.Common.{◌≡◌, ℕ, Bool, true, false, cond, List, [], ◌∷◌, ◌++◌, map, length, Option, Some, None, inl, inr, refl, ap, ◌∙◌}
use Rattle.std.specs.Prelude.{slice_get, ◌||◌, nat_le, is_some}
use Rattle.p2p_log_rules.proofs.Bools.{or_true}
use Rattle.p2p_base.specs.declared.key.Key.{Key}
use Rattle.p2p_address.specs.declared.ip.SocketAddr.{SocketAddr}
use Rattle.p2p_address.specs.declared.peer.Ingress.{Ingress}
use Rattle.p2p_address.specs.declared.peer.Ingress.TheVariants as ingress
use Rattle.p2p_log.specs.declared.config.Config.{Config}
use Rattle.p2p_log.specs.declared.queue.Queue.{Queue}
use Rattle.p2p_log.specs.declared.queue.Queue.TheVariants as queue
use Rattle.p2p_log.specs.declared.item.Item.{Item}
use Rattle.p2p_log.specs.declared.item.Item.TheVariants as item
use Rattle.p2p_log.specs.declared.item.Envelope.{Envelope}
use Rattle.p2p_log.specs.declared.entry.Entry.{Entry}
use Rattle.p2p_log.specs.declared.entry.Reply.{Reply}
use Rattle.p2p_log.specs.declared.entry.Reply.TheVariants as reply
use Rattle.p2p_log.specs.declared.event.Act.{Act}
use Rattle.p2p_log.specs.declared.event.Act.TheVariants as act
use Rattle.p2p_log.specs.QueueCode.{same_queue}
use Rattle.p2p_log.specs.Lines.{name_of, line}
use Rattle.p2p_log.specs.Sending.{keys_sent, sending_of}
use Rattle.p2p_log.proofs.Queues.{same_queue-refl}
use Rattle.p2p_log_rules.specs.declared.row.Row.{Row}
use Rattle.p2p_log_rules.proofs.Dropping.{all_of, drops_of-attempt}
use Rattle.p2p_log_rules.specs.Dropping.{LinkEnd, other_side, dialing_end, dropping, attempt_step_row}
use Rattle.p2p_log_rules.specs.Puts.{gave_up}
use Rattle.p2p_log_rules.specs.Effect.{entry_of}
use Rattle.p2p_log_rules.specs.Facts.{is_up, key_at}
use Rattle.p2p_log_rules.specs.Rows.{only, is_spawner_full, taken_row}
use Rattle.p2p_log_rules.specs.Attempting.{Attempt, dial_rules_at, attempts_of, resolved, given_up_row, resolved_row, handed_on_row, linked_row, attempt_took_row, attempt_turn, attempt_by, attempt_row, attempt_told_row, resolve_by, resolve_row, link_item, dial_answered_row, refuse_row, connected_row, connect_row}
use Rattle.p2p_log_laws.proofs.Reaching.{in_flight, writes, ends_in}
use Rattle.p2p_log_laws.proofs.DropShape.{attempt_aside, dropping_shape}
use Rattle.p2p_log_laws.proofs.LineShape.{Within, still_within, ended_within, asking_within}
use Rattle.p2p_log_laws.proofs.Shape.{Shape, IsQuiet, quiet_laws, still, no_moves}

-- ---- its step

module _ (configs : List Config) (log : List Entry) (e n : ℕ) where
  abbrev a : Act
  a = act.Attempt e n

  abbrev q : Queue
  q = queue.Attempt n e

  written : ends_in configs log a q ≡ true
  written = ap (λ b. b || in_flight (dialing_end log n e) q) (same_queue-refl q)

  asks : writes configs log a (queue.Tracker n) ≡ true
  asks = ap (λ b. b || (same_queue (queue.Spawner n) (queue.Tracker n) || same_queue q (queue.Tracker n))) (same_queue-refl (queue.Tracker n))

  spawns : writes configs log a (queue.Spawner n) ≡ true
  spawns = ap (λ b. same_queue (queue.Tracker n) (queue.Spawner n) || (b || same_queue q (queue.Spawner n))) (same_queue-refl (queue.Spawner n))

  -- it takes these, of which it is left these, and ends
  given_up_within : (took left : List Envelope) → line log q ≡ took ++ left → (key : Key) → Within configs log a q (given_up_row n key (map name_of took) left)
  given_up_within took left first key = ended_within configs log a q (same_queue-refl q) refl (λ r. refl) written took left first ((queue.Tracker n, item.Release key) ∷ []) ((refl, refl), tt) (asks, tt)

  -- it takes this, and goes on
  taken_within : (x : Envelope) (rest : List Envelope) → line log q ≡ x ∷ rest → Within configs log a q (taken_row (name_of x))
  taken_within x rest first = asking_within configs log a q (same_queue-refl q) refl (λ r. refl) x rest first [] tt tt

  -- its keys were exchanged
  ready_within : (full : Bool) (key : Key) (link : ℕ) (x : Envelope) (rest : List Envelope) → line log q ≡ x ∷ rest → Within configs log a q (handed_on_row n full key link (name_of x) rest)
  ready_within true key link x rest first = given_up_within (x ∷ []) rest first key
  ready_within false key link x rest first =
      ended_within configs log a q (same_queue-refl q) refl (λ r. refl) written (x ∷ []) rest first ((queue.Spawner n, item.Spawn key link) ∷ []) ((refl, refl), tt) (spawns, tt)

  linked_within : (full : Bool) (key : Key) (o : Option ℕ) (x : Envelope) (rest : List Envelope) → line log q ≡ x ∷ rest → Within configs log a q (linked_row n full key o (name_of x) rest)
  linked_within full key None x rest first = given_up_within (x ∷ []) rest first key
  linked_within full key (Some link) x rest first = ready_within full key link x rest first

  resolved_within : (o : Option Attempt) (key : Key) (x : Envelope) (rest : List Envelope) → line log q ≡ x ∷ rest → Within configs log a q (resolved_row o n key (name_of x) rest)
  resolved_within None key x rest first = given_up_within (x ∷ []) rest first key
  resolved_within (Some b) key x rest first = taken_within x rest first

  took_within : (full private : Bool) (seed : ℕ) (b : Attempt) (x : Envelope) (rest : List Envelope) → line log q ≡ x ∷ rest → (i : Item)
      → Within configs log a q (attempt_took_row n full private seed b (name_of x) i rest)
  took_within full private seed b x rest first (item.Resolved addresses) = resolved_within (resolved b.address private addresses seed b) b.key x rest first
  took_within full private seed b x rest first item.Linked = taken_within x rest first
  took_within full private seed b x rest first (item.Finished true) = linked_within full b.key b.answer x rest first
  took_within full private seed b x rest first (item.Finished false) = given_up_within (x ∷ []) rest first b.key
  took_within full private seed b x rest first _ = given_up_within (x ∷ []) rest first b.key

  turn_within : (at seed : ℕ) (full private : Bool) (b : Attempt) (xs : List Envelope) → line log q ≡ xs → Within configs log a q (attempt_turn n at seed full private b xs)
  turn_within at seed full private b [] none = by_due (nat_le b.deadline at)
    where
      by_due : (c : Bool) → Within configs log a q (cond c (given_up_row n b.key [] []) (only reply.Idle))
      by_due true = given_up_within [] [] none b.key
      by_due false = still_within configs log a q reply.Idle refl refl
  turn_within at seed full private b (x ∷ rest) first = took_within full private seed b x rest first x.item

  attempt_within : (at seed : ℕ) → Within configs log a q (attempt_row configs log e n at seed)
  attempt_within at seed = by_attempt (attempts_of configs log n e)
    where
      by_attempt : (o : Option Attempt) → Within configs log a q (attempt_by o n at seed (is_spawner_full configs log n) (dial_rules_at configs n).private (line log q))
      by_attempt None = still_within configs log a q reply.Gone refl refl
      by_attempt (Some b) = turn_within at seed (is_spawner_full configs log n) (dial_rules_at configs n).private b (line log q) refl

  -- where it gives up, it drops its end of a link
  pub attempt_shape : (at seed : ℕ) → Shape configs log a (attempt_step_row configs log e n at seed)
  attempt_shape at seed =
      dropping_shape configs log a q r (attempt_within at seed) (cond (gave_up r.puts) o None)
      (λ cut is. attempt_aside cut.0 (other_side cut.1) n e) (λ cut is. towards cut (gave cut (gave_up r.puts) is))
      (λ cut is ev acts x place stands copy bears. inr (inl (record {
        steps = (n, inr (e, inl acts));
        cut = cut;
        drops = (0, ap (λ l. slice_get l 0) (drops_of-attempt log (entry_of ev (dropping log (Some cut) r)) e n acts ∙ ap all_of is));
        place = place;
        left = x;
        stood = stands;
        carried = bears;
      })))
    where
      r : Row
      r = attempt_row configs log e n at seed

      o : Option LinkEnd
      o = dialing_end log n e

      gave : (cut : LinkEnd) (b : Bool) → cond b o None ≡ Some cut → o ≡ Some cut
      gave cut true is = is
      gave cut false is = absurd (cc)

      towards : (cut : LinkEnd) → o ≡ Some cut → ends_in configs log a (queue.Link cut.0 (other_side cut.1)) ≡ true
      towards cut is =
          let link : Queue = queue.Link cut.0 (other_side cut.1) in
          ap (λ b. same_queue q link || b) (ap (λ p. in_flight p link) is ∙ same_queue-refl link) ∙ or_true (same_queue q link)

-- ---- what it is told

module _ (configs : List Config) (log : List Entry) (a : Act) (e n : ℕ) (none : (r : Reply) → keys_sent (sending_of a r) ≡ []) (near : writes configs log a (queue.Attempt n e) ≡ true) where
  told_shape : (i : Item) → IsQuiet (queue.Attempt n e, i) → Shape configs log a (attempt_told_row e n i)
  told_shape i quiet =
      let r : Row = attempt_told_row e n i in
      record {
        moves = no_moves log r refl refl;
        reach = record { taken = tt; ended = tt; puts = (near, tt) };
        laws = λ fitting. quiet_laws configs log a r (no_moves log r refl refl) (none reply.Ok) refl tt tt tt (quiet, tt);
      }

  resolve_told : (at : Ingress) (b : Bool) (addresses : List SocketAddr) → Shape configs log a (resolve_by at b e n addresses)
  resolve_told (ingress.Dns host port) false addresses = told_shape (item.Resolved addresses) (refl, refl)
  resolve_told (ingress.Dns host port) true addresses = still configs log a reply.Gone (none reply.Gone) refl
  resolve_told (ingress.Socket s) b addresses = still configs log a reply.Gone (none reply.Gone) refl

  link_quiet : (links : Bool) → IsQuiet (queue.Attempt n e, link_item links)
  link_quiet true = (refl, refl)
  link_quiet false = (refl, refl)

  answered_shape : (o : Option SocketAddr) (b links : Bool) → Shape configs log a (dial_answered_row o b links e n)
  answered_shape None b links = still configs log a reply.Pending (none reply.Pending) refl
  answered_shape (Some s) true links = still configs log a reply.Gone (none reply.Gone) refl
  answered_shape (Some s) false links = told_shape (link_item links) (link_quiet links)

pub resolve_shape : (configs : List Config) (log : List Entry) (addresses : List SocketAddr) (e n : ℕ) → Shape configs log (act.Resolve addresses e n) (resolve_row configs log addresses e n)
resolve_shape configs log addresses e n = by_attempt (attempts_of configs log n e)
  where
    by_attempt : (o : Option Attempt) → Shape configs log (act.Resolve addresses e n) (elim o [ None ↦ only reply.Gone | Some a ↦ resolve_by a.ingress a.is_resolved e n addresses ])
    by_attempt None = still configs log (act.Resolve addresses e n) reply.Gone refl refl
    by_attempt (Some a) = resolve_told configs log (act.Resolve addresses e n) e n (λ r. refl) (same_queue-refl (queue.Attempt n e)) a.ingress a.is_resolved addresses

pub refuse_shape : (configs : List Config) (log : List Entry) (e n : ℕ) → Shape configs log (act.Refuse e n) (refuse_row configs log e n)
refuse_shape configs log e n = by_attempt (attempts_of configs log n e)
  where
    by_attempt : (o : Option Attempt) → Shape configs log (act.Refuse e n) (elim o [ None ↦ only reply.Gone | Some a ↦ dial_answered_row a.address (is_some a.answer) false e n ])
    by_attempt None = still configs log (act.Refuse e n) reply.Gone refl refl
    by_attempt (Some a) = answered_shape configs log (act.Refuse e n) e n (λ r. refl) (same_queue-refl (queue.Attempt n e)) a.address (is_some a.answer) false

-- ---- a link to another node

module _ (configs : List Config) (log : List Entry) (e : ℕ) (from : SocketAddr) (n to : ℕ) where
  abbrev connects : Act
  connects = act.Connect e from n to

  abbrev arrival : Item
  arrival = item.Arrival from (key_at configs n) (length log)

  near : writes configs log connects (queue.Attempt n e) ≡ true
  near = ap (λ b. b || same_queue (queue.Arrivals to) (queue.Attempt n e)) (same_queue-refl (queue.Attempt n e))

  far : writes configs log connects (queue.Arrivals to) ≡ true
  far = ap (λ b. same_queue (queue.Attempt n e) (queue.Arrivals to) || b) (same_queue-refl (queue.Arrivals to))

  linked_shape : (s : SocketAddr) → Shape configs log connects (connected_row (Some s) false true e n to arrival)
  linked_shape s =
      let r : Row = connected_row (Some s) false true e n to arrival in
      record {
        moves = no_moves log r refl refl;
        reach = record { taken = tt; ended = tt; puts = (near, (far, tt)) };
        laws = λ fitting. quiet_laws configs log connects r (no_moves log r refl refl) refl refl tt tt tt ((refl, refl), ((refl, refl), tt));
      }

  connected_shape : (o : Option SocketAddr) (answered runs : Bool) → Shape configs log connects (connected_row o answered runs e n to arrival)
  connected_shape (Some s) false true = linked_shape s
  connected_shape (Some s) false false = answered_shape configs log connects e n (λ r. refl) near (Some s) false false
  connected_shape (Some s) true runs = answered_shape configs log connects e n (λ r. refl) near (Some s) true runs
  connected_shape None answered runs = answered_shape configs log connects e n (λ r. refl) near None answered runs

  pub connect_shape : Shape configs log connects (connect_row configs log e from n to)
  connect_shape = by_attempt (attempts_of configs log n e)
    where
      by_attempt : (o : Option Attempt) → Shape configs log connects (elim o [ None ↦ only reply.Gone | Some a ↦ connected_row a.address (is_some a.answer) (is_up log to) e n to arrival ])
      by_attempt None = still configs log connects reply.Gone refl refl
      by_attempt (Some a) = connected_shape a.address (is_some a.answer) (is_up log to)
