-- A step of an attempt keeps its grant while it goes on, and hands it to the spawner or puts a release of it when it ends.
use Rattle.std.proofs.Common.{◌≡◌, ℕ, ◌+◌, Bool, true, false, cond, List, [], ◌∷◌, ◌++◌, map, Option, Some, None, refl, ap, sym, subst, ◌∙◌, arith, eq-eqb}
use Rattle.std.specs.Prelude.{◌==◌, ◌&&◌, nat_le, count_by}
use Rattle.std.specs.List.{AllByRecursion as Each}
use Rattle.p2p_base.specs.declared.key.Key.{Key}
use Rattle.p2p_log.specs.declared.queue.Queue.{Queue}
use Rattle.p2p_log.specs.declared.queue.Queue.TheVariants as queue
use Rattle.p2p_log.specs.declared.item.Item.{Item}
use Rattle.p2p_log.specs.declared.item.Item.TheVariants as item
use Rattle.p2p_log.specs.declared.item.Envelope.{Envelope}
use Rattle.p2p_log.specs.declared.entry.Entry.{Entry}
use Rattle.p2p_log.specs.declared.entry.Reply.TheVariants as reply
use Rattle.p2p_log.specs.Lines.{name_of, live, line}
use Rattle.p2p_log.specs.Taken.{AreTaken}
use Rattle.p2p_log.proofs.Each.{Each-weaker}
use Rattle.p2p_log.proofs.Queues.{same_queue-refl}
use Rattle.p2p_log_rules.specs.declared.row.Row.{Row}
use Rattle.p2p_log_rules.specs.Attempting.{Attempt, resolved, left_ends, given_up_row, resolved_row, handed_on_row, linked_row, attempt_took_row, attempt_turn}
use Rattle.p2p_log_rules.specs.Moves.{Moves}
use Rattle.p2p_log_rules.specs.Puts.{ends_attempt}
use Rattle.p2p_log_rules.specs.Rows.{only}
use Rattle.p2p_log_rules.proofs.Moves.{stands_first}
use Rattle.p2p_log_laws.specs.Grants.{one}
use Rattle.p2p_log_laws.specs.NodeGrants.{puts_grant, puts_release}
use Rattle.p2p_log_laws.proofs.LineShape.{left_gone, whole_taken, in_line, parts}
use Rattle.p2p_log_laws.proofs.Plain.{IsAside, StandsPlain, stand_aside}
use Rattle.p2p_log_laws.proofs.Shape.{no_moves}
use Rattle.p2p_log_laws.proofs.Weighing.{count_by-one}

module _ (n : ℕ) (key : Key) (log : List Entry) (e : ℕ) (at seed : ℕ) (a : Attempt) where
  abbrev q : Queue
  q = queue.Attempt n e

  -- what its row does with its grant
  pub record Ends (r : Row) : Type 0 where
    pub moves : Moves log r
    pub taken : Each (StandsPlain n key) moves.taken
    pub ended : Each (StandsPlain n key) moves.ended
    pub kept : one (a.key.0 == key.0) ≡ one (cond (ends_attempt r.puts) false (a.key.0 == key.0)) + (count_by (puts_grant n key) r.puts + count_by (puts_release n key) r.puts)

  -- what stands in its queue
  aside : (xs ys : List Envelope) → line log q ≡ xs ++ ys → Each (StandsPlain n key) xs × Each (StandsPlain n key) ys
  aside xs ys first =
      let here : Each (λ x. x.queue ≡ q) (xs ++ ys) = subst (Each (λ x. x.queue ≡ q)) first (in_line log q) in
      parts (StandsPlain n key) xs ys
      (stand_aside n key (xs ++ ys) (Each-weaker (λ x. x.queue ≡ q) (λ x. IsAside n x.queue) (λ x is. subst (IsAside n) (sym is) (refl, refl)) (xs ++ ys) here))

  -- it ends, and what it puts holds its grant or releases it
  ends_with : (took left : List Envelope) → line log q ≡ took ++ left → (puts : List (Queue × Item)) → ends_attempt puts ≡ true → count_by (puts_grant n key) puts + count_by (puts_release n key) puts ≡ one (a.key.0 == key.0)
      → Ends (record { reply = reply.Ok; takes = map name_of took; puts = puts; ends = left_ends left })
  ends_with took left first puts ends put =
      let both = aside took left first in
      let gone : one (cond (ends_attempt puts) false (a.key.0 == key.0)) ≡ 0 = ap (λ b. one (cond b false (a.key.0 == key.0))) ends in
      record {
        moves = record { taken = took; ended = left; names = refl; gone = left_gone left; stood = subst (AreTaken (live log)) first (whole_taken log q) };
        taken = both.0;
        ended = both.1;
        kept = omega (arith, put, gone);
      }

  gives_up : (took left : List Envelope) → line log q ≡ took ++ left → Ends (given_up_row n a.key (map name_of took) left)
  gives_up took left first =
      let released : puts_release n key (queue.Tracker n, item.Release a.key) ≡ (a.key.0 == key.0) = ap (λ b. b && (a.key.0 == key.0)) (same_queue-refl (queue.Tracker n)) in
      let put : count_by (puts_release n key) ((queue.Tracker n, item.Release a.key) ∷ []) ≡ one (a.key.0 == key.0) =
      count_by-one (puts_release n key) (queue.Tracker n, item.Release a.key) ∙ ap one released
      in
      let none : count_by (puts_grant n key) ((queue.Tracker n, item.Release a.key) ∷ []) ≡ 0 = count_by-one (puts_grant n key) (queue.Tracker n, item.Release a.key) in
      ends_with took left first ((queue.Tracker n, item.Release a.key) ∷ []) refl (omega (arith, put, none))

  -- it hands its grant to the spawner
  hands_on : (link : ℕ) (took left : List Envelope) → line log q ≡ took ++ left
      → Ends (record { reply = reply.Ok; takes = map name_of took; puts = (queue.Spawner n, item.Spawn a.key link) ∷ []; ends = left_ends left })
  hands_on link took left first =
      let x : Queue × Item = (queue.Spawner n, item.Spawn a.key link) in
      let granted : puts_grant n key x ≡ (a.key.0 == key.0) = ap (λ b. b && (a.key.0 == key.0)) (eq-eqb n n refl) in
      let put : count_by (puts_grant n key) (x ∷ []) ≡ one (a.key.0 == key.0) = count_by-one (puts_grant n key) x ∙ ap one granted in
      let none : count_by (puts_release n key) (x ∷ []) ≡ 0 = count_by-one (puts_release n key) x in
      ends_with took left first (x ∷ []) refl (omega (arith, put, none))

  ready : (full : Bool) (link : ℕ) (x : Envelope) (rest : List Envelope) → line log q ≡ x ∷ rest → Ends (handed_on_row n full a.key link (name_of x) rest)
  ready true link x rest first = gives_up (x ∷ []) rest first
  ready false link x rest first = hands_on link (x ∷ []) rest first

  -- it goes on, with this taken
  goes_on : (x : Envelope) (rest : List Envelope) → line log q ≡ x ∷ rest → Ends (record { reply = reply.Ok; takes = name_of x ∷ []; puts = []; ends = [] })
  goes_on x rest first =
      let both = aside (x ∷ []) rest first in
      record {
        moves = record { taken = x ∷ []; ended = []; names = refl; gone = refl; stood = stands_first log q x rest first };
        taken = both.0;
        ended = tt;
        kept = omega arith;
      }

  waits : Ends (only reply.Idle)
  waits = record { moves = no_moves log (only reply.Idle) refl refl; taken = tt; ended = tt; kept = omega arith }

  module _ (x : Envelope) (rest : List Envelope) (first : line log q ≡ x ∷ rest) where
    by_resolved : (o : Option Attempt) → Ends (resolved_row o n a.key (name_of x) rest)
    by_resolved None = gives_up (x ∷ []) rest first
    by_resolved (Some b) = goes_on x rest first

    by_answer : (full : Bool) (o : Option ℕ) → Ends (linked_row n full a.key o (name_of x) rest)
    by_answer full None = gives_up (x ∷ []) rest first
    by_answer full (Some link) = ready full link x rest first

    by_item : (full private : Bool) (i : Item) → Ends (attempt_took_row n full private seed a (name_of x) i rest)
    by_item full private (item.Resolved addresses) = by_resolved (resolved a.address private addresses seed a)
    by_item full private (item.Finished true) = by_answer full a.answer
    by_item full private (item.Finished false) = gives_up (x ∷ []) rest first
    by_item full private item.Linked = goes_on x rest first
    by_item full private _ = gives_up (x ∷ []) rest first

  pub attempt_ends : (full private : Bool) (xs : List Envelope) → line log q ≡ xs → Ends (attempt_turn n at seed full private a xs)
  attempt_ends full private [] none = by_due (nat_le a.deadline at)
    where
      by_due : (b : Bool) → Ends (cond b (given_up_row n a.key [] []) (only reply.Idle))
      by_due true = gives_up [] [] none
      by_due false = waits
  attempt_ends full private (x ∷ rest) first = by_item x rest first full private x.item
