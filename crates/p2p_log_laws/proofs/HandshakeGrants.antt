-- A step of a handshake hands a grant on, from the answer that it takes to the spawner, or puts a release of it.
use Rattle.std.proofs.Common.{◌≡◌, ℕ, ◌+◌, Bool, true, false, List, [], ◌∷◌, Some, None, refl, ap, subst, ◌∙◌, arith, eq-eqb, Option}
use Rattle.std.specs.Prelude.{◌==◌, ◌&&◌, count_by}
use Rattle.std.specs.List.{AllByRecursion as Each}
use Rattle.p2p_base.specs.declared.key.Key.{Key}
use Rattle.p2p_log.specs.declared.queue.Queue.{Queue}
use Rattle.p2p_log.specs.declared.queue.Queue.TheVariants as queue
use Rattle.p2p_log.specs.declared.item.Item.{Item}
use Rattle.p2p_log.specs.declared.item.Item.TheVariants as item
use Rattle.p2p_log.specs.declared.item.Envelope.{Envelope}
use Rattle.p2p_log.specs.declared.entry.Entry.{Entry}
use Rattle.p2p_log.specs.declared.entry.Reply.{Reply}
use Rattle.p2p_log.specs.declared.entry.Reply.TheVariants as reply
use Rattle.p2p_log.specs.QueueCode.{same_queue}
use Rattle.p2p_log.specs.Lines.{name_of, live, line}
use Rattle.p2p_log.specs.Taken.{AreTaken}
use Rattle.p2p_log.proofs.Queues.{same_queue-refl}
use Rattle.p2p_log_rules.specs.declared.row.Row.{Row}
use Rattle.p2p_log_rules.specs.Attempting.{left_ends, handed_on_row}
use Rattle.p2p_log_rules.specs.Handshakes.{Handshake}
use Rattle.p2p_log_rules.specs.Handshaking.{ended_row, handshake_took_row, handshake_turn}
use Rattle.p2p_log_rules.specs.Moves.{Moves}
use Rattle.p2p_log_rules.specs.Rows.{only}
use Rattle.p2p_log_rules.proofs.Moves.{one_taken}
use Rattle.p2p_log_laws.specs.Grants.{one}
use Rattle.p2p_log_laws.specs.NodeGrants.{put_of, holds_grants, grants_key, releases_key, puts_grant, puts_release}
use Rattle.p2p_log_laws.proofs.Fitting.{fits}
use Rattle.p2p_log_laws.proofs.LineShape.{left_gone, whole_taken}
use Rattle.p2p_log_laws.proofs.Plain.{Plain, StandsPlain, plain_item, no_grants, no_releases}
use Rattle.p2p_log_laws.proofs.Shape.{no_moves, one_move}
use Rattle.p2p_log_laws.proofs.Weighing.{weight, count_by-one}

-- of what waits for a handshake only the first may grant a key, and it is of the kinds that a handshake is told
abbrev pub GrantsFirst : ℕ → Key → List Entry → ℕ → Type 0
GrantsFirst n key log h =
    (x : Envelope) (rest : List Envelope) → line log (queue.Handshake n h) ≡ x ∷ rest → (fits (queue.Handshake n h) x.item ≡ true) × Each (StandsPlain n key) rest

module _ (n : ℕ) (key : Key) (log : List Entry) (h : ℕ) where
  abbrev q : Queue
  q = queue.Handshake n h

  -- what its row does with the grants that it takes
  pub record Hands (r : Row) : Type 0 where
    pub moves : Moves log r
    pub handed : weight (puts_grant n key) moves.taken ≡ count_by (puts_grant n key) r.puts + count_by (puts_release n key) r.puts
    pub ended : Each (StandsPlain n key) moves.ended
    pub no_release : weight (puts_release n key) moves.taken ≡ 0

  -- it takes nothing, and puts nothing
  pub nothing : (rep : Reply) → Hands (only rep)
  nothing rep = record { moves = no_moves log (only rep) refl refl; handed = refl; ended = tt; no_release = refl }

  expired : line log q ≡ [] → Hands (ended_row [] [])
  expired none = record { moves = no_moves log (ended_row [] []) refl refl; handed = refl; ended = tt; no_release = refl }

  module _ (x : Envelope) (rest : List Envelope) (first : line log q ≡ x ∷ rest) where
    stood : x.queue ≡ q
    stood = one_taken log q x rest first

    grants : weight (puts_grant n key) (x ∷ []) ≡ one (grants_key key x.item)
    grants =
        count_by-one (λ y. puts_grant n key (put_of y)) x
        ∙ ap one (ap (λ p. holds_grants n p && grants_key key x.item) stood ∙ ap (λ b. b && grants_key key x.item) (eq-eqb n n refl))

    releases : weight (puts_release n key) (x ∷ []) ≡ 0
    releases = count_by-one (λ y. puts_release n key (put_of y)) x ∙ ap (λ p. one (same_queue (queue.Tracker n) p && releases_key key x.item)) stood

    -- it goes on
    goes_on : (puts : List (Queue × Item)) → Each (Plain n key) puts → grants_key key x.item ≡ false → Hands (record { reply = reply.Ok; takes = name_of x ∷ []; puts = puts; ends = [] })
    goes_on puts plain none =
        let no_grant = grants ∙ ap one none in
        let granted = no_grants n key puts plain in
        let released = no_releases n key puts plain in
        record {
          moves = one_move log q x rest first (record { reply = reply.Ok; takes = name_of x ∷ []; puts = puts; ends = [] }) refl refl;
          handed = omega (arith, no_grant, granted, released);
          ended = tt;
          no_release = releases;
        }

    module _ (plain : Each (StandsPlain n key) rest) where
      -- it ends
      ends_with : (puts : List (Queue × Item)) → one (grants_key key x.item) ≡ count_by (puts_grant n key) puts + count_by (puts_release n key) puts
          → Hands (record { reply = reply.Ok; takes = name_of x ∷ []; puts = puts; ends = left_ends rest })
      ends_with puts same = record {
        moves = record { taken = x ∷ []; ended = rest; names = refl; gone = left_gone rest; stood = subst (AreTaken (live log)) first (whole_taken log q) };
        handed = grants ∙ same;
        ended = plain;
        no_release = releases;
      }

      ends : grants_key key x.item ≡ false → Hands (ended_row (name_of x ∷ []) rest)
      ends none = ends_with [] (ap one none)

      -- with the reservation of this key
      ready : (full : Bool) (k : Key) (link : ℕ) → grants_key key x.item ≡ (k.0 == key.0) → Hands (handed_on_row n full k link (name_of x) rest)
      ready true k link is =
          let p : Queue × Item = (queue.Tracker n, item.Release k) in
          let put : count_by (puts_release n key) (p ∷ []) ≡ one (k.0 == key.0) =
          count_by-one (puts_release n key) p ∙ ap one (ap (λ b. b && (k.0 == key.0)) (same_queue-refl (queue.Tracker n)))
          in
          let none : count_by (puts_grant n key) (p ∷ []) ≡ 0 = count_by-one (puts_grant n key) p in
          let same : one (grants_key key x.item) ≡ one (k.0 == key.0) = ap one is in
          ends_with (p ∷ []) (omega (arith, put, none, same))
      ready false k link is =
          let p : Queue × Item = (queue.Spawner n, item.Spawn k link) in
          let put : count_by (puts_grant n key) (p ∷ []) ≡ one (k.0 == key.0) = count_by-one (puts_grant n key) p ∙ ap one (ap (λ b. b && (k.0 == key.0)) (eq-eqb n n refl)) in
          let none : count_by (puts_release n key) (p ∷ []) ≡ 0 = count_by-one (puts_release n key) p in
          let same : one (grants_key key x.item) ≡ one (k.0 == key.0) = ap one is in
          ends_with (p ∷ []) (omega (arith, put, none, same))

      by_item : (full : Bool) (peer : Handshake) (i : Item) → x.item ≡ i → fits q i ≡ true → Hands (handshake_took_row n full h peer (name_of x) i rest)
      by_item full peer (item.Acceptable true) is fit = goes_on [] tt (ap (grants_key key) is)
      by_item full peer (item.Acceptable false) is fit = ends (ap (grants_key key) is)
      by_item full peer (item.Finished true) is fit =
          goes_on ((queue.Tracker n, item.AskListen h peer.key) ∷ []) (plain_item n key (queue.Tracker n) (item.AskListen h peer.key) refl refl, tt) (ap (grants_key key) is)
      by_item full peer (item.Finished false) is fit = ends (ap (grants_key key) is)
      by_item full peer (item.Listen (Some k)) is fit = ready full k peer.link (ap (grants_key key) is)
      by_item full peer (item.Listen None) is fit = ends (ap (grants_key key) is)
      by_item full peer _ is fit = absurd (cc)

  pub turn_hands : GrantsFirst n key log h → (full due : Bool) (o : Option Handshake) (xs : List Envelope) → line log q ≡ xs → Hands (handshake_turn n full due h o xs)
  turn_hands only_first full due None xs first = nothing reply.Gone
  turn_hands only_first full true (Some peer) [] none = expired none
  turn_hands only_first full false (Some peer) [] none = nothing reply.Idle
  turn_hands only_first full due (Some peer) (x ∷ rest) first = by_item x rest first (only_first x rest first).1 full peer x.item refl (only_first x rest first).0
