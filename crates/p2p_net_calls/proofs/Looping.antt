-- What a node holds stops, one thing after another: a step of each of these loops, and what has come of it at its end.
use Rattle.std.proofs.Common.{◌≡◌, ℕ, ◌+◌, ◌-◌, ◌≤◌, suc, Bool, true, false, cond, List, [], ◌∷◌, length, map, refl, ap, sym, subst, ◌∙◌, arith, Option, Some}
use Rattle.std.specs.Prelude.{◌==◌, ◌||◌, is_some}
use Rattle.std.specs.List.{list_any}
use Rattle.std.specs.List.Sorted.{IsStrictlySortedBy}
use Rattle.std.specs.Map.{keys_of}
use Rattle.std.specs.BTreeMap.{is_at}
use Rattle.std.specs.Ordering.{nat_cmp}
use Rattle.std.proofs.lemmas.Bool.{false≢true}
use Rattle.std.proofs.lemmas.Bool.Decides.{nat_tests}
use Rattle.p2p_base.specs.declared.key.Key.{Key}
use Rattle.p2p_gates.specs.Handshaking.{Handshaking}
use Rattle.p2p_gates.specs.Listening.{Listening as Actor}
use Rattle.p2p_runtime.specs.QuotaPlaces.{Places}
use Rattle.p2p_log.specs.declared.item.Envelope.{Envelope}
use Rattle.p2p_log_rules.specs.declared.row.Row.{Row}
use Rattle.p2p_net_queues.specs.Tables as table
use Rattle.p2p_net_queues.proofs.Tables.{lookup-insert_entry}
use Rattle.p2p_net_router.specs.declared.router.Router.{Router}
use Rattle.p2p_net_tracker.specs.Ending.{noted_with}
use Rattle.p2p_net_tracker.specs.Heeding.{is_noted}
use Rattle.p2p_net_gates.specs.declared.attempt.RunningAttempt.{RunningAttempt}
use Rattle.p2p_net_gates.specs.declared.listening.Listening.{Listening}
use Rattle.p2p_net_connections.specs.declared.connections.Connection.{Connection}
use Rattle.p2p_net_links.specs.Left.{all_dropped}
use Rattle.p2p_net_links.specs.declared.links.Links.{Links}
use Rattle.p2p_net_links.proofs.Left.{all_dropped-dialers}
use Rattle.p2p_net_node.specs.declared.node.Node.{Node}
use Rattle.p2p_net_calls.specs.Stopping.{NodeLeft, Drains, Holder, queues_of, queues_held, end_of, ends_held, attempt_holder, handshake_holder, connection_holder, half_side, StopsAttempt, HandshakeStops, StopsHandshake, HandshakesStopped, RouterKeeps, ConnectionsKeep, ConnectionStops, StopsConnection, ConnectionsStopped}
use Rattle.p2p_net_calls.proofs.Progress.{Progress, progress_none, progress_more, progress_all}
use Rattle.p2p_net_calls.proofs.Handed.{all_dropped-append}
use Rattle.p2p_net_calls.proofs.Holders.{attempt_drains, handshake_drains}

-- ---- in general

-- of all that the node held the last is left, and the ends of what stopped are dropped
pub record HoldersLeft (n : ℕ) (all rest : List Holder) (first x : Node) (before l : Links) (started row : Row) : Type 0 where
  pub drains : (items : List Envelope) → NodeLeft n first before items → Progress n (queues_held all) (queues_held rest) items started row x l
  pub ends : all_dropped (ends_held rest) l ≡ all_dropped (ends_held all) before
  pub dialers : l.dialers ≡ before.dialers

pub holders_none : (n : ℕ) (all : List Holder) (x : Node) (l : Links) (row : Row) → HoldersLeft n all all x x l l row row
holders_none n all x l row = record {
  drains = λ items h. progress_none n (queues_held all) items row x l h;
  ends = refl;
  dialers = refl;
}

pub holders_more : (n : ℕ) (all rest : List Holder) (h : Holder) (first x y : Node) (before l links : Links) (started row after : Row) → HoldersLeft n all (h ∷ rest) first x before l started row
    → Drains n (queues_of h) x y l links row after → links ≡ all_dropped (end_of h.end) l → HoldersLeft n all rest first y before links started after
holders_more n all rest h first x y before l links started row after p drains ends = record {
  drains = λ items held. progress_more n (queues_held all) (queues_of h) (queues_held rest) items started row after x y l links (p.drains items held) drains;
  ends = ap (all_dropped (ends_held rest)) ends ∙ (sym (all_dropped-append (end_of h.end) (ends_held rest) l) ∙ p.ends);
  dialers = ap (λ (k : Links). k.dialers) ends ∙ (all_dropped-dialers l (end_of h.end) ∙ p.dialers);
}

pub holders_all : (n : ℕ) (all : List Holder) (first x : Node) (before l : Links) (started row : Row) → HoldersLeft n all [] first x before l started row
    → Drains n (queues_held all) first x before l started row × (l ≡ all_dropped (ends_held all) before)
holders_all n all first x before l started row p = (λ items h. progress_all n (queues_held all) items started row x l (p.drains items h), p.ends)

-- where nothing changes, what is so stays so
carried : (P : Node → Links → Row → Type 0) (x y : Node) (l links : Links) (row after : Row) → y ≡ x → links ≡ l → after ≡ row → P x l row → P y links after
carried P x y l links row after a b c p = subst (λ (z : Node). P z links after) (sym a) (subst (λ (k : Links). P x k after) (sym b) (subst (λ (r : Row). P x l r) (sym c) p))

-- ---- attempts

pub record AttemptsLeft (n : ℕ) (first x : Node) (before l : Links) (started row : Row) : Type 0 where
  pub left : HoldersLeft n (map (attempt_holder n) first.dialing.attempts) (map (attempt_holder n) x.dialing.attempts) first x before l started row
  pub rest : x ≡ record first { dialing = record first.dialing { attempts = x.dialing.attempts } }
  pub ordered : IsStrictlySortedBy nat_cmp (keys_of x.dialing.attempts) → IsStrictlySortedBy nat_cmp (keys_of first.dialing.attempts)

pub attempts_none : (n : ℕ) (x : Node) (l : Links) (row : Row) → AttemptsLeft n x x l l row row
attempts_none n x l row = record { left = holders_none n (map (attempt_holder n) x.dialing.attempts) x l row; rest = refl; ordered = λ s. s }

module _ (n : ℕ) (first x y : Node) (before l links : Links) (started row after : Row) (p : AttemptsLeft n first x before l started row) where
  pub attempts_more : IsStrictlySortedBy nat_cmp (keys_of x.dialing.attempts) → StopsAttempt x.dialing.attempts x y l links row after true
      → AttemptsLeft n first y before links started after × (length x.dialing.attempts ≡ suc (length y.dialing.attempts))
  attempts_more sorted does = by x.dialing.attempts refl does
    where
      by : (es : List (ℕ × RunningAttempt)) → x.dialing.attempts ≡ es → StopsAttempt es x y l links row after true
          → AttemptsLeft n first y before links started after × (length x.dialing.attempts ≡ suc (length y.dialing.attempts))
      by [] is d = absurd (false≢true (sym d.0))
      by ((k, a) ∷ rest) is d =
          let z : Node = record x { dialing = record x.dialing { attempts = rest } } in
          subst (λ (w : Node). AttemptsLeft n first w before links started after × (length x.dialing.attempts ≡ suc (length w.dialing.attempts))) (sym d.1.0) (
            record {
              left = holders_more n (map (attempt_holder n) first.dialing.attempts) (map (attempt_holder n) rest) (attempt_holder n (k, a)) first x z before l links started row after
                  (subst (λ (es : List (ℕ × RunningAttempt)). HoldersLeft n (map (attempt_holder n) first.dialing.attempts) (map (attempt_holder n) es) first x before l started row) is p.left)
                  (attempt_drains n k a rest x l links row after is sorted d.1.1) d.1.1.0;
              rest = ap (λ (w : Node). record w { dialing = record w.dialing { attempts = rest } }) p.rest;
              ordered = λ s. p.ordered sorted;
            },
            ap (λ (es : List (ℕ × RunningAttempt)). length es) is,
          )

  pub attempts_all : StopsAttempt x.dialing.attempts x y l links row after false
      → Drains n (queues_held (map (attempt_holder n) first.dialing.attempts)) first y before links started after
      × ((links ≡ all_dropped (ends_held (map (attempt_holder n) first.dialing.attempts)) before) × (y ≡ record first { dialing = record first.dialing { attempts = [] } }))
  attempts_all does = by x.dialing.attempts refl does
    where
      Ended : Node → Links → Row → Type 0
      Ended w k r =
          Drains n (queues_held (map (attempt_holder n) first.dialing.attempts)) first w before k started r
          × ((k ≡ all_dropped (ends_held (map (attempt_holder n) first.dialing.attempts)) before) × (w ≡ record first { dialing = record first.dialing { attempts = [] } }))

      by : (es : List (ℕ × RunningAttempt)) → x.dialing.attempts ≡ es → StopsAttempt es x y l links row after false → Ended y links after
      by ((k, a) ∷ rest) is d = absurd (false≢true d.0)
      by [] is d =
          let done = holders_all n (map (attempt_holder n) first.dialing.attempts) first x before l started row
          (subst (λ (es : List (ℕ × RunningAttempt)). HoldersLeft n (map (attempt_holder n) first.dialing.attempts) (map (attempt_holder n) es) first x before l started row) is p.left) in
          carried Ended x y l links row after d.1.0 d.1.1.0 d.1.1.1
          (done.0, (done.1, p.rest ∙ ap (λ (es : List (ℕ × RunningAttempt)). record first { dialing = record first.dialing { attempts = es } }) is))

-- ---- handshakes

-- what a node keeps while its handshakes stop: each that stopped gave its place back
pub record HandshakesKept (old now : Node) : Type 0 where
  pub rest : now ≡ record old { listening = now.listening; tracker = record old.tracker { told = now.tracker.told } }
  pub names : now.listening.names ≡ old.listening.names
  pub ends : now.listening.ends ≡ old.listening.ends
  pub actor : now.listening.actor ≡ record old.listening.actor { places = now.listening.actor.places }
  pub held : now.listening.actor.places.held + length old.listening.handshakes ≡ old.listening.actor.places.held + length now.listening.handshakes
  pub most : now.listening.actor.places.max ≡ old.listening.actor.places.max

pub record HandshakesLeft (n : ℕ) (first x : Node) (before l : Links) (started row : Row) : Type 0 where
  pub left : HoldersLeft n (map (handshake_holder n) first.listening.handshakes) (map (handshake_holder n) x.listening.handshakes) first x before l started row
  pub keeps : HandshakesKept first x
  pub ordered : IsStrictlySortedBy nat_cmp (keys_of x.listening.handshakes) → IsStrictlySortedBy nat_cmp (keys_of first.listening.handshakes)

pub handshakes_none : (n : ℕ) (x : Node) (l : Links) (row : Row) → HandshakesLeft n x x l l row row
handshakes_none n x l row = record {
  left = holders_none n (map (handshake_holder n) x.listening.handshakes) x l row;
  keeps = record { rest = refl; names = refl; ends = refl; actor = refl; held = refl; most = refl };
  ordered = λ s. s;
}

-- the places are so many as the handshakes, as before
pub places_held : (old now : Node) → HandshakesKept old now → (IsStrictlySortedBy nat_cmp (keys_of old.listening.handshakes) → length old.listening.handshakes ≤ old.listening.actor.places.held)
    → (IsStrictlySortedBy nat_cmp (keys_of now.listening.handshakes) → IsStrictlySortedBy nat_cmp (keys_of old.listening.handshakes))
    → IsStrictlySortedBy nat_cmp (keys_of now.listening.handshakes) → length now.listening.handshakes ≤ now.listening.actor.places.held
places_held old now k fits ordered sorted = omega (arith, k.held, fits (ordered sorted))

-- another actor is the same but for its places
but_places : (a b : Actor Key) (ps : Places) → a ≡ record b { places = ps } → a ≡ record b { places = a.places }
but_places a b ps is = is ∙ ap (λ (qs : Places). record b { places = qs }) (sym (ap (λ (c : Actor Key). c.places) is))

one_less : (now before old total left : ℕ) → now ≡ before - 1 → suc left ≤ before → before + total ≡ old + suc left → now + total ≡ old + left
one_less now before old total left is some sum = omega (arith, is, some, sum)

module _ (n : ℕ) (first x y : Node) (before l links : Links) (started row after : Row) (p : HandshakesLeft n first x before l started row) where
  pub handshakes_more : (IsStrictlySortedBy nat_cmp (keys_of first.listening.handshakes) → length first.listening.handshakes ≤ first.listening.actor.places.held)
      → IsStrictlySortedBy nat_cmp (keys_of x.listening.handshakes) → StopsHandshake n x.listening.handshakes x y l links row after true
      → HandshakesLeft n first y before links started after × (length x.listening.handshakes ≡ suc (length y.listening.handshakes))
  handshakes_more fits sorted does = by x.listening.handshakes refl does
    where
      by : (hs : List (ℕ × Handshaking Key)) → x.listening.handshakes ≡ hs → StopsHandshake n hs x y l links row after true
          → HandshakesLeft n first y before links started after × (length x.listening.handshakes ≡ suc (length y.listening.handshakes))
      by [] is d = absurd (false≢true (sym d.0))
      by ((k, h) ∷ rest) is d =
          let s : HandshakeStops n k h.arrival.link rest x y l links row after = d.1 in
          let now : y.listening.handshakes ≡ rest = ap (λ (li : Listening). li.handshakes) s.listens in
          let many : length x.listening.handshakes ≡ suc (length rest) = ap (λ (hs : List (ℕ × Handshaking Key)). length hs) is in
          let gone : y.listening.actor.places.held ≡ x.listening.actor.places.held - 1 = ap (λ (li : Listening). li.actor.places.held) s.listens in
          let room : length x.listening.handshakes ≤ x.listening.actor.places.held = places_held first x p.keeps fits p.ordered sorted in (
            record {
              left = subst (λ (hs : List (ℕ × Handshaking Key)). HoldersLeft n (map (handshake_holder n) first.listening.handshakes) (map (handshake_holder n) hs) first y before links started after) (sym now)
                  (holders_more n (map (handshake_holder n) first.listening.handshakes) (map (handshake_holder n) rest) (handshake_holder n (k, h)) first x y before l links started row after
                  (subst (λ (hs : List (ℕ × Handshaking Key)). HoldersLeft n (map (handshake_holder n) first.listening.handshakes) (map (handshake_holder n) hs) first x before l started row) is p.left)
                  (handshake_drains n k h.arrival.link rest x y l links row after s) s.drops.0);
              keeps = record {
                rest = s.told.rest ∙ ap (λ (w : Node). record w { listening = y.listening; tracker = record w.tracker { told = y.tracker.told } }) p.keeps.rest;
                names = ap (λ (li : Listening). li.names) s.listens ∙ p.keeps.names;
                ends = ap (λ (li : Listening). li.ends) s.listens ∙ p.keeps.ends;
                actor =
                    but_places y.listening.actor x.listening.actor _ (ap (λ (li : Listening). li.actor) s.listens)
                    ∙ ap (λ (a : Actor Key). record a { places = y.listening.actor.places }) p.keeps.actor;
                held =
                    one_less y.listening.actor.places.held x.listening.actor.places.held first.listening.actor.places.held (length first.listening.handshakes) (length y.listening.handshakes)
                    gone (subst (λ m. m ≤ x.listening.actor.places.held) (many ∙ ap (λ (hs : List (ℕ × Handshaking Key)). suc (length hs)) (sym now)) room)
                    (p.keeps.held ∙ ap (λ m. first.listening.actor.places.held + m) (many ∙ ap (λ (hs : List (ℕ × Handshaking Key)). suc (length hs)) (sym now)));
                most = ap (λ (li : Listening). li.actor.places.max) s.listens ∙ p.keeps.most;
              };
              ordered = λ _. p.ordered sorted;
            },
            many ∙ ap (λ (hs : List (ℕ × Handshaking Key)). suc (length hs)) (sym now),
          )

  pub handshakes_all : StopsHandshake n x.listening.handshakes x y l links row after false
      → Drains n (queues_held (map (handshake_holder n) first.listening.handshakes)) first y before links started after
      × ((links ≡ all_dropped (ends_held (map (handshake_holder n) first.listening.handshakes)) before) × HandshakesStopped first y)
  handshakes_all does = by x.listening.handshakes refl does
    where
      Ended : Node → Links → Row → Type 0
      Ended w k r =
          Drains n (queues_held (map (handshake_holder n) first.listening.handshakes)) first w before k started r
          × ((k ≡ all_dropped (ends_held (map (handshake_holder n) first.listening.handshakes)) before) × HandshakesStopped first w)

      by : (hs : List (ℕ × Handshaking Key)) → x.listening.handshakes ≡ hs → StopsHandshake n hs x y l links row after false → Ended y links after
      by ((k, h) ∷ rest) is d = absurd (false≢true d.0)
      by [] is d =
          let done = holders_all n (map (handshake_holder n) first.listening.handshakes) first x before l started row
          (subst (λ (hs : List (ℕ × Handshaking Key)). HoldersLeft n (map (handshake_holder n) first.listening.handshakes) (map (handshake_holder n) hs) first x before l started row) is p.left) in
          let same : y ≡ x = d.1.0 ∙ ap (λ (hs : List (ℕ × Handshaking Key)). record x { listening = record x.listening { handshakes = hs } }) (sym is) in
          let none : length x.listening.handshakes ≡ 0 = ap (λ (hs : List (ℕ × Handshaking Key)). length hs) is in
          carried Ended x y l links row after same d.1.1.0 d.1.1.1 (
            done.0,
            (
              done.1,
              record {
                rest = p.keeps.rest;
                names = p.keeps.names;
                none = is;
                ends = p.keeps.ends;
                actor = p.keeps.actor;
                held = omega (arith, p.keeps.held, none);
                most = p.keeps.most;
              },
            ),
          )

-- ---- connections

pub router_kept : (r s t : Router) → RouterKeeps r s → RouterKeeps s t → RouterKeeps r t
router_kept r s t a b = record {
  number = b.number ∙ a.number;
  channels = b.channels ∙ a.channels;
  numbers = b.numbers ∙ a.numbers;
  taken = b.taken ∙ a.taken;
  routes = b.routes ∙ a.routes;
}

is_one : (conn c : ℕ) → is_at (nat_cmp conn) c ≡ (c == conn)
is_one conn c = grind (arith, nat_tests)

one_more : (b : Bool) (o : Option (Unit {0})) → is_some (cond b (Some tt) o) ≡ (b || is_some o)
one_more true o = refl
one_more false o = refl

noted_more : (conn c : ℕ) (ended : List (ℕ × Unit {0})) → is_noted (noted_with c ended) conn ≡ ((c == conn) || is_noted ended conn)
noted_more conn c ended =
    ap (λ (o : Option (Unit {0})). is_some o) (lookup-insert_entry c conn tt ended)
    ∙ (one_more (is_at (nat_cmp conn) c) (table.at ended conn) ∙ ap (λ b. b || is_noted ended conn) (is_one conn c))

or_later : (a b c : Bool) → (a || (b || c)) ≡ ((b || a) || c)
or_later true true c = refl
or_later true false c = refl
or_later false true c = refl
or_later false false c = refl

pub record ConnectionsRest (n : ℕ) (first x : Node) (before l : Links) (started row : Row) : Type 0 where
  pub left : HoldersLeft n (map (connection_holder n before) first.connections.spawned) (map (connection_holder n before) x.connections.spawned) first x before l started row
  pub rest : x ≡ record first { router = x.router; connections = x.connections; tracker = record first.tracker { told = x.tracker.told; ended = x.tracker.ended } }
  pub router : RouterKeeps first.router x.router
  pub connections : ConnectionsKeep first.connections x.connections
  pub ended : (conn : ℕ)
      → (list_any (λ k. k == conn) (keys_of x.connections.spawned) || is_noted x.tracker.ended conn) ≡ (list_any (λ k. k == conn) (keys_of first.connections.spawned) || is_noted first.tracker.ended conn)
  pub ordered : IsStrictlySortedBy nat_cmp (keys_of x.connections.spawned) → IsStrictlySortedBy nat_cmp (keys_of first.connections.spawned)

pub connections_none : (n : ℕ) (x : Node) (l : Links) (row : Row) → ConnectionsRest n x x l l row row
connections_none n x l row = record {
  left = holders_none n (map (connection_holder n l) x.connections.spawned) x l row;
  rest = refl;
  router = record { number = refl; channels = refl; numbers = refl; taken = refl; routes = refl };
  connections = record { stages = refl };
  ended = λ conn. refl;
  ordered = λ s. s;
}

module _ (n : ℕ) (first x y : Node) (before l links : Links) (started row after : Row) (p : ConnectionsRest n first x before l started row) where
  pub connections_more : IsStrictlySortedBy nat_cmp (keys_of x.connections.spawned) → StopsConnection n x.connections.spawned x y l links row after true
      → ConnectionsRest n first y before links started after × (length x.connections.spawned ≡ suc (length y.connections.spawned))
  connections_more sorted does = by x.connections.spawned refl does
    where
      by : (cs : List (ℕ × Connection)) → x.connections.spawned ≡ cs → StopsConnection n cs x y l links row after true
          → ConnectionsRest n first y before links started after × (length x.connections.spawned ≡ suc (length y.connections.spawned))
      by [] is d = absurd (false≢true (sym d.0))
      by ((k, c) ∷ rest) is d =
          let s : ConnectionStops n k (half_side n c.link (table.at before.dialers c.link)) rest x y l links row after =
          subst (λ (ds : List (ℕ × ℕ)). ConnectionStops n k (half_side n c.link (table.at ds c.link)) rest x y l links row after) p.left.dialers d.1 in
          let many : length x.connections.spawned ≡ suc (length y.connections.spawned) =
          ap (λ (cs : List (ℕ × Connection)). length cs) is ∙ ap (λ (cs : List (ℕ × Connection)). suc (length cs)) (sym s.spawned) in
          let noted : y.tracker.ended ≡ noted_with k x.tracker.ended = ap (λ (w : Node). w.tracker.ended) s.keeps in (
            record {
              left = subst (λ (cs : List (ℕ × Connection)). HoldersLeft n (map (connection_holder n before) first.connections.spawned) (map (connection_holder n before) cs) first y before links started after) (sym s.spawned)
                  (holders_more n (map (connection_holder n before) first.connections.spawned) (map (connection_holder n before) rest) (connection_holder n before (k, c)) first x y before l links started row after
                  (subst (λ (cs : List (ℕ × Connection)). HoldersLeft n (map (connection_holder n before) first.connections.spawned) (map (connection_holder n before) cs) first x before l started row) is p.left)
                  s.drains s.ends);
              rest =
                  s.keeps
                  ∙ (ap (λ (es : List (ℕ × Unit {0})). record x { router = y.router; connections = y.connections; tracker = record x.tracker { told = y.tracker.told; ended = es } }) (sym noted)
                  ∙ ap (λ (w : Node). record w { router = y.router; connections = y.connections; tracker = record w.tracker { told = y.tracker.told; ended = y.tracker.ended } }) p.rest);
              router = router_kept first.router x.router y.router p.router s.router;
              connections = record { stages = s.connections.stages ∙ p.connections.stages };
              ended = λ conn.
                  ap (λ (cs : List (ℕ × Connection)). list_any (λ j. j == conn) (keys_of cs) || is_noted y.tracker.ended conn) s.spawned
                  ∙ (ap (λ b. list_any (λ j. j == conn) (keys_of rest) || b) (ap (λ (es : List (ℕ × Unit {0})). is_noted es conn) noted ∙ noted_more conn k x.tracker.ended)
                  ∙ (or_later (list_any (λ j. j == conn) (keys_of rest)) (k == conn) (is_noted x.tracker.ended conn)
                  ∙ (ap (λ (cs : List (ℕ × Connection)). list_any (λ j. j == conn) (keys_of cs) || is_noted x.tracker.ended conn) (sym is) ∙ p.ended conn)));
              ordered = λ _. p.ordered sorted;
            },
            many,
          )

  pub connections_all : StopsConnection n x.connections.spawned x y l links row after false
      → Drains n (queues_held (map (connection_holder n before) first.connections.spawned)) first y before links started after
      × ((links ≡ all_dropped (ends_held (map (connection_holder n before) first.connections.spawned)) before) × ConnectionsStopped first y)
  connections_all does = by x.connections.spawned refl does
    where
      Ended : Node → Links → Row → Type 0
      Ended w k r =
          Drains n (queues_held (map (connection_holder n before) first.connections.spawned)) first w before k started r
          × ((k ≡ all_dropped (ends_held (map (connection_holder n before) first.connections.spawned)) before) × ConnectionsStopped first w)

      by : (cs : List (ℕ × Connection)) → x.connections.spawned ≡ cs → StopsConnection n cs x y l links row after false → Ended y links after
      by ((k, c) ∷ rest) is d = absurd (false≢true d.0)
      by [] is d =
          let done = holders_all n (map (connection_holder n before) first.connections.spawned) first x before l started row
          (subst (λ (cs : List (ℕ × Connection)). HoldersLeft n (map (connection_holder n before) first.connections.spawned) (map (connection_holder n before) cs) first x before l started row) is p.left) in
          carried Ended x y l links row after d.1.0 d.1.1.0 d.1.1.1 (
            done.0,
            (
              done.1,
              record {
                rest = p.rest;
                router = p.router;
                connections = p.connections;
                none = is;
                ended = λ conn. ap (λ (cs : List (ℕ × Connection)). list_any (λ j. j == conn) (keys_of cs) || is_noted x.tracker.ended conn) (sym is) ∙ p.ended conn;
              },
            ),
          )
