-- What a stop of a node tells of the things that it ends.
use Rattle.std.proofs.Common.{◌≡◌, ℕ, Bool, true, List, [], ◌∷◌, ◌++◌, ap, ◌∙◌, Option, inl, inr}
use Rattle.std.specs.Prelude.{◌||◌, flat_map}
use Rattle.std.specs.List.{list_any}
use Rattle.std.proofs.lemmas.List.Folds.{list_any-append}
use Rattle.p2p_log.specs.declared.queue.Queue.TheVariants as queue
use Rattle.p2p_log.specs.declared.entry.Entry.{Entry}
use Rattle.p2p_log.specs.Lines.{line}
use Rattle.p2p_log.proofs.Each.{Has}
use Rattle.p2p_log_rules.specs.Halves.{half_in}
use Rattle.p2p_log_rules.specs.Tellings.{Telling}
use Rattle.p2p_log_rules.specs.Tellings as telling
use Rattle.p2p_log_rules.specs.Told.{messages_stop, arrivals_stop, attempts_in, attempt_stops, handshakes_in, handshake_stops, connections_in, connection_stops, stop_tells, link_in, handshake_in, link_over, dialing_dropped, listening_dropped, half_dropped}
use Rattle.p2p_log_rules.proofs.Bools.{or_true}

-- what is told of one of these is told of all
any_of : {X : Type 0} (test : Telling → Bool) (f : X → List Telling) (xs : List X) (x : X) → Has xs x → list_any test (f x) ≡ true → list_any test (flat_map f xs) ≡ true
any_of test f [] x has h = absurd has
any_of test f (y ∷ ys) x (inl is) h =
    list_any-append test (f y) (flat_map f ys) ∙ (ap (λ z. list_any test (f z) || list_any test (flat_map f ys)) is ∙ ap (λ b. b || list_any test (flat_map f ys)) h)
any_of test f (y ∷ ys) x (inr later) h =
    list_any-append test (f y) (flat_map f ys) ∙ (ap (λ b. list_any test (f y) || b) (any_of test f ys x later h) ∙ or_true (list_any test (f y)))

-- what is told before, and after
before : (test : Telling → Bool) (ts us : List Telling) → list_any test ts ≡ true → list_any test (ts ++ us) ≡ true
before test ts us h = list_any-append test ts us ∙ ap (λ b. b || list_any test us) h

after : (test : Telling → Bool) (ts us : List Telling) → list_any test us ≡ true → list_any test (ts ++ us) ≡ true
after test ts us h = list_any-append test ts us ∙ (ap (λ b. list_any test ts || b) h ∙ or_true (list_any test ts))

module _ (ts : List Telling) (log : List Entry) (n : ℕ) (test : Telling → Bool) where
  -- the parts of what it tells
  abbrev messages : List Telling
  messages = messages_stop ts n (line log (queue.Spawner n))

  abbrev arrivals : List Telling
  arrivals = arrivals_stop (line log (queue.Arrivals n))

  abbrev attempts : List Telling
  attempts = flat_map (attempt_stops ts n) (attempts_in ts n)

  abbrev handshakes : List Telling
  handshakes = flat_map (handshake_stops ts n) (handshakes_in ts n)

  abbrev connections : List Telling
  connections = flat_map (connection_stops ts n) (connections_in ts n)

  later : (us : List Telling) → list_any test us ≡ true → list_any test (telling.node_stopped n ∷ us) ≡ true
  later us h = ap (λ b. test (telling.node_stopped n) || b) h ∙ or_true (test (telling.node_stopped n))

  of_attempts : list_any test attempts ≡ true → list_any test (stop_tells ts log n) ≡ true
  of_attempts h =
      later (messages ++ (arrivals ++ (attempts ++ (handshakes ++ connections))))
      (after test messages (arrivals ++ (attempts ++ (handshakes ++ connections)))
      (after test arrivals (attempts ++ (handshakes ++ connections)) (before test attempts (handshakes ++ connections) h)))

  of_handshakes : list_any test handshakes ≡ true → list_any test (stop_tells ts log n) ≡ true
  of_handshakes h =
      later (messages ++ (arrivals ++ (attempts ++ (handshakes ++ connections))))
      (after test messages (arrivals ++ (attempts ++ (handshakes ++ connections)))
      (after test arrivals (attempts ++ (handshakes ++ connections)) (after test attempts (handshakes ++ connections) (before test handshakes connections h))))

  of_connections : list_any test connections ≡ true → list_any test (stop_tells ts log n) ≡ true
  of_connections h =
      later (messages ++ (arrivals ++ (attempts ++ (handshakes ++ connections))))
      (after test messages (arrivals ++ (attempts ++ (handshakes ++ connections)))
      (after test arrivals (attempts ++ (handshakes ++ connections)) (after test attempts (handshakes ++ connections) (after test handshakes connections h))))

  -- that each attempt of the node ended, each handshake, and each connection
  pub stop_attempt : (k : ℕ) → Has (attempts_in ts n) k → test (telling.attempt_ended n k) ≡ true → list_any test (stop_tells ts log n) ≡ true
  stop_attempt k has h = of_attempts (any_of test (attempt_stops ts n) (attempts_in ts n) k has (ap (λ b. b || list_any test (dialing_dropped (link_in ts n k))) h))

  pub stop_handshake : (k : ℕ) → Has (handshakes_in ts n) k → ((link : Option ℕ) → test (telling.handshake_ended n k link) ≡ true) → list_any test (stop_tells ts log n) ≡ true
  stop_handshake k has h =
      of_handshakes
      (any_of test (handshake_stops ts n) (handshakes_in ts n) k has (ap (λ b. b || list_any test (listening_dropped (link_over (handshake_in ts k)))) (h (link_over (handshake_in ts k)))))

  pub stop_connection : (conn : ℕ) → Has (connections_in ts n) conn → test (telling.connection_ended n conn) ≡ true → list_any test (stop_tells ts log n) ≡ true
  stop_connection conn has h = of_connections (any_of test (connection_stops ts n) (connections_in ts n) conn has (ap (λ b. b || list_any test (half_dropped (half_in ts n conn))) h))
