-- The ends of links that the stop of a node drops, in order, by the log.
use Rattle.std.proofs.Common.{◌≡◌, ℕ, List, [], ◌∷◌, ◌++◌, refl, ap, ◌∙◌, Option, Some, None}
use Rattle.std.specs.Prelude.{flat_map}
use Rattle.std.specs.Option.{option_map}
use Rattle.std.proofs.lemmas.List.Concat.{flat_map-append}
use Rattle.p2p_log.specs.declared.queue.Queue.TheVariants as queue
use Rattle.p2p_log.specs.declared.queue.Side.TheVariants as side
use Rattle.p2p_log.specs.declared.item.Envelope.{Envelope}
use Rattle.p2p_log.specs.declared.entry.Entry.{Entry}
use Rattle.p2p_log.specs.Lines.{line}
use Rattle.p2p_log_rules.specs.declared.row.Half.{Half}
use Rattle.p2p_log_rules.specs.Connections.{half_at}
use Rattle.p2p_log_rules.specs.Dropping.{LinkEnd, drop_in, drops_in, drops_of, dialing_end, arrival_end, half_end, listening_end}
use Rattle.p2p_log_rules.specs.Handshakes.{handshakes_of, came_over}
use Rattle.p2p_log_rules.specs.Halves.{half_in}
use Rattle.p2p_log_rules.specs.Puts.{arrival_link}
use Rattle.p2p_log_rules.specs.Spawning.{connections_of}
use Rattle.p2p_log_rules.specs.Tellings.{Telling}
use Rattle.p2p_log_rules.specs.Told.{half_dropped, listening_dropped, dialing_dropped, half_to_be, messages_stop, arrivals_stop, attempts_in, attempt_stops, handshakes_in, handshake_stops, connections_in, connection_stops, link_in, told}
use Rattle.p2p_log_rules.proofs.Channels.{IsStopOf, tells_stop}
use Rattle.p2p_log_rules.proofs.Dropping.{all_of}

-- those of the messages to its spawner, of the arrivals, of its attempts, of its handshakes and of its connections
abbrev pub ends_had : List Entry → ℕ → List LinkEnd
ends_had log n =
    flat_map (λ (x : Envelope). all_of (half_end (half_to_be (told log) n x.item))) (line log (queue.Spawner n))
    ++ (flat_map (λ (x : Envelope). all_of (arrival_end (x.item ∷ []))) (line log (queue.Arrivals n))
    ++ (flat_map (λ k. all_of (dialing_end log n k)) (attempts_in (told log) n)
    ++ (flat_map (λ h. all_of (listening_end (came_over log h))) (handshakes_of log n)
    ++ flat_map (λ conn. all_of (half_end (half_at log n conn))) (connections_in (told log) n))))

-- what is told of each of a list, by the ends that each tells of
drops_each : {X : Type 0} (f : X → List Telling) (g : X → List LinkEnd) → ((x : X) → drops_in (f x) ≡ g x) → (xs : List X) → drops_in (flat_map f xs) ≡ flat_map g xs
drops_each f g same [] = refl
drops_each f g same (x ∷ xs) = flat_map-append drop_in (f x) (flat_map f xs) ∙ (ap (λ l. l ++ drops_in (flat_map f xs)) (same x) ∙ ap (λ l. g x ++ l) (drops_each f g same xs))

before : (ts us : List Telling) (es fs : List LinkEnd) → drops_in ts ≡ es → drops_in us ≡ fs → drops_in (ts ++ us) ≡ es ++ fs
before ts us es fs first rest = flat_map-append drop_in ts us ∙ (ap (λ l. l ++ drops_in us) first ∙ ap (λ l. es ++ l) rest)

half_drops : (o : Option Half) → drops_in (half_dropped o) ≡ all_of (half_end o)
half_drops None = refl
half_drops (Some half) = refl

arrival_drops : (o : Option ℕ) → drops_in (listening_dropped o) ≡ all_of (listening_end o)
arrival_drops None = refl
arrival_drops (Some link) = refl

dialing_drops : (o : Option ℕ) → drops_in (dialing_dropped o) ≡ all_of (option_map (λ link. (link, side.Out)) o)
dialing_drops None = refl
dialing_drops (Some link) = refl

pub drops_stopped : (log : List Entry) (e : Entry) (n : ℕ) → IsStopOf log e n → drops_of log e ≡ ends_had log n
unfolding half_at connections_of handshakes_of
drops_stopped log e n stop =
    ap drops_in (tells_stop log e n stop)
    ∙ before (messages_stop (told log) n (line log (queue.Spawner n))) (arrived ++ (tried ++ (shaken ++ made))) messages (arrivals ++ (attempts ++ (handshakes ++ connections)))
    (drops_each (λ (x : Envelope). half_dropped (half_to_be (told log) n x.item)) (λ (x : Envelope). all_of (half_end (half_to_be (told log) n x.item))) (λ x. half_drops (half_to_be (told log) n x.item)) (line log (queue.Spawner n)))
    (before arrived (tried ++ (shaken ++ made)) arrivals (attempts ++ (handshakes ++ connections))
    (drops_each (λ (x : Envelope). listening_dropped (arrival_link (x.item ∷ []))) (λ (x : Envelope). all_of (arrival_end (x.item ∷ []))) (λ x. arrival_drops (arrival_link (x.item ∷ []))) (line log (queue.Arrivals n)))
    (before tried (shaken ++ made) attempts (handshakes ++ connections)
    (drops_each (attempt_stops (told log) n) (λ k. all_of (dialing_end log n k)) (λ k. dialing_drops (link_in (told log) n k)) (attempts_in (told log) n))
    (before shaken made handshakes connections
    (drops_each (handshake_stops (told log) n) (λ h. all_of (listening_end (came_over log h))) (λ h. arrival_drops (came_over log h)) (handshakes_in (told log) n))
    (drops_each (connection_stops (told log) n) (λ conn. all_of (half_end (half_at log n conn))) (λ conn. half_drops (half_in (told log) n conn)) (connections_in (told log) n)))))
  where
    arrived : List Telling
    arrived = arrivals_stop (line log (queue.Arrivals n))

    tried : List Telling
    tried = flat_map (attempt_stops (told log) n) (attempts_in (told log) n)

    shaken : List Telling
    shaken = flat_map (handshake_stops (told log) n) (handshakes_in (told log) n)

    made : List Telling
    made = flat_map (connection_stops (told log) n) (connections_in (told log) n)

    messages : List LinkEnd
    messages = flat_map (λ (x : Envelope). all_of (half_end (half_to_be (told log) n x.item))) (line log (queue.Spawner n))

    arrivals : List LinkEnd
    arrivals = flat_map (λ (x : Envelope). all_of (arrival_end (x.item ∷ []))) (line log (queue.Arrivals n))

    attempts : List LinkEnd
    attempts = flat_map (λ k. all_of (dialing_end log n k)) (attempts_in (told log) n)

    handshakes : List LinkEnd
    handshakes = flat_map (λ h. all_of (listening_end (came_over log h))) (handshakes_of log n)

    connections : List LinkEnd
    connections = flat_map (λ conn. all_of (half_end (half_at log n conn))) (connections_in (told log) n)
