-- What a dialer and a listener hold is what the log tells of them, in the order of its names, and what is left of them once their node stops.
use Rattle.std.proofs.Common.{◌≡◌, ℕ, suc, Bool, true, false, cond, List, [], ◌∷◌, ◌++◌, map, length, refl, ap, sym, subst, ◌∙◌, arith, eqb-true, Option, Some, None, inl, inr}
use Rattle.std.specs.Prelude.{◌-◌, ◌==◌, ◌&&◌, ◌||◌, not, filter, is_some}
use Rattle.std.specs.BTreeMap.{is_at}
use Rattle.std.specs.Cmp.{nat_cmp_total}
use Rattle.std.specs.List.{list_any, AllByRecursion as Each}
use Rattle.std.specs.List.Sorted.{IsStrictlySortedBy}
use Rattle.std.specs.Map.{keys_of}
use Rattle.std.specs.Option.{option_map}
use Rattle.std.specs.Ordering.{nat_cmp, is_eq}
use Rattle.std.specs.declared.cmp.Ordering.TheVariants.{Less}
use Rattle.std.proofs.lemmas.Bool.Decides.{nat_tests}
use Rattle.p2p_base.specs.declared.key.Key.{Key}
use Rattle.p2p_runtime.specs.QuotaPlaces.{Places}
use Rattle.p2p_tracker_calls.specs.Sets.{is_among}
use Rattle.p2p_tracker_calls.proofs.Named.{same-keys}
use Rattle.p2p_gates.specs.Handshaking.{Handshaking}
use Rattle.p2p_gates.specs.Listening.{StandsFor}
use Rattle.p2p_gates.specs.declared.arrival.Arrival.{Arrival}
use Rattle.p2p_log.specs.declared.config.Config.{Config}
use Rattle.p2p_log.specs.declared.queue.Queue.{Queue}
use Rattle.p2p_log.specs.declared.queue.Side.TheVariants as side
use Rattle.p2p_log.specs.declared.queue.Queue.TheVariants as queue
use Rattle.p2p_log.specs.declared.item.Envelope.{Envelope}
use Rattle.p2p_log.specs.declared.entry.Entry.{Entry}
use Rattle.p2p_log.specs.declared.event.Act.TheVariants as act
use Rattle.p2p_log.specs.Apart.{AreApart}
use Rattle.p2p_log.specs.Lines.{name_of, live, line, stands_in}
use Rattle.p2p_log.specs.QueueCode.{same_queue}
use Rattle.p2p_log.proofs.Each.{Has}
use Rattle.p2p_log.proofs.Queues.{same_queue-sym}
use Rattle.p2p_log_rules.specs.Attempting.{Attempt, attempts_of}
use Rattle.p2p_log_rules.specs.Dialing.{dials_of}
use Rattle.p2p_log_rules.specs.Dropping.{LinkEnd, dialing_end, arrival_end}
use Rattle.p2p_log_rules.specs.Facts.{is_up, is_started, is_stopped}
use Rattle.p2p_log_rules.specs.Handshakes.{came_over, handshakes_of, is_handshaking}
use Rattle.p2p_log_rules.specs.Listening.{most_handshakes_at}
use Rattle.p2p_log_rules.specs.Told.{attempts_in, told, link_over}
use Rattle.p2p_log_rules.proofs.Ascending.{attempts-ascend, handshakes-ascend}
use Rattle.p2p_log_rules.proofs.Bools.{or_true}
use Rattle.p2p_log_rules.proofs.Channels.{IsStopOf, stop_told, is_stopped-append}
use Rattle.p2p_log_rules.proofs.Families.{kinds_of, are_apart}
use Rattle.p2p_log_rules.proofs.Handshakes.{handshakes_of-stopped}
use Rattle.p2p_log_rules.proofs.Left.{without, line_gone, line_kept}
use Rattle.p2p_log_rules.proofs.Links.{listening_ends_of-stopped}
use Rattle.p2p_log_rules.proofs.Listening.{hearing_kinds, known_of-apart}
use Rattle.p2p_net_queues.specs.Tables as table
use Rattle.p2p_net_queues.specs.Tables.{AreBut}
use Rattle.p2p_net_queues.proofs.Tables.{same_name}
use Rattle.p2p_net_gates.specs.Attempts.{link_at}
use Rattle.p2p_net_gates.specs.DialerStands.{gates_at, actor_of, AttemptStands, DialerStands}
use Rattle.p2p_net_gates.specs.ListenerStands.{arrival_item, facts_of, HandshakeIs, ListenerStands}
use Rattle.p2p_net_gates.specs.Stopping.{waiting_names, DialerLeft, StopsHandshake, zipped, emptied, StopsListener}
use Rattle.p2p_net_gates.specs.declared.attempt.RunningAttempt.{RunningAttempt}
use Rattle.p2p_net_gates.specs.declared.dialing.Dialing.{Dialing}
use Rattle.p2p_net_gates.specs.declared.listening.Listening.{Listening}
use Rattle.p2p_net_gates.specs.declared.stopping.Stopped.{Stopped}
use Rattle.p2p_net_gates.proofs.AttemptEnds.{out_end, attempt_end}
use Rattle.p2p_net_gates.proofs.Handshakes.{other_tells, untold_kept}
use Rattle.p2p_net_gates.proofs.StandingAttempts.{attempt_among}

-- ---- tables whose keys are in order

at_itself : (k : ℕ) → is_at (nat_cmp k) k ≡ true
at_itself k = grind (arith, nat_tests)

module _ {V : Type 0} where
  -- no later key is this one
  none_later : (k : ℕ) (es : List (ℕ × V)) → Each (λ j. nat_cmp k j ≡ Less) (keys_of es) → table.at es k ≡ None
  none_later k [] h = refl
  none_later k (e ∷ es) h = ap (λ o. cond (is_eq o) (Some e.1) (table.at es k)) h.0 ∙ none_later k es h.1

  first_at : (k : ℕ) (v : V) (es : List (ℕ × V)) → table.at ((k, v) ∷ es) k ≡ Some v
  first_at k v es = ap (λ b. cond b (Some v) (table.at es k)) (at_itself k)

  -- without the first key it is the same, but for that
  pub AreBut-first : (m : List (ℕ × V)) (k : ℕ) (v : V) (rest : List (ℕ × V)) → m ≡ (k, v) ∷ rest → IsStrictlySortedBy nat_cmp (keys_of m) → AreBut k None m rest
  unfolding IsStrictlySortedBy
  AreBut-first m k v rest is sorted j = by (j == k) refl
    where
      here : IsStrictlySortedBy nat_cmp (keys_of ((k, v) ∷ rest))
      here = subst (λ (es : List (ℕ × V)). IsStrictlySortedBy nat_cmp (keys_of es)) is sorted

      by : (b : Bool) → (j == k) ≡ b → table.at rest j ≡ cond b None (table.at m j)
      by true same = ap (table.at rest) (eqb-true j k same) ∙ none_later k rest here.0
      by false other = sym (ap (λ (es : List (ℕ × V)). table.at es j) is ∙ ap (λ b. cond b (Some v) (table.at rest j)) (same_name j k ∙ other))

  -- what stands there is found
  pub found_there : (m : List (ℕ × V)) (k : ℕ) (v : V) → IsStrictlySortedBy nat_cmp (keys_of m) → Has m (k, v) → table.at m k ≡ Some v
  unfolding IsStrictlySortedBy
  found_there [] k v sorted h = absurd h
  found_there (e ∷ es) k v sorted h = elim h [
    | inl is ↦ ap (λ (x : ℕ × V). table.at (x ∷ es) k) is ∙ first_at k v es
    | inr later ↦ ap (λ b. cond b (Some e.1) (table.at es k)) (differs e.0 k (below es (k, v) e.0 sorted.0 later)) ∙ found_there es k v sorted.1 later
  ]
    where
      below : (xs : List (ℕ × V)) (x : ℕ × V) (j : ℕ) → Each (λ i. nat_cmp j i ≡ Less) (keys_of xs) → Has xs x → nat_cmp j x.0 ≡ Less
      below [] x j each h = absurd h
      below (y ∷ ys) x j each h = elim h [
        | inl is ↦ subst (λ (z : ℕ × V). nat_cmp j z.0 ≡ Less) is each.0
        | inr later ↦ below ys x j each.1 later
      ]

      differs : (j k : ℕ) → nat_cmp j k ≡ Less → is_at (nat_cmp k) j ≡ false
      differs j k h = grind (arith, nat_tests)

  -- the keys are those at which something stands
  pub among_keys : (m : List (ℕ × V)) (q : ℕ) → is_among nat_cmp (keys_of m) q ≡ is_some (table.at m q)
  among_keys [] q = refl
  among_keys (e ∷ es) q = ap (λ b. b || is_among nat_cmp (keys_of es) q) (swapped e.0 q) ∙ (ap (λ b. is_at (nat_cmp q) e.0 || b) (among_keys es q) ∙ by (is_at (nat_cmp q) e.0))
    where
      swapped : (j k : ℕ) → is_at (nat_cmp j) k ≡ is_at (nat_cmp k) j
      swapped j k = grind (arith, nat_tests)

      by : (b : Bool) → (b || is_some (table.at es q)) ≡ is_some (cond b (Some e.1) (table.at es q))
      by true = refl
      by false = refl

-- the names among which a name is asked from either side
among_names : (ks : List ℕ) (q : ℕ) → is_among nat_cmp ks q ≡ list_any (λ k. q == k) ks
among_names [] q = refl
among_names (k ∷ ks) q = ap (λ b. b || is_among nat_cmp ks q) (same k q) ∙ ap (λ b. (q == k) || b) (among_names ks q)
  where
    same : (j k : ℕ) → is_at (nat_cmp j) k ≡ (k == j)
    same j k = grind (arith, nat_tests)

one_key : (p q : ℕ) → is_at (nat_cmp p) q ≡ true → p ≡ q
one_key p q h = grind (arith, nat_tests)

-- a table in order of exactly these names, in order
pub names_listed : {V : Type 0} (m : List (ℕ × V)) (ks : List ℕ) → IsStrictlySortedBy nat_cmp (keys_of m) → IsStrictlySortedBy nat_cmp ks
    → ((k : ℕ) → is_some (table.at m k) ≡ list_any (λ j. k == j) ks) → keys_of m ≡ ks
names_listed m ks sorted ordered same =
    same-keys nat_cmp_total one_key (keys_of m) ks sorted ordered (λ q. among_keys m q ∙ (same q ∙ sym (among_names ks q)))

-- ---- what waits for the attempts, while they stop

pub dialer_left_of : (configs : List Config) (log : List Entry) (n : ℕ) (d : Dialing) → DialerStands configs log n d → DialerLeft n d (live log)
unfolding line
dialer_left_of configs log n d s = record { names = λ k. by k (table.at d.attempts k) (attempts_of configs log n k) (s.attempts k) }
  where
    by : (k : ℕ) (o : Option RunningAttempt) (b : Option Attempt) → AttemptStands (gates_at configs n) k o b (line log (queue.Attempt n k))
        → waiting_names o ≡ map name_of (line log (queue.Attempt n k))
    by k None None h = ap (map name_of) (sym h)
    by k (Some r) (Some a) h = ap (λ (x : RunningAttempt). x.names) h.2
    by k None (Some b) h = absurd h
    by k (Some r) None h = absurd h

-- the line of another queue goes
pub dialer_left_other : (n : ℕ) (d : Dialing) (items : List Envelope) (q : Queue) → ((k : ℕ) → same_queue (queue.Attempt n k) q ≡ false) → AreApart items → DialerLeft n d items
    → DialerLeft n d (without q items)
dialer_left_other n d items q other apart h = record {
  names = λ k. h.names k ∙ ap (map name_of) (sym (line_kept q (queue.Attempt n k) items apart (same_queue-sym q (queue.Attempt n k) ∙ other k)));
}

-- the first attempt stops, and what waits for it goes
pub attempt_left : (n : ℕ) (d : Dialing) (items : List Envelope) (k : ℕ) (a : RunningAttempt) (rest : List (ℕ × RunningAttempt)) → d.attempts ≡ (k, a) ∷ rest
    → IsStrictlySortedBy nat_cmp (keys_of d.attempts) → AreApart items → DialerLeft n d items
    → (a.names ≡ map name_of (filter (stands_in (queue.Attempt n k)) items)) × DialerLeft n (record d { attempts = rest }) (without (queue.Attempt n k) items)
attempt_left n d items k a rest is sorted apart h = (
  sym (ap waiting_names (ap (λ (es : List (ℕ × RunningAttempt)). table.at es k) is ∙ first_at k a rest)) ∙ h.names k,
  record { names = λ j. ap waiting_names (AreBut-first d.attempts k a rest is sorted j) ∙ by j (j == k) refl },
)
  where
    left : List Envelope
    left = without (queue.Attempt n k) items

    apart_queues : (n j k : ℕ) → (j == k) ≡ false → same_queue (queue.Attempt n k) (queue.Attempt n j) ≡ false
    apart_queues n j k other = grind (arith, nat_tests)

    by : (j : ℕ) (b : Bool) → (j == k) ≡ b → waiting_names (cond b None (table.at d.attempts j)) ≡ map name_of (filter (stands_in (queue.Attempt n j)) left)
    by j true same = ap (map name_of) (sym (line_gone items (queue.Attempt n k)) ∙ ap (λ i. filter (stands_in (queue.Attempt n i)) left) (sym (eqb-true j k same)))
    by j false other = h.names j ∙ ap (map name_of) (sym (line_kept (queue.Attempt n k) (queue.Attempt n j) items apart (apart_queues n j k other)))

-- ---- the attempts and the handshakes, in order

pub attempts_listed : (configs : List Config) (log : List Entry) (n : ℕ) (d : Dialing) → DialerStands configs log n d → IsStrictlySortedBy nat_cmp (keys_of d.attempts)
    → keys_of d.attempts ≡ attempts_in (told log) n
attempts_listed configs log n d s sorted =
    names_listed d.attempts (attempts_in (told log) n) sorted (attempts-ascend n log).ordered
    (λ k. by k (table.at d.attempts k) (attempts_of configs log n k) (s.attempts k) ∙ attempt_among configs log n k)
  where
    by : (k : ℕ) (o : Option RunningAttempt) (b : Option Attempt) → AttemptStands (gates_at configs n) k o b (line log (queue.Attempt n k)) → is_some o ≡ is_some b
    by k None None h = refl
    by k (Some r) (Some a) h = refl
    by k None (Some b) h = absurd h
    by k (Some r) None h = absurd h

-- each has the dialing end of its link, where it has one
pub attempt_dials : (configs : List Config) (log : List Entry) (n : ℕ) (d : Dialing) (k : ℕ) (a : RunningAttempt) → DialerStands configs log n d → IsStrictlySortedBy nat_cmp (keys_of d.attempts)
    → Has d.attempts (k, a) → option_map out_end a.link ≡ dialing_end log n k
attempt_dials configs log n d k a s sorted has = sym (ap (λ o. option_map out_end (link_at o)) (found_there d.attempts k a sorted has)) ∙ attempt_end configs log n d s k

module _ (configs : List Config) (log : List Entry) (n : ℕ) (l : Listening) (s : ListenerStands configs log n l) (sorted : IsStrictlySortedBy nat_cmp (keys_of l.handshakes)) where
  pub handshakes_listed : keys_of l.handshakes ≡ handshakes_of log n
  handshakes_listed =
      names_listed l.handshakes (handshakes_of log n) sorted (handshakes-ascend n log).ordered (λ k. by k (table.at l.handshakes k) (is_handshaking log n k) (s.handshakes k))
    where
      by : (k : ℕ) (o : Option (Handshaking Key)) (b : Bool) → HandshakeIs (facts_of configs log n k) k b o → is_some o ≡ b
      by k None b h = sym h
      by k (Some a) b h = sym h.0

  -- the peer of each came over the link that the log tells
  pub handshake_link : (h : ℕ) (a : Handshaking Key) → Has l.handshakes (h, a) → came_over log h ≡ Some a.arrival.link
  handshake_link h a has = by (table.at l.handshakes h) (s.handshakes h) (found_there l.handshakes h a sorted has)
    where
      by : (o : Option (Handshaking Key)) → HandshakeIs (facts_of configs log n h) h (is_handshaking log n h) o → o ≡ Some a → came_over log h ≡ Some a.arrival.link
      by None it is = cc
      by (Some b) it is = let same : b ≡ a = cc in ap link_over it.1.began ∙ ap (λ (x : Handshaking Key). Some x.arrival.link) same

  -- each holds a place
  pub handshakes_held : length l.handshakes ≡ l.actor.places.held
  handshakes_held = counted l.handshakes ∙ (ap (λ ks. length ks) handshakes_listed ∙ sym (ap (λ (p : Places). p.held) s.places))
    where
      counted : (m : List (ℕ × Handshaking Key)) → length m ≡ length (keys_of m)
      counted [] = refl
      counted (e ∷ es) = ap suc (counted es)

-- and so it stays while they stop
pub handshake_left : (l u : Listening) (o : Option Stopped) → StopsHandshake l.handshakes l u o → length l.handshakes ≡ l.actor.places.held → length u.handshakes ≡ u.actor.places.held
handshake_left l u o stops held = by l.handshakes stops held
  where
    fewer : (a b : ℕ) → suc a ≡ b → a ≡ b - 1
    fewer a b is = omega (arith, is)

    by : (hs : List (ℕ × Handshaking Key)) → StopsHandshake hs l u o → length hs ≡ l.actor.places.held → length u.handshakes ≡ u.actor.places.held
    by [] stops held = ap (λ (x : Listening). length x.handshakes) stops.1 ∙ (held ∙ sym (ap (λ (x : Listening). x.actor.places.held) stops.1))
    by (h ∷ hs) stops held =
        ap (λ (x : Listening). length x.handshakes) stops.1 ∙ (fewer (length hs) l.actor.places.held held ∙ sym (ap (λ (x : Listening). x.actor.places.held) stops.1))

-- nothing else of it goes
pub emptied-handshake : (l u : Listening) (o : Option Stopped) → StopsHandshake l.handshakes l u o → emptied u ≡ emptied l
emptied-handshake l u o stops = by l.handshakes stops
  where
    by : (hs : List (ℕ × Handshaking Key)) → StopsHandshake hs l u o → emptied u ≡ emptied l
    by [] stops = ap emptied stops.1
    by (h ∷ hs) stops = ap emptied stops.1

-- and where all has gone, it is what is left
pub emptied-all : (u : Listening) → u.names ≡ [] → u.actor.arrivals ≡ [] → u.actor.places.held ≡ 0 → u.handshakes ≡ [] → u.ends ≡ [] → u ≡ emptied u
emptied-all u names arrivals held handshakes ends =
    ap (λ x. record u { names = x }) names
    ∙ (ap (λ x. record u { names = []; handshakes = x }) handshakes
    ∙ (ap (λ x. record u { names = []; handshakes = []; ends = x }) ends
    ∙ (ap (λ x. record u { names = []; handshakes = []; ends = []; actor = record u.actor { arrivals = x } }) arrivals
    ∙ ap (λ x. record u { names = []; handshakes = []; ends = []; actor = record u.actor { arrivals = []; places = record { held = x; max = u.actor.places.max } } }) held)))

-- ---- the arrivals, in order

abbrev pub with_end : (ℕ × ℕ) × ℕ → (ℕ × ℕ) × Option LinkEnd
with_end p = (p.0, Some (p.1, side.In))

abbrev pub ending_arrival : Envelope → (ℕ × ℕ) × Option LinkEnd
ending_arrival x = (name_of x, arrival_end (x.item ∷ []))

zipped_line : (xs : List Envelope) (arrivals : List (Arrival Key)) → map (λ (x : Envelope). x.item) xs ≡ map arrival_item arrivals → map with_end (zipped (map name_of xs) arrivals) ≡ map ending_arrival xs
zipped_line [] arrivals h = refl
zipped_line (x ∷ xs) [] h = absurd (cc)
zipped_line (x ∷ xs) (a ∷ arrivals) h =
    let first : x.item ≡ arrival_item a = cc in
    let rest : map (λ (y : Envelope). y.item) xs ≡ map arrival_item arrivals = cc in
    ap (λ i. (name_of x, arrival_end (i ∷ [])) ∷ map with_end (zipped (map name_of xs) arrivals)) (sym first) ∙ ap (λ l. ending_arrival x ∷ l) (zipped_line xs arrivals rest)

-- what waits for the listener, each with the listening end of its link
pub arrivals_listed : (configs : List Config) (log : List Entry) (n : ℕ) (l : Listening) → ListenerStands configs log n l
    → map with_end (zipped l.names l.actor.arrivals) ≡ map ending_arrival (line log (queue.Arrivals n))
arrivals_listed configs log n l s =
    ap (λ names. map with_end (zipped names l.actor.arrivals)) s.names ∙ zipped_line (line log (queue.Arrivals n)) l.actor.arrivals s.items

-- ---- once all has stopped

pub is_up-stopped : (log : List Entry) (e : Entry) (n : ℕ) → IsStopOf log e n → is_up (log ++ e ∷ []) n ≡ false
unfolding is_up
is_up-stopped log e n stop =
    ap (λ b. is_started (log ++ e ∷ []) n && not b) (is_stopped-append log e n ∙ (ap (λ b. is_stopped log n || b) (stop_told log e n stop) ∙ or_true (is_stopped log n))) ∙ by (is_started (log ++ e ∷ []) n)
  where
    by : (b : Bool) → (b && false) ≡ false
    by true = refl
    by false = refl

pub dialer_stopped : (configs : List Config) (log : List Entry) (e : Entry) (n : ℕ) (d : Dialing) → d.actor ≡ None → d.attempts ≡ [] → is_up (log ++ e ∷ []) n ≡ false
    → ((k : ℕ) → attempts_of configs (log ++ e ∷ []) n k ≡ None) → ((k : ℕ) → line (log ++ e ∷ []) (queue.Attempt n k) ≡ []) → DialerStands configs (log ++ e ∷ []) n d
dialer_stopped configs log e n d none empty down tries lines = record {
  actor = none ∙ sym (ap (λ b. cond b (Some (actor_of (gates_at configs n) (dials_of configs (log ++ e ∷ []) n))) None) down);
  attempts = λ k.
      subst (λ m. AttemptStands (gates_at configs n) k (table.at m k) (attempts_of configs (log ++ e ∷ []) n k) (line (log ++ e ∷ []) (queue.Attempt n k))) (sym empty)
      (subst (λ o. AttemptStands (gates_at configs n) k None o (line (log ++ e ∷ []) (queue.Attempt n k))) (sym (tries k)) (lines k));
}

-- what the stop of its node leaves of the listener, where the line of its arrivals is empty then
pub stops_listener : (configs : List Config) (log : List Entry) (e : Entry) (n : ℕ) → IsStopOf log e n → line (log ++ e ∷ []) (queue.Arrivals n) ≡ [] → StopsListener configs log e n
stops_listener configs log e n stop none = record {
  known = known_of-apart configs log e n (ap (λ a. are_apart (kinds_of a) hearing_kinds) stop.acts);
  handshakes = handshakes_of-stopped log e n stop;
  arrivals = none;
  tells = λ k. other_tells log e n k (λ so. apart k (sym stop.acts ∙ so));
  ends = listening_ends_of-stopped log e n stop;
}
  where
    apart : (k : ℕ) → act.Stop stop.by_start n ≡ act.Handshake k n → ⊥
    apart k so = cc

pub listener_stopped : (configs : List Config) (log : List Entry) (e : Entry) (n : ℕ) (l u : Listening) → ListenerStands configs log n l → StopsListener configs log e n → u ≡ emptied l
    → ListenerStands configs (log ++ e ∷ []) n u
listener_stopped configs log e n l u s stop is =
    subst (ListenerStands configs (log ++ e ∷ []) n) (sym is) (record {
      names = sym (ap (map name_of) stop.arrivals);
      items = ap (map (λ (x : Envelope). x.item)) stop.arrivals;
      rules = s.rules;
      known = subst (StandsFor (emptied l).actor) (sym stop.known) (record { addresses = s.known.addresses; passed = s.known.passed });
      places =
          ap (λ m. record { held = 0; max = m }) (ap (λ (p : Places). p.max) s.places)
          ∙ ap (λ (names : List ℕ). record { held = length names; max = most_handshakes_at configs n }) (sym stop.handshakes);
      works = s.works;
      timeout = s.timeout;
      handshakes = λ k. ap (list_any (λ j. k == j)) stop.handshakes;
      untold = untold_kept log e n (λ k past. stop.tells k) s.untold;
      ends = λ k. sym (stop.ends k);
    })
