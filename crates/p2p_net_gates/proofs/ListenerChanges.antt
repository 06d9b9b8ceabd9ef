-- The listener of a node after one more entry.
use Rattle.std.proofs.Common.{◌≡◌, ℕ, ◌+◌, Bool, true, false, cond, List, [], ◌∷◌, ◌++◌, map, length, refl, ap, sym, subst, ◌∙◌, arith, eq-eqb, suc, Option, Some, None}
use Rattle.std.specs.Prelude.{◌-◌, ◌<◌, ◌≤◌, ◌==◌, not, is_some}
use Rattle.std.specs.List.{list_any}
use Rattle.std.proofs.lemmas.Bool.Decides.{nat_tests}
use Rattle.std.proofs.lemmas.List.{map-append}
use Rattle.p2p_base.specs.declared.key.Key.{Key}
use Rattle.p2p_address.specs.declared.ip.SocketAddr.{SocketAddr}
use Rattle.p2p_runtime.specs.QuotaPlaces.{Places}
use Rattle.p2p_tracker_calls.specs.Gates.{GateRules, Known}
use Rattle.p2p_gates.specs.Gates.{rules_of}
use Rattle.p2p_gates.specs.Handshaking.{Handshaking}
use Rattle.p2p_gates.specs.Listening.{Listening as Actor, StandsFor, with_arrival, with_rest}
use Rattle.p2p_gates.specs.Quotas.{KeepsRates}
use Rattle.p2p_gates.specs.declared.arrival.Arrival.{Arrival}
use Rattle.p2p_gates.specs.declared.config.Config.{Config as Gates}
use Rattle.p2p_log.specs.declared.config.Config.{Config}
use Rattle.p2p_log.specs.declared.queue.Queue.TheVariants as queue
use Rattle.p2p_log.specs.declared.item.Item.{Item}
use Rattle.p2p_log.specs.declared.item.Item.TheVariants as item
use Rattle.p2p_log.specs.declared.item.Envelope.{Envelope}
use Rattle.p2p_log.specs.declared.entry.Entry.{Entry}
use Rattle.p2p_log.specs.declared.event.Act.TheVariants as act
use Rattle.p2p_log.specs.Lines.{name_of, live_from, line}
use Rattle.p2p_log_rules.specs.Attempting.{dial_rules_at}
use Rattle.p2p_log_rules.specs.Facts.{state_from, taken, with_named}
use Rattle.p2p_log_rules.specs.Handshakes.{ends_handshake, handshakes_of, is_handshaking, has_taken, came_over}
use Rattle.p2p_log_rules.specs.Links.{listening_ends_of}
use Rattle.p2p_log_rules.specs.Standing.{standing}
use Rattle.p2p_log_rules.specs.Told.{tells, told}
use Rattle.p2p_log_rules.specs.Listening.{gate_rules_at, most_handshakes_at, known_of}
use Rattle.p2p_log_rules.proofs.Listening.{hearing_kinds, took_known, IsJudged, known_of-apart, known_of-listened}
use Rattle.p2p_log_rules.specs.declared.row.ListeningEnd.{ListeningEnd}
use Rattle.p2p_log_rules.specs.declared.row.ListeningEnd.TheVariants as listening
use Rattle.p2p_log_rules.proofs.Families.{kinds_of, are_apart}
use Rattle.p2p_log_rules.proofs.Handshakes.{without_name, handshakes_of-shaken, handshaking_early, one_less}
use Rattle.p2p_log_rules.proofs.Links.{listening_ends_of-shaken, without_end}
use Rattle.p2p_net_queues.specs.Tables as table
use Rattle.p2p_net_queues.specs.Tables.{AreBut}
use Rattle.p2p_net_queues.proofs.Tables.{at-inserted}
use Rattle.p2p_net_gates.specs.Listening.{IsNew, arrived, EndsAre}
use Rattle.p2p_net_gates.specs.Handshaking.{one_freed, freed_if, ends_left}
use Rattle.p2p_net_gates.specs.ListenerStands.{arrival_item, facts_of, HandshakeIs, ListenerStands, TellsNothing, LeavesListener}
use Rattle.p2p_net_gates.specs.declared.listening.Listening.{Listening}
use Rattle.p2p_net_gates.proofs.LeavingListener.{of_steps, unstepped_known, unstepped_handshakes, unstepped_tells, listener_tells}
use Rattle.p2p_net_gates.proofs.Handshakes.{other_tells, untold_kept, facts_after, facts-stepped, handshakes_kept, handshakes_changed, handshaking-others, handshaking-itself}

-- ---- a listener that was made

-- the rules of the gates that are made with this
abbrev pub rules_by : Gates → GateRules
rules_by cfg = record {
  allow_private_ips = cfg.allow_private_ips;
  bypass_ip_check = cfg.bypass_ip_check;
  rates = record { address = cfg.allowed_handshake_rate_per_ip; subnet = cfg.allowed_handshake_rate_per_subnet };
}

rules_made : (cfg : Gates) (l : Listening) → IsNew cfg l → rules_of l.actor ≡ rules_by cfg
rules_made cfg l new =
    ap rules_of new.actor
    ∙ (ap (λ r. record {
      allow_private_ips = cfg.allow_private_ips;
      bypass_ip_check = cfg.bypass_ip_check;
      rates = record { address = r; subnet = l.actor.quotas.subnets.rate };
    }) new.ip_rate
    ∙ ap (λ r. record {
      allow_private_ips = cfg.allow_private_ips;
      bypass_ip_check = cfg.bypass_ip_check;
      rates = record { address = cfg.allowed_handshake_rate_per_ip; subnet = r };
    }) new.subnet_rate)

pub listener_new : (configs : List Config) (n : ℕ) (cfg : Gates) (l : Listening) → IsNew cfg l → rules_by cfg ≡ gate_rules_at configs n → cfg.max_concurrent_handshakes ≡ most_handshakes_at configs n
    → cfg.handshake_timeout ≡ (dial_rules_at configs n).handshake_timeout → ListenerStands configs [] n l
unfolding line live_from known_of handshakes_of standing has_taken listening_ends_of told state_from
listener_new configs n cfg l new rules most until = record {
  names = new.names;
  items = sym (ap (λ (a : Actor Key). map arrival_item a.arrivals) new.actor);
  rules = rules_made cfg l new ∙ rules;
  known = new.stands;
  places = ap (λ (a : Actor Key). a.places) new.actor ∙ ap (λ m. record { held = 0; max = m }) most;
  works = ap (λ (a : Actor Key). a.has_failed) new.actor;
  timeout = ap (λ (a : Actor Key). a.handshake_timeout) new.actor ∙ until;
  handshakes = λ k. subst (HandshakeIs (facts_of configs [] n k) k false) (sym (ap (λ (hs : List (ℕ × Handshaking Key)). table.at hs k) new.handshakes)) refl;
  untold = λ k late. (refl, refl);
  ends = λ k. ap (λ (ends : List (ℕ × ListeningEnd)). table.at ends k) new.ends;
}

-- ---- an entry that leaves it alone

pub listener_frame : (configs : List Config) (log : List Entry) (e : Entry) (n : ℕ) (l : Listening) → ListenerStands configs log n l → LeavesListener configs log e n → ListenerStands configs (log ++ e ∷ []) n l
listener_frame configs log e n l s left = record {
  names = s.names ∙ ap (map name_of) (sym left.arrivals);
  items = ap (map (λ (x : Envelope). x.item)) left.arrivals ∙ s.items;
  rules = s.rules;
  known = subst (StandsFor l.actor) (sym left.known) s.known;
  places = s.places ∙ ap (λ (names : List ℕ). record { held = length names; max = most_handshakes_at configs n }) (sym left.handshakes);
  works = s.works;
  timeout = s.timeout;
  handshakes = handshakes_kept configs log e n l.handshakes left.handshakes left.tells s.handshakes;
  untold = untold_kept log e n (λ k past. left.tells k) s.untold;
  ends = λ k. s.ends k ∙ sym (left.ends k);
}

-- the same listener, where its tables give the same handshakes and the same ends
pub listener_same : (configs : List Config) (log : List Entry) (n : ℕ) (l u : Listening) → ListenerStands configs log n l → u ≡ record l { handshakes = u.handshakes; ends = u.ends }
    → ((k : ℕ) → table.at u.handshakes k ≡ table.at l.handshakes k) → EndsAre (table.at l.ends) u.ends → ListenerStands configs log n u
listener_same configs log n l u s rest same ends =
    subst (ListenerStands configs log n) (sym rest) (record {
      names = s.names;
      items = s.items;
      rules = s.rules;
      known = s.known;
      places = s.places;
      works = s.works;
      timeout = s.timeout;
      handshakes = λ k. subst (HandshakeIs (facts_of configs log n k) k (is_handshaking log n k)) (sym (same k)) (s.handshakes k);
      untold = s.untold;
      ends = λ k. ends k ∙ s.ends k;
    })

-- and where nothing else of it changed
pub listener_untouched : (configs : List Config) (log : List Entry) (n : ℕ) (l u : Listening) → ListenerStands configs log n l → u ≡ record l { handshakes = u.handshakes }
    → ((k : ℕ) → table.at u.handshakes k ≡ table.at l.handshakes k) → ListenerStands configs log n u
listener_untouched configs log n l u s rest same =
    let ends : u.ends ≡ l.ends = ap (λ (x : Listening). x.ends) rest in
    listener_same configs log n l u s (rest ∙ ap (λ t. record l { handshakes = u.handshakes; ends = t }) (sym ends)) same (λ k. ap (λ (t : List (ℕ × ListeningEnd)). table.at t k) ends)

-- ---- one at which an exchange of keys ends, of which a handshake was told

pub listener_finished : (configs : List Config) (log : List Entry) (e : Entry) (n : ℕ) (l u : Listening) → ListenerStands configs log n l → LeavesListener configs log e n
    → u ≡ record l { handshakes = u.handshakes } → ((k : ℕ) → table.at u.handshakes k ≡ table.at l.handshakes k) → ListenerStands configs (log ++ e ∷ []) n u
listener_finished configs log e n l u s left rest same = listener_untouched configs (log ++ e ∷ []) n l u (listener_frame configs log e n l s left) rest same

-- ---- one at which a peer arrives

pub listener_arrived : (configs : List Config) (log : List Entry) (e : Entry) (n k place : ℕ) (from : SocketAddr) (key : Key) (l : Listening) → ListenerStands configs log n l
    → list_any (of_steps n) (tells (told log) log e) ≡ false
    → line (log ++ e ∷ []) (queue.Arrivals n)
    ≡ line log (queue.Arrivals n) ++ record { entry = k; place = place; queue = queue.Arrivals n; item = item.Arrival from key k } ∷ []
    → ((j : ℕ) → listening_ends_of (log ++ e ∷ []) n j ≡ with_named k (Some listening.Arriving) (listening_ends_of log n) j)
    → ListenerStands configs (log ++ e ∷ []) n (arrived k place from key l)
listener_arrived configs log e n k place from key l s no_step more begins =
    let x : Envelope = record { entry = k; place = place; queue = queue.Arrivals n; item = item.Arrival from key k } in
    let a : Arrival Key = record { from = from; key = key; link = k } in
    let before : List Envelope = line log (queue.Arrivals n) in
    record {
      names = ap (λ l. l ++ (k, place) ∷ []) s.names ∙ (sym (map-append name_of before (x ∷ [])) ∙ ap (map name_of) (sym more));
      items = ap (map (λ (y : Envelope). y.item)) more
          ∙ (map-append (λ (y : Envelope). y.item) before (x ∷ [])
          ∙ (ap (λ l. l ++ item.Arrival from key k ∷ []) s.items ∙ sym (map-append arrival_item l.actor.arrivals (a ∷ []))));
      rules = s.rules;
      known = subst (StandsFor (with_arrival l.actor a)) (sym (unstepped_known log e n no_step configs)) (record { addresses = s.known.addresses; passed = s.known.passed });
      places = s.places ∙ ap (λ (names : List ℕ). record { held = length names; max = most_handshakes_at configs n }) (sym (unstepped_handshakes log e n no_step));
      works = s.works;
      timeout = s.timeout;
      handshakes = handshakes_kept configs log e n l.handshakes (unstepped_handshakes log e n no_step) (unstepped_tells log e n no_step) s.handshakes;
      untold = untold_kept log e n (λ j past. unstepped_tells log e n no_step j) s.untold;
      ends = λ j. at-inserted k j listening.Arriving l.ends
          ∙ (ap (λ o. cond (j == k) (Some listening.Arriving) o) (s.ends j) ∙ sym (begins j));
    }

-- ---- its step

rules_kept : (l u : Actor Key) → u ≡ with_rest l u → KeepsRates l.quotas u.quotas → rules_of u ≡ rules_of l
rules_kept l u rest rates =
    ap rules_of rest
    ∙ (ap (λ r. record { allow_private_ips = l.allow_private_ips; bypass_ip_check = l.bypass_ip_check; rates = record { address = r; subnet = u.quotas.subnets.rate } }) rates.addresses
    ∙ ap (λ r. record { allow_private_ips = l.allow_private_ips; bypass_ip_check = l.bypass_ip_check; rates = record { address = l.quotas.addresses.rate; subnet = r } }) rates.subnets)

-- what a step makes of it: it took these
pub record ListenerMoves (configs : List Config) (log : List Entry) (e : Entry) (n : ℕ) (l u : Listening) (items : List Item) : Type 0 where
  pub steps : e.event.act ≡ act.Listener n
  pub took : taken log e ≡ items
  pub names : u.names ≡ map name_of (line (log ++ e ∷ []) (queue.Arrivals n))
  pub waits : map (λ x. x.item) (line (log ++ e ∷ []) (queue.Arrivals n)) ≡ map arrival_item u.actor.arrivals
  pub judged : IsJudged (gate_rules_at configs n) (known_of configs log n) e.event.at e.reply items
  pub known : StandsFor u.actor (took_known (gate_rules_at configs n) e.event.at items (known_of configs log n))
  pub places : u.actor.places ≡ record { held = length (handshakes_of (log ++ e ∷ []) n); max = most_handshakes_at configs n }
  pub handshakes : (k : ℕ) → HandshakeIs (facts_of configs (log ++ e ∷ []) n k) k (is_handshaking (log ++ e ∷ []) n k) (table.at u.handshakes k)
  pub ends : EndsAre (listening_ends_of (log ++ e ∷ []) n) u.ends
  pub rest : u.actor ≡ with_rest l.actor u.actor
  pub rates : KeepsRates l.actor.quotas u.actor.quotas

pub listener_moved : (configs : List Config) (log : List Entry) (e : Entry) (n : ℕ) (l u : Listening) (items : List Item) → ListenerStands configs log n l → ListenerMoves configs log e n l u items
    → ListenerStands configs (log ++ e ∷ []) n u
listener_moved configs log e n l u items s m = record {
  names = m.names;
  items = m.waits;
  rules = rules_kept l.actor u.actor m.rest m.rates ∙ s.rules;
  known = subst (StandsFor u.actor) (sym known_now) m.known;
  places = m.places;
  works = ap (λ (a : Actor Key). a.has_failed) m.rest ∙ s.works;
  timeout = ap (λ (a : Actor Key). a.handshake_timeout) m.rest ∙ s.timeout;
  handshakes = m.handshakes;
  untold = untold_kept log e n (λ k past. listener_tells log e n m.steps k) s.untold;
  ends = m.ends;
}
  where
    known_now : known_of configs (log ++ e ∷ []) n ≡ took_known (gate_rules_at configs n) e.event.at items (known_of configs log n)
    known_now =
        known_of-listened configs log e n m.steps (subst (IsJudged (gate_rules_at configs n) (known_of configs log n) e.event.at e.reply) (sym m.took) m.judged)
        ∙ ap (λ l. took_known (gate_rules_at configs n) e.event.at l (known_of configs log n)) m.took

-- ---- a step of a handshake

-- one that is kept holds a place
pub place_held : (configs : List Config) (log : List Entry) (n k : ℕ) (l : Listening) → ListenerStands configs log n l → is_some (table.at l.handshakes k) ≡ true → 0 < l.actor.places.held
place_held configs log n k l s there = subst (λ c. 0 < c) (sym (ap (λ (p : Places). p.held) s.places)) (by (table.at l.handshakes k) (s.handshakes k) there)
  where
    some : (names : List ℕ) → list_any (λ j. k == j) names ≡ true → 0 < length names
    some [] h = cc
    some (j ∷ names) h = omega arith

    by : (o : Option (Handshaking Key)) → HandshakeIs (facts_of configs log n k) k (is_handshaking log n k) o → is_some o ≡ true → 0 < length (handshakes_of log n)
    by None h there = cc
    by (Some a) h there = some (handshakes_of log n) h.0

-- what a step makes of it that took these, in which the handshake of this name may have ended, and which is this then
pub record HandshakeMoves (configs : List Config) (log : List Entry) (e : Entry) (n name : ℕ) (l u : Listening) (items : List Item) (ended : Bool) (now : Option (Handshaking Key)) : Type 0 where
  pub steps : e.event.act ≡ act.Handshake name n
  pub took : taken log e ≡ items
  pub over : ends_handshake e.reply items ≡ ended
  pub runs : is_handshaking log n name ≡ true
  pub arrivals : line (log ++ e ∷ []) (queue.Arrivals n) ≡ line log (queue.Arrivals n)
  pub rest : u ≡ record l { actor = freed_if ended l.actor; handshakes = u.handshakes; ends = u.ends }
  pub others : AreBut name now l.handshakes u.handshakes
  pub stands : HandshakeIs (facts_after items (facts_of configs log n name)) name (not ended) now
  -- over this link its peer came
  pub link : ℕ
  pub came : came_over log name ≡ Some link
  pub ends : EndsAre (ends_left ended link (table.at l.ends)) u.ends

-- whether it has ended, by what it took
pub handshakes_stepped : (log : List Entry) (e : Entry) (n name : ℕ) (items : List Item) (ended : Bool) → e.event.act ≡ act.Handshake name n → taken log e ≡ items → ends_handshake e.reply items ≡ ended
    → handshakes_of (log ++ e ∷ []) n ≡ cond ended (without_name name (handshakes_of log n)) (handshakes_of log n)
handshakes_stepped log e n name items ended steps took over =
    handshakes_of-shaken log e n name steps ∙ ap (λ b. cond b (without_name name (handshakes_of log n)) (handshakes_of log n)) (ap (ends_handshake e.reply) took ∙ over)

-- what has the listening ends then
dropped_ends : (log : List Entry) (e : Entry) (n name link : ℕ) (items : List Item) (ended : Bool) (ends : ℕ → Option ListeningEnd) → e.event.act ≡ act.Handshake name n → taken log e ≡ items
    → ends_handshake e.reply items ≡ ended → came_over log name ≡ Some link → ((k : ℕ) → ends k ≡ listening_ends_of log n k)
    → (k : ℕ) → listening_ends_of (log ++ e ∷ []) n k ≡ ends_left ended link ends k
dropped_ends log e n name link items ended ends steps took over came same k =
    let before : ℕ → Option ListeningEnd = listening_ends_of log n in
    listening_ends_of-shaken log e n name n steps k
    ∙ (ap (λ b. cond b (cond (ends_handshake e.reply (taken log e)) (without_end (came_over log name) before k) (before k)) (before k)) (eq-eqb n n refl)
    ∙ (ap (λ b. cond b (without_end (came_over log name) before k) (before k)) (ap (ends_handshake e.reply) took ∙ over)
    ∙ (ap (λ o. cond ended (without_end o before k) (before k)) came ∙ by ended)))
  where
    by : (b : Bool) → cond b (with_named link None (listening_ends_of log n) k) (listening_ends_of log n k) ≡ ends_left b link ends k
    by true = ap (λ o. cond (k == link) None o) (sym (same k))
    by false = sym (same k)

-- the step of a handshake tells another nothing
other_told : (log : List Entry) (e : Entry) (n name k : ℕ) → e.event.act ≡ act.Handshake name n → (k == name) ≡ false → TellsNothing log e n k
other_told log e n name k steps other = other_tells log e n k (λ so. apart (sym steps ∙ so))
  where
    apart : act.Handshake name n ≡ act.Handshake k n → ⊥
    apart so = let same : k ≡ name = cc in let t : true ≡ false = sym (eq-eqb k name same) ∙ other in cc

rules_freed : (b : Bool) (l : Actor Key) → rules_of (freed_if b l) ≡ rules_of l
rules_freed true l = refl
rules_freed false l = refl

known_freed : (b : Bool) (l : Actor Key) (k : Known) → StandsFor l k → StandsFor (freed_if b l) k
known_freed true l k h = record { addresses = h.addresses; passed = h.passed }
known_freed false l k h = h

kept_freed : (b : Bool) (l : Actor Key) → ((freed_if b l).arrivals ≡ l.arrivals) × (((freed_if b l).has_failed ≡ l.has_failed) × ((freed_if b l).handshake_timeout ≡ l.handshake_timeout))
kept_freed true l = (refl, (refl, refl))
kept_freed false l = (refl, (refl, refl))

pub listener_after_handshake : (configs : List Config) (log : List Entry) (e : Entry) (n name : ℕ) (l u : Listening) (items : List Item) (ended : Bool) (now : Option (Handshaking Key))
    → ListenerStands configs log n l → HandshakeMoves configs log e n name l u items ended now → ListenerStands configs (log ++ e ∷ []) n u
listener_after_handshake configs log e n name l u items ended now s m =
    let actor : Actor Key = freed_if ended l.actor in
    let kept = kept_freed ended l.actor in
    subst (ListenerStands configs (log ++ e ∷ []) n) (sym m.rest) (record {
      names = s.names ∙ ap (map name_of) (sym m.arrivals);
      items = ap (map (λ (x : Envelope). x.item)) m.arrivals ∙ (s.items ∙ ap (map arrival_item) (sym kept.0));
      rules = rules_freed ended l.actor ∙ s.rules;
      known = subst (StandsFor actor) (sym (known_of-apart configs log e n (ap (λ a. are_apart (kinds_of a) hearing_kinds) m.steps))) (known_freed ended l.actor (known_of configs log n) s.known);
      places = places ended ∙ ap (λ (names : List ℕ). record { held = length names; max = most_handshakes_at configs n }) (sym names);
      works = kept.1.0 ∙ s.works;
      timeout = kept.1.1 ∙ s.timeout;
      handshakes = handshakes_changed configs log e n name now l.handshakes u.handshakes (handshaking-others configs log e n name ended names) (λ k other. other_told log e n name k m.steps other) m.others
          (subst (λ b. HandshakeIs (facts_of configs (log ++ e ∷ []) n name) name b now) (sym (handshaking-itself configs log e n name ended names m.runs)) stays) s.handshakes;
      untold = untold_kept log e n (λ k past. other_told log e n name k m.steps (later k (length log) early past)) s.untold;
      ends = λ k. m.ends k ∙ sym (dropped_ends log e n name m.link items ended (table.at l.ends) m.steps m.took m.over m.came s.ends k);
    })
  where
    early : suc name ≤ length log
    early = handshaking_early log n name m.runs

    later : (k c : ℕ) → suc name ≤ c → c + 1 ≤ k → (k == name) ≡ false
    later k c early past = grind (arith, nat_tests)

    names : handshakes_of (log ++ e ∷ []) n ≡ cond ended (without_name name (handshakes_of log n)) (handshakes_of log n)
    names = handshakes_stepped log e n name items ended m.steps m.took m.over

    stays : HandshakeIs (facts_of configs (log ++ e ∷ []) n name) name (not ended) now
    stays = subst (λ f. HandshakeIs f name (not ended) now) (sym (facts-stepped configs log e n name items early m.steps m.took)) m.stands

    less : (a b : ℕ) → a + 1 ≡ b → b - 1 ≡ a
    less a b is = omega (arith, is)

    places : (b : Bool) → (freed_if b l.actor).places ≡ record { held = length (cond b (without_name name (handshakes_of log n)) (handshakes_of log n)); max = most_handshakes_at configs n }
    places true =
        ap one_freed s.places
        ∙ ap (λ c. record { held = c; max = most_handshakes_at configs n }) (less (length (without_name name (handshakes_of log n))) (length (handshakes_of log n)) (one_less log n name m.runs))
    places false = s.places
