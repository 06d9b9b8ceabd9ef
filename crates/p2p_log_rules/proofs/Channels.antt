-- Which nodes run and which channels they have, after one more entry; and that valid input, which reads what was asked, has the same.
use Rattle.std.proofs.Common.{◌≡◌, ℕ, Bool, true, false, cond, List, [], ◌∷◌, ◌++◌, map, length, refl, ap, sym, ◌∙◌, ◌⊎◌, inl, inr, append-nil, eqb-true, eq-eqb, true≢false}
use Rattle.std.specs.Prelude.{◌==◌, ◌||◌, ◌&&◌, not, flat_map}
use Rattle.std.specs.List.{list_any}
use Rattle.std.proofs.lemmas.Bool.{false≢true}
use Rattle.std.proofs.lemmas.List.{map-append}
use Rattle.p2p_log.specs.declared.config.Config.{Config}
use Rattle.p2p_log.specs.declared.entry.Entry.{Entry}
use Rattle.p2p_log.specs.declared.event.Act.{Act}
use Rattle.p2p_log.specs.declared.event.Act.TheVariants as act
use Rattle.p2p_log.specs.declared.event.Rate.{Rate}
use Rattle.p2p_log.specs.declared.queue.Queue.TheVariants as queue
use Rattle.p2p_log.specs.Lines.{line}
use Rattle.p2p_log_rules.specs.Facts.{events_of, starts, turns, stops, has_started, starts_node, stops_node, is_started, is_stopped, is_up, with_capacity, registers_at, registered, rates_by, rate_told, rates, channels, state_from}
use Rattle.p2p_log_rules.specs.Tellings.{Telling}
use Rattle.p2p_log_rules.specs.Tellings as telling
use Rattle.p2p_log_rules.specs.Told.{tells, told, when, told_unless_stopped, messages_stop, arrivals_stop, attempts_in, attempt_stops, handshakes_in, handshake_stops, connections_in, connection_stops, stop_tells}
use Rattle.p2p_log_rules.proofs.Acted.{tells_as, nothing_of, found-append, found-kept, collected-append, collected-kept}
use Rattle.p2p_log_rules.proofs.Bools.{and_false, or_false, or_true}
use Rattle.p2p_log_rules.proofs.Facts.{events_of-append, has_started-append, registered-append}
use Rattle.p2p_log_rules.proofs.TellingKinds as kind
use Rattle.p2p_log_rules.proofs.Families.{telling_kind, kinds_of, has, are_apart, untold_of}
use Rattle.p2p_log_rules.proofs.Ignoring.{by_entries}
use Rattle.p2p_log_rules.proofs.Tellings.{when_quiet, or_left}
use Rattle.p2p_log_rules.proofs.Told.{stop_quiet}

-- ---- whether a node is up

start_kinds : (n : ℕ) (t : Telling) → has (kind.node_started ∷ []) (telling_kind t) ≡ false → starts_node n t ≡ false
start_kinds n (telling.node_started m at) h = cc
start_kinds n _ h = refl

stop_kinds : (n : ℕ) (t : Telling) → has (kind.node_stopped ∷ []) (telling_kind t) ≡ false → stops_node n t ≡ false
stop_kinds n (telling.node_stopped m) h = cc
stop_kinds n _ h = refl

-- this is told of a node that has not stopped
pub unless_is : (log : List Entry) (n : ℕ) (us : List Telling) → is_stopped log n ≡ false → told_unless_stopped (told log) n us ≡ us
unfolding is_stopped
unless_is log n us lasts = ap (λ b. when (not b) us) lasts

-- an entry of another act, or of one of another node, stops none
pub stops_none : (log : List Entry) (e : Entry) (n : ℕ) → stops n e.event.act ≡ false → list_any (stops_node n) (tells (told log) log e) ≡ false
stops_none log e n none = by e.event.act refl none
  where
    by : (a : Act) → e.event.act ≡ a → stops n a ≡ false → list_any (stops_node n) (tells (told log) log e) ≡ false
    by (act.Stop by_start m) is none =
        ap (list_any (stops_node n)) (tells_as (told log) log e (act.Stop by_start m) is)
        ∙ when_quiet (stops_node n) (not (list_any (stops_node m) (told log))) (stop_tells (told log) log m)
        (stop_quiet (stops_node n) (length log) e.event.at (told log) log m (record { stops = none; attempt = λ k. refl; handshake = λ h link. refl; connection = λ conn. refl; drops = λ link s. refl }))
    by a is none = untold_of (stops_node n) (kind.node_stopped ∷ []) (stop_kinds n) (told log) log e (ap (λ b. are_apart (kinds_of b) (kind.node_stopped ∷ [])) is)

turns_none : (n : ℕ) (a : Act) → turns n a ≡ false → stops n a ≡ false
turns_none n (act.Stop by_start m) none = none
turns_none n _ none = refl

-- an entry of another act, or of one of another node, tells of none that it starts or stops
pub is_up-kept : (log : List Entry) (e : Entry) (n : ℕ) → turns n e.event.act ≡ false → is_up (log ++ e ∷ []) n ≡ is_up log n
unfolding is_up is_started is_stopped
is_up-kept log e n none = ap (λ b. b && not (list_any (stops_node n) (told (log ++ e ∷ [])))) (found-kept log e (starts_node n) (starts_none e.event.act refl none))
    ∙ ap (λ b. list_any (starts_node n) (told log) && not b) (found-kept log e (stops_node n) (stops_none log e n (turns_none n e.event.act none)))
  where
    starts_none : (a : Act) → e.event.act ≡ a → turns n a ≡ false → list_any (starts_node n) (tells (told log) log e) ≡ false
    starts_none (act.Start m) is none =
        ap (list_any (starts_node n)) (tells_as (told log) log e (act.Start m) is)
        ∙ when_quiet (starts_node n) (not (list_any (stops_node m) (told log))) (telling.node_started m e.event.at ∷ []) (ap (λ b. b || false) none)
    starts_none a is none = untold_of (starts_node n) (kind.node_started ∷ []) (start_kinds n) (told log) log e (ap (λ b. are_apart (kinds_of b) (kind.node_started ∷ [])) is)

pub is_stopped-kept : (log : List Entry) (e : Entry) (n : ℕ) → stops n e.event.act ≡ false → is_stopped (log ++ e ∷ []) n ≡ is_stopped log n
unfolding is_stopped
is_stopped-kept log e n none = found-kept log e (stops_node n) (stops_none log e n none)

-- what is up has not stopped
pub up_lasts : (log : List Entry) (n : ℕ) → is_up log n ≡ true → is_stopped log n ≡ false
unfolding is_up
up_lasts log n up = by (is_started log n) (is_stopped log n) up
  where
    by : (a b : Bool) → (a && not b) ≡ true → b ≡ false
    by true false is = refl
    by true true is = absurd (false≢true is)
    by false b is = absurd (false≢true is)

-- a node that has stopped stays so
pub is_stopped-before : (log : List Entry) (e : Entry) (n : ℕ) → is_stopped (log ++ e ∷ []) n ≡ false → is_stopped log n ≡ false
unfolding is_stopped
is_stopped-before log e n lasts = or_left (list_any (stops_node n) (told log)) (list_any (stops_node n) (tells (told log) log e)) (sym (found-append log e (stops_node n)) ∙ lasts)

-- a start starts a node that has not stopped
pub is_up-starts : (log : List Entry) (e : Entry) (n : ℕ) → e.event.act ≡ act.Start n → is_stopped log n ≡ false → is_up (log ++ e ∷ []) n ≡ true
unfolding is_up is_started
is_up-starts log e n is lasts =
    ap (λ b. b && not (is_stopped (log ++ e ∷ []) n)) (found-append log e (starts_node n)
    ∙ (ap (λ us. list_any (starts_node n) (told log) || list_any (starts_node n) us) (tells_as (told log) log e (act.Start n) is ∙ unless_is log n (telling.node_started n e.event.at ∷ []) lasts)
    ∙ here (list_any (starts_node n) (told log))))
    ∙ ap not (is_stopped-kept log e n (ap (stops n) is) ∙ lasts)
  where
    here : (b : Bool) → (b || list_any (starts_node n) (telling.node_started n e.event.at ∷ [])) ≡ true
    here b = ap (λ c. b || (c || false)) (eq-eqb n n refl) ∙ or_true b

-- ---- the stop of a node

-- an entry stops a node that had not stopped
pub record IsStopOf (log : List Entry) (e : Entry) (n : ℕ) : Type 0 where
  pub by_start : Bool
  pub acts : e.event.act ≡ act.Stop by_start n
  pub lasted : is_stopped log n ≡ false

module _ (log : List Entry) (e : Entry) (n : ℕ) where
  pub tells_stop : IsStopOf log e n → tells (told log) log e ≡ stop_tells (told log) log n
  tells_stop stop = tells_as (told log) log e (act.Stop stop.by_start n) stop.acts ∙ unless_is log n (stop_tells (told log) log n) stop.lasted

  -- a second stop tells nothing
  pub tells_again : (by_start : Bool) → e.event.act ≡ act.Stop by_start n → is_stopped log n ≡ true → tells (told log) log e ≡ []
  unfolding is_stopped
  tells_again by_start is over = tells_as (told log) log e (act.Stop by_start n) is ∙ ap (λ b. when (not b) (stop_tells (told log) log n)) over

  -- the stop of a node tells so
  pub stop_told : IsStopOf log e n → list_any (stops_node n) (tells (told log) log e) ≡ true
  stop_told stop = ap (list_any (stops_node n)) (tells_stop stop) ∙ ap (λ b. b || list_any (stops_node n) (rest)) (eq-eqb n n refl)
    where
      rest : List Telling
      rest =
          messages_stop (told log) n (line log (queue.Spawner n))
          ++ (arrivals_stop (line log (queue.Arrivals n))
          ++ (flat_map (attempt_stops (told log) n) (attempts_in (told log) n) ++ (flat_map (handshake_stops (told log) n) (handshakes_in (told log) n) ++ flat_map (connection_stops (told log) n) (connections_in (told log) n))))

  pub is_stopped-append : is_stopped (log ++ e ∷ []) n ≡ (is_stopped log n || list_any (stops_node n) (tells (told log) log e))
  unfolding is_stopped
  is_stopped-append = found-append log e (stops_node n)

  -- what a stop of some node is for this one: the stop of another, its own, or nothing
  pub by_stop : {A : Type 0} (by_start : Bool) (m : ℕ) → e.event.act ≡ act.Stop by_start m → ((m == n) ≡ false → A) → (IsStopOf log e n → A) → (tells (told log) log e ≡ [] → A) → A
  by_stop {A} by_start m is other own again = here (m == n) refl
    where
      at_it : e.event.act ≡ act.Stop by_start n → (b : Bool) → is_stopped log n ≡ b → A
      at_it acts false now = own (record { by_start = by_start; acts = acts; lasted = now })
      at_it acts true now = again (tells_again by_start acts now)

      here : (b : Bool) → (m == n) ≡ b → A
      here false so = other so
      here true so = at_it (is ∙ ap (act.Stop by_start) (eqb-true m n so)) (is_stopped log n) refl

-- whether an entry stops the node
pub stops_or_not : (log : List Entry) (e : Entry) (n : ℕ) → IsStopOf log e n ⊎ (IsStopOf log e n → ⊥)
stops_or_not log e n = by e.event.act refl
  where
    never : (a : Act) → e.event.act ≡ a → stops n a ≡ false → IsStopOf log e n → ⊥
    never a is none stop = false≢true (sym none ∙ (ap (stops n) (sym is ∙ stop.acts) ∙ eq-eqb n n refl))

    by : (a : Act) → e.event.act ≡ a → IsStopOf log e n ⊎ (IsStopOf log e n → ⊥)
    by (act.Stop by_start m) is = here (m == n) refl (is_stopped log n) refl
      where
        here : (b : Bool) → (m == n) ≡ b → (c : Bool) → is_stopped log n ≡ c → IsStopOf log e n ⊎ (IsStopOf log e n → ⊥)
        here true so false now = inl (record { by_start = by_start; acts = is ∙ ap (act.Stop by_start) (eqb-true m n so); lasted = now })
        here true so true now = inr (λ stop. false≢true (sym stop.lasted ∙ now))
        here false so c now = inr (never (act.Stop by_start m) is so)
    by a is = inr (never a is refl)

-- and a stop stops it
pub is_stopped-stops : (log : List Entry) (e : Entry) (n : ℕ) (by_start : Bool) → e.event.act ≡ act.Stop by_start n → is_stopped (log ++ e ∷ []) n ≡ true
is_stopped-stops log e n by_start is = by (is_stopped log n) refl
  where
    by : (b : Bool) → is_stopped log n ≡ b → is_stopped (log ++ e ∷ []) n ≡ true
    by true before = is_stopped-append log e n ∙ ap (λ b. b || list_any (stops_node n) (tells (told log) log e)) before
    by false before =
        is_stopped-append log e n
        ∙ (ap (λ b. is_stopped log n || b) (stop_told log e n (record { by_start = by_start; acts = is; lasted = before })) ∙ or_true (is_stopped log n))

pub is_up-none : (n : ℕ) → is_up [] n ≡ false
unfolding is_up is_started told state_from
is_up-none n = refl

pub is_stopped-none : (n : ℕ) → is_stopped [] n ≡ false
unfolding is_stopped told state_from
is_stopped-none n = refl

none_asked : (n : ℕ) → has_started [] n ≡ false
unfolding has_started
none_asked n = refl

-- one that has not stopped is up where it was asked to start
pub is_up-asked : (log : List Entry) (n : ℕ) → is_stopped log n ≡ false → is_up log n ≡ has_started (events_of log) n
is_up-asked log n = by_entries (λ l. is_stopped l n ≡ false → is_up l n ≡ has_started (events_of l) n) (λ lasts. first) more log
  where
    first : is_up [] n ≡ has_started [] n
    first = is_up-none n ∙ sym (none_asked n)

    more : (l : List Entry) (e : Entry) → (is_stopped l n ≡ false → is_up l n ≡ has_started (events_of l) n) → is_stopped (l ++ e ∷ []) n ≡ false → is_up (l ++ e ∷ []) n ≡ has_started (events_of (l ++ e ∷ [])) n
    more l e same lasts = by e.event.act refl
      where
        before : is_stopped l n ≡ false
        before = is_stopped-before l e n lasts

        asked : has_started (events_of (l ++ e ∷ [])) n ≡ (is_up l n || starts n e.event.act)
        asked = ap (λ v. has_started v n) (events_of-append l e) ∙ (has_started-append (events_of l) e.event n ∙ ap (λ b. b || starts n e.event.act) (sym (same before)))

        kept : (a : Act) → e.event.act ≡ a → turns n a ≡ false → starts n a ≡ false → is_up (l ++ e ∷ []) n ≡ has_started (events_of (l ++ e ∷ [])) n
        kept a is none no_start =
            is_up-kept l e n (ap (turns n) is ∙ none) ∙ sym (asked ∙ (ap (λ b. is_up l n || b) (ap (starts n) is ∙ no_start) ∙ or_false (is_up l n)))

        by : (a : Act) → e.event.act ≡ a → is_up (l ++ e ∷ []) n ≡ has_started (events_of (l ++ e ∷ [])) n
        by (act.Start m) is = here (m == n) refl
          where
            here : (b : Bool) → (m == n) ≡ b → is_up (l ++ e ∷ []) n ≡ has_started (events_of (l ++ e ∷ [])) n
            here true so =
                is_up-starts l e n (is ∙ ap (λ k. act.Start k) (eqb-true m n so)) before
                ∙ sym (asked ∙ (ap (λ b. is_up l n || b) (ap (starts n) is ∙ so) ∙ or_true (is_up l n)))
            here false so = kept (act.Start m) is so so
        by (act.Stop by_start m) is = here (m == n) refl
          where
            here : (b : Bool) → (m == n) ≡ b → is_up (l ++ e ∷ []) n ≡ has_started (events_of (l ++ e ∷ [])) n
            here true so = absurd (true≢false (sym (is_stopped-stops l e n by_start (is ∙ ap (λ k. act.Stop by_start k) (eqb-true m n so))) ∙ lasts))
            here false so = kept (act.Stop by_start m) is so (ap (λ b. by_start && b) so ∙ and_false by_start)
        by a is = kept a is refl refl

-- ---- channels

of_rates : (n : ℕ) (t : Telling) → has (kind.channel_registered ∷ []) (telling_kind t) ≡ false → rate_told n t ≡ []
of_rates n (telling.channel_registered m c rate) h = cc
of_rates n _ h = refl

-- what a node registers that has not stopped, by its act
rate_of-act : (log : List Entry) (e : Entry) (n : ℕ) (a : Act) → e.event.act ≡ a → is_stopped log n ≡ false → flat_map (rate_told n) (tells (told log) log e) ≡ rates_by n a
rate_of-act log e n (act.Register c m rate) is lasts = ap (flat_map (rate_told n)) (tells_as (told log) log e (act.Register c m rate) is) ∙ here (m == n) refl
  where
    told_now : List Telling
    told_now = telling.channel_registered m c rate ∷ []

    elsewhere : (b : Bool) → (m == n) ≡ false → flat_map (rate_told n) (when b told_now) ≡ []
    elsewhere true so = ap (λ b. cond b ((c, rate) ∷ []) [] ++ []) so
    elsewhere false so = refl

    here : (b : Bool) → (m == n) ≡ b → flat_map (rate_told n) (told_unless_stopped (told log) m told_now) ≡ cond (m == n) ((c, rate) ∷ []) []
    here true so =
        ap (flat_map (rate_told n)) (unless_is log m told_now (ap (is_stopped log) (eqb-true m n so) ∙ lasts)) ∙ append-nil (cond (m == n) ((c, rate) ∷ []) [])
    here false so = elsewhere (not (list_any (stops_node m) (told log))) so ∙ sym (ap (λ b. cond b ((c, rate) ∷ []) []) so)
rate_of-act log e n a is lasts = nothing_of (kind.channel_registered ∷ []) (rate_told n) (of_rates n) (told log) log e (ap (λ b. are_apart (kinds_of b) (kind.channel_registered ∷ [])) is)

-- and nothing by an act that registers none there
no_rate-act : (log : List Entry) (e : Entry) (n : ℕ) (a : Act) → e.event.act ≡ a → rates_by n a ≡ [] → flat_map (rate_told n) (tells (told log) log e) ≡ []
no_rate-act log e n (act.Register c m rate) is none = ap (flat_map (rate_told n)) (tells_as (told log) log e (act.Register c m rate) is) ∙ by (not (list_any (stops_node m) (told log)))
  where
    by : (b : Bool) → flat_map (rate_told n) (when b (telling.channel_registered m c rate ∷ [])) ≡ []
    by true = append-nil (cond (m == n) ((c, rate) ∷ []) []) ∙ none
    by false = refl
no_rate-act log e n a is none = nothing_of (kind.channel_registered ∷ []) (rate_told n) (of_rates n) (told log) log e (ap (λ b. are_apart (kinds_of b) (kind.channel_registered ∷ [])) is)

pub rates-append : (log : List Entry) (e : Entry) (n : ℕ) → is_stopped log n ≡ false → rates (log ++ e ∷ []) n ≡ rates log n ++ rates_by n e.event.act
unfolding rates
rates-append log e n lasts = collected-append log e (rate_told n) ∙ ap (λ l. rates log n ++ l) (rate_of-act log e n e.event.act refl lasts)

pub rates-kept : (log : List Entry) (e : Entry) (n : ℕ) → rates_by n e.event.act ≡ [] → rates (log ++ e ∷ []) n ≡ rates log n
unfolding rates
rates-kept log e n none = collected-kept log e (rate_told n) (no_rate-act log e n e.event.act refl none)

pub rates-none : (n : ℕ) → rates [] n ≡ []
unfolding rates told state_from
rates-none n = refl

pub channels-append : (configs : List Config) (log : List Entry) (e : Entry) (n : ℕ) → is_stopped log n ≡ false
    → channels configs (log ++ e ∷ []) n ≡ channels configs log n ++ registers_at configs n e.event.act
unfolding channels
channels-append configs log e n lasts =
    ap (map (with_capacity configs n)) (rates-append log e n lasts) ∙ map-append (with_capacity configs n) (rates log n) (rates_by n e.event.act)

pub channels-none : (configs : List Config) (n : ℕ) → channels configs [] n ≡ []
unfolding channels
channels-none configs n = ap (map (with_capacity configs n)) (rates-none n)

nothing_asked : (configs : List Config) (n : ℕ) → registered configs [] n ≡ []
unfolding registered
nothing_asked configs n = refl

no_rate : (configs : List Config) (n : ℕ) (rs : List (ℕ × Rate)) → map (with_capacity configs n) rs ≡ [] → rs ≡ []
no_rate configs n [] none = refl
no_rate configs n (r ∷ rs) none = cc

pub channels-kept : (configs : List Config) (log : List Entry) (e : Entry) (n : ℕ) → registers_at configs n e.event.act ≡ [] → channels configs (log ++ e ∷ []) n ≡ channels configs log n
unfolding channels
channels-kept configs log e n none = ap (map (with_capacity configs n)) (rates-kept log e n (no_rate configs n (rates_by n e.event.act) none))

-- those of a node that has not stopped are those that were asked for
pub channels-asked : (configs : List Config) (log : List Entry) (n : ℕ) → is_stopped log n ≡ false → channels configs log n ≡ registered configs (events_of log) n
channels-asked configs log n = by_entries (λ l. is_stopped l n ≡ false → channels configs l n ≡ registered configs (events_of l) n) (λ lasts. first) more log
  where
    first : channels configs [] n ≡ registered configs [] n
    first = channels-none configs n ∙ sym (nothing_asked configs n)

    more : (l : List Entry) (e : Entry) → (is_stopped l n ≡ false → channels configs l n ≡ registered configs (events_of l) n)
        → is_stopped (l ++ e ∷ []) n ≡ false → channels configs (l ++ e ∷ []) n ≡ registered configs (events_of (l ++ e ∷ [])) n
    more l e same lasts =
        channels-append configs l e n (is_stopped-before l e n lasts)
        ∙ (ap (λ c. c ++ registers_at configs n e.event.act) (same (is_stopped-before l e n lasts))
        ∙ (sym (registered-append configs (events_of l) e.event n) ∙ ap (λ v. registered configs v n) (sym (events_of-append l e))))
