-- The connections of a node after one more entry, and in a longer log.
use Rattle.std.proofs.Common.{◌≡◌, ℕ, Bool, true, false, cond, List, [], ◌∷◌, ◌++◌, length, Option, Some, None, ◌⊎◌, inl, inr, refl, ap, sym, ◌∙◌, arith, eqb-true, eq-eqb}
use Rattle.std.specs.Prelude.{◌||◌, ◌&&◌, ◌==◌, not, filter, flat_map, unwrap_or}
use Rattle.std.specs.List.{list_any}
use Rattle.std.specs.Option.{option_map}
use Rattle.std.proofs.lemmas.Bool.{and_parts, false≢true}
use Rattle.std.proofs.lemmas.Bool.Decides.{nat_tests}
use Rattle.std.proofs.lemmas.List.Folds.{list_any-append}
use Rattle.std.proofs.lemmas.Option.{same_Some}
use Rattle.p2p_log_rules.proofs.Bools.{and_false, and_true, or_false}
use Rattle.p2p_log.specs.declared.queue.Queue.TheVariants as queue
use Rattle.p2p_log.specs.declared.queue.Side.{Side}
use Rattle.p2p_log.specs.declared.item.Envelope.{Envelope}
use Rattle.p2p_log.specs.Lines.{line}
use Rattle.p2p_log.proofs.Each.{Has, Has-of_kept, Each-has, Each-passing}
use Rattle.p2p_log.specs.declared.entry.Entry.{Entry}
use Rattle.p2p_log.specs.declared.event.Act.{Act}
use Rattle.p2p_log.specs.declared.event.Act.TheVariants as act
use Rattle.p2p_log_rules.specs.declared.row.Half.{Half}
use Rattle.p2p_log_rules.specs.Connections.{half_over, half_of, half_at, is_done, is_end, tells_some, is_step, is_begun, begins_connection, is_answer, is_answered, has_run, runs, is_over, is_ended, ends_connection, is_running, live_connection, live_half}
use Rattle.p2p_log_rules.specs.Facts.{stops, stops_node, taken, state_from}
use Rattle.p2p_log_rules.specs.Halves.{half_in, makes_connection}
use Rattle.p2p_log_rules.specs.Puts.{arrival_link}
use Rattle.p2p_log_rules.specs.Dialed.{dialer_of}
use Rattle.p2p_log_rules.specs.Spawning.{Spawned, connections_of}
use Rattle.p2p_log_rules.specs.Tellings.{Telling, last_or}
use Rattle.p2p_log_rules.specs.Tellings as telling
use Rattle.p2p_log_rules.specs.HalfSteps.{puts_ping}
use Rattle.p2p_log_rules.specs.Told.{half_to_be, messages_stop, arrivals_stop, attempts_in, attempt_stops, handshakes_in, handshake_stops, made_in, connections_in, connection_stops, stop_tells, link_in, handshake_in, link_over, half_dropped, listening_dropped, dialing_dropped, when, done_tells, sender_tells, admitted_tells, act_tells, tells, told}
use Rattle.p2p_log_rules.proofs.Dialed.{dialer_of-longer}
use Rattle.p2p_log_rules.proofs.TellingKinds.{Kind}
use Rattle.p2p_log_rules.proofs.TellingKinds as kind
use Rattle.p2p_log_rules.proofs.Families.{telling_kind, kinds_of, has, are_apart, untold_of}
use Rattle.p2p_log_rules.proofs.Spawning.{connections_of-longer}
use Rattle.p2p_log_rules.proofs.Acted.{tells_as}
use Rattle.p2p_log_rules.proofs.Channels.{IsStopOf, tells_stop, by_stop}
use Rattle.p2p_log_rules.proofs.Tellings.{told-append, or_left, or_right, when_quiet, append_quiet}
use Rattle.p2p_log_rules.proofs.Told.{half_told, sender_quiet, admitted_quiet, stop_quiet}

-- whether such a thing is told, with an entry more
told_more : (test : Telling → Bool) (log : List Entry) (e : Entry) → list_any test (told (log ++ e ∷ [])) ≡ (list_any test (told log) || tells_some test log e)
told_more test log e = ap (list_any test) (told-append log e) ∙ list_any-append test (told log) (tells (told log) log e)

-- an act that tells none of such things
untold_some : (test : Telling → Bool) (ks : List Kind) → ((t : Telling) → has ks (telling_kind t) ≡ false → test t ≡ false) → (log : List Entry) (e : Entry) (a : Act) → e.event.act ≡ a → are_apart (kinds_of a) ks ≡ true → tells_some test log e ≡ false
untold_some test ks of_kinds log e a is apart = untold_of test ks of_kinds (told log) log e (ap (λ b. are_apart (kinds_of b) ks) is ∙ apart)

-- ---- whose step an act is

abbrev pub steps_sender : ℕ → ℕ → Act → Bool
steps_sender n conn (act.SendStep e m) = (m == n) && (e == conn)
steps_sender n conn _ = false

abbrev pub steps_receiver : ℕ → ℕ → Act → Bool
steps_receiver n conn (act.RecvStep e m) = (m == n) && (e == conn)
steps_receiver n conn _ = false

abbrev pub steps_half : ℕ → ℕ → Act → Bool
steps_half n conn a = steps_sender n conn a || steps_receiver n conn a

-- an act that may end it
abbrev pub may_end : ℕ → ℕ → Act → Bool
may_end n conn a = steps_half n conn a || stops n a

-- a step of the sending half of a connection, or of the receiving half
abbrev pub half_act : Bool → ℕ → ℕ → Act
half_act true conn n = act.SendStep conn n
half_act false conn n = act.RecvStep conn n

pub sender_is : (n conn : ℕ) (a : Act) → steps_sender n conn a ≡ true → a ≡ half_act true conn n
sender_is n conn (act.SendStep c m) h = let both = and_parts (m == n) (c == conn) h in ap (λ k. act.SendStep k m) (eqb-true c conn both.1) ∙ ap (act.SendStep conn) (eqb-true m n both.0)
sender_is n conn _ h = absurd (false≢true h)

-- it tells of no end of a connection
abbrev pub EndsNone : Act → Type 0
EndsNone a = are_apart (kinds_of a) (kind.connection_ended ∷ []) ≡ true

-- ---- begun, answered and ended, by that and by the reply

module _ (log : List Entry) (e : Entry) (n conn : ℕ) where
  -- what a step of a sending half tells of such things: of its end, and where it was done besides
  sent : (test : Telling → Bool) → ((link : ℕ) (s : Side) → test (telling.end_dropped link s) ≡ false) → (c m : ℕ) → e.event.act ≡ act.SendStep c m
      → tells_some test log e ≡ ((is_end e.reply && test (telling.connection_ended m c)) || list_any test (done_tells e.reply (sender_tells m c e.event.at (taken log e) e.puts)))
  unfolding tells
  sent test drops c m is =
      ap (λ a. list_any test (act_tells (told log) log (length log) e.event.at e.event.seed e.reply (taken log e) e.puts a)) is
      ∙ half_told test 0 0 m c e.reply (half_in (told log) m c) (done_tells e.reply (sender_tells m c e.event.at (taken log e) e.puts)) drops

  step_kinds : (t : Telling) → has (kind.half_stepped ∷ []) (telling_kind t) ≡ false → is_step n conn t ≡ false
  step_kinds (telling.half_stepped m c) h = cc
  step_kinds _ h = refl

  -- a sending half does a step by such an act where it is one of it, and was done
  pub begins_act : (a : Act) → e.event.act ≡ a → begins_connection n conn log e ≡ (steps_sender n conn a && is_done e.reply)
  begins_act (act.SendStep c m) is =
      sent (is_step n conn) (λ link s. refl) c m is
      ∙ (ap (λ b. b || list_any (is_step n conn) (done_tells e.reply (sender_tells m c e.event.at (taken log e) e.puts))) (and_false (is_end e.reply)) ∙ by (is_done e.reply) (list_any is_answer (taken log e)) (puts_ping (taken log e) e.puts))
    where
      it : Bool
      it = (m == n) && (c == conn)

      by : (done answer ping : Bool)
          → list_any (is_step n conn) (when done (telling.half_stepped m c ∷ (when answer (telling.connection_ran m c e.event.at ∷ []) ++ when ping (telling.ping_put m c e.event.at ∷ [])))) ≡ (it && done)
      by true true true = or_false it ∙ sym (and_true it)
      by true true false = or_false it ∙ sym (and_true it)
      by true false true = or_false it ∙ sym (and_true it)
      by true false false = or_false it ∙ sym (and_true it)
      by false answer ping = sym (and_false it)
  begins_act a is = untold_some (is_step n conn) (kind.half_stepped ∷ []) step_kinds log e a is refl

  pub begins_is : begins_connection n conn log e ≡ (steps_sender n conn e.event.act && is_done e.reply)
  begins_is = begins_act e.event.act refl

  answer_kinds : (t : Telling) → has (kind.connection_ran ∷ []) (telling_kind t) ≡ false → is_answered n conn t ≡ false
  answer_kinds (telling.connection_ran m c at) h = cc
  answer_kinds _ h = refl

  runs_act : (a : Act) → e.event.act ≡ a → runs n conn log e ≡ ((steps_sender n conn a && is_done e.reply) && list_any is_answer (taken log e))
  runs_act (act.SendStep c m) is =
      sent (is_answered n conn) (λ link s. refl) c m is
      ∙ (ap (λ b. b || list_any (is_answered n conn) (done_tells e.reply (sender_tells m c e.event.at (taken log e) e.puts))) (and_false (is_end e.reply)) ∙ by (is_done e.reply) (list_any is_answer (taken log e)) (puts_ping (taken log e) e.puts))
    where
      it : Bool
      it = (m == n) && (c == conn)

      here : (it || false) ≡ ((it && true) && true)
      here = or_false it ∙ (sym (and_true it) ∙ sym (and_true (it && true)))

      by : (done answer ping : Bool)
          → list_any (is_answered n conn) (when done (telling.half_stepped m c ∷ (when answer (telling.connection_ran m c e.event.at ∷ []) ++ when ping (telling.ping_put m c e.event.at ∷ [])))) ≡ ((it && done) && answer)
      by true true true = here
      by true true false = here
      by true false true = sym (and_false (it && true))
      by true false false = sym (and_false (it && true))
      by false answer ping = sym (ap (λ b. b && answer) (and_false it))
  runs_act a is = untold_some (is_answered n conn) (kind.connection_ran ∷ []) answer_kinds log e a is refl

  -- it is answered in a step that is done and takes its router's answer
  pub runs_is : runs n conn log e ≡ (begins_connection n conn log e && list_any is_answer (taken log e))
  runs_is = runs_act e.event.act refl ∙ ap (λ b. b && list_any is_answer (taken log e)) (sym begins_is)

  over_kinds : (t : Telling) → has (kind.connection_ended ∷ []) (telling_kind t) ≡ false → is_over n conn t ≡ false
  over_kinds (telling.connection_ended m c) h = cc
  over_kinds _ h = refl

  swapped : (b c : Bool) → ((b && c) || false) ≡ (c && b)
  swapped true true = refl
  swapped true false = refl
  swapped false c = sym (and_false c)

  -- a step of one of the halves of a connection ends that one, where it says so
  pub ends_half : (sends : Bool) (c m : ℕ) → e.event.act ≡ half_act sends c m → ends_connection n conn log e ≡ (((m == n) && (c == conn)) && is_end e.reply)
  unfolding tells
  ends_half true c m is =
      sent (is_over n conn) (λ link s. refl) c m is
      ∙ (ap (λ b. (is_end e.reply && ((m == n) && (c == conn))) || b) (sender_quiet (is_over n conn) 0 e.event.at m c e.reply (taken log e) e.puts (record { step = refl; runs = refl; pings = refl }))
      ∙ swapped (is_end e.reply) ((m == n) && (c == conn)))
  ends_half false c m is =
      ap (λ a. list_any (is_over n conn) (act_tells (told log) log (length log) e.event.at e.event.seed e.reply (taken log e) e.puts a)) is
      ∙ (half_told (is_over n conn) 0 0 m c e.reply (half_in (told log) m c) (admitted_tells m c e.event.at e.reply (taken log e) e.puts) (λ link s. refl)
      ∙ (ap (λ b. (is_end e.reply && ((m == n) && (c == conn))) || b) (admitted_quiet (is_over n conn) 0 e.event.at m c e.reply (taken log e) e.puts (λ i. refl))
      ∙ swapped (is_end e.reply) ((m == n) && (c == conn))))

  -- nor does a stop of another node end one
  stops_elsewhere : (by_start : Bool) (m : ℕ) → e.event.act ≡ act.Stop by_start m → (m == n) ≡ false → ends_connection n conn log e ≡ false
  stops_elsewhere by_start m is other =
      ap (list_any (is_over n conn)) (tells_as (told log) log e (act.Stop by_start m) is)
      ∙ when_quiet (is_over n conn) (not (list_any (stops_node m) (told log))) (stop_tells (told log) log m)
      (stop_quiet (is_over n conn) 0 0 (told log) log m
      (record { stops = refl; attempt = λ k. refl; handshake = λ h link. refl; connection = λ c. ap (λ b. b && (c == conn)) other; drops = λ link s. refl }))

  -- and of all other acts none ends any
  pub ends_act : (a : Act) → e.event.act ≡ a → stops n a ≡ false → ends_connection n conn log e ≡ (steps_half n conn a && is_end e.reply)
  ends_act (act.SendStep c m) is goes_on = ends_half true c m is ∙ ap (λ b. b && is_end e.reply) (sym (or_false ((m == n) && (c == conn))))
  ends_act (act.RecvStep c m) is goes_on = ends_half false c m is
  ends_act (act.Stop by_start m) is goes_on = stops_elsewhere by_start m is goes_on
  ends_act a is goes_on = untold_some (is_over n conn) (kind.connection_ended ∷ []) over_kinds log e a is refl

  -- an act that tells of no end ends none
  pub ends_untold : (a : Act) → e.event.act ≡ a → EndsNone a → ends_connection n conn log e ≡ false
  ends_untold a is none = untold_some (is_over n conn) (kind.connection_ended ∷ []) over_kinds log e a is none

  -- nor does one that may not end it
  pub ends_none-act : (a : Act) → e.event.act ≡ a → may_end n conn a ≡ false → ends_connection n conn log e ≡ false
  ends_none-act a is h =
      let goes_on : stops n a ≡ false = or_right (steps_half n conn a) (stops n a) h in
      ends_act a is goes_on ∙ ap (λ b. b && is_end e.reply) (or_left (steps_half n conn a) (stops n a) h)

  -- nor does another reply, where the node goes on
  pub ends_none-reply : stops n e.event.act ≡ false → is_end e.reply ≡ false → ends_connection n conn log e ≡ false
  ends_none-reply goes_on h = ends_act e.event.act refl goes_on ∙ (ap (λ b. steps_half n conn e.event.act && b) h ∙ and_false (steps_half n conn e.event.act))

-- ---- what an entry is that tells so

-- it is a step of one of the halves of the connection, which says that it ended
pub record IsEndOf (e : Entry) (n conn : ℕ) : Type 0 where
  pub sends : Bool
  pub acts : e.event.act ≡ half_act sends conn n
  pub says : is_end e.reply ≡ true

-- of the things of a node that a stop tells of, this is a connection
module _ (ts : List Telling) (log : List Entry) (n conn : ℕ) where
  abbrev others_ended : List Telling
  others_ended = flat_map (attempt_stops ts n) (attempts_in ts n) ++ flat_map (handshake_stops ts n) (handshakes_in ts n)

  each_silent : {X : Type 0} (f : X → List Telling) → ((x : X) → list_any (is_over n conn) (f x) ≡ false) → (xs : List X) → list_any (is_over n conn) (flat_map f xs) ≡ false
  each_silent f h [] = refl
  each_silent f h (x ∷ xs) = append_quiet (is_over n conn) (f x) (flat_map f xs) (h x) (each_silent f h xs)

  half_silent : (o : Option Half) → list_any (is_over n conn) (half_dropped o) ≡ false
  half_silent None = refl
  half_silent (Some half) = refl

  listening_silent : (o : Option ℕ) → list_any (is_over n conn) (listening_dropped o) ≡ false
  listening_silent None = refl
  listening_silent (Some link) = refl

  dialing_silent : (o : Option ℕ) → list_any (is_over n conn) (dialing_dropped o) ≡ false
  dialing_silent None = refl
  dialing_silent (Some link) = refl

  among : (cs : List ℕ) → list_any (is_over n conn) (flat_map (connection_stops ts n) cs) ≡ true → Has cs conn
  among [] h = absurd (false≢true h)
  among (c ∷ cs) h = by (c == conn) refl (among cs)
    where
      by : (b : Bool) → (c == conn) ≡ b → (list_any (is_over n conn) (flat_map (connection_stops ts n) cs) ≡ true → Has cs conn) → Has (c ∷ cs) conn
      by true is later = inl (eqb-true c conn is)
      by false is later =
          inr (later
          (sym (list_any-append (is_over n conn) (connection_stops ts n c) (flat_map (connection_stops ts n) cs)
          ∙ (ap (λ b. (((n == n) && b) || list_any (is_over n conn) (half_dropped (half_in ts n c))) || list_any (is_over n conn) (flat_map (connection_stops ts n) cs)) is
          ∙ (ap (λ b. (b || list_any (is_over n conn) (half_dropped (half_in ts n c))) || list_any (is_over n conn) (flat_map (connection_stops ts n) cs)) (and_false (n == n))
          ∙ ap (λ b. b || list_any (is_over n conn) (flat_map (connection_stops ts n) cs)) (half_silent (half_in ts n c)))))
          ∙ h))

  over_stopped : list_any (is_over n conn) (stop_tells ts log n) ≡ true → Has (connections_in ts n) conn
  over_stopped h =
      let messages = messages_stop ts n (line log (queue.Spawner n)) in
      let arrivals = arrivals_stop (line log (queue.Arrivals n)) in
      let attempts = flat_map (attempt_stops ts n) (attempts_in ts n) in
      let handshakes = flat_map (handshake_stops ts n) (handshakes_in ts n) in
      let connections = flat_map (connection_stops ts n) (connections_in ts n) in
      among (connections_in ts n)
      (sym (list_any-append (is_over n conn) messages (arrivals ++ (attempts ++ (handshakes ++ connections)))
      ∙ (ap (λ b. b || list_any (is_over n conn) (arrivals ++ (attempts ++ (handshakes ++ connections)))) (each_silent (λ (x : Envelope). half_dropped (half_to_be ts n x.item)) (λ x. half_silent (half_to_be ts n x.item)) (line log (queue.Spawner n)))
      ∙ (list_any-append (is_over n conn) arrivals (attempts ++ (handshakes ++ connections))
      ∙ (ap (λ b. b || list_any (is_over n conn) (attempts ++ (handshakes ++ connections))) (each_silent (λ (x : Envelope). listening_dropped (arrival_link (x.item ∷ []))) (λ x. listening_silent (arrival_link (x.item ∷ []))) (line log (queue.Arrivals n)))
      ∙ (list_any-append (is_over n conn) attempts (handshakes ++ connections)
      ∙ (ap (λ b. b || list_any (is_over n conn) (handshakes ++ connections)) (each_silent (attempt_stops ts n) (λ k. dialing_silent (link_in ts n k)) (attempts_in ts n))
      ∙ (list_any-append (is_over n conn) handshakes connections
      ∙ ap (λ b. b || list_any (is_over n conn) connections) (each_silent (handshake_stops ts n) (λ k. listening_silent (link_over (handshake_in ts k))) (handshakes_in ts n)))))))))
      ∙ h)

-- a connection that is made has a name
made_some : (n conn : ℕ) (ts : List Telling) (o : Option Spawned) → (Has (flat_map (made_in n) ts) conn) ⊎ ((c : Spawned) × (o ≡ Some c)) → (c : Spawned) × (last_or o (makes_connection n conn) ts ≡ Some c)
made_some n conn [] o (inl has) = absurd has
made_some n conn [] o (inr old) = old
made_some n conn (t ∷ ts) o h = made_some n conn ts (unwrap_or (makes_connection n conn t) o) (here t h)
  where
    kept : (p : Option (Option Spawned)) → ((q : Option Spawned) → p ≡ Some q → (c : Spawned) × (q ≡ Some c)) → (c : Spawned) × (o ≡ Some c) → (c : Spawned) × (unwrap_or p o ≡ Some c)
    kept None all old = old
    kept (Some q) all old = all q refl

    makes : (u : Telling) (q : Option Spawned) → makes_connection n conn u ≡ Some q → (c : Spawned) × (q ≡ Some c)
    makes (telling.connection_made m k key link) q is = by ((m == n) && (conn == k)) is
      where
        by : (b : Bool) → cond b (Some (Some (record { key = key; link = link }))) None ≡ Some q → (c : Spawned) × (q ≡ Some c)
        by true is = (record { key = key; link = link }, sym (same_Some (Some (record { key = key; link = link })) q is))
        by false is = absurd (cc)
    makes _ q is = absurd (cc)

    here : (u : Telling) → Has (made_in n u ++ flat_map (made_in n) ts) conn ⊎ ((c : Spawned) × (o ≡ Some c)) → Has (flat_map (made_in n) ts) conn ⊎ ((c : Spawned) × (unwrap_or (makes_connection n conn u) o ≡ Some c))
    here u (inr old) = inr (kept (makes_connection n conn u) (makes u) old)
    here (telling.connection_made m k key link) (inl has) = by (m == n) refl has
      where
        by : (b : Bool) → (m == n) ≡ b → Has (cond b (k ∷ []) [] ++ flat_map (made_in n) ts) conn
            → Has (flat_map (made_in n) ts) conn ⊎ ((c : Spawned) × (unwrap_or (cond ((m == n) && (conn == k)) (Some (Some (record { key = key; link = link }))) None) o ≡ Some c))
        by true is (inl same) =
            inr (record { key = key; link = link }, ap (λ b. unwrap_or (cond (b && (conn == k)) (Some (Some (record { key = key; link = link }))) None) o) is ∙ ap (λ b. unwrap_or (cond b (Some (Some (record { key = key; link = link }))) None) o) (eq-eqb conn k (sym same)))
        by true is (inr later) = inl later
        by false is later = inl later
    here _ (inl has) = inl has

-- the stop of a node ends this connection, which was made, and had not ended
pub record IsStopped (log : List Entry) (e : Entry) (n conn : ℕ) : Type 0 where
  pub stop : IsStopOf log e n
  pub connection : Spawned
  pub made : connections_of log n conn ≡ Some connection
  pub lived : is_ended log n conn ≡ false

ended_with : (log : List Entry) (e : Entry) (n conn : ℕ) → IsStopOf log e n → list_any (is_over n conn) (tells (told log) log e) ≡ true → IsStopped log e n conn
unfolding is_ended connections_of
ended_with log e n conn stop h =
    let has = over_stopped (told log) log n conn (sym (ap (list_any (is_over n conn)) (tells_stop log e n stop)) ∙ h) in
    let made = made_some n conn (told log) None (inl (Has-of_kept (λ k. not (list_any (is_over n k) (told log))) (flat_map (made_in n) (told log)) conn has)) in
    record {
      stop = stop;
      connection = made.0;
      made = made.1;
      lived = lasts (list_any (is_over n conn) (told log)) (passes (flat_map (made_in n) (told log)) has);
    }
  where
    lasts : (b : Bool) → not b ≡ true → b ≡ false
    lasts true is = absurd (false≢true is)
    lasts false is = refl

    passes : (xs : List ℕ) → Has (filter (λ k. not (list_any (is_over n k) (told log))) xs) conn → not (list_any (is_over n conn) (told log)) ≡ true
    passes xs has = Each-has (λ k. not (list_any (is_over n k) (told log)) ≡ true) (filter (λ k. not (list_any (is_over n k) (told log))) xs) conn (Each-passing (λ k. not (list_any (is_over n k) (told log)) ≡ true) (λ k. not (list_any (is_over n k) (told log))) (λ k is. is) xs) has

module _ (log : List Entry) (e : Entry) (n conn : ℕ) where
  pub end_of : ends_connection n conn log e ≡ true → IsEndOf e n conn ⊎ IsStopped log e n conn
  end_of h = by e.event.act refl
    where
      named : (sends : Bool) (c m : ℕ) → e.event.act ≡ half_act sends c m → IsEndOf e n conn ⊎ IsStopped log e n conn
      named sends c m is =
          inl (let both = and_parts ((m == n) && (c == conn)) (is_end e.reply) (sym (ends_half log e n conn sends c m is) ∙ h) in
          let here = and_parts (m == n) (c == conn) both.0 in
          record { sends = sends; acts = is ∙ (ap (λ k. half_act sends k m) (eqb-true c conn here.1) ∙ ap (half_act sends conn) (eqb-true m n here.0)); says = both.1 })

      by : (a : Act) → e.event.act ≡ a → IsEndOf e n conn ⊎ IsStopped log e n conn
      by (act.SendStep c m) is = named true c m is
      by (act.RecvStep c m) is = named false c m is
      by (act.Stop by_start m) is =
          by_stop log e n by_start m is (λ other. absurd (false≢true (sym (stops_elsewhere log e n conn by_start m is other) ∙ h))) (λ stop. inr (ended_with log e n conn stop h))
          (λ none. absurd (false≢true (sym (ap (list_any (is_over n conn)) none) ∙ h)))
      by a is = absurd (false≢true (sym (ends_untold log e n conn a is refl) ∙ h))

  -- and such a step ends it
  pub end_by : (sends : Bool) → e.event.act ≡ half_act sends conn n → is_end e.reply ≡ true → ends_connection n conn log e ≡ true
  end_by sends acts says = ends_half log e n conn sends conn n acts ∙ (ap (λ b. b && is_end e.reply) (here n conn) ∙ says)
    where
      here : (n conn : ℕ) → ((n == n) && (conn == conn)) ≡ true
      here n conn = grind (arith, nat_tests)

  -- a step that is done is one of the sending half
  pub begin_of : begins_connection n conn log e ≡ true → (e.event.act ≡ half_act true conn n) × (is_done e.reply ≡ true)
  begin_of h =
      let both = and_parts (steps_sender n conn e.event.act) (is_done e.reply) (sym (begins_is log e n conn) ∙ h) in
      (sender_is n conn e.event.act both.0, both.1)

-- ---- with an entry more

pub is_begun-append : (log : List Entry) (e : Entry) (n conn : ℕ) → is_begun (log ++ e ∷ []) n conn ≡ (is_begun log n conn || begins_connection n conn log e)
unfolding is_begun
is_begun-append log e n conn = told_more (is_step n conn) log e

pub is_begun-none : (n conn : ℕ) → is_begun [] n conn ≡ false
unfolding is_begun told state_from
is_begun-none n conn = refl

pub has_run-append : (log : List Entry) (e : Entry) (n conn : ℕ) → has_run (log ++ e ∷ []) n conn ≡ (has_run log n conn || runs n conn log e)
unfolding has_run
has_run-append log e n conn = told_more (is_answered n conn) log e

pub has_run-none : (n conn : ℕ) → has_run [] n conn ≡ false
unfolding has_run told state_from
has_run-none n conn = refl

pub is_ended-append : (log : List Entry) (e : Entry) (n conn : ℕ) → is_ended (log ++ e ∷ []) n conn ≡ (is_ended log n conn || ends_connection n conn log e)
unfolding is_ended
is_ended-append log e n conn = told_more (is_over n conn) log e

pub is_ended-none : (n conn : ℕ) → is_ended [] n conn ≡ false
unfolding is_ended told state_from
is_ended-none n conn = refl

-- an entry that does not end it leaves it as it was
pub is_ended-kept : (log : List Entry) (e : Entry) (n conn : ℕ) → ends_connection n conn log e ≡ false → is_ended (log ++ e ∷ []) n conn ≡ is_ended log n conn
is_ended-kept log e n conn h = is_ended-append log e n conn ∙ (ap (λ b. is_ended log n conn || b) h ∙ or_false (is_ended log n conn))

-- one that has not ended runs once it was answered
running_live : (log : List Entry) (n conn : ℕ) → is_ended log n conn ≡ false → is_running log n conn ≡ has_run log n conn
running_live log n conn lives = ap (λ b. has_run log n conn && not b) lives ∙ and_true (has_run log n conn)

-- what a half is made of
pub record HalfParts (log : List Entry) (n conn : ℕ) (half : Half) : Type 0 where
  pub connection : Spawned
  pub made : connections_of log n conn ≡ Some connection
  pub dialer : ℕ
  pub dialed : dialer_of log connection.link ≡ Some dialer
  pub is : half ≡ half_over n connection dialer

pub half_parts : (log : List Entry) (n conn : ℕ) (half : Half) → half_at log n conn ≡ Some half → HalfParts log n conn half
unfolding half_at
half_parts log n conn half h = by_made (connections_of log n conn) refl h
  where
    by_dialer : (c : Spawned) → connections_of log n conn ≡ Some c → (o : Option ℕ) → dialer_of log c.link ≡ o → option_map (half_over n c) o ≡ Some half → HalfParts log n conn half
    by_dialer c made None dialed h = absurd (cc)
    by_dialer c made (Some d) dialed h = record { connection = c; made = made; dialer = d; dialed = dialed; is = sym (same_Some (half_over n c d) half h) }

    by_made : (o : Option Spawned) → connections_of log n conn ≡ o → half_of log n o ≡ Some half → HalfParts log n conn half
    by_made None made h = absurd (cc)
    by_made (Some c) made h = by_dialer c made (dialer_of log c.link) refl h

-- a half stays what it is
pub half_at-longer : (log more : List Entry) (n conn : ℕ) (half : Half) → half_at log n conn ≡ Some half → half_at (log ++ more) n conn ≡ Some half
unfolding half_at
half_at-longer log more n conn half h =
    let p = half_parts log n conn half h in
    ap (half_of (log ++ more) n) (connections_of-longer log more n conn p.connection p.made)
    ∙ (ap (option_map (half_over n p.connection)) (dialer_of-longer log more p.connection.link p.dialer p.dialed) ∙ ap (λ k. Some k) (sym p.is))

-- ---- those that have not ended

-- the half of one that has not ended
pub half_of-live : (log : List Entry) (n conn : ℕ) → half_of log n (live_connection log n conn) ≡ live_half log n conn
unfolding half_at
half_of-live log n conn = by (is_ended log n conn)
  where
    by : (b : Bool) → half_of log n (cond b None (connections_of log n conn)) ≡ cond b None (half_of log n (connections_of log n conn))
    by true = refl
    by false = refl

-- a half of one that has not ended is its half
pub record IsLive (log : List Entry) (n conn : ℕ) (half : Half) : Type 0 where
  pub lives : is_ended log n conn ≡ false
  pub at : half_at log n conn ≡ Some half

pub is_live : (log : List Entry) (n conn : ℕ) (half : Half) → live_half log n conn ≡ Some half → IsLive log n conn half
is_live log n conn half h = by (is_ended log n conn) refl h
  where
    by : (b : Bool) → is_ended log n conn ≡ b → cond b None (half_at log n conn) ≡ Some half → IsLive log n conn half
    by true is h = absurd (cc)
    by false is h = record { lives = is; at = h }

-- one that has a half that has not ended runs once it was answered
pub running_of : (log : List Entry) (n conn : ℕ) (half : Half) → live_half log n conn ≡ Some half → is_running log n conn ≡ has_run log n conn
running_of log n conn half h = running_live log n conn (is_live log n conn half h).lives

-- an entry that neither makes it nor ends it leaves it as it was
pub live_connection-kept : (log : List Entry) (e : Entry) (n conn : ℕ) → ends_connection n conn log e ≡ false → connections_of (log ++ e ∷ []) n conn ≡ connections_of log n conn
    → live_connection (log ++ e ∷ []) n conn ≡ live_connection log n conn
live_connection-kept log e n conn lives same = ap (λ b. cond b None (connections_of (log ++ e ∷ []) n conn)) (is_ended-kept log e n conn lives) ∙ ap (λ o. cond (is_ended log n conn) None o) same
