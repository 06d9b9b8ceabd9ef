-- The connections of a node with one that has begun, or that took its router's answer.
use Rattle.std.proofs.Common.{◌≡◌, ℕ, Bool, true, false, cond, List, [], ◌∷◌, ◌++◌, refl, ap, sym, ◌∙◌, eqb-true, Option, Some, None}
use Rattle.std.specs.Prelude.{◌==◌, ◌||◌, is_some}
use Rattle.std.specs.BTreeMap.{insert_entry}
use Rattle.std.specs.Ordering.{nat_cmp}
use Rattle.p2p_log_rules.proofs.Bools.{or_true}
use Rattle.p2p_log.specs.declared.config.Config.{Config}
use Rattle.p2p_log.specs.declared.queue.Queue.TheVariants as queue
use Rattle.p2p_log.specs.declared.item.Envelope.{Envelope}
use Rattle.p2p_log.specs.declared.entry.Entry.{Entry}
use Rattle.p2p_log.specs.Lines.{line}
use Rattle.p2p_log_rules.specs.Connections.{begins_connection, is_begun, has_run, runs}
use Rattle.p2p_log_rules.specs.Pings.{last_pinged, ping_is_due}
use Rattle.p2p_log_rules.proofs.Pinging.{PingsWhenDue}
use Rattle.p2p_log_rules.proofs.Connections.{is_begun-append, has_run-append}
use Rattle.p2p_net_queues.specs.Lines.{HoldsLines}
use Rattle.p2p_net_queues.specs.Tables.{at}
use Rattle.p2p_net_queues.proofs.Tables.{at-inserted}
use Rattle.p2p_net_connections.specs.Connections.{runs_on, pinged_on, begun_with, pinged_with}
use Rattle.p2p_net_connections.specs.Stands.{ConnectionsStand, SpawnsNone, ReceivesNone}
use Rattle.p2p_net_connections.specs.declared.connections.Connections.{Connections}
use Rattle.p2p_net_connections.specs.declared.connections.Stage.{Stage}
use Rattle.p2p_net_connections.specs.declared.connections.Stage.TheVariants as stage
use Rattle.p2p_net_connections.proofs.Dialing.{connected_by-longer}
use Rattle.p2p_net_connections.proofs.Changes.{or-false, running-kept, holds_kept, pings_kept, unmade_kept}
use Rattle.p2p_net_connections.proofs.Pings.{pinged-kept, last_pinged-first, pinged-idle, pinged-early, pinged-due, idle_stage, not_pinged, not_running, due_runs}

some_cond : (b : Bool) (s : Stage) (o : Option Stage) → is_some (cond b (Some s) o) ≡ (is_some o || b)
some_cond true s o = sym (or_true (is_some o))
some_cond false s None = refl
some_cond false s (Some t) = refl

-- one that did not run has begun, and does not run
runs_cond : (b : Bool) (o : Option Stage) → (b ≡ true → runs_on o ≡ false) → runs_on (cond b (Some stage.Begun) o) ≡ runs_on o
runs_cond true o h = sym (h refl)
runs_cond false o h = refl

-- and counts from nowhere
pinged_cond : (b : Bool) (o : Option Stage) → (b ≡ true → runs_on o ≡ false) → pinged_on (cond b (Some stage.Begun) o) ≡ pinged_on o
pinged_cond true o h = sym (idle_stage o (h refl))
pinged_cond false o h = refl

running_cond : (b : Bool) (now : ℕ) (o : Option Stage) → runs_on (cond b (Some (stage.Running now)) o) ≡ (runs_on o || b)
running_cond true now o = sym (or_true (runs_on o))
running_cond false now None = refl
running_cond false now (Some stage.Begun) = refl
running_cond false now (Some (stage.Running pinged)) = refl

counted_cond : (b : Bool) (now : ℕ) (o : Option Stage) → pinged_on (cond b (Some (stage.Running now)) o) ≡ cond b (Some now) (pinged_on o)
counted_cond true now o = refl
counted_cond false now o = refl

-- one begins, which does not run
pub connections_begun :
    (configs : List Config) (log : List Entry) (e : Entry) (n conn : ℕ) (cs : Connections) → ConnectionsStand configs log n cs → ((c : ℕ) → PingsWhenDue configs log e n c) → SpawnsNone log e n → has_run log n conn ≡ false
    → ((c : ℕ) → begins_connection n c log e ≡ (c == conn)) → ((c : ℕ) → runs n c log e ≡ false) → ReceivesNone configs log e n → ((c : ℕ) → line (log ++ e ∷ []) (queue.RouterAnswer n c) ≡ line log (queue.RouterAnswer n c))
    → ConnectionsStand configs (log ++ e ∷ []) n (begun_with conn cs)
connections_begun configs log e n conn cs s pinging spawns idle starts none receives lines = record {
  spawned = λ c. s.spawned c ∙ sym (spawns c);
  reserved = λ c. connected_by-longer log (e ∷ []) n (at cs.spawned c) (s.reserved c);
  begun = λ c.
      ap (λ (o : Option Stage). is_some o) (at-inserted conn c stage.Begun cs.stages)
      ∙ (some_cond (c == conn) stage.Begun (at cs.stages c)
      ∙ (ap (λ b. b || (c == conn)) (s.begun c) ∙ (ap (λ b. is_begun log n c || b) (sym (starts c)) ∙ sym (is_begun-append log e n c))));
  running = λ c.
      ap runs_on (at-inserted conn c stage.Begun cs.stages)
      ∙ (runs_cond (c == conn) (at cs.stages c) (λ h. s.running c ∙ idle_there c h)
      ∙ (s.running c ∙ sym (running-kept log e n c (none c))));
  pinged = λ c.
      ap pinged_on (at-inserted conn c stage.Begun cs.stages)
      ∙ (pinged_cond (c == conn) (at cs.stages c) (λ h. s.running c ∙ idle_there c h)
      ∙ (s.pinged c ∙ sym (still_pinged c (c == conn) refl)));
  waits = λ c. s.waits c ∙ sym (lines c);
  holds = holds_kept configs log e n cs s receives;
  counts = pings_kept configs log e n cs s receives.no_ping;
  unmade = unmade_kept configs log e n cs s receives.no_ping;
}
  where
    idle_there : (c : ℕ) → (c == conn) ≡ true → has_run log n c ≡ false
    idle_there c h = ap (has_run log n) (eqb-true c conn h) ∙ idle

    still_pinged : (c : ℕ) (b : Bool) → (c == conn) ≡ b → last_pinged configs (log ++ e ∷ []) n c ≡ last_pinged configs log n c
    still_pinged c true here = pinged-idle configs log e n c (pinging c) (not_pinged configs log n cs s c (idle_there c here)) (none c)
    still_pinged c false there = pinged-kept configs log e n c (starts c ∙ there)

-- one that has begun runs from this moment on, and these answers wait
pub connections_ran :
    (configs : List Config) (log : List Entry) (e : Entry) (n conn now : ℕ) (cs : Connections) (answers : List (ℕ × List Envelope)) → ConnectionsStand configs log n cs → ((c : ℕ) → PingsWhenDue configs log e n c) → SpawnsNone log e n → is_begun log n conn ≡ true
    → has_run log n conn ≡ false → e.event.at ≡ now
    → ((c : ℕ) → begins_connection n c log e ≡ (c == conn)) → ((c : ℕ) → runs n c log e ≡ (c == conn)) → ReceivesNone configs log e n → HoldsLines (queue.RouterAnswer n) (log ++ e ∷ []) answers
    → ConnectionsStand configs (log ++ e ∷ []) n (record cs { stages = insert_entry nat_cmp cs.stages conn (stage.Running now); answers = answers })
connections_ran configs log e n conn now cs answers s pinging spawns begun idle is_then steps takes receives waits = record {
  spawned = λ c. s.spawned c ∙ sym (spawns c);
  reserved = λ c. connected_by-longer log (e ∷ []) n (at cs.spawned c) (s.reserved c);
  begun = λ c.
      ap (λ (o : Option Stage). is_some o) (at-inserted conn c (stage.Running now) cs.stages)
      ∙ (some_cond (c == conn) (stage.Running now) (at cs.stages c)
      ∙ (ap (λ b. b || (c == conn)) (s.begun c) ∙ (ap (λ b. is_begun log n c || b) (sym (steps c)) ∙ sym (is_begun-append log e n c))));
  running = λ c.
      ap runs_on (at-inserted conn c (stage.Running now) cs.stages)
      ∙ (running_cond (c == conn) now (at cs.stages c)
      ∙ (ap (λ b. b || (c == conn)) (s.running c) ∙ (ap (λ b. has_run log n c || b) (sym (takes c)) ∙ sym (has_run-append log e n c))));
  pinged = λ c.
      ap pinged_on (at-inserted conn c (stage.Running now) cs.stages)
      ∙ (counted_cond (c == conn) now (at cs.stages c) ∙ (ap (λ o. cond (c == conn) (Some now) o) (s.pinged c) ∙ sym (counts c (c == conn) refl)));
  waits = waits;
  holds = holds_kept configs log e n cs s receives;
  counts = pings_kept configs log e n cs s receives.no_ping;
  unmade = unmade_kept configs log e n cs s receives.no_ping;
}
  where
    counts : (c : ℕ) (b : Bool) → (c == conn) ≡ b → last_pinged configs (log ++ e ∷ []) n c ≡ cond b (Some now) (last_pinged configs log n c)
    counts c true here =
        last_pinged-first configs log e n c (pinging c) (not_pinged configs log n cs s c (ap (has_run log n) (eqb-true c conn here) ∙ idle))
        ∙ (ap (λ b. cond b (Some e.event.at) None) (takes c ∙ here) ∙ ap (λ t. Some t) is_then)
    counts c false there = pinged-kept configs log e n c (steps c ∙ there)

-- one that has begun does a step in which no ping of it is due, after which those run that did
pub connections_stepped :
    (configs : List Config) (log : List Entry) (e : Entry) (n conn : ℕ) (cs : Connections) (answers : List (ℕ × List Envelope)) → ConnectionsStand configs log n cs → ((c : ℕ) → PingsWhenDue configs log e n c) → SpawnsNone log e n → is_begun log n conn ≡ true
    → ((c : ℕ) → (c == conn) ≡ false → begins_connection n c log e ≡ false) → ((c : ℕ) → has_run (log ++ e ∷ []) n c ≡ has_run log n c) → ping_is_due configs log n conn e.event.at ≡ false
    → ReceivesNone configs log e n → HoldsLines (queue.RouterAnswer n) (log ++ e ∷ []) answers
    → ConnectionsStand configs (log ++ e ∷ []) n (record cs { answers = answers })
connections_stepped configs log e n conn cs answers s pinging spawns begun others same early receives waits = record {
  spawned = λ c. s.spawned c ∙ sym (spawns c);
  reserved = λ c. connected_by-longer log (e ∷ []) n (at cs.spawned c) (s.reserved c);
  begun = λ c. s.begun c ∙ sym (still_begun c (c == conn) refl);
  running = λ c. s.running c ∙ sym (same c);
  pinged = λ c. s.pinged c ∙ sym (still_pinged c (c == conn) refl);
  waits = waits;
  holds = holds_kept configs log e n cs s receives;
  counts = pings_kept configs log e n cs s receives.no_ping;
  unmade = unmade_kept configs log e n cs s receives.no_ping;
}
  where
    still_begun : (c : ℕ) (b : Bool) → (c == conn) ≡ b → is_begun (log ++ e ∷ []) n c ≡ is_begun log n c
    still_begun c true same =
        let is : is_begun log n c ≡ true = ap (is_begun log n) (eqb-true c conn same) ∙ begun in
        is_begun-append log e n c ∙ (ap (λ b. b || begins_connection n c log e) is ∙ sym is)
    still_begun c false other = is_begun-append log e n c ∙ (ap (λ b. is_begun log n c || b) (others c other) ∙ or-false (is_begun log n c) false refl)

    -- one that did not run and does not run took no answer
    no_answer : (c : ℕ) → has_run log n c ≡ false → runs n c log e ≡ false
    no_answer c idle =
        ap (λ b. b || runs n c log e) (sym idle) ∙ (sym (has_run-append log e n c) ∙ (same c ∙ idle))

    by_last : (c : ℕ) (o : Option ℕ) → last_pinged configs log n c ≡ o → ping_is_due configs log n c e.event.at ≡ false → last_pinged configs (log ++ e ∷ []) n c ≡ last_pinged configs log n c
    by_last c None last early = pinged-idle configs log e n c (pinging c) last (no_answer c (not_running configs log n cs s c last))
    by_last c (Some from) last early = pinged-early configs log e n c from (pinging c) last early

    still_pinged : (c : ℕ) (b : Bool) → (c == conn) ≡ b → last_pinged configs (log ++ e ∷ []) n c ≡ last_pinged configs log n c
    still_pinged c true here = by_last c (last_pinged configs log n c) refl (ap (λ i. ping_is_due configs log n i e.event.at) (eqb-true c conn here) ∙ early)
    still_pinged c false there = pinged-kept configs log e n c (others c there)

-- one of which a ping is due does a step at this moment, after which those run that did
pub connections_pinged :
    (configs : List Config) (log : List Entry) (e : Entry) (n conn now : ℕ) (cs : Connections) → ConnectionsStand configs log n cs → ((c : ℕ) → PingsWhenDue configs log e n c) → SpawnsNone log e n
    → ((c : ℕ) → begins_connection n c log e ≡ (c == conn)) → ((c : ℕ) → has_run (log ++ e ∷ []) n c ≡ has_run log n c) → ping_is_due configs log n conn now ≡ true → e.event.at ≡ now
    → ReceivesNone configs log e n → HoldsLines (queue.RouterAnswer n) (log ++ e ∷ []) cs.answers
    → ConnectionsStand configs (log ++ e ∷ []) n (pinged_with true conn now cs)
connections_pinged configs log e n conn now cs s pinging spawns steps same due is_then receives waits = record {
  spawned = λ c. s.spawned c ∙ sym (spawns c);
  reserved = λ c. connected_by-longer log (e ∷ []) n (at cs.spawned c) (s.reserved c);
  begun = λ c.
      ap (λ (o : Option Stage). is_some o) (at-inserted conn c (stage.Running now) cs.stages)
      ∙ (some_cond (c == conn) (stage.Running now) (at cs.stages c)
      ∙ (ap (λ b. b || (c == conn)) (s.begun c) ∙ (ap (λ b. is_begun log n c || b) (sym (steps c)) ∙ sym (is_begun-append log e n c))));
  running = λ c.
      ap runs_on (at-inserted conn c (stage.Running now) cs.stages)
      ∙ (running_cond (c == conn) now (at cs.stages c) ∙ (ap (λ b. b || (c == conn)) (s.running c) ∙ (still_runs c (c == conn) refl ∙ sym (same c))));
  pinged = λ c.
      ap pinged_on (at-inserted conn c (stage.Running now) cs.stages)
      ∙ (counted_cond (c == conn) now (at cs.stages c) ∙ (ap (λ o. cond (c == conn) (Some now) o) (s.pinged c) ∙ sym (counts c (c == conn) refl)));
  waits = waits;
  holds = holds_kept configs log e n cs s receives;
  counts = pings_kept configs log e n cs s receives.no_ping;
  unmade = unmade_kept configs log e n cs s receives.no_ping;
}
  where
    still_runs : (c : ℕ) (b : Bool) → (c == conn) ≡ b → (has_run log n c || b) ≡ has_run log n c
    still_runs c true here = or_true (has_run log n c) ∙ sym (ap (has_run log n) (eqb-true c conn here) ∙ due_runs configs log n cs s conn now due)
    still_runs c false there = or-false (has_run log n c) false refl

    counts : (c : ℕ) (b : Bool) → (c == conn) ≡ b → last_pinged configs (log ++ e ∷ []) n c ≡ cond b (Some now) (last_pinged configs log n c)
    counts c true here =
        let due_then : ping_is_due configs log n c e.event.at ≡ true = ap (λ i. ping_is_due configs log n i e.event.at) (eqb-true c conn here) ∙ (ap (ping_is_due configs log n conn) is_then ∙ due) in
        pinged-due configs log e n c (pinging c) due_then (steps c ∙ here) ∙ ap (λ t. Some t) is_then
    counts c false there = pinged-kept configs log e n c (steps c ∙ there)
