-- The dialer of a node after one more entry.
use Rattle.std.proofs.Common.{◌≡◌, ℕ, ◌+◌, Bool, true, false, cond, List, [], ◌∷◌, ◌++◌, length, refl, ap, sym, subst, ◌∙◌, arith, eqb-true, Option, Some, None}
use Rattle.std.specs.Prelude.{slice_get, ◌==◌}
use Rattle.std.specs.BTreeMap.{is_at, insert_entry}
use Rattle.std.specs.Ordering.{nat_cmp}
use Rattle.std.proofs.lemmas.Bool.Decides.{nat_tests}
use Rattle.p2p_base.specs.declared.key.Key.{Key}
use Rattle.p2p_tracker_directory.specs.declared.metadata.Metadata.{Metadata}
use Rattle.p2p_tracker_directory.specs.declared.metadata.Metadata.TheVariants as metadata
use Rattle.p2p_gates.specs.Attempting.{Attempting, new_attempt}
use Rattle.p2p_gates.specs.declared.config.Config.{Config as Gates}
use Rattle.p2p_address.specs.declared.peer.Ingress.{Ingress}
use Rattle.p2p_address.specs.declared.peer.Ingress.TheVariants as ingress
use Rattle.p2p_log.specs.declared.config.Config.{Config}
use Rattle.p2p_log.specs.declared.queue.Queue.{Queue}
use Rattle.p2p_log.specs.declared.queue.Queue.TheVariants as queue
use Rattle.p2p_log.specs.declared.item.Envelope.{Envelope}
use Rattle.p2p_log.specs.declared.entry.Entry.{Entry}
use Rattle.p2p_log.specs.declared.event.Act.{Act}
use Rattle.p2p_log.specs.declared.event.Act.TheVariants as act
use Rattle.p2p_log.specs.Lines.{live_from, line}
use Rattle.p2p_log_rules.specs.Attempting.{Attempt, DialRules, dial_rules_in, dial_rules_at, socket_of, attempts_of}
use Rattle.p2p_log_rules.proofs.AttemptTellings.{tries, attempts_of-kept, attempts_of-late, attempts_of-old}
use Rattle.p2p_log_rules.proofs.Dialing.{dials_by, dials_of-kept, dials_of-starts}
use Rattle.p2p_log_rules.specs.Tellings.{last_told}
use Rattle.p2p_log_rules.specs.Told.{told}
use Rattle.p2p_log_rules.specs.Facts.{turns, is_up, is_stopped, state_from}
use Rattle.p2p_log_rules.specs.Dialing.{Dials, new_dials, dials_of}
use Rattle.p2p_log_rules.proofs.Channels.{is_up-kept, is_up-starts, is_up-none}
use Rattle.p2p_net_queues.specs.Tables as table
use Rattle.p2p_net_queues.proofs.Tables.{lookup-insert_entry}
use Rattle.p2p_net_gates.specs.Attempts.{running}
use Rattle.p2p_net_gates.specs.Dialing.{gates_of, no_dialing, started}
use Rattle.p2p_net_gates.specs.DialerStands.{no_gates, gates_at, actor_of, attempt_of, AttemptStands, DialerStands, is_of_dialer, LeavesDialer}
use Rattle.p2p_net_gates.specs.declared.attempt.RunningAttempt.{RunningAttempt}
use Rattle.p2p_net_gates.specs.declared.dialing.Dialing.{Dialing}

-- ---- an entry that leaves it alone

-- which the act is not of
none_dials : (n : ℕ) (a : Act) → turns n a ≡ false → is_of_dialer n a ≡ false → dials_by n a ≡ false
none_dials n (act.Start m) h k = h
none_dials n (act.Dialer m) h k = k
none_dials n _ h k = refl

none_tries : (n : ℕ) (a : Act) → turns n a ≡ false → is_of_dialer n a ≡ false → tries n a ≡ false
none_tries n (act.Dialer m) k h = h
none_tries n (act.Attempt e m) k h = h
none_tries n (act.Resolve addresses e m) k h = h
none_tries n (act.Connect e from m to) k h = h
none_tries n (act.Refuse e m) k h = h
none_tries n (act.Stop by_start m) k h = k
none_tries n _ k h = refl

-- an attempt of which nothing changed
still_tried : (configs : List Config) (log : List Entry) (e : Entry) (n k : ℕ) (d : Dialing) → DialerStands configs log n d
    → attempts_of configs (log ++ e ∷ []) n k ≡ attempts_of configs log n k → line (log ++ e ∷ []) (queue.Attempt n k) ≡ line log (queue.Attempt n k)
    → AttemptStands (gates_at configs n) k (table.at d.attempts k) (attempts_of configs (log ++ e ∷ []) n k) (line (log ++ e ∷ []) (queue.Attempt n k))
still_tried configs log e n k d s same waits =
    subst (λ o. AttemptStands (gates_at configs n) k (table.at d.attempts k) o (line (log ++ e ∷ []) (queue.Attempt n k))) (sym same)
    (subst (AttemptStands (gates_at configs n) k (table.at d.attempts k) (attempts_of configs log n k)) (sym waits) (s.attempts k))

-- the actor of a node that has started or not
pub actor_now : (configs : List Config) (log : List Entry) (n : ℕ) (up : Bool) (d : Dials) → is_up log n ≡ up → dials_of configs log n ≡ d
    → cond up (Some (actor_of (gates_at configs n) d)) None ≡ cond (is_up log n) (Some (actor_of (gates_at configs n) (dials_of configs log n))) None
actor_now configs log n up d is same = ap (λ b. cond b (Some (actor_of (gates_at configs n) d)) None) (sym is) ∙ ap (λ k. cond (is_up log n) (Some (actor_of (gates_at configs n) k)) None) (sym same)

-- and where the dialer itself is left alone
pub actor_kept : (configs : List Config) (log : List Entry) (e : Entry) (n : ℕ) (d : Dialing) → DialerStands configs log n d → turns n e.event.act ≡ false
    → dials_of configs (log ++ e ∷ []) n ≡ dials_of configs log n
    → d.actor ≡ cond (is_up (log ++ e ∷ []) n) (Some (actor_of (gates_at configs n) (dials_of configs (log ++ e ∷ []) n))) None
actor_kept configs log e n d s no_turn same =
    s.actor
    ∙ actor_now configs (log ++ e ∷ []) n (is_up log n) (dials_of configs log n) (is_up-kept log e n no_turn) same

pub dialer_frame : (configs : List Config) (log : List Entry) (e : Entry) (n : ℕ) (d : Dialing) → DialerStands configs log n d → LeavesDialer configs log e n → DialerStands configs (log ++ e ∷ []) n d
dialer_frame configs log e n d s q = record {
  actor = actor_kept configs log e n d s q.no_turn q.dials;
  attempts = λ k. still_tried configs log e n k d s (q.tries k) (q.lines k);
}

-- an entry of another act, or of another node
pub dialer_unmoved : (configs : List Config) (log : List Entry) (e : Entry) (n : ℕ) → turns n e.event.act ≡ false → is_of_dialer n e.event.act ≡ false
    → ((k : ℕ) → line (log ++ e ∷ []) (queue.Attempt n k) ≡ line log (queue.Attempt n k)) → LeavesDialer configs log e n
dialer_unmoved configs log e n no_turn no_dialer waits = record {
  no_turn = no_turn;
  dials = dials_of-kept configs log e n (none_dials n e.event.act no_turn no_dialer);
  tries = λ k. attempts_of-kept configs log e n k (none_tries n e.event.act no_turn no_dialer);
  lines = waits;
}

-- ---- a node that is new, and one that starts

no_attempts : (configs : List Config) (n k : ℕ) → attempts_of configs [] n k ≡ None
unfolding attempts_of told last_told state_from
no_attempts configs n k = refl

none_waits : (q : Queue) → line [] q ≡ []
unfolding line live_from
none_waits q = refl

pub dialer_new : (configs : List Config) (n : ℕ) → DialerStands configs [] n no_dialing
dialer_new configs n = record {
  actor = ap (λ b. cond b (Some (actor_of (gates_at configs n) (dials_of configs [] n))) None) (sym (is_up-none n));
  attempts = λ k. subst (λ o. AttemptStands (gates_at configs n) k None o (line [] (queue.Attempt n k))) (sym (no_attempts configs n k)) (none_waits (queue.Attempt n k));
}

gates_is : (configs : List Config) (n : ℕ) (c : Config) → slice_get configs n ≡ Some c → gates_of c ≡ gates_at configs n
gates_is configs n c is = sym (ap (λ (o : Option Config). elim o [ None ↦ no_gates | Some d ↦ gates_of d ]) is)

pub dialer_starts : (configs : List Config) (log : List Entry) (e : Entry) (n : ℕ) (c : Config) (d : Dialing) → DialerStands configs log n d → slice_get configs n ≡ Some c → e.event.act ≡ act.Start n → is_stopped log n ≡ false
    → ((k : ℕ) → line (log ++ e ∷ []) (queue.Attempt n k) ≡ line log (queue.Attempt n k)) → DialerStands configs (log ++ e ∷ []) n (started c e.event.at d)
dialer_starts configs log e n c d s is acts runs waits =
    let now : dials_of configs (log ++ e ∷ []) n ≡ new_dials e.event.at = dials_of-starts configs log e n acts runs in
    record {
      actor =
          ap (λ g. Some (actor_of g (new_dials e.event.at))) (gates_is configs n c is)
          ∙ actor_now configs (log ++ e ∷ []) n true (new_dials e.event.at) (is_up-starts log e n acts runs) now;
      attempts = λ k. still_tried configs log e n k d s (attempts_of-kept configs log e n k (ap (tries n) acts)) (waits k);
    }

-- ---- a step

-- the attempts with this one
abbrev pub attempts_with : Option (Attempting Key) → ℕ → List (ℕ × RunningAttempt) → List (ℕ × RunningAttempt)
attempts_with None name l = l
attempts_with (Some a) name l = insert_entry nat_cmp l name (running a)

-- the attempt of this name is what was begun, with the dialer's reservation of its key
abbrev pub IsBegun : Gates → ℕ → Option (Attempting Key) → Option Attempt → Type 0
IsBegun gates name None None = Unit {0}
IsBegun gates name (Some a) (Some b) =
    (m : Metadata Key) × (m ≡ metadata.Dialer b.key) × (running a ≡ attempt_of gates name m b [])
IsBegun gates name _ _ = ⊥

-- an attempt that begins is what is said of it
pub begun_is : (g : Gates) (rules : DialRules) (name : ℕ) (m : Metadata Key) (key : Key) (at : ℕ) (to : Ingress) → g.dial_timeout ≡ rules.timeout
    → running (new_attempt name m to g at)
    ≡ attempt_of g name m (record { key = key; ingress = to; address = socket_of to; deadline = at + rules.timeout; is_resolved = false; answer = None; link = None }) []
begun_is g rules name m key at (ingress.Socket s) same = ap (λ t. running (record (new_attempt name m (ingress.Socket s) g at) { deadline = at + t })) same
begun_is g rules name m key at (ingress.Dns host port) same = ap (λ t. running (record (new_attempt name m (ingress.Dns host port) g at) { deadline = at + t })) same

abbrev gates_in : Option Config → Gates
gates_in None = no_gates
gates_in (Some c) = gates_of c

abbrev dial_rules_by : Gates → DialRules
dial_rules_by g = record { timeout = g.dial_timeout; handshake_timeout = g.handshake_timeout; private = g.allow_private_ips }

-- how long an attempt may take, before and after its link, and which addresses it may dial
rules_are : (configs : List Config) (n : ℕ) → dial_rules_by (gates_at configs n) ≡ dial_rules_at configs n
rules_are configs n = by (slice_get configs n)
  where
    by : (o : Option Config) → dial_rules_by (gates_in o) ≡ dial_rules_in o
    by None = refl
    by (Some c) = refl

pub timeout_is : (configs : List Config) (n : ℕ) → (gates_at configs n).dial_timeout ≡ (dial_rules_at configs n).timeout
timeout_is configs n = ap (λ (r : DialRules). r.timeout) (rules_are configs n)

pub handshake_timeout_is : (configs : List Config) (n : ℕ) → (gates_at configs n).handshake_timeout ≡ (dial_rules_at configs n).handshake_timeout
handshake_timeout_is configs n = ap (λ (r : DialRules). r.handshake_timeout) (rules_are configs n)

pub private_is : (configs : List Config) (n : ℕ) → (gates_at configs n).allow_private_ips ≡ (dial_rules_at configs n).private
private_is configs n = ap (λ (r : DialRules). r.private) (rules_are configs n)

with_is : (g : Gates) (o : Option (Attempting Key)) (b : Option Attempt) (name k : ℕ) (l : List (ℕ × RunningAttempt)) (f : ℕ → Option Attempt) (waits : List Envelope) → IsBegun g name o b → f name ≡ None
    → ((k == name) ≡ true → waits ≡ []) → AttemptStands g k (table.at l k) (f k) waits → AttemptStands g k (table.at (attempts_with o name l) k) (cond (k == name) b (f k)) waits
with_is g None None name k l f waits new late none h = subst (λ o. AttemptStands g k (table.at l k) o waits) (sym (by (k == name) refl)) h
  where
    by : (c : Bool) → (k == name) ≡ c → cond c None (f k) ≡ f k
    by true is = sym (ap f (eqb-true k name is) ∙ late)
    by false is = refl
with_is g (Some a) (Some b) name k l f waits new late none h =
    subst (λ t. AttemptStands g k t (cond (k == name) (Some b) (f k)) waits) (sym (lookup-insert_entry name k (running a) l ∙ ap (λ c. cond c (Some (running a)) (table.at l k)) (same k name))) (by (k == name) refl)
  where
    same : (d l : ℕ) → is_at (nat_cmp d) l ≡ (d == l)
    same d l = grind (arith, nat_tests)

    by : (c : Bool) → (k == name) ≡ c → AttemptStands g k (cond c (Some (running a)) (table.at l k)) (cond c (Some b) (f k)) waits
    by true is =
        subst (λ j. AttemptStands g j (Some (running a)) (Some b) waits) (sym (eqb-true k name is))
        (subst (AttemptStands g name (Some (running a)) (Some b)) (sym (none is)) (new.0, new.1, new.2))
    by false is = h
with_is g None (Some b) name k l f waits new late none h = absurd new
with_is g (Some a) None name k l f waits new late none h = absurd new

-- nothing waits for an attempt of a later name
late_waits : (configs : List Config) (log : List Entry) (n : ℕ) (d : Dialing) → DialerStands configs log n d → line log (queue.Attempt n (length log)) ≡ []
late_waits configs log n d s = by (table.at d.attempts (length log)) (attempts_of configs log n (length log)) (s.attempts (length log)) (attempts_of-late configs log n (length log) (omega arith))
  where
    by : (o : Option RunningAttempt) (b : Option Attempt) → AttemptStands (gates_at configs n) (length log) o b (line log (queue.Attempt n (length log))) → b ≡ None → line log (queue.Attempt n (length log)) ≡ []
    by None None h none = h
    by (Some r) (Some b) h none = cc
    by None (Some b) h none = absurd h
    by (Some r) None h none = absurd h

-- a step of the dialer of a node that has started, which comes to this
pub dialer_stepped : (configs : List Config) (log : List Entry) (e : Entry) (n : ℕ) (d u : Dialing) (begun : Option (Attempting Key)) (next : Dials) → DialerStands configs log n d → e.event.act ≡ act.Dialer n → is_up log n ≡ true
    → dials_of configs (log ++ e ∷ []) n ≡ next → u.actor ≡ Some (actor_of (gates_at configs n) next)
    → IsBegun (gates_at configs n) (length log) begun (attempts_of configs (log ++ e ∷ []) n (length log)) → u.attempts ≡ attempts_with begun (length log) d.attempts
    → ((k : ℕ) → line (log ++ e ∷ []) (queue.Attempt n k) ≡ line log (queue.Attempt n k)) → DialerStands configs (log ++ e ∷ []) n u
dialer_stepped configs log e n d u begun next s acts up now actor new attempts waits =
    let what : Option Attempt = attempts_of configs (log ++ e ∷ []) n (length log) in
    let tried : (k : ℕ) → attempts_of configs (log ++ e ∷ []) n k ≡ cond (k == length log) what (attempts_of configs log n k) = λ k. by k (k == length log) refl in
    record {
      actor = actor ∙ actor_now configs (log ++ e ∷ []) n true next (is_up-kept log e n (ap (turns n) acts) ∙ up) now;
      attempts = λ k.
          subst (λ l. AttemptStands (gates_at configs n) k (table.at l k) (attempts_of configs (log ++ e ∷ []) n k) (line (log ++ e ∷ []) (queue.Attempt n k))) (sym attempts)
          (subst (AttemptStands (gates_at configs n) k (table.at (attempts_with begun (length log) d.attempts) k) (attempts_of configs (log ++ e ∷ []) n k)) (sym (waits k))
          (subst (λ o. AttemptStands (gates_at configs n) k (table.at (attempts_with begun (length log) d.attempts) k) o (line log (queue.Attempt n k))) (sym (tried k))
          (with_is (gates_at configs n) begun what (length log) k d.attempts (attempts_of configs log n) (line log (queue.Attempt n k)) new (attempts_of-late configs log n (length log) (omega arith))
          (λ is. ap (λ j. line log (queue.Attempt n j)) (eqb-true k (length log) is) ∙ late_waits configs log n d s) (s.attempts k))));
    }
  where
    by : (k : ℕ) (b : Bool) → (k == length log) ≡ b → attempts_of configs (log ++ e ∷ []) n k ≡ cond b (attempts_of configs (log ++ e ∷ []) n (length log)) (attempts_of configs log n k)
    by k true is = ap (attempts_of configs (log ++ e ∷ []) n) (eqb-true k (length log) is)
    by k false other = attempts_of-old configs log e n n k acts other
