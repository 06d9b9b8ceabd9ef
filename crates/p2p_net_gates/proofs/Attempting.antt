-- The attempts of a node's dialer after an entry that changes one of them.
use Rattle.std.proofs.Common.{◌≡◌, ℕ, Bool, true, false, cond, List, [], ◌∷◌, ◌++◌, map, length, refl, ap, sym, subst, ◌∙◌, eqb-true, append-nil, Option, Some, None}
use Rattle.std.specs.Prelude.{◌==◌}
use Rattle.std.specs.Option.{option_map}
use Rattle.std.proofs.lemmas.List.{map-append}
use Rattle.p2p_base.specs.declared.key.Key.{Key}
use Rattle.p2p_tracker_directory.specs.Reserved.{peer_of}
use Rattle.p2p_tracker_directory.specs.declared.metadata.Metadata.{Metadata}
use Rattle.p2p_gates.specs.declared.attempt.item.AttemptItem.TheVariants as told
use Rattle.p2p_gates.specs.declared.config.Config.{Config as Gates}
use Rattle.p2p_log.specs.declared.config.Config.{Config}
use Rattle.p2p_log.specs.declared.queue.Queue.{Queue}
use Rattle.p2p_log.specs.declared.queue.Queue.TheVariants as queue
use Rattle.p2p_log.specs.declared.item.Item.{Item}
use Rattle.p2p_log.specs.declared.item.Item.TheVariants as item
use Rattle.p2p_log.specs.declared.item.Envelope.{Envelope}
use Rattle.p2p_log.specs.declared.entry.Entry.{Entry}
use Rattle.p2p_log.specs.Lines.{name_of, line}
use Rattle.p2p_log_rules.specs.declared.row.Row.{Row}
use Rattle.p2p_log_rules.specs.Attempting.{Attempt, attempts_of}
use Rattle.p2p_log_rules.specs.Dialing.{dials_of}
use Rattle.p2p_log_rules.specs.Facts.{turns}
use Rattle.p2p_log_rules.specs.Links.{dialing_puts}
use Rattle.p2p_net_queues.specs.Tables as table
use Rattle.p2p_net_queues.specs.Tables.{AreBut}
use Rattle.p2p_net_gates.specs.Attempts.{dialed_key, told_under, Finishes}
use Rattle.p2p_net_gates.specs.DialerStands.{gates_at, told_item, attempt_of, AttemptStands, DialerStands}
use Rattle.p2p_net_gates.specs.declared.attempt.RunningAttempt.{RunningAttempt}
use Rattle.p2p_net_gates.specs.declared.dialing.Dialing.{Dialing}
use Rattle.p2p_net_gates.proofs.DialerChanges.{actor_kept}

-- ---- after an entry

-- the entry changes the attempt of this name alone, which is this then, and stands for that
pub record ChangesAttempt (configs : List Config) (log : List Entry) (e : Entry) (n name : ℕ) (d u : Dialing) (now : Option RunningAttempt) (next : Option Attempt) : Type 0 where
  pub no_turn : turns n e.event.act ≡ false
  pub dials : dials_of configs (log ++ e ∷ []) n ≡ dials_of configs log n
  pub actor : u.actor ≡ d.actor
  pub others : AreBut name now d.attempts u.attempts
  pub tried : attempts_of configs (log ++ e ∷ []) n name ≡ next
  pub untried : (k : ℕ) → (k == name) ≡ false → attempts_of configs (log ++ e ∷ []) n k ≡ attempts_of configs log n k
  pub lines : (k : ℕ) → (k == name) ≡ false → line (log ++ e ∷ []) (queue.Attempt n k) ≡ line log (queue.Attempt n k)
  pub stands : AttemptStands (gates_at configs n) name now next (line (log ++ e ∷ []) (queue.Attempt n name))

pub attempt_changed : (configs : List Config) (log : List Entry) (e : Entry) (n name : ℕ) (d u : Dialing) (now : Option RunningAttempt) (next : Option Attempt) → DialerStands configs log n d
    → ChangesAttempt configs log e n name d u now next → DialerStands configs (log ++ e ∷ []) n u
attempt_changed configs log e n name d u now next s q = record {
  actor = q.actor ∙ actor_kept configs log e n d s q.no_turn q.dials;
  attempts = λ k.
      subst (λ r. AttemptStands g k r (attempts_of configs (log ++ e ∷ []) n k) (after k)) (sym (q.others k))
      (by k (k == name) refl);
}
  where
    g : Gates
    g = gates_at configs n

    after : ℕ → List Envelope
    after k = line (log ++ e ∷ []) (queue.Attempt n k)

    by : (k : ℕ) (b : Bool) → (k == name) ≡ b → AttemptStands g k (cond b now (table.at d.attempts k)) (attempts_of configs (log ++ e ∷ []) n k) (after k)
    by k true is = subst (λ j. AttemptStands g j now (attempts_of configs (log ++ e ∷ []) n j) (after j)) (sym (eqb-true k name is)) (subst (λ a. AttemptStands g name now a (after name)) (sym q.tried) q.stands)
    by k false is =
        subst (λ a. AttemptStands g k (table.at d.attempts k) a (after k)) (sym (q.untried k is))
        (subst (AttemptStands g k (table.at d.attempts k) (attempts_of configs log n k)) (sym (q.lines k is)) (s.attempts k))

-- ---- what one is told of the end of an exchange

-- whom an attempt dials
pub dialed_key_is : (configs : List Config) (log : List Entry) (n name : ℕ) (d : Dialing) → DialerStands configs log n d
    → dialed_key (table.at d.attempts name) ≡ option_map (λ (a : Attempt). a.key) (attempts_of configs log n name)
dialed_key_is configs log n name d s = by (table.at d.attempts name) (attempts_of configs log n name) (s.attempts name)
  where
    by : (o : Option RunningAttempt) (b : Option Attempt) → AttemptStands (gates_at configs n) name o b (line log (queue.Attempt n name))
        → dialed_key o ≡ option_map (λ (a : Attempt). a.key) b
    by None None stands = refl
    by (Some w) (Some b) stands = ap (λ (z : RunningAttempt). dialed_key (Some z)) stands.2 ∙ ap (λ m. Some (peer_of m)) stands.1
    by None (Some b) stands = absurd stands
    by (Some w) None stands = absurd stands

-- an attempt that is told one thing more
pub told_under_is : (g : Gates) (name k place n : ℕ) (m : Metadata Key) (b : Attempt) (waiting : List Envelope) (i : Item)
    → told_under (k, place) (told_item i) (attempt_of g name m b waiting)
    ≡ attempt_of g name m b (waiting ++ record { entry = k; place = place; queue = queue.Attempt n name; item = i } ∷ [])
told_under_is g name k place n m b waiting i =
    let z : Envelope = record { entry = k; place = place; queue = queue.Attempt n name; item = i } in
    let r = attempt_of g name m b waiting in
    ap (λ l. record r { actor = record r.actor { items = l }; names = map name_of waiting ++ (k, place) ∷ [] })
    (sym (map-append (λ (x : Envelope). told_item x.item) waiting (z ∷ [])))
    ∙ ap (λ l. record (attempt_of g name m b (waiting ++ z ∷ [])) { names = l }) (sym (map-append name_of waiting (z ∷ [])))

-- what waits for it more, as a put of the entry k in this place, where it stands
abbrev pub finished_line : ℕ → ℕ → ℕ → ℕ → Bool → Option Attempt → List Envelope
finished_line n name k place ok None = []
finished_line n name k place ok (Some a) = record { entry = k; place = place; queue = queue.Attempt n name; item = item.Finished ok } ∷ []

module _ (configs : List Config) (log : List Entry) (n name : ℕ) (ok : Bool) (d u : Dialing) (row after : Row) (s : DialerStands configs log n d)
    (finishes : Finishes (table.at d.attempts name) (length log) n name ok d.attempts u.attempts row after) where
  abbrev q : Queue
  q = queue.Attempt n name

  abbrev attempts : ℕ → Option Attempt
  attempts = attempts_of configs log n

  -- the row has what is put for the dialing end
  pub finished_row_is : after ≡ record row { puts = row.puts ++ dialing_puts n name ok (attempts name) }
  finished_row_is = by (table.at d.attempts name) (attempts name) (s.attempts name) finishes
    where
      by : (o : Option RunningAttempt) (b : Option Attempt) → AttemptStands (gates_at configs n) name o b (line log q)
          → Finishes o (length log) n name ok d.attempts u.attempts row after → after ≡ record row { puts = row.puts ++ dialing_puts n name ok b }
      by None None stands h = h.0 ∙ ap (λ l. record row { puts = l }) (sym (append-nil row.puts))
      by (Some w) (Some b) stands h = h.0
      by None (Some b) stands h = absurd stands
      by (Some w) None stands h = absurd stands

  -- the dialer after an entry by which nothing else waits for its attempts, and that changes none of them
  pub dialer_finished : (e : Entry) → turns n e.event.act ≡ false → dials_of configs (log ++ e ∷ []) n ≡ dials_of configs log n
      → ((k : ℕ) → attempts_of configs (log ++ e ∷ []) n k ≡ attempts k) → u.actor ≡ d.actor
      → ((k : ℕ) → (k == name) ≡ false → line (log ++ e ∷ []) (queue.Attempt n k) ≡ line log (queue.Attempt n k))
      → line (log ++ e ∷ []) q ≡ line log q ++ finished_line n name (length log) (length row.puts) ok (attempts name)
      → DialerStands configs (log ++ e ∷ []) n u
  dialer_finished e no_turn dials tries actor others here = by (table.at d.attempts name) (attempts name) refl refl (s.attempts name) finishes here
    where
      g : Gates
      g = gates_at configs n

      changed : (now : Option RunningAttempt) (b : Option Attempt) → attempts name ≡ b → AreBut name now d.attempts u.attempts → AttemptStands g name now b (line (log ++ e ∷ []) q)
          → DialerStands configs (log ++ e ∷ []) n u
      changed now b is but stands = attempt_changed configs log e n name d u now b s (record {
        no_turn = no_turn;
        dials = dials;
        actor = actor;
        others = but;
        tried = tries name ∙ is;
        untried = λ k other. tries k;
        lines = others;
        stands = stands;
      })

      by : (o : Option RunningAttempt) (b : Option Attempt) → table.at d.attempts name ≡ o → attempts name ≡ b → AttemptStands g name o b (line log q)
          → Finishes o (length log) n name ok d.attempts u.attempts row after → line (log ++ e ∷ []) q ≡ line log q ++ finished_line n name (length log) (length row.puts) ok b
          → DialerStands configs (log ++ e ∷ []) n u
      by None None there is stands h waits = changed None None is h.1 (waits ∙ (append-nil (line log q) ∙ stands))
      by (Some w) (Some b) there is stands h waits =
          let told_more = told_under (length log, length row.puts) (told.Finished ok) w in
          let w_is : told_more ≡ attempt_of g name stands.0 b (line log q ++ finished_line n name (length log) (length row.puts) ok (Some b)) =
          ap (told_under (length log, length row.puts) (told.Finished ok)) stands.2
          ∙ told_under_is g name (length log) (length row.puts) n stands.0 b (line log q) (item.Finished ok)
          in
          changed (Some told_more) (Some b) is h.1 (subst (AttemptStands g name (Some told_more) (Some b)) (sym waits) (stands.0, stands.1, w_is))
      by None (Some b) there is stands h waits = absurd stands
      by (Some w) None there is stands h waits = absurd stands
