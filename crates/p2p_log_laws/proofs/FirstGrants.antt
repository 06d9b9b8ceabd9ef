-- Of what waits for a handshake only the first may grant a key.
use Rattle.std.proofs.Common.{◌≡◌, ℕ, ◌+◌, ◌≤◌, Bool, true, false, cond, List, [], ◌∷◌, ◌++◌, length, Option, Some, None, refl, ap, sym, subst, ◌∙◌, arith, length-append}
use Rattle.std.specs.Prelude.{◌&&◌, ◌||◌}
use Rattle.std.specs.List.{AllByRecursion as Each}
use Rattle.std.proofs.lemmas.List.Sums.{sum_by-cons}
use Rattle.p2p_log_rules.proofs.Bools.{and_false}
use Rattle.p2p_base.specs.declared.key.Key.{Key}
use Rattle.p2p_log.specs.declared.config.Config.{Config}
use Rattle.p2p_log.specs.declared.queue.Queue.{Queue}
use Rattle.p2p_log.specs.declared.queue.Queue.TheVariants as queue
use Rattle.p2p_log.specs.declared.item.Item.{Item}
use Rattle.p2p_log.specs.declared.item.Item.TheVariants as item
use Rattle.p2p_log.specs.declared.item.Envelope.{Envelope}
use Rattle.p2p_log.specs.declared.entry.Entry.{Entry}
use Rattle.p2p_log.specs.declared.event.Event.{Event}
use Rattle.p2p_log.specs.QueueCode.{same_queue}
use Rattle.p2p_log.specs.Lines.{live, line}
use Rattle.p2p_log.proofs.Queues.{same_queue-refl}
use Rattle.p2p_log_rules.specs.Connections.{ends_connection, is_ended}
use Rattle.p2p_log_rules.specs.Effect.{effect, entry_of, row}
use Rattle.p2p_log_rules.specs.Spawning.{Spawned, connections_of}
use Rattle.p2p_log_rules.proofs.Connections.{is_ended-append, is_ended-none}
use Rattle.p2p_log_rules.proofs.Spawning.{connections_of-late}
use Rattle.p2p_log_rules.proofs.Moves.{one_taken, first_has}
use Rattle.p2p_log_laws.specs.Grants.{one}
use Rattle.p2p_log_laws.specs.NodeGrants.{put_of, holds_grants, grants_key, releases_key}
use Rattle.p2p_log_laws.specs.OneAnswer.{Words, answers, exchanges, tells, asks_about, is_for, waiting_for, HasOne, is_open}
use Rattle.p2p_log_laws.proofs.Balance.{live-none, fitting_kept}
use Rattle.p2p_log_laws.proofs.Fitting.{StandsFit, fits}
use Rattle.p2p_log_laws.proofs.HandshakeGrants.{GrantsFirst}
use Rattle.p2p_log_laws.proofs.HandshakeLaws.{AreHandshakes, handshakes_first, handshakes_more}
use Rattle.p2p_log_laws.proofs.LineShape.{in_line}
use Rattle.p2p_log_laws.proofs.Living.{ends_made}
use Rattle.p2p_log_laws.proofs.OneAsked.{splits, left}
use Rattle.p2p_log_laws.proofs.Plain.{StandsPlain}
use Rattle.p2p_log_laws.proofs.Running.{StandRuns, runs_none, runs_more}
use Rattle.p2p_log_laws.proofs.Shape.{Shape}
use Rattle.p2p_log_laws.proofs.Shapes.{row_shape}
use Rattle.p2p_log_laws.proofs.Weighing.{weight}

module _ (n : ℕ) (key : Key) (log : List Entry) (h : ℕ) where
  abbrev q : Queue
  q = queue.Handshake n h

  -- a word that does not count grants nothing
  uncounted : (w : Words) (i : Item) → tells w i ≡ false → grants_key key i ≡ false
  uncounted w (item.Acceptable b) none = refl
  uncounted w (item.Finished b) none = refl
  uncounted w i none = cc

  counted : (w : Words) (x : Envelope) → x.queue ≡ q → is_for w n h (put_of x) ≡ tells w x.item
  counted w x stood =
      ap (λ p. (same_queue (queue.Tracker n) p && asks_about w n h x.item) || (same_queue q p && tells w x.item)) stood ∙ ap (λ b. b && tells w x.item) (same_queue-refl q)

  plain : (w : Words) (xs : List Envelope) → Each (λ x. x.queue ≡ q) xs → weight (is_for w n h) xs ≡ 0 → Each (StandsPlain n key) xs
  plain w [] here none = tt
  plain w (x ∷ xs) here none =
      let both = parts (one (is_for w n h (put_of x))) (weight (is_for w n h) xs) (sym (sum_by-cons (λ y. cond (is_for w n h (put_of y)) 1 0) x xs) ∙ none) in
      let silent : tells w x.item ≡ false = sym (counted w x here.0) ∙ zero_false (is_for w n h (put_of x)) both.0 in (
        (
          ap (λ p. holds_grants n p && grants_key key x.item) here.0 ∙ (ap (λ b. holds_grants n q && b) (uncounted w x.item silent) ∙ and_false (holds_grants n q)),
          ap (λ p. same_queue (queue.Tracker n) p && releases_key key x.item) here.0,
        ),
        plain w xs here.1 both.1,
      )
    where
      parts : (a b : ℕ) → a + b ≡ 0 → (a ≡ 0) × (b ≡ 0)
      parts a b sum = omega (arith, sum)

      zero_false : (b : Bool) → one b ≡ 0 → b ≡ false
      zero_false false is = refl
      zero_false true is = cc

  module _ (x : Envelope) (rest : List Envelope) (first : line log q ≡ x ∷ rest) where
    behind : (w : Words) → tells w x.item ≡ true → HasOne n h w log → weight (is_for w n h) rest ≡ 0
    behind w counts h_one =
        none (waiting_for w n h log) (weight (is_for w n h) (line log q)) (weight (is_for w n h) (left n h log)) (weight (is_for w n h) rest) (one (is_open n h w log)) (splits n h log (is_for w n h))
        (ap (weight (is_for w n h)) first
        ∙ (sum_by-cons (λ y. cond (is_for w n h (put_of y)) 1 0) x rest ∙ ap (λ k. k + weight (is_for w n h) rest) (ap one (counted w x (one_taken log q x rest first) ∙ counts)))) h_one
      where
        none : (a b c d e : ℕ) → a ≡ b + c → b ≡ 1 + d → a + e ≤ 1 → d ≡ 0
        none a b c d e sum is le = omega (arith, sum, is, le)

    queues : Each (λ y. y.queue ≡ q) rest
    queues = (subst (Each (λ y. y.queue ≡ q)) first (in_line log q)).1

    rest_plain : HasOne n h answers log → HasOne n h exchanges log → Each (StandsPlain n key) rest
    rest_plain answered exchanged = by x.item refl
      where
        by_answers : tells answers x.item ≡ true → Each (StandsPlain n key) rest
        by_answers counts = plain answers rest queues (behind answers counts answered)

        by : (i : Item) → x.item ≡ i → Each (StandsPlain n key) rest
        by (item.Acceptable b) is = by_answers (ap (tells answers) is)
        by (item.Finished true) is = by_answers (ap (tells answers) is)
        by (item.Finished false) is = plain exchanges rest queues (behind exchanges (ap (tells exchanges) is) exchanged)
        by i is = by_answers (ap (tells answers) is)

-- all that this rests on, which each entry keeps
pub record Stand (configs : List Config) (n : ℕ) (log : List Entry) : Type 0 where
  pub fitting : Each StandsFit (live log)
  pub handshakes : AreHandshakes configs n log
  pub running : Each (StandRuns log) (live log)
  -- none has ended that an entry not made yet names
  pub unended : (k : ℕ) → length log ≤ k → is_ended log n k ≡ false

module _ (configs : List Config) (n : ℕ) where
  pub stand_first : Stand configs n []
  stand_first = record { fitting = subst (Each StandsFit) (sym live-none) tt; handshakes = handshakes_first configs n; running = runs_none; unended = λ k past. is_ended-none n k }

  -- what ends was made
  ends_early : (log : List Entry) (ev : Event) (k : ℕ) → length log ≤ k → ends_connection n k log (effect configs log ev) ≡ false
  ends_early log ev k past = by (ends_connection n k log (effect configs log ev)) refl
    where
      by : (b : Bool) → ends_connection n k log (effect configs log ev) ≡ b → b ≡ false
      by false is = refl
      by true is =
          let made = ends_made configs log ev n k is in
          let none : connections_of log n k ≡ None = connections_of-late log n k past in
          let clash : ◌≡◌ {A = Option Spawned} None (Some made.0) = sym none ∙ made.1 in
          absurd (cc)

  pub stand_more : (log : List Entry) (ev : Event) → Stand configs n log → Stand configs n (log ++ effect configs log ev ∷ [])
  unfolding effect
  stand_more log ev stand =
      let r = row configs log ev.at ev.seed ev.act in
      let shape : Shape configs log ev.act r = row_shape configs log ev.at ev.seed ev.act in
      record {
        fitting = fitting_kept log ev r shape.moves (shape.laws stand.fitting).fitting stand.fitting;
        handshakes = handshakes_more configs n log ev stand.handshakes;
        running = runs_more configs log ev stand.running;
        unended = λ k past.
            let longer : length (log ++ entry_of ev r ∷ []) ≡ length log + 1 = length-append log (entry_of ev r ∷ []) in
            let early : length log ≤ k = omega (arith, past, longer) in
            is_ended-append log (entry_of ev r) n k ∙ (ap (λ b. b || ends_connection n k log (entry_of ev r)) (stand.unended k early) ∙ ends_early log ev k early);
      }

  pub first_grants : (key : Key) (log : List Entry) → Stand configs n log → (h : ℕ) → GrantsFirst n key log h
  first_grants key log stand h x rest first =
      let whole : fits x.queue x.item ≡ true = first_has StandsFit log (queue.Handshake n h) x rest stand.fitting first in (
        subst (λ q. fits q x.item ≡ true) (one_taken log (queue.Handshake n h) x rest first) whole,
        rest_plain n key log h x rest first (stand.handshakes.answered h).one_waits (stand.handshakes.exchanged h).one_waits,
      )
