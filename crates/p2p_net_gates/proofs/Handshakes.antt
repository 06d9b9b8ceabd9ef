-- The handshakes that a node's listener keeps, after one more entry.
use Rattle.std.proofs.Common.{◌≡◌, ℕ, suc, ◌+◌, ◌≤◌, Bool, true, false, cond, List, [], ◌∷◌, ◌++◌, length, length-append, refl, ap, sym, subst, ◌∙◌, arith, eqb-true, Option, Some, None}
use Rattle.std.specs.Prelude.{◌==◌, ◌&&◌, ◌||◌, not}
use Rattle.std.specs.BTreeMap.{insert_entry}
use Rattle.std.specs.List.{list_any}
use Rattle.std.specs.Ordering.{nat_cmp}
use Rattle.std.specs.Option.{option_map}
use Rattle.std.proofs.lemmas.Bool.Decides.{nat_tests}
use Rattle.std.proofs.lemmas.List.Folds.{list_any-append}
use Rattle.p2p_log_rules.proofs.Bools.{or_false, or_true}
use Rattle.p2p_base.specs.declared.key.Key.{Key}
use Rattle.p2p_gates.specs.Handshaking.{Handshaking}
use Rattle.p2p_log.specs.declared.config.Config.{Config}
use Rattle.p2p_log.specs.declared.item.Item.{Item}
use Rattle.p2p_log.specs.declared.entry.Entry.{Entry}
use Rattle.p2p_log.specs.declared.event.Act.TheVariants as act
use Rattle.p2p_log_rules.specs.Attempting.{dial_rules_at}
use Rattle.p2p_log_rules.specs.Facts.{taken}
use Rattle.p2p_log_rules.specs.Handshakes.{Handshake, handshake_at, handshakes_of, is_handshaking, takes_acceptance, takes_exchange, has_taken, is_accepted, is_finished}
use Rattle.p2p_log_rules.specs.Handshaking.{handshake_deadline}
use Rattle.p2p_log_rules.proofs.HandshakeBegun.{handshake_at-kept}
use Rattle.p2p_log_rules.proofs.Handshakes.{without_name, among-without, handshaking_early}
use Rattle.p2p_log_rules.proofs.HandshakeTook.{IsOther, has_taken-step, has_taken-other, has_taken-unsuch}
use Rattle.p2p_net_queues.specs.Tables as table
use Rattle.p2p_net_queues.specs.Tables.{AreBut}
use Rattle.p2p_net_queues.proofs.Tables.{at-inserted}
use Rattle.p2p_net_gates.specs.ListenerStands.{HandshakeFacts, facts_of, IsRunning, HandshakeIs, IsUntold, TellsNothing}

-- ---- its deadline

-- the deadline of a handshake, by what began it
abbrev deadline_by : List Config → ℕ → Option Handshake → Option ℕ
deadline_by configs n o = option_map (λ (h : Handshake). h.at + (dial_rules_at configs n).handshake_timeout) o

-- ---- what it is told

-- no step of it tells it nothing
pub other_tells : (log : List Entry) (e : Entry) (n k : ℕ) → IsOther n k e.event.act → TellsNothing log e n k
other_tells log e n k other = (has_taken-other takes_acceptance log e n k other, has_taken-other takes_exchange log e n k other)

-- and so does an entry that takes nothing
pub nothing_tells : (log : List Entry) (e : Entry) (n k : ℕ) → taken log e ≡ [] → TellsNothing log e n k
nothing_tells log e n k none = (has_taken-unsuch takes_acceptance log e n k (ap takes_acceptance none), has_taken-unsuch takes_exchange log e n k (ap takes_exchange none))

-- what has yet to begin was told nothing
pub untold_kept : (log : List Entry) (e : Entry) (n : ℕ) → ((k : ℕ) → length log + 1 ≤ k → TellsNothing log e n k) → ((k : ℕ) → length log ≤ k → IsUntold log n k)
    → (k : ℕ) → length (log ++ e ∷ []) ≤ k → IsUntold (log ++ e ∷ []) n k
untold_kept log e n tells untold k late =
    let past : length log + 1 ≤ k = subst (λ m. m ≤ k) (length-append log (e ∷ [])) late in
    let t = tells k past in
    let u = untold k (less (length log) k past) in
    (t.0 ∙ u.0, t.1 ∙ u.1)
  where
    less : (a b : ℕ) → a + 1 ≤ b → a ≤ b
    less a b h = omega (arith, h)

-- ---- what the log tells of it

abbrev facts : Option ℕ → Bool → Bool → Option Handshake → HandshakeFacts
facts until accepted finished began = record { until = until; accepted = accepted; finished = finished; began = began }

facts_same : (u v : Option ℕ) (a b f g : Bool) (s t : Option Handshake) → u ≡ v → a ≡ b → f ≡ g → s ≡ t → facts u a f s ≡ facts v b g t
facts_same u v a b f g s t p q r w = ap (λ x. facts x a f s) p ∙ (ap (λ x. facts v x f s) q ∙ (ap (λ x. facts v b x s) r ∙ ap (λ x. facts v b g x) w))

-- once a step of it took these
abbrev pub facts_after : List Item → HandshakeFacts → HandshakeFacts
facts_after items f = record { until = f.until; accepted = takes_acceptance items || f.accepted; finished = takes_exchange items || f.finished; began = f.began }

-- of one that begins so
abbrev pub facts_begun : List Config → ℕ → Handshake → HandshakeFacts
facts_begun configs n h = record { until = Some (h.at + (dial_rules_at configs n).handshake_timeout); accepted = false; finished = false; began = Some h }

module _ (configs : List Config) (log : List Entry) (e : Entry) (n : ℕ) where
  -- of one that has begun, where the entry tells it nothing
  pub facts-kept : (k : ℕ) → suc k ≤ length log → TellsNothing log e n k → facts_of configs (log ++ e ∷ []) n k ≡ facts_of configs log n k
  facts-kept k early tells =
      facts_same (handshake_deadline configs (log ++ e ∷ []) k n) (handshake_deadline configs log k n) (is_accepted (log ++ e ∷ []) n k) (is_accepted log n k) (is_finished (log ++ e ∷ []) n k)
      (is_finished log n k) (handshake_at (log ++ e ∷ []) k) (handshake_at log k) (ap (deadline_by configs n) (handshake_at-kept log e k early)) tells.0 tells.1 (handshake_at-kept log e k early)

  -- and where it is a step of it
  pub facts-stepped : (k : ℕ) (items : List Item) → suc k ≤ length log → e.event.act ≡ act.Handshake k n → taken log e ≡ items
      → facts_of configs (log ++ e ∷ []) n k ≡ facts_after items (facts_of configs log n k)
  facts-stepped k items early steps took =
      facts_same (handshake_deadline configs (log ++ e ∷ []) k n) (handshake_deadline configs log k n) (is_accepted (log ++ e ∷ []) n k) (takes_acceptance items || is_accepted log n k)
      (is_finished (log ++ e ∷ []) n k) (takes_exchange items || is_finished log n k) (handshake_at (log ++ e ∷ []) k) (handshake_at log k)
      (ap (deadline_by configs n) (handshake_at-kept log e k early)) (told takes_acceptance) (told takes_exchange) (handshake_at-kept log e k early)
    where
      told : (test : List Item → Bool) → has_taken test (log ++ e ∷ []) n k ≡ (test items || has_taken test log n k)
      told test = has_taken-step test log e n k steps ∙ ap (λ i. test i || has_taken test log n k) took

  -- of one that begins in the entry
  pub facts-begun : (h : Handshake) → handshake_at (log ++ e ∷ []) (length log) ≡ Some h → TellsNothing log e n (length log) → IsUntold log n (length log)
      → facts_of configs (log ++ e ∷ []) n (length log) ≡ facts_begun configs n h
  facts-begun h began tells untold =
      let k = length log in
      facts_same (handshake_deadline configs (log ++ e ∷ []) k n) (Some (h.at + (dial_rules_at configs n).handshake_timeout)) (is_accepted (log ++ e ∷ []) n k) false (is_finished (log ++ e ∷ []) n k) false
      (handshake_at (log ++ e ∷ []) k) (Some h) (ap (deadline_by configs n) began) (tells.0 ∙ untold.0) (tells.1 ∙ untold.1) began

-- ---- all of them

-- of one that runs, the same where the log tells the same
pub by_facts : (f g : HandshakeFacts) (k : ℕ) (b : Bool) (o : Option (Handshaking Key)) → (b ≡ true → f ≡ g) → HandshakeIs f k b o → HandshakeIs g k b o
by_facts f g k b None same h = h
by_facts f g k b (Some s) same h = (h.0, subst (λ t. IsRunning t k s) (same h.0) h.1)

module _ (configs : List Config) (log : List Entry) (e : Entry) (n : ℕ) where
  -- what is kept stands for what the log tells
  abbrev pub AreKept : List Entry → List (ℕ × Handshaking Key) → Type 0
  AreKept es hs = (k : ℕ) → HandshakeIs (facts_of configs es n k) k (is_handshaking es n k) (table.at hs k)

  -- one of which the entry changes nothing
  one_kept : (hs : List (ℕ × Handshaking Key)) (k : ℕ) → is_handshaking (log ++ e ∷ []) n k ≡ is_handshaking log n k → TellsNothing log e n k
      → HandshakeIs (facts_of configs log n k) k (is_handshaking log n k) (table.at hs k)
      → HandshakeIs (facts_of configs (log ++ e ∷ []) n k) k (is_handshaking (log ++ e ∷ []) n k) (table.at hs k)
  one_kept hs k same tells h =
      subst (λ b. HandshakeIs (facts_of configs (log ++ e ∷ []) n k) k b (table.at hs k)) (sym same)
      (by_facts (facts_of configs log n k) (facts_of configs (log ++ e ∷ []) n k) k (is_handshaking log n k) (table.at hs k)
      (λ runs. sym (facts-kept configs log e n k (handshaking_early log n k runs) tells)) h)

  -- an entry that begins and ends none, and tells none anything
  pub handshakes_kept : (hs : List (ℕ × Handshaking Key)) → handshakes_of (log ++ e ∷ []) n ≡ handshakes_of log n → ((k : ℕ) → TellsNothing log e n k) → AreKept log hs
      → AreKept (log ++ e ∷ []) hs
  handshakes_kept hs none tells kept k = one_kept hs k (ap (list_any (λ j. k == j)) none) (tells k) (kept k)

  -- an entry that changes the one of this name, which is this then
  pub handshakes_changed : (name : ℕ) (now : Option (Handshaking Key)) (old new : List (ℕ × Handshaking Key)) → ((k : ℕ) → (k == name) ≡ false → is_handshaking (log ++ e ∷ []) n k ≡ is_handshaking log n k)
      → ((k : ℕ) → (k == name) ≡ false → TellsNothing log e n k) → AreBut name now old new → HandshakeIs (facts_of configs (log ++ e ∷ []) n name) name (is_handshaking (log ++ e ∷ []) n name) now
      → AreKept log old → AreKept (log ++ e ∷ []) new
  handshakes_changed name now old new others tells but stands kept k =
      subst (HandshakeIs (facts_of configs (log ++ e ∷ []) n k) k (is_handshaking (log ++ e ∷ []) n k)) (sym (but k)) (by (k == name) refl)
    where
      by : (b : Bool) → (k == name) ≡ b → HandshakeIs (facts_of configs (log ++ e ∷ []) n k) k (is_handshaking (log ++ e ∷ []) n k) (cond b now (table.at old k))
      by true is = subst (λ j. HandshakeIs (facts_of configs (log ++ e ∷ []) n j) j (is_handshaking (log ++ e ∷ []) n j) now) (sym (eqb-true k name is)) stands
      by false is = one_kept old k (others k is) (tells k is) (kept k)

  -- the entry begins one: whether one of this name runs then
  handshaking-begun : handshakes_of (log ++ e ∷ []) n ≡ handshakes_of log n ++ length log ∷ [] → (k : ℕ) → is_handshaking (log ++ e ∷ []) n k ≡ (is_handshaking log n k || ((k == length log) || false))
  handshaking-begun begins k = ap (list_any (λ j. k == j)) begins ∙ list_any-append (λ j. k == j) (handshakes_of log n) (length log ∷ [])

  pub handshakes_begun : (hs : List (ℕ × Handshaking Key)) (h : Handshaking Key) (began : Handshake) → handshakes_of (log ++ e ∷ []) n ≡ handshakes_of log n ++ length log ∷ []
      → handshake_at (log ++ e ∷ []) (length log) ≡ Some began → ((k : ℕ) → TellsNothing log e n k) → IsUntold log n (length log) → IsRunning (facts_begun configs n began) (length log) h → AreKept log hs
      → AreKept (log ++ e ∷ []) (insert_entry nat_cmp hs (length log) h)
  handshakes_begun hs h began begins begun tells untold running kept =
      let k = length log in
      handshakes_changed k (Some h) hs (insert_entry nat_cmp hs k h) (λ j other. handshaking-begun begins j ∙ (ap (λ b. is_handshaking log n j || (b || false)) other ∙ or_false (is_handshaking log n j)))
      (λ j other. tells j) (λ j. at-inserted k j h hs)
      (handshaking-begun begins k ∙ (ap (λ b. is_handshaking log n k || (b || false)) (here k) ∙ or_true (is_handshaking log n k)), subst (λ f. IsRunning f k h) (sym (facts-begun configs log e n began begun (tells k) untold)) running) kept
    where
      here : (a : ℕ) → (a == a) ≡ true
      here a = grind (arith, nat_tests)

  -- the entry may end the one of this name
  module _ (name : ℕ) (ended : Bool) (ends : handshakes_of (log ++ e ∷ []) n ≡ cond ended (without_name name (handshakes_of log n)) (handshakes_of log n)) where
    pub handshaking-others : (k : ℕ) → (k == name) ≡ false → is_handshaking (log ++ e ∷ []) n k ≡ is_handshaking log n k
    handshaking-others k other = ap (list_any (λ j. k == j)) ends ∙ by ended
      where
        by : (b : Bool) → list_any (λ j. k == j) (cond b (without_name name (handshakes_of log n)) (handshakes_of log n)) ≡ is_handshaking log n k
        by true = among-without name k (handshakes_of log n) ∙ ap (λ b. not b && is_handshaking log n k) other
        by false = refl

    pub handshaking-itself : is_handshaking log n name ≡ true → is_handshaking (log ++ e ∷ []) n name ≡ not ended
    handshaking-itself runs = ap (list_any (λ j. name == j)) ends ∙ by ended
      where
        here : (a : ℕ) → (a == a) ≡ true
        here a = grind (arith, nat_tests)

        by : (b : Bool) → list_any (λ j. name == j) (cond b (without_name name (handshakes_of log n)) (handshakes_of log n)) ≡ not b
        by true = among-without name name (handshakes_of log n) ∙ ap (λ b. not b && is_handshaking log n name) (here name)
        by false = runs
