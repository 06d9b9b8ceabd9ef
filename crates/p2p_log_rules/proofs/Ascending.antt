-- The attempts, the handshakes and the connections of a node stand in the order of their names, each once: a name is the number of the entry that began it.
use Rattle.std.proofs.Common.{◌≡◌, ℕ, suc, ◌<◌, Bool, true, false, cond, List, [], ◌∷◌, ◌++◌, length, refl, ap, sym, subst, ◌∙◌, arith, append-nil, length-append, Option, Some, None, ◌⊎◌, inl, inr}
use Rattle.std.specs.Prelude.{◌==◌, not, filter, flat_map}
use Rattle.std.specs.List.{list_any, AllByRecursion as Each}
use Rattle.std.specs.List.Sorted.{IsStrictlySortedBy}
use Rattle.std.specs.Ordering.{nat_cmp}
use Rattle.std.specs.declared.cmp.Ordering.TheVariants.{Less}
use Rattle.std.proofs.lemmas.Bool.Decides.{nat_tests}
use Rattle.std.proofs.lemmas.List.Concat.{flat_map-append}
use Rattle.std.proofs.lemmas.List.Kept.{IsStrictlySortedBy-filter}
use Rattle.p2p_log.specs.declared.queue.Queue.{Queue}
use Rattle.p2p_log.specs.declared.item.Item.{Item}
use Rattle.p2p_log.specs.declared.item.Item.TheVariants as item
use Rattle.p2p_log.specs.declared.entry.Entry.{Entry}
use Rattle.p2p_log.specs.declared.event.Act.{Act}
use Rattle.p2p_log.specs.declared.event.Act.TheVariants as act
use Rattle.p2p_log.proofs.Each.{Each-append, Each-filter, Each-weaker}
use Rattle.p2p_log_rules.specs.Handshakes.{handshakes_of}
use Rattle.p2p_log_rules.specs.Standing.{if_stands, standing}
use Rattle.p2p_log_rules.specs.Taking.{taken, state_from}
use Rattle.p2p_log_rules.specs.Tellings.{Telling, last_or}
use Rattle.p2p_log_rules.specs.Tellings as telling
use Rattle.p2p_log_rules.specs.Told.{asks_list, answer_tells, ask_tells, spawn_tells, begins_attempt, ends, attempts_in, made_in, is_over, connections_in, tells, told}
use Rattle.p2p_log_rules.proofs.TellingKinds as kind
use Rattle.p2p_log_rules.proofs.Families.{telling_kind, kinds_of, has, are_apart, untold_of}
use Rattle.p2p_log_rules.proofs.Handshakes.{handshakes_now, without_name}
use Rattle.p2p_log_rules.proofs.Ignoring.{by_entries, flat_map-none}
use Rattle.p2p_log_rules.proofs.LinkTells.{tells_act}
use Rattle.p2p_log_rules.proofs.Standing.{started}
use Rattle.p2p_log_rules.proofs.Tellings.{told-append}

-- these ascend, and all are below this
pub record Ascends (m : ℕ) (ks : List ℕ) : Type 0 where
  pub ordered : IsStrictlySortedBy nat_cmp ks
  pub below : Each (λ k. k < m) ks

less : (k m : ℕ) → k < m → nat_cmp k m ≡ Less
less k m h = grind (arith, nat_tests)

-- ---- lists that ascend

ordered_with : (m : ℕ) (ks : List ℕ) → IsStrictlySortedBy nat_cmp ks → Each (λ k. k < m) ks → IsStrictlySortedBy nat_cmp (ks ++ m ∷ [])
unfolding IsStrictlySortedBy
ordered_with m [] h below = (tt, tt)
ordered_with m (k ∷ ks) h below = (Each-append (λ j. nat_cmp k j ≡ Less) ks (m ∷ []) h.0 (less k m below.0, tt), ordered_with m ks h.1 below.1)

ascends_none : (m : ℕ) → Ascends m []
unfolding IsStrictlySortedBy
ascends_none m = record { ordered = tt; below = tt }

ascends_later : (m : ℕ) (ks : List ℕ) → Ascends m ks → Ascends (suc m) ks
ascends_later m ks h = record { ordered = h.ordered; below = Each-weaker (λ k. k < m) (λ k. k < suc m) (λ k lt. omega (arith, lt)) ks h.below }

ascends_with : (m : ℕ) (ks : List ℕ) → Ascends m ks → Ascends (suc m) (ks ++ m ∷ [])
ascends_with m ks h =
    record {
      ordered = ordered_with m ks h.ordered h.below;
      below = Each-append (λ k. k < suc m) ks (m ∷ []) (ascends_later m ks h).below (omega arith, tt);
    }

ascends_filter : (p : ℕ → Bool) (m : ℕ) (ks : List ℕ) → Ascends m ks → Ascends m (filter p ks)
ascends_filter p m ks h = record { ordered = IsStrictlySortedBy-filter nat_cmp p ks h.ordered; below = Each-filter (λ k. k < m) p ks h.below }

-- ---- those that stand are among those that began

module _ (begins : Telling → Option ℕ) (ends : ℕ → Telling → Bool) where
  abbrev begun : List Telling → List ℕ
  begun ts = flat_map (λ t. started (begins t)) ts

  each_standing : (P : ℕ → Type 0) (ts : List Telling) → Each P (begun ts) → Each P (standing begins ends ts)
  unfolding standing
  each_standing P [] h = tt
  each_standing P (t ∷ ts) h = by (begins t) h (λ later. each_standing P ts later)
    where
      by : (o : Option ℕ) → Each P (started o ++ begun ts) → (Each P (begun ts) → Each P (standing begins ends ts)) → Each P (if_stands ends ts o ++ standing begins ends ts)
      by None h then = then h
      by (Some k) h then = lasts (list_any (ends k) ts)
        where
          lasts : (b : Bool) → Each P (cond b [] (k ∷ []) ++ standing begins ends ts)
          lasts true = then h.1
          lasts false = (h.0, then h.1)

  ordered_standing : (ts : List Telling) → IsStrictlySortedBy nat_cmp (begun ts) → IsStrictlySortedBy nat_cmp (standing begins ends ts)
  unfolding standing IsStrictlySortedBy
  ordered_standing [] h = tt
  ordered_standing (t ∷ ts) h = by (begins t) h (λ later. ordered_standing ts later)
    where
      by : (o : Option ℕ) → IsStrictlySortedBy nat_cmp (started o ++ begun ts) → (IsStrictlySortedBy nat_cmp (begun ts) → IsStrictlySortedBy nat_cmp (standing begins ends ts))
          → IsStrictlySortedBy nat_cmp (if_stands ends ts o ++ standing begins ends ts)
      by None h then = then h
      by (Some k) h then = lasts (list_any (ends k) ts)
        where
          lasts : (b : Bool) → IsStrictlySortedBy nat_cmp (cond b [] (k ∷ []) ++ standing begins ends ts)
          lasts true = then h.1
          lasts false = (each_standing (λ j. nat_cmp k j ≡ Less) ts h.0, then h.1)

  ascends_standing : (m : ℕ) (ts : List Telling) → Ascends m (begun ts) → Ascends m (standing begins ends ts)
  ascends_standing m ts h = record { ordered = ordered_standing ts h.ordered; below = each_standing (λ k. k < m) ts h.below }

-- ---- where each entry begins none, or one of its name

abbrev BeginsOne : (Telling → List ℕ) → Type 0
BeginsOne pick = (ts : List Telling) (log : List Entry) (e : Entry) → (flat_map pick (tells ts log e) ≡ []) ⊎ (flat_map pick (tells ts log e) ≡ length log ∷ [])

told-none : told [] ≡ []
unfolding told state_from
told-none = refl

ascends_told : (pick : Telling → List ℕ) → BeginsOne pick → (log : List Entry) → Ascends (length log) (flat_map pick (told log))
ascends_told pick one log = by_entries (λ l. Ascends (length l) (flat_map pick (told l))) first more log
  where
    first : Ascends 0 (flat_map pick (told []))
    first = subst (λ ts. Ascends 0 (flat_map pick ts)) (sym told-none) (ascends_none 0)

    more : (log : List Entry) (e : Entry) → Ascends (length log) (flat_map pick (told log)) → Ascends (length (log ++ e ∷ [])) (flat_map pick (told (log ++ e ∷ [])))
    more log e h =
        let longer : length (log ++ e ∷ []) ≡ suc (length log) = let l = length-append log (e ∷ []) in omega (arith, l) in
        subst (λ m. Ascends m (flat_map pick (told (log ++ e ∷ [])))) (sym longer)
        (subst (λ ts. Ascends (suc (length log)) (flat_map pick ts)) (sym (told-append log e))
        (subst (Ascends (suc (length log))) (sym (flat_map-append pick (told log) (tells (told log) log e))) (by (flat_map pick (tells (told log) log e)) (one (told log) log e))))
      where
        by : (ks : List ℕ) → (ks ≡ []) ⊎ (ks ≡ length log ∷ []) → Ascends (suc (length log)) (flat_map pick (told log) ++ ks)
        by ks (inl none) = subst (λ js. Ascends (suc (length log)) (flat_map pick (told log) ++ js)) (sym none) (subst (Ascends (suc (length log))) (sym (append-nil (flat_map pick (told log)))) (ascends_later (length log) (flat_map pick (told log)) h))
        by ks (inr own) = subst (λ js. Ascends (suc (length log)) (flat_map pick (told log) ++ js)) (sym own) (ascends_with (length log) (flat_map pick (told log)) h)

-- ---- attempts

module _ (n : ℕ) where
  abbrev attempt_started : Telling → List ℕ
  attempt_started t = started (begins_attempt n t)

  abbrev is_attempt_begun : Telling → Bool
  is_attempt_begun (telling.attempt_begun m k key ingress at) = true
  is_attempt_begun _ = false

  no_attempt : (t : Telling) → is_attempt_begun t ≡ false → attempt_started t ≡ []
  no_attempt (telling.attempt_begun m k key ingress at) h = absurd (cc)
  no_attempt _ h = refl

  attempt_reads : (t : Telling) → has (kind.attempt_begun ∷ []) (telling_kind t) ≡ false → is_attempt_begun t ≡ false
  attempt_reads (telling.attempt_begun m k key ingress at) h = absurd (cc)
  attempt_reads _ h = refl

  none_asked : (m at : ℕ) (items : List Item) (puts : List (Queue × Item)) → flat_map attempt_started (ask_tells m at items puts) ≡ []
  none_asked m at [] ((q, item.AskDial k) ∷ puts) = refl
  none_asked m at (i ∷ items) ((q, item.AskDial k) ∷ puts) = refl
  none_asked m at items ((q, item.AskDialable) ∷ puts) = refl
  none_asked m at items _ = refl

  one_answered : (m asked name at seed : ℕ) (items : List Item)
      → (flat_map attempt_started (answer_tells m asked name at seed items) ≡ []) ⊎ (flat_map attempt_started (answer_tells m asked name at seed items) ≡ name ∷ [])
  one_answered m asked name at seed (item.Dialable next peers ∷ items) = inl refl
  one_answered m asked name at seed (item.Dial (Some grant) ∷ items) = by (m == n)
    where
      by : (b : Bool) → (started (cond b (Some name) None) ++ [] ≡ []) ⊎ (started (cond b (Some name) None) ++ [] ≡ name ∷ [])
      by true = inr refl
      by false = inl refl
  one_answered m asked name at seed (i ∷ items) = inl refl
  one_answered m asked name at seed [] = inl refl

  begins_one_attempt : BeginsOne attempt_started
  begins_one_attempt ts log e = by e.event.act refl
    where
      One : List ℕ → Type 0
      One ks = (ks ≡ []) ⊎ (ks ≡ length log ∷ [])

      by : (a : Act) → e.event.act ≡ a → One (flat_map attempt_started (tells ts log e))
      by (act.Dialer m) acts =
          let answers = answer_tells m (last_or 0 (asks_list m) ts) (length log) e.event.at e.event.seed (taken log e) in
          let asks = ask_tells m e.event.at (taken log e) e.puts in
          subst One
          (sym (ap (flat_map attempt_started) (tells_act ts log e (act.Dialer m) acts) ∙ (flat_map-append attempt_started answers asks
          ∙ (ap (λ l. flat_map attempt_started answers ++ l) (none_asked m e.event.at (taken log e) e.puts) ∙ append-nil (flat_map attempt_started answers)))))
          (one_answered m (last_or 0 (asks_list m) ts) (length log) e.event.at e.event.seed (taken log e))
      by a acts =
          inl (flat_map-none is_attempt_begun attempt_started no_attempt (tells ts log e)
          (untold_of is_attempt_begun (kind.attempt_begun ∷ []) attempt_reads ts log e (ap (λ b. are_apart (kinds_of b) (kind.attempt_begun ∷ [])) acts)))

  pub attempts-ascend : (log : List Entry) → Ascends (length log) (attempts_in (told log) n)
  attempts-ascend log = ascends_standing (begins_attempt n) (ends n) (length log) (told log) (ascends_told attempt_started begins_one_attempt log)

-- ---- connections

module _ (n : ℕ) where
  abbrev is_made : Telling → Bool
  is_made (telling.connection_made m conn key link) = true
  is_made _ = false

  none_made : (t : Telling) → is_made t ≡ false → made_in n t ≡ []
  none_made (telling.connection_made m conn key link) h = absurd (cc)
  none_made _ h = refl

  made_reads : (t : Telling) → has (kind.connection_made ∷ []) (telling_kind t) ≡ false → is_made t ≡ false
  made_reads (telling.connection_made m conn key link) h = absurd (cc)
  made_reads _ h = refl

  one_spawned : (m name : ℕ) (items : List Item) → (flat_map (made_in n) (spawn_tells m name items) ≡ []) ⊎ (flat_map (made_in n) (spawn_tells m name items) ≡ name ∷ [])
  one_spawned m name (item.Spawn key link ∷ items) = by (m == n)
    where
      by : (b : Bool) → (cond b (name ∷ []) [] ++ [] ≡ []) ⊎ (cond b (name ∷ []) [] ++ [] ≡ name ∷ [])
      by true = inr refl
      by false = inl refl
  one_spawned m name _ = inl refl

  makes_one : BeginsOne (made_in n)
  makes_one ts log e = by e.event.act refl
    where
      One : List ℕ → Type 0
      One ks = (ks ≡ []) ⊎ (ks ≡ length log ∷ [])

      by : (a : Act) → e.event.act ≡ a → One (flat_map (made_in n) (tells ts log e))
      by (act.Spawner m) acts = subst One (sym (ap (flat_map (made_in n)) (tells_act ts log e (act.Spawner m) acts))) (one_spawned m (length log) (taken log e))
      by a acts =
          inl (flat_map-none is_made (made_in n) none_made (tells ts log e) (untold_of is_made (kind.connection_made ∷ []) made_reads ts log e (ap (λ b. are_apart (kinds_of b) (kind.connection_made ∷ [])) acts)))

  pub connections-ascend : (log : List Entry) → Ascends (length log) (connections_in (told log) n)
  connections-ascend log = ascends_filter (λ conn. not (list_any (is_over n conn) (told log))) (length log) (flat_map (made_in n) (told log)) (ascends_told (made_in n) makes_one log)

  -- ---- handshakes

  handshakes-none : handshakes_of [] n ≡ []
  unfolding handshakes_of told standing state_from
  handshakes-none = refl

  pub handshakes-ascend : (log : List Entry) → Ascends (length log) (handshakes_of log n)
  handshakes-ascend log = by_entries (λ l. Ascends (length l) (handshakes_of l n)) first more log
    where
      first : Ascends 0 (handshakes_of [] n)
      first = subst (Ascends 0) (sym handshakes-none) (ascends_none 0)

      more : (log : List Entry) (e : Entry) → Ascends (length log) (handshakes_of log n) → Ascends (length (log ++ e ∷ [])) (handshakes_of (log ++ e ∷ []) n)
      more log e h =
          let longer : length (log ++ e ∷ []) ≡ suc (length log) = let l = length-append log (e ∷ []) in omega (arith, l) in
          subst (λ m. Ascends m (handshakes_of (log ++ e ∷ []) n)) (sym longer)
          (elim (handshakes_now log e n) [
            | inl same ↦ subst (Ascends (suc (length log))) (sym same) (ascends_later (length log) (handshakes_of log n) h)
            | inr (inl b) ↦ subst (Ascends (suc (length log))) (sym b.now) (ascends_with (length log) (handshakes_of log n) h)
            | inr (inr (inl e)) ↦ subst (Ascends (suc (length log))) (sym e.now) (ascends_later (length log) (without_name e.name (handshakes_of log n)) (ascends_filter (λ k. not (k == e.name)) (length log) (handshakes_of log n) h))
            | inr (inr (inr s)) ↦ subst (Ascends (suc (length log))) (sym s.now) (ascends_none (suc (length log)))
          ])
