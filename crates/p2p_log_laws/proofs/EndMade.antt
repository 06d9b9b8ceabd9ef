-- Each connection is made by the entry of its name, a step of its node's spawner, and stays what it was made; and what holds of a beginning
-- of a log, and is kept by each entry, holds of the longer ones.
use Rattle.std.proofs.Common.{◌≡◌, ℕ, suc, zero, ◌+◌, ◌<◌, ◌≤◌, Bool, true, false, cond, List, [], ◌∷◌, ◌++◌, length, take, drop, Option, Some, None, ◌⊎◌, inl, inr, refl, ap, sym, subst, ◌∙◌, arith, append-nil, length-append, take-append-drop, eqb-true}
use Rattle.std.specs.Prelude.{◌==◌, nat_le, slice_get}
use Rattle.std.proofs.lemmas.Bool.{cases_lt, false≢true}
use Rattle.std.proofs.lemmas.Bool.Decides.{nat_tests}
use Rattle.std.proofs.lemmas.List.{length-take, length-take-le, take_all, take-append-le}
use Rattle.std.proofs.lemmas.Option.{same_Some, slice_get_past}
use Rattle.p2p_log.specs.declared.config.Config.{Config}
use Rattle.p2p_log.specs.declared.queue.Queue.TheVariants as queue
use Rattle.p2p_log.specs.declared.item.Item.{Item}
use Rattle.p2p_log.specs.declared.item.Item.TheVariants as item
use Rattle.p2p_log.specs.declared.item.Envelope.{Envelope}
use Rattle.p2p_log.specs.declared.entry.Entry.{Entry}
use Rattle.p2p_log.specs.declared.entry.Reply.TheVariants as reply
use Rattle.p2p_log.specs.declared.event.Event.{Event}
use Rattle.p2p_log.specs.declared.event.Act.{Act}
use Rattle.p2p_log.specs.declared.event.Act.TheVariants as act
use Rattle.p2p_log.specs.Lines.{name_of, line}
use Rattle.p2p_log.proofs.Places.{slice_get-seam}
use Rattle.p2p_log.proofs.Sending.{get_longer}
use Rattle.p2p_log_rules.specs.declared.row.Row.{Row}
use Rattle.p2p_log_rules.specs.Connections.{is_ended}
use Rattle.p2p_log_rules.specs.Effect.{effect, row, entry_of}
use Rattle.p2p_log_rules.specs.Facts.{is_up, item_named, taken, with_begun}
use Rattle.p2p_log_rules.specs.Lawful.{IsLawful}
use Rattle.p2p_log_rules.specs.Rows.{only, takes_oldest}
use Rattle.p2p_log_rules.specs.Spawning.{Spawned, spawned_of, connections_of}
use Rattle.p2p_log_rules.proofs.Connections.{is_ended-kept, ends_untold}
use Rattle.p2p_log_rules.proofs.Lawful.{IsLawful-nil, IsLawful-append}
use Rattle.p2p_log_rules.proofs.Recorded.{item_named-first}
use Rattle.p2p_log_rules.proofs.Spawning.{connections_of-acted, connections_of-late, connections_of-longer}
use Rattle.p2p_log_laws.proofs.Living.{unended_late}
use Rattle.p2p_log_laws.proofs.Prefixes.{take_next, take_no_more, entry_due, at_end, lawful_at_each}
use Rattle.p2p_log_rules.proofs.Steps.{steps_spawner}

-- ---- beginnings of a log

pub take_short : {X : Type 0} (i : ℕ) (xs : List X) → length (take i xs) ≤ i
take_short i xs = let is = length-take i xs in omega (arith, is)

pub take_whole : {X : Type 0} (xs : List X) → take (length xs) xs ≡ xs
take_whole xs = take_all (length xs) xs (omega arith)

-- a place in a list comes before its end
pub in_list : {X : Type 0} (xs : List X) (i : ℕ) (x : X) → slice_get xs i ≡ Some x → suc i ≤ length xs
in_list xs i x at = by (nat_le (length xs) i) refl
  where
    late : (m n : ℕ) → nat_le m n ≡ true → m ≤ n
    late m n h = grind (arith, nat_tests)

    early : (m n : ℕ) → nat_le m n ≡ false → suc n ≤ m
    early m n h = grind (arith, nat_tests)

    by : (b : Bool) → nat_le (length xs) i ≡ b → suc i ≤ length xs
    by true is = absurd (let none : slice_get xs i ≡ None = slice_get_past xs i (late (length xs) i is) in cc)
    by false is = early (length xs) i is

module _ (configs : List Config) (script : List Event) (log : List Entry) (lawful : IsLawful configs script log) where
  -- each is lawful
  pub lawful_before : (i : ℕ) → (events : List Event) × IsLawful configs events (take i log)
  lawful_before i =
      lawful_at_each configs (λ l. (events : List Event) × IsLawful configs events l) ([], IsLawful-nil configs)
      (λ events before ev due h. (events ++ ev ∷ [], IsLawful-append configs events before ev due)) script log lawful i

  module _ (P : List Entry → Type 0) (step : (before : List Entry) (ev : Event) → P before → P (before ++ effect configs before ev ∷ [])) where
    one_on : (i : ℕ) (o : Option Entry) → slice_get log i ≡ o → P (take i log) → P (take (suc i) log)
    one_on i None at p = subst P (sym (take_no_more log i at)) p
    one_on i (Some e) at p =
        let due = entry_due configs script log lawful i e at in
        subst P (sym (take_next log i e at ∙ ap (λ d. take i log ++ d ∷ []) due.1)) (step (take i log) due.0 p)

    -- what each entry keeps holds of the longer ones
    pub holds_on : (i j : ℕ) → i ≤ j → P (take i log) → P (take j log)
    holds_on i zero le p = subst (λ k. P (take k log)) (none i le) p
      where
        none : (i : ℕ) → i ≤ 0 → i ≡ 0
        none i le = omega (arith, le)
    holds_on i (suc j) le p = elim (cases_lt j i) [
      | inl past ↦ subst (λ k. P (take k log)) (last i j le past) p
      | inr before ↦ one_on j (slice_get log j) refl (holds_on i j before p)
    ]
      where
        last : (i j : ℕ) → i ≤ suc j → j < i → i ≡ suc j
        last i j le past = omega (arith, le, past)

-- ---- how a connection is made

-- it was made before, or is made by this entry of what was taken
made_now : (b : Bool) (o : Option Spawned) (m : ℕ) (f : ℕ → Option Spawned) (k : ℕ) (c : Spawned) → cond b (with_begun o m f k) (f k) ≡ Some c
    → (f k ≡ Some c) ⊎ ((b ≡ true) × (o ≡ Some c) × (k ≡ m))
made_now false o m f k c is = inl is
made_now true None m f k c is = inl is
made_now true (Some d) m f k c is = by (k == m) refl is
  where
    by : (b : Bool) → (k == m) ≡ b → cond b (Some d) (f k) ≡ Some c → (f k ≡ Some c) ⊎ ((true ≡ true) × (Some d ≡ Some c) × (k ≡ m))
    by true at so = inr (refl, so, eqb-true k m at)
    by false at so = inl so

pub is_spawner : (n : ℕ) (a : Act) → steps_spawner n a ≡ true → a ≡ act.Spawner n
is_spawner n (act.Spawner m) steps = ap act.Spawner (eqb-true m n steps)
is_spawner n _ steps = absurd (false≢true steps)

-- the entry of its name took, as the oldest of its node's spawner, word that it was to be made
pub record IsMadeOf (log : List Entry) (n conn : ℕ) (c : Spawned) : Type 0 where
  pub entry : Entry
  pub at : slice_get log conn ≡ Some entry
  pub acts : entry.event.act ≡ act.Spawner n
  pub from : Envelope
  pub rest : List Envelope
  pub first : line (take conn log) (queue.Spawner n) ≡ from ∷ rest
  pub takes : entry.takes ≡ name_of from ∷ []
  pub is : from.item ≡ item.Spawn c.key c.link

made_longer : (log more : List Entry) (n conn : ℕ) (c : Spawned) → IsMadeOf log n conn c → IsMadeOf (log ++ more) n conn c
made_longer log more n conn c m = record {
  entry = m.entry;
  at = get_longer log more conn m.entry m.at;
  acts = m.acts;
  from = m.from;
  rest = m.rest;
  first =
      ap (λ l. line l (queue.Spawner n)) (take-append-le conn log more (early conn (length log) (in_list log conn m.entry m.at)))
      ∙ m.first;
  takes = m.takes;
  is = m.is;
}
  where
    early : (i j : ℕ) → suc i ≤ j → i ≤ j
    early i j h = omega (arith, h)

module _ (log : List Entry) (ev : Event) (n : ℕ) (c : Spawned) where
  -- what a step of a spawner took, where it made a connection
  abbrev IsTaken : Row → Type 0
  IsTaken r = (x : Envelope) × (rest : List Envelope) × (line log (queue.Spawner n) ≡ x ∷ rest) × (r.takes ≡ name_of x ∷ []) × (x.item ≡ item.Spawn c.key c.link)

  spawned_item : (i : Item) → spawned_of (i ∷ []) ≡ Some c → i ≡ item.Spawn c.key c.link
  spawned_item (item.Spawn key link) is = ap (λ (d : Spawned). item.Spawn d.key d.link) (same_Some (record { key = key; link = link }) c is)
  spawned_item _ is = absurd (cc)

  oldest_taken : (xs : List Envelope) → line log (queue.Spawner n) ≡ xs → spawned_of (taken log (entry_of ev (takes_oldest xs))) ≡ Some c → IsTaken (takes_oldest xs)
  unfolding taken
  oldest_taken [] first is = absurd (cc)
  oldest_taken (x ∷ rest) first is =
      let items : item_named log (name_of x) ++ [] ≡ x.item ∷ [] = append-nil (item_named log (name_of x)) ∙ item_named-first log (queue.Spawner n) x rest first in
      (x, rest, first, refl, spawned_item x.item (ap spawned_of (sym items) ∙ is))

  spawner_taken : (b : Bool) → spawned_of (taken log (entry_of ev (cond b (takes_oldest (line log (queue.Spawner n))) (only reply.Gone)))) ≡ Some c
      → IsTaken (cond b (takes_oldest (line log (queue.Spawner n))) (only reply.Gone))
  unfolding taken
  spawner_taken true is = oldest_taken (line log (queue.Spawner n)) refl is
  spawner_taken false is = absurd (cc)

  acted_taken : (configs : List Config) → steps_spawner n ev.act ≡ true → spawned_of (taken log (effect configs log ev)) ≡ Some c → IsTaken (row configs log ev.at ev.seed ev.act)
  unfolding effect row
  acted_taken configs steps = subst (λ a. spawned_of (taken log (entry_of ev (row configs log ev.at ev.seed a))) ≡ Some c → IsTaken (row configs log ev.at ev.seed a)) (sym (is_spawner n ev.act steps)) (spawner_taken (is_up log n))

module _ (configs : List Config) where
  abbrev AreMadeOf : List Entry → Type 0
  AreMadeOf log = (n conn : ℕ) (c : Spawned) → connections_of log n conn ≡ Some c → IsMadeOf log n conn c

  made_first : AreMadeOf []
  made_first n conn c is = absurd (let none : connections_of [] n conn ≡ None = connections_of-late [] n conn (omega arith) in cc)

  made_more : (log : List Entry) (ev : Event) → AreMadeOf log → AreMadeOf (log ++ effect configs log ev ∷ [])
  unfolding effect
  made_more log ev old n conn c is =
      let e : Entry = effect configs log ev in
      let steps : Bool = steps_spawner n ev.act in
      elim (made_now steps (spawned_of (taken log e)) (length log) (connections_of log n) conn c (sym (connections_of-acted log e n steps refl conn) ∙ is)) [
        | inl before ↦ made_longer log (e ∷ []) n conn c (old n conn c before)
        | inr now ↦
            let t = acted_taken log ev n c configs now.0 now.1 in
            subst (λ k. IsMadeOf (log ++ e ∷ []) n k c) (sym now.2)
            (record {
              entry = e;
              at = slice_get-seam log e [];
              acts = is_spawner n ev.act now.0;
              from = t.0;
              rest = t.1;
              first = ap (λ l. line l (queue.Spawner n)) (take-append-le (length log) log (e ∷ []) (omega arith) ∙ take_whole log) ∙ t.2;
              takes = t.3;
              is = t.4;
            })
      ]

module _ (configs : List Config) (script : List Event) (log : List Entry) (lawful : IsLawful configs script log) (n : ℕ) where
  pub made_of : (conn : ℕ) (c : Spawned) → connections_of log n conn ≡ Some c → IsMadeOf log n conn c
  made_of = at_end configs (AreMadeOf configs) (made_first configs) (made_more configs) script log lawful n

  -- ---- it is there from then on

  abbrev NotMade : ℕ → List Entry → Type 0
  NotMade conn l = (suc conn ≤ length l) × (connections_of l n conn ≡ None)

  -- none is made of an earlier name
  unmade_on : (conn : ℕ) (l : List Entry) (ev : Event) → NotMade conn l → NotMade conn (l ++ effect configs l ev ∷ [])
  unmade_on conn l ev (early, none) = (longer early (length-append l (effect configs l ev ∷ [])), by (connections_of (l ++ effect configs l ev ∷ []) n conn) refl)
    where
      longer : suc conn ≤ length l → length (l ++ effect configs l ev ∷ []) ≡ length l + 1 → suc conn ≤ length (l ++ effect configs l ev ∷ [])
      longer le is = omega (arith, le, is)

      past : (k : ℕ) → suc conn ≤ k → conn ≡ k → ⊥
      past k le is = omega (arith, le, is)

      by : (o : Option Spawned) → connections_of (l ++ effect configs l ev ∷ []) n conn ≡ o → o ≡ None
      by None is = refl
      by (Some c) is =
          let e : Entry = effect configs l ev in
          let steps : Bool = steps_spawner n e.event.act in
          elim (made_now steps (spawned_of (taken l e)) (length l) (connections_of l n) conn c (sym (connections_of-acted l e n steps refl conn) ∙ is)) [
            | inl before ↦ absurd (cc)
            | inr now ↦ absurd (past (length l) early now.2)
          ]

  -- it is one of each longer beginning
  pub made_before : (conn : ℕ) (c : Spawned) → connections_of log n conn ≡ Some c → (i : ℕ) → conn < i → connections_of (take i log) n conn ≡ Some c
  made_before conn c made i past = by (connections_of (take i log) n conn) refl
    where
      by : (o : Option Spawned) → connections_of (take i log) n conn ≡ o → connections_of (take i log) n conn ≡ Some c
      by (Some d) is =
          let longer : connections_of log n conn ≡ Some d = subst (λ l. connections_of l n conn ≡ Some d) (take-append-drop i log) (connections_of-longer (take i log) (drop i log) n conn d is) in
          let same : d ≡ c = same_Some d c (sym longer ∙ made) in
          is ∙ ap (λ k. Some k) same
      by None is = elim (cases_lt i (length log)) [
        | inl within ↦
            let long : length (take i log) ≡ i = length-take-le i log (omega (arith, within)) in
            let early : suc conn ≤ length (take i log) = omega (arith, long, past) in
            let none = holds_on configs script log lawful (NotMade conn) (unmade_on conn) i (length log) (omega (arith, within)) (early, is) in
            absurd (let never : connections_of log n conn ≡ None = subst (λ l. connections_of l n conn ≡ None) (take_whole log) none.1 in cc)
        | inr over ↦ absurd (let never : connections_of log n conn ≡ None = subst (λ l. connections_of l n conn ≡ None) (take_all i log over) is in cc)
      ]

  -- and has not ended then
  pub unended_first : (conn : ℕ) (c : Spawned) → connections_of log n conn ≡ Some c → is_ended (take (suc conn) log) n conn ≡ false
  unended_first conn c made =
      let m = made_of conn c made in
      let before = lawful_before configs script log lawful conn in
      ap (λ l. is_ended l n conn) (take_next log conn m.entry m.at)
      ∙ (is_ended-kept (take conn log) m.entry n conn (ends_untold (take conn log) m.entry n conn (act.Spawner n) m.acts refl)
      ∙ unended_late configs before.0 (take conn log) before.1 n conn (take_short conn log))
