-- The connections of a node's spawner after one more entry.
use Rattle.std.proofs.Common.{◌≡◌, ℕ, suc, ◌≤◌, Bool, true, false, cond, List, [], ◌∷◌, ◌++◌, length, refl, ap, sym, ◌∙◌, arith, append_assoc, append-nil, Option, Some, None}
use Rattle.std.specs.Prelude.{◌==◌, ◌&&◌, is_some, unwrap_or}
use Rattle.std.proofs.lemmas.Bool.Decides.{nat_tests}
use Rattle.p2p_log.specs.declared.item.Item.{Item}
use Rattle.p2p_log.specs.declared.entry.Entry.{Entry}
use Rattle.p2p_log.specs.declared.event.Act.{Act}
use Rattle.p2p_log.specs.declared.event.Act.TheVariants as act
use Rattle.p2p_log_rules.specs.Facts.{taken, with_begun}
use Rattle.p2p_log_rules.specs.Halves.{makes_connection, connection_in}
use Rattle.p2p_log_rules.specs.Spawning.{Spawned, spawned_of, connections_of}
use Rattle.p2p_log_rules.specs.Tellings.{Telling, last_or}
use Rattle.p2p_log_rules.specs.Tellings as telling
use Rattle.p2p_log_rules.specs.Told.{spawn_tells, act_tells, tells, told}
use Rattle.p2p_log_rules.proofs.TellingKinds as kind
use Rattle.p2p_log_rules.proofs.Families.{telling_kind, kinds_of, has, are_apart, untold_of}
use Rattle.p2p_log_rules.proofs.Tellings.{late_told, or_left, or_right, told-append, last_or-append}
use Rattle.p2p_log.specs.declared.item.Item.TheVariants as item
use Rattle.std.specs.List.{list_any}
use Rattle.p2p_log_rules.proofs.Named.{either_none, begun_none}
use Rattle.p2p_log_rules.proofs.Steps.{steps_spawner}

-- after an act of this name, which took these
abbrev pub acted_connections : ℕ → ℕ → List Item → Act → (ℕ → Option Spawned) → ℕ → Option Spawned
acted_connections n name items (act.Spawner m) connections k = cond (m == n) (with_begun (spawned_of items) name connections k) (connections k)
acted_connections n name items _ connections k = connections k

module _ (n k : ℕ) where
  makes_one : Telling → Bool
  makes_one t = is_some (makes_connection n k t)

  none_made : (ts : List Telling) (o : Option Spawned) → list_any makes_one ts ≡ false → last_or o (makes_connection n k) ts ≡ o
  unfolding makes_one
  none_made [] o h = refl
  none_made (t ∷ ts) o h = by (makes_connection n k t) (or_left (makes_one t) (list_any makes_one ts) h) ∙ none_made ts o (or_right (makes_one t) (list_any makes_one ts) h)
    where
      by : (new : Option (Option Spawned)) → is_some new ≡ false → last_or (unwrap_or new o) (makes_connection n k) ts ≡ last_or o (makes_connection n k) ts
      by None none = refl
      by (Some x) none = cc

  of_kinds : (t : Telling) → has (kind.connection_made ∷ []) (telling_kind t) ≡ false → makes_one t ≡ false
  unfolding makes_one
  of_kinds (telling.connection_made m j key link) h = cc
  of_kinds _ h = refl

  spawned : (m name : ℕ) (items : List Item) (f : ℕ → Option Spawned) → last_or (f k) (makes_connection n k) (spawn_tells m name items) ≡ cond (m == n) (with_begun (spawned_of items) name f k) (f k)
  spawned m name (item.Spawn key link ∷ items) f = by (m == n) (k == name)
    where
      by : (b c : Bool) → unwrap_or (cond (b && c) (Some (Some (record { key = key; link = link }))) None) (f k) ≡ cond b (cond c (Some (record { key = key; link = link })) (f k)) (f k)
      by true true = refl
      by true false = refl
      by false c = refl
  spawned m name _ f = either (m == n) (f k)
    where
      either : (b : Bool) (o : Option Spawned) → o ≡ cond b o o
      either true o = refl
      either false o = refl

-- what an entry makes of the connection of this name
made_by : (ts : List Telling) (log : List Entry) (e : Entry) (n k : ℕ) (f : ℕ → Option Spawned) → last_or (f k) (makes_connection n k) (tells ts log e) ≡ acted_connections n (length log) (taken log e) e.event.act f k
unfolding tells
made_by ts log e n k f = by e.event.act refl
  where
    by : (a : Act) → e.event.act ≡ a → last_or (f k) (makes_connection n k) (tells ts log e) ≡ acted_connections n (length log) (taken log e) a f k
    by (act.Spawner m) is =
        ap (λ a. last_or (f k) (makes_connection n k) (act_tells ts log (length log) e.event.at e.event.seed e.reply (taken log e) e.puts a)) is ∙ spawned n k m (length log) (taken log e) f
    by a is = none_made n k (tells ts log e) (f k) (untold_of (makes_one n k) (kind.connection_made ∷ []) (of_kinds n k) ts log e (ap (λ b. are_apart (kinds_of b) (kind.connection_made ∷ [])) is))

pub connections_of-append : (log : List Entry) (e : Entry) (n k : ℕ) → connections_of (log ++ e ∷ []) n k ≡ acted_connections n (length log) (taken log e) e.event.act (connections_of log n) k
unfolding connections_of
connections_of-append log e n k =
    ap (last_or None (makes_connection n k)) (told-append log e) ∙ (last_or-append None (makes_connection n k) (told log) (tells (told log) log e) ∙ made_by (told log) log e n k (connections_of log n))

acted_none : (n m : ℕ) (items : List Item) (a : Act) (k : ℕ) → suc m ≤ k → acted_connections n m items a (λ j. None) k ≡ None
acted_none n m items (act.Spawner j) k past = either_none (j == n) (with_begun (spawned_of items) m (λ i. None) k) None (begun_none (spawned_of items) m k (λ i. None) (λ i h. refl) past) refl
acted_none n m items _ k past = refl

-- an act makes a connection by its spawner's step alone
connections_acted : (n m : ℕ) (items : List Item) (a : Act) (connections : ℕ → Option Spawned) (k : ℕ)
    → acted_connections n m items a connections k ≡ cond (steps_spawner n a) (with_begun (spawned_of items) m connections k) (connections k)
connections_acted n m items (act.Spawner j) connections k = refl
connections_acted n m items _ connections k = refl

-- so does an entry
pub connections_of-acted : (log : List Entry) (e : Entry) (n : ℕ) (b : Bool) → steps_spawner n e.event.act ≡ b → (k : ℕ)
    → connections_of (log ++ e ∷ []) n k ≡ cond b (with_begun (spawned_of (taken log e)) (length log) (connections_of log n) k) (connections_of log n k)
connections_of-acted log e n b is k =
    let connections = connections_of log n in
    connections_of-append log e n k
    ∙ (connections_acted n (length log) (taken log e) e.event.act connections k ∙ ap (λ c. cond c (with_begun (spawned_of (taken log e)) (length log) connections k) (connections k)) is)

-- an entry that is no such step makes none
pub connections_of-unmade : (log : List Entry) (e : Entry) (n : ℕ) → steps_spawner n e.event.act ≡ false → (k : ℕ) → connections_of (log ++ e ∷ []) n k ≡ connections_of log n k
connections_of-unmade log e n other k = connections_of-acted log e n false other k

-- nor does one that takes nothing
pub connections_of-untaken : (log : List Entry) (e : Entry) (n : ℕ) → taken log e ≡ [] → (k : ℕ) → connections_of (log ++ e ∷ []) n k ≡ connections_of log n k
connections_of-untaken log e n none k =
    let connections = connections_of log n in
    let steps = steps_spawner n e.event.act in
    connections_of-acted log e n steps refl k
    ∙ (ap (λ items. cond steps (with_begun (spawned_of items) (length log) connections k) (connections k)) none ∙ same steps (connections k))
  where
    same : (b : Bool) (o : Option Spawned) → cond b o o ≡ o
    same true o = refl
    same false o = refl

-- a connection takes its name from the entry that makes it, so there is none of a later name
pub connections_of-late : (log : List Entry) (n k : ℕ) → length log ≤ k → connections_of log n k ≡ None
unfolding connections_of
connections_of-late log n k past = late_told (λ ts j. connection_in ts n j) (λ j. refl) each log k past
  where
    each : (before : List Entry) (e : Entry) (ts : List Telling) (j : ℕ) → suc (length before) ≤ j → connection_in ts n j ≡ None → connection_in (ts ++ tells ts before e) n j ≡ None
    each before e ts j later none =
        last_or-append None (makes_connection n j) ts (tells ts before e)
        ∙ (ap (λ o. last_or o (makes_connection n j) (tells ts before e)) none
        ∙ (made_by ts before e n j (λ i. None) ∙ acted_none n (length before) (taken before e) e.event.act j later))

-- one that was made stays
pub connections_of-next : (log : List Entry) (e : Entry) (n k : ℕ) (c : Spawned) → connections_of log n k ≡ Some c → connections_of (log ++ e ∷ []) n k ≡ Some c
connections_of-next log e n k c there = connections_of-acted log e n (steps_spawner n e.event.act) refl k ∙ by_step (steps_spawner n e.event.act)
  where
    by_name : (x : Spawned) (b : Bool) → (k == length log) ≡ b → cond b (Some x) (connections_of log n k) ≡ Some c
    by_name x true is = let late : connections_of log n k ≡ None = connections_of-late log n k (at_end k (length log) is) in cc
      where
        at_end : (i m : ℕ) → (i == m) ≡ true → m ≤ i
        at_end i m h = grind (arith, nat_tests)
    by_name x false is = there

    by_made : (o : Option Spawned) → with_begun o (length log) (connections_of log n) k ≡ Some c
    by_made None = there
    by_made (Some x) = by_name x (k == length log) refl

    by_step : (b : Bool) → cond b (with_begun (spawned_of (taken log e)) (length log) (connections_of log n) k) (connections_of log n k) ≡ Some c
    by_step true = by_made (spawned_of (taken log e))
    by_step false = there

pub connections_of-longer : (log more : List Entry) (n k : ℕ) (c : Spawned) → connections_of log n k ≡ Some c → connections_of (log ++ more) n k ≡ Some c
connections_of-longer log [] n k c there = ap (λ l. connections_of l n k) (append-nil log) ∙ there
connections_of-longer log (e ∷ es) n k c there =
    ap (λ l. connections_of l n k) (sym (append_assoc log (e ∷ []) es)) ∙ connections_of-longer (log ++ e ∷ []) es n k c (connections_of-next log e n k c there)
