-- A key is reserved by one connection of a node at most that has not ended, and is not the node's own.
use Rattle.std.proofs.Common.{◌≡◌, ℕ, suc, ◌+◌, ◌<◌, ◌≤◌, Bool, true, false, cond, List, length, take, Option, Some, None, refl, ap, sym, ◌∙◌, arith, eqb-true, eq-eqb}
use Rattle.std.specs.Prelude.{◌==◌, nat_le, slice_get}
use Rattle.std.proofs.lemmas.Bool.{false≢true}
use Rattle.std.proofs.lemmas.Bool.Decides.{nat_tests}
use Rattle.p2p_base.specs.declared.key.Key.{Key}
use Rattle.p2p_tracker_calls.specs.Blocks.{is_local}
use Rattle.p2p_tracker_calls.specs.Grants as calls
use Rattle.p2p_tracker_calls.specs.Rules.{Rules}
use Rattle.p2p_log.specs.declared.config.Config.{Config}
use Rattle.p2p_log.specs.declared.entry.Entry.{Entry}
use Rattle.p2p_log.specs.declared.event.Act.TheVariants as act
use Rattle.p2p_log.specs.declared.event.Event.{Event}
use Rattle.p2p_log_rules.specs.Connections.{is_ended, live_connection}
use Rattle.p2p_log_rules.specs.Facts.{key_at}
use Rattle.p2p_log_rules.specs.Lawful.{IsLawful}
use Rattle.p2p_log_rules.specs.Spawning.{Spawned, connections_of}
use Rattle.p2p_log_rules.specs.Tracking.{key_cmp, no_rules, tracker_rules_of, rules_at, calls_of}
use Rattle.p2p_log_rules.proofs.Connections.{is_ended-kept, ends_untold}
use Rattle.p2p_log_rules.proofs.Spawning.{connections_of-late}
use Rattle.p2p_log_laws.specs.Grants.{one, is_held, is_stopped}
use Rattle.p2p_log_laws.specs.NodeGrants.{is_connection_of, granting}
use Rattle.p2p_log_laws.proofs.ConnectionHolds.{held_by_connections}
use Rattle.p2p_log_laws.proofs.CountBelow.{count_below-one, count_below-two}
use Rattle.p2p_log_laws.proofs.EndMade.{lawful_before, made_of, made_before, unended_first}
use Rattle.p2p_log_laws.proofs.HeldCalls.{at_key}
use Rattle.p2p_log_laws.proofs.HeldPeers.{held_is_others}
use Rattle.p2p_log_laws.proofs.NodeGrants.{each_node_turn, held_by_calls}
use Rattle.p2p_log_laws.proofs.Prefixes.{take_next}
use Rattle.p2p_log_laws.proofs.Turns.{one_holder}

-- a connection is of an entry before
pub connection_before : (log : List Entry) (n c : ℕ) (a : Spawned) → connections_of log n c ≡ Some a → c < length log
connection_before log n c a there = go (nat_le (length log) c) refl
  where
    at_least : (m i : ℕ) → nat_le m i ≡ true → m ≤ i
    at_least m i late = grind (arith, nat_tests)

    below : (m i : ℕ) → nat_le m i ≡ false → i < m
    below m i early = grind (arith, nat_tests)

    go : (b : Bool) → nat_le (length log) c ≡ b → c < length log
    go true late = absurd (let none : connections_of log n c ≡ None = connections_of-late log n c (at_least (length log) c late) in cc)
    go false early = below (length log) c early

-- one that has not ended was made
pub record IsOpen (log : List Entry) (n c : ℕ) (a : Spawned) : Type 0 where
  pub lives : is_ended log n c ≡ false
  pub made : connections_of log n c ≡ Some a

pub open_parts : (log : List Entry) (n c : ℕ) (a : Spawned) → live_connection log n c ≡ Some a → IsOpen log n c a
open_parts log n c a h = by (is_ended log n c) refl h
  where
    by : (b : Bool) → is_ended log n c ≡ b → cond b None (connections_of log n c) ≡ Some a → IsOpen log n c a
    by true is so = absurd (cc)
    by false is so = record { lives = is; made = so }

pub is_open : (log : List Entry) (n c : ℕ) (a : Spawned) → is_ended log n c ≡ false → connections_of log n c ≡ Some a → live_connection log n c ≡ Some a
is_open log n c a lives made = ap (λ b. cond b None (connections_of log n c)) lives ∙ made

module _ (configs : List Config) (script : List Event) (log : List Entry) (lawful : IsLawful configs script log) (n : ℕ) where
  -- a key is held by one thing at most
  most_one : (key : Key) → held_by_connections n key log ≤ 1
  most_one key =
      let g = granting configs n key in
      at_most _ _ (held_by_connections n key log) _ (is_stopped g log) (is_held g log) (one_holder g log (each_node_turn configs script log lawful n key))
    where
      at_most : (answers attempts connections waiting : ℕ) (stopped held : Bool) → (answers + (attempts + connections)) + waiting ≡ cond stopped 0 (one held) → connections ≤ 1
      at_most answers attempts connections waiting true held is = omega (arith, is)
      at_most answers attempts connections waiting false true is = omega (arith, is)
      at_most answers attempts connections waiting false false is = omega (arith, is)

  pub of_key : (a : Spawned) (c : ℕ) (key : Key) → live_connection log n c ≡ Some a → a.key ≡ key → is_connection_of key (live_connection log n c) ≡ true
  of_key a c key there is = ap (is_connection_of key) there ∙ (ap (λ (k : Key). k.0 == key.0) is ∙ eq-eqb key.0 key.0 refl)

  -- two that have not ended, with one key, are one
  pub open_once : (c d : ℕ) (a b : Spawned) → live_connection log n c ≡ Some a → live_connection log n d ≡ Some b → a.key ≡ b.key → c ≡ d
  open_once c d a b first second same = go (c == d) refl
    where
      go : (t : Bool) → (c == d) ≡ t → c ≡ d
      go true is = eqb-true c d is
      go false two =
          absurd (
          let twice = count_below-two (λ k. is_connection_of b.key (live_connection log n k)) (length log) c d
          (connection_before log n c a (open_parts log n c a first).made) (connection_before log n d b (open_parts log n d b second).made) two
          (of_key a c b.key first same) (of_key b d b.key second refl)
          in
          let once = most_one b.key in
          omega (arith, twice, once))

  -- the tracker has the key of one that has not ended reserved
  holds : (holders waiting : ℕ) (stopped held : Bool) → 1 ≤ holders → holders + waiting ≡ cond stopped 0 (one held) → held ≡ true
  holds holders waiting true held some sum = absurd (omega (arith, some, sum))
  holds holders waiting false true some sum = refl
  holds holders waiting false false some sum = absurd (omega (arith, some, sum))

  pub open_is_held : (c : ℕ) (a : Spawned) → live_connection log n c ≡ Some a → calls.is_held key_cmp (calls_of configs log n) a.key ≡ true
  open_is_held c a there =
      let g = granting configs n a.key in
      let some : 1 ≤ held_by_connections n a.key log =
      count_below-one (λ k. is_connection_of a.key (live_connection log n k)) (length log) c (connection_before log n c a (open_parts log n c a there).made) (of_key a c a.key there refl)
      in
      sym (held_by_calls configs script log lawful n a.key)
      ∙ holds (g.holders log) (g.waiting log) (is_stopped g log) (is_held g log) (among _ _ (held_by_connections n a.key log) some) (one_holder g log (each_node_turn configs script log lawful n a.key))
    where
      among : (answers attempts connections : ℕ) → 1 ≤ connections → 1 ≤ answers + (attempts + connections)
      among answers attempts connections some = omega (arith, some)

abbrev key_in : Option Config → Key
key_in o = elim o [ None ↦ record { 0 = 0 } | Some c ↦ c.public_key ]

abbrev local_in : Option Config → Key
local_in o = (elim o as (λ x. Rules Key) [ None ↦ no_rules | Some c ↦ tracker_rules_of c ]).local

-- a node's tracker has the node's own key
pub own_key : (configs : List Config) (n : ℕ) → is_local key_cmp (rules_at configs n) (key_at configs n) ≡ true
own_key configs n = ap (λ (k : Key). is_local key_cmp (rules_at configs n) k) (by (slice_get configs n) refl) ∙ (at_key (rules_at configs n).local (rules_at configs n).local ∙ eq-eqb (rules_at configs n).local.0 (rules_at configs n).local.0 refl)
  where
    by : (o : Option Config) → slice_get configs n ≡ o → key_at configs n ≡ (rules_at configs n).local
    by None is = ap key_in is ∙ sym (ap local_in is)
    by (Some c) is = ap key_in is ∙ sym (ap local_in is)

module _ (configs : List Config) (script : List Event) (log : List Entry) (lawful : IsLawful configs script log) (n : ℕ) where
  -- no connection of the node is with its own key
  pub not_own : (c : ℕ) (a : Spawned) → connections_of log n c ≡ Some a → a.key ≡ key_at configs n → ⊥
  not_own c a made own =
      let before = lawful_before configs script log lawful (suc c) in
      let there : live_connection (take (suc c) log) n c ≡ Some a =
      is_open (take (suc c) log) n c a (unended_first configs script log lawful n c a made) (made_before configs script log lawful n c a made (suc c) (omega arith))
      in
      let held = open_is_held configs before.0 (take (suc c) log) before.1 n c a there in
      let others = held_is_others configs before.0 (take (suc c) log) before.1 n a.key held in
      false≢true (sym others ∙ (ap (λ (k : Key). is_local key_cmp (rules_at configs n) k) own ∙ own_key configs n))

  -- of two with one key the older has ended before the newer is made
  pub older_ended : (c d : ℕ) (a b : Spawned) → connections_of log n c ≡ Some a → connections_of log n d ≡ Some b → a.key ≡ b.key → c < d → is_ended (take d log) n c ≡ true
  older_ended c d a b first second same less = by (is_ended (take (suc d) log) n c) refl
    where
      by : (t : Bool) → is_ended (take (suc d) log) n c ≡ t → is_ended (take d log) n c ≡ true
      by true is =
          let m = made_of configs script log lawful n d b second in
          sym (is_ended-kept (take d log) m.entry n c (ends_untold (take d log) m.entry n c (act.Spawner n) m.acts refl)) ∙ (ap (λ l. is_ended l n c) (sym (take_next log d m.entry m.at)) ∙ is)
      by false is =
          absurd (
          let before = lawful_before configs script log lawful (suc d) in
          let here : live_connection (take (suc d) log) n c ≡ Some a = is_open (take (suc d) log) n c a is (made_before configs script log lawful n c a first (suc d) (omega (arith, less))) in
          let there : live_connection (take (suc d) log) n d ≡ Some b =
          is_open (take (suc d) log) n d b (unended_first configs script log lawful n d b second) (made_before configs script log lawful n d b second (suc d) (omega arith))
          in
          let one = open_once configs before.0 (take (suc d) log) before.1 n c d a b here there same in
          omega (arith, one, less))

  -- so two that have not ended with one key are one
  pub alive_once : (c d : ℕ) (a b : Spawned) → live_connection log n c ≡ Some a → live_connection log n d ≡ Some b → a.key ≡ b.key → c ≡ d
  alive_once = open_once configs script log lawful n
