-- The connections that a node keeps, in the order of their names, are those that the log lists as made and not ended.
use Rattle.std.proofs.Common.{◌≡◌, ℕ, Bool, true, false, cond, List, [], ◌∷◌, refl, ap, sym, subst, ◌∙◌, arith, Option, Some, None}
use Rattle.std.specs.Prelude.{◌==◌, ◌&&◌, ◌||◌, not, flat_map, is_some, unwrap_or}
use Rattle.std.specs.BTreeMap.{is_at}
use Rattle.std.specs.List.{list_any, AllByRecursion as Each}
use Rattle.std.specs.List.Sorted.{IsStrictlySortedBy}
use Rattle.std.specs.Map.{keys_of}
use Rattle.std.specs.Ordering.{nat_cmp}
use Rattle.std.specs.Cmp.{nat_cmp_total}
use Rattle.std.specs.declared.cmp.Ordering.TheVariants.{Less}
use Rattle.std.proofs.lemmas.Bool.Decides.{nat_tests}
use Rattle.std.proofs.lemmas.List.Folds.{list_any-append}
use Rattle.std.proofs.lemmas.Map.Views.{any-filter_same}
use Rattle.p2p_tracker_directory.specs.Reserved.{peer_of}
use Rattle.p2p_tracker_calls.specs.Sets.{is_among}
use Rattle.p2p_tracker_calls.proofs.Named.{same-keys}
use Rattle.p2p_log.specs.declared.config.Config.{Config}
use Rattle.p2p_log.specs.declared.entry.Entry.{Entry}
use Rattle.p2p_log.proofs.Each.{Each-weaker}
use Rattle.p2p_log_rules.specs.Connections.{is_ended, live_connection}
use Rattle.p2p_log_rules.specs.Halves.{Spawned, makes_connection}
use Rattle.p2p_log_rules.specs.Spawning.{connections_of}
use Rattle.p2p_log_rules.specs.Tellings.{Telling, last_or}
use Rattle.p2p_log_rules.specs.Tellings as telling
use Rattle.p2p_log_rules.specs.Told.{is_over, made_in, connections_in, told}
use Rattle.p2p_log_rules.proofs.Ascending.{connections-ascend}
use Rattle.p2p_log_rules.proofs.Bools.{or_false}
use Rattle.p2p_net_queues.specs.Tables.{at}
use Rattle.p2p_net_connections.specs.Connections.{spawned_on}
use Rattle.p2p_net_connections.specs.Dialing.{IsReservedOver, IsConnectedBy}
use Rattle.p2p_net_connections.specs.Stands.{ConnectionsStand}
use Rattle.p2p_net_connections.specs.declared.connections.Connection.{Connection}
use Rattle.p2p_net_connections.specs.declared.connections.Connections.{Connections}

-- whether a number is this one
abbrev is_number : ℕ → ℕ → Bool
is_number q k = is_at (nat_cmp k) q

number_is : (q k : ℕ) → is_number q k ≡ true → k ≡ q
number_is q k h = grind (arith, nat_tests)

number_test : (q k : ℕ) → is_number q k ≡ (q == k)
number_test q k = grind (arith, nat_tests)

turned : (q k : ℕ) → is_at (nat_cmp q) k ≡ is_number q k
turned q k = grind (arith, nat_tests)

-- a table has a value of those that are among its keys
among_keys : (m : List (ℕ × Connection)) (q : ℕ) → is_among nat_cmp (keys_of m) q ≡ is_some (at m q)
among_keys [] q = refl
among_keys (e ∷ m) q = ap (λ b. is_number q e.0 || b) (among_keys m q) ∙ (ap (λ b. b || is_some (at m q)) (sym (turned q e.0)) ∙ by (is_at (nat_cmp q) e.0))
  where
    by : (b : Bool) → (b || is_some (at m q)) ≡ is_some (cond b (Some e.1) (at m q))
    by true = refl
    by false = refl

-- ---- those that were made

or_assoc : (a b c : Bool) → ((a || b) || c) ≡ (a || (b || c))
or_assoc true b c = refl
or_assoc false b c = refl

module _ (n q : ℕ) where
  -- whether a telling is of its making
  made_here : (o : Option Spawned) (t : Telling) → is_some (unwrap_or (makes_connection n q t) o) ≡ (is_some o || list_any (is_number q) (made_in n t))
  made_here o (telling.connection_made m j key link) = ap (λ b. is_some (unwrap_or (cond ((m == n) && b) (Some (Some (record { key = key; link = link }))) None) o)) (sym (number_test q j)) ∙ by (m == n) (is_number q j) refl o
    where
      by : (a b : Bool) → is_number q j ≡ b → (o : Option Spawned) → is_some (unwrap_or (cond (a && b) (Some (Some (record { key = key; link = link }))) None) o) ≡ (is_some o || list_any (is_number q) (cond a (j ∷ []) []))
      by true true is None = ap (λ b. b || false) (sym is)
      by true true is (Some c) = refl
      by true false is None = ap (λ b. b || false) (sym is)
      by true false is (Some c) = refl
      by false b is None = refl
      by false b is (Some c) = refl
  made_here o _ = sym (or_false (is_some o))

  made_any : (ts : List Telling) (o : Option Spawned) → is_some (last_or o (makes_connection n q) ts) ≡ (is_some o || list_any (is_number q) (flat_map (made_in n) ts))
  made_any [] o = sym (or_false (is_some o))
  made_any (t ∷ ts) o =
      made_any ts (unwrap_or (makes_connection n q t) o)
      ∙ (ap (λ b. b || list_any (is_number q) (flat_map (made_in n) ts)) (made_here o t)
      ∙ (or_assoc (is_some o) (list_any (is_number q) (made_in n t)) (list_any (is_number q) (flat_map (made_in n) ts))
      ∙ ap (λ b. is_some o || b) (sym (list_any-append (is_number q) (made_in n t) (flat_map (made_in n) ts)))))

-- those that live are those that are listed
pub live_listed : (log : List Entry) (n q : ℕ) → is_among nat_cmp (connections_in (told log) n) q ≡ is_some (live_connection log n q)
unfolding is_ended connections_of
live_listed log n q =
    any-filter_same (is_number q) (λ conn. not (list_any (is_over n conn) (told log))) (not (is_ended log n q)) (λ k is. ap (λ c. not (list_any (is_over n c) (told log))) (number_is q k is)) (flat_map (made_in n) (told log))
    ∙ (ap (λ b. not (is_ended log n q) && b) (sym (made_any n q (told log) None)) ∙ by (is_ended log n q) (connections_of log n q))
  where
    by : (b : Bool) (o : Option Spawned) → (not b && is_some o) ≡ is_some (cond b None o)
    by true o = refl
    by false o = refl

-- ---- those that a node keeps

spawned_some : (o : Option Connection) → is_some (spawned_on o) ≡ is_some o
spawned_some None = refl
spawned_some (Some c) = refl

pub connections_listed : (configs : List Config) (log : List Entry) (n : ℕ) (cs : Connections) → ConnectionsStand configs log n cs → IsStrictlySortedBy nat_cmp (keys_of cs.spawned) → keys_of cs.spawned ≡ connections_in (told log) n
connections_listed configs log n cs s ordered =
    same-keys nat_cmp_total (λ p q is. number_is q p is) (keys_of cs.spawned) (connections_in (told log) n) ordered (connections-ascend n log).ordered
    (λ q. among_keys cs.spawned q ∙ (sym (spawned_some (at cs.spawned q)) ∙ (ap (λ (o : Option Spawned). is_some o) (s.spawned q) ∙ sym (live_listed log n q))))

-- each of them stands at its name
module _ {V : Type 0} where
  at_later : (e : ℕ × V) (m xs : List (ℕ × V)) → Each (λ k. nat_cmp e.0 k ≡ Less) (keys_of xs) → Each (λ (f : ℕ × V). at m f.0 ≡ Some f.1) xs → Each (λ (f : ℕ × V). at (e ∷ m) f.0 ≡ Some f.1) xs
  at_later e m [] after h = tt
  at_later e m (f ∷ xs) after h = (ap (λ b. cond b (Some e.1) (at m f.0)) (other e.0 f.0 after.0) ∙ h.0, at_later e m xs after.1 h.1)
    where
      other : (k j : ℕ) → nat_cmp k j ≡ Less → is_at (nat_cmp j) k ≡ false
      other k j less = grind (arith, nat_tests)

  pub at_each : (m : List (ℕ × V)) → IsStrictlySortedBy nat_cmp (keys_of m) → Each (λ (f : ℕ × V). at m f.0 ≡ Some f.1) m
  unfolding IsStrictlySortedBy
  at_each [] ordered = tt
  at_each (e ∷ m) ordered = (ap (λ b. cond b (Some e.1) (at m e.0)) (own e.0), at_later e m m ordered.0 (at_each m ordered.1))
    where
      own : (k : ℕ) → is_at (nat_cmp k) k ≡ true
      own k = grind (arith, nat_tests)

-- so each that a node keeps lives, over its link and with its peer
pub connections_each : (configs : List Config) (log : List Entry) (n : ℕ) (cs : Connections) → ConnectionsStand configs log n cs → IsStrictlySortedBy nat_cmp (keys_of cs.spawned)
    → Each (λ (f : ℕ × Connection). (live_connection log n f.0 ≡ Some (record { key = peer_of f.1.reservation; link = f.1.link })) × IsReservedOver log n f.1.link f.1.reservation) cs.spawned
connections_each configs log n cs s ordered = Each-weaker (λ (f : ℕ × Connection). at cs.spawned f.0 ≡ Some f.1) lives (λ f is. (sym (s.spawned f.0) ∙ ap spawned_on is, subst (IsConnectedBy log n) is (s.reserved f.0))) cs.spawned (at_each cs.spawned ordered)
  where
    lives : ℕ × Connection → Type 0
    lives f = (live_connection log n f.0 ≡ Some (record { key = peer_of f.1.reservation; link = f.1.link })) × IsReservedOver log n f.1.link f.1.reservation
