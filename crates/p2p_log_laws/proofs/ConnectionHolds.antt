-- How many connections of a node that have not ended hold a key after one more entry.
use Rattle.std.proofs.Common.{◌≡◌, ℕ, ◌+◌, ◌<◌, ◌≤◌, Bool, true, false, cond, List, [], ◌∷◌, ◌++◌, length, Option, Some, None, refl, ap, sym, ◌∙◌, arith, eqb-true}
use Rattle.std.specs.Prelude.{◌==◌, ◌&&◌, ◌||◌, nat_le}
use Rattle.std.proofs.lemmas.Bool.{false≢true}
use Rattle.std.proofs.lemmas.Bool.Decides.{nat_tests}
use Rattle.p2p_base.specs.declared.key.Key.{Key}
use Rattle.p2p_log.specs.declared.entry.Entry.{Entry}
use Rattle.p2p_log.specs.declared.event.Act.{Act}
use Rattle.p2p_log.specs.declared.event.Act.TheVariants as act
use Rattle.p2p_log_rules.specs.declared.row.Half.{Half}
use Rattle.p2p_log_rules.specs.Connections.{ends_connection, is_ended, live_connection, live_half}
use Rattle.p2p_log_rules.specs.Facts.{taken, with_begun}
use Rattle.p2p_log_rules.specs.Spawning.{Spawned, spawned_of, connections_of}
use Rattle.p2p_log_rules.proofs.Connections.{EndsNone, ends_untold, is_ended-append, is_ended-kept, HalfParts, half_parts, is_live, live_connection-kept}
use Rattle.p2p_log_rules.proofs.Spawning.{connections_of-acted, connections_of-late}
use Rattle.p2p_log_laws.specs.Grants.{one}
use Rattle.p2p_log_laws.specs.NodeGrants.{count_below, is_connection_of}
use Rattle.p2p_log_laws.proofs.CountBelow.{begun_test, count_kept, count_begun, count_less}
use Rattle.p2p_log_laws.proofs.StandingAttempts.{longer}
use Rattle.p2p_log_rules.proofs.Steps.{steps_spawner}

-- what has not ended was made by an earlier entry
pub live_early : (log : List Entry) (n conn : ℕ) (half : Half) → live_half log n conn ≡ Some half → conn < length log
live_early log n conn half lived = go (nat_le (length log) conn) refl
  where
    p : HalfParts log n conn half
    p = half_parts log n conn half (is_live log n conn half lived).at

    at_least : (m i : ℕ) → nat_le m i ≡ true → m ≤ i
    at_least m i past = grind (arith, nat_tests)

    below : (m i : ℕ) → nat_le m i ≡ false → i < m
    below m i early = grind (arith, nat_tests)

    go : (b : Bool) → nat_le (length log) conn ≡ b → conn < length log
    go true past =
        let none : connections_of log n conn ≡ None = connections_of-late log n conn (at_least (length log) conn past) in
        let clash : ◌≡◌ {A = Option Spawned} None (Some p.connection) = sym none ∙ p.made in
        absurd (cc)
    go false early = below (length log) conn early

module _ (n : ℕ) (key : Key) where
  abbrev pub held_by_connections : List Entry → ℕ
  held_by_connections log = count_below (length log) (λ k. is_connection_of key (live_connection log n k))

  -- one that has not ended holds the key of its peer
  pub live_holds : (log : List Entry) (conn : ℕ) (half : Half) → live_half log n conn ≡ Some half → is_connection_of key (live_connection log n conn) ≡ (half.peer.0 == key.0)
  live_holds log conn half lived =
      let live = is_live log n conn half lived in
      let p = half_parts log n conn half live.at in
      ap (λ b. is_connection_of key (cond b None (connections_of log n conn))) live.lives
      ∙ (ap (is_connection_of key) p.made ∙ ap (λ (k : Half). k.peer.0 == key.0) (sym p.is))

module _ (n : ℕ) (key : Key) (log : List Entry) (e : Entry) where
  abbrev f : ℕ → Option Spawned
  f = connections_of log n

  abbrev p : ℕ → Bool
  p k = is_connection_of key (live_connection log n k)

  abbrev q : ℕ → Bool
  q k = is_connection_of key (live_connection (log ++ e ∷ []) n k)

  late : f (length log) ≡ None
  late = connections_of-late log n (length log) (omega arith)

  none : p (length log) ≡ false
  none = ap (λ o. is_connection_of key (cond (is_ended log n (length log)) None o)) late ∙ nothing (is_ended log n (length log))
    where
      nothing : (b : Bool) → is_connection_of key (cond b None None) ≡ false
      nothing true = refl
      nothing false = refl

  -- none is made, and none ends
  pub connections_kept : steps_spawner n e.event.act ≡ false → ((k : ℕ) → ends_connection n k log e ≡ false) → held_by_connections n key (log ++ e ∷ []) ≡ held_by_connections n key log
  connections_kept other lives =
      count_kept (length log) (length (log ++ e ∷ [])) (longer log e) p q none
      (λ k. ap (is_connection_of key) (live_connection-kept log e n k (lives k) (connections_of-acted log e n false other k)))

  -- those that end and hold it hold it no more, however many they are
  pub connections_over : steps_spawner n e.event.act ≡ false → held_by_connections n key (log ++ e ∷ []) + count_below (length log) (λ k. ends_connection n k log e && p k) ≡ held_by_connections n key log
  connections_over other = count_less (length log) (length (log ++ e ∷ [])) (longer log e) p q none (λ k. ends_connection n k log e) after
    where
      by : (was now : Bool) (o : Option Spawned) → is_connection_of key (cond (was || now) None o) ≡ cond now false (is_connection_of key (cond was None o))
      by true true o = refl
      by true false o = refl
      by false true o = refl
      by false false o = refl

      after : (k : ℕ) → q k ≡ cond (ends_connection n k log e) false (p k)
      after k =
          ap (λ b. is_connection_of key (cond b None (connections_of (log ++ e ∷ []) n k))) (is_ended-append log e n k)
          ∙ (ap (λ o. is_connection_of key (cond (is_ended log n k || ends_connection n k log e) None o)) (connections_of-acted log e n false other k)
          ∙ by (is_ended log n k) (ends_connection n k log e) (f k))

  -- one may be made, by what was taken
  pub connections_made : steps_spawner n e.event.act ≡ true → is_ended log n (length log) ≡ false
      → held_by_connections n key (log ++ e ∷ []) ≡ held_by_connections n key log + one (is_connection_of key (spawned_of (taken log e)))
  connections_made steps unended =
      count_begun (length log) (length (log ++ e ∷ [])) (longer log e) p q none (is_connection_of key made) (λ k. after k)
    where
      made : Option Spawned
      made = spawned_of (taken log e)

      no_half : (a : Act) → steps_spawner n a ≡ true → EndsNone a
      no_half (act.Spawner m) h = refl
      no_half _ h = absurd (cc)

      by : (k : ℕ) (was now : Bool) → is_ended log n k ≡ was → (k == length log) ≡ now
          → is_connection_of key (cond was None (with_begun made (length log) f k)) ≡ cond now (is_connection_of key made) (is_connection_of key (cond was None (f k)))
      by k true true ended same = absurd (false≢true (sym unended ∙ (ap (is_ended log n) (sym (eqb-true k (length log) same)) ∙ ended)))
      by k true false ended same = refl
      by k false now ended same = begun_test (is_connection_of key) made (length log) k f late ∙ ap (λ b. cond b (is_connection_of key made) (is_connection_of key (f k))) same

      after : (k : ℕ) → q k ≡ cond (k == length log) (is_connection_of key made) (p k)
      after k =
          ap (λ b. is_connection_of key (cond b None (connections_of (log ++ e ∷ []) n k)))
          (is_ended-kept log e n k (ends_untold log e n k e.event.act refl (no_half e.event.act steps)))
          ∙ (ap (λ o. is_connection_of key (cond (is_ended log n k) None o)) (connections_of-acted log e n true steps k) ∙ by k (is_ended log n k) (k == length log) refl refl)
