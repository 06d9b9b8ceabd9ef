-- A generated script is valid: each of its configurations, and each of its events.
use Rattle.std.proofs.Common.{◌≡◌, ℕ, zero, suc, ◌+◌, ◌-◌, ◌*◌, ◌%◌, ◌<◌, ◌≤◌, ◌==◌, ◌&&◌, ◌⊎◌, inl, inr, Bool, true, false, nat_lt, nat_le, cond, max, List, [], ◌∷◌, ◌++◌, length, take, Option, Some, None, slice_get, if◌then◌else◌, refl, sym, ◌∙◌, ap, subst, arith, append_assoc, append-nil}
use Rattle.std.proofs.lemmas.Bool.{cases_lt, lt-ltb, le-leb, leb-true, and_from}
use Rattle.std.proofs.lemmas.List.{take_all}
use Rattle.rand_pcg.specs.Lcg.{Lcg}
use Rattle.p2p_runtime.specs.Draws.{seeded, drawn}
use Rattle.p2p_log.specs.declared.config.Config.{Config}
use Rattle.p2p_log.specs.declared.event.Event.{Event}
use Rattle.p2p_log.specs.declared.event.Act.{Act}
use Rattle.p2p_log.specs.declared.event.Act.TheVariants as act
use Rattle.p2p_log_rules.specs.Facts.{latest_moment, has_started, registered}
use Rattle.p2p_log_rules.specs.Valid.{config_fault, config_fault_from, event_fault, event_fault_from, is_valid_event, may_act, names_spawner}
use Rattle.p2p_sim_script.specs.GeneratedActs.{beginning, half_at, number_sent, drawn_act}
use Rattle.p2p_sim.specs.Network.{fault_of}
use Rattle.p2p_sim_script.specs.Generated.{generated_configs, generated_events, event_at, events_from, drawn_from}

-- ---- scripts without a fault

-- a script without a fault begins with a valid event, and goes on without one
one_more : (valid : Bool) (rest : Option ℕ) (n : ℕ) → cond valid rest (Some n) ≡ None → (valid ≡ true) × (rest ≡ None)
one_more true rest n h = (refl, h)
one_more false rest n h = absurd (cc (h))

module _ (configs : List Config) where
  prefix_valid : (before vs : List Event) (k : ℕ) → event_fault_from configs before vs ≡ None → event_fault_from configs before (take k vs) ≡ None
  unfolding event_fault_from
  prefix_valid before [] zero h = refl
  prefix_valid before [] (suc k) h = refl
  prefix_valid before (v ∷ vs) zero h = refl
  prefix_valid before (v ∷ vs) (suc k) h =
      let both = one_more (is_valid_event configs before v) (event_fault_from configs (before ++ v ∷ []) vs) (length before) h in
      rw (both.0) (prefix_valid (before ++ v ∷ []) vs k both.1)

  append_valid : (before vs ws : List Event) → event_fault_from configs before vs ≡ None → event_fault_from configs (before ++ vs) ws ≡ None → event_fault_from configs before (vs ++ ws) ≡ None
  unfolding event_fault_from
  append_valid before [] ws h k = subst (λ (l : List Event). event_fault_from configs l ws ≡ None) (append-nil before) k
  append_valid before (v ∷ vs) ws h k =
      let both = one_more (is_valid_event configs before v) (event_fault_from configs (before ++ v ∷ []) vs) (length before) h in
      rw (both.0) (append_valid (before ++ v ∷ []) vs ws both.1 (subst (λ (l : List Event). event_fault_from configs l ws ≡ None) (sym (append_assoc before (v ∷ []) vs)) k))

latest_moment-more : (es : List Event) (v : Event) → latest_moment (es ++ v ∷ []) ≡ max (latest_moment es) v.at
latest_moment-more [] v = omega arith
latest_moment-more (u ∷ es) v = let rest = latest_moment-more es v in omega arith

-- ---- the beginning

beginning_valid : event_fault_from generated_configs [] (events_from 0 beginning) ≡ None
unfolding event_fault_from is_valid_event has_started registered
beginning_valid = refl

-- ---- what is drawn

-- a node that is there and a connection that it made, after the beginning and some more events
abbrev IsHalf : ℕ × ℕ → Type 0
IsHalf half = (nat_lt half.0 4 ≡ true) × ((more : List Event) → names_spawner (events_from 0 beginning ++ more) half.0 half.1 ≡ true)

a_half : (a b c d e : Bool) → IsHalf (if a then (1, 33) else if b then (0, 34) else if c then (2, 59) else if d then (0, 60) else if e then (3, 85) else (0, 86))
a_half true b c d e = (refl, λ more. refl)
a_half false true c d e = (refl, λ more. refl)
a_half false false true d e = (refl, λ more. refl)
a_half false false false true e = (refl, λ more. refl)
a_half false false false false true = (refl, λ more. refl)
a_half false false false false false = (refl, λ more. refl)

an_act : (b0 b1 b2 b3 b4 b5 b6 : Bool) (n node : ℕ) (half : ℕ × ℕ) (more : List Event) → nat_lt node 4 ≡ true → IsHalf half
    → may_act generated_configs (events_from 0 beginning ++ more)
    (if b0 then number_sent n node false
    else if b1 then number_sent n node true
    else if b2 then act.Router node
    else if b3 then act.Router node
    else if b4 then act.SendStep half.1 half.0
    else if b5 then act.RecvStep half.1 half.0
    else if b6 then act.Recv 0 node
    else act.Tracker node) ≡ true
an_act true b1 b2 b3 b4 b5 b6 n node half more h k = h
an_act false true b2 b3 b4 b5 b6 n node half more h k = h
an_act false false true b3 b4 b5 b6 n node half more h k = h
an_act false false false true b4 b5 b6 n node half more h k = h
an_act false false false false true b5 b6 n node half more h k = and_from _ _ k.0 (k.1 more)
an_act false false false false false true b6 n node half more h k = and_from _ _ k.0 (k.1 more)
an_act false false false false false false true n node half more h k = h
an_act false false false false false false false n node half more h k = h

may_draw : (n a c : ℕ) (more : List Event) → may_act generated_configs (events_from 0 beginning ++ more) (drawn_act n a c) ≡ true
may_draw n a c more =
    an_act (a == 0) (a == 1) (a == 2) (a == 3) (a == 4) (a == 5) (a == 6) n (c % 4) (half_at c) more (lt-ltb (c % 4) 4 (omega arith))
    (a_half (c == 0) (c == 1) (c == 2) (c == 3) (c == 4))

drawn_valid : (before more : List Event) (n left : ℕ) (g : Lcg) → before ≡ events_from 0 beginning ++ more → latest_moment before ≤ n * 1000000
    → event_fault_from generated_configs before (drawn_from n left g) ≡ None
unfolding event_fault_from is_valid_event
drawn_valid before more n zero g begins late = refl
drawn_valid before more n (suc left) g begins late =
    let first : Act = drawn_act n (drawn 7 g).0 (drawn 5 (drawn 7 g).1).0 in
    let v : Event = event_at n first in
    let may : may_act generated_configs before first ≡ true = rw begins (may_draw n (drawn 7 g).0 (drawn 5 (drawn 7 g).1).0 more) in
    let more2 : before ++ v ∷ [] ≡ events_from 0 beginning ++ (more ++ v ∷ []) = ap (λ (l : List Event). l ++ v ∷ []) begins ∙ append_assoc (events_from 0 beginning) more (v ∷ []) in
    let later = latest_moment-more before v in
    rw (le-leb (latest_moment before) (n * 1000000) late, may)
    (drawn_valid (before ++ v ∷ []) (more ++ v ∷ []) (n + 1) left (drawn 5 (drawn 7 g).1).1 more2 (omega arith))

-- ---- the whole

pub configs_valid : config_fault generated_configs ≡ None
unfolding config_fault_from
configs_valid = refl

after_valid : (count seed : ℕ) → (count < 97) ⊎ (97 ≤ count) → event_fault_from generated_configs (take count (events_from 0 beginning)) (drawn_from 96 (count - 96) (seeded seed)) ≡ None
unfolding event_fault_from
after_valid count seed (inl short) = let none : count - 96 ≡ 0 = omega (arith, short) in rw none refl
after_valid count seed (inr long) =
    let all : take count (events_from 0 beginning) ≡ events_from 0 beginning ++ [] = take_all count (events_from 0 beginning) (omega (arith, long)) in
    drawn_valid (take count (events_from 0 beginning)) [] 96 (count - 96) (seeded seed) all (rw all (leb-true _ _ refl))

pub script_valid : (count seed : ℕ) → event_fault generated_configs (generated_events count seed) ≡ None
unfolding generated_events
script_valid count seed =
    append_valid generated_configs [] (take count (events_from 0 beginning)) (drawn_from 96 (count - 96) (seeded seed))
    (prefix_valid generated_configs [] (events_from 0 beginning) count beginning_valid)
    (after_valid count seed (cases_lt count 97))

-- no configuration and no event is refused
pub never_refused : (count seed : ℕ) → fault_of generated_configs (generated_events count seed) ≡ None
never_refused count seed = rw (configs_valid, script_valid count seed) refl
