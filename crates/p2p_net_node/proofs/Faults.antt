-- One more configuration, or event, that may be asked for or not.
use Rattle.std.proofs.Common.{◌≡◌, ℕ, zero, suc, ◌+◌, ◌<◌, ◌≤◌, Bool, true, false, cond, List, [], ◌∷◌, ◌++◌, length, take, drop, get_or, refl, ap, sym, ◌∙◌, arith, add-one, Some, None}
use Rattle.std.specs.Prelude.{slice_get, ◌==◌, ◌||◌, ◌&&◌, not}
use Rattle.std.specs.List.{list_any}
use Rattle.std.proofs.lemmas.Option.{slice_get-get_or}
use Rattle.std.specs.Ordering.{nat_cmp, is_eq}
use Rattle.std.proofs.lemmas.Bool.Decides.{nat_tests}
use Rattle.std.proofs.lemmas.List.Folds.{list_any-append}
use Rattle.p2p_log_rules.proofs.Bools.{and_false, or_false}
use Rattle.p2p_log.specs.declared.config.Config.{Config}
use Rattle.p2p_log.specs.declared.event.Event.{Event}
use Rattle.p2p_log_rules.specs.Valid.{fits, has_key, is_valid_config, config_fault_from, is_valid_event, event_fault_from}

pub drop-step : {X : Type 0} (xs : List X) (i : ℕ) (x : X) → slice_get xs i ≡ Some x → drop i xs ≡ x ∷ drop (suc i) xs
drop-step [] i x h = cc
drop-step (y ∷ ys) zero x h = let same : y ≡ x = cc in ap (λ z. z ∷ ys) same
drop-step (y ∷ ys) (suc i) x h = drop-step ys i x h

pub take-step : {X : Type 0} (xs : List X) (i : ℕ) (x : X) → slice_get xs i ≡ Some x → take (suc i) xs ≡ take i xs ++ x ∷ []
take-step [] i x h = cc
take-step (y ∷ ys) zero x h = let same : y ≡ x = cc in ap (λ z. z ∷ []) same
take-step (y ∷ ys) (suc i) x h = ap (λ r. y ∷ r) (take-step ys i x h)

length-take-step : {X : Type 0} (xs : List X) (i : ℕ) (x : X) → slice_get xs i ≡ Some x → length (take i xs) ≡ i
length-take-step [] i x h = cc
length-take-step (y ∷ ys) zero x h = refl
length-take-step (y ∷ ys) (suc i) x h = ap suc (length-take-step ys i x h)

drop-all : {X : Type 0} (xs : List X) (i : ℕ) → length xs ≤ i → drop i xs ≡ []
drop-all [] zero h = refl
drop-all [] (suc i) h = refl
drop-all (x ∷ xs) zero h = absurd (grind arith)
drop-all (x ∷ xs) (suc i) h = drop-all xs i (grind arith)

pub config_fault-step :
    (cs : List Config) (i : ℕ) (c : Config) → slice_get cs i ≡ Some c
    → config_fault_from (take i cs) (drop i cs) ≡ cond (is_valid_config (take i cs) c) (config_fault_from (take (suc i) cs) (drop (suc i) cs)) (Some i)
unfolding config_fault_from
config_fault-step cs i c h =
    ap (config_fault_from (take i cs)) (drop-step cs i c h)
    ∙ (ap (λ l. cond (is_valid_config (take i cs) c) (config_fault_from l (drop (suc i) cs)) (Some (length (take i cs)))) (sym (take-step cs i c h))
    ∙ ap (λ k. cond (is_valid_config (take i cs) c) (config_fault_from (take (suc i) cs) (drop (suc i) cs)) (Some k)) (length-take-step cs i c h))

pub event_fault-step :
    (configs : List Config) (vs : List Event) (i : ℕ) (v : Event) → slice_get vs i ≡ Some v
    → event_fault_from configs (take i vs) (drop i vs) ≡ cond (is_valid_event configs (take i vs) v) (event_fault_from configs (take (suc i) vs) (drop (suc i) vs)) (Some i)
unfolding event_fault_from
event_fault-step configs vs i v h =
    ap (event_fault_from configs (take i vs)) (drop-step vs i v h)
    ∙ (ap (λ l. cond (is_valid_event configs (take i vs) v) (event_fault_from configs l (drop (suc i) vs)) (Some (length (take i vs)))) (sym (take-step vs i v h))
    ∙ ap (λ k. cond (is_valid_event configs (take i vs) v) (event_fault_from configs (take (suc i) vs) (drop (suc i) vs)) (Some k)) (length-take-step vs i v h))

-- no more to come
pub config_fault-end : (cs : List Config) (i : ℕ) → length cs ≤ i → config_fault_from (take i cs) (drop i cs) ≡ None
unfolding config_fault_from
config_fault-end cs i h = ap (config_fault_from (take i cs)) (drop-all cs i h)

pub event_fault-end : (configs : List Config) (vs : List Event) (i : ℕ) → length vs ≤ i → event_fault_from configs (take i vs) (drop i vs) ≡ None
unfolding event_fault_from
event_fault-end configs vs i h = ap (event_fault_from configs (take i vs)) (drop-all vs i h)

-- the keys so far, with one more
pub keys-step :
    (cs : List Config) (i : ℕ) (c : Config) (old new : Bool) (k : ℕ) → slice_get cs i ≡ Some c
    → old ≡ list_any (has_key (record { 0 = k })) (take i cs)
    → new ≡ cond (is_eq (nat_cmp c.public_key.0 k)) true old
    → new ≡ list_any (has_key (record { 0 = k })) (take (suc i) cs)
keys-step cs i c old new k h before put =
    let test : is_eq (nat_cmp c.public_key.0 k) ≡ (c.public_key.0 == k) = grind (arith, nat_tests) in
    put
    ∙ (ap (λ b. cond b true old) test
    ∙ ((elim (c.public_key.0 == k) as (λ b. cond b true old ≡ (old || b)) [ true ↦ elim old as (λ o. true ≡ (o || true)) [ true ↦ refl | false ↦ refl ] | false ↦ sym (or_false old) ])
    ∙ (ap (λ o. o || (c.public_key.0 == k)) before
    ∙ (ap (λ b. list_any (has_key (record { 0 = k })) (take i cs) || b) (sym (or_false (c.public_key.0 == k)))
    ∙ (sym (list_any-append (has_key (record { 0 = k })) (take i cs) (c ∷ [])) ∙ ap (list_any (has_key (record { 0 = k }))) (sym (take-step cs i c h)))))))

-- ---- as the loop over the configurations has it

pub fault_here :
    (cs : List Config) (i : ℕ) (d : Config) → i < length cs → config_fault_from [] cs ≡ config_fault_from (take i cs) (drop i cs)
    → is_valid_config (take i cs) (get_or cs i d) ≡ false → Some i ≡ config_fault_from [] cs
fault_here cs i d lt so_far bad =
    sym
    (so_far
    ∙ (config_fault-step cs i (get_or cs i d) (slice_get-get_or cs i d lt)
    ∙ ap (λ b. cond b (config_fault_from (take (suc i) cs) (drop (suc i) cs)) (Some i)) bad))

pub fault_later :
    (cs : List Config) (i : ℕ) (d : Config) → i < length cs → config_fault_from [] cs ≡ config_fault_from (take i cs) (drop i cs)
    → is_valid_config (take i cs) (get_or cs i d) ≡ true → config_fault_from [] cs ≡ config_fault_from (take (i + 1) cs) (drop (i + 1) cs)
fault_later cs i d lt so_far good =
    so_far
    ∙ (config_fault-step cs i (get_or cs i d) (slice_get-get_or cs i d lt)
    ∙ (ap (λ b. cond b (config_fault_from (take (suc i) cs) (drop (suc i) cs)) (Some i)) good
    ∙ ap (λ k. config_fault_from (take k cs) (drop k cs)) (sym (add-one i))))

pub unfit : (before : List Config) (c : Config) (b : Bool) → b ≡ fits c → b ≡ false → is_valid_config before c ≡ false
unfit before c b h e = ap (λ x. x && not (list_any (has_key c.public_key) before)) (sym h ∙ e)

pub repeated : (before : List Config) (c : Config) (seen : Bool) → seen ≡ list_any (has_key (record { 0 = c.public_key.0 })) before → seen ≡ true → is_valid_config before c ≡ false
repeated before c seen h e = ap (λ x. fits c && not x) (sym h ∙ e) ∙ and_false (fits c)

pub good_one :
    (before : List Config) (c : Config) (b seen : Bool) → b ≡ fits c → b ≡ true
    → seen ≡ list_any (has_key (record { 0 = c.public_key.0 })) before → seen ≡ false → is_valid_config before c ≡ true
good_one before c b seen h e k f =
    ap (λ x. x && not (list_any (has_key c.public_key) before)) (sym h ∙ e) ∙ ap not (sym k ∙ f)

pub keys_later :
    (cs : List Config) (i : ℕ) (d : Config) (old new : Bool) (k : ℕ) → i < length cs
    → old ≡ list_any (has_key (record { 0 = k })) (take i cs)
    → new ≡ cond (is_eq (nat_cmp (get_or cs i d).public_key.0 k)) true old
    → new ≡ list_any (has_key (record { 0 = k })) (take (i + 1) cs)
keys_later cs i d old new k lt before put =
    keys-step cs i (get_or cs i d) old new k (slice_get-get_or cs i d lt) before put
    ∙ ap (λ n. list_any (has_key (record { 0 = k })) (take n cs)) (sym (add-one i))
