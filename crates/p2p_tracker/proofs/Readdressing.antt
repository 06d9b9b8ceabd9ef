-- The calls of addresses that are given in order, and the kills.
use Rattle.std.proofs.Common.{◌≡◌, ℕ, zero, suc, ◌+◌, ◌<◌, Bool, true, false, cond, ◌||◌, List, [], ◌∷◌, ◌++◌, Option, length, get_or, take, drop, refl, sym, ap, ◌∙◌, arith, add-one, append_assoc, append-nil}
use Rattle.std.specs.Map.{keys_of, values_of}
use Rattle.std.specs.declared.cmp.Ordering.{Ordering}
use Rattle.p2p_address.specs.declared.peer.Address.{Address}
use Rattle.p2p_tracker_calls.specs.Rules.{Rules}
use Rattle.p2p_tracker_calls.specs.Lives.{is_overwritten}
use Rattle.p2p_tracker_calls.specs.declared.call.Call.{Call}
use Rattle.p2p_tracker_calls.specs.declared.call.Call.TheVariants as call
use Rattle.p2p_tracker_calls.specs.Overwrites.{overwritten_keys}
use Rattle.p2p_tracker_calls.specs.Overwrites.{overwritten}
use Rattle.p2p_tracker_calls.specs.Keeping.{kept_of}
use Rattle.p2p_tracker.specs.Putting.{overwrite_kills}
use Rattle.p2p_tracker.specs.Telling.{has_any, kill_put}
use Rattle.p2p_tracker.specs.declared.stepped.Put.{Put}

module _ {P : Type 0} where
  overwritten-suc : (es : List (P × Address)) (i : ℕ) (k : P) (a : Address) (calls : List (Call P)) → i < length es → k ≡ get_or (keys_of es) i k → a ≡ get_or (values_of es) i a
      → overwritten (take (suc i) es) calls ≡ call.Overwrite k a ∷ overwritten (take i es) calls
  unfolding overwritten
  overwritten-suc [] i k a calls h e f = absurd (omega (arith, h))
  overwritten-suc (x ∷ es) zero k a calls h e f = ap (λ (y : P). call.Overwrite y x.1 ∷ calls) (sym e) ∙ ap (λ (y : Address). call.Overwrite k y ∷ calls) (sym f)
  overwritten-suc (x ∷ es) (suc i) k a calls h e f = overwritten-suc es i k a (call.Overwrite x.0 x.1 ∷ calls) (omega (arith, h)) e f

  -- one more address is one more call
  pub overwritten-more : (es : List (P × Address)) (i : ℕ) (k : P) (a : Address) (calls : List (Call P)) → i < length es → k ≡ get_or (keys_of es) i k → a ≡ get_or (values_of es) i a
      → overwritten (take (i + 1) es) calls ≡ call.Overwrite k a ∷ overwritten (take i es) calls
  overwritten-more es i k a calls h e f = ap (λ (n : ℕ). overwritten (take n es) calls) (add-one i) ∙ overwritten-suc es i k a calls h e f

-- one more kill, or none
pub killed-more : {X : Type 0} (b : Bool) (p q kill rest : List X) → q ≡ cond b (p ++ kill) p → q ++ rest ≡ p ++ (cond b kill [] ++ rest)
killed-more true p q kill rest e = ap (λ x. x ++ rest) e ∙ append_assoc p kill rest
killed-more false p q kill rest e = ap (λ x. x ++ rest) e

pub or_false : (b : Bool) → (b || false) ≡ b
or_false true = refl
or_false false = refl

pub any-more : {P : Type 0} (h b : Bool) (k : P) (rest : List P) → ((h || b) || has_any rest) ≡ (h || has_any (cond b (k ∷ rest) rest))
any-more true b k rest = refl
any-more false true k rest = refl
any-more false false k rest = refl

-- the listener is told where something has changed
pub told-last : {P : Type 0} (b : Bool) (p q last : List (Put P)) → q ≡ cond b (p ++ last) p → q ≡ p ++ cond b last []
told-last true p q last e = e
told-last false p q last e = e ∙ sym (append-nil p)

module _ {P : Type 0} (cmp : P → P → Ordering) (rules : Rules P) where
  keys-suc : (es : List (P × Address)) (i : ℕ) (k : P) (a : Address) (calls : List (Call P)) → i < length es → k ≡ get_or (keys_of es) i k → a ≡ get_or (values_of es) i a
      → overwritten_keys cmp rules (drop i es) calls ≡ cond (is_overwritten cmp rules calls k a) (k ∷ overwritten_keys cmp rules (drop (suc i) es) (call.Overwrite k a ∷ calls)) (overwritten_keys cmp rules (drop (suc i) es) (call.Overwrite k a ∷ calls))
  keys-suc [] i k a calls h e f = absurd (omega (arith, h))
  keys-suc (x ∷ es) zero k a calls h e f =
      ap (λ (y : P). cond (is_overwritten cmp rules calls y x.1) (y ∷ overwritten_keys cmp rules es (call.Overwrite y x.1 ∷ calls)) (overwritten_keys cmp rules es (call.Overwrite y x.1 ∷ calls))) (sym e)
      ∙ ap (λ (y : Address). cond (is_overwritten cmp rules calls k y) (k ∷ overwritten_keys cmp rules es (call.Overwrite k y ∷ calls)) (overwritten_keys cmp rules es (call.Overwrite k y ∷ calls))) (sym f)
  keys-suc (x ∷ es) (suc i) k a calls h e f = keys-suc es i k a calls (omega (arith, h)) e f

  -- one more key is one whose address changes, or not
  pub keys-more : (es : List (P × Address)) (i : ℕ) (k : P) (a : Address) (calls : List (Call P)) (b : Bool) → b ≡ is_overwritten cmp rules (overwritten (take i es) calls) k a
      → i < length es → k ≡ get_or (keys_of es) i k → a ≡ get_or (values_of es) i a
      → cond b (k ∷ overwritten_keys cmp rules (drop (i + 1) es) (overwritten (take (i + 1) es) calls)) (overwritten_keys cmp rules (drop (i + 1) es) (overwritten (take (i + 1) es) calls))
      ≡ overwritten_keys cmp rules (drop i es) (overwritten (take i es) calls)
  keys-more es i k a calls b w h e f =
      let before = overwritten (take i es) calls in
      let More : List P → List P = λ rest. cond b (k ∷ rest) rest in
      ap (λ (n : ℕ). More (overwritten_keys cmp rules (drop n es) (overwritten (take (i + 1) es) calls))) (add-one i)
      ∙ (ap (λ (x : List (Call P)). More (overwritten_keys cmp rules (drop (suc i) es) x)) (overwritten-more es i k a calls h e f)
      ∙ (ap (λ (x : Bool). cond x (k ∷ overwritten_keys cmp rules (drop (suc i) es) (call.Overwrite k a ∷ before)) (overwritten_keys cmp rules (drop (suc i) es) (call.Overwrite k a ∷ before))) w
      ∙ sym (keys-suc es i k a before h e f)))

  kills-suc : (es : List (P × Address)) (i : ℕ) (k : P) (a : Address) (calls : List (Call P)) → i < length es → k ≡ get_or (keys_of es) i k → a ≡ get_or (values_of es) i a
      → overwrite_kills cmp rules (drop i es) calls ≡ cond (is_overwritten cmp rules calls k a) (kill_put k (kept_of cmp rules calls k)) [] ++ overwrite_kills cmp rules (drop (suc i) es) (call.Overwrite k a ∷ calls)
  kills-suc [] i k a calls h e f = absurd (omega (arith, h))
  kills-suc (x ∷ es) zero k a calls h e f =
      ap (λ (y : P). cond (is_overwritten cmp rules calls y x.1) (kill_put y (kept_of cmp rules calls y)) [] ++ overwrite_kills cmp rules es (call.Overwrite y x.1 ∷ calls)) (sym e)
      ∙ ap (λ (y : Address). cond (is_overwritten cmp rules calls k y) (kill_put k (kept_of cmp rules calls k)) [] ++ overwrite_kills cmp rules es (call.Overwrite k y ∷ calls)) (sym f)
  kills-suc (x ∷ es) (suc i) k a calls h e f = kills-suc es i k a calls (omega (arith, h)) e f

  -- the kill of one more key, or none
  pub kills-more : (es : List (P × Address)) (i : ℕ) (k : P) (a : Address) (calls : List (Call P)) (b : Bool) (kept : Option ℕ) → b ≡ is_overwritten cmp rules (overwritten (take i es) calls) k a
      → kept ≡ kept_of cmp rules (overwritten (take i es) calls) k → i < length es → k ≡ get_or (keys_of es) i k → a ≡ get_or (values_of es) i a
      → cond b (kill_put k kept) [] ++ overwrite_kills cmp rules (drop (i + 1) es) (overwritten (take (i + 1) es) calls) ≡ overwrite_kills cmp rules (drop i es) (overwritten (take i es) calls)
  kills-more es i k a calls b kept w v h e f =
      let before = overwritten (take i es) calls in
      ap (λ (n : ℕ). cond b (kill_put k kept) [] ++ overwrite_kills cmp rules (drop n es) (overwritten (take (i + 1) es) calls)) (add-one i)
      ∙ (ap (λ (x : List (Call P)). cond b (kill_put k kept) [] ++ overwrite_kills cmp rules (drop (suc i) es) x) (overwritten-more es i k a calls h e f)
      ∙ (ap (λ (x : Option ℕ). cond b (kill_put k x) [] ++ overwrite_kills cmp rules (drop (suc i) es) (call.Overwrite k a ∷ before)) v
      ∙ (ap (λ (x : Bool). cond x (kill_put k (kept_of cmp rules before k)) [] ++ overwrite_kills cmp rules (drop (suc i) es) (call.Overwrite k a ∷ before)) w
      ∙ sym (kills-suc es i k a before h e f))))
