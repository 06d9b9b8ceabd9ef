-- The laws of `PublicKey` at `Key`.
use Rattle.std.specs.Prelude.{◌≡◌, ℕ, zero, suc, ◌-◌, ◌^◌, ◌<◌, ◌≤◌, ◌==◌, Bool, true, false, List, length, slice_index, Option, Some, None, is_some, nat_eq, if◌then◌else◌, IsTrue, ◌↔◌, refl}
use Rattle.std.specs.Int.{w64, from_be_bytes, to_be_bytes, sum_through, byte_worth}
use Rattle.std.proofs.Common.{sym, ap, subst, ◌∙◌, lit<, eq-eqb, eqb-true, lt-ltb, ltb-true}
use Rattle.std.proofs.Math.Nat.{add-le-add, mul-le-mul_right, le_of_suc-le-suc, lt_of_le_of_lt}
use Rattle.std.proofs.lemmas.Bool.{false≢true}
use Rattle.std.proofs.lemmas.Nat.{be_bytes_8, from_be_bytes-to_be_bytes_8}
use Rattle.p2p_base.specs.declared.key.Key.{Key}
use Rattle.p2p_base.specs.KeyBytes.{is_key, key_bytes, key_of_bytes}

sum_through-le : (f g : ℕ → ℕ) → ((i : ℕ) → f i ≤ g i) → (k : ℕ) → sum_through f k ≤ sum_through g k
sum_through-le f g h zero = h 0
sum_through-le f g h (suc k) = add-le-add (sum_through-le f g h k) (h (suc k))

byte_worth-le : (i a b : ℕ) → a ≤ b → byte_worth i a ≤ byte_worth i b
byte_worth-le zero a b h = h
byte_worth-le (suc i) a b h = mul-le-mul_right (256 ^ suc i) h

-- eight bytes make a number of 64 bits
from_be_bytes-lt : (bytes : List ℕ) → ((i : ℕ) → slice_index bytes i < 256) → from_be_bytes w64 bytes < 2 ^ 64
from_be_bytes-lt bytes small =
    lt_of_le_of_lt
    (sum_through-le (λ i. byte_worth (7 - i) (slice_index bytes i)) (λ i. byte_worth (7 - i) 255)
    (λ i. byte_worth-le (7 - i) _ 255 (le_of_suc-le-suc (small i))) 7)
    (lit< tt)

number_in : Option Key → ℕ
number_in None = 0
number_in (Some k) = k.0

pub bytes_give_key : (k : Key) → IsTrue (is_key k) → key_of_bytes (key_bytes k) ≡ Some k
bytes_give_key k h =
    let some : ℕ → Option Key = λ n. Some (record { 0 = n }) in
    ap some (from_be_bytes-to_be_bytes_8 k.0 (ltb-true k.0 (2 ^ 64) h))

has_bytes : (bytes : List ℕ) (k : Key) (b : Bool) → (length bytes == 8) ≡ b → ((i : ℕ) → slice_index bytes i < 256)
    → (if b then Some (record { 0 = from_be_bytes w64 bytes }) else None) ≡ Some k → IsTrue (is_key k) × (key_bytes k ≡ bytes)
unfolding number_in
has_bytes bytes k true long small e =
    let same : from_be_bytes w64 bytes ≡ k.0 = ap number_in e in
    let below : ℕ → Type 0 = λ n. n < 2 ^ 64 in
    (lt-ltb k.0 (2 ^ 64) (subst below same (from_be_bytes-lt bytes small)), be_bytes_8 bytes k.0 (eqb-true (length bytes) 8 long) small (sym same))
has_bytes bytes k false long small e = absurd (false≢true (ap is_some e))

pub key_has_bytes : (bytes : List ℕ) (k : Key) → ((i : ℕ) → slice_index bytes i < 256) → key_of_bytes bytes ≡ Some k
    → IsTrue (is_key k) × (key_bytes k ≡ bytes)
key_has_bytes bytes k small e = has_bytes bytes k (length bytes == 8) refl small e

pub equal_keys : (j k : Key) → IsTrue (is_key j) → IsTrue (is_key k) → IsTrue (nat_eq j.0 k.0) ↔ (key_bytes j ≡ key_bytes k)
equal_keys j k hj hk = (
  λ e. ap (to_be_bytes w64) (eqb-true j.0 k.0 e),
  λ e. eq-eqb j.0 k.0 (sym (from_be_bytes-to_be_bytes_8 j.0 (ltb-true j.0 (2 ^ 64) hj)) ∙ ap (from_be_bytes w64) e ∙ from_be_bytes-to_be_bytes_8 k.0 (ltb-true k.0 (2 ^ 64) hk)),
)
