-- The numbers of subscriptions, and their channels.
use Rattle.std.proofs.Common.{◌≡◌, ℕ, zero, suc, ◌+◌, ◌<◌, ◌≤◌, Bool, true, false, List, [], ◌∷◌, ◌++◌, length, take, refl, ap, sym, subst, ◌∙◌, arith, Option, Some, None}
use Rattle.std.specs.Prelude.{map, nat_lt, ◌==◌, ◌||◌}
use Rattle.std.proofs.lemmas.Bool.Decides.{nat_tests}
use Rattle.std.specs.List.{AllByRecursion, list_any}
use Rattle.std.proofs.lemmas.List.{map-append}
use Rattle.p2p_net_router.specs.Items.{channel_of}
use Rattle.p2p_net_router.specs.Sound.{numbers_from, AreDistinct, IsNumber}
use Rattle.p2p_net_router.proofs.Rings.{none_at}

numbers_below : (a k b : ℕ) → a + k ≡ b → AllByRecursion (λ s. s < b) (numbers_from a k)
numbers_below a zero b h = tt
numbers_below a (suc k) b h = (omega (arith, h), numbers_below (suc a) k b (omega (arith, h)))

pub numbers_within : (k : ℕ) → AllByRecursion (λ s. s < k) (numbers_from 0 k)
numbers_within k = numbers_below 0 k k (omega arith)

pub all_left : {X : Type 0} (P : X → Type 0) (xs ys : List X) → AllByRecursion P (xs ++ ys) → AllByRecursion P xs
all_left P [] ys h = tt
all_left P (x ∷ xs) ys h = (h.0, all_left P xs ys h.1)

pub all_right : {X : Type 0} (P : X → Type 0) (xs ys : List X) → AllByRecursion P (xs ++ ys) → AllByRecursion P ys
all_right P [] ys h = h
all_right P (x ∷ xs) ys h = all_right P xs ys h.1

numbers_next : (a k : ℕ) → numbers_from (suc a) k ≡ map suc (numbers_from a k)
numbers_next a zero = refl
numbers_next a (suc k) = ap (λ l. suc a ∷ l) (numbers_next (suc a) k)

channels_next : (c : ℕ) (cs : List ℕ) (ns : List ℕ) → map (channel_of (c ∷ cs)) (map suc ns) ≡ map (channel_of cs) ns
channels_next c cs [] = refl
channels_next c cs (n ∷ ns) = ap (λ l. channel_of cs n ∷ l) (channels_next c cs ns)

-- the channels of all subscriptions are all channels
pub channels_numbered : (cs : List ℕ) → map (channel_of cs) (numbers_from 0 (length cs)) ≡ cs
channels_numbered [] = refl
channels_numbered (c ∷ cs) =
    ap (λ l. c ∷ l) (ap (map (channel_of (c ∷ cs))) (numbers_next 0 (length cs)) ∙ (channels_next c cs (numbers_from 0 (length cs)) ∙ channels_numbered cs))

any_left : (p : ℕ → Bool) (xs ys : List ℕ) → list_any p (xs ++ ys) ≡ false → list_any p xs ≡ false
any_left p [] ys h = refl
any_left p (x ∷ xs) ys h = (elim (p x) as (λ b. (b || list_any p (xs ++ ys)) ≡ false → (b || list_any p xs) ≡ false) [ true ↦ λ e. e | false ↦ λ e. any_left p xs ys e ]) h

pub distinct_left : (xs ys : List ℕ) → AreDistinct (xs ++ ys) → AreDistinct xs
distinct_left [] ys h = tt
distinct_left (x ∷ xs) ys h = (any_left (λ d. x == d) xs ys h.0, distinct_left xs ys h.1)

-- of channels that are distinct, those of the first subscriptions are
pub distinct_told : (cs ss more : List ℕ) → AreDistinct cs → ss ++ more ≡ numbers_from 0 (length cs) → AreDistinct (map (channel_of cs) ss)
distinct_told cs ss more h e =
    distinct_left (map (channel_of cs) ss) (map (channel_of cs) more)
    (subst AreDistinct (sym (sym (map-append (channel_of cs) ss more) ∙ (ap (map (channel_of cs)) e ∙ channels_numbered cs))) h)

-- ---- the first so many numbers

-- those that a list of them begins with
pub numbers_first : (a n : ℕ) (ss more : List ℕ) → ss ++ more ≡ numbers_from a n → ss ≡ numbers_from a (length ss)
numbers_first a n [] more h = refl
numbers_first a zero (s ∷ ss) more h = cc
numbers_first a (suc n) (s ∷ ss) more h =
    let first : s ≡ a = cc in
    let rest : ss ++ more ≡ numbers_from (suc a) n = cc in
    ap (λ x. x ∷ ss) first ∙ ap (λ l. a ∷ l) (numbers_first (suc a) n ss more rest)

pub channels_first : (cs : List ℕ) (k : ℕ) → k ≤ length cs → map (channel_of cs) (numbers_from 0 k) ≡ take k cs
channels_first cs zero le = refl
channels_first [] (suc k) le = absurd (omega arith)
channels_first (c ∷ cs) (suc k) le =
    ap (λ l. c ∷ l) (ap (map (channel_of (c ∷ cs))) (numbers_next 0 k) ∙ (channels_next c cs (numbers_from 0 k) ∙ channels_first cs k (omega arith)))

none_first : (p : ℕ → Bool) (cs : List ℕ) (k : ℕ) → list_any p cs ≡ false → list_any p (take k cs) ≡ false
none_first p cs zero h = refl
none_first p [] (suc k) h = refl
none_first p (c ∷ cs) (suc k) h =
    (elim (p c) as (λ b. (b || list_any p cs) ≡ false → (b || list_any p (take k cs)) ≡ false) [ true ↦ λ e. e | false ↦ λ e. none_first p cs k e ]) h

-- a channel is one of the first where its number is below
first_below :
    (cs : List ℕ) (k s c : ℕ) → AreDistinct cs → s < length cs → channel_of cs s ≡ c → list_any (λ d. d == c) (take k cs) ≡ nat_lt s k
first_below [] k s c distinct lt at = absurd (omega arith)
first_below (d ∷ ds) zero s c distinct lt at = let e : false ≡ nat_lt s 0 = grind (arith, nat_tests) in e
first_below (d ∷ ds) (suc k) zero c distinct lt at =
    let own : (d == c) ≡ true = grind (arith, nat_tests) in
    ap (λ b. b || list_any (λ e. e == c) (take k ds)) own ∙ (let e : true ≡ nat_lt 0 (suc k) = grind (arith, nat_tests) in e)
first_below (d ∷ ds) (suc k) (suc s) c distinct lt at =
    let le : s < length ds = omega arith in
    let other : (d == c) ≡ false = ap (λ e. d == e) (sym at) ∙ none_at (λ e. d == e) ds s distinct.0 le in
    ap (λ b. b || list_any (λ e. e == c) (take k ds)) other
    ∙ (first_below ds k s c distinct.1 le at ∙ (let e : nat_lt s k ≡ nat_lt (suc s) (suc k) = grind (arith, nat_tests) in e))

-- whether the channel of this number is one of those that are told
pub told_known :
    (cs ss more : List ℕ) (c : ℕ) (o : Option ℕ) → AreDistinct cs → ss ++ more ≡ numbers_from 0 (length cs) → IsNumber cs c o
    → list_any (λ d. d == c) (map (channel_of cs) ss) ≡ elim o [ None ↦ false | Some s ↦ nat_lt s (length ss) ]
told_known cs ss more c o distinct numbers is =
    let few : length ss ≤ length cs = few_first 0 (length cs) ss more numbers in
    ap (list_any (λ d. d == c)) (ap (map (channel_of cs)) (numbers_first 0 (length cs) ss more numbers) ∙ channels_first cs (length ss) few)
    ∙ by_number o is
  where
    few_first : (a n : ℕ) (xs ys : List ℕ) → xs ++ ys ≡ numbers_from a n → length xs ≤ n
    few_first a n [] ys h = omega arith
    few_first a zero (x ∷ xs) ys h = cc
    few_first a (suc n) (x ∷ xs) ys h =
        let rest : xs ++ ys ≡ numbers_from (suc a) n = cc in
        let le = few_first (suc a) n xs ys rest in
        omega (arith, le)

    by_number : (p : Option ℕ) → IsNumber cs c p → list_any (λ d. d == c) (take (length ss) cs) ≡ elim p [ None ↦ false | Some s ↦ nat_lt s (length ss) ]
    by_number None h = none_first (λ d. d == c) cs (length ss) h
    by_number (Some s) h = first_below cs (length ss) s c distinct h.0 h.1
