-- The names of items: no two that stand in queues are alike.
use Rattle.std.proofs.Common.{◌≡◌, ℕ, ◌+◌, ◌<◌, Bool, true, false, cond, List, [], ◌∷◌, ◌++◌, refl, ap, sym, subst, ◌∙◌, arith}
use Rattle.std.specs.Prelude.{filter, flat_map, ◌||◌, not}
use Rattle.std.proofs.lemmas.Bool.Decides.{nat_tests}
use Rattle.p2p_log.specs.declared.queue.Queue.{Queue}
use Rattle.p2p_log.specs.declared.item.Item.{Item}
use Rattle.p2p_log.specs.declared.item.Envelope.{Envelope}
use Rattle.p2p_log.specs.declared.entry.Entry.{Entry}
use Rattle.p2p_log.specs.QueueCode.{same_queue}
use Rattle.p2p_log.specs.Lines.{name_of, same_name, placed, goes, stays, live_from, stands_in}
use Rattle.p2p_log.specs.Apart.{NoneNamed, AreApart}
use Rattle.p2p_log.proofs.Filters.{filter-same}
use Rattle.p2p_log.proofs.Queues.{same_queue-congr, same_queue-sym}

pub same_name-refl : (n : ℕ × ℕ) → same_name n n ≡ true
same_name-refl n = grind (arith, nat_tests)

pub same_name-sym : (m n : ℕ × ℕ) → same_name m n ≡ same_name n m
same_name-sym m n = grind (arith, nat_tests)

-- ---- filters and lists in a row

pub NoneNamed-filter : (n : ℕ × ℕ) (p : Envelope → Bool) (xs : List Envelope) → NoneNamed n xs → NoneNamed n (filter p xs)
NoneNamed-filter n p [] h = tt
NoneNamed-filter n p (x ∷ xs) h =
    elim (p x) as (λ b. NoneNamed n (cond b (x ∷ filter p xs) (filter p xs))) [
      | true ↦ (h.0, NoneNamed-filter n p xs h.1)
      | false ↦ NoneNamed-filter n p xs h.1
    ]

pub AreApart-filter : (p : Envelope → Bool) (xs : List Envelope) → AreApart xs → AreApart (filter p xs)
AreApart-filter p [] h = tt
AreApart-filter p (x ∷ xs) h =
    elim (p x) as (λ b. AreApart (cond b (x ∷ filter p xs) (filter p xs))) [
      | true ↦ (NoneNamed-filter (name_of x) p xs h.0, AreApart-filter p xs h.1)
      | false ↦ AreApart-filter p xs h.1
    ]

pub NoneNamed-append : (n : ℕ × ℕ) (xs ys : List Envelope) → NoneNamed n xs → NoneNamed n ys → NoneNamed n (xs ++ ys)
NoneNamed-append n [] ys a b = b
NoneNamed-append n (x ∷ xs) ys a b = (a.0, NoneNamed-append n xs ys a.1 b)

-- each of the first is named as none of the second
abbrev pub AllApart : List Envelope → List Envelope → Type 0
AllApart [] ys = Unit {0}
AllApart (x ∷ xs) ys = NoneNamed (name_of x) ys × AllApart xs ys

pub AllApart-filter : (p : Envelope → Bool) (xs ys : List Envelope) → AllApart xs ys → AllApart (filter p xs) ys
AllApart-filter p [] ys h = tt
AllApart-filter p (x ∷ xs) ys h =
    elim (p x) as (λ b. AllApart (cond b (x ∷ filter p xs) (filter p xs)) ys) [
      | true ↦ (h.0, AllApart-filter p xs ys h.1)
      | false ↦ AllApart-filter p xs ys h.1
    ]

pub AreApart-append : (xs ys : List Envelope) → AreApart xs → AreApart ys → AllApart xs ys → AreApart (xs ++ ys)
AreApart-append [] ys a b c = b
AreApart-append (x ∷ xs) ys a b c = (NoneNamed-append (name_of x) xs ys a.0 c.0, AreApart-append xs ys a.1 b c.1)

-- ---- the items of one entry, and of later ones

pub NoneNamed-placed_later : (n p q : ℕ) (xs : List (Queue × Item)) → p < q → NoneNamed (n, p) (placed n q xs)
NoneNamed-placed_later n p q [] h = tt
NoneNamed-placed_later n p q (x ∷ xs) h = (grind (arith, nat_tests), NoneNamed-placed_later n p (q + 1) xs (omega arith))

pub NoneNamed-placed_other : (n m p q : ℕ) (xs : List (Queue × Item)) → n < m → NoneNamed (n, p) (placed m q xs)
NoneNamed-placed_other n m p q [] h = tt
NoneNamed-placed_other n m p q (x ∷ xs) h = (grind (arith, nat_tests), NoneNamed-placed_other n m p (q + 1) xs h)

pub AreApart-placed : (n p : ℕ) (xs : List (Queue × Item)) → AreApart (placed n p xs)
AreApart-placed n p [] = tt
AreApart-placed n p (x ∷ xs) = (NoneNamed-placed_later n p (p + 1) xs (omega arith), AreApart-placed n (p + 1) xs)

pub NoneNamed-live_from : (n m p : ℕ) (es : List Entry) → n < m → NoneNamed (n, p) (live_from m es)
unfolding live_from
NoneNamed-live_from n m p [] h = tt
NoneNamed-live_from n m p (e ∷ es) h =
    NoneNamed-append (n, p) (filter (stays (flat_map goes es)) (placed m 0 e.puts)) (live_from (m + 1) es)
    (NoneNamed-filter (n, p) (stays (flat_map goes es)) (placed m 0 e.puts) (NoneNamed-placed_other n m p 0 e.puts h))
    (NoneNamed-live_from n (m + 1) p es (omega arith))

AllApart-placed_live : (n p : ℕ) (xs : List (Queue × Item)) (es : List Entry) → AllApart (placed n p xs) (live_from (n + 1) es)
AllApart-placed_live n p [] es = tt
AllApart-placed_live n p (x ∷ xs) es = (NoneNamed-live_from n (n + 1) p es (omega arith), AllApart-placed_live n (p + 1) xs es)

-- no two items that stand in queues have one name
pub AreApart-live_from : (n : ℕ) (es : List Entry) → AreApart (live_from n es)
unfolding live_from
AreApart-live_from n [] = tt
AreApart-live_from n (e ∷ es) =
    let gone = flat_map goes es in
    AreApart-append (filter (stays gone) (placed n 0 e.puts)) (live_from (n + 1) es)
    (AreApart-filter (stays gone) (placed n 0 e.puts) (AreApart-placed n 0 e.puts))
    (AreApart-live_from (n + 1) es)
    (AllApart-filter (stays gone) (placed n 0 e.puts) (live_from (n + 1) es) (AllApart-placed_live n 0 e.puts es))

-- ---- what goes by its name

-- where none has the name, all stay
pub filter_stays-none : (n : ℕ × ℕ) (xs : List Envelope) → NoneNamed n xs → filter (stays (n ∷ [])) xs ≡ xs
filter_stays-none n [] h = refl
filter_stays-none n (x ∷ xs) h =
    let e : stays (n ∷ []) x ≡ true = ap (λ b. not (b || false)) h.0 in
    ap (λ b. cond b (x ∷ filter (stays (n ∷ [])) xs) (filter (stays (n ∷ [])) xs)) e ∙ ap (λ r. x ∷ r) (filter_stays-none n xs h.1)

abbrev head_named : ℕ × ℕ → List Envelope → Bool
head_named n [] = false
head_named n (x ∷ xs) = same_name (name_of x) n

head_apart : (n : ℕ × ℕ) (x : Envelope) (xs rest : List Envelope) → NoneNamed n xs → xs ≡ x ∷ rest → same_name (name_of x) n ≡ false
head_apart n x [] rest h e = cc
head_apart n x (y ∷ ys) rest h e = ap (head_named n) (sym e) ∙ h.0

-- the item itself goes, and what follows it is its line's rest
at_head :
    (y : Envelope) (ys : List Envelope) (p q : Queue) (rest : List Envelope)
    → NoneNamed (name_of y) ys → stands_in p y ≡ true → filter (stands_in p) ys ≡ rest
    → filter (stands_in q) (filter (stays (name_of y ∷ [])) (y ∷ ys)) ≡ cond (same_queue p q) rest (filter (stands_in q) (y ∷ ys))
at_head y ys p q rest apart s er =
    let gone = stays (name_of y ∷ []) in
    let here : gone y ≡ false = ap (λ b. not (b || false)) (same_name-refl (name_of y)) in
    let kept : filter gone (y ∷ ys) ≡ ys =
    ap (λ b. cond b (y ∷ filter gone ys) (filter gone ys)) here ∙ filter_stays-none (name_of y) ys apart
    in
    ap (λ l. filter (stands_in q) l) kept
    ∙ (elim (same_queue p q) as (λ b. same_queue p q ≡ b → filter (stands_in q) ys ≡ cond b rest (filter (stands_in q) (y ∷ ys))) [
      | true ↦ λ k. filter-same (stands_in q) (stands_in p) (λ z. sym (same_queue-congr p q z.queue k)) ys ∙ er
      | false ↦ λ k.
          let away : stands_in q y ≡ false = same_queue-sym q y.queue ∙ (sym (same_queue-congr p y.queue q s) ∙ k) in
          sym (ap (λ b. cond b (y ∷ filter (stands_in q) ys) (filter (stands_in q) ys)) away)
    ]) refl

-- an item before it, of another queue, stays
before_head :
    (y : Envelope) (ys : List Envelope) (p q : Queue) (x : Envelope) (rest : List Envelope)
    → same_name (name_of x) (name_of y) ≡ false → stands_in p y ≡ false
    → filter (stands_in q) (filter (stays (name_of x ∷ [])) ys) ≡ cond (same_queue p q) rest (filter (stands_in q) ys)
    → filter (stands_in q) (filter (stays (name_of x ∷ [])) (y ∷ ys)) ≡ cond (same_queue p q) rest (filter (stands_in q) (y ∷ ys))
before_head y ys p q x rest ne s ih =
    let gone = stays (name_of x ∷ []) in
    let here : gone y ≡ true = ap (λ b. not (b || false)) (same_name-sym (name_of y) (name_of x) ∙ ne) in
    let kept : filter gone (y ∷ ys) ≡ y ∷ filter gone ys = ap (λ b. cond b (y ∷ filter gone ys) (filter gone ys)) here in
    ap (λ l. filter (stands_in q) l) kept
    ∙ (ap (λ r. cond (stands_in q y) (y ∷ r) r) ih
    ∙ (elim (same_queue p q) as (λ b. same_queue p q ≡ b → cond (stands_in q y) (y ∷ cond b rest (filter (stands_in q) ys)) (cond b rest (filter (stands_in q) ys)) ≡ cond b rest (cond (stands_in q y) (y ∷ filter (stands_in q) ys) (filter (stands_in q) ys))) [
      | true ↦ λ k. ap (λ b. cond b (y ∷ rest) rest) (sym (same_queue-congr p q y.queue k) ∙ s)
      | false ↦ λ k. refl
    ]) refl)

-- the first item of a queue goes: its line is the rest, and each other line is as it was
pub filter_stays-first :
    (xs : List Envelope) (p q : Queue) (x : Envelope) (rest : List Envelope)
    → AreApart xs → filter (stands_in p) xs ≡ x ∷ rest
    → filter (stands_in q) (filter (stays (name_of x ∷ [])) xs) ≡ cond (same_queue p q) rest (filter (stands_in q) xs)
filter_stays-first [] p q x rest apart h = cc
filter_stays-first (y ∷ ys) p q x rest apart h =
    (elim (stands_in p y) as (λ b. stands_in p y ≡ b → cond b (y ∷ filter (stands_in p) ys) (filter (stands_in p) ys) ≡ x ∷ rest → filter (stands_in q) (filter (stays (name_of x ∷ [])) (y ∷ ys)) ≡ cond (same_queue p q) rest (filter (stands_in q) (y ∷ ys))) [
      | true ↦ λ s e.
          let ey : y ≡ x = cc in
          let er : filter (stands_in p) ys ≡ rest = cc in
          subst (λ (z : Envelope). filter (stands_in q) (filter (stays (name_of z ∷ [])) (y ∷ ys)) ≡ cond (same_queue p q) rest (filter (stands_in q) (y ∷ ys))) ey
          (at_head y ys p q rest apart.0 s er)
      | false ↦ λ s e.
          before_head y ys p q x rest
          (head_apart (name_of y) x (filter (stands_in p) ys) rest (NoneNamed-filter (name_of y) (stands_in p) ys apart.0) e)
          s (filter_stays-first ys p q x rest apart.1 e)
    ]) refl h
