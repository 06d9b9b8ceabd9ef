-- What is taken of what stands in queues: each item the first of its queue when its turn comes.
use Rattle.std.proofs.Common.{◌≡◌, ℕ, zero, suc, ◌+◌, Bool, true, false, cond, List, [], ◌∷◌, ◌++◌, map, take, inl, inr, refl, ap, sym, subst, ◌∙◌, arith}
use Rattle.std.specs.Prelude.{filter, flat_map, not, ◌||◌, sum_by}
use Rattle.std.specs.List.{AllByRecursion as Each}
use Rattle.std.proofs.lemmas.List.Sums.{sum_by-cons}
use Rattle.p2p_log.specs.declared.queue.Queue.{Queue}
use Rattle.p2p_log.specs.declared.item.Envelope.{Envelope}
use Rattle.p2p_log.specs.QueueCode.{same_queue}
use Rattle.p2p_log.specs.Lines.{name_of, same_name, stays, stands_in, lines_in}
use Rattle.p2p_log.specs.Drained.{drained, each_with, drained_with}
use Rattle.p2p_log.specs.Apart.{NoneNamed, AreApart}
use Rattle.p2p_log.specs.Taken.{AreTaken}
use Rattle.p2p_log.proofs.Each.{Has, Has-of_kept, Each-has, Each-from_has, Each-append, Each-filter, Each-first, Each-weaker}
use Rattle.p2p_log.proofs.Filters.{filter-same, filter-none}
use Rattle.p2p_log.proofs.Lines.{filter_stays-append, filter_stays-nil}
use Rattle.p2p_log.proofs.Names.{AreApart-filter, same_name-refl, same_name-sym, filter_stays-none, filter_stays-first}
use Rattle.p2p_log.proofs.QueueNames.{Each-in_queue}
use Rattle.p2p_log.proofs.Queues.{same_queue-congr, same_queue-refl, same_queue-sym}

pub none_each : (n : ℕ × ℕ) (xs : List Envelope) → NoneNamed n xs → Each (λ x. same_name (name_of x) n ≡ false) xs
none_each n [] h = tt
none_each n (x ∷ xs) h = (h.0, none_each n xs h.1)

first_here : (w : Envelope → ℕ) (y : Envelope) (ys : List Envelope) → AreApart (y ∷ ys)
    → sum_by w (y ∷ ys) ≡ w y + sum_by w (filter (stays (name_of y ∷ [])) (y ∷ ys))
first_here w y ys apart =
    let kept = filter (stays (name_of y ∷ [])) ys in
    let gone : stays (name_of y ∷ []) y ≡ false = ap (λ b. not (b || false)) (same_name-refl (name_of y)) in
    let left : cond (stays (name_of y ∷ []) y) (y ∷ kept) kept ≡ ys =
    ap (λ b. cond b (y ∷ kept) kept) gone ∙ filter_stays-none (name_of y) ys apart.0
    in
    sum_by-cons w y ys ∙ ap (λ r. w y + sum_by w r) (sym left)

-- the first item of a queue goes: what stands in queues weighs less by it
pub sum_by-first :
    (w : Envelope → ℕ) (xs : List Envelope) (q : Queue) (x : Envelope) (rest : List Envelope)
    → AreApart xs → filter (stands_in q) xs ≡ x ∷ rest
    → sum_by w xs ≡ w x + sum_by w (filter (stays (name_of x ∷ [])) xs)
sum_by-first w [] q x rest apart h = absurd (cc)
sum_by-first w (y ∷ ys) q x rest apart h =
    (elim (stands_in q y) as (λ b. cond b (y ∷ filter (stands_in q) ys) (filter (stands_in q) ys) ≡ x ∷ rest → sum_by w (y ∷ ys) ≡ w x + sum_by w (filter (stays (name_of x ∷ [])) (y ∷ ys))) [
      | true ↦ λ e.
          let same : y ≡ x = cc in
          subst (λ z. sum_by w (y ∷ ys) ≡ w z + sum_by w (filter (stays (name_of z ∷ [])) (y ∷ ys))) same (first_here w y ys apart)
      | false ↦ λ e.
          let kept = filter (stays (name_of x ∷ [])) ys in
          let other : same_name (name_of x) (name_of y) ≡ false =
          Each-first (λ z. same_name (name_of z) (name_of y) ≡ false) (stands_in q) ys x rest (none_each (name_of y) ys apart.0) e
          in
          let stay : stays (name_of x ∷ []) y ≡ true = ap (λ b. not (b || false)) (same_name-sym (name_of y) (name_of x) ∙ other) in
          let all : cond (stays (name_of x ∷ []) y) (y ∷ kept) kept ≡ y ∷ kept = ap (λ b. cond b (y ∷ kept) kept) stay in
          let sum : sum_by w ys ≡ w x + sum_by w kept = sum_by-first w ys q x rest apart.1 e in
          let whole : sum_by w (cond (stays (name_of x ∷ []) y) (y ∷ kept) kept) ≡ w y + sum_by w kept = ap (λ r. sum_by w r) all ∙ sum_by-cons w y kept in
          let front : sum_by w (y ∷ ys) ≡ w y + sum_by w ys = sum_by-cons w y ys in
          omega (arith, sum, whole, front)
    ]) h

-- the same, for all that are taken
pub sum_by-taken :
    (w : Envelope → ℕ) (xs taken : List Envelope) → AreApart xs → AreTaken xs taken
    → sum_by w xs ≡ sum_by w taken + sum_by w (filter (stays (map name_of taken)) xs)
sum_by-taken w xs [] apart h =
    let same : sum_by w xs ≡ sum_by w (filter (stays []) xs) = ap (λ r. sum_by w r) (sym (filter_stays-nil xs)) in
    omega (arith, same)
sum_by-taken w xs (x ∷ taken) apart h =
    let left = filter (stays (name_of x ∷ [])) xs in
    let one : sum_by w xs ≡ w x + sum_by w left = sum_by-first w xs x.queue x h.0 apart h.1 in
    let more : sum_by w left ≡ sum_by w taken + sum_by w (filter (stays (map name_of taken)) left) =
    sum_by-taken w left taken (AreApart-filter (stays (name_of x ∷ [])) xs apart) h.2
    in
    let joined : sum_by w (filter (stays (name_of x ∷ map name_of taken)) xs) ≡ sum_by w (filter (stays (map name_of taken)) left) =
    ap (λ r. sum_by w r) (filter_stays-append (name_of x ∷ []) (map name_of taken) xs)
    in
    let front : sum_by w (x ∷ taken) ≡ w x + sum_by w taken = sum_by-cons w x taken in
    omega (arith, one, more, joined, front)

-- what holds of all that stand there holds of those that are taken
pub Each-taken : (P : Envelope → Type 0) (xs taken : List Envelope) → Each P xs → AreTaken xs taken → Each P taken
Each-taken P xs [] h t = tt
Each-taken P xs (x ∷ taken) h t = (
  Each-first P (stands_in x.queue) xs x t.0 h t.1,
  Each-taken P (filter (stays (name_of x ∷ [])) xs) taken (Each-filter P (stays (name_of x ∷ [])) xs h) t.2,
)

-- what is taken stood there
pub Has-taken : (xs taken : List Envelope) (x : Envelope) → AreTaken xs taken → Has taken x → Has xs x
Has-taken xs taken x h has = Each-has (Has xs) taken x (Each-taken (Has xs) xs taken (Each-from_has (Has xs) xs (λ y k. k)) h) has

-- ---- what is taken of a queue is the front of its line

module _ (q : Queue) where
  -- the first of a queue that goes: it stands at the front of this line, or not in this line at all
  one_front : (xs : List Envelope) (x : Envelope) (rest : List Envelope) (more : List Envelope) (b : Bool) → same_queue x.queue q ≡ b
      → filter (stands_in x.queue) xs ≡ x ∷ rest → cond b rest (filter (stands_in q) xs) ≡ more
      → filter (stands_in q) xs ≡ cond (stands_in q x) (x ∷ more) more
  one_front xs x rest more true same first left =
      let here : stands_in q x ≡ true = same_queue-sym q x.queue ∙ same in
      filter-same (stands_in q) (stands_in x.queue) (λ z. sym (same_queue-congr x.queue q z.queue same)) xs
      ∙ (first ∙ (ap (λ l. x ∷ l) left ∙ sym (ap (λ b. cond b (x ∷ more) more) here)))
  one_front xs x rest more false same first left =
      let away : stands_in q x ≡ false = same_queue-sym q x.queue ∙ same in
      left ∙ sym (ap (λ b. cond b (x ∷ more) more) away)

  cond_append : (b : Bool) (x : Envelope) (xs ys : List Envelope) → cond b (x ∷ (xs ++ ys)) (xs ++ ys) ≡ cond b (x ∷ xs) xs ++ ys
  cond_append true x xs ys = refl
  cond_append false x xs ys = refl

  -- a line is what is taken of it, and then what is left
  pub filter-taken : (xs taken : List Envelope) → AreApart xs → AreTaken xs taken
      → filter (stands_in q) xs ≡ filter (stands_in q) taken ++ filter (stands_in q) (filter (stays (map name_of taken)) xs)
  filter-taken xs [] apart h = ap (filter (stands_in q)) (sym (filter_stays-nil xs))
  filter-taken xs (x ∷ taken) apart h =
      let left = filter (stays (name_of x ∷ [])) xs in
      let later = filter (stays (map name_of taken)) left in
      let more = filter (stands_in q) taken ++ filter (stands_in q) later in
      let whole : filter (stands_in q) left ≡ more = filter-taken left taken (AreApart-filter (stays (name_of x ∷ [])) xs apart) h.2 in
      let goes : filter (stands_in q) left ≡ cond (same_queue x.queue q) h.0 (filter (stands_in q) xs) = filter_stays-first xs x.queue q x h.0 apart h.1 in
      let joined : filter (stays (name_of x ∷ map name_of taken)) xs ≡ later = filter_stays-append (name_of x ∷ []) (map name_of taken) xs in
      one_front xs x h.0 more (same_queue x.queue q) refl h.1 (sym goes ∙ whole)
      ∙ (cond_append (stands_in q x) x (filter (stands_in q) taken) (filter (stands_in q) later)
      ∙ ap (λ l. filter (stands_in q) (x ∷ taken) ++ filter (stands_in q) l) (sym joined))

-- ---- what may be taken

-- what may be taken, and then of what is left
pub AreTaken-append : (xs a b : List Envelope) → AreTaken xs a → AreTaken (filter (stays (map name_of a)) xs) b → AreTaken xs (a ++ b)
AreTaken-append xs [] b h k = subst (λ l. AreTaken l b) (filter_stays-nil xs) k
AreTaken-append xs (x ∷ a) b h k = (
  h.0,
  h.1,
  AreTaken-append (filter (stays (name_of x ∷ [])) xs) a b h.2 (subst (λ l. AreTaken l b) (filter_stays-append (name_of x ∷ []) (map name_of a) xs) k),
)

pub AreTaken-first : (xs a b : List Envelope) → AreTaken xs (a ++ b) → AreTaken xs a
AreTaken-first xs [] b h = tt
AreTaken-first xs (x ∷ a) b h = (h.0, h.1, AreTaken-first (filter (stays (name_of x ∷ [])) xs) a b h.2)

pub AreTaken-take : (n : ℕ) (xs ys : List Envelope) → AreTaken xs ys → AreTaken xs (take n ys)
AreTaken-take zero xs ys h = tt
AreTaken-take (suc n) xs [] h = tt
AreTaken-take (suc n) xs (y ∷ ys) h = (h.0, h.1, AreTaken-take n (filter (stays (name_of y ∷ [])) xs) ys h.2)

-- a whole line
pub line_taken : (xs : List Envelope) (q : Queue) (ys : List Envelope) → AreApart xs → filter (stands_in q) xs ≡ ys → AreTaken xs ys
line_taken xs q [] apart e = tt
line_taken xs q (y ∷ ys) apart e =
    let left = filter (stays (name_of y ∷ [])) xs in
    let same : y.queue ≡ q = (subst (Each (λ z. z.queue ≡ q)) e (Each-in_queue q xs)).0 in
    let rest : filter (stands_in q) left ≡ ys =
    filter_stays-first xs q q y ys apart e ∙ ap (λ t. cond t ys (filter (stands_in q) xs)) (same_queue-refl q)
    in
    (ys, subst (λ p. filter (stands_in p) xs ≡ y ∷ ys) (sym same) e, line_taken left q ys (AreApart-filter (stays (name_of y ∷ [])) xs apart) rest)

-- no two of these queues are one
abbrev pub AreDifferent : List Queue → Type 0
AreDifferent [] = Unit {0}
AreDifferent (q ∷ qs) = Each (λ p. same_queue q p ≡ false) qs × AreDifferent qs

-- where a line goes, another stays
pub other_left : (xs : List Envelope) (q p : Queue) → AreApart xs → same_queue q p ≡ false
    → filter (stands_in p) (filter (stays (map name_of (filter (stands_in q) xs))) xs) ≡ filter (stands_in p) xs
other_left xs q p apart differ =
    let line = filter (stands_in q) xs in
    let none : filter (stands_in p) line ≡ [] =
    filter-none (stands_in p) line
    (Each-weaker (λ z. z.queue ≡ q) (λ z. stands_in p z ≡ false) (λ z e. ap (same_queue p) e ∙ (same_queue-sym p q ∙ differ)) line (Each-in_queue q xs))
    in
    sym (filter-taken p xs line apart (line_taken xs q line apart refl) ∙ ap (λ l. l ++ filter (stands_in p) (filter (stays (map name_of line)) xs)) none)

others_left : (xs : List Envelope) (q : Queue) (qs : List Queue) → AreApart xs → Each (λ p. same_queue q p ≡ false) qs
    → lines_in (filter (stays (map name_of (filter (stands_in q) xs))) xs) qs ≡ lines_in xs qs
others_left xs q [] apart h = refl
others_left xs q (p ∷ ps) apart h =
    ap (λ l. l ++ lines_in (filter (stays (map name_of (filter (stands_in q) xs))) xs) ps) (other_left xs q p apart h.0)
    ∙ ap (λ l. filter (stands_in p) xs ++ l) (others_left xs q ps apart h.1)

-- all that stands in these queues, one after another
pub lines_taken : (xs : List Envelope) (qs : List Queue) → AreApart xs → AreDifferent qs → AreTaken xs (lines_in xs qs)
lines_taken xs [] apart h = tt
lines_taken xs (q ∷ qs) apart h =
    let line = filter (stands_in q) xs in
    let left = filter (stays (map name_of line)) xs in
    AreTaken-append xs line (lines_in xs qs) (line_taken xs q line apart refl)
    (subst (AreTaken left) (others_left xs q qs apart h.0) (lines_taken left qs (AreApart-filter (stays (map name_of line)) xs apart) h.1))

-- queues that are emptied one after another, be they different or not
pub drained_taken : (xs : List Envelope) (qs : List Queue) → AreApart xs → AreTaken xs (drained xs qs)
drained_taken xs [] apart = tt
drained_taken xs (q ∷ qs) apart =
    let l = filter (stands_in q) xs in
    let left = filter (stays (map name_of l)) xs in
    AreTaken-append xs l (drained left qs) (line_taken xs q l apart refl) (drained_taken left qs (AreApart-filter (stays (map name_of l)) xs apart))

-- ---- queues that are emptied with those that their items bring

-- each item that is taken out of queues stood there
pub Each-drained : (P : Envelope → Type 0) (xs : List Envelope) (qs : List Queue) → Each (λ q. (x : Envelope) → x.queue ≡ q → P x) qs → Each P (drained xs qs)
Each-drained P xs [] h = tt
Each-drained P xs (q ∷ qs) h =
    let l = filter (stands_in q) xs in
    let left = filter (stays (map name_of l)) xs in
    Each-append P l (drained left qs) (Each-weaker (λ x. x.queue ≡ q) P h.0 l (Each-in_queue q xs)) (Each-drained P left qs h.1)

-- queues that are emptied one after another give their lines, where no two of them are one
lines_drained : (xs ys : List Envelope) (qs : List Queue) → AreApart xs → AreDifferent qs → Each (λ q. filter (stands_in q) xs ≡ filter (stands_in q) ys) qs
    → drained xs qs ≡ flat_map (λ q. filter (stands_in q) ys) qs
lines_drained xs ys [] apart differ same = refl
lines_drained xs ys (q ∷ qs) apart differ same =
    let l = filter (stands_in q) xs in
    let left = filter (stays (map name_of l)) xs in
    ap (λ a. a ++ drained left qs) same.0
    ∙ ap (λ b. filter (stands_in q) ys ++ b)
    (lines_drained left ys qs (AreApart-filter (stays (map name_of l)) xs apart) differ.1 (still qs differ.0 same.1))
  where
    still : (ps : List Queue) → Each (λ p. same_queue q p ≡ false) ps → Each (λ p. filter (stands_in p) xs ≡ filter (stands_in p) ys) ps
        → Each (λ p. filter (stands_in p) (filter (stays (map name_of (filter (stands_in q) xs))) xs) ≡ filter (stands_in p) ys) ps
    still [] d h = tt
    still (p ∷ ps) d h = (other_left xs q p apart d.0 ∙ h.0, still ps d.1 h.1)

pub drained_lines : (xs : List Envelope) (qs : List Queue) → AreApart xs → AreDifferent qs → drained xs qs ≡ flat_map (λ q. filter (stands_in q) xs) qs
drained_lines xs qs apart differ = lines_drained xs xs qs apart differ (same qs)
  where
    same : (qs : List Queue) → Each (λ q. filter (stands_in q) xs ≡ filter (stands_in q) xs) qs
    same [] = tt
    same (q ∷ qs) = (refl, same qs)

module _ (brings : Envelope → List Queue) where
  -- no item of this queue brings the queue itself
  abbrev pub BringsOthers : Queue → Type 0
  BringsOthers q = (x : Envelope) → x.queue ≡ q → Each (λ p. same_queue q p ≡ false) (brings x)

  -- a line stays where other queues are emptied
  line_left : (xs : List Envelope) (q : Queue) (qs : List Queue) → AreApart xs → Each (λ p. same_queue q p ≡ false) qs
      → filter (stands_in q) (filter (stays (map name_of (drained xs qs))) xs) ≡ filter (stands_in q) xs
  line_left xs q qs apart differ =
      let l = drained xs qs in
      let none : filter (stands_in q) l ≡ [] =
      filter-none (stands_in q) l
      (Each-drained (λ x. stands_in q x ≡ false) xs qs
      (Each-weaker (λ p. same_queue q p ≡ false) (λ p. (x : Envelope) → x.queue ≡ p → stands_in q x ≡ false) (λ p d x e. ap (same_queue q) e ∙ d) qs differ))
      in
      sym (filter-taken q xs l apart (drained_taken xs qs apart) ∙ ap (λ k. k ++ filter (stands_in q) (filter (stays (map name_of l)) xs)) none)

  each_with_taken : (q : Queue) → BringsOthers q → (xs ys : List Envelope) → AreApart xs → filter (stands_in q) xs ≡ ys → AreTaken xs (each_with brings xs ys)
  each_with_taken q others xs [] apart e = tt
  each_with_taken q others xs (y ∷ ys) apart e =
      let left = filter (stays (name_of y ∷ [])) xs in
      let brought = drained left (brings y) in
      let apart_left : AreApart left = AreApart-filter (stays (name_of y ∷ [])) xs apart in
      let same : y.queue ≡ q = (subst (Each (λ z. z.queue ≡ q)) e (Each-in_queue q xs)).0 in
      let rest : filter (stands_in q) left ≡ ys =
      filter_stays-first xs q q y ys apart e ∙ ap (λ t. cond t ys (filter (stands_in q) xs)) (same_queue-refl q)
      in (
        ys,
        subst (λ p. filter (stands_in p) xs ≡ y ∷ ys) (sym same) e,
        AreTaken-append left brought (each_with brings (filter (stays (map name_of brought)) left) ys) (drained_taken left (brings y) apart_left)
            (each_with_taken q others (filter (stays (map name_of brought)) left) ys (AreApart-filter (stays (map name_of brought)) left apart_left)
            (line_left left q (brings y) apart_left (others y same) ∙ rest)),
      )

  pub drained_with_taken : (xs : List Envelope) (qs : List Queue) → AreApart xs → Each BringsOthers qs → AreTaken xs (drained_with brings xs qs)
  drained_with_taken xs [] apart h = tt
  drained_with_taken xs (q ∷ qs) apart h =
      let l = each_with brings xs (filter (stands_in q) xs) in
      let left = filter (stays (map name_of l)) xs in
      AreTaken-append xs l (drained_with brings left qs) (each_with_taken q h.0 xs (filter (stands_in q) xs) apart refl)
      (drained_with_taken left qs (AreApart-filter (stays (map name_of l)) xs apart) h.1)

  -- each stood in one of these queues, or in one that an item of them brings
  module _ (P : Envelope → Type 0) (all : List Envelope) where
    each_with_each : (xs ys : List Envelope) → Each P ys → Each (λ y. (x : Envelope) → Has (brings y) x.queue → P x) ys → Each P (each_with brings xs ys)
    each_with_each xs [] h k = tt
    each_with_each xs (y ∷ ys) h k =
        let left = filter (stays (name_of y ∷ [])) xs in
        let brought = drained left (brings y) in (
          h.0,
          Each-append P brought (each_with brings (filter (stays (map name_of brought)) left) ys)
              (Each-drained P left (brings y) (Each-from_has (λ q. (x : Envelope) → x.queue ≡ q → P x) (brings y) (λ q has x e. k.0 x (subst (Has (brings y)) (sym e) has))))
              (each_with_each (filter (stays (map name_of brought)) left) ys h.1 k.1),
        )

    pub Each-drained_with : (xs : List Envelope) (qs : List Queue) → ((y : Envelope) → Has xs y → Has all y)
        → ((x : Envelope) → Has qs x.queue → P x) → ((y x : Envelope) → Has all y → Has qs y.queue → Has (brings y) x.queue → P x) → Each P (drained_with brings xs qs)
    Each-drained_with xs [] f g h = tt
    Each-drained_with xs (q ∷ qs) f g h =
        let line = filter (stands_in q) xs in
        let l = each_with brings xs line in
        let left = filter (stays (map name_of l)) xs in
        let in_queue : Each (λ z. z.queue ≡ q) line = Each-in_queue q xs in
        Each-append P l (drained_with brings left qs)
        (each_with_each xs line (Each-weaker (λ z. z.queue ≡ q) P (λ x e. g x (inl (sym e))) line in_queue)
        (Each-from_has (λ y. (x : Envelope) → Has (brings y) x.queue → P x) line
        (λ y has x b. h y x (f y (Has-of_kept (stands_in q) xs y has)) (inl (sym (Each-has (λ z. z.queue ≡ q) line y in_queue has))) b)))
        (Each-drained_with left qs (λ y k. f y (Has-of_kept (stays (map name_of l)) xs y k)) (λ x k. g x (inr k)) (λ y x a b c. h y x a (inr b) c))
