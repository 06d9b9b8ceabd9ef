-- The lines of what was taken, where that is all that was sent.
use Rattle.std.proofs.Common.{◌≡◌, ℕ, zero, suc, ◌<◌, ◌≤◌, List, [], refl, ap, ◌∙◌, arith, Result, Ok, Err, IfOk}
use Rattle.std.specs.Prelude.{String}
use Rattle.std.specs.String.{string_bytes}
use Rattle.p2p_threads.specs.declared.numbered.Numbered.{Numbered}
use Rattle.p2p_threads.specs.ThreadText.{below, line_onto, lines_onto, thread_text}
use Rattle.p2p_threads.specs.TakenOf.{taken_of, HaveAll, taken_onto}

pub all_lines : (out : List ℕ) (messages : List Numbered) (n m : ℕ) → HaveAll n m messages → taken_onto out messages n m ≡ lines_onto out n m
all_lines out messages zero m all = refl
all_lines out messages (suc n) m all =
    let before : taken_onto out messages n m ≡ lines_onto out n m = all_lines out messages n m (λ i lt. all i (omega arith)) in
    ap (λ w. line_onto w m n (taken_of n messages)) before ∙ ap (λ w. line_onto (lines_onto out n m) m n w) (all n (omega arith))

pub all_text : (messages : List Numbered) (n m : ℕ) → HaveAll n m messages → taken_onto [] messages n m ≡ thread_text n m
unfolding thread_text
all_text messages n m all = all_lines [] messages n m all

pub in_ok : {T E : Type 0} (f : T → List ℕ) (r : Result T E) (a b : List ℕ) → a ≡ b → IfOk r (λ t. f t ≡ a) → IfOk r (λ t. f t ≡ b)
in_ok f (Ok t) a b e is = is ∙ e
in_ok f (Err x) a b e is = tt
