-- The events that are drawn, one after another.
use Rattle.std.proofs.Common.{◌≡◌, ℕ, ◌+◌, ◌-◌, ◌<◌, suc, List, [], ◌∷◌, ◌++◌, refl, sym, ap, ◌∙◌, arith, append_assoc}
use Rattle.rand_pcg.specs.Lcg.{Lcg}
use Rattle.p2p_runtime.specs.Draws.{drawn}
use Rattle.p2p_log.specs.declared.event.Event.{Event}
use Rattle.p2p_sim_script.specs.GeneratedActs.{drawn_act}
use Rattle.p2p_sim_script.specs.Generated.{event_at, drawn_from}

-- the first of them, where there is one, and then the others
pub drawn_from-next : (n count : ℕ) (g : Lcg) → n < count
    → drawn_from n (count - n) g ≡ event_at n (drawn_act n (drawn 7 g).0 (drawn 5 (drawn 7 g).1).0) ∷ drawn_from (n + 1) (count - (n + 1)) (drawn 5 (drawn 7 g).1).1
drawn_from-next n count g h = let e : count - n ≡ suc (count - (n + 1)) = omega (arith, h) in rw e refl

-- one of them is put, and then the others are left
pub draw-more : (before now all : List Event) (n count a c : ℕ) (g g1 g2 : Lcg) (e : Event) → n < count
    → a ≡ (drawn 7 g).0 → g1 ≡ (drawn 7 g).1 → c ≡ (drawn 5 g1).0 → g2 ≡ (drawn 5 g1).1 → e ≡ event_at n (drawn_act n a c) → now ≡ before ++ e ∷ []
    → before ++ drawn_from n (count - n) g ≡ all → now ++ drawn_from (n + 1) (count - (n + 1)) g2 ≡ all
draw-more before now all n count a c g g1 g2 e h first then second after is put left =
    let rest : List Event = drawn_from (n + 1) (count - (n + 1)) g2 in
    let next : drawn_from n (count - n) g ≡ e ∷ rest = rw (is, first, second, after, then) (drawn_from-next n count g h) in
    ap (λ (es : List Event). es ++ rest) put ∙ (append_assoc before (e ∷ []) rest ∙ (ap (λ (es : List Event). before ++ es) (sym next) ∙ left))
