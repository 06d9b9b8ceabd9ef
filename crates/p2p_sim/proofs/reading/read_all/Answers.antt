use Rattle.std.proofs.Common.{◌≡◌, ◌≤◌, ◌++◌, length, length-append, arith, refl}
use Rattle.std.proofs.lemmas.List.{length-take}
use Rattle.p2p_sim.proofs.TakesLaws.{Takes-more}
use Rattle.p2p_sim.proofs.reading.read_all.Goals as goal

-- what was read before and the piece read last are one byte too many
pub returns-then-front-room-clause-taken : goal.returns-then-front-room-clause-taken
returns-then-front-room-clause-taken g c =
    let all : length (c.loop-front.bytes.items ++ c.in-Ok-read_front.front.now) ≡ 16777217 = omega (arith, length-append c.loop-front.bytes.items c.in-Ok-read_front.front.now, c.loop-front.bytes.ok.0) in
    (c.loop-front.bytes.items ++ c.in-Ok-read_front.front.now, Takes-more _ _ _ _ _ c.loop-front.invariant.took c.in-Ok-read_front.ensures.took, omega arith, ((λ _. all), (λ _. refl)))

-- they are within the limit
pub returns-then-is_err-clause-taken : goal.returns-then-is_err-clause-taken
returns-then-is_err-clause-taken g c =
    let asked = length-take c.min.result c.deref_mut.result.now in
    let less : length (c.loop-front.bytes.items ++ c.in-Ok-read_front.front.now) ≤ 16777216 = omega (arith, length-append c.loop-front.bytes.items c.in-Ok-read_front.front.now, c.loop-front.bytes.ok.0, c.in-Ok-read_front.ensures.within, asked) in
    (c.loop-front.bytes.items ++ c.in-Ok-read_front.front.now, Takes-more _ _ _ _ _ c.loop-front.invariant.took c.in-Ok-read_front.ensures.took, omega arith, ((λ e. absurd (cc)), (λ e. absurd (omega arith))))
