use Rattle.std.proofs.Common.{◌≡◌, ◌<◌, ◌++◌, ◌∷◌, [], List, Bool, ℕ, length, take, arith, sym, ap, ◌∙◌}
use Rattle.std.proofs.lemmas.Bool.{eqb-true, eqb-false}
use Rattle.std.proofs.lemmas.List.{take-append-drop}
use Rattle.p2p_discovery.specs.Spelling.{packed}
use Rattle.p2p_discovery.proofs.Loops.{packed-more, packed-end}
use Rattle.p2p_discovery.proofs.writing.bits.put_bits.Goals as goal

pub loop-rest-preserved : goal.loop-rest-preserved
loop-rest-preserved c =
    let l = c.loop-rest in
    let rest : List Bool = l.rest.now in
    let none = eqb-false (length rest) 0 (sym c.loop-rest-test.ensures) in
    let some : 0 < length rest = omega (arith, none) in
    let front : List Bool = c.split_at.result.0.now in
    let after : List Bool = c.split_at.result.1.now in
    let here : ℕ = c.first_byte-here.result in
    let parts : rest ≡ front ++ after
    = sym (ap (λ (bits : List Bool). bits ++ after) c.split_at.ensures.front ∙ ap (λ (bits : List Bool). take here rest ++ bits) c.split_at.ensures.back ∙ take-append-drop here rest) in
    packed-more l.out.items c.push.new.self.items (c.args.out.now.items ++ packed c.args.bits.now) rest front after some parts (c.split_at.ensures.front_len ∙ c.first_byte-here.ensures)
    (c.in_ok-push.ensures.items ∙ ap (λ (byte : ℕ). l.out.items ++ byte ∷ []) c.packed_byte.ensures.value) l.invariant

pub returns : goal.returns
returns c = packed-end c.loop-rest.out.items (c.args.out.now.items ++ packed c.args.bits.now) c.loop-rest.rest.now (eqb-true _ _ (sym c.loop-rest-test.ensures)) c.loop-rest.invariant
