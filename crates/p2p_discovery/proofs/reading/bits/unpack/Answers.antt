use Rattle.std.proofs.Common.{◌<◌, ◌≤◌, ◌^◌, get_or, arith, sym, ap, ◌∙◌, List, Bool, Ok}
use Rattle.p2p_discovery.specs.Reading.{unpacked}
use Rattle.p2p_discovery.proofs.Loops.{unpacked-more, unpacked-refused, unpacked-end}
use Rattle.p2p_discovery.proofs.reading.bits.unpack.Goals as goal

pub returns-then-from-pow : goal.returns-then-from-pow
returns-then-from-pow c =
    let l = c.loop-byte in
    let beyond : 2 ^ c.first_byte-here.result ≤ get_or c.args.bytes.now l.byte-index 0 = omega (arith, c.if-from-pow.true, c.pow.ensures, c.from.ensures) in
    λ _. unpacked-refused l.bits.items l.left c.first_byte-here.result l.byte-index c.args.bytes.now (unpacked c.args.count c.args.bytes.now) c.loop-byte-test.true c.first_byte-here.ensures beyond l.invariant

pub loop-byte-preserved : goal.loop-byte-preserved
loop-byte-preserved c =
    let l = c.loop-byte in
    let below : get_or c.args.bytes.now l.byte-index 0 < 2 ^ c.first_byte-here.result = omega (arith, c.if-from-pow.false, c.pow.ensures, c.from.ensures) in
    unpacked-more l.bits.items c.push_digits.new.bits.items l.left c.saturating_sub-left.result c.first_byte-here.result l.byte-index c.args.bytes.now (unpacked c.args.count c.args.bytes.now)
    c.loop-byte-test.true c.first_byte-here.ensures c.saturating_sub-left.ensures below c.in_ok-push_digits.ensures l.invariant

pub returns : goal.returns
returns c =
    let l = c.loop-byte in
    unpacked-end l.bits.items l.left l.byte-index c.args.bytes.now (unpacked c.args.count c.args.bytes.now) c.loop-byte-test.false l.invariant ∙ ap (λ (bits : List Bool). Ok bits) (sym c.new.ensures)
