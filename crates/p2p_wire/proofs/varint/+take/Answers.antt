use Rattle.std.proofs.Common.{◌≡◌, ℕ, suc, ◌-◌, ◌*◌, ◌^◌, ◌<◌, List, subst, arith}
use Rattle.std.proofs.lemmas.Result.{err_from_is_err_and}
use Rattle.p2p_wire.specs.Varint.{varint_at, Reads}
use Rattle.p2p_wire.proofs.Spellings.{at_end, at_last, at_bad_last, at_digit, at_more-err, at_more-zero, at_more-ok, reads_end, reads_at, read_below, fewer_fits, more_fits}
use Rattle.p2p_wire.proofs.varint.+take.Goals as goal

pub returns-in_err-byte-clause-exact : goal.returns-in_err-byte-clause-exact
returns-in_err-byte-clause-exact t c =
    let p = err_from_is_err_and c.from_residual.result c.from_residual.ensures.1 in
    rw (p.1, p.2, c.in_err-byte.ensures.1) (at_end c.args.width c.args.last c.args.places c.args.bytes.now c.in_err-byte.ensures.0)

pub returns-in_err-byte-clause-reads : goal.returns-in_err-byte-clause-reads
returns-in_err-byte-clause-reads t c = reads_end c.args.width c.args.last c.args.places c.args.bytes.now c.requires.some c.requires.digit c.in_err-byte.ensures.0

pub returns-then-byte-last-clause-exact : goal.returns-then-byte-last-clause-exact
returns-then-byte-last-clause-exact t c =
    rw c.from.ensures (at_last c.args.width c.args.last c.args.places c.in_ok-byte.byte c.args.bytes.now c.take_u8.new.bytes c.in_ok-byte.ensures.0 c.if-places-eq0.true c.if-byte-last.true)

pub returns-then-byte-last-clause-reads : goal.returns-then-byte-last-clause-reads
returns-then-byte-last-clause-reads t c =
    reads_at c.args.width c.args.last c.args.places c.in_ok-byte.byte c.args.bytes.now c.take_u8.new.bytes c.requires.some c.requires.digit c.in_ok-byte.ensures.1 c.in_ok-byte.ensures.0
    (λ fewer z le. absurd (omega arith))

pub returns-then-places-eq0-clause-exact : goal.returns-then-places-eq0-clause-exact
returns-then-places-eq0-clause-exact t c =
    at_bad_last c.args.width c.args.last c.args.places c.in_ok-byte.byte c.args.bytes.now c.take_u8.new.bytes c.in_ok-byte.ensures.0 c.if-places-eq0.true c.if-byte-last.false

pub returns-then-places-eq0-clause-reads : goal.returns-then-places-eq0-clause-reads
returns-then-places-eq0-clause-reads t c =
    reads_at c.args.width c.args.last c.args.places c.in_ok-byte.byte c.args.bytes.now c.take_u8.new.bytes c.requires.some c.requires.digit c.in_ok-byte.ensures.1 c.in_ok-byte.ensures.0
    (λ fewer z le. absurd (omega arith))

pub returns-then-byte-lt128-clause-exact : goal.returns-then-byte-lt128-clause-exact
returns-then-byte-lt128-clause-exact t c =
    let some : 0 < c.args.places = omega arith in
    rw c.from-then-byte-lt128.ensures (at_digit c.args.width c.args.last c.args.places c.in_ok-byte.byte c.args.bytes.now c.take_u8.new.bytes c.in_ok-byte.ensures.0 some c.if-byte-lt128.true)

pub returns-then-byte-lt128-clause-reads : goal.returns-then-byte-lt128-clause-reads
returns-then-byte-lt128-clause-reads t c =
    reads_at c.args.width c.args.last c.args.places c.in_ok-byte.byte c.args.bytes.now c.take_u8.new.bytes c.requires.some c.requires.digit c.in_ok-byte.ensures.1 c.in_ok-byte.ensures.0
    (λ fewer z le. absurd (omega arith))

pub take-requires : goal.take-requires
take-requires t c =
    let z : c.args.places ≡ suc (c.args.places - 1) = omega arith in
    (omega arith, (c.requires.some, (c.requires.digit, fewer_fits c.args.last c.args.places (c.args.places - 1) (2 ^ 64) z c.requires.range)))

pub returns-in_err-high-clause-exact : goal.returns-in_err-high-clause-exact
returns-in_err-high-clause-exact t c =
    let z : c.args.places ≡ suc (c.args.places - 1) = omega arith in
    let p = err_from_is_err_and c.from_residual-in_err-high.result c.from_residual-in_err-high.ensures.1 in
    rw (p.1, p.2) (at_more-err c.args.width c.args.last c.args.places (c.args.places - 1) c.in_ok-byte.byte c.args.bytes.now c.take_u8.new.bytes c.in_err-high.field-0.0
    c.in_ok-byte.ensures.0 z c.if-byte-lt128.false c.in_err-high.ensures.exact)

-- what the call for the higher digits says, at a number that is one less
one_less : (width last places : ℕ) (bytes : List ℕ) → Reads width (last * 128 ^ (places - 1)) bytes (varint_at width last (places - 1) bytes)
    → (fewer : ℕ) → places ≡ suc fewer → Reads width (last * 128 ^ fewer) bytes (varint_at width last fewer bytes)
one_less width last places bytes h fewer z =
    let e : places - 1 ≡ fewer = omega arith in
    subst (λ (k : ℕ). Reads width (last * 128 ^ k) bytes (varint_at width last k bytes)) e h

pub returns-in_err-high-clause-reads : goal.returns-in_err-high-clause-reads
returns-in_err-high-clause-reads t c =
    reads_at c.args.width c.args.last c.args.places c.in_ok-byte.byte c.args.bytes.now c.take_u8.new.bytes c.requires.some c.requires.digit c.in_ok-byte.ensures.1 c.in_ok-byte.ensures.0
    (λ fewer z le. one_less c.args.width c.args.last c.args.places c.take_u8.new.bytes c.take.ensures.reads fewer z)

pub returns-then-high-eq0-clause-exact : goal.returns-then-high-eq0-clause-exact
returns-then-high-eq0-clause-exact t c =
    let z : c.args.places ≡ suc (c.args.places - 1) = omega arith in
    at_more-zero c.args.width c.args.last c.args.places (c.args.places - 1) c.in_ok-byte.byte c.args.bytes.now c.take_u8.new.bytes c.take.new.bytes
    c.in_ok-byte.ensures.0 z c.if-byte-lt128.false (rw c.if-high-eq0.true at c.in_ok-high.ensures.exact)

pub returns-then-high-eq0-clause-reads : goal.returns-then-high-eq0-clause-reads
returns-then-high-eq0-clause-reads t c =
    reads_at c.args.width c.args.last c.args.places c.in_ok-byte.byte c.args.bytes.now c.take_u8.new.bytes c.requires.some c.requires.digit c.in_ok-byte.ensures.1 c.in_ok-byte.ensures.0
    (λ fewer z le. one_less c.args.width c.args.last c.args.places c.take_u8.new.bytes c.take.ensures.reads fewer z)

pub overflow_mul-result : goal.overflow_mul-result
overflow_mul-result t c =
    let z : c.args.places ≡ suc (c.args.places - 1) = omega arith in
    let below = read_below c.args.width (c.args.last * 128 ^ (c.args.places - 1)) c.in_ok-high.high c.take_u8.new.bytes c.take.new.bytes
    (varint_at c.args.width c.args.last (c.args.places - 1) c.take_u8.new.bytes) c.in_ok-high.ensures.exact c.take.ensures.reads in
    omega (arith, more_fits c.args.last c.args.places (c.args.places - 1) (2 ^ 64) c.in_ok-high.high z c.requires.range below)

pub overflow_add-result : goal.overflow_add-result
overflow_add-result t c =
    let z : c.args.places ≡ suc (c.args.places - 1) = omega arith in
    let below = read_below c.args.width (c.args.last * 128 ^ (c.args.places - 1)) c.in_ok-high.high c.take_u8.new.bytes c.take.new.bytes
    (varint_at c.args.width c.args.last (c.args.places - 1) c.take_u8.new.bytes) c.in_ok-high.ensures.exact c.take.ensures.reads in
    omega (arith, c.in_ok-byte.ensures.1, more_fits c.args.last c.args.places (c.args.places - 1) (2 ^ 64) c.in_ok-high.high z c.requires.range below)

pub returns-clause-exact : goal.returns-clause-exact
returns-clause-exact t c =
    let z : c.args.places ≡ suc (c.args.places - 1) = omega arith in
    rw c.from-2.ensures (at_more-ok c.args.width c.args.last c.args.places (c.args.places - 1) c.in_ok-byte.byte c.in_ok-high.high c.args.bytes.now c.take_u8.new.bytes c.take.new.bytes
    c.in_ok-byte.ensures.0 z c.if-byte-lt128.false (λ e. c.if-high-eq0.false e) c.in_ok-high.ensures.exact)

pub returns-clause-reads : goal.returns-clause-reads
returns-clause-reads t c =
    reads_at c.args.width c.args.last c.args.places c.in_ok-byte.byte c.args.bytes.now c.take_u8.new.bytes c.requires.some c.requires.digit c.in_ok-byte.ensures.1 c.in_ok-byte.ensures.0
    (λ fewer z le. one_less c.args.width c.args.last c.args.places c.take_u8.new.bytes c.take.ensures.reads fewer z)
