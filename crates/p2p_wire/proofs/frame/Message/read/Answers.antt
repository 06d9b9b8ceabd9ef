use Rattle.std.proofs.Common.{◌≡◌, ◌∷◌, List, ℕ, ap, sym, ◌∙◌, ◌<◌, arith}
use Rattle.std.proofs.lemmas.Bool.{eqb-true, eqb-false}
use Rattle.std.proofs.lemmas.Result.{err_from_is_err_and}
use Rattle.p2p_wire.proofs.Rows.{decode-end, decode-data, decode-ping, decode-ping_extra, decode-kind}
use Rattle.p2p_wire.proofs.frame.Message.read.Goals as goal

-- the first byte, where it is known
first_is : (byte n : ℕ) (bytes rest : List ℕ) → bytes ≡ byte ∷ rest → byte ≡ n → bytes ≡ n ∷ rest
first_is byte n bytes rest e z = e ∙ ap (λ (b : ℕ). b ∷ rest) z

pub returns-in_err-kind-clause-exact : goal.returns-in_err-kind-clause-exact
returns-in_err-kind-clause-exact c =
    let p = err_from_is_err_and c.from_residual.result c.from_residual.ensures.1 in
    rw (p.1, p.2, c.in_err-kind.ensures.1) (sym (decode-end c.args.limit c.args.bytes c.in_err-kind.ensures.0))

pub returns-in-0-clause-exact : goal.returns-in-0-clause-exact
returns-in-0-clause-exact c =
    c.read_data.ensures.exact ∙ sym (decode-data c.args.limit c.args.bytes c.take_u8.new.bytes (first_is c.in_ok-kind.kind 0 c.args.bytes c.take_u8.new.bytes c.in_ok-kind.ensures.0 c.in-0.is))

pub returns-in-1-clause-exact : goal.returns-in-1-clause-exact
returns-in-1-clause-exact c =
    sym (decode-ping c.args.limit c.args.bytes c.take_u8.new.bytes (first_is c.in_ok-kind.kind 1 c.args.bytes c.take_u8.new.bytes c.in_ok-kind.ensures.0 c.in-1.is) (eqb-true _ _ (sym c.if-is_empty.ensures)))

pub returns-in-1-2-clause-exact : goal.returns-in-1-2-clause-exact
returns-in-1-2-clause-exact c =
    rw c.len.ensures.value
    (sym (decode-ping_extra c.args.limit c.args.bytes c.take_u8.new.bytes (first_is c.in_ok-kind.kind 1 c.args.bytes c.take_u8.new.bytes c.in_ok-kind.ensures.0 c.in-1.is) (eqb-false _ _ (sym c.if-is_empty.ensures))))

pub returns-clause-exact : goal.returns-clause-exact
returns-clause-exact c =
    let d = c.in_default in
    let other : 1 < c.in_ok-kind.kind = omega arith in
    sym (decode-kind c.args.limit c.in_ok-kind.kind c.args.bytes c.take_u8.new.bytes c.in_ok-kind.ensures.0 other)
