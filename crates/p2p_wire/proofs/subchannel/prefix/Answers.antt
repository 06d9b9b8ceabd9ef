use Rattle.std.proofs.Common.{rules, ◌≡◌, subst, sym, ◌≤◌, ℕ, List, length, lit≤}
use Rattle.p2p_wire.specs.Varint.{spelling}
use Rattle.p2p_wire.proofs.Spellings.{spelling_len}
use Rattle.p2p_wire.proofs.Laws.{prefix_apart}
use Rattle.p2p_wire.proofs.subchannel.prefix.Goals as goal

pub returns-clause-short : goal.returns-clause-short
returns-clause-short c =
    let written : c.in_ok-from_vec.field-0 ≡ spelling c.args.subchannel = search rules in
    subst (λ (bytes : List ℕ). length bytes ≤ 10) (sym written) (spelling_len 2 9 c.args.subchannel (lit≤ tt) c.ranges.subchannel.fits)

pub returns-clause-apart : goal.returns-clause-apart
returns-clause-apart c =
    let written : c.in_ok-from_vec.field-0 ≡ spelling c.args.subchannel = search rules in
    λ other tail e. prefix_apart c.in_ok-from_vec.field-0 c.args.subchannel other tail written e
