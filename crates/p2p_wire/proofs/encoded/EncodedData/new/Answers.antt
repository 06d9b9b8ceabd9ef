use Rattle.std.proofs.Common.{subst, sym, ◌+◌, ◌≤◌, ℕ, List, length}
use Rattle.p2p_wire.proofs.Laws.{frame_len}
use Rattle.p2p_wire.proofs.encoded.EncodedData.new.Goals as goal

pub returns-clause-short : goal.returns-clause-short
returns-clause-short c =
    subst (λ (payload : List ℕ). length payload ≤ length c.args.message + 16) (sym c.in_ok-payload.ensures)
    (frame_len (record { channel = c.args.channel; message = c.args.message }) c.ranges.channel.fits c.requires)
