use Rattle.std.proofs.Common.{◌<◌, ◌^◌, List, ℕ, get_or, sym, ap, subst, ◌∙◌}
use Rattle.p2p_wire.specs.Varint.{u64_at}
use Rattle.p2p_discovery.specs.Narrowed.{narrowed}
use Rattle.p2p_discovery.proofs.Narrow.{u32-is-narrowed}
use Rattle.p2p_discovery.proofs.reading.fields.read_u32.Goals as goal

pub returns : goal.returns
returns c =
    let are : (i : ℕ) → get_or c.args.bytes i 0 < 256 = subst (λ (bytes : List ℕ). (i : ℕ) → get_or bytes i 0 < 256) c.as_slice.ensures c.are_bytes.ensures in
    c.narrow.ensures ∙ ap (narrowed (2 ^ 32) 5 c.len-len.result) c.parse.ensures.exact ∙ ap (λ (count : ℕ). narrowed (2 ^ 32) 5 count (u64_at c.args.bytes)) c.len-len.ensures.value ∙ sym (u32-is-narrowed c.args.bytes are)
