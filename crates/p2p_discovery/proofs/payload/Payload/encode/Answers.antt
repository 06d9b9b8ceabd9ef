use Rattle.std.proofs.Common.{rules, ◌≡◌, ◌≤◌, ◌++◌, List, ℕ, length, sym, ap, subst, ◌∙◌}
use Rattle.p2p_discovery.specs.Spelling.{spelled}
use Rattle.p2p_discovery.specs.GossipSize.{gossip_size}
use Rattle.p2p_discovery.proofs.Infos.{KeyLaws}
use Rattle.p2p_discovery.proofs.Payloads.{payload_apart}
use Rattle.p2p_discovery.proofs.Sizes.{gossip_len}
use Rattle.p2p_discovery.proofs.payload.Payload.encode.Goals as goal

pub returns-clause-apart : goal.returns-clause-apart
returns-clause-apart g c = λ cfg other tail fits also e.
    let k = g.P.PublicKey in
    let met = g.met.P.PublicKey in
    let laws : KeyLaws k.bytes_of k.key_of k.is_value k.SIZE = record { have_size = met.bytes_have_size; give_key = met.bytes_give_key; has_bytes = met.key_has_bytes } in
    let written : c.in_ok-from_vec.field-0 ≡ spelled k.bytes_of c.args.self.now = search rules in
    payload_apart k.bytes_of k.key_of k.is_value k.SIZE laws cfg c.args.self.now other tail fits also (e ∙ ap (λ (bytes : List ℕ). bytes ++ tail) written)

pub returns-clause-short : goal.returns-clause-short
returns-clause-short g c = λ cfg fits is.
    let k = g.P.PublicKey in
    let written : c.in_ok-from_vec.field-0 ≡ spelled k.bytes_of c.args.self.now = search rules in
    subst (λ (bytes : List ℕ). length bytes ≤ gossip_size k.SIZE cfg.max_bit_vec cfg.max_peers) (sym written) (gossip_len k.bytes_of k.is_value k.SIZE g.met.P.PublicKey.bytes_have_size cfg c.args.self.now fits is)
