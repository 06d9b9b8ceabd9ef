use Rattle.std.proofs.Common.{◌<◌, List, ℕ, get_or, ap, subst, ◌∙◌}
use Rattle.p2p_discovery.specs.Reading.{Gives, payload_of}
use Rattle.p2p_discovery.proofs.Infos.{KeyLaws}
use Rattle.p2p_discovery.proofs.Payloads.{payload_again, decoded_is}
use Rattle.p2p_discovery.proofs.payload.Payload.decode.Goals as goal

pub returns-clause-found : goal.returns-clause-found
returns-clause-found g c =
    let k = g.P.PublicKey in
    let met = g.met.P.PublicKey in
    let laws : KeyLaws k.bytes_of k.key_of k.is_value k.SIZE = record { have_size = met.bytes_have_size; give_key = met.bytes_give_key; has_bytes = met.key_has_bytes } in
    let are : (i : ℕ) → get_or c.args.bytes i 0 < 256 = subst (λ (bytes : List ℕ). (i : ℕ) → get_or bytes i 0 < 256) c.as_slice.ensures c.are_bytes.ensures in
    decoded_is k.bytes_of k.key_of k.is_value k.SIZE laws c.args.cfg.now c.args.bytes c.read_payload.result are c.read_payload.ensures

pub returns-clause-only : goal.returns-clause-only
returns-clause-only g c = λ payload fits e.
    let k = g.P.PublicKey in
    let met = g.met.P.PublicKey in
    let laws : KeyLaws k.bytes_of k.key_of k.is_value k.SIZE = record { have_size = met.bytes_have_size; give_key = met.bytes_give_key; has_bytes = met.key_has_bytes } in
    subst (λ says. Gives c.read_payload.result says) (ap (payload_of k.key_of k.SIZE c.args.cfg.now) e ∙ payload_again k.bytes_of k.key_of k.is_value k.SIZE laws c.args.cfg.now payload fits) c.read_payload.ensures
