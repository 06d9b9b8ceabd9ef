-- A host is text, or is of no kind.
use Rattle.std.proofs.Common.{◌≡◌, Bool, true, false, cond, List, ℕ, Result, Ok, Err, refl}
use Rattle.std.specs.Str.{IsUtf8, is_utf8}
use Rattle.std.proofs.lemmas.Str.{is_utf8-from_IsUtf8, IsUtf8-from_is_utf8}
use Rattle.p2p_wire.specs.declared.error.CodecError.{CodecError}
use Rattle.p2p_wire.specs.declared.error.CodecError.TheVariants.{InvalidEnum}
use Rattle.p2p_discovery.specs.Fits.{max_host}
use Rattle.p2p_discovery.specs.Reading.{sized_at, host_at}

pub host-text : (bytes host rest : List ℕ) → sized_at max_host bytes ≡ Ok (host, rest) → IsUtf8 host → host_at bytes ≡ Ok (host, rest)
unfolding host_at
host-text bytes host rest read text = rw (read, is_utf8-from_IsUtf8 host text) refl

not_text : (host rest : List ℕ) (b : Bool) → is_utf8 host ≡ b → (IsUtf8 host → ⊥) → cond {A = Result (List ℕ × List ℕ) CodecError} b (Ok (host, rest)) (Err (InvalidEnum 1)) ≡ Err (InvalidEnum 1)
not_text host rest true is other = absurd (other (IsUtf8-from_is_utf8 host is))
not_text host rest false is other = refl

pub host-not_text : (bytes host rest : List ℕ) → sized_at max_host bytes ≡ Ok (host, rest) → (IsUtf8 host → ⊥) → host_at bytes ≡ Err (InvalidEnum 1)
unfolding host_at
host-not_text bytes host rest read other = rw read (not_text host rest (is_utf8 host) refl other)
