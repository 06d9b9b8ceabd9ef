-- What a call makes of the streams of the outside: what it takes of a source, what it adds to a sink, and the faults that they count.
use Rattle.std.specs.Prelude.{◌≡◌, ℕ, List, ◌++◌, Option, IfSome}
use Rattle.std.specs.Option.{option_map}
use Rattle.p2p_runtime.specs.Streams.{Rose}

-- the bytes that were left are those that were taken and those that are left now, where the source tells
abbrev pub Takes : Option (List ℕ) → List ℕ → Option (List ℕ) → Type 0
Takes left taken rest = left ≡ option_map (λ more. taken ++ more) rest

-- the bytes are all that were left, where the source tells
abbrev pub IsAllOf : Option (List ℕ) → List ℕ → Type 0
IsAllOf left input = IfSome left (λ bytes. bytes ≡ input)

-- it is so of some bytes, which are all that were left, where the source tells
abbrev pub OfAll : Option (List ℕ) → (List ℕ → Type 0) → Type 0
OfAll left IsSo = (input : List ℕ) × IsAllOf left input × IsSo input

-- what is held now is what was held and then the text, where the sink tells
abbrev pub Adds : Option (List ℕ) → List ℕ → Option (List ℕ) → Type 0
Adds held text now = now ≡ option_map (λ bytes. bytes ++ text) held

-- what is held now is what was held and then a front of the text, where the sink tells
abbrev pub AddsFront : Option (List ℕ) → List ℕ → Option (List ℕ) → Type 0
AddsFront held text now = (rest : List ℕ) × (option_map (λ bytes. bytes ++ rest) now ≡ option_map (λ bytes. bytes ++ text) held)

-- the count of faults rose where there was one, and else it is what it was
pub record HasCounted (fault : Type 0) (before now : ℕ) : Type 0 where
  pub rose : fault → Rose before now
  pub stayed : ¬ fault → now ≡ before
