-- What is taken of a source by several reads.
use Rattle.std.proofs.Common.{List, ℕ, [], ◌++◌, Option, Some, None, refl, sym, ap, ◌∙◌, append_assoc}
use Rattle.std.specs.Option.{option_map}
use Rattle.p2p_sim.specs.Streams.{Takes}

-- nothing was taken
pub Takes-none : (left : Option (List ℕ)) → Takes left [] left
Takes-none None = refl
Takes-none (Some bytes) = refl

-- more was taken after that
pub Takes-more : (left mid rest : Option (List ℕ)) (taken more : List ℕ) → Takes left taken mid → Takes mid more rest → Takes left (taken ++ more) rest
Takes-more left mid None taken more h k = h ∙ ap (option_map (λ bytes. taken ++ bytes)) k
Takes-more left mid (Some bytes) taken more h k = h ∙ (ap (option_map (λ bytes. taken ++ bytes)) k ∙ ap Some (sym (append_assoc taken more bytes)))
