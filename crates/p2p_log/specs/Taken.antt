-- What may be taken of what stands in queues.
use Rattle.std.specs.Prelude.{◌≡◌, List, [], ◌∷◌, filter}
use Rattle.p2p_log.specs.declared.item.Envelope.{Envelope}
use Rattle.p2p_log.specs.Lines.{name_of, stays, stands_in}

-- each of these is the first of its queue when its turn comes
abbrev pub AreTaken : List Envelope → List Envelope → Type 0
AreTaken xs [] = Unit {0}
AreTaken xs (x ∷ taken) =
    (rest : List Envelope) × (filter (stands_in x.queue) xs ≡ x ∷ rest) × AreTaken (filter (stays (name_of x ∷ [])) xs) taken
