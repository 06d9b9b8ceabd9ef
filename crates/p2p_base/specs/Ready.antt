-- Where the messages of a mailbox stand: in a ring of its ready places, where that is made at once, and behind it in a list.
use Rattle.std.specs.Prelude.{◌≡◌, ℕ, ◌<◌, List, [], Option, Some, None, length, ⊤}
use Rattle.circular_buffer.specs.Buffer.{Buffer}

-- the greatest capacity of which all ready places are made at once
abbrev pub most_ready : ℕ
most_ready = 65536

module _ {T : Type 0} where
  -- the messages in the ring, if there is one
  abbrev pub in_ring : Option (Buffer T) → List T
  in_ring None = []
  in_ring (Some ring) = ring.items

  -- the ring has all ready places, and others stand behind it only where it is full; or there are more places than are made at once
  abbrev pub IsReady : Option (Buffer T) → List T → ℕ → Type 0
  IsReady None others capacity = most_ready < capacity
  IsReady (Some ring) others capacity = (ring.capacity ≡ capacity) × (length ring.items < ring.capacity → others ≡ [])

  -- the ring, if there is one, has a free place, and nothing stands behind it
  abbrev pub HasPlace : Option (Buffer T) → List T → Type 0
  HasPlace None others = ⊤
  HasPlace (Some ring) others = (length ring.items < ring.capacity) × (others ≡ [])
