-- How long what peers tell of each other is at most.
use Rattle.std.specs.Prelude.{ℕ, ◌+◌, ◌*◌, max}
use Rattle.p2p_discovery.specs.declared.payload.Payload.{Payload}
use Rattle.p2p_discovery.specs.declared.payload.Payload.TheVariants as payload
use Rattle.p2p_discovery.specs.Spelling.{byte_count}

-- the greatest of a bit vector of so many bits, of so many infos, and of a greeting, whose keys have so many bytes
abbrev pub gossip_size : ℕ → ℕ → ℕ → ℕ
gossip_size size bits infos = max (21 + byte_count bits) (max (6 + infos * (398 + size)) (399 + size))

-- the payload tells of peers
abbrev pub IsGossip : {P : Type 0} → Payload P → Type 0
IsGossip (payload.Data d) = ⊥
IsGossip (payload.Greeting i) = Unit {0}
IsGossip (payload.BitVec b) = Unit {0}
IsGossip (payload.Peers infos) = Unit {0}
