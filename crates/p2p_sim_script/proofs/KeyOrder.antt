-- The peers of a node stand in the order of their keys.
use Rattle.std.proofs.Common.{◌≡◌, ℕ, [], ◌∷◌, map, refl}
use Rattle.p2p_base.specs.Sorted.{sorted_once, by_key}
use Rattle.p2p_log.specs.Keys.{key_cmp}
use Rattle.p2p_sim_script.specs.GeneratedActs.{peer_at}

pub others_in_order : sorted_once (by_key key_cmp) (map peer_at (1 ∷ 2 ∷ 3 ∷ [])) ≡ peer_at 1 ∷ peer_at 2 ∷ peer_at 3 ∷ []
others_in_order = refl

pub first_in_order : sorted_once (by_key key_cmp) (map peer_at (0 ∷ [])) ≡ peer_at 0 ∷ []
first_in_order = refl
