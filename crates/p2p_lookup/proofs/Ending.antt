-- What waits on the link after a step that read it.
use Rattle.std.proofs.Common.{◌≡◌, ℕ, false, List, refl}
use Rattle.p2p_lookup.specs.Connection.{waiting_after}
use Rattle.p2p_lookup.specs.Receiving.{receive_fails}
use Rattle.p2p_lookup.specs.declared.peer.stepped.Stepped.{Stepped}
use Rattle.p2p_lookup.specs.declared.peer.stepped.Stepped.TheVariants as stepped

-- where the read met a fault, the connection ends, and nothing waits then
pub waiting_after-read : {P : Type 0} (s : Stepped P) (w v : List (List ℕ)) → (receive_fails s ≡ false → w ≡ v) → waiting_after s w ≡ waiting_after s v
waiting_after-read stepped.Idle w v h = h refl
waiting_after-read stepped.Started w v h = h refl
waiting_after-read stepped.Running w v h = h refl
waiting_after-read (stepped.Sent ping frames) w v h = h refl
waiting_after-read (stepped.Pinged was_held admitted) w v h = h refl
waiting_after-read (stepped.Received was_held message delivered) w v h = h refl
waiting_after-read (stepped.Ended error frames written) w v h = refl
