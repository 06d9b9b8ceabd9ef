-- What a connection leaves of the senders of its node.
use Rattle.std.proofs.Common.{◌≡◌, ℕ, ◌<◌, length, Option, Some, None, refl, sym, ap, subst}
use Rattle.p2p_flow_senders.specs.Limits.{Limit, Limits, IsLimitOf, limit_at, with_messenger}
use Rattle.p2p_lookup.specs.Connection.{Connection, desk_of, desk_after}
use Rattle.p2p_lookup.specs.declared.peer.live.Live.{Live}
use Rattle.p2p_lookup.specs.declared.peer.stepped.Stepped.{Stepped}
use Rattle.p2p_lookup.specs.declared.peer.stepped.Stepped.TheVariants as stepped
use Rattle.p2p_router.specs.Messenger.{Desk}
use Rattle.p2p_network_example.specs.Connecting.{KeepsSenders}

module _ {P : Type 0} where
  limit_still : (d e : Desk P) (channel : ℕ) (l : Option (Limit P)) → length e.lists ≡ length d.lists → IsLimitOf (λ (x : Desk P). length x.lists) d channel l → IsLimitOf (λ (x : Desk P). length x.lists) e channel l
  limit_still d e channel None same is = is
  limit_still d e channel (Some l) same is = (is.0, subst (λ (n : ℕ). l.subscription < n) (sym same) is.1)

  -- a messenger with as many subscriptions has its senders
  pub senders_still : (w : Limits P (Desk P)) (d : Desk P) → length d.lists ≡ length w.messenger.lists → KeepsSenders w (with_messenger w d)
  senders_still w d same s is = limit_still w.messenger d s.channel (limit_at w s.place) same is

  lists_of_told : (c : Connection P) (o : Option (Live P)) (s : Stepped P) (d : Desk P) → (desk_of c o s d).lists ≡ d.lists
  lists_of_told c None s d = refl
  lists_of_told c (Some l) stepped.Started d = refl
  lists_of_told c (Some l) (stepped.Ended error frames written) d = refl
  lists_of_told c (Some l) stepped.Idle d = refl
  lists_of_told c (Some l) stepped.Running d = refl
  lists_of_told c (Some l) (stepped.Sent ping frames) d = refl
  lists_of_told c (Some l) (stepped.Pinged held admitted) d = refl
  lists_of_told c (Some l) (stepped.Received held m delivered) d = refl

  -- a step of a connection takes away no subscription
  pub step_keeps : (c : Connection P) (s : Stepped P) (d : Desk P) → length (desk_after c s d).lists ≡ length d.lists
  step_keeps c s d = ap length (lists_of_told c c.live s d)
