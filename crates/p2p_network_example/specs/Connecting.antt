-- What the steps of a connection leave of its node.
use Rattle.std.specs.Prelude.{length}
use Rattle.p2p_flow_senders.specs.Limits.{Limits, Named, HasLimit}
use Rattle.p2p_router.specs.Messenger.{Desk}

-- each sender that was made in this way is one of it still
abbrev pub KeepsSenders : {P : Type 0} → Limits P (Desk P) → Limits P (Desk P) → Type 0
KeepsSenders before after = (s : Named) → HasLimit (λ d. length d.lists) s before → HasLimit (λ d. length d.lists) s after
