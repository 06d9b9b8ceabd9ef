-- What two halves of connections over one link have to do with each other, and directions.
use Rattle.std.proofs.Common.{◌≡◌, ℕ, List, Some, refl}
use Rattle.p2p_log.specs.declared.config.Config.{Config}
use Rattle.p2p_log.specs.declared.queue.Side.{Side}
use Rattle.p2p_log.specs.declared.queue.Side.TheVariants as side
use Rattle.p2p_log.specs.declared.entry.Entry.{Entry}
use Rattle.p2p_log_rules.specs.declared.row.Half.{Half}
use Rattle.p2p_log_rules.specs.Connections.{half_at}
use Rattle.p2p_log_rules.specs.Effect.{other_side}
use Rattle.p2p_log_rules.specs.Facts.{key_at}

pub other_side-twice : (s : Side) → other_side (other_side s) ≡ s
other_side-twice side.Out = refl
other_side-twice side.In = refl

-- of one direction they are one half, and of other directions each has the other's node for its peer
pub record HalvesMeet (configs : List Config) (log : List Entry) : Type 0 where
  pub same_end : (n m c d : ℕ) (a b : Half) → half_at log n c ≡ Some a → half_at log m d ≡ Some b → a.link ≡ b.link → a.writes ≡ b.writes → (n ≡ m) × (c ≡ d)
  pub opposite : (n m c d : ℕ) (a b : Half) → half_at log n c ≡ Some a → half_at log m d ≡ Some b → a.link ≡ b.link → a.writes ≡ other_side b.writes
      → (a.peer ≡ key_at configs m) × (b.peer ≡ key_at configs n)
