-- What a row has of the copies that a router put into relays, or dropped.
use Rattle.std.specs.Prelude.{ℕ, ◌+◌, List, [], ◌∷◌, ◌++◌, Some}
use Rattle.p2p_base.specs.declared.key.Key.{Key}
use Rattle.p2p_log.specs.declared.item.Item.TheVariants as item
use Rattle.p2p_log.specs.declared.end.End.TheVariants as end
use Rattle.p2p_log.specs.declared.end.Outcome.TheVariants as outcome
use Rattle.p2p_log.specs.declared.end.Cause.{Cause}
use Rattle.p2p_log.specs.declared.end.Cause.TheVariants as cause
use Rattle.p2p_log_rules.specs.Effect.{Spread, relay_queue}
use Rattle.p2p_router.specs.declared.stepped.Routed.{Routed}
use Rattle.p2p_router.specs.declared.stepped.Routed.TheVariants as routed

abbrev pub dropped : ℕ → ℕ → Cause → Spread → Spread
dropped send p why s = record s { ends = s.ends ++ end.Copy send p (outcome.Dropped why) ∷ [] }

-- one copy, of this send and place
abbrev pub copy_spread : ℕ → ℕ → ℕ → List ℕ → Routed Key → Spread → Spread
copy_spread n send p frame (routed.Put peer conn priority) s = record s { puts = s.puts ++ (relay_queue priority n conn, item.Frame (Some (send, p)) frame) ∷ [] }
copy_spread n send p frame (routed.NoConnection peer) s = dropped send p cause.NoConnection s
copy_spread n send p frame (routed.RelayFull peer conn) s = dropped send p cause.RelayFull s
copy_spread n send p frame (routed.Closed peer conn) s = dropped send p cause.ConnectionEnded s

-- the copies from this place on
abbrev pub copies_spread : ℕ → ℕ → ℕ → List ℕ → List (Routed Key) → Spread → Spread
copies_spread n send p frame [] s = s
copies_spread n send p frame (r ∷ rs) s = copies_spread n send (p + 1) frame rs (copy_spread n send p frame r s)
