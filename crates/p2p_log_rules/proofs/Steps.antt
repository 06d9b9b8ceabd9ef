-- Whose step an act is, where a lemma goes by that.
use Rattle.std.specs.Prelude.{ℕ, Bool, false, ◌==◌}
use Rattle.p2p_log.specs.declared.event.Act.{Act}
use Rattle.p2p_log.specs.declared.event.Act.TheVariants as act

abbrev pub steps_tracker : ℕ → Act → Bool
steps_tracker n (act.Tracker m) = m == n
steps_tracker n _ = false

abbrev pub steps_spawner : ℕ → Act → Bool
steps_spawner n (act.Spawner m) = m == n
steps_spawner n _ = false
