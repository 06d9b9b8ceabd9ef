-- The script of `gen`: four nodes, of which the first gets a connection with each of the others, and then acts that are drawn.
use Rattle.std.specs.Prelude.{ℕ, zero, suc, ◌+◌, ◌-◌, ◌*◌, List, [], ◌∷◌, ◌++◌, take}
use Rattle.rand_pcg.specs.Lcg.{Lcg}
use Rattle.p2p_runtime.specs.Draws.{seeded, drawn}
use Rattle.p2p_log.specs.Presets.{local}
use Rattle.p2p_log.specs.declared.config.Config.{Config}
use Rattle.p2p_log.specs.declared.event.Event.{Event}
use Rattle.p2p_log.specs.declared.event.Act.{Act}
use Rattle.p2p_sim_script.specs.GeneratedActs.{key_at, beginning, drawn_act}

-- node i, in the local preset: at most 4 peers in a set, 1,024 bytes in a message and 64 messages in a mailbox
abbrev pub config_at : ℕ → Config
config_at i = local (key_at i) 4 1024 64

abbrev pub generated_configs : List Config
generated_configs = config_at 0 ∷ config_at 1 ∷ config_at 2 ∷ config_at 3 ∷ []

-- the event n is at n milliseconds, and nothing in it is drawn
abbrev pub event_at : ℕ → Act → Event
event_at n a = record { at = n * 1000000; seed = 0; act = a }

-- the events of these acts, of which the first has the number n
abbrev pub events_from : ℕ → List Act → List Event
events_from n [] = []
events_from n (a ∷ rest) = event_at n a ∷ events_from (n + 1) rest

-- so many events, of which the first has the number n: for each a number up to 7 is drawn, and then one up to 5
abbrev pub drawn_from : ℕ → ℕ → Lcg → List Event
drawn_from n zero g = []
drawn_from n (suc left) g =
    event_at n (drawn_act n (drawn 7 g).0 (drawn 5 (drawn 7 g).1).0) ∷ drawn_from (n + 1) left (drawn 5 (drawn 7 g).1).1

-- the first `count` events: those of the beginning, and from number 96 on those that are drawn from the seed
unfoldable pub generated_events : ℕ → ℕ → List Event
generated_events count seed = take count (events_from 0 beginning) ++ drawn_from 96 (count - 96) (seeded seed)
