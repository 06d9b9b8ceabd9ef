-- The first events of a generated script.
use Rattle.std.proofs.Common.{◌≡◌, ℕ, List, [], ◌∷◌, length, refl}
use Rattle.p2p_log.specs.declared.event.Act.TheVariants as act
use Rattle.p2p_sim_script.specs.GeneratedActs.{beginning, tracked_at}
use Rattle.p2p_log.specs.declared.asked.Asked.TheVariants as ask
use Rattle.p2p_sim_script.specs.Generated.{generated_events, event_at}

-- nothing is drawn before number 96
length_of_the_beginning : length beginning ≡ 96
length_of_the_beginning = refl

first_three : (seed : ℕ) → generated_events 3 seed
    ≡ event_at 0 (act.Register 0 0 (record { burst = 64; period = 15625000 })) ∷ event_at 1 (act.Start 0) ∷ event_at 2 (act.Ask (ask.Track 0 (tracked_at 0)) 0) ∷ []
unfolding generated_events
first_three seed = refl
