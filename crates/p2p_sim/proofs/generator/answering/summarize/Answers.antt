use Rattle.std.proofs.Common.{◌≡◌, ℕ, List, Option, Some}
use Rattle.p2p_net.specs.World.{WorldView}
use Rattle.p2p_sim.specs.Streams.{Adds, AddsFront}
use Rattle.p2p_sim.specs.Summed.{RunsGenerated, HasSummed, HasSummedInPart}
use Rattle.p2p_sim.proofs.generator.answering.summarize.Goals as goal

module _ (count seed : ℕ) (held now : Option (List ℕ)) (world : WorldView) (summary text : List ℕ) (ran : RunsGenerated count seed world summary) (same : text ≡ summary) where
  -- the summary was written
  summed : (left : Option WorldView) → left ≡ Some world → Adds held text now → HasSummed count seed held now left
  summed left leaves writes = record { world = world; text = text; ran = rw same ran; leaves = leaves; writes = writes }

  -- the summary was written in part
  stopped : AddsFront held text now → HasSummedInPart count seed held now
  stopped front = record { world = world; text = text; ran = rw same ran; front = front }

pub returns-clause-generated : goal.returns-clause-generated
returns-clause-generated g c =
    let wrote = c.write_world.ensures in
    record {
      told = wrote.written.told;
      summary = λ e. summed _ _ _ _ _ _ _ c.in-Ok.ensures.ran c.as_str.ensures.value _ (wrote.left e) (wrote.written.whole e);
      front = λ e. stopped _ _ _ _ _ _ _ c.in-Ok.ensures.ran c.as_str.ensures.value (wrote.written.front e);
    }
