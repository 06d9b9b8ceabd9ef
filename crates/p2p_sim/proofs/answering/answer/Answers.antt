use Rattle.std.proofs.Common.{◌≡◌, ℕ, List, Option, Some, None}
use Rattle.serde_json.specs.Data.{Data}
use Rattle.p2p_sim_script.specs.Input.{json_of}
use Rattle.p2p_sim.specs.Outcomes.{HasStopped}
use Rattle.p2p_sim.specs.Streams.{AddsFront}
use Rattle.p2p_sim.specs.declared.fault.Fault.{Fault}
use Rattle.p2p_sim.proofs.answering.answer.Goals as goal

-- the report was written in part
stopped : {W : Type 0} (refusal_of : Data → Option Fault) (Runs : Data → W → List ℕ → Type 0) (input : List ℕ) (held now : Option (List ℕ)) (tree : Data) (world : W) (report text : List ℕ) → json_of input ≡ Some tree → refusal_of tree ≡ None → Runs tree world report → text ≡ report → AddsFront held text now → HasStopped refusal_of Runs input held now
stopped refusal_of Runs input held now tree world report text reads accepted ran same front = record {
  text = text;
  due = rw (reads, accepted) (world, rw same ran);
  front = front;
}

pub returns-in-Ok-clause-stopped : goal.returns-in-Ok-clause-stopped
returns-in-Ok-clause-stopped g c =
    let ran = c.in-Ok.ensures.ok in
    λ e. stopped _ _ _ _ _ _ _ _ _ ran.1 ran.2 ran.3 c.as_str.ensures.value (c.write_world.ensures.written.front e)
