-- A generated script that was run, and what is written of it.
use Rattle.std.specs.Prelude.{◌≡◌, ℕ, List, Option, Some}
use Rattle.p2p_log_laws.specs.Accounted.{IsAccounted}
use Rattle.p2p_net.specs.World.{WorldView}
use Rattle.p2p_sim_script.specs.Generated.{generated_configs, generated_events}
use Rattle.p2p_sim_report.specs.SummaryText.{summary_text}
use Rattle.p2p_sim.specs.Network.{HasRunScript}
use Rattle.p2p_sim.specs.Outcomes.{IsOfWriting}
use Rattle.p2p_sim.specs.Streams.{Adds, AddsFront}
use Rattle.p2p_sim.specs.declared.status.Status.{Status}
use Rattle.p2p_sim.specs.declared.status.Status.TheVariants as status

-- the world ran the script of this number of events and this seed, the text is the summary of the world's log, and each law of
-- lawful logs holds of that
pub record RunsGenerated (count seed : ℕ) (world : WorldView) (text : List ℕ) : Type 0 where
  pub ran : HasRunScript generated_configs (generated_events count seed) world
  pub sums : text ≡ summary_text world.log
  pub accounted : IsAccounted generated_configs world.log

-- the world that is left ran the script, and the sink got its summary
pub record HasSummed (count seed : ℕ) (held now : Option (List ℕ)) (left : Option WorldView) : Type 0 where
  pub world : WorldView
  pub text : List ℕ
  pub ran : RunsGenerated count seed world text
  pub leaves : left ≡ Some world
  pub writes : Adds held text now

-- writing stopped: the sink got a front of the summary of a world that ran the script
pub record HasSummedInPart (count seed : ℕ) (held now : Option (List ℕ)) : Type 0 where
  pub world : WorldView
  pub text : List ℕ
  pub ran : RunsGenerated count seed world text
  pub front : AddsFront held text now

-- the script was made and run, and the sink got its summary after `Ok`, and a front of it where writing stopped
pub record HasGenerated (count seed : ℕ) (said : Status) (held now : Option (List ℕ)) (left : Option WorldView) : Type 0 where
  pub told : IsOfWriting said
  pub summary : said ≡ status.Ok → HasSummed count seed held now left
  pub front : said ≡ status.WriteFault → HasSummedInPart count seed held now
