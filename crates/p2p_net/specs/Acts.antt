-- What each act that names one node comes to, and what it makes of it and of the links.
use Rattle.std.specs.Prelude.{◌≡◌, ℕ, false}
use Rattle.p2p_log.specs.declared.entry.Reply.TheVariants as reply
use Rattle.p2p_log.specs.declared.event.Act.{Act}
use Rattle.p2p_log.specs.declared.event.Act.TheVariants as act
use Rattle.p2p_log_rules.specs.declared.row.Row.{Row}
use Rattle.p2p_log_rules.specs.Effect.{only}
use Rattle.p2p_net_queues.specs.Tables as table
use Rattle.p2p_net_links.specs.declared.links.Links.{Links}
use Rattle.p2p_net_gates.specs.Attempts.{Resolves, AnswersDial}
use Rattle.p2p_net_tracker.specs.Asking.{ask_answer, after_asking}
use Rattle.p2p_net_tracker.specs.Reading.{Answers, Continues}
use Rattle.p2p_net_node.specs.Staying.{Stays, Tracks, TellsAttempt}
use Rattle.p2p_net_connecting.specs.Connecting.{SendSteps}
use Rattle.p2p_net_node.specs.Ready.{is_node_up}
use Rattle.p2p_net_calls.specs.Offering.{Sends, Checks, SendsChecked}
use Rattle.p2p_net_connecting.specs.Receiving.{RecvSteps}
use Rattle.p2p_net_node.specs.declared.node.Node.{Node}
use Rattle.p2p_net_calls.specs.Stopping.{Stops}
use Rattle.p2p_net_calls.specs.Calls.{Registers, Starts, Reads, Closes}
use Rattle.p2p_net_connecting.specs.Steps.{Routes, TrackerStepsBy, SpawnerStepsBy}
use Rattle.p2p_net_dialing.specs.Dialing.{DialerStepsBy, ListenerStepsBy, HandshakeSteps, AttemptSteps}

-- what the entry k of an act comes to at the node n, at a moment and with a seed
abbrev pub NodeDoes : ℕ → ℕ → ℕ → ℕ → Act → Node → Node → Links → Links → Row → Type 0
NodeDoes k n at seed (act.Register c m rate) old new l links r = Registers c rate old new r × (links ≡ l)
NodeDoes k n at seed (act.Start m) old new l links r = Starts k at old new r × (links ≡ l)
NodeDoes k n at seed (act.Stop by_start m) old new l links r = Stops n old.stopped old new l links r
NodeDoes k n at seed (act.Send bytes c m priority to) old new l links r = Sends k c at priority bytes to old new r × (links ≡ l)
NodeDoes k n at seed (act.Check c m to) old new l links r = Checks k c at to old new r × (links ≡ l)
NodeDoes k n at seed (act.SendChecked bytes check priority) old new l links r = SendsChecked k check priority bytes old new r × (links ≡ l)
NodeDoes k n at seed (act.Router m) old new l links r = Routes k n old new r × (links ≡ l)
NodeDoes k n at seed (act.SendStep conn m) old new l links r = SendSteps k n conn at old new l links r
NodeDoes k n at seed (act.RecvStep conn m) old new l links r = RecvSteps k n conn at old new l links r
NodeDoes k n at seed (act.Recv c m) old new l links r = Reads c old new r × (links ≡ l)
NodeDoes k n at seed (act.Close c m) old new l links r = Closes c old new r × (links ≡ l)
NodeDoes k n at seed (act.Connect e from m to) old new l links r = Stays old new r (only reply.Idle) × (links ≡ l)
NodeDoes k n at seed (act.Finish link ok) old new l links r = Stays old new r (only reply.Idle) × (links ≡ l)
NodeDoes k n at seed (act.Cut link) old new l links r = Stays old new r (only reply.Idle) × (links ≡ l)
NodeDoes k n at seed (act.Ask what m) old new l links r = ((r ≡ ask_answer old.tracker n k what) × Tracks (after_asking old.tracker k what) old new) × (links ≡ l)
NodeDoes k n at seed (act.Answer e) old new l links r = (Answers n e old.tracker new.tracker r × Tracks new.tracker old new) × (links ≡ l)
NodeDoes k n at seed (act.Next e) old new l links r = (Continues n e old.tracker new.tracker r × Tracks new.tracker old new) × (links ≡ l)
NodeDoes k n at seed (act.Tracker m) old new l links r = TrackerStepsBy (is_node_up old) k n at seed old new r × (links ≡ l)
NodeDoes k n at seed (act.Dialer m) old new l links r = DialerStepsBy (is_node_up old) k n at seed old new r × (links ≡ l)
NodeDoes k n at seed (act.Listener m) old new l links r = ListenerStepsBy (is_node_up old) k n at old new l links r
NodeDoes k n at seed (act.Handshake e m) old new l links r = HandshakeSteps k n e at old new l links r
NodeDoes k n at seed (act.Spawner m) old new l links r = SpawnerStepsBy (is_node_up old) k old new r × (links ≡ l)
NodeDoes k n at seed (act.Attempt e m) old new l links r = AttemptSteps k n e at seed old new l links r
NodeDoes k n at seed (act.Resolve addresses e m) old new l links r =
    (Resolves (table.at old.dialing.attempts e) k n e addresses old.dialing.attempts new.dialing.attempts r × TellsAttempt old new) × (links ≡ l)
NodeDoes k n at seed (act.Refuse e m) old new l links r = (AnswersDial (table.at old.dialing.attempts e) k n e false old.dialing.attempts new.dialing.attempts r × TellsAttempt old new) × (links ≡ l)
