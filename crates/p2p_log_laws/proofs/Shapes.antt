-- The shape of each act's row.
use Rattle.std.specs.Prelude.{ℕ, List}
use Rattle.p2p_log.specs.declared.config.Config.{Config}
use Rattle.p2p_log.specs.declared.entry.Entry.{Entry}
use Rattle.p2p_log.specs.declared.event.Act.{Act}
use Rattle.p2p_log.specs.declared.event.Act.TheVariants as act
use Rattle.p2p_log_rules.specs.Effect.{row}
use Rattle.p2p_log_laws.proofs.CallShapes.{register_shape, start_shape, recv_shape}
use Rattle.p2p_log_laws.proofs.CloseShape.{close_shape}
use Rattle.p2p_log_laws.proofs.CutShape.{cut_shape}
use Rattle.p2p_log_laws.proofs.StopShape.{stop_shape}
use Rattle.p2p_log_laws.proofs.ConnShapes.{send_step_shape}
use Rattle.p2p_log_laws.proofs.ReceiverShape.{recv_step_shape}
use Rattle.p2p_log_laws.proofs.RouterShape.{router_shape}
use Rattle.p2p_log_laws.proofs.SendShapes.{send_shape, check_shape, send_checked_shape}
use Rattle.p2p_log_laws.proofs.Shape.{Shape}
use Rattle.p2p_log_laws.proofs.AttemptShape.{attempt_shape, resolve_shape, refuse_shape, connect_shape}
use Rattle.p2p_log_laws.proofs.DialerShape.{dialer_shape}
use Rattle.p2p_log_laws.proofs.FinishShape.{finish_shape}
use Rattle.p2p_log_laws.proofs.HandshakeShape.{handshake_shape}
use Rattle.p2p_log_laws.proofs.ListenerShape.{listener_shape}
use Rattle.p2p_log_laws.proofs.SpawnerShape.{spawner_shape}
use Rattle.p2p_log_laws.proofs.TrackerShape.{ask_shape, answer_shape, next_shape, tracker_shape}

-- each act has a shape
pub row_shape : (configs : List Config) (log : List Entry) (at seed : ℕ) (a : Act) → Shape configs log a (row configs log at seed a)
unfolding row
row_shape configs log at seed (act.Register c n rate) = register_shape configs log c n rate
row_shape configs log at seed (act.Start n) = start_shape configs log n
row_shape configs log at seed (act.Stop by_start n) = stop_shape configs log by_start n
row_shape configs log at seed (act.Send bytes c n priority to) = send_shape configs log bytes c n priority to at
row_shape configs log at seed (act.Check c n to) = check_shape configs log c n to at
row_shape configs log at seed (act.SendChecked bytes check priority) = send_checked_shape configs log bytes check priority
row_shape configs log at seed (act.Router n) = router_shape configs log n
row_shape configs log at seed (act.SendStep conn n) = send_step_shape configs log conn n at
row_shape configs log at seed (act.RecvStep conn n) = recv_step_shape configs log conn n at
row_shape configs log at seed (act.Recv c n) = recv_shape configs log c n
row_shape configs log at seed (act.Close c n) = close_shape configs log c n
row_shape configs log at seed (act.Ask what n) = ask_shape configs log n what
row_shape configs log at seed (act.Answer question) = answer_shape configs log question
row_shape configs log at seed (act.Next question) = next_shape configs log question
row_shape configs log at seed (act.Dialer n) = dialer_shape configs log n at seed
row_shape configs log at seed (act.Listener n) = listener_shape configs log n at
row_shape configs log at seed (act.Handshake e n) = handshake_shape configs log e n at
row_shape configs log at seed (act.Spawner n) = spawner_shape configs log n
row_shape configs log at seed (act.Attempt e n) = attempt_shape configs log e n at seed
row_shape configs log at seed (act.Resolve addresses e n) = resolve_shape configs log addresses e n
row_shape configs log at seed (act.Connect e from n to) = connect_shape configs log e from n to
row_shape configs log at seed (act.Refuse e n) = refuse_shape configs log e n
row_shape configs log at seed (act.Finish link ok) = finish_shape configs log link ok
row_shape configs log at seed (act.Cut link) = cut_shape configs log link
row_shape configs log at seed (act.Tracker n) = tracker_shape configs log n at
