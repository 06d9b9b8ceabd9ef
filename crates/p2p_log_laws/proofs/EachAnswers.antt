-- What each act puts for a handshake.
use Rattle.std.proofs.Common.{◌≡◌, ℕ, false, List, refl}
use Rattle.std.specs.Prelude.{◌==◌, ◌&&◌}
use Rattle.p2p_log.specs.declared.config.Config.{Config}
use Rattle.p2p_log.specs.declared.entry.Entry.{Entry}
use Rattle.p2p_log.specs.declared.event.Act.{Act}
use Rattle.p2p_log.specs.declared.event.Act.TheVariants as act
use Rattle.p2p_log.specs.declared.event.Event.{Event}
use Rattle.p2p_log_rules.specs.Dialing.{dialer_row}
use Rattle.p2p_log_rules.specs.Dropping.{attempt_step_row}
use Rattle.p2p_log_rules.specs.Effect.{row, send_step_row, recv_step_row}
use Rattle.p2p_log_rules.specs.TrackerRows as rows
use Rattle.p2p_log_laws.specs.OneAnswer.{Words}
use Rattle.p2p_log_laws.proofs.Answering.{Answers, puts_none, other, sender_silent, receiver_silent, ask_silent, dialer_silent, attempt_silent, tracker_at, listener_asks, listening}
use Rattle.p2p_log_laws.proofs.FinishAnswers.{finish_answers}
use Rattle.p2p_log_laws.proofs.HandshakeAnswers.{handshake_answers}
use Rattle.p2p_log_laws.proofs.Shapes.{row_shape}

module _ (w : Words) (sound : (w.acceptance && w.refusal) ≡ false) (n name : ℕ) (configs : List Config) (log : List Entry) (at seed : ℕ) where
  abbrev event : Act → Event
  event a = record { at = at; seed = seed; act = a }

  pub each_answers : (a : Act) → Answers w n name log (event a) (row configs log at seed a)
  unfolding row
  each_answers (act.SendStep conn m) = puts_none w n name configs log at seed (act.SendStep conn m) (send_step_row configs log conn m at) (row_shape configs log at seed (act.SendStep conn m)) (sender_silent w n name configs log at seed conn m) (λ so. cc)
  each_answers (act.RecvStep conn m) = puts_none w n name configs log at seed (act.RecvStep conn m) (recv_step_row configs log conn m at) (row_shape configs log at seed (act.RecvStep conn m)) (receiver_silent w n name configs log at seed conn m) (λ so. cc)
  each_answers (act.Ask what m) = puts_none w n name configs log at seed (act.Ask what m) (rows.ask_row configs log m what) (row_shape configs log at seed (act.Ask what m)) (ask_silent w n name configs log at seed what m) (λ so. cc)
  each_answers (act.Tracker m) = tracker_at w n name configs log at seed m (m == n) refl
  each_answers (act.Dialer m) = puts_none w n name configs log at seed (act.Dialer m) (dialer_row configs log m at seed) (row_shape configs log at seed (act.Dialer m)) (dialer_silent w n name configs log at seed m) (λ so. cc)
  each_answers (act.Attempt e m) = puts_none w n name configs log at seed (act.Attempt e m) (attempt_step_row configs log e m at seed) (row_shape configs log at seed (act.Attempt e m)) (attempt_silent w n name configs log at seed e m) (λ so. cc)
  each_answers (act.Listener m) = listening w n name configs log at seed m (listener_asks w n name configs log at seed m)
  each_answers (act.Handshake k m) = handshake_answers w n name configs log at seed k m
  each_answers (act.Finish link ok) = finish_answers w sound n name configs log at seed link ok
  each_answers a = other w n name configs log at seed a (row configs log at seed a) (row_shape configs log at seed a) refl refl (λ so. cc)
