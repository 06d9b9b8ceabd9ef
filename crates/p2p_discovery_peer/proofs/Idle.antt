-- A step of the sending half is idle exactly where no input is ready.
use Rattle.std.proofs.Common.{◌≡◌, ℕ, ◌≤◌, ◌==◌, Bool, true, false, cond, List, length, Option, Some, None, refl, ◌∙◌}
use Rattle.std.specs.Prelude.{not, ◌||◌, nat_le}
use Rattle.std.specs.declared.cmp.Ordering.{Ordering}
use Rattle.p2p_base.specs.Queue.{Queue}
use Rattle.p2p_flow.specs.Lanes.{Lanes}
use Rattle.p2p_peer_shared.specs.Gathering.{is_nothing, has_work}
use Rattle.p2p_peer_shared.specs.declared.gathering.Gathered.{Gathered}
use Rattle.p2p_peer_shared.specs.declared.gathering.Gathered.TheVariants as gathered
use Rattle.p2p_peer_shared.proofs.Working.{nothing-gathered}
use Rattle.p2p_router.specs.Connections.{relay_at}
use Rattle.p2p_router.specs.Routes.{Routes}
use Rattle.p2p_wire.specs.declared.encoded.EncodedData.{EncodedData}
use Rattle.p2p_discovery_directory.specs.Reserved.{peer_of}
use Rattle.p2p_discovery_directory.specs.Asking.{Way, answer_of}
use Rattle.p2p_discovery_directory.specs.Telling.{frame_of_told}
use Rattle.p2p_discovery_directory.specs.declared.peer.message.Message.{Message}
use Rattle.p2p_discovery_directory.specs.declared.tracker.answer.Answer.{Answer}
use Rattle.p2p_discovery_directory.specs.declared.tracker.answer.Answer.TheVariants as answer
use Rattle.p2p_discovery_peer.specs.Connection.{Connection}
use Rattle.p2p_discovery_peer.specs.Ready.{is_idle, sends_at, sends_of, sends}
use Rattle.p2p_discovery_peer.specs.Sending.{greeting_of, gathered_for, written_as, wrote, sent_as, sent_by, send_answer, send_answer_of}
use Rattle.p2p_discovery_peer.specs.declared.peer.error.Error.TheVariants as error
use Rattle.p2p_discovery_peer.specs.declared.peer.live.Live.{Live}
use Rattle.p2p_discovery_peer.specs.declared.peer.live.Stage.{Stage}
use Rattle.p2p_discovery_peer.specs.declared.peer.live.Stage.TheVariants as stage
use Rattle.p2p_discovery_peer.specs.declared.peer.stepped.Stepped.TheVariants as stepped

module _ {P : Type 0} (peer : P) (w : ℕ) where
  written_busy : (greets : Bool) (frames : List (List ℕ)) → is_idle (written_as {P = P} greets frames) ≡ false
  written_busy true frames = refl
  written_busy false frames = refl

  wrote_busy : (greets : Bool) (frames : List (List ℕ)) → is_idle (wrote {P = P} greets frames w) ≡ false
  wrote_busy greets frames = elim (w == length frames) as (λ b. is_idle {P = P} (cond b (written_as greets frames) (stepped.Ended error.SendFailed frames w)) ≡ false) [ true ↦ written_busy greets frames | false ↦ refl ]

  idle_as : (g : Gathered) → is_idle (sent_as peer w g) ≡ is_nothing g
  idle_as gathered.Nothing = refl
  idle_as gathered.Killed = refl
  idle_as gathered.Disconnected = refl
  idle_as (gathered.Batch frames) = wrote_busy false frames

  module _ (bytes_of : P → List ℕ) where
    by_due : (due : Bool) (size : ℕ) (control : Queue (Message P)) (lanes : Option (Lanes EncodedData)) → 1 ≤ size
        → is_idle (cond due stepped.Asked (sent_as peer w (gathered_for bytes_of size control lanes))) ≡ not (due || has_work control.closed None control.items lanes)
    by_due true size control lanes some = refl
    by_due false size control lanes some =
        idle_as (gathered_for bytes_of size control lanes)
        ∙ nothing-gathered (frame_of_told bytes_of) control.closed size None control.items lanes some

module _ {P : Type 0} (bytes_of : P → List ℕ) (w now : ℕ) where
  at_stage : (s : Stage P) (peer : P) (size : ℕ) (control : Queue (Message P)) (a : Option (Answer P)) (lanes : Option (Lanes EncodedData)) → 1 ≤ size
      → is_idle (sent_by bytes_of s peer size control a lanes now w) ≡ not (sends_at s control a lanes now)
  at_stage stage.New peer size control a lanes some = refl
  at_stage stage.Asking peer size control None lanes some = refl
  at_stage stage.Asking peer size control (Some answer.NotEligible) lanes some = refl
  at_stage stage.Asking peer size control (Some (answer.Greeting info)) lanes some = refl
  at_stage (stage.Greeting info) peer size control a None some = refl
  at_stage (stage.Greeting info) peer size control a (Some l) some = wrote_busy peer w true (greeting_of bytes_of info)
  at_stage (stage.Running due_at) peer size control a lanes some = by_due peer w bytes_of (nat_le due_at now) size control lanes some

  module _ (cmp : P → P → Ordering) (c : Connection P) (r : Routes P) (way : Way P) where
    while_live : (o : Option (Live P)) → 1 ≤ c.limits.send_batch_size → is_idle (send_answer_of bytes_of cmp c r way now o w) ≡ not (sends_of cmp c r way now o)
    while_live None some = refl
    while_live (Some l) some = at_stage l.stage (peer_of l.reservation) c.limits.send_batch_size c.control (answer_of way c.conn) (relay_at cmp r c.conn) some

    pub send-idle : 1 ≤ c.limits.send_batch_size → is_idle (send_answer bytes_of cmp c r way now w) ≡ not (sends cmp c r way now)
    send-idle some = while_live c.live some
