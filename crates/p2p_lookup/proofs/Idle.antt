-- A step of the sending half is idle exactly where no input is ready.
use Rattle.std.proofs.Common.{◌≡◌, ℕ, ◌≤◌, ◌==◌, Bool, true, false, cond, List, length, Option, Some, None, refl, ◌∙◌}
use Rattle.std.specs.Prelude.{slice_get, not, ◌||◌, nat_le, is_some}
use Rattle.std.specs.declared.cmp.Ordering.{Ordering}
use Rattle.p2p_base.specs.Queue.{Queue}
use Rattle.p2p_flow.specs.Lanes.{Lanes}
use Rattle.p2p_flow_connection.specs.Batching.{next_of}
use Rattle.p2p_peer_shared.specs.Gathering.{is_nothing}
use Rattle.p2p_peer_shared.specs.declared.gathering.Gathered.{Gathered}
use Rattle.p2p_peer_shared.specs.declared.gathering.Gathered.TheVariants as gathered
use Rattle.p2p_peer_shared.proofs.Working.{nothing-gathered}
use Rattle.p2p_wire.specs.declared.encoded.EncodedData.{EncodedData}
use Rattle.p2p_router.specs.Connections.{relay_at}
use Rattle.p2p_router.specs.Routes.{Routes}
use Rattle.p2p_tracker_directory.specs.Reserved.{peer_of}
use Rattle.p2p_lookup.specs.Connection.{Connection}
use Rattle.p2p_lookup.specs.Ready.{is_idle, sends_at, sends_of, sends}
use Rattle.p2p_lookup.specs.Sending.{ping_first, gathered_for, wrote, sent_as, sent_by, send_answer, send_answer_of}
use Rattle.p2p_lookup.specs.declared.peer.error.Error.TheVariants as error
use Rattle.p2p_lookup.specs.declared.peer.live.Live.{Live}
use Rattle.p2p_lookup.specs.declared.peer.live.Stage.{Stage}
use Rattle.p2p_lookup.specs.declared.peer.live.Stage.TheVariants as stage
use Rattle.p2p_lookup.specs.declared.peer.mailbox.Message.{Message}
use Rattle.p2p_lookup.specs.declared.peer.stepped.Stepped.TheVariants as stepped

module _ {P : Type 0} (peer : P) (w : ℕ) where
  wrote_busy : (due : Bool) (frames : List (List ℕ)) → is_idle (wrote {P = P} due frames w) ≡ false
  wrote_busy due frames = elim (w == length frames) as (λ b. is_idle {P = P} (cond b (stepped.Sent due frames) (stepped.Ended error.SendFailed frames w)) ≡ false) [ true ↦ refl | false ↦ refl ]

  idle_as : (due : Bool) (g : Gathered) → is_idle (sent_as peer due w g) ≡ is_nothing g
  idle_as due gathered.Nothing = refl
  idle_as due gathered.Killed = refl
  idle_as due gathered.Disconnected = refl
  idle_as due (gathered.Batch frames) = wrote_busy due frames

  by_due : (due : Bool) (size : ℕ) (control : Queue Message) (lanes : Lanes EncodedData) → 1 ≤ size
      → is_idle (sent_as peer due w (gathered_for size due control (Some lanes))) ≡ not (due || is_some (next_of (slice_get control.items 0) control.closed lanes))
  by_due true size control lanes some =
      idle_as true (gathered_for size true control (Some lanes))
      ∙ nothing-gathered (λ _. None) control.closed size (ping_first true) control.items (Some lanes) some
  by_due false size control lanes some =
      idle_as false (gathered_for size false control (Some lanes))
      ∙ nothing-gathered (λ _. None) control.closed size (ping_first false) control.items (Some lanes) some

module _ {P : Type 0} (w now : ℕ) where
  at_stage : (s : Stage) (peer : P) (size : ℕ) (control : Queue Message) (lanes : Option (Lanes EncodedData)) → 1 ≤ size
      → is_idle (sent_by s peer size control lanes now w) ≡ not (sends_at s control lanes now)
  at_stage stage.New peer size control lanes some = refl
  at_stage stage.Waiting peer size control None some = refl
  at_stage stage.Waiting peer size control (Some l) some = refl
  at_stage (stage.Running ping_at) peer size control None some = refl
  at_stage (stage.Running ping_at) peer size control (Some l) some = by_due peer w (nat_le ping_at now) size control l some

  module _ (cmp : P → P → Ordering) (c : Connection P) (r : Routes P) where
    while_live : (o : Option (Live P)) → 1 ≤ c.limits.send_batch_size → is_idle (send_answer_of cmp c r now o w) ≡ not (sends_of cmp c r now o)
    while_live None some = refl
    while_live (Some l) some = at_stage l.stage (peer_of l.reservation) c.limits.send_batch_size c.control (relay_at cmp r c.conn) some

    pub send-idle : 1 ≤ c.limits.send_batch_size → is_idle (send_answer cmp c r now w) ≡ not (sends cmp c r now)
    send-idle some = while_live c.live some
