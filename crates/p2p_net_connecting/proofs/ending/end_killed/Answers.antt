use Rattle.std.proofs.Common.{◌≡◌, ap, refl, subst, ◌∙◌, Option, Some, None}
use Rattle.std.specs.Prelude.{slice_get}
use Rattle.p2p_log.specs.declared.queue.Queue.TheVariants as queue
use Rattle.p2p_log.specs.declared.item.Envelope.{Envelope}
use Rattle.p2p_log.specs.declared.end.Cause.{Cause}
use Rattle.p2p_log.specs.declared.end.Cause.TheVariants as cause
use Rattle.p2p_log.specs.declared.entry.Ended.{Ended}
use Rattle.p2p_log.specs.declared.entry.Ended.TheVariants as ended
use Rattle.p2p_log_rules.specs.declared.row.Row.{Row}
use Rattle.p2p_net_queues.specs.Board.{held}
use Rattle.p2p_net_connecting.specs.Ending.{ending, ending_for, took_first, Ends}
use Rattle.p2p_net_node.specs.declared.node.Node.{Node}
use Rattle.p2p_net_connecting.proofs.ending.end_killed.Goals as goal

took_ending : (why : Ended) (c : Cause) (o : Option Envelope) → took_first c o (ending why) ≡ ending_for why c o
took_ending why c None = refl
took_ending why c (Some x) = refl

pub returns-clause-does : goal.returns-clause-does
returns-clause-does c =
    let x : Node = c.args.node.now in
    let first = slice_get (held x.tracker.told (queue.Control c.args.turn.node c.args.conn)) 0 in
    let row_is : c.take_told.new.row ≡ ending_for ended.Killed cause.ConnectionEnded first =
    c.in_ok-take_told.ensures.row ∙ (ap (λ (r : Row). took_first cause.ConnectionEnded first r) c.only-row.ensures ∙ took_ending ended.Killed cause.ConnectionEnded first)
    in
    record {
      told_less = c.take_told.new.node;
      told = c.in_ok-take_told.ensures.told;
      tracker = c.in_ok-take_told.ensures.tracker;
      rest = c.in_ok-take_told.ensures.rest;
      ends = subst
          (λ (r : Row). Ends c.args.turn.entry c.args.turn.node c.args.conn c.args.half c.take_told.new.node c.end.new.node c.args.links.now c.end.new.links r c.end.new.row)
          row_is c.in_ok-end.ensures.does;
    }
