use Rattle.std.specs.Prelude.{slice_get}
use Rattle.std.proofs.Common.{◌≡◌, length, Some, ap, sym, subst, ◌∙◌, refl}
use Rattle.p2p_log_rules.specs.declared.row.Row.{Row}
use Rattle.p2p_net_queues.specs.Board.{held}
use Rattle.p2p_log_rules.specs.Rows.{taken_row}
use Rattle.p2p_net_tracker.specs.Heeding.{heeded_by}
use Rattle.p2p_net_tracker.specs.Naming.{named_puts}
use Rattle.p2p_net_tracker.specs.Telling.{told_in, told_to}
use Rattle.p2p_net_tracker.specs.Stepping.{TellsBy, TellsFor}
use Rattle.p2p_net_tracker.proofs.tracker.Tracker.step.Goals as goal

-- a message was taken, and told of under its name
pub returns-in_ok-tell-in-Message : goal.returns-in_ok-tell-in-Message
returns-in_ok-tell-in-Message c =
    let t = c.args.self.now in
    let puts = heeded_by t.ended (named_puts c.args.turn.node t.tickets c.in-Message.put) in
    let row : c.in_ok-row-in-Message.row ≡ taken_row c.in-Some.name = c.in_ok-row-in-Message.ensures in
    let name : Some c.in-Some.name ≡ slice_get t.names 0 = sym c.in-Some.is ∙ c.pop.ensures.first in
    let new = record t { actor = c.step.new.self; mailbox = c.step.new.way; names = c.pop.new.self; told = c.tell-in-Message.new.told } in
    record {
      stepped = c.in_ok-step.field-0;
      steps = record {
        step = c.in_ok-step.ensures.step;
        answer = c.in_ok-step.ensures.answer;
        works = c.in_ok-step.ensures.works;
      };
      tells = subst (λ s. TellsBy s c.args.turn.entry c.args.turn.node t new c.tell-in-Message.new.row) (sym c.in-Message.is) (
        subst (λ o. TellsFor o c.args.turn.entry puts t new c.tell-in-Message.new.row) name (record {
          row = c.in_ok-tell-in-Message.ensures.row ∙ ap (told_in (held t.told) puts) row;
          told = λ q. c.in_ok-tell-in-Message.ensures.told q ∙ ap (λ (r : Row). told_to (held t.told) puts c.args.turn.entry (length r.puts) q) row;
        }),
        c.pop.ensures.rest,
      );
      rest = refl;
    }
