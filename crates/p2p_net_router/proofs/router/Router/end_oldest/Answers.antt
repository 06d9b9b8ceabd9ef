use Rattle.std.proofs.Common.{◌≡◌, Some, None, sym, subst, ◌∙◌}
use Rattle.p2p_base.specs.declared.key.Key.{Key}
use Rattle.p2p_router.specs.Messenger.{Desk, message_waiting}
use Rattle.p2p_log_rules.proofs.Left.{left}
use Rattle.std.specs.Prelude.{filter, take}
use Rattle.p2p_log.specs.declared.queue.Queue.TheVariants as queue
use Rattle.p2p_log.specs.Lines.{stands_in}
use Rattle.p2p_net_router.specs.Resting.{RouterLeft}
use Rattle.p2p_net_router.proofs.Leaving.{mailbox_none, none_left, first_ended, first_left}
use Rattle.p2p_net_router.proofs.router.Router.end_oldest.Goals as goal

pub returns-in_default-clause-left : goal.returns-in_default-clause-left
returns-in_default-clause-left c =
    λ items h apart.
    let r = c.args.self.now in
    let idle : message_waiting r.messenger ≡ None = sym c.take.ensures.value ∙ c.in_default.is in
    let line = filter (stands_in (queue.Router r.number)) items in
    subst (λ (d : Desk Key). RouterLeft (record r { messenger = d }) (left (take 1 line) items)) (sym c.in_default.ensures.unchanged) (none_left r items line (mailbox_none r items h idle) h)

pub returns-clause-row : goal.returns-clause-row
returns-clause-row c =
    λ items h apart.
    let r = c.args.self.now in
    let waits : message_waiting r.messenger ≡ Some c.in-Some.message = sym c.take.ensures.value ∙ c.in-Some.is in
    first_ended r items c.in-Some.message c.in-Some-pop.name c.args.row.now c.end_message.new.row h waits (sym c.in-Some-pop.is ∙ c.pop.ensures.first) c.in_ok-end_message.ensures

pub returns-clause-left : goal.returns-clause-left
returns-clause-left c =
    λ items h apart.
    let r = c.args.self.now in
    let waits : message_waiting r.messenger ≡ Some c.in-Some.message = sym c.take.ensures.value ∙ c.in-Some.is in
    let line = filter (stands_in (queue.Router r.number)) items in
    subst (λ (d : Desk Key). RouterLeft (record r { messenger = d; names = c.pop.new.self }) (left (take 1 line) items)) (sym c.take.ensures.after)
    (first_left r c.pop.new.self items c.in-Some.message h apart waits c.pop.ensures.rest)
