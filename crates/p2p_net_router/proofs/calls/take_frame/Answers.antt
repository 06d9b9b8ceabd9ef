use Rattle.std.proofs.Common.{List, Bool, ap, sym, ◌∙◌}
use Rattle.p2p_base.specs.declared.key.Key.{Key}
use Rattle.p2p_base.specs.Queue.{without_oldest}
use Rattle.p2p_flow.specs.Lanes.{lane, with_lane}
use Rattle.p2p_router.specs.declared.link.Link.{Link}
use Rattle.p2p_router.specs.Routing.{link_of}
use Rattle.p2p_net_router.specs.Items.{key_cmp}
use Rattle.p2p_net_router.proofs.Taken.{popped_links}
use Rattle.p2p_net_router.proofs.calls.take_frame.Goals as goal

pub returns-then-priority-clause-after : goal.returns-then-priority-clause-after
returns-then-priority-clause-after c =
    let links = c.args.actor.now.links in
    let r = c.in-Some.relay.now in
    (rw c.in-Some.is at (c.relay_of.follows.holds c.take_high.new.self))
    ∙ ap (λ (ls : List (Key × Link)). record c.args.actor.now { links = ls })
    (popped_links links c.args.key c.args.priority (link_of key_cmp links c.args.key) r c.take_high.new.self (rw c.in-Some.is at c.relay_of.ensures.value)
    (c.take_high.ensures.after ∙ ap (λ (b : Bool). with_lane r b (without_oldest (lane r b))) (sym c.if-priority.true)))

pub returns-else-priority-clause-after : goal.returns-else-priority-clause-after
returns-else-priority-clause-after c =
    let links = c.args.actor.now.links in
    let r = c.in-Some.relay.now in
    (rw c.in-Some.is at (c.relay_of.follows.holds c.take_low.new.self))
    ∙ ap (λ (ls : List (Key × Link)). record c.args.actor.now { links = ls })
    (popped_links links c.args.key c.args.priority (link_of key_cmp links c.args.key) r c.take_low.new.self (rw c.in-Some.is at c.relay_of.ensures.value)
    (c.take_low.ensures.after ∙ ap (λ (b : Bool). with_lane r b (without_oldest (lane r b))) (sym c.if-priority.false)))
