use Rattle.std.proofs.Common.{length, sym, subst}
use Rattle.p2p_base.specs.declared.key.Key.{Key}
use Rattle.p2p_flow_senders.specs.Limits.{Limits, Named, HasLimit}
use Rattle.p2p_router.specs.Messenger.{Desk}
use Rattle.p2p_network_example.proofs.talk.show.Goals as goal

pub say-requires : goal.say-requires
say-requires g c =
    let s = c.in_ok-first.first.sender in
    c.in_ok-near.ensures s (subst (λ (w : Limits Key (Desk Key)). HasLimit (λ d. length d.lists) s w) (sym c.meet.ensures.first) c.in_ok-first.ensures)

pub close-requires-2 : goal.close-requires-2
close-requires-2 g c =
    let s = c.in_ok-second.second.sender in
    let met = subst (λ (w : Limits Key (Desk Key)). HasLimit (λ d. length d.lists) s w) (sym c.meet.ensures.second) c.in_ok-second.ensures in
    let received = c.in_ok-recv_step.ensures s (c.in_ok-far.ensures s met) in
    let heard = subst (λ (w : Limits Key (Desk Key)). HasLimit (λ d. length d.lists) s w) (sym c.hear.ensures.way) received in
    let ended = c.in_ok-route.ensures s (c.in_ok-recv_step-2.ensures s heard) in
    subst (λ (n : Named). HasLimit (λ (d : Desk Key). length d.lists) n c.route.new.running.way) (sym c.hear.ensures.sender) ended
