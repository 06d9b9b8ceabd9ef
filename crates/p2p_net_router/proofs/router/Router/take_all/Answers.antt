use Rattle.p2p_log_rules.specs.Effect.{mailbox_size_at}
use Rattle.p2p_net_router.proofs.Batches.{all_taken, AreApart-left, AreKept-trans}
use Rattle.p2p_net_router.proofs.Batched.{over_kept}
use Rattle.p2p_net_router.proofs.router.Router.take_all.Goals as goal

pub returns-clause-taken : goal.returns-clause-taken
returns-clause-taken c =
    λ places items h apart.
    let first = c.in_ok-take_lane.ensures.holds places items h apart in
    (all_taken places c.args.self.now c.take_lane.new.router c.take_lane-2.new.router items c.args.conn c.waiting-high.result c.waiting-low.result c.empty-taken.result c.take_lane.new.taken c.take_lane-2.new.taken
    apart c.in_ok-take_lane.ensures.kept c.empty-taken.ensures (c.waiting-high.ensures places items h)
    (record { taken = c.in_ok-take_lane.ensures.taken places items h apart; holds = first })
    (c.waiting-low.ensures places _ first)
    (record {
      taken = c.in_ok-take_lane-2.ensures.taken places _ first (AreApart-left _ items apart);
      holds = c.in_ok-take_lane-2.ensures.holds places _ first (AreApart-left _ items apart);
    })).0

pub returns-clause-holds : goal.returns-clause-holds
returns-clause-holds c =
    λ places items h apart.
    let first = c.in_ok-take_lane.ensures.holds places items h apart in
    (all_taken places c.args.self.now c.take_lane.new.router c.take_lane-2.new.router items c.args.conn c.waiting-high.result c.waiting-low.result c.empty-taken.result c.take_lane.new.taken c.take_lane-2.new.taken
    apart c.in_ok-take_lane.ensures.kept c.empty-taken.ensures (c.waiting-high.ensures places items h)
    (record { taken = c.in_ok-take_lane.ensures.taken places items h apart; holds = first })
    (c.waiting-low.ensures places _ first)
    (record {
      taken = c.in_ok-take_lane-2.ensures.taken places _ first (AreApart-left _ items apart);
      holds = c.in_ok-take_lane-2.ensures.holds places _ first (AreApart-left _ items apart);
    })).1

pub returns-clause-kept : goal.returns-clause-kept
returns-clause-kept c = AreKept-trans c.args.self.now c.take_lane.new.router c.take_lane-2.new.router c.in_ok-take_lane.ensures.kept c.in_ok-take_lane-2.ensures.kept

pub returns-clause-over : goal.returns-clause-over
returns-clause-over c =
    λ configs log items s apart.
    over_kept configs log c.args.self.now c.take_lane-2.new.router items _ s (returns-clause-kept c) (returns-clause-holds c (mailbox_size_at configs c.args.self.now.number) items s.holds apart)
