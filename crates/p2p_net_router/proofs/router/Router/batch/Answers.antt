use Rattle.p2p_log_rules.specs.Effect.{mailbox_size_at}
use Rattle.p2p_net_router.proofs.Batches.{batch_taken, AreApart-left, AreKept-trans}
use Rattle.p2p_net_router.proofs.Batched.{over_kept, stands_batched}
use Rattle.p2p_net_router.proofs.router.Router.batch.Goals as goal

pub returns-clause-taken : goal.returns-clause-taken
returns-clause-taken c =
    λ places items h apart.
    let r = c.args.self.now in
    (batch_taken places r c.take_lane.new.router c.take_lane-2.new.router items c.args.conn c.args.size c.len.result c.empty-taken.result c.take_lane.new.taken c.take_lane-2.new.taken
    apart c.in_ok-take_lane.ensures.kept c.empty-taken.ensures
    (record { taken = c.in_ok-take_lane.ensures.taken places items h apart; holds = c.in_ok-take_lane.ensures.holds places items h apart }) c.len.ensures
    (record {
      taken = c.in_ok-take_lane-2.ensures.taken places _ (c.in_ok-take_lane.ensures.holds places items h apart) (AreApart-left _ items apart);
      holds = c.in_ok-take_lane-2.ensures.holds places _ (c.in_ok-take_lane.ensures.holds places items h apart) (AreApart-left _ items apart);
    })).0

pub returns-clause-holds : goal.returns-clause-holds
returns-clause-holds c =
    λ places items h apart.
    let r = c.args.self.now in
    (batch_taken places r c.take_lane.new.router c.take_lane-2.new.router items c.args.conn c.args.size c.len.result c.empty-taken.result c.take_lane.new.taken c.take_lane-2.new.taken
    apart c.in_ok-take_lane.ensures.kept c.empty-taken.ensures
    (record { taken = c.in_ok-take_lane.ensures.taken places items h apart; holds = c.in_ok-take_lane.ensures.holds places items h apart }) c.len.ensures
    (record {
      taken = c.in_ok-take_lane-2.ensures.taken places _ (c.in_ok-take_lane.ensures.holds places items h apart) (AreApart-left _ items apart);
      holds = c.in_ok-take_lane-2.ensures.holds places _ (c.in_ok-take_lane.ensures.holds places items h apart) (AreApart-left _ items apart);
    })).1

pub returns-clause-kept : goal.returns-clause-kept
returns-clause-kept c = AreKept-trans c.args.self.now c.take_lane.new.router c.take_lane-2.new.router c.in_ok-take_lane.ensures.kept c.in_ok-take_lane-2.ensures.kept

pub returns-clause-stands : goal.returns-clause-stands
returns-clause-stands c =
    λ configs log e s b takes ends away.
    stands_batched configs log e c.args.self.now c.take_lane-2.new.router c.args.conn c.args.size c.take_lane-2.new.taken
    (returns-clause-kept c) (returns-clause-taken c) (returns-clause-holds c) s b takes ends away

pub returns-clause-over : goal.returns-clause-over
returns-clause-over c =
    λ configs log items s apart.
    over_kept configs log c.args.self.now c.take_lane-2.new.router items _ s (returns-clause-kept c) (returns-clause-holds c (mailbox_size_at configs c.args.self.now.number) items s.holds apart)
