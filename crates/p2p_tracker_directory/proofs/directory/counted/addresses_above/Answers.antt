use Rattle.std.proofs.Common.{◌&&◌, ◌||◌, sym, ap, ◌∙◌}
use Rattle.std.specs.Prelude.{nat_lt}
use Rattle.p2p_address.specs.Addresses.{is_global}
use Rattle.p2p_tracker_directory.proofs.AddressCounts.{tallies-from}
use Rattle.p2p_tracker_directory.proofs.Entries.{listed, passed_over}
use Rattle.p2p_tracker_directory.proofs.directory.counted.addresses_above.Goals as goal

pub loop-ip-preserved-in-Continue-1 : goal.loop-ip-preserved-in-Continue-1
loop-ip-preserved-in-Continue-1 c = λ n t.
    listed (λ e. nat_lt (n e.0) e.1 && (c.args.private || is_global e.0)) _ c.loop-ip.ip-iterator c.next.new.self (c.in-Some.ip.now, c.in-Some.count.now) c.loop-ip.found.items c.push.new.self.items c.in-Some.ensures.steps
    (ap (λ m. nat_lt m c.in-Some.count.now && (c.args.private || is_global c.in-Some.ip.now)) (sym (c.tally.ensures n (tallies-from c.args.off.now.entries n t)))
    ∙ (sym c.is_above.ensures ∙ c.if-is_above.true))
    c.in_ok-push.ensures.items (c.loop-ip.invariant n t)

pub loop-ip-preserved : goal.loop-ip-preserved
loop-ip-preserved c = λ n t.
    passed_over (λ e. nat_lt (n e.0) e.1 && (c.args.private || is_global e.0)) _ c.loop-ip.ip-iterator c.next.new.self (c.in-Some.ip.now, c.in-Some.count.now) c.loop-ip.found.items c.in-Some.ensures.steps
    (ap (λ m. nat_lt m c.in-Some.count.now && (c.args.private || is_global c.in-Some.ip.now)) (sym (c.tally.ensures n (tallies-from c.args.off.now.entries n t)))
    ∙ (sym c.is_above.ensures ∙ c.if-is_above.false))
    (c.loop-ip.invariant n t)
