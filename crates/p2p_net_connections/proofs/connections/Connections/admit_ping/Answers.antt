use Rattle.std.proofs.Common.{◌≡◌, ap, sym, subst, ◌∙◌}
use Rattle.std.specs.Map.{set_value}
use Rattle.std.specs.BTreeMap.{is_at}
use Rattle.std.specs.Ordering.{nat_cmp}
use Rattle.std.specs.Option.{OnSome, option_copied_mut}
use Rattle.p2p_net_connections.specs.declared.connections.Connection.{Connection}
use Rattle.p2p_net_connections.proofs.AskedPing.{asked_is}
use Rattle.p2p_net_connections.proofs.connections.Connections.admit_ping.Goals as goal

pub returns-in-Some-clause-after : goal.returns-in-Some-clause-after
returns-in-Some-clause-after c =
    let w : Connection = record c.in-Some.connection.now { pings = c.check.new.self } in
    asked_is c.args.self.now c.in-Some.connection.now c.args.conn c.args.now c.check.new.self (c.find_mut.follows.lender w)
    (sym c.find_mut.ensures.value ∙ ap option_copied_mut c.in-Some.is) c.check.ensures.after
    (subst (λ o. OnSome o (c.find_mut.follows.lender w ≡ set_value (is_at (nat_cmp c.args.conn)) c.args.self.now.spawned w)) c.in-Some.is (c.find_mut.follows.holds w))
