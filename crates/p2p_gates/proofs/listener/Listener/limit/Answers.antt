use Rattle.std.proofs.Common.{sym, subst}
use Rattle.p2p_tracker_calls.specs.Gates.{charged_by}
use Rattle.p2p_gates.specs.Gates.{rules_of}
use Rattle.p2p_gates.specs.Listening.{Listening, StandsFor}
use Rattle.p2p_gates.proofs.listener.Listener.limit.Goals as goal

pub returns-then-ip-clause-stands : goal.returns-then-ip-clause-stands
returns-then-ip-clause-stands g c = λ k s.
    let After : Listening g.row.P.Denot = record {
      allow_private_ips = c.self.inside.allow_private_ips;
      bypass_ip_check = c.self.inside.bypass_ip_check;
      handshake_timeout = c.self.inside.handshake_timeout;
      arrivals = c.self.inside.arrivals;
      registered = c.self.inside.registered.keys;
      quotas = c.check.new.self;
      places = c.self.inside.places;
      has_failed = c.self.inside.has_failed;
    } in
    let kept = subst (λ (l : Listening g.row.P.Denot). StandsFor l k) (sym c.self.view_is) s in
    subst (λ (l : Listening g.row.P.Denot). StandsFor After (charged_by (rules_of l) k c.args.ip.now c.args.now)) c.self.view_is
    (record { addresses = kept.addresses; passed = c.in_ok-ip.ensures.stands k.passed k.latest kept.passed })

pub returns-then-not-try_acquire-clause-stands : goal.returns-then-not-try_acquire-clause-stands
returns-then-not-try_acquire-clause-stands g c = λ k s.
    let After : Listening g.row.P.Denot = record {
      allow_private_ips = c.self.inside.allow_private_ips;
      bypass_ip_check = c.self.inside.bypass_ip_check;
      handshake_timeout = c.self.inside.handshake_timeout;
      arrivals = c.self.inside.arrivals;
      registered = c.self.inside.registered.keys;
      quotas = c.check.new.self;
      places = c.try_acquire.new.self;
      has_failed = c.self.inside.has_failed;
    } in
    let kept = subst (λ (l : Listening g.row.P.Denot). StandsFor l k) (sym c.self.view_is) s in
    subst (λ (l : Listening g.row.P.Denot). StandsFor After (charged_by (rules_of l) k c.args.ip.now c.args.now)) c.self.view_is
    (record { addresses = kept.addresses; passed = c.in_ok-ip.ensures.stands k.passed k.latest kept.passed })

pub returns-clause-stands : goal.returns-clause-stands
returns-clause-stands g c = λ k s.
    let After : Listening g.row.P.Denot = record {
      allow_private_ips = c.self.inside.allow_private_ips;
      bypass_ip_check = c.self.inside.bypass_ip_check;
      handshake_timeout = c.self.inside.handshake_timeout;
      arrivals = c.self.inside.arrivals;
      registered = c.self.inside.registered.keys;
      quotas = c.check.new.self;
      places = c.try_acquire.new.self;
      has_failed = c.self.inside.has_failed;
    } in
    let kept = subst (λ (l : Listening g.row.P.Denot). StandsFor l k) (sym c.self.view_is) s in
    subst (λ (l : Listening g.row.P.Denot). StandsFor After (charged_by (rules_of l) k c.args.ip.now c.args.now)) c.self.view_is
    (record { addresses = kept.addresses; passed = c.in_ok-ip.ensures.stands k.passed k.latest kept.passed })
