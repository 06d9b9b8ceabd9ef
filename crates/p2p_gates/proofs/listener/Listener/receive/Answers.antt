use Rattle.std.proofs.Common.{◌≡◌, drop, List, None, sym, ap, ◌∙◌}
use Rattle.std.specs.Prelude.{slice_get}
use Rattle.p2p_gates.specs.Listening.{Listening}
use Rattle.p2p_gates.specs.declared.arrival.Arrival.{Arrival}
use Rattle.p2p_gates.proofs.Emptied.{drop-none}
use Rattle.p2p_gates.proofs.Passing.{receives, idles}
use Rattle.p2p_gates.proofs.listener.Listener.receive.Goals as goal

pub returns-in-Some : goal.returns-in-Some
returns-in-Some g c =
    let With : List (Arrival g.row.P.Denot) → Listening g.row.P.Denot = λ arrivals. record {
      allow_private_ips = c.self.inside.allow_private_ips;
      bypass_ip_check = c.self.inside.bypass_ip_check;
      handshake_timeout = c.self.inside.handshake_timeout;
      arrivals = arrivals;
      registered = c.self.inside.registered.keys;
      quotas = c.self.inside.quotas;
      places = c.self.inside.places;
      has_failed = c.self.inside.has_failed;
    } in
    record {
      step = receives c.args.self.now (With c.pop.new.self) c.pass.new.self c.args.way.now c.pass.new.way c.args.name c.args.now c.in-Some.arrival c.pass.result
          (ap With c.pop.ensures.rest ∙ ap (λ (l : Listening g.row.P.Denot). record l { arrivals = drop 1 l.arrivals }) c.self.view_is)
          (ap (λ (l : Listening g.row.P.Denot). slice_get l.arrivals 0) (sym c.self.view_is) ∙ (sym c.pop.ensures.first ∙ c.in-Some.is))
          c.pass.ensures.step;
    }

pub returns-in-None : goal.returns-in-None
returns-in-None g c =
    let With : List (Arrival g.row.P.Denot) → Listening g.row.P.Denot = λ arrivals. record {
      allow_private_ips = c.self.inside.allow_private_ips;
      bypass_ip_check = c.self.inside.bypass_ip_check;
      handshake_timeout = c.self.inside.handshake_timeout;
      arrivals = arrivals;
      registered = c.self.inside.registered.keys;
      quotas = c.self.inside.quotas;
      places = c.self.inside.places;
      has_failed = c.self.inside.has_failed;
    } in
    let none : slice_get c.self.inside.arrivals 0 ≡ None = sym c.pop.ensures.first ∙ c.in-None.is in
    record {
      step = idles c.args.self.now (With c.pop.new.self) c.args.way.now c.args.name c.args.now
          (ap (λ (l : Listening g.row.P.Denot). slice_get l.arrivals 0) (sym c.self.view_is) ∙ none)
          (ap With (c.pop.ensures.rest ∙ drop-none c.self.inside.arrivals none) ∙ c.self.view_is);
    }
