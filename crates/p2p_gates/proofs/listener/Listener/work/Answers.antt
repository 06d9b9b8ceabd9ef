use Rattle.std.proofs.Common.{List, Option, Some, sym, ap, ◌∙◌}
use Rattle.p2p_address.specs.declared.ip.IpAddr.{IpAddr}
use Rattle.p2p_tracker_mailbox.specs.declared.mailbox.Mailbox.{Mailbox}
use Rattle.p2p_gates.proofs.Passing.{awaits, updates}
use Rattle.p2p_gates.proofs.listener.Listener.work.Goals as goal

pub returns-in-Some : goal.returns-in-Some
returns-in-Some g c =
    let With : Option (List IpAddr) → Mailbox g.row.P.Denot = λ h. record c.args.way.now { heard = h } in
    record {
      step = updates c.args.self.now c.register.new.self c.args.way.now (With c.take.new.self) c.args.name c.args.now c.as_slice.result.now c.register.result
          (sym c.take.ensures.value ∙ (c.in-Some.is ∙ ap Some (sym c.as_slice.ensures))) (ap With c.take.ensures.after)
          c.register.ensures.answer c.register.ensures.stands c.register.ensures.after;
    }

pub returns-in-None : goal.returns-in-None
returns-in-None g c =
    record {
      step = awaits c.args.self.now c.receive.new.self c.args.way.now c.receive.new.way c.args.name c.args.now c.take.new.self c.receive.result
          c.take.ensures.after (sym c.take.ensures.value ∙ c.in-None.is) c.receive.ensures.step;
    }
