use Rattle.p2p_gates.proofs.Passing.{passes}
use Rattle.p2p_gates.proofs.listener.Listener.pass.Goals as goal

pub returns : goal.returns
returns g c = record {
  step =
      passes c.args.self.now c.judge.new.self c.args.way.now c.tell.new.way c.args.name c.args.now c.args.arrival c.in_ok-reply.reply c.tell.result
      c.in_ok-reply.ensures.reply c.in_ok-reply.ensures.stands c.in_ok-reply.ensures.places c.judge.ensures.arrivals c.judge.ensures.rest
      c.judge.ensures.rates c.in_ok-reply.ensures.quotas c.tell.ensures.answer c.tell.ensures.way;
}
