use Rattle.p2p_flow_senders.proofs.Places.{one_more_channel}
use Rattle.p2p_flow_senders.proofs.registered.Channels.register.Goals as goal

pub invariant_of-self-2 : goal.invariant_of-self-2
invariant_of-self-2 g c = (
  c.self.invariant.0,
  one_more_channel c.self.inside.max_peers c.in_ok-places.field-0.all c.self.inside.quotas.items c.deref.result.now c.reserve.new.self.items c.push_reserved.new.self.items
      (c.args.channel, c.args.quota) c.deref.ensures.value c.in_ok-reserve.ensures.items c.push_reserved.ensures.items c.in_ok-places.ensures.all,
)
