use Rattle.std.proofs.Common.{◌≡◌, ◌++◌, max}
use Rattle.p2p_net_channels.specs.Senders.{keys_passed, retry_told, keys_metered}
use Rattle.p2p_net_channels.proofs.channels.Channels.offer.Given as goal

-- the keys admitted so far, and then those of the rest that are; the latest moment told so far, or one that is told of the rest
abbrev pub invariant-loop-key : goal.invariant-loop-key
invariant-loop-key l = record {
  admitted : l.offer.admitted ++ keys_passed l.self l.channel l.key-iterator.rest.items l.now ≡ keys_passed l.initial.self l.channel l.fn.keys l.now;
  retry : max l.offer.retry (retry_told l.self l.channel l.key-iterator.rest.items l.now) ≡ retry_told l.initial.self l.channel l.fn.keys l.now;
  metered : keys_metered l.channel l.key-iterator.rest.items l.now l.self ≡ keys_metered l.channel l.fn.keys l.now l.initial.self;
}
