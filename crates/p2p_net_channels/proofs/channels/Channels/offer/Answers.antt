use Rattle.std.proofs.Common.{rules, ◌≡◌, arith, ap, sym, ◌∙◌, ◌∷◌, []}
use Rattle.std.proofs.lemmas.List.{nil_from_length}
use Rattle.p2p_net_channels.specs.Senders.{keys_passed, retry_told, keys_metered}
use Rattle.p2p_net_channels.proofs.Admitted.{admitted-more, retry-more, retry-all, metered-more, keys_metered-none}
use Rattle.p2p_net_channels.proofs.channels.Channels.offer.Goals as goal

pub loop-key-preserved : goal.loop-key-preserved
loop-key-preserved c =
    let now = c.args.now in
    let channel = c.args.channel in
    let left = c.loop-key.key-iterator.rest.items in
    let next = c.next.new.self.rest.items in
    let first : left ≡ c.in-Some.key ∷ next = search rules in
    record {
      admitted = admitted-more c.loop-key.self c.offer_key.new.self channel now c.in-Some.key left next c.loop-key.offer.admitted c.offer_key.new.offer.admitted (keys_passed c.args.self.now channel c.args.keys now)
          first c.in_ok-offer_key.ensures.admits c.in_ok-offer_key.ensures.after c.loop-key.invariant.admitted;
      retry = retry-more c.loop-key.self c.offer_key.new.self channel now c.in-Some.key left next c.loop-key.offer.retry c.offer_key.new.offer.retry (retry_told c.args.self.now channel c.args.keys now)
          first c.in_ok-offer_key.ensures.retry c.in_ok-offer_key.ensures.after c.loop-key.invariant.retry;
      metered = metered-more c.loop-key.self c.offer_key.new.self (keys_metered channel c.args.keys now c.args.self.now) channel now c.in-Some.key left next
          first c.in_ok-offer_key.ensures.after c.loop-key.invariant.metered;
    }

pub returns-clause-retry : goal.returns-clause-retry
returns-clause-retry c =
    let left = c.loop-key.key-iterator.rest.items in
    let counted = c.loop-key.key-iterator.rest.ok.0 in
    let end = c.in-None.ensures.steps.0 in
    let none : left ≡ [] = nil_from_length left (omega (arith, counted, end)) in
    retry-all c.loop-key.self c.args.channel c.args.now left c.loop-key.offer.retry (retry_told c.args.self.now c.args.channel c.args.keys c.args.now) none c.loop-key.invariant.retry

pub returns-clause-after : goal.returns-clause-after
returns-clause-after c =
    let left = c.loop-key.key-iterator.rest.items in
    let counted = c.loop-key.key-iterator.rest.ok.0 in
    let end = c.in-None.ensures.steps.0 in
    let none : left ≡ [] = nil_from_length left (omega (arith, counted, end)) in
    sym (keys_metered-none c.loop-key.self c.args.channel c.args.now) ∙ (ap (λ l. keys_metered c.args.channel l c.args.now c.loop-key.self) (sym none) ∙ c.loop-key.invariant.metered)
