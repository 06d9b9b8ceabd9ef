use Rattle.std.proofs.Common.{sym, ◌∙◌}
use Rattle.p2p_net_channels.specs.Channels.{capacity_at}
use Rattle.p2p_net_channels.proofs.Readers.{registered_places}
use Rattle.p2p_net_calls.specs.Offering.{SendsOffered}
use Rattle.p2p_net_node.specs.declared.node.Node.{Node}
use Rattle.p2p_net_calls.proofs.Following.{follows_on}
use Rattle.p2p_net_calls.proofs.offers.send.Goals as goal

pub returns-clause-does : goal.returns-clause-does
returns-clause-does c =
    let x : Node = c.args.node.now in
    follows_on (capacity_at x.channels c.args.channel)
    (sym (registered_places x.channels c.args.channel) ∙ (sym c.is_registered.ensures ∙ c.if-not-is_registered.false))
    c.args.channel c.args.at c.args.to.now
    (λ o mid next row. SendsOffered o.refused c.args.turn.entry c.args.channel c.args.priority c.args.bytes.now o.admitted mid next row)
    x c.send_offered.new.node c.in_ok-with_list.field-0
    (record {
      mid = c.offer.new.node;
      offered = c.in_ok-offered.offered;
      row = c.in_ok-row.row;
      offers = c.in_ok-offered.ensures.does;
      comes = c.in_ok-row.ensures.does;
      is = c.in_ok-with_list.ensures;
    })
