use Rattle.p2p_net_router.proofs.Building.{NamesBuild-put}
use Rattle.p2p_net_router.proofs.names.note.Goals as goal

pub returns-clause-names : goal.returns-clause-names
returns-clause-names c =
    λ n items h.
    NamesBuild-put n c.args.names.now c.push-2.new.self items c.args.turn.entry c.args.row.now c.push.new.self c.len-place.result c.args.queue c.args.item c.tag-tag.result
    c.len-place.ensures c.tag-tag.ensures c.in_ok-push.ensures.ok h c.in_ok-push-2.ensures
