use Rattle.std.proofs.Common.{Some, ap, sym, ◌∙◌}
use Rattle.std.specs.BTreeMap.{is_at}
use Rattle.p2p_base.proofs.MapParts.{lookup_at, lookup_nowhere}
use Rattle.p2p_base.proofs.map.Map.get.Goals as goal

pub returns-in-Some : goal.returns-in-Some
returns-in-Some g c =
    let found = lookup_at (is_at (g.P.Ord.cmp c.args.key.now)) c.self.inside.keys c.self.inside.values.items c.in-Some.place c.index.result.now c.args.key.now
    c.self.invariant (sym c.in-Some.ensures) in
    rw (← c.self.view_is) (ap Some c.index.ensures ∙ sym found)

pub returns-in-None : goal.returns-in-None
returns-in-None g c =
    rw (← c.self.view_is)
    (sym (lookup_nowhere (is_at (g.P.Ord.cmp c.args.key.now)) c.self.inside.keys c.self.inside.values.items (sym c.in-None.ensures)))
