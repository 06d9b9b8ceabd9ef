use Rattle.std.proofs.Common.{List, Option, ◌∷◌, [], ◌++◌, ap, ◌∙◌}
use Rattle.p2p_address.specs.declared.ip.IpAddr.{IpAddr}
use Rattle.p2p_tracker_directory.specs.Told.{addresses_in, blocked_in}
use Rattle.p2p_tracker_mailbox.specs.declared.mailbox.Mailbox.{Mailbox}
use Rattle.p2p_tracker.specs.Telling.{sets_put}
use Rattle.p2p_tracker.specs.Tracking.{Tracking}
use Rattle.p2p_tracker.specs.declared.stepped.Put.{Put}
use Rattle.p2p_tracker.specs.declared.stepped.Put.TheVariants as puts
use Rattle.p2p_tracker.proofs.Told.{heard-after_sets, when}
use Rattle.p2p_tracker.proofs.actor.Actor.tell_of_block.Goals as goal

pub returns-clause-put : goal.returns-clause-put
returns-clause-put g c =
    let heard = addresses_in g.C.Ord.cmp c.args.self.now.directory c.args.now in
    let same = ap (λ (m : Mailbox g.row.C.Denot). m.heard) c.in_ok-tell_blocked_all.ensures.desk ∙ heard-after_sets c.as_slice.result.now c.args.way.now.desk.sets c.in_ok-blocked.blocked c.args.way.now in
    let All : Tracking g.row.C.Denot → List (Put g.row.C.Denot) = λ t. (c.args.put.now.items ++ sets_put c.args.way.now.desk.sets t.sets (blocked_in g.C.Ord.cmp t.directory c.args.now)) ++ puts.Listenable heard c.args.way.now.heard ∷ [] in
    c.in_ok-tell_listener.ensures.put
    ∙ (ap (λ (h : Option (List IpAddr)). c.tell_blocked_all.new.put.items ++ puts.Listenable heard h ∷ []) same
    ∙ (ap (λ (x : List (Put g.row.C.Denot)). x ++ puts.Listenable heard c.args.way.now.heard ∷ [])
    (c.in_ok-tell_blocked_all.ensures.put
    ∙ (ap (λ xs. c.args.put.now.items ++ sets_put c.args.way.now.desk.sets xs c.in_ok-blocked.blocked) c.as_slice.ensures.value
    ∙ ap (λ (bs : List g.row.C.Denot). c.args.put.now.items ++ sets_put c.args.way.now.desk.sets c.self.inside.sets.items bs) c.in_ok-blocked.ensures.value))
    ∙ (ap All c.self.view_is ∙ when c.args.is_new (All c.args.self.now) c.args.put.now.items c.if-not-is_new.false)))
