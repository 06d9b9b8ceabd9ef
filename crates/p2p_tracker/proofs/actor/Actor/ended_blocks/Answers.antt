use Rattle.std.proofs.Common.{List, Option, ◌∷◌, [], ◌++◌, sym, ap, ◌∙◌}
use Rattle.p2p_tracker_directory.specs.Told.{addresses_in, blocked_in}
use Rattle.p2p_tracker_mailbox.specs.declared.mailbox.Mailbox.{Mailbox}
use Rattle.p2p_tracker.specs.Telling.{after_puts, sets_put}
use Rattle.p2p_tracker.specs.Tracking.{Tracking}
use Rattle.p2p_tracker.specs.declared.stepped.Put.{Put}
use Rattle.p2p_tracker.specs.declared.stepped.Put.TheVariants as puts
use Rattle.p2p_tracker.proofs.actor.Actor.ended_blocks.Goals as goal

pub returns-clause-put : goal.returns-clause-put
returns-clause-put g c =
    let heard = addresses_in g.C.Ord.cmp c.args.self.now.directory c.args.now in
    let First : List (Put g.row.C.Denot) = puts.Listenable heard c.args.way.now.heard ∷ [] in
    let listened = c.in_ok-tell_listener.ensures.put ∙ ap (λ (x : List (Put g.row.C.Denot)). x ++ First) c.new-put.ensures.items in
    let With : List (Option (List g.row.C.Denot)) → List (Put g.row.C.Denot) = λ waiting. First ++ sets_put waiting c.as_slice.result.now c.in_ok-blocked.blocked in
    let All : Tracking g.row.C.Denot → List (Put g.row.C.Denot) = λ t. First ++ sets_put c.args.way.now.desk.sets t.sets (blocked_in g.C.Ord.cmp t.directory c.args.now) in
    c.new.ensures ∙ (c.in_ok-tell_blocked_all.ensures.put
    ∙ (ap (λ (x : List (Put g.row.C.Denot)). x ++ sets_put c.tell_listener.new.way.desk.sets c.as_slice.result.now c.in_ok-blocked.blocked) listened
    ∙ (ap With (ap (λ (m : Mailbox g.row.C.Denot). m.desk.sets) c.in_ok-tell_listener.ensures.desk)
    ∙ (ap (λ xs. First ++ sets_put c.args.way.now.desk.sets xs c.in_ok-blocked.blocked) c.as_slice.ensures.value
    ∙ (ap (λ (bs : List g.row.C.Denot). First ++ sets_put c.args.way.now.desk.sets c.self.inside.sets.items bs) c.in_ok-blocked.ensures.value
    ∙ ap All c.self.view_is)))))

pub returns-clause-desk : goal.returns-clause-desk
returns-clause-desk g c =
    let heard = addresses_in g.C.Ord.cmp c.args.self.now.directory c.args.now in
    let First : List (Put g.row.C.Denot) = puts.Listenable heard c.args.way.now.heard ∷ [] in
    let listened = c.in_ok-tell_listener.ensures.put ∙ ap (λ (x : List (Put g.row.C.Denot)). x ++ First) c.new-put.ensures.items in
    let list = c.new.ensures ∙ (c.in_ok-tell_blocked_all.ensures.put
    ∙ ap (λ (x : List (Put g.row.C.Denot)). x ++ sets_put c.tell_listener.new.way.desk.sets c.as_slice.result.now c.in_ok-blocked.blocked) listened) in
    c.in_ok-tell_blocked_all.ensures.desk
    ∙ (ap (λ (m : Mailbox g.row.C.Denot). after_puts (sets_put c.tell_listener.new.way.desk.sets c.as_slice.result.now c.in_ok-blocked.blocked) m) c.in_ok-tell_listener.ensures.desk
    ∙ sym (ap (λ (x : List (Put g.row.C.Denot)). after_puts x c.args.way.now) list))
