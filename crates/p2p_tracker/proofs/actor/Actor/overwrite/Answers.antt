use Rattle.std.proofs.Common.{◌≡◌, List, [], ◌∷◌, ◌++◌, cond, sym, ap, ◌∙◌, subst}
use Rattle.p2p_tracker_calls.specs.Overwrites.{overwritten_keys}
use Rattle.p2p_tracker_directory.specs.Stands.{Kept, StandsFor}
use Rattle.p2p_tracker_directory.specs.Told.{addresses_in}
use Rattle.p2p_tracker.specs.Following.{Follows}
use Rattle.p2p_tracker.specs.Putting.{overwrite_kills}
use Rattle.p2p_tracker.specs.Telling.{after_puts, has_any}
use Rattle.p2p_tracker.specs.declared.stepped.Put.{Put}
use Rattle.p2p_tracker.specs.declared.stepped.Put.TheVariants as puts
use Rattle.p2p_tracker.specs.Tracking.{Tracking}
use Rattle.p2p_tracker.proofs.Readdressing.{told-last}
use Rattle.p2p_tracker.proofs.Told.{after-told_last}
use Rattle.p2p_tracker.proofs.actor.Actor.overwrite.Goals as goal

pub returns-clause-stands : goal.returns-clause-stands
returns-clause-stands g c = λ calls s. c.in_ok-has_changed.ensures.stands calls (subst (λ (k : Kept g.row.C.Denot). StandsFor g.C.Ord.cmp k calls) (sym (ap (λ (t : Tracking g.row.C.Denot). t.directory) c.self.view_is)) s)

pub returns-clause-follows : goal.returns-clause-follows
returns-clause-follows g c = λ calls f.
    let kept = subst (λ (t : Tracking g.row.C.Denot). Follows g.C.Ord.cmp t.directory t.controls calls) (sym c.self.view_is) f in
    c.in_ok-has_changed.ensures.follows calls kept

pub returns-clause-put : goal.returns-clause-put
returns-clause-put g c = λ calls f.
    let follows = subst (λ (t : Tracking g.row.C.Denot). Follows g.C.Ord.cmp t.directory t.controls calls) (sym c.self.view_is) f in
    let keys = overwritten_keys g.C.Ord.cmp c.self.inside.directory.rules c.args.peers calls in
    let told : List (Put g.row.C.Denot) = puts.Listenable (addresses_in g.C.Ord.cmp c.readdress_all.new.directory c.args.now) c.args.way.now.heard ∷ [] in
    let kills = c.in_ok-has_changed.ensures.put calls follows ∙ ap (λ (x : List (Put g.row.C.Denot)). x ++ overwrite_kills g.C.Ord.cmp c.self.inside.directory.rules c.args.peers calls) c.new-put.ensures.items in
    subst (λ (t : Tracking g.row.C.Denot). c.new.result ≡ overwrite_kills g.C.Ord.cmp t.directory.rules c.args.peers calls ++ cond (has_any (overwritten_keys g.C.Ord.cmp t.directory.rules c.args.peers calls)) told []) c.self.view_is
    (c.new.ensures ∙ (told-last c.in_ok-has_changed.has_changed c.readdress_all.new.put.items c.tell_listener.new.put.items told c.in_ok-tell_listener.ensures.put
    ∙ (ap (λ b. c.readdress_all.new.put.items ++ cond b told []) (c.in_ok-has_changed.ensures.answer calls follows.stands)
    ∙ ap (λ (x : List (Put g.row.C.Denot)). x ++ cond (has_any keys) told []) kills)))

pub returns-clause-desk : goal.returns-clause-desk
returns-clause-desk g c =
    let heard = addresses_in g.C.Ord.cmp c.readdress_all.new.directory c.args.now in
    let none = c.in_ok-has_changed.ensures.desk c.args.way.now ∙ ap (λ (x : List (Put g.row.C.Denot)). after_puts x c.args.way.now) c.new-put.ensures.items in
    c.in_ok-tell_listener.ensures.desk
    ∙ (after-told_last c.in_ok-has_changed.has_changed c.readdress_all.new.put.items heard c.args.way.now.heard c.args.way.now none
    ∙ ap (λ (x : List (Put g.row.C.Denot)). after_puts x c.args.way.now) (sym (c.new.ensures ∙ c.in_ok-tell_listener.ensures.put)))
