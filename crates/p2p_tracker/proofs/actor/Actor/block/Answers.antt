use Rattle.p2p_tracker.specs.declared.stepped.Put.{Put}
use Rattle.p2p_tracker.specs.Telling.{after_puts, kill_put, sets_put}
use Rattle.p2p_tracker.specs.declared.stepped.Put.TheVariants as puts
use Rattle.p2p_tracker_calls.specs.Blocks.{is_blockable}
use Rattle.p2p_tracker_directory.specs.Told.{addresses_in, blocked_in}
use Rattle.p2p_tracker.proofs.Told.{block-told, after-blocked}
use Rattle.std.specs.BTreeMap.{is_at}
use Rattle.std.specs.Map.{lookup}
use Rattle.std.proofs.Common.{sym, ap, subst, cond, ◌≡◌, [], ◌∷◌, ◌++◌, List, ◌∙◌}
use Rattle.p2p_tracker_directory.specs.Stands.{Kept, StandsFor}
use Rattle.p2p_tracker.specs.Following.{Follows}
use Rattle.p2p_tracker.specs.Tracking.{Tracking}
use Rattle.p2p_tracker.proofs.Following.{follows-block}
use Rattle.p2p_tracker.proofs.actor.Actor.block.Goals as goal

pub returns-clause-stands : goal.returns-clause-stands
returns-clause-stands g c = λ calls s. c.in_ok-is_new.ensures.stands calls (subst (λ (k : Kept g.row.C.Denot). StandsFor g.C.Ord.cmp k calls) (sym (ap (λ (t : Tracking g.row.C.Denot). t.directory) c.self.view_is)) s)

pub returns-clause-follows : goal.returns-clause-follows
returns-clause-follows g c = λ calls f.
    let kept = subst (λ (t : Tracking g.row.C.Denot). Follows g.C.Ord.cmp t.directory t.controls calls) (sym c.self.view_is) f in
    follows-block c.self.inside.directory c.block.new.self c.self.inside.controls.entries calls c.in_ok-is_new.ensures.rules kept c.kill.new.controls.entries
    c.args.public_key c.args.now (c.in_ok-is_new.ensures.stands calls kept.stands) c.kill.ensures.each

pub returns-clause-put : goal.returns-clause-put
returns-clause-put g c = λ calls f.
    let before = subst (λ (t : Tracking g.row.C.Denot). StandsFor g.C.Ord.cmp t.directory calls) (sym c.self.view_is) f.stands in
    let lasts = λ (t : Tracking g.row.C.Denot). is_blockable g.C.Ord.cmp t.directory.rules calls c.args.public_key c.args.now in
    let told = λ (t : Tracking g.row.C.Denot). let list : List (Put g.row.C.Denot) = sets_put c.args.way.now.desk.sets t.sets (blocked_in g.C.Ord.cmp c.block.new.self c.args.now)
    ++ puts.Listenable (addresses_in g.C.Ord.cmp c.block.new.self c.args.now) c.args.way.now.heard ∷ [] in list in
    let Before : Tracking g.row.C.Denot = record { directory = c.self.inside.directory; cooldown = c.self.inside.cooldown; updates = c.self.inside.updates.items; sets = c.self.inside.sets.items; controls = c.self.inside.controls.entries; has_failed = c.self.inside.has_failed } in
    let first = block-told c.in_ok-is_new.is_new c.new-put.result.items (sets_put c.args.way.now.desk.sets c.self.inside.sets.items (blocked_in g.C.Ord.cmp c.block.new.self c.args.now))
    (puts.Listenable (addresses_in g.C.Ord.cmp c.block.new.self c.args.now) c.args.way.now.heard ∷ []) c.new-put.ensures.items in
    subst (λ (t : Tracking g.row.C.Denot). c.new.result ≡ cond (lasts t) (told t) [] ++ kill_put c.args.public_key (lookup (is_at (g.C.Ord.cmp c.args.public_key)) t.controls)) c.self.view_is
    (c.new.ensures ∙ (c.in_ok-kill.ensures.put ∙ ap (λ (x : List (Put g.row.C.Denot)). x ++ kill_put c.args.public_key (lookup (is_at (g.C.Ord.cmp c.args.public_key)) c.self.inside.controls.entries))
    (c.in_ok-tell_of_block.ensures.put ∙ (first ∙ ap (λ b. cond b (told Before) []) (c.in_ok-is_new.ensures.answer calls before)))))

pub returns-clause-desk : goal.returns-clause-desk
returns-clause-desk g c =
    let heard = addresses_in g.C.Ord.cmp c.block.new.self c.args.now in
    let sets : List (Put g.row.C.Denot) = sets_put c.args.way.now.desk.sets c.self.inside.sets.items (blocked_in g.C.Ord.cmp c.block.new.self c.args.now) in
    let kept = lookup (is_at (g.C.Ord.cmp c.args.public_key)) c.self.inside.controls.entries in
    let list = c.new.ensures ∙ (c.in_ok-kill.ensures.put ∙ ap (λ (x : List (Put g.row.C.Denot)). x ++ kill_put c.args.public_key kept)
    (c.in_ok-tell_of_block.ensures.put ∙ block-told c.in_ok-is_new.is_new c.new-put.result.items sets (puts.Listenable heard c.args.way.now.heard ∷ []) c.new-put.ensures.items)) in
    c.in_ok-tell_of_block.ensures.desk
    ∙ (after-blocked c.in_ok-is_new.is_new sets heard c.args.way.now.heard c.args.public_key kept c.args.way.now
    ∙ sym (ap (λ (x : List (Put g.row.C.Denot)). after_puts x c.args.way.now) list))
