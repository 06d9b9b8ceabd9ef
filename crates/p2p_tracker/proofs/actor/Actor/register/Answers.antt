use Rattle.p2p_tracker.specs.declared.stepped.Put.TheVariants as puts
use Rattle.p2p_tracker.specs.declared.stepped.Put.{Put}
use Rattle.p2p_tracker.specs.Telling.{after_puts, kills_put, told_of_sets}
use Rattle.p2p_tracker.specs.Putting.{kills_of}
use Rattle.std.proofs.Common.{◌≡◌, cond, List, Option, sym, ap, ◌∙◌, subst, ◌++◌, ◌∷◌, []}
use Rattle.std.specs.Prelude.{is_some, IfSome}
use Rattle.p2p_tracker_calls.specs.Kills.{is_killed, killed_keys}
use Rattle.p2p_tracker_calls.specs.Named.{EqualKeysAreOne}
use Rattle.p2p_tracker_calls.specs.Sets.{is_above, is_among, accepted_sets}
use Rattle.p2p_tracker_calls.specs.declared.call.Call.{Call}
use Rattle.p2p_tracker_directory.specs.Stands.{Kept, StandsFor}
use Rattle.p2p_tracker_directory.specs.Told.{addresses_in, update_in}
use Rattle.p2p_tracker.specs.Following.{Follows}
use Rattle.p2p_tracker.specs.Tracking.{Tracking}
use Rattle.p2p_tracker.proofs.Following.{follows-refused, follows-track}
use Rattle.p2p_tracker.proofs.Putting.{after_puts-kills}
use Rattle.p2p_tracker.proofs.Told.{unless, when, after-told, kills-kept}
use Rattle.p2p_tracker.proofs.actor.Actor.register.Goals as goal

pub returns-in_default-clause-stands : goal.returns-in_default-clause-stands
returns-in_default-clause-stands g c = λ calls s. c.in_ok-killed.ensures.stands calls (subst (λ (k : Kept g.row.C.Denot). StandsFor g.C.Ord.cmp k calls) (sym (ap (λ (t : Tracking g.row.C.Denot). t.directory) c.self.view_is)) s)

pub returns-in_default-clause-follows : goal.returns-in_default-clause-follows
returns-in_default-clause-follows g c = λ calls f.
    let kept = subst (λ (t : Tracking g.row.C.Denot). Follows g.C.Ord.cmp t.directory t.controls calls) (sym c.self.view_is) f in
    follows-refused c.self.inside.directory c.track.new.self c.self.inside.controls.entries calls c.in_ok-killed.ensures.rules kept c.args.index c.args.peers.primary c.args.peers.secondary
    (sym (c.in_ok-killed.ensures.accepted calls kept.stands) ∙ ap is_some c.in_default.is) (c.in_ok-killed.ensures.stands calls kept.stands)

pub returns-clause-stands : goal.returns-clause-stands
returns-clause-stands g c = λ calls s. c.in_ok-killed.ensures.stands calls (subst (λ (k : Kept g.row.C.Denot). StandsFor g.C.Ord.cmp k calls) (sym (ap (λ (t : Tracking g.row.C.Denot). t.directory) c.self.view_is)) s)

pub returns-clause-follows : goal.returns-clause-follows
returns-clause-follows g c = λ calls f.
    let kept = subst (λ (t : Tracking g.row.C.Denot). Follows g.C.Ord.cmp t.directory t.controls calls) (sym c.self.view_is) f in
    let Dead : List g.row.C.Denot → Type 0 = λ ks. (calls : List (Call g.row.C.Denot)) → StandsFor g.C.Ord.cmp c.self.inside.directory calls
    → (q : g.row.C.Denot) → is_among g.C.Ord.cmp ks q ≡ is_killed g.C.Ord.cmp c.self.inside.directory.rules c.args.index c.args.peers.primary c.args.peers.secondary calls q in
    let dead : Dead c.in-Some.killed = subst (λ (o : Option (List g.row.C.Denot)). IfSome o Dead) c.in-Some.is c.in_ok-killed.ensures.killed in
    follows-track c.self.inside.directory c.track.new.self c.self.inside.controls.entries calls c.in_ok-killed.ensures.rules kept c.kill_all.new.controls.entries
    c.args.index c.args.peers.primary c.args.peers.secondary c.as_slice.result.now
    (sym (c.in_ok-killed.ensures.accepted calls kept.stands) ∙ ap is_some c.in-Some.is)
    (λ q. ap (λ ks. is_among g.C.Ord.cmp ks q) c.as_slice.ensures.keys ∙ dead calls kept.stands q)
    (c.in_ok-killed.ensures.stands calls kept.stands) c.in_ok-kill_all.ensures.each

pub returns-in_default-clause-put : goal.returns-in_default-clause-put
returns-in_default-clause-put g c = λ calls f one.
    let kept = subst (λ (t : Tracking g.row.C.Denot). StandsFor g.C.Ord.cmp t.directory calls) (sym c.self.view_is) f.stands in
    c.new.ensures ∙ (c.new-put.ensures.items
    ∙ unless (is_above c.args.index (accepted_sets g.C.Ord.cmp calls)) _ [] (sym (c.in_ok-killed.ensures.accepted calls kept) ∙ ap is_some c.in_default.is))

pub returns-in_default-clause-desk : goal.returns-in_default-clause-desk
returns-in_default-clause-desk g c = ap (λ (x : List (Put g.row.C.Denot)). after_puts x c.args.way.now) (sym (c.new.ensures ∙ c.new-put.ensures.items))

pub returns-clause-put : goal.returns-clause-put
returns-clause-put g c = λ calls f one.
    let follows = subst (λ (t : Tracking g.row.C.Denot). Follows g.C.Ord.cmp t.directory t.controls calls) (sym c.self.view_is) f in
    let Known : List g.row.C.Denot → Type 0 = λ ks. (calls : List (Call g.row.C.Denot)) → EqualKeysAreOne g.C.Ord.cmp → StandsFor g.C.Ord.cmp c.self.inside.directory calls
    → ks ≡ killed_keys g.C.Ord.cmp c.self.inside.directory.rules c.args.index c.args.peers.primary c.args.peers.secondary calls in
    let known : Known c.in-Some.killed = subst (λ (o : Option (List g.row.C.Denot)). IfSome o Known) c.in-Some.is c.in_ok-killed.ensures.exactly in
    let keys = c.as_slice.ensures.keys ∙ known calls one follows.stands in
    let kills : c.kill_all.new.put.items ≡ kills_of g.C.Ord.cmp c.self.inside.directory.rules calls (killed_keys g.C.Ord.cmp c.self.inside.directory.rules c.args.index c.args.peers.primary c.args.peers.secondary calls) =
    c.in_ok-kill_all.ensures.put ∙ (ap (λ (x : List (Put g.row.C.Denot)). x ++ kills_put g.C.Ord.cmp c.self.inside.controls.entries c.as_slice.result.now) c.new-put.ensures.items
    ∙ (kills-kept g.met.C.Ord.total c.self.inside.directory.rules calls c.as_slice.result.now c.self.inside.controls.entries c.as_slice.ensures.sorted follows.exactly
    ∙ ap (kills_of g.C.Ord.cmp c.self.inside.directory.rules calls) keys)) in
    let heard = addresses_in g.C.Ord.cmp c.track.new.self c.args.now in
    let told : List (Put g.row.C.Denot) = told_of_sets c.self.inside.updates.items (update_in g.C.Ord.cmp c.track.new.self) in
    let With : List (Put g.row.C.Denot) → List (Put g.row.C.Denot) = λ x. (x ++ puts.Listenable heard c.args.way.now.heard ∷ []) ++ told in
    subst (λ (t : Tracking g.row.C.Denot). c.new-2.result ≡ cond (is_above c.args.index (accepted_sets g.C.Ord.cmp calls))
    ((kills_of g.C.Ord.cmp t.directory.rules calls (killed_keys g.C.Ord.cmp t.directory.rules c.args.index c.args.peers.primary c.args.peers.secondary calls) ++ puts.Listenable heard c.args.way.now.heard ∷ [])
    ++ told_of_sets t.updates (update_in g.C.Ord.cmp c.track.new.self)) []) c.self.view_is
    (c.new-2.ensures ∙ (c.in_ok-tell_of_sets.ensures.put ∙ (ap With kills
    ∙ when (is_above c.args.index (accepted_sets g.C.Ord.cmp calls)) _ [] (sym (c.in_ok-killed.ensures.accepted calls follows.stands) ∙ ap is_some c.in-Some.is))))

pub returns-clause-desk : goal.returns-clause-desk
returns-clause-desk g c =
    let heard = addresses_in g.C.Ord.cmp c.track.new.self c.args.now in
    let told : List (Put g.row.C.Denot) = told_of_sets c.self.inside.updates.items (update_in g.C.Ord.cmp c.track.new.self) in
    let kills = c.in_ok-kill_all.ensures.put ∙ ap (λ (x : List (Put g.row.C.Denot)). x ++ kills_put g.C.Ord.cmp c.self.inside.controls.entries c.as_slice.result.now) c.new-put.ensures.items in
    let none = ap (λ (x : List (Put g.row.C.Denot)). after_puts x c.args.way.now) kills ∙ after_puts-kills g.C.Ord.cmp c.as_slice.result.now c.self.inside.controls.entries c.args.way.now in
    c.in_ok-tell_of_sets.ensures.desk
    ∙ (sym (after-told c.kill_all.new.put.items told heard c.args.way.now.heard c.args.way.now none)
    ∙ ap (λ (x : List (Put g.row.C.Denot)). after_puts x c.args.way.now) (sym (c.new-2.ensures ∙ c.in_ok-tell_of_sets.ensures.put)))
