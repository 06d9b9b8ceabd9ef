use Rattle.p2p_tracker.specs.declared.stepped.Put.TheVariants as puts
use Rattle.p2p_tracker.specs.declared.stepped.Put.{Put}
use Rattle.p2p_tracker_calls.specs.Lives.{accepts}
use Rattle.std.proofs.Common.{◌≡◌, true, false, refl, sym, ap, ◌∙◌, subst, cond, List, [], ◌∷◌, Some}
use Rattle.std.specs.Map.{lookup}
use Rattle.std.specs.BTreeMap.{is_at}
use Rattle.p2p_tracker_directory.specs.Recorded.{is_reserved_in}
use Rattle.p2p_tracker_directory.specs.Stands.{Kept, StandsFor}
use Rattle.p2p_tracker.specs.Following.{Follows}
use Rattle.p2p_tracker.specs.Serving.{IsEligible}
use Rattle.p2p_tracker.specs.Tracking.{Tracking}
use Rattle.p2p_tracker.proofs.Following.{follows-connect, reserved-eligible}
use Rattle.p2p_tracker.proofs.actor.Actor.connect.Goals as goal

pub returns-clause-stands : goal.returns-clause-stands
returns-clause-stands g c = λ calls s.
    c.accept.ensures.stands calls c.args.conn (subst (λ (k : Kept g.row.C.Denot). StandsFor g.C.Ord.cmp k calls) (sym (ap (λ (t : Tracking g.row.C.Denot). t.directory) c.self.view_is)) s)

pub accept-requires : goal.accept-requires
accept-requires g c =
    subst (λ (t : Tracking g.row.C.Denot). IsEligible g.C.Ord.cmp t.directory c.args.public_key c.args.now → is_reserved_in (lookup (is_at (g.C.Ord.cmp c.args.public_key)) t.directory.records) ≡ true) (sym c.self.view_is) c.requires

pub returns-then-accept-clause-stands : goal.returns-then-accept-clause-stands
returns-then-accept-clause-stands g c = λ calls s. c.accept.ensures.stands calls c.args.conn (subst (λ (k : Kept g.row.C.Denot). StandsFor g.C.Ord.cmp k calls) (sym (ap (λ (t : Tracking g.row.C.Denot). t.directory) c.self.view_is)) s)

pub returns-then-accept-clause-follows : goal.returns-then-accept-clause-follows
returns-then-accept-clause-follows g c = λ calls f.
    let kept = subst (λ (t : Tracking g.row.C.Denot). Follows g.C.Ord.cmp t.directory t.controls calls) (sym c.self.view_is) f in
    let reserved = subst (λ (t : Tracking g.row.C.Denot). IsEligible g.C.Ord.cmp t.directory c.args.public_key c.args.now → is_reserved_in (lookup (is_at (g.C.Ord.cmp c.args.public_key)) t.directory.records) ≡ true) (sym c.self.view_is) c.requires in
    follows-connect g.met.C.Ord.total c.self.inside.directory c.accept.new.directory c.self.inside.controls.entries c.keep.new.controls.entries calls c.accept.ensures.rules kept
    c.args.public_key c.args.now (reserved-eligible g.met.C.Ord.total c.self.inside.directory calls c.args.public_key c.args.now kept.stands reserved) c.args.conn true
    (sym c.if-accept.true ∙ c.accept.ensures.answer calls kept.stands) (c.accept.ensures.stands calls c.args.conn kept.stands)
    c.in_ok-keep.ensures

pub returns-clause-follows : goal.returns-clause-follows
returns-clause-follows g c = λ calls f.
    let kept = subst (λ (t : Tracking g.row.C.Denot). Follows g.C.Ord.cmp t.directory t.controls calls) (sym c.self.view_is) f in
    let reserved = subst (λ (t : Tracking g.row.C.Denot). IsEligible g.C.Ord.cmp t.directory c.args.public_key c.args.now → is_reserved_in (lookup (is_at (g.C.Ord.cmp c.args.public_key)) t.directory.records) ≡ true) (sym c.self.view_is) c.requires in
    follows-connect g.met.C.Ord.total c.self.inside.directory c.accept.new.directory c.self.inside.controls.entries c.self.inside.controls.entries calls c.accept.ensures.rules kept
    c.args.public_key c.args.now (reserved-eligible g.met.C.Ord.total c.self.inside.directory calls c.args.public_key c.args.now kept.stands reserved) c.args.conn false
    (sym c.if-accept.false ∙ c.accept.ensures.answer calls kept.stands) (c.accept.ensures.stands calls c.args.conn kept.stands) (λ q. refl)

pub returns-then-accept-clause-put : goal.returns-then-accept-clause-put
returns-then-accept-clause-put g c = λ calls f.
    let before = subst (λ (t : Tracking g.row.C.Denot). StandsFor g.C.Ord.cmp t.directory calls) (sym c.self.view_is) f.stands in
    let none : List (Put g.row.C.Denot) = [] in
    let killed : List (Put g.row.C.Denot) = puts.Kill c.args.public_key c.args.conn ∷ [] in
    subst (λ (t : Tracking g.row.C.Denot). c.empty.result ≡ cond (accepts g.C.Ord.cmp t.directory.rules calls c.args.public_key (Some c.args.now)) none killed) c.self.view_is
    (c.empty.ensures ∙ ap (λ b. cond b none killed) (sym c.if-accept.true ∙ c.accept.ensures.answer calls before))

pub returns-clause-put : goal.returns-clause-put
returns-clause-put g c = λ calls f.
    let before = subst (λ (t : Tracking g.row.C.Denot). StandsFor g.C.Ord.cmp t.directory calls) (sym c.self.view_is) f.stands in
    let none : List (Put g.row.C.Denot) = [] in
    let killed : List (Put g.row.C.Denot) = puts.Kill c.args.public_key c.args.conn ∷ [] in
    subst (λ (t : Tracking g.row.C.Denot). c.in_ok-only.field-0 ≡ cond (accepts g.C.Ord.cmp t.directory.rules calls c.args.public_key (Some c.args.now)) none killed) c.self.view_is
    (c.in_ok-only.ensures ∙ ap (λ b. cond b none killed) (sym c.if-accept.false ∙ c.accept.ensures.answer calls before))
