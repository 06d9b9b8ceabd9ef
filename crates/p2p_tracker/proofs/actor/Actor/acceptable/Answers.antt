use Rattle.p2p_tracker.specs.declared.stepped.Put.TheVariants as puts
use Rattle.p2p_tracker.specs.declared.stepped.Put.{Put}
use Rattle.p2p_tracker_calls.specs.Allows.{is_acceptable}
use Rattle.p2p_tracker_directory.proofs.Exact.{both-parts}
use Rattle.p2p_tracker_mailbox.specs.Mailboxes.{runs_in}
use Rattle.std.proofs.Common.{◌≡◌, Bool, cond, List, [], ◌∷◌, refl, ap, ◌∙◌, sym, subst}
use Rattle.p2p_tracker_directory.specs.Stands.{StandsFor}
use Rattle.p2p_tracker.proofs.Told.{item-put}
use Rattle.p2p_tracker.specs.Telling.{after_puts}
use Rattle.p2p_tracker_mailbox.specs.declared.answer.HandshakeItem.TheVariants as shake
use Rattle.p2p_tracker.specs.Tracking.{Tracking}
use Rattle.p2p_tracker.proofs.actor.Actor.acceptable.Goals as goal

pub returns-clause-put : goal.returns-clause-put
returns-clause-put g c = λ calls f.
    let before = subst (λ (t : Tracking g.row.C.Denot). StandsFor g.C.Ord.cmp t.directory calls) (sym c.self.view_is) f.stands in
    let One : Bool → Bool → List (Put g.row.C.Denot) = λ r b. cond r (puts.Acceptable c.args.handshake b ∷ []) [] in
    subst (λ (t : Tracking g.row.C.Denot). c.in_ok-only_where.field-0 ≡ One (runs_in c.args.way.now c.args.handshake) (is_acceptable g.C.Ord.cmp t.directory.rules calls c.args.public_key c.args.source_ip c.args.now)) c.self.view_is
    (c.in_ok-only_where.ensures ∙ both-parts One _ _ _ _ c.in_ok-runs.ensures.runs (c.acceptable-acceptable.ensures calls before))

pub returns-clause-desk : goal.returns-clause-desk
returns-clause-desk g c =
    let told : Put g.row.C.Denot = puts.Acceptable c.args.handshake c.acceptable-acceptable.result in
    c.in_ok-runs.ensures.after
    ∙ (item-put c.args.way.now c.args.handshake (shake.Acceptable c.acceptable-acceptable.result) told refl
    ∙ ap (λ (ps : List (Put g.row.C.Denot)). after_puts ps c.args.way.now) (sym (c.in_ok-only_where.ensures ∙ ap (λ (r : Bool). cond r (told ∷ []) []) c.in_ok-runs.ensures.runs)))
