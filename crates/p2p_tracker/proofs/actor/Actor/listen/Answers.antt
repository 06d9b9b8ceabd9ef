use Rattle.p2p_tracker.specs.Putting.{listen_grant}
use Rattle.p2p_tracker_directory.specs.declared.metadata.Metadata.{Metadata}
use Rattle.p2p_tracker.specs.declared.stepped.Put.{Put}
use Rattle.p2p_tracker.specs.declared.stepped.Put.TheVariants as puts
use Rattle.p2p_tracker.proofs.Told.{listen-granted, item-put}
use Rattle.p2p_tracker.specs.Telling.{after_puts}
use Rattle.p2p_tracker_mailbox.specs.declared.answer.HandshakeItem.TheVariants as shake
use Rattle.p2p_tracker_directory.specs.Stands.{StandsFor}
use Rattle.p2p_tracker_directory.proofs.Exact.{both-parts}
use Rattle.p2p_tracker_mailbox.specs.Mailboxes.{runs_in}
use Rattle.std.proofs.Common.{◌≡◌, Bool, cond, List, [], ◌∷◌, Option, refl, sym, ap, ◌∙◌, subst}
use Rattle.std.specs.Prelude.{is_some}
use Rattle.p2p_tracker_calls.specs.Jitter.{jitter_of}
use Rattle.p2p_tracker.specs.Tracking.{Tracking}
use Rattle.p2p_tracker_calls.specs.Allows.{allows_listen}
use Rattle.p2p_tracker.specs.Following.{Follows}
use Rattle.p2p_tracker.proofs.Following.{follows-listen}
use Rattle.p2p_tracker.proofs.Standing.{listen-served}
use Rattle.p2p_tracker.proofs.actor.Actor.listen.Goals as goal

pub returns-clause-stands : goal.returns-clause-stands
returns-clause-stands g c = λ calls s.
    let jitter : c.jitter-jitter.result ≡ jitter_of c.args.self.now.cooldown c.args.seed = cc in
    listen-served c.self.inside.directory c.args.self.now.directory (ap (λ (t : Tracking g.row.C.Denot). t.directory) c.self.view_is) c.listen.new.self calls
    c.args.public_key c.args.source_ip c.args.now c.jitter-jitter.result (jitter_of c.args.self.now.cooldown c.args.seed) (is_some c.in_ok-reservation.reservation) jitter
    c.in_ok-reservation.ensures.stands c.in_ok-reservation.ensures.granted s

pub returns-clause-follows : goal.returns-clause-follows
returns-clause-follows g c = λ calls f.
    let kept = subst (λ (t : Tracking g.row.C.Denot). Follows g.C.Ord.cmp t.directory t.controls calls) (sym c.self.view_is) f in
    follows-listen c.self.inside.directory c.listen.new.self c.self.inside.controls.entries calls c.in_ok-reservation.ensures.rules kept
    c.args.public_key c.args.now (jitter_of c.args.self.now.cooldown c.args.seed) (allows_listen g.C.Ord.cmp c.args.self.now.directory.rules calls c.args.public_key c.args.source_ip c.args.now)
    (returns-clause-stands g c calls f.stands)

pub returns-clause-put : goal.returns-clause-put
returns-clause-put g c = λ calls f.
    let before = subst (λ (t : Tracking g.row.C.Denot). StandsFor g.C.Ord.cmp t.directory calls) (sym c.self.view_is) f.stands in
    let One : Bool → Option (Metadata g.row.C.Denot) → List (Put g.row.C.Denot) = λ b x. cond b (puts.Listen c.args.handshake x ∷ []) [] in
    subst (λ (t : Tracking g.row.C.Denot). c.in_ok-only_where.field-0 ≡ One (runs_in c.args.way.now c.args.handshake) (listen_grant g.C.Ord.cmp t.directory.rules calls c.args.now c.args.public_key c.args.source_ip)) c.self.view_is
    (c.in_ok-only_where.ensures ∙ both-parts One _ _ _ _ c.in_ok-runs.ensures.runs (c.told_of_listen-reserved.ensures ∙ listen-granted c.in_ok-reservation.reservation (allows_listen g.C.Ord.cmp c.self.inside.directory.rules calls c.args.public_key c.args.source_ip c.args.now)
    c.args.public_key (c.in_ok-reservation.ensures.granted calls before) c.in_ok-reservation.ensures.metadata))

pub returns-clause-desk : goal.returns-clause-desk
returns-clause-desk g c =
    let told : Option (Metadata g.row.C.Denot) → Put g.row.C.Denot = λ x. puts.Listen c.args.handshake x in
    let One : Bool → Option (Metadata g.row.C.Denot) → List (Put g.row.C.Denot) = λ b x. cond b (told x ∷ []) [] in
    c.in_ok-runs.ensures.after
    ∙ (item-put c.args.way.now c.args.handshake (shake.Listen c.in_ok-reservation.reservation) (told c.in_ok-reservation.reservation) refl
    ∙ ap (λ (ps : List (Put g.row.C.Denot)). after_puts ps c.args.way.now)
    (sym (c.in_ok-only_where.ensures ∙ both-parts One _ _ _ _ c.in_ok-runs.ensures.runs c.told_of_listen-reserved.ensures)))
