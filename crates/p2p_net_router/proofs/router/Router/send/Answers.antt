use Rattle.std.proofs.Common.{◌≡◌, [], ◌∷◌, true, false, ap, sym, ◌∙◌, rules}
use Rattle.p2p_log_rules.specs.Frames.{frame_of}
use Rattle.p2p_log_rules.specs.Effect.{only}
use Rattle.p2p_flow.specs.declared.plain.Recipients.TheVariants as to
use Rattle.p2p_router.specs.Messenger.{is_bound, content_answered}
use Rattle.p2p_net_router.specs.Frames.{refuses}
use Rattle.p2p_net_router.specs.Telling.{accepted_reply, refused_reply}
use Rattle.p2p_net_router.proofs.Sent.{row_lost, row_refused, row_accepted, sent_item, lost_stands, refused_stands, accepted_stands, was_refused, was_taken_in}
use Rattle.p2p_net_router.proofs.router.Router.send.Goals as goal

pub returns-then-not-bound-clause-row : goal.returns-then-not-bound-clause-row
returns-then-not-bound-clause-row c =
    λ configs log items s.
    let r = c.args.self.now in
    let accepted = accepted_reply c.args.telling r.number c.args.channel c.args.to in
    let refused = refused_reply c.args.telling r.number c.args.channel c.args.to in
    let off : is_bound r.messenger.binding ≡ false = let t = c.if-not-bound.true in search rules in
    row_lost configs log r items accepted refused c.args.turn.entry c.args.channel c.args.priority (frame_of c.args.channel c.args.bytes.now) c.args.to c.in_ok-lost.field-0 s off c.in_ok-lost.ensures

pub returns-then-not-bound-clause-stands : goal.returns-then-not-bound-clause-stands
returns-then-not-bound-clause-stands c =
    λ configs log items s at.
    let r = c.args.self.now in
    lost_stands configs log c.args.turn.entry r items (accepted_reply c.args.telling r.number c.args.channel c.args.to) c.in_ok-lost.field-0 c.args.to s c.in_ok-lost.ensures

pub returns-in-None-clause-row : goal.returns-in-None-clause-row
returns-in-None-clause-row c =
    λ configs log items s.
    let r = c.args.self.now in
    let accepted = accepted_reply c.args.telling r.number c.args.channel c.args.to in
    let refused = refused_reply c.args.telling r.number c.args.channel c.args.to in
    let up : is_bound r.messenger.binding ≡ true = let t = c.if-not-bound.false in search rules in
    row_refused configs log r items accepted refused c.args.turn.entry c.args.channel c.args.priority (frame_of c.args.channel c.args.bytes.now) c.args.to c.only.result s up
    (was_refused (refuses (content_answered r.messenger.binding)) (frame_of c.args.channel c.args.bytes.now) (sym c.in-None.is ∙ c.in_ok-hand.ensures.frame))
    (c.only.ensures ∙ ap only c.refused-reply.ensures)

pub returns-in-None-clause-stands : goal.returns-in-None-clause-stands
returns-in-None-clause-stands c =
    λ configs log items s at.
    let r = c.args.self.now in
    let refused = refused_reply c.args.telling r.number c.args.channel c.args.to in
    let up : is_bound r.messenger.binding ≡ true = let t = c.if-not-bound.false in search rules in
    refused_stands configs log c.args.turn.entry r items c.hand.new.messenger refused c.only.result c.args.bytes.now c.args.channel c.args.priority (to.Some c.args.to) s
    c.in_ok-hand.ensures.after up
    (was_refused (refuses (content_answered r.messenger.binding)) (frame_of c.args.channel c.args.bytes.now) (sym c.in-None.is ∙ c.in_ok-hand.ensures.frame))
    (c.only.ensures ∙ ap only c.refused-reply.ensures)

pub returns-in_ok-note_sent-in-Some-clause-row : goal.returns-in_ok-note_sent-in-Some-clause-row
returns-in_ok-note_sent-in-Some-clause-row c =
    λ configs log items s.
    let r = c.args.self.now in
    let accepted = accepted_reply c.args.telling r.number c.args.channel c.args.to in
    let refused = refused_reply c.args.telling r.number c.args.channel c.args.to in
    let up : is_bound r.messenger.binding ≡ true = let t = c.if-not-bound.false in search rules in
    let taken = was_taken_in (refuses (content_answered r.messenger.binding)) (frame_of c.args.channel c.args.bytes.now) c.in-Some.frame (sym c.in-Some.is ∙ c.in_ok-hand.ensures.frame) in
    row_accepted configs log r items accepted refused c.args.turn.entry c.args.channel c.args.priority (frame_of c.args.channel c.args.bytes.now) c.args.to c.in_ok-note_sent-in-Some.field-0 s up taken.0
    (c.in_ok-note_sent-in-Some.ensures.row ∙ ap (λ f. record (only accepted) { puts = sent_item r.number c.args.turn.entry c.args.channel c.args.priority f c.args.to ∷ [] }) taken.1)

pub returns-in_ok-note_sent-in-Some-clause-stands : goal.returns-in_ok-note_sent-in-Some-clause-stands
returns-in_ok-note_sent-in-Some-clause-stands c =
    λ configs log items s at.
    let r = c.args.self.now in
    let accepted = accepted_reply c.args.telling r.number c.args.channel c.args.to in
    let up : is_bound r.messenger.binding ≡ true = let t = c.if-not-bound.false in search rules in
    let taken = was_taken_in (refuses (content_answered r.messenger.binding)) (frame_of c.args.channel c.args.bytes.now) c.in-Some.frame (sym c.in-Some.is ∙ c.in_ok-hand.ensures.frame) in
    accepted_stands configs log c.args.turn.entry r items c.hand.new.messenger c.note_sent.new.names accepted c.in_ok-note_sent-in-Some.field-0 c.args.bytes.now c.args.channel c.args.priority c.args.to s
    c.in_ok-hand.ensures.after up taken.0
    (c.in_ok-note_sent-in-Some.ensures.row ∙ ap (λ f. record (only accepted) { puts = sent_item r.number c.args.turn.entry c.args.channel c.args.priority f c.args.to ∷ [] }) taken.1)
    c.in_ok-note_sent-in-Some.ensures.names
