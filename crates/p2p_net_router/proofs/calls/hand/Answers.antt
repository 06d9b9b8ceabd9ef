use Rattle.std.proofs.Common.{◌≡◌, List, true, false, Some, ap, sym, ◌∙◌, rules}
use Rattle.p2p_base.specs.declared.key.Key.{Key}
use Rattle.p2p_wire.specs.declared.encoded.EncodedData.{EncodedData}
use Rattle.p2p_log_rules.specs.Frames.{frame_of}
use Rattle.p2p_flow.specs.declared.plain.Recipients.TheVariants as recipients
use Rattle.p2p_router.specs.Mailbox.{with_content}
use Rattle.p2p_router.specs.Messenger.{in_mailbox}
use Rattle.p2p_router.specs.declared.message.Message.TheVariants as message
use Rattle.p2p_net_router.specs.Frames.{refuses, frame_taken_in}
use Rattle.p2p_net_router.proofs.Sent.{encoded_same}
use Rattle.p2p_net_router.proofs.calls.hand.Goals as goal

pub returns-then-is_rejected-clause-frame : goal.returns-then-is_rejected-clause-frame
returns-then-is_rejected-clause-frame c =
    let off : refuses c.in_ok-told.told ≡ true = let t = c.if-is_rejected.true in search rules in
    sym (ap (λ b. frame_taken_in b (frame_of c.args.channel c.args.bytes.now)) (ap refuses (sym c.in_ok-told.ensures.told) ∙ off))

pub returns-then-is_rejected-clause-after : goal.returns-then-is_rejected-clause-after
returns-then-is_rejected-clause-after c =
    let d = c.args.messenger.now in
    c.in_ok-told.ensures.after
    ∙ (ap (λ (l : List Key). record d { binding = in_mailbox (λ q. with_content q (message.Content (recipients.Some l) c.in_ok-encoded.encoded c.args.priority)) d.binding }) c.in_ok-try_clone.ensures
    ∙ ap (λ (e : EncodedData). record d { binding = in_mailbox (λ q. with_content q (message.Content (recipients.Some c.args.to.now) e c.args.priority)) d.binding })
    (encoded_same c.in_ok-encoded.encoded c.args.channel c.in_ok-clone.field-0 c.args.bytes.now c.in_ok-encoded.ensures.channel c.in_ok-encoded.ensures.payload c.in_ok-clone.ensures.cases))

pub returns-clause-frame : goal.returns-clause-frame
returns-clause-frame c =
    let on : refuses c.in_ok-told.told ≡ false = let t = c.if-is_rejected.false in search rules in
    ap Some (c.in_ok-frame.ensures.cases ∙ (c.in_ok-encoded.ensures.payload ∙ ap (frame_of c.args.channel) c.in_ok-clone.ensures.cases))
    ∙ sym (ap (λ b. frame_taken_in b (frame_of c.args.channel c.args.bytes.now)) (ap refuses (sym c.in_ok-told.ensures.told) ∙ on))

pub returns-clause-after : goal.returns-clause-after
returns-clause-after c =
    let d = c.args.messenger.now in
    c.in_ok-told.ensures.after
    ∙ (ap (λ (l : List Key). record d { binding = in_mailbox (λ q. with_content q (message.Content (recipients.Some l) c.in_ok-encoded.encoded c.args.priority)) d.binding }) c.in_ok-try_clone.ensures
    ∙ ap (λ (e : EncodedData). record d { binding = in_mailbox (λ q. with_content q (message.Content (recipients.Some c.args.to.now) e c.args.priority)) d.binding })
    (encoded_same c.in_ok-encoded.encoded c.args.channel c.in_ok-clone.field-0 c.args.bytes.now c.in_ok-encoded.ensures.channel c.in_ok-encoded.ensures.payload c.in_ok-clone.ensures.cases))
