use Rattle.std.proofs.Common.{◌≡◌, ℕ, ◌*◌, List, ◌++◌, length, replicate, ap, ◌∙◌, arith}
use Rattle.p2p_base.specs.Queue.{Queue, empty_queue}
use Rattle.p2p_threads.specs.Sending.{Made, joined}
use Rattle.p2p_threads.specs.declared.numbered.Numbered.{Numbered}
use Rattle.p2p_threads.specs.TakenOf.{taken_of, HaveAll}
use Rattle.p2p_threads.proofs.Messages.{Call, left, all_sent}
use Rattle.p2p_threads.proofs.running.sent.Goals as goal

pub returns-in-Ok : goal.returns-in-Ok
returns-in-Ok g c =
    let n = c.args.n in
    let m = c.args.m in
    let made = c.in_ok-senders.ensures in
    let sent = made.sent in
    let closed = c.in-Ok.ensures in
    let blank = c.in_ok-shared.ensures.blank in
    let h : List Call = c.in-Ok.field-0-1.items in
    let first : c.in_ok-shared.shared.first ≡ empty_queue (n * m) = c.in_ok-shared.ensures.object ∙ (c.new-2.ensures ∙ c.in_ok-mailbox.ensures) in
    let is : c.into_inner.result ≡ left (empty_queue (n * m)) h = c.into_inner.ensures ∙ (closed.object ∙ ap (λ (q : Queue Numbered). left q h) first) in
    let whole : c.senders.new.pass.made ≡ joined sent.parts = sent.made ∙ ap (λ (es : Made). es ++ joined sent.parts) blank.1 in
    let all : HaveAll n m (left (empty_queue (n * m)) h).items = all_sent (length c.in_ok-shared.pass.seen) (length c.senders.new.pass.seen) n m h c.senders.new.pass.made sent.parts (ap (λ (l : List Call). length l) blank.0) sent.each whole made.once closed.made (omega (arith, c.in-Ok.field-0-1.ok, closed.whole)) in
    λ sender lt. ap (λ (q : Queue Numbered). taken_of sender q.items) is ∙ all sender lt
