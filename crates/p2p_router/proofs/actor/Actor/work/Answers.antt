use Rattle.std.proofs.Common.{◌≡◌, Option, Some, sym, ap, subst, ◌∙◌}
use Rattle.std.specs.Prelude.{IfOk, OnOk}
use Rattle.p2p_router.specs.Messenger.{Desk, message_waiting, message_taken}
use Rattle.p2p_router.specs.Step.{stepped_by, routes_by, desk_by, stepped_on, routes_on, desk_on}
use Rattle.p2p_router.specs.declared.message.Message.{Message}
use Rattle.p2p_router.specs.declared.message.Message.TheVariants as message
use Rattle.p2p_router.proofs.actor.Actor.work.Goals as goal

-- what a call says of the message that was taken, said of the oldest one
of_oldest : {P : Type 0} (d e : Desk P) (o : Option (Message P)) (m : Message P) (F : Desk P → Type 0) (G : Option (Message P) → Type 0)
    → o ≡ Some m → e ≡ message_taken d → (F (message_taken d) → G (Some m)) → F e → G o
of_oldest d e o m F G is after same h = subst G (sym is) (same (subst F after h))

pub returns-in-None-clause-stepped : goal.returns-in-None-clause-stepped
returns-in-None-clause-stepped g c = ap (stepped_on g.P.Ord.cmp c.args.self.now c.args.messenger.now) (sym c.in-None.is ∙ c.take.ensures.value)

pub returns-in-None-clause-actor : goal.returns-in-None-clause-actor
returns-in-None-clause-actor g c = ap (routes_on g.P.Ord.cmp c.args.self.now c.args.messenger.now) (sym c.in-None.is ∙ c.take.ensures.value)

pub returns-in-None-clause-messenger : goal.returns-in-None-clause-messenger
returns-in-None-clause-messenger g c =
    c.in-None.ensures.unchanged ∙ ap (desk_on g.P.Ord.cmp c.args.self.now c.args.messenger.now) (sym c.in-None.is ∙ c.take.ensures.value)

pub returns-in-Some-Ready-clause-stepped : goal.returns-in-Some-Ready-clause-stepped
returns-in-Some-Ready-clause-stepped g c =
    let r = c.args.self.now in
    let d = c.args.messenger.now in
    let m : Message g.row.P.Denot = message.Ready c.in-Some-Ready.peer c.in-Some-Ready.relay c.in-Some-Ready.conn in
    let is : message_waiting d ≡ Some m = sym c.take.ensures.value ∙ (c.in-Some-Ready.is ∙ ap Some c.in-Some-Ready.field-0-is) in
    of_oldest d c.take.new.self (message_waiting d) m (λ x. IfOk c.ready.result (λ s. s ≡ stepped_by g.P.Ord.cmp r x m)) (λ o. IfOk c.ready.result (λ s. s ≡ stepped_on g.P.Ord.cmp r d o)) is c.take.ensures.after (λ h. h) c.ready.ensures.stepped

pub returns-in-Some-Ready-clause-actor : goal.returns-in-Some-Ready-clause-actor
returns-in-Some-Ready-clause-actor g c =
    let r = c.args.self.now in
    let d = c.args.messenger.now in
    let m : Message g.row.P.Denot = message.Ready c.in-Some-Ready.peer c.in-Some-Ready.relay c.in-Some-Ready.conn in
    let is : message_waiting d ≡ Some m = sym c.take.ensures.value ∙ (c.in-Some-Ready.is ∙ ap Some c.in-Some-Ready.field-0-is) in
    of_oldest d c.take.new.self (message_waiting d) m (λ x. OnOk c.ready.result (c.ready.new.self ≡ routes_by g.P.Ord.cmp r x m)) (λ o. OnOk c.ready.result (c.ready.new.self ≡ routes_on g.P.Ord.cmp r d o)) is c.take.ensures.after (λ h. h) c.ready.ensures.actor

pub returns-in-Some-Ready-clause-messenger : goal.returns-in-Some-Ready-clause-messenger
returns-in-Some-Ready-clause-messenger g c =
    let r = c.args.self.now in
    let d = c.args.messenger.now in
    let m : Message g.row.P.Denot = message.Ready c.in-Some-Ready.peer c.in-Some-Ready.relay c.in-Some-Ready.conn in
    let is : message_waiting d ≡ Some m = sym c.take.ensures.value ∙ (c.in-Some-Ready.is ∙ ap Some c.in-Some-Ready.field-0-is) in
    of_oldest d c.take.new.self (message_waiting d) m (λ x. OnOk c.ready.result (c.ready.new.messenger ≡ desk_by g.P.Ord.cmp r x m)) (λ o. OnOk c.ready.result (c.ready.new.messenger ≡ desk_on g.P.Ord.cmp r d o)) is c.take.ensures.after (λ h. h) c.ready.ensures.messenger

pub returns-in-Some-Release-clause-stepped : goal.returns-in-Some-Release-clause-stepped
returns-in-Some-Release-clause-stepped g c =
    let r = c.args.self.now in
    let d = c.args.messenger.now in
    let m : Message g.row.P.Denot = message.Release c.in-Some-Release.peer in
    let is : message_waiting d ≡ Some m = sym c.take.ensures.value ∙ (c.in-Some-Release.is ∙ ap Some c.in-Some-Release.field-0-is) in
    of_oldest d c.take.new.self (message_waiting d) m (λ x. IfOk c.release.result (λ s. s ≡ stepped_by g.P.Ord.cmp r x m)) (λ o. IfOk c.release.result (λ s. s ≡ stepped_on g.P.Ord.cmp r d o)) is c.take.ensures.after (λ h. h) c.release.ensures.stepped

pub returns-in-Some-Release-clause-actor : goal.returns-in-Some-Release-clause-actor
returns-in-Some-Release-clause-actor g c =
    let r = c.args.self.now in
    let d = c.args.messenger.now in
    let m : Message g.row.P.Denot = message.Release c.in-Some-Release.peer in
    let is : message_waiting d ≡ Some m = sym c.take.ensures.value ∙ (c.in-Some-Release.is ∙ ap Some c.in-Some-Release.field-0-is) in
    of_oldest d c.take.new.self (message_waiting d) m (λ x. OnOk c.release.result (c.release.new.self ≡ routes_by g.P.Ord.cmp r x m)) (λ o. OnOk c.release.result (c.release.new.self ≡ routes_on g.P.Ord.cmp r d o)) is c.take.ensures.after (λ h. h) c.release.ensures.actor

pub returns-in-Some-Release-clause-messenger : goal.returns-in-Some-Release-clause-messenger
returns-in-Some-Release-clause-messenger g c =
    let r = c.args.self.now in
    let d = c.args.messenger.now in
    let m : Message g.row.P.Denot = message.Release c.in-Some-Release.peer in
    let is : message_waiting d ≡ Some m = sym c.take.ensures.value ∙ (c.in-Some-Release.is ∙ ap Some c.in-Some-Release.field-0-is) in
    of_oldest d c.take.new.self (message_waiting d) m (λ x. OnOk c.release.result (c.release.new.messenger ≡ desk_by g.P.Ord.cmp r x m)) (λ o. OnOk c.release.result (c.release.new.messenger ≡ desk_on g.P.Ord.cmp r d o)) is c.take.ensures.after (λ h. h) c.release.ensures.messenger

pub returns-in-Some-Content-clause-stepped : goal.returns-in-Some-Content-clause-stepped
returns-in-Some-Content-clause-stepped g c =
    let r = c.args.self.now in
    let d = c.args.messenger.now in
    let m : Message g.row.P.Denot = message.Content c.in-Some-Content.recipients c.in-Some-Content.encoded c.in-Some-Content.priority in
    let is : message_waiting d ≡ Some m = sym c.take.ensures.value ∙ (c.in-Some-Content.is ∙ ap Some c.in-Some-Content.field-0-is) in
    of_oldest d c.take.new.self (message_waiting d) m (λ x. IfOk c.content.result (λ s. s ≡ stepped_by g.P.Ord.cmp r x m)) (λ o. IfOk c.content.result (λ s. s ≡ stepped_on g.P.Ord.cmp r d o)) is c.take.ensures.after (λ h. h) c.content.ensures.stepped

pub returns-in-Some-Content-clause-actor : goal.returns-in-Some-Content-clause-actor
returns-in-Some-Content-clause-actor g c =
    let r = c.args.self.now in
    let d = c.args.messenger.now in
    let m : Message g.row.P.Denot = message.Content c.in-Some-Content.recipients c.in-Some-Content.encoded c.in-Some-Content.priority in
    let is : message_waiting d ≡ Some m = sym c.take.ensures.value ∙ (c.in-Some-Content.is ∙ ap Some c.in-Some-Content.field-0-is) in
    of_oldest d c.take.new.self (message_waiting d) m (λ x. OnOk c.content.result (c.content.new.self ≡ routes_by g.P.Ord.cmp r x m)) (λ o. OnOk c.content.result (c.content.new.self ≡ routes_on g.P.Ord.cmp r d o)) is c.take.ensures.after (λ h. h) c.content.ensures.actor

pub returns-in-Some-SubscribePeers-clause-stepped : goal.returns-in-Some-SubscribePeers-clause-stepped
returns-in-Some-SubscribePeers-clause-stepped g c =
    let r = c.args.self.now in
    let d = c.args.messenger.now in
    let m : Message g.row.P.Denot = message.SubscribePeers c.in-Some-SubscribePeers.subscription in
    let is : message_waiting d ≡ Some m = sym c.take.ensures.value ∙ (c.in-Some-SubscribePeers.is ∙ ap Some c.in-Some-SubscribePeers.field-0-is) in
    of_oldest d c.take.new.self (message_waiting d) m (λ x. IfOk c.subscribe.result (λ s. s ≡ stepped_by g.P.Ord.cmp r x m)) (λ o. IfOk c.subscribe.result (λ s. s ≡ stepped_on g.P.Ord.cmp r d o)) is c.take.ensures.after (λ h. h) c.subscribe.ensures.stepped

pub returns-in-Some-SubscribePeers-clause-actor : goal.returns-in-Some-SubscribePeers-clause-actor
returns-in-Some-SubscribePeers-clause-actor g c =
    let r = c.args.self.now in
    let d = c.args.messenger.now in
    let m : Message g.row.P.Denot = message.SubscribePeers c.in-Some-SubscribePeers.subscription in
    let is : message_waiting d ≡ Some m = sym c.take.ensures.value ∙ (c.in-Some-SubscribePeers.is ∙ ap Some c.in-Some-SubscribePeers.field-0-is) in
    of_oldest d c.take.new.self (message_waiting d) m (λ x. OnOk c.subscribe.result (c.subscribe.new.self ≡ routes_by g.P.Ord.cmp r x m)) (λ o. OnOk c.subscribe.result (c.subscribe.new.self ≡ routes_on g.P.Ord.cmp r d o)) is c.take.ensures.after (λ h. h) c.subscribe.ensures.actor

pub returns-in-Some-SubscribePeers-clause-messenger : goal.returns-in-Some-SubscribePeers-clause-messenger
returns-in-Some-SubscribePeers-clause-messenger g c =
    let r = c.args.self.now in
    let d = c.args.messenger.now in
    let m : Message g.row.P.Denot = message.SubscribePeers c.in-Some-SubscribePeers.subscription in
    let is : message_waiting d ≡ Some m = sym c.take.ensures.value ∙ (c.in-Some-SubscribePeers.is ∙ ap Some c.in-Some-SubscribePeers.field-0-is) in
    of_oldest d c.take.new.self (message_waiting d) m (λ x. OnOk c.subscribe.result (c.subscribe.new.messenger ≡ desk_by g.P.Ord.cmp r x m)) (λ o. OnOk c.subscribe.result (c.subscribe.new.messenger ≡ desk_on g.P.Ord.cmp r d o)) is c.take.ensures.after (λ h. h) c.subscribe.ensures.messenger
