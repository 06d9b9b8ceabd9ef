use Rattle.std.proofs.Common.{◌≡◌, Some, None, [], ◌∷◌, refl, ap, sym, subst, ◌∙◌, cond, drop}
use Rattle.std.specs.Prelude.{slice_get, filter}
use Rattle.std.specs.BTreeMap.{get}
use Rattle.std.specs.Ordering.{nat_cmp}
use Rattle.p2p_base.specs.declared.key.Key.{Key}
use Rattle.p2p_router.specs.Routes.{Routes}
use Rattle.p2p_router.specs.Routing.{link_of}
use Rattle.p2p_log.specs.QueueCode.{same_queue}
use Rattle.p2p_log.specs.Lines.{stays}
use Rattle.p2p_net_queues.specs.Board.{held}
use Rattle.p2p_net_router.specs.Ends.{AreEnded}
use Rattle.p2p_net_router.specs.Frames.{frame_waiting}
use Rattle.p2p_net_router.specs.Holds.{Holds, routes_in}
use Rattle.p2p_net_router.specs.Items.{key_cmp}
use Rattle.p2p_net_router.proofs.Taken.{ends_taken, taken_none, no_peer, taken_nothing, taken_some, name_there, routes_taken}
use Rattle.p2p_net_router.proofs.router.Router.take.Goals as goal

pub returns-in_default-clause-holds : goal.returns-in_default-clause-holds
returns-in_default-clause-holds c =
    λ size items h apart.
    let r = c.args.self.now in
    let none : get nat_cmp r.peers c.args.conn ≡ None = sym c.get.ensures.value ∙ (sym c.copied.ensures ∙ c.in_default.is) in
    (taken_none size r c.args.conn c.args.priority r.actor.links (no_peer r c.args.conn c.args.priority none) refl).holds items h apart

pub returns-in_default-take_frame-clause-value : goal.returns-in_default-take_frame-clause-value
returns-in_default-take_frame-clause-value c =
    λ size items h.
    let r = c.args.self.now in
    let peer : get nat_cmp r.peers c.args.conn ≡ Some c.in-Some.key = sym c.get.ensures.value ∙ (sym c.copied.ensures ∙ c.in-Some.is) in
    let none : frame_waiting (link_of key_cmp r.actor.links c.in-Some.key) c.args.priority ≡ None = sym c.take_frame.ensures.value ∙ c.in_default-take_frame.is in
    (taken_nothing size r c.args.conn c.in-Some.key c.args.priority c.take_frame.new.actor.links h.sound peer none (ap (λ (x : Routes Key). x.links) c.take_frame.ensures.after)).value items h

pub returns-in_default-take_frame-clause-holds : goal.returns-in_default-take_frame-clause-holds
returns-in_default-take_frame-clause-holds c =
    λ size items h apart.
    let r = c.args.self.now in
    let peer : get nat_cmp r.peers c.args.conn ≡ Some c.in-Some.key = sym c.get.ensures.value ∙ (sym c.copied.ensures ∙ c.in-Some.is) in
    let none : frame_waiting (link_of key_cmp r.actor.links c.in-Some.key) c.args.priority ≡ None = sym c.take_frame.ensures.value ∙ c.in_default-take_frame.is in
    subst (λ (a : Routes Key). Holds size (record r { actor = a }) (filter (stays []) items)) (sym c.take_frame.ensures.after)
    ((taken_nothing size r c.args.conn c.in-Some.key c.args.priority _ h.sound peer none refl).holds items h apart)

pub returns-in_default-take_frame-clause-routes : goal.returns-in_default-take_frame-clause-routes
returns-in_default-take_frame-clause-routes c =
    let links = c.args.self.now.actor.links in
    ap (λ (x : Routes Key). routes_in x.links) c.take_frame.ensures.after ∙ routes_taken links c.in-Some.key c.args.priority (link_of key_cmp links c.in-Some.key) refl

pub returns-in_default-pop-clause-value : goal.returns-in_default-pop-clause-value
returns-in_default-pop-clause-value c =
    λ size items h.
    let r = c.args.self.now in
    let peer : get nat_cmp r.peers c.args.conn ≡ Some c.in-Some.key = sym c.get.ensures.value ∙ (sym c.copied.ensures ∙ c.in-Some.is) in
    let waits : frame_waiting (link_of key_cmp r.actor.links c.in-Some.key) c.args.priority ≡ Some c.in-Some-take_frame.encoded = sym c.take_frame.ensures.value ∙ c.in-Some-take_frame.is in
    absurd (name_there size r c.args.conn c.in-Some.key c.args.priority c.in-Some-take_frame.encoded items h peer waits
    (sym c.in_default-pop.is ∙ (c.pop.ensures.first ∙ ap (λ q. slice_get (held r.names q) 0) c.lane-queue.ensures)))

pub returns-in_default-pop-clause-holds : goal.returns-in_default-pop-clause-holds
returns-in_default-pop-clause-holds c =
    λ size items h apart.
    let r = c.args.self.now in
    let peer : get nat_cmp r.peers c.args.conn ≡ Some c.in-Some.key = sym c.get.ensures.value ∙ (sym c.copied.ensures ∙ c.in-Some.is) in
    let waits : frame_waiting (link_of key_cmp r.actor.links c.in-Some.key) c.args.priority ≡ Some c.in-Some-take_frame.encoded = sym c.take_frame.ensures.value ∙ c.in-Some-take_frame.is in
    absurd (name_there size r c.args.conn c.in-Some.key c.args.priority c.in-Some-take_frame.encoded items h peer waits
    (sym c.in_default-pop.is ∙ (c.pop.ensures.first ∙ ap (λ q. slice_get (held r.names q) 0) c.lane-queue.ensures)))

pub returns-in_default-pop-clause-routes : goal.returns-in_default-pop-clause-routes
returns-in_default-pop-clause-routes c =
    let links = c.args.self.now.actor.links in
    ap (λ (x : Routes Key). routes_in x.links) c.take_frame.ensures.after ∙ routes_taken links c.in-Some.key c.args.priority (link_of key_cmp links c.in-Some.key) refl

pub returns-clause-value : goal.returns-clause-value
returns-clause-value c =
    λ size items h.
    let r = c.args.self.now in
    let peer : get nat_cmp r.peers c.args.conn ≡ Some c.in-Some.key = sym c.get.ensures.value ∙ (sym c.copied.ensures ∙ c.in-Some.is) in
    let waits : frame_waiting (link_of key_cmp r.actor.links c.in-Some.key) c.args.priority ≡ Some c.in-Some-take_frame.encoded = sym c.take_frame.ensures.value ∙ c.in-Some-take_frame.is in
    (taken_some size r c.args.conn c.in-Some.key c.args.priority c.in-Some-take_frame.encoded c.in-Some-pop.name c.take_frame.new.actor.links c.pop.new.self h.sound peer waits
    (ap (λ (x : Routes Key). x.links) c.take_frame.ensures.after)
    (sym c.in-Some-pop.is ∙ (c.pop.ensures.first ∙ ap (λ q. slice_get (held r.names q) 0) c.lane-queue.ensures))
    (λ p. c.pop.ensures.rest p ∙ ap (λ q. cond (same_queue q p) (drop 1 (held r.names p)) (held r.names p)) c.lane-queue.ensures)).value items h

pub returns-clause-holds : goal.returns-clause-holds
returns-clause-holds c =
    λ size items h apart.
    let r = c.args.self.now in
    let peer : get nat_cmp r.peers c.args.conn ≡ Some c.in-Some.key = sym c.get.ensures.value ∙ (sym c.copied.ensures ∙ c.in-Some.is) in
    let waits : frame_waiting (link_of key_cmp r.actor.links c.in-Some.key) c.args.priority ≡ Some c.in-Some-take_frame.encoded = sym c.take_frame.ensures.value ∙ c.in-Some-take_frame.is in
    let name = c.in-Some-pop.name in
    subst (λ (a : Routes Key). Holds size (record r { actor = a; names = c.pop.new.self }) (filter (stays ((name.entry, name.place) ∷ [])) items)) (sym c.take_frame.ensures.after)
    ((taken_some size r c.args.conn c.in-Some.key c.args.priority c.in-Some-take_frame.encoded name _ c.pop.new.self h.sound peer waits refl
    (sym c.in-Some-pop.is ∙ (c.pop.ensures.first ∙ ap (λ q. slice_get (held r.names q) 0) c.lane-queue.ensures))
    (λ p. c.pop.ensures.rest p ∙ ap (λ q. cond (same_queue q p) (drop 1 (held r.names p)) (held r.names p)) c.lane-queue.ensures)).holds items h apart)

pub returns-clause-routes : goal.returns-clause-routes
returns-clause-routes c =
    let links = c.args.self.now.actor.links in
    ap (λ (x : Routes Key). routes_in x.links) c.take_frame.ensures.after ∙ routes_taken links c.in-Some.key c.args.priority (link_of key_cmp links c.in-Some.key) refl

pub returns-in_default-take_frame-clause-ends : goal.returns-in_default-take_frame-clause-ends
returns-in_default-take_frame-clause-ends c =
    λ ended h.
    let r = c.args.self.now in
    subst (λ (a : Routes Key). AreEnded ended r.peers a.links) (sym c.take_frame.ensures.after)
    (ends_taken ended r.peers r.actor.links c.in-Some.key c.args.priority (link_of key_cmp r.actor.links c.in-Some.key) refl h)

pub returns-in_default-pop-clause-ends : goal.returns-in_default-pop-clause-ends
returns-in_default-pop-clause-ends c =
    λ ended h.
    let r = c.args.self.now in
    subst (λ (a : Routes Key). AreEnded ended r.peers a.links) (sym c.take_frame.ensures.after)
    (ends_taken ended r.peers r.actor.links c.in-Some.key c.args.priority (link_of key_cmp r.actor.links c.in-Some.key) refl h)

pub returns-clause-ends : goal.returns-clause-ends
returns-clause-ends c =
    λ ended h.
    let r = c.args.self.now in
    subst (λ (a : Routes Key). AreEnded ended r.peers a.links) (sym c.take_frame.ensures.after)
    (ends_taken ended r.peers r.actor.links c.in-Some.key c.args.priority (link_of key_cmp r.actor.links c.in-Some.key) refl h)
