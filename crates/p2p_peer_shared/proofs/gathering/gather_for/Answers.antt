use Rattle.std.proofs.Common.{◌≡◌, Result, Ok, Err, ap, ◌∙◌}
use Rattle.std.specs.Prelude.{OnOk}
use Rattle.p2p_router.specs.Connections.{with_relay_at}
use Rattle.p2p_peer_shared.specs.Gathering.{router_over}
use Rattle.p2p_peer_shared.proofs.gathering.gather_for.Goals as goal

-- what is left where a call succeeds, told of another value
told : {S E A B : Type 0} (r : Result S E) (x y : A) (F : A → B) (z w : B) → z ≡ F x → F y ≡ w → OnOk r (x ≡ y) → OnOk r (z ≡ w)
told (Ok s) x y F z w before after same = before ∙ (ap F same ∙ after)
told (Err e) x y F z w before after same = tt

pub returns-in-Some-clause-router : goal.returns-in-Some-clause-router
returns-in-Some-clause-router g c =
    let r = c.args.router.now in
    let conn = c.args.conn in
    let control = c.args.control.now in
    told c.gather.result c.gather.new.relay _ (with_relay_at g.P.Ord.cmp r conn) _ _
    (rw c.in-Some.is at (c.relay.follows.holds c.gather.new.relay))
    (ap (router_over g.C.Control.frame_of (g.C.Control.ended control) c.args.size c.args.first (g.C.Control.waiting control) g.P.Ord.cmp r conn) (rw c.in-Some.is at c.relay.ensures.value))
    c.gather.ensures.relay

pub returns-in-None-clause-keeps : goal.returns-in-None-clause-keeps
returns-in-None-clause-keeps g c = g.met.C.Control.keeps_itself c.args.control.now
