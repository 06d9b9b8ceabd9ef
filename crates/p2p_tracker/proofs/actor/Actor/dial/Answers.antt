use Rattle.p2p_tracker.proofs.Putting.{some-told}
use Rattle.p2p_tracker.specs.Putting.{dial_grant}
use Rattle.p2p_tracker.specs.declared.stepped.Put.{Put}
use Rattle.p2p_tracker.specs.declared.stepped.Put.TheVariants as puts
use Rattle.p2p_tracker.proofs.Told.{dial-granted}
use Rattle.p2p_tracker_calls.specs.Lives.{address_of}
use Rattle.p2p_tracker_calls.specs.declared.call.Call.{Call}
use Rattle.p2p_tracker_directory.specs.declared.metadata.Metadata.{Metadata}
use Rattle.p2p_address.specs.declared.peer.Ingress.{Ingress}
use Rattle.p2p_address.specs.Addresses.{ingress_of}
use Rattle.std.specs.Option.{option_map}
use Rattle.p2p_tracker_directory.specs.Stands.{StandsFor}
use Rattle.std.proofs.Common.{◌≡◌, sym, ap, ◌∙◌, subst, Some, Option, List, [], ◌∷◌}
use Rattle.std.specs.Prelude.{is_some}
use Rattle.p2p_tracker_calls.specs.Jitter.{jitter_of}
use Rattle.p2p_tracker.specs.Tracking.{Tracking}
use Rattle.p2p_tracker_calls.specs.Allows.{allows_dial}
use Rattle.p2p_tracker.specs.Following.{Follows}
use Rattle.p2p_tracker.proofs.Following.{follows-dial}
use Rattle.p2p_tracker.proofs.Standing.{dial-served}
use Rattle.p2p_tracker.proofs.actor.Actor.dial.Goals as goal

pub returns-clause-stands : goal.returns-clause-stands
returns-clause-stands g c = λ calls s.
    let jitter : c.jitter-jitter.result ≡ jitter_of c.args.self.now.cooldown c.args.seed = cc in
    dial-served c.self.inside.directory c.args.self.now.directory (ap (λ (t : Tracking g.row.C.Denot). t.directory) c.self.view_is) c.dial.new.self calls
    c.args.public_key c.args.now c.jitter-jitter.result (jitter_of c.args.self.now.cooldown c.args.seed) (is_some c.in_ok-granted.granted) jitter
    c.in_ok-granted.ensures.stands c.in_ok-granted.ensures.granted s

pub returns-clause-follows : goal.returns-clause-follows
returns-clause-follows g c = λ calls f.
    let kept = subst (λ (t : Tracking g.row.C.Denot). Follows g.C.Ord.cmp t.directory t.controls calls) (sym c.self.view_is) f in
    follows-dial c.self.inside.directory c.dial.new.self c.self.inside.controls.entries calls c.in_ok-granted.ensures.rules kept
    c.args.public_key c.args.now (jitter_of c.args.self.now.cooldown c.args.seed) (allows_dial g.C.Ord.cmp c.args.self.now.directory.rules calls c.args.public_key c.args.now)
    (returns-clause-stands g c calls f.stands)

pub returns-clause-put : goal.returns-clause-put
returns-clause-put g c = λ calls f.
    let before = subst (λ (t : Tracking g.row.C.Denot). StandsFor g.C.Ord.cmp t.directory calls) (sym c.self.view_is) f.stands in
    let One : Option (Metadata g.row.C.Denot × Ingress) → List (Put g.row.C.Denot) = λ x. puts.Dial x ∷ [] in
    let ingress = some-told c.in_ok-granted.granted
    (λ (x : Metadata g.row.C.Denot × Ingress). (calls : List (Call g.row.C.Denot)) → StandsFor g.C.Ord.cmp c.self.inside.directory calls → option_map ingress_of (address_of g.C.Ord.cmp c.self.inside.directory.rules calls c.args.public_key) ≡ Some x.1)
    (λ (x : Metadata g.row.C.Denot × Ingress). option_map ingress_of (address_of g.C.Ord.cmp c.self.inside.directory.rules calls c.args.public_key) ≡ Some x.1)
    (λ x h. h calls before) c.in_ok-granted.ensures.ingress in
    subst (λ (t : Tracking g.row.C.Denot). c.in_ok-only.field-0 ≡ One (dial_grant g.C.Ord.cmp t.directory.rules calls c.args.now c.args.public_key)) c.self.view_is
    (c.in_ok-only.ensures ∙ ap One (c.in_ok-told.ensures ∙ dial-granted c.in_ok-granted.granted (allows_dial g.C.Ord.cmp c.self.inside.directory.rules calls c.args.public_key c.args.now) c.args.public_key
    (address_of g.C.Ord.cmp c.self.inside.directory.rules calls c.args.public_key) (c.in_ok-granted.ensures.granted calls before) c.in_ok-granted.ensures.metadata ingress))
