use Rattle.std.proofs.Common.{◌≡◌, List, ◌∷◌, refl, sym, ap, ◌∙◌, subst}
use Rattle.std.specs.Prelude.{IfOk, OnErr}
use Rattle.std.proofs.lemmas.Result.{IfOk-weaker}
use Rattle.p2p_tracker_calls.specs.Kills.{killed_keys}
use Rattle.p2p_tracker_directory.proofs.Exact.{both-told}
use Rattle.p2p_discovery_directory.specs.declared.call.Call.{Call}
use Rattle.p2p_discovery_directory.specs.declared.call.Call.TheVariants as call
use Rattle.p2p_discovery_directory.specs.AsLookup.{lookup_calls, placed}
use Rattle.p2p_discovery_directory.specs.Plain.{Represents, SameTerms}
use Rattle.p2p_discovery_directory.specs.Tests.{holds, reserves}
use Rattle.p2p_discovery_directory.proofs.Forgetting.{told-track, told-unmade, plain-track}
use Rattle.p2p_discovery_directory.proofs.Representing.{plain_of}
use Rattle.p2p_discovery_directory.proofs.Settled.{held-after_track, reserved-after_track}
use Rattle.p2p_discovery_directory.proofs.plain.PlainDirectory.take_in.Goals as goal

pub returns-clause-accepted : goal.returns-clause-accepted
returns-clause-accepted g c =
    IfOk-weaker c.enter-killed.result _ _ (λ o h. λ calls s. h (lookup_calls calls) (subst (λ k. Represents g.P.Ord.cmp k calls) (sym c.self.view_is) s).peers) c.enter-killed.ensures.accepted

pub returns-clause-killed : goal.returns-clause-killed
returns-clause-killed g c =
    both-told c.enter-killed.result _ _ _
    (λ k h again. λ calls one s.
    subst (λ d. k ≡ killed_keys g.P.Ord.cmp d.peers.rules c.args.index (placed c.args.peers.now.primary) (placed c.args.peers.now.secondary) (lookup_calls calls)) c.self.view_is
    (h (lookup_calls calls) one (subst (λ d. Represents g.P.Ord.cmp d calls) (sym c.self.view_is) s).peers
    ∙ ap (λ a. killed_keys g.P.Ord.cmp c.self.inside.peers.rules c.args.index a c.in_ok-placed.placed.secondary (lookup_calls calls)) c.in_ok-placed.ensures.primary
    ∙ ap (λ b. killed_keys g.P.Ord.cmp c.self.inside.peers.rules c.args.index (placed c.args.peers.now.primary) b (lookup_calls calls)) c.in_ok-placed.ensures.secondary))
    c.enter-killed.ensures.killed c.enter-killed.ensures.killed

pub returns-clause-terms : goal.returns-clause-terms
returns-clause-terms g c =
    subst (λ k. SameTerms k (plain_of c.enter-killed.new.directory c.self.inside.own c.forget.new.places.entries)) c.self.view_is (record { rules = c.enter-killed.ensures.rules; own = refl })

pub returns-clause-stands : goal.returns-clause-stands
returns-clause-stands g c =
    subst (λ k. IfOk c.enter-killed.result (λ o. (calls : List (Call g.row.P.Denot)) → Represents g.P.Ord.cmp k calls
    → Represents g.P.Ord.cmp (plain_of c.enter-killed.new.directory c.self.inside.own c.forget.new.places.entries) (call.Track c.args.index c.args.peers.now.primary c.args.peers.now.secondary ∷ calls))) c.self.view_is
    (told-track g.P.Ord.cmp c.self.inside.peers c.enter-killed.new.directory c.self.inside.own c.self.inside.places.entries c.enter-killed.ensures.rules c.enter-killed.new.places.entries c.forget.new.places.entries c.enter-killed.ensures.infos c.forget.ensures c.args.index c.args.peers.now.primary c.args.peers.now.secondary
    c.in_ok-placed.placed.primary c.in_ok-placed.placed.secondary c.in_ok-placed.ensures.primary c.in_ok-placed.ensures.secondary c.enter-killed.result c.enter-killed.ensures.stands)

pub returns-clause-memory : goal.returns-clause-memory
returns-clause-memory g c =
    subst (λ k. OnErr c.enter-killed.result ((calls : List (Call g.row.P.Denot)) → Represents g.P.Ord.cmp k calls
    → Represents g.P.Ord.cmp (plain_of c.enter-killed.new.directory c.self.inside.own c.forget.new.places.entries) calls)) c.self.view_is
    (told-unmade g.P.Ord.cmp c.self.inside.peers c.enter-killed.new.directory c.self.inside.own c.self.inside.places.entries c.enter-killed.ensures.rules c.enter-killed.new.places.entries c.forget.new.places.entries c.enter-killed.ensures.infos c.forget.ensures c.args.index c.args.peers.now.primary c.args.peers.now.secondary
    c.in_ok-placed.placed.primary c.in_ok-placed.placed.secondary c.in_ok-placed.ensures.primary c.in_ok-placed.ensures.secondary c.enter-killed.result c.enter-killed.ensures.memory)

pub returns-clause-held : goal.returns-clause-held
returns-clause-held g c = λ q.
    subst (λ k. holds g.P.Ord.cmp c.enter-killed.new.directory q ≡ holds g.P.Ord.cmp k.peers q) c.self.view_is
    (held-after_track c.enter-killed.new.directory c.self.invariant c.enter-killed.ensures.rules c.args.index c.in_ok-placed.placed.primary c.in_ok-placed.placed.secondary c.enter-killed.result c.enter-killed.ensures.stands c.enter-killed.ensures.memory q)

pub returns-clause-reserved : goal.returns-clause-reserved
returns-clause-reserved g c = λ q.
    subst (λ k. reserves g.P.Ord.cmp c.enter-killed.new.directory q ≡ reserves g.P.Ord.cmp k.peers q) c.self.view_is
    (reserved-after_track c.enter-killed.new.directory c.self.invariant c.enter-killed.ensures.rules c.args.index c.in_ok-placed.placed.primary c.in_ok-placed.placed.secondary c.enter-killed.result c.enter-killed.ensures.stands c.enter-killed.ensures.memory q)

pub invariant_of-self : goal.invariant_of-self
invariant_of-self g c =
    plain-track g.P.Ord.cmp c.self.inside.peers c.enter-killed.new.directory c.self.inside.own c.self.inside.places.entries c.enter-killed.ensures.rules c.enter-killed.new.places.entries c.forget.new.places.entries c.enter-killed.ensures.infos c.forget.ensures c.args.index c.args.peers.now.primary c.args.peers.now.secondary
    c.in_ok-placed.placed.primary c.in_ok-placed.placed.secondary c.in_ok-placed.ensures.primary c.in_ok-placed.ensures.secondary c.self.invariant c.enter-killed.ensures.kept
    c.enter-killed.result c.enter-killed.ensures.stands c.enter-killed.ensures.memory c.enter-killed.ensures.made
