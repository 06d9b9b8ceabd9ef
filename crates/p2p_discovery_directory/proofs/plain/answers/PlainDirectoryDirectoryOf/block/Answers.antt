use Rattle.std.proofs.Common.{◌≡◌, List, ◌∷◌, refl, subst}
use Rattle.std.specs.Prelude.{IfOk, OnErr}
use Rattle.p2p_discovery_directory.specs.declared.call.Call.{Call}
use Rattle.p2p_discovery_directory.specs.declared.call.Call.TheVariants as call
use Rattle.p2p_discovery_directory.specs.Plain.{Represents, SameTerms}
use Rattle.p2p_discovery_directory.specs.Tests.{holds, reserves}
use Rattle.p2p_discovery_directory.proofs.Representing.{plain_of}
use Rattle.p2p_discovery_directory.proofs.Settled.{same-whole, plain-block, held-after_block, reserved-after_block, told-block}
use Rattle.p2p_discovery_directory.proofs.plain.answers.PlainDirectoryDirectoryOf.block.Goals as goal

pub returns-clause-terms : goal.returns-clause-terms
returns-clause-terms g c =
    subst (λ k. SameTerms k (plain_of c.block.new.self c.self.inside.own c.self.inside.places.entries)) c.self.view_is (record { rules = c.block.ensures.rules; own = refl })

pub returns-clause-stands : goal.returns-clause-stands
returns-clause-stands g c =
    subst (λ k. IfOk c.block.result (λ b. (calls : List (Call g.row.P.Denot)) → Represents g.P.Ord.cmp k calls
    → Represents g.P.Ord.cmp (plain_of c.block.new.self c.self.inside.own c.self.inside.places.entries) (call.Block c.args.peer.now c.args.now ∷ calls))) c.self.view_is
    (told-block c.block.new.self c.self.invariant c.block.ensures.rules c.args.peer.now c.args.now c.block.result c.block.ensures.stands)

pub returns-clause-memory : goal.returns-clause-memory
returns-clause-memory g c =
    subst (λ k. OnErr c.block.result (plain_of c.block.new.self c.self.inside.own c.self.inside.places.entries ≡ k)) c.self.view_is
    (same-whole g.P.Ord.cmp c.self.inside.peers c.block.new.self c.self.inside.own c.self.inside.places.entries c.block.result c.block.ensures.memory)

pub returns-clause-held : goal.returns-clause-held
returns-clause-held g c = λ q.
    subst (λ k. holds g.P.Ord.cmp c.block.new.self q ≡ holds g.P.Ord.cmp k.peers q) c.self.view_is
    (held-after_block c.block.new.self c.self.invariant c.block.ensures.rules c.args.peer.now c.args.now c.block.result c.block.ensures.stands c.block.ensures.memory q)

pub returns-clause-reserved : goal.returns-clause-reserved
returns-clause-reserved g c = λ q.
    subst (λ k. reserves g.P.Ord.cmp c.block.new.self q ≡ reserves g.P.Ord.cmp k.peers q) c.self.view_is
    (reserved-after_block c.block.new.self c.self.invariant c.block.ensures.rules c.args.peer.now c.args.now c.block.result c.block.ensures.stands c.block.ensures.memory q)

pub invariant_of-self : goal.invariant_of-self
invariant_of-self g c = plain-block c.block.new.self c.self.invariant c.block.ensures.rules c.args.peer.now c.args.now c.block.result c.block.ensures.stands c.block.ensures.memory
