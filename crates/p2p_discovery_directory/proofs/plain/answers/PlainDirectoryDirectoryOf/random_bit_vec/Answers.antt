use Rattle.std.proofs.Common.{◌≡◌, ◌-◌, sym, ap, ◌∙◌, subst}
use Rattle.std.proofs.lemmas.Result.{IfOk-weaker}
use Rattle.std.specs.Option.{option_map}
use Rattle.p2p_runtime.specs.Draws.{drawn}
use Rattle.p2p_tracker_calls.specs.Sets.{set_at, kept_sets}
use Rattle.p2p_discovery_directory.specs.AsLookup.{lookup_calls}
use Rattle.p2p_discovery_directory.specs.Gossip.{bit_vec_of, random_bit_vec}
use Rattle.p2p_discovery_directory.specs.Plain.{Represents}
use Rattle.p2p_discovery_directory.proofs.Gossiping.{random-some}
use Rattle.p2p_discovery_directory.proofs.plain.answers.PlainDirectoryDirectoryOf.random_bit_vec.Goals as goal

pub returns-in-Some : goal.returns-in-Some
returns-in-Some g c =
    IfOk-weaker c.bit_vec_of.result _ _
    (λ o h. λ calls s.
    let r = subst (λ k. Represents g.P.Ord.cmp k calls) (sym c.self.view_is) s in
    h calls s
    ∙ subst (λ k. option_map (bit_vec_of g.P.Ord.cmp k.peers.rules k.own calls) (set_at c.in-Some.index (kept_sets g.P.Ord.cmp k.peers.rules (lookup_calls calls))) ≡ random_bit_vec g.P.Ord.cmp k.peers.rules k.own calls c.args.seed)
    c.self.view_is
    (random-some g.P.Ord.cmp c.self.inside.peers.rules c.self.inside.own calls c.args.seed c.set_count-count.result c.choice-place.result (c.set_count-count.ensures.exactly (lookup_calls calls) r.peers)
    (c.choice-place.ensures.value ∙ ap (λ d. (drawn (c.set_count-count.result - 1) d).0) c.new.ensures) c.in-Some.index
    (sym c.in-Some.is ∙ c.set_index.ensures.exactly (lookup_calls calls) r.peers)))
    c.bit_vec_of.ensures
