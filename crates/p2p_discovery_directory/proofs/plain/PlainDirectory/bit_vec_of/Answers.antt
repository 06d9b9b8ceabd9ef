use Rattle.std.proofs.Common.{◌≡◌, Some, sym, ap, ◌∙◌, subst}
use Rattle.std.specs.Option.{option_map}
use Rattle.p2p_tracker_calls.specs.Peers.{peers_of}
use Rattle.p2p_tracker_calls.specs.Sets.{set_at, kept_sets}
use Rattle.p2p_discovery_directory.specs.AsLookup.{lookup_calls}
use Rattle.p2p_discovery_directory.specs.Gossip.{known_by}
use Rattle.p2p_discovery_directory.specs.Plain.{Represents, info_at}
use Rattle.p2p_discovery_directory.proofs.Gossiping.{bit_vec-some}
use Rattle.p2p_discovery_directory.proofs.plain.PlainDirectory.bit_vec_of.Goals as goal

pub returns : goal.returns
returns g c = λ calls s.
    let r = subst (λ k. Represents g.P.Ord.cmp k calls) (sym c.self.view_is) s in
    bit_vec-some s c.args.index c.in-Some.peers c.in_ok-keys.keys c.in_ok-keys.ensures
    (subst (λ k. Some c.in-Some.peers ≡ option_map peers_of (set_at c.args.index (kept_sets g.P.Ord.cmp k.peers.rules (lookup_calls calls)))) c.self.view_is
    (sym c.in-Some.is ∙ c.in_ok-peers.ensures.peers (lookup_calls calls) r.peers))
    c.new.result (c.new.ensures ∙ (c.in_ok-bits.ensures ∙ ap (known_by (λ q. info_at g.P.Ord.cmp c.args.self.now q)) c.as_slice.ensures.keys))
