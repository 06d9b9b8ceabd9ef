use Rattle.std.proofs.Common.{◌≡◌, sym, subst}
use Rattle.std.proofs.lemmas.Result.{IfOk-weaker}
use Rattle.std.specs.Option.{option_map}
use Rattle.p2p_tracker_calls.specs.Peers.{peers_of}
use Rattle.p2p_tracker_calls.specs.Sets.{set_at, kept_sets}
use Rattle.p2p_discovery_directory.specs.AsLookup.{lookup_calls}
use Rattle.p2p_discovery_directory.specs.Plain.{Represents}
use Rattle.p2p_discovery_directory.proofs.plain.answers.PlainDirectoryDirectoryOf.get_peer_set.Goals as goal

pub returns : goal.returns
returns g c =
    IfOk-weaker c.get_peer_set.result _ _
    (λ r h. λ calls s. subst (λ k. r ≡ option_map peers_of (set_at c.args.index (kept_sets g.P.Ord.cmp k.peers.rules (lookup_calls calls)))) c.self.view_is
    (h (lookup_calls calls) (subst (λ k. Represents g.P.Ord.cmp k calls) (sym c.self.view_is) s).peers)) c.get_peer_set.ensures.peers
