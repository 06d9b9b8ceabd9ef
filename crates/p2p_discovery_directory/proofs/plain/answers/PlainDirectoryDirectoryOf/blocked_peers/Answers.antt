use Rattle.std.proofs.Common.{◌≡◌, sym, subst}
use Rattle.std.proofs.lemmas.Result.{IfOk-weaker}
use Rattle.p2p_tracker_calls.specs.BlockedKeys.{blocked_keys}
use Rattle.p2p_discovery_directory.specs.AsLookup.{lookup_calls}
use Rattle.p2p_discovery_directory.specs.Plain.{Represents}
use Rattle.p2p_discovery_directory.proofs.plain.answers.PlainDirectoryDirectoryOf.blocked_peers.Goals as goal

pub returns : goal.returns
returns g c =
    IfOk-weaker c.blocked_peers.result _ _
    (λ r h. λ calls one s. subst (λ k. r ≡ blocked_keys g.P.Ord.cmp k.peers.rules (lookup_calls calls) c.args.now) c.self.view_is
    (h (lookup_calls calls) one (subst (λ k. Represents g.P.Ord.cmp k calls) (sym c.self.view_is) s).peers)) c.blocked_peers.ensures.exactly
