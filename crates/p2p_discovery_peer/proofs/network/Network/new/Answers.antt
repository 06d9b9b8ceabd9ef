use Rattle.std.proofs.Common.{◌≤◌, sym, subst}
use Rattle.p2p_discovery_peer.proofs.Fits.{in_sizes, some_peer}
use Rattle.p2p_discovery_peer.proofs.network.Network.new.Goals as goal

pub new-requires-4 : goal.new-requires-4
new-requires-4 g c =
    subst (λ n. 1 ≤ n) (sym c.in-Some.ensures.1) (some_peer g.P.PublicKey.SIZE g.P.Ord.cmp c.args.cfg c.requires.fits)

pub new-requires-5 : goal.new-requires-5
new-requires-5 g c = in_sizes g.P.PublicKey.SIZE g.P.Ord.cmp c.args.cfg c.requires.fits
