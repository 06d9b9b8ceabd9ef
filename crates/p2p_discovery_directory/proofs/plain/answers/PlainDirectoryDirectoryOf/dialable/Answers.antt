use Rattle.std.proofs.Common.{◌≡◌, sym, ap, ◌∙◌, subst}
use Rattle.p2p_discovery_directory.specs.DialList.{dialable_keys, query_again_at}
use Rattle.p2p_discovery_directory.specs.Plain.{Represents}
use Rattle.p2p_discovery_directory.proofs.Listing.{listed-exact, asked-exact, dial_list}
use Rattle.p2p_discovery_directory.proofs.plain.answers.PlainDirectoryDirectoryOf.dialable.Goals as goal

pub returns : goal.returns
returns g c = λ calls one s.
    let r = subst (λ k. Represents g.P.Ord.cmp k calls) (sym c.self.view_is) s in
    subst (λ k. dial_list c.new.result c.asks_again.result ≡ dial_list (dialable_keys g.P.Ord.cmp k.peers.rules k.own calls c.args.now) (query_again_at g.P.Ord.cmp k.peers.rules k.own calls c.args.now)) c.self.view_is
    (ap (λ l. dial_list l c.asks_again.result) (c.new.ensures ∙ c.in_ok-peers.ensures.keys ∙ listed-exact g.met.P.Ord.total c.self.invariant r c.args.now one c.in_ok-peers.ensures.ordered)
    ∙ ap (dial_list _) (c.asks_again.ensures ∙ asked-exact g.met.P.Ord.total c.self.invariant r c.args.now one c.in_ok-peers.ensures.ordered))
