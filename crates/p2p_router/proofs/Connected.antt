-- A connection has a relay exactly where a peer is connected over it.
use Rattle.std.proofs.Common.{◌≡◌, ℕ, ◌==◌, true, false, cond, List, Option, Some, None, refl, sym, ap}
use Rattle.std.specs.Option.{is_some}
use Rattle.std.specs.declared.cmp.Ordering.{Ordering}
use Rattle.p2p_router.specs.Connections.{is_over, peer_in, peer_at, relay_at, relay_to, peer_over}
use Rattle.p2p_router.specs.Routes.{Routes}
use Rattle.p2p_router.specs.Routing.{link_of, relay_over}
use Rattle.p2p_router.specs.declared.link.Link.{Link}

module _ {P : Type 0} (cmp : P → P → Ordering) where
  over : (l : Option Link) (links : List (P × Link)) (peer : P) (conn : ℕ) → link_of cmp links peer ≡ l
      → is_some (cond (is_over conn l) (Some peer) None) ≡ is_some (relay_to cmp links (cond (is_over conn l) (Some peer) None))
  over None links peer conn e = refl
  over (Some l) links peer conn e =
      elim (l.conn == conn) as (λ b. is_some (cond b (Some peer) None) ≡ is_some (relay_to cmp links (cond b (Some peer) None))) [
        | true ↦ ap (λ o. is_some (relay_over o)) (sym e)
        | false ↦ refl
      ]

  there : (o : Option P) (links : List (P × Link)) (conn : ℕ) → is_some (peer_over cmp links conn o) ≡ is_some (relay_to cmp links (peer_over cmp links conn o))
  there None links conn = refl
  there (Some peer) links conn = over (link_of cmp links peer) links peer conn refl

  pub relay_there : (r : Routes P) (conn : ℕ) → is_some (peer_at cmp r conn) ≡ is_some (relay_at cmp r conn)
  relay_there r conn = there (peer_in r.peers conn) r.links conn
