-- Entries that leave alone what a node's router has.
use Rattle.std.proofs.Common.{◌≡◌, ℕ, false, List, []}
use Rattle.std.specs.Prelude.{◌==◌}
use Rattle.p2p_log.specs.declared.entry.Entry.{Entry}
use Rattle.p2p_log.specs.declared.event.Act.TheVariants as act
use Rattle.p2p_log_rules.specs.Facts.{taken}
use Rattle.p2p_log_rules.proofs.Acted.{TellsNone}
use Rattle.p2p_log_rules.proofs.Routing.{route_kinds, TellsNoRouter, router_apart, router_elsewhere, router_untaken, subscribers-kept, routes-kept}
use Rattle.p2p_net_router.specs.Stands.{RoutesNothing}

module _ (log : List Entry) (e : Entry) (n : ℕ) where
  told_nothing : TellsNoRouter log e n → RoutesNothing log e n
  told_nothing none = record { routes_stay = routes-kept log e n none; subscribers_stay = subscribers-kept log e n none }

  -- another act than a step of a router
  pub unrouted_apart : TellsNone log e route_kinds → RoutesNothing log e n
  unrouted_apart apart = told_nothing (router_apart log e n apart)

  -- a step of another one
  pub unrouted_elsewhere : (m : ℕ) → e.event.act ≡ act.Router m → (m == n) ≡ false → RoutesNothing log e n
  unrouted_elsewhere m is away = told_nothing (router_elsewhere log e n m is away)

  -- an entry that takes nothing
  pub unrouted_untaken : taken log e ≡ [] → RoutesNothing log e n
  unrouted_untaken none = told_nothing (router_untaken log e n none)
