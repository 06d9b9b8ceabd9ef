-- The peers that a router has, by the log that it stands for.
use Rattle.std.proofs.Common.{◌≡◌, ℕ, false, cond, List, [], ◌∷◌, ◌++◌, length, refl, ap, sym, ◌∙◌, Option, Some, None}
use Rattle.std.specs.Prelude.{flat_map, nat_lt, ◌==◌}
use Rattle.std.specs.List.{list_any}
use Rattle.std.specs.BTreeMap.{get}
use Rattle.std.specs.Map.{keys_of}
use Rattle.std.specs.Ordering.{nat_cmp}
use Rattle.p2p_base.specs.declared.key.Key.{Key}
use Rattle.p2p_router.specs.declared.link.Link.{Link}
use Rattle.p2p_log.specs.declared.config.Config.{Config}
use Rattle.p2p_log.specs.declared.entry.Entry.{Entry}
use Rattle.p2p_log_rules.specs.Facts.{subscribers, routes, keys_in}
use Rattle.p2p_net_router.specs.Items.{messages_in}
use Rattle.p2p_net_router.specs.Resting.{RouterRests}
use Rattle.p2p_net_router.specs.Sound.{AreDistinct, IsNumber, numbers_from, subscription_in}
use Rattle.p2p_net_router.specs.Holds.{channels_told, routes_in}
use Rattle.p2p_net_router.specs.Peers.{peers_by, peers_known}
use Rattle.p2p_net_router.specs.Stands.{StandsFor}
use Rattle.p2p_net_router.specs.declared.router.Router.{Router}
use Rattle.p2p_net_router.proofs.Numbers.{told_known}

keys_routed : (links : List (Key × Link)) → keys_of links ≡ keys_in (routes_in links)
keys_routed [] = refl
keys_routed (e ∷ es) = ap (λ l. e.0 ∷ l) (keys_routed es)

by_place : (r : Router) (o : Option ℕ) → peers_by r o ≡ cond (elim o [ None ↦ false | Some s ↦ nat_lt s (length r.actor.subscriptions) ]) (keys_of r.actor.links) []
by_place r None = refl
by_place r (Some s) = refl

-- the keys of its routes, where the channel's subscription is one of those that it took, which are the first
known_by :
    (r : Router) (c : ℕ) (later told : List ℕ) (by : List (ℕ × ℕ))
    → AreDistinct r.channels.items → r.actor.subscriptions ++ later ≡ numbers_from 0 (length r.channels.items) → IsNumber r.channels.items c (get nat_cmp r.subscriptions c)
    → channels_told r ≡ told → routes_in r.actor.links ≡ by → peers_known r c ≡ cond (list_any (λ d. d == c) told) (keys_in by) []
known_by r c later told by distinct first numbered told_is routes_are =
    let o = get nat_cmp r.subscriptions c in
    by_place r o
    ∙ (ap (λ b. cond b (keys_of r.actor.links) [])
    (sym (told_known r.channels.items r.actor.subscriptions later c o distinct first numbered) ∙ ap (list_any (λ d. d == c)) told_is)
    ∙ ap (λ l. cond (list_any (λ d. d == c) told) l []) (keys_routed r.actor.links ∙ ap keys_in routes_are))

-- where it was told that the channel wants lists
pub peers_known_are :
    (configs : List Config) (log : List Entry) (r : Router) (c : ℕ)
    → StandsFor configs log r → peers_known r c ≡ cond (list_any (λ d. d == c) (subscribers log r.number)) (keys_in (routes log r.number)) []
peers_known_are configs log r c s =
    let sound = s.holds.sound in
    known_by r c (flat_map subscription_in (messages_in r.messenger.binding) ++ r.messenger.waiting) (subscribers log r.number) (routes log r.number) sound.distinct
    (sound.subscriptions ∙ ap (numbers_from 0) (sym sound.channels)) (sound.numbered c) s.told s.routes_are

-- and once it is closed
pub peers_known_rest :
    (configs : List Config) (log : List Entry) (n : ℕ) (r : Router) (c : ℕ)
    → RouterRests configs log n r → peers_known r c ≡ cond (list_any (λ d. d == c) (subscribers log n)) (keys_in (routes log n)) []
peers_known_rest configs log n r c h = known_by r c h.later (subscribers log n) (routes log n) h.listing.distinct h.taken (h.listing.numbered c) h.told h.routes_are
