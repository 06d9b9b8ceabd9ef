-- A step keeps that the relay of each key is found by its connection: a connection that is ready is no other key's.
use Rattle.std.proofs.Common.{◌≡◌, ℕ, Bool, true, List, ◌++◌, refl, sym, subst, Option, Some, None}
use Rattle.std.specs.List.Sorted.{IsStrictlySortedBy}
use Rattle.std.specs.BTreeMap.{is_at}
use Rattle.std.specs.Map.{keys_of}
use Rattle.p2p_base.specs.declared.key.Key.{Key}
use Rattle.p2p_router.specs.Connections.{IsIndexed, IsOfOnePeer}
use Rattle.p2p_router.specs.Messenger.{message_waiting}
use Rattle.p2p_router.specs.Routes.{Routes}
use Rattle.p2p_router.specs.declared.link.Link.{Link}
use Rattle.p2p_router.specs.declared.message.Message.{Message}
use Rattle.p2p_router.specs.declared.message.Message.TheVariants as message
use Rattle.p2p_log.specs.declared.config.Config.{Config}
use Rattle.p2p_log.specs.declared.entry.Entry.{Entry}
use Rattle.p2p_log_rules.specs.Connections.{is_ended}
use Rattle.p2p_log_rules.specs.Effect.{mailbox_size_at}
use Rattle.p2p_log_rules.proofs.Rising.{IsRising, rising_routes}
use Rattle.p2p_net_router.specs.Ends.{AreEnded}
use Rattle.p2p_net_router.specs.Items.{key_cmp}
use Rattle.p2p_net_router.specs.Sound.{IsSound, IsInTurn, says, said_of}
use Rattle.p2p_net_router.specs.Stands.{StandsFor}
use Rattle.p2p_net_router.specs.declared.router.Router.{Router}
use Rattle.p2p_net_router.proofs.Indexing.{rising_keys, own_key, link_known}
use Rattle.p2p_net_router.proofs.Readying.{own_turn}
use Rattle.p2p_net_router.proofs.Steps.{later_messages, turns_first}

-- the oldest message tells of no connection of another key
of_one_peer :
    (size : ℕ) (ended : ℕ → Bool) (r : Router) (o : Option (Message Key)) → IsSound size r → AreEnded ended r.peers r.actor.links → message_waiting r.messenger ≡ o
    → IsOfOnePeer key_cmp r.actor.links o
of_one_peer size ended r None s e h = tt
of_one_peer size ended r (Some (message.Ready peer relay conn)) s e h =
    λ q l at over.
    let m = message.Ready peer relay conn in
    let turns = turns_first size r m s h in
    let own = own_turn size r.peers r.actor.links peer conn (said_of peer (later_messages r)) (turns peer) in
    let said : List (Option ℕ) = says q m ++ said_of q (later_messages r) in
    let it = link_known size r.peers r.actor.links ended conn peer e own.known q l said at over (subst (λ (x : Option Link). IsInTurn size r.peers q x said) at (turns q)) in
    subst (λ (k : Key). is_at (key_cmp q) k ≡ true) it.0 (own_key q)
of_one_peer size ended r (Some (message.Release peer)) s e h = tt
of_one_peer size ended r (Some (message.Content whom encoded priority)) s e h = tt
of_one_peer size ended r (Some (message.SubscribePeers number)) s e h = tt

-- so a step of a router that stands for the log keeps it
pub indexed_stepped :
    (configs : List Config) (log : List Entry) (r : Router) (actor : Routes Key) → StandsFor configs log r
    → (IsStrictlySortedBy key_cmp (keys_of r.actor.links) → IsIndexed key_cmp r.actor → IsOfOnePeer key_cmp r.actor.links (message_waiting r.messenger) → IsIndexed key_cmp actor)
    → IsIndexed key_cmp actor
indexed_stepped configs log r actor s keeps =
    let n = r.number in
    keeps (rising_keys r.actor.links (subst IsRising (sym s.routes_are) (rising_routes log n))) s.indexed
    (of_one_peer (mailbox_size_at configs n) (is_ended log n) r (message_waiting r.messenger) s.holds.sound s.ended refl)
