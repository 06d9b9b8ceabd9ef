-- What the end of a connection by its own step leaves of its router: its relay was closed with what waited there, and its key released.
use Rattle.std.proofs.Common.{◌≡◌, ℕ, ◌-◌, true, false, cond, List, [], ◌∷◌, ◌++◌, length, drop, refl, ap, sym, subst, ◌∙◌, arith, Option, Some, None}
use Rattle.std.specs.Prelude.{filter, ◌==◌}
use Rattle.std.specs.List.{list_any}
use Rattle.std.specs.BTreeMap.{BTreeMap, get, is_at}
use Rattle.std.specs.Ordering.{nat_cmp}
use Rattle.std.proofs.lemmas.Bool.Decides.{nat_tests}
use Rattle.p2p_base.specs.declared.key.Key.{Key}
use Rattle.p2p_base.specs.Queue.{with_items}
use Rattle.p2p_flow.specs.Lanes.{closed_lanes}
use Rattle.p2p_router.specs.Mailbox.{appended}
use Rattle.p2p_router.specs.Messenger.{Desk, is_bound, in_mailbox}
use Rattle.p2p_router.specs.Routes.{Routes}
use Rattle.p2p_router.specs.Routing.{link_of, with_link}
use Rattle.p2p_router.specs.declared.link.Link.{Link}
use Rattle.p2p_router.specs.declared.message.Message.TheVariants as message
use Rattle.p2p_log.specs.declared.config.Config.{Config}
use Rattle.p2p_log.specs.declared.entry.Entry.{Entry}
use Rattle.p2p_log.specs.declared.queue.Queue.{Queue}
use Rattle.p2p_log.specs.declared.queue.Queue.TheVariants as queue
use Rattle.p2p_log.specs.declared.item.Item.TheVariants as item
use Rattle.p2p_log.specs.declared.item.Envelope.{Envelope}
use Rattle.p2p_log.specs.QueueCode.{same_queue}
use Rattle.p2p_log.specs.Lines.{stands_in}
use Rattle.p2p_log.specs.Apart.{AreApart}
use Rattle.p2p_log_rules.specs.Effect.{mailbox_size_at}
use Rattle.p2p_net_queues.specs.declared.board.Board.{Board}
use Rattle.p2p_net_queues.specs.Board.{held}
use Rattle.p2p_net_router.specs.Batches.{all_of, AreKept}
use Rattle.p2p_net_router.specs.Ends.{AreEnded, closed_link, IsIdle, tells_ready}
use Rattle.p2p_net_router.specs.Holds.{Holds, routes_in}
use Rattle.p2p_net_router.specs.Items.{key_cmp}
use Rattle.p2p_net_router.specs.Stands.{StandsOver, IsEnding}
use Rattle.p2p_net_router.specs.declared.router.Router.{Router}
use Rattle.p2p_net_router.specs.declared.name.Name.{Name}
use Rattle.p2p_net_router.proofs.AtEnd.{released_over}
use Rattle.p2p_net_router.proofs.Batched.{over_kept}
use Rattle.p2p_net_router.proofs.Batches.{left}
use Rattle.p2p_net_router.proofs.Beside.{moved_to}
use Rattle.p2p_net_router.proofs.Closing.{LacksPeer}
use Rattle.p2p_net_router.proofs.Copying.{ends_set}
use Rattle.p2p_net_router.proofs.Emptied.{whole, none_high, none_low, all_beside}
use Rattle.p2p_net_router.proofs.Linking.{link_of-with_link, routes_in-with_link}
use Rattle.p2p_net_router.proofs.Taken.{relinked, IsKept}
use Rattle.p2p_net_router.proofs.Written.{cut, less, set_twice, Holds-written}

same_key : (k : Key) → (k.0 == k.0) ≡ true
same_key k = grind (arith, nat_tests)

-- the link of a key, once it was replaced
own_link : (links : List (Key × Link)) (key : Key) (l new : Link) → link_of key_cmp links key ≡ Some l → link_of key_cmp (with_link key_cmp links key new) key ≡ Some new
own_link links key l new at = link_of-with_link links key key l new at ∙ ap (λ b. cond b (Some new) (link_of key_cmp links key)) (same_key key)

-- the link once so many were taken of its relay
abbrev pub less_link : ℕ → Link → Link
less_link i l = record { conn = l.conn; relay = less i l.relay }

-- nothing else of the router changed with that
pub AreKept-written :
    (size : ℕ) (r : Router) (conn i : ℕ) (key : Key) (l : Link) (names : Board Name) → IsKept size r conn key l → AreKept r (relinked r (with_link key_cmp r.actor.links key (less_link i l)) names)
AreKept-written size r conn i key l names k =
    let links = r.actor.links in
    let one = cut i l true in
    let few = i - length l.relay.high.items in
    record {
      number = refl;
      messenger = refl;
      channels = refl;
      peers = refl;
      numbers = refl;
      subscriptions = refl;
      routes = routes_in-with_link links key l (less_link i l) k.link refl;
      ended = λ f h.
          subst (λ (ls : List (Key × Link)). AreEnded f r.peers ls) (set_twice (is_at (key_cmp key)) links one (cut few one false))
          (ends_set f r.peers (with_link key_cmp links key one) key one false (with_items l.relay.low (drop few l.relay.low.items)) (own_link links key l one k.link) refl
          (ends_set f r.peers links key l true (with_items l.relay.high (drop i l.relay.high.items)) k.link refl h));
      works = refl;
      owners = refl;
    }

pub ended_over :
    (configs : List Config) (log : List Entry) (e : Entry) (r : Router) (desk : Desk Key) (actor : Routes Key) (peers : BTreeMap ℕ Key) (high both names : Board Name)
    (entry place conn : ℕ) (key : Key) (l : Link) (items : List Envelope)
    → StandsOver configs log r items → AreApart items → IsKept (mailbox_size_at configs r.number) r conn key l
    → list_any (tells_ready conn) (filter (stands_in (queue.Router r.number)) items) ≡ false
    → IsEnding configs log e r.number conn key → is_bound r.messenger.binding ≡ true
    → actor ≡ record r.actor { links = with_link key_cmp r.actor.links key (record { conn = l.conn; relay = closed_lanes l.relay }) }
    → desk ≡ record r.messenger { binding = in_mailbox (λ q. appended q (message.Release key)) r.messenger.binding } → LacksPeer r.peers peers conn
    → ((q : Queue) → held high q ≡ cond (same_queue (queue.High r.number conn) q) (drop (length (all_of r.number conn items)) (held r.names q)) (held r.names q))
    → ((q : Queue) → held both q ≡ cond (same_queue (queue.Low r.number conn) q) (drop (length (all_of r.number conn items) - length (held r.names (queue.High r.number conn))) (held high q)) (held high q))
    → ((q : Queue) → held names q ≡ held both q ++ cond (same_queue (queue.Router r.number) q) (record { entry = entry; place = place; tag = None } ∷ []) [])
    → StandsOver configs (log ++ e ∷ []) (moved_to r desk actor peers names)
    (left (all_of r.number conn items) items ++ record { entry = entry; place = place; queue = queue.Router r.number; item = item.Release key } ∷ [])
ended_over configs log e r desk actor peers high both names entry place conn key l items s apart k routed g up actor_is desk_is gone first then named =
    let n = r.number in
    let size = mailbox_size_at configs n in
    let all = all_of n conn items in
    let i = length all in
    let links = r.actor.links in
    let m = relinked r (with_link key_cmp links key (less_link i l)) both in
    let rest = left all items in
    let holds : Holds size m rest =
    subst (λ xs. Holds size m (left xs items)) (whole all)
    (Holds-written size r conn i key l (with_link key_cmp links key (less_link i l)) high both items s.holds apart k refl first then)
    in
    let over : StandsOver configs log m rest = over_kept configs log r m items rest s (AreKept-written size r conn i key l both k) holds in
    let idle : IsIdle m rest conn key = record {
      known = subst (λ c. get nat_cmp r.peers c ≡ Some key) k.conn_is k.known;
      high = none_high n conn items apart;
      low = none_low n conn items apart;
      routed = ap (list_any (tells_ready conn)) (all_beside n conn items (queue.Router n) apart refl refl) ∙ routed;
    }
    in
    let closed : Link = record { conn = l.conn; relay = closed_lanes l.relay } in
    let now : actor ≡ record m.actor { links = closed_link (link_of key_cmp m.actor.links key) m.actor.links key } =
    actor_is
    ∙ (ap (λ (ls : List (Key × Link)). record r.actor { links = ls }) (sym (set_twice (is_at (key_cmp key)) links (less_link i l) closed))
    ∙ ap (λ (o : Option Link). record r.actor { links = closed_link o m.actor.links key }) (sym (own_link links key l (less_link i l) k.link)))
    in
    released_over configs log e m desk actor peers names entry place conn key rest over idle g up now desk_is gone named
