-- A router before its start: with nothing, and with one more channel that wants lists of peers.
use Rattle.std.proofs.Common.{◌≡◌, ℕ, zero, suc, ◌+◌, ◌<◌, Bool, true, false, cond, eqb-true, List, [], ◌∷◌, ◌++◌, length, length-append, refl, ap, sym, subst, ◌∙◌, arith, append_assoc, append-nil, Option, Some, None}
use Rattle.std.specs.Prelude.{filter, flat_map, map, slice_get, ◌==◌, ◌||◌}
use Rattle.std.specs.List.{AllByRecursion, list_any}
use Rattle.std.specs.BTreeMap.{get}
use Rattle.std.specs.Ordering.{nat_cmp, is_eq}
use Rattle.std.proofs.lemmas.Bool.Decides.{nat_tests}
use Rattle.std.proofs.lemmas.Bool.{false≢true}
use Rattle.std.proofs.lemmas.List.{map-append}
use Rattle.p2p_base.specs.declared.key.Key.{Key}
use Rattle.p2p_base.specs.Queue.{Queue as Waiting, empty_queue}
use Rattle.p2p_router.specs.Routes.{Routes, new_routes}
use Rattle.p2p_router.specs.Routing.{link_of}
use Rattle.p2p_router.specs.Messenger.{Desk, new_desk, subscribed, is_unbound, is_bound}
use Rattle.p2p_router.specs.declared.messenger.Binding.TheVariants.{Unbound}
use Rattle.p2p_log.specs.declared.config.Config.{Config}
use Rattle.p2p_log.specs.declared.entry.Entry.{Entry}
use Rattle.p2p_log.specs.declared.event.Act.TheVariants as act
use Rattle.p2p_log.specs.declared.queue.Queue.{Queue}
use Rattle.p2p_log.specs.declared.queue.Queue.TheVariants as queue
use Rattle.p2p_log.specs.declared.item.Item.TheVariants as item
use Rattle.p2p_log.specs.Lines.{live_from, live, ended_item, stays, placed}
use Rattle.p2p_log_rules.specs.Facts.{turns, is_stopped, capacity_for, with_capacity, registers_at, rates, channels, state_from, capacity_in, subscribers, routes}
use Rattle.p2p_log_rules.specs.Effect.{mailbox_size_at, router_capacity}
use Rattle.p2p_log_rules.specs.Told.{told}
use Rattle.p2p_log_rules.proofs.Channels.{channels-append, is_up-kept, is_up-none}
use Rattle.p2p_log_rules.proofs.Families.{kinds_of, are_apart}
use Rattle.p2p_log_rules.proofs.Routing.{route_kinds}
use Rattle.p2p_log.proofs.Lines.{live-append, filter_stays-nil}
use Rattle.p2p_net_queues.specs.Board.{held}
use Rattle.p2p_net_router.specs.Items.{key_cmp, lists_in, message_item, messages_in, frame_item, frames_in, link_to, items_of, channel_of}
use Rattle.p2p_net_router.specs.Sound.{IsSound, IsRing, IsProper, IsAwaited, IsInTurn, IsNumber, AreDistinct, said_of, subscription_in, numbers_from}
use Rattle.p2p_net_router.specs.Holds.{Holds, routes_in}
use Rattle.p2p_net_router.specs.Stands.{RoutesNothing, StandsFor, HasPlaces, IsRegistration}
use Rattle.p2p_net_router.specs.declared.router.Router.{Router}
use Rattle.p2p_net_router.proofs.Endings.{ends_untold, ended_beside}
use Rattle.p2p_net_router.proofs.Indexing.{none_indexed}
use Rattle.p2p_net_router.proofs.Started.{is_none}
use Rattle.p2p_net_router.proofs.Unrouted.{unrouted_apart}

-- ---- nothing

-- a router that was just made
pub record IsFresh (r : Router) : Type 0 where
  pub messenger : r.messenger ≡ new_desk
  pub actor : r.actor ≡ new_routes
  pub channels : r.channels.items ≡ []
  pub subscriptions : (c : ℕ) → get nat_cmp r.subscriptions c ≡ None
  pub peers : (conn : ℕ) → get nat_cmp r.peers conn ≡ None
  pub names : (q : Queue) → held r.names q ≡ []

no_items : (r : Router) → IsFresh r → (q : Queue) → items_of r q ≡ []
no_items r h (queue.Router n) = ap (λ (d : Desk Key). map (message_item r.channels.items) (messages_in d.binding)) h.messenger
no_items r h (queue.Peers n c) = ap (λ l. map item.Peers (lists_in l r.messenger.lists c)) h.channels
no_items r h (queue.High n c) = ap (λ o. map frame_item (frames_in true (link_to r.actor.links c o))) (h.peers c)
no_items r h (queue.Low n c) = ap (λ o. map frame_item (frames_in false (link_to r.actor.links c o))) (h.peers c)
no_items r h _ = refl

sound_fresh : (size : ℕ) (r : Router) → IsFresh r → IsSound size r
sound_fresh size r h = record {
  proper = subst (λ (d : Desk Key). AllByRecursion (IsProper size) (messages_in d.binding)) (sym h.messenger) tt;
  turns = λ k.
      subst (λ (x : Routes Key). IsInTurn size r.peers k (link_of key_cmp x.links k) (said_of k (messages_in r.messenger.binding))) (sym h.actor)
      (subst (λ (d : Desk Key). IsAwaited r.peers k (said_of k (messages_in d.binding))) (sym h.messenger) (λ c at. let e : None ≡ Some k = sym (h.peers c) ∙ at in absurd (cc)));
  single = λ k c d a b. absurd (let e : None ≡ Some k = sym (h.peers c) ∙ a in cc);
  early = λ e. ap (λ (x : Routes Key). x.subscriptions) h.actor;
  subscriptions = ap (λ (x : Routes Key). x.subscriptions ++ (flat_map subscription_in (messages_in r.messenger.binding) ++ r.messenger.waiting)) h.actor
      ∙ (ap (λ (d : Desk Key). flat_map subscription_in (messages_in d.binding) ++ d.waiting) h.messenger
      ∙ sym (ap (λ (d : Desk Key). numbers_from 0 (length d.lists)) h.messenger));
  rings = subst (λ (d : Desk Key). AllByRecursion IsRing d.lists) (sym h.messenger) tt;
  channels = ap length h.channels ∙ sym (ap (λ (d : Desk Key). length d.lists) h.messenger);
  distinct = subst AreDistinct (sym h.channels) tt;
  numbered = λ c. subst (IsNumber r.channels.items c) (sym (h.subscriptions c)) (ap (list_any (λ d. d == c)) h.channels);
}

pub fresh_stands : (configs : List Config) (r : Router) → IsFresh r → StandsFor configs [] r
unfolding live_from rates channels told state_from subscribers routes
fresh_stands configs r h = record {
  holds = record {
    sound = sound_fresh (mailbox_size_at configs r.number) r h;
    names = λ q own. h.names q;
    each = λ q own. no_items r h q;
  };
  routes_are = ap (λ (x : Routes Key). routes_in x.links) h.actor;
  told = ap (λ (x : Routes Key). map (channel_of r.channels.items) x.subscriptions) h.actor;
  registered = h.channels;
  bound = ap (λ (d : Desk Key). is_bound d.binding) h.messenger ∙ sym (is_up-none r.number);
  places = subst (λ (d : Desk Key). HasPlaces (router_capacity configs [] r.number) d.binding) (sym h.messenger) tt;
  ended = record {
    relays = λ k l at. absurd (let e : None ≡ Some l = sym (ap (λ (x : Routes Key). link_of key_cmp x.links k) h.actor) ∙ at in cc);
    known = λ c k at. absurd (let e : None ≡ Some k = sym (h.peers c) ∙ at in cc);
  };
  works = ap (λ (x : Routes Key). x.failed) h.actor;
  indexed = none_indexed r.actor h.actor;
}

-- ---- one more channel

all_more : (ls : List (Waiting (List Key))) → AllByRecursion IsRing ls → AllByRecursion IsRing (ls ++ empty_queue 1 ∷ [])
all_more [] h = (record { one = refl; within = omega arith; unclosed = refl }, tt)
all_more (l ∷ ls) h = (h.0, all_more ls h.1)

any_more : (p : ℕ → Bool) (d : ℕ) (cs : List ℕ) → list_any p cs ≡ false → p d ≡ false → list_any p (cs ++ d ∷ []) ≡ false
any_more p d [] h e = ap (λ b. b || false) e
any_more p d (x ∷ xs) h e =
    (elim (p x) as (λ b. (b || list_any p xs) ≡ false → (b || list_any p (xs ++ d ∷ [])) ≡ false) [
      | true ↦ λ k. absurd (false≢true (sym k))
      | false ↦ λ k. any_more p d xs k e
    ]) h

turned : (c d : ℕ) → (c == d) ≡ (d == c)
turned c d = grind (arith, nat_tests)

first_other : (d c : ℕ) (cs : List ℕ) → list_any (λ e. d == e) (c ∷ cs) ≡ false → (d == c) ≡ false × (list_any (λ e. d == e) cs ≡ false)
first_other d c cs h =
    (elim (d == c) as (λ b. (b || list_any (λ e. d == e) cs) ≡ false → b ≡ false × (list_any (λ e. d == e) cs ≡ false)) [
      | true ↦ λ k. absurd (false≢true (sym k))
      | false ↦ λ k. (refl, k)
    ]) h

distinct_more : (d : ℕ) (cs : List ℕ) → AreDistinct cs → list_any (λ e. d == e) cs ≡ false → AreDistinct (cs ++ d ∷ [])
distinct_more d [] h e = (refl, tt)
distinct_more d (c ∷ cs) h e =
    let f = first_other d c cs e in
    (any_more (λ e. c == e) d cs h.0 (turned c d ∙ f.0), distinct_more d cs h.1 f.1)

numbers_more : (a k : ℕ) → numbers_from a k ++ (a + k) ∷ [] ≡ numbers_from a (suc k)
numbers_more a zero = ap (λ n. n ∷ []) (let e : a + 0 ≡ a = omega arith in e)
numbers_more a (suc k) = ap (λ l. a ∷ l) (ap (λ n. numbers_from (suc a) k ++ n ∷ []) (let e : a + suc k ≡ suc a + k = omega arith in e) ∙ numbers_more (suc a) k)

numbered : (k : ℕ) → numbers_from 0 k ++ k ∷ [] ≡ numbers_from 0 (suc k)
numbered k = ap (λ n. numbers_from 0 k ++ n ∷ []) (let e : k ≡ 0 + k = omega arith in e) ∙ numbers_more 0 k

-- no list waits for a channel that is new, and the others are as before
lists_more :
    (cs : List ℕ) (ls : List (Waiting (List Key))) (d c : ℕ) → length cs ≡ length ls → lists_in (cs ++ d ∷ []) (ls ++ empty_queue 1 ∷ []) c ≡ lists_in cs ls c
lists_more [] [] d c h = elim (d == c) as (λ b. cond {A = List (List Key)} b [] [] ≡ []) [ true ↦ refl | false ↦ refl ]
lists_more [] (l ∷ ls) d c h = absurd (omega (arith, h))
lists_more (k ∷ ks) [] d c h = absurd (omega (arith, h))
lists_more (k ∷ ks) (l ∷ ls) d c h = ap (λ x. cond (k == c) l.items x) (lists_more ks ls d c (omega (arith, h)))

-- ---- the numbers of subscriptions

channel_front : (cs : List ℕ) (d s : ℕ) → s < length cs → channel_of (cs ++ d ∷ []) s ≡ channel_of cs s
channel_front [] d s lt = absurd (omega arith)
channel_front (c ∷ cs) d zero lt = refl
channel_front (c ∷ cs) d (suc s) lt = channel_front cs d s (omega arith)

channel_last : (cs : List ℕ) (d : ℕ) → channel_of (cs ++ d ∷ []) (length cs) ≡ d
channel_last [] d = refl
channel_last (c ∷ cs) d = channel_last cs d

is_channel : (d c : ℕ) → is_eq (nat_cmp d c) ≡ (d == c)
is_channel d c = grind (arith, nat_tests)

-- another channel has the number that it had
number_kept : (cs : List ℕ) (d c : ℕ) (o : Option ℕ) → (d == c) ≡ false → IsNumber cs c o → IsNumber (cs ++ d ∷ []) c o
number_kept cs d c None other h = any_more (λ e. e == c) d cs h other
number_kept cs d c (Some s) other h =
    let long : length (cs ++ d ∷ []) ≡ length cs + 1 = length-append cs (d ∷ []) in
    let lt = h.0 in
    (omega (arith, long, lt), channel_front cs d s lt ∙ h.1)

-- and the new one is numbered last
number_more :
    (cs : List ℕ) (d c n : ℕ) (o new : Option ℕ) → n ≡ length cs → new ≡ cond (is_eq (nat_cmp d c)) (Some n) o → IsNumber cs c o → IsNumber (cs ++ d ∷ []) c new
number_more cs d c n o new last is h =
    subst (IsNumber (cs ++ d ∷ []) c) (sym (is ∙ ap (λ b. cond b (Some n) o) (is_channel d c)))
    ((elim (d == c) as (λ b. (d == c) ≡ b → IsNumber (cs ++ d ∷ []) c (cond b (Some n) o)) [
      | true ↦ λ e.
          let long : length (cs ++ d ∷ []) ≡ length cs + 1 = length-append cs (d ∷ []) in
          (omega (arith, long, last), ap (channel_of (cs ++ d ∷ [])) last ∙ (channel_last cs d ∙ eqb-true d c e))
      | false ↦ λ e. number_kept cs d c o e h
    ]) refl)

-- ---- a router with one more channel

-- a channel that isn't registered is none of the channels
none_registered : (cs : List (ℕ × ℕ)) (d : ℕ) → capacity_in cs d ≡ None → list_any (λ e. d == e) (map (λ (c : ℕ × ℕ). c.0) cs) ≡ false
none_registered [] d h = refl
none_registered (c ∷ cs) d h =
    (elim (d == c.0) as (λ b. cond b (Some c.1) (capacity_in cs d) ≡ None → (b || list_any (λ e. d == e) (map (λ (x : ℕ × ℕ). x.0) cs)) ≡ false) [
      | true ↦ λ k. cc
      | false ↦ λ k. none_registered cs d k
    ]) h

-- what a registration makes of a router
pub record IsSubscribed (r new : Router) (d : ℕ) : Type 0 where
  pub unbound : r.messenger.binding ≡ Unbound
  pub desk : new.messenger ≡ record { binding = Unbound; waiting = r.messenger.waiting ++ length r.messenger.lists ∷ []; lists = r.messenger.lists ++ empty_queue 1 ∷ [] }
  pub more : new.channels.items ≡ r.channels.items ++ d ∷ []
  pub numbers : (c : ℕ) → get nat_cmp new.subscriptions c ≡ cond (is_eq (nat_cmp d c)) (Some (length r.messenger.lists)) (get nat_cmp r.subscriptions c)
  pub rest : new ≡ record r { messenger = new.messenger; channels = new.channels; subscriptions = new.subscriptions }

subscribed_now :
    (m : Desk Key) → m.binding ≡ Unbound
    → subscribed m ≡ record { binding = Unbound; waiting = m.waiting ++ length m.lists ∷ []; lists = m.lists ++ empty_queue 1 ∷ [] }
subscribed_now m none = ap (λ (d : Desk Key). subscribed d) (ap (λ b. record { binding = b; waiting = m.waiting; lists = m.lists }) none)

sound_more : (size : ℕ) (r new : Router) (d : ℕ) → IsSound size r → IsSubscribed r new d → list_any (λ e. d == e) r.channels.items ≡ false → IsSound size (record r { messenger = new.messenger; channels = new.channels; subscriptions = new.subscriptions })
sound_more size r new d s h apart =
    let binding : new.messenger.binding ≡ Unbound = ap (λ (m : Desk Key). m.binding) h.desk in
    let lists : new.messenger.lists ≡ r.messenger.lists ++ empty_queue 1 ∷ [] = ap (λ (m : Desk Key). m.lists) h.desk in
    let waiting : new.messenger.waiting ≡ r.messenger.waiting ++ length r.messenger.lists ∷ [] = ap (λ (m : Desk Key). m.waiting) h.desk in
    let long : length new.messenger.lists ≡ suc (length r.messenger.lists) =
    ap length lists ∙ (length-append r.messenger.lists (empty_queue 1 ∷ []) ∙ (let e : length r.messenger.lists + 1 ≡ suc (length r.messenger.lists) = omega arith in e))
    in
    let old : r.actor.subscriptions ++ r.messenger.waiting ≡ numbers_from 0 (length r.messenger.lists) =
    ap (λ b. r.actor.subscriptions ++ (flat_map subscription_in (messages_in b) ++ r.messenger.waiting)) (sym h.unbound) ∙ s.subscriptions
    in
    record {
      proper = subst (λ b. AllByRecursion (IsProper size) (messages_in b)) (sym binding) tt;
      turns = λ k. subst (λ b. IsInTurn size r.peers k (link_of key_cmp r.actor.links k) (said_of k (messages_in b))) (h.unbound ∙ sym binding) (s.turns k);
      single = s.single;
      early = λ e. s.early (ap is_bound h.unbound);
      subscriptions = ap (λ b. r.actor.subscriptions ++ (flat_map subscription_in (messages_in b) ++ new.messenger.waiting)) binding
          ∙ (ap (λ w. r.actor.subscriptions ++ w) waiting
          ∙ (sym (append_assoc r.actor.subscriptions r.messenger.waiting (length r.messenger.lists ∷ []))
          ∙ (ap (λ l. l ++ length r.messenger.lists ∷ []) old ∙ (numbered (length r.messenger.lists) ∙ ap (numbers_from 0) (sym long)))));
      rings = subst (AllByRecursion IsRing) (sym lists) (all_more r.messenger.lists s.rings);
      channels = ap length h.more ∙ (length-append r.channels.items (d ∷ []) ∙ (ap (λ k. k + 1) s.channels ∙ (let e : length r.messenger.lists + 1 ≡ suc (length r.messenger.lists) = omega arith in e) ∙ sym long));
      distinct = subst AreDistinct (sym h.more) (distinct_more d r.channels.items s.distinct apart);
      numbered = λ c.
          subst (λ l. IsNumber l c (get nat_cmp new.subscriptions c)) (sym h.more)
          (number_more r.channels.items d c (length r.messenger.lists) (get nat_cmp r.subscriptions c) (get nat_cmp new.subscriptions c) (sym s.channels) (h.numbers c) (s.numbered c));
    }

items_same : (size : ℕ) (r new : Router) (d : ℕ) → IsSound size r → IsSubscribed r new d → (q : Queue) → items_of (record r { messenger = new.messenger; channels = new.channels; subscriptions = new.subscriptions }) q ≡ items_of r q
items_same size r new d s h (queue.Router n) =
    ap (λ b. map (message_item new.channels.items) (messages_in b)) (ap (λ (m : Desk Key). m.binding) h.desk)
    ∙ sym (ap (λ b. map (message_item r.channels.items) (messages_in b)) h.unbound)
items_same size r new d s h (queue.Peers n c) =
    ap (map item.Peers)
    (ap (λ l. lists_in l new.messenger.lists c) h.more
    ∙ (ap (λ l. lists_in (r.channels.items ++ d ∷ []) l c) (ap (λ (m : Desk Key). m.lists) h.desk) ∙ lists_more r.channels.items r.messenger.lists d c s.channels))
items_same size r new d s h _ = refl

same_number : (n : ℕ) → (n == n) ≡ true
same_number n = grind (arith, nat_tests)

pub subscribed_stands :
    (configs : List Config) (log : List Entry) (e : Entry) (r new : Router) (d : ℕ)
    → StandsFor configs log r → is_stopped log r.number ≡ false → IsRegistration e r.number d → IsSubscribed r new d → capacity_in (channels configs log r.number) d ≡ None
    → StandsFor configs (log ++ e ∷ []) new
subscribed_stands configs log e r new d s runs g h absent =
    let n = r.number in
    let size = mailbox_size_at configs n in
    let whole : Router = record r { messenger = new.messenger; channels = new.channels; subscriptions = new.subscriptions } in
    let apart = ap (list_any (λ x. d == x)) s.registered ∙ none_registered (channels configs log n) d absent in
    let kept : live (log ++ e ∷ []) ≡ live log =
    live-append log e
    ∙ (ap (λ t. filter (stays (t ++ flat_map ended_item e.ends)) (live log) ++ placed (length log) 0 e.puts) g.takes
    ∙ (ap (λ x. filter (stays (flat_map ended_item x)) (live log) ++ placed (length log) 0 e.puts) g.ends
    ∙ (ap (λ p. filter (stays []) (live log) ++ placed (length log) 0 p) g.puts ∙ (append-nil (filter (stays []) (live log)) ∙ filter_stays-nil (live log)))))
    in
    let quiet : RoutesNothing log e n = unrouted_apart log e n (ap (λ a. are_apart (kinds_of a) route_kinds) g.is) in
    let here : registers_at configs n e.event.act ≡ (d, capacity_for (slice_get configs n) g.rate) ∷ [] =
    ap (registers_at configs n) g.is ∙ ap (λ b. map (with_capacity configs n) (cond b ((d, g.rate) ∷ []) [])) (same_number n)
    in
    let channels_now : channels configs (log ++ e ∷ []) n ≡ channels configs log n ++ (d, capacity_for (slice_get configs n) g.rate) ∷ [] =
    channels-append configs log e n runs ∙ ap (λ l. channels configs log n ++ l) here
    in
    let early = s.holds.sound.early (ap is_bound h.unbound) in
    subst (StandsFor configs (log ++ e ∷ [])) (sym h.rest)
    (record {
      holds = subst (Holds size whole) (sym kept) (record {
        sound = sound_more size r new d s.holds.sound h apart;
        names = s.holds.names;
        each = λ q own. items_same size r new d s.holds.sound h q ∙ s.holds.each q own;
      });
      routes_are = s.routes_are ∙ sym quiet.routes_stay;
      told = ap (map (channel_of new.channels.items)) early
          ∙ (sym (ap (map (channel_of r.channels.items)) early)
          ∙ (s.told ∙ sym quiet.subscribers_stay));
      registered = h.more
          ∙ (ap (λ l. l ++ d ∷ []) s.registered
          ∙ (sym (map-append (λ (c : ℕ × ℕ). c.0) (channels configs log n) ((d, capacity_for (slice_get configs n) g.rate) ∷ [])) ∙ ap (map (λ (c : ℕ × ℕ). c.0)) (sym channels_now)));
      bound = ap (λ (m : Desk Key). is_bound m.binding) h.desk
          ∙ (sym (ap is_bound h.unbound)
          ∙ (s.bound ∙ sym (is_up-kept log e n (ap (turns n) g.is))));
      places = subst (λ (m : Desk Key). HasPlaces (router_capacity configs (log ++ e ∷ []) n) m.binding) (sym h.desk) tt;
      ended = ended_beside log e n r.peers r.actor.links (λ conn. ends_untold log e n conn (act.Register d n g.rate) g.is refl) s.ended;
      works = s.works;
      indexed = s.indexed;
    })

pub is_subscribed :
    (r new : Router) (d : ℕ) → is_unbound r.messenger.binding ≡ true → new.messenger ≡ subscribed r.messenger → new.channels.items ≡ r.channels.items ++ d ∷ []
    → ((c : ℕ) → get nat_cmp new.subscriptions c ≡ cond (is_eq (nat_cmp d c)) (Some (length r.messenger.lists)) (get nat_cmp r.subscriptions c))
    → new ≡ record r { messenger = new.messenger; channels = new.channels; subscriptions = new.subscriptions } → IsSubscribed r new d
is_subscribed r new d unbound desk more numbers rest =
    let none = is_none r.messenger.binding unbound in
    record { unbound = none; desk = desk ∙ subscribed_now r.messenger none; more = more; numbers = numbers; rest = rest }
