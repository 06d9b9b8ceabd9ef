-- The list of peers that waits for a channel, taken.
use Rattle.std.proofs.Common.{◌≡◌, ℕ, ◌<◌, Bool, true, false, cond, eqb-true, List, [], ◌∷◌, length, take, drop, refl, ap, sym, subst, ◌∙◌, arith, Option, Some, None}
use Rattle.std.specs.Prelude.{filter, map, slice_get, slice_set, slice_index_or, ◌==◌}
use Rattle.std.specs.List.{AllByRecursion}
use Rattle.std.specs.BTreeMap.{get}
use Rattle.std.specs.Ordering.{nat_cmp}
use Rattle.std.proofs.Math.ListN.{length-set}
use Rattle.std.proofs.lemmas.Bool.Decides.{nat_tests}
use Rattle.std.proofs.lemmas.Bool.{false≢true}
use Rattle.p2p_base.specs.Queue.{Queue as Waiting, without_oldest, empty_queue}
use Rattle.p2p_base.specs.declared.key.Key.{Key}
use Rattle.p2p_router.specs.Messenger.{lists_of, list_waiting}
use Rattle.p2p_log.specs.declared.config.Config.{Config}
use Rattle.p2p_log.specs.declared.entry.Entry.{Entry}
use Rattle.p2p_log.specs.declared.queue.Queue.{Queue}
use Rattle.p2p_log.specs.declared.queue.Queue.TheVariants as queue
use Rattle.p2p_log.specs.declared.item.Item.TheVariants as item
use Rattle.p2p_log.specs.declared.item.Envelope.{Envelope}
use Rattle.p2p_log.specs.QueueCode.{same_queue}
use Rattle.p2p_log.specs.Lines.{name_of, stays, stands_in}
use Rattle.p2p_log.proofs.Lines.{filter_stays-nil}
use Rattle.p2p_log.specs.Apart.{AreApart}
use Rattle.p2p_log_rules.specs.Effect.{mailbox_size_at}
use Rattle.p2p_net_queues.specs.declared.board.Board.{Board}
use Rattle.p2p_net_queues.specs.Board.{held}
use Rattle.p2p_net_router.specs.Names.{Agrees, label, bare_item}
use Rattle.p2p_net_router.specs.Items.{channel_of, lists_in, items_of}
use Rattle.p2p_net_router.specs.Resting.{IsListing}
use Rattle.p2p_net_router.specs.Sound.{IsRing, IsNumber, numbers_from}
use Rattle.p2p_net_router.specs.Holds.{Holds}
use Rattle.p2p_net_router.specs.Peers.{names_taken}
use Rattle.p2p_net_router.specs.Stands.{StandsOver}
use Rattle.p2p_net_router.specs.declared.router.Router.{Router}
use Rattle.p2p_net_router.specs.declared.name.Name.{Name}
use Rattle.p2p_net_router.proofs.Agreeing.{popped_at, idle_at}
use Rattle.p2p_net_router.proofs.Batches.{line_beside}
use Rattle.p2p_net_router.proofs.Building.{own_peers}
use Rattle.p2p_net_router.proofs.First.{IsFirst, first_same, none_same, first_of, none_of}
use Rattle.p2p_net_router.proofs.Over.{over_rebound}
use Rattle.p2p_net_router.proofs.Resting.{listing_of}
use Rattle.p2p_net_router.proofs.Rings.{AllByRecursion-at, AllByRecursion-set, IsRing-popped, lists_in-at, lists_in-none, lists_in-set}

-- the router with other lists and other names
abbrev pub relisted : Router → List (Waiting (List Key)) → Board Name → Router
relisted r lists names = record r { messenger = record r.messenger { lists = lists }; names = names }

-- the lists without the one that waits for a subscription
abbrev pub popped : List (Waiting (List Key)) → ℕ → List (Waiting (List Key))
popped lists s = slice_set lists s (without_oldest (slice_index_or lists s (empty_queue 1)))

-- which are rings, as many as before
rings_popped : (r : Router) (s : ℕ) (items : List Envelope) → IsListing r items → s < length r.channels.items → AllByRecursion IsRing (popped r.messenger.lists s)
rings_popped r s items h lt =
    let lists = r.messenger.lists in
    let l = slice_index_or lists s (empty_queue 1) in
    let same : length r.channels.items ≡ length lists = h.channels in
    AllByRecursion-set IsRing lists s (without_oldest l) h.rings (IsRing-popped l (AllByRecursion-at IsRing lists s (empty_queue 1) h.rings (omega (arith, lt, same))))

long_popped : (r : Router) (s : ℕ) (items : List Envelope) → IsListing r items → length r.channels.items ≡ length (popped r.messenger.lists s)
long_popped r s items h = h.channels ∙ sym (length-set r.messenger.lists s (without_oldest (slice_index_or r.messenger.lists s (empty_queue 1))))

same_lists : (n m c d e : ℕ) → (n == m) ≡ true → e ≡ c → (e == d) ≡ same_queue (queue.Peers n c) (queue.Peers m d)
same_lists n m c d e h at = grind (arith, nat_tests)

map-drop : (xs : List (List Key)) → map item.Peers (drop 1 xs) ≡ drop 1 (map item.Peers xs)
map-drop [] = refl
map-drop (x ∷ xs) = refl

-- what is left of the lists of a channel
popped_lists :
    (t : Bool) (own old : List (List Key)) → (t ≡ true → old ≡ own) → map item.Peers (cond t (drop 1 own) old) ≡ cond t (drop 1 (map item.Peers old)) (map item.Peers old)
popped_lists true own old h = ap (λ l. map item.Peers (drop 1 l)) (sym (h refl)) ∙ map-drop old
popped_lists false own old h = refl

-- the lists of each channel, once that of one was taken
lists_popped :
    (r : Router) (c s : ℕ) (items : List Envelope) → IsListing r items → s < length r.channels.items → channel_of r.channels.items s ≡ c → (d : ℕ)
    → map item.Peers (lists_in r.channels.items (popped r.messenger.lists s) d)
    ≡ cond (same_queue (queue.Peers r.number c) (queue.Peers r.number d)) (drop 1 (map item.Peers (lists_in r.channels.items r.messenger.lists d)))
    (map item.Peers (lists_in r.channels.items r.messenger.lists d))
lists_popped r c s items h lt at d =
    let cs = r.channels.items in
    let lists = r.messenger.lists in
    let l = slice_index_or lists s (empty_queue 1) in
    let old = lists_in cs lists d in
    let same : length cs ≡ length lists = h.channels in
    ap (map item.Peers) (lists_in-set cs lists s (without_oldest l) d (omega (arith, lt, same)) h.channels h.distinct)
    ∙ (popped_lists (channel_of cs s == d) l.items old (λ e. lists_in-at cs lists s d h.channels h.distinct lt (eqb-true (channel_of cs s) d e))
    ∙ ap (λ b. cond b (drop 1 (map item.Peers old)) (map item.Peers old)) (same_lists r.number r.number c d (channel_of cs s) (own_peers r.number) at))

-- ---- what the call comes to

-- the name that is given, and what is left
pub record IsListTaken (r : Router) (c : ℕ) (o : Option (ℕ × ℕ)) (lists : List (Waiting (List Key))) (names : Board Name) : Type 0 where
  pub name : (items : List Envelope) → IsListing r items → names_taken o ≡ map name_of (take 1 (filter (stands_in (queue.Peers r.number c)) items))
  pub listing : (items : List Envelope) → IsListing r items → AreApart items → IsListing (relisted r lists names) (filter (stays (names_taken o)) items)
  pub others : (q : Queue) → same_queue (queue.Peers r.number c) q ≡ false → held names q ≡ held r.names q

line_none :
    (r : Router) (c : ℕ) (items : List Envelope) → IsListing r items → lists_in r.channels.items r.messenger.lists c ≡ []
    → filter (stands_in (queue.Peers r.number c)) items ≡ []
line_none r c items h none = none_same item.Peers bare_item (filter (stands_in (queue.Peers r.number c)) items) (ap (map item.Peers) (sym none) ∙ h.lists c)

name_none :
    (r : Router) (c : ℕ) (items : List Envelope) → IsListing r items → lists_in r.channels.items r.messenger.lists c ≡ []
    → [] ≡ map name_of (take 1 (filter (stands_in (queue.Peers r.number c)) items))
name_none r c items h none = ap (λ l. map name_of (take 1 l)) (sym (line_none r c items h none))

-- the lists of a channel whose subscription is known
known_lists :
    (r : Router) (c s : ℕ) (items : List Envelope) → IsListing r items → get nat_cmp r.subscriptions c ≡ Some s
    → (s < length r.channels.items) × (channel_of r.channels.items s ≡ c)
known_lists r c s items h at = subst (IsNumber r.channels.items c) at (h.numbered c)

lists_here :
    (r : Router) (c s : ℕ) (items : List Envelope) → IsListing r items → get nat_cmp r.subscriptions c ≡ Some s
    → lists_in r.channels.items r.messenger.lists c ≡ (lists_of r.messenger s).items
lists_here r c s items h at =
    let k = known_lists r c s items h at in
    lists_in-at r.channels.items r.messenger.lists s c h.channels h.distinct k.0 k.1

-- the channel has no subscription
pub list_unknown : (r : Router) (c : ℕ) → get nat_cmp r.subscriptions c ≡ None → IsListTaken r c None r.messenger.lists r.names
list_unknown r c absent = record {
  name = λ items h. name_none r c items h (lists_in-none r.channels.items r.messenger.lists c (subst (IsNumber r.channels.items c) absent (h.numbered c)));
  listing = λ items h apart. subst (IsListing r) (sym (filter_stays-nil items)) h;
  others = λ q away. refl;
}

-- no list waits
pub list_none : (r : Router) (c s : ℕ) → get nat_cmp r.subscriptions c ≡ Some s → list_waiting r.messenger s ≡ None → IsListTaken r c None (popped r.messenger.lists s) r.names
list_none r c s at idle =
    let none = λ (items : List Envelope) (h : IsListing r items). lists_here r c s items h at ∙ none_of (lists_of r.messenger s).items idle in
    record {
      name = λ items h. name_none r c items h (none items h);
      listing = λ items h apart.
          let k = known_lists r c s items h at in
          subst (IsListing (relisted r (popped r.messenger.lists s) r.names)) (sym (filter_stays-nil items))
          (record {
            rings = rings_popped r s items h k.0;
            channels = long_popped r s items h;
            distinct = h.distinct;
            numbered = h.numbered;
            names = h.names;
            lists = λ d. idle_at bare_item _ _ items (queue.Peers r.number c) (queue.Peers r.number d) (line_none r c items h (none items h)) (h.lists d) (lists_popped r c s items h k.0 k.1 d);
          });
      others = λ q away. refl;
    }

-- the list that waits, and its item
list_first :
    (r : Router) (c s : ℕ) (keys : List Key) (items : List Envelope) → IsListing r items → get nat_cmp r.subscriptions c ≡ Some s → list_waiting r.messenger s ≡ Some keys
    → IsFirst item.Peers bare_item keys (drop 1 (lists_of r.messenger s).items) (filter (stands_in (queue.Peers r.number c)) items)
list_first r c s keys items h at waits =
    first_same item.Peers bare_item keys (drop 1 (lists_of r.messenger s).items) (filter (stands_in (queue.Peers r.number c)) items)
    (ap (map item.Peers) (sym (first_of (lists_of r.messenger s).items keys waits) ∙ sym (lists_here r c s items h at))
    ∙ h.lists c)

name_first :
    (r : Router) (c s : ℕ) (keys : List Key) (name : Name) (items : List Envelope) → (h : IsListing r items) → (at : get nat_cmp r.subscriptions c ≡ Some s)
    → (waits : list_waiting r.messenger s ≡ Some keys) → Some name ≡ slice_get (held r.names (queue.Peers r.number c)) 0
    → name ≡ label (list_first r c s keys items h at waits).one
name_first r c s keys name items h at waits named =
    let f = list_first r c s keys items h at waits in
    let same : Some name ≡ Some (label f.one) = named ∙ ap (λ ns. slice_get ns 0) (h.names c ∙ ap (map label) f.is) in
    cc

-- a list and its name were taken
pub list_some :
    (r : Router) (c s : ℕ) (keys : List Key) (name : Name) (names : Board Name)
    → get nat_cmp r.subscriptions c ≡ Some s → list_waiting r.messenger s ≡ Some keys → Some name ≡ slice_get (held r.names (queue.Peers r.number c)) 0
    → ((q : Queue) → held names q ≡ cond (same_queue (queue.Peers r.number c) q) (drop 1 (held r.names q)) (held r.names q))
    → IsListTaken r c (Some (name.entry, name.place)) (popped r.messenger.lists s) names
list_some r c s keys name names at waits named step =
    let p = queue.Peers r.number c in
    let new = relisted r (popped r.messenger.lists s) names in
    record {
      name = λ items h.
          let f = list_first r c s keys items h at waits in
          ap (λ (n : Name). (n.entry, n.place) ∷ []) (name_first r c s keys name items h at waits named) ∙ ap (λ l. map name_of (take 1 l)) (sym f.is);
      listing = λ items h apart.
          let f = list_first r c s keys items h at waits in
          let k = known_lists r c s items h at in
          subst (λ (n : Name). IsListing new (filter (stays ((n.entry, n.place) ∷ [])) items)) (sym (name_first r c s keys name items h at waits named))
          (record {
            rings = rings_popped r s items h k.0;
            channels = long_popped r s items h;
            distinct = h.distinct;
            numbered = h.numbered;
            names = λ d. popped_at label _ _ items p (queue.Peers r.number d) f.one f.rest apart f.is (h.names d) (step (queue.Peers r.number d));
            lists = λ d. popped_at bare_item _ _ items p (queue.Peers r.number d) f.one f.rest apart f.is (h.lists d) (lists_popped r c s items h k.0 k.1 d);
          });
      others = λ q away. step q ∙ ap (λ b. cond b (drop 1 (held r.names q)) (held r.names q)) away;
    }

-- a list has a name
pub list_named :
    (r : Router) (c s : ℕ) (keys : List Key) (items : List Envelope)
    → IsListing r items → get nat_cmp r.subscriptions c ≡ Some s → list_waiting r.messenger s ≡ Some keys → None ≡ slice_get (held r.names (queue.Peers r.number c)) 0 → ⊥
list_named r c s keys items h at waits none =
    let f = list_first r c s keys items h at waits in
    let same : None ≡ Some (label f.one) = none ∙ ap (λ ns. slice_get ns 0) (h.names c ∙ ap (map label) f.is) in
    cc

-- ---- a running router

-- another queue is as it was
line_aside :
    (r : Router) (c : ℕ) (o : Option (ℕ × ℕ)) (lists : List (Waiting (List Key))) (names : Board Name) (items : List Envelope) (q : Queue)
    → IsListTaken r c o lists names → IsListing r items → AreApart items → same_queue (queue.Peers r.number c) q ≡ false
    → filter (stands_in q) (filter (stays (names_taken o)) items) ≡ filter (stands_in q) items
line_aside r c o lists names items q t h apart away =
    let p = queue.Peers r.number c in
    ap (λ g. filter (stands_in q) (filter (stays g) items)) (t.name items h) ∙ line_beside 1 p q items (filter (stands_in p) items) apart refl away

-- the router's queues, of which the lists of peers alone changed
own_lines :
    {T : Type 0} (n c : ℕ) (part : Envelope → T) (old new : Queue → List T) (items left : List Envelope) → Agrees n part old items
    → ((q : Queue) → same_queue (queue.Peers n c) q ≡ false → filter (stands_in q) left ≡ filter (stands_in q) items)
    → ((d : ℕ) → new (queue.Peers n d) ≡ map part (filter (stands_in (queue.Peers n d)) left))
    → ((m : ℕ) → new (queue.Router m) ≡ old (queue.Router m))
    → ((m conn : ℕ) → new (queue.High m conn) ≡ old (queue.High m conn)) → ((m conn : ℕ) → new (queue.Low m conn) ≡ old (queue.Low m conn))
    → Agrees n part new left
own_lines n c part old new items left h aside lists router high low (queue.Router m) own =
    router m ∙ (h (queue.Router m) own ∙ ap (map part) (sym (aside (queue.Router m) refl)))
own_lines n c part old new items left h aside lists router high low (queue.Peers m d) own =
    let same : n ≡ m = eqb-true n m own in
    subst (λ k. new (queue.Peers k d) ≡ map part (filter (stands_in (queue.Peers k d)) left)) same (lists d)
own_lines n c part old new items left h aside lists router high low (queue.High m conn) own =
    high m conn ∙ (h (queue.High m conn) own ∙ ap (map part) (sym (aside (queue.High m conn) refl)))
own_lines n c part old new items left h aside lists router high low (queue.Low m conn) own =
    low m conn ∙ (h (queue.Low m conn) own ∙ ap (map part) (sym (aside (queue.Low m conn) refl)))
own_lines n c part old new items left h aside lists router high low _ own = absurd (false≢true own)

holds_listed :
    (size : ℕ) (r : Router) (c : ℕ) (o : Option (ℕ × ℕ)) (lists : List (Waiting (List Key))) (names : Board Name) (items : List Envelope)
    → Holds size r items → AreApart items → IsListTaken r c o lists names → Holds size (relisted r lists names) (filter (stays (names_taken o)) items)
holds_listed size r c o lists names items h apart t =
    let l = listing_of size r items h in
    let now = t.listing items l apart in
    let left = filter (stays (names_taken o)) items in
    let aside = λ (q : Queue) (away : same_queue (queue.Peers r.number c) q ≡ false). line_aside r c o lists names items q t l apart away in
    record {
      sound = record {
        proper = h.sound.proper;
        turns = h.sound.turns;
        single = h.sound.single;
        early = h.sound.early;
        subscriptions = h.sound.subscriptions ∙ ap (numbers_from 0) (sym h.sound.channels ∙ now.channels);
        rings = now.rings;
        channels = now.channels;
        distinct = now.distinct;
        numbered = now.numbered;
      };
      names = own_lines r.number c label (held r.names) (held names) items left h.names aside (λ d. now.names d)
          (λ m. t.others (queue.Router m) refl) (λ m conn. t.others (queue.High m conn) refl) (λ m conn. t.others (queue.Low m conn) refl);
      each = own_lines r.number c bare_item (items_of r) (items_of (relisted r lists names)) items left h.each aside (λ d. now.lists d) (λ m. refl) (λ m conn. refl) (λ m conn. refl);
    }

-- the router that gave a list, over what is left
pub listed_over :
    (configs : List Config) (log : List Entry) (r : Router) (items : List Envelope) (c : ℕ) (o : Option (ℕ × ℕ)) (lists : List (Waiting (List Key))) (names : Board Name)
    → StandsOver configs log r items → AreApart items → IsListTaken r c o lists names
    → StandsOver configs log (relisted r lists names) (filter (stays (names_taken o)) items)
listed_over configs log r items c o lists names s apart t =
    over_rebound configs log r (record r.messenger { lists = lists }) names items (filter (stays (names_taken o)) items) s refl (λ k h. h)
    (holds_listed (mailbox_size_at configs r.number) r c o lists names items s.holds apart t)
