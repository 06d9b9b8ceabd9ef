-- A step that routed content, as the log has it.
use Rattle.std.proofs.Common.{◌≡◌, ℕ, ◌+◌, Bool, true, false, cond, List, [], ◌∷◌, ◌++◌, length, refl, ap, sym, subst, ◌∙◌, arith, append-nil, Some}
use Rattle.std.specs.Prelude.{filter, flat_map, map, ◌==◌}
use Rattle.std.proofs.lemmas.Bool.Decides.{nat_tests}
use Rattle.std.proofs.lemmas.Bool.{false≢true}
use Rattle.std.proofs.lemmas.List.{map-append, length-map}
use Rattle.std.proofs.lemmas.List.Elements.{filter-append}
use Rattle.p2p_base.specs.declared.key.Key.{Key}
use Rattle.p2p_base.specs.Queue.{without_oldest}
use Rattle.p2p_flow.specs.declared.plain.Recipients.{Recipients}
use Rattle.p2p_flow.specs.declared.plain.Recipients.TheVariants as to
use Rattle.p2p_wire.specs.declared.encoded.EncodedData.{EncodedData}
use Rattle.p2p_router.specs.Routes.{Routes}
use Rattle.p2p_router.specs.Routing.{link_of, addressed, copies, copies_put}
use Rattle.p2p_router.specs.Messenger.{Desk, message_taken, message_waiting, in_mailbox, told_all}
use Rattle.p2p_router.specs.Step.{stepped_on, routes_on, desk_on}
use Rattle.p2p_router.specs.declared.link.Link.{Link}
use Rattle.p2p_router.specs.declared.message.Message.TheVariants as message
use Rattle.p2p_router.specs.declared.stepped.Routed.{Routed}
use Rattle.p2p_router.specs.declared.stepped.Routed.TheVariants as routed
use Rattle.p2p_router.specs.declared.stepped.Stepped.TheVariants as stepped
use Rattle.p2p_log.specs.declared.config.Config.{Config}
use Rattle.p2p_log.specs.declared.queue.Queue.{Queue}
use Rattle.p2p_log.specs.declared.queue.Queue.TheVariants as queue
use Rattle.p2p_log.specs.declared.item.Item.{Item}
use Rattle.p2p_log.specs.declared.item.Item.TheVariants as item
use Rattle.p2p_log.specs.declared.item.Envelope.{Envelope}
use Rattle.p2p_log.specs.declared.entry.Entry.{Entry}
use Rattle.p2p_log_rules.specs.declared.row.Row.{Row}
use Rattle.p2p_log.specs.QueueCode.{same_queue}
use Rattle.p2p_log.specs.Lines.{name_of, ended_item, stays, placed, live, stands_in}
use Rattle.p2p_log_rules.specs.Connections.{is_ended}
use Rattle.p2p_log_rules.specs.Facts.{wants_lists, subscribers, with_route, routes}
use Rattle.p2p_log_rules.specs.Routed.{routed_tells}
use Rattle.p2p_log_rules.specs.Effect.{mailbox_size_at, route_row, Spread, goes_to, relay_queue, spread, row_of_spread}
use Rattle.p2p_log.specs.Apart.{AreApart}
use Rattle.p2p_log.proofs.Names.{AreApart-live_from, filter_stays-first}
use Rattle.p2p_net_queues.specs.declared.board.Board.{Board}
use Rattle.p2p_net_queues.specs.Board.{held}
use Rattle.p2p_log_rules.specs.Rows.{taken_row}
use Rattle.p2p_net_router.specs.Relays.{with_spread}
use Rattle.p2p_net_router.specs.Names.{Agrees, is_routers, label, bare, bare_item, tag_of}
use Rattle.p2p_net_router.specs.Items.{key_cmp, channel_of, named_keys, message_item, messages_in, lists_in, frame_item, frames_of, items_of}
use Rattle.p2p_net_router.specs.Sound.{AreNamed, IsInTurn, said_of, subscription_in}
use Rattle.p2p_net_router.specs.Ends.{AreEnded}
use Rattle.p2p_net_router.specs.Holds.{Holds, after, routes_in}
use Rattle.p2p_net_router.specs.Copies.{copy_spread, copies_spread}
use Rattle.p2p_net_router.specs.Oldest.{IsOldest, without, send_of}
use Rattle.p2p_net_router.specs.Stands.{StandsFor}
use Rattle.p2p_net_router.specs.declared.router.Router.{Router}
use Rattle.p2p_net_router.specs.declared.name.Name.{Name}
use Rattle.p2p_net_router.proofs.Building.{own_peers as own_queue}
use Rattle.p2p_net_router.proofs.Copying.{IsSpreading, IsCopied, copied, item_put}
use Rattle.p2p_net_router.proofs.First.{bare-content, bound_first}
use Rattle.p2p_net_router.proofs.Answered.{was_content}
use Rattle.p2p_net_router.proofs.Others.{copied_adds}
use Rattle.p2p_net_router.proofs.Rings.{IsTold, told_all-told}
use Rattle.p2p_net_router.proofs.Routed.{IsRouted, sound_stepped}
use Rattle.p2p_net_router.proofs.Steps.{later_messages, oldest_item, is_oldest, proper_first, turns_first, subscriptions_first}
use Rattle.p2p_net_router.proofs.Noting.{copies_ends}
use Rattle.p2p_net_router.proofs.Told.{stepped_to, same_router, map-cond}

-- ---- what the row puts

-- copies enter no other queues than lanes
other_put :
    (q : Queue) (n send p : ℕ) (frame : List ℕ) (r : Routed Key) (s : Spread) → ((b : Bool) (conn : ℕ) → same_queue q (relay_queue b n conn) ≡ false)
    → filter (goes_to q) s.puts ≡ [] → filter (goes_to q) (copy_spread n send p frame r s).puts ≡ []
other_put q n send p frame (routed.Put k c b) s away h =
    filter-append (goes_to q) s.puts ((relay_queue b n c, item.Frame (Some (send, p)) frame) ∷ [])
    ∙ (ap (λ l. l ++ filter (goes_to q) ((relay_queue b n c, item.Frame (Some (send, p)) frame) ∷ [])) h
    ∙ ap (λ t. cond t ((relay_queue b n c, item.Frame (Some (send, p)) frame) ∷ []) []) (away b c))
other_put q n send p frame (routed.NoConnection k) s away h = h
other_put q n send p frame (routed.RelayFull k c) s away h = h
other_put q n send p frame (routed.Closed k c) s away h = h

other_puts :
    (q : Queue) (n send p : ℕ) (frame : List ℕ) (rs : List (Routed Key)) (s : Spread) → ((b : Bool) (conn : ℕ) → same_queue q (relay_queue b n conn) ≡ false)
    → filter (goes_to q) s.puts ≡ [] → filter (goes_to q) (copies_spread n send p frame rs s).puts ≡ []
other_puts q n send p frame [] s away h = h
other_puts q n send p frame (r ∷ rs) s away h = other_puts q n send (p + 1) frame rs (copy_spread n send p frame r s) away (other_put q n send p frame r s away h)

away_router : (m n : ℕ) (b : Bool) (conn : ℕ) → same_queue (queue.Router m) (relay_queue b n conn) ≡ false
away_router m n true conn = refl
away_router m n false conn = refl

away_peers : (m c n : ℕ) (b : Bool) (conn : ℕ) → same_queue (queue.Peers m c) (relay_queue b n conn) ≡ false
away_peers m c n true conn = refl
away_peers m c n false conn = refl

-- what is put in a queue, without names
pub placed_bare :
    (q : Queue) (entry p : ℕ) (puts : List (Queue × Item)) → map bare_item (filter (stands_in q) (placed entry p puts)) ≡ map item_put (filter (goes_to q) puts)
placed_bare q entry p [] = refl
placed_bare q entry p (y ∷ ys) =
    elim (same_queue q y.0) as (λ b. map bare_item (cond b (record { entry = entry; place = p; queue = y.0; item = y.1 } ∷ filter (stands_in q) (placed entry (p + 1) ys)) (filter (stands_in q) (placed entry (p + 1) ys))) ≡ map item_put (cond b (y ∷ filter (goes_to q) ys) (filter (goes_to q) ys))) [
      | true ↦ ap (λ l. bare y.1 ∷ l) (placed_bare q entry (p + 1) ys)
      | false ↦ placed_bare q entry (p + 1) ys
    ]

-- each queue of the router, once content was taken and copies were put
copied_lines :
    (n entry : ℕ) (x : Envelope) (rest items : List Envelope) (s : Spread) (row : Row) (q : Queue)
    → AreApart items → filter (stands_in (queue.Router n)) items ≡ x ∷ rest → row ≡ with_spread (taken_row (name_of x)) s → flat_map ended_item s.ends ≡ []
    → map bare_item (filter (stands_in q) (after entry row items))
    ≡ cond (same_queue (queue.Router n) q) (map bare_item rest) (map bare_item (filter (stands_in q) items)) ++ map item_put (filter (goes_to q) s.puts)
copied_lines n entry x rest items s row q apart first is none =
    let kept = without x items in
    let whole : after entry row items ≡ kept ++ placed entry 0 s.puts =
    ap (λ (r : Row). after entry r items) is ∙ ap (λ g. filter (stays (name_of x ∷ g)) items ++ placed entry 0 s.puts) none
    in
    ap (λ l. map bare_item (filter (stands_in q) l)) whole
    ∙ (ap (map bare_item) (filter-append (stands_in q) kept (placed entry 0 s.puts))
    ∙ (map-append bare_item (filter (stands_in q) kept) (filter (stands_in q) (placed entry 0 s.puts))
    ∙ (ap (λ l. map bare_item l ++ map bare_item (filter (stands_in q) (placed entry 0 s.puts))) (filter_stays-first items (queue.Router n) q x rest apart first)
    ∙ (ap (λ l. l ++ map bare_item (filter (stands_in q) (placed entry 0 s.puts))) (map-cond bare_item (same_queue (queue.Router n) q) rest (filter (stands_in q) items))
    ∙ ap (λ l. cond (same_queue (queue.Router n) q) (map bare_item rest) (map bare_item (filter (stands_in q) items)) ++ l) (placed_bare q entry 0 s.puts)))))

-- ---- the step

addressed_named : (links : List (Key × Link)) (whom : Recipients Key) → AreNamed whom → addressed links whom ≡ named_keys whom
addressed_named links to.All h = absurd h
addressed_named links (to.Some keys) h = refl
addressed_named links (to.One key) h = refl

pub own_lane : (n : ℕ) (b : Bool) (conn : ℕ) → is_routers n (relay_queue b n conn) ≡ true
own_lane n true conn = own_queue n
own_lane n false conn = own_queue n

lane_away : (n : ℕ) (b : Bool) (conn : ℕ) → same_queue (queue.Router n) (relay_queue b n conn) ≡ false
lane_away n true conn = refl
lane_away n false conn = refl

pub lane_items : (r : Router) (n : ℕ) (b : Bool) (conn : ℕ) → items_of r (relay_queue b n conn) ≡ map frame_item (frames_of r.peers r.actor.links b conn)
lane_items r n true conn = refl
lane_items r n false conn = refl

-- the frames that stood in a lane are as many as stood in its queue
lane_long :
    (size : ℕ) (r : Router) (items : List Envelope) (x : Envelope) (rest : List Envelope) (b : Bool) (conn : ℕ)
    → Holds size r items → AreApart items → filter (stands_in (queue.Router r.number)) items ≡ x ∷ rest
    → length (map frame_item (frames_of r.peers r.actor.links b conn)) ≡ length (filter (stands_in (relay_queue b r.number conn)) (without x items))
lane_long size r items x rest b conn h apart first =
    let q = relay_queue b r.number conn in
    ap length (sym (lane_items r r.number b conn) ∙ h.each q (own_lane r.number b conn))
    ∙ (length-map (filter (stands_in q) items) bare_item
    ∙ ap length
    (sym
    (filter_stays-first items (queue.Router r.number) q x rest apart first
    ∙ ap (λ t. cond t rest (filter (stands_in q) items)) (lane_away r.number b conn))))

same_frames : (n m : ℕ) (b : Bool) (conn : ℕ) (puts : List (Queue × Item)) → (n == m) ≡ true → map item_put (filter (goes_to (relay_queue b n conn)) puts) ≡ map item_put (filter (goes_to (relay_queue b m conn)) puts)
same_frames n m b conn puts h = let e : n ≡ m = grind (arith, nat_tests) in ap (λ k. map item_put (filter (goes_to (relay_queue b k conn)) puts)) e

each_copied :
    (size : ℕ) (old : Router) (items : List Envelope) (entry : ℕ) (row : Row) (desk : Desk Key) (actor : Routes Key) (names : Board Name)
    (x : Envelope) (rest : List Envelope) (send : ℕ) (frame : List ℕ) (rs : List (Routed Key))
    → Holds size old items → AreApart items → filter (stands_in (queue.Router old.number)) items ≡ x ∷ rest
    → map (message_item old.channels.items) (later_messages old) ≡ map bare_item rest
    → desk.binding ≡ in_mailbox without_oldest old.messenger.binding → desk.lists ≡ old.messenger.lists
    → row ≡ with_spread (taken_row (name_of x)) (copies_spread old.number send 0 frame rs (record { puts = []; ends = [] }))
    → ((b : Bool) (conn : ℕ) → map frame_item (frames_of old.peers actor.links b conn) ≡ map frame_item (frames_of old.peers old.actor.links b conn)
    ++ map item_put (filter (goes_to (relay_queue b old.number conn)) (copies_spread old.number send 0 frame rs (record { puts = []; ends = [] })).puts))
    → Agrees old.number bare_item (items_of (stepped_to old desk actor names)) (after entry row items)
each_copied size old items entry row desk actor names x rest send frame rs h apart first later binding lists is frames q own =
    let n = old.number in
    let s = copies_spread n send 0 frame rs (record { puts = []; ends = [] }) in
    let none = copies_ends n send 0 frame rs (record { puts = []; ends = [] }) in
    let lines = λ (p : Queue). copied_lines n entry x rest items s row p apart first is none in
    (elim q as (λ p. is_routers n p ≡ true → items_of (stepped_to old desk actor names) p ≡ map bare_item (filter (stands_in p) (after entry row items))) [
      | queue.Router m ↦ λ k.
          ap (λ b. map (message_item old.channels.items) (messages_in b)) binding
          ∙ (later
          ∙ sym
          (lines (queue.Router m)
          ∙ (ap (λ t. cond t (map bare_item rest) (map bare_item (filter (stands_in (queue.Router m)) items)) ++ map item_put (filter (goes_to (queue.Router m)) s.puts)) (same_router n m k)
          ∙ (ap (λ l. map bare_item rest ++ map item_put l) (other_puts (queue.Router m) n send 0 frame rs (record { puts = []; ends = [] }) (away_router m n) refl)
          ∙ append-nil (map bare_item rest)))))
      | queue.Peers m c ↦ λ k.
          ap (λ l. map item.Peers (lists_in old.channels.items l c)) lists
          ∙ (h.each (queue.Peers m c) k
          ∙ sym
          (lines (queue.Peers m c)
          ∙ (ap (λ l. map bare_item (filter (stands_in (queue.Peers m c)) items) ++ map item_put l) (other_puts (queue.Peers m c) n send 0 frame rs (record { puts = []; ends = [] }) (away_peers m c n) refl)
          ∙ append-nil (map bare_item (filter (stands_in (queue.Peers m c)) items)))))
      | queue.High m conn ↦ λ k.
          frames true conn
          ∙ (ap (λ l. l ++ map item_put (filter (goes_to (queue.High n conn)) s.puts)) (h.each (queue.High m conn) k)
          ∙ (ap (λ l. map bare_item (filter (stands_in (queue.High m conn)) items) ++ l) (same_frames n m true conn s.puts k) ∙ sym (lines (queue.High m conn))))
      | queue.Low m conn ↦ λ k.
          frames false conn
          ∙ (ap (λ l. l ++ map item_put (filter (goes_to (queue.Low n conn)) s.puts)) (h.each (queue.Low m conn) k)
          ∙ (ap (λ l. map bare_item (filter (stands_in (queue.Low m conn)) items) ++ l) (same_frames n m false conn s.puts k) ∙ sym (lines (queue.Low m conn))))
      | _ ↦ λ k. absurd (false≢true k)
    ]) own

told_nobody : (d : Desk Key) (keys : List Key) → told_all d keys [] ≡ d
unfolding told_all
told_nobody d keys = refl

pub routed_content :
    (configs : List Config) (log : List Entry) (entry : ℕ) (old : Router) (desk : Desk Key) (actor : Routes Key) (names : Board Name) (row : Row) (encoded : EncodedData) (rs : List (Routed Key))
    → StandsFor configs log old
    → stepped.Content encoded rs ≡ stepped_on key_cmp old.actor old.messenger (message_waiting old.messenger)
    → actor ≡ routes_on key_cmp old.actor old.messenger (message_waiting old.messenger)
    → desk ≡ desk_on key_cmp old.actor old.messenger (message_waiting old.messenger)
    → ((items : List Envelope) (x : Envelope) (rest : List Envelope) → IsOldest old.number old.names items x rest
    → row ≡ with_spread (taken_row (name_of x)) (copies_spread old.number (send_of (tag_of x.item)) 0 encoded.payload rs (record { puts = []; ends = [] })))
    → ((items : List Envelope) (x : Envelope) (rest : List Envelope) → IsOldest old.number old.names items x rest → Agrees old.number label (held names) (after entry row items))
    → IsRouted configs log entry old desk actor names row
routed_content configs log entry old desk actor names row encoded rs s answered actor_is desk_is row_is names_are =
    let n = old.number in
    let size = mailbox_size_at configs n in
    let sound = s.holds.sound in
    let w = was_content old.actor old.messenger (message_waiting old.messenger) encoded rs answered in
    let m = message.Content w.whom encoded w.priority in
    let f = oldest_item configs log old m s w.is in
    let x = f.one in
    let keys = named_keys w.whom in
    let send = send_of (tag_of x.item) in
    let it : x.item ≡ item.Content encoded.channel encoded.payload w.priority send keys = bare-content encoded.channel encoded.payload w.priority keys x.item f.same in
    let oldest = is_oldest configs log old m s f in
    let proper = proper_first size old m sound w.is in
    let links = old.actor.links in
    let taken = message_taken old.messenger in
    let apart = AreApart-live_from 0 log in
    let whom : addressed links w.whom ≡ keys = addressed_named links w.whom proper.0 in
    let after_links = copies_put key_cmp links encoded w.priority keys in
    let actor_now : actor ≡ record { links = after_links; peers = old.actor.peers; subscriptions = old.actor.subscriptions; failed = old.actor.failed } =
    actor_is
    ∙ (ap (routes_on key_cmp old.actor old.messenger) w.is
    ∙ ap (λ ks. record { links = copies_put key_cmp links encoded w.priority ks; peers = old.actor.peers; subscriptions = old.actor.subscriptions; failed = old.actor.failed }) whom)
    in
    let links_now : actor.links ≡ after_links = ap (λ (r : Routes Key). r.links) actor_now in
    let subs_now : actor.subscriptions ≡ old.actor.subscriptions = ap (λ (r : Routes Key). r.subscriptions) actor_now in
    let desk_now : desk ≡ taken = desk_is ∙ (ap (desk_on key_cmp old.actor old.messenger) w.is ∙ told_nobody taken _) in
    let t : IsTold old.channels.items taken desk [] [] =
    subst (λ (d : Desk Key). IsTold old.channels.items taken d [] []) (told_nobody taken [] ∙ sym desk_now) (told_all-told old.channels.items taken [] [] tt sound.rings sound.channels sound.distinct)
    in
    let copies_now : rs ≡ copies key_cmp links encoded w.priority keys = w.copies_are ∙ ap (copies key_cmp links encoded w.priority) whom in
    let start : Spread = record { puts = []; ends = [] } in
    let spread_now = copies_spread n send 0 encoded.payload rs start in
    let base = λ (b : Bool) (conn : ℕ). map frame_item (frames_of old.peers links b conn) in
    let said = λ (k : Key). said_of k (later_messages old) in
    let ended = is_ended log n in
    let going : IsSpreading size n ended old.peers said base (routes log n) links start = record {
      turns = turns_first size old m sound w.is;
      ends = s.ended;
      frames = λ b conn. sym (append-nil (base b conn));
      routes_are = s.routes_are;
    }
    in
    let done : IsCopied size n ended old.peers said base (routes log n) after_links (spread size (without x (live log)) n w.priority ended (routes log n) send 0 encoded.payload keys start) spread_now =
    subst (λ (l : List (Routed Key)). IsCopied size n ended old.peers said base (routes log n) after_links (spread size (without x (live log)) n w.priority ended (routes log n) send 0 encoded.payload keys start) (copies_spread n send 0 encoded.payload l start)) (sym copies_now)
    (copied keys size n ended old.peers said base (routes log n) links start w.priority send 0 encoded (without x (live log)) going
    (λ b conn. lane_long size old (live log) x f.rest b conn s.holds apart f.is))
    in
    let row_now : row ≡ with_spread (taken_row (name_of x)) spread_now = row_is (live log) x f.rest oldest in
    record {
      x = x;
      rest = f.rest;
      first = f.is;
      row_is = row_now
          ∙ (ap (row_of_spread (name_of x)) (sym done.same) ∙ ap (λ i. route_row configs log n (name_of x) i (filter (stays (name_of x ∷ [])) (live log))) (sym it));
      takes = ap (λ (r : Row). r.takes) row_now;
      holds = record {
        sound = sound_stepped size old desk actor names [] [] sound (bound_first old.messenger.binding m w.is) t proper.1
            (λ k. subst (λ (ls : List (Key × Link)). IsInTurn size old.peers k (link_of key_cmp ls k) (said_of k (later_messages old))) (sym links_now) (done.going.turns k))
            (ap (λ l. l ++ (flat_map subscription_in (later_messages old) ++ old.messenger.waiting)) subs_now ∙ subscriptions_first size old m sound w.is);
        names = names_are (live log) x f.rest oldest;
        each = each_copied size old (live log) entry row desk actor names x f.rest send encoded.payload rs s.holds apart f.is f.later t.binding
            (ap (λ (d : Desk Key). d.lists) desk_now) row_now
            (λ b conn. ap (λ l. map frame_item (frames_of old.peers l b conn)) links_now ∙ done.going.frames b conn);
      };
      routes_now = ap routes_in links_now ∙ (done.going.routes_are ∙ ap (with_route (routes log n)) (sym it));
      told_now = ap (map (channel_of old.channels.items)) subs_now ∙ (s.told ∙ (sym (append-nil (subscribers log n)) ∙ ap (λ i. subscribers log n ++ flat_map (wants_lists n) (routed_tells n i)) (sym it)));
      binding = t.binding;
      ended = subst (AreEnded ended old.peers) (sym links_now) done.going.ends;
      adds = λ q other. copied_adds n entry x f.rest (live log) spread_now row q other apart f.is row_now (copies_ends n send 0 encoded.payload rs start);
      works = ap (λ (r : Routes Key). r.failed) actor_now;
    }
