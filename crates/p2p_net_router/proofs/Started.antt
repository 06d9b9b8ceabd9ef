-- A router that got its mailbox: the subscriptions that waited are put there.
use Rattle.std.proofs.Common.{◌≡◌, ℕ, true, false, cond, List, [], ◌∷◌, ◌++◌, length, refl, ap, sym, subst, ◌∙◌, arith, append-nil}
use Rattle.std.specs.Prelude.{filter, flat_map, map, ◌==◌}
use Rattle.std.specs.List.{AllByRecursion}
use Rattle.std.proofs.lemmas.Bool.Decides.{nat_tests}
use Rattle.std.proofs.lemmas.Bool.{false≢true}
use Rattle.std.proofs.lemmas.List.{map-append}
use Rattle.std.proofs.lemmas.List.Elements.{filter-append}
use Rattle.p2p_base.specs.declared.key.Key.{Key}
use Rattle.p2p_base.specs.Queue.{empty_queue}
use Rattle.p2p_router.specs.Routing.{link_of}
use Rattle.p2p_router.specs.Messenger.{Desk, bound_to, is_unbound, is_bound}
use Rattle.p2p_router.specs.declared.message.Message.TheVariants as message
use Rattle.p2p_router.specs.declared.messenger.Binding.{Binding}
use Rattle.p2p_router.specs.declared.messenger.Binding.TheVariants.{Unbound, Bound, Closed}
use Rattle.p2p_log.specs.declared.config.Config.{Config}
use Rattle.p2p_log.specs.declared.entry.Entry.{Entry}
use Rattle.p2p_log.specs.declared.entry.Reply.TheVariants as reply
use Rattle.p2p_log.specs.declared.event.Event.{Event}
use Rattle.p2p_log.specs.declared.event.Act.TheVariants as act
use Rattle.p2p_log.specs.declared.queue.Queue.{Queue}
use Rattle.p2p_log.specs.declared.queue.Queue.TheVariants as queue
use Rattle.p2p_log.specs.declared.item.Item.{Item}
use Rattle.p2p_log.specs.declared.item.Item.TheVariants as item
use Rattle.p2p_log.specs.declared.item.Envelope.{Envelope}
use Rattle.p2p_log_rules.specs.declared.row.Row.{Row}
use Rattle.p2p_log.specs.QueueCode.{same_queue}
use Rattle.p2p_log.specs.Lines.{placed, live, stands_in}
use Rattle.p2p_log_rules.specs.Facts.{channels, is_stopped}
use Rattle.p2p_log_rules.specs.Effect.{only, entry_of, goes_to, start_row, mailbox_size_at, router_capacity}
use Rattle.p2p_log.proofs.Lines.{filter_stays-nil}
use Rattle.p2p_log_rules.proofs.Channels.{is_up-starts}
use Rattle.p2p_net_queues.specs.declared.board.Board.{Board}
use Rattle.p2p_net_router.specs.Names.{Agrees, bare_item}
use Rattle.p2p_net_router.specs.Building.{NamesBuild, subscription}
use Rattle.p2p_net_router.specs.Items.{key_cmp, channel_of, message_item, messages_in, items_of}
use Rattle.p2p_net_router.specs.Sound.{IsSound, IsProper, IsInTurn, said_of, subscription_in, numbers_from}
use Rattle.p2p_net_router.specs.Holds.{Holds, after}
use Rattle.p2p_net_router.specs.Stands.{StandsFor}
use Rattle.p2p_net_router.specs.declared.router.Router.{Router}
use Rattle.p2p_net_router.specs.declared.name.Name.{Name}
use Rattle.p2p_net_router.proofs.Contents.{placed_bare}
use Rattle.p2p_net_router.proofs.Copying.{item_put}
use Rattle.p2p_net_router.proofs.Kept.{rebound, stands_kept}
use Rattle.p2p_net_router.proofs.Numbers.{channels_numbered}
use Rattle.p2p_net_router.proofs.Noting.{NamesBuild-start}

-- ---- the row

map-channels : (n : ℕ) (cs : List (ℕ × ℕ)) → map (subscription n) (map (λ (c : ℕ × ℕ). c.0) cs) ≡ map (λ (c : ℕ × ℕ). (queue.Router n, item.Subscribe c.0)) cs
map-channels n [] = refl
map-channels n (c ∷ cs) = ap (λ l. (queue.Router n, item.Subscribe c.0) ∷ l) (map-channels n cs)

pub started_row :
    (configs : List Config) (log : List Entry) (r : Router) (cs : List ℕ) (before row : Row) → StandsFor configs log r → is_stopped log r.number ≡ false → before ≡ only reply.Ok
    → row ≡ record before { puts = before.puts ++ map (subscription r.number) cs } → cs ≡ r.channels.items → row ≡ start_row configs log r.number
started_row configs log r cs before row s runs e f g =
    f
    ∙ (ap (λ (x : Row). record x { puts = x.puts ++ map (subscription r.number) cs }) e
    ∙ (ap (λ l. record (only reply.Ok) { puts = map (subscription r.number) l }) (g ∙ s.registered)
    ∙ (ap (λ l. record (only reply.Ok) { puts = l }) (map-channels r.number (channels configs log r.number))
    ∙ ap (λ b. cond b (only reply.Gone) (record (only reply.Ok) { puts = map (λ (c : ℕ × ℕ). (queue.Router r.number, item.Subscribe c.0)) (channels configs log r.number) })) (sym runs))))

-- ---- the mailbox

proper_waiting : (size : ℕ) (ns : List ℕ) → AllByRecursion (IsProper size) (map message.SubscribePeers ns)
proper_waiting size [] = tt
proper_waiting size (n ∷ ns) = (tt, proper_waiting size ns)

nothing_said : (k : Key) (ns : List ℕ) → said_of k (map message.SubscribePeers ns) ≡ []
nothing_said k [] = refl
nothing_said k (n ∷ ns) = nothing_said k ns

waiting_lists : (ns : List ℕ) → flat_map subscription_in (map message.SubscribePeers ns) ≡ ns
waiting_lists [] = refl
waiting_lists (n ∷ ns) = ap (λ l. n ∷ l) (waiting_lists ns)

waiting_items : (channels ns : List ℕ) → map (message_item channels) (map message.SubscribePeers ns) ≡ map item.Subscribe (map (channel_of channels) ns)
waiting_items channels [] = refl
waiting_items channels (n ∷ ns) = ap (λ l. item.Subscribe (channel_of channels n) ∷ l) (waiting_items channels ns)

sound_started :
    (size places : ℕ) (r : Router) (names : Board Name) → IsSound size r → r.messenger.binding ≡ Unbound → IsSound size (rebound r (bound_to r.messenger (empty_queue places)) names)
sound_started size places r names s none = record {
  proper = proper_waiting size r.messenger.waiting;
  turns = λ k.
      subst (IsInTurn size r.peers k (link_of key_cmp r.actor.links k)) (ap (λ b. said_of k (messages_in b)) none ∙ sym (nothing_said k r.messenger.waiting))
      (s.turns k);
  single = s.single;
  early = λ e. absurd (false≢true (sym e));
  subscriptions = ap (λ l. r.actor.subscriptions ++ l) (append-nil (flat_map subscription_in (map message.SubscribePeers r.messenger.waiting)) ∙ waiting_lists r.messenger.waiting)
      ∙ (ap (λ b. r.actor.subscriptions ++ (flat_map subscription_in (messages_in b) ++ r.messenger.waiting)) (sym none) ∙ s.subscriptions);
  rings = s.rings;
  channels = s.channels;
  distinct = s.distinct;
  numbered = s.numbered;
}

-- all channels wait, in order
all_waiting : (size : ℕ) (r : Router) → IsSound size r → r.messenger.binding ≡ Unbound → map (channel_of r.channels.items) r.messenger.waiting ≡ r.channels.items
all_waiting size r s none =
    let numbered : r.messenger.waiting ≡ numbers_from 0 (length r.messenger.lists) =
    ap (λ l. l ++ r.messenger.waiting) (sym (s.early (ap is_bound none)))
    ∙ (ap (λ b. r.actor.subscriptions ++ (flat_map subscription_in (messages_in b) ++ r.messenger.waiting)) (sym none) ∙ s.subscriptions)
    in
    ap (map (channel_of r.channels.items)) (numbered ∙ ap (numbers_from 0) (sym s.channels)) ∙ channels_numbered r.channels.items

-- ---- what is put

put_here : (n m : ℕ) (cs : List ℕ) → (n == m) ≡ true → map item_put (filter (goes_to (queue.Router m)) (map (subscription n) cs)) ≡ map item.Subscribe cs
put_here n m [] h = refl
put_here n m (c ∷ cs) h =
    ap (λ b. map item_put (cond b (subscription n c ∷ filter (goes_to (queue.Router m)) (map (subscription n) cs)) (filter (goes_to (queue.Router m)) (map (subscription n) cs))))
    (let e : same_queue (queue.Router m) (queue.Router n) ≡ true = grind (arith, nat_tests) in e)
    ∙ ap (λ l. item.Subscribe c ∷ l) (put_here n m cs h)

put_elsewhere : (n : ℕ) (q : Queue) (cs : List ℕ) → same_queue q (queue.Router n) ≡ false → filter (goes_to q) (map (subscription n) cs) ≡ []
put_elsewhere n q [] h = refl
put_elsewhere n q (c ∷ cs) h =
    ap (λ b. cond b (subscription n c ∷ filter (goes_to q) (map (subscription n) cs)) (filter (goes_to q) (map (subscription n) cs))) h ∙ put_elsewhere n q cs h

-- a queue with what is put there
pub put_line :
    (q : Queue) (entry : ℕ) (items : List Envelope) (puts : List (Queue × Item))
    → map bare_item (filter (stands_in q) (items ++ placed entry 0 puts)) ≡ map bare_item (filter (stands_in q) items) ++ map item_put (filter (goes_to q) puts)
put_line q entry items puts =
    ap (map bare_item) (filter-append (stands_in q) items (placed entry 0 puts))
    ∙ (map-append bare_item (filter (stands_in q) items) (filter (stands_in q) (placed entry 0 puts))
    ∙ ap (λ l. map bare_item (filter (stands_in q) items) ++ l) (placed_bare q entry 0 puts))

line_elsewhere :
    (n entry : ℕ) (q : Queue) (items : List Envelope) (cs : List ℕ) → same_queue q (queue.Router n) ≡ false
    → map bare_item (filter (stands_in q) (items ++ placed entry 0 (map (subscription n) cs))) ≡ map bare_item (filter (stands_in q) items)
line_elsewhere n entry q items cs h =
    put_line q entry items (map (subscription n) cs)
    ∙ (ap (λ l. map bare_item (filter (stands_in q) items) ++ map item_put l) (put_elsewhere n q cs h) ∙ append-nil (map bare_item (filter (stands_in q) items)))

each_started :
    (size places entry : ℕ) (r : Router) (names : Board Name) (items : List Envelope) → Holds size r items → r.messenger.binding ≡ Unbound
    → Agrees r.number bare_item (items_of (rebound r (bound_to r.messenger (empty_queue places)) names)) (items ++ placed entry 0 (map (subscription r.number) r.channels.items))
each_started size places entry r names items h none (queue.Router m) own =
    let n = r.number in
    let cs = r.channels.items in
    let before : map bare_item (filter (stands_in (queue.Router m)) items) ≡ [] = sym (h.each (queue.Router m) own) ∙ ap (λ b. map (message_item cs) (messages_in b)) none in
    waiting_items cs r.messenger.waiting
    ∙ (ap (map item.Subscribe) (all_waiting size r h.sound none)
    ∙ (sym (put_here n m cs own)
    ∙ (ap (λ l. l ++ map item_put (filter (goes_to (queue.Router m)) (map (subscription n) cs))) (sym before) ∙ sym (put_line (queue.Router m) entry items (map (subscription n) cs)))))
each_started size places entry r names items h none (queue.Peers m c) own = h.each (queue.Peers m c) own ∙ sym (line_elsewhere r.number entry (queue.Peers m c) items r.channels.items refl)
each_started size places entry r names items h none (queue.High m c) own = h.each (queue.High m c) own ∙ sym (line_elsewhere r.number entry (queue.High m c) items r.channels.items refl)
each_started size places entry r names items h none (queue.Low m c) own = h.each (queue.Low m c) own ∙ sym (line_elsewhere r.number entry (queue.Low m c) items r.channels.items refl)
each_started size places entry r names items h none _ own = absurd (false≢true own)

pub is_none : (b : Binding Key) → is_unbound b ≡ true → b ≡ Unbound
is_none Unbound h = refl
is_none (Bound q) h = absurd (false≢true h)
is_none Closed h = absurd (false≢true h)

pub started_stands :
    (configs : List Config) (log : List Entry) (entry places : ℕ) (event : Event) (r : Router) (desk : Desk Key) (names : Board Name) (cs : List ℕ) (before row : Row)
    → StandsFor configs log r → is_stopped log r.number ≡ false → length log ≡ entry → event.act ≡ act.Start r.number → places ≡ router_capacity configs log r.number
    → is_unbound r.messenger.binding ≡ true → desk ≡ bound_to r.messenger (empty_queue places)
    → before ≡ only reply.Ok → row ≡ record before { puts = before.puts ++ map (subscription r.number) cs } → cs ≡ r.channels.items
    → ((n : ℕ) (items : List Envelope) → NamesBuild n r.names items entry before → NamesBuild n names items entry row)
    → StandsFor configs (log ++ entry_of event row ∷ []) (rebound r desk names)
started_stands configs log entry places event r desk names cs before row s runs at is room unbound bound e f g named =
    let n = r.number in
    let none = is_none r.messenger.binding unbound in
    let now : row ≡ record (only reply.Ok) { puts = map (subscription n) r.channels.items } =
    f
    ∙ (ap (λ (x : Row). record x { puts = x.puts ++ map (subscription n) cs }) e ∙ ap (λ l. record (only reply.Ok) { puts = map (subscription n) l }) g)
    in
    let whole : after entry row (live log) ≡ live log ++ placed entry 0 row.puts =
    ap (λ (x : Row). after entry x (live log)) now
    ∙ (ap (λ l. l ++ placed entry 0 (map (subscription n) r.channels.items)) (filter_stays-nil (live log)) ∙ ap (λ (x : Row). live log ++ placed entry 0 x.puts) (sym now))
    in
    let size = mailbox_size_at configs n in
    let holds : Holds size (rebound r (bound_to r.messenger (empty_queue places)) names) (live log ++ placed entry 0 row.puts) = record {
      sound = sound_started size places r names s.holds.sound none;
      names = named n (live log) (NamesBuild-start n r.names (live log) entry before (ap (λ (x : Row). x.puts) e) s.holds.names);
      each = subst (λ l. Agrees n bare_item (items_of (rebound r (bound_to r.messenger (empty_queue places)) names)) (live log ++ placed entry 0 l))
          (sym (ap (λ (x : Row). x.puts) now)) (each_started size places entry r names (live log) s.holds none);
    }
    in
    subst (λ (d : Desk Key). StandsFor configs (log ++ entry_of event row ∷ []) (rebound r d names)) (sym bound)
    (stands_kept configs log entry event (act.Start n) r (bound_to r.messenger (empty_queue places)) names row s at is refl refl (λ conn. refl)
    (subst (Holds size (rebound r (bound_to r.messenger (empty_queue places)) names)) (sym whole) holds)
    (sym (is_up-starts log (entry_of event row) n is runs)) room)
