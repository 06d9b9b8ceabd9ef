-- What is left of a router whose mailbox, or the frames that wait for a connection, end as its node stops.
use Rattle.std.proofs.Common.{◌≡◌, ℕ, Bool, true, false, cond, List, [], ◌∷◌, ◌++◌, take, drop, refl, ap, sym, subst, ◌∙◌, append_assoc, append-nil, ◌+◌, length, Option, Some, None}
use Rattle.std.specs.Prelude.{filter, map, slice_get}
use Rattle.std.specs.List.{AllByRecursion}
use Rattle.std.proofs.lemmas.Grind.{flat_map-append}
use Rattle.std.proofs.lemmas.List.{length-map, map-append}
use Rattle.p2p_base.specs.Queue.{without_oldest}
use Rattle.p2p_base.specs.declared.key.Key.{Key}
use Rattle.p2p_router.specs.Messenger.{in_mailbox, message_waiting}
use Rattle.p2p_router.specs.declared.message.Message.{Message}
use Rattle.p2p_router.specs.declared.message.Message.TheVariants as message
use Rattle.p2p_router.specs.declared.messenger.Binding.{Binding}
use Rattle.p2p_log.specs.declared.end.Cause.TheVariants as cause
use Rattle.p2p_log.specs.declared.end.End.TheVariants as end
use Rattle.p2p_log.specs.declared.item.Envelope.{Envelope}
use Rattle.p2p_log.specs.declared.item.Item.{Item}
use Rattle.p2p_log.specs.declared.item.Item.TheVariants as item
use Rattle.p2p_log.specs.declared.queue.Queue.{Queue}
use Rattle.p2p_log.specs.declared.queue.Queue.TheVariants as queue
use Rattle.p2p_log.specs.Apart.{AreApart}
use Rattle.p2p_log.specs.Copies.{copies_of}
use Rattle.p2p_log.specs.Drained.{all_end, ends_with}
use Rattle.p2p_log.specs.Lines.{name_of, stands_in, stays}
use Rattle.p2p_log.specs.QueueCode.{same_queue}
use Rattle.p2p_log.proofs.Each.{Each-filter}
use Rattle.p2p_log.proofs.Filters.{filter-swap}
use Rattle.p2p_log.proofs.Lines.{filter_stays-append, filter_stays-nil}
use Rattle.p2p_log_rules.proofs.Left.{left, without, line_kept}
use Rattle.p2p_log_rules.specs.Effect.{relay_queue}
use Rattle.p2p_log_rules.specs.declared.row.Row.{Row}
use Rattle.p2p_net_queues.specs.Board.{held}
use Rattle.p2p_net_queues.specs.declared.board.Board.{Board}
use Rattle.p2p_net_queues.specs.Rows.{dropped}
use Rattle.p2p_net_router.specs.Items.{message_item, messages_in, named_keys}
use Rattle.p2p_net_router.specs.Names.{Agrees, bare_item, label, tag_of}
use Rattle.p2p_net_router.specs.Resting.{IsFrame, RouterLeft}
use Rattle.p2p_net_router.specs.Stopping.{copies_tagged, frames_end, message_ends}
use Rattle.p2p_net_router.specs.declared.name.Name.{Name}
use Rattle.p2p_net_router.specs.declared.router.Router.{Router}
use Rattle.p2p_net_router.proofs.Agreeing.{Agrees-emptied, Agrees-pop}
use Rattle.p2p_net_router.proofs.Batches.{first_goes, line_left}
use Rattle.p2p_net_router.proofs.Beside.{filter-first_away}
use Rattle.p2p_net_router.proofs.Building.{own_peers}
use Rattle.p2p_net_router.proofs.Contents.{own_lane}
use Rattle.p2p_net_router.proofs.First.{IsFirst, bare-content, bare-ready, bare-release, bare-subscribe, first_same, messages_first, messages_none, none_same}
use Rattle.p2p_net_router.proofs.Taking.{take_then}

-- the router with another mailbox and other names
abbrev pub emptied : Router → Binding Key → Board Name → Router
emptied r b names = record r { messenger = record r.messenger { binding = b }; names = names }

-- what is left of it, once these went, of which none is a list of peers
left_by :
    (r : Router) (b : Binding Key) (names : Board Name) (items : List Envelope) (gone : List (ℕ × ℕ)) → RouterLeft r items
    → ((c : ℕ) → filter (stands_in (queue.Peers r.number c)) (filter (stays gone) items) ≡ filter (stands_in (queue.Peers r.number c)) items)
    → map (message_item r.channels.items) (messages_in b) ≡ map bare_item (filter (stands_in (queue.Router r.number)) (filter (stays gone) items))
    → Agrees r.number label (held names) (filter (stays gone) items)
    → RouterLeft (emptied r b names) (filter (stays gone) items)
left_by r b names items gone h lists mailbox agree = record {
  listing = record {
    rings = h.listing.rings;
    channels = h.listing.channels;
    distinct = h.listing.distinct;
    numbered = h.listing.numbered;
    names = λ c. agree (queue.Peers r.number c) (own_peers r.number);
    lists = λ c. h.listing.lists c ∙ ap (map bare_item) (sym (lists c));
  };
  mailbox = mailbox;
  frames = λ p conn.
      let q = relay_queue p r.number conn in
      subst (AllByRecursion (λ (x : Envelope). IsFrame x.item)) (filter-swap (stays gone) (stands_in q) items)
      (Each-filter (λ (x : Envelope). IsFrame x.item) (stays gone) (filter (stands_in q) items) (h.frames p conn));
  names = agree;
}

-- ---- the frames of a connection

lane_from_router : (n : ℕ) (b : Bool) (conn : ℕ) → same_queue (relay_queue b n conn) (queue.Router n) ≡ false
lane_from_router n true conn = refl
lane_from_router n false conn = refl

lane_from_lists : (n : ℕ) (b : Bool) (conn c : ℕ) → same_queue (relay_queue b n conn) (queue.Peers n c) ≡ false
lane_from_lists n true conn c = refl
lane_from_lists n false conn c = refl

pub left_lane :
    (r : Router) (names : Board Name) (items : List Envelope) (conn : ℕ) (priority : Bool) → RouterLeft r items → AreApart items
    → ((q : Queue) → held names q ≡ cond (same_queue (relay_queue priority r.number conn) q) [] (held r.names q))
    → RouterLeft (record r { names = names }) (without (relay_queue priority r.number conn) items)
left_lane r names items conn priority h apart step =
    let n = r.number in
    let p = relay_queue priority n conn in
    left_by r r.messenger.binding names items (map name_of (filter (stands_in p) items)) h
    (λ c. line_kept p (queue.Peers n c) items apart (lane_from_lists n priority conn c))
    (h.mailbox ∙ ap (map bare_item) (sym (line_kept p (queue.Router n) items apart (lane_from_router n priority conn))))
    (Agrees-emptied n label (held r.names) (held names) items p apart h.names (λ q own. step q))

frame_copies : (i : Item) → IsFrame i → copies_tagged (tag_of i) ≡ copies_of i
frame_copies (item.Frame None frame) h = refl
frame_copies (item.Frame (Some copy) frame) h = refl
frame_copies _ h = absurd h

frames_ended : (xs : List Envelope) → AllByRecursion (λ (x : Envelope). IsFrame x.item) xs → frames_end (map label xs) ≡ all_end cause.NodeStopped xs
frames_ended [] h = refl
frames_ended (x ∷ xs) h =
    ap (λ copies. (end.Item x.entry x.place ∷ map (dropped cause.NodeStopped) copies) ++ frames_end (map label xs)) (frame_copies x.item h.0)
    ∙ ap (λ l. ends_with cause.NodeStopped x ++ l) (frames_ended xs h.1)

-- the frames that end, by their names
pub lane_ended :
    (r : Router) (items : List Envelope) (conn : ℕ) (priority : Bool) (names : List Name) → RouterLeft r items → names ≡ held r.names (relay_queue priority r.number conn)
    → frames_end names ≡ all_end cause.NodeStopped (filter (stands_in (relay_queue priority r.number conn)) items)
lane_ended r items conn priority names h is =
    let p = relay_queue priority r.number conn in
    ap frames_end (is ∙ h.names p (own_lane r.number priority conn)) ∙ frames_ended (filter (stands_in p) items) (h.frames priority conn)

-- ---- the oldest message

message_copies :
    (channels : List ℕ) (x : Envelope) (m : Message Key) → message_item channels m ≡ bare_item x → message_ends (label x) m ≡ ends_with cause.NodeStopped x
message_copies channels x (message.Ready peer relay conn) h =
    ap (λ i. end.Item x.entry x.place ∷ map (dropped cause.NodeStopped) (copies_of i)) (sym (bare-ready conn peer x.item h))
message_copies channels x (message.Release peer) h =
    ap (λ i. end.Item x.entry x.place ∷ map (dropped cause.NodeStopped) (copies_of i)) (sym (bare-release peer x.item h))
message_copies channels x (message.Content whom encoded priority) h =
    ap (λ i. end.Item x.entry x.place ∷ map (dropped cause.NodeStopped) (copies_of i)) (sym (bare-content encoded.channel encoded.payload priority (named_keys whom) x.item h))
message_copies channels x (message.SubscribePeers s) h =
    ap (λ i. end.Item x.entry x.place ∷ map (dropped cause.NodeStopped) (copies_of i)) (sym (bare-subscribe _ x.item h))

-- the mailbox is empty
pub mailbox_none : (r : Router) (items : List Envelope) → RouterLeft r items → message_waiting r.messenger ≡ None → filter (stands_in (queue.Router r.number)) items ≡ []
mailbox_none r items h idle =
    none_same (message_item r.channels.items) bare_item (filter (stands_in (queue.Router r.number)) items)
    (ap (map (message_item r.channels.items)) (sym (messages_none r.messenger.binding idle)) ∙ h.mailbox)

-- or has an oldest message, and its item
pub mailbox_first :
    (r : Router) (items : List Envelope) (m : Message Key) → RouterLeft r items → message_waiting r.messenger ≡ Some m
    → IsFirst (message_item r.channels.items) bare_item m (messages_in (in_mailbox without_oldest r.messenger.binding)) (filter (stands_in (queue.Router r.number)) items)
mailbox_first r items m h waits =
    first_same (message_item r.channels.items) bare_item m (messages_in (in_mailbox without_oldest r.messenger.binding)) (filter (stands_in (queue.Router r.number)) items)
    (ap (map (message_item r.channels.items)) (sym (messages_first r.messenger.binding m waits)) ∙ h.mailbox)

-- which has a name
first_name :
    (r : Router) (items : List Envelope) (m : Message Key) (o : Option Name) → (h : RouterLeft r items) → (waits : message_waiting r.messenger ≡ Some m)
    → o ≡ slice_get (held r.names (queue.Router r.number)) 0 → o ≡ Some (label (mailbox_first r items m h waits).one)
first_name r items m o h waits named =
    let f = mailbox_first r items m h waits in
    named ∙ ap (λ ns. slice_get ns 0) (h.names (queue.Router r.number) (own_peers r.number) ∙ ap (map label) f.is)

-- nothing ends
pub none_left : (r : Router) (items line : List Envelope) → line ≡ [] → RouterLeft r items → RouterLeft r (left (take 1 line) items)
none_left r items line e h = subst (λ (l : List Envelope). RouterLeft r (left (take 1 l) items)) (sym e) (subst (RouterLeft r) (sym (filter_stays-nil items)) h)

-- the oldest message ends
pub first_ended :
    (r : Router) (items : List Envelope) (m : Message Key) (name : Name) (old new : Row) → RouterLeft r items → message_waiting r.messenger ≡ Some m
    → Some name ≡ slice_get (held r.names (queue.Router r.number)) 0 → new ≡ record old { ends = old.ends ++ message_ends name m }
    → new ≡ record old { ends = old.ends ++ all_end cause.NodeStopped (take 1 (filter (stands_in (queue.Router r.number)) items)) }
first_ended r items m name old new h waits named row =
    let f = mailbox_first r items m h waits in
    let some = first_name r items m (Some name) h waits named in
    let is : name ≡ label f.one = cc in
    row
    ∙ ap (λ l. record old { ends = old.ends ++ l })
    (ap (λ (x : Name). message_ends x m) is
    ∙ (message_copies r.channels.items f.one m f.same
    ∙ (sym (append-nil (ends_with cause.NodeStopped f.one))
    ∙ ap (λ (l : List Envelope). all_end cause.NodeStopped (take 1 l)) (sym f.is))))

pub first_left :
    (r : Router) (names : Board Name) (items : List Envelope) (m : Message Key) → RouterLeft r items → AreApart items → message_waiting r.messenger ≡ Some m
    → ((q : Queue) → held names q ≡ cond (same_queue (queue.Router r.number) q) (drop 1 (held r.names q)) (held r.names q))
    → RouterLeft (emptied r (in_mailbox without_oldest r.messenger.binding) names) (left (take 1 (filter (stands_in (queue.Router r.number)) items)) items)
first_left r names items m h apart waits step =
    let n = r.number in
    let p = queue.Router n in
    let b = in_mailbox without_oldest r.messenger.binding in
    let f = mailbox_first r items m h waits in
    subst (λ (l : List Envelope). RouterLeft (emptied r b names) (left (take 1 l) items)) (sym f.is)
    (left_by r b names items (name_of f.one ∷ []) h
    (λ c. filter-first_away (queue.Peers n c) p items f.one f.rest apart f.is refl)
    (f.later ∙ ap (map bare_item) (sym (first_goes p items f.one f.rest apart f.is)))
    (Agrees-pop n label (held r.names) (held names) items p f.one f.rest apart f.is h.names (λ q own. step q)))

-- ---- one message after another

next_line : (i : ℕ) (q : Queue) (items : List Envelope) → AreApart items
    → take i (filter (stands_in q) items) ++ take 1 (filter (stands_in q) (left (take i (filter (stands_in q) items)) items)) ≡ take (i + 1) (filter (stands_in q) items)
next_line i q items apart =
    let line = filter (stands_in q) items in
    ap (λ l. take i line ++ take 1 l) (line_left i q items line apart refl) ∙ sym (take_then i line)

pub next_ended :
    (i : ℕ) (q : Queue) (items : List Envelope) (first old new : Row) → AreApart items
    → old ≡ record first { ends = first.ends ++ all_end cause.NodeStopped (take i (filter (stands_in q) items)) }
    → new ≡ record old { ends = old.ends ++ all_end cause.NodeStopped (take 1 (filter (stands_in q) (left (take i (filter (stands_in q) items)) items))) }
    → new ≡ record first { ends = first.ends ++ all_end cause.NodeStopped (take (i + 1) (filter (stands_in q) items)) }
next_ended i q items first old new apart so_far now =
    let front = take i (filter (stands_in q) items) in
    let more = take 1 (filter (stands_in q) (left front items)) in
    now
    ∙ (ap (λ (r : Row). record r { ends = r.ends ++ all_end cause.NodeStopped more }) so_far
    ∙ ap (λ l. record first { ends = l })
    (append_assoc first.ends (all_end cause.NodeStopped front) (all_end cause.NodeStopped more)
    ∙ ap (λ l. first.ends ++ l) (sym (flat_map-append (ends_with cause.NodeStopped) front more) ∙ ap (all_end cause.NodeStopped) (next_line i q items apart))))

pub next_left :
    (i : ℕ) (q : Queue) (items : List Envelope) → AreApart items
    → left (take 1 (filter (stands_in q) (left (take i (filter (stands_in q) items)) items))) (left (take i (filter (stands_in q) items)) items) ≡ left (take (i + 1) (filter (stands_in q) items)) items
next_left i q items apart =
    let front = take i (filter (stands_in q) items) in
    let more = take 1 (filter (stands_in q) (left front items)) in
    sym (filter_stays-append (map name_of front) (map name_of more) items)
    ∙ (ap (λ g. filter (stays g) items) (sym (map-append name_of front more)) ∙ ap (λ l. left l items) (next_line i q items apart))

-- there are as many names as messages
pub mailbox_long : (r : Router) (items : List Envelope) → RouterLeft r items → length (held r.names (queue.Router r.number)) ≡ length (filter (stands_in (queue.Router r.number)) items)
mailbox_long r items h =
    let line = filter (stands_in (queue.Router r.number)) items in
    ap length (h.names (queue.Router r.number) (own_peers r.number)) ∙ length-map line label
