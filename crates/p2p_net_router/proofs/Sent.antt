-- A router that was handed content.
use Rattle.std.proofs.Common.{◌≡◌, ℕ, Bool, true, false, List, [], ◌∷◌, ◌++◌, length, refl, ap, sym, subst, ◌∙◌, arith, append-nil, if◌then◌else◌, Some, None}
use Rattle.std.specs.Prelude.{filter, flat_map, map, nat_le, nat_lt, not}
use Rattle.std.proofs.lemmas.Bool.Decides.{nat_tests}
use Rattle.std.proofs.lemmas.Bool.{false≢true}
use Rattle.std.proofs.lemmas.List.{length-map}
use Rattle.p2p_base.specs.declared.key.Key.{Key}
use Rattle.p2p_base.specs.declared.outcome.Feedback.TheVariants as feedback
use Rattle.p2p_base.specs.declared.outcome.Unreliable.TheVariants.{Outcome, Rejected}
use Rattle.p2p_base.specs.Queue.{Queue as Waiting, has_room}
use Rattle.p2p_flow.specs.declared.plain.Recipients.{Recipients}
use Rattle.p2p_flow.specs.declared.plain.Recipients.TheVariants as to
use Rattle.p2p_wire.specs.declared.encoded.EncodedData.{EncodedData}
use Rattle.p2p_router.specs.Mailbox.{appended, with_content}
use Rattle.p2p_router.specs.Routing.{link_of}
use Rattle.p2p_router.specs.Messenger.{Desk, is_bound, in_mailbox, content_answered, content_taken, encoded_of}
use Rattle.p2p_router.specs.declared.message.Message.{Message}
use Rattle.p2p_router.specs.declared.message.Message.TheVariants as message
use Rattle.p2p_router.specs.declared.messenger.Binding.{Binding}
use Rattle.p2p_router.specs.declared.messenger.Binding.TheVariants.{Unbound, Bound, Closed}
use Rattle.p2p_log.specs.declared.config.Config.{Config}
use Rattle.p2p_log.specs.declared.entry.Entry.{Entry}
use Rattle.p2p_log.specs.declared.entry.Reply.{Reply}
use Rattle.p2p_log.specs.declared.end.Cause.TheVariants as cause
use Rattle.p2p_log.specs.declared.end.Outcome.TheVariants as outcome
use Rattle.p2p_log.specs.declared.queue.Queue.{Queue}
use Rattle.p2p_log.specs.declared.queue.Queue.TheVariants as queue
use Rattle.p2p_log.specs.declared.item.Item.{Item}
use Rattle.p2p_log.specs.declared.item.Item.TheVariants as item
use Rattle.p2p_log.specs.declared.item.Envelope.{Envelope}
use Rattle.p2p_log_rules.specs.declared.row.Row.{Row}
use Rattle.p2p_log.specs.Lines.{ended_item, stays, placed, stands_in}
use Rattle.p2p_log_rules.specs.Facts.{is_up}
use Rattle.p2p_log_rules.specs.Frames.{frame_of}
use Rattle.p2p_log_rules.specs.Effect.{only, copies_end, sent_row, mailbox_size_at, router_capacity}
use Rattle.p2p_log.proofs.Lines.{filter_stays-nil}
use Rattle.p2p_net_queues.specs.declared.board.Board.{Board}
use Rattle.p2p_net_queues.specs.Board.{held}
use Rattle.p2p_net_queues.proofs.Placing.{ended_item-copies}
use Rattle.p2p_net_router.specs.Names.{Agrees, label, bare_item}
use Rattle.p2p_net_router.specs.Building.{NamesBuild}
use Rattle.p2p_net_router.specs.Frames.{refuses, frame_taken_in}
use Rattle.p2p_net_router.specs.Items.{key_cmp, message_item}
use Rattle.p2p_net_router.specs.Sound.{IsInTurn, said_of}
use Rattle.p2p_net_router.specs.Holds.{Holds, after}
use Rattle.p2p_net_router.specs.Stands.{StandsOver, HasPlaces}
use Rattle.p2p_net_router.specs.declared.router.Router.{Router}
use Rattle.p2p_net_router.specs.declared.name.Name.{Name}
use Rattle.p2p_net_router.proofs.Asked.{Holds-asked, bound_items}
use Rattle.p2p_net_router.proofs.Building.{own_peers as own_queue}
use Rattle.p2p_net_router.proofs.Kept.{rebound}
use Rattle.p2p_net_router.proofs.Noting.{NamesBuild-start}
use Rattle.p2p_net_router.proofs.Over.{over_rebound}

-- ---- the mailbox

no_room : (q : Waiting (Message Key)) → refuses (if has_room q then Outcome feedback.Ok else Rejected) ≡ true → has_room q ≡ false
no_room q h = (elim (has_room q) as (λ b. refuses (if b then Outcome feedback.Ok else Rejected) ≡ true → b ≡ false) [ true ↦ λ e. absurd (false≢true e) | false ↦ λ e. refl ]) h

room : (q : Waiting (Message Key)) → refuses (if has_room q then Outcome feedback.Ok else Rejected) ≡ false → has_room q ≡ true
room q h = (elim (has_room q) as (λ b. refuses (if b then Outcome feedback.Ok else Rejected) ≡ false → b ≡ true) [ true ↦ λ e. refl | false ↦ λ e. absurd (false≢true (sym e)) ]) h

-- the mailbox of a bound messenger, and whether it has room
record HasRoom (b : Binding Key) (r : Bool) : Type 0 where
  q : Waiting (Message Key)
  is : b ≡ Bound q
  room_is : has_room q ≡ r

full_mailbox : (b : Binding Key) → is_bound b ≡ true → refuses (content_answered b) ≡ true → HasRoom b false
full_mailbox Unbound h r = absurd (false≢true h)
full_mailbox (Bound q) h r = record { q = q; is = refl; room_is = no_room q r }
full_mailbox Closed h r = absurd (false≢true h)

open_mailbox : (b : Binding Key) → is_bound b ≡ true → refuses (content_answered b) ≡ false → HasRoom b true
open_mailbox Unbound h r = absurd (false≢true h)
open_mailbox (Bound q) h r = record { q = q; is = refl; room_is = room q r }
open_mailbox Closed h r = absurd (false≢true h)

room_or_full : (x size : ℕ) → nat_lt x size ≡ not (nat_le size x)
room_or_full x size = grind (arith, nat_tests)

-- what the messenger told, by the frame that was handed back
pub was_refused : (b : Bool) (frame : List ℕ) → None ≡ frame_taken_in b frame → b ≡ true
was_refused true frame h = refl
was_refused false frame h = cc

pub was_taken_in : (b : Bool) (frame same : List ℕ) → Some same ≡ frame_taken_in b frame → (b ≡ false) × (same ≡ frame)
was_taken_in true frame same h = cc
was_taken_in false frame same h = (refl, cc)

pub encoded_same : (e : EncodedData) (channel : ℕ) (bytes same : List ℕ) → e.channel ≡ channel → e.payload ≡ frame_of channel bytes → bytes ≡ same → e ≡ encoded_of channel same
encoded_same e channel bytes same c p b =
    ap (λ k. record { channel = k; payload = e.payload }) c ∙ ap (λ l. record { channel = channel; payload = l }) (p ∙ ap (frame_of channel) b)

-- the mailbox has room where its items leave some
log_room :
    (configs : List Config) (log : List Entry) (r : Router) (items : List Envelope) (q : Waiting (Message Key)) → StandsOver configs log r items → r.messenger.binding ≡ Bound q
    → has_room q ≡ not (nat_le (router_capacity configs log r.number) (length (filter (stands_in (queue.Router r.number)) items)))
log_room configs log r items q s bound =
    let line = filter (stands_in (queue.Router r.number)) items in
    let places : q.capacity ≡ router_capacity configs log r.number = subst (HasPlaces (router_capacity configs log r.number)) bound s.places in
    let long : length q.items ≡ length line =
    sym (length-map q.items (message_item r.channels.items))
    ∙ (ap (λ l. length (map (message_item r.channels.items) l)) (sym (bound_items r.messenger.binding q bound))
    ∙ (ap length (s.holds.each (queue.Router r.number) (own_queue r.number)) ∙ length-map line bare_item))
    in
    ap (nat_lt (length q.items)) places
    ∙ (ap (λ k. nat_lt k (router_capacity configs log r.number)) long ∙ room_or_full (length line) (router_capacity configs log r.number))

not-false : (b : Bool) → false ≡ not b → b ≡ true
not-false true h = refl
not-false false h = absurd (false≢true h)

not-true : (b : Bool) → true ≡ not b → b ≡ false
not-true true h = absurd (false≢true (sym h))
not-true false h = refl

-- ---- the row

-- what a message comes to, by what stands in the router's queues
abbrev pub sent_over : List Config → List Entry → Router → List Envelope → Reply → Reply → ℕ → ℕ → Bool → List ℕ → List Key → Row
sent_over configs log r items accepted refused entry channel priority frame to =
    sent_row accepted refused (is_up log r.number) (nat_le (router_capacity configs log r.number) (length (filter (stands_in (queue.Router r.number)) items)))
    r.number entry channel priority frame to

pub row_lost :
    (configs : List Config) (log : List Entry) (r : Router) (items : List Envelope) (accepted refused : Reply) (entry channel : ℕ) (priority : Bool) (frame : List ℕ) (to : List Key) (row : Row)
    → StandsOver configs log r items → is_bound r.messenger.binding ≡ false
    → row ≡ record { reply = accepted; takes = []; puts = []; ends = copies_end entry 0 to (outcome.Dropped cause.Unbound) }
    → row ≡ sent_over configs log r items accepted refused entry channel priority frame to
row_lost configs log r items accepted refused entry channel priority frame to row s none e =
    let full = nat_le (router_capacity configs log r.number) (length (filter (stands_in (queue.Router r.number)) items)) in
    e ∙ sym (ap (λ b. sent_row accepted refused b full r.number entry channel priority frame to) (sym s.bound ∙ none))

pub row_refused :
    (configs : List Config) (log : List Entry) (r : Router) (items : List Envelope) (accepted refused : Reply) (entry channel : ℕ) (priority : Bool) (frame : List ℕ) (to : List Key) (row : Row)
    → StandsOver configs log r items → is_bound r.messenger.binding ≡ true → refuses (content_answered r.messenger.binding) ≡ true → row ≡ only refused
    → row ≡ sent_over configs log r items accepted refused entry channel priority frame to
row_refused configs log r items accepted refused entry channel priority frame to row s up off e =
    let full = nat_le (router_capacity configs log r.number) (length (filter (stands_in (queue.Router r.number)) items)) in
    let h = full_mailbox r.messenger.binding up off in
    e
    ∙ sym
    (ap (λ b. sent_row accepted refused b full r.number entry channel priority frame to) (sym s.bound ∙ up)
    ∙ ap (λ b. sent_row accepted refused true b r.number entry channel priority frame to) (not-false full (sym h.room_is ∙ log_room configs log r items h.q s h.is)))

abbrev pub sent_item : ℕ → ℕ → ℕ → Bool → List ℕ → List Key → Queue × Item
sent_item n entry channel priority frame to = (queue.Router n, item.Content channel frame priority entry to)

pub row_accepted :
    (configs : List Config) (log : List Entry) (r : Router) (items : List Envelope) (accepted refused : Reply) (entry channel : ℕ) (priority : Bool) (frame : List ℕ) (to : List Key) (row : Row)
    → StandsOver configs log r items → is_bound r.messenger.binding ≡ true → refuses (content_answered r.messenger.binding) ≡ false
    → row ≡ record (only accepted) { puts = sent_item r.number entry channel priority frame to ∷ [] }
    → row ≡ sent_over configs log r items accepted refused entry channel priority frame to
row_accepted configs log r items accepted refused entry channel priority frame to row s up off e =
    let full = nat_le (router_capacity configs log r.number) (length (filter (stands_in (queue.Router r.number)) items)) in
    let h = open_mailbox r.messenger.binding up off in
    e
    ∙ sym
    (ap (λ b. sent_row accepted refused b full r.number entry channel priority frame to) (sym s.bound ∙ up)
    ∙ ap (λ b. sent_row accepted refused true b r.number entry channel priority frame to) (not-true full (sym h.room_is ∙ log_room configs log r items h.q s h.is)))

-- ---- what the router then holds

desk_same : (d e : Desk Key) (whom : Recipients Key) (channel : ℕ) (bytes : List ℕ) (priority : Bool)
    → e ≡ content_taken d whom channel bytes priority → in_mailbox (λ q. with_content q (message.Content whom (encoded_of channel bytes) priority)) d.binding ≡ d.binding → e ≡ d
desk_same d e whom channel bytes priority h k = h ∙ ap (λ b. record { binding = b; waiting = d.waiting; lists = d.lists }) k

-- nothing entered the mailbox
sent_nothing :
    (configs : List Config) (log : List Entry) (entry : ℕ) (r : Router) (items : List Envelope) (desk : Desk Key) (row : Row)
    → StandsOver configs log r items → desk ≡ r.messenger → row.takes ≡ [] → row.puts ≡ [] → flat_map ended_item row.ends ≡ []
    → StandsOver configs log (rebound r desk r.names) (after entry row items)
sent_nothing configs log entry r items desk row s same t p e =
    let whole : after entry row items ≡ items =
    ap (λ g. filter (stays g) items ++ placed entry 0 row.puts) (ap (λ l. l ++ flat_map ended_item row.ends) t ∙ e)
    ∙ (ap (λ l. filter (stays []) items ++ placed entry 0 l) p ∙ (append-nil (filter (stays []) items) ∙ filter_stays-nil items))
    in
    subst (λ (d : Desk Key). StandsOver configs log (rebound r d r.names) (after entry row items)) (sym same) (subst (StandsOver configs log r) (sym whole) s)

pub lost_stands :
    (configs : List Config) (log : List Entry) (entry : ℕ) (r : Router) (items : List Envelope) (accepted : Reply) (row : Row) (keys : List Key)
    → StandsOver configs log r items
    → row ≡ record { reply = accepted; takes = []; puts = []; ends = copies_end entry 0 keys (outcome.Dropped cause.Unbound) }
    → StandsOver configs log (rebound r r.messenger r.names) (after entry row items)
lost_stands configs log entry r items accepted row keys s e =
    sent_nothing configs log entry r items r.messenger row s refl
    (ap (λ (x : Row). x.takes) e) (ap (λ (x : Row). x.puts) e) (ap (λ (x : Row). flat_map ended_item x.ends) e ∙ ended_item-copies entry 0 keys (outcome.Dropped cause.Unbound))

kept_refused : (b : Binding Key) (m : Message Key) → HasRoom b false → in_mailbox (λ q. with_content q m) b ≡ b
kept_refused b m h =
    ap (in_mailbox (λ q. with_content q m)) h.is ∙ (ap (λ t. Bound (if t then appended h.q m else h.q)) h.room_is ∙ sym h.is)

taken_in : (b : Binding Key) (m : Message Key) → (h : HasRoom b true) → in_mailbox (λ q. with_content q m) b ≡ Bound (appended h.q m)
taken_in b m h = ap (in_mailbox (λ q. with_content q m)) h.is ∙ ap (λ t. Bound (if t then appended h.q m else h.q)) h.room_is

pub refused_stands :
    (configs : List Config) (log : List Entry) (entry : ℕ) (r : Router) (items : List Envelope) (desk : Desk Key) (refused : Reply) (row : Row) (bytes : List ℕ) (channel : ℕ) (priority : Bool) (to : Recipients Key)
    → StandsOver configs log r items
    → desk ≡ content_taken r.messenger to channel bytes priority → is_bound r.messenger.binding ≡ true → refuses (content_answered r.messenger.binding) ≡ true
    → row ≡ only refused → StandsOver configs log (rebound r desk r.names) (after entry row items)
refused_stands configs log entry r items desk refused row bytes channel priority to s told up off e =
    sent_nothing configs log entry r items desk row s
    (desk_same r.messenger desk to channel bytes priority told (kept_refused r.messenger.binding _ (full_mailbox r.messenger.binding up off)))
    (ap (λ (x : Row). x.takes) e) (ap (λ (x : Row). x.puts) e) (ap (λ (x : Row). flat_map ended_item x.ends) e)

pub accepted_stands :
    (configs : List Config) (log : List Entry) (entry : ℕ) (r : Router) (items : List Envelope) (desk : Desk Key) (names : Board Name) (accepted : Reply) (row : Row) (bytes : List ℕ) (channel : ℕ) (priority : Bool) (keys : List Key)
    → StandsOver configs log r items
    → desk ≡ content_taken r.messenger (to.Some keys) channel bytes priority → is_bound r.messenger.binding ≡ true → refuses (content_answered r.messenger.binding) ≡ false
    → row ≡ record (only accepted) { puts = sent_item r.number entry channel priority (frame_of channel bytes) keys ∷ [] }
    → ((n : ℕ) (its : List Envelope) → NamesBuild n r.names its entry (only accepted) → NamesBuild n names its entry row)
    → StandsOver configs log (rebound r desk names) (after entry row items)
accepted_stands configs log entry r items desk names accepted row bytes channel priority keys s told up off f named =
    let n = r.number in
    let size = mailbox_size_at configs n in
    let h = open_mailbox r.messenger.binding up off in
    let m : Message Key = message.Content (to.Some keys) (encoded_of channel bytes) priority in
    let x : Envelope = record { entry = entry; place = 0; queue = queue.Router n; item = item.Content channel (frame_of channel bytes) priority entry keys } in
    let bound_desk : Desk Key = record r.messenger { binding = Bound (appended h.q m) } in
    let desk_now : desk ≡ bound_desk =
    told ∙ ap (λ b. record { binding = b; waiting = r.messenger.waiting; lists = r.messenger.lists }) (taken_in r.messenger.binding m h)
    in
    let whole : after entry row items ≡ items ++ x ∷ [] =
    ap (λ (y : Row). after entry y items) f ∙ ap (λ l. l ++ x ∷ []) (filter_stays-nil items)
    in
    let agree : Agrees n label (held names) (items ++ x ∷ []) =
    subst (λ (y : Row). Agrees n label (held names) (items ++ placed entry 0 y.puts)) f
    (named n items (NamesBuild-start n r.names items entry (only accepted) refl s.holds.names))
    in
    let holds : Holds size (rebound r bound_desk names) (items ++ x ∷ []) =
    Holds-asked size r h.q m r.actor.links r.peers names x items s.holds
    (record {
      bound = h.is;
      there = refl;
      is = refl;
      proper = tt;
      no_list = refl;
      single = s.holds.sound.single;
      turns = λ k.
          subst (IsInTurn size r.peers k (link_of key_cmp r.actor.links k)) (ap (said_of k) (bound_items r.messenger.binding h.q h.is) ∙ sym (append-nil (said_of k h.q.items)))
          (s.holds.sound.turns k);
      frames = λ b c. refl;
    }) agree
    in
    subst (λ (d : Desk Key). StandsOver configs log (rebound r d names) (after entry row items)) (sym desk_now)
    (over_rebound configs log r bound_desk names items (after entry row items) s (sym up) (λ k g. subst (HasPlaces k) h.is g)
    (subst (Holds size (rebound r bound_desk names)) (sym whole) holds))
