-- What a step of an attempt or of a handshake hands on: what the tracker, or the spawner, is then asked, and what that makes of the queues and of both.
use Rattle.p2p_net_tracker.specs.AtDesk.{blocked_asked}
use Rattle.std.proofs.Common.{◌≡◌, ℕ, Bool, true, false, cond, List, [], ◌∷◌, ◌++◌, map, length, refl, ap, sym, ◌∙◌, append-nil, Option, Some, None}
use Rattle.std.specs.Prelude.{filter, flat_map}
use Rattle.p2p_base.specs.declared.key.Key.{Key}
use Rattle.p2p_tracker_directory.specs.Reserved.{peer_of}
use Rattle.p2p_tracker_directory.specs.declared.metadata.Metadata.{Metadata}
use Rattle.p2p_tracker_mailbox.specs.Mailboxes.{with_message_in}
use Rattle.p2p_tracker_mailbox.specs.declared.mailbox.Mailbox.{Mailbox}
use Rattle.p2p_tracker_mailbox.specs.declared.message.Message.{Message}
use Rattle.p2p_tracker_mailbox.specs.declared.message.Message.TheVariants as message
use Rattle.p2p_log.specs.declared.config.Config.{Config}
use Rattle.p2p_log.specs.declared.queue.Queue.{Queue}
use Rattle.p2p_log.specs.declared.queue.Queue.TheVariants as queue
use Rattle.p2p_log.specs.declared.queue.Side.{Side}
use Rattle.p2p_log.specs.declared.queue.Side.TheVariants as side
use Rattle.p2p_log.specs.declared.item.Item.{Item}
use Rattle.p2p_log.specs.declared.item.Item.TheVariants as item
use Rattle.p2p_log.specs.declared.item.Envelope.{Envelope}
use Rattle.p2p_log.specs.declared.entry.Entry.{Entry}
use Rattle.p2p_log.specs.QueueCode.{same_queue}
use Rattle.p2p_log.specs.Lines.{name_of, ended_item, placed, goes, stays, stands_in, live, line}
use Rattle.p2p_log.proofs.Names.{AreApart-live_from}
use Rattle.p2p_log.proofs.QueueNames.{queue_from_same}
use Rattle.p2p_log.proofs.Queues.{same_queue-refl}
use Rattle.p2p_log.proofs.Taken.{other_left}
use Rattle.p2p_log_rules.specs.Attempting.{left_ends}
use Rattle.p2p_log_rules.specs.declared.row.Row.{Row}
use Rattle.p2p_log_rules.proofs.Left.{line_gone}
use Rattle.p2p_log_laws.proofs.LineShape.{left_gone}
use Rattle.p2p_net_queues.proofs.Going.{put_in, line-append}
use Rattle.p2p_net_connections.specs.Spawner.{refuses, told_row, spawned, given_back, released}
use Rattle.p2p_net_connections.specs.Dialing.{IsReservedOver}
use Rattle.p2p_net_connections.specs.SpawnerStands.{SpawnerStands}
use Rattle.p2p_net_connections.specs.declared.spawner.Spawning.{Spawning}
use Rattle.p2p_net_connections.proofs.SpawnerChanges.{spawner_kept, spawner_more}
use Rattle.p2p_net_tracker.specs.Dialed.{asked_puts, names_asked}
use Rattle.p2p_net_tracker.specs.GivenBack.{IsGivenBack}
use Rattle.p2p_net_tracker.specs.Stands.{is_told}
use Rattle.p2p_net_tracker.specs.declared.tracker.Tracker.{Tracker}
use Rattle.p2p_net_tracker.proofs.Changes.{told_apart}
use Rattle.p2p_net_tracker.proofs.Moved.{asked_line, asked_messages, IsAskedBack}
use Rattle.p2p_net_tracker.proofs.ToldLines.{away_none}
use Rattle.p2p_net_dialing.specs.Dialing.{Asks}
use Rattle.p2p_net_dialing.specs.Spawning.{release_item, Spawns}
use Rattle.p2p_net_node.specs.declared.node.Node.{Node}

-- nothing; or the tracker is asked this, by this message; or the spawner is asked for a connection of a reservation, over this link
pub data Handed : Type 0 where
  nothing : Handed
  question : Item → Message Key → Handed
  connection : ℕ → Metadata Key → Handed

abbrev pub handed_puts : ℕ → Handed → List (Queue × Item)
handed_puts n nothing = []
handed_puts n (question i m) = (queue.Tracker n, i) ∷ []
handed_puts n (connection link m) = (queue.Spawner n, item.Spawn (peer_of m) link) ∷ []

-- what the tracker is asked, and by which message
abbrev pub item_in : Handed → Option Item
item_in nothing = None
item_in (question i m) = Some i
item_in (connection link m) = None

abbrev pub message_in : Handed → Option (Message Key)
message_in nothing = None
message_in (question i m) = Some m
message_in (connection link m) = None

-- the spawner's mailbox, once the entry k did so
abbrev pub spawner_after : ℕ → Handed → Spawning → Spawning
spawner_after k nothing s = s
spawner_after k (question i m) s = s
spawner_after k (connection link m) s = spawned false k link m s

-- what is handed on is of its side: what the entry gives back, which is no subscription, and what the spawner is asked for
abbrev pub IsOnItsSide : List Entry → Entry → ℕ → Handed → Type 0
IsOnItsSide log e n nothing = Unit {0}
IsOnItsSide log e n (question i m) = IsGivenBack (log ++ e ∷ []) (length log) m × (blocked_asked m ≡ [])
IsOnItsSide log e n (connection link m) = IsReservedOver log n link m

pub asked_on_its_side : (log : List Entry) (e : Entry) (n : ℕ) (h : Handed) → IsOnItsSide log e n h → IsAskedBack (log ++ e ∷ []) (length log) (message_in h)
asked_on_its_side log e n nothing h = tt
asked_on_its_side log e n (question i m) h = h.0
asked_on_its_side log e n (connection link m) h = tt

-- and it is no subscription
pub none_subscribed : (log : List Entry) (e : Entry) (n : ℕ) (h : Handed) → IsOnItsSide log e n h → flat_map blocked_asked (asked_messages (message_in h)) ≡ []
none_subscribed log e n nothing h = refl
none_subscribed log e n (question i m) h = ap (λ l. l ++ []) h.1
none_subscribed log e n (connection link m) h = refl

-- the entry k did so at the node n, whose tracker's mailbox is this then
pub record HandedOn (k n : ℕ) (h : Handed) (way : Mailbox Key) (old new : Node) (row after : Row) : Type 0 where
  pub row_is : after ≡ record row { puts = row.puts ++ handed_puts n h }
  pub mailbox : new.tracker.mailbox ≡ way
  pub tracker : new.tracker ≡ record old.tracker { mailbox = new.tracker.mailbox; names = old.tracker.names ++ names_asked k (item_in h) }
  pub spawner : new.spawning ≡ spawner_after k h old.spawning
  pub rest : new ≡ record old { tracker = new.tracker; spawning = new.spawning }

-- ---- by what is ready

module _ (k n : ℕ) (way : Mailbox Key) (old new : Node) (row after : Row) (same : old.tracker.mailbox ≡ way) where
  -- nothing is asked of the spawner
  tracker_asked : (h : Handed) → handed_puts n h ≡ asked_puts n (item_in h) → spawner_after k h old.spawning ≡ old.spawning → Asks k n (item_in h) old new row after → HandedOn k n h way old new row after
  tracker_asked h puts alone does =
      let names = old.tracker.names ++ names_asked k (item_in h) in
      record {
        row_is = does.0 ∙ ap (λ l. record row { puts = row.puts ++ l }) (sym puts);
        mailbox = ap (λ (z : Node). z.tracker.mailbox) does.1 ∙ same;
        tracker = ap (λ (z : Node). z.tracker) does.1 ∙ ap (λ w. record old.tracker { mailbox = w; names = names }) (sym (ap (λ (z : Node). z.tracker.mailbox) does.1));
        spawner = ap (λ (z : Node). z.spawning) does.1 ∙ sym alone;
        rest = does.1
            ∙ (ap (λ w. record old { tracker = w }) (sym (ap (λ (z : Node). z.tracker) does.1)) ∙ ap (λ w. record old { tracker = new.tracker; spawning = w }) (sym (ap (λ (z : Node). z.spawning) does.1)));
      }

  pub nothing_asked : Asks k n None old new row after → HandedOn k n nothing way old new row after
  nothing_asked does = tracker_asked nothing refl refl does

  pub question_asked : (i : Item) (m : Message Key) → Asks k n (Some i) old new row after → HandedOn k n (question i m) way old new row after
  question_asked i m does = tracker_asked (question i m) refl refl does

  module _ (link : ℕ) (m : Metadata Key) (h : Spawns k n link m old new row after) where
    -- the row and the tracker, by whether the spawner's mailbox is full
    row_by : (b : Bool) → refuses old.spawning ≡ b → after ≡ record (told_row b n link m row) { puts = (told_row b n link m row).puts ++ asked_puts n (release_item (released b m)) }
    row_by b is = h.row_is ∙ ap (λ c. record (told_row c n link m row) { puts = (told_row c n link m row).puts ++ asked_puts n (release_item (released c m)) }) is

    tracker_by : (b : Bool) → refuses old.spawning ≡ b → new.tracker ≡ record old.tracker { mailbox = new.tracker.mailbox; names = old.tracker.names ++ names_asked k (release_item (released b m)) }
    tracker_by b is = h.tracker ∙ ap (λ c. record old.tracker { mailbox = new.tracker.mailbox; names = old.tracker.names ++ names_asked k (release_item (released c m)) }) is

    mailbox_by : (b : Bool) → refuses old.spawning ≡ b → new.tracker.mailbox ≡ given_back b m way
    mailbox_by b is = h.mailbox ∙ (ap (λ c. given_back c m old.tracker.mailbox) is ∙ ap (given_back b m) same)

    spawner_by : (b : Bool) → refuses old.spawning ≡ b → new.spawning ≡ spawned b k link m old.spawning
    spawner_by b is = h.spawner ∙ ap (λ c. spawned c k link m old.spawning) is

    -- the reservation is given back
    pub connection_refused : refuses old.spawning ≡ true → HandedOn k n (question (item.Release (peer_of m)) (message.Release m)) (with_message_in way (message.Release m)) old new row after
    connection_refused full = record { row_is = row_by true full; mailbox = mailbox_by true full; tracker = tracker_by true full; spawner = spawner_by true full; rest = h.rest }

    pub connection_asked : refuses old.spawning ≡ false → HandedOn k n (connection link m) way old new row after
    connection_asked room = record {
      row_is = row_by false room ∙ ap (λ ps. record row { puts = ps }) (append-nil (row.puts ++ (queue.Spawner n, item.Spawn (peer_of m) link) ∷ []));
      mailbox = mailbox_by false room;
      tracker = tracker_by false room;
      spawner = spawner_by false room;
      rest = h.rest;
    }

-- ---- what goes of a queue

-- where a whole line goes, the others stay
whole_left : (log : List Entry) (q p : Queue) → filter (stands_in p) (filter (stays (map name_of (line log q))) (live log)) ≡ cond (same_queue q p) [] (line log p)
unfolding line
whole_left log q p = by (same_queue q p) refl
  where
    by : (b : Bool) → same_queue q p ≡ b → filter (stands_in p) (filter (stays (map name_of (line log q))) (live log)) ≡ cond b [] (line log p)
    by true is = ap (λ r. filter (stands_in r) (filter (stays (map name_of (line log q))) (live log))) (queue_from_same q p is) ∙ line_gone (live log) q
    by false is = other_left (live log) q p (AreApart-live_from 0 log) is

-- its oldest item is taken, and all others end
pub all_gone : (log : List Entry) (q : Queue) (z : Envelope) (zs : List Envelope) → line log q ≡ z ∷ zs → (p : Queue)
    → filter (stands_in p) (filter (stays (name_of z ∷ flat_map ended_item (left_ends zs))) (live log)) ≡ cond (same_queue q p) [] (line log p)
all_gone log q z zs first p =
    ap (λ l. filter (stands_in p) (filter (stays l) (live log))) (ap (λ l. name_of z ∷ l) (left_gone zs) ∙ ap (map name_of) (sym first)) ∙ whole_left log q p

-- these wait in it, and none goes
pub none_gone : (log : List Entry) (q : Queue) (xs : List Envelope) → line log q ≡ xs → (p : Queue) → filter (stands_in p) (filter (stays []) (live log)) ≡ cond (same_queue q p) xs (line log p)
none_gone log q xs waits p = away_none log p ∙ by (same_queue q p) refl
  where
    by : (b : Bool) → same_queue q p ≡ b → line log p ≡ cond b xs (line log p)
    by true is = ap (line log) (queue_from_same q p is) ∙ waits
    by false is = refl

-- ---- what it makes of the queues

-- what a tracker tells does not wait for a spawner
told_unspawned : (n m : ℕ) (p : Queue) → is_told n p ≡ true → same_queue p (queue.Spawner m) ≡ false
told_unspawned n m (queue.Addresses k) h = refl
told_unspawned n m (queue.Dialer k) h = refl
told_unspawned n m (queue.Control k e) h = refl
told_unspawned n m (queue.PeerSet k e) h = refl
told_unspawned n m (queue.PeerSetUpdates k e) h = refl
told_unspawned n m (queue.Blocked k e) h = refl
told_unspawned n m (queue.Handshake k e) h = refl
told_unspawned n m _ h = cc

-- and nothing is put into a link
pub handed_unlinked : (n k : ℕ) (h : Handed) (s : Side) (j : ℕ) → filter (stands_in (queue.Link j s)) (placed k 0 (handed_puts n h)) ≡ []
handed_unlinked n k nothing s j = refl
handed_unlinked n k (question i m) side.Out j = refl
handed_unlinked n k (question i m) side.In j = refl
handed_unlinked n k (connection link m) side.Out j = refl
handed_unlinked n k (connection link m) side.In j = refl

module _ (log : List Entry) (e : Entry) (n : ℕ) (h : Handed) (puts : e.puts ≡ handed_puts n h) where
  -- what stays in a queue, by what goes
  abbrev kept : Queue → List Envelope
  kept p = filter (stands_in p) (filter (stays (goes e)) (live log))

  line_after : (p : Queue) (l : List Envelope) → kept p ≡ l → line (log ++ e ∷ []) p ≡ l ++ filter (stands_in p) (placed (length log) 0 (handed_puts n h))
  line_after p l stay = line-append log e p ∙ (ap (λ w. w ++ put_in log e p) stay ∙ ap (λ w. l ++ filter (stands_in p) (placed (length log) 0 w)) puts)

  pub line_asked : kept (queue.Tracker n) ≡ line log (queue.Tracker n) → line (log ++ e ∷ []) (queue.Tracker n) ≡ line log (queue.Tracker n) ++ asked_line n (length log) (item_in h)
  line_asked stay = line_after (queue.Tracker n) (line log (queue.Tracker n)) stay ∙ ap (λ l. line log (queue.Tracker n) ++ l) (by h)
    where
      by : (o : Handed) → filter (stands_in (queue.Tracker n)) (placed (length log) 0 (handed_puts n o)) ≡ asked_line n (length log) (item_in o)
      by nothing = refl
      by (question i m) = ap (λ b. cond b (asked_line n (length log) (Some i)) []) (same_queue-refl (queue.Tracker n))
      by (connection link m) = refl

  -- nothing is put where neither of both reads
  pub line_elsewhere : (p : Queue) (l : List Envelope) → same_queue p (queue.Tracker n) ≡ false → same_queue p (queue.Spawner n) ≡ false → kept p ≡ l → line (log ++ e ∷ []) p ≡ l
  line_elsewhere p l untracked unspawned stay = line_after p l stay ∙ (ap (λ w. l ++ w) (by h) ∙ append-nil l)
    where
      by : (o : Handed) → filter (stands_in p) (placed (length log) 0 (handed_puts n o)) ≡ []
      by nothing = refl
      by (question i m) = ap (λ b. cond b (asked_line n (length log) (Some i)) []) untracked
      by (connection link m) = ap (λ b. cond b (record { entry = length log; place = 0; queue = queue.Spawner n; item = item.Spawn (peer_of m) link } ∷ []) []) unspawned

  pub line_told : (p : Queue) (l : List Envelope) → is_told n p ≡ true → kept p ≡ l → line (log ++ e ∷ []) p ≡ l
  line_told p l own stay = line_elsewhere p l (told_apart n n p own) (told_unspawned n n p own) stay

  -- the spawner's mailbox stands for the log with this entry, of which no item of its queue goes
  pub handed_spawner : (configs : List Config) (s : Spawning) → SpawnerStands configs log n s → IsOnItsSide log e n h → kept (queue.Spawner n) ≡ line log (queue.Spawner n)
      → SpawnerStands configs (log ++ e ∷ []) n (spawner_after (length log) h s)
  handed_spawner configs s stands right stay = by h right (line_after (queue.Spawner n) (line log (queue.Spawner n)) stay)
    where
      by : (o : Handed) → IsOnItsSide log e n o → line (log ++ e ∷ []) (queue.Spawner n) ≡ line log (queue.Spawner n) ++ filter (stands_in (queue.Spawner n)) (placed (length log) 0 (handed_puts n o))
          → SpawnerStands configs (log ++ e ∷ []) n (spawner_after (length log) o s)
      by nothing on after = spawner_kept configs log e n s stands (after ∙ append-nil (line log (queue.Spawner n)))
      by (question i m) on after = spawner_kept configs log e n s stands (after ∙ append-nil (line log (queue.Spawner n)))
      by (connection link m) on after =
          spawner_more configs log e n link (peer_of m) m s stands refl on
          (after
          ∙ ap (λ b. line log (queue.Spawner n) ++ cond b (record { entry = length log; place = 0; queue = queue.Spawner n; item = item.Spawn (peer_of m) link } ∷ []) []) (same_queue-refl (queue.Spawner n)))

-- ---- what it makes of the tracker

-- it has these names more and such a mailbox, after a step that changed no more than its mailbox and what it told
pub tracker_after : (t mid u : Tracker) (ns : List (ℕ × ℕ)) (w : Mailbox Key) → mid ≡ record t { mailbox = mid.mailbox; told = mid.told } → u ≡ record mid { mailbox = u.mailbox; names = mid.names ++ ns } → u.mailbox ≡ w
    → u ≡ record t { mailbox = w; names = t.names ++ ns; told = u.told }
tracker_after t mid u ns w first then mailbox =
    then
    ∙ (ap (λ (z : Tracker). record z { mailbox = u.mailbox; names = z.names ++ ns }) first
    ∙ (ap (λ v. record t { mailbox = u.mailbox; names = t.names ++ ns; told = v }) (sym (ap (λ (z : Tracker). z.told) then))
    ∙ ap (λ v. record t { mailbox = v; names = t.names ++ ns; told = u.told }) mailbox))
