-- How connections end: each entry that ends one shows its reason, and the release of an older connection comes before the beginning of a newer one.
use Rattle.std.specs.Prelude.{◌≡◌, ◌⊎◌, ℕ, ◌<◌, Bool, true, false, List, [], ◌∷◌, take, Some, None, slice_get}
use Rattle.p2p_base.specs.declared.key.Key.{Key}
use Rattle.p2p_log.specs.declared.config.Config.{Config}
use Rattle.p2p_log.specs.declared.queue.Queue.{Queue}
use Rattle.p2p_log.specs.declared.queue.Queue.TheVariants as queue
use Rattle.p2p_log.specs.declared.item.Item.{Item}
use Rattle.p2p_log.specs.declared.item.Item.TheVariants as item
use Rattle.p2p_log.specs.declared.item.Envelope.{Envelope}
use Rattle.p2p_log.specs.declared.entry.Ended.{Ended}
use Rattle.p2p_log.specs.declared.entry.Ended.TheVariants as ended
use Rattle.p2p_log.specs.declared.event.Act.TheVariants as act
use Rattle.p2p_log.specs.declared.entry.Entry.{Entry}
use Rattle.p2p_log.specs.declared.entry.Reply.TheVariants as reply
use Rattle.p2p_log.specs.Lines.{name_of, line}
use Rattle.p2p_log_rules.specs.declared.row.Half.{Half}
use Rattle.p2p_log_rules.specs.Connections.{ends_connection, is_running, live_half}
use Rattle.p2p_log_rules.specs.Cutting.{is_broken}
use Rattle.p2p_log_rules.specs.Dropping.{other_side}
use Rattle.p2p_log_rules.specs.Facts.{channels, capacity_in}
use Rattle.p2p_log_rules.specs.Frames.{message_in, is_ping_in}
use Rattle.p2p_log_rules.specs.Metering.{limit_at}
use Rattle.p2p_log_rules.specs.Spawning.{Spawned, connections_of}
use Rattle.p2p_log_laws.specs.Leaving.{IsTakenFrom}

-- ---- for what reason

-- of the names of these the only one is that of the oldest item of the queue, which is of this kind
pub record TakesOldest (before : List Entry) (q : Queue) (names : List (ℕ × ℕ)) (IsOfKind : Item → Type 0) : Type 0 where
  pub oldest : Envelope
  pub later : List Envelope
  pub stood : line before q ≡ oldest ∷ later
  pub takes : names ≡ name_of oldest ∷ []
  pub kind : IsOfKind oldest.item

-- it is a frame that holds neither a message nor a ping within the limit
abbrev pub IsNoFrame : ℕ → Item → Type 0
IsNoFrame limit (item.Frame (Some copy) frame) = message_in frame limit ≡ None
IsNoFrame limit (item.Frame None frame) = is_ping_in frame limit ≡ false
IsNoFrame limit _ = ⊥

-- it is a frame that holds a message within the limit, on a channel that is not registered at the node
abbrev pub IsOnNoChannel : List Config → List Entry → ℕ → Item → Type 0
IsOnNoChannel configs before n (item.Frame (Some copy) frame) =
    (message : ℕ × List ℕ) × (message_in frame (limit_at configs n) ≡ Some message) × (capacity_in (channels configs before n) message.0 ≡ None)
IsOnNoChannel configs before n _ = ⊥

-- what is true where a half ends its connection for this reason, and takes these
abbrev pub HasReason : List Config → List Entry → ℕ → ℕ → Half → List (ℕ × ℕ) → Ended → Type 0
HasReason configs before n conn half takes ended.Killed = TakesOldest before (queue.Control n conn) takes (λ i. i ≡ item.Kill)
HasReason configs before n conn half takes ended.SendFailed = is_broken before half.link (other_side half.writes) ≡ true
HasReason configs before n conn half takes ended.ReceiveFailed = is_broken before half.link (other_side half.writes) ≡ true
HasReason configs before n conn half takes ended.DecodeFailed = TakesOldest before (queue.Link half.link (other_side half.writes)) takes (IsNoFrame (limit_at configs n))
HasReason configs before n conn half takes ended.InvalidChannel = TakesOldest before (queue.Link half.link (other_side half.writes)) takes (IsOnNoChannel configs before n)

-- the connection had a half that had not ended and that ran, and its reason is true
pub record ShowsEnd (configs : List Config) (before : List Entry) (e : Entry) (n conn : ℕ) (why : Ended) : Type 0 where
  pub half : Half
  pub lived : live_half before n conn ≡ Some half
  pub ran : is_running before n conn ≡ true
  pub reason : HasReason configs before n conn half e.takes why

-- ---- the entries that end connections

-- the entry stops this node
pub record StopsNode (e : Entry) (n : ℕ) : Type 0 where
  pub by_start : Bool
  pub acts : e.event.act ≡ act.Stop by_start n
  pub done : e.reply ≡ reply.Ok

-- each entry that ends a connection shows why, as its reply says, or stops the connection's node
abbrev pub EachEndShows : List Config → List Entry → Type 0
EachEndShows configs log =
    (i n conn : ℕ) (e : Entry) → slice_get log i ≡ Some e → ends_connection n conn (take i log) e ≡ true
    → ((why : Ended) × (e.reply ≡ reply.Ended why) × ShowsEnd configs (take i log) e n conn why) ⊎ StopsNode e n

-- an entry ends one connection at most, or connections of the node alone that it stops
abbrev pub EachEndsOne : List Entry → Type 0
EachEndsOne log =
    (i n m c d : ℕ) (e : Entry) → slice_get log i ≡ Some e → ends_connection n c (take i log) e ≡ true → ends_connection m d (take i log) e ≡ true
    → (n ≡ m) × ((c ≡ d) ⊎ StopsNode e n)

-- and a connection ends at one entry at most
abbrev pub EachIsEndedOnce : List Entry → Type 0
EachIsEndedOnce log =
    (i j n conn : ℕ) (e f : Entry) → slice_get log i ≡ Some e → slice_get log j ≡ Some f → ends_connection n conn (take i log) e ≡ true → ends_connection n conn (take j log) f ≡ true
    → i ≡ j

-- ---- what routers are told of them

-- the envelope is the first that is put by an entry that ends this connection of the node: its router is told that its peer is free
pub record IsReleaseOf (log : List Entry) (n conn : ℕ) (x : Envelope) : Type 0 where
  pub entry : Entry
  pub at : slice_get log x.entry ≡ Some entry
  pub ends : ends_connection n conn (take x.entry log) entry ≡ true
  pub first : x.place ≡ 0

-- of two connections of a node with one key the release of the older is routed before the `ready` of the newer: none is routed late
abbrev pub ReleasesAreTimely : List Entry → Type 0
ReleasesAreTimely log =
    (n older newer : ℕ) (a b : Spawned) (key : Key) (x y : Envelope) (i j : ℕ)
    → connections_of log n older ≡ Some a → connections_of log n newer ≡ Some b → a.key ≡ b.key → older < newer
    → IsReleaseOf log n older x → y.item ≡ item.Ready newer key
    → IsTakenFrom log (queue.Router n) x i → IsTakenFrom log (queue.Router n) y j → i < j
