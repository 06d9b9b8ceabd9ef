-- Which side a reservation is of that is given back: in a longer log, and by the entry that gives it back.
use Rattle.std.proofs.Common.{◌≡◌, ℕ, zero, suc, ◌≤◌, Bool, true, false, List, [], ◌∷◌, ◌++◌, take, length, Option, Some, None, refl, ap, ◌∙◌, arith}
use Rattle.std.specs.Prelude.{slice_get}
use Rattle.std.specs.Option.{option_map}
use Rattle.std.proofs.lemmas.List.{take_all, take-append-le}
use Rattle.p2p_base.specs.declared.key.Key.{Key}
use Rattle.p2p_tracker_directory.specs.declared.metadata.Metadata.{Metadata}
use Rattle.p2p_tracker_directory.specs.declared.metadata.Metadata.TheVariants as metadata
use Rattle.p2p_tracker_mailbox.specs.declared.message.Message.{Message}
use Rattle.p2p_tracker_mailbox.specs.declared.message.Message.TheVariants as message
use Rattle.p2p_log.specs.declared.queue.Queue.{Queue}
use Rattle.p2p_log.specs.declared.queue.Side.{Side}
use Rattle.p2p_log.specs.declared.queue.Side.TheVariants as side
use Rattle.p2p_log.specs.declared.item.Item.{Item}
use Rattle.p2p_log.specs.declared.item.Item.TheVariants as item
use Rattle.p2p_log.specs.declared.item.Envelope.{Envelope}
use Rattle.p2p_log.specs.declared.entry.Ended.{Ended}
use Rattle.p2p_log.specs.declared.entry.Entry.{Entry}
use Rattle.p2p_log.specs.declared.entry.Reply.{Reply}
use Rattle.p2p_log.specs.declared.entry.Reply.TheVariants as reply
use Rattle.p2p_log.specs.declared.event.Act.{Act}
use Rattle.p2p_log.specs.declared.event.Act.TheVariants as act
use Rattle.p2p_log_rules.specs.declared.row.Half.{Half}
use Rattle.p2p_log_rules.specs.Connections.{half_at}
use Rattle.p2p_log_rules.specs.Halves.{half_in}
use Rattle.p2p_log_rules.specs.HandshakeSteps.{ends_handshake}
use Rattle.p2p_log_rules.specs.Puts.{broke_off}
use Rattle.p2p_log_rules.specs.Spawning.{connections_of}
use Rattle.p2p_log_rules.specs.Taking.{taken}
use Rattle.p2p_log_rules.specs.Tellings.{Telling, or_new, first_or}
use Rattle.p2p_log_rules.specs.Tellings as telling
use Rattle.p2p_log_rules.specs.Told.{when, link_in, done_tells, dialing_dropped, half_dropped, over_tells, took_tells, left_tells, handshake_tells, sender_tells, act_tells, tells, told, listening_dropped}
use Rattle.p2p_log_rules.specs.Handshakes.{came_over}
use Rattle.p2p_net_queues.specs.Matching.{Match}
use Rattle.p2p_net_queues.proofs.Matching.{Match-weaker, slice_get-longer, slice_get-last}
use Rattle.p2p_net_tracker.specs.GivenBack.{side_freed, side_freed_by, side_freed_at, IsOfSide, IsGivenBack}

-- ---- in a longer log

-- a place in a list comes before its end
within : {X : Type 0} (xs : List X) (i : ℕ) (x : X) → slice_get xs i ≡ Some x → i ≤ length xs
within [] i x at = absurd (cc)
within (y ∷ xs) zero x at = omega arith
within (y ∷ xs) (suc i) x at = let early = within xs i x at in omega (arith, early)

abbrev freed_in : List Entry → Option Entry → Option Side
freed_in before o = elim o [ None ↦ None | Some e ↦ side_freed_by before e ]

pub side_freed-longer : (log more : List Entry) (k : ℕ) (s : Side) → side_freed_at log k ≡ Some s → side_freed_at (log ++ more) k ≡ Some s
side_freed-longer log more k s freed = by (slice_get log k) refl freed
  where
    by : (o : Option Entry) → slice_get log k ≡ o → freed_in (take k log) o ≡ Some s → side_freed_at (log ++ more) k ≡ Some s
    by None at is = absurd (cc)
    by (Some e) at is =
        ap (freed_in (take k (log ++ more))) (slice_get-longer log more k e at)
        ∙ (ap (λ l. side_freed_by l e) (take-append-le k log more (within log k e at)) ∙ is)

pub given_back-longer : (log more : List Entry) (k : ℕ) (m : Message Key) → IsGivenBack log k m → IsGivenBack (log ++ more) k m
given_back-longer log more k (message.Release (metadata.Dialer key)) h = side_freed-longer log more k side.Out h
given_back-longer log more k (message.Release (metadata.Listener key)) h = side_freed-longer log more k side.In h
given_back-longer log more k _ h = tt

-- what waits stays what it was
pub all_given-longer : (log more : List Entry) (xs : List Envelope) (ms : List (Message Key)) → Match (λ x m. IsGivenBack log x.entry m) xs ms → Match (λ x m. IsGivenBack (log ++ more) x.entry m) xs ms
all_given-longer log more = Match-weaker (λ (x : Envelope) m. IsGivenBack log x.entry m) (λ (x : Envelope) m. IsGivenBack (log ++ more) x.entry m) (λ x m h. given_back-longer log more x.entry m h)

-- ---- by the last entry

pub side_freed-last : (log : List Entry) (e : Entry) → side_freed_at (log ++ e ∷ []) (length log) ≡ side_freed_by log e
side_freed-last log e =
    ap (freed_in (take (length log) (log ++ e ∷ []))) (slice_get-last log e)
    ∙ ap (λ l. side_freed_by l e) (take-append-le (length log) log (e ∷ []) (omega arith) ∙ take_all (length log) log (omega arith))

-- one that gives back a reservation of this side
pub given_now : (log : List Entry) (e : Entry) (reserved : Metadata Key) → IsOfSide (side_freed_by log e) reserved → IsGivenBack (log ++ e ∷ []) (length log) (message.Release reserved)
given_now log e (metadata.Dialer key) h = side_freed-last log e ∙ h
given_now log e (metadata.Listener key) h = side_freed-last log e ∙ h

-- ---- which side it is

module _ (ts : List Telling) where
  -- whatever is told after the first
  freed_once : (s : Side) (us : List Telling) → first_or (Some s) (side_freed ts) us ≡ Some s
  freed_once s [] = refl
  freed_once s (u ∷ us) = by (side_freed ts u) (freed_once s us)
    where
      by : (o : Option Side) → first_or (Some s) (side_freed ts) us ≡ Some s → first_or (or_new o (Some s)) (side_freed ts) us ≡ Some s
      by None h = h
      by (Some x) h = h

  attempt_freed : (n k at seed : ℕ) (items : List Item) (link : Option ℕ) (q : Queue) (key : Key)
      → first_or None (side_freed ts) (took_tells n k at seed items ++ left_tells n k link ((q, item.Release key) ∷ [])) ≡ Some side.Out
  attempt_freed n k at seed [] link q key = freed_once side.Out (dialing_dropped link)
  attempt_freed n k at seed (i ∷ items) link q key = by i
    where
      by : (i : Item) → first_or None (side_freed ts) (took_tells n k at seed (i ∷ items) ++ left_tells n k link ((q, item.Release key) ∷ [])) ≡ Some side.Out
      by (item.Resolved addresses) = freed_once side.Out (dialing_dropped link)
      by item.Linked = freed_once side.Out (dialing_dropped link)
      by _ = freed_once side.Out (dialing_dropped link)

  handshake_freed : (n h : ℕ) (link : Option ℕ) (over : Bool) (items : List Item) (us : List Telling) → over ≡ true → first_or None (side_freed ts) (handshake_tells n h link over items ++ us) ≡ Some side.In
  handshake_freed n h link true items us is = freed_once side.In us
  handshake_freed n h link false items us is = absurd (cc)

  ended_freed : (n conn : ℕ) (half : Half) (us : List Telling) → half_in ts n conn ≡ Some half → first_or None (side_freed ts) (telling.connection_ended n conn ∷ us) ≡ Some half.writes
  ended_freed n conn half us has =
      ap (λ (o : Option Half). first_or (or_new (option_map (λ (h : Half). h.writes) o) None) (side_freed ts) us) has ∙ freed_once half.writes us

  sender_freed : (n conn at : ℕ) (why : Ended) (half : Half) (items : List Item) (puts : List (Queue × Item)) → half_in ts n conn ≡ Some half
      → first_or None (side_freed ts) (over_tells n conn (reply.Ended why) (half_in ts n conn) ++ done_tells (reply.Ended why) (sender_tells n conn at items puts)) ≡ Some half.writes
  sender_freed n conn at why half items puts has = ended_freed n conn half (half_dropped (half_in ts n conn) ++ []) has

module _ (log : List Entry) (e : Entry) (n : ℕ) where
  -- an attempt that gives its reservation back is the dialer's
  pub attempt_gives : (k : ℕ) (q : Queue) (key : Key) → e.event.act ≡ act.Attempt k n → e.puts ≡ (q, item.Release key) ∷ [] → side_freed_by log e ≡ Some side.Out
  unfolding tells
  attempt_gives k q key acts puts =
      let ts = told log in
      let freed : List (Queue × Item) → Act → Option Side = λ ps a. first_or None (side_freed ts) (act_tells ts log (length log) e.event.at e.event.seed e.reply (taken log e) ps a) in
      ap (freed e.puts) acts ∙ (ap (λ ps. freed ps (act.Attempt k n)) puts ∙ attempt_freed ts n k e.event.at e.event.seed (taken log e) (link_in ts n k) q key)

  -- a handshake that ends is the listener's
  pub handshake_gives : (h : ℕ) → e.event.act ≡ act.Handshake h n → ends_handshake e.reply (taken log e) ≡ true → side_freed_by log e ≡ Some side.In
  unfolding tells
  handshake_gives h acts ends =
      let ts = told log in
      let link : Option ℕ = came_over log h in
      ap (λ a. first_or None (side_freed ts) (act_tells ts log (length log) e.event.at e.event.seed e.reply (taken log e) e.puts a)) acts
      ∙ handshake_freed ts n h link (ends_handshake e.reply (taken log e)) (taken log e) (when (broke_off e.reply (taken log e) e.puts) (listening_dropped link)) ends

  -- a connection that ends is of the side of its half
  module _ (conn : ℕ) (why : Ended) (half : Half) (replies : e.reply ≡ reply.Ended why) (has : half_at log n conn ≡ Some half) where
    half_there : half_in (told log) n conn ≡ Some half
    unfolding half_at connections_of
    half_there = has

    pub sender_gives : e.event.act ≡ act.SendStep conn n → side_freed_by log e ≡ Some half.writes
    unfolding tells
    sender_gives acts =
        let ts = told log in
        let freed : Reply → Act → Option Side = λ r a. first_or None (side_freed ts) (act_tells ts log (length log) e.event.at e.event.seed r (taken log e) e.puts a) in
        ap (freed e.reply) acts ∙ (ap (λ r. freed r (act.SendStep conn n)) replies ∙ sender_freed ts n conn e.event.at why half (taken log e) e.puts half_there)

    pub receiver_gives : e.event.act ≡ act.RecvStep conn n → side_freed_by log e ≡ Some half.writes
    unfolding tells
    receiver_gives acts =
        let ts = told log in
        let freed : Reply → Act → Option Side = λ r a. first_or None (side_freed ts) (act_tells ts log (length log) e.event.at e.event.seed r (taken log e) e.puts a) in
        ap (freed e.reply) acts ∙ (ap (λ r. freed r (act.RecvStep conn n)) replies ∙ ended_freed ts n conn half (half_dropped (half_in ts n conn) ++ []) half_there)
