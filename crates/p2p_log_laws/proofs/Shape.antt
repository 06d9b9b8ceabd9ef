-- What an act's row does: what it takes, what each of its puts and ends carries. All laws of the ledger follow from it.
use Rattle.p2p_log.specs.Sending.{keys_sent, sending_of, Sending}
use Rattle.std.proofs.Common.{◌≡◌, ℕ, ◌+◌, Bool, true, false, cond, List, [], ◌∷◌, ◌++◌, map, length, Some, ◌⊎◌, inl, inr, refl, ap, sym, subst, ◌∙◌, arith, append-nil}
use Rattle.std.specs.Prelude.{◌==◌, ◌&&◌, filter, flat_map, nat_lt, count_by, slice_get}
use Rattle.std.specs.List.{AllByRecursion as Each}
use Rattle.std.proofs.lemmas.Bool.{false≢true}
use Rattle.std.proofs.lemmas.Bool.Decides.{nat_tests}
use Rattle.p2p_base.specs.declared.key.Key.{Key}
use Rattle.p2p_log.specs.declared.config.Config.{Config}
use Rattle.p2p_log.specs.declared.queue.Queue.{Queue}
use Rattle.p2p_log.specs.declared.queue.Queue.TheVariants as queue
use Rattle.p2p_log.specs.declared.queue.Side.{Side}
use Rattle.p2p_log.specs.declared.item.Item.{Item}
use Rattle.p2p_log.specs.declared.item.Item.TheVariants as item
use Rattle.p2p_log.specs.declared.item.Envelope.{Envelope}
use Rattle.p2p_log.specs.declared.end.End.{End}
use Rattle.p2p_log.specs.declared.end.End.TheVariants as end
use Rattle.p2p_log.specs.declared.end.Outcome.TheVariants as outcome
use Rattle.p2p_log.specs.declared.entry.Entry.{Entry}
use Rattle.p2p_log.specs.declared.entry.Reply.{Reply}
use Rattle.p2p_log.specs.declared.event.Event.{Event}
use Rattle.p2p_log.specs.declared.event.Act.{Act}
use Rattle.p2p_log.specs.declared.event.Act.TheVariants as act
use Rattle.p2p_log_rules.specs.declared.row.Half.{Half}
use Rattle.p2p_log_rules.specs.declared.row.Row.{Row}
use Rattle.p2p_log.specs.Lines.{name_of, ended_item, live, line}
use Rattle.p2p_log.specs.Copies.{carries, carries_copy, ends_copy, copies_of, copies_from}
use Rattle.p2p_log_rules.specs.Effect.{only, entry_of, relay_queue, other_side}
use Rattle.p2p_log_rules.specs.Reading.{reading_of, told_of_reading, is_read}
use Rattle.p2p_log.specs.Sending.Sender.{Node, Raw}
use Rattle.p2p_log_rules.specs.Connections.{half_at}
use Rattle.p2p_log_rules.specs.Facts.{key_at, routes, route_to}
use Rattle.p2p_log_rules.specs.Frames.{frame_of, message_in}
use Rattle.p2p_log.proofs.Each.{Has, Each-append, Each-weaker, count_by-none}
use Rattle.p2p_log_rules.specs.Moves.{Moves}
use Rattle.p2p_log_rules.proofs.Moves.{one_taken, stands_first}
use Rattle.p2p_log_laws.proofs.Reaching.{Reach}
use Rattle.p2p_log_laws.proofs.Carried.{IsSublist-bare, IsSublist-beside, IsSublist-put}
use Rattle.p2p_log_laws.proofs.Fitting.{Fits, StandsFit, is_idle, is_bare, is_item_end, bare_carries_none, ends_copy-none}
use Rattle.p2p_log_laws.proofs.Showing.{Standing, EndShows, item_shows}
use Rattle.p2p_log_laws.proofs.Spreading.{borne_by, one}
use Rattle.p2p_log_laws.proofs.Sublists.{IsSublist-nil}
use Rattle.p2p_log_laws.proofs.Telling.{IsConnection}
use Rattle.p2p_log_laws.specs.Flow.{IsSublist, put_copies}

-- 1 for a copy of the send that this act is, where it is accepted
abbrev pub accepts : List Entry → Act → Reply → ℕ × ℕ → ℕ
accepts log a r copy = one ((length log == copy.0) && nat_lt copy.1 (length (keys_sent (sending_of a r))))

-- ---- where what is put comes from, by the queue that it enters

-- one of the node's connections begins, and its router is told of it, by a step of its sending half
abbrev pub IsReady : List Entry → Act → ℕ → Item → Type 0
IsReady log a n i = (conn : ℕ) × (key : Key) × IsConnection log n conn key × (i ≡ item.Ready conn key) × (a ≡ act.SendStep conn n)

-- and so is its tracker
abbrev pub IsConnect : List Entry → Act → ℕ → Item → Type 0
IsConnect log a n i = (conn : ℕ) × (key : Key) × IsConnection log n conn key × (i ≡ item.Connect conn key) × (a ≡ act.SendStep conn n)

-- the act is a send of this node that was accepted
abbrev pub IsSent : List Config → List Entry → Act → Reply → ℕ → Item → Type 0
IsSent configs log a r n i =
    (s : Sending) × (sending_of a r ≡ Some s) × (s.by ≡ Node n) × (i ≡ item.Content s.channel (frame_of s.channel s.bytes) s.priority (length log) s.keys)

-- the act is a send of a raw peer to the node at the other end of its link
pub record IsRaw (configs : List Config) (log : List Entry) (a : Act) (r : Reply) (link : ℕ) (side : Side) (i : Item) : Type 0 where
  pub sending : Sending
  pub sends : sending_of a r ≡ Some sending
  pub by : sending.by ≡ Raw link
  pub node : ℕ
  pub conn : ℕ
  pub far : Half
  pub at : half_at log node conn ≡ Some far
  pub over : far.link ≡ link
  pub ends : side ≡ other_side far.writes
  pub keys : sending.keys ≡ key_at configs node ∷ []
  pub put : i ≡ item.Frame (Some (length log, 0)) (frame_of sending.channel sending.bytes)

-- a copy of what the router took, for a peer to whom it has this connection
pub record IsSpread (log : List Entry) (y : Envelope) (n : ℕ) (priority : Bool) (conn : ℕ) (i : Item) : Type 0 where
  pub channel : ℕ
  pub frame : List ℕ
  pub send : ℕ
  pub to : List Key
  pub place : ℕ
  pub key : Key
  pub stood : y.queue ≡ queue.Router n
  pub is : y.item ≡ item.Content channel frame priority send to
  pub for_key : slice_get to place ≡ Some key
  pub route : route_to (routes log n) key ≡ Some conn
  pub put : i ≡ item.Frame (Some (send, place)) frame

-- what a half took to write it
pub record IsWritten (configs : List Config) (log : List Entry) (y : Envelope) (link : ℕ) (s : Side) (i : Item) : Type 0 where
  pub node : ℕ
  pub conn : ℕ
  pub priority : Bool
  pub half : Half
  pub stood : y.queue ≡ relay_queue priority node conn
  pub at : half_at log node conn ≡ Some half
  pub over : half.link ≡ link
  pub writes : half.writes ≡ s
  pub put : i ≡ y.item

-- the half of this connection took the message in its frame from its link, when nothing was held at the connection
pub record CameInFrame (log : List Entry) (y : Envelope) (n conn : ℕ) (half : Half) (c : ℕ) (bytes : List ℕ) (copy : ℕ × ℕ) : Type 0 where
  pub at : half_at log n conn ≡ Some half
  pub none_held : line log (queue.Held n conn) ≡ []
  pub stood : y.queue ≡ queue.Link half.link (other_side half.writes)
  pub frame : List ℕ
  pub limit : ℕ
  pub is : y.item ≡ item.Frame (Some copy) frame
  pub read : message_in frame limit ≡ Some (c, bytes)

-- the message in a frame that a half took to deliver it
pub record IsReceived (log : List Entry) (y : Envelope) (n c : ℕ) (i : Item) : Type 0 where
  pub conn : ℕ
  pub half : Half
  pub bytes : List ℕ
  pub copy : ℕ × ℕ
  pub came : CameInFrame log y n conn half c bytes copy
  pub put : i ≡ item.Message bytes copy half.peer

-- the message in a frame that the half of this connection took to hold it
pub record IsHeldBack (log : List Entry) (y : Envelope) (n conn : ℕ) (i : Item) : Type 0 where
  pub half : Half
  pub channel : ℕ
  pub bytes : List ℕ
  pub copy : ℕ × ℕ
  pub came : CameInFrame log y n conn half channel bytes copy
  pub put : i ≡ item.Held channel bytes copy

-- the message that was held at a connection
pub record IsRetried (log : List Entry) (y : Envelope) (n c : ℕ) (i : Item) : Type 0 where
  pub conn : ℕ
  pub half : Half
  pub bytes : List ℕ
  pub copy : ℕ × ℕ
  pub at : half_at log n conn ≡ Some half
  pub stood : y.queue ≡ queue.Held n conn
  pub is : y.item ≡ item.Held c bytes copy
  pub put : i ≡ item.Message bytes copy half.peer

-- what an act puts there of itself
abbrev pub OfAct : List Config → List Entry → Act → Reply → Queue → Item → Type 0
OfAct configs log a r (queue.Router n) i = IsReady log a n i ⊎ IsSent configs log a r n i
OfAct configs log a r (queue.Tracker n) i = IsConnect log a n i
OfAct configs log a r (queue.Link link s) i = IsRaw configs log a r link s i
OfAct configs log a r _ i = ⊥

-- what comes there of an item that is taken
abbrev pub OfItem : List Config → List Entry → Envelope → Queue → Item → Type 0
OfItem configs log y (queue.High n conn) i = IsSpread log y n true conn i
OfItem configs log y (queue.Low n conn) i = IsSpread log y n false conn i
OfItem configs log y (queue.Link link s) i = IsWritten configs log y link s i
OfItem configs log y (queue.Held n conn) i = IsHeldBack log y n conn i
OfItem configs log y (queue.Channel n c) i = IsReceived log y n c i ⊎ IsRetried log y n c i
OfItem configs log y _ i = ⊥

abbrev pub IsOwn : List Config → List Entry → Act → Reply → Queue × Item → Type 0
IsOwn configs log a r x = (is_idle x.1 ≡ true) ⊎ OfAct configs log a r x.0 x.1

-- what is put with an item that is taken comes of it, or tells of nothing
abbrev pub ComesOf : List Config → List Entry → Envelope → Queue × Item → Type 0
ComesOf configs log y x = (is_idle x.1 ≡ true) ⊎ OfItem configs log y x.0 x.1

-- the act, or an item that is taken
abbrev pub Origin : List Config → List Entry → Act → Reply → List Envelope → Queue × Item → Type 0
Origin configs log a r taken x = IsOwn configs log a r x ⊎ ((y : Envelope) × Has taken y × ComesOf configs log y x)

pub relay_spread : (configs : List Config) (log : List Entry) (y : Envelope) (priority : Bool) (n conn : ℕ) (i : Item) → IsSpread log y n priority conn i
    → OfItem configs log y (relay_queue priority n conn) i
relay_spread configs log y true n conn i h = h
relay_spread configs log y false n conn i h = h

pub spread_relay : (configs : List Config) (log : List Entry) (y : Envelope) (priority : Bool) (n conn : ℕ) (i : Item) → OfItem configs log y (relay_queue priority n conn) i
    → IsSpread log y n priority conn i
spread_relay configs log y true n conn i h = h
spread_relay configs log y false n conn i h = h

pub idle_bare : (i : Item) → is_idle i ≡ true → is_bare i ≡ true
idle_bare (item.Ready conn key) h = absurd (cc)
idle_bare (item.Content c frame priority send to) h = absurd (cc)
idle_bare (item.Frame (Some copy) frame) h = absurd (cc)
idle_bare (item.Held c bytes copy) h = absurd (cc)
idle_bare (item.Message bytes copy from) h = absurd (cc)
idle_bare _ h = refl

-- an item of its queue's kind that tells of no copy and of no connection
abbrev pub IsQuiet : Queue × Item → Type 0
IsQuiet x = Fits x × (is_idle x.1 ≡ true)

module _ (configs : List Config) (log : List Entry) (a : Act) (r : Reply) where
  -- what is put comes of what is taken, item by item and in order, and then of the act alone; whichever of these puts are
  -- chosen, they carry some of the copies of what they come of, in their order
  abbrev pub Moved : List Envelope → List (Queue × Item) → Type 0
  Moved [] puts =
      Each (IsOwn configs log a r) puts
      × ((p : Queue × Item → Bool) → IsSublist (put_copies (filter p puts)) (copies_from (length log) 0 (keys_sent (sending_of a r))))
  Moved (y ∷ taken) puts =
      (front : List (Queue × Item))
      × (rest : List (Queue × Item))
      × (puts ≡ front ++ rest)
      × Each (ComesOf configs log y) front
      × ((p : Queue × Item → Bool) → IsSublist (put_copies (filter p front)) (copies_of y.item))
      × Moved taken rest

  pub Moved-nothing : Moved [] []
  Moved-nothing = (tt, λ p. IsSublist-nil (copies_from (length log) 0 (keys_sent (sending_of a r))))

  -- what is put of the act alone, beside items that are taken
  pub Moved-own : (taken : List Envelope) (puts : List (Queue × Item)) → Moved [] puts → Moved taken puts
  Moved-own [] puts m = m
  Moved-own (y ∷ taken) puts m = ([], puts, refl, tt, λ p. IsSublist-nil (copies_of y.item), Moved-own taken puts m)

  -- an item that is taken, and nothing else
  pub Moved-taken : (y : Envelope) → Moved (y ∷ []) []
  Moved-taken y = ([], [], refl, tt, λ p. IsSublist-nil (copies_of y.item), Moved-nothing)

  -- one put of an item that is taken
  pub Moved-put : (y : Envelope) (taken : List Envelope) (x : Queue × Item) (rest : List (Queue × Item)) → ComesOf configs log y x
      → copies_of x.1 ≡ copies_of y.item → Moved taken rest → Moved (y ∷ taken) (x ∷ rest)
  Moved-put y taken x rest from same more =
      (x ∷ [], rest, refl, (from, tt), λ p. subst (IsSublist (put_copies (filter p (x ∷ [])))) same (IsSublist-put p x), more)

  -- before it all what tells of nothing
  pub Moved-idle : (taken : List Envelope) (x : Queue × Item) (puts : List (Queue × Item)) → is_idle x.1 ≡ true → Moved taken puts → Moved taken (x ∷ puts)
  Moved-idle [] x puts idle m = ((inl idle, m.0), λ p. IsSublist-beside p x puts (copies_from (length log) 0 (keys_sent (sending_of a r))) (idle_bare x.1 idle) (m.1 p))
  Moved-idle (y ∷ taken) x puts idle m =
      let front : List (Queue × Item) = m.0 in
      let rest : List (Queue × Item) = m.1 in
      (x ∷ front, rest, ap (λ l. x ∷ l) m.2, (inl idle, m.3), λ p. IsSublist-beside p x front (copies_of y.item) (idle_bare x.1 idle) (m.4 p), m.5)

  -- all puts are of one item
  pub Moved-all : (y : Envelope) (puts : List (Queue × Item)) → Each (ComesOf configs log y) puts
      → ((p : Queue × Item → Bool) → IsSublist (put_copies (filter p puts)) (copies_of y.item)) → Moved (y ∷ []) puts
  Moved-all y puts from some = (puts, [], sym (append-nil puts), from, some, Moved-nothing)

  -- what is put is of the act alone, and carries no copy
  pub Moved-beside : (taken : List Envelope) (puts : List (Queue × Item)) → Each (IsOwn configs log a r) puts → Each (λ x. is_bare x.1 ≡ true) puts → Moved taken puts
  Moved-beside [] puts from light = (from, λ p. IsSublist-bare p puts (copies_from (length log) 0 (keys_sent (sending_of a r))) light)
  Moved-beside (y ∷ taken) puts from light = ([], puts, refl, tt, λ p. IsSublist-nil (copies_of y.item), Moved-beside taken puts from light)

  -- each put has its origin
  pub Moved-origins : (taken : List Envelope) (puts : List (Queue × Item)) → Moved taken puts → Each (Origin configs log a r taken) puts
  Moved-origins [] puts m = Each-weaker (IsOwn configs log a r) (Origin configs log a r []) (λ x o. inl o) puts m.0
  Moved-origins (y ∷ taken) puts m =
      let front : List (Queue × Item) = m.0 in
      let rest : List (Queue × Item) = m.1 in
      subst (Each (Origin configs log a r (y ∷ taken))) (sym m.2)
      (Each-append (Origin configs log a r (y ∷ taken)) front rest
      (Each-weaker (ComesOf configs log y) (Origin configs log a r (y ∷ taken)) (λ x o. inr (y, inl refl, o)) front m.3)
      (Each-weaker (Origin configs log a r taken) (Origin configs log a r (y ∷ taken)) (λ x o. elim o [ inl own ↦ inl own | inr item ↦ inr (item.0, inr item.1, item.2) ]) rest (Moved-origins taken rest m.5)))

-- the reply tells of what was taken from the queue that the act reads, and its copies end
pub record Delivery (configs : List Config) (log : List Entry) (a : Act) (r : Reply) (taken : List Envelope) (ends : List End) : Type 0 where
  pub queue : Queue
  pub reads : reading_of configs log a ≡ Some queue
  pub read : Envelope
  pub has : Has taken read
  pub in_queue : read.queue ≡ queue
  pub tells : r ≡ told_of_reading queue read.item
  pub ended : ends ≡ map (λ copy. end.Copy copy.0 copy.1 outcome.Delivered) (copies_of read.item)

-- the copies that it accepts, and those that what it takes and what it ends carries, are those that it puts or ends
abbrev pub IsBalanced : (log : List Entry) (a : Act) (r : Row) → Moves log r → Type 0
IsBalanced log a r m =
    (copy : ℕ × ℕ) → accepts log a r.reply copy + (count_by (carries copy) m.taken + count_by (carries copy) m.ended) ≡ borne_by copy r.puts r.ends

-- what holds of a row, where all that stands in queues is of its queue's kind
pub record Laws (configs : List Config) (log : List Entry) (a : Act) (r : Row) (m : Moves log r) : Type 0 where
  -- each put is of its queue's kind
  pub fitting : Each Fits r.puts
  pub moved : Moved configs log a r.reply m.taken r.puts
  pub balanced : IsBalanced log a r m
  -- each end of a copy shows its cause, where what stands in queues tells the truth
  pub causes : Standing configs log → (ev : Event) → ev.act ≡ a → Each (EndShows configs log (entry_of ev r)) r.ends
  pub delivers : is_read r.reply ≡ true → Delivery configs log a r.reply m.taken r.ends

-- what an act's row moves, which queues it reaches, and its laws: the one place that walks the row
pub record Shape (configs : List Config) (log : List Entry) (a : Act) (r : Row) : Type 0 where
  pub moves : Moves log r
  pub reach : Reach configs a log r moves
  pub laws : Each StandsFit (live log) → Laws configs log a r moves

-- ---- what is moved

-- nothing is
abbrev pub no_moves : (log : List Entry) (r : Row) → r.takes ≡ [] → flat_map ended_item r.ends ≡ [] → Moves log r
no_moves log r t e = record { taken = []; ended = []; names = t; gone = e; stood = tt }

-- the first of a line
abbrev pub one_move : (log : List Entry) (q : Queue) (x : Envelope) (rest : List Envelope) → line log q ≡ x ∷ rest
    → (r : Row) → r.takes ≡ name_of x ∷ [] → flat_map ended_item r.ends ≡ [] → Moves log r
one_move log q x rest first r t e = record { taken = x ∷ []; ended = []; names = t; gone = e; stood = stands_first log q x rest first }

-- what stands in a line is in a queue that has what the queue of the line has
pub first_in : (test : Queue → Bool) (log : List Entry) (q : Queue) (x : Envelope) (rest : List Envelope) → line log q ≡ x ∷ rest → test q ≡ true → test x.queue ≡ true
first_in test log q x rest first h = ap test (one_taken log q x rest first) ∙ h

pub count_by-single : (copy : ℕ × ℕ) (x : Envelope) (b : Bool) → carries copy x ≡ b → count_by (carries copy) (x ∷ []) ≡ one b
count_by-single copy x true e = ap (λ z. 0 + cond z 1 0) e
count_by-single copy x false e = ap (λ z. 0 + cond z 1 0) e

-- ---- what is accepted, and what ends

pub accepts-none : (log : List Entry) (a : Act) (r : Reply) (copy : ℕ × ℕ) → keys_sent (sending_of a r) ≡ [] → accepts log a r copy ≡ 0
accepts-none log a r copy e =
    ap (λ ks. one ((length log == copy.0) && nat_lt copy.1 (length ks))) e ∙ none (length log) copy.0 copy.1
  where
    none : (n s p : ℕ) → one ((n == s) && nat_lt p 0) ≡ 0
    none n s p = grind (arith, nat_tests)

pub accepts-sent : (log : List Entry) (a : Act) (r : Reply) (copy : ℕ × ℕ) (s : Sending) → sending_of a r ≡ Some s
    → accepts log a r copy ≡ one ((length log == copy.0) && nat_lt copy.1 (length s.keys))
accepts-sent log a r copy s e = ap (λ o. one ((length log == copy.0) && nat_lt copy.1 (length (keys_sent o)))) e

pub no_delivery : (configs : List Config) (log : List Entry) (a : Act) (r : Reply) (taken : List Envelope) (ends : List End) → is_read r ≡ false
    → is_read r ≡ true → Delivery configs log a r taken ends
no_delivery configs log a r taken ends h e = absurd (false≢true (sym h ∙ e))

-- ---- acts that move no copy

module _ (configs : List Config) (log : List Entry) (a : Act) (r : Row) (m : Moves log r) (none : keys_sent (sending_of a r.reply) ≡ []) (silent : is_read r.reply ≡ false)
    (light : Each (λ x. is_bare x.item ≡ true) m.taken) (light_ends : Each (λ x. is_bare x.item ≡ true) m.ended) (items : Each (λ d. is_item_end d ≡ true) r.ends) where
  carried_none : (copy : ℕ × ℕ) (xs : List Envelope) → Each (λ x. is_bare x.item ≡ true) xs → count_by (carries copy) xs ≡ 0
  carried_none copy xs h =
      count_by-none (carries copy) xs
      (Each-weaker (λ x. is_bare x.item ≡ true) (λ x. carries copy x ≡ false) (λ x b. bare_carries_none copy x.item b) xs h)

  -- what it puts is of its own, and carries no copy
  pub bare_laws : Each Fits r.puts → Each (IsOwn configs log a r.reply) r.puts → Each (λ x. is_bare x.1 ≡ true) r.puts → Laws configs log a r m
  bare_laws fitting origins bare = record {
    fitting = fitting;
    moved = Moved-beside configs log a r.reply m.taken r.puts origins bare;
    balanced = λ copy.
        let n : accepts log a r.reply copy ≡ 0 = accepts-none log a r.reply copy none in
        let t : count_by (carries copy) m.taken ≡ 0 = carried_none copy m.taken light in
        let g : count_by (carries copy) m.ended ≡ 0 = carried_none copy m.ended light_ends in
        let p : count_by (λ x. carries_copy copy x.1) r.puts ≡ 0 = count_by-none (λ x. carries_copy copy x.1) r.puts
        (Each-weaker (λ x. is_bare x.1 ≡ true) (λ x. carries_copy copy x.1 ≡ false) (λ x b. bare_carries_none copy x.1 b) r.puts bare)
        in
        let d : count_by (ends_copy copy) r.ends ≡ 0 = count_by-none (ends_copy copy) r.ends
        (Each-weaker (λ d. is_item_end d ≡ true) (λ d. ends_copy copy d ≡ false) (ends_copy-none copy) r.ends items)
        in
        omega (arith, n, t, g, p, d);
    causes = λ stand ev acts. Each-weaker (λ d. is_item_end d ≡ true) (EndShows configs log (entry_of ev r)) (item_shows configs log (entry_of ev r)) r.ends items;
    delivers = no_delivery configs log a r.reply m.taken r.ends silent;
  }

  -- what it puts tells of nothing
  pub quiet_laws : Each IsQuiet r.puts → Laws configs log a r m
  quiet_laws quiet =
      bare_laws (Each-weaker IsQuiet Fits (λ x q. q.0) r.puts quiet)
      (Each-weaker IsQuiet (IsOwn configs log a r.reply) (λ x q. inl q.1) r.puts quiet)
      (Each-weaker IsQuiet (λ x. is_bare x.1 ≡ true) (λ x q. idle_bare x.1 q.1) r.puts quiet)

-- a reply that moves nothing
pub still : (configs : List Config) (log : List Entry) (a : Act) (r : Reply) → keys_sent (sending_of a r) ≡ [] → is_read r ≡ false → Shape configs log a (only r)
still configs log a r none silent = record {
  moves = no_moves log (only r) refl refl;
  reach = record { taken = tt; ended = tt; puts = tt };
  laws = λ fitting. quiet_laws configs log a (only r) (no_moves log (only r) refl refl) none silent tt tt tt tt;
}
