-- What each act puts says of links what is true.
use Rattle.std.proofs.Common.{◌≡◌, ℕ, Bool, true, false, cond, List, [], ◌∷◌, ◌++◌, map, take, Option, Some, None, ◌⊎◌, inl, inr, refl, ap, sym, subst, ◌∙◌, eq-eqb}
use Rattle.std.specs.Prelude.{◌==◌, ◌&&◌, ◌||◌, not, nat_le, is_some}
use Rattle.std.specs.Option.{option_map}
use Rattle.std.specs.List.{AllByRecursion as Each}
use Rattle.std.proofs.lemmas.Bool.{and_parts, false≢true}
use Rattle.std.proofs.lemmas.Option.{same_Some}
use Rattle.p2p_base.specs.declared.key.Key.{Key}
use Rattle.p2p_address.specs.declared.ip.IpAddr.{IpAddr}
use Rattle.p2p_address.specs.declared.ip.SocketAddr.{SocketAddr}
use Rattle.p2p_address.specs.declared.peer.Ingress.{Ingress}
use Rattle.p2p_address.specs.declared.peer.Ingress.TheVariants as ingress
use Rattle.p2p_tracker_calls.specs.declared.call.Call.{Call}
use Rattle.p2p_tracker_calls.specs.declared.call.Call.TheVariants as call
use Rattle.p2p_tracker_calls.specs.BlockedKeys.{due_keys}
use Rattle.p2p_tracker_calls.specs.Allows.{allows_listen}
use Rattle.p2p_tracker_calls.specs.Rules.{Rules}
use Rattle.p2p_log.specs.declared.config.Config.{Config}
use Rattle.p2p_log.specs.declared.queue.Queue.{Queue}
use Rattle.p2p_log.specs.declared.queue.Queue.TheVariants as queue
use Rattle.p2p_log.specs.declared.item.Item.{Item}
use Rattle.p2p_log.specs.declared.item.Item.TheVariants as item
use Rattle.p2p_log.specs.declared.item.Envelope.{Envelope}
use Rattle.p2p_log.specs.declared.entry.Entry.{Entry}
use Rattle.p2p_log.specs.declared.entry.Reply.TheVariants as reply
use Rattle.p2p_log.specs.declared.event.Act.{Act}
use Rattle.p2p_log.specs.declared.event.Act.TheVariants as act
use Rattle.p2p_log.specs.declared.event.Event.{Event}
use Rattle.p2p_log.specs.QueueCode.{same_queue}
use Rattle.p2p_log.specs.Lines.{name_of, live, line}
use Rattle.p2p_log.proofs.Each.{Each-weaker}
use Rattle.p2p_log.proofs.Queues.{same_queue-refl}
use Rattle.p2p_log_rules.specs.Connections.{is_ended}
use Rattle.p2p_log_rules.specs.declared.row.Opening.{Opening}
use Rattle.p2p_log_rules.specs.declared.row.ListeningEnd.{ListeningEnd}
use Rattle.p2p_log_rules.specs.declared.row.ListeningEnd.TheVariants as listening
use Rattle.p2p_log_rules.specs.declared.row.Row.{Row}
use Rattle.p2p_log_rules.specs.Attempting.{Attempt, dial_rules_at, attempts_of, resolved, given_up_row, resolved_row, handed_on_row, linked_row, attempt_took_row, attempt_turn, attempt_by, attempt_row, resolve_by, resolve_row, refuse_row, connect_row}
use Rattle.p2p_log_rules.specs.Dropping.{dialing_end, attempt_step_row, handshake_step_row, listening_end}
use Rattle.p2p_log_rules.specs.Puts.{gave_up, broke_off}
use Rattle.p2p_log_rules.specs.Effect.{effect, row}
use Rattle.p2p_log_rules.specs.Facts.{is_up, key_at}
use Rattle.p2p_log_rules.specs.Handshakes.{Handshake, handshake_at, came_over, is_handshaking, is_finished, source_at}
use Rattle.p2p_log_rules.specs.Handshaking.{handshake_deadline, handshake_took_row, is_due, handshake_turn, handshake_row}
use Rattle.p2p_log_rules.specs.Cutting.{is_cut}
use Rattle.p2p_log_rules.specs.Links.{openings_of, listening_ends_of, is_dialed, accepts_peer, exchanged, dialing_puts, listening_puts, finished_row, verdict, finish_by, finish_row}
use Rattle.p2p_log_rules.specs.Rows.{only, is_spawner_full}
use Rattle.p2p_log_rules.specs.Tracking.{key_cmp, rules_at, asked_by, calls_of, update_subscriptions, blocked_subscriptions}
use Rattle.p2p_log_rules.specs.TrackerPuts as puts
use Rattle.p2p_log_rules.specs.TrackerRows as rows
use Rattle.p2p_log_laws.proofs.Reaching.{writes}
use Rattle.p2p_log_laws.specs.Leading.{Links, LeadsTo}
use Rattle.p2p_log_laws.specs.OneAnswer.{exchanges, is_for}
use Rattle.p2p_log_laws.proofs.Answering.{Silent, silent_out_of_reach, sender_silent, receiver_silent, ask_silent, dialer_silent, Asks, listener_asks}
use Rattle.p2p_log_laws.proofs.DropShape.{each_dropping}
use Rattle.p2p_log_laws.proofs.HeldCalls.{key_from}
use Rattle.p2p_log_laws.proofs.Linking.{IsUnanswered, IsRefused, refuse_is, IsAnswer, connect_is, links_now}
use Rattle.p2p_log_laws.proofs.Saying.{IsPeer, IsLinkedTo, IsDialed, Says, PutSays, StandSays, first_says, PeersCome, IsOpened, AreOpened, says_still}
use Rattle.p2p_log_laws.proofs.Shape.{Shape}
use Rattle.p2p_log_laws.proofs.Shapes.{row_shape}
use Rattle.p2p_log_laws.proofs.TrackerPuts.{EachKind, each_unblocked, each_asked, each_connected}
use Rattle.p2p_log_laws.proofs.Heeded.{Each-heeded}

module _ (configs : List Config) (log : List Entry) where
  abbrev P : Queue × Item → Type 0
  P = PutSays configs log

  abbrev RowSays : Row → Type 0
  RowSays r = Each P r.puts

  -- ---- acts that put nothing that says anything of links

  -- a test that none of the queues passes in which links are spoken of, but those of trackers and handshakes
  record AreAside (p : Queue → Bool) : Type 0 where
    pub arrivals : (n : ℕ) → p (queue.Arrivals n) ≡ false
    pub attempts : (n e : ℕ) → p (queue.Attempt n e) ≡ false
    pub spawners : (n : ℕ) → p (queue.Spawner n) ≡ false

  -- it asks for no peer, and tells no handshake of one
  abbrev IsSilent : Queue × Item → Type 0
  IsSilent x = (n h : ℕ) → Silent exchanges n h x

  silent_says : (p : Queue → Bool) → AreAside p → (x : Queue × Item) → p x.0 ≡ true → IsSilent x → P x
  silent_says p aside x passes silent = by x.0 x.1 passes silent
    where
      never : (b : Bool) → b ≡ true → b ≡ false → ⊥
      never b is not = false≢true (sym not ∙ is)

      by : (q : Queue) (i : Item) → p q ≡ true → IsSilent (q, i) → Says configs log q i
      by (queue.Arrivals n) i passes silent = absurd (never (p (queue.Arrivals n)) passes (aside.arrivals n))
      by (queue.Attempt n e) i passes silent = absurd (never (p (queue.Attempt n e)) passes (aside.attempts n e))
      by (queue.Spawner n) i passes silent = absurd (never (p (queue.Spawner n)) passes (aside.spawners n))
      by (queue.Tracker n) (item.AskListen h key) passes silent =
          absurd (never (is_for exchanges n h (queue.Tracker n, item.AskListen h key))
          (ap (λ b. (b && (h == h)) || false) (same_queue-refl (queue.Tracker n)) ∙ ap (λ b. (true && b) || false) (eq-eqb h h refl)) (silent n h))
      by (queue.Handshake n h) (item.Listen (Some key)) passes silent =
          absurd (never (is_for exchanges n h (queue.Handshake n h, item.Listen (Some key))) (ap (λ b. b && true) (same_queue-refl (queue.Handshake n h))) (silent n h))
      by _ _ passes silent = tt

  -- where it is so for each handshake, it is so of each put
  each_silent : (xs : List (Queue × Item)) → ((n h : ℕ) → Each (Silent exchanges n h) xs) → Each IsSilent xs
  each_silent [] silent = tt
  each_silent (x ∷ xs) silent = (λ n h. (silent n h).0, each_silent xs (λ n h. (silent n h).1))

  each_aside : (p : Queue → Bool) → AreAside p → (xs : List (Queue × Item)) → Each (λ x. p x.0 ≡ true) xs → Each IsSilent xs → Each P xs
  each_aside p aside [] passes silent = tt
  each_aside p aside (x ∷ xs) passes silent = (silent_says p aside x passes.0 silent.0, each_aside p aside xs passes.1 silent.1)

  silent_row : (a : Act) (r : Row) → Shape configs log a r → AreAside (writes configs log a) → ((n h : ℕ) → Each (Silent exchanges n h) r.puts) → Each P r.puts
  silent_row a r shape aside silent = each_aside (writes configs log a) aside r.puts shape.reach.puts (each_silent r.puts silent)

  -- one that reaches none of these queues
  other : (a : Act) (r : Row) → Shape configs log a r → AreAside (writes configs log a) → ((n : ℕ) → writes configs log a (queue.Tracker n) ≡ false)
      → ((n h : ℕ) → writes configs log a (queue.Handshake n h) ≡ false) → Each P r.puts
  other a r shape aside tracker handshakes =
      silent_row a r shape aside (λ n h. silent_out_of_reach exchanges n h configs a log r shape.moves shape.reach (tracker n) (handshakes n h))

  asked_silent : (n : ℕ) (at seed : ℕ) (xs : List (Queue × Item)) → Asks exchanges 0 0 configs log at seed n xs → (m h : ℕ) → Each (Silent exchanges m h) xs
  asked_silent n at seed xs (inl none) m h = subst (Each (Silent exchanges m h)) (sym none) tt
  asked_silent n at seed xs (inr asked) m h = subst (Each (Silent exchanges m h)) (sym asked.1) (quiet (same_queue (queue.Tracker m) (queue.Tracker n)), tt)
    where
      quiet : (b : Bool) → ((b && false) || false) ≡ false
      quiet true = refl
      quiet false = refl

  module _ (say : Each (StandSays configs log) (live log)) (at seed : ℕ) where
    -- ---- the tracker's step

    module _ (n : ℕ) where
      kinds_say : EachKind n P
      kinds_say = record { kill = λ conn any. tt; update = λ e u. tt; blocked = λ e keys. tt; heard = λ ips. tt; answer = λ e o. tt }

      module _ (rules : Rules Key) (us bs : List ℕ) (calls : List (Call Key)) where
        granted_says : (h : ℕ) (key : Key) → IsPeer log h key → (b : Bool) → Says configs log (queue.Handshake n h) (item.Listen (cond b (Some key) None))
        granted_says h key is true = is
        granted_says h key is false = tt

        told_says : (h : ℕ) (told : IpAddr → Item) → ((source : IpAddr) → Says configs log (queue.Handshake n h) (told source)) → (runs : Bool) (source : Option IpAddr)
            → Each P (puts.handshake_puts rules n at us bs calls h told runs source)
        told_says h told says true (Some source) = (says source, tt)
        told_says h told says true None = tt
        told_says h told says false source = tt

        item_says : (i : Item) → Says configs log (queue.Tracker n) i → Each P (puts.item_puts rules n at us bs calls log i)
        item_says (item.Call e) says = each_asked n P kinds_say rules at us bs calls e (asked_by log e)
        item_says (item.Connect conn key) says = each_connected n P kinds_say rules at us bs calls conn key
        item_says item.AskDialable says = (tt, tt)
        item_says (item.AskDial key) says = (tt, tt)
        item_says (item.AskAcceptable h key) says = told_says h (puts.acceptance rules n at us bs calls key) (λ source. tt) (is_handshaking log n h) (source_at log h)
        item_says (item.AskListen h key) says =
            told_says h (puts.listen_grant rules n at us bs calls key) (λ source. granted_says h key says (allows_listen key_cmp rules calls key source at)) (is_handshaking log n h) (source_at log h)
        item_says _ says = tt

      oldest_says : (xs : List Envelope) → line log (queue.Tracker n) ≡ xs → Each P (rows.served_row configs log n at xs).puts
      oldest_says [] first = tt
      oldest_says (x ∷ rest) first =
          Each-heeded (is_ended log n) P
          (puts.item_puts (rules_at configs n) n at (update_subscriptions log n) (blocked_subscriptions log n) (calls_of configs log n) log x.item)
          (item_says (rules_at configs n) (update_subscriptions log n) (blocked_subscriptions log n) (calls_of configs log n) x.item (first_says configs log (queue.Tracker n) x rest say first))

      step_says : (b : Bool) → Each P
          (cond b
          (rows.tracker_told_row log [] (puts.unblocked_puts (rules_at configs n) n at (update_subscriptions log n) (blocked_subscriptions log n) (calls_of configs log n) (call.UnblockExpired at)))
          (rows.served_row configs log n at (line log (queue.Tracker n)))).puts
      step_says true = each_unblocked n P kinds_say (rules_at configs n) at (update_subscriptions log n) (blocked_subscriptions log n) (calls_of configs log n) (call.UnblockExpired at)
      step_says false = oldest_says (line log (queue.Tracker n)) refl

      tracker_says : Each P (rows.tracker_row configs log n at).puts
      tracker_says = by (is_up log n)
        where
          by : (b : Bool) → Each P (cond b (rows.tracker_step configs log n at) (only reply.Gone)).puts
          by true = step_says (puts.is_some_of (due_keys key_cmp (rules_at configs n) (calls_of configs log n) at))
          by false = tt

    ready_says : (n : ℕ) (full : Bool) (key : Key) (link : ℕ) (name : ℕ × ℕ) (left : List Envelope) → LeadsTo configs log n key link → Each P (handed_on_row n full key link name left).puts
    ready_says n true key link name left leads = (tt, tt)
    ready_says n false key link name left leads = (leads, tt)

    -- ---- the step of a handshake

    module _ (come : PeersCome configs log) (h n : ℕ) (runs : is_handshaking log n h ≡ true) (s : Handshake) (began : handshake_at log h ≡ Some s) where
      peer_leads : (key : Key) → IsPeer log h key → LeadsTo configs log n key s.link
      peer_leads key is =
          let from = come n h s runs began in
          (from.0, inr from.1, sym is.2 ∙ (ap (λ (p : Handshake). p.key) (same_Some is.0 s (sym is.1 ∙ began)) ∙ from.2))

      heard_says : (full : Bool) (name : ℕ × ℕ) (i : Item) (left : List Envelope) → Says configs log (queue.Handshake n h) i → Each P (handshake_took_row n full h s name i left).puts
      heard_says full name (item.Acceptable true) left says = tt
      heard_says full name (item.Acceptable false) left says = tt
      heard_says full name (item.Finished true) left says = ((s, began, refl), tt)
      heard_says full name (item.Finished false) left says = tt
      heard_says full name (item.Listen (Some key)) left says = ready_says n full key s.link name left (peer_leads key says)
      heard_says full name (item.Listen None) left says = tt
      heard_says full name _ left says = tt

      turn_says : (full due : Bool) (xs : List Envelope) → line log (queue.Handshake n h) ≡ xs → Each P (handshake_turn n full due h (Some s) xs).puts
      turn_says full true [] first = tt
      turn_says full false [] first = tt
      turn_says full due (x ∷ rest) first = heard_says full (name_of x) x.item rest (first_says configs log (queue.Handshake n h) x rest say first)

    handshake_says : PeersCome configs log → (h n : ℕ) → Each P (handshake_step_row configs log h n at).puts
    handshake_says come h n =
        let r : Row = handshake_row configs log h n at in
        each_dropping P log (cond (broke_off r.reply (map (λ x. x.item) (take 1 (line log (queue.Handshake n h)))) r.puts) (listening_end (came_over log h)) None) r (by (is_handshaking log n h) refl)
      where
        by : (b : Bool) → is_handshaking log n h ≡ b → Each P
            (cond b (handshake_turn n (is_spawner_full configs log n) (is_due (handshake_deadline configs log h n) at (is_finished log n h)) h (handshake_at log h) (line log (queue.Handshake n h))) (only reply.Gone)).puts
        by true runs = begun (handshake_at log h) refl
          where
            full : Bool
            full = is_spawner_full configs log n

            due : Bool
            due = is_due (handshake_deadline configs log h n) at (is_finished log n h)

            begun : (o : Option Handshake) → handshake_at log h ≡ o → Each P (handshake_turn n full due h o (line log (queue.Handshake n h))).puts
            begun None is = tt
            begun (Some s) is = turn_says come h n runs s is full due (line log (queue.Handshake n h)) refl
        by false gone = tt

    -- ---- the step of an attempt

    module _ (e n : ℕ) (a : Attempt) (here : attempts_of configs log n e ≡ Some a) where
      dialed_leads : (link : ℕ) → a.answer ≡ Some link → IsDialed configs log n e → LeadsTo configs log n a.key link
      dialed_leads link answered dialed =
          let to : IsLinkedTo configs log n a = dialed.1 a here in
          (to.to, inl (subst (λ l. Links log l n to.to) (same_Some to.link link (sym to.answer ∙ answered)) to.links), to.key)

      linked_says : (full : Bool) (o : Option ℕ) → a.answer ≡ o → (name : ℕ × ℕ) (left : List Envelope) → IsDialed configs log n e → Each P (linked_row n full a.key o name left).puts
      linked_says full None answered name left says = (tt, tt)
      linked_says full (Some link) answered name left says = ready_says n full a.key link name left (dialed_leads link answered says)

      resolved_says : (o : Option Attempt) (name : ℕ × ℕ) (left : List Envelope) → Each P (resolved_row o n a.key name left).puts
      resolved_says None name left = (tt, tt)
      resolved_says (Some b) name left = tt

      tried_says : (full private : Bool) (name : ℕ × ℕ) (i : Item) (left : List Envelope) → Says configs log (queue.Attempt n e) i → Each P (attempt_took_row n full private seed a name i left).puts
      tried_says full private name (item.Resolved addresses) left says = resolved_says (resolved a.address private addresses seed a) name left
      tried_says full private name item.Linked left says = tt
      tried_says full private name (item.Finished true) left says = linked_says full a.answer refl name left says
      tried_says full private name (item.Finished false) left says = (tt, tt)
      tried_says full private name _ left says = (tt, tt)

      trying_says : (full private : Bool) (xs : List Envelope) → line log (queue.Attempt n e) ≡ xs → Each P (attempt_turn n at seed full private a xs).puts
      trying_says full private [] first = by (nat_le a.deadline at)
        where
          by : (b : Bool) → Each P (cond b (given_up_row n a.key [] []) (only reply.Idle)).puts
          by true = (tt, tt)
          by false = tt
      trying_says full private (x ∷ rest) first = tried_says full private (name_of x) x.item rest (first_says configs log (queue.Attempt n e) x rest say first)

    attempt_says : (e n : ℕ) → Each P (attempt_step_row configs log e n at seed).puts
    attempt_says e n =
        let r : Row = attempt_row configs log e n at seed in
        each_dropping P log (cond (gave_up r.puts) (dialing_end log n e) None) r (by (attempts_of configs log n e) refl)
      where
        by : (o : Option Attempt) → attempts_of configs log n e ≡ o
            → Each P (attempt_by o n at seed (is_spawner_full configs log n) (dial_rules_at configs n).private (line log (queue.Attempt n e))).puts
        by None is = tt
        by (Some a) is = trying_says e n a is (is_spawner_full configs log n) (dial_rules_at configs n).private (line log (queue.Attempt n e)) refl

  -- ---- what an attempt is told

  resolve_says : (addresses : List SocketAddr) (e n : ℕ) → Each P (resolve_row configs log addresses e n).puts
  resolve_says addresses e n = by (attempts_of configs log n e)
    where
      named : (at : Ingress) (b : Bool) → Each P (resolve_by at b e n addresses).puts
      named (ingress.Dns host port) false = (tt, tt)
      named (ingress.Dns host port) true = tt
      named (ingress.Socket s) b = tt

      by : (o : Option Attempt) → RowSays (elim o [ None ↦ only reply.Gone | Some a ↦ resolve_by a.ingress a.is_resolved e n addresses ])
      by None = tt
      by (Some a) = named a.ingress a.is_resolved

  refused_says : (e n : ℕ) (r : Row) → IsUnanswered configs log e n r ⊎ IsRefused configs log e n r → Each P r.puts
  refused_says e n r (inl none) = subst (Each P) (sym none.1) tt
  refused_says e n r (inr refused) = subst (Each P) (sym refused.1) (tt, tt)

  -- ---- the end of an exchange

  -- what it comes to, by the attempt that dialed
  abbrev comes_to : ℕ → Bool → Opening → Option Attempt → Option ListeningEnd → Option Bool
  comes_to link ok o d end = verdict configs log ok o.to (is_cut log link) (option_map (λ (a : Attempt). a.key) d) end

  module _ (opened : AreOpened configs log) (link : ℕ) (ok : Bool) (o : Opening) (is : openings_of log link ≡ Some o) where
    agreed : (stand agree accepted : Bool) → exchanged stand agree accepted ≡ Some true → agree ≡ true
    agreed true true accepted so = refl
    agreed true false accepted so = absurd (cc)
    agreed false agree accepted so = absurd (cc)

    dialing_says : (d : Option Attempt) (end : Option ListeningEnd) → attempts_of configs log o.node o.attempt ≡ d → (told : Bool) → comes_to link ok o d end ≡ Some told
        → Each P (dialing_puts o.node o.attempt told d)
    dialing_says None end here told so = tt
    dialing_says (Some a) end here false so = (tt, tt)
    dialing_says (Some a) end here true so =
        let made : IsOpened configs log link o = opened link o is in
        let both = and_parts ok (a.key.0 == (key_at configs o.to).0) (agreed ((is_some (Some a.key) && is_some end) && not (is_cut log link)) (ok && is_dialed (key_at configs o.to) (Some a.key)) (accepts_peer log o.to end) so) in (
          (
            made.early,
            λ b standing.
                let same : a ≡ b = same_Some a b (sym here ∙ standing) in
                record { link = link; to = o.to; answer = made.answered b standing; links = made.links; key = ap (λ (c : Attempt). c.key) (sym same) ∙ key_from a.key (key_at configs o.to) both.1 },
          ),
          tt,
        )

    listening_says : (told : Bool) (end : Option ListeningEnd) → Each P (listening_puts o.to told end)
    listening_says told None = tt
    listening_says told (Some listening.Arriving) = tt
    listening_says told (Some (listening.Handshake h)) = (tt, tt)

    finished_says : (d : Option Attempt) (end : Option ListeningEnd) → attempts_of configs log o.node o.attempt ≡ d → (v : Option Bool) → comes_to link ok o d end ≡ v
        → Each P (finished_row o d end v).puts
    finished_says d end here None so = tt
    finished_says d end here (Some told) so = append (dialing_puts o.node o.attempt told d) (listening_puts o.to told end) (dialing_says d end here told so) (listening_says told end)
      where
        append : (xs ys : List (Queue × Item)) → Each P xs → Each P ys → Each P (xs ++ ys)
        append [] ys a b = b
        append (x ∷ xs) ys a b = (a.0, append xs ys a.1 b)

  finish_says : AreOpened configs log → (link : ℕ) (ok : Bool) → Each P (finish_row configs log link ok).puts
  finish_says opened link ok = by (openings_of log link) refl
    where
      by : (p : Option Opening) → openings_of log link ≡ p
          → RowSays (elim p [ None ↦ only reply.Gone | Some o ↦ finish_by configs log ok (is_cut log link) o (attempts_of configs log o.node o.attempt) (listening_ends_of log o.to link) ])
      by None is = tt
      by (Some o) is =
          let d = attempts_of configs log o.node o.attempt in
          let end = listening_ends_of log o.to link in
          finished_says opened link ok o is d end refl (comes_to link ok o d end) refl

-- ---- all acts

module _ (configs : List Config) (log : List Entry) (at seed : ℕ) (say : Each (StandSays configs log) (live log)) (come : PeersCome configs log) (opened : AreOpened configs log) where
  abbrev event : Act → Event
  event a = record { at = at; seed = seed; act = a }

  abbrev Now : Act → List (Queue × Item) → Type 0
  Now a xs = Each (PutSays configs (log ++ effect configs log (event a) ∷ [])) xs

  -- what was true before the entry is true after it
  later : (a : Act) → Each (PutSays configs log) (row configs log at seed a).puts → Now a (row configs log at seed a).puts
  later a h =
      Each-weaker (PutSays configs log) (PutSays configs (log ++ effect configs log (event a) ∷ []))
      (λ x says. says_still configs log (event a) x.0 x.1 says) (row configs log at seed a).puts h

  -- where it asks for no peer, and tells no handshake of one
  silent : (a : Act) → AreAside configs log (writes configs log a) → ((n h : ℕ) → Each (Silent exchanges n h) (row configs log at seed a).puts) → Now a (row configs log at seed a).puts
  silent a aside none = later a (silent_row configs log a (row configs log at seed a) (row_shape configs log at seed a) aside none)

  connect_says : (e : ℕ) (from : SocketAddr) (n to : ℕ) → IsAnswer configs log e n from to (connect_row configs log e from n to)
      → Now (act.Connect e from n to) (connect_row configs log e from n to).puts
  unfolding effect row
  connect_says e from n to (inl none) = later (act.Connect e from n to) (refused_says configs log e n (connect_row configs log e from n to) (inl none))
  connect_says e from n to (inr (inl refused)) = later (act.Connect e from n to) (refused_says configs log e n (connect_row configs log e from n to) (inr refused))
  connect_says e from n to (inr (inr linked)) =
      subst (Now (act.Connect e from n to)) (sym linked.2)
      (tt, ((n, links_now configs log e n from to at seed (connect_row configs log e from n to) linked, refl), tt))

  pub each_says : (a : Act) → Now a (row configs log at seed a).puts
  unfolding row
  each_says (act.SendStep conn n) =
      silent (act.SendStep conn n) (record { arrivals = λ m. refl; attempts = λ m e. refl; spawners = λ m. refl }) (λ m h. sender_silent exchanges m h configs log at seed conn n)
  each_says (act.RecvStep conn n) =
      silent (act.RecvStep conn n) (record { arrivals = λ m. refl; attempts = λ m e. refl; spawners = λ m. refl }) (λ m h. receiver_silent exchanges m h configs log at seed conn n)
  each_says (act.Ask what n) =
      silent (act.Ask what n) (record { arrivals = λ m. refl; attempts = λ m e. refl; spawners = λ m. refl }) (λ m h. ask_silent exchanges m h configs log at seed what n)
  each_says (act.Tracker n) = later (act.Tracker n) (tracker_says configs log say at seed n)
  each_says (act.Dialer n) =
      silent (act.Dialer n) (record { arrivals = λ m. refl; attempts = λ m e. refl; spawners = λ m. refl }) (λ m h. dialer_silent exchanges m h configs log at seed n)
  each_says (act.Listener n) =
      silent (act.Listener n) (record { arrivals = λ m. refl; attempts = λ m e. refl; spawners = λ m. refl })
      (λ m h. asked_silent configs log n at seed (row configs log at seed (act.Listener n)).puts (listener_asks exchanges 0 0 configs log at seed n) m h)
  each_says (act.Handshake h n) = later (act.Handshake h n) (handshake_says configs log say at seed come h n)
  each_says (act.Attempt e n) = later (act.Attempt e n) (attempt_says configs log say at seed e n)
  each_says (act.Resolve addresses e n) = later (act.Resolve addresses e n) (resolve_says configs log addresses e n)
  each_says (act.Connect e from n to) = connect_says e from n to (connect_is configs log e n from to)
  each_says (act.Refuse e n) = later (act.Refuse e n) (refused_says configs log e n (refuse_row configs log e n) (refuse_is configs log e n))
  each_says (act.Finish link ok) = later (act.Finish link ok) (finish_says configs log opened link ok)
  each_says a =
      later a
      (other configs log a (row configs log at seed a) (row_shape configs log at seed a)
      (record { arrivals = λ m. refl; attempts = λ m e. refl; spawners = λ m. refl }) (λ m. refl) (λ m h. refl))
