-- The acts of a node's dialer.
use Rattle.p2p_log_rules.proofs.Channels.{up_lasts}
use Rattle.p2p_net_tracker.specs.AtDesk.{blocked_asked}
use Rattle.std.proofs.Common.{◌≡◌, ℕ, suc, ◌+◌, ◌<◌, Bool, true, false, cond, List, [], ◌∷◌, ◌++◌, map, drop, length, refl, ap, sym, subst, ◌∙◌, arith, append-nil, eq-eqb, Option, Some, None}
use Rattle.std.specs.Prelude.{◌-◌, ◌&&◌, not, nat_le, filter, slice_get, flat_map}
use Rattle.p2p_base.specs.declared.key.Key.{Key}
use Rattle.p2p_base.specs.Queue.{has_room}
use Rattle.p2p_address.specs.declared.peer.Ingress.{Ingress}
use Rattle.p2p_tracker_directory.specs.declared.metadata.Metadata.TheVariants as metadata
use Rattle.p2p_tracker_mailbox.specs.Desk.{Desk, with_message}
use Rattle.p2p_tracker_mailbox.specs.Mailboxes.{with_message_in}
use Rattle.p2p_tracker_mailbox.specs.declared.answer.DialerAnswer.{DialerAnswer}
use Rattle.p2p_tracker_mailbox.specs.declared.answer.DialerAnswer.TheVariants as answer
use Rattle.p2p_tracker_mailbox.specs.declared.mailbox.Mailbox.{Mailbox}
use Rattle.p2p_tracker_mailbox.specs.declared.message.Message.{Message}
use Rattle.p2p_tracker_mailbox.specs.declared.message.Message.TheVariants as message
use Rattle.p2p_gates.specs.Attempting.{Attempting, new_attempt}
use Rattle.p2p_gates.specs.Dialing.{Dialing as Actor}
use Rattle.p2p_gates.specs.DialerTurns as turns
use Rattle.p2p_gates.specs.Stepping.{Turn}
use Rattle.p2p_gates.specs.declared.config.Config.{Config as Gates}
use Rattle.p2p_gates.specs.declared.stepped.Input.{Input}
use Rattle.p2p_gates.specs.declared.stepped.Input.TheVariants as input
use Rattle.p2p_gates.specs.declared.stepped.Stepped.TheVariants as stepped
use Rattle.p2p_log.specs.declared.config.Config.{Config}
use Rattle.p2p_log.specs.declared.queue.Queue.{Queue}
use Rattle.p2p_log.specs.declared.queue.Queue.TheVariants as queue
use Rattle.p2p_log.specs.declared.item.Item.{Item}
use Rattle.p2p_log.specs.declared.item.Item.TheVariants as item
use Rattle.p2p_log.specs.declared.item.Envelope.{Envelope}
use Rattle.p2p_log.specs.declared.entry.Entry.{Entry}
use Rattle.p2p_log.specs.declared.entry.Reply.TheVariants as reply
use Rattle.p2p_log.specs.declared.event.Event.{Event}
use Rattle.p2p_log.specs.declared.event.Act.TheVariants as act
use Rattle.p2p_log.specs.Lines.{name_of, goes, line, live, stays, stands_in}
use Rattle.p2p_log.proofs.Queues.{same_queue-refl}
use Rattle.p2p_log_rules.proofs.Connections.{ends_untold}
use Rattle.p2p_log_rules.specs.declared.row.Row.{Row}
use Rattle.p2p_log_rules.specs.Facts.{is_up, taken}
use Rattle.p2p_log_rules.specs.Effect.{only, row, effect, entry_of}
use Rattle.p2p_log_rules.specs.Attempting.{Attempt, DialRules, dial_rules_at}
use Rattle.p2p_log_rules.specs.Tellings.{last_or}
use Rattle.p2p_log_rules.specs.Told.{asks_list, answer_tells, ask_tells, told}
use Rattle.p2p_log_rules.proofs.Attempts.{attempt_told}
use Rattle.p2p_log_rules.proofs.AttemptTellings.{granted_told, attempts_of-new}
use Rattle.p2p_log_rules.proofs.Dialing.{dials_told, list_told, dial_told, next_told, due_told, asked_told, dials_of-stepped}
use Rattle.p2p_log_rules.specs.Dialing.{Pace, pace_at, next_deadline, Dials, dials_of, in_drawn_order, last_key, without_last, dial_puts, dials_row, answer_taken_row, due_row, dialer_turn}
use Rattle.p2p_log_rules.proofs.Handshakes.{handshakes_of-apart}
use Rattle.p2p_log_laws.proofs.Untouched.{line-untouched}
use Rattle.p2p_net_queues.proofs.Going.{put_in}
use Rattle.p2p_net_gates.specs.Dialing as dialing
use Rattle.p2p_net_gates.specs.DialerStands.{no_gates, gates_at, actor_of, DialerStands}
use Rattle.p2p_net_gates.specs.declared.dialing.Dialed.{Dialed}
use Rattle.p2p_net_gates.specs.declared.dialing.Dialing.{Dialing}
use Rattle.p2p_net_gates.specs.declared.attempt.RunningAttempt.{RunningAttempt}
use Rattle.p2p_net_gates.proofs.DialerChanges.{attempts_with, IsBegun, begun_is, timeout_is, dialer_stepped}
use Rattle.p2p_net_links.specs.Stands.{LinksStand}
use Rattle.p2p_net_links.specs.declared.links.Links.{Links}
use Rattle.p2p_net_tracker.specs.Dialed.{taken_names, asked_puts, names_asked, dialed_row}
use Rattle.p2p_net_tracker.specs.GivenBack.{IsGivenBack}
use Rattle.p2p_net_tracker.specs.Naming.{dialed_grant}
use Rattle.p2p_net_queues.specs.Matching.{Match}
use Rattle.p2p_net_tracker.specs.Stands.{is_told, IsMessage, IsAnswer, TrackerStands}
use Rattle.p2p_net_tracker.specs.declared.naming.Tickets.{Tickets}
use Rattle.p2p_net_tracker.proofs.Changes.{told_apart, kept_open}
use Rattle.p2p_net_tracker.proofs.DialerSteps.{is_taken_of, tracker_dialed, told_moved, mailbox_moved, none_left, answer_left}
use Rattle.p2p_net_tracker.proofs.StepFacts.{none_taken, first_taken}
use Rattle.p2p_net_node.specs.Places as place
use Rattle.p2p_net_node.specs.Ready.{is_node_up}
use Rattle.p2p_net_dialing.specs.Dialing.{DialedBy, DialerStepsBy}
use Rattle.p2p_net_node.specs.Stands.{NodeStands}
use Rattle.p2p_net_node.specs.declared.node.Node.{Node}
use Rattle.p2p_net_node.proofs.EachPart.{each_part, not_among}
use Rattle.p2p_net_node.proofs.Frames.{links_kept}
use Rattle.p2p_net_node.proofs.Nodes.{some_at}
use Rattle.p2p_net_node.proofs.Performing.{asked, Performs, stays_performs}
use Rattle.p2p_net_node.proofs.Readying.{started_is}

-- ---- what is asked, as an item and as a message

abbrev Ask : Type 0
Ask = Item × Message Key

abbrev item_in : Option Ask → Option Item
item_in None = None
item_in (Some a) = Some a.0

abbrev message_in : Option Ask → List (Message Key)
message_in None = []
message_in (Some a) = a.1 ∷ []

abbrev desk_with : Option Ask → Desk Key → Desk Key
desk_with None d = d
desk_with (Some a) d = with_message d a.1

-- the item is of the message, which gives nothing back, and is no subscription
abbrev IsAsked : Tickets → List Entry → Option Ask → Type 0
IsAsked tickets log None = Unit {0}
IsAsked tickets log (Some a) = IsMessage tickets log a.0 a.1 × ((l : List Entry) (k : ℕ) → IsGivenBack l k a.1) × (blocked_asked a.1 ≡ [])

-- where it waits
abbrev waits_in : ℕ → ℕ → Option Ask → List Envelope
waits_in k n None = []
waits_in k n (Some a) = record { entry = k; place = 0; queue = queue.Tracker n; item = a.0 } ∷ []

names_are : (k n : ℕ) (o : Option Ask) → names_asked k (item_in o) ≡ map name_of (waits_in k n o)
names_are k n None = refl
names_are k n (Some a) = refl

-- ---- the pace of a node's dialer

abbrev pace_of : Gates → Pace
pace_of g = record { frequency = g.dial_frequency; cooldown = g.peer_connection_cooldown }

pace_is : (configs : List Config) (n : ℕ) → pace_at configs n ≡ pace_of (gates_at configs n)
pace_is configs n = by (slice_get configs n)
  where
    by : (o : Option Config)
        → elim o [ None ↦ record { frequency = 0; cooldown = 0 } | Some c ↦ record { frequency = c.dial_frequency; cooldown = c.peer_connection_cooldown } ]
        ≡ pace_of (elim o [ None ↦ no_gates | Some c ↦ dialing.gates_of c ])
    by None = refl
    by (Some c) = refl

deadline_is : (g : Gates) (asked_at : ℕ) (peers : List Key) (next : Option ℕ) → turns.next_deadline g asked_at peers next ≡ next_deadline (pace_of g) asked_at peers next
deadline_is g asked_at [] next = refl
deadline_is g asked_at (k ∷ ks) next = refl

-- a list that holds something has a last key
last_there : (k : Key) (ks : List Key) → last_key (k ∷ ks) ≡ None → ⊥
last_there k ks none = let it = some_at (k ∷ ks) (length (k ∷ ks) - 1) (below (length ks)) in let some = it.is in cc
  where
    below : (m : ℕ) → suc m - 1 < suc m
    below m = omega arith

module _ (configs : List Config) (log : List Entry) (moment seed n : ℕ) (x y : Node) (l ls : Links) (r : Row) (s : NodeStands configs log n x) (t : LinksStand configs log l) (up : is_up log n ≡ true)
    (rest : y ≡ record x { tracker = y.tracker; dialing = y.dialing }) (kept : ls ≡ l) where
  abbrev ev : Event
  ev = asked moment seed (act.Dialer n)

  abbrev k : ℕ
  k = length log

  abbrev g : Gates
  g = gates_at configs n

  abbrev rules : DialRules
  rules = dial_rules_at configs n

  abbrev ds : Dials
  ds = dials_of configs log n

  abbrev m : Mailbox Key
  m = x.tracker.mailbox

  abbrev answers : List Envelope
  answers = line log (queue.Dialer n)

  tracked : TrackerStands configs log n x.tracker
  tracked = s.each place.tracker

  dialed_before : DialerStands configs log n x.dialing
  dialed_before = s.each place.dialer

  -- the dialer that has started
  actor_is : x.dialing.actor ≡ Some (actor_of g ds)
  actor_is = dialed_before.actor ∙ ap (λ b. cond b (Some (actor_of g ds)) None) up

  row_by : (xs : List Envelope) → answers ≡ xs → row configs log moment seed (act.Dialer n) ≡ dialer_turn n moment seed ds xs
  unfolding row
  row_by xs is = ap (λ b. cond b (dialer_turn n moment seed ds answers) (only reply.Gone)) up ∙ ap (dialer_turn n moment seed ds) is

  -- ---- a step that did something

  -- what is told of the dialer, by what it took and put
  abbrev after : Pace → List Item → List (Queue × Item) → Dials
  after pace items puts = dials_told pace n (ask_tells n moment items puts) (dials_told pace n (answer_tells n ds.asked_at k moment seed items) ds)

  abbrev IsNext : List Item → List (Queue × Item) → Dials → Type 0
  IsNext items puts next = after (pace_of g) items puts ≡ next

  -- the attempt that begins
  abbrev begun_by : List Item → Option Attempt
  begun_by items = attempt_told rules n k (answer_tells n (last_or 0 (asks_list n) (told log)) k moment seed items) None

  abbrev due : Bool → Option Ask → Row
  due took o = dialed_row answers n took (item_in o)

  abbrev e : Bool → Option Ask → Entry
  e took o = entry_of ev (due took o)

  effect_is : (due : Row) → row configs log moment seed (act.Dialer n) ≡ due → entry_of ev due ≡ effect configs log ev
  unfolding effect
  effect_is due is = ap (entry_of ev) (sym is)

  module _ (took : Bool) (o : Option Ask)
      (asks : IsAsked x.tracker.tickets log o)
      (tracks : DialedBy (Some (record { took = took; asked = item_in o })) k n x.tracker y.tracker r)
      (desk : y.tracker.mailbox.desk ≡ desk_with o m.desk)
      (answered : y.tracker.mailbox.dialer ≡ cond took (drop 1 m.dialer) m.dialer)
      (mailbox : y.tracker.mailbox ≡ record m { desk = y.tracker.mailbox.desk; dialer = y.tracker.mailbox.dialer })
      (left : (p : Queue) → filter (stands_in p) (filter (stays (goes (e took o))) (live log)) ≡ cond (is_taken_of took n p) (drop 1 (line log p)) (line log p)) where
    open_mailbox : m.desk.messages.closed ≡ false
    open_mailbox = tracked.closed ∙ up_lasts log n up

    items_are : (o : Option Ask) → (desk_with o m.desk).messages.items ≡ m.desk.messages.items ++ message_in o
    items_are None = sym (append-nil m.desk.messages.items)
    items_are (Some a) = kept_open m.desk.messages.closed (has_room m.desk.messages) m.desk.messages.items a.1 open_mailbox

    closed_is : (o : Option Ask) → (desk_with o m.desk).messages.closed ≡ m.desk.messages.closed
    closed_is None = refl
    closed_is (Some a) = refl

    capacity_is : (o : Option Ask) → (desk_with o m.desk).messages.capacity ≡ m.desk.messages.capacity
    capacity_is None = refl
    capacity_is (Some a) = refl

    questions_are : (o : Option Ask) → (desk_with o m.desk).questions ≡ m.desk.questions
    questions_are None = refl
    questions_are (Some a) = refl

    updates_are : (o : Option Ask) → (desk_with o m.desk).updates ≡ m.desk.updates
    updates_are None = refl
    updates_are (Some a) = refl

    sets_are : (o : Option Ask) → (desk_with o m.desk).sets ≡ m.desk.sets
    sets_are None = refl
    sets_are (Some a) = refl

    each_is : (o : Option Ask) → IsAsked x.tracker.tickets log o → Match (λ z w. IsMessage x.tracker.tickets log z.item w) (waits_in k n o) (message_in o)
    each_is None h = tt
    each_is (Some a) h = (h.0, tt)

    -- nothing is given back
    given_is : (o : Option Ask) → IsAsked x.tracker.tickets log o → (l : List Entry) → Match (λ z w. IsGivenBack l z.entry w) (waits_in k n o) (message_in o)
    given_is None h l = tt
    given_is (Some a) h l = (h.1 l k, tt)

    -- nor subscribed
    none_asked : (o : Option Ask) → IsAsked x.tracker.tickets log o → flat_map blocked_asked (message_in o) ≡ []
    none_asked None h = refl
    none_asked (Some a) h = ap (λ l. l ++ []) h.2

    put_is : (o : Option Ask) → put_in log (e took o) (queue.Tracker n) ≡ waits_in k n o
    put_is None = refl
    put_is (Some a) =
        let z : Envelope = record { entry = k; place = 0; queue = queue.Tracker n; item = a.0 } in
        ap (λ b. cond b (z ∷ []) []) (same_queue-refl (queue.Tracker n))

    quiet_is : (o : Option Ask) (p : Queue) → is_told n p ≡ true → put_in log (e took o) p ≡ []
    quiet_is None p own = refl
    quiet_is (Some a) p own =
        let z : Envelope = record { entry = k; place = 0; queue = queue.Tracker n; item = a.0 } in
        ap (λ b. cond b (z ∷ []) []) (told_apart n n p own)

    tracker_is : TrackerStands configs (log ++ e took o ∷ []) n y.tracker
    tracker_is =
        tracker_dialed configs log (e took o) n x.tracker y.tracker took (waits_in k n o) (message_in o) tracked
        (record {
          no_step = refl;
          no_end = λ conn. ends_untold log (e took o) n conn (e took o).event.act refl refl;
          no_question = refl;
          goes_on = refl;
          no_answer = λ d. refl;
          no_admission = handshakes_of-apart log (e took o) n refl;
          rest =
              tracks.1.1
              ∙ (ap (λ w. record x.tracker { mailbox = w; told = y.tracker.told; names = x.tracker.names ++ names_asked k (item_in o) }) mailbox
              ∙ ap (λ w. record x.tracker { mailbox = record m { desk = y.tracker.mailbox.desk; dialer = y.tracker.mailbox.dialer }; told = y.tracker.told; names = x.tracker.names ++ w }) (names_are k n o));
          items = ap (λ (d : Desk Key). d.messages.items) desk ∙ items_are o;
          closed = ap (λ (d : Desk Key). d.messages.closed) desk ∙ closed_is o;
          capacity = ap (λ (d : Desk Key). d.messages.capacity) desk ∙ capacity_is o;
          questions = ap (λ (d : Desk Key). d.questions) desk ∙ questions_are o;
          updates = ap (λ (d : Desk Key). d.updates) desk ∙ updates_are o;
          sets = ap (λ (d : Desk Key). d.sets) desk ∙ sets_are o;
          none_asked = none_asked o asks;
          each = each_is o asks;
          given = given_is o asks (log ++ e took o ∷ []);
          waits = mailbox_moved log (e took o) n took (waits_in k n o) left (put_is o) (quiet_is o);
          lines = told_moved log (e took o) n took (waits_in k n o) left (put_is o) (quiet_is o);
          answered = answered;
          told = tracks.1.0;
        })

    -- and where the dialer comes to this by what is told
    moved : (items : List Item) (begun : Option (Attempting Key)) (next : Dials) → row configs log moment seed (act.Dialer n) ≡ due took o → taken log (e took o) ≡ items → IsNext items (asked_puts n (item_in o)) next
        → y.dialing.actor ≡ Some (actor_of g next) → IsBegun g k begun (begun_by items) → y.dialing.attempts ≡ attempts_with begun k x.dialing.attempts → Performs configs log ev n y ls r
    moved items begun next row_is items_is comes actor new attempts =
        let same = effect_is (due took o) row_is in
        let dialer_is : DialerStands configs (log ++ e took o ∷ []) n y.dialing =
        dialer_stepped configs log (e took o) n x.dialing y.dialing begun next dialed_before refl up
        (dials_of-stepped configs log (e took o) n refl ∙ (ap (λ i. after (pace_at configs n) i (asked_puts n (item_in o))) items_is ∙ (ap (λ p. after p items (asked_puts n (item_in o))) (pace_is configs n) ∙ comes)))
        actor
        (subst (IsBegun g k begun) (sym (attempts_of-new configs log (e took o) n refl ∙ ap begun_by items_is)) new) attempts
        (λ j. subst (λ (d : Entry). line (log ++ d ∷ []) (queue.Attempt n j) ≡ line log (queue.Attempt n j)) (sym same) (line-untouched configs log ev (queue.Attempt n j) refl refl refl))
        in
        record {
          row_is = tracks.0 ∙ (ap (λ h. dialed_row h n took (item_in o)) (tracked.told (queue.Dialer n) (eq-eqb n n refl)) ∙ sym row_is);
          node =
              each_part configs log ev n x y (place.tracker ∷ place.dialer ∷ []) s rest (λ p out. not_among (place.tracker ∷ place.dialer ∷ []) p n n out) refl refl (
                subst (λ (d : Entry). TrackerStands configs (log ++ d ∷ []) n y.tracker) same tracker_is,
                (subst (λ (d : Entry). DialerStands configs (log ++ d ∷ []) n y.dialing) same dialer_is, tt),
              );
          linked = subst (LinksStand configs (log ++ effect configs log ev ∷ [])) (sym kept) (links_kept configs log ev l t refl);
        }

  -- ---- by the turn of the actor

  -- what a turn makes of it
  abbrev TurnsTo : Turn (Actor Key) Key → Option Dialed → Type 0
  TurnsTo turn d = dialing.TurnsBy turn k x.dialing y.dialing y.tracker.mailbox d

  abbrev Tracks : Option Dialed → Type 0
  Tracks d = DialedBy d k n x.tracker y.tracker r

  actor_now : (a : Actor Key) (attempts : List (ℕ × RunningAttempt)) → y.dialing ≡ record { actor = Some a; attempts = attempts } → y.dialing.actor ≡ Some a
  actor_now a attempts is = ap (λ (d : Dialing). d.actor) is

  attempts_now : (a : Actor Key) (attempts : List (ℕ × RunningAttempt)) → y.dialing ≡ record { actor = Some a; attempts = attempts } → y.dialing.attempts ≡ attempts
  attempts_now a attempts is = ap (λ (d : Dialing). d.attempts) is

  -- no input was ready
  idle : (d : Option Dialed) → row configs log moment seed (act.Dialer n) ≡ only reply.Idle → TurnsTo (record { stepped = stepped.Idle; actor = actor_of g ds; way = m }) d → Tracks d → Performs configs log ev n y ls r
  idle d row_is h tracks =
      let none : Tracks None = subst Tracks h.0 tracks in
      let same_tracker : y.tracker ≡ x.tracker = none.1 ∙ ap (λ w. record x.tracker { mailbox = w }) h.1.1 in
      let same_dialing : y.dialing ≡ x.dialing = h.1.0 ∙ ap (λ a. record x.dialing { actor = a }) (sym actor_is) in
      let same : y ≡ x = rest ∙ (ap (λ w. record x { tracker = w; dialing = y.dialing }) same_tracker ∙ ap (λ w. record x { tracker = x.tracker; dialing = w }) same_dialing) in
      stays_performs configs log ev n x y l ls r reply.Idle s t row_is refl none.0 same kept

  -- it asks for this key, or for none
  abbrev dial_of : Option Key → Option Ask
  dial_of None = None
  dial_of (Some key) = Some (item.AskDial key, message.Dial key)

  abbrev dials_after : Option Key → Dials → Dials
  dials_after None d = record d { is_asking = false }
  dials_after (Some key) d = record d { peers = without_last d.peers; is_asking = true }

  asks_next : (took : Bool) (inp : Input) (items : List Item) (d : Dials) (way : Mailbox Key) (o : Option Key) (what : Option Dialed) → dialing.is_answer inp ≡ took → way.desk ≡ m.desk → way.dialer ≡ cond took (drop 1 m.dialer) m.dialer
      → way ≡ record m { desk = way.desk; dialer = way.dialer } → row configs log moment seed (act.Dialer n) ≡ record { reply = reply.Ok; takes = taken_names took answers; puts = dial_puts n o; ends = [] }
      → ((a : Option Ask) → taken log (e took a) ≡ items)
      → ((a : Option Ask) (p : Queue) → filter (stands_in p) (filter (stays (goes (e took a))) (live log)) ≡ cond (is_taken_of took n p) (drop 1 (line log p)) (line log p))
      → IsNext items (dial_puts n o) (dials_after o d) → begun_by items ≡ None → TurnsTo (turns.asks_for o inp (actor_of g d) way) what → Tracks what → Performs configs log ev n y ls r
  asks_next took inp items d way None what is_taken desk answered rest_of row_is items_are left next none h tracks =
      let it : Tracks (Some (record { took = took; asked = None })) = subst (λ b. Tracks (Some (record { took = b; asked = None }))) is_taken (subst Tracks h.0 tracks) in
      moved took None tt it (ap (λ (w : Mailbox Key). w.desk) h.1.1 ∙ desk) (ap (λ (w : Mailbox Key). w.dialer) h.1.1 ∙ answered)
      (h.1.1 ∙ (rest_of ∙ ap (λ (w : Mailbox Key). record m { desk = w.desk; dialer = w.dialer }) (sym h.1.1))) (left None) items None (record d { is_asking = false }) row_is (items_are None) next
      (actor_now (actor_of g (record d { is_asking = false })) x.dialing.attempts h.1.0)
      (subst (IsBegun g k None) (sym none) tt) (attempts_now (actor_of g (record d { is_asking = false })) x.dialing.attempts h.1.0)
  asks_next took inp items d way (Some key) what is_taken desk answered rest_of row_is items_are left next none h tracks =
      let a : Option Ask = Some (item.AskDial key, message.Dial key) in
      let it : Tracks (Some (record { took = took; asked = Some (item.AskDial key) })) = subst (λ b. Tracks (Some (record { took = b; asked = Some (item.AskDial key) }))) is_taken (subst Tracks h.0 tracks) in
      moved took a (refl, (λ l i. tt), refl) it (ap (λ (w : Mailbox Key). w.desk) h.1.1 ∙ ap (λ w. with_message w (message.Dial key)) desk) (ap (λ (w : Mailbox Key). w.dialer) h.1.1 ∙ answered)
      (h.1.1
      ∙ (ap (λ w. with_message_in w (message.Dial key)) rest_of
      ∙ (ap (λ w. record m { desk = with_message w (message.Dial key); dialer = way.dialer }) refl ∙ ap (λ (w : Mailbox Key). record m { desk = w.desk; dialer = w.dialer }) (sym h.1.1))))
      (left a) items None (record d { peers = without_last d.peers; is_asking = true }) row_is (items_are a) next
      (actor_now (actor_of g (record d { peers = without_last d.peers; is_asking = true })) x.dialing.attempts h.1.0)
      (subst (IsBegun g k None) (sym none) tt) (attempts_now (actor_of g (record d { peers = without_last d.peers; is_asking = true })) x.dialing.attempts h.1.0)

  -- ---- its deadline has come

  nothing_taken : (a : Option Ask) → taken log (e false a) ≡ []
  nothing_taken a = none_taken log (e false a) refl

  by_key : (key : Key) (keys : List Key) (o : Option Key) (what : Option Dialed) → ds.peers ≡ key ∷ keys → last_key ds.peers ≡ o → row configs log moment seed (act.Dialer n) ≡ dials_row n [] ds.peers
      → TurnsTo (turns.asks_for o input.Deadline (actor_of g (record ds { deadline = moment + g.dial_frequency })) m) what → Tracks what → Performs configs log ev n y ls r
  by_key key keys None what is last row_is h tracks = absurd (last_there key keys (ap last_key (sym is) ∙ last))
  by_key key keys (Some first) what is last row_is h tracks =
      asks_next false input.Deadline [] (record ds { deadline = moment + g.dial_frequency }) m (Some first) what refl refl refl refl
      (row_is ∙ ap (λ o. record { reply = reply.Ok; takes = []; puts = dial_puts n o; ends = [] }) last) nothing_taken (λ a. none_left log n) (due_told (pace_of g) n moment first ds) refl h tracks

  by_peers : (keys : List Key) (what : Option Dialed) → ds.peers ≡ keys → row configs log moment seed (act.Dialer n) ≡ due_row n keys → TurnsTo (turns.asks_whom keys (actor_of g ds) m moment) what → Tracks what
      → Performs configs log ev n y ls r
  by_peers [] what is row_is h tracks =
      let a : Option Ask = Some (item.AskDialable, message.Dialable) in
      let now = actor_of g (record ds { asked_at = moment; is_asking = true }) in
      moved false a (refl, (λ l i. tt), refl) (subst Tracks h.0 tracks) (ap (λ (w : Mailbox Key). w.desk) h.1.1) (ap (λ (w : Mailbox Key). w.dialer) h.1.1)
      (h.1.1 ∙ ap (λ (w : Mailbox Key). record m { desk = w.desk; dialer = w.dialer }) (sym h.1.1)) (none_left log n) [] None (record ds { asked_at = moment; is_asking = true }) row_is (nothing_taken a)
      (asked_told (pace_of g) n moment [] (queue.Tracker n) [] ds) (actor_now now x.dialing.attempts h.1.0) tt (attempts_now now x.dialing.attempts h.1.0)
  by_peers (key ∷ keys) what is row_is h tracks = by_key key keys (last_key ds.peers) what is refl (row_is ∙ ap (dials_row n []) (sym is)) h tracks

  by_due : (b : Bool) (what : Option Dialed) → (not ds.is_asking && nat_le ds.deadline moment) ≡ b → answers ≡ [] → TurnsTo (cond b (turns.asks_whom ds.peers (actor_of g ds) m moment) (record { stepped = stepped.Idle; actor = actor_of g ds; way = m })) what
      → Tracks what → Performs configs log ev n y ls r
  by_due true what is none h tracks = by_peers ds.peers what refl (row_by [] none ∙ ap (λ b. cond b (due_row n ds.peers) (only reply.Idle)) is) h tracks
  by_due false what is none h tracks = idle what (row_by [] none ∙ ap (λ b. cond b (due_row n ds.peers) (only reply.Idle)) is) h tracks

  -- ---- an answer is taken

  module _ (z : Envelope) (others : List Envelope) (first : answers ≡ z ∷ others) where
    abbrev way_left : Mailbox Key
    way_left = record m { dialer = drop 1 m.dialer }

    goes_are : (a : Option Ask) → goes (e true a) ≡ name_of z ∷ []
    goes_are a = ap (λ q. taken_names true q ++ []) first

    first_gone : (a : Option Ask) (p : Queue) → filter (stands_in p) (filter (stays (goes (e true a))) (live log)) ≡ cond (is_taken_of true n p) (drop 1 (line log p)) (line log p)
    first_gone a p = ap (λ l. filter (stands_in p) (filter (stays l) (live log))) (goes_are a) ∙ answer_left log n z others first p

    one_taken : (i : Item) → z.item ≡ i → (a : Option Ask) → taken log (e true a) ≡ i ∷ []
    one_taken i is a = first_taken log (e true a) (queue.Dialer n) z others first (ap (taken_names true) first) ∙ ap (λ j. j ∷ []) is

    answer_row : (i : Item) → z.item ≡ i → row configs log moment seed (act.Dialer n) ≡ answer_taken_row n seed ds (name_of z) i
    answer_row i is = row_by (z ∷ others) first ∙ ap (answer_taken_row n seed ds (name_of z)) is

    abbrev taking : List (ℕ × ℕ) → List (Queue × Item) → Row
    taking names puts = record { reply = reply.Ok; takes = names; puts = puts; ends = [] }

    takes_are : (puts : List (Queue × Item)) → taking (name_of z ∷ []) puts ≡ taking (taken_names true answers) puts
    takes_are puts = ap (λ q. taking (taken_names true q) puts) (sym first)

    -- whom to dial
    listed : (next : Option ℕ) (peers : List Key) (what : Option Dialed) → z.item ≡ item.Dialable next peers
        → TurnsTo (turns.answer_turn (answer.Dialable (record { peers = peers; next_query_at = next })) (actor_of g ds) way_left k moment seed) what → Tracks what → Performs configs log ev n y ls r
    listed next peers what is h tracks =
        let keys = in_drawn_order seed peers in
        let d : Dials = record ds { peers = keys; deadline = next_deadline (pace_of g) ds.asked_at peers next } in
        asks_next true input.Answer (item.Dialable next peers ∷ []) d way_left (last_key keys) what refl refl refl refl (answer_row (item.Dialable next peers) is ∙ takes_are (dial_puts n (last_key keys)))
        (one_taken (item.Dialable next peers) is) first_gone (comes (last_key keys)) refl
        (subst (λ w. TurnsTo (turns.dials_next input.Answer (record (actor_of g ds) { peers = keys; deadline = w }) way_left) what) (deadline_is g ds.asked_at peers next) h) tracks
      where
        with_list : Dials
        with_list = record ds { peers = in_drawn_order seed peers; deadline = next_deadline (pace_of g) ds.asked_at peers next }

        in_order : Dials
        in_order = record with_list { is_asking = false }

        by : (o : Option Key) → elim o [ None ↦ in_order | Some key ↦ record in_order { peers = without_last in_order.peers; is_asking = true } ] ≡ dials_after o with_list
        by None = refl
        by (Some key) = refl

        comes : (o : Option Key) → IsNext (item.Dialable next peers ∷ []) (dial_puts n o) (dials_after o with_list)
        comes o =
            ap (dials_told (pace_of g) n (ask_tells n moment (item.Dialable next peers ∷ []) (dial_puts n o))) (list_told (pace_of g) n ds.asked_at k moment seed next peers [] ds)
            ∙ (next_told (pace_of g) n moment (item.Dialable next peers) [] o in_order ∙ by o)

    -- a dial that was refused
    refused : (what : Option Dialed) → z.item ≡ item.Dial None → TurnsTo (turns.answer_turn (answer.Dial None) (actor_of g ds) way_left k moment seed) what → Tracks what → Performs configs log ev n y ls r
    refused what is h tracks =
        asks_next true input.Answer (item.Dial None ∷ []) ds way_left (last_key ds.peers) what refl refl refl refl (answer_row (item.Dial None) is ∙ takes_are (dial_puts n (last_key ds.peers)))
        (one_taken (item.Dial None) is) first_gone (comes (last_key ds.peers)) refl h tracks
      where
        quiet : Dials
        quiet = record ds { is_asking = false }

        by : (o : Option Key) → elim o [ None ↦ quiet | Some key ↦ record quiet { peers = without_last quiet.peers; is_asking = true } ] ≡ dials_after o ds
        by None = refl
        by (Some key) = refl

        comes : (o : Option Key) → IsNext (item.Dial None ∷ []) (dial_puts n o) (dials_after o ds)
        comes o =
            ap (dials_told (pace_of g) n (ask_tells n moment (item.Dial None ∷ []) (dial_puts n o))) (dial_told (pace_of g) n ds.asked_at k moment seed None [] ds)
            ∙ (next_told (pace_of g) n moment (item.Dial None) [] o quiet ∙ by o)

    -- one that was granted
    granted : (p : Key × Ingress) (what : Option Dialed) → z.item ≡ item.Dial (Some p) → TurnsTo (turns.answer_turn (answer.Dial (Some (metadata.Dialer p.0, p.1))) (actor_of g ds) way_left k moment seed) what → Tracks what
        → Performs configs log ev n y ls r
    granted p what is h tracks =
        let i : Item = item.Dial (Some p) in
        let reserved = metadata.Dialer p.0 in
        let now = actor_of g (record ds { is_asking = false }) in
        let a = new_attempt k reserved p.1 g moment in
        let later = attempts_with (Some a) k x.dialing.attempts in
        moved true None tt (subst Tracks h.0 tracks) (ap (λ (w : Mailbox Key). w.desk) h.1.1) (ap (λ (w : Mailbox Key). w.dialer) h.1.1)
        (h.1.1 ∙ ap (λ (w : Mailbox Key). record m { desk = w.desk; dialer = w.dialer }) (sym h.1.1)) (first_gone None) (i ∷ []) (Some a) (record ds { is_asking = false }) (answer_row i is ∙ takes_are []) (one_taken i is None)
        (dial_told (pace_of g) n ds.asked_at k moment seed (Some p) [] ds) (actor_now now later h.1.0)
        (subst (IsBegun g k (Some a)) (sym (granted_told rules n k (last_or 0 (asks_list n) (told log)) moment seed p [])) (reserved, refl, begun_is g rules k reserved p.0 moment p.1 (timeout_is configs n)))
        (attempts_now now later h.1.0)

    by_answer : (i : Item) (a : DialerAnswer Key) (what : Option Dialed) → z.item ≡ i → IsAnswer i a → TurnsTo (turns.answer_turn a (actor_of g ds) way_left k moment seed) what → Tracks what → Performs configs log ev n y ls r
    by_answer (item.Dialable next peers) a what is h turn tracks = listed next peers what is (subst (λ b. TurnsTo (turns.answer_turn b (actor_of g ds) way_left k moment seed) what) h turn) tracks
    by_answer (item.Dial grant) a what is h turn tracks = by_grant grant is (subst (λ b. TurnsTo (turns.answer_turn b (actor_of g ds) way_left k moment seed) what) h turn)
      where
        by_grant : (o : Option (Key × Ingress)) → z.item ≡ item.Dial o → TurnsTo (turns.answer_turn (answer.Dial (dialed_grant o)) (actor_of g ds) way_left k moment seed) what → Performs configs log ev n y ls r
        by_grant None is turn = refused what is turn tracks
        by_grant (Some p) is turn = granted p what is turn tracks
    by_answer _ a what is h turn tracks = absurd h

  by_line : (zs : List Envelope) (given : List (DialerAnswer Key)) (what : Option Dialed) → answers ≡ zs → m.dialer ≡ given → Match (λ z a. IsAnswer z.item a) zs given
      → TurnsTo (turns.line_turn (slice_get given 0) (actor_of g ds) m k moment seed) what → Tracks what → Performs configs log ev n y ls r
  by_line [] [] what none is match h tracks = by_due (not ds.is_asking && nat_le ds.deadline moment) what refl none h tracks
  by_line (z ∷ zs) (a ∷ given) what first is match h tracks = by_answer z zs first z.item a what refl match.0 h tracks
  by_line [] (a ∷ given) what none is match h tracks = absurd match
  by_line (z ∷ zs) [] what first is match h tracks = absurd match

  steps_performs : (what : Option Dialed) → dialing.Steps x.dialing.actor k moment seed x.dialing y.dialing m y.tracker.mailbox what → Tracks what → Performs configs log ev n y ls r
  steps_performs what steps tracks =
      by_line answers m.dialer what refl refl tracked.dialer (subst (λ o. dialing.Steps o k moment seed x.dialing y.dialing m y.tracker.mailbox what) actor_is steps) tracks

pub dialer_performs : (configs : List Config) (log : List Entry) (moment seed n : ℕ) (x y : Node) (l ls : Links) (r : Row) → NodeStands configs log n x → LinksStand configs log l
    → DialerStepsBy (is_node_up x) (length log) n moment seed x y r → ls ≡ l → Performs configs log (asked moment seed (act.Dialer n)) n y ls r
unfolding row
dialer_performs configs log moment seed n x y l ls r s t steps kept = by (is_node_up x) (sym (started_is configs log n x s)) steps
  where
    by : (b : Bool) → is_up log n ≡ b → DialerStepsBy b (length log) n moment seed x y r → Performs configs log (asked moment seed (act.Dialer n)) n y ls r
    by true up h = steps_performs configs log moment seed n x y l ls r s t up h.rest kept h.dialed h.steps h.tracks
    by false down h =
        stays_performs configs log (asked moment seed (act.Dialer n)) n x y l ls r reply.Gone s t
        (ap (λ b. cond b (dialer_turn n moment seed (dials_of configs log n) (line log (queue.Dialer n))) (only reply.Gone)) down) refl h.0 h.1 kept
