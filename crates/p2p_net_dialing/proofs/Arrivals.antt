-- An attempt of one node is linked to the listener of another: the attempt is told, and the peer arrives.
use Rattle.std.proofs.Common.{◌≡◌, ℕ, ◌+◌, Bool, true, false, cond, List, [], ◌∷◌, ◌++◌, length, refl, ap, sym, subst, ◌∙◌, append-nil, eqb-true, eq-eqb, Option, Some, None}
use Rattle.std.specs.Prelude.{filter, slice_get, slice_set, ◌==◌, ◌&&◌, ◌||◌, is_some}
use Rattle.std.proofs.lemmas.Bool.{false≢true}
use Rattle.std.proofs.lemmas.Option.{same_Some}
use Rattle.std.proofs.lemmas.List.{length-set}
use Rattle.p2p_base.specs.declared.key.Key.{Key}
use Rattle.p2p_address.specs.declared.ip.SocketAddr.{SocketAddr}
use Rattle.p2p_log.specs.declared.config.Config.{Config}
use Rattle.p2p_log.specs.declared.queue.Queue.{Queue}
use Rattle.p2p_log.specs.declared.queue.Queue.TheVariants as queue
use Rattle.p2p_log.specs.declared.queue.Side.{Side}
use Rattle.p2p_log.specs.declared.queue.Side.TheVariants as side
use Rattle.p2p_log.specs.declared.item.Item.{Item}
use Rattle.p2p_log.specs.declared.item.Item.TheVariants as item
use Rattle.p2p_log.specs.declared.item.Envelope.{Envelope}
use Rattle.p2p_log.specs.declared.entry.Entry.{Entry}
use Rattle.p2p_log.specs.declared.entry.Reply.{Reply}
use Rattle.p2p_log.specs.declared.entry.Reply.TheVariants as reply
use Rattle.p2p_log.specs.declared.event.Event.{Event}
use Rattle.p2p_log.specs.declared.event.Act.TheVariants as act
use Rattle.p2p_log.specs.QueueCode.{same_queue}
use Rattle.p2p_log.specs.Lines.{placed, stands_in, line}
use Rattle.p2p_log.proofs.Queues.{same_queue-refl}
use Rattle.p2p_log_rules.specs.declared.row.Opening.{Opening}
use Rattle.p2p_log_rules.specs.declared.row.ListeningEnd.{ListeningEnd}
use Rattle.p2p_log_rules.specs.declared.row.ListeningEnd.TheVariants as listening
use Rattle.p2p_log_rules.specs.declared.row.Row.{Row}
use Rattle.p2p_log_rules.specs.Attempting.{Attempt, DialRules, dial_rules_at, attempts_of, attempt_told_row, link_item, dial_answered_row, connected_row}
use Rattle.p2p_log_rules.specs.Tellings as telling
use Rattle.p2p_log_rules.specs.Told.{link_tells}
use Rattle.p2p_log_rules.proofs.Attempts.{attempt_told}
use Rattle.p2p_log_rules.proofs.AttemptTellings.{answered_told, opened_told}
use Rattle.p2p_log_rules.proofs.Listening.{known_of-apart}
use Rattle.p2p_log_rules.specs.Effect.{only, row, effect, entry_of}
use Rattle.p2p_log_rules.specs.Facts.{key_at, is_up, with_named}
use Rattle.p2p_log_rules.specs.Links.{listening_ends_of}
use Rattle.p2p_log_rules.proofs.Handshakes.{handshakes_of-apart}
use Rattle.p2p_log_rules.proofs.Links.{listening_ends_of-linked, listening_ends_of-unlinked}
use Rattle.p2p_net_gates.proofs.LeavingListener.{steps_apart}
use Rattle.p2p_log_laws.proofs.Untouched.{line-untouched}
use Rattle.p2p_net_queues.proofs.Going.{line-kept}
use Rattle.p2p_net_queues.specs.Tables as table
use Rattle.p2p_net_gates.specs.Attempts.{AnswersDial}
use Rattle.p2p_net_gates.specs.DialerStands.{DialerStands}
use Rattle.p2p_net_gates.specs.Listening.{arrived as has_arrived}
use Rattle.p2p_net_gates.specs.ListenerStands.{ListenerStands}
use Rattle.p2p_net_gates.specs.declared.listening.Listening.{Listening}
use Rattle.p2p_net_gates.proofs.ListenerChanges.{listener_frame, listener_arrived}
use Rattle.p2p_net_gates.proofs.Handshakes.{other_tells}
use Rattle.p2p_net_links.specs.declared.links.Links.{Links}
use Rattle.p2p_net_links.specs.Stands.{LinksStand}
use Rattle.p2p_net_links.proofs.Drops.{DropsNone, drops_none-act}
use Rattle.p2p_net_links.proofs.Changes.{links_frame, links_opened, is_ok_reply, OpensNone, exchanges_less, Opens, openings_unanswered, openings_linkless, openings_opened}
use Rattle.p2p_net_dialing.specs.Linking.{arrives, with_arrival, Arrives, opened, IsLinked}
use Rattle.p2p_net_node.specs.Places.{Part, dialer, listener, same_part, at, names}
use Rattle.p2p_net_node.specs.Ready.{is_node_up}
use Rattle.p2p_net_node.specs.Stands.{NodeStands, WorldStands}
use Rattle.p2p_net_node.specs.declared.node.Node.{Node}
use Rattle.p2p_net_dialing.proofs.Attempting.{DoesTo, does_itself, other_attempt, other_named}
use Rattle.p2p_net_dialing.proofs.Between.{IsBetween, dialer_told}
use Rattle.p2p_net_dialing.proofs.DialAnswers.{answer_row, answer_row_is, dial_answered}
use Rattle.p2p_net_node.proofs.EachPart.{is_in, each_part}
use Rattle.p2p_net_node.proofs.Frames.{makes_none, part_frame}
use Rattle.p2p_net_node.proofs.Nodes.{slice_get-set, below}
use Rattle.p2p_net_node.proofs.Performing.{asked, Simulates, line-still}
use Rattle.p2p_net_node.proofs.Readying.{started_is, key_is}
use Rattle.p2p_net_node.proofs.Touching.{first_false, second_false}

-- ---- the row

-- what comes of the attempt, by what is said of it, with the arrival
connected_by : (o : Option SocketAddr) (answered up : Bool) (name n m : ℕ) (arrival : Item)
    → connected_row o answered up name n m arrival ≡ with_arrival (arrives up (dial_answered_row o answered up name n).reply) m arrival (dial_answered_row o answered up name n)
connected_by None answered true name n m arrival = refl
connected_by None answered false name n m arrival = refl
connected_by (Some s) true true name n m arrival = refl
connected_by (Some s) true false name n m arrival = refl
connected_by (Some s) false true name n m arrival = refl
connected_by (Some s) false false name n m arrival = refl

gone_by : (up : Bool) (m : ℕ) (arrival : Item) → only reply.Gone ≡ with_arrival (arrives up reply.Gone) m arrival (only reply.Gone)
gone_by true m arrival = refl
gone_by false m arrival = refl

linked_by : (o : Option Attempt) (up : Bool) (name n m : ℕ) (arrival : Item)
    → elim o [ None ↦ only reply.Gone | Some a ↦ connected_row a.address (is_some a.answer) up name n m arrival ]
    ≡ with_arrival (arrives up (answer_row o up name n).reply) m arrival (answer_row o up name n)
linked_by None up name n m arrival = gone_by up m arrival
linked_by (Some a) up name n m arrival = connected_by a.address (is_some a.answer) up name n m arrival

connect_row_is : (configs : List Config) (log : List Entry) (moment seed name n m : ℕ) (from : SocketAddr)
    → row configs log moment seed (act.Connect name from n m)
    ≡ elim (attempts_of configs log n name) [ None ↦ only reply.Gone | Some a ↦ connected_row a.address (is_some a.answer) (is_up log m) name n m (item.Arrival from (key_at configs n) (length log)) ]
unfolding row
connect_row_is configs log moment seed name n m from = refl

-- the row of what is told: of nothing, of a refusal, or of a link, with which the peer arrives
data Told (up : Bool) (name n : ℕ) (told : Row) : Type 0 where
  nothing : (rep : Reply) → is_ok_reply rep ≡ false → told ≡ only rep → arrives up told.reply ≡ false → Told up name n told
  refused : told ≡ attempt_told_row name n item.Refused → arrives up told.reply ≡ false → Told up name n told
  linked : told ≡ attempt_told_row name n item.Linked → arrives up told.reply ≡ true → Told up name n told

none_arrives : (up : Bool) → (arrives up reply.Gone ≡ false) × (arrives up reply.Pending ≡ false)
none_arrives true = (refl, refl)
none_arrives false = (refl, refl)

told_by : (o : Option Attempt) (up : Bool) (name n : ℕ) → Told up name n (answer_row o up name n)
told_by None up name n = nothing reply.Gone refl refl (none_arrives up).0
told_by (Some a) up name n = by a.address (is_some a.answer) up
  where
    by : (o : Option SocketAddr) (answered up : Bool) → Told up name n (dial_answered_row o answered up name n)
    by None answered up = nothing reply.Pending refl refl (none_arrives up).1
    by (Some s) true up = nothing reply.Gone refl refl (none_arrives up).0
    by (Some s) false true = linked refl refl
    by (Some s) false false = refused refl refl

-- an attempt that was told of a link has its end
linked_is : (rules : DialRules) (k m name n : ℕ) (arrival : Item) (up : Bool) (told : Row) → told ≡ attempt_told_row name n (link_item up) → (b : Attempt)
    → attempt_told rules n name (telling.dial_answered n name k ∷ link_tells n name k m (with_arrival (arrives up told.reply) m arrival told).puts) (Some b) ≡ Some (record b { answer = Some k; link = cond up (Some k) b.link })
linked_is rules k m name n arrival up told is b =
    ap (λ (t : Row). attempt_told rules n name (telling.dial_answered n name k ∷ link_tells n name k m (with_arrival (arrives up t.reply) m arrival t).puts) (Some b)) is ∙ by up
  where
    by : (v : Bool)
        → attempt_told rules n name (telling.dial_answered n name k ∷ link_tells n name k m (with_arrival (arrives v reply.Ok) m arrival (attempt_told_row name n (link_item v))).puts) (Some b) ≡ Some (record b { answer = Some k; link = cond v (Some k) b.link })
    by true = opened_told rules n name k m b
    by false = answered_told rules n name k b

-- ---- what it does to the queues of an attempt

-- a put in another queue
put_elsewhere : (q p : Queue) (i : Item) (k place : ℕ) (puts : List (Queue × Item)) → same_queue q p ≡ false
    → filter (stands_in q) (placed k place (puts ++ (p, i) ∷ [])) ≡ filter (stands_in q) (placed k place puts)
put_elsewhere q p i k place [] other = ap (λ b. cond b (record { entry = k; place = place; queue = p; item = i } ∷ []) []) other
put_elsewhere q p i k place (x ∷ xs) other =
    ap (λ l. cond (same_queue q x.0) (record { entry = k; place = place; queue = x.0; item = x.1 } ∷ l) l) (put_elsewhere q p i k (place + 1) xs other)

arrival_does : (q : Queue) (k m : ℕ) (arrival : Item) (b : Bool) (told : Row) → same_queue q (queue.Arrivals m) ≡ false → DoesTo q k (with_arrival b m arrival told) told
arrival_does q k m arrival false told other = does_itself q k told
arrival_does q k m arrival true told other = record { reply = refl; takes = refl; ends = refl; puts = put_elsewhere q (queue.Arrivals m) arrival k 0 told.puts other }

-- ---- a node of which the dialer and the listener changed

unnamed : (log : List Entry) (name n m j : ℕ) (from : SocketAddr) (p : Part) → is_in p (dialer ∷ listener ∷ []) ≡ false → names log (act.Connect name from n m) (at p j) ≡ false
unnamed log name n m j from p out =
    let one = first_false (same_part dialer p) (same_part listener p || false) out in
    let two = first_false (same_part listener p) false (second_false (same_part dialer p) (same_part listener p || false) out) in
    ap (λ b. (b && (n == j)) || ((same_part listener p && (m == j)) || false)) one ∙ ap (λ b. (b && (m == j)) || false) two

module _ (configs : List Config) (log : List Entry) (moment seed name n m : ℕ) (from : SocketAddr) (nodes new : List Node) (l links : Links) (r : Row) (s : WorldStands configs log nodes l)
    (c : IsLinked (length log) name n m from nodes new l links r) where
  abbrev k : ℕ
  k = length log

  abbrev ev : Event
  ev = asked moment seed (act.Connect name from n m)

  abbrev e : Entry
  e = effect configs log ev

  abbrev up : Bool
  up = is_up log m

  abbrev arrival : Item
  arrival = item.Arrival from (key_at configs n) k

  first_stands : NodeStands configs log n c.first
  first_stands = s.each n c.first c.at_first

  second_stands : NodeStands configs log m c.second
  second_stands = s.each m c.second c.at_second

  first_dialer : DialerStands configs log n c.first.dialing
  first_dialer = first_stands.each dialer

  runs : is_node_up c.second ≡ up
  runs = started_is configs log m c.second second_stands

  key : c.first.config.public_key ≡ key_at configs n
  key = key_is configs n c.first first_stands.own

  answers : AnswersDial (table.at c.first.dialing.attempts name) k n name up c.first.dialing.attempts c.after.dialing.attempts c.told
  answers = subst (λ b. AnswersDial (table.at c.first.dialing.attempts name) k n name b c.first.dialing.attempts c.after.dialing.attempts c.told) runs c.answers.0

  told_is : c.told ≡ answer_row (attempts_of configs log n name) up name n
  told_is = answer_row_is configs log name n up c.first.dialing c.after.dialing c.told first_dialer answers

  abbrev comes : Bool
  comes = arrives up c.told.reply

  abbrev due : Row
  due = with_arrival comes m arrival c.told

  due_is : row configs log moment seed (act.Connect name from n m) ≡ due
  due_is =
      connect_row_is configs log moment seed name n m from
      ∙ (linked_by (attempts_of configs log n name) up name n m arrival ∙ ap (λ (t : Row). with_arrival (arrives up t.reply) m arrival t) (sym told_is))

  pub row_is : r ≡ row configs log moment seed (act.Connect name from n m)
  row_is =
      c.row
      ∙ (ap (λ b. with_arrival (arrives b c.told.reply) m (item.Arrival from c.first.config.public_key k) c.told) runs
      ∙ (ap (λ (p : Key). with_arrival comes m (item.Arrival from p k) c.told) key ∙ sym due_is))

  is_effect : entry_of ev due ≡ e
  unfolding effect
  is_effect = ap (entry_of ev) (sym due_is)

  -- the dialing node's dialer
  dialer_now : DialerStands configs (log ++ e ∷ []) n c.after.dialing
  dialer_now =
      dial_answered configs log moment seed name n up (act.Connect name from n m) due due_is c.first.dialing c.after.dialing first_dialer refl refl refl
      (λ j other. (refl, ap (λ b. b || false) (other_attempt n name j other))) (λ j other. (other_named n name j other, other_named n name j other))
      (refl, refl) c.answers.1.0 c.told answers (arrival_does (queue.Attempt n name) k m arrival comes c.told refl) (linked_is (dial_rules_at configs n) k m name n arrival up c.told)

  -- the arrivals at the nodes
  kind : Told up name n c.told
  kind = subst (Told up name n) (sym told_is) (told_by (attempts_of configs log n name) up name n)

  abbrev arrives_at : ℕ → List Envelope
  arrives_at j = record { entry = k; place = length c.told.puts; queue = queue.Arrivals j; item = arrival } ∷ []

  -- what stands at a listener after a row, with the peer or without
  abbrev LineAfter : ℕ → Bool → Row → Type 0
  LineAfter j b d = line (log ++ entry_of ev d ∷ []) (queue.Arrivals j) ≡ line log (queue.Arrivals j) ++ cond b (arrives_at j) []

  nobody_comes : (j : ℕ) (b : Bool) → comes ≡ b → (told : Row) → c.told ≡ told → comes ≡ false → line (log ++ entry_of ev told ∷ []) (queue.Arrivals j) ≡ line log (queue.Arrivals j) → LineAfter j b due
  nobody_comes j b is told same none h =
      subst (LineAfter j b) (sym (ap (λ t. with_arrival t m arrival c.told) none ∙ same))
      (h ∙ (sym (append-nil (line log (queue.Arrivals j))) ∙ ap (λ t. line log (queue.Arrivals j) ++ cond t (arrives_at j) []) (sym none ∙ is)))

  line_due : (j : ℕ) (b : Bool) → comes ≡ b → (m == j) ≡ true → Told up name n c.told → LineAfter j b due
  line_due j b is here (nothing rep silent same none) =
      nobody_comes j b is (only rep) same none (line-still log (entry_of ev (only rep)) rep (queue.Arrivals j) (record { reply = refl; takes = refl; puts = refl; ends = refl }))
  line_due j b is here (refused same none) =
      nobody_comes j b is (attempt_told_row name n item.Refused) same none (line-kept log (entry_of ev (attempt_told_row name n item.Refused)) (queue.Arrivals j) refl ∙ append-nil (line log (queue.Arrivals j)))
  line_due j b is here (linked same some) =
      let q : Queue = queue.Arrivals j in
      let at : m ≡ j = eqb-true m j here in
      subst (LineAfter j b) (sym (ap (λ t. with_arrival t m arrival c.told) some ∙ ap (with_arrival true m arrival) same))
      (line-kept log (entry_of ev (with_arrival true m arrival (attempt_told_row name n item.Linked))) q refl
      ∙ (ap (λ t. line log q ++ cond t (record { entry = k; place = 1; queue = queue.Arrivals m; item = arrival } ∷ []) []) (ap (λ i. same_queue q (queue.Arrivals i)) at ∙ same_queue-refl q)
      ∙ (ap (λ i. line log q ++ record { entry = k; place = 1; queue = queue.Arrivals i; item = arrival } ∷ []) at
      ∙ (ap (λ (t : Row). line log q ++ record { entry = k; place = length t.puts; queue = q; item = arrival } ∷ []) (sym same)
      ∙ ap (λ t. line log q ++ cond t (arrives_at j) []) (sym some ∙ is)))))

  line_of : (b : Bool) → comes ≡ b → (j : ℕ) → (m == j) ≡ true → line (log ++ e ∷ []) (queue.Arrivals j) ≡ line log (queue.Arrivals j) ++ cond b (arrives_at j) []
  line_of b is j here =
      subst (λ (z : Entry). line (log ++ z ∷ []) (queue.Arrivals j) ≡ line log (queue.Arrivals j) ++ cond b (arrives_at j) []) is_effect (line_due j b is here kind)

  -- what has the listening ends at the node to which the link leads
  abbrev ends : ℕ → ℕ → Option ListeningEnd
  ends j = listening_ends_of log j

  -- what it makes of them, where the peer comes or not
  abbrev end_with : Bool → (ℕ → Option ListeningEnd) → ℕ → Option ListeningEnd
  end_with true now i = with_named k (Some listening.Arriving) now i
  end_with false now i = now i

  -- ---- the links

  abbrev opening : Opening
  opening = record { node = n; attempt = name; to = m }

  link_lines : (t : Side) (link : ℕ) → line (log ++ e ∷ []) (queue.Link link t) ≡ line log (queue.Link link t)
  link_lines side.Out link = line-untouched configs log ev (queue.Link link side.Out) refl refl refl
  link_lines side.In link = line-untouched configs log ev (queue.Link link side.In) refl refl refl

  nothing_opened : Told up name n c.told → comes ≡ false → OpensNone log e
  nothing_opened (nothing rep silent same none) no_one =
      subst (OpensNone log) is_effect
      (openings_unanswered log (entry_of ev due) (ap (λ (d : Row). is_ok_reply d.reply) (ap (λ t. with_arrival t m arrival c.told) none ∙ same) ∙ silent))
  nothing_opened (refused same none) no_one =
      subst (OpensNone log) is_effect
      (openings_linkless log (entry_of ev due) name n m from (queue.Attempt n name, item.Refused) refl (ap (λ (d : Row). d.puts) (ap (λ t. with_arrival t m arrival c.told) none ∙ same)))
  nothing_opened (linked same some) no_one = absurd (false≢true (sym no_one ∙ some))

  one_opened : Told up name n c.told → comes ≡ true → Opens log e opening
  one_opened (nothing rep silent same none) some_one = absurd (false≢true (sym none ∙ some_one))
  one_opened (refused same none) some_one = absurd (false≢true (sym none ∙ some_one))
  one_opened (linked same some) some_one =
      let due_two : due ≡ with_arrival true m arrival (attempt_told_row name n item.Linked) = ap (λ t. with_arrival t m arrival c.told) some ∙ ap (with_arrival true m arrival) same in
      subst (λ (z : Entry). Opens log z opening) is_effect
      (openings_opened log (entry_of ev due) opening from (queue.Attempt n name, item.Linked) (queue.Arrivals m, arrival) [] refl (ap (λ (d : Row). d.reply) due_two) (ap (λ (d : Row). d.puts) due_two))

  -- what has the listening ends then
  end_of : (b : Bool) → comes ≡ b → (j : ℕ) → (m == j) ≡ true → (i : ℕ) → listening_ends_of (log ++ e ∷ []) j i ≡ end_with b (ends j) i
  end_of false no_one j here i =
      subst (λ (z : Entry). listening_ends_of (log ++ z ∷ []) j i ≡ ends j i) is_effect
      (listening_ends_of-unlinked log (entry_of ev due) j name n m from refl (exchanges_less log (entry_of ev due) (subst (OpensNone log) (sym is_effect) (nothing_opened kind no_one))) i)
  end_of true some_one j here i = subst (λ (z : Entry). listening_ends_of (log ++ z ∷ []) j i ≡ end_with true (ends j) i) is_effect (begun kind)
    where
      begun : Told up name n c.told → listening_ends_of (log ++ entry_of ev due ∷ []) j i ≡ end_with true (ends j) i
      begun (nothing rep silent same none) = absurd (false≢true (sym none ∙ some_one))
      begun (refused same none) = absurd (false≢true (sym none ∙ some_one))
      begun (linked same some) =
          let due_two : due ≡ with_arrival true m arrival (attempt_told_row name n item.Linked) = ap (λ t. with_arrival t m arrival c.told) some ∙ ap (with_arrival true m arrival) same in
          listening_ends_of-linked log (entry_of ev due) j name n m from (queue.Attempt n name, item.Linked) (queue.Arrivals m, arrival) [] refl (ap (λ (d : Row). d.reply) due_two) (ap (λ (d : Row). d.puts) due_two) i
          ∙ ap (λ t. cond t (end_with true (ends j) i) (ends j i)) here

  none_dropped : DropsNone log e
  unfolding effect
  none_dropped = drops_none-act log e refl

  links_now : (b : Bool) → comes ≡ b → links ≡ opened b k opening l → LinksStand configs (log ++ e ∷ []) links
  links_now false none same = subst (LinksStand configs (log ++ e ∷ [])) (sym same) (links_frame configs log e l s.linked link_lines (nothing_opened kind none) none_dropped)
  links_now true some same = subst (LinksStand configs (log ++ e ∷ [])) (sym same) (links_opened configs log e l opening s.linked link_lines (one_opened kind some) none_dropped)

  pub linked_stands : LinksStand configs (log ++ e ∷ []) links
  linked_stands = links_now comes refl (subst (λ b. links ≡ opened (arrives b c.told.reply) k opening l) runs c.links_are)

  -- ---- the nodes

  -- a node whose parts are those of another, but for its dialer and its listener
  node_now : (j : ℕ) (w z : Node) → NodeStands configs log j w → z ≡ record w { dialing = z.dialing; listening = z.listening } → DialerStands configs (log ++ e ∷ []) j z.dialing
      → ListenerStands configs (log ++ e ∷ []) j z.listening → NodeStands configs (log ++ e ∷ []) j z
  node_now j w z stood same dials listens = each_part configs log ev j w z (dialer ∷ listener ∷ []) stood same (unnamed log name n m j from) refl refl (dials, (listens, tt))

  dialer_frame : (j : ℕ) (w : Node) → NodeStands configs log j w → (n == j) ≡ false → DialerStands configs (log ++ e ∷ []) j w.dialing
  dialer_frame j w stood other = part_frame dialer configs log ev j w (stood.each dialer) (ap (λ b. b || false) other) (makes_none log j ev.act refl)

  listener_frame_at : (j : ℕ) (w : Node) → NodeStands configs log j w → (m == j) ≡ false → ListenerStands configs (log ++ e ∷ []) j w.listening
  listener_frame_at j w stood other = part_frame listener configs log ev j w (stood.each listener) (ap (λ b. b || false) other) (makes_none log j ev.act refl)

  abbrev mid : List Node
  mid = slice_set nodes n c.after

  -- a node once the attempt is told, and before the peer arrives
  between : (j : ℕ) (w : Node) → slice_get mid j ≡ Some w → IsBetween configs log e j w
  between = dialer_told configs log e n nodes c.first c.after s.each c.at_first c.answers.1.1 dialer_now dialer_frame

  -- and after it
  after_arrival : (j : ℕ) (w : Node) (x : Listening) → IsBetween configs log e j w → ListenerStands configs (log ++ e ∷ []) j x → NodeStands configs (log ++ e ∷ []) j (record w { listening = x })
  after_arrival j w x b listens =
      node_now j b.before (record w { listening = x }) b.stood (ap (λ (z : Node). record z { listening = x }) b.same) b.dials listens

  still_listens : (j : ℕ) (w : Node) → IsBetween configs log e j w → ListenerStands configs log j w.listening
  still_listens j w b = subst (ListenerStands configs log j) (sym (ap (λ (z : Node). z.listening) b.same)) (b.stood.each listener)

  -- where the peer does not arrive
  nobody_listens : (j : ℕ) (w : Node) → IsBetween configs log e j w → (m == j) ≡ false → ListenerStands configs (log ++ e ∷ []) j w.listening
  nobody_listens j w b other = subst (ListenerStands configs (log ++ e ∷ []) j) (sym (ap (λ (z : Node). z.listening) b.same)) (listener_frame_at j b.before b.stood other)

  abbrev Each : List Node → Type 0
  Each ns = (j : ℕ) (z : Node) → slice_get ns j ≡ Some z → NodeStands configs (log ++ e ∷ []) j z

  -- nobody arrives
  each_told : comes ≡ false → Each mid
  unfolding effect
  each_told none j w g = let b = between j w g in after_arrival j w w.listening b (by (m == j) refl b)
    where
      by : (t : Bool) → (m == j) ≡ t → IsBetween configs log e j w → ListenerStands configs (log ++ e ∷ []) j w.listening
      by true here b = listener_frame configs log e j w.listening (still_listens j w b) (record {
        known = known_of-apart configs log e j refl;
        handshakes = handshakes_of-apart log e j refl;
        tells = λ i. other_tells log e j i (λ so. cc);
        ends = λ i. end_of false none j here i;
        arrivals = line_of false none j here ∙ append-nil (line log (queue.Arrivals j));
      })
      by false other b = nobody_listens j w b other

  -- the peer arrives
  abbrev arrived_at : Node → Node
  arrived_at y = record y { listening = has_arrived k (length c.told.puts) from (key_at configs n) y.listening }

  each_arrived : comes ≡ true → (y : Node) → slice_get mid m ≡ Some y
      → Each (slice_set mid m (arrived_at y))
  unfolding effect
  each_arrived some y there j z g = by (m == j) refl (sym (slice_get-set mid m j (arrived_at y) (below mid m y there)) ∙ g)
    where
      by : (t : Bool) → (m == j) ≡ t → cond t (Some (arrived_at y)) (slice_get mid j) ≡ Some z → NodeStands configs (log ++ e ∷ []) j z
      by true here g =
          let it : (arrived_at y) ≡ z = same_Some (arrived_at y) z g in
          let b = between m y there in
          subst (NodeStands configs (log ++ e ∷ []) j) it
          (subst (λ i. NodeStands configs (log ++ e ∷ []) i (arrived_at y)) (eqb-true m j here)
          (after_arrival m y (arrived_at y).listening b (listener_arrived configs log e m k (length c.told.puts) from (key_at configs n) y.listening (still_listens m y b) (steps_apart log e m refl) (line_of true some m (eq-eqb m m refl)) (λ i. end_of true some m (eq-eqb m m refl) i))))
      by false other g = let b = between j z g in after_arrival j z z.listening b (nobody_listens j z b other)

  arrival_is : Arrives comes m k (length c.told.puts) from (key_at configs n) mid new
  arrival_is =
      subst (λ (p : Key). Arrives comes m k (length c.told.puts) from p mid new) key
      (subst (λ b. Arrives (arrives b c.told.reply) m k (length c.told.puts) from c.first.config.public_key mid new) runs c.arrival)

  long_mid : length mid ≡ length configs
  long_mid = length-set nodes n c.after ∙ s.long

  nodes_now : (b : Bool) → comes ≡ b → Arrives b m k (length c.told.puts) from (key_at configs n) mid new → (length new ≡ length configs) × Each new
  nodes_now false none same = subst (λ (ns : List Node). (length ns ≡ length configs) × Each ns) (sym same) (long_mid, each_told none)
  nodes_now true some h =
      let y : Node = h.0 in
      subst (λ (ns : List Node). (length ns ≡ length configs) × Each ns) (sym h.1.1) (length-set mid m (arrived_at y) ∙ long_mid, each_arrived some y h.1.0)

pub link_simulates : (configs : List Config) (log : List Entry) (moment seed name n m : ℕ) (from : SocketAddr) (nodes new : List Node) (l links : Links) (r : Row) → WorldStands configs log nodes l
    → IsLinked (length log) name n m from nodes new l links r → Simulates configs log (asked moment seed (act.Connect name from n m)) new links r
link_simulates configs log moment seed name n m from nodes new l links r s c =
    let now = nodes_now configs log moment seed name n m from nodes new l links r s c (arrives (is_up log m) c.told.reply) refl (arrival_is configs log moment seed name n m from nodes new l links r s c) in
    record {
      row_is = row_is configs log moment seed name n m from nodes new l links r s c;
      stands = record {
        valid = s.valid;
        long = now.0;
        each = now.1;
        linked = linked_stands configs log moment seed name n m from nodes new l links r s c;
      };
    }
