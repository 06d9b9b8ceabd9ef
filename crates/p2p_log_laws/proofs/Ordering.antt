-- The copies of one sender, on one channel and with one priority, that go over one link are read from a queue in the order in which they were accepted.
use Rattle.std.proofs.Common.{◌≡◌, ℕ, ◌<◌, Bool, true, false, cond, List, [], ◌∷◌, ◌++◌, length, take, drop, Some, inl, inr, refl, ap, sym, subst, ◌∙◌, arith, append_assoc, append-nil, take-append-drop}
use Rattle.std.specs.Prelude.{flat_map, ◌&&◌, ◌||◌, slice_get}
use Rattle.std.specs.List.{AllByRecursion as Each, list_any}
use Rattle.std.proofs.lemmas.Bool.{cases_lt, and_parts, false≢true}
use Rattle.std.proofs.lemmas.Option.{same_Some}
use Rattle.p2p_log_rules.proofs.Bools.{or_true}
use Rattle.p2p_log.specs.declared.config.Config.{Config}
use Rattle.p2p_log.specs.declared.queue.Queue.{Queue}
use Rattle.p2p_log.specs.declared.queue.Queue.TheVariants as queue
use Rattle.p2p_log.specs.declared.queue.Side.{Side}
use Rattle.p2p_log.specs.declared.item.Item.{Item}
use Rattle.p2p_log.specs.declared.item.Item.TheVariants as item
use Rattle.p2p_log.specs.declared.end.End.TheVariants as end
use Rattle.p2p_log.specs.declared.end.Outcome.TheVariants as outcome
use Rattle.p2p_log.specs.declared.entry.Entry.{Entry}
use Rattle.p2p_log.specs.declared.event.Event.{Event}
use Rattle.p2p_log_rules.specs.declared.row.Half.{Half}
use Rattle.p2p_log_rules.specs.declared.row.Row.{Row}
use Rattle.p2p_log.specs.QueueCode.{owner_of, same_queue}
use Rattle.p2p_log_rules.specs.Lawful.{IsLawful}
use Rattle.p2p_log.specs.Lines.{live, line, same_name}
use Rattle.p2p_log_rules.specs.Connections.{half_at}
use Rattle.p2p_log_rules.specs.Effect.{effect, row, entry_of, goes_to, relay_queue, other_side}
use Rattle.p2p_log_rules.specs.Reading.{reading_of, is_read}
use Rattle.p2p_log.specs.Sending.{Sender, Sending, sending_at, sending_of}
use Rattle.p2p_log.specs.Sending.Sender.{Node, Raw}
use Rattle.p2p_log.proofs.Each.{Has, Has-kept, Each-has, Each-from_has}
use Rattle.p2p_log_rules.specs.Moves.{Moves}
use Rattle.p2p_log_rules.proofs.Moves.{taken_stood}
use Rattle.p2p_log.proofs.Names.{same_name-refl}
use Rattle.p2p_log.proofs.QueueNames.{queue_from_same}
use Rattle.p2p_log.proofs.Queues.{same_queue-refl}
use Rattle.p2p_log.proofs.Sending.{sending_at-at}
use Rattle.p2p_log.proofs.Taken.{Each-taken}
use Rattle.p2p_log_laws.specs.Order.{is_before, IsDelivered, WentOver, Writes, ComesTo, AreDeliveredInOrderOverOne, EachWentOver}
use Rattle.p2p_log_laws.proofs.Balance.{live-none}
use Rattle.p2p_log_laws.proofs.Comes.{Gives, given_before}
use Rattle.p2p_log_laws.proofs.Delivering.{delivered_copy, is_queue, delivered_by}
use Rattle.p2p_log_laws.proofs.Drops.{each_read, read_came}
use Rattle.p2p_log_laws.proofs.Coming.{HasCome, can_read, reading_can}
use Rattle.p2p_log_laws.proofs.Fitting.{StandsFit}
use Rattle.p2p_log_laws.proofs.Flow.{AreLed}
use Rattle.p2p_log_laws.proofs.Halves.{halves_meet}
use Rattle.p2p_log_laws.proofs.Holding.{IsPutAlone, put_alone}
use Rattle.p2p_log_laws.proofs.Stages.{copies_in-none}
use Rattle.p2p_log_laws.proofs.Leads.{Known, is_copy_by, by_sent, sent_in_all, put_over, into_channel, into_channel_at_once, into_held, own_link, into_link, raw_link, own_relay, into_relay}
use Rattle.p2p_log.specs.declared.item.Envelope.{Envelope}
use Rattle.p2p_log_laws.proofs.Ledger.{Told, Told-none, Told-more}
use Rattle.p2p_log_laws.proofs.Marks.{StandMarks, marks_kept}
use Rattle.p2p_log_laws.proofs.Meeting.{HalvesMeet}
use Rattle.p2p_log_laws.proofs.OneLink.{all_puts, on_link, IsLinkedOnce, linked_none, linked_more, one_link, WasPut, put_kept, has_seam}
use Rattle.p2p_log_laws.proofs.Path.{delivers, delivered, way, way-none, order_kept, delivered_in_order}
use Rattle.p2p_log_laws.proofs.Prefixes.{lawful_at_end}
use Rattle.p2p_log_laws.proofs.Shape.{Laws, Shape}
use Rattle.p2p_log_laws.proofs.Shapes.{row_shape}
use Rattle.p2p_log_laws.specs.Delivered.{IsRead}
use Rattle.p2p_log_laws.proofs.Sublists.{IsBefore, AreInOrder, not_both}
use Rattle.p2p_log_laws.proofs.Telling.{StandTells, WentOver-longer, Writes-longer, ComesTo-longer}

same_copy : (a b c d : ℕ) → a ≡ c → b ≡ d → ◌≡◌ {A = ℕ × ℕ} (a, b) (c, d)
same_copy a b c d h k = ap (λ s. (s, b)) h ∙ ap (λ p. (c, p)) k

-- ---- the way stays in order

-- what passes a test stands in a list, and the other way round
any_has : {X : Type 0} (p : X → Bool) (xs : List X) → list_any p xs ≡ true → (x : X) × Has xs x × (p x ≡ true)
any_has p [] h = absurd (false≢true h)
any_has {X} p (x ∷ xs) h = go (p x) refl h (any_has p xs)
  where
    go : (b : Bool) → p x ≡ b → list_any p (x ∷ xs) ≡ true → (list_any p xs ≡ true → (y : X) × Has xs y × (p y ≡ true)) → (y : X) × Has (x ∷ xs) y × (p y ≡ true)
    go true e k f = (x, inl refl, e)
    go false e k f = let rest = f (sym (ap (λ b. b || list_any p xs) e) ∙ k) in (rest.0, inr rest.1, rest.2)

both : (a b : Bool) → a ≡ true → b ≡ true → (a && b) ≡ true
both a b h i = ap (λ x. x && b) h ∙ i

has_any : {X : Type 0} (p : X → Bool) (xs : List X) (x : X) → Has xs x → p x ≡ true → list_any p xs ≡ true
has_any p [] x h k = absurd h
has_any p (y ∷ xs) x h k = elim h [
  | inl e ↦ ap (λ b. b || list_any p xs) (ap p e ∙ k)
  | inr l ↦ ap (λ b. p y || b) (has_any p xs x l k) ∙ or_true (p y)
]

module _ (configs : List Config) (all : List Entry) (sender : Sender) (channel : ℕ) (priority : Bool) (link : ℕ) (side : Side) (q : Queue)
    (once : (copy : ℕ × ℕ) → IsLinkedOnce copy configs all) where
  -- a put in the link that carries the copy
  abbrev put_here : ℕ × ℕ → Queue × Item → Bool
  put_here copy x = same_queue (queue.Link link side) x.0 && on_link copy x

  abbrev by : ℕ × ℕ → Bool
  by copy = is_copy_by all sender channel priority copy

  abbrev test : ℕ × ℕ → Bool
  test copy = by copy && list_any (put_here copy) (all_puts all)

  by_sender : (copy : ℕ × ℕ) → test copy ≡ true → by copy ≡ true
  by_sender copy h = (and_parts (by copy) (list_any (put_here copy) (all_puts all)) h).0

  frame_on_link : (copy : ℕ × ℕ) (e : ℕ) (s : Side) (frame : List ℕ) → on_link copy (queue.Link e s, item.Frame (Some copy) frame) ≡ true
  frame_on_link copy e s frame = same_name-refl copy

  by_link : (copy : ℕ × ℕ) → test copy ≡ true → (e : ℕ) (s : Side) (frame : List ℕ) → Has (all_puts all) (queue.Link e s, item.Frame (Some copy) frame)
      → queue.Link e s ≡ queue.Link link side
  by_link copy h e s frame put =
      let found = any_has (put_here copy) (all_puts all) (and_parts (by copy) (list_any (put_here copy) (all_puts all)) h).1 in
      let parts = and_parts (same_queue (queue.Link link side) found.0.0) (on_link copy found.0) found.2 in
      let same : (queue.Link e s, item.Frame (Some copy) frame) ≡ found.0 =
      one_link configs copy all (once copy) (queue.Link e s, item.Frame (Some copy) frame) found.0 put found.1 (frame_on_link copy e s frame) parts.1
      in
      ap (λ (x : Queue × Item). x.0) same ∙ queue_from_same (queue.Link link side) found.0.0 parts.0

  -- from the link back to where the sender put it: through the connection by which it writes there
  abbrev before_link : (s : Sender) → Writes configs all s link side → List Queue
  before_link (Node n) writes = relay_queue priority n writes.0 ∷ queue.Router n ∷ []
  before_link (Raw e) writes = []

  -- from the queue that is read back to the link, through what is held at the connection by which it is read, and before it
  abbrev stages_of : Writes configs all sender link side → (p : Queue) → ComesTo configs all p link side → List Queue
  stages_of writes (queue.Link e s) ends = before_link sender writes
  stages_of writes p ends = queue.Held (owner_of p) ends.0 ∷ queue.Link link side ∷ before_link sender writes

  module _ (begins : Writes configs all sender link side) (ends : ComesTo configs all q link side) where
    abbrev pub stages : List Queue
    stages = stages_of begins q ends

    abbrev pub on_way : List Entry → List (ℕ × ℕ)
    on_way log = way configs test q stages log

    record IsOrdered (log : List Entry) : Type 0 where
      put : Each (WasPut all) (live log)
      marks : Each (StandMarks all) (live log)
      order : AreInOrder (on_way log)
      early : Each (λ c. c.0 < length log) (on_way log)

    ordered_none : IsOrdered []
    ordered_none =
        let none : on_way [] ≡ [] = way-none configs test q stages in
        record {
          put = subst (Each (WasPut all)) (sym live-none) tt;
          marks = subst (Each (StandMarks all)) (sym live-none) tt;
          order = subst AreInOrder (sym none) tt;
          early = subst (Each (λ (c : ℕ × ℕ). c.0 < 0)) (sym none) tt;
        }

    -- the queue is one that is read
    module _ (reads : can_read q ≡ true) (halves : HalvesMeet configs all) where
      module _ (log more : List Entry) (ev : Event) (r : Row) (m : Moves log r) (laws : Laws configs log ev.act r m) (whole : log ++ entry_of ev r ∷ more ≡ all) (told : Told configs log)
          (alone : (n conn : ℕ) → IsPutAlone (queue.Held n conn) r.puts) (ordered : IsOrdered log) where
        here : sending_at all (length log) ≡ sending_of ev.act r.reply
        here = subst (λ (l : List Entry). sending_at l (length log) ≡ sending_of ev.act r.reply) whole (sending_at-at log (entry_of ev r) more)

        known : Each (Known configs log all) m.taken
        known =
            Each-taken (Known configs log all) (live log) m.taken
            (Each-from_has (Known configs log all) (live log) (λ y has. (
              Each-has StandsFit (live log) y told.standing.fitting has,
              Each-has (StandMarks all) (live log) y ordered.marks has,
              Each-has (WasPut all) (live log) y ordered.put has,
              Each-has (StandTells configs log) (live log) y told.standing.tells has,
              has,
            )))
            (taken_stood log ev r m)

        abbrev Led : Queue → List Queue → Type 0
        Led p qs = AreLed test configs log ev r m laws (Known configs log all) known p qs

        link_led : (s : Sender) → sender ≡ s → (w : Writes configs all s link side) → Led (queue.Link link side) (before_link s w)
        link_led (Node n) is w = inl (
          own_link configs log (entry_of ev r ∷ more) all whole sender channel priority link side test by_sender by_link ev.act r.reply here r.puts n is,
          into_link configs log (entry_of ev r ∷ more) all whole sender channel priority link side test by_sender by_link ev.act r.reply here r.puts halves n w,
          inl (
            own_relay configs log (entry_of ev r ∷ more) all whole sender channel priority link side test by_sender by_link ev.act r.reply here r.puts n w.0,
            into_relay configs log (entry_of ev r ∷ more) all whole sender channel priority link side test by_sender by_link ev.act r.reply here r.puts n w.0,
            (λ y i k h. absurd h),
          ),
        )
        link_led (Raw e) is w = raw_link configs log (entry_of ev r ∷ more) all whole sender channel priority link side test by_sender by_link ev.act r.reply here r.puts e is

        -- into a channel from what is held, or at once from the link where nothing is
        module _ (n c conn : ℕ) (far : Half) (at : half_at all n conn ≡ Some far) (over : far.link ≡ link) (to : side ≡ other_side far.writes) where
          abbrev held : Queue
          held = queue.Held n conn

          abbrev ChannelIsLed : Type 0
          ChannelIsLed = Led (queue.Channel n c) (held ∷ queue.Link link side ∷ before_link sender begins)

          from_held : ((i : Item) → Has r.puts (queue.Channel n c, i) → line log held ≡ [] → ⊥) → ChannelIsLed
          from_held busy = inl (
            (λ i h. absurd h),
            into_channel configs log (entry_of ev r ∷ more) all whole sender channel priority link side test by_sender by_link ev.act r.reply here r.puts halves n conn far at over to c busy,
            inl (
              (λ i h. absurd h),
              into_held configs log (entry_of ev r ∷ more) all whole sender channel priority link side test by_sender by_link ev.act r.reply here r.puts n conn,
              link_led sender refl begins,
            ),
          )

          at_once : line log held ≡ [] → Each (λ x. goes_to held x ≡ false) r.puts → ChannelIsLed
          at_once none puts = inr (
            copies_in-none test held log (entry_of ev r) none puts,
            inl (
              (λ i h. absurd h),
              into_channel_at_once configs log (entry_of ev r ∷ more) all whole sender channel priority link side test by_sender by_link ev.act r.reply here r.puts halves n conn far at over to c none,
              link_led sender refl begins,
            ),
          )

          channel_led : (xs : List Envelope) → line log held ≡ xs → IsPutAlone held r.puts → ChannelIsLed
          channel_led [] none (inl puts) = at_once none puts
          channel_led [] none (inr one) = from_held (λ i has e. only_held one.0 i (subst (λ (l : List (Queue × Item)). Has l (queue.Channel n c, i)) one.1 has))
            where
              only_held : (j i : Item) → Has {X = Queue × Item} ((held, j) ∷ []) (queue.Channel n c, i) → ⊥
              only_held j i h = elim h [ inl e ↦ (let same : held ≡ queue.Channel n c = ap (λ (x : Queue × Item). x.0) e in absurd (cc)) | inr l ↦ l ]
          channel_led (x ∷ xs) some puts = from_held (λ i has none. absurd (cc))

        led : (p : Queue) → can_read p ≡ true → (to : ComesTo configs all p link side) → Led p (stages_of begins p to)
        led (queue.Channel n c) f to = channel_led n c to.0 to.1 to.2 to.3 to.4 (line log (queue.Held n to.0)) refl (alone n to.0)
        led (queue.Link e s) f to = subst (λ c. Led (queue.Link c s) (before_link sender begins)) (sym to.0) (subst (λ d. Led (queue.Link link d) (before_link sender begins)) (sym to.1) (link_led sender refl begins))
        led _ f to = absurd (cc)

        ordered_more : IsOrdered (log ++ entry_of ev r ∷ [])
        ordered_more =
            let puts : (x : Queue × Item) → Has r.puts x → Has (all_puts all) x = λ x h.
            subst (λ (l : List Entry). Has (all_puts l) x) whole (has_seam log (entry_of ev r) more x h)
            in
            let kept = order_kept configs test q stages log ev r m laws (Known configs log all) known (led q reads ends) ordered.order ordered.early in
            record { put = put_kept all log ev r puts ordered.put; marks = marks_kept configs log ev r m laws all here ordered.marks; order = kept.0; early = kept.1 }

      -- in each beginning of the log
      abbrev OrderedIn : List Entry → Type 0
      OrderedIn log = Told configs log × ((more : List Entry) → log ++ more ≡ all → IsOrdered log)

      ordered_step : (script : List Event) (before : List Entry) (ev : Event) → IsLawful configs script before → OrderedIn before → OrderedIn (before ++ effect configs before ev ∷ [])
      unfolding effect
      ordered_step script before ev lawful h =
          let r = row configs before ev.at ev.seed ev.act in
          let e = entry_of ev r in
          let shape : Shape configs before ev.act r = row_shape configs before ev.at ev.seed ev.act in (
            Told-more configs script before ev lawful h.0,
            λ more whole.
                let parts : before ++ e ∷ more ≡ all = sym (append_assoc before (e ∷ []) more) ∙ whole in
                ordered_more before more ev r shape.moves (shape.laws h.0.standing.fitting) parts h.0 (λ n conn. put_alone configs before n conn ev.at ev.seed ev.act) (h.1 (e ∷ more) parts),
          )

      pub way_in_order : (script : List Event) → IsLawful configs script all → AreInOrder (on_way all)
      way_in_order script lawful =
          ((lawful_at_end configs OrderedIn (Told-none configs, λ more whole. ordered_none) ordered_step script all lawful).1 [] (append-nil all)).order

-- ---- what is delivered went over a link

record Came (configs : List Config) (log : List Entry) (copy : ℕ × ℕ) (sender : Sender) (q : Queue) (n : ℕ) (read : Entry) : Type 0 where
  reads : IsRead configs (take n log) read copy
  can : can_read q ≡ true
  link : ℕ
  side : Side
  over : WentOver log copy link side
  begins : Writes configs log sender link side
  ends : ComesTo configs log q link side

module _ (configs : List Config) (script : List Event) (log : List Entry) (lawful : IsLawful configs script log) where
  came : (sender : Sender) (channel : ℕ) (priority : Bool) (q : Queue) (copy : ℕ × ℕ) (n : ℕ) (d : IsDelivered configs log copy sender channel priority q n) → Came configs log copy sender q n d.read
  came sender channel priority q copy n d =
      let before = take n log in
      let more = drop n log in
      let whole : before ++ more ≡ log = take-append-drop n log in
      let r : IsRead configs before d.read copy = each_read configs script log lawful n d.read d.place copy d.read_at d.ended in
      let c : HasCome configs before copy r.queue = read_came configs script log lawful n d.read copy r in
      let queues : r.queue ≡ q = same_Some r.queue q (sym r.reads ∙ d.reads) in
      let sendings : ◌≡◌ {A = Sending} (record { by = c.sender; channel = c.channel; priority = c.sent.priority; bytes = c.bytes; keys = c.sent.keys }) (record { by = sender; channel = channel; priority = priority; bytes = d.bytes; keys = d.keys }) =
      same_Some _ _ (sym (sent_in_all before more log whole copy.0 _ c.sent.sends) ∙ d.sends)
      in
      record {
        reads = r;
        can = reading_can configs before d.read.event.act q d.reads;
        link = c.link;
        side = c.side;
        over = subst (λ (l : List Entry). WentOver l copy c.link c.side) whole (WentOver-longer before more copy c.link c.side c.over);
        begins = subst (λ s. Writes configs log s c.link c.side) (ap (λ (s : Sending). s.by) sendings)
            (subst (λ (l : List Entry). Writes configs l c.sender c.link c.side) whole (Writes-longer configs before more c.sender c.link c.side c.begins));
        ends = subst (λ p. ComesTo configs log p c.link c.side) queues (subst (λ (l : List Entry). ComesTo configs l r.queue c.link c.side) whole (ComesTo-longer configs before more r.queue c.link c.side c.ends));
      }

  pub each_went_over : EachWentOver configs log
  each_went_over sender channel priority q copy n d =
      let c = came sender channel priority q copy n d in
      (c.link, c.side, c.over, c.begins, c.ends)

  -- each copy is put in one link
  Once : List Entry → Type 0
  Once before = Told configs before × ((copy : ℕ × ℕ) → IsLinkedOnce copy configs before)

  once_step : (so_far : List Event) (before : List Entry) (ev : Event) → IsLawful configs so_far before → Once before → Once (before ++ effect configs before ev ∷ [])
  unfolding effect Once
  once_step so_far before ev due h =
      let r = row configs before ev.at ev.seed ev.act in
      let shape : Shape configs before ev.act r = row_shape configs before ev.at ev.seed ev.act in
      (Told-more configs so_far before ev due h.0, λ copy. linked_more copy configs before ev r shape.moves (shape.laws h.0.standing.fitting) (h.1 copy))

  once_none : Once []
  unfolding Once
  once_none = (Told-none configs, λ copy. linked_none copy configs)

  linked_once : (copy : ℕ × ℕ) → IsLinkedOnce copy configs log
  unfolding Once
  linked_once = (lawful_at_end configs Once once_none once_step script log lawful).1

  -- ---- the order of what is delivered

  -- a copy goes over one link, in one direction
  pub one_way : (copy : ℕ × ℕ) (l : ℕ) (d : Side) → WentOver log copy l d → (link : ℕ) (side : Side) → WentOver log copy link side → (l ≡ link) × (d ≡ side)
  one_way copy l d other link side over =
      let x : Queue × Item = (queue.Link l d, item.Frame (Some copy) other.frame) in
      let y : Queue × Item = (queue.Link link side, item.Frame (Some copy) over.frame) in
      let same : x ≡ y = one_link configs copy log (linked_once copy) x y (put_over log copy l d other) (put_over log copy link side over) (same_name-refl copy) (same_name-refl copy) in
      let queues : queue.Link l d ≡ queue.Link link side = ap (λ (z : Queue × Item). z.0) same in
      (cc, cc)

  module _ (sender : Sender) (channel : ℕ) (priority : Bool) (q : Queue) where
    module _ (link : ℕ) (side : Side) where
      abbrev pass : ℕ × ℕ → Bool
      pass = test configs log sender channel priority link side q linked_once

      passes : (copy : ℕ × ℕ) (n : ℕ) → IsDelivered configs log copy sender channel priority q n → WentOver log copy link side → pass copy ≡ true
      passes copy n d over =
          let put_it : Queue × Item → Bool = put_here configs log sender channel priority link side q linked_once copy in
          let x : Queue × Item = (queue.Link link side, item.Frame (Some copy) over.frame) in
          let found : list_any put_it (all_puts log) ≡ true =
          has_any put_it (all_puts log) x (put_over log copy link side over)
          (both (same_queue (queue.Link link side) (queue.Link link side)) (same_name copy copy) (same_queue-refl (queue.Link link side)) (same_name-refl copy))
          in
          both (is_copy_by log sender channel priority copy) (list_any put_it (all_puts log))
          (by_sent log sender channel priority copy d.bytes d.keys d.sends) found

      gives : (qs : List Queue) (copy : ℕ × ℕ) (n : ℕ) → IsDelivered configs log copy sender channel priority q n → WentOver log copy link side
          → Gives (delivers configs pass q qs) log copy n
      gives qs copy n d over =
          let r = (came sender channel priority q copy n d).reads in
          let reads : is_queue q (reading_of configs (take n log) d.read.event.act) ≡ true = ap (is_queue q) d.reads ∙ same_queue-refl q in
          let is : delivered_by configs q (take n log) d.read ≡ copy ∷ [] =
          ap (λ b. cond (b && is_read d.read.reply) (flat_map delivered_copy d.read.ends) []) reads
          ∙ (ap (λ b. cond b (flat_map delivered_copy d.read.ends) []) r.says ∙ ap (flat_map delivered_copy) r.ended)
          in
          (d.read, d.read_at, Has-kept pass (delivered_by configs q (take n log) d.read) copy (passes copy n d over) (subst (λ (l : List (ℕ × ℕ)). Has l copy) (sym is) (inl refl)))

    -- one that is delivered at an earlier entry was accepted earlier
    earlier : (link : ℕ) (side : Side) (first second : ℕ × ℕ) (m n : ℕ) → IsDelivered configs log first sender channel priority q m → IsDelivered configs log second sender channel priority q n
        → WentOver log first link side → WentOver log second link side → m < n → is_before first second ≡ true
    earlier link side first second m n a b over_first over_second h =
        let c = came sender channel priority q first m a in
        let same = one_way first c.link c.side c.over link side over_first in
        let begins : Writes configs log sender link side = subst (λ d. Writes configs log sender link d) same.1 (subst (λ l. Writes configs log sender l c.side) same.0 c.begins) in
        let ends : ComesTo configs log q link side = subst (λ d. ComesTo configs log q link d) same.1 (subst (λ l. ComesTo configs log q l c.side) same.0 c.ends) in
        let qs = stages configs log sender channel priority link side q linked_once begins ends in
        let order : AreInOrder (delivered configs (pass link side) q qs log) =
        delivered_in_order configs (pass link side) q qs log
        (way_in_order configs log sender channel priority link side q linked_once begins ends c.can (halves_meet configs script log lawful) script lawful)
        in
        given_before (delivers configs (pass link side) q qs) IsBefore log first second m n order (gives link side qs first m a over_first) (gives link side qs second n b over_second) h

    -- one entry delivers one copy
    same_entry : (first second : ℕ × ℕ) (m n : ℕ) → IsDelivered configs log first sender channel priority q m → IsDelivered configs log second sender channel priority q n → m ≡ n
        → first ≡ second
    same_entry first second m n a b h =
        let r = (came sender channel priority q first m a).reads in
        let s = (came sender channel priority q second n b).reads in
        let entries : a.read ≡ b.read = same_Some a.read b.read (sym a.read_at ∙ (ap (slice_get log) h ∙ b.read_at)) in
        let ends : end.Copy first.0 first.1 outcome.Delivered ∷ [] ≡ end.Copy second.0 second.1 outcome.Delivered ∷ [] =
        sym r.ended ∙ (ap (λ (e : Entry). e.ends) entries ∙ s.ended)
        in
        let sends : first.0 ≡ second.0 = cc in
        let places : first.1 ≡ second.1 = cc in
        same_copy first.0 first.1 second.0 second.1 sends places

  pub delivered_over_one : AreDeliveredInOrderOverOne configs log
  delivered_over_one sender channel priority link side q first second m n a b h over_first over_second = elim (cases_lt m n) [
    | inl less ↦ less
    | inr more ↦ elim (cases_lt n m) [
      | inl later ↦ absurd (not_both first.0 first.1 second.0 second.1 h (earlier sender channel priority q link side second first n m b a over_second over_first later))
      | inr same ↦
          let copies : first ≡ second = same_entry sender channel priority q first second m n a b (omega arith) in
          let twice : is_before first first ≡ true = ap (is_before first) copies ∙ h in
          absurd (not_both first.0 first.1 first.0 first.1 twice twice)
    ]
  ]
