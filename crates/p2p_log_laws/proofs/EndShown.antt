-- Each entry that ends a connection shows why, ends no other, and no other ends it; and what waits for a router is read in order.
use Rattle.std.proofs.Common.{◌≡◌, ℕ, suc, ◌<◌, ◌≤◌, Bool, true, false, cond, List, [], ◌∷◌, map, length, take, drop, Option, Some, ◌⊎◌, inl, inr, refl, ap, sym, subst, ◌∙◌, arith, take-append-drop}
use Rattle.std.specs.Prelude.{◌||◌, filter, slice_get}
use Rattle.std.proofs.lemmas.Bool.{cases_lt, false≢true}
use Rattle.std.proofs.lemmas.Option.{same_Some}
use Rattle.p2p_log_rules.proofs.Bools.{or_true}
use Rattle.p2p_base.specs.declared.key.Key.{Key}
use Rattle.p2p_log.specs.declared.config.Config.{Config}
use Rattle.p2p_log.specs.declared.queue.Queue.{Queue}
use Rattle.p2p_log.specs.declared.queue.Queue.TheVariants as queue
use Rattle.p2p_log.specs.declared.item.Item.{Item}
use Rattle.p2p_log.specs.declared.item.Item.TheVariants as item
use Rattle.p2p_log.specs.declared.item.Envelope.{Envelope}
use Rattle.p2p_log.specs.declared.entry.Ended.{Ended}
use Rattle.p2p_log.specs.declared.entry.Entry.{Entry}
use Rattle.p2p_log.specs.declared.entry.Reply.{Reply}
use Rattle.p2p_log.specs.declared.entry.Reply.TheVariants as reply
use Rattle.p2p_log.specs.declared.asked.Asked.TheVariants as ask
use Rattle.p2p_log.specs.declared.event.Act.{Act}
use Rattle.p2p_log.specs.declared.event.Act.TheVariants as act
use Rattle.p2p_log.specs.declared.event.Event.{Event}
use Rattle.p2p_log.specs.declared.end.Cause.TheVariants as cause
use Rattle.p2p_log.specs.Drained.{all_end, drained_with}
use Rattle.p2p_log.specs.Lines.{name_of, stays, live, line, stands_in}
use Rattle.p2p_log.proofs.Each.{Has, Each-has, Has-get, Has-of_kept}
use Rattle.p2p_log.proofs.QueueNames.{Each-in_queue, queue_from_same}
use Rattle.p2p_log.proofs.Sending.{get_longer}
use Rattle.p2p_log.proofs.Taken.{Each-taken}
use Rattle.p2p_log_rules.specs.declared.row.Half.{Half}
use Rattle.p2p_log_rules.specs.declared.row.Row.{Row}
use Rattle.p2p_log_rules.specs.Connections.{ends_connection, half_at, is_ended}
use Rattle.p2p_log_rules.specs.Effect
use Rattle.p2p_log_rules.specs.Effect.{effect, row}
use Rattle.p2p_log_rules.specs.Facts.{is_up}
use Rattle.p2p_log_rules.specs.Stopping.{brought_by, queues_at}
use Rattle.p2p_log_rules.specs.Lawful.{IsLawful}
use Rattle.p2p_log_rules.specs.Rows.{only}
use Rattle.p2p_log_rules.specs.Tracking.{asked_by}
use Rattle.p2p_log_rules.proofs.Connections.{IsStopped, half_act, IsEndOf, end_of, is_ended-append, half_parts, is_live}
use Rattle.p2p_log_rules.proofs.Channels.{IsStopOf}
use Rattle.p2p_log_rules.proofs.Moves.{taken_stood}
use Rattle.p2p_log_rules.proofs.Touches.{is_told_to}
use Rattle.p2p_log_laws.specs.Endings.{HasReason, ShowsEnd, StopsNode, EachEndShows, EachEndsOne, EachIsEndedOnce, ReleasesAreTimely}
use Rattle.p2p_log_laws.specs.Leaving.{IsTakenFrom}
use Rattle.p2p_log_laws.specs.Order.{is_before}
use Rattle.p2p_log_laws.proofs.EndMade.{in_list, take_short, holds_on}
use Rattle.p2p_log_laws.proofs.EndOlder.{connection_before, older_ended}
use Rattle.p2p_log_laws.proofs.Ending.{ending}
use Rattle.p2p_log_laws.proofs.Leaving.{leave_in_order}
use Rattle.p2p_log_laws.proofs.Ledger.{Told-each}
use Rattle.p2p_log_laws.proofs.Living.{IsEndRow, end_row_is}
use Rattle.p2p_log_laws.proofs.Prefixes.{take_next, entry_due}
use Rattle.p2p_log_laws.proofs.Puts.{IsPut, each_put}
use Rattle.p2p_log_laws.proofs.Reaching.{reads}
use Rattle.p2p_log_laws.proofs.Shape.{Shape, Origin, Moved-origins}
use Rattle.p2p_log_laws.proofs.Shapes.{row_shape}
use Rattle.p2p_log_laws.proofs.Sublists.{before_later}

module _ (configs : List Config) (script : List Event) (log : List Entry) (lawful : IsLawful configs script log) where
  -- ---- why

  shows : (before : List Entry) (ev : Event) (n conn : ℕ) → IsEndRow configs before n conn (row configs before ev.at ev.seed ev.act)
      → (why : Ended) × ((effect configs before ev).reply ≡ reply.Ended why) × ShowsEnd configs before (effect configs before ev) n conn why
  unfolding effect
  shows before ev n conn h = (
    h.why,
    ap (λ (r : Row). r.reply) h.is,
    record {
      half = h.half;
      lived = h.lived;
      ran = h.ran;
      reason = subst (λ names. HasReason configs before n conn h.half names h.why) (sym (ap (λ (r : Row). r.takes) h.is)) h.reason;
    },
  )

  half_shows : (i n conn : ℕ) (e : Entry) → slice_get log i ≡ Some e → IsEndOf e n conn → (why : Ended) × (e.reply ≡ reply.Ended why) × ShowsEnd configs (take i log) e n conn why
  half_shows i n conn e at end =
      let due = entry_due configs script log lawful i e at in
      subst (λ (d : Entry). (why : Ended) × (d.reply ≡ reply.Ended why) × ShowsEnd configs (take i log) d n conn why) (sym due.1)
      (shows (take i log) due.0 n conn
      (end_row_is configs (take i log) due.0 n conn (Told-each configs script log lawful i).standing.fitting (subst (λ (d : Entry). IsEndOf d n conn) due.1 end)))

  -- a node that had not stopped stops in the entry
  stop_shows : (before : List Entry) (ev : Event) (n : ℕ) → IsStopOf before (effect configs before ev) n → StopsNode (effect configs before ev) n
  unfolding effect row
  stop_shows before ev n stop = record {
    by_start = stop.by_start;
    acts = stop.acts;
    done = ap (λ a. (row configs before ev.at ev.seed a).reply) stop.acts
        ∙ ap (λ b. (cond b (only reply.Gone) (record { reply = reply.Ok; takes = []; puts = []; ends = all_end cause.NodeStopped (drained_with (brought_by before) (live before) (queues_at before n)) })).reply) stop.lasted;
  }

  stopped_shows : (i n conn : ℕ) (e : Entry) → slice_get log i ≡ Some e → IsStopped (take i log) e n conn → StopsNode e n
  stopped_shows i n conn e at over =
      let due = entry_due configs script log lawful i e at in
      subst (λ (d : Entry). StopsNode d n) (sym due.1) (stop_shows (take i log) due.0 n (subst (λ (d : Entry). IsStopOf (take i log) d n) due.1 over.stop))

  pub each_end_shows : EachEndShows configs log
  each_end_shows i n conn e at ends = elim (end_of (take i log) e n conn ends) [
    | inl end ↦ inl (half_shows i n conn e at end)
    | inr over ↦ inr (stopped_shows i n conn e at over)
  ]

  -- ---- one, and once

  same_half : (s t : Bool) (n m c d : ℕ) → half_act s c n ≡ half_act t d m → (n ≡ m) × (c ≡ d)
  same_half true true n m c d is = (cc, cc)
  same_half false false n m c d is = (cc, cc)
  same_half true false n m c d is = absurd (cc)
  same_half false true n m c d is = absurd (cc)

  same_stop : (a b : Bool) (n m : ℕ) → act.Stop a n ≡ act.Stop b m → n ≡ m
  same_stop a b n m is = cc

  no_stop : (s b : Bool) (n m c : ℕ) → half_act s c n ≡ act.Stop b m → ⊥
  no_stop true b n m c is = cc
  no_stop false b n m c is = cc

  pub each_ends_one : EachEndsOne log
  each_ends_one i n m c d e at first second = by (end_of (take i log) e n c first) (end_of (take i log) e m d second)
    where
      by : IsEndOf e n c ⊎ IsStopped (take i log) e n c → IsEndOf e m d ⊎ IsStopped (take i log) e m d → (n ≡ m) × ((c ≡ d) ⊎ StopsNode e n)
      by (inl one) (inl two) = let same = same_half one.sends two.sends n m c d (sym one.acts ∙ two.acts) in (same.0, inl same.1)
      by (inr one) (inr two) = (same_stop one.stop.by_start two.stop.by_start n m (sym one.stop.acts ∙ two.stop.acts), inr (stopped_shows i n c e at one))
      by (inl one) (inr two) = absurd (no_stop one.sends two.stop.by_start n m c (sym one.acts ∙ two.stop.acts))
      by (inr one) (inl two) = absurd (no_stop two.sends one.stop.by_start m n d (sym two.acts ∙ one.stop.acts))

  -- it has ended from then on
  pub ended_on : (n conn i j : ℕ) → i ≤ j → is_ended (take i log) n conn ≡ true → is_ended (take j log) n conn ≡ true
  ended_on n conn i j le h =
      holds_on configs script log lawful (λ l. is_ended l n conn ≡ true) (λ before ev was. is_ended-append before (effect configs before ev) n conn ∙ ap (λ b. b || ends_connection n conn before (effect configs before ev)) was) i j le h

  ended_by : (n conn i : ℕ) (e : Entry) → slice_get log i ≡ Some e → ends_connection n conn (take i log) e ≡ true → is_ended (take (suc i) log) n conn ≡ true
  ended_by n conn i e at ends = ap (λ l. is_ended l n conn) (take_next log i e at) ∙ (is_ended-append (take i log) e n conn ∙ (ap (λ b. is_ended (take i log) n conn || b) ends ∙ or_true (is_ended (take i log) n conn)))

  lived : (n conn i : ℕ) (e : Entry) → slice_get log i ≡ Some e → ends_connection n conn (take i log) e ≡ true → is_ended (take i log) n conn ≡ false
  lived n conn i e at ends =
      let due = entry_due configs script log lawful i e at in
      elim (ending configs (take i log) due.0 n conn (subst (λ (d : Entry). ends_connection n conn (take i log) d ≡ true) due.1 ends)) [
        | inl end ↦ (is_live (take i log) n conn end.half end.lived).lives
        | inr over ↦ over.lived
      ]

  not_again : (n conn i j : ℕ) (e f : Entry) → slice_get log i ≡ Some e → slice_get log j ≡ Some f → ends_connection n conn (take i log) e ≡ true → ends_connection n conn (take j log) f ≡ true → i < j → ⊥
  not_again n conn i j e f at also first second less = false≢true (sym (lived n conn j f also second) ∙ ended_on n conn (suc i) j less (ended_by n conn i e at first))

  pub each_is_ended_once : EachIsEndedOnce log
  each_is_ended_once i j n conn e f at also first second = elim (cases_lt i j) [
    | inl less ↦ absurd (not_again n conn i j e f at also first second less)
    | inr le ↦ elim (cases_lt j i) [ inl more ↦ absurd (not_again n conn j i f e also at second first more) | inr other ↦ omega (arith, le, other) ]
  ]

  -- ---- what was put

  -- an item that stood in a queue was put there
  pub record StoodPut (i : ℕ) (q : Queue) (x : Envelope) : Type 0 where
    pub early : x.entry < i
    pub entry : Entry
    pub at : slice_get log x.entry ≡ Some entry
    pub put : slice_get entry.puts x.place ≡ Some (q, x.item)

  pub stood_put : (i : ℕ) (q : Queue) (x : Envelope) → Has (line (take i log) q) x → StoodPut i q x
  unfolding line
  stood_put i q x has =
      let before = take i log in
      let put : IsPut before x = Each-has (IsPut before) (live before) x (each_put before) (Has-of_kept (stands_in q) (live before) x has) in
      let stood : x.queue ≡ q = Each-has (λ (y : Envelope). y.queue ≡ q) (line before q) x (Each-in_queue q (live before)) has in
      let early = in_list before x.entry put.entry put.at in
      let short = take_short i log in
      record {
        early = omega (arith, early, short);
        entry = put.entry;
        at = subst (λ (l : List Entry). slice_get l x.entry ≡ Some put.entry) (take-append-drop i log) (get_longer before (drop i log) x.entry put.entry put.at);
        put = put.put ∙ ap (λ p. Some (p, x.item)) stood;
      }

  taken_put : (q : Queue) (x : Envelope) (i : ℕ) → IsTakenFrom log q x i → StoodPut i q x
  taken_put q x i t = stood_put i q x (Has-get (line (take i log) q) t.stood.0 x t.stood.1)

  -- ---- a router takes one item at a time

  told_aside : (o : Option Act) (e n : ℕ) → is_told_to o e (queue.Router n) ≡ false
  told_aside (Some (act.Ask (ask.PeerSet index) m)) e n = refl
  told_aside (Some (act.Ask ask.Subscribe m)) e n = refl
  told_aside (Some (act.Ask ask.Blocked m)) e n = refl
  told_aside _ e n = refl

  reads_router : (before : List Entry) (a : Act) (n : ℕ) → reads configs before a (queue.Router n) ≡ true → a ≡ act.Router n
  reads_router before (act.Router m) n read = ap act.Router (router_number m n (queue_from_same (queue.Router m) (queue.Router n) read))
    where
      router_number : (m n : ℕ) → queue.Router n ≡ queue.Router m → m ≡ n
      router_number m n is = cc
  reads_router before (act.Answer e) n read = absurd (false≢true (sym (told_aside (asked_by before e) e n) ∙ read))
  reads_router before (act.Next e) n read = absurd (false≢true (sym (told_aside (asked_by before e) e n) ∙ read))
  reads_router before _ n read = absurd (false≢true read)

  -- no two names are taken
  abbrev TakesOne : Row → Type 0
  TakesOne r = (first second : ℕ × ℕ) → Has r.takes first → Has r.takes second → first ≡ second

  one_name : (name first second : ℕ × ℕ) → Has (name ∷ []) first → Has (name ∷ []) second → first ≡ second
  one_name name first second h k = elim h [
    | inl is ↦ elim k [ inl also ↦ sym is ∙ also | inr none ↦ absurd none ]
    | inr none ↦ absurd none
  ]

  module _ (before : List Entry) (m : ℕ) where
    routed_one : (name : ℕ × ℕ) (i : Item) (items : List Envelope) → TakesOne (Effect.route_row configs before m name i items)
    routed_one name (item.Subscribe c) items = one_name name
    routed_one name (item.Ready e key) items = one_name name
    routed_one name (item.Release key) items = one_name name
    routed_one name (item.Content c frame priority send to) items = one_name name
    routed_one name _ items = one_name name

    oldest_one : (xs : List Envelope) → TakesOne (Effect.route_oldest configs before m xs)
    oldest_one [] first second h k = absurd h
    oldest_one (x ∷ rest) first second h k = routed_one (name_of x) x.item (filter (stays (name_of x ∷ [])) (live before)) first second h k

    router_one : TakesOne (Effect.router_row configs before m)
    router_one = by (is_up before m)
      where
        by : (b : Bool) → TakesOne (cond b (Effect.route_oldest configs before m (line before (queue.Router m))) (only reply.Gone))
        by true = oldest_one (line before (queue.Router m))
        by false = λ first second h k. absurd h

  router_takes : (before : List Entry) (ev : Event) (n : ℕ) → ev.act ≡ act.Router n → TakesOne (row configs before ev.at ev.seed ev.act)
  unfolding row
  router_takes before ev n acts = subst (λ a. TakesOne (row configs before ev.at ev.seed a)) (sym acts) (router_one before n)

  -- an item by its name
  Has-map : {X Y : Type 0} (f : X → Y) (xs : List X) (y : Y) → Has (map f xs) y → (x : X) × Has xs x × (f x ≡ y)
  Has-map f [] y h = absurd h
  Has-map f (x ∷ xs) y h = elim h [ inl is ↦ (x, inl refl, is) | inr later ↦ let rest = Has-map f xs y later in (rest.0, inr rest.1, rest.2) ]

  same_put : (before : List Entry) (x y : Envelope) → IsPut before x → IsPut before y → name_of x ≡ name_of y → x.queue ≡ y.queue
  same_put before x y p k same =
      let entries : p.entry ≡ k.entry = same_Some p.entry k.entry (sym p.at ∙ (ap (λ (i : ℕ × ℕ). slice_get before i.0) same ∙ k.at)) in
      let puts : ◌≡◌ {A = Queue × Item} (x.queue, x.item) (y.queue, y.item) =
      same_Some {A = Queue × Item} (x.queue, x.item) (y.queue, y.item) (sym p.put ∙ (ap (λ (d : Entry). slice_get d.puts x.place) entries ∙ (ap (λ (i : ℕ × ℕ). slice_get k.entry.puts i.1) same ∙ k.put)))
      in
      ap (λ (z : Queue × Item). z.0) puts

  takes_one : (n i : ℕ) (x : Envelope) → IsTakenFrom log (queue.Router n) x i → (e : Entry) → slice_get log i ≡ Some e → (first second : ℕ × ℕ) → Has e.takes first → Has e.takes second → first ≡ second
  unfolding effect line
  takes_one n i x t e at first second =
      let before = take i log in
      let due = entry_due configs script log lawful i t.entry t.at in
      let ev : Event = due.0 in
      let r : Row = row configs before ev.at ev.seed ev.act in
      let shape : Shape configs before ev.act r = row_shape configs before ev.at ev.seed ev.act in
      let same : e ≡ effect configs before ev = same_Some e t.entry (sym at ∙ t.at) ∙ due.1 in
      let has : Has (line before (queue.Router n)) x = Has-get (line before (queue.Router n)) t.stood.0 x t.stood.1 in
      let named : Has r.takes (name_of x) = subst (λ (d : Entry). Has d.takes (name_of x)) due.1 (Has-get t.entry.takes t.takes.0 (name_of x) t.takes.1) in
      let z = Has-map name_of shape.moves.taken (name_of x) (subst (λ names. Has names (name_of x)) shape.moves.names named) in
      let put_z : IsPut before z.0 = Each-has (IsPut before) shape.moves.taken z.0 (Each-taken (IsPut before) (live before) shape.moves.taken (each_put before) (taken_stood before ev r shape.moves)) z.1 in
      let put_x : IsPut before x = Each-has (IsPut before) (live before) x (each_put before) (Has-of_kept (stands_in (queue.Router n)) (live before) x has) in
      let stood : x.queue ≡ queue.Router n = Each-has (λ (y : Envelope). y.queue ≡ queue.Router n) (line before (queue.Router n)) x (Each-in_queue (queue.Router n) (live before)) has in
      let there : z.0.queue ≡ queue.Router n = same_put before z.0 x put_z put_x z.2 ∙ stood in
      let read : reads configs before ev.act (queue.Router n) ≡ true =
      subst (λ q. reads configs before ev.act q ≡ true) there (Each-has (λ (y : Envelope). reads configs before ev.act y.queue ≡ true) shape.moves.taken z.0 shape.reach.taken z.1)
      in
      subst (λ (d : Entry). Has d.takes first → Has d.takes second → first ≡ second) (sym same) (router_takes before ev n (reads_router before ev.act n read) first second)

  -- ---- the beginning of a connection is told once it was made

  module _ (s n conn p : ℕ) (key : Key) (e : Entry) (at : slice_get log s ≡ Some e) (put : slice_get e.puts p ≡ Some (queue.Router n, item.Ready conn key)) where
    ready_made : conn < s
    unfolding effect
    ready_made =
        let before = take s log in
        let due = entry_due configs script log lawful s e at in
        let ev : Event = due.0 in
        let r : Row = row configs before ev.at ev.seed ev.act in
        let shape : Shape configs before ev.act r = row_shape configs before ev.at ev.seed ev.act in
        let x : Queue × Item = (queue.Router n, item.Ready conn key) in
        let has : Has r.puts x = subst (λ (d : Entry). Has d.puts x) due.1 (Has-get e.puts p x put) in
        by before ev.act r.reply shape.moves.taken
        (Each-has (Origin configs before ev.act r.reply shape.moves.taken) r.puts x
        (Moved-origins configs before ev.act r.reply shape.moves.taken r.puts (shape.laws (Told-each configs script log lawful s).standing.fitting).moved) has) (take_short s log)
      where
        made : (before : List Entry) (half : Half) → half_at before n conn ≡ Some half → length before ≤ s → conn < s
        made before half is short =
            let parts = half_parts before n conn half is in
            let early = connection_before before n conn parts.connection parts.made in
            omega (arith, early, short)

        not_content : {d : ℕ} {f : List ℕ} {b : Bool} {z : ℕ} {ks : List Key} → item.Ready conn key ≡ item.Content d f b z ks → ⊥
        not_content is = cc

        same_conn : (c d : ℕ) (k l : Key) → item.Ready c k ≡ item.Ready d l → d ≡ c
        same_conn c d k l is = cc

        by : (before : List Entry) (a : Act) (said : Reply) (taken : List Envelope) → Origin configs before a said taken (queue.Router n, item.Ready conn key) → length before ≤ s → conn < s
        by before a said taken (inl (inl idle)) short = absurd (false≢true idle)
        by before a said taken (inl (inr (inl ready))) short =
            let half = ready.2 in
            made before half.0 (subst (λ c. half_at before n c ≡ Some half.0) (same_conn conn ready.0 key ready.1 ready.3) half.1) short
        by before a said taken (inl (inr (inr sent))) short = absurd (not_content sent.3)
        by before a said taken (inr (y, has, inl idle)) short = absurd (false≢true idle)
        by before a said taken (inr (y, has, inr of)) short = absurd of

  -- ---- so releases come in time

  pub releases_timely : ReleasesAreTimely log
  releases_timely n older newer a b key x y i j first second same less release ready gone begins =
      let put_y = taken_put (queue.Router n) y j begins in
      let later : newer < y.entry = ready_made y.entry n newer y.place key put_y.entry put_y.at (put_y.put ∙ ap (λ k. Some (queue.Router n, k)) ready) in
      let over : is_ended (take newer log) n older ≡ true = older_ended configs script log lawful n older newer a b first second same less in
      let early : x.entry < newer = earlier over in
      let order : is_before (name_of x) (name_of y) ≡ true = before_later x.entry x.place y.entry y.place (omega (arith, early, later)) in
      let le : i ≤ j = leave_in_order configs script log lawful (queue.Router n) x y i j gone begins order in
      elim (cases_lt i j) [
        | inl before ↦ before
        | inr after ↦
            let here : i ≡ j = omega (arith, le, after) in
            let entries : gone.entry ≡ begins.entry = same_Some gone.entry begins.entry (sym gone.at ∙ (ap (slice_get log) here ∙ begins.at)) in
            let names : name_of x ≡ name_of y =
            takes_one n j y begins begins.entry begins.at (name_of x) (name_of y)
            (subst (λ (d : Entry). Has d.takes (name_of x)) entries (Has-get gone.entry.takes gone.takes.0 (name_of x) gone.takes.1)) (Has-get begins.entry.takes begins.takes.0 (name_of y) begins.takes.1)
            in
            let numbers : x.entry ≡ y.entry = ap (λ (k : ℕ × ℕ). k.0) names in
            absurd (omega (arith, numbers, early, later))
      ]
    where
      earlier : is_ended (take newer log) n older ≡ true → x.entry < newer
      earlier over = elim (cases_lt x.entry newer) [
        | inl before ↦ before
        | inr after ↦ absurd (false≢true (sym (lived n older x.entry release.entry release.at release.ends) ∙ ended_on n older newer x.entry after over))
      ]
