-- The shape of a router's step.
use Rattle.p2p_log.specs.Copies.{accepted}
use Rattle.std.proofs.Common.{◌≡◌, ℕ, ◌+◌, Bool, true, false, cond, List, [], ◌∷◌, ◌++◌, map, length, Option, Some, inr, refl, ap, sym, subst, ◌∙◌, arith, eq-eqb, leb-true}
use Rattle.std.specs.Prelude.{◌==◌, ◌&&◌, nat_le, nat_lt, count_by, filter, slice_get}
use Rattle.std.specs.List.{AllByRecursion as Each}
use Rattle.std.proofs.lemmas.Bool.{false≢true}
use Rattle.p2p_base.specs.declared.key.Key.{Key}
use Rattle.p2p_log.specs.declared.config.Config.{Config}
use Rattle.p2p_log.specs.declared.queue.Queue.{Queue}
use Rattle.p2p_log.specs.declared.queue.Queue.TheVariants as queue
use Rattle.p2p_log.specs.declared.item.Item.{Item}
use Rattle.p2p_log.specs.declared.item.Item.TheVariants as item
use Rattle.p2p_log.specs.declared.item.Envelope.{Envelope}
use Rattle.p2p_log.specs.declared.entry.Entry.{Entry}
use Rattle.p2p_log.specs.declared.entry.Reply.TheVariants as reply
use Rattle.p2p_log.specs.declared.event.Event.{Event}
use Rattle.p2p_log.specs.declared.event.Act.TheVariants as act
use Rattle.p2p_log_rules.specs.declared.row.Row.{Row}
use Rattle.p2p_log.specs.Apart.{AreApart}
use Rattle.p2p_log.specs.Lines.{name_of, stays, stands_in, live, line}
use Rattle.p2p_log_rules.specs.Connections.{is_ended}
use Rattle.p2p_log_rules.specs.Facts.{is_up, subscribers, routes, with_route, keys_in}
use Rattle.p2p_log.specs.Copies.{carries, carries_copy, copies_of}
use Rattle.p2p_log_rules.specs.Effect
use Rattle.p2p_log_rules.specs.Effect.{entry_of}
use Rattle.p2p_log.proofs.Each.{Each-always, Each-filter, Each-map, Each-weaker}
use Rattle.p2p_log_rules.specs.Moves.{Moves}
use Rattle.p2p_log_rules.proofs.Moves.{one_taken, stands_first, first_has, rings, rings_gone, rings_in, rings_taken}
use Rattle.p2p_log.proofs.Names.{AreApart-filter, AreApart-live_from, filter_stays-first}
use Rattle.p2p_log.proofs.Queues.{same_queue-refl}
use Rattle.p2p_log.proofs.Taken.{AreTaken-append}
use Rattle.p2p_log_rules.proofs.Touches.{in_router}
use Rattle.p2p_log_laws.proofs.Reaching.{reads}
use Rattle.p2p_log_laws.specs.Causes.{IsRouted, enters_before}
use Rattle.p2p_log_laws.proofs.Carried.{IsSublist-frames}
use Rattle.p2p_log_laws.proofs.Fitting.{Fits, StandsFit, fits, is_bare, holds_bare, is_item_end, ended_item-none}
use Rattle.p2p_log_laws.proofs.Overwriting.{rings_bare, ring_ends_items}
use Rattle.p2p_log_laws.proofs.Shape.{Shape, ComesOf, relay_spread, IsQuiet, Moved-all, accepts, still, one_move, first_in, quiet_laws, no_delivery, count_by-single, accepts-none}
use Rattle.p2p_log_laws.proofs.Showing.{Standing, EndShows, first_tells, send_accepted}
use Rattle.p2p_log_laws.proofs.SpreadDrops.{spread_drops}
use Rattle.p2p_log_laws.proofs.Spreading.{borne-spread, spread_each, borne_by, from_place, from_first, one}
use Rattle.p2p_log_laws.proofs.Spreads.{Adds, puts-spread}
use Rattle.p2p_log_laws.specs.Flow.{IsSublist, put_copies}

relay_fits : (priority : Bool) (n conn : ℕ) (copy : Option (ℕ × ℕ)) (frame : List ℕ) → fits (Effect.relay_queue priority n conn) (item.Frame copy frame) ≡ true
relay_fits true n conn copy frame = refl
relay_fits false n conn copy frame = refl

relay_near : (priority : Bool) (n conn : ℕ) → in_router n (Effect.relay_queue priority n conn) ≡ true
relay_near true n conn = eq-eqb n n refl
relay_near false n conn = eq-eqb n n refl

module _ (configs : List Config) (log : List Entry) (n : ℕ) (x : Envelope) (rest : List Envelope) (first : line log (queue.Router n) ≡ x ∷ rest) where
  -- what stands in queues once the item is taken
  abbrev pub left : List Envelope
  left = filter (stays (name_of x ∷ [])) (live log)

  pub apart : AreApart left
  apart = AreApart-filter (stays (name_of x ∷ [])) (live log) (AreApart-live_from 0 log)

  fit : Each StandsFit (live log) → (i : Item) → x.item ≡ i → fits (queue.Router n) i ≡ true
  fit fitting i is =
      let whole : fits x.queue x.item ≡ true = first_has StandsFit log (queue.Router n) x rest fitting first in
      subst (λ j. fits (queue.Router n) j ≡ true) is (subst (λ q. fits q x.item ≡ true) (one_taken log (queue.Router n) x rest first) whole)

  in_mailbox : Each (λ y. reads configs log (act.Router n) y.queue ≡ true) (x ∷ [])
  in_mailbox = (first_in (reads configs log (act.Router n)) log (queue.Router n) x rest first (same_queue-refl (queue.Router n)), tt)

  -- the item, and the lists that newer ones overwrite
  abbrev pub ringed : (puts : List (Queue × Item)) (cs : List ℕ) → Moves log (record { reply = reply.Ok; takes = name_of x ∷ []; puts = puts; ends = Effect.peers_ends left n cs })
  ringed puts cs = record {
    taken = x ∷ [];
    ended = rings left (map (queue.Peers n) cs);
    names = refl;
    gone = rings_gone left (map (queue.Peers n) cs);
    stood = AreTaken-append (live log) (x ∷ []) (rings left (map (queue.Peers n) cs)) (stands_first log (queue.Router n) x rest first) (rings_taken left (map (queue.Peers n) cs) apart);
  }

  -- what carries no copy, and overwrites lists of peers
  quiet_step : (puts : List (Queue × Item)) (cs : List ℕ) → is_bare x.item ≡ true → Each IsQuiet puts → Each (λ y. in_router n y.0 ≡ true) puts
      → Shape configs log (act.Router n) (record { reply = reply.Ok; takes = name_of x ∷ []; puts = puts; ends = Effect.peers_ends left n cs })
  quiet_step puts cs light quiet near = record {
    moves = ringed puts cs;
    reach = record {
      taken = in_mailbox;
      ended = rings_in (λ q. in_router n q ≡ true) left (map (queue.Peers n) cs) (Each-map (λ q. in_router n q ≡ true) (queue.Peers n) cs (Each-always (λ c. in_router n (queue.Peers n c) ≡ true) (λ c. eq-eqb n n refl) cs));
      puts = near;
    };
    laws = λ fitting.
        let r : Row = record { reply = reply.Ok; takes = name_of x ∷ []; puts = puts; ends = Effect.peers_ends left n cs } in
        quiet_laws configs log (act.Router n) r (ringed puts cs) refl refl (light, tt)
        (rings_bare left (map (queue.Peers n) cs) apart (Each-filter StandsFit (stays (name_of x ∷ [])) (live log) fitting)
        (Each-map (λ q. holds_bare q ≡ true) (queue.Peers n) cs (Each-always (λ c. holds_bare (queue.Peers n c) ≡ true) (λ c. refl) cs)))
        (ring_ends_items left (map (queue.Peers n) cs)) quiet;
  }

  lists_quiet : (keys : List Key) (cs : List ℕ) → Each IsQuiet (map (Effect.peers_put n keys) cs)
  lists_quiet keys cs = Each-map IsQuiet (Effect.peers_put n keys) cs (Each-always (λ c. IsQuiet (Effect.peers_put n keys c)) (λ c. (refl, refl)) cs)

  lists_near : (keys : List Key) (cs : List ℕ) → Each (λ y. in_router n y.0 ≡ true) (map (Effect.peers_put n keys) cs)
  lists_near keys cs =
      Each-map (λ (y : Queue × Item). in_router n y.0 ≡ true) (Effect.peers_put n keys) cs
      (Each-always (λ c. in_router n (Effect.peers_put n keys c).0 ≡ true) (λ c. eq-eqb n n refl) cs)

  subscribe_shape : (c : ℕ) → x.item ≡ item.Subscribe c → Shape configs log (act.Router n) (Effect.route_row configs log n (name_of x) (item.Subscribe c) left)
  subscribe_shape c is =
      let keys = keys_in (routes log n) in
      quiet_step (map (Effect.peers_put n keys) (c ∷ [])) (c ∷ []) (ap is_bare is) (lists_quiet keys (c ∷ [])) (lists_near keys (c ∷ []))

  ready_shape : (conn : ℕ) (key : Key) → x.item ≡ item.Ready conn key → Shape configs log (act.Router n) (Effect.route_row configs log n (name_of x) (item.Ready conn key) left)
  ready_shape conn key is =
      let keys = keys_in (with_route (routes log n) (item.Ready conn key)) in
      let subs = subscribers log n in
      quiet_step (Effect.answer_puts (is_ended log n conn) n conn ++ map (Effect.peers_put n keys) subs) subs (ap is_bare is) (quiet keys subs (is_ended log n conn)) (near keys subs (is_ended log n conn))
    where
      quiet : (keys : List Key) (subs : List ℕ) (b : Bool) → Each IsQuiet (Effect.answer_puts b n conn ++ map (Effect.peers_put n keys) subs)
      quiet keys subs true = lists_quiet keys subs
      quiet keys subs false = ((refl, refl), lists_quiet keys subs)

      near : (keys : List Key) (subs : List ℕ) (b : Bool) → Each (λ y. in_router n y.0 ≡ true) (Effect.answer_puts b n conn ++ map (Effect.peers_put n keys) subs)
      near keys subs true = lists_near keys subs
      near keys subs false = (eq-eqb n n refl, lists_near keys subs)

  release_shape : (key : Key) → x.item ≡ item.Release key → Shape configs log (act.Router n) (Effect.route_row configs log n (name_of x) (item.Release key) left)
  release_shape key is =
      let keys = keys_in (with_route (routes log n) (item.Release key)) in
      let subs = subscribers log n in
      quiet_step (map (Effect.peers_put n keys) subs) subs (ap is_bare is) (lists_quiet keys subs) (lists_near keys subs)

  -- what the router took stood in no relay
  relays_same : (priority : Bool) (conn : ℕ) → filter (stands_in (Effect.relay_queue priority n conn)) left ≡ line log (Effect.relay_queue priority n conn)
  unfolding line
  relays_same true conn = filter_stays-first (live log) (queue.Router n) (queue.High n conn) x rest (AreApart-live_from 0 log) first
  relays_same false conn = filter_stays-first (live log) (queue.Router n) (queue.Low n conn) x rest (AreApart-live_from 0 log) first

  module _ (c : ℕ) (frame : List ℕ) (priority : Bool) (send : ℕ) (to : List Key) (is : x.item ≡ item.Content c frame priority send to) where
    abbrev size : ℕ
    size = Effect.mailbox_size_at configs n

    abbrev s : Effect.Spread
    s = Effect.spread size left n priority (is_ended log n) (routes log n) send 0 frame to (record { puts = []; ends = [] })

    content_shows : (ev : Event) → Standing configs log → ev.act ≡ act.Router n
        → Each (EndShows configs log (entry_of ev (Effect.row_of_spread (name_of x) s))) s.ends
    content_shows ev stand steps =
        let e : Entry = entry_of ev (Effect.row_of_spread (name_of x) s) in
        let told = first_tells configs log (queue.Router n) x rest (item.Content c frame priority send to) stand.tells first is in
        let recipients : accepted log send ≡ to = send_accepted log send n c told.0 to told.2 in
        let routed : (p : ℕ) (k : Key) → slice_get to p ≡ Some k → IsRouted configs log e (send, p) n priority k = λ p k here. record {
          steps = steps;
          oldest = x;
          later = rest;
          stood = first;
          takes = refl;
          channel = c;
          frame = frame;
          to = to;
          is = is;
          recipients = recipients;
          for_key = here;
        } in
        spread_drops (EndShows configs log e) size left n priority (is_ended log n) (routes log n) send frame to s.puts
        (λ p k here route. record { node = n; priority = priority; key = k; routed = routed p k here; not_connected = route })
        (λ p k conn here route is_late. inr (inr (record { node = n; priority = priority; key = k; routed = routed p k here; conn = conn; connected = route; ended = is_late })))
        (λ p k conn here route full. record {
          node = n;
          priority = priority;
          key = k;
          routed = routed p k here;
          conn = conn;
          connected = route;
          full = leb-true size _
              (sym (ap (λ (l : List Envelope). nat_le size (length l + count_by (enters_before (Effect.relay_queue priority n conn) (send, p)) s.puts)) (relays_same priority conn)) ∙ full);
        })
        refl

    -- a put of the spread
    abbrev IsRelay : Queue × Item → Type 0
    IsRelay y = Fits y × ComesOf configs log x y × (in_router n y.0 ≡ true)

    relays : Each (λ d. is_item_end d ≡ false) s.ends × Each IsRelay s.puts
    relays =
        spread_each (λ d. is_item_end d ≡ false) IsRelay size left n priority (is_ended log n) (routes log n) send frame to (λ p o. refl)
        (λ p k conn here route. (
          relay_fits priority n conn (Some (send, p)) frame,
          inr (relay_spread configs log x priority n conn (item.Frame (Some (send, p)) frame) (record {
            channel = c;
            frame = frame;
            send = send;
            to = to;
            place = p;
            key = k;
            stood = one_taken log (queue.Router n) x rest first;
            is = is;
            for_key = here;
            route = route;
            put = refl;
          })),
          relay_near priority n conn,
        ))

    content_shape : Shape configs log (act.Router n) (Effect.route_row configs log n (name_of x) (item.Content c frame priority send to) left)
    content_shape =
        let r : Row = Effect.row_of_spread (name_of x) s in
        record {
          moves = one_move log (queue.Router n) x rest first r refl (ended_item-none s.ends relays.0);
          reach = record { taken = in_mailbox; ended = tt; puts = Each-weaker IsRelay (λ y. in_router n y.0 ≡ true) (λ y h. h.2) s.puts relays.1 };
          laws = λ fitting. record {
            fitting = Each-weaker IsRelay Fits (λ y h. h.0) s.puts relays.1;
            moved = Moved-all configs log (act.Router n) reply.Ok x s.puts
                (Each-weaker IsRelay (ComesOf configs log x) (λ y h. h.1) s.puts relays.1)
                (λ q.
                let adds : Adds send 0 frame to [] s.puts = puts-spread size left n priority (is_ended log n) (routes log n) send frame to 0 (record { puts = []; ends = [] }) in
                subst (λ (l : List (Queue × Item)). IsSublist (put_copies (filter q l)) (copies_of x.item)) (sym adds.1)
                (subst (IsSublist (put_copies (filter q adds.0))) (sym (ap copies_of is)) (IsSublist-frames q send 0 frame to adds.0 adds.2)));
            balanced = λ copy.
                let none : accepts log (act.Router n) reply.Ok copy ≡ 0 = accepts-none log (act.Router n) reply.Ok copy refl in
                let taken : count_by (carries copy) (x ∷ []) ≡ one ((send == copy.0) && nat_lt copy.1 (length to)) =
                count_by-single copy x ((send == copy.0) && nat_lt copy.1 (length to)) (ap (carries_copy copy) is)
                in
                let all : borne_by copy s.puts s.ends ≡ 0 + from_place copy send 0 (length to) =
                borne-spread copy size left n priority (is_ended log n) (routes log n) send 0 frame to (record { puts = []; ends = [] })
                in
                let place = from_first copy.0 copy.1 send (length to) in
                omega (arith, none, taken, all, place);
            causes = λ stand ev steps. content_shows ev stand steps;
            delivers = no_delivery configs log (act.Router n) reply.Ok (x ∷ []) s.ends refl;
          };
        }

  -- what does not belong in the mailbox
  misfit : (i : Item) → x.item ≡ i → fits (queue.Router n) i ≡ false → Shape configs log (act.Router n) (record { reply = reply.Ok; takes = name_of x ∷ []; puts = []; ends = [] })
  misfit i is h = record {
    moves = one_move log (queue.Router n) x rest first (record { reply = reply.Ok; takes = name_of x ∷ []; puts = []; ends = [] }) refl refl;
    reach = record { taken = in_mailbox; ended = tt; puts = tt };
    laws = λ fitting. absurd (false≢true (sym h ∙ fit fitting i is));
  }

  route_shape : (i : Item) → x.item ≡ i → Shape configs log (act.Router n) (Effect.route_row configs log n (name_of x) i left)
  route_shape (item.Subscribe c) is = subscribe_shape c is
  route_shape (item.Ready conn key) is = ready_shape conn key is
  route_shape (item.Release key) is = release_shape key is
  route_shape (item.Content c frame priority send to) is = content_shape c frame priority send to is
  route_shape i is = misfit i is refl

oldest_shape : (configs : List Config) (log : List Entry) (n : ℕ) (xs : List Envelope) → line log (queue.Router n) ≡ xs
    → Shape configs log (act.Router n) (Effect.route_oldest configs log n xs)
oldest_shape configs log n [] e = still configs log (act.Router n) reply.Idle refl refl
oldest_shape configs log n (x ∷ rest) e = route_shape configs log n x rest e x.item refl

pub router_shape : (configs : List Config) (log : List Entry) (n : ℕ) → Shape configs log (act.Router n) (Effect.router_row configs log n)
router_shape configs log n =
    elim (is_up log n) as (λ b. Shape configs log (act.Router n) (cond b (Effect.route_oldest configs log n (line log (queue.Router n))) (Effect.only reply.Gone))) [
      | true ↦ oldest_shape configs log n (line log (queue.Router n)) refl
      | false ↦ still configs log (act.Router n) reply.Gone refl refl
    ]
