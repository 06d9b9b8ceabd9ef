-- What waits on a link and carries no copy is a ping's frame.
use Rattle.std.proofs.Common.{◌≡◌, ℕ, ◌+◌, Bool, true, false, cond, List, [], ◌∷◌, ◌++◌, map, length, Option, Some, None, refl, sym, subst, ◌∙◌}
use Rattle.std.specs.Prelude.{filter, nat_lt}
use Rattle.std.specs.List.{AllByRecursion as Each}
use Rattle.std.proofs.lemmas.Bool.{false≢true}
use Rattle.p2p_base.specs.declared.key.Key.{Key}
use Rattle.p2p_log.specs.declared.config.Config.{Config}
use Rattle.p2p_log.specs.declared.queue.Queue.{Queue}
use Rattle.p2p_log.specs.declared.queue.Queue.TheVariants as queue
use Rattle.p2p_log.specs.declared.queue.Side.{Side}
use Rattle.p2p_log.specs.declared.queue.Side.TheVariants as side
use Rattle.p2p_log.specs.declared.item.Item.{Item}
use Rattle.p2p_log.specs.declared.item.Item.TheVariants as item
use Rattle.p2p_log.specs.declared.item.Envelope.{Envelope}
use Rattle.p2p_log.specs.declared.end.Cause.TheVariants as cause
use Rattle.p2p_log.specs.declared.end.End.{End}
use Rattle.p2p_log.specs.declared.entry.Entry.{Entry}
use Rattle.p2p_log.specs.declared.entry.Reply.TheVariants as reply
use Rattle.p2p_log.specs.declared.event.Act.{Act}
use Rattle.p2p_log.specs.declared.event.Act.TheVariants as act
use Rattle.p2p_log.specs.declared.event.Event.{Event}
use Rattle.p2p_log.specs.Copies.{copies_of}
use Rattle.p2p_log.specs.Drained.{all_end, drained}
use Rattle.p2p_log.specs.Lines.{name_of, goes, placed, stays, stands_in, live_from, live, line}
use Rattle.p2p_log.proofs.Each.{Each-always, Each-append, Each-filter, Each-map, Each-take, Each-weaker}
use Rattle.p2p_log.proofs.Lines.{live-append}
use Rattle.p2p_log_rules.specs.declared.row.Half.{Half}
use Rattle.p2p_log_rules.specs.declared.row.Opening.{Opening}
use Rattle.p2p_log_rules.specs.declared.row.Row.{Row}
use Rattle.p2p_log_rules.specs.Connections.{live_half, is_begun, is_running, is_ended}
use Rattle.p2p_log_rules.specs.Cutting.{is_broken, can_be_cut, queues_over, cut_row}
use Rattle.p2p_log_rules.specs.Dropping.{other_side}
use Rattle.p2p_log_rules.specs.Effect
use Rattle.p2p_log_rules.specs.Effect.{effect, row}
use Rattle.p2p_log_rules.specs.Facts.{is_up, keys_in, routes, subscribers, with_route}
use Rattle.p2p_log_rules.specs.Lawful.{IsLawful}
use Rattle.p2p_log_rules.specs.Links.{openings_of}
use Rattle.p2p_log_rules.specs.Pings.{ping_frame, ping_is_due}
use Rattle.p2p_log_rules.specs.Rows.{only, takes_oldest}
use Rattle.p2p_log_rules.proofs.Touches.{in_ends}
use Rattle.p2p_log_laws.proofs.LineShape.{in_line}
use Rattle.p2p_log_laws.proofs.Prefixes.{at_end}
use Rattle.p2p_log_laws.proofs.Reaching.{writes}
use Rattle.p2p_log_laws.proofs.Shapes.{row_shape}
use Rattle.p2p_log_laws.proofs.Spreading.{spread_each}

-- an item that carries no copy is a ping's frame
abbrev pub IsPingWithoutCopy : Item → Type 0
IsPingWithoutCopy i = copies_of i ≡ [] → i ≡ item.Frame None ping_frame

-- an item that is yet to be written carries a copy, and so does one on a link, unless it is a ping's frame
abbrev IsOnTheWay : Queue → Item → Type 0
IsOnTheWay (queue.High n conn) i = copies_of i ≡ [] → ⊥
IsOnTheWay (queue.Low n conn) i = copies_of i ≡ [] → ⊥
IsOnTheWay (queue.Link link side) i = IsPingWithoutCopy i
IsOnTheWay _ i = Unit {0}

abbrev PutOnTheWay : Queue × Item → Type 0
PutOnTheWay x = IsOnTheWay x.0 x.1

abbrev StandsOnTheWay : Envelope → Type 0
StandsOnTheWay x = IsOnTheWay x.queue x.item

-- an act that puts nothing in the queues on the way to a link
record IsAside (configs : List Config) (log : List Entry) (a : Act) : Type 0 where
  high : (n conn : ℕ) → writes configs log a (queue.High n conn) ≡ false
  low : (n conn : ℕ) → writes configs log a (queue.Low n conn) ≡ false
  link : (l : ℕ) → (writes configs log a (queue.Link l side.Out) ≡ false) × (writes configs log a (queue.Link l side.In) ≡ false)

finish_aside : (configs : List Config) (log : List Entry) (link : ℕ) (ok : Bool) → IsAside configs log (act.Finish link ok)
finish_aside configs log link ok = record {
  high = λ n conn. by (openings_of log link) (queue.High n conn) (λ o. refl);
  low = λ n conn. by (openings_of log link) (queue.Low n conn) (λ o. refl);
  link = λ l. (by (openings_of log link) (queue.Link l side.Out) (λ o. refl), by (openings_of log link) (queue.Link l side.In) (λ o. refl));
}
  where
    by : (o : Option Opening) (q : Queue) → ((p : Opening) → in_ends (Some p) q ≡ false) → in_ends o q ≡ false
    by None q none = refl
    by (Some p) q none = none p

module _ (configs : List Config) (log : List Entry) (at seed : ℕ) where
  away : (a : Act) → IsAside configs log a → Each PutOnTheWay (row configs log at seed a).puts
  away a aside =
      Each-weaker (λ x. writes configs log a x.0 ≡ true) PutOnTheWay (λ x put. far x.0 x.1 put) (row configs log at seed a).puts (row_shape configs log at seed a).reach.puts
    where
      far : (q : Queue) (i : Item) → writes configs log a q ≡ true → IsOnTheWay q i
      far (queue.High n conn) i put = absurd (false≢true (sym (aside.high n conn) ∙ put))
      far (queue.Low n conn) i put = absurd (false≢true (sym (aside.low n conn) ∙ put))
      far (queue.Link l side.Out) i put = absurd (false≢true (sym (aside.link l).0 ∙ put))
      far (queue.Link l side.In) i put = absurd (false≢true (sym (aside.link l).1 ∙ put))
      far _ i put = tt

  -- ---- the router's step

  lists : (n : ℕ) (keys : List Key) (cs : List ℕ) → Each PutOnTheWay (map (Effect.peers_put n keys) cs)
  lists n keys cs = Each-map PutOnTheWay (Effect.peers_put n keys) cs (Each-always (λ c. PutOnTheWay (Effect.peers_put n keys c)) (λ c. tt) cs)

  answered : (n conn : ℕ) (ended : Bool) (puts : List (Queue × Item)) → Each PutOnTheWay puts → Each PutOnTheWay (Effect.answer_puts ended n conn ++ puts)
  answered n conn true puts each = each
  answered n conn false puts each = (tt, each)

  copied : (priority : Bool) (n conn : ℕ) (copy : ℕ × ℕ) (frame : List ℕ) → PutOnTheWay (Effect.relay_queue priority n conn, item.Frame (Some copy) frame)
  copied true n conn copy frame = λ none. absurd (cc)
  copied false n conn copy frame = λ none. absurd (cc)

  routed : (n : ℕ) (name : ℕ × ℕ) (i : Item) (items : List Envelope) → Each PutOnTheWay (Effect.route_row configs log n name i items).puts
  routed n name (item.Subscribe c) items = lists n (keys_in (routes log n)) (c ∷ [])
  routed n name (item.Ready conn key) items =
      let keys : List Key = keys_in (with_route (routes log n) (item.Ready conn key)) in
      answered n conn (is_ended log n conn) (map (Effect.peers_put n keys) (subscribers log n)) (lists n keys (subscribers log n))
  routed n name (item.Release key) items = lists n (keys_in (with_route (routes log n) (item.Release key))) (subscribers log n)
  routed n name (item.Content c frame priority send to) items =
      (spread_each (λ (d : End). Unit {0}) PutOnTheWay (Effect.mailbox_size_at configs n) items n priority (is_ended log n) (routes log n) send frame to (λ p o. tt)
      (λ p k conn here route. copied priority n conn (send, p) frame)).1
  routed n name _ items = tt

  router : (n : ℕ) → Each PutOnTheWay (Effect.router_row configs log n).puts
  router n = by_up (is_up log n)
    where
      oldest : (xs : List Envelope) → Each PutOnTheWay (Effect.route_oldest configs log n xs).puts
      oldest [] = tt
      oldest (x ∷ rest) = routed n (name_of x) x.item (filter (stays (name_of x ∷ [])) (live log))

      by_up : (b : Bool) → Each PutOnTheWay (cond b (Effect.route_oldest configs log n (line log (queue.Router n))) (only reply.Gone)).puts
      by_up true = oldest (line log (queue.Router n))
      by_up false = tt

  -- ---- a step of a sending half

  module _ (before : Each StandsOnTheWay (live log)) where
    -- what it is to write carries copies
    abbrev Carries : Envelope → Type 0
    Carries y = copies_of y.item ≡ [] → ⊥

    waits : (q : Queue) → ((i : Item) → IsOnTheWay q i → copies_of i ≡ [] → ⊥) → Each Carries (line log q)
    unfolding line
    waits q carries = both (filter (stands_in q) (live log)) (in_line log q) (Each-filter StandsOnTheWay (stands_in q) (live log) before)
      where
        both : (ys : List Envelope) → Each (λ y. y.queue ≡ q) ys → Each StandsOnTheWay ys → Each Carries ys
        both [] there stands = tt
        both (y ∷ ys) there stands = (carries y.item (subst (λ p. IsOnTheWay p y.item) there.0 stands.0), both ys there.1 stands.1)

    batched : (n conn most : ℕ) → Each Carries (Effect.batch log n conn most)
    batched n conn most =
        Each-take Carries most (line log (queue.High n conn) ++ line log (queue.Low n conn))
        (Each-append Carries (line log (queue.High n conn)) (line log (queue.Low n conn)) (waits (queue.High n conn) (λ i h. h)) (waits (queue.Low n conn) (λ i h. h)))

    module _ (n conn : ℕ) (half : Half) where
      frames : (ys : List Envelope) → Each Carries ys → Each PutOnTheWay (map (λ (y : Envelope). (queue.Link half.link half.writes, y.item)) ys)
      frames [] carry = tt
      frames (y ∷ ys) carry = ((λ none. absurd (carry.0 none)), frames ys carry.1)

      written : (broken due : Bool) (ys : List Envelope) → Each Carries ys → Each PutOnTheWay (Effect.written_row log n conn half broken due ys).puts
      written true false [] carry = tt
      written false false [] carry = tt
      written true false (y ∷ ys) carry = (tt, (tt, tt))
      written true true ys carry = (tt, (tt, tt))
      written false false (y ∷ ys) carry = frames (y ∷ ys) carry
      written false true ys carry = ((λ none. refl), frames ys carry)

      told : (xs : List Envelope) (room : Bool) (r : Row) → Each PutOnTheWay r.puts → Each PutOnTheWay (Effect.told_to_end_row log n conn half xs room r).puts
      told [] room r each = each
      told (x ∷ xs) true r each = (tt, (tt, tt))
      told (x ∷ xs) false r each = each

      by_half : (begun runs : Bool) → Each PutOnTheWay (Effect.half_row configs log n conn at half begun runs).puts
      by_half false runs = (tt, (tt, tt))
      by_half true false = oldest (line log (queue.RouterAnswer n conn))
        where
          oldest : (xs : List Envelope) → Each PutOnTheWay (takes_oldest xs).puts
          oldest [] = tt
          oldest (x ∷ xs) = tt
      by_half true true =
          let due : Bool = ping_is_due configs log n conn at in
          let most : ℕ = Effect.beside_ping due (Effect.batch_size_at configs n) in
          let broken : Bool = is_broken log half.link (other_side half.writes) in
          let ys : List Envelope = Effect.batch log n conn most in
          told (line log (queue.Control n conn)) (nat_lt 0 most) (Effect.written_row log n conn half broken due ys) (written broken due ys (batched n conn most))

    sends : (conn n : ℕ) → Each PutOnTheWay (Effect.send_step_row configs log conn n at).puts
    sends conn n = by_up (is_up log n)
      where
        by_sender : (o : Option Half) → Each PutOnTheWay (Effect.sender_row configs log n conn at o).puts
        by_sender None = tt
        by_sender (Some half) = by_half n conn half (is_begun log n conn) (is_running log n conn)

        by_up : (b : Bool) → Each PutOnTheWay (cond b (Effect.sender_row configs log n conn at (live_half log n conn)) (only reply.Gone)).puts
        by_up true = by_sender (live_half log n conn)
        by_up false = tt

    -- ---- all acts

    cuts : (link : ℕ) → Each PutOnTheWay (cut_row log link).puts
    cuts link = by (can_be_cut log link)
      where
        due : Row
        due = record { reply = reply.Ok; takes = []; puts = []; ends = all_end cause.LinkCut (drained (live log) (queues_over link)) }

        by : (b : Bool) → Each PutOnTheWay (cond b due (only reply.Gone)).puts
        by true = tt
        by false = tt

    puts_on_the_way : (a : Act) → Each PutOnTheWay (row configs log at seed a).puts
    unfolding row
    puts_on_the_way (act.Router n) = router n
    puts_on_the_way (act.SendStep conn n) = sends conn n
    puts_on_the_way (act.Cut link) = cuts link
    puts_on_the_way (act.Finish link ok) = away (act.Finish link ok) (finish_aside configs log link ok)
    puts_on_the_way a = away a (record { high = λ n conn. refl; low = λ n conn. refl; link = λ l. (refl, refl) })

-- ---- over a log

module _ (configs : List Config) where
  abbrev AreOnTheWay : List Entry → Type 0
  AreOnTheWay log = Each StandsOnTheWay (live log)

  none_yet : AreOnTheWay []
  unfolding live_from
  none_yet = tt

  each_placed : (n p : ℕ) (puts : List (Queue × Item)) → Each PutOnTheWay puts → Each StandsOnTheWay (placed n p puts)
  each_placed n p [] h = tt
  each_placed n p (x ∷ xs) h = (h.0, each_placed n (p + 1) xs h.1)

  still : (log : List Entry) (ev : Event) → AreOnTheWay log → AreOnTheWay (log ++ effect configs log ev ∷ [])
  unfolding effect
  still log ev before =
      let e : Entry = effect configs log ev in
      subst (Each StandsOnTheWay) (sym (live-append log e))
      (Each-append StandsOnTheWay (filter (stays (goes e)) (live log)) (placed (length log) 0 e.puts) (Each-filter StandsOnTheWay (stays (goes e)) (live log) before)
      (each_placed (length log) 0 e.puts (puts_on_the_way configs log ev.at ev.seed before ev.act)))

  -- each item that waits on a link and carries no copy is a ping's frame
  pub links_have_pings : (script : List Event) (log : List Entry) → IsLawful configs script log → (link : ℕ) (side : Side) → Each (λ x. IsPingWithoutCopy x.item) (line log (queue.Link link side))
  unfolding line
  links_have_pings script log lawful link side =
      let q : Queue = queue.Link link side in
      both q (filter (stands_in q) (live log)) (in_line log q) (Each-filter StandsOnTheWay (stands_in q) (live log) (at_end configs AreOnTheWay none_yet still script log lawful)) (λ i h. h)
    where
      both : (q : Queue) (xs : List Envelope) → Each (λ x. x.queue ≡ q) xs → Each StandsOnTheWay xs → ((i : Item) → IsOnTheWay q i → IsPingWithoutCopy i) → Each (λ x. IsPingWithoutCopy x.item) xs
      both q [] there stands pings = tt
      both q (x ∷ xs) there stands pings = (pings x.item (subst (λ p. IsOnTheWay p x.item) there.0 stands.0), both q xs there.1 stands.1 pings)
