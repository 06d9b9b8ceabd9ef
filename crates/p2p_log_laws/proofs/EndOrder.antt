-- By which connection a message came that waits for a reader, and that the connection had not ended when it was put there.
use Rattle.std.proofs.Common.{◌≡◌, ℕ, ◌<◌, Bool, true, false, List, take, drop, Option, Some, None, ◌⊎◌, inl, inr, refl, ap, sym, subst, ◌∙◌, arith, take-append-drop, eqb-true, eq-eqb}
use Rattle.std.specs.Prelude.{◌==◌, ◌&&◌, ◌||◌, slice_get}
use Rattle.std.specs.List.{AllByRecursion as Each}
use Rattle.std.proofs.lemmas.Bool.{and_parts, false≢true}
use Rattle.p2p_log_rules.proofs.Bools.{or_false}
use Rattle.p2p_base.specs.declared.key.Key.{Key}
use Rattle.p2p_log.specs.declared.config.Config.{Config}
use Rattle.p2p_log.specs.declared.queue.Queue.{Queue}
use Rattle.p2p_log.specs.declared.queue.Queue.TheVariants as queue
use Rattle.p2p_log.specs.declared.queue.Side.{Side}
use Rattle.p2p_log.specs.declared.item.Item.{Item}
use Rattle.p2p_log.specs.declared.item.Item.TheVariants as item
use Rattle.p2p_log.specs.declared.item.Envelope.{Envelope}
use Rattle.p2p_log.specs.declared.entry.Entry.{Entry}
use Rattle.p2p_log.specs.declared.entry.Reply.TheVariants as reply
use Rattle.p2p_log.specs.declared.event.Act.{Act}
use Rattle.p2p_log.specs.declared.event.Act.TheVariants as act
use Rattle.p2p_log.specs.declared.event.Event.{Event}
use Rattle.p2p_log.specs.Lines.{live}
use Rattle.p2p_log.proofs.Each.{Has, Each-has, Has-get}
use Rattle.p2p_log.proofs.Taken.{Each-taken}
use Rattle.p2p_log_rules.specs.declared.row.Half.{Half}
use Rattle.p2p_log_rules.specs.declared.row.Opening.{Opening}
use Rattle.p2p_log_rules.specs.declared.row.Row.{Row}
use Rattle.p2p_log_rules.specs.Connections.{half_at, is_ended}
use Rattle.p2p_log_rules.specs.Dropping.{other_side}
use Rattle.p2p_log_rules.specs.Effect.{effect, row, only}
use Rattle.p2p_log_rules.specs.Lawful.{IsLawful}
use Rattle.p2p_log_rules.specs.Links.{openings_of}
use Rattle.p2p_log_rules.proofs.Connections.{half_parts, half_at-longer, is_live}
use Rattle.p2p_log_rules.proofs.Moves.{taken_stood}
use Rattle.p2p_log_rules.proofs.Touches.{in_ends, in_link}
use Rattle.p2p_log_laws.specs.Order.{WentOver}
use Rattle.p2p_log_laws.proofs.EndMade.{take_short}
use Rattle.p2p_log_laws.proofs.Ledger.{Told-each}
use Rattle.p2p_log_laws.proofs.Living.{steps_live}
use Rattle.p2p_log_laws.proofs.OneConnection.{connection_before, connections_are_one}
use Rattle.p2p_log_laws.proofs.Ordering.{one_way}
use Rattle.p2p_log_laws.proofs.Prefixes.{entry_due}
use Rattle.p2p_log_laws.proofs.Puts.{IsPut, each_put}
use Rattle.p2p_log_laws.proofs.Reaching.{reads, writes}
use Rattle.p2p_log_laws.proofs.Shape.{Shape, Origin, CameInFrame, IsReceived, IsRetried, Moved-origins}
use Rattle.p2p_log_laws.proofs.Shapes.{row_shape}
use Rattle.p2p_log_laws.proofs.Telling.{IsHeld, Tells, StandTells, WentOver-longer}

-- a connection had begun before this entry, and had not ended
pub record IsOpenAt (log : List Entry) (n conn s : ℕ) : Type 0 where
  pub early : conn < s
  pub lives : is_ended (take s log) n conn ≡ false

-- the link of a half that reads it
reads_link : (o : Option Half) (half : Half) (l : ℕ) (s : Side) → o ≡ Some half → in_link o (queue.Link l s) ≡ true → l ≡ half.link
reads_link o half l s is read = eqb-true l half.link (sym (ap (λ p. in_link p (queue.Link l s)) is) ∙ read)

reads_held : (n e c : ℕ) (o : Option Half) → (((n == n) && (c == e)) || in_link o (queue.Held n c)) ≡ true → c ≡ e
reads_held n e c o read = eqb-true c e (and_parts (n == n) (c == e) (sym (or_false ((n == n) && (c == e))) ∙ read)).1

ends_aside : (o : Option Opening) (n c : ℕ) → in_ends o (queue.Channel n c) ≡ false
ends_aside None n c = refl
ends_aside (Some o) n c = refl

-- what takes an item and puts one for a reader is a step of a receiving half
reader_steps : (configs : List Config) (before : List Entry) (n c : ℕ) (p : Queue) (a : Act) → writes configs before a (queue.Channel n c) ≡ true → reads configs before a p ≡ true → (e : ℕ) × (a ≡ act.RecvStep e n)
reader_steps configs before n c p (act.RecvStep e m) put read = (e, ap (act.RecvStep e) (sym (eqb-true n m put)))
reader_steps configs before n c p (act.Close d m) put read = absurd (false≢true read)
reader_steps configs before n c p (act.Finish link ok) put read = absurd (false≢true (sym (ends_aside (openings_of before link) n c) ∙ put))
reader_steps configs before n c p _ put read = absurd (false≢true put)

module _ (configs : List Config) (script : List Event) (log : List Entry) (lawful : IsLawful configs script log) where
  over_in_log : (s : ℕ) (copy : ℕ × ℕ) (link : ℕ) (side : Side) → WentOver (take s log) copy link side → WentOver log copy link side
  over_in_log s copy link side over = subst (λ (l : List Entry). WentOver l copy link side) (take-append-drop s log) (WentOver-longer (take s log) (drop s log) copy link side over)

  half_in_log : (s n e : ℕ) (half : Half) → half_at (take s log) n e ≡ Some half → half_at log n e ≡ Some half
  half_in_log s n e half at = subst (λ (l : List Entry). half_at l n e ≡ Some half) (take-append-drop s log) (half_at-longer (take s log) (drop s log) n e half at)

  -- by one connection over one link
  same_connection : (n c d : ℕ) (a b : Half) → half_at log n c ≡ Some a → half_at log n d ≡ Some b → a.link ≡ b.link → c ≡ d
  same_connection n c d a b first second links =
      let p = half_parts log n c a first in
      let q = half_parts log n d b second in
      (connections_are_one configs script log lawful).over n c d p.connection q.connection p.made q.made
      (sym (ap (λ (h : Half). h.link) p.is) ∙ (links ∙ ap (λ (h : Half). h.link) q.is))

  -- the connection by which the copy came, which stepped
  stepped : (s n e conn : ℕ) (half mine : Half) → half_at (take s log) n e ≡ Some half → is_ended (take s log) n e ≡ false → half_at log n conn ≡ Some mine → half.link ≡ mine.link → IsOpenAt log n conn s
  stepped s n e conn half mine at lives there links =
      let same = same_connection n e conn half mine (half_in_log s n e half at) there links in
      let parts = half_parts (take s log) n e half at in
      let early = connection_before (take s log) n e parts.connection parts.made in
      let short = take_short s log in
      record { early = omega (arith, early, short, same); lives = ap (is_ended (take s log) n) (sym same) ∙ lives }

  module _ (n conn : ℕ) (copy : ℕ × ℕ) (mine : Half) (there : half_at log n conn ≡ Some mine) (over : WentOver log copy mine.link (other_side mine.writes)) where
    -- what went over a link with the copy went over that of the connection
    its_link : (link : ℕ) (side : Side) → WentOver log copy link side → link ≡ mine.link
    its_link link side other = (one_way configs script log lawful copy link side other mine.link (other_side mine.writes) over).0

    module _ (s c : ℕ) (bytes : List ℕ) (from : Key) where
      abbrev before : List Entry
      before = take s log

      abbrev message : Item
      message = item.Message bytes copy from

      same_copy : (a b : ℕ × ℕ) (x y : List ℕ) (k l : Key) → item.Message x a k ≡ item.Message y b l → b ≡ a
      same_copy a b x y k l is = cc

      module _ (e : ℕ) (half : Half) (at : half_at before n e ≡ Some half) (lives : is_ended before n e ≡ false) (y : Envelope) (put : IsPut before y) (tells : StandTells configs before y)
          (read : reads configs before (act.RecvStep e n) y.queue ≡ true) where
        by_received : IsReceived before y n c message → IsOpenAt log n conn s
        by_received h =
            let came : CameInFrame before y n h.conn h.half c h.bytes h.copy = h.came in
            let same : h.copy ≡ copy = same_copy copy h.copy bytes h.bytes from h.half.peer h.put in
            let side : Side = other_side h.half.writes in
            let went : WentOver before copy h.half.link side = record {
              n = y.entry;
              entry = put.entry;
              at = put.at;
              place = y.place;
              frame = came.frame;
              put = put.put ∙ (ap (λ (q : Queue). Some (q, y.item)) came.stood ∙ ap (λ (i : Item). Some (queue.Link h.half.link side, i)) (came.is ∙ ap (λ o. item.Frame (Some o) came.frame) same));
            } in
            let mine_link : h.half.link ≡ mine.link = its_link h.half.link side (over_in_log s copy h.half.link side went) in
            let reads_it : h.half.link ≡ half.link = reads_link (half_at before n e) half h.half.link side at (subst (λ q. reads configs before (act.RecvStep e n) q ≡ true) came.stood read) in
            stepped s n e conn half mine at lives there (sym reads_it ∙ mine_link)

        by_retried : IsRetried before y n c message → IsOpenAt log n conn s
        by_retried h =
            let same : h.copy ≡ copy = same_copy copy h.copy bytes h.bytes from h.half.peer h.put in
            let held : IsHeld configs before n h.conn c h.bytes h.copy = subst (Tells configs before (item.Held c h.bytes h.copy)) h.stood (subst (λ j. Tells configs before j y.queue) h.is tells) in
            let side : Side = other_side held.half.writes in
            let went : WentOver before copy held.half.link side = subst (λ o. WentOver before o held.half.link side) same held.over in
            let here : h.conn ≡ e = reads_held n e h.conn (half_at before n e) (subst (λ q. reads configs before (act.RecvStep e n) q ≡ true) h.stood read) in
            stepped s n e conn held.half mine (subst (λ k. half_at before n k ≡ Some held.half) here held.at) lives there (its_link held.half.link side (over_in_log s copy held.half.link side went))

      -- where the copy's message was put for a reader
      pub put_open : (p : ℕ) (d : Entry) → slice_get log s ≡ Some d → slice_get d.puts p ≡ Some (queue.Channel n c, message) → IsOpenAt log n conn s
      unfolding effect
      put_open p d at put =
          let due = entry_due configs script log lawful s d at in
          let ev : Event = due.0 in
          let r : Row = row configs before ev.at ev.seed ev.act in
          let shape : Shape configs before ev.act r = row_shape configs before ev.at ev.seed ev.act in
          let standing = (Told-each configs script log lawful s).standing in
          let x : Queue × Item = (queue.Channel n c, message) in
          let has : Has r.puts x = subst (λ (k : Entry). Has k.puts x) due.1 (Has-get d.puts p x put) in
          let put_there : writes configs before ev.act (queue.Channel n c) ≡ true = Each-has (λ (y : Queue × Item). writes configs before ev.act y.0 ≡ true) r.puts x shape.reach.puts has in
          let stood = taken_stood before ev r shape.moves in
          by ev r has put_there shape.moves.taken shape.reach.taken (Each-taken (IsPut before) (live before) shape.moves.taken (each_put before) stood)
          (Each-taken (StandTells configs before) (live before) shape.moves.taken standing.tells stood) refl
          (Each-has (Origin configs before ev.act r.reply shape.moves.taken) r.puts x
          (Moved-origins configs before ev.act r.reply shape.moves.taken r.puts (shape.laws standing.fitting).moved) has)
        where
          none_put : (r : Row) → r ≡ only reply.Gone → Has r.puts (queue.Channel n c, message) → ⊥
          none_put r gone has = subst (λ (k : Row). Has k.puts (queue.Channel n c, message)) gone has

          came : (ev : Event) (y : Envelope) → Has (row configs before ev.at ev.seed ev.act).puts (queue.Channel n c, message) → writes configs before ev.act (queue.Channel n c) ≡ true
              → reads configs before ev.act y.queue ≡ true → IsPut before y → StandTells configs before y → IsReceived before y n c message ⊎ IsRetried before y n c message → IsOpenAt log n conn s
          came ev y has put_there read put tells of =
              let step = reader_steps configs before n c y.queue ev.act put_there read in
              let reads_it : reads configs before (act.RecvStep step.0 n) y.queue ≡ true = subst (λ a. reads configs before a y.queue ≡ true) step.1 read in
              elim (steps_live configs before ev n step.0 false step.1) [
                | inl gone ↦ absurd (none_put (row configs before ev.at ev.seed ev.act) gone has)
                | inr live ↦
                    let l = is_live before n step.0 live.0 live.1 in
                    elim of [
                      | inl received ↦ by_received step.0 live.0 l.at l.lives y put tells reads_it received
                      | inr retried ↦ by_retried step.0 live.0 l.at l.lives y put tells reads_it retried
                    ]
              ]

          by : (ev : Event) (r : Row) → Has r.puts (queue.Channel n c, message) → writes configs before ev.act (queue.Channel n c) ≡ true → (taken : List Envelope) → Each (λ y. reads configs before ev.act y.queue ≡ true) taken
              → Each (IsPut before) taken → Each (StandTells configs before) taken → r ≡ row configs before ev.at ev.seed ev.act → Origin configs before ev.act r.reply taken (queue.Channel n c, message) → IsOpenAt log n conn s
          by ev r has put_there taken read put tells is (inl (inl idle)) = absurd (false≢true idle)
          by ev r has put_there taken read put tells is (inl (inr of)) = absurd of
          by ev r has put_there taken read put tells is (inr (y, there, inl idle)) = absurd (false≢true idle)
          by ev r has put_there taken read put tells is (inr (y, there, inr of)) =
              came ev y (subst (λ (k : Row). Has k.puts (queue.Channel n c, message)) is has) put_there (Each-has (λ (z : Envelope). reads configs before ev.act z.queue ≡ true) taken y read there)
              (Each-has (IsPut before) taken y put there) (Each-has (StandTells configs before) taken y tells there) of
