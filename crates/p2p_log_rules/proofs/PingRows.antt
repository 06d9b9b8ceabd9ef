-- By its row, a step of a sending half that is done puts a ping exactly where one is due.
use Rattle.std.proofs.Common.{◌≡◌, ℕ, zero, suc, Bool, true, false, cond, List, [], ◌∷◌, ◌++◌, take, length, arith, refl, ap, sym, subst, ◌∙◌, eqb-true, Option, Some, None}
use Rattle.std.specs.Prelude.{◌==◌, ◌&&◌, map, flat_map, nat_le, nat_lt}
use Rattle.std.proofs.lemmas.Bool.{false≢true}
use Rattle.std.proofs.lemmas.Bool.Decides.{nat_tests}
use Rattle.p2p_log.specs.declared.config.Config.{Config}
use Rattle.p2p_log.specs.declared.queue.Queue.{Queue}
use Rattle.p2p_log.specs.declared.queue.Queue.TheVariants as queue
use Rattle.p2p_log.specs.declared.item.Item.{Item}
use Rattle.p2p_log.specs.declared.item.Item.TheVariants as item
use Rattle.p2p_log.specs.declared.item.Envelope.{Envelope}
use Rattle.p2p_log.specs.declared.entry.Entry.{Entry}
use Rattle.p2p_log.specs.declared.event.Event.{Event}
use Rattle.p2p_log.specs.declared.event.Act.{Act}
use Rattle.p2p_log.specs.declared.event.Act.TheVariants as act
use Rattle.p2p_log.specs.Lines.{name_of, line}
use Rattle.p2p_log_rules.specs.declared.row.Half.{Half}
use Rattle.p2p_log_rules.specs.declared.row.Row.{Row}
use Rattle.p2p_log_rules.specs.Connections.{is_done, is_begun, has_run, is_running, live_half}
use Rattle.p2p_log_rules.specs.Cutting.{is_broken}
use Rattle.p2p_log_rules.specs.Dropping.{other_side}
use Rattle.p2p_log.specs.declared.entry.Reply.TheVariants as reply
use Rattle.p2p_log_rules.specs.Effect.{only, takes_oldest, write_row, batch_size_at, beside_ping, batch, written_row, told_to_end_row, running_row, half_row, sender_row, send_step_row, row, effect}
use Rattle.p2p_log_rules.specs.Facts.{is_up, item_named, taken}
use Rattle.p2p_log_rules.specs.HalfSteps.{puts_ping}
use Rattle.p2p_log_rules.specs.Pings.{ping_is_due}
use Rattle.p2p_log_rules.proofs.Connections.{steps_sender, begins_is, running_of}
use Rattle.p2p_log_rules.proofs.Pinging.{PingsWhenDue}
use Rattle.p2p_log_rules.proofs.Recorded.{AreRecorded, AreRecorded-append, AreRecorded-line, flat_map_item_named}

AreRecorded-take : (log : List Entry) (n : ℕ) (xs : List Envelope) → AreRecorded log xs → AreRecorded log (take n xs)
AreRecorded-take log zero xs h = tt
AreRecorded-take log (suc n) [] h = tt
AreRecorded-take log (suc n) (x ∷ xs) h = (h.0, AreRecorded-take log n xs h.1)

length-map : {X Y : Type 0} (f : X → Y) (xs : List X) → length (map f xs) ≡ length xs
length-map f [] = refl
length-map f (x ∷ xs) = ap suc (length-map f xs)

-- what is put before as many as were taken
at_most : (a b : ℕ) → a ≡ b → nat_le a b ≡ true
at_most a b h = grind (arith, nat_tests)

too_many : (a b : ℕ) → a ≡ b → nat_le (suc a) b ≡ false
too_many a b h = grind (arith, nat_tests)

-- what was taken first is no ping of the step
no_ping : (q : Queue) (i : Item) (items : List Item) (puts : List (Queue × Item)) → nat_le (length items) (length puts) ≡ false → puts_ping items ((q, i) ∷ puts) ≡ false
no_ping q (item.Frame None frame) items puts h = h
no_ping q _ items puts h = refl

-- a row with which a step that is done puts a ping where one is due
abbrev Pings : List Entry → Bool → Row → Type 0
Pings log due r = is_done r.reply ≡ true → puts_ping (flat_map (item_named log) r.takes) r.puts ≡ due

abbrev put_item : Queue → Envelope → Queue × Item
put_item q y = (q, y.item)

write_pings : (log : List Entry) (q : Queue) (due : Bool) (xs : List Envelope) → AreRecorded log xs → Pings log due (write_row q due xs)
write_pings log q false [] h done = cc
write_pings log q true xs h done =
    ap (λ items. nat_le (length items) (length (map (put_item q) xs))) (flat_map_item_named log xs h)
    ∙ at_most (length (map (λ (y : Envelope). y.item) xs)) (length (map (put_item q) xs)) (length-map (λ (y : Envelope). y.item) xs ∙ sym (length-map (put_item q) xs))
write_pings log q false (x ∷ xs) h done =
    no_ping q x.item (flat_map (item_named log) (map name_of (x ∷ xs))) (map (put_item q) xs)
    (ap (λ items. nat_le (length items) (length (map (put_item q) xs))) (flat_map_item_named log (x ∷ xs) h)
    ∙ too_many (length (map (λ (y : Envelope). y.item) xs)) (length (map (put_item q) xs)) (length-map (λ (y : Envelope). y.item) xs ∙ sym (length-map (put_item q) xs)))

module _ (configs : List Config) (log : List Entry) (n conn at : ℕ) where
  written_pings : (half : Half) (broken due : Bool) (xs : List Envelope) → AreRecorded log xs → Pings log due (written_row log n conn half broken due xs)
  written_pings half broken false [] h done = cc
  written_pings half true false (x ∷ xs) h done = cc
  written_pings half true true xs h done = cc
  written_pings half false false (x ∷ xs) h done = write_pings log (queue.Link half.link half.writes) false (x ∷ xs) h done
  written_pings half false true xs h done = write_pings log (queue.Link half.link half.writes) true xs h done

  told_pings : (half : Half) (xs : List Envelope) (room due : Bool) (r : Row) → Pings log due r → Pings log due (told_to_end_row log n conn half xs room r)
  told_pings half [] room due r h done = h done
  told_pings half (x ∷ xs) true due r h done = cc
  told_pings half (x ∷ xs) false due r h done = h done

  oldest_pings : (xs : List Envelope) → Pings log false (takes_oldest xs)
  oldest_pings [] done = cc
  oldest_pings (x ∷ xs) done = refl

  batch_recorded : (most : ℕ) → AreRecorded log (batch log n conn most)
  batch_recorded most =
      AreRecorded-take log most (line log (queue.High n conn) ++ line log (queue.Low n conn))
      (AreRecorded-append log (line log (queue.High n conn)) (line log (queue.Low n conn)) (AreRecorded-line log (queue.High n conn)) (AreRecorded-line log (queue.Low n conn)))

  running_pings : (half : Half) (due : Bool) → Pings log due (running_row configs log n conn half due)
  running_pings half due =
      let most : ℕ = beside_ping due (batch_size_at configs n) in
      let broken : Bool = is_broken log half.link (other_side half.writes) in
      told_pings half (line log (queue.Control n conn)) (nat_lt 0 most) due (written_row log n conn half broken due (batch log n conn most))
      (written_pings half broken due (batch log n conn most) (batch_recorded most))

  -- a ping is due of one that has begun and runs alone
  abbrev pub RunsWhenDue : Type 0
  RunsWhenDue = ping_is_due configs log n conn at ≡ true → (is_begun log n conn ≡ true) × (has_run log n conn ≡ true)

  sender_pings : RunsWhenDue → (o : Option Half) → live_half log n conn ≡ o → Pings log (ping_is_due configs log n conn at) (sender_row configs log n conn at o)
  sender_pings runs None lived done = cc
  sender_pings runs (Some half) lived done = by (is_begun log n conn) (is_running log n conn) refl refl done
    where
      never : (due : Bool) → ping_is_due configs log n conn at ≡ due → (due ≡ true → ⊥) → due ≡ false
      never true is h = absurd (h refl)
      never false is h = refl

      by : (begun running : Bool) → is_begun log n conn ≡ begun → is_running log n conn ≡ running → Pings log (ping_is_due configs log n conn at) (half_row configs log n conn at half begun running)
      by false running is_begun_now is_running_now done =
          sym (never (ping_is_due configs log n conn at) refl (λ due. let b = (runs due).0 in false≢true (sym is_begun_now ∙ b)))
      by true false is_begun_now is_running_now done =
          oldest_pings (line log (queue.RouterAnswer n conn)) done
          ∙ sym (never (ping_is_due configs log n conn at) refl (λ due. let b = (runs due).1 in false≢true (sym is_running_now ∙ (running_of log n conn half lived ∙ b))))
      by true true is_begun_now is_running_now done = running_pings half (ping_is_due configs log n conn at) done

  step_pings : RunsWhenDue → Pings log (ping_is_due configs log n conn at) (send_step_row configs log conn n at)
  step_pings runs = by (is_up log n)
    where
      by : (up : Bool) → Pings log (ping_is_due configs log n conn at) (cond up (sender_row configs log n conn at (live_half log n conn)) (only reply.Gone))
      by true done = sender_pings runs (live_half log n conn) refl done
      by false done = cc

pub pings_when_due : (configs : List Config) (log : List Entry) (ev : Event) (n conn : ℕ) → RunsWhenDue configs log n conn ev.at → PingsWhenDue configs log (effect configs log ev) n conn
unfolding effect row taken
pings_when_due configs log ev n conn runs begin = by ev.act (sym (begins_is log (effect configs log ev) n conn) ∙ begin)
  where
    by : (a : Act) → (steps_sender n conn a && is_done (row configs log ev.at ev.seed a).reply) ≡ true
        → puts_ping (flat_map (item_named log) (row configs log ev.at ev.seed a).takes) (row configs log ev.at ev.seed a).puts ≡ ping_is_due configs log n conn ev.at
    by (act.SendStep c m) done = here (m == n) (c == conn) refl refl done
      where
        here : (b d : Bool) → (m == n) ≡ b → (c == conn) ≡ d → ((b && d) && is_done (send_step_row configs log c m ev.at).reply) ≡ true
            → puts_ping (flat_map (item_named log) (send_step_row configs log c m ev.at).takes) (send_step_row configs log c m ev.at).puts ≡ ping_is_due configs log n conn ev.at
        here true true node name done =
            let same_node : m ≡ n = eqb-true m n node in
            let same_name : c ≡ conn = eqb-true c conn name in
            subst (λ i. Pings log (ping_is_due configs log n conn ev.at) (send_step_row configs log i m ev.at)) (sym same_name)
            (subst (λ i. Pings log (ping_is_due configs log n conn ev.at) (send_step_row configs log conn i ev.at)) (sym same_node) (step_pings configs log n conn ev.at runs)) done
        here true false node name done = cc
        here false d node name done = cc
    by _ done = cc
