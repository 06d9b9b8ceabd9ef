-- What an entry tells the trackers of connections that begin: of each that it begins it tells once, and of no other.
use Rattle.std.proofs.Common.{◌≡◌, ℕ, ◌+◌, ◌≤◌, Bool, true, false, cond, List, [], ◌∷◌, map, Option, Some, None, inl, inr, refl, ap, sym, subst, ◌∙◌, arith, eq-eqb}
use Rattle.std.specs.Prelude.{◌==◌, ◌&&◌, ◌||◌, nat_lt, count_by}
use Rattle.std.specs.List.{AllByRecursion as Each}
use Rattle.std.proofs.lemmas.List.Sums.{sum_by-cons}
use Rattle.p2p_log_rules.proofs.Bools.{and_false}
use Rattle.p2p_base.specs.declared.key.Key.{Key}
use Rattle.p2p_log.specs.declared.config.Config.{Config}
use Rattle.p2p_log.specs.declared.queue.Queue.{Queue}
use Rattle.p2p_log.specs.declared.queue.Queue.TheVariants as queue
use Rattle.p2p_log.specs.declared.item.Item.{Item}
use Rattle.p2p_log.specs.declared.item.Item.TheVariants as item
use Rattle.p2p_log.specs.declared.item.Envelope.{Envelope}
use Rattle.p2p_log.specs.declared.end.Cause.{Cause}
use Rattle.p2p_log.specs.declared.end.Cause.TheVariants as cause
use Rattle.p2p_log.specs.declared.entry.Ended.{Ended}
use Rattle.p2p_log.specs.declared.entry.Ended.TheVariants as ended
use Rattle.p2p_log.specs.declared.entry.Entry.{Entry}
use Rattle.p2p_log.specs.declared.entry.Reply.{Reply}
use Rattle.p2p_log.specs.declared.entry.Reply.TheVariants as reply
use Rattle.p2p_log.specs.declared.event.Act.{Act}
use Rattle.p2p_log.specs.declared.event.Act.TheVariants as act
use Rattle.p2p_log.specs.Lines.{live, line}
use Rattle.p2p_log.proofs.Each.{Each-weaker, count_by-none}
use Rattle.p2p_log_rules.specs.declared.row.Half.{Half}
use Rattle.p2p_log_rules.specs.declared.row.Row.{Row}
use Rattle.p2p_log_rules.proofs.Connections.{steps_sender, sender_is}
use Rattle.p2p_log_rules.specs.Connections.{live_half, is_done, is_begun, is_running}
use Rattle.p2p_log_rules.specs.Effect.{row, only, takes_oldest, write_row, batch_size_at, beside_ping, batch, written_row, told_to_end_row, running_row, begin_row, half_row, sender_row, send_step_row}
use Rattle.p2p_log_rules.specs.Cutting.{is_broken}
use Rattle.p2p_log_rules.specs.Dropping.{other_side}
use Rattle.p2p_log_rules.specs.Ending.{end_row}
use Rattle.p2p_log_rules.specs.Pings.{ping_frame, ping_is_due}
use Rattle.p2p_log_rules.specs.Facts.{is_up}
use Rattle.p2p_log_laws.specs.Grants.{one}
use Rattle.p2p_log_laws.proofs.Fitting.{StandsFit, is_idle}
use Rattle.p2p_log_laws.proofs.Shape.{Shape, Origin, OfAct, OfItem, Moved-origins}
use Rattle.p2p_log_laws.proofs.Shapes.{row_shape}

abbrev pub at_tracker : ℕ → Queue → Bool
at_tracker n (queue.Tracker m) = m == n
at_tracker n _ = false

abbrev pub is_connect : ℕ → Item → Bool
is_connect conn (item.Connect e key) = e == conn
is_connect conn _ = false

-- whether what is put tells the node's tracker that this connection begins
abbrev pub tells_begun : ℕ → ℕ → Queue × Item → Bool
tells_begun n conn x = at_tracker n x.0 && is_connect conn x.1

module _ (n conn : ℕ) (log : List Entry) where
  -- what tells of the connection comes with its beginning, and the first time alone
  abbrev pub BeginsOnce : Act → Row → Type 0
  BeginsOnce a r = one (is_begun log n conn) + count_by (tells_begun n conn) r.puts ≤ one (is_begun log n conn || (steps_sender n conn a && is_done r.reply))

  silent_begins : (a : Act) (r : Row) → count_by (tells_begun n conn) r.puts ≡ 0 → BeginsOnce a r
  silent_begins a r none = by (is_begun log n conn) (steps_sender n conn a && is_done r.reply) (count_by (tells_begun n conn) r.puts) none
    where
      by : (before now : Bool) (k : ℕ) → k ≡ 0 → one before + k ≤ one (before || now)
      by true now k none = omega (arith, none)
      by false true k none = omega (arith, none)
      by false false k none = omega (arith, none)

  -- ---- acts other than a step of its sending half

  module _ (configs : List Config) (a : Act) (r : Reply) (other : steps_sender n conn a ≡ false) where
    own_silent : (q : Queue) (i : Item) → OfAct configs log a r q i → tells_begun n conn (q, i) ≡ false
    own_silent (queue.Tracker m) i h = ap (λ j. (m == n) && is_connect conn j) h.3 ∙ (ap (steps_sender n conn) (sym h.4) ∙ other)
    own_silent _ i h = refl

    idle_silent : (i : Item) → is_idle i ≡ true → is_connect conn i ≡ false
    idle_silent (item.Connect e key) h = absurd (cc)
    idle_silent _ h = refl

    item_silent : (y : Envelope) (q : Queue) (i : Item) → OfItem configs log y q i → tells_begun n conn (q, i) ≡ false
    item_silent y (queue.Tracker m) i h = absurd h
    item_silent y _ i h = refl

    origin_silent : (taken : List Envelope) (x : Queue × Item) → Origin configs log a r taken x → tells_begun n conn x ≡ false
    origin_silent taken x o = elim o [
      | inl own ↦ elim own [
        | inl idle ↦ ap (λ b. at_tracker n x.0 && b) (idle_silent x.1 idle) ∙ and_false (at_tracker n x.0)
        | inr h ↦ own_silent x.0 x.1 h
      ]
      | inr item ↦ elim item.2 [
        | inl idle ↦ ap (λ b. at_tracker n x.0 && b) (idle_silent x.1 idle) ∙ and_false (at_tracker n x.0)
        | inr h ↦ item_silent item.0 x.0 x.1 h
      ]
    ]

  other_begins : (configs : List Config) (a : Act) (r : Row) (shape : Shape configs log a r) → Each StandsFit (live log) → steps_sender n conn a ≡ false → BeginsOnce a r
  other_begins configs a r shape fitting other =
      silent_begins a r
      (count_by-none (tells_begun n conn) r.puts
      (Each-weaker (Origin configs log a r.reply shape.moves.taken) (λ x. tells_begun n conn x ≡ false) (origin_silent configs a r.reply other shape.moves.taken) r.puts
      (Moved-origins configs log a r.reply shape.moves.taken r.puts (shape.laws fitting).moved)))

  -- ---- a step of its sending half

  written_silent : (a : Act) (link : Queue) (due : Bool) (ys : List Envelope) → at_tracker n link ≡ false → BeginsOnce a (write_row link due ys)
  written_silent a link due ys away = by due ys
    where
      silent : (i : Item) → tells_begun n conn (link, i) ≡ false
      silent i = ap (λ b. b && is_connect conn i) away

      each : (zs : List Envelope) → Each (λ x. tells_begun n conn x ≡ false) (map (λ (z : Envelope). (link, z.item)) zs)
      each [] = tt
      each (z ∷ zs) = (silent z.item, each zs)

      by : (d : Bool) (zs : List Envelope) → BeginsOnce a (write_row link d zs)
      by false [] = silent_begins a (write_row link false []) refl
      by false (z ∷ zs) = silent_begins a (write_row link false (z ∷ zs)) (count_by-none (tells_begun n conn) (write_row link false (z ∷ zs)).puts (each (z ∷ zs)))
      by true zs = silent_begins a (write_row link true zs) (count_by-none (tells_begun n conn) (write_row link true zs).puts (silent (item.Frame None ping_frame), each zs))

  oldest_begins : (a : Act) (xs : List Envelope) → BeginsOnce a (takes_oldest xs)
  oldest_begins a [] = silent_begins a (takes_oldest []) refl
  oldest_begins a (x ∷ xs) = silent_begins a (takes_oldest (x ∷ xs)) refl

  -- it tells its own tracker, and its router
  begin_begins : (key : Key) → is_begun log n conn ≡ false → (n == n) ≡ true → (conn == conn) ≡ true → BeginsOnce (act.SendStep conn n) (begin_row n conn key)
  begin_begins key none self same =
      let tracker : Queue × Item = (queue.Tracker n, item.Connect conn key) in
      let router : Queue × Item = (queue.Router n, item.Ready conn key) in
      let first : count_by (tells_begun n conn) (tracker ∷ router ∷ []) ≡ one ((n == n) && (conn == conn)) + count_by (tells_begun n conn) (router ∷ []) = sum_by-cons (λ x. one (tells_begun n conn x)) tracker (router ∷ []) in
      let second : count_by (tells_begun n conn) (router ∷ []) ≡ 0 = count_by-none (tells_begun n conn) (router ∷ []) (refl, tt) in
      counted (is_begun log n conn) ((n == n) && (conn == conn)) (count_by (tells_begun n conn) (tracker ∷ router ∷ [])) (count_by (tells_begun n conn) (router ∷ [])) none first second
    where
      counted : (before now : Bool) (all rest : ℕ) → before ≡ false → all ≡ one now + rest → rest ≡ 0 → one before + all ≤ one (before || (now && true))
      counted true now all rest none sum zero = absurd (cc)
      counted false true all rest none sum zero = omega (arith, sum, zero)
      counted false false all rest none sum zero = omega (arith, sum, zero)

  -- its end tells of no beginning
  last_begins : (a : Act) (half : Half) (why : Ended) (c : Cause) (taken : List Envelope) → BeginsOnce a (end_row log n conn half why c taken)
  last_begins a half why c taken =
      silent_begins a (end_row log n conn half why c taken) (count_by-none (tells_begun n conn) (end_row log n conn half why c taken).puts (refl, (and_false (n == n), tt)))

  goes_on : (a : Act) (half : Half) (broken due : Bool) (ys : List Envelope) → BeginsOnce a (written_row log n conn half broken due ys)
  goes_on a half true false [] = silent_begins a (only reply.Idle) refl
  goes_on a half false false [] = silent_begins a (only reply.Idle) refl
  goes_on a half true false (y ∷ ys) = last_begins a half ended.SendFailed cause.ConnectionEnded (y ∷ ys)
  goes_on a half true true ys = last_begins a half ended.SendFailed cause.ConnectionEnded ys
  goes_on a half false false (y ∷ ys) = written_silent a (queue.Link half.link half.writes) false (y ∷ ys) refl
  goes_on a half false true ys = written_silent a (queue.Link half.link half.writes) true ys refl

  told_begins : (a : Act) (half : Half) (xs : List Envelope) (room : Bool) (r : Row) → BeginsOnce a r → BeginsOnce a (told_to_end_row log n conn half xs room r)
  told_begins a half [] room r h = h
  told_begins a half (x ∷ xs) true r h = last_begins a half ended.Killed cause.ConnectionEnded (x ∷ [])
  told_begins a half (x ∷ xs) false r h = h

  running_begins : (configs : List Config) (half : Half) (due : Bool) → BeginsOnce (act.SendStep conn n) (running_row configs log n conn half due)
  running_begins configs half due =
      let most : ℕ = beside_ping due (batch_size_at configs n) in
      let broken : Bool = is_broken log half.link (other_side half.writes) in
      told_begins (act.SendStep conn n) half (line log (queue.Control n conn)) (nat_lt 0 most) (written_row log n conn half broken due (batch log n conn most))
      (goes_on (act.SendStep conn n) half broken due (batch log n conn most))

  half_begins : (configs : List Config) (at : ℕ) (half : Half) (begun running : Bool) → is_begun log n conn ≡ begun → (n == n) ≡ true → (conn == conn) ≡ true
      → BeginsOnce (act.SendStep conn n) (half_row configs log n conn at half begun running)
  half_begins configs at half false running is self same = begin_begins half.peer is self same
  half_begins configs at half true false is self same = oldest_begins (act.SendStep conn n) (line log (queue.RouterAnswer n conn))
  half_begins configs at half true true is self same = running_begins configs half (ping_is_due configs log n conn at)

  sender_begins : (configs : List Config) (at : ℕ) (o : Option Half) → (n == n) ≡ true → (conn == conn) ≡ true → BeginsOnce (act.SendStep conn n) (sender_row configs log n conn at o)
  sender_begins configs at None self same = silent_begins (act.SendStep conn n) (only reply.Gone) refl
  sender_begins configs at (Some half) self same = half_begins configs at half (is_begun log n conn) (is_running log n conn) refl self same

  send_begins : (configs : List Config) (at : ℕ) → (n == n) ≡ true → (conn == conn) ≡ true → BeginsOnce (act.SendStep conn n) (send_step_row configs log conn n at)
  send_begins configs at self same = by_up (is_up log n)
    where
      by_up : (b : Bool) → BeginsOnce (act.SendStep conn n) (cond b (sender_row configs log n conn at (live_half log n conn)) (only reply.Gone))
      by_up true = sender_begins configs at (live_half log n conn) self same
      by_up false = silent_begins (act.SendStep conn n) (only reply.Gone) refl

  -- ---- each act

  pub each_begins : (configs : List Config) (at seed : ℕ) (a : Act) → Each StandsFit (live log) → BeginsOnce a (row configs log at seed a)
  unfolding row
  each_begins configs at seed a fitting = by (steps_sender n conn a) refl
    where
      by : (b : Bool) → steps_sender n conn a ≡ b → BeginsOnce a (row configs log at seed a)
      by true steps = subst (λ k. BeginsOnce k (row configs log at seed k)) (sym (sender_is n conn a steps)) (send_begins configs at (eq-eqb n n refl) (eq-eqb conn conn refl))
      by false other = other_begins configs a (row configs log at seed a) (row_shape configs log at seed a) fitting other
