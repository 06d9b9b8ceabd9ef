-- While word that a connection begins waits for its node's tracker, the key of the connection is held, and no connection with it was accepted
-- since it was granted.
use Rattle.std.proofs.Common.{◌≡◌, ℕ, zero, suc, ◌+◌, ◌<◌, ◌≤◌, Bool, true, false, cond, List, [], ◌∷◌, ◌++◌, length, Option, Some, None, ◌⊎◌, inl, inr, refl, ap, sym, subst, ◌∙◌, arith}
use Rattle.std.specs.Prelude.{◌==◌, ◌&&◌, ◌||◌, not, filter, slice_get}
use Rattle.std.specs.List.{AllByRecursion as Each, list_any}
use Rattle.std.proofs.lemmas.Bool.{false≢true}
use Rattle.std.proofs.lemmas.Option.{same_Some}
use Rattle.p2p_log_rules.proofs.Bools.{and_false}
use Rattle.p2p_base.specs.declared.key.Key.{Key}
use Rattle.p2p_log.specs.declared.config.Config.{Config}
use Rattle.p2p_log.specs.declared.queue.Queue.{Queue}
use Rattle.p2p_log.specs.declared.queue.Queue.TheVariants as queue
use Rattle.p2p_log.specs.declared.item.Item.{Item}
use Rattle.p2p_log.specs.declared.item.Item.TheVariants as item
use Rattle.p2p_log.specs.declared.item.Envelope.{Envelope}
use Rattle.p2p_log.specs.declared.entry.Entry.{Entry}
use Rattle.p2p_log.specs.declared.event.Act.TheVariants as act
use Rattle.p2p_log.specs.declared.event.Event.{Event}
use Rattle.p2p_log.specs.QueueCode.{same_queue}
use Rattle.p2p_log.specs.Lines.{name_of, same_name, placed, goes, stays, stands_in, live, line}
use Rattle.p2p_log.proofs.Each.{Has, Has-either, Has-of_kept, Each-has}
use Rattle.p2p_log.proofs.Lines.{live-append}
use Rattle.p2p_log_rules.specs.declared.row.Row.{Row}
use Rattle.p2p_log_rules.specs.Connections.{is_end, begins_connection, ends_connection, is_begun, is_ended, live_connection}
use Rattle.p2p_log_rules.specs.Connections.{tells_some}
use Rattle.p2p_log_rules.specs.Effect.{effect, entry_of, begin_row, row, send_step_row}
use Rattle.p2p_log_rules.specs.Facts.{stops_node, is_stopped as has_stopped}
use Rattle.p2p_log_rules.proofs.Channels.{is_stopped-before, is_stopped-append}
use Rattle.p2p_log_rules.proofs.Tellings.{or_right}
use Rattle.p2p_log_rules.specs.Lawful.{IsLawful}
use Rattle.p2p_log_rules.specs.Spawning.{Spawned, connections_of}
use Rattle.p2p_log_rules.proofs.Connections.{ends_half, is_begun-append, is_ended-kept, is_live}
use Rattle.p2p_log_rules.proofs.Moves.{one_taken}
use Rattle.p2p_log_rules.proofs.Spawning.{connections_of-longer}
use Rattle.p2p_log_laws.specs.Grants.{one, Granting, is_held, is_stopped}
use Rattle.p2p_log_laws.specs.NodeGrants.{put_of, puts_release, granting}
use Rattle.p2p_log_laws.proofs.EndOlder.{open_parts, is_open, open_once, open_is_held}
use Rattle.p2p_log_laws.proofs.HalfSteps.{IsFirst, tells_any, send_begins}
use Rattle.p2p_log_laws.proofs.Leaving.{stand_in_order, taken_goes, passes}
use Rattle.p2p_log_laws.proofs.NodeGrants.{each_node_turn, held_by_calls}
use Rattle.p2p_log_laws.proofs.Prefixes.{lawful_at_end}
use Rattle.p2p_log_laws.proofs.Shape.{Origin, Moved-origins}
use Rattle.p2p_log_laws.proofs.Turns.{one_holder}
use Rattle.p2p_log_laws.proofs.Words as words
use Rattle.p2p_log_laws.proofs.Words.{count_has, get_has, placed_has, waits, is_linked, holds, IsWord, IsCurrent, Reserved, reserved_first}
use Rattle.p2p_log_rules.proofs.Steps.{steps_tracker}

-- a connection that is known is one that has not ended
record IsLive (n : ℕ) (log : List Entry) (conn : ℕ) (key : Key) : Type 0 where
  made : Spawned
  lives : live_connection log n conn ≡ Some made
  of : made.key ≡ key

live_of : (n : ℕ) (log : List Entry) (conn : ℕ) (key : Key) (made : Spawned) → connections_of log n conn ≡ Some made → made.key ≡ key → is_ended log n conn ≡ false → IsLive n log conn key
live_of n log conn key made there of lives = record { made = made; lives = is_open log n conn made lives there; of = of }

module _ (configs : List Config) (n : ℕ) (script : List Event) (before : List Entry) (ev : Event) (lawful : IsLawful configs script before) (old : Reserved configs n before)
    (lasts : tells_some (stops_node n) before (entry_of ev (row configs before ev.at ev.seed ev.act)) ≡ false) where
  abbrev r : Row
  r = row configs before ev.at ev.seed ev.act

  abbrev e : Entry
  e = words.e configs n script before ev lawful old lasts

  abbrev log : List Entry
  log = before ++ e ∷ []

  -- ---- what stands after it stood before and stays, or is put

  record IsNew (x : Envelope) : Type 0 where
    entry : x.entry ≡ length before
    place : ℕ
    at : x.place ≡ place
    put : slice_get r.puts place ≡ Some (put_of x)

  split : (x : Envelope) → Has (live log) x → (Has (live before) x × (stays (goes e) x ≡ true)) ⊎ IsNew x
  split x has = elim (Has-either (filter (stays (goes e)) (live before)) (placed (length before) 0 r.puts) x (subst (λ l. Has l x) (live-append before e) has)) [
    | inl was ↦ inl (Has-of_kept (stays (goes e)) (live before) x was, passes (stays (goes e)) (live before) x was)
    | inr put ↦ let p = placed_has (length before) 0 r.puts x put in inr (record { entry = p.0; place = p.1.0; at = zero_more p.1.0 x.place p.1.1; put = p.1.2 })
  ]
    where
      zero_more : (a b : ℕ) → b ≡ 0 + a → b ≡ a
      zero_more a b is = omega (arith, is)

  was_word : (x : Envelope) (conn : ℕ) (key : Key) → IsWord configs n log x conn key → Has (live before) x → IsWord configs n before x conn key
  was_word x conn key w has = record { has = has; there = w.there; is = w.is }

  -- ---- a beginning

  record Begins (x : Envelope) (conn : ℕ) (key : Key) : Type 0 where
    acts : ev.act ≡ act.SendStep conn n
    fresh : is_begun before n conn ≡ false
    live : IsLive n before conn key
    row_is : r ≡ begin_row n conn key
    place : x.place ≡ 0

  first_place : (peer key : Key) (conn i : ℕ) → slice_get (begin_row n conn peer).puts i ≡ Some (queue.Tracker n, item.Connect conn key) → (i ≡ 0) × (peer ≡ key)
  first_place peer key conn zero at =
      let pair : (queue.Tracker n, item.Connect conn peer) ≡ (queue.Tracker n, item.Connect conn key) =
      same_Some (queue.Tracker n, item.Connect conn peer) (queue.Tracker n, item.Connect conn key) at
      in
      let items : item.Connect conn peer ≡ item.Connect conn key = ap (λ (p : Queue × Item). p.1) pair in
      (refl, cc)
  first_place peer key conn (suc zero) at =
      let pair : (queue.Router n, item.Ready conn peer) ≡ (queue.Tracker n, item.Connect conn key) =
      same_Some (queue.Router n, item.Ready conn peer) (queue.Tracker n, item.Connect conn key) at
      in
      let items : item.Ready conn peer ≡ item.Connect conn key = ap (λ (p : Queue × Item). p.1) pair in
      absurd (cc)
  first_place peer key conn (suc (suc i)) at = let none : ◌≡◌ {A = Option (Queue × Item)} None (Some (queue.Tracker n, item.Connect conn key)) = at in absurd (cc)

  begins : (x : Envelope) (conn : ℕ) (key : Key) → IsWord configs n log x conn key → IsNew x → Begins x conn key
  unfolding row
  begins x conn key w new = by_first (subst (λ k. IsFirst before n conn k ⊎ Each (λ p. tells_any p.0 p.1 ≡ false) k.puts) (sym row_is) (send_begins configs before conn n ev.at))
    where
      put : slice_get r.puts new.place ≡ Some (queue.Tracker n, item.Connect conn key)
      put = new.put ∙ (ap (λ q. Some (q, x.item)) w.there ∙ ap (λ i. Some (queue.Tracker n, i)) w.is)

      has : Has r.puts (queue.Tracker n, item.Connect conn key)
      has = get_has r.puts new.place (queue.Tracker n, item.Connect conn key) put

      acts : ev.act ≡ act.SendStep conn n
      acts =
          elim (Each-has (Origin configs before ev.act r.reply (words.m configs n script before ev lawful old lasts).taken) r.puts (queue.Tracker n, item.Connect conn key)
          (Moved-origins configs before ev.act r.reply (words.m configs n script before ev lawful old lasts).taken r.puts
          ((words.shape configs n script before ev lawful old lasts).laws (words.told configs n script before ev lawful old lasts).standing.fitting).moved) has) [
            | inl own ↦ elim own [
              | inl idle ↦ absurd (false≢true idle)
              | inr h ↦ let same : conn ≡ h.0 = cc in h.4 ∙ ap (λ c. act.SendStep c n) (sym same)
            ]
            | inr of ↦ elim of.2 [ inl idle ↦ absurd (false≢true idle) | inr h ↦ absurd h ]
          ]

      row_is : r ≡ send_step_row configs before conn n ev.at
      row_is = ap (row configs before ev.at ev.seed) acts

      by_first : IsFirst before n conn r ⊎ Each (λ p. tells_any p.0 p.1 ≡ false) r.puts → Begins x conn key
      by_first (inl first) =
          let at = first_place first.half.peer key conn new.place (ap (λ (k : Row). slice_get k.puts new.place) (sym first.row) ∙ put) in
          let live = is_live before n conn first.half first.lived in
          let of = words.of_half configs n script before lawful conn first.half live.at in
          record {
            acts = acts;
            fresh = first.fresh;
            live = live_of n before conn key of.made of.there (of.of ∙ at.1) live.lives;
            row_is = first.row ∙ ap (begin_row n conn) at.1;
            place = new.at ∙ at.0;
          }
      by_first (inr silent) = absurd (false≢true (sym (Each-has (λ p. tells_any p.0 p.1 ≡ false) r.puts (queue.Tracker n, item.Connect conn key) silent has)))

  -- then no release of the key waits
  none_waits : (conn : ℕ) (key : Key) → IsLive n before conn key → 1 ≤ waits configs n key before → ⊥
  none_waits conn key live some = words.not_both configs n script before lawful conn live.made live.lives (subst (λ k. 1 ≤ waits configs n k before) (sym live.of) some)

  -- and no word of another waits
  no_other : (x : Envelope) (conn other : ℕ) (key : Key) → IsLive n before conn key → is_begun before n conn ≡ false → IsWord configs n before x other key → ⊥
  no_other x conn other key live fresh w = elim (old.later x other key w) [
    | inl lives ↦
        let of = words.word_of configs n script before lawful x other key w in
        let also : IsLive n before other key = live_of n before other key of.made of.there of.of lives in
        let same : other ≡ conn = open_once configs script before lawful n other conn also.made live.made also.lives live.lives (also.of ∙ sym live.of) in
        false≢true (sym fresh ∙ (ap (is_begun before n) (sym same) ∙ words.word_begun configs n script before lawful x other key w))
    | inr some ↦ none_waits conn key live some
  ]

  still_live : (conn : ℕ) (key : Key) → IsLive n before conn key → ends_connection n conn before e ≡ false → IsLive n log conn key
  still_live conn key live goes_on =
      let parts = open_parts before n conn live.made live.lives in
      live_of n log conn key live.made (connections_of-longer before (e ∷ []) n conn live.made parts.made) live.of (is_ended-kept before e n conn goes_on ∙ parts.lives)

  ends_or_not : (conn : ℕ) (key : Key) → IsLive n before conn key → (ends_connection n conn before e ≡ false) ⊎ (1 ≤ waits configs n key log)
  ends_or_not conn key live = by (ends_connection n conn before e) refl
    where
      by : (b : Bool) → ends_connection n conn before e ≡ b → (ends_connection n conn before e ≡ false) ⊎ (1 ≤ waits configs n key log)
      by false is = inl is
      by true is = inr (subst (λ k. 1 ≤ waits configs n k log) live.of (words.ends_waits configs n script before ev lawful old lasts conn live.made live.lives is))

  -- ---- each fact

  later : (x : Envelope) (conn : ℕ) (key : Key) → IsWord configs n log x conn key → (is_ended log n conn ≡ false) ⊎ (1 ≤ waits configs n key log)
  later x conn key w = elim (split x w.has) [
    | inl was ↦
        let v : IsWord configs n before x conn key = was_word x conn key w was.0 in
        elim (old.later x conn key v) [
          | inl lives ↦
              let of = words.word_of configs n script before lawful x conn key v in
              elim (ends_or_not conn key (live_of n before conn key of.made of.there of.of lives)) [
                | inl goes_on ↦ inl (is_ended-kept before e n conn goes_on ∙ lives)
                | inr some ↦ inr some
              ]
          | inr some ↦ inr (words.waits_on configs n script before ev lawful old lasts key some (words.none_freed configs n script before ev lawful old lasts x conn key v was.1))
        ]
    | inr new ↦
        let b : Begins x conn key = begins x conn key w new in
        let parts = open_parts before n conn b.live.made b.live.lives in
        inl (is_ended-kept before e n conn (ends_half before e n conn true conn n b.acts ∙ (ap (λ (k : Row). ((n == n) && (conn == conn)) && is_end k.reply) b.row_is ∙ and_false ((n == n) && (conn == conn)))) ∙ parts.lives)
  ]

  behind : (x y : Envelope) (conn : ℕ) (key : Key) → IsWord configs n log x conn key → Has (live log) y → puts_release n key (put_of y) ≡ true → x.entry < y.entry
  behind x y conn key w has is = elim (split x w.has) [
    | inl was ↦ elim (split y has) [
      | inl also ↦ old.behind x y conn key (was_word x conn key w was.0) also.0 is
      | inr put ↦
          let early : x.entry < length before = Each-has (λ (z : Envelope). z.entry < length before) (live before) x (stand_in_order before).1 was.0 in
          subst (λ k. x.entry < k) (sym put.entry) early
    ]
    | inr new ↦
        let b : Begins x conn key = begins x conn key w new in
        elim (split y has) [
          | inl also ↦ absurd (none_waits conn key b.live (count_has (λ z. puts_release n key (put_of z)) (live before) y also.0 is))
          | inr put ↦ absurd (no_release put.place (put_of y) (ap (λ (k : Row). slice_get k.puts put.place) (sym b.row_is) ∙ put.put) is)
        ]
  ]
    where
      no_release : (i : ℕ) (p : Queue × Item) → slice_get (begin_row n conn key).puts i ≡ Some p → puts_release n key p ≡ true → ⊥
      no_release zero p at is =
          let same : (queue.Tracker n, item.Connect conn key) ≡ p = cc in
          false≢true (sym (and_false (same_queue (queue.Tracker n) (queue.Tracker n))) ∙ (ap (puts_release n key) same ∙ is))
      no_release (suc zero) p at is =
          let same : (queue.Router n, item.Ready conn key) ≡ p = cc in
          false≢true (sym (and_false (same_queue (queue.Tracker n) (queue.Router n))) ∙ (ap (puts_release n key) same ∙ is))
      no_release (suc (suc i)) p at is = cc

  unlinked : (x : Envelope) (conn : ℕ) (key : Key) → IsWord configs n log x conn key → is_linked configs n log key ≡ false
  unlinked x conn key w = by (is_linked configs n log key) refl
    where
      -- by word that was taken
      taken_word : words.Links configs n script before ev lawful old lasts key → ⊥
      taken_word links = elim (split x w.has) [
        | inl was ↦
            let same : name_of x ≡ name_of links.word = old.alone x links.word conn links.conn key (was_word x conn key w was.0) links.is in
            let gone : stays (goes e) links.word ≡ false = taken_goes e links.word (words.name_taken configs n script before ev lawful old lasts links.word links.taken) in
            false≢true (sym gone ∙ (ap (λ k. not (list_any (same_name k) (goes e))) (sym same) ∙ was.1))
        | inr new ↦ false≢true (ap (steps_tracker n) (sym (begins x conn key w new).acts) ∙ links.steps)
      ]

      -- or before
      linked_before : is_linked configs n before key ≡ true → ⊥
      linked_before h = elim (split x w.has) [
        | inl was ↦ false≢true (sym (old.unlinked x conn key (was_word x conn key w was.0)) ∙ h)
        | inr new ↦
            let b : Begins x conn key = begins x conn key w new in
            let held : holds configs n before key ≡ true = subst (λ k. holds configs n before k ≡ true) b.live.of (open_is_held configs script before lawful n conn b.live.made b.live.lives) in
            elim (old.current key h held) [
              | inl c ↦
                  let same : c.conn ≡ conn = open_once configs script before lawful n c.conn conn c.made b.live.made c.lives b.live.lives (c.of ∙ sym b.live.of) in
                  false≢true (sym b.fresh ∙ (ap (is_begun before n) (sym same) ∙ c.begun))
              | inr some ↦ none_waits conn key b.live some
            ]
      ]

      by : (b : Bool) → is_linked configs n log key ≡ b → b ≡ false
      by false is = refl
      by true is = absurd (elim (words.linked_by configs n script before ev lawful old lasts key is) [ inl links ↦ taken_word links | inr was ↦ linked_before was ])

  alone : (x y : Envelope) (conn other : ℕ) (key : Key) → IsWord configs n log x conn key → IsWord configs n log y other key → name_of x ≡ name_of y
  alone x y conn other key v w = elim (split x v.has) [
    | inl was ↦ elim (split y w.has) [
      | inl also ↦ old.alone x y conn other key (was_word x conn key v was.0) (was_word y other key w also.0)
      | inr new ↦ let b : Begins y other key = begins y other key w new in absurd (no_other x other conn key b.live b.fresh (was_word x conn key v was.0))
    ]
    | inr new ↦
        let b : Begins x conn key = begins x conn key v new in
        elim (split y w.has) [
          | inl also ↦ absurd (no_other y conn other key b.live b.fresh (was_word y other key w also.0))
          | inr put ↦
              let c : Begins y other key = begins y other key w put in
              ap (λ i. (i, x.place)) (new.entry ∙ sym put.entry) ∙ ap (λ i. (y.entry, i)) (b.place ∙ sym c.place)
        ]
  ]

  current : (key : Key) → is_linked configs n log key ≡ true → holds configs n log key ≡ true → IsCurrent configs n log key ⊎ (1 ≤ waits configs n key log)
  current key is held = elim (words.linked_by configs n script before ev lawful old lasts key is) [
    | inl links ↦ elim (old.later links.word links.conn key links.is) [
      | inl lives ↦
          let of = words.word_of configs n script before lawful links.word links.conn key links.is in
          goes_on links.conn (live_of n before links.conn key of.made of.there of.of lives) (words.word_begun configs n script before lawful links.word links.conn key links.is)
      | inr some ↦ waits_still some
    ]
    | inr was ↦ elim (old.current key was (words.was_held configs n script before ev lawful old lasts key is held)) [
      | inl c ↦ goes_on c.conn (record { made = c.made; lives = c.lives; of = c.of }) c.begun
      | inr some ↦ waits_still some
    ]
  ]
    where
      waits_still : 1 ≤ waits configs n key before → IsCurrent configs n log key ⊎ (1 ≤ waits configs n key log)
      waits_still some = by ((granting configs n key).frees before e) refl
        where
          by : (b : Bool) → (granting configs n key).frees before e ≡ b → IsCurrent configs n log key ⊎ (1 ≤ waits configs n key log)
          by true frees = absurd (false≢true (sym (words.freed configs n script before ev lawful old lasts key frees) ∙ held))
          by false none = inr (words.waits_on configs n script before ev lawful old lasts key some none)

      goes_on : (conn : ℕ) → IsLive n before conn key → is_begun before n conn ≡ true → IsCurrent configs n log key ⊎ (1 ≤ waits configs n key log)
      goes_on conn live begun = elim (ends_or_not conn key live) [
        | inl on ↦
            let after : IsLive n log conn key = still_live conn key live on in
            inl (record { conn = conn; made = after.made; lives = after.lives; of = after.of; begun = is_begun-append before e n conn ∙ ap (λ b. b || begins_connection n conn before e) begun })
        | inr some ↦ inr some
      ]

  reserved_more : Reserved configs n log
  reserved_more = record { later = later; behind = behind; unlinked = unlinked; alone = alone; current = current }

module _ (configs : List Config) (n : ℕ) where
  -- while the node has not stopped
  abbrev Lasting : List Entry → Type 0
  Lasting log = has_stopped log n ≡ false → Reserved configs n log

  reserved_next : (script : List Event) (before : List Entry) (ev : Event) → IsLawful configs script before → Lasting before → Lasting (before ++ effect configs before ev ∷ [])
  unfolding effect
  reserved_next script before ev lawful old lasts =
      let e : Entry = entry_of ev (row configs before ev.at ev.seed ev.act) in
      reserved_more configs n script before ev lawful (old (is_stopped-before before e n lasts))
      (or_right (has_stopped before n) (tells_some (stops_node n) before e) (sym (is_stopped-append before e n) ∙ lasts))

  reserved : (script : List Event) (log : List Entry) → IsLawful configs script log → Lasting log
  reserved script log lawful = lawful_at_end configs Lasting (λ lasts. reserved_first configs n) reserved_next script log lawful

  module _ (script : List Event) (log : List Entry) (lawful : IsLawful configs script log) (lasts : has_stopped log n ≡ false) where
    -- a key whose release waits is held
    release_held : (key : Key) → 1 ≤ waits configs n key log → holds configs n log key ≡ true
    release_held key some =
        let g : Granting = granting configs n key in
        sym (held_by_calls configs script log lawful n key)
        ∙ by (g.holders log) (g.waiting log) (is_stopped g log) (is_held g log) some (one_holder g log (each_node_turn configs script log lawful n key))
      where
        by : (holders waiting : ℕ) (stopped held : Bool) → 1 ≤ waiting → holders + waiting ≡ cond stopped 0 (one held) → held ≡ true
        by holders waiting true held some sum = absurd (omega (arith, some, sum))
        by holders waiting false true some sum = refl
        by holders waiting false false some sum = absurd (omega (arith, some, sum))

    -- of what the tracker is about to be told
    pub word_reserved : (conn : ℕ) (key : Key) (x : Envelope) (rest : List Envelope) → line log (queue.Tracker n) ≡ x ∷ rest → x.item ≡ item.Connect conn key
        → (holds configs n log key ≡ true) × (is_linked configs n log key ≡ false)
    unfolding line
    word_reserved conn key x rest first is = (
      elim (all.later x conn key w) [
        | inl lives ↦
            let of = words.word_of configs n script log lawful x conn key w in
            subst (λ k. holds configs n log k ≡ true) of.of (open_is_held configs script log lawful n conn of.made (is_open log n conn of.made lives of.there))
        | inr some ↦ release_held key some
      ],
      all.unlinked x conn key w,
    )
      where
        all : Reserved configs n log
        all = reserved script log lawful lasts

        w : IsWord configs n log x conn key
        w = record {
          has = Has-of_kept (stands_in (queue.Tracker n)) (live log) x (subst (λ l. Has l x) (sym first) (inl refl));
          there = one_taken log (queue.Tracker n) x rest first;
          is = is;
        }
