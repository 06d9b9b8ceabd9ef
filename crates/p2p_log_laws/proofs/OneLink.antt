-- A copy is put in the queue of one link, once.
use Rattle.std.proofs.Common.{◌≡◌, ℕ, suc, ◌+◌, ◌≤◌, Bool, true, false, cond, List, [], ◌∷◌, ◌++◌, map, length, Some, inl, inr, refl, ap, sym, subst, ◌∙◌, arith, append-nil}
use Rattle.std.specs.Prelude.{filter, flat_map, ◌==◌, ◌&&◌, ◌||◌, nat_lt, nat_le, count_by, sum_by}
use Rattle.std.specs.List.{AllByRecursion as Each}
use Rattle.std.proofs.lemmas.Bool.{false≢true}
use Rattle.std.proofs.lemmas.Bool.Decides.{nat_tests}
use Rattle.std.proofs.lemmas.List.Concat.{flat_map-append}
use Rattle.std.proofs.lemmas.List.Sums.{sum_by-append, sum_by-cons}
use Rattle.p2p_log_rules.proofs.Bools.{and_false}
use Rattle.p2p_base.specs.declared.key.Key.{Key}
use Rattle.p2p_log.specs.declared.config.Config.{Config}
use Rattle.p2p_log.specs.declared.queue.Queue.{Queue}
use Rattle.p2p_log.specs.declared.queue.Queue.TheVariants as queue
use Rattle.p2p_log.specs.declared.item.Item.{Item}
use Rattle.p2p_log.specs.declared.item.Item.TheVariants as item
use Rattle.p2p_log.specs.declared.item.Envelope.{Envelope}
use Rattle.p2p_log.specs.declared.entry.Entry.{Entry}
use Rattle.p2p_log.specs.declared.event.Event.{Event}
use Rattle.p2p_log.specs.declared.event.Act.{Act}
use Rattle.p2p_log.specs.declared.entry.Reply.{Reply}
use Rattle.p2p_log_rules.specs.declared.row.Row.{Row}
use Rattle.p2p_log.specs.Lines.{name_of, same_name, ended_item, goes, stays, live, placed}
use Rattle.p2p_log.specs.Copies.{carries, carries_copy, copies_of, copies_from}
use Rattle.p2p_log.specs.Sending.{keys_sent, sending_of}
use Rattle.p2p_log.specs.Copies.{accepted}
use Rattle.p2p_log_rules.specs.Effect.{entry_of, relay_queue}
use Rattle.p2p_log.proofs.Lines.{live-append, filter_stays-append}
use Rattle.p2p_log.proofs.Names.{AreApart-live_from}
use Rattle.p2p_log_laws.proofs.Balance.{live-none, accepted_more}
use Rattle.p2p_log.proofs.Each.{Has, Has-first, Has-after, Each-append, Each-filter, Each-weaker}
use Rattle.p2p_log_laws.proofs.Fitting.{Each-placed, is_idle, bare_carries_none}
use Rattle.p2p_log_laws.proofs.Shape.{Laws, OfItem, ComesOf, Moved, accepts, idle_bare}
use Rattle.p2p_log_laws.proofs.Spreading.{one}
use Rattle.p2p_log_rules.specs.Moves.{Moves}
use Rattle.p2p_log_rules.proofs.Moves.{taken_stood}
use Rattle.p2p_log.proofs.Taken.{sum_by-taken}
use Rattle.p2p_log_laws.specs.Flow.{IsSublist, put_copies}

-- ---- queues before a link's, and those of links

abbrev pub is_low : Queue → Bool
is_low (queue.Router n) = true
is_low (queue.High n e) = true
is_low (queue.Low n e) = true
is_low _ = false

abbrev pub is_link : Queue → Bool
is_link (queue.Link e s) = true
is_link _ = false

abbrev is_early : Queue → Bool
is_early q = is_low q || is_link q

-- all that was ever put
abbrev pub all_puts : List Entry → List (Queue × Item)
all_puts log = flat_map (λ e. e.puts) log

abbrev pub on_link : ℕ × ℕ → Queue × Item → Bool
on_link copy x = is_link x.0 && carries_copy copy x.1

abbrev low : ℕ × ℕ → Envelope → ℕ
low copy x = one (is_low x.queue && carries copy x)

abbrev put_low : ℕ × ℕ → Queue × Item → ℕ
put_low copy x = one (is_low x.0 && carries_copy copy x.1)

abbrev early : ℕ × ℕ → Queue × Item → Bool
early copy x = is_early x.0 && carries_copy copy x.1

-- ---- counting copies

count_by-first : {X : Type 0} (p : X → Bool) (x : X) (xs : List X) → count_by p (x ∷ xs) ≡ one (p x) + count_by p xs
count_by-first p x xs = sum_by-cons (λ y. cond (p y) 1 0) x xs

count_by-parts : {X : Type 0} (p : X → Bool) (xs ys : List X) → count_by p (xs ++ ys) ≡ count_by p xs + count_by p ys
count_by-parts p xs ys = sum_by-append (λ y. cond (p y) 1 0) xs ys

plus_zero : (b : Bool) → one b + 0 ≡ one b
plus_zero b = omega arith

module _ (copy : ℕ × ℕ) where
  from_place : (send p : ℕ) (ks : List Key) → count_by (same_name copy) (copies_from send p ks) ≡ one ((send == copy.0) && (nat_le p copy.1 && nat_lt copy.1 (p + length ks)))
  from_place send p [] = none send p copy.0 copy.1
    where
      none : (s p a b : ℕ) → 0 ≡ one ((s == a) && (nat_le p b && nat_lt b (p + 0)))
      none s p a b = grind (arith, nat_tests)
  from_place send p (k ∷ ks) =
      let first = count_by-first (same_name copy) (send, p) (copies_from send (p + 1) ks) in
      let rest = from_place send (p + 1) ks in
      let step = more send p copy.0 copy.1 (length ks) in
      omega (arith, first, rest, step)
    where
      more : (s p a b l : ℕ) → one ((a == s) && (b == p)) + one ((s == a) && (nat_le (p + 1) b && nat_lt b ((p + 1) + l))) ≡ one ((s == a) && (nat_le p b && nat_lt b (p + suc l)))
      more s p a b l = grind (arith, nat_tests)

  carried_count : (i : Item) → count_by (same_name copy) (copies_of i) ≡ one (carries_copy copy i)
  carried_count (item.Content c frame priority send to) = from_place send 0 to ∙ zero_place send copy.0 copy.1 (length to)
    where
      zero_place : (s a b l : ℕ) → one ((s == a) && (nat_le 0 b && nat_lt b (0 + l))) ≡ one ((s == a) && nat_lt b l)
      zero_place s a b l = grind (arith, nat_tests)
  carried_count (item.Frame (Some other) frame) = count_by-first (same_name copy) other [] ∙ plus_zero (same_name copy other)
  carried_count (item.Held c bytes other) = count_by-first (same_name copy) other [] ∙ plus_zero (same_name copy other)
  carried_count (item.Message bytes other from) = count_by-first (same_name copy) other [] ∙ plus_zero (same_name copy other)
  carried_count _ = refl

  sublist_count : (xs ys : List (ℕ × ℕ)) → IsSublist xs ys → count_by (same_name copy) xs ≤ count_by (same_name copy) ys
  sublist_count xs [] h = let same : count_by (same_name copy) xs ≡ 0 = ap (λ l. count_by (same_name copy) l) h in omega (arith, same)
  sublist_count xs (y ∷ ys) h = elim h [
    | inl skip ↦
        let rest = sublist_count xs ys skip in
        let first = count_by-first (same_name copy) y ys in
        omega (arith, rest, first)
    | inr take ↦
        let rest = sublist_count take.0 ys take.2 in
        let first = count_by-first (same_name copy) y ys in
        let same : count_by (same_name copy) xs ≡ count_by (same_name copy) (y ∷ take.0) = ap (λ l. count_by (same_name copy) l) take.1 in
        let more = count_by-first (same_name copy) y take.0 in
        omega (arith, rest, first, same, more)
  ]

  -- early puts, by the copies that they carry
  early_count : (puts : List (Queue × Item)) → count_by (early copy) puts ≡ count_by (same_name copy) (put_copies (filter (λ x. is_early x.0) puts))
  early_count [] = refl
  early_count (x ∷ puts) = go (is_early x.0) refl (early_count puts)
    where
      go : (b : Bool) → is_early x.0 ≡ b → count_by (early copy) puts ≡ count_by (same_name copy) (put_copies (filter (λ x. is_early x.0) puts))
          → count_by (early copy) (x ∷ puts) ≡ count_by (same_name copy) (put_copies (filter (λ x. is_early x.0) (x ∷ puts)))
      go true e rest =
          let first = count_by-first (early copy) x puts in
          let here : one (early copy x) ≡ one (carries_copy copy x.1) = ap (λ b. one (b && carries_copy copy x.1)) e in
          let count = carried_count x.1 in
          let parts = count_by-parts (same_name copy) (copies_of x.1) (put_copies (filter (λ x. is_early x.0) puts)) in
          let kept : count_by (same_name copy) (put_copies (filter (λ x. is_early x.0) (x ∷ puts))) ≡ count_by (same_name copy) (copies_of x.1 ++ put_copies (filter (λ x. is_early x.0) puts)) =
          ap (λ b. count_by (same_name copy) (put_copies (cond b (x ∷ filter (λ x. is_early x.0) puts) (filter (λ x. is_early x.0) puts)))) e
          in
          omega (arith, first, here, count, parts, kept, rest)
      go false e rest =
          let first = count_by-first (early copy) x puts in
          let here : one (early copy x) ≡ 0 = ap (λ b. one (b && carries_copy copy x.1)) e in
          let kept : count_by (same_name copy) (put_copies (filter (λ x. is_early x.0) (x ∷ puts))) ≡ count_by (same_name copy) (put_copies (filter (λ x. is_early x.0) puts)) =
          ap (λ b. count_by (same_name copy) (put_copies (cond b (x ∷ filter (λ x. is_early x.0) puts) (filter (λ x. is_early x.0) puts)))) e
          in
          omega (arith, first, here, kept, rest)

  early_parts : (puts : List (Queue × Item)) → sum_by (put_low copy) puts + count_by (on_link copy) puts ≡ count_by (early copy) puts
  early_parts [] = refl
  early_parts (x ∷ puts) =
      let a = sum_by-cons (put_low copy) x puts in
      let b = count_by-first (on_link copy) x puts in
      let c = count_by-first (early copy) x puts in
      let here = exclusive x.0 (carries_copy copy x.1) in
      let rest = early_parts puts in
      omega (arith, a, b, c, here, rest)
    where
      exclusive : (q : Queue) (b : Bool) → one (is_low q && b) + one (is_link q && b) ≡ one (is_early q && b)
      exclusive (queue.Router n) b = omega arith
      exclusive (queue.High n e) b = omega arith
      exclusive (queue.Low n e) b = omega arith
      exclusive (queue.Link e s) b = omega arith
      exclusive _ b = refl

  -- ---- what an entry puts in these queues it takes from those before a link, or accepts

  relay_low : (priority : Bool) (n e : ℕ) → is_low (relay_queue priority n e) ≡ true
  relay_low true n e = refl
  relay_low false n e = refl

  module _ (configs : List Config) (log : List Entry) (a : Act) (r : Reply) where
    elsewhere_none : (y : Envelope) → is_low y.queue ≡ false → (q : Queue) (i : Item) → OfItem configs log y q i → early copy (q, i) ≡ false
    elsewhere_none y away (queue.High n e) i h = absurd (false≢true (sym away ∙ ap is_low h.stood))
    elsewhere_none y away (queue.Low n e) i h = absurd (false≢true (sym away ∙ ap is_low h.stood))
    elsewhere_none y away (queue.Link e s) i h = absurd (false≢true (sym away ∙ (ap is_low h.stood ∙ relay_low h.priority h.node h.conn)))
    elsewhere_none y away (queue.Router n) i h = absurd h
    elsewhere_none y away _ i h = refl

    idle_none : (q : Queue) (i : Item) → is_idle i ≡ true → early copy (q, i) ≡ false
    idle_none q i idle = ap (λ b. is_early q && b) (bare_carries_none copy i (idle_bare i idle)) ∙ and_false (is_early q)

    -- what comes of an item elsewhere enters none of these queues with the copy
    from_elsewhere : (y : Envelope) → is_low y.queue ≡ false → (x : Queue × Item) → ComesOf configs log y x → early copy x ≡ false
    from_elsewhere y away x o = elim o [ inl idle ↦ idle_none x.0 x.1 idle | inr h ↦ elsewhere_none y away x.0 x.1 h ]

    count_none : (xs : List (Queue × Item)) → Each (λ x. early copy x ≡ false) xs → count_by (early copy) xs ≡ 0
    count_none [] h = refl
    count_none (x ∷ xs) h =
        let first = count_by-first (early copy) x xs in
        let here : one (early copy x) ≡ 0 = ap one h.0 in
        let rest = count_none xs h.1 in
        omega (arith, first, here, rest)

    front_pays : (y : Envelope) (front : List (Queue × Item)) → Each (ComesOf configs log y) front
        → ((p : Queue × Item → Bool) → IsSublist (put_copies (filter p front)) (copies_of y.item)) → count_by (early copy) front ≤ low copy y
    front_pays y front origins some = go (is_low y.queue) refl
      where
        go : (b : Bool) → is_low y.queue ≡ b → count_by (early copy) front ≤ low copy y
        go true e =
            let count = early_count front in
            let fewer = sublist_count (put_copies (filter (λ x. is_early x.0) front)) (copies_of y.item) (some (λ x. is_early x.0)) in
            let carried = carried_count y.item in
            let own : low copy y ≡ one (carries_copy copy y.item) = ap (λ b. one (b && carries_copy copy y.item)) e in
            omega (arith, count, fewer, carried, own)
        go false e =
            let none = count_none front (Each-weaker (ComesOf configs log y) (λ x. early copy x ≡ false) (λ x o. from_elsewhere y e x o) front origins) in
            omega (arith, none)

    pub moved_pays : (taken : List Envelope) (puts : List (Queue × Item)) → Moved configs log a r taken puts → count_by (early copy) puts ≤ sum_by (low copy) taken + accepts log a r copy
    moved_pays [] puts m =
        let keys = keys_sent (sending_of a r) in
        let count = early_count puts in
        let fewer = sublist_count (put_copies (filter (λ x. is_early x.0) puts)) (copies_from (length log) 0 keys) (m.1 (λ x. is_early x.0)) in
        let from = from_place (length log) 0 keys in
        let zero_place = at_zero (length log) copy.0 copy.1 (length keys) in
        omega (arith, count, fewer, from, zero_place)
      where
        at_zero : (s a b l : ℕ) → one ((s == a) && (nat_le 0 b && nat_lt b (0 + l))) ≡ one ((s == a) && nat_lt b l)
        at_zero s a b l = grind (arith, nat_tests)
    moved_pays (y ∷ taken) puts m =
        let front : List (Queue × Item) = m.0 in
        let rest : List (Queue × Item) = m.1 in
        let here = front_pays y front m.3 m.4 in
        let more = moved_pays taken rest m.5 in
        let whole : count_by (early copy) puts ≡ count_by (early copy) (front ++ rest) = ap (λ l. count_by (early copy) l) m.2 in
        let parts = count_by-parts (early copy) front rest in
        let sum = sum_by-cons (low copy) y taken in
        omega (arith, here, more, whole, parts, sum)

  -- ---- over the log

  less_kept : (w : Envelope → ℕ) (p : Envelope → Bool) (xs : List Envelope) → sum_by w (filter p xs) ≤ sum_by w xs
  less_kept w p [] = omega arith
  less_kept w p (x ∷ xs) = go (p x) refl (less_kept w p xs)
    where
      go : (b : Bool) → p x ≡ b → sum_by w (filter p xs) ≤ sum_by w xs → sum_by w (filter p (x ∷ xs)) ≤ sum_by w (x ∷ xs)
      go true e rest =
          let all = sum_by-cons w x xs in
          let kept : sum_by w (filter p (x ∷ xs)) ≡ w x + sum_by w (filter p xs) = ap (λ b. sum_by w (cond b (x ∷ filter p xs) (filter p xs))) e ∙ sum_by-cons w x (filter p xs) in
          omega (arith, all, kept, rest)
      go false e rest =
          let all = sum_by-cons w x xs in
          let kept : sum_by w (filter p (x ∷ xs)) ≡ sum_by w (filter p xs) = ap (λ b. sum_by w (cond b (x ∷ filter p xs) (filter p xs))) e in
          omega (arith, all, kept, rest)

  low_placed : (n p : ℕ) (puts : List (Queue × Item)) → sum_by (low copy) (placed n p puts) ≡ sum_by (put_low copy) puts
  low_placed n p [] = refl
  low_placed n p (x ∷ xs) =
      let a = sum_by-cons (low copy) (record { entry = n; place = p; queue = x.0; item = x.1 }) (placed n (p + 1) xs) in
      let b = sum_by-cons (put_low copy) x xs in
      let rest = low_placed n (p + 1) xs in
      omega (arith, a, b, rest)

  -- the carriers before a link, and the puts into links, are at most one
  abbrev pub IsLinkedOnce : List Config → List Entry → Type 0
  IsLinkedOnce configs log = sum_by (low copy) (live log) + count_by (on_link copy) (all_puts log) ≤ one (nat_lt copy.1 (length (accepted log copy.0)))

  pub linked_none : (configs : List Config) → IsLinkedOnce configs []
  linked_none configs =
      let none : sum_by (low copy) (live []) ≡ 0 = ap (λ l. sum_by (low copy) l) live-none in
      omega (arith, none)

  pub linked_more : (configs : List Config) (log : List Entry) (ev : Event) (r : Row) (m : Moves log r) → Laws configs log ev.act r m → IsLinkedOnce configs log → IsLinkedOnce configs (log ++ entry_of ev r ∷ [])
  linked_more configs log ev r m laws old =
      let e = entry_of ev r in
      let left = filter (stays (map name_of m.taken)) (live log) in
      let gone = flat_map ended_item r.ends in
      let taken = sum_by-taken (low copy) (live log) m.taken (AreApart-live_from 0 log) (taken_stood log ev r m) in
      let kept : sum_by (low copy) (filter (stays (goes e)) (live log)) ≡ sum_by (low copy) (filter (stays gone) left) =
      ap (λ l. sum_by (low copy) l) (filter_stays-append r.takes gone (live log) ∙ ap (λ ns. filter (stays gone) (filter (stays ns) (live log))) m.names)
      in
      let fewer = less_kept (low copy) (stays gone) left in
      let after : sum_by (low copy) (live (log ++ e ∷ [])) ≡ sum_by (low copy) (filter (stays (goes e)) (live log)) + sum_by (low copy) (placed (length log) 0 r.puts) =
      ap (λ l. sum_by (low copy) l) (live-append log e) ∙ sum_by-append (low copy) (filter (stays (goes e)) (live log)) (placed (length log) 0 r.puts)
      in
      let put = low_placed (length log) 0 r.puts in
      let pays = moved_pays configs log ev.act r.reply m.taken r.puts laws.moved in
      let parts = early_parts r.puts in
      let puts : count_by (on_link copy) (all_puts (log ++ e ∷ [])) ≡ count_by (on_link copy) (all_puts log) + count_by (on_link copy) r.puts =
      ap (λ l. count_by (on_link copy) l) (flat_map-append (λ (d : Entry). d.puts) log (e ∷ []) ∙ ap (λ l. all_puts log ++ l) (append-nil r.puts))
      ∙ count_by-parts (on_link copy) (all_puts log) r.puts
      in
      let keys = accepted_more log e copy in
      omega (arith, old, taken, kept, fewer, after, put, pays, parts, puts, keys)

-- ---- so two puts into links that carry a copy are one

module _ {X : Type 0} (p : X → Bool) where
  counted_has : (xs : List X) (x : X) → Has xs x → p x ≡ true → 1 ≤ count_by p xs
  counted_has [] x h t = absurd h
  counted_has (y ∷ xs) x h t = elim h [
    | inl e ↦
        let first = count_by-first p y xs in
        let here : one (p y) ≡ 1 = ap (λ z. one (p z)) e ∙ ap one t in
        omega (arith, first, here)
    | inr l ↦
        let first = count_by-first p y xs in
        let rest = counted_has xs x l t in
        omega (arith, first, rest)
  ]

  pub one_passes : (xs : List X) (x y : X) → count_by p xs ≤ 1 → Has xs x → Has xs y → p x ≡ true → p y ≡ true → x ≡ y
  one_passes [] x y most h k s t = absurd h
  one_passes (z ∷ xs) x y most h k s t = elim h [
    | inl e ↦ elim k [
      | inl f ↦ sym e ∙ f
      | inr l ↦
          let first = count_by-first p z xs in
          let rest = counted_has xs y l t in
          let here : one (p z) ≡ 1 = ap (λ v. one (p v)) e ∙ ap one s in
          absurd (omega (arith, first, rest, here, most))
    ]
    | inr l ↦ elim k [
      | inl f ↦
          let first = count_by-first p z xs in
          let rest = counted_has xs x l s in
          let here : one (p z) ≡ 1 = ap (λ v. one (p v)) f ∙ ap one t in
          absurd (omega (arith, first, rest, here, most))
      | inr m ↦
          let first = count_by-first p z xs in
          let fewer : count_by p xs ≤ 1 = omega (arith, first, most) in
          one_passes xs x y fewer l m s t
    ]
  ]

at_most : (b : Bool) (x y : ℕ) → x + y ≤ one b → y ≤ 1
at_most true x y h = omega (arith, h)
at_most false x y h = omega (arith, h)

pub one_link : (configs : List Config) (copy : ℕ × ℕ) (log : List Entry) → IsLinkedOnce copy configs log → (x y : Queue × Item) → Has (all_puts log) x → Has (all_puts log) y
    → on_link copy x ≡ true → on_link copy y ≡ true → x ≡ y
one_link configs copy log once x y h k s t =
    one_passes (on_link copy) (all_puts log) x y
    (at_most (nat_lt copy.1 (length (accepted log copy.0))) (sum_by (low copy) (live log)) (count_by (on_link copy) (all_puts log)) once) h k s t

-- ---- what stands was put

abbrev pub WasPut : List Entry → Envelope → Type 0
WasPut all x = Has (all_puts all) (x.queue, x.item)

pub put_kept : (all log : List Entry) (ev : Event) (r : Row) → ((x : Queue × Item) → Has r.puts x → Has (all_puts all) x) → Each (WasPut all) (live log)
    → Each (WasPut all) (live (log ++ entry_of ev r ∷ []))
put_kept all log ev r here old =
    subst (Each (WasPut all)) (sym (live-append log (entry_of ev r)))
    (Each-append (WasPut all) (filter (stays (goes (entry_of ev r))) (live log)) (placed (length log) 0 r.puts)
    (Each-filter (WasPut all) (stays (goes (entry_of ev r))) (live log) old)
    (Each-placed (λ (x : Queue × Item). Has (all_puts all) x) (length log) 0 r.puts (each_has r.puts here)))
  where
    each_has : (xs : List (Queue × Item)) → ((x : Queue × Item) → Has xs x → Has (all_puts all) x) → Each (λ (x : Queue × Item). Has (all_puts all) x) xs
    each_has [] f = tt
    each_has (x ∷ xs) f = (f x (inl refl), each_has xs (λ y k. f y (inr k)))

pub has_seam : (log : List Entry) (e : Entry) (more : List Entry) (x : Queue × Item) → Has e.puts x → Has (all_puts (log ++ e ∷ more)) x
has_seam log e more x h =
    subst (λ (l : List (Queue × Item)). Has l x) (sym (flat_map-append (λ (d : Entry). d.puts) log (e ∷ more)))
    (Has-after (all_puts log) (e.puts ++ all_puts more) x (Has-first e.puts (all_puts more) x h))
