-- Items leave a queue in the order in which they were put there.
use Rattle.std.proofs.Common.{◌≡◌, ℕ, suc, zero, ◌+◌, ◌-◌, ◌<◌, ◌≤◌, Bool, true, false, List, [], ◌∷◌, ◌++◌, inl, inr, length, take, drop, Option, Some, None, refl, ap, sym, subst, ◌∙◌, arith, length-append, take-append-drop}
use Rattle.std.specs.Prelude.{filter, flat_map, slice_get, not, ◌||◌}
use Rattle.std.specs.List.{AllByRecursion as Each, list_any}
use Rattle.std.proofs.lemmas.Bool.{cases_lt, false≢true}
use Rattle.std.proofs.lemmas.List.Folds.{list_any-append}
use Rattle.std.proofs.lemmas.Option.{same_Some}
use Rattle.p2p_log_rules.proofs.Bools.{or_true}
use Rattle.p2p_log.specs.declared.config.Config.{Config}
use Rattle.p2p_log.specs.declared.queue.Queue.{Queue}
use Rattle.p2p_log.specs.declared.item.Item.{Item}
use Rattle.p2p_log.specs.declared.item.Envelope.{Envelope}
use Rattle.p2p_log.specs.declared.entry.Entry.{Entry}
use Rattle.p2p_log.specs.declared.event.Event.{Event}
use Rattle.p2p_log.specs.Lines.{name_of, same_name, placed, ended_item, goes, stays, live, stands_in, line}
use Rattle.p2p_log_rules.specs.declared.row.Row.{Row}
use Rattle.p2p_log_rules.specs.Effect.{effect, row, entry_of}
use Rattle.p2p_log_rules.specs.Lawful.{IsLawful}
use Rattle.p2p_log.proofs.Each.{Has, Has-either, Has-get, Has-kept, Has-of_kept, Each-has, Each-from_has, Each-append, Each-filter, Each-weaker, Each-passing}
use Rattle.p2p_log.proofs.Lines.{live-append}
use Rattle.p2p_log.proofs.Names.{same_name-refl}
use Rattle.p2p_log.proofs.QueueNames.{Each-in_queue}
use Rattle.p2p_log.proofs.Sending.{get_longer}
use Rattle.p2p_log_rules.specs.Moves.{Moves}
use Rattle.p2p_log_rules.proofs.Moves.{kept, line-moved}
use Rattle.p2p_log_laws.specs.Order.{is_before}
use Rattle.p2p_log_laws.specs.Grants.{Granting, IsAmong, EachIsTurn}
use Rattle.p2p_log_laws.specs.Leaving.{IsTakenFrom, LeaveInOrder, ArePutAlive, OlderLeaveFirst}
use Rattle.p2p_log_laws.proofs.Balance.{live-none}
use Rattle.p2p_log_laws.proofs.Entries.{at_last}
use Rattle.p2p_log_laws.proofs.Newest.{not_older}
use Rattle.p2p_log_laws.proofs.Prefixes.{entry_due, take_next, take_no_more}
use Rattle.p2p_log_laws.proofs.Puts.{IsPut, each_put}
use Rattle.p2p_log_laws.proofs.Shapes.{row_shape}
use Rattle.p2p_log_laws.proofs.Sublists.{IsSublist-filter, Ordered, Ordered-append, Ordered-parts, Ordered-sublist, before_later, before_next, not_both}

-- ---- what stands in queues is in the order of the names

abbrev pub NameBefore : Envelope → Envelope → Type 0
NameBefore x y = is_before (name_of x) (name_of y) ≡ true

pub placed_places : (n p : ℕ) (puts : List (Queue × Item)) → Each (λ x. (x.entry ≡ n) × (p ≤ x.place)) (placed n p puts)
placed_places n p [] = tt
placed_places n p (x ∷ puts) =
    ((refl, omega arith), Each-weaker (λ (x : Envelope). (x.entry ≡ n) × (p + 1 ≤ x.place)) (λ x. (x.entry ≡ n) × (p ≤ x.place)) (λ x h. (h.0, let a = h.1 in omega (arith, a))) (placed n (p + 1) puts) (placed_places n (p + 1) puts))

placed_ordered : (n p : ℕ) (puts : List (Queue × Item)) → Ordered NameBefore (placed n p puts)
placed_ordered n p [] = tt
placed_ordered n p (x ∷ puts) = (
  Each-weaker (λ (y : Envelope). (y.entry ≡ n) × (p + 1 ≤ y.place)) (λ y. is_before (n, p) (name_of y) ≡ true)
      (λ y h. subst (λ m. is_before (n, p) (m, y.place) ≡ true) (sym h.0) (before_next n p y.place (let a = h.1 in omega (arith, a)))) (placed n (p + 1) puts) (placed_places n (p + 1) puts),
  placed_ordered n (p + 1) puts,
)

abbrev pub StandInOrder : List Entry → Type 0
StandInOrder log = Ordered NameBefore (live log) × Each (λ x. x.entry < length log) (live log)

order_more : (log : List Entry) (e : Entry) → StandInOrder log → StandInOrder (log ++ e ∷ [])
order_more log e old =
    let left = filter (stays (goes e)) (live log) in
    let new = placed (length log) 0 e.puts in
    let longer : length (log ++ e ∷ []) ≡ length log + 1 = length-append log (e ∷ []) in
    let early : Each (λ x. x.entry < length log) left = Each-filter (λ (x : Envelope). x.entry < length log) (stays (goes e)) (live log) old.1 in
    let here : Each (λ x. (x.entry ≡ length log) × (0 ≤ x.place)) new = placed_places (length log) 0 e.puts in (
      subst (Ordered NameBefore) (sym (live-append log e))
          (Ordered-append NameBefore left new (Ordered-sublist NameBefore left (live log) (IsSublist-filter (stays (goes e)) (live log)) old.0) (placed_ordered (length log) 0 e.puts)
          (Each-weaker (λ (x : Envelope). x.entry < length log) (λ x. Each (NameBefore x) new)
          (λ x h. Each-weaker (λ (y : Envelope). (y.entry ≡ length log) × (0 ≤ y.place)) (NameBefore x)
          (λ y k. before_later x.entry x.place y.entry y.place (let a = k.0 in omega (arith, h, a))) new here) left early)),
      subst (Each (λ x. x.entry < length (log ++ e ∷ []))) (sym (live-append log e))
          (Each-append (λ (x : Envelope). x.entry < length (log ++ e ∷ [])) left new
          (Each-weaker (λ (x : Envelope). x.entry < length log) (λ (x : Envelope). x.entry < length (log ++ e ∷ [])) (λ x h. omega (arith, h, longer)) left early)
          (Each-weaker (λ (x : Envelope). (x.entry ≡ length log) × (0 ≤ x.place)) (λ (x : Envelope). x.entry < length (log ++ e ∷ [])) (λ x h. let a = h.0 in omega (arith, a, longer)) new here)),
    )

pub stand_in_order : (log : List Entry) → StandInOrder log
stand_in_order log =
    at_last log StandInOrder
    (subst (Ordered NameBefore) (sym live-none) tt, subst (Each (λ (x : Envelope). x.entry < 0)) (sym live-none) tt)
    (λ n e at old. order_more (take n log) e old)

-- ---- what is taken stood before what stays

named_any : (name : ℕ × ℕ) (names : List (ℕ × ℕ)) → Has names name → list_any (same_name name) names ≡ true
named_any name [] h = absurd h
named_any name (n ∷ ns) h = elim h [
  | inl e ↦ ap (λ b. b || list_any (same_name name) ns) (ap (same_name name) e ∙ same_name-refl name)
  | inr l ↦ ap (λ b. same_name name n || b) (named_any name ns l) ∙ or_true (same_name name n)
]

-- what is taken does not stay
pub taken_goes : (e : Entry) (x : Envelope) → Has e.takes (name_of x) → stays (goes e) x ≡ false
taken_goes e x h =
    ap not (list_any-append (same_name (name_of x)) e.takes (flat_map ended_item e.ends) ∙ ap (λ b. b || list_any (same_name (name_of x)) (flat_map ended_item e.ends)) (named_any (name_of x) e.takes h))

pub passes : {X : Type 0} (p : X → Bool) (xs : List X) (x : X) → Has (filter p xs) x → p x ≡ true
passes {X} p xs x h = Each-has (λ (y : X). p y ≡ true) (filter p xs) x (Each-passing (λ (y : X). p y ≡ true) p (λ y k. k) xs) h

module _ (before : List Entry) (ev : Event) (r : Row) (m : Moves before r) (q : Queue) where
  abbrev e : Entry
  e = entry_of ev r

  pub taken_first : (x y : Envelope) → Has (line before q) x → Has e.takes (name_of x) → Has (line before q) y → stays (goes e) y ≡ true → NameBefore x y
  unfolding line
  taken_first x y has_x takes has_y stay =
      let parts : line before q ≡ filter (stands_in q) (m.taken ++ m.ended) ++ filter (stands_in q) (kept before ev r m) = line-moved before ev r m q in
      let order : Ordered NameBefore (line before q) =
      Ordered-sublist NameBefore (line before q) (live before) (IsSublist-filter (stands_in q) (live before)) (stand_in_order before).0
      in
      let front : Has (filter (stands_in q) (m.taken ++ m.ended)) x =
      elim (Has-either (filter (stands_in q) (m.taken ++ m.ended)) (filter (stands_in q) (kept before ev r m)) x (subst (λ l. Has l x) parts has_x)) [
        | inl a ↦ a
        | inr b ↦
            absurd (false≢true (sym (taken_goes e x takes) ∙ passes (stays (goes e)) (live before) x (Has-of_kept (stands_in q) (kept before ev r m) x b)))
      ]
      in
      let rest : Has (filter (stands_in q) (kept before ev r m)) y =
      Has-kept (stands_in q) (kept before ev r m) y (passes (stands_in q) (live before) y has_y)
      (Has-kept (stays (goes e)) (live before) y stay (Has-of_kept (stands_in q) (live before) y has_y))
      in
      Ordered-parts NameBefore (filter (stands_in q) (m.taken ++ m.ended)) (filter (stands_in q) (kept before ev r m)) x y (subst (Ordered NameBefore) parts order) front rest

  -- what stands in the queue after the entry was put there after what it takes
  after_taken : (x : Envelope) → Has (line before q) x → Has e.takes (name_of x) → Each (λ y. stands_in q y ≡ true → NameBefore x y) (live (before ++ e ∷ []))
  unfolding line
  after_taken x has_x takes =
      let early : x.entry < length before = Each-has (λ (z : Envelope). z.entry < length before) (live before) x (stand_in_order before).1 (Has-of_kept (stands_in q) (live before) x has_x) in
      subst (Each (λ y. stands_in q y ≡ true → NameBefore x y)) (sym (live-append before e))
      (Each-append (λ (y : Envelope). stands_in q y ≡ true → NameBefore x y) (filter (stays (goes e)) (live before)) (placed (length before) 0 e.puts)
      (Each-from_has (λ (y : Envelope). stands_in q y ≡ true → NameBefore x y) (filter (stays (goes e)) (live before)) (λ y has here.
      taken_first x y has_x takes (Has-kept (stands_in q) (live before) y here (Has-of_kept (stays (goes e)) (live before) y has)) (passes (stays (goes e)) (live before) y has)))
      (Each-weaker (λ (y : Envelope). (y.entry ≡ length before) × (0 ≤ y.place)) (λ (y : Envelope). stands_in q y ≡ true → NameBefore x y)
      (λ y k here. before_later x.entry x.place y.entry y.place (let a = k.0 in omega (arith, early, a))) (placed (length before) 0 e.puts) (placed_places (length before) 0 e.puts)))

-- ---- of a lawful log

module _ (configs : List Config) (script : List Event) (log : List Entry) (lawful : IsLawful configs script log) where
  module _ (q : Queue) (x : Envelope) (n : ℕ) (t : IsTakenFrom log q x n) where
    stood : Has (line (take n log) q) x
    stood = Has-get (line (take n log) q) t.stood.0 x t.stood.1

    abbrev AreAfter : List Entry → Type 0
    AreAfter before = Each (λ y. stands_in q y ≡ true → NameBefore x y) (live before)

    early : x.entry < length (take n log)
    unfolding line
    early = Each-has (λ (z : Envelope). z.entry < length (take n log)) (live (take n log)) x (stand_in_order (take n log)).1 (Has-of_kept (stands_in q) (live (take n log)) x stood)

    right_after : AreAfter (take (suc n) log)
    unfolding effect
    right_after =
        let due = entry_due configs script log lawful n t.entry t.at in
        let before = take n log in
        let r = row configs before due.0.at due.0.seed due.0.act in
        let takes : Has r.takes (name_of x) = subst (λ (d : Entry). Has d.takes (name_of x)) due.1 (Has-get t.entry.takes t.takes.0 (name_of x) t.takes.1) in
        subst AreAfter (sym (take_next log n t.entry t.at)) (subst (λ (d : Entry). AreAfter (before ++ d ∷ [])) (sym due.1)
        (after_taken before due.0 r (row_shape configs before due.0.at due.0.seed due.0.act).moves q x stood takes))

    one_more : (k : ℕ) (o : Option Entry) → slice_get log k ≡ o → x.entry < length (take k log) → AreAfter (take k log) → AreAfter (take (suc k) log)
    one_more k None at less h = subst AreAfter (sym (take_no_more log k at)) h
    one_more k (Some e) at less h =
        let before = take k log in
        subst AreAfter (sym (take_next log k e at)) (subst (Each (λ y. stands_in q y ≡ true → NameBefore x y)) (sym (live-append before e))
        (Each-append (λ (y : Envelope). stands_in q y ≡ true → NameBefore x y) (filter (stays (goes e)) (live before)) (placed (length before) 0 e.puts)
        (Each-filter (λ (y : Envelope). stands_in q y ≡ true → NameBefore x y) (stays (goes e)) (live before) h)
        (Each-weaker (λ (y : Envelope). (y.entry ≡ length before) × (0 ≤ y.place)) (λ (y : Envelope). stands_in q y ≡ true → NameBefore x y)
        (λ y i here. before_later x.entry x.place y.entry y.place (let a = i.0 in omega (arith, less, a))) (placed (length before) 0 e.puts) (placed_places (length before) 0 e.puts))))

    length_on : (k : ℕ) (o : Option Entry) → slice_get log k ≡ o → length (take k log) ≤ length (take (suc k) log)
    length_on k None at = let same = ap (λ (l : List Entry). length l) (take_no_more log k at) in omega (arith, same)
    length_on k (Some e) at =
        let same = ap (λ (l : List Entry). length l) (take_next log k e at) in
        let longer = length-append (take k log) (e ∷ []) in
        omega (arith, same, longer)

    -- and at all later times
    abbrev Later : ℕ → Type 0
    Later k = (x.entry < length (take k log)) × AreAfter (take k log)

    after_all : (k : ℕ) → Later (k + suc n)
    after_all zero =
        let more = length_on n (slice_get log n) refl in
        let less = early in
        subst Later (none n) (omega (arith, more, less), right_after)
      where
        none : (n : ℕ) → suc n ≡ 0 + suc n
        none n = omega arith
    after_all (suc k) =
        let old = after_all k in
        let less = old.0 in
        let more = length_on (k + suc n) (slice_get log (k + suc n)) refl in
        subst Later (next n k) (omega (arith, more, less), one_more (k + suc n) (slice_get log (k + suc n)) refl old.0 old.1)
      where
        next : (n k : ℕ) → suc (k + suc n) ≡ suc k + suc n
        next n k = omega arith

  in_queue : (q : Queue) (x : Envelope) (n : ℕ) → Has (line (take n log) q) x → stands_in q x ≡ true
  unfolding line
  in_queue q x n h = passes (stands_in q) (live (take n log)) x h

  in_live : (q : Queue) (x : Envelope) (n : ℕ) → Has (line (take n log) q) x → Has (live (take n log)) x
  unfolding line
  in_live q x n h = Has-of_kept (stands_in q) (live (take n log)) x h

  pub leave_in_order : LeaveInOrder log
  leave_in_order q x y m n a b h = elim (cases_lt n m) [
    | inr le ↦ le
    | inl less ↦
        let gap = m - suc n in
        let same : gap + suc n ≡ m = omega (arith, less) in
        let has : Has (line (take m log) q) x = Has-get (line (take m log) q) a.stood.0 x a.stood.1 in
        let after = subst (λ i. Each (λ z. stands_in q z ≡ true → NameBefore y z) (live (take i log))) same (after_all q y n b gap).1 in
        let other : NameBefore y x = Each-has (λ (z : Envelope). stands_in q z ≡ true → NameBefore y z) (live (take m log)) x after (in_live q x m has) (in_queue q x m has) in
        absurd (not_both x.entry x.place y.entry y.place h other)
  ]

  -- an item is taken once
  pub taken_once : (q : Queue) (x y : Envelope) (m n : ℕ) → IsTakenFrom log q x m → IsTakenFrom log q y n → name_of x ≡ name_of y → m ≡ n
  taken_once q x y m n a b same = elim (cases_lt m n) [
    | inl less ↦ absurd (no_later x y m n a b same less)
    | inr le ↦ elim (cases_lt n m) [ inl more ↦ absurd (no_later y x n m b a (sym same) more) | inr other ↦ omega (arith, le, other) ]
  ]
    where
      no_later : (x y : Envelope) (m n : ℕ) → IsTakenFrom log q x m → IsTakenFrom log q y n → name_of x ≡ name_of y → m < n → ⊥
      no_later x y m n a b same less =
          let gap = n - suc m in
          let there : gap + suc m ≡ n = omega (arith, less) in
          let has : Has (line (take n log) q) y = Has-get (line (take n log) q) b.stood.0 y b.stood.1 in
          let after = subst (λ i. Each (λ z. stands_in q z ≡ true → NameBefore x z) (live (take i log))) there (after_all q x m a gap).1 in
          let later : NameBefore x y = Each-has (λ (z : Envelope). stands_in q z ≡ true → NameBefore x z) (live (take n log)) y after (in_live q y n has) (in_queue q y n has) in
          let twice : is_before (name_of x) (name_of x) ≡ true = subst (λ i. is_before (name_of x) i ≡ true) (sym same) later in
          not_both x.entry x.place x.entry x.place twice twice

  -- ---- what connections put

  -- an item that tells of a connection was put while that lived
  put_alive : (g : Granting) (q : Queue) (conn_of : Envelope → Option ℕ) → ArePutAlive g log q conn_of
      → (x : Envelope) (n : ℕ) → Has (line (take n log) q) x → (c : ℕ) → conn_of x ≡ Some c → IsAmong (g.alive (take x.entry log)) c
  unfolding line
  put_alive g q conn_of alive x n has c tells =
      let put : IsPut (take n log) x = Each-has (IsPut (take n log)) (live (take n log)) x (each_put (take n log)) (Has-of_kept (stands_in q) (live (take n log)) x has) in
      let same : x.queue ≡ q = Each-has (λ (y : Envelope). y.queue ≡ q) (filter (stands_in q) (live (take n log))) x (Each-in_queue q (live (take n log))) has in
      let at : slice_get log x.entry ≡ Some put.entry =
      subst (λ (l : List Entry). slice_get l x.entry ≡ Some put.entry) (take-append-drop n log) (get_longer (take n log) (drop n log) x.entry put.entry put.at)
      in
      alive x put.entry c at (put.put ∙ ap (λ (p : Queue). Some (p, x.item)) same) same tells

  module _ (g : Granting) (turns : EachIsTurn g log) (q : Queue) (conn_of : Envelope → Option ℕ) (alive : ArePutAlive g log q conn_of) where
    put_earlier : (x y : Envelope) (b c m n : ℕ) → IsTakenFrom log q x m → IsTakenFrom log q y n → conn_of x ≡ Some b → conn_of y ≡ Some c → b < c → x.entry < y.entry
    put_earlier x y b c m n s t tells_x tells_y less = elim (cases_lt x.entry y.entry) [
      | inl before ↦ before
      | inr after ↦
          let b_lives = put_alive g q conn_of alive x m (stood q x m s) b tells_x in
          let c_lives = put_alive g q conn_of alive y n (stood q y n t) c tells_y in
          let older : c ≤ b = not_older g log turns y.entry x.entry b c c_lives b_lives after in
          absurd (omega (arith, older, less))
    ]

    pub older_leave_first : OlderLeaveFirst log q conn_of
    older_leave_first x y b c m n e s t at takes tells_x tells_y less = elim (cases_lt m n) [
      | inl before ↦ before
      | inr after ↦
          let put = put_earlier x y b c m n s t tells_x tells_y less in
          let order : is_before (name_of x) (name_of y) ≡ true = before_later x.entry x.place y.entry y.place put in
          let no_later : m ≤ n = leave_in_order q x y m n s t order in
          let same : m ≡ n = omega (arith, after, no_later) in
          let entries : s.entry ≡ e = same_Some s.entry e (sym s.at ∙ (ap (slice_get log) same ∙ at)) in
          let names : Has (name_of y ∷ []) (name_of x) =
          subst (λ (l : List (ℕ × ℕ)). Has l (name_of x)) takes (subst (λ (d : Entry). Has d.takes (name_of x)) entries (Has-get s.entry.takes s.takes.0 (name_of x) s.takes.1))
          in
          let one : name_of y ≡ name_of x = elim names [ inl h ↦ h | inr h ↦ absurd h ] in
          let numbers : y.entry ≡ x.entry = ap (λ (i : ℕ × ℕ). i.0) one in
          absurd (omega (arith, numbers, put))
    ]
