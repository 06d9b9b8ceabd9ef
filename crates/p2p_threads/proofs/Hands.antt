-- What a seat has in hand, from one step to the next.
use Rattle.std.proofs.Common.{◌≡◌, ℕ, ◌<◌, ◌^◌, List, [], ◌∷◌, ◌++◌, length, Option, Some, None, false, refl, sym, ap, ◌∙◌, subst, arith, length-append}
use Rattle.std.proofs.lemmas.List.{append-nil}
use mathlib.Core.Option.{some}
use mathlib.Core.List.{IsPrefix}
use Rattle.atomic_table.specs.Seated.{TableId}
use Rattle.atomic_table.specs.Table.{rest}
use Rattle.atomic_table.specs.declared.badge.Badge.{Badge}
use Rattle.p2p_threads.specs.declared.board.Cell.{Cell}
use Rattle.p2p_threads.specs.declared.board.Sight.{Sight}
use Rattle.p2p_threads.specs.History.{longer, shorter}
use Rattle.p2p_threads.specs.Turns.{founding, watcher, merged, naming, entering, keeping, learning, recording, leaving, Keeps}
use Rattle.p2p_threads.specs.Seats.{CanGive, CanRaise, CanLeave, Called, Watched, Back}
use Rattle.p2p_threads.specs.Steps.{Mine, Inside, Taken}
use Rattle.p2p_threads.proofs.Histories.{after-push, replays-push, longer_whole}

pub same_some : {E : Type 0} (t : Option E) (x y : E) → t ≡ Some x → t ≡ Some y → x ≡ y
same_some t x y p q = let r : Some x ≡ Some y = sym p ∙ q in cc (r)

module _ {O C R : Type 0} where
  abbrev slot_or : Option (Cell O C R) → List (ℕ × Option (Cell O C R)) → Option (Cell O C R)
  slot_or x (y ∷ l) = y.1
  slot_or x [] = x

  pub same_slot : (l a b : List (ℕ × Option (Cell O C R))) (x y : Option (Cell O C R)) → l ≡ (0, x) ∷ a → l ≡ (0, y) ∷ b → x ≡ y
  same_slot l a b x y e f = ap (λ (k : List (ℕ × Option (Cell O C R))). slot_or x k) (sym e ∙ f)

  pub same_cell : (l a b : List (ℕ × Option (Cell O C R))) (c d : Cell O C R) → l ≡ (0, Some c) ∷ a → l ≡ (0, Some d) ∷ b → c ≡ d
  same_cell l a b c d e f = let s = same_slot l a b (Some c) (Some d) e f in cc (s)

  -- a list that begins with the slot is that beginning and its rest
  pub in_front : (l a : List (ℕ × Option (Cell O C R))) (x : Option (Cell O C R)) → l ≡ (0, x) ∷ a → l ≡ (0, x) ∷ rest l
  in_front l a x e = e ∙ ap (λ (k : List (ℕ × Option (Cell O C R))). (0, x) ∷ rest k) (sym e)

  pub same_view : (l : List (Sight O C R)) (v w : Sight O C R) → l ≡ v ∷ [] → l ≡ w ∷ [] → v ≡ w
  same_view l v w p q = let r : v ∷ [] ≡ w ∷ [] = sym p ∙ q in cc (r)

  -- with the slot's seat, the history was seen
  pub learned : (m p : Mine O C R) (w : Sight O C R) (h : List (C × R)) (b : Badge (Sight O C R)) → Keeps m.0.table h b → IsPrefix m.0.seen h → b.views ≡ w ∷ [] → p ≡ (merged m.0 w, m.1) → p ≡ (learning m.0 h, m.1)
  learned m p w h b k begins views is =
      let same = same_view b.views w k.sight views k.view in
      let seen : w.seen ≡ h = ap (λ (x : Sight O C R). x.seen) same ∙ k.seen in
      let made : w.made ≡ [] = ap (λ (x : Sight O C R). x.made) same ∙ k.made in
      let whole = longer_whole m.0.seen h begins in
      let seen' : longer m.0.seen w.seen ≡ h = ap (λ (l : List (C × R)). longer m.0.seen l) seen ∙ whole.0 in
      let told' : shorter m.0.seen w.seen ≡ m.0.seen = ap (λ (l : List (C × R)). shorter m.0.seen l) seen ∙ whole.1 in
      let made' : m.0.made ++ w.made ≡ m.0.made = ap (λ (l : List (ℕ × (C × R))). m.0.made ++ l) made ∙ append-nil m.0.made in
      is ∙ (λ i. (record { first = m.0.first; table = m.0.table; inside = m.0.inside; kept = m.0.kept; seen = seen' i; told = told' i; made = made' i }, m.1))

  -- the cell was put into the slot
  pub put_in : (m s q : Mine O C R) (c : Cell O C R) → m.1 ≡ (0, None) ∷ [] → s ≡ (m.0, m.1) → q ≡ (s.0, (0, Some c) ∷ rest s.1) → q ≡ (m.0, (0, Some c) ∷ [])
  put_in m s q c hand split is = is ∙ ap (λ (x : Mine O C R). (x.0, (0, Some c) ∷ rest x.1)) split ∙ ap (λ (l : List (ℕ × Option (Cell O C R))). (m.0, (0, Some c) ∷ rest l)) hand

  -- the entry that the cell in hand has was recorded
  pub recorded : (m p q : Mine O C R) (c : Cell O C R) (e : C × R) → p ≡ (m.0, (0, Some c) ∷ []) → ((d : Cell O C R) (x : C × R) → p.1 ≡ (0, Some d) ∷ [] → d.history.items ≡ p.0.seen ++ x ∷ [] → q ≡ (recording p.0 x, p.1))
      → c.history.items ≡ m.0.seen ++ e ∷ [] → q ≡ (recording m.0 e, (0, Some c) ∷ [])
  recorded m p q c e put tell items =
      tell c e (ap (λ (x : Mine O C R). x.1) put) (items ∙ ap (λ (x : Mine O C R). x.0.seen ++ e ∷ []) (sym put)) ∙ ap (λ (x : Mine O C R). (recording x.0 e, x.1)) put

  -- the first seat knows the table, and filled the slot
  abbrev pub Learns : Cell O C R → Mine O C R → Mine O C R → Type 0
  Learns c s p = (d : Cell O C R) → some (Some c) ≡ some (Some d) → p ≡ (naming s.0 d.seat.table_id, (0, None) ∷ s.1)

  pub named : (m s p : Mine O C R) (o : O) (c : Cell O C R) (z : TableId) → m ≡ (founding o, []) → s ≡ (m.0, m.1) → Learns c s p → c.seat.table_id ≡ z → p ≡ (naming (founding o) z, (0, None) ∷ [])
  named m s p o c z is split tell at =
      let first : s ≡ (founding o, []) = split ∙ ap (λ (x : Mine O C R). (x.0, x.1)) is in
      tell c refl ∙ (λ i. (naming (first i).0 (at i), (0, None) ∷ (first i).1))

  pub filled : (m s p q : Mine O C R) (o : O) (c : Cell O C R) (z : TableId) → m ≡ (founding o, []) → s ≡ (m.0, m.1) → Learns c s p → c.seat.table_id ≡ z → q ≡ (p.0, (0, Some c) ∷ rest p.1) → q ≡ (naming (founding o) z, (0, Some c) ∷ [])
  filled m s p q o c z is split tell at put = put ∙ ap (λ (x : Mine O C R). (x.0, (0, Some c) ∷ rest x.1)) (named m s p o c z is split tell at)

-- what follows of a call from its start to its end
module _ {O C R : Type 0} (reply : O → C → R) (next : O → C → O) where
  inside_kept : (v : Sight O C R) (n : ℕ) (c : Cell O C R) → Inside reply next v c → Inside reply next (keeping (entering v) n) c
  inside_kept v n c i = record { begins = i.begins; object = i.object; replays = i.replays; seat = i.seat }

  -- the cell came out of the slot
  pub emptied : (m n q p : Mine O C R) (c d : Cell O C R) (x : Option (Cell O C R)) (r : ℕ) → n ≡ (entering m.0, m.1) → m.1 ≡ [] → Taken reply next n r q c → q.1 ≡ (0, x) ∷ rest q.1 → x ≡ Some d → p ≡ (q.0, (0, None) ∷ rest q.1)
      → (p ≡ (keeping (entering m.0) r, (0, None) ∷ [])) × (r ≡ length d.history.items) × Inside reply next m.0 d
  emptied m n q p c d x r enters none_yet taken front found is =
      let whole : q ≡ (keeping (entering m.0) r, (0, Some c) ∷ []) = taken.0 ∙ ap (λ (x : Mine O C R). (keeping x.0 r, (0, Some c) ∷ x.1)) enters ∙ ap (λ (l : List (ℕ × Option (Cell O C R))). (keeping (entering m.0) r, (0, Some c) ∷ l)) none_yet in
      let same = same_cell q.1 [] (rest q.1) c d (ap (λ (x : Mine O C R). x.1) whole) (front ∙ ap (λ (y : Option (Cell O C R)). (0, y) ∷ rest q.1) found) in
      let i : Inside reply next (entering m.0) c = subst (λ (x : Mine O C R). Inside reply next x.0 c) enters taken.2 in (
        is ∙ ap (λ (x : Mine O C R). (x.0, (0, None) ∷ rest x.1)) whole,
        taken.1 ∙ ap (λ (x : Cell O C R). length x.history.items) same,
        subst (λ (x : Cell O C R). Inside reply next m.0 x) same record { begins = i.begins; object = i.object; replays = i.replays; seat = i.seat },
      )

  pub still_inside : (m p : Mine O C R) (c : Cell O C R) (n : ℕ) → Inside reply next m.0 c → p ≡ (keeping (entering m.0) n, (0, None) ∷ []) → Inside reply next p.0 c
  still_inside m p c n i is = subst (λ (x : Mine O C R). Inside reply next x.0 c) (sym is) (inside_kept m.0 n c i)

  pub same_raise : (m p : Mine O C R) (l : List (ℕ × Option (Cell O C R))) (c : Cell O C R) (e : C × R) → p ≡ (m.0, l) → CanRaise reply next m.0 c e → CanRaise reply next p.0 c e
  same_raise m p l c e is r = subst (λ (x : Mine O C R). CanRaise reply next x.0 c e) (sym is) r

  -- the cell that can be given back is in hand, with a seat that has seen as much
  pub can_leave : (m p : Mine O C R) (c d : Cell O C R) (u : Sight O C R) (z : TableId) → CanGive reply next m.0 c → m.0.table ≡ Some z → p ≡ (m.0, (0, Some d) ∷ []) → d.object ≡ c.object → d.history.items ≡ c.history.items
      → d.seat.table_id ≡ z → d.seat.views ≡ u ∷ [] → u.inside ≡ false → u.seen ≡ m.0.seen → u.made ≡ [] → CanLeave reply next p
  can_leave m p c d u z g table is object items at views out seen made = subst (CanLeave reply next) (sym is) record {
    cell = d;
    hand = refl;
    gives = record { first = g.first; from = g.from; inside = g.inside; kept = g.kept; history = items ∙ g.history; object = object ∙ g.object };
    seat = record { sight = u; view = views; table = table ∙ ap (λ (x : TableId). Some x) (sym at); outside = out; seen = seen; made = made };
  }

  pub given_leaves : (m s q u : Mine O C R) (c d : Cell O C R) (z : TableId) → CanGive reply next m.0 c → m.0.table ≡ Some z → m.1 ≡ (0, None) ∷ [] → s ≡ (m.0, m.1) → q ≡ (s.0, (0, Some d) ∷ rest s.1)
      → d.object ≡ c.object → d.history.items ≡ c.history.items → d.seat.table_id ≡ z → d.seat.views ≡ u.0 ∷ [] → u ≡ (watcher m.0, []) → CanLeave reply next q
  given_leaves m s q u c d z g named hand split put object items at views watches =
      can_leave m q c d u.0 z g named (put_in m s q d hand split put) object items at views
      (ap (λ (x : Mine O C R). x.0.inside) watches)
      (ap (λ (x : Mine O C R). x.0.seen) watches)
      (ap (λ (x : Mine O C R). x.0.made) watches)

  -- a seat inside that has seen the history h, whose length is n
  abbrev pub Serving : Mine O C R → List (C × R) → ℕ → Mine O C R → Type 0
  Serving m h n q = q ≡ (learning (keeping (entering m.0) n) h, (0, None) ∷ [])

  pub serving : (m p q : Mine O C R) (h : List (C × R)) (n : ℕ) → p ≡ (keeping (entering m.0) n, (0, None) ∷ []) → q ≡ (learning p.0 h, p.1) → Serving m h n q
  serving m p q h n is join = join ∙ ap (λ (x : Mine O C R). (learning x.0 h, x.1)) is

  pub refused_gives : (m q : Mine O C R) (c d : Cell O C R) (n : ℕ) (o : O) → m.0.first ≡ Some o → Inside reply next m.0 c → n ≡ length c.history.items → Serving m c.history.items n q → d.object ≡ c.object → d.history.items ≡ c.history.items → CanGive reply next q.0 d
  refused_gives m q c d n o from here length is object items = subst (λ (x : Mine O C R). CanGive reply next x.0 d) (sym is) record {
    first = o;
    from = from;
    inside = refl;
    kept = ap (λ (k : ℕ). Some k) length;
    history = items;
    object = object ∙ here.object o from;
  }

  pub served_raises : (m q : Mine O C R) (c d : Cell O C R) (n : ℕ) (o : O) (e : C × R) → m.0.first ≡ Some o → Inside reply next m.0 c → n ≡ length c.history.items → Serving m c.history.items n q
      → d.object ≡ next c.object e.0 → d.history.items ≡ c.history.items ++ e ∷ [] → e.1 ≡ reply c.object e.0 → length d.history.items < 2 ^ 64 → CanRaise reply next q.0 d e
  served_raises m q c d n o e from here is_length is object items replied room = subst (λ (x : Mine O C R). CanRaise reply next x.0 d e) (sym is) record {
    first = o;
    from = from;
    inside = refl;
    kept = ap (λ (k : ℕ). Some k) is_length;
    history = items;
    replied = replied ∙ ap (λ (x : O). reply x e.0) (here.object o from);
    object = object ∙ ap (λ (x : O). next x e.0) (here.object o from);
    room = (let l = ap (λ (l : List (C × R)). length l) items in omega (arith, length-append c.history.items (e ∷ [])));
  }

  pub raised_gives : (m q : Mine O C R) (c d : Cell O C R) (e : C × R) → CanRaise reply next m.0 c e → d ≡ c → q ≡ (recording m.0 e, (0, None) ∷ []) → CanGive reply next q.0 d
  raised_gives m q c d e r same is = subst (λ (x : Mine O C R × Cell O C R). CanGive reply next x.0.0 x.1) (λ i. (sym is i, sym same i)) record {
    first = r.first;
    from = r.from;
    inside = r.inside;
    kept = ap (λ (n : ℕ). Some n) (let l = length-append m.0.seen (e ∷ []) in omega arith);
    history = r.history;
    object = r.object ∙ sym (after-push reply next r.first m.0.seen e);
  }

  pub refused_back : (m q z : Mine O C R) (c : Cell O C R) (n : ℕ) → Inside reply next m.0 c → Serving m c.history.items n q → z ≡ (leaving q.0, []) → Back reply next m z
  refused_back m q z c n here is end = let whole = end ∙ ap (λ (y : Mine O C R). (leaving y.0, [])) is in
      subst (Back reply next m) (sym whole) record { first = refl; table = refl; inside = refl; told = refl; hand = refl; replays = here.replays }

  pub refused_watched : (m q z : Mine O C R) (c : Cell O C R) (n : ℕ) → Inside reply next m.0 c → Serving m c.history.items n q → z ≡ (leaving q.0, []) → Watched m z
  refused_watched m q z c n here is end = let whole = end ∙ ap (λ (y : Mine O C R). (leaving y.0, [])) is in
      subst (Watched m) (sym whole) record { begins = here.begins; made = refl }

  served_view : (m q y z : Mine O C R) (h : List (C × R)) (n : ℕ) (e : C × R) → Serving m h n q → y ≡ (recording q.0 e, (0, None) ∷ []) → z ≡ (leaving y.0, []) → z ≡ (leaving (recording (learning (keeping (entering m.0) n) h) e), [])
  served_view m q y z h n e is raise end = end ∙ ap (λ (x : Mine O C R). (leaving x.0, [])) raise ∙ ap (λ (x : Mine O C R). (leaving (recording x.0 e), [])) is

  pub served_back : (m q y z : Mine O C R) (c : Cell O C R) (n : ℕ) (e : C × R) → Inside reply next m.0 c → Serving m c.history.items n q → e.1 ≡ reply c.object e.0 → y ≡ (recording q.0 e, (0, None) ∷ []) → z ≡ (leaving y.0, []) → Back reply next m z
  served_back m q y z c n e here is replied raise end = subst (Back reply next m) (sym (served_view m q y z c.history.items n e is raise end)) record {
    first = refl;
    table = refl;
    inside = refl;
    told = refl;
    hand = refl;
    replays = λ o from. replays-push reply next o c.history.items e (here.replays o from) (replied ∙ ap (λ (x : O). reply x e.0) (here.object o from));
  }

  pub served_called : (m q y z : Mine O C R) (c d : Cell O C R) (n : ℕ) (e : C × R) → Inside reply next m.0 c → n ≡ length c.history.items → Serving m c.history.items n q → d.history.items ≡ c.history.items ++ e ∷ [] → length d.history.items < 2 ^ 64
      → y ≡ (recording q.0 e, (0, None) ∷ []) → z ≡ (leaving y.0, []) → Called m z n e
  served_called m q y z c d n e here place is items room raise end = subst (λ (x : Mine O C R). Called m x n e) (sym (served_view m q y z c.history.items n e is raise end)) record {
    before = c.history.items;
    begins = here.begins;
    place = place;
    seen = refl;
    made = ap (λ (k : ℕ). m.0.made ++ (k, e) ∷ []) (sym place);
    room = (let l = ap (λ (l : List (C × R)). length l) items in omega (arith, length-append c.history.items (e ∷ [])));
  }

  pub filled_leaves : (m s p q u : Mine O C R) (o : O) (c : Cell O C R) (z : TableId) → m ≡ (founding o, []) → s ≡ (m.0, m.1) → Learns c s p → c.seat.table_id ≡ z → q ≡ (p.0, (0, Some c) ∷ rest p.1)
      → c.object ≡ o → c.history.items ≡ [] → c.seat.views ≡ u.0 ∷ [] → u ≡ (watcher m.0, []) → CanLeave reply next q
  filled_leaves m s p q u o c z is split tell at put object none_yet views watches =
      let watching : u ≡ (watcher (founding o), []) = watches ∙ ap (λ (x : Mine O C R). (watcher x.0, [])) is in
      can_leave (naming (founding o) z, []) q c c u.0 z record { first = o; from = refl; inside = refl; kept = refl; history = none_yet; object = object } refl (filled m s p q o c z is split tell at put) refl refl at views
      (ap (λ (x : Mine O C R). x.0.inside) watching)
      (ap (λ (x : Mine O C R). x.0.seen) watching)
      (ap (λ (x : Mine O C R). x.0.made) watching)
