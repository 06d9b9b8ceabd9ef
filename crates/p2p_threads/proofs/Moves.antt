-- Each step keeps the rule.
use Rattle.std.proofs.Common.{◌≡◌, ◌≢◌, ℕ, zero, suc, ◌+◌, ◌%◌, ◌^◌, ◌<◌, ◌≤◌, eqb, true, false, List, [], ◌∷◌, ◌++◌, length, set, get_or, Option, Some, None, refl, sym, ap, ◌∙◌, subst, inl, inr, arith, length-append}
use mathlib.Core.Option.{some, none}
use mathlib.Core.Option as maybe
use mathlib.Core.Logic.{dite}
use native.Mathlib.Decide.{ℕ_discrete}
use mathlib.Core.List.{IsPrefix}
use prog.Atomic.{either}
use lib.ListN.{get_elem?}
use Rattle.atomic_table.specs.Seated.{TableId}
use Rattle.atomic_table.specs.Table.{State, Act, step, keeps, takes, gives, put_back, Valid, carried_after, stepped, opening, Allows, Splits, Joins}
use Rattle.atomic_table.proofs.Lists.{set_else, exchanged}
use Rattle.p2p_threads.specs.declared.board.Cell.{Cell}
use Rattle.p2p_threads.specs.declared.board.Sight.{Sight}
use Rattle.p2p_threads.specs.History.{after, Replays, weight, times}
use Rattle.p2p_threads.specs.Turns.{total, amount, founding, watcher, spent, merged, naming, entering, keeping, recording, leaving, settled, Fits, Keeps, inside_of, kept_of, times_of, IsSlot, Ruled}
use Rattle.p2p_threads.specs.Steps.{Mine, opened, entered, measured, raised, left, checked}
use Rattle.p2p_threads.specs.Seats.{CanRaise, CanLeave}
use Rattle.p2p_threads.proofs.Hands.{same_cell}
use Rattle.p2p_threads.proofs.Sights.{outside, apart, same_said, keeps_same, outside_kept, longer_fits, named_fits, founding_fits, named_self, entering_fits, recording_fits, all_seen, leaving_fits, watcher_fits, merged_fits, spent_fits}
use Rattle.p2p_threads.proofs.Histories.{begins_none, begins_length, begins_shorter, same_last, replays-push}
use Rattle.p2p_threads.proofs.Places.{times-append, times-one, times-other, times-past}
use Rattle.p2p_threads.proofs.Totals.{total-set, total-snoc, total-at, total-none, total-others, total-alone, each-set, each-snoc}

abbrev Slots : Type 0 → Type 0 → Type 0 → Type 0
Slots O C R = State (Option (Cell O C R)) (Sight O C R)

module _ {O C R : Type 0} where
  module _ (reply : O → C → R) (next : O → C → O) (o : O) where
    abbrev Law : Slots O C R → Type 0
    Law s = Ruled reply next o s

    abbrev Homes : Type 0
    Homes = List (maybe.Option (Option (Cell O C R)))

    -- until the first seat knows the table, the slot is empty
    empty_yet : (t : Option TableId) (h : List (C × R)) (away : ℕ) (homes : Homes) → t ≡ None → IsSlot reply next o t h away homes → (homes ≡ some None ∷ []) × (away ≡ 1)
    empty_yet t h away homes unknown (inl p) = (p.0, p.2)
    empty_yet t h away homes unknown (inr (inl p)) = absurd (p.1 unknown)
    empty_yet t h away homes unknown (inr (inr (c, home, z, object, items, seat))) = absurd (apart t c.seat.table_id unknown seat.table)

    -- while a seat keeps a length, the slot is away
    in_hand : (t : Option TableId) (z : TableId) (h : List (C × R)) (away : ℕ) (homes : Homes) → t ≡ Some z → 0 < away → IsSlot reply next o t h away homes → (homes ≡ none ∷ []) × (t ≢ None) × (away ≡ 1)
    in_hand t z h away homes named lt (inl p) = absurd (apart t z p.1 named)
    in_hand t z h away homes named lt (inr (inl p)) = p
    in_hand t z h away homes named lt (inr (inr (c, home, none_away, object, items, seat))) = absurd (omega arith)

    abbrev AtHome : Option TableId → List (C × R) → ℕ → Homes → Type 0
    AtHome t h away homes = (c : Cell O C R) × (homes ≡ some (Some c) ∷ []) × (away ≡ 0) × (c.object ≡ after reply next o h) × (c.history.items ≡ h) × Keeps t h c.seat

    at_home : (t : Option TableId) (z : TableId) (h : List (C × R)) (away : ℕ) (homes : Homes) → t ≡ Some z → away ≡ 0 → IsSlot reply next o t h away homes → AtHome t h away homes
    at_home t z h away homes named none_away (inl p) = absurd (apart t z p.1 named)
    at_home t z h away homes named none_away (inr (inl p)) = let one = p.2 in absurd (omega arith)
    at_home t z h away homes named none_away (inr (inr p)) = p

    pub opens : Law (opening (1 ∷ 0 ∷ []) (None ∷ []) (founding o))
    opens = record {
      history = [];
      table = None;
      busy = 1;
      away = 1;
      words = refl;
      bar = omega arith;
      replays = refl;
      inside = refl;
      kept = refl;
      once = λ p. omega arith;
      each = founding_fits o;
      slot = inl (refl, refl, refl);
    }

    -- a step that changes one view, and neither its part of the sums nor the words
    looks : (s : Slots O C R) (k : Law s) (i id : ℕ) (m : List (ℕ × Option (Cell O C R))) (v w : Sight O C R) → i < 2 → get_elem? s.views id ≡ some v
        → w.inside ≡ v.inside → w.kept ≡ v.kept → w.made ≡ v.made → Fits o k.table k.history w → Law (stepped s i (get_or s.words i 0) id m w keeps)
    looks s k i id m v w lt at inside kept made fits = record {
      history = k.history;
      table = k.table;
      busy = k.busy;
      away = k.away;
      words = same i lt;
      bar = k.bar;
      replays = k.replays;
      inside = (let t = total-set inside_of s.views id v w at in let is : inside_of w ≡ inside_of v = ap weight inside in let sum = k.inside in omega arith);
      kept = (let t = total-set kept_of s.views id v w at in let is : kept_of w ≡ kept_of v = ap amount kept in let sum = k.kept in omega arith);
      once = λ p. (let t = total-set (times_of p) s.views id v w at in let is : times_of p w ≡ times_of p v = ap (times p) made in let sum = k.once p in omega arith);
      each = each-set (Fits o k.table k.history) s.views id w (λ j u ne e. k.each j u e) fits;
      slot = k.slot;
    }
      where
        same : (j : ℕ) → j < 2 → set s.words j (get_or s.words j 0) ≡ k.busy ∷ length k.history ∷ []
        same zero lt = ap (λ ws. set ws 0 (get_or ws 0 0)) k.words
        same (suc zero) lt = ap (λ ws. set ws 1 (get_or ws 1 0)) k.words
        same (suc (suc j)) lt = absurd (omega arith)

    -- the seat that is inside is the one
    alone : (s : Slots O C R) (k : Law s) (id : ℕ) (v : Sight O C R) → get_elem? s.views id ≡ some v → v.inside ≡ true → (total inside_of s.views ≡ inside_of v) × (k.busy ≡ 1)
    alone s k id v at here =
        let mine : inside_of v ≡ 1 = ap weight here in
        let one = total-at inside_of s.views id v at in
        let sum = k.inside in
        let bar = k.bar in (omega arith, omega arith)

    others_out : (s : Slots O C R) (k : Law s) (id : ℕ) (v : Sight O C R) → get_elem? s.views id ≡ some v → v.inside ≡ true → (j : ℕ) (u : Sight O C R) → j ≢ id → get_elem? s.views j ≡ some u → u.inside ≡ false
    others_out s k id v at here j u ne there = outside u.inside (total-others inside_of s.views id v at (alone s k id v at here).0 j u ne there)

    pub names : (slots id : ℕ) (me : Mine O C R) (c : Cell O C R) → me.0.inside ≡ true → me.0.table ≡ None
        → Allows Law slots id me 0 (λ x. either (eqb x 1) 1 x) (opened (step slots 0 1 1 (some (Some c))) me)
    names slots id me c here unknown s k _ at _ =
        let x : ℕ = get_or s.words 0 0 in
        let is : x ≡ k.busy = ap (λ ws. get_or ws 0 0) k.words in
        let f = k.each id me.0 at in
        let none_know : k.table ≡ None = f.opens here unknown in
        let z = c.seat.table_id in
        let w = naming me.0 z in
        let home = empty_yet k.table k.history k.away s.homes none_know k.slot in
        exchanged x 1 1
        (λ y. (w : Sight O C R) × (a : Act (Option (Cell O C R))) × Valid s.homes me.1 a × Law (stepped s 0 y id me.1 w a) × opened (step slots 0 1 1 (some (Some c))) me x (w, carried_after me.1 a))
        (λ _. (
          w,
          takes 0 None,
          ap (λ hs. get_elem? hs 0) home.0,
          record {
            history = k.history;
            table = Some z;
            busy = 1;
            away = k.away;
            words = ap (λ ws. set ws 0 1) k.words;
            bar = omega arith;
            replays = k.replays;
            inside = (let t = total-set inside_of s.views id me.0 w at in let sum = k.inside in let b = (alone s k id me.0 at here).1 in omega arith);
            kept = (let t = total-set kept_of s.views id me.0 w at in let sum = k.kept in omega arith);
            once = λ p. (let t = total-set (times_of p) s.views id me.0 w at in let sum = k.once p in omega arith);
            each = each-set (Fits o (Some z) k.history) s.views id w
                (λ j u ne there. named_fits o k.table z k.history u none_know (others_out s k id me.0 at here j u ne there) (k.each j u there))
                (named_self o k.table z k.history me.0 here none_know f);
            slot = inr (inl (ap (λ hs. set hs 0 none) home.0, (λ e. absurd (cc (e))), home.1));
          },
          λ d e. ap (λ (y : Cell O C R). (naming me.0 y.seat.table_id, (0, None) ∷ me.1)) (same_said c d e),
        ))
        (λ ne. absurd (ne (is ∙ (alone s k id me.0 at here).1)))

    pub enters : (slots id : ℕ) (me : Mine O C R) (z : TableId) → me.0.inside ≡ false → me.0.table ≡ Some z
        → Allows Law slots id me 0 (λ x. either (eqb x 0) 1 x) (entered (step slots 0 0 1 none) me)
    enters slots id me z out named s k _ at _ =
        let x : ℕ = get_or s.words 0 0 in
        let is : x ≡ k.busy = ap (λ ws. get_or ws 0 0) k.words in
        let f = k.each id me.0 at in
        let w = entering me.0 in
        exchanged x 0 1
        (λ y. (w : Sight O C R) × (a : Act (Option (Cell O C R))) × Valid s.homes me.1 a × Law (stepped s 0 y id me.1 w a) × entered (step slots 0 0 1 none) me x (w, carried_after me.1 a))
        (λ free. (
          w,
          keeps,
          tt,
          record {
            history = k.history;
            table = k.table;
            busy = 1;
            away = k.away;
            words = ap (λ ws. set ws 0 1) k.words;
            bar = omega arith;
            replays = k.replays;
            inside = (let t = total-set inside_of s.views id me.0 w at in let none_in : inside_of me.0 ≡ 0 = ap weight out in let sum = k.inside in omega arith);
            kept = (let t = total-set kept_of s.views id me.0 w at in let none_kept = outside_kept o k.table k.history me.0 out f in let sum = k.kept in omega arith);
            once = λ p. (let t = total-set (times_of p) s.views id me.0 w at in let sum = k.once p in omega arith);
            each = each-set (Fits o k.table k.history) s.views id w (λ j u ne e. k.each j u e) (entering_fits o k.table z k.history me.0 named f);
            slot = k.slot;
          },
          ((λ _. refl), λ not. absurd (not free)),
        ))
        (λ busy. (me.0, keeps, tt, looks s k 0 id me.1 me.0 me.0 (omega arith) at refl refl refl f, ((λ free. absurd (busy free)), λ _. refl)))

    pub measures : (slots id : ℕ) (me : Mine O C R) (z : TableId) → me.0.inside ≡ true → me.0.kept ≡ None → me.0.table ≡ Some z
        → Allows Law slots id me 1 (λ x. x) (measured reply next (step slots 1 0 0 none) me)
    measures slots id me z here none_kept named s k _ at _ =
        let x : ℕ = get_or s.words 1 0 in
        let is : x ≡ length k.history = ap (λ ws. get_or ws 1 0) k.words in
        let f = k.each id me.0 at in
        let w = keeping me.0 x in
        let told = f.table z named in
        let mine : kept_of me.0 ≡ 0 = ap amount none_kept in
        let all = total-alone kept_of inside_of s.views id me.0 at (alone s k id me.0 at here).0 (λ j u there out. outside_kept o k.table k.history u (outside u.inside out) (k.each j u there)) in
        let sum = k.kept in
        let home = at_home k.table z k.history k.away s.homes told (omega arith) k.slot in
        let c = home.0 in
        let items : c.history.items ≡ k.history = home.4 in (
          w,
          takes 0 (Some c),
          ap (λ hs. get_elem? hs 0) home.1,
          record {
            history = k.history;
            table = k.table;
            busy = k.busy;
            away = 1;
            words = ap (λ ws. set ws 1 (get_or ws 1 0)) k.words;
            bar = k.bar;
            replays = k.replays;
            inside = (let t = total-set inside_of s.views id me.0 w at in let sum = k.inside in omega arith);
            kept = (let t = total-set kept_of s.views id me.0 w at in omega arith);
            once = λ p. (let t = total-set (times_of p) s.views id me.0 w at in let sum = k.once p in omega arith);
            each = each-set (Fits o k.table k.history) s.views id w (λ j u ne e. k.each j u e) record {
              first = f.first;
              table = f.table;
              opens = f.opens;
              seen = f.seen;
              told = f.told;
              kept = λ n e. (here, (let same : x ≡ n = cc in omega arith));
              made = f.made;
            };
            slot = inr (inl (ap (λ hs. set hs 0 none) home.1, (λ e. absurd (apart k.table z e told)), refl));
          },
          (
            c,
            (
              refl,
              is ∙ ap (λ (l : List (C × R)). length l) (sym items),
              record {
                begins = subst (λ (l : List (C × R)). IsPrefix me.0.seen l) (sym items) f.seen;
                object = λ y e. home.3 ∙ (λ i. after reply next (sym (f.first y e) i) (sym items i));
                replays = λ y e. subst (λ (z : O × List (C × R)). Replays reply next z.0 z.1) (λ i. (sym (f.first y e) i, sym items i)) k.replays;
                seat = keeps_same k.table me.0.table k.history c.history.items c.seat (told ∙ sym named) (sym items) home.5;
              },
            ),
          ),
        )

    pub checks : (slots id : ℕ) (me : Mine O C R) → Allows Law slots id me 1 (λ x. x) (checked (step slots 1 0 0 none) me)
    checks slots id me s k _ at _ =
        let x : ℕ = get_or s.words 1 0 in
        let is : x ≡ length k.history = ap (λ ws. get_or ws 1 0) k.words in
        let f = k.each id me.0 at in
        let w = settled me.0 in (
          w,
          keeps,
          tt,
          looks s k 1 id me.1 me.0 w (omega arith) at refl refl refl record {
            first = f.first;
            table = f.table;
            opens = f.opens;
            seen = f.seen;
            told = begins_none k.history;
            kept = f.kept;
            made = f.made;
          },
          (
            refl,
            (let b = begins_length me.0.seen k.history f.seen in omega arith),
            (λ le. begins_shorter me.0.told me.0.seen k.history f.told f.seen le),
            λ p. (let t = total-at (times_of p) s.views id me.0 at in let sum = k.once p in omega arith),
          ),
        )

    -- no other seat made a call at the new place
    recorded_once : (t : Option TableId) (h : List (C × R)) (l : List (Sight O C R)) (id : ℕ) (v : Sight O C R) (e : C × R) → v.seen ≡ h → get_elem? l id ≡ some v
        → ((i : ℕ) (u : Sight O C R) → get_elem? l i ≡ some u → Fits o t h u) → ((p : ℕ) → total (times_of p) l ≤ 1) → (p : ℕ) → total (times_of p) (set l id (recording v e)) ≤ 1
    recorded_once t h l id v e now at each once p =
        let s = total-set (times_of p) l id v (recording v e) at in
        let a = times-append p v.made ((length v.seen, e) ∷ []) in
        let sum = once p in
        let n = ap (λ (l : List (C × R)). length l) now in
        dite (ℕ_discrete (length v.seen) p)
        (λ is. let empty = total-none (times_of p) l (λ i u there. let f = each i u there in let b = begins_length u.seen h f.seen in times-past u.seen u.made p f.made (omega arith)) in
        let one = times-one p (length v.seen, e) in omega arith)
        (λ ne. let other = times-other p (length v.seen, e) ne in omega arith)

    -- and the slot is away
    slot_away : (s : Slots O C R) (k : Law s) (id n : ℕ) (v : Sight O C R) (z : TableId) → get_elem? s.views id ≡ some v → v.kept ≡ Some n → k.table ≡ Some z → (s.homes ≡ none ∷ []) × (k.table ≢ None) × (k.away ≡ 1)
    slot_away s k id n v z at kept told =
        let mine : kept_of v ≡ 1 = ap amount kept in
        let one = total-at kept_of s.views id v at in
        let sum = k.kept in
        in_hand k.table z k.history k.away s.homes told (omega arith) k.slot

    pub raises : (slots id : ℕ) (me : Mine O C R) (c : Cell O C R) (e : C × R) (z : TableId) → me.0.table ≡ Some z → me.1 ≡ (0, Some c) ∷ [] → CanRaise reply next me.0 c e
        → Allows Law slots id me 1 (λ n. (n + 1) % 2 ^ 64) (raised (step slots 1 1 0 none) me)
    raises slots id me c e z named hand can s k _ at _ =
        let f = k.each id me.0 at in
        let h = k.history in
        let now : me.0.seen ≡ h = all_seen o k.table h me.0 can.kept f in
        let w = recording me.0 e in
        let mine : kept_of me.0 ≡ 1 = ap amount can.kept in
        let out = slot_away s k id (length me.0.seen) me.0 z at can.kept (f.table z named) in
        let n : get_or s.words 1 0 ≡ length h = ap (λ ws. get_or ws 1 0) k.words in
        let same_length : length me.0.seen ≡ length h = ap (λ (l : List (C × R)). length l) now in
        let room = can.room in
        let n' : (get_or s.words 1 0 + 1) % 2 ^ 64 ≡ length (h ++ e ∷ []) = omega (arith, length-append h (e ∷ [])) in (
          w,
          keeps,
          tt,
          record {
            history = h ++ e ∷ [];
            table = k.table;
            busy = k.busy;
            away = k.away;
            words = λ i. set (k.words i) 1 (n' i);
            bar = k.bar;
            replays = replays-push reply next o h e k.replays (can.replied ∙ (λ i. reply (after reply next (f.first can.first can.from i) (now i)) e.0));
            inside = (let t = total-set inside_of s.views id me.0 w at in let sum = k.inside in omega arith);
            kept = (let t = total-set kept_of s.views id me.0 w at in let sum = k.kept in omega arith);
            once = recorded_once k.table h s.views id me.0 e now at k.each k.once;
            each = each-set (Fits o k.table (h ++ e ∷ [])) s.views id w
                (λ j u ne there. longer_fits o k.table h e u (others_out s k id me.0 at can.inside j u ne there) (k.each j u there))
                (recording_fits o k.table h me.0 e can.inside now f);
            slot = inr (inl out);
          },
          λ c' e' hand' has'.
              let cells = same_cell me.1 [] [] c c' hand hand' in
              let items : c.history.items ≡ me.0.seen ++ e' ∷ [] = ap (λ (y : Cell O C R). y.history.items) cells ∙ has' in
              ap (λ (y : C × R). (recording me.0 y, me.1)) (same_last me.0.seen c.history.items e e' can.history items),
        )

    pub leaves : (slots id : ℕ) (me : Mine O C R) → CanLeave reply next me → Allows Law slots id me 0 (λ _. 0) (λ _. left (step slots 0 0 0 none) me 0)
    leaves slots id me can s k _ at _ =
        let f = k.each id me.0 at in
        let h = k.history in
        let c = can.cell in
        let giving = can.gives in
        let now : me.0.seen ≡ h = all_seen o k.table h me.0 giving.kept f in
        let w = leaving me.0 in
        let told = f.table c.seat.table_id can.seat.table in
        let out = slot_away s k id (length me.0.seen) me.0 c.seat.table_id at giving.kept told in
        let mine : inside_of me.0 ≡ 1 = ap weight giving.inside in
        let kept : kept_of me.0 ≡ 1 = ap amount giving.kept in
        let busy = (alone s k id me.0 at giving.inside).1 in
        let away = out.2 in (
          w,
          gives,
          tt,
          record {
            history = h;
            table = k.table;
            busy = 0;
            away = 0;
            words = ap (λ ws. set ws 0 0) k.words;
            bar = omega arith;
            replays = k.replays;
            inside = (let t = total-set inside_of s.views id me.0 w at in let sum = k.inside in omega arith);
            kept = (let t = total-set kept_of s.views id me.0 w at in let sum = k.kept in omega arith);
            once = λ p. (let t = total-set (times_of p) s.views id me.0 w at in let most = k.once p in omega arith);
            each = each-set (Fits o k.table h) s.views id w (λ j u ne there. k.each j u there) (leaving_fits o k.table h me.0 f);
            slot = inr (inr (
              c,
              (λ i. put_back (out.0 i) (can.hand i)),
              refl,
              giving.object ∙ (λ i. after reply next (f.first giving.first giving.from i) (now i)),
              giving.history ∙ now,
              keeps_same me.0.table k.table me.0.seen h c.seat (can.seat.table ∙ sym told) now can.seat,
            ));
          },
          refl,
        )

    pub splits : (id : ℕ) (v : Sight O C R) → Splits Law id v v (watcher v)
    splits id v s k at = record {
      history = k.history;
      table = k.table;
      busy = k.busy;
      away = k.away;
      words = k.words;
      bar = k.bar;
      replays = k.replays;
      inside = (let t = total-set inside_of s.views id v v at in let r = total-snoc inside_of (set s.views id v) (watcher v) in let sum = k.inside in omega arith);
      kept = (let t = total-set kept_of s.views id v v at in let r = total-snoc kept_of (set s.views id v) (watcher v) in let sum = k.kept in omega arith);
      once = λ p. (let t = total-set (times_of p) s.views id v v at in let r = total-snoc (times_of p) (set s.views id v) (watcher v) in let sum = k.once p in omega arith);
      each = each-snoc (Fits o k.table k.history) (set s.views id v) (watcher v) (each-set (Fits o k.table k.history) s.views id v (λ j u ne there. k.each j u there) (k.each id v at)) (watcher_fits o k.table k.history v (k.each id v at));
      slot = k.slot;
    }

    pub joins : (id other : ℕ) (v w : Sight O C R) → w.inside ≡ false → Joins Law id v other w (merged v w) spent
    joins id other v w out s k at other_than there =
        let F = Fits o k.table k.history in
        let b = merged v w in
        let theirs : get_elem? s.views other ≡ some w = sym (set_else s.views id other b other_than) ∙ there in
        let none_in : inside_of w ≡ 0 = ap weight out in
        let none_kept = outside_kept o k.table k.history w out (k.each other w theirs) in record {
          history = k.history;
          table = k.table;
          busy = k.busy;
          away = k.away;
          words = k.words;
          bar = k.bar;
          replays = k.replays;
          inside = (let t = total-set inside_of s.views id v b at in let r = total-set inside_of (set s.views id b) other w spent there in let sum = k.inside in omega arith);
          kept = (let t = total-set kept_of s.views id v b at in let r = total-set kept_of (set s.views id b) other w spent there in let sum = k.kept in omega arith);
          once = λ p. (let t = total-set (times_of p) s.views id v b at in let r = total-set (times_of p) (set s.views id b) other w spent there in let a = times-append p v.made w.made in let sum = k.once p in omega arith);
          each = each-set F (set s.views id b) other spent
              (λ j u _ e. each-set F s.views id b (λ i y _ e'. k.each i y e') (merged_fits o k.table k.history v w (k.each id v at) (k.each other w theirs)) j u e)
              (spent_fits o k.table k.history);
          slot = k.slot;
        }
