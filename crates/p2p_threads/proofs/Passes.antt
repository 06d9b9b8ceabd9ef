-- What holds of a pass after each public call.
use Rattle.std.proofs.Common.{◌≡◌, ℕ, ◌+◌, ◌<◌, ◌≤◌, ◌^◌, List, [], ◌∷◌, ◌++◌, length, slice_get, Some, refl, sym, ap, ◌∙◌, subst, arith, length-append}
use mathlib.Core.List.{IsPrefix}
use mathlib.Core.Logic.{dite}
use native.Mathlib.Decide.{ℕ_discrete}
use Rattle.atomic_table.specs.Seated.{TableId}
use Rattle.p2p_threads.specs.declared.board.Cell.{Cell}
use Rattle.p2p_threads.specs.History.{longer, IsEachOnce, entry_at, Stands}
use Rattle.p2p_threads.specs.Turns.{merged, entering, keeping, learning, leaving, settled}
use Rattle.p2p_threads.specs.Steps.{Mine, Inside}
use Rattle.p2p_threads.specs.Seats.{Called, Watched, Back, IsPass}
use Rattle.p2p_threads.proofs.Hands.{Serving}
use Rattle.p2p_threads.proofs.Histories.{begins_more, begins_length, both_begin, get_last, longer_length, stands_all, stands_longer}
use Rattle.p2p_threads.proofs.Places.{all_made, made_bound, times-append, times-one, times-other, times-past}

times_push : {E : Type 0} (h : List E) (ms : List (ℕ × E)) (k : ℕ) (e : E) → Stands h ms → IsEachOnce ms → length h ≤ k → IsEachOnce (ms ++ (k, e) ∷ [])
times_push h ms k e s once le p =
    let a = times-append p ms ((k, e) ∷ []) in
    let most = once p in
    dite (ℕ_discrete k p)
    (λ is. let empty = times-past h ms p s (omega arith) in let one = times-one p (k, e) in omega arith)
    (λ ne. let other = times-other p (k, e) ne in omega arith)

module _ {O C R : Type 0} where
  pub called_begins : (m z : Mine O C R) (k : ℕ) (e : C × R) → Called m z k e → IsPrefix m.0.seen z.0.seen
  called_begins m z k e c = subst (λ (l : List (C × R)). IsPrefix m.0.seen l) (sym c.seen) (begins_more m.0.seen c.before (c.before ++ e ∷ []) c.begins (e ∷ [], refl))

  pub called_stands : (m z : Mine O C R) (k : ℕ) (e : C × R) → Called m z k e → slice_get z.0.seen k ≡ Some e
  called_stands m z k e c = (λ i. slice_get (c.seen i) (c.place i)) ∙ get_last c.before e

  pub called_place : (m z : Mine O C R) (k : ℕ) (e : C × R) → Called m z k e → (length m.0.seen ≤ k) × (length z.0.seen ≡ k + 1)
  called_place m z k e c =
      let b = begins_length m.0.seen c.before c.begins in
      let p = c.place in
      let l = ap (λ (l : List (C × R)). length l) c.seen in
      (omega arith, omega (arith, length-append c.before (e ∷ [])))

  pub called_room : (t : TableId) (m z : Mine O C R) (n k : ℕ) (e : C × R) → IsPass t m n → Called m z k e → n + 1 < 2 ^ 64
  called_room t m z n k e p c =
      let b = begins_length m.0.seen c.before c.begins in
      let most = made_bound m.0.seen m.0.made p.made p.once in
      let place = c.place in
      let room = c.room in
      let calls = p.calls in omega arith

module _ {O C R : Type 0} (reply : O → C → R) (next : O → C → O) where
  pub called_pass : (t u : TableId) → t ≡ u → (m z : Mine O C R) (n k : ℕ) (e : C × R) → IsPass t m n → Back reply next m z → Called m z k e → IsPass u z (n + 1)
  called_pass t u at m z n k e p b c =
      let last : slice_get (c.before ++ e ∷ []) k ≡ Some e = ap (λ (j : ℕ). slice_get (c.before ++ e ∷ []) j) c.place ∙ get_last c.before e in
      let old = stands_longer m.0.seen (c.before ++ e ∷ []) m.0.made (begins_more m.0.seen c.before (c.before ++ e ∷ []) c.begins (e ∷ [], refl)) p.made in
      let stands : Stands (c.before ++ e ∷ []) (m.0.made ++ (k, e) ∷ []) = stands_all (c.before ++ e ∷ []) m.0.made ((k, e) ∷ []) old (last, tt) in
      let below = begins_length m.0.seen c.before c.begins in
      let place = c.place in
      let once : IsEachOnce (m.0.made ++ (k, e) ∷ []) = times_push m.0.seen m.0.made k e p.made p.once (omega arith) in record {
        table = b.table ∙ p.table ∙ ap (λ (x : TableId). Some x) at;
        inside = b.inside;
        told = b.told;
        hand = b.hand;
        made = subst (λ (y : List (C × R) × List (ℕ × (C × R))). Stands y.0 y.1) (λ i. (sym c.seen i, sym c.made i)) stands;
        once = subst (λ (y : List (ℕ × (C × R))). IsEachOnce y) (sym c.made) once;
        calls = (let l = ap (λ (y : List (ℕ × (C × R))). length y) c.made in let calls = p.calls in omega (arith, length-append m.0.made ((k, e) ∷ [])));
      }

  pub watched_pass : (t u : TableId) → t ≡ u → (m z : Mine O C R) (n : ℕ) → IsPass t m n → Back reply next m z → Watched m z → IsPass u z n
  watched_pass t u at m z n p b w = record {
    table = b.table ∙ p.table ∙ ap (λ (x : TableId). Some x) at;
    inside = b.inside;
    told = b.told;
    hand = b.hand;
    made = subst (λ (y : List (ℕ × (C × R))). Stands z.0.seen y) (sym w.made) (stands_longer m.0.seen z.0.seen m.0.made w.begins p.made);
    once = subst (λ (y : List (ℕ × (C × R))). IsEachOnce y) (sym w.made) p.once;
    calls = p.calls ∙ ap (λ (y : List (ℕ × (C × R))). length y) (sym w.made);
  }

  pub returned_pass : (t u : TableId) → t ≡ u → (m q y : Mine O C R) (c : Cell O C R) (n k : ℕ) → IsPass t m n → Inside reply next m.0 c → Serving reply next m c.history.items k q → y ≡ (leaving q.0, []) → IsPass u y n
  returned_pass t u at m q y c n k p here is end =
      let whole : y ≡ (leaving (learning (keeping (entering m.0) k) c.history.items), []) = end ∙ ap (λ (x : Mine O C R). (leaving x.0, [])) is in
      subst (λ (x : Mine O C R). IsPass u x n) (sym whole) record {
        table = p.table ∙ ap (λ (x : TableId). Some x) at;
        inside = refl;
        told = refl;
        hand = refl;
        made = stands_longer m.0.seen c.history.items m.0.made here.begins p.made;
        once = p.once;
        calls = p.calls;
      }

  -- a history no longer than what was made is what was made
  pub closed_made : (t : TableId) (m : Mine O C R) (c : Cell O C R) (n : ℕ) → IsPass t m n → Inside reply next m.0 c → length c.history.items ≤ n → (p : ℕ) → entry_at m.0.made p ≡ slice_get c.history.items p
  closed_made t m c n p here le =
      let s = stands_longer m.0.seen c.history.items m.0.made here.begins p.made in
      let most = made_bound c.history.items m.0.made s p.once in
      let calls = p.calls in all_made c.history.items m.0.made s p.once (omega arith)

module _ {O C R : Type 0} where
  -- two passes were joined, and held against the history
  pub record Joined (m q y z : Mine O C R) (r : ℕ) : Type 0 where
    pub merges : y ≡ (merged m.0 q.0, m.1)
    pub view : z ≡ (settled y.0, y.1)
    pub told : length y.0.told ≤ length y.0.seen → IsPrefix y.0.told y.0.seen
    pub once : IsEachOnce y.0.made
    pub length : length y.0.seen ≤ r

  pub joined_begins : (m q y z : Mine O C R) (r : ℕ) → Joined m q y z r → IsPrefix m.0.seen (longer m.0.seen q.0.seen) × IsPrefix q.0.seen (longer m.0.seen q.0.seen)
  joined_begins m q y z r j =
      let told = subst (λ (x : Mine O C R). length x.0.told ≤ length x.0.seen → IsPrefix x.0.told x.0.seen) j.merges j.told in
      both_begin m.0.seen q.0.seen (told (longer_length m.0.seen q.0.seen))

  joined_stands : (t u : TableId) (m q y z : Mine O C R) (r n k : ℕ) → IsPass t m n → IsPass u q k → Joined m q y z r → Stands (longer m.0.seen q.0.seen) (m.0.made ++ q.0.made)
  joined_stands t u m q y z r n k p s j =
      let b = joined_begins m q y z r j in
      let h = longer m.0.seen q.0.seen in
      stands_all h m.0.made q.0.made (stands_longer m.0.seen h m.0.made b.0 p.made) (stands_longer q.0.seen h q.0.made b.1 s.made)

  pub joined_once : (m q y z : Mine O C R) (r : ℕ) → Joined m q y z r → IsEachOnce (m.0.made ++ q.0.made)
  joined_once m q y z r j = subst (λ (x : Mine O C R). IsEachOnce x.0.made) j.merges j.once

  pub joined_room : (t u : TableId) (m q y z : Mine O C R) (r n k : ℕ) → IsPass t m n → IsPass u q k → Joined m q y z r → r < 2 ^ 64 → n + k < 2 ^ 64
  joined_room t u m q y z r n k p s j lt =
      let most = made_bound (longer m.0.seen q.0.seen) (m.0.made ++ q.0.made) (joined_stands t u m q y z r n k p s j) (joined_once m q y z r j) in
      let l = subst (λ (x : Mine O C R). length x.0.seen ≤ r) j.merges j.length in
      let a = p.calls in
      let b = s.calls in omega (arith, length-append m.0.made q.0.made)

  pub joined_view : (m q y z : Mine O C R) (r : ℕ) → Joined m q y z r → z ≡ (settled (merged m.0 q.0), m.1)
  joined_view m q y z r j = j.view ∙ ap (λ (x : Mine O C R). (settled x.0, x.1)) j.merges

  pub joined_pass : (t u v : TableId) → t ≡ v → (m q y z : Mine O C R) (r n k : ℕ) → IsPass t m n → IsPass u q k → Joined m q y z r → IsPass v z (n + k)
  joined_pass t u v at m q y z r n k p s j = subst (λ (x : Mine O C R). IsPass v x (n + k)) (sym (joined_view m q y z r j)) record {
    table = p.table ∙ ap (λ (x : TableId). Some x) at;
    inside = p.inside;
    told = refl;
    hand = p.hand;
    made = joined_stands t u m q y z r n k p s j;
    once = joined_once m q y z r j;
    calls = (let a = p.calls in let b = s.calls in omega (arith, length-append m.0.made q.0.made));
  }
