-- What the rule says of one view, as the view or the history changes.
use Rattle.std.proofs.Common.{◌≡◌, ℕ, zero, suc, ◌+◌, Bool, true, false, true≢false, List, [], ◌∷◌, ◌++◌, length, Option, Some, None, refl, sym, ap, ◌∙◌, subst, arith, length-append}
use mathlib.Core.Option.{some, some-injective, some-ne-none}
use lib.ListN.{get_elem?}
use Rattle.atomic_table.specs.Seated.{TableId}
use Rattle.atomic_table.specs.declared.badge.Badge.{Badge}
use Rattle.p2p_threads.specs.declared.board.Cell.{Cell}
use Rattle.p2p_threads.specs.declared.board.Sight.{Sight}
use Rattle.p2p_threads.specs.History.{weight, longer, shorter}
use Rattle.p2p_threads.specs.Turns.{amount, founding, watcher, spent, merged, naming, entering, recording, leaving, Fits, Keeps, kept_of}
use Rattle.p2p_threads.proofs.Histories.{begins_same, begins_none, begins_longer, begins_shorter, begins_whole, get_last, stands_longer, stands_all, longer_begins, both_begin}

pub off : false ≡ true → ⊥
off e = true≢false (sym e)

pub outside : (b : Bool) → weight b ≡ 0 → b ≡ false
outside true e = absurd (omega arith)
outside false e = refl

pub amount_none : {E : Type 0} (k : Option E) → ((e : E) → k ≡ Some e → ⊥) → amount k ≡ 0
amount_none None not = refl
amount_none (Some e) not = absurd (not e refl)

pub apart : {E : Type 0} (k : Option E) (e : E) → k ≡ None → k ≡ Some e → ⊥
apart k e p q = let r : None ≡ Some e = sym p ∙ q in absurd (cc (r))

module _ {O C R : Type 0} where
  pub same_said : (c d : Cell O C R) → some (Some c) ≡ some (Some d) → c ≡ d
  same_said c d e = let i : Some c ≡ Some d = some-injective (Some c) (Some d) e in cc (i)

  pub keeps_same : (t u : Option TableId) (h k : List (C × R)) (b : Badge (Sight O C R)) → t ≡ u → h ≡ k → Keeps t h b → Keeps u k b
  keeps_same t u h k b p q a = subst (λ (y : Option TableId × List (C × R)). Keeps y.0 y.1 b) (λ i. (p i, q i)) a

  -- a seat outside keeps no length
  pub outside_kept : (o : O) (t : Option TableId) (h : List (C × R)) (u : Sight O C R) → u.inside ≡ false → Fits o t h u → kept_of u ≡ 0
  outside_kept o t h u out f = amount_none u.kept (λ n k. off (sym out ∙ (f.kept n k).0))

  -- a view of a seat outside, where the history has one more call
  pub longer_fits : (o : O) (t : Option TableId) (h : List (C × R)) (e : C × R) (u : Sight O C R) → u.inside ≡ false → Fits o t h u → Fits o t (h ++ e ∷ []) u
  longer_fits o t h e u out f = record {
    first = f.first;
    table = f.table;
    opens = f.opens;
    seen = begins_longer u.seen h (e ∷ []) f.seen;
    told = begins_longer u.told h (e ∷ []) f.told;
    kept = λ n k. absurd (off (sym out ∙ (f.kept n k).0));
    made = f.made;
  }

  -- a view of a seat outside, where the first seat learns the table
  pub named_fits : (o : O) (t : Option TableId) (z : TableId) (h : List (C × R)) (u : Sight O C R) → t ≡ None → u.inside ≡ false → Fits o t h u → Fits o (Some z) h u
  named_fits o t z h u unknown out f = record {
    first = f.first;
    table = λ x e. absurd (apart t x unknown (f.table x e));
    opens = λ here _. absurd (off (sym out ∙ here));
    seen = f.seen;
    told = f.told;
    kept = f.kept;
    made = f.made;
  }

  pub founding_fits : (o : O) (i : ℕ) (v : Sight O C R) → get_elem? (founding o ∷ []) i ≡ some v → Fits o None [] v
  founding_fits o zero v e = subst (Fits o None []) (some-injective _ _ e) record {
    first = λ x f. cc;
    table = λ x f. absurd (cc);
    opens = λ _ _. refl;
    seen = ([], refl);
    told = ([], refl);
    kept = λ n k. (refl, (let same : 0 ≡ n = cc in omega arith));
    made = tt;
  }
  founding_fits o (suc i) v e = absurd (some-ne-none v (sym e))

  -- the view of the first seat, where it learns the table
  pub named_self : (o : O) (t : Option TableId) (z : TableId) (h : List (C × R)) (v : Sight O C R) → v.inside ≡ true → t ≡ None → Fits o t h v → Fits o (Some z) h (naming v z)
  named_self o t z h v here unknown f = record {
    first = f.first;
    table = λ x e. e;
    opens = λ _ e. absurd (cc (e));
    seen = f.seen;
    told = f.told;
    kept = f.kept;
    made = f.made;
  }

  pub entering_fits : (o : O) (t : Option TableId) (z : TableId) (h : List (C × R)) (v : Sight O C R) → v.table ≡ Some z → Fits o t h v → Fits o t h (entering v)
  entering_fits o t z h v named f = record {
    first = f.first;
    table = f.table;
    opens = λ _ e. absurd (apart v.table z e named);
    seen = f.seen;
    told = f.told;
    kept = λ n k. absurd (cc (k));
    made = f.made;
  }

  pub recording_fits : (o : O) (t : Option TableId) (h : List (C × R)) (v : Sight O C R) (e : C × R) → v.inside ≡ true → v.seen ≡ h → Fits o t h v → Fits o t (h ++ e ∷ []) (recording v e)
  recording_fits o t h v e here now f = record {
    first = f.first;
    table = f.table;
    opens = f.opens;
    seen = begins_same (v.seen ++ e ∷ []) (h ++ e ∷ []) (ap (λ (l : List (C × R)). l ++ e ∷ []) now);
    told = begins_longer v.told h (e ∷ []) f.told;
    kept = λ n q. (here, (let same : length v.seen + 1 ≡ n = cc in let l = ap (λ (l : List (C × R)). length l) now in omega (arith, length-append h (e ∷ []))));
    made = stands_all (v.seen ++ e ∷ []) v.made ((length v.seen, e) ∷ []) (stands_longer v.seen (v.seen ++ e ∷ []) v.made (e ∷ [], refl) f.made) (get_last v.seen e, tt);
  }

  -- who keeps the length of what it has seen, has seen the history
  pub all_seen : (o : O) (t : Option TableId) (h : List (C × R)) (v : Sight O C R) → v.kept ≡ Some (length v.seen) → Fits o t h v → v.seen ≡ h
  all_seen o t h v kept f = begins_whole v.seen h f.seen (f.kept (length v.seen) kept).1

  pub leaving_fits : (o : O) (t : Option TableId) (h : List (C × R)) (v : Sight O C R) → Fits o t h v → Fits o t h (leaving v)
  leaving_fits o t h v f = record {
    first = f.first;
    table = f.table;
    opens = λ i. absurd (off i);
    seen = f.seen;
    told = begins_none h;
    kept = λ n q. absurd (cc (q));
    made = f.made;
  }

  pub watcher_fits : (o : O) (t : Option TableId) (h : List (C × R)) (v : Sight O C R) → Fits o t h v → Fits o t h (watcher v)
  watcher_fits o t h v f = record {
    first = f.first;
    table = f.table;
    opens = λ i. absurd (off i);
    seen = f.seen;
    told = begins_none h;
    kept = λ n q. absurd (cc (q));
    made = tt;
  }

  pub merged_fits : (o : O) (t : Option TableId) (h : List (C × R)) (v w : Sight O C R) → Fits o t h v → Fits o t h w → Fits o t h (merged v w)
  merged_fits o t h v w f g =
      let l = longer_begins v.seen w.seen h f.seen g.seen in
      let both = both_begin v.seen w.seen (begins_shorter (shorter v.seen w.seen) (longer v.seen w.seen) h l.1 l.0 l.2) in record {
        first = f.first;
        table = f.table;
        opens = f.opens;
        seen = l.0;
        told = l.1;
        kept = f.kept;
        made = stands_all (longer v.seen w.seen) v.made w.made (stands_longer v.seen (longer v.seen w.seen) v.made both.0 f.made) (stands_longer w.seen (longer v.seen w.seen) w.made both.1 g.made);
      }

  pub spent_fits : (o : O) (t : Option TableId) (h : List (C × R)) → Fits o t h spent
  spent_fits o t h = record {
    first = λ x q. absurd (cc (q));
    table = λ x q. absurd (cc (q));
    opens = λ i. absurd (off i);
    seen = begins_none h;
    told = begins_none h;
    kept = λ n q. absurd (cc (q));
    made = tt;
  }
