-- What an entry makes of how many items of a kind stand in queues: what it puts comes, and what it takes or ends goes.
use Rattle.std.proofs.Common.{◌≡◌, ℕ, ◌+◌, Bool, cond, List, [], ◌∷◌, ◌++◌, map, length, refl, ap, sym, ◌∙◌, arith}
use Rattle.std.specs.Prelude.{count_by, filter, flat_map}
use Rattle.std.specs.List.{AllByRecursion as Each}
use Rattle.std.proofs.lemmas.List.Sums.{sum_by-append, sum_by-cons}
use Rattle.p2p_log.specs.declared.queue.Queue.{Queue}
use Rattle.p2p_log.specs.declared.item.Item.{Item}
use Rattle.p2p_log.specs.declared.item.Envelope.{Envelope}
use Rattle.p2p_log.specs.declared.entry.Entry.{Entry}
use Rattle.p2p_log.specs.declared.event.Event.{Event}
use Rattle.p2p_log.specs.Lines.{name_of, goes, stays, live, placed}
use Rattle.p2p_log.proofs.Lines.{live-append}
use Rattle.p2p_log.proofs.Names.{AreApart-live_from}
use Rattle.p2p_log.proofs.Taken.{sum_by-taken, Each-taken}
use Rattle.p2p_log_rules.specs.declared.row.Row.{Row}
use Rattle.p2p_log_rules.specs.Effect.{entry_of}
use Rattle.p2p_log_rules.specs.Facts.{item_put, item_in, item_named, taken}
use Rattle.p2p_log_rules.specs.Moves.{Moves}
use Rattle.p2p_log_rules.proofs.Moves.{goes_moved, taken_stood}
use Rattle.p2p_log_laws.specs.Grants.{one}
use Rattle.p2p_log_laws.specs.NodeGrants.{put_of}
use Rattle.p2p_log_laws.proofs.Puts.{IsPut, each_put}

-- how many of these pass
abbrev pub weight : (Queue × Item → Bool) → List Envelope → ℕ
weight p xs = count_by (λ x. p (put_of x)) xs

pub count_by-one : {X : Type 0} (p : X → Bool) (x : X) → count_by p (x ∷ []) ≡ one (p x)
count_by-one p x = sum_by-cons (λ y. cond (p y) 1 0) x [] ∙ plus_none (one (p x))
  where
    plus_none : (n : ℕ) → n + 0 ≡ n
    plus_none n = omega arith

pub weight-placed : (p : Queue × Item → Bool) (n k : ℕ) (puts : List (Queue × Item)) → weight p (placed n k puts) ≡ count_by p puts
weight-placed p n k [] = refl
weight-placed p n k (x ∷ xs) =
    sum_by-cons (λ y. cond (p (put_of y)) 1 0) (record { entry = n; place = k; queue = x.0; item = x.1 }) (placed n (k + 1) xs)
    ∙ (ap (λ m. cond (p x) 1 0 + m) (weight-placed p n (k + 1) xs) ∙ sym (sum_by-cons (λ y. cond (p y) 1 0) x xs))

pub named_items : (log : List Entry) (xs : List Envelope) → Each (IsPut log) xs → flat_map (item_named log) (map name_of xs) ≡ map (λ x. x.item) xs
named_items log [] h = refl
named_items log (x ∷ xs) h =
    let put : IsPut log x = h.0 in
    let here : item_named log (name_of x) ≡ x.item ∷ [] = ap (λ o. item_in o x.place) put.at ∙ ap item_put put.put in
    ap (λ l. l ++ flat_map (item_named log) (map name_of xs)) here ∙ ap (λ l. x.item ∷ l) (named_items log xs h.1)

module _ (log : List Entry) (ev : Event) (r : Row) (m : Moves log r) where
  -- what stands there, what goes and what comes
  pub weighed : (p : Queue × Item → Bool) → weight p (live (log ++ entry_of ev r ∷ [])) + (weight p m.taken + weight p m.ended) ≡ weight p (live log) + count_by p r.puts
  weighed p =
      let w : Envelope → ℕ = λ x. cond (p (put_of x)) 1 0 in
      let kept = filter (stays (goes (entry_of ev r))) (live log) in
      let old : weight p (live log) ≡ (weight p m.taken + weight p m.ended) + weight p kept =
      sum_by-taken w (live log) (m.taken ++ m.ended) (AreApart-live_from 0 log) m.stood
      ∙ (ap (λ n. n + weight p (filter (stays (map name_of (m.taken ++ m.ended))) (live log))) (sum_by-append w m.taken m.ended)
      ∙ ap (λ gone. (weight p m.taken + weight p m.ended) + weight p (filter (stays gone) (live log))) (sym (goes_moved log ev r m)))
      in
      let new : weight p (live (log ++ entry_of ev r ∷ [])) ≡ weight p kept + count_by p r.puts =
      ap (λ xs. weight p xs) (live-append log (entry_of ev r))
      ∙ (sum_by-append w kept (placed (length log) 0 r.puts) ∙ ap (λ n. weight p kept + n) (weight-placed p (length log) 0 r.puts))
      in
      omega (arith, old, new)

  -- the items that the entry takes by their names
  pub taken_items : taken log (entry_of ev r) ≡ map (λ x. x.item) m.taken
  unfolding taken
  taken_items =
      ap (λ names. flat_map (item_named log) names) m.names
      ∙ named_items log m.taken (Each-taken (IsPut log) (live log) m.taken (each_put log) (taken_stood log ev r m))
