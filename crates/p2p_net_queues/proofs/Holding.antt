-- A table whose queues are lines of a log, by their keys: what a change of one queue makes of them.
use Rattle.std.proofs.Common.{◌≡◌, ℕ, Bool, true, false, cond, List, [], ◌∷◌, ◌++◌, drop, refl, ap, sym, ◌∙◌, arith, append-nil}
use Rattle.std.specs.BTreeMap.{is_at}
use Rattle.std.specs.Ordering.{nat_cmp}
use Rattle.std.proofs.lemmas.Bool.Decides.{nat_tests}
use Rattle.p2p_log.specs.declared.queue.Queue.{Queue}
use Rattle.p2p_log.specs.declared.item.Envelope.{Envelope}
use Rattle.p2p_log.specs.declared.entry.Entry.{Entry}
use Rattle.p2p_log.specs.QueueCode.{same_queue}
use Rattle.p2p_log.specs.Lines.{name_of, goes, live_from, line}
use Rattle.p2p_log.proofs.Queues.{same_queue-sym}
use Rattle.p2p_net_queues.specs.Lines.{HoldsLines}
use Rattle.p2p_net_queues.specs.Tables.{waiting, pushed_at, popped_at, cleared_at}
use Rattle.p2p_net_queues.proofs.Going.{put_in, line-taken}
use Rattle.p2p_net_queues.proofs.Tables.{waiting-pushed_at, waiting-popped_at, waiting-cleared_at}

-- an empty table, and no entry
pub holds_none : (f : ℕ → Queue) → HoldsLines f [] []
unfolding line live_from
holds_none f k = refl

-- an entry that leaves these lines alone
pub holds_frame : (f : ℕ → Queue) (log : List Entry) (e : Entry) (w : List (ℕ × List Envelope)) → HoldsLines f log w → ((k : ℕ) → line (log ++ e ∷ []) (f k) ≡ line log (f k)) → HoldsLines f (log ++ e ∷ []) w
holds_frame f log e w holds lines k = holds k ∙ sym (lines k)

-- a choice between a longer list and the list adds a choice
pub longer : (b : Bool) (l xs : List Envelope) → cond b (l ++ xs) l ≡ l ++ cond b xs []
longer true l xs = refl
longer false l xs = sym (append-nil l)

-- the entry takes the first item of a queue, or ends it, and no other item
pub record TakesFirst (log : List Entry) (e : Entry) (p : Queue) (x : Envelope) (rest : List Envelope) : Type 0 where
  pub first : line log p ≡ x ∷ rest
  pub gone : goes e ≡ name_of x ∷ []

-- the queue of each key is one of these, and different keys have different queues
module _ (f : ℕ → Queue) (same : (c d : ℕ) → is_at (nat_cmp c) d ≡ same_queue (f c) (f d)) where
  turned : (c d : ℕ) → is_at (nat_cmp c) d ≡ same_queue (f d) (f c)
  turned c d = same c d ∙ same_queue-sym (f c) (f d)

  same_key : (c d : ℕ) → same_queue (f d) (f c) ≡ true → c ≡ d
  same_key c d h = let at : is_at (nat_cmp c) d ≡ true = turned c d ∙ h in grind (arith, nat_tests)

  -- the queue of one key has other items
  changed : (g : List Envelope → List Envelope) (log : List Entry) (d c : ℕ) (w v : List (ℕ × List Envelope)) → waiting w c ≡ line log (f c) → waiting v c ≡ cond (is_at (nat_cmp c) d) (g (waiting w c)) (waiting w c)
      → waiting v c ≡ cond (same_queue (f d) (f c)) (g (line log (f c))) (line log (f c))
  changed g log d c w v waits is = is ∙ (ap (λ b. cond b (g (waiting w c)) (waiting w c)) (turned c d) ∙ ap (λ l. cond (same_queue (f d) (f c)) (g l) l) waits)

  -- the items of that queue alone
  there : (g : List Envelope → List Envelope) (log : List Entry) (d c : ℕ) (b : Bool) (l : List Envelope) → same_queue (f d) (f c) ≡ b → g (line log (f d)) ≡ l
      → cond b (g (line log (f c))) (line log (f c)) ≡ cond b l (line log (f c))
  there g log d c true l is to = ap (λ k. g (line log (f k))) (same_key c d is) ∙ to
  there g log d c false l is to = refl

  -- one item more
  pub waits_put : (log : List Entry) (d : ℕ) (x : Envelope) (w : List (ℕ × List Envelope)) → HoldsLines f log w
      → (c : ℕ) → waiting (pushed_at w d x) c ≡ line log (f c) ++ cond (same_queue (f c) (f d)) (x ∷ []) []
  waits_put log d x w waits c =
      changed (λ l. l ++ x ∷ []) log d c w (pushed_at w d x) (waits c) (waiting-pushed_at d c x w)
      ∙ (longer (same_queue (f d) (f c)) (line log (f c)) (x ∷ []) ∙ ap (λ b. line log (f c) ++ cond b (x ∷ []) []) (same_queue-sym (f d) (f c)))

  -- the oldest item less
  pub waits_taken : (log : List Entry) (d : ℕ) (x : Envelope) (rest : List Envelope) (w : List (ℕ × List Envelope)) → HoldsLines f log w → line log (f d) ≡ x ∷ rest
      → (c : ℕ) → waiting (popped_at w d) c ≡ cond (same_queue (f d) (f c)) rest (line log (f c))
  waits_taken log d x rest w waits first c =
      changed (drop 1) log d c w (popped_at w d) (waits c) (waiting-popped_at d c w) ∙ there (drop 1) log d c (same_queue (f d) (f c)) rest refl (ap (drop 1) first)

  -- nothing is taken where nothing waits
  pub waits_none : (log : List Entry) (d : ℕ) (w : List (ℕ × List Envelope)) → HoldsLines f log w → line log (f d) ≡ [] → HoldsLines f log (popped_at w d)
  waits_none log d w waits none c =
      changed (drop 1) log d c w (popped_at w d) (waits c) (waiting-popped_at d c w) ∙ kept (same_queue (f d) (f c)) refl
    where
      kept : (b : Bool) → same_queue (f d) (f c) ≡ b → cond b (drop 1 (line log (f c))) (line log (f c)) ≡ line log (f c)
      kept true is = let empty : line log (f c) ≡ [] = ap (λ k. line log (f k)) (same_key c d is) ∙ none in ap (drop 1) empty ∙ sym empty
      kept false is = refl

  -- all items less
  pub waits_cleared : (log : List Entry) (d : ℕ) (w : List (ℕ × List Envelope)) → HoldsLines f log w → (c : ℕ) → waiting (cleared_at w d) c ≡ cond (same_queue (f d) (f c)) [] (line log (f c))
  waits_cleared log d w waits c = changed (λ l. []) log d c w (cleared_at w d) (waits c) (waiting-cleared_at d c w)

  -- ---- an entry that takes the first item of a queue

  -- of one of these queues, in which it puts nothing
  pub holds_taken : (log : List Entry) (e : Entry) (d : ℕ) (x : Envelope) (rest : List Envelope) (w : List (ℕ × List Envelope)) → HoldsLines f log w → TakesFirst log e (f d) x rest → ((c : ℕ) → put_in log e (f c) ≡ [])
      → HoldsLines f (log ++ e ∷ []) (popped_at w d)
  holds_taken log e d x rest w holds t none c =
      let left = cond (same_queue (f d) (f c)) rest (line log (f c)) in
      waits_taken log d x rest w holds t.first c
      ∙ sym (line-taken log e (f d) x rest (f c) t.first t.gone ∙ (ap (λ l. left ++ l) (none c) ∙ append-nil left))

  -- of none of these queues, in one of which it puts an item
  pub holds_put : (log : List Entry) (e : Entry) (p : Queue) (y : Envelope) (rest : List Envelope) (d : ℕ) (x : Envelope) (w : List (ℕ × List Envelope)) → HoldsLines f log w → TakesFirst log e p y rest → ((c : ℕ) → same_queue p (f c) ≡ false)
      → ((c : ℕ) → put_in log e (f c) ≡ cond (same_queue (f c) (f d)) (x ∷ []) []) → HoldsLines f (log ++ e ∷ []) (pushed_at w d x)
  holds_put log e p y rest d x w holds t apart puts c =
      waits_put log d x w holds c
      ∙ sym (line-taken log e p y rest (f c) t.first t.gone ∙ (ap (λ b. cond b rest (line log (f c)) ++ put_in log e (f c)) (apart c) ∙ ap (λ l. line log (f c) ++ l) (puts c)))
