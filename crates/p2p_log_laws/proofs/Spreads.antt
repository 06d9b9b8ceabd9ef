-- What a spread puts: for each recipient, in order, nothing or the frame of its copy.
use Rattle.std.proofs.Common.{◌≡◌, ℕ, ◌+◌, Bool, true, false, cond, List, [], ◌∷◌, ◌++◌, length, Option, Some, None, ◌⊎◌, inl, inr, refl, sym, ◌∙◌, append_assoc, append-nil}
use Rattle.std.specs.Prelude.{nat_le, count_by, filter}
use Rattle.p2p_base.specs.declared.key.Key.{Key}
use Rattle.p2p_log.specs.declared.queue.Queue.{Queue}
use Rattle.p2p_log.specs.declared.item.Item.{Item}
use Rattle.p2p_log.specs.declared.item.Item.TheVariants as item
use Rattle.p2p_log.specs.declared.item.Envelope.{Envelope}
use Rattle.p2p_log.specs.declared.end.Cause.{Cause}
use Rattle.p2p_log.specs.declared.end.Cause.TheVariants as cause
use Rattle.p2p_log.specs.Lines.{stands_in}
use Rattle.p2p_log_rules.specs.Facts.{route_to}
use Rattle.p2p_log_rules.specs.Effect.{Spread, spread, spread_one, spread_to, dropped_copy, goes_to, relay_queue}

-- for each of so many recipients from this place on, nothing or a frame of its copy
abbrev pub AreFrames : ℕ → ℕ → List ℕ → List Key → List (Queue × Item) → Type 0
AreFrames send p frame [] puts = puts ≡ []
AreFrames send p frame (k ∷ ks) puts =
    AreFrames send (p + 1) frame ks puts
    ⊎ ((q : Queue) × (rest : List (Queue × Item)) × (puts ≡ (q, item.Frame (Some (send, p)) frame) ∷ rest) × AreFrames send (p + 1) frame ks rest)

-- the puts of a spread: those before it, and these
abbrev pub Adds : ℕ → ℕ → List ℕ → List Key → List (Queue × Item) → List (Queue × Item) → Type 0
Adds send p frame ks before after = (more : List (Queue × Item)) × (after ≡ before ++ more) × AreFrames send p frame ks more

module _ (size : ℕ) (items : List Envelope) (n : ℕ) (priority : Bool) (ended : ℕ → Bool) (routes : List (ℕ × ℕ)) (send : ℕ) (frame : List ℕ) where
  -- a recipient who gets nothing
  none_more : (p : ℕ) (k : Key) (ks : List Key) (before after : List (Queue × Item)) → Adds send (p + 1) frame ks before after → Adds send p frame (k ∷ ks) before after
  none_more p k ks before after h = (h.0, h.1, inl h.2)

  -- a recipient whose frame enters a queue
  one_more : (p : ℕ) (k : Key) (ks : List Key) (q : Queue) (before after : List (Queue × Item))
      → Adds send (p + 1) frame ks (before ++ (q, item.Frame (Some (send, p)) frame) ∷ []) after → Adds send p frame (k ∷ ks) before after
  one_more p k ks q before after h =
      let x : Queue × Item = (q, item.Frame (Some (send, p)) frame) in
      (x ∷ h.0, h.1 ∙ append_assoc before (x ∷ []) h.0, inr (q, h.0, refl, h.2))

  abbrev Rest : ℕ → List Key → Type 0
  Rest p ks = (t : Spread) → Adds send (p + 1) frame ks t.puts (spread size items n priority ended routes send (p + 1) frame ks t).puts

  abbrev After : ℕ → Key → List Key → Spread → Spread → Type 0
  After p k ks s t = Adds send p frame (k ∷ ks) s.puts (spread size items n priority ended routes send (p + 1) frame ks t).puts

  by_drop : (p : ℕ) (k : Key) (ks : List Key) (s : Spread) (c : Cause) → Rest p ks → After p k ks s (dropped_copy c send p s)
  by_drop p k ks s c rest =
      none_more p k ks s.puts (spread size items n priority ended routes send (p + 1) frame ks (dropped_copy c send p s)).puts (rest (dropped_copy c send p s))

  by_size : (p : ℕ) (k : Key) (ks : List Key) (s : Spread) (q : Queue) (b : Bool) → Rest p ks
      → After p k ks s (cond b (dropped_copy cause.RelayFull send p s) (record s { puts = s.puts ++ (q, item.Frame (Some (send, p)) frame) ∷ [] }))
  by_size p k ks s q true rest = by_drop p k ks s cause.RelayFull rest
  by_size p k ks s q false rest =
      let t : Spread = record s { puts = s.puts ++ (q, item.Frame (Some (send, p)) frame) ∷ [] } in
      one_more p k ks q s.puts (spread size items n priority ended routes send (p + 1) frame ks t).puts (rest t)

  by_end : (p : ℕ) (k : Key) (ks : List Key) (s : Spread) (conn : ℕ) (b : Bool) → Rest p ks
      → After p k ks s (cond b (dropped_copy cause.ConnectionEnded send p s) (spread_one size items (relay_queue priority n conn) send p frame s))
  by_end p k ks s conn true rest = by_drop p k ks s cause.ConnectionEnded rest
  by_end p k ks s conn false rest =
      let q = relay_queue priority n conn in
      by_size p k ks s q (nat_le size (length (filter (stands_in q) items) + count_by (goes_to q) s.puts)) rest

  by_route : (p : ℕ) (k : Key) (ks : List Key) (s : Spread) (o : Option ℕ) → Rest p ks → After p k ks s (spread_to size items n priority ended o send p frame s)
  by_route p k ks s None rest = by_drop p k ks s cause.NoConnection rest
  by_route p k ks s (Some conn) rest = by_end p k ks s conn (ended conn) rest

  pub puts-spread : (ks : List Key) (p : ℕ) (s : Spread) → Adds send p frame ks s.puts (spread size items n priority ended routes send p frame ks s).puts
  puts-spread [] p s = ([], sym (append-nil s.puts), refl)
  puts-spread (k ∷ ks) p s = by_route p k ks s (route_to routes k) (puts-spread ks (p + 1))
