-- What each drop of a spread comes from: no connection, one that has ended, or a queue that is full when the copy's turn comes.
use Rattle.std.proofs.Common.{◌≡◌, ℕ, ◌+◌, ◌≤◌, Bool, true, false, cond, List, [], ◌∷◌, ◌++◌, length, Option, Some, None, inl, inr, refl, ap, sym, subst, ◌∙◌, arith, append_assoc}
use Rattle.std.specs.Prelude.{◌==◌, ◌&&◌, nat_le, nat_lt, count_by, filter, slice_get}
use Rattle.std.specs.List.{AllByRecursion as Each}
use Rattle.std.proofs.lemmas.Bool.Decides.{nat_tests}
use Rattle.std.proofs.lemmas.List.{length_push}
use Rattle.std.proofs.lemmas.List.Sums.{sum_by-append, sum_by-cons}
use Rattle.p2p_base.specs.declared.key.Key.{Key}
use Rattle.p2p_log.specs.declared.queue.Queue.{Queue}
use Rattle.p2p_log.specs.declared.item.Item.{Item}
use Rattle.p2p_log.specs.declared.item.Item.TheVariants as item
use Rattle.p2p_log.specs.declared.item.Envelope.{Envelope}
use Rattle.p2p_log.specs.declared.end.End.{End}
use Rattle.p2p_log.specs.declared.end.End.TheVariants as end
use Rattle.p2p_log.specs.declared.end.Outcome.TheVariants as outcome
use Rattle.p2p_log.specs.declared.end.Cause.TheVariants as cause
use Rattle.p2p_log.specs.Lines.{stands_in}
use Rattle.p2p_log_rules.specs.Facts.{route_to}
use Rattle.p2p_log_rules.specs.Effect.{Spread, spread, spread_one, spread_to, dropped_copy, goes_to, relay_queue}
use Rattle.p2p_log.proofs.Places.{slice_get-seam}
use Rattle.p2p_log_laws.specs.Causes.{is_lower, enters_before}
use Rattle.p2p_log.proofs.Each.{Each-append, Each-weaker, count_by-none}
use Rattle.p2p_log_laws.proofs.Spreads.{AreFrames, Adds, puts-spread}

-- ---- lower places

abbrev AreLower : ℕ × ℕ → List (Queue × Item) → Type 0
AreLower copy puts = Each (λ x. is_lower copy x.1 ≡ true) puts

lower_next : (s p a b : ℕ) → ((a == s) && nat_lt b p) ≡ true → ((a == s) && nat_lt b (p + 1)) ≡ true
lower_next s p a b h = grind (arith, nat_tests)

is_lower-next : (s p : ℕ) (i : Item) → is_lower (s, p) i ≡ true → is_lower (s, p + 1) i ≡ true
is_lower-next s p (item.Frame (Some other) frame) h = lower_next s p other.0 other.1 h
is_lower-next s p _ h = absurd (cc)

lower_here : (s p : ℕ) → ((s == s) && nat_lt p (p + 1)) ≡ true
lower_here s p = grind (arith, nat_tests)

not_lower : (s p q : ℕ) → q ≤ p → ((s == s) && nat_lt p q) ≡ false
not_lower s p q h = grind (arith, nat_tests)

-- the frames from a place on are of no lower places
AreFrames-not_lower : (send q p : ℕ) (frame : List ℕ) (ks : List Key) (puts : List (Queue × Item)) → q ≤ p → AreFrames send p frame ks puts
    → Each (λ x. is_lower (send, q) x.1 ≡ false) puts
AreFrames-not_lower send q p frame [] puts h f = subst (Each (λ (x : Queue × Item). is_lower (send, q) x.1 ≡ false)) (sym f) tt
AreFrames-not_lower send q p frame (k ∷ ks) puts h f = elim f [
  | inl none ↦ AreFrames-not_lower send q (p + 1) frame ks puts (omega arith) none
  | inr some ↦ subst (Each (λ (x : Queue × Item). is_lower (send, q) x.1 ≡ false)) (sym some.2)
      (not_lower send p q h, AreFrames-not_lower send q (p + 1) frame ks some.1 (omega arith) some.3)
]

-- ---- how many stood there

and_true : (a b : Bool) → b ≡ true → (a && b) ≡ a
and_true true b h = h
and_true false b h = refl

and_false : (a b : Bool) → b ≡ false → (a && b) ≡ false
and_false true b h = h
and_false false b h = refl

count_lower : (q : Queue) (copy : ℕ × ℕ) (puts : List (Queue × Item)) → AreLower copy puts → count_by (enters_before q copy) puts ≡ count_by (goes_to q) puts
count_lower q copy [] h = refl
count_lower q copy (x ∷ puts) h =
    sum_by-cons (λ y. cond (enters_before q copy y) 1 0) x puts
    ∙ (ap (λ b. cond b 1 0 + count_by (enters_before q copy) puts) (and_true (goes_to q x) (is_lower copy x.1) h.0)
    ∙ (ap (λ m. cond (goes_to q x) 1 0 + m) (count_lower q copy puts h.1) ∙ sym (sum_by-cons (λ y. cond (goes_to q y) 1 0) x puts)))

-- of all that the spread puts, what enters the queue before a copy's turn is what entered it so far
entered : (q : Queue) (send p : ℕ) (frame : List ℕ) (ks : List Key) (before after : List (Queue × Item)) → AreLower (send, p) before → Adds send p frame ks before after
    → count_by (enters_before q (send, p)) after ≡ count_by (goes_to q) before
entered q send p frame ks before after lower h =
    let none : count_by (enters_before q (send, p)) h.0 ≡ 0 =
    count_by-none (enters_before q (send, p)) h.0
    (Each-weaker (λ x. is_lower (send, p) x.1 ≡ false) (λ x. enters_before q (send, p) x ≡ false) (λ x l. and_false (goes_to q x) (is_lower (send, p) x.1) l)
    h.0 (AreFrames-not_lower send p p frame ks h.0 (omega arith) h.2))
    in
    ap (λ l. count_by (enters_before q (send, p)) l) h.1
    ∙ (sum_by-append (λ x. cond (enters_before q (send, p) x) 1 0) before h.0
    ∙ (ap (λ m. count_by (enters_before q (send, p)) before + m) none ∙ (omega arith ∙ count_lower q (send, p) before lower)))

-- ---- the drops

-- whether the queue is full when the copy's turn comes, of what an entry puts in all
abbrev pub is_full : ℕ → List Envelope → Queue → ℕ × ℕ → List (Queue × Item) → Bool
is_full size items q copy puts = nat_le size (length (filter (stands_in q) items) + count_by (enters_before q copy) puts)

module _ (P : End → Type 0) (size : ℕ) (items : List Envelope) (n : ℕ) (priority : Bool) (ended : ℕ → Bool) (routes : List (ℕ × ℕ)) (send : ℕ) (frame : List ℕ) (to : List Key) (all : List (Queue × Item))
    (unconnected : (p : ℕ) (k : Key) → slice_get to p ≡ Some k → route_to routes k ≡ None → P (end.Copy send p (outcome.Dropped cause.NoConnection)))
    (late : (p : ℕ) (k : Key) (conn : ℕ) → slice_get to p ≡ Some k → route_to routes k ≡ Some conn → ended conn ≡ true → P (end.Copy send p (outcome.Dropped cause.ConnectionEnded)))
    (full : (p : ℕ) (k : Key) (conn : ℕ) → slice_get to p ≡ Some k → route_to routes k ≡ Some conn → is_full size items (relay_queue priority n conn) (send, p) all ≡ true
    → P (end.Copy send p (outcome.Dropped cause.RelayFull))) where
  -- what is so far: each end shown, and each put of a lower place
  abbrev SoFar : ℕ → Spread → Type 0
  SoFar p s = Each P s.ends × AreLower (send, p) s.puts

  next_lower : (p : ℕ) (s : Spread) → AreLower (send, p) s.puts → AreLower (send, p + 1) s.puts
  next_lower p s h = Each-weaker (λ x. is_lower (send, p) x.1 ≡ true) (λ x. is_lower (send, p + 1) x.1 ≡ true) (λ x l. is_lower-next send p x.1 l) s.puts h

  next_dropped : (p : ℕ) (s : Spread) (d : End) → P d → SoFar p s → SoFar (p + 1) (record s { ends = s.ends ++ d ∷ [] })
  next_dropped p s d shown h = (Each-append P s.ends (d ∷ []) h.0 (shown, tt), next_lower p s h.1)

  next_put : (p : ℕ) (s : Spread) (q : Queue) → SoFar p s → SoFar (p + 1) (record s { puts = s.puts ++ (q, item.Frame (Some (send, p)) frame) ∷ [] })
  next_put p s q h =
      (h.0, Each-append (λ (x : Queue × Item). is_lower (send, p + 1) x.1 ≡ true) s.puts ((q, item.Frame (Some (send, p)) frame) ∷ []) (next_lower p s h.1) (lower_here send p, tt))

  next_sized : (p : ℕ) (k : Key) (conn : ℕ) (s : Spread) (b : Bool) → slice_get to p ≡ Some k → route_to routes k ≡ Some conn
      → nat_le size (length (filter (stands_in (relay_queue priority n conn)) items) + count_by (goes_to (relay_queue priority n conn)) s.puts) ≡ b
      → count_by (enters_before (relay_queue priority n conn) (send, p)) all ≡ count_by (goes_to (relay_queue priority n conn)) s.puts
      → SoFar p s
      → SoFar (p + 1) (cond b (record s { ends = s.ends ++ end.Copy send p (outcome.Dropped cause.RelayFull) ∷ [] }) (record s { puts = s.puts ++ (relay_queue priority n conn, item.Frame (Some (send, p)) frame) ∷ [] }))
  next_sized p k conn s true here route size_is count h =
      let q = relay_queue priority n conn in
      let is : is_full size items q (send, p) all ≡ true = ap (λ m. nat_le size (length (filter (stands_in q) items) + m)) count ∙ size_is in
      next_dropped p s (end.Copy send p (outcome.Dropped cause.RelayFull)) (full p k conn here route is) h
  next_sized p k conn s false here route size_is count h = next_put p s (relay_queue priority n conn) h

  next_ended : (p : ℕ) (k : Key) (conn : ℕ) (s : Spread) (b : Bool) → slice_get to p ≡ Some k → route_to routes k ≡ Some conn → ended conn ≡ b
      → ((q : Queue) → count_by (enters_before q (send, p)) all ≡ count_by (goes_to q) s.puts)
      → SoFar p s
      → SoFar (p + 1) (cond b (dropped_copy cause.ConnectionEnded send p s) (spread_one size items (relay_queue priority n conn) send p frame s))
  next_ended p k conn s true here route is counts h = next_dropped p s (end.Copy send p (outcome.Dropped cause.ConnectionEnded)) (late p k conn here route is) h
  next_ended p k conn s false here route is counts h = next_sized p k conn s _ here route refl (counts (relay_queue priority n conn)) h

  next_all : (p : ℕ) (k : Key) (s : Spread) (o : Option ℕ) → slice_get to p ≡ Some k → route_to routes k ≡ o
      → ((q : Queue) → count_by (enters_before q (send, p)) all ≡ count_by (goes_to q) s.puts)
      → SoFar p s → SoFar (p + 1) (spread_to size items n priority ended o send p frame s)
  next_all p k s None here route counts h = next_dropped p s (end.Copy send p (outcome.Dropped cause.NoConnection)) (unconnected p k here route) h
  next_all p k s (Some conn) here route counts h = next_ended p k conn s (ended conn) here route refl counts h

  from_shown : (ks front : List Key) (p : ℕ) (s : Spread) → to ≡ front ++ ks → p ≡ length front → (spread size items n priority ended routes send p frame ks s).puts ≡ all
      → SoFar p s → Each P (spread size items n priority ended routes send p frame ks s).ends
  from_shown [] front p s parts long whole h = h.0
  from_shown (k ∷ ks) front p s parts long whole h =
      let t : Spread = spread_to size items n priority ended (route_to routes k) send p frame s in
      let here : slice_get to p ≡ Some k =
      ap (λ (l : List Key). slice_get l p) parts ∙ (ap (λ (i : ℕ). slice_get (front ++ k ∷ ks) i) long ∙ slice_get-seam front k ks)
      in
      let adds : Adds send p frame (k ∷ ks) s.puts all =
      subst (Adds send p frame (k ∷ ks) s.puts) whole (puts-spread size items n priority ended routes send frame (k ∷ ks) p s)
      in
      from_shown ks (front ++ k ∷ []) (p + 1) t (parts ∙ sym (append_assoc front (k ∷ []) ks)) (ap (λ i. i + 1) long ∙ sym (length_push front k)) whole
      (next_all p k s (route_to routes k) here refl (λ q. entered q send p frame (k ∷ ks) s.puts all h.1 adds) h)

  pub spread_drops : (spread size items n priority ended routes send 0 frame to (record { puts = []; ends = [] })).puts ≡ all
      → Each P (spread size items n priority ended routes send 0 frame to (record { puts = []; ends = [] })).ends
  spread_drops whole = from_shown to [] 0 (record { puts = []; ends = [] }) refl refl whole (tt, tt)
