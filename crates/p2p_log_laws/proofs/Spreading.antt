-- What the router makes of a message for many peers: for each place one frame or one end, and none for another copy.
use Rattle.std.proofs.Common.{◌≡◌, ℕ, suc, ◌+◌, Bool, true, false, cond, List, [], ◌∷◌, ◌++◌, length, Option, Some, None, refl, ap, sym, ◌∙◌, arith, append_assoc}
use Rattle.std.specs.Prelude.{◌==◌, ◌&&◌, nat_le, nat_lt, count_by, filter, slice_get}
use Rattle.std.specs.List.{AllByRecursion as Each}
use Rattle.std.proofs.lemmas.List.{length_push}
use Rattle.std.proofs.lemmas.Bool.Decides.{nat_tests}
use Rattle.std.proofs.lemmas.List.Sums.{sum_by-cons, sum_by_push}
use Rattle.p2p_base.specs.declared.key.Key.{Key}
use Rattle.p2p_log.specs.declared.queue.Queue.{Queue}
use Rattle.p2p_log.specs.declared.item.Item.{Item}
use Rattle.p2p_log.specs.declared.item.Item.TheVariants as item
use Rattle.p2p_log.specs.declared.end.End.{End}
use Rattle.p2p_log.specs.declared.end.End.TheVariants as end
use Rattle.p2p_log.specs.declared.end.Outcome.{Outcome}
use Rattle.p2p_log.specs.declared.end.Outcome.TheVariants as outcome
use Rattle.p2p_log.specs.declared.end.Cause.TheVariants as cause
use Rattle.p2p_log.specs.declared.item.Envelope.{Envelope}
use Rattle.p2p_log.specs.Lines.{same_name, stands_in}
use Rattle.p2p_log_rules.specs.Facts.{route_to}
use Rattle.p2p_log.specs.Copies.{carries_copy, ends_copy}
use Rattle.p2p_log.proofs.Places.{slice_get-seam}
use Rattle.p2p_log.proofs.Each.{Each-append}
use Rattle.p2p_log_rules.specs.Effect.{Spread, spread, dropped_copy, spread_one, spread_to, copies_end, goes_to, relay_queue}

-- how many of these puts and ends are the copy's
abbrev pub borne_by : ℕ × ℕ → List (Queue × Item) → List End → ℕ
borne_by copy puts ends = count_by (λ x. carries_copy copy x.1) puts + count_by (ends_copy copy) ends

abbrev pub one : Bool → ℕ
one b = cond b 1 0

-- 1 for a copy of this send with a place from p on, of so many
abbrev pub from_place : ℕ × ℕ → ℕ → ℕ → ℕ → ℕ
from_place copy send p many = one ((send == copy.0) && (nat_le p copy.1 && nat_lt copy.1 (p + many)))

from_more : (a b s p l m : ℕ) → m ≡ suc l
    → one ((a == s) && (b == p)) + one ((s == a) && (nat_le (p + 1) b && nat_lt b ((p + 1) + l)))
    ≡ one ((s == a) && (nat_le p b && nat_lt b (p + m)))
from_more a b s p l m e = grind (arith, nat_tests)

from_none : (a b s p : ℕ) → one ((s == a) && (nat_le p b && nat_lt b (p + 0))) ≡ 0
from_none a b s p = grind (arith, nat_tests)

-- from the first place on
pub from_first : (a b s l : ℕ) → one ((s == a) && (nat_le 0 b && nat_lt b (0 + l))) ≡ one ((s == a) && nat_lt b l)
from_first a b s l = grind (arith, nat_tests)

-- every place from p on ends
pub count_by-copies_end : (copy : ℕ × ℕ) (send p : ℕ) (ks : List Key) (o : Outcome)
    → count_by (ends_copy copy) (copies_end send p ks o) ≡ from_place copy send p (length ks)
count_by-copies_end copy send p [] o = sym (from_none copy.0 copy.1 send p)
count_by-copies_end copy send p (k ∷ ks) o =
    let more : count_by (ends_copy copy) (copies_end send (p + 1) ks o) ≡ from_place copy send (p + 1) (length ks) =
    count_by-copies_end copy send (p + 1) ks o
    in
    sum_by-cons (λ x. cond (ends_copy copy x) 1 0) (end.Copy send p o) (copies_end send (p + 1) ks o)
    ∙ (ap (λ n. cond (same_name copy (send, p)) 1 0 + n) more ∙ from_more copy.0 copy.1 send p (length ks) (length (k ∷ ks)) refl)

module _ (copy : ℕ × ℕ) (send p : ℕ) (s : Spread) where
  one_drop : (o : Outcome) → borne_by copy s.puts (s.ends ++ end.Copy send p o ∷ []) ≡ borne_by copy s.puts s.ends + cond (same_name copy (send, p)) 1 0
  one_drop o =
      let e : count_by (ends_copy copy) (s.ends ++ end.Copy send p o ∷ []) ≡ count_by (ends_copy copy) s.ends + cond (same_name copy (send, p)) 1 0 =
      sum_by_push (λ x. cond (ends_copy copy x) 1 0) s.ends (end.Copy send p o)
      in
      omega (arith, e)

  one_frame : (q : Queue) (frame : List ℕ)
      → borne_by copy (s.puts ++ (q, item.Frame (Some (send, p)) frame) ∷ []) s.ends ≡ borne_by copy s.puts s.ends + cond (same_name copy (send, p)) 1 0
  one_frame q frame =
      let e : count_by (λ x. carries_copy copy x.1) (s.puts ++ (q, item.Frame (Some (send, p)) frame) ∷ []) ≡ count_by (λ x. carries_copy copy x.1) s.puts + cond (same_name copy (send, p)) 1 0 =
      sum_by_push (λ x. cond (carries_copy copy x.1) 1 0) s.puts (q, item.Frame (Some (send, p)) frame)
      in
      omega (arith, e)

  pub borne-spread_one : (size : ℕ) (items : List Envelope) (q : Queue) (frame : List ℕ)
      → borne_by copy (spread_one size items q send p frame s).puts (spread_one size items q send p frame s).ends ≡ borne_by copy s.puts s.ends + cond (same_name copy (send, p)) 1 0
  borne-spread_one size items q frame =
      elim (nat_le size (length (filter (stands_in q) items) + count_by (goes_to q) s.puts)) as (λ b.
      let t : Spread = cond b (record s { ends = s.ends ++ end.Copy send p (outcome.Dropped cause.RelayFull) ∷ [] }) (record s { puts = s.puts ++ (q, item.Frame (Some (send, p)) frame) ∷ [] }) in
      borne_by copy t.puts t.ends ≡ borne_by copy s.puts s.ends + cond (same_name copy (send, p)) 1 0) [
        | true ↦ one_drop (outcome.Dropped cause.RelayFull)
        | false ↦ one_frame q frame
      ]

  borne-spread_ended : (size : ℕ) (items : List Envelope) (q : Queue) (frame : List ℕ) (b : Bool)
      → borne_by copy (cond b (dropped_copy cause.ConnectionEnded send p s) (spread_one size items q send p frame s)).puts
      (cond b (dropped_copy cause.ConnectionEnded send p s) (spread_one size items q send p frame s)).ends
      ≡ borne_by copy s.puts s.ends + cond (same_name copy (send, p)) 1 0
  borne-spread_ended size items q frame true = one_drop (outcome.Dropped cause.ConnectionEnded)
  borne-spread_ended size items q frame false = borne-spread_one size items q frame

  pub borne-spread_next : (size : ℕ) (items : List Envelope) (n : ℕ) (priority : Bool) (ended : ℕ → Bool) (frame : List ℕ) (o : Option ℕ)
      → borne_by copy (spread_to size items n priority ended o send p frame s).puts (spread_to size items n priority ended o send p frame s).ends
      ≡ borne_by copy s.puts s.ends + cond (same_name copy (send, p)) 1 0
  borne-spread_next size items n priority ended frame None = one_drop (outcome.Dropped cause.NoConnection)
  borne-spread_next size items n priority ended frame (Some conn) = borne-spread_ended size items (relay_queue priority n conn) frame (ended conn)

-- each place from p on gets one frame or one end, and no other copy gets any
pub borne-spread : (copy : ℕ × ℕ) (size : ℕ) (items : List Envelope) (n : ℕ) (priority : Bool) (ended : ℕ → Bool) (routes : List (ℕ × ℕ)) (send p : ℕ) (frame : List ℕ) (ks : List Key) (s : Spread)
    → borne_by copy (spread size items n priority ended routes send p frame ks s).puts (spread size items n priority ended routes send p frame ks s).ends
    ≡ borne_by copy s.puts s.ends + from_place copy send p (length ks)
borne-spread copy size items n priority ended routes send p frame [] s =
    let none : from_place copy send p 0 ≡ 0 = from_none copy.0 copy.1 send p in
    omega (arith, none)
borne-spread copy size items n priority ended routes send p frame (k ∷ ks) s =
    let t : Spread = spread_to size items n priority ended (route_to routes k) send p frame s in
    let next : borne_by copy t.puts t.ends ≡ borne_by copy s.puts s.ends + cond (same_name copy (send, p)) 1 0 =
    borne-spread_next copy send p s size items n priority ended frame (route_to routes k)
    in
    let rest : cond (same_name copy (send, p)) 1 0 + from_place copy send (p + 1) (length ks) ≡ from_place copy send p (length (k ∷ ks)) =
    from_more copy.0 copy.1 send p (length ks) (length (k ∷ ks)) refl
    in
    let more : borne_by copy (spread size items n priority ended routes send (p + 1) frame ks t).puts (spread size items n priority ended routes send (p + 1) frame ks t).ends
    ≡ borne_by copy t.puts t.ends + from_place copy send (p + 1) (length ks) =
    borne-spread copy size items n priority ended routes send (p + 1) frame ks t
    in
    more ∙ omega (arith, next, rest)

-- what each end and each put of a spread has, where the recipients have these connections
module _ (PE : End → Type 0) (PP : Queue × Item → Type 0) (size : ℕ) (items : List Envelope) (n : ℕ) (priority : Bool) (ended : ℕ → Bool) (routes : List (ℕ × ℕ)) (send : ℕ) (frame : List ℕ) (to : List Key)
    (drops : (p : ℕ) (o : Outcome) → PE (end.Copy send p o))
    (puts : (p : ℕ) (k : Key) (conn : ℕ) → slice_get to p ≡ Some k → route_to routes k ≡ Some conn → PP (relay_queue priority n conn, item.Frame (Some (send, p)) frame)) where
  abbrev Has_each : Spread → Type 0
  Has_each s = Each PE s.ends × Each PP s.puts

  next_dropped : (p : ℕ) (o : Outcome) (s : Spread) → Has_each s → Has_each (record s { ends = s.ends ++ end.Copy send p o ∷ [] })
  next_dropped p o s h = (Each-append PE s.ends (end.Copy send p o ∷ []) h.0 (drops p o, tt), h.1)

  next_put : (p : ℕ) (k : Key) (conn : ℕ) (s : Spread) → slice_get to p ≡ Some k → route_to routes k ≡ Some conn → Has_each s
      → Has_each (record s { puts = s.puts ++ (relay_queue priority n conn, item.Frame (Some (send, p)) frame) ∷ [] })
  next_put p k conn s here route h = (h.0, Each-append PP s.puts ((relay_queue priority n conn, item.Frame (Some (send, p)) frame) ∷ []) h.1 (puts p k conn here route, tt))

  next_one : (p : ℕ) (k : Key) (conn : ℕ) (s : Spread) → slice_get to p ≡ Some k → route_to routes k ≡ Some conn → Has_each s
      → Has_each (spread_one size items (relay_queue priority n conn) send p frame s)
  next_one p k conn s here route h =
      elim (nat_le size (length (filter (stands_in (relay_queue priority n conn)) items) + count_by (goes_to (relay_queue priority n conn)) s.puts)) as (λ b.
      Has_each (cond b (record s { ends = s.ends ++ end.Copy send p (outcome.Dropped cause.RelayFull) ∷ [] }) (record s { puts = s.puts ++ (relay_queue priority n conn, item.Frame (Some (send, p)) frame) ∷ [] }))) [
        | true ↦ next_dropped p (outcome.Dropped cause.RelayFull) s h
        | false ↦ next_put p k conn s here route h
      ]

  next_ended : (p : ℕ) (k : Key) (conn : ℕ) (s : Spread) (b : Bool) → slice_get to p ≡ Some k → route_to routes k ≡ Some conn → Has_each s
      → Has_each (cond b (dropped_copy cause.ConnectionEnded send p s) (spread_one size items (relay_queue priority n conn) send p frame s))
  next_ended p k conn s true here route h = next_dropped p (outcome.Dropped cause.ConnectionEnded) s h
  next_ended p k conn s false here route h = next_one p k conn s here route h

  next_each : (p : ℕ) (k : Key) (s : Spread) (o : Option ℕ) → slice_get to p ≡ Some k → route_to routes k ≡ o → Has_each s
      → Has_each (spread_to size items n priority ended o send p frame s)
  next_each p k s None here route h = next_dropped p (outcome.Dropped cause.NoConnection) s h
  next_each p k s (Some conn) here route h = next_ended p k conn s (ended conn) here route h

  from_each : (ks front : List Key) (p : ℕ) (s : Spread) → to ≡ front ++ ks → p ≡ length front → Has_each s
      → Has_each (spread size items n priority ended routes send p frame ks s)
  from_each [] front p s parts long h = h
  from_each (k ∷ ks) front p s parts long h =
      let t : Spread = spread_to size items n priority ended (route_to routes k) send p frame s in
      let here : slice_get to p ≡ Some k =
      ap (λ (l : List Key). slice_get l p) parts ∙ (ap (λ (i : ℕ). slice_get (front ++ k ∷ ks) i) long ∙ slice_get-seam front k ks)
      in
      from_each ks (front ++ k ∷ []) (p + 1) t (parts ∙ sym (append_assoc front (k ∷ []) ks))
      (ap (λ i. i + 1) long ∙ sym (length_push front k))
      (next_each p k s (route_to routes k) here refl h)

  pub spread_each : Each PE (spread size items n priority ended routes send 0 frame to (record { puts = []; ends = [] })).ends
      × Each PP (spread size items n priority ended routes send 0 frame to (record { puts = []; ends = [] })).puts
  spread_each = from_each to [] 0 (record { puts = []; ends = [] }) refl refl (tt, tt)
