-- The fate of each copy of a lawful log is true.
use Rattle.p2p_log.proofs.Sending.{get_longer}
use Rattle.p2p_log.specs.Copies.{accepted}
use Rattle.p2p_log_rules.proofs.Moves.{one_taken, first_has}
use Rattle.std.proofs.Common.{◌≡◌, ℕ, ◌+◌, ◌≤◌, Bool, true, false, cond, List, [], ◌∷◌, ◌++◌, length, take, drop, Option, Some, None, inl, inr, refl, ap, sym, subst, ◌∙◌, arith, take-append-drop}
use Rattle.std.specs.Prelude.{count_by, filter, is_some, nat_lt, slice_get}
use Rattle.std.proofs.lemmas.List.Sums.{length-filter}
use Rattle.std.proofs.lemmas.Option.{same_Some}
use Rattle.p2p_log.specs.declared.config.Config.{Config}
use Rattle.p2p_log.specs.declared.queue.Queue.{Queue}
use Rattle.p2p_log.specs.declared.item.Item.{Item}
use Rattle.p2p_log.specs.declared.item.Envelope.{Envelope}
use Rattle.p2p_log.specs.declared.end.Cause.{Cause}
use Rattle.p2p_log.specs.declared.end.Outcome.{Outcome}
use Rattle.p2p_log.specs.declared.end.Outcome.TheVariants as outcome
use Rattle.p2p_log.specs.declared.entry.Entry.{Entry}
use Rattle.p2p_log.specs.declared.event.Event.{Event}
use Rattle.p2p_log.specs.declared.report.Fate.{Fate}
use Rattle.p2p_log.specs.declared.report.Fate.TheVariants as fate
use Rattle.p2p_log_rules.specs.Lawful.{IsLawful}
use Rattle.p2p_log.specs.Lines.{name_of, stands_in, live, line}
use Rattle.p2p_log.specs.Copies.{carries, carriers, times_ended}
use Rattle.p2p_log.specs.Fates.{ended_from, queue_named, queue_read, takes_at, fate_ended, fate_waiting, fate_of}
use Rattle.p2p_log_laws.proofs.Bulk.{carried_is}
use Rattle.p2p_log.proofs.Queues.{same_queue-refl}
use Rattle.p2p_log_laws.specs.Fates.{WaitsIn, EndsAt, IsReadFrom, EachHasFate, WaitingIsTrue, DroppedIsTrue, DeliveredIsTrue}
use Rattle.p2p_log_laws.proofs.Drops.{each_read}
use Rattle.p2p_log_laws.specs.Delivered.{IsRead}
use Rattle.p2p_log.proofs.Each.{Has, Has-get, Has-kept, Each-has, Each-passing, place_of, Has-of_kept}
use Rattle.p2p_log_laws.proofs.FirstEnd.{times_at, ended_place, ended_none, ended_is}
use Rattle.p2p_log_laws.proofs.Ledger.{Told-end}
use Rattle.p2p_log_laws.proofs.Puts.{IsPut, each_put}
use Rattle.p2p_log.proofs.QueueNames.{Each-in_queue}
use Rattle.p2p_log_laws.proofs.Spreading.{one}

-- ---- lists

no_kept : {X : Type 0} (p : X → Bool) (xs : List X) → count_by p xs ≡ 1 → filter p xs ≡ [] → ⊥
no_kept p xs one none = absurd (let long : length (filter p xs) ≡ count_by p xs = length-filter p xs in let zero_long : length (filter p xs) ≡ 0 = ap (λ l. length l) none in omega (arith, one, long, zero_long))

only_one : {X : Type 0} (xs : List X) (x y : X) (ys : List X) → xs ≡ y ∷ ys → length xs ≡ 1 → Has xs x → y ≡ x
only_one xs x y [] e long h = elim (subst (λ l. Has l x) e h) [ inl is ↦ is | inr l ↦ absurd l ]
only_one xs x y (z ∷ zs) e long h = absurd (let two : length xs ≡ length (y ∷ z ∷ zs) = ap (λ l. length l) e in omega (arith, long, two))

-- ---- one lawful log

module _ (configs : List Config) (script : List Event) (log : List Entry) (lawful : IsLawful configs script log) (copy : ℕ × ℕ) where
  abbrev is_accepted : Bool
  is_accepted = nat_lt copy.1 (length (accepted log copy.0))

  -- what carries the copy and what ends it are one, or none
  balance : carriers log copy + times_ended log copy ≡ one is_accepted
  balance = (Told-end configs script log lawful).balance copy

  is_accepted_by : (b : Bool) → is_accepted ≡ b → 1 ≤ carriers log copy + times_ended log copy → b ≡ true
  is_accepted_by true e h = refl
  is_accepted_by false e h = absurd (let none : one is_accepted ≡ 0 = ap (λ b. one b) e in let all = balance in omega (arith, none, all, h))

  few_ends : times_ended log copy ≤ 1
  few_ends = go is_accepted refl
    where
      go : (b : Bool) → is_accepted ≡ b → times_ended log copy ≤ 1
      go true e = let is : one is_accepted ≡ 1 = ap (λ b. one b) e in let all = balance in omega (arith, is, all)
      go false e = let is : one is_accepted ≡ 0 = ap (λ b. one b) e in let all = balance in omega (arith, is, all)

  -- the fate, by whether the copy is accepted and by its end
  abbrev fate_by : Bool → Option (ℕ × Outcome) → Option Fate
  fate_by b o = cond b (elim o [ None ↦ fate_waiting (filter (carries copy) (live log)) | Some x ↦ fate_ended log x ]) None

  fate_is : (b : Bool) (o : Option (ℕ × Outcome)) → is_accepted ≡ b → ended_from 0 copy log ≡ o → fate_of log copy ≡ fate_by b o
  unfolding fate_of
  fate_is b o e h = ap (λ t. fate_by t (ended_from 0 copy log)) e ∙ ap (fate_by b) h

  -- ---- the queue that an entry read

  queue_at : (x : Envelope) → IsPut log x → queue_named log (name_of x) ≡ Some x.queue
  queue_at x h =
      let of_entry : Option Entry → Option Queue = λ (o : Option Entry). elim o [ None ↦ None | Some e ↦ elim (slice_get e.puts x.place) [ None ↦ None | Some y ↦ Some y.0 ] ] in
      ap of_entry h.at ∙ ap (λ (o : Option (Queue × Item)). elim o [ None ↦ None | Some y ↦ Some y.0 ]) h.put

  read_of : (n : ℕ) (e : Entry) (q : Queue) (x : Envelope) (rest : List Envelope) → slice_get log n ≡ Some e → line (take n log) q ≡ x ∷ rest → e.takes ≡ name_of x ∷ []
      → fate_ended log (n, outcome.Delivered) ≡ Some (fate.Delivered q n)
  read_of n e q x rest at stood takes =
      let whole : take n log ++ drop n log ≡ log = take-append-drop n log in
      let early : IsPut (take n log) x = first_has (IsPut (take n log)) (take n log) q x rest (each_put (take n log)) stood in
      let put : IsPut log x = record {
        entry = early.entry;
        at = subst (λ (l : List Entry). slice_get l x.entry ≡ Some early.entry) whole (get_longer (take n log) (drop n log) x.entry early.entry early.at);
        put = early.put;
      } in
      let names : takes_at log n ≡ name_of x ∷ [] = ap (λ (o : Option Entry). elim o [ None ↦ [] | Some d ↦ d.takes ]) at ∙ takes in
      let found : queue_read log (takes_at log n) ≡ Some q =
      ap (queue_read log) names ∙ (queue_at x put ∙ ap (λ p. Some p) (one_taken (take n log) q x rest stood))
      in
      ap (λ (o : Option Queue). elim o [ None ↦ None | Some p ↦ Some (fate.Delivered p n) ]) found

  -- the reader of a copy that an entry delivers
  read_at : (n : ℕ) → EndsAt log copy outcome.Delivered n → (q : Queue) × IsReadFrom log copy q n
  read_at n h =
      let r : IsRead configs (take n log) h.entry copy = each_read configs script log lawful n h.entry h.place copy h.at h.ended in (
        r.queue,
        record {
          ends = h;
          carrier = r.oldest;
          later = r.later;
          stood = r.stood;
          takes = r.takes;
          has_copy = carried_is copy r.oldest.item r.carried;
        },
      )

  delivered_fate : (n : ℕ) (q : Queue) (h : IsReadFrom log copy q n) → fate_ended log (n, outcome.Delivered) ≡ Some (fate.Delivered q n)
  delivered_fate n q h = read_of n h.ends.entry q h.carrier h.later h.ends.at h.stood h.takes

  -- ---- what is accepted has a fate

  known_by : (b : Bool) (o : Option (ℕ × Outcome)) → is_accepted ≡ b → ended_from 0 copy log ≡ o → is_some (fate_by b o) ≡ b
  known_by false o e h = refl
  known_by true None e h =
      let none : times_ended log copy ≡ 0 = ended_none copy log h in
      let is : one is_accepted ≡ 1 = ap (λ b. one b) e in
      let all = balance in
      some_waits (filter (carries copy) (live log)) refl (omega (arith, none, is, all))
    where
      some_waits : (xs : List Envelope) → filter (carries copy) (live log) ≡ xs → carriers log copy ≡ 1 → is_some (fate_waiting xs) ≡ true
      some_waits [] f c = absurd (no_kept (carries copy) (live log) c f)
      some_waits (x ∷ xs) f c = refl
  known_by true (Some (n, outcome.Dropped c)) e h = refl
  known_by true (Some (n, outcome.Delivered)) e h =
      let r = read_at n (ended_place copy log n outcome.Delivered h) in
      ap (λ (o : Option Fate). is_some o) (delivered_fate n r.0 r.1)

  known : is_some (fate_of log copy) ≡ is_accepted
  known = go is_accepted refl
    where
      go : (b : Bool) → is_accepted ≡ b → is_some (fate_of log copy) ≡ b
      go b e = ap (λ (o : Option Fate). is_some o) (fate_is b (ended_from 0 copy log) e refl) ∙ known_by b (ended_from 0 copy log) e refl

  -- ---- a copy that ended

  ended_fate : (n : ℕ) (o : Outcome) → EndsAt log copy o n → fate_of log copy ≡ fate_ended log (n, o)
  ended_fate n o h =
      let some : 1 ≤ times_ended log copy = times_at copy log n o h in
      let accept : is_accepted ≡ true = is_accepted_by is_accepted refl (omega (arith, some)) in
      fate_is true (Some (n, o)) accept (ended_is copy log n o h few_ends)

  -- what a fate tells, by the end that is found
  abbrev Tells : Option (ℕ × Outcome) → Fate → Type 0
  Tells None (fate.Waiting q) = (x : Envelope) × (rest : List Envelope) × (filter (carries copy) (live log) ≡ x ∷ rest) × (x.queue ≡ q)
  Tells (Some x) (fate.Dropped c n) = x ≡ (n, outcome.Dropped c)
  Tells (Some x) (fate.Delivered q n) = (x ≡ (n, outcome.Delivered)) × (fate_ended log (n, outcome.Delivered) ≡ Some (fate.Delivered q n))
  Tells _ _ = ⊥

  waiting_tells : (xs : List Envelope) (f : Fate) → filter (carries copy) (live log) ≡ xs → fate_waiting xs ≡ Some f → Tells None f
  waiting_tells [] f h e = absurd (cc)
  waiting_tells (x ∷ xs) (fate.Waiting q) h e = let same : fate.Waiting x.queue ≡ fate.Waiting q = same_Some (fate.Waiting x.queue) (fate.Waiting q) e in (x, xs, h, cc)
  waiting_tells (x ∷ xs) (fate.Dropped c n) h e = absurd (cc)
  waiting_tells (x ∷ xs) (fate.Delivered q n) h e = absurd (cc)

  read_tells : (n : ℕ) (o : Option Queue) (f : Fate) → queue_read log (takes_at log n) ≡ o → elim o [ None ↦ None | Some q ↦ Some (fate.Delivered q n) ] ≡ Some f
      → Tells (Some (n, outcome.Delivered)) f
  read_tells n None f h e = absurd (cc)
  read_tells n (Some q) (fate.Waiting p) h e = absurd (cc)
  read_tells n (Some q) (fate.Dropped c m) h e = absurd (cc)
  read_tells n (Some q) (fate.Delivered p m) h e =
      let same : fate.Delivered q n ≡ fate.Delivered p m = same_Some (fate.Delivered q n) (fate.Delivered p m) e in
      let entries : n ≡ m = cc in
      let queues : q ≡ p = cc in (
        ap (λ k. (k, outcome.Delivered)) entries,
        subst (λ k. fate_ended log (k, outcome.Delivered) ≡ Some (fate.Delivered p k)) entries
            (ap (λ (x : Option Queue). elim x [ None ↦ None | Some r ↦ Some (fate.Delivered r n) ]) h ∙ ap (λ r. Some (fate.Delivered r n)) queues),
      )

  dropped_tells : (n : ℕ) (c : Cause) (f : Fate) → ◌≡◌ {A = Option Fate} (Some (fate.Dropped c n)) (Some f) → Tells (Some (n, outcome.Dropped c)) f
  dropped_tells n c (fate.Waiting q) e = absurd (cc)
  dropped_tells n c (fate.Delivered q m) e = absurd (cc)
  dropped_tells n c (fate.Dropped d m) e =
      let same : fate.Dropped c n ≡ fate.Dropped d m = same_Some (fate.Dropped c n) (fate.Dropped d m) e in
      let entries : n ≡ m = cc in
      let causes : c ≡ d = cc in
      ap (λ k. (k, outcome.Dropped c)) entries ∙ ap (λ x. (m, outcome.Dropped x)) causes

  tells_by : (b : Bool) (o : Option (ℕ × Outcome)) (f : Fate) → fate_by b o ≡ Some f → Tells o f
  tells_by false o f e = absurd (cc)
  tells_by true None f e = waiting_tells (filter (carries copy) (live log)) f refl e
  tells_by true (Some (n, outcome.Dropped c)) f e = dropped_tells n c f e
  tells_by true (Some (n, outcome.Delivered)) f e = read_tells n (queue_read log (takes_at log n)) f refl e

  fate_tells : (f : Fate) → fate_of log copy ≡ Some f → Tells (ended_from 0 copy log) f
  fate_tells f e = tells_by is_accepted (ended_from 0 copy log) f (sym (fate_is is_accepted (ended_from 0 copy log) refl refl) ∙ e)

  -- ---- dropped

  dropped_ends : (c : Cause) (n : ℕ) → fate_of log copy ≡ Some (fate.Dropped c n) → EndsAt log copy (outcome.Dropped c) n
  dropped_ends c n e = go (ended_from 0 copy log) refl (fate_tells (fate.Dropped c n) e)
    where
      go : (o : Option (ℕ × Outcome)) → ended_from 0 copy log ≡ o → Tells o (fate.Dropped c n) → EndsAt log copy (outcome.Dropped c) n
      go None h t = absurd t
      go (Some x) h t = ended_place copy log n (outcome.Dropped c) (h ∙ ap (λ y. Some y) t)

  dropped_fate : (c : Cause) (n : ℕ) → EndsAt log copy (outcome.Dropped c) n → fate_of log copy ≡ Some (fate.Dropped c n)
  dropped_fate c n h = ended_fate n (outcome.Dropped c) h

  -- ---- delivered

  delivered_ends : (q : Queue) (n : ℕ) → fate_of log copy ≡ Some (fate.Delivered q n) → IsReadFrom log copy q n
  delivered_ends q n e = go (ended_from 0 copy log) refl (fate_tells (fate.Delivered q n) e)
    where
      same_queues : (p : Queue) → IsReadFrom log copy p n → fate_ended log (n, outcome.Delivered) ≡ Some (fate.Delivered q n) → p ≡ q
      same_queues p r h =
          let fates : fate.Delivered p n ≡ fate.Delivered q n = same_Some (fate.Delivered p n) (fate.Delivered q n) (sym (delivered_fate n p r) ∙ h) in
          cc

      go : (o : Option (ℕ × Outcome)) → ended_from 0 copy log ≡ o → Tells o (fate.Delivered q n) → IsReadFrom log copy q n
      go None h t = absurd t
      go (Some x) h t =
          let r = read_at n (ended_place copy log n outcome.Delivered (h ∙ ap (λ y. Some y) t.0)) in
          subst (λ p. IsReadFrom log copy p n) (same_queues r.0 r.1 t.1) r.1

  delivered_is : (q : Queue) (n : ℕ) → IsReadFrom log copy q n → fate_of log copy ≡ Some (fate.Delivered q n)
  delivered_is q n h = ended_fate n outcome.Delivered h.ends ∙ delivered_fate n q h

  -- ---- waiting

  waiting_ends : (q : Queue) → fate_of log copy ≡ Some (fate.Waiting q) → WaitsIn log copy q
  unfolding line
  waiting_ends q e = go (ended_from 0 copy log) (fate_tells (fate.Waiting q) e)
    where
      go : (o : Option (ℕ × Outcome)) → Tells o (fate.Waiting q) → WaitsIn log copy q
      go (Some x) t = absurd t
      go None t =
          let x : Envelope = t.0 in
          let first : Has (filter (carries copy) (live log)) x = subst (λ (l : List Envelope). Has l x) (sym t.2) (inl refl) in
          let has : Has (live log) x = Has-of_kept (carries copy) (live log) x first in
          let bears : carries copy x ≡ true =
          Each-has (λ y. carries copy y ≡ true) (filter (carries copy) (live log)) x (Each-passing (λ y. carries copy y ≡ true) (carries copy) (λ y h. h) (live log)) first
          in
          let here : stands_in q x ≡ true = ap (λ p. stands_in p x) (sym t.3) ∙ same_queue-refl x.queue in
          let found = place_of (filter (stands_in q) (live log)) x (Has-kept (stands_in q) (live log) x here has) in
          record { place = found.0; carrier = x; stands = found.1; has_copy = bears }

  waiting_is : (q : Queue) → WaitsIn log copy q → fate_of log copy ≡ Some (fate.Waiting q)
  unfolding line
  waiting_is q h =
      let in_line : Has (filter (stands_in q) (live log)) h.carrier = Has-get (filter (stands_in q) (live log)) h.place h.carrier h.stands in
      let here : h.carrier.queue ≡ q = Each-has (λ x. x.queue ≡ q) (filter (stands_in q) (live log)) h.carrier (Each-in_queue q (live log)) in_line in
      let has : Has (filter (carries copy) (live log)) h.carrier =
      Has-kept (carries copy) (live log) h.carrier h.has_copy (Has-of_kept (stands_in q) (live log) h.carrier in_line)
      in
      let long : length (filter (carries copy) (live log)) ≡ carriers log copy = length-filter (carries copy) (live log) in
      go (filter (carries copy) (live log)) refl has long here
    where
      go : (xs : List Envelope) → filter (carries copy) (live log) ≡ xs → Has xs h.carrier → length (filter (carries copy) (live log)) ≡ carriers log copy → h.carrier.queue ≡ q
          → fate_of log copy ≡ Some (fate.Waiting q)
      go [] f has long here = absurd has
      go (x ∷ xs) f has long here =
          let more : length (filter (carries copy) (live log)) ≡ length (x ∷ xs) = ap (λ l. length l) f in
          let some : 1 ≤ carriers log copy = omega (arith, long, more) in
          let accept : is_accepted ≡ true = is_accepted_by is_accepted refl (omega (arith, some)) in
          let is : one is_accepted ≡ 1 = ap (λ b. one b) accept in
          let all = balance in
          let none : times_ended log copy ≡ 0 = omega (arith, some, is, all) in
          let single : length (x ∷ xs) ≡ 1 = omega (arith, long, more, is, all, none) in
          let same : x ≡ h.carrier = only_one (x ∷ xs) h.carrier x xs refl single has in
          fate_is true None accept (not_ended none)
          ∙ (ap (λ (l : List Envelope). fate_waiting l) f ∙ ap (λ p. Some (fate.Waiting p)) (ap (λ (y : Envelope). y.queue) same ∙ here))
        where
          not_ended : times_ended log copy ≡ 0 → ended_from 0 copy log ≡ None
          not_ended none = by (ended_from 0 copy log) refl
            where
              by : (o : Option (ℕ × Outcome)) → ended_from 0 copy log ≡ o → o ≡ None
              by None e = refl
              by (Some x) e = absurd (let some = times_at copy log x.0 x.1 (ended_place copy log x.0 x.1 e) in omega (arith, some, none))

-- ---- all fates

module _ (configs : List Config) (script : List Event) (log : List Entry) (lawful : IsLawful configs script log) where
  pub each_known : EachHasFate log
  each_known copy = known configs script log lawful copy

  pub each_waiting : WaitingIsTrue log
  each_waiting copy q = (waiting_ends configs script log lawful copy q, waiting_is configs script log lawful copy q)

  pub each_dropped : DroppedIsTrue log
  each_dropped copy c n = (dropped_ends configs script log lawful copy c n, dropped_fate configs script log lawful copy c n)

  pub each_delivered : DeliveredIsTrue log
  each_delivered copy q n = (delivered_ends configs script log lawful copy q n, delivered_is configs script log lawful copy q n)
