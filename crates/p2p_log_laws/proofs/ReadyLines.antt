-- A connection that has begun, has not ended and does not run yet waits for its router: in the router's mailbox waits the word that it is
-- ready, or, exactly where that does not, the router's answer.
use Rattle.std.proofs.Common.{◌≡◌, ℕ, suc, ◌+◌, ◌≤◌, Bool, true, false, cond, List, [], ◌∷◌, ◌++◌, length, Option, Some, None, refl, ap, sym, subst, ◌∙◌, arith}
use Rattle.std.specs.Prelude.{◌==◌, ◌&&◌, ◌||◌, not, count_by, filter}
use Rattle.std.specs.List.{list_any, AllByRecursion as Each}
use Rattle.std.proofs.lemmas.Bool.{false≢true}
use Rattle.std.proofs.lemmas.Bool.Decides.{nat_tests}
use Rattle.std.proofs.lemmas.List.Sums.{sum_by-cons}
use Rattle.p2p_log.specs.declared.config.Config.{Config}
use Rattle.p2p_log.specs.declared.queue.Queue.{Queue}
use Rattle.p2p_log.specs.declared.queue.Queue.TheVariants as queue
use Rattle.p2p_log.specs.declared.queue.Side.TheVariants as side
use Rattle.p2p_log.specs.declared.item.Item.{Item}
use Rattle.p2p_log.specs.declared.item.Item.TheVariants as item
use Rattle.p2p_log.specs.declared.item.Envelope.{Envelope}
use Rattle.p2p_log.specs.declared.entry.Entry.{Entry}
use Rattle.p2p_log.specs.declared.event.Event.{Event}
use Rattle.p2p_log.specs.QueueCode.{same_queue}
use Rattle.p2p_log.specs.Lines.{stands_in, live, line}
use Rattle.p2p_log.proofs.Each.{Each-filter}
use Rattle.p2p_log_rules.specs.declared.row.Row.{Row}
use Rattle.p2p_log_rules.specs.Connections.{is_answer, runs, ends_connection, is_begun, has_run, is_ended}
use Rattle.p2p_log_rules.specs.Effect.{effect, entry_of, row}
use Rattle.p2p_log_rules.specs.Lawful.{IsLawful}
use Rattle.p2p_log_rules.specs.Moves.{Moves}
use Rattle.p2p_log_rules.specs.Spawning.{Spawned, connections_of}
use Rattle.p2p_log_rules.proofs.Channels.{IsStopOf}
use Rattle.p2p_log_rules.proofs.Connections.{is_begun-none, has_run-append, is_ended-append}
use Rattle.p2p_log_rules.proofs.Lawful.{IsLawful-append}
use Rattle.p2p_log_rules.proofs.Stopping.{live_connection-stopped}
use Rattle.p2p_log_rules.proofs.Tellings.{or_left, or_right}
use Rattle.p2p_log_laws.specs.Grants.{one}
use Rattle.p2p_log_laws.specs.NodeGrants.{put_of}
use Rattle.p2p_log_laws.proofs.EndHeard.{at_router, names_ready, tells_ready, at_ready, puts_answer, heard_once}
use Rattle.p2p_log_laws.proofs.Fitting.{fits, StandsFit}
use Rattle.p2p_log_laws.proofs.Ledger.{Told-end}
use Rattle.p2p_log_laws.proofs.LineShape.{in_line}
use Rattle.p2p_log_laws.proofs.Living.{begun_made}
use Rattle.p2p_log_laws.proofs.Prefixes.{lawful_at_end}
use Rattle.p2p_log_laws.proofs.ReadyWaits.{Hands, each_hands, begun_puts}
use Rattle.p2p_log_laws.proofs.Weighing.{weight, weighed}

-- how many words that a connection is ready wait for its router to take them, and how many of the router's answers to it wait
abbrev pub words_ready : List Entry → ℕ → ℕ → ℕ
words_ready log n conn = count_by (λ x. names_ready conn x.item) (line log (queue.Router n))

abbrev pub answers_waiting : List Entry → ℕ → ℕ → ℕ
answers_waiting log n conn = length (line log (queue.RouterAnswer n conn))

-- a connection has begun, has not ended, and was not answered by its router
pub record AwaitsRouter (log : List Entry) (n conn : ℕ) : Type 0 where
  pub begun : is_begun log n conn ≡ true
  pub lives : is_ended log n conn ≡ false
  pub waits : has_run log n conn ≡ false

-- ---- over all that stands in queues

module _ (configs : List Config) (n conn : ℕ) where
  abbrev pub words : List Entry → ℕ
  words log = weight (tells_ready n conn) (live log)

  abbrev pub answers : List Entry → ℕ
  answers log = weight (puts_answer n conn) (live log)

  -- one that has begun has ended, or runs, or one of both waits
  abbrev IsAwaited : List Entry → Type 0
  IsAwaited log = one (is_begun log n conn) ≤ (words log + answers log) + (one (has_run log n conn) + one (is_ended log n conn))

  awaited_first : IsAwaited []
  awaited_first = subst (λ b. one b ≤ (words [] + answers []) + (one (has_run [] n conn) + one (is_ended [] n conn))) (sym (is_begun-none n conn)) (omega arith)

  counted : (told answered told_after answered_after told_taken told_ended answers_taken answers_ended told_puts answer_puts took before begun : ℕ)
      → told_after + (told_taken + told_ended) ≡ told + told_puts → answered_after + (answers_taken + answers_ended) ≡ answered + answer_puts → told_ended ≡ 0 → answers_ended ≡ 0
      → told_taken ≤ answer_puts → answers_taken ≤ took → took ≡ 0 → begun ≤ before + told_puts → before ≤ (told + answered) + (0 + 0) → begun ≤ (told_after + answered_after) + (0 + 0)
  counted told answered told_after answered_after told_taken told_ended answers_taken answers_ended told_puts answer_puts took before begun a b c d e f g h i = omega (arith, a, b, c, d, e, f, g, h, i)

  -- a stop of the node ends what had begun
  stop_ends : (script : List Event) (before : List Entry) (ev : Event) → IsLawful configs script before → is_begun (before ++ effect configs before ev ∷ []) n conn ≡ true
      → is_ended (before ++ effect configs before ev ∷ []) n conn ≡ false → IsStopOf before (effect configs before ev) n → ⊥
  stop_ends script before ev lawful begun lives stop =
      let e : Entry = effect configs before ev in
      let made = begun_made configs (script ++ ev ∷ []) (before ++ e ∷ []) (IsLawful-append configs script before ev lawful) n conn begun in
      let none : connections_of (before ++ e ∷ []) n conn ≡ None =
      sym (ap (λ b. cond b None (connections_of (before ++ e ∷ []) n conn)) lives) ∙ live_connection-stopped before e n stop conn
      in
      clash (connections_of (before ++ e ∷ []) n conn) made.0 made.1 none
    where
      clash : (o : Option Spawned) (c : Spawned) → o ≡ Some c → o ≡ None → ⊥
      clash None c some none = cc
      clash (Some d) c some none = cc

  awaited_more : (script : List Event) (before : List Entry) (ev : Event) → IsLawful configs script before → IsAwaited before → IsAwaited (before ++ effect configs before ev ∷ [])
  unfolding effect
  awaited_more script before ev lawful old = by (has_run longer n conn) (is_ended longer n conn) (is_begun longer n conn) refl refl refl
    where
      r : Row
      r = row configs before ev.at ev.seed ev.act

      e : Entry
      e = entry_of ev r

      longer : List Entry
      longer = before ++ e ∷ []

      least : (b : Bool) (k l : ℕ) → one b ≤ k + (1 + l)
      least true k l = omega arith
      least false k l = omega arith

      past : (b : Bool) (k l : ℕ) → one b ≤ k + (l + 1)
      past true k l = omega arith
      past false k l = omega arith

      waits_on : has_run longer n conn ≡ false → is_ended longer n conn ≡ false → is_begun longer n conn ≡ true → 1 ≤ (words longer + answers longer) + (0 + 0)
      waits_on waits lives begun =
          let run : has_run before n conn ≡ false = or_left (has_run before n conn) (runs n conn before e) (sym (has_run-append before e n conn) ∙ waits) in
          let took : runs n conn before e ≡ false = or_right (has_run before n conn) (runs n conn before e) (sym (has_run-append before e n conn) ∙ waits) in
          let lived : is_ended before n conn ≡ false = or_left (is_ended before n conn) (ends_connection n conn before e) (sym (is_ended-append before e n conn) ∙ lives) in
          let h : Hands n conn before ev r =
          each_hands n conn before configs ev.at ev.seed lived (ap (λ b. b && not (is_ended before n conn)) run) ev.act (stop_ends script before ev lawful begun lives)
          in
          let m : Moves before r = h.moves in
          let begins : one (is_begun longer n conn) ≤ one (is_begun before n conn) + count_by (tells_ready n conn) r.puts = begun_puts n conn before configs ev in
          counted (words before) (answers before) (words longer) (answers longer) (weight (tells_ready n conn) m.taken) (weight (tells_ready n conn) m.ended)
          (weight (puts_answer n conn) m.taken) (weight (puts_answer n conn) m.ended) (count_by (tells_ready n conn) r.puts) (count_by (puts_answer n conn) r.puts)
          (one (runs n conn before e)) (one (is_begun before n conn)) 1 (weighed before ev r m (tells_ready n conn)) (weighed before ev r m (puts_answer n conn))
          h.spares.ready h.spares.answer h.answers h.answer_runs (ap one took)
          (subst (λ b. one b ≤ one (is_begun before n conn) + count_by (tells_ready n conn) r.puts) begun begins)
          (subst (λ b. one (is_begun before n conn) ≤ (words before + answers before) + (0 + one b)) lived
          (subst (λ b. one (is_begun before n conn) ≤ (words before + answers before) + (one b + one (is_ended before n conn))) run old))

      by : (ran ended begun : Bool) → has_run longer n conn ≡ ran → is_ended longer n conn ≡ ended → is_begun longer n conn ≡ begun
          → one (is_begun longer n conn) ≤ (words longer + answers longer) + (one (has_run longer n conn) + one (is_ended longer n conn))
      by true ended begun is lives begins =
          subst (λ b. one (is_begun longer n conn) ≤ (words longer + answers longer) + (one b + one (is_ended longer n conn))) (sym is) (least (is_begun longer n conn) (words longer + answers longer) (one (is_ended longer n conn)))
      by false true begun is lives begins =
          subst (λ b. one (is_begun longer n conn) ≤ (words longer + answers longer) + (one (has_run longer n conn) + one b)) (sym lives) (past (is_begun longer n conn) (words longer + answers longer) (one (has_run longer n conn)))
      by false false false is lives begins =
          subst (λ b. one b ≤ (words longer + answers longer) + (one (has_run longer n conn) + one (is_ended longer n conn))) (sym begins) (omega arith)
      by false false true is lives begins =
          subst (λ b. one b ≤ (words longer + answers longer) + (one (has_run longer n conn) + one (is_ended longer n conn))) (sym begins)
          (subst (λ b. 1 ≤ (words longer + answers longer) + (one b + one (is_ended longer n conn))) (sym is)
          (subst (λ b. 1 ≤ (words longer + answers longer) + (0 + one b)) (sym lives) (waits_on is lives begins)))

  module _ (script : List Event) (log : List Entry) (lawful : IsLawful configs script log) where
    one_waits : AwaitsRouter log n conn → words log + answers log ≡ 1
    one_waits a =
        exactly (words log + answers log) (one (has_run log n conn)) (one (is_ended log n conn)) (one (is_begun log n conn)) (heard_once configs n conn script log lawful)
        (lawful_at_end configs IsAwaited awaited_first awaited_more script log lawful) (ap one a.waits) (ap one a.lives) (ap one a.begun)
      where
        exactly : (k ran ended begun : ℕ) → k + ran ≤ begun → begun ≤ k + (ran + ended) → ran ≡ 0 → ended ≡ 0 → begun ≡ 1 → k ≡ 1
        exactly k ran ended begun most least is over one_begun = omega (arith, most, least, is, over, one_begun)

-- ---- in the two lines

zero_more : (k : ℕ) → 0 + k ≡ k
zero_more k = omega arith

-- what passes stands in this line, and is such
counted_there : (p f : Envelope → Bool) (q : Queue) → ((x : Envelope) → p x ≡ (same_queue q x.queue && f x)) → (xs : List Envelope) → count_by p xs ≡ count_by f (filter (stands_in q) xs)
counted_there p f q is [] = refl
counted_there p f q is (x ∷ xs) = sum_by-cons (λ y. one (p y)) x xs ∙ (ap (λ b. one b + count_by p xs) (is x) ∙ by (same_queue q x.queue) (counted_there p f q is xs))
  where
    by : (b : Bool) → count_by p xs ≡ count_by f (filter (stands_in q) xs) → one (b && f x) + count_by p xs ≡ count_by f (cond b (x ∷ filter (stands_in q) xs) (filter (stands_in q) xs))
    by true rest = ap (λ k. one (f x) + k) rest ∙ sym (sum_by-cons (λ y. one (f y)) x (filter (stands_in q) xs))
    by false rest = zero_more (count_by p xs) ∙ rest

one_number : (m n : ℕ) → (m == n) ≡ ((n == m) && true)
one_number m n = grind (arith, nat_tests)

two_numbers : (m n c conn : ℕ) → ((m == n) && (c == conn)) ≡ ((n == m) && (conn == c))
two_numbers m n c conn = grind (arith, nat_tests)

at_router-is : (n : ℕ) (q : Queue) → at_router n q ≡ same_queue (queue.Router n) q
at_router-is n (queue.Router m) = one_number m n
at_router-is n (queue.Link l side.Out) = refl
at_router-is n (queue.Link l side.In) = refl
at_router-is n _ = refl

at_ready-is : (n conn : ℕ) (q : Queue) → at_ready n conn q ≡ same_queue (queue.RouterAnswer n conn) q
at_ready-is n conn (queue.RouterAnswer m c) = two_numbers m n c conn
at_ready-is n conn (queue.Link l side.Out) = refl
at_ready-is n conn (queue.Link l side.In) = refl
at_ready-is n conn _ = refl

count_all : {X : Type 0} (f : X → Bool) (xs : List X) → Each (λ x. f x ≡ true) xs → count_by f xs ≡ length xs
count_all f [] h = refl
count_all f (x ∷ xs) h = sum_by-cons (λ y. one (f y)) x xs ∙ (ap (λ b. one b + count_by f xs) h.0 ∙ sums (count_by f xs) (length xs) (length (x ∷ xs)) (count_all f xs h.1) refl)
  where
    sums : (k l all : ℕ) → k ≡ l → all ≡ suc l → 1 + k ≡ all
    sums k l all is whole = omega (arith, is, whole)

any_counted : {X : Type 0} (f : X → Bool) (xs : List X) → one (list_any f xs) ≤ count_by f xs
any_counted f [] = omega arith
any_counted f (x ∷ xs) = subst (λ k. one (f x || list_any f xs) ≤ k) (sym (sum_by-cons (λ y. one (f y)) x xs)) (by (f x) (list_any f xs) (count_by f xs) (any_counted f xs))
  where
    by : (here later : Bool) (k : ℕ) → one later ≤ k → one (here || later) ≤ one here + k
    by true later k le = omega arith
    by false later k le = omega (arith, le)

none_any : {X : Type 0} (f : X → Bool) (xs : List X) → list_any f xs ≡ false → count_by f xs ≡ 0
none_any f [] h = refl
none_any f (x ∷ xs) h =
    sum_by-cons (λ y. one (f y)) x xs ∙ (ap (λ b. one b + count_by f xs) (or_left (f x) (list_any f xs) h) ∙ (zero_more (count_by f xs) ∙ none_any f xs (or_right (f x) (list_any f xs) h)))

module _ (configs : List Config) (script : List Event) (log : List Entry) (lawful : IsLawful configs script log) (n conn : ℕ) where
  pub words_there : weight (tells_ready n conn) (live log) ≡ words_ready log n conn
  unfolding line
  words_there =
      counted_there (λ x. tells_ready n conn (put_of x)) (λ x. names_ready conn x.item) (queue.Router n) (λ x. ap (λ b. b && names_ready conn x.item) (at_router-is n x.queue)) (live log)

  pub answers_there : weight (puts_answer n conn) (live log) ≡ answers_waiting log n conn
  unfolding line
  answers_there =
      let q : Queue = queue.RouterAnswer n conn in
      counted_there (λ x. puts_answer n conn (put_of x)) (λ x. is_answer x.item) q (λ x. ap (λ b. b && is_answer x.item) (at_ready-is n conn x.queue)) (live log)
      ∙ count_all (λ x. is_answer x.item) (filter (stands_in q) (live log)) (each (filter (stands_in q) (live log)) (in_line log q)
      (Each-filter StandsFit (stands_in q) (live log) (Told-end configs script log lawful).standing.fitting))
    where
      kind : (i : Item) → fits (queue.RouterAnswer n conn) i ≡ true → is_answer i ≡ true
      kind item.RouterAnswer fit = refl
      kind _ fit = absurd (false≢true fit)

      each : (xs : List Envelope) → Each (λ x. x.queue ≡ queue.RouterAnswer n conn) xs → Each StandsFit xs → Each (λ x. is_answer x.item ≡ true) xs
      each [] there fit = tt
      each (x ∷ xs) there fit = (kind x.item (subst (λ q. fits q x.item ≡ true) there.0 fit.0), each xs there.1 fit.1)

  -- one of the two waits, and once
  pub waits_once : AwaitsRouter log n conn → words_ready log n conn + answers_waiting log n conn ≡ 1
  waits_once a = sym (ap (λ k. k + answers_waiting log n conn) words_there) ∙ (sym (ap (λ k. weight (tells_ready n conn) (live log) + k) answers_there) ∙ one_waits configs n conn script log lawful a)

  -- the answer waits exactly where no word does that it is ready
  pub answer_waits_where : AwaitsRouter log n conn → answers_waiting log n conn ≡ one (not (list_any (λ x. names_ready conn x.item) (line log (queue.Router n))))
  answer_waits_where a = by (list_any (λ x. names_ready conn x.item) (line log (queue.Router n))) refl
    where
      at_least : one (list_any (λ x. names_ready conn x.item) (line log (queue.Router n))) ≤ words_ready log n conn
      at_least = any_counted (λ x. names_ready conn x.item) (line log (queue.Router n))

      none_left : (words answers : ℕ) → 1 ≤ words → words + answers ≡ 1 → answers ≡ 0
      none_left words answers some sum = omega (arith, some, sum)

      all_left : (words answers : ℕ) → words ≡ 0 → words + answers ≡ 1 → answers ≡ 1
      all_left words answers none sum = omega (arith, none, sum)

      by : (b : Bool) → list_any (λ x. names_ready conn x.item) (line log (queue.Router n)) ≡ b → answers_waiting log n conn ≡ one (not b)
      by true is = none_left (words_ready log n conn) (answers_waiting log n conn) (subst (λ b. one b ≤ words_ready log n conn) is at_least) (waits_once a)
      by false is = all_left (words_ready log n conn) (answers_waiting log n conn) (none_any (λ x. names_ready conn x.item) (line log (queue.Router n)) is) (waits_once a)
