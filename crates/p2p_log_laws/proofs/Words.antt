-- What holds while word that a connection begins waits for its node's tracker, and what an entry does to it.
use Rattle.std.proofs.Common.{◌≡◌, ℕ, zero, suc, ◌+◌, ◌<◌, ◌≤◌, Bool, true, false, cond, List, [], ◌∷◌, ◌++◌, length, take, map, Some, ◌⊎◌, inl, inr, refl, ap, sym, subst, ◌∙◌, arith, eq-eqb}
use Rattle.std.specs.Prelude.{◌==◌, ◌&&◌, ◌||◌, count_by, nat_lt, slice_get}
use Rattle.std.specs.List.{list_any}
use Rattle.std.proofs.lemmas.Bool.{false≢true}
use Rattle.std.proofs.lemmas.Bool.Decides.{nat_tests}
use Rattle.std.proofs.lemmas.List.Sums.{sum_by-cons}
use Rattle.std.proofs.lemmas.Option.{same_Some}
use Rattle.p2p_base.specs.declared.key.Key.{Key}
use Rattle.p2p_tracker_calls.specs.declared.call.Call.{Call}
use Rattle.p2p_tracker_calls.specs.Grants as calls
use Rattle.p2p_tracker_calls.specs.Jitter.{jitter_of}
use Rattle.p2p_tracker_calls.specs.Lives.{is_connected}
use Rattle.p2p_log.specs.declared.config.Config.{Config}
use Rattle.p2p_log.specs.declared.queue.Queue.{Queue}
use Rattle.p2p_log.specs.declared.queue.Queue.TheVariants as queue
use Rattle.p2p_log.specs.declared.item.Item.{Item}
use Rattle.p2p_log.specs.declared.item.Item.TheVariants as item
use Rattle.p2p_log.specs.declared.item.Envelope.{Envelope}
use Rattle.p2p_log.specs.declared.entry.Entry.{Entry}
use Rattle.p2p_log.specs.declared.event.Event.{Event}
use Rattle.p2p_log.specs.QueueCode.{same_queue}
use Rattle.p2p_log.specs.Lines.{name_of, placed, goes, stays, stands_in, live_from, live, line}
use Rattle.p2p_log.proofs.Each.{Has, Has-kept, Each-has}
use Rattle.p2p_log.proofs.Places.{slice_get-seam}
use Rattle.p2p_log.proofs.Queues.{same_queue-refl}
use Rattle.p2p_log.proofs.Taken.{Has-taken}
use Rattle.p2p_log_rules.specs.declared.row.Half.{Half}
use Rattle.p2p_log_rules.specs.declared.row.Row.{Row}
use Rattle.p2p_log_rules.specs.Connections.{tells_some, half_at, ends_connection, is_begun, is_ended, live_connection}
use Rattle.p2p_log_rules.specs.Effect.{effect, entry_of, row}
use Rattle.p2p_log_rules.specs.Facts.{stops_node, taken, state_from}
use Rattle.p2p_log_rules.specs.Lawful.{IsLawful}
use Rattle.p2p_log_rules.specs.Moves.{Moves}
use Rattle.p2p_log_rules.specs.Spawning.{Spawned, connections_of}
use Rattle.p2p_log_rules.specs.Told.{told as all_told}
use Rattle.p2p_log_rules.specs.Tracking.{key_cmp, rules_at, grants_peer, calls_of}
use Rattle.p2p_log_rules.proofs.Calls.{step_calls, calls_of-append}
use Rattle.p2p_log_rules.proofs.Connections.{half_parts, is_live}
use Rattle.p2p_log_rules.proofs.Lawful.{IsLawful-append}
use Rattle.p2p_log_rules.proofs.Moves.{taken_stood}
use Rattle.p2p_log_laws.specs.Grants.{one, Granting, is_held, is_stopped, Hands, IsTurn, turn_by, held_after}
use Rattle.p2p_log_laws.specs.NodeGrants.{put_of, releases_key, is_connection_of, puts_release, granting}
use Rattle.p2p_log_laws.proofs.Granting.{frees_elsewhere, release_is_taken}
use Rattle.p2p_log_laws.proofs.BegunCalls.{tracker_reads}
use Rattle.p2p_log_laws.proofs.BegunOnce.{told_once}
use Rattle.p2p_log_laws.proofs.BegunPuts.{tells_begun}
use Rattle.p2p_log_laws.proofs.ConnectedCalls.{Follows, connects_key, first_connects, by_step}
use Rattle.p2p_log_laws.proofs.ConnectionHolds.{held_by_connections}
use Rattle.p2p_log_laws.proofs.CountBelow.{count_below-one}
use Rattle.p2p_log_laws.proofs.EndOlder.{connection_before, open_parts, of_key}
use Rattle.p2p_log_rules.proofs.Channels.{stop_told}
use Rattle.p2p_log_laws.proofs.Ending.{IsEndIn, ending}
use Rattle.p2p_log_laws.proofs.HeldCalls.{key_from}
use Rattle.p2p_log_laws.proofs.Leaving.{taken_first}
use Rattle.p2p_log_laws.proofs.Ledger.{Told, Told-end}
use Rattle.p2p_log_laws.proofs.NodeGrants.{each_node_turn, held_by_calls}
use Rattle.p2p_log_laws.proofs.Reaching.{reads}
use Rattle.p2p_log_laws.proofs.Shape.{Shape}
use Rattle.p2p_log_laws.proofs.Shapes.{row_shape}
use Rattle.p2p_log_laws.proofs.Telling.{IsConnection, Tells, StandTells}
use Rattle.p2p_log_laws.proofs.Turns.{one_holder, held_next}
use Rattle.p2p_log_laws.proofs.Weighing.{taken_items}
use Rattle.p2p_log_rules.proofs.Steps.{steps_tracker}

-- ---- lists

pub count_has : {X : Type 0} (p : X → Bool) (xs : List X) (x : X) → Has xs x → p x ≡ true → 1 ≤ count_by p xs
count_has p [] x h t = absurd h
count_has p (y ∷ ys) x h t =
    elim h [
      | inl same ↦ more (cond (p y) 1 0) (count_by p ys) (count_by p (y ∷ ys)) (sum_by-cons (λ z. cond (p z) 1 0) y ys) (ap (λ b. cond b 1 0) (ap p same ∙ t))
      | inr later ↦ rest (cond (p y) 1 0) (count_by p ys) (count_by p (y ∷ ys)) (sum_by-cons (λ z. cond (p z) 1 0) y ys) (count_has p ys x later t)
    ]
  where
    more : (a b all : ℕ) → all ≡ a + b → a ≡ 1 → 1 ≤ all
    more a b all sum is = omega (arith, sum, is)

    rest : (a b all : ℕ) → all ≡ a + b → 1 ≤ b → 1 ≤ all
    rest a b all sum some = omega (arith, sum, some)

has_name : (xs : List Envelope) (x : Envelope) → Has xs x → Has (map name_of xs) (name_of x)
has_name [] x h = absurd h
has_name (y ∷ ys) x h = elim h [ inl same ↦ inl (ap name_of same) | inr later ↦ inr (has_name ys x later) ]

any_item : (p : Item → Bool) (xs : List Envelope) → list_any p (map (λ x. x.item) xs) ≡ true → (x : Envelope) × Has xs x × (p x.item ≡ true)
any_item p [] h = absurd (false≢true h)
any_item p (x ∷ xs) h = by (p x.item) refl h (λ later. any_item p xs later)
  where
    by : (b : Bool) → p x.item ≡ b → (b || list_any p (map (λ y. y.item) xs)) ≡ true → (list_any p (map (λ y. y.item) xs) ≡ true → (y : Envelope) × Has xs y × (p y.item ≡ true))
        → (y : Envelope) × Has (x ∷ xs) y × (p y.item ≡ true)
    by true is h rest = (x, inl refl, is)
    by false is h rest = let found = rest h in (found.0, inr found.1, found.2)

-- the puts of an entry, each in its place
pub placed_has : (k p : ℕ) (puts : List (Queue × Item)) (x : Envelope) → Has (placed k p puts) x → (x.entry ≡ k) × ((i : ℕ) × (x.place ≡ p + i) × (slice_get puts i ≡ Some (put_of x)))
placed_has k p [] x h = absurd h
placed_has k p (z ∷ zs) x h = elim h [
  | inl same ↦ (sym (ap (λ (y : Envelope). y.entry) same), (0, first p x.place (sym (ap (λ (y : Envelope). y.place) same)), ap (λ (y : Envelope). Some (put_of y)) same))
  | inr later ↦ let found = placed_has k (p + 1) zs x later in (found.0, (suc found.1.0, next p found.1.0 x.place found.1.1, found.1.2))
]
  where
    first : (a b : ℕ) → b ≡ a → b ≡ a + 0
    first a b is = omega (arith, is)

    next : (a i b : ℕ) → b ≡ (a + 1) + i → b ≡ a + suc i
    next a i b is = omega (arith, is)

pub get_has : {X : Type 0} (xs : List X) (i : ℕ) (x : X) → slice_get xs i ≡ Some x → Has xs x
get_has [] i x h = absurd (cc)
get_has (y ∷ ys) zero x h = inl (same_Some y x h)
get_has (y ∷ ys) (suc i) x h = inr (get_has ys i x h)

pub take_front : {X : Type 0} (xs ys : List X) → take (length xs) (xs ++ ys) ≡ xs
take_front [] ys = refl
take_front (x ∷ xs) ys = ap (λ l. x ∷ l) (take_front xs ys)

not_later : (a b c d : ℕ) → ((nat_lt a c) || ((a == c) && nat_lt b d)) ≡ true → c < a → ⊥
not_later a b c d h less = grind (arith, nat_tests)

-- ---- what holds

module _ (configs : List Config) (n : ℕ) where
  -- how many releases of a key wait
  abbrev pub waits : Key → List Entry → ℕ
  waits key log = (granting configs n key).waiting log

  abbrev pub is_linked : List Entry → Key → Bool
  is_linked log key = is_connected key_cmp (rules_at configs n) (calls_of configs log n) key

  abbrev pub holds : List Entry → Key → Bool
  holds log key = calls.is_held key_cmp (calls_of configs log n) key

  -- word that this connection begins, with this key, waits for the tracker
  pub record IsWord (log : List Entry) (x : Envelope) (conn : ℕ) (key : Key) : Type 0 where
    pub has : Has (live log) x
    pub there : x.queue ≡ queue.Tracker n
    pub is : x.item ≡ item.Connect conn key

  -- a connection with the key has begun, and has not ended
  pub record IsCurrent (log : List Entry) (key : Key) : Type 0 where
    pub conn : ℕ
    pub made : Spawned
    pub lives : live_connection log n conn ≡ Some made
    pub of : made.key ≡ key
    pub begun : is_begun log n conn ≡ true

  pub record Reserved (log : List Entry) : Type 0 where
    -- its connection has not ended, or its release waits
    pub later : (x : Envelope) (conn : ℕ) (key : Key) → IsWord log x conn key → (is_ended log n conn ≡ false) ⊎ (1 ≤ waits key log)
    -- and each release of its key was put after it
    pub behind : (x y : Envelope) (conn : ℕ) (key : Key) → IsWord log x conn key → Has (live log) y → puts_release n key (put_of y) ≡ true → x.entry < y.entry
    -- no connection with the key was accepted
    pub unlinked : (x : Envelope) (conn : ℕ) (key : Key) → IsWord log x conn key → is_linked log key ≡ false
    -- of a key there is one such word
    pub alone : (x y : Envelope) (conn other : ℕ) (key : Key) → IsWord log x conn key → IsWord log y other key → name_of x ≡ name_of y
    -- a key that is held, and of which a connection was accepted, has one, or its release waits
    pub current : (key : Key) → is_linked log key ≡ true → holds log key ≡ true → IsCurrent log key ⊎ (1 ≤ waits key log)

  pub reserved_first : Reserved []
  unfolding live_from calls_of all_told state_from is_connected
  reserved_first = record {
    later = λ x conn key w. absurd w.has;
    behind = λ x y conn key w has is. absurd has;
    unlinked = λ x conn key w. absurd w.has;
    alone = λ x y conn other key v w. absurd v.has;
    current = λ key is held. absurd (false≢true is);
  }

  -- ---- in a lawful log

  module _ (script : List Event) (log : List Entry) (lawful : IsLawful configs script log) where
    -- of a connection that has not ended no release waits
    pub not_both : (conn : ℕ) (c : Spawned) → live_connection log n conn ≡ Some c → 1 ≤ waits c.key log → ⊥
    not_both conn c lives some =
        let g : Granting = granting configs n c.key in
        let holder : 1 ≤ held_by_connections n c.key log =
        count_below-one (λ k. is_connection_of c.key (live_connection log n k)) (length log) conn (connection_before log n conn c (open_parts log n conn c lives).made)
        (of_key configs script log lawful n c conn c.key lives refl)
        in
        two _ _ (held_by_connections n c.key log) (g.waiting log) (is_stopped g log) (is_held g log) (one_holder g log (each_node_turn configs script log lawful n c.key)) holder some
      where
        two : (answers attempts connections waiting : ℕ) (stopped held : Bool) → (answers + (attempts + connections)) + waiting ≡ cond stopped 0 (one held) → 1 ≤ connections → 1 ≤ waiting → ⊥
        two answers attempts connections waiting true held sum a b = omega (arith, sum, a, b)
        two answers attempts connections waiting false true sum a b = omega (arith, sum, a, b)
        two answers attempts connections waiting false false sum a b = omega (arith, sum, a, b)

    -- the connection of which word waits
    pub record IsOf (conn : ℕ) (key : Key) : Type 0 where
      pub made : Spawned
      pub there : connections_of log n conn ≡ Some made
      pub of : made.key ≡ key

    pub of_half : (conn : ℕ) (half : Half) → half_at log n conn ≡ Some half → IsOf conn half.peer
    of_half conn half at = let parts = half_parts log n conn half at in record { made = parts.connection; there = parts.made; of = sym (ap (λ (h : Half). h.peer) parts.is) }

    pub word_of : (x : Envelope) (conn : ℕ) (key : Key) → IsWord log x conn key → IsOf conn key
    word_of x conn key w =
        let tells : StandTells configs log x = Each-has (StandTells configs log) (live log) x (Told-end configs script log lawful).standing.tells w.has in
        let told : IsConnection log n conn key = subst (λ i. Tells configs log i (queue.Tracker n)) w.is (subst (λ q. Tells configs log x.item q) w.there tells) in
        subst (IsOf conn) told.2 (of_half conn told.0 told.1)

    -- it has begun
    pub word_begun : (x : Envelope) (conn : ℕ) (key : Key) → IsWord log x conn key → is_begun log n conn ≡ true
    word_begun x conn key w =
        let here : tells_begun n conn (put_of x) ≡ true =
        ap (λ q. tells_begun n conn (q, x.item)) w.there ∙ (ap (λ i. tells_begun n conn (queue.Tracker n, i)) w.is ∙ (ap (λ b. b && (conn == conn)) (eq-eqb n n refl) ∙ eq-eqb conn conn refl))
        in
        by (count_by (λ y. tells_begun n conn (put_of y)) (live log)) _ (is_begun log n conn) (count_has (λ y. tells_begun n conn (put_of y)) (live log) x w.has here) (told_once configs n conn script log lawful)
      where
        by : (standing called : ℕ) (begun : Bool) → 1 ≤ standing → standing + called ≤ one begun → begun ≡ true
        by standing called true some all = refl
        by standing called false some all = absurd (omega (arith, some, all))

  -- ---- one more entry

  module _ (script : List Event) (before : List Entry) (ev : Event) (lawful : IsLawful configs script before) (old : Reserved before)
      (lasts : tells_some (stops_node n) before (entry_of ev (row configs before ev.at ev.seed ev.act)) ≡ false) where
    abbrev pub r : Row
    r = row configs before ev.at ev.seed ev.act

    abbrev pub e : Entry
    e = entry_of ev r

    abbrev pub log : List Entry
    log = before ++ e ∷ []

    abbrev pub shape : Shape configs before ev.act r
    shape = row_shape configs before ev.at ev.seed ev.act

    abbrev pub m : Moves before r
    m = shape.moves

    pub told : Told configs before
    told = Told-end configs script before lawful

    pub lawful_after : IsLawful configs (script ++ ev ∷ []) log
    unfolding effect
    lawful_after = IsLawful-append configs script before ev lawful

    -- ---- what waits

    hands : (key : Key) → Hands (granting configs n key) before e
    hands key =
        let turn : IsTurn (granting configs n key) (take (length before) log) e =
        (each_node_turn configs (script ++ ev ∷ []) log lawful_after n key).each (length before) e (slice_get-seam before e [])
        in
        elim (subst (λ l. IsTurn (granting configs n key) l e) (take_front before (e ∷ [])) turn).hands [ inl h ↦ h | inr halts ↦ absurd (false≢true (sym lasts ∙ halts.stops)) ]

    pub waits_on : (key : Key) → 1 ≤ waits key before → (granting configs n key).frees before e ≡ false → 1 ≤ waits key log
    waits_on key some none =
        let moved = (hands key).waiting in
        let no_free : one ((granting configs n key).frees before e) ≡ 0 = ap one none in
        omega (arith, some, moved, no_free)

    waits_now : (key : Key) → 1 ≤ count_by (puts_release n key) r.puts → (granting configs n key).frees before e ≡ false → 1 ≤ waits key log
    waits_now key some none =
        let moved = (hands key).waiting in
        let no_free : one ((granting configs n key).frees before e) ≡ 0 = ap one none in
        omega (arith, some, moved, no_free)

    -- a key whose release is taken is not held after it
    pub freed : (key : Key) → (granting configs n key).frees before e ≡ true → holds log key ≡ false
    freed key frees =
        sym (held_by_calls configs (script ++ ev ∷ []) log lawful_after n key) ∙ (held_next (granting configs n key) before e ∙ by ((granting configs n key).grants before e) refl)
      where
        g : Granting
        g = granting configs n key

        by : (b : Bool) → (granting configs n key).grants before e ≡ b → held_after (is_held (granting configs n key) before) (turn_by (granting configs n key) before e) ≡ false
        by true grants = absurd (false≢true (sym ((hands key).apart grants) ∙ frees))
        by false grants =
            ap (λ b. held_after (is_held (granting configs n key) before) (cond b (true ∷ []) (cond ((granting configs n key).frees before e) (false ∷ []) []))) grants
            ∙ ap (λ b. held_after (is_held (granting configs n key) before) (cond b (false ∷ []) [])) frees

    released : (conn : ℕ) (c : Spawned) → live_connection before n conn ≡ Some c → IsEndIn before n conn ev.act r → 1 ≤ waits c.key log
    released conn c lives over =
        let of = of_half script before lawful conn over.half (is_live before n conn over.half over.lived).at in
        let same : of.made ≡ c = same_Some of.made c (sym of.there ∙ (open_parts before n conn c lives).made) in
        let peer : c.key ≡ over.half.peer = ap (λ (k : Spawned). k.key) (sym same) ∙ of.of in
        let put : Has r.puts (queue.Tracker n, item.Release over.half.peer) = get_has r.puts (suc over.place) (queue.Tracker n, item.Release over.half.peer) over.tracker in
        let is : puts_release n c.key (queue.Tracker n, item.Release over.half.peer) ≡ true =
        ap (λ b. b && (over.half.peer.0 == c.key.0)) (same_queue-refl (queue.Tracker n)) ∙ eq-eqb over.half.peer.0 c.key.0 (ap (λ (k : Key). k.0) (sym peer))
        in
        waits_now c.key (count_has (puts_release n c.key) r.puts (queue.Tracker n, item.Release over.half.peer) put is)
        (frees_elsewhere n c.key before e over.aside)

    -- where a connection of the key ends, its release waits
    pub ends_waits : (conn : ℕ) (c : Spawned) → live_connection before n conn ≡ Some c → ends_connection n conn before e ≡ true → 1 ≤ waits c.key log
    unfolding effect
    ends_waits conn c lives ends = elim (ending configs before ev n conn ends) [ inl over ↦ released conn c lives over | inr over ↦ absurd (false≢true (sym lasts ∙ stop_told before e n over.stop)) ]

    -- ---- what is taken

    in_mail : (y : Envelope) → steps_tracker n ev.act ≡ true → Has m.taken y → y.queue ≡ queue.Tracker n
    in_mail y steps has = tracker_reads configs before n ev.act steps y.queue (Each-has (λ x. reads configs before ev.act x.queue ≡ true) m.taken y shape.reach.taken has)

    was_there : (y : Envelope) → Has m.taken y → Has (live before) y
    was_there y has = Has-taken (live before) m.taken y (taken_stood before ev r m) has

    pub name_taken : (y : Envelope) → Has m.taken y → Has e.takes (name_of y)
    name_taken y has = subst (λ l. Has l (name_of y)) (sym m.names) (has_name m.taken y has)

    -- what is taken of the mailbox was put there before what stays
    not_after : (x y : Envelope) → Has (live before) x → x.queue ≡ queue.Tracker n → stays (goes e) x ≡ true → Has m.taken y → y.queue ≡ queue.Tracker n → x.entry < y.entry → ⊥
    unfolding line
    not_after x y has there stay taken_it also less =
        let q : Queue = queue.Tracker n in
        let in_line : (z : Envelope) → Has (live before) z → z.queue ≡ q → Has (line before q) z = λ z h is. Has-kept (stands_in q) (live before) z (ap (same_queue q) is ∙ same_queue-refl q) h in
        not_later y.entry y.place x.entry x.place
        (taken_first before ev r m q y x (in_line y (was_there y taken_it) also) (name_taken y taken_it) (in_line x has there) stay) less

    -- no release is taken of a key of which word waits
    pub none_freed : (x : Envelope) (conn : ℕ) (key : Key) → IsWord before x conn key → stays (goes e) x ≡ true → (granting configs n key).frees before e ≡ false
    none_freed x conn key w stay = by ((granting configs n key).frees before e) refl
      where
        by : (b : Bool) → (granting configs n key).frees before e ≡ b → b ≡ false
        by false is = refl
        by true is =
            let both = release_is_taken n key before e is in
            let found = any_item (releases_key key) m.taken (ap (list_any (releases_key key)) (sym (taken_items before ev r m)) ∙ both.1) in
            let y : Envelope = found.0 in
            let also : y.queue ≡ queue.Tracker n = in_mail y both.0 found.1 in
            let release : puts_release n key (put_of y) ≡ true = ap (λ q. same_queue (queue.Tracker n) q && releases_key key y.item) also ∙ (ap (λ b. b && releases_key key y.item) (same_queue-refl (queue.Tracker n)) ∙ found.2) in
            absurd (not_after x y w.has w.there stay found.1 also (old.behind x y conn key w (was_there y found.1) release))

    -- ---- the calls

    abbrev next : List (Call Key)
    next = step_calls before r.reply (taken before e) ev.at (jitter_of (rules_at configs n).cooldown ev.seed) (list_any grants_peer r.puts) (calls_of configs before n)

    follows : (key : Key) (steps : Bool) → steps_tracker n ev.act ≡ steps
        → Follows (rules_at configs n) key (cond steps (first_connects (rules_at configs n) key (taken before e)) false) (calls_of configs before n) (calls_of configs log n)
    follows key true steps =
        subst (Follows (rules_at configs n) key (first_connects (rules_at configs n) key (taken before e)) (calls_of configs before n))
        (sym (calls_of-append configs before e n ∙ ap (λ b. cond b next (calls_of configs before n)) steps))
        (by_step (rules_at configs n) key before r.reply (taken before e) ev.at (jitter_of (rules_at configs n).cooldown ev.seed) (list_any grants_peer r.puts) (calls_of configs before n))
    follows key false steps =
        let same : calls_of configs log n ≡ calls_of configs before n = calls_of-append configs before e n ∙ ap (λ b. cond b next (calls_of configs before n)) steps in
        record {
          connects = λ h. inr (ap (λ l. is_connected key_cmp (rules_at configs n) l key) (sym same) ∙ h);
          holds = λ h l. ap (λ c. calls.is_held key_cmp c key) (sym same) ∙ l;
        }

    -- word that was taken, by which the key is connected
    pub record Links (key : Key) : Type 0 where
      pub word : Envelope
      pub conn : ℕ
      pub taken : Has m.taken word
      pub steps : steps_tracker n ev.act ≡ true
      pub is : IsWord before word conn key

    pub linked_by : (key : Key) → is_linked log key ≡ true → Links key ⊎ (is_linked before key ≡ true)
    linked_by key h = by (steps_tracker n ev.act) refl
      where
        word : (xs : List Envelope) → first_connects (rules_at configs n) key (map (λ x. x.item) xs) ≡ true → (x : Envelope) × Has xs x × ((conn : ℕ) × (x.item ≡ item.Connect conn key))
        word [] now = absurd (false≢true now)
        word (x ∷ xs) now = of x.item refl now
          where
            of : (i : Item) → x.item ≡ i → connects_key (rules_at configs n) key i ≡ true → (y : Envelope) × Has (x ∷ xs) y × ((conn : ℕ) × (y.item ≡ item.Connect conn key))
            of (item.Connect conn k) is now = (x, inl refl, (conn, is ∙ ap (λ j. item.Connect conn j) (key_from k key now)))
            of _ is now = absurd (cc)

        by : (b : Bool) → steps_tracker n ev.act ≡ b → Links key ⊎ (is_linked before key ≡ true)
        by true steps = elim ((follows key true steps).connects h) [
          | inl now ↦
              let found = word m.taken (ap (first_connects (rules_at configs n) key) (sym (taken_items before ev r m)) ∙ now) in
              inl (record {
                word = found.0;
                conn = found.2.0;
                taken = found.1;
                steps = steps;
                is = record { has = was_there found.0 found.1; there = in_mail found.0 steps found.1; is = found.2.1 };
              })
          | inr was ↦ inr was
        ]
        by false other = elim ((follows key false other).connects h) [ inl never ↦ absurd (false≢true never) | inr was ↦ inr was ]

    pub was_held : (key : Key) → is_linked log key ≡ true → holds log key ≡ true → holds before key ≡ true
    was_held key h l = (follows key (steps_tracker n ev.act) refl).holds h l
