-- Who hands a link to a spawner: an attempt that the link answered, or a handshake whose peer came over it, and either ends by that.
use Rattle.std.proofs.Common.{◌≡◌, ℕ, suc, zero, Bool, true, false, cond, List, [], ◌∷◌, ◌++◌, Option, Some, None, ◌⊎◌, inl, inr, refl, ap, sym, subst, ◌∙◌, append-nil, eq-eqb}
use Rattle.std.specs.Prelude.{◌&&◌, ◌||◌, not, flat_map, map, nat_le, slice_get, take}
use Rattle.std.specs.List.{list_any}
use Rattle.std.proofs.lemmas.Bool.{false≢true}
use Rattle.std.proofs.lemmas.Option.{same_Some}
use Rattle.p2p_base.specs.declared.key.Key.{Key}
use Rattle.p2p_log.specs.declared.config.Config.{Config}
use Rattle.p2p_log.specs.declared.queue.Queue.{Queue}
use Rattle.p2p_log.specs.declared.queue.Queue.TheVariants as queue
use Rattle.p2p_log.specs.declared.item.Item.{Item}
use Rattle.p2p_log.specs.declared.item.Item.TheVariants as item
use Rattle.p2p_log.specs.declared.item.Envelope.{Envelope}
use Rattle.p2p_log.specs.declared.entry.Entry.{Entry}
use Rattle.p2p_log.specs.declared.entry.Reply.TheVariants as reply
use Rattle.p2p_log.specs.declared.event.Event.{Event}
use Rattle.p2p_log.specs.declared.event.Act.{Act}
use Rattle.p2p_log.specs.declared.event.Act.TheVariants as act
use Rattle.p2p_log.specs.Lines.{name_of, line}
use Rattle.p2p_log.proofs.Each.{Each-has, Has-get}
use Rattle.p2p_log_rules.specs.declared.row.Opening.{Opening}
use Rattle.p2p_log_rules.specs.declared.row.Row.{Row}
use Rattle.p2p_log_rules.specs.Attempting.{Attempt, dial_rules_at, resolved, attempts_of, given_up_row, resolved_row, handed_on_row, linked_row, attempt_took_row, attempt_turn, attempt_by, attempt_row}
use Rattle.p2p_log_rules.proofs.Attempts.{attempt_told}
use Rattle.p2p_log_rules.proofs.AttemptTellings.{attempts_of-stepped}
use Rattle.p2p_log_rules.specs.Dropping.{LinkEnd, dropping, dialing_end, attempt_step_row, handshake_step_row, listening_end}
use Rattle.p2p_log_rules.specs.Puts.{is_spawn, gave_up, broke_off}
use Rattle.p2p_log_rules.specs.Told.{took_tells, link_over}
use Rattle.p2p_log_rules.specs.Effect.{effect, row, entry_of}
use Rattle.p2p_log_rules.specs.Facts.{item_named, taken}
use Rattle.p2p_log_rules.specs.Handshakes.{Handshake, handshake_at, came_over, handshakes_of, is_handshaking, is_finished, ends_handshake}
use Rattle.p2p_log_rules.specs.Handshaking as shaking
use Rattle.p2p_log_rules.specs.Links.{openings_of}
use Rattle.p2p_log_rules.specs.Rows.{only, is_spawner_full}
use Rattle.p2p_log_rules.proofs.Handshakes.{without_name, handshakes_of-shaken, is_among, among-without}
use Rattle.p2p_log_rules.proofs.Recorded.{item_named-first}
use Rattle.p2p_log_rules.proofs.Touches.{in_ends}
use Rattle.p2p_log_laws.proofs.EndWays.{or_more}
use Rattle.p2p_log_laws.proofs.Reaching.{writes}
use Rattle.p2p_log_laws.proofs.Shapes.{row_shape}

-- ---- what one row hands on

module _ (log : List Entry) (n : ℕ) where
  abbrev items_of : List (ℕ × ℕ) → List Item
  items_of names = flat_map (item_named log) names

  -- a row of the node m that did so, when it took such a word, puts at this place that a connection is to be made over this link
  record IsHanding (W : Item → Type 0) (m link : ℕ) (p : ℕ) (i : Item) (r : Row) : Type 0 where
    pub place : p ≡ 0
    pub node : m ≡ n
    pub key : Key
    pub is : i ≡ item.Spawn key link
    pub ok : r.reply ≡ reply.Ok
    pub word : Item
    pub items : items_of r.takes ≡ word ∷ []
    pub such : W word

  -- it does so in each put for the spawner of the node
  abbrev Hands : (Item → Type 0) → ℕ → ℕ → Row → Type 0
  Hands W m link r = (p : ℕ) (i : Item) → slice_get r.puts p ≡ Some (queue.Spawner n, i) → IsHanding W m link p i r

  through : (W : Item → Type 0) (m link : ℕ) (o : Option LinkEnd) (r : Row) → Hands W m link r → Hands W m link (dropping log o r)
  through W m link None r h p i at = h p i at
  through W m link (Some e) r h p i at =
      let k = h p i at in
      record { place = k.place; node = k.node; key = k.key; is = k.is; ok = k.ok; word = k.word; items = k.items; such = k.such }

  -- none is among these
  no_put : (p : ℕ) (i : Item) → slice_get {X = Queue × Item} [] p ≡ Some (queue.Spawner n, i) → ⊥
  no_put p i at = cc

  other_put : (q : Queue) (j : Item) → (q ≡ queue.Spawner n → ⊥) → (p : ℕ) (i : Item) → slice_get {X = Queue × Item} ((q, j) ∷ []) p ≡ Some (queue.Spawner n, i) → ⊥
  other_put q j other zero i at = other (ap (λ (x : Queue × Item). x.0) (same_Some {A = Queue × Item} (q, j) (queue.Spawner n, i) at))
  other_put q j other (suc p) i at = no_put p i at

  -- ---- an attempt, and a handshake

  module _ (W : Item → Type 0) (m link : ℕ) where
    given_up_hands : (key : Key) (names : List (ℕ × ℕ)) (left : List Envelope) → Hands W m link (given_up_row m key names left)
    given_up_hands key names left p i at = absurd (other_put (queue.Tracker m) (item.Release key) (λ e. cc) p i at)

    ready_hands : (full : Bool) (key : Key) (name : ℕ × ℕ) (left : List Envelope) (word : Item) → item_named log name ≡ word ∷ [] → W word → Hands W m link (handed_on_row m full key link name left)
    ready_hands true key name left word named such p i at = given_up_hands key (name ∷ []) left p i at
    ready_hands false key name left word named such zero i at =
        let same : ◌≡◌ {A = Queue × Item} (queue.Spawner m, item.Spawn key link) (queue.Spawner n, i) =
        same_Some {A = Queue × Item} (queue.Spawner m, item.Spawn key link) (queue.Spawner n, i) at
        in
        let queues : queue.Spawner m ≡ queue.Spawner n = ap (λ (x : Queue × Item). x.0) same in
        record {
          place = refl;
          node = cc;
          key = key;
          is = sym (ap (λ (x : Queue × Item). x.1) same);
          ok = refl;
          word = word;
          items = append-nil (item_named log name) ∙ named;
          such = such;
        }
    ready_hands false key name left word named such (suc p) i at = absurd (no_put p i at)

  abbrev IsFinish : Item → Type 0
  IsFinish i = i ≡ item.Finished true

  abbrev IsListen : Item → Type 0
  IsListen i = (key : Key) × (i ≡ item.Listen (Some key))

  module _ (configs : List Config) (k m at seed : ℕ) where
    module _ (a : Attempt) where
      -- over the link that answered its dial
      abbrev AttemptHands : Row → Type 0
      AttemptHands r = (p : ℕ) (i : Item) → slice_get r.puts p ≡ Some (queue.Spawner n, i) → (link : ℕ) × (a.answer ≡ Some link) × IsHanding IsFinish m link p i r

      gives_up_hands : (names : List (ℕ × ℕ)) (left : List Envelope) → AttemptHands (given_up_row m a.key names left)
      gives_up_hands names left p i put = absurd (other_put (queue.Tracker m) (item.Release a.key) (λ e. cc) p i put)

      resolved_hands : (o : Option Attempt) (name : ℕ × ℕ) (left : List Envelope) → AttemptHands (resolved_row o m a.key name left)
      resolved_hands None name left = gives_up_hands (name ∷ []) left
      resolved_hands (Some b) name left = λ p i put. absurd (no_put p i put)

      linked_hands : (o : Option ℕ) → a.answer ≡ o → (full : Bool) (name : ℕ × ℕ) (left : List Envelope) → item_named log name ≡ item.Finished true ∷ [] → AttemptHands (linked_row m full a.key o name left)
      linked_hands None answered full name left named p i put = gives_up_hands (name ∷ []) left p i put
      linked_hands (Some link) answered full name left named p i put = (link, answered, ready_hands IsFinish m link full a.key name left (item.Finished true) named refl p i put)

      took_hands : (full private : Bool) (name : ℕ × ℕ) (i : Item) (left : List Envelope) → item_named log name ≡ i ∷ [] → AttemptHands (attempt_took_row m full private seed a name i left)
      took_hands full private name (item.Resolved addresses) left named = resolved_hands (resolved a.address private addresses seed a) name left
      took_hands full private name item.Linked left named = λ p i put. absurd (no_put p i put)
      took_hands full private name (item.Finished true) left named = linked_hands a.answer refl full name left named
      took_hands full private name _ left named = gives_up_hands (name ∷ []) left

      turn_hands : (full private : Bool) (xs : List Envelope) → line log (queue.Attempt m k) ≡ xs → AttemptHands (attempt_turn m at seed full private a xs)
      turn_hands full private [] first = by (nat_le a.deadline at)
        where
          by : (b : Bool) → AttemptHands (cond b (given_up_row m a.key [] []) (only reply.Idle))
          by true = gives_up_hands [] []
          by false = λ p i put. absurd (no_put p i put)
      turn_hands full private (x ∷ rest) first = took_hands full private (name_of x) x.item rest (item_named-first log (queue.Attempt m k) x rest first)

    -- whose attempt stood, which this link answered
    record AttemptHanding (p : ℕ) (i : Item) (r : Row) : Type 0 where
      pub attempt : Attempt
      pub stood : attempts_of configs log m k ≡ Some attempt
      pub link : ℕ
      pub answered : attempt.answer ≡ Some link
      pub handing : IsHanding IsFinish m link p i r

    tried_hands : (full private : Bool) (o : Option Attempt) → attempts_of configs log m k ≡ o → (p : ℕ) (i : Item)
        → slice_get (attempt_by o m at seed full private (line log (queue.Attempt m k))).puts p ≡ Some (queue.Spawner n, i)
        → AttemptHanding p i (attempt_by o m at seed full private (line log (queue.Attempt m k)))
    tried_hands full private None stood p i put = absurd (no_put p i put)
    tried_hands full private (Some a) stood p i put =
        let h = turn_hands a full private (line log (queue.Attempt m k)) refl p i put in record { attempt = a; stood = stood; link = h.0; answered = h.1; handing = h.2 }

    attempt_hands : (p : ℕ) (i : Item) → slice_get (attempt_step_row configs log k m at seed).puts p ≡ Some (queue.Spawner n, i) → AttemptHanding p i (attempt_step_row configs log k m at seed)
    attempt_hands p i =
        by (cond (gave_up (attempt_row configs log k m at seed).puts) (dialing_end log m k) None) (attempt_row configs log k m at seed)
        (tried_hands (is_spawner_full configs log m) (dial_rules_at configs m).private (attempts_of configs log m k) refl p i)
      where
        by : (o : Option LinkEnd) (r : Row) → (slice_get r.puts p ≡ Some (queue.Spawner n, i) → AttemptHanding p i r) → slice_get (dropping log o r).puts p ≡ Some (queue.Spawner n, i)
            → AttemptHanding p i (dropping log o r)
        by None r h put = h put
        by (Some e) r h put =
            let k = h put in
            let g = k.handing in
            record {
              attempt = k.attempt;
              stood = k.stood;
              link = k.link;
              answered = k.answered;
              handing = record { place = g.place; node = g.node; key = g.key; is = g.is; ok = g.ok; word = g.word; items = g.items; such = g.such };
            }

    heard_hands : (peer : Handshake) (full : Bool) (name : ℕ × ℕ) (i : Item) (left : List Envelope) → item_named log name ≡ i ∷ [] → Hands IsListen m peer.link (shaking.handshake_took_row m full k peer name i left)
    heard_hands peer full name (item.Acceptable true) left named = λ p i put. absurd (no_put p i put)
    heard_hands peer full name (item.Acceptable false) left named = λ p i put. absurd (no_put p i put)
    heard_hands peer full name (item.Finished true) left named = λ p i put. absurd (other_put (queue.Tracker m) (item.AskListen k peer.key) (λ e. cc) p i put)
    heard_hands peer full name (item.Finished false) left named = λ p i put. absurd (no_put p i put)
    heard_hands peer full name (item.Listen (Some key)) left named = ready_hands IsListen m peer.link full key name left (item.Listen (Some key)) named (key, refl)
    heard_hands peer full name (item.Listen None) left named = λ p i put. absurd (no_put p i put)
    heard_hands peer full name _ left named = λ p i put. absurd (no_put p i put)

    shaken_hands : (peer : Handshake) (full due : Bool) (xs : List Envelope) → line log (queue.Handshake m k) ≡ xs → Hands IsListen m peer.link (shaking.handshake_turn m full due k (Some peer) xs)
    shaken_hands peer full true [] first = λ p i put. absurd (no_put p i put)
    shaken_hands peer full false [] first = λ p i put. absurd (no_put p i put)
    shaken_hands peer full due (x ∷ rest) first = heard_hands peer full (name_of x) x.item rest (item_named-first log (queue.Handshake m k) x rest first)

    -- a handshake that runs, over the link of its peer
    record HandshakeHanding (p : ℕ) (i : Item) (r : Row) : Type 0 where
      pub runs : is_handshaking log m k ≡ true
      pub peer : Handshake
      pub began : handshake_at log k ≡ Some peer
      pub handing : IsHanding IsListen m peer.link p i r

    exchange_hands : (full due runs : Bool) → is_handshaking log m k ≡ runs → (o : Option Handshake) → handshake_at log k ≡ o → (p : ℕ) (i : Item)
        → slice_get (cond runs (shaking.handshake_turn m full due k o (line log (queue.Handshake m k))) (only reply.Gone)).puts p ≡ Some (queue.Spawner n, i)
        → HandshakeHanding p i (cond runs (shaking.handshake_turn m full due k o (line log (queue.Handshake m k))) (only reply.Gone))
    exchange_hands full due true runs None began p i put = absurd (no_put p i put)
    exchange_hands full due true runs (Some peer) began p i put =
        record { runs = runs; peer = peer; began = began; handing = shaken_hands peer full due (line log (queue.Handshake m k)) refl p i put }
    exchange_hands full due false runs o began p i put = absurd (no_put p i put)

    handshake_hands : (p : ℕ) (i : Item) → slice_get (handshake_step_row configs log k m at).puts p ≡ Some (queue.Spawner n, i) → HandshakeHanding p i (handshake_step_row configs log k m at)
    handshake_hands p i =
        let r = shaking.handshake_row configs log k m at in
        by (cond (broke_off r.reply (map (λ x. x.item) (take 1 (line log (queue.Handshake m k)))) r.puts) (listening_end (came_over log k)) None) r
        (exchange_hands (is_spawner_full configs log m) (shaking.is_due (shaking.handshake_deadline configs log k m) at (is_finished log m k)) (is_handshaking log m k) refl (handshake_at log k) refl p i)
      where
        by : (o : Option LinkEnd) (r : Row) → (slice_get r.puts p ≡ Some (queue.Spawner n, i) → HandshakeHanding p i r) → slice_get (dropping log o r).puts p ≡ Some (queue.Spawner n, i)
            → HandshakeHanding p i (dropping log o r)
        by None r h put = h put
        by (Some e) r h put =
            let k = h put in
            let g = k.handing in
            record { runs = k.runs; peer = k.peer; began = k.began; handing = record { place = g.place; node = g.node; key = g.key; is = g.is; ok = g.ok; word = g.word; items = g.items; such = g.such } }

-- ---- so it ends

spawned : (puts : List (Queue × Item)) (q : Queue) (p : ℕ) (key : Key) (link : ℕ) → slice_get puts p ≡ Some (q, item.Spawn key link) → list_any is_spawn puts ≡ true
spawned [] q p key link at = absurd (cc)
spawned (x ∷ xs) q zero key link at = ap (λ y. is_spawn y || list_any is_spawn xs) (same_Some {A = Queue × Item} x (q, item.Spawn key link) at)
spawned (x ∷ xs) q (suc p) key link at = or_more (is_spawn x) (list_any is_spawn xs) (spawned xs q p key link at)

-- an attempt, by what it put
attempt_ends : (configs : List Config) (log : List Entry) (e : Entry) (n k p : ℕ) (q : Queue) (key : Key) (link : ℕ) → e.event.act ≡ act.Attempt k n → slice_get e.puts p ≡ Some (q, item.Spawn key link)
    → attempts_of configs (log ++ e ∷ []) n k ≡ None
attempt_ends configs log e n k p q key link is at =
    attempts_of-stepped configs log e n k is
    ∙ ap (λ b. cond b None (attempt_told (dial_rules_at configs n) n k (took_tells n k e.event.at e.event.seed (taken log e)) (attempts_of configs log n k))) (or_more (gave_up e.puts) (list_any is_spawn e.puts) (spawned e.puts q p key link at))

handshake_ends : (log : List Entry) (e : Entry) (n h : ℕ) (key : Key) → e.event.act ≡ act.Handshake h n → e.reply ≡ reply.Ok → taken log e ≡ item.Listen (Some key) ∷ [] → is_handshaking (log ++ e ∷ []) n h ≡ false
handshake_ends log e n h key acts ok word =
    ap (is_among h)
    (handshakes_of-shaken log e n h acts
    ∙ (ap (λ r. cond (ends_handshake r (taken log e)) (without_name h (handshakes_of log n)) (handshakes_of log n)) ok
    ∙ ap (λ is. cond (ends_handshake reply.Ok is) (without_name h (handshakes_of log n)) (handshakes_of log n)) word))
    ∙ (among-without h h (handshakes_of log n) ∙ ap (λ b. not b && is_handshaking log n h) (eq-eqb h h refl))

-- an attempt of the node that this link answered hands it over, and ends
pub record IsDialedOn (configs : List Config) (log : List Entry) (n link : ℕ) (e : Entry) : Type 0 where
  pub attempt : ℕ
  pub acts : e.event.act ≡ act.Attempt attempt n
  pub a : Attempt
  pub stood : attempts_of configs log n attempt ≡ Some a
  pub answered : a.answer ≡ Some link
  pub gone : attempts_of configs (log ++ e ∷ []) n attempt ≡ None

-- a handshake does whose peer came over it
pub record IsHeardOn (log : List Entry) (n link : ℕ) (e : Entry) : Type 0 where
  pub handshake : ℕ
  pub acts : e.event.act ≡ act.Handshake handshake n
  pub runs : is_handshaking log n handshake ≡ true
  pub came : came_over log handshake ≡ Some link
  pub gone : is_handshaking (log ++ e ∷ []) n handshake ≡ false

-- the entry puts this for the spawner of the node: that a connection is to be made over a link
pub record HandsOn (configs : List Config) (log : List Entry) (n p : ℕ) (i : Item) (e : Entry) : Type 0 where
  pub place : p ≡ 0
  pub key : Key
  pub link : ℕ
  pub is : i ≡ item.Spawn key link
  pub by : IsDialedOn configs log n link e ⊎ IsHeardOn log n link e

module _ (configs : List Config) (log : List Entry) (ev : Event) (n : ℕ) where
  abbrev e : Entry
  e = effect configs log ev

  abbrev Given : Act → Type 0
  Given a = (p : ℕ) (i : Item) → slice_get (row configs log ev.at ev.seed a).puts p ≡ Some (queue.Spawner n, i) → HandsOn configs log n p i e

  tried : (k m : ℕ) → ev.act ≡ act.Attempt k m → (p : ℕ) (i : Item) → slice_get e.puts p ≡ Some (queue.Spawner n, i) → AttemptHanding log n configs k m ev.at ev.seed p i (row configs log ev.at ev.seed ev.act) → HandsOn configs log n p i e
  unfolding effect
  tried k m acts p i put h =
      let g = h.handing in
      let here : ev.act ≡ act.Attempt k n = acts ∙ ap (act.Attempt k) g.node in
      record {
        place = g.place;
        key = g.key;
        link = h.link;
        is = g.is;
        by = inl (record {
          attempt = k;
          acts = here;
          a = h.attempt;
          stood = subst (λ j. attempts_of configs log j k ≡ Some h.attempt) g.node h.stood;
          answered = h.answered;
          gone = attempt_ends configs log e n k p (queue.Spawner n) g.key h.link here (put ∙ ap (λ j. Some (queue.Spawner n, j)) g.is);
        });
      }

  heard : (k m : ℕ) → ev.act ≡ act.Handshake k m → (p : ℕ) (i : Item) → HandshakeHanding log n configs k m ev.at ev.seed p i (row configs log ev.at ev.seed ev.act) → HandsOn configs log n p i e
  unfolding effect taken
  heard k m acts p i h =
      let g = h.handing in
      let r : Row = row configs log ev.at ev.seed ev.act in
      let here : ev.act ≡ act.Handshake k n = acts ∙ ap (act.Handshake k) g.node in
      record {
        place = g.place;
        key = g.key;
        link = h.peer.link;
        is = g.is;
        by = inr (record {
          handshake = k;
          acts = here;
          runs = subst (λ j. is_handshaking log j k ≡ true) g.node h.runs;
          came = ap link_over (subst (λ j. handshake_at log k ≡ Some h.peer) g.node h.began);
          gone =
              handshake_ends log (entry_of ev r) n k g.such.0 here g.ok (g.items ∙ ap (λ w. w ∷ []) g.such.1);
        });
      }

  -- what an act does not reach
  aside : (a : Act) → writes configs log a (queue.Spawner n) ≡ false → Given a
  aside a other p i put =
      absurd (false≢true (sym other ∙ Each-has (λ (x : Queue × Item). writes configs log a x.0 ≡ true) (row configs log ev.at ev.seed a).puts (queue.Spawner n, i) (row_shape configs log ev.at ev.seed a).reach.puts
      (Has-get (row configs log ev.at ev.seed a).puts p (queue.Spawner n, i) put)))

  ends_aside : (o : Option Opening) → in_ends o (queue.Spawner n) ≡ false
  ends_aside None = refl
  ends_aside (Some o) = refl

  given : (a : Act) → ev.act ≡ a → Given a
  unfolding row effect
  given (act.Attempt k m) acts p i put = tried k m acts p i (subst (λ a. slice_get (row configs log ev.at ev.seed a).puts p ≡ Some (queue.Spawner n, i)) (sym acts) put) (subst (λ a. AttemptHanding log n configs k m ev.at ev.seed p i (row configs log ev.at ev.seed a)) (sym acts) (attempt_hands log n configs k m ev.at ev.seed p i put))
  given (act.Handshake k m) acts p i put = heard k m acts p i (subst (λ a. HandshakeHanding log n configs k m ev.at ev.seed p i (row configs log ev.at ev.seed a)) (sym acts) (handshake_hands log n configs k m ev.at ev.seed p i put))
  given (act.Finish link ok) acts p i put = aside (act.Finish link ok) (ends_aside (openings_of log link)) p i put
  given a acts p i put = aside a refl p i put

  pub hands_on : (p : ℕ) (i : Item) → slice_get (effect configs log ev).puts p ≡ Some (queue.Spawner n, i) → HandsOn configs log n p i (effect configs log ev)
  unfolding effect
  hands_on = given ev.act refl
