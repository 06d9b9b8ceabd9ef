-- By which ways a link can come to a spawner: an attempt is answered once, and by an entry of its own, and a handshake has the one arrival
-- over its link; and neither comes back once it has ended.
use Rattle.std.proofs.Common.{◌≡◌, ℕ, suc, zero, ◌+◌, ◌≤◌, Bool, true, false, cond, List, [], ◌∷◌, ◌++◌, length, take, Option, Some, None, ◌⊎◌, inl, inr, refl, ap, sym, subst, ◌∙◌, arith, append-nil, length-append, eq-eqb, eqb-true}
use Rattle.std.specs.Prelude.{◌==◌, ◌&&◌, ◌||◌, flat_map, slice_get, unwrap_or}
use Rattle.std.specs.List.{list_any}
use Rattle.std.proofs.lemmas.Bool.{and_parts, false≢true}
use Rattle.std.proofs.lemmas.List.{take-append-le}
use Rattle.std.proofs.lemmas.List.Folds.{list_any-append}
use Rattle.std.proofs.lemmas.Option.{same_Some}
use Rattle.p2p_base.specs.declared.key.Key.{Key}
use Rattle.p2p_address.specs.declared.ip.SocketAddr.{SocketAddr}
use Rattle.p2p_tracker_calls.specs.declared.gates.Reply.TheVariants as gates
use Rattle.p2p_log.specs.declared.config.Config.{Config}
use Rattle.p2p_log.specs.declared.queue.Queue.{Queue}
use Rattle.p2p_log.specs.declared.queue.Queue.TheVariants as queue
use Rattle.p2p_log.specs.declared.item.Item.{Item}
use Rattle.p2p_log.specs.declared.item.Item.TheVariants as item
use Rattle.p2p_log.specs.declared.item.Envelope.{Envelope}
use Rattle.p2p_log.specs.declared.entry.Entry.{Entry}
use Rattle.p2p_log.specs.declared.entry.Reply.{Reply}
use Rattle.p2p_log.specs.declared.entry.Reply.TheVariants as reply
use Rattle.p2p_log.specs.declared.event.Event.{Event}
use Rattle.p2p_log.specs.declared.event.Act.{Act}
use Rattle.p2p_log.specs.declared.event.Act.TheVariants as act
use Rattle.p2p_log.specs.Lines.{name_of, line}
use Rattle.p2p_log.proofs.Each.{Each-has, Has-get}
use Rattle.p2p_log.proofs.Places.{slice_get-seam}
use Rattle.p2p_log.proofs.Sending.{get_longer}
use Rattle.p2p_log_rules.specs.declared.row.Opening.{Opening}
use Rattle.p2p_log_rules.specs.declared.row.Row.{Row}
use Rattle.p2p_log_rules.specs.Attempting.{Attempt, DialRules, dial_rules_at, answers_dial, attempt_since, attempt_by_last, attempts_of, connect_row}
use Rattle.p2p_log_rules.specs.Effect.{effect, row}
use Rattle.p2p_log_rules.specs.Facts.{item_named, key_at, taken, state_from}
use Rattle.p2p_log_rules.specs.Handshakes.{came_over, is_handshaking}
use Rattle.p2p_log_rules.specs.Lawful.{IsLawful}
use Rattle.p2p_log_rules.specs.Links.{openings_of}
use Rattle.p2p_log_rules.specs.Tellings.{Telling, Last, or_last, last_told, last_or}
use Rattle.p2p_log_rules.specs.Tellings as telling
use Rattle.p2p_log_rules.specs.Told.{Begun, begun_as, ends, act_tells, tells, told, link_over}
use Rattle.p2p_log_rules.proofs.TellingKinds as kind
use Rattle.p2p_log_rules.proofs.Families.{telling_kind, has, untold_act}
use Rattle.p2p_log_rules.proofs.Ignoring.{by_entries}
use Rattle.p2p_log_rules.proofs.Tellings.{told-append}
use Rattle.p2p_log_rules.proofs.Told.{quiet_act}
use Rattle.p2p_log_rules.proofs.Handshakes.{handshaking_early}
use Rattle.p2p_log_rules.proofs.Recorded.{item_named-first}
use Rattle.p2p_log_rules.proofs.HandshakeBegun.{came_over-longer, handshake_at-begun}
use Rattle.p2p_log_rules.proofs.Touches.{in_ends}
use Rattle.p2p_log_laws.proofs.Admitting.{Admits, listener_admits, IsBegun, begun_or_before as begun_now}
use Rattle.p2p_log_laws.proofs.EndMade.{in_list, take_whole}
use Rattle.p2p_log_laws.proofs.GoingOn.{GoesOn, goes_on}
use Rattle.p2p_log_laws.proofs.Linking.{IsAnswer, connect_is}
use Rattle.p2p_log_laws.proofs.Prefixes.{at_end}
use Rattle.p2p_log_laws.proofs.Reaching.{writes}
use Rattle.p2p_log_laws.proofs.Shapes.{row_shape}

-- ---- what answers an attempt

-- whether an act answers the dial of this attempt of the node
abbrev pub answers_attempt : ℕ → ℕ → Act → Bool
answers_attempt n k (act.Connect e from m to) = (m == n) && (k == e)
answers_attempt n k (act.Refuse e m) = (m == n) && (k == e)
answers_attempt n k _ = false

either_is : (b c : Bool) → (b || c) ≡ true → (b ≡ true) ⊎ (c ≡ true)
either_is true c is = inl refl
either_is false c is = inr is

pub or_more : (b c : Bool) → c ≡ true → (b || c) ≡ true
or_more true c is = refl
or_more false c is = is

module _ (n k l : ℕ) where
  -- it is told that this event answered its dial
  abbrev answered_by : Telling → Bool
  answered_by (telling.dial_answered m j event) = ((m == n) && (k == j)) && (event == l)
  answered_by _ = false

  answered_kinds : (t : Telling) → has (kind.dial_answered ∷ []) (telling_kind t) ≡ false → answered_by t ≡ false
  answered_kinds (telling.dial_answered m j event) h = cc
  answered_kinds _ h = refl

  -- the last answer that was told, or else the one before
  last_answer : (ts : List Telling) (o : Option ℕ) → last_or o (answers_dial n k) ts ≡ Some l → (o ≡ Some l) ⊎ (list_any answered_by ts ≡ true)
  last_answer [] o is = inl is
  last_answer (t ∷ ts) o is = elim (last_answer ts (unwrap_or (answers_dial n k t) o) is) [
    | inl before ↦ one t before
    | inr later ↦ inr (or_more (answered_by t) (list_any answered_by ts) later)
  ]
    where
      named : (b : Bool) (event : ℕ) → unwrap_or (cond b (Some (Some event)) None) o ≡ Some l → (o ≡ Some l) ⊎ (((b && (event == l)) || list_any answered_by ts) ≡ true)
      named true event is = inr (ap (λ c. c || list_any answered_by ts) (eq-eqb event l (same_Some event l is)))
      named false event is = inl is

      one : (t : Telling) → unwrap_or (answers_dial n k t) o ≡ Some l → (o ≡ Some l) ⊎ (list_any answered_by (t ∷ ts) ≡ true)
      one (telling.dial_answered m j event) is = named ((m == n) && (k == j)) event is
      one _ is = inl is

  -- what was told since the last of some kind was told
  since_told : {X : Type 0} (pick : Telling → Option X) (ts : List Telling) (x : Last X) → last_told pick ts ≡ Some x → list_any answered_by x.since ≡ true → list_any answered_by ts ≡ true
  unfolding last_told
  since_told pick [] x is said = absurd (cc)
  since_told {X = X} pick (t ∷ ts) x is said = by (last_told pick ts) (pick t) refl is (λ so. since_told pick ts x so said)
    where
      by : (o : Option (Last X)) (p : Option X) → last_told pick ts ≡ o → or_last o p ts ≡ Some x → (last_told pick ts ≡ Some x → list_any answered_by ts ≡ true) → list_any answered_by (t ∷ ts) ≡ true
      by (Some y) p there so more = or_more (answered_by t) (list_any answered_by ts) (more (there ∙ so))
      by None (Some y) there so more =
          let z : Last X = record { told = y; since = ts } in
          or_more (answered_by t) (list_any answered_by ts) (ap (λ (w : Last X). list_any answered_by w.since) (same_Some z x so) ∙ said)
      by None None there so more = absurd (cc)

  -- an attempt with this answer was told it
  answer_told : (configs : List Config) (log : List Entry) (a : Attempt) → attempts_of configs log n k ≡ Some a → a.answer ≡ Some l → list_any answered_by (told log) ≡ true
  unfolding attempts_of
  answer_told configs log a is answer = by (last_told (begun_as n k) (told log)) refl is
    where
      rules : DialRules
      rules = dial_rules_at configs n

      by : (o : Option (Last Begun)) → last_told (begun_as n k) (told log) ≡ o → attempt_by_last n k rules o ≡ Some a → list_any answered_by (told log) ≡ true
      by None there so = absurd (cc)
      by (Some x) there so = stands (list_any (ends n k) x.since) so
        where
          stands : (b : Bool) → cond b None (Some (attempt_since n k rules x.told x.since)) ≡ Some a → list_any answered_by (told log) ≡ true
          stands true so = absurd (cc)
          stands false so = elim (last_answer x.since None (ap (λ (y : Attempt). y.answer) (same_Some (attempt_since n k rules x.told x.since) a so) ∙ answer)) [
            | inl none ↦ absurd (cc)
            | inr said ↦ since_told (begun_as n k) (told log) x there said
          ]

  -- only the act of this name tells it, and is an answer to this attempt
  abbrev Answers : ℕ → Act → Type 0
  Answers name a = (name ≡ l) × (answers_attempt n k a ≡ true)

  act_answers : (ts : List Telling) (before : List Entry) (name at seed : ℕ) (r : Reply) (items : List Item) (puts : List (Queue × Item)) (a : Act)
      → list_any answered_by (act_tells ts before name at seed r items puts a) ≡ true → Answers name a
  act_answers ts before name at seed r items puts a = by a
    where
      Tells : Act → Bool
      Tells a = list_any answered_by (act_tells ts before name at seed r items puts a)

      silent : (a : Act) → Tells a ≡ false → Tells a ≡ true → Answers name a
      silent a none some = absurd (false≢true (sym none ∙ some))

      named : (a : Act) (b : Bool) → answers_attempt n k a ≡ b → (((b && (name == l)) ≡ false) → Tells a ≡ false) → Tells a ≡ true → Answers name a
      named a b is other tells = go b (name == l) is refl other
        where
          go : (b c : Bool) → answers_attempt n k a ≡ b → (name == l) ≡ c → (((b && (name == l)) ≡ false) → Tells a ≡ false) → Answers name a
          go true true is at other = (eqb-true name l at, is)
          go true false is at other = silent a (other at) tells
          go false c is at other = silent a (other refl) tells

      by : (a : Act) → Tells a ≡ true → Answers name a
      by (act.Connect e from m to) =
          named (act.Connect e from m to) ((m == n) && (k == e)) refl (λ h. quiet_act answered_by name at ts before seed r items puts (act.Connect e from m to) (h, refl))
      by (act.Refuse e m) = named (act.Refuse e m) ((m == n) && (k == e)) refl (λ h. quiet_act answered_by name at ts before seed r items puts (act.Refuse e m) h)
      by a = silent a (untold_act answered_by (kind.dial_answered ∷ []) answered_kinds ts before name at seed r items puts a refl)

  abbrev IsAnsweredIn : List Entry → Type 0
  IsAnsweredIn log = list_any answered_by (told log) ≡ true → (e : Entry) × (slice_get log l ≡ Some e) × (answers_attempt n k e.event.act ≡ true)

  answered_first : IsAnsweredIn []
  unfolding told state_from
  answered_first tells = absurd (false≢true tells)

  answered_more : (log : List Entry) (e : Entry) → IsAnsweredIn log → IsAnsweredIn (log ++ e ∷ [])
  unfolding tells
  answered_more log e old so =
      let us : List Telling = act_tells (told log) log (length log) e.event.at e.event.seed e.reply (taken log e) e.puts e.event.act in
      by us refl (either_is (list_any answered_by (told log)) (list_any answered_by us) (sym (list_any-append answered_by (told log) us) ∙ (ap (list_any answered_by) (sym (told-append log e)) ∙ so)))
    where
      Was : List Entry → Type 0
      Was log = (e : Entry) × (slice_get log l ≡ Some e) × (answers_attempt n k e.event.act ≡ true)

      by : (us : List Telling) → us ≡ act_tells (told log) log (length log) e.event.at e.event.seed e.reply (taken log e) e.puts e.event.act → (list_any answered_by (told log) ≡ true) ⊎ (list_any answered_by us ≡ true) → Was (log ++ e ∷ [])
      by us is (inl before) = let h = old before in (h.0, get_longer log (e ∷ []) l h.0 h.1, h.2)
      by us is (inr now) =
          let h = act_answers (told log) log (length log) e.event.at e.event.seed e.reply (taken log e) e.puts e.event.act (ap (list_any answered_by) (sym is) ∙ now) in
          (e, subst (λ i. slice_get (log ++ e ∷ []) i ≡ Some e) h.0 (slice_get-seam log e []), h.1)

-- the entry that answered an attempt is one of its own
pub answers_own : (configs : List Config) (log : List Entry) (n k l : ℕ) (a : Attempt) → attempts_of configs log n k ≡ Some a → a.answer ≡ Some l
    → (e : Entry) × (slice_get log l ≡ Some e) × (answers_attempt n k e.event.act ≡ true)
answers_own configs log n k l a stands answer = by_entries (IsAnsweredIn n k l) (answered_first n k l) (answered_more n k l) log (answer_told n k l configs log a stands answer)

-- one act answers one attempt
pub one_answered : (n k j : ℕ) (a : Act) → answers_attempt n k a ≡ true → answers_attempt n j a ≡ true → k ≡ j
one_answered n k j (act.Connect e from m to) first second = eqb-true k e (and_parts (m == n) (k == e) first).1 ∙ sym (eqb-true j e (and_parts (m == n) (j == e) second).1)
one_answered n k j (act.Refuse e m) first second = eqb-true k e (and_parts (m == n) (k == e) first).1 ∙ sym (eqb-true j e (and_parts (m == n) (j == e) second).1)
one_answered n k j _ first second = absurd (false≢true first)

-- ---- an arrival is put by the entry of its link

pub record IsArrivalOf (configs : List Config) (log : List Entry) (n p : ℕ) (i : Item) (a : Act) : Type 0 where
  pub place : p ≡ 1
  pub attempt : ℕ
  pub address : SocketAddr
  pub from : ℕ
  pub acts : a ≡ act.Connect attempt address from n
  pub is : i ≡ item.Arrival address (key_at configs from) (length log)
  pub dialed : Attempt
  pub stood : attempts_of configs log from attempt ≡ Some dialed

module _ (configs : List Config) (log : List Entry) (ev : Event) (n : ℕ) where
  abbrev Given : Act → Type 0
  Given a = (p : ℕ) (i : Item) → slice_get (row configs log ev.at ev.seed a).puts p ≡ Some (queue.Arrivals n, i) → IsArrivalOf configs log n p i a

  aside : (a : Act) → writes configs log a (queue.Arrivals n) ≡ false → Given a
  aside a other p i put =
      absurd (false≢true (sym other ∙ Each-has (λ (x : Queue × Item). writes configs log a x.0 ≡ true) (row configs log ev.at ev.seed a).puts (queue.Arrivals n, i) (row_shape configs log ev.at ev.seed a).reach.puts
      (Has-get (row configs log ev.at ev.seed a).puts p (queue.Arrivals n, i) put)))

  ends_aside : (o : Option Opening) → in_ends o (queue.Arrivals n) ≡ false
  ends_aside None = refl
  ends_aside (Some o) = refl

  module _ (e m to : ℕ) (from : SocketAddr) where
    abbrev r : Row
    r = connect_row configs log e from m to

    no_put : (puts : List (Queue × Item)) → puts ≡ [] → (p : ℕ) (i : Item) → slice_get puts p ≡ Some (queue.Arrivals n, i) → ⊥
    no_put puts none p i put = let at : slice_get {X = Queue × Item} [] p ≡ Some (queue.Arrivals n, i) = subst (λ (l : List (Queue × Item)). slice_get l p ≡ Some (queue.Arrivals n, i)) none put in cc

    one_put : (i : Item) (p : ℕ) → slice_get {X = Queue × Item} ((queue.Attempt m e, item.Refused) ∷ []) p ≡ Some (queue.Arrivals n, i) → ⊥
    one_put i zero put = let queues : queue.Attempt m e ≡ queue.Arrivals n = ap (λ (x : Queue × Item). x.0) (same_Some {A = Queue × Item} (queue.Attempt m e, item.Refused) (queue.Arrivals n, i) put) in cc
    one_put i (suc p) put = no_put [] refl p i put

    two_puts : (d : Attempt) → attempts_of configs log m e ≡ Some d → (i : Item) (p : ℕ)
        → slice_get {X = Queue × Item} ((queue.Attempt m e, item.Linked) ∷ (queue.Arrivals to, item.Arrival from (key_at configs m) (length log)) ∷ []) p ≡ Some (queue.Arrivals n, i)
        → IsArrivalOf configs log n p i (act.Connect e from m to)
    two_puts d stood i zero put =
        absurd (let queues : queue.Attempt m e ≡ queue.Arrivals n = ap (λ (x : Queue × Item). x.0) (same_Some {A = Queue × Item} (queue.Attempt m e, item.Linked) (queue.Arrivals n, i) put) in cc)
    two_puts d stood i (suc zero) put =
        let same : ◌≡◌ {A = Queue × Item} (queue.Arrivals to, item.Arrival from (key_at configs m) (length log)) (queue.Arrivals n, i) =
        same_Some {A = Queue × Item} (queue.Arrivals to, item.Arrival from (key_at configs m) (length log)) (queue.Arrivals n, i) put
        in
        let queues : queue.Arrivals to ≡ queue.Arrivals n = ap (λ (x : Queue × Item). x.0) same in
        let nodes : to ≡ n = cc in
        record {
          place = refl;
          attempt = e;
          address = from;
          from = m;
          acts = ap (act.Connect e from m) nodes;
          is = sym (ap (λ (x : Queue × Item). x.1) same);
          dialed = d;
          stood = stood;
        }
    two_puts d stood i (suc (suc p)) put = absurd (no_put [] refl p i put)

    connect_puts : IsAnswer configs log e m from to r → (p : ℕ) (i : Item) → slice_get r.puts p ≡ Some (queue.Arrivals n, i) → IsArrivalOf configs log n p i (act.Connect e from m to)
    connect_puts (inl none) p i put = absurd (no_put r.puts none.1 p i put)
    connect_puts (inr (inl refused)) p i put = absurd (one_put i p (subst (λ (l : List (Queue × Item)). slice_get l p ≡ Some (queue.Arrivals n, i)) refused.1 put))
    connect_puts (inr (inr linked)) p i put = two_puts linked.0.0 linked.0.1 i p (subst (λ (l : List (Queue × Item)). slice_get l p ≡ Some (queue.Arrivals n, i)) linked.2 put)

  given : (a : Act) → Given a
  unfolding row
  given (act.Connect e from m to) p i put = connect_puts e m to from (connect_is configs log e m from to) p i put
  given (act.Finish link ok) p i put = aside (act.Finish link ok) (ends_aside (openings_of log link)) p i put
  given a p i put = aside a refl p i put

  pub arrival_of : (p : ℕ) (i : Item) → slice_get (effect configs log ev).puts p ≡ Some (queue.Arrivals n, i) → IsArrivalOf configs log n p i ev.act
  unfolding effect
  arrival_of = given ev.act

-- what an entry takes that takes one item
pub taken_one : (log : List Entry) (e : Entry) (x : Envelope) → item_named log (name_of x) ≡ x.item ∷ [] → e.takes ≡ name_of x ∷ [] → taken log e ≡ x.item ∷ []
unfolding taken
taken_one log e x named takes = ap (flat_map (item_named log)) takes ∙ (append-nil (item_named log (name_of x)) ∙ named)

-- ---- the arrival of a handshake

-- the entry of its name took its arrival
pub record IsArrived (log : List Entry) (n h : ℕ) : Type 0 where
  pub entry : Entry
  pub at : slice_get log h ≡ Some entry
  pub from : Envelope
  pub rest : List Envelope
  pub first : line (take h log) (queue.Arrivals n) ≡ from ∷ rest
  pub takes : entry.takes ≡ name_of from ∷ []
  pub address : SocketAddr
  pub key : Key
  pub link : ℕ
  pub came : came_over log h ≡ Some link
  pub is : from.item ≡ item.Arrival address key link

pub arrived_longer : (log more : List Entry) (n h : ℕ) → IsArrived log n h → IsArrived (log ++ more) n h
arrived_longer log more n h a =
    let early : suc h ≤ length log = in_list log h a.entry a.at in
    record {
      entry = a.entry;
      at = get_longer log more h a.entry a.at;
      from = a.from;
      rest = a.rest;
      first = ap (λ l. line l (queue.Arrivals n)) (take-append-le h log more (omega (arith, early))) ∙ a.first;
      takes = a.takes;
      address = a.address;
      key = a.key;
      link = a.link;
      came = came_over-longer log more h a.link a.came;
      is = a.is;
    }

module _ (configs : List Config) where
  abbrev AreArrived : List Entry → Type 0
  AreArrived log = (n h : ℕ) → is_handshaking log n h ≡ true → IsArrived log n h

  arrived_first : AreArrived []
  arrived_first n h runs = absurd (let early = handshaking_early [] n h runs in none h early)
    where
      none : (h : ℕ) → suc h ≤ 0 → ⊥
      none h le = omega (arith, le)

  module _ (log : List Entry) (ev : Event) (n : ℕ) where
    abbrev e : Entry
    e = effect configs log ev

    arrives_now : ev.act ≡ act.Listener n → (effect configs log ev).reply ≡ reply.Gates gates.Admitted → IsArrived (log ++ e ∷ []) n (length log)
    unfolding effect row
    arrives_now acts says =
        let admits : Admits configs log n (row configs log ev.at ev.seed ev.act) = subst (λ a. Admits configs log n (row configs log ev.at ev.seed a)) (sym acts) (listener_admits configs log n ev.at) in
        let a = admits says in
        let one : taken log e ≡ item.Arrival a.from a.key a.link ∷ [] = items a.x a.rest a.first a.takes ∙ ap (λ i. i ∷ []) a.is in
        record {
          entry = e;
          at = slice_get-seam log e [];
          from = a.x;
          rest = a.rest;
          first = ap (λ l. line l (queue.Arrivals n)) (take-append-le (length log) log (e ∷ []) (omega arith) ∙ take_whole log) ∙ a.first;
          takes = a.takes;
          address = a.from;
          key = a.key;
          link = a.link;
          came = ap link_over (handshake_at-begun log e n a.from a.key a.link [] acts says one);
          is = a.is;
        }
      where
        items : (x : Envelope) (rest : List Envelope) → line log (queue.Arrivals n) ≡ x ∷ rest → (row configs log ev.at ev.seed ev.act).takes ≡ name_of x ∷ [] → taken log (effect configs log ev) ≡ x.item ∷ []
        items x rest first takes = taken_one log e x (item_named-first log (queue.Arrivals n) x rest first) takes

    begun_or_before : (h : ℕ) → is_handshaking (log ++ e ∷ []) n h ≡ true → (is_handshaking log n h ≡ true) ⊎ IsBegun n h log e
    begun_or_before h runs = begun_now n h log e runs

  arrived_more : (log : List Entry) (ev : Event) → AreArrived log → AreArrived (log ++ effect configs log ev ∷ [])
  unfolding effect
  arrived_more log ev old n h runs = elim (begun_or_before log ev n h runs) [
    | inl before ↦ arrived_longer log (effect configs log ev ∷ []) n h (old n h before)
    | inr now ↦ subst (IsArrived (log ++ effect configs log ev ∷ []) n) (sym now.0) (arrives_now log ev n now.1 now.2)
  ]

  pub are_arrived : (script : List Event) (log : List Entry) → IsLawful configs script log → AreArrived log
  are_arrived script log lawful = at_end configs AreArrived arrived_first arrived_more script log lawful

  -- ---- neither comes back

  abbrev pub NoAttempt : ℕ → ℕ → List Entry → Type 0
  NoAttempt n k log = (suc k ≤ length log) × (attempts_of configs log n k ≡ None)

  pub no_attempt_on : (n k : ℕ) (log : List Entry) (ev : Event) → NoAttempt n k log → NoAttempt n k (log ++ effect configs log ev ∷ [])
  no_attempt_on n k log ev (early, none) = (grown early (length-append log (effect configs log ev ∷ [])), by (attempts_of configs (log ++ effect configs log ev ∷ []) n k) refl)
    where
      grown : suc k ≤ length log → length (log ++ effect configs log ev ∷ []) ≡ length log + 1 → suc k ≤ length (log ++ effect configs log ev ∷ [])
      grown le is = omega (arith, le, is)

      by : (o : Option Attempt) → attempts_of configs (log ++ effect configs log ev ∷ []) n k ≡ o → o ≡ None
      by None is = refl
      by (Some a) is = absurd (let on : GoesOn (attempts_of configs log n k) a = goes_on configs log ev n k early a is in let stood = on.stood in cc)

  abbrev pub NoHandshake : ℕ → ℕ → List Entry → Type 0
  NoHandshake n h log = (suc h ≤ length log) × (is_handshaking log n h ≡ false)

  pub no_handshake_on : (n h : ℕ) (log : List Entry) (ev : Event) → NoHandshake n h log → NoHandshake n h (log ++ effect configs log ev ∷ [])
  no_handshake_on n h log ev (early, none) = (grown early (length-append log (effect configs log ev ∷ [])), by (is_handshaking (log ++ effect configs log ev ∷ []) n h) refl)
    where
      grown : suc h ≤ length log → length (log ++ effect configs log ev ∷ []) ≡ length log + 1 → suc h ≤ length (log ++ effect configs log ev ∷ [])
      grown le is = omega (arith, le, is)

      past : (k : ℕ) → suc h ≤ k → h ≡ k → ⊥
      past k le is = omega (arith, le, is)

      by : (b : Bool) → is_handshaking (log ++ effect configs log ev ∷ []) n h ≡ b → b ≡ false
      by false is = refl
      by true is = elim (begun_or_before log ev n h is) [
        | inl before ↦ absurd (false≢true (sym none ∙ before))
        | inr now ↦ absurd (past (length log) early now.0)
      ]
