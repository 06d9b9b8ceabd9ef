-- A node has one connection over a link, ever: the link is handed to its spawner once.
use Rattle.std.proofs.Common.{◌≡◌, ℕ, suc, ◌<◌, ◌≤◌, true, false, List, [], ◌∷◌, ◌++◌, length, take, drop, Some, None, ◌⊎◌, inl, inr, refl, ap, sym, subst, ◌∙◌, arith, take-append-drop, eqb-true}
use Rattle.std.specs.Prelude.{◌==◌, slice_get}
use Rattle.std.proofs.lemmas.Bool.{and_parts, cases_lt, false≢true}
use Rattle.std.proofs.lemmas.List.{length-take-le}
use Rattle.std.proofs.lemmas.Option.{same_Some}
use Rattle.p2p_base.specs.declared.key.Key.{Key}
use Rattle.p2p_address.specs.declared.ip.SocketAddr.{SocketAddr}
use Rattle.p2p_log.specs.declared.config.Config.{Config}
use Rattle.p2p_log.specs.declared.queue.Queue.{Queue}
use Rattle.p2p_log.specs.declared.queue.Queue.TheVariants as queue
use Rattle.p2p_log.specs.declared.item.Item.TheVariants as item
use Rattle.p2p_log.specs.declared.item.Envelope.{Envelope}
use Rattle.p2p_log.specs.declared.entry.Entry.{Entry}
use Rattle.p2p_log.specs.declared.event.Act.TheVariants as act
use Rattle.p2p_log.specs.declared.event.Event.{Event}
use Rattle.p2p_log.specs.Lines.{name_of, live, line, stands_in}
use Rattle.p2p_log.proofs.Each.{Has, Each-has, Has-of_kept}
use Rattle.p2p_log.proofs.Sending.{get_longer}
use Rattle.p2p_log_rules.specs.Attempting.{Attempt, attempts_of}
use Rattle.p2p_log_rules.specs.Effect.{effect}
use Rattle.p2p_log_rules.specs.Facts.{key_at}
use Rattle.p2p_log_rules.specs.Handshakes.{came_over, is_handshaking}
use Rattle.p2p_log_rules.specs.Lawful.{IsLawful}
use Rattle.p2p_log_rules.specs.Spawning.{Spawned, connections_of}
use Rattle.p2p_log_rules.proofs.AttemptTellings.{attempts_of-late}
use Rattle.p2p_log_rules.proofs.Handshakes.{handshaking_early}
use Rattle.p2p_log_rules.proofs.Moves.{one_taken}
use Rattle.p2p_log_rules.proofs.HandshakeBegun.{came_over-longer}
use Rattle.p2p_log_laws.specs.Leading.{Links, LeadsTo}
use Rattle.p2p_log_laws.specs.Leaving.{IsTakenFrom}
use Rattle.p2p_log_laws.proofs.ConnectionPeers.{connections_lead}
use Rattle.p2p_log_laws.proofs.EndHanded.{IsDialedOn, IsHeardOn, HandsOn, hands_on}
use Rattle.p2p_log_laws.proofs.EndMade.{in_list, take_short, lawful_before, holds_on, made_of}
use Rattle.p2p_log_laws.proofs.EndOlder.{not_own}
use Rattle.p2p_log_laws.proofs.EndWays.{answers_attempt, answers_own, one_answered, IsArrivalOf, arrival_of, IsArrived, arrived_longer, are_arrived, NoAttempt, no_attempt_on, NoHandshake, no_handshake_on}
use Rattle.p2p_log_laws.proofs.Leaving.{taken_once}
use Rattle.p2p_log_laws.proofs.Prefixes.{take_next, entry_due}
use Rattle.p2p_log_laws.proofs.Puts.{IsPut, each_put}

-- the first of a line was put there by an entry before
pub record WasPutBy (log : List Entry) (i : ℕ) (q : Queue) (x : Envelope) : Type 0 where
  pub early : x.entry < i
  pub entry : Entry
  pub at : slice_get log x.entry ≡ Some entry
  pub put : slice_get entry.puts x.place ≡ Some (q, x.item)

pub first_put : (log : List Entry) (i : ℕ) (q : Queue) (x : Envelope) (rest : List Envelope) → line (take i log) q ≡ x ∷ rest → WasPutBy log i q x
unfolding line
first_put log i q x rest first =
    let before = take i log in
    let has : Has (line before q) x = subst (λ (l : List Envelope). Has l x) (sym first) (inl refl) in
    let put : IsPut before x = Each-has (IsPut before) (live before) x (each_put before) (Has-of_kept (stands_in q) (live before) x has) in
    let early = in_list before x.entry put.entry put.at in
    let short = take_short i log in
    record {
      early = omega (arith, early, short);
      entry = put.entry;
      at = subst (λ (l : List Entry). slice_get l x.entry ≡ Some put.entry) (take-append-drop i log) (get_longer before (drop i log) x.entry put.entry put.at);
      put = put.put ∙ ap (λ p. Some (p, x.item)) (one_taken before q x rest first);
    }

-- an entry takes the first of a line
pub first_taken : (log : List Entry) (i : ℕ) (q : Queue) (x : Envelope) (rest : List Envelope) (e : Entry) → slice_get log i ≡ Some e → line (take i log) q ≡ x ∷ rest → e.takes ≡ name_of x ∷ []
    → IsTakenFrom log q x i
first_taken log i q x rest e at first takes = record {
  entry = e;
  at = at;
  stood = (0, ap (λ (l : List Envelope). slice_get l 0) first);
  takes = (0, ap (λ (l : List (ℕ × ℕ)). slice_get l 0) takes);
}

name_is : (x : Envelope) (n p : ℕ) → x.entry ≡ n → x.place ≡ p → name_of x ≡ (n, p)
name_is x n p h k = ap (λ m. (m, x.place)) h ∙ ap (λ q. (n, q)) k

module _ (configs : List Config) (script : List Event) (log : List Entry) (lawful : IsLawful configs script log) where
  -- ---- what handed the link of a connection on

  record IsHanded (n conn link : ℕ) : Type 0 where
    pub from : ℕ
    pub entry : Entry
    pub at : slice_get log from ≡ Some entry
    pub message : Envelope
    pub name : name_of message ≡ (from, 0)
    pub taken : IsTakenFrom log (queue.Spawner n) message conn
    pub by : IsDialedOn configs (take from log) n link entry ⊎ IsHeardOn (take from log) n link entry

  handed : (n conn : ℕ) (c : Spawned) → connections_of log n conn ≡ Some c → IsHanded n conn c.link
  handed n conn c made =
      let m = made_of configs script log lawful n conn c made in
      let p = first_put log conn (queue.Spawner n) m.from m.rest m.first in
      let due = entry_due configs script log lawful m.from.entry p.entry p.at in
      let before = take m.from.entry log in
      let h : HandsOn configs before n m.from.place m.from.item (effect configs before due.0) =
      hands_on configs before due.0 n m.from.place m.from.item (subst (λ (d : Entry). slice_get d.puts m.from.place ≡ Some (queue.Spawner n, m.from.item)) due.1 p.put)
      in
      let links : h.link ≡ c.link = same_spawn h.key c.key h.link c.link (sym h.is ∙ m.is) in
      record {
        from = m.from.entry;
        entry = p.entry;
        at = p.at;
        message = m.from;
        name = name_is m.from m.from.entry 0 refl h.place;
        taken = first_taken log conn (queue.Spawner n) m.from m.rest m.entry m.at m.first m.takes;
        by =
            subst (λ (d : Entry). IsDialedOn configs before n c.link d ⊎ IsHeardOn before n c.link d) (sym due.1)
            (subst (λ l. IsDialedOn configs before n l (effect configs before due.0) ⊎ IsHeardOn before n l (effect configs before due.0)) links h.by);
      }
    where
      same_spawn : (a b : Key) (k l : ℕ) → item.Spawn a k ≡ item.Spawn b l → k ≡ l
      same_spawn a b k l is = cc

  -- ---- the arrival of a link

  -- what is known of the entry of a link over which a peer arrived
  record IsLinkOf (n link : ℕ) : Type 0 where
    pub entry : Entry
    pub at : slice_get log link ≡ Some entry
    pub attempt : ℕ
    pub address : SocketAddr
    pub node : ℕ
    pub acts : entry.event.act ≡ act.Connect attempt address node n

  same_arrival : (a b : SocketAddr) (c d : Key) (k l : ℕ) → item.Arrival a c k ≡ item.Arrival b d l → k ≡ l
  same_arrival a b c d k l is = cc

  effect_act : (l : List Entry) (ev : Event) → (effect configs l ev).event.act ≡ ev.act
  unfolding effect
  effect_act l ev = refl

  put_arrival : (n s p : ℕ) (e : Entry) (address : SocketAddr) (key : Key) (link : ℕ) → slice_get log s ≡ Some e → slice_get e.puts p ≡ Some (queue.Arrivals n, item.Arrival address key link)
      → (s ≡ link) × (p ≡ 1) × IsLinkOf n link
  put_arrival n s p e address key link at put =
      let due = entry_due configs script log lawful s e at in
      let before = take s log in
      let a : IsArrivalOf configs before n p (item.Arrival address key link) due.0.act =
      arrival_of configs before due.0 n p (item.Arrival address key link) (subst (λ (d : Entry). slice_get d.puts p ≡ Some (queue.Arrivals n, item.Arrival address key link)) due.1 put)
      in
      let early = in_list log s e at in
      let long : length before ≡ s = length-take-le s log (omega (arith, early)) in
      let same : link ≡ length before = same_arrival address a.address key (key_at configs a.from) link (length before) a.is in
      let here : s ≡ link = sym long ∙ sym same in (
        here,
        a.place,
        record {
          entry = e;
          at = subst (λ i. slice_get log i ≡ Some e) here at;
          attempt = a.attempt;
          address = a.address;
          node = a.from;
          acts = ap (λ (d : Entry). d.event.act) due.1 ∙ (effect_act before due.0 ∙ a.acts);
        },
      )

  -- the handshake of a name took the arrival over its link
  record IsHeard (n h link : ℕ) : Type 0 where
    pub arrival : Envelope
    pub taken : IsTakenFrom log (queue.Arrivals n) arrival h
    pub name : name_of arrival ≡ (link, 1)
    pub of : IsLinkOf n link

  heard : (n h s link : ℕ) → is_handshaking (take s log) n h ≡ true → came_over (take s log) h ≡ Some link → IsHeard n h link
  heard n h s link runs came =
      let before = lawful_before configs script log lawful s in
      let early = are_arrived configs before.0 (take s log) before.1 n h runs in
      let a : IsArrived log n h = subst (λ l. IsArrived l n h) (take-append-drop s log) (arrived_longer (take s log) (drop s log) n h early) in
      let over : came_over log h ≡ Some link = ap (λ l. came_over l h) (sym (take-append-drop s log)) ∙ came_over-longer (take s log) (drop s log) h link came in
      let is : a.from.item ≡ item.Arrival a.address a.key link = a.is ∙ ap (item.Arrival a.address a.key) (same_Some a.link link (sym a.came ∙ over)) in
      let p = first_put log h (queue.Arrivals n) a.from a.rest a.first in
      let k = put_arrival n a.from.entry a.from.place p.entry a.address a.key link p.at (p.put ∙ ap (λ i. Some (queue.Arrivals n, i)) is) in
      record {
        arrival = a.from;
        taken = first_taken log h (queue.Arrivals n) a.from a.rest a.entry a.at a.first a.takes;
        name = name_is a.from link 1 k.0 k.1;
        of = k.2;
      }

  -- ---- the attempt that a link answered

  answered : (n k s link : ℕ) (a : Attempt) → attempts_of configs (take s log) n k ≡ Some a → a.answer ≡ Some link
      → (e : Entry) × (slice_get log link ≡ Some e) × (answers_attempt n k e.event.act ≡ true)
  answered n k s link a stood answer =
      let own = answers_own configs (take s log) n k link a stood answer in (
        own.0,
        subst (λ (es : List Entry). slice_get es link ≡ Some own.0) (take-append-drop s log) (get_longer (take s log) (drop s log) link own.0 own.1),
        own.2,
      )

  -- ---- it is handed on once

  -- two entries that hand it on are one
  same_place : (s t : ℕ) → (s < t → ⊥) → (t < s → ⊥) → s ≡ t
  same_place s t f g = elim (cases_lt s t) [
    | inl less ↦ absurd (f less)
    | inr le ↦ elim (cases_lt t s) [ inl more ↦ absurd (g more) | inr other ↦ omega (arith, le, other) ]
  ]

  dialed_early : (n k s : ℕ) (a : Attempt) → attempts_of configs (take s log) n k ≡ Some a → suc k ≤ length (take s log)
  dialed_early n k s a is = elim (cases_lt k (length (take s log))) [
    | inl less ↦ less
    | inr late ↦ absurd (let none : attempts_of configs (take s log) n k ≡ None = attempts_of-late configs (take s log) n k late in cc)
  ]

  grown : (s : ℕ) (e : Entry) → slice_get log s ≡ Some e → length (take s log) ≤ length (take (suc s) log)
  grown s e at =
      let early = in_list log s e at in
      let one = length-take-le s log (omega (arith, early)) in
      let two = length-take-le (suc s) log early in
      omega (arith, one, two)

  -- an attempt that has handed its link on hands nothing on later
  no_later_attempt : (n k s t : ℕ) (e : Entry) (a b : Attempt) → slice_get log s ≡ Some e → attempts_of configs (take s log) n k ≡ Some a → attempts_of configs (take s log ++ e ∷ []) n k ≡ None
      → attempts_of configs (take t log) n k ≡ Some b → s < t → ⊥
  no_later_attempt n k s t e a b at stood gone there less =
      let early = dialed_early n k s a stood in
      let longer = grown s e at in
      let none = holds_on configs script log lawful (NoAttempt configs n k) (no_attempt_on configs n k) (suc s) t less
      (omega (arith, early, longer), subst (λ l. attempts_of configs l n k ≡ None) (sym (take_next log s e at)) gone)
      in
      let never : attempts_of configs (take t log) n k ≡ None = none.1 in
      cc

  no_later_handshake : (n h s t : ℕ) (e : Entry) → slice_get log s ≡ Some e → is_handshaking (take s log) n h ≡ true → is_handshaking (take s log ++ e ∷ []) n h ≡ false
      → is_handshaking (take t log) n h ≡ true → s < t → ⊥
  no_later_handshake n h s t e at runs gone there less =
      let early = handshaking_early (take s log) n h runs in
      let longer = grown s e at in
      let none = holds_on configs script log lawful (NoHandshake configs n h) (no_handshake_on configs n h) (suc s) t less
      (omega (arith, early, longer), subst (λ l. is_handshaking l n h ≡ false) (sym (take_next log s e at)) gone)
      in
      false≢true (sym none.1 ∙ there)

  module _ (n link : ℕ) (s t : ℕ) (e f : Entry) (at : slice_get log s ≡ Some e) (also : slice_get log t ≡ Some f) where
    both_dialed : IsDialedOn configs (take s log) n link e → IsDialedOn configs (take t log) n link f → s ≡ t
    both_dialed d g =
        let first = answered n d.attempt s link d.a d.stood d.answered in
        let second = answered n g.attempt t link g.a g.stood g.answered in
        let entries : first.0 ≡ second.0 = same_Some first.0 second.0 (sym first.1 ∙ second.1) in
        let attempts : d.attempt ≡ g.attempt =
        one_answered n d.attempt g.attempt second.0.event.act (subst (λ (x : Entry). answers_attempt n d.attempt x.event.act ≡ true) entries first.2) second.2
        in
        same_place s t
        (λ less. no_later_attempt n d.attempt s t e d.a g.a at d.stood d.gone (subst (λ k. attempts_of configs (take t log) n k ≡ Some g.a) (sym attempts) g.stood) less)
        (λ less. no_later_attempt n g.attempt t s f g.a d.a also g.stood g.gone (subst (λ k. attempts_of configs (take s log) n k ≡ Some d.a) attempts d.stood) less)

    both_heard : IsHeardOn (take s log) n link e → IsHeardOn (take t log) n link f → s ≡ t
    both_heard d g =
        let first : IsHeard n d.handshake link = heard n d.handshake s link d.runs d.came in
        let second : IsHeard n g.handshake link = heard n g.handshake t link g.runs g.came in
        let same : d.handshake ≡ g.handshake =
        taken_once configs script log lawful (queue.Arrivals n) first.arrival second.arrival d.handshake g.handshake first.taken second.taken (first.name ∙ sym second.name)
        in
        same_place s t
        (λ less. no_later_handshake n d.handshake s t e at d.runs d.gone (subst (λ h. is_handshaking (take t log) n h ≡ true) (sym same) g.runs) less)
        (λ less. no_later_handshake n g.handshake t s f also g.runs g.gone (subst (λ h. is_handshaking (take s log) n h ≡ true) same d.runs) less)

    -- a node that dialed itself is with itself, and so has no connection
    both_ways : (key : Key) → LeadsTo configs log n key link → IsDialedOn configs (take s log) n link e → IsHeardOn (take t log) n link f → key ≡ key_at configs n
    both_ways key leads d g =
        let dial = answered n d.attempt s link d.a d.stood d.answered in
        let of : IsLinkOf n link = (heard n g.handshake t link g.runs g.came).of in
        let entries : of.entry ≡ dial.0 = same_Some of.entry dial.0 (sym of.at ∙ dial.1) in
        let own : of.node ≡ n = dialer n d.attempt of.attempt of.address of.node (subst (λ a. answers_attempt n d.attempt a ≡ true) (sym (ap (λ (x : Entry). x.event.act) entries) ∙ of.acts) dial.2) in
        by of own leads
      where
        dialer : (n k j : ℕ) (from : SocketAddr) (m : ℕ) → answers_attempt n k (act.Connect j from m n) ≡ true → m ≡ n
        dialer n k j from m h = eqb-true m n (and_parts (m == n) (k == j) h).0

        peer : (of : IsLinkOf n link) → of.node ≡ n → (from to : ℕ) → Links log link from to → (from ≡ n) × (to ≡ n)
        peer of own from to l =
            let entries : l.entry ≡ of.entry = same_Some l.entry of.entry (sym l.at ∙ of.at) in
            let acts : act.Connect l.attempt l.address from to ≡ act.Connect of.attempt of.address of.node n = sym l.acts ∙ (ap (λ (x : Entry). x.event.act) entries ∙ of.acts) in
            let froms : from ≡ of.node = cc in
            (froms ∙ own, cc)

        by : (of : IsLinkOf n link) → of.node ≡ n → LeadsTo configs log n key link → key ≡ key_at configs n
        by of own (m, inl dialed, is) = is ∙ ap (key_at configs) (peer of own n m dialed).1
        by of own (m, inr listened, is) = is ∙ ap (key_at configs) (peer of own m n listened).0

  pub one_over : (n c d : ℕ) (a b : Spawned) → connections_of log n c ≡ Some a → connections_of log n d ≡ Some b → a.link ≡ b.link → c ≡ d
  one_over n c d a b first second same = by x.by y.by
    where
      leads : LeadsTo configs log n a.key b.link
      leads = subst (LeadsTo configs log n a.key) same (connections_lead configs script log lawful n c a first)

      x : IsHanded n c b.link
      x = subst (IsHanded n c) same (handed n c a first)

      y : IsHanded n d b.link
      y = handed n d b second

      from_one : x.from ≡ y.from → c ≡ d
      from_one at = taken_once configs script log lawful (queue.Spawner n) x.message y.message c d x.taken y.taken (x.name ∙ (ap (λ i. (i, 0)) at ∙ sym y.name))

      by : IsDialedOn configs (take x.from log) n b.link x.entry ⊎ IsHeardOn (take x.from log) n b.link x.entry
          → IsDialedOn configs (take y.from log) n b.link y.entry ⊎ IsHeardOn (take y.from log) n b.link y.entry → c ≡ d
      by (inl u) (inl v) = from_one (both_dialed n b.link x.from y.from x.entry y.entry x.at y.at u v)
      by (inr u) (inr v) = from_one (both_heard n b.link x.from y.from x.entry y.entry x.at y.at u v)
      by (inl u) (inr v) = absurd (not_own configs script log lawful n c a first (both_ways n b.link x.from y.from x.entry y.entry x.at y.at a.key leads u v))
      by (inr u) (inl v) = absurd (not_own configs script log lawful n c a first (both_ways n b.link y.from x.from y.entry x.entry y.at x.at a.key leads v u))
