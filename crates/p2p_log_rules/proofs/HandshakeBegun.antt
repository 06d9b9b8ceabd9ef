-- What began the handshake of a name, in a log that is longer: it stays, each handshake that has not ended began so, and none has the name of a later entry.
use Rattle.std.proofs.Common.{◌≡◌, ℕ, suc, ◌≤◌, Bool, true, false, cond, List, [], ◌∷◌, ◌++◌, length, refl, ap, sym, ◌∙◌, arith, append_assoc, append-nil, eq-eqb, Option, Some, None}
use Rattle.std.specs.Prelude.{◌==◌, ◌||◌, is_some, unwrap_or}
use Rattle.std.specs.List.{list_any}
use Rattle.std.specs.Option.{option_map}
use Rattle.std.proofs.lemmas.Bool.Decides.{nat_tests}
use Rattle.p2p_base.specs.declared.key.Key.{Key}
use Rattle.p2p_address.specs.declared.ip.IpAddr.{IpAddr}
use Rattle.p2p_address.specs.declared.ip.SocketAddr.{SocketAddr}
use Rattle.p2p_tracker_calls.specs.declared.gates.Reply.TheVariants as gates
use Rattle.p2p_log.specs.declared.item.Item.{Item}
use Rattle.p2p_log.specs.declared.item.Item.TheVariants as item
use Rattle.p2p_log.specs.declared.entry.Entry.{Entry}
use Rattle.p2p_log.specs.declared.entry.Reply.{Reply}
use Rattle.p2p_log.specs.declared.entry.Reply.TheVariants as reply
use Rattle.p2p_log.specs.declared.event.Act.{Act}
use Rattle.p2p_log.specs.declared.event.Act.TheVariants as act
use Rattle.p2p_log_rules.specs.Facts.{taken}
use Rattle.p2p_log_rules.specs.Handshakes.{Handshake, handshake_at, source_at, came_over, begins_handshake, ends_named, handshakes_of, is_handshaking}
use Rattle.p2p_log_rules.specs.Standing.{if_stands, standing}
use Rattle.p2p_log_rules.specs.Tellings.{Telling, or_new, first_or}
use Rattle.p2p_log_rules.specs.Tellings as telling
use Rattle.p2p_log_rules.specs.Told.{handshake_begun_as, handshake_in, admitted_as, begun_tells, arrival_tells, gates_tell, heard_tells, tells, told}
use Rattle.p2p_log_rules.proofs.TellingKinds.{Kind}
use Rattle.p2p_log_rules.proofs.TellingKinds as kind
use Rattle.p2p_log_rules.proofs.Families.{telling_kind, kinds_of, has, are_apart, untold_of}
use Rattle.p2p_log_rules.proofs.Ignoring.{reads_some, first_or-none, first_or-some}
use Rattle.p2p_log_rules.proofs.LinkTells.{tells_act, quiet_told}
use Rattle.p2p_log_rules.proofs.Tellings.{late_told, told-append, first_or-append}

-- the kind of tellings by which they begin
abbrev begun_kinds : List Kind
begun_kinds = kind.handshake_begun ∷ []

begun_reads : (h : ℕ) (t : Telling) → has begun_kinds (telling_kind t) ≡ false → reads_some (handshake_begun_as h) t ≡ false
begun_reads h (telling.handshake_begun m k from key link at) is = cc
begun_reads h _ is = refl

-- an entry of another name begins another
others_begun : (h : ℕ) (ts : List Telling) (log : List Entry) (e : Entry) → (h == length log) ≡ false → list_any (reads_some (handshake_begun_as h)) (tells ts log e) ≡ false
others_begun h ts log e other = by e.event.act refl
  where
    by : (a : Act) → e.event.act ≡ a → list_any (reads_some (handshake_begun_as h)) (tells ts log e) ≡ false
    by (act.Listener m) acts =
        quiet_told ts log e (reads_some (handshake_begun_as h)) (act.Listener m) acts (
          record { took = λ link o. refl; begun = λ from key link. ap (λ b. is_some {T = Handshake} (cond b (Some (record { source = from; key = key; link = link; at = e.event.at })) None)) other; drops = λ link. refl },
          record { update = λ addresses. refl; arrival = λ from g. refl },
        )
    by a acts = untold_of (reads_some (handshake_begun_as h)) begun_kinds (begun_reads h) ts log e (ap (λ b. are_apart (kinds_of b) begun_kinds) acts)

module _ (log : List Entry) (e : Entry) (h : ℕ) where
  handshake_at-append : handshake_at (log ++ e ∷ []) h ≡ first_or (handshake_at log h) (handshake_begun_as h) (tells (told log) log e)
  handshake_at-append = ap (first_or None (handshake_begun_as h)) (told-append log e) ∙ first_or-append None (handshake_begun_as h) (told log) (tells (told log) log e)

  -- one that began stays
  handshake_at-after : (s : Handshake) → handshake_at log h ≡ Some s → handshake_at (log ++ e ∷ []) h ≡ Some s
  handshake_at-after s is =
      handshake_at-append ∙ (ap (λ o. first_or o (handshake_begun_as h) (tells (told log) log e)) is ∙ first_or-some s (handshake_begun_as h) (tells (told log) log e))

  -- an entry leaves alone that of an earlier name
  pub handshake_at-kept : suc h ≤ length log → handshake_at (log ++ e ∷ []) h ≡ handshake_at log h
  handshake_at-kept early = handshake_at-append ∙ first_or-none (handshake_at log h) (handshake_begun_as h) (tells (told log) log e) (others_begun h (told log) log e (earlier h (length log) early))
    where
      earlier : (h m : ℕ) → suc h ≤ m → (h == m) ≡ false
      earlier h m early = grind (arith, nat_tests)

pub handshake_at-longer : (log more : List Entry) (h : ℕ) (s : Handshake) → handshake_at log h ≡ Some s → handshake_at (log ++ more) h ≡ Some s
handshake_at-longer log [] h s is = ap (λ l. handshake_at l h) (append-nil log) ∙ is
handshake_at-longer log (e ∷ more) h s is =
    ap (λ l. handshake_at l h) (sym (append_assoc log (e ∷ []) more)) ∙ handshake_at-longer (log ++ e ∷ []) more h s (handshake_at-after log e h s is)

-- and so does what is read off it
read_longer : {X : Type 0} (f : Handshake → X) (log more : List Entry) (h : ℕ) (x : X) → option_map f (handshake_at log h) ≡ Some x → option_map f (handshake_at (log ++ more) h) ≡ Some x
read_longer f log more h x is = by (handshake_at log h) refl is
  where
    by : (o : Option Handshake) → handshake_at log h ≡ o → option_map f o ≡ Some x → option_map f (handshake_at (log ++ more) h) ≡ Some x
    by None began is = absurd (cc)
    by (Some s) began is = ap (option_map f) (handshake_at-longer log more h s began) ∙ is

pub source_at-longer : (log more : List Entry) (h : ℕ) (source : IpAddr) → source_at log h ≡ Some source → source_at (log ++ more) h ≡ Some source
source_at-longer log more h source is = read_longer (λ (s : Handshake). s.source) log more h source is

pub came_over-longer : (log more : List Entry) (h link : ℕ) → came_over log h ≡ Some link → came_over (log ++ more) h ≡ Some link
came_over-longer log more h link is = read_longer (λ (s : Handshake). s.link) log more h link is

-- none has the name of a later entry
pub handshake_at-late : (log : List Entry) (h : ℕ) → length log ≤ h → handshake_at log h ≡ None
handshake_at-late log h past = late_told handshake_in (λ k. refl) each log h past
  where
    later : (m k : ℕ) → suc m ≤ k → (k == m) ≡ false
    later m k past = grind (arith, nat_tests)

    each : (before : List Entry) (e : Entry) (ts : List Telling) (k : ℕ) → suc (length before) ≤ k → handshake_in ts k ≡ None → handshake_in (ts ++ tells ts before e) k ≡ None
    each before e ts k after none =
        first_or-append None (handshake_begun_as k) ts (tells ts before e)
        ∙ (ap (λ o. first_or o (handshake_begun_as k) (tells ts before e)) none
        ∙ first_or-none None (handshake_begun_as k) (tells ts before e) (others_begun k ts before e (later (length before) k after)))

-- an arrival that is admitted begins the one of its entry
pub handshake_at-begun : (log : List Entry) (e : Entry) (n : ℕ) (from : SocketAddr) (key : Key) (link : ℕ) (rest : List Item) → e.event.act ≡ act.Listener n → e.reply ≡ reply.Gates gates.Admitted
    → taken log e ≡ item.Arrival from key link ∷ rest → handshake_at (log ++ e ∷ []) (length log) ≡ Some (record { source = from.ip; key = key; link = link; at = e.event.at })
handshake_at-begun log e n from key link rest acts told_so took =
    handshake_at-append log e (length log)
    ∙ (ap (λ o. first_or o pick (tells (told log) log e)) (handshake_at-late log (length log) (same (length log)))
    ∙ (ap (first_or None pick) (tells_act (told log) log e (act.Listener n) acts)
    ∙ (ap (λ r. first_or None pick (listened r (taken log e))) told_so
    ∙ (ap (λ items. first_or None pick (listened (reply.Gates gates.Admitted) items)) took ∙ ap (λ b. or_new (cond b (Some began) None) None) (eq-eqb (length log) (length log) refl)))))
  where
    pick : Telling → Option Handshake
    pick = handshake_begun_as (length log)

    began : Handshake
    began = record { source = from.ip; key = key; link = link; at = e.event.at }

    same : (m : ℕ) → m ≤ m
    same m = omega arith

    listened : Reply → List Item → List Telling
    listened r items =
        (arrival_tells n (admitted_as (length log) r) items ++ (begun_tells n e.event.at (admitted_as (length log) r) items ++ gates_tell r items)) ++ heard_tells n e.event.at r items

-- ---- each that has not ended began

module _ (n h : ℕ) where
  stands_begun : (ts : List Telling) (o : Option Handshake) → list_any (λ k. h == k) (standing (begins_handshake n) (ends_named n) ts) ≡ true
      → (s : Handshake) × (first_or o (handshake_begun_as h) ts ≡ Some s)
  unfolding standing
  stands_begun [] o is = absurd (cc)
  stands_begun (telling.handshake_begun m k from key link at ∷ ts) o is = by (λ p so. stands_begun ts p so) (m == n) is
    where
      began : Handshake
      began = record { source = from; key = key; link = link; at = at }

      Any : Bool
      Any = list_any (λ j. h == j) (standing (begins_handshake n) (ends_named n) ts)

      Later : Type 0
      Later = (p : Option Handshake) → Any ≡ true → (s : Handshake) × (first_or p (handshake_begun_as h) ts ≡ Some s)

      Found : Bool → Type 0
      Found c = (s : Handshake) × (first_or (or_new (cond c (Some began) None) o) (handshake_begun_as h) ts ≡ Some s)

      named : Later → (c : Bool) → (c || Any) ≡ true → Found c
      named later true is = (unwrap_or o began, first_or-some (unwrap_or o began) (handshake_begun_as h) ts)
      named later false is = later o is

      stood : Later → (c : Bool) → list_any (λ j. h == j) (cond c [] (k ∷ []) ++ standing (begins_handshake n) (ends_named n) ts) ≡ true → Found (h == k)
      stood later true is = later (or_new (cond (h == k) (Some began) None) o) is
      stood later false is = named later (h == k) is

      by : Later → (b : Bool) → list_any (λ j. h == j) (if_stands (ends_named n) ts (cond b (Some k) None) ++ standing (begins_handshake n) (ends_named n) ts) ≡ true → Found (h == k)
      by later false is = later (or_new (cond (h == k) (Some began) None) o) is
      by later true is = stood later (list_any (ends_named n k) ts) is
  stands_begun (_ ∷ ts) o is = stands_begun ts o is

pub handshaking_begun : (log : List Entry) (n h : ℕ) → is_handshaking log n h ≡ true → (s : Handshake) × (handshake_at log h ≡ Some s)
unfolding handshakes_of
handshaking_begun log n h runs = stands_begun n h (told log) None runs
