-- The handshakes of a node after one more entry, and that each name stands once among them, which is that of an earlier entry.
use Rattle.std.proofs.Common.{◌≡◌, ℕ, zero, suc, ◌+◌, ◌≤◌, Bool, true, false, cond, List, [], ◌∷◌, ◌++◌, length, refl, ap, sym, subst, ◌∙◌, arith, eq-eqb, eqb-true, append-nil, length-append, Option, Some, None, ◌⊎◌, inl, inr}
use Rattle.std.specs.Prelude.{◌==◌, ◌&&◌, ◌||◌, not, filter, count_by, nat_lt, is_some}
use Rattle.std.specs.List.{list_any}
use Rattle.std.proofs.lemmas.Bool.Decides.{nat_tests}
use Rattle.std.proofs.lemmas.List.Filters.{length-filter_both}
use Rattle.std.proofs.lemmas.List.Sums.{sum_by-append, sum_by-cons, length-filter}
use Rattle.std.proofs.lemmas.Map.Views.{any-filter_same}
use Rattle.p2p_base.specs.declared.key.Key.{Key}
use Rattle.p2p_address.specs.declared.ip.SocketAddr.{SocketAddr}
use Rattle.p2p_tracker_calls.specs.declared.gates.Reply.TheVariants as gates
use Rattle.p2p_log.specs.declared.item.Item.{Item}
use Rattle.p2p_log.specs.declared.item.Item.TheVariants as item
use Rattle.p2p_log.specs.declared.entry.Entry.{Entry}
use Rattle.p2p_log.specs.declared.entry.Reply.{Reply}
use Rattle.p2p_log.specs.declared.entry.Reply.TheVariants as reply
use Rattle.p2p_log.specs.declared.event.Act.{Act}
use Rattle.p2p_log.specs.declared.event.Act.TheVariants as act
use Rattle.p2p_log_rules.specs.Facts.{taken, state_from}
use Rattle.p2p_log_rules.specs.Handshakes.{ends_handshake, came_over, begins_handshake, ends_named, handshakes_of, is_handshaking}
use Rattle.p2p_log_rules.specs.Puts.{broke_off}
use Rattle.p2p_log_rules.specs.Standing.{standing}
use Rattle.p2p_log_rules.specs.Tellings.{Telling}
use Rattle.p2p_log_rules.specs.Tellings as telling
use Rattle.p2p_log_rules.specs.Told.{when, admitted_as, begun_tells, listening_dropped, arrival_tells, handshake_tells, gates_tell, heard_tells, stop_tells, tells, told}
use Rattle.p2p_log.proofs.Each.{Each-from_has}
use Rattle.p2p_log_rules.proofs.Channels.{IsStopOf, tells_stop, by_stop}
use Rattle.p2p_log_rules.proofs.TellingKinds.{Kind}
use Rattle.p2p_log_rules.proofs.TellingKinds as kind
use Rattle.p2p_log_rules.proofs.Families.{telling_kind, kinds_of, has, are_apart, untold_of}
use Rattle.p2p_log_rules.proofs.Ignoring.{by_entries}
use Rattle.p2p_log_rules.proofs.LinkTells.{tells_act, quiet_told}
use Rattle.p2p_log_rules.proofs.Standing.{started, stood_after, stood_told, standing-more, stood_append, same_filter, same_stood, others_stood, all_stopped}
use Rattle.p2p_log_rules.proofs.Stopped.{stop_handshake}
use Rattle.p2p_log_rules.proofs.Tellings.{told-append, when_quiet}
use Rattle.p2p_log_rules.proofs.Told.{NoneStopped, arrival_quiet, gates_quiet, turned_quiet, heard_quiet, stop_quiet}

-- these without the one of a name
abbrev pub without_name : ℕ → List ℕ → List ℕ
without_name name names = filter (λ k. not (k == name)) names

-- the handshake of this name that begins with what was taken, where that is an arrival
abbrev pub begun_with : Option ℕ → List Item → Option ℕ
begun_with (Some h) (item.Arrival from key link ∷ items) = Some h
begun_with _ _ = None

-- ---- one entry more

-- the kinds of tellings by which a handshake begins and ends
abbrev pub handshake_kinds : List Kind
handshake_kinds = kind.handshake_begun ∷ kind.handshake_ended ∷ []

-- a telling of the beginning or the end of a handshake of a node
abbrev pub of_handshakes : ℕ → Telling → Bool
of_handshakes n (telling.handshake_begun m h from key link at) = m == n
of_handshakes n (telling.handshake_ended m h link) = m == n
of_handshakes n _ = false

handshake_reads : (n : ℕ) (t : Telling) → has handshake_kinds (telling_kind t) ≡ false → of_handshakes n t ≡ false
handshake_reads n (telling.handshake_begun m h from key link at) is = cc
handshake_reads n (telling.handshake_ended m h link) is = cc
handshake_reads n _ is = refl

module _ (n : ℕ) where
  abbrev after_all : List Telling → List ℕ → List ℕ
  after_all ts names = stood_told (begins_handshake n) (ends_named n) ts names

  other_after : (t : Telling) (names : List ℕ) → of_handshakes n t ≡ false → stood_after (begins_handshake n) (ends_named n) t names ≡ names
  other_after (telling.handshake_begun m h from key link at) names is = ap (λ b. filter (λ k. true) names ++ started (cond b (Some h) None)) is ∙ same_stood names
  other_after (telling.handshake_ended m h link) names is = ap (λ b. filter (λ k. not (b && (k == h))) names ++ []) is ∙ same_stood names
  other_after _ names is = same_stood names

  others_after : (ts : List Telling) (names : List ℕ) → list_any (of_handshakes n) ts ≡ false → after_all ts names ≡ names
  others_after ts names h = others_stood (begins_handshake n) (ends_named n) (of_handshakes n) other_after ts names h

  -- what others tell after these
  before_others : (ts us : List Telling) (names : List ℕ) → list_any (of_handshakes n) us ≡ false → after_all (ts ++ us) names ≡ after_all ts names
  before_others ts us names h = stood_append (begins_handshake n) (ends_named n) ts us names ∙ others_after us (after_all ts names) h

  -- and before
  after_others : (ts us : List Telling) (names : List ℕ) → list_any (of_handshakes n) ts ≡ false → after_all (ts ++ us) names ≡ after_all us names
  after_others ts us names h = stood_append (begins_handshake n) (ends_named n) ts us names ∙ ap (after_all us) (others_after ts names h)

  begun_after : (at : ℕ) (o : Option ℕ) (items : List Item) (names : List ℕ) → after_all (begun_tells n at o items) names ≡ names ++ started (begun_with o items)
  begun_after at (Some h) (item.Arrival from key link ∷ items) names =
      ap (λ b. filter (λ k. true) names ++ started (cond b (Some h) None)) (eq-eqb n n refl) ∙ ap (λ l. l ++ h ∷ []) (same_filter names)
  begun_after at (Some h) _ names = sym (append-nil names)
  begun_after at None items names = sym (append-nil names)

  listened_after : (name at : ℕ) (r : Reply) (items : List Item) (names : List ℕ)
      → after_all ((arrival_tells n (admitted_as name r) items ++ (begun_tells n at (admitted_as name r) items ++ gates_tell r items)) ++ heard_tells n at r items) names
      ≡ names ++ started (begun_with (admitted_as name r) items)
  listened_after name at r items names =
      before_others (arrival_tells n (admitted_as name r) items ++ (begun_tells n at (admitted_as name r) items ++ gates_tell r items)) (heard_tells n at r items) names
      (heard_quiet (of_handshakes n) name at n r items (record { update = λ addresses. refl; arrival = λ from g. refl }))
      ∙ (after_others (arrival_tells n (admitted_as name r) items) (begun_tells n at (admitted_as name r) items ++ gates_tell r items) names
      (arrival_quiet (of_handshakes n) name 0 n (admitted_as name r) items (λ link o. refl))
      ∙ (before_others (begun_tells n at (admitted_as name r) items) (gates_tell r items) names (gates_quiet (of_handshakes n) name 0 r items (λ link. refl)) ∙ begun_after at (admitted_as name r) items names))

  shaken_after : (h : ℕ) (link : Option ℕ) (over broke : Bool) (items : List Item) (names : List ℕ)
      → after_all (handshake_tells n h link over items ++ when broke (listening_dropped link)) names ≡ cond over (without_name h names) names
  shaken_after h link over broke items names =
      before_others (handshake_tells n h link over items) (when broke (listening_dropped link)) names
      (when_quiet (of_handshakes n) broke (listening_dropped link) (turned_quiet (of_handshakes n) 0 0 link (λ l. refl)))
      ∙ by over
    where
      by : (over : Bool) → after_all (handshake_tells n h link over items) names ≡ cond over (without_name h names) names
      by true =
          ap (λ l. stood_after (begins_handshake n) (ends_named n) (telling.handshake_ended n h link) l) (same_stood names)
          ∙ (ap (λ b. filter (λ k. not (b && (k == h))) names ++ []) (eq-eqb n n refl) ∙ append-nil (without_name h names))
      by false = same_stood names

module _ (log : List Entry) (e : Entry) (n : ℕ) where
  abbrev hs : List ℕ
  hs = handshakes_of log n

  pub handshakes_of-append : handshakes_of (log ++ e ∷ []) n ≡ stood_told (begins_handshake n) (ends_named n) (tells (told log) log e) (handshakes_of log n)
  unfolding handshakes_of
  handshakes_of-append = ap (standing (begins_handshake n) (ends_named n)) (told-append log e) ∙ standing-more (begins_handshake n) (ends_named n) (told log) (tells (told log) log e)

  -- an entry that tells of none leaves them alone
  pub handshakes_of-kept : list_any (of_handshakes n) (tells (told log) log e) ≡ false → handshakes_of (log ++ e ∷ []) n ≡ handshakes_of log n
  handshakes_of-kept none = handshakes_of-append ∙ others_after n (tells (told log) log e) hs none

  -- as where its act tells of others
  pub handshakes_of-apart : are_apart (kinds_of e.event.act) handshake_kinds ≡ true → handshakes_of (log ++ e ∷ []) n ≡ handshakes_of log n
  handshakes_of-apart apart = handshakes_of-kept (untold_of (of_handshakes n) handshake_kinds (handshake_reads n) (told log) log e apart)

  -- or is of the listener, or a handshake, of another node
  pub handshakes_of-elsewhere : (m : ℕ) → (m == n) ≡ false → e.event.act ≡ act.Listener m → handshakes_of (log ++ e ∷ []) n ≡ handshakes_of log n
  handshakes_of-elsewhere m other acts =
      handshakes_of-kept (quiet_told (told log) log e (of_handshakes n) (act.Listener m) acts (record { took = λ link o. refl; begun = λ from key link. other; drops = λ link. refl }, record { update = λ addresses. refl; arrival = λ from g. refl }))

  pub handshakes_of-another : (h m : ℕ) → (m == n) ≡ false → e.event.act ≡ act.Handshake h m → handshakes_of (log ++ e ∷ []) n ≡ handshakes_of log n
  handshakes_of-another h m other acts =
      handshakes_of-kept (quiet_told (told log) log e (of_handshakes n) (act.Handshake h m) acts (record { took = λ items. refl; over = λ link. other; drops = λ link. refl }))

  -- a step of the listener begins the one that it admits
  pub handshakes_of-listened : e.event.act ≡ act.Listener n → handshakes_of (log ++ e ∷ []) n ≡ handshakes_of log n ++ started (begun_with (admitted_as (length log) e.reply) (taken log e))
  handshakes_of-listened acts = handshakes_of-append ∙ (ap (λ us. after_all n us hs) (tells_act (told log) log e (act.Listener n) acts) ∙ listened_after n (length log) e.event.at e.reply (taken log e) hs)

  -- a step of a handshake may end it
  pub handshakes_of-shaken : (h : ℕ) → e.event.act ≡ act.Handshake h n → handshakes_of (log ++ e ∷ []) n ≡ cond (ends_handshake e.reply (taken log e)) (without_name h (handshakes_of log n)) (handshakes_of log n)
  handshakes_of-shaken h acts =
      handshakes_of-append
      ∙ (ap (λ us. after_all n us hs) (tells_act (told log) log e (act.Handshake h n) acts)
      ∙ shaken_after n h (came_over log h) (ends_handshake e.reply (taken log e)) (broke_off e.reply (taken log e) e.puts) (taken log e) hs)

  -- so the entry begins one of its name
  pub record Begins : Type 0 where
    pub acts : e.event.act ≡ act.Listener n
    pub replied : e.reply ≡ reply.Gates gates.Admitted
    pub from : SocketAddr
    pub key : Key
    pub link : ℕ
    pub rest : List Item
    pub took : taken log e ≡ item.Arrival from key link ∷ rest
    pub now : handshakes_of (log ++ e ∷ []) n ≡ handshakes_of log n ++ length log ∷ []

  -- or ends one
  pub record Ends : Type 0 where
    pub name : ℕ
    pub acts : e.event.act ≡ act.Handshake name n
    pub over : ends_handshake e.reply (taken log e) ≡ true
    pub now : handshakes_of (log ++ e ∷ []) n ≡ without_name name (handshakes_of log n)

  -- or all
  pub record Stops : Type 0 where
    pub stop : IsStopOf log e n
    pub now : handshakes_of (log ++ e ∷ []) n ≡ []

  pub handshakes_of-stopped : IsStopOf log e n → handshakes_of (log ++ e ∷ []) n ≡ []
  unfolding handshakes_of
  handshakes_of-stopped stop =
      handshakes_of-append
      ∙ (ap (λ us. stood_told (begins_handshake n) (ends_named n) us (handshakes_of log n)) (tells_stop log e n stop)
      ∙ all_stopped (begins_handshake n) (ends_named n) (stop_tells (told log) log n) (handshakes_of log n) (stop_quiet (λ t. is_some (begins_handshake n t)) 0 0 (told log) log n begins_none)
      (Each-from_has (λ h. list_any (ends_named n h) (stop_tells (told log) log n) ≡ true) (handshakes_of log n) (λ h has. stop_handshake (told log) log n (ends_named n h) h has (λ link. here n h))))
    where
      begins_none : NoneStopped (λ t. is_some (begins_handshake n t)) n
      begins_none = record { stops = refl; attempt = λ k. refl; handshake = λ h link. refl; connection = λ c. refl; drops = λ link s. refl }

      here : (n h : ℕ) → ((n == n) && (h == h)) ≡ true
      here n h = grind (arith, nat_tests)

  -- or leaves them alone
  pub handshakes_now : (handshakes_of (log ++ e ∷ []) n ≡ handshakes_of log n) ⊎ (Begins ⊎ (Ends ⊎ Stops))
  handshakes_now = by e.event.act refl
    where
      Now : Type 0
      Now = (handshakes_of (log ++ e ∷ []) n ≡ handshakes_of log n) ⊎ (Begins ⊎ (Ends ⊎ Stops))

      begins : e.event.act ≡ act.Listener n → (r : Reply) → e.reply ≡ r → (items : List Item) → taken log e ≡ items
          → handshakes_of (log ++ e ∷ []) n ≡ handshakes_of log n ++ started (begun_with (admitted_as (length log) r) items) → Now
      begins acts (reply.Gates gates.Admitted) is (item.Arrival from key link ∷ rest) took now =
          inr (inl (record { acts = acts; replied = is; from = from; key = key; link = link; rest = rest; took = took; now = now }))
      begins acts (reply.Gates gates.Admitted) is _ took now = inl (now ∙ append-nil hs)
      begins acts (reply.Gates _) is items took now = inl (now ∙ append-nil hs)
      begins acts _ is items took now = inl (now ∙ append-nil hs)

      shakes : (h : ℕ) → e.event.act ≡ act.Handshake h n → (b : Bool) → ends_handshake e.reply (taken log e) ≡ b → handshakes_of (log ++ e ∷ []) n ≡ cond b (without_name h hs) hs → Now
      shakes h acts true over now = inr (inr (inl (record { name = h; acts = acts; over = over; now = now })))
      shakes h acts false over now = inl now

      listener : (m : ℕ) → e.event.act ≡ act.Listener m → (b : Bool) → (m == n) ≡ b → Now
      listener m acts true at = let here : e.event.act ≡ act.Listener n = acts ∙ ap act.Listener (eqb-true m n at) in begins here e.reply refl (taken log e) refl (handshakes_of-listened here)
      listener m acts false other = inl (handshakes_of-elsewhere m other acts)

      shaken : (h m : ℕ) → e.event.act ≡ act.Handshake h m → (b : Bool) → (m == n) ≡ b → Now
      shaken h m acts true at =
          let here : e.event.act ≡ act.Handshake h n = acts ∙ ap (act.Handshake h) (eqb-true m n at) in shakes h here (ends_handshake e.reply (taken log e)) refl (handshakes_of-shaken h here)
      shaken h m acts false other = inl (handshakes_of-another h m other acts)

      by : (a : Act) → e.event.act ≡ a → Now
      by (act.Listener m) acts = listener m acts (m == n) refl
      by (act.Handshake h m) acts = shaken h m acts (m == n) refl
      by (act.Stop by_start m) acts =
          by_stop log e n by_start m acts
          (λ other. inl (handshakes_of-kept (quiet_told (told log) log e (of_handshakes n) (act.Stop by_start m) acts
          (record { stops = refl; attempt = λ k. refl; handshake = λ h link. other; connection = λ c. refl; drops = λ link s. refl }))))
          (λ stop. inr (inr (inr (record { stop = stop; now = handshakes_of-stopped stop }))))
          (λ none. inl (handshakes_of-kept (ap (list_any (of_handshakes n)) none)))
      by a acts = inl (handshakes_of-apart (ap (λ b. are_apart (kinds_of b) handshake_kinds) acts))

pub handshakes_of-none : (n : ℕ) → handshakes_of [] n ≡ []
unfolding handshakes_of standing told state_from
handshakes_of-none n = refl

-- ---- how often a name stands among these

abbrev is_named : ℕ → ℕ → Bool
is_named name k = k == name

abbrev pub times : ℕ → List ℕ → ℕ
times name names = count_by (is_named name) names

-- whether a name stands among these
abbrev pub is_among : ℕ → List ℕ → Bool
is_among name names = list_any (λ k. name == k) names

times-cons : (name k : ℕ) (names : List ℕ) → times name (k ∷ names) ≡ cond (k == name) 1 0 + times name names
times-cons name k names = sum_by-cons (λ j. cond (is_named name j) 1 0) k names

times-last : (name k : ℕ) (names : List ℕ) → times name (names ++ k ∷ []) ≡ times name names + cond (k == name) 1 0
times-last name k names = sum_by-append (λ j. cond (is_named name j) 1 0) names (k ∷ []) ∙ ap (λ c. times name names + c) (times-cons name k [] ∙ plus_zero (cond (k == name) 1 0))
  where
    plus_zero : (c : ℕ) → c + 0 ≡ c
    plus_zero c = omega arith

same_either : (a b : ℕ) → (a == b) ≡ (b == a)
same_either a b = grind (arith, nat_tests)

-- where a name does not stand, it stands there no time
none_more : (b c : Bool) (among : Bool) (count : ℕ) → b ≡ c → cond c 1 0 + count ≡ 0 → (count ≡ 0 → among ≡ false) → (b || among) ≡ false
none_more true true among count is none then = absurd (positive count none)
  where
    positive : (c : ℕ) → 1 + c ≡ 0 → ⊥
    positive c h = omega (arith, h)
none_more true false among count is none then = cc
none_more false true among count is none then = cc
none_more false false among count is none then = then (nothing count none)
  where
    nothing : (c : ℕ) → 0 + c ≡ 0 → c ≡ 0
    nothing c h = omega (arith, h)

times-among : (name : ℕ) (names : List ℕ) → times name names ≡ 0 → is_among name names ≡ false
times-among name [] none = refl
times-among name (k ∷ names) none =
    none_more (name == k) (k == name) (is_among name names) (times name names) (same_either name k) (sym (times-cons name k names) ∙ none) (λ rest. times-among name names rest)

-- without one, another stands there as before
pub among-without : (name k : ℕ) (names : List ℕ) → is_among k (without_name name names) ≡ (not (k == name) && is_among k names)
among-without name k names = any-filter_same (λ j. k == j) (λ j. not (j == name)) (not (k == name)) (λ j is. same name k j is) names
  where
    same : (name k j : ℕ) → (k == j) ≡ true → not (j == name) ≡ not (k == name)
    same name k j is = let t : (j == name) ≡ (k == name) = grind (arith, nat_tests) in ap not t

times-without : (name k : ℕ) (names : List ℕ) → times k (without_name name names) ≤ times k names
times-without name k [] = omega arith
times-without name k (j ∷ names) = by (j == name) (times-without name k names)
  where
    more : (a b c d : ℕ) → a ≤ b → d ≡ c + b → a ≤ d
    more a b c d le is = omega (arith, le, is)

    both : (a b c d e : ℕ) → a ≤ b → d ≡ c + b → e ≡ c + a → e ≤ d
    both a b c d e le is here = omega (arith, le, is, here)

    by : (b : Bool) → times k (without_name name names) ≤ times k names → times k (cond (not b) (j ∷ without_name name names) (without_name name names)) ≤ times k (j ∷ names)
    by true rest = more (times k (without_name name names)) (times k names) (cond (j == k) 1 0) (times k (j ∷ names)) rest (times-cons k j names)
    by false rest =
        both (times k (without_name name names)) (times k names) (cond (j == k) 1 0) (times k (j ∷ names)) (times k (j ∷ without_name name names)) rest (times-cons k j names)
        (times-cons k j (without_name name names))

-- ---- each handshake has a name of its own, that of an earlier entry

-- each name stands once, and it is that of one of the first entries
pub record AreOnce (m : ℕ) (names : List ℕ) : Type 0 where
  pub once : (k : ℕ) → times k names ≤ 1
  pub early : (k : ℕ) → m ≤ k → times k names ≡ 0

once_later : (m : ℕ) (names : List ℕ) → AreOnce m names → AreOnce (m + 1) names
once_later m names h = record { once = h.once; early = λ k past. h.early k (omega (arith, past)) }

once_admitted : (m : ℕ) (names : List ℕ) → AreOnce m names → AreOnce (m + 1) (names ++ m ∷ [])
once_admitted m names h = record { once = λ k. at_most k (m == k) refl; early = λ k past. none k past }
  where
    here : (m k : ℕ) → (m == k) ≡ true → m ≤ k
    here m k is = grind (arith, nat_tests)

    other : (m k : ℕ) → m + 1 ≤ k → (m == k) ≡ false
    other m k past = grind (arith, nat_tests)

    none_more : (a b : ℕ) → a ≡ b + 0 → b ≤ 1 → a ≤ 1
    none_more a b is le = omega (arith, is, le)

    one_more : (a b : ℕ) → a ≡ b + 1 → b ≡ 0 → a ≤ 1
    one_more a b is none = omega (arith, is, none)

    at_most : (k : ℕ) (b : Bool) → (m == k) ≡ b → times k (names ++ m ∷ []) ≤ 1
    at_most k true is = one_more (times k (names ++ m ∷ [])) (times k names) (times-last k m names ∙ ap (λ b. times k names + cond b 1 0) is) (h.early k (here m k is))
    at_most k false is = none_more (times k (names ++ m ∷ [])) (times k names) (times-last k m names ∙ ap (λ b. times k names + cond b 1 0) is) (h.once k)

    nothing : (a b : ℕ) → a ≡ b + 0 → b ≡ 0 → a ≡ 0
    nothing a b is none = omega (arith, is, none)

    none : (k : ℕ) → m + 1 ≤ k → times k (names ++ m ∷ []) ≡ 0
    none k past =
        nothing (times k (names ++ m ∷ [])) (times k names) (times-last k m names ∙ ap (λ b. times k names + cond b 1 0) (other m k past)) (h.early k (omega (arith, past)))

once_without : (m name : ℕ) (names : List ℕ) → AreOnce m names → AreOnce m (without_name name names)
once_without m name names h = record {
  once = λ k. less (times k (without_name name names)) (times k names) (times-without name k names) (h.once k);
  early = λ k past. none (times k (without_name name names)) (times k names) (times-without name k names) (h.early k past);
}
  where
    less : (a b : ℕ) → a ≤ b → b ≤ 1 → a ≤ 1
    less a b le one = omega (arith, le, one)

    none : (a b : ℕ) → a ≤ b → b ≡ 0 → a ≡ 0
    none a b le nothing = omega (arith, le, nothing)

pub handshakes_once : (log : List Entry) (n : ℕ) → AreOnce (length log) (handshakes_of log n)
handshakes_once log n = by_entries (λ l. AreOnce (length l) (handshakes_of l n)) first more log
  where
    first : AreOnce 0 (handshakes_of [] n)
    first = subst (AreOnce 0) (sym (handshakes_of-none n)) (record { once = λ k. omega arith; early = λ k past. refl })

    more : (l : List Entry) (e : Entry) → AreOnce (length l) (handshakes_of l n) → AreOnce (length (l ++ e ∷ [])) (handshakes_of (l ++ e ∷ []) n)
    more l e h =
        subst (λ m. AreOnce m (handshakes_of (l ++ e ∷ []) n)) (sym (length-append l (e ∷ []))) (by (handshakes_now l e n))
      where
        by : (handshakes_of (l ++ e ∷ []) n ≡ handshakes_of l n) ⊎ (Begins l e n ⊎ (Ends l e n ⊎ Stops l e n)) → AreOnce (length l + 1) (handshakes_of (l ++ e ∷ []) n)
        by (inl same) = subst (AreOnce (length l + 1)) (sym same) (once_later (length l) (handshakes_of l n) h)
        by (inr (inl begins)) = subst (AreOnce (length l + 1)) (sym begins.now) (once_admitted (length l) (handshakes_of l n) h)
        by (inr (inr (inr stops))) = subst (AreOnce (length l + 1)) (sym stops.now) (record { once = λ k. omega arith; early = λ k past. refl })
        by (inr (inr (inl ends))) = subst (AreOnce (length l + 1)) (sym ends.now) (once_later (length l) (without_name ends.name (handshakes_of l n)) (once_without (length l) ends.name (handshakes_of l n) h))

-- no handshake has the name of a later entry
pub none_later : (log : List Entry) (n k : ℕ) → length log ≤ k → is_handshaking log n k ≡ false
none_later log n k past = times-among k (handshakes_of log n) ((handshakes_once log n).early k past)

-- and one that runs that of an earlier one
pub handshaking_early : (log : List Entry) (n k : ℕ) → is_handshaking log n k ≡ true → suc k ≤ length log
handshaking_early log n k runs = by (nat_lt k (length log)) refl
  where
    early : (a b : ℕ) → nat_lt a b ≡ true → suc a ≤ b
    early a b h = grind (arith, nat_tests)

    late : (a b : ℕ) → nat_lt a b ≡ false → b ≤ a
    late a b h = grind (arith, nat_tests)

    by : (b : Bool) → nat_lt k (length log) ≡ b → suc k ≤ length log
    by true is = early k (length log) is
    by false is = let t : false ≡ true = sym (none_later log n k (late k (length log) is)) ∙ runs in cc

-- one less runs, where one has ended
pub one_less : (log : List Entry) (n name : ℕ) → is_handshaking log n name ≡ true → length (without_name name (handshakes_of log n)) + 1 ≡ length (handshakes_of log n)
one_less log n name runs =
    let names = handshakes_of log n in
    count (length (without_name name names)) (length (filter (is_named name) names)) (times name names) (length names)
    (length-filter_both (λ k. not (k == name)) (is_named name) (λ k. twice (k == name)) names) (length-filter (is_named name) names) ((handshakes_once log n).once name) (λ none. some none)
  where
    twice : (b : Bool) → b ≡ not (not b)
    twice true = refl
    twice false = refl

    some : times name (handshakes_of log n) ≡ 0 → ⊥
    some none = let t : false ≡ true = sym (times-among name (handshakes_of log n) none) ∙ runs in cc

    count : (a b c d : ℕ) → a + b ≡ d → b ≡ c → c ≤ 1 → (c ≡ 0 → ⊥) → a + 1 ≡ d
    count a b zero d sum is le not_none = absurd (not_none refl)
    count a b (suc c) d sum is le not_none = omega (arith, sum, is, le)
