-- What acts tell of the attempts of a node, which of them leave an attempt alone, and what those that don't make of it.
use Rattle.std.proofs.Common.{◌≡◌, ℕ, suc, ◌+◌, ◌≤◌, Bool, true, false, cond, List, [], ◌∷◌, ◌++◌, length, refl, ap, ◌∙◌, arith, eq-eqb, Option, Some, None}
use Rattle.std.specs.Prelude.{◌==◌, ◌&&◌, ◌||◌, min, unwrap_or, is_some}
use Rattle.std.specs.List.{list_any}
use Rattle.std.proofs.lemmas.Bool.Decides.{nat_tests}
use Rattle.p2p_base.specs.declared.key.Key.{Key}
use Rattle.p2p_address.specs.declared.ip.SocketAddr.{SocketAddr}
use Rattle.p2p_address.specs.declared.peer.Ingress.{Ingress}
use Rattle.p2p_log.specs.declared.config.Config.{Config}
use Rattle.p2p_log.specs.declared.queue.Queue.{Queue}
use Rattle.p2p_log.specs.declared.item.Item.{Item}
use Rattle.p2p_log.specs.declared.item.Item.TheVariants as item
use Rattle.p2p_log.specs.declared.entry.Entry.{Entry}
use Rattle.p2p_log.specs.declared.entry.Reply.{Reply}
use Rattle.p2p_log.specs.declared.event.Act.{Act}
use Rattle.p2p_log.specs.declared.event.Act.TheVariants as act
use Rattle.p2p_log_rules.specs.Attempting.{Attempt, DialRules, dial_rules_at, drawn_address, attempt_since, attempt_in, attempts_of}
use Rattle.p2p_log_rules.specs.Facts.{taken}
use Rattle.p2p_log_rules.specs.Puts.{gave_up, ends_attempt}
use Rattle.p2p_log_rules.specs.Tellings.{Telling, last_told, last_or, or_new, least_by}
use Rattle.p2p_log_rules.specs.Tellings as telling
use Rattle.p2p_log_rules.specs.Told.{Begun, dialing_dropped, when, asks_list, link_in, answer_tells, ask_tells, took_tells, left_tells, act_tells, tells, told}
use Rattle.p2p_log_rules.proofs.Attempts.{of_attempt, is_begun, begun_or, attempt_after, attempt_told, attempt_in-more, nothing_told, others_told, none_told, attempts_of-append}
use Rattle.p2p_log_rules.proofs.TellingKinds.{Kind}
use Rattle.p2p_log_rules.proofs.TellingKinds as kind
use Rattle.p2p_log_rules.proofs.Families.{telling_kind, has, untold_act}
use Rattle.p2p_log_rules.proofs.Told.{NoneTold, NoneDialed, NoneTried, ask_quiet, cut_quiet, quiet_act}
use Rattle.p2p_log_rules.proofs.Tellings.{late_told, when_quiet}

-- an entry whose act is known
pub attempts_of-act : (configs : List Config) (log : List Entry) (e : Entry) (n k : ℕ) (a : Act) → e.event.act ≡ a → attempts_of configs (log ++ e ∷ []) n k
    ≡ attempt_told (dial_rules_at configs n) n k (act_tells (told log) log (length log) e.event.at e.event.seed e.reply (taken log e) e.puts a) (attempts_of configs log n k)
unfolding tells
attempts_of-act configs log e n k a is =
    attempts_of-append configs log e n k
    ∙ ap (λ b. attempt_told (dial_rules_at configs n) n k (act_tells (told log) log (length log) e.event.at e.event.seed e.reply (taken log e) e.puts b) (attempts_of configs log n k)) is

-- ---- what leaves one alone

-- whether an act is of the attempts of a node
abbrev pub tries : ℕ → Act → Bool
tries n (act.Dialer m) = m == n
tries n (act.Attempt e m) = m == n
tries n (act.Resolve addresses e m) = m == n
tries n (act.Connect e from m to) = m == n
tries n (act.Refuse e m) = m == n
tries n (act.Stop by_start m) = m == n
tries n _ = false

module _ (n k : ℕ) where
  -- what a step of a dialer tells that does not begin this one, and what one of another attempt tells
  pub none_dialed : (m name at : ℕ) → ((m == n) && (k == name)) ≡ false → NoneDialed (of_attempt n k) m name at
  none_dialed m name at h = record { list = λ asked seed next peers. refl; answer = refl; begun = λ key ingress. h; due = refl; dials = refl; asks = refl }

  pub none_tried : (m e at : ℕ) → ((m == n) && (k == e)) ≡ false → NoneTried (of_attempt n k) m e at
  none_tried m e at h = record { addresses = λ seed addresses. h; link = h; ended = h; drops = λ link. refl }

  -- the kinds that tell of it
  abbrev attempt_kinds : List Kind
  attempt_kinds = kind.attempt_begun ∷ kind.addresses_told ∷ kind.dial_answered ∷ kind.link_opened ∷ kind.addresses_taken ∷ kind.link_taken ∷ kind.attempt_ended ∷ []

  of_kinds : (t : Telling) → has attempt_kinds (telling_kind t) ≡ false → of_attempt n k t ≡ false
  of_kinds (telling.attempt_begun m j key ingress at) h = cc
  of_kinds (telling.addresses_told m j) h = cc
  of_kinds (telling.dial_answered m j event) h = cc
  of_kinds (telling.link_opened m j link to) h = cc
  of_kinds (telling.addresses_taken m j seed addresses) h = cc
  of_kinds (telling.link_taken m j at) h = cc
  of_kinds (telling.attempt_ended m j) h = cc
  of_kinds _ h = refl

  begun_kinds : (t : Telling) → has (kind.attempt_begun ∷ []) (telling_kind t) ≡ false → is_begun n k t ≡ false
  begun_kinds (telling.attempt_begun m j key ingress at) h = cc
  begun_kinds _ h = refl

  module _ (ts : List Telling) (before : List Entry) (name at seed : ℕ) (r : Reply) (items : List Item) (puts : List (Queue × Item)) where
    abbrev told_by_act : Act → List Telling
    told_by_act = act_tells ts before name at seed r items puts

    -- an act of another node, or of none, tells nothing of it
    pub tries_none : (a : Act) → tries n a ≡ false → list_any (of_attempt n k) (told_by_act a) ≡ false
    tries_none (act.Dialer m) h = quiet_act (of_attempt n k) name at ts before seed r items puts (act.Dialer m) (none_dialed m name at (ap (λ b. b && (k == name)) h))
    tries_none (act.Attempt e m) h = quiet_act (of_attempt n k) name at ts before seed r items puts (act.Attempt e m) (none_tried m e at (ap (λ b. b && (k == e)) h))
    tries_none (act.Resolve addresses e m) h = quiet_act (of_attempt n k) name at ts before seed r items puts (act.Resolve addresses e m) (ap (λ b. b && (k == e)) h)
    tries_none (act.Connect e from m to) h = quiet_act (of_attempt n k) name at ts before seed r items puts (act.Connect e from m to) (ap (λ b. b && (k == e)) h, ap (λ b. b && (k == e)) h)
    tries_none (act.Refuse e m) h = quiet_act (of_attempt n k) name at ts before seed r items puts (act.Refuse e m) (ap (λ b. b && (k == e)) h)
    tries_none (act.Stop by_start m) h =
        quiet_act (of_attempt n k) name at ts before seed r items puts (act.Stop by_start m)
        (record { stops = refl; attempt = λ e. ap (λ b. b && (k == e)) h; handshake = λ e link. refl; connection = λ conn. refl; drops = λ link s. refl })
    tries_none a h = untold_act (of_attempt n k) attempt_kinds of_kinds ts before name at seed r items puts a refl

    -- an attempt begins in the entry of its name alone
    pub none_begun : (a : Act) → (k == name) ≡ false → list_any (is_begun n k) (told_by_act a) ≡ false
    none_begun (act.Dialer m) h =
        quiet_act (is_begun n k) name at ts before seed r items puts (act.Dialer m)
        (record { list = λ asked seed next peers. refl; answer = refl; begun = λ key ingress. unnamed (m == n) (k == name) (record { key = key; ingress = ingress; at = at }) h; due = refl; dials = refl; asks = refl })
      where
        unnamed : (b c : Bool) (x : Begun) → c ≡ false → is_some (cond (b && c) (Some x) None) ≡ false
        unnamed true c x other = ap (λ c. is_some (cond c (Some x) None)) other
        unnamed false c x other = refl
    none_begun a h = untold_act (is_begun n k) (kind.attempt_begun ∷ []) begun_kinds ts before name at seed r items puts a refl

-- an act that tells nothing of this attempt, as of another
pub attempts_of-others : (configs : List Config) (log : List Entry) (e : Entry) (n k : ℕ) (a : Act) → e.event.act ≡ a → NoneTold (of_attempt n k) (length log) e.event.at a
    → attempts_of configs (log ++ e ∷ []) n k ≡ attempts_of configs log n k
attempts_of-others configs log e n k a is none =
    attempts_of-act configs log e n k a is
    ∙ others_told (dial_rules_at configs n) n k (act_tells (told log) log (length log) e.event.at e.event.seed e.reply (taken log e) e.puts a) (attempts_of configs log n k)
    (quiet_act (of_attempt n k) (length log) e.event.at (told log) log e.event.seed e.reply (taken log e) e.puts a none)

-- an entry of another act, or of another node
pub attempts_of-kept : (configs : List Config) (log : List Entry) (e : Entry) (n k : ℕ) → tries n e.event.act ≡ false → attempts_of configs (log ++ e ∷ []) n k ≡ attempts_of configs log n k
attempts_of-kept configs log e n k h =
    attempts_of-act configs log e n k e.event.act refl
    ∙ others_told (dial_rules_at configs n) n k (act_tells (told log) log (length log) e.event.at e.event.seed e.reply (taken log e) e.puts e.event.act) (attempts_of configs log n k)
    (tries_none n k (told log) log (length log) e.event.at e.event.seed e.reply (taken log e) e.puts e.event.act h)

-- an attempt takes its name from the entry that begins it, so there is none of a later name
pub attempts_of-late : (configs : List Config) (log : List Entry) (n k : ℕ) → length log ≤ k → attempts_of configs log n k ≡ None
unfolding attempts_of last_told tells
attempts_of-late configs log n k past = late_told (λ ts j. attempt_in n j (dial_rules_at configs n) ts) (λ j. refl) each log k past
  where
    later : (m j : ℕ) → suc m ≤ j → (j == m) ≡ false
    later m j past = grind (arith, nat_tests)

    each : (before : List Entry) (e : Entry) (ts : List Telling) (j : ℕ) → suc (length before) ≤ j → attempt_in n j (dial_rules_at configs n) ts ≡ None → attempt_in n j (dial_rules_at configs n) (ts ++ tells ts before e) ≡ None
    each before e ts j past none =
        attempt_in-more (dial_rules_at configs n) n j ts (tells ts before e)
        ∙ (ap (attempt_told (dial_rules_at configs n) n j (tells ts before e)) none
        ∙ none_told (dial_rules_at configs n) n j (tells ts before e)
        (none_begun n j ts before (length before) e.event.at e.event.seed e.reply (taken before e) e.puts e.event.act (later (length before) j past)))

-- ---- what is told of one itself

module _ (rules : DialRules) (n k : ℕ) where
  here : ((n == n) && (k == k)) ≡ true
  here = ap (λ b. b && (k == k)) (eq-eqb n n refl) ∙ eq-eqb k k refl

  told_append : (ts us : List Telling) (o : Option Attempt) → attempt_told rules n k (ts ++ us) o ≡ attempt_told rules n k us (attempt_told rules n k ts o)
  told_append [] us o = refl
  told_append (t ∷ ts) us o = told_append ts us (attempt_after rules n k t o)

  -- a dialer took a grant
  pub granted_told : (asked at seed : ℕ) (grant : Key × Ingress) (items : List Item)
      → attempt_told rules n k (answer_tells n asked k at seed (item.Dial (Some grant) ∷ items)) None ≡ Some (attempt_since n k rules (record { key = grant.0; ingress = grant.1; at = at }) [])
  granted_told asked at seed grant items = ap (λ b. nothing_told rules n k (begun_or rules n k (cond b (Some (record { key = grant.0; ingress = grant.1; at = at })) None) None)) here

  -- what it asks is of no attempt
  pub asks_told : (answers : List Telling) (m at : ℕ) (items : List Item) (puts : List (Queue × Item)) (o : Option Attempt) → attempt_told rules n k (answers ++ ask_tells m at items puts) o ≡ attempt_told rules n k answers o
  asks_told answers m at items puts o =
      told_append answers (ask_tells m at items puts) o
      ∙ others_told rules n k (ask_tells m at items puts) (attempt_told rules n k answers o) (ask_quiet (of_attempt n k) 0 at m items puts refl refl refl)

  -- it was told addresses, and its dial was answered, with a link or without
  pub addresses_told : (a : Attempt) → attempt_told rules n k (telling.addresses_told n k ∷ []) (Some a) ≡ Some (record a { is_resolved = true })
  addresses_told a = ap (λ b. Some (record a { is_resolved = b || a.is_resolved })) here

  pub answered_told : (event : ℕ) (a : Attempt) → attempt_told rules n k (telling.dial_answered n k event ∷ []) (Some a) ≡ Some (record a { answer = Some event })
  answered_told event a = ap (λ b. Some (record a { answer = unwrap_or (cond b (Some (Some event)) None) a.answer })) here

  pub opened_told : (event to : ℕ) (a : Attempt) → attempt_told rules n k (telling.dial_answered n k event ∷ telling.link_opened n k event to ∷ []) (Some a) ≡ Some (record a { answer = Some event; link = Some event })
  opened_told event to a = ap (λ b. Some (record a { answer = unwrap_or (cond b (Some (Some event)) None) a.answer; link = unwrap_or (cond b (Some (Some event)) None) a.link })) here

  -- it took addresses, or that it is linked
  pub resolved_told : (at seed : ℕ) (addresses : List SocketAddr) (items : List Item) (a : Attempt)
      → attempt_told rules n k (took_tells n k at seed (item.Resolved addresses ∷ items)) (Some a) ≡ Some (record a { address = or_new (drawn_address rules.private addresses seed) a.address })
  resolved_told at seed addresses items a = ap (λ b. Some (record a { address = or_new (cond b (drawn_address rules.private addresses seed) None) a.address })) here

  pub linked_told : (at seed : ℕ) (items : List Item) (a : Attempt)
      → attempt_told rules n k (took_tells n k at seed (item.Linked ∷ items)) (Some a) ≡ Some (record a { deadline = min a.deadline (at + rules.handshake_timeout) })
  linked_told at seed items a = ap (λ b. Some (record a { deadline = least_by (cond b (Some (at + rules.handshake_timeout)) None) a.deadline })) here

  -- its step ended it by what it put
  left_told : (link : Option ℕ) (puts : List (Queue × Item)) (o : Option Attempt) → attempt_told rules n k (left_tells n k link puts) o ≡ cond (ends_attempt puts) None o
  left_told link puts o = by (ends_attempt puts)
    where
      dropped : List Telling
      dropped = when (gave_up puts) (dialing_dropped link)

      by : (b : Bool) → attempt_told rules n k (when b (telling.attempt_ended n k ∷ dropped)) o ≡ cond b None o
      by true =
          others_told rules n k dropped (attempt_after rules n k (telling.attempt_ended n k) o) (when_quiet (of_attempt n k) (gave_up puts) (dialing_dropped link) (cut_quiet (of_attempt n k) 0 0 link (λ l. refl)))
          ∙ ap (λ b. cond b None (nothing_told rules n k o)) here
      by false = refl

  pub step_told : (at seed : ℕ) (items : List Item) (link : Option ℕ) (puts : List (Queue × Item)) (o : Option Attempt)
      → attempt_told rules n k (took_tells n k at seed items ++ left_tells n k link puts) o ≡ cond (ends_attempt puts) None (attempt_told rules n k (took_tells n k at seed items) o)
  step_told at seed items link puts o = told_append (took_tells n k at seed items) (left_tells n k link puts) o ∙ left_told link puts (attempt_told rules n k (took_tells n k at seed items) o)

-- ---- an entry of a dialer, and of an attempt

-- the attempt that a step of a dialer begins, if it took a grant
pub attempts_of-new : (configs : List Config) (log : List Entry) (e : Entry) (n : ℕ) → e.event.act ≡ act.Dialer n → attempts_of configs (log ++ e ∷ []) n (length log)
    ≡ attempt_told (dial_rules_at configs n) n (length log) (answer_tells n (last_or 0 (asks_list n) (told log)) (length log) e.event.at e.event.seed (taken log e)) None
attempts_of-new configs log e n is =
    let k = length log in
    let answers : List Telling = answer_tells n (last_or 0 (asks_list n) (told log)) k e.event.at e.event.seed (taken log e) in
    attempts_of-act configs log e n k (act.Dialer n) is
    ∙ (asks_told (dial_rules_at configs n) n k answers n e.event.at (taken log e) e.puts (attempts_of configs log n k)
    ∙ ap (attempt_told (dial_rules_at configs n) n k answers) (attempts_of-late configs log n k (omega arith)))

-- the others are left alone
pub attempts_of-old : (configs : List Config) (log : List Entry) (e : Entry) (n m k : ℕ) → e.event.act ≡ act.Dialer m → (k == length log) ≡ false → attempts_of configs (log ++ e ∷ []) n k ≡ attempts_of configs log n k
attempts_of-old configs log e n m k is other = attempts_of-others configs log e n k (act.Dialer m) is (none_dialed n k m (length log) e.event.at (unnamed (m == n) (k == length log) other))
  where
    unnamed : (b c : Bool) → c ≡ false → (b && c) ≡ false
    unnamed true c h = h
    unnamed false c h = refl

-- after the step of one: it is gone, or what it took is told of it
pub attempts_of-stepped : (configs : List Config) (log : List Entry) (e : Entry) (n k : ℕ) → e.event.act ≡ act.Attempt k n → attempts_of configs (log ++ e ∷ []) n k
    ≡ cond (ends_attempt e.puts) None (attempt_told (dial_rules_at configs n) n k (took_tells n k e.event.at e.event.seed (taken log e)) (attempts_of configs log n k))
attempts_of-stepped configs log e n k is =
    attempts_of-act configs log e n k (act.Attempt k n) is
    ∙ step_told (dial_rules_at configs n) n k e.event.at e.event.seed (taken log e) (link_in (told log) n k) e.puts (attempts_of configs log n k)
