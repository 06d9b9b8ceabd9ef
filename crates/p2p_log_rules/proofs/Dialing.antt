-- What stands of a node's dialer after one more entry.
use Rattle.std.proofs.Common.{◌≡◌, ℕ, suc, ◌+◌, Bool, true, false, cond, List, [], ◌∷◌, ◌++◌, length, refl, ap, sym, ◌∙◌, append_assoc, append-nil, arith, eq-eqb, Option, Some, None}
use Rattle.std.specs.Prelude.{◌==◌, unwrap_or, count_by}
use Rattle.std.specs.List.{list_any}
use Rattle.std.proofs.lemmas.List.Sums.{sum_by-append}
use Rattle.p2p_base.specs.declared.key.Key.{Key}
use Rattle.p2p_address.specs.declared.peer.Ingress.{Ingress}
use Rattle.p2p_log.specs.declared.config.Config.{Config}
use Rattle.p2p_log.specs.declared.queue.Queue.{Queue}
use Rattle.p2p_log.specs.declared.item.Item.{Item}
use Rattle.p2p_log.specs.declared.item.Item.TheVariants as item
use Rattle.p2p_log.specs.declared.entry.Entry.{Entry}
use Rattle.p2p_log.specs.declared.entry.Reply.{Reply}
use Rattle.p2p_log.specs.declared.event.Act.{Act}
use Rattle.p2p_log.specs.declared.event.Act.TheVariants as act
use Rattle.p2p_log_rules.specs.Dialing.{Pace, pace_at, after_dial, next_deadline, Dials, in_drawn_order, new_dials, without_last, lists, dials, less, left_of, dial_list, asks, sets_deadline, dials_in, dials_of, dial_puts}
use Rattle.p2p_log_rules.specs.Facts.{starts, is_stopped, taken}
use Rattle.p2p_log_rules.specs.Tellings.{Telling, Last, last_told, last_or}
use Rattle.p2p_log_rules.specs.Tellings as telling
use Rattle.p2p_log_rules.specs.Told.{asks_list, answer_tells, ask_tells, act_tells, tells, told}
use Rattle.p2p_log_rules.proofs.TellingKinds.{Kind}
use Rattle.p2p_log_rules.proofs.TellingKinds as kind
use Rattle.p2p_log_rules.proofs.Families.{telling_kind, kinds_of, has, are_apart, untold_act, untold_of}
use Rattle.p2p_log_rules.proofs.Told.{quiet_act}
use Rattle.p2p_log_rules.proofs.Channels.{unless_is}
use Rattle.p2p_log_rules.proofs.Tellings.{told-append, or_left, or_right, last_or-append, with_last, last_told-one}

-- ---- after one telling more

module _ (pace : Pace) (n : ℕ) where
  -- the keys that it is to dial
  abbrev pub keys_after : Option (List Key) → Bool → List Key → List Key
  keys_after None b keys = cond b (without_last keys) keys
  keys_after (Some l) b keys = l

  abbrev pub dials_after : Telling → Dials → Dials
  dials_after t d = record {
    peers = keys_after (lists n t) (dials n t) d.peers;
    deadline = unwrap_or (sets_deadline pace n t) d.deadline;
    asked_at = unwrap_or (asks_list n t) d.asked_at;
    is_asking = unwrap_or (asks n t) d.is_asking;
  }

  abbrev pub dials_told : List Telling → Dials → Dials
  dials_told [] d = d
  dials_told (t ∷ ts) d = dials_told ts (dials_after t d)

  count-one : (ts : List Telling) (t : Telling) → count_by (dials n) (ts ++ t ∷ []) ≡ cond (dials n t) (suc (count_by (dials n) ts)) (count_by (dials n) ts)
  count-one ts t = sum_by-append (λ (u : Telling). cond (dials n u) 1 0) ts (t ∷ []) ∙ by (dials n t) (count_by (dials n) ts)
    where
      by : (b : Bool) (c : ℕ) → c + (0 + cond b 1 0) ≡ cond b (suc c) c
      by true c = omega arith
      by false c = omega arith

  list-one : (ts : List Telling) (t : Telling) → dial_list (ts ++ t ∷ []) n ≡ keys_after (lists n t) (dials n t) (dial_list ts n)
  list-one ts t = ap (left_of n) (last_told-one (lists n) ts t) ∙ by (lists n t) (last_told (lists n) ts)
    where
      none : (b : Bool) → [] ≡ cond b (without_last []) []
      none true = refl
      none false = refl

      more : (b : Bool) (c : ℕ) (keys : List Key) → less (cond b (suc c) c) keys ≡ cond b (without_last (less c keys)) (less c keys)
      more true c keys = refl
      more false c keys = refl

      by : (new : Option (List Key)) (o : Option (Last (List Key))) → left_of n (with_last new t o) ≡ keys_after new (dials n t) (left_of n o)
      by (Some l) o = refl
      by None None = none (dials n t)
      by None (Some l) = ap (λ c. less c l.told) (count-one l.since t) ∙ more (dials n t) (count_by (dials n) l.since) l.told

  pub dials_in-one : (ts : List Telling) (t : Telling) → dials_in pace (ts ++ t ∷ []) n ≡ dials_after t (dials_in pace ts n)
  dials_in-one ts t =
      let d : Dials = dials_in pace (ts ++ t ∷ []) n in
      let o : Dials = dials_after t (dials_in pace ts n) in
      ap (λ x. record d { peers = x }) (list-one ts t)
      ∙ (ap (λ x. record d { peers = o.peers; deadline = x }) (last_or-append 0 (sets_deadline pace n) ts (t ∷ []))
      ∙ (ap (λ x. record d { peers = o.peers; deadline = o.deadline; asked_at = x }) (last_or-append 0 (asks_list n) ts (t ∷ []))
      ∙ ap (λ x. record d { peers = o.peers; deadline = o.deadline; asked_at = o.asked_at; is_asking = x }) (last_or-append false (asks n) ts (t ∷ []))))

  pub dials_in-more : (ts us : List Telling) → dials_in pace (ts ++ us) n ≡ dials_told us (dials_in pace ts n)
  dials_in-more ts [] = ap (λ l. dials_in pace l n) (append-nil ts)
  dials_in-more ts (u ∷ us) = ap (λ l. dials_in pace l n) (sym (append_assoc ts (u ∷ []) us)) ∙ (dials_in-more (ts ++ u ∷ []) us ∙ ap (dials_told us) (dials_in-one ts u))

  -- ---- a telling of another thing

  abbrev pub of_dialer : Telling → Bool
  of_dialer (telling.node_started m at) = m == n
  of_dialer (telling.list_asked m at) = m == n
  of_dialer (telling.list_taken m asked seed next peers) = m == n
  of_dialer (telling.answer_taken m) = m == n
  of_dialer (telling.dial_asked m) = m == n
  of_dialer (telling.dial_due m at) = m == n
  of_dialer _ = false

  pub other_dialed : (t : Telling) (d : Dials) → of_dialer t ≡ false → dials_after t d ≡ d
  other_dialed (telling.node_started m at) d h =
      ap (λ b. record { peers = keys_after (cond b (Some []) None) false d.peers; deadline = unwrap_or (cond b (Some at) None) d.deadline; asked_at = unwrap_or (cond b (Some at) None) d.asked_at; is_asking = unwrap_or (cond b (Some false) None) d.is_asking }) h
  other_dialed (telling.list_asked m at) d h = ap (λ b. record d { asked_at = unwrap_or (cond b (Some at) None) d.asked_at; is_asking = unwrap_or (cond b (Some true) None) d.is_asking }) h
  other_dialed (telling.list_taken m asked seed next peers) d h =
      ap (λ b. record d { peers = keys_after (cond b (Some (in_drawn_order seed peers)) None) false d.peers; deadline = unwrap_or (cond b (Some (next_deadline pace asked peers next)) None) d.deadline }) h
  other_dialed (telling.answer_taken m) d h = ap (λ b. record d { is_asking = unwrap_or (cond b (Some false) None) d.is_asking }) h
  other_dialed (telling.dial_asked m) d h = ap (λ b. record d { peers = cond b (without_last d.peers) d.peers; is_asking = unwrap_or (cond b (Some true) None) d.is_asking }) h
  other_dialed (telling.dial_due m at) d h = ap (λ b. record d { deadline = unwrap_or (cond b (Some (after_dial pace at)) None) d.deadline }) h
  other_dialed _ d h = refl

  pub others_dialed : (ts : List Telling) (d : Dials) → list_any of_dialer ts ≡ false → dials_told ts d ≡ d
  others_dialed [] d h = refl
  others_dialed (t ∷ ts) d h = ap (dials_told ts) (other_dialed t d (or_left (of_dialer t) (list_any of_dialer ts) h)) ∙ others_dialed ts d (or_right (of_dialer t) (list_any of_dialer ts) h)

-- ---- after one entry more

pub dials_of-append : (configs : List Config) (log : List Entry) (e : Entry) (n : ℕ) → dials_of configs (log ++ e ∷ []) n ≡ dials_told (pace_at configs n) n (tells (told log) log e) (dials_of configs log n)
unfolding dials_of
dials_of-append configs log e n = ap (λ l. dials_in (pace_at configs n) l n) (told-append log e) ∙ dials_in-more (pace_at configs n) n (told log) (tells (told log) log e)

-- whether an act is of a node's dialer, or of its start
abbrev pub dials_by : ℕ → Act → Bool
dials_by n (act.Start m) = m == n
dials_by n (act.Dialer m) = m == n
dials_by n _ = false

-- ---- the kinds that tell of it

abbrev pub dialer_kinds : List Kind
dialer_kinds = kind.node_started ∷ kind.list_asked ∷ kind.list_taken ∷ kind.answer_taken ∷ kind.dial_asked ∷ kind.dial_due ∷ []

of_kinds : (pace : Pace) (n : ℕ) (t : Telling) → has dialer_kinds (telling_kind t) ≡ false → of_dialer pace n t ≡ false
of_kinds pace n (telling.node_started m at) h = cc
of_kinds pace n (telling.list_asked m at) h = cc
of_kinds pace n (telling.list_taken m asked seed next peers) h = cc
of_kinds pace n (telling.answer_taken m) h = cc
of_kinds pace n (telling.dial_asked m) h = cc
of_kinds pace n (telling.dial_due m at) h = cc
of_kinds pace n _ h = refl

-- an act of another node's dialer or start, or of none, tells nothing of it
none_dialed : (pace : Pace) (n : ℕ) (ts : List Telling) (before : List Entry) (name at seed : ℕ) (r : Reply) (items : List Item) (puts : List (Queue × Item)) (a : Act) → dials_by n a ≡ false
    → list_any (of_dialer pace n) (act_tells ts before name at seed r items puts a) ≡ false
none_dialed pace n ts before name at seed r items puts (act.Start m) h = quiet_act (of_dialer pace n) name at ts before seed r items puts (act.Start m) h
none_dialed pace n ts before name at seed r items puts (act.Dialer m) h =
    quiet_act (of_dialer pace n) name at ts before seed r items puts (act.Dialer m) (record { list = λ asked s next peers. h; answer = h; begun = λ key ingress. refl; due = h; dials = h; asks = h })
none_dialed pace n ts before name at seed r items puts a h = untold_act (of_dialer pace n) dialer_kinds (of_kinds pace n) ts before name at seed r items puts a refl

pub dials_of-kept : (configs : List Config) (log : List Entry) (e : Entry) (n : ℕ) → dials_by n e.event.act ≡ false → dials_of configs (log ++ e ∷ []) n ≡ dials_of configs log n
unfolding tells
dials_of-kept configs log e n h =
    dials_of-append configs log e n
    ∙ others_dialed (pace_at configs n) n (tells (told log) log e) (dials_of configs log n)
    (none_dialed (pace_at configs n) n (told log) log (length log) e.event.at e.event.seed e.reply (taken log e) e.puts e.event.act h)

-- ---- by its act

-- an entry whose act is known
pub dials_of-act : (configs : List Config) (log : List Entry) (e : Entry) (n : ℕ) (a : Act) → e.event.act ≡ a
    → dials_of configs (log ++ e ∷ []) n ≡ dials_told (pace_at configs n) n (act_tells (told log) log (length log) e.event.at e.event.seed e.reply (taken log e) e.puts a) (dials_of configs log n)
unfolding tells
dials_of-act configs log e n a is =
    dials_of-append configs log e n
    ∙ ap (λ b. dials_told (pace_at configs n) n (act_tells (told log) log (length log) e.event.at e.event.seed e.reply (taken log e) e.puts b) (dials_of configs log n)) is

-- one that takes and puts nothing, and starts no node
pub dials_of-still : (configs : List Config) (log : List Entry) (e : Entry) (n : ℕ) → starts n e.event.act ≡ false → taken log e ≡ [] → e.puts ≡ [] → dials_of configs (log ++ e ∷ []) n ≡ dials_of configs log n
dials_of-still configs log e n no_start none no_puts = by e.event.act refl
  where
    pace : Pace
    pace = pace_at configs n

    d : Dials
    d = dials_of configs log n

    by : (a : Act) → e.event.act ≡ a → dials_of configs (log ++ e ∷ []) n ≡ dials_of configs log n
    by (act.Start m) is = dials_of-kept configs log e n (ap (dials_by n) is ∙ (sym (ap (starts n) is) ∙ no_start))
    by (act.Dialer m) is =
        let asked : ℕ = last_or 0 (asks_list m) (told log) in
        dials_of-act configs log e n (act.Dialer m) is
        ∙ (ap (λ items. dials_told pace n (answer_tells m asked (length log) e.event.at e.event.seed items ++ ask_tells m e.event.at items e.puts) d) none
        ∙ ap (λ puts. dials_told pace n (ask_tells m e.event.at [] puts) d) no_puts)
    by a is = dials_of-kept configs log e n (ap (dials_by n) is)

-- ---- what is told of it itself

module _ (pace : Pace) (n : ℕ) where
  told_append : (ts us : List Telling) (d : Dials) → dials_told pace n (ts ++ us) d ≡ dials_told pace n us (dials_told pace n ts d)
  told_append [] us d = refl
  told_append (t ∷ ts) us d = told_append ts us (dials_after pace n t d)

  here : (n == n) ≡ true
  here = eq-eqb n n refl

  pub started_told : (at : ℕ) (d : Dials) → dials_after pace n (telling.node_started n at) d ≡ new_dials at
  started_told at d =
      ap (λ b. record { peers = keys_after pace n (cond b (Some []) None) false d.peers; deadline = unwrap_or (cond b (Some at) None) d.deadline; asked_at = unwrap_or (cond b (Some at) None) d.asked_at; is_asking = unwrap_or (cond b (Some false) None) d.is_asking }) here

  -- it took a list
  pub list_told : (asked name at seed : ℕ) (next : Option ℕ) (peers : List Key) (items : List Item) (d : Dials) → dials_told pace n (answer_tells n asked name at seed (item.Dialable next peers ∷ items)) d
      ≡ record d { peers = in_drawn_order seed peers; deadline = next_deadline pace asked peers next; is_asking = false }
  list_told asked name at seed next peers items d =
      ap (λ b. record d {
        peers = keys_after pace n (cond b (Some (in_drawn_order seed peers)) None) false d.peers;
        deadline = unwrap_or (cond b (Some (next_deadline pace asked peers next)) None) d.deadline;
        is_asking = unwrap_or (cond b (Some false) None) d.is_asking;
      }) here

  -- or that a dial was granted or refused
  pub dial_told : (asked name at seed : ℕ) (grant : Option (Key × Ingress)) (items : List Item) (d : Dials) → dials_told pace n (answer_tells n asked name at seed (item.Dial grant ∷ items)) d ≡ record d { is_asking = false }
  dial_told asked name at seed None items d = ap (λ b. record d { is_asking = unwrap_or (cond b (Some false) None) d.is_asking }) here
  dial_told asked name at seed (Some grant) items d = ap (λ b. record d { is_asking = unwrap_or (cond b (Some false) None) d.is_asking }) here

  -- it asked for the last of its keys, if there was one, once it took an answer
  pub next_told : (at : ℕ) (i : Item) (items : List Item) (o : Option Key) (d : Dials) → dials_told pace n (ask_tells n at (i ∷ items) (dial_puts n o)) d ≡ elim o [ None ↦ d | Some k ↦ record d { peers = without_last d.peers; is_asking = true } ]
  next_told at i items None d = refl
  next_told at i items (Some k) d = ap (λ b. record d { peers = cond b (without_last d.peers) d.peers; is_asking = unwrap_or (cond b (Some true) None) d.is_asking }) here

  -- or at its deadline
  pub due_told : (at : ℕ) (k : Key) (d : Dials) → dials_told pace n (ask_tells n at [] (dial_puts n (Some k))) d ≡ record d { peers = without_last d.peers; deadline = after_dial pace at; is_asking = true }
  due_told at k d =
      ap (λ b. record d { peers = cond b (without_last d.peers) d.peers; deadline = unwrap_or (cond b (Some (after_dial pace at)) None) d.deadline; is_asking = unwrap_or (cond b (Some true) None) d.is_asking }) here

  -- it asked whom to dial
  pub asked_told : (at : ℕ) (items : List Item) (q : Queue) (puts : List (Queue × Item)) (d : Dials) → dials_told pace n (ask_tells n at items ((q, item.AskDialable) ∷ puts)) d ≡ record d { asked_at = at; is_asking = true }
  asked_told at items q puts d = ap (λ b. record d { asked_at = unwrap_or (cond b (Some at) None) d.asked_at; is_asking = unwrap_or (cond b (Some true) None) d.is_asking }) here

-- at the start of its node
pub dials_of-starts : (configs : List Config) (log : List Entry) (e : Entry) (n : ℕ) → e.event.act ≡ act.Start n → is_stopped log n ≡ false → dials_of configs (log ++ e ∷ []) n ≡ new_dials e.event.at
dials_of-starts configs log e n is lasts =
    dials_of-act configs log e n (act.Start n) is
    ∙ (ap (λ us. dials_told (pace_at configs n) n us (dials_of configs log n)) (unless_is log n (telling.node_started n e.event.at ∷ []) lasts)
    ∙ started_told (pace_at configs n) n e.event.at (dials_of configs log n))

-- after its step: first what it took is told, and then what it asked
pub dials_of-stepped : (configs : List Config) (log : List Entry) (e : Entry) (n : ℕ) → e.event.act ≡ act.Dialer n → dials_of configs (log ++ e ∷ []) n
    ≡ dials_told (pace_at configs n) n (ask_tells n e.event.at (taken log e) e.puts)
    (dials_told (pace_at configs n) n (answer_tells n (dials_of configs log n).asked_at (length log) e.event.at e.event.seed (taken log e)) (dials_of configs log n))
unfolding dials_of
dials_of-stepped configs log e n is =
    let d : Dials = dials_of configs log n in
    dials_of-act configs log e n (act.Dialer n) is
    ∙ told_append (pace_at configs n) n (answer_tells n d.asked_at (length log) e.event.at e.event.seed (taken log e)) (ask_tells n e.event.at (taken log e) e.puts) d

-- an entry whose act tells none of these
pub dials_of-apart : (configs : List Config) (log : List Entry) (e : Entry) (n : ℕ) → are_apart (kinds_of e.event.act) dialer_kinds ≡ true → dials_of configs (log ++ e ∷ []) n ≡ dials_of configs log n
dials_of-apart configs log e n h =
    dials_of-append configs log e n
    ∙ others_dialed (pace_at configs n) n (tells (told log) log e) (dials_of configs log n) (untold_of (of_dialer (pace_at configs n) n) dialer_kinds (of_kinds (pace_at configs n) n) (told log) log e h)
