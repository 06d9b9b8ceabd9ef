-- The attempts of a node, by what is told of them more, and after one more entry.
use Rattle.std.proofs.Common.{◌≡◌, ℕ, ◌+◌, Bool, true, false, cond, List, [], ◌∷◌, ◌++◌, refl, ap, sym, ◌∙◌, append_assoc, append-nil, Option, Some, None}
use Rattle.std.specs.Prelude.{◌==◌, ◌&&◌, ◌||◌, unwrap_or, is_some}
use Rattle.std.specs.List.{list_any}
use Rattle.std.specs.Option.{option_map}
use Rattle.std.proofs.lemmas.Option.{same_Some}
use Rattle.p2p_base.specs.declared.key.Key.{Key}
use Rattle.p2p_log.specs.declared.config.Config.{Config}
use Rattle.p2p_log.specs.declared.entry.Entry.{Entry}
use Rattle.p2p_log_rules.specs.Attempting.{Attempt, DialRules, dial_rules_at, socket_of, drawn_address, tells_addresses, answers_dial, draws, waits, attempt_since, attempt_by_last, attempt_in, attempts_of}
use Rattle.p2p_log_rules.specs.Tellings.{Telling, Last, last_told, last_or, or_new, first_or, any_or, least_by, least_or}
use Rattle.p2p_log_rules.specs.Tellings as telling
use Rattle.p2p_log_rules.specs.Told.{Begun, begun_as, ends, opens, opened_since, link_in, tells, told}
use Rattle.p2p_log_rules.proofs.Facts.{list_any-last}
use Rattle.p2p_log_rules.proofs.Tellings.{told-append, or_left, or_right, last_or-append, first_or-append, any_or-append, least_or-append, with_last, last_told-one}

-- ---- what is told of an attempt

module _ (n k : ℕ) where
  -- whether it is of this attempt
  abbrev pub of_attempt : Telling → Bool
  of_attempt (telling.attempt_begun m j key ingress at) = (m == n) && (k == j)
  of_attempt (telling.addresses_told m j) = (m == n) && (k == j)
  of_attempt (telling.dial_answered m j event) = (m == n) && (k == j)
  of_attempt (telling.link_opened m j link to) = (m == n) && (k == j)
  of_attempt (telling.addresses_taken m j seed addresses) = (m == n) && (k == j)
  of_attempt (telling.link_taken m j at) = (m == n) && (k == j)
  of_attempt (telling.attempt_ended m j) = (m == n) && (k == j)
  of_attempt _ = false

  -- whether it begins it
  abbrev pub is_begun : Telling → Bool
  is_begun t = is_some (begun_as n k t)

-- the key of one that stands
abbrev pub key_of : Option Attempt → Option Key
key_of o = option_map (λ (a : Attempt). a.key) o

-- ---- after one telling more

module _ (rules : DialRules) (n k : ℕ) where
  -- what it makes of an attempt that goes on
  abbrev pub attempt_one : Telling → Attempt → Attempt
  attempt_one t a = record {
    key = a.key;
    ingress = a.ingress;
    address = or_new (draws n k rules.private t) a.address;
    deadline = least_by (waits n k rules.handshake_timeout t) a.deadline;
    is_resolved = tells_addresses n k t || a.is_resolved;
    answer = unwrap_or (answers_dial n k t) a.answer;
    link = unwrap_or (opens n k t) a.link;
  }

  abbrev pub begun_or : Option Begun → Option Attempt → Option Attempt
  begun_or None o = o
  begun_or (Some b) o = Some (attempt_since n k rules b [])

  -- and of one that may not stand
  abbrev pub attempt_after : Telling → Option Attempt → Option Attempt
  attempt_after t o = begun_or (begun_as n k t) (cond (ends n k t) None (option_map (attempt_one t) o))

  abbrev pub attempt_told : List Telling → Option Attempt → Option Attempt
  attempt_told [] o = o
  attempt_told (t ∷ ts) o = attempt_told ts (attempt_after t o)

  since_one : (b : Begun) (ts : List Telling) (t : Telling) → attempt_since n k rules b (ts ++ t ∷ []) ≡ attempt_one t (attempt_since n k rules b ts)
  since_one b ts t =
      let a = attempt_since n k rules b (ts ++ t ∷ []) in
      let o : Attempt = attempt_one t (attempt_since n k rules b ts) in
      ap (λ x. record a { address = x }) (first_or-append (socket_of b.ingress) (draws n k rules.private) ts (t ∷ []))
      ∙ (ap (λ x. record a { address = o.address; deadline = x }) (least_or-append (b.at + rules.timeout) (waits n k rules.handshake_timeout) ts (t ∷ []))
      ∙ (ap (λ x. record a { address = o.address; deadline = o.deadline; is_resolved = x }) (any_or-append false (tells_addresses n k) ts (t ∷ []))
      ∙ (ap (λ x. record a { address = o.address; deadline = o.deadline; is_resolved = o.is_resolved; answer = x }) (last_or-append None (answers_dial n k) ts (t ∷ []))
      ∙ ap (λ x. record a { address = o.address; deadline = o.deadline; is_resolved = o.is_resolved; answer = o.answer; link = x }) (last_or-append None (opens n k) ts (t ∷ [])))))

  pub attempt_in-one : (ts : List Telling) (t : Telling) → attempt_in n k rules (ts ++ t ∷ []) ≡ attempt_after t (attempt_in n k rules ts)
  attempt_in-one ts t = ap (attempt_by_last n k rules) (last_told-one (begun_as n k) ts t) ∙ by (begun_as n k t) (last_told (begun_as n k) ts)
    where
      none : (b : Bool) → None ≡ cond b None (option_map (attempt_one t) None)
      none true = refl
      none false = refl

      ended : (b c : Bool) (a : Attempt) → cond (b || c) None (Some (attempt_one t a)) ≡ cond c None (option_map (attempt_one t) (cond b None (Some a)))
      ended true true a = refl
      ended true false a = refl
      ended false true a = refl
      ended false false a = refl

      by : (new : Option Begun) (o : Option (Last Begun)) → attempt_by_last n k rules (with_last new t o) ≡ begun_or new (cond (ends n k t) None (option_map (attempt_one t) (attempt_by_last n k rules o)))
      by (Some b) o = refl
      by None None = none (ends n k t)
      by None (Some l) =
          ap (λ b. cond b None (Some (attempt_since n k rules l.told (l.since ++ t ∷ [])))) (list_any-last (ends n k) l.since t)
          ∙ (ap (λ a. cond (list_any (ends n k) l.since || ends n k t) None (Some a)) (since_one l.told l.since t)
          ∙ ended (list_any (ends n k) l.since) (ends n k t) (attempt_since n k rules l.told l.since))

  pub attempt_in-more : (ts us : List Telling) → attempt_in n k rules (ts ++ us) ≡ attempt_told us (attempt_in n k rules ts)
  attempt_in-more ts [] = ap (attempt_in n k rules) (append-nil ts)
  attempt_in-more ts (u ∷ us) =
      ap (attempt_in n k rules) (sym (append_assoc ts (u ∷ []) us)) ∙ (attempt_in-more (ts ++ u ∷ []) us ∙ ap (attempt_told us) (attempt_in-one ts u))

  -- ---- a telling of another thing

  -- as none of these kinds
  abbrev pub nothing_told : Option Attempt → Option Attempt
  nothing_told o = option_map (λ (a : Attempt). record { key = a.key; ingress = a.ingress; address = a.address; deadline = a.deadline; is_resolved = a.is_resolved; answer = a.answer; link = a.link }) o

  same : (o : Option Attempt) → nothing_told o ≡ o
  same None = refl
  same (Some a) = refl

  pub other_told : (t : Telling) (o : Option Attempt) → of_attempt n k t ≡ false → attempt_after t o ≡ o
  other_told (telling.attempt_begun m j key ingress at) o h = ap (λ b. begun_or (cond b (Some (record { key = key; ingress = ingress; at = at })) None) (nothing_told o)) h ∙ same o
  other_told (telling.addresses_told m j) o h = ap (λ b. option_map (λ (a : Attempt). record a { is_resolved = b || a.is_resolved }) o) h ∙ same o
  other_told (telling.dial_answered m j event) o h = ap (λ b. option_map (λ (a : Attempt). record a { answer = unwrap_or (cond b (Some (Some event)) None) a.answer }) o) h ∙ same o
  other_told (telling.link_opened m j link to) o h = ap (λ b. option_map (λ (a : Attempt). record a { link = unwrap_or (cond b (Some (Some link)) None) a.link }) o) h ∙ same o
  other_told (telling.addresses_taken m j seed addresses) o h = ap (λ b. option_map (λ (a : Attempt). record a { address = or_new (cond b (drawn_address rules.private addresses seed) None) a.address }) o) h ∙ same o
  other_told (telling.link_taken m j at) o h = ap (λ b. option_map (λ (a : Attempt). record a { deadline = least_by (cond b (Some (at + rules.handshake_timeout)) None) a.deadline }) o) h ∙ same o
  other_told (telling.attempt_ended m j) o h = ap (λ b. cond b None (nothing_told o)) h ∙ same o
  other_told _ o h = same o

  -- tellings of other things
  pub others_told : (ts : List Telling) (o : Option Attempt) → list_any (of_attempt n k) ts ≡ false → attempt_told ts o ≡ o
  others_told [] o h = refl
  others_told (t ∷ ts) o h =
      ap (attempt_told ts) (other_told t o (or_left (of_attempt n k t) (list_any (of_attempt n k) ts) h)) ∙ others_told ts o (or_right (of_attempt n k t) (list_any (of_attempt n k) ts) h)

  -- ---- where these begin none

  -- it is that of before, until it ends
  pub key_told : (ts : List Telling) (o : Option Attempt) → list_any (is_begun n k) ts ≡ false → key_of (attempt_told ts o) ≡ cond (list_any (ends n k) ts) None (key_of o)
  key_told [] o none = refl
  key_told (t ∷ ts) o none =
      key_told ts (attempt_after t o) (or_right (is_begun n k t) (list_any (is_begun n k) ts) none)
      ∙ (ap (λ x. cond (list_any (ends n k) ts) None x) (one (begun_as n k t) (ends n k t) o (or_left (is_begun n k t) (list_any (is_begun n k) ts) none)) ∙ both (ends n k t) (list_any (ends n k) ts) (key_of o))
    where
      one : (new : Option Begun) (ended : Bool) (o : Option Attempt) → is_some new ≡ false → key_of (begun_or new (cond ended None (option_map (attempt_one t) o))) ≡ cond ended None (key_of o)
      one (Some b) ended o none = cc
      one None true o none = refl
      one None false None none = refl
      one None false (Some a) none = refl

      both : (b c : Bool) (x : Option Key) → cond c None (cond b None x) ≡ cond (b || c) None x
      both true true x = refl
      both true false x = refl
      both false c x = refl

  -- none stands that did not
  pub none_told : (ts : List Telling) → list_any (is_begun n k) ts ≡ false → attempt_told ts None ≡ None
  none_told ts none = by (attempt_told ts None) (key_told ts None none ∙ either (list_any (ends n k) ts))
    where
      either : (b : Bool) → cond b None (key_of None) ≡ None
      either true = refl
      either false = refl

      by : (o : Option Attempt) → key_of o ≡ None → o ≡ None
      by None h = refl
      by (Some a) h = cc

  -- one that stands then stood before, with its key, and with the answer that it had unless these tell it another
  pub record Stood (ts : List Telling) (o : Option Attempt) (a : Attempt) : Type 0 where
    pub before : Attempt
    pub is : o ≡ Some before
    pub key : a.key ≡ before.key
    pub answer : a.answer ≡ last_or before.answer (answers_dial n k) ts

  pub stood_before : (ts : List Telling) (o : Option Attempt) (a : Attempt) → list_any (is_begun n k) ts ≡ false → attempt_told ts o ≡ Some a → Stood ts o a
  stood_before [] o a none is = record { before = a; is = is; key = refl; answer = refl }
  stood_before (t ∷ ts) o a none is =
      go (stood_before ts (attempt_after t o) a (or_right (is_begun n k t) (list_any (is_begun n k) ts) none) is)
    where
      one : (new : Option Begun) (ended : Bool) (o : Option Attempt) (c : Attempt) → is_some new ≡ false → begun_or new (cond ended None (option_map (attempt_one t) o)) ≡ Some c
          → (b : Attempt) × (o ≡ Some b) × (attempt_one t b ≡ c)
      one (Some b) ended o c none is = cc
      one None true o c none is = cc
      one None false None c none is = cc
      one None false (Some b) c none is = (b, refl, same_Some (attempt_one t b) c is)

      go : Stood ts (attempt_after t o) a → Stood (t ∷ ts) o a
      go h =
          let was = one (begun_as n k t) (ends n k t) o h.before (or_left (is_begun n k t) (list_any (is_begun n k) ts) none) h.is in
          record {
            before = was.0;
            is = was.1;
            key = h.key ∙ ap (λ (x : Attempt). x.key) (sym was.2);
            answer = h.answer ∙ ap (λ (x : Attempt). last_or x.answer (answers_dial n k) ts) (sym was.2);
          }

-- ---- after one entry more

-- what an entry makes of an attempt, given those before it
abbrev pub attempts_by : List Config → ℕ → List Entry → Entry → (ℕ → Option Attempt) → ℕ → Option Attempt
attempts_by configs n before e attempts k = attempt_told (dial_rules_at configs n) n k (tells (told before) before e) (attempts k)

pub attempts_of-append : (configs : List Config) (log : List Entry) (e : Entry) (n k : ℕ) → attempts_of configs (log ++ e ∷ []) n k ≡ attempts_by configs n log e (attempts_of configs log n) k
unfolding attempts_of
attempts_of-append configs log e n k =
    ap (attempt_in n k (dial_rules_at configs n)) (told-append log e) ∙ attempt_in-more (dial_rules_at configs n) n k (told log) (tells (told log) log e)

-- the link of an attempt that stands
abbrev pub link_of_attempt : Option Attempt → Option ℕ
link_of_attempt None = None
link_of_attempt (Some a) = a.link

pub link_is : (configs : List Config) (log : List Entry) (n k : ℕ) → link_in (told log) n k ≡ link_of_attempt (attempts_of configs log n k)
unfolding attempts_of
link_is configs log n k = by (last_told (begun_as n k) (told log))
  where
    by : (o : Option (Last Begun)) → opened_since n k o ≡ link_of_attempt (attempt_by_last n k (dial_rules_at configs n) o)
    by None = refl
    by (Some l) = go (list_any (ends n k) l.since)
      where
        go : (b : Bool) → cond b None (last_or None (opens n k) l.since) ≡ link_of_attempt (cond b None (Some (attempt_since n k (dial_rules_at configs n) l.told l.since)))
        go true = refl
        go false = refl
