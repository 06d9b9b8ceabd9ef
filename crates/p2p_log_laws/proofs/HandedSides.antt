-- Over a link that is handed on with a reservation, who dialed: of an attempt its node, and of a handshake another.
use Rattle.std.proofs.Common.{◌≡◌, ℕ, ◌+◌, Bool, true, false, cond, List, [], ◌∷◌, Some, refl, ap, sym, subst, ◌∙◌, arith, eq-eqb, eqb-true}
use Rattle.std.specs.Prelude.{◌==◌, ◌&&◌, filter, sum_by}
use Rattle.std.proofs.lemmas.Bool.{false≢true}
use Rattle.std.proofs.lemmas.Option.{same_Some}
use Rattle.p2p_base.specs.declared.key.Key.{Key}
use Rattle.p2p_tracker_calls.specs.Blocks.{is_local}
use Rattle.p2p_tracker_calls.specs.Grants as calls
use Rattle.p2p_log.specs.declared.config.Config.{Config}
use Rattle.p2p_log.specs.declared.queue.Queue.TheVariants as queue
use Rattle.p2p_log.specs.declared.item.Item.TheVariants as item
use Rattle.p2p_log.specs.declared.item.Envelope.{Envelope}
use Rattle.p2p_log.specs.declared.entry.Entry.{Entry}
use Rattle.p2p_log.specs.declared.event.Event.{Event}
use Rattle.p2p_log.specs.Lines.{name_of, stays, live, line}
use Rattle.p2p_log.proofs.Names.{AreApart-live_from}
use Rattle.p2p_log.proofs.Taken.{sum_by-first}
use Rattle.p2p_log_rules.specs.Attempting.{Attempt, attempts_of}
use Rattle.p2p_log_rules.specs.Dialed.{dialer_of}
use Rattle.p2p_log_rules.specs.Facts.{key_at}
use Rattle.p2p_log_rules.specs.Handshakes.{Handshake, handshake_at, is_handshaking}
use Rattle.p2p_log_rules.specs.Lawful.{IsLawful}
use Rattle.p2p_log_rules.specs.Tracking.{key_cmp, rules_at, calls_of}
use Rattle.p2p_log_rules.proofs.Moves.{one_taken}
use Rattle.p2p_log_laws.specs.Grants.{one, is_held, is_stopped}
use Rattle.p2p_log_laws.specs.NodeGrants.{put_of, holds_grants, grants_key, puts_grant, beginners_of, granting}
use Rattle.p2p_log_laws.proofs.ConnectionPeers.{AreLed, are_led}
use Rattle.p2p_log_laws.proofs.EndOlder.{own_key}
use Rattle.p2p_log_laws.proofs.Halves.{links_dialer}
use Rattle.p2p_log_laws.proofs.HeldPeers.{held_is_others}
use Rattle.p2p_log_laws.proofs.NodeGrants.{each_node_turn, held_by_calls}
use Rattle.p2p_log_laws.proofs.Saying.{ComesFrom, IsPeer, IsLinkedTo, IsDialed, Says, first_says}
use Rattle.p2p_log_laws.proofs.Turns.{one_holder}

-- the node of an attempt that is told that keys were exchanged dialed its link
abbrev pub AttemptDialed : List Config → List Entry → ℕ → ℕ → Type 0
AttemptDialed configs log n k =
    (a : Attempt) (link : ℕ) (z : Envelope) (zs : List Envelope) → attempts_of configs log n k ≡ Some a → a.answer ≡ Some link → line log (queue.Attempt n k) ≡ z ∷ zs → z.item ≡ item.Finished true
    → dialer_of log link ≡ Some n

-- another node dialed the link of a handshake that is told that its peer is reserved
abbrev pub HandshakeDialed : List Entry → ℕ → ℕ → Type 0
HandshakeDialed log n h =
    (s : Handshake) (key : Key) (z : Envelope) (zs : List Envelope) → is_handshaking log n h ≡ true → handshake_at log h ≡ Some s
    → line log (queue.Handshake n h) ≡ z ∷ zs → z.item ≡ item.Listen (Some key) → (m : ℕ) × (dialer_of log s.link ≡ Some m) × ((m == n) ≡ false)

module _ (configs : List Config) (script : List Event) (log : List Entry) (lawful : IsLawful configs script log) (n : ℕ) where
  led : AreLed configs log
  led = are_led configs script log lawful

  pub attempt_dialed : (k : ℕ) → AttemptDialed configs log n k
  attempt_dialed k a link z zs stands answered first is =
      let says : IsDialed configs log n k = subst (Says configs log (queue.Attempt n k)) is (first_says configs log (queue.Attempt n k) z zs led.say first) in
      let to : IsLinkedTo configs log n a = says.1 a stands in
      ap (dialer_of log) (same_Some link to.link (sym answered ∙ to.answer)) ∙ links_dialer log to.link n to.to to.links

  -- ---- a grant that waits for a handshake

  module _ (h : ℕ) (key : Key) (x : Envelope) (rest : List Envelope) (first : line log (queue.Handshake n h) ≡ x ∷ rest) (is : x.item ≡ item.Listen (Some key)) where
    abbrev weight : Envelope → ℕ
    weight y = cond (puts_grant n key (put_of y)) 1 0

    abbrev others : ℕ
    others = sum_by weight (filter (stays (name_of x ∷ [])) (live log))

    grant_waits : (granting configs n key).holders log ≡ (1 + others) + beginners_of n key configs log
    unfolding line
    grant_waits =
        let stood : x.queue ≡ queue.Handshake n h = one_taken log (queue.Handshake n h) x rest first in
        let here : puts_grant n key (put_of x) ≡ true =
        ap (λ q. holds_grants n q && grants_key key x.item) stood
        ∙ (ap (λ b. b && grants_key key x.item) (eq-eqb n n refl) ∙ (ap (grants_key key) is ∙ eq-eqb key.0 key.0 refl))
        in
        ap (λ k. k + beginners_of n key configs log)
        (sum_by-first weight (live log) (queue.Handshake n h) x rest (AreApart-live_from 0 log) first ∙ ap (λ b. cond b 1 0 + others) here)

    held_by_turns : (holders left beginners waiting : ℕ) (stopped held : Bool) → holders ≡ (1 + left) + beginners → holders + waiting ≡ cond stopped 0 (one held) → held ≡ true
    held_by_turns holders left beginners waiting true held some sum = absurd (omega (arith, some, sum))
    held_by_turns holders left beginners waiting false true some sum = refl
    held_by_turns holders left beginners waiting false false some sum = absurd (omega (arith, some, sum))

    -- holds its key
    grant_is_held : calls.is_held key_cmp (calls_of configs log n) key ≡ true
    grant_is_held =
        sym (held_by_calls configs script log lawful n key)
        ∙ held_by_turns ((granting configs n key).holders log) others (beginners_of n key configs log) ((granting configs n key).waiting log)
        (is_stopped (granting configs n key) log) (is_held (granting configs n key) log) grant_waits (one_holder (granting configs n key) log (each_node_turn configs script log lawful n key))

    -- which is not the node's own
    not_own : key ≡ key_at configs n → ⊥
    not_own own =
        false≢true
        (sym (held_is_others configs script log lawful n key grant_is_held)
        ∙ (ap (λ (k : Key). is_local key_cmp (rules_at configs n) k) own ∙ own_key configs n))

  pub handshake_dialed : (h : ℕ) → HandshakeDialed log n h
  handshake_dialed h s key z zs runs began first is =
      let says : IsPeer log h key = subst (Says configs log (queue.Handshake n h)) is (first_says configs log (queue.Handshake n h) z zs led.say first) in
      let from : ComesFrom configs log n s.key s.link = led.come n h s runs began in
      let peer : key ≡ s.key = sym says.2 ∙ ap (λ (p : Handshake). p.key) (same_Some says.0 s (sym says.1 ∙ began)) in
      (from.0, links_dialer log s.link from.0 n from.1, by from.0 (from.0 == n) refl (peer ∙ from.2))
    where
      by : (m : ℕ) (b : Bool) → (m == n) ≡ b → key ≡ key_at configs m → b ≡ false
      by m false is_other own = refl
      by m true same own = absurd (not_own h key z zs first is (own ∙ ap (key_at configs) (eqb-true m n same)))
