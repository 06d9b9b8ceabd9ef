-- What the items in queues say of links is true: to whom each leads that is on its way to be a connection.
use Rattle.std.proofs.Common.{◌≡◌, ℕ, suc, ◌≤◌, true, List, [], ◌∷◌, ◌++◌, length, Some, subst, ◌∙◌, arith, length-append}
use Rattle.p2p_base.specs.declared.key.Key.{Key}
use Rattle.p2p_log.specs.declared.config.Config.{Config}
use Rattle.p2p_log.specs.declared.queue.Queue.{Queue}
use Rattle.p2p_log.specs.declared.queue.Queue.TheVariants as queue
use Rattle.p2p_log.specs.declared.item.Item.{Item}
use Rattle.p2p_log.specs.declared.item.Item.TheVariants as item
use Rattle.p2p_log.specs.declared.item.Envelope.{Envelope}
use Rattle.p2p_log.specs.declared.entry.Entry.{Entry}
use Rattle.p2p_log.specs.declared.event.Event.{Event}
use Rattle.p2p_log.specs.Lines.{live, line}
use Rattle.p2p_log_rules.specs.declared.row.Opening.{Opening}
use Rattle.p2p_log_rules.specs.Attempting.{Attempt, attempts_of}
use Rattle.p2p_log_rules.specs.Effect.{effect}
use Rattle.p2p_log_rules.specs.Facts.{key_at}
use Rattle.p2p_log_rules.specs.Handshakes.{Handshake, handshake_at, is_handshaking}
use Rattle.p2p_log_rules.specs.Links.{openings_of}
use Rattle.p2p_log_rules.proofs.Moves.{one_taken, first_has}
use Rattle.p2p_log_rules.proofs.HandshakeBegun.{handshake_at-longer}
use Rattle.p2p_log_laws.specs.Leading.{Links, LeadsTo}
use Rattle.p2p_log_laws.proofs.GoingOn.{GoesOn, goes_on}
use Rattle.p2p_log_laws.proofs.Linking.{Links-longer, LeadsTo-longer}
use Rattle.std.specs.List.{AllByRecursion as Each}

-- the key is that of the node that dialed this one, which linked them
abbrev pub ComesFrom : List Config → List Entry → ℕ → Key → ℕ → Type 0
ComesFrom configs log n key link = (m : ℕ) × Links log link m n × (key ≡ key_at configs m)

-- the key is that of the peer with which the handshake of this name began
abbrev pub IsPeer : List Entry → ℕ → Key → Type 0
IsPeer log h key = (s : Handshake) × (handshake_at log h ≡ Some s) × (s.key ≡ key)

-- the attempt was linked to the node that has its key
pub record IsLinkedTo (configs : List Config) (log : List Entry) (n : ℕ) (a : Attempt) : Type 0 where
  pub link : ℕ
  pub to : ℕ
  pub answer : a.answer ≡ Some link
  pub links : Links log link n to
  pub key : a.key ≡ key_at configs to

-- so it is with the attempt of an earlier name, while it stands
abbrev pub IsDialed : List Config → List Entry → ℕ → ℕ → Type 0
IsDialed configs log n e = (suc e ≤ length log) × ((a : Attempt) → attempts_of configs log n e ≡ Some a → IsLinkedTo configs log n a)

-- what is true of an item in its queue
abbrev pub Says : List Config → List Entry → Queue → Item → Type 0
Says configs log (queue.Arrivals n) (item.Arrival from key link) = ComesFrom configs log n key link
Says configs log (queue.Tracker n) (item.AskListen h key) = IsPeer log h key
Says configs log (queue.Handshake n h) (item.Listen (Some key)) = IsPeer log h key
Says configs log (queue.Attempt n e) (item.Finished true) = IsDialed configs log n e
Says configs log (queue.Spawner n) (item.Spawn key link) = LeadsTo configs log n key link
Says configs log _ _ = Unit {0}

abbrev pub PutSays : List Config → List Entry → Queue × Item → Type 0
PutSays configs log x = Says configs log x.0 x.1

abbrev pub StandSays : List Config → List Entry → Envelope → Type 0
StandSays configs log x = Says configs log x.queue x.item

-- what the first of a line says
pub first_says : (configs : List Config) (log : List Entry) (q : Queue) (x : Envelope) (rest : List Envelope) → Each (StandSays configs log) (live log) → line log q ≡ x ∷ rest
    → Says configs log q x.item
first_says configs log q x rest say first =
    subst (λ p. Says configs log p x.item) (one_taken log q x rest first) (first_has (StandSays configs log) log q x rest say first)

-- ---- what is known of links beside

-- the peer of each handshake that runs dialed its node
abbrev pub PeersCome : List Config → List Entry → Type 0
PeersCome configs log = (n h : ℕ) (s : Handshake) → is_handshaking log n h ≡ true → handshake_at log h ≡ Some s → ComesFrom configs log n s.key s.link

-- a link over which keys are exchanged was made by this dial, of an attempt of an earlier name, which it answered
pub record IsOpened (configs : List Config) (log : List Entry) (link : ℕ) (o : Opening) : Type 0 where
  pub links : Links log link o.node o.to
  pub early : suc o.attempt ≤ length log
  pub answered : (a : Attempt) → attempts_of configs log o.node o.attempt ≡ Some a → a.answer ≡ Some link

abbrev pub AreOpened : List Config → List Entry → Type 0
AreOpened configs log = (link : ℕ) (o : Opening) → openings_of log link ≡ Some o → IsOpened configs log link o

-- ---- one more entry

module _ (configs : List Config) (log : List Entry) (ev : Event) where
  abbrev e : Entry
  e = effect configs log ev

  abbrev longer : List Entry
  longer = log ++ e ∷ []

  pub early_still : (k : ℕ) → suc k ≤ length log → suc k ≤ length longer
  early_still k early = let l = length-append log (e ∷ []) in omega (arith, early, l)

  pub comes_still : (n : ℕ) (key : Key) (link : ℕ) → ComesFrom configs log n key link → ComesFrom configs longer n key link
  comes_still n key link h = (h.0, Links-longer log (e ∷ []) link h.0 n h.1, h.2)

  peer_still : (h : ℕ) (key : Key) → IsPeer log h key → IsPeer longer h key
  peer_still h key is = (is.0, handshake_at-longer log (e ∷ []) h is.0 is.1, is.2)

  linked_still : (n : ℕ) (a b : Attempt) → a.key ≡ b.key → ((link : ℕ) → b.answer ≡ Some link → a.answer ≡ Some link) → IsLinkedTo configs log n b → IsLinkedTo configs longer n a
  linked_still n a b key answer h = record { link = h.link; to = h.to; answer = answer h.link h.answer; links = Links-longer log (e ∷ []) h.link n h.to h.links; key = key ∙ h.key }

  dialed_still : (n k : ℕ) → IsDialed configs log n k → IsDialed configs longer n k
  dialed_still n k is = (
    early_still k is.0,
    λ a stands.
        let on : GoesOn (attempts_of configs log n k) a = goes_on configs log ev n k is.0 a stands in
        linked_still n a on.before on.key on.answer (is.1 on.before on.stood),
  )

  pub says_still : (q : Queue) (i : Item) → Says configs log q i → Says configs longer q i
  says_still (queue.Arrivals n) (item.Arrival from key link) h = comes_still n key link h
  says_still (queue.Tracker n) (item.AskListen k key) h = peer_still k key h
  says_still (queue.Handshake n k) (item.Listen (Some key)) h = peer_still k key h
  says_still (queue.Attempt n k) (item.Finished true) h = dialed_still n k h
  says_still (queue.Spawner n) (item.Spawn key link) h = LeadsTo-longer configs log (e ∷ []) n key link h
  says_still _ _ h = tt

  pub opened_still : (link : ℕ) (o : Opening) → IsOpened configs log link o → IsOpened configs longer link o
  opened_still link o h = record {
    links = Links-longer log (e ∷ []) link o.node o.to h.links;
    early = early_still o.attempt h.early;
    answered = λ a stands.
        let on : GoesOn (attempts_of configs log o.node o.attempt) a = goes_on configs log ev o.node o.attempt h.early a stands in
        on.answer link (h.answered on.before on.stood);
  }
