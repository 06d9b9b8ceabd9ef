-- What is said of a key beside its link, as messages come and go.
use Rattle.std.proofs.Common.{◌≡◌, ℕ, Bool, true, false, cond, List, [], ◌∷◌, ◌++◌, refl, Option, Some, None}
use Rattle.std.specs.Prelude.{◌==◌}
use Rattle.std.specs.BTreeMap.{BTreeMap, get}
use Rattle.std.specs.Ordering.{nat_cmp}
use Rattle.p2p_base.specs.declared.key.Key.{Key}
use Rattle.p2p_flow.specs.Lanes.{Lanes, lane}
use Rattle.p2p_wire.specs.declared.encoded.EncodedData.{EncodedData}
use Rattle.p2p_router.specs.declared.link.Link.{Link}
use Rattle.p2p_net_router.specs.Items.{link_with, frames_in}
use Rattle.p2p_net_router.specs.Sound.{IsOpen, IsSpent, IsUnknown, IsAwaited, IsInTurn}

-- ---- other peers

-- the connection of a key is as well known by these peers as by those
pub record AreSame (peers more : BTreeMap ℕ Key) (key : Key) : Type 0 where
  pub up : (c : ℕ) → get nat_cmp peers c ≡ Some key → get nat_cmp more c ≡ Some key
  pub down : (c : ℕ) → get nat_cmp more c ≡ Some key → get nat_cmp peers c ≡ Some key

unknown_moved : (peers more : BTreeMap ℕ Key) (key : Key) → AreSame peers more key → IsUnknown peers key → IsUnknown more key
unknown_moved peers more key s h = λ c k. h c (s.down c k)

awaited_moved : (peers more : BTreeMap ℕ Key) (key : Key) (said : List (Option ℕ)) → AreSame peers more key → IsAwaited peers key said → IsAwaited more key said
awaited_moved peers more key [] s h = unknown_moved peers more key s h
awaited_moved peers more key (Some c ∷ []) s h = s.up c h
awaited_moved peers more key (Some c ∷ o ∷ said) s h = h
awaited_moved peers more key (None ∷ said) s h = h

pub turn_moved :
    (size : ℕ) (peers more : BTreeMap ℕ Key) (key : Key) (o : Option Link) (said : List (Option ℕ)) → AreSame peers more key
    → IsInTurn size peers key o said → IsInTurn size more key o said
turn_moved size peers more key None said s h = awaited_moved peers more key said s h
turn_moved size peers more key (Some l) [] s h = (h.0, s.up l.conn h.1)
turn_moved size peers more key (Some l) (None ∷ said) s h = (h.0, awaited_moved peers more key said s h.1)
turn_moved size peers more key (Some l) (Some c ∷ said) s h = h

-- ---- a connection is ready

awaited_readied :
    (peers more : BTreeMap ℕ Key) (key : Key) (said : List (Option ℕ)) (conn : ℕ) → IsUnknown peers key → get nat_cmp more conn ≡ Some key
    → IsAwaited peers key said → IsAwaited more key (said ++ Some conn ∷ [])
awaited_readied peers more key [] conn none now h = now
awaited_readied peers more key (Some c ∷ []) conn none now h = absurd (none c h)
awaited_readied peers more key (Some c ∷ o ∷ said) conn none now h = absurd h
awaited_readied peers more key (None ∷ said) conn none now h = absurd h

-- the mailbox is told that the connection of a key is ready of which none was known
pub turn_readied :
    (size : ℕ) (peers more : BTreeMap ℕ Key) (key : Key) (o : Option Link) (said : List (Option ℕ)) (conn : ℕ) → IsUnknown peers key → get nat_cmp more conn ≡ Some key
    → IsInTurn size peers key o said → IsInTurn size more key o (said ++ Some conn ∷ [])
turn_readied size peers more key None said conn none now h = awaited_readied peers more key said conn none now h
turn_readied size peers more key (Some l) [] conn none now h = absurd (none l.conn h.1)
turn_readied size peers more key (Some l) (None ∷ said) conn none now h = (h.0, awaited_readied peers more key said conn none now h.1)
turn_readied size peers more key (Some l) (Some c ∷ said) conn none now h = absurd h

-- of the key of a connection that is routed nothing else is said, and it has no link
pub record IsFirstReady (peers : BTreeMap ℕ Key) (key : Key) (o : Option Link) (conn : ℕ) (rest : List (Option ℕ)) : Type 0 where
  pub unlinked : o ≡ None
  pub last : rest ≡ []
  pub known : get nat_cmp peers conn ≡ Some key

pub first_ready :
    (size : ℕ) (peers : BTreeMap ℕ Key) (key : Key) (o : Option Link) (conn : ℕ) (rest : List (Option ℕ))
    → IsInTurn size peers key o (Some conn ∷ rest) → IsFirstReady peers key o conn rest
first_ready size peers key None conn [] h = record { unlinked = refl; last = refl; known = h }
first_ready size peers key None conn (x ∷ xs) h = absurd h
first_ready size peers key (Some l) conn rest h = absurd h

-- ---- a connection is released

-- of the key of a release that is routed the link is closed, and what is said then is what its next connection says
pub record IsFirstRelease (peers : BTreeMap ℕ Key) (key : Key) (o : Option Link) (rest : List (Option ℕ)) : Type 0 where
  pub link : Link
  pub linked : o ≡ Some link
  pub spent : IsSpent link.relay
  pub awaited : IsAwaited peers key rest

pub first_release :
    (size : ℕ) (peers : BTreeMap ℕ Key) (key : Key) (o : Option Link) (rest : List (Option ℕ))
    → IsInTurn size peers key o (None ∷ rest) → IsFirstRelease peers key o rest
first_release size peers key None rest h = absurd h
first_release size peers key (Some l) rest h = record { link = l; linked = refl; spent = h.0; awaited = h.1 }

-- ---- the frames of a link

pub spent_lane : (l : Lanes EncodedData) (b : Bool) → IsSpent l → (lane l b).items ≡ []
spent_lane l true h = h.high_empty
spent_lane l false h = h.low_empty

pub empty_link : (l : Link) (b : Bool) (conn : ℕ) → (lane l.relay b).items ≡ [] → frames_in b (link_with conn (Some l)) ≡ []
empty_link l b conn h = elim (l.conn == conn) as (λ t. frames_in b (cond t (Some l) None) ≡ []) [ true ↦ h | false ↦ refl ]

-- a key of which no connection is known has no frames
pub unknown_frames :
    (size : ℕ) (peers : BTreeMap ℕ Key) (key : Key) (o : Option Link) (said : List (Option ℕ)) (b : Bool) (conn : ℕ)
    → IsUnknown peers key → IsInTurn size peers key o said → frames_in b (link_with conn o) ≡ []
unknown_frames size peers key None said b conn none h = refl
unknown_frames size peers key (Some l) [] b conn none h = absurd (none l.conn h.1)
unknown_frames size peers key (Some l) (None ∷ said) b conn none h = empty_link l b conn (spent_lane l.relay b h.0)
unknown_frames size peers key (Some l) (Some c ∷ said) b conn none h = absurd h

-- ---- the state of a link

-- a link is open and its connection known, and nothing is said; or its relay is closed
pub data IsLinked (size : ℕ) (peers : BTreeMap ℕ Key) (key : Key) (l : Link) (said : List (Option ℕ)) : Type 0 where
  open_link : IsOpen size l.relay → get nat_cmp peers l.conn ≡ Some key → said ≡ [] → IsLinked size peers key l said
  spent_link : IsSpent l.relay → IsLinked size peers key l said

pub linked_as :
    (size : ℕ) (peers : BTreeMap ℕ Key) (key : Key) (l : Link) (said : List (Option ℕ)) → IsInTurn size peers key (Some l) said → IsLinked size peers key l said
linked_as size peers key l [] h = open_link h.0 h.1 refl
linked_as size peers key l (None ∷ said) h = spent_link h.0
linked_as size peers key l (Some c ∷ said) h = absurd h
