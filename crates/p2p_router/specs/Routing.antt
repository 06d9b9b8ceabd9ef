-- What becomes of content: one copy for each recipient, in order.
use Rattle.std.specs.Prelude.{ℕ, Bool, List, [], ◌∷◌, Option, Some, None}
use Rattle.std.specs.declared.cmp.Ordering.{Ordering}
use Rattle.std.specs.BTreeMap.{is_at}
use Rattle.std.specs.Map.{keys_of, lookup, set_value}
use Rattle.p2p_base.specs.declared.outcome.Sent.{Sent}
use Rattle.p2p_base.specs.declared.outcome.Sent.TheVariants as sent
use Rattle.p2p_wire.specs.declared.encoded.EncodedData.{EncodedData}
use Rattle.p2p_flow.specs.Lanes.{Lanes, send_answer, sent_on}
use Rattle.p2p_flow.specs.declared.plain.Recipients.{Recipients}
use Rattle.p2p_flow.specs.declared.plain.Recipients.TheVariants as to
use Rattle.p2p_router.specs.declared.link.Link.{Link}
use Rattle.p2p_router.specs.declared.stepped.Routed.{Routed}
use Rattle.p2p_router.specs.declared.stepped.Routed.TheVariants as routed

-- the relay of a link
abbrev pub relay_over : Option Link → Option (Lanes EncodedData)
relay_over None = None
relay_over (Some l) = Some l.relay

module _ {P : Type 0} where
  -- what a relay's answer says of a copy
  abbrev pub routed_as : Sent EncodedData → P → ℕ → Bool → Routed P
  routed_as sent.Ok peer conn priority = routed.Put peer conn priority
  routed_as sent.Backoff peer conn priority = routed.Put peer conn priority
  routed_as (sent.Rejected message) peer conn priority = routed.RelayFull peer conn
  routed_as (sent.Closed message) peer conn priority = routed.Closed peer conn

  -- where the copy for a peer with this link goes
  abbrev pub routed_over : Option Link → P → EncodedData → Bool → Routed P
  routed_over None peer encoded priority = routed.NoConnection peer
  routed_over (Some l) peer encoded priority = routed_as (send_answer l.relay encoded priority) peer l.conn priority

  module _ (cmp : P → P → Ordering) where
    abbrev pub link_of : List (P × Link) → P → Option Link
    link_of links peer = lookup (is_at (cmp peer)) links

    abbrev pub with_link : List (P × Link) → P → Link → List (P × Link)
    with_link links peer l = set_value (is_at (cmp peer)) links l

  module _ (cmp : P → P → Ordering) where
    -- the relay of a peer's connection
    abbrev pub relay_of : List (P × Link) → P → Option (Lanes EncodedData)
    relay_of links peer = relay_over (link_of cmp links peer)

    abbrev pub relay_set : Option Link → List (P × Link) → P → Lanes EncodedData → List (P × Link)
    relay_set None links peer relay = links
    relay_set (Some l) links peer relay = with_link cmp links peer (record { conn = l.conn; relay = relay })

    -- with another relay for a peer's connection
    abbrev pub with_relay : List (P × Link) → P → Lanes EncodedData → List (P × Link)
    with_relay links peer relay = relay_set (link_of cmp links peer) links peer relay

  module _ (cmp : P → P → Ordering) where
    abbrev pub put_over : Option Link → List (P × Link) → P → EncodedData → Bool → List (P × Link)
    put_over None links peer encoded priority = links
    put_over (Some l) links peer encoded priority =
        with_link cmp links peer (record { conn = l.conn; relay = sent_on l.relay encoded priority })

    -- where the copy for a peer goes
    abbrev pub copy_routed : List (P × Link) → EncodedData → Bool → P → Routed P
    copy_routed links encoded priority peer = routed_over (link_of cmp links peer) peer encoded priority

    -- the links after the copy for a peer
    abbrev pub copy_put : List (P × Link) → EncodedData → Bool → P → List (P × Link)
    copy_put links encoded priority peer = put_over (link_of cmp links peer) links peer encoded priority

  module _ (cmp : P → P → Ordering) where
    -- where the copies for these peers go, each after the ones before it
    unfoldable pub copies : List (P × Link) → EncodedData → Bool → List P → List (Routed P)
    copies links encoded priority [] = []
    copies links encoded priority (peer ∷ peers) =
        copy_routed cmp links encoded priority peer
        ∷ copies (copy_put cmp links encoded priority peer) encoded priority peers

    -- the links after the copies for these peers
    unfoldable pub copies_put : List (P × Link) → EncodedData → Bool → List P → List (P × Link)
    copies_put links encoded priority [] = links
    copies_put links encoded priority (peer ∷ peers) =
        copies_put (copy_put cmp links encoded priority peer) encoded priority peers

  -- the recipients, in order: for all peers those with a link
  abbrev pub addressed : List (P × Link) → Recipients P → List P
  addressed links to.All = keys_of links
  addressed links (to.Some peers) = peers
  addressed links (to.One peer) = peer ∷ []
