-- What a value of the router ends as, where it lends a part of itself.
use Rattle.std.specs.Prelude.{◌≡◌, ℕ, Option, OnSome}
use Rattle.std.specs.Borrow.{Lends, LendsIf, LendsSo, Fml, RattleType, MutBor}
use Rattle.std.specs.BTreeMap.Lent.{OrdMembers}
use Rattle.p2p_flow.specs.Lanes.{Lanes}
use Rattle.p2p_flow.specs.contracts.relay.Relay as relay
use Rattle.p2p_wire.specs.declared.encoded.EncodedData.{EncodedData}
use Rattle.p2p_wire.specs.contracts.encoded.EncodedData as encoded
use Rattle.p2p_router.specs.Connections.{with_relay_at}
use Rattle.p2p_router.specs.Messenger.{Desk}
use Rattle.p2p_router.specs.Routes.{Routes}
use Rattle.p2p_router.specs.Routing.{with_relay}
use Rattle.p2p_router.specs.declared.link.Link.{Link}
use Rattle.p2p_router.specs.declared.mailbox.Mailbox.{Mailbox}
use Rattle.p2p_router.specs.declared.messenger.Binding.{Binding}
use Rattle.p2p_router.specs.declared.messenger.Binding.TheVariants.{Bound}
use Rattle.p2p_router.specs.contracts.actor.Actor as actor
use Rattle.p2p_router.specs.contracts.link.Link as link
use Rattle.p2p_router.specs.contracts.mailbox.Mailbox as mailbox
use Rattle.p2p_router.specs.contracts.messenger.Binding as binding
use Rattle.p2p_router.specs.contracts.messenger.Messenger as messenger

-- once the borrow ends, the link has the relay that was left behind it
abbrev pub lends_relay : MutBor Link → MutBor (Lanes EncodedData) → Fml
lends_relay l r = Lends link.the_row (relay.the_row encoded.the_row) l r (λ w. record l.now { relay = w })

module _ (P : RattleType) where
  -- once the borrow ends, it is bound to the mailbox that was left behind it
  abbrev pub lends_bound : MutBor (Binding P.Denot) → Option (MutBor (Mailbox P.Denot)) → Fml
  lends_bound b r = LendsIf (binding.the_row P) (mailbox.the_row P) b r Bound b.now

  -- once the borrow ends, the messenger has the mailbox that was left behind it
  abbrev pub lends_mailbox : MutBor (Desk P.Denot) → Option (MutBor (Mailbox P.Denot)) → Fml
  lends_mailbox m r = LendsIf (messenger.the_row P) (mailbox.the_row P) m r
      (λ w. record m.now { binding = Bound w }) m.now

  -- once the borrow ends, the peer's connection has the relay that was left behind it, and without one nothing has changed
  abbrev pub lends_relay_of : OrdMembers P.Denot → MutBor (Routes P.Denot) → P.Denot →
      Option (MutBor (Lanes EncodedData)) → Fml
  lends_relay_of g a peer r = LendsSo (actor.the_row P (record { cmp = g.cmp }) (record { eq = g.eq })
      (record { partial_cmp = g.partial_cmp })) (relay.the_row encoded.the_row) a r
      (λ n w. OnSome r (n ≡ record a.now { links = with_relay g.cmp a.now.links peer w })) (λ n. n ≡ a.now)

  -- once the borrow ends, the connection has the relay that was left behind it, and without one nothing has changed
  abbrev pub lends_relay_at : OrdMembers P.Denot → MutBor (Routes P.Denot) → ℕ →
      Option (MutBor (Lanes EncodedData)) → Fml
  lends_relay_at g a conn r = LendsSo (actor.the_row P (record { cmp = g.cmp }) (record { eq = g.eq })
      (record { partial_cmp = g.partial_cmp })) (relay.the_row encoded.the_row) a r
      (λ n w. OnSome r (n ≡ with_relay_at g.cmp a.now conn w)) (λ n. n ≡ a.now)
