use Rattle.std.proofs.Common.{◌≡◌, Some, None, sym, subst, ◌∙◌}
use Rattle.std.specs.Prelude.{filter}
use Rattle.std.specs.BTreeMap.{get}
use Rattle.std.specs.Ordering.{nat_cmp}
use Rattle.p2p_base.specs.declared.key.Key.{Key}
use Rattle.p2p_router.specs.Messenger.{Desk, list_waiting}
use Rattle.p2p_log.specs.Lines.{stays}
use Rattle.p2p_log_rules.specs.Effect.{mailbox_size_at}
use Rattle.p2p_net_router.specs.Peers.{names_taken}
use Rattle.p2p_net_router.specs.Resting.{IsListing}
use Rattle.p2p_net_router.specs.Stands.{StandsOver}
use Rattle.p2p_net_router.proofs.Listed.{popped, list_unknown, list_none, list_some, list_named, listed_over}
use Rattle.p2p_net_router.proofs.Resting.{listing_of}
use Rattle.p2p_net_router.proofs.router.Router.take_list.Goals as goal

pub returns-in_default-clause-name : goal.returns-in_default-clause-name
returns-in_default-clause-name c =
    λ configs log items s.
    let r = c.args.self.now in
    let absent : get nat_cmp r.subscriptions c.args.channel ≡ None = sym c.get.ensures.value ∙ (sym c.copied.ensures ∙ c.in_default.is) in
    let t = list_unknown r c.args.channel absent in
    t.name items (listing_of (mailbox_size_at configs r.number) r items s.holds)

pub returns-in_default-clause-named : goal.returns-in_default-clause-named
returns-in_default-clause-named c =
    λ items h.
    let r = c.args.self.now in
    let absent : get nat_cmp r.subscriptions c.args.channel ≡ None = sym c.get.ensures.value ∙ (sym c.copied.ensures ∙ c.in_default.is) in
    let t = list_unknown r c.args.channel absent in
    t.name items h

pub returns-in_default-clause-stands : goal.returns-in_default-clause-stands
returns-in_default-clause-stands c =
    λ configs log items s apart.
    let r = c.args.self.now in
    let absent : get nat_cmp r.subscriptions c.args.channel ≡ None = sym c.get.ensures.value ∙ (sym c.copied.ensures ∙ c.in_default.is) in
    let t = list_unknown r c.args.channel absent in
    listed_over configs log r items c.args.channel None r.messenger.lists r.names s apart t

pub returns-in_default-clause-listing : goal.returns-in_default-clause-listing
returns-in_default-clause-listing c =
    λ items h apart.
    let r = c.args.self.now in
    let absent : get nat_cmp r.subscriptions c.args.channel ≡ None = sym c.get.ensures.value ∙ (sym c.copied.ensures ∙ c.in_default.is) in
    let t = list_unknown r c.args.channel absent in
    t.listing items h apart

pub returns-in_default-take_list-clause-name : goal.returns-in_default-take_list-clause-name
returns-in_default-take_list-clause-name c =
    λ configs log items s.
    let r = c.args.self.now in
    let at : get nat_cmp r.subscriptions c.args.channel ≡ Some c.in-Some.number = sym c.get.ensures.value ∙ (sym c.copied.ensures ∙ c.in-Some.is) in
    let idle : list_waiting r.messenger c.in-Some.number ≡ None = sym c.take_list.ensures.value ∙ c.in_default-take_list.is in
    let t = list_none r c.args.channel c.in-Some.number at idle in
    t.name items (listing_of (mailbox_size_at configs r.number) r items s.holds)

pub returns-in_default-take_list-clause-named : goal.returns-in_default-take_list-clause-named
returns-in_default-take_list-clause-named c =
    λ items h.
    let r = c.args.self.now in
    let at : get nat_cmp r.subscriptions c.args.channel ≡ Some c.in-Some.number = sym c.get.ensures.value ∙ (sym c.copied.ensures ∙ c.in-Some.is) in
    let idle : list_waiting r.messenger c.in-Some.number ≡ None = sym c.take_list.ensures.value ∙ c.in_default-take_list.is in
    let t = list_none r c.args.channel c.in-Some.number at idle in
    t.name items h

pub returns-in_default-take_list-clause-stands : goal.returns-in_default-take_list-clause-stands
returns-in_default-take_list-clause-stands c =
    λ configs log items s apart.
    let r = c.args.self.now in
    let at : get nat_cmp r.subscriptions c.args.channel ≡ Some c.in-Some.number = sym c.get.ensures.value ∙ (sym c.copied.ensures ∙ c.in-Some.is) in
    let idle : list_waiting r.messenger c.in-Some.number ≡ None = sym c.take_list.ensures.value ∙ c.in_default-take_list.is in
    let t = list_none r c.args.channel c.in-Some.number at idle in
    subst (λ (d : Desk Key). StandsOver configs log (record r { messenger = d }) (filter (stays (names_taken None)) items)) (sym c.take_list.ensures.after)
    (listed_over configs log r items c.args.channel None (popped r.messenger.lists c.in-Some.number) r.names s apart t)

pub returns-in_default-take_list-clause-listing : goal.returns-in_default-take_list-clause-listing
returns-in_default-take_list-clause-listing c =
    λ items h apart.
    let r = c.args.self.now in
    let at : get nat_cmp r.subscriptions c.args.channel ≡ Some c.in-Some.number = sym c.get.ensures.value ∙ (sym c.copied.ensures ∙ c.in-Some.is) in
    let idle : list_waiting r.messenger c.in-Some.number ≡ None = sym c.take_list.ensures.value ∙ c.in_default-take_list.is in
    let t = list_none r c.args.channel c.in-Some.number at idle in
    subst (λ (d : Desk Key). IsListing (record r { messenger = d }) (filter (stays (names_taken None)) items)) (sym c.take_list.ensures.after) (t.listing items h apart)

pub returns-in_default-pop-clause-stands : goal.returns-in_default-pop-clause-stands
returns-in_default-pop-clause-stands c =
    λ configs log items s apart.
    let r = c.args.self.now in
    let at : get nat_cmp r.subscriptions c.args.channel ≡ Some c.in-Some.number = sym c.get.ensures.value ∙ (sym c.copied.ensures ∙ c.in-Some.is) in
    let waits : list_waiting r.messenger c.in-Some.number ≡ Some c.in-Some-take_list._list = sym c.take_list.ensures.value ∙ c.in-Some-take_list.is in
    absurd (list_named r c.args.channel c.in-Some.number c.in-Some-take_list._list items (listing_of (mailbox_size_at configs r.number) r items s.holds) at waits (sym c.in_default-pop.is ∙ c.pop.ensures.first))

pub returns-in_default-pop-clause-listing : goal.returns-in_default-pop-clause-listing
returns-in_default-pop-clause-listing c =
    λ items h apart.
    let r = c.args.self.now in
    let at : get nat_cmp r.subscriptions c.args.channel ≡ Some c.in-Some.number = sym c.get.ensures.value ∙ (sym c.copied.ensures ∙ c.in-Some.is) in
    let waits : list_waiting r.messenger c.in-Some.number ≡ Some c.in-Some-take_list._list = sym c.take_list.ensures.value ∙ c.in-Some-take_list.is in
    absurd (list_named r c.args.channel c.in-Some.number c.in-Some-take_list._list items h at waits (sym c.in_default-pop.is ∙ c.pop.ensures.first))

pub returns-clause-stands : goal.returns-clause-stands
returns-clause-stands c =
    λ configs log items s apart.
    let r = c.args.self.now in
    let at : get nat_cmp r.subscriptions c.args.channel ≡ Some c.in-Some.number = sym c.get.ensures.value ∙ (sym c.copied.ensures ∙ c.in-Some.is) in
    let waits : list_waiting r.messenger c.in-Some.number ≡ Some c.in-Some-take_list._list = sym c.take_list.ensures.value ∙ c.in-Some-take_list.is in
    let name = c.in-Some-pop.name in
    let t = list_some r c.args.channel c.in-Some.number c.in-Some-take_list._list name c.pop.new.self at waits (sym c.in-Some-pop.is ∙ c.pop.ensures.first) c.pop.ensures.rest in
    subst (λ (d : Desk Key). StandsOver configs log (record r { messenger = d; names = c.pop.new.self }) (filter (stays (names_taken (Some (name.entry, name.place)))) items)) (sym c.take_list.ensures.after)
    (listed_over configs log r items c.args.channel (Some (name.entry, name.place)) (popped r.messenger.lists c.in-Some.number) c.pop.new.self s apart t)

pub returns-clause-listing : goal.returns-clause-listing
returns-clause-listing c =
    λ items h apart.
    let r = c.args.self.now in
    let at : get nat_cmp r.subscriptions c.args.channel ≡ Some c.in-Some.number = sym c.get.ensures.value ∙ (sym c.copied.ensures ∙ c.in-Some.is) in
    let waits : list_waiting r.messenger c.in-Some.number ≡ Some c.in-Some-take_list._list = sym c.take_list.ensures.value ∙ c.in-Some-take_list.is in
    let name = c.in-Some-pop.name in
    let t = list_some r c.args.channel c.in-Some.number c.in-Some-take_list._list name c.pop.new.self at waits (sym c.in-Some-pop.is ∙ c.pop.ensures.first) c.pop.ensures.rest in
    subst (λ (d : Desk Key). IsListing (record r { messenger = d; names = c.pop.new.self }) (filter (stays (names_taken (Some (name.entry, name.place)))) items)) (sym c.take_list.ensures.after) (t.listing items h apart)
