-- What a running router keeps as it is emptied and closed, and a closed one as the log goes on.
use Rattle.std.proofs.Common.{◌≡◌, ℕ, false, List, [], ◌∷◌, ◌++◌, length, ap, sym, subst, ◌∙◌}
use Rattle.std.specs.Prelude.{filter, flat_map, map}
use Rattle.std.specs.List.{AllByRecursion}
use Rattle.p2p_wire.specs.declared.encoded.EncodedData.{EncodedData}
use Rattle.p2p_router.specs.Messenger.{is_bound}
use Rattle.p2p_log.specs.declared.config.Config.{Config}
use Rattle.p2p_log.specs.declared.entry.Entry.{Entry}
use Rattle.p2p_log.specs.declared.queue.Queue.TheVariants as queue
use Rattle.p2p_log.specs.declared.item.Item.{Item}
use Rattle.p2p_log.specs.declared.item.Envelope.{Envelope}
use Rattle.p2p_log.specs.Lines.{line, live, stands_in, stays}
use Rattle.p2p_log_rules.specs.Effect.{mailbox_size_at, relay_queue}
use Rattle.p2p_log_rules.specs.Facts.{routes, subscribers}
use Rattle.p2p_net_router.specs.Holds.{Holds, channels_told, routes_in}
use Rattle.p2p_net_router.specs.Items.{channel_of, frame_item, frames_of, messages_in}
use Rattle.p2p_net_router.specs.Names.{bare, bare_item, label}
use Rattle.p2p_net_router.specs.Resting.{IsFrame, IsListing, RouterLeft, RouterRests}
use Rattle.p2p_net_router.specs.Sound.{numbers_from, subscription_in}
use Rattle.p2p_net_router.specs.Stands.{StandsFor, StandsOver}
use Rattle.p2p_net_router.specs.declared.router.Router.{Router}
use Rattle.p2p_net_router.proofs.Building.{own_peers}
use Rattle.p2p_net_router.proofs.Contents.{lane_items, own_lane}
use Rattle.p2p_net_router.proofs.First.{bare-frame}
use Rattle.p2p_net_router.proofs.Routed.{line_is}

-- ---- a running router

pub listing_of : (size : ℕ) (r : Router) (items : List Envelope) → Holds size r items → IsListing r items
listing_of size r items h = record {
  rings = h.sound.rings;
  channels = h.sound.channels;
  distinct = h.sound.distinct;
  numbered = h.sound.numbered;
  names = λ c. h.names (queue.Peers r.number c) (own_peers r.number);
  lists = λ c. h.each (queue.Peers r.number c) (own_peers r.number);
}

frame_by : (encoded : EncodedData) (i : Item) → frame_item encoded ≡ bare i → IsFrame i
frame_by encoded i h = subst IsFrame (sym (bare-frame encoded.payload i h)) tt

frames_by : (frames : List EncodedData) (line : List Envelope) → map frame_item frames ≡ map bare_item line → AllByRecursion (λ (x : Envelope). IsFrame x.item) line
frames_by frames [] h = tt
frames_by [] (x ∷ xs) h = cc
frames_by (f ∷ fs) (x ∷ xs) h =
    let first : frame_item f ≡ bare x.item = cc in
    let rest : map frame_item fs ≡ map bare_item xs = cc in
    (frame_by f x.item first, frames_by fs xs rest)

pub left_holding : (size : ℕ) (r : Router) (items : List Envelope) → Holds size r items → RouterLeft r items
left_holding size r items h = record {
  listing = listing_of size r items h;
  mailbox = h.each (queue.Router r.number) (own_peers r.number);
  frames = λ b conn.
      frames_by (frames_of r.peers r.actor.links b conn) (filter (stands_in (relay_queue b r.number conn)) items)
      (sym (lane_items r r.number b conn) ∙ h.each (relay_queue b r.number conn) (own_lane r.number b conn));
  names = h.names;
}

pub left_of : (configs : List Config) (log : List Entry) (r : Router) (items : List Envelope) → StandsOver configs log r items → RouterLeft r items
left_of configs log r items s = left_holding (mailbox_size_at configs r.number) r items s.holds

-- ---- a closed one

-- the lists of other items that are the same in its queues
pub listing_same :
    (r : Router) (items more : List Envelope) → IsListing r items
    → ((c : ℕ) → filter (stands_in (queue.Peers r.number c)) more ≡ filter (stands_in (queue.Peers r.number c)) items) → IsListing r more
listing_same r items more h same = record {
  rings = h.rings;
  channels = h.channels;
  distinct = h.distinct;
  numbered = h.numbered;
  names = λ c. h.names c ∙ ap (map label) (sym (same c));
  lists = λ c. h.lists c ∙ ap (map bare_item) (sym (same c));
}

-- a line of the node, by what the log has
line_by :
    (log : List Entry) (n m c : ℕ) (items : List Envelope) → m ≡ n → line log (queue.Peers n c) ≡ filter (stands_in (queue.Peers n c)) items
    → filter (stands_in (queue.Peers m c)) (live log) ≡ filter (stands_in (queue.Peers m c)) items
line_by log n m c items same is =
    subst (λ k. filter (stands_in (queue.Peers k c)) (live log) ≡ filter (stands_in (queue.Peers k c)) items) (sym same) (sym (line_is log (queue.Peers n c)) ∙ is)

-- the entry with which it was closed
pub resting_after :
    (configs : List Config) (log : List Entry) (e : Entry) (n : ℕ) (old new : Router)
    → StandsFor configs log old → old.number ≡ n → new.number ≡ n → is_bound new.messenger.binding ≡ false → IsListing new (live (log ++ e ∷ []))
    → new.actor.subscriptions ≡ old.actor.subscriptions → routes_in new.actor.links ≡ routes_in old.actor.links → new.channels ≡ old.channels → new.subscriptions ≡ old.subscriptions
    → routes (log ++ e ∷ []) n ≡ routes log n → subscribers (log ++ e ∷ []) n ≡ subscribers log n
    → RouterRests configs (log ++ e ∷ []) n new
resting_after configs log e n old new s at now unbound listing subs links channels numbers routes_stay subscribers_stay =
    let sound = s.holds.sound in
    record {
      number = now;
      unbound = unbound;
      listing = listing;
      routes_are = links ∙ (s.routes_are ∙ (ap (routes log) at ∙ sym routes_stay));
      told = ap (λ l. map (channel_of new.channels.items) l) subs
          ∙ (ap (λ cs. map (channel_of cs) old.actor.subscriptions) (ap (λ v. v.items) channels)
          ∙ (s.told ∙ (ap (subscribers log) at ∙ sym subscribers_stay)));
      later = flat_map subscription_in (messages_in old.messenger.binding) ++ old.messenger.waiting;
      taken = ap (λ l. l ++ (flat_map subscription_in (messages_in old.messenger.binding) ++ old.messenger.waiting)) subs
          ∙ (sound.subscriptions ∙ ap (numbers_from 0) (sym sound.channels ∙ ap (λ v. length v.items) (sym channels)));
    }

-- an entry that leaves its lists alone
pub rests_kept :
    (configs : List Config) (log : List Entry) (e : Entry) (n : ℕ) (r : Router)
    → RouterRests configs log n r → ((c : ℕ) → line (log ++ e ∷ []) (queue.Peers n c) ≡ line log (queue.Peers n c))
    → routes (log ++ e ∷ []) n ≡ routes log n → subscribers (log ++ e ∷ []) n ≡ subscribers log n
    → RouterRests configs (log ++ e ∷ []) n r
rests_kept configs log e n r h lines routes_stay subscribers_stay = record {
  number = h.number;
  unbound = h.unbound;
  listing = listing_same r (live log) (live (log ++ e ∷ [])) h.listing
      (λ c. line_by (log ++ e ∷ []) n r.number c (live log) h.number (lines c ∙ line_is log (queue.Peers n c)));
  routes_are = h.routes_are ∙ sym routes_stay;
  told = h.told ∙ sym subscribers_stay;
  later = h.later;
  taken = h.taken;
}

-- an entry with which a list was taken
pub rests_listed :
    (configs : List Config) (log : List Entry) (e : Entry) (n : ℕ) (old new : Router) (gone : List (ℕ × ℕ))
    → RouterRests configs log n old → new ≡ record old { messenger = record old.messenger { lists = new.messenger.lists }; names = new.names }
    → IsListing new (filter (stays gone) (live log))
    → ((c : ℕ) → line (log ++ e ∷ []) (queue.Peers n c) ≡ filter (stands_in (queue.Peers n c)) (filter (stays gone) (live log)))
    → routes (log ++ e ∷ []) n ≡ routes log n → subscribers (log ++ e ∷ []) n ≡ subscribers log n
    → RouterRests configs (log ++ e ∷ []) n new
rests_listed configs log e n old new gone h is listing lines routes_stay subscribers_stay =
    let at : new.number ≡ n = ap (λ (r : Router). r.number) is ∙ h.number in
    record {
      number = at;
      unbound = ap (λ (r : Router). is_bound r.messenger.binding) is ∙ h.unbound;
      listing = listing_same new (filter (stays gone) (live log)) (live (log ++ e ∷ [])) listing
          (λ c. line_by (log ++ e ∷ []) n new.number c (filter (stays gone) (live log)) at (lines c));
      routes_are = ap (λ (r : Router). routes_in r.actor.links) is ∙ (h.routes_are ∙ sym routes_stay);
      told = ap channels_told is ∙ (h.told ∙ sym subscribers_stay);
      later = h.later;
      taken = subst (λ (r : Router). r.actor.subscriptions ++ h.later ≡ numbers_from 0 (length r.channels.items)) (sym is) h.taken;
    }
