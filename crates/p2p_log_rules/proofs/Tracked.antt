-- What a step of a node's tracker may tell: where a test holds of none of that, it holds of nothing that the step tells.
use Rattle.std.proofs.Common.{◌≡◌, ℕ, Bool, false, List, [], ◌∷◌, refl, ap, Option, Some, None}
use Rattle.std.specs.Prelude.{◌||◌, flat_map}
use Rattle.std.specs.List.{list_any}
use Rattle.p2p_address.specs.declared.peer.Address.{Address}
use Rattle.p2p_base.specs.declared.key.Key.{Key}
use Rattle.p2p_log.specs.declared.asked.Asked.{Asked}
use Rattle.p2p_log.specs.declared.asked.Asked.TheVariants as ask
use Rattle.p2p_log.specs.declared.queue.Queue.{Queue}
use Rattle.p2p_log.specs.declared.item.Item.{Item}
use Rattle.p2p_log.specs.declared.item.Item.TheVariants as item
use Rattle.p2p_log.specs.declared.entry.Entry.{Entry}
use Rattle.p2p_log.specs.declared.entry.Reply.{Reply}
use Rattle.p2p_log.specs.declared.entry.Reply.TheVariants as reply
use Rattle.p2p_log_rules.specs.Tellings.{Telling}
use Rattle.p2p_log_rules.specs.Tellings as telling
use Rattle.p2p_log_rules.specs.Tracked.{asked_by, question_of, grants_peer, asked_tells, served_tells, called_tells, wanted_tells, subscriber_tells, tracker_tells}
use Rattle.p2p_log_rules.proofs.Tellings.{append_quiet}

pub record NoneTracked (test : Telling → Bool) (m at : ℕ) : Type 0 where
  pub unblocks : test (telling.blocks_ended m at) ≡ false
  pub set : (index : ℕ) (primary secondary : List (Key × Address)) → test (telling.set_asked m index primary secondary) ≡ false
  pub addresses : (peers : List (Key × Address)) → test (telling.addresses_asked m peers) ≡ false
  pub block : (key : Key) → test (telling.block_asked m at key) ≡ false
  pub connection : (conn : ℕ) (key : Key) → test (telling.connection_heard m at conn key) ≡ false
  pub dial : (seed : ℕ) (key : Key) (granted : Bool) → test (telling.dial_weighed m at seed key granted) ≡ false
  pub listen : (seed : ℕ) (key : Key) (granted : Bool) → test (telling.listen_weighed m at seed key granted) ≡ false
  pub release : (key : Key) → test (telling.release_heard m key) ≡ false
  pub sets : (e : ℕ) → test (telling.sets_wanted m e) ≡ false
  pub blocks : (e : ℕ) → test (telling.blocks_wanted m e) ≡ false

-- nor who subscribes
module _ (test : Telling → Bool) (m : ℕ) (sets : (e : ℕ) → test (telling.sets_wanted m e) ≡ false) (blocks : (e : ℕ) → test (telling.blocks_wanted m e) ≡ false) where
  wanted : (e : ℕ) (o : Option Asked) → list_any test (wanted_tells m e o) ≡ false
  wanted e (Some ask.Subscribe) = ap (λ b. b || false) (sets e)
  wanted e (Some ask.Blocked) = ap (λ b. b || false) (blocks e)
  wanted e _ = refl

  subscriber : (before : List Entry) (i : Item) → list_any test (subscriber_tells before m i) ≡ false
  subscriber before (item.Call e) = wanted e (question_of (asked_by before e))
  subscriber before _ = refl

  pub subscribers_quiet : (before : List Entry) (items : List Item) → list_any test (flat_map (subscriber_tells before m) items) ≡ false
  subscribers_quiet before [] = refl
  subscribers_quiet before (i ∷ items) =
      append_quiet test (subscriber_tells before m i) (flat_map (subscriber_tells before m) items) (subscriber before i) (subscribers_quiet before items)

module _ (test : Telling → Bool) (m at : ℕ) (none : NoneTracked test m at) where
  one : (t : Telling) → test t ≡ false → list_any test (t ∷ []) ≡ false
  one t h = ap (λ b. b || false) h

  asked : (o : Option Asked) → list_any test (asked_tells m at o) ≡ false
  asked None = refl
  asked (Some (ask.Track index peers)) = one (telling.set_asked m index peers.primary peers.secondary) (none.set index peers.primary peers.secondary)
  asked (Some (ask.Overwrite peers)) = one (telling.addresses_asked m peers) (none.addresses peers)
  asked (Some (ask.Block key)) = one (telling.block_asked m at key) (none.block key)
  asked (Some _) = refl

  served : (before : List Entry) (seed : ℕ) (granted : Bool) (i : Item) → list_any test (served_tells before m at seed granted i) ≡ false
  served before seed granted (item.Call e) = asked (question_of (asked_by before e))
  served before seed granted (item.Connect conn key) = one (telling.connection_heard m at conn key) (none.connection conn key)
  served before seed granted (item.AskDial key) = one (telling.dial_weighed m at seed key granted) (none.dial seed key granted)
  served before seed granted (item.AskListen name key) = one (telling.listen_weighed m at seed key granted) (none.listen seed key granted)
  served before seed granted (item.Release key) = one (telling.release_heard m key) (none.release key)
  served before seed granted _ = refl

  called : (before : List Entry) (seed : ℕ) (granted : Bool) (r : Reply) (items : List Item) → list_any test (called_tells before m at seed granted r items) ≡ false
  called before seed granted reply.Ok [] = one (telling.blocks_ended m at) none.unblocks
  called before seed granted reply.Ok (i ∷ items) = served before seed granted i
  called before seed granted _ items = refl

  pub tracker_quiet : (before : List Entry) (seed : ℕ) (r : Reply) (items : List Item) (puts : List (Queue × Item)) → list_any test (tracker_tells before m at seed r items puts) ≡ false
  tracker_quiet before seed r items puts =
      let granted : Bool = list_any grants_peer puts in
      append_quiet test (called_tells before m at seed granted r items) (flat_map (subscriber_tells before m) items) (called before seed granted r items) (subscribers_quiet test m none.sets none.blocks before items)
