-- What a tracker tells of the grants and releases of a key, and that nothing else tells of them.
use Rattle.std.proofs.Common.{◌≡◌, ℕ, Bool, true, false, List, [], ◌∷◌, ◌++◌, length, refl, ap, sym, ◌∙◌, eq-eqb, eqb-true}
use Rattle.std.specs.Prelude.{◌==◌, ◌&&◌, ◌||◌, flat_map, Option, Some, None}
use Rattle.std.specs.List.{list_any}
use Rattle.std.proofs.lemmas.Bool.{false≢true}
use Rattle.std.proofs.lemmas.List.Folds.{list_any-append}
use Rattle.p2p_base.specs.declared.key.Key.{Key}
use Rattle.p2p_log.specs.declared.queue.Queue.{Queue}
use Rattle.p2p_log.specs.declared.item.Item.{Item}
use Rattle.p2p_log.specs.declared.item.Item.TheVariants as item
use Rattle.p2p_log.specs.declared.entry.Entry.{Entry}
use Rattle.p2p_log.specs.declared.entry.Reply.{Reply}
use Rattle.p2p_log.specs.declared.entry.Reply.TheVariants as reply
use Rattle.p2p_log.specs.declared.asked.Asked.{Asked}
use Rattle.p2p_log.specs.declared.asked.Asked.TheVariants as ask
use Rattle.p2p_log.specs.declared.event.Act.{Act}
use Rattle.p2p_log.specs.declared.event.Act.TheVariants as act
use Rattle.p2p_log_rules.specs.Taking.{taken}
use Rattle.p2p_log_rules.specs.Tellings.{Telling}
use Rattle.p2p_log_rules.specs.Tellings as telling
use Rattle.p2p_log_rules.specs.Told.{tells, told}
use Rattle.p2p_log_rules.specs.Tracked.{asked_by, question_of, grants_peer, asked_tells, served_tells, called_tells, subscriber_tells, tracker_tells}
use Rattle.p2p_log_rules.proofs.Acted.{tells_as}
use Rattle.p2p_log_rules.proofs.Bools.{or_false}
use Rattle.p2p_log_rules.proofs.TellingKinds as kind
use Rattle.p2p_log_rules.proofs.Families.{telling_kind, has, untold_act}
use Rattle.p2p_log_rules.proofs.Steps.{steps_tracker}
use Rattle.p2p_log_rules.proofs.Tracked.{NoneTracked, tracker_quiet, subscribers_quiet}
use Rattle.p2p_log_laws.specs.NodeGrants.{releases_key, tells_grant, tells_release}

module _ (n : ℕ) (key : Key) where
  grant_kinds : (t : Telling) → has (kind.dial_weighed ∷ kind.listen_weighed ∷ []) (telling_kind t) ≡ false → tells_grant n key t ≡ false
  grant_kinds (telling.dial_weighed m at seed k granted) h = cc
  grant_kinds (telling.listen_weighed m at seed k granted) h = cc
  grant_kinds _ h = refl

  release_kinds : (t : Telling) → has (kind.release_heard ∷ []) (telling_kind t) ≡ false → tells_release n key t ≡ false
  release_kinds (telling.release_heard m k) h = cc
  release_kinds _ h = refl

  -- ---- at another node, and by other acts

  no_grants_told : (m at : ℕ) → (m == n) ≡ false → NoneTracked (tells_grant n key) m at
  no_grants_told m at differ = record {
    unblocks = refl;
    set = λ index primary secondary. refl;
    addresses = λ peers. refl;
    block = λ k. refl;
    connection = λ conn k. refl;
    dial = λ seed k granted. ap (λ b. b && ((k.0 == key.0) && granted)) differ;
    listen = λ seed k granted. ap (λ b. b && ((k.0 == key.0) && granted)) differ;
    release = λ k. refl;
    sets = λ e. refl;
    blocks = λ e. refl;
  }

  no_releases_told : (m at : ℕ) → (m == n) ≡ false → NoneTracked (tells_release n key) m at
  no_releases_told m at differ = record {
    unblocks = refl;
    set = λ index primary secondary. refl;
    addresses = λ peers. refl;
    block = λ k. refl;
    connection = λ conn k. refl;
    dial = λ seed k granted. refl;
    listen = λ seed k granted. refl;
    release = λ k. ap (λ b. b && (k.0 == key.0)) differ;
    sets = λ e. refl;
    blocks = λ e. refl;
  }

  module _ (log : List Entry) (e : Entry) where
    pub grants_elsewhere : steps_tracker n e.event.act ≡ false → list_any (tells_grant n key) (tells (told log) log e) ≡ false
    grants_elsewhere = by e.event.act refl
      where
        by : (a : Act) → e.event.act ≡ a → steps_tracker n a ≡ false → list_any (tells_grant n key) (tells (told log) log e) ≡ false
        by (act.Tracker m) is differ =
            ap (list_any (tells_grant n key)) (tells_as (told log) log e (act.Tracker m) is)
            ∙ tracker_quiet (tells_grant n key) m e.event.at (no_grants_told m e.event.at differ) log e.event.seed e.reply (taken log e) e.puts
        by a is differ =
            ap (list_any (tells_grant n key)) (tells_as (told log) log e a is)
            ∙ untold_act (tells_grant n key) (kind.dial_weighed ∷ kind.listen_weighed ∷ []) grant_kinds (told log) log (length log) e.event.at e.event.seed e.reply (taken log e) e.puts a refl

    pub frees_elsewhere : steps_tracker n e.event.act ≡ false → list_any (tells_release n key) (tells (told log) log e) ≡ false
    frees_elsewhere = by e.event.act refl
      where
        by : (a : Act) → e.event.act ≡ a → steps_tracker n a ≡ false → list_any (tells_release n key) (tells (told log) log e) ≡ false
        by (act.Tracker m) is differ =
            ap (list_any (tells_release n key)) (tells_as (told log) log e (act.Tracker m) is)
            ∙ tracker_quiet (tells_release n key) m e.event.at (no_releases_told m e.event.at differ) log e.event.seed e.reply (taken log e) e.puts
        by a is differ =
            ap (list_any (tells_release n key)) (tells_as (told log) log e a is)
            ∙ untold_act (tells_release n key) (kind.release_heard ∷ []) release_kinds (told log) log (length log) e.event.at e.event.seed e.reply (taken log e) e.puts a refl

  -- ---- at the node

  asked_grants : (at : ℕ) (o : Option Asked) → list_any (tells_grant n key) (asked_tells n at o) ≡ false
  asked_grants at None = refl
  asked_grants at (Some (ask.Track index peers)) = refl
  asked_grants at (Some (ask.Overwrite peers)) = refl
  asked_grants at (Some (ask.Block k)) = refl
  asked_grants at (Some _) = refl

  asked_releases : (at : ℕ) (o : Option Asked) → list_any (tells_release n key) (asked_tells n at o) ≡ false
  asked_releases at None = refl
  asked_releases at (Some (ask.Track index peers)) = refl
  asked_releases at (Some (ask.Overwrite peers)) = refl
  asked_releases at (Some (ask.Block k)) = refl
  asked_releases at (Some _) = refl

  -- who subscribes is told of no key
  pub grants_of : (log : List Entry) (at seed : ℕ) (r : Reply) (items : List Item) (puts : List (Queue × Item))
      → list_any (tells_grant n key) (tracker_tells log n at seed r items puts) ≡ list_any (tells_grant n key) (called_tells log n at seed (list_any grants_peer puts) r items)
  grants_of log at seed r items puts =
      list_any-append (tells_grant n key) (called_tells log n at seed (list_any grants_peer puts) r items) (flat_map (subscriber_tells log n) items)
      ∙ (ap (λ b. list_any (tells_grant n key) (called_tells log n at seed (list_any grants_peer puts) r items) || b) (subscribers_quiet (tells_grant n key) n (λ e. refl) (λ e. refl) log items)
      ∙ or_false (list_any (tells_grant n key) (called_tells log n at seed (list_any grants_peer puts) r items)))

  pub releases_of : (log : List Entry) (at seed : ℕ) (r : Reply) (items : List Item) (puts : List (Queue × Item))
      → list_any (tells_release n key) (tracker_tells log n at seed r items puts) ≡ list_any (tells_release n key) (called_tells log n at seed (list_any grants_peer puts) r items)
  releases_of log at seed r items puts =
      list_any-append (tells_release n key) (called_tells log n at seed (list_any grants_peer puts) r items) (flat_map (subscriber_tells log n) items)
      ∙ (ap (λ b. list_any (tells_release n key) (called_tells log n at seed (list_any grants_peer puts) r items) || b) (subscribers_quiet (tells_release n key) n (λ e. refl) (λ e. refl) log items)
      ∙ or_false (list_any (tells_release n key) (called_tells log n at seed (list_any grants_peer puts) r items)))

  -- a grant of a key that was weighed
  pub weighed_grant : (k : Key) (granted : Bool) → (((n == n) && ((k.0 == key.0) && granted)) || false) ≡ ((k.0 == key.0) && granted)
  weighed_grant k granted = or_false ((n == n) && ((k.0 == key.0) && granted)) ∙ ap (λ b. b && ((k.0 == key.0) && granted)) (eq-eqb n n refl)

  -- what is told of a release is the release that was taken
  pub item_releases : (log : List Entry) (at seed : ℕ) (granted : Bool) (i : Item) → list_any (tells_release n key) (served_tells log n at seed granted i) ≡ releases_key key i
  item_releases log at seed granted (item.Call e) = asked_releases at (question_of (asked_by log e))
  item_releases log at seed granted (item.Release k) = or_false ((n == n) && (k.0 == key.0)) ∙ ap (λ b. b && (k.0 == key.0)) (eq-eqb n n refl)
  item_releases log at seed granted _ = refl

  called_releases : (log : List Entry) (at seed : ℕ) (granted : Bool) (r : Reply) (items : List Item) → list_any (tells_release n key) (called_tells log n at seed granted r items) ≡ true → list_any (releases_key key) items ≡ true
  called_releases log at seed granted reply.Ok [] h = absurd (cc)
  called_releases log at seed granted reply.Ok (i ∷ items) h = ap (λ b. b || list_any (releases_key key) items) (sym (item_releases log at seed granted i) ∙ h)
  called_releases log at seed granted _ items h = absurd (cc)

  -- a release that is told was taken, by the node's tracker
  pub release_is_taken : (log : List Entry) (e : Entry) → list_any (tells_release n key) (tells (told log) log e) ≡ true → (steps_tracker n e.event.act ≡ true) × (list_any (releases_key key) (taken log e) ≡ true)
  release_is_taken log e h = by (steps_tracker n e.event.act) refl
    where
      at_tracker : (a : Act) → e.event.act ≡ a → steps_tracker n a ≡ true → list_any (releases_key key) (taken log e) ≡ true
      at_tracker (act.Tracker m) is same =
          called_releases log e.event.at e.event.seed (list_any grants_peer e.puts) e.reply (taken log e)
          (sym (releases_of log e.event.at e.event.seed e.reply (taken log e) e.puts) ∙ (sym (ap (list_any (tells_release n key)) (tells_as (told log) log e (act.Tracker n) (is ∙ ap act.Tracker (eqb-true m n same)))) ∙ h))
      at_tracker _ is same = absurd (cc)

      by : (b : Bool) → steps_tracker n e.event.act ≡ b → (b ≡ true) × (list_any (releases_key key) (taken log e) ≡ true)
      by true steps = (refl, at_tracker e.event.act refl steps)
      by false other = absurd (false≢true (sym (frees_elsewhere log e other) ∙ h))

  pub call_grants : (log : List Entry) (at seed : ℕ) (granted : Bool) (e : ℕ) → list_any (tells_grant n key) (served_tells log n at seed granted (item.Call e)) ≡ false
  call_grants log at seed granted e = asked_grants at (question_of (asked_by log e))
