-- The calls of the directory of a node's tracker, and who subscribed, after one more entry.
use Rattle.std.proofs.Common.{◌≡◌, ℕ, Bool, true, false, cond, List, [], ◌∷◌, ◌++◌, map, reverse, refl, ap, ◌∙◌, append_assoc, append-nil, Option, Some, None}
use Rattle.std.specs.Prelude.{◌==◌, flat_map}
use Rattle.std.specs.List.{list_any}
use Rattle.std.proofs.lemmas.List.{reverse-append}
use Rattle.std.proofs.lemmas.Grind.{flat_map-append}
use Rattle.p2p_address.specs.declared.peer.Address.{Address}
use Rattle.p2p_base.specs.declared.key.Key.{Key}
use Rattle.p2p_tracker_calls.specs.declared.call.Call.{Call}
use Rattle.p2p_tracker_calls.specs.declared.call.Call.TheVariants as call
use Rattle.p2p_tracker_calls.specs.Jitter.{jitter_of}
use Rattle.p2p_tracker_calls.specs.Overwrites.{overwritten}
use Rattle.p2p_log.specs.declared.config.Config.{Config}
use Rattle.p2p_log.specs.declared.queue.Queue.{Queue}
use Rattle.p2p_log.specs.declared.item.Item.{Item}
use Rattle.p2p_log.specs.declared.item.Item.TheVariants as item
use Rattle.p2p_log.specs.declared.entry.Entry.{Entry}
use Rattle.p2p_log.specs.declared.entry.Reply.{Reply}
use Rattle.p2p_log.specs.declared.entry.Reply.TheVariants as reply
use Rattle.p2p_log.specs.declared.asked.Asked.{Asked}
use Rattle.p2p_log.specs.declared.asked.Asked.TheVariants as ask
use Rattle.p2p_log.specs.declared.event.Act.{Act}
use Rattle.p2p_log.specs.declared.event.Act.TheVariants as act
use Rattle.p2p_log_rules.specs.Taking.{taken, state_from}
use Rattle.p2p_log_rules.specs.Tellings.{Telling}
use Rattle.p2p_log_rules.specs.Tellings as telling
use Rattle.p2p_log_rules.specs.Told.{tells, told}
use Rattle.p2p_log_rules.specs.Tracked.{asked_by, question_of, grants_peer, asked_tells, served_tells, called_tells, wanted_tells, subscriber_tells, tracker_tells}
use Rattle.p2p_log_rules.specs.Tracking.{rules_at, called, calls_of, wants_sets, update_subscriptions, wants_blocks, blocked_subscriptions}
use Rattle.p2p_log_rules.proofs.Acted.{tells_as, nothing_of, collected-append}
use Rattle.p2p_log_rules.proofs.TellingKinds.{Kind}
use Rattle.p2p_log_rules.proofs.TellingKinds as kind
use Rattle.p2p_log_rules.proofs.Families.{telling_kind, kinds_of, has, are_apart}
use Rattle.p2p_log_rules.proofs.Ignoring.{flat_map-none}
use Rattle.p2p_log_rules.proofs.Tellings.{told-append}
use Rattle.p2p_log_rules.proofs.Steps.{steps_tracker}

-- ---- what an entry adds to the calls, the newest first

-- once the tracker took what an act asked at this moment
abbrev pub asked_calls : Option Act → ℕ → List (Call Key) → List (Call Key)
asked_calls (Some (act.Ask (ask.Track index peers) n)) at calls = call.Track index peers.primary peers.secondary ∷ calls
asked_calls (Some (act.Ask (ask.Overwrite peers) n)) at calls = overwritten peers calls
asked_calls (Some (act.Ask (ask.Block key) n)) at calls = call.Block key at ∷ calls
asked_calls _ at calls = calls

-- once it took this item, where a peer is granted or not and has this jitter
abbrev pub item_calls : List Entry → Item → ℕ → ℕ → Bool → List (Call Key) → List (Call Key)
item_calls log (item.Call e) at jitter granted calls = asked_calls (asked_by log e) at calls
item_calls log (item.Connect conn key) at jitter granted calls = call.Connect key (Some at) conn ∷ calls
item_calls log (item.AskDial key) at jitter granted calls = call.Dial key at jitter granted ∷ calls
item_calls log (item.AskListen name key) at jitter granted calls = call.Listen key at jitter granted ∷ calls
item_calls log (item.Release key) at jitter granted calls = call.Release key ∷ calls
item_calls log _ at jitter granted calls = calls

-- once it did a step with this reply, in which it took these items: where it took none, blocks had ended
abbrev pub step_calls : List Entry → Reply → List Item → ℕ → ℕ → Bool → List (Call Key) → List (Call Key)
step_calls log reply.Ok [] at jitter granted calls = call.UnblockExpired at ∷ calls
step_calls log reply.Ok (i ∷ _) at jitter granted calls = item_calls log i at jitter granted calls
step_calls log _ items at jitter granted calls = calls

-- after an entry, given those before it
abbrev pub calls_by : List Config → ℕ → List Entry → Entry → List (Call Key) → List (Call Key)
calls_by configs n before e calls =
    cond (steps_tracker n e.event.act)
    (step_calls before e.reply (taken before e) e.event.at (jitter_of (rules_at configs n).cooldown e.event.seed) (list_any grants_peer e.puts) calls)
    calls

-- the calls of these, before those
abbrev after : ℕ → ℕ → List Telling → List (Call Key) → List (Call Key)
after cooldown n ts calls = reverse (flat_map (called cooldown n) ts) ++ calls

-- one call, or none
one_call : (b : Bool) (c : Call Key) (calls : List (Call Key)) → reverse (cond b (c ∷ []) [] ++ []) ++ calls ≡ cond b (c ∷ calls) calls
one_call true c calls = refl
one_call false c calls = refl

same : (b : Bool) (calls : List (Call Key)) → calls ≡ cond b calls calls
same true calls = refl
same false calls = refl

-- a call for each key, in their order
each_call : (peers : List (Key × Address)) (calls : List (Call Key)) → reverse (map (λ (p : Key × Address). call.Overwrite p.0 p.1) peers) ++ calls ≡ overwritten peers calls
unfolding overwritten
each_call [] calls = refl
each_call (p ∷ peers) calls =
    let rest = map (λ (q : Key × Address). call.Overwrite q.0 q.1) peers in
    let c : Call Key = call.Overwrite p.0 p.1 in
    ap (λ l. l ++ calls) (reverse-append (c ∷ []) rest) ∙ (append_assoc (reverse rest) (c ∷ []) calls ∙ each_call peers (c ∷ calls))

module _ (cooldown n : ℕ) where
  asked_told : (m at : ℕ) (o : Option Act) (calls : List (Call Key)) → after cooldown n (asked_tells m at (question_of o)) calls ≡ cond (m == n) (asked_calls o at calls) calls
  asked_told m at None calls = same (m == n) calls
  asked_told m at (Some (act.Ask (ask.Track index peers) k)) calls = one_call (m == n) (call.Track index peers.primary peers.secondary) calls
  asked_told m at (Some (act.Ask (ask.Overwrite peers) k)) calls = by (m == n)
    where
      by : (b : Bool) → reverse (cond b (map (λ (p : Key × Address). call.Overwrite p.0 p.1) peers) [] ++ []) ++ calls ≡ cond b (overwritten peers calls) calls
      by true = ap (λ l. reverse l ++ calls) (append-nil (map (λ (p : Key × Address). call.Overwrite p.0 p.1) peers)) ∙ each_call peers calls
      by false = refl
  asked_told m at (Some (act.Ask (ask.Block key) k)) calls = one_call (m == n) (call.Block key at) calls
  asked_told m at (Some (act.Ask (ask.PeerSet index) k)) calls = same (m == n) calls
  asked_told m at (Some (act.Ask ask.Subscribe k)) calls = same (m == n) calls
  asked_told m at (Some (act.Ask ask.Blocked k)) calls = same (m == n) calls
  asked_told m at (Some _) calls = same (m == n) calls

  served_told : (log : List Entry) (m at seed : ℕ) (granted : Bool) (i : Item) (calls : List (Call Key))
      → after cooldown n (served_tells log m at seed granted i) calls ≡ cond (m == n) (item_calls log i at (jitter_of cooldown seed) granted calls) calls
  served_told log m at seed granted (item.Call e) calls = asked_told m at (asked_by log e) calls
  served_told log m at seed granted (item.Connect conn key) calls = one_call (m == n) (call.Connect key (Some at) conn) calls
  served_told log m at seed granted (item.AskDial key) calls = one_call (m == n) (call.Dial key at (jitter_of cooldown seed) granted) calls
  served_told log m at seed granted (item.AskListen name key) calls = one_call (m == n) (call.Listen key at (jitter_of cooldown seed) granted) calls
  served_told log m at seed granted (item.Release key) calls = one_call (m == n) (call.Release key) calls
  served_told log m at seed granted _ calls = same (m == n) calls

  step_told : (log : List Entry) (m at seed : ℕ) (granted : Bool) (r : Reply) (items : List Item) (calls : List (Call Key))
      → after cooldown n (called_tells log m at seed granted r items) calls ≡ cond (m == n) (step_calls log r items at (jitter_of cooldown seed) granted calls) calls
  step_told log m at seed granted reply.Ok [] calls = one_call (m == n) (call.UnblockExpired at) calls
  step_told log m at seed granted reply.Ok (i ∷ items) calls = served_told log m at seed granted i calls
  step_told log m at seed granted _ items calls = same (m == n) calls

  -- a question that subscribes calls nothing
  wanted_uncalled : (m e : ℕ) (o : Option Asked) → flat_map (called cooldown n) (wanted_tells m e o) ≡ []
  wanted_uncalled m e (Some ask.Subscribe) = refl
  wanted_uncalled m e (Some ask.Blocked) = refl
  wanted_uncalled m e _ = refl

  subscriber_uncalled : (log : List Entry) (m : ℕ) (i : Item) → flat_map (called cooldown n) (subscriber_tells log m i) ≡ []
  subscriber_uncalled log m (item.Call e) = wanted_uncalled m e (question_of (asked_by log e))
  subscriber_uncalled log m _ = refl

  subscribers_uncalled : (log : List Entry) (m : ℕ) (items : List Item) → flat_map (called cooldown n) (flat_map (subscriber_tells log m) items) ≡ []
  subscribers_uncalled log m [] = refl
  subscribers_uncalled log m (i ∷ items) =
      flat_map-append (called cooldown n) (subscriber_tells log m i) (flat_map (subscriber_tells log m) items)
      ∙ (ap (λ l. l ++ flat_map (called cooldown n) (flat_map (subscriber_tells log m) items)) (subscriber_uncalled log m i) ∙ subscribers_uncalled log m items)

  tracker_told : (log : List Entry) (m at seed : ℕ) (r : Reply) (items : List Item) (puts : List (Queue × Item)) (calls : List (Call Key))
      → after cooldown n (tracker_tells log m at seed r items puts) calls ≡ cond (m == n) (step_calls log r items at (jitter_of cooldown seed) (list_any grants_peer puts) calls) calls
  tracker_told log m at seed r items puts calls =
      let granted : Bool = list_any grants_peer puts in
      let first = called_tells log m at seed granted r items in
      let rest = flat_map (subscriber_tells log m) items in
      ap (λ l. reverse l ++ calls)
      (flat_map-append (called cooldown n) first rest
      ∙ (ap (λ l. flat_map (called cooldown n) first ++ l) (subscribers_uncalled log m items) ∙ append-nil (flat_map (called cooldown n) first)))
      ∙ step_told log m at seed granted r items calls

  -- what tells of no call
  abbrev call_kinds : List Kind
  call_kinds = kind.blocks_ended ∷ kind.set_asked ∷ kind.addresses_asked ∷ kind.block_asked ∷ kind.connection_heard ∷ kind.dial_weighed ∷ kind.listen_weighed ∷ kind.release_heard ∷ []

  of_calls : (t : Telling) → has call_kinds (telling_kind t) ≡ false → called cooldown n t ≡ []
  of_calls (telling.blocks_ended m at) h = cc
  of_calls (telling.set_asked m index primary secondary) h = cc
  of_calls (telling.addresses_asked m peers) h = cc
  of_calls (telling.block_asked m at key) h = cc
  of_calls (telling.connection_heard m at conn key) h = cc
  of_calls (telling.dial_weighed m at seed key granted) h = cc
  of_calls (telling.listen_weighed m at seed key granted) h = cc
  of_calls (telling.release_heard m key) h = cc
  of_calls _ h = refl

  -- what an entry makes of the calls
  called_by : (ts : List Telling) (log : List Entry) (e : Entry) (calls : List (Call Key)) → after cooldown n (tells ts log e) calls
      ≡ cond (steps_tracker n e.event.act) (step_calls log e.reply (taken log e) e.event.at (jitter_of cooldown e.event.seed) (list_any grants_peer e.puts) calls) calls
  called_by ts log e calls = by e.event.act refl
    where
      by : (a : Act) → e.event.act ≡ a → after cooldown n (tells ts log e) calls
          ≡ cond (steps_tracker n a) (step_calls log e.reply (taken log e) e.event.at (jitter_of cooldown e.event.seed) (list_any grants_peer e.puts) calls) calls
      by (act.Tracker m) is = ap (λ us. after cooldown n us calls) (tells_as ts log e (act.Tracker m) is) ∙ tracker_told log m e.event.at e.event.seed e.reply (taken log e) e.puts calls
      by a is = ap (λ l. reverse l ++ calls) (nothing_of call_kinds (called cooldown n) of_calls ts log e (ap (λ b. are_apart (kinds_of b) call_kinds) is))

pub calls_of-append : (configs : List Config) (log : List Entry) (e : Entry) (n : ℕ) → calls_of configs (log ++ e ∷ []) n ≡ calls_by configs n log e (calls_of configs log n)
unfolding calls_of
calls_of-append configs log e n =
    let cooldown = (rules_at configs n).cooldown in
    let f = called cooldown n in
    ap (λ ts. reverse (flat_map f ts)) (told-append log e)
    ∙ (ap reverse (flat_map-append f (told log) (tells (told log) log e))
    ∙ (reverse-append (flat_map f (told log)) (flat_map f (tells (told log) log e)) ∙ called_by cooldown n (told log) log e (calls_of configs log n)))

pub calls_of-none : (configs : List Config) (n : ℕ) → calls_of configs [] n ≡ []
unfolding calls_of told state_from
calls_of-none configs n = refl

-- ---- who an entry adds to those that subscribed

-- the event whose act, as the item says, is one of these
abbrev pub call_where : (Act → Bool) → List Entry → Item → List ℕ
call_where test log (item.Call e) = elim (asked_by log e) [ None ↦ [] | Some a ↦ cond (test a) (e ∷ []) [] ]
call_where test log _ = []

-- the events that the tracker took in a step, whose acts are of these
abbrev pub calls_taken : (Act → Bool) → ℕ → List Entry → Entry → List ℕ
calls_taken test n before e = cond (steps_tracker n e.event.act) (flat_map (call_where test before) (taken before e)) []

abbrev pub subscribes : Act → Bool
subscribes (act.Ask ask.Subscribe n) = true
subscribes _ = false

abbrev pub subscribes_blocked : Act → Bool
subscribes_blocked (act.Ask ask.Blocked n) = true
subscribes_blocked _ = false

abbrev questions : List Kind
questions = kind.sets_wanted ∷ kind.blocks_wanted ∷ []

-- what a step of a tracker tells of its calls is of no subscription
module _ (f : Telling → List ℕ) (others : (t : Telling) → has questions (telling_kind t) ≡ false → f t ≡ []) where
  none_wanted : (ts : List Telling) → list_any (λ t. has questions (telling_kind t)) ts ≡ false → flat_map f ts ≡ []
  none_wanted ts h = flat_map-none (λ t. has questions (telling_kind t)) f others ts h

  asked_unwanted : (m at : ℕ) (o : Option Asked) → flat_map f (asked_tells m at o) ≡ []
  asked_unwanted m at None = refl
  asked_unwanted m at (Some (ask.Track index peers)) = none_wanted (asked_tells m at (Some (ask.Track index peers))) refl
  asked_unwanted m at (Some (ask.Overwrite peers)) = none_wanted (asked_tells m at (Some (ask.Overwrite peers))) refl
  asked_unwanted m at (Some (ask.Block key)) = none_wanted (asked_tells m at (Some (ask.Block key))) refl
  asked_unwanted m at (Some _) = refl

  served_unwanted : (log : List Entry) (m at seed : ℕ) (granted : Bool) (i : Item) → flat_map f (served_tells log m at seed granted i) ≡ []
  served_unwanted log m at seed granted (item.Call e) = asked_unwanted m at (question_of (asked_by log e))
  served_unwanted log m at seed granted (item.Connect conn key) = none_wanted (telling.connection_heard m at conn key ∷ []) refl
  served_unwanted log m at seed granted (item.AskDial key) = none_wanted (telling.dial_weighed m at seed key granted ∷ []) refl
  served_unwanted log m at seed granted (item.AskListen name key) = none_wanted (telling.listen_weighed m at seed key granted ∷ []) refl
  served_unwanted log m at seed granted (item.Release key) = none_wanted (telling.release_heard m key ∷ []) refl
  served_unwanted log m at seed granted _ = refl

  called_unwanted : (log : List Entry) (m at seed : ℕ) (granted : Bool) (r : Reply) (items : List Item) → flat_map f (called_tells log m at seed granted r items) ≡ []
  called_unwanted log m at seed granted reply.Ok [] = none_wanted (telling.blocks_ended m at ∷ []) refl
  called_unwanted log m at seed granted reply.Ok (i ∷ items) = served_unwanted log m at seed granted i
  called_unwanted log m at seed granted _ items = refl

  module _ (test : Act → Bool) (n : ℕ) (each : (log : List Entry) (m : ℕ) (i : Item) → flat_map f (subscriber_tells log m i) ≡ cond (m == n) (call_where test log i) []) where
    items_wanted : (log : List Entry) (m : ℕ) (items : List Item) → flat_map f (flat_map (subscriber_tells log m) items) ≡ cond (m == n) (flat_map (call_where test log) items) []
    items_wanted log m [] = by (m == n)
      where
        by : (b : Bool) → [] ≡ cond {A = List ℕ} b [] []
        by true = refl
        by false = refl
    items_wanted log m (i ∷ items) =
        flat_map-append f (subscriber_tells log m i) (flat_map (subscriber_tells log m) items)
        ∙ (ap (λ l. l ++ flat_map f (flat_map (subscriber_tells log m) items)) (each log m i)
        ∙ (ap (λ l. cond (m == n) (call_where test log i) [] ++ l) (items_wanted log m items) ∙ by (m == n) (call_where test log i) (flat_map (call_where test log) items)))
      where
        by : (b : Bool) (xs ys : List ℕ) → cond b xs [] ++ cond b ys [] ≡ cond b (xs ++ ys) []
        by true xs ys = refl
        by false xs ys = refl

    wanted_by : (ts : List Telling) (log : List Entry) (e : Entry) → flat_map f (tells ts log e) ≡ calls_taken test n log e
    wanted_by ts log e = by e.event.act refl
      where
        by : (a : Act) → e.event.act ≡ a → flat_map f (tells ts log e) ≡ cond (steps_tracker n a) (flat_map (call_where test log) (taken log e)) []
        by (act.Tracker m) is =
            let first = called_tells log m e.event.at e.event.seed (list_any grants_peer e.puts) e.reply (taken log e) in
            let rest = flat_map (subscriber_tells log m) (taken log e) in
            ap (flat_map f) (tells_as ts log e (act.Tracker m) is)
            ∙ (flat_map-append f first rest
            ∙ (ap (λ l. l ++ flat_map f rest) (called_unwanted log m e.event.at e.event.seed (list_any grants_peer e.puts) e.reply (taken log e)) ∙ items_wanted log m (taken log e)))
        by a is = nothing_of questions f others ts log e (ap (λ b. are_apart (kinds_of b) questions) is)

    wanted-append : (log : List Entry) (e : Entry) → flat_map f (told (log ++ e ∷ [])) ≡ flat_map f (told log) ++ calls_taken test n log e
    wanted-append log e = collected-append log e f ∙ ap (λ l. flat_map f (told log) ++ l) (wanted_by (told log) log e)

one_wanted : (b : Bool) (e : ℕ) → cond b (e ∷ []) [] ++ [] ≡ cond b (e ∷ []) []
one_wanted true e = refl
one_wanted false e = refl

no_wanted : (b : Bool) → [] ≡ cond {A = List ℕ} b [] []
no_wanted true = refl
no_wanted false = refl

pub update_subscriptions-append : (log : List Entry) (e : Entry) (n : ℕ) → update_subscriptions (log ++ e ∷ []) n ≡ update_subscriptions log n ++ calls_taken subscribes n log e
unfolding update_subscriptions
update_subscriptions-append log e n = wanted-append (wants_sets n) others subscribes n each log e
  where
    others : (t : Telling) → has questions (telling_kind t) ≡ false → wants_sets n t ≡ []
    others (telling.sets_wanted m d) h = cc
    others _ h = refl

    asked : (m d : ℕ) (o : Option Act) → flat_map (wants_sets n) (wanted_tells m d (question_of o)) ≡ cond (m == n) (elim o [ None ↦ [] | Some a ↦ cond (subscribes a) (d ∷ []) [] ]) []
    asked m d (Some (act.Ask ask.Subscribe k)) = one_wanted (m == n) d
    asked m d (Some (act.Ask ask.Blocked k)) = no_wanted (m == n)
    asked m d (Some (act.Ask _ k)) = no_wanted (m == n)
    asked m d None = no_wanted (m == n)
    asked m d (Some _) = no_wanted (m == n)

    each : (before : List Entry) (m : ℕ) (i : Item) → flat_map (wants_sets n) (subscriber_tells before m i) ≡ cond (m == n) (call_where subscribes before i) []
    each before m (item.Call d) = asked m d (asked_by before d)
    each before m _ = no_wanted (m == n)

pub blocked_subscriptions-append : (log : List Entry) (e : Entry) (n : ℕ) → blocked_subscriptions (log ++ e ∷ []) n ≡ blocked_subscriptions log n ++ calls_taken subscribes_blocked n log e
unfolding blocked_subscriptions
blocked_subscriptions-append log e n = wanted-append (wants_blocks n) others subscribes_blocked n each log e
  where
    others : (t : Telling) → has questions (telling_kind t) ≡ false → wants_blocks n t ≡ []
    others (telling.blocks_wanted m d) h = cc
    others _ h = refl

    asked : (m d : ℕ) (o : Option Act) → flat_map (wants_blocks n) (wanted_tells m d (question_of o)) ≡ cond (m == n) (elim o [ None ↦ [] | Some a ↦ cond (subscribes_blocked a) (d ∷ []) [] ]) []
    asked m d (Some (act.Ask ask.Subscribe k)) = no_wanted (m == n)
    asked m d (Some (act.Ask ask.Blocked k)) = one_wanted (m == n) d
    asked m d (Some (act.Ask _ k)) = no_wanted (m == n)
    asked m d None = no_wanted (m == n)
    asked m d (Some _) = no_wanted (m == n)

    each : (before : List Entry) (m : ℕ) (i : Item) → flat_map (wants_blocks n) (subscriber_tells before m i) ≡ cond (m == n) (call_where subscribes_blocked before i) []
    each before m (item.Call d) = asked m d (asked_by before d)
    each before m _ = no_wanted (m == n)

pub subscriptions-none : (n : ℕ) → (update_subscriptions [] n ≡ []) × (blocked_subscriptions [] n ≡ [])
unfolding update_subscriptions blocked_subscriptions told state_from
subscriptions-none n = (refl, refl)
