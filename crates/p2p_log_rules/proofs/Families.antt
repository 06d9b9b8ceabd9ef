-- Of which kinds of things an act tells, so that it leaves alone what is read off what was told of others.
use Rattle.std.proofs.Common.{◌≡◌, ℕ, Bool, true, false, List, [], ◌∷◌, length, refl, ap, sym, ◌∙◌, eqb-true}
use Rattle.std.specs.Prelude.{◌==◌, ◌||◌, not}
use Rattle.std.specs.List.{list_any}
use Rattle.p2p_log.specs.declared.queue.Queue.{Queue}
use Rattle.p2p_log.specs.declared.item.Item.{Item}
use Rattle.p2p_log.specs.declared.entry.Entry.{Entry}
use Rattle.p2p_log.specs.declared.entry.Reply.{Reply}
use Rattle.p2p_log.specs.declared.event.Act.{Act}
use Rattle.p2p_log.specs.declared.event.Act.TheVariants as act
use Rattle.p2p_log_rules.specs.Taking.{taken}
use Rattle.p2p_log_rules.specs.Tellings.{Telling}
use Rattle.p2p_log_rules.specs.Tellings as telling
use Rattle.p2p_log_rules.specs.Told.{act_tells, tells}
use Rattle.p2p_log_rules.proofs.TellingKinds.{Kind, code, same_kind}
use Rattle.p2p_log_rules.proofs.TellingKinds as kind
use Rattle.p2p_log_rules.proofs.Told.{NoneTold, quiet_act}
use Rattle.p2p_log_rules.proofs.Tellings.{or_left, or_right}

-- of which kind a telling is
abbrev pub telling_kind : Telling → Kind
telling_kind (telling.node_started m at) = kind.node_started
telling_kind (telling.node_stopped m) = kind.node_stopped
telling_kind (telling.list_asked m at) = kind.list_asked
telling_kind (telling.list_taken m asked seed next peers) = kind.list_taken
telling_kind (telling.answer_taken m) = kind.answer_taken
telling_kind (telling.dial_asked m) = kind.dial_asked
telling_kind (telling.dial_due m at) = kind.dial_due
telling_kind (telling.attempt_begun m k key ingress at) = kind.attempt_begun
telling_kind (telling.addresses_told m k) = kind.addresses_told
telling_kind (telling.dial_answered m k event) = kind.dial_answered
telling_kind (telling.link_opened m k link to) = kind.link_opened
telling_kind (telling.addresses_taken m k seed addresses) = kind.addresses_taken
telling_kind (telling.link_taken m k at) = kind.link_taken
telling_kind (telling.attempt_ended m k) = kind.attempt_ended
telling_kind (telling.end_dropped link s) = kind.end_dropped
telling_kind (telling.connection_made m k key link) = kind.connection_made
telling_kind (telling.channel_registered m c rate) = kind.channel_registered
telling_kind (telling.exchange_ended link) = kind.exchange_ended
telling_kind (telling.arrival_taken m link handshake) = kind.arrival_taken
telling_kind (telling.handshake_begun m h from key link at) = kind.handshake_begun
telling_kind (telling.handshake_took m h items) = kind.handshake_took
telling_kind (telling.handshake_ended m h link) = kind.handshake_ended
telling_kind (telling.half_stepped m conn) = kind.half_stepped
telling_kind (telling.connection_ended m conn) = kind.connection_ended
telling_kind (telling.blocks_ended m at) = kind.blocks_ended
telling_kind (telling.set_asked m index primary secondary) = kind.set_asked
telling_kind (telling.addresses_asked m peers) = kind.addresses_asked
telling_kind (telling.block_asked m at key) = kind.block_asked
telling_kind (telling.connection_heard m at conn key) = kind.connection_heard
telling_kind (telling.dial_weighed m at seed key granted) = kind.dial_weighed
telling_kind (telling.listen_weighed m at seed key granted) = kind.listen_weighed
telling_kind (telling.release_heard m key) = kind.release_heard
telling_kind (telling.sets_wanted m event) = kind.sets_wanted
telling_kind (telling.blocks_wanted m event) = kind.blocks_wanted
telling_kind (telling.lists_wanted m c) = kind.lists_wanted
telling_kind (telling.ready_routed m conn key) = kind.ready_routed
telling_kind (telling.release_routed m key) = kind.release_routed
telling_kind (telling.peers_listed m c keys) = kind.peers_listed
telling_kind (telling.connection_ran m k at) = kind.connection_ran
telling_kind (telling.ping_put m k at) = kind.ping_put
telling_kind (telling.item_admitted m k at i) = kind.item_admitted
telling_kind (telling.sends_admitted m c at keys) = kind.sends_admitted
telling_kind (telling.check_made m k c keys) = kind.check_made
telling_kind (telling.check_spent k) = kind.check_spent
telling_kind (telling.reader_dropped m c) = kind.reader_dropped
telling_kind (telling.question_answered e) = kind.question_answered
telling_kind (telling.link_cut link) = kind.link_cut
telling_kind (telling.update_taken m addresses) = kind.update_taken
telling_kind (telling.arrival_judged m at from g) = kind.arrival_judged

-- the kinds that an act may tell: one line for an act
abbrev pub kinds_of : Act → List Kind
kinds_of (act.Register c m rate) = kind.channel_registered ∷ []
kinds_of (act.Start m) = kind.node_started ∷ []
kinds_of (act.Stop by_start m) = kind.node_stopped ∷ kind.attempt_ended ∷ kind.end_dropped ∷ kind.handshake_ended ∷ kind.connection_ended ∷ []
kinds_of (act.Router m) = kind.lists_wanted ∷ kind.ready_routed ∷ kind.release_routed ∷ kind.peers_listed ∷ []
kinds_of (act.Tracker m) = kind.blocks_ended ∷ kind.set_asked ∷ kind.addresses_asked ∷ kind.block_asked ∷ kind.connection_heard ∷ kind.dial_weighed ∷ kind.listen_weighed ∷ kind.release_heard ∷ kind.sets_wanted ∷ kind.blocks_wanted ∷ []
kinds_of (act.Send bytes c m priority to) = kind.sends_admitted ∷ []
kinds_of (act.Check c m to) = kind.sends_admitted ∷ kind.check_made ∷ []
kinds_of (act.SendChecked bytes check priority) = kind.check_spent ∷ []
kinds_of (act.SendStep conn m) = kind.end_dropped ∷ kind.half_stepped ∷ kind.connection_ended ∷ kind.connection_ran ∷ kind.ping_put ∷ []
kinds_of (act.RecvStep conn m) = kind.end_dropped ∷ kind.connection_ended ∷ kind.item_admitted ∷ []
kinds_of (act.Close c m) = kind.reader_dropped ∷ []
kinds_of (act.Dialer m) = kind.list_asked ∷ kind.list_taken ∷ kind.answer_taken ∷ kind.dial_asked ∷ kind.dial_due ∷ kind.attempt_begun ∷ []
kinds_of (act.Listener m) = kind.end_dropped ∷ kind.arrival_taken ∷ kind.handshake_begun ∷ kind.update_taken ∷ kind.arrival_judged ∷ []
kinds_of (act.Handshake h m) = kind.end_dropped ∷ kind.handshake_took ∷ kind.handshake_ended ∷ []
kinds_of (act.Spawner m) = kind.connection_made ∷ []
kinds_of (act.Attempt k m) = kind.addresses_taken ∷ kind.link_taken ∷ kind.attempt_ended ∷ kind.end_dropped ∷ []
kinds_of (act.Resolve addresses k m) = kind.addresses_told ∷ []
kinds_of (act.Connect k from m to) = kind.dial_answered ∷ kind.link_opened ∷ []
kinds_of (act.Refuse k m) = kind.dial_answered ∷ []
kinds_of (act.Finish link ok) = kind.exchange_ended ∷ []
kinds_of (act.Cut link) = kind.link_cut ∷ []
kinds_of (act.Answer question) = kind.question_answered ∷ []
kinds_of _ = []

abbrev pub has : List Kind → Kind → Bool
has ks k = list_any (λ j. same_kind j k) ks

abbrev pub are_apart : List Kind → List Kind → Bool
are_apart ks js = not (list_any (has js) ks)

-- it tells no other: one line for an act
within : (name at : ℕ) (a : Act) → NoneTold (λ t. not (has (kinds_of a) (telling_kind t))) name at a
within name at (act.Register c m rate) = refl
within name at (act.Start m) = refl
within name at (act.Stop by_start m) = record { stops = refl; attempt = λ k. refl; handshake = λ h link. refl; connection = λ conn. refl; drops = λ link s. refl }
within name at (act.Router m) = record { wants = λ c. refl; ready = λ conn key. refl; release = λ key. refl; list = λ n c keys. refl }
within name at (act.Tracker m) = record {
  unblocks = refl;
  set = λ index primary secondary. refl;
  addresses = λ peers. refl;
  block = λ key. refl;
  connection = λ conn key. refl;
  dial = λ seed key granted. refl;
  listen = λ seed key granted. refl;
  release = λ key. refl;
  sets = λ e. refl;
  blocks = λ e. refl;
}
within name at (act.Send bytes c m priority to) = λ keys. refl
within name at (act.Check c m to) = (λ keys. refl, λ keys. refl)
within name at (act.SendChecked bytes check priority) = refl
within name at (act.SendStep conn m) = (record { over = refl; drops = λ link s. refl }, record { step = refl; runs = refl; pings = refl })
within name at (act.RecvStep conn m) = (record { over = refl; drops = λ link s. refl }, λ i. refl)
within name at (act.Close c m) = refl
within name at (act.Dialer m) = record { list = λ asked seed next peers. refl; answer = refl; begun = λ key ingress. refl; due = refl; dials = refl; asks = refl }
within name at (act.Listener m) = (record { took = λ link handshake. refl; begun = λ from key link. refl; drops = λ link. refl }, record { update = λ addresses. refl; arrival = λ from g. refl })
within name at (act.Handshake e m) = record { took = λ items. refl; over = λ link. refl; drops = λ link. refl }
within name at (act.Spawner m) = λ key link. refl
within name at (act.Attempt e m) = record { addresses = λ seed addresses. refl; link = refl; ended = refl; drops = λ link. refl }
within name at (act.Resolve addresses e m) = refl
within name at (act.Connect e from m to) = (refl, refl)
within name at (act.Refuse e m) = refl
within name at (act.Finish link ok) = refl
within name at (act.Cut link) = refl
within name at (act.Answer question) = refl
within name at _ = tt

is_not : (b : Bool) → not b ≡ false → b ≡ true
is_not true h = refl
is_not false h = cc

-- what is among these is not among those
other : (ks js : List Kind) (k : Kind) → list_any (has js) ks ≡ false → has ks k ≡ true → has js k ≡ false
other [] js k none is = cc
other (j ∷ ks) js k none is = by (same_kind j k) refl is (λ so. other ks js k (or_right (has js j) (list_any (has js) ks) none) so)
  where
    by : (b : Bool) → same_kind j k ≡ b → (b || has ks k) ≡ true → (has ks k ≡ true → has js k ≡ false) → has js k ≡ false
    by true same so later = ap (λ c. list_any (λ i. code i == c) js) (sym (eqb-true (code j) (code k) same)) ∙ or_left (has js j) (list_any (has js) ks) none
    by false differ so later = later so

-- a test of tellings of these kinds holds of nothing that is told of others
narrower : (about : Telling → Bool) (ks js : List Kind) → ((t : Telling) → has js (telling_kind t) ≡ false → about t ≡ false) → list_any (has js) ks ≡ false → (ts : List Telling)
    → list_any (λ t. not (has ks (telling_kind t))) ts ≡ false → list_any about ts ≡ false
narrower about ks js all apart [] h = refl
narrower about ks js all apart (t ∷ ts) h =
    let here : has ks (telling_kind t) ≡ true = is_not (has ks (telling_kind t)) (or_left (not (has ks (telling_kind t))) (list_any (λ u. not (has ks (telling_kind u))) ts) h) in
    ap (λ b. b || list_any about ts) (all t (other ks js (telling_kind t) apart here)) ∙ narrower about ks js all apart ts (or_right (not (has ks (telling_kind t))) (list_any (λ u. not (has ks (telling_kind u))) ts) h)

is_false : (b : Bool) → not b ≡ true → b ≡ false
is_false true h = cc
is_false false h = refl

-- an act that tells none of these kinds tells nothing of a thing of these
pub untold_act : (about : Telling → Bool) (js : List Kind) → ((t : Telling) → has js (telling_kind t) ≡ false → about t ≡ false)
    → (ts : List Telling) (before : List Entry) (name at seed : ℕ) (r : Reply) (items : List Item) (puts : List (Queue × Item)) (a : Act) → are_apart (kinds_of a) js ≡ true
    → list_any about (act_tells ts before name at seed r items puts a) ≡ false
untold_act about js all ts before name at seed r items puts a h =
    narrower about (kinds_of a) js all (is_false (list_any (has js) (kinds_of a)) h) (act_tells ts before name at seed r items puts a)
    (quiet_act (λ t. not (has (kinds_of a) (telling_kind t))) name at ts before seed r items puts a (within name at a))

-- and so does an entry of it
pub untold_of : (about : Telling → Bool) (js : List Kind) → ((t : Telling) → has js (telling_kind t) ≡ false → about t ≡ false) → (ts : List Telling) (log : List Entry) (e : Entry) → are_apart (kinds_of e.event.act) js ≡ true
    → list_any about (tells ts log e) ≡ false
unfolding tells
untold_of about js all ts log e h = untold_act about js all ts log (length log) e.event.at e.event.seed e.reply (taken log e) e.puts e.event.act h
