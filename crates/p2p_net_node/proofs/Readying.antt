-- An act that may be asked for finds its nodes ready.
use Rattle.std.proofs.Common.{◌≡◌, ℕ, zero, suc, ◌+◌, ◌*◌, ◌^◌, ◌<◌, ◌≤◌, Bool, true, false, List, [], ◌∷◌, length, refl, ap, sym, subst, ◌∙◌, arith, Option, Some, None, inl, inr}
use Rattle.std.specs.Prelude.{slice_get, nat_lt, nat_le, not, ◌&&◌, is_some}
use Rattle.std.proofs.lemmas.Bool.{and_parts, not-true, false≢true}
use Rattle.std.proofs.lemmas.Option.{same_Some}
use Rattle.std.proofs.Math.Nat.{mul-pos}
use Rattle.std.proofs.lemmas.Bool.Decides.{nat_tests}
use Rattle.p2p_log_rules.proofs.Bools.{and_false, and_true}
use Rattle.p2p_log.specs.declared.config.Config.{Config}
use Rattle.p2p_log.specs.declared.entry.Entry.{Entry}
use Rattle.p2p_log.specs.declared.event.Rate.{Rate}
use Rattle.p2p_log.specs.declared.asked.Asked.TheVariants as ask
use Rattle.p2p_log.specs.declared.event.Act.{Act}
use Rattle.p2p_log.specs.declared.event.Act.TheVariants as act
use Rattle.p2p_log_rules.specs.Facts.{events_of, has_started, is_up, is_stopped, key_at, registered, capacity_for, capacity_in, sum_capacities}
use Rattle.p2p_log_rules.specs.Effect.{mailbox_size_at, limit_at}
use Rattle.p2p_log_rules.specs.Valid.{fits, sizes_fit, gates_fit, is_quota, fits_usize}
use Rattle.p2p_log_rules.specs.Valid as valid
use Rattle.p2p_log_rules.specs.Lawful.{IsLawful}
use Rattle.p2p_log_rules.proofs.Channels.{is_up-asked, channels-asked, up_lasts}
use Rattle.p2p_log_laws.proofs.Connecting.{connect_is_reserved}
use Rattle.p2p_log_laws.proofs.HeldPeers.{held_is_others}
use Rattle.p2p_log_laws.proofs.NodeGrants.{release_is_held}
use Rattle.p2p_net_tracker.specs.Stands.{ReleasesHeld, ConnectsReserved}
use Rattle.p2p_net_channels.specs.Stands.{ChannelsStand}
use Rattle.p2p_net_links.specs.declared.links.Links.{Links}
use Rattle.p2p_net_node.specs.Places as place
use Rattle.p2p_net_tracker.proofs.Answering.{may_answer, may_continue}
use Rattle.p2p_net_tracker.proofs.Begins.{may_take}
use Rattle.p2p_net_gates.proofs.ListenerChanges.{place_held}
use Rattle.p2p_net_gates.proofs.Stops.{handshakes_held}
use Rattle.p2p_log_rules.specs.declared.row.Opening.{Opening}
use Rattle.p2p_net_queues.specs.Tables as table
use Rattle.p2p_net_links.specs.Stands.{LinksStand}
use Rattle.p2p_net_node.specs.Places.{asked_node, or_first, node_asked, node_checking, linked_by, nodes_linked, node_of, other_of}
use Rattle.p2p_net_node.proofs.AskedOf.{set_asked, subscription_asked}
use Rattle.p2p_net_node.proofs.LinkedNodes.{opening_made}
use Rattle.p2p_net_node.specs.Ready.{is_node_up, may_register, names_spawner, checks, asks_set, subscribes, may_ask, may_at, may_act, IsReady, MayPerform, names_dialer, names_listener, is_link, links_attempt}
use Rattle.p2p_net_node.specs.Meetings.{meeting_of, MeetsThere}
use Rattle.p2p_net_node.specs.Stands.{RouterLives, OwnStands, NodeStands, WorldStands}
use Rattle.p2p_net_node.specs.declared.meeting.Ends.{Ends}
use Rattle.p2p_net_node.specs.declared.meeting.Meeting.{Meeting}
use Rattle.p2p_net_node.specs.declared.meeting.Meeting.TheVariants as meeting
use Rattle.p2p_net_node.specs.declared.node.Node.{Node}
use Rattle.p2p_net_node.proofs.Nodes.{some_at}
use Rattle.p2p_net_node.proofs.Routers.{is_unbound-before}
use Rattle.p2p_net_node.proofs.Requests.{MayRegister, may_register-is, sum_below}
use Rattle.p2p_net_node.proofs.Starts.{fits_there}
use Rattle.p2p_net_node.specs.Requested.{capacity_by, IsRequested, AreRequested}
use Rattle.p2p_net_node.specs.declared.requested.Requested.{Requested}

-- ---- what the code tests is what the log says

pub not_up : (log : List Entry) (n : ℕ) → is_stopped log n ≡ true → is_up log n ≡ false
not_up log n over = by (is_up log n) refl
  where
    by : (b : Bool) → is_up log n ≡ b → is_up log n ≡ false
    by true up = absurd (false≢true (sym (up_lasts log n up) ∙ over))
    by false is = is

pub started_is : (configs : List Config) (log : List Entry) (n : ℕ) (x : Node) → NodeStands configs log n x → is_node_up x ≡ is_up log n
started_is configs log n x s = by (is_stopped log n) refl
  where
    rout : RouterLives configs log n x.router
    rout = s.each place.router

    by : (b : Bool) → is_stopped log n ≡ b → is_node_up x ≡ is_up log n
    by false lasts = (rout.runs lasts).stands.bound ∙ ap (is_up log) rout.number
    by true over = (rout.rests over).unbound ∙ sym (not_up log n over)

-- one that has started has not stopped
pub lasts_started : (configs : List Config) (log : List Entry) (n : ℕ) (x : Node) → NodeStands configs log n x → is_node_up x ≡ true → is_stopped log n ≡ false
lasts_started configs log n x s started = up_lasts log n (sym (started_is configs log n x s) ∙ started)

size_is : (configs : List Config) (n : ℕ) (x : Node) → OwnStands configs n x → x.config.mailbox_size ≡ mailbox_size_at configs n
size_is configs n x s = sym (ap (λ (o : Option Config). elim o [ None ↦ 0 | Some c ↦ c.mailbox_size ]) s.config)

pub key_is : (configs : List Config) (n : ℕ) (x : Node) → OwnStands configs n x → x.config.public_key ≡ key_at configs n
key_is configs n x s = sym (ap (λ (o : Option Config). elim o [ None ↦ record { 0 = 0 } | Some c ↦ c.public_key ]) s.config)

limit_is : (configs : List Config) (n : ℕ) (x : Node) → OwnStands configs n x → x.config.max_message_size ≡ limit_at configs n
limit_is configs n x s = sym (ap (λ (o : Option Config). elim o [ None ↦ 0 | Some c ↦ c.max_message_size ]) s.config)

pub capacity_is : (configs : List Config) (n : ℕ) (rate : Rate) (x : Node) → OwnStands configs n x → capacity_by x rate ≡ capacity_for (slice_get configs n) rate
capacity_is configs n rate x s = ap (λ m. m * rate.burst) s.retained ∙ sym (ap (λ o. capacity_for o rate) s.config)

register_is : (configs : List Config) (log : List Entry) (n c : ℕ) (rate : Rate) (x : Node) (r : Requested) → OwnStands configs n x → IsRequested configs (events_of log) n r
    → may_register x r c rate ≡ valid.may_register configs (events_of log) c n rate
register_is configs log n c rate x r own asked =
    let regs = registered configs (events_of log) n in
    let tests : Bool → Option ℕ → ℕ → ℕ → ℕ → Bool = λ started o k size total.
    ((not started && not (is_some o)) && is_quota rate) && (fits_usize k && fits_usize (size + (total + k)))
    in
    ap (λ b. tests b (table.at r.capacities c) (capacity_by x rate) x.config.mailbox_size r.total) asked.started
    ∙ (ap (λ o. tests (has_started (events_of log) n) o (capacity_by x rate) x.config.mailbox_size r.total) (asked.capacities c)
    ∙ (ap (λ k. tests (has_started (events_of log) n) (capacity_in regs c) k x.config.mailbox_size r.total) (capacity_is configs n rate x own)
    ∙ (ap (λ k. tests (has_started (events_of log) n) (capacity_in regs c) (capacity_for (slice_get configs n) rate) k r.total) (size_is configs n x own)
    ∙ ap (λ k. tests (has_started (events_of log) n) (capacity_in regs c) (capacity_for (slice_get configs n) rate) (mailbox_size_at configs n) k) asked.total)))

spawned_is : (log : List Entry) (n conn : ℕ) → names_spawner n (slice_get log conn) ≡ valid.names_spawner (events_of log) n conn
spawned_is [] n conn = refl
spawned_is (e ∷ es) n zero = refl
spawned_is (e ∷ es) n (suc i) = spawned_is es n i

-- a question for a peer set names a node
set_is : (configs : List Config) (log : List Entry) (e : ℕ)
    → (nat_lt (node_asked (slice_get log e)) (length configs) && asks_set (slice_get log e)) ≡ valid.is_node configs (valid.set_asked_of (slice_get (events_of log) e))
set_is configs [] e = and_false (nat_lt 0 (length configs))
set_is configs (d ∷ ds) zero = by d.event.act
  where
    by : (a : Act) → (nat_lt (or_first (asked_node a)) (length configs) && is_some (valid.set_asked_by a)) ≡ valid.is_node configs (valid.set_asked_by a)
    by (act.Ask (ask.PeerSet index) n) = and_true (nat_lt n (length configs))
    by (act.Ask _ n) = and_false (nat_lt n (length configs))
    by _ = and_false (nat_lt 0 (length configs))
set_is configs (d ∷ ds) (suc i) = set_is configs ds i

-- and so does a subscription
subscription_is : (configs : List Config) (log : List Entry) (e : ℕ)
    → (nat_lt (node_asked (slice_get log e)) (length configs) && subscribes (slice_get log e)) ≡ valid.is_node configs (valid.subscribed_at (slice_get (events_of log) e))
subscription_is configs [] e = and_false (nat_lt 0 (length configs))
subscription_is configs (d ∷ ds) zero = by d.event.act
  where
    by : (a : Act) → (nat_lt (or_first (asked_node a)) (length configs) && is_some (valid.subscribed_by a)) ≡ valid.is_node configs (valid.subscribed_by a)
    by (act.Ask ask.Subscribe n) = and_true (nat_lt n (length configs))
    by (act.Ask ask.Blocked n) = and_true (nat_lt n (length configs))
    by (act.Ask _ n) = and_false (nat_lt n (length configs))
    by _ = and_false (nat_lt 0 (length configs))
subscription_is configs (d ∷ ds) (suc i) = subscription_is configs ds i

-- a check names a node
check_is : (configs : List Config) (log : List Entry) (e : ℕ)
    → (nat_lt (node_checking (slice_get log e)) (length configs) && checks (slice_get log e)) ≡ valid.is_node configs (valid.checked_of (slice_get (events_of log) e))
check_is configs [] e = and_false (nat_lt 0 (length configs))
check_is configs (d ∷ ds) zero = by d.event.act
  where
    by : (a : Act) → (nat_lt (or_first (valid.checked_by a)) (length configs) && is_some (valid.checked_by a)) ≡ valid.is_node configs (valid.checked_by a)
    by (act.Check c n to) = and_true (nat_lt n (length configs))
    by _ = and_false (nat_lt 0 (length configs))
check_is configs (d ∷ ds) (suc i) = check_is configs ds i

dialed_is : (log : List Entry) (n e : ℕ) → names_dialer n (slice_get log e) ≡ valid.names_dialer (events_of log) n e
dialed_is [] n e = refl
dialed_is (d ∷ ds) n zero = refl
dialed_is (d ∷ ds) n (suc i) = dialed_is ds n i

listened_is : (log : List Entry) (n e : ℕ) → names_listener n (slice_get log e) ≡ valid.names_listener (events_of log) n e
listened_is [] n e = refl
listened_is (d ∷ ds) n zero = refl
listened_is (d ∷ ds) n (suc i) = listened_is ds n i

-- an event that links an attempt of a node to another
linked_is : (configs : List Config) (log : List Entry) (link : ℕ)
    → (nat_lt (nodes_linked (slice_get log link)).dials (length configs) && (nat_lt (nodes_linked (slice_get log link)).listens (length configs) && links_attempt (slice_get log link)))
    ≡ valid.names_link configs (events_of log) link
linked_is configs [] link = nowhere (nat_lt 0 (length configs))
  where
    nowhere : (b : Bool) → (b && (b && false)) ≡ false
    nowhere true = refl
    nowhere false = refl
linked_is configs (d ∷ ds) zero = by d.event.act
  where
    nowhere : (b : Bool) → (b && (b && false)) ≡ false
    nowhere true = refl
    nowhere false = refl

    by : (a : Act) → (nat_lt (linked_by a).dials (length configs) && (nat_lt (linked_by a).listens (length configs) && is_link a)) ≡ valid.links_nodes configs a
    by (act.Connect e from n to) = ap (λ b. nat_lt n (length configs) && b) (and_true (nat_lt to (length configs)))
    by _ = nowhere (nat_lt 0 (length configs))
linked_is configs (d ∷ ds) (suc i) = linked_is configs ds i

lower : (i k : ℕ) → nat_lt i k ≡ true → i < k
lower i k h = grind (arith, nat_tests)

-- by whether the node is there
there : (b : Bool) (at rest : Bool) → (b ≡ true → at ≡ rest) → (b && (b && at)) ≡ (b && rest)
there true at rest h = h refl
there false at rest h = refl

there_plain : (b : Bool) (at : Bool) → (b ≡ true → at ≡ true) → (b && (b && at)) ≡ b
there_plain true at h = h refl
there_plain false at h = refl

all_there : (p q at rest : Bool) → (p ≡ true → at ≡ rest) → (p && (q && at)) ≡ (p && (q && rest))
all_there true q at rest h = ap (λ b. q && b) (h refl)
all_there false q at rest h = refl

module _ (configs : List Config) (log : List Entry) (nodes : List Node) (links : Links) (rs : List Requested) (s : WorldStands configs log nodes links) (requested : AreRequested configs (events_of log) rs) where
  counted : (n : ℕ) → nat_lt n (length nodes) ≡ nat_lt n (length configs)
  counted n = ap (nat_lt n) s.long

  -- what is asked of a node that is there
  asks_at : (n : ℕ) (a : Act) (b : Bool) → nat_lt n (length nodes) ≡ true → ((x : Node) (r : Requested) → NodeStands configs log n x → IsRequested configs (events_of log) n r → may_ask log x r a ≡ b)
      → may_at (slice_get nodes n) (slice_get rs n) log a ≡ b
  asks_at n a b lt h =
      let it = some_at nodes n (lower n (length nodes) lt) in
      let that = some_at rs n (lower n (length rs) (ap (nat_lt n) (requested.long ∙ sym s.long) ∙ lt)) in
      ap (λ (o : Option Node). may_at o (slice_get rs n) log a) it.is
      ∙ (ap (λ (o : Option Requested). may_at (Some it.x) o log a) that.is ∙ h it.x that.x (s.each n it.x it.is) (requested.each n that.x that.is))

  asks : (a : Act) (b : Bool) → nat_lt (node_of log a) (length nodes) ≡ true → ((x : Node) (r : Requested) → NodeStands configs log (node_of log a) x → IsRequested configs (events_of log) (node_of log a) r → may_ask log x r a ≡ b)
      → may_at (slice_get nodes (node_of log a)) (slice_get rs (node_of log a)) log a ≡ b
  asks a b lt h = asks_at (node_of log a) a b lt h

  -- an act of which nothing is asked but its node
  free : (a : Act) → ((x : Node) (r : Requested) → may_ask log x r a ≡ true) → nat_lt (node_of log a) (length nodes) && (nat_lt (node_of log a) (length nodes) && may_at (slice_get nodes (node_of log a)) (slice_get rs (node_of log a)) log a) ≡ nat_lt (node_of log a) (length configs)
  free a h = there_plain (nat_lt (node_of log a) (length nodes)) (may_at (slice_get nodes (node_of log a)) (slice_get rs (node_of log a)) log a) (λ lt. asks a true lt (λ x r t q. h x r)) ∙ counted (node_of log a)

  -- an act that names a step of its node's dialer
  of_dialer : (n e : ℕ) (a : Act) → ((x : Node) (r : Requested) → may_ask log x r a ≡ names_dialer n (slice_get log e))
      → (nat_lt n (length nodes) && (nat_lt n (length nodes) && may_at (slice_get nodes n) (slice_get rs n) log a)) ≡ (nat_lt n (length configs) && valid.names_dialer (events_of log) n e)
  of_dialer n e a asks_it =
      there (nat_lt n (length nodes)) (may_at (slice_get nodes n) (slice_get rs n) log a) (valid.names_dialer (events_of log) n e)
      (λ lt. asks_at n a (valid.names_dialer (events_of log) n e) lt (λ x r t q. asks_it x r ∙ dialed_is log n e))
      ∙ ap (λ b. b && valid.names_dialer (events_of log) n e) (counted n)

  may_by : (a : Act) → may_act nodes rs log a ≡ valid.may_act configs (events_of log) a
  may_by (act.Register c n rate) =
      there (nat_lt n (length nodes)) (may_at (slice_get nodes n) (slice_get rs n) log (act.Register c n rate)) (valid.may_register configs (events_of log) c n rate)
      (λ lt. asks (act.Register c n rate) (valid.may_register configs (events_of log) c n rate) lt (λ x r t q. register_is configs log n c rate x r t.own q))
      ∙ ap (λ b. b && valid.may_register configs (events_of log) c n rate) (counted n)
  may_by (act.Start n) =
      there (nat_lt n (length nodes)) (may_at (slice_get nodes n) (slice_get rs n) log (act.Start n)) (not (has_started (events_of log) n))
      (λ lt. asks (act.Start n) (not (has_started (events_of log) n)) lt (λ x r t q. ap (λ b. not b) q.started))
      ∙ ap (λ b. b && not (has_started (events_of log) n)) (counted n)
  may_by (act.Stop by_start n) =
      there (nat_lt n (length nodes)) (may_at (slice_get nodes n) (slice_get rs n) log (act.Stop by_start n)) (not (by_start && has_started (events_of log) n))
      (λ lt. asks (act.Stop by_start n) (not (by_start && has_started (events_of log) n)) lt (λ x r t q. ap (λ b. not (by_start && b)) q.started))
      ∙ ap (λ b. b && not (by_start && has_started (events_of log) n)) (counted n)
  may_by (act.SendChecked bytes check priority) =
      let n = node_checking (slice_get log check) in
      there (nat_lt n (length nodes)) (may_at (slice_get nodes n) (slice_get rs n) log (act.SendChecked bytes check priority)) (checks (slice_get log check))
      (λ lt. asks (act.SendChecked bytes check priority) (checks (slice_get log check)) lt (λ x r t q. refl))
      ∙ (ap (λ b. b && checks (slice_get log check)) (counted n) ∙ check_is configs log check)
  may_by (act.SendStep conn n) =
      there (nat_lt n (length nodes)) (may_at (slice_get nodes n) (slice_get rs n) log (act.SendStep conn n)) (valid.names_spawner (events_of log) n conn)
      (λ lt. asks (act.SendStep conn n) (valid.names_spawner (events_of log) n conn) lt (λ x r t q. spawned_is log n conn))
      ∙ ap (λ b. b && valid.names_spawner (events_of log) n conn) (counted n)
  may_by (act.RecvStep conn n) =
      there (nat_lt n (length nodes)) (may_at (slice_get nodes n) (slice_get rs n) log (act.RecvStep conn n)) (valid.names_spawner (events_of log) n conn)
      (λ lt. asks (act.RecvStep conn n) (valid.names_spawner (events_of log) n conn) lt (λ x r t q. spawned_is log n conn))
      ∙ ap (λ b. b && valid.names_spawner (events_of log) n conn) (counted n)
  may_by (act.Answer e) =
      let n = node_asked (slice_get log e) in
      there (nat_lt n (length nodes)) (may_at (slice_get nodes n) (slice_get rs n) log (act.Answer e)) (asks_set (slice_get log e)) (λ lt. asks (act.Answer e) (asks_set (slice_get log e)) lt (λ x r t q. refl))
      ∙ (ap (λ b. b && asks_set (slice_get log e)) (counted n) ∙ set_is configs log e)
  may_by (act.Next e) =
      let n = node_asked (slice_get log e) in
      there (nat_lt n (length nodes)) (may_at (slice_get nodes n) (slice_get rs n) log (act.Next e)) (subscribes (slice_get log e)) (λ lt. asks (act.Next e) (subscribes (slice_get log e)) lt (λ x r t q. refl))
      ∙ (ap (λ b. b && subscribes (slice_get log e)) (counted n) ∙ subscription_is configs log e)
  may_by (act.Handshake e n) =
      there (nat_lt n (length nodes)) (may_at (slice_get nodes n) (slice_get rs n) log (act.Handshake e n)) (valid.names_listener (events_of log) n e)
      (λ lt. asks (act.Handshake e n) (valid.names_listener (events_of log) n e) lt (λ x r t q. listened_is log n e))
      ∙ ap (λ b. b && valid.names_listener (events_of log) n e) (counted n)
  may_by (act.Attempt e n) = of_dialer n e (act.Attempt e n) (λ x r. refl)
  may_by (act.Resolve addresses e n) = of_dialer n e (act.Resolve addresses e n) (λ x r. refl)
  may_by (act.Connect e from n to) =
      all_there (nat_lt n (length nodes)) (nat_lt to (length nodes)) (may_at (slice_get nodes n) (slice_get rs n) log (act.Connect e from n to)) (valid.names_dialer (events_of log) n e)
      (λ lt. asks (act.Connect e from n to) (valid.names_dialer (events_of log) n e) lt (λ x r t q. dialed_is log n e))
      ∙ (ap (λ b. b && (nat_lt to (length nodes) && valid.names_dialer (events_of log) n e)) (counted n)
      ∙ ap (λ b. nat_lt n (length configs) && (b && valid.names_dialer (events_of log) n e)) (counted to))
  may_by (act.Refuse e n) = of_dialer n e (act.Refuse e n) (λ x r. refl)
  may_by (act.Finish link ok) =
      let n = (nodes_linked (slice_get log link)).dials in
      let to = (nodes_linked (slice_get log link)).listens in
      all_there (nat_lt n (length nodes)) (nat_lt to (length nodes)) (may_at (slice_get nodes n) (slice_get rs n) log (act.Finish link ok)) (links_attempt (slice_get log link))
      (λ lt. asks (act.Finish link ok) (links_attempt (slice_get log link)) lt (λ x r t q. refl))
      ∙ (ap (λ b. b && (nat_lt to (length nodes) && links_attempt (slice_get log link))) (counted n)
      ∙ (ap (λ b. nat_lt n (length configs) && (b && links_attempt (slice_get log link))) (counted to) ∙ linked_is configs log link))
  may_by (act.Cut link) =
      let n = (nodes_linked (slice_get log link)).dials in
      let to = (nodes_linked (slice_get log link)).listens in
      all_there (nat_lt n (length nodes)) (nat_lt to (length nodes)) (may_at (slice_get nodes n) (slice_get rs n) log (act.Cut link)) (links_attempt (slice_get log link))
      (λ lt. asks (act.Cut link) (links_attempt (slice_get log link)) lt (λ x r t q. refl))
      ∙ (ap (λ b. b && (nat_lt to (length nodes) && links_attempt (slice_get log link))) (counted n)
      ∙ (ap (λ b. nat_lt n (length configs) && (b && links_attempt (slice_get log link))) (counted to) ∙ linked_is configs log link))
  may_by a = free a (λ x r. refl)

pub may_act-nodes : (configs : List Config) (log : List Entry) (nodes : List Node) (links : Links) (rs : List Requested) (a : Act) → WorldStands configs log nodes links → AreRequested configs (events_of log) rs
    → may_act nodes rs log a ≡ valid.may_act configs (events_of log) a
may_act-nodes configs log nodes links rs a s requested = may_by configs log nodes links rs s requested a

-- ---- what a node that may be asked is ready for

-- the sizes of a node of valid configurations
pub sizes_there : (configs : List Config) (log : List Entry) (nodes : List Node) (links : Links) → WorldStands configs log nodes links → (n : ℕ) (x : Node) → slice_get nodes n ≡ Some x → fits x.config ≡ true
sizes_there configs log nodes links s n x g = fits_there configs n x.config s.valid (s.each n x g).own.config

-- the counts of a configuration are 1 or more, and its messages fit in a link
abbrev are_some : Config → Bool
are_some c = (nat_lt 0 c.max_peers_per_set && nat_lt 0 c.mailbox_size) && (nat_lt 0 c.tracked_peer_sets && nat_lt 0 c.send_batch_size)

some_and_short : (c : Config) → fits c ≡ true → (are_some c && nat_le c.max_message_size 16777200) ≡ true
some_and_short c fit = (and_parts (are_some c && nat_le c.max_message_size 16777200) (fits_usize (c.max_peers_per_set * c.tracked_peer_sets)) (and_parts (sizes_fit c) (gates_fit c) fit).0).0

short_message : (c : Config) → fits c ≡ true → nat_le c.max_message_size 16777200 ≡ true
short_message c fit = (and_parts (are_some c) (nat_le c.max_message_size 16777200) (some_and_short c fit)).1

-- a count that is tested is 1 or more
is_some_count : (k : ℕ) → nat_lt 0 k ≡ true → 1 ≤ k
is_some_count k is = grind (arith, nat_tests)

record Counts (c : Config) : Type 0 where
  mailbox : 1 ≤ c.mailbox_size
  peers : 1 ≤ c.max_peers_per_set
  sets : 1 ≤ c.tracked_peer_sets

counts_of : (c : Config) → fits c ≡ true → Counts c
counts_of c fit =
    let both = and_parts (nat_lt 0 c.max_peers_per_set && nat_lt 0 c.mailbox_size) (nat_lt 0 c.tracked_peer_sets && nat_lt 0 c.send_batch_size) (and_parts (are_some c) (nat_le c.max_message_size 16777200) (some_and_short c fit)).0 in
    let first = and_parts (nat_lt 0 c.max_peers_per_set) (nat_lt 0 c.mailbox_size) both.0 in
    record {
      mailbox = is_some_count c.mailbox_size first.1;
      peers = is_some_count c.max_peers_per_set first.0;
      sets = is_some_count c.tracked_peer_sets (and_parts (nat_lt 0 c.tracked_peer_sets) (nat_lt 0 c.send_batch_size) both.1).0;
    }

pub one_mailbox : (c : Config) → fits c ≡ true → 1 ≤ c.mailbox_size
one_mailbox c fit = (counts_of c fit).mailbox

-- a channel whose quota admits something has a place
some_places : (configs : List Config) (n : ℕ) (rate : Rate) (x : Node) → OwnStands configs n x → fits x.config ≡ true → is_quota rate ≡ true → 1 ≤ capacity_by x rate
some_places configs n rate x own fit quota =
    let counts = counts_of x.config fit in
    subst (λ k. 1 ≤ k * rate.burst) (sym own.retained)
    (product (x.config.max_peers_per_set * x.config.tracked_peer_sets) rate.burst (product x.config.max_peers_per_set x.config.tracked_peer_sets counts.peers counts.sets)
    (is_some_count rate.burst (and_parts (nat_lt 0 rate.burst) (nat_lt 0 rate.period) quota).0))
  where
    product : (a b : ℕ) → 1 ≤ a → 1 ≤ b → 1 ≤ a * b
    product a b h g = one_at_least (mul-pos (more_than_none h) (more_than_none g))
      where
        more_than_none : {k : ℕ} → 1 ≤ k → 0 < k
        more_than_none {k} h = omega (arith, h)

        one_at_least : {k : ℕ} → 0 < k → 1 ≤ k
        one_at_least {k} h = omega (arith, h)

quotas : (c : Config) → fits c ≡ true → (is_quota c.allowed_handshake_rate_per_ip ≡ true) × (is_quota c.allowed_handshake_rate_per_subnet ≡ true)
quotas c fit =
    let gates = (and_parts (sizes_fit c) (gates_fit c) fit).1 in
    let both = (and_parts (nat_lt 0 c.max_concurrent_handshakes) (is_quota c.allowed_handshake_rate_per_ip && is_quota c.allowed_handshake_rate_per_subnet) gates).1 in
    and_parts (is_quota c.allowed_handshake_rate_per_ip) (is_quota c.allowed_handshake_rate_per_subnet) both

short : (k m : ℕ) → nat_le k m ≡ true → nat_le m 16777200 ≡ true → k < 2 ^ 32
short k m h g = grind (arith, nat_tests)

ready_by : (configs : List Config) (log : List Entry) (n : ℕ) (a : Act) (x : Node) → n ≡ node_of log a → NodeStands configs log n x → ReleasesHeld configs log n → (is_stopped log n ≡ false → ConnectsReserved configs log n)
    → fits x.config ≡ true → valid.may_act configs (events_of log) a ≡ true → IsReady a x
ready_by configs log n (act.Register c m rate) x here s released reserved fit may =
    let chan : ChannelsStand configs log n x.channels = s.each place.channels in
    let asked : MayRegister configs (events_of log) c n rate =
    may_register-is configs (events_of log) c n rate
    (ap (λ i. valid.may_register configs (events_of log) c i rate) here ∙ (and_parts (nat_lt m (length configs)) (valid.may_register configs (events_of log) c m rate) may).1)
    in (
      (λ runs.
          sum_below (mailbox_size_at configs n) (sum_capacities (registered configs (events_of log) n)) (capacity_for (slice_get configs n) rate) x.channels.total (capacity_by x rate)
          (chan.total ∙ ap sum_capacities (channels-asked configs log n (sym s.life ∙ runs))) (capacity_is configs n rate x s.own) asked.room),
      (some_places configs n rate x s.own fit asked.quota, asked.quota),
    )
ready_by configs log n (act.Start m) x here s released reserved fit may =
    let chan : ChannelsStand configs log n x.channels = s.each place.channels in
    let rout : RouterLives configs log n x.router = s.each place.router in
    let fresh : has_started (events_of log) n ≡ false = ap (has_started (events_of log)) here ∙ not-true (has_started (events_of log) m) (and_parts (nat_lt m (length configs)) (not (has_started (events_of log) m)) may).1 in (
      (λ runs. let lasts : is_stopped log n ≡ false = sym s.life ∙ runs in is_unbound-before configs log n x.router (rout.runs lasts) (is_up-asked log n lasts ∙ fresh)),
      (
        one_mailbox x.config fit,
        (subst (λ k. k + x.channels.total < 2 ^ 64) (sym (size_is configs n x s.own)) chan.room, quotas x.config fit),
      ),
    )
ready_by configs log n (act.Stop by_start m) x here s released reserved fit may = λ sorted. no_more (length x.listening.handshakes) x.listening.actor.places.held (handshakes_held configs log n x.listening (s.each place.listener) sorted)
  where
    no_more : (k held : ℕ) → k ≡ held → k ≤ held
    no_more k held same = omega (arith, same)
ready_by configs log n (act.SendStep conn m) x here s released reserved fit may = one_mailbox x.config fit
ready_by configs log n (act.Tracker m) x here s released reserved fit may = λ started now. may_take configs log n now x.tracker (s.each place.tracker) released (reserved (lasts_started configs log n x s started))
ready_by configs log n (act.Answer e) x here s released reserved fit may =
    let question = set_asked configs log e may in
    may_answer configs log n e x.tracker (s.each place.tracker) question.0 (question.1 ∙ ap (λ m. Some (act.Ask (ask.PeerSet question.0) m)) (sym here))
ready_by configs log n (act.Next e) x here s released reserved fit may =
    may_continue configs log n e x.tracker (s.each place.tracker)
    (elim (subscription_asked configs log e may) [
      | inl updates ↦ inl (updates ∙ ap (λ m. Some (act.Ask ask.Subscribe m)) (sym here))
      | inr blocked ↦ inr (blocked ∙ ap (λ m. Some (act.Ask ask.Blocked m)) (sym here))
    ])
ready_by configs log n (act.Handshake e m) x here s released reserved fit may = λ there. place_held configs log n e x.listening (s.each place.listener) there
ready_by configs log n _ x here s released reserved fit may = tt

-- in a lawful log a release that the tracker is to take is of a key that is held
releases_held : (configs : List Config) (log : List Entry) (n : ℕ) → IsLawful configs (events_of log) log → ReleasesHeld configs log n
releases_held configs log n lawful key x rest first is =
    let held = release_is_held configs (events_of log) log lawful n key x rest first is in
    (held, held_is_others configs (events_of log) log lawful n key held)

-- and a connection that the tracker of a node that has not stopped is to hear of is of a key that is reserved
connects_reserved : (configs : List Config) (log : List Entry) (n : ℕ) → IsLawful configs (events_of log) log → is_stopped log n ≡ false → ConnectsReserved configs log n
connects_reserved configs log n lawful lasts conn key x rest first is = connect_is_reserved configs (events_of log) log lawful n conn key x rest lasts first is

-- the nodes that an act brings together are those that it names
ends_there : (configs : List Config) (log : List Entry) (nodes : List Node) (l : Links) → LinksStand configs log l → (a : Act) → node_of log a < length nodes → other_of log (node_of log a) a < length nodes
    → (how : Meeting) → meeting_of a ≡ Some how → MeetsThere how nodes l
ends_there configs log nodes l t (act.Connect e from m k) first second how is =
    subst (λ h. MeetsThere h nodes l) (same_Some (meeting.Link e from (record { dials = m; listens = k })) how is) (first, second)
ends_there configs log nodes l t (act.Finish link ok) first second how is = subst (λ h. MeetsThere h nodes l) (same_Some (meeting.Finish link ok) how is) open_there
  where
    open_there : (o : Opening) → table.at l.openings link ≡ Some o → (o.node < length nodes) × (o.to < length nodes)
    open_there o at =
        let made = opening_made log link o (sym (t.openings link) ∙ at) in
        (subst (λ i. i < length nodes) (ap (λ (e : Ends). e.dials) made) first, subst (λ i. i < length nodes) (ap (λ (e : Ends). e.listens) made) second)
ends_there configs log nodes l t (act.Cut link) first second how is = subst (λ h. MeetsThere h nodes l) (same_Some (meeting.Cut link) how is) tt
ends_there configs log nodes l t _ first second how is = cc

-- an act that may be asked for finds its nodes there, and ready
pub may_perform : (configs : List Config) (log : List Entry) (nodes : List Node) (links : Links) (rs : List Requested) (a : Act) → WorldStands configs log nodes links → AreRequested configs (events_of log) rs
    → IsLawful configs (events_of log) log → valid.may_act configs (events_of log) a ≡ true → MayPerform nodes links (node_of log a) a
may_perform configs log nodes links rs a s requested lawful may =
    let n = node_of log a in
    let m = other_of log n a in
    let test : may_act nodes rs log a ≡ true = may_act-nodes configs log nodes links rs a s requested ∙ may in
    let one = and_parts (nat_lt n (length nodes)) (nat_lt m (length nodes) && may_at (slice_get nodes n) (slice_get rs n) log a) test in
    let two = and_parts (nat_lt m (length nodes)) (may_at (slice_get nodes n) (slice_get rs n) log a) one.1 in
    record {
      first = lower n (length nodes) one.0;
      ready = λ x there.
          ready_by configs log n a x refl (s.each n x there) (releases_held configs log n lawful) (connects_reserved configs log n lawful) (sizes_there configs log nodes links s n x there) may;
      ends = λ how is. ends_there configs log nodes links s.linked a (lower n (length nodes) one.0) (lower m (length nodes) two.0) how is;
      sizes = λ i x there. one_mailbox x.config (sizes_there configs log nodes links s i x there);
      numbers = λ i x there. let r : RouterLives configs log i x.router = (s.each i x there).each place.router in r.number;
    }
