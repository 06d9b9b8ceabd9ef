-- The calls of a node: registering, starting, sending and reading.
use Rattle.std.proofs.Common.{option_map, ◌≡◌, ℕ, Bool, ◌+◌, ◌*◌, ◌^◌, ◌<◌, true, false, cond, List, [], ◌∷◌, ◌++◌, length, map, refl, ap, sym, subst, ◌∙◌, arith, Option, Some, None}
use Rattle.std.specs.Prelude.{filter, flat_map, slice_get, nat_lt}
use Rattle.std.proofs.lemmas.Bool.{and_parts}
use Rattle.std.proofs.lemmas.Bool.Decides.{nat_tests}
use Rattle.p2p_log.specs.declared.config.Config.{Config}
use Rattle.p2p_log.specs.declared.queue.Queue.TheVariants as queue
use Rattle.p2p_log.specs.declared.item.Item.{Item}
use Rattle.p2p_log.specs.declared.item.Item.TheVariants as item
use Rattle.p2p_log.specs.declared.item.Envelope.{Envelope}
use Rattle.p2p_log.specs.declared.entry.Entry.{Entry}
use Rattle.p2p_log.specs.declared.entry.Reply.TheVariants as reply
use Rattle.p2p_log.specs.declared.event.Rate.{Rate}
use Rattle.p2p_log.specs.declared.event.Act.TheVariants as act
use Rattle.p2p_log.specs.Lines.{line, name_of, placed, stands_in, ended_item}
use Rattle.p2p_log_rules.specs.declared.row.Row.{Row}
use Rattle.p2p_log_rules.specs.Facts.{events_of, registers_at, capacity_for, channels, capacity_in, sum_capacities, is_up, is_stopped, registered, stops}
use Rattle.p2p_log_rules.specs.Effect.{only, row, effect, entry_of, start_row, read_row, oldest_read, recv_row, mailbox_size_at, router_capacity}
use Rattle.p2p_log_rules.specs.Listening.{quota_of}
use Rattle.p2p_log_rules.specs.Valid.{is_quota, may_register, may_act}
use Rattle.p2p_log_rules.proofs.Channels.{is_up-asked, channels-asked, is_stopped-kept}
use Rattle.p2p_runtime.specs.QuotaStep.{IsQuota}
use Rattle.p2p_log_laws.proofs.Untouched.{line-untouched}
use Rattle.p2p_net_queues.specs.Lines.{HoldsLines}
use Rattle.p2p_net_queues.specs.Tables as table
use Rattle.p2p_net_queues.specs.Tables.{waiting, popped_at}
use Rattle.p2p_net_router.specs.Stands.{StandsFor}
use Rattle.p2p_net_router.specs.declared.router.Router.{Router}
use Rattle.p2p_base.specs.declared.key.Key.{Key}
use Rattle.p2p_flow_connection.specs.Arriving.{arrival_waiting, without_arrival}
use Rattle.p2p_net_channels.specs.declared.channels.Channels.{Channels}
use Rattle.p2p_net_channels.specs.Channels.{registered_with, has_reader, none_told, read_told, named_after, read_from}
use Rattle.p2p_net_channels.specs.Stands.{received, ChannelsStand}
use Rattle.p2p_net_queues.proofs.Holding.{holds_taken}
use Rattle.p2p_net_channels.proofs.Changes.{channels_moved, same_channel, channels_stopped}
use Rattle.p2p_net_channels.proofs.Mailboxes.{mailboxes_read, read_is, oldest_named}
use Rattle.p2p_net_channels.proofs.Readers.{reader_is}
use Rattle.p2p_net_channels.proofs.Registering.{channels_registered}
use Rattle.p2p_net_links.specs.Stands.{LinksStand}
use Rattle.p2p_net_links.specs.declared.links.Links.{Links}
use Rattle.p2p_net_gates.specs.Dialing.{started}
use Rattle.p2p_net_gates.specs.DialerStands.{DialerStands, AttemptStands, gates_at, actor_of}
use Rattle.p2p_net_gates.proofs.DialerChanges.{dialer_starts}
use Rattle.p2p_net_node.specs.Places as place
use Rattle.p2p_net_node.specs.Requested.{capacity_by}
use Rattle.p2p_net_calls.specs.Calls.{Registers, Starts, ReadsOn, Reads, RegistersBy, StartsBy}
use Rattle.p2p_net_node.specs.Stands.{RouterStands, NodeStands}
use Rattle.p2p_net_node.specs.declared.node.Node.{Node}
use Rattle.p2p_net_node.proofs.EachPart.{with_parts, each_part, not_among}
use Rattle.p2p_net_node.proofs.Frames.{links_kept, lives_on, lasts_after}
use Rattle.p2p_net_node.proofs.Receivers.{admits_apart, sends_apart, closes_apart}
use Rattle.p2p_net_node.proofs.Routers.{hears_aside, RouterStands-moved, is_unbound-before}
use Rattle.p2p_net_node.proofs.Performing.{asked, Performs, effect-still, stays_performs, line-still, rests_still}
use Rattle.p2p_net_node.proofs.Readying.{not_up}
use Rattle.p2p_net_router.proofs.Unrouted.{unrouted_apart}
use Rattle.p2p_log.specs.declared.entry.Reply.{Reply}
use Rattle.p2p_net_gates.specs.declared.dialing.Dialing.{Dialing}
use Rattle.p2p_log_rules.specs.Dialing.{dials_of}
use Rattle.p2p_log_rules.specs.Attempting.{attempts_of}
use Rattle.p2p_log_rules.proofs.AttemptTellings.{attempts_of-kept, tries}
use Rattle.p2p_net_node.proofs.Requests.{MayRegister, may_register-is}

-- ---- register

-- a rate that is tested is a quota
quota_is : (rate : Rate) → is_quota rate ≡ true → IsQuota (quota_of rate)
quota_is rate h =
    let parts = and_parts (nat_lt 0 rate.burst) (nat_lt 0 rate.period) h in
    record { some_burst = some rate.burst parts.0; some_period = some rate.period parts.1 }
  where
    some : (k : ℕ) → nat_lt 0 k ≡ true → 0 < k
    some k is = grind (arith, nat_tests)

-- at a node that has not stopped
register_runs : (configs : List Config) (log : List Entry) (at seed n c : ℕ) (rate : Rate) (x y : Node) (l links : Links) (r : Row) → NodeStands configs log n x → LinksStand configs log l → is_stopped log n ≡ false
    → may_act configs (events_of log) (act.Register c n rate) ≡ true → RegistersBy false c rate x y r → links ≡ l → Performs configs log (asked at seed (act.Register c n rate)) n y links r
unfolding effect row
register_runs configs log at seed n c rate x y l links r s t lasts valid d kept =
    let ev = asked at seed (act.Register c n rate) in
    let e = effect configs log ev in
    let k = capacity_by x rate in
    let chan : ChannelsStand configs log n x.channels = s.each place.channels in
    let rout : RouterStands configs log n x.router = (s.each place.router).runs lasts in
    let amount : k ≡ capacity_for (slice_get configs n) rate = ap (λ m. m * rate.burst) s.own.retained ∙ sym (ap (λ o. capacity_for o rate) s.own.config) in
    let may : MayRegister configs (events_of log) c n rate =
    may_register-is configs (events_of log) c n rate (and_parts (nat_lt n (length configs)) (may_register configs (events_of log) c n rate) valid).1
    in
    let regs = channels configs log n in
    let capacity = capacity_for (slice_get configs n) rate in
    let same : regs ≡ registered configs (events_of log) n = channels-asked configs log n lasts in
    let early : is_up log n ≡ false = is_up-asked log n lasts ∙ may.fresh in
    let absent : capacity_in regs c ≡ None = ap (λ j. capacity_in j c) same ∙ may.absent in
    let room : mailbox_size_at configs n + (x.channels.total + k) < 2 ^ 64 =
    counted (mailbox_size_at configs n) (sum_capacities (registered configs (events_of log) n)) capacity x.channels.total k (chan.total ∙ ap sum_capacities same) amount may.room
    in
    let parts : y ≡ record x { router = y.router; channels = registered_with x.channels c k (quota_of rate) } = d.1.0 in
    let sub = d.1.1 in
    let chan_is : y.channels ≡ registered_with x.channels c k (quota_of rate) = ap (λ (z : Node). z.channels) parts in
    let conn_is : y.connections ≡ x.connections = ap (λ (z : Node). z.connections) parts in
    let at_number : x.router.number ≡ n = rout.number in
    let lasts_there : is_stopped log x.router.number ≡ false = ap (is_stopped log) at_number ∙ lasts in
    let due : row configs log at seed (act.Register c n rate) ≡ only (reply.Capacity capacity) = ap (λ b. cond b (only reply.Gone) (only (reply.Capacity capacity))) lasts in
    let still = effect-still configs log ev (reply.Capacity capacity) due in
    record {
      row_is = d.0 ∙ (ap (λ j. only (reply.Capacity j)) amount ∙ sym due);
      node =
          each_part configs log ev n x y (place.channels ∷ place.router ∷ []) s (subst (λ z. z ≡ with_parts (place.channels ∷ place.router ∷ []) x z) (sym parts) refl)
          (λ p out. not_among (place.channels ∷ place.router ∷ []) p n n out) refl refl (
            subst (ChannelsStand configs (log ++ e ∷ []) n) (sym chan_is)
                (channels_registered configs log e n c k rate x.channels chan lasts refl amount (chan.capacities c ∙ absent) room (λ f. line-still log e (reply.Capacity capacity) (queue.Channel n f) still) (quota_is rate may.quota) (admits_apart configs log e n (act.Register c n rate) refl (λ d. refl)) (sends_apart log e n (act.Register c n rate) refl (refl, refl))),
            (
              lives_on configs (log ++ e ∷ []) n y.router (lasts_after configs log ev n lasts refl)
                  (RouterStands-moved configs log e n x.router y.router rout (hears_aside log e n (act.Register c n rate) refl refl)
                  (sub.stands configs log e rout.stands lasts_there (is_unbound-before configs log n x.router rout early)
                  (record { rate = rate; is = ap (λ j. act.Register c j rate) (sym at_number); takes = still.takes; puts = still.puts; ends = still.ends })
                  (ap (λ j. capacity_in (channels configs log j) c) at_number ∙ absent))
                  (ap (λ (z : Router). z.number) sub.rest) (ap (λ (z : Router). z.peers) sub.rest)),
              tt,
            ),
          );
      linked = subst (LinksStand configs (log ++ e ∷ [])) (sym kept) (links_kept configs log ev l t refl);
    }
  where
    counted : (m t c total k : ℕ) → total ≡ t → k ≡ c → m + (t + c) < 2 ^ 64 → m + (total + k) < 2 ^ 64
    counted m t c total k a b h = grind arith

-- at one that has
register_gone : (configs : List Config) (log : List Entry) (at seed n c : ℕ) (rate : Rate) (x y : Node) (l links : Links) (r : Row) → NodeStands configs log n x → LinksStand configs log l → is_stopped log n ≡ true
    → RegistersBy true c rate x y r → links ≡ l → Performs configs log (asked at seed (act.Register c n rate)) n y links r
unfolding effect row
register_gone configs log at seed n c rate x y l links r s t over d kept =
    let a = act.Register c n rate in
    let ev = asked at seed a in
    let e = effect configs log ev in
    let due : row configs log at seed a ≡ only reply.Gone = ap (λ b. cond b (only reply.Gone) (only (reply.Capacity (capacity_for (slice_get configs n) rate)))) over in
    let still = effect-still configs log ev reply.Gone due in
    record {
      row_is = d.0 ∙ sym due;
      node =
          subst (NodeStands configs (log ++ e ∷ []) n) (sym d.1)
          (each_part configs log ev n x x (place.channels ∷ place.router ∷ []) s refl (λ p out. not_among (place.channels ∷ place.router ∷ []) p n n out) refl refl (
            channels_stopped configs log e n x.channels (s.each place.channels) over (admits_apart configs log e n a refl (λ d. refl)) (sends_apart log e n a refl (refl, refl)) (closes_apart log e n a refl refl refl)
                (λ f. line-still log e reply.Gone (queue.Channel n f) still),
            (rests_still configs log e n x.router reply.Gone (s.each place.router) over refl (unrouted_apart log e n refl) still, tt),
          ));
      linked = subst (LinksStand configs (log ++ e ∷ [])) (sym kept) (links_kept configs log ev l t refl);
    }

pub register_performs : (configs : List Config) (log : List Entry) (at seed n c : ℕ) (rate : Rate) (x y : Node) (l links : Links) (r : Row) → NodeStands configs log n x → LinksStand configs log l
    → may_act configs (events_of log) (act.Register c n rate) ≡ true → Registers c rate x y r → links ≡ l → Performs configs log (asked at seed (act.Register c n rate)) n y links r
register_performs configs log at seed n c rate x y l links r s t valid d kept = by x.stopped (sym s.life) d
  where
    by : (b : Bool) → is_stopped log n ≡ b → RegistersBy b c rate x y r → Performs configs log (asked at seed (act.Register c n rate)) n y links r
    by false lasts does = register_runs configs log at seed n c rate x y l links r s t lasts valid does kept
    by true over does = register_gone configs log at seed n c rate x y l links r s t over does kept

-- ---- start

-- a node that has not stopped
start_runs : (configs : List Config) (log : List Entry) (at seed n : ℕ) (x y : Node) (l links : Links) (r : Row) → NodeStands configs log n x → LinksStand configs log l → is_stopped log n ≡ false
    → StartsBy false (length log) at x y r → links ≡ l → Performs configs log (asked at seed (act.Start n)) n y links r
unfolding effect row
start_runs configs log at seed n x y l links r s t lasts d kept =
    let ev = asked at seed (act.Start n) in
    let e = effect configs log ev in
    let chan : ChannelsStand configs log n x.channels = s.each place.channels in
    let rout : RouterStands configs log n x.router = (s.each place.router).runs lasts in
    let parts : y ≡ record x { router = y.router; dialing = started x.config at x.dialing } = d.0 in
    let calls = d.1 in
    let at_number : x.router.number ≡ n = rout.number in
    let lasts_there : is_stopped log x.router.number ≡ false = ap (is_stopped log) at_number ∙ lasts in
    let row_is : r ≡ start_row configs log n = calls.row configs log rout.stands lasts_there ∙ ap (start_row configs log) at_number in
    let size : x.config.mailbox_size ≡ mailbox_size_at configs n = sym (ap (λ (o : Option Config). elim o [ None ↦ 0 | Some c ↦ c.mailbox_size ]) s.own.config) in
    let places : x.config.mailbox_size + x.channels.total ≡ router_capacity configs log x.router.number =
    ap (λ k. k + x.channels.total) size
    ∙ (ap (λ k. mailbox_size_at configs n + k) chan.total ∙ ap (router_capacity configs log) (sym at_number))
    in
    record {
      row_is = row_is;
      node =
          each_part configs log ev n x y (place.router ∷ place.dialer ∷ []) s (subst (λ z. z ≡ with_parts (place.router ∷ place.dialer ∷ []) x z) (sym parts) refl)
          (λ p out. not_among (place.router ∷ place.dialer ∷ []) p n n out) refl refl (
            lives_on configs (log ++ e ∷ []) n y.router (lasts_after configs log ev n lasts refl)
                (RouterStands-moved configs log e n x.router y.router rout (hears_aside log e n (act.Start n) refl refl)
                (subst (λ (z : Row). StandsFor configs (log ++ entry_of ev z ∷ []) y.router) row_is (calls.stands configs log ev rout.stands lasts_there refl (ap act.Start (sym at_number)) places))
                (ap (λ (z : Router). z.number) calls.rest) (ap (λ (z : Router). z.peers) calls.rest)),
            (
              subst (DialerStands configs (log ++ e ∷ []) n) (sym (ap (λ (z : Node). z.dialing) parts)) (dialer_starts configs log e n x.config x.dialing (s.each place.dialer) s.own.config refl lasts (λ k. line-untouched configs log ev (queue.Attempt n k) refl refl refl)),
              tt,
            ),
          );
      linked = subst (LinksStand configs (log ++ e ∷ [])) (sym kept) (links_kept configs log ev l t refl);
    }

-- the dialer of a node that has stopped does not start
dialer_rests : (configs : List Config) (log : List Entry) (e : Entry) (n : ℕ) (d : Dialing) → DialerStands configs log n d → is_stopped log n ≡ true → e.event.act ≡ act.Start n
    → ((k : ℕ) → line (log ++ e ∷ []) (queue.Attempt n k) ≡ line log (queue.Attempt n k)) → DialerStands configs (log ++ e ∷ []) n d
dialer_rests configs log e n d s over acts lines = record {
  actor =
      s.actor
      ∙ (ap (λ b. cond b (Some (actor_of (gates_at configs n) (dials_of configs log n))) None) (not_up log n over)
      ∙ sym (ap (λ b. cond b (Some (actor_of (gates_at configs n) (dials_of configs (log ++ e ∷ []) n))) None) (not_up (log ++ e ∷ []) n (is_stopped-kept log e n (ap (stops n) acts) ∙ over))));
  attempts = λ k.
      subst (λ o. AttemptStands (gates_at configs n) k (table.at d.attempts k) o (line (log ++ e ∷ []) (queue.Attempt n k))) (sym (attempts_of-kept configs log e n k (ap (tries n) acts)))
      (subst (AttemptStands (gates_at configs n) k (table.at d.attempts k) (attempts_of configs log n k)) (sym (lines k)) (s.attempts k));
}

-- one that has
start_gone : (configs : List Config) (log : List Entry) (at seed n : ℕ) (x y : Node) (l links : Links) (r : Row) → NodeStands configs log n x → LinksStand configs log l → is_stopped log n ≡ true
    → StartsBy true (length log) at x y r → links ≡ l → Performs configs log (asked at seed (act.Start n)) n y links r
unfolding effect row
start_gone configs log at seed n x y l links r s t over d kept =
    let a = act.Start n in
    let ev = asked at seed a in
    let e = effect configs log ev in
    let due : row configs log at seed a ≡ only reply.Gone =
    ap (λ b. cond b (only reply.Gone) (record { reply = reply.Ok; takes = []; puts = map (λ (c : ℕ × ℕ). (queue.Router n, item.Subscribe c.0)) (channels configs log n); ends = [] })) over
    in
    let still = effect-still configs log ev reply.Gone due in
    record {
      row_is = d.0 ∙ sym due;
      node =
          subst (NodeStands configs (log ++ e ∷ []) n) (sym d.1)
          (each_part configs log ev n x x (place.router ∷ place.dialer ∷ []) s refl (λ p out. not_among (place.router ∷ place.dialer ∷ []) p n n out) refl refl (
            rests_still configs log e n x.router reply.Gone (s.each place.router) over refl (unrouted_apart log e n refl) still,
            (dialer_rests configs log e n x.dialing (s.each place.dialer) over refl (λ k. line-still log e reply.Gone (queue.Attempt n k) still), tt),
          ));
      linked = subst (LinksStand configs (log ++ e ∷ [])) (sym kept) (links_kept configs log ev l t refl);
    }

pub start_performs : (configs : List Config) (log : List Entry) (at seed n : ℕ) (x y : Node) (l links : Links) (r : Row) → NodeStands configs log n x → LinksStand configs log l
    → Starts (length log) at x y r → links ≡ l → Performs configs log (asked at seed (act.Start n)) n y links r
start_performs configs log at seed n x y l links r s t d kept = by x.stopped (sym s.life) d
  where
    by : (b : Bool) → is_stopped log n ≡ b → StartsBy b (length log) at x y r → Performs configs log (asked at seed (act.Start n)) n y links r
    by false lasts does = start_runs configs log at seed n x y l links r s t lasts does kept
    by true over does = start_gone configs log at seed n x y l links r s t over does kept

-- ---- recv

-- the row of a reader is that of its channel
recv_is : (configs : List Config) (log : List Entry) (n c : ℕ) (ch : Channels) (stopped : Bool) → ChannelsStand configs log n ch → stopped ≡ is_stopped log n → has_reader ch c ≡ true
    → read_told (none_told stopped) (arrival_waiting ch.inbounds c) (slice_get (waiting ch.waiting c) 0) ≡ recv_row configs log c n
recv_is configs log n c ch stopped s life has =
    read_is (none_told stopped) ch.inbounds c ch.waiting s.named
    ∙ (ap (oldest_read (cond stopped reply.NetworkClosed reply.Pending)) (s.waits c)
    ∙ (ap (λ b. oldest_read (cond b reply.NetworkClosed reply.Pending) (line log (queue.Channel n c))) life
    ∙ sym (ap (λ b. cond b (oldest_read (cond (is_stopped log n) reply.NetworkClosed reply.Pending) (line log (queue.Channel n c))) (only reply.Gone)) (sym (reader_is configs log n c ch s) ∙ has))))

-- what waits in the channels, once the oldest message of one was read
read_waits : (configs : List Config) (log : List Entry) (e : Entry) (n c : ℕ) (ch : Channels) (empty : Reply) (o : Option (Key × List ℕ)) (xs : List Envelope) → ChannelsStand configs log n ch
    → option_map Some o ≡ option_map (λ y. received y.item) (slice_get xs 0) → waiting ch.waiting c ≡ xs → e.takes ≡ (oldest_read empty xs).takes → e.puts ≡ (oldest_read empty xs).puts → e.ends ≡ (oldest_read empty xs).ends
    → HoldsLines (queue.Channel n) (log ++ e ∷ []) (named_after o c ch.waiting)
read_waits configs log e n c ch empty None [] s first is takes puts ends =
    λ f. s.waits f ∙ sym (line-still log e e.reply (queue.Channel n f) (record { reply = refl; takes = takes; puts = puts; ends = ends }))
read_waits configs log e n c ch empty None (y ∷ ys) s first is takes puts ends = cc
read_waits configs log e n c ch empty (Some m) [] s first is takes puts ends = cc
read_waits configs log e n c ch empty (Some m) (y ∷ ys) s first is takes puts ends = taken y.item first takes puts ends
  where
    taken : (i : Item) → Some (Some m) ≡ Some (received i) → e.takes ≡ (read_row (name_of y) i).takes → e.puts ≡ (read_row (name_of y) i).puts → e.ends ≡ (read_row (name_of y) i).ends
        → HoldsLines (queue.Channel n) (log ++ e ∷ []) (popped_at ch.waiting c)
    taken (item.Message bytes copy from) first takes puts ends =
        holds_taken (queue.Channel n) (same_channel n) log e c y ys ch.waiting s.waits
        (record { first = sym (s.waits c) ∙ is; gone = ap (λ t. t ++ flat_map ended_item e.ends) takes ∙ ap (λ d. name_of y ∷ flat_map ended_item d) ends })
        (λ f. ap (λ p. filter (stands_in (queue.Channel n f)) (placed (length log) 0 p)) puts)
    taken _ first takes puts ends = cc

-- the channels then
read_stands : (configs : List Config) (log : List Entry) (e : Entry) (n c : ℕ) (ch : Channels) (empty : Reply) → ChannelsStand configs log n ch → e.event.act ≡ act.Recv c n
    → e.takes ≡ (oldest_read empty (waiting ch.waiting c)).takes → e.puts ≡ (oldest_read empty (waiting ch.waiting c)).puts → e.ends ≡ (oldest_read empty (waiting ch.waiting c)).ends
    → ChannelsStand configs (log ++ e ∷ []) n (read_from c ch)
read_stands configs log e n c ch empty s acts takes puts ends =
    channels_moved configs log e n ch (without_arrival ch.inbounds c) (named_after (arrival_waiting ch.inbounds c) c ch.waiting) s (mailboxes_read ch c s.named) refl (ap (registers_at configs n) acts)
    (admits_apart configs log e n (act.Recv c n) acts (λ d. refl)) (sends_apart log e n (act.Recv c n) acts (refl, refl)) (closes_apart log e n (act.Recv c n) acts refl refl)
    (read_waits configs log e n c ch empty (arrival_waiting ch.inbounds c) (waiting ch.waiting c) s (oldest_named ch.inbounds c ch.waiting s.named) refl takes puts ends)

read_on_performs : (configs : List Config) (log : List Entry) (at seed n c : ℕ) (b : Bool) (x y : Node) (l links : Links) (r : Row) → NodeStands configs log n x → LinksStand configs log l
    → has_reader x.channels c ≡ b → ReadsOn b c x y r → links ≡ l → Performs configs log (asked at seed (act.Recv c n)) n y links r
unfolding effect row
read_on_performs configs log at seed n c false x y l links r s t has d kept =
    let chan : ChannelsStand configs log n x.channels = s.each place.channels in
    stays_performs configs log (asked at seed (act.Recv c n)) n x y l links r reply.Gone s t
    (ap (λ b. cond b (oldest_read (cond (is_stopped log n) reply.NetworkClosed reply.Pending) (line log (queue.Channel n c))) (only reply.Gone)) (sym (reader_is configs log n c x.channels chan) ∙ has)) refl d.0 d.1 kept
read_on_performs configs log at seed n c true x y l links r s t has d kept =
    let ev = asked at seed (act.Recv c n) in
    let e = effect configs log ev in
    let chan : ChannelsStand configs log n x.channels = s.each place.channels in
    let parts : y ≡ record x { channels = read_from c x.channels } = d.1 in
    let stopped = x.channels.inbounds.ended in
    let is = recv_is configs log n c x.channels stopped chan chan.ended has in
    let told = sym (read_is (none_told stopped) x.channels.inbounds c x.channels.waiting chan.named) ∙ is in
    record {
      row_is = d.0 ∙ is;
      node =
          each_part configs log ev n x y (place.channels ∷ []) s (subst (λ z. z ≡ with_parts (place.channels ∷ []) x z) (sym parts) refl)
          (λ p out. not_among (place.channels ∷ []) p n n out) refl refl (
            subst (ChannelsStand configs (log ++ e ∷ []) n) (sym (ap (λ (z : Node). z.channels) parts))
                (read_stands configs log e n c x.channels (none_told stopped) chan refl (ap (λ (z : Row). z.takes) (sym told)) (ap (λ (z : Row). z.puts) (sym told)) (ap (λ (z : Row). z.ends) (sym told))),
            tt,
          );
      linked = subst (LinksStand configs (log ++ e ∷ [])) (sym kept) (links_kept configs log ev l t refl);
    }

pub read_performs : (configs : List Config) (log : List Entry) (at seed n c : ℕ) (x y : Node) (l links : Links) (r : Row) → NodeStands configs log n x → LinksStand configs log l
    → Reads c x y r → links ≡ l → Performs configs log (asked at seed (act.Recv c n)) n y links r
read_performs configs log at seed n c x y l links r s t d kept = read_on_performs configs log at seed n c (has_reader x.channels c) x y l links r s t refl d kept
