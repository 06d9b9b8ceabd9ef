-- A world in which nothing was asked.
use Rattle.std.proofs.Common.{◌≡◌, ℕ, zero, suc, ◌*◌, ◌<◌, ◌^◌, Bool, true, false, cond, List, [], ◌∷◌, ◌++◌, length, refl, ap, sym, subst, ◌∙◌, arith, Option, Some, None}
use Rattle.std.specs.Prelude.{slice_get, nat_lt, ◌==◌, not}
use Rattle.std.specs.List.{list_any}
use Rattle.std.specs.BTreeMap as tree
use Rattle.std.specs.Ordering.{nat_cmp}
use Rattle.std.proofs.lemmas.Bool.{and_parts}
use Rattle.std.proofs.lemmas.Bool.Decides.{nat_tests}
use Rattle.p2p_log.specs.declared.config.Config.{Config}
use Rattle.p2p_log.specs.declared.queue.Queue.TheVariants as queue
use Rattle.p2p_log.specs.declared.queue.Side.TheVariants as side
use Rattle.p2p_log_rules.specs.Attempting.{dial_rules_in}
use Rattle.p2p_log_rules.specs.Connections.{is_begun, live_connection}
use Rattle.p2p_log_rules.specs.Facts.{capacity_in, sum_capacities}
use Rattle.p2p_net_connections.proofs.Changes.{connections_new}
use Rattle.p2p_net_channels.proofs.Checks.{checks_new}
use Rattle.p2p_net_channels.proofs.Readers.{closed_new}
use Rattle.p2p_net_channels.proofs.Sending.{senders_new}
use Rattle.p2p_net_channels.proofs.Quotas.{quotas_new}
use Rattle.p2p_log_rules.specs.Effect.{mailbox_size_at}
use Rattle.p2p_log_rules.specs.Listening.{no_gates, gate_rules_of}
use Rattle.p2p_log_rules.specs.Valid.{fits, has_key, is_valid_config, config_fault_from, config_fault}
use Rattle.p2p_log_rules.proofs.Channels.{channels-none, is_stopped-none}
use Rattle.p2p_log_rules.proofs.Connections.{is_begun-none}
use Rattle.p2p_log.proofs.Places.{slice_get-append}
use Rattle.p2p_net_router.specs.Stands.{StandsFor}
use Rattle.p2p_net_channels.specs.Channels.{no_channels}
use Rattle.p2p_net_channels.specs.Stands.{ChannelsStand}
use Rattle.p2p_net_connections.specs.Connections.{no_connections}
use Rattle.p2p_net_connections.specs.Stands.{ConnectionsStand}
use Rattle.p2p_net_gates.specs.Dialing.{no_dialing, gates_of}
use Rattle.p2p_net_gates.specs.DialerStands.{DialerStands}
use Rattle.p2p_net_gates.proofs.DialerChanges.{dialer_new}
use Rattle.p2p_net_gates.specs.Listening.{IsNew as IsNewListening}
use Rattle.p2p_net_gates.proofs.ListenerChanges.{listener_new}
use Rattle.p2p_net_tracker.specs.Begins.{IsNew}
use Rattle.p2p_net_tracker.proofs.Begins.{tracker_new}
use Rattle.p2p_net_queues.specs.Lines.{HoldsLines}
use Rattle.p2p_net_queues.proofs.Holding.{holds_none}
use Rattle.p2p_net_connections.specs.Spawner.{no_spawning}
use Rattle.p2p_net_connections.specs.SpawnerStands.{SpawnerStands}
use Rattle.p2p_net_connections.proofs.SpawnerChanges.{spawner_new}
use Rattle.p2p_net_links.proofs.Changes.{dialers_new, openings_new, dropped_new, cut_new}
use Rattle.p2p_net_links.specs.Links.{no_links, way_of}
use Rattle.p2p_net_links.specs.Stands.{LinksStand}
use Rattle.p2p_net_node.specs.Places as place
use Rattle.p2p_net_node.specs.Stands.{key_heard, PartStands, NodeStands}
use Rattle.p2p_net_node.specs.declared.node.Node.{Node}
use Rattle.p2p_net_node.proofs.Routers.{unheard}
use Rattle.p2p_net_node.proofs.Frames.{lives_on}

none_there : (b : Bool) (rest : Option ℕ) (k : ℕ) → cond b rest (Some k) ≡ None → b ≡ true × rest ≡ None
none_there true rest k h = (refl, h)
none_there false rest k h = cc

-- valid configurations fit
fits_after : (before cs : List Config) (i : ℕ) (c : Config) → config_fault_from before cs ≡ None → slice_get cs i ≡ Some c → fits c ≡ true
unfolding config_fault_from
fits_after before [] i c h s = cc
fits_after before (d ∷ ds) zero c h s =
    let same : d ≡ c = cc in
    let first = none_there (is_valid_config before d) (config_fault_from (before ++ d ∷ []) ds) (length before) h in
    ap fits (sym same) ∙ (and_parts (fits d) (not (list_any (has_key d.public_key) before)) first.0).0
fits_after before (d ∷ ds) (suc i) c h s =
    let first = none_there (is_valid_config before d) (config_fault_from (before ++ d ∷ []) ds) (length before) h in
    fits_after (before ++ d ∷ []) ds i c first.1 s

pub fits_there : (cs : List Config) (i : ℕ) (c : Config) → config_fault cs ≡ None → slice_get cs i ≡ Some c → fits c ≡ true
fits_there cs i c h s = fits_after [] cs i c h s

last_or_before :
    {X : Type 0} (P : ℕ → X → Type 0) (xs : List X) (x : X) → ((n : ℕ) (y : X) → slice_get xs n ≡ Some y → P n y) → P (length xs) x
    → (n : ℕ) (y : X) (b c : Bool) → b ≡ nat_lt n (length xs) → c ≡ (n == length xs)
    → cond b (slice_get xs n) (cond c (Some x) None) ≡ Some y → P n y
last_or_before P xs x each last n y true c p q s = each n y s
last_or_before {X = X} P xs x each last n y false true p q s =
    let at : length xs ≡ n = grind (arith, nat_tests) in
    let same : x ≡ y = cc in
    subst (λ (z : X). P n z) same (subst (λ k. P k x) at last)
last_or_before P xs x each last n y false false p q s = cc

pub each-append :
    {X : Type 0} (P : ℕ → X → Type 0) (xs : List X) (x : X) → ((n : ℕ) (y : X) → slice_get xs n ≡ Some y → P n y) → P (length xs) x
    → (n : ℕ) (y : X) → slice_get (xs ++ x ∷ []) n ≡ Some y → P n y
each-append P xs x each last n y s =
    last_or_before P xs x each last n y (nat_lt n (length xs)) (n == length xs) refl refl (sym (slice_get-append xs x n) ∙ s)

-- no channels and no links stand for no log
channels_new : (configs : List Config) (n : ℕ) → mailbox_size_at configs n < 2 ^ 64 → ChannelsStand configs [] n no_channels
channels_new configs n h = record { capacities = λ c. ap (λ l. capacity_in l c) (sym (channels-none configs n)); total = ap sum_capacities (sym (channels-none configs n)); room = omega (arith, h); waits = holds_none (queue.Channel n); named = λ c. refl; quotas = quotas_new configs n; senders = senders_new n; checks = checks_new n; closed = closed_new n; ended = sym (is_stopped-none n) }

pub links_new : (configs : List Config) → LinksStand configs [] no_links
links_new configs = record {
  waits = λ s. elim s as (λ t. HoldsLines (λ link. queue.Link link t) [] (way_of no_links t)) [
    | side.Out ↦ holds_none (λ link. queue.Link link side.Out)
    | side.In ↦ holds_none (λ link. queue.Link link side.In)
  ];
  dialers = dialers_new;
  openings = openings_new;
  dropped = dropped_new;
  cut = cut_new;
}

-- of no log a router is to know of no connection
nobody_heard : (n conn : ℕ) → key_heard (is_begun [] n conn) (live_connection [] n conn) ≡ None
nobody_heard n conn = unheard (is_begun [] n conn) (live_connection [] n conn) (is_begun-none n conn)

-- a node that was asked for nothing
pub node_new :
    (configs : List Config) (n : ℕ) (x : Node) → slice_get configs n ≡ Some x.config → x.retained ≡ x.config.max_peers_per_set * x.config.tracked_peer_sets → x.stopped ≡ false → x.failed ≡ false → x.config.mailbox_size < 2 ^ 64
    → x.router.number ≡ n → StandsFor configs [] x.router → ((c : ℕ) → tree.get nat_cmp x.router.peers c ≡ None) → x.channels ≡ no_channels → x.connections ≡ no_connections → IsNew x.config x.tracker → x.dialing ≡ no_dialing → IsNewListening (gates_of x.config) x.listening → x.spawning ≡ no_spawning x.config.mailbox_size
    → NodeStands configs [] n x
node_new configs n x config retained runs works small number stands none ch cs tr di li sp = record {
  own = record { config = config; retained = retained; works = works };
  life = runs ∙ sym (is_stopped-none n);
  each = λ p. elim p as (λ q. PartStands q configs [] n x) [
    | place.router ↦
        lives_on configs [] n x.router (is_stopped-none n)
        (record {
          number = number;
          stands = stands;
          hears = λ conn. none conn ∙ sym (nobody_heard n conn);
        })
    | place.channels ↦
        subst (ChannelsStand configs [] n) (sym ch)
        (channels_new configs n (subst (λ k. k < 2 ^ 64) (sym (ap (λ (o : Option Config). elim o [ None ↦ 0 | Some c ↦ c.mailbox_size ]) config)) small))
    | place.connections ↦ subst (ConnectionsStand configs [] n) (sym cs) (connections_new configs n)
    | place.tracker ↦ tracker_new configs n x.config x.tracker config tr
    | place.dialer ↦ subst (DialerStands configs [] n) (sym di) (dialer_new configs n)
    | place.listener ↦
        listener_new configs n (gates_of x.config) x.listening li (sym (ap (λ (o : Option Config). elim o [ None ↦ no_gates | Some c ↦ gate_rules_of c ]) config))
        (sym (ap (λ (o : Option Config). elim o [ None ↦ 0 | Some c ↦ c.max_concurrent_handshakes ]) config))
        (sym (ap (λ (o : Option Config). (dial_rules_in o).handshake_timeout) config))
    | place.spawner ↦ subst (SpawnerStands configs [] n) (sym sp) (spawner_new configs n x.config config)
  ];
}

-- what an index past the end gives
abbrev pub absent : Config
absent = record {
  public_key = record { 0 = 0 };
  max_peers_per_set = 0;
  max_message_size = 0;
  mailbox_size = 0;
  tracked_peer_sets = 0;
  send_batch_size = 0;
  ping_frequency = 0;
  allow_private_ips = false;
  allow_dns = false;
  bypass_ip_check = false;
  peer_connection_cooldown = 0;
  block_duration = 0;
  max_concurrent_handshakes = 0;
  allowed_handshake_rate_per_ip = record { burst = 0; period = 0 };
  allowed_handshake_rate_per_subnet = record { burst = 0; period = 0 };
  handshake_timeout = 0;
  dial_timeout = 0;
  dial_frequency = 0;
}
