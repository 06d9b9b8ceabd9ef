-- A node's listener, by the log: what its gates go by, and the row of its step.
use Rattle.std.specs.Prelude.{ℕ, Bool, false, ◌==◌, ◌&&◌, cond, nat_lt, List, [], ◌∷◌, flat_map, length, Option, Some, None, slice_get}
use Rattle.std.specs.BTreeMap.{is_at}
use Rattle.p2p_base.specs.declared.key.Key.{Key}
use Rattle.p2p_address.specs.Addresses.{subnet_of}
use Rattle.p2p_address.specs.declared.ip.IpAddr.{IpAddr}
use Rattle.p2p_tracker_calls.specs.Gates.{GateRules, Known, reply_to}
use Rattle.p2p_tracker_calls.specs.Heard.{ip_cmp}
use Rattle.p2p_tracker_calls.specs.declared.gates.Reply.{Reply as GatesReply}
use Rattle.p2p_tracker_calls.specs.declared.gates.Reply.TheVariants as gates
use Rattle.p2p_log.specs.declared.config.Config.{Config}
use Rattle.p2p_log.specs.declared.queue.Queue.{Queue}
use Rattle.p2p_log.specs.declared.queue.Queue.TheVariants as queue
use Rattle.p2p_log.specs.declared.item.Item.{Item}
use Rattle.p2p_log.specs.declared.item.Item.TheVariants as item
use Rattle.p2p_log.specs.declared.item.Envelope.{Envelope}
use Rattle.p2p_log.specs.declared.entry.Entry.{Entry}
use Rattle.p2p_log.specs.declared.entry.Reply.TheVariants as reply
use Rattle.p2p_log.specs.Lines.{name_of, line}
use Rattle.p2p_log_rules.specs.declared.row.Row.{Row}
use Rattle.p2p_log_rules.specs.Facts.{is_up}
use Rattle.p2p_log_rules.specs.Handshakes.{handshakes_of}
use Rattle.p2p_log_rules.specs.Judged.{is_counted, passed_address, passed_subnet}
pub use Rattle.p2p_log_rules.specs.Quotas.{quota_of}
use Rattle.p2p_log_rules.specs.Rows.{only, taken_row}
use Rattle.p2p_log_rules.specs.Tellings.{Telling, last_or}
use Rattle.p2p_log_rules.specs.Tellings as telling
use Rattle.p2p_log_rules.specs.Told.{told}

-- the rules of the gates of a node
abbrev pub gate_rules_of : Config → GateRules
gate_rules_of c = record {
  allow_private_ips = c.allow_private_ips;
  bypass_ip_check = c.bypass_ip_check;
  rates = record {
    address = quota_of c.allowed_handshake_rate_per_ip;
    subnet = quota_of c.allowed_handshake_rate_per_subnet;
  };
}

abbrev pub no_gates : GateRules
no_gates = record {
  allow_private_ips = false;
  bypass_ip_check = false;
  rates = record { address = record { burst = 0; period = 0 }; subnet = record { burst = 0; period = 0 } };
}

abbrev pub gate_rules_at : List Config → ℕ → GateRules
gate_rules_at configs n = elim (slice_get configs n) [ None ↦ no_gates | Some c ↦ gate_rules_of c ]

-- how many handshakes of a node may run at a time
abbrev pub most_handshakes_at : List Config → ℕ → ℕ
most_handshakes_at configs n = elim (slice_get configs n) [ None ↦ 0 | Some c ↦ c.max_concurrent_handshakes ]

-- ---- what the gates go by

-- the value of an item that the listener took from its updates
abbrev pub hears : ℕ → Telling → Option (List IpAddr)
hears n (telling.update_taken m addresses) = cond (m == n) (Some addresses) None
hears n _ = None

-- the moment of an arrival from this address that passed the quota of addresses
abbrev pub passes_address : ℕ → IpAddr → Telling → List ℕ
passes_address n ip (telling.arrival_judged m at from g) = cond (m == n) (cond (is_at (ip_cmp from) ip && passed_address g) (at ∷ []) []) []
passes_address n ip _ = []

-- the moment of one from this subnet that passed the quota of subnets
abbrev pub passes_subnet : ℕ → IpAddr → Telling → List ℕ
passes_subnet n subnet (telling.arrival_judged m at from g) = cond (m == n) (cond (is_at (ip_cmp (subnet_of from)) subnet && passed_subnet g) (at ∷ []) []) []
passes_subnet n subnet _ = []

-- the moment of one that came to the quotas
abbrev pub comes_to_quotas : ℕ → Telling → Option ℕ
comes_to_quotas n (telling.arrival_judged m at from g) = cond (m == n) (cond (is_counted g) (Some at) None) None
comes_to_quotas n _ = None

-- the addresses of the last update; the moments of the arrivals that passed the quota of their address, and of their subnet, as they
-- were told; and the moment of the last one that came to the quotas
abbrev pub known_in : List Telling → ℕ → Known
known_in ts n = record {
  addresses = last_or [] (hears n) ts;
  passed = record { addresses = λ ip. flat_map (passes_address n ip) ts; subnets = λ ip. flat_map (passes_subnet n ip) ts };
  latest = last_or 0 (comes_to_quotas n) ts;
}

-- what the gates of a node's listener go by
unfoldable pub known_of : List Config → List Entry → ℕ → Known
known_of configs log n = known_in (told log) n

-- ---- its step

-- whether its peer may connect is asked for a handshake that begins, which has the name of this entry
abbrev pub gates_puts : ℕ → ℕ → Key → GatesReply → List (Queue × Item)
gates_puts n name key gates.Admitted = (queue.Tracker n, item.AskAcceptable name key) ∷ []
gates_puts n name key _ = []

-- an arrival of this key was taken, which is told this
abbrev pub arrival_told_row : ℕ → ℕ → ℕ × ℕ → Key → GatesReply → Row
arrival_told_row n entry name key told = record { reply = reply.Gates told; takes = name ∷ []; puts = gates_puts n entry key told; ends = [] }

-- an arrival is taken through the gates
abbrev pub arrived_row : GateRules → Known → Bool → ℕ → ℕ → ℕ → ℕ × ℕ → Item → Row
arrived_row rules known place n entry at name (item.Arrival from key link) =
    arrival_told_row n entry name key (reply_to rules known place from.ip at)
arrived_row rules known place n entry at name _ = only reply.Idle

abbrev pub arrival_turn : GateRules → Known → Bool → ℕ → ℕ → ℕ → List Envelope → Row
arrival_turn rules known place n entry at [] = only reply.Idle
arrival_turn rules known place n entry at (x ∷ xs) = arrived_row rules known place n entry at (name_of x) x.item

-- an update first, and then the oldest arrival
abbrev pub listener_turn : GateRules → Known → Bool → ℕ → ℕ → ℕ → List Envelope → List Envelope → Row
listener_turn rules known place n entry at [] arrivals = arrival_turn rules known place n entry at arrivals
listener_turn rules known place n entry at (x ∷ xs) arrivals = taken_row (name_of x)

-- a handshake more may run
abbrev pub has_place : List Config → List Entry → ℕ → Bool
has_place configs log n = nat_lt (length (handshakes_of log n)) (most_handshakes_at configs n)

abbrev pub listener_row : List Config → List Entry → ℕ → ℕ → Row
listener_row configs log n at =
    cond (is_up log n)
    (listener_turn (gate_rules_at configs n) (known_of configs log n) (has_place configs log n) n (length log) at
    (line log (queue.Addresses n)) (line log (queue.Arrivals n)))
    (only reply.Gone)
