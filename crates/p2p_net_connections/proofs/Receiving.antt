-- The connections of a node after a step of the receiving half of one.
use Rattle.std.proofs.Common.{◌≡◌, ℕ, ◌≤◌, Bool, true, false, ◌+◌, cond, List, [], ◌∷◌, ◌++◌, length, refl, ap, sym, subst, ◌∙◌, arith, eqb-true, length-append, Option, Some, None}
use Rattle.std.specs.Prelude.{◌==◌, ◌&&◌}
use Rattle.std.specs.Option.{option_map}
use Rattle.p2p_log.specs.declared.config.Config.{Config}
use Rattle.p2p_log.specs.declared.queue.Queue.TheVariants as queue
use Rattle.p2p_log.specs.declared.item.Envelope.{Envelope}
use Rattle.p2p_log.specs.declared.entry.Entry.{Entry}
use Rattle.p2p_log.specs.Lines.{line}
use Rattle.p2p_log_rules.specs.declared.row.Half.{Half}
use Rattle.p2p_log_rules.specs.Connections.{is_ended, half_of, live_half}
use Rattle.p2p_log_rules.specs.Facts.{events_of, latest_moment}
use Rattle.p2p_log_rules.specs.Metering.{pings, limit_at, admitted_by, admitted, may_pass}
use Rattle.p2p_log_rules.specs.Spawning.{Spawned, connections_of}
use Rattle.p2p_log_rules.proofs.Connections.{half_of-live}
use Rattle.p2p_log_rules.proofs.Spawning.{connections_of-late}
use Rattle.p2p_net_queues.specs.Lines.{HoldsLines}
use Rattle.p2p_net_queues.specs.Tables.{at}
use Rattle.p2p_net_queues.proofs.Holding.{holds_frame}
use Rattle.p2p_net_queues.proofs.Tables.{lookup-set, same_name}
use Rattle.p2p_net_connections.specs.Connections.{spawned_on, ping_passes, may_ping, metered, metered_on, ping_metered}
use Rattle.p2p_net_connections.specs.Dialing.{IsConnectedBy}
use Rattle.p2p_net_connections.specs.Pinging.{CountsPingsOf}
use Rattle.p2p_net_connections.specs.Stands.{ConnectionsStand, SpawnsNone, BeginsNone}
use Rattle.p2p_net_connections.specs.declared.connections.Connection.{Connection}
use Rattle.p2p_net_connections.specs.declared.connections.Connections.{Connections}
use Rattle.p2p_net_connections.proofs.Changes.{pings_kept, unmade_kept, begun-kept, idle-kept}
use Rattle.p2p_net_connections.proofs.Dialing.{connected_by-longer}
use Rattle.p2p_net_connections.proofs.PingCounts.{counts_asked, counts_frame, unmade_frame, passes_by_log}
use Rattle.p2p_net_connections.proofs.Pings.{pinged-kept}

-- these are kept, each over the link and by the reservation of before, with what is kept of its quota of pings; and these wait for the quotas
received :
    (configs : List Config) (log : List Entry) (e : Entry) (n : ℕ) (cs : Connections) (m : List (ℕ × Connection)) (w : List (ℕ × List Envelope)) → ConnectionsStand configs log n cs → SpawnsNone log e n → BeginsNone log e n
    → ((conn : ℕ) → line (log ++ e ∷ []) (queue.RouterAnswer n conn) ≡ line log (queue.RouterAnswer n conn)) → HoldsLines (queue.Held n) (log ++ e ∷ []) w
    → ((conn : ℕ) → spawned_on (at m conn) ≡ spawned_on (at cs.spawned conn)) → ((conn : ℕ) → IsConnectedBy log n (at m conn)) → ((conn : ℕ) → CountsPingsOf configs (log ++ e ∷ []) n conn (at m conn))
    → ((conn : ℕ) → length (log ++ e ∷ []) ≤ conn → admitted configs (log ++ e ∷ []) n conn pings ≡ [])
    → ConnectionsStand configs (log ++ e ∷ []) n (record cs { spawned = m; held = w })
received configs log e n cs m w s spawns none lines holds same reserved counts unmade = record {
  spawned = λ conn. same conn ∙ (s.spawned conn ∙ sym (spawns conn));
  reserved = λ conn. connected_by-longer log (e ∷ []) n (at m conn) (reserved conn);
  begun = λ conn. s.begun conn ∙ sym (begun-kept log e n conn (none conn));
  running = λ conn. s.running conn ∙ sym (idle-kept log e n conn (none conn));
  pinged = λ conn. s.pinged conn ∙ sym (pinged-kept configs log e n conn (none conn));
  waits = holds_frame (queue.RouterAnswer n) log e cs.answers s.waits lines;
  holds = holds;
  counts = counts;
  unmade = unmade;
}

-- these wait for the quotas, and no ping is admitted
pub connections_received :
    (configs : List Config) (log : List Entry) (e : Entry) (n : ℕ) (cs : Connections) (w : List (ℕ × List Envelope)) → ConnectionsStand configs log n cs → SpawnsNone log e n → BeginsNone log e n
    → ((conn : ℕ) → line (log ++ e ∷ []) (queue.RouterAnswer n conn) ≡ line log (queue.RouterAnswer n conn)) → HoldsLines (queue.Held n) (log ++ e ∷ []) w
    → ((conn : ℕ) → admitted_by (limit_at configs n) n conn pings log e ≡ []) → ConnectionsStand configs (log ++ e ∷ []) n (record cs { held = w })
connections_received configs log e n cs w s spawns none lines holds admits =
    received configs log e n cs cs.spawned w s spawns none lines holds (λ conn. refl) s.reserved (pings_kept configs log e n cs s admits) (unmade_kept configs log e n cs s admits)

-- ---- one was asked for a ping

pub at-metered : (m : List (ℕ × Connection)) (conn now k : ℕ) → at (metered_on (at m conn) conn now m) k ≡ cond (k == conn) (option_map (metered now) (at m conn)) (at m k)
at-metered m conn now k = by (at m conn) refl
  where
    none_at : (b : Bool) → (k == conn) ≡ b → at m conn ≡ None → at m k ≡ cond b None (at m k)
    none_at true here none = ap (at m) (eqb-true k conn here) ∙ none
    none_at false there none = refl

    by : (o : Option Connection) → at m conn ≡ o → at (metered_on o conn now m) k ≡ cond (k == conn) (option_map (metered now) o) (at m k)
    by None is = none_at (k == conn) refl is
    by (Some c) is = lookup-set conn k (metered now c) c m is ∙ ap (λ b. cond b (Some (metered now c)) (at m k)) (same_name k conn)

-- a connection that has not ended admits what it may by the log
pub may_ping_is : (configs : List Config) (log : List Entry) (n conn now : ℕ) (cs : Connections) (half : Half) → ConnectionsStand configs log n cs → live_half log n conn ≡ Some half → latest_moment (events_of log) ≤ now
    → may_ping cs conn now ≡ may_pass configs log n conn now pings
may_ping_is configs log n conn now cs half s has late = by (at cs.spawned conn) refl
  where
    by : (o : Option Connection) → at cs.spawned conn ≡ o → ping_passes o now ≡ may_pass configs log n conn now pings
    by (Some c) is = passes_by_log configs log n conn now c (subst (CountsPingsOf configs log n conn) is (s.counts conn)) late
    by None is = absurd (let none : live_half log n conn ≡ None = sym (half_of-live log n conn) ∙ ap (half_of log n) (sym (s.spawned conn) ∙ ap spawned_on is) in cc)

module _ (configs : List Config) (log : List Entry) (e : Entry) (n conn now : ℕ) (cs : Connections) (s : ConnectionsStand configs log n cs) (late : latest_moment (events_of log) ≤ now) where
  abbrev asked : List (ℕ × Connection)
  asked = metered_on (at cs.spawned conn) conn now cs.spawned

  asked_at : (k : ℕ) → at asked k ≡ cond (k == conn) (option_map (metered now) (at cs.spawned k)) (at cs.spawned k)
  asked_at k = at-metered cs.spawned conn now k ∙ by (k == conn) refl
    where
      by : (b : Bool) → (k == conn) ≡ b → cond b (option_map (metered now) (at cs.spawned conn)) (at cs.spawned k) ≡ cond b (option_map (metered now) (at cs.spawned k)) (at cs.spawned k)
      by true here = ap (λ i. option_map (metered now) (at cs.spawned i)) (sym (eqb-true k conn here))
      by false there = refl

  spawned_same : (b : Bool) (o : Option Connection) → spawned_on (cond b (option_map (metered now) o) o) ≡ spawned_on o
  spawned_same true None = refl
  spawned_same true (Some c) = refl
  spawned_same false o = refl

  reserved_same : (b : Bool) (o : Option Connection) → IsConnectedBy log n o → IsConnectedBy log n (cond b (option_map (metered now) o) o)
  reserved_same true None h = tt
  reserved_same true (Some c) h = h
  reserved_same false o h = h

  -- one that is not made yet admits none
  none_yet : length log ≤ conn → (o : Option Connection) → at cs.spawned conn ≡ o → ping_passes o now ≡ false
  none_yet later None is = refl
  none_yet later (Some c) is = absurd (let none : spawned_on (Some c) ≡ None = ap spawned_on (sym is) ∙ (s.spawned conn ∙ either (is_ended log n conn) (connections_of log n conn) (connections_of-late log n conn later)) in cc)
    where
      either : (b : Bool) (o : Option Spawned) → o ≡ None → cond b None o ≡ None
      either true o none = refl
      either false o none = none

  module _ (is_then : e.event.at ≡ now) (adds : (d : ℕ) → admitted_by (limit_at configs n) n d pings log e ≡ cond ((d == conn) && may_ping cs conn now) (now ∷ []) []) where
    counts_then : (k : ℕ) (b : Bool) → (k == conn) ≡ b → (o : Option Connection) → at cs.spawned k ≡ o → CountsPingsOf configs (log ++ e ∷ []) n k (cond b (option_map (metered now) o) o)
    counts_then k true here None is = tt
    counts_then k true here (Some c) is =
        counts_asked configs log n k e now c (subst (CountsPingsOf configs log n k) is (s.counts k)) late is_then
        (adds k ∙ (ap (λ b. cond (b && may_ping cs conn now) (now ∷ []) []) here
        ∙ ap (λ o. cond (ping_passes o now) (now ∷ []) []) (ap (at cs.spawned) (sym (eqb-true k conn here)) ∙ is)))
    counts_then k false there o is =
        counts_frame configs log n k e o (subst (CountsPingsOf configs log n k) is (s.counts k)) (adds k ∙ ap (λ b. cond (b && may_ping cs conn now) (now ∷ []) []) there)

    not_yet : (k : ℕ) → (k == conn) ≡ true → length (log ++ e ∷ []) ≤ k → length log ≤ conn
    not_yet k here after = let is : k ≡ conn = eqb-true k conn here in let more : length (log ++ e ∷ []) ≡ length log + 1 = length-append log (e ∷ []) in omega arith

    unmade_then : (k : ℕ) (b : Bool) → (k == conn) ≡ b → length (log ++ e ∷ []) ≤ k → admitted configs (log ++ e ∷ []) n k pings ≡ []
    unmade_then k b is later =
        unmade_frame configs log n k e (s.unmade k) (adds k ∙ (ap (λ c. cond (c && may_ping cs conn now) (now ∷ []) []) is ∙ none b is)) later
      where
        none : (c : Bool) → (k == conn) ≡ c → cond (c && may_ping cs conn now) (now ∷ []) [] ≡ []
        none true here = ap (λ c. cond c (now ∷ []) []) (none_yet (not_yet k here later) (at cs.spawned conn) refl)
        none false there = refl

    -- its quota of pings was asked, which it admitted where it may, and these wait for the quotas
    pub connections_metered : (w : List (ℕ × List Envelope)) → SpawnsNone log e n → BeginsNone log e n → ((c : ℕ) → line (log ++ e ∷ []) (queue.RouterAnswer n c) ≡ line log (queue.RouterAnswer n c))
        → HoldsLines (queue.Held n) (log ++ e ∷ []) w → ConnectionsStand configs (log ++ e ∷ []) n (record (ping_metered conn now cs) { held = w })
    connections_metered w spawns none lines holds =
        received configs log e n cs asked w s spawns none lines holds (λ k. ap spawned_on (asked_at k) ∙ spawned_same (k == conn) (at cs.spawned k))
        (λ k. subst (IsConnectedBy log n) (sym (asked_at k)) (reserved_same (k == conn) (at cs.spawned k) (s.reserved k)))
        (λ k. subst (CountsPingsOf configs (log ++ e ∷ []) n k) (sym (asked_at k)) (counts_then k (k == conn) refl (at cs.spawned k) refl))
        (λ k. unmade_then k (k == conn) refl)
