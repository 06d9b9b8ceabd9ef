-- The connections of a node after an entry that ends some of them.
use Rattle.std.proofs.Common.{◌≡◌, ℕ, Bool, true, false, cond, List, [], ◌∷◌, ◌++◌, refl, ap, sym, subst, ◌∙◌, Option, None}
use Rattle.std.specs.Prelude.{◌==◌, ◌||◌, is_some}
use Rattle.p2p_log.specs.declared.config.Config.{Config}
use Rattle.p2p_log.specs.declared.queue.Queue.TheVariants as queue
use Rattle.p2p_log.specs.declared.entry.Entry.{Entry}
use Rattle.p2p_log_rules.specs.Connections.{begins_connection, ends_connection, is_ended, live_connection}
use Rattle.p2p_log_rules.specs.Metering.{pings, limit_at, admitted_by}
use Rattle.p2p_log_rules.specs.Spawning.{Spawned, connections_of}
use Rattle.p2p_log_rules.proofs.Connections.{is_ended-append}
use Rattle.p2p_net_queues.specs.Lines.{HoldsLines}
use Rattle.p2p_net_queues.specs.Tables.{AreBut, at}
use Rattle.p2p_net_connections.specs.Connections.{runs_on, pinged_on, spawned_on}
use Rattle.p2p_net_connections.specs.Dialing.{IsConnectedBy}
use Rattle.p2p_net_connections.specs.Pinging.{CountsPingsOf}
use Rattle.p2p_net_connections.specs.Stands.{ConnectionsStand}
use Rattle.p2p_net_connections.specs.declared.connections.Connection.{Connection}
use Rattle.p2p_net_connections.specs.declared.connections.Connections.{Connections}
use Rattle.p2p_net_connections.proofs.Changes.{begun-kept, idle-kept, pings_kept, unmade_kept}
use Rattle.p2p_net_connections.proofs.Dialing.{connected_by-longer, connected_by-cond}
use Rattle.p2p_net_connections.proofs.PingCounts.{counts_cond}
use Rattle.p2p_net_connections.proofs.Pings.{pinged-kept}

-- an entry that ends those connections of which this is so, and no other; none is made or begins, and none admits a ping
pub record EndsThose (configs : List Config) (log : List Entry) (e : Entry) (n : ℕ) (over : ℕ → Bool) : Type 0 where
  pub ends : (k : ℕ) → ends_connection n k log e ≡ over k
  pub makes_none : (k : ℕ) → connections_of (log ++ e ∷ []) n k ≡ connections_of log n k
  pub no_begin : (k : ℕ) → begins_connection n k log e ≡ false
  pub no_ping : (k : ℕ) → admitted_by (limit_at configs n) n k pings log e ≡ []

-- one that ends this connection alone
abbrev pub EndsOne : List Config → List Entry → Entry → ℕ → ℕ → Type 0
EndsOne configs log e n conn = EndsThose configs log e n (λ k. k == conn)

-- they are none of those that live from then on
pub live_connection-ended : (configs : List Config) (log : List Entry) (e : Entry) (n : ℕ) (over : ℕ → Bool) → EndsThose configs log e n over → (k : ℕ)
    → live_connection (log ++ e ∷ []) n k ≡ cond (over k) None (live_connection log n k)
live_connection-ended configs log e n over those k =
    ap (λ b. cond b None (connections_of (log ++ e ∷ []) n k)) (is_ended-append log e n k ∙ ap (λ b. is_ended log n k || b) (those.ends k))
    ∙ (ap (λ o. cond (is_ended log n k || over k) None o) (those.makes_none k) ∙ by (is_ended log n k) (over k) (connections_of log n k))
  where
    by : (b c : Bool) (o : Option Spawned) → cond (b || c) None o ≡ cond c None (cond b None o)
    by true true o = refl
    by true false o = refl
    by false true o = refl
    by false false o = refl

spawned_but : (b : Bool) (o : Option Connection) → spawned_on (cond b None o) ≡ cond b None (spawned_on o)
spawned_but true o = refl
spawned_but false o = refl

-- without them, and with what waits then, they stand for the log
pub connections_over : (configs : List Config) (log : List Entry) (e : Entry) (n : ℕ) (over : ℕ → Bool) (cs new : Connections) → ConnectionsStand configs log n cs → EndsThose configs log e n over
    → ((k : ℕ) → at new.spawned k ≡ cond (over k) None (at cs.spawned k)) → new.stages ≡ cs.stages
    → HoldsLines (queue.RouterAnswer n) (log ++ e ∷ []) new.answers → HoldsLines (queue.Held n) (log ++ e ∷ []) new.held
    → ConnectionsStand configs (log ++ e ∷ []) n new
connections_over configs log e n over cs new s those left stages waits holds = record {
  spawned = λ k.
      ap spawned_on (left k)
      ∙ (spawned_but (over k) (at cs.spawned k)
      ∙ (ap (λ (o : Option Spawned). cond (over k) None o) (s.spawned k) ∙ sym (live_connection-ended configs log e n over those k)));
  reserved = λ k.
      subst (IsConnectedBy (log ++ e ∷ []) n) (sym (left k))
      (connected_by-cond (log ++ e ∷ []) n (over k) None (at cs.spawned k) tt (connected_by-longer log (e ∷ []) n (at cs.spawned k) (s.reserved k)));
  begun = λ k. ap (λ st. is_some (at st k)) stages ∙ (s.begun k ∙ sym (begun-kept log e n k (those.no_begin k)));
  running = λ k. ap (λ st. runs_on (at st k)) stages ∙ (s.running k ∙ sym (idle-kept log e n k (those.no_begin k)));
  pinged = λ k. ap (λ st. pinged_on (at st k)) stages ∙ (s.pinged k ∙ sym (pinged-kept configs log e n k (those.no_begin k)));
  waits = waits;
  holds = holds;
  counts = λ k.
      subst (CountsPingsOf configs (log ++ e ∷ []) n k) (sym (left k))
      (counts_cond configs (log ++ e ∷ []) n k (over k) None (at cs.spawned k) (λ h. tt) (pings_kept configs log e n cs s those.no_ping k));
  unmade = unmade_kept configs log e n cs s those.no_ping;
}

-- without one
pub connections_ended : (configs : List Config) (log : List Entry) (e : Entry) (n conn : ℕ) (cs new : Connections) → ConnectionsStand configs log n cs → EndsOne configs log e n conn
    → AreBut conn None cs.spawned new.spawned → new.stages ≡ cs.stages
    → HoldsLines (queue.RouterAnswer n) (log ++ e ∷ []) new.answers → HoldsLines (queue.Held n) (log ++ e ∷ []) new.held
    → ConnectionsStand configs (log ++ e ∷ []) n new
connections_ended configs log e n conn = connections_over configs log e n (λ k. k == conn)
