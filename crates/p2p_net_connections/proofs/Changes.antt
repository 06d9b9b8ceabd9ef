-- The connections of a node after one more entry.
use Rattle.std.proofs.Common.{◌≡◌, ℕ, ◌+◌, ◌≤◌, Bool, true, false, cond, List, [], ◌∷◌, ◌++◌, length, refl, ap, sym, ◌∙◌, arith, append_assoc, append-nil}
use Rattle.std.specs.Prelude.{filter, ◌==◌, ◌&&◌, ◌||◌}
use Rattle.std.specs.List.{list_any}
use Rattle.std.specs.BTreeMap.{is_at}
use Rattle.std.specs.Ordering.{nat_cmp}
use Rattle.std.proofs.lemmas.Bool.Decides.{nat_tests}
use Rattle.p2p_log.specs.declared.config.Config.{Config}
use Rattle.p2p_log.specs.declared.queue.Queue.{Queue}
use Rattle.p2p_log.specs.declared.queue.Queue.TheVariants as queue
use Rattle.p2p_log.specs.declared.item.Item.{Item}
use Rattle.p2p_log.specs.declared.item.Envelope.{Envelope}
use Rattle.p2p_log.specs.declared.entry.Entry.{Entry}
use Rattle.p2p_log.specs.QueueCode.{kind_of, owner_of, detail_of, same_queue}
use Rattle.p2p_log.specs.Lines.{stands_in, placed}
use Rattle.p2p_log_rules.specs.Told.{told}
use Rattle.p2p_log_rules.specs.Connections.{begins_connection, is_begun, is_answer, has_run, runs, is_ended}
use Rattle.p2p_log_rules.specs.Facts.{history_from, state_from, taken}
use Rattle.p2p_log_rules.specs.Metering.{pings, limit_at, admitted_by, admitted}
use Rattle.p2p_log_rules.specs.Pings.{last_pinged}
use Rattle.p2p_log_rules.specs.Spawning.{connections_of}
use Rattle.p2p_log_rules.proofs.Connections.{is_begun-append, runs_is, has_run-append}
use Rattle.p2p_net_queues.specs.Tables.{at, waiting, pushed_at}
use Rattle.p2p_net_queues.specs.Lines.{HoldsLines}
use Rattle.p2p_net_queues.proofs.Holding.{holds_none, holds_frame, longer}
use Rattle.p2p_net_queues.proofs.Tables.{waiting-pushed_at}
use Rattle.p2p_net_connections.specs.Connections.{no_connections, is_answer_to, answered_in, answered_by, answered}
use Rattle.p2p_net_connections.specs.Pinging.{CountsPingsOf}
use Rattle.p2p_net_connections.specs.Stands.{ConnectionsStand, SpawnsNone, BeginsNone, ReceivesNone, LeavesConnections}
use Rattle.p2p_net_connections.specs.declared.connections.Connections.{Connections}
use Rattle.p2p_net_connections.proofs.Dialing.{connected_by-longer}
use Rattle.p2p_net_connections.proofs.PingCounts.{counts_frame, unmade_frame}
use Rattle.p2p_net_connections.proofs.Pings.{pinged-kept}

pub or-false : (b c : Bool) → c ≡ false → (b || c) ≡ b
or-false true c h = refl
or-false false c h = h

pub begun-kept : (log : List Entry) (e : Entry) (n conn : ℕ) → begins_connection n conn log e ≡ false → is_begun (log ++ e ∷ []) n conn ≡ is_begun log n conn
begun-kept log e n conn h = is_begun-append log e n conn ∙ or-false (is_begun log n conn) (begins_connection n conn log e) h

pub running-kept : (log : List Entry) (e : Entry) (n conn : ℕ) → runs n conn log e ≡ false → has_run (log ++ e ∷ []) n conn ≡ has_run log n conn
running-kept log e n conn h = has_run-append log e n conn ∙ or-false (has_run log n conn) (runs n conn log e) h

-- one of which no step is done is not answered
pub idle-kept : (log : List Entry) (e : Entry) (n conn : ℕ) → begins_connection n conn log e ≡ false → has_run (log ++ e ∷ []) n conn ≡ has_run log n conn
idle-kept log e n conn h = running-kept log e n conn (runs_is log e n conn ∙ ap (λ b. b && list_any is_answer (taken log e)) h)

-- ---- what came over them

-- different connections have different queues
pub same_held : (n c d : ℕ) → is_at (nat_cmp c) d ≡ same_queue (queue.Held n c) (queue.Held n d)
same_held n c d = grind (arith, nat_tests)

-- what waits for their quotas is left alone
pub holds_kept : (configs : List Config) (log : List Entry) (e : Entry) (n : ℕ) (cs : Connections) → ConnectionsStand configs log n cs → ReceivesNone configs log e n → HoldsLines (queue.Held n) (log ++ e ∷ []) cs.held
holds_kept configs log e n cs s none = holds_frame (queue.Held n) log e cs.held s.holds none.held

-- and no ping is admitted
module _ (configs : List Config) (log : List Entry) (e : Entry) (n : ℕ) (cs : Connections) (s : ConnectionsStand configs log n cs) (none : (conn : ℕ) → admitted_by (limit_at configs n) n conn pings log e ≡ []) where
  pub pings_kept : (conn : ℕ) → CountsPingsOf configs (log ++ e ∷ []) n conn (at cs.spawned conn)
  pings_kept conn = counts_frame configs log n conn e (at cs.spawned conn) (s.counts conn) (none conn)

  pub unmade_kept : (conn : ℕ) → length (log ++ e ∷ []) ≤ conn → admitted configs (log ++ e ∷ []) n conn pings ≡ []
  unmade_kept conn = unmade_frame configs log n conn e (s.unmade conn) (none conn)

-- ---- all of them

-- no connections stand for no log
pub connections_new : (configs : List Config) (n : ℕ) → ConnectionsStand configs [] n no_connections
unfolding is_begun has_run is_ended last_pinged admitted history_from state_from told connections_of
connections_new configs n = record {
  spawned = λ conn. refl;
  reserved = λ conn. tt;
  begun = λ conn. refl;
  running = λ conn. refl;
  pinged = λ conn. refl;
  waits = holds_none (queue.RouterAnswer n);
  holds = holds_none (queue.Held n);
  counts = λ conn. tt;
  unmade = λ conn late. refl;
}

-- none begins, and these answers wait
pub connections_answered :
    (configs : List Config) (log : List Entry) (e : Entry) (n : ℕ) (cs : Connections) (answers : List (ℕ × List Envelope)) → ConnectionsStand configs log n cs → SpawnsNone log e n → BeginsNone log e n
    → ReceivesNone configs log e n → HoldsLines (queue.RouterAnswer n) (log ++ e ∷ []) answers → ConnectionsStand configs (log ++ e ∷ []) n (record cs { answers = answers })
connections_answered configs log e n cs answers s spawns none receives waits = record {
  spawned = λ conn. s.spawned conn ∙ sym (spawns conn);
  reserved = λ conn. connected_by-longer log (e ∷ []) n (at cs.spawned conn) (s.reserved conn);
  begun = λ conn. s.begun conn ∙ sym (begun-kept log e n conn (none conn));
  running = λ conn. s.running conn ∙ sym (idle-kept log e n conn (none conn));
  pinged = λ conn. s.pinged conn ∙ sym (pinged-kept configs log e n conn (none conn));
  waits = waits;
  holds = holds_kept configs log e n cs s receives;
  counts = pings_kept configs log e n cs s receives.no_ping;
  unmade = unmade_kept configs log e n cs s receives.no_ping;
}

-- an entry that leaves them alone
pub connections_frame : (configs : List Config) (log : List Entry) (e : Entry) (n : ℕ) (cs : Connections) → ConnectionsStand configs log n cs → LeavesConnections configs log e n → ConnectionsStand configs (log ++ e ∷ []) n cs
connections_frame configs log e n cs s q = connections_answered configs log e n cs cs.answers s q.spawns q.begins q.receives (holds_frame (queue.RouterAnswer n) log e cs.answers s.waits q.lines)

-- ---- answers that the node's router puts

-- different connections have different queues
pub same_ready : (n c d : ℕ) → is_at (nat_cmp c) d ≡ same_queue (queue.RouterAnswer n c) (queue.RouterAnswer n d)
same_ready n c d = grind (arith, nat_tests)

ready_test : (n c k m d : ℕ) → (cond ((2 == k) && ((n == m) && (d == d))) (is_at (nat_cmp c) d) false) ≡ ((2 == k) && ((n == m) && (c == d)))
ready_test n c k m d = grind (arith, nat_tests)

one_by : (b : Bool) (t : Bool) (w : List (ℕ × List Envelope)) (d c : ℕ) (x : Envelope) → t ≡ is_at (nat_cmp c) d → waiting (cond b (pushed_at w d x) w) c ≡ waiting w c ++ cond (cond b t false) (x ∷ []) []
one_by true t w d c x h = waiting-pushed_at d c x w ∙ (longer (is_at (nat_cmp c) d) (waiting w c) (x ∷ []) ∙ ap (λ b. waiting w c ++ cond b (x ∷ []) []) (sym h))
one_by false t w d c x h = sym (append-nil (waiting w c))

-- one put more
answer_one : (entry n place c : ℕ) (q : Queue) (i : Item) (w : List (ℕ × List Envelope))
    → waiting (answered_in entry n place q i w) c ≡ waiting w c ++ cond (same_queue (queue.RouterAnswer n c) q) (record { entry = entry; place = place; queue = q; item = i } ∷ []) []
answer_one entry n place c q i w =
    let x : Envelope = record { entry = entry; place = place; queue = q; item = i } in
    one_by (is_answer_to n q) (is_at (nat_cmp c) (detail_of q)) w (detail_of q) c x refl
    ∙ ap (λ b. waiting w c ++ cond b (x ∷ []) []) (ready_test n c (kind_of q) (owner_of q) (detail_of q))

placed_more : (b : Bool) (l rest : List Envelope) (x : Envelope) → (l ++ cond b (x ∷ []) []) ++ rest ≡ l ++ cond b (x ∷ rest) rest
placed_more true l rest x = append_assoc l (x ∷ []) rest
placed_more false l rest x = ap (λ k. k ++ rest) (append-nil l)

-- each answer that an entry puts waits
pub waiting-answered : (entry n place c : ℕ) (puts : List (Queue × Item)) (w : List (ℕ × List Envelope))
    → waiting (answered entry n place puts w) c ≡ waiting w c ++ filter (stands_in (queue.RouterAnswer n c)) (placed entry place puts)
waiting-answered entry n place c [] w = sym (append-nil (waiting w c))
waiting-answered entry n place c (x ∷ xs) w =
    let own : Envelope = record { entry = entry; place = place; queue = x.0; item = x.1 } in
    let rest = filter (stands_in (queue.RouterAnswer n c)) (placed entry (place + 1) xs) in
    waiting-answered entry n (place + 1) c xs (answered_by entry n place x w)
    ∙ (ap (λ l. l ++ rest) (answer_one entry n place c x.0 x.1 w) ∙ placed_more (same_queue (queue.RouterAnswer n c) x.0) (waiting w c) rest own)
