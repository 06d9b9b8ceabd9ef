-- Each entry that kills a connection shows why.
use Rattle.std.proofs.Common.{◌≡◌, ℕ, Bool, true, false, cond, List, [], ◌∷◌, refl, ap, sym, subst, ◌∙◌, eqb-true, Option, Some, None}
use Rattle.std.proofs.lemmas.Bool.{false≢true}
use Rattle.std.specs.Prelude.{⊤, take, slice_get}
use Rattle.std.specs.List.{AllByRecursion as Each}
use Rattle.p2p_base.specs.declared.key.Key.{Key}
use Rattle.p2p_address.specs.declared.ip.IpAddr.{IpAddr}
use Rattle.p2p_tracker_calls.specs.declared.call.Call.{Call}
use Rattle.p2p_tracker_calls.specs.declared.call.Call.TheVariants as call
use Rattle.p2p_tracker_calls.specs.Rules.{Rules}
use Rattle.p2p_tracker_calls.specs.BlockedKeys.{due_keys}
use Rattle.p2p_log.specs.declared.config.Config.{Config}
use Rattle.p2p_log.specs.declared.queue.Queue.{Queue}
use Rattle.p2p_log.specs.declared.queue.Queue.TheVariants as queue
use Rattle.p2p_log.specs.declared.item.Item.{Item}
use Rattle.p2p_log.specs.declared.item.Item.TheVariants as item
use Rattle.p2p_log.specs.declared.item.Envelope.{Envelope}
use Rattle.p2p_log.specs.declared.entry.Entry.{Entry}
use Rattle.p2p_log.specs.declared.entry.Reply.TheVariants as reply
use Rattle.p2p_log.specs.declared.event.Event.{Event}
use Rattle.p2p_log.specs.declared.event.Act.{Act}
use Rattle.p2p_log.specs.declared.event.Act.TheVariants as act
use Rattle.p2p_log.specs.Lines.{name_of, line}
use Rattle.p2p_log_rules.specs.Connections.{is_ended}
use Rattle.p2p_log_rules.specs.declared.row.Row.{Row}
use Rattle.p2p_log_rules.specs.Effect.{row, effect}
use Rattle.p2p_log_rules.specs.Facts.{is_up}
use Rattle.p2p_log_rules.specs.Handshakes.{is_handshaking, source_at}
use Rattle.p2p_log_rules.specs.Lawful.{IsLawful}
use Rattle.p2p_log_rules.specs.declared.row.Opening.{Opening}
use Rattle.p2p_log_rules.specs.Links.{openings_of}
use Rattle.p2p_log_rules.specs.Rows.{only}
use Rattle.p2p_log_rules.specs.Tracking.{key_cmp, rules_at, asked_by, calls_of, update_subscriptions, blocked_subscriptions}
use Rattle.p2p_log_rules.specs.TrackerPuts as puts
use Rattle.p2p_log_rules.specs.TrackerPuts.{Put}
use Rattle.p2p_log_rules.specs.TrackerRows as rows
use Rattle.p2p_log.proofs.Each.{Each-weaker}
use Rattle.p2p_log_rules.proofs.Touches.{in_ends}
use Rattle.p2p_log_laws.proofs.Reaching.{writes}
use Rattle.p2p_log_laws.specs.Kills.{IsEndedFor, ShowsKill, EachKillShowsItsCause}
use Rattle.p2p_log_laws.proofs.Drops.{Each-get}
use Rattle.p2p_log_laws.proofs.Prefixes.{entry_due}
use Rattle.p2p_log_laws.proofs.Shapes.{row_shape}
use Rattle.p2p_log_laws.proofs.TrackerPuts.{EachKindBy, each_unblocked_by, each_asked_by, each_connected_by}
use Rattle.p2p_log_laws.proofs.Heeded.{Each-heeded}

-- ---- who kills

ends_apart : (o : Option Opening) (n conn : ℕ) → in_ends o (queue.Control n conn) ≡ false
ends_apart None n conn = refl
ends_apart (Some o) n conn = refl

-- only a node's tracker writes where its connections are killed
control_writer : (configs : List Config) (log : List Entry) (a : Act) (n conn : ℕ) → writes configs log a (queue.Control n conn) ≡ true → a ≡ act.Tracker n
control_writer configs log (act.Tracker m) n conn h = sym (ap (λ k. act.Tracker k) (eqb-true n m h))
control_writer configs log (act.Finish link ok) n conn h = absurd (false≢true (sym (ends_apart (openings_of log link) n conn) ∙ h))
control_writer configs log _ n conn h = absurd (cc)

-- ---- a tracker's puts

module _ (n : ℕ) (Killed : ℕ → Type 0) where
  -- a put that kills a connection kills one of these, of this node
  abbrev Kills : Put → Type 0
  Kills x = (m conn : ℕ) → x ≡ (queue.Control m conn, item.Kill) → (m ≡ n) × Killed conn

  -- the node and the connection of a queue by which it is killed
  abbrev node_of : Queue → ℕ
  node_of (queue.Control m conn) = m
  node_of _ = 0

  abbrev connection_of : Queue → ℕ
  connection_of (queue.Control m conn) = conn
  connection_of _ = 0

  abbrev is_kill : Item → Bool
  is_kill item.Kill = true
  is_kill _ = false

  other_kills : (x : Put) → is_kill x.1 ≡ false → Kills x
  other_kills x other m conn is = absurd (false≢true (sym other ∙ ap (λ (y : Put). is_kill y.1) is))

  kinds_kill : EachKindBy n Kills Killed
  kinds_kill = record {
    kill = λ conn why m c is. (sym (ap (λ (y : Put). node_of y.0) is), subst Killed (ap (λ (y : Put). connection_of y.0) is) why);
    update = λ e u. other_kills (queue.PeerSetUpdates n e, item.PeerSetUpdate u) refl;
    blocked = λ e keys. other_kills (queue.Blocked n e, item.Blocked keys) refl;
    heard = λ ips. other_kills (queue.Addresses n, item.Addresses ips) refl;
    answer = λ e o. other_kills (queue.PeerSet n e, item.PeerSet o) refl;
  }

module _ (configs : List Config) (log : List Entry) (n at : ℕ) where
  abbrev rules : Rules Key
  rules = rules_at configs n

  abbrev calls : List (Call Key)
  calls = calls_of configs log n

  abbrev us : List ℕ
  us = update_subscriptions log n

  abbrev bs : List ℕ
  bs = blocked_subscriptions log n

  -- the connections that are killed for an item
  abbrev Killed : Item → ℕ → Type 0
  Killed i conn = IsEndedFor rules conn log calls at i

  handshake_kills : (name : ℕ) (told : IpAddr → Item) → ((source : IpAddr) → is_kill n (λ conn. ⊤) (told source) ≡ false) → (runs : Bool) (source : Option IpAddr) (i : Item)
      → Each (Kills n (Killed i)) (puts.handshake_puts rules n at us bs calls name told runs source)
  handshake_kills name told other true (Some source) i = (other_kills n (Killed i) (queue.Handshake n name, told source) (other source), tt)
  handshake_kills name told other true None i = tt
  handshake_kills name told other false source i = tt

  item_kills : (i : Item) → Each (Kills n (Killed i)) (puts.item_puts rules n at us bs calls log i)
  item_kills (item.Call e) = each_asked_by n (Kills n (Killed (item.Call e))) (Killed (item.Call e)) (kinds_kill n (Killed (item.Call e))) rules at us bs calls e (asked_by log e) (λ conn why. why)
  item_kills (item.Connect conn key) =
      each_connected_by n (Kills n (Killed (item.Connect conn key))) (Killed (item.Connect conn key)) (kinds_kill n (Killed (item.Connect conn key))) rules at us bs calls conn key (λ refused. (refl, refused))
  item_kills item.AskDialable = (other_kills n (Killed item.AskDialable) _ refl, tt)
  item_kills (item.AskDial key) = (other_kills n (Killed (item.AskDial key)) _ refl, tt)
  item_kills (item.AskAcceptable name key) =
      handshake_kills name (puts.acceptance rules n at us bs calls key) (λ source. refl) (is_handshaking log n name) (source_at log name) (item.AskAcceptable name key)
  item_kills (item.AskListen name key) =
      handshake_kills name (puts.listen_grant rules n at us bs calls key) (λ source. refl) (is_handshaking log n name) (source_at log name) (item.AskListen name key)
  item_kills _ = tt

  -- ---- its step

  -- the row is of a step that took what ends the connection
  record RowKills (r : Row) (conn : ℕ) : Type 0 where
    oldest : Envelope
    later : List Envelope
    stood : line log (queue.Tracker n) ≡ oldest ∷ later
    takes : r.takes ≡ name_of oldest ∷ []
    told : r.reply ≡ reply.Ok
    why : Killed oldest.item conn

  abbrev Shown : Row → Type 0
  Shown r = Each (Kills n (RowKills r)) r.puts

  oldest_shown : (xs : List Envelope) → line log (queue.Tracker n) ≡ xs → Shown (rows.served_row configs log n at xs)
  oldest_shown [] first = tt
  oldest_shown (x ∷ rest) first =
      let r : Row = rows.served_row configs log n at (x ∷ rest) in
      Each-weaker (Kills n (Killed x.item)) (Kills n (RowKills r))
      (λ p kills m conn is. let k = kills m conn is in (k.0, record { oldest = x; later = rest; stood = first; takes = refl; told = refl; why = k.1 }))
      r.puts (Each-heeded (is_ended log n) (Kills n (Killed x.item)) (puts.item_puts rules n at us bs calls log x.item) (item_kills x.item))

  step_shown : Shown (rows.tracker_step configs log n at)
  step_shown = by_due (puts.is_some_of (due_keys key_cmp rules calls at))
    where
      unblocked : Row
      unblocked = rows.tracker_told_row log [] (puts.unblocked_puts rules n at us bs calls (call.UnblockExpired at))

      by_due : (b : Bool) → Shown (cond b unblocked (rows.served_row configs log n at (line log (queue.Tracker n))))
      by_due true =
          Each-weaker (Kills n (λ c. ⊥)) (Kills n (RowKills unblocked)) (λ p kills m conn is. absurd ((kills m conn is).1)) unblocked.puts
          (each_unblocked_by n (Kills n (λ c. ⊥)) (λ c. ⊥) (kinds_kill n (λ c. ⊥)) rules at us bs calls (call.UnblockExpired at))
      by_due false = oldest_shown (line log (queue.Tracker n)) refl

  tracker_shown : Shown (rows.tracker_row configs log n at)
  tracker_shown = by_up (is_up log n)
    where
      by_up : (b : Bool) → Shown (cond b (rows.tracker_step configs log n at) (only reply.Gone))
      by_up true = step_shown
      by_up false = tt

-- ---- an entry

-- a put of any act that kills a connection is of its node's tracker
kill_shown : (configs : List Config) (log : List Entry) (at seed : ℕ) (a : Act) (i n conn : ℕ) → slice_get (row configs log at seed a).puts i ≡ Some (queue.Control n conn, item.Kill)
    → (a ≡ act.Tracker n) × RowKills configs log n at (row configs log at seed a) conn
unfolding row
kill_shown configs log at seed a i n conn there =
    let r : Row = row configs log at seed a in
    let tracks : a ≡ act.Tracker n =
    control_writer configs log a n conn
    (Each-get (λ (x : Put). writes configs log a x.0 ≡ true) r.puts i (queue.Control n conn, item.Kill) (row_shape configs log at seed a).reach.puts there)
    in
    (tracks, subst (λ b. RowKills configs log n at (row configs log at seed b) conn) (sym tracks) (by_tracker (subst (λ b. slice_get (row configs log at seed b).puts i ≡ Some (queue.Control n conn, item.Kill)) tracks there)))
  where
    by_tracker : slice_get (rows.tracker_row configs log n at).puts i ≡ Some (queue.Control n conn, item.Kill) → RowKills configs log n at (rows.tracker_row configs log n at) conn
    by_tracker here =
        (Each-get (Kills n (RowKills configs log n at (rows.tracker_row configs log n at))) (rows.tracker_row configs log n at).puts i (queue.Control n conn, item.Kill) (tracker_shown configs log n at) here n conn refl).1

-- the step of the tracker took something
pub effect_told : (configs : List Config) (log : List Entry) (ev : Event) (i n conn : ℕ) → slice_get (effect configs log ev).puts i ≡ Some (queue.Control n conn, item.Kill) → (effect configs log ev).reply ≡ reply.Ok
unfolding effect
effect_told configs log ev i n conn there = (kill_shown configs log ev.at ev.seed ev.act i n conn there).1.told

pub effect_shown : (configs : List Config) (log : List Entry) (ev : Event) (i n conn : ℕ) → slice_get (effect configs log ev).puts i ≡ Some (queue.Control n conn, item.Kill) → ShowsKill configs log (effect configs log ev) n conn
unfolding effect
effect_shown configs log ev i n conn there =
    let k = kill_shown configs log ev.at ev.seed ev.act i n conn there in
    record { acts = k.0; oldest = k.1.oldest; later = k.1.later; stood = k.1.stood; takes = k.1.takes; why = k.1.why }

pub each_kill_shown : (configs : List Config) (script : List Event) (log : List Entry) → IsLawful configs script log → EachKillShowsItsCause configs log
each_kill_shown configs script log lawful k i n conn e here there =
    let due = entry_due configs script log lawful k e here in
    subst (λ (x : Entry). ShowsKill configs (take k log) x n conn) (sym due.1)
    (effect_shown configs (take k log) due.0 i n conn (subst (λ (x : Entry). slice_get x.puts i ≡ Some (queue.Control n conn, item.Kill)) due.1 there))
