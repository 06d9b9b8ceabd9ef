-- What a step of a node's tracker grants and takes back, of a key, and what that makes of the calls.
use Rattle.std.proofs.Common.{◌≡◌, ℕ, Bool, true, false, cond, List, [], ◌∷◌, map, Option, Some, None, refl, ap, sym, ◌∙◌, eq-eqb}
use Rattle.std.specs.Prelude.{◌==◌, ◌&&◌, count_by}
use Rattle.std.specs.List.{AllByRecursion as Each, list_any}
use Rattle.std.proofs.lemmas.Bool.{false≢true}
use Rattle.p2p_log_rules.proofs.Bools.{and_false, and_true, or_false}
use Rattle.p2p_base.specs.declared.key.Key.{Key}
use Rattle.p2p_address.specs.declared.ip.IpAddr.{IpAddr}
use Rattle.p2p_address.specs.declared.peer.Ingress.{Ingress}
use Rattle.p2p_tracker_calls.specs.declared.call.Call.{Call}
use Rattle.p2p_tracker_calls.specs.declared.call.Call.TheVariants as call
use Rattle.p2p_tracker_calls.specs.Blocks.{is_local}
use Rattle.p2p_tracker_calls.specs.BlockedKeys.{due_keys}
use Rattle.p2p_tracker_calls.specs.DialList.{dialable_keys, query_again_at}
use Rattle.p2p_tracker_calls.specs.Grants.{is_held}
use Rattle.p2p_tracker_calls.specs.Rules.{Rules}
use Rattle.p2p_log.specs.declared.config.Config.{Config}
use Rattle.p2p_log.specs.declared.queue.Queue.{Queue}
use Rattle.p2p_log.specs.declared.queue.Queue.TheVariants as queue
use Rattle.p2p_log.specs.declared.item.Item.{Item}
use Rattle.p2p_log.specs.declared.item.Item.TheVariants as item
use Rattle.p2p_log.specs.declared.item.Envelope.{Envelope}
use Rattle.p2p_log.specs.declared.entry.Entry.{Entry}
use Rattle.p2p_log.specs.declared.entry.Reply.{Reply}
use Rattle.p2p_log.specs.declared.entry.Reply.TheVariants as reply
use Rattle.p2p_log.specs.QueueCode.{same_queue}
use Rattle.p2p_log.specs.Lines.{name_of, line}
use Rattle.p2p_log.proofs.Each.{Each-append}
use Rattle.p2p_log.proofs.Queues.{same_queue-refl}
use Rattle.p2p_log_rules.specs.Connections.{is_ended}
use Rattle.p2p_log_rules.specs.declared.row.Row.{Row}
use Rattle.p2p_log_rules.specs.Facts.{is_up}
use Rattle.p2p_log_rules.specs.Moves.{Moves}
use Rattle.p2p_log_rules.specs.Rows.{only}
use Rattle.p2p_log_rules.specs.Tellings as telling
use Rattle.p2p_log_rules.specs.Tracked.{served_tells, called_tells}
use Rattle.p2p_log_rules.specs.Tracking.{key_cmp, rules_at, asked_by, grants_peer, calls_of, update_subscriptions, blocked_subscriptions}
use Rattle.p2p_log_rules.proofs.Calls.{item_calls, step_calls}
use Rattle.p2p_log_rules.specs.TrackerPuts as puts
use Rattle.p2p_tracker_calls.specs.Allows.{is_acceptable, allows_listen}
use Rattle.p2p_log_rules.specs.Handshakes.{is_handshaking, source_at}
use Rattle.p2p_log_rules.specs.TrackerPuts.{Put, dial_grant, acceptance, listen_grant, handshake_puts, item_puts, heeded}
use Rattle.p2p_log_rules.specs.TrackerRows as rows
use Rattle.p2p_log_rules.proofs.Moves.{one_taken, rings, rings_in}
use Rattle.p2p_log_laws.specs.Grants.{one, held_after}
use Rattle.p2p_log_laws.specs.NodeGrants.{put_of, holds_grants, grants_key, releases_key, puts_grant, puts_release, tells_grant, tells_release}
use Rattle.p2p_log_laws.proofs.Granting.{weighed_grant, call_grants, item_releases}
use Rattle.p2p_log_laws.proofs.HeldCalls.{held_asked, held_unblocked, held_connected, held_refused, held_unheard, held_granted, held_heard, held_released, key_from, dial_free, listen_free}
use Rattle.p2p_log_laws.proofs.Plain.{IsAside, Plain, StandsPlain, plain_item, no_grants, no_releases, none_grants, stand_aside}
use Rattle.p2p_log_laws.proofs.Shape.{no_moves}
use Rattle.p2p_log_laws.proofs.TrackerMoves.{left, qs, served_moves, unblocked_moves}
use Rattle.p2p_log_laws.proofs.TrackerPuts.{EachKind, each_unblocked, each_asked, each_connected}
use Rattle.p2p_log_laws.proofs.Weighing.{weight, count_by-one}
use Rattle.p2p_log_laws.proofs.Heeded.{count_by-heeded, list_any-heeded}

-- the turn of a grant or of a release
abbrev pub turn_of : Bool → Bool → List Bool
turn_of grants frees = cond grants (true ∷ []) (cond frees (false ∷ []) [])

module _ (n : ℕ) (key : Key) (rules : Rules Key) where
  kinds_plain : EachKind n (Plain n key)
  kinds_plain = record { kill = λ conn any. (refl, refl); update = λ e u. (refl, refl); blocked = λ e keys. (refl, refl); heard = λ ips. (refl, refl); answer = λ e o. (refl, refl) }

  -- what these puts grant, where a grant is told or not, this key is held before and after, and a release of it is taken or not
  pub record Turn (xs : List Put) (said frees before after : Bool) : Type 0 where
    pub grants : Bool
    pub says : said ≡ grants
    pub granted : list_any (puts_grant n key) xs ≡ grants
    pub grants_put : count_by (puts_grant n key) xs ≡ one grants
    pub releases_put : count_by (puts_release n key) xs ≡ 0
    pub turn : after ≡ held_after before (turn_of grants frees)
    -- a key that is granted was not held, is not the node's own, and is not freed as well
    pub free : grants ≡ true → before ≡ false
    pub others : grants ≡ true → is_local key_cmp rules key ≡ false
    pub apart : grants ≡ true → frees ≡ false

  plain_turn : (xs : List Put) (said frees before after : Bool) → said ≡ false → Each (Plain n key) xs → after ≡ held_after before (turn_of false frees) → Turn xs said frees before after
  plain_turn xs said frees before after quiet plain turn = record {
    grants = false;
    says = quiet;
    granted = none_grants n key xs plain;
    grants_put = no_grants n key xs plain;
    releases_put = no_releases n key xs plain;
    turn = turn;
    free = λ e. absurd (false≢true e);
    others = λ e. absurd (false≢true e);
    apart = λ e. absurd (false≢true e);
  }

  -- kills grant nothing, and free nothing
  heeded_turn : (ended : ℕ → Bool) (log : List Entry) (jitter at seed : ℕ) (i : Item) (calls : List (Call Key)) (xs : List Put)
      → Turn xs (list_any (tells_grant n key) (served_tells log n at seed (list_any grants_peer xs) i)) (releases_key key i) (is_held key_cmp calls key) (is_held key_cmp (step_calls log reply.Ok (i ∷ []) at jitter (list_any grants_peer xs) calls) key)
      → Turn (heeded ended xs) (list_any (tells_grant n key) (served_tells log n at seed (list_any grants_peer (heeded ended xs)) i)) (releases_key key i) (is_held key_cmp calls key)
      (is_held key_cmp (step_calls log reply.Ok (i ∷ []) at jitter (list_any grants_peer (heeded ended xs)) calls) key)
  heeded_turn ended log jitter at seed i calls xs t =
      let same : list_any grants_peer xs ≡ list_any grants_peer (heeded ended xs) = sym (list_any-heeded ended grants_peer (λ m conn. refl) xs) in
      record {
        grants = t.grants;
        says = ap (λ b. list_any (tells_grant n key) (served_tells log n at seed b i)) (sym same) ∙ t.says;
        granted = list_any-heeded ended (puts_grant n key) (λ m conn. refl) xs ∙ t.granted;
        grants_put = count_by-heeded ended (puts_grant n key) (λ m conn. refl) xs ∙ t.grants_put;
        releases_put = count_by-heeded ended (puts_release n key) (λ m conn. refl) xs ∙ t.releases_put;
        turn = ap (λ b. is_held key_cmp (step_calls log reply.Ok (i ∷ []) at jitter b calls) key) (sym same) ∙ t.turn;
        free = t.free;
        others = t.others;
        apart = t.apart;
      }

  -- ---- a dial, and a listen

  granted_there : (i : Item) → puts_grant n key (queue.Dialer n, i) ≡ grants_key key i
  granted_there i = ap (λ b. b && grants_key key i) (eq-eqb n n refl)

  dial_turn : (k : Key) (at seed jitter : ℕ) (calls : List (Call Key)) (o : Option (Key × Ingress)) → ((g : Key × Ingress) → o ≡ Some g → (is_held key_cmp calls k ≡ false) × (is_local key_cmp rules k ≡ false) × (g.0 ≡ k))
      → Turn ((queue.Dialer n, item.Dial o) ∷ []) (list_any (tells_grant n key) (telling.dial_weighed n at seed k (list_any grants_peer ((queue.Dialer n, item.Dial o) ∷ [])) ∷ [])) false (is_held key_cmp calls key) (is_held key_cmp (call.Dial k at jitter (list_any grants_peer ((queue.Dialer n, item.Dial o) ∷ [])) ∷ calls) key)
  dial_turn k at seed jitter calls None h =
      plain_turn ((queue.Dialer n, item.Dial None) ∷ []) (list_any (tells_grant n key) (telling.dial_weighed n at seed k false ∷ [])) false (is_held key_cmp calls key) (is_held key_cmp (call.Dial k at jitter false ∷ calls) key)
      (weighed_grant n key k false ∙ and_false (k.0 == key.0)) (plain_item n key (queue.Dialer n) (item.Dial None) refl refl, tt) (held_refused k at jitter calls key)
  dial_turn k at seed jitter calls (Some g) h =
      let found = h g refl in
      let test : (g.0.0 == key.0) ≡ (k.0 == key.0) = ap (λ (x : Key). x.0 == key.0) found.2 in
      let put : puts_grant n key (queue.Dialer n, item.Dial (Some g)) ≡ (k.0 == key.0) = granted_there (item.Dial (Some g)) ∙ test in
      record {
        grants = k.0 == key.0;
        says = weighed_grant n key k true ∙ and_true (k.0 == key.0);
        granted = or_false (puts_grant n key (queue.Dialer n, item.Dial (Some g))) ∙ put;
        grants_put = count_by-one (puts_grant n key) (queue.Dialer n, item.Dial (Some g)) ∙ ap one put;
        releases_put = count_by-one (puts_release n key) (queue.Dialer n, item.Dial (Some g));
        turn = held_granted k at jitter calls key;
        free = λ e. ap (λ (x : Key). is_held key_cmp calls x) (sym (key_from k key e)) ∙ found.0;
        others = λ e. ap (λ (x : Key). is_local key_cmp rules x) (sym (key_from k key e)) ∙ found.1;
        apart = λ e. refl;
      }

  listen_turn : (name : ℕ) (k : Key) (at seed jitter : ℕ) (calls : List (Call Key)) (b : Bool) → (b ≡ true → (is_held key_cmp calls k ≡ false) × (is_local key_cmp rules k ≡ false))
      → Turn ((queue.Handshake n name, item.Listen (cond b (Some k) None)) ∷ [])
      (list_any (tells_grant n key) (telling.listen_weighed n at seed k (list_any grants_peer ((queue.Handshake n name, item.Listen (cond b (Some k) None)) ∷ [])) ∷ [])) false (is_held key_cmp calls key)
      (is_held key_cmp (call.Listen k at jitter (list_any grants_peer ((queue.Handshake n name, item.Listen (cond b (Some k) None)) ∷ [])) ∷ calls) key)
  listen_turn name k at seed jitter calls false h =
      plain_turn ((queue.Handshake n name, item.Listen None) ∷ []) (list_any (tells_grant n key) (telling.listen_weighed n at seed k false ∷ [])) false (is_held key_cmp calls key) (is_held key_cmp (call.Listen k at jitter false ∷ calls) key)
      (weighed_grant n key k false ∙ and_false (k.0 == key.0)) (plain_item n key (queue.Handshake n name) (item.Listen None) refl refl, tt) (held_unheard k at jitter calls key)
  listen_turn name k at seed jitter calls true h =
      let x : Put = (queue.Handshake n name, item.Listen (Some k)) in
      let put : puts_grant n key x ≡ (k.0 == key.0) = ap (λ b. b && (k.0 == key.0)) (eq-eqb n n refl) in
      record {
        grants = k.0 == key.0;
        says = weighed_grant n key k true ∙ and_true (k.0 == key.0);
        granted = or_false (puts_grant n key x) ∙ put;
        grants_put = count_by-one (puts_grant n key) x ∙ ap one put;
        releases_put = count_by-one (puts_release n key) x;
        turn = held_heard k at jitter calls key;
        free = λ e. ap (λ (y : Key). is_held key_cmp calls y) (sym (key_from k key e)) ∙ (h refl).0;
        others = λ e. ap (λ (y : Key). is_local key_cmp rules y) (sym (key_from k key e)) ∙ (h refl).1;
        apart = λ e. refl;
      }

  -- ---- the items of its mailbox

  module _ (at : ℕ) (us bs : List ℕ) (calls : List (Call Key)) (log : List Entry) (seed jitter : ℕ) where
    abbrev puts_of : Item → List Put
    puts_of i = item_puts rules n at us bs calls log i

    abbrev ItemTurn : Item → Type 0
    ItemTurn i = Turn (puts_of i) (list_any (tells_grant n key) (served_tells log n at seed (list_any grants_peer (puts_of i)) i)) (releases_key key i) (is_held key_cmp calls key) (is_held key_cmp (item_calls log i at jitter (list_any grants_peer (puts_of i)) calls) key)

    acceptable_turn : (name : ℕ) (k : Key) (runs : Bool) (source : Option IpAddr)
        → Turn (handshake_puts rules n at us bs calls name (acceptance rules n at us bs calls k) runs source) false false (is_held key_cmp calls key) (is_held key_cmp calls key)
    acceptable_turn name k true (Some source) =
        let xs = handshake_puts rules n at us bs calls name (acceptance rules n at us bs calls k) true (Some source) in
        plain_turn xs false false (is_held key_cmp calls key) (is_held key_cmp calls key) refl
        (plain_item n key (queue.Handshake n name) (item.Acceptable (is_acceptable key_cmp rules calls k source at)) refl refl, tt) refl
    acceptable_turn name k true None = plain_turn [] false false (is_held key_cmp calls key) (is_held key_cmp calls key) refl tt refl
    acceptable_turn name k false source = plain_turn [] false false (is_held key_cmp calls key) (is_held key_cmp calls key) refl tt refl

    -- where a handshake that asks has ended, nobody is reserved
    heard_turn : (name : ℕ) (k : Key) (runs : Bool) (source : Option IpAddr) →
        let xs = handshake_puts rules n at us bs calls name (listen_grant rules n at us bs calls k) runs source in
        Turn xs (list_any (tells_grant n key) (telling.listen_weighed n at seed k (list_any grants_peer xs) ∷ [])) false (is_held key_cmp calls key) (is_held key_cmp (call.Listen k at jitter (list_any grants_peer xs) ∷ calls) key)
    heard_turn name k true (Some source) = listen_turn name k at seed jitter calls (allows_listen key_cmp rules calls k source at) (λ h. listen_free rules at calls k source h)
    heard_turn name k true None = plain_turn [] (list_any (tells_grant n key) (telling.listen_weighed n at seed k false ∷ [])) false (is_held key_cmp calls key) (is_held key_cmp (call.Listen k at jitter false ∷ calls) key)
        (weighed_grant n key k false ∙ and_false (k.0 == key.0)) tt (held_unheard k at jitter calls key)
    heard_turn name k false source = plain_turn [] (list_any (tells_grant n key) (telling.listen_weighed n at seed k false ∷ [])) false (is_held key_cmp calls key) (is_held key_cmp (call.Listen k at jitter false ∷ calls) key)
        (weighed_grant n key k false ∙ and_false (k.0 == key.0)) tt (held_unheard k at jitter calls key)

    item_turn : (i : Item) → ItemTurn i
    item_turn (item.Call e) =
        let xs = puts_of (item.Call e) in
        plain_turn xs (list_any (tells_grant n key) (served_tells log n at seed (list_any grants_peer xs) (item.Call e))) false (is_held key_cmp calls key)
        (is_held key_cmp (item_calls log (item.Call e) at jitter (list_any grants_peer xs) calls) key) (call_grants n key log at seed (list_any grants_peer xs) e)
        (each_asked n (Plain n key) kinds_plain rules at us bs calls e (asked_by log e)) (held_asked (asked_by log e) at calls key)
    item_turn (item.Connect conn k) =
        let xs = puts_of (item.Connect conn k) in
        plain_turn xs false false (is_held key_cmp calls key) (is_held key_cmp (item_calls log (item.Connect conn k) at jitter (list_any grants_peer xs) calls) key) refl
        (each_connected n (Plain n key) kinds_plain rules at us bs calls conn k) (held_connected k (Some at) conn calls key)
    item_turn item.AskDialable =
        let xs = puts_of item.AskDialable in
        plain_turn xs false false (is_held key_cmp calls key) (is_held key_cmp calls key) refl (plain_item n key (queue.Dialer n) (item.Dialable (query_again_at key_cmp rules calls at) (dialable_keys key_cmp rules calls at)) refl refl, tt) refl
    item_turn (item.AskDial k) = dial_turn k at seed jitter calls (dial_grant rules n at us bs calls k) (λ g e. dial_free rules n at us bs calls k g e)
    item_turn (item.AskAcceptable name k) = acceptable_turn name k (is_handshaking log n name) (source_at log name)
    item_turn (item.AskListen name k) = heard_turn name k (is_handshaking log n name) (source_at log name)
    item_turn (item.Release k) =
        plain_turn [] false (k.0 == key.0) (is_held key_cmp calls key) (is_held key_cmp (call.Release k ∷ calls) key) refl tt (held_released k calls key)
    item_turn _ = plain_turn [] false false (is_held key_cmp calls key) (is_held key_cmp calls key) refl tt refl

  -- ---- its rows

  ring_aside : (q : Queue) → Each (IsAside n) (rows.ring_of q)
  ring_aside (queue.Addresses m) = ((refl, refl), tt)
  ring_aside (queue.Blocked m e) = ((refl, refl), tt)
  ring_aside _ = tt

  rings_aside : (xs : List Put) → Each (IsAside n) (rows.rings_of xs)
  rings_aside [] = tt
  rings_aside (x ∷ xs) = Each-append (IsAside n) (rows.ring_of x.0) (rows.rings_of xs) (ring_aside x.0) (rings_aside xs)

  overwritten_plain : (log : List Entry) (xs : List Put) (takes : List (ℕ × ℕ)) → Each (StandsPlain n key) (rings (left log xs takes) (qs log xs))
  overwritten_plain log xs takes =
      stand_aside n key (rings (left log xs takes) (qs log xs)) (rings_in (IsAside n) (left log xs takes) (qs log xs) (rings_aside xs))

  -- what a step's row does to the key: what it takes is the first of the tracker's mailbox, or nothing
  pub record Step (log : List Entry) (at seed jitter : ℕ) (calls : List (Call Key)) (r : Row) : Type 0 where
    pub moves : Moves log r
    pub frees : Bool
    pub says : list_any (tells_release n key) (called_tells log n at seed (list_any grants_peer r.puts) r.reply (map (λ x. x.item) moves.taken)) ≡ frees
    pub freed : list_any (releases_key key) (map (λ x. x.item) moves.taken) ≡ frees
    pub releases_taken : weight (puts_release n key) moves.taken ≡ one frees
    pub grants_taken : weight (puts_grant n key) moves.taken ≡ 0
    pub ended : Each (StandsPlain n key) moves.ended
    pub turned : Turn r.puts (list_any (tells_grant n key) (called_tells log n at seed (list_any grants_peer r.puts) r.reply (map (λ x. x.item) moves.taken))) frees (is_held key_cmp calls key) (is_held key_cmp (step_calls log r.reply (map (λ x. x.item) moves.taken) at jitter (list_any grants_peer r.puts) calls) key)

  module _ (log : List Entry) (at seed jitter : ℕ) (calls : List (Call Key)) where
    -- it does nothing
    idle_step : (r : Reply) → called_tells log n at seed false r [] ≡ [] → is_held key_cmp (step_calls log r [] at jitter false calls) key ≡ is_held key_cmp calls key → Step log at seed jitter calls (only r)
    idle_step r quiet same = record {
      moves = no_moves log (only r) refl refl;
      frees = false;
      says = ap (list_any (tells_release n key)) quiet;
      freed = refl;
      releases_taken = refl;
      grants_taken = refl;
      ended = tt;
      turned = plain_turn [] (list_any (tells_grant n key) (called_tells log n at seed false r [])) false (is_held key_cmp calls key) (is_held key_cmp (step_calls log r [] at jitter false calls) key)
          (ap (list_any (tells_grant n key)) quiet) tt same;
    }

    module _ (us bs : List ℕ) where
      -- blocks have ended
      unblocked_step : Step log at seed jitter calls (rows.tracker_told_row log [] (puts.unblocked_puts rules n at us bs calls (call.UnblockExpired at)))
      unblocked_step =
          let xs : List Put = puts.unblocked_puts rules n at us bs calls (call.UnblockExpired at) in
          record {
            moves = unblocked_moves log xs;
            frees = false;
            says = refl;
            freed = refl;
            releases_taken = refl;
            grants_taken = refl;
            ended = overwritten_plain log xs [];
            turned = plain_turn xs false false (is_held key_cmp calls key) (is_held key_cmp (call.UnblockExpired at ∷ calls) key) refl
                (each_unblocked n (Plain n key) kinds_plain rules at us bs calls (call.UnblockExpired at)) (held_unblocked at calls key);
          }

      -- the oldest message is taken
      served_step : (x : Envelope) (rest : List Envelope) → line log (queue.Tracker n) ≡ x ∷ rest
          → Step log at seed jitter calls (rows.tracker_told_row log (name_of x ∷ []) (heeded (is_ended log n) (item_puts rules n at us bs calls log x.item)))
      served_step x rest first =
          let all : List Put = item_puts rules n at us bs calls log x.item in
          let xs : List Put = heeded (is_ended log n) all in
          let stood : x.queue ≡ queue.Tracker n = one_taken log (queue.Tracker n) x rest first in
          let released : puts_release n key (put_of x) ≡ releases_key key x.item =
          ap (λ q. same_queue (queue.Tracker n) q && releases_key key x.item) stood ∙ ap (λ b. b && releases_key key x.item) (same_queue-refl (queue.Tracker n))
          in
          let granted : puts_grant n key (put_of x) ≡ false = ap (λ q. holds_grants n q && grants_key key x.item) stood in
          record {
            moves = served_moves log xs (queue.Tracker n) x rest first;
            frees = releases_key key x.item;
            says = item_releases n key log at seed (list_any grants_peer xs) x.item;
            freed = or_false (releases_key key x.item);
            releases_taken = count_by-one (λ y. puts_release n key (put_of y)) x ∙ ap one released;
            grants_taken = count_by-one (λ y. puts_grant n key (put_of y)) x ∙ ap one granted;
            ended = overwritten_plain log xs (name_of x ∷ []);
            turned = heeded_turn (is_ended log n) log jitter at seed x.item calls all (item_turn at us bs calls log seed jitter x.item);
          }

module _ (n : ℕ) (key : Key) (configs : List Config) (log : List Entry) (at seed jitter : ℕ) where
  abbrev calls : List (Call Key)
  calls = calls_of configs log n

  abbrev us : List ℕ
  us = update_subscriptions log n

  abbrev bs : List ℕ
  bs = blocked_subscriptions log n

  abbrev rules : Rules Key
  rules = rules_at configs n

  oldest_step : (xs : List Envelope) → line log (queue.Tracker n) ≡ xs → Step n key rules log at seed jitter calls (rows.served_row configs log n at xs)
  oldest_step [] first = idle_step n key rules log at seed jitter calls reply.Idle refl refl
  oldest_step (x ∷ rest) first = served_step n key rules log at seed jitter calls us bs x rest first

  due_step : Step n key rules log at seed jitter calls (rows.tracker_step configs log n at)
  due_step = by_due (puts.is_some_of (due_keys key_cmp rules calls at))
    where
      by_due : (b : Bool) → Step n key rules log at seed jitter calls (cond b (rows.tracker_told_row log [] (puts.unblocked_puts rules n at us bs calls (call.UnblockExpired at))) (rows.served_row configs log n at (line log (queue.Tracker n))))
      by_due true = unblocked_step n key rules log at seed jitter calls us bs
      by_due false = oldest_step (line log (queue.Tracker n)) refl

  pub tracker_steps : Step n key rules log at seed jitter calls (rows.tracker_row configs log n at)
  tracker_steps = by_up (is_up log n)
    where
      by_up : (b : Bool) → Step n key rules log at seed jitter calls (cond b (rows.tracker_step configs log n at) (only reply.Gone))
      by_up true = due_step
      by_up false = idle_step n key rules log at seed jitter calls reply.Gone refl refl
