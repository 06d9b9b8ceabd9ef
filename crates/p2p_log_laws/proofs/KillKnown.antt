-- What a tracker knows of each key, in a lawful log: that its calls do to it what `Knows` says.
use Rattle.std.proofs.Common.{◌≡◌, ℕ, Bool, true, false, cond, List, [], ◌∷◌, ◌++◌, Option, Some, None, inl, refl, ap, sym, subst, ◌∙◌, eqb-true}
use Rattle.std.specs.Prelude.{◌&&◌, ◌||◌, not, nat_lt, is_some}
use Rattle.std.specs.BTreeMap.{is_at}
use Rattle.std.specs.Cmp.{IsTotalOrder, nat_cmp_total}
use Rattle.std.specs.List.{list_any}
use Rattle.std.specs.Option.{option_map}
use Rattle.std.proofs.lemmas.Bool.{and_parts, false≢true}
use Rattle.p2p_base.specs.declared.key.Key.{Key}
use Rattle.p2p_address.specs.Addresses.{ingress_of}
use Rattle.p2p_address.specs.declared.ip.IpAddr.{IpAddr}
use Rattle.p2p_address.specs.declared.peer.Address.{Address}
use Rattle.p2p_tracker_calls.specs.declared.call.Call.{Call}
use Rattle.p2p_tracker_calls.specs.declared.call.Call.TheVariants as call
use Rattle.p2p_tracker_calls.specs.Allows.{allows_dial, allows_listen, dials_from, has_valid_ingress}
use Rattle.p2p_tracker_calls.specs.BlockedKeys.{due_keys}
use Rattle.p2p_tracker_calls.specs.Blocks.{lasts_at, is_over, is_local, block_of, is_blocked}
use Rattle.p2p_tracker_calls.specs.Grants.{is_held}
use Rattle.p2p_tracker_calls.specs.Jitter.{jitter_of}
use Rattle.p2p_tracker_calls.specs.Lives.{accepts, address_of, cool, is_eligible}
use Rattle.p2p_tracker_calls.specs.Named.{EqualKeysAreOne}
use Rattle.p2p_tracker_calls.specs.Overwrites.{overwritten}
use Rattle.p2p_tracker_calls.specs.Rules.{Rules}
use Rattle.p2p_tracker_calls.specs.Sets.{is_primary, is_tracked}
use Rattle.p2p_tracker_calls.proofs.Named.{among-where}
use Rattle.p2p_tracker_calls.proofs.Naming.{due-named}
use Rattle.p2p_log.specs.declared.asked.Asked.TheVariants as ask
use Rattle.p2p_log.specs.declared.config.Config.{Config}
use Rattle.p2p_log.specs.declared.entry.Entry.{Entry}
use Rattle.p2p_log.specs.declared.entry.Reply.TheVariants as reply
use Rattle.p2p_log.specs.declared.event.Act.{Act}
use Rattle.p2p_log.specs.declared.event.Act.TheVariants as act
use Rattle.p2p_log.specs.declared.event.Event.{Event}
use Rattle.p2p_log.specs.declared.item.Envelope.{Envelope}
use Rattle.p2p_log.specs.declared.item.Item.{Item}
use Rattle.p2p_log.specs.declared.item.Item.TheVariants as item
use Rattle.p2p_log.specs.declared.queue.Queue.TheVariants as queue
use Rattle.p2p_log.specs.Lines.{name_of, stands_in, live, line}
use Rattle.p2p_log.proofs.Each.{Has, Has-of_kept}
use Rattle.p2p_log_rules.specs.declared.row.Row.{Row}
use Rattle.p2p_log_rules.specs.Connections.{is_ended}
use Rattle.p2p_log_rules.specs.Effect.{row, effect, entry_of}
use Rattle.p2p_log_rules.specs.Facts.{is_up, is_stopped, state_from, taken}
use Rattle.p2p_log_rules.specs.Handshakes.{is_handshaking, source_at}
use Rattle.p2p_log_rules.specs.Lawful.{IsLawful}
use Rattle.p2p_log_rules.specs.Rows.{only}
use Rattle.p2p_log_rules.specs.Spawning.{Spawned, connections_of}
use Rattle.p2p_log_rules.specs.Told.{told}
use Rattle.p2p_log_rules.specs.Tracking.{key_cmp, rules_at, asked_by, grants_peer, calls_of, update_subscriptions, blocked_subscriptions}
use Rattle.p2p_log_rules.specs.TrackerPuts as puts
use Rattle.p2p_log_rules.specs.TrackerPuts.{Put}
use Rattle.p2p_log_rules.specs.TrackerRows as rows
use Rattle.p2p_log_rules.proofs.Calls.{asked_calls, item_calls, step_calls, calls_by, calls_of-append}
use Rattle.p2p_log_rules.proofs.Moves.{one_taken}
use Rattle.p2p_log_rules.proofs.Spawning.{connections_of-longer}
use Rattle.p2p_log_rules.proofs.Channels.{up_lasts}
use Rattle.p2p_log_laws.proofs.Connecting.{connect_is_reserved}
use Rattle.p2p_log_laws.proofs.Heeded.{list_any-heeded}
use Rattle.p2p_log_laws.proofs.HeldCalls.{key_from, at_key}
use Rattle.p2p_log_laws.proofs.KeptKnown.{IsFree, IsFit, Knows, knows_none, knows_more, knows_weaker, plain_fit}
use Rattle.p2p_log_laws.proofs.Prefixes.{lawful_at_end}
use Rattle.p2p_log_laws.proofs.TrackerMoves.{served_moves, unblocked_moves}
use Rattle.p2p_log_laws.proofs.Weighing.{taken_items}
use Rattle.p2p_log_laws.proofs.Words.{IsWord, word_of}
use Rattle.p2p_log_rules.proofs.Steps.{steps_tracker}

-- ---- keys, and blocks that have ended

key_order : IsTotalOrder key_cmp
key_order = record {
  antisymm = λ x y. nat_cmp_total.antisymm x.0 y.0;
  trans = λ x y z. nat_cmp_total.trans x.0 y.0 z.0;
  congr = λ x y z. nat_cmp_total.congr x.0 y.0 z.0;
}

pub same_key : EqualKeysAreOne key_cmp
same_key p q h = key_from p q (sym (at_key p q) ∙ h)

none_there : {X : Type 0} (xs : List X) → puts.is_some_of xs ≡ false → xs ≡ []
none_there [] h = refl
none_there (x ∷ xs) h = absurd (false≢true (sym h))

no_block : (o : Option ℕ) (at : ℕ) → lasts_at o at ≡ false → is_over o at ≡ false → o ≡ None
no_block None at lasts over = refl
no_block (Some end) at lasts over = absurd (false≢true (sym over ∙ ap not lasts))

from_not : (b : Bool) → not b ≡ true → b ≡ false
from_not false h = refl
from_not true h = absurd (false≢true h)

-- what is granted was allowed
granted_parts : (a b : Bool) (g : ℕ × ℕ) → is_some (cond (a && b) (Some g) None) ≡ true → (a ≡ true) × (b ≡ true)
granted_parts true true g h = (refl, refl)
granted_parts true false g h = absurd (false≢true h)
granted_parts false b g h = absurd (false≢true h)

begun_parts : (b : Bool) (conn c : ℕ) → ◌≡◌ {A = Option ℕ} (cond b (Some conn) None) (Some c) → (b ≡ true) × (conn ≡ c)
begun_parts true conn c h = (refl, cc)
begun_parts false conn c h = absurd (cc)

dial_eligible : (e a b c d : Bool) → ((((e && a) && b) && c) && d) ≡ true → e ≡ true
dial_eligible e a b c d h = (and_parts e a (and_parts (e && a) b (and_parts ((e && a) && b) c (and_parts (((e && a) && b) && c) d h).0).0).0).0

listen_eligible : (e a b c : Bool) → (((e && a) && b) && c) ≡ true → e ≡ true
listen_eligible e a b c h = (and_parts e a (and_parts (e && a) b (and_parts ((e && a) && b) c h).0).0).0

module _ (n : ℕ) where
  dialed : (b : Bool) (k : Key) (o : Option Address) → list_any grants_peer ((queue.Dialer n, item.Dial (cond b (option_map (λ a. (k, ingress_of a)) o) None)) ∷ []) ≡ true → b ≡ true
  dialed true k o h = refl
  dialed false k o h = absurd (false≢true h)

  listened : (b : Bool) (k : Key) (name : ℕ) → list_any grants_peer ((queue.Handshake n name, item.Listen (cond b (Some k) None)) ∷ []) ≡ true → b ≡ true
  listened true k name h = refl
  listened false k name h = absurd (false≢true h)

-- ---- a step of the tracker

-- the connection of this name was made, with the key
abbrev pub IsMade : List Entry → ℕ → Key → ℕ → Type 0
IsMade log n key conn = (made : Spawned) × (connections_of log n conn ≡ Some made) × (made.key ≡ key)

module _ (configs : List Config) (n : ℕ) where
  abbrev pub rules : Rules Key
  rules = rules_at configs n

  -- what the tracker knows of a key
  abbrev pub Known : Key → List Entry → Type 0
  Known key log = Knows rules key (IsMade log n key) (calls_of configs log n)

module _ (configs : List Config) (n : ℕ) (script : List Event) (log : List Entry) (lawful : IsLawful configs script log) where
  -- the next thing that the tracker is to hear is that a connection begins: it was made, with that key
  pub word_made : (conn : ℕ) (key : Key) (x : Envelope) (rest : List Envelope) → line log (queue.Tracker n) ≡ x ∷ rest → x.item ≡ item.Connect conn key → IsMade log n key conn
  unfolding line
  word_made conn key x rest first is =
      let w : IsWord configs n log x conn key = record {
        has = Has-of_kept (stands_in (queue.Tracker n)) (live log) x (subst (λ l. Has l x) (sym first) (inl refl));
        there = one_taken log (queue.Tracker n) x rest first;
        is = is;
      } in
      let of = word_of configs n script log lawful x conn key w in
      (of.made, of.there, of.of)

  module _ (key : Key) (at : ℕ) where
    abbrev calls : List (Call Key)
    calls = calls_of configs log n

    abbrev us : List ℕ
    us = update_subscriptions log n

    abbrev bs : List ℕ
    bs = blocked_subscriptions log n

    abbrev Has_known : List (Call Key) → Type 0
    Has_known cs = Knows (rules configs n) key (IsMade log n key) cs

    overwritten_known : (es : List (Key × Address)) (cs : List (Call Key)) → Has_known cs → Has_known (overwritten es cs)
    unfolding overwritten
    overwritten_known [] cs old = old
    overwritten_known (e ∷ es) cs old =
        overwritten_known es (call.Overwrite e.0 e.1 ∷ cs)
        (knows_more (rules configs n) key (IsMade log n key) (call.Overwrite e.0 e.1) cs (plain_fit (rules configs n) key (IsMade log n key) (call.Overwrite e.0 e.1) cs refl refl refl) old)

    plain_known : (c : Call Key) → IsFit (rules configs n) key (IsMade log n key) c calls → Has_known calls → Has_known (c ∷ calls)
    plain_known c fit old = knows_more (rules configs n) key (IsMade log n key) c calls fit old

    asked_known : (o : Option Act) → Has_known calls → Has_known (asked_calls o at calls)
    asked_known (Some (act.Ask (ask.Track index peers) m)) old =
        plain_known (call.Track index peers.primary peers.secondary) (plain_fit (rules configs n) key (IsMade log n key) (call.Track index peers.primary peers.secondary) calls refl refl refl) old
    asked_known (Some (act.Ask (ask.Overwrite peers) m)) old = overwritten_known peers calls old
    asked_known (Some (act.Ask (ask.Block k) m)) old = plain_known (call.Block k at) (plain_fit (rules configs n) key (IsMade log n key) (call.Block k at) calls refl refl refl) old
    asked_known _ old = old

    module _ (x : Envelope) (rest : List Envelope) (first : line log (queue.Tracker n) ≡ x ∷ rest) (none_due : puts.is_some_of (due_keys key_cmp (rules configs n) calls at) ≡ false) (lasts : is_stopped log n ≡ false) where
      -- a key that may be granted is free, since blocks that have ended are taken away before that
      free_of : (k : Key) → is_eligible key_cmp (rules configs n) calls k at ≡ true → IsFree (rules configs n) k calls
      free_of k eligible =
          let open_now = and_parts (not (is_local key_cmp (rules configs n) k) && is_tracked key_cmp (rules configs n) calls k) (not (is_blocked key_cmp (rules configs n) calls k at)) eligible in
          let others = and_parts (not (is_local key_cmp (rules configs n) k)) (is_tracked key_cmp (rules configs n) calls k) open_now.0 in
          let over : is_over (block_of key_cmp (rules configs n) calls k) at ≡ false =
          sym (among-where key_order same_key (λ q. is_over (block_of key_cmp (rules configs n) calls q) at) calls k (due-named key_cmp (rules configs n) k calls at))
          ∙ ap (λ (ks : List Key). list_any (λ p. is_at (key_cmp p) k) ks) (none_there (due_keys key_cmp (rules configs n) calls at) none_due)
          in
          record {
            other = from_not (is_local key_cmp (rules configs n) k) others.0;
            tracked = others.1;
            unblocked = no_block (block_of key_cmp (rules configs n) calls k) at (from_not (is_blocked key_cmp (rules configs n) calls k at) open_now.1) over;
          }

      free_at : (granted : Bool) (k : Key) (jitter : ℕ) → (granted ≡ true → is_eligible key_cmp (rules configs n) calls k at ≡ true)
          → is_some {T = ℕ × ℕ} (cond (granted && is_at (key_cmp k) key) (Some (at, jitter)) None) ≡ true → IsFree (rules configs n) key calls
      free_at granted k jitter allowed h =
          let parts = granted_parts granted (is_at (key_cmp k) key) (at, jitter) h in
          subst (λ (q : Key). IsFree (rules configs n) q calls) (same_key k key parts.1) (free_of k (allowed parts.0))

      dial_fit : (k : Key) (jitter : ℕ) (granted : Bool) → (granted ≡ true → is_eligible key_cmp (rules configs n) calls k at ≡ true) → IsFit (rules configs n) key (IsMade log n key) (call.Dial k at jitter granted) calls
      dial_fit k jitter granted allowed = record {
        grants = free_at granted k jitter allowed;
        connects = λ h. absurd (false≢true h);
        begins = λ conn h. absurd (let clash : ◌≡◌ {A = Option ℕ} None (Some conn) = h in cc);
      }

      listen_fit : (k : Key) (jitter : ℕ) (granted : Bool) → (granted ≡ true → is_eligible key_cmp (rules configs n) calls k at ≡ true) → IsFit (rules configs n) key (IsMade log n key) (call.Listen k at jitter granted) calls
      listen_fit k jitter granted allowed = record {
        grants = free_at granted k jitter allowed;
        connects = λ h. absurd (false≢true h);
        begins = λ conn h. absurd (let clash : ◌≡◌ {A = Option ℕ} None (Some conn) = h in cc);
      }

      connect_fit : (conn : ℕ) (k : Key) → x.item ≡ item.Connect conn k → IsFit (rules configs n) key (IsMade log n key) (call.Connect k (Some at) conn) calls
      connect_fit conn k is = record {
        grants = λ h. absurd (false≢true h);
        connects = λ h.
            let same = same_key k key (and_parts (is_at (key_cmp k) key) (accepts key_cmp (rules configs n) calls key (Some at)) h).0 in
            subst (λ (q : Key). is_held key_cmp calls q ≡ true) same (connect_is_reserved configs script log lawful n conn k x rest lasts first is).0;
        begins = λ c h.
            let parts = begun_parts (is_at (key_cmp k) key && accepts key_cmp (rules configs n) calls key (Some at)) conn c h in
            let same = same_key k key (and_parts (is_at (key_cmp k) key) (accepts key_cmp (rules configs n) calls key (Some at)) parts.0).0 in
            subst (λ (d : ℕ). IsMade log n key d) parts.1 (subst (λ (q : Key). IsMade log n q conn) same (word_made conn k x rest first is));
      }

      dial_allowed : (k : Key) → list_any grants_peer ((queue.Dialer n, item.Dial (puts.dial_grant (rules configs n) n at us bs calls k)) ∷ []) ≡ true → is_eligible key_cmp (rules configs n) calls k at ≡ true
      dial_allowed k h =
          dial_eligible (is_eligible key_cmp (rules configs n) calls k at) (not (is_held key_cmp calls k)) (not (nat_lt at (cool key_cmp (rules configs n) calls k))) (is_primary key_cmp (rules configs n) calls k)
          (has_valid_ingress (rules configs n).private (rules configs n).dns (address_of key_cmp (rules configs n) calls k))
          (dialed n (allows_dial key_cmp (rules configs n) calls k at) k (address_of key_cmp (rules configs n) calls k) h)

      listen_allowed : (name : ℕ) (k : Key) (runs : Bool) (source : Option IpAddr)
          → list_any grants_peer (puts.handshake_puts (rules configs n) n at us bs calls name (puts.listen_grant (rules configs n) n at us bs calls k) runs source) ≡ true
          → is_eligible key_cmp (rules configs n) calls k at ≡ true
      listen_allowed name k true (Some source) h =
          listen_eligible (is_eligible key_cmp (rules configs n) calls k at) (not (is_held key_cmp calls k)) ((rules configs n).bypass || dials_from source (address_of key_cmp (rules configs n) calls k))
          (not (nat_lt at (cool key_cmp (rules configs n) calls k)))
          (listened n (allows_listen key_cmp (rules configs n) calls k source at) k name h)
      listen_allowed name k true None h = absurd (false≢true h)
      listen_allowed name k false source h = absurd (false≢true h)

      item_known : (jitter : ℕ) (i : Item) → x.item ≡ i → Has_known calls
          → Has_known (item_calls log i at jitter (list_any grants_peer (puts.item_puts (rules configs n) n at us bs calls log i)) calls)
      item_known jitter (item.Call e) is old = asked_known (asked_by log e) old
      item_known jitter (item.Connect conn k) is old = plain_known (call.Connect k (Some at) conn) (connect_fit conn k is) old
      item_known jitter (item.AskDial k) is old =
          let granted = list_any grants_peer (puts.item_puts (rules configs n) n at us bs calls log (item.AskDial k)) in
          plain_known (call.Dial k at jitter granted) (dial_fit k jitter granted (dial_allowed k)) old
      item_known jitter (item.AskListen name k) is old =
          let granted = list_any grants_peer (puts.item_puts (rules configs n) n at us bs calls log (item.AskListen name k)) in
          plain_known (call.Listen k at jitter granted) (listen_fit k jitter granted (listen_allowed name k (is_handshaking log n name) (source_at log name))) old
      item_known jitter (item.Release k) is old = plain_known (call.Release k) (plain_fit (rules configs n) key (IsMade log n key) (call.Release k) calls refl refl refl) old
      item_known jitter _ is old = old

    module _ (ev : Event) (jitter : ℕ) (old : Has_known calls) where
      -- what is known after a row
      abbrev After : Row → Type 0
      After r = Has_known (step_calls log r.reply (taken log (entry_of ev r)) at jitter (list_any grants_peer r.puts) calls)

      unblocked_known : After (rows.tracker_told_row log [] (puts.unblocked_puts (rules configs n) n at us bs calls (call.UnblockExpired at)))
      unblocked_known =
          let xs : List Put = puts.unblocked_puts (rules configs n) n at us bs calls (call.UnblockExpired at) in
          subst (λ is. Has_known (step_calls log reply.Ok is at jitter (list_any grants_peer xs) calls)) (sym (taken_items log ev (rows.tracker_told_row log [] xs) (unblocked_moves log xs)))
          (plain_known (call.UnblockExpired at) (plain_fit (rules configs n) key (IsMade log n key) (call.UnblockExpired at) calls refl refl refl) old)

      served_known : is_stopped log n ≡ false → puts.is_some_of (due_keys key_cmp (rules configs n) calls at) ≡ false → (xs : List Envelope) → line log (queue.Tracker n) ≡ xs → After (rows.served_row configs log n at xs)
      served_known lasts none_due [] first = old
      served_known lasts none_due (x ∷ rest) first =
          let all : List Put = puts.item_puts (rules configs n) n at us bs calls log x.item in
          let xs : List Put = puts.heeded (is_ended log n) all in
          subst (λ is. Has_known (step_calls log reply.Ok is at jitter (list_any grants_peer xs) calls)) (sym (taken_items log ev (rows.tracker_told_row log (name_of x ∷ []) xs) (served_moves log xs (queue.Tracker n) x rest first)))
          (subst (λ b. Has_known (item_calls log x.item at jitter b calls)) (sym (list_any-heeded (is_ended log n) grants_peer (λ m conn. refl) all))
          (item_known x rest first none_due lasts jitter x.item refl old))

      step_known : is_stopped log n ≡ false → After (rows.tracker_step configs log n at)
      step_known lasts = by_due (puts.is_some_of (due_keys key_cmp (rules configs n) calls at)) refl
        where
          by_due : (b : Bool) → puts.is_some_of (due_keys key_cmp (rules configs n) calls at) ≡ b
              → After (cond b (rows.tracker_told_row log [] (puts.unblocked_puts (rules configs n) n at us bs calls (call.UnblockExpired at))) (rows.served_row configs log n at (line log (queue.Tracker n))))
          by_due true is = unblocked_known
          by_due false is = served_known lasts is (line log (queue.Tracker n)) refl

      row_known : After (rows.tracker_row configs log n at)
      row_known = by_up (is_up log n) refl
        where
          by_up : (b : Bool) → is_up log n ≡ b → After (cond b (rows.tracker_step configs log n at) (only reply.Gone))
          by_up true up = step_known (up_lasts log n up)
          by_up false up = old

-- ---- all entries

module _ (configs : List Config) (n : ℕ) (key : Key) where
  is_step : (a : Act) → steps_tracker n a ≡ true → a ≡ act.Tracker n
  is_step (act.Tracker m) h = ap act.Tracker (eqb-true m n h)
  is_step _ h = absurd (cc)

  known_first : Known configs n key []
  unfolding calls_of told state_from
  known_first = knows_none (rules configs n) key (IsMade [] n key)

  abbrev Stepped : List Entry → Event → ℕ → Row → Type 0
  Stepped log ev jitter r = Knows (rules configs n) key (IsMade log n key) (step_calls log r.reply (taken log (entry_of ev r)) ev.at jitter (list_any grants_peer r.puts) (calls_of configs log n))

  stepped_known : (script : List Event) (log : List Entry) (ev : Event) (jitter : ℕ) → IsLawful configs script log → Known configs n key log → ev.act ≡ act.Tracker n
      → Stepped log ev jitter (row configs log ev.at ev.seed ev.act)
  unfolding row
  stepped_known script log ev jitter lawful old is =
      subst (λ a. Stepped log ev jitter (row configs log ev.at ev.seed a)) (sym is) (row_known configs n script log lawful key ev.at ev jitter old)

  known_next : (script : List Event) (log : List Entry) (ev : Event) → IsLawful configs script log → Known configs n key log → Known configs n key (log ++ effect configs log ev ∷ [])
  unfolding effect
  known_next script log ev lawful old =
      let r : Row = row configs log ev.at ev.seed ev.act in
      let e : Entry = entry_of ev r in
      let longer : (conn : ℕ) → IsMade log n key conn → IsMade (log ++ e ∷ []) n key conn = λ conn m. (m.0, connections_of-longer log (e ∷ []) n conn m.0 m.1, m.2) in
      subst (λ l. Knows (rules configs n) key (IsMade (log ++ e ∷ []) n key) l) (sym (calls_of-append configs log e n))
      (knows_weaker (rules configs n) key (IsMade log n key) (IsMade (log ++ e ∷ []) n key) longer (calls_by configs n log e (calls_of configs log n))
      (by (steps_tracker n ev.act) refl))
    where
      by : (b : Bool) → steps_tracker n ev.act ≡ b
          → Knows (rules configs n) key (IsMade log n key)
          (cond b
          (step_calls log (row configs log ev.at ev.seed ev.act).reply (taken log (entry_of ev (row configs log ev.at ev.seed ev.act))) ev.at (jitter_of (rules configs n).cooldown ev.seed)
          (list_any grants_peer (row configs log ev.at ev.seed ev.act).puts) (calls_of configs log n))
          (calls_of configs log n))
      by true is = stepped_known script log ev (jitter_of (rules configs n).cooldown ev.seed) lawful old (is_step ev.act is)
      by false is = old

  -- what a tracker knows of each key
  pub known : (script : List Event) (log : List Entry) → IsLawful configs script log → Known configs n key log
  known script log lawful = lawful_at_end configs (Known configs n key) known_first known_next script log lawful
