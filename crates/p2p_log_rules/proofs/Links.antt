-- The links over which keys are exchanged, and what has their listening ends, after one more entry.
use Rattle.std.proofs.Common.{◌≡◌, ℕ, ◌+◌, ◌≤◌, Bool, true, false, cond, List, [], ◌∷◌, ◌++◌, length, Option, Some, None, ◌⊎◌, inl, inr, refl, ap, sym, subst, ◌∙◌, arith, eq-eqb, eqb-true, length-append}
use Rattle.std.specs.Prelude.{◌==◌, ◌&&◌, unwrap_or, flat_map, is_some}
use Rattle.std.specs.List.{list_any}
use Rattle.std.specs.Option.{option_map}
use Rattle.std.proofs.lemmas.Option.{same_Some}
use Rattle.p2p_base.specs.declared.key.Key.{Key}
use Rattle.p2p_address.specs.declared.ip.SocketAddr.{SocketAddr}
use Rattle.p2p_tracker_calls.specs.declared.gates.Reply.TheVariants as gates
use Rattle.p2p_log.specs.declared.queue.Queue.{Queue}
use Rattle.p2p_log.specs.declared.queue.Queue.TheVariants as queue
use Rattle.p2p_log.specs.declared.item.Item.{Item}
use Rattle.p2p_log.specs.declared.item.Item.TheVariants as item
use Rattle.p2p_log.specs.declared.entry.Entry.{Entry}
use Rattle.p2p_log.specs.declared.entry.Reply.{Reply}
use Rattle.p2p_log.specs.declared.entry.Reply.TheVariants as reply
use Rattle.p2p_log.specs.declared.event.Act.{Act}
use Rattle.p2p_log.specs.declared.event.Act.TheVariants as act
use Rattle.p2p_log.specs.Lines.{line}
use Rattle.p2p_log_rules.specs.declared.row.Opening.{Opening}
use Rattle.p2p_log_rules.specs.declared.row.ListeningEnd.{ListeningEnd}
use Rattle.p2p_log_rules.specs.declared.row.ListeningEnd.TheVariants as listening
use Rattle.p2p_log_rules.specs.Facts.{taken, state_from, with_named}
use Rattle.p2p_log_rules.specs.Handshakes.{ends_handshake, came_over}
use Rattle.p2p_log_rules.specs.Links.{opens_exchange, openings_of, has_listening, listening_ends_of}
use Rattle.p2p_log_rules.specs.Puts.{broke_off}
use Rattle.p2p_log_rules.specs.Tellings.{Telling, last_or}
use Rattle.p2p_log_rules.specs.Tellings as telling
use Rattle.p2p_log_rules.specs.Told.{messages_stop, arrivals_stop, attempts_in, attempt_stops, handshakes_in, handshake_stops, connections_in, connection_stops, when, done_tells, link_tells, admitted_as, begun_tells, listening_dropped, arrival_tells, handshake_tells, gates_tell, heard_tells, tells, told, is_link}
use Rattle.p2p_log_rules.proofs.Channels.{IsStopOf, tells_stop, by_stop}
use Rattle.p2p_log_rules.proofs.TellingKinds.{Kind}
use Rattle.p2p_log_rules.proofs.TellingKinds as kind
use Rattle.p2p_log_rules.proofs.Families.{telling_kind, kinds_of, has, are_apart}
use Rattle.p2p_log_rules.proofs.Ignoring.{reads_some, last_or-none, unwrap_named, unwrap_at, by_entries}
use Rattle.p2p_log_rules.proofs.LinkTells.{weaker, told_of, quiet_told, tells_act, TellsNone, apart_none, linked_tells, finished_tells}
use Rattle.p2p_log_rules.proofs.Tellings.{told-append, last_or-append, append_quiet, or_left, or_right}
use Rattle.p2p_log_rules.proofs.Told.{begun_quiet, gates_quiet, heard_quiet, stop_quiet}

-- ---- between whom keys are exchanged

-- the kinds of tellings by which such an exchange begins and ends
abbrev pub exchange_kinds : List Kind
exchange_kinds = kind.link_opened ∷ kind.exchange_ended ∷ []

exchange_reads : (k : ℕ) (t : Telling) → has exchange_kinds (telling_kind t) ≡ false → reads_some (opens_exchange k) t ≡ false
exchange_reads k (telling.link_opened m j link to) h = cc
exchange_reads k (telling.exchange_ended link) h = cc
exchange_reads k _ h = refl

module _ (log : List Entry) (e : Entry) where
  pub openings_of-append : (k : ℕ) → openings_of (log ++ e ∷ []) k ≡ last_or (openings_of log k) (opens_exchange k) (tells (told log) log e)
  unfolding openings_of
  openings_of-append k = ap (last_or None (opens_exchange k)) (told-append log e) ∙ last_or-append None (opens_exchange k) (told log) (tells (told log) log e)

  -- an entry that tells of none leaves them alone
  pub openings_of-kept : TellsNone (told log) log e exchange_kinds → (k : ℕ) → openings_of (log ++ e ∷ []) k ≡ openings_of log k
  openings_of-kept none k =
      openings_of-append k
      ∙ last_or-none (openings_of log k) (opens_exchange k) (tells (told log) log e)
      (weaker (λ t. has exchange_kinds (telling_kind t)) (reads_some (opens_exchange k)) (exchange_reads k) (tells (told log) log e) none)

  -- a dial that was answered with a link begins one over that
  pub openings_of-linked : (d m to : ℕ) (from : SocketAddr) (one two : Queue × Item) (rest : List (Queue × Item)) → e.event.act ≡ act.Connect d from m to → e.reply ≡ reply.Ok → e.puts ≡ one ∷ two ∷ rest
      → (k : ℕ) → openings_of (log ++ e ∷ []) k ≡ with_named (length log) (Some (record { node = m; attempt = d; to = to })) (openings_of log) k
  openings_of-linked d m to from one two rest acts done puts k =
      openings_of-append k
      ∙ (ap (last_or (openings_of log k) (opens_exchange k)) (linked_tells (told log) log e d m to from one two rest acts done puts)
      ∙ unwrap_named (k == length log) (Some (record { node = m; attempt = d; to = to })) (openings_of log k))

  -- and one ends
  pub openings_of-finished : (link : ℕ) (ok : Bool) → e.event.act ≡ act.Finish link ok → e.reply ≡ reply.Ok → (k : ℕ) → openings_of (log ++ e ∷ []) k ≡ with_named link None (openings_of log) k
  openings_of-finished link ok acts done k =
      openings_of-append k
      ∙ (ap (last_or (openings_of log k) (opens_exchange k)) (finished_tells (told log) log e link ok acts done) ∙ unwrap_named (k == link) None (openings_of log k))

  -- the entry opens the link of its name
  pub record Opens (k : ℕ) (o : Opening) : Type 0 where
    pub named : k ≡ length log
    pub from : SocketAddr
    pub acts : e.event.act ≡ act.Connect o.attempt from o.node o.to
    pub done : e.reply ≡ reply.Ok
    pub one : Queue × Item
    pub two : Queue × Item
    pub rest : List (Queue × Item)
    pub puts : e.puts ≡ one ∷ two ∷ rest

  -- a link over which keys are exchanged then is one of before, or that
  pub opening_now : (k : ℕ) (o : Opening) → openings_of (log ++ e ∷ []) k ≡ Some o → (openings_of log k ≡ Some o) ⊎ Opens k o
  opening_now k o is = by e.event.act refl
    where
      Now : List Telling → Type 0
      Now us = last_or (openings_of log k) (opens_exchange k) us ≡ Some o

      now : (a : Act) → e.event.act ≡ a → Now (told_of (told log) log e a)
      now a acts = subst Now (tells_act (told log) log e a acts) (sym (openings_of-append k) ∙ is)

      connects : (d m to : ℕ) (from : SocketAddr) → e.event.act ≡ act.Connect d from m to → (r : Reply) → e.reply ≡ r → (puts : List (Queue × Item)) → e.puts ≡ puts
          → Now (done_tells r (telling.dial_answered m d (length log) ∷ link_tells m d (length log) to puts)) → (openings_of log k ≡ Some o) ⊎ Opens k o
      connects d m to from acts reply.Ok done (one ∷ two ∷ rest) puts so = opened (k == length log) refl so
        where
          opened : (b : Bool) → (k == length log) ≡ b → unwrap_or (cond b (Some (Some (record { node = m; attempt = d; to = to }))) None) (openings_of log k) ≡ Some o → (openings_of log k ≡ Some o) ⊎ Opens k o
          opened true at so =
              let same : record { node = m; attempt = d; to = to } ≡ o = same_Some _ o so in
              inr (record {
                named = eqb-true k (length log) at;
                from = from;
                acts = acts ∙ ap (λ (p : Opening). act.Connect p.attempt from p.node p.to) same;
                done = done;
                one = one;
                two = two;
                rest = rest;
                puts = puts;
              })
          opened false at so = inl so
      connects d m to from acts reply.Ok done (one ∷ []) puts so = inl so
      connects d m to from acts reply.Ok done [] puts so = inl so
      connects d m to from acts _ done puts has so = inl so

      finishes : (link : ℕ) (r : Reply) → Now (done_tells r (telling.exchange_ended link ∷ [])) → openings_of log k ≡ Some o
      finishes link reply.Ok so = ended (k == link) so
        where
          ended : (b : Bool) → unwrap_or (cond b (Some None) None) (openings_of log k) ≡ Some o → openings_of log k ≡ Some o
          ended true so = absurd (cc)
          ended false so = so
      finishes link _ so = so

      by : (a : Act) → e.event.act ≡ a → (openings_of log k ≡ Some o) ⊎ Opens k o
      by (act.Connect d from m to) acts = connects d m to from acts e.reply refl e.puts refl (now (act.Connect d from m to) acts)
      by (act.Finish link ok) acts = inl (finishes link e.reply (now (act.Finish link ok) acts))
      by a acts = inl (sym (openings_of-kept (apart_none (told log) log e exchange_kinds (ap (λ b. are_apart (kinds_of b) exchange_kinds) acts)) k) ∙ is)

pub openings_of-none : (k : ℕ) → openings_of [] k ≡ None
unfolding openings_of told state_from
openings_of-none k = refl

-- a link has the name of the entry that made it
pub openings_of-late : (log : List Entry) (k : ℕ) → length log ≤ k → openings_of log k ≡ None
openings_of-late log k = by_entries (λ l. length l ≤ k → openings_of l k ≡ None) (λ past. openings_of-none k) more log
  where
    more : (l : List Entry) (e : Entry) → (length l ≤ k → openings_of l k ≡ None) → length (l ++ e ∷ []) ≤ k → openings_of (l ++ e ∷ []) k ≡ None
    more l e early past = by (openings_of (l ++ e ∷ []) k) refl
      where
        longer : length (l ++ e ∷ []) ≡ length l + 1
        longer = length-append l (e ∷ [])

        none : openings_of l k ≡ None
        none = early (omega (arith, past, longer))

        by : (o : Option Opening) → openings_of (l ++ e ∷ []) k ≡ o → openings_of (l ++ e ∷ []) k ≡ None
        by None is = is
        by (Some o) is = absurd (never (opening_now l e k o is))
          where
            over : (a b c : ℕ) → a ≡ b → c ≡ b + 1 → c ≤ a → ⊥
            over a b c same more le = omega (arith, same, more, le)

            never : (openings_of l k ≡ Some o) ⊎ Opens l e k o → ⊥
            never (inl old) = let t : None ≡ Some o = sym none ∙ old in cc
            never (inr new) = over k (length l) (length (l ++ e ∷ [])) new.named longer past

-- a closed one does not begin anew
pub openings_of-closed : (log : List Entry) (e : Entry) (k : ℕ) → (k == length log) ≡ false → openings_of log k ≡ None → openings_of (log ++ e ∷ []) k ≡ None
openings_of-closed log e k other closed = by (openings_of (log ++ e ∷ []) k) refl
  where
    by : (o : Option Opening) → openings_of (log ++ e ∷ []) k ≡ o → openings_of (log ++ e ∷ []) k ≡ None
    by None is = is
    by (Some o) is = absurd (never (opening_now log e k o is))
      where
        never : (openings_of log k ≡ Some o) ⊎ Opens log e k o → ⊥
        never (inl old) = cc
        never (inr new) = let t : true ≡ false = sym (eq-eqb k (length log) new.named) ∙ other in cc

-- ---- what has their listening ends

-- these without that of a link, where there is one
abbrev pub without_end : Option ℕ → (ℕ → Option ListeningEnd) → ℕ → Option ListeningEnd
without_end None ends k = ends k
without_end (Some link) ends k = with_named link None ends k

-- the kinds of tellings that change it
abbrev pub listening_kinds : List Kind
listening_kinds = kind.node_stopped ∷ kind.link_opened ∷ kind.arrival_taken ∷ kind.handshake_ended ∷ []

listening_reads : (n k : ℕ) (t : Telling) → has listening_kinds (telling_kind t) ≡ false → reads_some (has_listening n k) t ≡ false
listening_reads n k (telling.link_opened m j link to) h = cc
listening_reads n k (telling.arrival_taken m link handshake) h = cc
listening_reads n k (telling.handshake_ended m h link) is = cc
listening_reads n k (telling.node_stopped m) is = cc
listening_reads n k _ h = refl

-- whether an end is given to something
abbrev gives_some : Option (Option ListeningEnd) → Bool
gives_some None = false
gives_some (Some None) = false
gives_some (Some (Some end)) = true

given_none : (b : Bool) → gives_some (cond b (Some None) None) ≡ false
given_none true = refl
given_none false = refl

given : (o : Option (Option ListeningEnd)) → gives_some o ≡ false → unwrap_or o None ≡ None
given None h = refl
given (Some None) h = refl
given (Some (Some end)) h = cc

module _ (log : List Entry) (e : Entry) (n : ℕ) where
  abbrev ends : ℕ → Option ListeningEnd
  ends = listening_ends_of log n

  abbrev ends_now : ℕ → Option ListeningEnd
  ends_now = listening_ends_of (log ++ e ∷ []) n

  pub listening_ends_of-append : (k : ℕ) → listening_ends_of (log ++ e ∷ []) n k ≡ last_or (listening_ends_of log n k) (has_listening n k) (tells (told log) log e)
  unfolding listening_ends_of
  listening_ends_of-append k = ap (last_or None (has_listening n k)) (told-append log e) ∙ last_or-append None (has_listening n k) (told log) (tells (told log) log e)

  -- an entry that tells nothing of one leaves it alone
  pub listening_ends_of-kept : (k : ℕ) → list_any (reads_some (has_listening n k)) (tells (told log) log e) ≡ false → listening_ends_of (log ++ e ∷ []) n k ≡ listening_ends_of log n k
  listening_ends_of-kept k none = listening_ends_of-append k ∙ last_or-none (ends k) (has_listening n k) (tells (told log) log e) none

  -- as where its act tells of others
  pub listening_ends_of-apart : are_apart (kinds_of e.event.act) listening_kinds ≡ true → (k : ℕ) → listening_ends_of (log ++ e ∷ []) n k ≡ listening_ends_of log n k
  listening_ends_of-apart apart k =
      listening_ends_of-kept k (weaker (λ t. has listening_kinds (telling_kind t)) (reads_some (has_listening n k)) (listening_reads n k) (tells (told log) log e) (apart_none (told log) log e listening_kinds apart))

  -- a peer arrives over a link that is made
  pub listening_ends_of-linked : (d m to : ℕ) (from : SocketAddr) (one two : Queue × Item) (rest : List (Queue × Item)) → e.event.act ≡ act.Connect d from m to → e.reply ≡ reply.Ok → e.puts ≡ one ∷ two ∷ rest
      → (k : ℕ) → listening_ends_of (log ++ e ∷ []) n k ≡ cond (to == n) (with_named (length log) (Some listening.Arriving) (listening_ends_of log n) k) (listening_ends_of log n k)
  listening_ends_of-linked d m to from one two rest acts done puts k =
      listening_ends_of-append k
      ∙ (ap (last_or (ends k) (has_listening n k)) (linked_tells (told log) log e d m to from one two rest acts done puts) ∙ unwrap_at (to == n) (k == length log) (Some listening.Arriving) (ends k))

  -- none does over a dial that made none
  pub listening_ends_of-unlinked : (d m to : ℕ) (from : SocketAddr) → e.event.act ≡ act.Connect d from m to → TellsNone (told log) log e exchange_kinds → (k : ℕ) → listening_ends_of (log ++ e ∷ []) n k ≡ listening_ends_of log n k
  listening_ends_of-unlinked d m to from acts none k =
      listening_ends_of-append k
      ∙ (ap (last_or (ends k) (has_listening n k)) (tells_act (told log) log e (act.Connect d from m to) acts)
      ∙ by e.reply e.puts (sym (ap (list_any (λ t. has exchange_kinds (telling_kind t))) (tells_act (told log) log e (act.Connect d from m to) acts)) ∙ none))
    where
      by : (r : Reply) (puts : List (Queue × Item)) → list_any (λ t. has exchange_kinds (telling_kind t)) (done_tells r (telling.dial_answered m d (length log) ∷ link_tells m d (length log) to puts)) ≡ false
          → last_or (ends k) (has_listening n k) (done_tells r (telling.dial_answered m d (length log) ∷ link_tells m d (length log) to puts)) ≡ ends k
      by reply.Ok (one ∷ two ∷ rest) h = cc
      by reply.Ok (one ∷ []) h = refl
      by reply.Ok [] h = refl
      by _ puts h = refl

  -- a step of the listener that took these
  pub listening_ends_of-listened : (m : ℕ) (items : List Item) → e.event.act ≡ act.Listener m → taken log e ≡ items
      → (k : ℕ) → listening_ends_of (log ++ e ∷ []) n k ≡ last_or (listening_ends_of log n k) (has_listening n k) (arrival_tells m (admitted_as (length log) e.reply) items)
  listening_ends_of-listened m items acts took k =
      let about : Telling → Bool = reads_some (has_listening n k) in
      let first : List Telling = arrival_tells m (admitted_as (length log) e.reply) (taken log e) in
      let begun : List Telling = begun_tells m e.event.at (admitted_as (length log) e.reply) (taken log e) in
      let gate : List Telling = gates_tell e.reply (taken log e) in
      let heard : List Telling = heard_tells m e.event.at e.reply (taken log e) in
      listening_ends_of-append k
      ∙ (ap (last_or (ends k) (has_listening n k)) (tells_act (told log) log e (act.Listener m) acts)
      ∙ (last_or-append (ends k) (has_listening n k) (first ++ (begun ++ gate)) heard
      ∙ (last_or-none (last_or (ends k) (has_listening n k) (first ++ (begun ++ gate))) (has_listening n k) heard
      (heard_quiet about (length log) e.event.at m e.reply (taken log e) (record { update = λ addresses. refl; arrival = λ from g. refl }))
      ∙ (last_or-append (ends k) (has_listening n k) first (begun ++ gate)
      ∙ (last_or-none (last_or (ends k) (has_listening n k) first) (has_listening n k) (begun ++ gate)
      (append_quiet about begun gate (begun_quiet about (length log) e.event.at m e.reply (taken log e) (λ from key link. refl)) (gates_quiet about (length log) 0 e.reply (taken log e) (λ link. refl)))
      ∙ ap (λ i. last_or (ends k) (has_listening n k) (arrival_tells m (admitted_as (length log) e.reply) i)) took)))))

  -- as one that took an arrival
  pub listening_ends_of-taken : (from : SocketAddr) (key : Key) (link : ℕ) (items : List Item) → e.event.act ≡ act.Listener n → taken log e ≡ item.Arrival from key link ∷ items
      → (k : ℕ) → listening_ends_of (log ++ e ∷ []) n k ≡ with_named link (option_map listening.Handshake (admitted_as (length log) e.reply)) (listening_ends_of log n) k
  listening_ends_of-taken from key link items acts took k =
      let end : Option ListeningEnd = option_map listening.Handshake (admitted_as (length log) e.reply) in
      listening_ends_of-listened n (item.Arrival from key link ∷ items) acts took k
      ∙ (unwrap_at (n == n) (k == link) end (ends k) ∙ ap (λ b. cond b (cond (k == link) end (ends k)) (ends k)) (eq-eqb n n refl))

  -- a step of a handshake
  pub listening_ends_of-shaken : (h m : ℕ) → e.event.act ≡ act.Handshake h m
      → (k : ℕ) → listening_ends_of (log ++ e ∷ []) n k ≡ cond (m == n) (cond (ends_handshake e.reply (taken log e)) (without_end (came_over log h) (listening_ends_of log n) k) (listening_ends_of log n k)) (listening_ends_of log n k)
  listening_ends_of-shaken h m acts k =
      listening_ends_of-append k
      ∙ (ap (last_or (ends k) (has_listening n k)) (tells_act (told log) log e (act.Handshake h m) acts) ∙ by (came_over log h) (ends_handshake e.reply (taken log e)) (broke_off e.reply (taken log e) e.puts) (taken log e))
    where
      same : (b : Bool) (o : Option ListeningEnd) → o ≡ cond b o o
      same true o = refl
      same false o = refl

      none_over : (o : Option ListeningEnd) (b : Bool) → unwrap_or (cond (b && false) (Some None) None) o ≡ cond b o o
      none_over o true = refl
      none_over o false = refl

      by : (o : Option ℕ) (over broke : Bool) (items : List Item)
          → last_or (ends k) (has_listening n k) (handshake_tells m h o over items ++ when broke (listening_dropped o)) ≡ cond (m == n) (cond over (without_end o ends k) (ends k)) (ends k)
      by (Some link) true true items = unwrap_at (m == n) (k == link) None (ends k)
      by (Some link) true false items = unwrap_at (m == n) (k == link) None (ends k)
      by None true true items = none_over (ends k) (m == n)
      by None true false items = none_over (ends k) (m == n)
      by (Some link) false true items = same (m == n) (ends k)
      by None false true items = same (m == n) (ends k)
      by o false false items = same (m == n) (ends k)

  -- the stop of another node leaves them alone: its tellings are of that node
  listening_ends_of-elsewhere : (by_start : Bool) (m : ℕ) → e.event.act ≡ act.Stop by_start m → (m == n) ≡ false → (k : ℕ) → listening_ends_of (log ++ e ∷ []) n k ≡ listening_ends_of log n k
  listening_ends_of-elsewhere by_start m acts other k =
      listening_ends_of-kept k
      (quiet_told (told log) log e (reads_some (has_listening n k)) (act.Stop by_start m) acts (record {
        stops = ap (λ b. is_some {T = Option ListeningEnd} (cond b (Some None) None)) other;
        attempt = λ j. refl;
        handshake = λ h link. ap (λ b. is_some {T = Option ListeningEnd} (cond (b && is_link k link) (Some None) None)) other;
        connection = λ conn. refl;
        drops = λ link s. refl;
      }))

  -- its own stop lets go of all
  pub listening_ends_of-stopped : IsStopOf log e n → (k : ℕ) → listening_ends_of (log ++ e ∷ []) n k ≡ None
  listening_ends_of-stopped stop k =
      listening_ends_of-append k
      ∙ (ap (last_or (ends k) (has_listening n k)) (tells_stop log e n stop)
      ∙ (ap (λ b. last_or (unwrap_or (cond b (Some None) None) (ends k)) (has_listening n k) rest) (eq-eqb n n refl) ∙ none_comes rest none_begins))
    where
      rest : List Telling
      rest =
          messages_stop (told log) n (line log (queue.Spawner n))
          ++ (arrivals_stop (line log (queue.Arrivals n))
          ++ (flat_map (attempt_stops (told log) n) (attempts_in (told log) n) ++ (flat_map (handshake_stops (told log) n) (handshakes_in (told log) n) ++ flat_map (connection_stops (told log) n) (connections_in (told log) n))))

      gives : Telling → Bool
      gives t = gives_some (has_listening n k t)

      none_begins : list_any gives rest ≡ false
      none_begins = or_right (gives (telling.node_stopped n)) (list_any gives rest) (stop_quiet gives 0 0 (told log) log n (record {
        stops = given_none (n == n);
        attempt = λ j. refl;
        handshake = λ h link. given_none ((n == n) && is_link k link);
        connection = λ conn. refl;
        drops = λ link s. refl;
      }))

      none_comes : (us : List Telling) → list_any gives us ≡ false → last_or None (has_listening n k) us ≡ None
      none_comes [] h = refl
      none_comes (t ∷ us) h = ap (λ o. last_or o (has_listening n k) us) (given (has_listening n k t) (or_left (gives t) (list_any gives us) h)) ∙ none_comes us (or_right (gives t) (list_any gives us) h)

  -- the entry takes the arrival over a link, for a handshake of its name
  pub record Takes (link h : ℕ) : Type 0 where
    pub named : h ≡ length log
    pub acts : e.event.act ≡ act.Listener n
    pub told : e.reply ≡ reply.Gates gates.Admitted
    pub from : SocketAddr
    pub key : Key
    pub rest : List Item
    pub took : taken log e ≡ item.Arrival from key link ∷ rest

  -- a handshake that has an end then had it before, or began so
  pub end_now : (link h : ℕ) → listening_ends_of (log ++ e ∷ []) n link ≡ Some (listening.Handshake h) → (listening_ends_of log n link ≡ Some (listening.Handshake h)) ⊎ Takes link h
  end_now link h is = by e.event.act refl
    where
      Had : Type 0
      Had = (listening_ends_of log n link ≡ Some (listening.Handshake h)) ⊎ Takes link h

      Now : List Telling → Type 0
      Now us = last_or (ends link) (has_listening n link) us ≡ Some (listening.Handshake h)

      now : (a : Act) → e.event.act ≡ a → Now (told_of (told log) log e a)
      now a acts = subst Now (tells_act (told log) log e a acts) (sym (listening_ends_of-append link) ∙ is)

      links : (d m to : ℕ) (r : Reply) (puts : List (Queue × Item)) → Now (done_tells r (telling.dial_answered m d (length log) ∷ link_tells m d (length log) to puts)) → ends link ≡ Some (listening.Handshake h)
      links d m to reply.Ok (one ∷ two ∷ rest) so = arrives ((to == n) && (link == length log)) so
        where
          arrives : (b : Bool) → unwrap_or (cond b (Some (Some listening.Arriving)) None) (ends link) ≡ Some (listening.Handshake h) → ends link ≡ Some (listening.Handshake h)
          arrives true so = cc
          arrives false so = so
      links d m to reply.Ok (one ∷ []) so = so
      links d m to reply.Ok [] so = so
      links d m to _ puts so = so

      same_name : (i j : ℕ) → Some (listening.Handshake i) ≡ Some (listening.Handshake j) → j ≡ i
      same_name i j so = cc

      -- where it admitted the arrival
      begins : e.event.act ≡ act.Listener n → (from : SocketAddr) (key : Key) (rest : List Item) → taken log e ≡ item.Arrival from key link ∷ rest → (r : Reply) → e.reply ≡ r
          → option_map listening.Handshake (admitted_as (length log) r) ≡ Some (listening.Handshake h) → Had
      begins acts from key rest took (reply.Gates gates.Admitted) told so = inr (record { named = same_name (length log) h so; acts = acts; told = told; from = from; key = key; rest = rest; took = took })
      begins acts from key rest took (reply.Gates _) told so = absurd (cc)
      begins acts from key rest took _ told so = absurd (cc)

      listens : (m : ℕ) → e.event.act ≡ act.Listener m → (items : List Item) → taken log e ≡ items → Now (arrival_tells m (admitted_as (length log) e.reply) items) → Had
      listens m acts (item.Arrival from key l ∷ rest) took so = here (m == n) refl (link == l) refl so
        where
          here : (b : Bool) → (m == n) ≡ b → (c : Bool) → (link == l) ≡ c
              → unwrap_or (cond (b && c) (Some (option_map listening.Handshake (admitted_as (length log) e.reply))) None) (ends link) ≡ Some (listening.Handshake h) → Had
          here true at true over so =
              begins (acts ∙ ap act.Listener (eqb-true m n at)) from key rest (took ∙ ap (λ j. item.Arrival from key j ∷ rest) (sym (eqb-true link l over))) e.reply refl so
          here true at false over so = inl so
          here false at c over so = inl so
      listens m acts _ took so = inl so

      shakes : (b over : Bool) (o : Option ℕ) → cond b (cond over (without_end o ends link) (ends link)) (ends link) ≡ Some (listening.Handshake h) → ends link ≡ Some (listening.Handshake h)
      shakes true true None so = so
      shakes true true (Some l) so = drops (link == l) so
        where
          drops : (b : Bool) → cond b None (ends link) ≡ Some (listening.Handshake h) → ends link ≡ Some (listening.Handshake h)
          drops true so = cc
          drops false so = so
      shakes true false o so = so
      shakes false over o so = so

      by : (a : Act) → e.event.act ≡ a → Had
      by (act.Connect d from m to) acts = inl (links d m to e.reply e.puts (now (act.Connect d from m to) acts))
      by (act.Listener m) acts = listens m acts (taken log e) refl (sym (listening_ends_of-listened m (taken log e) acts refl link) ∙ is)
      by (act.Handshake k m) acts = inl (shakes (m == n) (ends_handshake e.reply (taken log e)) (came_over log k) (sym (listening_ends_of-shaken k m acts link) ∙ is))
      by (act.Stop by_start m) acts =
          by_stop log e n by_start m acts
          (λ other. inl (sym (listening_ends_of-elsewhere by_start m acts other link) ∙ is))
          (λ stop. absurd (let t : None ≡ Some (listening.Handshake h) = sym (listening_ends_of-stopped stop link) ∙ is in cc))
          (λ none. inl (sym (listening_ends_of-kept link (ap (list_any (reads_some (has_listening n link))) none)) ∙ is))
      by a acts = inl (sym (listening_ends_of-apart (ap (λ b. are_apart (kinds_of b) listening_kinds) acts) link) ∙ is)

pub listening_ends_of-none : (n k : ℕ) → listening_ends_of [] n k ≡ None
unfolding listening_ends_of told state_from
listening_ends_of-none n k = refl
