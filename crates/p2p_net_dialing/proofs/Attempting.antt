-- What attempts are told.
use Rattle.std.proofs.Common.{◌≡◌, ℕ, false, cond, List, [], ◌∷◌, ◌++◌, map, length, refl, ap, sym, subst, ◌∙◌, arith, eq-eqb, Option, Some, None}
use Rattle.std.specs.Prelude.{filter, flat_map, ◌==◌, ◌&&◌, ◌||◌}
use Rattle.std.specs.List.{list_any}
use Rattle.std.proofs.lemmas.Bool.Decides.{nat_tests}
use Rattle.std.proofs.lemmas.List.{map-append}
use Rattle.p2p_log_rules.proofs.Bools.{or_false}
use Rattle.p2p_base.specs.declared.key.Key.{Key}
use Rattle.p2p_tracker_directory.specs.declared.metadata.Metadata.{Metadata}
use Rattle.p2p_gates.specs.declared.config.Config.{Config as Gates}
use Rattle.p2p_log.specs.declared.config.Config.{Config}
use Rattle.p2p_log.specs.declared.queue.Queue.{Queue}
use Rattle.p2p_log.specs.declared.queue.Queue.TheVariants as queue
use Rattle.p2p_log.specs.declared.queue.Side.{Side}
use Rattle.p2p_log.specs.declared.queue.Side.TheVariants as side
use Rattle.p2p_log.specs.declared.item.Item.{Item}
use Rattle.p2p_log.specs.declared.item.Envelope.{Envelope}
use Rattle.p2p_log.specs.declared.entry.Entry.{Entry}
use Rattle.p2p_log.specs.declared.entry.Reply.{Reply}
use Rattle.p2p_log.specs.declared.entry.Reply.TheVariants as reply
use Rattle.p2p_log.specs.declared.event.Event.{Event}
use Rattle.p2p_log.specs.declared.event.Act.{Act}
use Rattle.p2p_log.specs.declared.event.Act.TheVariants as act
use Rattle.p2p_log.specs.QueueCode.{same_queue}
use Rattle.p2p_log.specs.Lines.{name_of, placed, ended_item, stays, live, stands_in, line}
use Rattle.p2p_log.proofs.Queues.{same_queue-refl}
use Rattle.p2p_log_rules.specs.declared.row.Row.{Row}
use Rattle.p2p_log_rules.specs.Attempting.{Attempt, dial_rules_at, attempts_of, attempt_told_row}
use Rattle.p2p_log_rules.specs.Tellings.{Telling}
use Rattle.p2p_log_rules.specs.Told.{act_tells, told}
use Rattle.p2p_log_rules.proofs.Attempts.{of_attempt, attempt_told}
use Rattle.p2p_log_rules.proofs.AttemptTellings.{attempts_of-act, attempts_of-others}
use Rattle.p2p_log_rules.proofs.Dialing.{dials_by, dials_of-kept}
use Rattle.p2p_log_rules.proofs.Told.{NoneTold}
use Rattle.p2p_log_rules.specs.Effect.{only, row, effect, entry_of}
use Rattle.p2p_log_rules.specs.Connections.{half_at}
use Rattle.p2p_log_rules.specs.Dropping.{LinkEnd, other_side, dialing_end, arriving_end, half_end, listening_end}
use Rattle.p2p_log_rules.specs.Facts.{turns, taken}
use Rattle.p2p_log_rules.specs.Handshakes.{came_over}
use Rattle.p2p_log_rules.proofs.Touches.{reads, writes}
use Rattle.p2p_log_laws.proofs.Reaching as reaching
use Rattle.p2p_log_laws.proofs.Untouched.{line-untouched}
use Rattle.p2p_net_queues.specs.Tables as table
use Rattle.p2p_net_queues.proofs.Going.{line-append, line-kept}
use Rattle.p2p_net_queues.specs.Tables.{AreBut}
use Rattle.p2p_net_gates.specs.Attempts.{with_told}
use Rattle.p2p_net_gates.specs.DialerStands.{gates_at, told_item, attempt_of, AttemptStands, DialerStands}
use Rattle.p2p_net_gates.specs.declared.attempt.RunningAttempt.{RunningAttempt}
use Rattle.p2p_net_gates.specs.declared.dialing.Dialing.{Dialing}
use Rattle.p2p_net_gates.proofs.Attempting.{attempt_changed}
use Rattle.p2p_net_links.proofs.Drops.{is_stop}
use Rattle.p2p_net_links.specs.Stands.{LinksStand}
use Rattle.p2p_net_links.specs.declared.links.Links.{Links}
use Rattle.p2p_net_node.specs.Staying.{TellsAttempt}
use Rattle.p2p_net_node.specs.Places as place
use Rattle.p2p_net_node.specs.Places.{Part, at, links, parts_of, same_place, names}
use Rattle.p2p_net_node.specs.Stands.{NodeStands}
use Rattle.p2p_net_node.specs.declared.node.Node.{Node}
use Rattle.p2p_net_node.proofs.EachPart.{is_in, each_part, not_among}
use Rattle.p2p_net_node.proofs.Frames.{stops_unnamed, links_kept}
use Rattle.p2p_net_node.proofs.Performing.{asked, Performs, line-still}
use Rattle.p2p_log_rules.proofs.Steps.{steps_spawner}

-- the queue of another attempt is another queue
pub other_attempt : (n name k : ℕ) → (k == name) ≡ false → same_queue (queue.Attempt n name) (queue.Attempt n k) ≡ false
other_attempt n name k other = grind (arith, nat_tests)

-- no act takes, puts or ends more of what waits for an attempt
reads_of : (configs : List Config) (log : List Entry) (n k : ℕ) (a : Act) → reads configs log a (queue.Attempt n k) ≡ false → reaching.reads configs log a (queue.Attempt n k) ≡ false
reads_of configs log n k (act.SendStep conn m) h = h
reads_of configs log n k _ h = h

writes_of : (configs : List Config) (log : List Entry) (n k : ℕ) (a : Act) → writes configs log a (queue.Attempt n k) ≡ false → reaching.writes configs log a (queue.Attempt n k) ≡ false
writes_of configs log n k (act.RecvStep conn m) h = h
writes_of configs log n k _ h = h

-- what waits for it is not in flight
unflown : (o : Option LinkEnd) (n k : ℕ) → reaching.in_flight o (queue.Attempt n k) ≡ false
unflown None n k = refl
unflown (Some one) n k = by (other_side one.1)
  where
    by : (s : Side) → same_queue (queue.Link one.0 s) (queue.Attempt n k) ≡ false
    by side.Out = refl
    by side.In = refl

-- and ends with no connection, but with its node
ends_of : (configs : List Config) (log : List Entry) (n k : ℕ) (a : Act) → is_stop a ≡ false → writes configs log a (queue.Attempt n k) ≡ false → reaching.ends_in configs log a (queue.Attempt n k) ≡ false
ends_of configs log n k (act.SendStep conn m) goes_on h = unflown (half_end (half_at log m conn)) n k
ends_of configs log n k (act.RecvStep conn m) goes_on h = unflown (half_end (half_at log m conn)) n k
ends_of configs log n k (act.Attempt e m) goes_on h =
    ap (λ b. same_queue (queue.Attempt m e) (queue.Attempt n k) || b) (unflown (dialing_end log m e) n k)
    ∙ (or_false (same_queue (queue.Attempt m e) (queue.Attempt n k)) ∙ h)
ends_of configs log n k (act.Handshake e m) goes_on h = unflown (listening_end (came_over log e)) n k
ends_of configs log n k (act.Listener m) goes_on h = unflown (arriving_end log m) n k
ends_of configs log n k (act.Stop by_start m) goes_on h = cc
ends_of configs log n k _ goes_on h = h

-- an attempt that is told one thing more
pub told_is : (g : Gates) (name k n : ℕ) (m : Metadata Key) (b : Attempt) (waiting : List Envelope) (i : Item)
    → with_told k (told_item i) (attempt_of g name m b waiting) ≡ attempt_of g name m b (waiting ++ record { entry = k; place = 0; queue = queue.Attempt n name; item = i } ∷ [])
told_is g name k n m b waiting i =
    let z : Envelope = record { entry = k; place = 0; queue = queue.Attempt n name; item = i } in
    let r = attempt_of g name m b waiting in
    ap (λ l. record r { actor = record r.actor { items = l }; names = map name_of waiting ++ (k, 0) ∷ [] }) (sym (map-append (λ (x : Envelope). told_item x.item) waiting (z ∷ [])))
    ∙ ap (λ l. record (attempt_of g name m b (waiting ++ z ∷ [])) { names = l }) (sym (map-append name_of waiting (z ∷ [])))

-- an entry does to a queue what this row does
pub record DoesTo (q : Queue) (k : ℕ) (due told : Row) : Type 0 where
  pub reply : due.reply ≡ told.reply
  pub takes : due.takes ≡ told.takes
  pub ends : due.ends ≡ told.ends
  pub puts : filter (stands_in q) (placed k 0 due.puts) ≡ filter (stands_in q) (placed k 0 told.puts)

pub does_itself : (q : Queue) (k : ℕ) (r : Row) → DoesTo q k r r
does_itself q k r = record { reply = refl; takes = refl; ends = refl; puts = refl }

line_does : (log : List Entry) (ev : Event) (q : Queue) (due told : Row) → DoesTo q (length log) due told → line (log ++ entry_of ev due ∷ []) q ≡ line (log ++ entry_of ev told ∷ []) q
line_does log ev q due told h =
    let put : List Envelope = filter (stands_in q) (placed (length log) 0 due.puts) in
    line-append log (entry_of ev due) q
    ∙ (ap (λ t. filter (stands_in q) (filter (stays (t ++ flat_map ended_item due.ends)) (live log)) ++ put) h.takes
    ∙ (ap (λ d. filter (stands_in q) (filter (stays (told.takes ++ flat_map ended_item d)) (live log)) ++ put) h.ends
    ∙ (ap (λ p. filter (stands_in q) (filter (stays (told.takes ++ flat_map ended_item told.ends)) (live log)) ++ p) h.puts
    ∙ sym (line-append log (entry_of ev told) q))))

-- what an act tells with such a row, and this reply
abbrev pub act_tellings : List Entry → ℕ → ℕ → Act → Row → Reply → List Telling
act_tellings log moment seed a due rep = act_tells (told log) log (length log) moment seed rep (taken log (entry_of (asked moment seed a) due)) due.puts a

-- another name is not this one
pub other_named : (n name j : ℕ) → (j == name) ≡ false → ((n == n) && (j == name)) ≡ false
other_named n name j other = ap (λ b. b && (j == name)) (eq-eqb n n refl) ∙ other

-- ---- the dialer, where the row of the act does this to the attempt

module _ (configs : List Config) (log : List Entry) (moment seed n name : ℕ) (a : Act) (due : Row) (due_is : row configs log moment seed a ≡ due) (d u : Dialing) (stood : DialerStands configs log n d)
    (no_turn : turns n a ≡ false) (no_stop : is_stop a ≡ false) (no_dials : dials_by n a ≡ false)
    (others : (j : ℕ) → (j == name) ≡ false → (reads configs log a (queue.Attempt n j) ≡ false) × (writes configs log a (queue.Attempt n j) ≡ false))
    (quiet : (j : ℕ) → (j == name) ≡ false → NoneTold (of_attempt n j) (length log) moment a)
    (kept : u.actor ≡ d.actor) where
  abbrev ev : Event
  ev = asked moment seed a

  abbrev k : ℕ
  k = length log

  abbrev g : Gates
  g = gates_at configs n

  abbrev q : Queue
  q = queue.Attempt n name

  abbrev e : Entry
  e = entry_of ev due

  is_effect : e ≡ effect configs log ev
  unfolding effect
  is_effect = ap (entry_of ev) (sym due_is)

  abbrev attempts : ℕ → Option Attempt
  attempts = attempts_of configs log n

  -- what it is by what the act tells, with this reply
  abbrev next : Reply → Option Attempt
  next rep = attempt_told (dial_rules_at configs n) n name (act_tellings log moment seed a due rep) (attempts name)

  others_stay : (j : ℕ) → (j == name) ≡ false → line (log ++ e ∷ []) (queue.Attempt n j) ≡ line log (queue.Attempt n j)
  others_stay j other =
      let away = others j other in
      subst (λ (z : Entry). line (log ++ z ∷ []) (queue.Attempt n j) ≡ line log (queue.Attempt n j)) (sym is_effect)
      (line-untouched configs log ev (queue.Attempt n j) (reads_of configs log n j a away.0) (writes_of configs log n j a away.1) (ends_of configs log n j a no_stop away.1))

  changed : (now : Option RunningAttempt) (done : Row) → DoesTo q k due done → AreBut name now d.attempts u.attempts
      → AttemptStands g name now (next done.reply) (line (log ++ entry_of ev done ∷ []) q) → DialerStands configs (log ++ effect configs log ev ∷ []) n u
  changed now done same but stands =
      subst (λ (z : Entry). DialerStands configs (log ++ z ∷ []) n u) is_effect
      (attempt_changed configs log e n name d u now (next done.reply) stood
      (record {
        no_turn = no_turn;
        dials = dials_of-kept configs log e n no_dials;
        actor = kept;
        others = but;
        tried = attempts_of-act configs log e n name a refl ∙ ap next same.reply;
        untried = λ j other. attempts_of-others configs log e n j a refl (quiet j other);
        lines = others_stay;
        stands = subst (AttemptStands g name now (next done.reply)) (sym (line_does log ev q due done same)) stands;
      }))

  -- nothing is told
  pub untold_stands : (now : Option RunningAttempt) (rep : Reply) → DoesTo q k due (only rep) → AreBut name now d.attempts u.attempts → next rep ≡ attempts name
      → now ≡ table.at d.attempts name → DialerStands configs (log ++ effect configs log ev ∷ []) n u
  untold_stands now rep same but no_change now_is =
      changed now (only rep) same but
      (subst (AttemptStands g name now (next rep)) (sym (line-still log (entry_of ev (only rep)) rep q (record { reply = refl; takes = refl; puts = refl; ends = refl })))
      (subst (λ o. AttemptStands g name now o (line log q)) (sym no_change)
      (subst (λ o. AttemptStands g name o (attempts name) (line log q)) (sym now_is) (stood.attempts name))))

  -- this is told
  told_line : (i : Item) → line (log ++ entry_of ev (attempt_told_row name n i) ∷ []) q ≡ line log q ++ record { entry = k; place = 0; queue = q; item = i } ∷ []
  told_line i =
      let z : Envelope = record { entry = k; place = 0; queue = q; item = i } in
      line-kept log (entry_of ev (attempt_told_row name n i)) q refl ∙ ap (λ b. line log q ++ cond b (z ∷ []) []) (same_queue-refl q)

  pub told_stands : (now : Option RunningAttempt) (i : Item) → DoesTo q k due (attempt_told_row name n i) → AreBut name now d.attempts u.attempts
      → AttemptStands g name now (next reply.Ok) (line log q ++ record { entry = k; place = 0; queue = q; item = i } ∷ []) → DialerStands configs (log ++ effect configs log ev ∷ []) n u
  told_stands now i same but stands =
      changed now (attempt_told_row name n i) same but (subst (AttemptStands g name now (next reply.Ok)) (sym (told_line i)) stands)

-- ---- an act that tells an attempt something, and nobody else

-- an act that names no connections is no step of a spawner
no_spawn : (log : List Entry) (n : ℕ) (a : Act) → names log a (at place.connections n) ≡ false → steps_spawner n a ≡ false
no_spawn log n (act.Spawner m) h = grind (arith, nat_tests)
no_spawn log n _ h = refl

-- such an act names the dialer alone
pub unnamed_by : (log : List Entry) (n : ℕ) (p : Part) → is_in p (place.dialer ∷ []) ≡ false → list_any (λ q. same_place q (at p n)) (parts_of n (place.dialer ∷ [])) ≡ false
unnamed_by log n p out = not_among (place.dialer ∷ []) p n n out

module _ (configs : List Config) (log : List Entry) (moment seed n : ℕ) (a : Act) (x y : Node) (l ls : Links) (r : Row) (s : NodeStands configs log n x) (t : LinksStand configs log l)
    (unnamed : (p : Part) → is_in p (place.dialer ∷ []) ≡ false → names log a (at p n) ≡ false) (no_links : names log a links ≡ false) (tells : TellsAttempt x y) (kept : ls ≡ l) where
  pub tells_performs : row configs log moment seed a ≡ r → DialerStands configs (log ++ effect configs log (asked moment seed a) ∷ []) n y.dialing → Performs configs log (asked moment seed a) n y ls r
  tells_performs is stands = record {
    row_is = sym is;
    node = each_part configs log (asked moment seed a) n x y (place.dialer ∷ []) s tells.1 unnamed (no_spawn log n a (unnamed place.connections refl)) (stops_unnamed log n place.connections a (unnamed place.connections refl)) (stands, tt);
    linked = subst (LinksStand configs (log ++ effect configs log (asked moment seed a) ∷ [])) (sym kept) (links_kept configs log (asked moment seed a) l t no_links);
  }
