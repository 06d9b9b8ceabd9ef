-- What the code computes of nodes and links is the effect that the log defines, and they stand for the log with it.
use Rattle.std.proofs.Common.{◌≡◌, ℕ, ◌<◌, ◌≤◌, Bool, true, false, cond, List, [], ◌∷◌, ◌++◌, length, refl, ap, sym, subst, ◌∙◌, arith, Option, Some, None}
use Rattle.std.specs.Prelude.{slice_get, ◌==◌, ◌&&◌, ◌||◌}
use Rattle.std.specs.List.{list_any}
use Rattle.std.proofs.lemmas.Bool.Decides.{nat_tests}
use Rattle.std.proofs.lemmas.Option.{same_Some}
use Rattle.std.proofs.lemmas.List.{length-set}
use Rattle.p2p_log_rules.proofs.Bools.{and_false}
use Rattle.p2p_log.specs.declared.config.Config.{Config}
use Rattle.p2p_log.specs.declared.entry.Entry.{Entry}
use Rattle.p2p_log.specs.declared.event.Event.{Event}
use Rattle.p2p_log.specs.declared.event.Act.{Act}
use Rattle.p2p_log.specs.declared.event.Act.TheVariants as act
use Rattle.p2p_log_rules.specs.declared.row.Row.{Row}
use Rattle.p2p_log_rules.specs.Connections.{is_begun}
use Rattle.p2p_log_rules.specs.Facts.{events_of, latest_moment}
use Rattle.p2p_log_rules.specs.Effect.{effect}
use Rattle.p2p_log_rules.specs.Lawful.{IsLawful}
use Rattle.p2p_log_rules.specs.Valid.{may_act}
use Rattle.p2p_log_laws.proofs.EndHeard.{running_heard}
use Rattle.p2p_log_laws.proofs.HandshakeLaws.{each_handshake, asker_runs}
use Rattle.p2p_log_laws.proofs.Ledger.{Told-end}
use Rattle.p2p_log_laws.proofs.Listed.{lists_are_current}
use Rattle.p2p_log_laws.proofs.Living.{unended_late, unbegun_late}
use Rattle.p2p_log_laws.proofs.OneConnection.{connections_are_one}
use Rattle.p2p_log_laws.proofs.Resting.{handshaking_lasts, attempt_lasts}
use Rattle.p2p_net_links.specs.Stands.{LinksStand}
use Rattle.p2p_net_links.specs.declared.links.Links.{Links}
use Rattle.p2p_net_tracker.specs.Stands.{AsksRun}
use Rattle.p2p_net_node.specs.Places.{Part, tracker, same_part, at, parts_of, parts_named, names_links, places_at, same_place, names, node_of}
use Rattle.p2p_net.specs.Acts.{NodeDoes}
use Rattle.p2p_net.specs.Events.{OneDoes, Meets, DoesOn, WorldDoes}
use Rattle.p2p_net_node.specs.Meetings.{meeting_of}
use Rattle.p2p_net_node.specs.declared.meeting.Meeting.{Meeting}
use Rattle.p2p_net_node.specs.declared.meeting.Meeting.TheVariants as meeting
use Rattle.p2p_net_node.specs.Stands.{NodeStands, WorldStands}
use Rattle.p2p_net_node.specs.declared.node.Node.{Node}
use Rattle.p2p_net_node.proofs.Nodes.{slice_get-set, below}
use Rattle.p2p_net_node.proofs.Frames.{life_unnamed, part_frame}
use Rattle.p2p_net_node.proofs.Performing.{asked, Performs, Simulates}
use Rattle.p2p_net_dialing.proofs.DialAnswers.{refuse_performs}
use Rattle.p2p_net_dialing.proofs.Arrivals.{link_simulates}
use Rattle.p2p_net_dialing.proofs.Cutting.{cut_simulates}
use Rattle.p2p_net_dialing.proofs.Exchanged.{finish_simulates}
use Rattle.p2p_net_dialing.proofs.Resolving.{resolve_performs}
use Rattle.p2p_net_calls.proofs.Calling.{register_performs, start_performs, read_performs}
use Rattle.p2p_net_calls.proofs.Closing.{close_performs}
use Rattle.p2p_net_calls.proofs.Checking.{check_performs, send_checked_performs}
use Rattle.p2p_net_calls.proofs.Offering.{send_performs}
use Rattle.p2p_net_dialing.proofs.Dialing.{dialer_performs}
use Rattle.p2p_net_dialing.proofs.HandshakeLinks.{handshake_performs}
use Rattle.p2p_net_dialing.proofs.Listened.{listener_performs}
use Rattle.p2p_log_laws.proofs.HandedSides.{attempt_dialed, handshake_dialed}
use Rattle.p2p_net_connecting.proofs.SpawnerStep.{spawner_performs}
use Rattle.p2p_net_connecting.proofs.Stepping.{route_performs}
use Rattle.p2p_net_dialing.proofs.Trying.{attempt_performs}
use Rattle.p2p_net_calls.proofs.StopPerforms.{stop_performs}
use Rattle.p2p_net_calls.proofs.Asking.{ask_performs, answer_performs, next_performs}
use Rattle.p2p_net_connecting.proofs.TrackerStep.{tracker_performs}
use Rattle.p2p_net_connecting.proofs.Sending.{send_step_performs}
use Rattle.p2p_net_connecting.proofs.RecvStep.{recv_step_performs}

-- ---- acts that name one node

-- in a lawful log a handshake runs whose question its tracker takes next: one that ended has no question that waits
asks_run : (configs : List Config) (log : List Entry) (n : ℕ) → IsLawful configs (events_of log) log → AsksRun log n
asks_run configs log n lawful = λ name key x rest first is. asker_runs configs n log (each_handshake configs n (events_of log) log lawful) name key x rest first is

no_more : (k : ℕ) → k ≤ k
no_more k = grind arith

-- each of them, a line each
pub node_performs : (configs : List Config) (log : List Entry) (moment seed : ℕ) (a : Act) (x y : Node) (l links : Links) (r : Row) → NodeStands configs log (node_of log a) x → LinksStand configs log l
    → IsLawful configs (events_of log) log → may_act configs (events_of log) a ≡ true → latest_moment (events_of log) ≤ moment → meeting_of a ≡ None → NodeDoes (length log) (node_of log a) moment seed a x y l links r
    → Performs configs log (asked moment seed a) (node_of log a) y links r
node_performs configs log moment seed (act.Register c n rate) x y l links r s t lawful valid late one d = register_performs configs log moment seed n c rate x y l links r s t valid d.0 d.1
node_performs configs log moment seed (act.Start n) x y l links r s t lawful valid late one d = start_performs configs log moment seed n x y l links r s t d.0 d.1
node_performs configs log moment seed (act.Stop by_start n) x y l links r s t lawful valid late one d = stop_performs configs log moment seed by_start n x y l links r s t (Told-end configs (events_of log) log lawful).standing.fitting d
node_performs configs log moment seed (act.Send bytes c n priority to) x y l links r s t lawful valid late one d =
    send_performs configs log moment seed n c bytes priority to x y l links r s t (lists_are_current configs (events_of log) log lawful) late d.1 d.0
node_performs configs log moment seed (act.Check c n to) x y l links r s t lawful valid late one d =
    check_performs configs log moment seed n c to x y l links r s t (lists_are_current configs (events_of log) log lawful) late d.1 d.0
node_performs configs log moment seed (act.SendChecked bytes check priority) x y l links r s t lawful valid late one d = send_checked_performs configs log moment seed check bytes priority x y l links r s t d.1 d.0
node_performs configs log moment seed (act.Router n) x y l links r s t lawful valid late one d = route_performs configs log moment seed n x y l links r s t d.0 d.1
node_performs configs log moment seed (act.SendStep conn n) x y l links r s t lawful valid late one d = send_step_performs configs log moment seed conn n x y l links r s t (connections_are_one configs (events_of log) log lawful) (running_heard configs (events_of log) log lawful n conn) d
node_performs configs log moment seed (act.RecvStep conn n) x y l links r s t lawful valid late one d = recv_step_performs configs log moment seed conn n x y l links r s t late (running_heard configs (events_of log) log lawful n conn) (Told-end configs (events_of log) log lawful).standing.fitting d
node_performs configs log moment seed (act.Recv c n) x y l links r s t lawful valid late one d = read_performs configs log moment seed n c x y l links r s t d.0 d.1
node_performs configs log moment seed (act.Close c n) x y l links r s t lawful valid late one d = close_performs configs log moment seed n c x y l links r s t d.0 d.1
node_performs configs log moment seed (act.Ask what n) x y l links r s t lawful valid late one d = ask_performs configs log moment seed n what x y l links r s t d.0.0 d.0.1 d.1
node_performs configs log moment seed (act.Answer e) x y l links r s t lawful valid late one d = answer_performs configs log moment seed e x y l links r s t valid d.0.0 d.0.1 d.1
node_performs configs log moment seed (act.Next e) x y l links r s t lawful valid late one d = next_performs configs log moment seed e x y l links r s t valid d.0.0 d.0.1 d.1
node_performs configs log moment seed (act.Tracker n) x y l links r s t lawful valid late one d = tracker_performs configs log moment seed n x y l links r s t (asks_run configs log n lawful) d.0 d.1
node_performs configs log moment seed (act.Spawner n) x y l links r s t lawful valid late one d = spawner_performs configs log moment seed n x y l links r s t (unended_late configs (events_of log) log lawful n (length log) (no_more (length log)))
    (unbegun_late configs (events_of log) log lawful n (length log) (no_more (length log))) d.0 d.1
node_performs configs log moment seed (act.Dialer n) x y l links r s t lawful valid late one d = dialer_performs configs log moment seed n x y l links r s t d.0 d.1
node_performs configs log moment seed (act.Listener n) x y l links r s t lawful valid late one d = listener_performs configs log moment seed n x y l links r s t late d
node_performs configs log moment seed (act.Handshake e n) x y l links r s t lawful valid late one d = handshake_performs configs log moment seed e n x y l links r s t (handshake_dialed configs (events_of log) log lawful n e) (handshaking_lasts configs (events_of log) log lawful n e) d
node_performs configs log moment seed (act.Attempt e n) x y l links r s t lawful valid late one d = attempt_performs configs log moment seed e n x y l links r s t (attempt_dialed configs (events_of log) log lawful n e) (attempt_lasts configs (events_of log) log lawful n e) d
node_performs configs log moment seed (act.Resolve addresses e n) x y l links r s t lawful valid late one d = resolve_performs configs log moment seed addresses e n x y l links r s t d.0.0 d.0.1 d.1
node_performs configs log moment seed (act.Refuse e n) x y l links r s t lawful valid late one d = refuse_performs configs log moment seed e n x y l links r s t d.0.0 d.0.1 d.1
node_performs configs log moment seed (act.Connect e from n m) x y l links r s t lawful valid late one d = cc
node_performs configs log moment seed (act.Finish link ok) x y l links r s t lawful valid late one d = cc
node_performs configs log moment seed (act.Cut link) x y l links r s t lawful valid late one d = cc

-- the parts of the other nodes are not named
part_elsewhere : (p q : Part) (n m : ℕ) → (n == m) ≡ false → same_place (at p n) (at q m) ≡ false
part_elsewhere p q n m ne = ap (λ b. same_part p q && b) ne ∙ and_false (same_part p q)

parts_elsewhere : (parts : List Part) (q : Part) (n m : ℕ) → (n == m) ≡ false → list_any (λ p. same_place p (at q m)) (parts_of n parts) ≡ false
parts_elsewhere [] q n m ne = refl
parts_elsewhere (p ∷ ps) q n m ne = ap (λ b. b || list_any (λ p. same_place p (at q m)) (parts_of n ps)) (part_elsewhere p q n m ne) ∙ parts_elsewhere ps q n m ne

unnamed_at : (b : Bool) (ps : List Part) (p : Part) (n m : ℕ) → (n == m) ≡ false → list_any (λ q. same_place q (at p m)) (places_at b n ps) ≡ false
unnamed_at false ps p n m ne = parts_elsewhere ps p n m ne
unnamed_at true ps p n m ne = parts_elsewhere ps p n m ne

others_unnamed : (log : List Entry) (a : Act) (p : Part) (m : ℕ) → meeting_of a ≡ None → (node_of log a == m) ≡ false → names log a (at p m) ≡ false
others_unnamed log (act.Connect e from n k) p m one ne = cc
others_unnamed log (act.Finish link ok) p m one ne = cc
others_unnamed log (act.Cut link) p m one ne = cc
others_unnamed log a p m one ne = unnamed_at (names_links a) (parts_named a) p (node_of log a) m ne

-- a node that an act does not name
node_frame : (configs : List Config) (log : List Entry) (ev : Event) (m : ℕ) (z : Node) → NodeStands configs log m z → ((p : Part) → names log ev.act (at p m) ≡ false) → is_begun log m (length log) ≡ false
    → NodeStands configs (log ++ effect configs log ev ∷ []) m z
node_frame configs log ev m z s away fresh = record { own = s.own; life = life_unnamed configs log ev m z.stopped s.life (away tracker); each = λ p. part_frame p configs log ev m z (s.each p) (away p) (λ makes. fresh) }

one_each :
    (configs : List Config) (log : List Entry) (ev : Event) (nodes : List Node) (n : ℕ) (y : Node) (l links : Links) (r : Row) → WorldStands configs log nodes l → Performs configs log ev n y links r
    → ((p : Part) (m : ℕ) → (n == m) ≡ false → names log ev.act (at p m) ≡ false) → ((m : ℕ) → is_begun log m (length log) ≡ false)
    → (m : ℕ) (z : Node) (b : Bool) → (n == m) ≡ b → cond b (Some y) (slice_get nodes m) ≡ Some z → NodeStands configs (log ++ effect configs log ev ∷ []) m z
one_each configs log ev nodes n y l links r s h away fresh m z true same g =
    let here : n ≡ m = grind (arith, nat_tests) in
    let it : y ≡ z = cc in
    subst (λ (x : Node). NodeStands configs (log ++ effect configs log ev ∷ []) m x) it
    (subst (λ i. NodeStands configs (log ++ effect configs log ev ∷ []) i y) here h.node)
one_each configs log ev nodes n y l links r s h away fresh m z false ne g = node_frame configs log ev m z (s.each m z g) (λ p. away p m ne) (fresh m)

-- one node changed, as its act says
one_simulates : (configs : List Config) (log : List Entry) (ev : Event) (nodes new : List Node) (l links : Links) (r : Row) → WorldStands configs log nodes l → IsLawful configs (events_of log) log
    → may_act configs (events_of log) ev.act ≡ true → latest_moment (events_of log) ≤ ev.at → meeting_of ev.act ≡ None → OneDoes (length log) (node_of log ev.act) ev nodes new l links r → Simulates configs log ev new links r
one_simulates configs log ev nodes new l links r s lawful valid late one d =
    let x : Node = d.0 in
    let y : Node = d.1.0 in
    let n = node_of log ev.act in
    let there : slice_get nodes n ≡ Some x = d.1.1.0 in
    let lt : n < length nodes = below nodes n x there in
    let fresh : (m : ℕ) → is_begun log m (length log) ≡ false = λ m. unbegun_late configs (events_of log) log lawful m (length log) (no_more (length log)) in
    let h : Performs configs log ev n y links r = node_performs configs log ev.at ev.seed ev.act x y l links r (s.each n x there) s.linked lawful valid late one d.1.1.1.1 in
    record {
      row_is = h.row_is;
      stands = subst (λ (ns : List Node). WorldStands configs (log ++ effect configs log ev ∷ []) ns links) (sym d.1.1.1.0)
          (record {
            valid = s.valid;
            long = length-set nodes n y ∙ s.long;
            each = λ m z g.
                one_each configs log ev nodes n y l links r s h (λ p k ne. others_unnamed log ev.act p k one ne) fresh m z (n == m) refl (sym (slice_get-set nodes n m y lt) ∙ g);
            linked = h.linked;
          });
    }

-- ---- all acts

by_meeting : (configs : List Config) (log : List Entry) (moment seed : ℕ) (a : Act) (o : Option Meeting) (nodes new : List Node) (l links : Links) (r : Row) → WorldStands configs log nodes l → IsLawful configs (events_of log) log
    → may_act configs (events_of log) a ≡ true → latest_moment (events_of log) ≤ moment → meeting_of a ≡ o → DoesOn o (length log) (node_of log a) (asked moment seed a) nodes new l links r → Simulates configs log (asked moment seed a) new links r
by_meeting configs log moment seed a None nodes new l links r s lawful valid late is d = one_simulates configs log (asked moment seed a) nodes new l links r s lawful valid late is d
by_meeting configs log moment seed (act.Connect e from n m) (Some how) nodes new l links r s lawful valid late is d =
    link_simulates configs log moment seed e n m from nodes new l links r s
    (subst (λ (h : Meeting). Meets h (length log) nodes new l links r) (sym (same_Some (meeting.Link e from (record { dials = n; listens = m })) how is)) d)
by_meeting configs log moment seed (act.Finish link ok) (Some how) nodes new l links r s lawful valid late is d =
    finish_simulates configs log moment seed link ok nodes new l links r s (subst (λ (h : Meeting). Meets h (length log) nodes new l links r) (sym (same_Some (meeting.Finish link ok) how is)) d)
by_meeting configs log moment seed (act.Cut link) (Some how) nodes new l links r s lawful valid late is d =
    cut_simulates configs log moment seed link nodes new l links r s (λ m. unbegun_late configs (events_of log) log lawful m (length log) (no_more (length log)))
    (subst (λ (h : Meeting). Meets h (length log) nodes new l links r) (sym (same_Some (meeting.Cut link) how is)) d)
by_meeting configs log moment seed a (Some how) nodes new l links r s lawful valid late is d = cc

pub simulates : (configs : List Config) (log : List Entry) (ev : Event) (nodes new : List Node) (l links : Links) (r : Row) → WorldStands configs log nodes l → IsLawful configs (events_of log) log
    → may_act configs (events_of log) ev.act ≡ true → latest_moment (events_of log) ≤ ev.at → WorldDoes (length log) (node_of log ev.act) ev nodes new l links r → Simulates configs log ev new links r
simulates configs log ev nodes new l links r s lawful valid late d = by_meeting configs log ev.at ev.seed ev.act (meeting_of ev.act) nodes new l links r s lawful valid late refl d
