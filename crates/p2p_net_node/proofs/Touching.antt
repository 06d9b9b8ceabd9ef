-- A queue of a place that an act does not name stays as it was.
use Rattle.std.proofs.Common.{◌≡◌, ℕ, Bool, true, false, List, [], ◌∷◌, ◌++◌, refl, ap, sym, ◌∙◌, arith, Option, Some, None}
use Rattle.std.specs.Prelude.{◌||◌, ◌&&◌, ◌==◌, slice_get}
use Rattle.std.specs.List.{list_any, AllByRecursion as Each}
use Rattle.std.proofs.lemmas.Bool.Decides.{nat_tests}
use Rattle.p2p_log_rules.proofs.Bools.{and_false}
use Rattle.p2p_log.specs.declared.config.Config.{Config}
use Rattle.p2p_log.specs.declared.queue.Queue.{Queue}
use Rattle.p2p_log.specs.declared.queue.Queue.TheVariants as queue
use Rattle.p2p_log.specs.declared.queue.Side.TheVariants as side
use Rattle.p2p_log.specs.declared.entry.Entry.{Entry}
use Rattle.p2p_log.specs.declared.event.Event.{Event}
use Rattle.p2p_log.specs.declared.asked.Asked.TheVariants as ask
use Rattle.p2p_log.specs.declared.event.Act.{Act}
use Rattle.p2p_log.specs.declared.event.Act.TheVariants as act
use Rattle.p2p_log.specs.declared.event.Recipients.{Recipients}
use Rattle.p2p_log.specs.QueueCode.{same_queue}
use Rattle.p2p_log.specs.Lines.{line}
use Rattle.p2p_log.proofs.Queues.{same_queue-sym}
use Rattle.p2p_log_rules.specs.declared.row.Opening.{Opening}
use Rattle.p2p_log_rules.specs.Dropping.{LinkEnd, other_side, dialing_end, arriving_end, half_end, listening_end}
use Rattle.p2p_log_rules.specs.Effect.{effect}
use Rattle.p2p_log_rules.specs.Handshakes.{came_over}
use Rattle.p2p_log_rules.specs.Checking.{Check, check_of}
use Rattle.p2p_log_rules.specs.Links.{openings_of}
use Rattle.p2p_log_rules.specs.declared.row.Half.{Half}
use Rattle.p2p_log_rules.specs.Connections.{half_at}
use Rattle.p2p_log_rules.proofs.Touches.{are_all, in_lists, in_mailbox_of, in_router, in_mailboxes, in_half, in_link, in_held, in_channels, in_tracker, in_handshakes, in_ends, is_told_to, away}
use Rattle.p2p_log_rules.specs.Stopping.{emptied_at}
use Rattle.p2p_log_rules.specs.Tracking.{asked_by}
use Rattle.p2p_log_rules.proofs.Emptied.{OfKinds, each_emptied}
use Rattle.p2p_log_laws.proofs.Reaching.{in_control, in_flight, in_connection, reads, writes, ends_in}
use Rattle.p2p_log_laws.proofs.Untouched.{line-untouched}
use Rattle.p2p_net_node.specs.Places.{Part, home, names, at, router, channels, connections, tracker, dialer, listener, spawner, links, same_place, ends_named, asked_node, or_first, node_asked, node_checking}
use Rattle.p2p_net_node.proofs.Receivers.{checking_is}

-- ---- what the kinds of queues that an act reaches are of

eqb-refl : (n : ℕ) → (n == n) ≡ true
eqb-refl n = grind (arith, nat_tests)

router_queue : (n : ℕ) (q : Queue) → same_place (at router n) (home q) ≡ false → same_queue (queue.Router n) q ≡ false
router_queue n q h = same_queue-sym (queue.Router n) q ∙ away (λ r. same_place (at router n) (home r)) q (queue.Router n) h (eqb-refl n)

router_kinds : (n : ℕ) (q : Queue) → same_place (at router n) (home q) ≡ false → same_place (at connections n) (home q) ≡ false → in_router n q ≡ false
router_kinds n (queue.Router m) h k = grind (arith, nat_tests)
router_kinds n (queue.Peers m c) h k = grind (arith, nat_tests)
router_kinds n (queue.RouterAnswer m c) h k = grind (arith, nat_tests)
router_kinds n (queue.High m c) h k = grind (arith, nat_tests)
router_kinds n (queue.Low m c) h k = grind (arith, nat_tests)
router_kinds n _ h k = refl

list_kinds : (n c : ℕ) (to : Recipients) (q : Queue) → same_place (at router n) (home q) ≡ false → in_lists to n c q ≡ false
list_kinds n c to (queue.Peers m d) h = ap (λ b. are_all to && (b && (d == c))) (other_router n m h) ∙ and_false (are_all to)
  where
    other_router : (n m : ℕ) → (n == m) ≡ false → (m == n) ≡ false
    other_router n m h = grind (arith, nat_tests)
list_kinds n c to _ h = refl

link_kinds : (o : Option Half) (q : Queue) → same_place links (home q) ≡ false → in_link o q ≡ false
link_kinds o (queue.Link e s) h = cc
link_kinds o _ h = refl

half_kinds : (o : Option Half) (n conn : ℕ) (q : Queue) → same_place (at router n) (home q) ≡ false → same_place (at connections n) (home q) ≡ false → same_place links (home q) ≡ false → in_half o n conn q ≡ false
half_kinds o n conn (queue.RouterAnswer m c) h k l = grind (arith, nat_tests)
half_kinds o n conn (queue.High m c) h k l = grind (arith, nat_tests)
half_kinds o n conn (queue.Low m c) h k l = grind (arith, nat_tests)
half_kinds o n conn (queue.Link e s) h k l = cc
half_kinds o n conn q h k l = link_kinds o q l

mailbox_kinds : (n : ℕ) (q : Queue) → same_place (at router n) (home q) ≡ false → same_place (at tracker n) (home q) ≡ false → in_mailboxes n q ≡ false
mailbox_kinds n (queue.Router m) h k = grind (arith, nat_tests)
mailbox_kinds n (queue.Tracker m) h k = grind (arith, nat_tests)
mailbox_kinds n _ h k = refl

control_kinds : (n conn : ℕ) (q : Queue) → same_place (at tracker n) (home q) ≡ false → in_control n conn q ≡ false
control_kinds n conn (queue.Control m e) h = grind (arith, nat_tests)
control_kinds n conn _ h = refl

flight_kinds : (o : Option LinkEnd) (q : Queue) → same_place links (home q) ≡ false → in_flight o q ≡ false
flight_kinds None q h = refl
flight_kinds (Some e) q h =
    let towards = queue.Link e.0 (other_side e.1) in
    same_queue-sym towards q ∙ away (λ r. same_place links (home r)) q towards h refl

held_kinds : (n conn : ℕ) (q : Queue) → same_place (at connections n) (home q) ≡ false → in_held n conn q ≡ false
held_kinds n conn (queue.Held m e) h = grind (arith, nat_tests)
held_kinds n conn _ h = refl

channel_kinds : (n : ℕ) (q : Queue) → same_place (at channels n) (home q) ≡ false → in_channels n q ≡ false
channel_kinds n (queue.Channel m c) h = grind (arith, nat_tests)
channel_kinds n _ h = refl

channel_queue : (n c : ℕ) (q : Queue) → same_place (at channels n) (home q) ≡ false → same_queue (queue.Channel n c) q ≡ false
channel_queue n c q h = same_queue-sym (queue.Channel n c) q ∙ away (λ r. same_place (at channels n) (home r)) q (queue.Channel n c) h (eqb-refl n)

tracker_queue : (n : ℕ) (q : Queue) → same_place (at tracker n) (home q) ≡ false → same_queue (queue.Tracker n) q ≡ false
tracker_queue n q h = same_queue-sym (queue.Tracker n) q ∙ away (λ r. same_place (at tracker n) (home r)) q (queue.Tracker n) h (eqb-refl n)

answers_queue : (n : ℕ) (q : Queue) → same_place (at tracker n) (home q) ≡ false → same_queue (queue.Dialer n) q ≡ false
answers_queue n q h = same_queue-sym (queue.Dialer n) q ∙ away (λ r. same_place (at tracker n) (home r)) q (queue.Dialer n) h (eqb-refl n)

update_queue : (n : ℕ) (q : Queue) → same_place (at tracker n) (home q) ≡ false → same_queue (queue.Addresses n) q ≡ false
update_queue n q h = same_queue-sym (queue.Addresses n) q ∙ away (λ r. same_place (at tracker n) (home r)) q (queue.Addresses n) h (eqb-refl n)

handshake_queue : (n e : ℕ) (q : Queue) → same_place (at tracker n) (home q) ≡ false → same_queue (queue.Handshake n e) q ≡ false
handshake_queue n e q h = same_queue-sym (queue.Handshake n e) q ∙ away (λ r. same_place (at tracker n) (home r)) q (queue.Handshake n e) h (eqb-refl n)

attempt_queue : (n e : ℕ) (q : Queue) → same_place (at dialer n) (home q) ≡ false → same_queue (queue.Attempt n e) q ≡ false
attempt_queue n e q h = same_queue-sym (queue.Attempt n e) q ∙ away (λ r. same_place (at dialer n) (home r)) q (queue.Attempt n e) h (eqb-refl n)

arrivals_queue : (n : ℕ) (q : Queue) → same_place (at listener n) (home q) ≡ false → same_queue (queue.Arrivals n) q ≡ false
arrivals_queue n q h = same_queue-sym (queue.Arrivals n) q ∙ away (λ r. same_place (at listener n) (home r)) q (queue.Arrivals n) h (eqb-refl n)

spawner_queue : (n : ℕ) (q : Queue) → same_place (at spawner n) (home q) ≡ false → same_queue (queue.Spawner n) q ≡ false
spawner_queue n q h = same_queue-sym (queue.Spawner n) q ∙ away (λ r. same_place (at spawner n) (home r)) q (queue.Spawner n) h (eqb-refl n)

handshake_kinds : (n : ℕ) (q : Queue) → same_place (at tracker n) (home q) ≡ false → in_handshakes n q ≡ false
handshake_kinds n (queue.Handshake m e) h = grind (arith, nat_tests)
handshake_kinds n _ h = refl

tracker_kinds : (n : ℕ) (q : Queue) → same_place (at tracker n) (home q) ≡ false → in_tracker n q ≡ false
tracker_kinds n (queue.Tracker m) h = grind (arith, nat_tests)
tracker_kinds n (queue.Addresses m) h = grind (arith, nat_tests)
tracker_kinds n (queue.Dialer m) h = grind (arith, nat_tests)
tracker_kinds n (queue.Control m c) h = grind (arith, nat_tests)
tracker_kinds n (queue.PeerSet m e) h = grind (arith, nat_tests)
tracker_kinds n (queue.PeerSetUpdates m e) h = grind (arith, nat_tests)
tracker_kinds n (queue.Blocked m e) h = grind (arith, nat_tests)
tracker_kinds n (queue.Handshake m e) h = grind (arith, nat_tests)
tracker_kinds n _ h = refl

-- what is told for what an event asked
told_queue : (log : List Entry) (e : ℕ) (q : Queue) → same_place (at tracker (node_asked (slice_get log e))) (home q) ≡ false → is_told_to (asked_by log e) e q ≡ false
told_queue log e q h = go (slice_get log e) h
  where
    apart : (n : ℕ) (p : Queue) → same_place (at tracker n) (home q) ≡ false → same_place (at tracker n) (home p) ≡ true → same_queue p q ≡ false
    apart n p none here = same_queue-sym p q ∙ away (λ r. same_place (at tracker n) (home r)) q p none here

    by : (a : Act) → same_place (at tracker (or_first (asked_node a))) (home q) ≡ false → is_told_to (Some a) e q ≡ false
    by (act.Ask (ask.PeerSet index) n) h = apart n (queue.PeerSet n e) h (eqb-refl n)
    by (act.Ask ask.Subscribe n) h = apart n (queue.PeerSetUpdates n e) h (eqb-refl n)
    by (act.Ask ask.Blocked n) h = apart n (queue.Blocked n e) h (eqb-refl n)
    by _ h = refl

    go : (o : Option Entry) → same_place (at tracker (node_asked o)) (home q) ≡ false → is_told_to (elim o [ None ↦ None | Some d ↦ Some d.event.act ]) e q ≡ false
    go None h = refl
    go (Some d) h = by d.event.act h

-- ---- by the places that an act names

pub first_false : (a b : Bool) → (a || b) ≡ false → a ≡ false
first_false false b h = refl
first_false true b h = h

pub second_false : (a b : Bool) → (a || b) ≡ false → b ≡ false
second_false false b h = h
second_false true false h = refl
second_false true true h = h

second_of_two : (a b : Bool) → (a || (b || false)) ≡ false → b ≡ false
second_of_two a b h = first_false b false (second_false a (b || false) h)

third_of_three : (a b c : Bool) → (a || (b || (c || false))) ≡ false → c ≡ false
third_of_three a b c h = second_of_two b c (second_false a (b || (c || false)) h)

second_of_three : (a b c : Bool) → (a || (b || (c || false))) ≡ false → b ≡ false
second_of_three a b c h = first_false b (c || false) (second_false a (b || (c || false)) h)

-- four that are false
record AreOff (a b c d : Bool) : Type 0 where
  first : a ≡ false
  second : b ≡ false
  third : c ≡ false
  fourth : d ≡ false

are_off : (a b c d : Bool) → (a || (b || (c || (d || false)))) ≡ false → AreOff a b c d
are_off a b c d h =
    let rest = second_false a (b || (c || (d || false))) h in
    record { first = first_false a (b || (c || (d || false))) h; second = first_false b (c || (d || false)) rest; third = second_of_three b c d rest; fourth = third_of_three b c d rest }

both_false : (a b : Bool) → a ≡ false → b ≡ false → (a || b) ≡ false
both_false true b h k = h
both_false false b h k = k

-- what both ends of a link are told
ends_queue : (o : Option Opening) (q : Queue) → list_any (λ p. same_place p (home q)) (ends_named o) ≡ false → in_ends o q ≡ false
ends_queue None q h = refl
ends_queue (Some o) q h =
    both_false (same_queue (queue.Attempt o.node o.attempt) q) (in_handshakes o.to q)
    (attempt_queue o.node o.attempt q (first_false (same_place (at dialer o.node) (home q)) (same_place (at tracker o.to) (home q) || false) h))
    (handshake_kinds o.to q (second_of_two (same_place (at dialer o.node) (home q)) (same_place (at tracker o.to) (home q)) h))

-- where a step of a half reaches: the links, and three parts of its node
abbrev AreOffHalf : ℕ → Queue → Type 0
AreOffHalf n q = AreOff (same_place links (home q)) (same_place (at connections n) (home q)) (same_place (at router n) (home q)) (same_place (at tracker n) (home q))

off_sender : (log : List Entry) (conn n : ℕ) (q : Queue) → names log (act.SendStep conn n) (home q) ≡ false → AreOffHalf n q
off_sender log conn n q h = are_off (same_place links (home q)) (same_place (at connections n) (home q)) (same_place (at router n) (home q)) (same_place (at tracker n) (home q)) h

-- a receiving half reaches the channels too
without_second : (a b c : Bool) → (a || (b || c)) ≡ false → (a || c) ≡ false
without_second a b c h = both_false a c (first_false a (b || c) h) (second_false b c (second_false a (b || c) h))

off_receiver : (log : List Entry) (conn n : ℕ) (q : Queue) → names log (act.RecvStep conn n) (home q) ≡ false → AreOffHalf n q
off_receiver log conn n q h =
    let first = same_place links (home q) in
    let second = same_place (at connections n) (home q) in
    let third = same_place (at router n) (home q) in
    let fourth = same_place (at tracker n) (home q) in
    are_off first second third fourth (without_second first (same_place (at channels n) (home q)) (second || (third || (fourth || false))) h)

off_channels : (log : List Entry) (conn n : ℕ) (q : Queue) → names log (act.RecvStep conn n) (home q) ≡ false → same_place (at channels n) (home q) ≡ false
off_channels log conn n q h =
    let rest = same_place (at connections n) (home q) || (same_place (at router n) (home q) || (same_place (at tracker n) (home q) || false)) in
    first_false (same_place (at channels n) (home q)) rest (second_false (same_place links (home q)) (same_place (at channels n) (home q) || rest) h)

-- what ends with a connection
connection_kinds : (o : Option Half) (n conn : ℕ) (q : Queue) → AreOffHalf n q → in_connection o n conn q ≡ false
connection_kinds o n conn (queue.High m e) h = let off = h.third in grind (arith, nat_tests)
connection_kinds o n conn (queue.Low m e) h = let off = h.third in grind (arith, nat_tests)
connection_kinds o n conn (queue.Held m e) h = let off = h.second in grind (arith, nat_tests)
connection_kinds o n conn (queue.Control m e) h = let off = h.fourth in grind (arith, nat_tests)
connection_kinds o n conn (queue.RouterAnswer m e) h = let off = h.second in grind (arith, nat_tests)
connection_kinds o n conn q h = flight_kinds (half_end o) q h.first

-- a handshake and an attempt reach the links, the tracker, the spawner and the part that has them
off_handshake : (log : List Entry) (e n : ℕ) (q : Queue) → names log (act.Handshake e n) (home q) ≡ false
    → AreOff (same_place links (home q)) (same_place (at tracker n) (home q)) (same_place (at listener n) (home q)) (same_place (at spawner n) (home q))
off_handshake log e n q h = are_off (same_place links (home q)) (same_place (at tracker n) (home q)) (same_place (at listener n) (home q)) (same_place (at spawner n) (home q)) h

off_attempt : (log : List Entry) (e n : ℕ) (q : Queue) → names log (act.Attempt e n) (home q) ≡ false
    → AreOff (same_place links (home q)) (same_place (at tracker n) (home q)) (same_place (at dialer n) (home q)) (same_place (at spawner n) (home q))
off_attempt log e n q h = are_off (same_place links (home q)) (same_place (at tracker n) (home q)) (same_place (at dialer n) (home q)) (same_place (at spawner n) (home q)) h

reads-named : (configs : List Config) (log : List Entry) (a : Act) (q : Queue) → names log a (home q) ≡ false → reads configs log a q ≡ false
reads-named configs log (act.Send bytes c n priority to) q h = list_kinds n c to q (second_of_two (same_place (at channels n) (home q)) (same_place (at router n) (home q)) h)
reads-named configs log (act.Check c n to) q h = list_kinds n c to q (second_of_two (same_place (at channels n) (home q)) (same_place (at router n) (home q)) h)
reads-named configs log (act.Router n) q h = router_queue n q (first_false (same_place (at router n) (home q)) (same_place (at connections n) (home q) || false) h)
reads-named configs log (act.SendStep conn n) q h =
    let off = off_sender log conn n q h in
    both_false (in_control n conn q) (in_half (half_at log n conn) n conn q) (control_kinds n conn q off.fourth) (half_kinds (half_at log n conn) n conn q off.third off.second off.first)
reads-named configs log (act.RecvStep conn n) q h =
    let off = off_receiver log conn n q h in
    both_false (in_held n conn q) (in_link (half_at log n conn) q) (held_kinds n conn q off.second) (link_kinds (half_at log n conn) q off.first)
reads-named configs log (act.Recv c n) q h = channel_queue n c q (first_false (same_place (at channels n) (home q)) false h)
reads-named configs log (act.Answer e) q h = told_queue log e q (first_false (same_place (at tracker (node_asked (slice_get log e))) (home q)) false h)
reads-named configs log (act.Next e) q h = told_queue log e q (first_false (same_place (at tracker (node_asked (slice_get log e))) (home q)) false h)
reads-named configs log (act.Tracker n) q h = tracker_queue n q (first_false (same_place (at tracker n) (home q)) false h)
reads-named configs log (act.Dialer n) q h = answers_queue n q (first_false (same_place (at tracker n) (home q)) (same_place (at dialer n) (home q) || false) h)
reads-named configs log (act.Listener n) q h =
    both_false (same_queue (queue.Addresses n) q) (same_queue (queue.Arrivals n) q)
    (update_queue n q (second_of_three (same_place links (home q)) (same_place (at tracker n) (home q)) (same_place (at listener n) (home q)) h))
    (arrivals_queue n q (third_of_three (same_place links (home q)) (same_place (at tracker n) (home q)) (same_place (at listener n) (home q)) h))
reads-named configs log (act.Handshake e n) q h = handshake_queue n e q (off_handshake log e n q h).second
reads-named configs log (act.Spawner n) q h = spawner_queue n q (first_false (same_place (at spawner n) (home q)) (same_place (at connections n) (home q) || false) h)
reads-named configs log (act.Attempt e n) q h = attempt_queue n e q (off_attempt log e n q h).third
reads-named configs log _ q h = refl

-- the mailbox to which a message goes by a check
mailbox_queue : (log : List Entry) (check : ℕ) (q : Queue) → same_queue (queue.Router (node_checking (slice_get log check))) q ≡ false → in_mailbox_of (check_of log check) q ≡ false
mailbox_queue log check (queue.Router n) h = by (check_of log check) refl
  where
    by : (o : Option Check) → check_of log check ≡ o → in_mailbox_of o (queue.Router n) ≡ false
    by None is = refl
    by (Some c) is = ap (λ m. same_queue (queue.Router m) (queue.Router n)) (sym (checking_is log check c is)) ∙ h
mailbox_queue log check _ h = refl

-- a cut reaches what is in flight over its link
flight_off : (link : ℕ) (q : Queue) → same_place links (home q) ≡ false → (same_queue (queue.Link link side.Out) q || same_queue (queue.Link link side.In) q) ≡ false
flight_off link (queue.Link k s) h = cc
flight_off link _ h = refl

writes-named : (configs : List Config) (log : List Entry) (a : Act) (q : Queue) → names log a (home q) ≡ false → writes configs log a q ≡ false
writes-named configs log (act.Start n) q h = router_queue n q (first_false (same_place (at router n) (home q)) (same_place (at dialer n) (home q) || false) h)
writes-named configs log (act.Send bytes c n priority to) q h = router_queue n q (second_of_two (same_place (at channels n) (home q)) (same_place (at router n) (home q)) h)
writes-named configs log (act.Close c n) q h = channel_queue n c q (first_false (same_place (at channels n) (home q)) false h)
writes-named configs log (act.SendChecked bytes check priority) q h =
    mailbox_queue log check q
    (let n = node_checking (slice_get log check) in router_queue n q (second_of_two (same_place (at channels n) (home q)) (same_place (at router n) (home q)) h))
writes-named configs log (act.Router n) q h =
    router_kinds n q (first_false (same_place (at router n) (home q)) (same_place (at connections n) (home q) || false) h)
    (first_false (same_place (at connections n) (home q)) false (second_false (same_place (at router n) (home q)) (same_place (at connections n) (home q) || false) h))
writes-named configs log (act.SendStep conn n) q h =
    let off = off_sender log conn n q h in
    both_false (in_mailboxes n q) (in_half (half_at log n conn) n conn q) (mailbox_kinds n q off.third off.fourth) (half_kinds (half_at log n conn) n conn q off.third off.second off.first)
writes-named configs log (act.RecvStep conn n) q h =
    let off = off_receiver log conn n q h in
    both_false (in_mailboxes n q) (in_held n conn q || in_channels n q) (mailbox_kinds n q off.third off.fourth)
    (both_false (in_held n conn q) (in_channels n q) (held_kinds n conn q off.second) (channel_kinds n q (off_channels log conn n q h)))
writes-named configs log (act.Ask what n) q h = tracker_queue n q (first_false (same_place (at tracker n) (home q)) false h)
writes-named configs log (act.Tracker n) q h = tracker_kinds n q (first_false (same_place (at tracker n) (home q)) false h)
writes-named configs log (act.Dialer n) q h = tracker_queue n q (first_false (same_place (at tracker n) (home q)) (same_place (at dialer n) (home q) || false) h)
writes-named configs log (act.Listener n) q h = tracker_queue n q (second_of_three (same_place links (home q)) (same_place (at tracker n) (home q)) (same_place (at listener n) (home q)) h)
writes-named configs log (act.Handshake e n) q h =
    let off = off_handshake log e n q h in
    both_false (same_queue (queue.Tracker n) q) (same_queue (queue.Spawner n) q || same_queue (queue.Handshake n e) q) (tracker_queue n q off.second)
    (both_false (same_queue (queue.Spawner n) q) (same_queue (queue.Handshake n e) q) (spawner_queue n q off.fourth) (handshake_queue n e q off.second))
writes-named configs log (act.Attempt e n) q h =
    let off = off_attempt log e n q h in
    both_false (same_queue (queue.Tracker n) q) (same_queue (queue.Spawner n) q || same_queue (queue.Attempt n e) q) (tracker_queue n q off.second)
    (both_false (same_queue (queue.Spawner n) q) (same_queue (queue.Attempt n e) q) (spawner_queue n q off.fourth) (attempt_queue n e q off.third))
writes-named configs log (act.Resolve addresses e n) q h = attempt_queue n e q (first_false (same_place (at dialer n) (home q)) false h)
writes-named configs log (act.Connect e from n to) q h =
    both_false (same_queue (queue.Attempt n e) q) (same_queue (queue.Arrivals to) q)
    (attempt_queue n e q (second_of_three (same_place links (home q)) (same_place (at dialer n) (home q)) (same_place (at listener to) (home q)) h))
    (arrivals_queue to q (third_of_three (same_place links (home q)) (same_place (at dialer n) (home q)) (same_place (at listener to) (home q)) h))
writes-named configs log (act.Refuse e n) q h = attempt_queue n e q (first_false (same_place (at dialer n) (home q)) false h)
writes-named configs log (act.Finish link ok) q h =
    ends_queue (openings_of log link) q (second_false (same_place links (home q)) (list_any (λ p. same_place p (home q)) (ends_named (openings_of log link))) h)
writes-named configs log (act.Cut link) q h = flight_off link q (first_false (same_place links (home q)) false h)
writes-named configs log _ q h = refl

-- a stop names each part of its node
pub stop_names : (log : List Entry) (by_start : Bool) (n : ℕ) (p : Part) → names log (act.Stop by_start n) (at p n) ≡ true
stop_names log by_start n router = grind (arith, nat_tests)
stop_names log by_start n channels = grind (arith, nat_tests)
stop_names log by_start n connections = grind (arith, nat_tests)
stop_names log by_start n tracker = grind (arith, nat_tests)
stop_names log by_start n dialer = grind (arith, nat_tests)
stop_names log by_start n listener = grind (arith, nat_tests)
stop_names log by_start n spawner = grind (arith, nat_tests)

-- and empties queues of these, and of the links
stop_kinds : (log : List Entry) (by_start : Bool) (n : ℕ) (q : Queue) → names log (act.Stop by_start n) (home q) ≡ false → OfKinds n (λ p. same_queue p q ≡ false)
stop_kinds log by_start n q h = record {
  router = off (queue.Router n) (stop_names log by_start n router);
  tracker = off (queue.Tracker n) (stop_names log by_start n tracker);
  spawner = off (queue.Spawner n) (stop_names log by_start n spawner);
  arrivals = off (queue.Arrivals n) (stop_names log by_start n listener);
  update = off (queue.Addresses n) (stop_names log by_start n tracker);
  dialer = off (queue.Dialer n) (stop_names log by_start n tracker);
  attempt = λ k. off (queue.Attempt n k) (stop_names log by_start n dialer);
  handshake = λ k. off (queue.Handshake n k) (stop_names log by_start n tracker);
  high = λ conn. off (queue.High n conn) (stop_names log by_start n router);
  low = λ conn. off (queue.Low n conn) (stop_names log by_start n router);
  held = λ conn. off (queue.Held n conn) (stop_names log by_start n connections);
  control = λ conn. off (queue.Control n conn) (stop_names log by_start n tracker);
  ready = λ conn. off (queue.RouterAnswer n conn) (stop_names log by_start n connections);
  link = λ l s. off (queue.Link l s) refl;
}
  where
    off : (p : Queue) → names log (act.Stop by_start n) (home p) ≡ true → same_queue p q ≡ false
    off p named = same_queue-sym p q ∙ away (λ r. names log (act.Stop by_start n) (home r)) q p h named

none_same : (qs : List Queue) (q : Queue) → Each (λ p. same_queue p q ≡ false) qs → list_any (λ p. same_queue p q) qs ≡ false
none_same [] q each = refl
none_same (p ∷ qs) q each = ap (λ b. b || list_any (λ r. same_queue r q) qs) each.0 ∙ none_same qs q each.1

-- the queues in which it ends something
ends-named : (configs : List Config) (log : List Entry) (a : Act) (q : Queue) → names log a (home q) ≡ false → ends_in configs log a q ≡ false
ends-named configs log (act.SendStep conn n) q h = connection_kinds (half_at log n conn) n conn q (off_sender log conn n q h)
ends-named configs log (act.RecvStep conn n) q h = connection_kinds (half_at log n conn) n conn q (off_receiver log conn n q h)
ends-named configs log (act.Attempt e n) q h =
    let off = off_attempt log e n q h in
    let towards = dialing_end log n e in
    both_false (same_queue (queue.Attempt n e) q) (in_flight towards q) (attempt_queue n e q off.third) (flight_kinds towards q off.first)
ends-named configs log (act.Handshake e n) q h =
    let off = off_handshake log e n q h in
    let towards : Option LinkEnd = listening_end (came_over log e) in
    both_false (same_queue (queue.Handshake n e) q) (in_flight towards q) (handshake_queue n e q off.second) (flight_kinds towards q off.first)
ends-named configs log (act.Listener n) q h =
    flight_kinds (arriving_end log n) q (first_false (same_place links (home q)) (same_place (at tracker n) (home q) || (same_place (at listener n) (home q) || false)) h)
ends-named configs log (act.Stop by_start n) q h = none_same (emptied_at log n) q (each_emptied log n (λ p. same_queue p q ≡ false) (stop_kinds log by_start n q h))
ends-named configs log a q h = writes-named configs log a q h

pub line-unnamed : (configs : List Config) (log : List Entry) (ev : Event) (q : Queue) → names log ev.act (home q) ≡ false → line (log ++ effect configs log ev ∷ []) q ≡ line log q
line-unnamed configs log ev q h = line-untouched configs log ev q (reads-named configs log ev.act q h) (writes-named configs log ev.act q h) (ends-named configs log ev.act q h)
