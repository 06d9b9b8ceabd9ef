-- What is read of the tree of a made script is that script.
use Rattle.std.proofs.Common.{◌≡◌, ℕ, zero, suc, ◌+◌, ◌-◌, ◌/◌, ◌%◌, ◌^◌, ◌==◌, ◌≤◌, ◌<◌, Bool, true, false, List, [], ◌∷◌, ◌++◌, map, take, Some, option_and_then, refl, sym, ap, subst, ◌∙◌, arith, if◌then◌else◌, slice_index}
use Rattle.std.specs.Prelude.{⊤}
use Rattle.std.specs.Int.{w32, byte_at, bytes_high_first, to_be_bytes}
use Rattle.std.specs.Result.{result_ok}
use Rattle.hex.proofs.HexLemmas.{decode_of-encode_lower}
use Rattle.rand_pcg.specs.Lcg.{Lcg}
use Rattle.serde_json.specs.Data.{Data, depth, items_depth}
use Rattle.serde_json.specs.Read.{read, max_depth}
use Rattle.serde_json.specs.View.{items_of}
use Rattle.serde_json.proofs.OnLiterals.{serde_json_on_literals}
use Rattle.p2p_runtime.specs.Draws.{seeded, drawn}
use Rattle.p2p_log.specs.declared.asked.Asked.TheVariants as ask
use Rattle.p2p_log.specs.declared.event.Act.{Act}
use Rattle.p2p_log.specs.declared.event.Act.TheVariants as act
use Rattle.p2p_log.specs.declared.event.Event.{Event}
use Rattle.p2p_log.specs.declared.event.Recipients.TheVariants as recipients
use Rattle.p2p_sim_script.specs.Tree.{each, list_of}
use Rattle.p2p_sim_script.specs.Form.{event_of, script_of}
use Rattle.p2p_sim_script.specs.ConfigForm.{config_of}
use Rattle.p2p_sim_script.specs.GeneratedActs.{socket_at, tracked_at, starting, listening, connecting, beginning, half_at, number_sent, drawn_act}
use Rattle.p2p_sim_script.specs.Generated.{event_at, events_from, drawn_from, generated_configs, generated_events}
use Rattle.p2p_sim_script.specs.GeneratedText.{Says}
use Rattle.p2p_sim_script.specs.GeneratedTree.{event_tree, configs_tree, script_tree}

-- ---- each item of a list

abbrev Each : {A : Type 0} → (A → Type 0) → List A → Type 0
Each P [] = ⊤
Each P (x ∷ xs) = P x × Each P xs

each-append : {A : Type 0} (P : A → Type 0) (xs ys : List A) → Each P xs → Each P ys → Each P (xs ++ ys)
each-append P [] ys h k = k
each-append P (x ∷ xs) ys h k = (h.0, each-append P xs ys h.1 k)

each-take : {A : Type 0} (P : A → Type 0) (n : ℕ) (xs : List A) → Each P xs → Each P (take n xs)
each-take P zero xs h = tt
each-take P (suc n) [] h = tt
each-take P (suc n) (x ∷ xs) h = (h.0, each-take P n xs h.1)

-- ---- an act is read back, at the moment of any event

abbrev ReadsBack : Event → Type 0
ReadsBack e = (event_of (event_tree e) ≡ Some e) × (depth (event_tree e) ≤ 6)

abbrev ActReadsBack : Act → Type 0
ActReadsBack a = (n : ℕ) → ReadsBack (event_at n a)

start-back : (node : ℕ) → ActReadsBack (act.Start node)
unfolding serde_json_on_literals
start-back node n = (refl, omega arith)

router-back : (node : ℕ) → ActReadsBack (act.Router node)
unfolding serde_json_on_literals
router-back node n = (refl, omega arith)

tracker-back : (node : ℕ) → ActReadsBack (act.Tracker node)
unfolding serde_json_on_literals
tracker-back node n = (refl, omega arith)

dialer-back : (node : ℕ) → ActReadsBack (act.Dialer node)
unfolding serde_json_on_literals
dialer-back node n = (refl, omega arith)

listener-back : (node : ℕ) → ActReadsBack (act.Listener node)
unfolding serde_json_on_literals
listener-back node n = (refl, omega arith)

spawner-back : (node : ℕ) → ActReadsBack (act.Spawner node)
unfolding serde_json_on_literals
spawner-back node n = (refl, omega arith)

send_step-back : (conn node : ℕ) → ActReadsBack (act.SendStep conn node)
unfolding serde_json_on_literals
send_step-back conn node n = (refl, omega arith)

recv_step-back : (conn node : ℕ) → ActReadsBack (act.RecvStep conn node)
unfolding serde_json_on_literals
recv_step-back conn node n = (refl, omega arith)

recv-back : (channel node : ℕ) → ActReadsBack (act.Recv channel node)
unfolding serde_json_on_literals
recv-back channel node n = (refl, omega arith)

attempt-back : (attempt node : ℕ) → ActReadsBack (act.Attempt attempt node)
unfolding serde_json_on_literals
attempt-back attempt node n = (refl, omega arith)

handshake-back : (handshake node : ℕ) → ActReadsBack (act.Handshake handshake node)
unfolding serde_json_on_literals
handshake-back handshake node n = (refl, omega arith)

finish-back : (link : ℕ) → ActReadsBack (act.Finish link true)
unfolding serde_json_on_literals
finish-back link n = (refl, omega arith)

register-back : (node : ℕ) → ActReadsBack (act.Register 0 node (record { burst = 64; period = 15625000 }))
unfolding serde_json_on_literals
register-back node n = (refl, omega arith)

track-back-0 : ActReadsBack (act.Ask (ask.Track 0 (tracked_at 0)) 0)
unfolding serde_json_on_literals
track-back-0 n = (refl, omega arith)

track-back-1 : ActReadsBack (act.Ask (ask.Track 0 (tracked_at 1)) 1)
unfolding serde_json_on_literals
track-back-1 n = (refl, omega arith)

track-back-2 : ActReadsBack (act.Ask (ask.Track 0 (tracked_at 2)) 2)
unfolding serde_json_on_literals
track-back-2 n = (refl, omega arith)

track-back-3 : ActReadsBack (act.Ask (ask.Track 0 (tracked_at 3)) 3)
unfolding serde_json_on_literals
track-back-3 n = (refl, omega arith)

connect-back-1 : (attempt : ℕ) → ActReadsBack (act.Connect attempt (socket_at 1 40000) 1 0)
unfolding serde_json_on_literals
connect-back-1 attempt n = (refl, omega arith)

connect-back-2 : (attempt : ℕ) → ActReadsBack (act.Connect attempt (socket_at 2 40000) 2 0)
unfolding serde_json_on_literals
connect-back-2 attempt n = (refl, omega arith)

connect-back-3 : (attempt : ℕ) → ActReadsBack (act.Connect attempt (socket_at 3 40000) 3 0)
unfolding serde_json_on_literals
connect-back-3 attempt n = (refl, omega arith)

-- the digits of a number's bytes spell these bytes
rest-small : (m : ℕ) → m % 256 < 256
rest-small m = omega arith

byte-small : (k n : ℕ) → byte_at k n < 256
byte-small zero n = rest-small n
byte-small (suc k) n = rest-small (n / 256 ^ suc k)

bytes-small : (k n i : ℕ) → slice_index (bytes_high_first k n) i < 256
bytes-small zero n i = omega arith
bytes-small (suc k) n zero = byte-small k n
bytes-small (suc k) n (suc i) = bytes-small k n i

send-back : (m node : ℕ) (priority : Bool) → ActReadsBack (number_sent m node priority)
unfolding serde_json_on_literals
send-back m node priority n = (
  ap (λ r. option_and_then (λ a. Some (event_at n a)) (option_and_then (λ bytes. Some (act.Send bytes 0 node priority recipients.All)) (result_ok r)))
      (decode_of-encode_lower (to_be_bytes w32 m) (bytes-small 4 m)),
  omega arith,
)

-- ---- the beginning

starting-back : (i : ℕ) → ActReadsBack (act.Ask (ask.Track 0 (tracked_at i)) i) → Each ActReadsBack (starting i)
starting-back i tracks = (register-back i, (start-back i, (tracks, (tracker-back i, tt))))

listening-back : Each ActReadsBack listening
listening-back = (listener-back 0, (router-back 0, tt))

connecting-back : (i b : ℕ) → ActReadsBack (act.Connect (b + 4) (socket_at i 40000) i 0) → Each ActReadsBack (connecting i b)
connecting-back i b connects = (
  dialer-back i,
  (
    tracker-back i,
    (
      dialer-back i,
      (
        tracker-back i,
        (
          dialer-back i,
          (
            connects,
            (
              attempt-back (b + 4) i,
              (
                listener-back 0,
                (
                  tracker-back 0,
                  (
                    handshake-back (b + 7) 0,
                    (
                      finish-back (b + 5),
                      (
                        attempt-back (b + 4) i,
                        (
                          handshake-back (b + 7) 0,
                          (
                            tracker-back 0,
                            (
                              handshake-back (b + 7) 0,
                              (
                                spawner-back i,
                                (
                                  spawner-back 0,
                                  (
                                    send_step-back (b + 15) i,
                                    (
                                      send_step-back (b + 16) 0,
                                      (router-back i, (router-back i, (router-back 0, (send_step-back (b + 15) i, (send_step-back (b + 16) 0, (tracker-back i, (tracker-back 0, tt))))))),
                                    ),
                                  ),
                                ),
                              ),
                            ),
                          ),
                        ),
                      ),
                    ),
                  ),
                ),
              ),
            ),
          ),
        ),
      ),
    ),
  ),
)

beginning-back : Each ActReadsBack beginning
beginning-back =
    each-append ActReadsBack (starting 0) (starting 1 ++ starting 2 ++ starting 3 ++ listening ++ connecting 1 18 ++ connecting 2 44 ++ connecting 3 70)
    (starting-back 0 track-back-0)
    (each-append ActReadsBack (starting 1) (starting 2 ++ starting 3 ++ listening ++ connecting 1 18 ++ connecting 2 44 ++ connecting 3 70)
    (starting-back 1 track-back-1)
    (each-append ActReadsBack (starting 2) (starting 3 ++ listening ++ connecting 1 18 ++ connecting 2 44 ++ connecting 3 70) (starting-back 2 track-back-2)
    (each-append ActReadsBack (starting 3) (listening ++ connecting 1 18 ++ connecting 2 44 ++ connecting 3 70) (starting-back 3 track-back-3)
    (each-append ActReadsBack listening (connecting 1 18 ++ connecting 2 44 ++ connecting 3 70) listening-back
    (each-append ActReadsBack (connecting 1 18) (connecting 2 44 ++ connecting 3 70) (connecting-back 1 18 (connect-back-1 22))
    (each-append ActReadsBack (connecting 2 44) (connecting 3 70) (connecting-back 2 44 (connect-back-2 48)) (connecting-back 3 70 (connect-back-3 74))))))))

events-back : (n : ℕ) (acts : List Act) → Each ActReadsBack acts → Each ReadsBack (events_from n acts)
events-back n [] h = tt
events-back n (a ∷ acts) h = (h.0 n, events-back (n + 1) acts h.1)

-- ---- what is drawn

choice-back : (b : Bool) (x y : Act) → ActReadsBack x → ActReadsBack y → ActReadsBack (if b then x else y)
choice-back true x y h k = h
choice-back false x y h k = k

drawn_act-back : (n a c : ℕ) → ActReadsBack (drawn_act n a c)
drawn_act-back n a c =
    choice-back (a == 0) _ _ (send-back n (c % 4) false)
    (choice-back (a == 1) _ _ (send-back n (c % 4) true)
    (choice-back (a == 2) _ _ (router-back (c % 4))
    (choice-back (a == 3) _ _ (router-back (c % 4))
    (choice-back (a == 4) _ _ (send_step-back (half_at c).1 (half_at c).0)
    (choice-back (a == 5) _ _ (recv_step-back (half_at c).1 (half_at c).0)
    (choice-back (a == 6) _ _ (recv-back 0 (c % 4)) (tracker-back (c % 4))))))))

drawn-back : (n left : ℕ) (g : Lcg) → Each ReadsBack (drawn_from n left g)
drawn-back n zero g = tt
drawn-back n (suc left) g = (drawn_act-back n (drawn 7 g).0 (drawn 5 (drawn 7 g).1).0 n, drawn-back (n + 1) left (drawn 5 (drawn 7 g).1).1)

generated-back : (count seed : ℕ) → Each ReadsBack (generated_events count seed)
unfolding generated_events
generated-back count seed =
    each-append ReadsBack (take count (events_from 0 beginning)) (drawn_from 96 (count - 96) (seeded seed))
    (each-take ReadsBack count (events_from 0 beginning) (events-back 0 beginning beginning-back)) (drawn-back 96 (count - 96) (seeded seed))

-- ---- the script

each-back : (es : List Event) → Each ReadsBack es → each event_of (items_of (map event_tree es)) ≡ Some es
each-back [] h = refl
each-back (e ∷ es) h = rw ((h.0).0, each-back es h.1) refl

items-shallow : (es : List Event) → Each ReadsBack es → items_depth (items_of (map event_tree es)) ≤ 6
items-shallow [] h = omega arith
items-shallow (e ∷ es) h = omega (arith, (h.0).1, items-shallow es h.1)

configs-back : list_of config_of configs_tree ≡ Some generated_configs
unfolding serde_json_on_literals
configs-back = refl

-- what the tree says is the script that it is made of
generated_tree-says : (count seed : ℕ) → script_of (script_tree (generated_events count seed)) ≡ Some (generated_configs, generated_events count seed)
unfolding serde_json_on_literals
generated_tree-says count seed =
    ap (λ o. option_and_then (λ es. Some (generated_configs, es)) o) (each-back (generated_events count seed) (generated-back count seed))

-- the tree nests no deeper than its text may
generated_tree-shallow : (count seed : ℕ) → depth (script_tree (generated_events count seed)) ≤ max_depth
generated_tree-shallow count seed = omega (arith, items-shallow (generated_events count seed) (generated-back count seed))

-- a text of which the tree is read says the script
pub generated-said : (count seed : ℕ) (d : Data) (text : List ℕ) → d ≡ script_tree (generated_events count seed) → (depth d ≤ max_depth → read text ≡ Some d)
    → Says text generated_configs (generated_events count seed)
generated-said count seed d text e h =
    (d, h (subst (λ t. depth t ≤ max_depth) (sym e) (generated_tree-shallow count seed)), ap script_of e ∙ generated_tree-says count seed)
