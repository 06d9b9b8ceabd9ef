-- Which ends of links were dropped, after one more entry.
use Rattle.std.proofs.Common.{◌≡◌, ℕ, Bool, true, false, cond, List, [], ◌∷◌, ◌++◌, length, refl, ap, ◌∙◌, append-nil, Option, Some, None}
use Rattle.std.specs.Prelude.{◌==◌, ◌&&◌, ◌||◌, not}
use Rattle.std.specs.List.{list_any}
use Rattle.std.specs.Option.{option_map}
use Rattle.std.proofs.lemmas.Grind.{flat_map-append}
use Rattle.std.proofs.lemmas.List.Folds.{list_any-append}
use Rattle.p2p_log_rules.proofs.Bools.{or_false}
use Rattle.p2p_address.specs.declared.ip.IpAddr.{IpAddr}
use Rattle.p2p_log.specs.declared.queue.Queue.{Queue}
use Rattle.p2p_log.specs.declared.queue.Side.{Side}
use Rattle.p2p_log.specs.declared.queue.Side.TheVariants as side
use Rattle.p2p_log.specs.declared.item.Item.{Item}
use Rattle.p2p_log.specs.declared.item.Item.TheVariants as item
use Rattle.p2p_log.specs.declared.entry.Entry.{Entry}
use Rattle.p2p_log.specs.declared.entry.Reply.{Reply}
use Rattle.p2p_log.specs.declared.entry.Reply.TheVariants as reply
use Rattle.p2p_log.specs.declared.event.Act.{Act}
use Rattle.p2p_log.specs.declared.event.Act.TheVariants as act
use Rattle.p2p_log_rules.specs.declared.row.Half.{Half}
use Rattle.p2p_log_rules.specs.Connections.{half_at, is_done, is_end}
use Rattle.p2p_log_rules.specs.Dropping.{LinkEnd, is_side, drops, is_dropped, drop_in, drops_in, drops_of, dialing_end, listening_end, arrival_end, half_end}
use Rattle.p2p_log_rules.specs.Facts.{taken, state_from}
use Rattle.p2p_log_rules.specs.HalfSteps.{puts_ping, holds}
use Rattle.p2p_log_rules.specs.Halves.{half_in}
use Rattle.p2p_log_rules.specs.Handshakes.{ends_handshake, came_over}
use Rattle.p2p_log_rules.specs.Puts.{is_spawn, gave_up, broke_off, is_answer, turns_away, arrival_link}
use Rattle.p2p_log_rules.specs.Spawning.{connections_of}
use Rattle.p2p_log_rules.specs.Tellings.{Telling}
use Rattle.p2p_log_rules.specs.Tellings as telling
use Rattle.p2p_log_rules.specs.Told.{listening_dropped, received_tells, admitted_tells, judged_tells, heard_tells, when, done_tells, link_in, dialing_dropped, half_dropped, over_tells, sender_tells, handshake_tells, admitted_as, begun_tells, arrival_tells, gates_tell, took_tells, left_tells, act_tells, tells, told}
use Rattle.p2p_log_rules.proofs.TellingKinds as kind
use Rattle.p2p_log_rules.proofs.Families.{telling_kind, kinds_of, has, are_apart, untold_of}
use Rattle.p2p_log_rules.proofs.Tellings.{told-append}

-- whether an end is told of
abbrev is_drop : Telling → Bool
is_drop (telling.end_dropped link s) = true
is_drop _ = false

abbrev pub is_end_at : ℕ → Side → LinkEnd → Bool
is_end_at link s e = (link == e.0) && is_side s e.1

-- what is told of an end is that it is among those
told_drops : (link : ℕ) (s : Side) (ts : List Telling) → list_any (drops link s) ts ≡ list_any (is_end_at link s) (drops_in ts)
told_drops link s [] = refl
told_drops link s (telling.end_dropped e t ∷ ts) = ap (λ b. is_end_at link s (e, t) || b) (told_drops link s ts)
told_drops link s (_ ∷ ts) = told_drops link s ts

pub is_dropped-append : (log : List Entry) (e : Entry) (link : ℕ) (s : Side) → is_dropped (log ++ e ∷ []) link s ≡ (is_dropped log link s || list_any (is_end_at link s) (drops_of log e))
unfolding is_dropped
is_dropped-append log e link s =
    ap (list_any (drops link s)) (told-append log e)
    ∙ (list_any-append (drops link s) (told log) (tells (told log) log e) ∙ ap (λ b. is_dropped log link s || b) (told_drops link s (tells (told log) log e)))

pub is_dropped-none : (link : ℕ) (s : Side) → is_dropped [] link s ≡ false
unfolding is_dropped told state_from
is_dropped-none link s = refl

-- where an entry drops none, those that were dropped are the same
pub is_dropped-kept : (log : List Entry) (e : Entry) → drops_of log e ≡ [] → (link : ℕ) (s : Side) → is_dropped (log ++ e ∷ []) link s ≡ is_dropped log link s
is_dropped-kept log e none link s = is_dropped-append log e link s ∙ (ap (λ l. is_dropped log link s || list_any (is_end_at link s) l) none ∙ or_false (is_dropped log link s))

-- ---- what each step drops

abbrev pub all_of : Option LinkEnd → List LinkEnd
all_of None = []
all_of (Some end) = end ∷ []

took_drops : (n k at seed : ℕ) (items : List Item) → drops_in (took_tells n k at seed items) ≡ []
took_drops n k at seed (item.Resolved addresses ∷ items) = refl
took_drops n k at seed (item.Linked ∷ items) = refl
took_drops n k at seed _ = refl

left_drops : (n k : ℕ) (link : Option ℕ) (puts : List (Queue × Item)) → drops_in (left_tells n k link puts) ≡ all_of (cond (gave_up puts) (option_map (λ l. (l, side.Out)) link) None)
left_drops n k link puts = by (gave_up puts) (list_any is_spawn puts) link
  where
    by : (gave spawn : Bool) (link : Option ℕ) → drops_in (when (gave || spawn) (telling.attempt_ended n k ∷ when gave (dialing_dropped link))) ≡ all_of (cond gave (option_map (λ l. (l, side.Out)) link) None)
    by true spawn None = refl
    by true spawn (Some l) = refl
    by false true link = refl
    by false false link = refl

drops_in-append : (ts us : List Telling) → drops_in (ts ++ us) ≡ drops_in ts ++ drops_in us
drops_in-append ts us = flat_map-append drop_in ts us

-- a half drops the end to which it writes where it ends its connection
over_drops : (n conn : ℕ) (r : Reply) (o : Option Half) → drops_in (over_tells n conn r o) ≡ all_of (cond (is_end r) (half_end o) None)
over_drops n conn r o = by (is_end r) o
  where
    by : (b : Bool) (o : Option Half) → drops_in (when b (telling.connection_ended n conn ∷ half_dropped o)) ≡ all_of (cond b (half_end o) None)
    by true None = refl
    by true (Some half) = refl
    by false o = refl

-- and what else it tells drops none
sender_drops : (n conn at : ℕ) (r : Reply) (items : List Item) (puts : List (Queue × Item)) → drops_in (done_tells r (sender_tells n conn at items puts)) ≡ []
sender_drops n conn at r items puts = by (is_done r) (list_any is_answer items) (puts_ping items puts)
  where
    by : (done runs pings : Bool) → drops_in (when done (telling.half_stepped n conn ∷ (when runs (telling.connection_ran n conn at ∷ []) ++ when pings (telling.ping_put n conn at ∷ [])))) ≡ []
    by false runs pings = refl
    by true true true = refl
    by true true false = refl
    by true false true = refl
    by true false false = refl

let_in_drops : (n conn at : ℕ) (r : Reply) (items : List Item) (puts : List (Queue × Item)) → drops_in (admitted_tells n conn at r items puts) ≡ []
let_in_drops n conn at r items puts = by (is_end r) items
  where
    by : (ended : Bool) (items : List Item) → drops_in (when (not ended) (received_tells n conn at items puts)) ≡ []
    by true items = refl
    by false [] = refl
    by false (i ∷ items) = let_in (holds puts)
      where
        let_in : (b : Bool) → drops_in (when (not b) (telling.item_admitted n conn at i ∷ [])) ≡ []
        let_in true = refl
        let_in false = refl

judged_drops : (n at : ℕ) (from : IpAddr) (r : Reply) → drops_in (judged_tells n at from r) ≡ []
judged_drops n at from (reply.Gates g) = refl
judged_drops n at from _ = refl

heard_drops : (n at : ℕ) (r : Reply) (items : List Item) → drops_in (heard_tells n at r items) ≡ []
heard_drops n at r (item.Addresses addresses ∷ items) = refl
heard_drops n at r (item.Arrival from key link ∷ items) = judged_drops n at from.ip r
heard_drops n at r _ = refl

drops_before : (ts us : List Telling) → drops_in us ≡ [] → drops_in (ts ++ us) ≡ drops_in ts
drops_before ts us none = drops_in-append ts us ∙ (ap (λ l. drops_in ts ++ l) none ∙ append-nil (drops_in ts))

-- what a handshake tells besides
handshake_drops : (n h : ℕ) (link : Option ℕ) (ended broke : Bool) (items : List Item)
    → drops_in (handshake_tells n h link ended items ++ when broke (listening_dropped link)) ≡ all_of (cond broke (listening_end link) None)
handshake_drops n h None true true items = refl
handshake_drops n h (Some link) true true items = refl
handshake_drops n h link true false items = refl
handshake_drops n h None false true items = refl
handshake_drops n h (Some link) false true items = refl
handshake_drops n h link false false items = refl

-- what a listener tells besides
arrival_drops : (n name at : ℕ) (r : Reply) (items : List Item)
    → drops_in (arrival_tells n (admitted_as name r) items ++ (begun_tells n at (admitted_as name r) items ++ gates_tell r items)) ≡ drops_in (gates_tell r items)
arrival_drops n name at r items =
    drops_in-append (arrival_tells n (admitted_as name r) items) (begun_tells n at (admitted_as name r) items ++ gates_tell r items)
    ∙ (ap (λ l. l ++ drops_in (begun_tells n at (admitted_as name r) items ++ gates_tell r items)) (arrives items)
    ∙ (drops_in-append (begun_tells n at (admitted_as name r) items) (gates_tell r items) ∙ ap (λ l. l ++ drops_in (gates_tell r items)) (begins (admitted_as name r) items)))
  where
    arrives : (items : List Item) → drops_in (arrival_tells n (admitted_as name r) items) ≡ []
    arrives (item.Arrival from key link ∷ items) = refl
    arrives _ = refl

    begins : (o : Option ℕ) (items : List Item) → drops_in (begun_tells n at o items) ≡ []
    begins (Some h) (item.Arrival from key link ∷ items) = refl
    begins (Some h) _ = refl
    begins None items = refl

turned_drops : (b : Bool) (o : Option ℕ) → drops_in (when b (listening_dropped o)) ≡ all_of (cond b (option_map (λ l. (l, side.In)) o) None)
turned_drops true None = refl
turned_drops true (Some link) = refl
turned_drops false o = refl

module _ (log : List Entry) (e : Entry) where
  abbrev acts_tell : Act → List Telling
  acts_tell a = act_tells (told log) log (length log) e.event.at e.event.seed e.reply (taken log e) e.puts a

  tells_act : (a : Act) → e.event.act ≡ a → drops_of log e ≡ drops_in (acts_tell a)
  unfolding tells
  tells_act a is = ap (λ b. drops_in (acts_tell b)) is

  pub drops_of-attempt : (k n : ℕ) → e.event.act ≡ act.Attempt k n → drops_of log e ≡ all_of (cond (gave_up e.puts) (dialing_end log n k) None)
  drops_of-attempt k n is =
      tells_act (act.Attempt k n) is
      ∙ (drops_in-append (took_tells n k e.event.at e.event.seed (taken log e)) (left_tells n k (link_in (told log) n k) e.puts)
      ∙ (ap (λ l. l ++ drops_in (left_tells n k (link_in (told log) n k) e.puts)) (took_drops n k e.event.at e.event.seed (taken log e)) ∙ left_drops n k (link_in (told log) n k) e.puts))

  pub drops_of-handshake : (h n : ℕ) → e.event.act ≡ act.Handshake h n → drops_of log e ≡ all_of (cond (broke_off e.reply (taken log e) e.puts) (listening_end (came_over log h)) None)
  drops_of-handshake h n is =
      tells_act (act.Handshake h n) is
      ∙ handshake_drops n h (came_over log h) (ends_handshake e.reply (taken log e)) (broke_off e.reply (taken log e) e.puts) (taken log e)

  pub drops_of-send : (conn n : ℕ) → e.event.act ≡ act.SendStep conn n → drops_of log e ≡ all_of (cond (is_end e.reply) (half_end (half_at log n conn)) None)
  unfolding half_at connections_of
  drops_of-send conn n is =
      tells_act (act.SendStep conn n) is
      ∙ (drops_before (over_tells n conn e.reply (half_in (told log) n conn)) (done_tells e.reply (sender_tells n conn e.event.at (taken log e) e.puts)) (sender_drops n conn e.event.at e.reply (taken log e) e.puts)
      ∙ over_drops n conn e.reply (half_at log n conn))

  pub drops_of-receive : (conn n : ℕ) → e.event.act ≡ act.RecvStep conn n → drops_of log e ≡ all_of (cond (is_end e.reply) (half_end (half_at log n conn)) None)
  unfolding half_at connections_of
  drops_of-receive conn n is =
      tells_act (act.RecvStep conn n) is
      ∙ (drops_before (over_tells n conn e.reply (half_in (told log) n conn)) (admitted_tells n conn e.event.at e.reply (taken log e) e.puts) (let_in_drops n conn e.event.at e.reply (taken log e) e.puts)
      ∙ over_drops n conn e.reply (half_at log n conn))

  -- a step that turns an arrival away drops its end
  pub drops_of-listener : (n : ℕ) → e.event.act ≡ act.Listener n → drops_of log e ≡ all_of (cond (turns_away e.reply) (arrival_end (taken log e)) None)
  drops_of-listener n is =
      tells_act (act.Listener n) is
      ∙ (drops_before (arrival_tells n (admitted_as (length log) e.reply) (taken log e) ++ (begun_tells n e.event.at (admitted_as (length log) e.reply) (taken log e) ++ gates_tell e.reply (taken log e))) (heard_tells n e.event.at e.reply (taken log e)) (heard_drops n e.event.at e.reply (taken log e))
      ∙ (arrival_drops n (length log) e.event.at e.reply (taken log e) ∙ turned_drops (turns_away e.reply) (arrival_link (taken log e))))

-- where no end is told of, none is dropped
none_dropped : (ts : List Telling) → list_any is_drop ts ≡ false → drops_in ts ≡ []
none_dropped [] h = refl
none_dropped (telling.end_dropped link s ∷ ts) h = cc
none_dropped (_ ∷ ts) h = none_dropped ts h

-- whether an act drops no end, whatever it comes to
abbrev pub drops_none : Act → Bool
drops_none a = are_apart (kinds_of a) (kind.end_dropped ∷ [])

of_kinds : (t : Telling) → has (kind.end_dropped ∷ []) (telling_kind t) ≡ false → is_drop t ≡ false
of_kinds (telling.end_dropped link s) h = cc
of_kinds _ h = refl

pub drops_of-none : (log : List Entry) (e : Entry) → drops_none e.event.act ≡ true → drops_of log e ≡ []
drops_of-none log e h = none_dropped (tells (told log) log e) (untold_of is_drop (kind.end_dropped ∷ []) of_kinds (told log) log e h)
