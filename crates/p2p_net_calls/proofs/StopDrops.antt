-- What is put together of a stop: what the router keeps, which ends are dropped and which connections have ended, and which queues it leaves alone.
use Rattle.std.proofs.Common.{◌≡◌, ℕ, Bool, true, false, cond, List, [], ◌∷◌, ◌++◌, inl, inr, refl, ap, sym, subst, ◌∙◌, arith, eqb-true, None, ◌⊎◌}
use Rattle.std.specs.BTreeMap.{is_at}
use Rattle.std.specs.Option.{is_some}
use Rattle.std.specs.Prelude.{◌==◌, ◌||◌, ◌&&◌, map, flat_map}
use Rattle.std.specs.List.{list_any, AllByRecursion as Each}
use Rattle.std.specs.Ordering.{nat_cmp}
use Rattle.std.proofs.lemmas.Bool.{false≢true}
use Rattle.std.proofs.lemmas.Bool.Decides.{nat_tests}
use Rattle.p2p_base.specs.declared.key.Key.{Key}
use Rattle.p2p_lookup.specs.declared.spawner.message.Message.{Message}
use Rattle.p2p_lookup.specs.declared.spawner.message.Message.TheVariants as asked_for
use Rattle.p2p_log.specs.declared.config.Config.{Config}
use Rattle.p2p_log.specs.declared.entry.Entry.{Entry}
use Rattle.p2p_log.specs.declared.event.Act.TheVariants as act
use Rattle.p2p_log.specs.declared.queue.Queue.{Queue}
use Rattle.p2p_log.specs.declared.queue.Queue.TheVariants as queue
use Rattle.p2p_log.specs.declared.queue.Side.{Side}
use Rattle.p2p_log.specs.declared.queue.Side.TheVariants as side
use Rattle.p2p_log.specs.declared.item.Envelope.{Envelope}
use Rattle.p2p_log.specs.Lines.{name_of}
use Rattle.p2p_log.specs.QueueCode.{same_queue}
use Rattle.p2p_log.proofs.Each.{Has}
use Rattle.p2p_log_rules.specs.Connections.{is_over, is_ended, ends_connection, live_connection}
use Rattle.p2p_log_rules.specs.Spawning.{connections_of}
use Rattle.p2p_tracker_calls.specs.Sets.{is_among as is_among_keys}
use Rattle.p2p_log_rules.specs.Dropping.{LinkEnd, half_end, arrival_end}
use Rattle.p2p_log_rules.specs.Told.{told, connections_in, stop_tells, half_to_be}
use Rattle.p2p_log_rules.proofs.Channels.{IsStopOf, tells_stop}
use Rattle.p2p_log_rules.proofs.Connections.{is_ended-append, end_of as connection_end, IsEndOf, IsStopped, half_act}
use Rattle.p2p_log_rules.proofs.Dropping.{all_of}
use Rattle.p2p_log_rules.proofs.Stopped.{stop_connection}
use Rattle.p2p_net_queues.specs.Matching.{Match}
use Rattle.p2p_net_router.specs.Resting.{IsListing}
use Rattle.p2p_net_router.specs.declared.router.Router.{Router}
use Rattle.p2p_net_gates.proofs.Stops.{ending_arrival}
use Rattle.p2p_net_connections.specs.SpawnerStands.{IsSpawn}
use Rattle.p2p_net_connections.proofs.Listed.{live_listed}
use Rattle.p2p_net_links.specs.Left.{all_dropped}
use Rattle.p2p_net_links.specs.Stands.{LinksStand}
use Rattle.p2p_net_links.specs.declared.links.Links.{Links}
use Rattle.p2p_net_calls.specs.Stopping.{ends_handed, end_of, messages_handed}
use Rattle.p2p_net_calls.proofs.StopLists.{one_end}
use Rattle.p2p_net_calls.proofs.StopRow.{side_is}

-- ---- names that are no more

pub none_named : (xs : List Envelope) → [] ≡ map name_of xs → xs ≡ []
none_named [] is = refl
none_named (x ∷ xs) is = absurd (cc)

-- ---- what the router keeps through the stop

-- its lists of peers are those of the router before it was closed
pub listing_moved : (old new : Router) (items : List Envelope) → new.number ≡ old.number → new.channels ≡ old.channels → new.subscriptions ≡ old.subscriptions → new.messenger.lists ≡ old.messenger.lists → new.names ≡ old.names
    → IsListing old items → IsListing new items
listing_moved old new items number channels numbers lists names h =
    subst (λ k. IsListing (record new { number = k }) items) (sym number)
    (subst (λ k. IsListing (record new { number = old.number; channels = k }) items) (sym channels)
    (subst (λ k. IsListing (record new { number = old.number; channels = old.channels; subscriptions = k }) items) (sym numbers)
    (subst (λ k. IsListing (record new { number = old.number; channels = old.channels; subscriptions = old.subscriptions; names = k }) items) (sym names)
    (subst (λ k. IsListing (record new { number = old.number; channels = old.channels; subscriptions = old.subscriptions; names = old.names; messenger = record new.messenger { lists = k } }) items) (sym lists)
    (record { rings = h.rings; channels = h.channels; distinct = h.distinct; numbered = h.numbered; names = h.names; lists = h.lists })))))

-- ---- ends that are dropped one after another

pub dropped-append : (xs ys : List LinkEnd) (l : Links) → all_dropped (xs ++ ys) l ≡ all_dropped ys (all_dropped xs l)
dropped-append [] ys l = refl
dropped-append (x ∷ xs) ys l = dropped-append xs ys (end_after x l)
  where
    end_after : LinkEnd → Links → Links
    end_after e k = all_dropped (e ∷ []) k

-- those of what messages hand on
pub messages_drop : (configs : List Config) (log : List Entry) (n : ℕ) (l : Links) → LinksStand configs log l → (xs : List Envelope) (ms : List (Message Key)) → Match (λ (x : Envelope) m. IsSpawn log n x.item m) xs ms
    → ends_handed (messages_handed n l (map name_of xs) ms) ≡ flat_map (λ (x : Envelope). all_of (half_end (half_to_be (told log) n x.item))) xs
messages_drop configs log n l t [] [] match = refl
messages_drop configs log n l t (x ∷ xs) (asked_for.Spawn peer link reserved ∷ ms) match =
    ap (λ es. es ++ ends_handed (messages_handed n l (map name_of xs) ms))
    (ap end_of (side_is configs log n l t x.item peer link reserved match.0) ∙ one_end (half_end (half_to_be (told log) n x.item)))
    ∙ ap (λ es. all_of (half_end (half_to_be (told log) n x.item)) ++ es) (messages_drop configs log n l t xs ms match.1)
messages_drop configs log n l t [] (m ∷ ms) match = absurd match
messages_drop configs log n l t (x ∷ xs) [] match = absurd match

-- and of what arrivals hand on
pub arrivals_drop : (xs : List Envelope) → ends_handed (map ending_arrival xs) ≡ flat_map (λ (x : Envelope). all_of (arrival_end (x.item ∷ []))) xs
arrivals_drop [] = refl
arrivals_drop (x ∷ xs) =
    ap (λ es. es ++ ends_handed (map ending_arrival xs)) (one_end (arrival_end (x.item ∷ []))) ∙ ap (λ es. all_of (arrival_end (x.item ∷ [])) ++ es) (arrivals_drop xs)

-- ---- which connections have ended

or_same : (a b c : Bool) → (a ≡ true → b ≡ true) → (b ≡ true → a ≡ true) → (a || c) ≡ (c || b)
or_same true true true f g = refl
or_same true true false f g = refl
or_same false false true f g = refl
or_same false false false f g = refl
or_same true false c f g = absurd (false≢true (f refl))
or_same false true c f g = absurd (false≢true (g refl))

number_test : (k q : ℕ) → (k == q) ≡ is_at (nat_cmp k) q
number_test k q = grind (arith, nat_tests)

any_among : (conn : ℕ) (ks : List ℕ) → list_any (λ k. k == conn) ks ≡ is_among_keys nat_cmp ks conn
any_among conn [] = refl
any_among conn (k ∷ ks) = ap (λ b. b || list_any (λ j. j == conn) ks) (number_test k conn) ∙ ap (λ b. is_at (nat_cmp k) conn || b) (any_among conn ks)

any_has : (conn : ℕ) (ks : List ℕ) → list_any (λ k. k == conn) ks ≡ true → Has ks conn
any_has conn [] any = absurd (false≢true any)
any_has conn (k ∷ ks) any = by (k == conn) refl any (any_has conn ks)
  where
    by : (b : Bool) → (k == conn) ≡ b → (b || list_any (λ j. j == conn) ks) ≡ true → (list_any (λ j. j == conn) ks ≡ true → Has ks conn) → Has (k ∷ ks) conn
    by true is h later = inl (eqb-true k conn is)
    by false is h later = inr (later h)

-- by what the stop tells of them
ends_with : (log : List Entry) (e : Entry) (n conn : ℕ) → IsStopOf log e n → ends_connection n conn log e ≡ list_any (is_over n conn) (stop_tells (told log) log n)
ends_with log e n conn stop = ap (list_any (is_over n conn)) (tells_stop log e n stop)

-- a connection that a stop ends was made, and had not ended
ended_lived : (log : List Entry) (e : Entry) (n conn : ℕ) → IsStopOf log e n → IsEndOf e n conn ⊎ IsStopped log e n conn → is_some (live_connection log n conn) ≡ true
ended_lived log e n conn stop (inl step) = by step.sends (sym stop.acts ∙ step.acts)
  where
    by : (sends : Bool) → act.Stop stop.by_start n ≡ half_act sends conn n → is_some (live_connection log n conn) ≡ true
    by true is = absurd (cc)
    by false is = absurd (cc)
ended_lived log e n conn stop (inr over) = ap (λ b. is_some (cond b None (connections_of log n conn))) over.lived ∙ ap (λ o. is_some o) over.made

pub ended_now : (log : List Entry) (e : Entry) (n conn : ℕ) (ks : List ℕ) (before : Bool) → IsStopOf log e n → ks ≡ connections_in (told log) n → before ≡ is_ended log n conn
    → (list_any (λ k. k == conn) ks || before) ≡ is_ended (log ++ e ∷ []) n conn
ended_now log e n conn ks before stop are was =
    or_same (list_any (λ k. k == conn) ks) (ends_connection n conn log e) before
    (λ any. ends_with log e n conn stop ∙ stop_connection (told log) log n (is_over n conn) conn (subst (λ xs. Has xs conn) are (any_has conn ks any)) (here n conn))
    (λ ends. ap (λ xs. list_any (λ k. k == conn) xs) are ∙ (any_among conn (connections_in (told log) n) ∙ (live_listed log n conn ∙ ended_lived log e n conn stop (connection_end log e n conn ends))))
    ∙ (ap (λ b. b || ends_connection n conn log e) was ∙ sym (is_ended-append log e n conn))
  where
    here : (a b : ℕ) → ((a == a) && (b == b)) ≡ true
    here a b = grind (arith, nat_tests)

-- ---- queues that a stop leaves alone

pub no_channel : (n c l : ℕ) (s : Side) → same_queue (queue.Link l s) (queue.Channel n c) ≡ false
no_channel n c l side.Out = refl
no_channel n c l side.In = refl

pub any_none : (q : Queue) (ps : List Queue) → Each (λ p. same_queue p q ≡ false) ps → list_any (λ p. same_queue p q) ps ≡ false
any_none q [] h = refl
any_none q (p ∷ ps) h = ap (λ b. b || list_any (λ r. same_queue r q) ps) h.0 ∙ any_none q ps h.1
