-- Of each subscription to the blocked keys a step puts at most one set, since the numbers of those that are told rise.
use Rattle.std.proofs.Common.{◌≡◌, ℕ, ◌+◌, ◌≤◌, Bool, true, false, cond, List, [], ◌∷◌, ◌++◌, arith, Option, Some}
use Rattle.std.specs.Prelude.{slice_set, ◌==◌}
use Rattle.std.specs.List.{AllByRecursion as Each}
use Rattle.std.proofs.lemmas.Bool.Decides.{nat_tests}
use Rattle.p2p_address.specs.declared.ip.IpAddr.{IpAddr}
use Rattle.p2p_base.specs.declared.key.Key.{Key}
use Rattle.p2p_tracker_calls.specs.declared.call.Call.{Call}
use Rattle.p2p_tracker_calls.specs.declared.call.Call.TheVariants as call
use Rattle.p2p_tracker_calls.specs.Allows.{is_acceptable}
use Rattle.p2p_tracker_calls.specs.BlockedKeys.{blocked_keys}
use Rattle.p2p_tracker_calls.specs.Blocks.{is_blockable}
use Rattle.p2p_tracker_calls.specs.Keeping.{kept_of}
use Rattle.p2p_tracker_calls.specs.Kills.{killed_keys}
use Rattle.p2p_tracker_calls.specs.Lives.{accepts}
use Rattle.p2p_tracker_calls.specs.Overwrites.{overwritten, overwritten_keys}
use Rattle.p2p_tracker_calls.specs.Peers.{latest_update}
use Rattle.p2p_tracker_calls.specs.Rules.{Rules}
use Rattle.p2p_tracker_calls.specs.Sets.{is_above, accepted_sets}
use Rattle.p2p_tracker_mailbox.specs.declared.message.Message.{Message}
use Rattle.p2p_tracker_mailbox.specs.declared.message.Message.TheVariants as message
use Rattle.p2p_tracker.specs.Putting.{kills_of, overwrite_kills, listen_grant}
use Rattle.p2p_tracker.specs.Steps.{heard_put, registered, unblocked, puts_for}
use Rattle.p2p_tracker.specs.Telling.{has_any, kill_put, told_of_sets, sets_put}
use Rattle.p2p_tracker.specs.declared.stepped.Put.{Put}
use Rattle.p2p_tracker.specs.declared.stepped.Put.TheVariants as put
use Rattle.p2p_log.proofs.Each.{Each-append, Each-weaker}
use Rattle.p2p_log_rules.specs.Tracking.{key_cmp}
use Rattle.p2p_net_tracker.specs.AtDesk.{Rises}
use Rattle.p2p_net_tracker.proofs.LateKills.{without_late, each-late}
use Rattle.p2p_net_tracker.proofs.Puts.{each_if, each_told, each_kill, each_kills, each_overwrite}

-- it is no set of this subscription
abbrev pub IsNotSet : ℕ → Put Key → Type 0
IsNotSet k (put.Blocked ticket keys dropped) = (ticket == k) ≡ false
IsNotSet k _ = Unit {0}

abbrev pub SetsOnce : List (Put Key) → Type 0
SetsOnce [] = Unit {0}
SetsOnce (put.Blocked ticket keys dropped ∷ ps) = Each (IsNotSet ticket) ps × SetsOnce ps
SetsOnce (_ ∷ ps) = SetsOnce ps

-- nor of any other
abbrev IsNoSet : Put Key → Type 0
IsNoSet (put.Blocked ticket keys dropped) = ⊥
IsNoSet _ = Unit {0}

no_set : (k : ℕ) (p : Put Key) → IsNoSet p → IsNotSet k p
no_set k (put.Blocked ticket keys dropped) h = absurd h
no_set k _ h = tt

no_sets_once : (ps : List (Put Key)) → Each IsNoSet ps → SetsOnce ps
no_sets_once [] h = tt
no_sets_once (put.Blocked ticket keys dropped ∷ ps) h = absurd h.0
no_sets_once (_ ∷ ps) h = no_sets_once ps h.1

then_no_sets : (xs ys : List (Put Key)) → SetsOnce xs → Each IsNoSet ys → SetsOnce (xs ++ ys)
then_no_sets [] ys h none = no_sets_once ys none
then_no_sets (put.Blocked ticket keys dropped ∷ xs) ys h none =
    (Each-append (IsNotSet ticket) xs ys h.0 (Each-weaker IsNoSet (IsNotSet ticket) (no_set ticket) ys none), then_no_sets xs ys h.1 none)
then_no_sets (_ ∷ xs) ys h none = then_no_sets xs ys h none

once_if : (b : Bool) (xs : List (Put Key)) → SetsOnce xs → SetsOnce (cond b xs [])
once_if true xs h = h
once_if false xs h = tt

-- ---- those that rise

others_rise : (waiting : List (Option (List Key))) (k first last : ℕ) (ts : List ℕ) (keys : List Key) → k + 1 ≤ first → Rises first last ts → Each (IsNotSet k) (sets_put waiting ts keys)
others_rise waiting k first last [] keys below h = tt
others_rise waiting k first last (t ∷ ts) keys below h =
    (apart k first t below h.0, others_rise (slice_set waiting t (Some keys)) k (t + 1) last ts keys (more k first t below h.0) h.1)
  where
    apart : (k first t : ℕ) → k + 1 ≤ first → first ≤ t → (t == k) ≡ false
    apart k first t below le = grind (arith, nat_tests)

    more : (k first t : ℕ) → k + 1 ≤ first → first ≤ t → k + 1 ≤ t + 1
    more k first t below le = omega (arith, below, le)

rising_once : (waiting : List (Option (List Key))) (first last : ℕ) (ts : List ℕ) (keys : List Key) → Rises first last ts → SetsOnce (sets_put waiting ts keys)
rising_once waiting first last [] keys h = tt
rising_once waiting first last (t ∷ ts) keys h =
    (others_rise (slice_set waiting t (Some keys)) t (t + 1) last ts keys (same (t + 1)) h.1, rising_once (slice_set waiting t (Some keys)) (t + 1) last ts keys h.1)
  where
    same : (n : ℕ) → n ≤ n
    same n = omega arith

any_ticket : (ts : List ℕ) → Each (λ ticket. Unit {0}) ts
any_ticket [] = tt
any_ticket (t ∷ ts) = (tt, any_ticket ts)

module _ (rules : Rules Key) (updates sets : List ℕ) (waiting : List (Option (List Key))) (heard : Option (List IpAddr)) (runs : ℕ → Bool) (calls : List (Call Key)) (now first last : ℕ) (rises : Rises first last sets) where
  pub unblocked_sets : (c : Call Key) → SetsOnce (unblocked key_cmp rules updates sets waiting heard calls now c)
  unblocked_sets c = rising_once waiting first last sets (blocked_keys key_cmp rules (c ∷ calls) now) rises

  -- what is put for a message
  pub message_sets : (m : Message Key) → SetsOnce (puts_for key_cmp rules updates sets waiting heard runs calls now m)
  message_sets (message.Register index peers) =
      let c = call.Track index peers.primary peers.secondary in
      let killed = killed_keys key_cmp rules index peers.primary peers.secondary calls in
      let kills = kills_of key_cmp rules calls killed in
      let one = heard_put key_cmp rules heard now (c ∷ calls) in
      let told = told_of_sets updates (latest_update key_cmp rules (c ∷ calls)) in
      once_if (is_above index (accepted_sets key_cmp calls)) (registered key_cmp rules updates sets waiting heard calls now c killed)
      (no_sets_once ((kills ++ one) ++ told)
      (Each-append IsNoSet (kills ++ one) told (Each-append IsNoSet kills one (each_kills IsNoSet (λ k conn. tt) rules calls killed) (tt, tt))
      (each_told IsNoSet (λ ticket. Unit {0}) (λ ticket u q. tt) updates (latest_update key_cmp rules (c ∷ calls)) (any_ticket updates))))
  message_sets (message.Overwrite peers) =
      let kills = overwrite_kills key_cmp rules peers calls in
      let others = has_any (overwritten_keys key_cmp rules peers calls) in
      let one = heard_put key_cmp rules heard now (overwritten peers calls) in
      no_sets_once (kills ++ cond others one []) (Each-append IsNoSet kills (cond others one []) (each_overwrite IsNoSet (λ k conn. tt) rules peers calls) (each_if IsNoSet others one (tt, tt)))
  message_sets (message.PeerSet index ticket) = tt
  message_sets (message.Subscribe ticket) =
      no_sets_once (told_of_sets (ticket ∷ []) (latest_update key_cmp rules calls)) (each_told IsNoSet (λ number. Unit {0}) (λ number u q. tt) (ticket ∷ []) (latest_update key_cmp rules calls) (tt, tt))
  message_sets (message.Block k) =
      let c = call.Block k now in
      let new = is_blockable key_cmp rules calls k now in
      let told = sets_put waiting sets (blocked_keys key_cmp rules (c ∷ calls) now) in
      let one = heard_put key_cmp rules heard now (c ∷ calls) in
      let kill = kill_put k (kept_of key_cmp rules calls k) in
      then_no_sets (cond new (told ++ one) []) kill
      (once_if new (told ++ one) (then_no_sets told one (rising_once waiting first last sets (blocked_keys key_cmp rules (c ∷ calls) now) rises) (tt, tt)))
      (each_kill IsNoSet (λ peer conn. tt) k (kept_of key_cmp rules calls k))
  message_sets (message.SubscribeBlocked ticket) = (tt, tt)
  message_sets (message.Connect k conn) = by (accepts key_cmp rules calls k (Some now))
    where
      by : (b : Bool) → SetsOnce (cond b [] (put.Kill k conn ∷ []))
      by true = tt
      by false = tt
  message_sets message.Dialable = tt
  message_sets (message.Dial k) = tt
  message_sets (message.Acceptable k source handshake) = once_if (runs handshake) (put.Acceptable handshake (is_acceptable key_cmp rules calls k source now) ∷ []) tt
  message_sets (message.Listen k source handshake) = once_if (runs handshake) (put.Listen handshake (listen_grant key_cmp rules calls now k source) ∷ []) tt
  message_sets (message.Release m) = tt

-- without the kills of connections that have ended
pub sets-late : (ended : ℕ → Bool) (ps : List (Put Key)) → SetsOnce ps → SetsOnce (without_late ended ps)
sets-late ended [] h = tt
sets-late ended (put.Blocked ticket keys dropped ∷ ps) h = (each-late ended (IsNotSet ticket) ps h.0, sets-late ended ps h.1)
sets-late ended (put.Kill peer conn ∷ ps) h = by (ended conn) (sets-late ended ps h)
  where
    by : (b : Bool) → SetsOnce (without_late ended ps) → SetsOnce (cond b (without_late ended ps) (put.Kill peer conn ∷ without_late ended ps))
    by true rest = rest
    by false rest = rest
sets-late ended (_ ∷ ps) h = sets-late ended ps h

-- ---- the numbers of the subscriptions, those that wait after those that are told

pub rises_longer : (first last : ℕ) (ks : List ℕ) → Rises first last ks → Rises first (last + 1) ks
rises_longer first last [] h = more first last h
  where
    more : (a b : ℕ) → a ≤ b → a ≤ b + 1
    more a b h = omega (arith, h)
rises_longer first last (k ∷ ks) h = (h.0, rises_longer (k + 1) last ks h.1)

-- one more, which is the last
pub rises_more : (first last : ℕ) (ks : List ℕ) → Rises first last ks → Rises first (last + 1) (ks ++ last ∷ [])
rises_more first last [] h = (h, same (last + 1))
  where
    same : (n : ℕ) → n ≤ n
    same n = omega arith
rises_more first last (k ∷ ks) h = (h.0, rises_more (k + 1) last ks h.1)

rises_le : (first last : ℕ) (ks : List ℕ) → Rises first last ks → first ≤ last
rises_le first last [] h = h
rises_le first last (k ∷ ks) h = through first k last h.0 (rises_le (k + 1) last ks h.1)
  where
    through : (a b c : ℕ) → a ≤ b → b + 1 ≤ c → a ≤ c
    through a b c h k = omega (arith, h, k)

-- the first of them
pub rises_first : (first last : ℕ) (ks more : List ℕ) → Rises first last (ks ++ more) → Rises first last ks
rises_first first last [] more h = rises_le first last more h
rises_first first last (k ∷ ks) more h = (h.0, rises_first (k + 1) last ks more h.1)
