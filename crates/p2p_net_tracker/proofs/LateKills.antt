-- The kills of connections that have ended, left out of what a tracker put: neither its mailbox nor its grants change by that.
use Rattle.std.proofs.Common.{◌≡◌, ℕ, Bool, true, false, cond, List, [], ◌∷◌, refl, ap, ◌∙◌, inl, inr}
use Rattle.std.specs.Prelude.{not, ◌||◌}
use Rattle.std.specs.List.{list_any, AllByRecursion as Each}
use Rattle.p2p_base.specs.declared.key.Key.{Key}
use Rattle.p2p_tracker_calls.specs.declared.call.Call.{Call}
use Rattle.p2p_tracker_calls.specs.BlockedKeys.{blocked_keys}
use Rattle.p2p_tracker_calls.specs.Rules.{Rules}
use Rattle.p2p_tracker_mailbox.specs.declared.mailbox.Mailbox.{Mailbox}
use Rattle.p2p_tracker.specs.Telling.{after_put, after_puts}
use Rattle.p2p_tracker.specs.declared.stepped.Put.{Put}
use Rattle.p2p_tracker.specs.declared.stepped.Put.TheVariants as put
use Rattle.p2p_log.specs.declared.queue.Queue.TheVariants as queue
use Rattle.p2p_log.specs.declared.item.Item.TheVariants as item
use Rattle.p2p_log_rules.specs.Tracking.{key_cmp, grants_peer}
use Rattle.p2p_log_rules.specs.TrackerPuts as puts
use Rattle.p2p_log_rules.specs.TrackerPuts.{kills_ended, heeded}
use Rattle.p2p_net_tracker.specs.declared.naming.Tickets.{Tickets}
use Rattle.p2p_net_tracker.specs.Naming.{named_put, before, named_puts}
use Rattle.p2p_net_tracker.proofs.Hearing.{IsAside, HearsOnce, IsFor, TellsFew}

-- whether it kills a connection that has ended
abbrev is_late : (ℕ → Bool) → Put Key → Bool
is_late ended (put.Kill peer conn) = ended conn
is_late ended _ = false

-- what the tracker put, but for those kills
abbrev pub without_late : (ℕ → Bool) → List (Put Key) → List (Put Key)
without_late ended [] = []
without_late ended (p ∷ ps) = cond (is_late ended p) (without_late ended ps) (p ∷ without_late ended ps)

-- by two tests that agree
pub heeded-same : (f g : ℕ → Bool) → ((conn : ℕ) → f conn ≡ g conn) → (xs : List puts.Put) → heeded f xs ≡ heeded g xs
heeded-same f g same [] = refl
heeded-same f g same (x ∷ xs) =
    ap (λ l. cond (not (kills_ended f x)) (x ∷ l) l) (heeded-same f g same xs) ∙ ap (λ b. cond (not b) (x ∷ heeded g xs) (heeded g xs)) (one x)
  where
    one : (x : puts.Put) → kills_ended f x ≡ kills_ended g x
    one (queue.Control n conn, item.Kill) = same conn
    one _ = refl

module _ (ended : ℕ → Bool) where
  -- as items in queues
  pub named-late : (n : ℕ) (t : Tickets) (ps : List (Put Key)) → named_puts n t (without_late ended ps) ≡ heeded ended (named_puts n t ps)
  named-late n t [] = refl
  named-late n t (put.Kill peer conn ∷ ps) = by (ended conn) (named-late n t ps)
    where
      by : (b : Bool) → named_puts n t (without_late ended ps) ≡ heeded ended (named_puts n t ps)
          → named_puts n t (cond b (without_late ended ps) (put.Kill peer conn ∷ without_late ended ps))
          ≡ cond (not b) ((queue.Control n conn, item.Kill) ∷ heeded ended (named_puts n t ps)) (heeded ended (named_puts n t ps))
      by true rest = rest
      by false rest = ap (λ l. (queue.Control n conn, item.Kill) ∷ l) rest
  named-late n t (p ∷ ps) = ap (before (named_put n t p)) (named-late n t ps)

  -- the mailbox
  pub mailbox-late : (ps : List (Put Key)) (m : Mailbox Key) → after_puts (without_late ended ps) m ≡ after_puts ps m
  mailbox-late [] m = refl
  mailbox-late (put.Kill peer conn ∷ ps) m = by (ended conn) (mailbox-late ps m)
    where
      by : (b : Bool) → after_puts (without_late ended ps) m ≡ after_puts ps m → after_puts (cond b (without_late ended ps) (put.Kill peer conn ∷ without_late ended ps)) m ≡ after_puts ps m
      by true rest = rest
      by false rest = rest
  mailbox-late (p ∷ ps) m = mailbox-late ps (after_put p m)

  -- what holds of each
  pub each-late : (P : Put Key → Type 0) (ps : List (Put Key)) → Each P ps → Each P (without_late ended ps)
  each-late P [] h = tt
  each-late P (p ∷ ps) h = by (is_late ended p) (each-late P ps h.1)
    where
      by : (b : Bool) → Each P (without_late ended ps) → Each P (cond b (without_late ended ps) (p ∷ without_late ended ps))
      by true rest = rest
      by false rest = (h.0, rest)

  -- whom it tells
  once-late : (ps : List (Put Key)) → HearsOnce ps → HearsOnce (without_late ended ps)
  once-late [] h = tt
  once-late (put.Listenable addresses dropped ∷ ps) h = each-late IsAside ps h
  once-late (put.Acceptable handshake acceptable ∷ ps) h = absurd h
  once-late (put.Listen handshake grant ∷ ps) h = absurd h
  once-late (put.Dial grant ∷ ps) h = (h.0, once-late ps h.1)
  once-late (put.Kill peer conn ∷ ps) h = by (ended conn) (once-late ps h)
    where
      by : (b : Bool) → HearsOnce (without_late ended ps) → HearsOnce (cond b (without_late ended ps) (put.Kill peer conn ∷ without_late ended ps))
      by true rest = rest
      by false rest = rest
  once-late (_ ∷ ps) h = once-late ps h

  pub few-late : (runs : ℕ → Bool) (ps : List (Put Key)) → TellsFew runs ps → TellsFew runs (without_late ended ps)
  few-late runs ps few = elim few [ inl once ↦ inl (once-late ps once) | inr one ↦ inr (one.0, one.1, one.2, ap (without_late ended) one.3 ∙ by (runs one.0) one.0 one.1 one.2) ]
    where
      by : (b : Bool) (h : ℕ) (p : Put Key) → IsFor h p → without_late ended (cond b (p ∷ []) []) ≡ cond b (p ∷ []) []
      by false h p is = refl
      by true h (put.Acceptable g b) is = refl
      by true h (put.Listen g grant) is = refl
      by true h _ is = absurd is

  -- a kill grants nobody
  pub grants-late : (xs : List puts.Put) → list_any grants_peer (heeded ended xs) ≡ list_any grants_peer xs
  grants-late [] = refl
  grants-late ((queue.Control n conn, item.Kill) ∷ xs) = by (ended conn) (grants-late xs)
    where
      by : (b : Bool) → list_any grants_peer (heeded ended xs) ≡ list_any grants_peer xs → list_any grants_peer (cond (not b) ((queue.Control n conn, item.Kill) ∷ heeded ended xs) (heeded ended xs)) ≡ list_any grants_peer xs
      by true rest = rest
      by false rest = rest
  grants-late (x ∷ xs) = ap (λ b. grants_peer x || b) (grants-late xs)

  -- blocks that end kill nobody
  pub unblocked-late : (rules : Rules Key) (n at : ℕ) (us bs : List ℕ) (calls : List (Call Key)) (c : Call Key) → heeded ended (puts.unblocked_puts rules n at us bs calls c) ≡ puts.unblocked_puts rules n at us bs calls c
  unblocked-late rules n at us bs calls c = ap (λ l. puts.heard_put rules n at (c ∷ calls) ∷ l) (sets bs)
    where
      keys : List Key
      keys = blocked_keys key_cmp rules (c ∷ calls) at

      sets : (es : List ℕ) → heeded ended (puts.set_puts n es keys) ≡ puts.set_puts n es keys
      sets [] = refl
      sets (e ∷ es) = ap (λ l. (queue.Blocked n e, item.Blocked keys) ∷ l) (sets es)
