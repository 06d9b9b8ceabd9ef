-- What a step answers is what the calls tell, where equal keys are one.
use Rattle.std.proofs.Common.{◌≡◌, ℕ, Bool, true, false, cond, List, [], ◌∷◌, ◌++◌, Option, Some, None, refl, sym, ap, ◌∙◌}
use Rattle.std.proofs.lemmas.Bool.{false≢true}
use Rattle.std.specs.Prelude.{is_some, slice_index_or}
use Rattle.std.specs.Cmp.{IsTotalOrder}
use Rattle.std.specs.List.{filter}
use Rattle.std.specs.List.Sorted.{IsStrictlySortedBy}
use Rattle.std.specs.Map.{lookup, keys_of}
use Rattle.std.specs.BTreeMap.{is_at}
use Rattle.std.specs.declared.cmp.Ordering.{Ordering}
use Rattle.p2p_address.specs.declared.ip.IpAddr.{IpAddr}
use Rattle.p2p_flow.specs.declared.tracked.TrackedPeers.{TrackedPeers}
use Rattle.p2p_flow.specs.declared.update.PeerSetUpdate.{PeerSetUpdate}
use Rattle.p2p_tracker_calls.specs.declared.call.Call.{Call}
use Rattle.p2p_tracker_calls.specs.declared.call.Call.TheVariants as call
use Rattle.p2p_tracker_calls.specs.BlockedKeys.{blocked_keys, due_keys}
use Rattle.p2p_tracker_calls.specs.Blocks.{is_over, block_of, is_blockable}
use Rattle.p2p_tracker_calls.specs.Heard.{heard_addresses}
use Rattle.p2p_tracker_calls.specs.Kills.{killed_keys}
use Rattle.p2p_tracker_calls.specs.Named.{named_keys, EqualKeysAreOne}
use Rattle.p2p_tracker_calls.specs.Overwrites.{overwritten_keys}
use Rattle.p2p_tracker_calls.specs.Peers.{latest_update}
use Rattle.p2p_tracker_calls.specs.Rules.{Rules}
use Rattle.p2p_tracker_calls.specs.Sets.{is_above, is_among, accepted_sets}
use Rattle.p2p_tracker_calls.proofs.Named.{among-where}
use Rattle.p2p_tracker_calls.proofs.Naming.{due-named}
use Rattle.p2p_tracker_directory.specs.Stands.{StandsFor}
use Rattle.p2p_tracker_directory.specs.Told.{blocked_in, addresses_in, update_in}
use Rattle.p2p_tracker_directory.specs.declared.directory.dials.Dialable.{Dialable}
use Rattle.p2p_tracker_directory.proofs.Exact.{both-parts, blocked-exact, peer_set-exact, update-exact, dialable-exact, query-exact, addresses-exact}
use Rattle.p2p_tracker_mailbox.specs.declared.message.Message.{Message}
use Rattle.p2p_tracker_mailbox.specs.declared.message.Message.TheVariants as message
use Rattle.p2p_tracker.specs.Following.{Follows}
use Rattle.p2p_tracker.specs.Putting.{kills_of, overwrite_kills, IsPut, IsPutBy}
use Rattle.p2p_tracker.specs.Serving.{IsQuiet, ends, serves, calls_after, calls_by}
use Rattle.p2p_tracker.specs.Steps.{puts_for, stepped_of}
use Rattle.p2p_tracker.specs.Telling.{kill_put, told_of_sets, sets_put, has_any}
use Rattle.p2p_tracker.specs.Tracking.{Tracking}
use Rattle.p2p_tracker.specs.declared.stepped.Put.{Put}
use Rattle.p2p_tracker.specs.declared.stepped.Put.TheVariants as puts
use Rattle.p2p_tracker.specs.declared.stepped.Stepped.{Stepped}
use Rattle.p2p_tracker.specs.declared.stepped.Stepped.TheVariants as stepped
use Rattle.p2p_tracker.proofs.Told.{unless, when}

none-pass : {X : Type 0} (test : X → Bool) → ((x : X) → test x ≡ false) → (xs : List X) → has_any (filter test xs) ≡ false
none-pass test h [] = refl
none-pass test h (x ∷ xs) = ap (λ b. has_any (cond b (x ∷ filter test xs) (filter test xs))) (h x) ∙ none-pass test h xs

any-there : {P : Type 0} (cmp : P → P → Ordering) (q : P) (ks : List P) → is_among cmp ks q ≡ true → has_any ks ≡ true
any-there cmp q [] h = h
any-there cmp q (k ∷ ks) h = refl

module _ {P : Type 0} {cmp : P → P → Ordering} (o : IsTotalOrder cmp) (one : EqualKeysAreOne cmp) (before after : Tracking P) (waiting : List (Option (List P))) (heard : Option (List IpAddr)) (runs : ℕ → Bool) (now jitter : ℕ)
    (calls : List (Call P)) (f : Follows cmp before.directory before.controls calls) (rules : after.directory.rules ≡ before.directory.rules)
    (ordered : IsStrictlySortedBy cmp (keys_of before.directory.records)) (ordered_after : IsStrictlySortedBy cmp (keys_of after.directory.records)) where
  heard-after : (cs : List (Call P)) → StandsFor cmp after.directory cs → addresses_in cmp after.directory now ≡ heard_addresses cmp before.directory.rules cs now
  heard-after cs s = addresses-exact o one s ordered_after now ∙ ap (λ (r : Rules P). heard_addresses cmp r cs now) rules

  update-after : (cs : List (Call P)) → StandsFor cmp after.directory cs → update_in cmp after.directory ≡ latest_update cmp before.directory.rules cs
  update-after cs s = update-exact o one s ordered_after ∙ ap (λ (r : Rules P). latest_update cmp r cs) rules

  blocked-after : (cs : List (Call P)) → StandsFor cmp after.directory cs → blocked_in cmp after.directory now ≡ blocked_keys cmp before.directory.rules cs now
  blocked-after cs s = blocked-exact o one s now ∙ ap (λ (r : Rules P). blocked_keys cmp r cs now) rules

  -- what is put for a message
  exact-puts : (m : Message P) (p : List (Put P)) → IsPut cmp before after waiting heard runs now m p → StandsFor cmp after.directory (calls_after cmp before.directory.rules m now jitter calls)
      → p ≡ puts_for cmp before.directory.rules before.updates before.sets waiting heard runs calls now m
  exact-puts (message.Register index peers) p h s =
      let With : List IpAddr → Option (PeerSetUpdate P) → List (Put P) = λ ips u. cond (is_above index (accepted_sets cmp calls))
      ((kills_of cmp before.directory.rules calls (killed_keys cmp before.directory.rules index peers.primary peers.secondary calls) ++ puts.Listenable ips heard ∷ []) ++ told_of_sets before.updates u) [] in
      h calls f one ∙ both-parts With _ _ _ _ (heard-after (call.Track index peers.primary peers.secondary ∷ calls) s) (update-after (call.Track index peers.primary peers.secondary ∷ calls) s)
  exact-puts (message.Overwrite peers) p h s =
      let With : List IpAddr → List (Put P) = λ ips. overwrite_kills cmp before.directory.rules peers calls
      ++ cond (has_any (overwritten_keys cmp before.directory.rules peers calls)) (puts.Listenable ips heard ∷ []) [] in
      h calls f ∙ ap With (heard-after (calls_after cmp before.directory.rules (message.Overwrite peers) now jitter calls) s)
  exact-puts (message.PeerSet index ticket) p h s =
      let With : Option (TrackedPeers P) → List (Put P) = λ x. puts.PeerSet ticket x ∷ [] in
      h ∙ ap With (peer_set-exact o one f.stands index)
  exact-puts (message.Subscribe ticket) p h s =
      let With : Option (PeerSetUpdate P) → List (Put P) = λ u. told_of_sets (ticket ∷ []) u in
      h ∙ ap With (update-exact o one f.stands ordered)
  exact-puts (message.Block k) p h s =
      let With : List IpAddr → List P → Option ℕ → List (Put P) = λ ips bs x. cond (is_blockable cmp before.directory.rules calls k now) (sets_put waiting before.sets bs ++ puts.Listenable ips heard ∷ []) [] ++ kill_put k x in
      h calls f ∙ (both-parts (λ ips bs. With ips bs (lookup (is_at (cmp k)) before.controls)) _ _ _ _ (heard-after (call.Block k now ∷ calls) s) (blocked-after (call.Block k now ∷ calls) s)
      ∙ ap (λ (x : Option ℕ). With (heard_addresses cmp before.directory.rules (call.Block k now ∷ calls) now) (blocked_keys cmp before.directory.rules (call.Block k now ∷ calls) now) x) (f.exactly k))
  exact-puts (message.SubscribeBlocked ticket) p h s =
      let With : List P → List (Put P) = λ bs. puts.Blocked ticket bs (slice_index_or waiting ticket None) ∷ [] in
      h ∙ ap With (blocked-exact o one f.stands now)
  exact-puts (message.Connect k conn) p h s = h calls f
  exact-puts message.Dialable p h s =
      let With : List P → Option ℕ → List (Put P) = λ ks n. let list : Dialable P = record { peers = ks; next_query_at = n } in puts.Dialable list ∷ [] in
      h ∙ both-parts With _ _ _ _ (dialable-exact o one f.stands ordered now) (query-exact o one f.stands ordered now)
  exact-puts (message.Dial k) p h s = h calls f
  exact-puts (message.Acceptable k source handshake) p h s = h calls f
  exact-puts (message.Listen k source handshake) p h s = h calls f
  exact-puts (message.Release m) p h s = h

  due-some : (q : P) → is_over (block_of cmp before.directory.rules calls q) now ≡ true → has_any (due_keys cmp before.directory.rules calls now) ≡ true
  due-some q h =
      any-there cmp q (due_keys cmp before.directory.rules calls now)
      (among-where o one (λ x. is_over (block_of cmp before.directory.rules calls x) now) calls q (due-named cmp before.directory.rules q calls now) ∙ h)

  due-none : IsQuiet cmp before.directory.rules calls now → has_any (due_keys cmp before.directory.rules calls now) ≡ false
  due-none h = none-pass (λ x. is_over (block_of cmp before.directory.rules calls x) now) h (named_keys cmp calls)

  pub exact-step : (s : Stepped P) (m : Option (Message P)) → IsPutBy cmp before after waiting heard runs now s m → StandsFor cmp after.directory (calls_by cmp before.directory.rules s m now jitter calls)
      → (ends s ≡ true → (q : P) × (is_over (block_of cmp before.directory.rules calls q) now ≡ true)) → (ends s ≡ false → IsQuiet cmp before.directory.rules calls now)
      → (ends s ≡ false → serves s ≡ is_some m) → s ≡ stepped_of cmp before.directory.rules before.updates before.sets waiting heard runs calls now m
  exact-step stepped.Idle m h s due quiet served =
      let With : Option (Message P) → Stepped P = stepped_of cmp before.directory.rules before.updates before.sets waiting heard runs calls now in
      unless (has_any (due_keys cmp before.directory.rules calls now)) _ stepped.Idle (due-none (quiet refl)) ∙ ap With (sym h)
  exact-step (stepped.EndedBlocks p) m h s due quiet served =
      let With : List IpAddr → List P → Stepped P = λ ips bs. stepped.EndedBlocks (puts.Listenable ips heard ∷ sets_put waiting before.sets bs) in
      let found = due refl in
      ap (λ (x : List (Put P)). let y : Stepped P = stepped.EndedBlocks x in y) h
      ∙ (both-parts With _ _ _ _ (heard-after (call.UnblockExpired now ∷ calls) s) (blocked-after (call.UnblockExpired now ∷ calls) s)
      ∙ when (has_any (due_keys cmp before.directory.rules calls now)) _ _ (due-some found.0 found.1))
  exact-step (stepped.Message p) None h s due quiet served = absurd (false≢true (sym (served refl)))
  exact-step (stepped.Message p) (Some m) h s due quiet served =
      ap (λ (x : List (Put P)). let y : Stepped P = stepped.Message x in y) (exact-puts m p h s)
      ∙ unless (has_any (due_keys cmp before.directory.rules calls now)) _ _ (due-none (quiet refl))
