-- The tests of a directory, by the calls that it stands for.
use Rattle.std.proofs.Common.{◌≡◌, Bool, true, false, cond, ◌&&◌, not, List, [], Option, Some, None, refl, sym, ap, ◌∙◌}
use Rattle.std.proofs.lemmas.Bool.{or_parts}
use Rattle.std.specs.Prelude.{is_some}
use Rattle.std.specs.Option.{option_map}
use Rattle.std.specs.declared.cmp.Ordering.{Ordering}
use Rattle.p2p_address.specs.declared.peer.Address.{Address as PeerAddress}
use Rattle.p2p_tracker_calls.specs.declared.call.Call.{Call}
use Rattle.p2p_tracker_calls.specs.Blocks.{is_local}
use Rattle.p2p_tracker_calls.specs.Grants.{is_held}
use Rattle.p2p_tracker_calls.specs.Lives.{address_of, is_connected}
use Rattle.p2p_tracker_calls.specs.Rules.{Rules}
use Rattle.p2p_tracker_calls.specs.Sets.{is_tracked}
use Rattle.p2p_tracker_directory.specs.Recorded.{Recorded, is_inert, is_reserved, is_reserved_in}
use Rattle.p2p_tracker_directory.specs.Stands.{Kept, StandsFor, record_of, own_record, peer_record, status_of}
use Rattle.p2p_discovery_directory.specs.Tests.{is_held_in, holds, reserves}

held_status : (held connected : Bool) → not (is_inert (status_of held connected)) ≡ held
held_status true true = refl
held_status true false = refl
held_status false connected = refl

reserved_status : (held connected : Bool) → is_reserved (status_of held connected) ≡ (held && not connected)
reserved_status true true = refl
reserved_status true false = refl
reserved_status false connected = refl

held_found : (local : Bool) (own : Recorded) (f : PeerAddress → Recorded) (a : Option PeerAddress) (held : Bool) → is_inert own.status ≡ true → ((x : PeerAddress) → not (is_inert (f x).status) ≡ held)
    → (local ≡ false → is_some a ≡ false → held ≡ false) → is_held_in (cond local (Some own) (option_map f a)) ≡ (not local && held)
held_found true own f a held inert others none = ap not inert
held_found false own f None held inert others none = sym (none refl refl)
held_found false own f (Some x) held inert others none = others x

reserved_found : (local : Bool) (own : Recorded) (f : PeerAddress → Recorded) (a : Option PeerAddress) (waits : Bool) → is_reserved own.status ≡ false → ((x : PeerAddress) → is_reserved (f x).status ≡ waits)
    → (local ≡ false → is_some a ≡ false → waits ≡ false) → is_reserved_in (cond local (Some own) (option_map f a)) ≡ (not local && waits)
reserved_found true own f a waits inert others none = inert
reserved_found false own f None waits inert others none = sym (none refl refl)
reserved_found false own f (Some x) waits inert others none = others x

module _ {P : Type 0} {cmp : P → P → Ordering} {kept : Kept P} {calls : List (Call P)} (s : StandsFor cmp kept calls) where
  unheld : (q : P) → is_local cmp kept.rules q ≡ false → is_some (address_of cmp kept.rules calls q) ≡ false → is_held cmp calls q ≡ false
  unheld q other none = (or_parts (is_tracked cmp kept.rules calls q) (is_held cmp calls q) (s.addressed q other ∙ none)).1

  -- another's key is held exactly where the calls hold it
  pub held-known : (q : P) → holds cmp kept q ≡ (not (is_local cmp kept.rules q) && is_held cmp calls q)
  unfolding record_of
  held-known q =
      ap is_held_in (s.records q) ∙ held_found (is_local cmp kept.rules q) (own_record cmp kept.rules calls q) (peer_record cmp kept.rules calls q) (address_of cmp kept.rules calls q)
      (is_held cmp calls q) refl (λ x. held_status (is_held cmp calls q) (is_connected cmp kept.rules calls q)) (λ other none. unheld q other none)

  -- and reserved where no connection began since
  pub reserved-known : (q : P) → reserves cmp kept q ≡ (not (is_local cmp kept.rules q) && (is_held cmp calls q && not (is_connected cmp kept.rules calls q)))
  unfolding record_of
  reserved-known q =
      ap is_reserved_in (s.records q) ∙ reserved_found (is_local cmp kept.rules q) (own_record cmp kept.rules calls q) (peer_record cmp kept.rules calls q) (address_of cmp kept.rules calls q)
      (is_held cmp calls q && not (is_connected cmp kept.rules calls q)) refl (λ x. reserved_status (is_held cmp calls q) (is_connected cmp kept.rules calls q))
      (λ other none. ap (λ h. h && not (is_connected cmp kept.rules calls q)) (unheld q other none))

  -- the same where the rules and what the calls hold are known
  pub held-by : (rules : Rules P) (q : P) (held : Bool) → kept.rules ≡ rules → is_held cmp calls q ≡ held → holds cmp kept q ≡ (not (is_local cmp rules q) && held)
  held-by rules q held e h = held-known q ∙ ap (λ r. not (is_local cmp r q) && is_held cmp calls q) e ∙ ap (λ b. not (is_local cmp rules q) && b) h

  pub reserved-by : (rules : Rules P) (q : P) (waits : Bool) → kept.rules ≡ rules → (is_held cmp calls q && not (is_connected cmp rules calls q)) ≡ waits
      → reserves cmp kept q ≡ (not (is_local cmp rules q) && waits)
  reserved-by rules q waits e h =
      reserved-known q ∙ ap (λ r. not (is_local cmp r q) && (is_held cmp calls q && not (is_connected cmp r calls q))) e ∙ ap (λ b. not (is_local cmp rules q) && b) h

and_false : (b : Bool) → (b && false) ≡ false
and_false true = refl
and_false false = refl

-- before the first call nobody is held
pub held-first : {P : Type 0} {cmp : P → P → Ordering} {kept : Kept P} → StandsFor cmp kept [] → (q : P) → holds cmp kept q ≡ false
unfolding is_held
held-first {cmp = cmp} {kept = kept} s q = held-by s kept.rules q false refl refl ∙ and_false (not (is_local cmp kept.rules q))
