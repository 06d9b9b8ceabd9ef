-- A lawful grant is one of a key that isn't held.
use Rattle.std.specs.Prelude.{◌≡◌, ℕ, Bool, true, List, ◌∷◌}
use Rattle.std.specs.declared.cmp.Ordering.{Ordering}
use Rattle.p2p_address.specs.declared.ip.IpAddr.{IpAddr}
use Rattle.p2p_tracker_calls.specs.declared.call.Call.{Call}
use Rattle.p2p_tracker_calls.specs.declared.call.Call.TheVariants as call
use Rattle.p2p_tracker_calls.specs.Rules.{Rules}
use Rattle.p2p_tracker_calls.specs.Allows.{allows_dial, allows_listen}
use Rattle.p2p_tracker_calls.specs.Turns.{grants_none_held}

module _ {P : Type 0} (cmp : P → P → Ordering) where
  -- a dial that is answered as the rules allow
  abbrev pub DialsGrantNoneHeld : Type 0
  DialsGrantNoneHeld = (rules : Rules P) (calls : List (Call P)) (p : P) (at jitter : ℕ) (granted : Bool) → granted ≡ allows_dial cmp rules calls p at
      → grants_none_held cmp calls ≡ true → grants_none_held cmp (call.Dial p at jitter granted ∷ calls) ≡ true

  -- a listen that is answered as the rules allow
  abbrev pub ListensGrantNoneHeld : Type 0
  ListensGrantNoneHeld = (rules : Rules P) (calls : List (Call P)) (p : P) (source : IpAddr) (at jitter : ℕ) (granted : Bool) → granted ≡ allows_listen cmp rules calls p source at
      → grants_none_held cmp calls ≡ true → grants_none_held cmp (call.Listen p at jitter granted ∷ calls) ≡ true
