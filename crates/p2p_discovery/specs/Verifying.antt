-- What is believed of where peers are dialed.
use Rattle.std.specs.Prelude.{◌≡◌, ◌≢◌, ℕ, ◌+◌, ◌*◌, Bool, List, [], ◌∷◌, ◌++◌, length, Option, Some, None, Result, Ok, Err, nat_lt, if◌then◌else◌}
use Rattle.std.specs.Option.{option_or}
use Rattle.p2p_discovery.specs.declared.info.Info.{Info}
use Rattle.p2p_discovery.specs.Spelling.{signed_bytes}
use Rattle.p2p_discovery.specs.declared.types.error.Error.{Error}
use Rattle.p2p_discovery.specs.declared.types.error.Error.TheVariants.{TooManyPeers, ReceivedSelf, SynchronyBound, InvalidSignature, Memory}

-- the own peer, how many infos there are at most, how many nanoseconds they may be ahead, and the network's namespace
pub record Believed (P : Type 0) : Type 0 where
  pub me : P
  pub max_count : ℕ
  pub bound : ℕ
  pub namespace : List ℕ

-- the namespace under which infos are signed: that of the network, and then `_TRACKER_IP`
abbrev pub namespace_of : List ℕ → List ℕ
namespace_of network = network ++ (95 ∷ 84 ∷ 82 ∷ 65 ∷ 67 ∷ 75 ∷ 69 ∷ 82 ∷ 95 ∷ 73 ∷ 80 ∷ [])

-- What is answered is the fault, or that there is none, unless memory ran out.
abbrev pub Answers : {A : Type 0} → Result A Error → Option Error → Type 0
Answers (Ok x) fault = fault ≡ None
Answers (Err e) fault = e ≢ Memory → fault ≡ Some e

module _ {P : Type 0} (eq : P → P → Bool) (b : Believed P) (accepts : P → List ℕ → List ℕ → List ℕ → Bool) (now : ℕ) where
  -- why an info isn't believed at a moment in nanoseconds: the first of these that fits. Its own moment is in milliseconds
  abbrev pub info_fault : Info P → Option Error
  info_fault i =
      if eq i.public_key b.me then Some ReceivedSelf
      else if nat_lt (now + b.bound) (i.timestamp * 1000000) then Some SynchronyBound
      else if accepts i.public_key (namespace_of b.namespace) (signed_bytes i.ingress i.timestamp) i.signature then None
      else Some InvalidSignature

  -- why the first that isn't believed isn't
  unfoldable pub first_fault : List (Info P) → Option Error
  first_fault [] = None
  first_fault (i ∷ infos) = option_or (info_fault i) (first_fault infos)

  abbrev pub infos_fault : List (Info P) → Option Error
  infos_fault infos = if nat_lt b.max_count (length infos) then Some (TooManyPeers (length infos)) else first_fault infos
