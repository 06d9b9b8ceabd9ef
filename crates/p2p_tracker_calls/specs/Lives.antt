-- What lasts while a key is tracked or held: its address, and when it was granted last.
use Rattle.std.specs.Prelude.{ℕ, ◌+◌, Bool, true, false, cond, not, ◌&&◌, ◌||◌, nat_eq, List, [], ◌∷◌, Option, Some, None, is_some}
use Rattle.std.specs.Option.{option_or}
use Rattle.std.specs.Cmp.Lexicographic.{pointwise}
use Rattle.std.specs.Map.{lookup}
use Rattle.std.specs.BTreeMap.{is_at}
use Rattle.std.specs.declared.cmp.Ordering.{Ordering}
use Rattle.p2p_address.specs.declared.ip.IpAddr.{IpAddr}
use Rattle.p2p_address.specs.declared.ip.IpAddr.TheVariants.{V4, V6}
use Rattle.p2p_address.specs.declared.ip.SocketAddr.{SocketAddr}
use Rattle.p2p_address.specs.declared.peer.Ingress.{Ingress}
use Rattle.p2p_address.specs.declared.peer.Ingress.TheVariants.{Socket, Dns}
use Rattle.p2p_address.specs.declared.peer.Address.{Address}
use Rattle.p2p_address.specs.declared.peer.Address.TheVariants.{Symmetric, Asymmetric}
use Rattle.p2p_tracker_calls.specs.declared.call.Call.{Call}
use Rattle.p2p_tracker_calls.specs.declared.call.Call.TheVariants as call
use Rattle.p2p_tracker_calls.specs.Rules.{Rules}
use Rattle.p2p_tracker_calls.specs.Sets.{is_above, only_secondary, accepted_sets, is_tracked}
use Rattle.p2p_tracker_calls.specs.Grants.{Grant, grant_by, releases, is_held}
use Rattle.p2p_tracker_calls.specs.Blocks.{is_local, is_blocked}

-- addresses are equal as whole values
abbrev pub same_ip : IpAddr → IpAddr → Bool
same_ip (V4 a) (V4 b) = pointwise nat_eq a b
same_ip (V6 a) (V6 b) = pointwise nat_eq a b
same_ip (V4 a) (V6 b) = false
same_ip (V6 a) (V4 b) = false

abbrev pub same_socket : SocketAddr → SocketAddr → Bool
same_socket a b = same_ip a.ip b.ip && nat_eq a.port b.port

abbrev pub same_ingress : Ingress → Ingress → Bool
same_ingress (Socket a) (Socket b) = same_socket a b
same_ingress (Dns a p) (Dns b q) = pointwise nat_eq a b && nat_eq p q
same_ingress (Socket a) (Dns b q) = false
same_ingress (Dns a p) (Socket b) = false

abbrev pub same_address : Address → Address → Bool
same_address (Symmetric a) (Symmetric b) = same_socket a b
same_address (Asymmetric i a) (Asymmetric j b) = same_ingress i j && same_socket a b
same_address (Symmetric a) (Asymmetric j b) = false
same_address (Asymmetric i a) (Symmetric b) = false

-- an address is given, and it is another than the one before
abbrev pub is_change : Option Address → Option Address → Bool
is_change None before = false
is_change (Some given) None = true
is_change (Some given) (Some before) = not (same_address before given)

module _ {P : Type 0} (cmp : P → P → Ordering) where
  -- the address that a call gives the key, after the calls before it: the primary one where it has both roles
  abbrev pub given_by : Call P → List (Call P) → P → Option Address
  given_by (call.Track index primary secondary) calls q = cond (is_above index (accepted_sets cmp calls))
      (option_or (lookup (λ p. is_at (cmp p) q) primary) (lookup (λ p. is_at (cmp p) q) (only_secondary cmp primary secondary))) None
  given_by (call.Overwrite p address) calls q = cond (is_at (cmp p) q) (Some address) None
  given_by _ calls q = None

module _ {P : Type 0} (cmp : P → P → Ordering) (rules : Rules P) where
  -- the key is tracked or held: its life goes on
  abbrev pub is_alive : List (Call P) → P → Bool
  is_alive calls q = is_tracked cmp rules calls q || is_held cmp calls q

module _ {P : Type 0} (cmp : P → P → Ordering) (rules : Rules P) where
  -- the last address that a call of the key's life gave it. The own key has none
  unfoldable pub address_of : List (Call P) → P → Option Address
  address_of [] q = None
  address_of (c ∷ calls) q = cond (is_alive cmp rules (c ∷ calls) q && not (is_local cmp rules q)) (option_or (given_by cmp c calls q) (address_of calls q)) None

  -- the last grant of the key's life
  unfoldable pub last_grant : List (Call P) → P → Option Grant
  last_grant [] q = None
  last_grant (c ∷ calls) q = cond (is_alive cmp rules (c ∷ calls) q) (option_or (grant_by cmp c q) (last_grant calls q)) None

  -- a call since the grant that holds the key changed its address
  unfoldable pub is_stale : List (Call P) → P → Bool
  is_stale [] q = false
  is_stale (c ∷ calls) q = cond (is_some (grant_by cmp c q) || releases cmp c q) false
      ((is_change (given_by cmp c calls q) (address_of calls q) && is_held cmp calls q) || is_stale calls q)

-- the moment of a grant and a wait after it
abbrev pub cool_after : ℕ → Option Grant → ℕ
cool_after cooldown None = 0
cool_after cooldown (Some g) = g.0 + cooldown

-- that and the grant's jitter
abbrev pub next_after : ℕ → Option Grant → ℕ
next_after cooldown None = 0
next_after cooldown (Some g) = g.0 + cooldown + g.1

module _ {P : Type 0} (cmp : P → P → Ordering) (rules : Rules P) where
  -- from which moment the key may be granted again
  abbrev pub cool : List (Call P) → P → ℕ
  cool calls q = cool_after rules.cooldown (last_grant cmp rules calls q)

  -- from which moment it is listed for a dial
  abbrev pub next_dial : List (Call P) → P → ℕ
  next_dial calls q = next_after rules.cooldown (last_grant cmp rules calls q)

  -- the key is another's, tracked and not blocked
  abbrev pub is_eligible : List (Call P) → P → ℕ → Bool
  is_eligible calls q t = not (is_local cmp rules q) && is_tracked cmp rules calls q && not (is_blocked cmp rules calls q t)

module _ {P : Type 0} (cmp : P → P → Ordering) (rules : Rules P) where
  -- a connect at a moment is accepted where the key is eligible then; one without a moment needs no eligible key. A stale key's never is
  abbrev pub accepts : List (Call P) → P → Option ℕ → Bool
  accepts calls q None = not (is_stale cmp rules calls q)
  accepts calls q (Some t) = is_eligible cmp rules calls q t && not (is_stale cmp rules calls q)

  abbrev pub connects : Call P → List (Call P) → P → Bool
  connects (call.Connect p at conn) calls q = is_at (cmp p) q && accepts calls q at
  connects _ calls q = false

module _ {P : Type 0} (cmp : P → P → Ordering) (rules : Rules P) where
  -- a connect of the key was accepted since its last grant
  unfoldable pub is_connected : List (Call P) → P → Bool
  is_connected [] q = false
  is_connected (c ∷ calls) q = cond (is_some (grant_by cmp c q)) false (connects cmp rules c calls q || is_connected calls q)

-- the address that is known is another than the one given
abbrev pub is_other_than : Option Address → Address → Bool
is_other_than None given = false
is_other_than (Some before) given = not (same_address before given)

module _ {P : Type 0} (cmp : P → P → Ordering) (rules : Rules P) where
  -- an overwrite changes the key's address
  abbrev pub is_overwritten : List (Call P) → P → Address → Bool
  is_overwritten calls q given = not (is_local cmp rules q) && is_other_than (address_of cmp rules calls q) given
