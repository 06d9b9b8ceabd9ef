-- The facts on short lists of calls, newest first. The own key is 0.
use Rattle.std.proofs.Common.{◌≡◌, ℕ, true, false, List, [], ◌∷◌, Some, refl}
use Rattle.std.specs.Ordering.{nat_cmp}
use Rattle.p2p_address.specs.declared.ip.IpAddr.{IpAddr}
use Rattle.p2p_address.specs.declared.ip.IpAddr.TheVariants.{V4}
use Rattle.p2p_address.specs.declared.peer.Address.{Address}
use Rattle.p2p_address.specs.declared.peer.Address.TheVariants.{Symmetric}
use Rattle.p2p_tracker_calls.specs.declared.call.Call.{Call}
use Rattle.p2p_tracker_calls.specs.declared.call.Call.TheVariants as call
use Rattle.p2p_tracker_calls.specs.Rules.{Rules}
use Rattle.p2p_tracker_calls.specs.Sets.{accepted_sets, kept_sets, is_tracked, is_primary}
use Rattle.p2p_tracker_calls.specs.Grants.{is_held}
use Rattle.p2p_tracker_calls.specs.Blocks.{block_of, is_blocked}
use Rattle.p2p_tracker_calls.specs.Lives.{address_of, last_grant, is_stale, next_dial}
use Rattle.p2p_tracker_calls.specs.Turns.{turns_of}
use Rattle.p2p_tracker_calls.specs.Keeping.{kept_of, is_kept}
use Rattle.p2p_tracker_calls.specs.Allows.{allows_dial, allows_listen, is_acceptable}

keeping : ℕ → Rules ℕ
keeping sets = record { local = 0; max_sets = sets; cooldown = 1000000000; block_duration = 5; private = true; dns = false; bypass = false }

here : IpAddr
here = V4 (10 ∷ 0 ∷ 0 ∷ 7 ∷ [])

there : IpAddr
there = V4 (10 ∷ 0 ∷ 0 ∷ 8 ∷ [])

address : IpAddr → Address
address ip = Symmetric (record { ip = ip; port = 80 })

set : ℕ → ℕ → Call ℕ
set index key = call.Track index ((key, address here) ∷ []) []

-- a key in sets 0 and 1 keeps its record: it waits for a second after its grant
twice : List (Call ℕ)
twice = set 1 7 ∷ call.Release 7 ∷ call.Dial 7 0 3 true ∷ set 0 7 ∷ []

early : allows_dial nat_cmp (keeping 2) twice 7 999999999 ≡ false
unfolding keeping here address set twice accepted_sets kept_sets is_tracked is_primary is_held block_of address_of last_grant is_stale
early = refl

due : allows_dial nat_cmp (keeping 2) twice 7 1000000000 ≡ true
unfolding keeping here address set twice accepted_sets kept_sets is_tracked is_primary is_held block_of address_of last_grant is_stale
due = refl

listed : next_dial nat_cmp (keeping 2) twice 7 ≡ 1000000003
unfolding keeping here address set twice accepted_sets kept_sets is_tracked is_primary is_held block_of address_of last_grant is_stale
listed = refl

-- a key in sets 0 and 2 but not 1, of which one is kept, begins anew
anew : List (Call ℕ)
anew = set 2 7 ∷ set 1 8 ∷ call.Release 7 ∷ call.Dial 7 0 3 true ∷ set 0 7 ∷ []

at_once : allows_dial nat_cmp (keeping 1) anew 7 1 ≡ true
unfolding keeping here address set anew accepted_sets kept_sets is_tracked is_primary is_held block_of address_of last_grant is_stale
at_once = refl

-- an address that changes and changes back leaves the held key stale
flap : List (Call ℕ)
flap = call.Overwrite 7 (address here) ∷ call.Overwrite 7 (address there) ∷ call.Dial 7 0 3 true ∷ set 0 7 ∷ []

marked : is_stale nat_cmp (keeping 2) flap 7 ≡ true
unfolding keeping here there address set flap accepted_sets kept_sets is_tracked is_primary is_held block_of address_of last_grant is_stale
marked = refl

-- a block ends at its moment, and outlives its key
blocked : List (Call ℕ)
blocked = call.Block 7 10 ∷ []

before_end : is_blocked nat_cmp (keeping 2) blocked 7 14 ≡ true
unfolding keeping blocked block_of
before_end = refl

at_end : is_blocked nat_cmp (keeping 2) blocked 7 15 ≡ false
unfolding keeping blocked block_of
at_end = refl

-- a secondary key isn't dialed, and may dial from its address alone
lesser : List (Call ℕ)
lesser = call.Track 0 [] ((7, address here) ∷ []) ∷ []

no_dial : allows_dial nat_cmp (keeping 2) lesser 7 0 ≡ false
unfolding keeping here address lesser accepted_sets kept_sets is_tracked is_primary is_held block_of address_of last_grant is_stale
no_dial = refl

from_here : allows_listen nat_cmp (keeping 2) lesser 7 here 0 ≡ true
unfolding keeping here address lesser accepted_sets kept_sets is_tracked is_primary is_held block_of address_of last_grant is_stale
from_here = refl

from_there : is_acceptable nat_cmp (keeping 2) lesser 7 there 0 ≡ false
unfolding keeping here there address lesser accepted_sets kept_sets is_tracked is_primary is_held block_of address_of last_grant is_stale
from_there = refl

-- a release that ends no hold is no turn
by_turns : turns_of nat_cmp (call.Release 7 ∷ call.Release 7 ∷ call.Dial 7 0 3 true ∷ []) 7 ≡ false ∷ true ∷ []
unfolding turns_of is_held
by_turns = refl

-- a connection is kept from its connect on, until a block of its key, also where that has no effect
joined : List (Call ℕ)
joined = call.Connect 7 (Some 4) 24 ∷ call.Dial 7 0 3 true ∷ set 0 7 ∷ []

kept : is_kept nat_cmp (keeping 2) joined 7 ≡ true
unfolding keeping here address set joined accepted_sets kept_sets is_tracked is_held block_of address_of is_stale kept_of
kept = refl

its_connection : kept_of nat_cmp (keeping 2) joined 7 ≡ Some 24
unfolding keeping here address set joined accepted_sets kept_sets is_tracked is_held block_of address_of is_stale kept_of
its_connection = refl

ended : is_kept nat_cmp (keeping 2) (call.Block 7 10 ∷ joined) 7 ≡ false
unfolding keeping here address set joined accepted_sets kept_sets is_tracked is_held block_of address_of is_stale kept_of
ended = refl

-- a connect of a blocked key is refused, whose block lasts
refused : is_kept nat_cmp (keeping 2) (call.Connect 7 (Some 14) 24 ∷ call.Block 7 10 ∷ joined) 7 ≡ false
unfolding keeping here address set joined accepted_sets kept_sets is_tracked is_held block_of address_of is_stale kept_of
refused = refl

-- a key that is in no kept set any more is kept no longer
evicted : is_kept nat_cmp (keeping 1) (set 1 8 ∷ joined) 7 ≡ false
unfolding keeping here address set joined accepted_sets kept_sets is_tracked is_held block_of address_of is_stale kept_of
evicted = refl
