-- What channels are told of peers.
use Rattle.std.specs.Prelude.{◌≡◌, ℕ, ◌==◌, cond, List, []}
use Rattle.std.specs.List.{list_any}
use Rattle.p2p_log.specs.declared.entry.Entry.{Entry}
use Rattle.p2p_log_rules.specs.Facts.{subscribers, routes, keys_in, peers_told}

-- the newest list that a channel was told of has the peers to which its node's router has a connection, once the router took the
-- channel's subscription; before that it was told of none
abbrev pub ListsAreCurrent : List Entry → Type 0
ListsAreCurrent log = (n c : ℕ) → peers_told log n c ≡ cond (list_any (λ d. d == c) (subscribers log n)) (keys_in (routes log n)) []
