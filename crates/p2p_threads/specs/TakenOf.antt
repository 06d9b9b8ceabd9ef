-- What is taken of each sender.
use Rattle.std.specs.Prelude.{◌≡◌, ℕ, zero, suc, ◌==◌, ◌<◌, List, filter, map}
use Rattle.p2p_threads.specs.ThreadText.{below, line_onto}
use Rattle.p2p_threads.specs.declared.numbered.Numbered.{Numbered}

-- the numbers of a sender among the messages, in order
abbrev pub taken_of : ℕ → List Numbered → List ℕ
taken_of sender messages = map (λ x. x.number) (filter (λ x. x.sender == sender) messages)

-- of each of n senders the messages are its numbers below m, in order
abbrev pub HaveAll : ℕ → ℕ → List Numbered → Type 0
HaveAll n m messages = (sender : ℕ) → sender < n → taken_of sender messages ≡ below m

-- the lines of n senders of m messages each, of which these were taken
abbrev pub taken_onto : List ℕ → List Numbered → ℕ → ℕ → List ℕ
taken_onto out messages zero m = out
taken_onto out messages (suc n) m = line_onto (taken_onto out messages n m) m n (taken_of n messages)
