-- What the sender threads make: for each sender one enqueue of each of its numbers, in order, at places that rise.
use Rattle.std.specs.Prelude.{◌≡◌, ℕ, zero, suc, ◌+◌, ◌≤◌, List, [], ◌∷◌, ◌++◌, length, map}
use Rattle.p2p_base.specs.Queue.{Queue}
use Rattle.p2p_threads.specs.Account.{Account}
use Rattle.p2p_threads.specs.declared.mailbox.MailboxCall.{MailboxCall}
use Rattle.p2p_threads.specs.declared.mailbox.MailboxCall.TheVariants.{Enqueue}
use Rattle.p2p_threads.specs.declared.mailbox.MailboxReply.{MailboxReply}
use Rattle.p2p_threads.specs.declared.numbered.Numbered.{Numbered}

-- calls with what they were told, each with its place
abbrev pub Made : Type 0
Made = List (ℕ × (MailboxCall Numbered × MailboxReply Numbered))

-- what a sender's pass knows
abbrev pub Knows : Type 0
Knows = Account (Queue Numbered) (MailboxCall Numbered) (MailboxReply Numbered)

-- the enqueues of a sender's numbers below n, in order
abbrev pub numbers_of : ℕ → ℕ → List (MailboxCall Numbered)
numbers_of sender zero = []
numbers_of sender (suc n) = numbers_of sender n ++ Enqueue (record { sender = sender; number = n }) ∷ []

-- the places rise, from the first bound on and below the second
abbrev pub RisesWithin : ℕ → Made → ℕ → Type 0
RisesWithin low [] high = low ≤ high
RisesWithin low (e ∷ es) high = (low ≤ e.0) × RisesWithin (e.0 + 1) es high

-- these are the first n calls of a sender
pub record AreCallsOf (sender n low high : ℕ) (part : Made) : Type 0 where
  pub calls : map (λ e. e.1.0) part ≡ numbers_of sender n
  pub rises : RisesWithin low part high

-- a part for each sender, the first of them this one: so many of its calls
abbrev pub AreParts : ℕ → ℕ → ℕ → List ℕ → List Made → Type 0
AreParts low high sender [] [] = Unit {0}
AreParts low high sender (n ∷ ns) (part ∷ parts) = AreCallsOf sender n low high part × AreParts low high (sender + 1) ns parts
AreParts low high sender _ _ = ⊥

abbrev pub joined : List Made → Made
joined [] = []
joined (part ∷ parts) = part ++ joined parts

-- the senders, the first of them this one, have made so many of their calls each
pub record HaveSent (first : ℕ) (counts : List ℕ) (old new : Knows) : Type 0 where
  pub parts : List Made
  pub made : new.made ≡ old.made ++ joined parts
  pub each : AreParts (length old.seen) (length new.seen) first counts parts

abbrev pub AreUpTo : ℕ → List ℕ → Type 0
AreUpTo m [] = Unit {0}
AreUpTo m (n ∷ ns) = (n ≤ m) × AreUpTo m ns

-- so many senders, the first of them this one, have made at most m of their calls each
pub record HaveBegun (first count m : ℕ) (old new : Knows) : Type 0 where
  pub counts : List ℕ
  pub senders : length counts ≡ count
  pub up_to : AreUpTo m counts
  pub sent : HaveSent first counts old new
