-- What a step of an actor comes to, and when it finds nothing to do.
use Rattle.std.specs.Prelude.{◌≡◌, ℕ, Bool, true, false, ◌&&◌, not, List, take, Some, is_none, slice_get}
use Rattle.p2p_log.specs.declared.config.Config.{Config}
use Rattle.p2p_log.specs.declared.entry.Entry.{Entry}
use Rattle.p2p_log.specs.declared.entry.Reply.{Reply}
use Rattle.p2p_log.specs.declared.entry.Reply.TheVariants as reply
use Rattle.p2p_log_rules.specs.Effect.{entry_of}
use Rattle.p2p_log_rules.specs.First.{Actor, actor_of, acts, first_input}
use Rattle.p2p_log_rules.specs.Serving.{actor_row}

abbrev pub is_gone : Reply → Bool
is_gone reply.Gone = true
is_gone _ = false

abbrev pub is_idle : Reply → Bool
is_idle reply.Idle = true
is_idle _ = false

-- an entry that is a step of an actor is what that makes of its first input: it is gone exactly where the actor does not act, and idle exactly where it acts and none of
-- its inputs is ready
pub record ServesFirst (configs : List Config) (before : List Entry) (e : Entry) (a : Actor) : Type 0 where
  pub made : e ≡ entry_of e.event (actor_row configs before e.event.at e.event.seed a)
  pub gone : is_gone e.reply ≡ not (acts configs before a)
  pub idle : is_idle e.reply ≡ (acts configs before a && is_none (first_input configs before e.event.at a))

abbrev pub EachStepServesFirst : List Config → List Entry → Type 0
EachStepServesFirst configs log = (n : ℕ) (e : Entry) (a : Actor) → slice_get log n ≡ Some e → actor_of e.event.act ≡ Some a → ServesFirst configs (take n log) e a
