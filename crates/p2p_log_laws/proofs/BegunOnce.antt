-- A tracker is told of each connection once: what waits to be taken and what was taken of it is one message at most.
use Rattle.std.proofs.Common.{◌≡◌, ℕ, ◌+◌, ◌≤◌, List, [], ◌∷◌, ◌++◌, refl, ap, sym, subst, ◌∙◌, arith, eq-eqb}
use Rattle.std.specs.Prelude.{◌||◌, count_by}
use Rattle.p2p_log.specs.declared.config.Config.{Config}
use Rattle.p2p_log.specs.declared.entry.Entry.{Entry}
use Rattle.p2p_log.specs.declared.event.Event.{Event}
use Rattle.p2p_log.specs.Lines.{live_from, live}
use Rattle.p2p_log_rules.specs.declared.row.Row.{Row}
use Rattle.p2p_log_rules.specs.Connections.{is_begun}
use Rattle.p2p_log_rules.specs.Effect.{effect, row, entry_of}
use Rattle.p2p_log_rules.specs.Facts.{state_from}
use Rattle.p2p_log_rules.specs.Lawful.{IsLawful}
use Rattle.p2p_log_rules.specs.Told.{told}
use Rattle.p2p_log_rules.specs.Tracking.{calls_of}
use Rattle.p2p_log_rules.proofs.Calls.{calls_of-append}
use Rattle.p2p_log_rules.proofs.Connections.{begins_is, is_begun-append}
use Rattle.p2p_log_laws.specs.Grants.{one}
use Rattle.p2p_log_laws.proofs.BegunCalls.{was_called, each_called}
use Rattle.p2p_log_laws.proofs.BegunPuts.{tells_begun, each_begins}
use Rattle.p2p_log_laws.proofs.Ledger.{Told, Told-end}
use Rattle.p2p_log_laws.proofs.Prefixes.{lawful_at_end}
use Rattle.p2p_log_laws.proofs.Shape.{Shape}
use Rattle.p2p_log_laws.proofs.Shapes.{row_shape}
use Rattle.p2p_log_laws.proofs.Weighing.{weight, weighed}

module _ (configs : List Config) (n conn : ℕ) where
  -- what waits and what was taken, together
  abbrev pub IsToldOnce : List Entry → Type 0
  IsToldOnce log = weight (tells_begun n conn) (live log) + one (was_called conn (calls_of configs log n)) ≤ one (is_begun log n conn)

  told_first : IsToldOnce []
  unfolding live_from calls_of told state_from is_begun
  told_first = omega arith

  -- by what stood there, what was called, and whether it had begun
  counted : (stand old taken ended puts called before begun after : ℕ) → after + (taken + ended) ≡ stand + puts → called ≤ old + taken → stand + old ≤ before → before + puts ≤ begun → after + called ≤ begun
  counted stand old taken ended puts called before begun after moves calls was begins = omega (arith, moves, calls, was, begins)

  told_more : (script : List Event) (before : List Entry) (ev : Event) → IsLawful configs script before → IsToldOnce before → IsToldOnce (before ++ effect configs before ev ∷ [])
  unfolding effect
  told_more script before ev lawful old =
      let r : Row = row configs before ev.at ev.seed ev.act in
      let told : Told configs before = Told-end configs script before lawful in
      let shape : Shape configs before ev.act r = row_shape configs before ev.at ev.seed ev.act in
      let w = weight (tells_begun n conn) in
      let called : one (was_called conn (calls_of configs (before ++ entry_of ev r ∷ []) n)) ≤ one (was_called conn (calls_of configs before n)) + w shape.moves.taken =
      subst (λ l. one (was_called conn l) ≤ one (was_called conn (calls_of configs before n)) + w shape.moves.taken) (sym (calls_of-append configs before (entry_of ev r) n))
      (each_called conn configs n before ev r shape.moves shape.reach (eq-eqb n n refl))
      in
      let begins : one (is_begun before n conn) + count_by (tells_begun n conn) r.puts ≤ one (is_begun (before ++ entry_of ev r ∷ []) n conn) =
      subst (λ b. one (is_begun before n conn) + count_by (tells_begun n conn) r.puts ≤ one b) (sym (is_begun-append before (entry_of ev r) n conn ∙ ap (λ b. is_begun before n conn || b) (begins_is before (entry_of ev r) n conn)))
      (each_begins n conn before configs ev.at ev.seed ev.act told.standing.fitting)
      in
      counted (w (live before)) (one (was_called conn (calls_of configs before n))) (w shape.moves.taken) (w shape.moves.ended) (count_by (tells_begun n conn) r.puts)
      (one (was_called conn (calls_of configs (before ++ entry_of ev r ∷ []) n))) (one (is_begun before n conn)) (one (is_begun (before ++ entry_of ev r ∷ []) n conn)) (w (live (before ++ entry_of ev r ∷ [])))
      (weighed before ev r shape.moves (tells_begun n conn)) called old begins

  pub told_once : (script : List Event) (log : List Entry) → IsLawful configs script log → IsToldOnce log
  told_once script log lawful = lawful_at_end configs IsToldOnce told_first told_more script log lawful
