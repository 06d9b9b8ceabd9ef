-- A step of a node's spawner hands a grant on: from the message that it takes to the connection that it makes.
use Rattle.std.proofs.Common.{◌≡◌, ℕ, Bool, true, false, cond, List, [], ◌∷◌, map, refl, ap, subst, ◌∙◌, eq-eqb}
use Rattle.std.specs.Prelude.{◌&&◌}
use Rattle.std.specs.List.{AllByRecursion as Each}
use Rattle.p2p_base.specs.declared.key.Key.{Key}
use Rattle.p2p_log.specs.declared.queue.Queue.TheVariants as queue
use Rattle.p2p_log.specs.declared.item.Item.{Item}
use Rattle.p2p_log.specs.declared.item.Item.TheVariants as item
use Rattle.p2p_log.specs.declared.item.Envelope.{Envelope}
use Rattle.p2p_log.specs.declared.entry.Entry.{Entry}
use Rattle.p2p_log.specs.declared.entry.Reply.{Reply}
use Rattle.p2p_log.specs.declared.entry.Reply.TheVariants as reply
use Rattle.p2p_log.specs.QueueCode.{same_queue}
use Rattle.p2p_log.specs.Lines.{live, line}
use Rattle.p2p_log_rules.specs.declared.row.Row.{Row}
use Rattle.p2p_log_rules.specs.Facts.{is_up}
use Rattle.p2p_log_rules.specs.Moves.{Moves}
use Rattle.p2p_log_rules.specs.Rows.{only, takes_oldest}
use Rattle.p2p_log_rules.specs.Spawning.{spawned_of, spawner_row}
use Rattle.p2p_log_rules.proofs.Moves.{one_taken, first_has}
use Rattle.p2p_log_laws.specs.Grants.{one}
use Rattle.p2p_log_laws.specs.NodeGrants.{put_of, holds_grants, grants_key, releases_key, is_connection_of, puts_grant, puts_release}
use Rattle.p2p_log_laws.proofs.Fitting.{StandsFit, fits}
use Rattle.p2p_log_laws.proofs.Plain.{Plain, StandsPlain}
use Rattle.p2p_log_laws.proofs.Shape.{no_moves, one_move}
use Rattle.p2p_log_laws.proofs.Weighing.{weight, count_by-one}

module _ (n : ℕ) (key : Key) where
  -- what a spawner's row hands on
  pub record Made (log : List Entry) (r : Row) : Type 0 where
    pub moves : Moves log r
    pub made : weight (puts_grant n key) moves.taken ≡ one (is_connection_of key (spawned_of (map (λ x. x.item) moves.taken)))
    pub releases_taken : weight (puts_release n key) moves.taken ≡ 0
    pub ended : Each (StandsPlain n key) moves.ended
    pub puts : Each (Plain n key) r.puts

  -- what stands in a spawner's mailbox grants the key if it asks for a connection of it
  asks_held : (i : Item) → fits (queue.Spawner n) i ≡ true → grants_key key i ≡ is_connection_of key (spawned_of (i ∷ []))
  asks_held (item.Spawn k link) fit = refl
  asks_held i fit = cc

  module _ (log : List Entry) (fitting : Each StandsFit (live log)) where
    nothing : (said : Reply) → Made log (only said)
    nothing said = record { moves = no_moves log (only said) refl refl; made = refl; releases_taken = refl; ended = tt; puts = tt }

    by_line : (xs : List Envelope) → line log (queue.Spawner n) ≡ xs → Made log (takes_oldest xs)
    by_line [] none = nothing reply.Idle
    by_line (x ∷ rest) first =
        let r : Row = takes_oldest (x ∷ rest) in
        let stood : x.queue ≡ queue.Spawner n = one_taken log (queue.Spawner n) x rest first in
        let fit : fits (queue.Spawner n) x.item ≡ true =
        subst (λ q. fits q x.item ≡ true) stood (first_has StandsFit log (queue.Spawner n) x rest fitting first)
        in
        let granted : puts_grant n key (put_of x) ≡ is_connection_of key (spawned_of (x.item ∷ [])) =
        ap (λ q. holds_grants n q && grants_key key x.item) stood
        ∙ (ap (λ b. b && grants_key key x.item) (eq-eqb n n refl) ∙ asks_held x.item fit)
        in
        let released : puts_release n key (put_of x) ≡ false = ap (λ q. same_queue (queue.Tracker n) q && releases_key key x.item) stood in
        record {
          moves = one_move log (queue.Spawner n) x rest first r refl refl;
          made = count_by-one (λ y. puts_grant n key (put_of y)) x ∙ ap one granted;
          releases_taken = count_by-one (λ y. puts_release n key (put_of y)) x ∙ ap one released;
          ended = tt;
          puts = tt;
        }

    pub spawner_makes : Made log (spawner_row log n)
    spawner_makes = by_up (is_up log n)
      where
        by_up : (b : Bool) → Made log (cond b (takes_oldest (line log (queue.Spawner n))) (only reply.Gone))
        by_up true = by_line (line log (queue.Spawner n)) refl
        by_up false = nothing reply.Gone
