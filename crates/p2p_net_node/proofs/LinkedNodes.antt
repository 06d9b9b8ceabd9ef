-- A link that is open was made between the nodes that the event of its name says.
use Rattle.std.proofs.Common.{◌≡◌, ℕ, List, [], ◌∷◌, ◌++◌, Option, Some, None, ◌⊎◌, inl, inr, ap, ◌∙◌}
use Rattle.std.specs.Prelude.{slice_get}
use Rattle.p2p_log.specs.declared.entry.Entry.{Entry}
use Rattle.p2p_log.proofs.Places.{slice_get-seam}
use Rattle.p2p_log_rules.specs.declared.row.Opening.{Opening}
use Rattle.p2p_log_rules.specs.Links.{openings_of}
use Rattle.p2p_log_rules.proofs.Ignoring.{by_entries}
use Rattle.p2p_log_rules.proofs.Links.{Opens, opening_now, openings_of-none}
use Rattle.p2p_net_queues.proofs.Matching.{slice_get-longer}
use Rattle.p2p_net_node.specs.Places.{linked_by, nodes_linked}
use Rattle.p2p_net_node.specs.declared.meeting.Ends.{Ends}

abbrev pub ends_of : Opening → Ends
ends_of o = record { dials = o.node; listens = o.to }

-- an entry that made this link
pub record Made (o : Opening) (at : Option Entry) : Type 0 where
  pub entry : Entry
  pub is : at ≡ Some entry
  pub ends : nodes_linked (Some entry) ≡ ends_of o

abbrev AreMade : List Entry → (ℕ → Option Opening) → Type 0
AreMade before openings = (k : ℕ) (o : Opening) → openings k ≡ Some o → Made o (slice_get before k)

kept : (before : List Entry) (e : Entry) (o : Opening) (k : ℕ) → Made o (slice_get before k) → Made o (slice_get (before ++ e ∷ []) k)
kept before e o k h = record { entry = h.entry; is = slice_get-longer before (e ∷ []) k h.entry h.is; ends = h.ends }

are_made : (log : List Entry) → AreMade log (openings_of log)
are_made = by_entries (λ l. AreMade l (openings_of l)) first more
  where
    first : AreMade [] (openings_of [])
    first k o is = let none : openings_of [] k ≡ None = openings_of-none k in cc

    more : (before : List Entry) (e : Entry) → AreMade before (openings_of before) → AreMade (before ++ e ∷ []) (openings_of (before ++ e ∷ []))
    more before e made k o is = by (opening_now before e k o is)
      where
        by : (openings_of before k ≡ Some o) ⊎ Opens before e k o → Made o (slice_get (before ++ e ∷ []) k)
        by (inl old) = kept before e o k (made k o old)
        by (inr new) = record { entry = e; is = ap (slice_get (before ++ e ∷ [])) new.named ∙ slice_get-seam before e []; ends = ap linked_by new.acts }

ends_made : (o : Opening) (at : Option Entry) → Made o at → nodes_linked at ≡ ends_of o
ends_made o at made = ap nodes_linked made.is ∙ made.ends

-- the nodes of a link that is open
pub opening_made : (log : List Entry) (k : ℕ) (o : Opening) → openings_of log k ≡ Some o → nodes_linked (slice_get log k) ≡ ends_of o
opening_made log k o is = ends_made o (slice_get log k) (are_made log k o is)
