-- What waits and hands on ends of links: each of it ends, and right after it what is in flight towards the end that it hands on.
use Rattle.std.proofs.Common.{◌≡◌, ℕ, List, [], ◌∷◌, ◌++◌, refl, ap, sym, subst, ◌∙◌, Option}
use Rattle.std.specs.List.{AllByRecursion as Each}
use Rattle.std.specs.Prelude.{map}
use Rattle.p2p_log.specs.declared.queue.Queue.{Queue}
use Rattle.p2p_log.specs.declared.item.Envelope.{Envelope}
use Rattle.p2p_log.specs.declared.end.Cause.TheVariants as cause
use Rattle.p2p_log.specs.declared.end.End.TheVariants as end
use Rattle.p2p_log.specs.declared.end.Outcome.TheVariants as outcome
use Rattle.p2p_log.specs.declared.entry.Reply.TheVariants as reply
use Rattle.p2p_log.specs.Copies.{copies_of}
use Rattle.p2p_log.specs.Drained.{drained, all_end}
use Rattle.p2p_log.specs.Lines.{name_of}
use Rattle.p2p_log_rules.specs.declared.row.Row.{Row}
use Rattle.p2p_log_rules.specs.Dropping.{LinkEnd}
use Rattle.p2p_log_rules.specs.Rows.{only}
use Rattle.p2p_log_rules.specs.Stopping.{towards}
use Rattle.p2p_log_laws.proofs.Draining.{left-append, left-none, interleaved, brought_by_all}
use Rattle.p2p_net_links.specs.Left.{all_dropped}
use Rattle.p2p_net_links.specs.declared.links.Links.{Links}
use Rattle.p2p_net_node.specs.declared.node.Node.{Node}
use Rattle.p2p_net_calls.specs.Stopping.{NodeLeft, left, in_flight, end_of, ends_handed, handed_end}
use Rattle.p2p_net_calls.proofs.Emptying.{all_end-append}
use Rattle.p2p_net_calls.proofs.Holders.{drops_drains}

-- ends that are dropped after others
pub all_dropped-append : (es ds : List LinkEnd) (l : Links) → all_dropped (es ++ ds) l ≡ all_dropped ds (all_dropped es l)
all_dropped-append [] ds l = refl
all_dropped-append (e ∷ es) ds l = all_dropped-append es ds _

module _ (brings : Envelope → List Queue) where
  -- these have the names of those items, and hand on the ends towards which the items bring what is in flight
  abbrev pub Hands : List Envelope → List ((ℕ × ℕ) × Option LinkEnd) → Type 0
  Hands [] [] = Unit {0}
  Hands (x ∷ xs) (h ∷ hs) = (name_of x ≡ h.0) × ((brings x ≡ towards h.1) × Hands xs hs)
  Hands _ _ = ⊥

  pub handed_drains : (n : ℕ) (x : Node) (l : Links) (others xs : List Envelope) (hs : List ((ℕ × ℕ) × Option LinkEnd)) → NodeLeft n x l others → Each (λ (y : Envelope). copies_of y.item ≡ []) xs → Hands xs hs
      → (handed_end l hs ≡ all_end cause.NodeStopped (interleaved brings others xs)) × NodeLeft n x (all_dropped (ends_handed hs) l) (left (brought_by_all brings others xs) others)
  handed_drains n x l others [] [] k bare hands = (refl, subst (NodeLeft n x l) (sym (left-none others)) k)
  handed_drains n x l others [] (h ∷ hs) k bare hands = absurd hands
  handed_drains n x l others (y ∷ ys) [] k bare hands = absurd hands
  handed_drains n x l others (y ∷ ys) (h ∷ hs) k bare hands =
      let then = all_dropped (end_of h.1) l in
      let before : Row = only reply.Ok in
      let after : Row = record before { ends = [] ++ all_end cause.NodeStopped (in_flight l h.1) } in
      let one = drops_drains n h.1 x l then before after (refl, refl) others k in
      let brought = drained others (brings y) in
      let same : drained others (towards h.1) ≡ brought = ap (drained others) (sym hands.1.0) in
      let flight : all_end cause.NodeStopped (in_flight l h.1) ≡ all_end cause.NodeStopped brought = ap (λ (r : Row). r.ends) one.0 ∙ ap (all_end cause.NodeStopped) same in
      let rest = handed_drains n x then (left brought others) ys hs (subst (λ b. NodeLeft n x then (left b others)) same one.1) bare.1 hands.1.1 in
      let more = interleaved brings (left brought others) ys in
      let named : end.Item h.0.0 h.0.1 ≡ end.Item y.entry y.place = ap (λ (m : ℕ × ℕ). end.Item m.0 m.1) (sym hands.0) in (
        ap (λ e. e ∷ (all_end cause.NodeStopped (in_flight l h.1) ++ handed_end then hs)) named
            ∙ (ap (λ es. end.Item y.entry y.place ∷ (es ++ handed_end then hs)) flight
            ∙ (ap (λ es. end.Item y.entry y.place ∷ (all_end cause.NodeStopped brought ++ es)) rest.0
            ∙ (ap (λ es. end.Item y.entry y.place ∷ es) (sym (all_end-append cause.NodeStopped brought more))
            ∙ ap (λ cs. (end.Item y.entry y.place ∷ map (λ copy. end.Copy copy.0 copy.1 (outcome.Dropped cause.NodeStopped)) cs) ++ all_end cause.NodeStopped (brought ++ more)) (sym bare.0)))),
        subst (λ (m : Links). NodeLeft n x m (left (brought ++ brought_by_all brings (left brought others) ys) others)) (sym (all_dropped-append (end_of h.1) (ends_handed hs) l))
            (subst (NodeLeft n x (all_dropped (ends_handed hs) then)) (left-append brought (brought_by_all brings (left brought others) ys) others) rest.1),
      )
