-- A loop that empties one thing that a node holds after another: what is left to do gives what was to be done.
use Rattle.std.proofs.Common.{◌≡◌, ℕ, List, [], ◌++◌, ap, sym, subst, ◌∙◌, append-nil, append_assoc}
use Rattle.p2p_log.specs.declared.queue.Queue.{Queue}
use Rattle.p2p_log.specs.declared.item.Envelope.{Envelope}
use Rattle.p2p_log.specs.Drained.{drained}
use Rattle.p2p_log_rules.specs.declared.row.Row.{Row}
use Rattle.p2p_log_laws.proofs.Draining.{left-append, left-none, drained-append}
use Rattle.p2p_net_links.specs.declared.links.Links.{Links}
use Rattle.p2p_net_node.specs.declared.node.Node.{Node}
use Rattle.p2p_net_calls.specs.Stopping.{NodeLeft, left, Adds, Drains}
use Rattle.p2p_net_calls.proofs.Emptying.{adds_both}

-- of all of these queues, which were to be emptied of these items, the last are left
pub record Progress (n : ℕ) (all rest : List Queue) (items : List Envelope) (first row : Row) (x : Node) (l : Links) : Type 0 where
  pub done : List Envelope
  pub split : drained items all ≡ done ++ drained (left done items) rest
  pub ended : Adds done first row
  pub holds : NodeLeft n x l (left done items)

pub progress_none : (n : ℕ) (all : List Queue) (items : List Envelope) (row : Row) (x : Node) (l : Links) → NodeLeft n x l items → Progress n all all items row row x l
progress_none n all items row x l h = record {
  done = [];
  split = ap (λ xs. drained xs all) (sym (left-none items));
  ended = ap (λ e. record row { ends = e }) (sym (append-nil row.ends));
  holds = subst (NodeLeft n x l) (sym (left-none items)) h;
}

pub progress_more : (n : ℕ) (all qs rest : List Queue) (items : List Envelope) (first row after : Row) (x y : Node) (l links : Links) → Progress n all (qs ++ rest) items first row x l → Drains n qs x y l links row after
    → Progress n all rest items first after y links
progress_more n all qs rest items first row after x y l links p drains =
    let here = left p.done items in
    let gone = drained here qs in
    let one = drains here p.holds in
    let joined : left gone here ≡ left (p.done ++ gone) items = left-append p.done gone items in
    record {
      done = p.done ++ gone;
      split =
          p.split
          ∙ (ap (λ d. p.done ++ d) (drained-append here qs rest)
          ∙ (sym (append_assoc p.done gone (drained (left gone here) rest)) ∙ ap (λ xs. (p.done ++ gone) ++ drained xs rest) joined));
      ended = adds_both p.done gone first row after p.ended one.0;
      holds = subst (NodeLeft n y links) joined one.1;
    }

pub progress_all : (n : ℕ) (all : List Queue) (items : List Envelope) (first row : Row) (x : Node) (l : Links) → Progress n all [] items first row x l → Adds (drained items all) first row × NodeLeft n x l (left (drained items all) items)
progress_all n all items first row x l p =
    let is : drained items all ≡ p.done = p.split ∙ append-nil p.done in (
      subst (λ xs. Adds xs first row) (sym is) p.ended,
      subst (λ xs. NodeLeft n x l (left xs items)) (sym is) p.holds,
    )
