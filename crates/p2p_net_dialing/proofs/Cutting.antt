-- The cut of a link, by the log.
use Rattle.std.proofs.Common.{◌≡◌, ℕ, Bool, true, false, cond, List, [], ◌∷◌, ◌++◌, length, refl, ap, sym, subst, ◌∙◌, append-nil}
use Rattle.std.proofs.lemmas.Grind.{flat_map-append}
use Rattle.p2p_log.specs.declared.config.Config.{Config}
use Rattle.p2p_log.specs.declared.queue.Queue.{Queue}
use Rattle.p2p_log.specs.declared.queue.Queue.TheVariants as queue
use Rattle.p2p_log.specs.declared.queue.Side.{Side}
use Rattle.p2p_log.specs.declared.queue.Side.TheVariants as side
use Rattle.p2p_log.specs.declared.end.Cause.TheVariants as cause
use Rattle.p2p_log.specs.declared.entry.Entry.{Entry}
use Rattle.p2p_log.specs.declared.entry.Reply.TheVariants as reply
use Rattle.p2p_log.specs.declared.event.Event.{Event}
use Rattle.p2p_log.specs.declared.event.Act.TheVariants as act
use Rattle.p2p_log.specs.Drained.{ends_with, all_end, drained}
use Rattle.p2p_log.specs.Lines.{live, line}
use Rattle.p2p_log.specs.QueueCode.{same_queue}
use Rattle.p2p_log.proofs.Names.{AreApart-live_from}
use Rattle.p2p_log.proofs.Queues.{same_queue-sym}
use Rattle.p2p_log.proofs.Taken.{drained_lines}
use Rattle.p2p_log_rules.specs.declared.row.Row.{Row}
use Rattle.p2p_log_rules.specs.Connections.{is_begun}
use Rattle.p2p_log_rules.specs.Cutting.{can_be_cut, queues_over, cut_row}
use Rattle.p2p_log_rules.specs.Effect.{only, effect, row, entry_of}
use Rattle.p2p_log_laws.specs.BulkEnds.{Empties}
use Rattle.p2p_log_laws.proofs.Emptying.{nothing_is_left, others_are_left}
use Rattle.p2p_net_queues.specs.Tables.{waiting}
use Rattle.p2p_net_links.specs.Cutting.{can_be_cut_at, cut_answer, cut_with, cut_after}
use Rattle.p2p_net_links.specs.Stands.{LinksStand}
use Rattle.p2p_net_links.specs.declared.links.Links.{Links}
use Rattle.p2p_net_links.proofs.Cuts.{CutsLink, can_be_cut_is, links_cut}
use Rattle.p2p_net_dialing.specs.Cutting.{IsCut}
use Rattle.p2p_net_node.specs.Stands.{NodeStands, WorldStands}
use Rattle.p2p_net_node.specs.declared.node.Node.{Node}
use Rattle.p2p_net_node.proofs.Frames.{life_unnamed, part_frame}
use Rattle.p2p_net_node.proofs.Performing.{asked, Simulates, links_still, effect-still}

module _ (configs : List Config) (log : List Entry) (moment seed link : ℕ) where
  abbrev ev : Event
  ev = asked moment seed (act.Cut link)

  abbrev towards : Side → Queue
  towards s = queue.Link link s

  abbrev due : Row
  due = record { reply = reply.Ok; takes = []; puts = []; ends = all_end cause.LinkCut (drained (live log) (queues_over link)) }

  -- what is in flight, one direction after the other
  over_is : drained (live log) (queues_over link) ≡ line log (towards side.Out) ++ line log (towards side.In)
  unfolding line
  over_is =
      drained_lines (live log) (queues_over link) (AreApart-live_from 0 log) ((refl, tt), (tt, tt))
      ∙ ap (λ xs. line log (towards side.Out) ++ xs) (append-nil (line log (towards side.In)))

  ends_are : (l : Links) → LinksStand configs log l → all_end cause.LinkCut (waiting l.outward link) ++ all_end cause.LinkCut (waiting l.inward link) ≡ due.ends
  ends_are l t =
      ap (λ xs. all_end cause.LinkCut xs ++ all_end cause.LinkCut (waiting l.inward link)) (t.waits side.Out link)
      ∙ (ap (λ xs. all_end cause.LinkCut (line log (towards side.Out)) ++ all_end cause.LinkCut xs) (t.waits side.In link)
      ∙ (sym (flat_map-append (ends_with cause.LinkCut) (line log (towards side.Out)) (line log (towards side.In))) ∙ ap (all_end cause.LinkCut) (sym over_is)))

  -- the row that the links give is the act's
  answer_is : (l : Links) → LinksStand configs log l → cut_answer l link ≡ cut_row log link
  answer_is l t =
      ap (λ es. cond (can_be_cut_at l link) (record (only reply.Ok) { ends = es }) (only reply.Gone)) (ends_are l t)
      ∙ ap (λ b. cond b due (only reply.Gone)) (can_be_cut_is configs log l link t)

  all_of_it : Empties log ev due (queues_over link) cause.LinkCut
  all_of_it = record { sends = refl; takes = refl; puts = refl; ends = refl }

  emptied : (s : Side) → line (log ++ entry_of ev due ∷ []) (towards s) ≡ []
  emptied side.Out = (nothing_is_left log ev due (towards side.Out) (towards side.In ∷ []) cause.LinkCut all_of_it).0
  emptied side.In = (nothing_is_left log ev due (towards side.Out) (towards side.In ∷ []) cause.LinkCut all_of_it).1.0

  kept : (s : Side) (k : ℕ) → same_queue (towards s) (queue.Link k s) ≡ false → line (log ++ entry_of ev due ∷ []) (queue.Link k s) ≡ line log (queue.Link k s)
  kept side.Out k other =
      others_are_left log ev due (queues_over link) cause.LinkCut (queue.Link k side.Out) all_of_it (same_queue-sym (queue.Link k side.Out) (towards side.Out) ∙ other, (refl, tt))
  kept side.In k other =
      others_are_left log ev due (queues_over link) cause.LinkCut (queue.Link k side.In) all_of_it (refl, (same_queue-sym (queue.Link k side.In) (towards side.In) ∙ other, tt))

  cuts : CutsLink log (entry_of ev due) link
  cuts = record { acts = refl; done = refl; emptied = emptied; kept = kept }

  -- the links, by whether this one can be cut
  links_after : (l : Links) → LinksStand configs log l → (b : Bool) → can_be_cut log link ≡ b → LinksStand configs (log ++ effect configs log ev ∷ []) (cond b (cut_with link l) l)
  unfolding effect row
  links_after l t true can =
      subst (λ (r : Row). LinksStand configs (log ++ entry_of ev r ∷ []) (cut_with link l)) (sym (ap (λ b. cond b due (only reply.Gone)) can)) (links_cut configs log l link t (entry_of ev due) cuts)
  links_after l t false cannot =
      links_still configs log (effect configs log ev) (act.Cut link) reply.Gone l t refl refl (effect-still configs log ev reply.Gone (ap (λ b. cond b due (only reply.Gone)) cannot))

  -- no node is named
  nodes_after : (m : ℕ) (z : Node) → NodeStands configs log m z → is_begun log m (length log) ≡ false → NodeStands configs (log ++ effect configs log ev ∷ []) m z
  nodes_after m z s fresh = record { own = s.own; life = life_unnamed configs log ev m z.stopped s.life refl; each = λ p. part_frame p configs log ev m z (s.each p) refl (λ makes. fresh) }

pub cut_simulates : (configs : List Config) (log : List Entry) (moment seed link : ℕ) (nodes new : List Node) (l links : Links) (r : Row) → WorldStands configs log nodes l → ((m : ℕ) → is_begun log m (length log) ≡ false)
    → IsCut link nodes new l links r → Simulates configs log (asked moment seed (act.Cut link)) new links r
unfolding row
cut_simulates configs log moment seed link nodes new l links r s fresh d =
    let ev : Event = asked moment seed (act.Cut link) in
    let e : Entry = effect configs log ev in
    let is : cut_after link l ≡ cond (can_be_cut log link) (cut_with link l) l = ap (λ b. cond b (cut_with link l) l) (can_be_cut_is configs log l link s.linked) in
    record {
      row_is = d.0 ∙ answer_is configs log moment seed link l s.linked;
      stands = subst (λ (ns : List Node). WorldStands configs (log ++ e ∷ []) ns links) (sym d.1.0)
          (subst (λ (ls : Links). WorldStands configs (log ++ e ∷ []) nodes ls) (sym (d.1.1 ∙ is))
          (record {
            valid = s.valid;
            long = s.long;
            each = λ m z g. nodes_after configs log moment seed link m z (s.each m z g) (fresh m);
            linked = links_after configs log moment seed link l s.linked (can_be_cut log link) refl;
          }));
    }
