-- The shape of an act that cuts a link: what is in flight over it ends untaken, with its copies.
use Rattle.std.proofs.Common.{◌≡◌, ℕ, Bool, true, false, cond, List, [], ◌∷◌, Some, inl, inr, refl, ap, sym, subst, ◌∙◌}
use Rattle.std.specs.Prelude.{◌||◌, slice_get}
use Rattle.std.specs.List.{AllByRecursion as Each}
use Rattle.p2p_log.specs.declared.config.Config.{Config}
use Rattle.p2p_log.specs.declared.queue.Queue.{Queue}
use Rattle.p2p_log.specs.declared.queue.Queue.TheVariants as queue
use Rattle.p2p_log.specs.declared.queue.Side.TheVariants as side
use Rattle.p2p_log.specs.declared.item.Envelope.{Envelope}
use Rattle.p2p_log.specs.declared.end.Cause.TheVariants as cause
use Rattle.p2p_log.specs.declared.entry.Entry.{Entry}
use Rattle.p2p_log.specs.declared.entry.Reply.TheVariants as reply
use Rattle.p2p_log.specs.declared.event.Act.{Act}
use Rattle.p2p_log.specs.declared.event.Act.TheVariants as act
use Rattle.p2p_log.specs.declared.event.Event.{Event}
use Rattle.p2p_log.specs.Copies.{carries}
use Rattle.p2p_log.specs.Drained.{all_end, drained}
use Rattle.p2p_log.specs.Lines.{live, line}
use Rattle.p2p_log.specs.QueueCode.{same_queue}
use Rattle.p2p_log.proofs.Each.{Has, Each-from_has, place_of}
use Rattle.p2p_log.proofs.Queues.{same_queue-refl}
use Rattle.p2p_log.proofs.Taken.{Each-drained, drained_taken}
use Rattle.p2p_log_rules.specs.declared.row.Row.{Row}
use Rattle.p2p_log_rules.specs.Cutting.{can_be_cut, queues_over, cut_row}
use Rattle.p2p_log_rules.specs.Effect.{only, entry_of}
use Rattle.p2p_log_rules.proofs.Bools.{or_true}
use Rattle.p2p_log_laws.proofs.Reaching.{ends_in}
use Rattle.p2p_log_laws.specs.Causes.{Shows}
use Rattle.p2p_log_laws.proofs.Bulk.{emptied_shape}
use Rattle.p2p_log_laws.proofs.Shape.{Shape, still}
use Rattle.p2p_log_laws.proofs.Showing.{Standing}
use Rattle.p2p_log.proofs.Names.{AreApart-live_from}

module _ (configs : List Config) (log : List Entry) (link : ℕ) where
  abbrev a : Act
  a = act.Cut link

  abbrev qs : List Queue
  qs = queues_over link

  abbrev rest : List Envelope
  rest = drained (live log) qs

  abbrev due : Row
  due = record { reply = reply.Ok; takes = []; puts = []; ends = all_end cause.LinkCut rest }

  near : (p : Queue) → Has qs p → ends_in configs log a p ≡ true
  near p (inl is) = subst (λ q. ends_in configs log a q ≡ true) is (ap (λ b. b || same_queue (queue.Link link side.In) (queue.Link link side.Out)) (same_queue-refl (queue.Link link side.Out)))
  near p (inr (inl is)) =
      subst (λ q. ends_in configs log a q ≡ true) is
      (ap (λ b. same_queue (queue.Link link side.Out) (queue.Link link side.In) || b) (same_queue-refl (queue.Link link side.In)) ∙ or_true (same_queue (queue.Link link side.Out) (queue.Link link side.In)))
  near p (inr (inr none)) = absurd none

  within : Each (λ x. Has qs x.queue) rest
  within = Each-drained (λ x. Has qs x.queue) (live log) qs (Each-from_has (λ q. (x : Envelope) → x.queue ≡ q → Has qs x.queue) qs (λ q has x is. subst (Has qs) (sym is) has))

  shows : Standing configs log → (ev : Event) → ev.act ≡ a → (q : Queue) → Has qs q → (x : Envelope) (place : ℕ) → slice_get (line log q) place ≡ Some x → (copy : ℕ × ℕ) → carries copy x ≡ true
      → Shows configs log (entry_of ev due) copy cause.LinkCut
  shows stand ev acts q has x place at copy bears =
      record { link = link; cuts = acts; done = refl; from = q; over = place_of qs q has; place = place; left = x; stood = at; carried = bears }

  pub cut_shape : Shape configs log a (cut_row log link)
  cut_shape = by (can_be_cut log link)
    where
      by : (b : Bool) → Shape configs log a (cond b due (only reply.Gone))
      by false = still configs log a reply.Gone refl refl
      by true =
          emptied_shape configs log a reply.Ok refl refl [] tt [] refl (λ copy. refl) [] tt tt qs near cause.LinkCut rest (drained_taken (live log) qs (AreApart-live_from 0 log)) within
          (λ stand ev acts. tt) shows
