-- A node that drops the reader of a channel.
use Rattle.std.proofs.Common.{◌≡◌, ℕ, Bool, true, false, cond, List, [], ◌∷◌, ◌++◌, refl, ap, sym, subst, ◌∙◌, append-nil}
use Rattle.p2p_log.specs.declared.config.Config.{Config}
use Rattle.p2p_log.specs.declared.queue.Queue.{Queue}
use Rattle.p2p_log.specs.declared.queue.Queue.TheVariants as queue
use Rattle.p2p_log.specs.declared.end.Cause.TheVariants as cause
use Rattle.p2p_log.specs.declared.entry.Entry.{Entry}
use Rattle.p2p_log.specs.declared.entry.Reply.TheVariants as reply
use Rattle.p2p_log.specs.declared.event.Event.{Event}
use Rattle.p2p_log.specs.declared.event.Act.TheVariants as act
use Rattle.p2p_log.specs.Drained.{all_end}
use Rattle.p2p_log.specs.Lines.{line}
use Rattle.p2p_log.specs.QueueCode.{same_queue}
use Rattle.p2p_log.proofs.Queues.{same_queue-sym}
use Rattle.p2p_log.proofs.QueueNames.{queue_from_same}
use Rattle.p2p_log_rules.specs.declared.row.Row.{Row}
use Rattle.p2p_log_rules.specs.Closing.{close_row}
use Rattle.p2p_log_rules.specs.Effect.{only, effect, row, entry_of}
use Rattle.p2p_log_laws.specs.BulkEnds.{Empties}
use Rattle.p2p_log_laws.proofs.Emptying.{nothing_is_left, others_are_left}
use Rattle.p2p_net_queues.specs.Lines.{HoldsLines}
use Rattle.p2p_net_queues.specs.Tables.{cleared_at}
use Rattle.p2p_net_queues.proofs.Holding.{waits_cleared}
use Rattle.p2p_net_channels.specs.declared.channels.Channels.{Channels}
use Rattle.p2p_net_channels.specs.Channels.{has_reader, closed_row, closed_with}
use Rattle.p2p_net_channels.specs.Stands.{ChannelsStand}
use Rattle.p2p_net_channels.proofs.Changes.{same_channel}
use Rattle.p2p_net_channels.proofs.Closing.{channels_closed}
use Rattle.p2p_net_channels.proofs.Readers.{reader_is}
use Rattle.p2p_net_links.specs.Stands.{LinksStand}
use Rattle.p2p_net_links.specs.declared.links.Links.{Links}
use Rattle.p2p_net_node.specs.Places as place
use Rattle.p2p_net_calls.specs.Calls.{ClosesOn, Closes}
use Rattle.p2p_net_node.specs.Stands.{NodeStands}
use Rattle.p2p_net_node.specs.declared.node.Node.{Node}
use Rattle.p2p_net_node.proofs.EachPart.{with_parts, each_part, not_among}
use Rattle.p2p_net_node.proofs.Frames.{links_kept}
use Rattle.p2p_net_node.proofs.Performing.{asked, Performs, stays_performs}
use Rattle.p2p_net_node.proofs.Receivers.{admits_apart, sends_apart}

module _ (configs : List Config) (log : List Entry) (at seed n c : ℕ) where
  abbrev ev : Event
  ev = asked at seed (act.Close c n)

  abbrev q : Queue
  q = queue.Channel n c

  abbrev due : Row
  due = closed_row (line log q)

  all_of_it : Empties log ev due (q ∷ []) cause.ReceiverClosed
  unfolding line
  all_of_it = record { sends = refl; takes = refl; puts = refl; ends = ap (all_end cause.ReceiverClosed) (sym (append-nil (line log q))) }

  -- what waits in each channel, once that in this one ended
  left_in : (d : ℕ) (b : Bool) → same_queue q (queue.Channel n d) ≡ b → line (log ++ entry_of ev due ∷ []) (queue.Channel n d) ≡ cond b [] (line log (queue.Channel n d))
  left_in d true same = ap (line (log ++ entry_of ev due ∷ [])) (queue_from_same q (queue.Channel n d) same) ∙ (nothing_is_left log ev due q [] cause.ReceiverClosed all_of_it).0
  left_in d false other = others_are_left log ev due (q ∷ []) cause.ReceiverClosed (queue.Channel n d) all_of_it (same_queue-sym (queue.Channel n d) q ∙ other, tt)

  emptied_waits : (ch : Channels) → ChannelsStand configs log n ch → HoldsLines (queue.Channel n) (log ++ entry_of ev due ∷ []) (cleared_at ch.waiting c)
  emptied_waits ch s d = waits_cleared (queue.Channel n) (same_channel n) log c ch.waiting s.waits d ∙ sym (left_in d (same_queue q (queue.Channel n d)) refl)

  now_stand : (ch : Channels) → ChannelsStand configs log n ch → has_reader ch c ≡ true → ChannelsStand configs (log ++ entry_of ev due ∷ []) n (closed_with c ch)
  now_stand ch s has =
      channels_closed configs log (entry_of ev due) n c ch s has refl refl
      (admits_apart configs log (entry_of ev due) n (act.Close c n) refl (λ e. refl)) (sends_apart log (entry_of ev due) n (act.Close c n) refl (refl, refl))
      (emptied_waits ch s)

  -- the row, by whether the channel has a reader
  row_is : (ch : Channels) → ChannelsStand configs log n ch → (b : Bool) → has_reader ch c ≡ b → close_row configs log c n ≡ cond b due (only reply.Gone)
  row_is ch s b has = ap (λ r. cond r due (only reply.Gone)) (sym (reader_is configs log n c ch s) ∙ has)

close_on_performs : (configs : List Config) (log : List Entry) (at seed n c : ℕ) (b : Bool) (x y : Node) (l links : Links) (r : Row) → NodeStands configs log n x → LinksStand configs log l
    → has_reader x.channels c ≡ b → ClosesOn b c x y r → links ≡ l → Performs configs log (asked at seed (act.Close c n)) n y links r
unfolding effect row
close_on_performs configs log at seed n c false x y l links r s t has d kept =
    stays_performs configs log (asked at seed (act.Close c n)) n x y l links r reply.Gone s t (row_is configs log at seed n c x.channels (s.each place.channels) false has) refl d.0 d.1 kept
close_on_performs configs log at seed n c true x y l links r s t has d kept =
    let ev = asked at seed (act.Close c n) in
    let chan : ChannelsStand configs log n x.channels = s.each place.channels in
    let due : Row = closed_row (line log (queue.Channel n c)) in
    let is : close_row configs log c n ≡ due = row_is configs log at seed n c x.channels chan true has in
    record {
      row_is = d.0 ∙ (ap closed_row (chan.waits c) ∙ sym is);
      node =
          each_part configs log ev n x y (place.channels ∷ []) s (subst (λ z. z ≡ with_parts (place.channels ∷ []) x z) (sym d.1) refl)
          (λ p out. not_among (place.channels ∷ []) p n n out) refl refl (
            subst (λ (z : Row). ChannelsStand configs (log ++ entry_of ev z ∷ []) n y.channels) (sym is)
                (subst (ChannelsStand configs (log ++ entry_of ev due ∷ []) n) (sym (ap (λ (z : Node). z.channels) d.1)) (now_stand configs log at seed n c x.channels chan has)),
            tt,
          );
      linked = subst (LinksStand configs (log ++ effect configs log ev ∷ [])) (sym kept) (links_kept configs log ev l t refl);
    }

pub close_performs : (configs : List Config) (log : List Entry) (at seed n c : ℕ) (x y : Node) (l links : Links) (r : Row) → NodeStands configs log n x → LinksStand configs log l
    → Closes c x y r → links ≡ l → Performs configs log (asked at seed (act.Close c n)) n y links r
close_performs configs log at seed n c x y l links r s t d kept = close_on_performs configs log at seed n c (has_reader x.channels c) x y l links r s t refl d kept
