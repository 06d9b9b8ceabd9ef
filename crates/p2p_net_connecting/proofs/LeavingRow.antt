-- The row with which a connection of a node ends is the row of the rule.
use Rattle.std.proofs.Common.{◌≡◌, ℕ, List, [], ◌∷◌, ◌++◌, refl, ap, sym, ◌∙◌}
use Rattle.std.specs.Prelude.{map, filter, flat_map}
use Rattle.p2p_tracker_directory.specs.Reserved.{peer_of}
use Rattle.p2p_log.specs.declared.config.Config.{Config}
use Rattle.p2p_log.specs.declared.queue.Queue.{Queue}
use Rattle.p2p_log.specs.declared.queue.Queue.TheVariants as queue
use Rattle.p2p_log.specs.declared.item.Item.TheVariants as item
use Rattle.p2p_log.specs.declared.item.Envelope.{Envelope}
use Rattle.p2p_log.specs.declared.end.Cause.{Cause}
use Rattle.p2p_log.specs.declared.end.Cause.TheVariants as cause
use Rattle.p2p_log.specs.declared.end.End.{End}
use Rattle.p2p_log.specs.declared.entry.Ended.{Ended}
use Rattle.p2p_log.specs.declared.entry.Entry.{Entry}
use Rattle.p2p_log.specs.declared.entry.Reply.TheVariants as reply
use Rattle.p2p_log.specs.Drained.{drained, all_end}
use Rattle.p2p_log.specs.Lines.{name_of, named, stands_in}
use Rattle.p2p_log.proofs.Taken.{AreDifferent, drained_lines}
use Rattle.p2p_log_rules.specs.declared.row.Half.{Half}
use Rattle.p2p_log_rules.specs.declared.row.Row.{Row}
use Rattle.p2p_log_rules.specs.Effect.{mailbox_size_at}
use Rattle.p2p_log_rules.specs.Ending.{copies_drop, end_row}
use Rattle.p2p_net_queues.specs.Board.{held}
use Rattle.p2p_net_queues.specs.Rows.{named_end}
use Rattle.p2p_net_queues.specs.Tables.{waiting}
use Rattle.p2p_net_router.specs.Batches.{all_of}
use Rattle.p2p_net_connections.specs.declared.connections.Connections.{Connections}
use Rattle.p2p_net_links.specs.declared.links.Links.{Links}
use Rattle.p2p_net_tracker.specs.declared.tracker.Tracker.{Tracker}
use Rattle.p2p_net_node.specs.declared.node.Node.{Node}
use Rattle.p2p_net_connecting.proofs.EndRows.{named_ends_with, ends_of_all}
use Rattle.p2p_net_connecting.proofs.Leaving.{Leaving, qs, flight, left, apart, connects, peer_is, without_number, without_over, without_tracker}
use Rattle.p2p_net_connecting.proofs.LeavingLines.{off_flight}

module _ {configs : List Config} {log : List Entry} {n conn : ℕ} {half : Half} {why : Ended} {c : Cause} {taken : List Envelope} {x w y : Node} {l m links : Links} {r : Row}
    (t : Leaving configs log n conn half why c taken x w y l m links r) where
  abbrev with_ends : List End → Row
  with_ends ends = record { reply = reply.Ended why; takes = map name_of taken; puts = []; ends = ends }

  abbrev before : List End
  before = flat_map (copies_drop c) taken

  abbrev E : List Envelope → List End
  E xs = all_end cause.ConnectionEnded xs

  -- what is left in a queue
  abbrev left_in : Queue → List Envelope
  left_in q = filter (stands_in q) (left t)

  -- ---- what the code finds is what is left, queue by queue

  frames_are : named_end cause.ConnectionEnded t.kept.drops.frames ≡ E (all_of n conn (left t))
  frames_are =
      ap (named_end cause.ConnectionEnded)
      (t.kept.drops.router.taken (mailbox_size_at configs t.kept.without.router.number) (left t) (without_over t).holds (apart t) ∙ ap (λ k. map named (all_of k conn (left t))) (without_number t))
      ∙ named_ends_with cause.ConnectionEnded (all_of n conn (left t))

  holds_are : waiting t.kept.without.connections.held conn ≡ left_in (queue.Held n conn)
  holds_are =
      ap (λ (z : Node). waiting z.connections.held conn) t.kept.kept
      ∙ (ap (λ (cs : Connections). waiting cs.held conn) t.gone.connections ∙ ((connects t).holds conn ∙ sym t.gone.holds))

  told_are : held t.kept.without.tracker.told (queue.Control n conn) ≡ left_in (queue.Control n conn)
  told_are = ap (λ (z : Tracker). held z.told (queue.Control n conn)) (without_tracker t) ∙ t.gone.control

  answers_are : waiting t.kept.without.connections.answers conn ≡ left_in (queue.RouterAnswer n conn)
  answers_are =
      ap (λ (z : Node). waiting z.connections.answers conn) t.kept.kept
      ∙ (ap (λ (cs : Connections). waiting cs.answers conn) t.gone.connections ∙ ((connects t).waits conn ∙ sym t.gone.answers))

  -- ---- and so the ends

  differ : AreDifferent (qs t)
  differ = (
    (refl, (refl, (refl, (refl, (off_flight t (queue.High n conn) refl refl, tt))))),
    (
      (refl, (refl, (refl, (off_flight t (queue.Low n conn) refl refl, tt)))),
      ((refl, (refl, (off_flight t (queue.Held n conn) refl refl, tt))), ((refl, (off_flight t (queue.Control n conn) refl refl, tt)), ((off_flight t (queue.RouterAnswer n conn) refl refl, tt), (tt, tt)))),
    ),
  )

  ends_are : (f : List End) (hs ts ans fl : List Envelope) → f ≡ E (all_of n conn (left t)) → hs ≡ left_in (queue.Held n conn) → ts ≡ left_in (queue.Control n conn)
      → ans ≡ left_in (queue.RouterAnswer n conn) → fl ≡ left_in (flight t)
      → ((((before ++ f) ++ E hs) ++ E ts) ++ E ans) ++ E fl ≡ before ++ E (drained (left t) (qs t))
  ends_are f hs ts ans fl f_is hs_is ts_is ans_is fl_is =
      ap (λ v. ((((before ++ v) ++ E hs) ++ E ts) ++ E ans) ++ E fl) f_is
      ∙ (ap (λ v. ((((before ++ E (all_of n conn (left t))) ++ E v) ++ E ts) ++ E ans) ++ E fl) hs_is
      ∙ (ap (λ v. ((((before ++ E (all_of n conn (left t))) ++ E (left_in (queue.Held n conn))) ++ E v) ++ E ans) ++ E fl) ts_is
      ∙ (ap (λ v. ((((before ++ E (all_of n conn (left t))) ++ E (left_in (queue.Held n conn))) ++ E (left_in (queue.Control n conn))) ++ E v) ++ E fl) ans_is
      ∙ (ap (λ v. ((((before ++ E (all_of n conn (left t))) ++ E (left_in (queue.Held n conn))) ++ E (left_in (queue.Control n conn))) ++ E (left_in (queue.RouterAnswer n conn))) ++ E v) fl_is
      ∙ (ends_of_all cause.ConnectionEnded before (left_in (queue.High n conn)) (left_in (queue.Low n conn)) (left_in (queue.Held n conn))
      (left_in (queue.Control n conn)) (left_in (queue.RouterAnswer n conn)) (left_in (flight t))
      ∙ ap (λ v. before ++ E v) (sym (drained_lines (left t) (qs t) (apart t) differ)))))))

  emptied_is : t.kept.emptied ≡ with_ends (before ++ E (drained (left t) (qs t)))
  emptied_is = t.kept.drops.row_is ∙ ap with_ends (ends_are (named_end cause.ConnectionEnded t.kept.drops.frames) _ _ _ _ frames_are holds_are told_are answers_are t.gone.flight)

  -- ---- and what is put

  pub row_ends : r ≡ end_row log n conn half why c taken
  row_ends =
      t.kept.frees.row_is
      ∙ (ap (λ (z : Row). record z { puts = (z.puts ++ (queue.Router n, item.Release half.peer) ∷ []) ++ (queue.Tracker n, item.Release (peer_of t.connection.reservation)) ∷ [] }) emptied_is
      ∙ ap (λ k. record (with_ends (before ++ E (drained (left t) (qs t)))) { puts = (queue.Router n, item.Release half.peer) ∷ (queue.Tracker n, item.Release k) ∷ [] }) (peer_is t))
