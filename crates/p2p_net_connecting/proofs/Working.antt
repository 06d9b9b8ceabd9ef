-- A step of the sending half of a connection that runs: it ends where it is told to, or where it cannot write; else it writes a batch.
use Rattle.std.proofs.Common.{◌≡◌, ℕ, Bool, true, false, List, [], ◌∷◌, length, refl, ap, sym, subst, ◌∙◌, eq-eqb, Option, Some, None}
use Rattle.std.specs.Prelude.{map, ◌&&◌, nat_lt, is_some, slice_get}
use Rattle.std.specs.List.{AllByRecursion as Each}
use Rattle.p2p_log.specs.declared.config.Config.{Config}
use Rattle.p2p_log.specs.declared.queue.Queue.TheVariants as queue
use Rattle.p2p_log.specs.declared.item.Envelope.{Envelope}
use Rattle.p2p_log.specs.declared.end.Cause.TheVariants as cause
use Rattle.p2p_log.specs.declared.entry.Ended.TheVariants as ended
use Rattle.p2p_log.specs.declared.entry.Entry.{Entry}
use Rattle.p2p_log.specs.declared.event.Act.TheVariants as act
use Rattle.p2p_log.specs.Lines.{line, live, named}
use Rattle.p2p_log.proofs.Names.{AreApart-live_from}
use Rattle.p2p_log_laws.proofs.EndHeard.{names_ready}
use Rattle.p2p_log_rules.specs.declared.row.Half.{Half}
use Rattle.p2p_log_rules.specs.declared.row.Row.{Row}
use Rattle.p2p_log_rules.specs.Connections.{live_half, is_begun, has_run}
use Rattle.p2p_log_rules.specs.Cutting.{is_broken}
use Rattle.p2p_log_rules.specs.Effect.{row, write_row, batch_size_at, beside_ping, batch, written_row, told_to_end_row, running_row, mailbox_size_at, other_side}
use Rattle.p2p_log_rules.specs.Ending.{end_row}
use Rattle.p2p_log_rules.specs.Facts.{is_up, is_stopped}
use Rattle.p2p_log_rules.specs.Pings.{ping_is_due}
use Rattle.p2p_net_queues.specs.Board.{held}
use Rattle.p2p_net_queues.specs.Rows.{all_dropped}
use Rattle.p2p_net_router.specs.Batches.{batch_of}
use Rattle.p2p_net_links.proofs.Cuts.{broken_is}
use Rattle.p2p_net_links.specs.Cutting.{is_broken_at}
use Rattle.p2p_net_links.specs.Stands.{LinksStand}
use Rattle.p2p_net_links.specs.declared.links.Links.{Links}
use Rattle.p2p_net_tracker.specs.Stands.{TrackerStands}
use Rattle.p2p_net_connecting.specs.Connecting.{has_more, WritesTo, Writes, WorksBy, Works}
use Rattle.p2p_net_connecting.specs.Ending.{ending, EndsKilled, EndsUnwritten, Ends}
use Rattle.p2p_net_node.specs.Places as place
use Rattle.p2p_net_node.specs.Stands.{RouterStands, NodeStands}
use Rattle.p2p_net_node.specs.declared.node.Node.{Node}
use Rattle.p2p_net_connecting.proofs.Broken.{batch_left}
use Rattle.p2p_net_connecting.proofs.EndRows.{all_dropped-row}
use Rattle.p2p_net_connecting.proofs.EndSteps.{sent_end_performs}
use Rattle.p2p_net_connecting.proofs.HaveLeft.{HaveLeft}
use Rattle.p2p_net_connecting.proofs.Killed.{killed_left, killed_row}
use Rattle.p2p_net_node.proofs.Performing.{asked, Performs}
use Rattle.p2p_net_connecting.proofs.RouterAnswers.{half_steps}
use Rattle.p2p_net_connecting.proofs.Writing.{batch_is, write_performs}
use Rattle.p2p_log_rules.proofs.Channels.{up_lasts}

-- ---- the rule's row

-- where it is not told to end, or has no room for it, what it is told changes nothing
told_row-off : (log : List Entry) (n conn : ℕ) (half : Half) (cs : List Envelope) (room : Bool) (r : Row) → (room && is_some (slice_get cs 0)) ≡ false → told_to_end_row log n conn half cs room r ≡ r
told_row-off log n conn half [] room r h = refl
told_row-off log n conn half (k ∷ cs) true r h = cc
told_row-off log n conn half (k ∷ cs) false r h = refl

-- where it is told to end and has room, it does
record IsTold (cs : List Envelope) (room : Bool) : Type 0 where
  k : Envelope
  rest : List Envelope
  is : cs ≡ k ∷ rest
  has_room : room ≡ true

is_told : (cs : List Envelope) (room : Bool) → (room && is_some (slice_get cs 0)) ≡ true → IsTold cs room
is_told [] true h = cc
is_told [] false h = cc
is_told (k ∷ cs) true h = record { k = k; rest = cs; is = refl; has_room = refl }
is_told (k ∷ cs) false h = cc

-- where it has something to write and cannot, it ends
written_row-broken : (log : List Entry) (n conn : ℕ) (half : Half) (broken due : Bool) (xs : List Envelope) → (has_more due (map named xs) && broken) ≡ true
    → written_row log n conn half broken due xs ≡ end_row log n conn half ended.SendFailed cause.ConnectionEnded xs
written_row-broken log n conn half true true xs h = refl
written_row-broken log n conn half true false (y ∷ xs) h = refl
written_row-broken log n conn half true false [] h = cc
written_row-broken log n conn half false true xs h = cc
written_row-broken log n conn half false false (y ∷ xs) h = cc
written_row-broken log n conn half false false [] h = cc

-- else it writes
written_row-whole : (log : List Entry) (n conn : ℕ) (half : Half) (broken due : Bool) (xs : List Envelope) → (has_more due (map named xs) && broken) ≡ false
    → written_row log n conn half broken due xs ≡ write_row (queue.Link half.link half.writes) due xs
written_row-whole log n conn half true true xs h = cc
written_row-whole log n conn half true false (y ∷ xs) h = cc
written_row-whole log n conn half true false [] h = refl
written_row-whole log n conn half false true xs h = refl
written_row-whole log n conn half false false (y ∷ xs) h = refl
written_row-whole log n conn half false false [] h = refl

module _ (configs : List Config) (log : List Entry) (at seed conn n : ℕ) (half : Half) (due : Bool) (x y : Node) (l links : Links) (r : Row) (s : NodeStands configs log n x) (t : LinksStand configs log l)
    (up : is_up log n ≡ true) (has : live_half log n conn ≡ Some half) (begun : is_begun log n conn ≡ true) (running : has_run log n conn ≡ true)
    (heard : Each (λ z. names_ready conn z.item ≡ false) (line log (queue.Router n))) (pings : ping_is_due configs log n conn at ≡ due) where
  abbrev Done : Type 0
  Done = Performs configs log (asked at seed (act.SendStep conn n)) n y links r

  tracks : TrackerStands configs log n x.tracker
  tracks = s.each place.tracker

  lasts : is_stopped log n ≡ false
  lasts = up_lasts log n up

  routes : RouterStands configs log n x.router
  routes = (s.each place.router).runs lasts

  abbrev most : ℕ
  most = beside_ping due (batch_size_at configs n)

  size_is : beside_ping due x.config.send_batch_size ≡ most
  size_is = ap (beside_ping due) (sym (ap (λ (o : Option Config). elim o [ None ↦ 0 | Some c ↦ c.send_batch_size ]) s.own.config))

  abbrev broken : Bool
  broken = is_broken log half.link (other_side half.writes)

  abbrev written : Row
  written = written_row log n conn half broken due (batch log n conn most)

  row_told : row configs log at seed (act.SendStep conn n) ≡ told_to_end_row log n conn half (line log (queue.Control n conn)) (nat_lt 0 most) written
  unfolding row
  row_told = half_steps configs log conn n at half true true up has begun running ∙ ap (running_row configs log n conn half) pings

  -- whether it is told to end, by its tracker
  told_same : (nat_lt 0 (beside_ping due x.config.send_batch_size) && is_some (slice_get (held x.tracker.told (queue.Control n conn)) 0)) ≡ (nat_lt 0 most && is_some (slice_get (line log (queue.Control n conn)) 0))
  told_same =
      ap (λ m. nat_lt 0 m && is_some (slice_get (held x.tracker.told (queue.Control n conn)) 0)) size_is
      ∙ ap (λ (ws : List Envelope). nat_lt 0 most && is_some (slice_get ws 0)) (tracks.told (queue.Control n conn) (eq-eqb n n refl))

  killed : (nat_lt 0 most && is_some (slice_get (line log (queue.Control n conn)) 0)) ≡ true → EndsKilled (length log) n conn half x y l links r → Done
  killed h d =
      let to = is_told (line log (queue.Control n conn)) (nat_lt 0 most) h in
      let gone = killed_left configs log n conn half to.k to.rest x d.told_less l s lasts t to.is d.told d.tracker d.rest in
      sent_end_performs configs log at seed n conn half ended.Killed cause.ConnectionEnded (to.k ∷ []) x d.told_less y l l links r s lasts has begun running heard
      (row_told
      ∙ (ap (λ cs. told_to_end_row log n conn half cs (nat_lt 0 most) written) to.is
      ∙ ap (λ b. told_to_end_row log n conn half (to.k ∷ to.rest) b written) to.has_room))
      gone
      (subst (λ (z : Row). Ends (length log) n conn half d.told_less y l links z r)
      (killed_row configs log n conn half to.k to.rest x d.told_less l s lasts t to.is d.told d.tracker d.rest) d.ends)

  module _ (d : Writes (length log) n conn at half due x y l links r) (quiet : (nat_lt 0 most && is_some (slice_get (line log (queue.Control n conn)) 0)) ≡ false) where
    took : d.frames ≡ map named (batch log n conn most)
    took =
        d.batches.taken (mailbox_size_at configs x.router.number) (live log) routes.stands.holds (AreApart-live_from 0 log)
        ∙ (ap (λ m. map named (batch_of m conn (beside_ping due x.config.send_batch_size) (live log))) routes.number
        ∙ ap (λ m. map named m) (batch_is log n conn (beside_ping due x.config.send_batch_size) ∙ ap (batch log n conn) size_is))

    row_written : row configs log at seed (act.SendStep conn n) ≡ written
    row_written = row_told ∙ told_row-off log n conn half (line log (queue.Control n conn)) (nat_lt 0 most) written quiet

    can_same : (has_more due d.frames && is_broken_at l (other_side half.writes) half.link) ≡ (has_more due (map named (batch log n conn most)) && broken)
    can_same =
        ap (λ fs. has_more due fs && is_broken_at l (other_side half.writes) half.link) took
        ∙ ap (λ b. has_more due (map named (batch log n conn most)) && b) (broken_is configs log l half.link t (other_side half.writes))

    ends_unwritten : (has_more due (map named (batch log n conn most)) && broken) ≡ true → EndsUnwritten (length log) n conn half d.frames d.batched y l links r → Done
    ends_unwritten h ends =
        let xs = batch log n conn most in
        let same : batch_of n conn (beside_ping due x.config.send_batch_size) (live log) ≡ xs = batch_is log n conn (beside_ping due x.config.send_batch_size) ∙ ap (batch log n conn) size_is in
        sent_end_performs configs log at seed n conn half ended.SendFailed cause.ConnectionEnded xs x d.batched y l l links r s lasts has begun running heard
        (row_written ∙ written_row-broken log n conn half broken due xs h)
        (subst (λ v. HaveLeft configs log n conn half v x d.batched l l) same
        (batch_left configs log n conn (beside_ping due x.config.send_batch_size) half x d.batched l d.frames s lasts t d.batches d.kept))
        (subst (λ (z : Row). Ends (length log) n conn half d.batched y l links z r)
        (ap (λ fs. all_dropped cause.ConnectionEnded fs (ending ended.SendFailed)) took ∙ all_dropped-row ended.SendFailed cause.ConnectionEnded [] [] xs) ends)

    by_link : (b : Bool) → (has_more due (map named (batch log n conn most)) && broken) ≡ b → WritesTo b (length log) n conn at half due d.frames d.batched y l links r → Done
    by_link true h ends = ends_unwritten h ends
    by_link false h writes =
        write_performs configs log at seed conn n half due x d.batched y l links r s lasts t begun running pings d.frames d.batches d.kept
        (row_written ∙ written_row-whole log n conn half broken due (batch log n conn most) h) writes

    writes_perform : Done
    writes_perform =
        by_link (has_more due (map named (batch log n conn most)) && broken) refl
        (subst (λ b. WritesTo b (length log) n conn at half due d.frames d.batched y l links r) can_same d.writes)

  by_told : (b : Bool) → (nat_lt 0 most && is_some (slice_get (line log (queue.Control n conn)) 0)) ≡ b → WorksBy b (length log) n conn at half due x y l links r → Done
  by_told true h d = killed h d
  by_told false h d = writes_perform d h

  pub work_performs : Works (length log) n conn at half due x y l links r → Done
  work_performs d =
      by_told (nat_lt 0 most && is_some (slice_get (line log (queue.Control n conn)) 0)) refl
      (subst (λ b. WorksBy b (length log) n conn at half due x y l links r) told_same d)
