-- What a step of a handshake comes to, but for the end of its link, and which end it drops.
use Rattle.std.proofs.Common.{◌≡◌, ℕ, Bool, true, false, cond, List, [], ◌∷◌, map, take, length, refl, ap, sym, ◌∙◌, eqb-true, Option, Some, None}
use Rattle.std.specs.Prelude.{◌&&◌, ◌||◌, ◌==◌, not, is_some, filter}
use Rattle.std.specs.List.{list_any}
use Rattle.p2p_base.specs.declared.key.Key.{Key}
use Rattle.p2p_gates.specs.Handshaking.{Handshaking}
use Rattle.p2p_log.specs.declared.config.Config.{Config}
use Rattle.p2p_log.specs.declared.queue.Queue.{Queue}
use Rattle.p2p_log.specs.declared.queue.Queue.TheVariants as queue
use Rattle.p2p_log.specs.declared.queue.Side.{Side}
use Rattle.p2p_log.specs.declared.queue.Side.TheVariants as side
use Rattle.p2p_log.specs.declared.item.Item.{Item}
use Rattle.p2p_log.specs.declared.item.Envelope.{Envelope}
use Rattle.p2p_log.specs.declared.entry.Entry.{Entry}
use Rattle.p2p_log.specs.declared.event.Event.{Event}
use Rattle.p2p_log.specs.declared.event.Act.TheVariants as act
use Rattle.p2p_log.specs.QueueCode.{same_queue}
use Rattle.p2p_log.specs.Lines.{placed, stands_in, stays, live, line}
use Rattle.p2p_log_rules.specs.declared.row.Row.{Row}
use Rattle.p2p_log_rules.specs.Dropping.{LinkEnd, handshake_step_row, listening_end}
use Rattle.p2p_log_rules.specs.Puts.{is_spawn, broke_off}
use Rattle.p2p_log_rules.specs.Effect.{row, entry_of}
use Rattle.p2p_log_rules.specs.Facts.{taken}
use Rattle.p2p_log_rules.specs.Handshakes.{came_over}
use Rattle.p2p_log_rules.specs.Handshaking.{handshake_row}
use Rattle.p2p_net_queues.specs.Tables as table
use Rattle.p2p_net_tracker.specs.Handshaking.{left_of}
use Rattle.p2p_net_tracker.proofs.HandshakeSteps.{left_after}
use Rattle.p2p_net_dialing.specs.Dialing.{link_over}
use Rattle.p2p_net_node.specs.Places as place
use Rattle.p2p_net_node.specs.declared.node.Node.{Node}
use Rattle.p2p_net_dialing.proofs.DroppedEnds.{dropped, end_by, DidBeside, goes_by, LeavesLinks}
use Rattle.p2p_net_dialing.proofs.HandingOn.{Handed, handed_puts, handed_unlinked}

-- whichever way an item is taken, the rest is left
pub left_is : (took ended : Bool) → cond ended true took ≡ true → (l : List Envelope) → left_of took ended l ≡ left_after ended l
left_is true true h l = refl
left_is false true h l = refl
left_is true false h l = refl
left_is false false h l = cc

-- what waits for a handshake does not wait in a link
pub linked_elsewhere : (n name : ℕ) (s : Side) (j : ℕ) → same_queue (queue.Handshake n name) (queue.Link j s) ≡ false
linked_elsewhere n name side.Out j = refl
linked_elsewhere n name side.In j = refl

-- a row that moves of a handshake's line alone leaves the links alone
pub links_left : (log : List Entry) (n name : ℕ) (due : Row) (o : Handed) (rest : Queue → List Envelope) → due.puts ≡ handed_puts n o
    → ((p : Queue) → filter (stands_in p) (filter (stays (goes_by due)) (live log)) ≡ cond (same_queue (queue.Handshake n name) p) (rest p) (line log p)) → LeavesLinks log due
links_left log n name due o rest puts stay = record {
  kept = λ t j. stay (queue.Link j t) ∙ ap (λ c. cond c (rest (queue.Link j t)) (line log (queue.Link j t))) (linked_elsewhere n name t j);
  unput = λ t j. ap (λ l. filter (stands_in (queue.Link j t)) (placed (length log) 0 l)) puts ∙ handed_unlinked n (length log) o t j;
}

-- the handshake of this name is what it was
pub unmoved : (x : Node) (name : ℕ) (o : Option (Handshaking Key)) → table.at x.listening.handshakes name ≡ o
    → (k : ℕ) → cond (k == name) o (table.at x.listening.handshakes k) ≡ table.at x.listening.handshakes k
unmoved x name o there k = by (k == name) refl
  where
    by : (b : Bool) → (k == name) ≡ b → cond b o (table.at x.listening.handshakes k) ≡ table.at x.listening.handshakes k
    by true is = sym there ∙ ap (table.at x.listening.handshakes) (sym (eqb-true k name is))
    by false is = refl

-- the parts that a step of a handshake changes
abbrev pub named : List place.Part
named = place.tracker ∷ place.listener ∷ place.spawner ∷ []

-- where there is no link none is dropped
pub no_end : (kept : Bool) (s : Side) → end_by kept None s ≡ None
no_end true s = refl
no_end false s = refl

-- one that ends without a connection drops the end of its link
pub broken_end : (ended makes : Bool) (link : ℕ) → end_by (not ended || makes) (Some link) side.In ≡ cond (ended && not makes) (Some (link, side.In)) None
broken_end true true link = refl
broken_end true false link = refl
broken_end false makes link = refl

-- the items that may be taken
abbrev pub firsts : List Envelope → List Item
firsts waits = map (λ (x : Envelope). x.item) (take 1 waits)

-- the end that is dropped by such a row
abbrev pub lost_by : List Entry → ℕ → ℕ → Row → Option LinkEnd
lost_by log n name r = cond (broke_off r.reply (firsts (line log (queue.Handshake n name))) r.puts) (listening_end (came_over log name)) None

-- what a step comes to, but for the end of the link: the row is that of the handshake, and the node stands for the log with its entry, by
-- which that end is dropped too; what was taken is what might be; and the code drops the same end
pub record Shaken (configs : List Config) (log : List Entry) (ev : Event) (n name : ℕ) (x y : Node) (r : Row) : Type 0 where
  pub did : DidBeside configs log ev n x y named (lost_by log n name r) (handshake_row configs log name n ev.at) r
  pub took : broke_off r.reply (taken log (entry_of ev (dropped log (lost_by log n name r) r))) r.puts ≡ broke_off r.reply (firsts (line log (queue.Handshake n name))) r.puts
  pub keeps : end_by (is_some (table.at y.listening.handshakes name) || list_any is_spawn r.puts) (link_over (table.at x.listening.handshakes name)) side.In ≡ lost_by log n name r

-- the row of the act
pub step_row : (configs : List Config) (log : List Entry) (moment seed name n : ℕ) → row configs log moment seed (act.Handshake name n) ≡ handshake_step_row configs log name n moment
unfolding row
step_row configs log moment seed name n = refl
