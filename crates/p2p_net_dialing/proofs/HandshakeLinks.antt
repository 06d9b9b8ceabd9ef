-- A step of a handshake, with the end of its link.
use Rattle.p2p_log_rules.specs.Facts.{is_stopped}
use Rattle.std.proofs.Common.{◌≡◌, ℕ, true, false, cond, List, length, refl, ap, sym, ◌∙◌, Option, None}
use Rattle.std.specs.Prelude.{◌||◌, is_some}
use Rattle.std.specs.List.{list_any}
use Rattle.p2p_log.specs.declared.config.Config.{Config}
use Rattle.p2p_log.specs.declared.queue.Queue.TheVariants as queue
use Rattle.p2p_log.specs.declared.queue.Side.TheVariants as side
use Rattle.p2p_log.specs.declared.entry.Entry.{Entry}
use Rattle.p2p_log.specs.declared.event.Act.TheVariants as act
use Rattle.p2p_log.specs.Lines.{line}
use Rattle.p2p_log_rules.specs.declared.row.Row.{Row}
use Rattle.p2p_log_rules.specs.Dropping.{handshake_drops, listening_end}
use Rattle.p2p_log_rules.specs.Puts.{is_spawn}
use Rattle.p2p_log_rules.proofs.Dropping.{all_of, drops_of-handshake}
use Rattle.p2p_log_rules.specs.Effect.{entry_of}
use Rattle.p2p_log_rules.specs.Handshakes.{came_over, is_handshaking}
use Rattle.p2p_log_rules.specs.Handshaking as log_rule
use Rattle.p2p_log_laws.proofs.HandedSides.{HandshakeDialed}
use Rattle.p2p_net_queues.specs.Tables as table
use Rattle.p2p_net_links.specs.Stands.{LinksStand}
use Rattle.p2p_net_links.specs.declared.links.Links.{Links}
use Rattle.p2p_net_dialing.specs.Dialing.{link_over, HandshakeSteps}
use Rattle.p2p_net_node.specs.Stands.{NodeStands}
use Rattle.p2p_net_node.specs.declared.node.Node.{Node}
use Rattle.p2p_net_dialing.proofs.DroppedEnds.{dropped, performs_beside}
use Rattle.p2p_net_node.proofs.EachPart.{not_among-links}
use Rattle.p2p_net_node.proofs.Performing.{asked, Performs}
use Rattle.p2p_net_dialing.proofs.Shaken.{named, lost_by, Shaken, step_row}
use Rattle.p2p_net_dialing.proofs.Handshaking.{shaken}

pub handshake_performs : (configs : List Config) (log : List Entry) (moment seed name n : ℕ) (x y : Node) (l ls : Links) (r : Row) → NodeStands configs log n x → LinksStand configs log l
    → HandshakeDialed log n name → (is_handshaking log n name ≡ true → is_stopped log n ≡ false) → HandshakeSteps (length log) n name moment x y l ls r → Performs configs log (asked moment seed (act.Handshake name n)) n y ls r
handshake_performs configs log moment seed name n x y l ls r s t heard running_lasts d =
    let link : Option ℕ = came_over log name in
    let waits = line log (queue.Handshake n name) in
    let h : Shaken configs log (asked moment seed (act.Handshake name n)) n name x y d.row = shaken configs log moment seed name n x y d.row s d.steps heard running_lasts in
    performs_beside configs log (asked moment seed (act.Handshake name n)) n x y l ls named (lost_by log n name d.row) (log_rule.handshake_row configs log name n moment) d.row r
    (is_some (table.at y.listening.handshakes name) || list_any is_spawn d.row.puts) (link_over (table.at x.listening.handshakes name)) side.In s t refl refl refl
    (λ p out. not_among-links named p n out) h.did d.drops h.keeps
    (drops_of-handshake log (entry_of (asked moment seed (act.Handshake name n)) (dropped log (lost_by log n name d.row) d.row)) name n refl ∙ ap (λ b. all_of (cond b (listening_end link) None)) h.took)
    (step_row configs log moment seed name n ∙ ap (handshake_drops log link waits) (sym h.did.row_is))
