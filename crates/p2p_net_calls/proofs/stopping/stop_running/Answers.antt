use Rattle.std.proofs.Common.{subst, ◌∷◌, []}
use Rattle.p2p_log.specs.declared.queue.Queue.TheVariants as queue
use Rattle.p2p_log_rules.specs.declared.row.Row.{Row}
use Rattle.p2p_net_links.specs.declared.links.Links.{Links}
use Rattle.p2p_net_calls.specs.Stopping.{Drains}
use Rattle.p2p_net_calls.proofs.stopping.stop_running.Goals as goal

pub returns-clause-does : goal.returns-clause-does
returns-clause-does c =
    let n = c.args.turn.node in
    let mailboxes = c.in_ok-stop_mailboxes.ensures in
    let messages = c.in_ok-stop_messages.ensures in
    let arrivals = c.in_ok-stop_arrivals.ensures in
    let told = c.in_ok-stop_told.ensures in
    let attempts = c.in_ok-stop_attempts.ensures in
    let handshakes = c.in_ok-stop_handshakes.ensures in
    let connections = c.in_ok-stop_connections.ensures in
    record {
      called = c.stop_mailboxes.new.node;
      called_row = c.stop_mailboxes.new.row;
      mailboxes =
          subst (λ (r : Row). (k : Links) → Drains n (queue.Router n ∷ queue.Tracker n ∷ []) c.args.node.now c.stop_mailboxes.new.node k k r c.stop_mailboxes.new.row) c.only-row.ensures
          mailboxes.drains;
      mailboxes_ended = mailboxes.rest;
      spawned = c.stop_messages.new.node;
      spawned_links = c.stop_messages.new.links;
      spawned_row = c.stop_messages.new.row;
      messages = messages.taken;
      messages_links = messages.links;
      messages_row = messages.row;
      heard = c.stop_arrivals.new.node;
      heard_links = c.stop_arrivals.new.links;
      heard_row = c.stop_arrivals.new.row;
      arrivals = arrivals.taken;
      arrivals_links = arrivals.links;
      arrivals_row = arrivals.row;
      told = c.stop_told.new.node;
      told_row = c.stop_told.new.row;
      told_drains = told.drains;
      told_rest = told.rest;
      tried = c.stop_attempts.new.node;
      tried_links = c.stop_attempts.new.links;
      tried_row = c.stop_attempts.new.row;
      attempts = attempts.drains;
      attempts_links = attempts.ends;
      attempts_rest = attempts.rest;
      attempts_ordered = attempts.ordered;
      shaken = c.stop_handshakes.new.node;
      shaken_links = c.stop_handshakes.new.links;
      shaken_row = c.stop_handshakes.new.row;
      handshakes = handshakes.drains;
      handshakes_links = handshakes.ends;
      handshakes_rest = handshakes.rest;
      handshakes_ordered = handshakes.ordered;
      left = c.stop_connections.new.node;
      connections = connections.drains;
      connections_links = connections.ends;
      connections_rest = connections.rest;
      connections_ordered = connections.ordered;
      closed = c.in_ok-close.ensures;
    }
