-- Each entry is computed by the definitions, which stand open here.
use Rattle.std.proofs.Common.{◌≡◌, [], Some, refl}
use Rattle.p2p_log.specs.declared.end.Cause.TheVariants as cause
use Rattle.p2p_log.specs.declared.queue.Queue.TheVariants as queue
use Rattle.p2p_log.specs.declared.report.Fate.TheVariants as fate
use Rattle.p2p_log.specs.Sending.{sending_at}
use Rattle.p2p_log.specs.Fates.{fate_of}
use Rattle.p2p_log.specs.Lines.{line, live_from}
use Rattle.p2p_log_rules.specs.Effect.{effect, row}
use Rattle.p2p_log_rules.specs.Admitting.{sent_moments}
use Rattle.p2p_log_rules.specs.Attempting.{attempts_of}
use Rattle.p2p_log_rules.specs.Closing.{is_closed}
use Rattle.p2p_log_rules.specs.Connections.{half_at, is_begun, has_run, is_ended}
use Rattle.p2p_log_rules.specs.Dialing.{dials_of}
use Rattle.p2p_log_rules.specs.Cutting.{is_cut}
use Rattle.p2p_log_rules.specs.Dropping.{is_dropped}
use Rattle.p2p_log_rules.specs.Standing.{standing}
use Rattle.p2p_log_rules.specs.Tellings.{last_told}
use Rattle.p2p_log_rules.specs.Told.{tells, told}
use Rattle.p2p_log_rules.specs.Facts.{is_up, is_started, is_stopped, rates, channels, taken, history_from, state_from, subscribers, routes}
use Rattle.p2p_log_rules.specs.Handshakes.{handshakes_of, has_taken}
use Rattle.p2p_log_rules.specs.Links.{openings_of, listening_ends_of}
use Rattle.p2p_log_rules.specs.Listening.{known_of}
use Rattle.p2p_log_rules.specs.Metering.{admitted}
use Rattle.p2p_log_rules.specs.Pings.{last_pinged}
use Rattle.p2p_log_rules.specs.Spawning.{connections_of}
use Rattle.p2p_log_rules.specs.Tracking.{calls_of, update_subscriptions, blocked_subscriptions}
use Rattle.p2p_tracker_calls.specs.Blocks.{block_of}
use Rattle.p2p_tracker_calls.specs.Grants.{is_held}
use Rattle.p2p_tracker_calls.specs.Lives.{address_of, last_grant, is_stale, is_connected}
use Rattle.p2p_tracker_calls.specs.Named.{all_names}
use Rattle.p2p_tracker_calls.specs.Sets.{how_many, accepted_sets, kept_sets, is_tracked, is_primary, primary_sets, secondary_sets}
use Rattle.p2p_tracker_calls.specs.Keeping.{kept_of}
use Rattle.p2p_tracker_calls.specs.Overwrites.{overwritten as written_over}
use Rattle.p2p_runtime.specs.Draws.{exchanged}
use Rattle.p2p_runtime.specs.QuotaLaw.{admits}
use Rattle.p2p_wire.specs.Frame.{frame, decode_frame}
use Rattle.p2p_wire.specs.Varint.{spelling, varint_at}
use Rattle.p2p_log_laws.specs.PlainPath.{two_nodes, delivery, delivery_begins, list_overwritten}
use Rattle.p2p_log_laws.specs.Worked.{one_node, drop_before_start, drop_without_connection}
use Rattle.p2p_log_laws.proofs.Following.{Follow, lawful_following}
use Rattle.p2p_log_laws.proofs.worked.worked_rows.Goals as goal

overwritten : effect two_nodes delivery_begins list_overwritten.event ≡ list_overwritten
unfolding effect row line live_from channels rates is_up is_started is_stopped sent_moments admits taken history_from state_from subscribers routes half_at is_begun has_run is_ended told tells last_told is_dropped is_cut connections_of
overwritten = refl

delivery_follows : Follow two_nodes [] delivery
unfolding effect row line live_from channels rates is_up is_started is_stopped sent_moments admits taken history_from state_from subscribers routes half_at is_begun has_run is_ended told tells last_told is_dropped is_cut attempts_of dials_of handshakes_of standing has_taken openings_of listening_ends_of known_of connections_of calls_of update_subscriptions blocked_subscriptions block_of is_held address_of last_grant is_stale is_connected all_names how_many accepted_sets kept_sets is_tracked is_primary primary_sets secondary_sets kept_of written_over frame decode_frame spelling varint_at exchanged last_pinged admitted is_closed
delivery_follows =
    (refl, (refl, (refl, (refl, (refl, (refl, (refl, (refl, (refl, (refl, (refl, (refl, (refl, (refl, (refl, (refl, (refl, (refl, (refl, (refl, (refl, (refl, (refl, (refl, (refl, (refl, (refl, (refl, (refl, (refl, (refl, (refl, (refl, (refl, (refl, (refl, (refl, (refl, (refl, (refl, (refl, tt)))))))))))))))))))))))))))))))))))))))))

drop_before_start_follows : Follow one_node [] drop_before_start
unfolding effect row line live_from taken tells told channels rates is_up is_started is_stopped sent_moments state_from admits
drop_before_start_follows = (refl, (refl, tt))

drop_without_connection_follows : Follow one_node [] drop_without_connection
unfolding effect row line live_from tells told channels rates is_up is_started is_stopped sent_moments state_from admits taken history_from subscribers routes frame spelling
drop_without_connection_follows = (refl, (refl, (refl, (refl, (refl, tt)))))

delivered : fate_of delivery (36, 0) ≡ Some (fate.Delivered (queue.Channel 1 7) 40)
unfolding fate_of sending_at
delivered = refl

unbound : fate_of drop_before_start (1, 0) ≡ Some (fate.Dropped cause.Unbound 1)
unfolding fate_of sending_at
unbound = refl

not_connected : fate_of drop_without_connection (2, 0) ≡ Some (fate.Dropped cause.NoConnection 4)
unfolding fate_of sending_at
not_connected = refl

pub returns : goal.returns
returns c = record {
  delivery = lawful_following two_nodes delivery delivery_follows;
  delivered = delivered;
  overwritten = overwritten;
  before_start = lawful_following one_node drop_before_start drop_before_start_follows;
  unbound = unbound;
  without_connection = lawful_following one_node drop_without_connection drop_without_connection_follows;
  not_connected = not_connected;
}
