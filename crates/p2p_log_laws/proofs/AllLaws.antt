-- All that is told of a lawful log is so.
use Rattle.std.proofs.Common.{List}
use Rattle.p2p_log.specs.declared.config.Config.{Config}
use Rattle.p2p_log.specs.declared.event.Event.{Event}
use Rattle.p2p_log.specs.declared.entry.Entry.{Entry}
use Rattle.p2p_log_rules.specs.Lawful.{IsLawful}
use Rattle.p2p_log_laws.specs.Accounted.{IsAccounted}
use Rattle.p2p_log_laws.specs.NodeGrants.{granting}
use Rattle.p2p_log_laws.proofs.Accepting.{each_admitted, each_checked}
use Rattle.p2p_log_laws.proofs.EarlierLogs.{beginning_lawful}
use Rattle.p2p_log_laws.proofs.Checks.{checks_are_admitted, checks_are_spent_once}
use Rattle.p2p_log_laws.proofs.Connecting.{connect_is_reserved}
use Rattle.p2p_log_laws.proofs.ConnectionPeers.{connections_lead}
use Rattle.p2p_log_laws.proofs.Drops.{each_read, each_shown}
use Rattle.p2p_log_laws.proofs.EndShown.{each_end_shows, each_ends_one, each_is_ended_once, releases_timely}
use Rattle.p2p_log_laws.proofs.EndsOnce.{each_has_one_end, nothing_else_ends}
use Rattle.p2p_log_laws.proofs.FateLaws.{each_known, each_waiting, each_dropped, each_delivered as each_told_delivered}
use Rattle.p2p_log_laws.proofs.HandshakeLaws.{one_answer}
use Rattle.p2p_log_laws.proofs.Idling.{each_step_serves_first}
use Rattle.p2p_log_laws.proofs.KillCauses.{each_kill_has_its_cause}
use Rattle.p2p_log_laws.proofs.Killing.{each_kill_shown}
use Rattle.p2p_log_laws.proofs.Leaving.{leave_in_order}
use Rattle.p2p_log_laws.proofs.Ledger.{each_delivered}
use Rattle.p2p_log_laws.proofs.Listed.{lists_are_current}
use Rattle.p2p_log_laws.proofs.NodeGrants.{each_node_turn}
use Rattle.p2p_log_laws.proofs.OneConnection.{connections_are_one, ends_meet}
use Rattle.p2p_log_laws.proofs.Ordering.{delivered_over_one, each_went_over}
use Rattle.p2p_log_laws.proofs.OverLinks.{delivered_by_older}
use Rattle.p2p_log_laws.proofs.RegisteredOnce.{each_registers_once, each_start_settles}
use Rattle.p2p_log_laws.proofs.Releasing.{each_is_released_as_it_ends}
use Rattle.p2p_log_laws.proofs.Subscribing.{each_start_subscribes}
use Rattle.p2p_log_laws.proofs.Turns.{alternates, one_holder, each_released}

module _ (configs : List Config) (script : List Event) (log : List Entry) (lawful : IsLawful configs script log) where
  pub accounted : IsAccounted configs log
  accounted = record {
    beginnings = λ asked it n. beginning_lawful configs asked log it n;
    serves = each_step_serves_first configs script log lawful;
    starts = each_start_subscribes configs script log lawful;
    registered_once = each_registers_once configs log;
    settled = each_start_settles configs log;
    admitted = each_admitted configs script log lawful;
    checks = checks_are_admitted configs script log lawful;
    checked = each_checked configs script log lawful;
    spent = checks_are_spent_once configs script log lawful;
    lists = lists_are_current configs script log lawful;
    in_order = leave_in_order configs script log lawful;
    one_end = each_has_one_end configs script log lawful;
    nothing_else = nothing_else_ends configs script log lawful;
    delivery = each_delivered configs script log lawful;
    read = each_read configs script log lawful;
    link = delivered_over_one configs script log lawful;
    connections = delivered_by_older configs script log lawful;
    connection = each_went_over configs script log lawful;
    causes = each_shown configs script log lawful;
    fates = each_known configs script log lawful;
    waiting = each_waiting configs script log lawful;
    dropped = each_dropped configs script log lawful;
    delivered = each_told_delivered configs script log lawful;
    alternate = λ n key. alternates (granting configs n key) log (each_node_turn configs script log lawful n key);
    holder = λ n key. one_holder (granting configs n key) log (each_node_turn configs script log lawful n key);
    released = λ n key. each_released (granting configs n key) log (each_node_turn configs script log lawful n key);
    given_back = each_is_released_as_it_ends configs script log lawful;
    answered = λ n name. one_answer configs n script log lawful name;
    leads = connections_lead configs script log lawful;
    once = connections_are_one configs script log lawful;
    ends = ends_meet configs script log lawful;
    begins = connect_is_reserved configs script log lawful;
    kills = each_kill_shown configs script log lawful;
    killed_since = each_kill_has_its_cause configs script log lawful;
    shown = each_end_shows configs script log lawful;
    one = each_ends_one configs script log lawful;
    ended_once = each_is_ended_once configs script log lawful;
    timely = releases_timely configs script log lawful;
  }
