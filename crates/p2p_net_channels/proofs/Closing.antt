-- The channels of a node after an entry that drops the reader of one of them.
use Rattle.std.proofs.Common.{◌≡◌, ℕ, true, List, [], ◌∷◌, ◌++◌, ap, sym, ◌∙◌}
use Rattle.p2p_log.specs.declared.config.Config.{Config}
use Rattle.p2p_log.specs.declared.queue.Queue.TheVariants as queue
use Rattle.p2p_log.specs.declared.entry.Entry.{Entry}
use Rattle.p2p_log.specs.declared.entry.Reply.TheVariants as reply
use Rattle.p2p_log.specs.declared.event.Act.TheVariants as act
use Rattle.p2p_log_rules.specs.Facts.{stops, registers_at, capacity_in, rates, rate_in, sum_capacities}
use Rattle.p2p_log_rules.proofs.Channels.{is_stopped-kept}
use Rattle.p2p_net_queues.specs.Lines.{HoldsLines}
use Rattle.p2p_net_queues.specs.Tables.{at, cleared_at}
use Rattle.p2p_net_channels.specs.Channels.{has_reader, closed_with}
use Rattle.p2p_net_channels.specs.Stands.{AdmitsNone, SendsNone, ChannelsStand}
use Rattle.p2p_net_channels.specs.declared.channels.Channels.{Channels}
use Rattle.p2p_net_channels.proofs.Changes.{channels-kept}
use Rattle.p2p_net_channels.proofs.Checks.{checks_kept}
use Rattle.p2p_net_channels.proofs.Mailboxes.{named_closed, places-closed}
use Rattle.p2p_net_channels.proofs.Quotas.{rates-kept, same_rates, quota_stays}
use Rattle.p2p_net_channels.proofs.Readers.{closed_more}
use Rattle.p2p_net_channels.proofs.Sending.{senders_stay}

-- an entry that drops the reader of a channel: nothing waits there any more
pub channels_closed :
    (configs : List Config) (log : List Entry) (e : Entry) (n c : ℕ) (ch : Channels) → ChannelsStand configs log n ch → has_reader ch c ≡ true → e.event.act ≡ act.Close c n → e.reply ≡ reply.Ok
    → AdmitsNone configs log e n → SendsNone log e n → HoldsLines (queue.Channel n) (log ++ e ∷ []) (cleared_at ch.waiting c) → ChannelsStand configs (log ++ e ∷ []) n (closed_with c ch)
channels_closed configs log e n c ch s has acts done admits sends waits =
    let none : registers_at configs n e.event.act ≡ [] = ap (registers_at configs n) acts in
    record {
      capacities = λ d. places-closed ch.inbounds c d ∙ (s.capacities d ∙ ap (λ l. capacity_in l d) (sym (channels-kept configs log e n none)));
      total = s.total ∙ ap sum_capacities (sym (channels-kept configs log e n none));
      room = s.room;
      waits = waits;
      named = named_closed ch.inbounds c ch.waiting s.named;
      quotas = λ d. same_rates configs log e n d (at ch.quotas d) (rates-kept configs log e n none) (quota_stays configs log e n d (rate_in (rates log n) d) (at ch.quotas d) (s.quotas d) (λ conn. admits conn d));
      senders = senders_stay configs log e n ch.senders s.senders (rates-kept configs log e n none) sends;
      checks = checks_kept log e n ch.checks s.checks sends.checks;
      closed = closed_more log e n c ch has s.closed acts done;
      ended = s.ended ∙ sym (is_stopped-kept log e n (ap (stops n) acts));
    }
