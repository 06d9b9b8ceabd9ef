-- The channels of a node after one more entry.
use Rattle.std.proofs.Common.{◌≡◌, ℕ, Bool, true, false, cond, List, [], ◌∷◌, ◌++◌, map, refl, ap, sym, ◌∙◌, arith, eqb-true}
use Rattle.std.specs.Prelude.{◌==◌, not, flat_map}
use Rattle.std.specs.List.{list_any}
use Rattle.std.specs.BTreeMap.{is_at}
use Rattle.std.specs.Ordering.{nat_cmp}
use Rattle.std.proofs.lemmas.Bool.Decides.{nat_tests}
use Rattle.p2p_base.specs.declared.key.Key.{Key}
use Rattle.p2p_flow_connection.specs.Arriving.{Arrived as Mailboxes}
use Rattle.p2p_log.specs.declared.config.Config.{Config}
use Rattle.p2p_log.specs.declared.queue.Queue.TheVariants as queue
use Rattle.p2p_log.specs.declared.item.Envelope.{Envelope}
use Rattle.p2p_log.specs.declared.entry.Entry.{Entry}
use Rattle.p2p_log.specs.QueueCode.{same_queue}
use Rattle.p2p_log.specs.Lines.{line}
use Rattle.p2p_log.specs.declared.event.Act.{Act}
use Rattle.p2p_log.specs.declared.event.Act.TheVariants as act
use Rattle.p2p_log_rules.specs.Closing as closing
use Rattle.p2p_log_rules.specs.Tellings.{Telling}
use Rattle.p2p_log_rules.specs.Tellings as telling
use Rattle.p2p_log_rules.specs.Told.{told, when, told_unless_stopped}
use Rattle.p2p_log_rules.proofs.Acted.{tells_as, collected-kept}
use Rattle.p2p_log_rules.proofs.Channels as facts
use Rattle.p2p_log_rules.specs.Facts.{is_stopped, stops_node, with_capacity, registers_at, rates_by, rate_told, channels, capacity_in, rates, rate_in, sum_capacities}
pub use Rattle.p2p_log_rules.proofs.Channels.{channels-append, channels-kept}
use Rattle.p2p_net_queues.specs.Lines.{HoldsLines}
use Rattle.p2p_net_queues.proofs.Holding.{holds_frame}
use Rattle.p2p_net_queues.specs.Tables.{at}
use Rattle.p2p_net_channels.specs.Channels.{with_end}
use Rattle.p2p_net_channels.specs.Stands.{AdmitsNone, SendsNone, ClosesNone, ChannelsStand, LeavesChannels}
use Rattle.p2p_net_channels.specs.declared.channels.Channels.{Channels}
use Rattle.p2p_net_channels.proofs.Checks.{checks_kept}
use Rattle.p2p_net_channels.proofs.Mailboxes.{MailboxesMove, mailboxes_stay}
use Rattle.p2p_net_channels.proofs.Quotas.{rates-kept, same_rates, quota_stays}
use Rattle.p2p_net_channels.proofs.Readers.{closed_stay}
use Rattle.p2p_net_channels.proofs.Sending.{senders_stay}

-- the capacities of the channels go by their rates
same_channels : (configs : List Config) (log : List Entry) (e : Entry) (n : ℕ) → rates (log ++ e ∷ []) n ≡ rates log n → channels configs (log ++ e ∷ []) n ≡ channels configs log n
unfolding channels
same_channels configs log e n same = ap (map (with_capacity configs n)) same

-- an entry that leaves the rates of the channels, and these messages wait
channels_waiting :
    (configs : List Config) (log : List Entry) (e : Entry) (n : ℕ) (ch : Channels) (a : Mailboxes Key) (w : List (ℕ × List Envelope)) → ChannelsStand configs log n ch → MailboxesMove ch a w → a.ended ≡ is_stopped (log ++ e ∷ []) n → rates (log ++ e ∷ []) n ≡ rates log n
    → AdmitsNone configs log e n → SendsNone log e n → ((c : ℕ) → closing.is_closed (log ++ e ∷ []) n c ≡ closing.is_closed log n c) → HoldsLines (queue.Channel n) (log ++ e ∷ []) w → ChannelsStand configs (log ++ e ∷ []) n (record ch { inbounds = a; waiting = w })
channels_waiting configs log e n ch a w s moves ended same admits sends readers waits = record {
  capacities = λ c. moves.capacities c ∙ (s.capacities c ∙ ap (λ l. capacity_in l c) (sym (same_channels configs log e n same)));
  total = s.total ∙ ap sum_capacities (sym (same_channels configs log e n same));
  room = s.room;
  waits = waits;
  named = moves.named;
  quotas = λ c. same_rates configs log e n c (at ch.quotas c) same (quota_stays configs log e n c (rate_in (rates log n) c) (at ch.quotas c) (s.quotas c) (λ conn. admits conn c));
  senders = senders_stay configs log e n ch.senders s.senders same sends;
  checks = checks_kept log e n ch.checks s.checks sends.checks;
  closed = λ c. moves.closed c ∙ closed_stay log e n ch s.closed readers c;
  ended = ended;
}

-- no channel more, and these messages wait
pub channels_moved :
    (configs : List Config) (log : List Entry) (e : Entry) (n : ℕ) (ch : Channels) (a : Mailboxes Key) (w : List (ℕ × List Envelope)) → ChannelsStand configs log n ch → MailboxesMove ch a w → a.ended ≡ ch.inbounds.ended → registers_at configs n e.event.act ≡ []
    → AdmitsNone configs log e n → SendsNone log e n → ClosesNone log e n → HoldsLines (queue.Channel n) (log ++ e ∷ []) w → ChannelsStand configs (log ++ e ∷ []) n (record ch { inbounds = a; waiting = w })
channels_moved configs log e n ch a w s moves same none admits sends closes waits =
    channels_waiting configs log e n ch a w s moves (same ∙ (s.ended ∙ sym closes.goes_on)) (rates-kept configs log e n none) admits sends closes.readers waits

-- an entry that leaves them alone
pub channels_frame : (configs : List Config) (log : List Entry) (e : Entry) (n : ℕ) (ch : Channels) → ChannelsStand configs log n ch → LeavesChannels configs log e n → ChannelsStand configs (log ++ e ∷ []) n ch
channels_frame configs log e n ch s q =
    channels_moved configs log e n ch ch.inbounds ch.waiting s (mailboxes_stay ch s.named) refl q.registers q.admits q.sends q.closes (holds_frame (queue.Channel n) log e ch.waiting s.waits q.lines)

-- a node that has stopped registers no channel more
pub rates-stopped : (log : List Entry) (e : Entry) (n : ℕ) → is_stopped log n ≡ true → rates (log ++ e ∷ []) n ≡ rates log n
unfolding rates is_stopped
rates-stopped log e n over = by e.event.act refl
  where
    by : (a : Act) → e.event.act ≡ a → rates (log ++ e ∷ []) n ≡ rates log n
    by (act.Register c m rate) is = collected-kept log e (rate_told n) (ap (flat_map (rate_told n)) (tells_as (told log) log e (act.Register c m rate) is) ∙ here (m == n) refl)
      where
        told_now : List Telling
        told_now = telling.channel_registered m c rate ∷ []

        elsewhere : (b : Bool) → (m == n) ≡ false → flat_map (rate_told n) (when b told_now) ≡ []
        elsewhere true so = ap (λ b. cond b ((c, rate) ∷ []) [] ++ []) so
        elsewhere false so = refl

        here : (b : Bool) → (m == n) ≡ b → flat_map (rate_told n) (told_unless_stopped (told log) m told_now) ≡ []
        here true so = ap (λ b. flat_map (rate_told n) (when (not b) told_now)) (ap (λ k. list_any (stops_node k) (told log)) (eqb-true m n so) ∙ over)
        here false so = elsewhere (not (list_any (stops_node m) (told log))) so
    by a is = facts.rates-kept log e n (ap (rates_by n) is)

-- so an entry that else leaves its channels alone does so whatever it asks for
pub channels_stopped : (configs : List Config) (log : List Entry) (e : Entry) (n : ℕ) (ch : Channels) → ChannelsStand configs log n ch → is_stopped log n ≡ true → AdmitsNone configs log e n → SendsNone log e n → ClosesNone log e n
    → ((c : ℕ) → line (log ++ e ∷ []) (queue.Channel n c) ≡ line log (queue.Channel n c)) → ChannelsStand configs (log ++ e ∷ []) n ch
channels_stopped configs log e n ch s over admits sends closes lines =
    channels_waiting configs log e n ch ch.inbounds ch.waiting s (mailboxes_stay ch s.named) (s.ended ∙ sym closes.goes_on) (rates-stopped log e n over) admits sends closes.readers (holds_frame (queue.Channel n) log e ch.waiting s.waits lines)

-- an entry that stops the node, and else leaves its channels alone
pub channels_ended : (configs : List Config) (log : List Entry) (e : Entry) (n : ℕ) (ch : Channels) → ChannelsStand configs log n ch → is_stopped (log ++ e ∷ []) n ≡ true → registers_at configs n e.event.act ≡ []
    → AdmitsNone configs log e n → SendsNone log e n → ((c : ℕ) → closing.is_closed (log ++ e ∷ []) n c ≡ closing.is_closed log n c)
    → ((c : ℕ) → line (log ++ e ∷ []) (queue.Channel n c) ≡ line log (queue.Channel n c)) → ChannelsStand configs (log ++ e ∷ []) n (with_end ch)
channels_ended configs log e n ch s over none admits sends readers lines =
    channels_waiting configs log e n ch (with_end ch).inbounds ch.waiting s (record { capacities = λ c. refl; closed = λ c. refl; named = s.named }) (sym over) (rates-kept configs log e n none) admits sends readers
    (holds_frame (queue.Channel n) log e ch.waiting s.waits lines)

-- different channels have different queues
pub same_channel : (n c d : ℕ) → is_at (nat_cmp c) d ≡ same_queue (queue.Channel n c) (queue.Channel n d)
same_channel n c d = grind (arith, nat_tests)
