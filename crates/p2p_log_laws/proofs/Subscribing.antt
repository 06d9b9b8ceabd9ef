-- A start puts the subscription of each channel that was registered before it.
use Rattle.std.proofs.Common.{◌≡◌, ℕ, Bool, true, false, cond, List, [], ◌∷◌, ◌++◌, map, take, refl, ap, sym, ◌∙◌}
use Rattle.std.specs.Prelude.{◌==◌}
use Rattle.std.proofs.lemmas.List.{map-append}
use Rattle.p2p_log.specs.declared.config.Config.{Config}
use Rattle.p2p_log.specs.declared.queue.Queue.{Queue}
use Rattle.p2p_log.specs.declared.item.Item.{Item}
use Rattle.p2p_log.specs.declared.entry.Entry.{Entry}
use Rattle.p2p_log.specs.declared.event.Act.{Act}
use Rattle.p2p_log.specs.declared.event.Act.TheVariants as act
use Rattle.p2p_log.specs.declared.event.Event.{Event}
use Rattle.p2p_log.specs.declared.entry.Reply.TheVariants as reply
use Rattle.p2p_log_rules.specs.declared.row.Row.{Row}
use Rattle.p2p_log_rules.specs.Effect.{only, row, effect}
use Rattle.p2p_log_rules.specs.Facts.{is_stopped, channels, events_of, with_capacity, registers_at, registered}
use Rattle.p2p_log_rules.specs.Lawful.{IsLawful}
use Rattle.p2p_log_rules.proofs.Channels.{channels-asked}
use Rattle.p2p_log_laws.specs.Subscribing.{registered_by, registrations, subscription, EachStartSubscribes}
use Rattle.p2p_log_laws.proofs.Prefixes.{entry_due}

module _ (configs : List Config) (n : ℕ) where
  abbrev put : ℕ × ℕ → Queue × Item
  put c = subscription n c.0

  -- the channel that an act registers, with its capacity and without
  same_channel : (a : Act) → map put (registers_at configs n a) ≡ map (subscription n) (registered_by n a)
  same_channel (act.Register c m rate) = by (m == n)
    where
      by : (b : Bool) → map put (map (with_capacity configs n) (cond b ((c, rate) ∷ []) [])) ≡ map (subscription n) (cond b (c ∷ []) [])
      by true = refl
      by false = refl
  same_channel _ = refl

  same_channels : (log : List Entry) → map put (registered configs (events_of log) n) ≡ map (subscription n) (registrations n log)
  unfolding registered
  same_channels [] = refl
  same_channels (e ∷ es) =
      map-append put (registers_at configs n e.event.act) (registered configs (events_of es) n)
      ∙ (ap (λ l. l ++ map put (registered configs (events_of es) n)) (same_channel e.event.act)
      ∙ (ap (λ l. map (subscription n) (registered_by n e.event.act) ++ l) (same_channels es)
      ∙ sym (map-append (subscription n) (registered_by n e.event.act) (registrations n es))))

  -- where it is accepted, its node has not stopped
  start_puts : (log : List Entry) (at seed : ℕ) (a : Act) → a ≡ act.Start n → (row configs log at seed a).reply ≡ reply.Ok → (row configs log at seed a).puts ≡ map (subscription n) (registrations n log)
  unfolding row
  start_puts log at seed a is accepted = ap (λ b. (row configs log at seed b).puts) is ∙ by (is_stopped log n) refl (sym (ap (λ b. (row configs log at seed b).reply) is) ∙ accepted)
    where
      due : Row
      due = record { reply = reply.Ok; takes = []; puts = map put (channels configs log n); ends = [] }

      by : (b : Bool) → is_stopped log n ≡ b → (cond b (only reply.Gone) due).reply ≡ reply.Ok → (cond b (only reply.Gone) due).puts ≡ map (subscription n) (registrations n log)
      by true is said = cc
      by false is said = ap (map put) (channels-asked configs log n is) ∙ same_channels log

  effect_puts : (log : List Entry) (ev : Event) → (effect configs log ev).event.act ≡ act.Start n → (effect configs log ev).reply ≡ reply.Ok → (effect configs log ev).puts ≡ map (subscription n) (registrations n log)
  unfolding effect
  effect_puts log ev is accepted = start_puts log ev.at ev.seed ev.act is accepted

pub each_start_subscribes : (configs : List Config) (script : List Event) (log : List Entry) → IsLawful configs script log → EachStartSubscribes log
each_start_subscribes configs script log lawful k n e here is accepted =
    let due = entry_due configs script log lawful k e here in
    ap (λ (x : Entry). x.puts) due.1 ∙ effect_puts configs n (take k log) due.0 (sym (ap (λ (x : Entry). x.event.act) due.1) ∙ is) (sym (ap (λ (x : Entry). x.reply) due.1) ∙ accepted)
