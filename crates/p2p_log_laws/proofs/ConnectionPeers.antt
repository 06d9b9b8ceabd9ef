-- Each connection leads to its peer, over a lawful log.
use Rattle.std.proofs.Common.{◌≡◌, ℕ, Bool, true, false, cond, List, [], ◌∷◌, ◌++◌, map, length, Option, Some, None, ◌⊎◌, inl, inr, refl, ap, sym, subst, ◌∙◌, eqb-true}
use Rattle.std.specs.Prelude.{◌==◌, filter}
use Rattle.std.specs.List.{AllByRecursion as Each}
use Rattle.std.proofs.lemmas.Option.{same_Some}
use Rattle.p2p_log.specs.declared.config.Config.{Config}
use Rattle.p2p_log.specs.declared.queue.Queue.{Queue}
use Rattle.p2p_log.specs.declared.queue.Queue.TheVariants as queue
use Rattle.p2p_log.specs.declared.item.Item.{Item}
use Rattle.p2p_log.specs.declared.item.Item.TheVariants as item
use Rattle.p2p_log.specs.declared.item.Envelope.{Envelope}
use Rattle.p2p_log.specs.declared.entry.Entry.{Entry}
use Rattle.p2p_log.specs.declared.event.Act.{Act}
use Rattle.p2p_log.specs.declared.event.Act.TheVariants as act
use Rattle.p2p_log.specs.declared.event.Event.{Event}
use Rattle.p2p_log.specs.Lines.{goes, stays, placed, live_from, live}
use Rattle.p2p_log.proofs.Each.{Each-append, Each-filter, Each-weaker}
use Rattle.p2p_log.proofs.Lines.{live-append}
use Rattle.p2p_log.proofs.QueueNames.{queue_from_same}
use Rattle.p2p_log.proofs.Taken.{Each-taken}
use Rattle.p2p_log_rules.specs.Standing.{standing}
use Rattle.p2p_log_rules.specs.Told.{told}
use Rattle.p2p_log_rules.specs.declared.row.Row.{Row}
use Rattle.p2p_log_rules.specs.Effect.{effect, entry_of, row}
use Rattle.p2p_log_rules.specs.Facts.{taken, state_from, with_begun}
use Rattle.p2p_log_rules.specs.Handshakes.{handshakes_of}
use Rattle.p2p_log_rules.specs.Lawful.{IsLawful}
use Rattle.p2p_log_rules.specs.Links.{openings_of}
use Rattle.p2p_log_rules.specs.Spawning.{Spawned, spawned_of, connections_of}
use Rattle.p2p_log_rules.proofs.Moves.{taken_stood}
use Rattle.p2p_log_rules.proofs.Spawning.{connections_of-acted}
use Rattle.p2p_log_laws.proofs.Reaching.{reads}
use Rattle.p2p_log_laws.specs.Leading.{LeadsTo, ConnectionsLead}
use Rattle.p2p_log_laws.proofs.Admitting.{peers_come}
use Rattle.p2p_log_laws.proofs.EachSays.{each_says}
use Rattle.p2p_log_laws.proofs.Fitting.{Each-placed}
use Rattle.p2p_log_laws.proofs.Linking.{LeadsTo-longer}
use Rattle.p2p_log_laws.proofs.Openings.{are_opened}
use Rattle.p2p_log_laws.proofs.Prefixes.{at_end}
use Rattle.p2p_log_laws.proofs.Saying.{Says, PutSays, StandSays, PeersCome, AreOpened, says_still}
use Rattle.p2p_log_laws.proofs.Shape.{Shape}
use Rattle.p2p_log_laws.proofs.Shapes.{row_shape}
use Rattle.p2p_log_laws.proofs.Weighing.{taken_items}
use Rattle.p2p_log_rules.proofs.Steps.{steps_spawner}

-- all that is known of links, which each entry keeps
pub record AreLed (configs : List Config) (log : List Entry) : Type 0 where
  pub say : Each (StandSays configs log) (live log)
  pub come : PeersCome configs log
  pub opened : AreOpened configs log
  pub connections : ConnectionsLead configs log

led_first : (configs : List Config) → AreLed configs []
unfolding live_from handshakes_of standing openings_of connections_of told state_from
led_first configs = record { say = tt; come = λ n h s runs is. absurd (cc); opened = λ link o is. absurd (cc); connections = λ n conn c is. absurd (cc) }

-- ---- the connections that an entry makes

-- a connection was there before, or is made of what was taken
made_or_before : (b : Bool) (o : Option Spawned) (m : ℕ) (f : ℕ → Option Spawned) (k : ℕ) (c : Spawned) → cond b (with_begun o m f k) (f k) ≡ Some c → (f k ≡ Some c) ⊎ ((b ≡ true) × (o ≡ Some c))
made_or_before false o m f k c is = inl is
made_or_before true None m f k c is = inl is
made_or_before true (Some d) m f k c is = by (k == m) is
  where
    by : (b : Bool) → cond b (Some d) (f k) ≡ Some c → (f k ≡ Some c) ⊎ ((true ≡ true) × (Some d ≡ Some c))
    by true so = inr (refl, so)
    by false so = inl so

module _ (configs : List Config) (log : List Entry) where
  -- a step of a spawner takes of its mailbox alone
  from_mailbox : (n : ℕ) (a : Act) → steps_spawner n a ≡ true → (q : Queue) → reads configs log a q ≡ true → q ≡ queue.Spawner n
  from_mailbox n (act.Spawner m) steps q read = queue_from_same (queue.Spawner m) q read ∙ ap queue.Spawner (eqb-true m n steps)
  from_mailbox n _ steps q read = absurd (cc)

  spawned_leads : (n : ℕ) (c : Spawned) (xs : List Envelope) → Each (StandSays configs log) xs → Each (λ x. x.queue ≡ queue.Spawner n) xs → spawned_of (map (λ x. x.item) xs) ≡ Some c
      → LeadsTo configs log n c.key c.link
  spawned_leads n c [] say stood is = absurd (cc)
  spawned_leads n c (x ∷ xs) say stood is = by x.item (subst (λ q. Says configs log q x.item) stood.0 say.0) is
    where
      by : (i : Item) → Says configs log (queue.Spawner n) i → spawned_of (i ∷ map (λ y. y.item) xs) ≡ Some c → LeadsTo configs log n c.key c.link
      by (item.Spawn key link) says so = subst (λ (d : Spawned). LeadsTo configs log n d.key d.link) (same_Some _ c so) says
      by _ says so = absurd (cc)

-- ---- one more entry

module _ (configs : List Config) (log : List Entry) (ev : Event) (led : AreLed configs log) where
  abbrev r : Row
  r = row configs log ev.at ev.seed ev.act

  abbrev longer : List Entry
  longer = log ++ entry_of ev r ∷ []

  abbrev shape : Shape configs log ev.act r
  shape = row_shape configs log ev.at ev.seed ev.act

  say_more : Each (StandSays configs longer) (live longer)
  unfolding effect
  say_more =
      subst (Each (StandSays configs longer)) (sym (live-append log (entry_of ev r)))
      (Each-append (StandSays configs longer) (filter (stays (goes (entry_of ev r))) (live log)) (placed (length log) 0 r.puts)
      (Each-filter (StandSays configs longer) (stays (goes (entry_of ev r))) (live log)
      (Each-weaker (StandSays configs log) (StandSays configs longer) (λ x says. says_still configs log ev x.queue x.item says) (live log) led.say))
      (Each-placed (PutSays configs longer) (length log) 0 r.puts (each_says configs log ev.at ev.seed led.say led.come led.opened ev.act)))

  connections_more : ConnectionsLead configs longer
  connections_more n conn c is =
      LeadsTo-longer configs log (entry_of ev r ∷ []) n c.key c.link
      (by
      (made_or_before (steps_spawner n ev.act) (spawned_of (taken log (entry_of ev r))) (length log) (connections_of log n) conn c
      (sym (connections_of-acted log (entry_of ev r) n (steps_spawner n ev.act) refl conn) ∙ is)))
    where
      by : (connections_of log n conn ≡ Some c) ⊎ ((steps_spawner n ev.act ≡ true) × (spawned_of (taken log (entry_of ev r)) ≡ Some c)) → LeadsTo configs log n c.key c.link
      by (inl before) = led.connections n conn c before
      by (inr made) =
          spawned_leads configs log n c shape.moves.taken (Each-taken (StandSays configs log) (live log) shape.moves.taken led.say (taken_stood log ev r shape.moves))
          (Each-weaker (λ x. reads configs log ev.act x.queue ≡ true) (λ x. x.queue ≡ queue.Spawner n) (λ x read. from_mailbox configs log n ev.act made.0 x.queue read) shape.moves.taken shape.reach.taken)
          (ap spawned_of (sym (taken_items log ev r shape.moves)) ∙ made.1)

led_more : (configs : List Config) (log : List Entry) (ev : Event) → AreLed configs log → AreLed configs (log ++ effect configs log ev ∷ [])
unfolding effect
led_more configs log ev led = record {
  say = say_more configs log ev led;
  come = peers_come configs log ev led.say led.come;
  opened = are_opened configs log ev led.opened;
  connections = connections_more configs log ev led;
}

pub are_led : (configs : List Config) (script : List Event) (log : List Entry) → IsLawful configs script log → AreLed configs log
are_led configs script log lawful = at_end configs (AreLed configs) (led_first configs) (led_more configs) script log lawful

pub connections_lead : (configs : List Config) (script : List Event) (log : List Entry) → IsLawful configs script log → ConnectionsLead configs log
connections_lead configs script log lawful = (are_led configs script log lawful).connections
