-- What each entry of a lawful log keeps: items of their queues' kinds, and the balance of carriers and ends.
use Rattle.p2p_log.specs.Sending.{sending_at}
use Rattle.std.proofs.Common.{◌≡◌, ℕ, true, List, [], ◌∷◌, ◌++◌, map, take, drop, Some, ap, sym, subst, ◌∙◌, arith, take-append-drop}
use Rattle.std.specs.Prelude.{nat_lt, count_by}
use Rattle.std.specs.List.{AllByRecursion as Each}
use Rattle.std.proofs.lemmas.Bool.Decides.{nat_tests}
use Rattle.p2p_log.specs.declared.config.Config.{Config}
use Rattle.p2p_log.specs.declared.event.Event.{Event}
use Rattle.p2p_log.specs.declared.entry.Entry.{Entry}
use Rattle.p2p_log_rules.specs.Lawful.{IsLawful}
use Rattle.p2p_log.specs.Lines.{live}
use Rattle.p2p_log.specs.Copies.{copies_of, carries, carriers}
use Rattle.p2p_log_rules.specs.Effect.{effect, row, entry_of}
use Rattle.p2p_log.specs.declared.queue.Queue.{Queue}
use Rattle.p2p_log.specs.declared.item.Item.{Item}
use Rattle.p2p_log.specs.declared.item.Item.TheVariants as item
use Rattle.p2p_log.specs.declared.end.End.TheVariants as end
use Rattle.p2p_log.specs.declared.end.Outcome.TheVariants as outcome
use Rattle.p2p_log.specs.declared.end.End.{End}
use Rattle.p2p_log.specs.declared.entry.Reply.TheVariants as reply
use Rattle.p2p_log.specs.declared.event.Act.{Act}
use Rattle.p2p_log_rules.specs.declared.row.Row.{Row}
use Rattle.p2p_base.specs.declared.key.Key.{Key}
use Rattle.p2p_log_rules.specs.Facts.{key_at}
use Rattle.p2p_log.proofs.Each.{Each-has}
use Rattle.p2p_log_rules.specs.Moves.{Moves}
use Rattle.p2p_log_rules.proofs.Lawful.{IsLawful-nil, IsLawful-append}
use Rattle.p2p_log.proofs.Taken.{AreTaken-first, Each-taken}
use Rattle.p2p_log.specs.Taken.{AreTaken}
use Rattle.p2p_log_laws.specs.OneEnd.{EachEndsOnce}
use Rattle.p2p_log_laws.specs.Delivered.{HasKey, IsDelivery, EachIsDelivery}
use Rattle.p2p_log_rules.specs.Reading.{reading_of, told_of_reading, is_read}
use Rattle.p2p_log.specs.QueueCode.{owner_of}
use Rattle.std.proofs.lemmas.Option.{same_Some}
use Rattle.p2p_log_laws.proofs.Fitting.{fits, StandsFit}
use Rattle.p2p_log_laws.proofs.Telling.{message_told, HasKey-longer}
use Rattle.p2p_log_laws.proofs.Telling.{Tells, StandTells, IsCopyOf-longer}
use Rattle.p2p_log_laws.proofs.FrameLaw.{frames_give}
use Rattle.p2p_log_laws.proofs.Halves.{halves_meet}
use Rattle.p2p_log_laws.proofs.Routing.{RoutesHold, routes_none, routes_kept}
use Rattle.p2p_log_laws.proofs.Truth.{tells_kept}
use Rattle.p2p_log_laws.proofs.Balance.{live-none, balance_kept, fitting_kept}
use Rattle.p2p_log_laws.proofs.Prefixes.{lawful_at_each, lawful_at_end, entry_due}
use Rattle.p2p_log_laws.proofs.Shape.{Shape, Laws, Delivery}
use Rattle.p2p_log_laws.proofs.Shapes.{row_shape}
use Rattle.p2p_log_laws.proofs.Showing.{Standing}
use Rattle.p2p_log_laws.proofs.Spreading.{one}

none_yet : (configs : List Config) → EachEndsOnce []
unfolding sending_at
none_yet configs copy =
    let carried : carriers [] copy ≡ 0 = ap (λ xs. count_by (carries copy) xs) live-none in
    let none = in_none copy.1 in
    omega (arith, carried, none)
  where
    in_none : (p : ℕ) → one (nat_lt p 0) ≡ 0
    in_none p = grind (arith, nat_tests)

-- what stands in queues is of its queue's kind and tells the truth, routes hold, and each copy has one carrier or one end
pub record Told (configs : List Config) (log : List Entry) : Type 0 where
  pub standing : Standing configs log
  pub routes : RoutesHold configs log
  pub balance : EachEndsOnce log

pub Told-none : (configs : List Config) → Told configs []
Told-none configs = record {
  standing = record {
    fitting = subst (Each StandsFit) (sym live-none) tt;
    tells = subst (Each (StandTells configs [])) (sym live-none) tt;
    halves = halves_meet configs [] [] (IsLawful-nil configs);
  };
  routes = routes_none configs;
  balance = none_yet configs;
}

-- the laws of the row of an event
pub row_laws : (configs : List Config) (log : List Entry) (at seed : ℕ) (a : Act) → Each StandsFit (live log) → Laws configs log a (row configs log at seed a) (row_shape configs log at seed a).moves
row_laws configs log at seed a fitting = (row_shape configs log at seed a).laws fitting

-- halves meet in a lawful log, as the log with one entry more is
pub Told-more : (configs : List Config) (script : List Event) (before : List Entry) (ev : Event) → IsLawful configs script before → Told configs before
    → Told configs (before ++ effect configs before ev ∷ [])
unfolding effect
Told-more configs script before ev lawful told =
    let r = row configs before ev.at ev.seed ev.act in
    let shape : Shape configs before ev.act r = row_shape configs before ev.at ev.seed ev.act in
    let laws : Laws configs before ev.act r shape.moves = shape.laws told.standing.fitting in
    record {
      standing = record {
        fitting = fitting_kept before ev r shape.moves laws.fitting told.standing.fitting;
        tells = tells_kept configs frames_give before ev r shape.moves laws told.standing.tells told.standing.halves told.routes;
        halves = halves_meet configs (script ++ ev ∷ []) (before ++ entry_of ev r ∷ []) (IsLawful-append configs script before ev lawful);
      };
      routes = routes_kept configs before ev r shape.moves shape.reach told.standing.tells told.routes;
      balance = balance_kept before ev r shape.moves laws.balanced told.balance;
    }

module _ (configs : List Config) (script : List Event) (log : List Entry) (lawful : IsLawful configs script log) where
  pub Told-each : (n : ℕ) → Told configs (take n log)
  Told-each n = lawful_at_each configs (Told configs) (Told-none configs) (Told-more configs) script log lawful n

  pub Told-end : Told configs log
  Told-end = lawful_at_end configs (Told configs) (Told-none configs) (Told-more configs) script log lawful

-- ---- a delivery

IsDelivery-longer : (configs : List Config) (log more : List Entry) (ends : List End) (q : Queue) (bytes : List ℕ) (from : Key)
    → IsDelivery configs log ends q bytes from → IsDelivery configs (log ++ more) ends q bytes from
IsDelivery-longer configs log more ends q bytes from h = record {
  copy = h.copy;
  ended = h.ended;
  sender = h.sender;
  key = HasKey-longer configs log more h.sender from h.key;
  channel = h.channel;
  on = h.on;
  whole = h.whole;
  gives = h.gives;
  sent = IsCopyOf-longer log more h.copy h.sender h.channel h.whole (key_at configs (owner_of q)) h.sent;
}

module _ (configs : List Config) (before : List Entry) (stand : Standing configs before) (r : Row) (a : Act) (m : Moves before r) where
  delivery_of : (q : Queue) (i : Item) (bytes : List ℕ) (from : Key) → told_of_reading q i ≡ reply.Message bytes from → r.ends ≡ map (λ copy. end.Copy copy.0 copy.1 outcome.Delivered) (copies_of i)
      → fits q i ≡ true → Tells configs before i q → IsDelivery configs before r.ends q bytes from
  delivery_of q (item.Message whole copy other) bytes from says ended fit tells =
      let froms : other ≡ from = cc in
      let here = message_told configs before q whole copy other fit tells in
      let arrived = here.2 in
      record { copy = copy; ended = ended; sender = arrived.sender; key = subst (HasKey configs before arrived.sender) froms arrived.key; channel = here.0; on = here.1; whole = whole; gives = cc; sent = arrived.sent }
  delivery_of q _ bytes from says ended fit tells = absurd (cc)

  delivery_is : (q : Queue) (bytes : List ℕ) (from : Key) → reading_of configs before a ≡ Some q → r.reply ≡ reply.Message bytes from → Delivery configs before a r.reply m.taken r.ends
      → IsDelivery configs before r.ends q bytes from
  delivery_is q bytes from reads said d =
      let stood : AreTaken (live before) m.taken = AreTaken-first (live before) m.taken m.ended m.stood in
      let tells : StandTells configs before d.read = Each-has (StandTells configs before) m.taken d.read (Each-taken (StandTells configs before) (live before) m.taken stand.tells stood) d.has in
      let fit : StandsFit d.read = Each-has StandsFit m.taken d.read (Each-taken StandsFit (live before) m.taken stand.fitting stood) d.has in
      let queues : d.read.queue ≡ q = d.in_queue ∙ same_Some d.queue q (sym d.reads ∙ reads) in
      delivery_of q d.read.item bytes from (ap (λ p. told_of_reading p d.read.item) (sym (sym d.in_queue ∙ queues)) ∙ (sym d.tells ∙ said)) d.ended
      (subst (λ p. fits p d.read.item ≡ true) queues fit) (subst (Tells configs before d.read.item) queues tells)

delivered_at : (configs : List Config) (before : List Entry) (ev : Event) (q : Queue) (bytes : List ℕ) (from : Key) (e : Entry) → Told configs before
    → e ≡ effect configs before ev → reading_of configs before e.event.act ≡ Some q → e.reply ≡ reply.Message bytes from → IsDelivery configs before e.ends q bytes from
unfolding effect
delivered_at configs before ev q bytes from e told is reads replies =
    let r = row configs before ev.at ev.seed ev.act in
    let shape : Shape configs before ev.act r = row_shape configs before ev.at ev.seed ev.act in
    let acts : reading_of configs before ev.act ≡ Some q = ap (λ (d : Entry). reading_of configs before d.event.act) (sym is) ∙ reads in
    let said : r.reply ≡ reply.Message bytes from = ap (λ (d : Entry). d.reply) (sym is) ∙ replies in
    subst (λ (d : Entry). IsDelivery configs before d.ends q bytes from) (sym is)
    (delivery_is configs before told.standing r ev.act shape.moves q bytes from acts said ((shape.laws told.standing.fitting).delivers (ap is_read said)))

module _ (configs : List Config) (script : List Event) (log : List Entry) (lawful : IsLawful configs script log) where
  pub each_delivered : EachIsDelivery configs log
  each_delivered n e q bytes from at reads replies =
      let due = entry_due configs script log lawful n e at in
      let here : IsDelivery configs (take n log) e.ends q bytes from =
      delivered_at configs (take n log) due.0 q bytes from e (Told-each configs script log lawful n) due.1 reads replies
      in
      subst (λ (l : List Entry). IsDelivery configs l e.ends q bytes from) (take-append-drop n log)
      (IsDelivery-longer configs (take n log) (drop n log) e.ends q bytes from here)
