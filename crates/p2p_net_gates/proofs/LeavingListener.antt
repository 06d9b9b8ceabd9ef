-- When an entry leaves the listener of a node alone, by what it tells.
use Rattle.std.proofs.Common.{◌≡◌, ℕ, Bool, true, false, cond, List, [], ◌∷◌, ◌++◌, refl, ap, sym, ◌∙◌, Some, None}
use Rattle.std.specs.Prelude.{◌==◌, ◌&&◌, is_some}
use Rattle.std.specs.List.{list_any}
use Rattle.std.specs.Option.{option_map}
use Rattle.p2p_log.specs.declared.config.Config.{Config}
use Rattle.p2p_log.specs.declared.queue.Queue.TheVariants as queue
use Rattle.p2p_log.specs.declared.item.Item.{Item}
use Rattle.p2p_log.specs.declared.entry.Entry.{Entry}
use Rattle.p2p_log.specs.declared.event.Act.TheVariants as act
use Rattle.p2p_log.specs.Lines.{line}
use Rattle.p2p_log_rules.specs.declared.row.ListeningEnd.TheVariants as listening
use Rattle.p2p_log_rules.specs.Handshakes.{takes_acceptance, takes_exchange, takes_such, has_taken, handshakes_of}
use Rattle.p2p_log_rules.specs.Links.{has_listening}
use Rattle.p2p_log_rules.specs.Listening.{known_of}
use Rattle.p2p_log_rules.specs.Tellings.{Telling}
use Rattle.p2p_log_rules.specs.Tellings as telling
use Rattle.p2p_log_rules.specs.Told.{tells, told, is_link}
use Rattle.p2p_log_rules.proofs.TellingKinds.{Kind}
use Rattle.p2p_log_rules.proofs.TellingKinds as kind
use Rattle.p2p_log_rules.proofs.Families.{telling_kind, kinds_of, has, are_apart, untold_of}
use Rattle.p2p_log_rules.proofs.Handshakes.{of_handshakes, handshakes_of-kept}
use Rattle.p2p_log_rules.proofs.HandshakeTook.{has_taken-append}
use Rattle.p2p_log_rules.proofs.Ignoring.{reads_some, any_or-none}
use Rattle.p2p_log_rules.proofs.Links.{listening_ends_of-kept}
use Rattle.p2p_log_rules.proofs.LinkTells.{weaker}
use Rattle.p2p_log_rules.proofs.Listening.{is_hearing, known_of-kept}
use Rattle.p2p_net_gates.specs.ListenerStands.{TellsNothing, LeavesListener}
use Rattle.p2p_net_gates.proofs.Handshakes.{other_tells}

-- a telling of a step of the listener of a node, or of a handshake of it
abbrev pub of_steps : ℕ → Telling → Bool
of_steps n (telling.arrival_taken m link handshake) = m == n
of_steps n (telling.handshake_begun m h from key link at) = m == n
of_steps n (telling.handshake_took m h items) = m == n
of_steps n (telling.handshake_ended m h link) = m == n
of_steps n (telling.update_taken m addresses) = m == n
of_steps n (telling.arrival_judged m at from g) = m == n
of_steps n _ = false

-- or that a link was made that leads to it, or that its node stopped
abbrev pub of_listener : ℕ → Telling → Bool
of_listener n (telling.link_opened m j link to) = to == n
of_listener n (telling.node_stopped m) = m == n
of_listener n t = of_steps n t

abbrev pub step_kinds : List Kind
step_kinds = kind.arrival_taken ∷ kind.handshake_begun ∷ kind.handshake_took ∷ kind.handshake_ended ∷ kind.update_taken ∷ kind.arrival_judged ∷ []

abbrev pub listener_kinds : List Kind
listener_kinds = kind.node_stopped ∷ kind.link_opened ∷ step_kinds

step_reads : (n : ℕ) (t : Telling) → has step_kinds (telling_kind t) ≡ false → of_steps n t ≡ false
step_reads n (telling.arrival_taken m link handshake) h = cc
step_reads n (telling.handshake_begun m k from key link at) h = cc
step_reads n (telling.handshake_took m k items) h = cc
step_reads n (telling.handshake_ended m k link) h = cc
step_reads n (telling.update_taken m addresses) h = cc
step_reads n (telling.arrival_judged m at from g) h = cc
step_reads n _ h = refl

listener_reads : (n : ℕ) (t : Telling) → has listener_kinds (telling_kind t) ≡ false → of_listener n t ≡ false
listener_reads n (telling.link_opened m j link to) h = cc
listener_reads n (telling.node_stopped m) h = cc
listener_reads n (telling.arrival_taken m link handshake) h = cc
listener_reads n (telling.handshake_begun m k from key link at) h = cc
listener_reads n (telling.handshake_took m k items) h = cc
listener_reads n (telling.handshake_ended m k link) h = cc
listener_reads n (telling.update_taken m addresses) h = cc
listener_reads n (telling.arrival_judged m at from g) h = cc
listener_reads n _ h = refl

module _ (log : List Entry) (e : Entry) (n : ℕ) where
  -- an entry tells none of these where its act tells of others
  pub steps_apart : are_apart (kinds_of e.event.act) step_kinds ≡ true → list_any (of_steps n) (tells (told log) log e) ≡ false
  steps_apart apart = untold_of (of_steps n) step_kinds (step_reads n) (told log) log e apart

  pub listener_apart : are_apart (kinds_of e.event.act) listener_kinds ≡ true → list_any (of_listener n) (tells (told log) log e) ≡ false
  listener_apart apart = untold_of (of_listener n) listener_kinds (listener_reads n) (told log) log e apart

  -- ---- one that tells of no step of it

  module _ (none : list_any (of_steps n) (tells (told log) log e) ≡ false) where
    pub unstepped_handshakes : handshakes_of (log ++ e ∷ []) n ≡ handshakes_of log n
    unstepped_handshakes = handshakes_of-kept log e n (weaker (of_steps n) (of_handshakes n) less (tells (told log) log e) none)
      where
        less : (t : Telling) → of_steps n t ≡ false → of_handshakes n t ≡ false
        less (telling.handshake_begun m h from key link at) is = is
        less (telling.handshake_ended m h link) is = is
        less _ is = refl

    unstepped_taken : (test : List Item → Bool) (k : ℕ) → has_taken test (log ++ e ∷ []) n k ≡ has_taken test log n k
    unstepped_taken test k = has_taken-append test log e n k ∙ any_or-none (has_taken test log n k) (takes_such test n k) (tells (told log) log e) (weaker (of_steps n) (takes_such test n k) less (tells (told log) log e) none)
      where
        less : (t : Telling) → of_steps n t ≡ false → takes_such test n k t ≡ false
        less (telling.handshake_took m h items) is = ap (λ b. (b && (h == k)) && test items) is
        less _ is = refl

    pub unstepped_tells : (k : ℕ) → TellsNothing log e n k
    unstepped_tells k = (unstepped_taken takes_acceptance k, unstepped_taken takes_exchange k)

    pub unstepped_known : (configs : List Config) → known_of configs (log ++ e ∷ []) n ≡ known_of configs log n
    unstepped_known configs = known_of-kept configs log e n (weaker (of_steps n) (is_hearing n) less (tells (told log) log e) none)
      where
        less : (t : Telling) → of_steps n t ≡ false → is_hearing n t ≡ false
        less (telling.update_taken m addresses) is = is
        less (telling.arrival_judged m at from g) is = is
        less _ is = refl

  -- ---- nor that a link leads to it, or that its node stopped

  pub listener_untold : (configs : List Config) → list_any (of_listener n) (tells (told log) log e) ≡ false → line (log ++ e ∷ []) (queue.Arrivals n) ≡ line log (queue.Arrivals n) → LeavesListener configs log e n
  listener_untold configs none same = record {
    known = unstepped_known steps configs;
    handshakes = unstepped_handshakes steps;
    arrivals = same;
    tells = unstepped_tells steps;
    ends = λ k. listening_ends_of-kept log e n k (weaker (of_listener n) (reads_some (has_listening n k)) (fewer k) (tells (told log) log e) none);
  }
    where
      less : (t : Telling) → of_listener n t ≡ false → of_steps n t ≡ false
      less (telling.link_opened m j link to) is = refl
      less (telling.node_stopped m) is = refl
      less t is = is

      steps : list_any (of_steps n) (tells (told log) log e) ≡ false
      steps = weaker (of_listener n) (of_steps n) less (tells (told log) log e) none

      none_read : {X : Type 0} (b c : Bool) (x : X) → b ≡ false → is_some (cond (b && c) (Some x) None) ≡ false
      none_read true c x h = cc
      none_read false c x h = refl

      none_there : {X : Type 0} (b : Bool) (x : X) → b ≡ false → is_some (cond b (Some x) None) ≡ false
      none_there true x h = cc
      none_there false x h = refl

      fewer : (k : ℕ) (t : Telling) → of_listener n t ≡ false → reads_some (has_listening n k) t ≡ false
      fewer k (telling.link_opened m j link to) is = none_read (to == n) (k == link) (Some listening.Arriving) is
      fewer k (telling.arrival_taken m link handshake) is = none_read (m == n) (k == link) (option_map listening.Handshake handshake) is
      fewer k (telling.handshake_ended m h link) is = none_read (m == n) (is_link k link) None is
      fewer k (telling.node_stopped m) is = none_there (m == n) None is
      fewer k _ is = refl

-- a step of the listener tells no handshake anything
pub listener_tells : (log : List Entry) (e : Entry) (n : ℕ) → e.event.act ≡ act.Listener n → (k : ℕ) → TellsNothing log e n k
listener_tells log e n steps k = other_tells log e n k (λ so. apart (sym steps ∙ so))
  where
    apart : act.Listener n ≡ act.Handshake k n → ⊥
    apart so = cc
