-- A script, event by event.
use Rattle.std.proofs.Common.{◌≡◌, ℕ, zero, suc, ◌+◌, ◌≤◌, true, false, cond, List, [], ◌∷◌, ◌++◌, length, take, drop, refl, ap, sym, subst, ◌∙◌, arith, add-one, length-append, Some, None}
use Rattle.std.specs.Prelude.{slice_get}
use Rattle.p2p_log.specs.declared.config.Config.{Config}
use Rattle.p2p_log.specs.declared.event.Event.{Event}
use Rattle.p2p_log.specs.declared.entry.Entry.{Entry}
use Rattle.p2p_log_rules.specs.Facts.{events_of}
use Rattle.p2p_log_rules.specs.Effect.{effect}
use Rattle.p2p_log_rules.specs.Lawful.{IsLawful}
use Rattle.p2p_log_rules.specs.Valid.{config_fault, event_fault, event_fault_from, is_valid_event}
use Rattle.p2p_log_rules.proofs.Facts.{events_of-append}
use Rattle.p2p_log_rules.proofs.Lawful.{IsLawful-nil, IsLawful-append, IsLawful-unique}
use Rattle.p2p_log_laws.specs.Accounted.{IsAccounted}
use Rattle.p2p_log_laws.proofs.AllLaws.{accounted}
use Rattle.p2p_net.specs.declared.error.RunError.{RunError}
use Rattle.p2p_net.specs.declared.error.RunError.TheVariants as error
use Rattle.p2p_net.specs.World.{WorldView, Stands}
use Rattle.p2p_net_node.specs.Stands.{WorldStands}
use Rattle.p2p_net.specs.Refusals.{ApplyRefused, RunRefused}
use Rattle.p2p_net_node.proofs.Faults.{take-step, event_fault-step, event_fault-end}

-- a world that the first events of a script made
pub record RanFirst (configs : List Config) (script : List Event) (i : ℕ) (w : WorldView) : Type 0 where
  pub same : w.configs ≡ configs
  pub works : w.failed ≡ false
  pub long : length w.log ≡ i
  pub asked : events_of w.log ≡ take i script
  pub lawful : IsLawful configs (take i script) w.log
  pub stands : WorldStands w.configs w.log w.nodes w.links
  pub fault : event_fault configs script ≡ event_fault_from configs (take i script) (drop i script)

pub RanFirst-none : (configs : List Config) (script : List Event) (w : WorldView) → w.configs ≡ configs → w.log ≡ [] → w.failed ≡ false → WorldStands w.configs w.log w.nodes w.links → RanFirst configs script 0 w
RanFirst-none configs script w same none works stands = record {
  same = same;
  works = works;
  long = ap length none;
  asked = ap events_of none;
  lawful = subst (λ l. IsLawful configs [] l) (sym none) (IsLawful-nil configs);
  stands = stands;
  fault = refl;
}

event_of-effect : (configs : List Config) (log : List Entry) (v : Event) → (effect configs log v).event ≡ v
unfolding effect
event_of-effect configs log v = refl

-- one event more
pub RanFirst-step :
    (configs : List Config) (script : List Event) (i : ℕ) (w new : WorldView) (v : Event) → RanFirst configs script i w → slice_get script i ≡ Some v
    → new.configs ≡ w.configs → new.log ≡ w.log ++ effect w.configs w.log v ∷ [] → new.failed ≡ false → Stands new → is_valid_event w.configs (events_of w.log) v ≡ true → RanFirst configs script (i + 1) new
RanFirst-step configs script i w new v h s kept grown works stands ok =
    let allowed : is_valid_event configs (take i script) v ≡ true =
    ap (λ c. is_valid_event c (take i script) v) (sym h.same) ∙ (ap (λ l. is_valid_event w.configs l v) (sym h.asked) ∙ ok)
    in
    let e = effect configs w.log v in
    let log_is : new.log ≡ w.log ++ e ∷ [] = grown ∙ ap (λ c. w.log ++ effect c w.log v ∷ []) h.same in
    let taken : take (i + 1) script ≡ take i script ++ v ∷ [] = ap (λ k. take k script) (add-one i) ∙ take-step script i v s in
    record {
      same = kept ∙ h.same;
      works = works;
      long = ap length log_is ∙ (length-append w.log (e ∷ []) ∙ ap (λ k. k + 1) h.long);
      asked = ap events_of log_is ∙ (events_of-append w.log e ∙ (ap (λ l. l ++ e.event ∷ []) h.asked ∙ (ap (λ x. take i script ++ x ∷ []) (event_of-effect configs w.log v) ∙ sym taken)));
      lawful = subst (λ l. IsLawful configs (take (i + 1) script) l) (sym log_is)
          (subst (λ l. IsLawful configs l (w.log ++ e ∷ [])) (sym taken) (IsLawful-append configs (take i script) w.log v h.lawful));
      stands = stands works;
      fault = h.fault ∙ (event_fault-step configs script i v s ∙ (ap (λ b. cond b (event_fault_from configs (take (suc i) script) (drop (suc i) script)) (Some i)) allowed ∙ ap (λ k. event_fault_from configs (take k script) (drop k script)) (sym (add-one i))));
    }

take-whole : {X : Type 0} (xs : List X) (i : ℕ) → length xs ≤ i → take i xs ≡ xs
take-whole [] zero h = refl
take-whole [] (suc i) h = refl
take-whole (x ∷ xs) zero h = absurd (grind arith)
take-whole (x ∷ xs) (suc i) h = ap (λ r. x ∷ r) (take-whole xs i (grind arith))

pub lawful_run : (configs : List Config) (script : List Event) (i : ℕ) (w : WorldView) → RanFirst configs script i w → length script ≤ i → IsLawful configs script w.log
lawful_run configs script i w h le = subst (λ l. IsLawful configs l w.log) (take-whole script i le) h.lawful

pub only_run :
    (configs : List Config) (script : List Event) (i : ℕ) (w : WorldView) → RanFirst configs script i w → length script ≤ i
    → (log : List Entry) → IsLawful configs script log → log ≡ w.log
only_run configs script i w h le log k = IsLawful-unique configs script log w.log k (lawful_run configs script i w h le)

-- the laws of lawful logs hold of its log
pub accounted_run : (configs : List Config) (script : List Event) (i : ℕ) (w : WorldView) → RanFirst configs script i w → length script ≤ i → IsAccounted configs w.log
accounted_run configs script i w h le = accounted configs script w.log (lawful_run configs script i w h le)

pub stands_run : (configs : List Config) (script : List Event) (i : ℕ) (w : WorldView) → RanFirst configs script i w → WorldStands configs w.log w.nodes w.links
stands_run configs script i w h = subst (λ c. WorldStands c w.log w.nodes w.links) h.same h.stands

pub no_fault : (configs : List Config) (script : List Event) (i : ℕ) (w : WorldView) → RanFirst configs script i w → length script ≤ i → event_fault configs script ≡ None
no_fault configs script i w h le = h.fault ∙ event_fault-end configs script i le

pub refused_run :
    (configs : List Config) (script : List Event) (i : ℕ) (w new : WorldView) (v : Event) (e : RunError) → config_fault configs ≡ None → RanFirst configs script i w
    → slice_get script i ≡ Some v → ApplyRefused w v e new → RunRefused configs script e
refused_run configs script i w new v (error.Config k) none h s r = absurd r
refused_run configs script i w new v (error.Event k) none h s r =
    let refused : is_valid_event configs (take i script) v ≡ false =
    ap (λ c. is_valid_event c (take i script) v) (sym h.same) ∙ (ap (λ l. is_valid_event w.configs l v) (sym h.asked) ∙ r.0.1)
    in (
      none,
      h.fault
          ∙ (event_fault-step configs script i v s
          ∙ (ap (λ b. cond b (event_fault_from configs (take (suc i) script) (drop (suc i) script)) (Some i)) refused ∙ ap (λ x. Some x) (sym (r.0.0 ∙ h.long)))),
    )
refused_run configs script i w new v error.Memory none h s r = tt
