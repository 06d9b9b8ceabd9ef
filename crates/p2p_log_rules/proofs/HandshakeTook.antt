-- What handshakes took, after one more entry.
use Rattle.std.proofs.Common.{◌≡◌, ℕ, Bool, true, false, List, [], ◌∷◌, ◌++◌, refl, ap, sym, ◌∙◌, eq-eqb, eqb-true, Option, Some, None, ◌⊎◌, inl, inr}
use Rattle.std.specs.Prelude.{◌==◌, ◌&&◌, ◌||◌}
use Rattle.std.specs.List.{list_any}
use Rattle.std.proofs.lemmas.Bool.{and_parts}
use Rattle.p2p_log_rules.proofs.Bools.{or_false}
use Rattle.p2p_log.specs.declared.item.Item.{Item}
use Rattle.p2p_log.specs.declared.entry.Entry.{Entry}
use Rattle.p2p_log.specs.declared.event.Act.{Act}
use Rattle.p2p_log.specs.declared.event.Act.TheVariants as act
use Rattle.p2p_log_rules.specs.Facts.{taken, state_from}
use Rattle.p2p_log_rules.specs.Handshakes.{ends_handshake, came_over, takes_such, has_taken}
use Rattle.p2p_log_rules.specs.Puts.{broke_off}
use Rattle.p2p_log_rules.specs.Tellings.{Telling, any_or}
use Rattle.p2p_log_rules.specs.Tellings as telling
use Rattle.p2p_log_rules.specs.Told.{when, listening_dropped, handshake_tells, tells, told}
use Rattle.p2p_log_rules.proofs.TellingKinds.{Kind}
use Rattle.p2p_log_rules.proofs.TellingKinds as kind
use Rattle.p2p_log_rules.proofs.Families.{telling_kind, kinds_of, has, are_apart, untold_of}
use Rattle.p2p_log_rules.proofs.Ignoring.{any_or-none}
use Rattle.p2p_log_rules.proofs.LinkTells.{tells_act, quiet_told}
use Rattle.p2p_log_rules.proofs.Tellings.{told-append, any_or-append}

-- the kind of tellings of what they took
abbrev pub taking_kinds : List Kind
taking_kinds = kind.handshake_took ∷ []

taking_reads : (test : List Item → Bool) (n name : ℕ) (t : Telling) → has taking_kinds (telling_kind t) ≡ false → takes_such test n name t ≡ false
taking_reads test n name (telling.handshake_took m h items) is = cc
taking_reads test n name _ is = refl

-- an act that is no step of this handshake
abbrev pub IsOther : ℕ → ℕ → Act → Type 0
IsOther n name a = a ≡ act.Handshake name n → ⊥

pub other_step : (n name m h : ℕ) → IsOther n name (act.Handshake h m) → ((m == n) && (h == name)) ≡ false
other_step n name m h other = by ((m == n) && (h == name)) refl
  where
    by : (b : Bool) → ((m == n) && (h == name)) ≡ b → ((m == n) && (h == name)) ≡ false
    by true is = let both = and_parts (m == n) (h == name) is in absurd (other (ap (λ k. act.Handshake k m) (eqb-true h name both.1) ∙ ap (act.Handshake name) (eqb-true m n both.0)))
    by false is = is

pub apart_step : (n name m h : ℕ) → ((m == n) && (h == name)) ≡ false → IsOther n name (act.Handshake h m)
apart_step n name m h apart so =
    let node : m ≡ n = cc in
    let handshake : h ≡ name = cc in
    let t : true ≡ false = sym (ap (λ b. b && (h == name)) (eq-eqb m n node) ∙ eq-eqb h name handshake) ∙ apart in
    cc

-- an act is a step of this handshake, or none
pub step_or_other : (n name : ℕ) (a : Act) → (a ≡ act.Handshake name n) ⊎ IsOther n name a
step_or_other n name (act.Handshake h m) = by ((m == n) && (h == name)) refl
  where
    by : (b : Bool) → ((m == n) && (h == name)) ≡ b → (act.Handshake h m ≡ act.Handshake name n) ⊎ IsOther n name (act.Handshake h m)
    by true is = let both = and_parts (m == n) (h == name) is in inl (ap (λ k. act.Handshake k m) (eqb-true h name both.1) ∙ ap (act.Handshake name) (eqb-true m n both.0))
    by false is = inr (apart_step n name m h is)
step_or_other n name a = inr (λ so. cc)

module _ (test : List Item → Bool) (log : List Entry) (e : Entry) (n name : ℕ) where
  -- whether the entry takes such for it
  abbrev pub takes_now : Bool
  takes_now = any_or false (takes_such test n name) (tells (told log) log e)

  pub has_taken-append : has_taken test (log ++ e ∷ []) n name ≡ any_or (has_taken test log n name) (takes_such test n name) (tells (told log) log e)
  unfolding has_taken
  has_taken-append = ap (any_or false (takes_such test n name)) (told-append log e) ∙ any_or-append false (takes_such test n name) (told log) (tells (told log) log e)

  -- a step of it
  took_step : (b : Bool) → e.event.act ≡ act.Handshake name n → any_or b (takes_such test n name) (tells (told log) log e) ≡ (test (taken log e) || b)
  took_step b acts =
      ap (any_or b (takes_such test n name)) (tells_act (told log) log e (act.Handshake name n) acts)
      ∙ (by (came_over log name) (ends_handshake e.reply (taken log e)) (broke_off e.reply (taken log e) e.puts)
      ∙ (ap (λ c. ((c && (name == name)) && test (taken log e)) || b) (eq-eqb n n refl) ∙ ap (λ c. (c && test (taken log e)) || b) (eq-eqb name name refl)))
    where
      by : (o : Option ℕ) (over broke : Bool)
          → any_or b (takes_such test n name) (handshake_tells n name o over (taken log e) ++ when broke (listening_dropped o)) ≡ ((((n == n) && (name == name)) && test (taken log e)) || b)
      by None true true = refl
      by (Some link) true true = refl
      by o true false = refl
      by None false true = refl
      by (Some link) false true = refl
      by o false false = refl

  -- no step of it
  took_other : (b : Bool) → IsOther n name e.event.act → any_or b (takes_such test n name) (tells (told log) log e) ≡ b
  took_other b other = any_or-none b (takes_such test n name) (tells (told log) log e) (by e.event.act refl)
    where
      by : (a : Act) → e.event.act ≡ a → list_any (takes_such test n name) (tells (told log) log e) ≡ false
      by (act.Handshake h m) acts =
          let apart : ((m == n) && (h == name)) ≡ false = other_step n name m h (λ so. other (acts ∙ so)) in
          quiet_told (told log) log e (takes_such test n name) (act.Handshake h m) acts (record { took = λ items. ap (λ c. c && test items) apart; over = λ link. refl; drops = λ link. refl })
      by a acts = untold_of (takes_such test n name) taking_kinds (taking_reads test n name) (told log) log e (ap (λ c. are_apart (kinds_of c) taking_kinds) acts)

  pub has_taken-step : e.event.act ≡ act.Handshake name n → has_taken test (log ++ e ∷ []) n name ≡ (test (taken log e) || has_taken test log n name)
  has_taken-step acts = has_taken-append ∙ took_step (has_taken test log n name) acts

  pub has_taken-other : IsOther n name e.event.act → has_taken test (log ++ e ∷ []) n name ≡ has_taken test log n name
  has_taken-other other = has_taken-append ∙ took_other (has_taken test log n name) other

  pub takes_none : IsOther n name e.event.act → takes_now ≡ false
  takes_none other = took_other false other

  pub takes_step : e.event.act ≡ act.Handshake name n → takes_now ≡ test (taken log e)
  takes_step acts = took_step false acts ∙ or_false (test (taken log e))

  -- an entry that took no such items leaves it alone
  pub has_taken-unsuch : test (taken log e) ≡ false → has_taken test (log ++ e ∷ []) n name ≡ has_taken test log n name
  has_taken-unsuch none = by (step_or_other n name e.event.act)
    where
      by : (e.event.act ≡ act.Handshake name n) ⊎ IsOther n name e.event.act → has_taken test (log ++ e ∷ []) n name ≡ has_taken test log n name
      by (inl acts) = has_taken-step acts ∙ ap (λ b. b || has_taken test log n name) none
      by (inr other) = has_taken-other other

  -- such items were taken, or are now
  pub has_taken-now : has_taken test (log ++ e ∷ []) n name ≡ (takes_now || has_taken test log n name)
  has_taken-now = by (step_or_other n name e.event.act)
    where
      by : (e.event.act ≡ act.Handshake name n) ⊎ IsOther n name e.event.act → has_taken test (log ++ e ∷ []) n name ≡ (takes_now || has_taken test log n name)
      by (inl acts) = has_taken-step acts ∙ ap (λ b. b || has_taken test log n name) (sym (takes_step acts))
      by (inr other) = has_taken-other other ∙ ap (λ b. b || has_taken test log n name) (sym (takes_none other))

-- entries of one act that took the same take the same for it
pub takes_same : (test : List Item → Bool) (log : List Entry) (d e : Entry) (n name : ℕ) → d.event.act ≡ e.event.act → taken log d ≡ taken log e → takes_now test log d n name ≡ takes_now test log e n name
takes_same test log d e n name acts took = by (step_or_other n name e.event.act)
  where
    by : (e.event.act ≡ act.Handshake name n) ⊎ IsOther n name e.event.act → takes_now test log d n name ≡ takes_now test log e n name
    by (inl is) = takes_step test log d n name (acts ∙ is) ∙ (ap test took ∙ sym (takes_step test log e n name is))
    by (inr other) = takes_none test log d n name (λ so. other (sym acts ∙ so)) ∙ sym (takes_none test log e n name other)

pub has_taken-none : (test : List Item → Bool) (n name : ℕ) → has_taken test [] n name ≡ false
unfolding has_taken told state_from
has_taken-none test n name = refl
