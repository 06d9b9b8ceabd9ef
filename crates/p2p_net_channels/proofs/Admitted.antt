-- The keys that the quota of a channel admits, when it admits the others, and what is kept of it, with the first of them apart.
use Rattle.std.proofs.Common.{◌≡◌, ℕ, max, Bool, true, false, cond, List, [], ◌∷◌, ◌++◌, Option, Some, None, refl, ap, sym, ◌∙◌, arith, append_assoc}
use Rattle.std.specs.Map.{set_value}
use Rattle.std.specs.BTreeMap.{is_at}
use Rattle.std.specs.Ordering.{nat_cmp}
use Rattle.std.proofs.lemmas.Bool.Decides.{nat_tests}
use Rattle.std.proofs.lemmas.Map.Steps.{set_value_same}
use Rattle.p2p_base.specs.declared.key.Key.{Key}
use Rattle.p2p_log_rules.specs.Tracking.{key_cmp}
use Rattle.p2p_runtime.specs.QuotaKeys.{KeptByKey}
use Rattle.p2p_runtime.specs.QuotaCheck.{check_answer}
use Rattle.p2p_net_queues.specs.Meters.{passes, checked, answer_on, passes_on, checked_on}
use Rattle.p2p_net_queues.specs.Tables.{at}
use Rattle.p2p_net_queues.proofs.Tables.{lookup-set}
use Rattle.p2p_net_channels.specs.Senders.{may_send, moment_told, key_retry, key_metered, keys_passing, kept_after, passed_on, keys_passed, retry_on, retry_told, senders_on, keys_metered}
use Rattle.p2p_net_channels.specs.declared.channels.Channels.{Channels}

set_value-twice : (test : ℕ → Bool) (m : List (ℕ × KeptByKey Key)) (v w : KeptByKey Key) → set_value test (set_value test m v) w ≡ set_value test m w
set_value-twice test [] v w = refl
set_value-twice test (e ∷ es) v w =
    (elim (test e.0) as (λ b. test e.0 ≡ b → set_value test (cond b ((e.0, v) ∷ es) (e ∷ set_value test es v)) w ≡ cond b ((e.0, w) ∷ es) (e ∷ set_value test es w)) [
      | true ↦ λ h. ap (λ b. cond b ((e.0, w) ∷ es) ((e.0, v) ∷ set_value test es w)) h
      | false ↦ λ h. ap (λ b. cond b ((e.0, w) ∷ set_value test es v) (e ∷ set_value test (set_value test es v) w)) h ∙ ap (λ l. e ∷ l) (set_value-twice test es v w)
    ]) refl

same_number : (c : ℕ) → is_at (nat_cmp c) c ≡ true
same_number c = grind (arith, nat_tests)

-- what was written at a channel is found there
at-written : (m : List (ℕ × KeptByKey Key)) (c : ℕ) (v w : KeptByKey Key) → at m c ≡ Some w → at (set_value (is_at (nat_cmp c)) m v) c ≡ Some v
at-written m c v w is = lookup-set c c v w m is ∙ ap (λ b. cond b (Some v) (at m c)) (same_number c)

one_first : (b : Bool) (k : Key) (rest : List Key) → cond b (k ∷ rest) rest ≡ cond b (k ∷ []) [] ++ rest
one_first true k rest = refl
one_first false k rest = refl

module _ (m : List (ℕ × KeptByKey Key)) (c : ℕ) (k : Key) (ks : List Key) (now : ℕ) where
  passed_by : (o : Option (KeptByKey Key)) → at m c ≡ o → passed_on o (k ∷ ks) now ≡ cond (passes_on key_cmp o k now) (k ∷ []) [] ++ passed_on (at (checked_on key_cmp o m c k now) c) ks now
  passed_by None is = sym (ap (λ o. passed_on o ks now) is)
  passed_by (Some kept) is =
      one_first (passes key_cmp kept k now) k (keys_passing (checked key_cmp kept k now) now ks)
      ∙ ap (λ o. cond (passes key_cmp kept k now) (k ∷ []) [] ++ passed_on o ks now) (sym (at-written m c (checked key_cmp kept k now) kept is))

  retry_by : (o : Option (KeptByKey Key)) → at m c ≡ o → retry_on o (k ∷ ks) now ≡ max (moment_told (answer_on key_cmp o k now)) (retry_on (at (checked_on key_cmp o m c k now) c) ks now)
  retry_by None is = sym (ap (λ o. max 0 (retry_on o ks now)) is)
  retry_by (Some kept) is = ap (λ o. max (moment_told (check_answer key_cmp kept k now)) (retry_on o ks now)) (sym (at-written m c (checked key_cmp kept k now) kept is))

  metered_by : (o : Option (KeptByKey Key)) → at m c ≡ o → senders_on o m c (k ∷ ks) now ≡ senders_on (at (checked_on key_cmp o m c k now) c) (checked_on key_cmp o m c k now) c ks now
  metered_by None is = sym (ap (λ o. senders_on o m c ks now) is)
  metered_by (Some kept) is =
      let next = checked key_cmp kept k now in
      let written = set_value (is_at (nat_cmp c)) m next in
      sym (ap (λ o. senders_on o written c ks now) (at-written m c next kept is) ∙ set_value-twice (is_at (nat_cmp c)) m next (kept_after next now ks))

-- the first is asked before the others
pub keys_passed-next : (ch : Channels) (c : ℕ) (k : Key) (ks : List Key) (now : ℕ)
    → keys_passed ch c (k ∷ ks) now ≡ cond (may_send ch c k now) (k ∷ []) [] ++ keys_passed (key_metered c k now ch) c ks now
keys_passed-next ch c k ks now = passed_by ch.senders c k ks now (at ch.senders c) refl

pub retry_told-next : (ch : Channels) (c : ℕ) (k : Key) (ks : List Key) (now : ℕ) → retry_told ch c (k ∷ ks) now ≡ max (key_retry ch c k now) (retry_told (key_metered c k now ch) c ks now)
retry_told-next ch c k ks now = retry_by ch.senders c k ks now (at ch.senders c) refl

pub keys_metered-next : (ch : Channels) (c : ℕ) (k : Key) (ks : List Key) (now : ℕ) → keys_metered c (k ∷ ks) now ch ≡ keys_metered c ks now (key_metered c k now ch)
keys_metered-next ch c k ks now = ap (λ (m : List (ℕ × KeptByKey Key)). record ch { senders = m }) (metered_by ch.senders c k ks now (at ch.senders c) refl)

-- no keys
passed_none : (o : Option (KeptByKey Key)) (now : ℕ) → passed_on o [] now ≡ []
passed_none None now = refl
passed_none (Some kept) now = refl

pub keys_passed-none : (ch : Channels) (c now : ℕ) → keys_passed ch c [] now ≡ []
keys_passed-none ch c now = passed_none (at ch.senders c) now

told_none : (o : Option (KeptByKey Key)) (now : ℕ) → retry_on o [] now ≡ 0
told_none None now = refl
told_none (Some kept) now = refl

pub retry_told-none : (ch : Channels) (c now : ℕ) → retry_told ch c [] now ≡ 0
retry_told-none ch c now = told_none (at ch.senders c) now

metered_none : (m : List (ℕ × KeptByKey Key)) (c now : ℕ) (o : Option (KeptByKey Key)) → at m c ≡ o → senders_on o m c [] now ≡ m
metered_none m c now None is = refl
metered_none m c now (Some kept) is = set_value_same (is_at (nat_cmp c)) m kept is

pub keys_metered-none : (ch : Channels) (c now : ℕ) → keys_metered c [] now ch ≡ ch
keys_metered-none ch c now = ap (λ (m : List (ℕ × KeptByKey Key)). record ch { senders = m }) (metered_none ch.senders c now (at ch.senders c) refl)

-- ---- one more of the keys that are asked for

pub admitted-more : (ch next : Channels) (c now : ℕ) (k : Key) (rest ks so_far more all : List Key) → rest ≡ k ∷ ks → more ≡ so_far ++ cond (may_send ch c k now) (k ∷ []) [] → next ≡ key_metered c k now ch
    → so_far ++ keys_passed ch c rest now ≡ all → more ++ keys_passed next c ks now ≡ all
admitted-more ch next c now k rest ks so_far more all first added is before =
    ap (λ l. l ++ keys_passed next c ks now) added
    ∙ (append_assoc so_far (cond (may_send ch c k now) (k ∷ []) []) (keys_passed next c ks now)
    ∙ (ap (λ (d : Channels). so_far ++ (cond (may_send ch c k now) (k ∷ []) [] ++ keys_passed d c ks now)) is
    ∙ (ap (λ l. so_far ++ l) (sym (keys_passed-next ch c k ks now)) ∙ (ap (λ l. so_far ++ keys_passed ch c l now) (sym first) ∙ before))))

later_of : (a b c : ℕ) → max (max a b) c ≡ max a (max b c)
later_of a b c = omega arith

pub retry-more : (ch next : Channels) (c now : ℕ) (k : Key) (rest ks : List Key) (so_far more all : ℕ) → rest ≡ k ∷ ks → more ≡ max so_far (key_retry ch c k now) → next ≡ key_metered c k now ch
    → max so_far (retry_told ch c rest now) ≡ all → max more (retry_told next c ks now) ≡ all
retry-more ch next c now k rest ks so_far more all first told is before =
    ap (λ t. max t (retry_told next c ks now)) told
    ∙ (later_of so_far (key_retry ch c k now) (retry_told next c ks now)
    ∙ (ap (λ (d : Channels). max so_far (max (key_retry ch c k now) (retry_told d c ks now))) is
    ∙ (ap (λ t. max so_far t) (sym (retry_told-next ch c k ks now)) ∙ (ap (λ l. max so_far (retry_told ch c l now)) (sym first) ∙ before))))

-- no more of them
pub retry-all : (ch : Channels) (c now : ℕ) (rest : List Key) (so_far all : ℕ) → rest ≡ [] → max so_far (retry_told ch c rest now) ≡ all → so_far ≡ all
retry-all ch c now rest so_far all none before =
    let last : retry_told ch c rest now ≡ 0 = ap (λ l. retry_told ch c l now) none ∙ retry_told-none ch c now in
    omega (arith, last, before)

pub metered-more : (ch next all : Channels) (c now : ℕ) (k : Key) (rest ks : List Key) → rest ≡ k ∷ ks → next ≡ key_metered c k now ch → keys_metered c rest now ch ≡ all → keys_metered c ks now next ≡ all
metered-more ch next all c now k rest ks first is before =
    ap (λ (d : Channels). keys_metered c ks now d) is ∙ (sym (keys_metered-next ch c k ks now) ∙ (ap (λ l. keys_metered c l now ch) (sym first) ∙ before))
