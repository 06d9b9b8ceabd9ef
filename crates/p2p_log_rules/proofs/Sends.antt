-- The moments at which the quota of a channel admitted each key, after one more entry.
use Rattle.std.proofs.Common.{◌≡◌, ℕ, Bool, false, cond, List, [], ◌∷◌, ◌++◌, length, refl, ap, ◌∙◌, append-nil, eq-eqb}
use Rattle.std.specs.Prelude.{◌==◌, ◌&&◌, flat_map}
use Rattle.p2p_base.specs.declared.key.Key.{Key}
use Rattle.p2p_log.specs.declared.entry.Entry.{Entry}
use Rattle.p2p_log.specs.declared.entry.Reply.{Reply}
use Rattle.p2p_log.specs.declared.entry.Reply.TheVariants as reply
use Rattle.p2p_log.specs.declared.event.Act.TheVariants as act
use Rattle.p2p_log.specs.declared.event.Recipients.{Recipients}
use Rattle.p2p_log_rules.specs.Admitting.{offered, keys_admitted, sent_moments}
use Rattle.p2p_log_rules.specs.Facts.{rates, peers_told, state_from}
use Rattle.p2p_log_rules.specs.Quotas.{at_places, admits_key}
use Rattle.p2p_log_rules.specs.Tellings.{Telling}
use Rattle.p2p_log_rules.specs.Tellings as telling
use Rattle.p2p_log_rules.specs.Told.{admitted_in, check_tells, tells, told}
use Rattle.p2p_log_rules.proofs.Acted.{tells_as, TellsNone, collected-append, collected-kept, collected-apart}
use Rattle.p2p_log_rules.proofs.TellingKinds.{Kind}
use Rattle.p2p_log_rules.proofs.TellingKinds as kind
use Rattle.p2p_log_rules.proofs.Families.{telling_kind, has}

-- ---- an act that asks no quota of a channel

-- what tells whom a quota admits
abbrev pub send_kinds : List Kind
send_kinds = kind.sends_admitted ∷ []

of_sends : (n c : ℕ) (k : Key) (t : Telling) → has send_kinds (telling_kind t) ≡ false → admits_key n c k t ≡ []
of_sends n c k (telling.sends_admitted m d at keys) h = cc
of_sends n c k _ h = refl

pub sent_moments-apart : (log : List Entry) (e : Entry) (n c : ℕ) (k : Key) → TellsNone log e send_kinds → sent_moments (log ++ e ∷ []) n c k ≡ sent_moments log n c k
unfolding sent_moments
sent_moments-apart log e n c k apart = collected-apart log e (admits_key n c k) send_kinds (of_sends n c k) apart

-- ---- one that asks that of a channel for these

pub data Asks (e : Entry) (m d : ℕ) (to : Recipients) : Type 0 where
  sends : (bytes : List ℕ) (priority : Bool) → e.event.act ≡ act.Send bytes d m priority to → Asks e m d to
  checks : e.event.act ≡ act.Check d m to → Asks e m d to

module _ (log : List Entry) (e : Entry) (m d : ℕ) (to : Recipients) where
  admits : Telling
  admits = telling.sends_admitted m d e.event.at (admitted_in (told log) m d e.event.at to)

  -- it tells whom that admitted first, and then nothing of a quota
  record AdmitsFirst : Type 0 where
    more : List Telling
    is : tells (told log) log e ≡ admits ∷ more
    none : (n c : ℕ) (k : Key) → flat_map (admits_key n c k) more ≡ []

  by_reply : (n c : ℕ) (k : Key) (name : ℕ) (r : Reply) → flat_map (admits_key n c k) (check_tells m name d r) ≡ []
  by_reply n c k name (reply.Checked keys) = refl
  by_reply n c k name _ = refl

  admits_first : Asks e m d to → AdmitsFirst
  unfolding admits
  admits_first (sends bytes priority is) = record { more = []; is = tells_as (told log) log e (act.Send bytes d m priority to) is; none = λ n c k. refl }
  admits_first (checks is) = record {
    more = check_tells m (length log) d e.reply;
    is = tells_as (told log) log e (act.Check d m to) is;
    none = λ n c k. by_reply n c k (length log) e.reply;
  }

  asked : (n c : ℕ) (k : Key) → Asks e m d to → flat_map (admits_key n c k) (tells (told log) log e) ≡ cond ((m == n) && (d == c)) (at_places k e.event.at (admitted_in (told log) m d e.event.at to)) []
  unfolding admits
  asked n c k asks =
      let first = admits_first asks in
      let now = cond ((m == n) && (d == c)) (at_places k e.event.at (admitted_in (told log) m d e.event.at to)) [] in
      ap (flat_map (admits_key n c k)) first.is ∙ (ap (λ l. now ++ l) (first.none n c k) ∙ append-nil now)

  -- each key that it admitted, at its moment
  pub sent_moments-asked : Asks e m d to → (c : ℕ) (k : Key)
      → sent_moments (log ++ e ∷ []) m c k ≡ sent_moments log m c k ++ cond (d == c) (at_places k e.event.at (keys_admitted log m d e.event.at (offered log m d to))) []
  unfolding sent_moments rates peers_told
  sent_moments-asked asks c k =
      collected-append log e (admits_key m c k)
      ∙ ap (λ l. sent_moments log m c k ++ l)
      (asked m c k asks ∙ ap (λ b. cond (b && (d == c)) (at_places k e.event.at (admitted_in (told log) m d e.event.at to)) []) (eq-eqb m m refl))

  -- at another node nobody is admitted
  pub sent_moments-elsewhere : Asks e m d to → (n c : ℕ) (k : Key) → (m == n) ≡ false → sent_moments (log ++ e ∷ []) n c k ≡ sent_moments log n c k
  unfolding sent_moments
  sent_moments-elsewhere asks n c k away =
      collected-kept log e (admits_key n c k)
      (asked n c k asks ∙ ap (λ b. cond (b && (d == c)) (at_places k e.event.at (admitted_in (told log) m d e.event.at to)) []) away)

-- nobody was admitted before the first
pub sent_moments-none : (n c : ℕ) (k : Key) → sent_moments [] n c k ≡ []
unfolding sent_moments told state_from
sent_moments-none n c k = refl
