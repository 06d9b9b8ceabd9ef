-- What the quotas of a connection admitted of what came over it, after one more entry.
use Rattle.std.proofs.Common.{◌≡◌, ℕ, Bool, true, false, cond, List, [], ◌∷◌, ◌++◌, length, refl, ap, ◌∙◌, append-nil, Option}
use Rattle.std.specs.Prelude.{◌==◌, ◌&&◌, not, flat_map}
use Rattle.std.proofs.lemmas.Grind.{flat_map-append}
use Rattle.p2p_log.specs.declared.config.Config.{Config}
use Rattle.p2p_log.specs.declared.queue.Queue.{Queue}
use Rattle.p2p_log.specs.declared.item.Item.{Item}
use Rattle.p2p_log.specs.declared.entry.Entry.{Entry}
use Rattle.p2p_log.specs.declared.entry.Reply.{Reply}
use Rattle.p2p_log.specs.declared.entry.Reply.TheVariants as reply
use Rattle.p2p_log.specs.declared.event.Act.{Act}
use Rattle.p2p_log.specs.declared.event.Act.TheVariants as act
use Rattle.p2p_log_rules.specs.declared.row.Half.{Half}
use Rattle.p2p_log_rules.specs.Connections.{is_end}
use Rattle.p2p_log_rules.specs.Facts.{taken}
use Rattle.p2p_log_rules.specs.Halves.{half_in}
use Rattle.p2p_log_rules.specs.Metering.{Metered, is_of, metered_in, holds, limit_at, passes, admitted, admitted_by}
use Rattle.p2p_log_rules.specs.Tellings.{Telling}
use Rattle.p2p_log_rules.specs.Tellings as telling
use Rattle.p2p_log_rules.specs.Told.{when, over_tells, admitted_tells, act_tells, tells, told}
use Rattle.p2p_log_rules.proofs.Connections.{steps_receiver}
use Rattle.p2p_log_rules.proofs.TellingKinds as kind
use Rattle.p2p_log_rules.proofs.Families.{telling_kind, kinds_of, has, are_apart, untold_of}
use Rattle.p2p_log_rules.proofs.Others.{none_listed, listed_after}
use Rattle.p2p_log_rules.proofs.Told.{over_quiet}
use Rattle.p2p_log_rules.proofs.Tellings.{told-append}

-- whether a step that took these and put these admitted one of such things
abbrev pub admits_one : ℕ → Metered → List Item → List (Queue × Item) → Bool
admits_one limit what [] puts = false
admits_one limit what (i ∷ items) puts = is_of what (metered_in limit i) && not (holds puts)

is_admission : Telling → Bool
is_admission (telling.item_admitted m c at i) = true
is_admission _ = false

module _ (limit n conn : ℕ) (what : Metered) where
  not_passed : (t : Telling) → is_admission t ≡ false → passes limit n conn what t ≡ []
  unfolding is_admission
  not_passed (telling.item_admitted m c at i) h = cc
  not_passed _ h = refl

  of_kinds : (t : Telling) → has (kind.item_admitted ∷ []) (telling_kind t) ≡ false → is_admission t ≡ false
  unfolding is_admission
  of_kinds (telling.item_admitted m c at i) h = cc
  of_kinds _ h = refl

  half_passes : (m c : ℕ) (r : Reply) (half : Option Half) → flat_map (passes limit n conn what) (over_tells m c r half) ≡ []
  unfolding is_admission
  half_passes m c r half =
      none_listed is_admission (passes limit n conn what) not_passed (over_tells m c r half) (over_quiet is_admission 0 0 m c r half (record { over = refl; drops = λ link s. refl }))

  -- what a step of a receiving half admits, which took these and put these
  stepped : (m c at : ℕ) (r : Reply) (items : List Item) (puts : List (Queue × Item))
      → flat_map (passes limit n conn what) (admitted_tells m c at r items puts) ≡ cond (((m == n) && (c == conn)) && not (is_end r) && admits_one limit what items puts) (at ∷ []) []
  stepped m c at (reply.Ended why) items puts = by ((m == n) && (c == conn)) (admits_one limit what items puts)
    where
      by : (here one : Bool) → [] ≡ cond (here && false && one) (at ∷ []) []
      by true one = refl
      by false one = refl
  stepped m c at _ [] puts = by ((m == n) && (c == conn))
    where
      by : (here : Bool) → [] ≡ cond (here && true && false) (at ∷ []) []
      by true = refl
      by false = refl
  stepped m c at _ (i ∷ items) puts = by (holds puts)
    where
      held : (here one : Bool) → [] ≡ cond (here && true && (one && false)) (at ∷ []) []
      held true true = refl
      held true false = refl
      held false one = refl

      let_in : (here one : Bool) → cond (here && one) (at ∷ []) [] ++ [] ≡ cond (here && true && (one && true)) (at ∷ []) []
      let_in true true = refl
      let_in true false = refl
      let_in false one = refl

      by : (b : Bool) → flat_map (passes limit n conn what) (when (not b) (telling.item_admitted m c at i ∷ []))
          ≡ cond (((m == n) && (c == conn)) && true && (is_of what (metered_in limit i) && not b)) (at ∷ []) []
      by true = held ((m == n) && (c == conn)) (is_of what (metered_in limit i))
      by false = let_in ((m == n) && (c == conn)) (is_of what (metered_in limit i))

-- an entry admits one of them where it is a step of the receiving half that does not end the connection
pub admitted_is : (limit n conn : ℕ) (what : Metered) (log : List Entry) (e : Entry)
    → admitted_by limit n conn what log e ≡ cond (steps_receiver n conn e.event.act && not (is_end e.reply) && admits_one limit what (taken log e) e.puts) (e.event.at ∷ []) []
unfolding tells
admitted_is limit n conn what log e = by e.event.act refl
  where
    by : (a : Act) → e.event.act ≡ a → flat_map (passes limit n conn what) (tells (told log) log e)
        ≡ cond (steps_receiver n conn a && not (is_end e.reply) && admits_one limit what (taken log e) e.puts) (e.event.at ∷ []) []
    by (act.RecvStep c m) is =
        let half : Option Half = half_in (told log) m c in
        ap (λ a. flat_map (passes limit n conn what) (act_tells (told log) log (length log) e.event.at e.event.seed e.reply (taken log e) e.puts a)) is
        ∙ (listed_after (passes limit n conn what) (over_tells m c e.reply half) (admitted_tells m c e.event.at e.reply (taken log e) e.puts) (half_passes limit n conn what m c e.reply half)
        ∙ stepped limit n conn what m c e.event.at e.reply (taken log e) e.puts)
    by a is = none_listed is_admission (passes limit n conn what) (not_passed limit n conn what) (tells (told log) log e)
        (untold_of is_admission (kind.item_admitted ∷ []) (of_kinds limit n conn what) (told log) log e (ap (λ b. are_apart (kinds_of b) (kind.item_admitted ∷ [])) is))

pub admitted-append : (configs : List Config) (log : List Entry) (e : Entry) (n conn : ℕ) (what : Metered)
    → admitted configs (log ++ e ∷ []) n conn what ≡ admitted configs log n conn what ++ admitted_by (limit_at configs n) n conn what log e
unfolding admitted
admitted-append configs log e n conn what =
    let limit : ℕ = limit_at configs n in
    ap (flat_map (passes limit n conn what)) (told-append log e) ∙ flat_map-append (passes limit n conn what) (told log) (tells (told log) log e)

-- an entry in which nothing of these is admitted
pub admitted-kept : (configs : List Config) (log : List Entry) (e : Entry) (n conn : ℕ) (what : Metered) → admitted_by (limit_at configs n) n conn what log e ≡ [] → admitted configs (log ++ e ∷ []) n conn what ≡ admitted configs log n conn what
admitted-kept configs log e n conn what none =
    admitted-append configs log e n conn what ∙ (ap (λ l. admitted configs log n conn what ++ l) none ∙ append-nil (admitted configs log n conn what))
