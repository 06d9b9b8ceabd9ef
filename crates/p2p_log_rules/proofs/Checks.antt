-- The checks that wait for their message, after one more entry.
use Rattle.std.proofs.Common.{◌≡◌, ℕ, Bool, true, false, cond, List, [], ◌∷◌, ◌++◌, length, refl, ap, sym, ◌∙◌, append_assoc, append-nil, arith, eqb-true, Option, Some, None}
use Rattle.std.specs.Prelude.{◌==◌, ◌||◌, slice_get}
use Rattle.std.specs.List.{list_any}
use Rattle.std.proofs.lemmas.Option.{slice_get_past}
use Rattle.std.proofs.lemmas.List.Folds.{list_any-append}
use Rattle.p2p_base.specs.declared.key.Key.{Key}
use Rattle.p2p_log.specs.declared.entry.Entry.{Entry}
use Rattle.p2p_log.specs.declared.entry.Reply.{Reply}
use Rattle.p2p_log.specs.declared.entry.Reply.TheVariants as reply
use Rattle.p2p_log.specs.declared.event.Act.{Act}
use Rattle.p2p_log.specs.declared.event.Act.TheVariants as act
use Rattle.p2p_log.specs.declared.event.Recipients.{Recipients}
use Rattle.p2p_log.proofs.Places.{slice_get-seam}
use Rattle.p2p_log.proofs.Sending.{get_longer}
use Rattle.p2p_log_rules.specs.declared.row.Checked.{Checked}
use Rattle.p2p_log_rules.specs.Checking.{Check, makes_check, spends, unspent, check_in, check_of, admitted_at, checked_at}
use Rattle.p2p_log_rules.specs.Facts.{state_from}
use Rattle.p2p_log_rules.specs.Tellings.{Telling, Last, last_told}
use Rattle.p2p_log_rules.specs.Tellings as telling
use Rattle.p2p_log_rules.specs.Told.{check_tells, admitted_in, told}
use Rattle.p2p_log_rules.proofs.Acted.{tells_as, TellsNone}
use Rattle.p2p_log_rules.proofs.TellingKinds.{Kind}
use Rattle.p2p_log_rules.proofs.TellingKinds as kind
use Rattle.p2p_log_rules.proofs.Families.{telling_kind, kinds_of, has, are_apart, untold_of}
use Rattle.p2p_log_rules.proofs.Ignoring.{either_same, by_entries}
use Rattle.p2p_log_rules.proofs.Tellings.{told-append, with_last, last_told-one, untold}

-- ---- after one telling more

-- what tells of checks
abbrev pub check_kinds : List Kind
check_kinds = kind.check_made ∷ kind.check_spent ∷ []

abbrev or_before : Option Check → Option Check → Option Check
or_before None o = o
or_before (Some c) o = Some c

module _ (check : ℕ) where
  check_in-one : (ts : List Telling) (t : Telling) → check_in (ts ++ t ∷ []) check ≡ or_before (makes_check check t) (cond (spends check t) None (check_in ts check))
  check_in-one ts t = ap (unspent check) (last_told-one (makes_check check) ts t) ∙ by (makes_check check t) (last_told (makes_check check) ts)
    where
      spent : (before now : Bool) (c : Check) → cond (before || (now || false)) None (Some c) ≡ cond now None (cond before None (Some c))
      spent true true c = refl
      spent true false c = refl
      spent false true c = refl
      spent false false c = refl

      by : (new : Option Check) (o : Option (Last Check)) → unspent check (with_last new t o) ≡ or_before new (cond (spends check t) None (unspent check o))
      by (Some c) o = refl
      by None None = either_same (spends check t) None
      by None (Some l) = ap (λ b. cond b None (Some l.told)) (list_any-append (spends check) l.since (t ∷ [])) ∙ spent (list_any (spends check) l.since) (spends check t) l.told

  of_others : (t : Telling) (o : Option Check) → has check_kinds (telling_kind t) ≡ false → or_before (makes_check check t) (cond (spends check t) None o) ≡ o
  of_others (telling.check_made m k c keys) o h = cc
  of_others (telling.check_spent k) o h = cc
  of_others _ o h = refl

-- ---- after one more entry

module _ (log : List Entry) (e : Entry) (check : ℕ) where
  -- an act that makes no check, and sends by none
  pub check_of-apart : TellsNone log e check_kinds → check_of (log ++ e ∷ []) check ≡ check_of log check
  unfolding check_of
  check_of-apart apart =
      untold (λ t. has check_kinds (telling_kind t)) (λ ts. check_in ts check) (λ ts t none. check_in-one check ts t ∙ of_others check t (check_in ts check) none) log e
      (untold_of (λ t. has check_kinds (telling_kind t)) check_kinds (λ t h. h) (told log) log e apart)

  -- a message by a check
  pub check_of-spent : (bytes : List ℕ) (k : ℕ) (priority : Bool) → e.event.act ≡ act.SendChecked bytes k priority → check_of (log ++ e ∷ []) check ≡ cond (check == k) None (check_of log check)
  unfolding check_of
  check_of-spent bytes k priority is =
      ap (λ ts. check_in ts check) (told-append log e ∙ ap (λ us. told log ++ us) (tells_as (told log) log e (act.SendChecked bytes k priority) is))
      ∙ check_in-one check (told log) (telling.check_spent k)

  module _ (c m : ℕ) (to : Recipients) (is : e.event.act ≡ act.Check c m to) where
    admits : Telling
    admits = telling.sends_admitted m c e.event.at (admitted_in (told log) m c e.event.at to)

    checked : (us : List Telling) → check_tells m (length log) c e.reply ≡ us → check_of (log ++ e ∷ []) check ≡ check_in ((told log ++ admits ∷ []) ++ us) check
    unfolding check_of admits
    checked us same =
        ap (λ ts. check_in ts check)
        (told-append log e
        ∙ (ap (λ l. told log ++ l) (tells_as (told log) log e (act.Check c m to) is ∙ ap (λ l. admits ∷ l) same) ∙ sym (append_assoc (told log) (admits ∷ []) us)))

    first : check_in (told log ++ admits ∷ []) check ≡ check_of log check
    unfolding check_of admits
    first = check_in-one check (told log) admits

    -- one is made
    pub check_of-made : (keys : List Key) → e.reply ≡ reply.Checked keys → check_of (log ++ e ∷ []) check ≡ cond (check == length log) (Some (record { node = m; channel = c; keys = keys })) (check_of log check)
    check_of-made keys says =
        let made : Telling = telling.check_made m (length log) c keys in
        checked (made ∷ []) (ap (check_tells m (length log) c) says)
        ∙ (check_in-one check (told log ++ admits ∷ []) made ∙ (ap (λ o. or_before (makes_check check made) o) first ∙ by (check == length log) (record { node = m; channel = c; keys = keys }) (check_of log check)))
      where
        by : (b : Bool) (new : Check) (old : Option Check) → or_before (cond b (Some new) None) old ≡ cond b (Some new) old
        by true new old = refl
        by false new old = refl

    -- the quota admits nobody, so none is
    pub check_of-unmade : check_tells m (length log) c e.reply ≡ [] → check_of (log ++ e ∷ []) check ≡ check_of log check
    check_of-unmade none = checked [] none ∙ (ap (λ ts. check_in ts check) (append-nil (told log ++ admits ∷ [])) ∙ first)

pub check_of-none : (check : ℕ) → check_of [] check ≡ None
unfolding check_of told state_from last_told
check_of-none check = refl

-- ---- a check is of the entry of its name

pub record IsMade (log : List Entry) (check : ℕ) (c : Check) : Type 0 where
  pub entry : Entry
  pub here : slice_get log check ≡ Some entry
  pub to : Recipients
  pub asks : entry.event.act ≡ act.Check c.channel c.node to

abbrev AreMade : List Entry → Type 0
AreMade log = (check : ℕ) (c : Check) → check_of log check ≡ Some c → IsMade log check c

more_made : (log : List Entry) (e : Entry) → AreMade log → AreMade (log ++ e ∷ [])
more_made log e all check c h = by e.event.act refl
  where
    longer : check_of log check ≡ Some c → IsMade (log ++ e ∷ []) check c
    longer is =
        let old : IsMade log check c = all check c is in
        record { entry = old.entry; here = get_longer log (e ∷ []) check old.entry old.here; to = old.to; asks = old.asks }

    now : (m d : ℕ) (to : Recipients) (keys : List Key) → e.event.act ≡ act.Check d m to → (b : Bool) → (check == length log) ≡ b
        → cond b (Some (record { node = m; channel = d; keys = keys })) (check_of log check) ≡ Some c → IsMade (log ++ e ∷ []) check c
    now m d to keys is true at k =
        record {
          entry = e;
          here = ap (slice_get (log ++ e ∷ [])) (eqb-true check (length log) at) ∙ slice_get-seam log e [];
          to = to;
          asks = is ∙ ap (λ (v : Check). act.Check v.channel v.node to) (value (record { node = m; channel = d; keys = keys }) k);
        }
      where
        value : (a : Check) → Some a ≡ Some c → a ≡ c
        value a k = cc
    now m d to keys is false at k = longer k

    by_reply : (m d : ℕ) (to : Recipients) → e.event.act ≡ act.Check d m to → (r : Reply) → e.reply ≡ r → IsMade (log ++ e ∷ []) check c
    by_reply m d to is (reply.Checked keys) says = now m d to keys is (check == length log) refl (sym (check_of-made log e check d m to is keys says) ∙ h)
    by_reply m d to is _ says = longer (sym (check_of-unmade log e check d m to is (ap (check_tells m (length log) d) says)) ∙ h)

    by_name : (b : Bool) → cond b None (check_of log check) ≡ Some c → IsMade (log ++ e ∷ []) check c
    by_name true k = absurd (cc)
    by_name false k = longer k

    by : (a : Act) → e.event.act ≡ a → IsMade (log ++ e ∷ []) check c
    by (act.Check d m to) is = by_reply m d to is e.reply refl
    by (act.SendChecked bytes k priority) is = by_name (check == k) (sym (check_of-spent log e check bytes k priority is) ∙ h)
    by a is = longer (sym (check_of-apart log e check (ap (λ b. are_apart (kinds_of b) check_kinds) is)) ∙ h)

pub is_made : (log : List Entry) → (check : ℕ) (c : Check) → check_of log check ≡ Some c → IsMade log check c
is_made log = by_entries AreMade none more_made log
  where
    none : AreMade []
    none check c h = let never : None ≡ Some c = sym (check_of-none check) ∙ h in absurd (cc)

-- a node has none of the checks of others
pub not_checked : (log : List Entry) (n check : ℕ) → ((c : Check) → check_of log check ≡ Some c → (c.node == n) ≡ false) → checked_at log n check ≡ None
not_checked log n check away = by (check_of log check) refl
  where
    by : (o : Option Check) → check_of log check ≡ o → admitted_at n o ≡ None
    by None is = refl
    by (Some c) is = ap (λ b. cond b (Some (record { channel = c.channel; keys = c.keys })) None) (away c is)

-- ---- and what it admitted, at a node

module _ (log : List Entry) (e : Entry) (n check : ℕ) where
  abbrev now_is : Option Checked → Type 0
  now_is o = checked_at (log ++ e ∷ []) n check ≡ o

  pub checked_at-apart : TellsNone log e check_kinds → now_is (checked_at log n check)
  checked_at-apart apart = ap (admitted_at n) (check_of-apart log e check apart)

  pub checked_at-spent : (bytes : List ℕ) (k : ℕ) (priority : Bool) → e.event.act ≡ act.SendChecked bytes k priority → now_is (cond (check == k) None (checked_at log n check))
  checked_at-spent bytes k priority is = ap (admitted_at n) (check_of-spent log e check bytes k priority is) ∙ by (check == k) (check_of log check)
    where
      by : (b : Bool) (o : Option Check) → admitted_at n (cond b None o) ≡ cond b None (admitted_at n o)
      by true o = refl
      by false o = refl

  -- by a check of another node
  pub checked_at-spent_elsewhere : (bytes : List ℕ) (k : ℕ) (priority : Bool) → e.event.act ≡ act.SendChecked bytes k priority → ((c : Check) → check_of log k ≡ Some c → (c.node == n) ≡ false)
      → now_is (checked_at log n check)
  checked_at-spent_elsewhere bytes k priority is away = checked_at-spent bytes k priority is ∙ by (check == k) refl
    where
      by : (b : Bool) → (check == k) ≡ b → cond b None (checked_at log n check) ≡ checked_at log n check
      by true same = sym (ap (checked_at log n) (eqb-true check k same) ∙ not_checked log n k away)
      by false other = refl

  module _ (c m : ℕ) (to : Recipients) (is : e.event.act ≡ act.Check c m to) where
    pub checked_at-made : (keys : List Key) → e.reply ≡ reply.Checked keys → (m == n) ≡ true → now_is (cond (check == length log) (Some (record { channel = c; keys = keys })) (checked_at log n check))
    checked_at-made keys says here = ap (admitted_at n) (check_of-made log e check c m to is keys says) ∙ by (check == length log) (check_of log check)
      where
        by : (b : Bool) (o : Option Check) → admitted_at n (cond b (Some (record { node = m; channel = c; keys = keys })) o) ≡ cond b (Some (record { channel = c; keys = keys })) (admitted_at n o)
        by true o = ap (λ t. cond t (Some (record { channel = c; keys = keys })) None) here
        by false o = refl

    pub checked_at-unmade : check_tells m (length log) c e.reply ≡ [] → now_is (checked_at log n check)
    checked_at-unmade none = ap (admitted_at n) (check_of-unmade log e check c m to is none)

    -- at another node
    pub checked_at-elsewhere : (m == n) ≡ false → now_is (checked_at log n check)
    checked_at-elsewhere away = by_reply e.reply refl
      where
        none_yet : (check == length log) ≡ true → checked_at log n check ≡ None
        none_yet at = not_checked log n check (λ d has. let made : IsMade log check d = is_made log check d has in absurd (let never : None ≡ Some made.entry = sym (past at) ∙ made.here in cc))
          where
            past : (check == length log) ≡ true → slice_get log check ≡ None
            past at = slice_get_past log check (let same : check ≡ length log = eqb-true check (length log) at in omega (arith, same))

        by : (keys : List Key) (b : Bool) → (check == length log) ≡ b → admitted_at n (cond b (Some (record { node = m; channel = c; keys = keys })) (check_of log check)) ≡ checked_at log n check
        by keys true at = ap (λ t. cond t (Some (record { channel = c; keys = keys })) None) away ∙ sym (none_yet at)
        by keys false at = refl

        by_reply : (r : Reply) → e.reply ≡ r → now_is (checked_at log n check)
        by_reply (reply.Checked keys) says = ap (admitted_at n) (check_of-made log e check c m to is keys says) ∙ by keys (check == length log) refl
        by_reply _ says = checked_at-unmade (ap (check_tells m (length log) c) says)
