-- The rules of records stay over several changes.
use Rattle.std.proofs.Common.{◌≡◌, ℕ, Bool, true, false, List, sym, ap, ◌∙◌}
use Rattle.std.proofs.lemmas.Bool.{false≢true}
use Rattle.std.specs.Prelude.{Result, Ok, Err, OnOk, OnErr, is_err}
use Rattle.std.specs.Map.{lookup}
use Rattle.std.specs.BTreeMap.{is_at}
use Rattle.std.specs.declared.cmp.Ordering.{Ordering}
use Rattle.p2p_tracker_calls.specs.DialList.{earliest}
use Rattle.p2p_tracker_directory.specs.Recorded.{Recorded}
use Rattle.p2p_tracker_directory.specs.Listed.{outlook, moment_of}
use Rattle.p2p_tracker_directory.specs.Indexed.{Roster, HasRules}

pub still-ruled : {P : Type 0} (private dns : Bool) (old new : Roster P) → HasRules private dns old → HasRules old.private old.dns new → HasRules private dns new
still-ruled private dns old new was is = (is.0 ∙ was.0, is.1 ∙ was.1)

-- what stands where a call went well, and where it didn't
pub ok-holds : {X E : Type 0} (r : Result X E) (A : Type 0) → OnOk r A → is_err r ≡ false → A
ok-holds (Ok x) A a h = a
ok-holds (Err e) A a h = absurd (false≢true (sym h))

pub err-holds : {X E : Type 0} (r : Result X E) (A : Type 0) → OnErr r A → is_err r ≡ true → A
err-holds (Ok x) A a h = absurd (false≢true h)
err-holds (Err e) A a h = a

pub on-ok : {X E : Type 0} (r : Result X E) (A B : Type 0) → (A → B) → OnOk r A → OnOk r B
on-ok (Ok x) A B f a = f a
on-ok (Err e) A B f a = tt

pub on-err : {X E : Type 0} (r : Result X E) (A : Type 0) → A → OnErr r A
on-err (Ok x) A a = tt
on-err (Err e) A a = a

pub on-err-weaker : {X E : Type 0} (r : Result X E) (A B : Type 0) → (A → B) → OnErr r A → OnErr r B
on-err-weaker (Ok x) A B f a = tt
on-err-weaker (Err e) A B f a = f a

-- when to ask again is told by the rules alone
pub query-ruled : {P : Type 0} (cmp : P → P → Ordering) (es : List (P × Recorded)) (blocks : List (P × ℕ)) (t : ℕ) (records : Roster P) (private dns : Bool) → HasRules private dns records
    → earliest (λ e. moment_of (outlook e.1 (lookup (is_at (cmp e.0)) blocks) t records.private records.dns)) es
    ≡ earliest (λ e. moment_of (outlook e.1 (lookup (is_at (cmp e.0)) blocks) t private dns)) es
query-ruled cmp es blocks t records private dns r =
    ap (λ (a : Bool). earliest (λ e. moment_of (outlook e.1 (lookup (is_at (cmp e.0)) blocks) t a records.dns)) es) r.0
    ∙ ap (λ (b : Bool). earliest (λ e. moment_of (outlook e.1 (lookup (is_at (cmp e.0)) blocks) t private b)) es) r.1
