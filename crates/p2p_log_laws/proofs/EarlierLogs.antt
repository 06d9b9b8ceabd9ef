-- Each beginning of a lawful log is lawful for the same beginning of its script.
use Rattle.std.proofs.Common.{◌≡◌, ℕ, suc, zero, ◌<◌, ◌≤◌, List, [], ◌∷◌, length, take, Some, refl, ap, sym, ◌∙◌, arith}
use Rattle.std.specs.Prelude.{slice_get}
use Rattle.std.proofs.lemmas.List.{take-take}
use Rattle.p2p_log.specs.declared.config.Config.{Config}
use Rattle.p2p_log.specs.declared.event.Event.{Event}
use Rattle.p2p_log.specs.declared.entry.Entry.{Entry}
use Rattle.p2p_log_rules.specs.Effect.{effect}
use Rattle.p2p_log_rules.specs.Lawful.{IsLawful}

-- beginnings of lists of one length are of one length
same_length : {X Y : Type 0} (n : ℕ) (xs : List X) (ys : List Y) → length xs ≡ length ys → length (take n xs) ≡ length (take n ys)
same_length zero xs ys long = refl
same_length (suc n) [] [] long = refl
same_length (suc n) [] (y ∷ ys) long = absurd (omega (arith, long))
same_length (suc n) (x ∷ xs) [] long = absurd (omega (arith, long))
same_length (suc n) (x ∷ xs) (y ∷ ys) long = let more = same_length n xs ys (omega (arith, long)) in omega (arith, more)

-- what stands in a beginning stands in the list, before the beginning's end
pub in_beginning : {X : Type 0} (n : ℕ) (xs : List X) (k : ℕ) (x : X) → slice_get (take n xs) k ≡ Some x → (k < n) × (slice_get xs k ≡ Some x)
in_beginning zero xs k x h = absurd (cc)
in_beginning (suc n) [] k x h = absurd (cc)
in_beginning (suc n) (y ∷ ys) zero x h = (omega arith, h)
in_beginning (suc n) (y ∷ ys) (suc k) x h = let more = in_beginning n ys k x h in (let less = more.0 in omega (arith, less), more.1)

pub beginning_lawful : (configs : List Config) (script : List Event) (log : List Entry) → IsLawful configs script log
    → (n : ℕ) → IsLawful configs (take n script) (take n log)
beginning_lawful configs script log lawful n = record {
  long = same_length n log script lawful.long;
  each = λ k e ev s t.
      let here = in_beginning n log k e s in
      let asked = in_beginning n script k ev t in
      let before : k ≤ n = let less = here.0 in omega (arith, less) in
      lawful.each k e ev here.1 asked.1 ∙ ap (λ (l : List Entry). effect configs l ev) (sym (take-take k n log before));
}
