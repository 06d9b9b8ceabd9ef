-- The value of an input.
use Rattle.std.proofs.Common.{◌≡◌, List, ℕ, Bool, true, false, cond, Option, Some, None, refl, sym, ap, ◌∙◌}
use Rattle.std.specs.Option.{option_map}
use Rattle.std.specs.Str.{IsUtf8, is_utf8}
use Rattle.std.proofs.lemmas.Str.{is_utf8-from_IsUtf8, IsUtf8-from_is_utf8}
use Rattle.serde_json.specs.Data.{Data}
use Rattle.serde_json.specs.Read.{read}
use Rattle.p2p_sim_script.specs.Input.{json_of}

-- a value that is none where the test holds, and else nothing
cond-none : (b : Bool) (o : Option Data) → (b ≡ true → o ≡ None) → cond b o None ≡ None
cond-none true o h = h refl
cond-none false o h = refl

pub json_of-some : (input : List ℕ) (tree : Data) → IsUtf8 input → read input ≡ Some tree → json_of input ≡ Some tree
unfolding json_of
json_of-some input tree utf8 reads = ap (λ b. cond b (read input) None) (is_utf8-from_IsUtf8 input utf8) ∙ reads

pub json_of-none : (input : List ℕ) → (IsUtf8 input → read input ≡ None) → json_of input ≡ None
unfolding json_of
json_of-none input h = cond-none (is_utf8 input) (read input) (λ t. h (IsUtf8-from_is_utf8 input t))

abbrev some_or : {A : Type 0} → A → Option A → A
some_or a None = a
some_or a (Some b) = b

-- what a value says that was read
pub mapped_from : {A B : Type 0} (f : A → B) (o : Option A) (b : B) → option_map f o ≡ Some b → (a : A) × (o ≡ Some a) × (f a ≡ b)
mapped_from f None b e = absurd (cc)
mapped_from f (Some a) b e = (a, refl, ap (some_or b) e)

-- a script where a value was read as one, and else why there is none
pub json_said : {A : Type 0} (says : Data → Option A) (input text : List ℕ) (a : A) → text ≡ input → IsUtf8 input → option_map says (read text) ≡ Some (Some a) → (tree : Data) × (json_of input ≡ Some tree) × (says tree ≡ Some a)
json_said says input text a same utf8 e =
    let m = mapped_from says (read text) (Some a) e in
    (m.0, json_of-some input m.0 utf8 (ap read (sym same) ∙ m.1), m.2)

pub json_unsaid : {A : Type 0} (says : Data → Option A) (input text : List ℕ) → text ≡ input → IsUtf8 input → option_map says (read text) ≡ Some None → (tree : Data) × (json_of input ≡ Some tree) × (says tree ≡ None)
json_unsaid says input text same utf8 e =
    let m = mapped_from says (read text) None e in
    (m.0, json_of-some input m.0 utf8 (ap read (sym same) ∙ m.1), m.2)
