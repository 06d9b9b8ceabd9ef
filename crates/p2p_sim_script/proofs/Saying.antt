-- What is said by parts is what the whole says.
use Rattle.std.proofs.Common.{◌≡◌, ℕ, List, [], ◌∷◌, ◌++◌, map, codes, bytes_eq, Bool, true, false, ◌&&◌, ◌||◌, cond, Less, Equal, Greater, Ordering, nat_cmp, Option, Some, None, option_map, option_and_then, if◌then◌else◌, refl, sym, ap, ap₂, ◌∙◌, append_assoc, append-nil, true≢false}
use Rattle.std.proofs.lemmas.Slice.Eq.{bytes_eq-Decides}
use Rattle.std.proofs.lemmas.Map.Text.{is_eq-slice_cmp}
use Rattle.std.specs.Cmp.Lexicographic.{slice_cmp}
use Rattle.std.specs.List.{list_any, list_all}
use Rattle.std.specs.Ordering.{match_ordering}
use Rattle.json.specs.Token.{Token}
use Rattle.json.specs.Json.{parse_map}
use Rattle.serde_json.specs.Data.{Data, array, object, Items, no_items, item, Members, no_members, member, put}
use Rattle.serde_json.specs.Find.{get_member}
use Rattle.serde_json.proofs.Views.{get_member-put, get_member-put_other}
use Rattle.p2p_log.specs.declared.config.Config.{Config}
use Rattle.p2p_log.specs.declared.event.Event.{Event}
use Rattle.p2p_sim_script.specs.Tree.{each, has_only, is_among, names_of, list_of}
use Rattle.p2p_sim_script.specs.ConfigForm.{config_of}
use Rattle.p2p_sim_script.specs.Form.{event_of, script_of}
use Rattle.p2p_sim_script.specs.Said.{Says, said_more, lists_said, script_said}
use Rattle.p2p_sim_script.specs.declared.text.Found.{Found}

-- ---- what a reader took

abbrev taken_or : {A : Type 0} → A → Option A → A
taken_or a None = a
taken_or a (Some b) = b

pub parse_map_from : {A B : Type 0} (f : A → B) (o : Option (A × List Token)) (b : B) (r : List Token) → parse_map f o ≡ Some (b, r) → (a : A) × (o ≡ Some (a, r)) × (b ≡ f a)
parse_map_from f None b r e = absurd (cc)
parse_map_from f (Some p) b r e = let same = ap (taken_or (b, r)) e in (p.0, ap (λ s. Some (p.0, s)) (ap (λ q. q.1) same), sym (ap (λ q. q.0) same))

pub parse_map_none : {A B : Type 0} (f : A → B) (o : Option (A × List Token)) → parse_map f o ≡ None → o ≡ None
parse_map_none f None e = refl
parse_map_none f (Some p) e = absurd (cc)

pub listed : {A : Type 0} (form : Data → Option A) (o : Option (Items × List Token)) → parse_map (list_of form) (parse_map array o) ≡ parse_map (each form) o
listed form None = refl
listed form (Some p) = refl

-- ---- a list

-- what a list says whose front said these
abbrev pub each_after : {A : Type 0} → (Data → Option A) → List A → Items → Option (List A)
each_after form done ds = option_map (λ more. done ++ more) (each form ds)

nothing_before : {A : Type 0} (x : Option (List A)) → x ≡ option_map (λ more. [] ++ more) x
nothing_before None = refl
nothing_before (Some xs) = refl

pub each_after-first : {A : Type 0} (form : Data → Option A) (o : Option (Items × List Token)) → parse_map (each form) o ≡ parse_map (each_after form []) o
each_after-first form None = refl
each_after-first form (Some p) = ap (λ x. Some (x, p.1)) (nothing_before (each form p.0))

joined : {A : Type 0} (done : List A) (x : A) (rest : Option (List A))
    → option_map (λ more. done ++ more) (option_and_then (λ xs. Some (x ∷ xs)) rest) ≡ option_map (λ more. (done ++ x ∷ []) ++ more) rest
joined done x None = refl
joined done x (Some xs) = ap Some (sym (append_assoc done (x ∷ []) xs))

pub each_after-more : {A : Type 0} (form : Data → Option A) (done : List A) (d : Data) (x : A) (o : Option (Items × List Token)) → form d ≡ Some x
    → parse_map (each_after form done) (parse_map (item d) o) ≡ parse_map (each_after form (done ++ x ∷ [])) o
each_after-more form done d x None e = refl
each_after-more form done d x (Some p) e = ap (λ y. Some (y, p.1)) (rw e (joined done x (each form p.0)))

pub each_after-refused : {A : Type 0} (form : Data → Option A) (done : List A) (d : Data) (ds : Items) (r : List Token) → form d ≡ None
    → parse_map (each_after form done) (parse_map (item d) (Some (ds, r))) ≡ Some (None, r)
each_after-refused form done d ds r e = rw e refl

pub each_after-end : {A : Type 0} (form : Data → Option A) (done : List A) (r : List Token) → parse_map (each_after form done) (Some (no_items, r)) ≡ Some (Some done, r)
each_after-end form done r = ap (λ xs. Some (Some xs, r)) (append-nil done)

-- ---- the members of the outer object

abbrev known : List (List ℕ)
known = map codes ("configs" ∷ "script" ∷ [])

apart : (xs ys : List ℕ) → bytes_eq xs ys ≡ false → xs ≡ ys → ⊥
apart xs ys e same = true≢false (sym ((bytes_eq-Decides xs ys).1 same) ∙ e)

same_name : (xs ys : List ℕ) → bytes_eq xs ys ≡ true → xs ≡ ys
same_name xs ys e = (bytes_eq-Decides xs ys).0 e

first_twice : (a b : Bool) → a && (a && b) ≡ a && b
first_twice true b = refl
first_twice false b = refl

swapped : (a b c : Bool) → b && (a && c) ≡ a && (b && c)
swapped true b c = refl
swapped false true c = refl
swapped false false c = refl

has_only-put_at : (names : List (List ℕ)) (o : Ordering) (k l : List ℕ) (d e : Data) (ms : Members) → slice_cmp nat_cmp k l ≡ o → has_only names (put k d ms) ≡ is_among names k && has_only names ms
    → has_only names (match_ordering o (member k d (member l e ms)) (member l d ms) (member l e (put k d ms))) ≡ is_among names k && has_only names (member l e ms)
has_only-put_at names Less k l d e ms is later = refl
has_only-put_at names Equal k l d e ms is later =
    let same : k ≡ l = same_name k l (sym (is_eq-slice_cmp k l) ∙ rw is refl) in
    rw same (sym (first_twice (is_among names l) (has_only names ms)))
has_only-put_at names Greater k l d e ms is later = ap (λ b. is_among names l && b) later ∙ swapped (is_among names k) (is_among names l) (has_only names ms)

pub has_only-put : (names : List (List ℕ)) (k : List ℕ) (d : Data) (ms : Members) → has_only names (put k d ms) ≡ is_among names k && has_only names ms
has_only-put names k d no_members = refl
has_only-put names k d (member l e ms) = has_only-put_at names (slice_cmp nat_cmp k l) k l d e ms refl (has_only-put names k d ms)

pub says_first : Says (record { configs = None; script = None; only = true }) no_members
says_first = record { configs = refl; script = refl; only = refl }

or_true : (a : Bool) → a || true ≡ true
or_true true = refl
or_true false = refl

turned_at : (xs ys : List ℕ) (b : Bool) → bytes_eq ys xs ≡ b → bytes_eq xs ys ≡ false → b ≡ false
turned_at xs ys true e f = absurd (apart xs ys f (sym (same_name ys xs e)))
turned_at xs ys false e f = refl

turned : (xs ys : List ℕ) → bytes_eq xs ys ≡ false → bytes_eq ys xs ≡ false
turned xs ys f = turned_at xs ys (bytes_eq ys xs) refl f

among_first : (c s k : List ℕ) → k ≡ c → is_among (c ∷ s ∷ []) k ≡ true
among_first c s k e = ap (λ b. b || (bytes_eq s k || false)) ((bytes_eq-Decides c k).1 (sym e))

among_second : (c s k : List ℕ) → k ≡ s → is_among (c ∷ s ∷ []) k ≡ true
among_second c s k e = ap (λ b. bytes_eq c k || (b || false)) ((bytes_eq-Decides s k).1 (sym e)) ∙ or_true (bytes_eq c k)

among_neither : (c s k : List ℕ) → bytes_eq k c ≡ false → bytes_eq k s ≡ false → is_among (c ∷ s ∷ []) k ≡ false
among_neither c s k e f = ap₂ (λ a b. a || (b || false)) (turned k c e) (turned k s f)

only_more : (names : List (List ℕ)) (k : List ℕ) (d : Data) (ms : Members) (only b : Bool) → is_among names k ≡ b → only ≡ has_only names ms → b && only ≡ has_only names (put k d ms)
only_more names k d ms only b e is = ap₂ (λ x y. x && y) (sym e) is ∙ sym (has_only-put names k d ms)

module _ {A : Type 0} (form : Data → Option A) where
  field_put : (name k : List ℕ) (d : Data) (ms : Members) → k ≡ name → form d ≡ option_and_then form (get_member name (put k d ms))
  field_put name k d ms same = ap (option_and_then form) (sym (ap (λ n. get_member n (put k d ms)) (sym same) ∙ get_member-put k d ms))

  field_kept : (name k : List ℕ) (d : Data) (ms : Members) (x : Option A) → (name ≡ k → ⊥) → x ≡ option_and_then form (get_member name ms) → x ≡ option_and_then form (get_member name (put k d ms))
  field_kept name k d ms x other is = is ∙ ap (option_and_then form) (sym (get_member-put_other name k d ms other))

two_names : codes "configs" ≡ codes "script" → ⊥
two_names e = apart (codes "configs") (codes "script") refl e

says_more_at : (found : Found) (k : List ℕ) (d : Data) (ms : Members) (a b : Bool) → bytes_eq k (codes "configs") ≡ a → bytes_eq k (codes "script") ≡ b → Says found ms
    → Says (if a then record found { configs = list_of config_of d } else if b then record found { script = list_of event_of d } else record found { only = false }) (put k d ms)
says_more_at found k d ms true b e f says =
    let same : k ≡ codes "configs" = same_name k (codes "configs") e in
    record {
      configs = field_put (list_of config_of) (codes "configs") k d ms same;
      script = field_kept (list_of event_of) (codes "script") k d ms found.script (λ h. two_names (sym (h ∙ same))) says.script;
      only = only_more known k d ms found.only true (among_first (codes "configs") (codes "script") k same) says.only;
    }
says_more_at found k d ms false true e f says =
    let same : k ≡ codes "script" = same_name k (codes "script") f in
    record {
      configs = field_kept (list_of config_of) (codes "configs") k d ms found.configs (λ h. two_names (h ∙ same)) says.configs;
      script = field_put (list_of event_of) (codes "script") k d ms same;
      only = only_more known k d ms found.only true (among_second (codes "configs") (codes "script") k same) says.only;
    }
says_more_at found k d ms false false e f says =
    record {
      configs = field_kept (list_of config_of) (codes "configs") k d ms found.configs (λ h. apart k (codes "configs") e (sym h)) says.configs;
      script = field_kept (list_of event_of) (codes "script") k d ms found.script (λ h. apart k (codes "script") f (sym h)) says.script;
      only = only_more known k d ms found.only false (among_neither (codes "configs") (codes "script") k e f) says.only;
    }

-- one member more
pub says_more : (found : Found) (k : List ℕ) (d : Data) (ms : Members) → Says found ms → Says (said_more found k d) (put k d ms)
says_more found k d ms says = says_more_at found k d ms (bytes_eq k (codes "configs")) (bytes_eq k (codes "script")) refl refl says

all_said : (a b : Bool) (c d : Option (List Config)) (e f : Option (List Event)) → a ≡ b → c ≡ d → e ≡ f → lists_said a c e ≡ lists_said b d f
all_said a b c d e f h i j = rw (h, i, j) refl

-- the script of the members is that of the object
pub script_said-is : (found : Found) (ms : Members) → Says found ms → script_said found ≡ script_of (object ms)
script_said-is found ms says = all_said found.only _ found.configs _ found.script _ says.only says.configs says.script
