-- What a reader takes, a step at a time.
use Rattle.std.proofs.Common.{◌≡◌, ℕ, zero, suc, ◌-◌, ◌<◌, ◌≤◌, List, [], ◌∷◌, ◌++◌, Bool, length, Option, Some, None, option_map, option_and_then, refl, sym, ap, ◌∙◌, arith}
use Rattle.json.specs.Token.{Token}
use Rattle.json.specs.Json as json
use Rattle.json.specs.Json.{Parse, parse_map, after_end_array, read_key, items_step, members_step, items, members, value, value_with, if_last}
use Rattle.json.specs.Lex.{tokens}
use Rattle.json.proofs.Grammar.{left, Takes, value_is, value-begin_array, value-begin_object, skip_value-shorter, items_end, items_fail, items_more, members_end, members_no_key, members_fail, members_more, after_end_array-shorter, read_key-shorter}
use Rattle.serde_json.specs.Data.{Num, Data, null, boolean, number, string, array, object, Items, no_items, item, Members, no_members, put}
use Rattle.p2p_sim_script.specs.View.{view, items_view}
use Rattle.p2p_sim_script.specs.declared.value.Value.{Value}
use Rattle.serde_json.specs.Read.{number_of, of_json, of_items, of_members, converted, read}
use Rattle.p2p_sim_script.specs.Taken.{value_taken, items_taken, members_taken}

-- ---- conversion

abbrev first_or : {A : Type 0} → A → Option A → A
first_or a None = a
first_or a (Some b) = b

found_there : {A B : Type 0} (a : A) (r s : List Token) (x : Option B) (b : B) → option_map {U = B × List Token} (λ y. (y, r)) x ≡ Some (b, s) → (r ≡ s) × (x ≡ Some b)
found_there a r s None b e = absurd (cc)
found_there a r s (Some y) b e = let same = ap (first_or (y, r)) e in (ap (λ p. p.1) same, ap (λ p. Some p.0) same)

converted_from : {A B : Type 0} (f : A → Option B) (o : Option (A × List Token)) (b : B) (r : List Token) → converted f o ≡ Some (b, r) → (a : A) × (o ≡ Some (a, r)) × (f a ≡ Some b)
converted_from f None b r e = absurd (cc)
converted_from f (Some p) b r e = let both = found_there p.0 p.1 r (f p.0) b e in (p.0, ap (λ s. Some (p.0, s)) both.0, both.1)

not_there : {B : Type 0} (r : List Token) (x : Option B) → option_map {U = B × List Token} (λ y. (y, r)) x ≡ None → x ≡ None
not_there r None e = refl
not_there r (Some y) e = absurd (cc)

twice : {A B : Type 0} (g : A → B) (r : List Token) (x : Option A) → option_map (λ b. (b, r)) (option_map g x) ≡ parse_map g (option_map (λ a. (a, r)) x)
twice g r None = refl
twice g r (Some a) = refl

of_array : (o : Option (json.Items × List Token)) → converted of_json (parse_map json.array o) ≡ parse_map array (converted of_items o)
of_array None = refl
of_array (Some p) = twice array p.1 (of_items p.0)

of_object : (o : Option (json.Members × List Token)) → converted of_json (parse_map json.object o) ≡ parse_map object (converted (λ ms. of_members ms no_members) o)
of_object None = refl
of_object (Some p) = twice object p.1 (of_members p.0 no_members)

with_item : (j : json.Json) (d : Data) → of_json j ≡ Some d → (o : Option (json.Items × List Token)) → converted of_items (parse_map (json.item j) o) ≡ parse_map (item d) (converted of_items o)
with_item j d e None = refl
with_item j d e (Some p) = rw e (twice (item d) p.1 (of_items p.0))

without_item : (j : json.Json) → of_json j ≡ None → (o : Option (json.Items × List Token)) → converted of_items (parse_map (json.item j) o) ≡ None
without_item j e None = refl
without_item j e (Some p) = rw e

with_member : (k : List ℕ) (j : json.Json) (d : Data) (old : Members) → of_json j ≡ Some d → (o : Option (json.Members × List Token))
    → converted (λ ms. of_members ms old) (parse_map (json.member k j) o) ≡ converted (λ ms. of_members ms (put k d old)) o
with_member k j d old e None = refl
with_member k j d old e (Some p) = rw e

without_member : (k : List ℕ) (j : json.Json) (old : Members) → of_json j ≡ None → (o : Option (json.Members × List Token)) → converted (λ ms. of_members ms old) (parse_map (json.member k j) o) ≡ None
without_member k j old e None = refl
without_member k j old e (Some p) = rw e

-- ---- a count of turns that is enough is as good as any other

none_at_end : (depth : ℕ) → value depth [] ≡ None
none_at_end depth = value_is depth []

module _ (p : Parse json.Json) (none : p [] ≡ None) (takes : Takes p) where
  items_none : (n : ℕ) → items p n [] ≡ None
  items_none n = items_fail p n [] refl none

  items_then : (n m : ℕ) (q : Option (json.Json × List Token)) → ((r : List Token) → left q ≡ Some r → items p n r ≡ items p m r)
      → option_and_then (λ q. parse_map (json.item q.0) (items p n q.1)) q ≡ option_and_then (λ q. parse_map (json.item q.0) (items p m q.1)) q
  items_then n m None same = refl
  items_then n m (Some q) same = ap (parse_map (json.item q.0)) (same q.1 refl)

  items_turn : (n m : ℕ) (ts : List Token) (o : Option (List Token)) → ((r : List Token) → left (p ts) ≡ Some r → items p n r ≡ items p m r)
      → items_step p (items p n) ts o ≡ items_step p (items p m) ts o
  items_turn n m ts (Some r) same = refl
  items_turn n m ts None same = items_then n m (p ts) same

  items_any : (n m : ℕ) (ts : List Token) → length ts ≤ n → length ts ≤ m → items p n ts ≡ items p m ts
  unfolding items
  items_any zero m [] a b = sym (items_none m)
  items_any zero m (t ∷ ts) a b = let never : ⊥ = omega arith in absurd never
  items_any (suc n) zero [] a b = items_none (suc n)
  items_any (suc n) zero (t ∷ ts) a b = let never : ⊥ = omega arith in absurd never
  items_any (suc n) (suc m) ts a b = items_turn n m ts (after_end_array ts) (λ r e. items_any n m r (omega (arith, takes ts r e)) (omega (arith, takes ts r e)))

  members_none : (n : ℕ) → members p n [] ≡ None
  members_none n = members_no_key p n [] refl

  members_then : (n m : ℕ) (k : List ℕ) (q : Option (json.Json × List Token)) → ((r : List Token) → left q ≡ Some r → members p n r ≡ members p m r)
      → option_and_then (λ q. parse_map (json.member k q.0) (members p n q.1)) q ≡ option_and_then (λ q. parse_map (json.member k q.0) (members p m q.1)) q
  members_then n m k None same = refl
  members_then n m k (Some q) same = ap (parse_map (json.member k q.0)) (same q.1 refl)

  members_turn : (n m : ℕ) (q : Option (Option (List ℕ) × List Token)) → ((k : List ℕ) (s r : List Token) → q ≡ Some (Some k, s) → left (p s) ≡ Some r → members p n r ≡ members p m r)
      → option_and_then (λ q. members_step p (members p n) q.0 q.1) q ≡ option_and_then (λ q. members_step p (members p m) q.0 q.1) q
  members_turn n m None same = refl
  members_turn n m (Some (None, s)) same = refl
  members_turn n m (Some (Some k, s)) same = members_then n m k (p s) (λ r e. same k s r refl e)

  members_any : (n m : ℕ) (ts : List Token) → length ts ≤ n → length ts ≤ m → members p n ts ≡ members p m ts
  unfolding members
  members_any zero m [] a b = sym (members_none m)
  members_any zero m (t ∷ ts) a b = let never : ⊥ = omega arith in absurd never
  members_any (suc n) zero [] a b = members_none (suc n)
  members_any (suc n) zero (t ∷ ts) a b = let never : ⊥ = omega arith in absurd never
  members_any (suc n) (suc m) ts a b =
      members_turn n m (read_key ts)
      (λ k s r key e. members_any n m r (omega (arith, takes s r e, read_key-shorter ts (Some k) s key)) (omega (arith, takes s r e, read_key-shorter ts (Some k) s key)))

-- ---- a value

pub value_taken-none : (depth : ℕ) → value_taken depth [] ≡ None
unfolding value_taken
value_taken-none depth = ap (converted of_json) (none_at_end depth)

pub value_taken-string : (depth : ℕ) (s : List ℕ) (r : List Token) → value_taken depth (Token.string s ∷ r) ≡ Some (string s, r)
unfolding value_taken
value_taken-string depth s r = ap (converted of_json) (value_is depth (Token.string s ∷ r))

pub value_taken-number : (depth : ℕ) (s : List ℕ) (r : List Token) (n : Num) → number_of s ≡ Some n → value_taken depth (Token.number s ∷ r) ≡ Some (number n, r)
unfolding value_taken
value_taken-number depth s r n e = ap (converted of_json) (value_is depth (Token.number s ∷ r)) ∙ rw e

pub value_taken-no_number : (depth : ℕ) (s : List ℕ) (r : List Token) → number_of s ≡ None → value_taken depth (Token.number s ∷ r) ≡ None
unfolding value_taken
value_taken-no_number depth s r e = ap (converted of_json) (value_is depth (Token.number s ∷ r)) ∙ rw e

pub value_taken-boolean : (depth : ℕ) (b : Bool) (r : List Token) → value_taken depth (Token.boolean b ∷ r) ≡ Some (boolean b, r)
unfolding value_taken
value_taken-boolean depth b r = ap (converted of_json) (value_is depth (Token.boolean b ∷ r))

pub value_taken-null : (depth : ℕ) (r : List Token) → value_taken depth (Token.null ∷ r) ≡ Some (null, r)
unfolding value_taken
value_taken-null depth r = ap (converted of_json) (value_is depth (Token.null ∷ r))

pub value_taken-end_object : (depth : ℕ) (r : List Token) → value_taken depth (Token.end_object ∷ r) ≡ None
unfolding value_taken
value_taken-end_object depth r = ap (converted of_json) (value_is depth (Token.end_object ∷ r))

pub value_taken-end_array : (depth : ℕ) (r : List Token) → value_taken depth (Token.end_array ∷ r) ≡ None
unfolding value_taken
value_taken-end_array depth r = ap (converted of_json) (value_is depth (Token.end_array ∷ r))

pub value_taken-key : (depth : ℕ) (s : List ℕ) (r : List Token) → value_taken depth (Token.key s ∷ r) ≡ None
unfolding value_taken
value_taken-key depth s r = ap (converted of_json) (value_is depth (Token.key s ∷ r))

pub value_taken-bad : (depth : ℕ) (r : List Token) → value_taken depth (Token.bad ∷ r) ≡ None
unfolding value_taken
value_taken-bad depth r = ap (converted of_json) (value_is depth (Token.bad ∷ r))

pub value_taken-too_deep_array : (r : List Token) → value_taken 0 (Token.begin_array ∷ r) ≡ None
unfolding value_taken
value_taken-too_deep_array r = ap (converted of_json) (value_is 0 (Token.begin_array ∷ r))

pub value_taken-too_deep_object : (r : List Token) → value_taken 0 (Token.begin_object ∷ r) ≡ None
unfolding value_taken
value_taken-too_deep_object r = ap (converted of_json) (value_is 0 (Token.begin_object ∷ r))

pub value_taken-array : (depth : ℕ) (r : List Token) → 0 < depth → value_taken depth (Token.begin_array ∷ r) ≡ parse_map array (items_taken (depth - 1) r)
unfolding value_taken items_taken
value_taken-array depth r some = ap (converted of_json) (value-begin_array depth r some) ∙ of_array (items (value (depth - 1)) (length r) r)

pub value_taken-object : (depth : ℕ) (r : List Token) → 0 < depth → value_taken depth (Token.begin_object ∷ r) ≡ parse_map object (members_taken (depth - 1) no_members r)
unfolding value_taken members_taken
value_taken-object depth r some = ap (converted of_json) (value-begin_object depth r some) ∙ of_object (members (value (depth - 1)) (length r) r)

-- ---- an array's items

pub items_taken-end : (depth : ℕ) (ts r : List Token) → after_end_array ts ≡ Some r → items_taken depth ts ≡ Some (no_items, r)
unfolding items_taken
items_taken-end depth ts r e = ap (converted of_items) (items_end (value depth) (length ts) ts r (omega arith) e)

pub items_taken-more : (depth : ℕ) (ts r : List Token) (d : Data) → after_end_array ts ≡ None → value_taken depth ts ≡ Some (d, r) → items_taken depth ts ≡ parse_map (item d) (items_taken depth r)
unfolding value_taken items_taken
items_taken-more depth ts r d going e =
    let p = value depth in
    let j = converted_from of_json (p ts) d r e in
    let less : length r < length ts = skip_value-shorter depth ts r (ap left j.1) in
    ap (converted of_items) (items_more p (length ts) ts r j.0 (omega (arith, less)) going j.1)
    ∙ ap (λ o. converted of_items (parse_map (json.item j.0) o)) (items_any p (none_at_end depth) (skip_value-shorter depth) (length ts - 1) (length r) r (omega (arith, less)) (omega arith))
    ∙ with_item j.0 d j.2 _

no_item : (more : Parse json.Items) (o : Option (json.Json × List Token)) → converted of_json o ≡ None → converted of_items (option_and_then (λ q. parse_map (json.item q.0) (more q.1)) o) ≡ None
no_item more None e = refl
no_item more (Some q) e = without_item q.0 (not_there q.1 (of_json q.0) e) (more q.1)

items_refused : (p : Parse json.Json) (n : ℕ) (ts : List Token) → after_end_array ts ≡ None → converted of_json (p ts) ≡ None → converted of_items (items p n ts) ≡ None
unfolding items
items_refused p zero ts going e = refl
items_refused p (suc n) ts going e = ap (λ o. converted of_items (items_step p (items p n) ts o)) going ∙ no_item (items p n) (p ts) e

pub items_taken-refused : (depth : ℕ) (ts : List Token) → after_end_array ts ≡ None → value_taken depth ts ≡ None → items_taken depth ts ≡ None
unfolding value_taken items_taken
items_taken-refused depth ts going e = items_refused (value depth) (length ts) ts going e

-- ---- an object's members

pub members_taken-end : (depth : ℕ) (old : Members) (ts r : List Token) → read_key ts ≡ Some (None, r) → members_taken depth old ts ≡ Some (old, r)
unfolding members_taken
members_taken-end depth old ts r e = ap (converted (λ ms. of_members ms old)) (members_end (value depth) (length ts) ts r (omega arith) e)

pub members_taken-no_key : (depth : ℕ) (old : Members) (ts : List Token) → read_key ts ≡ None → members_taken depth old ts ≡ None
unfolding members_taken
members_taken-no_key depth old ts e = ap (converted (λ ms. of_members ms old)) (members_no_key (value depth) (length ts) ts e)

pub members_taken-more : (depth : ℕ) (old : Members) (k : List ℕ) (ts s r : List Token) (d : Data) → read_key ts ≡ Some (Some k, s) → value_taken depth s ≡ Some (d, r)
    → members_taken depth old ts ≡ members_taken depth (put k d old) r
unfolding value_taken members_taken
members_taken-more depth old k ts s r d key e =
    let p = value depth in
    let j = converted_from of_json (p s) d r e in
    let less : length r < length s = skip_value-shorter depth s r (ap left j.1) in
    let lesser : length s < length ts = read_key-shorter ts (Some k) s key in
    ap (converted (λ ms. of_members ms old)) (members_more p (length ts) k ts s r j.0 (omega (arith, less, lesser)) key j.1)
    ∙ ap (λ o. converted (λ ms. of_members ms old) (parse_map (json.member k j.0) o)) (members_any p (none_at_end depth) (skip_value-shorter depth) (length ts - 1) (length r) r (omega (arith, less, lesser)) (omega arith))
    ∙ with_member k j.0 d old j.2 _

no_member : (old : Members) (k : List ℕ) (more : Parse json.Members) (o : Option (json.Json × List Token)) → converted of_json o ≡ None
    → converted (λ ms. of_members ms old) (option_and_then (λ q. parse_map (json.member k q.0) (more q.1)) o) ≡ None
no_member old k more None e = refl
no_member old k more (Some q) e = without_member k q.0 old (not_there q.1 (of_json q.0) e) (more q.1)

members_refused : (p : Parse json.Json) (old : Members) (n : ℕ) (k : List ℕ) (ts s : List Token) → read_key ts ≡ Some (Some k, s) → converted of_json (p s) ≡ None → converted (λ ms. of_members ms old) (members p n ts) ≡ None
unfolding members
members_refused p old zero k ts s key e = refl
members_refused p old (suc n) k ts s key e = rw key (no_member old k (members p n) (p s) e)

pub members_taken-refused : (depth : ℕ) (old : Members) (k : List ℕ) (ts s : List Token) → read_key ts ≡ Some (Some k, s) → value_taken depth s ≡ None → members_taken depth old ts ≡ None
unfolding value_taken members_taken
members_taken-refused depth old k ts s key e = members_refused (value depth) old (length ts) k ts s key e

-- ---- the whole text

abbrev whole : Option (json.Json × List Token) → Option Data
whole o = option_and_then of_json (option_and_then (λ p. if_last p.0 p.1) o)

whole_refused : (o : Option (json.Json × List Token)) → converted of_json o ≡ None → whole o ≡ None
whole_refused None e = refl
whole_refused (Some (j, [])) e = not_there [] (of_json j) e
whole_refused (Some (j, t ∷ r)) e = refl

pub read-taken : (text : List ℕ) (d : Data) → value_taken 127 (tokens text) ≡ Some (d, []) → read text ≡ Some d
unfolding value_taken
read-taken text d e = let j = converted_from of_json (value 127 (tokens text)) d [] e in ap whole j.1 ∙ j.2

read-more_left : (text : List ℕ) (d : Data) (t : Token) (r : List Token) → value_taken 127 (tokens text) ≡ Some (d, t ∷ r) → read text ≡ None
unfolding value_taken
read-more_left text d t r e = ap whole (converted_from of_json (value 127 (tokens text)) d (t ∷ r) e).1

pub read-more : (text : List ℕ) (d : Data) (ts : List Token) → value_taken 127 (tokens text) ≡ Some (d, ts) → (ts ≡ [] → ⊥) → read text ≡ None
read-more text d [] e some = absurd (some refl)
read-more text d (t ∷ r) e some = read-more_left text d t r e

pub read-refused : (text : List ℕ) → value_taken 127 (tokens text) ≡ None → read text ≡ None
unfolding value_taken
read-refused text e = whole_refused (value 127 (tokens text)) e

-- ---- a list that grows at its end

abbrev pub items_before : List Value → Items → Items
items_before [] rest = rest
items_before (v ∷ vs) rest = item (view v) (items_before vs rest)

pub items_before-none : (vs : List Value) → items_before vs no_items ≡ items_view vs
items_before-none [] = refl
items_before-none (v ∷ vs) = ap (item (view v)) (items_before-none vs)

items_before-snoc : (vs : List Value) (v : Value) (rest : Items) → items_before vs (item (view v) rest) ≡ items_before (vs ++ v ∷ []) rest
items_before-snoc [] v rest = refl
items_before-snoc (w ∷ vs) v rest = ap (item (view w)) (items_before-snoc vs v rest)

pub items_before-more : (vs : List Value) (v : Value) (r : Option (Items × List Token)) → parse_map (items_before vs) (parse_map (item (view v)) r) ≡ parse_map (items_before (vs ++ v ∷ [])) r
items_before-more vs v None = refl
items_before-more vs v (Some p) = ap (λ ds. Some (ds, p.1)) (items_before-snoc vs v p.0)

pub items_before-first : (r : Option (Items × List Token)) → r ≡ parse_map (items_before []) r
items_before-first None = refl
items_before-first (Some p) = refl
