-- The names of an object.
use Rattle.std.proofs.Common.{◌≡◌, ℕ, ◌&&◌, ◌||◌, Bool, true, false, List, [], ◌∷◌, map, Bor, refl, sym, ap, ap₂, ◌∙◌}
use Rattle.std.specs.List.{list_any, list_all}
use Rattle.std.specs.Str.{bytes_eq}
use Rattle.serde_json.specs.Data.{Members, no_members, put}
use Rattle.p2p_sim_script.specs.Tree.{has_only, is_among}
use Rattle.p2p_sim_script.specs.View.{members_view, put_all}
use Rattle.p2p_sim_script.proofs.Saying.{has_only-put}
use Rattle.p2p_sim_script.proofs.Views.{Entry, Seen, all_seen}

is_among-lent : (names : List (Bor (List ℕ))) (name : List ℕ) → is_among (map (λ n. n.now) names) name ≡ list_any (λ n. bytes_eq n.now name) names
is_among-lent [] name = refl
is_among-lent (n ∷ names) name = ap (λ b. bytes_eq n.now name || b) (is_among-lent names name)

and_true : (a : Bool) → a && true ≡ a
and_true true = refl
and_true false = refl

turned : (a b c : Bool) → (b && a) && c ≡ a && (b && c)
turned true true c = refl
turned true false c = refl
turned false true c = refl
turned false false c = refl

has_only-put_all : (names : List (List ℕ)) (found : Members) (ms : List Seen) → has_only names (put_all found ms) ≡ has_only names found && list_all (λ (m : Seen). is_among names m.0.now) ms
has_only-put_all names found [] = sym (and_true (has_only names found))
has_only-put_all names found (m ∷ ms) =
    has_only-put_all names (put m.0.now m.1 found) ms ∙ ap (λ b. b && list_all (λ (n : Seen). is_among names n.0.now) ms) (has_only-put names m.0.now m.1 found)
    ∙ turned (has_only names found) (is_among names m.0.now) (list_all (λ (n : Seen). is_among names n.0.now) ms)

lent_all : (names : List (Bor (List ℕ))) (ms : List Entry)
    → list_all (λ m. list_any (λ n. bytes_eq n.now m.0.now) names) ms ≡ list_all (λ (m : Seen). is_among (map (λ n. n.now) names) m.0.now) (all_seen ms)
lent_all names [] = refl
lent_all names (m ∷ ms) = ap₂ (λ a b. a && b) (sym (is_among-lent names m.0.now)) (lent_all names ms)

pub has_only-members : (names : List (Bor (List ℕ))) (ms : List Entry)
    → list_all (λ m. list_any (λ n. bytes_eq n.now m.0.now) names) ms ≡ has_only (map (λ n. n.now) names) (members_view ms)
has_only-members names ms = lent_all names ms ∙ sym (has_only-put_all (map (λ n. n.now) names) no_members (all_seen ms))
