-- The order of IP addresses.
use Rattle.std.proofs.Common.{◌≡◌, ℕ, true, ◌||◌, List, [], ◌∷◌, refl, sym, ap, ◌∙◌}
use Rattle.std.proofs.lemmas.Bool.{false≢true}
use Rattle.std.proofs.lemmas.Cmp.{nat_list_cmp_total}
use Rattle.std.proofs.lemmas.Map.Lookups.{exact_bytes}
use Rattle.std.specs.Cmp.{IsTotalOrder}
use Rattle.std.specs.Cmp.Lexicographic.{slice_cmp, texts_ties}
use Rattle.std.specs.Ordering.{nat_cmp, ordering_reverse, match_ordering}
use Rattle.std.specs.BTreeSet.{replace_key}
use Rattle.std.specs.BTreeMap.{is_at}
use Rattle.std.specs.declared.cmp.Ordering.{Ordering}
use Rattle.std.specs.declared.cmp.Ordering.TheVariants.{Less, Equal, Greater}
use Rattle.p2p_address.specs.contracts.ip.IpAddrOrd.TheImpl.{ghosts}
use Rattle.p2p_address.specs.declared.ip.IpAddr.{IpAddr}
use Rattle.p2p_address.specs.declared.ip.IpAddr.TheVariants.{V4, V6}
use Rattle.p2p_base.specs.Sorted.{sorted_once}
use Rattle.p2p_base.proofs.SortedRepeats.{any-sorted_once}
use Rattle.p2p_tracker_calls.specs.Heard.{ip_cmp}
use Rattle.p2p_tracker_calls.specs.Lives.{same_ip}
use Rattle.p2p_tracker_calls.specs.Named.{EqualKeysAreOne}
use Rattle.p2p_tracker_calls.specs.Sets.{is_among}
use Rattle.p2p_tracker_calls.proofs.Named.{among-flip}
use Rattle.p2p_tracker_directory.specs.Listed.{is_heard}

less_greater : {Q : Type 0} → Less ≡ Greater → Q
less_greater e = absurd cc

less_equal : {Q : Type 0} → Less ≡ Equal → Q
less_equal e = absurd cc

greater_less : {Q : Type 0} → Greater ≡ Less → Q
greater_less e = absurd cc

greater_equal : {Q : Type 0} → Greater ≡ Equal → Q
greater_equal e = absurd cc

ip_antisymm : (x y : IpAddr) → ip_cmp x y ≡ ordering_reverse (ip_cmp y x)
ip_antisymm (V4 a) (V4 b) = nat_list_cmp_total.antisymm a b
ip_antisymm (V4 a) (V6 b) = refl
ip_antisymm (V6 a) (V4 b) = refl
ip_antisymm (V6 a) (V6 b) = nat_list_cmp_total.antisymm a b

ip_trans : (x y z : IpAddr) → ip_cmp x y ≡ Less → ip_cmp y z ≡ Less → ip_cmp x z ≡ Less
ip_trans (V4 a) (V4 b) (V4 c) e f = nat_list_cmp_total.trans a b c e f
ip_trans (V4 a) (V4 b) (V6 c) e f = refl
ip_trans (V4 a) (V6 b) (V4 c) e f = greater_less f
ip_trans (V4 a) (V6 b) (V6 c) e f = refl
ip_trans (V6 a) (V4 b) z e f = greater_less e
ip_trans (V6 a) (V6 b) (V4 c) e f = greater_less f
ip_trans (V6 a) (V6 b) (V6 c) e f = nat_list_cmp_total.trans a b c e f

ip_congr : (x y z : IpAddr) → ip_cmp x y ≡ Equal → ip_cmp x z ≡ ip_cmp y z
ip_congr (V4 a) (V4 b) (V4 c) e = nat_list_cmp_total.congr a b c e
ip_congr (V4 a) (V4 b) (V6 c) e = refl
ip_congr (V4 a) (V6 b) z e = less_equal e
ip_congr (V6 a) (V4 b) z e = greater_equal e
ip_congr (V6 a) (V6 b) (V4 c) e = refl
ip_congr (V6 a) (V6 b) (V6 c) e = nat_list_cmp_total.congr a b c e

pub ip_total : IsTotalOrder ip_cmp
ip_total = record { antisymm = ip_antisymm; trans = ip_trans; congr = ip_congr }

-- addresses are the same exactly where the order has them equal
pub ip_ties : (x y : IpAddr) → same_ip x y ≡ is_at (ip_cmp x) y
ip_ties (V4 a) (V4 b) = texts_ties a b
ip_ties (V4 a) (V6 b) = refl
ip_ties (V6 a) (V4 b) = refl
ip_ties (V6 a) (V6 b) = texts_ties a b

equal_at : (r : Ordering) → is_at (λ (x : ℕ). r) 0 ≡ true → r ≡ Equal
equal_at Less e = absurd (false≢true e)
equal_at Equal e = refl
equal_at Greater e = absurd (false≢true e)

pub ip_one : EqualKeysAreOne ip_cmp
ip_one (V4 a) (V4 b) e = ap (λ (x : List ℕ). V4 x) (exact_bytes a b (equal_at (slice_cmp nat_cmp a b) e))
ip_one (V4 a) (V6 b) e = absurd (false≢true e)
ip_one (V6 a) (V4 b) e = absurd (false≢true e)
ip_one (V6 a) (V6 b) e = ap (λ (x : List ℕ). V6 x) (exact_bytes a b (equal_at (slice_cmp nat_cmp a b) e))

-- an address stands in a list by either test
heard-among : (ips : List IpAddr) (source : IpAddr) → is_heard ips source ≡ is_among ip_cmp ips source
heard-among [] source = refl
heard-among (ip ∷ ips) source = ap (λ b. b || is_heard ips source) (ip_ties ip source) ∙ ap (λ b. is_at (ip_cmp ip) source || b) (heard-among ips source)

-- and in the list of each once alike
pub heard-sorted_once : (ips : List IpAddr) (source : IpAddr) → is_heard (sorted_once ip_cmp ips) source ≡ is_heard ips source
heard-sorted_once ips source =
    heard-among (sorted_once ip_cmp ips) source
    ∙ (among-flip ip_total (sorted_once ip_cmp ips) source
    ∙ (any-sorted_once ip_total source ips
    ∙ (sym (among-flip ip_total ips source) ∙ sym (heard-among ips source))))

pub among-sorted_once : (ips : List IpAddr) (source : IpAddr) → is_among ip_cmp (sorted_once ip_cmp ips) source ≡ is_heard ips source
among-sorted_once ips source = sym (heard-among (sorted_once ip_cmp ips) source) ∙ heard-sorted_once ips source

-- the order that is derived
pub derived-order : (x y : IpAddr) → ghosts.cmp x y ≡ ip_cmp x y
derived-order (V4 a) (V4 b) = refl
derived-order (V4 a) (V6 b) = refl
derived-order (V6 a) (V4 b) = refl
derived-order (V6 a) (V6 b) = refl

replace_derived : (xs : List IpAddr) (k : IpAddr) → replace_key ghosts.cmp xs k ≡ replace_key ip_cmp xs k
replace_derived [] k = refl
replace_derived (x ∷ xs) k =
    ap (λ r. match_ordering r (k ∷ x ∷ xs) (k ∷ xs) (x ∷ replace_key ghosts.cmp xs k)) (derived-order k x)
    ∙ ap (λ zs. match_ordering (ip_cmp k x) (k ∷ x ∷ xs) (k ∷ xs) (x ∷ zs)) (replace_derived xs k)

pub sorted_once-derived : (xs : List IpAddr) → sorted_once ghosts.cmp xs ≡ sorted_once ip_cmp xs
sorted_once-derived [] = refl
sorted_once-derived (x ∷ xs) = ap (λ zs. replace_key ghosts.cmp zs x) (sorted_once-derived xs) ∙ replace_derived (sorted_once ip_cmp xs) x
