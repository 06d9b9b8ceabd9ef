-- What an arrival that is held against the quotas leaves of other keys.
use Rattle.std.proofs.Common.{◌≡◌, ℕ, ◌+◌, ◌<◌, Bool, true, false, cond, List, [], ◌∷◌, Option, Some, None, Result, Ok, Err, refl, sym, ap, subst, ◌∙◌}
use Rattle.std.specs.Prelude.{IfSome}
use Rattle.std.specs.BTreeMap.{is_at, insert_entry}
use Rattle.std.specs.Cmp.{IsTotalOrder, eq_by_cmp_equiv}
use Rattle.std.specs.Map.{lookup}
use Rattle.std.specs.Ordering.{is_eq, match_ordering}
use Rattle.std.specs.declared.cmp.Ordering.{Ordering}
use Rattle.std.specs.declared.cmp.Ordering.TheVariants.{Less, Equal, Greater}
use Rattle.p2p_address.specs.Addresses.{subnet_of}
use Rattle.p2p_address.specs.contracts.ip.IpAddrOrd.TheImpl.{ghosts}
use Rattle.p2p_address.specs.declared.ip.IpAddr.{IpAddr}
use Rattle.p2p_runtime.specs.QuotaCheck.{step_of, arrivals_after, after_check}
use Rattle.p2p_runtime.specs.QuotaKeys.{KeptByKey, KeepsOnlyRecent, found_arrival}
use Rattle.p2p_tracker_calls.specs.Heard.{ip_cmp}
use Rattle.p2p_tracker_directory.proofs.Addresses.{ip_total}
use Rattle.p2p_gates.specs.Quotas.{Quotas, IsHeld, IsCounted, is_pruned, counted_after}
use Rattle.p2p_gates.proofs.Orders.{derived-is}

module _ {K V : Type 0} {cmp : K → K → Ordering} (total : IsTotalOrder cmp) where
  -- an entry that is written leaves those of other keys
  other_kept : (k q : K) (v : V) (es : List (K × V)) → is_at (cmp k) q ≡ false
      → lookup (is_at (cmp q)) (insert_entry cmp es k v) ≡ lookup (is_at (cmp q)) es
  other_kept k q v [] apart = ap (λ b. cond b (Some v) None) ((eq_by_cmp_equiv total).symm q k ∙ apart)
  other_kept k q v (e ∷ es) apart =
      let laws = eq_by_cmp_equiv total in
      let rest = lookup (is_at (cmp q)) es in
      (elim (cmp k e.0) as (λ o. cmp k e.0 ≡ o → lookup (is_at (cmp q)) (match_ordering o ((k, v) ∷ e ∷ es) ((e.0, v) ∷ es) (e ∷ insert_entry cmp es k v)) ≡ lookup (is_at (cmp q)) (e ∷ es)) [
        | Less ↦ λ o. ap (λ b. cond b (Some v) (lookup (is_at (cmp q)) (e ∷ es))) (laws.symm q k ∙ apart)
        | Equal ↦ λ o.
            let here : is_eq (cmp q e.0) ≡ false = laws.symm q e.0 ∙ (sym (laws.congr k e.0 q (ap is_eq o)) ∙ apart) in
            ap (λ b. cond b (Some v) rest) here ∙ sym (ap (λ b. cond b (Some e.1) rest) here)
        | Greater ↦ λ o. ap (λ r. cond (is_eq (cmp q e.0)) (Some e.1) r) (other_kept k q v es apart)
      ]) refl

-- what a quota keeps of the keys but this one is what it kept
abbrev pub OthersStay : KeptByKey IpAddr → KeptByKey IpAddr → IpAddr → Type 0
OthersStay old new key = (q : IpAddr) → is_at (ip_cmp key) q ≡ false → found_arrival ip_cmp new q ≡ found_arrival ip_cmp old q

checked_others : (kept : KeptByKey IpAddr) (key : IpAddr) (now : ℕ) → OthersStay kept (after_check ip_cmp kept key now) key
checked_others kept key now q apart = by (step_of ip_cmp kept key now)
  where
    by : (r : Result ℕ ℕ) → lookup (is_at (ip_cmp q)) (arrivals_after ip_cmp kept.arrivals key r) ≡ lookup (is_at (ip_cmp q)) kept.arrivals
    by (Ok arrival) = other_kept ip_total key q arrival kept.arrivals apart
    by (Err from) = refl

-- after a check, which goes by the derived order
pub check_others : (old new : KeptByKey IpAddr) (key : IpAddr) (now : ℕ) → new ≡ after_check ghosts.cmp old key now → OthersStay old new key
check_others old new key now e q apart =
    ap (λ (k : KeptByKey IpAddr). found_arrival ip_cmp k q)
    (subst (λ (cmp : IpAddr → IpAddr → Ordering). new ≡ after_check cmp old key now) derived-is e)
    ∙ checked_others old key now q apart

held : (pruned : Bool) (old mid new : KeptByKey IpAddr) (key : IpAddr)
    → (pruned ≡ false → mid ≡ old) → (pruned ≡ true → KeepsOnlyRecent ip_cmp mid) → mid.latest ≡ old.latest → OthersStay mid new key
    → IsHeld pruned old new key
held pruned old mid new key same recent latest others = record {
  stays = λ no q apart. others q apart ∙ ap (λ (k : KeptByKey IpAddr). found_arrival ip_cmp k q) (same no);
  matters = λ yes q apart.
      subst (λ t. IfSome (found_arrival ip_cmp new q) (λ arrival. t < arrival)) latest
      (subst (λ (o : Option ℕ). IfSome o (λ arrival. mid.latest < arrival)) (sym (others q apart)) (recent yes q));
}

-- an arrival was counted, and then each quota was asked about its key
pub counted_held : (old mid : Quotas) (addresses subnets : KeptByKey IpAddr) (ip subnet : IpAddr)
    → mid.counted ≡ counted_after old.counted
    → (is_pruned old.counted ≡ false → mid ≡ record old { counted = old.counted + 1 })
    → (is_pruned old.counted ≡ true → KeepsOnlyRecent ip_cmp mid.addresses)
    → (is_pruned old.counted ≡ true → KeepsOnlyRecent ip_cmp mid.subnets)
    → mid.addresses.latest ≡ old.addresses.latest → mid.subnets.latest ≡ old.subnets.latest
    → subnet ≡ subnet_of ip
    → OthersStay mid.addresses addresses ip → OthersStay mid.subnets subnets subnet
    → IsCounted old (record { addresses = addresses; subnets = subnets; counted = mid.counted }) ip
counted_held old mid addresses subnets ip subnet counted same recent_address recent_subnet latest_address latest_subnet named first second = record {
  counted = counted;
  addresses = held (is_pruned old.counted) old.addresses mid.addresses addresses ip
      (λ no. ap (λ (q : Quotas). q.addresses) (same no)) recent_address latest_address first;
  subnets = subst (IsHeld (is_pruned old.counted) old.subnets subnets) named
      (held (is_pruned old.counted) old.subnets mid.subnets subnets subnet
      (λ no. ap (λ (q : Quotas). q.subnets) (same no)) recent_subnet latest_subnet second);
}
