-- The order of addresses, by which sets and limiters keep them.
use Rattle.std.proofs.Common.{◌≡◌, List, sym, ap, ◌∙◌}
use Rattle.std.specs.List.{list_any}
use Rattle.std.specs.BTreeMap.{is_at}
use Rattle.std.specs.declared.cmp.Ordering.{Ordering}
use Rattle.p2p_address.specs.contracts.ip.IpAddrOrd.TheImpl.{ghosts}
use Rattle.p2p_address.specs.declared.ip.IpAddr.{IpAddr}
use Rattle.p2p_tracker_calls.specs.Heard.{ip_cmp}
use Rattle.p2p_tracker_directory.proofs.Addresses.{derived-order}
use Rattle.p2p_tracker_calls.specs.Gates.{is_registered}

-- the order that is derived is the one by which addresses are told
pub derived-is : ghosts.cmp ≡ ip_cmp
derived-is = λ i x y. derived-order x y i

-- whether a set that is kept by the derived order has an address
pub kept-is_registered : (ips : List IpAddr) (ip : IpAddr) → list_any (is_at (ghosts.cmp ip)) ips ≡ is_registered ips ip
kept-is_registered ips ip = ap (λ (cmp : IpAddr → IpAddr → Ordering). list_any (is_at (cmp ip)) ips) derived-is

-- a set that was made of a list has its addresses
pub made-is_registered : (kept ips : List IpAddr) (ip : IpAddr)
    → list_any (is_at (ghosts.cmp ip)) kept ≡ list_any (is_at (ghosts.cmp ip)) ips
    → is_registered kept ip ≡ is_registered ips ip
made-is_registered kept ips ip e = sym (kept-is_registered kept ip) ∙ (e ∙ kept-is_registered ips ip)
