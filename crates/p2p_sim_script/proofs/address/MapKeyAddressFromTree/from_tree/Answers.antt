-- A key that repeats.
use Rattle.std.proofs.Common.{◌∙◌, ap, Bool, not, List, Option, Some, Err, sym}
use Rattle.p2p_base.specs.Sorted.{sorted_once, has_repeat, by_key}
use Rattle.p2p_base.specs.declared.key.Key.{Key}
use Rattle.p2p_address.specs.declared.peer.Address.{Address}
use Rattle.p2p_sim_script.specs.AddressForm.{key_cmp}
use Rattle.p2p_sim_script.specs.Tree.{◌>>◌}
use Rattle.p2p_sim_script.proofs.address.MapKeyAddressFromTree.from_tree.Goals as goal

pub returns-in-Err-Duplicate : goal.returns-in-Err-Duplicate
returns-in-Err-Duplicate c =
    let pairs = c.in_ok-pairs.pairs in
    let read : Bool → Option (List (Key × Address)) = λ repeats. not repeats >> Some (sorted_once (by_key key_cmp) pairs) in
    let repeats = c.in-Err-Duplicate.ensures.duplicate (ap Err c.in-Err-Duplicate.field-0-is) in
    rw (c.in_ok-pairs.ensures) (ap read (ap (has_repeat (by_key key_cmp)) (sym c.into_inner.ensures) ∙ repeats))
