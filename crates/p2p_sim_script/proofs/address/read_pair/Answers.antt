-- A list of another length is no pair.
use Rattle.std.proofs.Common.{◌≡◌, List, [], ◌∷◌, length, None, refl}
use Rattle.p2p_sim_script.specs.View.{items_view}
use Rattle.p2p_sim_script.specs.declared.value.Value.{Value}
use Rattle.p2p_sim_script.specs.AddressForm.{pair_in}
use Rattle.p2p_sim_script.proofs.address.read_pair.Goals as goal

no_pair : (vs : List Value) → (length vs ≡ 2 → ⊥) → pair_in (items_view vs) ≡ None
no_pair [] other = refl
no_pair (v ∷ []) other = refl
no_pair (v ∷ w ∷ []) other = absurd (other refl)
no_pair (v ∷ w ∷ x ∷ vs) other = refl

pub returns-then-items-ne2 : goal.returns-then-items-ne2
returns-then-items-ne2 c = no_pair c.args.items.now c.if-items-ne2.true
