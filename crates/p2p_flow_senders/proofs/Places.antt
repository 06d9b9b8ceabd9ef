-- The places of one more channel.
use Rattle.std.proofs.Common.{◌≡◌, ℕ, ◌+◌, List, [], ◌∷◌, ◌++◌, arith, ap, sym, ◌∙◌}
use Rattle.p2p_runtime.specs.QuotaLaw.{Rate}
use Rattle.p2p_flow_senders.specs.Registering.{places_of, places_in}

places_in-push : (n : ℕ) (quotas : List (ℕ × Rate)) (q : ℕ × Rate) → places_in n (quotas ++ q ∷ []) ≡ places_of n q.1 + places_in n quotas
places_in-push n [] q = omega arith
places_in-push n (first ∷ quotas) q = let rest = places_in-push n quotas q in omega (arith, rest)

-- the places of all channels, once one more is registered
pub one_more_channel : (n all : ℕ) (before read room after : List (ℕ × Rate)) (q : ℕ × Rate) → read ≡ before → room ≡ before → after ≡ room ++ q ∷ []
    → all ≡ places_of n q.1 + places_in n read → all ≡ places_in n after
one_more_channel n all before read room after q read_is room_is after_is all_is =
    all_is
    ∙ (ap (λ l. places_of n q.1 + places_in n l) read_is
    ∙ (sym (places_in-push n before q) ∙ sym (ap (λ l. places_in n l) (after_is ∙ ap (λ l. l ++ q ∷ []) room_is))))
