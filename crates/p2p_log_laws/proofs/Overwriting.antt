-- What a ring holds and a newer item overwrites carries no copy.
use Rattle.std.proofs.Common.{◌≡◌, true, List, [], ◌∷◌, refl}
use Rattle.std.specs.Prelude.{filter, flat_map}
use Rattle.std.specs.List.{AllByRecursion as Each}
use Rattle.p2p_log.specs.declared.queue.Queue.{Queue}
use Rattle.p2p_log.specs.declared.item.Envelope.{Envelope}
use Rattle.p2p_log.specs.Apart.{AreApart}
use Rattle.p2p_log.specs.Lines.{stays, stands_in, ended_item}
use Rattle.p2p_log_rules.specs.Rows.{overwritten, ring_ends}
use Rattle.p2p_log.proofs.Each.{Each-append, Each-from_has, Each-has}
use Rattle.p2p_log_rules.proofs.Moves.{rings, rings_in, rings_taken}
use Rattle.p2p_log.proofs.Taken.{Each-taken}
use Rattle.p2p_log_laws.proofs.Fitting.{StandsFit, is_bare, is_item_end, holds_bare, bare_there}

-- what is overwritten carries no copy
pub rings_bare : (items : List Envelope) (qs : List Queue) → AreApart items → Each StandsFit items → Each (λ q. holds_bare q ≡ true) qs
    → Each (λ x. is_bare x.item ≡ true) (rings items qs)
rings_bare items qs apart stand bare =
    let fit : Each StandsFit (rings items qs) = Each-taken StandsFit items (rings items qs) stand (rings_taken items qs apart) in
    let in_ring : Each (λ x. holds_bare x.queue ≡ true) (rings items qs) = rings_in (λ q. holds_bare q ≡ true) items qs bare in
    Each-from_has (λ x. is_bare x.item ≡ true) (rings items qs)
    (λ x has. bare_there x.queue x.item (Each-has (λ y. holds_bare y.queue ≡ true) (rings items qs) x in_ring has) (Each-has StandsFit (rings items qs) x fit has))

overwritten_items : (ys : List Envelope) → Each (λ d. is_item_end d ≡ true) (overwritten ys)
overwritten_items [] = tt
overwritten_items (y ∷ ys) = (refl, tt)

pub ring_ends_items : (items : List Envelope) (qs : List Queue) → Each (λ d. is_item_end d ≡ true) (ring_ends items qs)
ring_ends_items items [] = tt
ring_ends_items items (q ∷ qs) =
    let ends = overwritten (filter (stands_in q) items) in
    let left = filter (stays (flat_map ended_item ends)) items in
    Each-append (λ d. is_item_end d ≡ true) ends (ring_ends left qs) (overwritten_items (filter (stands_in q) items)) (ring_ends_items left qs)
