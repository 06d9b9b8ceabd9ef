-- What rows put and end.
use Rattle.std.proofs.Common.{◌≡◌, ℕ, ◌+◌, List, [], ◌∷◌, ◌++◌, length, refl, ap, ◌∙◌, arith}
use Rattle.std.specs.Prelude.{flat_map}
use Rattle.p2p_base.specs.declared.key.Key.{Key}
use Rattle.p2p_log.specs.declared.queue.Queue.{Queue}
use Rattle.p2p_log.specs.declared.item.Item.{Item}
use Rattle.p2p_log.specs.declared.end.Outcome.{Outcome}
use Rattle.p2p_log.specs.Lines.{ended_item, placed}
use Rattle.p2p_log_rules.specs.Effect.{copies_end}

-- one put more
pub placed-append :
    (n p : ℕ) (xs : List (Queue × Item)) (x : Queue × Item)
    → placed n p (xs ++ x ∷ []) ≡ placed n p xs ++ record { entry = n; place = p + length xs; queue = x.0; item = x.1 } ∷ []
placed-append n p [] x = ap (λ k. record { entry = n; place = k; queue = x.0; item = x.1 } ∷ []) (omega arith)
placed-append n p (y ∷ ys) x =
    ap (λ r. record { entry = n; place = p; queue = y.0; item = y.1 } ∷ r)
    (placed-append n (p + 1) ys x ∙ ap (λ k. placed n (p + 1) ys ++ record { entry = n; place = k; queue = x.0; item = x.1 } ∷ []) (grind arith))

-- copies that end are no items
pub ended_item-copies : (send p : ℕ) (to : List Key) (o : Outcome) → flat_map ended_item (copies_end send p to o) ≡ []
ended_item-copies send p [] o = refl
ended_item-copies send p (k ∷ ks) o = ended_item-copies send (p + 1) ks o
