-- Items that were dropped by their names, and those that were taken and dropped.
use Rattle.std.proofs.Common.{◌≡◌, List, [], ◌∷◌, ◌++◌, map, refl, ap, sym, ◌∙◌, append_assoc, append-nil}
use Rattle.std.specs.Prelude.{flat_map}
use Rattle.p2p_log.specs.declared.end.Cause.{Cause}
use Rattle.p2p_log.specs.declared.item.Envelope.{Envelope}
use Rattle.p2p_log.specs.Drained.{ends_with, all_end}
use Rattle.p2p_log.specs.Lines.{name_of, named}
use Rattle.p2p_log_rules.specs.declared.row.Row.{Row}
use Rattle.p2p_log_rules.specs.Ending.{copies_drop}
use Rattle.p2p_net_queues.specs.Rows.{named_end, taken_dropped, all_dropped}

pub named_end-named : (c : Cause) (xs : List Envelope) → named_end c (map named xs) ≡ all_end c xs
named_end-named c [] = refl
named_end-named c (x ∷ xs) = ap (λ l. ends_with c x ++ l) (named_end-named c xs)

pub all_dropped-named : (c : Cause) (xs : List Envelope) (r : Row)
    → all_dropped c (map named xs) r ≡ record r { takes = r.takes ++ map name_of xs; ends = r.ends ++ flat_map (copies_drop c) xs }
all_dropped-named c [] r = ap (λ l. record r { takes = l; ends = r.ends }) (sym (append-nil r.takes)) ∙ ap (λ l. record r { takes = r.takes ++ []; ends = l }) (sym (append-nil r.ends))
all_dropped-named c (x ∷ xs) r =
    all_dropped-named c xs (taken_dropped c (named x) r)
    ∙ (ap (λ l. record r { takes = l; ends = (r.ends ++ copies_drop c x) ++ flat_map (copies_drop c) xs }) (append_assoc r.takes (name_of x ∷ []) (map name_of xs))
    ∙ ap (λ l. record r { takes = r.takes ++ name_of x ∷ map name_of xs; ends = l }) (append_assoc r.ends (copies_drop c x) (flat_map (copies_drop c) xs)))
