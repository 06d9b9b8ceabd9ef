-- The row that the code makes of the end of a connection is the row of the rule.
use Rattle.std.proofs.Common.{◌≡◌, ℕ, List, [], ◌∷◌, ◌++◌, refl, ap, sym, ◌∙◌, append_assoc, append-nil}
use Rattle.std.specs.Prelude.{map, flat_map}
use Rattle.std.proofs.lemmas.Grind.{flat_map-append}
use Rattle.p2p_log.specs.declared.item.Envelope.{Envelope}
use Rattle.p2p_log.specs.declared.end.Cause.{Cause}
use Rattle.p2p_log.specs.declared.end.End.{End}
use Rattle.p2p_log.specs.declared.entry.Ended.{Ended}
use Rattle.p2p_log.specs.declared.entry.Reply.TheVariants as reply
use Rattle.p2p_log.specs.Drained.{ends_with, all_end}
use Rattle.p2p_log.specs.Lines.{name_of, named}
use Rattle.p2p_log_rules.specs.declared.row.Row.{Row}
use Rattle.p2p_log_rules.specs.Ending.{copies_drop}
use Rattle.p2p_net_queues.specs.Rows.{named_end, taken_dropped, all_dropped}

-- ---- items under their names

pub named_ends_with : (c : Cause) (xs : List Envelope) → named_end c (map named xs) ≡ all_end c xs
named_ends_with c [] = refl
named_ends_with c (x ∷ xs) = ap (λ l. ends_with c x ++ l) (named_ends_with c xs)

pub all_end-append : (c : Cause) (xs ys : List Envelope) → all_end c (xs ++ ys) ≡ all_end c xs ++ all_end c ys
all_end-append c xs ys = flat_map-append (ends_with c) xs ys

-- ---- what ends, queue by queue

-- what ends with a connection, one queue after another, is what ends of all of it
pub ends_of_all : (c : Cause) (before : List End) (high low held told answers flight : List Envelope)
    → ((((before ++ all_end c (high ++ low)) ++ all_end c held) ++ all_end c told) ++ all_end c answers) ++ all_end c flight
    ≡ before ++ all_end c (high ++ (low ++ (held ++ (told ++ (answers ++ (flight ++ []))))))
ends_of_all c before high low held told answers flight =
    let E : List Envelope → List End = λ xs. all_end c xs in
    let one = all_end-append c high low in
    let last : all_end c (flight ++ []) ≡ all_end c flight = ap E (append-nil flight) in
    let five = all_end-append c answers (flight ++ []) ∙ ap (λ l. all_end c answers ++ l) last in
    let four = all_end-append c told (answers ++ (flight ++ [])) ∙ ap (λ l. all_end c told ++ l) five in
    let three = all_end-append c held (told ++ (answers ++ (flight ++ []))) ∙ ap (λ l. all_end c held ++ l) four in
    let two = all_end-append c low (held ++ (told ++ (answers ++ (flight ++ [])))) ∙ ap (λ l. all_end c low ++ l) three in
    let whole = all_end-append c high (low ++ (held ++ (told ++ (answers ++ (flight ++ []))))) ∙ ap (λ l. all_end c high ++ l) two in
    ap (λ l. ((((before ++ l) ++ all_end c held) ++ all_end c told) ++ all_end c answers) ++ all_end c flight) one
    ∙ (right before (all_end c high) (all_end c low) (all_end c held) (all_end c told) (all_end c answers) (all_end c flight) ∙ ap (λ l. before ++ l) (sym whole))
  where
    right : (b h l k t a f : List End) → ((((b ++ (h ++ l)) ++ k) ++ t) ++ a) ++ f ≡ b ++ (h ++ (l ++ (k ++ (t ++ (a ++ f)))))
    right [] [] l k t a f =
        append_assoc ((l ++ k) ++ t) a f ∙ (append_assoc (l ++ k) t (a ++ f) ∙ append_assoc l k (t ++ (a ++ f)))
    right [] (x ∷ h) l k t a f = ap (λ r. x ∷ r) (right [] h l k t a f)
    right (x ∷ b) h l k t a f = ap (λ r. x ∷ r) (right b h l k t a f)

-- ---- what was taken first

-- the row of an end that took these, whose copies were dropped for this cause
abbrev pub took_row : Ended → Cause → List Envelope → Row
took_row why c taken = record { reply = reply.Ended why; takes = map name_of taken; puts = []; ends = flat_map (copies_drop c) taken }

-- these are taken, one after another
pub all_dropped-row : (why : Ended) (c : Cause) (takes : List (ℕ × ℕ)) (ends : List End) (xs : List Envelope)
    → all_dropped c (map named xs) (record { reply = reply.Ended why; takes = takes; puts = []; ends = ends })
    ≡ record { reply = reply.Ended why; takes = takes ++ map name_of xs; puts = []; ends = ends ++ flat_map (copies_drop c) xs }
all_dropped-row why c takes ends [] =
    ap (λ t. record { reply = reply.Ended why; takes = t; puts = []; ends = ends }) (sym (append-nil takes))
    ∙ ap (λ l. record { reply = reply.Ended why; takes = takes ++ []; puts = []; ends = l }) (sym (append-nil ends))
all_dropped-row why c takes ends (x ∷ xs) =
    all_dropped-row why c (takes ++ name_of x ∷ []) (ends ++ copies_drop c x) xs
    ∙ (ap (λ t. record { reply = reply.Ended why; takes = t; puts = []; ends = (ends ++ copies_drop c x) ++ flat_map (copies_drop c) xs }) (append_assoc takes (name_of x ∷ []) (map name_of xs))
    ∙ ap (λ l. record { reply = reply.Ended why; takes = takes ++ (name_of x ∷ map name_of xs); puts = []; ends = l }) (append_assoc ends (copies_drop c x) (flat_map (copies_drop c) xs)))

-- and one of them
pub taken_dropped-row : (why : Ended) (c : Cause) (x : Envelope)
    → taken_dropped c (named x) (record { reply = reply.Ended why; takes = []; puts = []; ends = [] }) ≡ took_row why c (x ∷ [])
taken_dropped-row why c x =
    ap (λ l. record { reply = reply.Ended why; takes = name_of x ∷ []; puts = []; ends = l }) (sym (append-nil (copies_drop c x)))
