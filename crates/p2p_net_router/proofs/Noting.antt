-- The row of a step that took the oldest message, and the names after it.
use Rattle.std.proofs.Common.{◌≡◌, ℕ, List, [], ◌∷◌, ◌++◌, ◌+◌, cond, length, drop, refl, ap, sym, subst, ◌∙◌, append-nil, Option, Some, None}
use Rattle.std.specs.Prelude.{filter, flat_map, map, slice_get}
use Rattle.std.proofs.lemmas.Grind.{flat_map-append}
use Rattle.p2p_base.specs.declared.key.Key.{Key}
use Rattle.p2p_log.specs.declared.queue.Queue.{Queue}
use Rattle.p2p_log.specs.declared.queue.Queue.TheVariants as queue
use Rattle.p2p_log.specs.declared.item.Item.{Item}
use Rattle.p2p_log.specs.declared.item.Item.TheVariants as item
use Rattle.p2p_log.specs.declared.item.Envelope.{Envelope}
use Rattle.p2p_log.specs.declared.end.End.{End}
use Rattle.p2p_log.specs.declared.entry.Reply.TheVariants as reply
use Rattle.p2p_log_rules.specs.declared.row.Row.{Row}
use Rattle.p2p_log.specs.QueueCode.{same_queue}
use Rattle.p2p_log.specs.Lines.{name_of, ended_item, stays, placed}
use Rattle.p2p_log_rules.specs.Effect.{only, peers_put, peers_ends, Spread}
use Rattle.p2p_log.proofs.Lines.{filter_stays-append}
use Rattle.p2p_log.specs.Apart.{AreApart}
use Rattle.p2p_log.proofs.Names.{AreApart-filter}
use Rattle.p2p_net_queues.specs.declared.board.Board.{Board}
use Rattle.p2p_net_queues.specs.Board.{held}
use Rattle.p2p_router.specs.declared.stepped.Routed.{Routed}
use Rattle.p2p_router.specs.declared.stepped.Routed.TheVariants as routed
use Rattle.p2p_log_rules.specs.Rows.{taken_row}
use Rattle.p2p_net_router.specs.Relays.{spread_of, with_spread}
use Rattle.p2p_net_router.specs.Names.{Agrees, label, tag_of, takes_of}
use Rattle.p2p_net_router.specs.Building.{NamesBuild}
use Rattle.p2p_net_router.specs.Copies.{copy_spread, copies_spread}
use Rattle.p2p_net_router.specs.Holds.{after}
use Rattle.p2p_net_router.specs.Oldest.{IsOldest, without, send_of, send_named, told_row}
use Rattle.p2p_net_router.specs.Stepped.{answers_put, listless, with_lists}
use Rattle.p2p_net_router.specs.declared.name.Name.{Name}
use Rattle.p2p_net_router.proofs.Agreeing.{Agrees-pop, Agrees-other, answer_away, placed-last}
use Rattle.p2p_net_router.proofs.Building.{own_peers}

-- ---- the message that is taken

oldest_name : (n : ℕ) (names : Board Name) (items : List Envelope) (x : Envelope) (rest : List Envelope) → IsOldest n names items x rest → slice_get (held names (queue.Router n)) 0 ≡ Some (label x)
oldest_name n names items x rest h = ap (λ l. slice_get l 0) (h.agree (queue.Router n) (own_peers n) ∙ ap (map label) h.first)

pub took_row :
    (n : ℕ) (names : Board Name) (items : List Envelope) (x : Envelope) (rest : List Envelope) (o : Option Name) (r s : Row)
    → IsOldest n names items x rest → o ≡ slice_get (held names (queue.Router n)) 0 → s ≡ record r { takes = r.takes ++ takes_of o }
    → s ≡ record r { takes = r.takes ++ name_of x ∷ [] }
took_row n names items x rest o r s h at f = f ∙ ap (λ p. record r { takes = r.takes ++ takes_of p }) (at ∙ oldest_name n names items x rest h)

-- the row that has taken a message, and no more
pub row_taken : (x : Envelope) (r s : Row) → r ≡ only reply.Ok → s ≡ record r { takes = r.takes ++ name_of x ∷ [] } → s ≡ taken_row (name_of x)
row_taken x r s e f = f ∙ ap (λ (y : Row). record y { takes = y.takes ++ name_of x ∷ [] }) e

pub took_send :
    (n : ℕ) (names : Board Name) (items : List Envelope) (x : Envelope) (rest : List Envelope) (o : Option Name)
    → IsOldest n names items x rest → o ≡ slice_get (held names (queue.Router n)) 0 → send_named o ≡ send_of (tag_of x.item)
took_send n names items x rest o h at = ap send_named (at ∙ oldest_name n names items x rest h)

pub took_names :
    (n : ℕ) (old new : Board Name) (items : List Envelope) (x : Envelope) (rest : List Envelope)
    → IsOldest n old items x rest → ((q : Queue) → held new q ≡ cond (same_queue (queue.Router n) q) (drop 1 (held old q)) (held old q))
    → Agrees n label (held new) (without x items)
took_names n old new items x rest h step = Agrees-pop n label (held old) (held new) items (queue.Router n) x rest h.apart h.first h.agree (λ q own. step q)

pub apart_without : (x : Envelope) (items : List Envelope) → AreApart items → AreApart (without x items)
apart_without x items h = AreApart-filter (stays (name_of x ∷ [])) items h

-- ---- what stands after the row

pub after_row :
    (x : Envelope) (items : List Envelope) (entry : ℕ) (r : Row) (ends : List End) → r.takes ≡ name_of x ∷ [] → r.ends ≡ ends
    → after entry r items ≡ filter (stays (flat_map ended_item ends)) (without x items) ++ placed entry 0 r.puts
after_row x items entry r ends t e =
    ap (λ g. filter (stays g) items ++ placed entry 0 r.puts) (ap (λ l. l ++ flat_map ended_item r.ends) t ∙ ap (λ l. name_of x ∷ flat_map ended_item l) e)
    ∙ ap (λ l. l ++ placed entry 0 r.puts) (filter_stays-append (name_of x ∷ []) (flat_map ended_item ends) items)

pub NamesBuild-start : (n : ℕ) (names : Board Name) (items : List Envelope) (entry : ℕ) (r : Row) → r.puts ≡ [] → Agrees n label (held names) items → NamesBuild n names items entry r
NamesBuild-start n names items entry r e h =
    subst (Agrees n label (held names)) (sym (ap (λ l. items ++ placed entry 0 l) e ∙ append-nil items)) h

pub NamesBuild-answer :
    (n : ℕ) (names : Board Name) (items : List Envelope) (entry : ℕ) (r s : Row) (m conn : ℕ)
    → s.puts ≡ r.puts ++ (queue.RouterAnswer m conn, item.RouterAnswer) ∷ [] → NamesBuild n names items entry r → NamesBuild n names items entry s
NamesBuild-answer n names items entry r s m conn e h =
    let x : Envelope = record { entry = entry; place = length r.puts; queue = queue.RouterAnswer m conn; item = item.RouterAnswer } in
    subst (Agrees n label (held names)) (sym (ap (λ l. items ++ placed entry 0 l) e ∙ placed-last items entry r.puts (queue.RouterAnswer m conn, item.RouterAnswer)))
    (Agrees-other n label (held names) (items ++ placed entry 0 r.puts) x h (λ q own. answer_away n m conn q own))

-- ---- lists

pub NamesBuild-answered :
    (n : ℕ) (names : Board Name) (items : List Envelope) (entry : ℕ) (r s : Row) (m : ℕ) (o : Option ℕ)
    → s.puts ≡ r.puts ++ answers_put m o → NamesBuild n names items entry r → NamesBuild n names items entry s
NamesBuild-answered n names items entry r s m None e h = subst (λ l. Agrees n label (held names) (items ++ placed entry 0 l)) (sym (e ∙ append-nil r.puts)) h
NamesBuild-answered n names items entry r s m (Some conn) e h = NamesBuild-answer n names items entry r s m conn e h

pub row_listed :
    (n : ℕ) (items : List Envelope) (puts : List (Queue × Item)) (keys same : List Key) (cs es ds : List ℕ) (r s u t : Row)
    → s ≡ record r { ends = r.ends ++ peers_ends items n cs } → u ≡ record s { puts = s.puts ++ puts }
    → t ≡ record u { puts = u.puts ++ map (peers_put n keys) es } → keys ≡ same → cs ≡ ds → es ≡ ds
    → t ≡ with_lists r items n puts same ds
row_listed n items puts keys same cs es ds r s u t e a g k d i =
    g
    ∙ (ap (λ (y : Row). record y { puts = y.puts ++ map (peers_put n keys) es }) (a ∙ ap (λ (y : Row). record y { puts = y.puts ++ puts }) e)
    ∙ (ap (λ l. record (with_lists r items n puts keys l) { puts = (r.puts ++ puts) ++ map (peers_put n keys) es }) d
    ∙ (ap (λ l. record (with_lists r items n puts keys ds) { puts = (r.puts ++ puts) ++ map (peers_put n keys) l }) i ∙ ap (λ l. with_lists r items n puts l ds) k)))

pub row_told :
    (n : ℕ) (x : Envelope) (items : List Envelope) (puts : List (Queue × Item)) (keys : List Key) (cs : List ℕ) (r t : Row)
    → r ≡ taken_row (name_of x) → t ≡ with_lists r (without x items) n puts keys cs → t ≡ told_row n x items puts keys cs
row_told n x items puts keys cs r t e g = g ∙ ap (λ (y : Row). with_lists y (without x items) n puts keys cs) e

-- the names after lists were put, by the row as it is told
pub names_told :
    (n entry : ℕ) (x : Envelope) (items : List Envelope) (puts : List (Queue × Item)) (keys : List Key) (cs : List ℕ) (names : Board Name) (t : Row)
    → t ≡ told_row n x items puts keys cs → NamesBuild n names (listless n cs (without x items)) entry t
    → Agrees n label (held names) (after entry t items)
names_told n entry x items puts keys cs names t e h =
    subst (Agrees n label (held names))
    (sym (after_row x items entry t (peers_ends (without x items) n cs) (ap (λ (y : Row). y.takes) e) (ap (λ (y : Row). y.ends) e))) h

-- ---- copies

copy_ends : (n send p : ℕ) (frame : List ℕ) (r : Routed Key) (s : Spread) → flat_map ended_item (copy_spread n send p frame r s).ends ≡ flat_map ended_item s.ends
copy_ends n send p frame (routed.Put k c b) s = refl
copy_ends n send p frame (routed.NoConnection k) s = flat_map-append ended_item s.ends _ ∙ append-nil (flat_map ended_item s.ends)
copy_ends n send p frame (routed.RelayFull k c) s = flat_map-append ended_item s.ends _ ∙ append-nil (flat_map ended_item s.ends)
copy_ends n send p frame (routed.Closed k c) s = flat_map-append ended_item s.ends _ ∙ append-nil (flat_map ended_item s.ends)

-- copies end no item
pub copies_ends : (n send p : ℕ) (frame : List ℕ) (rs : List (Routed Key)) (s : Spread) → flat_map ended_item (copies_spread n send p frame rs s).ends ≡ flat_map ended_item s.ends
copies_ends n send p frame [] s = refl
copies_ends n send p frame (r ∷ rs) s = copies_ends n send (p + 1) frame rs (copy_spread n send p frame r s) ∙ copy_ends n send p frame r s

pub row_copied :
    (n : ℕ) (x : Envelope) (send same : ℕ) (frame : List ℕ) (rs : List (Routed Key)) (r s : Row)
    → r ≡ taken_row (name_of x) → send ≡ same → s ≡ with_spread r (copies_spread n send 0 frame rs (spread_of r))
    → s ≡ with_spread (taken_row (name_of x)) (copies_spread n same 0 frame rs (record { puts = []; ends = [] }))
row_copied n x send same frame rs r s e k f =
    f
    ∙ (ap (λ (y : Row). with_spread y (copies_spread n send 0 frame rs (spread_of y))) e
    ∙ ap (λ m. with_spread (taken_row (name_of x)) (copies_spread n m 0 frame rs (record { puts = []; ends = [] }))) k)

pub names_copied :
    (n entry send : ℕ) (frame : List ℕ) (rs : List (Routed Key)) (x : Envelope) (items : List Envelope) (names : Board Name) (s : Row)
    → s ≡ with_spread (taken_row (name_of x)) (copies_spread n send 0 frame rs (record { puts = []; ends = [] }))
    → NamesBuild n names (without x items) entry s → Agrees n label (held names) (after entry s items)
names_copied n entry send frame rs x items names s e h =
    let none : flat_map ended_item s.ends ≡ [] = ap (λ (y : Row). flat_map ended_item y.ends) e ∙ copies_ends n send 0 frame rs (record { puts = []; ends = [] }) in
    let goes : s.takes ++ flat_map ended_item s.ends ≡ name_of x ∷ [] = ap (λ l. s.takes ++ l) none ∙ (append-nil s.takes ∙ ap (λ (y : Row). y.takes) e) in
    subst (Agrees n label (held names)) (ap (λ g. filter (stays g) items ++ placed entry 0 s.puts) (sym goes)) h
