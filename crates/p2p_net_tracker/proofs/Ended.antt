-- Which connections of a node have ended, with one more entry.
use Rattle.std.proofs.Common.{◌≡◌, ℕ, Bool, true, false, cond, List, [], ◌∷◌, ◌++◌, Option, Some, None, refl, ap, sym, ◌∙◌}
use Rattle.std.specs.Prelude.{◌==◌, ◌&&◌, ◌||◌, is_some}
use Rattle.std.specs.BTreeMap.{insert_entry}
use Rattle.std.specs.Ordering.{nat_cmp}
use Rattle.p2p_log.specs.declared.entry.Entry.{Entry}
use Rattle.p2p_log.specs.declared.event.Act.{Act}
use Rattle.p2p_log.specs.declared.event.Act.TheVariants as act
use Rattle.p2p_log_rules.specs.Facts.{stops}
use Rattle.p2p_log_rules.specs.Connections.{is_end, ends_connection, is_ended}
pub use Rattle.p2p_log_rules.proofs.Connections.{is_ended-append, is_ended-kept, is_ended-none}
use Rattle.p2p_log_rules.proofs.Connections.{may_end, ends_none-act, ends_none-reply}
use Rattle.p2p_net_queues.specs.Tables.{at}
use Rattle.p2p_net_queues.proofs.Tables.{at-inserted}
use Rattle.p2p_net_tracker.specs.Heeding.{is_noted}

-- ---- entries that end none

-- whether the act is a step of a half of a connection of this node, or stops it
abbrev pub may_end_here : ℕ → Act → Bool
may_end_here n (act.SendStep conn m) = m == n
may_end_here n (act.RecvStep conn m) = m == n
may_end_here n (act.Stop by_start m) = m == n
may_end_here n _ = false

-- an act that is none ends no connection of the node
pub no_end-act : (n : ℕ) (log : List Entry) (e : Entry) → may_end_here n e.event.act ≡ false → (conn : ℕ) → ends_connection n conn log e ≡ false
no_end-act n log e none conn = ends_none-act log e n conn e.event.act refl (by e.event.act none)
  where
    by : (a : Act) → may_end_here n a ≡ false → may_end n conn a ≡ false
    by (act.SendStep k m) none = ap (λ b. ((b && (k == conn)) || false) || false) none
    by (act.RecvStep k m) none = ap (λ b. (b && (k == conn)) || false) none
    by (act.Stop by_start m) none = none
    by _ none = refl

-- nor does an entry whose reply tells of no end, where the node goes on
pub no_end-reply : (n : ℕ) (log : List Entry) (e : Entry) → stops n e.event.act ≡ false → is_end e.reply ≡ false → (conn : ℕ) → ends_connection n conn log e ≡ false
no_end-reply n log e goes_on none conn = ends_none-reply log e n conn goes_on none

-- what is kept of those that have ended stays
pub noted_stay : (log : List Entry) (e : Entry) (n : ℕ) (ended : List (ℕ × Unit {0})) → ((conn : ℕ) → is_noted ended conn ≡ is_ended log n conn) → ((conn : ℕ) → ends_connection n conn log e ≡ false)
    → (conn : ℕ) → is_noted ended conn ≡ is_ended (log ++ e ∷ []) n conn
noted_stay log e n ended stands none conn = stands conn ∙ sym (is_ended-kept log e n conn (none conn))

-- ---- entries that end one

-- the others are as they were
pub others_kept : (log : List Entry) (e : Entry) (n conn : ℕ) → ((c : ℕ) → ends_connection n c log e ≡ (c == conn)) → (c : ℕ) → (c == conn) ≡ false → is_ended (log ++ e ∷ []) n c ≡ is_ended log n c
others_kept log e n conn ends c apart = is_ended-kept log e n c (ends c ∙ apart)

-- with one more kept, that one and those before are
pub noted_one : (conn c : ℕ) (ended : List (ℕ × Unit {0})) → is_noted (insert_entry nat_cmp ended conn tt) c ≡ (is_noted ended c || (c == conn))
noted_one conn c ended = ap (λ (o : Option (Unit {0})). is_some o) (at-inserted conn c tt ended) ∙ either (c == conn) (at ended c)
  where
    either : (b : Bool) (o : Option (Unit {0})) → is_some (cond b (Some tt) o) ≡ (is_some o || b)
    either true None = refl
    either true (Some u) = refl
    either false None = refl
    either false (Some u) = refl

-- and one more is kept
pub noted_more : (log : List Entry) (e : Entry) (n conn : ℕ) (ended : List (ℕ × Unit {0})) → ((c : ℕ) → is_noted ended c ≡ is_ended log n c) → ((c : ℕ) → ends_connection n c log e ≡ (c == conn))
    → (c : ℕ) → is_noted (insert_entry nat_cmp ended conn tt) c ≡ is_ended (log ++ e ∷ []) n c
noted_more log e n conn ended stands ends c =
    noted_one conn c ended
    ∙ (ap (λ b. b || (c == conn)) (stands c)
    ∙ (ap (λ b. is_ended log n c || b) (sym (ends c)) ∙ sym (is_ended-append log e n c)))
