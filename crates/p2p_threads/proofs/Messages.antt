-- What the senders leave in the mailbox, from the history and from what was made.
use Rattle.std.proofs.Common.{◌≡◌, ◌≢◌, ℕ, zero, suc, ◌+◌, ◌-◌, ◌*◌, ◌<◌, ◌≤◌, ◌==◌, nat_lt, Bool, true, false, cond, List, [], ◌∷◌, ◌++◌, length, filter, map, replicate, slice_get, Option, Some, None, refl, sym, ap, ◌∙◌, subst, arith, append_assoc, length-append}
use Rattle.std.proofs.lemmas.List.{append-nil}
use Rattle.std.proofs.lemmas.Bool.Decides.{nat_tests}
use mathlib.Core.Logic.{dite}
use native.Mathlib.Decide.{ℕ_discrete}
use Rattle.p2p_base.specs.Queue.{Queue, empty_queue}
use Rattle.p2p_base.specs.declared.policy.Keep.{Keep}
use Rattle.p2p_base.specs.declared.policy.Keep.TheVariants as how
use native.Mathlib.Nat.{suc-mul}
use Rattle.p2p_threads.specs.History.{after, times, IsEachOnce, entry_at, weight}
use Rattle.p2p_threads.specs.Mailbox.{mailbox_reply, mailbox_next}
use Rattle.p2p_threads.specs.Sending.{Made, numbers_of, RisesWithin, AreCallsOf, AreParts, joined}
use Rattle.p2p_threads.specs.declared.mailbox.MailboxCall.{MailboxCall}
use Rattle.p2p_threads.specs.declared.mailbox.MailboxCall.TheVariants.{Enqueue, Take}
use Rattle.p2p_threads.specs.declared.mailbox.MailboxReply.{MailboxReply}
use Rattle.p2p_threads.specs.declared.numbered.Numbered.{Numbered}
use Rattle.p2p_threads.proofs.Parts.{within-wider}
use Rattle.p2p_threads.proofs.Places.{times-append}
use Rattle.p2p_threads.specs.ThreadText.{below}
use Rattle.p2p_threads.specs.TakenOf.{taken_of, HaveAll}

abbrev pub Call : Type 0
Call = MailboxCall Numbered × MailboxReply Numbered

abbrev Entry : Type 0
Entry = ℕ × Call

-- the entry, where it passes the test
abbrev passed : {E : Type 0} → (E → Bool) → Option E → Option E
passed t None = None
passed t (Some e) = cond (t e) (Some e) None

module _ {E : Type 0} where
  some_same : (x y : E) → Some x ≡ Some y → x ≡ y
  some_same x y e = cc (e)

  some_none : (x : E) → Some x ≡ None → ⊥
  some_none x e = absurd (cc (e))

-- no place before the first is there
entry-before : (low high p : ℕ) (es : Made) → RisesWithin low es high → p < low → entry_at es p ≡ None
entry-before low high p [] w lt = refl
entry-before low high p (e ∷ es) w lt =
    let other : (e.0 == p) ≡ false = grind (arith, nat_tests) in
    ap (λ b. cond b (Some e.1) (entry_at es p)) other ∙ entry-before (e.0 + 1) high p es w.1 (omega arith)

entry-first : (e : Entry) (es : Made) → entry_at (e ∷ es) e.0 ≡ Some e.1
entry-first e es =
    let same : (e.0 == e.0) ≡ true = grind (arith, nat_tests) in ap (λ b. cond b (Some e.1) (entry_at es e.0)) same

entry-after : (e : Entry) (es : Made) (p : ℕ) → e.0 < p → entry_at (e ∷ es) p ≡ entry_at es p
entry-after e es p lt =
    let other : (e.0 == p) ≡ false = grind (arith, nat_tests) in ap (λ b. cond b (Some e.1) (entry_at es p)) other

-- entries at rising places, which are those of a list that pass a test, are what the list gives of them
filter-rising : (t : Call → Bool) (h : List Call) (k high : ℕ) (es : Made) → RisesWithin k es high → ((j : ℕ) → entry_at es (k + j) ≡ passed t (slice_get h j)) → filter t h ≡ map (λ e. e.1) es
filter-rising t [] k high [] w at = refl
filter-rising t [] k high (e ∷ es) w at =
    let here : k + (e.0 - k) ≡ e.0 = omega (arith, w.0) in
    absurd (some_none e.1 (sym (entry-first e es) ∙ (ap (λ (p : ℕ). entry_at (e ∷ es) p) (sym here) ∙ at (e.0 - k))))
filter-rising t (x ∷ h) k high es w at = step (filter-rising t h) (t x) refl es w at
  where
    shifted : (fs : Made) → ((j : ℕ) → entry_at fs (k + suc j) ≡ passed t (slice_get h j)) → (j : ℕ) → entry_at fs ((k + 1) + j) ≡ passed t (slice_get h j)
    shifted fs all j = let e : (k + 1) + j ≡ k + suc j = omega arith in ap (λ (p : ℕ). entry_at fs p) e ∙ all j

    first : (fs : Made) → ((j : ℕ) → entry_at fs (k + j) ≡ passed t (slice_get (x ∷ h) j)) → entry_at fs k ≡ cond (t x) (Some x) None
    first fs all = let e : k ≡ k + 0 = omega arith in ap (λ (p : ℕ). entry_at fs p) e ∙ all 0

    later : (gs : Made) → RisesWithin k gs high → entry_at gs k ≡ None → RisesWithin (k + 1) gs (high + 1)
    later [] r none = omega (arith, r)
    later (g ∷ gs) r none = dite (ℕ_discrete g.0 k)
        (λ same. absurd (some_none g.1 (sym (entry-first g gs) ∙ (ap (λ (p : ℕ). entry_at (g ∷ gs) p) same ∙ none))))
        (λ ne. (omega (arith, r.0, ne), within-wider (g.0 + 1) high (high + 1) gs r.1 (omega arith)))

    step : ((l top : ℕ) (fs : Made) → RisesWithin l fs top → ((j : ℕ) → entry_at fs (l + j) ≡ passed t (slice_get h j)) → filter t h ≡ map (λ e. e.1) fs) → (b : Bool) → t x ≡ b → (fs : Made) → RisesWithin k fs high → ((j : ℕ) → entry_at fs (k + j) ≡ passed t (slice_get (x ∷ h) j)) → cond (t x) (x ∷ filter t h) (filter t h) ≡ map (λ e. e.1) fs
    step on true is [] rises all = absurd (some_none x (sym (first [] all ∙ ap (λ b. cond b (Some x) None) is)))
    step on true is (e ∷ fs) rises all = dite (ℕ_discrete e.0 k)
        (λ same.
        let found : Some e.1 ≡ Some x = sym (entry-first e fs) ∙ (ap (λ (p : ℕ). entry_at (e ∷ fs) p) same ∙ (first (e ∷ fs) all ∙ ap (λ b. cond b (Some x) None) is)) in
        let one : e.1 ≡ x = some_same e.1 x found in
        let more : RisesWithin (k + 1) fs high = subst (λ (p : ℕ). RisesWithin (p + 1) fs high) same rises.1 in
        let next = on (k + 1) high fs more (shifted fs (λ j. sym (entry-after e fs (k + suc j) (omega (arith, same))) ∙ all (suc j))) in
        ap (λ b. cond b (x ∷ filter t h) (filter t h)) is ∙ (ap (λ w. x ∷ w) next ∙ ap (λ w. w ∷ map (λ (d : Entry). d.1) fs) (sym one)))
        (λ ne.
        let none : entry_at (e ∷ fs) k ≡ None = entry-before (e.0) high k (e ∷ fs) (omega arith, rises.1) (omega (arith, rises.0, ne)) in
        absurd (some_none x (sym (sym none ∙ (first (e ∷ fs) all ∙ ap (λ b. cond b (Some x) None) is)))))
    step on false is fs rises all =
        let none : entry_at fs k ≡ None = first fs all ∙ ap (λ b. cond b (Some x) None) is in
        ap (λ b. cond b (x ∷ filter t h) (filter t h)) is ∙ on (k + 1) (high + 1) fs (later fs rises none) (shifted fs (λ j. all (suc j)))

-- the call is an enqueue of this sender
abbrev IsCallOf : ℕ → MailboxCall Numbered → Type 0
IsCallOf sender c = (x : Numbered) × (c ≡ Enqueue x) × (x.sender ≡ sender)

abbrev EachCallOf : ℕ → List (MailboxCall Numbered) → Type 0
EachCallOf sender [] = Unit {0}
EachCallOf sender (c ∷ cs) = IsCallOf sender c × EachCallOf sender cs

abbrev is_call_of : ℕ → MailboxCall Numbered → Bool
is_call_of sender (Enqueue x) = x.sender == sender
is_call_of sender Take = false

abbrev is_of : ℕ → Call → Bool
is_of sender e = is_call_of sender e.0

own_call : (sender : ℕ) (c : MailboxCall Numbered) → IsCallOf sender c → is_call_of sender c ≡ true
own_call sender c is =
    let same : (is.0.sender == sender) ≡ true = let e = is.2 in grind (arith, nat_tests) in ap (is_call_of sender) is.1 ∙ same

other_call : (sender other : ℕ) (c : MailboxCall Numbered) → IsCallOf other c → other ≢ sender → is_call_of sender c ≡ false
other_call sender other c is ne =
    let differ : (is.0.sender == sender) ≡ false = let e = is.2 in grind (arith, nat_tests) in ap (is_call_of sender) is.1 ∙ differ

each-more : (sender : ℕ) (cs : List (MailboxCall Numbered)) (c : MailboxCall Numbered) → EachCallOf sender cs → IsCallOf sender c → EachCallOf sender (cs ++ c ∷ [])
each-more sender [] c each one = (one, tt)
each-more sender (d ∷ cs) c each one = (each.0, each-more sender cs c each.1 one)

numbers-each : (sender n : ℕ) → EachCallOf sender (numbers_of sender n)
numbers-each sender zero = tt
numbers-each sender (suc n) = each-more sender (numbers_of sender n) (Enqueue (record { sender = sender; number = n })) (numbers-each sender n) (record { sender = sender; number = n }, refl, refl)

numbers-length : (sender n : ℕ) → length (numbers_of sender n) ≡ n
numbers-length sender zero = refl
numbers-length sender (suc n) = let r = numbers-length sender n in omega (arith, length-append (numbers_of sender n) (Enqueue (record { sender = sender; number = n }) ∷ []))

map-length : {X Y : Type 0} (f : X → Y) (xs : List X) → length (map f xs) ≡ length xs
map-length f [] = refl
map-length f (x ∷ xs) = ap suc (map-length f xs)

part-each : (sender n low high : ℕ) (part : Made) → AreCallsOf sender n low high part → EachCallOf sender (map (λ e. e.1.0) part)
part-each sender n low high part of = subst (EachCallOf sender) (sym of.calls) (numbers-each sender n)

part-length : (sender n low high : ℕ) (part : Made) → AreCallsOf sender n low high part → length part ≡ n
part-length sender n low high part of = sym (map-length (λ (e : Entry). e.1.0) part) ∙ (ap (λ (cs : List (MailboxCall Numbered)). length cs) of.calls ∙ numbers-length sender n)

-- what stands in a part is its sender's
entry-of : (sender : ℕ) (part : Made) (p : ℕ) (e : Call) → EachCallOf sender (map (λ d. d.1.0) part) → entry_at part p ≡ Some e → IsCallOf sender e.0
entry-of sender [] p e each at = absurd (some_none e (sym at))
entry-of sender (d ∷ part) p e each at = by (entry-of sender part p e each.1) (d.0 == p) at
  where
    by : (entry_at part p ≡ Some e → IsCallOf sender e.0) → (b : Bool) → cond b (Some d.1) (entry_at part p) ≡ Some e → IsCallOf sender e.0
    by on true is = subst (λ (c : Call). IsCallOf sender c.0) (some_same d.1 e is) each.0
    by on false is = on is

entry-times : (es : Made) (p : ℕ) (e : Call) → entry_at es p ≡ Some e → 1 ≤ times p es
entry-times [] p e at = absurd (some_none e (sym at))
entry-times (d ∷ es) p e at = by (entry-times es p e) (d.0 == p) refl at
  where
    by : (entry_at es p ≡ Some e → 1 ≤ times p es) → (b : Bool) → (d.0 == p) ≡ b → cond b (Some d.1) (entry_at es p) ≡ Some e → 1 ≤ weight (d.0 == p) + times p es
    by on true is at' = let w : weight (d.0 == p) ≡ 1 = ap weight is in omega arith
    by on false is at' = let r = on at' in omega arith

abbrev or_else : Option Call → Option Call → Option Call
or_else None b = b
or_else (Some e) b = Some e

entry-both : (es fs : Made) (p : ℕ) → entry_at (es ++ fs) p ≡ or_else (entry_at es p) (entry_at fs p)
entry-both [] fs p = refl
entry-both (e ∷ es) fs p = by (entry-both es fs p) (e.0 == p)
  where
    by : (entry_at (es ++ fs) p ≡ or_else (entry_at es p) (entry_at fs p)) → (b : Bool) → cond b (Some e.1) (entry_at (es ++ fs) p) ≡ or_else (cond b (Some e.1) (entry_at es p)) (entry_at fs p)
    by on true = refl
    by on false = on

-- what stands in the parts of other senders does not pass
others-pass : (i low high sender p : ℕ) (ns : List ℕ) (parts : List Made) → AreParts low high sender ns parts → i < sender → passed (is_of i) (entry_at (joined parts) p) ≡ None
others-pass i low high sender p [] [] each lt = refl
others-pass i low high sender p [] (q ∷ qs) each lt = absurd each
others-pass i low high sender p (n ∷ ns) [] each lt = absurd each
others-pass i low high sender p (n ∷ ns) (q ∷ qs) each lt = ap (passed (is_of i)) (entry-both q (joined qs) p) ∙ by (others-pass i low high (sender + 1) p ns qs each.1 (omega arith)) (entry_at q p) refl
  where
    by : (passed (is_of i) (entry_at (joined qs) p) ≡ None) → (o : Option Call) → entry_at q p ≡ o → passed (is_of i) (or_else o (entry_at (joined qs) p)) ≡ None
    by on None is = on
    by on (Some e) is = ap (λ b. cond b (Some e) None) (other_call i sender e.0 (entry-of sender q p e (part-each sender n low high q each.0) is) (λ same. omega (arith, same, lt)))

-- the part of a sender has what the whole has of it
find_part : (low high m i sender count : ℕ) (parts : List Made) → AreParts low high sender (replicate count m) parts → sender ≤ i → i < sender + count → ((p : ℕ) → times p (joined parts) ≤ 1)
    → (part : Made) × AreCallsOf i m low high part × ((p : ℕ) → entry_at part p ≡ passed (is_of i) (entry_at (joined parts) p))
find_part low high m i sender zero parts each le lt once = absurd (omega arith)
find_part low high m i sender (suc count) [] each le lt once = absurd each
find_part low high m i sender (suc count) (q ∷ qs) each le lt once = dite (ℕ_discrete sender i)
    (λ same. (q, subst (λ (k : ℕ). AreCallsOf k m low high q) same each.0, λ p. sym (ap (passed (is_of i)) (entry-both q (joined qs) p) ∙ own same p (entry_at q p) refl)))
    (λ ne.
    let r = find_part low high m i (sender + 1) count qs each.1 (omega (arith, le, ne)) (omega (arith, lt)) (λ p. let t = times-append p q (joined qs) in let o = once p in omega arith) in
    (r.0, r.1, λ p. sym (ap (passed (is_of i)) (entry-both q (joined qs) p) ∙ more ne r.0 r.2 p (entry_at q p) refl)))
  where
    own : sender ≡ i → (p : ℕ) (o : Option Call) → entry_at q p ≡ o → passed (is_of i) (or_else o (entry_at (joined qs) p)) ≡ entry_at q p
    own same p None is = others-pass i low high (sender + 1) p (replicate count m) qs each.1 (omega (arith, same)) ∙ sym is
    own same p (Some e) is = ap (λ b. cond b (Some e) None) (own_call i e.0 (subst (λ (k : ℕ). IsCallOf k e.0) same (entry-of sender q p e (part-each sender m low high q each.0) is))) ∙ sym is

    more : sender ≢ i → (part : Made) → ((p : ℕ) → entry_at part p ≡ passed (is_of i) (entry_at (joined qs) p)) → (p : ℕ) (o : Option Call) → entry_at q p ≡ o → passed (is_of i) (or_else o (entry_at (joined qs) p)) ≡ entry_at part p
    more ne part at p None is = sym (at p)
    more ne part at p (Some e) is =
        let off : is_call_of i e.0 ≡ false = other_call i sender e.0 (entry-of sender q p e (part-each sender m low high q each.0) is) ne in
        let none : passed (is_of i) (entry_at (joined qs) p) ≡ None = alone e is (entry_at (joined qs) p) refl in
        ap (λ b. cond b (Some e) None) off ∙ sym (at p ∙ none)
      where
        alone : (e : Call) → entry_at q p ≡ Some e → (o : Option Call) → entry_at (joined qs) p ≡ o → passed (is_of i) o ≡ None
        alone e is None here = refl
        alone e is (Some f) here =
            let a = entry-times q p e is in let b = entry-times (joined qs) p f here in let t = times-append p q (joined qs) in let o = once p in absurd (omega arith)

-- the messages of the enqueues
abbrev sent_of : List (MailboxCall Numbered) → List Numbered
sent_of [] = []
sent_of (Enqueue x ∷ cs) = x ∷ sent_of cs
sent_of (Take ∷ cs) = sent_of cs

abbrev calls_of : List Call → List (MailboxCall Numbered)
calls_of h = map (λ e. e.0) h

-- the messages of a sender are those of its calls
sent-filter : (i : ℕ) (h : List Call) → filter (λ x. x.sender == i) (sent_of (calls_of h)) ≡ sent_of (calls_of (filter (is_of i) h))
sent-filter i [] = refl
sent-filter i ((Enqueue x, r) ∷ h) = by (sent-filter i h) (x.sender == i)
  where
    by : (filter (λ y. y.sender == i) (sent_of (calls_of h)) ≡ sent_of (calls_of (filter (is_of i) h))) → (b : Bool)
        → cond b (x ∷ filter (λ y. y.sender == i) (sent_of (calls_of h))) (filter (λ y. y.sender == i) (sent_of (calls_of h))) ≡ sent_of (calls_of (cond b ((Enqueue x, r) ∷ filter (is_of i) h) (filter (is_of i) h)))
    by on true = ap (λ w. x ∷ w) on
    by on false = on
sent-filter i ((Take, r) ∷ h) = sent-filter i h

calls-map : (es : Made) → calls_of (map (λ e. e.1) es) ≡ map (λ e. e.1.0) es
calls-map [] = refl
calls-map (e ∷ es) = ap (λ w. e.1.0 ∷ w) (calls-map es)

sent-more : (cs : List (MailboxCall Numbered)) (x : Numbered) → map (λ y. y.number) (sent_of (cs ++ Enqueue x ∷ [])) ≡ map (λ y. y.number) (sent_of cs) ++ x.number ∷ []
sent-more [] x = refl
sent-more (Enqueue y ∷ cs) x = ap (λ w. y.number ∷ w) (sent-more cs x)
sent-more (Take ∷ cs) x = sent-more cs x

sent-numbers : (sender m : ℕ) → map (λ y. y.number) (sent_of (numbers_of sender m)) ≡ below m
sent-numbers sender zero = refl
sent-numbers sender (suc m) = sent-more (numbers_of sender m) (record { sender = sender; number = m }) ∙ ap (λ w. w ++ m ∷ []) (sent-numbers sender m)

parts-length : (low high m sender count : ℕ) (parts : List Made) → AreParts low high sender (replicate count m) parts → length (joined parts) ≡ count * m
parts-length low high m sender zero [] each = omega arith
parts-length low high m sender zero (q ∷ qs) each = absurd each
parts-length low high m sender (suc count) [] each = absurd each
parts-length low high m sender (suc count) (q ∷ qs) each =
    let one = part-length sender m low high q each.0 in
    let more = parts-length low high m (sender + 1) count qs each.1 in
    length-append q (joined qs) ∙ (ap (λ (k : ℕ). k + length (joined qs)) one ∙ (ap (λ (k : ℕ). m + k) more ∙ suc-times count m))
  where
    suc-times : (a b : ℕ) → b + a * b ≡ suc a * b
    suc-times a b = omega (arith, suc-mul a b)

-- each call that was made is an enqueue
made-enqueue : (low high sender p : ℕ) (ns : List ℕ) (parts : List Made) (e : Call) → AreParts low high sender ns parts → entry_at (joined parts) p ≡ Some e → (x : Numbered) × (e.0 ≡ Enqueue x)
made-enqueue low high sender p [] [] e each at = absurd (some_none e (sym at))
made-enqueue low high sender p [] (q ∷ qs) e each at = absurd each
made-enqueue low high sender p (n ∷ ns) [] e each at = absurd each
made-enqueue low high sender p (n ∷ ns) (q ∷ qs) e each at = by (made-enqueue low high (sender + 1) p ns qs e each.1) (entry_at q p) refl (sym (entry-both q (joined qs) p) ∙ at)
  where
    by : (entry_at (joined qs) p ≡ Some e → (x : Numbered) × (e.0 ≡ Enqueue x)) → (o : Option Call) → entry_at q p ≡ o → or_else o (entry_at (joined qs) p) ≡ Some e → (x : Numbered) × (e.0 ≡ Enqueue x)
    by on None is at' = on at'
    by on (Some f) is at' = let of = entry-of sender q p e (part-each sender n low high q each.0) (is ∙ at') in (of.0, of.1)

abbrev pub refuses : Numbered → Keep
refuses x = how.Refuse

abbrev pub left : Queue Numbered → List Call → Queue Numbered
left q h = after (mailbox_reply refuses) (mailbox_next refuses) q h

abbrev open_queue : List Numbered → ℕ → Queue Numbered
open_queue items capacity = record { items = items; capacity = capacity; closed = false }

-- enqueues that all have room leave their messages
left-items : (h : List Call) (items : List Numbered) (capacity : ℕ) → length items + length h ≤ capacity → ((p : ℕ) (e : Call) → slice_get h p ≡ Some e → (x : Numbered) × (e.0 ≡ Enqueue x)) → (left (open_queue items capacity) h).items ≡ items ++ sent_of (calls_of h)
left-items [] items capacity room all = sym (append-nil items)
left-items ((Enqueue x, r) ∷ h) items capacity room all =
    let free : nat_lt (length items) capacity ≡ true = grind (arith, nat_tests) in
    let next : mailbox_next refuses (open_queue items capacity) (Enqueue x) ≡ open_queue (items ++ x ∷ []) capacity = ap (λ b. open_queue (cond b (items ++ x ∷ []) items) capacity) free in
    ap (λ q. (left q h).items) next ∙ (left-items h (items ++ x ∷ []) capacity (omega (arith, room, length-append items (x ∷ []))) (λ p e at. all (suc p) e at) ∙ append_assoc items (x ∷ []) (sent_of (calls_of h)))
left-items ((Take, r) ∷ h) items capacity room all = let none = all 0 (Take, r) refl in absurd (cc (none.1))

-- what n senders of m messages each leave in a mailbox with room for all
pub all_sent : (low high n m : ℕ) (h : List Call) (made : Made) (parts : List Made) → low ≡ 0 → AreParts low high 0 (replicate n m) parts → made ≡ joined parts → IsEachOnce made
    → ((p : ℕ) → entry_at made p ≡ slice_get h p) → length h ≤ length made → HaveAll n m (left (empty_queue (n * m)) h).items
all_sent low high n m h made parts none each is once at few i lt =
    let whole : (p : ℕ) → entry_at (joined parts) p ≡ slice_get h p = λ p. ap (λ es. entry_at es p) (sym is) ∙ at p in
    let part = find_part low high m i 0 n parts each (omega arith) (omega (arith, lt)) (λ p. subst (λ es. times p es ≤ 1) is (once p)) in
    let rises : RisesWithin 0 part.0 high = subst (λ (k : ℕ). RisesWithin k part.0 high) none part.1.rises in
    let found : filter (is_of i) h ≡ map (λ (e : Entry). e.1) part.0 = filter-rising (is_of i) h 0 high part.0 rises (λ j. part.2 (0 + j) ∙ ap (passed (is_of i)) (whole (0 + j) ∙ ap (λ (p : ℕ). slice_get h p) (zero-plus j))) in
    let room : length h ≤ n * m = omega (arith, few, ap (λ (es : Made). length es) is, parts-length low high m 0 n parts each) in
    let all : (left (empty_queue (n * m)) h).items ≡ sent_of (calls_of h) = left-items h [] (n * m) (omega (arith, room)) (λ p e here. made-enqueue low high 0 p (replicate n m) parts e each (whole p ∙ here)) in
    ap (taken_of i) all ∙ (ap (map (λ (x : Numbered). x.number)) (sent-filter i h ∙ ap sent_of (ap calls_of found ∙ (calls-map part.0 ∙ part.1.calls))) ∙ sent-numbers i m)
  where
    zero-plus : (j : ℕ) → 0 + j ≡ j
    zero-plus j = omega arith
