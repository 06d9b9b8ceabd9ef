-- What senders have made, call by call and joined.
use Rattle.std.proofs.Common.{◌≡◌, ℕ, zero, suc, ◌+◌, ◌-◌, ◌≤◌, List, [], ◌∷◌, ◌++◌, length, replicate, map, Ok, Err, Result, OnOk, refl, sym, ap, ◌∙◌, subst, arith, append_assoc}
use Rattle.std.specs.Result.{result_and}
use Rattle.std.proofs.lemmas.List.{append-nil}
use lib.ListN.{replicate-append-replicate, length-replicate, length-append}
use mathlib.Core.List.{IsPrefix}
use Rattle.p2p_threads.specs.Sending.{Made, Knows, numbers_of, RisesWithin, AreCallsOf, AreParts, joined, HaveSent, AreUpTo, HaveBegun}
use Rattle.p2p_threads.specs.declared.mailbox.MailboxCall.{MailboxCall}
use Rattle.p2p_threads.specs.declared.mailbox.MailboxCall.TheVariants.{Enqueue}
use Rattle.p2p_threads.specs.declared.mailbox.MailboxReply.{MailboxReply}
use Rattle.p2p_threads.specs.declared.numbered.Numbered.{Numbered}

abbrev Entry : Type 0
Entry = ℕ × (MailboxCall Numbered × MailboxReply Numbered)

pub within-wider : (low high top : ℕ) (es : Made) → RisesWithin low es high → high ≤ top → RisesWithin low es top
within-wider low high top [] w le = omega arith
within-wider low high top (e ∷ es) w le = (w.0, within-wider (e.0 + 1) high top es w.1 le)

pub within-more : (low high top : ℕ) (es : Made) (e : Entry) → RisesWithin low es high → high ≤ e.0 → e.0 + 1 ≤ top → RisesWithin low (es ++ e ∷ []) top
within-more low high top [] e w le room = (omega arith, room)
within-more low high top (d ∷ es) e w le room = (w.0, within-more (d.0 + 1) high top es e w.1 le room)

map-more : {X Y : Type 0} (f : X → Y) (xs : List X) (x : X) → map f (xs ++ x ∷ []) ≡ map f xs ++ f x ∷ []
map-more f [] x = refl
map-more f (y ∷ xs) x = ap (λ w. f y ∷ w) (map-more f xs x)

pub parts-wider : (low high top sender : ℕ) (ns : List ℕ) (ps : List Made) → AreParts low high sender ns ps → high ≤ top → AreParts low top sender ns ps
parts-wider low high top sender [] [] each le = tt
parts-wider low high top sender [] (p ∷ ps) each le = each
parts-wider low high top sender (n ∷ ns) [] each le = each
parts-wider low high top sender (n ∷ ns) (p ∷ ps) each le = (record { calls = each.0.calls; rises = within-wider low high top p each.0.rises le }, parts-wider low high top (sender + 1) ns ps each.1 le)

pub parts-both : (low high sender next : ℕ) (ns ms : List ℕ) (ps qs : List Made) → next ≡ sender + length ns → AreParts low high sender ns ps → AreParts low high next ms qs → AreParts low high sender (ns ++ ms) (ps ++ qs)
parts-both low high sender next [] ms [] qs is each more = subst (λ (k : ℕ). AreParts low high k ms qs) (is ∙ omega arith) more
parts-both low high sender next [] ms (p ∷ ps) qs is each more = absurd each
parts-both low high sender next (n ∷ ns) ms [] qs is each more = absurd each
parts-both low high sender next (n ∷ ns) ms (p ∷ ps) qs is each more = (each.0, parts-both low high (sender + 1) next ns ms ps qs (omega (arith, is)) each.1 more)

pub joined-both : (ps qs : List Made) → joined (ps ++ qs) ≡ joined ps ++ joined qs
joined-both [] qs = refl
joined-both (p ∷ ps) qs = ap (λ w. p ++ w) (joined-both ps qs) ∙ sym (append_assoc p (joined ps) (joined qs))

-- no call was made yet
pub none_sent : (sender : ℕ) (old : Knows) → HaveSent sender (0 ∷ []) old old
none_sent sender old = record { parts = [] ∷ []; made = sym (append-nil old.made); each = (record { calls = refl; rises = omega arith }, tt) }

one_after : (n : ℕ) → suc n ≡ n + 1
one_after n = omega arith

-- the last call of one sender
abbrev ended_with : List Made → Entry → List Made
ended_with [] e = []
ended_with (p ∷ ps) e = (p ++ e ∷ []) ∷ ps

ended-joined : (low high sender n : ℕ) (ps : List Made) (e : Entry) → AreParts low high sender (n ∷ []) ps → joined (ended_with ps e) ≡ joined ps ++ e ∷ []
ended-joined low high sender n [] e each = absurd each
ended-joined low high sender n (p ∷ []) e each = append-nil (p ++ e ∷ []) ∙ ap (λ w. w ++ e ∷ []) (sym (append-nil p))
ended-joined low high sender n (p ∷ q ∷ ps) e each = absurd each.1

ended-each : (low high top sender n : ℕ) (ps : List Made) (e : Entry) → AreParts low high sender (n ∷ []) ps → high ≤ e.0 → e.0 + 1 ≤ top → e.1.0 ≡ Enqueue (record { sender = sender; number = n }) → AreParts low top sender ((n + 1) ∷ []) (ended_with ps e)
ended-each low high top sender n [] e each le room is = absurd each
ended-each low high top sender n (p ∷ []) e each le room is = (
  record {
    calls = map-more (λ (d : Entry). d.1.0) p e ∙ (ap (λ w. w ++ e.1.0 ∷ []) each.0.calls ∙ (ap (λ c. numbers_of sender n ++ c ∷ []) is ∙ ap (λ (k : ℕ). numbers_of sender k) (one_after n)));
    rises = within-more low high top p e each.0.rises le room;
  },
  tt,
)
ended-each low high top sender n (p ∷ q ∷ ps) e each le room is = absurd each.1

-- one call more
pub one_more : (sender n : ℕ) (old mid new : Knows) (place : ℕ) (r : MailboxReply Numbered) → HaveSent sender (n ∷ []) old mid → length mid.seen ≤ place → length new.seen ≡ place + 1
    → new.made ≡ mid.made ++ (place, (Enqueue (record { sender = sender; number = n }), r)) ∷ [] → HaveSent sender ((n + 1) ∷ []) old new
one_more sender n old mid new place r sent le is made =
    let e : Entry = (place, (Enqueue (record { sender = sender; number = n }), r)) in
    record {
      parts = ended_with sent.parts e;
      made = made ∙ (ap (λ w. w ++ e ∷ []) sent.made ∙ (append_assoc old.made (joined sent.parts) (e ∷ []) ∙ ap (λ w. old.made ++ w) (sym (ended-joined (length old.seen) (length mid.seen) sender n sent.parts e sent.each))));
      each = ended-each (length old.seen) (length mid.seen) (length new.seen) sender n sent.parts e sent.each le (omega (arith, is)) refl;
    }

-- nothing more was made
pub same_sent : (sender : ℕ) (ns : List ℕ) (old mid new : Knows) → HaveSent sender ns old mid → new.made ≡ mid.made → length mid.seen ≤ length new.seen → HaveSent sender ns old new
same_sent sender ns old mid new sent made le = record {
  parts = sent.parts;
  made = made ∙ sent.made;
  each = parts-wider (length old.seen) (length mid.seen) (length new.seen) sender ns sent.parts sent.each le;
}

-- what a pass made that was split off and joined again
pub lent_sent : (sender : ℕ) (ns : List ℕ) (old lent back new : Knows) → HaveSent sender ns lent back → lent.seen ≡ old.seen → lent.made ≡ []
    → new.made ≡ old.made ++ back.made → length back.seen ≤ length new.seen → HaveSent sender ns old new
lent_sent sender ns old lent back new sent seen blank made le = record {
  parts = sent.parts;
  made = made ∙ ap (λ w. old.made ++ w) (sent.made ∙ ap (λ w. w ++ joined sent.parts) blank);
  each = subst (λ s. AreParts (length s) (length new.seen) sender ns sent.parts) seen (parts-wider (length lent.seen) (length back.seen) (length new.seen) sender ns sent.parts sent.each le);
}

-- what two passes made, of which one was split off the other
pub both_sent : (sender next : ℕ) (ns ms : List ℕ) (old one lent back new : Knows) → next ≡ sender + length ns → HaveSent sender ns old one → HaveSent next ms lent back → lent.seen ≡ old.seen → lent.made ≡ []
    → new.made ≡ one.made ++ back.made → length one.seen ≤ length new.seen → length back.seen ≤ length new.seen → HaveSent sender (ns ++ ms) old new
both_sent sender next ns ms old one lent back new is sent more seen blank made le le2 =
    let there : back.made ≡ joined more.parts = more.made ∙ ap (λ w. w ++ joined more.parts) blank in
    let first : AreParts (length old.seen) (length new.seen) sender ns sent.parts = parts-wider (length old.seen) (length one.seen) (length new.seen) sender ns sent.parts sent.each le in
    let second : AreParts (length old.seen) (length new.seen) next ms more.parts = subst (λ s. AreParts (length s) (length new.seen) next ms more.parts) seen (parts-wider (length lent.seen) (length back.seen) (length new.seen) next ms more.parts more.each le2) in
    record {
      parts = sent.parts ++ more.parts;
      made = made ∙ (ap (λ w. w ++ back.made) sent.made ∙ (append_assoc old.made (joined sent.parts) back.made ∙ ap (λ w. old.made ++ w) (ap (λ w. joined sent.parts ++ w) there ∙ sym (joined-both sent.parts more.parts))));
      each = parts-both (length old.seen) (length new.seen) sender next ns ms sent.parts more.parts is first second;
    }

-- all calls of two halves of the senders
pub both_sent_all : (sender half count m : ℕ) (old one lent back new : Knows) → half ≤ count → HaveSent sender (replicate half m) old one → HaveSent (sender + half) (replicate (count - half) m) lent back → lent.seen ≡ old.seen → lent.made ≡ []
    → new.made ≡ one.made ++ back.made → length one.seen ≤ length new.seen → length back.seen ≤ length new.seen → HaveSent sender (replicate count m) old new
both_sent_all sender half count m old one lent back new within sent more seen blank made le le2 =
    let is : sender + half ≡ sender + length (replicate half m) = ap (λ k. sender + k) (sym (length-replicate half m)) in
    let all : replicate half m ++ replicate (count - half) m ≡ replicate count m = replicate-append-replicate half (count - half) m ∙ ap (λ (k : ℕ). replicate k m) (omega (arith, within)) in
    subst (λ ns. HaveSent sender ns old new) all (both_sent sender (sender + half) (replicate half m) (replicate (count - half) m) old one lent back new is sent more seen blank made le le2)

up_to-both : (m : ℕ) (ns ms : List ℕ) → AreUpTo m ns → AreUpTo m ms → AreUpTo m (ns ++ ms)
up_to-both m [] ms a b = b
up_to-both m (n ∷ ns) ms a b = (a.0, up_to-both m ns ms a.1 b)

-- some calls of two halves of the senders
pub both_begun : (sender half count m : ℕ) (old one lent back new : Knows) → half ≤ count → HaveBegun sender half m old one → HaveBegun (sender + half) (count - half) m lent back → lent.seen ≡ old.seen → lent.made ≡ []
    → new.made ≡ one.made ++ back.made → length one.seen ≤ length new.seen → length back.seen ≤ length new.seen → HaveBegun sender count m old new
both_begun sender half count m old one lent back new within sent more seen blank made le le2 = record {
  counts = sent.counts ++ more.counts;
  senders = length-append sent.counts more.counts ∙ omega (arith, sent.senders, more.senders, within);
  up_to = up_to-both m sent.counts more.counts sent.up_to more.up_to;
  sent = both_sent sender (sender + half) sent.counts more.counts old one lent back new (ap (λ k. sender + k) (sym sent.senders)) sent.sent more.sent seen blank made le le2;
}

-- one sender has made n of its calls
pub one_begun : (sender n m : ℕ) (old new : Knows) → n ≤ m → HaveSent sender (n ∷ []) old new → HaveBegun sender 1 m old new
one_begun sender n m old new le sent = record { counts = n ∷ []; senders = refl; up_to = (le, tt); sent = sent }

pub lent_begun : (sender count m : ℕ) (old lent back new : Knows) → HaveBegun sender count m lent back → lent.seen ≡ old.seen → lent.made ≡ []
    → new.made ≡ old.made ++ back.made → length back.seen ≤ length new.seen → HaveBegun sender count m old new
lent_begun sender count m old lent back new begun seen blank made le = record {
  counts = begun.counts;
  senders = begun.senders;
  up_to = begun.up_to;
  sent = lent_sent sender begun.counts old lent back new begun.sent seen blank made le;
}

-- both went well, or one didn't
pub both_ok : {X Y Z E : Type 0} (a b r : Result (Unit {0}) E) → r ≡ result_and a b → OnOk a X → OnOk b Y → (X → Y → Z) → OnOk r Z
both_ok {Z = Z} (Ok u) (Ok v) r is x y all = subst (λ w. OnOk w Z) (sym is) (all x y)
both_ok {Z = Z} (Ok u) (Err e) r is x y all = subst (λ w. OnOk w Z) (sym is) tt
both_ok {Z = Z} (Err e) b r is x y all = subst (λ w. OnOk w Z) (sym is) tt

pub when_ok : {X Y T E : Type 0} (r : Result T E) → OnOk r X → (X → Y) → OnOk r Y
when_ok (Ok v) x f = f x
when_ok (Err e) x f = tt
