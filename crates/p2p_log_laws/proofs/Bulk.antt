-- What ends together: items one after another, each with its copies.
use Rattle.p2p_log_laws.proofs.Reaching.{reads, writes, ends_in}
use Rattle.p2p_log.proofs.Taken.{Has-taken}
use Rattle.p2p_log.specs.Taken.{AreTaken}
use Rattle.p2p_log_rules.specs.Reading.{is_read}
use Rattle.p2p_log.specs.Sending.{keys_sent, sending_of}
use Rattle.std.proofs.lemmas.Grind.{flat_map-append}
use Rattle.p2p_log.specs.declared.entry.Reply.{Reply}
use Rattle.p2p_log.specs.declared.queue.Queue.{Queue}
use Rattle.std.proofs.Common.{◌≡◌, ℕ, suc, ◌+◌, ◌<◌, Bool, true, false, cond, List, [], ◌∷◌, ◌++◌, map, length, Some, inl, inr, refl, ap, sym, subst, ◌∙◌, arith}
use Rattle.std.specs.Prelude.{◌==◌, ◌&&◌, nat_lt, count_by, filter, flat_map, slice_get}
use Rattle.std.specs.List.{AllByRecursion as Each}
use Rattle.std.proofs.lemmas.Bool.Decides.{nat_tests}
use Rattle.std.proofs.lemmas.List.Sums.{sum_by-append, sum_by-cons}
use Rattle.p2p_log.specs.declared.config.Config.{Config}
use Rattle.p2p_log.specs.declared.entry.Entry.{Entry}
use Rattle.p2p_log.specs.declared.event.Event.{Event}
use Rattle.p2p_log.specs.declared.event.Act.{Act}
use Rattle.p2p_log_rules.specs.declared.row.Row.{Row}
use Rattle.p2p_log_rules.specs.Effect.{entry_of}
use Rattle.p2p_log_rules.specs.Moves.{Moves}
use Rattle.p2p_log_rules.proofs.Moves.{all_end-gone}
use Rattle.p2p_log.proofs.Queues.{same_queue-refl}
use Rattle.p2p_log_laws.specs.Causes.{Shows}
use Rattle.p2p_log_laws.proofs.Fitting.{Fits, is_bare, bare_carries_none}
use Rattle.p2p_log_laws.proofs.Shape.{Moved, Laws, Delivery, accepts, Shape, IsOwn, IsQuiet, Moved-beside, accepts-none, idle_bare, no_delivery}
use Rattle.p2p_log_laws.proofs.Showing.{EndShows, Standing}
use Rattle.p2p_base.specs.declared.key.Key.{Key}
use Rattle.p2p_log.specs.declared.item.Item.{Item}
use Rattle.p2p_log.specs.declared.item.Item.TheVariants as item
use Rattle.p2p_log.specs.declared.item.Envelope.{Envelope}
use Rattle.p2p_log.specs.declared.end.End.{End}
use Rattle.p2p_log.specs.declared.end.End.TheVariants as end
use Rattle.p2p_log.specs.declared.end.Outcome.{Outcome}
use Rattle.p2p_log.specs.declared.end.Outcome.TheVariants as outcome
use Rattle.p2p_log.specs.declared.end.Cause.{Cause}
use Rattle.p2p_log.specs.Lines.{same_name, name_of, ended_item, stands_in, live, line}
use Rattle.p2p_log.specs.Copies.{carries, carries_copy, copies_from, copies_of, ends_copy}
use Rattle.p2p_log.specs.Drained.{ends_with, all_end}
use Rattle.p2p_log_rules.specs.Effect.{copies_end}
use Rattle.p2p_log.proofs.Each.{Has, Has-after, Has-kept, Each-has, Each-append, Each-map, Each-weaker, place_of, count_by-none}
use Rattle.p2p_log.proofs.Names.{same_name-refl}
use Rattle.p2p_log_laws.proofs.Spreading.{borne_by, one, count_by-copies_end, from_first}

ends_from : (o : Outcome) (send p : ℕ) (ks : List Key) → map (λ copy. end.Copy copy.0 copy.1 o) (copies_from send p ks) ≡ copies_end send p ks o
ends_from o send p [] = refl
ends_from o send p (k ∷ ks) = ap (λ l. end.Copy send p o ∷ l) (ends_from o send (p + 1) ks)

one_more : (b : Bool) → 0 + cond b 1 0 ≡ one b
one_more b = omega arith

-- the copies that an item carries, as ends
pub item_counted : (copy : ℕ × ℕ) (o : Outcome) (i : Item) → count_by (ends_copy copy) (map (λ c. end.Copy c.0 c.1 o) (copies_of i)) ≡ one (carries_copy copy i)
item_counted copy o (item.Content c frame priority send to) =
    ap (λ (l : List End). count_by (ends_copy copy) l) (ends_from o send 0 to)
    ∙ (count_by-copies_end copy send 0 to o ∙ from_first copy.0 copy.1 send (length to))
item_counted copy o (item.Frame (Some other) frame) = one_more (same_name copy other)
item_counted copy o (item.Held c bytes other) = one_more (same_name copy other)
item_counted copy o (item.Message bytes other from) = one_more (same_name copy other)
item_counted copy o _ = refl

-- they end as many copies as they carry
pub all_end-counted : (copy : ℕ × ℕ) (c : Cause) (xs : List Envelope) → count_by (ends_copy copy) (all_end c xs) ≡ count_by (carries copy) xs
all_end-counted copy c [] = refl
all_end-counted copy c (x ∷ xs) =
    sum_by-append (λ d. one (ends_copy copy d)) (ends_with c x) (all_end c xs)
    ∙ (ap (λ n. n + count_by (ends_copy copy) (all_end c xs))
    (sum_by-cons (λ d. one (ends_copy copy d)) (end.Item x.entry x.place) (map (λ k. end.Copy k.0 k.1 (outcome.Dropped c)) (copies_of x.item))
    ∙ (zero_add (count_by (ends_copy copy) (map (λ k. end.Copy k.0 k.1 (outcome.Dropped c)) (copies_of x.item))) ∙ item_counted copy (outcome.Dropped c) x.item))
    ∙ (ap (λ n. one (carries copy x) + n) (all_end-counted copy c xs) ∙ sym (sum_by-cons (λ y. one (carries copy y)) x xs)))
  where
    zero_add : (n : ℕ) → 0 + n ≡ n
    zero_add n = omega arith

from_carried : (send p n : ℕ) (ks : List Key) → p + length ks ≡ n → Each (λ c. ((send == c.0) && nat_lt c.1 n) ≡ true) (copies_from send p ks)
from_carried send p n [] long = tt
from_carried send p n (k ∷ ks) long = (here send p n (length ks) (length (k ∷ ks)) refl long, from_carried send (p + 1) n ks (next p n (length ks) (length (k ∷ ks)) refl long))
  where
    here : (s p n l m : ℕ) → m ≡ suc l → p + m ≡ n → ((s == s) && nat_lt p n) ≡ true
    here s p n l m e h = let less : p < n = omega arith in grind (arith, nat_tests)

    next : (p n l m : ℕ) → m ≡ suc l → p + m ≡ n → (p + 1) + l ≡ n
    next p n l m e h = omega arith

-- an item carries its copies
pub copies_carried : (i : Item) → Each (λ c. carries_copy c i ≡ true) (copies_of i)
copies_carried (item.Content c frame priority send to) = from_carried send 0 (length to) to (none (length to))
  where
    none : (n : ℕ) → 0 + n ≡ n
    none n = omega arith
copies_carried (item.Frame (Some other) frame) = (same_name-refl other, tt)
copies_carried (item.Held c bytes other) = (same_name-refl other, tt)
copies_carried (item.Message bytes other from) = (same_name-refl other, tt)
copies_carried _ = tt

pub carried_is : (copy : ℕ × ℕ) (i : Item) → copies_of i ≡ copy ∷ [] → carries_copy copy i ≡ true
carried_is copy i e = (subst (Each (λ c. carries_copy c i ≡ true)) e (copies_carried i)).0

-- what each of these ends has
pub all_end-each : (P : End → Type 0) (c : Cause) (xs : List Envelope) → ((n p : ℕ) → P (end.Item n p))
    → ((x : Envelope) (copy : ℕ × ℕ) → Has xs x → carries copy x ≡ true → P (end.Copy copy.0 copy.1 (outcome.Dropped c))) → Each P (all_end c xs)
all_end-each P c [] items copies = tt
all_end-each P c (x ∷ xs) items copies =
    Each-append P (ends_with c x) (all_end c xs) (
      items x.entry x.place,
      Each-map P (λ k. end.Copy k.0 k.1 (outcome.Dropped c)) (copies_of x.item)
          (Each-weaker (λ k. carries_copy k x.item ≡ true) (λ k. P (end.Copy k.0 k.1 (outcome.Dropped c))) (λ k h. copies x k (inl refl) h) (copies_of x.item) (copies_carried x.item)),
    )
    (all_end-each P c xs items (λ y k h. copies y k (inr h)))

-- ---- a row whose last ends are those of items that end together

module _ (configs : List Config) (log : List Entry) (a : Act) (r : Row) (m : Moves log r) (front : List End) (c : Cause) (parts : r.ends ≡ front ++ all_end c m.ended) where
  -- the laws follow from those of what comes before, and from the cause
  pub ended_laws : Each Fits r.puts → Moved configs log a r.reply m.taken r.puts
      → ((copy : ℕ × ℕ) → accepts log a r.reply copy + count_by (carries copy) m.taken ≡ borne_by copy r.puts front)
      → (Standing configs log → (ev : Event) → ev.act ≡ a → Each (EndShows configs log (entry_of ev r)) front)
      → (Standing configs log → (ev : Event) → ev.act ≡ a → (x : Envelope) (copy : ℕ × ℕ) → Has m.ended x → carries copy x ≡ true → Shows configs log (entry_of ev r) copy c)
      → (is_read r.reply ≡ true → Delivery configs log a r.reply m.taken r.ends)
      → Laws configs log a r m
  ended_laws fitting moved balanced front_causes causes delivers = record {
    fitting = fitting;
    moved = moved;
    balanced = λ copy.
        let before = balanced copy in
        let all : count_by (ends_copy copy) r.ends ≡ count_by (ends_copy copy) front + count_by (carries copy) m.ended =
        ap (λ (ds : List End). count_by (ends_copy copy) ds) parts
        ∙ (sum_by-append (λ d. one (ends_copy copy d)) front (all_end c m.ended) ∙ ap (λ n. count_by (ends_copy copy) front + n) (all_end-counted copy c m.ended))
        in
        omega (arith, before, all);
    causes = λ stand ev acts.
        subst (Each (EndShows configs log (entry_of ev r))) (sym parts)
        (Each-append (EndShows configs log (entry_of ev r)) front (all_end c m.ended) (front_causes stand ev acts)
        (all_end-each (EndShows configs log (entry_of ev r)) c m.ended (λ n p. tt) (λ x copy has bears. causes stand ev acts x copy has bears)));
    delivers = delivers;
  }

-- ---- queues that are emptied

-- a step ends these items, which stood in these queues, once it took others, whose copies end so
module _ (configs : List Config) (log : List Entry) (a : Act) (said : Reply) (none : keys_sent (sending_of a said) ≡ []) (silent : is_read said ≡ false)
    (taken : List Envelope) (read : Each (λ x. reads configs log a x.queue ≡ true) taken)
    (first : List End) (no_items : flat_map ended_item first ≡ []) (counted : (copy : ℕ × ℕ) → count_by (carries copy) taken ≡ count_by (ends_copy copy) first)
    (puts : List (Queue × Item)) (quiet : Each IsQuiet puts) (put : Each (λ x. writes configs log a x.0 ≡ true) puts)
    (qs : List Queue) (near : (q : Queue) → Has qs q → ends_in configs log a q ≡ true) (c : Cause)
    (rest : List Envelope) (stood : AreTaken (live log) (taken ++ rest)) (within : Each (λ x. Has qs x.queue) rest) where
  abbrev pub emptied : Row
  emptied = record { reply = said; takes = map name_of taken; puts = puts; ends = first ++ all_end c rest }

  abbrev m : Moves log emptied
  m = record {
    taken = taken;
    ended = rest;
    names = refl;
    gone = flat_map-append ended_item first (all_end c rest) ∙ (ap (λ l. l ++ flat_map ended_item (all_end c rest)) no_items ∙ all_end-gone c rest);
    stood = stood;
  }

  pub emptied_shape : (Standing configs log → (ev : Event) → ev.act ≡ a → Each (EndShows configs log (entry_of ev emptied)) first)
      → (Standing configs log → (ev : Event) → ev.act ≡ a → (q : Queue) → Has qs q → (x : Envelope) (place : ℕ) → slice_get (line log q) place ≡ Some x
      → (copy : ℕ × ℕ) → carries copy x ≡ true → Shows configs log (entry_of ev emptied) copy c)
      → Shape configs log a emptied
  unfolding line
  emptied_shape first_causes causes = record {
    moves = m;
    reach = record {
      taken = read;
      ended = Each-weaker (λ x. Has qs x.queue) (λ x. ends_in configs log a x.queue ≡ true) (λ x has. near x.queue has) rest within;
      puts = put;
    };
    laws = λ fitting.
        ended_laws configs log a emptied m first c refl (Each-weaker IsQuiet Fits (λ x q. q.0) puts quiet)
        (Moved-beside configs log a said taken puts
        (Each-weaker IsQuiet (IsOwn configs log a said) (λ x q. inl q.1) puts quiet) (Each-weaker IsQuiet (λ x. is_bare x.1 ≡ true) (λ x q. idle_bare x.1 q.1) puts quiet))
        (λ copy.
        let no_more = accepts-none log a said copy none in
        let same = counted copy in
        let light : count_by (λ x. carries_copy copy x.1) puts ≡ 0 = count_by-none (λ x. carries_copy copy x.1) puts
        (Each-weaker IsQuiet (λ x. carries_copy copy x.1 ≡ false) (λ x q. bare_carries_none copy x.1 (idle_bare x.1 q.1)) puts quiet)
        in
        omega (arith, no_more, same, light))
        first_causes
        (λ stand ev acts x copy has bears.
        let here : Has (live log) x = Has-taken (live log) (taken ++ rest) x stood (Has-after taken rest x has) in
        let place = place_of (filter (stands_in x.queue) (live log)) x (Has-kept (stands_in x.queue) (live log) x (same_queue-refl x.queue) here) in
        causes stand ev acts x.queue (Each-has (λ y. Has qs y.queue) rest x within has) x place.0 place.1 copy bears)
        (no_delivery configs log a said taken (first ++ all_end c rest) silent);
  }
