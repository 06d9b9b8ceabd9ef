-- Queues that are emptied one after another: in parts, and with what their items bring.
use Rattle.std.proofs.Common.{◌≡◌, ℕ, false, cond, List, [], ◌∷◌, ◌++◌, refl, ap, sym, ◌∙◌, append_assoc}
use Rattle.std.specs.Prelude.{map, filter}
use Rattle.std.specs.List.{AllByRecursion as Each}
use Rattle.std.proofs.lemmas.List.{map-append}
use Rattle.p2p_log.specs.declared.queue.Queue.{Queue}
use Rattle.p2p_log.specs.declared.item.Envelope.{Envelope}
use Rattle.p2p_log.specs.Apart.{AreApart}
use Rattle.p2p_log.specs.QueueCode.{same_queue}
use Rattle.p2p_log.specs.Drained.{drained, each_with, drained_with}
use Rattle.p2p_log.specs.Lines.{name_of, stays, stands_in}
use Rattle.p2p_log.proofs.Each.{Each-weaker}
use Rattle.p2p_log.proofs.Filters.{filter-swap}
use Rattle.p2p_log.proofs.Lines.{filter_stays-append, filter_stays-nil}
use Rattle.p2p_log.proofs.Names.{AreApart-filter, filter_stays-first}
use Rattle.p2p_log.proofs.Queues.{same_queue-refl, same_queue-sym}
use Rattle.p2p_log.proofs.QueueNames.{Each-in_queue}
use Rattle.p2p_log_rules.proofs.Left.{left, line_kept, AreApart-without}

-- without these, and then without those
pub left-append : (gone more items : List Envelope) → left more (left gone items) ≡ left (gone ++ more) items
left-append gone more items =
    sym (filter_stays-append (map name_of gone) (map name_of more) items) ∙ ap (λ g. filter (stays g) items) (sym (map-append name_of gone more))

pub left-none : (items : List Envelope) → left [] items ≡ items
left-none items = filter_stays-nil items

-- what comes of these queues and then of those
pub drained-append : (items : List Envelope) (qs ps : List Queue) → drained items (qs ++ ps) ≡ drained items qs ++ drained (left (drained items qs) items) ps
drained-append items [] ps = ap (λ xs. drained xs ps) (sym (left-none items))
drained-append items (q ∷ qs) ps =
    let line = filter (stands_in q) items in
    let rest = left line items in
    ap (λ d. line ++ d) (drained-append rest qs ps)
    ∙ (sym (append_assoc line (drained rest qs) (drained (left (drained rest qs) rest) ps))
    ∙ ap (λ xs. (line ++ drained rest qs) ++ drained xs ps) (left-append line (drained rest qs) items))

-- an item that stands in this queue brings nothing
abbrev pub BringsNone : (Envelope → List Queue) → Queue → Type 0
BringsNone brings q = (x : Envelope) → x.queue ≡ q → brings x ≡ []

module _ (brings : Envelope → List Queue) where
  each_with-none : (items xs : List Envelope) → Each (λ x. brings x ≡ []) xs → each_with brings items xs ≡ xs
  each_with-none items [] h = refl
  each_with-none items (x ∷ xs) h =
      let rest = filter (stays (name_of x ∷ [])) items in
      ap (λ qs. x ∷ (drained rest qs ++ each_with brings (filter (stays (map name_of (drained rest qs))) rest) xs)) h.0
      ∙ ap (λ l. x ∷ l) (each_with-none (filter (stays []) rest) xs h.1)

  -- a queue whose items bring nothing gives its line
  pub line_with : (items : List Envelope) (q : Queue) → BringsNone brings q → each_with brings items (filter (stands_in q) items) ≡ filter (stands_in q) items
  line_with items q none =
      each_with-none items (filter (stands_in q) items) (Each-weaker (λ (x : Envelope). x.queue ≡ q) (λ x. brings x ≡ []) none (filter (stands_in q) items) (Each-in_queue q items))

  -- and such queues give what they hold
  pub drained_with-none : (items : List Envelope) (qs : List Queue) → Each (BringsNone brings) qs → drained_with brings items qs ≡ drained items qs
  drained_with-none items [] h = refl
  drained_with-none items (q ∷ qs) h =
      let line = filter (stands_in q) items in
      ap (λ l. l ++ drained_with brings (left l items) qs) (line_with items q h.0)
      ∙ ap (λ d. line ++ d) (drained_with-none (left line items) qs h.1)

  -- what comes of queues whose items bring nothing, and then of others
  pub drained_with-then : (items : List Envelope) (qs ps : List Queue) → Each (BringsNone brings) qs → drained_with brings items (qs ++ ps) ≡ drained items qs ++ drained_with brings (left (drained items qs) items) ps
  drained_with-then items [] ps h = ap (λ xs. drained_with brings xs ps) (sym (left-none items))
  drained_with-then items (q ∷ qs) ps h =
      let line = filter (stands_in q) items in
      let rest = left line items in
      ap (λ l. l ++ drained_with brings (left l items) (qs ++ ps)) (line_with items q h.0)
      ∙ (ap (λ d. line ++ d) (drained_with-then rest qs ps h.1)
      ∙ (sym (append_assoc line (drained rest qs) (drained_with brings (left (drained rest qs) rest) ps))
      ∙ ap (λ xs. (line ++ drained rest qs) ++ drained_with brings xs ps) (left-append line (drained rest qs) items)))

  -- the first of these, with what it brings, and then the others
  pub drained_with-first : (items : List Envelope) (q : Queue) (qs : List Queue) (gone : List Envelope) → each_with brings items (filter (stands_in q) items) ≡ gone
      → drained_with brings items (q ∷ qs) ≡ gone ++ drained_with brings (left gone items) qs
  drained_with-first items q qs gone is = ap (λ l. l ++ drained_with brings (left l items) qs) is

-- ---- the items of one queue, and right after each of them what it brings

-- in all queues but this one the same stands
abbrev pub AgreeBut : Queue → List Envelope → List Envelope → Type 0
AgreeBut q xs ys = (p : Queue) → same_queue q p ≡ false → filter (stands_in p) xs ≡ filter (stands_in p) ys

left-agree : (q : Queue) (gone xs ys : List Envelope) → AgreeBut q xs ys → AgreeBut q (left gone xs) (left gone ys)
left-agree q gone xs ys same p other =
    filter-swap (stands_in p) (stays (map name_of gone)) xs
    ∙ (ap (filter (stays (map name_of gone))) (same p other) ∙ sym (filter-swap (stands_in p) (stays (map name_of gone)) ys))

drained-agree : (q : Queue) (qs : List Queue) (xs ys : List Envelope) → Each (λ p. same_queue q p ≡ false) qs → AgreeBut q xs ys → drained xs qs ≡ drained ys qs
drained-agree q [] xs ys others same = refl
drained-agree q (p ∷ ps) xs ys others same =
    ap (λ l. l ++ drained (left l xs) ps) (same p others.0)
    ∙ ap (λ d. filter (stands_in p) ys ++ d)
    (drained-agree q ps (left (filter (stands_in p) ys) xs) (left (filter (stands_in p) ys) ys) others.1 (left-agree q (filter (stands_in p) ys) xs ys same))

-- a line stays where other queues are emptied
pub line_through : (q : Queue) (qs : List Queue) (xs : List Envelope) → AreApart xs → Each (λ p. same_queue q p ≡ false) qs → filter (stands_in q) (left (drained xs qs) xs) ≡ filter (stands_in q) xs
line_through q [] xs apart others = ap (filter (stands_in q)) (left-none xs)
line_through q (p ∷ ps) xs apart others =
    let line = filter (stands_in p) xs in
    ap (filter (stands_in q)) (sym (left-append line (drained (left line xs) ps) xs))
    ∙ (line_through q ps (left line xs) (AreApart-without p xs apart) others.1 ∙ line_kept p q xs apart (same_queue-sym p q ∙ others.0))

module _ (brings : Envelope → List Queue) where
  -- these items, and after each of them what comes of the queues that it brings, of what stands in other queues
  abbrev pub interleaved : List Envelope → List Envelope → List Envelope
  interleaved others [] = []
  interleaved others (x ∷ xs) = let brought = drained others (brings x) in x ∷ (brought ++ interleaved (left brought others) xs)

  -- what they bring together
  abbrev pub brought_by_all : List Envelope → List Envelope → List Envelope
  brought_by_all others [] = []
  brought_by_all others (x ∷ xs) = let brought = drained others (brings x) in brought ++ brought_by_all (left brought others) xs

  pub interleaved_is : (q : Queue) (items others xs : List Envelope) → AreApart items → filter (stands_in q) items ≡ xs → Each (λ x. Each (λ p. same_queue q p ≡ false) (brings x)) xs → AgreeBut q items others
      → each_with brings items xs ≡ interleaved others xs
  interleaved_is q items others [] apart is away same = refl
  interleaved_is q items others (x ∷ xs) apart is away same =
      let first = filter (stays (name_of x ∷ [])) items in
      let agrees : AgreeBut q first others = λ p other. filter_stays-first items q p x xs apart is ∙ (ap (λ b. cond b xs (filter (stands_in p) items)) other ∙ same p other) in
      let rest : filter (stands_in q) first ≡ xs = filter_stays-first items q q x xs apart is ∙ ap (λ b. cond b xs (filter (stands_in q) items)) (same_queue-refl q) in
      let brought = drained others (brings x) in
      let both : drained first (brings x) ≡ brought = drained-agree q (brings x) first others away.0 agrees in
      let first_apart : AreApart first = AreApart-filter (stays (name_of x ∷ [])) items apart in
      let then : filter (stands_in q) (left brought first) ≡ xs =
      ap (λ b. filter (stands_in q) (left b first)) (sym both) ∙ (line_through q (brings x) first first_apart away.0 ∙ rest)
      in
      ap (λ b. x ∷ (b ++ each_with brings (left b first) xs)) both
      ∙ ap (λ l. x ∷ (brought ++ l))
      (interleaved_is q (left brought first) (left brought others) xs (AreApart-filter (stays (map name_of brought)) first first_apart) then away.1 (left-agree q brought first others agrees))

  -- what is left without them is what is left of the others without what they bring
  pub interleaved_left : (items others xs : List Envelope) → left (interleaved others xs) items ≡ left (brought_by_all others xs) (left xs items)
  interleaved_left items others [] = sym (left-none (left [] items))
  interleaved_left items others (x ∷ xs) =
      let brought = drained others (brings x) in
      let more = interleaved (left brought others) xs in
      let all = brought_by_all (left brought others) xs in
      let first = left (x ∷ []) items in
      sym (left-append (x ∷ []) (brought ++ more) items)
      ∙ (sym (left-append brought more first)
      ∙ (interleaved_left (left brought first) (left brought others) xs
      ∙ (ap (left all) (filter-swap (stays (map name_of xs)) (stays (map name_of brought)) first)
      ∙ (left-append brought all (left xs first) ∙ ap (left (brought ++ all)) (left-append (x ∷ []) xs items)))))

  -- a line stays where what these bring is emptied, which stands in other queues
  pub brought_through : (p : Queue) (others xs : List Envelope) → AreApart others → Each (λ x. Each (λ r. same_queue p r ≡ false) (brings x)) xs → filter (stands_in p) (left (brought_by_all others xs) others) ≡ filter (stands_in p) others
  brought_through p others [] apart away = ap (filter (stands_in p)) (left-none others)
  brought_through p others (x ∷ xs) apart away =
      let brought = drained others (brings x) in
      ap (filter (stands_in p)) (sym (left-append brought (brought_by_all (left brought others) xs) others))
      ∙ (brought_through p (left brought others) xs (AreApart-filter (stays (map name_of brought)) others apart) away.1 ∙ line_through p (brings x) others apart away.0)
