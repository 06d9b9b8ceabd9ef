-- What an entry delivers, it took from the queue that it reads.
use Rattle.p2p_log.specs.Copies.{copies_of}
use Rattle.p2p_log_rules.specs.Reading.{reading_of, is_read}
use Rattle.p2p_log.specs.QueueCode.{same_queue}
use Rattle.p2p_log.proofs.QueueNames.{queue_from_same}
use Rattle.std.proofs.lemmas.Option.{same_Some}
use Rattle.std.proofs.Common.{Option, Some, None, ◌≡◌, ℕ, Bool, true, false, cond, List, [], ◌∷◌, ◌++◌, map, append-nil, inl, inr, refl, ap, sym, subst, ◌∙◌}
use Rattle.std.specs.Prelude.{filter, flat_map, ◌&&◌}
use Rattle.std.proofs.lemmas.Bool.{false≢true}
use Rattle.p2p_log.specs.declared.config.Config.{Config}
use Rattle.p2p_log.specs.declared.queue.Queue.{Queue}
use Rattle.p2p_log.specs.declared.item.Envelope.{Envelope}
use Rattle.p2p_log.specs.declared.end.End.{End}
use Rattle.p2p_log.specs.declared.end.End.TheVariants as end
use Rattle.p2p_log.specs.declared.end.Outcome.TheVariants as outcome
use Rattle.p2p_log.specs.declared.entry.Entry.{Entry}
use Rattle.p2p_log.specs.declared.event.Event.{Event}
use Rattle.p2p_log_rules.specs.declared.row.Row.{Row}
use Rattle.p2p_log.specs.Lines.{stands_in}
use Rattle.p2p_log_rules.specs.Effect.{entry_of}
use Rattle.p2p_log.proofs.Queues.{same_queue-refl}
use Rattle.p2p_log.proofs.Each.{Has}
use Rattle.p2p_log_rules.specs.Moves.{Moves}
use Rattle.p2p_log_laws.proofs.Shape.{Delivery, Laws}
use Rattle.p2p_log_laws.proofs.Sublists.{IsSublist-nil, IsSublist-refl, IsSublist-append, IsSublist-after}
use Rattle.p2p_log_laws.specs.Flow.{IsSublist, carried}

-- the copy that an end says was delivered
abbrev pub delivered_copy : End → List (ℕ × ℕ)
delivered_copy (end.Item n p) = []
delivered_copy (end.Copy n p outcome.Delivered) = (n, p) ∷ []
delivered_copy (end.Copy n p (outcome.Dropped c)) = []

-- whether this is the queue that is read
abbrev pub is_queue : Queue → Option Queue → Bool
is_queue q None = false
is_queue q (Some p) = same_queue q p

-- the copies that an entry delivers from this queue, given the entries before it
abbrev pub delivered_by : List Config → Queue → List Entry → Entry → List (ℕ × ℕ)
delivered_by configs q before e = cond (is_queue q (reading_of configs before e.event.act) && is_read e.reply) (flat_map delivered_copy e.ends) []

queue_is : (q : Queue) (o : Option Queue) → is_queue q o ≡ true → o ≡ Some q
queue_is q None h = absurd (cc)
queue_is q (Some p) h = ap (λ x. Some x) (queue_from_same q p h)

-- what one of these items in the queue carries, they all carry in the queue
has_carried : (q : Queue) (xs : List Envelope) (x : Envelope) → Has xs x → x.queue ≡ q → IsSublist (copies_of x.item) (carried (filter (stands_in q) xs))
has_carried q [] x h e = absurd h
has_carried q (y ∷ ys) x h e = go (stands_in q y) refl h (λ l. has_carried q ys x l e)
  where
    in_queue : y ≡ x → stands_in q y ≡ true
    in_queue is = ap (stands_in q) is ∙ (ap (λ p. stands_in p x) (sym e) ∙ same_queue-refl x.queue)

    front : (cs rest : List (ℕ × ℕ)) → IsSublist cs (cs ++ rest)
    front cs rest = subst (λ l. IsSublist l (cs ++ rest)) (append-nil cs) (IsSublist-append cs cs [] rest (IsSublist-refl cs) (IsSublist-nil rest))

    go : (b : Bool) → stands_in q y ≡ b → Has (y ∷ ys) x → (Has ys x → IsSublist (copies_of x.item) (carried (filter (stands_in q) ys)))
        → IsSublist (copies_of x.item) (carried (cond b (y ∷ filter (stands_in q) ys) (filter (stands_in q) ys)))
    go true s k rest = elim k [
      | inl is ↦ subst (λ (z : Envelope). IsSublist (copies_of x.item) (copies_of z.item ++ carried (filter (stands_in q) ys))) (sym is) (front (copies_of x.item) (carried (filter (stands_in q) ys)))
      | inr l ↦ IsSublist-after (copies_of y.item) (copies_of x.item) (carried (filter (stands_in q) ys)) (rest l)
    ]
    go false s k rest = elim k [
      | inl is ↦ absurd (false≢true (sym s ∙ in_queue is))
      | inr l ↦ rest l
    ]

delivered_copies : (cs : List (ℕ × ℕ)) → flat_map delivered_copy (map (λ c. end.Copy c.0 c.1 outcome.Delivered) cs) ≡ cs
delivered_copies [] = refl
delivered_copies (c ∷ cs) = ap (λ l. c ∷ l) (delivered_copies cs)

-- ---- what an entry delivers it took from the queue

module _ (configs : List Config) (log : List Entry) (ev : Event) (r : Row) (m : Moves log r) (laws : Laws configs log ev.act r m) (q : Queue) where
  abbrev from : List (ℕ × ℕ)
  from = carried (filter (stands_in q) m.taken)

  read_taken : reading_of configs log ev.act ≡ Some q → Delivery configs log ev.act r.reply m.taken r.ends → IsSublist (flat_map delivered_copy r.ends) from
  read_taken reads d =
      let queues : d.read.queue ≡ q = d.in_queue ∙ same_Some d.queue q (sym d.reads ∙ reads) in
      subst (λ (ends : List End). IsSublist (flat_map delivered_copy ends) from) (sym d.ended)
      (subst (λ l. IsSublist l from) (sym (delivered_copies (copies_of d.read.item))) (has_carried q m.taken d.read d.has queues))

  pub delivered_taken : IsSublist (delivered_by configs q log (entry_of ev r)) from
  delivered_taken = go (is_queue q (reading_of configs log ev.act)) (is_read r.reply) refl refl
    where
      go : (s t : Bool) → is_queue q (reading_of configs log ev.act) ≡ s → is_read r.reply ≡ t → IsSublist (cond (s && t) (flat_map delivered_copy r.ends) []) from
      go true true reads says = read_taken (queue_is q (reading_of configs log ev.act) reads) (laws.delivers says)
      go true false reads says = IsSublist-nil from
      go false t reads says = IsSublist-nil from
