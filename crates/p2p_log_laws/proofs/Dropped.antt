-- What is made of a row that drops the end of a link too: all but its ends is the same.
use Rattle.std.proofs.Common.{◌≡◌, ℕ, ◌+◌, Bool, false, cond, List, [], ◌∷◌, ◌++◌, map, Option, Some, None, refl, ap, sym, ◌∙◌, append-nil}
use Rattle.std.specs.Prelude.{flat_map, slice_get}
use Rattle.std.specs.List.{AllByRecursion as Each}
use Rattle.std.proofs.lemmas.Grind.{flat_map-append}
use Rattle.std.proofs.lemmas.List.{map-append}
use Rattle.std.proofs.lemmas.List.Sums.{sum_by-append, sum_by-cons}
use Rattle.std.proofs.lemmas.Option.{same_Some}
use Rattle.p2p_log.specs.declared.queue.Queue.{Queue}
use Rattle.p2p_log.specs.declared.queue.Queue.TheVariants as queue
use Rattle.p2p_log.specs.declared.item.Item.{Item}
use Rattle.p2p_log.specs.declared.item.Envelope.{Envelope}
use Rattle.p2p_log.specs.declared.end.Cause.TheVariants as cause
use Rattle.p2p_log.specs.declared.entry.Entry.{Entry}
use Rattle.p2p_log.specs.declared.event.Event.{Event}
use Rattle.p2p_log.specs.Drained.{all_end}
use Rattle.p2p_log.specs.Lines.{name_of, ended_item, stands_in, live, line}
use Rattle.p2p_log.proofs.Each.{Each-append, Each-filter, Each-weaker, count_by-none}
use Rattle.p2p_log.proofs.Taken.{Each-taken}
use Rattle.p2p_log_rules.specs.declared.row.Row.{Row}
use Rattle.p2p_log_rules.specs.Dropping.{LinkEnd, other_side, frames_towards, dropping}
use Rattle.p2p_log_rules.specs.Effect.{entry_of}
use Rattle.p2p_log_rules.specs.Facts.{taken}
use Rattle.p2p_log_rules.specs.Moves.{Moves}
use Rattle.p2p_log_rules.proofs.Moves.{all_end-gone}
use Rattle.p2p_log_laws.specs.NodeGrants.{put_of}
use Rattle.p2p_log_laws.proofs.LineShape.{in_line, parts}
use Rattle.p2p_log_laws.proofs.Puts.{IsPut, each_put}
use Rattle.p2p_log_laws.proofs.Weighing.{weight}

-- ---- what stands in queues is known by its names

same_put : (log : List Entry) (x y : Envelope) → IsPut log x → IsPut log y → name_of x ≡ name_of y → put_of x ≡ put_of y
same_put log x y a b same =
    let entry : a.entry ≡ b.entry = same_Some a.entry b.entry (sym a.at ∙ (ap (λ (k : ℕ × ℕ). slice_get log k.0) same ∙ b.at)) in
    same_Some (put_of x) (put_of y) (sym a.put ∙ (ap (λ (e : Entry). slice_get e.puts x.place) entry ∙ (ap (λ (k : ℕ × ℕ). slice_get b.entry.puts k.1) same ∙ b.put)))

pub weight_named : (log : List Entry) (p : Queue × Item → Bool) (xs ys : List Envelope) → Each (IsPut log) xs → Each (IsPut log) ys → map name_of xs ≡ map name_of ys → weight p xs ≡ weight p ys
weight_named log p [] [] a b same = refl
weight_named log p [] (y ∷ ys) a b same = absurd (cc)
weight_named log p (x ∷ xs) [] a b same = absurd (cc)
weight_named log p (x ∷ xs) (y ∷ ys) a b same =
    let first : name_of x ≡ name_of y = cc in
    let rest : map name_of xs ≡ map name_of ys = cc in
    sum_by-cons (λ z. cond (p (put_of z)) 1 0) x xs
    ∙ (ap (λ q. cond (p q) 1 0 + weight p xs) (same_put log x y a.0 b.0 first)
    ∙ (ap (λ k. cond (p (put_of y)) 1 0 + k) (weight_named log p xs ys a.1 b.1 rest) ∙ sym (sum_by-cons (λ z. cond (p (put_of z)) 1 0) y ys)))

-- ---- what such a row takes and ends

-- the frames that are in flight towards the end
abbrev pub flying : List Entry → Option LinkEnd → List Envelope
flying log None = []
flying log (Some e) = frames_towards log e

flying_put : (log : List Entry) (o : Option LinkEnd) → Each (IsPut log) (flying log o)
unfolding line
flying_put log None = tt
flying_put log (Some e) = Each-filter (IsPut log) (stands_in (queue.Link e.0 (other_side e.1))) (live log) (each_put log)

module _ (log : List Entry) (r : Row) (o : Option LinkEnd) (m : Moves log r) (d : Moves log (dropping log o r)) where
  moved_put : (row : Row) (k : Moves log row) → Each (IsPut log) k.taken × Each (IsPut log) k.ended
  moved_put row k = parts (IsPut log) k.taken k.ended (Each-taken (IsPut log) (live log) (k.taken ++ k.ended) (each_put log) k.stood)

  same_names : (p : Option LinkEnd) (k : Moves log (dropping log p r)) → map name_of k.taken ≡ map name_of m.taken
  same_names None k = sym k.names ∙ m.names
  same_names (Some e) k = sym k.names ∙ m.names

  more_names : (p : Option LinkEnd) (k : Moves log (dropping log p r)) → map name_of k.ended ≡ map name_of (m.ended ++ flying log p)
  more_names None k = sym k.gone ∙ (m.gone ∙ ap (map name_of) (sym (append-nil m.ended)))
  more_names (Some e) k =
      let flight : List Envelope = frames_towards log e in
      sym k.gone
      ∙ (flat_map-append ended_item r.ends (all_end cause.ConnectionEnded flight)
      ∙ (ap (λ l. l ++ flat_map ended_item (all_end cause.ConnectionEnded flight)) m.gone
      ∙ (ap (λ l. map name_of m.ended ++ l) (all_end-gone cause.ConnectionEnded flight) ∙ sym (map-append name_of m.ended flight))))

  -- it takes the same
  pub taken_same : (p : Queue × Item → Bool) → weight p d.taken ≡ weight p m.taken
  taken_same p = weight_named log p d.taken m.taken (moved_put (dropping log o r) d).0 (moved_put r m).0 (same_names o d)

  -- and ends what is in flight beside
  pub ended_more : (p : Queue × Item → Bool) → weight p d.ended ≡ weight p m.ended + weight p (flying log o)
  ended_more p =
      weight_named log p d.ended (m.ended ++ flying log o) (moved_put (dropping log o r) d).1
      (Each-append (IsPut log) m.ended (flying log o) (moved_put r m).1 (flying_put log o)) (more_names o d)
      ∙ sum_by-append (λ x. cond (p (put_of x)) 1 0) m.ended (flying log o)

-- where nothing of links counts, what is in flight does not
pub flying_none : (log : List Entry) (o : Option LinkEnd) (p : Queue × Item → Bool) → ((e : LinkEnd) (i : Item) → p (queue.Link e.0 (other_side e.1), i) ≡ false) → weight p (flying log o) ≡ 0
flying_none log None p none = refl
flying_none log (Some e) p none =
    let link : Queue = queue.Link e.0 (other_side e.1) in
    count_by-none (λ x. p (put_of x)) (frames_towards log e)
    (Each-weaker (λ x. x.queue ≡ link) (λ x. p (put_of x) ≡ false) (λ x is. ap (λ q. p (q, x.item)) is ∙ none e x.item) (frames_towards log e) (in_line log link))

-- ---- what its entry did

-- it took the same items
pub taken-dropping : (log : List Entry) (ev : Event) (o : Option LinkEnd) (r : Row) → taken log (entry_of ev (dropping log o r)) ≡ taken log (entry_of ev r)
unfolding taken
taken-dropping log ev None r = refl
taken-dropping log ev (Some e) r = refl
