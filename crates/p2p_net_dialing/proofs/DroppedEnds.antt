-- A row that drops an end of a link beside what else it does: the frames in flight towards that end go with it, and nothing else.
use Rattle.std.proofs.Common.{◌≡◌, ℕ, Bool, true, false, List, [], ◌∷◌, ◌++◌, map, length, refl, ap, sym, subst, ◌∙◌, append-nil, append_assoc, Option, Some, None}
use Rattle.std.specs.Prelude.{filter, flat_map}
use Rattle.std.specs.Option.{option_map}
use Rattle.std.proofs.lemmas.Grind.{flat_map-append}
use Rattle.p2p_log.specs.declared.config.Config.{Config}
use Rattle.p2p_log.specs.declared.queue.Queue.{Queue}
use Rattle.p2p_log.specs.declared.queue.Queue.TheVariants as queue
use Rattle.p2p_log.specs.declared.queue.Side.{Side}
use Rattle.p2p_log.specs.declared.queue.Side.TheVariants as side
use Rattle.p2p_log.specs.declared.item.Envelope.{Envelope}
use Rattle.p2p_log.specs.declared.end.Cause.TheVariants as cause
use Rattle.p2p_log.specs.declared.end.End.{End}
use Rattle.p2p_log.specs.declared.entry.Entry.{Entry}
use Rattle.p2p_log.specs.declared.event.Event.{Event}
use Rattle.p2p_log.specs.Drained.{all_end}
use Rattle.p2p_log.specs.QueueCode.{same_queue}
use Rattle.p2p_log.specs.Lines.{name_of, placed, ended_item, stays, live, stands_in, line}
use Rattle.p2p_log.proofs.Filters.{filter-swap}
use Rattle.p2p_log.proofs.Lines.{filter_stays-append}
use Rattle.p2p_log.proofs.Names.{AreApart-live_from}
use Rattle.p2p_log.proofs.Taken.{other_left}
use Rattle.p2p_log_rules.specs.declared.row.Row.{Row}
use Rattle.p2p_log_rules.specs.Dropping.{LinkEnd, other_side, frames_towards, dropping, drops_of}
use Rattle.p2p_log_rules.specs.Effect.{row, effect, entry_of}
use Rattle.p2p_log_rules.specs.Facts.{stops}
use Rattle.p2p_log_rules.proofs.Moves.{all_end-gone}
use Rattle.p2p_log_rules.proofs.Left.{line_gone}
use Rattle.p2p_net_queues.proofs.Going.{line-append}
use Rattle.p2p_net_links.specs.Dropping.{end_dropped}
use Rattle.p2p_net_links.specs.Stands.{LinksStand}
use Rattle.p2p_net_links.specs.declared.links.Links.{Links}
use Rattle.p2p_net_links.proofs.Changes.{opening_kinds, openings_unmoved, links_frame}
use Rattle.p2p_log_rules.proofs.Dropping.{all_of}
use Rattle.p2p_log_rules.proofs.Families.{kinds_of, are_apart}
use Rattle.p2p_net_links.proofs.Drops.{DropsNone}
use Rattle.p2p_net_links.proofs.Ending.{DropsEnd, links_dropped}
use Rattle.p2p_net_tracker.specs.Stands.{is_told}
use Rattle.p2p_net_dialing.specs.Dialing.{DropsUnless}
use Rattle.p2p_net_node.specs.Places.{Part, at, names}
use Rattle.p2p_net_node.specs.Stands.{PartStands, NodeStands}
use Rattle.p2p_net_node.specs.declared.node.Node.{Node}
use Rattle.p2p_net_node.proofs.EachPart.{is_in, with_parts, AllOf, each_part}
use Rattle.p2p_net_node.proofs.Performing.{Performs}
use Rattle.p2p_log_rules.proofs.Steps.{steps_spawner}

-- ---- the row

-- what ends with an end of a link
abbrev pub ended_with : List Entry → Option LinkEnd → List End
ended_with log None = []
ended_with log (Some one) = all_end cause.ConnectionEnded (frames_towards log one)

-- a row in which that ends too
abbrev pub dropped : List Entry → Option LinkEnd → Row → Row
dropped log lost r = record r { ends = r.ends ++ ended_with log lost }

pub dropping_is : (log : List Entry) (lost : Option LinkEnd) (r : Row) → dropping log lost r ≡ dropped log lost r
dropping_is log None r = ap (λ es. record r { ends = es }) (sym (append-nil r.ends))
dropping_is log (Some one) r = refl

-- ---- what goes by it

-- the names of what goes by a row
abbrev pub goes_by : Row → List (ℕ × ℕ)
goes_by r = r.takes ++ flat_map ended_item r.ends

module _ (log : List Entry) (r : Row) (one : LinkEnd) where
  -- the frames in flight towards the end
  abbrev pub flight : Queue
  flight = queue.Link one.0 (other_side one.1)

  abbrev frames : List (ℕ × ℕ)
  frames = map name_of (line log flight)

  goes_more : goes_by (dropped log (Some one) r) ≡ goes_by r ++ frames
  goes_more =
      ap (λ l. r.takes ++ l)
      (flat_map-append ended_item r.ends (all_end cause.ConnectionEnded (line log flight))
      ∙ ap (λ l. flat_map ended_item r.ends ++ l) (all_end-gone cause.ConnectionEnded (line log flight)))
      ∙ sym (append_assoc r.takes (flat_map ended_item r.ends) frames)

  -- what stays of a queue is what stays once the frames went, of which then goes what goes by the row
  stays_of : (p : Queue)
      → filter (stands_in p) (filter (stays (goes_by (dropped log (Some one) r))) (live log)) ≡ filter (stays (goes_by r)) (filter (stands_in p) (filter (stays frames) (live log)))
  stays_of p =
      ap (λ gone. filter (stands_in p) (filter (stays gone) (live log))) goes_more
      ∙ (ap (filter (stands_in p)) (filter_stays-append (goes_by r) frames (live log) ∙ filter-swap (stays frames) (stays (goes_by r)) (live log))
      ∙ filter-swap (stands_in p) (stays (goes_by r)) (filter (stays frames) (live log)))

  -- no frame stays
  pub flight_gone : filter (stands_in flight) (filter (stays (goes_by (dropped log (Some one) r))) (live log)) ≡ []
  unfolding line
  flight_gone = stays_of flight ∙ ap (filter (stays (goes_by r))) (line_gone (live log) flight)

  -- and of another queue the same stays
  pub others_stay : (p : Queue) → same_queue flight p ≡ false
      → filter (stands_in p) (filter (stays (goes_by (dropped log (Some one) r))) (live log)) ≡ filter (stands_in p) (filter (stays (goes_by r)) (live log))
  unfolding line
  others_stay p other =
      stays_of p
      ∙ (ap (filter (stays (goes_by r))) (other_left (live log) flight p (AreApart-live_from 0 log) other) ∙ filter-swap (stays (goes_by r)) (stands_in p) (live log))

-- ---- queues that are no link's

abbrev pub is_of_link : Queue → Bool
is_of_link (queue.Link k s) = true
is_of_link _ = false

apart : (k : ℕ) (s : Side) (p : Queue) → is_of_link p ≡ false → same_queue (queue.Link k s) p ≡ false
apart k side.Out (queue.Link j t) h = cc
apart k side.In (queue.Link j t) h = cc
apart k side.Out _ h = refl
apart k side.In _ h = refl

-- what a tracker tells is in none
pub told_unlinked : (n : ℕ) (p : Queue) → is_told n p ≡ true → is_of_link p ≡ false
told_unlinked n (queue.Link j t) h = cc
told_unlinked n _ h = refl

-- of these the same stays, whatever end is dropped
pub unlinked_stay : (log : List Entry) (r : Row) (lost : Option LinkEnd) (p : Queue) → is_of_link p ≡ false
    → filter (stands_in p) (filter (stays (goes_by (dropped log lost r))) (live log)) ≡ filter (stands_in p) (filter (stays (goes_by r)) (live log))
unlinked_stay log r None p away = ap (λ es. filter (stands_in p) (filter (stays (r.takes ++ flat_map ended_item es)) (live log))) (append-nil r.ends)
unlinked_stay log r (Some one) p away = others_stay log r one p (apart one.0 (other_side one.1) p away)

-- ---- the links

-- a row that leaves all links alone
pub record LeavesLinks (log : List Entry) (r : Row) : Type 0 where
  pub kept : (s : Side) (j : ℕ) → filter (stands_in (queue.Link j s)) (filter (stays (goes_by r)) (live log)) ≡ line log (queue.Link j s)
  pub unput : (s : Side) (j : ℕ) → filter (stands_in (queue.Link j s)) (placed (length log) 0 r.puts) ≡ []

-- the end of a link that the code drops
abbrev pub end_by : Bool → Option ℕ → Side → Option LinkEnd
end_by true o s = None
end_by false o s = option_map (λ link. (link, s)) o

module _ (configs : List Config) (log : List Entry) (ev : Event) (base r : Row) (l ls : Links) (t : LinksStand configs log l) (leaves : LeavesLinks log base) (opens : are_apart (kinds_of ev.act) opening_kinds ≡ true) where
  abbrev pub e : Option LinkEnd → Entry
  e lost = entry_of ev (dropped log lost base)

  line_in : (lost : Option LinkEnd) (s : Side) (j : ℕ) (left : List Envelope) → filter (stands_in (queue.Link j s)) (filter (stays (goes_by (dropped log lost base))) (live log)) ≡ left
      → line (log ++ e lost ∷ []) (queue.Link j s) ≡ left
  line_in lost s j left stay =
      line-append log (e lost) (queue.Link j s)
      ∙ (ap (λ a. a ++ filter (stands_in (queue.Link j s)) (placed (length log) 0 base.puts)) stay ∙ (ap (λ b. left ++ b) (leaves.unput s j) ∙ append-nil left))

  -- none is dropped
  none_lost : DropsNone log (e None) → LinksStand configs (log ++ e None ∷ []) l
  none_lost none =
      links_frame configs log (e None) l t
      (λ s j.
      line_in None s j (line log (queue.Link j s))
      (ap (λ es. filter (stands_in (queue.Link j s)) (filter (stays (base.takes ++ flat_map ended_item es)) (live log))) (append-nil base.ends) ∙ leaves.kept s j))
      (openings_unmoved log (e None) opens) none

  -- this one is
  one_lost : (link : ℕ) (s : Side) → drops_of log (e (Some (link, s))) ≡ (link, s) ∷ [] → LinksStand configs (log ++ e (Some (link, s)) ∷ []) (end_dropped link s l)
  one_lost link s drops =
      let ends : DropsEnd log (e (Some (link, s))) link s =
      record {
        drops = drops;
        emptied = line_in (Some (link, s)) (other_side s) link [] (flight_gone log base (link, s));
        kept = λ u j other. line_in (Some (link, s)) u j (line log (queue.Link j u)) (others_stay log base (link, s) (queue.Link j u) other ∙ leaves.kept u j);
      }
      in links_dropped configs log (e (Some (link, s))) l link s t ends

  -- the links stand, by what the code drops
  pub links_after : (kept : Bool) (o : Option ℕ) (s : Side) → DropsUnless kept o s l ls base r → drops_of log (e (end_by kept o s)) ≡ all_of (end_by kept o s)
      → (r ≡ dropped log (end_by kept o s) base) × LinksStand configs (log ++ e (end_by kept o s) ∷ []) ls
  links_after true o s d drops = (d.0 ∙ dropping_is log None base, subst (LinksStand configs (log ++ e None ∷ [])) (sym d.1) (none_lost drops))
  links_after false None s d drops = (d.0 ∙ dropping_is log None base, subst (LinksStand configs (log ++ e None ∷ [])) (sym d.1) (none_lost drops))
  links_after false (Some link) s d drops = (
    d.0 ∙ ap (λ xs. record base { ends = base.ends ++ all_end cause.ConnectionEnded xs }) (t.waits (other_side s) link),
    subst (LinksStand configs (log ++ e (Some (link, s)) ∷ [])) (sym d.1) (one_lost link s drops),
  )

-- ---- the node

-- the row is this one, and it changed these parts of the node alone, which stand for the log with its entry, by which this end is dropped too
pub record DidBeside (configs : List Config) (log : List Entry) (ev : Event) (n : ℕ) (x y : Node) (ps : List Part) (lost : Option LinkEnd) (due base : Row) : Type 0 where
  pub row_is : base ≡ due
  pub rest : y ≡ with_parts ps x y
  pub parts : AllOf (λ p. PartStands p configs (log ++ entry_of ev (dropped log lost base) ∷ []) n y) ps
  pub leaves : LeavesLinks log base

-- so the act with the row in which the end is dropped is performed
pub performs_beside :
    (configs : List Config) (log : List Entry) (ev : Event) (n : ℕ) (x y : Node) (l ls : Links) (ps : List Part) (lost : Option LinkEnd) (due base r : Row) (kept : Bool) (o : Option ℕ) (s : Side) → NodeStands configs log n x
    → LinksStand configs log l → are_apart (kinds_of ev.act) opening_kinds ≡ true → steps_spawner n ev.act ≡ false → stops n ev.act ≡ false → ((p : Part) → is_in p ps ≡ false → names log ev.act (at p n) ≡ false) → DidBeside configs log ev n x y ps lost due base → DropsUnless kept o s l ls base r
    → end_by kept o s ≡ lost → drops_of log (entry_of ev (dropped log lost base)) ≡ all_of lost → row configs log ev.at ev.seed ev.act ≡ dropping log lost base → Performs configs log ev n y ls r
unfolding effect
performs_beside configs log ev n x y l ls ps lost due base r kept o s stood t opens spawns goes_on unnamed did d same drops row_is =
    let is : row configs log ev.at ev.seed ev.act ≡ dropped log lost base = row_is ∙ dropping_is log lost base in
    let is_effect : entry_of ev (dropped log lost base) ≡ effect configs log ev = ap (entry_of ev) (sym is) in
    let after : (r ≡ dropped log lost base) × LinksStand configs (log ++ entry_of ev (dropped log lost base) ∷ []) ls =
    subst (λ (z : Option LinkEnd). (r ≡ dropped log z base) × LinksStand configs (log ++ entry_of ev (dropped log z base) ∷ []) ls) same
    (links_after configs log ev base r l ls t did.leaves opens kept o s d
    (subst (λ (z : Option LinkEnd). drops_of log (entry_of ev (dropped log z base)) ≡ all_of z) (sym same) drops))
    in
    record {
      row_is = after.0 ∙ sym is;
      node = each_part configs log ev n x y ps stood did.rest unnamed spawns goes_on (subst (λ (z : Entry). AllOf (λ p. PartStands p configs (log ++ z ∷ []) n y) ps) is_effect did.parts);
      linked = subst (λ (z : Entry). LinksStand configs (log ++ z ∷ []) ls) is_effect after.1;
    }
