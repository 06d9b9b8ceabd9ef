-- The links after an entry that drops an end of one of them.
use Rattle.std.proofs.Common.{◌≡◌, ℕ, Bool, true, false, cond, List, [], ◌∷◌, ◌++◌, drop, refl, ap, sym, ◌∙◌, subst, Option, Some}
use Rattle.std.specs.Prelude.{◌==◌, ◌&&◌, ◌||◌, is_some}
use Rattle.std.specs.List.{list_any}
use Rattle.std.specs.BTreeMap.{is_at, insert_entry}
use Rattle.std.specs.Ordering.{nat_cmp}
use Rattle.p2p_log.specs.declared.config.Config.{Config}
use Rattle.p2p_log.specs.declared.queue.Queue.{Queue}
use Rattle.p2p_log.specs.declared.queue.Queue.TheVariants as queue
use Rattle.p2p_log.specs.declared.queue.Side.{Side}
use Rattle.p2p_log.specs.declared.queue.Side.TheVariants as side
use Rattle.p2p_log.specs.declared.item.Envelope.{Envelope}
use Rattle.p2p_log.specs.declared.entry.Entry.{Entry}
use Rattle.p2p_log.specs.declared.event.Act.{Act}
use Rattle.p2p_log.specs.declared.event.Act.TheVariants as act
use Rattle.p2p_log.specs.QueueCode.{same_queue}
use Rattle.p2p_log.specs.Lines.{line}
use Rattle.p2p_log.proofs.QueueNames.{queue_from_same}
use Rattle.p2p_log_rules.specs.declared.row.Opening.{Opening}
use Rattle.p2p_log_rules.specs.Dropping.{LinkEnd, other_side, is_side, is_dropped, drops_of}
use Rattle.p2p_net_queues.specs.Tables.{at, waiting, popped_at, cleared_at}
use Rattle.p2p_net_queues.proofs.Tables.{waiting-popped_at, waiting-cleared_at, at-inserted}
use Rattle.p2p_net_links.specs.Dropping.{dropped_of, with_dropped, is_dropped_at, end_dropped}
use Rattle.p2p_net_links.specs.Links.{way_of, with_way}
use Rattle.p2p_net_links.specs.Stands.{LinksStand}
use Rattle.p2p_net_links.specs.declared.links.Links.{Links}
use Rattle.p2p_net_links.proofs.Changes.{same_link, same_side, same_way, OpensNone, opening_kinds, dials_less, cuts_less, openings_unmoved, dialers_kept, openings_kept, cut_kept}
use Rattle.p2p_log_rules.proofs.Families.{kinds_of, are_apart}
use Rattle.p2p_log_rules.proofs.Dropping.{drops_none, drops_of-none, is_end_at, is_dropped-append}

-- an entry drops the end of this link that writes in this direction: nothing is in flight towards it after it, and what is in flight
-- elsewhere is what was
pub record DropsEnd (log : List Entry) (e : Entry) (link : ℕ) (s : Side) : Type 0 where
  pub drops : drops_of log e ≡ (link, s) ∷ []
  pub emptied : line (log ++ e ∷ []) (queue.Link link (other_side s)) ≡ []
  pub kept : (t : Side) (j : ℕ) → same_queue (queue.Link link (other_side s)) (queue.Link j t) ≡ false → line (log ++ e ∷ []) (queue.Link j t) ≡ line log (queue.Link j t)

-- what drops an end makes no link, ends no exchange of keys, and cuts no link
opens_by : (one : LinkEnd) (ends : List LinkEnd) (a : Act) → (drops_none a ≡ true → ends ≡ []) → ends ≡ one ∷ [] → are_apart (kinds_of a) opening_kinds ≡ true
opens_by one ends (act.Connect d from n to) none some = let h : ends ≡ [] = none refl in cc
opens_by one ends (act.Finish link ok) none some = let h : ends ≡ [] = none refl in cc
opens_by one ends (act.Cut link) none some = let h : ends ≡ [] = none refl in cc
opens_by one ends _ none some = refl

pub drops_opens_none : (log : List Entry) (e : Entry) (one : LinkEnd) → drops_of log e ≡ one ∷ [] → OpensNone log e
drops_opens_none log e one drops = openings_unmoved log e (opens_by one (drops_of log e) e.event.act (drops_of-none log e) drops)

-- ---- the links as they are then, with this direction in the place of the one that leads to the end

abbrev pub dropped_with : ℕ → Side → Links → List (ℕ × List Envelope) → Links
dropped_with link s l w = with_dropped (with_way l (other_side s) w) s (insert_entry nat_cmp (dropped_of l s) link tt)

dropped_ways : (l : Links) (s t : Side) (link : ℕ) (w : List (ℕ × List Envelope)) → way_of (dropped_with link s l w) t ≡ cond (same_side (other_side s) t) w (way_of l t)
dropped_ways l side.Out side.Out link w = refl
dropped_ways l side.Out side.In link w = refl
dropped_ways l side.In side.Out link w = refl
dropped_ways l side.In side.In link w = refl

pub dropped_dialers : (l : Links) (s : Side) (link : ℕ) (w : List (ℕ × List Envelope)) → (dropped_with link s l w).dialers ≡ l.dialers
dropped_dialers l side.Out link w = refl
dropped_dialers l side.In link w = refl

pub dropped_openings : (l : Links) (s : Side) (link : ℕ) (w : List (ℕ × List Envelope)) → (dropped_with link s l w).openings ≡ l.openings
dropped_openings l side.Out link w = refl
dropped_openings l side.In link w = refl

pub dropped_cut : (l : Links) (s : Side) (link : ℕ) (w : List (ℕ × List Envelope)) → (dropped_with link s l w).cut ≡ l.cut
dropped_cut l side.Out link w = refl
dropped_cut l side.In link w = refl

-- and one end more is noted
one_more : (b c : Bool) (o : Option (Unit {0})) → is_some (cond b (Some tt) o) ≡ ((b && true) || is_some o)
one_more true c o = refl
one_more false c o = refl

no_more : (b : Bool) (o : Option (Unit {0})) → is_some o ≡ ((b && false) || is_some o)
no_more true o = refl
no_more false o = refl

pub noted : (l : Links) (s t : Side) (link j : ℕ) (w : List (ℕ × List Envelope)) → is_dropped_at (dropped_with link s l w) t j ≡ (((j == link) && is_side t s) || is_dropped_at l t j)
noted l side.Out side.Out link j w = ap (λ (o : Option (Unit {0})). is_some o) (at-inserted link j tt l.dropped_outward) ∙ one_more (j == link) true (at l.dropped_outward j)
noted l side.In side.In link j w = ap (λ (o : Option (Unit {0})). is_some o) (at-inserted link j tt l.dropped_inward) ∙ one_more (j == link) true (at l.dropped_inward j)
noted l side.Out side.In link j w = no_more (j == link) (at l.dropped_inward j)
noted l side.In side.Out link j w = no_more (j == link) (at l.dropped_outward j)

or_swap : (a b : Bool) → (a || b) ≡ (b || (a || false))
or_swap true true = refl
or_swap true false = refl
or_swap false true = refl
or_swap false false = refl

is_dropped-one : (log : List Entry) (e : Entry) (one : LinkEnd) → drops_of log e ≡ one ∷ [] → (link : ℕ) (s : Side) → is_dropped (log ++ e ∷ []) link s ≡ (is_dropped log link s || (is_end_at link s one || false))
is_dropped-one log e one drops link s = is_dropped-append log e link s ∙ ap (λ l. is_dropped log link s || list_any (is_end_at link s) l) drops

-- ---- what is in flight then: nothing towards the end, and elsewhere what was

pub dropped_waits : (l : Links) (s t : Side) (link j : ℕ) (w : List (ℕ × List Envelope)) → ((i : ℕ) → waiting w i ≡ cond (is_at (nat_cmp i) link) [] (waiting (way_of l (other_side s)) i))
    → waiting (way_of (dropped_with link s l w) t) j ≡ cond (same_queue (queue.Link link (other_side s)) (queue.Link j t)) [] (waiting (way_of l t) j)
dropped_waits l s t link j w cleared =
    ap (λ v. waiting v j) (dropped_ways l s t link w)
    ∙ (by (same_side (other_side s) t) refl ∙ ap (λ b. cond b [] (waiting (way_of l t) j)) (sym (same_link (other_side s) t link j)))
  where
    by : (c : Bool) → same_side (other_side s) t ≡ c → waiting (cond c w (way_of l t)) j ≡ cond (c && is_at (nat_cmp j) link) [] (waiting (way_of l t) j)
    by true is = cleared j ∙ ap (λ v. cond (is_at (nat_cmp j) link) [] (waiting v j)) (same_way l (other_side s) t is)
    by false is = refl

-- whatever it was before
first_taken : (l : Links) (s : Side) (link : ℕ) (v : List (ℕ × List Envelope)) → end_dropped link s (with_way l (other_side s) v) ≡ dropped_with link s l (cleared_at v link)
first_taken l side.Out link v = refl
first_taken l side.In link v = refl

twice : (b : Bool) (xs ys : List Envelope) → cond b [] (cond b xs ys) ≡ cond b [] ys
twice true xs ys = refl
twice false xs ys = refl

-- ---- they stand

module _ (configs : List Config) (log : List Entry) (e : Entry) (l : Links) (link : ℕ) (s : Side) (st : LinksStand configs log l) (d : DropsEnd log e link s) where
  abbrev p : Queue
  p = queue.Link link (other_side s)

  -- the line of one direction of one link, by whether it leads to the end
  line_now : (t : Side) (j : ℕ) (b : Bool) → same_queue p (queue.Link j t) ≡ b → cond b [] (line log (queue.Link j t)) ≡ line (log ++ e ∷ []) (queue.Link j t)
  line_now t j true same = sym (ap (line (log ++ e ∷ [])) (queue_from_same p (queue.Link j t) same) ∙ d.emptied)
  line_now t j false other = sym (d.kept t j other)

  dropped_line : (w : List (ℕ × List Envelope)) → ((j : ℕ) → waiting w j ≡ cond (is_at (nat_cmp j) link) [] (waiting (way_of l (other_side s)) j)) → (t : Side) (j : ℕ)
      → waiting (way_of (dropped_with link s l w) t) j ≡ line (log ++ e ∷ []) (queue.Link j t)
  dropped_line w cleared t j =
      dropped_waits l s t link j w cleared ∙ (ap (λ (v : List Envelope). cond (same_queue p (queue.Link j t)) [] v) (st.waits t j) ∙ line_now t j (same_queue p (queue.Link j t)) refl)

  dropped_stand : (w : List (ℕ × List Envelope)) → ((j : ℕ) → waiting w j ≡ cond (is_at (nat_cmp j) link) [] (waiting (way_of l (other_side s)) j)) → LinksStand configs (log ++ e ∷ []) (dropped_with link s l w)
  dropped_stand w cleared =
      let same = drops_opens_none log e (link, s) d.drops in
      record {
        waits = dropped_line w cleared;
        dialers = λ k. ap (λ (m : List (ℕ × ℕ)). at m k) (dropped_dialers l s link w) ∙ dialers_kept log e l.dialers st.dialers (dials_less log e same) k;
        openings = λ k. ap (λ (m : List (ℕ × Opening)). at m k) (dropped_openings l s link w) ∙ openings_kept log e l.openings st.openings same k;
        dropped = λ j t.
            noted l s t link j w ∙ (ap (λ b. ((j == link) && is_side t s) || b) (st.dropped j t) ∙ (or_swap ((j == link) && is_side t s) (is_dropped log j t) ∙ sym (is_dropped-one log e (link, s) d.drops j t)));
        cut = λ k. ap (λ (m : List (ℕ × Unit {0})). is_some (at m k)) (dropped_cut l s link w) ∙ cut_kept log e l st.cut (cuts_less log e same) k;
      }

  -- the end is dropped
  pub links_dropped : LinksStand configs (log ++ e ∷ []) (end_dropped link s l)
  links_dropped = dropped_stand (cleared_at (way_of l (other_side s)) link) (λ j. waiting-cleared_at link j (way_of l (other_side s)))

  -- the oldest frame in flight towards it was taken first
  pub links_refused : LinksStand configs (log ++ e ∷ []) (end_dropped link s (with_way l (other_side s) (popped_at (way_of l (other_side s)) link)))
  links_refused =
      let v : List (ℕ × List Envelope) = popped_at (way_of l (other_side s)) link in
      subst (LinksStand configs (log ++ e ∷ [])) (sym (first_taken l s link v))
      (dropped_stand (cleared_at v link)
      (λ j. waiting-cleared_at link j v ∙ (ap (λ xs. cond (is_at (nat_cmp j) link) [] xs) (waiting-popped_at link j (way_of l (other_side s))) ∙ twice (is_at (nat_cmp j) link) (drop 1 (waiting (way_of l (other_side s)) j)) (waiting (way_of l (other_side s)) j))))
