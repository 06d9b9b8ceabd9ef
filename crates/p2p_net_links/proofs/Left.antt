-- The links while what is in flight over them ends, end by end, and once it has.
use Rattle.std.proofs.Common.{◌≡◌, ℕ, Bool, true, false, cond, List, [], ◌∷◌, ◌++◌, map, refl, ap, sym, ◌∙◌}
use Rattle.std.specs.Prelude.{filter, ◌||◌, is_some}
use Rattle.std.specs.List.{list_any}
use Rattle.p2p_log.specs.declared.config.Config.{Config}
use Rattle.p2p_log.specs.declared.queue.Queue.{Queue}
use Rattle.p2p_log.specs.declared.queue.Queue.TheVariants as queue
use Rattle.p2p_log.specs.declared.queue.Side.{Side}
use Rattle.p2p_log.specs.declared.item.Envelope.{Envelope}
use Rattle.p2p_log.specs.declared.entry.Entry.{Entry}
use Rattle.p2p_log.specs.declared.event.Act.TheVariants as act
use Rattle.p2p_log.specs.Apart.{AreApart}
use Rattle.p2p_log.specs.Lines.{name_of, live, line, stays, stands_in}
use Rattle.p2p_log.specs.QueueCode.{same_queue}
use Rattle.p2p_log.proofs.QueueNames.{queue_from_same}
use Rattle.p2p_log.proofs.Queues.{same_queue-sym}
use Rattle.p2p_log_rules.specs.declared.row.Opening.{Opening}
use Rattle.p2p_log_rules.specs.Cutting.{is_cut}
use Rattle.p2p_log_rules.specs.Dialed.{dialer_of}
use Rattle.p2p_log_rules.specs.Dropping.{LinkEnd, other_side, is_dropped, drops_of}
use Rattle.p2p_log_rules.specs.Links.{openings_of}
use Rattle.p2p_log_rules.proofs.Dropping.{is_end_at, is_dropped-append}
use Rattle.p2p_log_rules.proofs.Families.{kinds_of, are_apart}
use Rattle.p2p_log_rules.proofs.Left.{without, line_gone, line_kept}
use Rattle.p2p_net_queues.specs.Tables.{at, waiting, cleared_at}
use Rattle.p2p_net_queues.proofs.Tables.{waiting-cleared_at}
use Rattle.p2p_net_links.specs.Dropping.{is_dropped_at, end_dropped}
use Rattle.p2p_net_links.specs.Left.{LinksLeft, all_dropped}
use Rattle.p2p_net_links.specs.Links.{way_of}
use Rattle.p2p_net_links.specs.Stands.{LinksStand}
use Rattle.p2p_net_links.specs.declared.links.Links.{Links}
use Rattle.p2p_net_links.proofs.Changes.{OpensNone, opening_kinds, openings_unmoved}
use Rattle.p2p_net_links.proofs.Ending.{dropped_waits, dropped_dialers, dropped_openings, dropped_cut, noted}

-- ---- what is in flight, by what is left

-- at first all that stands in queues
pub links_left_of : (configs : List Config) (log : List Entry) (l : Links) → LinksStand configs log l → LinksLeft l (live log)
unfolding line
links_left_of configs log l st = record { ways = st.waits }

-- an end is dropped, and what is in flight towards it ends
pub end_left : (l : Links) (link : ℕ) (s : Side) (items : List Envelope) → AreApart items → LinksLeft l items
    → LinksLeft (end_dropped link s l) (filter (stays (map name_of (filter (stands_in (queue.Link link (other_side s))) items))) items)
end_left l link s items apart h = record { ways = now }
  where
    p : Queue
    p = queue.Link link (other_side s)

    by : (t : Side) (j : ℕ) (b : Bool) → same_queue p (queue.Link j t) ≡ b → cond b [] (waiting (way_of l t) j) ≡ filter (stands_in (queue.Link j t)) (without p items)
    by t j true same = sym (ap (λ q. filter (stands_in q) (without p items)) (queue_from_same p (queue.Link j t) same) ∙ line_gone items p)
    by t j false other = h.ways t j ∙ sym (line_kept p (queue.Link j t) items apart other)

    now : (t : Side) (j : ℕ) → waiting (way_of (end_dropped link s l) t) j ≡ filter (stands_in (queue.Link j t)) (without p items)
    now t j =
        dropped_waits l s t link j (cleared_at (way_of l (other_side s)) link) (λ i. waiting-cleared_at link i (way_of l (other_side s)))
        ∙ by t j (same_queue p (queue.Link j t)) refl

-- what stands in a queue that is no link ends
pub links_left_other : (l : Links) (q : Queue) (items : List Envelope) → ((link : ℕ) (s : Side) → same_queue (queue.Link link s) q ≡ false) → AreApart items → LinksLeft l items
    → LinksLeft l (filter (stays (map name_of (filter (stands_in q) items))) items)
links_left_other l q items other apart h = record {
  ways = λ s link. h.ways s link ∙ sym (line_kept q (queue.Link link s) items apart (same_queue-sym q (queue.Link link s) ∙ other link s));
}

-- ---- which ends are dropped

pub dropped_after : (l : Links) (link : ℕ) (s t : Side) (k : ℕ) → is_dropped_at (end_dropped link s l) t k ≡ (is_end_at k t (link, s) || is_dropped_at l t k)
dropped_after l link s t k = noted l s t link k (cleared_at (way_of l (other_side s)) link)

or_later : (a b c : Bool) → (a || (b || c)) ≡ ((b || a) || c)
or_later true true c = refl
or_later true false c = refl
or_later false true c = refl
or_later false false c = refl

pub dropped_all : (l : Links) (es : List LinkEnd) (t : Side) (k : ℕ) → is_dropped_at (all_dropped es l) t k ≡ (list_any (is_end_at k t) es || is_dropped_at l t k)
dropped_all l [] t k = refl
dropped_all l (e ∷ es) t k =
    dropped_all (end_dropped e.0 e.1 l) es t k
    ∙ (ap (λ b. list_any (is_end_at k t) es || b) (dropped_after l e.0 e.1 t k) ∙ or_later (list_any (is_end_at k t) es) (is_end_at k t (e.0, e.1)) (is_dropped_at l t k))

-- and nothing else of them changes but what is in flight
pub all_dropped-dialers : (l : Links) (es : List LinkEnd) → (all_dropped es l).dialers ≡ l.dialers
all_dropped-dialers l [] = refl
all_dropped-dialers l (e ∷ es) = all_dropped-dialers (end_dropped e.0 e.1 l) es ∙ dropped_dialers l e.1 e.0 (cleared_at (way_of l (other_side e.1)) e.0)

pub all_dropped-openings : (l : Links) (es : List LinkEnd) → (all_dropped es l).openings ≡ l.openings
all_dropped-openings l [] = refl
all_dropped-openings l (e ∷ es) = all_dropped-openings (end_dropped e.0 e.1 l) es ∙ dropped_openings l e.1 e.0 (cleared_at (way_of l (other_side e.1)) e.0)

pub all_dropped-cut : (l : Links) (es : List LinkEnd) → (all_dropped es l).cut ≡ l.cut
all_dropped-cut l [] = refl
all_dropped-cut l (e ∷ es) = all_dropped-cut (end_dropped e.0 e.1 l) es ∙ dropped_cut l e.1 e.0 (cleared_at (way_of l (other_side e.1)) e.0)

-- where the ends that an entry drops are those, in whatever order
pub all_dropped-are : (configs : List Config) (log : List Entry) (e : Entry) (l : Links) (es : List LinkEnd) → LinksStand configs log l
    → ((link : ℕ) (s : Side) → list_any (is_end_at link s) es ≡ list_any (is_end_at link s) (drops_of log e))
    → (link : ℕ) (s : Side) → is_dropped_at (all_dropped es l) s link ≡ is_dropped (log ++ e ∷ []) link s
all_dropped-are configs log e l es st same link s =
    dropped_all l es s link
    ∙ (by (list_any (is_end_at link s) es) (is_dropped_at l s link)
    ∙ (ap (λ b. b || list_any (is_end_at link s) es) (st.dropped link s) ∙ (ap (λ b. is_dropped log link s || b) (same link s) ∙ sym (is_dropped-append log e link s))))
  where
    by : (a b : Bool) → (a || b) ≡ (b || a)
    by true true = refl
    by true false = refl
    by false true = refl
    by false false = refl

-- ---- the links once a node has stopped

-- by its act, a stop makes no link, ends no exchange of keys, and cuts no link
pub openings_stopped : (log : List Entry) (e : Entry) (n : ℕ) (by_start : Bool) → e.event.act ≡ act.Stop by_start n → OpensNone log e
openings_stopped log e n by_start is = openings_unmoved log e (ap (λ a. are_apart (kinds_of a) opening_kinds) is)

pub links_stopped : (configs : List Config) (log : List Entry) (e : Entry) (l new : Links) → LinksStand configs log l → new.dialers ≡ l.dialers → new.openings ≡ l.openings → new.cut ≡ l.cut
    → LinksLeft new (live (log ++ e ∷ [])) → ((link : ℕ) (s : Side) → is_dropped_at new s link ≡ is_dropped (log ++ e ∷ []) link s)
    → ((k : ℕ) → dialer_of (log ++ e ∷ []) k ≡ dialer_of log k) → ((k : ℕ) → openings_of (log ++ e ∷ []) k ≡ openings_of log k) → ((k : ℕ) → is_cut (log ++ e ∷ []) k ≡ is_cut log k)
    → LinksStand configs (log ++ e ∷ []) new
unfolding line
links_stopped configs log e l new st dials opens cuts left drops same_dialers same_openings same_cuts = record {
  waits = left.ways;
  dialers = λ k. ap (λ (m : List (ℕ × ℕ)). at m k) dials ∙ (st.dialers k ∙ sym (same_dialers k));
  openings = λ k. ap (λ (m : List (ℕ × Opening)). at m k) opens ∙ (st.openings k ∙ sym (same_openings k));
  dropped = drops;
  cut = λ k. ap (λ (m : List (ℕ × Unit {0})). is_some (at m k)) cuts ∙ (st.cut k ∙ sym (same_cuts k));
}
