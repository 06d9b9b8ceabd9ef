-- What ends with a node that stops is what the log says, in order, and its parts and the links hold what is left.
use Rattle.std.proofs.Common.{◌≡◌, ℕ, true, false, List, [], ◌∷◌, refl, ap, sym, subst, ◌∙◌, Option, Some}
use Rattle.std.specs.Prelude.{map, filter}
use Rattle.std.specs.List.{AllByRecursion as Each}
use Rattle.p2p_base.specs.declared.key.Key.{Key}
use Rattle.p2p_gates.specs.declared.arrival.Arrival.{Arrival}
use Rattle.p2p_tracker_directory.specs.declared.metadata.Metadata.{Metadata}
use Rattle.p2p_lookup.specs.declared.spawner.message.Message.{Message}
use Rattle.p2p_lookup.specs.declared.spawner.message.Message.TheVariants as asked
use Rattle.p2p_log.specs.declared.config.Config.{Config}
use Rattle.p2p_log.specs.declared.entry.Entry.{Entry}
use Rattle.p2p_log.specs.declared.queue.Queue.{Queue}
use Rattle.p2p_log.specs.declared.queue.Queue.TheVariants as queue
use Rattle.p2p_log.specs.declared.item.Envelope.{Envelope}
use Rattle.p2p_log.specs.declared.item.Item.{Item}
use Rattle.p2p_log.specs.declared.end.Cause.TheVariants as cause
use Rattle.p2p_log.specs.Apart.{AreApart}
use Rattle.p2p_log.specs.QueueCode.{same_queue}
use Rattle.p2p_log.specs.Copies.{copies_of}
use Rattle.p2p_log.specs.Drained.{each_with, all_end}
use Rattle.p2p_log.specs.Lines.{name_of, stands_in}
use Rattle.p2p_log.proofs.Each.{Each-filter, Each-weaker}
use Rattle.p2p_log.proofs.QueueNames.{Each-in_queue}
use Rattle.p2p_log.proofs.Taken.{BringsOthers}
use Rattle.p2p_log_rules.specs.Dropping.{LinkEnd, half_end, arrival_end}
use Rattle.p2p_log_rules.specs.Stopping.{towards, brought_to, brought_by}
use Rattle.p2p_log_rules.specs.Told.{told, half_to_be}
use Rattle.p2p_log_rules.proofs.Left.{without, line_kept, AreApart-without}
use Rattle.p2p_log_laws.proofs.Draining.{AgreeBut, interleaved, brought_by_all, interleaved_is, interleaved_left, brought_through}
use Rattle.p2p_log_laws.proofs.Fitting.{holds_bare}
use Rattle.p2p_net_queues.specs.Matching.{Match}
use Rattle.p2p_net_queues.specs.Tables as table
use Rattle.p2p_net_connections.specs.SpawnerStands.{IsSpawn}
use Rattle.p2p_net_connections.proofs.SpawnerStop.{spawn_dialed, spawn_end}
use Rattle.p2p_net_gates.specs.ListenerStands.{arrival_item}
use Rattle.p2p_net_gates.specs.Stopping.{zipped}
use Rattle.p2p_net_links.specs.Left.{all_dropped}
use Rattle.p2p_net_links.specs.Stands.{LinksStand}
use Rattle.p2p_net_links.specs.declared.links.Links.{Links}
use Rattle.p2p_net_node.specs.declared.node.Node.{Node}
use Rattle.p2p_net_calls.specs.Stopping.{IsBare, NodeLeft, left, half_side, arrival_handed, message_handed, messages_handed, ends_handed, handed_end}
use Rattle.p2p_net_calls.proofs.Handed.{Hands, handed_drains}

-- ---- what the items bring

abbrev pub brings : List Entry → Envelope → List Queue
brings log = brought_by log

-- the messages to the spawner hand on the ends that the log says
module _ (configs : List Config) (log : List Entry) (n : ℕ) (l : Links) (t : LinksStand configs log l) where
  pub side_is : (i : Item) (peer : Key) (link : ℕ) (reserved : Metadata Key) → IsSpawn log n i (asked.Spawn peer link reserved) → half_side n link (table.at l.dialers link) ≡ half_end (half_to_be (told log) n i)
  side_is i peer link reserved is =
      let by = spawn_dialed log n i (asked.Spawn peer link reserved) is in
      ap (half_side n link) (t.dialers link ∙ by.1) ∙ (ap (λ w. Some (link, w)) by.2 ∙ sym (spawn_end log n i (asked.Spawn peer link reserved) is))

  one_hands : (x : Envelope) (m : Message Key) → x.queue ≡ queue.Spawner n → IsSpawn log n x.item m
      → (name_of x ≡ (message_handed n l (name_of x) m).0) × (brings log x ≡ towards (message_handed n l (name_of x) m).1)
  one_hands x (asked.Spawn peer link reserved) at spawn = (refl, ap (λ q. brought_to log q x.item) at ∙ ap towards (sym (side_is x.item peer link reserved spawn)))

  pub messages_hand : (names : List (ℕ × ℕ)) (ms : List (Message Key)) (xs : List Envelope) → names ≡ map name_of xs → Match (λ (x : Envelope) m. IsSpawn log n x.item m) xs ms → Each (λ (x : Envelope). x.queue ≡ queue.Spawner n) xs
      → Hands (brings log) xs (messages_handed n l names ms)
  messages_hand names [] [] is match at = subst (λ ns. Hands (brings log) [] (messages_handed n l ns [])) (sym is) tt
  messages_hand names (m ∷ ms) (x ∷ xs) is match at =
      let one = one_hands x m at.0 match.0 in
      subst (λ ns. Hands (brings log) (x ∷ xs) (messages_handed n l ns (m ∷ ms))) (sym is) (one.0, (one.1, messages_hand (map name_of xs) ms xs refl match.1 at.1))
  messages_hand names [] (x ∷ xs) is match at = absurd match
  messages_hand names (m ∷ ms) [] is match at = absurd match

-- and the arrivals
pub arrivals_hand : (log : List Entry) (n : ℕ) (names : List (ℕ × ℕ)) (arrivals : List (Arrival Key)) (xs : List Envelope) → names ≡ map name_of xs → map (λ (x : Envelope). x.item) xs ≡ map arrival_item arrivals
    → Each (λ (x : Envelope). x.queue ≡ queue.Arrivals n) xs → Hands (brings log) xs (map arrival_handed (zipped names arrivals))
arrivals_hand log n names [] [] is items at = subst (λ ns. Hands (brings log) [] (map arrival_handed (zipped ns []))) (sym is) tt
arrivals_hand log n names (a ∷ later) (x ∷ xs) is items at =
    subst (λ ns. Hands (brings log) (x ∷ xs) (map arrival_handed (zipped ns (a ∷ later)))) (sym is)
    (refl, ((ap (λ q. brought_to log q x.item) at.0 ∙ ap (λ i. towards (arrival_end (i ∷ []))) first), arrivals_hand log n (map name_of xs) later xs refl rest at.1))
  where
    first : x.item ≡ arrival_item a
    first = cc

    rest : map (λ (y : Envelope). y.item) xs ≡ map arrival_item later
    rest = cc
arrivals_hand log n names [] (x ∷ xs) is items at = absurd (cc)
arrivals_hand log n names (a ∷ later) [] is items at = absurd (cc)

-- ---- what is left

bare_line : (q : Queue) (items : List Envelope) → holds_bare q ≡ true → Each IsBare items → Each (λ (y : Envelope). copies_of y.item ≡ []) (filter (stands_in q) items)
bare_line q items bare each = by (filter (stands_in q) items) (Each-filter IsBare (stands_in q) items each) (Each-in_queue q items)
  where
    by : (xs : List Envelope) → Each IsBare xs → Each (λ (x : Envelope). x.queue ≡ q) xs → Each (λ (x : Envelope). copies_of x.item ≡ []) xs
    by [] h k = tt
    by (x ∷ xs) h k = (h.0 (ap holds_bare k.0 ∙ bare), by xs h.1 k.1)

-- a line of which each item hands on an end: what comes of it, and what is left
pub record Given (log : List Entry) (n : ℕ) (q : Queue) (items : List Envelope) (x : Node) (l : Links) (hs : List ((ℕ × ℕ) × Option LinkEnd)) : Type 0 where
  pub ends : handed_end l hs ≡ all_end cause.NodeStopped (each_with (brings log) items (filter (stands_in q) items))
  pub holds : NodeLeft n x (all_dropped (ends_handed hs) l) (left (each_with (brings log) items (filter (stands_in q) items)) items)
  -- a line that they do not bring stays
  pub lines : (p : Queue) → same_queue q p ≡ false → Each (λ y. Each (λ r. same_queue p r ≡ false) (brings log y)) (filter (stands_in q) items)
      → filter (stands_in p) (left (each_with (brings log) items (filter (stands_in q) items)) items) ≡ filter (stands_in p) items

pub given : (log : List Entry) (n : ℕ) (q : Queue) (items : List Envelope) (x : Node) (l : Links) (hs : List ((ℕ × ℕ) × Option LinkEnd)) → holds_bare q ≡ true → AreApart items → Each IsBare items
    → BringsOthers (brings log) q → NodeLeft n x l (without q items) → Hands (brings log) (filter (stands_in q) items) hs → Given log n q items x l hs
given log n q items x l hs bare apart each others_only holds hands =
    let xs = filter (stands_in q) items in
    let others = without q items in
    let one = handed_drains (brings log) n x l others xs hs holds (bare_line q items bare each) hands in
    let agree : AgreeBut q items others = λ p other. sym (line_kept q p items apart other) in
    let away : Each (λ y. Each (λ p. same_queue q p ≡ false) (brings log y)) xs = Each-weaker (λ (y : Envelope). y.queue ≡ q) (λ y. Each (λ p. same_queue q p ≡ false) (brings log y)) others_only xs (Each-in_queue q items) in
    let is : each_with (brings log) items xs ≡ interleaved (brings log) others xs = interleaved_is (brings log) q items others xs apart refl away agree in
    let rest : left (each_with (brings log) items xs) items ≡ left (brought_by_all (brings log) others xs) others = ap (λ g. left g items) is ∙ interleaved_left (brings log) items others xs in
    record {
      ends = one.0 ∙ ap (all_end cause.NodeStopped) (sym is);
      holds = subst (NodeLeft n x (all_dropped (ends_handed hs) l)) (sym rest) one.1;
      lines = λ p other free. ap (filter (stands_in p)) rest ∙ (brought_through (brings log) p others xs (AreApart-without q items apart) free ∙ line_kept q p items apart other);
    }
