-- What the code makes of a link of two nodes is what is written of it.
use Rattle.std.proofs.Common.{◌≡◌, ℕ, Bool, true, false, List, length, refl, ap, sym, subst, ◌∙◌, Some}
use Rattle.std.specs.Prelude.{slice_get, slice_set}
use Rattle.p2p_address.specs.declared.ip.SocketAddr.{SocketAddr}
use Rattle.p2p_log.specs.declared.item.Item.{Item}
use Rattle.p2p_log.specs.declared.item.Item.TheVariants as item
use Rattle.p2p_log_rules.specs.declared.row.Row.{Row}
use Rattle.p2p_net_gates.specs.Listening.{arrived}
use Rattle.p2p_net_links.specs.declared.links.Links.{Links}
use Rattle.p2p_net_dialing.specs.Linking.{Answers, arrives, with_arrival, Arrives, opened, IsLinked}
use Rattle.p2p_net_node.specs.Ready.{is_node_up}
use Rattle.p2p_net_node.specs.declared.node.Node.{Node}

module _ (k name n m : ℕ) (from : SocketAddr) (nodes : List Node) (x y after : Node) (links : Bool) (told : Row) (at_first : slice_get nodes n ≡ Some x) (at_second : slice_get nodes m ≡ Some y)
    (links_is : links ≡ is_node_up y) (answers : Answers k n name links x after told) (comes : Bool) (comes_is : comes ≡ arrives links told.reply) (l : Links) where
  abbrev arrival : Item
  arrival = item.Arrival from x.config.public_key k

  arrives_by : (b : Bool) → comes ≡ b → arrives (is_node_up y) told.reply ≡ b
  arrives_by b is = ap (λ l. arrives l told.reply) (sym links_is) ∙ (sym comes_is ∙ is)

  linked : (b : Bool) (new : List Node) (ls : Links) (r : Row) → comes ≡ b → r ≡ with_arrival b m arrival told → Arrives b m k (length told.puts) from x.config.public_key (slice_set nodes n after) new
      → ls ≡ opened b k (record { node = n; attempt = name; to = m }) l → IsLinked k name n m from nodes new l ls r
  linked b new ls r is row_is there link_opened = record {
    first = x;
    second = y;
    at_first = at_first;
    at_second = at_second;
    told = told;
    after = after;
    answers = subst (λ l. Answers k n name l x after told) links_is answers;
    row = row_is ∙ ap (λ t. with_arrival t m arrival told) (sym (arrives_by b is));
    arrival = subst (λ t. Arrives t m k (length told.puts) from x.config.public_key (slice_set nodes n after) new) (sym (arrives_by b is)) there;
    links_are = link_opened ∙ ap (λ t. opened t k (record { node = n; attempt = name; to = m }) l) (sym (arrives_by b is));
  }

  -- nobody arrives
  pub linked_to_none : comes ≡ false → IsLinked k name n m from nodes (slice_set nodes n after) l l told
  linked_to_none none = linked false (slice_set nodes n after) l told none refl refl refl

  -- the peer arrives
  pub linked_to : (z : Node) (ls : Links) (r : Row) → comes ≡ true → slice_get (slice_set nodes n after) m ≡ Some z → r ≡ with_arrival true m arrival told
      → ls ≡ opened true k (record { node = n; attempt = name; to = m }) l
      → IsLinked k name n m from nodes (slice_set (slice_set nodes n after) m (record z { listening = arrived k (length told.puts) from x.config.public_key z.listening })) l ls r
  linked_to z ls r some there row_is link_opened =
      linked true (slice_set (slice_set nodes n after) m (record z { listening = arrived k (length told.puts) from x.config.public_key z.listening })) ls r some row_is (z, (there, refl)) link_opened
