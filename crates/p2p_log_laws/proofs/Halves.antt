-- Two halves of connections over one link meet, as the laws of connections have it.
use Rattle.std.proofs.Common.{◌≡◌, ℕ, Bool, true, false, cond, List, [], ◌∷◌, Some, inl, inr, refl, ap, sym, subst, ◌∙◌, arith, eqb-true}
use Rattle.std.specs.Prelude.{◌==◌, slice_get}
use Rattle.std.proofs.lemmas.Bool.Decides.{nat_tests}
use Rattle.std.proofs.lemmas.Option.{same_Some}
use Rattle.p2p_base.specs.declared.key.Key.{Key}
use Rattle.p2p_log.specs.declared.config.Config.{Config}
use Rattle.p2p_log.specs.declared.queue.Queue.{Queue}
use Rattle.p2p_log.specs.declared.queue.Queue.TheVariants as queue
use Rattle.p2p_log.specs.declared.queue.Side.{Side}
use Rattle.p2p_log.specs.declared.queue.Side.TheVariants as side
use Rattle.p2p_log.specs.declared.item.Item.{Item}
use Rattle.p2p_log.specs.declared.item.Item.TheVariants as item
use Rattle.p2p_log.specs.declared.entry.Entry.{Entry}
use Rattle.p2p_log.specs.declared.entry.Reply.TheVariants as reply
use Rattle.p2p_log.specs.declared.event.Act.TheVariants as act
use Rattle.p2p_log.specs.declared.event.Event.{Event}
use Rattle.p2p_log_rules.specs.declared.row.Half.{Half}
use Rattle.p2p_log_rules.specs.Connections.{half_at}
use Rattle.p2p_log_rules.specs.Effect.{other_side}
use Rattle.p2p_log_rules.specs.Facts.{key_at}
use Rattle.p2p_log_rules.specs.Lawful.{IsLawful}
use Rattle.p2p_log_rules.specs.Dialed.{dialer_of}
use Rattle.p2p_log_rules.specs.Spawning.{connections_of}
use Rattle.p2p_log_rules.proofs.Connections.{HalfParts, half_parts}
use Rattle.p2p_log_rules.proofs.Dialed.{dialer_of-entry}
use Rattle.p2p_log_laws.specs.Leading.{Links, LeadsTo}
use Rattle.p2p_log_laws.proofs.ConnectionPeers.{connections_lead}
use Rattle.p2p_log_laws.proofs.Meeting.{HalvesMeet}
use Rattle.p2p_log_laws.proofs.OneConnection.{same_ends, connections_are_one, ends_meet}

-- ---- who dialed

-- the node from which a link leads dialed it
pub links_dialer : (log : List Entry) (link from to : ℕ) → Links log link from to → dialer_of log link ≡ Some from
links_dialer log link from to l =
    by l.entry.puts refl l.arrives
  where
    by : (puts : List (Queue × Item)) → l.entry.puts ≡ puts → slice_get puts 1 ≡ Some (queue.Arrivals to, item.Arrival l.address l.key link) → dialer_of log link ≡ Some from
    by [] is h = absurd (cc)
    by (one ∷ []) is h = absurd (cc)
    by (one ∷ two ∷ rest) is h = dialer_of-entry log link l.entry l.attempt from to l.address one two rest l.at l.acts l.done is

abbrev out_by : Bool → Side
out_by b = cond b side.Out side.In

same_out : (b c : Bool) → out_by b ≡ out_by c → b ≡ c
same_out true true h = refl
same_out true false h = absurd (cc)
same_out false true h = absurd (cc)
same_out false false h = refl

other_out : (b c : Bool) → out_by b ≡ other_side (out_by c) → (b ≡ c → ⊥)
other_out true true h = λ e. cc
other_out true false h = λ e. cc
other_out false true h = λ e. cc
other_out false false h = λ e. cc

module _ (configs : List Config) (script : List Event) (log : List Entry) (lawful : IsLawful configs script log) where
  -- two halves over one link are over a link that one node dialed
  module _ (n m c d : ℕ) (a b : Half) (near : half_at log n c ≡ Some a) (far : half_at log m d ≡ Some b) (over : a.link ≡ b.link) where
    abbrev p : HalfParts log n c a
    p = half_parts log n c a near

    abbrev q : HalfParts log m d b
    q = half_parts log m d b far

    links : p.connection.link ≡ q.connection.link
    links = sym (ap (λ (k : Half). k.link) p.is) ∙ (over ∙ ap (λ (k : Half). k.link) q.is)

    one_dialer : p.dialer ≡ q.dialer
    one_dialer = same_Some p.dialer q.dialer (sym p.dialed ∙ (ap (dialer_of log) links ∙ q.dialed))

    near_writes : a.writes ≡ out_by (p.dialer == n)
    near_writes = ap (λ (k : Half). k.writes) p.is

    far_writes : b.writes ≡ out_by (p.dialer == m)
    far_writes = ap (λ (k : Half). k.writes) q.is ∙ ap (λ e. out_by (e == m)) (sym one_dialer)

    near_leads : LeadsTo configs log n p.connection.key q.connection.link
    near_leads = subst (LeadsTo configs log n p.connection.key) links (connections_lead configs script log lawful n c p.connection p.made)

    far_leads : LeadsTo configs log m q.connection.key q.connection.link
    far_leads = connections_lead configs script log lawful m d q.connection q.made

    -- where a node did not dial, it was dialed
    dialed_to : (k : ℕ) (key : Key) → LeadsTo configs log k key q.connection.link → (p.dialer == k) ≡ false → (i : ℕ) × Links log q.connection.link i k
    dialed_to k key (i, inl dials, is) other =
        let dialer : p.dialer ≡ k = one_dialer ∙ same_Some q.dialer k (sym q.dialed ∙ links_dialer log q.connection.link k i dials) in
        absurd (apart p.dialer k other dialer)
      where
        apart : (x y : ℕ) → (x == y) ≡ false → x ≡ y → ⊥
        apart x y differ same = grind (arith, nat_tests)
    dialed_to k key (i, inr listens, is) other = (i, listens)

    same_node : (s : Bool) → (p.dialer == n) ≡ s → (p.dialer == m) ≡ s → n ≡ m
    same_node true e f = sym (eqb-true p.dialer n e) ∙ eqb-true p.dialer m f
    same_node false e f =
        let here = dialed_to n p.connection.key near_leads e in
        let there = dialed_to m q.connection.key far_leads f in
        (same_ends log q.connection.link here.0 n there.0 m here.1 there.1).1

    same_end : a.writes ≡ b.writes → (n ≡ m) × (c ≡ d)
    same_end w =
        let one = same_out (p.dialer == n) (p.dialer == m) (sym near_writes ∙ (w ∙ far_writes)) in
        let nodes : n ≡ m = same_node (p.dialer == m) one refl in
        (nodes, (connections_are_one configs script log lawful).over m c d p.connection q.connection (subst (λ k. connections_of log k c ≡ Some p.connection) nodes p.made) q.made links)

    two_nodes : a.writes ≡ other_side b.writes → (n == m) ≡ false
    two_nodes w = by (n == m) refl
      where
        clash : (p.dialer == n) ≡ (p.dialer == m) → ⊥
        clash = other_out (p.dialer == n) (p.dialer == m) (sym near_writes ∙ (w ∙ ap other_side far_writes))

        by : (t : Bool) → (n == m) ≡ t → t ≡ false
        by true same = absurd (clash (ap (λ k. p.dialer == k) (eqb-true n m same)))
        by false differ = refl

    opposite : a.writes ≡ other_side b.writes → (a.peer ≡ key_at configs m) × (b.peer ≡ key_at configs n)
    opposite w =
        let keys = ends_meet configs script log lawful n m c d p.connection q.connection (two_nodes w) p.made q.made links in
        (ap (λ (k : Half). k.peer) p.is ∙ keys.0, ap (λ (k : Half). k.peer) q.is ∙ keys.1)

  pub halves_meet : HalvesMeet configs log
  halves_meet = record { same_end = same_end; opposite = opposite }
