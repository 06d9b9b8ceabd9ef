-- A node has one connection over a link, ever, and one with a key at a time; and the two over one link are with each other.
use Rattle.std.proofs.Common.{◌≡◌, ℕ, false, List, inl, inr, ap, sym, subst, ◌∙◌, arith}
use Rattle.std.specs.Prelude.{◌==◌}
use Rattle.std.proofs.lemmas.Bool.Decides.{nat_tests}
use Rattle.std.proofs.lemmas.Option.{same_Some}
use Rattle.p2p_base.specs.declared.key.Key.{Key}
use Rattle.p2p_log.specs.declared.config.Config.{Config}
use Rattle.p2p_log.specs.declared.entry.Entry.{Entry}
use Rattle.p2p_log.specs.declared.event.Act.TheVariants as act
use Rattle.p2p_log.specs.declared.event.Event.{Event}
use Rattle.p2p_log_rules.specs.Facts.{key_at}
use Rattle.p2p_log_rules.specs.Lawful.{IsLawful}
use Rattle.p2p_log_laws.specs.Leading.{Links, LeadsTo, ConnectionsAreOne, EndsMeet}
use Rattle.p2p_log_laws.proofs.ConnectionPeers.{connections_lead}
pub use Rattle.p2p_log_laws.proofs.EndOlder.{connection_before, of_key}
use Rattle.p2p_log_laws.proofs.EndOlder.{older_ended, alive_once}
use Rattle.p2p_log_laws.proofs.EndOver.{one_over}

-- of two links of one name, the same nodes are the ends
pub same_ends : (log : List Entry) (link i j k m : ℕ) → Links log link i j → Links log link k m → (i ≡ k) × (j ≡ m)
same_ends log link i j k m first second =
    let same : first.entry ≡ second.entry = same_Some first.entry second.entry (sym first.at ∙ second.at) in
    let acts : act.Connect first.attempt first.address i j ≡ act.Connect second.attempt second.address k m =
    sym first.acts ∙ (ap (λ (e : Entry). e.event.act) same ∙ second.acts)
    in
    (cc, cc)

pub connections_are_one : (configs : List Config) (script : List Event) (log : List Entry) → IsLawful configs script log → ConnectionsAreOne log
connections_are_one configs script log lawful = record {
  over = one_over configs script log lawful;
  older = λ n. older_ended configs script log lawful n;
  alive = λ n. alive_once configs script log lawful n;
}

apart : (x y : ℕ) → (x == y) ≡ false → x ≡ y → ⊥
apart x y differ same = grind (arith, nat_tests)

-- the ends of a link at two nodes
others_key : (configs : List Config) (log : List Entry) (n m link : ℕ) (a b : Key) → (n == m) ≡ false → LeadsTo configs log n a link → LeadsTo configs log m b link
    → (a ≡ key_at configs m) × (b ≡ key_at configs n)
others_key configs log n m link a b two (i, inl dialed, a_is) (k, inl also, b_is) =
    absurd (apart n m two (same_ends log link n i m k dialed also).0)
others_key configs log n m link a b two (i, inr listened, a_is) (k, inr also, b_is) =
    absurd (apart n m two (same_ends log link i n k m listened also).1)
others_key configs log n m link a b two (i, inl dialed, a_is) (k, inr listened, b_is) =
    let ends = same_ends log link n i k m dialed listened in
    (a_is ∙ ap (key_at configs) ends.1, b_is ∙ ap (key_at configs) (sym ends.0))
others_key configs log n m link a b two (i, inr listened, a_is) (k, inl dialed, b_is) =
    let ends = same_ends log link i n m k listened dialed in
    (a_is ∙ ap (key_at configs) ends.0, b_is ∙ ap (key_at configs) (sym ends.1))

pub ends_meet : (configs : List Config) (script : List Event) (log : List Entry) → IsLawful configs script log → EndsMeet configs log
ends_meet configs script log lawful n m c d a b two first second link =
    others_key configs log n m b.link a.key b.key two (subst (LeadsTo configs log n a.key) link (connections_lead configs script log lawful n c a first))
    (connections_lead configs script log lawful m d b second)
