-- The parts of a node after an act, from those that the act names: no act speaks of the others.
use Rattle.std.proofs.Common.{◌≡◌, ℕ, zero, suc, Bool, true, false, cond, List, [], ◌∷◌, ◌++◌, refl, ap, sym, subst, ◌∙◌, arith}
use Rattle.std.specs.Prelude.{◌==◌, ◌&&◌, ◌||◌}
use Rattle.std.specs.List.{list_any}
use Rattle.std.proofs.lemmas.Bool.Decides.{nat_tests}
use Rattle.p2p_log.specs.declared.config.Config.{Config}
use Rattle.p2p_log.specs.declared.entry.Entry.{Entry}
use Rattle.p2p_log.specs.declared.event.Event.{Event}
use Rattle.p2p_log_rules.specs.Effect.{effect}
use Rattle.p2p_log_rules.specs.Facts.{stops}
use Rattle.p2p_net_channels.specs.Stands.{ChannelsStand}
use Rattle.p2p_net_connections.specs.Stands.{ConnectionsStand}
use Rattle.p2p_net_tracker.specs.Stands.{TrackerStands}
use Rattle.p2p_net_gates.specs.DialerStands.{DialerStands}
use Rattle.p2p_net_gates.specs.ListenerStands.{ListenerStands}
use Rattle.p2p_net_connections.specs.SpawnerStands.{SpawnerStands}
use Rattle.p2p_net_node.specs.Places.{Part, router, channels, connections, tracker, dialer, listener, spawner, code, same_part, at, links, parts_of, and_links, same_place, names}
use Rattle.p2p_net_node.specs.Stands.{RouterLives, PartStands, OwnStands, NodeStands}
use Rattle.p2p_net_node.specs.declared.node.Node.{Node}
use Rattle.p2p_net_node.proofs.Touching.{first_false, second_false}
use Rattle.p2p_net_node.proofs.Frames.{MakesUnbegun, makes_none, part_frame, life_after}
use Rattle.p2p_log_rules.proofs.Steps.{steps_spawner}

abbrev pub is_in : Part → List Part → Bool
is_in p [] = false
is_in p (q ∷ ps) = same_part q p || is_in p ps

-- a node that has these parts of another
abbrev pub with_parts : List Part → Node → Node → Node
with_parts ps x y = record x {
  router = cond (is_in router ps) y.router x.router;
  channels = cond (is_in channels ps) y.channels x.channels;
  connections = cond (is_in connections ps) y.connections x.connections;
  tracker = cond (is_in tracker ps) y.tracker x.tracker;
  dialing = cond (is_in dialer ps) y.dialing x.dialing;
  listening = cond (is_in listener ps) y.listening x.listening;
  spawning = cond (is_in spawner ps) y.spawning x.spawning;
}

abbrev pub AllOf : (Part → Type 0) → List Part → Type 0
AllOf P [] = Unit {0}
AllOf P (p ∷ ps) = P p × AllOf P ps

-- a part that is not one of these stays as it was
kept_part : (p : Part) (ps : List Part) (configs : List Config) (log : List Entry) (n : ℕ) (x y : Node) → is_in p ps ≡ false → PartStands p configs log n x → PartStands p configs log n (with_parts ps x y)
kept_part router ps configs log n x y out s = subst (RouterLives configs log n) (sym (ap (λ b. cond b y.router x.router) out)) s
kept_part channels ps configs log n x y out s = subst (ChannelsStand configs log n) (sym (ap (λ b. cond b y.channels x.channels) out)) s
kept_part connections ps configs log n x y out s = subst (ConnectionsStand configs log n) (sym (ap (λ b. cond b y.connections x.connections) out)) s
kept_part tracker ps configs log n x y out s = subst (TrackerStands configs log n) (sym (ap (λ b. cond b y.tracker x.tracker) out)) s
kept_part dialer ps configs log n x y out s = subst (DialerStands configs log n) (sym (ap (λ b. cond b y.dialing x.dialing) out)) s
kept_part listener ps configs log n x y out s = subst (ListenerStands configs log n) (sym (ap (λ b. cond b y.listening x.listening) out)) s
kept_part spawner ps configs log n x y out s = subst (SpawnerStands configs log n) (sym (ap (λ b. cond b y.spawning x.spawning) out)) s

abbrev part_of : ℕ → Part
part_of zero = router
part_of (suc zero) = channels
part_of (suc (suc zero)) = connections
part_of (suc (suc (suc zero))) = tracker
part_of (suc (suc (suc (suc zero)))) = dialer
part_of (suc (suc (suc (suc (suc zero))))) = listener
part_of (suc (suc (suc (suc (suc (suc k)))))) = spawner

part_of-code : (p : Part) → part_of (code p) ≡ p
part_of-code router = refl
part_of-code channels = refl
part_of-code connections = refl
part_of-code tracker = refl
part_of-code dialer = refl
part_of-code listener = refl
part_of-code spawner = refl

same_part-is : (q p : Part) → same_part q p ≡ true → q ≡ p
same_part-is q p h = let same : code q ≡ code p = grind (arith, nat_tests) in sym (part_of-code q) ∙ (ap part_of same ∙ part_of-code p)

picked : (P : Part → Type 0) (p : Part) (ps : List Part) → is_in p ps ≡ true → AllOf P ps → P p
picked P p [] h all = cc
picked P p (q ∷ ps) h all = by (same_part q p) refl (λ rest. picked P p ps rest all.1)
  where
    by : (b : Bool) → same_part q p ≡ b → (is_in p ps ≡ true → P p) → P p
    by true same later = subst P (same_part-is q p same) all.0
    by false other later = later (sym (ap (λ b. b || is_in p ps) other) ∙ h)

-- an act that names these parts of nodes names no other part
pub not_among : (ps : List Part) (p : Part) (m n : ℕ) → is_in p ps ≡ false → list_any (λ q. same_place q (at p n)) (parts_of m ps) ≡ false
not_among [] p m n out = refl
not_among (q ∷ ps) p m n out =
    ap (λ b. (b && (m == n)) || list_any (λ r. same_place r (at p n)) (parts_of m ps)) (first_false (same_part q p) (is_in p ps) out)
    ∙ not_among ps p m n (second_false (same_part q p) (is_in p ps) out)

pub not_among-both : (ps qs : List Part) (p : Part) (a b n : ℕ) → is_in p ps ≡ false → is_in p qs ≡ false → list_any (λ q. same_place q (at p n)) (parts_of a ps ++ parts_of b qs) ≡ false
not_among-both [] qs p a b n out off = not_among qs p b n off
not_among-both (q ∷ ps) qs p a b n out off =
    ap (λ t. (t && (a == n)) || list_any (λ r. same_place r (at p n)) (parts_of a ps ++ parts_of b qs)) (first_false (same_part q p) (is_in p ps) out)
    ∙ not_among-both ps qs p a b n (second_false (same_part q p) (is_in p ps) out) off

pub links_apart : (p : Part) (n : ℕ) → same_place links (at p n) ≡ false
links_apart p n = refl

pub not_among-links : (ps : List Part) (p : Part) (n : ℕ) → is_in p ps ≡ false → list_any (λ q. same_place q (at p n)) (and_links (parts_of n ps)) ≡ false
not_among-links ps p n out = ap (λ b. b || list_any (λ r. same_place r (at p n)) (parts_of n ps)) (links_apart p n) ∙ not_among ps p n n out

-- a node of which an act changed these parts, of whose connections it makes none that has begun, and which it does not stop
pub each_part-made :
    (configs : List Config) (log : List Entry) (ev : Event) (n : ℕ) (x y : Node) (ps : List Part) → NodeStands configs log n x → y ≡ with_parts ps x y
    → ((p : Part) → is_in p ps ≡ false → names log ev.act (at p n) ≡ false) → MakesUnbegun log n ev.act → stops n ev.act ≡ false
    → AllOf (λ p. PartStands p configs (log ++ effect configs log ev ∷ []) n y) ps → NodeStands configs (log ++ effect configs log ev ∷ []) n y
each_part-made configs log ev n x y ps s same unnamed late goes_on all = record {
  own = subst (OwnStands configs n) (sym same) (record { config = s.own.config; retained = s.own.retained; works = s.own.works });
  life = ap (λ (z : Node). z.stopped) same ∙ life_after configs log ev n x.stopped s.life goes_on;
  each = λ p. by p (is_in p ps) refl;
}
  where
    by : (p : Part) (b : Bool) → is_in p ps ≡ b → PartStands p configs (log ++ effect configs log ev ∷ []) n y
    by p true h = picked (λ q. PartStands q configs (log ++ effect configs log ev ∷ []) n y) p ps h all
    by p false h =
        subst (λ (z : Node). PartStands p configs (log ++ effect configs log ev ∷ []) n z) (sym same)
        (kept_part p ps configs (log ++ effect configs log ev ∷ []) n x y h (part_frame p configs log ev n x (s.each p) (unnamed p h) late))

-- and by an act that is no step of its spawner
pub each_part :
    (configs : List Config) (log : List Entry) (ev : Event) (n : ℕ) (x y : Node) (ps : List Part) → NodeStands configs log n x → y ≡ with_parts ps x y
    → ((p : Part) → is_in p ps ≡ false → names log ev.act (at p n) ≡ false) → steps_spawner n ev.act ≡ false → stops n ev.act ≡ false
    → AllOf (λ p. PartStands p configs (log ++ effect configs log ev ∷ []) n y) ps → NodeStands configs (log ++ effect configs log ev ∷ []) n y
each_part configs log ev n x y ps s same unnamed none goes_on all = each_part-made configs log ev n x y ps s same unnamed (makes_none log n ev.act none) goes_on all
