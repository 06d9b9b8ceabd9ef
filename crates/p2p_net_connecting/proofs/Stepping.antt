-- A step of a node's router, whose answers wait for the node's connections.
use Rattle.std.proofs.Common.{◌≡◌, ℕ, Bool, true, false, cond, List, [], ◌∷◌, ◌++◌, length, refl, ap, sym, subst, ◌∙◌}
use Rattle.std.specs.Prelude.{filter}
use Rattle.p2p_log.specs.declared.config.Config.{Config}
use Rattle.p2p_log.specs.declared.queue.Queue.TheVariants as queue
use Rattle.p2p_log.specs.declared.entry.Entry.{Entry}
use Rattle.p2p_log.specs.declared.entry.Reply.TheVariants as reply
use Rattle.p2p_log.specs.declared.event.Event.{Event}
use Rattle.p2p_log.specs.declared.event.Act.TheVariants as act
use Rattle.p2p_log.specs.Lines.{line, live, placed, stands_in}
use Rattle.p2p_log.proofs.Lines.{live-append}
use Rattle.p2p_log_rules.specs.declared.row.Row.{Row}
use Rattle.p2p_log_rules.specs.Facts.{is_up, is_stopped}
use Rattle.p2p_log_rules.proofs.Spawning.{connections_of-unmade}
use Rattle.p2p_log_rules.specs.Effect.{only, row, effect, entry_of, route_oldest, router_row}
use Rattle.p2p_net_router.specs.Holds.{Adds}
use Rattle.p2p_net_router.specs.Stands.{StandsFor}
use Rattle.p2p_net_router.specs.declared.router.Router.{Router}
use Rattle.p2p_net_connections.specs.Connections.{answered}
use Rattle.p2p_net_connections.specs.Stands.{ConnectionsStand}
use Rattle.p2p_net_connections.proofs.Changes.{connections_answered, waiting-answered}
use Rattle.p2p_net_links.specs.Stands.{LinksStand}
use Rattle.p2p_net_links.specs.declared.links.Links.{Links}
use Rattle.p2p_net_node.specs.Places as place
use Rattle.p2p_net_node.specs.Ready.{is_node_up}
use Rattle.p2p_net_connecting.specs.Steps.{RoutesBy, Routes}
use Rattle.p2p_net_node.specs.Stands.{RouterStands, NodeStands}
use Rattle.p2p_net_node.specs.declared.node.Node.{Node}
use Rattle.p2p_net_node.proofs.EachPart.{with_parts, each_part, not_among}
use Rattle.p2p_log_laws.proofs.Untouched.{line-untouched}
use Rattle.p2p_net_node.proofs.Frames.{links_kept, begins_unsent, lives_on, lasts_after}
use Rattle.p2p_net_node.proofs.Receivers.{receives_apart}
use Rattle.p2p_net_node.proofs.Routers.{hears_aside, RouterStands-moved}
use Rattle.p2p_net_node.proofs.Performing.{asked, Performs, stays_performs}
use Rattle.p2p_log_rules.proofs.Connections.{live_connection-kept, ends_untold}
use Rattle.p2p_net_node.proofs.Readying.{lasts_started, started_is}

-- the line of a queue to which the row adds
line-adds : (log : List Entry) (ev : Event) (r : Row) (n c : ℕ) → Adds (length log) r (live log) (queue.RouterAnswer n c)
    → line (log ++ entry_of ev r ∷ []) (queue.RouterAnswer n c) ≡ line log (queue.RouterAnswer n c) ++ filter (stands_in (queue.RouterAnswer n c)) (placed (length log) 0 r.puts)
unfolding line
line-adds log ev r n c adds = ap (filter (stands_in (queue.RouterAnswer n c))) (live-append log (entry_of ev r)) ∙ adds

-- the row of a node, by whether it has started
routed_by : (configs : List Config) (log : List Entry) (n : ℕ) (b : Bool) → is_up log n ≡ b → router_row configs log n ≡ cond b (route_oldest configs log n (line log (queue.Router n))) (only reply.Gone)
routed_by configs log n b up = ap (λ t. cond t (route_oldest configs log n (line log (queue.Router n))) (only reply.Gone)) up

route_on : (configs : List Config) (log : List Entry) (at seed n : ℕ) (b : Bool) (x y : Node) (l links : Links) (r : Row) → NodeStands configs log n x → LinksStand configs log l
    → is_node_up x ≡ b → RoutesBy b (length log) n x y r → links ≡ l → Performs configs log (asked at seed (act.Router n)) n y links r
unfolding effect row
route_on configs log at seed n false x y l links r s t started d kept =
    let up : is_up log n ≡ false = sym (started_is configs log n x s) ∙ started in
    stays_performs configs log (asked at seed (act.Router n)) n x y l links r reply.Gone s t (routed_by configs log n false up) refl d.0 d.1 kept
route_on configs log at seed n true x y l links r s t started d kept =
    let ev = asked at seed (act.Router n) in
    let e = effect configs log ev in
    let lasts : is_stopped log n ≡ false = lasts_started configs log n x s started in
    let rout : RouterStands configs log n x.router = (s.each place.router).runs lasts in
    let conn : ConnectionsStand configs log n x.connections = s.each place.connections in
    let up : is_up log n ≡ true = sym (started_is configs log n x s) ∙ started in
    let parts : y ≡ record x { router = y.router; connections = record x.connections { answers = answered (length log) n 0 r.puts x.connections.answers } } = d.0 in
    let calls = d.1 in
    let row_is : r ≡ router_row configs log n =
    calls.row configs log rout.stands
    ∙ (ap (λ k. route_oldest configs log k (line log (queue.Router k))) rout.number ∙ sym (routed_by configs log n true up))
    in
    let made : e ≡ entry_of ev r = ap (entry_of ev) (sym row_is) in
    let adds : (c : ℕ) → line (log ++ e ∷ []) (queue.RouterAnswer n c) ≡ line log (queue.RouterAnswer n c) ++ filter (stands_in (queue.RouterAnswer n c)) (placed (length log) 0 r.puts) =
    λ c.
    ap (λ (z : Entry). line (log ++ z ∷ []) (queue.RouterAnswer n c)) made
    ∙ line-adds log ev r n c (calls.others configs log (queue.RouterAnswer n c) rout.stands refl)
    in
    record {
      row_is = row_is;
      node =
          each_part configs log ev n x y (place.router ∷ place.connections ∷ []) s (subst (λ z. z ≡ with_parts (place.router ∷ place.connections ∷ []) x z) (sym parts) refl)
          (λ p out. not_among (place.router ∷ place.connections ∷ []) p n n out) refl refl (
            lives_on configs (log ++ e ∷ []) n y.router (lasts_after configs log ev n lasts refl)
                (RouterStands-moved configs log e n x.router y.router rout (hears_aside log e n (act.Router n) refl refl)
                (subst (λ (z : Row). StandsFor configs (log ++ entry_of ev z ∷ []) y.router) row_is (calls.stands configs log ev rout.stands refl (ap act.Router (sym rout.number))))
                (ap (λ (z : Router). z.number) calls.rest) (ap (λ (z : Router). z.peers) calls.rest)),
            (
              subst (ConnectionsStand configs (log ++ e ∷ []) n) (sym (ap (λ (z : Node). z.connections) parts))
                  (connections_answered configs log e n x.connections (answered (length log) n 0 r.puts x.connections.answers) conn (λ c. live_connection-kept log e n c (ends_untold log e n c (act.Router n) refl refl) (connections_of-unmade log e n refl c)) (begins_unsent log e n (act.Router n) refl (λ c. refl))
                  (receives_apart configs log e n (act.Router n) refl (λ c. refl) (λ c. line-untouched configs log ev (queue.Held n c) refl refl refl))
                  (λ c. waiting-answered (length log) n 0 c r.puts x.connections.answers ∙ (ap (λ w. w ++ filter (stands_in (queue.RouterAnswer n c)) (placed (length log) 0 r.puts)) (conn.waits c) ∙ sym (adds c)))),
              tt,
            ),
          );
      linked = subst (LinksStand configs (log ++ e ∷ [])) (sym kept) (links_kept configs log ev l t refl);
    }

pub route_performs : (configs : List Config) (log : List Entry) (at seed n : ℕ) (x y : Node) (l links : Links) (r : Row) → NodeStands configs log n x → LinksStand configs log l
    → Routes (length log) n x y r → links ≡ l → Performs configs log (asked at seed (act.Router n)) n y links r
route_performs configs log at seed n x y l links r s t d kept = route_on configs log at seed n (is_node_up x) x y l links r s t refl d kept
