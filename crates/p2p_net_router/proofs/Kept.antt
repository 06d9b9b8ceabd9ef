-- The router after an entry that neither its step nor a registration made stands for the log with that entry.
use Rattle.std.proofs.Common.{◌≡◌, ℕ, ◌+◌, true, false, List, [], ◌∷◌, ◌++◌, length, ap, sym, subst, ◌∙◌}
use Rattle.std.specs.Prelude.{filter, map}
use Rattle.p2p_base.specs.declared.key.Key.{Key}
use Rattle.p2p_router.specs.Messenger.{Desk, is_bound}
use Rattle.p2p_log.specs.declared.config.Config.{Config}
use Rattle.p2p_log.specs.declared.entry.Entry.{Entry}
use Rattle.p2p_log.specs.declared.event.Event.{Event}
use Rattle.p2p_log.specs.declared.event.Act.{Act}
use Rattle.p2p_log_rules.specs.declared.row.Row.{Row}
use Rattle.p2p_log.specs.Lines.{stays, placed, live}
use Rattle.p2p_log_rules.specs.Facts.{is_up, registers_at, sum_capacities}
use Rattle.p2p_log_rules.specs.Effect.{entry_of, mailbox_size_at, router_capacity}
use Rattle.p2p_log_rules.proofs.Connections.{may_end}
use Rattle.p2p_log_rules.proofs.Channels.{channels-kept}
use Rattle.p2p_log_rules.proofs.Families.{kinds_of, are_apart}
use Rattle.p2p_log_rules.proofs.Routing.{route_kinds}
use Rattle.p2p_log.proofs.Lines.{live-append}
use Rattle.p2p_net_queues.specs.declared.board.Board.{Board}
use Rattle.p2p_net_queues.specs.Rows.{row_goes}
use Rattle.p2p_net_router.specs.Holds.{Holds, after}
use Rattle.p2p_net_router.specs.Stands.{RoutesNothing, StandsFor, HasPlaces}
use Rattle.p2p_net_router.specs.declared.router.Router.{Router}
use Rattle.p2p_net_router.specs.declared.name.Name.{Name}
use Rattle.p2p_net_router.proofs.Endings.{ends_none-act, ended_beside}
use Rattle.p2p_net_router.proofs.Unrouted.{unrouted_apart}

-- the same channels, with another mailbox and other names
abbrev pub rebound : Router → Desk Key → Board Name → Router
rebound r desk names = record r { messenger = desk; names = names }

pub stands_kept :
    (configs : List Config) (log : List Entry) (entry : ℕ) (event : Event) (a : Act) (r : Router) (desk : Desk Key) (names : Board Name) (row : Row)
    → StandsFor configs log r → length log ≡ entry → event.act ≡ a → are_apart (kinds_of a) route_kinds ≡ true → registers_at configs r.number a ≡ []
    → ((conn : ℕ) → may_end r.number conn a ≡ false)
    → Holds (mailbox_size_at configs r.number) (rebound r desk names) (after entry row (live log))
    → is_bound desk.binding ≡ is_up (log ++ entry_of event row ∷ []) r.number
    → HasPlaces (router_capacity configs log r.number) desk.binding
    → StandsFor configs (log ++ entry_of event row ∷ []) (rebound r desk names)
stands_kept configs log entry event a r desk names row s at is other none no_half h up places =
    let n = r.number in
    let e = entry_of event row in
    let quiet : RoutesNothing log e n = unrouted_apart log e n (ap (λ b. are_apart (kinds_of b) route_kinds) is ∙ other) in
    let same = channels-kept configs log e n (ap (registers_at configs n) is ∙ none) in
    record {
      holds = subst (Holds (mailbox_size_at configs n) (rebound r desk names))
          (ap (λ k. filter (stays (row_goes row)) (live log) ++ placed k 0 row.puts) (sym at) ∙ sym (live-append log e)) h;
      routes_are = s.routes_are ∙ sym quiet.routes_stay;
      told = s.told ∙ sym quiet.subscribers_stay;
      registered = s.registered ∙ ap (map (λ (c : ℕ × ℕ). c.0)) (sym same);
      bound = up;
      places = subst (λ k. HasPlaces k desk.binding) (ap (λ l. mailbox_size_at configs n + sum_capacities l) (sym same)) places;
      ended = ended_beside log e n r.peers r.actor.links (λ conn. ends_none-act log e n conn a is (no_half conn)) s.ended;
      works = s.works;
      indexed = s.indexed;
    }
