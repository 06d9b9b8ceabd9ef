-- Every step, as the log has it.
use Rattle.std.proofs.Common.{◌≡◌, ℕ, false, List, [], ◌∷◌, ◌++◌, length, refl, ap, sym, subst, ◌∙◌}
use Rattle.std.specs.List.Sorted.{IsStrictlySortedBy}
use Rattle.std.specs.Map.{keys_of}
use Rattle.p2p_base.specs.declared.key.Key.{Key}
use Rattle.p2p_router.specs.Connections.{IsIndexed, IsOfOnePeer}
use Rattle.p2p_router.specs.Routes.{Routes}
use Rattle.p2p_router.specs.Messenger.{Desk, message_waiting}
use Rattle.p2p_router.specs.Step.{stepped_on, routes_on, desk_on}
use Rattle.p2p_router.specs.declared.stepped.Stepped.{Stepped}
use Rattle.p2p_router.specs.declared.stepped.Stepped.TheVariants as stepped
use Rattle.p2p_log.specs.declared.config.Config.{Config}
use Rattle.p2p_log.specs.declared.queue.Queue.{Queue}
use Rattle.p2p_log.specs.declared.queue.Queue.TheVariants as queue
use Rattle.p2p_log.specs.declared.item.Envelope.{Envelope}
use Rattle.p2p_log.specs.declared.entry.Entry.{Entry}
use Rattle.p2p_log.specs.declared.entry.Reply.TheVariants as reply
use Rattle.p2p_log_rules.specs.declared.row.Row.{Row}
use Rattle.p2p_log.specs.declared.event.Event.{Event}
use Rattle.p2p_log.specs.declared.event.Act.TheVariants as act
use Rattle.p2p_log.specs.Lines.{live, line}
use Rattle.p2p_log_rules.specs.Effect.{only, entry_of, route_oldest}
use Rattle.p2p_net_queues.specs.declared.board.Board.{Board}
use Rattle.p2p_net_queues.specs.Board.{held}
use Rattle.p2p_net_router.specs.Names.{Agrees, label, is_routers}
use Rattle.p2p_net_router.specs.Items.{key_cmp}
use Rattle.p2p_net_router.specs.Holds.{after, Adds}
use Rattle.p2p_net_router.specs.Oldest.{IsOldest}
use Rattle.p2p_net_router.specs.Stands.{StandsFor}
use Rattle.p2p_net_router.specs.Stepped.{stepped_row, IsNoted}
use Rattle.p2p_net_router.specs.declared.router.Router.{Router}
use Rattle.p2p_net_router.specs.declared.name.Name.{Name}
use Rattle.p2p_net_router.proofs.Answered.{was_idle}
use Rattle.p2p_net_router.proofs.Contents.{routed_content}
use Rattle.p2p_net_router.proofs.OnePeer.{indexed_stepped}
use Rattle.p2p_net_router.proofs.Others.{idle_adds}
use Rattle.p2p_net_router.proofs.Routed.{IsRouted, routed_row, routed_stands}
use Rattle.p2p_net_router.proofs.Released.{routed_release}
use Rattle.p2p_net_router.proofs.Steps.{routed_ready, routed_subscription, idle_row, idle_stepped}
use Rattle.p2p_net_router.proofs.Told.{stepped_to}

-- what a step comes to, whatever it took
pub record IsStepped (configs : List Config) (log : List Entry) (entry : ℕ) (old : Router) (desk : Desk Key) (actor : Routes Key) (names : Board Name) (row : Row) : Type 0 where
  pub row_is : row ≡ route_oldest configs log old.number (line log (queue.Router old.number))
  pub adds : (q : Queue) → is_routers old.number q ≡ false → Adds entry row (live log) q
  pub stands : (event : Event) → length log ≡ entry → event.act ≡ act.Router old.number → StandsFor configs (log ++ entry_of event row ∷ []) (stepped_to old desk actor names)

by_route :
    (configs : List Config) (log : List Entry) (entry : ℕ) (old : Router) (desk : Desk Key) (actor : Routes Key) (names : Board Name) (row : Row)
    → StandsFor configs log old → IsIndexed key_cmp actor → IsRouted configs log entry old desk actor names row → IsStepped configs log entry old desk actor names row
by_route configs log entry old desk actor names row s indexed h = record {
  row_is = routed_row configs log entry old desk actor names row h;
  adds = h.adds;
  stands = λ event at is. routed_stands configs log entry event old desk actor names row s at is h indexed;
}

of_known :
    (configs : List Config) (log : List Entry) (entry : ℕ) (old : Router) (desk : Desk Key) (actor : Routes Key) (names : Board Name) (row : Row) (s : Stepped Key)
    → StandsFor configs log old → IsIndexed key_cmp actor → s ≡ stepped_on key_cmp old.actor old.messenger (message_waiting old.messenger)
    → actor ≡ routes_on key_cmp old.actor old.messenger (message_waiting old.messenger)
    → desk ≡ desk_on key_cmp old.actor old.messenger (message_waiting old.messenger)
    → (s ≡ stepped.Idle → (row ≡ only reply.Idle) × (names ≡ old.names))
    → ((items : List Envelope) (x : Envelope) (rest : List Envelope) → IsOldest old.number old.names items x rest → row ≡ stepped_row old.number old.channels.items s x items)
    → ((items : List Envelope) (x : Envelope) (rest : List Envelope) → IsOldest old.number old.names items x rest → Agrees old.number label (held names) (after entry row items))
    → IsStepped configs log entry old desk actor names row
of_known configs log entry old desk actor names row stepped.Idle stands indexed answered actor_is desk_is idle row_is names_are =
    let still = idle refl in
    record {
      row_is = still.0 ∙ sym (ap (route_oldest configs log old.number) (idle_row configs log old stands (was_idle old.actor old.messenger (message_waiting old.messenger) answered)));
      adds = λ q other. idle_adds entry row (live log) q still.0;
      stands = λ event at is.
          subst (λ (b : Board Name). StandsFor configs (log ++ entry_of event row ∷ []) (stepped_to old desk actor b)) (sym still.1)
          (idle_stepped configs log entry event old desk actor row stands is still.0 answered actor_is desk_is);
    }
of_known configs log entry old desk actor names row (stepped.Ready peer conn replaced told) stands indexed answered actor_is desk_is idle row_is names_are =
    by_route configs log entry old desk actor names row stands indexed (routed_ready configs log entry old desk actor names row peer conn replaced told stands answered actor_is desk_is row_is names_are)
of_known configs log entry old desk actor names row (stepped.Release peer told) stands indexed answered actor_is desk_is idle row_is names_are =
    by_route configs log entry old desk actor names row stands indexed (routed_release configs log entry old desk actor names row peer told stands answered actor_is desk_is row_is names_are)
of_known configs log entry old desk actor names row (stepped.Content encoded rs) stands indexed answered actor_is desk_is idle row_is names_are =
    by_route configs log entry old desk actor names row stands indexed (routed_content configs log entry old desk actor names row encoded rs stands answered actor_is desk_is row_is names_are)
of_known configs log entry old desk actor names row (stepped.SubscribePeers number told) stands indexed answered actor_is desk_is idle row_is names_are =
    by_route configs log entry old desk actor names row stands indexed (routed_subscription configs log entry old desk actor names row number told stands answered actor_is desk_is row_is names_are)

pub each_step :
    (configs : List Config) (log : List Entry) (entry : ℕ) (old : Router) (desk : Desk Key) (actor : Routes Key) (names : Board Name) (row : Row) (channels : List ℕ) (s : Stepped Key)
    → StandsFor configs log old → channels ≡ old.channels.items → s ≡ stepped_on key_cmp old.actor old.messenger (message_waiting old.messenger)
    → actor ≡ routes_on key_cmp old.actor old.messenger (message_waiting old.messenger)
    → desk ≡ desk_on key_cmp old.actor old.messenger (message_waiting old.messenger)
    → (IsStrictlySortedBy key_cmp (keys_of old.actor.links) → IsIndexed key_cmp old.actor → IsOfOnePeer key_cmp old.actor.links (message_waiting old.messenger) → IsIndexed key_cmp actor)
    → IsNoted old.number entry channels old.names names s row → IsStepped configs log entry old desk actor names row
each_step configs log entry old desk actor names row channels s stands same answered actor_is desk_is keeps noted =
    of_known configs log entry old desk actor names row s stands (indexed_stepped configs log old actor stands keeps) answered actor_is desk_is noted.idle
    (λ items x rest o. noted.row_is items x rest o ∙ ap (λ cs. stepped_row old.number cs s x items) same) noted.names
