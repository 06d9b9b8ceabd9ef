-- A router with other items in its queues than those of the log.
use Rattle.std.proofs.Common.{◌≡◌, ℕ, Bool, true, false, List, [], ◌∷◌, ◌++◌, length, refl, ap, sym, subst, ◌∙◌}
use Rattle.std.specs.Prelude.{filter, flat_map}
use Rattle.p2p_base.specs.declared.key.Key.{Key}
use Rattle.p2p_router.specs.Messenger.{Desk, is_bound}
use Rattle.p2p_log.specs.declared.config.Config.{Config}
use Rattle.p2p_log.specs.declared.entry.Entry.{Entry}
use Rattle.p2p_log.specs.declared.entry.Reply.{Reply}
use Rattle.p2p_log.specs.declared.event.Event.{Event}
use Rattle.p2p_log.specs.declared.queue.Queue.{Queue}
use Rattle.p2p_log.specs.declared.item.Envelope.{Envelope}
use Rattle.p2p_log.specs.Lines.{ended_item, goes, stays, placed, live, stands_in}
use Rattle.p2p_log_rules.specs.declared.row.Row.{Row}
use Rattle.p2p_log_rules.specs.Effect.{entry_of, mailbox_size_at, sent_row, taking}
use Rattle.p2p_log.proofs.Lines.{live-append, filter_stays-append}
use Rattle.p2p_net_queues.specs.declared.board.Board.{Board}
use Rattle.p2p_net_router.specs.Names.{is_routers}
use Rattle.p2p_net_router.specs.Holds.{Holds, after}
use Rattle.p2p_net_router.specs.Stands.{StandsOver, StandsFor, HasPlaces, IsBeside, AreAway}
use Rattle.p2p_net_router.specs.declared.router.Router.{Router}
use Rattle.p2p_net_router.specs.declared.name.Name.{Name}
use Rattle.p2p_net_router.proofs.Aside.{line_after}
use Rattle.p2p_net_router.proofs.Beside.{holds_same, stands_moved}
use Rattle.p2p_net_router.proofs.Kept.{rebound}

-- the router has other items that are the same in its queues
pub over_same :
    (configs : List Config) (log : List Entry) (r : Router) (items more : List Envelope)
    → StandsOver configs log r items → ((q : Queue) → is_routers r.number q ≡ true → filter (stands_in q) more ≡ filter (stands_in q) items) → StandsOver configs log r more
over_same configs log r items more s lines = record {
  holds = holds_same (mailbox_size_at configs r.number) r items more s.holds lines;
  routes_are = s.routes_are;
  told = s.told;
  registered = s.registered;
  bound = s.bound;
  places = s.places;
  ended = s.ended;
  works = s.works;
  indexed = s.indexed;
}

-- the router stands for the log with an entry that leaves these items in its queues
pub over_beside :
    (configs : List Config) (log : List Entry) (e : Entry) (r : Router) (items : List Envelope)
    → StandsOver configs log r items → IsBeside configs log e r.number
    → ((q : Queue) → is_routers r.number q ≡ true → filter (stands_in q) (live (log ++ e ∷ [])) ≡ filter (stands_in q) items)
    → StandsFor configs (log ++ e ∷ []) r
over_beside configs log e r items s b lines =
    stands_moved configs log e r r.messenger r.actor r.peers r.names items s b refl refl refl refl refl (λ k h. h) s.ended
    (holds_same (mailbox_size_at configs r.number) r items (live (log ++ e ∷ [])) s.holds lines)

-- where these go by the entry, which puts nothing
pub over_gone :
    (configs : List Config) (log : List Entry) (e : Entry) (r : Router) (gone : List (ℕ × ℕ))
    → StandsOver configs log r (filter (stays gone) (live log)) → IsBeside configs log e r.number → goes e ≡ gone → e.puts ≡ []
    → StandsFor configs (log ++ e ∷ []) r
over_gone configs log e r gone s b is none =
    over_beside configs log e r (filter (stays gone) (live log)) s b (λ q own. line_after log e gone q is (subst (AreAway q) (sym none) tt))

-- where the entry takes these, and does what a row does
pub over_taking :
    (configs : List Config) (log : List Entry) (event : Event) (r : Router) (names : List (ℕ × ℕ)) (row : Row)
    → StandsOver configs log r (after (length log) row (filter (stays names) (live log))) → IsBeside configs log (entry_of event (taking names row)) r.number → row.takes ≡ []
    → StandsFor configs (log ++ entry_of event (taking names row) ∷ []) r
over_taking configs log event r names row s b none =
    let e = entry_of event (taking names row) in
    let ended = flat_map ended_item row.ends in
    let whole : live (log ++ e ∷ []) ≡ after (length log) row (filter (stays names) (live log)) =
    live-append log e
    ∙ ap (λ l. l ++ placed (length log) 0 row.puts)
    (filter_stays-append names ended (live log) ∙ ap (λ t. filter (stays (t ++ ended)) (filter (stays names) (live log))) (sym none))
    in
    over_beside configs log e r (after (length log) row (filter (stays names) (live log))) s b (λ q own. ap (filter (stands_in q)) whole)

-- a message takes nothing
pub sent_takes :
    (accepted refused : Reply) (up full : Bool) (n send c : ℕ) (priority : Bool) (frame : List ℕ) (to : List Key)
    → (sent_row accepted refused up full n send c priority frame to).takes ≡ []
sent_takes accepted refused false full n send c priority frame to = refl
sent_takes accepted refused true true n send c priority frame to = refl
sent_takes accepted refused true false n send c priority frame to = refl

-- the router with another mailbox and other names, over other items
pub over_rebound :
    (configs : List Config) (log : List Entry) (r : Router) (desk : Desk Key) (names : Board Name) (items more : List Envelope)
    → StandsOver configs log r items → is_bound desk.binding ≡ is_bound r.messenger.binding → ((k : ℕ) → HasPlaces k r.messenger.binding → HasPlaces k desk.binding)
    → Holds (mailbox_size_at configs r.number) (rebound r desk names) more → StandsOver configs log (rebound r desk names) more
over_rebound configs log r desk names items more s bound places h = record {
  holds = h;
  routes_are = s.routes_are;
  told = s.told;
  registered = s.registered;
  bound = bound ∙ s.bound;
  places = places _ s.places;
  ended = s.ended;
  works = s.works;
  indexed = s.indexed;
}
