-- A router stands for the log with one more entry that leaves its queues alone.
use Rattle.std.proofs.Common.{◌≡◌, ℕ, true, false, List, [], ◌∷◌, ◌++◌, length, refl, ap, ◌∙◌, append-nil}
use Rattle.std.specs.Prelude.{filter, flat_map}
use Rattle.std.specs.List.{AllByRecursion}
use Rattle.p2p_log.specs.declared.config.Config.{Config}
use Rattle.p2p_log.specs.declared.entry.Entry.{Entry}
use Rattle.p2p_log.specs.declared.queue.Queue.{Queue}
use Rattle.p2p_log.specs.declared.queue.Queue.TheVariants as queue
use Rattle.p2p_log.specs.declared.item.Item.{Item}
use Rattle.p2p_log.specs.declared.item.Envelope.{Envelope}
use Rattle.p2p_log.specs.QueueCode.{same_queue}
use Rattle.p2p_log.specs.Lines.{name_of, ended_item, goes, stays, live, stands_in, line}
use Rattle.p2p_log_rules.specs.Effect.{takes_oldest}
use Rattle.p2p_log_rules.proofs.Touches.{away}
use Rattle.p2p_log.specs.Apart.{AreApart}
use Rattle.p2p_log.proofs.Lines.{live-append, filter_stays-nil}
use Rattle.p2p_log.proofs.Names.{AreApart-live_from}
use Rattle.p2p_log.proofs.Queues.{same_queue-sym}
use Rattle.p2p_net_router.specs.Names.{is_routers}
use Rattle.p2p_net_router.specs.Stands.{StandsFor, IsBeside, AreAway}
use Rattle.p2p_net_router.specs.declared.router.Router.{Router}
use Rattle.p2p_net_router.proofs.Beside.{LinesStay, stands_beside, filter-away, filter-first_away}

-- ---- queues that are not a router's

-- another queue is none of the router's
pub same_queue-other : (n : ℕ) (p q : Queue) → is_routers n p ≡ false → is_routers n q ≡ true → same_queue p q ≡ false
same_queue-other n p q other own = away (is_routers n) p q other own

-- none of these puts goes to a queue of the node's router
abbrev pub AreOthers : ℕ → List (Queue × Item) → Type 0
AreOthers n puts = AllByRecursion (λ (x : Queue × Item). is_routers n x.0 ≡ false) puts

pub AreAway-others : (n : ℕ) (q : Queue) (puts : List (Queue × Item)) → is_routers n q ≡ true → AreOthers n puts → AreAway q puts
AreAway-others n q [] own h = tt
AreAway-others n q (x ∷ xs) own h = (same_queue-sym q x.0 ∙ same_queue-other n x.0 q h.0 own, AreAway-others n q xs own h.1)

-- ---- what goes

-- of the queues of a node's router none of these names goes
abbrev pub GoBeside : ℕ → List Envelope → List (ℕ × ℕ) → Type 0
GoBeside n items gone = (q : Queue) → is_routers n q ≡ true → filter (stands_in q) (filter (stays gone) items) ≡ filter (stands_in q) items

pub go_none : (n : ℕ) (items : List Envelope) → GoBeside n items []
go_none n items = λ q own. ap (filter (stands_in q)) (filter_stays-nil items)

-- the first of another queue goes
pub go_first :
    (n : ℕ) (p : Queue) (items : List Envelope) (x : Envelope) (rest : List Envelope)
    → is_routers n p ≡ false → AreApart items → filter (stands_in p) items ≡ x ∷ rest → GoBeside n items (name_of x ∷ [])
go_first n p items x rest other apart first = λ q own. filter-first_away q p items x rest apart first (same_queue-other n p q other own)

pub go_begun :
    (n : ℕ) (p : Queue) (items l : List Envelope) → is_routers n p ≡ false → AreApart items → filter (stands_in p) items ≡ l → GoBeside n items (takes_oldest l).takes
go_begun n p items [] other apart first = go_none n items
go_begun n p items (x ∷ rest) other apart first = go_first n p items x rest other apart first

-- a line of which nothing is put is what does not go
pub line_after :
    (log : List Entry) (e : Entry) (gone : List (ℕ × ℕ)) (q : Queue)
    → goes e ≡ gone → AreAway q e.puts → filter (stands_in q) (live (log ++ e ∷ [])) ≡ filter (stands_in q) (filter (stays gone) (live log))
line_after log e gone q is away =
    ap (filter (stands_in q)) (live-append log e)
    ∙ (filter-away q (filter (stays (goes e)) (live log)) (length log) 0 e.puts away ∙ ap (λ g. filter (stands_in q) (filter (stays g) (live log))) is)

pub lines_stay :
    (log : List Entry) (e : Entry) (n : ℕ) (gone : List (ℕ × ℕ)) → goes e ≡ gone → GoBeside n (live log) gone → AreOthers n e.puts → LinesStay log e n
lines_stay log e n gone is beside others = λ q own. line_after log e gone q is (AreAway-others n q e.puts own others) ∙ beside q own

-- ---- entries of the other actors of a node

pub takes_alone : (e : Entry) (takes : List (ℕ × ℕ)) → e.takes ≡ takes → flat_map ended_item e.ends ≡ [] → goes e ≡ takes
takes_alone e takes is none = ap (λ l. e.takes ++ l) none ∙ (append-nil e.takes ∙ is)

puts_none : (n : ℕ) (puts : List (Queue × Item)) → puts ≡ [] → AreOthers n puts
puts_none n [] e = tt
puts_none n (x ∷ xs) e = cc

-- an entry that ends no items but copies, and moves nothing
pub stands_ended :
    (configs : List Config) (log : List Entry) (e : Entry) (r : Router)
    → StandsFor configs log r → IsBeside configs log e r.number → e.takes ≡ [] → e.puts ≡ [] → flat_map ended_item e.ends ≡ []
    → StandsFor configs (log ++ e ∷ []) r
stands_ended configs log e r s b takes puts none =
    stands_beside configs log e r s b
    (lines_stay log e r.number [] (takes_alone e [] takes none) (go_none r.number (live log)) (puts_none r.number e.puts puts))

-- an entry that moves nothing
pub stands_idle :
    (configs : List Config) (log : List Entry) (e : Entry) (r : Router)
    → StandsFor configs log r → IsBeside configs log e r.number → e.takes ≡ [] → e.puts ≡ [] → e.ends ≡ []
    → StandsFor configs (log ++ e ∷ []) r
stands_idle configs log e r s b takes puts ends = stands_ended configs log e r s b takes puts (ap (flat_map ended_item) ends)

-- what stands in a queue, by its line
pub line_is : (log : List Entry) (q : Queue) → filter (stands_in q) (live log) ≡ line log q
unfolding line
line_is log q = refl

-- an entry that takes the router's answer to a connection
pub stands_begun :
    (configs : List Config) (log : List Entry) (e : Entry) (r : Router) (conn m : ℕ)
    → StandsFor configs log r → IsBeside configs log e r.number
    → e.takes ≡ (takes_oldest (line log (queue.RouterAnswer m conn))).takes → e.puts ≡ [] → e.ends ≡ []
    → StandsFor configs (log ++ e ∷ []) r
stands_begun configs log e r conn m s b takes puts ends =
    let l = line log (queue.RouterAnswer m conn) in
    stands_beside configs log e r s b
    (lines_stay log e r.number (takes_oldest l).takes (takes_alone e (takes_oldest l).takes takes (ap (flat_map ended_item) ends))
    (go_begun r.number (queue.RouterAnswer m conn) (live log) l refl (AreApart-live_from 0 log) (line_is log (queue.RouterAnswer m conn)))
    (puts_none r.number e.puts puts))
