-- What acts make of the router of a node.
use Rattle.std.proofs.Common.{◌≡◌, ℕ, Bool, true, false, cond, List, [], ◌∷◌, ◌++◌, length, refl, ap, sym, subst, ◌∙◌, arith, eqb-true, Option, Some, None}
use Rattle.std.specs.Prelude.{◌==◌, ◌||◌, ◌&&◌, IsTrue, if◌then◌else◌}
use Rattle.std.specs.BTreeMap as tree
use Rattle.std.specs.BTreeMap.{BTreeMap}
use Rattle.std.specs.Ordering.{nat_cmp, is_eq}
use Rattle.std.proofs.lemmas.Bool.{false≢true}
use Rattle.std.proofs.lemmas.Bool.Decides.{nat_tests}
use Rattle.std.proofs.lemmas.Option.{same_Some}
use Rattle.p2p_log_rules.proofs.Bools.{or_false, or_true}
use Rattle.p2p_base.specs.declared.key.Key.{Key}
use Rattle.p2p_log.specs.declared.config.Config.{Config}
use Rattle.p2p_log.specs.declared.entry.Entry.{Entry}
use Rattle.p2p_log.specs.declared.event.Act.{Act}
use Rattle.p2p_log.specs.declared.event.Act.TheVariants as act
use Rattle.p2p_log_rules.specs.Connections.{is_done, begins_connection, is_begun, ends_connection, is_ended, live_connection}
use Rattle.p2p_log_rules.specs.Facts.{is_up, taken, with_begun}
use Rattle.p2p_log_rules.specs.Spawning.{Spawned, spawned_of, connections_of}
use Rattle.p2p_log_rules.proofs.Connections.{may_end, steps_sender, begins_act, is_begun-append, is_ended-append, live_connection-kept, ends_none-act}
use Rattle.p2p_log_rules.proofs.Spawning.{connections_of-acted, connections_of-unmade}
use Rattle.p2p_log_laws.specs.Leading.{ConnectionsAreOne}
use Rattle.p2p_router.specs.Messenger.{is_bound, is_unbound}
use Rattle.p2p_router.specs.declared.messenger.Binding.{Binding}
use Rattle.p2p_router.specs.declared.messenger.Binding.TheVariants.{Unbound, Bound, Closed}
use Rattle.p2p_net_router.specs.Holds.{IsStranger}
use Rattle.p2p_net_router.specs.Stands.{StandsFor, HasPlaces, IsBeside}
use Rattle.p2p_net_router.specs.declared.router.Router.{Router}
use Rattle.p2p_net_router.proofs.Aside.{stands_idle}
use Rattle.p2p_net_node.specs.Stands.{key_heard, HearsOfBegun, RouterStands}
use Rattle.p2p_log_rules.proofs.Steps.{steps_spawner}

-- ---- what a router knows of connections

-- what it is to know of them is after an entry what it was
abbrev pub HearsTheSame : List Entry → Entry → ℕ → Type 0
HearsTheSame log e n = (conn : ℕ) → key_heard (is_begun (log ++ e ∷ []) n conn) (live_connection (log ++ e ∷ []) n conn) ≡ key_heard (is_begun log n conn) (live_connection log n conn)

pub HearsOfBegun-more : (log : List Entry) (e : Entry) (n : ℕ) (peers : BTreeMap ℕ Key) → HearsTheSame log e n → HearsOfBegun log n peers → HearsOfBegun (log ++ e ∷ []) n peers
HearsOfBegun-more log e n peers same h conn = h conn ∙ sym (same conn)

begun_kept : (log : List Entry) (e : Entry) (n conn : ℕ) → begins_connection n conn log e ≡ false → is_begun (log ++ e ∷ []) n conn ≡ is_begun log n conn
begun_kept log e n conn idle = is_begun-append log e n conn ∙ (ap (λ b. is_begun log n conn || b) idle ∙ or_false (is_begun log n conn))

-- an entry that ends and makes no connection, after which those have begun that had before
hears_same : (log : List Entry) (e : Entry) (n : ℕ) → ((conn : ℕ) → is_begun (log ++ e ∷ []) n conn ≡ is_begun log n conn) → ((conn : ℕ) → ends_connection n conn log e ≡ false)
    → ((conn : ℕ) → connections_of (log ++ e ∷ []) n conn ≡ connections_of log n conn) → HearsTheSame log e n
hears_same log e n begun lives made conn =
    ap (λ b. key_heard b (live_connection (log ++ e ∷ []) n conn)) (begun conn)
    ∙ ap (key_heard (is_begun log n conn)) (live_connection-kept log e n conn (lives conn) (made conn))

-- one that begins, ends and makes none
pub hears_kept : (log : List Entry) (e : Entry) (n : ℕ) → ((conn : ℕ) → begins_connection n conn log e ≡ false) → ((conn : ℕ) → ends_connection n conn log e ≡ false)
    → ((conn : ℕ) → connections_of (log ++ e ∷ []) n conn ≡ connections_of log n conn) → HearsTheSame log e n
hears_kept log e n idle = hears_same log e n (λ conn. begun_kept log e n conn (idle conn))

-- or one of a connection that has begun before
pub hears_again : (log : List Entry) (e : Entry) (n conn : ℕ) → is_begun log n conn ≡ true → ((c : ℕ) → (c == conn) ≡ false → begins_connection n c log e ≡ false) → ((c : ℕ) → ends_connection n c log e ≡ false)
    → ((c : ℕ) → connections_of (log ++ e ∷ []) n c ≡ connections_of log n c) → HearsTheSame log e n
hears_again log e n conn begun others = hears_same log e n (λ c. by c (c == conn) refl)
  where
    by : (c : ℕ) (b : Bool) → (c == conn) ≡ b → is_begun (log ++ e ∷ []) n c ≡ is_begun log n c
    by c true same =
        let before : is_begun log n c ≡ true = ap (is_begun log n) (eqb-true c conn same) ∙ begun in
        is_begun-append log e n c ∙ (ap (λ b. b || begins_connection n c log e) before ∙ sym before)
    by c false other = begun_kept log e n c (others c other)

-- by its act: whether that is no step of a half, and none of a spawner, and stops no node
abbrev pub is_aside : Act → Bool
is_aside (act.SendStep conn n) = false
is_aside (act.RecvStep conn n) = false
is_aside (act.Spawner n) = false
is_aside (act.Stop by_start n) = false
is_aside _ = true

aside_steps : (n conn : ℕ) (a : Act) → is_aside a ≡ true → steps_sender n conn a ≡ false
aside_steps n conn (act.SendStep d m) h = cc
aside_steps n conn _ h = refl

aside_halves : (n conn : ℕ) (a : Act) → is_aside a ≡ true → may_end n conn a ≡ false
aside_halves n conn (act.SendStep d m) h = cc
aside_halves n conn (act.RecvStep d m) h = cc
aside_halves n conn (act.Stop by_start m) h = cc
aside_halves n conn _ h = refl

aside_spawns : (n : ℕ) (a : Act) → is_aside a ≡ true → steps_spawner n a ≡ false
aside_spawns n (act.Spawner m) h = cc
aside_spawns n _ h = refl

pub hears_aside : (log : List Entry) (e : Entry) (n : ℕ) (a : Act) → e.event.act ≡ a → is_aside a ≡ true → HearsTheSame log e n
hears_aside log e n a acts h =
    hears_kept log e n (λ conn. begins_act log e n conn a acts ∙ ap (λ b. b && is_done e.reply) (aside_steps n conn a h))
    (λ conn. ends_none-act log e n conn a acts (aside_halves n conn a h)) (λ conn. connections_of-unmade log e n (ap (steps_spawner n) acts ∙ aside_spawns n a h) conn)

pub unheard : (b : Bool) (o : Option Spawned) → b ≡ false → key_heard b o ≡ None
unheard false o h = refl
unheard true o h = absurd (false≢true (sym h))

nobody : (b : Bool) → key_heard b None ≡ None
nobody true = refl
nobody false = refl

-- an entry of a name that has not begun, which begins and ends no connection
pub hears_late : (log : List Entry) (e : Entry) (n : ℕ) → ((conn : ℕ) → begins_connection n conn log e ≡ false) → ((conn : ℕ) → ends_connection n conn log e ≡ false)
    → is_begun log n (length log) ≡ false → HearsTheSame log e n
hears_late log e n idle lives fresh conn =
    ap (λ b. key_heard b (live_connection (log ++ e ∷ []) n conn)) (begun_kept log e n conn (idle conn)) ∙ by_name (conn == length log) refl
  where
    begun : Bool
    begun = is_begun log n conn

    unmade : (o : Option Spawned) (b : Bool) → (conn == length log) ≡ false → cond b (with_begun o (length log) (connections_of log n) conn) (connections_of log n conn) ≡ connections_of log n conn
    unmade None true other = refl
    unmade (Some c) true other = ap (λ t. cond t (Some c) (connections_of log n conn)) other
    unmade o false other = refl

    by_name : (b : Bool) → (conn == length log) ≡ b → key_heard begun (live_connection (log ++ e ∷ []) n conn) ≡ key_heard begun (live_connection log n conn)
    by_name true here =
        let none : begun ≡ false = ap (is_begun log n) (eqb-true conn (length log) here) ∙ fresh in
        unheard begun (live_connection (log ++ e ∷ []) n conn) none ∙ sym (unheard begun (live_connection log n conn) none)
    by_name false other =
        ap (key_heard begun)
        (live_connection-kept log e n conn (lives conn)
        (connections_of-acted log e n (steps_spawner n e.event.act) refl conn ∙ unmade (spawned_of (taken log e)) (steps_spawner n e.event.act) other))

-- ---- one of them begins or ends

here : (conn k : ℕ) → is_eq (nat_cmp conn k) ≡ true → conn ≡ k
here conn k is = grind (arith, nat_tests)

there : (conn k : ℕ) → is_eq (nat_cmp conn k) ≡ (k == conn)
there conn k = grind (arith, nat_tests)

-- one of its connections begins, which has not ended
pub HearsOfBegun-told : (log : List Entry) (e : Entry) (n conn : ℕ) (c : Spawned) (old new : BTreeMap ℕ Key) → HearsOfBegun log n old
    → ((k : ℕ) → tree.get nat_cmp new k ≡ cond (is_eq (nat_cmp conn k)) (Some c.key) (tree.get nat_cmp old k))
    → live_connection log n conn ≡ Some c → ((k : ℕ) → begins_connection n k log e ≡ (k == conn)) → ((k : ℕ) → ends_connection n k log e ≡ false)
    → ((k : ℕ) → connections_of (log ++ e ∷ []) n k ≡ connections_of log n k) → HearsOfBegun (log ++ e ∷ []) n new
HearsOfBegun-told log e n conn c old new h step alive starts lives made k = step k ∙ by (is_eq (nat_cmp conn k)) refl
  where
    now : Option Key
    now = key_heard (is_begun (log ++ e ∷ []) n k) (live_connection (log ++ e ∷ []) n k)

    lives_on : live_connection (log ++ e ∷ []) n k ≡ live_connection log n k
    lives_on = live_connection-kept log e n k (lives k) (made k)

    by : (b : Bool) → is_eq (nat_cmp conn k) ≡ b → cond b (Some c.key) (tree.get nat_cmp old k) ≡ now
    by true is =
        sym (ap (λ b. key_heard b (live_connection (log ++ e ∷ []) n k)) (is_begun-append log e n k ∙ (ap (λ b. is_begun log n k || b) (starts k ∙ (sym (there conn k) ∙ is)) ∙ or_true (is_begun log n k)))
        ∙ ap (key_heard true) (lives_on ∙ (ap (live_connection log n) (sym (here conn k is)) ∙ alive)))
    by false is =
        h k
        ∙ sym (ap (λ b. key_heard b (live_connection (log ++ e ∷ []) n k)) (begun_kept log e n k (starts k ∙ (sym (there conn k) ∙ is)))
        ∙ ap (key_heard (is_begun log n k)) lives_on)

-- one of them ends, and none begins or is made
pub HearsOfBegun-ended : (log : List Entry) (e : Entry) (n conn : ℕ) (old new : BTreeMap ℕ Key) → HearsOfBegun log n old
    → ((k : ℕ) → tree.get nat_cmp new k ≡ (if is_eq (nat_cmp conn k) then None else tree.get nat_cmp old k))
    → ((k : ℕ) → ends_connection n k log e ≡ (k == conn)) → ((k : ℕ) → begins_connection n k log e ≡ false)
    → ((k : ℕ) → connections_of (log ++ e ∷ []) n k ≡ connections_of log n k) → HearsOfBegun (log ++ e ∷ []) n new
HearsOfBegun-ended log e n conn old new h step ends idle made k =
    step k ∙ (by (is_eq (nat_cmp conn k)) refl ∙ sym (ap (λ b. key_heard b (live_connection (log ++ e ∷ []) n k)) (begun_kept log e n k (idle k))))
  where
    begun : Bool
    begun = is_begun log n k

    ended : (b : Bool) → is_eq (nat_cmp conn k) ≡ b → is_ended (log ++ e ∷ []) n k ≡ (is_ended log n k || b)
    ended b is = is_ended-append log e n k ∙ ap (λ t. is_ended log n k || t) (ends k ∙ (sym (there conn k) ∙ is))

    by : (b : Bool) → is_eq (nat_cmp conn k) ≡ b → (if b then None else tree.get nat_cmp old k) ≡ key_heard begun (live_connection (log ++ e ∷ []) n k)
    by true is = sym (ap (λ t. key_heard begun (cond t None (connections_of (log ++ e ∷ []) n k))) (ended true is ∙ or_true (is_ended log n k)) ∙ nobody begun)
    by false is =
        h k
        ∙ sym (ap (λ t. key_heard begun (cond t None (connections_of (log ++ e ∷ []) n k))) (ended false is ∙ or_false (is_ended log n k))
        ∙ ap (λ o. key_heard begun (cond (is_ended log n k) None o)) (made k))

-- a connection that a router knows has begun and has not ended, and has this key
record Heard (log : List Entry) (n conn : ℕ) (key : Key) : Type 0 where
  connection : Spawned
  lives : live_connection log n conn ≡ Some connection
  with_key : connection.key ≡ key
  begun : is_begun log n conn ≡ true

heard_of : (log : List Entry) (n conn : ℕ) (key : Key) (b : Bool) (o : Option Spawned) → is_begun log n conn ≡ b → live_connection log n conn ≡ o → key_heard b o ≡ Some key → Heard log n conn key
heard_of log n conn key true (Some c) begun lives is = record { connection = c; lives = lives; with_key = same_Some c.key key is; begun = begun }
heard_of log n conn key true None begun lives is = absurd (cc)
heard_of log n conn key false o begun lives is = absurd (let none : key_heard false o ≡ None = unheard false o refl in cc)

-- one that has not begun is a stranger to it, where a node has one connection with a key
pub IsStranger-unbegun : (log : List Entry) (n conn : ℕ) (c : Spawned) (router : Router) → HearsOfBegun log n router.peers → ConnectionsAreOne log
    → live_connection log n conn ≡ Some c → is_begun log n conn ≡ false → IsStranger router conn c.key
IsStranger-unbegun log n conn c router hears one alive idle = record {
  no_conn = hears conn ∙ unheard (is_begun log n conn) (live_connection log n conn) idle;
  no_key = λ k same.
      let told : Heard log n k c.key = heard_of log n k c.key (is_begun log n k) (live_connection log n k) refl refl (sym (hears k) ∙ same) in
      let alike : k ≡ conn = one.alive n k conn told.connection c told.lives alive told.with_key in
      false≢true (sym idle ∙ (ap (is_begun log n) (sym alike) ∙ told.begun));
}

-- ---- the router of a node

pub RouterStands-moved :
    (configs : List Config) (log : List Entry) (e : Entry) (n : ℕ) (old new : Router) → RouterStands configs log n old → HearsTheSame log e n
    → StandsFor configs (log ++ e ∷ []) new → new.number ≡ old.number → new.peers ≡ old.peers → RouterStands configs (log ++ e ∷ []) n new
RouterStands-moved configs log e n old new h same stands number peers = record {
  number = number ∙ h.number;
  stands = stands;
  hears = subst (HearsOfBegun (log ++ e ∷ []) n) (sym peers) (HearsOfBegun-more log e n old.peers same h.hears);
}

-- an entry that moves nothing
pub RouterStands-idle :
    (configs : List Config) (log : List Entry) (e : Entry) (n : ℕ) (router : Router) → IsBeside configs log e n → HearsTheSame log e n → e.takes ≡ [] → e.puts ≡ [] → e.ends ≡ []
    → RouterStands configs log n router → RouterStands configs (log ++ e ∷ []) n router
RouterStands-idle configs log e n router b same takes puts ends h =
    RouterStands-moved configs log e n router router h same
    (stands_idle configs log e router h.stands (subst (IsBeside configs log e) (sym h.number) b) takes puts ends) refl refl

-- ---- mailboxes

unbound_by : (places : ℕ) (b : Binding Key) → HasPlaces places b → is_bound b ≡ false → IsTrue (is_unbound b)
unbound_by places Unbound h off = refl
unbound_by places (Bound q) h off = absurd (false≢true (sym off))
unbound_by places Closed h off = absurd h

bound_by : (b : Binding Key) → is_bound b ≡ true → IsTrue (is_bound b)
bound_by Unbound on = absurd (false≢true on)
bound_by (Bound q) on = refl
bound_by Closed on = absurd (false≢true on)

-- the router of a node that was not started has no mailbox
pub is_unbound-before : (configs : List Config) (log : List Entry) (n : ℕ) (router : Router) → RouterStands configs log n router → is_up log n ≡ false → IsTrue (is_unbound router.messenger.binding)
is_unbound-before configs log n router h off =
    unbound_by _ router.messenger.binding h.stands.places (h.stands.bound ∙ (ap (is_up log) h.number ∙ off))

-- that of a started one has one
pub is_bound-after : (configs : List Config) (log : List Entry) (n : ℕ) (router : Router) → RouterStands configs log n router → is_up log n ≡ true → IsTrue (is_bound router.messenger.binding)
is_bound-after configs log n router h on = bound_by router.messenger.binding (h.stands.bound ∙ (ap (is_up log) h.number ∙ on))
