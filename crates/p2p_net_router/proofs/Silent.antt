-- Of a connection to which its key's messages are routed the router took that it is ready.
use Rattle.std.proofs.Common.{◌≡◌, ℕ, Bool, true, false, cond, List, [], ◌∷◌, refl, ap, sym, subst, ◌∙◌, arith, Option, Some, None}
use Rattle.std.specs.Prelude.{filter, map, ◌==◌, ◌||◌}
use Rattle.std.specs.List.{list_any}
use Rattle.std.specs.BTreeMap.{BTreeMap, get}
use Rattle.std.specs.Ordering.{nat_cmp}
use Rattle.std.proofs.lemmas.Bool.Decides.{nat_tests}
use Rattle.std.proofs.lemmas.Bool.{false≢true}
use Rattle.std.proofs.lemmas.List.Folds.{list_any-append}
use Rattle.p2p_log_rules.proofs.Bools.{or_true}
use Rattle.p2p_base.specs.declared.key.Key.{Key}
use Rattle.p2p_router.specs.Routing.{link_of}
use Rattle.p2p_router.specs.declared.link.Link.{Link}
use Rattle.p2p_router.specs.declared.message.Message.{Message}
use Rattle.p2p_router.specs.declared.message.Message.TheVariants as message
use Rattle.p2p_log.specs.declared.config.Config.{Config}
use Rattle.p2p_log.specs.declared.entry.Entry.{Entry}
use Rattle.p2p_log.specs.declared.queue.Queue.TheVariants as queue
use Rattle.p2p_log.specs.declared.item.Envelope.{Envelope}
use Rattle.p2p_log.specs.Lines.{stands_in}
use Rattle.p2p_log_rules.specs.Connections.{is_ended}
use Rattle.p2p_log_rules.specs.Effect.{mailbox_size_at}
use Rattle.p2p_log_rules.specs.Facts.{routes, route_to}
use Rattle.p2p_net_router.specs.Ends.{AreEnded, readies, tells_ready}
use Rattle.p2p_net_router.specs.Items.{key_cmp, message_item, messages_in}
use Rattle.p2p_net_router.specs.Names.{bare_item}
use Rattle.p2p_net_router.specs.Sound.{IsAwaited, IsInTurn, says, said_of}
use Rattle.p2p_net_router.specs.Stands.{StandsOver}
use Rattle.p2p_net_router.specs.declared.router.Router.{Router}
use Rattle.p2p_net_router.proofs.Building.{own_peers as own_queue}
use Rattle.p2p_net_router.proofs.Idle.{names_conn, ready_bare}
use Rattle.p2p_net_router.proofs.Linking.{conn_in, route_to-link}
use Rattle.p2p_net_router.proofs.Turns.{IsLinked, open_link, spent_link, linked_as}

same_conn : (c : ℕ) → (c == c) ≡ true
same_conn c = grind (arith, nat_tests)

from_test : (c d : ℕ) → (d == c) ≡ true → d ≡ c
from_test c d h = grind (arith, nat_tests)

awaited_known :
    (peers : BTreeMap ℕ Key) (key : Key) (said : List (Option ℕ)) (c : ℕ) → IsAwaited peers key said → list_any (names_conn c) said ≡ true → get nat_cmp peers c ≡ Some key
awaited_known peers key [] c a h = absurd (false≢true h)
awaited_known peers key (Some d ∷ []) c a h =
    (elim (d == c) as (λ b. (d == c) ≡ b → (b || false) ≡ true → get nat_cmp peers c ≡ Some key) [
      | true ↦ λ t e. ap (get nat_cmp peers) (sym (from_test c d t)) ∙ a
      | false ↦ λ t e. absurd (false≢true e)
    ]) refl h
awaited_known peers key (Some d ∷ o ∷ said) c a h = absurd a
awaited_known peers key (None ∷ said) c a h = absurd a

-- a connection that is said to be ready is known by the key
said_known :
    (size : ℕ) (peers : BTreeMap ℕ Key) (key : Key) (o : Option Link) (said : List (Option ℕ)) (c : ℕ) → IsInTurn size peers key o said → list_any (names_conn c) said ≡ true
    → get nat_cmp peers c ≡ Some key
said_known size peers key None said c t h = awaited_known peers key said c t h
said_known size peers key (Some l) [] c t h = absurd (false≢true h)
said_known size peers key (Some l) (None ∷ said) c t h = awaited_known peers key said c t.1 h
said_known size peers key (Some l) (Some d ∷ said) c t h = absurd t

-- what is said later is said
said_later : (key : Key) (c : ℕ) (m : Message Key) (ms : List (Message Key)) → list_any (names_conn c) (said_of key ms) ≡ true → list_any (names_conn c) (said_of key (m ∷ ms)) ≡ true
said_later key c m ms h =
    list_any-append (names_conn c) (says key m) (said_of key ms) ∙ (ap (λ b. list_any (names_conn c) (says key m) || b) h ∙ or_true (list_any (names_conn c) (says key m)))

said_now : (key : Key) (c : ℕ) (m : Message Key) (ms : List (Message Key)) → list_any (names_conn c) (says key m) ≡ true → list_any (names_conn c) (said_of key (m ∷ ms)) ≡ true
said_now key c m ms h = list_any-append (names_conn c) (says key m) (said_of key ms) ∙ ap (λ b. b || list_any (names_conn c) (said_of key ms)) h

-- a message that tells that a connection is ready says so of a key
pub record SaysReady (conn : ℕ) (m : Message Key) : Type 0 where
  key : Key
  says_it : list_any (names_conn conn) (says key m) ≡ true

says_ready : (conn : ℕ) (channels : List ℕ) (m : Message Key) → readies conn (message_item channels m) ≡ true → SaysReady conn m
says_ready conn channels (message.Ready k relay c) h =
    record { key = k; says_it = ap (λ b. list_any (names_conn conn) (cond b (Some c ∷ []) [])) (same_conn k.0) ∙ ap (λ b. b || false) h }
says_ready conn channels (message.Release k) h = absurd (false≢true h)
says_ready conn channels (message.Content whom e b) h = absurd (false≢true h)
says_ready conn channels (message.SubscribePeers s) h = absurd (false≢true h)

-- no message tells that the connection of a key is ready, where each that is said to be is known, and of the key nothing is said
none_tells :
    (peers : BTreeMap ℕ Key) (key : Key) (conn : ℕ) (channels : List ℕ) (ms : List (Message Key)) → get nat_cmp peers conn ≡ Some key
    → ((k : Key) → list_any (names_conn conn) (said_of k ms) ≡ true → get nat_cmp peers conn ≡ Some k) → (list_any (names_conn conn) (said_of key ms) ≡ true → ⊥)
    → list_any (λ m. readies conn (message_item channels m)) ms ≡ false
none_tells peers key conn channels [] known all silent = refl
none_tells peers key conn channels (m ∷ ms) known all silent =
    (elim (readies conn (message_item channels m)) as (λ b. readies conn (message_item channels m) ≡ b → (b || list_any (λ n. readies conn (message_item channels n)) ms) ≡ false) [
      | true ↦ λ t.
          let r = says_ready conn channels m t in
          let said = said_now r.key conn m ms r.says_it in
          let same : Some r.key ≡ Some key = sym (all r.key said) ∙ known in
          let it : r.key ≡ key = cc in
          absurd (silent (subst (λ (k : Key). list_any (names_conn conn) (said_of k (m ∷ ms)) ≡ true) it said))
      | false ↦ λ t.
          none_tells peers key conn channels ms known (λ k h. all k (said_later k conn m ms h)) (λ h. silent (said_later key conn m ms h))
    ]) refl

-- the same of the items that they are
tells_same :
    (conn : ℕ) (channels : List ℕ) (ms : List (Message Key)) (line : List Envelope) → map (message_item channels) ms ≡ map bare_item line
    → list_any (tells_ready conn) line ≡ list_any (λ m. readies conn (message_item channels m)) ms
tells_same conn channels [] [] same = refl
tells_same conn channels [] (x ∷ xs) same = cc
tells_same conn channels (m ∷ ms) [] same = cc
tells_same conn channels (m ∷ ms) (x ∷ xs) same =
    let first : message_item channels m ≡ bare_item x = cc in
    let later : map (message_item channels) ms ≡ map bare_item xs = cc in
    ap (λ b. b || list_any (tells_ready conn) xs) (sym (ready_bare conn x.item) ∙ ap (readies conn) (sym first))
    ∙ ap (λ b. readies conn (message_item channels m) || b) (tells_same conn channels ms xs later)

-- a link whose connection is known is open, and nothing is said
silent_by :
    (size : ℕ) (ended : ℕ → Bool) (r : Router) (conn : ℕ) (key : Key) (l : Link) (said : List (Option ℕ))
    → AreEnded ended r.peers r.actor.links → get nat_cmp r.peers conn ≡ Some key → link_of key_cmp r.actor.links key ≡ Some l → l.conn ≡ conn → IsLinked size r.peers key l said → said ≡ []
silent_by size ended r conn key l said ends known at own (open_link lanes at_key silent) = silent
silent_by size ended r conn key l said ends known at own (spent_link spent) =
    absurd (false≢true (sym (ends.known conn key known) ∙ (ap ended (sym own) ∙ (sym (ends.relays key l at).high ∙ spent.high_closed))))

record HasConn (o : Option Link) (conn : ℕ) : Type 0 where
  link : Link
  linked : o ≡ Some link
  conn_is : link.conn ≡ conn

has_conn : (o : Option Link) (conn : ℕ) → conn_in o ≡ Some conn → HasConn o conn
has_conn None conn h = cc
has_conn (Some l) conn h = record { link = l; linked = refl; conn_is = cc }

-- so the router's mailbox does not tell it
pub routed_told :
    (configs : List Config) (log : List Entry) (r : Router) (items : List Envelope) (conn : ℕ) (key : Key)
    → StandsOver configs log r items → get nat_cmp r.peers conn ≡ Some key → route_to (routes log r.number) key ≡ Some conn
    → list_any (tells_ready conn) (filter (stands_in (queue.Router r.number)) items) ≡ false
routed_told configs log r items conn key s known routed =
    let size = mailbox_size_at configs r.number in
    let ms = messages_in r.messenger.binding in
    let turns = s.holds.sound.turns in
    let h = has_conn (link_of key_cmp r.actor.links key) conn (sym (route_to-link r.actor.links key) ∙ (ap (λ rs. route_to rs key) s.routes_are ∙ routed)) in
    let silent : said_of key ms ≡ [] =
    silent_by size (is_ended log r.number) r conn key h.link (said_of key ms) s.ended known h.linked h.conn_is
    (linked_as size r.peers key h.link (said_of key ms) (subst (λ o. IsInTurn size r.peers key o (said_of key ms)) h.linked (turns key)))
    in
    tells_same conn r.channels.items ms (filter (stands_in (queue.Router r.number)) items) (s.holds.each (queue.Router r.number) (own_queue r.number))
    ∙ none_tells r.peers key conn r.channels.items ms known
    (λ k h. said_known size r.peers k (link_of key_cmp r.actor.links k) (said_of k ms) conn (turns k) h)
    (λ h. false≢true (sym (ap (list_any (names_conn conn)) silent) ∙ h))
