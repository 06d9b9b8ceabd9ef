-- What is left of lines whose fronts were taken.
use Rattle.std.proofs.Common.{◌≡◌, ℕ, zero, suc, ◌+◌, ◌-◌, ◌≤◌, Bool, true, false, cond, List, [], ◌∷◌, ◌++◌, length, take, drop, refl, ap, sym, subst, ◌∙◌, arith, append-nil, Option, Some, None}
use Rattle.std.specs.Prelude.{filter, map, slice_get}
use Rattle.std.proofs.lemmas.List.{map-append, length-map, take_all as take_whole}
use Rattle.p2p_log.specs.declared.queue.Queue.{Queue}
use Rattle.p2p_log.specs.declared.queue.Queue.TheVariants as queue
use Rattle.p2p_log.specs.declared.item.Item.{Item}
use Rattle.p2p_log.specs.declared.item.Envelope.{Envelope}
use Rattle.p2p_log.specs.QueueCode.{same_queue}
use Rattle.p2p_log.specs.Lines.{name_of, stays, stands_in, named}
use Rattle.p2p_log_rules.specs.Effect.{relay_queue}
use Rattle.p2p_log.proofs.Lines.{filter_stays-append, filter_stays-nil}
use Rattle.p2p_log.proofs.Queues.{same_queue-refl}
use Rattle.p2p_log.specs.Apart.{AreApart}
use Rattle.p2p_log.proofs.Names.{AreApart-filter, filter_stays-first}
use Rattle.p2p_net_router.proofs.Taking.{map-take_next, take_spent, take_two}
use Rattle.p2p_net_router.specs.Batches.{all_of, batch_of, AreKept}
use Rattle.p2p_net_router.specs.Ends.{AreEnded}
use Rattle.p2p_net_router.specs.Holds.{Holds, frame_taken, frame_gone, routes_in}
use Rattle.p2p_net_router.specs.declared.router.Router.{Router}
use Rattle.p2p_net_router.proofs.Beside.{filter-first_away}

-- the items without the first of these
abbrev pub left : List Envelope → List Envelope → List Envelope
left taken items = filter (stays (map name_of taken)) items

-- the rest of a line, whose first goes
pub first_goes : (q : Queue) (items : List Envelope) (x : Envelope) (rest : List Envelope) → AreApart items → filter (stands_in q) items ≡ x ∷ rest → filter (stands_in q) (filter (stays (name_of x ∷ [])) items) ≡ rest
first_goes q items x rest apart first = filter_stays-first items q q x rest apart first ∙ ap (λ b. cond b rest (filter (stands_in q) items)) (same_queue-refl q)

-- a line without its front
pub line_left : (i : ℕ) (q : Queue) (items line : List Envelope) → AreApart items → filter (stands_in q) items ≡ line → filter (stands_in q) (left (take i line) items) ≡ drop i line
line_left zero q items line apart h = ap (filter (stands_in q)) (filter_stays-nil items) ∙ h
line_left (suc i) q items [] apart h = ap (filter (stands_in q)) (filter_stays-nil items) ∙ h
line_left (suc i) q items (x ∷ rest) apart h =
    ap (filter (stands_in q)) (filter_stays-append (name_of x ∷ []) (map name_of (take i rest)) items)
    ∙ line_left i q (filter (stays (name_of x ∷ [])) items) rest (AreApart-filter (stays (name_of x ∷ [])) items apart) (first_goes q items x rest apart h)

-- another line
pub line_beside : (i : ℕ) (p q : Queue) (items line : List Envelope) → AreApart items → filter (stands_in p) items ≡ line → same_queue p q ≡ false → filter (stands_in q) (left (take i line) items) ≡ filter (stands_in q) items
line_beside zero p q items line apart h away = ap (filter (stands_in q)) (filter_stays-nil items)
line_beside (suc i) p q items [] apart h away = ap (filter (stands_in q)) (filter_stays-nil items)
line_beside (suc i) p q items (x ∷ rest) apart h away =
    ap (filter (stands_in q)) (filter_stays-append (name_of x ∷ []) (map name_of (take i rest)) items)
    ∙ (line_beside i p q (filter (stays (name_of x ∷ [])) items) rest (AreApart-filter (stays (name_of x ∷ [])) items apart) (first_goes p items x rest apart h) away
    ∙ filter-first_away q p items x rest apart h away)

-- a batch is of its two lines alone
pub batch_beside :
    (n conn size : ℕ) (items : List Envelope) (q : Queue) → AreApart items → same_queue (queue.High n conn) q ≡ false → same_queue (queue.Low n conn) q ≡ false
    → filter (stands_in q) (left (batch_of n conn size items) items) ≡ filter (stands_in q) items
batch_beside n conn size items q apart high_away low_away =
    let high = filter (stands_in (queue.High n conn)) items in
    let low = filter (stands_in (queue.Low n conn)) items in
    let front = take size high in
    let few = size - length front in
    let names : map name_of front ++ map name_of (take few low) ≡ map name_of (batch_of n conn size items) =
    sym (map-append name_of front (take few low)) ∙ ap (map name_of) (take_two size few high low refl)
    in
    ap (λ g. filter (stands_in q) (filter (stays g) items)) (sym names)
    ∙ (ap (filter (stands_in q)) (filter_stays-append (map name_of front) (map name_of (take few low)) items)
    ∙ (line_beside few (queue.Low n conn) q (left front items) low (AreApart-filter (stays (map name_of front)) items apart)
    (line_beside size (queue.High n conn) (queue.Low n conn) items high apart refl refl) low_away
    ∙ line_beside size (queue.High n conn) q items high apart refl high_away))

pub AreKept-refl : (r : Router) → AreKept r r
AreKept-refl r = record { number = refl; messenger = refl; channels = refl; peers = refl; numbers = refl; subscriptions = refl; routes = refl; ended = λ f h. h; works = refl; owners = refl }

pub AreKept-trans : (a b c : Router) → AreKept a b → AreKept b c → AreKept a c
AreKept-trans a b c f g = record {
  number = g.number ∙ f.number;
  messenger = g.messenger ∙ f.messenger;
  channels = g.channels ∙ f.channels;
  peers = g.peers ∙ f.peers;
  numbers = g.numbers ∙ f.numbers;
  subscriptions = g.subscriptions ∙ f.subscriptions;
  routes = g.routes ∙ f.routes;
  ended = λ t h. g.ended t (f.ended t h);
  works = g.works ∙ f.works;
  owners = g.owners ∙ f.owners;
}

-- ---- one more frame

pub record IsNext (i : ℕ) (line : List Envelope) (frame : (ℕ × ℕ) × Item) : Type 0 where
  pub x : Envelope
  pub at : Some x ≡ slice_get (drop i line) 0
  pub is : frame ≡ named x

next_by : (o : Option Envelope) (i : ℕ) (line : List Envelope) (frame : (ℕ × ℕ) × Item) → o ≡ slice_get (drop i line) 0 → Some frame ≡ frame_taken o → IsNext i line frame
next_by None i line frame h e = cc
next_by (Some x) i line frame h e = record { x = x; at = h; is = cc }

none_by : (o : Option Envelope) → None ≡ frame_taken o → None ≡ o
none_by None e = refl
none_by (Some x) e = cc

-- what stands first once so many were taken
front_left :
    (i n m conn : ℕ) (priority : Bool) (items : List Envelope) → AreApart items → m ≡ n
    → slice_get (filter (stands_in (relay_queue priority m conn)) (left (take i (filter (stands_in (relay_queue priority n conn)) items)) items)) 0 ≡ slice_get (drop i (filter (stands_in (relay_queue priority n conn)) items)) 0
front_left i n m conn priority items apart same =
    let q = relay_queue priority n conn in
    ap (λ k. slice_get (filter (stands_in (relay_queue priority k conn)) (left (take i (filter (stands_in q) items)) items)) 0) same
    ∙ ap (λ l. slice_get l 0) (line_left i q items (filter (stands_in q) items) apart refl)

pub AreApart-left : (taken items : List Envelope) → AreApart items → AreApart (left taken items)
AreApart-left taken items h = AreApart-filter (stays (map name_of taken)) items h

left_next :
    (i : ℕ) (line items : List Envelope) (frame : (ℕ × ℕ) × Item) → IsNext i line frame
    → filter (stays (frame_gone (Some frame))) (left (take i line) items) ≡ left (take (i + 1) line) items
left_next i line items frame n =
    ap (λ (f : (ℕ × ℕ) × Item). filter (stays (f.0 ∷ [])) (left (take i line) items)) n.is
    ∙ (sym (filter_stays-append (map name_of (take i line)) (name_of n.x ∷ []) items)
    ∙ ap (λ g. filter (stays g) items) (map-take_next name_of [] (map name_of (take i line)) (map name_of (take i line) ++ name_of n.x ∷ []) i line (drop i line) n.x refl refl n.at refl))

-- a lane of which some frames were taken
pub record IsFrontTaken (size : ℕ) (old new : Router) (items : List Envelope) (priority : Bool) (conn i : ℕ) (before after : List ((ℕ × ℕ) × Item)) : Type 0 where
  pub taken : after ≡ before ++ map named (take i (filter (stands_in (relay_queue priority old.number conn)) items))
  pub holds : Holds size new (left (take i (filter (stands_in (relay_queue priority old.number conn)) items)) items)

pub front_next :
    (size : ℕ) (old now new : Router) (items : List Envelope) (priority : Bool) (conn i : ℕ) (before so_far after : List ((ℕ × ℕ) × Item)) (frame : (ℕ × ℕ) × Item)
    → AreApart items → AreKept old now → IsFrontTaken size old now items priority conn i before so_far
    → ((its : List Envelope) → Holds size now its → Some frame ≡ frame_taken (slice_get (filter (stands_in (relay_queue priority now.number conn)) its) 0))
    → ((its : List Envelope) → Holds size now its → AreApart its → Holds size new (filter (stays (frame_gone (Some frame))) its))
    → after ≡ so_far ++ frame ∷ []
    → IsFrontTaken size old new items priority conn (i + 1) before after
front_next size old now new items priority conn i before so_far after frame apart kept h value holds more =
    let line = filter (stands_in (relay_queue priority old.number conn)) items in
    let n = next_by (slice_get (drop i line) 0) i line frame refl (value (left (take i line) items) h.holds ∙ ap frame_taken (front_left i old.number now.number conn priority items apart kept.number)) in
    record {
      taken = map-take_next named before so_far after i line (drop i line) n.x h.taken refl n.at (more ∙ ap (λ f. so_far ++ f ∷ []) n.is);
      holds = subst (Holds size new) (left_next i line items frame n) (holds (left (take i line) items) h.holds (AreApart-left (take i line) items apart));
    }

-- a lane of which nothing is left
pub front_spent :
    (size : ℕ) (old now new : Router) (items : List Envelope) (priority : Bool) (conn i most : ℕ) (before so_far : List ((ℕ × ℕ) × Item))
    → AreApart items → AreKept old now → i ≤ most → IsFrontTaken size old now items priority conn i before so_far
    → ((its : List Envelope) → Holds size now its → None ≡ frame_taken (slice_get (filter (stands_in (relay_queue priority now.number conn)) its) 0))
    → ((its : List Envelope) → Holds size now its → AreApart its → Holds size new (filter (stays (frame_gone None)) its))
    → IsFrontTaken size old new items priority conn most before so_far
front_spent size old now new items priority conn i most before so_far apart kept le h value holds =
    let line = filter (stands_in (relay_queue priority old.number conn)) items in
    let none : None ≡ slice_get (drop i line) 0 =
    none_by (slice_get (drop i line) 0) (value (left (take i line) items) h.holds ∙ ap frame_taken (front_left i old.number now.number conn priority items apart kept.number))
    in
    let all : take i line ≡ take most line = take_spent i most line (drop i line) le refl none in
    record {
      taken = h.taken ∙ ap (λ l. before ++ map named l) all;
      holds = subst (Holds size new) (filter_stays-nil (left (take i line) items) ∙ ap (λ l. left l items) all) (holds (left (take i line) items) h.holds (AreApart-left (take i line) items apart));
    }

pub front_none : (size : ℕ) (r : Router) (items : List Envelope) (priority : Bool) (conn : ℕ) (before : List ((ℕ × ℕ) × Item)) → Holds size r items → IsFrontTaken size r r items priority conn 0 before before
front_none size r items priority conn before h = record { taken = sym (append-nil before); holds = subst (Holds size r) (sym (filter_stays-nil items)) h }

-- ---- two lanes

pub batch_taken :
    (size : ℕ) (old mid new : Router) (items : List Envelope) (conn most count : ℕ) (none some all : List ((ℕ × ℕ) × Item))
    → AreApart items → AreKept old mid → none ≡ [] → IsFrontTaken size old mid items true conn most none some → count ≡ length some
    → IsFrontTaken size mid new (left (take most (filter (stands_in (queue.High old.number conn)) items)) items) false conn (most - count) some all
    → (all ≡ map named (batch_of old.number conn most items)) × Holds size new (left (batch_of old.number conn most items) items)
batch_taken size old mid new items conn most count none some all apart kept e f long g =
    let high = filter (stands_in (queue.High old.number conn)) items in
    let low = filter (stands_in (queue.Low old.number conn)) items in
    let first = left (take most high) items in
    let same : filter (stands_in (relay_queue false mid.number conn)) first ≡ low =
    ap (λ k. filter (stands_in (relay_queue false k conn)) first) kept.number ∙ line_beside most (queue.High old.number conn) (queue.Low old.number conn) items high apart refl refl
    in
    let so_far : some ≡ map named (take most high) = f.taken ∙ ap (λ l. l ++ map named (take most high)) e in
    let few : most - count ≡ most - length (take most high) = ap (λ k. most - k) (long ∙ (ap length so_far ∙ length-map (take most high) named)) in
    let both : take most high ++ take (most - count) low ≡ batch_of old.number conn most items = take_two most (most - count) high low few in (
      g.taken
          ∙ (ap (λ l. l ++ map named (take (most - count) (filter (stands_in (relay_queue false mid.number conn)) first))) so_far
          ∙ (ap (λ l. map named (take most high) ++ map named (take (most - count) l)) same
          ∙ (sym (map-append named (take most high) (take (most - count) low)) ∙ ap (map named) both))),
      subst (Holds size new)
          (ap (λ l. left (take (most - count) l) first) same
          ∙ (sym (filter_stays-append (map name_of (take most high)) (map name_of (take (most - count) low)) items)
          ∙ (ap (λ g. filter (stays g) items) (sym (map-append name_of (take most high) (take (most - count) low))) ∙ ap (λ l. left l items) both)))
          g.holds,
    )

-- all of both lanes
pub all_taken :
    (size : ℕ) (old mid new : Router) (items : List Envelope) (conn high low : ℕ) (none some all : List ((ℕ × ℕ) × Item))
    → AreApart items → AreKept old mid → none ≡ [] → high ≡ length (filter (stands_in (queue.High old.number conn)) items) → IsFrontTaken size old mid items true conn high none some
    → low ≡ length (filter (stands_in (relay_queue false mid.number conn)) (left (take high (filter (stands_in (queue.High old.number conn)) items)) items))
    → IsFrontTaken size mid new (left (take high (filter (stands_in (queue.High old.number conn)) items)) items) false conn low some all
    → (all ≡ map named (all_of old.number conn items)) × Holds size new (left (all_of old.number conn items) items)
all_taken size old mid new items conn high low none some all apart kept e long f short g =
    let hs = filter (stands_in (queue.High old.number conn)) items in
    let ls = filter (stands_in (queue.Low old.number conn)) items in
    let first = left (take high hs) items in
    let line = filter (stands_in (relay_queue false mid.number conn)) first in
    let same : line ≡ ls =
    ap (λ k. filter (stands_in (relay_queue false k conn)) first) kept.number ∙ line_beside high (queue.High old.number conn) (queue.Low old.number conn) items hs apart refl refl
    in
    let whole : take high hs ≡ hs = take_whole high hs (omega (arith, long)) in
    let rest : take low line ≡ ls = take_whole low line (omega (arith, short)) ∙ same in
    let so_far : some ≡ map named hs = f.taken ∙ (ap (λ l. l ++ map named (take high hs)) e ∙ ap (map named) whole) in (
      g.taken ∙ (ap (λ l. l ++ map named (take low line)) so_far ∙ (ap (λ l. map named hs ++ map named l) rest ∙ sym (map-append named hs ls))),
      subst (Holds size new)
          (ap (λ l. left l first) rest
          ∙ (ap (λ l. left ls (left l items)) whole
          ∙ (sym (filter_stays-append (map name_of hs) (map name_of ls) items) ∙ ap (λ n. filter (stays n) items) (sym (map-append name_of hs ls)))))
          g.holds,
    )

pub AreKept-taken :
    (old new : Router) → new ≡ record old { actor = record old.actor { links = new.actor.links }; names = new.names } → routes_in new.actor.links ≡ routes_in old.actor.links
    → ((ended : ℕ → Bool) → AreEnded ended old.peers old.actor.links → AreEnded ended new.peers new.actor.links) → AreKept old new
AreKept-taken old new rest links ends = record {
  number = ap (λ (r : Router). r.number) rest;
  messenger = ap (λ (r : Router). r.messenger) rest;
  channels = ap (λ (r : Router). r.channels) rest;
  peers = ap (λ (r : Router). r.peers) rest;
  numbers = ap (λ (r : Router). r.subscriptions) rest;
  subscriptions = ap (λ (r : Router). r.actor.subscriptions) rest;
  routes = links;
  ended = ends;
  works = ap (λ (r : Router). r.actor.failed) rest;
  owners = ap (λ (r : Router). r.actor.peers) rest;
}
