-- What a node holds stops: an attempt, a handshake, a connection, each with the end of its link.
use Rattle.std.proofs.Common.{◌≡◌, ℕ, true, List, [], ◌∷◌, ◌++◌, refl, ap, sym, subst, ◌∙◌, arith, Option, Some, None}
use Rattle.std.specs.Prelude.{filter, ◌==◌}
use Rattle.std.specs.List.Sorted.{IsStrictlySortedBy}
use Rattle.std.specs.Map.{keys_of}
use Rattle.std.specs.Ordering.{nat_cmp}
use Rattle.std.proofs.lemmas.Bool.Decides.{nat_tests}
use Rattle.p2p_base.specs.declared.key.Key.{Key}
use Rattle.p2p_gates.specs.Handshaking.{Handshaking}
use Rattle.p2p_log.specs.declared.queue.Queue.{Queue}
use Rattle.p2p_log.specs.declared.queue.Queue.TheVariants as queue
use Rattle.p2p_log.specs.declared.queue.Side.TheVariants as side
use Rattle.p2p_log.specs.declared.item.Envelope.{Envelope}
use Rattle.p2p_log.specs.declared.end.Cause.TheVariants as cause
use Rattle.p2p_log.specs.Lines.{stands_in}
use Rattle.p2p_log_rules.specs.declared.row.Row.{Row}
use Rattle.p2p_log_rules.specs.Attempting.{left_ends}
use Rattle.p2p_log_rules.specs.Dropping.{LinkEnd, other_side}
use Rattle.p2p_log_rules.specs.Stopping.{towards}
use Rattle.p2p_log_rules.proofs.Left.{without}
use Rattle.p2p_log_laws.proofs.Draining.{left-none}
use Rattle.p2p_log_laws.proofs.Fitting.{holds_bare}
use Rattle.p2p_net_queues.specs.Board.{held}
use Rattle.p2p_net_queues.specs.Rows.{item_ends}
use Rattle.p2p_net_tracker.specs.Stands.{is_told}
use Rattle.p2p_net_tracker.proofs.Stopped.{queue_left}
use Rattle.p2p_net_gates.specs.declared.attempt.RunningAttempt.{RunningAttempt}
use Rattle.p2p_net_gates.specs.declared.listening.Listening.{Listening}
use Rattle.p2p_net_gates.proofs.Stops.{attempt_left}
use Rattle.p2p_net_links.specs.Dropping.{end_dropped}
use Rattle.p2p_net_links.specs.declared.links.Links.{Links}
use Rattle.p2p_net_links.proofs.Left.{end_left}
use Rattle.p2p_net_node.specs.declared.node.Node.{Node}
use Rattle.p2p_net_calls.specs.Stopping.{NodeLeft, left, Adds, Drains, DropsEnd, EndsTold, HandshakeStops, queues_of, attempt_holder, dialing_side}
use Rattle.p2p_net_calls.proofs.Emptying.{bare_ends, left_ends_named, drains_one, drains_both, without_attempt, without_flight, without_handshake, without_control, without_update, without_dialer}

-- ---- the end of a link

pub drops_drains : (n : ℕ) (end : Option LinkEnd) (x : Node) (l links : Links) (row after : Row) → DropsEnd end l links row after → Drains n (towards end) x x l links row after
drops_drains n None x l links row after d =
    λ items h. (
      d.1,
      subst (λ k. NodeLeft n x k (left [] items)) (sym d.0) (subst (NodeLeft n x l) (sym (left-none items)) h),
    )
drops_drains n (Some (link, s)) x l links row after d =
    drains_one n (queue.Link link (other_side s)) x x l links row after
    (λ items h. (
      subst (λ xs. Adds xs row after) (h.links.ways (other_side s) link) d.1,
      subst (λ k. NodeLeft n x k (without (queue.Link link (other_side s)) items)) (sym d.0)
          (without_flight n link (other_side s) x l (end_dropped link s l) items h (end_left l link s items h.apart h.links)),
    ))

-- ---- attempts

pub attempt_drains :
    (n k : ℕ) (a : RunningAttempt) (rest : List (ℕ × RunningAttempt)) (x : Node) (l links : Links) (row after : Row) → x.dialing.attempts ≡ (k, a) ∷ rest → IsStrictlySortedBy nat_cmp (keys_of x.dialing.attempts)
    → DropsEnd (dialing_side a.link) l links (record row { ends = row.ends ++ item_ends a.names }) after
    → Drains n (queues_of (attempt_holder n (k, a))) x (record x { dialing = record x.dialing { attempts = rest } }) l links row after
attempt_drains n k a rest x l links row after is sorted drops =
    let q = queue.Attempt n k in
    let y : Node = record x { dialing = record x.dialing { attempts = rest } } in
    let mid : Row = record row { ends = row.ends ++ item_ends a.names } in
    drains_both n (q ∷ []) (towards (dialing_side a.link)) x y y l l links row mid after
    (drains_one n q x y l l row mid
    (λ items h.
    let one = attempt_left n x.dialing items k a rest is sorted h.apart h.dialer in (
      ap (λ e. record row { ends = row.ends ++ e }) (ap item_ends one.0 ∙ sym (bare_ends cause.NodeStopped q items refl h.bare)),
      without_attempt n k x l (record x.dialing { attempts = rest }) items h one.1,
    )))
    (drops_drains n (dialing_side a.link) y l links mid after drops)

-- ---- what the tracker told

-- the row of a queue in which it told something
told_ends : (n : ℕ) (q : Queue) (items : List Envelope) (x : Node) (l : Links) (row mid : Row) → is_told n q ≡ true → holds_bare q ≡ true → NodeLeft n x l items
    → mid ≡ record row { ends = row.ends ++ left_ends (held x.tracker.told q) } → Adds (filter (stands_in q) items) row mid
told_ends n q items x l row mid own bare h is =
    is
    ∙ ap (λ e. record row { ends = row.ends ++ e })
    (ap left_ends (h.tracker.told q own) ∙ (left_ends_named (filter (stands_in q) items) ∙ sym (bare_ends cause.NodeStopped q items bare h.bare)))

here : (n : ℕ) → (n == n) ≡ true
here n = grind (arith, nat_tests)

module _ (n : ℕ) (x y : Node) (l : Links) (row mid : Row) where
  told_left : (q : Queue) (items : List Envelope) → is_told n q ≡ true → EndsTold q x y row mid → NodeLeft n x l items
      → (NodeLeft n (record x { tracker = record x.tracker { told = y.tracker.told } }) l (without q items) → NodeLeft n y l (without q items))
  told_left q items own d h k = subst (λ (z : Node). NodeLeft n z l (without q items)) (sym d.rest) k

  pub update_drains : EndsTold (queue.Addresses n) x y row mid → Drains n (queue.Addresses n ∷ []) x y l l row mid
  update_drains d =
      let q = queue.Addresses n in
      drains_one n q x y l l row mid
      (λ items h. (
        told_ends n q items x l row mid (here n) refl h d.ends,
        told_left q items (here n) d h (without_update n x l (record x.tracker { told = y.tracker.told }) items h (queue_left n x.tracker (record x.tracker { told = y.tracker.told }) items q (here n) d.told refl h.tracker h.apart).0),
      ))

  pub dialer_drains : EndsTold (queue.Dialer n) x y row mid → Drains n (queue.Dialer n ∷ []) x y l l row mid
  dialer_drains d =
      let q = queue.Dialer n in
      drains_one n q x y l l row mid
      (λ items h. (
        told_ends n q items x l row mid (here n) refl h d.ends,
        told_left q items (here n) d h (without_dialer n x l (record x.tracker { told = y.tracker.told }) items h (queue_left n x.tracker (record x.tracker { told = y.tracker.told }) items q (here n) d.told refl h.tracker h.apart).0),
      ))

  pub handshake_told : (k : ℕ) → EndsTold (queue.Handshake n k) x y row mid → Drains n (queue.Handshake n k ∷ []) x y l l row mid
  handshake_told k d =
      let q = queue.Handshake n k in
      drains_one n q x y l l row mid
      (λ items h. (
        told_ends n q items x l row mid (here n) refl h d.ends,
        told_left q items (here n) d h (without_handshake n k x l (record x.tracker { told = y.tracker.told }) items h (queue_left n x.tracker (record x.tracker { told = y.tracker.told }) items q (here n) d.told refl h.tracker h.apart).0),
      ))

  pub control_drains : (k : ℕ) → EndsTold (queue.Control n k) x y row mid → Drains n (queue.Control n k ∷ []) x y l l row mid
  control_drains k d =
      let q = queue.Control n k in
      drains_one n q x y l l row mid
      (λ items h. (
        told_ends n q items x l row mid (here n) refl h d.ends,
        told_left q items (here n) d h (without_control n k x l (record x.tracker { told = y.tracker.told }) items h (queue_left n x.tracker (record x.tracker { told = y.tracker.told }) items q (here n) d.told refl h.tracker h.apart).0),
      ))

-- ---- handshakes

-- what the node holds is the same with another listener for which the same arrivals wait
relisten : (n : ℕ) (x : Node) (l : Links) (li : Listening) (items : List Envelope) → li.names ≡ x.listening.names → NodeLeft n x l items → NodeLeft n (record x { listening = li }) l items
relisten n x l li items same h = record {
  apart = h.apart;
  bare = h.bare;
  number = h.number;
  router = h.router;
  tracker = h.tracker;
  dialer = h.dialer;
  arrivals = same ∙ h.arrivals;
  spawner = h.spawner;
  connections = h.connections;
  links = h.links;
}

pub handshake_drains : (n k link : ℕ) (rest : List (ℕ × Handshaking Key)) (x y : Node) (l links : Links) (row after : Row) → HandshakeStops n k link rest x y l links row after
    → Drains n (queue.Handshake n k ∷ towards (Some (link, side.In))) x y l links row after
handshake_drains n k link rest x y l links row after s =
    let z : Node = record x { listening = y.listening } in
    drains_both n (queue.Handshake n k ∷ []) (towards (Some (link, side.In))) x y y l l links row s.mid after
    (λ items h. handshake_told n z y l row s.mid k s.told items (relisten n x l y.listening items (ap (λ (li : Listening). li.names) s.listens) h))
    (drops_drains n (Some (link, side.In)) y l links s.mid after s.drops)
