-- The queues that are emptied with a node, in order, as the node has them and as the log says, and the ends of links that are dropped.
use Rattle.std.proofs.Common.{◌≡◌, ℕ, Bool, true, false, cond, List, [], ◌∷◌, ◌++◌, inl, inr, refl, ap, sym, ◌∙◌, Option, Some, None}
use Rattle.std.specs.Prelude.{map, flat_map}
use Rattle.std.specs.Option.{option_map}
use Rattle.std.specs.List.Sorted.{IsStrictlySortedBy}
use Rattle.std.specs.Map.{keys_of}
use Rattle.std.specs.Ordering.{nat_cmp}
use Rattle.p2p_base.specs.declared.key.Key.{Key}
use Rattle.p2p_gates.specs.Handshaking.{Handshaking}
use Rattle.p2p_log.specs.declared.config.Config.{Config}
use Rattle.p2p_log.specs.declared.entry.Entry.{Entry}
use Rattle.p2p_log.specs.declared.queue.Queue.{Queue}
use Rattle.p2p_log.specs.declared.queue.Queue.TheVariants as queue
use Rattle.p2p_log.specs.declared.queue.Side.TheVariants as side
use Rattle.p2p_log.proofs.Each.{Has}
use Rattle.p2p_log_rules.specs.declared.row.Half.{Half}
use Rattle.p2p_log_rules.specs.Connections.{half_at, is_ended, live_connection}
use Rattle.p2p_log_rules.specs.Dialed.{dialer_of}
use Rattle.p2p_log_rules.specs.Dropping.{LinkEnd, dialing_end, half_end, listening_end}
use Rattle.p2p_log_rules.specs.Handshakes.{handshakes_of, came_over}
use Rattle.p2p_log_rules.specs.Halves.{half_over}
use Rattle.p2p_log_rules.specs.Spawning.{Spawned, connections_of}
use Rattle.p2p_log_rules.specs.Stopping.{towards, with_attempt, with_handshake, with_half}
use Rattle.p2p_log_rules.specs.Told.{told, attempts_in, connections_in}
use Rattle.p2p_log_rules.proofs.Dropping.{all_of}
use Rattle.p2p_net_queues.specs.Tables as table
use Rattle.p2p_net_gates.specs.DialerStands.{DialerStands}
use Rattle.p2p_net_gates.specs.ListenerStands.{ListenerStands}
use Rattle.p2p_net_gates.specs.declared.attempt.RunningAttempt.{RunningAttempt}
use Rattle.p2p_net_gates.specs.declared.dialing.Dialing.{Dialing}
use Rattle.p2p_net_gates.specs.declared.listening.Listening.{Listening}
use Rattle.p2p_net_gates.proofs.Stops.{attempts_listed, attempt_dials, found_there, handshakes_listed, handshake_link}
use Rattle.p2p_net_connections.specs.Connections.{spawned_on}
use Rattle.p2p_net_connections.specs.Stands.{ConnectionsStand}
use Rattle.p2p_net_connections.specs.declared.connections.Connection.{Connection}
use Rattle.p2p_net_connections.specs.declared.connections.Connections.{Connections}
use Rattle.p2p_net_connections.proofs.Listed.{connections_listed}
use Rattle.p2p_net_links.specs.Stands.{LinksStand}
use Rattle.p2p_net_links.specs.declared.links.Links.{Links}
use Rattle.p2p_net_calls.specs.Stopping.{Holder, queues_of, queues_held, end_of, ends_held, dialing_side, half_side, half_queues, attempt_holder, handshake_holder, connection_holder}

-- ---- lists that go by names

module _ {X : Type 0} (f : ℕ × X → Holder) where
  -- what things of these names hold
  pub queues_named : (g : ℕ → List Queue) (es : List (ℕ × X)) → ((e : ℕ × X) → Has es e → queues_of (f e) ≡ g e.0) → queues_held (map f es) ≡ flat_map g (keys_of es)
  queues_named g [] same = refl
  queues_named g (e ∷ es) same =
      ap (λ qs. qs ++ queues_held (map f es)) (same e (inl refl)) ∙ ap (λ qs. g e.0 ++ qs) (queues_named g es (λ d has. same d (inr has)))

  -- and the ends that they drop
  pub ends_named : (g : ℕ → List LinkEnd) (es : List (ℕ × X)) → ((e : ℕ × X) → Has es e → end_of (f e).end ≡ g e.0) → ends_held (map f es) ≡ flat_map g (keys_of es)
  ends_named g [] same = refl
  ends_named g (e ∷ es) same =
      ap (λ ds. ds ++ ends_held (map f es)) (same e (inl refl)) ∙ ap (λ ds. g e.0 ++ ds) (ends_named g es (λ d has. same d (inr has)))

-- the end that there is
pub one_end : (o : Option LinkEnd) → end_of o ≡ all_of o
one_end None = refl
one_end (Some e) = refl

dialing_is : (o : Option ℕ) → dialing_side o ≡ option_map (λ link. (link, side.Out)) o
dialing_is None = refl
dialing_is (Some link) = refl

-- ---- attempts

module _ (configs : List Config) (log : List Entry) (n : ℕ) (d : Dialing) (s : DialerStands configs log n d) (sorted : IsStrictlySortedBy nat_cmp (keys_of d.attempts)) where
  attempt_end_is : (e : ℕ × RunningAttempt) → Has d.attempts e → dialing_side e.1.link ≡ dialing_end log n e.0
  attempt_end_is e has = dialing_is e.1.link ∙ attempt_dials configs log n d e.0 e.1 s sorted has

  pub attempt_queues : queues_held (map (attempt_holder n) d.attempts) ≡ flat_map (with_attempt log n) (attempts_in (told log) n)
  attempt_queues =
      queues_named (attempt_holder n) (with_attempt log n) d.attempts (λ e has. ap (λ o. queue.Attempt n e.0 ∷ towards o) (attempt_end_is e has))
      ∙ ap (flat_map (with_attempt log n)) (attempts_listed configs log n d s sorted)

  pub attempt_ends : ends_held (map (attempt_holder n) d.attempts) ≡ flat_map (λ k. all_of (dialing_end log n k)) (attempts_in (told log) n)
  attempt_ends =
      ends_named (attempt_holder n) (λ k. all_of (dialing_end log n k)) d.attempts (λ e has. ap end_of (attempt_end_is e has) ∙ one_end (dialing_end log n e.0))
      ∙ ap (flat_map (λ k. all_of (dialing_end log n k))) (attempts_listed configs log n d s sorted)

-- ---- connections

module _ (configs : List Config) (log : List Entry) (n : ℕ) (cs : Connections) (l : Links) (s : ConnectionsStand configs log n cs) (t : LinksStand configs log l) (sorted : IsStrictlySortedBy nat_cmp (keys_of cs.spawned)) where
  -- the half of a connection that is kept
  half_is : (conn : ℕ) (c : Connection) (o : Option Spawned) → spawned_on (Some c) ≡ o → live_connection log n conn ≡ o → half_end (half_at log n conn) ≡ half_side n c.link (table.at l.dialers c.link)
  unfolding half_at
  half_is conn c None is lives = absurd (cc)
  half_is conn c (Some p) is lives =
      let made : connections_of log n conn ≡ Some p = by (is_ended log n conn) lives in
      let link : p.link ≡ c.link = sym (ap (λ (o : Option Spawned). elim o [ None ↦ c.link | Some q ↦ q.link ]) is) in
      ap (λ o. half_end (half_of_made o)) made ∙ (sides p (dialer_of log p.link) ∙ (ap (λ k. half_side n k (dialer_of log k)) link ∙ ap (half_side n c.link) (sym (t.dialers c.link))))
    where
      half_of_made : Option Spawned → Option Half
      half_of_made None = None
      half_of_made (Some q) = option_map (half_over n q) (dialer_of log q.link)

      by : (b : Bool) → cond b None (connections_of log n conn) ≡ Some p → connections_of log n conn ≡ Some p
      by true h = absurd (cc)
      by false h = h

      sides : (q : Spawned) (o : Option ℕ) → half_end (option_map (half_over n q) o) ≡ half_side n q.link o
      sides q None = refl
      sides q (Some dialer) = refl

  end_is : (e : ℕ × Connection) → Has cs.spawned e → half_side n e.1.link (table.at l.dialers e.1.link) ≡ half_end (half_at log n e.0)
  end_is e has =
      sym (half_is e.0 e.1 (spawned_on (Some e.1)) refl (sym (s.spawned e.0) ∙ ap spawned_on (found_there cs.spawned e.0 e.1 sorted has)))

  with_end : (conn : ℕ) (o : Option Half) → (half_queues n conn (half_end o) ++ towards (half_end o)) ≡ with_half n conn o
  with_end conn None = refl
  with_end conn (Some half) = refl

  pub connection_queues : queues_held (map (connection_holder n l) cs.spawned) ≡ flat_map (λ conn. with_half n conn (half_at log n conn)) (connections_in (told log) n)
  connection_queues =
      queues_named (connection_holder n l) (λ conn. with_half n conn (half_at log n conn)) cs.spawned
      (λ e has. ap (λ o. half_queues n e.0 o ++ towards o) (end_is e has) ∙ with_end e.0 (half_at log n e.0))
      ∙ ap (flat_map (λ conn. with_half n conn (half_at log n conn))) (connections_listed configs log n cs s sorted)

  pub connection_ends : ends_held (map (connection_holder n l) cs.spawned) ≡ flat_map (λ conn. all_of (half_end (half_at log n conn))) (connections_in (told log) n)
  connection_ends =
      ends_named (connection_holder n l) (λ conn. all_of (half_end (half_at log n conn))) cs.spawned (λ e has. ap end_of (end_is e has) ∙ one_end (half_end (half_at log n e.0)))
      ∙ ap (flat_map (λ conn. all_of (half_end (half_at log n conn)))) (connections_listed configs log n cs s sorted)

-- ---- handshakes

module _ (configs : List Config) (log : List Entry) (n : ℕ) (li : Listening) (s : ListenerStands configs log n li) (sorted : IsStrictlySortedBy nat_cmp (keys_of li.handshakes)) where
  shake_end : (e : ℕ × Handshaking Key) → Has li.handshakes e → came_over log e.0 ≡ Some e.1.arrival.link
  shake_end e has = handshake_link configs log n li s sorted e.0 e.1 has

  pub handshake_queues : queues_held (map (handshake_holder n) li.handshakes) ≡ flat_map (with_handshake log n) (handshakes_of log n)
  handshake_queues =
      queues_named (handshake_holder n) (with_handshake log n) li.handshakes (λ e has. ap (λ o. queue.Handshake n e.0 ∷ towards (listening_end o)) (sym (shake_end e has)))
      ∙ ap (flat_map (with_handshake log n)) (handshakes_listed configs log n li s sorted)

  pub handshake_ends : ends_held (map (handshake_holder n) li.handshakes) ≡ flat_map (λ h. all_of (listening_end (came_over log h))) (handshakes_of log n)
  handshake_ends =
      ends_named (handshake_holder n) (λ h. all_of (listening_end (came_over log h))) li.handshakes (λ e has. ap (λ o. all_of (listening_end o)) (sym (shake_end e has)))
      ∙ ap (flat_map (λ h. all_of (listening_end (came_over log h)))) (handshakes_listed configs log n li s sorted)
