-- What neither grants a key at a node nor releases it.
use Rattle.std.proofs.Common.{◌≡◌, ℕ, Bool, true, false, List, [], ◌∷◌, Option, refl, ap, sym, ◌∙◌, eqb-true}
use Rattle.std.specs.Prelude.{◌==◌, ◌&&◌, ◌||◌, count_by}
use Rattle.std.proofs.lemmas.Bool.{false≢true}
use Rattle.std.specs.List.{AllByRecursion as Each, list_any}
use Rattle.p2p_log_rules.proofs.Bools.{and_false}
use Rattle.p2p_base.specs.declared.key.Key.{Key}
use Rattle.p2p_log.specs.declared.config.Config.{Config}
use Rattle.p2p_log.specs.declared.queue.Queue.{Queue}
use Rattle.p2p_log.specs.declared.queue.Queue.TheVariants as queue
use Rattle.p2p_log.specs.declared.queue.Side.{Side}
use Rattle.p2p_log.specs.declared.queue.Side.TheVariants as side
use Rattle.p2p_log.specs.declared.item.Item.{Item}
use Rattle.p2p_log.specs.declared.item.Envelope.{Envelope}
use Rattle.p2p_log.specs.declared.entry.Entry.{Entry}
use Rattle.p2p_log.specs.declared.event.Act.{Act}
use Rattle.p2p_log.specs.declared.event.Act.TheVariants as act
use Rattle.p2p_log.specs.QueueCode.{same_queue}
use Rattle.p2p_log.proofs.Each.{Each-weaker, count_by-none}
use Rattle.p2p_log_rules.specs.declared.row.Row.{Row}
use Rattle.p2p_log_rules.specs.declared.row.Half.{Half}
use Rattle.p2p_log_rules.specs.Connections.{half_at}
use Rattle.p2p_log_rules.specs.Dropping.{LinkEnd, dialing_end, arriving_end, half_end, listening_end}
use Rattle.p2p_log_rules.specs.Handshakes.{came_over}
use Rattle.p2p_log_rules.specs.Moves.{Moves}
use Rattle.p2p_log_rules.specs.Facts.{stops}
use Rattle.p2p_log_rules.specs.Stopping.{emptied_at}
use Rattle.p2p_log_rules.proofs.Emptied.{OfKinds, each_emptied}
use Rattle.p2p_log_rules.proofs.Touches.{away}
use Rattle.p2p_log_laws.proofs.Reaching.{in_flight, in_connection, in_flight-node, in_flight-handshake, Reach, reads, writes, ends_in}
use Rattle.p2p_log_laws.specs.NodeGrants.{put_of, holds_grants, grants_key, releases_key, puts_grant, puts_release}
use Rattle.p2p_log_laws.proofs.Weighing.{weight}

-- a queue that no grant and no release at the node enters
abbrev pub IsAside : ℕ → Queue → Type 0
IsAside n q = (holds_grants n q ≡ false) × (same_queue (queue.Tracker n) q ≡ false)

-- a test that none of the queues passes that these enter
pub record Away (n : ℕ) (p : Queue → Bool) : Type 0 where
  pub dialer : p (queue.Dialer n) ≡ false
  pub handshakes : (h : ℕ) → p (queue.Handshake n h) ≡ false
  pub spawner : p (queue.Spawner n) ≡ false
  pub tracker : p (queue.Tracker n) ≡ false

-- what passes it is aside
pub away_aside : (n : ℕ) (p : Queue → Bool) → Away n p → (x : Queue) → p x ≡ true → IsAside n x
away_aside n p h x is = (grants x is, away p (queue.Tracker n) x h.tracker is)
  where
    at_node : (q : ℕ → Queue) (m : ℕ) → p (q n) ≡ false → p (q m) ≡ true → (m == n) ≡ false
    at_node q m none some = go (m == n) refl
      where
        go : (b : Bool) → (m == n) ≡ b → (m == n) ≡ false
        go true same = absurd (false≢true (sym none ∙ (ap (λ i. p (q i)) (sym (eqb-true m n same)) ∙ some)))
        go false differ = differ

    grants : (y : Queue) → p y ≡ true → holds_grants n y ≡ false
    grants (queue.Dialer m) some = at_node queue.Dialer m h.dialer some
    grants (queue.Handshake m k) some = at_node (λ i. queue.Handshake i k) m (h.handshakes k) some
    grants (queue.Spawner m) some = at_node queue.Spawner m h.spawner some
    grants _ some = refl

-- what is in flight is in none of them
flying_away : (n : ℕ) (o : Option LinkEnd) → Away n (in_flight o)
flying_away n o = let each = in_flight-node o n in record { dialer = each.1.0; handshakes = λ h. in_flight-handshake o n h; spawner = each.1.1.0; tracker = each.1.1.1.0 }

-- nor is what ends with a connection
pub connection_away : (n : ℕ) (o : Option Half) (m conn : ℕ) → Away n (in_connection o m conn)
connection_away n o m conn = let far = flying_away n (half_end o) in record { dialer = far.dialer; handshakes = far.handshakes; spawner = far.spawner; tracker = far.tracker }

-- nor what ends with another node
emptied_away : (log : List Entry) (m : ℕ) (q : Queue) → OfKinds m (λ p. same_queue p q ≡ false) → list_any (λ p. same_queue p q) (emptied_at log m) ≡ false
emptied_away log m q kinds = none (emptied_at log m) (each_emptied log m (λ p. same_queue p q ≡ false) kinds)
  where
    none : (ps : List Queue) → Each (λ p. same_queue p q ≡ false) ps → list_any (λ p. same_queue p q) ps ≡ false
    none [] h = refl
    none (p ∷ ps) h = ap (λ b. b || list_any (λ r. same_queue r q) ps) h.0 ∙ none ps h.1

node_away : (log : List Entry) (n m : ℕ) → (m == n) ≡ false → Away n (λ q. list_any (λ p. same_queue p q) (emptied_at log m))
node_away log n m differ = record {
  dialer = emptied_away log m (queue.Dialer n) (record {
    router = refl;
    tracker = refl;
    spawner = refl;
    arrivals = refl;
    update = refl;
    dialer = ap (λ b. b && true) differ;
    attempt = λ k. refl;
    handshake = λ h. refl;
    high = λ c. refl;
    low = λ c. refl;
    held = λ c. refl;
    control = λ c. refl;
    ready = λ c. refl;
    link = no_dialer;
  });
  handshakes = λ h. emptied_away log m (queue.Handshake n h) (record {
    router = refl;
    tracker = refl;
    spawner = refl;
    arrivals = refl;
    update = refl;
    dialer = refl;
    attempt = λ k. refl;
    handshake = λ i. ap (λ b. b && (i == h)) differ;
    high = λ c. refl;
    low = λ c. refl;
    held = λ c. refl;
    control = λ c. refl;
    ready = λ c. refl;
    link = no_handshake h;
  });
  spawner = emptied_away log m (queue.Spawner n) (record {
    router = refl;
    tracker = refl;
    spawner = ap (λ b. b && true) differ;
    arrivals = refl;
    update = refl;
    dialer = refl;
    attempt = λ k. refl;
    handshake = λ h. refl;
    high = λ c. refl;
    low = λ c. refl;
    held = λ c. refl;
    control = λ c. refl;
    ready = λ c. refl;
    link = no_spawner;
  });
  tracker = emptied_away log m (queue.Tracker n) (record {
    router = refl;
    tracker = ap (λ b. b && true) differ;
    spawner = refl;
    arrivals = refl;
    update = refl;
    dialer = refl;
    attempt = λ k. refl;
    handshake = λ h. refl;
    high = λ c. refl;
    low = λ c. refl;
    held = λ c. refl;
    control = λ c. refl;
    ready = λ c. refl;
    link = no_tracker;
  });
}
  where
    no_dialer : (l : ℕ) (s : Side) → same_queue (queue.Link l s) (queue.Dialer n) ≡ false
    no_dialer l side.Out = refl
    no_dialer l side.In = refl

    no_handshake : (h l : ℕ) (s : Side) → same_queue (queue.Link l s) (queue.Handshake n h) ≡ false
    no_handshake h l side.Out = refl
    no_handshake h l side.In = refl

    no_spawner : (l : ℕ) (s : Side) → same_queue (queue.Link l s) (queue.Spawner n) ≡ false
    no_spawner l side.Out = refl
    no_spawner l side.In = refl

    no_tracker : (l : ℕ) (s : Side) → same_queue (queue.Link l s) (queue.Tracker n) ≡ false
    no_tracker l side.Out = refl
    no_tracker l side.In = refl

-- what an act puts in none of them, and takes from none, it ends in none, unless it stops the node
pub ends_away : (configs : List Config) (log : List Entry) (n : ℕ) (a : Act) → stops n a ≡ false → Away n (writes configs log a) → Away n (ends_in configs log a)
ends_away configs log n (act.Stop by_start m) goes_on written = node_away log n m goes_on
ends_away configs log n (act.SendStep conn m) goes_on written = connection_away n (half_at log m conn) m conn
ends_away configs log n (act.RecvStep conn m) goes_on written = connection_away n (half_at log m conn) m conn
ends_away configs log n (act.Attempt e m) goes_on written =
    let far = flying_away n (dialing_end log m e) in record { dialer = far.dialer; handshakes = far.handshakes; spawner = far.spawner; tracker = far.tracker }
ends_away configs log n (act.Handshake e m) goes_on written =
    let over : Option LinkEnd = listening_end (came_over log e) in
    let far = flying_away n over in
    record {
      dialer = far.dialer;
      handshakes = λ h. ap (λ b. b || in_flight over (queue.Handshake n h)) (written.handshakes h) ∙ far.handshakes h;
      spawner = far.spawner;
      tracker = far.tracker;
    }
ends_away configs log n (act.Listener m) goes_on written =
    let far = flying_away n (arriving_end log m) in record { dialer = far.dialer; handshakes = far.handshakes; spawner = far.spawner; tracker = far.tracker }
ends_away configs log n a goes_on written = written

module _ (n : ℕ) (key : Key) where
  abbrev pub Plain : Queue × Item → Type 0
  Plain x = (puts_grant n key x ≡ false) × (puts_release n key x ≡ false)

  abbrev pub StandsPlain : Envelope → Type 0
  StandsPlain x = Plain (put_of x)

  pub plain_aside : (q : Queue) (i : Item) → IsAside n q → Plain (q, i)
  plain_aside q i h = (ap (λ b. b && grants_key key i) h.0, ap (λ b. b && releases_key key i) h.1)

  -- an item that grants nothing and releases nothing, wherever it is put
  pub plain_item : (q : Queue) (i : Item) → grants_key key i ≡ false → releases_key key i ≡ false → Plain (q, i)
  plain_item q i g r =
      (ap (λ b. holds_grants n q && b) g ∙ and_false (holds_grants n q), ap (λ b. same_queue (queue.Tracker n) q && b) r ∙ and_false (same_queue (queue.Tracker n) q))

  pub no_grants : (puts : List (Queue × Item)) → Each Plain puts → count_by (puts_grant n key) puts ≡ 0
  no_grants puts h = count_by-none (puts_grant n key) puts (Each-weaker Plain (λ x. puts_grant n key x ≡ false) (λ x p. p.0) puts h)

  pub no_releases : (puts : List (Queue × Item)) → Each Plain puts → count_by (puts_release n key) puts ≡ 0
  no_releases puts h = count_by-none (puts_release n key) puts (Each-weaker Plain (λ x. puts_release n key x ≡ false) (λ x p. p.1) puts h)

  pub none_grants : (puts : List (Queue × Item)) → Each Plain puts → list_any (puts_grant n key) puts ≡ false
  none_grants [] h = refl
  none_grants (x ∷ xs) h = ap (λ b. b || list_any (puts_grant n key) xs) h.0.0 ∙ none_grants xs h.1

  pub no_grants_stand : (xs : List Envelope) → Each StandsPlain xs → weight (puts_grant n key) xs ≡ 0
  no_grants_stand xs h =
      count_by-none (λ x. puts_grant n key (put_of x)) xs (Each-weaker StandsPlain (λ x. puts_grant n key (put_of x) ≡ false) (λ x p. p.0) xs h)

  pub no_releases_stand : (xs : List Envelope) → Each StandsPlain xs → weight (puts_release n key) xs ≡ 0
  no_releases_stand xs h =
      count_by-none (λ x. puts_release n key (put_of x)) xs (Each-weaker StandsPlain (λ x. puts_release n key (put_of x) ≡ false) (λ x p. p.1) xs h)

  -- what stands in such a queue
  pub stand_aside : (xs : List Envelope) → Each (λ x. IsAside n x.queue) xs → Each StandsPlain xs
  stand_aside xs h = Each-weaker (λ x. IsAside n x.queue) StandsPlain (λ x a. plain_aside x.queue x.item a) xs h

  -- a row moves no grant and no release
  pub record IsPlain (log : List Entry) (r : Row) (m : Moves log r) : Type 0 where
    pub taken : Each StandsPlain m.taken
    pub ended : Each StandsPlain m.ended
    pub puts : Each Plain r.puts

  -- as where its act reaches neither of their queues
  pub plain_out_of_reach : (configs : List Config) (a : Act) (log : List Entry) (r : Row) (m : Moves log r) → Reach configs a log r m
      → stops n a ≡ false → Away n (reads configs log a) → Away n (writes configs log a) → IsPlain log r m
  plain_out_of_reach configs a log r m reach goes_on read written = record {
    taken = stand_aside m.taken (Each-weaker (λ x. reads configs log a x.queue ≡ true) (λ x. IsAside n x.queue) (λ x k. away_aside n (reads configs log a) read x.queue k) m.taken reach.taken);
    ended = stand_aside m.ended (Each-weaker (λ x. ends_in configs log a x.queue ≡ true) (λ x. IsAside n x.queue) (λ x k. away_aside n (ends_in configs log a) (ends_away configs log n a goes_on written) x.queue k) m.ended reach.ended);
    puts = Each-weaker (λ x. writes configs log a x.0 ≡ true) Plain (λ x k. plain_aside x.0 x.1 (away_aside n (writes configs log a) written x.0 k)) r.puts reach.puts;
  }
