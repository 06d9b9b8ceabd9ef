-- The shapes of the steps of a sending half of a connection.
use Rattle.std.proofs.Common.{◌≡◌, ℕ, ◌+◌, Bool, true, false, cond, List, [], ◌∷◌, ◌++◌, map, take, Option, Some, None, inl, inr, refl, ap, sym, subst, ◌∙◌, arith, append-nil, eq-eqb}
use Rattle.std.specs.Prelude.{◌==◌, ◌&&◌, nat_lt, count_by, ◌||◌}
use Rattle.std.specs.List.{AllByRecursion as Each}
use Rattle.std.proofs.lemmas.List.Sums.{sum_by-cons}
use Rattle.p2p_log.specs.declared.config.Config.{Config}
use Rattle.p2p_log.specs.declared.queue.Queue.{Queue}
use Rattle.p2p_log.specs.declared.queue.Queue.TheVariants as queue
use Rattle.p2p_log.specs.declared.queue.Side.{Side}
use Rattle.p2p_log.specs.declared.item.Item.{Item}
use Rattle.p2p_log.specs.declared.item.Item.TheVariants as item
use Rattle.p2p_log.specs.declared.item.Envelope.{Envelope}
use Rattle.p2p_log.specs.declared.end.Cause.TheVariants as cause
use Rattle.p2p_log.specs.declared.entry.Ended.{Ended}
use Rattle.p2p_log.specs.declared.entry.Ended.TheVariants as ended
use Rattle.p2p_log.specs.declared.entry.Entry.{Entry}
use Rattle.p2p_log.specs.declared.entry.Reply.{Reply}
use Rattle.p2p_log.specs.declared.entry.Reply.TheVariants as reply
use Rattle.p2p_log.specs.declared.event.Act.{Act}
use Rattle.p2p_log.specs.declared.event.Act.TheVariants as act
use Rattle.p2p_log_rules.specs.declared.row.Half.{Half}
use Rattle.p2p_log_rules.specs.declared.row.Row.{Row}
use Rattle.p2p_log.specs.Lines.{name_of, live, line}
use Rattle.p2p_log_rules.specs.Connections.{half_at, is_begun, is_running, live_half}
use Rattle.p2p_log_rules.specs.Cutting.{is_broken}
use Rattle.p2p_log_rules.specs.Ending.{queues_with, end_row}
use Rattle.p2p_log_rules.specs.Facts.{is_up}
use Rattle.p2p_log.specs.Copies.{carries, carries_copy}
use Rattle.p2p_log_rules.specs.Effect
use Rattle.p2p_log_rules.specs.Pings.{ping_frame, ping_is_due}
use Rattle.p2p_log_rules.specs.Moves.{Moves}
use Rattle.p2p_log.proofs.Each.{Has, Each-has, Each-from_has, Each-always, Each-append, Each-map, Each-take, Each-weaker}
use Rattle.p2p_log_rules.proofs.Moves.{batch_stood, one_taken, stands_first, first_has}
use Rattle.p2p_log.proofs.QueueNames.{Each-in_queue}
use Rattle.p2p_log.proofs.Taken.{Each-taken}
use Rattle.p2p_log.specs.Taken.{AreTaken}
use Rattle.p2p_log_rules.proofs.Touches.{in_half}
use Rattle.p2p_log_laws.proofs.Reaching.{reads, writes}
use Rattle.p2p_log_laws.proofs.EndShape.{both, with_in, ended_shape}
use Rattle.p2p_log_laws.proofs.Fitting.{StandsFit, Fits, fits, is_bare}
use Rattle.p2p_log_laws.proofs.Shape.{Shape, Moved, Moved-nothing, Moved-put, Moved-idle, accepts, still, no_moves, one_move, first_in, bare_laws, quiet_laws, no_delivery, accepts-none}
use Rattle.p2p_log_laws.proofs.Spreading.{one}
use Rattle.p2p_log_laws.proofs.Telling.{IsConnection}
use Rattle.p2p_log_rules.proofs.Connections.{is_live}

batch_moved : (log : List Entry) (n conn most : ℕ) → AreTaken (live log) (Effect.batch log n conn most)
unfolding line
batch_moved log n conn most =
    subst (λ l. AreTaken (live log) (take most (line log (queue.High n conn) ++ l))) (append-nil (line log (queue.Low n conn)))
    (batch_stood log (queue.High n conn ∷ queue.Low n conn ∷ []) most ((refl, tt), (tt, tt)))

-- what a half of a connection has yet to write
abbrev IsRelayed : ℕ → ℕ → Envelope → Type 0
IsRelayed n conn y = (priority : Bool) × (y.queue ≡ Effect.relay_queue priority n conn)

batch_relayed : (log : List Entry) (n conn most : ℕ) → Each (IsRelayed n conn) (Effect.batch log n conn most)
unfolding line
batch_relayed log n conn most =
    let high = line log (queue.High n conn) in
    let low = line log (queue.Low n conn) in
    Each-take (IsRelayed n conn) most (high ++ low)
    (Each-append (IsRelayed n conn) high low
    (Each-weaker (λ y. y.queue ≡ queue.High n conn) (IsRelayed n conn) (λ y e. (true, e)) high (Each-in_queue (queue.High n conn) (live log)))
    (Each-weaker (λ y. y.queue ≡ queue.Low n conn) (IsRelayed n conn) (λ y e. (false, e)) low (Each-in_queue (queue.Low n conn) (live log))))

pub relayed_fits : (priority : Bool) (n conn link : ℕ) (s : Side) (i : Item) → fits (Effect.relay_queue priority n conn) i ≡ true → fits (queue.Link link s) i ≡ true
relayed_fits true n conn link s (item.Frame copy frame) h = refl
relayed_fits false n conn link s (item.Frame copy frame) h = refl
relayed_fits true n conn link s _ h = absurd (cc)
relayed_fits false n conn link s _ h = absurd (cc)

written_carry : (copy : ℕ × ℕ) (q : Queue) (ys : List Envelope) → count_by (carries copy) ys ≡ count_by (λ (x : Queue × Item). carries_copy copy x.1) (map (λ (y : Envelope). (q, y.item)) ys)
written_carry copy q [] = refl
written_carry copy q (y ∷ ys) =
    sum_by-cons (λ z. one (carries copy z)) y ys
    ∙ (ap (λ k. one (carries_copy copy y.item) + k) (written_carry copy q ys)
    ∙ sym (sum_by-cons (λ (z : Queue × Item). one (carries_copy copy z.1)) (q, y.item) (map (λ z. (q, z.item)) ys)))

written_moved : (configs : List Config) (log : List Entry) (conn n : ℕ) (half : Half) (ys : List Envelope) → half_at log n conn ≡ Some half → Each (IsRelayed n conn) ys
    → Moved configs log (act.SendStep conn n) reply.Ok ys (map (λ (z : Envelope). (queue.Link half.link half.writes, z.item)) ys)
written_moved configs log conn n half [] at relayed = Moved-nothing configs log (act.SendStep conn n) reply.Ok
written_moved configs log conn n half (y ∷ ys) at relayed =
    let q : Queue = queue.Link half.link half.writes in
    Moved-put configs log (act.SendStep conn n) reply.Ok y ys (q, y.item) (map (λ z. (q, z.item)) ys)
    (inr (record { node = n; conn = conn; priority = relayed.0.0; half = half; stood = relayed.0.1; at = at; over = refl; writes = refl; put = refl })) refl (written_moved configs log conn n half ys at relayed.1)

pub or_left : (b c : Bool) → b ≡ true → (b || c) ≡ true
or_left b c h = ap (λ t. t || c) h

-- it reads what it has yet to write
relay_read : (configs : List Config) (log : List Entry) (priority : Bool) (n conn : ℕ) → reads configs log (act.SendStep conn n) (Effect.relay_queue priority n conn) ≡ true
relay_read configs log true n conn = both n conn
relay_read configs log false n conn = both n conn

-- as is its link, in either direction
pub link_in_half : (o : Option Half) (half : Half) (n conn : ℕ) (s : Side) → o ≡ Some half → in_half o n conn (queue.Link half.link s) ≡ true
link_in_half o half n conn s at = ap (λ p. in_half p n conn (queue.Link half.link s)) at ∙ eq-eqb half.link half.link refl

-- a ping, where one is due, and what comes after it
with_ping : (P : Queue × Item → Type 0) (due : Bool) (q : Queue) (puts : List (Queue × Item)) → P (q, item.Frame None ping_frame) → Each P puts → Each P (Effect.ping_puts due q ++ puts)
with_ping P true q puts ping rest = (ping, rest)
with_ping P false q puts ping rest = rest

-- it comes of the act, and carries no copy
ping_moved : (configs : List Config) (log : List Entry) (a : Act) (r : Reply) (due : Bool) (q : Queue) (taken : List Envelope) (puts : List (Queue × Item))
    → Moved configs log a r taken puts → Moved configs log a r taken (Effect.ping_puts due q ++ puts)
ping_moved configs log a r true q taken puts m = Moved-idle configs log a r taken (q, item.Frame None ping_frame) puts refl m
ping_moved configs log a r false q taken puts m = m

ping_carries : (copy : ℕ × ℕ) (due : Bool) (q : Queue) (puts : List (Queue × Item))
    → count_by (λ (x : Queue × Item). carries_copy copy x.1) (Effect.ping_puts due q ++ puts) ≡ count_by (λ (x : Queue × Item). carries_copy copy x.1) puts
ping_carries copy true q puts =
    sum_by-cons (λ (x : Queue × Item). one (carries_copy copy x.1)) (q, item.Frame None ping_frame) puts ∙ zero_add (count_by (λ (x : Queue × Item). carries_copy copy x.1) puts)
  where
    zero_add : (k : ℕ) → 0 + k ≡ k
    zero_add k = omega arith
ping_carries copy false q puts = refl

-- what is written: a ping, where one is due, and these
written_shape : (configs : List Config) (log : List Entry) (conn n : ℕ) (half : Half) (due : Bool) (ys : List Envelope) → half_at log n conn ≡ Some half
    → AreTaken (live log) ys → Each (IsRelayed n conn) ys
    → Shape configs log (act.SendStep conn n) (record {
      reply = reply.Ok;
      takes = map name_of ys;
      puts = Effect.ping_puts due (queue.Link half.link half.writes) ++ map (λ (z : Envelope). (queue.Link half.link half.writes, z.item)) ys;
      ends = [];
    })
written_shape configs log conn n half due ys at stood relayed =
    let a : Act = act.SendStep conn n in
    let q : Queue = queue.Link half.link half.writes in
    let put : Envelope → Queue × Item = λ z. (q, z.item) in
    let own : Option Half = half_at log n conn in
    let near : writes configs log a q ≡ true = link_in_half own half n conn half.writes at in
    record {
      moves = record { taken = ys; ended = []; names = refl; gone = refl; stood = subst (AreTaken (live log)) (sym (append-nil ys)) stood };
      reach = record {
        taken = Each-weaker (IsRelayed n conn) (λ x. reads configs log a x.queue ≡ true) (λ x r. ap (reads configs log a) r.1 ∙ relay_read configs log r.0 n conn) ys relayed;
        ended = tt;
        puts = with_ping (λ x. writes configs log a x.0 ≡ true) due q (map put ys) near
            (Each-map (λ (x : Queue × Item). writes configs log a x.0 ≡ true) put ys (Each-always (λ z. writes configs log a (put z).0 ≡ true) (λ z. near) ys));
      };
      laws = λ fitting.
          let stand_fit : Each StandsFit ys = Each-taken StandsFit (live log) ys fitting stood in
          record {
            fitting = with_ping Fits due q (map put ys) refl (Each-map Fits put ys (Each-from_has (λ z. Fits (put z)) ys (λ z has.
                let r = Each-has (IsRelayed n conn) ys z relayed has in
                relayed_fits r.0 n conn half.link half.writes z.item (subst (λ p. fits p z.item ≡ true) r.1 (Each-has StandsFit ys z stand_fit has)))));
            moved = ping_moved configs log a reply.Ok due q ys (map put ys) (written_moved configs log conn n half ys at relayed);
            balanced = λ copy.
                let none : accepts log a reply.Ok copy ≡ 0 = accepts-none log a reply.Ok copy refl in
                let all : count_by (carries copy) ys ≡ count_by (λ x. carries_copy copy x.1) (map put ys) = written_carry copy q ys in
                let with = ping_carries copy due q (map put ys) in
                omega (arith, none, all, with);
            causes = λ stand ev acts. tt;
            delivers = no_delivery configs log a reply.Ok ys [] refl;
          };
    }

write_shape : (configs : List Config) (log : List Entry) (conn n : ℕ) (half : Half) (due : Bool) (ys : List Envelope) → half_at log n conn ≡ Some half
    → AreTaken (live log) ys → Each (IsRelayed n conn) ys → Shape configs log (act.SendStep conn n) (Effect.write_row (queue.Link half.link half.writes) due ys)
write_shape configs log conn n half false [] at stood relayed = still configs log (act.SendStep conn n) reply.Idle refl refl
write_shape configs log conn n half false (y ∷ ys) at stood relayed = written_shape configs log conn n half false (y ∷ ys) at stood relayed
write_shape configs log conn n half true ys at stood relayed = written_shape configs log conn n half true ys at stood relayed

answer_bare : (n conn : ℕ) (i : Item) → fits (queue.RouterAnswer n conn) i ≡ true → is_bare i ≡ true
answer_bare n c (item.Content d frame priority send to) h = absurd (cc)
answer_bare n c (item.Frame copy frame) h = absurd (cc)
answer_bare n c (item.Held d bytes copy) h = absurd (cc)
answer_bare n c (item.Message bytes copy from) h = absurd (cc)
answer_bare n c _ h = refl

begin_shape : (configs : List Config) (log : List Entry) (conn n : ℕ) (xs : List Envelope) → line log (queue.RouterAnswer n conn) ≡ xs
    → Shape configs log (act.SendStep conn n) (Effect.takes_oldest xs)
begin_shape configs log conn n [] e = still configs log (act.SendStep conn n) reply.Idle refl refl
begin_shape configs log conn n (x ∷ rest) e =
    let r : Row = Effect.takes_oldest (x ∷ rest) in
    record {
      moves = one_move log (queue.RouterAnswer n conn) x rest e r refl refl;
      reach = record { taken = (first_in (reads configs log (act.SendStep conn n)) log (queue.RouterAnswer n conn) x rest e (both n conn), tt); ended = tt; puts = tt };
      laws = λ fitting.
          let fit : fits x.queue x.item ≡ true = first_has StandsFit log (queue.RouterAnswer n conn) x rest fitting e in
          let light : is_bare x.item ≡ true = answer_bare n conn x.item (subst (λ q. fits q x.item ≡ true) (one_taken log (queue.RouterAnswer n conn) x rest e) fit) in
          quiet_laws configs log (act.SendStep conn n) r (one_move log (queue.RouterAnswer n conn) x rest e r refl refl) refl refl (light, tt) tt tt tt;
    }

-- it begins: its tracker and its router are told
start_shape : (configs : List Config) (log : List Entry) (conn n : ℕ) (half : Half) → half_at log n conn ≡ Some half
    → Shape configs log (act.SendStep conn n) (Effect.begin_row n conn half.peer)
start_shape configs log conn n half at =
    let a : Act = act.SendStep conn n in
    let r : Row = Effect.begin_row n conn half.peer in
    let m : Moves log r = no_moves log r refl refl in
    let told : IsConnection log n conn half.peer = (half, at, refl) in
    record {
      moves = m;
      reach = record { taken = tt; ended = tt; puts = (or_left (n == n) _ (eq-eqb n n refl), (or_left (n == n) _ (eq-eqb n n refl), tt)) };
      laws = λ fitting.
          bare_laws configs log a r m refl refl tt tt tt (refl, (refl, tt))
          (inr (conn, half.peer, told, refl, refl), (inr (inl (conn, half.peer, told, refl, refl)), tt)) (refl, (refl, tt));
    }

-- ---- it ends its connection

module _ (configs : List Config) (log : List Entry) (conn n : ℕ) (half : Half) (lived : live_half log n conn ≡ Some half) where
  abbrev a : Act
  a = act.SendStep conn n

  at : half_at log n conn ≡ Some half
  at = (is_live log n conn half lived).at

  sender_ends : (why : Ended) (taken : List Envelope) → AreTaken (live log) taken → Each (λ x. reads configs log a x.queue ≡ true) taken
      → Each (λ x. Has (queues_with n conn half) x.queue) taken → Shape configs log a (end_row log n conn half why cause.ConnectionEnded taken)
  sender_ends why taken stood read own =
      ended_shape configs log a n conn half lived true refl (λ r. refl) (with_in log n conn half at)
      (or_left (n == n) _ (eq-eqb n n refl)) (or_left (n == n) _ (eq-eqb n n refl)) why taken stood read own

  relayed_with : (priority : Bool) → Has (queues_with n conn half) (Effect.relay_queue priority n conn)
  relayed_with true = inl refl
  relayed_with false = inr (inl refl)

  -- what it has to write, where the other end of its link was dropped, or the link was cut
  send_failed : (ys : List Envelope) → AreTaken (live log) ys → Each (IsRelayed n conn) ys → Shape configs log a (end_row log n conn half ended.SendFailed cause.ConnectionEnded ys)
  send_failed ys stood relayed =
      sender_ends ended.SendFailed ys stood
      (Each-weaker (IsRelayed n conn) (λ x. reads configs log a x.queue ≡ true) (λ x r. ap (reads configs log a) r.1 ∙ relay_read configs log r.0 n conn) ys relayed)
      (Each-weaker (IsRelayed n conn) (λ x. Has (queues_with n conn half) x.queue) (λ x r. subst (Has (queues_with n conn half)) (sym r.1) (relayed_with r.0)) ys relayed)

  -- it is told to
  killed : (x : Envelope) (rest : List Envelope) → line log (queue.Control n conn) ≡ x ∷ rest → Shape configs log a (end_row log n conn half ended.Killed cause.ConnectionEnded (x ∷ []))
  killed x rest first =
      sender_ends ended.Killed (x ∷ []) (stands_first log (queue.Control n conn) x rest first)
      (first_in (reads configs log a) log (queue.Control n conn) x rest first (or_left ((n == n) && (conn == conn)) false (both n conn)), tt)
      (subst (Has (queues_with n conn half)) (sym (one_taken log (queue.Control n conn) x rest first)) (inr (inr (inr (inl refl)))), tt)

  told_shape : (xs : List Envelope) (room : Bool) (r : Row) → line log (queue.Control n conn) ≡ xs → Shape configs log a r → Shape configs log a (Effect.told_to_end_row log n conn half xs room r)
  told_shape [] room r first s = s
  told_shape (x ∷ rest) true r first s = killed x rest first
  told_shape (x ∷ rest) false r first s = s

  written_row_shape : (broken due : Bool) (ys : List Envelope) → AreTaken (live log) ys → Each (IsRelayed n conn) ys → Shape configs log a (Effect.written_row log n conn half broken due ys)
  written_row_shape true false [] stood relayed = still configs log a reply.Idle refl refl
  written_row_shape false false [] stood relayed = still configs log a reply.Idle refl refl
  written_row_shape true true ys stood relayed = send_failed ys stood relayed
  written_row_shape true false (y ∷ ys) stood relayed = send_failed (y ∷ ys) stood relayed
  written_row_shape false true ys stood relayed = write_shape configs log conn n half true ys at stood relayed
  written_row_shape false false (y ∷ ys) stood relayed = write_shape configs log conn n half false (y ∷ ys) at stood relayed

  running_shape : (due : Bool) → Shape configs log a (Effect.running_row configs log n conn half due)
  running_shape due =
      let most : ℕ = Effect.beside_ping due (Effect.batch_size_at configs n) in
      let broken : Bool = is_broken log half.link (Effect.other_side half.writes) in
      told_shape (line log (queue.Control n conn)) (nat_lt 0 most) (Effect.written_row log n conn half broken due (Effect.batch log n conn most)) refl
      (written_row_shape broken due (Effect.batch log n conn most) (batch_moved log n conn most) (batch_relayed log n conn most))

  half_shape : (moment : ℕ) (begun running : Bool) → Shape configs log a (Effect.half_row configs log n conn moment half begun running)
  half_shape moment false running = start_shape configs log conn n half at
  half_shape moment true false = begin_shape configs log conn n (line log (queue.RouterAnswer n conn)) refl
  half_shape moment true true = running_shape (ping_is_due configs log n conn moment)

-- ---- the step

sender_shape : (configs : List Config) (log : List Entry) (conn n moment : ℕ) (o : Option Half) → live_half log n conn ≡ o
    → Shape configs log (act.SendStep conn n) (Effect.sender_row configs log n conn moment o)
sender_shape configs log conn n moment None lived = still configs log (act.SendStep conn n) reply.Gone refl refl
sender_shape configs log conn n moment (Some half) lived = half_shape configs log conn n half lived moment (is_begun log n conn) (is_running log n conn)

pub send_step_shape : (configs : List Config) (log : List Entry) (conn n moment : ℕ)
    → Shape configs log (act.SendStep conn n) (Effect.send_step_row configs log conn n moment)
send_step_shape configs log conn n moment = by_up (is_up log n)
  where
    by_up : (b : Bool) → Shape configs log (act.SendStep conn n) (cond b (Effect.sender_row configs log n conn moment (live_half log n conn)) (Effect.only reply.Gone))
    by_up true = sender_shape configs log conn n moment (live_half log n conn) refl
    by_up false = still configs log (act.SendStep conn n) reply.Gone refl refl
