-- The shapes of calls: register, start and receive.
use Rattle.p2p_log_laws.proofs.OneShape.{spent_shape}
use Rattle.p2p_log.specs.declared.event.Act.{Act}
use Rattle.p2p_log_rules.specs.Reading.{reading_of, told_of_reading, is_read}
use Rattle.p2p_log.specs.declared.entry.Reply.{Reply}
use Rattle.p2p_log.specs.Sending.{sending_of, keys_sent}
use Rattle.std.proofs.Common.{◌≡◌, ℕ, Bool, true, false, cond, List, [], ◌∷◌, map, Some, inl, refl, ap, sym, ◌∙◌}
use Rattle.std.specs.Prelude.{slice_get}
use Rattle.p2p_log.specs.declared.config.Config.{Config}
use Rattle.p2p_log.specs.declared.queue.Queue.{Queue}
use Rattle.p2p_log.specs.declared.queue.Queue.TheVariants as queue
use Rattle.p2p_log.specs.declared.item.Item.{Item}
use Rattle.p2p_log.specs.declared.item.Item.TheVariants as item
use Rattle.p2p_log.specs.declared.item.Envelope.{Envelope}
use Rattle.p2p_log.specs.declared.end.End.TheVariants as end
use Rattle.p2p_log.specs.declared.end.Outcome.TheVariants as outcome
use Rattle.p2p_log.specs.declared.entry.Entry.{Entry}
use Rattle.p2p_log.specs.declared.entry.Reply.TheVariants as reply
use Rattle.p2p_log.specs.declared.event.Act.TheVariants as act
use Rattle.p2p_log.specs.declared.event.Rate.{Rate}
use Rattle.p2p_log.specs.Lines.{name_of, same_name, line}
use Rattle.p2p_log_rules.specs.Closing.{has_reader}
use Rattle.p2p_log_rules.specs.Facts.{is_stopped, channels, capacity_for}
use Rattle.p2p_log.specs.Copies.{carries_copy, copies_of}
use Rattle.p2p_log_rules.specs.declared.row.Row.{Row}
use Rattle.p2p_log_rules.specs.Effect
use Rattle.p2p_log.proofs.Each.{Each-always, Each-map}
use Rattle.p2p_log_rules.proofs.Moves.{one_taken}
use Rattle.p2p_log.proofs.Queues.{same_queue-refl}
use Rattle.p2p_log_laws.proofs.Reaching.{reads, writes}
use Rattle.p2p_log_laws.proofs.Shape.{Shape, IsQuiet, still, no_moves, quiet_laws}

pub register_shape : (configs : List Config) (log : List Entry) (c n : ℕ) (rate : Rate)
    → Shape configs log (act.Register c n rate) (Effect.register_row configs log n rate)
register_shape configs log c n rate = by (is_stopped log n)
  where
    by : (b : Bool) → Shape configs log (act.Register c n rate) (cond b (Effect.only reply.Gone) (Effect.only (reply.Capacity (capacity_for (slice_get configs n) rate))))
    by true = still configs log (act.Register c n rate) reply.Gone refl refl
    by false = still configs log (act.Register c n rate) (reply.Capacity (capacity_for (slice_get configs n) rate)) refl refl

pub start_shape : (configs : List Config) (log : List Entry) (n : ℕ) → Shape configs log (act.Start n) (Effect.start_row configs log n)
start_shape configs log n = by (is_stopped log n)
  where
    put : ℕ × ℕ → Queue × Item
    put c = (queue.Router n, item.Subscribe c.0)

    cs : List (ℕ × ℕ)
    cs = channels configs log n

    due : Row
    due = record { reply = reply.Ok; takes = []; puts = map put cs; ends = [] }

    by : (b : Bool) → Shape configs log (act.Start n) (cond b (Effect.only reply.Gone) due)
    by true = still configs log (act.Start n) reply.Gone refl refl
    by false = record {
      moves = no_moves log due refl refl;
      reach = record { taken = tt; ended = tt; puts = Each-map (λ x. writes configs log (act.Start n) x.0 ≡ true) put cs (Each-always (λ c. writes configs log (act.Start n) (put c).0 ≡ true) (λ c. same_queue-refl (queue.Router n)) cs) };
      laws = λ fitting. quiet_laws configs log (act.Start n) due (no_moves log due refl refl) refl refl tt tt tt (Each-map IsQuiet put cs (Each-always (λ c. IsQuiet (put c)) (λ c. (refl, refl)) cs));
    }

-- ---- reading

module _ (configs : List Config) (log : List Entry) (a : Act) (q : Queue) (reads_it : reading_of configs log a ≡ Some q) (read : reads configs log a q ≡ true)
    (none : (r : Reply) → keys_sent (sending_of a r) ≡ []) where
  carrying_shape : (x : Envelope) (rest : List Envelope) (i : Item) (copy : ℕ × ℕ) → line log q ≡ x ∷ rest → x.item ≡ i → copies_of i ≡ copy ∷ []
      → ((other : ℕ × ℕ) → carries_copy other i ≡ same_name other copy) → is_read (told_of_reading q i) ≡ true
      → Shape configs log a (record { reply = told_of_reading q i; takes = name_of x ∷ []; puts = []; ends = end.Copy copy.0 copy.1 outcome.Delivered ∷ [] })
  carrying_shape x rest i copy first is carried alone says =
      spent_shape configs log a (told_of_reading q i) (none (told_of_reading q i)) q x rest first read copy outcome.Delivered
      (λ other. ap (carries_copy other) is ∙ alone other)
      (λ stand ev acts. record {
        queue = q;
        reads = ap (reading_of configs log) acts ∙ reads_it;
        oldest = x;
        later = rest;
        stood = first;
        takes = refl;
        carried = ap copies_of is ∙ carried;
        tells = ap (told_of_reading q) (sym is);
        says = says;
        ended = refl;
      })
      (λ says. record {
        queue = q;
        reads = reads_it;
        read = x;
        has = inl refl;
        in_queue = one_taken log q x rest first;
        tells = ap (told_of_reading q) (sym is);
        ended = sym (ap (λ cs. map (λ c. end.Copy c.0 c.1 outcome.Delivered) cs) (ap copies_of is ∙ carried));
      })

  one_shape : (x : Envelope) (rest : List Envelope) (i : Item) → line log q ≡ x ∷ rest → x.item ≡ i → Shape configs log a (Effect.read_row (name_of x) i)
  one_shape x rest (item.Message bytes copy from) first is = carrying_shape x rest (item.Message bytes copy from) copy first is refl (λ other. refl) refl
  one_shape x rest _ first is = still configs log a reply.Pending (none reply.Pending) refl

  oldest_shape : (empty : Reply) → is_read empty ≡ false → (xs : List Envelope) → line log q ≡ xs → Shape configs log a (Effect.oldest_read empty xs)
  oldest_shape empty silent [] first = still configs log a empty (none empty) silent
  oldest_shape empty silent (x ∷ rest) first = one_shape x rest x.item first refl

  -- an act that reads the oldest message of its queue
  read_shape : (empty : Reply) → is_read empty ≡ false → Shape configs log a (Effect.oldest_read empty (line log q))
  read_shape empty silent = oldest_shape empty silent (line log q) refl

pub recv_shape : (configs : List Config) (log : List Entry) (c n : ℕ) → Shape configs log (act.Recv c n) (Effect.recv_row configs log c n)
recv_shape configs log c n =
    elim (has_reader configs log n c) as (λ b. Shape configs log (act.Recv c n) (cond b (Effect.oldest_read (cond (is_stopped log n) reply.NetworkClosed reply.Pending) (line log (queue.Channel n c))) (Effect.only reply.Gone))) [
      | false ↦ still configs log (act.Recv c n) reply.Gone refl refl
      | true ↦ by (is_stopped log n)
    ]
  where
    by : (b : Bool) → Shape configs log (act.Recv c n) (Effect.oldest_read (cond b reply.NetworkClosed reply.Pending) (line log (queue.Channel n c)))
    by true = read_shape configs log (act.Recv c n) (queue.Channel n c) refl (same_queue-refl (queue.Channel n c)) (λ r. refl) reply.NetworkClosed refl
    by false = read_shape configs log (act.Recv c n) (queue.Channel n c) refl (same_queue-refl (queue.Channel n c)) (λ r. refl) reply.Pending refl
