-- The shapes of messages that a node offers: send, check, and what is sent to those whom a check admitted.
use Rattle.std.proofs.Common.{◌≡◌, ℕ, suc, ◌+◌, ◌<◌, Bool, true, false, cond, List, [], ◌∷◌, ◌++◌, map, take, length, Option, Some, None, inr, refl, ap, sym, ◌∙◌, arith, subst}
use Rattle.std.specs.Prelude.{◌==◌, ◌&&◌, not, nat_le, nat_lt, count_by, flat_map, filter}
use Rattle.std.specs.List.{AllByRecursion as Each}
use Rattle.p2p_base.specs.declared.key.Key.{Key}
use Rattle.p2p_base.specs.declared.outcome.Feedback.TheVariants as feedback
use Rattle.p2p_base.specs.declared.outcome.Unreliable.TheVariants.{Outcome, Rejected}
use Rattle.p2p_log.specs.Sending.Sender.{Node}
use Rattle.p2p_log.specs.declared.config.Config.{Config}
use Rattle.p2p_log.specs.declared.queue.Queue.{Queue}
use Rattle.p2p_log.specs.declared.queue.Queue.TheVariants as queue
use Rattle.p2p_log.specs.declared.item.Item.{Item}
use Rattle.p2p_log.specs.declared.item.Item.TheVariants as item
use Rattle.p2p_log.specs.declared.item.Envelope.{Envelope}
use Rattle.p2p_log.specs.declared.end.Outcome.{Outcome as How}
use Rattle.p2p_log.specs.declared.end.Outcome.TheVariants as outcome
use Rattle.p2p_log.specs.declared.end.Cause.TheVariants as cause
use Rattle.p2p_log.specs.declared.entry.Entry.{Entry}
use Rattle.p2p_log.specs.declared.entry.Reply.{Reply}
use Rattle.p2p_log.specs.declared.entry.Reply.TheVariants as reply
use Rattle.p2p_log.specs.declared.event.Act.{Act}
use Rattle.p2p_log.specs.declared.event.Act.TheVariants as act
use Rattle.p2p_log.specs.declared.event.Recipients.{Recipients}
use Rattle.p2p_log.specs.declared.event.Recipients.TheVariants as recipients
use Rattle.p2p_log.specs.Copies.{carries, ends_copy, copies_from}
use Rattle.p2p_log.specs.Lines.{name_of, ended_item, live, line}
use Rattle.p2p_log.specs.Sending.{Sending, sending_of, keys_sent}
use Rattle.p2p_log.specs.Taken.{AreTaken}
use Rattle.p2p_log.proofs.Each.{Each-weaker, count_by-none}
use Rattle.p2p_log.proofs.Queues.{same_queue-refl}
use Rattle.p2p_log_rules.specs.declared.row.Row.{Row}
use Rattle.p2p_log_rules.specs.Admitting.{offered, keys_admitted, retry_moment}
use Rattle.p2p_log_rules.specs.Checking.{Check, check_of}
use Rattle.p2p_log_rules.specs.Facts.{is_up, is_started, is_stopped, channels, capacity_in}
use Rattle.p2p_log_rules.specs.Frames.{frame_of}
use Rattle.p2p_log_rules.specs.Effect
use Rattle.p2p_log_rules.specs.Effect.{entry_of}
use Rattle.p2p_log_rules.specs.Moves.{Moves}
use Rattle.p2p_log_rules.specs.Reading.{is_read}
use Rattle.p2p_log_rules.proofs.Bools.{and_true}
use Rattle.p2p_log_rules.proofs.Moves.{one_taken, stands_first, first_has}
use Rattle.p2p_log_rules.proofs.Touches.{in_mailbox_of}
use Rattle.p2p_log_laws.proofs.Reaching.{reads, writes}
use Rattle.p2p_log_laws.proofs.Carried.{IsSublist-put}
use Rattle.p2p_log_laws.proofs.Fitting.{StandsFit, is_bare, fits, bare_there, bare_carries_none}
use Rattle.p2p_log_laws.proofs.Shape.{Shape, Moved-nothing, Moved-own, accepts, still, quiet_laws, no_delivery, accepts-sent, first_in}
use Rattle.p2p_log_laws.proofs.Showing.{EndShows}
use Rattle.p2p_log_laws.proofs.Spreading.{from_place, from_first, one, count_by-copies_end}
use Rattle.p2p_log_laws.specs.Flow.{IsSublist, put_copies}

-- ---- the list of peers that is taken

-- what an act takes that carries no copy: these names
pub record TakesBare (configs : List Config) (log : List Entry) (a : Act) (names : List (ℕ × ℕ)) : Type 0 where
  pub took : List Envelope
  pub named : names ≡ map name_of took
  pub stood : AreTaken (live log) (took ++ [])
  pub light : Each StandsFit (live log) → Each (λ x. is_bare x.item ≡ true) took
  pub near : Each (λ x. reads configs log a x.queue ≡ true) took

takes_none : (configs : List Config) (log : List Entry) (a : Act) → TakesBare configs log a []
takes_none configs log a = record { took = []; named = refl; stood = tt; light = λ fitting. tt; near = tt }

first_list : (configs : List Config) (log : List Entry) (a : Act) (n c : ℕ) → reads configs log a (queue.Peers n c) ≡ true → (xs : List Envelope) → line log (queue.Peers n c) ≡ xs
    → TakesBare configs log a (map name_of (take 1 xs))
first_list configs log a n c near [] is = takes_none configs log a
first_list configs log a n c near (x ∷ rest) is = record {
  took = x ∷ [];
  named = refl;
  stood = stands_first log (queue.Peers n c) x rest is;
  light = λ fitting. (
    bare_there (queue.Peers n c) x.item refl
        (subst (λ q. fits q x.item ≡ true) (one_taken log (queue.Peers n c) x rest is) (first_has StandsFit log (queue.Peers n c) x rest fitting is)),
    tt,
  );
  near = (first_in (reads configs log a) log (queue.Peers n c) x rest is near, tt);
}

-- what asks a quota for all
takes_list : (configs : List Config) (log : List Entry) (a : Act) (n c : ℕ) (to : Recipients) → (to ≡ recipients.All → reads configs log a (queue.Peers n c) ≡ true)
    → TakesBare configs log a (Effect.takes_list log n c to)
takes_list configs log a n c recipients.All near = first_list configs log a n c (near refl) (line log (queue.Peers n c)) refl
takes_list configs log a n c (recipients.One k) near = takes_none configs log a
takes_list configs log a n c (recipients.Some ks) near = takes_none configs log a

-- ---- rows with it

module _ (configs : List Config) (log : List Entry) (a : Act) (names : List (ℕ × ℕ)) (l : TakesBare configs log a names) where
  abbrev pub moves_with : (r : Row) → flat_map ended_item r.ends ≡ [] → Moves log (Effect.taking names r)
  moves_with r none = record { taken = l.took; ended = []; names = l.named; gone = none; stood = l.stood }

  carries_none : Each StandsFit (live log) → (copy : ℕ × ℕ) → count_by (carries copy) l.took ≡ 0
  carries_none fitting copy =
      count_by-none (carries copy) l.took
      (Each-weaker (λ x. is_bare x.item ≡ true) (λ x. carries copy x ≡ false) (λ x b. bare_carries_none copy x.item b) l.took (l.light fitting))

  -- nothing else comes of it but a reply
  pub taken_still : (said : Reply) → keys_sent (sending_of a said) ≡ [] → is_read said ≡ false → Shape configs log a (Effect.taking names (Effect.only said))
  taken_still said none silent = record {
    moves = moves_with (Effect.only said) refl;
    reach = record { taken = l.near; ended = tt; puts = tt };
    laws = λ fitting. quiet_laws configs log a (Effect.taking names (Effect.only said)) (moves_with (Effect.only said) refl) none silent (l.light fitting) tt tt tt;
  }

-- ---- a message

pub copies_end_no_item : (send p : ℕ) (ks : List Key) (o : How) → flat_map ended_item (Effect.copies_end send p ks o) ≡ []
copies_end_no_item send p [] o = refl
copies_end_no_item send p (k ∷ ks) o = copies_end_no_item send (p + 1) ks o

-- each copy of a send at a node that has not started
unbound_each : (configs : List Config) (log : List Entry) (e : Entry) (s : Sending) (n : ℕ) → sending_of e.event.act e.reply ≡ Some s → s.by ≡ Node n → is_started log n ≡ false → is_stopped log n ≡ false
    → (p : ℕ) (ks : List Key) → p + length ks ≡ length s.keys → Each (EndShows configs log e) (Effect.copies_end (length log) p ks (outcome.Dropped cause.Unbound))
unbound_each configs log e s n sends by down lasts p [] long = tt
unbound_each configs log e s n sends by down lasts p (k ∷ ks) long = (
  record { sending = s; sends = sends; here = refl; has_copy = within p (length ks) (length (k ∷ ks)) (length s.keys) refl long; node = n; by = by; not_started = down; not_stopped = lasts },
  unbound_each configs log e s n sends by down lasts (p + 1) ks (longer p (length ks) (length (k ∷ ks)) (length s.keys) refl long),
)
  where
    within : (p l m all : ℕ) → m ≡ suc l → p + m ≡ all → p < all
    within p l m all e h = omega arith

    longer : (p l m all : ℕ) → m ≡ suc l → p + m ≡ all → (p + 1) + l ≡ all
    longer p l m all e h = omega arith

-- a node that is not up, and has not stopped, has not started
not_up : (log : List Entry) (n : ℕ) → is_up log n ≡ false → is_stopped log n ≡ false → is_started log n ≡ false
unfolding is_up
not_up log n down lasts = sym (and_true (is_started log n)) ∙ (ap (λ b. is_started log n && not b) (sym lasts) ∙ down)

-- what a message is accepted and refused with, and what where the mailbox is closed
pub record Tells (a : Act) (s : Sending) (accepted refused closed : Reply) : Type 0 where
  pub sends : sending_of a accepted ≡ Some s
  pub refuses : keys_sent (sending_of a refused) ≡ []
  pub silent : is_read accepted ≡ false
  pub silent_refused : is_read refused ≡ false
  pub closes : keys_sent (sending_of a closed) ≡ []
  pub silent_closed : is_read closed ≡ false

module _ (configs : List Config) (log : List Entry) (a : Act) (names : List (ℕ × ℕ)) (l : TakesBare configs log a names) (s : Sending) (accepted refused closed : Reply) (t : Tells a s accepted refused closed)
    (n : ℕ) (by : s.by ≡ Node n) (near : writes configs log a (queue.Router n) ≡ true) where
  -- by whether the node has started and its router's mailbox is full
  sent_shape : (up full : Bool) → is_up log n ≡ up → is_stopped log n ≡ false → Shape configs log a (Effect.taking names (Effect.sent_row accepted refused up full n (length log) s.channel s.priority (frame_of s.channel s.bytes) s.keys))
  sent_shape false full up lasts =
      let r : Row = Effect.taking names (Effect.sent_row accepted refused false full n (length log) s.channel s.priority (frame_of s.channel s.bytes) s.keys) in
      record {
        moves = moves_with configs log a names l r (copies_end_no_item (length log) 0 s.keys (outcome.Dropped cause.Unbound));
        reach = record { taken = l.near; ended = tt; puts = tt };
        laws = λ fitting. record {
          fitting = tt;
          moved = Moved-own configs log a accepted l.took [] (Moved-nothing configs log a accepted);
          balanced = λ copy.
              let all : count_by (ends_copy copy) r.ends ≡ from_place copy (length log) 0 (length s.keys) =
              count_by-copies_end copy (length log) 0 s.keys (outcome.Dropped cause.Unbound)
              in
              let first = from_first copy.0 copy.1 (length log) (length s.keys) in
              let keys : accepts log a accepted copy ≡ one ((length log == copy.0) && nat_lt copy.1 (length s.keys)) = accepts-sent log a accepted copy s t.sends in
              let none : count_by (carries copy) l.took ≡ 0 = carries_none configs log a names l fitting copy in
              omega (arith, all, first, keys, none);
          causes = λ stand ev acts.
              unbound_each configs log (entry_of ev r) s n (ap (λ b. sending_of b accepted) acts ∙ t.sends) by (not_up log n up lasts) lasts 0 s.keys (none (length s.keys));
          delivers = no_delivery configs log a accepted l.took r.ends t.silent;
        };
      }
    where
      none : (n : ℕ) → 0 + n ≡ n
      none n = omega arith
  sent_shape true true up lasts = taken_still configs log a names l refused t.refuses t.silent_refused
  sent_shape true false up lasts =
      let put : Queue × Item = (queue.Router n, item.Content s.channel (frame_of s.channel s.bytes) s.priority (length log) s.keys) in
      let r : Row = Effect.taking names (Effect.sent_row accepted refused true false n (length log) s.channel s.priority (frame_of s.channel s.bytes) s.keys) in
      record {
        moves = moves_with configs log a names l r refl;
        reach = record { taken = l.near; ended = tt; puts = (near, tt) };
        laws = λ fitting. record {
          fitting = (refl, tt);
          moved = Moved-own configs log a accepted l.took (put ∷ []) (
            (inr (inr (s, t.sends, by, refl)), tt),
            λ p. subst (λ o. IsSublist (put_copies (filter p (put ∷ []))) (copies_from (length log) 0 (keys_sent o))) (sym t.sends) (IsSublist-put p put),
          );
          balanced = λ copy.
              let keys : accepts log a accepted copy ≡ one ((length log == copy.0) && nat_lt copy.1 (length s.keys)) = accepts-sent log a accepted copy s t.sends in
              let none : count_by (carries copy) l.took ≡ 0 = carries_none configs log a names l fitting copy in
              single ((length log == copy.0) && nat_lt copy.1 (length s.keys)) (accepts log a accepted copy) (count_by (carries copy) l.took) keys none;
          causes = λ stand ev acts. tt;
          delivers = no_delivery configs log a accepted l.took [] t.silent;
        };
      }
    where
      single : (b : Bool) (x y : ℕ) → x ≡ one b → y ≡ 0 → x + (y + 0) ≡ (0 + one b) + 0
      single b x y h k = omega arith

  abbrev to_row : Row
  to_row = Effect.send_to_row configs log accepted refused closed s.bytes s.channel n s.priority s.keys

  -- and by whether the message is longer than the node lets it be
  pub send_to_shape : ((size limit : ℕ) → keys_sent (sending_of a (reply.MessageTooLarge size limit)) ≡ []) → Shape configs log a (Effect.taking names to_row)
  send_to_shape none = by_size (nat_lt (Effect.limit_at configs n) (length s.bytes))
    where
      full : Bool
      full = nat_le (Effect.router_capacity configs log n) (length (line log (queue.Router n)))

      sent : Row
      sent = Effect.sent_row accepted refused (is_up log n) full n (length log) s.channel s.priority (frame_of s.channel s.bytes) s.keys

      by_stop : (b : Bool) → is_stopped log n ≡ b → Shape configs log a (Effect.taking names (cond b (Effect.only closed) sent))
      by_stop true is = taken_still configs log a names l closed t.closes t.silent_closed
      by_stop false is = sent_shape (is_up log n) full refl is

      by_size : (b : Bool) → Shape configs log a (Effect.taking names (Effect.fitting_row b (length s.bytes) (Effect.limit_at configs n) (cond (is_stopped log n) (Effect.only closed) sent)))
      by_size true = taken_still configs log a names l (reply.MessageTooLarge (length s.bytes) (Effect.limit_at configs n)) (none (length s.bytes) (Effect.limit_at configs n)) refl
      by_size false = by_stop (is_stopped log n) refl

-- ---- the acts

pub send_shape : (configs : List Config) (log : List Entry) (bytes : List ℕ) (c n : ℕ) (priority : Bool) (to : Recipients) (moment : ℕ)
    → Shape configs log (act.Send bytes c n priority to) (Effect.send_row configs log bytes c n priority to moment)
send_shape configs log bytes c n priority to moment =
    elim (capacity_in (channels configs log n) c) as (λ o. Shape configs log (act.Send bytes c n priority to) (elim o [
      | None ↦ Effect.only reply.Gone
      | Some _ ↦ Effect.taking names (Effect.send_keys_row configs log bytes c n priority asked (keys_admitted log n c moment asked))
    ])) [
      | None ↦ still configs log (act.Send bytes c n priority to) reply.Gone refl refl
      | Some _ ↦ by_keys asked (keys_admitted log n c moment asked)
    ]
  where
    asked : List Key
    asked = offered log n c to

    names : List (ℕ × ℕ)
    names = Effect.takes_list log n c to

    listed : TakesBare configs log (act.Send bytes c n priority to) names
    listed = takes_list configs log (act.Send bytes c n priority to) n c to (λ all. ap (λ t. reads configs log (act.Send bytes c n priority t) (queue.Peers n c)) all ∙ same_queue-refl (queue.Peers n c))

    to_these : (keys : List Key) → Shape configs log (act.Send bytes c n priority to) (Effect.taking names (Effect.send_to_row configs log (reply.Sent keys) (reply.Sent []) (reply.Sent []) bytes c n priority keys))
    to_these keys =
        send_to_shape configs log (act.Send bytes c n priority to) names listed (record { by = Node n; channel = c; priority = priority; bytes = bytes; keys = keys }) (reply.Sent keys) (reply.Sent []) (reply.Sent [])
        (record { sends = refl; refuses = refl; silent = refl; silent_refused = refl; closes = refl; silent_closed = refl }) n refl (same_queue-refl (queue.Router n)) (λ size limit. refl)

    by_keys : (offers keys : List Key) → Shape configs log (act.Send bytes c n priority to) (Effect.taking names (Effect.send_keys_row configs log bytes c n priority offers keys))
    by_keys [] keys = to_these keys
    by_keys (k ∷ ks) [] = taken_still configs log (act.Send bytes c n priority to) names listed (reply.Sent []) refl refl
    by_keys (k ∷ ks) (j ∷ js) = to_these (j ∷ js)

pub check_shape : (configs : List Config) (log : List Entry) (c n : ℕ) (to : Recipients) (moment : ℕ) → Shape configs log (act.Check c n to) (Effect.check_row configs log c n to moment)
check_shape configs log c n to moment =
    elim (capacity_in (channels configs log n) c) as (λ o. Shape configs log (act.Check c n to) (elim o [
      | None ↦ Effect.only reply.Gone
      | Some _ ↦ Effect.taking names (Effect.checked_row asked (keys_admitted log n c moment asked) (retry_moment log n c moment asked))
    ])) [
      | None ↦ still configs log (act.Check c n to) reply.Gone refl refl
      | Some _ ↦ by_keys asked (keys_admitted log n c moment asked)
    ]
  where
    asked : List Key
    asked = offered log n c to

    names : List (ℕ × ℕ)
    names = Effect.takes_list log n c to

    listed : TakesBare configs log (act.Check c n to) names
    listed = takes_list configs log (act.Check c n to) n c to (λ all. ap (λ t. reads configs log (act.Check c n t) (queue.Peers n c)) all ∙ same_queue-refl (queue.Peers n c))

    by_keys : (offers keys : List Key) → Shape configs log (act.Check c n to) (Effect.taking names (Effect.checked_row offers keys (retry_moment log n c moment asked)))
    by_keys [] keys = taken_still configs log (act.Check c n to) names listed (reply.Checked keys) refl refl
    by_keys (k ∷ ks) [] = taken_still configs log (act.Check c n to) names listed (reply.Retry (retry_moment log n c moment asked)) refl refl
    by_keys (k ∷ ks) (j ∷ js) = taken_still configs log (act.Check c n to) names listed (reply.Checked (j ∷ js)) refl refl

-- a message that takes nothing
taking-nothing : (b stopped up full : Bool) (accepted refused closed : Reply) (size limit n send c : ℕ) (priority : Bool) (frame : List ℕ) (to : List Key)
    → Effect.taking [] (Effect.fitting_row b size limit (cond stopped (Effect.only closed) (Effect.sent_row accepted refused up full n send c priority frame to)))
    ≡ Effect.fitting_row b size limit (cond stopped (Effect.only closed) (Effect.sent_row accepted refused up full n send c priority frame to))
taking-nothing true stopped up full accepted refused closed size limit n send c priority frame to = refl
taking-nothing false true up full accepted refused closed size limit n send c priority frame to = refl
taking-nothing false false false full accepted refused closed size limit n send c priority frame to = refl
taking-nothing false false true true accepted refused closed size limit n send c priority frame to = refl
taking-nothing false false true false accepted refused closed size limit n send c priority frame to = refl

pub send_checked_shape : (configs : List Config) (log : List Entry) (bytes : List ℕ) (check : ℕ) (priority : Bool)
    → Shape configs log (act.SendChecked bytes check priority) (Effect.send_checked_row configs log bytes check priority)
send_checked_shape configs log bytes check priority = by_check (check_of log check) refl
  where
    by_check : (o : Option Check) → check_of log check ≡ o → Shape configs log (act.SendChecked bytes check priority) (Effect.spent_row configs log bytes priority o)
    by_check None is = still configs log (act.SendChecked bytes check priority) reply.Gone refl refl
    by_check (Some c) is =
        let a : Act = act.SendChecked bytes check priority in
        let taken : Reply = reply.Outcome (Outcome feedback.Ok) c.node c.channel c.keys in
        let rejected : Reply = reply.Outcome Rejected c.node c.channel c.keys in
        let closed : Reply = reply.Outcome (Outcome feedback.Closed) c.node c.channel c.keys in
        subst (Shape configs log a)
        (taking-nothing (nat_lt (Effect.limit_at configs c.node) (length bytes)) (is_stopped log c.node) (is_up log c.node) (nat_le (Effect.router_capacity configs log c.node) (length (line log (queue.Router c.node))))
        taken rejected closed (length bytes) (Effect.limit_at configs c.node) c.node (length log) c.channel priority (frame_of c.channel bytes) c.keys)
        (send_to_shape configs log a [] (takes_none configs log a) (record { by = Node c.node; channel = c.channel; priority = priority; bytes = bytes; keys = c.keys }) taken rejected closed
        (record { sends = refl; refuses = refl; silent = refl; silent_refused = refl; closes = refl; silent_closed = refl }) c.node refl (ap (λ p. in_mailbox_of p (queue.Router c.node)) is ∙ same_queue-refl (queue.Router c.node)) (λ size limit. refl))
