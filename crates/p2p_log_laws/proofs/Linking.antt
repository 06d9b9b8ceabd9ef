-- What a dial of another node comes to: a link, or a refusal, or nothing; and links in a longer log.
use Rattle.std.proofs.Common.{◌≡◌, ℕ, Bool, true, false, List, [], ◌∷◌, ◌++◌, length, Option, Some, None, ◌⊎◌, inl, inr, refl, ap}
use Rattle.std.specs.Prelude.{is_some, slice_get}
use Rattle.p2p_base.specs.declared.key.Key.{Key}
use Rattle.p2p_address.specs.declared.ip.SocketAddr.{SocketAddr}
use Rattle.p2p_log.specs.declared.config.Config.{Config}
use Rattle.p2p_log.specs.declared.queue.Queue.{Queue}
use Rattle.p2p_log.specs.declared.queue.Queue.TheVariants as queue
use Rattle.p2p_log.specs.declared.item.Item.{Item}
use Rattle.p2p_log.specs.declared.item.Item.TheVariants as item
use Rattle.p2p_log.specs.declared.entry.Entry.{Entry}
use Rattle.p2p_log.specs.declared.entry.Reply.TheVariants as reply
use Rattle.p2p_log.specs.declared.event.Act.TheVariants as act
use Rattle.p2p_log.proofs.Places.{slice_get-seam}
use Rattle.p2p_log.proofs.Sending.{get_longer}
use Rattle.p2p_log_rules.specs.declared.row.Row.{Row}
use Rattle.p2p_log_rules.specs.Attempting.{Attempt, attempts_of, dial_answered_row, refuse_row, connected_row, connect_row}
use Rattle.p2p_log_rules.specs.Effect.{entry_of}
use Rattle.p2p_log_rules.specs.Facts.{is_up, key_at}
use Rattle.p2p_log_rules.specs.Rows.{only}
use Rattle.p2p_log_laws.specs.Leading.{Links, LeadsTo}

-- ---- a longer log

pub Links-longer : (log more : List Entry) (link from to : ℕ) → Links log link from to → Links (log ++ more) link from to
Links-longer log more link from to h = record {
  entry = h.entry;
  at = get_longer log more link h.entry h.at;
  attempt = h.attempt;
  address = h.address;
  acts = h.acts;
  done = h.done;
  key = h.key;
  arrives = h.arrives;
}

pub LeadsTo-longer : (configs : List Config) (log more : List Entry) (n : ℕ) (key : Key) (link : ℕ) → LeadsTo configs log n key link → LeadsTo configs (log ++ more) n key link
LeadsTo-longer configs log more n key link h = (h.0, either h.1, h.2)
  where
    either : Links log link n h.0 ⊎ Links log link h.0 n → Links (log ++ more) link n h.0 ⊎ Links (log ++ more) link h.0 n
    either (inl dialed) = inl (Links-longer log more link n h.0 dialed)
    either (inr listened) = inr (Links-longer log more link h.0 n listened)

-- ---- what answers a dial

module _ (configs : List Config) (log : List Entry) (e n : ℕ) where
  -- the attempt stands, and its dial was not answered before
  abbrev pub IsFree : Type 0
  IsFree = (a : Attempt) × (attempts_of configs log n e ≡ Some a) × (a.answer ≡ None)

  -- it is not answered
  abbrev pub IsUnanswered : Row → Type 0
  IsUnanswered r = (r.reply ≡ reply.Ok → ⊥) × (r.puts ≡ [])

  -- it is refused
  abbrev pub IsRefused : Row → Type 0
  IsRefused r = IsFree × (r.puts ≡ (queue.Attempt n e, item.Refused) ∷ [])

  answered_is : (a : Attempt) → attempts_of configs log n e ≡ Some a → (s : Option SocketAddr) (w : Option ℕ) → a.answer ≡ w
      → IsUnanswered (dial_answered_row s (is_some w) false e n) ⊎ IsRefused (dial_answered_row s (is_some w) false e n)
  answered_is a stands None w is = inl (λ h. cc, refl)
  answered_is a stands (Some s) (Some l) is = inl (λ h. cc, refl)
  answered_is a stands (Some s) None is = inr ((a, stands, is), refl)

  pub refuse_is : IsUnanswered (refuse_row configs log e n) ⊎ IsRefused (refuse_row configs log e n)
  refuse_is = by (attempts_of configs log n e) refl
    where
      by : (o : Option Attempt) → attempts_of configs log n e ≡ o
          → IsUnanswered (elim o [ None ↦ only reply.Gone | Some a ↦ dial_answered_row a.address (is_some a.answer) false e n ])
          ⊎ IsRefused (elim o [ None ↦ only reply.Gone | Some a ↦ dial_answered_row a.address (is_some a.answer) false e n ])
      by None is = inl (λ h. cc, refl)
      by (Some a) is = answered_is a is a.address a.answer refl

  module _ (from : SocketAddr) (to : ℕ) where
    abbrev arrival : Item
    arrival = item.Arrival from (key_at configs n) (length log)

    -- it is answered with a link
    abbrev pub IsLinked : Row → Type 0
    IsLinked r = IsFree × (r.reply ≡ reply.Ok) × (r.puts ≡ (queue.Attempt n e, item.Linked) ∷ (queue.Arrivals to, arrival) ∷ [])

    -- one of the three
    abbrev pub IsAnswer : Row → Type 0
    IsAnswer r = IsUnanswered r ⊎ (IsRefused r ⊎ IsLinked r)

    unlinked : (r : Row) → IsUnanswered r ⊎ IsRefused r → IsAnswer r
    unlinked r (inl none) = inl none
    unlinked r (inr refused) = inr (inl refused)

    connected_is : (a : Attempt) → attempts_of configs log n e ≡ Some a → (s : Option SocketAddr) (w : Option ℕ) → a.answer ≡ w → (runs : Bool)
        → IsAnswer (connected_row s (is_some w) runs e n to arrival)
    connected_is a stands None w is runs = unlinked (dial_answered_row None (is_some w) false e n) (answered_is a stands None w is)
    connected_is a stands (Some s) (Some l) is runs = unlinked (dial_answered_row (Some s) true false e n) (answered_is a stands (Some s) (Some l) is)
    connected_is a stands (Some s) None is true = inr (inr ((a, stands, is), refl, refl))
    connected_is a stands (Some s) None is false = unlinked (dial_answered_row (Some s) false false e n) (answered_is a stands (Some s) None is)

    pub connect_is : IsAnswer (connect_row configs log e from n to)
    connect_is = by (attempts_of configs log n e) refl
      where
        by : (o : Option Attempt) → attempts_of configs log n e ≡ o
            → IsAnswer (elim o [ None ↦ only reply.Gone | Some a ↦ connected_row a.address (is_some a.answer) (is_up log to) e n to arrival ])
        by None is = inl (λ h. cc, refl)
        by (Some a) is = connected_is a is a.address a.answer refl (is_up log to)

    -- the link of this entry
    pub links_now : (at seed : ℕ) (r : Row) → IsLinked r → Links (log ++ entry_of (record { at = at; seed = seed; act = act.Connect e from n to }) r ∷ []) (length log) n to
    links_now at seed r linked = record {
      entry = entry_of (record { at = at; seed = seed; act = act.Connect e from n to }) r;
      at = slice_get-seam log (entry_of (record { at = at; seed = seed; act = act.Connect e from n to }) r) [];
      attempt = e;
      address = from;
      acts = refl;
      done = linked.1;
      key = key_at configs n;
      arrives = ap (λ (puts : List (Queue × Item)). slice_get puts 1) linked.2;
    }
