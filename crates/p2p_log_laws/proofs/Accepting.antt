-- Each message is accepted for those whom its channel's quota admits.
use Rattle.std.proofs.Common.{◌≡◌, ℕ, Bool, true, false, cond, List, [], ◌∷◌, length, ◌⊎◌, inl, inr, refl, sym, subst, Option, Some, None}
use Rattle.std.specs.Prelude.{nat_lt, nat_le, take}
use Rattle.p2p_base.specs.declared.key.Key.{Key}
use Rattle.p2p_base.specs.declared.outcome.Feedback.TheVariants as feedback
use Rattle.p2p_base.specs.declared.outcome.Unreliable.TheVariants.{Outcome, Rejected}
use Rattle.p2p_log.specs.declared.config.Config.{Config}
use Rattle.p2p_log.specs.declared.queue.Queue.TheVariants as queue
use Rattle.p2p_log.specs.declared.entry.Entry.{Entry}
use Rattle.p2p_log.specs.declared.entry.Reply.{Reply}
use Rattle.p2p_log.specs.declared.entry.Reply.TheVariants as reply
use Rattle.p2p_log.specs.declared.event.Event.{Event}
use Rattle.p2p_log.specs.declared.event.Act.{Act}
use Rattle.p2p_log.specs.declared.event.Act.TheVariants as act
use Rattle.p2p_log.specs.declared.event.Recipients.{Recipients}
use Rattle.p2p_log.specs.Copies.{accepted_by}
use Rattle.p2p_log.specs.Lines.{line}
use Rattle.p2p_log.specs.Sending.{sending_at, sending_in, keys_sent}
use Rattle.p2p_log_rules.specs.declared.row.Row.{Row}
use Rattle.p2p_log_rules.specs.Admitting.{offered, keys_admitted}
use Rattle.p2p_log_rules.specs.Checking.{Check, check_of}
use Rattle.p2p_log_rules.specs.Effect.{only, row, effect, limit_at, router_capacity, sent_row, fitting_row, admitted_row, taking, takes_list, send_to_row, send_keys_row, send_row, spent_row}
use Rattle.p2p_log_rules.specs.Facts.{channels, capacity_in, is_up, is_stopped}
use Rattle.p2p_log_rules.specs.Frames.{frame_of}
use Rattle.p2p_log_rules.specs.Lawful.{IsLawful}
use Rattle.p2p_log_laws.specs.Admitted.{EachIsAdmitted, EachIsChecked, IsRefused, IsTurnedAway}
use Rattle.p2p_log_laws.specs.Admitted.IsTurnedAway.{TooLong, MailboxFull, Stopped}
use Rattle.p2p_log_laws.proofs.Prefixes.{entry_due}

module _ (configs : List Config) (before : List Entry) (a : Act) (bytes : List ℕ) (n channel : ℕ) (priority : Bool) where
  -- a message whose row is this is for these keys, or it is turned away
  abbrev IsFor : List Key → Row → Type 0
  IsFor keys r = (accepted_by a r.reply ≡ keys) ⊎ ((accepted_by a r.reply ≡ []) × IsTurnedAway configs before n bytes)

  module _ (accepted_with refused_with closed_with : Reply) (keys : List Key) (takes : accepted_by a accepted_with ≡ keys) (refuses : accepted_by a refused_with ≡ []) (closes : accepted_by a closed_with ≡ [])
      (too_long : (size limit : ℕ) → accepted_by a (reply.MessageTooLarge size limit) ≡ []) where
    abbrev sent : Bool → Bool → Row
    sent up full = sent_row accepted_with refused_with up full n (length before) channel priority (frame_of channel bytes) keys

    by_start : (up full : Bool) → nat_le (router_capacity configs before n) (length (line before (queue.Router n))) ≡ full → IsFor keys (sent up full)
    by_start false full is = inl takes
    by_start true true is = inr (refuses, MailboxFull is)
    by_start true false is = inl takes

    by_stop : (stopped up full : Bool) → is_stopped before n ≡ stopped → nat_le (router_capacity configs before n) (length (line before (queue.Router n))) ≡ full
        → IsFor keys (cond stopped (only closed_with) (sent up full))
    by_stop true up full stop is = inr (closes, Stopped stop)
    by_stop false up full stop is = by_start up full is

    by_size : (long stopped up full : Bool) → nat_lt (limit_at configs n) (length bytes) ≡ long → is_stopped before n ≡ stopped
        → nat_le (router_capacity configs before n) (length (line before (queue.Router n))) ≡ full
        → IsFor keys (fitting_row long (length bytes) (limit_at configs n) (cond stopped (only closed_with) (sent up full)))
    by_size true stopped up full long stop is = inr (too_long (length bytes) (limit_at configs n), TooLong long)
    by_size false stopped up full long stop is = by_stop stopped up full stop is

    pub send_to_is_for : IsFor keys (send_to_row configs before accepted_with refused_with closed_with bytes channel n priority keys)
    send_to_is_for =
        by_size (nat_lt (limit_at configs n) (length bytes)) (is_stopped before n) (is_up before n) (nat_le (router_capacity configs before n) (length (line before (queue.Router n)))) refl refl refl

-- ---- send

module _ (configs : List Config) (before : List Entry) (bytes : List ℕ) (n channel : ℕ) (priority : Bool) (to : Recipients) where
  abbrev a_send : Act
  a_send = act.Send bytes channel n priority to

  abbrev Accepts : ℕ → Row → Type 0
  Accepts at r =
      (accepted_by a_send r.reply ≡ keys_admitted before n channel at (offered before n channel to)) ⊎ ((accepted_by a_send r.reply ≡ []) × IsRefused configs before n channel bytes)

  by_keys : (asked keys : List Key) → IsFor configs before a_send bytes n channel priority keys (admitted_row asked keys (send_to_row configs before (reply.Sent keys) (reply.Sent []) (reply.Sent []) bytes channel n priority keys))
  by_keys [] keys = send_to_is_for configs before a_send bytes n channel priority (reply.Sent keys) (reply.Sent []) (reply.Sent []) keys refl refl refl (λ size limit. refl)
  by_keys (k ∷ ks) [] = inl refl
  by_keys (k ∷ ks) (j ∷ js) = send_to_is_for configs before a_send bytes n channel priority (reply.Sent (j ∷ js)) (reply.Sent []) (reply.Sent []) (j ∷ js) refl refl refl (λ size limit. refl)

  send_accepts : (at : ℕ) (o : Option ℕ) → capacity_in (channels configs before n) channel ≡ o → Accepts at (send_row configs before bytes channel n priority to at)
  send_accepts at o is = subst (λ (p : Option ℕ). Accepts at (elim p [ None ↦ only reply.Gone | Some _ ↦ due ])) (sym is) (by o is)
    where
      asked : List Key
      asked = offered before n channel to

      admitted : List Key
      admitted = keys_admitted before n channel at asked

      due : Row
      due = taking (takes_list before n channel to) (send_keys_row configs before bytes channel n priority asked admitted)

      by : (p : Option ℕ) → capacity_in (channels configs before n) channel ≡ p → Accepts at (elim p [ None ↦ only reply.Gone | Some _ ↦ due ])
      by None none = inr (refl, inl none)
      by (Some capacity) some = elim (by_keys asked admitted) [ inl h ↦ inl h | inr h ↦ inr (h.0, inr h.1) ]

  effect_accepts : (ev : Event) → ev.act ≡ a_send → Accepts ev.at (row configs before ev.at ev.seed ev.act)
  unfolding row
  effect_accepts ev is = subst (λ (b : Act). Accepts ev.at (row configs before ev.at ev.seed b)) (sym is) (send_accepts ev.at (capacity_in (channels configs before n) channel) refl)

pub each_admitted : (configs : List Config) (script : List Event) (log : List Entry) → IsLawful configs script log → EachIsAdmitted configs log
unfolding sending_at effect
each_admitted configs script log lawful k n channel e bytes priority to here acts =
    let due = entry_due configs script log lawful k e here in
    subst (λ (o : Option Entry). Wanted e.event.at (keys_sent (sending_in o))) (sym here)
    (subst (λ (x : Entry). x.event.act ≡ act.Send bytes channel n priority to → Wanted x.event.at (accepted_by x.event.act x.reply)) (sym due.1) (of_effect due.0) acts)
  where
    Wanted : ℕ → List Key → Type 0
    Wanted at keys = (keys ≡ keys_admitted (take k log) n channel at (offered (take k log) n channel to)) ⊎ ((keys ≡ []) × IsRefused configs (take k log) n channel bytes)

    of_effect : (ev : Event) → (effect configs (take k log) ev).event.act ≡ act.Send bytes channel n priority to
        → Wanted (effect configs (take k log) ev).event.at (accepted_by (effect configs (take k log) ev).event.act (effect configs (take k log) ev).reply)
    of_effect ev is =
        subst (λ (b : Act). Wanted ev.at (accepted_by b (row configs (take k log) ev.at ev.seed ev.act).reply)) (sym is) (effect_accepts configs (take k log) bytes n channel priority to ev is)

-- ---- a message to those whom a check admitted

module _ (configs : List Config) (before : List Entry) (bytes : List ℕ) (check : ℕ) (priority : Bool) where
  abbrev a_checked : Act
  a_checked = act.SendChecked bytes check priority

  -- what it comes to, by the check
  abbrev Spends : List Key → Type 0
  Spends keys =
      ((c : Check) × (check_of before check ≡ Some c) × ((keys ≡ c.keys) ⊎ ((keys ≡ []) × IsTurnedAway configs before c.node bytes)))
      ⊎ ((keys ≡ []) × (check_of before check ≡ None))

  by_check : (o : Option Check) → check_of before check ≡ o → Spends (accepted_by a_checked (spent_row configs before bytes priority o).reply)
  by_check None is = inr (refl, is)
  by_check (Some c) is =
      inl (
        c,
        is,
        send_to_is_for configs before a_checked bytes c.node c.channel priority (reply.Outcome (Outcome feedback.Ok) c.node c.channel c.keys) (reply.Outcome Rejected c.node c.channel c.keys)
            (reply.Outcome (Outcome feedback.Closed) c.node c.channel c.keys) c.keys refl refl refl (λ size limit. refl),
      )

  effect_spends : (ev : Event) → ev.act ≡ a_checked → Spends (accepted_by a_checked (row configs before ev.at ev.seed ev.act).reply)
  unfolding row
  effect_spends ev is = subst (λ (b : Act). Spends (accepted_by a_checked (row configs before ev.at ev.seed b).reply)) (sym is) (by_check (check_of before check) refl)

pub each_checked : (configs : List Config) (script : List Event) (log : List Entry) → IsLawful configs script log → EachIsChecked configs log
unfolding sending_at effect
each_checked configs script log lawful k check e bytes priority here acts =
    let due = entry_due configs script log lawful k e here in
    subst (λ (o : Option Entry). Spends configs (take k log) bytes check priority (keys_sent (sending_in o))) (sym here)
    (subst (λ (x : Entry). x.event.act ≡ act.SendChecked bytes check priority → Spends configs (take k log) bytes check priority (accepted_by x.event.act x.reply)) (sym due.1) (of_effect due.0) acts)
  where
    of_effect : (ev : Event) → (effect configs (take k log) ev).event.act ≡ act.SendChecked bytes check priority
        → Spends configs (take k log) bytes check priority (accepted_by (effect configs (take k log) ev).event.act (effect configs (take k log) ev).reply)
    of_effect ev is =
        subst (λ (b : Act). Spends configs (take k log) bytes check priority (accepted_by b (row configs (take k log) ev.at ev.seed ev.act).reply)) (sym is)
        (effect_spends configs (take k log) bytes check priority ev is)
