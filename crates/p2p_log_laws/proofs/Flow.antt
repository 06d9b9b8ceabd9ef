-- The copies on a way of many queues: an entry leaves of them a sublist, followed by what it accepts.
use Rattle.std.proofs.Common.{◌≡◌, ℕ, Bool, List, [], ◌∷◌, ◌++◌, length, ◌⊎◌, inl, inr, refl, ap, sym, subst, ◌∙◌, append_assoc, append-nil}
use Rattle.std.specs.Prelude.{filter}
use Rattle.std.specs.List.{AllByRecursion as Each}
use Rattle.p2p_log.specs.Copies.{copies_from}
use Rattle.p2p_log.specs.Sending.{keys_sent, sending_of}
use Rattle.p2p_log.specs.declared.config.Config.{Config}
use Rattle.p2p_log.specs.declared.queue.Queue.{Queue}
use Rattle.p2p_log.specs.declared.item.Envelope.{Envelope}
use Rattle.p2p_log.specs.declared.entry.Entry.{Entry}
use Rattle.p2p_log.specs.declared.event.Event.{Event}
use Rattle.p2p_log_rules.specs.declared.row.Row.{Row}
use Rattle.p2p_log.specs.Lines.{goes, stays, live}
use Rattle.p2p_log_rules.specs.Effect.{entry_of}
use Rattle.p2p_log_rules.specs.Moves.{Moves}
use Rattle.p2p_log_laws.proofs.Shape.{Laws}
use Rattle.p2p_log_laws.proofs.Stages.{copies_behind, copies_in-live, copies_in-taken, kept_behind, OwnFails, ItemsFail, OthersFail, enters_from, enters_first}
use Rattle.p2p_log_laws.proofs.Sublists.{IsSublist-append, IsSublist-after}
use Rattle.p2p_log_laws.specs.Flow.{Flows, IsSublist, copies_in, copies_put, stand}

module _ (test : ℕ × ℕ → Bool) where
  pub stand-none : (qs : List Queue) → stand test qs [] ≡ []
  stand-none [] = refl
  stand-none (q ∷ qs) = stand-none qs

  module _ (log : List Entry) (ev : Event) (r : Row) (m : Moves log r) where
    abbrev later : List Entry
    later = log ++ entry_of ev r ∷ []

    pub flows_kept : (source out : List (ℕ × ℕ)) (qs : List Queue) → Flows test log ev r m source out qs → IsSublist (out ++ stand test qs (live later)) (stand test qs (live log) ++ source)
    flows_kept source out [] h = subst (λ (l : List (ℕ × ℕ)). IsSublist l source) (sym (append-nil out)) h
    flows_kept source out (q ∷ qs) h = elim h [
      | inl through ↦
          let left = copies_in test q m.taken in
          let behind = copies_behind log ev r m test q in
          let kept = copies_in test q (filter (stays (goes (entry_of ev r))) (live log)) in
          let enters = copies_put test q r.puts in
          let rest = flows_kept source enters qs through.1 in
          let tail = IsSublist-append kept behind (enters ++ stand test qs (live later)) (stand test qs (live log) ++ source) (kept_behind log ev r m test q) rest in
          let whole = IsSublist-append out left (kept ++ (enters ++ stand test qs (live later))) (behind ++ (stand test qs (live log) ++ source)) through.0 tail in
          let after : out ++ (copies_in test q (live later) ++ stand test qs (live later)) ≡ out ++ (kept ++ (enters ++ stand test qs (live later))) =
          ap (λ (l : List (ℕ × ℕ)). out ++ (l ++ stand test qs (live later))) (copies_in-live test q log (entry_of ev r))
          ∙ ap (λ (l : List (ℕ × ℕ)). out ++ l) (append_assoc kept enters (stand test qs (live later)))
          in
          let before : (copies_in test q (live log) ++ stand test qs (live log)) ++ source ≡ left ++ (behind ++ (stand test qs (live log) ++ source)) =
          ap (λ (l : List (ℕ × ℕ)). (l ++ stand test qs (live log)) ++ source) (copies_in-taken log ev r m test q) ∙ regroup left behind (stand test qs (live log)) source
          in
          subst (λ (l : List (ℕ × ℕ)). IsSublist l ((copies_in test q (live log) ++ stand test qs (live log)) ++ source)) (sym after)
          (subst (IsSublist (out ++ (kept ++ (enters ++ stand test qs (live later))))) (sym before) whole)
      | inr skip ↦
          let rest = flows_kept source out qs skip.1 in
          let after : out ++ (copies_in test q (live later) ++ stand test qs (live later)) ≡ out ++ stand test qs (live later) =
          ap (λ (l : List (ℕ × ℕ)). out ++ (l ++ stand test qs (live later))) skip.0
          in
          subst (λ (l : List (ℕ × ℕ)). IsSublist l ((copies_in test q (live log) ++ stand test qs (live log)) ++ source)) (sym after)
          (subst (IsSublist (out ++ stand test qs (live later))) (sym (append_assoc (copies_in test q (live log)) (stand test qs (live log)) source))
          (IsSublist-after (copies_in test q (live log)) (out ++ stand test qs (live later)) (stand test qs (live log) ++ source) rest))
    ]
      where
        regroup : (a b c d : List (ℕ × ℕ)) → ((a ++ b) ++ c) ++ d ≡ a ++ (b ++ (c ++ d))
        regroup a b c d = simp append_assoc

  -- ---- from where the copies of stages come

  module _ (configs : List Config) (log : List Entry) (ev : Event) (r : Row) (m : Moves log r) (laws : Laws configs log ev.act r m) (Known : Envelope → Type 0) (known : Each Known m.taken) where
    abbrev pub accepts_now : List (ℕ × ℕ)
    accepts_now = filter test (copies_from (length log) 0 (keys_sent (sending_of ev.act r.reply)))

    -- what enters each of these queues comes of the next, or of the next but some in which nothing stands afterwards, and
    -- what enters the last is of acts
    abbrev pub AreLed : Queue → List Queue → Type 0
    AreLed q [] = ItemsFail test configs log ev.act r.reply r.puts Known q
    AreLed q (p ∷ qs) =
        (OwnFails test configs log ev.act r.reply r.puts Known q × OthersFail test configs log ev.act r.reply r.puts Known q p × AreLed p qs)
        ⊎ (copies_in test p (live (log ++ entry_of ev r ∷ [])) ≡ [] × AreLed q qs)

    pub led_flows : (q : Queue) (qs : List Queue) → AreLed q qs → Flows test log ev r m accepts_now (copies_put test q r.puts) qs
    led_flows q [] h = enters_first test configs log ev.act r.reply r.puts Known q h m.taken r.puts known laws.moved
    led_flows q (p ∷ qs) h = elim h [
      | inl led ↦ inl (enters_from test configs log ev.act r.reply r.puts Known q p led.0 led.1 m.taken known laws.moved, led_flows p qs led.2)
      | inr skip ↦ inr (skip.0, led_flows q qs skip.1)
    ]
