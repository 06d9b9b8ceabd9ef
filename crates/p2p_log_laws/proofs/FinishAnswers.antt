-- What the end of an exchange puts for a handshake: one word, of an exchange of keys where the handshake was accepted.
use Rattle.std.proofs.Common.{◌≡◌, ℕ, ◌+◌, ◌≤◌, Bool, true, false, cond, List, [], ◌∷◌, ◌++◌, Option, Some, None, inr, refl, ap, sym, subst, ◌∙◌, arith, eqb-true}
use Rattle.std.specs.Prelude.{◌==◌, ◌&&◌, ◌||◌, not, count_by, is_some}
use Rattle.std.specs.List.{AllByRecursion as Each}
use Rattle.std.specs.Option.{option_map}
use Rattle.std.proofs.lemmas.Bool.{and_parts}
use Rattle.std.proofs.lemmas.List.Sums.{sum_by-append}
use Rattle.std.proofs.lemmas.Bool.Decides.{nat_tests}
use Rattle.p2p_base.specs.declared.key.Key.{Key}
use Rattle.p2p_log.specs.declared.config.Config.{Config}
use Rattle.p2p_log.specs.declared.queue.Queue.{Queue}
use Rattle.p2p_log.specs.declared.queue.Queue.TheVariants as queue
use Rattle.p2p_log.specs.declared.item.Item.{Item}
use Rattle.p2p_log.specs.declared.item.Item.TheVariants as item
use Rattle.p2p_log.specs.declared.entry.Entry.{Entry}
use Rattle.p2p_log.specs.declared.entry.Reply.TheVariants as reply
use Rattle.p2p_log.specs.declared.event.Act.TheVariants as act
use Rattle.p2p_log.specs.declared.event.Event.{Event}
use Rattle.p2p_log.specs.QueueCode.{same_queue}
use Rattle.p2p_log.proofs.Each.{Each-append, count_by-none}
use Rattle.p2p_log_rules.specs.declared.row.Opening.{Opening}
use Rattle.p2p_log_rules.specs.declared.row.ListeningEnd.{ListeningEnd}
use Rattle.p2p_log_rules.specs.declared.row.ListeningEnd.TheVariants as listening
use Rattle.p2p_log_rules.specs.declared.row.Row.{Row}
use Rattle.p2p_log_rules.specs.Attempting.{Attempt, attempts_of}
use Rattle.p2p_log_rules.specs.Effect.{entry_of}
use Rattle.p2p_log_rules.specs.Handshakes.{is_accepted, takes_acceptance}
use Rattle.p2p_log_rules.proofs.HandshakeTook.{takes_none}
use Rattle.p2p_log_rules.specs.Cutting.{is_cut}
use Rattle.p2p_log_rules.specs.Links.{openings_of, listening_ends_of, is_dialed, accepts_peer, exchanged, dialing_puts, listening_puts, finished_row, verdict, finish_by, finish_row}
use Rattle.p2p_log_rules.specs.Facts.{key_at}
use Rattle.p2p_log_rules.specs.Rows.{only}
use Rattle.p2p_log_laws.specs.Grants.{one}
use Rattle.p2p_log_laws.specs.OneAnswer.{Words, tells, is_for, is_end_of, leads_to, ends_exchange}
use Rattle.p2p_log_laws.proofs.Answering.{Silent, silent_away, accepts_now, Answers, quiet}
use Rattle.p2p_log_laws.proofs.Shape.{no_moves}
use Rattle.p2p_log_laws.proofs.Weighing.{count_by-one}

-- keys were exchanged only where the listening side has accepted
agreed : (stand agree accepted : Bool) → exchanged stand agree accepted ≡ Some true → accepted ≡ true
agreed true true true h = refl
agreed true true false h = cc
agreed true false accepted h = cc
agreed false agree accepted h = cc

module _ (w : Words) (sound : (w.acceptance && w.refusal) ≡ false) (n name : ℕ) (configs : List Config) (log : List Entry) (at seed link : ℕ) (ok : Bool) where
  abbrev ev : Event
  ev = record { at = at; seed = seed; act = act.Finish link ok }

  dialing_silent : (o : Opening) (agree : Bool) (dialing : Option Attempt) → Each (Silent w n name) (dialing_puts o.node o.attempt agree dialing)
  dialing_silent o agree None = tt
  dialing_silent o agree (Some a) = (silent_away w n name (queue.Attempt o.node o.attempt) (item.Finished agree) refl refl, tt)

  -- a row that tells this end, and the attempt
  abbrev told : Opening → Bool → Option Attempt → Option ListeningEnd → Row
  told o agree dialing end = record { reply = reply.Ok; takes = []; puts = dialing_puts o.node o.attempt agree dialing ++ listening_puts o.to agree end; ends = [] }

  -- it is no step of the handshake
  none_now : (r : Row) → accepts_now w n name log ev r ≡ false
  none_now r = takes_none takes_acceptance log (entry_of ev r) n name (λ so. cc)

  -- nor an end of it
  aside : (o : Opening) (agree : Bool) (dialing : Option Attempt) (end : Option ListeningEnd) → Each (Silent w n name) (listening_puts o.to agree end)
      → Answers w n name log ev (told o agree dialing end)
  aside o agree dialing end silent =
      let r : Row = told o agree dialing end in
      quiet w n name log ev r (no_moves log r refl refl)
      (Each-append (Silent w n name) (dialing_puts o.node o.attempt agree dialing) (listening_puts o.to agree end) (dialing_silent o agree dialing) silent) (none_now r)

  -- a handshake of another name, or of another node
  other_silent : (m h : ℕ) (agree : Bool) → ((m == n) && (h == name)) ≡ false → Silent w n name (queue.Handshake m h, item.Finished agree)
  other_silent m h agree other = silent_away w n name (queue.Handshake m h) (item.Finished agree) refl (turned m n h name other)
    where
      turned : (m n h name : ℕ) → ((m == n) && (h == name)) ≡ false → ((n == m) && (name == h)) ≡ false
      turned m n h name other = by (m == n) refl
        where
          swap : (i j : ℕ) → (i == j) ≡ (j == i)
          swap i j = grind (arith, nat_tests)

          by : (b : Bool) → (m == n) ≡ b → ((n == m) && (name == h)) ≡ false
          by false differ = ap (λ b. b && (name == h)) (swap n m ∙ differ)
          by true same = ap (λ b. b && (name == h)) (swap n m ∙ same) ∙ (swap name h ∙ (ap (λ b. b && (h == name)) (sym same) ∙ other))

  -- the handshake itself
  module _ (o : Opening) (is : openings_of log link ≡ Some o) (here : (o.to == n) ≡ true) (h : ℕ) (named : (h == name) ≡ true) (ends : listening_ends_of log o.to link ≡ Some (listening.Handshake h)) where
    ending : ends_exchange n name log (act.Finish link ok) reply.Ok ≡ true
    ending = ap (leads_to n name log link) is ∙ (ap (λ e. (o.to == n) && is_end_of n name e) ends ∙ (ap (λ b. b && (h == name)) here ∙ named))

    put_few : (agree : Bool) → (agree ≡ true → is_accepted log n name ≡ true) → (b : Bool) → one (b && tells w (item.Finished agree)) ≤ one (not w.acceptance || is_accepted log n name)
    put_few agree accepted false = omega arith
    put_few true accepted true = subst (λ c. 1 ≤ one (not w.acceptance || c)) (sym (accepted refl)) (either w.acceptance)
      where
        either : (b : Bool) → 1 ≤ one (not b || true)
        either true = omega arith
        either false = omega arith
    put_few false accepted true = either w.acceptance w.refusal (is_accepted log n name) sound
      where
        either : (a b c : Bool) → (a && b) ≡ false → one b ≤ one (not a || c)
        either true true c h = cc
        either true false c h = omega arith
        either false true c h = omega arith
        either false false c h = omega arith

    told_answers : (agree : Bool) (dialing : Option Attempt) → (agree ≡ true → is_accepted log n name ≡ true) → Answers w n name log ev (told o agree dialing (Some (listening.Handshake h)))
    told_answers agree dialing accepted =
        let r : Row = told o agree dialing (Some (listening.Handshake h)) in
        let x : Queue × Item = (queue.Handshake o.to h, item.Finished agree) in
        let puts : List (Queue × Item) = dialing_puts o.node o.attempt agree dialing in
        record {
          moves = no_moves log r refl refl;
          few = inr (inr (record {
            ending = ending;
            one_put = enough (count_by (is_for w n name) (puts ++ x ∷ [])) (count_by (is_for w n name) puts) (count_by (is_for w n name) (x ∷ [])) (one (is_for w n name x))
                (one (not w.acceptance || is_accepted log n name)) (sum_by-append (λ y. cond (is_for w n name y) 1 0) puts (x ∷ []))
                (count_by-none (is_for w n name) puts (dialing_silent o agree dialing)) (count_by-one (is_for w n name) x) (put_few agree accepted (same_queue (queue.Handshake n name) (queue.Handshake o.to h)));
            none_accepted = none_now r;
          }));
        }
      where
        enough : (a b c d e : ℕ) → a ≡ b + c → b ≡ 0 → c ≡ d → d ≤ e → a ≤ e
        enough a b c d e sum none is le = omega (arith, sum, none, is, le)

  -- ---- its row

  by_end : (o : Opening) → openings_of log link ≡ Some o → (agree : Bool) (dialing : Option Attempt) (end : Option ListeningEnd) → listening_ends_of log o.to link ≡ end
      → (agree ≡ true → accepts_peer log o.to end ≡ true) → Answers w n name log ev (told o agree dialing end)
  by_end o is agree dialing None ends accepted = aside o agree dialing None tt
  by_end o is agree dialing (Some listening.Arriving) ends accepted = aside o agree dialing (Some listening.Arriving) tt
  by_end o is agree dialing (Some (listening.Handshake h)) ends accepted = by ((o.to == n) && (h == name)) refl
    where
      by : (b : Bool) → ((o.to == n) && (h == name)) ≡ b → Answers w n name log ev (told o agree dialing (Some (listening.Handshake h)))
      by false other = aside o agree dialing (Some (listening.Handshake h)) (other_silent o.to h agree other, tt)
      by true same =
          let both = and_parts (o.to == n) (h == name) same in
          told_answers o is both.0 h both.1 ends agree dialing
          (λ so. subst (λ m. is_accepted log m name ≡ true) (eqb-true o.to n both.0) (subst (λ k. is_accepted log o.to k ≡ true) (eqb-true h name both.1) (accepted so)))

  by_verdict : (o : Opening) → openings_of log link ≡ Some o → (dialing : Option Attempt) (dialed : Option Key) (end : Option ListeningEnd) → listening_ends_of log o.to link ≡ end
      → (v : Option Bool) → verdict configs log ok o.to (is_cut log link) dialed end ≡ v → Answers w n name log ev (finished_row o dialing end v)
  by_verdict o is dialing dialed end ends None said = quiet w n name log ev (only reply.Pending) (no_moves log (only reply.Pending) refl refl) tt (none_now (only reply.Pending))
  by_verdict o is dialing dialed end ends (Some agree) said =
      by_end o is agree dialing end ends
      (λ so. agreed ((is_some dialed && is_some end) && not (is_cut log link)) (ok && is_dialed (key_at configs o.to) dialed) (accepts_peer log o.to end) (said ∙ ap Some so))

  pub finish_answers : Answers w n name log ev (finish_row configs log link ok)
  finish_answers = by (openings_of log link) refl
    where
      by : (p : Option Opening) → openings_of log link ≡ p → Answers w n name log ev (elim p [
        | None ↦ only reply.Gone
        | Some o ↦ finish_by configs log ok (is_cut log link) o (attempts_of configs log o.node o.attempt) (listening_ends_of log o.to link)
      ])
      by None is = quiet w n name log ev (only reply.Gone) (no_moves log (only reply.Gone) refl refl) tt (none_now (only reply.Gone))
      by (Some o) is =
          let dialing : Option Attempt = attempts_of configs log o.node o.attempt in
          let dialed : Option Key = option_map (λ (a : Attempt). a.key) dialing in
          let end : Option ListeningEnd = listening_ends_of log o.to link in
          by_verdict o is dialing dialed end refl (verdict configs log ok o.to (is_cut log link) dialed end) refl
