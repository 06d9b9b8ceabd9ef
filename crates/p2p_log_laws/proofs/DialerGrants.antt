-- A step of a node's dialer hands a grant on: from the answer that it takes to the attempt that it begins.
use Rattle.std.proofs.Common.{◌≡◌, ℕ, Bool, true, false, cond, List, [], ◌∷◌, length, map, Option, Some, None, refl, ap, sym, subst, ◌∙◌, eq-eqb}
use Rattle.std.specs.Prelude.{◌&&◌, not, nat_le}
use Rattle.std.specs.List.{AllByRecursion as Each}
use Rattle.p2p_base.specs.declared.key.Key.{Key}
use Rattle.p2p_log.specs.declared.config.Config.{Config}
use Rattle.p2p_log.specs.declared.queue.Queue.{Queue}
use Rattle.p2p_log.specs.declared.queue.Queue.TheVariants as queue
use Rattle.p2p_log.specs.declared.item.Item.{Item}
use Rattle.p2p_log.specs.declared.item.Item.TheVariants as item
use Rattle.p2p_log.specs.declared.item.Envelope.{Envelope}
use Rattle.p2p_log.specs.declared.entry.Entry.{Entry}
use Rattle.p2p_log.specs.declared.entry.Reply.{Reply}
use Rattle.p2p_log.specs.declared.entry.Reply.TheVariants as reply
use Rattle.p2p_log.specs.QueueCode.{same_queue}
use Rattle.p2p_log.specs.Lines.{name_of, line}
use Rattle.p2p_log_rules.specs.declared.row.Row.{Row}
use Rattle.p2p_log_rules.specs.Attempting.{DialRules}
use Rattle.p2p_log_rules.specs.Told.{answer_tells}
use Rattle.p2p_log_rules.proofs.Attempts.{attempt_told}
use Rattle.p2p_log_rules.proofs.AttemptTellings.{granted_told}
use Rattle.p2p_log_rules.specs.Dialing.{Dials, dials_of, in_drawn_order, last_key, dial_puts, dials_row, answer_taken_row, due_row, dialer_turn, dialer_row}
use Rattle.p2p_log_rules.specs.Facts.{is_up}
use Rattle.p2p_log_rules.specs.Moves.{Moves}
use Rattle.p2p_log_rules.specs.Rows.{only}
use Rattle.p2p_log_rules.proofs.Moves.{one_taken}
use Rattle.p2p_log_laws.specs.Grants.{one}
use Rattle.p2p_log_laws.specs.NodeGrants.{put_of, holds_grants, grants_key, releases_key, is_attempt_of, puts_grant, puts_release}
use Rattle.p2p_log_laws.proofs.Plain.{Plain, StandsPlain, plain_item}
use Rattle.p2p_log_laws.proofs.Shape.{no_moves, one_move}
use Rattle.p2p_log_laws.proofs.Weighing.{weight, count_by-one}

module _ (n : ℕ) (key : Key) where
  -- whether an attempt of the key stands, of this name, once a dialer took these
  abbrev pub begins_held : DialRules → ℕ → ℕ → ℕ → ℕ → List Item → Bool
  begins_held rules asked name at seed items = is_attempt_of key (attempt_told rules n name (answer_tells n asked name at seed items) None)

  -- what a dialer's row hands on
  pub record Hand (log : List Entry) (rules : DialRules) (asked at seed : ℕ) (r : Row) : Type 0 where
    pub moves : Moves log r
    pub begun : weight (puts_grant n key) moves.taken ≡ one (begins_held rules asked (length log) at seed (map (λ x. x.item) moves.taken))
    pub releases_taken : weight (puts_release n key) moves.taken ≡ 0
    pub ended : Each (StandsPlain n key) moves.ended
    pub puts : Each (Plain n key) r.puts

  plain_dial : (o : Option Key) → Each (Plain n key) (dial_puts n o)
  plain_dial None = tt
  plain_dial (Some k) = (plain_item n key (queue.Tracker n) (item.AskDial k) refl refl, tt)

  module _ (log : List Entry) (rules : DialRules) (asked at seed : ℕ) where
    abbrev held : List Item → Bool
    held = begins_held rules asked (length log) at seed

    -- what it takes grants the key if what it begins is an attempt of it
    abbrev BeginsHeld : Item → Type 0
    BeginsHeld i = grants_key key i ≡ held (i ∷ [])

    -- it takes nothing
    asking : (reply : Reply) (puts : List (Queue × Item)) → Each (Plain n key) puts → Hand log rules asked at seed (record { reply = reply; takes = []; puts = puts; ends = [] })
    asking reply puts plain = record {
      moves = no_moves log (record { reply = reply; takes = []; puts = puts; ends = [] }) refl refl;
      begun = refl;
      releases_taken = refl;
      ended = tt;
      puts = plain;
    }

    -- it takes an answer
    answered : (x : Envelope) (rest : List Envelope) → line log (queue.Dialer n) ≡ x ∷ rest → BeginsHeld x.item → (puts : List (Queue × Item)) → Each (Plain n key) puts
        → Hand log rules asked at seed (record { reply = reply.Ok; takes = name_of x ∷ []; puts = puts; ends = [] })
    answered x rest first begins puts plain =
        let r : Row = record { reply = reply.Ok; takes = name_of x ∷ []; puts = puts; ends = [] } in
        let stood : x.queue ≡ queue.Dialer n = one_taken log (queue.Dialer n) x rest first in
        let granted : puts_grant n key (put_of x) ≡ held (x.item ∷ []) =
        ap (λ q. holds_grants n q && grants_key key x.item) stood
        ∙ (ap (λ b. b && grants_key key x.item) (eq-eqb n n refl) ∙ begins)
        in
        let released : puts_release n key (put_of x) ≡ false = ap (λ q. same_queue (queue.Tracker n) q && releases_key key x.item) stood in
        record {
          moves = one_move log (queue.Dialer n) x rest first r refl refl;
          begun = count_by-one (λ y. puts_grant n key (put_of y)) x ∙ ap one granted;
          releases_taken = count_by-one (λ y. puts_release n key (put_of y)) x ∙ ap one released;
          ended = tt;
          puts = plain;
        }

    dials : (x : Envelope) (rest : List Envelope) → line log (queue.Dialer n) ≡ x ∷ rest → BeginsHeld x.item → (peers : List Key) → Hand log rules asked at seed (dials_row n (name_of x ∷ []) peers)
    dials x rest first begins peers = answered x rest first begins (dial_puts n (last_key peers)) (plain_dial (last_key peers))

    by_answer : (d : Dials) (x : Envelope) (rest : List Envelope) → line log (queue.Dialer n) ≡ x ∷ rest → (i : Item) → x.item ≡ i → Hand log rules asked at seed (answer_taken_row n seed d (name_of x) i)
    by_answer d x rest first (item.Dialable next peers) is = dials x rest first (subst BeginsHeld (sym is) refl) (in_drawn_order seed peers)
    by_answer d x rest first (item.Dial None) is = dials x rest first (subst BeginsHeld (sym is) refl) d.peers
    by_answer d x rest first (item.Dial (Some grant)) is = answered x rest first (subst BeginsHeld (sym is) (sym (ap (is_attempt_of key) (granted_told rules n (length log) asked at seed grant [])))) [] tt
    by_answer d x rest first _ is = asking reply.Idle [] tt

    when_due : (peers : List Key) → Hand log rules asked at seed (due_row n peers)
    when_due [] = asking reply.Ok ((queue.Tracker n, item.AskDialable) ∷ []) (plain_item n key (queue.Tracker n) item.AskDialable refl refl, tt)
    when_due (k ∷ ks) = asking reply.Ok (dial_puts n (last_key (k ∷ ks))) (plain_dial (last_key (k ∷ ks)))

    by_line : (d : Dials) (xs : List Envelope) → line log (queue.Dialer n) ≡ xs → Hand log rules asked at seed (dialer_turn n at seed d xs)
    by_line d [] none = by_due (not d.is_asking && nat_le d.deadline at)
      where
        by_due : (b : Bool) → Hand log rules asked at seed (cond b (due_row n d.peers) (only reply.Idle))
        by_due true = when_due d.peers
        by_due false = asking reply.Idle [] tt
    by_line d (x ∷ rest) first = by_answer d x rest first x.item refl

  pub dialer_hands : (configs : List Config) (log : List Entry) (rules : DialRules) (asked at seed : ℕ) → Hand log rules asked at seed (dialer_row configs log n at seed)
  dialer_hands configs log rules asked at seed = by_up (is_up log n)
    where
      by_up : (b : Bool) → Hand log rules asked at seed (cond b (dialer_turn n at seed (dials_of configs log n) (line log (queue.Dialer n))) (only reply.Gone))
      by_up true = by_line log rules asked at seed (dials_of configs log n) (line log (queue.Dialer n)) refl
      by_up false = asking log rules asked at seed reply.Gone [] tt
