-- The shape of the end of an exchange: both ends are told, and no copy moves.
use Rattle.std.proofs.Common.{◌≡◌, ℕ, Bool, true, false, List, [], ◌∷◌, ◌++◌, Option, Some, None, refl, ap, ◌∙◌, eq-eqb}
use Rattle.std.specs.Prelude.{◌||◌}
use Rattle.std.specs.List.{AllByRecursion as Each}
use Rattle.std.specs.Option.{option_map}
use Rattle.p2p_log_rules.proofs.Bools.{or_true}
use Rattle.p2p_base.specs.declared.key.Key.{Key}
use Rattle.p2p_log.specs.declared.config.Config.{Config}
use Rattle.p2p_log.specs.declared.queue.Queue.{Queue}
use Rattle.p2p_log.specs.declared.queue.Queue.TheVariants as queue
use Rattle.p2p_log.specs.declared.item.Item.{Item}
use Rattle.p2p_log.specs.declared.item.Item.TheVariants as item
use Rattle.p2p_log.specs.declared.entry.Entry.{Entry}
use Rattle.p2p_log.specs.declared.entry.Reply.TheVariants as reply
use Rattle.p2p_log.specs.declared.event.Act.{Act}
use Rattle.p2p_log.specs.declared.event.Act.TheVariants as act
use Rattle.p2p_log.specs.QueueCode.{same_queue}
use Rattle.p2p_log.proofs.Each.{Each-append}
use Rattle.p2p_log.proofs.Queues.{same_queue-refl}
use Rattle.p2p_log_rules.specs.declared.row.Row.{Row}
use Rattle.p2p_log_rules.specs.declared.row.Opening.{Opening}
use Rattle.p2p_log_rules.specs.declared.row.ListeningEnd.{ListeningEnd}
use Rattle.p2p_log_rules.specs.declared.row.ListeningEnd.TheVariants as listening
use Rattle.p2p_log_rules.specs.Attempting.{Attempt, attempts_of}
use Rattle.p2p_log_rules.specs.Cutting.{is_cut}
use Rattle.p2p_log_rules.specs.Links.{openings_of, listening_ends_of, dialing_puts, listening_puts, finished_row, verdict, finish_by, finish_row}
use Rattle.p2p_log_rules.specs.Rows.{only}
use Rattle.p2p_log_rules.proofs.Touches.{in_handshakes, in_ends}
use Rattle.p2p_log_laws.proofs.Reaching.{writes}
use Rattle.p2p_log_laws.proofs.Plain.{Plain, plain_item}
use Rattle.p2p_log_laws.proofs.Shape.{Shape, IsQuiet, quiet_laws, still, no_moves}

-- a put to one of the ends, which tells of no copy
abbrev IsToEnd : Opening → Queue × Item → Type 0
IsToEnd o x = IsQuiet x × (in_ends (Some o) x.0 ≡ true)

dialing_told : (o : Opening) (ok : Bool) (dialing : Option Attempt) → Each (IsToEnd o) (dialing_puts o.node o.attempt ok dialing)
dialing_told o ok None = tt
dialing_told o ok (Some a) =
    (((refl, refl), ap (λ b. b || in_handshakes o.to (queue.Attempt o.node o.attempt)) (same_queue-refl (queue.Attempt o.node o.attempt))), tt)

listening_told : (o : Opening) (ok : Bool) (end : Option ListeningEnd) → Each (IsToEnd o) (listening_puts o.to ok end)
listening_told o ok None = tt
listening_told o ok (Some listening.Arriving) = tt
listening_told o ok (Some (listening.Handshake h)) =
    let there : in_handshakes o.to (queue.Handshake o.to h) ≡ true = eq-eqb o.to o.to refl in
    (((refl, refl), ap (λ b. same_queue (queue.Attempt o.node o.attempt) (queue.Handshake o.to h) || b) there ∙ or_true (same_queue (queue.Attempt o.node o.attempt) (queue.Handshake o.to h))), tt)

module _ (configs : List Config) (log : List Entry) (link : ℕ) (ok : Bool) where
  abbrev a : Act
  a = act.Finish link ok

  told_shape : (o : Opening) → openings_of log link ≡ Some o → (puts : List (Queue × Item)) → Each (IsToEnd o) puts → Shape configs log a (record { reply = reply.Ok; takes = []; puts = puts; ends = [] })
  told_shape o is puts told =
      let r : Row = record { reply = reply.Ok; takes = []; puts = puts; ends = [] } in
      record {
        moves = no_moves log r refl refl;
        reach = record { taken = tt; ended = tt; puts = near puts told };
        laws = λ fitting. quiet_laws configs log a r (no_moves log r refl refl) refl refl tt tt tt (quiet puts told);
      }
    where
      near : (xs : List (Queue × Item)) → Each (IsToEnd o) xs → Each (λ x. writes configs log a x.0 ≡ true) xs
      near [] h = tt
      near (x ∷ xs) h = (ap (λ p. in_ends p x.0) is ∙ h.0.1, near xs h.1)

      quiet : (xs : List (Queue × Item)) → Each (IsToEnd o) xs → Each IsQuiet xs
      quiet [] h = tt
      quiet (x ∷ xs) h = (h.0.0, quiet xs h.1)

  finished_shape : (o : Opening) → openings_of log link ≡ Some o → (dialing : Option Attempt) (end : Option ListeningEnd) (v : Option Bool) → Shape configs log a (finished_row o dialing end v)
  finished_shape o is dialing end None = still configs log a reply.Pending refl refl
  finished_shape o is dialing end (Some agree) =
      told_shape o is (dialing_puts o.node o.attempt agree dialing ++ listening_puts o.to agree end)
      (Each-append (IsToEnd o) (dialing_puts o.node o.attempt agree dialing) (listening_puts o.to agree end) (dialing_told o agree dialing) (listening_told o agree end))

  pub finish_shape : Shape configs log a (finish_row configs log link ok)
  finish_shape = by_opening (openings_of log link) refl
    where
      by_opening : (p : Option Opening) → openings_of log link ≡ p → Shape configs log a (elim p [
        | None ↦ only reply.Gone
        | Some o ↦ finish_by configs log ok (is_cut log link) o (attempts_of configs log o.node o.attempt) (listening_ends_of log o.to link)
      ])
      by_opening None is = still configs log a reply.Gone refl refl
      by_opening (Some o) is =
          let dialing : Option Attempt = attempts_of configs log o.node o.attempt in
          let end : Option ListeningEnd = listening_ends_of log o.to link in
          finished_shape o is dialing end (verdict configs log ok o.to (is_cut log link) (option_map (λ (a : Attempt). a.key) dialing) end)

-- and neither grants a key nor releases one
pub finish_plain : (n : ℕ) (key : Key) (o : Opening) (ok : Bool) (dialing : Option Attempt) (end : Option ListeningEnd)
    → Each (Plain n key) (dialing_puts o.node o.attempt ok dialing ++ listening_puts o.to ok end)
finish_plain n key o ok dialing end =
    Each-append (Plain n key) (dialing_puts o.node o.attempt ok dialing) (listening_puts o.to ok end) (dialing_plain dialing) (listening_plain end)
  where
    dialing_plain : (d : Option Attempt) → Each (Plain n key) (dialing_puts o.node o.attempt ok d)
    dialing_plain None = tt
    dialing_plain (Some a) = (plain_item n key (queue.Attempt o.node o.attempt) (item.Finished ok) refl refl, tt)

    listening_plain : (l : Option ListeningEnd) → Each (Plain n key) (listening_puts o.to ok l)
    listening_plain None = tt
    listening_plain (Some listening.Arriving) = tt
    listening_plain (Some (listening.Handshake h)) = (plain_item n key (queue.Handshake o.to h) (item.Finished ok) refl refl, tt)
