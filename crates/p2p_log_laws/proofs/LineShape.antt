-- The shape of an act that takes from the front of one line, and may end what is left of it: it moves no copy.
use Rattle.std.proofs.Common.{◌≡◌, true, false, List, [], ◌∷◌, ◌++◌, map, refl, ap, subst, ◌∙◌}
use Rattle.std.specs.Prelude.{flat_map}
use Rattle.std.specs.List.{AllByRecursion as Each}
use Rattle.p2p_log.specs.declared.config.Config.{Config}
use Rattle.p2p_log.specs.declared.queue.Queue.{Queue}
use Rattle.p2p_log.specs.declared.item.Item.{Item}
use Rattle.p2p_log.specs.declared.item.Envelope.{Envelope}
use Rattle.p2p_log.specs.declared.entry.Entry.{Entry}
use Rattle.p2p_log.specs.declared.entry.Reply.{Reply}
use Rattle.p2p_log.specs.declared.entry.Reply.TheVariants as reply
use Rattle.p2p_log.specs.declared.event.Act.{Act}
use Rattle.p2p_log.specs.Lines.{name_of, ended_item, stands_in, live, line}
use Rattle.p2p_log.specs.Sending.{keys_sent, sending_of}
use Rattle.p2p_log.specs.Taken.{AreTaken}
use Rattle.p2p_log.proofs.Each.{Each-filter, Each-weaker}
use Rattle.p2p_log.proofs.Names.{AreApart-live_from}
use Rattle.p2p_log.proofs.QueueNames.{Each-in_queue}
use Rattle.p2p_log.proofs.Taken.{line_taken}
use Rattle.p2p_log_rules.specs.declared.row.Row.{Row}
use Rattle.p2p_log_rules.specs.Moves.{Moves}
use Rattle.p2p_log_rules.specs.Attempting.{left_ends}
use Rattle.p2p_log_rules.specs.Reading.{is_read}
use Rattle.p2p_log_rules.specs.Rows.{only, taken_row}
use Rattle.p2p_log_laws.proofs.Reaching.{reads, writes, ends_in}
use Rattle.p2p_log_laws.proofs.Fitting.{StandsFit, fits, is_bare, holds_bare, is_item_end, bare_there}
use Rattle.p2p_log_laws.proofs.Shape.{Shape, IsQuiet, quiet_laws, one_move, no_moves, first_in}

pub left_gone : (xs : List Envelope) → flat_map ended_item (left_ends xs) ≡ map name_of xs
left_gone [] = refl
left_gone (x ∷ xs) = ap (λ l. name_of x ∷ l) (left_gone xs)

left_items : (xs : List Envelope) → Each (λ d. is_item_end d ≡ true) (left_ends xs)
left_items [] = tt
left_items (x ∷ xs) = (refl, left_items xs)

pub parts : {X : Type 0} (P : X → Type 0) (xs ys : List X) → Each P (xs ++ ys) → Each P xs × Each P ys
parts P [] ys h = (tt, h)
parts P (x ∷ xs) ys h = let more = parts P xs ys h.1 in ((h.0, more.0), more.1)

module _ (log : List Entry) (q : Queue) where
  pub whole_taken : AreTaken (live log) (line log q)
  unfolding line
  whole_taken = line_taken (live log) q (line log q) (AreApart-live_from 0 log) refl

  pub in_line : Each (λ x. x.queue ≡ q) (line log q)
  unfolding line
  in_line = Each-in_queue q (live log)

  line_fits : Each StandsFit (live log) → Each StandsFit (line log q)
  unfolding line
  line_fits h = Each-filter StandsFit (stands_in q) (live log) h

  line_bare : holds_bare q ≡ true → Each StandsFit (live log) → Each (λ x. is_bare x.item ≡ true) (line log q)
  line_bare bare stand = both (line log q) in_line (line_fits stand)
    where
      both : (xs : List Envelope) → Each (λ x. x.queue ≡ q) xs → Each StandsFit xs → Each (λ x. is_bare x.item ≡ true) xs
      both [] in_queue fit = tt
      both (x ∷ xs) in_queue fit = (bare_there q x.item bare (subst (λ p. fits p x.item ≡ true) in_queue.0 fit.0), both xs in_queue.1 fit.1)

-- what a row takes and ends is all of one line, and it ends no copy
pub record Within (configs : List Config) (log : List Entry) (a : Act) (q : Queue) (r : Row) : Type 0 where
  pub shape : Shape configs log a r
  pub taken : Each (λ x. x.queue ≡ q) shape.moves.taken
  pub ended : Each (λ x. x.queue ≡ q) shape.moves.ended
  pub items : Each (λ d. is_item_end d ≡ true) r.ends
  pub silent : is_read r.reply ≡ false

-- as where it moves nothing
pub still_within : (configs : List Config) (log : List Entry) (a : Act) (q : Queue) (r : Reply) → keys_sent (sending_of a r) ≡ [] → is_read r ≡ false → Within configs log a q (only r)
still_within configs log a q r none silent = record {
  shape = record {
    moves = no_moves log (only r) refl refl;
    reach = record { taken = tt; ended = tt; puts = tt };
    laws = λ fitting. quiet_laws configs log a (only r) (no_moves log (only r) refl refl) none silent tt tt tt tt;
  };
  taken = tt;
  ended = tt;
  items = tt;
  silent = silent;
}

pub still_took : (configs : List Config) (log : List Entry) (a : Act) (q : Queue) (r : Reply) (none : keys_sent (sending_of a r) ≡ []) (silent : is_read r ≡ false)
    → (still_within configs log a q r none silent).shape.moves.taken ≡ []
unfolding still_within
still_took configs log a q r none silent = refl

module _ (configs : List Config) (log : List Entry) (a : Act) (q : Queue) (read : reads configs log a q ≡ true) (bare : holds_bare q ≡ true)
    (none : (r : Reply) → keys_sent (sending_of a r) ≡ []) where
  split : (took left : List Envelope) → line log q ≡ took ++ left → (P : Envelope → Type 0) → Each P (line log q) → Each P took × Each P left
  split took left first P h = parts P took left (subst (Each P) first h)

  -- it takes these, of which it is left these, which end, and puts these
  pub ended_within : ends_in configs log a q ≡ true → (took left : List Envelope) → line log q ≡ took ++ left → (puts : List (Queue × Item)) → Each IsQuiet puts → Each (λ x. writes configs log a x.0 ≡ true) puts
      → Within configs log a q (record { reply = reply.Ok; takes = map name_of took; puts = puts; ends = left_ends left })
  ended_within written took left first puts quiet near =
      let r : Row = record { reply = reply.Ok; takes = map name_of took; puts = puts; ends = left_ends left } in
      let m : Moves log r = record { taken = took; ended = left; names = refl; gone = left_gone left; stood = subst (AreTaken (live log)) first (whole_taken log q) } in
      let here = split took left first (λ x. x.queue ≡ q) (in_line log q) in
      record {
        shape = record {
          moves = m;
          reach = record {
            taken = Each-weaker (λ x. x.queue ≡ q) (λ x. reads configs log a x.queue ≡ true) (λ x is. ap (reads configs log a) is ∙ read) took here.0;
            ended = Each-weaker (λ x. x.queue ≡ q) (λ x. ends_in configs log a x.queue ≡ true) (λ x is. ap (ends_in configs log a) is ∙ written) left here.1;
            puts = near;
          };
          laws = λ fitting.
              let both = split took left first (λ x. is_bare x.item ≡ true) (line_bare log q bare fitting) in
              quiet_laws configs log a r m (none reply.Ok) refl both.0 both.1 (left_items left) quiet;
        };
        taken = here.0;
        ended = here.1;
        items = left_items left;
        silent = refl;
      }

  pub ended_took : (written : ends_in configs log a q ≡ true) (took left : List Envelope) (first : line log q ≡ took ++ left) (puts : List (Queue × Item)) (quiet : Each IsQuiet puts)
      (near : Each (λ x. writes configs log a x.0 ≡ true) puts) → (ended_within written took left first puts quiet near).shape.moves.taken ≡ took
  unfolding ended_within
  ended_took written took left first puts quiet near = refl

  pub ended_whole : (written : ends_in configs log a q ≡ true) (took left : List Envelope) (first : line log q ≡ took ++ left) (puts : List (Queue × Item)) (quiet : Each IsQuiet puts)
      (near : Each (λ x. writes configs log a x.0 ≡ true) puts)
      → (ended_within written took left first puts quiet near).shape.moves.taken ++ (ended_within written took left first puts quiet near).shape.moves.ended ≡ took ++ left
  unfolding ended_within
  ended_whole written took left first puts quiet near = refl

  -- it takes this, puts these, and goes on
  pub asking_within : (x : Envelope) (rest : List Envelope) → line log q ≡ x ∷ rest → (puts : List (Queue × Item)) → Each IsQuiet puts → Each (λ p. writes configs log a p.0 ≡ true) puts
      → Within configs log a q (record { reply = reply.Ok; takes = name_of x ∷ []; puts = puts; ends = [] })
  asking_within x rest first puts quiet near =
      let r : Row = record { reply = reply.Ok; takes = name_of x ∷ []; puts = puts; ends = [] } in
      let here = split (x ∷ []) rest first (λ y. y.queue ≡ q) (in_line log q) in
      record {
        shape = record {
          moves = one_move log q x rest first r refl refl;
          reach = record { taken = (first_in (reads configs log a) log q x rest first read, tt); ended = tt; puts = near };
          laws = λ fitting.
              let both = split (x ∷ []) rest first (λ y. is_bare y.item ≡ true) (line_bare log q bare fitting) in
              quiet_laws configs log a r (one_move log q x rest first r refl refl) (none reply.Ok) refl both.0 tt tt quiet;
        };
        taken = here.0;
        ended = tt;
        items = tt;
        silent = refl;
      }

  pub asking_took : (x : Envelope) (rest : List Envelope) (first : line log q ≡ x ∷ rest) (puts : List (Queue × Item)) (quiet : Each IsQuiet puts)
      (near : Each (λ p. writes configs log a p.0 ≡ true) puts) → (asking_within x rest first puts quiet near).shape.moves.taken ≡ x ∷ []
  unfolding asking_within
  asking_took x rest first puts quiet near = refl

  pub asking_shape : (x : Envelope) (rest : List Envelope) → line log q ≡ x ∷ rest → (puts : List (Queue × Item)) → Each IsQuiet puts → Each (λ p. writes configs log a p.0 ≡ true) puts
      → Shape configs log a (record { reply = reply.Ok; takes = name_of x ∷ []; puts = puts; ends = [] })
  asking_shape x rest first puts quiet near = (asking_within x rest first puts quiet near).shape

  -- it takes this, and goes on
  pub gone_on_shape : (x : Envelope) (rest : List Envelope) → line log q ≡ x ∷ rest → Shape configs log a (taken_row (name_of x))
  gone_on_shape x rest first = asking_shape x rest first [] tt tt
