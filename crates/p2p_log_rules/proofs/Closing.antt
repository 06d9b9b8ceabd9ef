-- Which channels of a node have a reader, with one more entry.
use Rattle.std.proofs.Common.{◌≡◌, ℕ, Bool, true, false, List, [], ◌∷◌, ◌++◌, refl, ap, ◌∙◌}
use Rattle.std.specs.Prelude.{◌==◌, ◌&&◌, ◌||◌}
use Rattle.std.specs.List.{list_any}
use Rattle.p2p_log.specs.declared.entry.Entry.{Entry}
use Rattle.p2p_log.specs.declared.entry.Reply.{Reply}
use Rattle.p2p_log.specs.declared.entry.Reply.TheVariants as reply
use Rattle.p2p_log.specs.declared.event.Act.TheVariants as act
use Rattle.p2p_log_rules.specs.Closing.{drops_reader, is_closed}
use Rattle.p2p_log_rules.specs.Connections.{is_done}
use Rattle.p2p_log_rules.specs.Facts.{state_from}
use Rattle.p2p_log_rules.specs.Tellings.{Telling}
use Rattle.p2p_log_rules.specs.Tellings as telling
use Rattle.p2p_log_rules.specs.Told.{done_tells, told}
use Rattle.p2p_log_rules.proofs.Acted.{tells_as, TellsNone, found-append, found-kept, found-apart}
use Rattle.p2p_log_rules.proofs.TellingKinds.{Kind}
use Rattle.p2p_log_rules.proofs.TellingKinds as kind
use Rattle.p2p_log_rules.proofs.Families.{telling_kind, has}

-- what tells of readers
abbrev pub reader_kinds : List Kind
reader_kinds = kind.reader_dropped ∷ []

of_readers : (n c : ℕ) (t : Telling) → has reader_kinds (telling_kind t) ≡ false → drops_reader n c t ≡ false
of_readers n c (telling.reader_dropped m d) h = cc
of_readers n c _ h = refl

-- an act that drops no reader
pub is_closed-apart : (log : List Entry) (e : Entry) (n c : ℕ) → TellsNone log e reader_kinds → is_closed (log ++ e ∷ []) n c ≡ is_closed log n c
unfolding is_closed
is_closed-apart log e n c apart = found-apart log e (drops_reader n c) reader_kinds (of_readers n c) apart

drops : (n c m d : ℕ) (r : Reply) → list_any (drops_reader n c) (done_tells r (telling.reader_dropped m d ∷ [])) ≡ (((m == n) && (d == c)) && is_done r)
drops n c m d reply.Ok = by ((m == n) && (d == c))
  where
    by : (b : Bool) → (b || false) ≡ (b && true)
    by true = refl
    by false = refl
drops n c m d _ = by ((m == n) && (d == c))
  where
    by : (b : Bool) → false ≡ (b && false)
    by true = refl
    by false = refl

-- one that drops that of a channel, where it is done
pub is_closed-append : (log : List Entry) (e : Entry) (n c m d : ℕ) → e.event.act ≡ act.Close d m → is_closed (log ++ e ∷ []) n c ≡ (is_closed log n c || (((m == n) && (d == c)) && is_done e.reply))
unfolding is_closed
is_closed-append log e n c m d acts =
    found-append log e (drops_reader n c)
    ∙ ap (λ b. is_closed log n c || b) (ap (list_any (drops_reader n c)) (tells_as (told log) log e (act.Close d m) acts) ∙ drops n c m d e.reply)

-- and of no other
pub is_closed-kept : (log : List Entry) (e : Entry) (n c m d : ℕ) → e.event.act ≡ act.Close d m → (((m == n) && (d == c)) && is_done e.reply) ≡ false → is_closed (log ++ e ∷ []) n c ≡ is_closed log n c
unfolding is_closed
is_closed-kept log e n c m d acts none =
    found-kept log e (drops_reader n c) (ap (list_any (drops_reader n c)) (tells_as (told log) log e (act.Close d m) acts) ∙ (drops n c m d e.reply ∙ none))

pub is_closed-none : (n c : ℕ) → is_closed [] n c ≡ false
unfolding is_closed told state_from
is_closed-none n c = refl
