-- Which links were cut, with one more entry.
use Rattle.std.proofs.Common.{◌≡◌, ℕ, List, [], ◌∷◌, ◌++◌, refl, ap, ◌∙◌, false}
use Rattle.std.specs.Prelude.{◌==◌, ◌||◌}
use Rattle.std.specs.List.{list_any}
use Rattle.p2p_log.specs.declared.entry.Entry.{Entry}
use Rattle.p2p_log.specs.declared.entry.Reply.{Reply}
use Rattle.p2p_log.specs.declared.entry.Reply.TheVariants as reply
use Rattle.p2p_log.specs.declared.event.Act.TheVariants as act
use Rattle.p2p_log_rules.specs.Cutting.{cuts, is_cut}
use Rattle.p2p_log_rules.specs.Facts.{state_from}
use Rattle.p2p_log_rules.specs.Tellings.{Telling}
use Rattle.p2p_log_rules.specs.Tellings as telling
use Rattle.p2p_log_rules.specs.Told.{done_tells, tells, told}
use Rattle.p2p_log_rules.proofs.Acted.{found-append, found-kept}
use Rattle.p2p_log_rules.proofs.Bools.{or_false}
use Rattle.p2p_log_rules.proofs.TellingKinds.{Kind}
use Rattle.p2p_log_rules.proofs.TellingKinds as kind
use Rattle.p2p_log_rules.proofs.Families.{telling_kind, has}
use Rattle.p2p_log_rules.proofs.LinkTells.{weaker, tells_act, TellsNone}

-- what tells of cuts
abbrev pub cut_kinds : List Kind
cut_kinds = kind.link_cut ∷ []

of_cuts : (k : ℕ) (t : Telling) → has cut_kinds (telling_kind t) ≡ false → cuts k t ≡ false
of_cuts k (telling.link_cut link) h = cc
of_cuts k _ h = refl

-- an entry that cuts no link
pub is_cut-kept : (log : List Entry) (e : Entry) → TellsNone (told log) log e cut_kinds → (k : ℕ) → is_cut (log ++ e ∷ []) k ≡ is_cut log k
unfolding is_cut
is_cut-kept log e none k = found-kept log e (cuts k) (weaker (λ t. has cut_kinds (telling_kind t)) (cuts k) (of_cuts k) (tells (told log) log e) none)

-- one that cuts this link
pub is_cut-append : (log : List Entry) (e : Entry) (link : ℕ) → e.event.act ≡ act.Cut link → e.reply ≡ reply.Ok → (k : ℕ) → is_cut (log ++ e ∷ []) k ≡ (is_cut log k || (k == link))
unfolding is_cut
is_cut-append log e link acts done k =
    found-append log e (cuts k)
    ∙ ap (λ b. is_cut log k || b)
    (ap (list_any (cuts k)) (tells_act (told log) log e (act.Cut link) acts)
    ∙ (ap (λ (r : Reply). list_any (cuts k) (done_tells r (telling.link_cut link ∷ []))) done ∙ or_false (k == link)))

pub is_cut-none : (k : ℕ) → is_cut [] k ≡ false
unfolding is_cut told state_from
is_cut-none k = refl
