-- How a message is kept.
use Rattle.std.specs.Prelude.{◌≡◌, ◌≢◌, Bool, true, false}
use Rattle.std.proofs.Common.{sym, ap, ◌∙◌}
use Rattle.std.proofs.lemmas.Bool.{false≢true}
use Rattle.p2p_base.specs.declared.policy.Keep.{Keep}
use Rattle.p2p_base.specs.declared.policy.Keep.TheVariants.{Refuse, Append, Replace}

abbrev pub refuses : Keep → Bool
refuses Refuse = true
refuses Append = false
refuses Replace = false

-- shows that a message is never refused, by `refl` as its second argument
pub not_refused : (keep : Keep) → refuses keep ≡ false → keep ≢ Refuse
not_refused keep h e = false≢true (sym h ∙ ap refuses e)
