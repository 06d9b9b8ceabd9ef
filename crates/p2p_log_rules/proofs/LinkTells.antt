-- What an entry tells whose act is known, and when it tells nothing that a test holds of.
use Rattle.std.proofs.Common.{◌≡◌, ℕ, Bool, true, false, List, [], ◌∷◌, length, refl, ap, ◌∙◌}
use Rattle.std.specs.Prelude.{◌||◌}
use Rattle.std.specs.List.{list_any}
use Rattle.p2p_address.specs.declared.ip.SocketAddr.{SocketAddr}
use Rattle.p2p_log.specs.declared.queue.Queue.{Queue}
use Rattle.p2p_log.specs.declared.item.Item.{Item}
use Rattle.p2p_log.specs.declared.entry.Entry.{Entry}
use Rattle.p2p_log.specs.declared.entry.Reply.TheVariants as reply
use Rattle.p2p_log.specs.declared.event.Act.{Act}
use Rattle.p2p_log.specs.declared.event.Act.TheVariants as act
use Rattle.p2p_log_rules.specs.Taking.{taken}
use Rattle.p2p_log_rules.specs.Tellings.{Telling}
use Rattle.p2p_log_rules.specs.Tellings as telling
use Rattle.p2p_log_rules.specs.Told.{done_tells, link_tells, act_tells, tells}
use Rattle.p2p_log_rules.proofs.TellingKinds.{Kind}
use Rattle.p2p_log_rules.proofs.Families.{telling_kind, kinds_of, has, are_apart, untold_of}
use Rattle.p2p_log_rules.proofs.Tellings.{or_left, or_right}
use Rattle.p2p_log_rules.proofs.Told.{NoneTold, quiet_act}

-- what holds of no telling where another test holds of none
pub weaker : (about other : Telling → Bool) → ((t : Telling) → about t ≡ false → other t ≡ false) → (us : List Telling) → list_any about us ≡ false → list_any other us ≡ false
weaker about other less [] h = refl
weaker about other less (t ∷ us) h = ap (λ b. b || list_any other us) (less t (or_left (about t) (list_any about us) h)) ∙ weaker about other less us (or_right (about t) (list_any about us) h)

module _ (ts : List Telling) (log : List Entry) (e : Entry) where
  -- what it tells, by its act
  abbrev pub told_of : Act → List Telling
  told_of a = act_tells ts log (length log) e.event.at e.event.seed e.reply (taken log e) e.puts a

  pub tells_act : (a : Act) → e.event.act ≡ a → tells ts log e ≡ told_of a
  unfolding tells
  tells_act a acts = ap told_of acts

  -- an act that may tell only what a test does not hold of
  pub quiet_told : (about : Telling → Bool) (a : Act) → e.event.act ≡ a → NoneTold about (length log) e.event.at a → list_any about (tells ts log e) ≡ false
  quiet_told about a acts none = ap (list_any about) (tells_act a acts) ∙ quiet_act about (length log) e.event.at ts log e.event.seed e.reply (taken log e) e.puts a none

  -- it tells nothing of these kinds
  abbrev pub TellsNone : List Kind → Type 0
  TellsNone ks = list_any (λ t. has ks (telling_kind t)) (tells ts log e) ≡ false

  -- as where its act tells of others
  pub apart_none : (ks : List Kind) → are_apart (kinds_of e.event.act) ks ≡ true → TellsNone ks
  apart_none ks apart = untold_of (λ t. has ks (telling_kind t)) ks (λ t h. h) ts log e apart

  -- a dial that was answered with a link
  pub linked_tells : (d m to : ℕ) (from : SocketAddr) (told arrival : Queue × Item) (rest : List (Queue × Item)) → e.event.act ≡ act.Connect d from m to → e.reply ≡ reply.Ok → e.puts ≡ told ∷ arrival ∷ rest
      → tells ts log e ≡ telling.dial_answered m d (length log) ∷ telling.link_opened m d (length log) to ∷ []
  linked_tells d m to from told arrival rest acts done puts =
      tells_act (act.Connect d from m to) acts
      ∙ (ap (λ r. done_tells r (telling.dial_answered m d (length log) ∷ link_tells m d (length log) to e.puts)) done
      ∙ ap (λ p. telling.dial_answered m d (length log) ∷ link_tells m d (length log) to p) puts)

  -- the end of an exchange
  pub finished_tells : (link : ℕ) (ok : Bool) → e.event.act ≡ act.Finish link ok → e.reply ≡ reply.Ok → tells ts log e ≡ telling.exchange_ended link ∷ []
  finished_tells link ok acts done = tells_act (act.Finish link ok) acts ∙ ap (λ r. done_tells r (telling.exchange_ended link ∷ [])) done
