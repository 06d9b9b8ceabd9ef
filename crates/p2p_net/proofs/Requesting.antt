-- What was requested of the nodes of a world, with one more event.
use Rattle.std.proofs.Common.{◌≡◌, ℕ, ◌<◌, true, false, List, [], ◌∷◌, ◌++◌, length, refl, sym, subst, ◌∙◌, arith, Option, Some, None}
use Rattle.std.specs.Prelude.{slice_get, nat_lt}
use Rattle.std.proofs.lemmas.Bool.Decides.{nat_tests}
use Rattle.std.proofs.lemmas.Option.{slice_get_past}
use Rattle.p2p_log.specs.declared.config.Config.{Config}
use Rattle.p2p_log.specs.declared.entry.Entry.{Entry}
use Rattle.p2p_log.specs.declared.event.Act.{Act}
use Rattle.p2p_log.specs.declared.event.Event.{Event}
use Rattle.p2p_log_rules.specs.Facts.{events_of}
use Rattle.p2p_log_rules.specs.Valid.{is_valid_event}
use Rattle.p2p_net_links.specs.declared.links.Links.{Links}
use Rattle.p2p_net_node.specs.Places.{node_of}
use Rattle.p2p_net_node.specs.Ready.{may_at, MayPerform}
use Rattle.p2p_net_node.specs.Requested.{AreRequested}
use Rattle.p2p_net_node.specs.declared.node.Node.{Node}
use Rattle.p2p_net_node.specs.declared.requested.Requested.{Requested}
use Rattle.p2p_net_node.proofs.Readying.{capacity_is, may_perform}
use Rattle.p2p_net_node.proofs.Requests.{may_note, requests_noted}
use Rattle.p2p_net.specs.Requesting.{MayNoteAt, NotesAt}
use Rattle.p2p_net.specs.World.{KeptStands}
use Rattle.p2p_net.proofs.Records.{valid_act}

-- nothing is past the end
pub nothing_at : {X : Type 0} (xs : List X) (n : ℕ) → false ≡ nat_lt n (length xs) → slice_get xs n ≡ None
nothing_at xs n h = slice_get_past xs n (grind (arith, nat_tests))

-- a node of which no requests are known may not be asked
pub unlisted : (o : Option Node) (log : List Entry) (a : Act) → may_at o None log a ≡ false
unlisted None log a = refl
unlisted (Some x) log a = refl

module _ (configs : List Config) (log : List Entry) (nodes : List Node) (rs : List Requested) (links : Links) (last : ℕ) (v : Event) (k : KeptStands configs log nodes rs links last)
    (valid : is_valid_event configs (events_of log) v ≡ true) where
  abbrev n : ℕ
  n = node_of log v.act

  performs : MayPerform nodes links n v.act
  performs = may_perform configs log nodes links rs v.act k.world k.requested k.lawful (valid_act configs (events_of log) v valid)

  -- an event that may be asked for can be noted
  may_note_at : MayNoteAt n nodes rs v.act
  may_note_at = record {
    there = performs.first;
    listed = subst (λ m. n < m) (k.world.long ∙ sym k.requested.long) performs.first;
    notes = λ x r at of. may_note configs log (events_of log) n x (λ rate. capacity_is configs n rate x (k.world.each n x at).own) v.act r refl (k.requested.each n r of) (valid_act configs (events_of log) v valid);
  }

  pub may_note_of : (ns : List Node) (es : List Entry) → ns ≡ nodes → es ≡ log → MayNoteAt (node_of es v.act) ns rs v.act
  may_note_of ns es same alike = subst (λ l. MayNoteAt (node_of l v.act) ns rs v.act) (sym alike) (subst (λ l. MayNoteAt n l rs v.act) (sym same) may_note_at)

  -- and once it was, that is what was requested with it
  noted : (new : List Requested) → NotesAt n nodes v.act rs new → AreRequested configs (events_of log ++ v ∷ []) new
  noted new d =
      let x : Node = d.0 in
      let r : Requested = d.1.0 in
      subst (AreRequested configs (events_of log ++ v ∷ [])) (sym d.1.1.1.1)
      (requests_noted configs log (events_of log) n x (λ rate. capacity_is configs n rate x (k.world.each n x d.1.1.0).own) rs v r refl d.1.1.1.0 k.requested (valid_act configs (events_of log) v valid))

  pub noted_of : (ns : List Node) (es : List Entry) (new : List Requested) → ns ≡ nodes → es ≡ log → NotesAt (node_of es v.act) ns v.act rs new → AreRequested configs (events_of log ++ v ∷ []) new
  noted_of ns es new same alike d = noted new (subst (λ l. NotesAt n l v.act rs new) same (subst (λ l. NotesAt (node_of l v.act) ns v.act rs new) alike d))
