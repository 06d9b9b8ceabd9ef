use Rattle.std.proofs.Common.{◌≡◌, [], ◌∷◌, ◌++◌, string_bytes, sym, ap, ◌∙◌, subst, append_assoc}
use Rattle.std.specs.List.Sorted.{IsStrictlySortedBy}
use Rattle.std.specs.Map.{keys_of}
use Rattle.std.specs.String.{string_cmp}
use Rattle.serde_json.proofs.Views.{Entry as Owned, put_last}
use Rattle.p2p_sim_script.specs.View.{members_view}
use Rattle.p2p_sim_script.proofs.Views.{members_view-push}
use Rattle.p2p_sim_script.proofs.borrowed.+borrow.Goals as goal

pub borrowed_members-loop-key-preserved : goal.borrowed_members-loop-key-preserved
borrowed_members-loop-key-preserved t c =
    let l = c.loop-key in
    let done = l.invariant.0 in
    let e : Owned = (c.in-Some.key.now, c.in-Some.member.now) in
    let left = c.next.new.self in
    let all : c.args.members.now.entries ≡ done ++ e ∷ left = l.invariant.1 ∙ ap (λ es. done ++ es) c.in-Some.ensures.steps in
    let last = put_last done e left (subst (λ es. IsStrictlySortedBy string_cmp (keys_of es)) all c.iter-key-items.ensures.ordered) in
    let named : c.as_str.result.now ≡ string_bytes e.0 = c.as_str.ensures.value in (
      done ++ e ∷ [],
      all ∙ sym (append_assoc done (e ∷ []) left),
      ap members_view c.in_ok-push.ensures.items ∙ members_view-push l.found.items (c.as_str.result, c.in_ok-borrowed.field-0) ∙ rw (named, c.in_ok-borrowed.ensures, l.invariant.2) last,
    )
