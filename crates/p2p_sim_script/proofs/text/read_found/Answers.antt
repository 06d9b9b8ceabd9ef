use Rattle.std.proofs.Common.{◌≡◌, Some, refl, sym, ◌∙◌, subst, arith}
use Rattle.json.specs.Json.{read_key}
use Rattle.serde_json.specs.Data.{no_members, put}
use Rattle.p2p_sim_script.specs.Said.{Says}
use Rattle.p2p_sim_script.proofs.Saying.{says_first, says_more}
use Rattle.p2p_sim_script.proofs.Taking.{members_taken-end, members_taken-no_key, members_taken-more, members_taken-refused}
use Rattle.p2p_sim_script.proofs.text.read_found.Goals as goal

pub members-init : goal.members-init
members-init c = (no_members, refl, says_first)

pub returns-in_err-name-clause-not_json : goal.returns-in_err-name-clause-not_json
returns-in_err-name-clause-not_json c refused =
    let l = c.members in
    l.invariant.1 ∙ members_taken-no_key 126 l.invariant.0 l.reader c.in_err-name.ensures.value

pub returns-in_err-read_member-clause-not_json : goal.returns-in_err-read_member-clause-not_json
returns-in_err-read_member-clause-not_json c refused =
    let l = c.members in
    let k = c.in-Some.name.now in
    let s = c.next_key.new.self in
    let named : read_key l.reader ≡ Some (Some k, s) = grind arith in
    l.invariant.1 ∙ members_taken-refused 126 l.invariant.0 k l.reader s named (c.read_member.ensures.not_json (grind arith))

pub members-preserved : goal.members-preserved
members-preserved c =
    let l = c.members in
    let k = c.in-Some.name.now in
    let s = c.next_key.new.self in
    let r = c.read_member.new.reader in
    let named : read_key l.reader ≡ Some (Some k, s) = grind arith in
    let e = c.in_ok-read_member.ensures.ok in (
      put k e.0 l.invariant.0,
      l.invariant.1 ∙ members_taken-more 126 l.invariant.0 k l.reader s r e.0 named e.1,
      subst (λ f. Says f (put k e.0 l.invariant.0)) (sym e.2) (says_more l.found k e.0 l.invariant.0 l.invariant.2),
    )

pub returns-clause-ok : goal.returns-clause-ok
returns-clause-ok c =
    let l = c.members in
    (l.invariant.0, l.invariant.1 ∙ members_taken-end 126 l.invariant.0 l.reader c.next_key.new.self (grind arith), l.invariant.2)
