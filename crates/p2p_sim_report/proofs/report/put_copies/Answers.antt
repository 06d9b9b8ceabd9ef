-- The line that was written is that of the first of the copies that are left.
use Rattle.std.proofs.Common.{◌+◌, ◌∙◌, ap, sym, List, ℕ, drop}
use Rattle.std.specs.String.{string_bytes}
use Rattle.std.proofs.lemmas.List.{at_drop_more}
use Rattle.p2p_base.specs.declared.key.Key.{Key}
use Rattle.p2p_sim_report.specs.ReportText.{copies_onto}
use Rattle.p2p_sim_report.proofs.report.put_copies.Goals as goal

pub loop-place-preserved : goal.loop-place-preserved
loop-place-preserved c =
    let log = c.args.report.now.log in
    let send = c.args.send in
    let place = c.loop-place.place in
    let keys = c.args.keys.now in
    let any : Key = record { 0 = 0 } in
    let left : List Key → List ℕ = λ ks. copies_onto log (string_bytes c.loop-place.out) send place ks in
    let after : List ℕ → List ℕ = λ out. copies_onto log out send (place + 1) (drop (place + 1) keys) in
    ap after c.in_ok-put_copy_line.ensures ∙ sym (at_drop_more left keys place any c.loop-place-test.true) ∙ c.loop-place.invariant
