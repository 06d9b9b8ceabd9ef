use Rattle.std.proofs.Common.{Result, Ok, Err, sym, ap, ◌∙◌}
use Rattle.std.specs.Prelude.{OnErr}
use Rattle.std.specs.BTreeMap.{is_at}
use Rattle.std.specs.Map.{set_value}
use Rattle.std.specs.Ordering.{nat_cmp}
use Rattle.std.proofs.lemmas.Map.Steps.{set_value_same}
use Rattle.p2p_tracker_mailbox.proofs.handshakes.Handshakes.put.Goals as goal

on_err : {X E : Type 0} {Q : Type 0} (r : Result X E) → Q → OnErr r Q
on_err (Ok x) h = tt
on_err (Err e) h = h

pub returns-in_err-put-in-Some-clause-memory : goal.returns-in_err-put-in-Some-clause-memory
returns-in_err-put-in-Some-clause-memory g c =
    let test = is_at (nat_cmp c.args.handshake) in
    let written = (c.get_mut.follows.holds c.put.new.self).0 in
    let same = set_value_same test c.self.inside.lines.entries c.in-Some.line.now (sym c.in-Some.ensures.value) in
    let whole = written ∙ (ap (λ w. set_value test c.self.inside.lines.entries w) c.in_err-put-in-Some.ensures.memory ∙ (same ∙ c.self.view_is)) in
    on_err c.from_residual.result whole
