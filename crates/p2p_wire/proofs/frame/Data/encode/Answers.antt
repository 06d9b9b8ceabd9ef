use Rattle.std.proofs.Common.{◌∙◌, ap, List, ℕ, ◌++◌}
use Rattle.p2p_wire.proofs.Rows.{is_written}
use Rattle.p2p_wire.proofs.frame.Data.encode.Goals as goal

pub returns : goal.returns
returns c =
    let sent = c.in_ok-extend_from_slice.ensures.items ∙ ap (λ (message : List ℕ). c.push-3.new.out.items ++ message) c.as_slice.ensures in
    c.in_ok-from_vec.ensures.ok
    ∙ is_written c.args.self.now c.in_ok-out.out.items c.push.new.self.items c.push-2.new.out.items c.push-3.new.out.items c.extend_from_slice.new.self.items c.len-size.result
    c.in_ok-out.ensures.items c.in_ok-push.ensures.items c.in_ok-push-2.ensures c.len-size.ensures.value c.in_ok-push-3.ensures sent
