use Rattle.std.proofs.Common.{rules, ◌≡◌}
use Rattle.p2p_threads.proofs.Moves.{joins}
use Rattle.p2p_threads.proofs.Passes.{Joined, joined_room, joined_pass}
use Rattle.p2p_threads.proofs.shared.Shared.join.Goals as goal

pub join_seat-requires : goal.join_seat-requires
join_seat-requires g c = (search rules, search rules, c.pass.invariant.hand, search rules, joins g.T.Served.reply g.T.Served.next c.self.inside.board.shared.key.value _ _ _ _ c.pass.invariant.inside)

pub overflow_add-into : goal.overflow_add-into
overflow_add-into g c =
    let k = c.check.ensures in
    let j : Joined c.into.inside.seat.me c.pass.inside.seat.me c.join_seat.new.seat.me c.check.new.seat.me c.check.result = record { merges = c.join_seat.ensures.2; view = k.view; told = k.told; once = k.once; length = k.length } in
    let room = joined_room _ _ _ _ _ _ _ _ _ c.into.invariant c.pass.invariant j c.check.type_inv in search rules

pub invariant_of-into : goal.invariant_of-into
invariant_of-into g c =
    let k = c.check.ensures in
    let j : Joined c.into.inside.seat.me c.pass.inside.seat.me c.join_seat.new.seat.me c.check.new.seat.me c.check.result = record { merges = c.join_seat.ensures.2; view = k.view; told = k.told; once = k.once; length = k.length } in
    let same : c.into.inside.seat.table_id ≡ c.check.new.seat.table_id = search rules in
    joined_pass _ _ _ same _ _ _ _ _ _ _ c.into.invariant c.pass.invariant j
