use Rattle.std.proofs.Common.{◌≡◌, sym}
use Rattle.std.specs.BTreeMap.{is_at}
use Rattle.std.specs.Ordering.{nat_cmp}
use Rattle.p2p_flow_connection.proofs.Unchanged.{unchanged}
use Rattle.p2p_flow_connection.proofs.inbounds.put_into.Goals as goal

pub returns-in-Some-clause-no_room : goal.returns-in-Some-clause-no_room
returns-in-Some-clause-no_room g c =
    unchanged c.put.result (λ e. e.0 ≡ c.args.message) (is_at (nat_cmp c.args.channel)) c.args.mailboxes.now.entries _ c.in-Some.mailbox.now c.put.new.lane
    (sym (rw c.in-Some.is at c.get_mut.ensures.value)) (c.get_mut.follows.holds c.put.new.lane).0 c.put.ensures.no_room
