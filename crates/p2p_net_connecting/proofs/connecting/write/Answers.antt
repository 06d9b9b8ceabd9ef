use Rattle.std.proofs.Common.{refl, subst, ℕ}
use Rattle.p2p_net_node.specs.Routing as routing
use Rattle.p2p_net_node.specs.declared.node.Node.{Node}
use Rattle.p2p_net_connecting.proofs.connecting.write.Goals as goal

pub returns-clause-does : goal.returns-clause-does
returns-clause-does c =
    let x : Node = c.args.node.now in
    let frames = c.in_ok-frames.frames in
    let taken : routing.Batches c.args.conn c.beside_ping-most.result x.router c.batch.new.self frames =
    record { kept = c.in_ok-frames.ensures.kept; taken = c.in_ok-frames.ensures.taken; stands = c.in_ok-frames.ensures.stands; over = c.in_ok-frames.ensures.over }
    in
    record {
      frames = frames;
      batched = record x { router = c.batch.new.self };
      batches = subst (λ (most : ℕ). routing.Batches c.args.conn most x.router c.batch.new.self frames) c.beside_ping-most.ensures taken;
      kept = refl;
      writes = c.in_ok-write_frames.ensures.does;
    }
