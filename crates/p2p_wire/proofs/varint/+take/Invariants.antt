use Rattle.p2p_wire.proofs.varint.+take.Given as goal

abbrev pub decreases-take : goal.decreases-take
decreases-take l = l.places
