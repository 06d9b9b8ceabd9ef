-- An order of the queues, by the three numbers of their code.
use Rattle.std.specs.Prelude.{Bool, nat_eq}
use Rattle.std.specs.Ordering.{nat_cmp, on, then_cmp, eq_of_both}
use Rattle.std.specs.declared.cmp.Ordering.{Ordering}
use Rattle.p2p_log.specs.declared.queue.Queue.{Queue}
use Rattle.p2p_log.specs.QueueCode.{kind_of, owner_of, detail_of}

abbrev pub queue_cmp : Queue → Queue → Ordering
queue_cmp = then_cmp (then_cmp (on kind_of nat_cmp) (on owner_of nat_cmp)) (on detail_of nat_cmp)

abbrev pub queue_eq : Queue → Queue → Bool
queue_eq = eq_of_both (on kind_of nat_eq) (eq_of_both (on owner_of nat_eq) (on detail_of nat_eq))
