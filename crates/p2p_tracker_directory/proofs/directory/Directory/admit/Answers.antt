use Rattle.std.proofs.Common.{◌≡◌, ◌∷◌, ◌<◌, ◌-◌, ◌^◌, length, true, sym, ◌∙◌, subst, arith}
use Rattle.std.specs.Prelude.{Result, Ok, Err, OnErr}
use Rattle.p2p_tracker_calls.specs.Sets.{set_of, is_among}
use Rattle.p2p_tracker_directory.specs.Stands.{StandsFor}
use Rattle.p2p_tracker_directory.specs.Tracked.{Fell, is_above_latest}
use Rattle.p2p_tracker_directory.proofs.Accepting.{stands-swept, stands-accepted}
use Rattle.p2p_tracker_directory.proofs.StandingTracks.{fell-pushed}
use Rattle.p2p_tracker_directory.proofs.directory.Directory.admit.Goals as goal

on_err : {X Y : Type 0} (r : Result X Y) (Q : Type 0) → Q → OnErr r Q
on_err (Ok x) Q h = tt
on_err (Err y) Q h = h

pub returns-in_err-make_room-clause-memory : goal.returns-in_err-make_room-clause-memory
returns-in_err-make_room-clause-memory g c = on_err c.from_residual-in_err-make_room.result _ (λ calls s.
    let kept = subst (λ k. StandsFor g.C.Ord.cmp k calls) (sym c.self.view_is) s in
    stands-swept g.met.C.Ord.total kept (is_among g.C.Ord.cmp c.args.newcomers.set.primary) (is_among g.C.Ord.cmp c.args.newcomers.set.secondary)
    c.reserve.new.self.items c.reserve.ensures.items c.make_room.new.records.entries c.in_err-make_room.ensures.memory)

pub returns-clause-fell : goal.returns-clause-fell
returns-clause-fell g c =
    let fell = fell-pushed c.self.inside.cfg.max_sets c.args.newcomers.set c.take_up-set.result c.self.inside.sets.items c.reserve.new.self.items c.push_front_reserved.new.self.items
    c.take_oldest-oldest.new.sets.items c.take_oldest-oldest.result c.take_up-set.ensures.set c.reserve.ensures.items c.push_front_reserved.ensures.items
    (record { parts = c.take_oldest-oldest.ensures.parts; fits = c.take_oldest-oldest.ensures.fits; over = c.take_oldest-oldest.ensures.over }) in
    (c.take_oldest-oldest.result, subst (λ k. Fell k.rules.max_sets (c.args.newcomers.set ∷ k.sets) c.take_oldest-oldest.new.sets.items c.take_oldest-oldest.result) c.self.view_is fell)

pub returns-clause-stands : goal.returns-clause-stands
returns-clause-stands g c = λ calls primary secondary s set_is first_is second_is.
    let kept = subst (λ k. StandsFor g.C.Ord.cmp k calls) (sym c.self.view_is) s in
    let next : is_above_latest c.args.index c.self.inside.latest ≡ true = subst (λ k. is_above_latest c.args.index k.latest ≡ true) (sym c.self.view_is) c.requires.next in
    let fell = fell-pushed c.self.inside.cfg.max_sets (set_of g.C.Ord.cmp c.args.index primary secondary) c.take_up-set.result c.self.inside.sets.items c.reserve.new.self.items c.push_front_reserved.new.self.items
    c.take_oldest-oldest.new.sets.items c.take_oldest-oldest.result (c.take_up-set.ensures.set ∙ set_is) c.reserve.ensures.items c.push_front_reserved.ensures.items
    (record { parts = c.take_oldest-oldest.ensures.parts; fits = c.take_oldest-oldest.ensures.fits; over = c.take_oldest-oldest.ensures.over }) in
    let small = c.self.inside.sets.small in
    let long = c.self.inside.sets.ok.0 in
    let room : length c.self.inside.sets.items < 2 ^ 64 - 1 = omega (arith, small.0, small.1, long) in
    stands-accepted g.met.C.Ord.total kept c.args.index primary secondary next c.take_oldest-oldest.new.sets.items c.take_oldest-oldest.result fell room
    c.args.newcomers.set c.args.newcomers.primary.items c.args.newcomers.secondary.items set_is first_is second_is
    c.make_room.new.records.entries c.take_up-set.new.records.entries c.retire_set.new.records.entries
    c.in_ok-make_room.ensures.made c.take_up-set.ensures.records c.retire_set.ensures.each
