use Rattle.std.proofs.Common.{length, Some, None, cond, refl, sym, ap, ◌∙◌, arith}
use Rattle.std.proofs.lemmas.Bool.{le-ltb}
use Rattle.p2p_tracker_directory.specs.Tracked.{oldest_of}
use Rattle.p2p_tracker_directory.proofs.Newcomers.{oldest_of-back}
use Rattle.p2p_tracker_directory.proofs.directory.sets.falling.Goals as goal

pub returns-in-Some : goal.returns-in-Some
returns-in-Some g c =
    let least = c.if-len-max_sets.false in
    let long = c.len.ensures in
    let fits = c.args.sets.now.ok.0 in
    ap (λ x. Some x) c.in-Some.ensures.lookup
    ∙ (sym (oldest_of-back c.args.set.now c.args.sets.now.items c.args.sets.now.len c.in-Some.oldest.now fits (c.in-Some.ensures.variant.0 refl))
    ∙ sym (ap (λ b. cond b None (oldest_of c.args.set.now c.args.sets.now.items)) (le-ltb (length c.args.sets.now.items) c.args.max_sets (omega (arith, least, long, fits)))))
