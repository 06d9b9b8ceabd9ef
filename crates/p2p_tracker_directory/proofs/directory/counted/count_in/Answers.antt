use Rattle.std.proofs.Common.{◌+◌, cond, sym, ap, ◌∙◌}
use Rattle.p2p_tracker_directory.specs.Indexed.{is_from}
use Rattle.p2p_tracker_directory.proofs.AddressCounts.{tallies-from, tallies-to, tied}
use Rattle.p2p_tracker_directory.proofs.directory.counted.count_in.Goals as goal

pub returns-in-Some : goal.returns-in-Some
returns-in-Some c = λ e n m t h.
    tallies-to c.raise.new.counts.entries m
    (c.raise.ensures e n m (tallies-from c.args.counts.now.entries n t)
    (λ k. h k ∙ (ap (λ r. n k + cond (is_from k r) c.args.more 0) c.in-Some.is ∙ ap (λ b. n k + cond b c.args.more 0) (sym (tied c.in-Some.ip k)))))
