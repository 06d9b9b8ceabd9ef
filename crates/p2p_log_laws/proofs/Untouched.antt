-- What an entry leaves alone, read off its act: a queue of which the act takes nothing, and in which it puts and ends nothing, stays as it was.
use Rattle.std.proofs.Common.{◌≡◌, false, List, [], ◌∷◌, ◌++◌}
use Rattle.p2p_log.specs.declared.config.Config.{Config}
use Rattle.p2p_log.specs.declared.queue.Queue.{Queue}
use Rattle.p2p_log.specs.declared.entry.Entry.{Entry}
use Rattle.p2p_log.specs.declared.event.Event.{Event}
use Rattle.p2p_log.specs.Lines.{line}
use Rattle.p2p_log_rules.specs.Effect.{effect, row}
use Rattle.p2p_log_laws.proofs.Reaching.{reads, writes, ends_in, line-out_of_reach}
use Rattle.p2p_log_laws.proofs.Shape.{Shape}
use Rattle.p2p_log_laws.proofs.Shapes.{row_shape}

pub line-untouched : (configs : List Config) (log : List Entry) (ev : Event) (q : Queue) → reads configs log ev.act q ≡ false → writes configs log ev.act q ≡ false → ends_in configs log ev.act q ≡ false
    → line (log ++ effect configs log ev ∷ []) q ≡ line log q
unfolding effect
line-untouched configs log ev q no_read no_write no_end =
    let shape : Shape configs log ev.act (row configs log ev.at ev.seed ev.act) = row_shape configs log ev.at ev.seed ev.act in
    line-out_of_reach configs log ev (row configs log ev.at ev.seed ev.act) shape.moves shape.reach q no_read no_write no_end
