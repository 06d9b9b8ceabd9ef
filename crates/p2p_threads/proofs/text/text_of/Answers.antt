use Rattle.std.specs.String.{string_bytes}
use Rattle.p2p_threads.proofs.Lines.{all_text, in_ok}
use Rattle.p2p_threads.proofs.text.text_of.Goals as goal

pub returns : goal.returns
returns c = in_ok string_bytes c.lines.result _ _ (all_text c.args.messages.now c.args.n c.args.m c.requires) c.lines.ensures
