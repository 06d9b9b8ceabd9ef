use Rattle.std.proofs.Common.{List, ap, ◌∙◌}
use Rattle.std.specs.List.{slice_get}
use Rattle.std.specs.Option.{option_map}
use Rattle.p2p_tracker_calls.specs.Sets.{PeerSet}
use Rattle.p2p_tracker_directory.proofs.directory.Directory.set_index.Goals as goal

pub returns-clause-exactly : goal.returns-clause-exactly
returns-clause-exactly g c = λ calls s. c.index_at.ensures ∙ ap (λ (sets : List (PeerSet g.row.C.Denot)). option_map (λ x. x.index) (slice_get sets c.args.place)) s.sets
