use Rattle.std.proofs.Common.{◌≡◌, ap}
use Rattle.p2p_sim_script.specs.ConfigForm.{config_of}
use Rattle.p2p_sim_script.specs.Form.{event_of}
use Rattle.p2p_sim_script.specs.Taken.{value_taken}
use Rattle.p2p_sim_script.specs.Tree.{list_of}
use Rattle.p2p_sim_script.proofs.Saying.{parse_map_from}
use Rattle.p2p_sim_script.proofs.text.read_configs.Goals as goal

pub returns-clause-ok : goal.returns-clause-ok
returns-clause-ok c =
    let taken = parse_map_from (list_of config_of) (value_taken 126 c.args.reader.now) c.in_ok-list.list c.read_list.new.reader c.in_ok-list.ensures.ok in
    (taken.0, taken.1, ap (λ list. record c.args.found.now { configs = list }) taken.2)
