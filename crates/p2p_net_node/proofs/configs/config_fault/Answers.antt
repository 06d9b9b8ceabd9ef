use Rattle.std.proofs.Common.{◌≡◌, true, false, take, get_or, sym, ◌∙◌, rules}
use Rattle.std.specs.BTreeSet as sorted
use Rattle.std.specs.Ordering.{nat_cmp}
use Rattle.p2p_net_node.proofs.Starts.{absent}
use Rattle.p2p_net_node.proofs.Faults.{fault_here, fault_later, unfit, repeated, good_one, keys_later, config_fault-end}
use Rattle.p2p_net_node.proofs.configs.config_fault.Goals as goal
use Rattle.p2p_net_node.proofs.configs.config_fault.Goals.{then-not-fits-via-then-not-fits, then-not-fits-via-else-not-fits+then-contains}

pub returns-then-not-fits : goal.returns-then-not-fits
returns-then-not-fits c =
    let cs = c.args.configs.now in
    let i = c.loop-i.i in
    elim c.then-not-fits.branch [
      | then-not-fits-via-then-not-fits w ↦
          fault_here cs i absent c.loop-i-test.true c.loop-i.invariant.fault (unfit (take i cs) (get_or cs i absent) c.fits.result c.fits.ensures w.if-not-fits.true)
      | then-not-fits-via-else-not-fits+then-contains w ↦
          fault_here cs i absent c.loop-i-test.true c.loop-i.invariant.fault
          (repeated (take i cs) (get_or cs i absent) w.contains.result (w.contains.ensures ∙ c.loop-i.invariant.keys (get_or cs i absent).public_key.0) w.if-contains.true)
    ]

pub loop-i-preserved : goal.loop-i-preserved
loop-i-preserved c =
    let cs = c.args.configs.now in
    let i = c.loop-i.i in
    let fit : c.fits.result ≡ true = let t = c.if-not-fits.false in search rules in
    let fresh : c.contains.result ≡ false = c.if-contains.false in
    record {
      keys = λ k. keys_later cs i absent (sorted.contains nat_cmp c.loop-i.keys k) (sorted.contains nat_cmp c.insert.new.self k) k c.loop-i-test.true (c.loop-i.invariant.keys k) (c.in_ok-insert.ensures.updates.0 k);
      fault = fault_later cs i absent c.loop-i-test.true c.loop-i.invariant.fault (good_one (take i cs) (get_or cs i absent) c.fits.result c.contains.result c.fits.ensures fit (c.contains.ensures ∙ c.loop-i.invariant.keys (get_or cs i absent).public_key.0) fresh);
    }

pub returns : goal.returns
returns c = sym (c.loop-i.invariant.fault ∙ config_fault-end c.args.configs.now c.loop-i.i c.loop-i-test.false)
