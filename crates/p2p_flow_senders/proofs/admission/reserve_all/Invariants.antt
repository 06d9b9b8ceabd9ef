use Rattle.std.proofs.Common.{◌≡◌, ℕ, List, take}
use Rattle.p2p_runtime.specs.QuotaKeys.{StandsForEach}
use Rattle.p2p_flow_senders.specs.Admission.{AllKnown}
use Rattle.p2p_flow_senders.proofs.admission.reserve_all.Given as goal

abbrev pub invariant-loop-key : goal.invariant-loop-key
invariant-loop-key g l = record {
  rate : l.limiter.rate ≡ l.fn.limiter.rate;
  same : (past : g.row.K.Denot → List ℕ) (latest : ℕ) → StandsForEach g.K.Ord.cmp l.fn.limiter past latest → StandsForEach g.K.Ord.cmp l.limiter past latest;
  known : AllKnown g.K.Ord.cmp l.limiter (take l.key-index l.keys);
}
