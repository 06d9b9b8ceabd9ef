use Rattle.std.proofs.Common.{◌≡◌, ◌≤◌, ℕ, List, drop, length, vec_len, vec_capacity}
use Rattle.p2p_runtime.specs.QuotaKeys.{StandsForEach}
use Rattle.p2p_flow_senders.specs.Admission.{AllKnown}
use Rattle.p2p_flow_senders.proofs.Admitting.{IsUnderWay}
use Rattle.p2p_flow_senders.proofs.admission.admit_all.Given as goal

abbrev pub invariant-loop-key : goal.invariant-loop-key
invariant-loop-key g l = record {
  rate : l.limiter.rate ≡ l.fn.limiter.rate;
  known : AllKnown g.K.Ord.cmp l.limiter (drop l.key-index l.keys);
  room : vec_len l.admitted ≤ l.key-index;
  capacity : length l.keys ≤ vec_capacity l.admitted;
  under_way : (past : g.row.K.Denot → List ℕ) (latest : ℕ) → StandsForEach g.K.Ord.cmp l.fn.limiter past latest →
      IsUnderWay g.K.Ord.cmp l.limiter l.fn.limiter.rate l.admitted.items l.retry (drop l.key-index l.keys) l.now l.keys past latest;
}
