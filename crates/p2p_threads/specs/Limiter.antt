-- A shared limiter: what a check is answered, and the limiter after it.
use Rattle.std.specs.Prelude.{ℕ, Result}
use Rattle.std.specs.declared.cmp.Ordering.{Ordering}
use Rattle.p2p_runtime.specs.QuotaKeys.{KeptByKey}
use Rattle.p2p_runtime.specs.QuotaCheck.{check_answer, after_check}
use Rattle.p2p_threads.specs.declared.limiter.CheckCall.{CheckCall}

module _ {K : Type 0} (cmp : K → K → Ordering) where
  abbrev pub limiter_reply : KeptByKey K → CheckCall K → Result (Unit {0}) ℕ
  limiter_reply kept call = check_answer cmp kept call.key call.now

  abbrev pub limiter_next : KeptByKey K → CheckCall K → KeptByKey K
  limiter_next kept call = after_check cmp kept call.key call.now
