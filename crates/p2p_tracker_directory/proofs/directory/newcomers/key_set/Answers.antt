use Rattle.std.proofs.Common.{◌≡◌, ◌++◌, ◌∷◌, [], sym, ap, ◌∙◌}
use Rattle.std.proofs.lemmas.Result.{IfOk-weaker}
use Rattle.std.specs.Map.{keys_of}
use Rattle.p2p_base.specs.Sorted.{sorted_once}
use Rattle.p2p_tracker_directory.proofs.Keeping.{take-fits}
use Rattle.p2p_tracker_directory.proofs.Newcomers.{sorted_once-sorted, keys-more}
use Rattle.p2p_tracker_directory.proofs.directory.newcomers.key_set.Goals as goal

pub loop-key-preserved : goal.loop-key-preserved
loop-key-preserved g c =
    c.in_ok-push.ensures.items ∙ (ap (λ ks. ks ++ c.loop-key-item.result.0 ∷ []) c.loop-key.invariant
    ∙ sym (keys-more c.args.peers.now c.loop-key.key-index c.loop-key-item.result c.loop-key-test.true c.loop-key-item.is))

pub returns : goal.returns
returns g c =
    let keys : c.loop-key.keys.items ≡ keys_of c.args.peers.now = c.loop-key.invariant ∙ ap keys_of (take-fits c.loop-key.key-index c.args.peers.now c.loop-key-test.false) in
    IfOk-weaker c.from_iter_dedup.result (λ t. t ≡ sorted_once g.C.Ord.cmp c.loop-key.keys.items) (λ t. t ≡ keys_of c.args.peers.now)
    (λ t e. e ∙ (ap (sorted_once g.C.Ord.cmp) keys ∙ sorted_once-sorted g.met.C.Ord.total (keys_of c.args.peers.now) c.requires)) c.from_iter_dedup.ensures
