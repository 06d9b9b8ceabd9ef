use Rattle.std.proofs.Common.{◌≡◌, ℕ, Option, [], ◌∷◌, length, length-append, ap, sym, subst, ◌∙◌, arith}
use Rattle.std.specs.Prelude.{filter}
use Rattle.p2p_log.specs.declared.item.Item.{Item}
use Rattle.p2p_log.specs.Lines.{stays}
use Rattle.p2p_net_router.specs.Holds.{Holds, frame_gone}
use Rattle.p2p_net_router.proofs.Batches.{IsFrontTaken, front_next, front_spent, front_none, AreKept-refl, AreKept-trans, AreKept-taken}
use Rattle.p2p_net_router.proofs.batch.take_lane.Goals as goal

pub loop-index-init : goal.loop-index-init
loop-index-init c = record {
  front = λ size items h apart. front_none size c.args.router.now items c.args.priority c.args.conn c.args.taken.now h;
  kept = AreKept-refl c.args.router.now;
  at_most = omega arith;
}

pub loop-index-preserved : goal.loop-index-preserved
loop-index-preserved c =
    let inv = c.loop-index.invariant in
    record {
      front = λ size items h apart.
          front_next size c.args.router.now c.loop-index.router c.take.new.self items c.args.priority c.args.conn c.loop-index._index c.args.taken.now c.loop-index.taken c.push.new.self c.in-Some.frame
          apart inv.kept (inv.front size items h apart) (λ its k. sym c.in-Some.is ∙ c.take.ensures.value size its k)
          (λ its k a. subst (λ (o : Option ((ℕ × ℕ) × Item)). Holds size c.take.new.self (filter (stays (frame_gone o)) its)) c.in-Some.is (c.take.ensures.holds size its k a))
          c.in_ok-push-in-Some.ensures.ok;
      kept = AreKept-trans c.args.router.now c.loop-index.router c.take.new.self inv.kept (AreKept-taken c.loop-index.router c.take.new.self c.take.ensures.rest c.take.ensures.routes c.take.ensures.ends);
      at_most =
          let more = ap length c.in_ok-push-in-Some.ensures.ok ∙ length-append c.loop-index.taken (c.in-Some.frame ∷ []) in
          let h = inv.at_most in
          omega (arith, more, h);
    }

pub returns-in-None-clause-taken : goal.returns-in-None-clause-taken
returns-in-None-clause-taken c =
    λ size items h apart.
    let inv = c.loop-index.invariant in
    (front_spent size c.args.router.now c.loop-index.router c.take.new.self items c.args.priority c.args.conn c.loop-index._index c.args.most c.args.taken.now c.loop-index.taken
    apart inv.kept (omega arith) (inv.front size items h apart) (λ its k. sym c.in-None.is ∙ c.take.ensures.value size its k)
    (λ its k a. subst (λ (o : Option ((ℕ × ℕ) × Item)). Holds size c.take.new.self (filter (stays (frame_gone o)) its)) c.in-None.is (c.take.ensures.holds size its k a))).taken

pub returns-in-None-clause-holds : goal.returns-in-None-clause-holds
returns-in-None-clause-holds c =
    λ size items h apart.
    let inv = c.loop-index.invariant in
    (front_spent size c.args.router.now c.loop-index.router c.take.new.self items c.args.priority c.args.conn c.loop-index._index c.args.most c.args.taken.now c.loop-index.taken
    apart inv.kept (omega arith) (inv.front size items h apart) (λ its k. sym c.in-None.is ∙ c.take.ensures.value size its k)
    (λ its k a. subst (λ (o : Option ((ℕ × ℕ) × Item)). Holds size c.take.new.self (filter (stays (frame_gone o)) its)) c.in-None.is (c.take.ensures.holds size its k a))).holds

pub returns-in-None-clause-kept : goal.returns-in-None-clause-kept
returns-in-None-clause-kept c =
    AreKept-trans c.args.router.now c.loop-index.router c.take.new.self c.loop-index.invariant.kept (AreKept-taken c.loop-index.router c.take.new.self c.take.ensures.rest c.take.ensures.routes c.take.ensures.ends)

pub returns-clause-taken : goal.returns-clause-taken
returns-clause-taken c =
    λ size items h apart.
    let end : c.loop-index._index ≡ c.args.most = omega arith in
    (subst (λ i. IsFrontTaken size c.args.router.now c.loop-index.router items c.args.priority c.args.conn i c.args.taken.now c.loop-index.taken) end
    (c.loop-index.invariant.front size items h apart)).taken

pub returns-clause-holds : goal.returns-clause-holds
returns-clause-holds c =
    λ size items h apart.
    let end : c.loop-index._index ≡ c.args.most = omega arith in
    (subst (λ i. IsFrontTaken size c.args.router.now c.loop-index.router items c.args.priority c.args.conn i c.args.taken.now c.loop-index.taken) end
    (c.loop-index.invariant.front size items h apart)).holds
