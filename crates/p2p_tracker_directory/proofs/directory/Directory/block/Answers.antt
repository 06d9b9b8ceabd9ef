use Rattle.std.proofs.Common.{◌≡◌, false, cond, Some, ◌+◌, ◌||◌, sym, ap, ◌∙◌, subst}
use Rattle.std.specs.List.Sorted.{IsStrictlySortedBy}
use Rattle.std.specs.Map.{lookup, keys_of}
use Rattle.std.specs.BTreeMap.{is_at}
use Rattle.p2p_tracker_calls.specs.Blocks.{is_local, lasts_at}
use Rattle.p2p_tracker_directory.specs.Stands.{StandsFor}
use Rattle.p2p_tracker_directory.proofs.Standing.{stands-unblockable, stands-block}
use Rattle.p2p_tracker_directory.proofs.Ended.{sorted-inserted}
use Rattle.p2p_tracker_directory.proofs.directory.Directory.block.Goals as goal

pub returns-then-is_own-clause-stands : goal.returns-then-is_own-clause-stands
returns-then-is_own-clause-stands g c = λ calls s.
    stands-unblockable g.met.C.Ord.total s c.args.peer.now c.args.now
    (ap (λ l. l || lasts_at (lookup (is_at (g.C.Ord.cmp c.args.peer.now)) c.args.self.now.blocks) c.args.now) (sym c.is_own.ensures ∙ c.if-is_own.true))

pub returns-then-is_blocked-clause-stands : goal.returns-then-is_blocked-clause-stands
returns-then-is_blocked-clause-stands g c = λ calls s.
    stands-unblockable g.met.C.Ord.total s c.args.peer.now c.args.now
    (ap (λ l. l || lasts_at (lookup (is_at (g.C.Ord.cmp c.args.peer.now)) c.args.self.now.blocks) c.args.now) (sym c.is_own.ensures ∙ c.if-is_own.false)
    ∙ (sym c.is_blocked.ensures ∙ c.if-is_blocked.true))

pub returns-clause-stands : goal.returns-clause-stands
returns-clause-stands g c = λ calls s.
    stands-block g.met.C.Ord.total (subst (λ k. StandsFor g.C.Ord.cmp k calls) (sym c.self.view_is) s) c.args.peer.now c.args.now c.put.new.self
    (subst (λ k. is_local g.C.Ord.cmp k.rules c.args.peer.now ≡ false) (sym c.self.view_is) (sym c.is_own.ensures ∙ c.if-is_own.false))
    (subst (λ k. lasts_at (lookup (is_at (g.C.Ord.cmp c.args.peer.now)) k.blocks) c.args.now ≡ false) (sym c.self.view_is) (sym c.is_blocked.ensures ∙ c.if-is_blocked.false))
    (λ q. c.in_ok-put.ensures.each q
    ∙ ap (λ e. cond (is_at (g.C.Ord.cmp c.args.peer.now) q) (Some e) (lookup (is_at (g.C.Ord.cmp q)) c.self.inside.blocks))
    (subst (λ k. c.block_end-end.result ≡ c.args.now + k.rules.block_duration) (sym c.self.view_is) c.block_end-end.ensures))
    (subst (λ bs. IsStrictlySortedBy g.C.Ord.cmp (keys_of bs)) (sym c.in_ok-put.ensures.after)
    (sorted-inserted g.met.C.Ord.total c.self.inside.blocks c.args.peer.now c.block_end-end.result (subst (λ k. StandsFor g.C.Ord.cmp k calls) (sym c.self.view_is) s).ordered))

pub invariant_of-self-2 : goal.invariant_of-self-2
invariant_of-self-2 g c = (
  subst (λ bs. IsStrictlySortedBy g.C.Ord.cmp (keys_of bs)) (sym c.in_ok-put.ensures.after)
      (sorted-inserted g.met.C.Ord.total c.self.inside.blocks c.args.peer.now c.block_end-end.result c.self.invariant.0),
  c.self.invariant.1,
)
