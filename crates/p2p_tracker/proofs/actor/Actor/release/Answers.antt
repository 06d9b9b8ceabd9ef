use Rattle.std.proofs.Common.{◌≡◌, cond, None, sym, subst}
use Rattle.std.specs.Map.{lookup}
use Rattle.std.specs.BTreeMap.{is_at}
use Rattle.p2p_tracker_directory.specs.Reserved.{peer_of}
use Rattle.p2p_tracker.specs.Following.{Follows}
use Rattle.p2p_tracker.specs.Tracking.{Tracking}
use Rattle.p2p_tracker.proofs.Following.{follows-release}
use Rattle.p2p_tracker.proofs.actor.Actor.release.Goals as goal

pub returns-clause-follows : goal.returns-clause-follows
returns-clause-follows g c = λ calls f.
    let kept = subst (λ (t : Tracking g.row.C.Denot). Follows g.C.Ord.cmp t.directory t.controls calls) (sym c.self.view_is) f in
    follows-release c.self.inside.directory c.release.new.self c.self.inside.controls.entries calls c.release.ensures.rules kept c.forget.new.controls.entries
    (peer_of c.args.metadata) (c.release.ensures.stands calls kept.stands)
    (λ q. subst (λ k. lookup (is_at (g.C.Ord.cmp q)) c.forget.new.controls.entries ≡ cond (is_at (g.C.Ord.cmp k) q) None (lookup (is_at (g.C.Ord.cmp q)) c.self.inside.controls.entries)) c.public_key.ensures (c.forget.ensures.each q))
