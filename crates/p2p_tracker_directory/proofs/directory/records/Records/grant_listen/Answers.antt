use Rattle.std.proofs.Common.{BTreeMap, ◌≡◌, cond, false, sym, ap, ◌∙◌, subst}
use Rattle.std.specs.Map.{lookup}
use Rattle.std.specs.BTreeMap.{is_at}
use Rattle.p2p_tracker_directory.specs.Indexed.{Roster, Indexes}
use Rattle.p2p_tracker_directory.specs.Recorded.{Recorded, may_listen_in, reserved_by, written}
use Rattle.p2p_tracker_directory.specs.declared.record.ReserveResult.TheVariants as reserve
use Rattle.p2p_tracker_directory.proofs.Written.{written-found, written-none}
use Rattle.p2p_tracker_directory.proofs.Indexing.{follow-written}
use Rattle.p2p_tracker_directory.proofs.directory.records.Records.grant_listen.Goals as goal

pub returns-in_default-clause-after : goal.returns-in_default-clause-after
returns-in_default-clause-after g c =
    subst (λ (k : Roster g.row.C.Denot). c.get_mut.follows.lender-at-none.entries ≡ written g.C.Ord.cmp (lookup (is_at (g.C.Ord.cmp c.args.peer.now)) k.entries) k.entries c.args.peer.now (λ r. cond false (reserved_by reserve.Reserved r c.args.now c.args.cfg.now.peer_connection_cooldown c.args.jitter) r)) c.self.view_is
    (written-none g.met.C.Ord.total c.args.peer.now c.self.inside.map.entries c.get_mut.follows.lender-at-none.entries (λ r. cond false (reserved_by reserve.Reserved r c.args.now c.args.cfg.now.peer_connection_cooldown c.args.jitter) r) (rw c.in_default.is at c.get_mut.ensures.value) (ap (λ (m : BTreeMap g.row.C.Denot Recorded). m.entries) c.get_mut.follows.holds-at-none))

pub returns-clause-after : goal.returns-clause-after
returns-clause-after g c =
    subst (λ (k : Roster g.row.C.Denot). (c.get_mut.follows.lender c.reserve_listen-granted.new.known).entries ≡ written g.C.Ord.cmp (lookup (is_at (g.C.Ord.cmp c.args.peer.now)) k.entries) k.entries c.args.peer.now (λ r. cond c.reserve_listen-granted.result (reserved_by reserve.Reserved r c.args.now c.args.cfg.now.peer_connection_cooldown c.args.jitter) r)) c.self.view_is
    (written-found g.met.C.Ord.total c.args.peer.now c.self.inside.map.entries (c.get_mut.follows.lender c.reserve_listen-granted.new.known).entries c.in-Some.record.now c.reserve_listen-granted.new.known (λ r. cond c.reserve_listen-granted.result (reserved_by reserve.Reserved r c.args.now c.args.cfg.now.peer_connection_cooldown c.args.jitter) r) (rw c.in-Some.is at c.get_mut.ensures.value) c.reserve_listen-granted.ensures.after (c.get_mut.follows.holds c.reserve_listen-granted.new.known).0)

pub returns-in_default-clause-answer : goal.returns-in_default-clause-answer
returns-in_default-clause-answer g c =
    subst (λ (k : Roster g.row.C.Denot). false ≡ may_listen_in (lookup (is_at (g.C.Ord.cmp c.args.peer.now)) k.entries) c.args.source c.args.now c.args.cfg.now.bypass_ip_check) c.self.view_is (ap (λ r. may_listen_in r c.args.source c.args.now c.args.cfg.now.bypass_ip_check) (rw c.in_default.is at c.get_mut.ensures.value))

pub returns-clause-answer : goal.returns-clause-answer
returns-clause-answer g c =
    subst (λ (k : Roster g.row.C.Denot). c.reserve_listen-granted.result ≡ may_listen_in (lookup (is_at (g.C.Ord.cmp c.args.peer.now)) k.entries) c.args.source c.args.now c.args.cfg.now.bypass_ip_check) c.self.view_is (c.reserve_listen-granted.ensures.answer ∙ ap (λ r. may_listen_in r c.args.source c.args.now c.args.cfg.now.bypass_ip_check) (rw c.in-Some.is at c.get_mut.ensures.value))

pub invariant_of-self : goal.invariant_of-self
invariant_of-self g c = subst (λ (m : BTreeMap g.row.C.Denot Recorded). Indexes g.C.Ord.cmp c.self.inside.index m.entries) (sym c.get_mut.follows.holds-at-none) c.self.invariant

pub invariant_of-self-2 : goal.invariant_of-self-2
invariant_of-self-2 g c =
    follow-written g.met.C.Ord.total c.args.peer.now c.self.inside.index c.follow.new.self c.spot-before.result.0 c.spot-before.result.1 c.self.inside.map.entries (c.get_mut.follows.lender c.reserve_listen-granted.new.known).entries (λ r. cond c.reserve_listen-granted.result (reserved_by reserve.Reserved r c.args.now c.args.cfg.now.peer_connection_cooldown c.args.jitter) r)
    (written-found g.met.C.Ord.total c.args.peer.now c.self.inside.map.entries (c.get_mut.follows.lender c.reserve_listen-granted.new.known).entries c.in-Some.record.now c.reserve_listen-granted.new.known (λ r. cond c.reserve_listen-granted.result (reserved_by reserve.Reserved r c.args.now c.args.cfg.now.peer_connection_cooldown c.args.jitter) r) (rw c.in-Some.is at c.get_mut.ensures.value) c.reserve_listen-granted.ensures.after (c.get_mut.follows.holds c.reserve_listen-granted.new.known).0)
    c.follow.ensures.index c.spot-before.ensures.source c.spot-before.ensures.due c.self.invariant
