use Rattle.std.proofs.Common.{◌≡◌, List, true, refl, sym, ap, ◌∙◌, subst, filter_map}
use Rattle.std.specs.List.Sorted.{IsStrictlySortedBy}
use Rattle.std.specs.Map.{keys_of}
use Rattle.std.specs.Map.{lookup}
use Rattle.std.specs.BTreeMap.{is_at}
use Rattle.p2p_address.specs.declared.ip.IpAddr.{IpAddr}
use Rattle.p2p_tracker_calls.specs.Blocks.{lasts_at}
use Rattle.p2p_tracker_calls.specs.Lists.{is_listenable}
use Rattle.p2p_tracker_directory.specs.Listed.{heard, is_heard}
use Rattle.p2p_tracker_directory.specs.Stands.{Kept, StandsFor}
use Rattle.p2p_tracker_directory.specs.Told.{addresses_in}
use Rattle.p2p_tracker_directory.proofs.Addresses.{heard-sorted_once}
use Rattle.p2p_tracker_directory.proofs.Dialing.{heard-kept, heard_by-kept}
use Rattle.p2p_tracker_directory.proofs.Exact.{addresses-exact}
use Rattle.p2p_tracker_directory.proofs.directory.Directory.listenable.Goals as goal

pub returns-clause-each : goal.returns-clause-each
returns-clause-each g c = λ calls s q source h.
    let kept = subst (λ k. StandsFor g.C.Ord.cmp k calls) (sym c.self.view_is) s in
    let given = filter_map (λ e. heard e.1 (lasts_at (lookup (is_at (g.C.Ord.cmp e.0)) c.self.inside.blocks) c.args.now) c.self.inside.cfg.allow_private_ips) c.self.inside.records.entries in
    ap (λ (xs : List IpAddr). is_heard xs source) c.in_ok-listed.ensures.addresses
    ∙ (heard-sorted_once given source
    ∙ heard-kept g.met.C.Ord.total kept c.args.now given q source refl
    (subst (λ k. is_listenable g.C.Ord.cmp k.rules calls q source c.args.now ≡ true) (sym c.self.view_is) h))

pub returns-clause-only : goal.returns-clause-only
returns-clause-only g c = λ calls s source h.
    let kept = subst (λ k. StandsFor g.C.Ord.cmp k calls) (sym c.self.view_is) s in
    let given = filter_map (λ e. heard e.1 (lasts_at (lookup (is_at (g.C.Ord.cmp e.0)) c.self.inside.blocks) c.args.now) c.self.inside.cfg.allow_private_ips) c.self.inside.records.entries in
    let told = sym (heard-sorted_once given source) ∙ (ap (λ (xs : List IpAddr). is_heard xs source) (sym c.in_ok-listed.ensures.addresses) ∙ h) in
    let found = heard_by-kept g.met.C.Ord.total kept c.args.now c.addresses.ensures.ordered given source refl told in
    (found.0, subst (λ k. is_listenable g.C.Ord.cmp k.rules calls found.0 source c.args.now ≡ true) c.self.view_is found.1)

pub returns-clause-value : goal.returns-clause-value
returns-clause-value g c =
    subst (λ (k : Kept g.row.C.Denot). c.in_ok-listed.listed.items ≡ addresses_in g.C.Ord.cmp k c.args.now) c.self.view_is c.in_ok-listed.ensures.addresses

pub returns-clause-exactly : goal.returns-clause-exactly
returns-clause-exactly g c = λ calls one s.
    returns-clause-value g c
    ∙ addresses-exact g.met.C.Ord.total one s (subst (λ (k : Kept g.row.C.Denot). IsStrictlySortedBy g.C.Ord.cmp (keys_of k.records)) c.self.view_is c.addresses.ensures.ordered) c.args.now
