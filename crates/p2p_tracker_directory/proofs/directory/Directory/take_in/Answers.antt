use Rattle.std.proofs.Common.{◌≡◌, ◌∷◌, true, sym, ◌∙◌, subst}
use Rattle.p2p_tracker_calls.specs.Sets.{set_of, is_among}
use Rattle.p2p_tracker_calls.specs.Kills.{is_killed}
use Rattle.p2p_tracker_directory.specs.Stands.{StandsFor}
use Rattle.p2p_tracker_directory.specs.Tracked.{Fell, is_above_latest}
use Rattle.p2p_tracker_directory.proofs.Accepting.{above-kept, killed-kept, killed-ordered}
use Rattle.p2p_tracker_directory.proofs.StandingTracks.{stands-refused_track}
use Rattle.p2p_tracker_directory.proofs.directory.Directory.take_in.Goals as goal

pub admit-requires-clause-primary : goal.admit-requires-clause-primary
admit-requires-clause-primary g c = c.in_ok-newcomers.ensures.primary_ordered

pub admit-requires-clause-secondary : goal.admit-requires-clause-secondary
admit-requires-clause-secondary g c = c.in_ok-newcomers.ensures.secondary_ordered

pub returns-then-not-is_next-clause-taken : goal.returns-then-not-is_next-clause-taken
returns-then-not-is_next-clause-taken g c = record {
  accepted = λ calls s. sym (above-kept g.met.C.Ord.total s c.args.index ∙ (sym c.is_next.ensures ∙ c.if-not-is_next.true));
  killed = tt;
  ordered = tt;
  stands = λ calls s.
      stands-refused_track s c.args.index c.args.primary.now c.args.secondary.now (above-kept g.met.C.Ord.total s c.args.index ∙ (sym c.is_next.ensures ∙ c.if-not-is_next.true));
}

pub returns-clause-taken : goal.returns-clause-taken
returns-clause-taken g c = record {
  accepted = λ calls s. sym (above-kept g.met.C.Ord.total s c.args.index ∙ (sym c.is_next.ensures ∙ c.if-not-is_next.false));
  killed = λ calls s q.
      let kept = subst (λ k. StandsFor g.C.Ord.cmp k calls) (sym c.self.view_is) s in
      let next : is_above_latest c.args.index c.self.inside.latest ≡ true = subst (λ k. is_above_latest c.args.index k.latest ≡ true) (sym c.self.view_is) (sym c.is_next.ensures ∙ c.if-not-is_next.false) in
      let fallen = c.in_ok-admit.ensures.fell.0 in
      let admitted = subst (λ k. Fell k.rules.max_sets (c.in_ok-newcomers.newcomers.set ∷ k.sets) c.admit.new.self.sets fallen) (sym c.self.view_is) c.in_ok-admit.ensures.fell.1 in
      let fell : Fell c.self.inside.cfg.max_sets (set_of g.C.Ord.cmp c.args.index c.args.primary.now c.args.secondary.now ∷ c.self.inside.sets.items) c.admit.new.self.sets fallen =
      subst (λ x. Fell c.self.inside.cfg.max_sets (x ∷ c.self.inside.sets.items) c.admit.new.self.sets fallen) c.in_ok-newcomers.ensures.set admitted in
      subst (λ k. is_among g.C.Ord.cmp c.in_ok-kills.kills q ≡ is_killed g.C.Ord.cmp k.rules c.args.index c.args.primary.now c.args.secondary.now calls q) c.self.view_is
      (killed-kept g.met.C.Ord.total kept c.args.index c.args.primary.now c.args.secondary.now next c.admit.new.self.sets fallen fell
      c.in_ok-newcomers.newcomers.set _ c.in_ok-kills.kills c.in_ok-newcomers.ensures.set c.falling-fallen.ensures c.in_ok-kills.ensures q);
  ordered =
      killed-ordered g.met.C.Ord.total c.self.inside.cfg.max_sets c.self.inside.sets.items c.self.inside.records.entries c.args.primary.now c.args.secondary.now
      c.in_ok-newcomers.newcomers.set _ c.in_ok-kills.kills c.falling-fallen.ensures c.in_ok-kills.ensures;
  stands = λ calls s.
      c.in_ok-admit.ensures.stands calls c.args.primary.now c.args.secondary.now s
      c.in_ok-newcomers.ensures.set c.in_ok-newcomers.ensures.primary c.in_ok-newcomers.ensures.secondary;
}
