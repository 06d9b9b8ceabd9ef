use Rattle.std.proofs.Common.{◌≡◌, length, true, false, sym, ap, ◌∙◌, subst}
use Rattle.std.specs.Prelude.{is_some}
use Rattle.std.specs.List.Sorted.{IsStrictlySortedBy}
use Rattle.std.specs.Map.{keys_of}
use Rattle.p2p_flow.specs.Provided.{is_open}
use Rattle.p2p_tracker_calls.specs.Jitter.{jitter_of}
use Rattle.p2p_tracker_calls.proofs.Eligible.{is_eligible-is_kept, not_stale-is_kept}
use Rattle.p2p_tracker_mailbox.specs.Desk.{next_message, question_at}
use Rattle.p2p_tracker_mailbox.specs.Mailboxes.{runs_in}
use Rattle.p2p_tracker_mailbox.specs.declared.mailbox.Mailbox.{Mailbox}
use Rattle.p2p_tracker.specs.Following.{Follows}
use Rattle.p2p_tracker.specs.Serving.{puts_of, left_in}
use Rattle.p2p_tracker.specs.Stepping.{IsStepOf}
use Rattle.p2p_tracker.specs.Steps.{stepped_of}
use Rattle.p2p_tracker.specs.Tracking.{Tracking}
use Rattle.p2p_tracker.proofs.Asking.{updates-after_puts, sets-after_puts, open-after_puts, left-updates, left-sets, left-open}
use Rattle.p2p_tracker.proofs.Connecting.{come-by}
use Rattle.p2p_tracker.proofs.Exact.{exact-step}
use Rattle.p2p_tracker.proofs.Stepping.{marked}
use Rattle.p2p_tracker.proofs.Turns.{grants_none_held-by}
use Rattle.p2p_tracker.proofs.actor.Actor.step.Goals as goal

pub returns-clause-step : goal.returns-clause-step
returns-clause-step g c =
    let T : Tracking g.row.C.Denot = record {
      directory = c.self.inside.directory;
      cooldown = c.self.inside.cooldown;
      updates = c.self.inside.updates.items;
      sets = c.self.inside.sets.items;
      controls = c.self.inside.controls.entries;
      has_failed = c.self.inside.has_failed;
    } in
    let New : Tracking g.row.C.Denot = record {
      directory = c.self-2.inside.directory;
      cooldown = c.self-2.inside.cooldown;
      updates = c.self-2.inside.updates.items;
      sets = c.self-2.inside.sets.items;
      controls = c.self-2.inside.controls.entries;
      has_failed = c.self-2.inside.has_failed;
    } in
    let did = subst (λ (n : Tracking g.row.C.Denot). IsStepOf g.C.Ord.cmp (record T { has_failed = true }) c.args.way.now c.args.now c.args.seed c.in_ok-stepped.stepped n c.work.new.way) (sym c.self-2.view_is) c.in_ok-stepped.ensures.step in
    subst (λ (t : Tracking g.row.C.Denot). IsStepOf g.C.Ord.cmp t c.args.way.now c.args.now c.args.seed c.in_ok-stepped.stepped (record New { has_failed = false }) c.work.new.way) c.self.view_is
    (marked g.C.Ord.cmp T New true false c.args.way.now c.work.new.way c.args.now c.args.seed c.in_ok-stepped.stepped did)

pub returns-clause-kept : goal.returns-clause-kept
returns-clause-kept g c =
    let now = c.args.self.now in
    let oldest = next_message c.args.way.now.desk in
    let jitter = jitter_of now.cooldown c.args.seed in
    let step = returns-clause-step g c in
    record {
      fresh = λ calls f q h. not_stale-is_kept g.C.Ord.cmp c.self-2.inside.directory.rules _ q (ap is_some (sym ((step.follows calls f).exactly q)) ∙ h);
      eligible = λ calls come f q h.
          is_eligible-is_kept g.C.Ord.cmp c.self-2.inside.directory.rules _ q c.args.now
          (come-by g.C.Ord.cmp now.directory.rules c.in_ok-stepped.stepped oldest c.args.now jitter calls come)
          (ap is_some (sym ((step.follows calls f).exactly q)) ∙ h);
    }

pub returns-clause-answer : goal.returns-clause-answer
returns-clause-answer g c = λ calls one f.
    let kept = subst (λ (t : Tracking g.row.C.Denot). Follows g.C.Ord.cmp t.directory t.controls calls) (sym c.self.view_is) f in
    let Before : Tracking g.row.C.Denot = record { directory = c.self.inside.directory; cooldown = c.self.inside.cooldown; updates = c.self.inside.updates.items; sets = c.self.inside.sets.items; controls = c.self.inside.controls.entries; has_failed = true } in
    subst (λ (t : Tracking g.row.C.Denot). c.in_ok-stepped.stepped ≡ stepped_of g.C.Ord.cmp t.directory.rules t.updates t.sets c.args.way.now.desk.sets c.args.way.now.heard (runs_in c.args.way.now) calls c.args.now (next_message c.args.way.now.desk)) c.self.view_is
    (exact-step g.met.C.Ord.total one Before c.work.new.self c.args.way.now.desk.sets c.args.way.now.heard (runs_in c.args.way.now) c.args.now (jitter_of c.self.inside.cooldown c.args.seed) calls kept c.in_ok-stepped.ensures.step.rules
    c.stands_in_order.ensures (subst (λ (t : Tracking g.row.C.Denot). IsStrictlySortedBy g.C.Ord.cmp (keys_of t.directory.records)) c.self-2.view_is c.stands_in_order-2.ensures)
    c.in_ok-stepped.stepped (next_message c.args.way.now.desk) c.in_ok-stepped.ensures.put (c.in_ok-stepped.ensures.step.stands calls kept.stands)
    (λ e. c.in_ok-stepped.ensures.step.due e calls kept.stands) (λ e. c.in_ok-stepped.ensures.step.quiet e calls kept.stands) c.in_ok-stepped.ensures.step.served)

pub returns-clause-turns : goal.returns-clause-turns
returns-clause-turns g c = grants_none_held-by g.C.Ord.cmp c.args.self.now.directory.rules c.in_ok-stepped.stepped (next_message c.args.way.now.desk) c.args.now (jitter_of c.args.self.now.cooldown c.args.seed)

pub returns-clause-subscribed : goal.returns-clause-subscribed
returns-clause-subscribed g c =
    ap (λ (m : Mailbox g.row.C.Denot). length m.desk.updates) c.in_ok-stepped.ensures.step.put
    ∙ (updates-after_puts (puts_of c.in_ok-stepped.stepped) (left_in c.in_ok-stepped.stepped c.args.way.now) ∙ left-updates c.in_ok-stepped.stepped c.args.way.now)

pub returns-clause-blocked_subscribed : goal.returns-clause-blocked_subscribed
returns-clause-blocked_subscribed g c =
    ap (λ (m : Mailbox g.row.C.Denot). length m.desk.sets) c.in_ok-stepped.ensures.step.put
    ∙ (sets-after_puts (puts_of c.in_ok-stepped.stepped) (left_in c.in_ok-stepped.stepped c.args.way.now) ∙ left-sets c.in_ok-stepped.stepped c.args.way.now)

pub returns-clause-open : goal.returns-clause-open
returns-clause-open g c = λ n h.
    ap (λ (m : Mailbox g.row.C.Denot). is_open (question_at m.desk n)) c.in_ok-stepped.ensures.step.put
    ∙ open-after_puts (puts_of c.in_ok-stepped.stepped) (left_in c.in_ok-stepped.stepped c.args.way.now) n (left-open c.in_ok-stepped.stepped c.args.way.now n h)
