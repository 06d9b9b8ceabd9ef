use Rattle.std.proofs.Common.{◌≡◌, ◌≤◌, true, false, ap, sym, subst, ◌∙◌, ◌++◌, ◌∷◌, [], rules}
use Rattle.p2p_log_rules.specs.Facts.{events_of, latest_moment}
use Rattle.p2p_log_rules.specs.Effect.{effect}
use Rattle.p2p_log_rules.specs.Valid.{is_valid_event}
use Rattle.p2p_net.specs.Refusals.{ApplyRefused}
use Rattle.p2p_net.specs.World.{WorldView, IsRecorded}
use Rattle.p2p_net_node.proofs.Readying.{may_perform}
use Rattle.p2p_net.proofs.Requesting.{may_note_of, noted_of}
use Rattle.p2p_net.proofs.Records.{valid_act, moment_is_late, tested_of, kept_more, refused}
use Rattle.p2p_net.proofs.world.World.apply.Goals as goal

pub returns-in_err-allow-clause-err : goal.returns-in_err-allow-clause-err
returns-in_err-allow-clause-err c =
    let w = c.self.inside in
    let v = c.args.event.now in
    let kept = c.self.invariant c.if-self.false in
    let invalid : is_valid_event w.configs (events_of w.report.log) v ≡ false =
    sym (tested_of w.configs w.report.log w.nodes.items c.as_slice.result.now w.requested.items c.as_slice-2.result.now w.links w.last v kept c.as_slice.ensures.value c.as_slice-2.ensures.value)
    ∙ c.in_err-allow.ensures.err.1
    in
    let told : ApplyRefused c.args.self.now v c.in_err-allow.field-0.0 c.args.self.now =
    subst (λ (old : WorldView). ApplyRefused old v c.in_err-allow.field-0.0 old) c.self.view_is (refused _ v c.in_err-allow.field-0.0 c.in_err-allow.ensures.err.0 invalid)
    in
    search rules

pub note-requires : goal.note-requires
note-requires c =
    let w = c.self.inside in
    let v = c.args.event.now in
    let kept = c.self.invariant c.if-self.false in
    may_note_of w.configs w.report.log w.nodes.items w.requested.items w.links w.last v kept
    (sym (tested_of w.configs w.report.log w.nodes.items c.as_slice.result.now w.requested.items c.as_slice-2.result.now w.links w.last v kept c.as_slice.ensures.value c.as_slice-2.ensures.value) ∙ c.in_ok-allow.ensures.ok)
    c.as_slice-3.result.now c.as_slice-4.result.now c.as_slice-3.ensures.value c.as_slice-4.ensures

pub record-requires : goal.record-requires
record-requires c =
    let w = c.self.inside in
    let v = c.args.event.now in
    let kept = c.self.invariant c.if-self.false in
    may_perform w.configs w.report.log w.nodes.items w.links w.requested.items v.act kept.world kept.requested kept.lawful
    (valid_act w.configs (events_of w.report.log) v
    (sym (tested_of w.configs w.report.log w.nodes.items c.as_slice.result.now w.requested.items c.as_slice-2.result.now w.links w.last v kept c.as_slice.ensures.value c.as_slice-2.ensures.value) ∙ c.in_ok-allow.ensures.ok))

-- what the log and the nodes are, where the event was recorded
is_valid : (c : goal.After-self-3-1) → is_valid_event c.self.inside.configs (events_of c.self.inside.report.log) c.args.event.now ≡ true
is_valid c =
    let w = c.self.inside in
    let v = c.args.event.now in
    sym (tested_of w.configs w.report.log w.nodes.items c.as_slice.result.now w.requested.items c.as_slice-2.result.now w.links w.last v (c.self.invariant c.if-self.false) c.as_slice.ensures.value c.as_slice-2.ensures.value)
    ∙ c.in_ok-allow.ensures.ok

-- it is not before the log
is_late : (c : goal.After-self-3-1) → latest_moment (events_of c.self.inside.report.log) ≤ c.args.event.now.at
is_late c =
    let w = c.self.inside in
    moment_is_late w.configs w.report.log w.nodes.items w.requested.items w.links w.last c.args.event.now (c.self.invariant c.if-self.false) (is_valid c)

is_recorded : (c : goal.After-self-3-1) → IsRecorded c.self.inside.configs c.self.inside.report.log c.args.event.now c.record.new.report.log c.record.new.nodes.items c.record.new.links
is_recorded c =
    let kept = c.self.invariant c.if-self.false in
    c.in_ok-record.ensures.ok c.self.inside.configs kept.world kept.lawful (is_valid c) (is_late c)

pub invariant_of-self-2 : goal.invariant_of-self-2
invariant_of-self-2 c = λ _.
    let w = c.self.inside in
    let r = is_recorded c in
    let kept = c.self.invariant c.if-self.false in
    kept_more w.configs w.report.log c.record.new.report.log c.record.new.nodes.items c.note.new.requested.items c.record.new.links c.args.event.now kept.lawful (is_late c)
    (noted_of w.configs w.report.log w.nodes.items w.requested.items w.links w.last c.args.event.now kept (is_valid c) c.as_slice-3.result.now c.as_slice-4.result.now c.note.new.requested.items c.as_slice-3.ensures.value c.as_slice-4.ensures
    c.in_ok-note.ensures)
    r.log_is r.stands

pub returns-clause-ok : goal.returns-clause-ok
returns-clause-ok c =
    subst (λ (old : WorldView). c.record.new.report.log ≡ old.log ++ effect old.configs old.log c.args.event.now ∷ []) c.self.view_is (is_recorded c).log_is

pub returns-clause-stands : goal.returns-clause-stands
returns-clause-stands c = λ _. (is_recorded c).stands

pub returns-clause-valid : goal.returns-clause-valid
returns-clause-valid c =
    subst (λ (old : WorldView). is_valid_event old.configs (events_of old.log) c.args.event.now ≡ true) c.self.view_is (is_valid c)
