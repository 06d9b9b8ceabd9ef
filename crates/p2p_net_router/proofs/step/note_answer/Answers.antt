use Rattle.std.proofs.Common.{◌≡◌, [], refl, ap, sym, subst, ◌∙◌, append-nil}
use Rattle.std.specs.Prelude.{filter}
use Rattle.p2p_base.specs.declared.key.Key.{Key}
use Rattle.p2p_log.specs.declared.entry.Reply.TheVariants as reply
use Rattle.p2p_log_rules.specs.declared.row.Row.{Row}
use Rattle.p2p_log.specs.Lines.{name_of, stays}
use Rattle.p2p_log_rules.specs.Effect.{only}
use Rattle.p2p_log.proofs.Lines.{filter_stays-nil}
use Rattle.p2p_net_queues.specs.Board.{held}
use Rattle.p2p_log_rules.specs.Rows.{taken_row}
use Rattle.p2p_router.specs.declared.stepped.Stepped.{Stepped}
use Rattle.p2p_net_router.specs.Copies.{copies_spread}
use Rattle.p2p_net_router.specs.Holds.{after}
use Rattle.p2p_net_router.specs.Names.{Agrees, label, tag_of}
use Rattle.p2p_net_router.specs.Oldest.{send_of}
use Rattle.p2p_net_router.specs.Relays.{with_spread}
use Rattle.p2p_net_router.specs.Stepped.{reply_to, stepped_row}
use Rattle.p2p_net_router.proofs.step.note_answer.Goals as goal

pub returns-in-Idle : goal.returns-in-Idle
returns-in-Idle c =
    λ start.
    let idle : c.args.row.now ≡ only reply.Idle = start ∙ ap (λ (s : Stepped Key). only (reply_to s)) c.in-Idle.is in
    record {
      idle = λ e. (idle, refl);
      row_is = λ items x rest h. idle ∙ ap (λ (s : Stepped Key). stepped_row c.args.turn.node c.args.channels.now s x items) (sym c.in-Idle.is);
      names = λ items x rest h.
          subst (λ (r : Row). Agrees c.args.turn.node label (held c.args.names.now) (after c.args.turn.entry r items)) (sym idle)
          (subst (Agrees c.args.turn.node label (held c.args.names.now)) (sym (append-nil (filter (stays []) items) ∙ filter_stays-nil items)) h.agree);
    }

pub returns-in_ok-note_told-in-Ready : goal.returns-in_ok-note_told-in-Ready
returns-in_ok-note_told-in-Ready c =
    λ start.
    let begun : c.args.row.now ≡ only reply.Ok = start ∙ ap (λ (s : Stepped Key). only (reply_to s)) c.in-Ready.is in
    record {
      idle = λ e. let other = sym c.in-Ready.is ∙ e in cc;
      row_is = λ items x rest h.
          c.in_ok-note_told-in-Ready.ensures.row items x rest h begun ∙ ap (λ (s : Stepped Key). stepped_row c.args.turn.node c.args.channels.now s x items) (sym c.in-Ready.is);
      names = λ items x rest h. c.in_ok-note_told-in-Ready.ensures.names items x rest h begun;
    }

pub returns-in_ok-note_told-in-SubscribePeers : goal.returns-in_ok-note_told-in-SubscribePeers
returns-in_ok-note_told-in-SubscribePeers c =
    λ start.
    let begun : c.args.row.now ≡ only reply.Ok = start ∙ ap (λ (s : Stepped Key). only (reply_to s)) c.in-SubscribePeers.is in
    record {
      idle = λ e. let other = sym c.in-SubscribePeers.is ∙ e in cc;
      row_is = λ items x rest h.
          c.in_ok-note_told-in-SubscribePeers.ensures.row items x rest h begun ∙ ap (λ (s : Stepped Key). stepped_row c.args.turn.node c.args.channels.now s x items) (sym c.in-SubscribePeers.is);
      names = λ items x rest h. c.in_ok-note_told-in-SubscribePeers.ensures.names items x rest h begun;
    }

pub returns-in_ok-note_told-in-Release : goal.returns-in_ok-note_told-in-Release
returns-in_ok-note_told-in-Release c =
    λ start.
    let begun : c.args.row.now ≡ only reply.Ok = start ∙ ap (λ (s : Stepped Key). only (reply_to s)) c.in-Release.is in
    record {
      idle = λ e. let other = sym c.in-Release.is ∙ e in cc;
      row_is = λ items x rest h.
          c.in_ok-note_told-in-Release.ensures.row items x rest h begun ∙ ap (λ (s : Stepped Key). stepped_row c.args.turn.node c.args.channels.now s x items) (sym c.in-Release.is);
      names = λ items x rest h. c.in_ok-note_told-in-Release.ensures.names items x rest h begun;
    }

pub returns-in_ok-note_content-in-Content : goal.returns-in_ok-note_content-in-Content
returns-in_ok-note_content-in-Content c =
    λ start.
    let begun : c.args.row.now ≡ only reply.Ok = start ∙ ap (λ (s : Stepped Key). only (reply_to s)) c.in-Content.is in
    record {
      idle = λ e. let other = sym c.in-Content.is ∙ e in cc;
      row_is = λ items x rest h.
          c.in_ok-note_content-in-Content.ensures.row items x rest h begun ∙ (ap (λ rs. with_spread (taken_row (name_of x)) (copies_spread c.args.turn.node (send_of (tag_of x.item)) 0 c.in-Content.encoded.payload rs (record { puts = []; ends = [] }))) c.as_slice.ensures ∙ ap (λ (s : Stepped Key). stepped_row c.args.turn.node c.args.channels.now s x items) (sym c.in-Content.is));
      names = λ items x rest h. c.in_ok-note_content-in-Content.ensures.names items x rest h begun;
    }
