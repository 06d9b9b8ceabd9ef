use Rattle.p2p_tracker_mailbox.specs.Mailboxes.{runs_in}
use Rattle.std.proofs.Common.{◌≡◌, List, sym, ap, ◌∙◌, subst}
use Rattle.std.specs.Prelude.{Result, Ok, Err, IfOk, OnOk}
use Rattle.p2p_tracker_calls.specs.Jitter.{jitter_of}
use Rattle.p2p_tracker_calls.specs.declared.call.Call.{Call}
use Rattle.p2p_tracker_directory.specs.Stands.{StandsFor}
use Rattle.p2p_tracker_mailbox.specs.declared.mailbox.Mailbox.{Mailbox}
use Rattle.p2p_tracker_mailbox.specs.declared.message.Message.{Message}
use Rattle.p2p_tracker.specs.Following.{Follows}
use Rattle.p2p_tracker.specs.Putting.{IsPut}
use Rattle.p2p_tracker.specs.Serving.{calls_after}
use Rattle.p2p_tracker.specs.Steps.{updates_for, sets_for}
use Rattle.p2p_tracker.specs.Telling.{after_puts}
use Rattle.p2p_tracker.specs.Tracking.{Tracking}
use Rattle.p2p_tracker.specs.declared.stepped.Put.{Put}
use Rattle.p2p_tracker.proofs.actor.Actor.serve.Goals as goal

on_ok : {X Y : Type 0} (r : Result X Y) (Q : Type 0) → Q → OnOk r Q
on_ok (Ok x) Q h = h
on_ok (Err y) Q h = tt

if_ok : {X Y : Type 0} (r : Result X Y) (Q R : X → Type 0) → ((x : X) → Q x → R x) → IfOk r Q → IfOk r R
if_ok (Ok x) Q R f h = f x h
if_ok (Err y) Q R f h = h

pub returns-in-Register-clause-stands : goal.returns-in-Register-clause-stands
returns-in-Register-clause-stands g c =
    let Told : Message g.row.C.Denot → Type 0 = λ m. IfOk c.register.result (λ p. (calls : List (Call g.row.C.Denot)) → StandsFor g.C.Ord.cmp c.args.self.now.directory calls
    → StandsFor g.C.Ord.cmp c.register.new.self.directory (calls_after g.C.Ord.cmp c.args.self.now.directory.rules m c.args.now (jitter_of c.args.self.now.cooldown c.args.seed) calls)) in
    subst Told (sym c.in-Register.is) c.register.ensures.stands

pub returns-in-Register-clause-follows : goal.returns-in-Register-clause-follows
returns-in-Register-clause-follows g c =
    let Told : Message g.row.C.Denot → Type 0 = λ m. IfOk c.register.result (λ p. (calls : List (Call g.row.C.Denot)) → Follows g.C.Ord.cmp c.args.self.now.directory c.args.self.now.controls calls
    → Follows g.C.Ord.cmp c.register.new.self.directory c.register.new.self.controls (calls_after g.C.Ord.cmp c.args.self.now.directory.rules m c.args.now (jitter_of c.args.self.now.cooldown c.args.seed) calls)) in
    subst Told (sym c.in-Register.is) c.register.ensures.follows

pub returns-in-Overwrite-clause-stands : goal.returns-in-Overwrite-clause-stands
returns-in-Overwrite-clause-stands g c =
    let Told : Message g.row.C.Denot → Type 0 = λ m. IfOk c.overwrite.result (λ p. (calls : List (Call g.row.C.Denot)) → StandsFor g.C.Ord.cmp c.args.self.now.directory calls
    → StandsFor g.C.Ord.cmp c.overwrite.new.self.directory (calls_after g.C.Ord.cmp c.args.self.now.directory.rules m c.args.now (jitter_of c.args.self.now.cooldown c.args.seed) calls)) in
    subst Told (sym c.in-Overwrite.is) c.overwrite.ensures.stands

pub returns-in-Overwrite-clause-follows : goal.returns-in-Overwrite-clause-follows
returns-in-Overwrite-clause-follows g c =
    let Told : Message g.row.C.Denot → Type 0 = λ m. IfOk c.overwrite.result (λ p. (calls : List (Call g.row.C.Denot)) → Follows g.C.Ord.cmp c.args.self.now.directory c.args.self.now.controls calls
    → Follows g.C.Ord.cmp c.overwrite.new.self.directory c.overwrite.new.self.controls (calls_after g.C.Ord.cmp c.args.self.now.directory.rules m c.args.now (jitter_of c.args.self.now.cooldown c.args.seed) calls)) in
    subst Told (sym c.in-Overwrite.is) c.overwrite.ensures.follows

pub returns-in-Block-clause-stands : goal.returns-in-Block-clause-stands
returns-in-Block-clause-stands g c =
    let Told : Message g.row.C.Denot → Type 0 = λ m. IfOk c.block.result (λ p. (calls : List (Call g.row.C.Denot)) → StandsFor g.C.Ord.cmp c.args.self.now.directory calls
    → StandsFor g.C.Ord.cmp c.block.new.self.directory (calls_after g.C.Ord.cmp c.args.self.now.directory.rules m c.args.now (jitter_of c.args.self.now.cooldown c.args.seed) calls)) in
    subst Told (sym c.in-Block.is) c.block.ensures.stands

pub returns-in-Block-clause-follows : goal.returns-in-Block-clause-follows
returns-in-Block-clause-follows g c =
    let Told : Message g.row.C.Denot → Type 0 = λ m. IfOk c.block.result (λ p. (calls : List (Call g.row.C.Denot)) → Follows g.C.Ord.cmp c.args.self.now.directory c.args.self.now.controls calls
    → Follows g.C.Ord.cmp c.block.new.self.directory c.block.new.self.controls (calls_after g.C.Ord.cmp c.args.self.now.directory.rules m c.args.now (jitter_of c.args.self.now.cooldown c.args.seed) calls)) in
    subst Told (sym c.in-Block.is) c.block.ensures.follows

pub returns-in-Connect-clause-stands : goal.returns-in-Connect-clause-stands
returns-in-Connect-clause-stands g c =
    let Told : Message g.row.C.Denot → Type 0 = λ m. IfOk c.connect.result (λ p. (calls : List (Call g.row.C.Denot)) → StandsFor g.C.Ord.cmp c.args.self.now.directory calls
    → StandsFor g.C.Ord.cmp c.connect.new.self.directory (calls_after g.C.Ord.cmp c.args.self.now.directory.rules m c.args.now (jitter_of c.args.self.now.cooldown c.args.seed) calls)) in
    subst Told (sym c.in-Connect.is) c.connect.ensures.stands

pub returns-in-Connect-clause-follows : goal.returns-in-Connect-clause-follows
returns-in-Connect-clause-follows g c =
    let Told : Message g.row.C.Denot → Type 0 = λ m. IfOk c.connect.result (λ p. (calls : List (Call g.row.C.Denot)) → Follows g.C.Ord.cmp c.args.self.now.directory c.args.self.now.controls calls
    → Follows g.C.Ord.cmp c.connect.new.self.directory c.connect.new.self.controls (calls_after g.C.Ord.cmp c.args.self.now.directory.rules m c.args.now (jitter_of c.args.self.now.cooldown c.args.seed) calls)) in
    subst Told (sym c.in-Connect.is) c.connect.ensures.follows

pub returns-in-Dial-clause-stands : goal.returns-in-Dial-clause-stands
returns-in-Dial-clause-stands g c =
    let Told : Message g.row.C.Denot → Type 0 = λ m. IfOk c.dial.result (λ p. (calls : List (Call g.row.C.Denot)) → StandsFor g.C.Ord.cmp c.args.self.now.directory calls
    → StandsFor g.C.Ord.cmp c.dial.new.self.directory (calls_after g.C.Ord.cmp c.args.self.now.directory.rules m c.args.now (jitter_of c.args.self.now.cooldown c.args.seed) calls)) in
    subst Told (sym c.in-Dial.is) c.dial.ensures.stands

pub returns-in-Dial-clause-follows : goal.returns-in-Dial-clause-follows
returns-in-Dial-clause-follows g c =
    let Told : Message g.row.C.Denot → Type 0 = λ m. IfOk c.dial.result (λ p. (calls : List (Call g.row.C.Denot)) → Follows g.C.Ord.cmp c.args.self.now.directory c.args.self.now.controls calls
    → Follows g.C.Ord.cmp c.dial.new.self.directory c.dial.new.self.controls (calls_after g.C.Ord.cmp c.args.self.now.directory.rules m c.args.now (jitter_of c.args.self.now.cooldown c.args.seed) calls)) in
    subst Told (sym c.in-Dial.is) c.dial.ensures.follows

pub returns-in-Listen-clause-stands : goal.returns-in-Listen-clause-stands
returns-in-Listen-clause-stands g c =
    let Told : Message g.row.C.Denot → Type 0 = λ m. IfOk c.listen.result (λ p. (calls : List (Call g.row.C.Denot)) → StandsFor g.C.Ord.cmp c.args.self.now.directory calls
    → StandsFor g.C.Ord.cmp c.listen.new.self.directory (calls_after g.C.Ord.cmp c.args.self.now.directory.rules m c.args.now (jitter_of c.args.self.now.cooldown c.args.seed) calls)) in
    subst Told (sym c.in-Listen.is) c.listen.ensures.stands

pub returns-in-Listen-clause-follows : goal.returns-in-Listen-clause-follows
returns-in-Listen-clause-follows g c =
    let Told : Message g.row.C.Denot → Type 0 = λ m. IfOk c.listen.result (λ p. (calls : List (Call g.row.C.Denot)) → Follows g.C.Ord.cmp c.args.self.now.directory c.args.self.now.controls calls
    → Follows g.C.Ord.cmp c.listen.new.self.directory c.listen.new.self.controls (calls_after g.C.Ord.cmp c.args.self.now.directory.rules m c.args.now (jitter_of c.args.self.now.cooldown c.args.seed) calls)) in
    subst Told (sym c.in-Listen.is) c.listen.ensures.follows

pub returns-in-Release-clause-stands : goal.returns-in-Release-clause-stands
returns-in-Release-clause-stands g c =
    let Told : Message g.row.C.Denot → Type 0 = λ m. (calls : List (Call g.row.C.Denot)) → StandsFor g.C.Ord.cmp c.args.self.now.directory calls
    → StandsFor g.C.Ord.cmp c.release.new.self.directory (calls_after g.C.Ord.cmp c.args.self.now.directory.rules m c.args.now (jitter_of c.args.self.now.cooldown c.args.seed) calls) in
    subst Told (sym c.in-Release.is) c.release.ensures.stands

pub returns-in-Release-clause-follows : goal.returns-in-Release-clause-follows
returns-in-Release-clause-follows g c =
    let Told : Message g.row.C.Denot → Type 0 = λ m. (calls : List (Call g.row.C.Denot)) → Follows g.C.Ord.cmp c.args.self.now.directory c.args.self.now.controls calls
    → Follows g.C.Ord.cmp c.release.new.self.directory c.release.new.self.controls (calls_after g.C.Ord.cmp c.args.self.now.directory.rules m c.args.now (jitter_of c.args.self.now.cooldown c.args.seed) calls) in
    subst Told (sym c.in-Release.is) c.release.ensures.follows

pub returns-in-Register-clause-put : goal.returns-in-Register-clause-put
returns-in-Register-clause-put g c =
    let Told : Message g.row.C.Denot → Type 0 = λ m. IfOk c.register.result (λ p. IsPut g.C.Ord.cmp c.args.self.now c.register.new.self c.args.way.now.desk.sets c.args.way.now.heard (runs_in c.args.way.now) c.args.now m p) in
    subst Told (sym c.in-Register.is) c.register.ensures.put

pub returns-in-Register-clause-updates : goal.returns-in-Register-clause-updates
returns-in-Register-clause-updates g c = on_ok c.register.result _ (ap (λ (t : Tracking g.row.C.Denot). t.updates) c.register.ensures.rest ∙ ap (λ (m : Message g.row.C.Denot). updates_for m c.args.self.now.updates) (sym c.in-Register.is))

pub returns-in-Register-clause-sets : goal.returns-in-Register-clause-sets
returns-in-Register-clause-sets g c = on_ok c.register.result _ (ap (λ (t : Tracking g.row.C.Denot). t.sets) c.register.ensures.rest ∙ ap (λ (m : Message g.row.C.Denot). sets_for m c.args.self.now.sets) (sym c.in-Register.is))

pub returns-in-Overwrite-clause-put : goal.returns-in-Overwrite-clause-put
returns-in-Overwrite-clause-put g c =
    let Told : Message g.row.C.Denot → Type 0 = λ m. IfOk c.overwrite.result (λ p. IsPut g.C.Ord.cmp c.args.self.now c.overwrite.new.self c.args.way.now.desk.sets c.args.way.now.heard (runs_in c.args.way.now) c.args.now m p) in
    subst Told (sym c.in-Overwrite.is) c.overwrite.ensures.put

pub returns-in-Overwrite-clause-updates : goal.returns-in-Overwrite-clause-updates
returns-in-Overwrite-clause-updates g c = on_ok c.overwrite.result _ (ap (λ (t : Tracking g.row.C.Denot). t.updates) c.overwrite.ensures.rest ∙ ap (λ (m : Message g.row.C.Denot). updates_for m c.args.self.now.updates) (sym c.in-Overwrite.is))

pub returns-in-Overwrite-clause-sets : goal.returns-in-Overwrite-clause-sets
returns-in-Overwrite-clause-sets g c = on_ok c.overwrite.result _ (ap (λ (t : Tracking g.row.C.Denot). t.sets) c.overwrite.ensures.rest ∙ ap (λ (m : Message g.row.C.Denot). sets_for m c.args.self.now.sets) (sym c.in-Overwrite.is))

pub returns-in-PeerSet-clause-put : goal.returns-in-PeerSet-clause-put
returns-in-PeerSet-clause-put g c =
    let Told : Message g.row.C.Denot → Type 0 = λ m. IfOk c.peer_set.result (λ p. IsPut g.C.Ord.cmp c.args.self.now c.args.self.now c.args.way.now.desk.sets c.args.way.now.heard (runs_in c.args.way.now) c.args.now m p) in
    subst Told (sym c.in-PeerSet.is) c.peer_set.ensures.put

pub returns-in-PeerSet-clause-updates : goal.returns-in-PeerSet-clause-updates
returns-in-PeerSet-clause-updates g c = on_ok c.peer_set.result _ (ap (λ (m : Message g.row.C.Denot). updates_for m c.args.self.now.updates) (sym c.in-PeerSet.is))

pub returns-in-PeerSet-clause-sets : goal.returns-in-PeerSet-clause-sets
returns-in-PeerSet-clause-sets g c = on_ok c.peer_set.result _ (ap (λ (m : Message g.row.C.Denot). sets_for m c.args.self.now.sets) (sym c.in-PeerSet.is))

pub returns-in-Subscribe-clause-put : goal.returns-in-Subscribe-clause-put
returns-in-Subscribe-clause-put g c =
    let Told : Message g.row.C.Denot → Type 0 = λ m. IfOk c.subscribe.result (λ p. IsPut g.C.Ord.cmp c.args.self.now c.subscribe.new.self c.args.way.now.desk.sets c.args.way.now.heard (runs_in c.args.way.now) c.args.now m p) in
    subst Told (sym c.in-Subscribe.is) c.subscribe.ensures.put

pub returns-in-Subscribe-clause-updates : goal.returns-in-Subscribe-clause-updates
returns-in-Subscribe-clause-updates g c = subst (λ (m : Message g.row.C.Denot). OnOk c.subscribe.result (c.subscribe.new.self.updates ≡ updates_for m c.args.self.now.updates)) (sym c.in-Subscribe.is) c.subscribe.ensures.kept

pub returns-in-Subscribe-clause-sets : goal.returns-in-Subscribe-clause-sets
returns-in-Subscribe-clause-sets g c = on_ok c.subscribe.result _ (ap (λ (t : Tracking g.row.C.Denot). t.sets) c.subscribe.ensures.rest ∙ ap (λ (m : Message g.row.C.Denot). sets_for m c.args.self.now.sets) (sym c.in-Subscribe.is))

pub returns-in-Block-clause-put : goal.returns-in-Block-clause-put
returns-in-Block-clause-put g c =
    let Told : Message g.row.C.Denot → Type 0 = λ m. IfOk c.block.result (λ p. IsPut g.C.Ord.cmp c.args.self.now c.block.new.self c.args.way.now.desk.sets c.args.way.now.heard (runs_in c.args.way.now) c.args.now m p) in
    subst Told (sym c.in-Block.is) c.block.ensures.put

pub returns-in-Block-clause-updates : goal.returns-in-Block-clause-updates
returns-in-Block-clause-updates g c = on_ok c.block.result _ (ap (λ (t : Tracking g.row.C.Denot). t.updates) c.block.ensures.rest ∙ ap (λ (m : Message g.row.C.Denot). updates_for m c.args.self.now.updates) (sym c.in-Block.is))

pub returns-in-Block-clause-sets : goal.returns-in-Block-clause-sets
returns-in-Block-clause-sets g c = on_ok c.block.result _ (ap (λ (t : Tracking g.row.C.Denot). t.sets) c.block.ensures.rest ∙ ap (λ (m : Message g.row.C.Denot). sets_for m c.args.self.now.sets) (sym c.in-Block.is))

pub returns-in-SubscribeBlocked-clause-put : goal.returns-in-SubscribeBlocked-clause-put
returns-in-SubscribeBlocked-clause-put g c =
    let Told : Message g.row.C.Denot → Type 0 = λ m. IfOk c.subscribe_blocked.result (λ p. IsPut g.C.Ord.cmp c.args.self.now c.subscribe_blocked.new.self c.args.way.now.desk.sets c.args.way.now.heard (runs_in c.args.way.now) c.args.now m p) in
    subst Told (sym c.in-SubscribeBlocked.is) c.subscribe_blocked.ensures.put

pub returns-in-SubscribeBlocked-clause-updates : goal.returns-in-SubscribeBlocked-clause-updates
returns-in-SubscribeBlocked-clause-updates g c = on_ok c.subscribe_blocked.result _ (ap (λ (t : Tracking g.row.C.Denot). t.updates) c.subscribe_blocked.ensures.rest ∙ ap (λ (m : Message g.row.C.Denot). updates_for m c.args.self.now.updates) (sym c.in-SubscribeBlocked.is))

pub returns-in-SubscribeBlocked-clause-sets : goal.returns-in-SubscribeBlocked-clause-sets
returns-in-SubscribeBlocked-clause-sets g c = subst (λ (m : Message g.row.C.Denot). OnOk c.subscribe_blocked.result (c.subscribe_blocked.new.self.sets ≡ sets_for m c.args.self.now.sets)) (sym c.in-SubscribeBlocked.is) c.subscribe_blocked.ensures.kept

pub returns-in-Connect-clause-put : goal.returns-in-Connect-clause-put
returns-in-Connect-clause-put g c =
    let Told : Message g.row.C.Denot → Type 0 = λ m. IfOk c.connect.result (λ p. IsPut g.C.Ord.cmp c.args.self.now c.connect.new.self c.args.way.now.desk.sets c.args.way.now.heard (runs_in c.args.way.now) c.args.now m p) in
    subst Told (sym c.in-Connect.is) c.connect.ensures.put

pub returns-in-Connect-clause-desk : goal.returns-in-Connect-clause-desk
returns-in-Connect-clause-desk g c =
    if_ok c.connect.result (λ p. (m : Mailbox g.row.C.Denot) → after_puts p m ≡ m) (λ p. c.args.way.now ≡ after_puts p c.args.way.now) (λ p h. sym (h c.args.way.now)) c.connect.ensures.desk

pub returns-in-Connect-clause-updates : goal.returns-in-Connect-clause-updates
returns-in-Connect-clause-updates g c = on_ok c.connect.result _ (ap (λ (t : Tracking g.row.C.Denot). t.updates) c.connect.ensures.rest ∙ ap (λ (m : Message g.row.C.Denot). updates_for m c.args.self.now.updates) (sym c.in-Connect.is))

pub returns-in-Connect-clause-sets : goal.returns-in-Connect-clause-sets
returns-in-Connect-clause-sets g c = on_ok c.connect.result _ (ap (λ (t : Tracking g.row.C.Denot). t.sets) c.connect.ensures.rest ∙ ap (λ (m : Message g.row.C.Denot). sets_for m c.args.self.now.sets) (sym c.in-Connect.is))

pub returns-in-Dialable-clause-put : goal.returns-in-Dialable-clause-put
returns-in-Dialable-clause-put g c =
    let Told : Message g.row.C.Denot → Type 0 = λ m. IfOk c.dialable.result (λ p. IsPut g.C.Ord.cmp c.args.self.now c.args.self.now c.args.way.now.desk.sets c.args.way.now.heard (runs_in c.args.way.now) c.args.now m p) in
    subst Told (sym c.in-Dialable.is) c.dialable.ensures.put

pub returns-in-Dialable-clause-updates : goal.returns-in-Dialable-clause-updates
returns-in-Dialable-clause-updates g c = on_ok c.dialable.result _ (ap (λ (m : Message g.row.C.Denot). updates_for m c.args.self.now.updates) (sym c.in-Dialable.is))

pub returns-in-Dialable-clause-sets : goal.returns-in-Dialable-clause-sets
returns-in-Dialable-clause-sets g c = on_ok c.dialable.result _ (ap (λ (m : Message g.row.C.Denot). sets_for m c.args.self.now.sets) (sym c.in-Dialable.is))

pub returns-in-Dial-clause-put : goal.returns-in-Dial-clause-put
returns-in-Dial-clause-put g c =
    let Told : Message g.row.C.Denot → Type 0 = λ m. IfOk c.dial.result (λ p. IsPut g.C.Ord.cmp c.args.self.now c.dial.new.self c.args.way.now.desk.sets c.args.way.now.heard (runs_in c.args.way.now) c.args.now m p) in
    subst Told (sym c.in-Dial.is) c.dial.ensures.put

pub returns-in-Dial-clause-updates : goal.returns-in-Dial-clause-updates
returns-in-Dial-clause-updates g c = on_ok c.dial.result _ (ap (λ (t : Tracking g.row.C.Denot). t.updates) c.dial.ensures.rest ∙ ap (λ (m : Message g.row.C.Denot). updates_for m c.args.self.now.updates) (sym c.in-Dial.is))

pub returns-in-Dial-clause-sets : goal.returns-in-Dial-clause-sets
returns-in-Dial-clause-sets g c = on_ok c.dial.result _ (ap (λ (t : Tracking g.row.C.Denot). t.sets) c.dial.ensures.rest ∙ ap (λ (m : Message g.row.C.Denot). sets_for m c.args.self.now.sets) (sym c.in-Dial.is))

pub returns-in-Acceptable-clause-put : goal.returns-in-Acceptable-clause-put
returns-in-Acceptable-clause-put g c =
    let Told : Message g.row.C.Denot → Type 0 = λ m. IfOk c.acceptable.result (λ p. IsPut g.C.Ord.cmp c.args.self.now c.args.self.now c.args.way.now.desk.sets c.args.way.now.heard (runs_in c.args.way.now) c.args.now m p) in
    subst Told (sym c.in-Acceptable.is) c.acceptable.ensures.put

pub returns-in-Acceptable-clause-updates : goal.returns-in-Acceptable-clause-updates
returns-in-Acceptable-clause-updates g c = on_ok c.acceptable.result _ (ap (λ (m : Message g.row.C.Denot). updates_for m c.args.self.now.updates) (sym c.in-Acceptable.is))

pub returns-in-Acceptable-clause-sets : goal.returns-in-Acceptable-clause-sets
returns-in-Acceptable-clause-sets g c = on_ok c.acceptable.result _ (ap (λ (m : Message g.row.C.Denot). sets_for m c.args.self.now.sets) (sym c.in-Acceptable.is))

pub returns-in-Listen-clause-put : goal.returns-in-Listen-clause-put
returns-in-Listen-clause-put g c =
    let Told : Message g.row.C.Denot → Type 0 = λ m. IfOk c.listen.result (λ p. IsPut g.C.Ord.cmp c.args.self.now c.listen.new.self c.args.way.now.desk.sets c.args.way.now.heard (runs_in c.args.way.now) c.args.now m p) in
    subst Told (sym c.in-Listen.is) c.listen.ensures.put

pub returns-in-Listen-clause-updates : goal.returns-in-Listen-clause-updates
returns-in-Listen-clause-updates g c = on_ok c.listen.result _ (ap (λ (t : Tracking g.row.C.Denot). t.updates) c.listen.ensures.rest ∙ ap (λ (m : Message g.row.C.Denot). updates_for m c.args.self.now.updates) (sym c.in-Listen.is))

pub returns-in-Listen-clause-sets : goal.returns-in-Listen-clause-sets
returns-in-Listen-clause-sets g c = on_ok c.listen.result _ (ap (λ (t : Tracking g.row.C.Denot). t.sets) c.listen.ensures.rest ∙ ap (λ (m : Message g.row.C.Denot). sets_for m c.args.self.now.sets) (sym c.in-Listen.is))

pub returns-in-Release-clause-put : goal.returns-in-Release-clause-put
returns-in-Release-clause-put g c =
    let Told : Message g.row.C.Denot → Type 0 = λ m. IsPut g.C.Ord.cmp c.args.self.now c.release.new.self c.args.way.now.desk.sets c.args.way.now.heard (runs_in c.args.way.now) c.args.now m c.release.result in
    subst Told (sym c.in-Release.is) c.release.ensures.put

pub returns-in-Release-clause-desk : goal.returns-in-Release-clause-desk
returns-in-Release-clause-desk g c = ap (λ (x : List (Put g.row.C.Denot)). after_puts x c.args.way.now) (sym c.release.ensures.put)

pub returns-in-Release-clause-updates : goal.returns-in-Release-clause-updates
returns-in-Release-clause-updates g c = ap (λ (t : Tracking g.row.C.Denot). t.updates) c.release.ensures.rest ∙ ap (λ (m : Message g.row.C.Denot). updates_for m c.args.self.now.updates) (sym c.in-Release.is)

pub returns-in-Release-clause-sets : goal.returns-in-Release-clause-sets
returns-in-Release-clause-sets g c = ap (λ (t : Tracking g.row.C.Denot). t.sets) c.release.ensures.rest ∙ ap (λ (m : Message g.row.C.Denot). sets_for m c.args.self.now.sets) (sym c.in-Release.is)
