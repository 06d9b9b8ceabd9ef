use Rattle.std.proofs.Common.{◌≡◌, ◌||◌, ◌++◌, drop, take, List}
use Rattle.p2p_tracker_calls.specs.declared.call.Call.{Call}
use Rattle.p2p_tracker_directory.specs.Stands.{StandsFor}
use Rattle.p2p_tracker.specs.Following.{Follows}
use Rattle.p2p_tracker.specs.Putting.{overwrite_kills}
use Rattle.p2p_tracker_mailbox.specs.declared.mailbox.Mailbox.{Mailbox}
use Rattle.p2p_tracker_calls.specs.Overwrites.{overwritten_keys}
use Rattle.p2p_tracker.specs.Telling.{has_any, after_puts}
use Rattle.p2p_tracker_calls.specs.Overwrites.{overwritten}
use Rattle.p2p_tracker.proofs.actor.registering.readdress_all.Given as goal

abbrev pub invariant-loop-place : goal.invariant-loop-place
invariant-loop-place g l = record {
  stands : (calls : List (Call g.row.C.Denot)) → StandsFor g.C.Ord.cmp l.initial.directory calls → StandsFor g.C.Ord.cmp l.directory (overwritten (take l.place l.peers) calls);
  follows : (calls : List (Call g.row.C.Denot)) → Follows g.C.Ord.cmp l.initial.directory l.initial.controls.entries calls → Follows g.C.Ord.cmp l.directory l.controls.entries (overwritten (take l.place l.peers) calls);
  any : (calls : List (Call g.row.C.Denot)) → StandsFor g.C.Ord.cmp l.initial.directory calls
      → (l.has_changed || has_any (overwritten_keys g.C.Ord.cmp l.initial.directory.rules (drop l.place l.peers) (overwritten (take l.place l.peers) calls))) ≡ has_any (overwritten_keys g.C.Ord.cmp l.initial.directory.rules l.peers calls);
  put : (calls : List (Call g.row.C.Denot)) → Follows g.C.Ord.cmp l.initial.directory l.initial.controls.entries calls
      → l.put.items ++ overwrite_kills g.C.Ord.cmp l.initial.directory.rules (drop l.place l.peers) (overwritten (take l.place l.peers) calls) ≡ l.initial.put.items ++ overwrite_kills g.C.Ord.cmp l.initial.directory.rules l.peers calls;
  desk : (m : Mailbox g.row.C.Denot) → after_puts l.put.items m ≡ after_puts l.initial.put.items m;
  rules : l.directory.rules ≡ l.initial.directory.rules;
}
