use Rattle.std.proofs.Common.{◌≡◌, ◌+◌, ◌<◌, ◌≤◌, ◌||◌, ◌++◌, List, length, get_or, take, drop, refl, sym, ap, ◌∙◌, subst, arith, append-nil}
use Rattle.std.proofs.lemmas.List.{take_all, at_drop_all}
use Rattle.std.specs.Map.{lookup, keys_of, values_of}
use Rattle.p2p_address.specs.declared.peer.Address.{Address}
use Rattle.p2p_tracker_calls.specs.declared.call.Call.{Call}
use Rattle.p2p_tracker_directory.specs.Stands.{StandsFor}
use Rattle.p2p_tracker.specs.Following.{Follows}
use Rattle.p2p_tracker_calls.specs.Rules.{Rules}
use Rattle.p2p_tracker_calls.specs.Lives.{is_overwritten}
use Rattle.p2p_tracker_calls.specs.Overwrites.{overwritten_keys}
use Rattle.p2p_tracker.specs.Telling.{has_any, kill_put}
use Rattle.p2p_tracker.specs.Putting.{overwrite_kills}
use Rattle.p2p_tracker.specs.declared.stepped.Put.{Put}
use Rattle.p2p_tracker_calls.specs.Keeping.{kept_of}
use Rattle.std.specs.BTreeMap.{is_at}
use Rattle.p2p_tracker.proofs.Told.{after-kill_if}
use Rattle.p2p_tracker_calls.specs.Overwrites.{overwritten}
use Rattle.p2p_tracker.proofs.Readdressing.{overwritten-more, keys-more, kills-more, any-more, killed-more, or_false}
use Rattle.p2p_tracker.proofs.actor.registering.readdress_all.Goals as goal

pub loop-place-init : goal.loop-place-init
unfolding overwritten
loop-place-init g c = record { stands = λ calls s. s; follows = λ calls f. f; any = λ calls s. refl; put = λ calls f. refl; desk = λ m. refl; rules = refl }

pub loop-place-preserved : goal.loop-place-preserved
loop-place-preserved g c =
    let there : c.loop-place.place < length c.args.peers.now = omega arith in
    let key : c.index-keys-place.result ≡ get_or (keys_of c.args.peers.now) c.loop-place.place c.index-keys-place.result = c.index-keys-place.is ∙ ap (λ xs. get_or xs c.loop-place.place c.index-keys-place.result) c.keys.ensures.keys in
    let same : c.in_ok-address.address ≡ c.index-values-place.result = c.in_ok-address.ensures.cases in
    let found : c.index-values-place.result ≡ get_or (values_of c.args.peers.now) c.loop-place.place c.index-values-place.result = c.index-values-place.is ∙ ap (λ (xs : List Address). get_or xs c.loop-place.place c.index-values-place.result) c.values.ensures in
    let address : c.in_ok-address.address ≡ get_or (values_of c.args.peers.now) c.loop-place.place c.in_ok-address.address = subst (λ (x : Address). x ≡ get_or (values_of c.args.peers.now) c.loop-place.place x) (sym same) found in
    let left = λ (calls : List (Call g.row.C.Denot)). overwritten_keys g.C.Ord.cmp c.args.directory.now.rules (drop (c.loop-place.place + 1) c.args.peers.now) (overwritten (take (c.loop-place.place + 1) c.args.peers.now) calls) in
    let changes = λ (calls : List (Call g.row.C.Denot)) (s : StandsFor g.C.Ord.cmp c.args.directory.now calls).
    c.in_ok-changes.ensures.answer (overwritten (take c.loop-place.place c.args.peers.now) calls) (c.loop-place.invariant.stands calls s)
    ∙ ap (λ (r : Rules g.row.C.Denot). is_overwritten g.C.Ord.cmp r (overwritten (take c.loop-place.place c.args.peers.now) calls) c.index-keys-place.result c.in_ok-address.address) c.loop-place.invariant.rules in
    let one = λ (calls : List (Call g.row.C.Denot)) (s : StandsFor g.C.Ord.cmp c.args.directory.now calls).
    keys-more g.C.Ord.cmp c.args.directory.now.rules c.args.peers.now c.loop-place.place c.index-keys-place.result c.in_ok-address.address calls c.in_ok-changes.changes
    (c.in_ok-changes.ensures.answer (overwritten (take c.loop-place.place c.args.peers.now) calls) (c.loop-place.invariant.stands calls s)
    ∙ ap (λ (r : Rules g.row.C.Denot). is_overwritten g.C.Ord.cmp r (overwritten (take c.loop-place.place c.args.peers.now) calls) c.index-keys-place.result c.in_ok-address.address) c.loop-place.invariant.rules)
    there key address in
    let more = λ (calls : List (Call g.row.C.Denot)). sym (overwritten-more c.args.peers.now c.loop-place.place c.index-keys-place.result c.in_ok-address.address calls there key address) in
    record {
      stands = λ calls s. subst (λ (x : List (Call g.row.C.Denot)). StandsFor g.C.Ord.cmp c.readdress.new.directory x) (more calls)
          (c.in_ok-changes.ensures.stands (overwritten (take c.loop-place.place c.args.peers.now) calls) (c.loop-place.invariant.stands calls s));
      follows = λ calls f. subst (λ (x : List (Call g.row.C.Denot)). Follows g.C.Ord.cmp c.readdress.new.directory c.readdress.new.controls.entries x) (more calls)
          (c.in_ok-changes.ensures.follows (overwritten (take c.loop-place.place c.args.peers.now) calls) (c.loop-place.invariant.follows calls f));
      any = λ calls s.
          let more = one calls s in
          any-more c.loop-place.has_changed c.in_ok-changes.changes c.index-keys-place.result (left calls)
          ∙ (ap (λ (ks : List g.row.C.Denot). c.loop-place.has_changed || has_any ks) more ∙ c.loop-place.invariant.any calls s);
      put = λ calls f.
          let before = overwritten (take c.loop-place.place c.args.peers.now) calls in
          let kept : lookup (is_at (g.C.Ord.cmp c.index-keys-place.result)) c.loop-place.controls.entries ≡ kept_of g.C.Ord.cmp c.args.directory.now.rules before c.index-keys-place.result =
          (c.loop-place.invariant.follows calls f).exactly c.index-keys-place.result ∙ ap (λ (r : Rules g.row.C.Denot). kept_of g.C.Ord.cmp r before c.index-keys-place.result) c.loop-place.invariant.rules in
          killed-more c.in_ok-changes.changes c.loop-place.put.items c.readdress.new.put.items (kill_put c.index-keys-place.result (lookup (is_at (g.C.Ord.cmp c.index-keys-place.result)) c.loop-place.controls.entries))
          (overwrite_kills g.C.Ord.cmp c.args.directory.now.rules (drop (c.loop-place.place + 1) c.args.peers.now) (overwritten (take (c.loop-place.place + 1) c.args.peers.now) calls)) c.in_ok-changes.ensures.put
          ∙ (ap (λ (x : List (Put g.row.C.Denot)). c.loop-place.put.items ++ x) (kills-more g.C.Ord.cmp c.args.directory.now.rules c.args.peers.now c.loop-place.place c.index-keys-place.result c.in_ok-address.address calls
          c.in_ok-changes.changes (lookup (is_at (g.C.Ord.cmp c.index-keys-place.result)) c.loop-place.controls.entries) (changes calls f.stands) kept there key address)
          ∙ c.loop-place.invariant.put calls f);
      desk = λ m. after-kill_if c.in_ok-changes.changes c.index-keys-place.result (lookup (is_at (g.C.Ord.cmp c.index-keys-place.result)) c.loop-place.controls.entries) c.loop-place.put.items c.readdress.new.put.items m c.in_ok-changes.ensures.put
          ∙ c.loop-place.invariant.desk m;
      rules = c.in_ok-changes.ensures.rules ∙ c.loop-place.invariant.rules;
    }

pub returns-clause-stands : goal.returns-clause-stands
returns-clause-stands g c = λ calls s.
    let all : length c.args.peers.now ≤ c.loop-place.place = omega arith in
    subst (λ xs. StandsFor g.C.Ord.cmp c.loop-place.directory (overwritten xs calls)) (take_all c.loop-place.place c.args.peers.now all) (c.loop-place.invariant.stands calls s)

pub returns-clause-follows : goal.returns-clause-follows
returns-clause-follows g c = λ calls f.
    let all : length c.args.peers.now ≤ c.loop-place.place = omega arith in
    subst (λ xs. Follows g.C.Ord.cmp c.loop-place.directory c.loop-place.controls.entries (overwritten xs calls)) (take_all c.loop-place.place c.args.peers.now all) (c.loop-place.invariant.follows calls f)

pub returns-clause-answer : goal.returns-clause-answer
returns-clause-answer g c = λ calls s.
    let all : length c.args.peers.now ≤ c.loop-place.place = omega arith in
    let none = at_drop_all (λ es. has_any (overwritten_keys g.C.Ord.cmp c.args.directory.now.rules es (overwritten (take c.loop-place.place c.args.peers.now) calls))) c.args.peers.now c.loop-place.place all in
    sym (or_false c.loop-place.has_changed) ∙ (ap (λ b. c.loop-place.has_changed || b) (sym none) ∙ c.loop-place.invariant.any calls s)

pub returns-clause-put : goal.returns-clause-put
returns-clause-put g c = λ calls f.
    let all : length c.args.peers.now ≤ c.loop-place.place = omega arith in
    let none = at_drop_all (λ es. c.loop-place.put.items ++ overwrite_kills g.C.Ord.cmp c.args.directory.now.rules es (overwritten (take c.loop-place.place c.args.peers.now) calls)) c.args.peers.now c.loop-place.place all in
    sym (append-nil c.loop-place.put.items) ∙ (sym none ∙ c.loop-place.invariant.put calls f)
