-- A step of the tracker, by what it did.
use Rattle.std.proofs.Common.{◌≡◌, ℕ, Bool, true, false, drop, List, [], ◌∷◌, Some, None, refl, sym, ap, ◌∙◌, subst}
use Rattle.std.proofs.lemmas.Bool.{false≢true}
use Rattle.std.specs.Prelude.{is_some, slice_get}
use Rattle.std.specs.declared.cmp.Ordering.{Ordering}
use Rattle.p2p_tracker_calls.specs.declared.call.Call.{Call}
use Rattle.p2p_tracker_calls.specs.declared.call.Call.TheVariants as call
use Rattle.p2p_tracker_calls.specs.Blocks.{is_over, block_of}
use Rattle.p2p_tracker_calls.specs.Jitter.{jitter_of}
use Rattle.p2p_tracker_directory.specs.Stands.{Kept, StandsFor}
use Rattle.p2p_tracker_mailbox.specs.Desk.{next_message, without_message}
use Rattle.p2p_tracker_mailbox.specs.Mailboxes.{with_desk}
use Rattle.p2p_tracker_mailbox.specs.declared.mailbox.Mailbox.{Mailbox}
use Rattle.p2p_tracker_mailbox.specs.declared.message.Message.{Message}
use Rattle.p2p_tracker.specs.Following.{Follows}
use Rattle.p2p_tracker.specs.Serving.{IsQuiet, calls_after, calls_on}
use Rattle.p2p_tracker.specs.Stepping.{IsStepOf}
use Rattle.p2p_tracker.specs.Steps.{by_step, updates_for, sets_for}
use Rattle.p2p_tracker.specs.Telling.{after_puts}
use Rattle.p2p_tracker.specs.Tracking.{Tracking}
use Rattle.p2p_tracker.specs.declared.stepped.Put.{Put}
use Rattle.p2p_tracker.specs.declared.stepped.Stepped.{Stepped}
use Rattle.p2p_tracker.specs.declared.stepped.Stepped.TheVariants as stepped
use Rattle.p2p_tracker.proofs.Following.{follows-unblock}
use Rattle.p2p_tracker.proofs.Told.{messages-after_puts}

drop_none : {X : Type 0} (xs : List X) → slice_get xs 0 ≡ None → drop 1 xs ≡ xs
drop_none [] none = refl
drop_none (x ∷ xs) none = absurd cc

module _ {P : Type 0} where
  -- the mailbox from which nothing could be taken
  untaken : (m left : Mailbox P) → next_message m.desk ≡ None → left ≡ with_desk m (without_message m.desk) → left ≡ m
  untaken m left none after =
      after
      ∙ ap (λ (l : List (Message P)). with_desk m (record m.desk { messages = record m.desk.messages { items = l } }))
      (drop_none m.desk.messages.items none)

module _ {P : Type 0} (cmp : P → P → Ordering) (t : Tracking P) (d : Kept P) (m : Mailbox P) (now seed : ℕ) where
  -- no block is due, by what is told
  abbrev pub NoneDue : Type 0
  NoneDue = (calls : List (Call P)) → StandsFor cmp t.directory calls → IsQuiet cmp t.directory.rules calls now

  -- blocks that were due have ended
  pub ended_step : (way : Mailbox P) (put : List (Put P)) → d.rules ≡ t.directory.rules
      → ((calls : List (Call P)) → StandsFor cmp t.directory calls → (q : P) × (is_over (block_of cmp t.directory.rules calls q) now ≡ true))
      → ((calls : List (Call P)) → StandsFor cmp t.directory calls → StandsFor cmp d (call.UnblockExpired now ∷ calls))
      → way ≡ after_puts put m → IsStepOf cmp t m now seed (stepped.EndedBlocks put) (record t { directory = d }) way
  ended_step way put rules due stands desk = record {
    stands = stands;
    follows = λ calls f. follows-unblock t.directory d t.controls calls rules f now (stands calls f.stands);
    due = λ _. due;
    quiet = λ none. absurd (false≢true (sym none));
    served = λ none. absurd (false≢true (sym none));
    taken = ap (λ (x : Mailbox P). x.desk.messages) desk ∙ messages-after_puts put m;
    put = desk;
    updates = refl;
    sets = refl;
    rules = rules;
    cooldown = refl;
  }

  -- no block was due, and nothing waits
  pub idle_step : (left : Mailbox P) → d ≡ t.directory → NoneDue → next_message m.desk ≡ None → left ≡ with_desk m (without_message m.desk)
      → IsStepOf cmp t m now seed stepped.Idle (record t { directory = d }) left
  idle_step left kept quiet none after =
      let same : left ≡ m = untaken m left none after in
      subst (λ (x : Kept P). IsStepOf cmp t m now seed stepped.Idle (record t { directory = x }) left) (sym kept) (record {
        stands = λ calls s. s;
        follows = λ calls f. f;
        due = λ some. absurd (false≢true some);
        quiet = λ _. quiet;
        served = λ _. sym (ap is_some none);
        taken = ap (λ (x : Mailbox P). x.desk.messages) same;
        put = same;
        updates = refl;
        sets = refl;
        rules = refl;
        cooldown = refl;
      })

  -- no block was due, and this message was taken
  pub message_step : (new : Tracking P) (left way : Mailbox P) (o : Message P) (put : List (Put P)) → d ≡ t.directory → NoneDue
      → next_message m.desk ≡ Some o → left ≡ with_desk m (without_message m.desk)
      → ((calls : List (Call P)) → StandsFor cmp d calls → StandsFor cmp new.directory (calls_after cmp d.rules o now (jitter_of t.cooldown seed) calls))
      → ((calls : List (Call P)) → Follows cmp d t.controls calls
      → Follows cmp new.directory new.controls (calls_after cmp d.rules o now (jitter_of t.cooldown seed) calls))
      → new.directory.rules ≡ d.rules → new.cooldown ≡ t.cooldown → way ≡ after_puts put left
      → new.updates ≡ updates_for o t.updates → new.sets ≡ sets_for o t.sets
      → IsStepOf cmp t m now seed (stepped.Message put) new way
  message_step new left way o put kept quiet next after stands follows rules cooldown desk updates sets =
      let jitter = jitter_of t.cooldown seed in
      let Stands : Kept P → Type 0 = λ x. (calls : List (Call P)) → StandsFor cmp x calls → StandsFor cmp new.directory (calls_after cmp x.rules o now jitter calls) in
      let FollowsOn : Kept P → Type 0 = λ x. (calls : List (Call P)) → Follows cmp x t.controls calls
      → Follows cmp new.directory new.controls (calls_after cmp x.rules o now jitter calls) in
      let stands_now : Stands t.directory = subst Stands kept stands in
      let follows_now : FollowsOn t.directory = subst FollowsOn kept follows in
      record {
        stands = λ calls s. subst (λ n. StandsFor cmp new.directory (calls_on cmp t.directory.rules n now jitter calls)) (sym next) (stands_now calls s);
        follows = λ calls f. subst (λ n. Follows cmp new.directory new.controls (calls_on cmp t.directory.rules n now jitter calls)) (sym next) (follows_now calls f);
        due = λ some. absurd (false≢true some);
        quiet = λ _. quiet;
        served = λ _. sym (ap is_some next);
        taken = ap (λ (x : Mailbox P). x.desk.messages) desk ∙ (messages-after_puts put left ∙ ap (λ (x : Mailbox P). x.desk.messages) after);
        put = desk ∙ ap (λ (x : Mailbox P). after_puts put x) after;
        updates = updates ∙ ap (λ n. by_step (stepped.Message put) n updates_for t.updates) (sym next);
        sets = sets ∙ ap (λ n. by_step (stepped.Message put) n sets_for t.sets) (sym next);
        rules = rules ∙ ap (λ (x : Kept P). x.rules) kept;
        cooldown = cooldown;
      }

-- whether it has failed is no part of what a step comes to
pub marked : {P : Type 0} (cmp : P → P → Ordering) (t new : Tracking P) (before after : Bool) (m way : Mailbox P) (now seed : ℕ) (s : Stepped P)
    → IsStepOf cmp (record t { has_failed = before }) m now seed s new way → IsStepOf cmp t m now seed s (record new { has_failed = after }) way
marked cmp t new before after m way now seed s h = record {
  stands = h.stands;
  follows = h.follows;
  due = h.due;
  quiet = h.quiet;
  served = h.served;
  taken = h.taken;
  put = h.put;
  updates = h.updates;
  sets = h.sets;
  rules = h.rules;
  cooldown = h.cooldown;
}
