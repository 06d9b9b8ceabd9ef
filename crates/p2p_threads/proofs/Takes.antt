-- What is taken of a mailbox, call by call.
use Rattle.std.proofs.Common.{ℕ, ◌≡◌, ◌≢◌, Bool, true, false, cond, List, [], ◌∷◌, ◌++◌, filter, refl, sym, ap, ◌∙◌, append_assoc, nat_lt, length}
use Rattle.std.proofs.lemmas.List.{append-nil}
use mathlib.Core.List.{IsPrefix}
use Rattle.p2p_base.specs.Queue.{Queue, has_room, enqueue_answer, enqueued}
use Rattle.p2p_base.specs.declared.policy.Keep.{Keep}
use Rattle.p2p_base.specs.declared.policy.Keep.TheVariants as keep
use Rattle.p2p_threads.specs.History.{replayed}
use Rattle.p2p_threads.specs.Mailbox.{told_of, mailbox_reply, mailbox_next}
use Rattle.p2p_threads.specs.Takes.{Calls, accepted, taken, accepted_in, taken_in, NeverReplaces, ReplaysOn, left_after}
use Rattle.p2p_threads.specs.declared.mailbox.MailboxCall.{MailboxCall}
use Rattle.p2p_threads.specs.declared.mailbox.MailboxReply.{MailboxReply}
use Rattle.p2p_threads.specs.declared.mailbox.MailboxCall.TheVariants.{Enqueue, Take}

module _ {T : Type 0} where
  abbrev queue_of : List T → ℕ → Bool → Queue T
  queue_of items capacity closed = record { items = items; capacity = capacity; closed = closed }

  -- the parts of a replay of one call more
  replay_head : (f : T → Keep) (q : Queue T) (c : MailboxCall T) (r : _) (h : Calls T) → ReplaysOn f q ((c, r) ∷ h) → r ≡ mailbox_reply f q c
  replay_head f q c r h e =
      let made : MailboxCall T × MailboxReply T = (c, mailbox_reply f q c) in
      let found : MailboxCall T × MailboxReply T = (c, r) in
      let heads : made ≡ found = cc (e) in ap (λ (w : MailboxCall T × MailboxReply T). w.1) (sym heads)

  replay_rest : (f : T → Keep) (q : Queue T) (c : MailboxCall T) (r : _) (h : Calls T) → ReplaysOn f q ((c, r) ∷ h) → ReplaysOn f (mailbox_next f q c) h
  replay_rest f q c r h e = cc (e)

  -- what an enqueue adds is what it was told that it kept
  enqueue_keeps : (k : Keep) (items : List T) (capacity : ℕ) (closed room : Bool) (m : T) → k ≢ keep.Replace
      → room ≡ nat_lt (length items) capacity
      → items ++ accepted (Enqueue m) (told_of (enqueue_answer k (queue_of items capacity closed) m)) ≡ taken (told_of (enqueue_answer k (queue_of items capacity closed) m)) ++ (enqueued k (queue_of items capacity closed) m).items
  enqueue_keeps k items capacity true room m never is = append-nil items
  enqueue_keeps k items capacity false true m never is = rw (sym is) refl
  enqueue_keeps keep.Refuse items capacity false false m never is = rw (sym is) (append-nil items)
  enqueue_keeps keep.Append items capacity false false m never is = rw (sym is) refl
  enqueue_keeps keep.Replace items capacity false false m never is = absurd (never refl)

  -- one call
  one_call : (f : T → Keep) (items : List T) (capacity : ℕ) (closed : Bool) (c : MailboxCall T) → NeverReplaces f
      → items ++ accepted c (mailbox_reply f (queue_of items capacity closed) c) ≡ taken (mailbox_reply f (queue_of items capacity closed) c) ++ (mailbox_next f (queue_of items capacity closed) c).items
  one_call f items capacity closed (Enqueue m) never = enqueue_keeps (f m) items capacity closed (nat_lt (length items) capacity) m (never m) refl
  one_call f [] capacity closed Take never = refl
  one_call f (x ∷ xs) capacity closed Take never = ap (λ w. x ∷ w) (append-nil xs)

  -- four lists, of which the middle two change their bounds
  across : (items a h g n t l : List T) → items ++ a ≡ g ++ n → n ++ h ≡ t ++ l → items ++ (a ++ h) ≡ (g ++ t) ++ l
  across items a h g n t l p q = sym (append_assoc items a h) ∙ (ap (λ w. w ++ h) p ∙ (append_assoc g n h ∙ (ap (λ w. g ++ w) q ∙ sym (append_assoc g t l))))

  -- what was held and then what was accepted is what was taken and then what is left
  pub kept_is_taken : (f : T → Keep) (q : Queue T) (h : Calls T) → NeverReplaces f → ReplaysOn f q h → q.items ++ accepted_in h ≡ taken_in h ++ (left_after f q h).items
  kept_is_taken f q [] never replays = append-nil q.items
  kept_is_taken f q ((c, r) ∷ h) never replays =
      let said : r ≡ mailbox_reply f q c = replay_head f q c r h replays in
      let one : q.items ++ accepted c r ≡ taken r ++ (mailbox_next f q c).items = rw said (one_call f q.items q.capacity q.closed c never) in
      let more : (mailbox_next f q c).items ++ accepted_in h ≡ taken_in h ++ (left_after f (mailbox_next f q c) h).items = kept_is_taken f (mailbox_next f q c) h never (replay_rest f q c r h replays) in
      across q.items (accepted c r) (accepted_in h) (taken r) (mailbox_next f q c).items (taken_in h) (left_after f (mailbox_next f q c) h).items one more

  filter-cons : (t : T → Bool) (b : Bool) (x : T) (xs ys : List T) → cond b (x ∷ (xs ++ ys)) (xs ++ ys) ≡ cond b (x ∷ xs) xs ++ ys
  filter-cons t true x xs ys = refl
  filter-cons t false x xs ys = refl

  pub filter-app : (t : T → Bool) (xs ys : List T) → filter t (xs ++ ys) ≡ filter t xs ++ filter t ys
  filter-app t [] ys = refl
  filter-app t (x ∷ xs) ys = ap (λ w. cond (t x) (x ∷ w) w) (filter-app t xs ys) ∙ filter-cons t (t x) x (filter t xs) (filter t ys)

  pub begins_each : (t : T → Bool) (xs ys zs : List T) → zs ≡ xs ++ ys → IsPrefix (filter t xs) (filter t zs)
  begins_each t xs ys zs e = (filter t ys, sym (filter-app t xs ys) ∙ ap (filter t) (sym e))
