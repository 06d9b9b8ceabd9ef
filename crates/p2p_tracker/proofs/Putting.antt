-- What is told to one after another, and what that makes of the mailbox.
use Rattle.std.proofs.Common.{◌≡◌, ℕ, suc, ◌+◌, ◌<◌, List, [], ◌∷◌, ◌++◌, length, get_or, drop, Option, Some, None, refl, sym, ap, ◌∙◌, add-one, drop-cons}
use Rattle.std.proofs.lemmas.List.{append_assoc}
use Rattle.std.specs.Prelude.{IfSome}
use Rattle.std.specs.Map.{lookup, remove_entry}
use Rattle.std.specs.BTreeMap.{is_at}
use Rattle.std.specs.declared.cmp.Ordering.{Ordering}
use Rattle.p2p_flow.specs.declared.update.PeerSetUpdate.{PeerSetUpdate}
use Rattle.p2p_tracker_mailbox.specs.Desk.{with_update, with_set, set_of}
use Rattle.p2p_tracker_mailbox.specs.Mailboxes.{with_desk}
use Rattle.p2p_tracker_mailbox.specs.declared.mailbox.Mailbox.{Mailbox}
use Rattle.p2p_tracker.specs.Telling.{after_put, after_puts, updates_put, sets_put, kill_put, kills_put, without_keys}
use Rattle.p2p_tracker.specs.declared.stepped.Put.{Put}
use Rattle.p2p_tracker.specs.declared.stepped.Put.TheVariants as puts

pub some-told : {X : Type 0} (o : Option X) (Q R : X → Type 0) → ((x : X) → Q x → R x) → IfSome o Q → IfSome o R
some-told None Q R f h = h
some-told (Some x) Q R f h = f x h

left : {X : Type 0} (xs : List X) (i : ℕ) (x : X) → i < length xs → x ≡ get_or xs i x → drop i xs ≡ x ∷ drop (i + 1) xs
left xs i x h e = drop-cons xs i x h ∙ (ap (λ y. y ∷ drop (suc i) xs) (sym e) ∙ ap (λ n. x ∷ drop n xs) (sym (add-one i)))

-- keys that are killed one after another
module _ {P : Type 0} (cmp : P → P → Ordering) (ks : List P) (i : ℕ) (k : P) (cs ds : List (P × ℕ)) (h : i < length ks) (e : k ≡ get_or ks i k) (r : ds ≡ remove_entry (is_at (cmp k)) cs) where
  pub kills-next : (put more all : List (Put P)) → more ≡ put ++ kill_put k (lookup (is_at (cmp k)) cs)
      → put ++ kills_put cmp cs (drop i ks) ≡ all → more ++ kills_put cmp ds (drop (i + 1) ks) ≡ all
  kills-next put more all m so_far =
      ap (λ xs. xs ++ kills_put cmp ds (drop (i + 1) ks)) m
      ∙ (append_assoc put (kill_put k (lookup (is_at (cmp k)) cs)) (kills_put cmp ds (drop (i + 1) ks))
      ∙ (ap (λ es. put ++ (kill_put k (lookup (is_at (cmp k)) cs) ++ kills_put cmp es (drop (i + 1) ks))) r
      ∙ (ap (λ xs. put ++ kills_put cmp cs xs) (sym (left ks i k h e)) ∙ so_far)))

  pub without-next : (all : List (P × ℕ)) → without_keys cmp cs (drop i ks) ≡ all → without_keys cmp ds (drop (i + 1) ks) ≡ all
  without-next all so_far = ap (λ es. without_keys cmp es (drop (i + 1) ks)) r ∙ (ap (without_keys cmp cs) (sym (left ks i k h e)) ∙ so_far)

next-ticket : (ts : List ℕ) (i t : ℕ) → i < length ts → t ≡ get_or ts i 0 → drop i ts ≡ t ∷ drop (i + 1) ts
next-ticket ts i t h e = drop-cons ts i 0 h ∙ (ap (λ n. n ∷ drop (suc i) ts) (sym e) ∙ ap (λ n. t ∷ drop n ts) (sym (add-one i)))

-- subscriptions that are told one after another
module _ {P : Type 0} (ts : List ℕ) (i t : ℕ) (h : i < length ts) (e : t ≡ get_or ts i 0) where
  pub updates-next : (u : PeerSetUpdate P) (put more all : List (Put P)) → more ≡ put ++ puts.Update t u ∷ [] → put ++ updates_put (drop i ts) u ≡ all → more ++ updates_put (drop (i + 1) ts) u ≡ all
  updates-next u put more all m so_far =
      ap (λ xs. xs ++ updates_put (drop (i + 1) ts) u) m
      ∙ (append_assoc put (puts.Update t u ∷ []) (updates_put (drop (i + 1) ts) u) ∙ (ap (λ xs. put ++ updates_put xs u) (sym (next-ticket ts i t h e)) ∙ so_far))

  pub after_updates-next : (u : PeerSetUpdate P) (d after all : Mailbox P) → after ≡ with_desk d (with_update d.desk t u) → after_puts (updates_put (drop i ts) u) d ≡ all → after_puts (updates_put (drop (i + 1) ts) u) after ≡ all
  after_updates-next u d after all w so_far =
      ap (λ (x : Mailbox P). after_puts (updates_put (drop (i + 1) ts) u) x) w ∙ (ap (λ xs. after_puts (updates_put xs u) d) (sym (next-ticket ts i t h e)) ∙ so_far)

  pub sets-next : (blocked : List P) (d after : Mailbox P) (put more all : List (Put P)) → after ≡ with_desk d (with_set d.desk t blocked) → more ≡ put ++ puts.Blocked t blocked (set_of d.desk t) ∷ []
      → put ++ sets_put d.desk.sets (drop i ts) blocked ≡ all → more ++ sets_put after.desk.sets (drop (i + 1) ts) blocked ≡ all
  sets-next blocked d after put more all w m so_far =
      ap (λ xs. xs ++ sets_put after.desk.sets (drop (i + 1) ts) blocked) m
      ∙ (append_assoc put (puts.Blocked t blocked (set_of d.desk t) ∷ []) (sets_put after.desk.sets (drop (i + 1) ts) blocked)
      ∙ (ap (λ (x : Mailbox P). put ++ puts.Blocked t blocked (set_of d.desk t) ∷ sets_put x.desk.sets (drop (i + 1) ts) blocked) w
      ∙ (ap (λ xs. put ++ sets_put d.desk.sets xs blocked) (sym (next-ticket ts i t h e)) ∙ so_far)))

  pub after_sets-next : (blocked : List P) (d after all : Mailbox P) → after ≡ with_desk d (with_set d.desk t blocked) → after_puts (sets_put d.desk.sets (drop i ts) blocked) d ≡ all
      → after_puts (sets_put after.desk.sets (drop (i + 1) ts) blocked) after ≡ all
  after_sets-next blocked d after all w so_far =
      ap (λ (x : Mailbox P). after_puts (sets_put x.desk.sets (drop (i + 1) ts) blocked) x) w ∙ (ap (λ xs. after_puts (sets_put d.desk.sets xs blocked) d) (sym (next-ticket ts i t h e)) ∙ so_far)

module _ {P : Type 0} where
  -- what is put in two parts
  pub after_puts-append : (ps qs : List (Put P)) (d : Mailbox P) → after_puts (ps ++ qs) d ≡ after_puts qs (after_puts ps d)
  after_puts-append [] qs d = refl
  after_puts-append (p ∷ ps) qs d = after_puts-append ps qs (after_put p d)

  pub after_puts-kill : (k : P) (o : Option ℕ) (d : Mailbox P) → after_puts (kill_put k o) d ≡ d
  after_puts-kill k None d = refl
  after_puts-kill k (Some conn) d = refl

  -- kills change no mailbox
  pub after_puts-kills : (cmp : P → P → Ordering) (ks : List P) (cs : List (P × ℕ)) (d : Mailbox P) → after_puts (kills_put cmp cs ks) d ≡ d
  after_puts-kills cmp [] cs d = refl
  after_puts-kills cmp (k ∷ ks) cs d =
      after_puts-append (kill_put k (lookup (is_at (cmp k)) cs)) (kills_put cmp (remove_entry (is_at (cmp k)) cs) ks) d
      ∙ (ap (λ (x : Mailbox P). after_puts (kills_put cmp (remove_entry (is_at (cmp k)) cs) ks) x) (after_puts-kill k (lookup (is_at (cmp k)) cs) d)
      ∙ after_puts-kills cmp ks (remove_entry (is_at (cmp k)) cs) d)
