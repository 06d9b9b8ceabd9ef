-- What is put in parts, and what that makes of the mailbox.
use Rattle.std.proofs.Common.{◌≡◌, ℕ, Bool, true, false, cond, List, [], ◌∷◌, ◌++◌, Option, Some, None, refl, sym, ap, ◌∙◌}
use Rattle.std.proofs.lemmas.Bool.{false≢true}
use Rattle.std.proofs.lemmas.Cmp.{eq_by_cmp_equiv}
use Rattle.std.specs.Prelude.{is_some, IfSome, slice_index_or, slice_set}
use Rattle.std.specs.Option.{option_map}
use Rattle.std.specs.Cmp.{IsTotalOrder}
use Rattle.std.specs.Ordering.{is_eq}
use Rattle.std.specs.List.{AllByRecursion}
use Rattle.std.specs.List.Sorted.{IsStrictlySortedBy}
use Rattle.std.specs.Map.{lookup, remove_entry}
use Rattle.std.specs.BTreeMap.{is_at}
use Rattle.std.specs.declared.cmp.Ordering.{Ordering}
use Rattle.std.specs.declared.cmp.Ordering.TheVariants.{Less}
use Rattle.p2p_address.specs.Addresses.{ingress_of}
use Rattle.p2p_address.specs.declared.ip.IpAddr.{IpAddr}
use Rattle.p2p_address.specs.declared.peer.Address.{Address}
use Rattle.p2p_address.specs.declared.peer.Ingress.{Ingress}
use Rattle.p2p_tracker_calls.specs.declared.call.Call.{Call}
use Rattle.p2p_tracker_calls.specs.Keeping.{kept_of}
use Rattle.p2p_tracker_calls.specs.Rules.{Rules}
use Rattle.p2p_tracker_directory.specs.declared.metadata.Metadata.{Metadata}
use Rattle.p2p_tracker_directory.specs.declared.metadata.Metadata.TheVariants as side
use Rattle.p2p_tracker_mailbox.specs.Lines.{line_of, replaced}
use Rattle.p2p_tracker_mailbox.specs.Mailboxes.{runs_in, with_item_in}
use Rattle.p2p_tracker_mailbox.specs.declared.answer.HandshakeItem.{HandshakeItem}
use Rattle.p2p_tracker_mailbox.specs.declared.mailbox.Mailbox.{Mailbox}
use Rattle.p2p_tracker_directory.proofs.Walks.{equal_by}
use Rattle.p2p_tracker.specs.Putting.{kills_of}
use Rattle.p2p_tracker.specs.Telling.{after_put, after_puts, sets_put, kill_put, kills_put}
use Rattle.p2p_tracker.specs.declared.stepped.Put.{Put}
use Rattle.p2p_tracker.specs.declared.stepped.Put.TheVariants as puts
use Rattle.p2p_tracker.proofs.Putting.{after_puts-append, after_puts-kill}

pub unless : {X : Type 0} (b : Bool) (x y : X) → b ≡ false → y ≡ cond b x y
unless true x y e = absurd (false≢true (sym e))
unless false x y e = refl

pub when : {X : Type 0} (b : Bool) (x y : X) → b ≡ true → x ≡ cond b x y
when true x y e = refl
when false x y e = absurd (false≢true e)

-- the grant of a dial, and that of a listen, by what is told of it
pub dial-granted : {P : Type 0} (o : Option (Metadata P × Ingress)) (b : Bool) (k : P) (a : Option Address) → is_some o ≡ b → IfSome o (λ g. g.0 ≡ side.Dialer k)
    → IfSome o (λ g. option_map ingress_of a ≡ Some g.1) → o ≡ cond b (option_map (λ x. (side.Dialer k, ingress_of x)) a) None
dial-granted None true k a e h i = absurd (false≢true e)
dial-granted None false k a e h i = refl
dial-granted (Some g) false k a e h i = absurd (false≢true (sym e))
dial-granted (Some g) true k None e h i = absurd (false≢true (ap is_some i))
dial-granted (Some g) true k (Some x) e h i = let same : ingress_of x ≡ g.1 = cc in ap (λ m. Some (m, g.1)) h ∙ ap (λ y. Some (side.Dialer k, y)) (sym same)

pub listen-granted : {P : Type 0} (o : Option (Metadata P)) (b : Bool) (k : P) → is_some o ≡ b → IfSome o (λ g. g ≡ side.Listener k) → o ≡ cond b (Some (side.Listener k)) None
listen-granted None true k e h = absurd (false≢true e)
listen-granted None false k e h = refl
listen-granted (Some g) false k e h = absurd (false≢true (sym e))
listen-granted (Some g) true k e h = ap (λ m. Some m) h

-- what a block tells first, where nothing was put before
pub block-told : {X : Type 0} (b : Bool) (ps sets heard : List X) → ps ≡ [] → cond b ((ps ++ sets) ++ heard) ps ≡ cond b (sets ++ heard) []
block-told true ps sets heard e = ap (λ x. (x ++ sets) ++ heard) e
block-told false ps sets heard e = e

module _ {P : Type 0} where
  -- what is put takes no message
  pub messages-after_puts : (ps : List (Put P)) (m : Mailbox P) → (after_puts ps m).desk.messages ≡ m.desk.messages
  messages-after_puts [] m = refl
  messages-after_puts (p ∷ ps) m = messages-after_puts ps (after_put p m) ∙ one p
    where
      one : (x : Put P) → (after_put x m).desk.messages ≡ m.desk.messages
      one (puts.Kill peer conn) = refl
      one (puts.Listenable ips before) = refl
      one (puts.Update ticket update) = refl
      one (puts.Blocked ticket blocked dropped) = refl
      one (puts.PeerSet ticket peers) = refl
      one (puts.Dialable list) = refl
      one (puts.Dial grant) = refl
      one (puts.Acceptable handshake acceptable) = refl
      one (puts.Listen handshake grant) = refl

  -- what a handshake is answered is put where it runs
  pub item-put : (m : Mailbox P) (h : ℕ) (x : HandshakeItem P) (p : Put P) → after_put p m ≡ with_item_in m h x → with_item_in m h x ≡ after_puts (cond (runs_in m h) (p ∷ []) []) m
  item-put m h x p e = at (line_of m.handshakes h) e
    where
      at : (o : Option (List (HandshakeItem P))) → after_put p m ≡ record m { handshakes = replaced o m.handshakes h (λ line. line ++ x ∷ []) }
          → record m { handshakes = replaced o m.handshakes h (λ line. line ++ x ∷ []) } ≡ after_puts (cond (is_some o) (p ∷ []) []) m
      at None e = refl
      at (Some line) e = sym e

  -- nor does what subscriptions to the blocked keys are told change what the listener was told
  pub heard-after_sets : (ts : List ℕ) (waiting : List (Option (List P))) (s : List P) (m : Mailbox P) → (after_puts (sets_put waiting ts s) m).heard ≡ m.heard
  heard-after_sets [] waiting s m = refl
  heard-after_sets (t ∷ ts) waiting s m = heard-after_sets ts (slice_set waiting t (Some s)) s (after_put (puts.Blocked t s (slice_index_or waiting t None)) m)

  -- kills, then what the listener is told, and then the rest
  pub after-told : (kills rest : List (Put P)) (ips : List IpAddr) (before : Option (List IpAddr)) (m : Mailbox P) → after_puts kills m ≡ m
      → after_puts ((kills ++ puts.Listenable ips before ∷ []) ++ rest) m ≡ after_puts rest (record m { heard = Some ips })
  after-told kills rest ips before m e =
      after_puts-append (kills ++ puts.Listenable ips before ∷ []) rest m
      ∙ ap (λ (x : Mailbox P). after_puts rest x) (after_puts-append kills (puts.Listenable ips before ∷ []) m ∙ ap (λ (x : Mailbox P). record x { heard = Some ips }) e)

  -- the same where the listener is told last, or not at all
  pub after-told_last : (b : Bool) (kills : List (Put P)) (ips : List IpAddr) (before : Option (List IpAddr)) (m : Mailbox P) → after_puts kills m ≡ m
      → cond b (record m { heard = Some ips }) m ≡ after_puts (cond b (kills ++ puts.Listenable ips before ∷ []) kills) m
  after-told_last true kills ips before m e = sym (after_puts-append kills (puts.Listenable ips before ∷ []) m ∙ ap (λ (x : Mailbox P). record x { heard = Some ips }) e)
  after-told_last false kills ips before m e = sym e

  -- a block: the subscriptions, the listener, and the kill
  pub after-blocked : (b : Bool) (sets : List (Put P)) (ips : List IpAddr) (before : Option (List IpAddr)) (k : P) (o : Option ℕ) (m : Mailbox P)
      → cond b (record (after_puts sets m) { heard = Some ips }) m ≡ after_puts (cond b (sets ++ puts.Listenable ips before ∷ []) [] ++ kill_put k o) m
  after-blocked true sets ips before k o m =
      sym (after_puts-append (sets ++ puts.Listenable ips before ∷ []) (kill_put k o) m
      ∙ (after_puts-kill k o (after_puts (sets ++ puts.Listenable ips before ∷ []) m) ∙ after_puts-append sets (puts.Listenable ips before ∷ []) m))
  after-blocked false sets ips before k o m = sym (after_puts-kill k o m)

  -- a kill, or none, behind what was put
  pub after-kill_if : (b : Bool) (k : P) (o : Option ℕ) (ps qs : List (Put P)) (m : Mailbox P) → qs ≡ cond b (ps ++ kill_put k o) ps → after_puts qs m ≡ after_puts ps m
  after-kill_if true k o ps qs m e = ap (λ (xs : List (Put P)). after_puts xs m) e ∙ (after_puts-append ps (kill_put k o) m ∙ after_puts-kill k o (after_puts ps m))
  after-kill_if false k o ps qs m e = ap (λ (xs : List (Put P)). after_puts xs m) e

module _ {P : Type 0} {cmp : P → P → Ordering} (o : IsTotalOrder cmp) where
  less_apart : (k q : P) → cmp k q ≡ Less → is_at (cmp k) q ≡ false
  less_apart k q e = ap is_eq e

  not_alike : (k q x : P) → is_at (cmp k) q ≡ false → is_at (cmp k) x ≡ true → is_at (cmp q) x ≡ false
  not_alike k q x n h = (eq_by_cmp_equiv o).symm q x ∙ (ap is_eq (sym (o.congr k x q (equal_by (cmp k x) h))) ∙ n)

  -- an entry of another key is found still once one is removed
  lookup-other : (k q : P) → is_at (cmp k) q ≡ false → (es : List (P × ℕ)) → lookup (is_at (cmp q)) (remove_entry (is_at (cmp k)) es) ≡ lookup (is_at (cmp q)) es
  lookup-other k q n [] = refl
  lookup-other k q n (e ∷ es) = at (is_at (cmp k) e.0) refl (lookup-other k q n es)
    where
      at : (b : Bool) → is_at (cmp k) e.0 ≡ b → lookup (is_at (cmp q)) (remove_entry (is_at (cmp k)) es) ≡ lookup (is_at (cmp q)) es
          → lookup (is_at (cmp q)) (cond b es (e ∷ remove_entry (is_at (cmp k)) es)) ≡ lookup (is_at (cmp q)) (e ∷ es)
      at false c i = ap (λ r. cond (is_at (cmp q) e.0) (Some e.1) r) i
      at true c i = ap (λ b. cond b (Some e.1) (lookup (is_at (cmp q)) es)) (sym (not_alike k q e.0 n c))

  -- the kills of keys in order are those of the connections that the calls keep
  pub kills-exact : (rules : Rules P) (calls : List (Call P)) (ks : List P) (cs : List (P × ℕ)) → IsStrictlySortedBy cmp ks
      → AllByRecursion (λ q. lookup (is_at (cmp q)) cs ≡ kept_of cmp rules calls q) ks → kills_put cmp cs ks ≡ kills_of cmp rules calls ks
  unfolding IsStrictlySortedBy
  kills-exact rules calls [] cs s h = refl
  kills-exact rules calls (k ∷ ks) cs s h =
      ap (λ (x : Option ℕ). kill_put k x ++ kills_put cmp (remove_entry (is_at (cmp k)) cs) ks) h.0
      ∙ ap (λ (x : List (Put P)). kill_put k (kept_of cmp rules calls k) ++ x) (kills-exact rules calls ks (remove_entry (is_at (cmp k)) cs) s.1 (still ks s.0 h.1))
    where
      still : (qs : List P) → AllByRecursion (λ q. cmp k q ≡ Less) qs → AllByRecursion (λ q. lookup (is_at (cmp q)) cs ≡ kept_of cmp rules calls q) qs
          → AllByRecursion (λ q. lookup (is_at (cmp q)) (remove_entry (is_at (cmp k)) cs) ≡ kept_of cmp rules calls q) qs
      still [] a b = tt
      still (q ∷ qs) a b = (lookup-other k q (less_apart k q a.0) cs ∙ b.0, still qs a.1 b.1)

all-of : {P : Type 0} (Q : P → Type 0) → ((q : P) → Q q) → (ks : List P) → AllByRecursion Q ks
all-of Q h [] = tt
all-of Q h (k ∷ ks) = (h k, all-of Q h ks)

pub kills-kept : {P : Type 0} {cmp : P → P → Ordering} (o : IsTotalOrder cmp) (rules : Rules P) (calls : List (Call P)) (ks : List P) (cs : List (P × ℕ)) → IsStrictlySortedBy cmp ks
    → ((q : P) → lookup (is_at (cmp q)) cs ≡ kept_of cmp rules calls q) → kills_put cmp cs ks ≡ kills_of cmp rules calls ks
kills-kept {cmp = cmp} o rules calls ks cs s h = kills-exact o rules calls ks cs s (all-of (λ q. lookup (is_at (cmp q)) cs ≡ kept_of cmp rules calls q) h ks)
