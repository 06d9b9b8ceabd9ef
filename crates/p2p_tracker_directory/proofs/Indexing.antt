-- What a change to one record keeps of an index.
use Rattle.std.proofs.Common.{◌≡◌, ℕ, Bool, true, false, cond, List, [], ◌∷◌, Option, Some, None, refl, sym, ap, ◌∙◌, subst}
use Rattle.std.proofs.lemmas.Bool.{false≢true}
use Rattle.std.proofs.lemmas.Cmp.{eq_by_cmp_equiv, nat_cmp_total}
use Rattle.std.specs.Prelude.{is_some}
use Rattle.std.specs.Cmp.{IsTotalOrder}
use Rattle.std.specs.Option.{option_map}
use Rattle.std.specs.Ordering.{nat_cmp}
use Rattle.std.specs.List.Sorted.{IsStrictlySortedBy}
use Rattle.std.specs.Map.{lookup}
use Rattle.std.specs.BTreeMap.{is_at}
use Rattle.std.specs.BTreeSet.{insert_key}
use Rattle.std.specs.declared.cmp.Ordering.{Ordering}
use Rattle.p2p_address.specs.contracts.ip.IpAddrOrd.TheImpl.{ghosts}
use Rattle.p2p_address.specs.declared.ip.IpAddr.{IpAddr}
use Rattle.p2p_tracker_directory.specs.Placed.{by_place, without, moved}
use Rattle.p2p_tracker_directory.specs.Recorded.{Recorded, fresh, connected, written}
use Rattle.p2p_tracker_directory.specs.Tracked.{nowhere, blanked}
use Rattle.p2p_tracker_directory.specs.Indexed.{source_of, source_in, due_of, due_in, Placed, Indexes, Enters, Stays, Follows}
use Rattle.p2p_tracker_directory.specs.declared.directory.index.Index.{Index}
use Rattle.p2p_tracker_directory.specs.declared.record.Address.{Address}
use Rattle.p2p_tracker_directory.specs.declared.record.Address.TheVariants as address
use Rattle.p2p_tracker_directory.proofs.Addresses.{ip_total}
use Rattle.p2p_tracker_directory.proofs.AddressCounts.{derived}
use Rattle.p2p_tracker_directory.proofs.Placing.{placed-moved, placed-left, placed-entered, placed-same}
use Rattle.p2p_tracker_directory.proofs.Written.{lookup_same, lookup-written}

pub derived_total : IsTotalOrder ghosts.cmp
derived_total = subst IsTotalOrder (sym derived) ip_total

-- a key's place is told by whether it has a record, and by what is found
source-place : (r : Option Recorded) → option_map source_of r ≡ cond (is_some r) (Some (source_in r)) None
source-place None = refl
source-place (Some r) = refl

due-place : (r : Option Recorded) (private dns : Bool) → option_map (λ x. due_of x private dns) r ≡ cond (is_some r) (Some (due_in r private dns)) None
due-place None private dns = refl
due-place (Some r) private dns = refl

pub no_record : {X : Type 0} (r : Option X) → is_some r ≡ false → r ≡ None
no_record None h = refl
no_record (Some x) h = absurd (false≢true (sym h))

module _ {P : Type 0} {cmp : P → P → Ordering} (o : IsTotalOrder cmp) where
  -- a key's tie with another is that of an equal key
  pub tie_same : (p k q : P) → is_at (cmp k) q ≡ true → is_at (cmp p) k ≡ is_at (cmp p) q
  tie_same p k q e =
      (eq_by_cmp_equiv o).symm p k ∙ ((eq_by_cmp_equiv o).congr k q p e ∙ (eq_by_cmp_equiv o).symm q p)

  module _ (p : P) (es : List (P × Recorded)) where
    source-at : (source : Option IpAddr) → source ≡ source_in (lookup (is_at (cmp p)) es) → (there : Bool) → is_some (lookup (is_at (cmp p)) es) ≡ there
        → (k : P) → is_at (cmp p) k ≡ true → option_map source_of (lookup (is_at (cmp k)) es) ≡ cond there (Some source) None
    source-at source s there t k h =
        ap (option_map source_of) (sym (lookup_same o p k es h))
        ∙ (source-place (lookup (is_at (cmp p)) es) ∙ (ap (λ b. cond b (Some (source_in (lookup (is_at (cmp p)) es))) None) t ∙ ap (λ x. cond there (Some x) None) (sym s)))

    due-at : (private dns : Bool) (due : Option ℕ) → due ≡ due_in (lookup (is_at (cmp p)) es) private dns → (there : Bool) → is_some (lookup (is_at (cmp p)) es) ≡ there
        → (k : P) → is_at (cmp p) k ≡ true → option_map (λ x. due_of x private dns) (lookup (is_at (cmp k)) es) ≡ cond there (Some due) None
    due-at private dns due s there t k h =
        ap (option_map (λ x. due_of x private dns)) (sym (lookup_same o p k es h))
        ∙ (due-place (lookup (is_at (cmp p)) es) private dns
        ∙ (ap (λ b. cond b (Some (due_in (lookup (is_at (cmp p)) es) private dns)) None) t ∙ ap (λ x. cond there (Some x) None) (sym s)))

  module _ (p : P) (old new : Index P) (private_is : new.private ≡ old.private) (dns_is : new.dns ≡ old.dns) where
    by_rules : (rows : List (Option ℕ × P)) (es : List (P × Recorded)) → Placed nat_cmp cmp rows (λ q. option_map (λ r. due_of r old.private old.dns) (lookup (is_at (cmp q)) es))
        → Placed nat_cmp cmp rows (λ q. option_map (λ r. due_of r new.private new.dns) (lookup (is_at (cmp q)) es))
    by_rules rows es placed =
        subst (λ a. Placed nat_cmp cmp rows (λ q. option_map (λ r. due_of r a new.dns) (lookup (is_at (cmp q)) es))) (sym private_is)
        (subst (λ b. Placed nat_cmp cmp rows (λ q. option_map (λ r. due_of r old.private b) (lookup (is_at (cmp q)) es))) (sym dns_is) placed)

    module _ (es : List (P × Recorded)) (source : Option IpAddr) (due : Option ℕ) where
      -- a key that has a record yet is moved to where that is now
      pub followed : is_some (lookup (is_at (cmp p)) es) ≡ true → (to : Option IpAddr) → to ≡ source_in (lookup (is_at (cmp p)) es)
          → (at : Option ℕ) → at ≡ due_in (lookup (is_at (cmp p)) es) old.private old.dns
          → new.sources ≡ moved ghosts.cmp cmp (source, p) (to, p) old.sources → new.queue ≡ moved nat_cmp cmp (due, p) (at, p) old.queue
          → Follows cmp old new es p source due
      followed there to to_is at at_is s q = λ before source_is due_is others was i. record {
        sources = subst (λ rows. Placed ghosts.cmp cmp rows (λ k. option_map source_of (lookup (is_at (cmp k)) es))) (sym s)
            (placed-moved derived_total o p old.sources (λ k. option_map source_of (lookup (is_at (cmp k)) before)) (λ k. option_map source_of (lookup (is_at (cmp k)) es)) i.sources source to true
            (source-at p before source source_is true (was there)) (source-at p es to to_is true there) (λ k h. ap (option_map source_of) (others k h)));
        queue = by_rules new.queue es
            (subst (λ rows. Placed nat_cmp cmp rows (λ k. option_map (λ r. due_of r old.private old.dns) (lookup (is_at (cmp k)) es))) (sym q)
            (placed-moved nat_cmp_total o p old.queue (λ k. option_map (λ r. due_of r old.private old.dns) (lookup (is_at (cmp k)) before))
            (λ k. option_map (λ r. due_of r old.private old.dns) (lookup (is_at (cmp k)) es)) i.queue due at true
            (due-at p before old.private old.dns due due_is true (was there)) (due-at p es old.private old.dns at at_is true there)
            (λ k h. ap (option_map (λ r. due_of r old.private old.dns)) (others k h))));
      }

      -- one that has none any longer is taken out
      pub left-out : is_some (lookup (is_at (cmp p)) es) ≡ false
          → new.sources ≡ without ghosts.cmp cmp (source, p) old.sources → new.queue ≡ without nat_cmp cmp (due, p) old.queue
          → Follows cmp old new es p source due
      left-out gone s q = λ before source_is due_is others was i.
          let there = is_some (lookup (is_at (cmp p)) before) in
          let none : (k : P) → is_at (cmp p) k ≡ true → lookup (is_at (cmp k)) es ≡ None = λ k h. sym (lookup_same o p k es h) ∙ no_record (lookup (is_at (cmp p)) es) gone in
          record {
            sources = subst (λ rows. Placed ghosts.cmp cmp rows (λ k. option_map source_of (lookup (is_at (cmp k)) es))) (sym s)
                (placed-left derived_total o p old.sources (λ k. option_map source_of (lookup (is_at (cmp k)) before)) (λ k. option_map source_of (lookup (is_at (cmp k)) es)) i.sources source there
                (source-at p before source source_is there refl) (λ k h. ap (option_map source_of) (none k h)) (λ k h. ap (option_map source_of) (others k h)));
            queue = by_rules new.queue es
                (subst (λ rows. Placed nat_cmp cmp rows (λ k. option_map (λ r. due_of r old.private old.dns) (lookup (is_at (cmp k)) es))) (sym q)
                (placed-left nat_cmp_total o p old.queue (λ k. option_map (λ r. due_of r old.private old.dns) (lookup (is_at (cmp k)) before))
                (λ k. option_map (λ r. due_of r old.private old.dns) (lookup (is_at (cmp k)) es)) i.queue due there
                (due-at p before old.private old.dns due due_is there refl) (λ k h. ap (option_map (λ r. due_of r old.private old.dns)) (none k h))
                (λ k h. ap (option_map (λ r. due_of r old.private old.dns)) (others k h))));
          }

    blank_source : (b : Bool) (r : Option Recorded) → b ≡ true → r ≡ None → option_map source_of (blanked b r) ≡ Some None
    blank_source true None h e = refl
    blank_source true (Some r) h e = absurd (false≢true (sym (ap is_some e)))
    blank_source false r h e = absurd (false≢true h)

    unblanked : (b : Bool) (r : Option Recorded) → b ≡ false → blanked b r ≡ r
    unblanked true r h = absurd (false≢true (sym h))
    unblanked false None h = refl
    unblanked false (Some r) h = refl

    new_source : (b : Bool) (r : Recorded) (x : Option Recorded) → b ≡ true → source_of r ≡ None → option_map source_of (cond b (Some r) x) ≡ Some None
    new_source true r x h e = ap (λ s. Some s) e
    new_source false r x h e = absurd (false≢true h)

    new_due : (b : Bool) (r : Recorded) (x : Option Recorded) (y z : Bool) → b ≡ true → due_of r y z ≡ None → option_map (λ s. due_of s y z) (cond b (Some r) x) ≡ Some None
    new_due true r x y z h e = ap (λ s. Some s) e
    new_due false r x y z h e = absurd (false≢true h)

    pub entered : new.sources ≡ insert_key (by_place ghosts.cmp cmp) old.sources (None, p) → new.queue ≡ insert_key (by_place nat_cmp cmp) old.queue (None, p) → Enters cmp old new p
    entered s q = λ before after r none source due is i.
        let was : (k : P) → is_at (cmp p) k ≡ true → lookup (is_at (cmp k)) before ≡ None = λ k h. sym (lookup_same o p k before h) ∙ none in
        let others : (k : P) → is_at (cmp p) k ≡ false → lookup (is_at (cmp k)) after ≡ lookup (is_at (cmp k)) before =
        λ k h. is k ∙ ap (λ b. cond b (Some r) (lookup (is_at (cmp k)) before)) h in
        record {
          sources = subst (λ rows. Placed ghosts.cmp cmp rows (λ k. option_map source_of (lookup (is_at (cmp k)) after))) (sym s)
              (placed-entered derived_total o p old.sources (λ k. option_map source_of (lookup (is_at (cmp k)) before)) (λ k. option_map source_of (lookup (is_at (cmp k)) after)) i.sources
              (λ k h. ap (option_map source_of) (was k h)) (λ k h. ap (option_map source_of) (is k) ∙ new_source (is_at (cmp p) k) r (lookup (is_at (cmp k)) before) h source)
              (λ k h. ap (option_map source_of) (others k h)));
          queue = by_rules new.queue after
              (subst (λ rows. Placed nat_cmp cmp rows (λ k. option_map (λ x. due_of x old.private old.dns) (lookup (is_at (cmp k)) after))) (sym q)
              (placed-entered nat_cmp_total o p old.queue (λ k. option_map (λ x. due_of x old.private old.dns) (lookup (is_at (cmp k)) before))
              (λ k. option_map (λ x. due_of x old.private old.dns) (lookup (is_at (cmp k)) after)) i.queue
              (λ k h. ap (option_map (λ x. due_of x old.private old.dns)) (was k h))
              (λ k h. ap (option_map (λ x. due_of x old.private old.dns)) (is k) ∙ new_due (is_at (cmp p) k) r (lookup (is_at (cmp k)) before) old.private old.dns h (due old.private old.dns))
              (λ k h. ap (option_map (λ x. due_of x old.private old.dns)) (others k h))));
        }

    -- what was taken in is let go where the rest of it isn't
    pub stayed : (rows : List (Option IpAddr × P)) → rows ≡ insert_key (by_place ghosts.cmp cmp) old.sources (None, p) → new.sources ≡ without ghosts.cmp cmp (None, p) rows
        → new.queue ≡ old.queue → Stays cmp old new p
    stayed rows r s q = λ es none i.
        let place : P → Option (Option IpAddr) = λ k. option_map source_of (lookup (is_at (cmp k)) es) in
        let more : P → Option (Option IpAddr) = λ k. option_map source_of (blanked (is_at (cmp p) k) (lookup (is_at (cmp k)) es)) in
        let was : (k : P) → is_at (cmp p) k ≡ true → lookup (is_at (cmp k)) es ≡ None = λ k h. sym (lookup_same o p k es h) ∙ none in
        let grown : Placed ghosts.cmp cmp rows more = subst (λ x. Placed ghosts.cmp cmp x more) (sym r)
        (placed-entered derived_total o p old.sources place more i.sources (λ k h. ap (option_map source_of) (was k h))
        (λ k h. blank_source (is_at (cmp p) k) (lookup (is_at (cmp k)) es) h (was k h))
        (λ k h. ap (option_map source_of) (unblanked (is_at (cmp p) k) (lookup (is_at (cmp k)) es) h))) in
        record {
          sources = subst (λ x. Placed ghosts.cmp cmp x place) (sym s)
              (placed-left derived_total o p rows more place grown None true (λ k h. blank_source (is_at (cmp p) k) (lookup (is_at (cmp k)) es) h (was k h))
              (λ k h. ap (option_map source_of) (was k h)) (λ k h. ap (option_map source_of) (sym (unblanked (is_at (cmp p) k) (lookup (is_at (cmp k)) es) h))));
          queue = by_rules new.queue es (subst (λ x. Placed nat_cmp cmp x (λ k. option_map (λ c. due_of c old.private old.dns) (lookup (is_at (cmp k)) es))) (sym q) i.queue);
        }

  pub stays-same : (p : P) (old new : Index P) → new.private ≡ old.private → new.dns ≡ old.dns → new.sources ≡ old.sources → new.queue ≡ old.queue → Stays cmp old new p
  stays-same p old new private_is dns_is s q = λ es none i. record {
    sources = subst (λ rows. Placed ghosts.cmp cmp rows (λ k. option_map source_of (lookup (is_at (cmp k)) es))) (sym s) i.sources;
    queue = by_rules p old new private_is dns_is new.queue es (subst (λ rows. Placed nat_cmp cmp rows (λ k. option_map (λ r. due_of r old.private old.dns) (lookup (is_at (cmp k)) es))) (sym q) i.queue);
  }

  -- an index stays one where each record stands where it stood
  pub standing-same : (es new : List (P × Recorded)) (index : Index P) → ((q : P) → option_map source_of (lookup (is_at (cmp q)) new) ≡ option_map source_of (lookup (is_at (cmp q)) es))
      → ((q : P) (private dns : Bool) → option_map (λ r. due_of r private dns) (lookup (is_at (cmp q)) new) ≡ option_map (λ r. due_of r private dns) (lookup (is_at (cmp q)) es))
      → Indexes cmp index es → Indexes cmp index new
  standing-same es new index h g i = record {
    sources = placed-same index.sources (λ k. option_map source_of (lookup (is_at (cmp k)) es)) (λ k. option_map source_of (lookup (is_at (cmp k)) new)) i.sources h;
    queue = placed-same index.queue (λ k. option_map (λ r. due_of r index.private index.dns) (lookup (is_at (cmp k)) es))
        (λ k. option_map (λ r. due_of r index.private index.dns) (lookup (is_at (cmp k)) new)) i.queue (λ k. g k index.private index.dns);
  }

  some_before : (h : Option Recorded → Option Recorded) → h None ≡ None → (b : Bool) (r : Option Recorded) → is_some (cond b (h r) r) ≡ true → is_some r ≡ true
  some_before h n true None e = sym (ap is_some n) ∙ e
  some_before h n false None e = e
  some_before h n b (Some r) e = refl

  -- an index follows a change to one key's record
  pub follow-changed : (p : P) (old new : Index P) (source : Option IpAddr) (due : Option ℕ) (es after : List (P × Recorded)) (h : Option Recorded → Option Recorded) → h None ≡ None
      → ((q : P) → lookup (is_at (cmp q)) after ≡ cond (is_at (cmp p) q) (h (lookup (is_at (cmp q)) es)) (lookup (is_at (cmp q)) es))
      → Follows cmp old new after p source due → source ≡ source_in (lookup (is_at (cmp p)) es) → due ≡ due_in (lookup (is_at (cmp p)) es) old.private old.dns
      → Indexes cmp old es → Indexes cmp new after
  follow-changed p old new source due es after h n is follows s d i =
      follows es s d (λ q e. is q ∙ ap (λ b. cond b (h (lookup (is_at (cmp q)) es)) (lookup (is_at (cmp q)) es)) e)
      (λ e. some_before h n (is_at (cmp p) p) (lookup (is_at (cmp p)) es) (sym (ap is_some (is p)) ∙ e)) i

  -- the record under one key is written anew
  pub follow-written : (p : P) (old new : Index P) (source : Option IpAddr) (due : Option ℕ) (es after : List (P × Recorded)) (f : Recorded → Recorded) → after ≡ written cmp (lookup (is_at (cmp p)) es) es p f
      → Follows cmp old new after p source due → source ≡ source_in (lookup (is_at (cmp p)) es) → due ≡ due_in (lookup (is_at (cmp p)) es) old.private old.dns
      → Indexes cmp old es → Indexes cmp new after
  follow-written p old new source due es after f w =
      follow-changed p old new source due es after (option_map f) refl (λ q. ap (lookup (is_at (cmp q))) w ∙ lookup-written o p q es f)

  connected-place : {X : Type 0} (f : Recorded → X) → ((r : Recorded) → f (connected r) ≡ f r) → (b : Bool) (r : Option Recorded) → option_map f (cond b (option_map connected r) r) ≡ option_map f r
  connected-place f g true None = refl
  connected-place f g true (Some r) = ap (λ x. Some x) (g r)
  connected-place f g false r = refl

  -- a connection that begins moves nothing
  pub still-connected : (p : P) (index : Index P) (es new : List (P × Recorded)) → new ≡ written cmp (lookup (is_at (cmp p)) es) es p connected → Indexes cmp index es → Indexes cmp index new
  still-connected p index es new w i =
      standing-same es new index
      (λ q. ap (option_map source_of) (ap (lookup (is_at (cmp q))) w ∙ lookup-written o p q es connected) ∙ connected-place source_of (λ r. refl) (is_at (cmp p) q) (lookup (is_at (cmp q)) es))
      (λ q private dns. ap (option_map (λ r. due_of r private dns)) (ap (lookup (is_at (cmp q))) w ∙ lookup-written o p q es connected)
      ∙ connected-place (λ r. due_of r private dns) (λ r. refl) (is_at (cmp p) q) (lookup (is_at (cmp q)) es)) i

  -- an index of nothing
  pub indexes-none : (index : Index P) → index.sources ≡ [] → index.queue ≡ [] → Indexes cmp index []
  unfolding IsStrictlySortedBy
  indexes-none index s q = record {
    sources = subst (λ rows. Placed ghosts.cmp cmp rows (λ k. None)) (sym s) (record { each = λ k a. refl; ordered = tt });
    queue = subst (λ rows. Placed nat_cmp cmp rows (λ k. None)) (sym q) (record { each = λ k a. refl; ordered = tt });
  }

blank_as : (b : Bool) (r : Option Recorded) → (b ≡ true → r ≡ None) → blanked b r ≡ cond b (Some (fresh (address.Known nowhere))) r
blank_as true None h = refl
blank_as true (Some r) h = absurd (false≢true (sym (ap is_some (h refl))))
blank_as false None h = refl
blank_as false (Some r) h = refl

-- a blank record has no place
blank-source : (a : Address) → source_of (fresh a) ≡ None
blank-source address.Myself = refl
blank-source (address.Known a) = refl

blank_kept : (b : Bool) (r : Option Recorded) → (b ≡ true → is_some r ≡ true) → r ≡ blanked b r
blank_kept true None h = absurd (false≢true (h refl))
blank_kept false None h = refl
blank_kept b (Some r) h = refl

module _ {P : Type 0} {cmp : P → P → Ordering} (o : IsTotalOrder cmp) (p : P) (es : List (P × Recorded)) where
  -- a key that has a record needs no blank one
  pub none-blanked : is_some (lookup (is_at (cmp p)) es) ≡ true → (q : P) → lookup (is_at (cmp q)) es ≡ blanked (is_at (cmp p) q) (lookup (is_at (cmp q)) es)
  none-blanked h q = blank_kept (is_at (cmp p) q) (lookup (is_at (cmp q)) es) (λ e. ap is_some (sym (lookup_same o p q es e)) ∙ h)

  -- one that has none gets it
  pub made-blank : lookup (is_at (cmp p)) es ≡ None → (after : List (P × Recorded))
      → ((q : P) → lookup (is_at (cmp q)) after ≡ cond (is_at (cmp p) q) (Some (fresh (address.Known nowhere))) (lookup (is_at (cmp q)) es))
      → (q : P) → lookup (is_at (cmp q)) after ≡ blanked (is_at (cmp p) q) (lookup (is_at (cmp q)) es)
  made-blank none after is q = is q ∙ sym (blank_as (is_at (cmp p) q) (lookup (is_at (cmp q)) es) (λ e. sym (lookup_same o p q es e) ∙ none))

  module _ (none : lookup (is_at (cmp p)) es ≡ None) (old new : Index P) (enters : Enters cmp old new p) (i : Indexes cmp old es) where
    -- the index once its record is made
    pub still-blank : (a : Address) (after : List (P × Recorded)) → ((q : P) → lookup (is_at (cmp q)) after ≡ cond (is_at (cmp p) q) (Some (fresh a)) (lookup (is_at (cmp q)) es)) → Indexes cmp new after
    still-blank a after is = enters es after (fresh a) none (blank-source a) (λ x y. refl) is i

    -- and where it isn't
    pub never-blank : (last : Index P) → Follows cmp new last es p None None → Indexes cmp last es
    never-blank last follows =
        let with : List (P × Recorded) = (p, fresh (address.Known nowhere)) ∷ es in
        let found : (q : P) → lookup (is_at (cmp q)) with ≡ cond (is_at (cmp p) q) (Some (fresh (address.Known nowhere))) (lookup (is_at (cmp q)) es) = λ q. ap (λ b. cond b (Some (fresh (address.Known nowhere))) (lookup (is_at (cmp q)) es)) ((eq_by_cmp_equiv o).symm q p) in
        let own = found p ∙ ap (λ b. cond b (Some (fresh (address.Known nowhere))) (lookup (is_at (cmp p)) es)) ((eq_by_cmp_equiv o).refl p) in
        follows with (sym (ap source_in own)) (sym (ap (λ r. due_in r new.private new.dns) own))
        (λ q h. sym (found q ∙ ap (λ b. cond b (Some (fresh (address.Known nowhere))) (lookup (is_at (cmp q)) es)) h)) (λ e. ap is_some own)
        (enters es with (fresh (address.Known nowhere)) none refl (λ x y. refl) found i)
