-- What a plain directory stands for after one more call.
use Rattle.std.proofs.Common.{◌≡◌, ℕ, Bool, true, false, cond, ◌&&◌, ◌||◌, not, List, [], ◌∷◌, Option, Some, None, refl, sym, ap, subst, ◌∙◌}
use Rattle.std.proofs.lemmas.Bool.{false≢true}
use Rattle.std.specs.Prelude.{is_some}
use Rattle.std.specs.Map.{lookup}
use Rattle.std.specs.BTreeMap.{is_at}
use Rattle.std.specs.declared.cmp.Ordering.{Ordering}
use Rattle.p2p_discovery.specs.declared.info.Info.{Info}
use Rattle.p2p_tracker_calls.specs.Blocks.{is_local}
use Rattle.p2p_tracker_calls.specs.Lives.{is_alive, address_of, is_stale}
use Rattle.p2p_tracker_calls.specs.Rules.{Rules}
use Rattle.p2p_tracker_directory.specs.Stands.{Kept, StandsFor}
use Rattle.p2p_discovery_directory.specs.declared.call.Call.{Call}
use Rattle.p2p_discovery_directory.specs.declared.call.Call.TheVariants as call
use Rattle.p2p_discovery_directory.specs.AsLookup.{lookup_calls}
use Rattle.p2p_discovery_directory.specs.Infos.{told_by, info_of}
use Rattle.p2p_discovery_directory.specs.Plain.{Plain, info_in, info_at, Represents, IsPlain}
use Rattle.p2p_discovery_directory.proofs.Keeping.{forgotten-with, own-is-kept}
use Rattle.p2p_discovery_directory.proofs.Living.{is_quiet, alive-quiet}
use Rattle.p2p_discovery_directory.proofs.Unstale.{stale-after, unheld_without}

-- a directory by what it keeps
abbrev pub plain_of : {P : Type 0} → Kept P → Info P → List (P × Option (Info P)) → Plain P
plain_of peers own places = record { peers = peers; own = own; places = places }

told_quiet : {P : Type 0} (cmp : P → P → Ordering) (c : Call P) → is_quiet c ≡ true → (q : P) (o : Option (Info P)) → told_by cmp c q o ≡ o
told_quiet cmp (call.Track index primary secondary) e q o = refl
told_quiet cmp (call.Block p at) e q o = refl
told_quiet cmp (call.UnblockExpired at) e q o = refl
told_quiet cmp (call.Dial p at jitter granted) e q o = refl
told_quiet cmp (call.Listen p at jitter granted) e q o = refl
told_quiet cmp (call.Connect p) e q o = refl
told_quiet cmp (call.Release p) e q o = refl
told_quiet cmp (call.UpdatePeers infos) e q o = absurd (false≢true e)

-- of whom there is no record nothing is kept
while_alive : {X : Type 0} (alive : Bool) (o : Option X) → (alive ≡ false → o ≡ None) → o ≡ cond alive o None
while_alive true o h = refl
while_alive false o h = h refl

module _ {P : Type 0} {cmp : P → P → Ordering} {peers : Kept P} {own : Info P} {before : List (P × Option (Info P))} (calls : List (Call P)) (s : Represents cmp (plain_of peers own before) calls) where
  -- what is kept of another key
  kept-of : (q : P) → is_local cmp peers.rules q ≡ false → info_in (lookup (is_at (cmp q)) before) ≡ info_of cmp peers.rules own calls q
  kept-of q other = ap (λ b. cond b (Some own) (info_in (lookup (is_at (cmp q)) before))) (sym other) ∙ s.infos q

  -- where no record is nothing is kept
  pub gone-of : (q : P) → is_local cmp peers.rules q ≡ false → is_alive cmp peers.rules (lookup_calls calls) q ≡ false → info_in (lookup (is_at (cmp q)) before) ≡ None
  gone-of q other dead = kept-of q other ∙ forgotten-with cmp peers.rules own calls q other dead

  -- what is kept then, by the calls with one more
  info-after : (places : List (P × Option (Info P))) (c : Call P)
      → ((q : P) → is_local cmp peers.rules q ≡ false → info_in (lookup (is_at (cmp q)) places) ≡ cond (is_alive cmp peers.rules (lookup_calls (c ∷ calls)) q) (told_by cmp c q (info_in (lookup (is_at (cmp q)) before))) None)
      → (q : P) (local : Bool) → is_local cmp peers.rules q ≡ local → cond (is_local cmp peers.rules q) (Some own) (info_in (lookup (is_at (cmp q)) places)) ≡ info_of cmp peers.rules own (c ∷ calls) q
  unfolding info_of
  info-after places c h q true local = rw local refl
  info-after places c h q false other =
      let alive = is_alive cmp peers.rules (lookup_calls (c ∷ calls)) q in
      let told : cond alive (told_by cmp c q (info_in (lookup (is_at (cmp q)) before))) None ≡ cond alive (told_by cmp c q (info_of cmp peers.rules own calls q)) None =
      ap (λ o. cond alive (told_by cmp c q o) None) (kept-of q other) in
      rw other (h q other ∙ told)

module _ {P : Type 0} {cmp : P → P → Ordering} {peers after : Kept P} {own : Info P} {before : List (P × Option (Info P))} (e : after.rules ≡ peers.rules) (calls : List (Call P))
    (s : Represents cmp (plain_of peers own before) calls) where
  -- it stands for the calls with one more, where it keeps what it is told, of those of whom it has a record then
  pub represents-after : (places : List (P × Option (Info P))) (c : Call P)
      → ((q : P) → is_local cmp peers.rules q ≡ false → info_in (lookup (is_at (cmp q)) places) ≡ cond (is_alive cmp peers.rules (lookup_calls (c ∷ calls)) q) (told_by cmp c q (info_in (lookup (is_at (cmp q)) before))) None)
      → StandsFor cmp after (lookup_calls (c ∷ calls)) → Represents cmp (plain_of after own places) (c ∷ calls)
  represents-after places c h t = record {
    peers = t;
    infos = λ q. subst (λ r. cond (is_local cmp r q) (Some own) (info_in (lookup (is_at (cmp q)) places)) ≡ info_of cmp r own (c ∷ calls) q) (sym e) (info-after calls s places c h q (is_local cmp peers.rules q) refl);
  }

  -- after a call that tells of no info, with the same places
  pub represents-quiet : (c : Call P) → is_quiet c ≡ true → StandsFor cmp after (lookup_calls (c ∷ calls)) → Represents cmp (plain_of after own before) (c ∷ calls)
  represents-quiet c quiet t =
      represents-after before c
      (λ q other.
      let alive = is_alive cmp peers.rules (lookup_calls (c ∷ calls)) q in
      let o = info_in (lookup (is_at (cmp q)) before) in
      while_alive alive o (λ dead. gone-of calls s q other (sym (alive-quiet e calls s.peers q other c quiet t) ∙ dead))
      ∙ ap (λ x. cond alive x None) (sym (told_quiet cmp c quiet q o))) t

  -- with other places that keep the same, and no call more
  pub represents-same : (places : List (P × Option (Info P))) → ((q : P) → is_local cmp peers.rules q ≡ false → info_in (lookup (is_at (cmp q)) places) ≡ info_in (lookup (is_at (cmp q)) before))
      → StandsFor cmp after (lookup_calls calls) → Represents cmp (plain_of after own places) calls
  represents-same places same t = record {
    peers = t;
    infos = λ q. subst (λ r. cond (is_local cmp r q) (Some own) (info_in (lookup (is_at (cmp q)) places)) ≡ info_of cmp r own calls q) (sym e) (as_before q (is_local cmp peers.rules q) refl);
  }
    where
      as_before : (q : P) (local : Bool) → is_local cmp peers.rules q ≡ local → cond (is_local cmp peers.rules q) (Some own) (info_in (lookup (is_at (cmp q)) places)) ≡ info_of cmp peers.rules own calls q
      as_before q true local = rw local (sym (own-is-kept cmp peers.rules own calls q local))
      as_before q false other = rw other (same q other ∙ kept-of calls s q other)

other-too : {P : Type 0} (cmp : P → P → Ordering) {a b : Rules P} → a ≡ b → (q : P) → is_local cmp a q ≡ false → is_local cmp b q ≡ false
other-too cmp e q other = ap (λ r. is_local cmp r q) (sym e) ∙ other

module _ {P : Type 0} {cmp : P → P → Ordering} {peers after : Kept P} {own : Info P} {before : List (P × Option (Info P))} (i : IsPlain cmp (plain_of peers own before)) (e : after.rules ≡ peers.rules) where
  -- what holds of a plain directory holds after one more call, if its places are those of whom it has a record then
  pub plain-after : (places : List (P × Option (Info P))) (c : Call P) → Represents cmp (plain_of after own places) (c ∷ i.calls)
      → ((q : P) → is_local cmp peers.rules q ≡ false → is_some (lookup (is_at (cmp q)) places) ≡ is_alive cmp peers.rules (lookup_calls (c ∷ i.calls)) q) → IsPlain cmp (plain_of after own places)
  plain-after places c s placed = record {
    calls = c ∷ i.calls;
    stands = s;
    placed = λ q other. placed q (other-too cmp e q other) ∙ ap (λ r. is_alive cmp r (lookup_calls (c ∷ i.calls)) q) (sym e);
    unstale = λ q other.
        ap (λ r. is_stale cmp r (lookup_calls (c ∷ i.calls)) q) e
        ∙ stale-after cmp peers.rules i.calls q c (unheld_without (lookup_calls i.calls) i.stands.peers q (other-too cmp e q other)) (i.unstale q (other-too cmp e q other));
    untested = ap (λ r. r.bypass) e ∙ i.untested;
  }

  -- after a call that tells of no info and ends no record
  pub plain-quiet : (c : Call P) → is_quiet c ≡ true → StandsFor cmp after (lookup_calls (c ∷ i.calls)) → IsPlain cmp (plain_of after own before)
  plain-quiet c quiet t =
      plain-after before c (represents-quiet e i.calls i.stands c quiet t) (λ q other. i.placed q other ∙ sym (alive-quiet e i.calls i.stands.peers q other c quiet t))

  -- where there was no memory for a call
  pub plain-same : (places : List (P × Option (Info P))) → Represents cmp (plain_of after own places) i.calls
      → ((q : P) → is_local cmp peers.rules q ≡ false → is_some (lookup (is_at (cmp q)) places) ≡ is_some (lookup (is_at (cmp q)) before)) → IsPlain cmp (plain_of after own places)
  plain-same places s same = record {
    calls = i.calls;
    stands = s;
    placed = λ q other. same q (other-too cmp e q other) ∙ (i.placed q (other-too cmp e q other) ∙ ap (λ r. is_alive cmp r (lookup_calls i.calls) q) (sym e));
    unstale = λ q other. ap (λ r. is_stale cmp r (lookup_calls i.calls) q) e ∙ i.unstale q (other-too cmp e q other);
    untested = ap (λ r. r.bypass) e ∙ i.untested;
  }

-- a directory that was just made
pub represents-first : {P : Type 0} {cmp : P → P → Ordering} (peers : Kept P) (own : Info P) → StandsFor cmp peers [] → Represents cmp (plain_of peers own []) []
unfolding lookup_calls info_of
represents-first peers own s = record { peers = s; infos = λ q. refl }

pub plain-first : {P : Type 0} {cmp : P → P → Ordering} (peers : Kept P) (own : Info P) → StandsFor cmp peers [] → peers.rules.bypass ≡ true → IsPlain cmp (plain_of peers own [])
unfolding lookup_calls is_stale address_of
plain-first peers own s e = record {
  calls = [];
  stands = represents-first peers own s;
  placed = λ q other. sym (s.addressed q other);
  unstale = λ q other. refl;
  untested = e;
}
