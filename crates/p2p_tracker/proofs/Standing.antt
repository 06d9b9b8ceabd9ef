-- Which other calls a directory stands for.
use Rattle.std.proofs.Common.{◌≡◌, ℕ, Bool, true, false, cond, ◌&&◌, ◌||◌, not, List, ◌∷◌, Some, None, refl, sym, ap, ◌∙◌, subst}
use Rattle.std.proofs.lemmas.Bool.{false≢true}
use Rattle.std.specs.Option.{option_map}
use Rattle.std.specs.Cmp.{IsTotalOrder}
use Rattle.std.specs.BTreeMap.{is_at}
use Rattle.std.specs.declared.cmp.Ordering.{Ordering}
use Rattle.p2p_tracker_calls.specs.declared.call.Call.{Call}
use Rattle.p2p_tracker_calls.specs.declared.call.Call.TheVariants as call
use Rattle.p2p_address.specs.declared.ip.IpAddr.{IpAddr}
use Rattle.p2p_tracker_calls.specs.Rules.{Rules}
use Rattle.p2p_tracker_calls.specs.Allows.{allows_dial, allows_listen}
use Rattle.p2p_tracker_calls.specs.Sets.{accepted_sets, kept_sets, is_tracked, primary_sets, secondary_sets}
use Rattle.p2p_tracker_calls.specs.Grants.{is_held}
use Rattle.p2p_tracker_calls.specs.Blocks.{is_local, lasts_at, block_of}
use Rattle.p2p_tracker_calls.specs.Lives.{is_alive, address_of, last_grant, is_stale, is_connected, is_eligible, accepts}
use Rattle.p2p_tracker_directory.specs.Recorded.{is_eligible_in}
use Rattle.p2p_tracker_directory.specs.Stands.{Kept, StandsFor, record_of}
use Rattle.p2p_tracker_directory.proofs.Steps.{peer, own, record_of-unblock, addressed-connect}
use Rattle.p2p_tracker_directory.proofs.Reading.{eligible-record}
use Rattle.p2p_tracker_directory.proofs.Written.{lookup_same}

held_by_eligible : (a b stale : Bool) → (a ≡ true → b ≡ true) → (a && (b && not stale)) ≡ (a && not stale)
held_by_eligible true true stale h = refl
held_by_eligible true false stale h = absurd (false≢true (h refl))
held_by_eligible false b stale h = refl

barred : (a b stale : Bool) → (a ≡ true → b ≡ false) → (a && (b && not stale)) ≡ false
barred true true stale h = absurd (false≢true (sym (h refl)))
barred true false stale h = refl
barred false b stale h = refl

module _ {P : Type 0} (cmp : P → P → Ordering) (rules : Rules P) (calls : List (Call P)) (q : P) where
  -- a connection's moment matters only to whether it is accepted
  record_of-moment : (p : P) (t conn : ℕ) → (is_at (cmp p) q && accepts cmp rules calls q (Some t)) ≡ (is_at (cmp p) q && accepts cmp rules calls q None)
      → record_of cmp rules (call.Connect p None conn ∷ calls) q ≡ record_of cmp rules (call.Connect p (Some t) conn ∷ calls) q
  unfolding record_of address_of last_grant is_stale is_connected is_held is_tracked primary_sets secondary_sets kept_sets accepted_sets peer own
  record_of-moment p t conn e =
      ap (λ b. cond (is_local cmp rules q) (Some (own (primary_sets cmp rules calls q) (secondary_sets cmp rules calls q)))
      (option_map (peer rules.cooldown (is_held cmp calls q) (b || is_connected cmp rules calls q) (primary_sets cmp rules calls q) (secondary_sets cmp rules calls q) (is_stale cmp rules calls q)
      (cond (is_alive cmp rules calls q) (last_grant cmp rules calls q) None)) (cond (is_alive cmp rules calls q && not (is_local cmp rules q)) (address_of cmp rules calls q) None))) (sym e)

  -- one that isn't accepted is nothing but a question
  record_of-refused : (p : P) (t conn t2 : ℕ) → (is_at (cmp p) q && accepts cmp rules calls q (Some t)) ≡ false
      → record_of cmp rules (call.Connect p (Some t) conn ∷ calls) q ≡ record_of cmp rules (call.UnblockExpired t2 ∷ calls) q
  unfolding record_of address_of last_grant is_stale is_connected is_held is_tracked primary_sets secondary_sets kept_sets accepted_sets peer own
  record_of-refused p t conn t2 e =
      ap (λ b. cond (is_local cmp rules q) (Some (own (primary_sets cmp rules calls q) (secondary_sets cmp rules calls q)))
      (option_map (peer rules.cooldown (is_held cmp calls q) (b || is_connected cmp rules calls q) (primary_sets cmp rules calls q) (secondary_sets cmp rules calls q) (is_stale cmp rules calls q)
      (cond (is_alive cmp rules calls q) (last_grant cmp rules calls q) None)) (cond (is_alive cmp rules calls q && not (is_local cmp rules q)) (address_of cmp rules calls q) None))) e

module _ {P : Type 0} {cmp : P → P → Ordering} (o : IsTotalOrder cmp) {kept : Kept P} {calls : List (Call P)} (s : StandsFor cmp kept calls) where
  -- equal keys are eligible alike
  pub eligible-same : (p q : P) (t : ℕ) → is_at (cmp p) q ≡ true → is_eligible cmp kept.rules calls p t ≡ is_eligible cmp kept.rules calls q t
  eligible-same p q t h =
      let records = sym (s.records p) ∙ lookup_same o p q kept.records h ∙ s.records q in
      let blocks = sym (s.blocks p) ∙ lookup_same o p q kept.blocks h ∙ s.blocks q in
      eligible-record cmp kept.rules calls p (s.addressed p) t
      ∙ (ap (λ r. is_eligible_in r && not (lasts_at (block_of cmp kept.rules calls p) t)) records
      ∙ (ap (λ b. is_eligible_in (record_of cmp kept.rules calls q) && not (lasts_at b t)) blocks
      ∙ sym (eligible-record cmp kept.rules calls q (s.addressed q) t)))

  -- a connection of a key that isn't eligible changes nothing
  pub stands-barred : (p : P) (t conn : ℕ) → is_eligible cmp kept.rules calls p t ≡ false → StandsFor cmp kept (call.Connect p (Some t) conn ∷ calls)
  unfolding kept_sets accepted_sets block_of is_tracked is_held address_of
  stands-barred p t conn e = record {
    sets = s.sets;
    latest = s.latest;
    records = λ q. s.records q ∙ sym (record_of-refused cmp kept.rules calls q p t conn t
        (barred (is_at (cmp p) q) (is_eligible cmp kept.rules calls q t) (is_stale cmp kept.rules calls q) (λ h. sym (eligible-same p q t h) ∙ e))
        ∙ record_of-unblock cmp kept.rules calls q (s.addressed q) t);
    blocks = s.blocks;
    ordered = s.ordered;
    addressed = λ q. addressed-connect cmp kept.rules calls q (s.addressed q) p (Some t) conn;
  }

module _ {P : Type 0} {cmp : P → P → Ordering} (o : IsTotalOrder cmp) where
  -- a connection of an eligible key has its moment
  pub stands-moment : (before after : Kept P) (calls : List (Call P)) (p : P) (t conn : ℕ) → after.rules ≡ before.rules → StandsFor cmp before calls
      → is_eligible cmp before.rules calls p t ≡ true → StandsFor cmp after (call.Connect p None conn ∷ calls) → StandsFor cmp after (call.Connect p (Some t) conn ∷ calls)
  unfolding kept_sets accepted_sets block_of is_tracked is_held address_of
  stands-moment before after calls p t conn e b h s =
      let eligible : (q : P) → is_at (cmp p) q ≡ true → is_eligible cmp after.rules calls q t ≡ true =
      subst (λ (r : Rules P). (q : P) → is_at (cmp p) q ≡ true → is_eligible cmp r calls q t ≡ true) (sym e) (λ q k. sym (eligible-same o b p q t k) ∙ h) in
      record {
        sets = s.sets;
        latest = s.latest;
        records = λ q. s.records q ∙ record_of-moment cmp after.rules calls q p t conn
            (held_by_eligible (is_at (cmp p) q) (is_eligible cmp after.rules calls q t) (is_stale cmp after.rules calls q) (eligible q));
        blocks = s.blocks;
        ordered = s.ordered;
        addressed = s.addressed;
      }

module _ {P : Type 0} {cmp : P → P → Ordering} where
  -- a question is granted as the calls allow, with its jitter
  pub dial-served : (d e : Kept P) → d ≡ e → (after : Kept P) (calls : List (Call P)) (k : P) (t i j : ℕ) (b : Bool) → i ≡ j
      → ((calls : List (Call P)) → StandsFor cmp d calls → StandsFor cmp after (call.Dial k t i b ∷ calls))
      → ((calls : List (Call P)) → StandsFor cmp d calls → b ≡ allows_dial cmp d.rules calls k t)
      → StandsFor cmp e calls → StandsFor cmp after (call.Dial k t j (allows_dial cmp e.rules calls k t) ∷ calls)
  dial-served d e same after calls k t i j b jitter stands granted s =
      let before : StandsFor cmp d calls = subst (λ (x : Kept P). StandsFor cmp x calls) (sym same) s in
      subst (λ (x : Bool). StandsFor cmp after (call.Dial k t j x ∷ calls)) (granted calls before ∙ ap (λ (x : Kept P). allows_dial cmp x.rules calls k t) same)
      (subst (λ (x : ℕ). StandsFor cmp after (call.Dial k t x b ∷ calls)) jitter (stands calls before))

  pub listen-served : (d e : Kept P) → d ≡ e → (after : Kept P) (calls : List (Call P)) (k : P) (source : IpAddr) (t i j : ℕ) (b : Bool) → i ≡ j
      → ((calls : List (Call P)) → StandsFor cmp d calls → StandsFor cmp after (call.Listen k t i b ∷ calls))
      → ((calls : List (Call P)) → StandsFor cmp d calls → b ≡ allows_listen cmp d.rules calls k source t)
      → StandsFor cmp e calls → StandsFor cmp after (call.Listen k t j (allows_listen cmp e.rules calls k source t) ∷ calls)
  listen-served d e same after calls k source t i j b jitter stands granted s =
      let before : StandsFor cmp d calls = subst (λ (x : Kept P). StandsFor cmp x calls) (sym same) s in
      subst (λ (x : Bool). StandsFor cmp after (call.Listen k t j x ∷ calls)) (granted calls before ∙ ap (λ (x : Kept P). allows_listen cmp x.rules calls k source t) same)
      (subst (λ (x : ℕ). StandsFor cmp after (call.Listen k t x b ∷ calls)) jitter (stands calls before))
