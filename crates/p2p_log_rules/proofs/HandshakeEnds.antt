-- The handshake that has the listening end of a link runs, and its peer came over that.
use Rattle.std.proofs.Common.{◌≡◌, ℕ, Bool, true, false, cond, List, [], ◌∷◌, ◌++◌, length, Some, None, ◌⊎◌, inl, inr, refl, ap, sym, ◌∙◌, eq-eqb, eqb-true}
use Rattle.std.specs.Prelude.{◌==◌, ◌&&◌, ◌||◌, not}
use Rattle.std.specs.List.{list_any}
use Rattle.std.proofs.lemmas.List.Folds.{list_any-append}
use Rattle.p2p_log_rules.proofs.Bools.{or_true}
use Rattle.p2p_log.specs.declared.entry.Entry.{Entry}
use Rattle.p2p_log_rules.specs.declared.row.ListeningEnd.TheVariants as listening
use Rattle.p2p_log_rules.specs.Facts.{taken}
use Rattle.p2p_log_rules.specs.Handshakes.{ends_handshake, handshakes_of, is_handshaking, came_over}
use Rattle.p2p_log_rules.specs.Links.{listening_ends_of}
use Rattle.p2p_log_rules.specs.Told.{link_over, admitted_as}
use Rattle.p2p_log_rules.proofs.HandshakeBegun.{handshake_at-kept, handshake_at-begun}
use Rattle.p2p_log_rules.proofs.Handshakes.{Begins, Ends, Stops, begun_with, handshakes_of-listened, handshakes_now, is_among, among-without, handshaking_early}
use Rattle.p2p_log_rules.proofs.Ignoring.{by_entries}
use Rattle.p2p_log_rules.proofs.Links.{Takes, without_end, listening_ends_of-stopped, listening_ends_of-shaken, end_now, listening_ends_of-none}
use Rattle.p2p_log_rules.proofs.Standing.{started}

-- one that has begun stands among these with another
pub among_more : (h m : ℕ) (names : List ℕ) → is_among h names ≡ true → is_among h (names ++ m ∷ []) ≡ true
among_more h m names is = list_any-append (λ k. h == k) names (m ∷ []) ∙ ap (λ b. b || list_any (λ k. h == k) (m ∷ [])) is

among_last : (h m : ℕ) (names : List ℕ) → h ≡ m → is_among h (names ++ m ∷ []) ≡ true
among_last h m names is =
    list_any-append (λ k. h == k) names (m ∷ []) ∙ (ap (λ b. list_any (λ k. h == k) names || (b || false)) (eq-eqb h m is) ∙ or_true (list_any (λ k. h == k) names))

abbrev pub Leads : ℕ → List Entry → Type 0
Leads n log = (link h : ℕ) → listening_ends_of log n link ≡ Some (listening.Handshake h) → (is_handshaking log n h ≡ true) × (came_over log h ≡ Some link)

module _ (n : ℕ) (log : List Entry) (e : Entry) (leads : Leads n log) where
  abbrev longer : List Entry
  longer = log ++ e ∷ []

  abbrev names : List ℕ
  names = handshakes_of log n

  -- one that had it does not end, where it has it still
  still : (link h : ℕ) → listening_ends_of longer n link ≡ Some (listening.Handshake h) → listening_ends_of log n link ≡ Some (listening.Handshake h) → is_handshaking longer n h ≡ true
  still link h is old = by (handshakes_now log e n)
    where
      ran : is_handshaking log n h ≡ true
      ran = (leads link h old).0

      other : (ends : Ends log e n) → (b : Bool) → (h == ends.name) ≡ b → b ≡ false
      other ends false differ = refl
      other ends true same =
          let over : came_over log ends.name ≡ Some link = ap (came_over log) (sym (eqb-true h ends.name same)) ∙ (leads link h old).1 in
          let gone : listening_ends_of longer n link ≡ None =
          listening_ends_of-shaken log e n ends.name n ends.acts link
          ∙ (ap (λ b. cond b (cond (ends_handshake e.reply (taken log e)) (without_end (came_over log ends.name) (listening_ends_of log n) link) (listening_ends_of log n link)) (listening_ends_of log n link)) (eq-eqb n n refl)
          ∙ (ap (λ b. cond b (without_end (came_over log ends.name) (listening_ends_of log n) link) (listening_ends_of log n link)) ends.over
          ∙ (ap (λ o. without_end o (listening_ends_of log n) link) over ∙ ap (λ b. cond b None (listening_ends_of log n link)) (eq-eqb link link refl))))
          in
          let t : None ≡ Some (listening.Handshake h) = sym gone ∙ is in
          cc

      by : (handshakes_of longer n ≡ names) ⊎ (Begins log e n ⊎ (Ends log e n ⊎ Stops log e n)) → is_handshaking longer n h ≡ true
      by (inl same) = ap (is_among h) same ∙ ran
      by (inr (inl begins)) = ap (is_among h) begins.now ∙ among_more h (length log) names ran
      by (inr (inr (inr stops))) = let t : None ≡ Some (listening.Handshake h) = sym (listening_ends_of-stopped log e n stops.stop link) ∙ is in cc
      by (inr (inr (inl ends))) = ap (is_among h) ends.now ∙ (among-without ends.name h names ∙ (ap (λ b. not b && is_among h names) (other ends (h == ends.name) refl) ∙ ran))

  more : Leads n longer
  more link h is = by (end_now log e n link h is)
    where
      by : (listening_ends_of log n link ≡ Some (listening.Handshake h)) ⊎ Takes log e n link h → (is_handshaking longer n h ≡ true) × (came_over longer h ≡ Some link)
      by (inl old) =
          let was = leads link h old in
          (still link h is old, ap link_over (handshake_at-kept log e h (handshaking_early log n h was.0)) ∙ was.1)
      by (inr new) = (
        ap (is_among h)
            (handshakes_of-listened log e n new.acts
            ∙ (ap (λ r. names ++ started (begun_with (admitted_as (length log) r) (taken log e))) new.told
            ∙ ap (λ items. names ++ started (begun_with (Some (length log)) items)) new.took))
            ∙ among_last h (length log) names new.named,
        ap (came_over longer) new.named ∙ ap link_over (handshake_at-begun log e n new.from new.key link new.rest new.acts new.told new.took),
      )

pub ends_lead : (log : List Entry) (n : ℕ) → Leads n log
ends_lead log n = by_entries (Leads n) first (more n) log
  where
    first : Leads n []
    first link h is = let none : listening_ends_of [] n link ≡ None = listening_ends_of-none n link in cc
