-- What an entry does that ends a connection, whatever else it ends: on this rest the laws of ends.
use Rattle.std.proofs.Common.{◌≡◌, ℕ, suc, Bool, true, false, List, [], ◌∷◌, Some, ◌⊎◌, inl, inr, refl, ap, sym, subst, ◌∙◌, eq-eqb, eqb-true}
use Rattle.std.specs.Prelude.{◌==◌, ◌||◌, slice_get}
use Rattle.std.specs.List.{list_any, AllByRecursion as Each}
use Rattle.std.proofs.lemmas.Bool.{false≢true}
use Rattle.p2p_log.specs.declared.config.Config.{Config}
use Rattle.p2p_log.specs.declared.queue.Queue.{Queue}
use Rattle.p2p_log.specs.declared.queue.Queue.TheVariants as queue
use Rattle.p2p_log.specs.declared.item.Item.{Item}
use Rattle.p2p_log.specs.declared.item.Item.TheVariants as item
use Rattle.p2p_log.specs.declared.entry.Entry.{Entry}
use Rattle.p2p_log.specs.declared.event.Event.{Event}
use Rattle.p2p_log.specs.declared.event.Act.{Act}
use Rattle.p2p_log_rules.specs.declared.row.Half.{Half}
use Rattle.p2p_log_rules.specs.declared.row.Row.{Row}
use Rattle.p2p_log_rules.specs.Connections.{is_end, live_half, ends_connection}
use Rattle.p2p_log_rules.specs.Effect.{row, effect}
use Rattle.p2p_log_rules.proofs.Steps.{steps_tracker}
use Rattle.p2p_log_rules.proofs.Connections.{IsStopped, half_act, end_of}
use Rattle.p2p_log_laws.proofs.EndShape.{is_named, all_released}
use Rattle.p2p_log_laws.proofs.HalfSteps.{IsStep, send_is, receive_is}

-- the node had a half of the connection, which had not ended; its router and right after it its tracker are told that the half's peer
-- is free, by an act that is no step of the tracker
pub record IsEndIn (log : List Entry) (n conn : ℕ) (a : Act) (r : Row) : Type 0 where
  pub half : Half
  pub lived : live_half log n conn ≡ Some half
  pub place : ℕ
  pub router : slice_get r.puts place ≡ Some (queue.Router n, item.Release half.peer)
  pub tracker : slice_get r.puts (suc place) ≡ Some (queue.Tracker n, item.Release half.peer)
  pub aside : steps_tracker n a ≡ false

-- one of this name is among these, which lived, and its releases are among theirs
record IsReleased (log : List Entry) (n k : ℕ) (puts : List (Queue × Item)) : Type 0 where
  pub half : Half
  pub lived : live_half log n k ≡ Some half
  pub place : ℕ
  pub router : slice_get puts place ≡ Some (queue.Router n, item.Release half.peer)
  pub tracker : slice_get puts (suc place) ≡ Some (queue.Tracker n, item.Release half.peer)

released_among : (log : List Entry) (n k : ℕ) (cs : List (ℕ × Half)) → Each (λ c. live_half log n c.0 ≡ Some c.1) cs → list_any (is_named k) cs ≡ true → IsReleased log n k (all_released n cs)
released_among log n k [] lived h = absurd (false≢true h)
released_among log n k (c ∷ cs) lived h = by (c.0 == k) refl h (λ later. released_among log n k cs lived.1 later)
  where
    by : (b : Bool) → (c.0 == k) ≡ b → (b || list_any (is_named k) cs) ≡ true → (list_any (is_named k) cs ≡ true → IsReleased log n k (all_released n cs)) → IsReleased log n k (all_released n (c ∷ cs))
    by true is h later = record { half = c.1; lived = ap (live_half log n) (sym (eqb-true c.0 k is)) ∙ lived.0; place = 0; router = refl; tracker = refl }
    by false is h later = let rest = later h in record { half = rest.half; lived = rest.lived; place = suc (suc rest.place); router = rest.router; tracker = rest.tracker }

module _ (log : List Entry) (n conn : ℕ) where
  -- an act ends these, of which it is one
  of_several : (a : Act) (r : Row) (cs : List (ℕ × Half)) → steps_tracker n a ≡ false → Each (λ c. live_half log n c.0 ≡ Some c.1) cs → r.puts ≡ all_released n cs → list_any (is_named conn) cs ≡ true → IsEndIn log n conn a r
  of_several a r cs aside lived puts among =
      let one : IsReleased log n conn r.puts = subst (IsReleased log n conn) (sym puts) (released_among log n conn cs lived among) in
      record { half = one.half; lived = one.lived; place = one.place; router = one.router; tracker = one.tracker; aside = aside }

  -- a step of a half ends its own
  of_step : (a : Act) (r : Row) → steps_tracker n a ≡ false → IsStep (λ x. Unit {0}) log n conn r → is_end r.reply ≡ true → IsEndIn log n conn a r
  of_step a r aside (inl goes) says = absurd (false≢true (sym goes.0 ∙ says))
  of_step a r aside (inr last) says = of_several a r ((conn, last.half) ∷ []) aside (last.lived, tt) last.puts (ap (λ b. b || false) (eq-eqb conn conn refl))

module _ (configs : List Config) (log : List Entry) (ev : Event) (n conn : ℕ) where
  abbrev EndsBy : Act → Type 0
  EndsBy a = is_end (row configs log ev.at ev.seed a).reply ≡ true → IsEndIn log n conn a (row configs log ev.at ev.seed a)

  by_half : (sends : Bool) → ev.act ≡ half_act sends conn n → EndsBy ev.act
  unfolding row
  by_half true acts =
      subst EndsBy (sym acts)
      (of_step log n conn (half_act true conn n) (row configs log ev.at ev.seed (half_act true conn n)) refl
      (send_is configs log conn n ev.at (λ x. Unit {0}) (λ key. tt) (λ key. tt) (λ e s i. tt)))
  by_half false acts =
      subst EndsBy (sym acts)
      (of_step log n conn (half_act false conn n) (row configs log ev.at ev.seed (half_act false conn n)) refl
      (receive_is configs log conn n ev.at (λ x. Unit {0}) (λ i. tt) (λ c i. tt)))

  -- each entry that ends one, and is no stop of its node
  pub ending : ends_connection n conn log (effect configs log ev) ≡ true → IsEndIn log n conn ev.act (row configs log ev.at ev.seed ev.act) ⊎ IsStopped log (effect configs log ev) n conn
  unfolding effect
  ending ends = elim (end_of log (effect configs log ev) n conn ends) [ inl end ↦ inl (by_half end.sends end.acts end.says) | inr stop ↦ inr stop ]
