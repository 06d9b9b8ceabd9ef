-- What the calls that a step of a tracker makes do to a key that is connected: it was so before, or a connect of it was taken.
use Rattle.std.proofs.Common.{◌≡◌, ℕ, Bool, true, false, cond, List, [], ◌∷◌, Option, Some, None, ◌⊎◌, inl, inr, refl, sym, ◌∙◌}
use Rattle.std.specs.Prelude.{◌==◌, ◌||◌, not, is_some}
use Rattle.std.specs.BTreeMap.{is_at}
use Rattle.std.proofs.lemmas.Bool.{and_parts, false≢true}
use Rattle.p2p_base.specs.declared.key.Key.{Key}
use Rattle.p2p_address.specs.declared.peer.Address.{Address}
use Rattle.p2p_tracker_calls.specs.declared.call.Call.{Call}
use Rattle.p2p_tracker_calls.specs.declared.call.Call.TheVariants as call
use Rattle.p2p_tracker_calls.specs.Grants.{Grant, grant_by, held_by, releases, is_held}
use Rattle.p2p_tracker_calls.specs.Lives.{accepts, connects, is_connected}
use Rattle.p2p_tracker_calls.specs.Overwrites.{overwritten}
use Rattle.p2p_tracker_calls.specs.Rules.{Rules}
use Rattle.p2p_log.specs.declared.item.Item.{Item}
use Rattle.p2p_log.specs.declared.item.Item.TheVariants as item
use Rattle.p2p_log.specs.declared.asked.Asked.TheVariants as ask
use Rattle.p2p_log.specs.declared.entry.Entry.{Entry}
use Rattle.p2p_log.specs.declared.entry.Reply.{Reply}
use Rattle.p2p_log.specs.declared.entry.Reply.TheVariants as reply
use Rattle.p2p_log.specs.declared.event.Act.{Act}
use Rattle.p2p_log.specs.declared.event.Act.TheVariants as act
use Rattle.p2p_log_rules.specs.Tracking.{key_cmp, asked_by}
use Rattle.p2p_log_rules.proofs.Calls.{asked_calls, item_calls, step_calls}
use Rattle.p2p_log_laws.proofs.HeldCalls.{at_key}

module _ (rules : Rules Key) (key : Key) where
  abbrev connected : List (Call Key) → Bool
  connected calls = is_connected key_cmp rules calls key

  abbrev held : List (Call Key) → Bool
  held calls = is_held key_cmp calls key

  -- after these calls it is connected by a connect that was made now, or it was; and what is connected and held was held
  pub record Follows (now : Bool) (calls next : List (Call Key)) : Type 0 where
    pub connects : is_connected key_cmp rules next key ≡ true → (now ≡ true) ⊎ (is_connected key_cmp rules calls key ≡ true)
    pub holds : is_connected key_cmp rules next key ≡ true → is_held key_cmp next key ≡ true → is_held key_cmp calls key ≡ true

  same : (calls : List (Call Key)) → Follows false calls calls
  same calls = record { connects = λ h. inr h; holds = λ c h. h }

  -- ---- one call

  abbrev is_call : Call Key → Bool
  is_call (call.Connect k at conn) = k.0 == key.0
  is_call _ = false

  connects_it : (c : Call Key) (calls : List (Call Key)) → connects key_cmp rules c calls key ≡ true → is_call c ≡ true
  connects_it (call.Connect k at conn) calls h = sym (at_key k key) ∙ (and_parts (is_at (key_cmp k) key) (accepts key_cmp rules calls key at) h).0
  connects_it _ calls h = absurd (cc)

  by_call : (c : Call Key) (calls : List (Call Key)) → Follows (is_call c) calls (c ∷ calls)
  unfolding is_connected is_held
  by_call c calls = record { connects = λ h. by_grant (grant_by key_cmp c key) h; holds = λ h l. by_hold (grant_by key_cmp c key) h l }
    where
      either : (b : Bool) → connects key_cmp rules c calls key ≡ b → (b || connected calls) ≡ true → (is_call c ≡ true) ⊎ (connected calls ≡ true)
      either true now h = inl (connects_it c calls now)
      either false now h = inr h

      by_grant : (o : Option Grant) → cond (is_some o) false (connects key_cmp rules c calls key || connected calls) ≡ true → (is_call c ≡ true) ⊎ (connected calls ≡ true)
      by_grant None h = either (connects key_cmp rules c calls key) refl h
      by_grant (Some g) h = absurd (false≢true h)

      by_hold : (o : Option Grant) → cond (is_some o) false (connects key_cmp rules c calls key || connected calls) ≡ true → held_by o (releases key_cmp c key) (held calls) ≡ true → held calls ≡ true
      by_hold None h l = (and_parts (not (releases key_cmp c key)) (held calls) l).1
      by_hold (Some g) h l = absurd (false≢true h)

  -- ---- what is taken

  then : (now : Bool) (calls next last : List (Call Key)) → Follows now calls next → Follows false next last → Follows now calls last
  then now calls next last f g = record {
    connects = λ h. elim (g.connects h) [ inl never ↦ absurd (false≢true never) | inr was ↦ f.connects was ];
    holds = λ h l. elim (g.connects h) [ inl never ↦ absurd (false≢true never) | inr was ↦ f.holds was (g.holds h l) ];
  }

  by_overwrites : (es : List (Key × Address)) (calls : List (Call Key)) → Follows false calls (overwritten es calls)
  unfolding overwritten
  by_overwrites [] calls = same calls
  by_overwrites (e ∷ es) calls =
      then false calls (call.Overwrite e.0 e.1 ∷ calls) (overwritten es (call.Overwrite e.0 e.1 ∷ calls)) (by_call (call.Overwrite e.0 e.1) calls) (by_overwrites es (call.Overwrite e.0 e.1 ∷ calls))

  by_question : (o : Option Act) (at : ℕ) (calls : List (Call Key)) → Follows false calls (asked_calls o at calls)
  by_question (Some (act.Ask (ask.Track index peers) n)) at calls = by_call (call.Track index peers.primary peers.secondary) calls
  by_question (Some (act.Ask (ask.Overwrite peers) n)) at calls = by_overwrites peers calls
  by_question (Some (act.Ask (ask.Block k) n)) at calls = by_call (call.Block k at) calls
  by_question _ at calls = same calls

  -- whether what is taken tells that a connection with the key begins
  abbrev pub connects_key : Item → Bool
  connects_key (item.Connect conn k) = k.0 == key.0
  connects_key _ = false

  abbrev pub first_connects : List Item → Bool
  first_connects [] = false
  first_connects (i ∷ items) = connects_key i

  by_item : (log : List Entry) (i : Item) (at jitter : ℕ) (granted : Bool) (calls : List (Call Key)) → Follows (connects_key i) calls (item_calls log i at jitter granted calls)
  by_item log (item.Call e) at jitter granted calls = by_question (asked_by log e) at calls
  by_item log (item.Connect conn k) at jitter granted calls = by_call (call.Connect k (Some at) conn) calls
  by_item log (item.AskDial k) at jitter granted calls = by_call (call.Dial k at jitter granted) calls
  by_item log (item.AskListen name k) at jitter granted calls = by_call (call.Listen k at jitter granted) calls
  by_item log (item.Release k) at jitter granted calls = by_call (call.Release k) calls
  by_item log _ at jitter granted calls = same calls

  pub by_step : (log : List Entry) (r : Reply) (items : List Item) (at jitter : ℕ) (granted : Bool) (calls : List (Call Key))
      → Follows (first_connects items) calls (step_calls log r items at jitter granted calls)
  by_step log reply.Ok [] at jitter granted calls = by_call (call.UnblockExpired at) calls
  by_step log reply.Ok (i ∷ items) at jitter granted calls = by_item log i at jitter granted calls
  by_step log _ [] at jitter granted calls = same calls
  by_step log _ (i ∷ items) at jitter granted calls = record { connects = λ h. inr h; holds = λ c h. h }
