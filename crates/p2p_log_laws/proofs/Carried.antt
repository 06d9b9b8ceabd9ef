-- The copies that items carry, in order.
use Rattle.std.proofs.Common.{◌≡◌, ℕ, ◌+◌, Bool, true, false, cond, List, [], ◌∷◌, ◌++◌, Some, inl, inr, refl, ap, sym, subst, ◌∙◌, append-nil}
use Rattle.std.specs.Prelude.{filter}
use Rattle.std.specs.List.{AllByRecursion as Each}
use Rattle.p2p_base.specs.declared.key.Key.{Key}
use Rattle.p2p_log.specs.declared.queue.Queue.{Queue}
use Rattle.p2p_log.specs.declared.item.Item.{Item}
use Rattle.p2p_log.specs.declared.item.Item.TheVariants as item
use Rattle.p2p_log.specs.Copies.{copies_of, copies_from}
use Rattle.p2p_log_laws.proofs.Fitting.{is_bare}
use Rattle.p2p_log_laws.proofs.Spreads.{AreFrames}
use Rattle.p2p_log_laws.proofs.Sublists.{IsSublist-nil, IsSublist-refl}
use Rattle.p2p_log_laws.specs.Flow.{IsSublist, put_copies}

pub copies_of-bare : (i : Item) → is_bare i ≡ true → copies_of i ≡ []
copies_of-bare (item.Content c frame priority send to) h = absurd (cc)
copies_of-bare (item.Frame (Some other) frame) h = absurd (cc)
copies_of-bare (item.Held c bytes copy) h = absurd (cc)
copies_of-bare (item.Message bytes copy from) h = absurd (cc)
copies_of-bare _ h = refl

-- puts that carry no copy
put_none : (p : Queue × Item → Bool) (puts : List (Queue × Item)) → Each (λ x. is_bare x.1 ≡ true) puts → put_copies (filter p puts) ≡ []
put_none p [] h = refl
put_none p (x ∷ puts) h =
    elim (p x) as (λ b. put_copies (cond b (x ∷ filter p puts) (filter p puts)) ≡ []) [
      | true ↦ ap (λ l. l ++ put_copies (filter p puts)) (copies_of-bare x.1 h.0) ∙ put_none p puts h.1
      | false ↦ put_none p puts h.1
    ]

pub IsSublist-bare : (p : Queue × Item → Bool) (puts : List (Queue × Item)) (ys : List (ℕ × ℕ)) → Each (λ x. is_bare x.1 ≡ true) puts → IsSublist (put_copies (filter p puts)) ys
IsSublist-bare p puts ys h = subst (λ l. IsSublist l ys) (sym (put_none p puts h)) (IsSublist-nil ys)

-- one put that carries no copy, beside others
pub IsSublist-beside : (p : Queue × Item → Bool) (x : Queue × Item) (puts : List (Queue × Item)) (ys : List (ℕ × ℕ)) → is_bare x.1 ≡ true → IsSublist (put_copies (filter p puts)) ys
    → IsSublist (put_copies (filter p (x ∷ puts))) ys
IsSublist-beside p x puts ys bare h =
    elim (p x) as (λ b. IsSublist (put_copies (cond b (x ∷ filter p puts) (filter p puts))) ys) [
      | true ↦ subst (λ l. IsSublist (l ++ put_copies (filter p puts)) ys) (sym (copies_of-bare x.1 bare)) h
      | false ↦ h
    ]

-- one put
pub IsSublist-put : (p : Queue × Item → Bool) (x : Queue × Item) → IsSublist (put_copies (filter p (x ∷ []))) (copies_of x.1)
IsSublist-put p x =
    elim (p x) as (λ b. IsSublist (put_copies (cond b (x ∷ []) [])) (copies_of x.1)) [
      | true ↦ subst (λ l. IsSublist l (copies_of x.1)) (sym (append-nil (copies_of x.1))) (IsSublist-refl (copies_of x.1))
      | false ↦ IsSublist-nil (copies_of x.1)
    ]

-- the frames of a spread
pub IsSublist-frames : (p : Queue × Item → Bool) (send place : ℕ) (frame : List ℕ) (ks : List Key) (puts : List (Queue × Item)) → AreFrames send place frame ks puts
    → IsSublist (put_copies (filter p puts)) (copies_from send place ks)
IsSublist-frames p send place frame [] puts h = subst (λ (l : List (Queue × Item)). put_copies (filter p l) ≡ []) (sym h) refl
IsSublist-frames p send place frame (k ∷ ks) puts h = elim h [
  | inl none ↦ inl (IsSublist-frames p send (place + 1) frame ks puts none)
  | inr some ↦
      let x : Queue × Item = (some.0, item.Frame (Some (send, place)) frame) in
      let rest : List (Queue × Item) = some.1 in
      subst (λ (l : List (Queue × Item)). IsSublist (put_copies (filter p l)) (copies_from send place (k ∷ ks))) (sym some.2)
      (elim (p x) as (λ b. IsSublist (put_copies (cond b (x ∷ filter p rest) (filter p rest))) (copies_from send place (k ∷ ks))) [
        | true ↦ inr (put_copies (filter p rest), refl, IsSublist-frames p send (place + 1) frame ks rest some.3)
        | false ↦ inl (IsSublist-frames p send (place + 1) frame ks rest some.3)
      ])
]
