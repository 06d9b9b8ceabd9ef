use Rattle.std.proofs.Common.{◌≡◌, ℕ, ◌+◌, ◌<◌, Bool, cond, List, [], ◌∷◌, ◌++◌, length, get_or, take, Vec, Global, ap, sym, ◌∙◌, append-nil}
use Rattle.std.specs.Prelude.{filter}
use Rattle.std.proofs.lemmas.List.{take_more}
use Rattle.std.proofs.lemmas.List.Elements.{filter-append}
use Rattle.p2p_router.specs.Messenger.{is_heard}
use Rattle.p2p_router.proofs.messenger.Messenger.heard.Goals as goal
use Rattle.p2p_router.proofs.messenger.Messenger.heard.Goals.{then-is_heard+in_ok-push, else-is_heard}

one_more : (p : ℕ → Bool) (before after all : List ℕ) (i : ℕ) (b : Bool)
    → i < length all → b ≡ p (get_or all i 0) → before ≡ filter p (take i all) → after ≡ before ++ cond b (get_or all i 0 ∷ []) [] → after ≡ filter p (take (i + 1) all)
one_more p before after all i b within test so_far h =
    let here = get_or all i 0 in
    h
    ∙ (ap (λ l. l ++ cond b (here ∷ []) []) so_far
    ∙ (ap (λ t. filter p (take i all) ++ cond t (here ∷ []) []) test
    ∙ (sym (filter-append p (take i all) (here ∷ [])) ∙ ap (filter p) (sym (take_more all i 0 within)))))

pub loop-subscription-preserved : goal.loop-subscription-preserved
loop-subscription-preserved g c =
    let i = c.loop-subscription.subscription-index in
    let all = c.args.subscriptions.now in
    let before = c.loop-subscription.heard.items in
    let one = get_or all i 0 ∷ [] in
    one_more (is_heard c.args.self.now.lists) before c.if-is_heard.heard.items all i c.is_heard.result c.loop-subscription-test.true c.is_heard.ensures c.loop-subscription.invariant
    (elim c.if-is_heard.branch [
      | then-is_heard+in_ok-push w ↦ ap (λ (v : Vec ℕ Global). v.items) w.heard-is ∙ (w.in_ok-push.ensures.items ∙ ap (λ t. before ++ cond t one []) (sym w.if-is_heard.true))
      | else-is_heard w ↦ ap (λ (v : Vec ℕ Global). v.items) w.heard-is ∙ (sym (append-nil before) ∙ ap (λ t. before ++ cond t one []) (sym w.if-is_heard.false))
    ])
