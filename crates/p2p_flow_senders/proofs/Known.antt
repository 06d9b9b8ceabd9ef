-- Keys of which something is kept.
use Rattle.std.proofs.Common.{◌≡◌, ℕ, ◌+◌, ◌<◌, ◌≤◌, true, List, [], ◌∷◌, ◌++◌, length, get_or, take, drop, sym, ap, subst, ◌∙◌}
use Rattle.std.proofs.lemmas.List.{take_more, take_all, drop_more}
use Rattle.std.specs.declared.cmp.Ordering.{Ordering}
use Rattle.p2p_runtime.specs.QuotaKeys.{KeptByKey, is_known}
use Rattle.p2p_flow_senders.specs.Admission.{AllKnown}

module _ {K : Type 0} (cmp : K → K → Ordering) where
  pub known-keeps : (kept after : KeptByKey K) (keys : List K) → ((q : K) → is_known cmp kept q ≡ true → is_known cmp after q ≡ true) → AllKnown cmp kept keys → AllKnown cmp after keys
  known-keeps kept after [] keeps h = tt
  known-keeps kept after (key ∷ keys) keeps h = (keeps key h.0, known-keeps kept after keys keeps h.1)

  known-push : (kept : KeptByKey K) (keys : List K) (key : K) → AllKnown cmp kept keys → is_known cmp kept key ≡ true → AllKnown cmp kept (keys ++ key ∷ [])
  known-push kept [] key h one = (one, tt)
  known-push kept (first ∷ keys) key h one = (h.0, known-push kept keys key h.1 one)

  pub known-more : (kept after : KeptByKey K) (keys : List K) (i : ℕ) (key : K) → i < length keys → key ≡ get_or keys i key
      → ((q : K) → is_known cmp kept q ≡ true → is_known cmp after q ≡ true) → is_known cmp after key ≡ true → AllKnown cmp kept (take i keys) → AllKnown cmp after (take (i + 1) keys)
  known-more kept after keys i key within at keeps one h =
      subst (AllKnown cmp after) (sym (take_more keys i key within ∙ ap (λ x. take i keys ++ x ∷ []) (sym at)))
      (known-push after (take i keys) key (known-keeps kept after (take i keys) keeps h) one)

  pub known-all : (kept : KeptByKey K) (keys : List K) (i : ℕ) → length keys ≤ i → AllKnown cmp kept (take i keys) → AllKnown cmp kept keys
  known-all kept keys i end h = subst (AllKnown cmp kept) (take_all i keys end) h

  -- the key whose turn is next, and those after it
  pub known-next : (kept : KeptByKey K) (keys : List K) (i : ℕ) (key : K) → i < length keys → key ≡ get_or keys i key → AllKnown cmp kept (drop i keys)
      → (is_known cmp kept key ≡ true) × AllKnown cmp kept (drop (i + 1) keys)
  known-next kept keys i key within at h = subst (AllKnown cmp kept) (drop_more keys i key within ∙ ap (λ x. x ∷ drop (i + 1) keys) (sym at)) h
