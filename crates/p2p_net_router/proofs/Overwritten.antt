-- What one more channel makes of the lists of peers that end.
use Rattle.std.proofs.Common.{◌≡◌, ℕ, List, [], ◌∷◌, ◌++◌, ap, sym, ◌∙◌, append_assoc, append-nil}
use Rattle.std.specs.Prelude.{filter, flat_map}
use Rattle.std.proofs.lemmas.Grind.{flat_map-append}
use Rattle.p2p_log.specs.declared.queue.Queue.TheVariants as queue
use Rattle.p2p_log.specs.declared.item.Envelope.{Envelope}
use Rattle.p2p_log.specs.Lines.{ended_item, stays, stands_in}
use Rattle.p2p_log_rules.specs.Effect.{overwritten, peers_ends}
use Rattle.p2p_log.proofs.Lines.{filter_stays-append, filter_stays-nil}

pub peers_ends-append :
    (items : List Envelope) (n c : ℕ) (cs : List ℕ)
    → peers_ends items n (cs ++ c ∷ [])
    ≡ peers_ends items n cs ++ overwritten (filter (stands_in (queue.Peers n c)) (filter (stays (flat_map ended_item (peers_ends items n cs))) items))
peers_ends-append items n c [] =
    append-nil (overwritten (filter (stands_in (queue.Peers n c)) items))
    ∙ ap (λ l. overwritten (filter (stands_in (queue.Peers n c)) l)) (sym (filter_stays-nil items))
peers_ends-append items n c (d ∷ ds) =
    let first = overwritten (filter (stands_in (queue.Peers n d)) items) in
    let kept = filter (stays (flat_map ended_item first)) items in
    let later = peers_ends kept n ds in
    let same : filter (stays (flat_map ended_item later)) kept ≡ filter (stays (flat_map ended_item (first ++ later))) items =
    sym (filter_stays-append (flat_map ended_item first) (flat_map ended_item later) items)
    ∙ ap (λ g. filter (stays g) items) (sym (flat_map-append ended_item first later))
    in
    ap (λ l. first ++ l) (peers_ends-append kept n c ds)
    ∙ (sym (append_assoc first later (overwritten (filter (stands_in (queue.Peers n c)) (filter (stays (flat_map ended_item later)) kept))))
    ∙ ap (λ l. (first ++ later) ++ overwritten (filter (stands_in (queue.Peers n c)) l)) same)
