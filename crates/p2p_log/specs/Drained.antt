-- What comes of queues that are emptied, and how it ends.
use Rattle.std.specs.Prelude.{List, [], ◌∷◌, ◌++◌, map, filter, flat_map}
use Rattle.p2p_log.specs.declared.queue.Queue.{Queue}
use Rattle.p2p_log.specs.declared.item.Envelope.{Envelope}
use Rattle.p2p_log.specs.declared.end.Cause.{Cause}
use Rattle.p2p_log.specs.declared.end.End.{End}
use Rattle.p2p_log.specs.declared.end.End.TheVariants as end
use Rattle.p2p_log.specs.declared.end.Outcome.TheVariants as outcome
use Rattle.p2p_log.specs.Lines.{name_of, stays, stands_in}
use Rattle.p2p_log.specs.Copies.{copies_of}

-- what comes of these items when these queues are emptied, one after another
abbrev pub drained : List Envelope → List Queue → List Envelope
drained items [] = []
drained items (q ∷ qs) =
    let l = filter (stands_in q) items in
    l ++ drained (filter (stays (map name_of l)) items) qs

-- these items of one queue, which stand among these items, and right after each of them what stands in the queues that it
-- brings
abbrev pub each_with : (Envelope → List Queue) → List Envelope → List Envelope → List Envelope
each_with brings items [] = []
each_with brings items (x ∷ xs) =
    let left = filter (stays (name_of x ∷ [])) items in
    let brought = drained left (brings x) in
    x ∷ (brought ++ each_with brings (filter (stays (map name_of brought)) left) xs)

-- what comes of these items when these queues are emptied, one after another, and right after each item the queues that it
-- brings
abbrev pub drained_with : (Envelope → List Queue) → List Envelope → List Queue → List Envelope
drained_with brings items [] = []
drained_with brings items (q ∷ qs) =
    let l = each_with brings items (filter (stands_in q) items) in
    l ++ drained_with brings (filter (stays (map name_of l)) items) qs

-- an item that ends untaken, and after it its copies, dropped for this cause
abbrev pub ends_with : Cause → Envelope → List End
ends_with c x = end.Item x.entry x.place ∷ map (λ copy. end.Copy copy.0 copy.1 (outcome.Dropped c)) (copies_of x.item)

-- the same for each of these, one after another
abbrev pub all_end : Cause → List Envelope → List End
all_end c xs = flat_map (ends_with c) xs
