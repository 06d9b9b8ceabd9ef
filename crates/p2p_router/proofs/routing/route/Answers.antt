use Rattle.std.proofs.Common.{◌≡◌, ℕ, ◌+◌, ◌<◌, ◌≤◌, Bool, List, [], ◌∷◌, ◌++◌, length, get_or, drop, ap, sym, ◌∙◌, append_assoc, append-nil}
use Rattle.std.proofs.lemmas.List.{drop_more, drop_all}
use Rattle.std.specs.declared.cmp.Ordering.{Ordering}
use Rattle.p2p_wire.specs.declared.encoded.EncodedData.{EncodedData}
use Rattle.p2p_router.specs.declared.link.Link.{Link}
use Rattle.p2p_router.specs.declared.stepped.Routed.{Routed}
use Rattle.p2p_router.specs.Routing.{copy_routed, copy_put, copies, copies_put}
use Rattle.p2p_router.proofs.routing.route.Goals as goal

module _ {P : Type 0} (cmp : P → P → Ordering) where
  one_more : (links after : List (P × Link)) (encoded : EncodedData) (priority : Bool) (peers : List P) (i : ℕ) (peer : P) (done more all : List (Routed P)) (one : Routed P)
      → i < length peers → peer ≡ get_or peers i peer → one ≡ copy_routed cmp links encoded priority peer → after ≡ copy_put cmp links encoded priority peer
      → more ≡ done ++ one ∷ [] → done ++ copies cmp links encoded priority (drop i peers) ≡ all
      → more ++ copies cmp after encoded priority (drop (i + 1) peers) ≡ all
  unfolding copies
  one_more links after encoded priority peers i peer done more all one within at one_is after_is more_is h =
      let rest = drop (i + 1) peers in
      ap (λ l. l ++ copies cmp after encoded priority rest) more_is
      ∙ (append_assoc done (one ∷ []) (copies cmp after encoded priority rest)
      ∙ (ap (λ r. done ++ r ∷ copies cmp after encoded priority rest) one_is
      ∙ (ap (λ ls. done ++ copy_routed cmp links encoded priority peer ∷ copies cmp ls encoded priority rest) after_is
      ∙ (ap (λ l. done ++ copies cmp links encoded priority l) (sym (drop_more peers i peer within ∙ ap (λ x. x ∷ rest) (sym at))) ∙ h))))

  one_more_put : (links after end : List (P × Link)) (encoded : EncodedData) (priority : Bool) (peers : List P) (i : ℕ) (peer : P)
      → i < length peers → peer ≡ get_or peers i peer → after ≡ copy_put cmp links encoded priority peer
      → copies_put cmp links encoded priority (drop i peers) ≡ end → copies_put cmp after encoded priority (drop (i + 1) peers) ≡ end
  unfolding copies_put
  one_more_put links after end encoded priority peers i peer within at after_is h =
      let rest = drop (i + 1) peers in
      ap (λ ls. copies_put cmp ls encoded priority rest) after_is
      ∙ (ap (copies_put cmp links encoded priority) (sym (drop_more peers i peer within ∙ ap (λ x. x ∷ rest) (sym at))) ∙ h)

  all_made : (links : List (P × Link)) (encoded : EncodedData) (priority : Bool) (peers : List P) (i : ℕ) (done all : List (Routed P))
      → length peers ≤ i → done ++ copies cmp links encoded priority (drop i peers) ≡ all → done ≡ all
  unfolding copies
  all_made links encoded priority peers i done all end h =
      sym (append-nil done) ∙ (ap (λ l. done ++ copies cmp links encoded priority l) (sym (drop_all i peers end)) ∙ h)

  all_put : (links all : List (P × Link)) (encoded : EncodedData) (priority : Bool) (peers : List P) (i : ℕ)
      → length peers ≤ i → copies_put cmp links encoded priority (drop i peers) ≡ all → links ≡ all
  unfolding copies_put
  all_put links all encoded priority peers i end h = ap (copies_put cmp links encoded priority) (sym (drop_all i peers end)) ∙ h

pub loop-peer-preserved : goal.loop-peer-preserved
loop-peer-preserved g c =
    let i = c.loop-peer.peer-index in
    let peers = c.args.peers.now in
    let old = c.args.links.now.entries in
    let links = c.loop-peer.links.entries in
    let after = c.put_copy.new.links.entries in
    let within = c.loop-peer-test.true in (
      one_more g.P.Ord.cmp links after c.args.encoded.now c.args.priority peers i c.peer-item.result c.loop-peer.routed.items c.push.new.self.items
          (copies g.P.Ord.cmp old c.args.encoded.now c.args.priority peers) c.in_ok-put_copy.field-0
          within c.peer-item.is c.in_ok-put_copy.ensures.answer c.in_ok-put_copy.ensures.after c.in_ok-push.ensures.items c.loop-peer.invariant.0,
      one_more_put g.P.Ord.cmp links after (copies_put g.P.Ord.cmp old c.args.encoded.now c.args.priority peers) c.args.encoded.now c.args.priority peers i c.peer-item.result
          within c.peer-item.is c.in_ok-put_copy.ensures.after c.loop-peer.invariant.1,
    )

pub returns-clause-answer : goal.returns-clause-answer
returns-clause-answer g c =
    all_made g.P.Ord.cmp c.loop-peer.links.entries c.args.encoded.now c.args.priority c.args.peers.now c.loop-peer.peer-index c.loop-peer.routed.items _ c.loop-peer-test.false c.loop-peer.invariant.0

pub returns-clause-after : goal.returns-clause-after
returns-clause-after g c =
    all_put g.P.Ord.cmp c.loop-peer.links.entries _ c.args.encoded.now c.args.priority c.args.peers.now c.loop-peer.peer-index c.loop-peer-test.false c.loop-peer.invariant.1
