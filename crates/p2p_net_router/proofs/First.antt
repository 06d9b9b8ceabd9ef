-- The oldest message of a router's mailbox, and the item that it is.
use Rattle.std.proofs.Common.{◌≡◌, ℕ, Bool, true, List, [], ◌∷◌, drop, refl, ap, sym, ◌∙◌, Some, None}
use Rattle.std.specs.Prelude.{map, slice_get}
use Rattle.p2p_base.specs.declared.key.Key.{Key}
use Rattle.p2p_router.specs.declared.message.Message.{Message}
use Rattle.p2p_router.specs.declared.messenger.Binding.{Binding}
use Rattle.p2p_router.specs.declared.messenger.Binding.TheVariants.{Unbound, Bound, Closed}
use Rattle.p2p_router.specs.Messenger.{oldest_in, in_mailbox, is_bound}
use Rattle.p2p_base.specs.Queue.{without_oldest}
use Rattle.p2p_log.specs.declared.item.Item.{Item}
use Rattle.p2p_log.specs.declared.item.Item.TheVariants as item
use Rattle.p2p_net_router.specs.Names.{bare, tag_of}
use Rattle.p2p_net_router.specs.Oldest.{send_of}
use Rattle.p2p_net_router.specs.Items.{messages_in}

pub first_of : {X : Type 0} (xs : List X) (x : X) → slice_get xs 0 ≡ Some x → xs ≡ x ∷ drop 1 xs
first_of [] x h = cc
first_of (y ∷ ys) x h = let e : y ≡ x = cc in ap (λ z. z ∷ ys) e

pub none_of : {X : Type 0} (xs : List X) → slice_get xs 0 ≡ None → xs ≡ []
none_of [] h = refl
none_of (y ∷ ys) h = cc

-- the messages, of which one is taken
pub messages_first : (b : Binding Key) (m : Message Key) → oldest_in b ≡ Some m → messages_in b ≡ m ∷ messages_in (in_mailbox without_oldest b)
messages_first Unbound m h = cc
messages_first (Bound q) m h = first_of q.items m h
messages_first Closed m h = cc

pub bound_first : (b : Binding Key) (m : Message Key) → oldest_in b ≡ Some m → is_bound b ≡ true
bound_first Unbound m h = cc
bound_first (Bound q) m h = refl
bound_first Closed m h = cc

pub messages_none : (b : Binding Key) → oldest_in b ≡ None → messages_in b ≡ []
messages_none Unbound h = refl
messages_none (Bound q) h = none_of q.items h
messages_none Closed h = refl

-- two lists that agree by their parts, of which one has a first element
pub record IsFirst {X Y Z : Type 0} (f : X → Z) (g : Y → Z) (x : X) (xs : List X) (line : List Y) : Type 0 where
  pub one : Y
  pub rest : List Y
  pub is : line ≡ one ∷ rest
  pub same : f x ≡ g one
  pub later : map f xs ≡ map g rest

pub first_same : {X Y Z : Type 0} (f : X → Z) (g : Y → Z) (x : X) (xs : List X) (line : List Y) → map f (x ∷ xs) ≡ map g line → IsFirst f g x xs line
first_same f g x xs [] h = cc
first_same f g x xs (y ∷ ys) h = record { one = y; rest = ys; is = refl; same = cc; later = cc }

pub none_same : {X Y Z : Type 0} (f : X → Z) (g : Y → Z) (line : List Y) → map f [] ≡ map g line → line ≡ []
none_same f g [] h = refl
none_same f g (y ∷ ys) h = cc

-- ---- an item by what is left without its name

pub bare-ready : (conn : ℕ) (k : Key) (i : Item) → item.Ready conn k ≡ bare i → i ≡ item.Ready conn k
bare-ready conn k (item.Ready c j) h = sym h
bare-ready conn k _ h = cc

pub bare-release : (k : Key) (i : Item) → item.Release k ≡ bare i → i ≡ item.Release k
bare-release k (item.Release j) h = sym h
bare-release k _ h = cc

pub bare-subscribe : (n : ℕ) (i : Item) → item.Subscribe n ≡ bare i → i ≡ item.Subscribe n
bare-subscribe n (item.Subscribe c) h = sym h
bare-subscribe n _ h = cc

pub bare-content : (n : ℕ) (frame : List ℕ) (priority : Bool) (to : List Key) (i : Item) → item.Content n frame priority 0 to ≡ bare i → i ≡ item.Content n frame priority (send_of (tag_of i)) to
bare-content n frame priority to (item.Content c f p s t) h =
    let a : c ≡ n = cc in
    let b : f ≡ frame = cc in
    let d : p ≡ priority = cc in
    let e : t ≡ to = cc in
    ap (λ x. item.Content x f p s t) a ∙ (ap (λ x. item.Content n x p s t) b ∙ (ap (λ x. item.Content n frame x s t) d ∙ ap (λ x. item.Content n frame priority s x) e))
bare-content n frame priority to _ h = cc

pub bare-frame : (frame : List ℕ) (i : Item) → item.Frame None frame ≡ bare i → i ≡ item.Frame (tag_of i) frame
bare-frame frame (item.Frame c f) h = let e : f ≡ frame = cc in ap (λ x. item.Frame c x) e
bare-frame frame _ h = cc
