-- Of what kind the items of each queue are, and which items carry no copy.
use Rattle.std.proofs.Common.{◌≡◌, ℕ, ◌+◌, Bool, true, false, cond, List, [], ◌∷◌, Some, refl, ap, sym, ◌∙◌}
use Rattle.std.specs.Prelude.{◌&&◌, not, count_by, flat_map}
use Rattle.std.specs.List.{AllByRecursion as Each}
use Rattle.std.proofs.lemmas.Bool.{false≢true}
use Rattle.std.proofs.lemmas.List.Sums.{sum_by-cons}
use Rattle.p2p_log.specs.declared.queue.Queue.{Queue}
use Rattle.p2p_log.specs.declared.queue.Queue.TheVariants as queue
use Rattle.p2p_log.specs.declared.item.Item.{Item}
use Rattle.p2p_log.specs.declared.item.Item.TheVariants as item
use Rattle.p2p_log.specs.declared.item.Envelope.{Envelope}
use Rattle.p2p_log.specs.declared.end.End.{End}
use Rattle.p2p_log.specs.declared.end.End.TheVariants as end
use Rattle.p2p_log.specs.Lines.{placed, ended_item}
use Rattle.p2p_log.specs.Copies.{carries_copy, carries, ends_copy}

-- whether an item is of the kind that its queue takes
abbrev pub fits : Queue → Item → Bool
fits (queue.Router n) (item.Subscribe c) = true
fits (queue.Router n) (item.Ready conn key) = true
fits (queue.Router n) (item.Release key) = true
fits (queue.Router n) (item.Content c frame priority send to) = true
fits (queue.Peers n c) (item.Peers keys) = true
fits (queue.RouterAnswer n conn) item.RouterAnswer = true
fits (queue.High n conn) (item.Frame copy frame) = true
fits (queue.Low n conn) (item.Frame copy frame) = true
fits (queue.Link link side) (item.Frame copy frame) = true
fits (queue.Held n conn) (item.Held c bytes copy) = true
fits (queue.Held n conn) item.Ping = true
fits (queue.Channel n c) (item.Message bytes copy from) = true
fits (queue.Tracker n) (item.Call e) = true
fits (queue.Tracker n) (item.Connect conn key) = true
fits (queue.Tracker n) item.AskDialable = true
fits (queue.Tracker n) (item.AskDial key) = true
fits (queue.Tracker n) (item.AskAcceptable name key) = true
fits (queue.Tracker n) (item.AskListen name key) = true
fits (queue.Tracker n) (item.Release key) = true
fits (queue.Addresses n) (item.Addresses ips) = true
fits (queue.Dialer n) (item.Dialable next peers) = true
fits (queue.Dialer n) (item.Dial grant) = true
fits (queue.Attempt n e) (item.Resolved addresses) = true
fits (queue.Attempt n e) item.Linked = true
fits (queue.Attempt n e) item.Refused = true
fits (queue.Attempt n e) (item.Finished ok) = true
fits (queue.Arrivals n) (item.Arrival from key link) = true
fits (queue.Handshake n name) (item.Acceptable accepts) = true
fits (queue.Handshake n name) (item.Finished ok) = true
fits (queue.Handshake n name) (item.Listen grant) = true
fits (queue.Spawner n) (item.Spawn key link) = true
fits (queue.Control n conn) item.Kill = true
fits (queue.PeerSet n e) (item.PeerSet peers) = true
fits (queue.PeerSetUpdates n e) (item.PeerSetUpdate update) = true
fits (queue.Blocked n e) (item.Blocked keys) = true
fits _ _ = false

abbrev pub Fits : Queue × Item → Type 0
Fits x = fits x.0 x.1 ≡ true

abbrev pub StandsFit : Envelope → Type 0
StandsFit x = fits x.queue x.item ≡ true

-- whether an item carries no copy
abbrev pub is_bare : Item → Bool
is_bare (item.Content c frame priority send to) = false
is_bare (item.Frame (Some copy) frame) = false
is_bare (item.Held c bytes copy) = false
is_bare (item.Message bytes copy from) = false
is_bare _ = true

-- whether an item tells of no copy and of no connection
abbrev pub is_idle : Item → Bool
is_idle (item.Ready conn key) = false
is_idle (item.Content c frame priority send to) = false
is_idle (item.Frame (Some copy) frame) = false
is_idle (item.Held c bytes copy) = false
is_idle (item.Message bytes copy from) = false
is_idle (item.Connect conn key) = false
is_idle _ = true

-- whether what a queue takes carries no copy
abbrev pub holds_bare : Queue → Bool
holds_bare (queue.Router n) = false
holds_bare (queue.High n conn) = false
holds_bare (queue.Low n conn) = false
holds_bare (queue.Link link side) = false
holds_bare (queue.Held n conn) = false
holds_bare (queue.Channel n c) = false
holds_bare _ = true

-- whether an end is of an item
abbrev pub is_item_end : End → Bool
is_item_end (end.Item n p) = true
is_item_end (end.Copy n p o) = false

holds_bare-none : (q : Queue) (i : Item) → (holds_bare q && (fits q i && not (is_bare i))) ≡ false
holds_bare-none (queue.Router n) i = refl
holds_bare-none (queue.High n conn) i = refl
holds_bare-none (queue.Low n conn) i = refl
holds_bare-none (queue.Link link side) i = refl
holds_bare-none (queue.Held n conn) i = refl
holds_bare-none (queue.Channel n c) i = refl
holds_bare-none _ (item.Content c frame priority send to) = refl
holds_bare-none _ (item.Frame copy frame) = refl
holds_bare-none _ (item.Held c bytes copy) = refl
holds_bare-none _ (item.Message bytes copy from) = refl
holds_bare-none _ _ = refl

pub bare_there : (q : Queue) (i : Item) → holds_bare q ≡ true → fits q i ≡ true → is_bare i ≡ true
bare_there q i holds fit = go (is_bare i) refl
  where
    go : (b : Bool) → is_bare i ≡ b → b ≡ true
    go true e = refl
    go false e = absurd (false≢true (sym (holds_bare-none q i) ∙ (ap (λ h. h && (fits q i && not (is_bare i))) holds ∙ (ap (λ f. f && not (is_bare i)) fit ∙ ap not e))))

pub bare_carries_none : (copy : ℕ × ℕ) (i : Item) → is_bare i ≡ true → carries_copy copy i ≡ false
bare_carries_none copy (item.Content c frame priority send to) h = absurd (cc)
bare_carries_none copy (item.Frame (Some other) frame) h = absurd (cc)
bare_carries_none copy (item.Held c bytes other) h = absurd (cc)
bare_carries_none copy (item.Message bytes other from) h = absurd (cc)
bare_carries_none copy _ h = refl

-- the puts of an entry, each in its envelope
pub count_by-placed : (copy : ℕ × ℕ) (n p : ℕ) (puts : List (Queue × Item)) → count_by (carries copy) (placed n p puts) ≡ count_by (λ x. carries_copy copy x.1) puts
count_by-placed copy n p [] = refl
count_by-placed copy n p (x ∷ xs) =
    sum_by-cons (λ y. cond (carries copy y) 1 0) (record { entry = n; place = p; queue = x.0; item = x.1 }) (placed n (p + 1) xs)
    ∙ (ap (λ m. cond (carries_copy copy x.1) 1 0 + m) (count_by-placed copy n (p + 1) xs) ∙ sym (sum_by-cons (λ y. cond (carries_copy copy y.1) 1 0) x xs))

pub Each-placed : (P : Queue × Item → Type 0) (n p : ℕ) (puts : List (Queue × Item)) → Each P puts → Each (λ x. P (x.queue, x.item)) (placed n p puts)
Each-placed P n p [] h = tt
Each-placed P n p (x ∷ xs) h = (h.0, Each-placed P n (p + 1) xs h.1)

-- ends of copies take no item away
pub ended_item-none : (ends : List End) → Each (λ d. is_item_end d ≡ false) ends → flat_map ended_item ends ≡ []
ended_item-none [] h = refl
ended_item-none (end.Item n p ∷ ends) h = absurd (cc)
ended_item-none (end.Copy n p o ∷ ends) h = ended_item-none ends h.1

-- ends of items end no copy
pub ends_copy-none : (copy : ℕ × ℕ) (d : End) → is_item_end d ≡ true → ends_copy copy d ≡ false
ends_copy-none copy (end.Item n p) h = refl
ends_copy-none copy (end.Copy n p o) h = absurd (cc)
