-- Who dialed the links, after one more entry, and in a longer log.
use Rattle.std.proofs.Common.{◌≡◌, ℕ, ◌+◌, ◌≤◌, Bool, true, false, cond, List, [], ◌∷◌, ◌++◌, length, length-append, arith, append_assoc, append-nil, Some, None, refl, ap, sym, ◌∙◌, eqb-true}
use Rattle.std.specs.Prelude.{◌==◌, nat_lt, slice_get, unwrap_or}
use Rattle.std.proofs.lemmas.Bool.Decides.{nat_tests}
use Rattle.std.proofs.lemmas.Option.{same_Some, slice_get_past}
use Rattle.p2p_address.specs.declared.ip.SocketAddr.{SocketAddr}
use Rattle.p2p_log.specs.declared.queue.Queue.{Queue}
use Rattle.p2p_log.specs.declared.item.Item.{Item}
use Rattle.p2p_log.specs.declared.entry.Entry.{Entry}
use Rattle.p2p_log.specs.declared.entry.Reply.{Reply}
use Rattle.p2p_log.specs.declared.entry.Reply.TheVariants as reply
use Rattle.p2p_log.specs.declared.event.Act.{Act}
use Rattle.p2p_log.specs.declared.event.Act.TheVariants as act
use Rattle.p2p_log.proofs.Places.{slice_get-append}
use Rattle.p2p_log_rules.specs.Dialed.{dialer_of}
use Rattle.p2p_log_rules.specs.Facts.{state_from, with_named}
use Rattle.p2p_log_rules.specs.Halves.{dials_link}
use Rattle.p2p_log_rules.specs.Tellings.{Telling, last_or}
use Rattle.p2p_log_rules.specs.Tellings as telling
use Rattle.p2p_log_rules.specs.Told.{done_tells, link_tells, tells, told}
use Rattle.p2p_log_rules.proofs.TellingKinds.{Kind}
use Rattle.p2p_log_rules.proofs.TellingKinds as kind
use Rattle.p2p_log_rules.proofs.Families.{telling_kind, kinds_of, has, are_apart}
use Rattle.p2p_log_rules.proofs.Ignoring.{reads_some, last_or-none, unwrap_named, by_entries}
use Rattle.p2p_log_rules.proofs.LinkTells.{weaker, tells_act, TellsNone, apart_none, linked_tells}
use Rattle.p2p_log_rules.proofs.Tellings.{told-append, last_or-append}

-- the kind of tellings by which a link is made
abbrev pub link_kinds : List Kind
link_kinds = kind.link_opened ∷ []

dial_reads : (k : ℕ) (t : Telling) → has link_kinds (telling_kind t) ≡ false → reads_some (dials_link k) t ≡ false
dial_reads k (telling.link_opened m j link to) h = cc
dial_reads k _ h = refl

module _ (log : List Entry) (e : Entry) where
  pub dialer_of-append : (k : ℕ) → dialer_of (log ++ e ∷ []) k ≡ last_or (dialer_of log k) (dials_link k) (tells (told log) log e)
  dialer_of-append k = ap (last_or None (dials_link k)) (told-append log e) ∙ last_or-append None (dials_link k) (told log) (tells (told log) log e)

  -- an entry that makes no link leaves them alone
  pub dialer_of-kept : TellsNone (told log) log e link_kinds → (k : ℕ) → dialer_of (log ++ e ∷ []) k ≡ dialer_of log k
  dialer_of-kept none k =
      dialer_of-append k
      ∙ last_or-none (dialer_of log k) (dials_link k) (tells (told log) log e) (weaker (λ t. has link_kinds (telling_kind t)) (reads_some (dials_link k)) (dial_reads k) (tells (told log) log e) none)

  -- one that makes a link is the name of one more
  pub dialer_of-linked : (d m to : ℕ) (from : SocketAddr) (one two : Queue × Item) (rest : List (Queue × Item)) → e.event.act ≡ act.Connect d from m to → e.reply ≡ reply.Ok → e.puts ≡ one ∷ two ∷ rest
      → (k : ℕ) → dialer_of (log ++ e ∷ []) k ≡ with_named (length log) (Some m) (dialer_of log) k
  dialer_of-linked d m to from one two rest acts done puts k =
      dialer_of-append k
      ∙ (ap (last_or (dialer_of log k) (dials_link k)) (linked_tells (told log) log e d m to from one two rest acts done puts) ∙ unwrap_named (k == length log) (Some m) (dialer_of log k))

  -- no entry changes a link of another name
  pub dialer_of-other : (k : ℕ) → (k == length log) ≡ false → dialer_of (log ++ e ∷ []) k ≡ dialer_of log k
  dialer_of-other k other = by e.event.act refl
    where
      Now : List Telling → Type 0
      Now us = last_or (dialer_of log k) (dials_link k) us ≡ dialer_of log k

      connects : (d m to : ℕ) (r : Reply) (puts : List (Queue × Item)) → Now (done_tells r (telling.dial_answered m d (length log) ∷ link_tells m d (length log) to puts))
      connects d m to reply.Ok (one ∷ two ∷ rest) = ap (λ b. unwrap_or (cond b (Some (Some m)) None) (dialer_of log k)) other
      connects d m to reply.Ok (one ∷ []) = refl
      connects d m to reply.Ok [] = refl
      connects d m to _ puts = refl

      by : (a : Act) → e.event.act ≡ a → dialer_of (log ++ e ∷ []) k ≡ dialer_of log k
      by (act.Connect d from m to) acts = dialer_of-append k ∙ (ap (last_or (dialer_of log k) (dials_link k)) (tells_act (told log) log e (act.Connect d from m to) acts) ∙ connects d m to e.reply e.puts)
      by a acts = dialer_of-kept (apart_none (told log) log e link_kinds (ap (λ b. are_apart (kinds_of b) link_kinds) acts)) k

dialer_of-none : (k : ℕ) → dialer_of [] k ≡ None
unfolding told state_from
dialer_of-none k = refl

-- past the end of the log there is no link
pub dialer_of-late : (log : List Entry) (k : ℕ) → length log ≤ k → dialer_of log k ≡ None
dialer_of-late log k = by_entries (λ l. length l ≤ k → dialer_of l k ≡ None) first more log
  where
    first : 0 ≤ k → dialer_of [] k ≡ None
    first past = dialer_of-none k

    other : (k a b : ℕ) → b ≡ a + 1 → b ≤ k → (k == a) ≡ false
    other k a b is past = grind (arith, nat_tests)

    less : (k a b : ℕ) → b ≡ a + 1 → b ≤ k → a ≤ k
    less k a b is past = omega (arith, is, past)

    more : (l : List Entry) (e : Entry) → (length l ≤ k → dialer_of l k ≡ None) → length (l ++ e ∷ []) ≤ k → dialer_of (l ++ e ∷ []) k ≡ None
    more l e none past =
        let longer : length (l ++ e ∷ []) ≡ length l + 1 = length-append l (e ∷ []) in
        dialer_of-other l e k (other k (length l) (length (l ++ e ∷ [])) longer past) ∙ none (less k (length l) (length (l ++ e ∷ [])) longer past)

-- who dialed a link that was made, dialed it
dialer_of-next : (log : List Entry) (e : Entry) (link d : ℕ) → dialer_of log link ≡ Some d → dialer_of (log ++ e ∷ []) link ≡ Some d
dialer_of-next log e link d there = by (link == length log) refl
  where
    at_end : (i m : ℕ) → i ≡ m → m ≤ i
    at_end i m is = omega (arith, is)

    by : (b : Bool) → (link == length log) ≡ b → dialer_of (log ++ e ∷ []) link ≡ Some d
    by true is = let late : dialer_of log link ≡ None = dialer_of-late log link (at_end link (length log) (eqb-true link (length log) is)) in cc
    by false other = dialer_of-other log e link other ∙ there

pub dialer_of-longer : (log more : List Entry) (link d : ℕ) → dialer_of log link ≡ Some d → dialer_of (log ++ more) link ≡ Some d
dialer_of-longer log [] link d there = ap (λ l. dialer_of l link) (append-nil log) ∙ there
dialer_of-longer log (e ∷ es) link d there = ap (λ l. dialer_of l link) (sym (append_assoc log (e ∷ []) es)) ∙ dialer_of-longer (log ++ e ∷ []) es link d (dialer_of-next log e link d there)

-- the entry of its name tells who dialed it
pub dialer_of-entry : (log : List Entry) (link : ℕ) (e : Entry) (d m to : ℕ) (from : SocketAddr) (one two : Queue × Item) (rest : List (Queue × Item)) → slice_get log link ≡ Some e → e.event.act ≡ act.Connect d from m to → e.reply ≡ reply.Ok
    → e.puts ≡ one ∷ two ∷ rest → dialer_of log link ≡ Some m
dialer_of-entry log link e d m to from one two rest at acts done puts = by_entries Tells first more log at
  where
    Tells : List Entry → Type 0
    Tells l = slice_get l link ≡ Some e → dialer_of l link ≡ Some m

    first : Tells []
    first is = let none : slice_get {X = Entry} [] link ≡ None = slice_get_past [] link (omega arith) in cc

    more : (l : List Entry) (x : Entry) → Tells l → Tells (l ++ x ∷ [])
    more l x old is = by (nat_lt link (length l)) (link == length l) refl (sym (slice_get-append l x link) ∙ is)
      where
        by : (b c : Bool) → (link == length l) ≡ c → cond b (slice_get l link) (cond c (Some x) None) ≡ Some e → dialer_of (l ++ x ∷ []) link ≡ Some m
        by true c last there = dialer_of-next l x link m (old there)
        by false true last there =
            let same : x ≡ e = same_Some x e there in
            dialer_of-linked l x d m to from one two rest (ap (λ (y : Entry). y.event.act) same ∙ acts) (ap (λ (y : Entry). y.reply) same ∙ done) (ap (λ (y : Entry). y.puts) same ∙ puts) link
            ∙ ap (λ b. cond b (Some m) (dialer_of l link)) last
        by false false last there = cc
