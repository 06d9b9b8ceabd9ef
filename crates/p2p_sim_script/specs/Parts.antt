-- The forms of what an event names: keys, bytes, recipients, rates.
use Prim.Native.String.{String as Name}
use Rattle.std.specs.Prelude.{ℕ, Bool, ◌-◌, ◌^◌, List, [], ◌∷◌, codes, bytes_eq, Option, Some, None, if◌then◌else◌}
use Rattle.std.specs.Result.{result_ok}
use Rattle.hex.specs.Hex.{decode_of}
use Rattle.serde_json.specs.Data.{Data}
use Rattle.serde_json.specs.Find.{as_str}
use Rattle.p2p_base.specs.declared.key.Key.{Key}
use Rattle.p2p_log.specs.declared.event.Rate.{Rate}
use Rattle.p2p_log.specs.declared.event.Recipients.{Recipients}
use Rattle.p2p_log.specs.declared.event.Recipients.TheVariants as recipients
use Rattle.p2p_sim_script.specs.Tree.{◌>>=◌, ◌>>◌, field, only, whole, within, list_of}

-- whether there are no names but these and those that every event has
abbrev pub has : List Name → Data → Bool
has names d = only ("at" ∷ "seed" ∷ "do" ∷ names) d

-- the node of an act that names nothing else
abbrev pub node_of : Data → Option ℕ
node_of d = do
  has ("node" ∷ []) d
  field "node" whole d

abbrev pub key_of : Data → Option Key
key_of d = do
  number ← whole d
  Some (record { 0 = number })

-- hexadecimal text of either case, two digits a byte
abbrev pub bytes_of : Data → Option (List ℕ)
bytes_of d = do
  text ← as_str d
  result_ok (decode_of text)

abbrev pub rate_of : Data → Option Rate
rate_of d = do
  only ("burst" ∷ "period" ∷ []) d
  burst ← field "burst" (within 1 (2 ^ 32 - 1)) d
  period ← field "period" (within 1 (2 ^ 64 - 1)) d
  Some (record { burst = burst; period = period })

-- whom a message is for: all, one key, or some
abbrev pub all_named : List ℕ → Option Recipients
all_named word = if bytes_eq word (codes "all") then Some recipients.All else None

abbrev pub all_of : Data → Option Recipients
all_of d = do
  word ← as_str d
  all_named word

abbrev pub one_of : Data → Option Recipients
one_of d = do
  only ("one" ∷ []) d
  key ← field "one" key_of d
  Some (recipients.One key)

abbrev pub some_of : Data → Option Recipients
some_of d = do
  only ("some" ∷ []) d
  keys ← field "some" (list_of key_of) d
  Some (recipients.Some keys)

abbrev pub keys_of : Data → Option Recipients
keys_of d = elim (one_of d) [ Some to ↦ Some to | None ↦ some_of d ]

abbrev pub recipients_of : Data → Option Recipients
recipients_of d = elim (all_of d) [ Some to ↦ Some to | None ↦ keys_of d ]
