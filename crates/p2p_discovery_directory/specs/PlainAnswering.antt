-- What a plain directory answers: what follows from the calls that it stands for.
use Rattle.std.specs.Prelude.{◌≡◌, List, ◌∷◌, Some}
use Rattle.std.specs.Option.{option_map}
use Rattle.std.specs.declared.cmp.Ordering.{Ordering}
use Rattle.p2p_tracker_calls.specs.BlockedKeys.{blocked_keys}
use Rattle.p2p_tracker_calls.specs.Blocks.{is_blockable}
use Rattle.p2p_tracker_calls.specs.Kills.{killed_keys}
use Rattle.p2p_tracker_calls.specs.Named.{EqualKeysAreOne}
use Rattle.p2p_tracker_calls.specs.Peers.{peers_of, latest_update}
use Rattle.p2p_tracker_calls.specs.Sets.{is_above, accepted_sets, kept_sets, set_at}
use Rattle.p2p_discovery_directory.specs.declared.call.Call.{Call}
use Rattle.p2p_discovery_directory.specs.declared.metadata.Metadata.TheVariants as side
use Rattle.p2p_discovery_directory.specs.Allows.{is_acceptable, allows_dial, allows_listen}
use Rattle.p2p_discovery_directory.specs.Answering.{Answering}
use Rattle.p2p_discovery_directory.specs.AsLookup.{lookup_calls, placed}
use Rattle.p2p_discovery_directory.specs.DialList.{dialable_keys, query_again_at}
use Rattle.p2p_discovery_directory.specs.Gossip.{infos_of, random_bit_vec}
use Rattle.p2p_discovery_directory.specs.Infos.{info_of}
use Rattle.p2p_discovery_directory.specs.Plain.{Plain, Represents}

module _ {P : Type 0} (cmp : P → P → Ordering) where
  -- it holds for each list of calls that the directory stands for
  abbrev pub ForCalls : Plain P → (List (Call P) → Type 0) → Type 0
  ForCalls d Q = (calls : List (Call P)) → Represents cmp d calls → Q calls

  -- the same where keys that are equal are one
  abbrev pub ForNamed : Plain P → (List (Call P) → Type 0) → Type 0
  ForNamed d Q = (calls : List (Call P)) → EqualKeysAreOne cmp → Represents cmp d calls → Q calls

module _ {P : Type 0} (cmp : P → P → Ordering) where
  abbrev pub answering_of : Answering (Plain P) P
  answering_of = record {
    becomes = λ d c after. ForCalls cmp d (λ calls. Represents cmp after (c ∷ calls));
    takes_in = λ d index b. ForCalls cmp d (λ calls. b ≡ is_above index (accepted_sets cmp (lookup_calls calls)));
    kills = λ d index peers k. ForNamed cmp d (λ calls. k ≡ killed_keys cmp d.peers.rules index (placed peers.primary) (placed peers.secondary) (lookup_calls calls));
    blocks = λ d q t b. ForCalls cmp d (λ calls. b ≡ is_blockable cmp d.peers.rules (lookup_calls calls) q t);
    blocked = λ d t r. ForNamed cmp d (λ calls. r ≡ blocked_keys cmp d.peers.rules (lookup_calls calls) t);
    accepts = λ d q t b. ForCalls cmp d (λ calls. b ≡ is_acceptable cmp d.peers.rules calls q t);
    grants_dial = λ d q t b. ForCalls cmp d (λ calls. b ≡ allows_dial cmp d.peers.rules d.own calls q t);
    dials = λ d q g. ForCalls cmp d (λ calls. option_map (λ i. side.Dialer q i.ingress) (info_of cmp d.peers.rules d.own calls q) ≡ Some g);
    grants_listen = λ d q t b. ForCalls cmp d (λ calls. b ≡ allows_listen cmp d.peers.rules d.own calls q t);
    lists = λ d t r. ForNamed cmp d (λ calls. r ≡ record {
      peers = dialable_keys cmp d.peers.rules d.own calls t;
      next_query_at = query_again_at cmp d.peers.rules d.own calls t;
    });
    peer_set = λ d index r. ForCalls cmp d (λ calls. r ≡ option_map peers_of (set_at index (kept_sets cmp d.peers.rules (lookup_calls calls))));
    update = λ d r. ForNamed cmp d (λ calls. r ≡ latest_update cmp d.peers.rules (lookup_calls calls));
    infos = λ d bits o. ForCalls cmp d (λ calls. o ≡ infos_of cmp d.peers.rules d.own calls bits.index bits.bits);
    bit_vec = λ d seed o. ForCalls cmp d (λ calls. o ≡ random_bit_vec cmp d.peers.rules d.own calls seed);
  }
