-- What a status tells of the source, the sink and the world.
use Rattle.std.specs.Prelude.{◌≡◌, ℕ, ◌+◌, ◌≤◌, ◌↔◌, ◌⊎◌, List, [], length, Option, Some, None, IfSome, Result, Ok, Err}
use Rattle.serde_json.specs.Data.{Data}
use Rattle.p2p_sim_script.specs.Input.{json_of}
use Rattle.p2p_sim.specs.Streams.{Takes, Adds, AddsFront}
use Rattle.p2p_sim.specs.Faults.{status_of, line_of}
use Rattle.p2p_sim.specs.Judged.{judged, status_due}
use Rattle.p2p_sim.specs.declared.fault.Fault.{Fault}
use Rattle.p2p_sim.specs.declared.status.Status.{Status}
use Rattle.p2p_sim.specs.declared.status.Status.TheVariants as status

-- the status tells why the input isn't run
abbrev pub IsRefusal : Status → Type 0
IsRefusal status.NotJson = Unit {0}
IsRefusal status.NotScript = Unit {0}
IsRefusal status.Config = Unit {0}
IsRefusal status.Event = Unit {0}
IsRefusal _ = ⊥

-- the status comes before anything is written
abbrev pub IsSilent : Status → Type 0
IsSilent status.Usage = Unit {0}
IsSilent status.ReadFault = Unit {0}
IsSilent status.TooLong = Unit {0}
IsSilent status.Memory = Unit {0}
IsSilent _ = ⊥

-- the status of a command that reads nothing
abbrev pub IsOfWriting : Status → Type 0
IsOfWriting said = (said ≡ status.Ok) ⊎ ((said ≡ status.WriteFault) ⊎ (said ≡ status.Memory))

-- the source was read: at most one byte more than the limit was taken, which one status tells, and each that tells of an input comes at the end
pub record HasRead (limit : ℕ) (said : Status) (left rest : Option (List ℕ)) : Type 0 where
  pub taken : List ℕ
  pub takes : Takes left taken rest
  pub within : length taken ≤ limit + 1
  pub too_long : (said ≡ status.TooLong) ↔ (length taken ≡ limit + 1)
  pub at_end : ¬ IsSilent said → IfSome rest (λ bytes. bytes ≡ [])

-- the sink got the text after `Ok`, and a front of it where writing stopped
pub record HasWritten (text : List ℕ) (said : Status) (held now : Option (List ℕ)) : Type 0 where
  pub told : IsOfWriting said
  pub whole : said ≡ status.Ok → Adds held text now
  pub front : said ≡ status.WriteFault → AddsFront held text now

-- the input was run: it is a JSON tree that the program doesn't refuse, the world that is left ran it, and the sink got the report
pub record HasRun {W : Type 0} (refusal_of : Data → Option Fault) (Runs : Data → W → List ℕ → Type 0) (input : List ℕ) (held now : Option (List ℕ)) (left : Option W) : Type 0 where
  pub tree : Data
  pub world : W
  pub report : List ℕ
  pub reads : json_of input ≡ Some tree
  pub accepted : refusal_of tree ≡ None
  pub ran : Runs tree world report
  pub leaves : left ≡ Some world
  pub writes : Adds held report now

-- the input wasn't run: the status tells the cause, and the sink got its line
pub record HasRefused (refusal_of : Data → Option Fault) (input : List ℕ) (said : Status) (held now : Option (List ℕ)) : Type 0 where
  pub cause : Fault
  pub refused : judged refusal_of input ≡ Err cause
  pub says : said ≡ status_of cause
  pub writes : Adds held (line_of cause) now

-- the text that is due: the report of a world that ran the tree, or the line of the cause
abbrev pub IsDue : {W : Type 0} → (Data → W → List ℕ → Type 0) → Result Data Fault → List ℕ → Type 0
IsDue {W} Runs (Ok tree) text = (world : W) × Runs tree world text
IsDue Runs (Err cause) text = text ≡ line_of cause

-- writing stopped: the sink got a front of the text that is due
pub record HasStopped {W : Type 0} (refusal_of : Data → Option Fault) (Runs : Data → W → List ℕ → Type 0) (input : List ℕ) (held now : Option (List ℕ)) : Type 0 where
  pub text : List ℕ
  pub due : IsDue Runs (judged refusal_of input) text
  pub front : AddsFront held text now

-- the input alone decides the status, but for faults of the streams and want of memory
abbrev pub IsDecided : (Data → Option Fault) → List ℕ → Status → Type 0
IsDecided refusal_of input said = (said ≡ status_due (judged refusal_of input)) ⊎ ((said ≡ status.ReadFault) ⊎ ((said ≡ status.WriteFault) ⊎ (said ≡ status.Memory)))
