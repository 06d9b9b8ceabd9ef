-- What a tree is seen as.
use Rattle.std.specs.Prelude.{List, [], Option, Some, None}
use Rattle.std.proofs.Common.{Box}
use Rattle.std.specs.declared.alloc.Global.{Global}

-- the items below a link, in order
abbrev pub listed : {X : Type 0} → Option (Box (List X) Global) → List X
listed None = []
listed (Some b) = b.value
