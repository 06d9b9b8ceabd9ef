-- The JSON that an input is.
use Rattle.std.specs.Prelude.{ℕ, List, Option, None, if◌then◌else◌}
use Rattle.std.specs.Str.{is_utf8}
use Rattle.serde_json.specs.Data.{Data}
use Rattle.serde_json.specs.Read.{read}

-- the value of an input that is UTF-8 and JSON
unfoldable pub json_of : List ℕ → Option Data
json_of input = if is_utf8 input then read input else None
