-- What contracts see of a set of texts.
use Rattle.std.specs.Prelude.{ℕ, List, map, String, string_bytes}
use Rattle.std.specs.declared.alloc.Global.{Global}

-- the bytes of each text
abbrev pub texts_of : List (String Global) → List (List ℕ)
texts_of texts = map string_bytes texts
