-- What contracts see of a table under texts.
use Rattle.std.specs.Prelude.{ℕ, List, ◌++◌, map, String, string_bytes}
use Rattle.std.specs.Borrow.{Bor}
use Rattle.std.specs.Map.{lookup, remove_entry}
use Rattle.std.specs.Option.{option_to_list}
use Rattle.std.specs.Str.{bytes_eq}
use Rattle.std.specs.declared.alloc.Global.{Global}

-- the pairs, with each key as its bytes
abbrev pub named : {V : Type 0} → List (String Global × V) → List (List ℕ × V)
named es = map (λ e. (string_bytes e.0, e.1)) es

-- what a pair of references points to
abbrev pub deref_named : {V : Type 0} → Bor (List ℕ) × Bor V → List ℕ × V
deref_named p = (p.0.now, p.1.now)

-- the pairs, of which the one under a key comes last
abbrev pub moved_last : {V : Type 0} → List ℕ → List (List ℕ × V) → List (List ℕ × V)
moved_last key es =
    remove_entry (bytes_eq key) es
    ++ map (λ v. (key, v)) (option_to_list (lookup (bytes_eq key) es))
