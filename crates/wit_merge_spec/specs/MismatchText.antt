-- What the messages of mismatches say (24). Such a message is a chain of links: in which package, in which interface or
-- world of it, in which entry or type, and then what differs there; what is told of functions is in
-- `wit_remap_spec/FunctionMismatch`.
-- Source: wit-parser 0.263.0.
use Rattle.std.specs.Prelude.{ℕ, Bool, false, true, List, [], ◌∷◌, ◌++◌, codes}
use Rattle.wit_names.specs.PackageName.{package_name_text}
use Rattle.wit_names.specs.declared.package_name.PackageName.{PackageName}

-- the links of a chain, and what follows the last
abbrev pub linked : List (List ℕ) → List ℕ → List ℕ
linked [] rest = rest
linked (link ∷ links) rest = link ++ (codes ": " ++ linked links rest)

-- ---- links

-- in a package, and in one of its interfaces or worlds; sort is `interface` or `world`
abbrev pub part_links : PackageName → List ℕ → List ℕ → List (List ℕ)
part_links home sort name =
    (codes "failed to merge package `" ++ (package_name_text home ++ codes "` into existing copy"))
    ∷ (codes "failed to merge " ++ (sort ++ (codes " `" ++ (name ++ codes "`")))) ∷ []

-- in an entry of a world, by what names its key in the incoming graph; word is `import` or `export`
abbrev pub entry_link : List ℕ → List ℕ → List ℕ
entry_link word k = word ++ (codes " `" ++ (k ++ codes "` didn't match target world"))

-- `import` or `export`
abbrev pub side_word : Bool → List ℕ
side_word false = codes "import"
side_word true = codes "export"

-- ---- what differs in worlds
