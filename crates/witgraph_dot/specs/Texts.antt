-- Texts as they stand in a picture.
use Rattle.std.specs.Prelude.{ℕ, List, ◌++◌, codes, nat_eq, if◌then◌else◌}
use Rattle.std.specs.Char.{encode_utf8}
use Rattle.std.specs.List.{flat_map}
use Rattle.std.specs.Str.{chars}
use Rattle.wit_names.specs.PackageName.{version_suffix}
use Rattle.wit_names.specs.declared.package_name.PackageName.{PackageName}

-- between the quotes of a label: a quotation mark, a backslash and an ampersand stand for themselves
abbrev pub quoted_char : ℕ → List ℕ
quoted_char c =
    if nat_eq c 34 then codes "\\\""
    else if nat_eq c 92 then codes "\\\\" else if nat_eq c 38 then codes "&amp;" else encode_utf8 c

-- a text there
abbrev pub quoted_text : List ℕ → List ℕ
quoted_text text = flat_map quoted_char (chars text)

-- the name of a package there
abbrev pub quoted_name : PackageName → List ℕ
quoted_name p =
    quoted_text p.namespace ++ (codes ":" ++ (quoted_text p.name ++ version_suffix p.version))

-- in a label of HTML: the signs of its marks, a space and the end of a line stand for themselves
abbrev pub html_char : ℕ → List ℕ
html_char c =
    if nat_eq c 60 then codes "&lt;"
    else if nat_eq c 62 then codes "&gt;"
    else if nat_eq c 34 then codes "&quot;"
    else if nat_eq c 38 then codes "&amp;"
    else if nat_eq c 32 then codes "&#160;"
    else if nat_eq c 10 then codes "<br align=\"left\"/>"
    else encode_utf8 c

-- a text there
abbrev pub html_text : List ℕ → List ℕ
html_text text = flat_map html_char (chars text)
