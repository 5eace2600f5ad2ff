-- The words with which lines of a package begin.
use Rattle.std.specs.Prelude.{ℕ, List, [], ◌∷◌, Option, Some, None, codes, if◌then◌else◌, bytes_eq}
use Rattle.wit_script_lines.specs.declared.package_line.LineWord.{LineWord}
use Rattle.wit_script_lines.specs.declared.package_line.LineWord.TheVariants as begins

-- a word as it is written
abbrev pub word_text : LineWord → List ℕ
word_text begins.Interface = codes "interface"
word_text begins.World = codes "world"
word_text begins.Type_ = codes "type"
word_text begins.Record = codes "record"
word_text begins.Resource = codes "resource"
word_text begins.Use = codes "use"
word_text begins.Function = codes "func"
word_text begins.Import = codes "import"
word_text begins.Export = codes "export"
word_text begins.ImportFunction = codes "import-func"
word_text begins.ExportFunction = codes "export-func"
word_text begins.Include = codes "include"

-- the first of some words that a token is
abbrev pub word_among : List LineWord → List ℕ → Option LineWord
word_among [] token = None
word_among (word ∷ words) token =
    if bytes_eq token (word_text word) then Some word else word_among words token

-- all of them
abbrev pub line_words : List LineWord
line_words =
    begins.Use ∷ begins.Type_ ∷ begins.Function ∷ begins.Interface ∷ begins.Import ∷ begins.Export
    ∷ begins.World ∷ begins.Record ∷ begins.Resource
    ∷ begins.Include ∷ begins.ImportFunction ∷ begins.ExportFunction ∷ []

-- the word that a token is, or None where no line of a package begins with it
abbrev pub line_word : List ℕ → Option LineWord
line_word token = word_among line_words token
