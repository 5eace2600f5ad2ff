-- Faults, their places and what they say.
use Rattle.std.specs.Fmt.{debug_char, digits}
use Rattle.std.specs.Prelude.{ℕ, false, List, [], ◌∷◌, ◌++◌, Option, Some, option_map, codes, decimal}
use Rattle.wit_sources.specs.Lines.{column, line_number}
use Rattle.wit_text.specs.declared.fault.FaultKind.{FaultKind}
use Rattle.wit_text.specs.declared.fault.FaultKind.TheVariants as fault
use Rattle.wit_text.specs.declared.fault.TokenFault.{TokenFault}
use Rattle.wit_text.specs.declared.fault.TokensFault.{TokensFault}
use Rattle.wit_text.specs.declared.fault.TokensFault.TheVariants as tokens

-- a fault at a position of a text
abbrev pub fault_at : List ℕ → ℕ → FaultKind → TokenFault
fault_at text at kind =
    record { kind = kind; at = at; line = line_number text at; column = column text at }

-- a character as its code between quotes, as '\u{202e}', before what follows
abbrev pub escaped : ℕ → List ℕ → List ℕ
escaped c rest = 39 ∷ 92 ∷ 117 ∷ 123 ∷ (digits 16 false c ++ 125 ∷ 39 ∷ rest)

-- what a fault says; how std shows a character past ASCII isn't said
abbrev pub fault_text : FaultKind → Option (List ℕ)
fault_text (fault.Unexpected c) =
    option_map (λ shown. codes "unexpected character " ++ shown) (debug_char c)
fault_text fault.UnterminatedComment = Some (codes "unterminated block comment")
fault_text (fault.ControlCode c) = Some (codes "Control code " ++ escaped c [])
fault_text (fault.BidirectionalOverride c) =
    Some (codes "Input contains bidirectional override codepoint " ++ escaped c [])
fault_text (fault.Discouraged c) =
    Some (codes "Codepoint " ++ escaped c (codes " is discouraged by Unicode"))

-- `line:column: ` before what is told
abbrev pub placed : ℕ → ℕ → List ℕ → List ℕ
placed line column told = decimal line ++ (codes ":" ++ (decimal column ++ (codes ": " ++ told)))

abbrev pub placed_text : TokenFault → Option (List ℕ)
placed_text f = option_map (placed f.line f.column) (fault_text f.kind)

abbrev pub tokens_fault_text : TokensFault → Option (List ℕ)
tokens_fault_text (tokens.Fault f) = placed_text f
tokens_fault_text tokens.OutOfMemory = Some (codes "out of memory")
