-- What is still to be written of a type: a stack of pieces, of which the last one is written next.
use Rattle.std.specs.Prelude.{ℕ, zero, suc, ◌+◌, List, [], ◌∷◌, ◌++◌, Option, Some, None, slice_get, codes, decimal}
use Rattle.std.specs.Option.{option_map_or}
use Rattle.wit_data.specs.declared.types.Handle.{Handle}
use Rattle.wit_data.specs.declared.types.Handle.TheVariants as handle
use Rattle.wit_data.specs.declared.types.TypeDef.{TypeDef}
use Rattle.wit_data.specs.declared.types.TypeDefKind.{TypeDefKind}
use Rattle.wit_data.specs.declared.types.TypeDefKind.TheVariants as kind
use Rattle.wit_data.specs.declared.types.Type_.{Type_}
use Rattle.wit_data.specs.declared.types.Type_.TheVariants as type
use Rattle.wit_print.specs.Types.{type_within}
use Rattle.wit_print.specs.declared.types.Piece.{Piece}
use Rattle.wit_print.specs.declared.types.Piece.TheVariants as piece
use Rattle.wit_print.specs.declared.types.Sign.{Sign}
use Rattle.wit_print.specs.declared.types.Sign.TheVariants as sign

-- a sign as it is written
abbrev pub sign_text : Sign → List ℕ
sign_text sign.Close = codes ">"
sign_text sign.Comma = codes ", "
sign_text sign.Tuple = codes "tuple<"
sign_text sign.Option = codes "option<"
sign_text sign.Result = codes "result<"
sign_text sign.ErrorResult = codes "result<_, "
sign_text sign.BareResult = codes "result"
sign_text sign.List = codes "list<"
sign_text sign.Map = codes "map<"
sign_text sign.Future = codes "future<"
sign_text sign.BareFuture = codes "future"
sign_text sign.Stream = codes "stream<"
sign_text sign.BareStream = codes "stream"
sign_text sign.Own = codes "own<"
sign_text sign.Borrow = codes "borrow<"

-- what a piece is written as
abbrev pub piece_text : List TypeDef → Piece → List ℕ
piece_text types (piece.Sign s) = sign_text s
piece_text types (piece.Length len) = decimal len
piece_text types (piece.Part ty depth) = type_within types depth ty

-- what a stack is written as
unfoldable pub stack_text : List TypeDef → List Piece → List ℕ
stack_text types [] = []
stack_text types (p ∷ ps) = stack_text types ps ++ piece_text types p

-- ---- the pieces of a kind, the last one to be written first

abbrev pub form_pieces : Sign → Type_ → ℕ → List Piece
form_pieces head ty depth = piece.Sign sign.Close ∷ piece.Part ty depth ∷ piece.Sign head ∷ []

abbrev pub two_pieces : Sign → Type_ → Type_ → ℕ → List Piece
two_pieces head first second depth =
    piece.Sign sign.Close ∷ piece.Part second depth ∷ piece.Sign sign.Comma ∷ piece.Part first depth
    ∷ piece.Sign head ∷ []

abbrev pub optional_pieces : Sign → Sign → Option Type_ → ℕ → List Piece
optional_pieces word head None depth = piece.Sign word ∷ []
optional_pieces word head (Some ty) depth = form_pieces head ty depth

abbrev pub result_pieces : Option Type_ → Option Type_ → ℕ → List Piece
result_pieces None err depth = optional_pieces sign.BareResult sign.ErrorResult err depth
result_pieces (Some ok) None depth = form_pieces sign.Result ok depth
result_pieces (Some ok) (Some err) depth = two_pieces sign.Result ok err depth

abbrev pub fixed_list_pieces : Type_ → ℕ → ℕ → List Piece
fixed_list_pieces ty len depth =
    piece.Sign sign.Close ∷ piece.Length len ∷ piece.Sign sign.Comma ∷ piece.Part ty depth
    ∷ piece.Sign sign.List ∷ []

abbrev pub others_pieces : List Type_ → ℕ → List Piece
others_pieces [] depth = []
others_pieces (ty ∷ types) depth =
    others_pieces types depth ++ (piece.Part ty depth ∷ piece.Sign sign.Comma ∷ [])

abbrev pub tuple_pieces : List Type_ → ℕ → List Piece
tuple_pieces [] depth = piece.Sign sign.Close ∷ piece.Sign sign.Tuple ∷ []
tuple_pieces (ty ∷ others) depth =
    piece.Sign sign.Close
    ∷ (others_pieces others depth ++ (piece.Part ty depth ∷ piece.Sign sign.Tuple ∷ []))

abbrev pub handle_pieces : Handle → ℕ → List Piece
handle_pieces (handle.Own t) depth = piece.Part (type.Id t) depth ∷ []
handle_pieces (handle.Borrow t) depth = form_pieces sign.Borrow (type.Id t) depth

unfoldable pub kind_pieces : TypeDefKind → ℕ → List Piece
kind_pieces (kind.Handle h) depth = handle_pieces h depth
kind_pieces (kind.Tuple types) depth = tuple_pieces types depth
kind_pieces (kind.Option ty) depth = form_pieces sign.Option ty depth
kind_pieces (kind.Result_ ok err) depth = result_pieces ok err depth
kind_pieces (kind.List ty) depth = form_pieces sign.List ty depth
kind_pieces (kind.Map key value) depth = two_pieces sign.Map key value depth
kind_pieces (kind.FixedLengthList ty len) depth = fixed_list_pieces ty len depth
kind_pieces (kind.Future ty) depth = optional_pieces sign.BareFuture sign.Future ty depth
kind_pieces (kind.Stream ty) depth = optional_pieces sign.BareStream sign.Stream ty depth
kind_pieces (kind.Type_ ty) depth = piece.Part ty depth ∷ []
kind_pieces _ depth = []

-- the pieces of what the name of a definition stands for
abbrev pub defined_pieces : TypeDefKind → ℕ → List Piece
defined_pieces (kind.Handle (handle.Own t)) depth = form_pieces sign.Own (type.Id t) depth
defined_pieces k depth = kind_pieces k depth

-- ---- how many steps it takes to write a stack

-- the steps for pieces, where `inner` counts those for a type
abbrev pub steps_within : (Type_ → ℕ) → List Piece → ℕ
steps_within inner [] = 0
steps_within inner (piece.Sign s ∷ ps) = suc (steps_within inner ps)
steps_within inner (piece.Length len ∷ ps) = suc (steps_within inner ps)
steps_within inner (piece.Part ty depth ∷ ps) = inner ty + steps_within inner ps

-- the steps for what is opened of a type
abbrev pub opened_steps : List TypeDef → (TypeDefKind → ℕ) → Type_ → ℕ
opened_steps types opened (type.Id t) =
    option_map_or (λ (def : TypeDef). opened def.kind) (slice_get types t) 0
opened_steps types opened _ = 0

unfoldable pub type_steps : List TypeDef → ℕ → Type_ → ℕ
type_steps types zero ty = 1
type_steps types (suc depth) ty =
    suc (opened_steps types (λ k. steps_within (type_steps types depth) (kind_pieces k depth)) ty)

unfoldable pub stack_steps : List TypeDef → List Piece → ℕ
stack_steps types [] = 0
stack_steps types (piece.Sign s ∷ ps) = suc (stack_steps types ps)
stack_steps types (piece.Length len ∷ ps) = suc (stack_steps types ps)
stack_steps types (piece.Part ty depth ∷ ps) = type_steps types depth ty + stack_steps types ps
