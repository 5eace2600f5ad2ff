-- What the pieces of a kind are written as, and how many steps that takes.
use Rattle.std.proofs.Common.{◌≡◌, ◌≢◌, ◌∙◌, ◌+◌, ◌-◌, ◌++◌, ◌<◌, ◌∷◌, [], ℕ, zero, suc, decimal, length, List, Option, Some, None, Result, Ok, Err, OnOk, ap, append_assoc, arith, map, refl, slice_get, sym, codes}
use Rattle.std.proofs.lemmas.List.{append-nil}
use Rattle.std.specs.List.{flat_map}
use Rattle.std.specs.Option.{option_map_or}
use Rattle.wit_data.specs.declared.types.Handle.{Handle}
use Rattle.wit_data.specs.declared.types.Handle.TheVariants as handle
use Rattle.wit_data.specs.declared.types.TypeDef.{TypeDef}
use Rattle.wit_data.specs.declared.types.TypeDefKind.{TypeDefKind}
use Rattle.wit_data.specs.declared.types.TypeDefKind.TheVariants as kind
use Rattle.wit_data.specs.declared.types.Type_.{Type_}
use Rattle.wit_data.specs.declared.types.Type_.TheVariants as type
use Rattle.wit_print.specs.Names.{name_wit}
use Rattle.wit_print.specs.Types.{defined_wit, form_wit, kind_wit, primitive_wit, result_wit, type_within}
use Rattle.wit_print.specs.declared.types.Piece.{Piece}
use Rattle.wit_print.specs.declared.types.Piece.TheVariants as piece
use Rattle.wit_print.specs.declared.types.Sign.{Sign}
use Rattle.wit_print.specs.declared.types.Sign.TheVariants as sign
use Rattle.wit_print.specs.steps.Pieces.{defined_pieces, form_pieces, kind_pieces, optional_pieces, others_pieces, piece_text, result_pieces, sign_text, stack_steps, stack_text, steps_within, tuple_pieces, two_pieces, type_steps}

-- ---- stacks

pub stack_text-append : (types : List TypeDef) (ps qs : List Piece) → stack_text types (ps ++ qs) ≡ stack_text types qs ++ stack_text types ps
unfolding stack_text
stack_text-append types [] qs = sym (append-nil (stack_text types qs))
stack_text-append types (p ∷ ps) qs =
    ap (λ l. l ++ piece_text types p) (stack_text-append types ps qs) ∙ append_assoc (stack_text types qs) (stack_text types ps) (piece_text types p)

-- the last piece is written first
pub stack_text-last : (types : List TypeDef) (ps : List Piece) (p : Piece) → stack_text types (ps ++ p ∷ []) ≡ piece_text types p ++ stack_text types ps
unfolding stack_text
stack_text-last types ps p = stack_text-append types ps (p ∷ [])

pub stack_steps-append : (types : List TypeDef) (ps qs : List Piece) → stack_steps types (ps ++ qs) ≡ stack_steps types ps + stack_steps types qs
unfolding stack_steps
stack_steps-append types [] qs = omega arith
stack_steps-append types (piece.Sign s ∷ ps) qs = omega (arith, stack_steps-append types ps qs)
stack_steps-append types (piece.Length len ∷ ps) qs = omega (arith, stack_steps-append types ps qs)
stack_steps-append types (piece.Part ty depth ∷ ps) qs = omega (arith, stack_steps-append types ps qs)

-- ---- kinds

-- the text of an inner type, as a part of a form
alone : (head text : List ℕ) → (head ++ text) ++ codes ">" ≡ form_wit head (text ∷ [])
alone head text = append_assoc head text (codes ">") ∙ ap (λ l. head ++ (l ++ codes ">")) (sym (append-nil text))

both : (head first second : List ℕ) → (((head ++ first) ++ codes ", ") ++ second) ++ codes ">" ≡ form_wit head (first ∷ second ∷ [])
both head first second = simp (append_assoc, append-nil)

form_text_of : (types : List TypeDef) (head : Sign) (ty : Type_) (depth : ℕ) → stack_text types (form_pieces head ty depth) ≡ form_wit (sign_text head) (type_within types depth ty ∷ [])
unfolding stack_text
form_text_of types head ty depth = alone (sign_text head) (type_within types depth ty)

two_text_of : (types : List TypeDef) (head : Sign) (a b : Type_) (depth : ℕ)
    → stack_text types (two_pieces head a b depth) ≡ form_wit (sign_text head) (type_within types depth a ∷ type_within types depth b ∷ [])
unfolding stack_text
two_text_of types head a b depth = both (sign_text head) (type_within types depth a) (type_within types depth b)

result_text_of : (types : List TypeDef) (ok err : Option Type_) (depth : ℕ) → stack_text types (result_pieces ok err depth) ≡ result_wit (type_within types depth) ok err
unfolding stack_text
result_text_of types None None depth = refl
result_text_of types None (Some err) depth = ap (λ l. codes "result<_, " ++ (l ++ codes ">")) (sym (append-nil (type_within types depth err)))
result_text_of types (Some ok) None depth = form_text_of types sign.Result ok depth
result_text_of types (Some ok) (Some err) depth = two_text_of types sign.Result ok err depth

others_text_of : (types : List TypeDef) (others : List Type_) (depth : ℕ)
    → stack_text types (others_pieces others depth) ≡ flat_map (λ l. codes ", " ++ l) (map (type_within types depth) others)
unfolding stack_text
others_text_of types [] depth = refl
others_text_of types (ty ∷ others) depth =
    stack_text-append types (others_pieces others depth) (piece.Part ty depth ∷ piece.Sign sign.Comma ∷ [])
    ∙ ap (λ l. (codes ", " ++ type_within types depth ty) ++ l) (others_text_of types others depth)

tuple_text_of : (types : List TypeDef) (parts : List Type_) (depth : ℕ) → stack_text types (tuple_pieces parts depth) ≡ form_wit (codes "tuple<") (map (type_within types depth) parts)
unfolding stack_text
tuple_text_of types [] depth = refl
tuple_text_of types (ty ∷ others) depth =
    ap (λ l. l ++ codes ">") (stack_text-append types (others_pieces others depth) (piece.Part ty depth ∷ piece.Sign sign.Tuple ∷ [])
    ∙ ap (λ l. (codes "tuple<" ++ type_within types depth ty) ++ l) (others_text_of types others depth))

pub kind_text_of : (types : List TypeDef) (k : TypeDefKind) (depth : ℕ) → stack_text types (kind_pieces k depth) ≡ kind_wit (type_within types depth) k
unfolding kind_pieces stack_text
kind_text_of types (kind.Handle (handle.Own t)) depth = refl
kind_text_of types (kind.Handle (handle.Borrow t)) depth = form_text_of types sign.Borrow (type.Id t) depth
kind_text_of types (kind.Tuple parts) depth = tuple_text_of types parts depth
kind_text_of types (kind.Option ty) depth = form_text_of types sign.Option ty depth
kind_text_of types (kind.Result_ ok err) depth = result_text_of types ok err depth
kind_text_of types (kind.List ty) depth = form_text_of types sign.List ty depth
kind_text_of types (kind.Map key value) depth = two_text_of types sign.Map key value depth
kind_text_of types (kind.FixedLengthList ty len) depth = both (codes "list<") (type_within types depth ty) (decimal len)
kind_text_of types (kind.Future None) depth = refl
kind_text_of types (kind.Future (Some ty)) depth = form_text_of types sign.Future ty depth
kind_text_of types (kind.Stream None) depth = refl
kind_text_of types (kind.Stream (Some ty)) depth = form_text_of types sign.Stream ty depth
kind_text_of types (kind.Type_ ty) depth = refl
kind_text_of types kind.Resource depth = refl
kind_text_of types kind.Unknown depth = refl
kind_text_of types (kind.Record fields) depth = refl
kind_text_of types (kind.Flags flags) depth = refl
kind_text_of types (kind.Variant cases) depth = refl
kind_text_of types (kind.Enum cases) depth = refl

pub defined_text_of : (types : List TypeDef) (k : TypeDefKind) → stack_text types (defined_pieces k (length types)) ≡ defined_wit types k
defined_text_of types (kind.Handle (handle.Own t)) = form_text_of types sign.Own (type.Id t) (length types)
defined_text_of types (kind.Handle (handle.Borrow t)) = kind_text_of types (kind.Handle (handle.Borrow t)) (length types)
defined_text_of types (kind.Tuple parts) = kind_text_of types (kind.Tuple parts) (length types)
defined_text_of types (kind.Option ty) = kind_text_of types (kind.Option ty) (length types)
defined_text_of types (kind.Result_ ok err) = kind_text_of types (kind.Result_ ok err) (length types)
defined_text_of types (kind.List ty) = kind_text_of types (kind.List ty) (length types)
defined_text_of types (kind.Map key value) = kind_text_of types (kind.Map key value) (length types)
defined_text_of types (kind.FixedLengthList ty len) = kind_text_of types (kind.FixedLengthList ty len) (length types)
defined_text_of types (kind.Future ty) = kind_text_of types (kind.Future ty) (length types)
defined_text_of types (kind.Stream ty) = kind_text_of types (kind.Stream ty) (length types)
defined_text_of types (kind.Type_ ty) = kind_text_of types (kind.Type_ ty) (length types)
defined_text_of types kind.Resource = kind_text_of types kind.Resource (length types)
defined_text_of types kind.Unknown = kind_text_of types kind.Unknown (length types)
defined_text_of types (kind.Record fields) = kind_text_of types (kind.Record fields) (length types)
defined_text_of types (kind.Flags flags) = kind_text_of types (kind.Flags flags) (length types)
defined_text_of types (kind.Variant cases) = kind_text_of types (kind.Variant cases) (length types)
defined_text_of types (kind.Enum cases) = kind_text_of types (kind.Enum cases) (length types)

-- ---- steps

steps_within-append : (inner : Type_ → ℕ) (ps qs : List Piece) → steps_within inner (ps ++ qs) ≡ steps_within inner ps + steps_within inner qs
steps_within-append inner [] qs = omega arith
steps_within-append inner (piece.Sign s ∷ ps) qs = omega (arith, steps_within-append inner ps qs)
steps_within-append inner (piece.Length len ∷ ps) qs = omega (arith, steps_within-append inner ps qs)
steps_within-append inner (piece.Part ty depth ∷ ps) qs = omega (arith, steps_within-append inner ps qs)

others_steps : (types : List TypeDef) (others : List Type_) (depth : ℕ) → stack_steps types (others_pieces others depth) ≡ steps_within (type_steps types depth) (others_pieces others depth)
unfolding stack_steps
others_steps types [] depth = refl
others_steps types (ty ∷ others) depth =
    let last = piece.Part ty depth ∷ piece.Sign sign.Comma ∷ [] in
    omega (arith, stack_steps-append types (others_pieces others depth) last, steps_within-append (type_steps types depth) (others_pieces others depth) last, others_steps types others depth)

tuple_steps : (types : List TypeDef) (parts : List Type_) (depth : ℕ) → stack_steps types (tuple_pieces parts depth) ≡ steps_within (type_steps types depth) (tuple_pieces parts depth)
unfolding stack_steps
tuple_steps types [] depth = refl
tuple_steps types (ty ∷ others) depth =
    let last = piece.Part ty depth ∷ piece.Sign sign.Tuple ∷ [] in
    omega (arith, stack_steps-append types (others_pieces others depth) last, steps_within-append (type_steps types depth) (others_pieces others depth) last, others_steps types others depth)

optional_steps : (types : List TypeDef) (word head : Sign) (ty : Option Type_) (depth : ℕ)
    → stack_steps types (optional_pieces word head ty depth) ≡ steps_within (type_steps types depth) (optional_pieces word head ty depth)
unfolding stack_steps
optional_steps types word head None depth = refl
optional_steps types word head (Some ty) depth = refl

pub kind_steps : (types : List TypeDef) (k : TypeDefKind) (depth : ℕ) → stack_steps types (kind_pieces k depth) ≡ steps_within (type_steps types depth) (kind_pieces k depth)
unfolding kind_pieces stack_steps
kind_steps types (kind.Handle (handle.Own t)) depth = refl
kind_steps types (kind.Handle (handle.Borrow t)) depth = refl
kind_steps types (kind.Tuple parts) depth = tuple_steps types parts depth
kind_steps types (kind.Option ty) depth = refl
kind_steps types (kind.Result_ None err) depth = optional_steps types sign.BareResult sign.ErrorResult err depth
kind_steps types (kind.Result_ (Some ok) None) depth = refl
kind_steps types (kind.Result_ (Some ok) (Some err)) depth = refl
kind_steps types (kind.List ty) depth = refl
kind_steps types (kind.Map key value) depth = refl
kind_steps types (kind.FixedLengthList ty len) depth = refl
kind_steps types (kind.Future ty) depth = optional_steps types sign.BareFuture sign.Future ty depth
kind_steps types (kind.Stream ty) depth = optional_steps types sign.BareStream sign.Stream ty depth
kind_steps types (kind.Type_ ty) depth = refl
kind_steps types kind.Resource depth = refl
kind_steps types kind.Unknown depth = refl
kind_steps types (kind.Record fields) depth = refl
kind_steps types (kind.Flags flags) depth = refl
kind_steps types (kind.Variant cases) depth = refl
kind_steps types (kind.Enum cases) depth = refl

-- ---- types

pub some_step : (types : List TypeDef) (depth : ℕ) (ty : Type_) → 0 < type_steps types depth ty
unfolding type_steps
some_step types zero ty = omega arith
some_step types (suc depth) ty = omega arith

-- a type of the list
abbrev def_wit : (TypeDefKind → List ℕ) → TypeDef → List ℕ
def_wit opened def = option_map_or name_wit def.name (opened def.kind)

-- what isn't of the list is written as a word
pub as_word : (types : List TypeDef) (depth : ℕ) (ty : Type_) → ((t : ℕ) → ty ≢ type.Id t) → type_within types depth ty ≡ primitive_wit ty
unfolding type_within
as_word types depth (type.Id t) other = absurd (other t refl)
as_word types zero type.Bool other = refl
as_word types zero type.U8 other = refl
as_word types zero type.U16 other = refl
as_word types zero type.U32 other = refl
as_word types zero type.U64 other = refl
as_word types zero type.S8 other = refl
as_word types zero type.S16 other = refl
as_word types zero type.S32 other = refl
as_word types zero type.S64 other = refl
as_word types zero type.F32 other = refl
as_word types zero type.F64 other = refl
as_word types zero type.Char other = refl
as_word types zero type.String other = refl
as_word types zero type.ErrorContext other = refl
as_word types (suc depth) type.Bool other = refl
as_word types (suc depth) type.U8 other = refl
as_word types (suc depth) type.U16 other = refl
as_word types (suc depth) type.U32 other = refl
as_word types (suc depth) type.U64 other = refl
as_word types (suc depth) type.S8 other = refl
as_word types (suc depth) type.S16 other = refl
as_word types (suc depth) type.S32 other = refl
as_word types (suc depth) type.S64 other = refl
as_word types (suc depth) type.F32 other = refl
as_word types (suc depth) type.F64 other = refl
as_word types (suc depth) type.Char other = refl
as_word types (suc depth) type.String other = refl
as_word types (suc depth) type.ErrorContext other = refl

-- a type that isn't there is written as nothing
pub as_nothing : (types : List TypeDef) (depth t : ℕ) → slice_get types t ≡ None → type_within types depth (type.Id t) ≡ []
unfolding type_within
as_nothing types zero t none = ap (λ (d : Option TypeDef). option_map_or (def_wit (λ k. [])) d []) none
as_nothing types (suc depth) t none = ap (λ (d : Option TypeDef). option_map_or (def_wit (kind_wit (type_within types depth))) d []) none

-- a type with a name is written as this
pub as_name : (types : List TypeDef) (depth t : ℕ) (def : TypeDef) (name : List ℕ) → slice_get types t ≡ Some def → def.name ≡ Some name
    → type_within types depth (type.Id t) ≡ name_wit name
unfolding type_within
as_name types zero t def name there is =
    ap (λ (d : Option TypeDef). option_map_or (def_wit (λ k. [])) d []) there ∙ ap (λ (n : Option (List ℕ)). option_map_or name_wit n []) is
as_name types (suc depth) t def name there is =
    ap (λ (d : Option TypeDef). option_map_or (def_wit (kind_wit (type_within types depth))) d []) there
    ∙ ap (λ (n : Option (List ℕ)). option_map_or name_wit n (kind_wit (type_within types depth) def.kind)) is

-- no more is opened where nothing may be
pub as_cut : (types : List TypeDef) (t : ℕ) (def : TypeDef) → slice_get types t ≡ Some def → def.name ≡ None → type_within types 0 (type.Id t) ≡ []
unfolding type_within
as_cut types t def there is =
    ap (λ (d : Option TypeDef). option_map_or (def_wit (λ k. [])) d []) there ∙ ap (λ (n : Option (List ℕ)). option_map_or name_wit n []) is

-- a type without a name is written as its kind
pub as_kind : (types : List TypeDef) (depth t : ℕ) (def : TypeDef) → slice_get types t ≡ Some def → def.name ≡ None
    → type_within types (suc depth) (type.Id t) ≡ stack_text types (kind_pieces def.kind depth)
unfolding type_within
as_kind types depth t def there is =
    ap (λ (d : Option TypeDef). option_map_or (def_wit (kind_wit (type_within types depth))) d []) there
    ∙ (ap (λ (n : Option (List ℕ)). option_map_or name_wit n (kind_wit (type_within types depth) def.kind)) is ∙ sym (kind_text_of types def.kind depth))

-- with one step more than its pieces
pub kind_step : (types : List TypeDef) (depth t : ℕ) (def : TypeDef) → slice_get types t ≡ Some def
    → type_steps types (suc depth) (type.Id t) ≡ suc (stack_steps types (kind_pieces def.kind depth))
unfolding type_steps
kind_step types depth t def there =
    ap (λ (d : Option TypeDef). suc (option_map_or (λ (def : TypeDef). steps_within (type_steps types depth) (kind_pieces def.kind depth)) d 0)) there
    ∙ ap suc (sym (kind_steps types def.kind depth))

-- ---- a part is written, or its pieces are put on a stack

-- what is written where the stack stays
pub written : {X E : Type 0} (told : Result X E) (types : List TypeDef) (stack : List Piece) (end start part text : List ℕ) → part ≡ text → OnOk told (end ≡ start ++ text)
    → OnOk told (end ++ stack_text types stack ≡ start ++ (part ++ stack_text types stack))
written (Ok x) types stack end start part text is had =
    ap (λ l. l ++ stack_text types stack) (had ∙ ap (λ l. start ++ l) (sym is)) ∙ append_assoc start part (stack_text types stack)
written (Err e) types stack end start part text is had = tt

-- what is put on the stack
pub put : {X E : Type 0} (told : Result X E) (types : List TypeDef) (old new pieces : List Piece) (start part : List ℕ) → part ≡ stack_text types pieces → OnOk told (new ≡ old ++ pieces)
    → OnOk told (start ++ stack_text types new ≡ start ++ (part ++ stack_text types old))
put (Ok x) types old new pieces start part is had =
    ap (λ l. start ++ l) (ap (stack_text types) had ∙ (stack_text-append types old pieces ∙ ap (λ l. l ++ stack_text types old) (sym is)))
put (Err e) types old new pieces start part is had = tt

pub put_steps : {X E : Type 0} (told : Result X E) (types : List TypeDef) (old new pieces : List Piece) (steps : ℕ) → steps ≡ suc (stack_steps types pieces) → OnOk told (new ≡ old ++ pieces)
    → OnOk told (stack_steps types new < steps + stack_steps types old)
put_steps (Ok x) types old new pieces steps is had = omega (arith, ap (stack_steps types) had, stack_steps-append types old pieces)
put_steps (Err e) types old new pieces steps is had = tt

-- a step where the stack stays
pub stays_steps : {X E : Type 0} (told : Result X E) (types : List TypeDef) (stack : List Piece) (depth : ℕ) (ty : Type_)
    → OnOk told (stack_steps types stack < type_steps types depth ty + stack_steps types stack)
stays_steps (Ok x) types stack depth ty = omega (arith, some_step types depth ty)
stays_steps (Err e) types stack depth ty = tt

-- a part that is written as nothing
pub nothing_written : (types : List TypeDef) (stack : List Piece) (start part : List ℕ) → part ≡ [] → start ++ stack_text types stack ≡ start ++ (part ++ stack_text types stack)
nothing_written types stack start part is = ap (λ l. start ++ (l ++ stack_text types stack)) (sym is)

-- ---- a piece is written

pub piece_written : {X E : Type 0} (told : Result X E) (types : List TypeDef) (stack : List Piece) (p : Piece) (end start text : List ℕ) → piece_text types p ≡ text → OnOk told (end ≡ start ++ text)
    → OnOk told (end ++ stack_text types stack ≡ start ++ stack_text types (stack ++ p ∷ []))
piece_written (Ok x) types stack p end start text is had =
    ap (λ l. l ++ stack_text types stack) (had ∙ ap (λ l. start ++ l) (sym is))
    ∙ (append_assoc start (piece_text types p) (stack_text types stack) ∙ ap (λ l. start ++ l) (sym (stack_text-last types stack p)))
piece_written (Err e) types stack p end start text is had = tt

pub sign_step : {X E : Type 0} (told : Result X E) (types : List TypeDef) (stack : List Piece) (s : Sign) → OnOk told (stack_steps types stack < stack_steps types (stack ++ piece.Sign s ∷ []))
unfolding stack_steps
sign_step (Ok x) types stack s = omega (arith, stack_steps-append types stack (piece.Sign s ∷ []))
sign_step (Err e) types stack s = tt

pub length_step : {X E : Type 0} (told : Result X E) (types : List TypeDef) (stack : List Piece) (len : ℕ) → OnOk told (stack_steps types stack < stack_steps types (stack ++ piece.Length len ∷ []))
unfolding stack_steps
length_step (Ok x) types stack len = omega (arith, stack_steps-append types stack (piece.Length len ∷ []))
length_step (Err e) types stack len = tt

pub part_written : {X E : Type 0} (told : Result X E) (types : List TypeDef) (stack : List Piece) (ty : Type_) (depth : ℕ) (end start : List ℕ)
    → OnOk told (end ≡ start ++ (type_within types depth ty ++ stack_text types stack)) → OnOk told (end ≡ start ++ stack_text types (stack ++ piece.Part ty depth ∷ []))
part_written (Ok x) types stack ty depth end start had = had ∙ ap (λ l. start ++ l) (sym (stack_text-last types stack (piece.Part ty depth)))
part_written (Err e) types stack ty depth end start had = tt

pub part_step : {X E : Type 0} (told : Result X E) (types : List TypeDef) (stack : List Piece) (ty : Type_) (depth steps : ℕ)
    → OnOk told (steps < type_steps types depth ty + stack_steps types stack) → OnOk told (steps < stack_steps types (stack ++ piece.Part ty depth ∷ []))
unfolding stack_steps
part_step (Ok x) types stack ty depth steps had = omega (arith, had, stack_steps-append types stack (piece.Part ty depth ∷ []))
part_step (Err e) types stack ty depth steps had = tt

-- ---- a stack is written

pub all_written : (types : List TypeDef) (stack : List Piece) (text all : List ℕ) → stack ≡ [] → text ++ stack_text types stack ≡ all → text ≡ all
unfolding stack_text
all_written types stack text all empty had = sym (append-nil text) ∙ (ap (λ s. text ++ stack_text types s) (sym empty) ∙ had)

pub defined_written : {X E : Type 0} (told : Result X E) (types : List TypeDef) (stack : List Piece) (k : TypeDefKind) (end start : List ℕ) → stack ≡ defined_pieces k (length types)
    → OnOk told (end ≡ start ++ stack_text types stack) → OnOk told (end ≡ start ++ defined_wit types k)
defined_written (Ok x) types stack k end start is had = had ∙ ap (λ l. start ++ l) (ap (stack_text types) is ∙ defined_text_of types k)
defined_written (Err e) types stack k end start is had = tt

pub type_written : {X E : Type 0} (told : Result X E) (types : List TypeDef) (stack : List Piece) (ty : Type_) (end start : List ℕ) → stack ≡ piece.Part ty (length types) ∷ []
    → OnOk told (end ≡ start ++ stack_text types stack) → OnOk told (end ≡ start ++ type_within types (length types) ty)
unfolding stack_text
type_written (Ok x) types stack ty end start is had = had ∙ ap (λ l. start ++ l) (ap (stack_text types) is)
type_written (Err e) types stack ty end start is had = tt
