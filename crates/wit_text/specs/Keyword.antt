-- The words that WIT has taken.
use Rattle.std.specs.Prelude.{ℕ, List, [], ◌∷◌, Option, codes, bytes_eq, find}
use Rattle.wit_text.specs.declared.keyword.Keyword.{Keyword}
use Rattle.wit_text.specs.declared.keyword.Keyword.TheVariants as keyword

-- a keyword as it is written
abbrev pub keyword_text : Keyword → List ℕ
keyword_text keyword.Use = codes "use"
keyword_text keyword.Type_ = codes "type"
keyword_text keyword.Func = codes "func"
keyword_text keyword.U8 = codes "u8"
keyword_text keyword.U16 = codes "u16"
keyword_text keyword.U32 = codes "u32"
keyword_text keyword.U64 = codes "u64"
keyword_text keyword.S8 = codes "s8"
keyword_text keyword.S16 = codes "s16"
keyword_text keyword.S32 = codes "s32"
keyword_text keyword.S64 = codes "s64"
keyword_text keyword.F32 = codes "f32"
keyword_text keyword.F64 = codes "f64"
keyword_text keyword.Char = codes "char"
keyword_text keyword.Resource = codes "resource"
keyword_text keyword.Own = codes "own"
keyword_text keyword.Borrow = codes "borrow"
keyword_text keyword.Record = codes "record"
keyword_text keyword.Flags = codes "flags"
keyword_text keyword.Variant = codes "variant"
keyword_text keyword.Enum = codes "enum"
keyword_text keyword.Bool = codes "bool"
keyword_text keyword.String = codes "string"
keyword_text keyword.Option = codes "option"
keyword_text keyword.Result = codes "result"
keyword_text keyword.Future = codes "future"
keyword_text keyword.Stream = codes "stream"
keyword_text keyword.ErrorContext = codes "error-context"
keyword_text keyword.List = codes "list"
keyword_text keyword.Map = codes "map"
keyword_text keyword.Underscore = codes "_"
keyword_text keyword.As = codes "as"
keyword_text keyword.From = codes "from"
keyword_text keyword.Static = codes "static"
keyword_text keyword.Interface = codes "interface"
keyword_text keyword.Tuple = codes "tuple"
keyword_text keyword.Import = codes "import"
keyword_text keyword.Export = codes "export"
keyword_text keyword.World = codes "world"
keyword_text keyword.Package = codes "package"
keyword_text keyword.Constructor = codes "constructor"
keyword_text keyword.Async = codes "async"
keyword_text keyword.Include = codes "include"
keyword_text keyword.With = codes "with"

-- all of them
abbrev pub keywords : List Keyword
keywords =
    keyword.Use ∷ keyword.Type_ ∷ keyword.Func ∷ keyword.U8 ∷ keyword.U16 ∷ keyword.U32 ∷
    keyword.U64 ∷ keyword.S8 ∷ keyword.S16 ∷ keyword.S32 ∷ keyword.S64 ∷ keyword.F32 ∷
    keyword.F64 ∷ keyword.Char ∷ keyword.Resource ∷ keyword.Own ∷ keyword.Borrow ∷
    keyword.Record ∷ keyword.Flags ∷ keyword.Variant ∷ keyword.Enum ∷ keyword.Bool ∷
    keyword.String ∷ keyword.Option ∷ keyword.Result ∷ keyword.Future ∷ keyword.Stream ∷
    keyword.ErrorContext ∷ keyword.List ∷ keyword.Map ∷ keyword.Underscore ∷ keyword.As ∷
    keyword.From ∷ keyword.Static ∷ keyword.Interface ∷ keyword.Tuple ∷ keyword.Import ∷
    keyword.Export ∷ keyword.World ∷ keyword.Package ∷ keyword.Constructor ∷ keyword.Async ∷
    keyword.Include ∷ keyword.With ∷ []

-- the keyword that a word is, or None
abbrev pub keyword_of : List ℕ → Option Keyword
keyword_of word = find (λ k. bytes_eq word (keyword_text k)) keywords
