-- Tests that compute: whether two functions agree, and the functions of one name of two interfaces. Where they pass, no
-- function disagrees. The crates of examples use them.
use Rattle.std.proofs.Common.{◌≡◌, ◌∙◌, ℕ, zero, suc, Bool, true, false, ◌&&◌, List, [], ◌∷◌, length, nat_eq, get_or, Option, Some, None, slice_get, refl, sym, ap}
use Rattle.std.proofs.lemmas.Bool.{and_parts, eqb-true, false≢true}
use Rattle.std.proofs.lemmas.Slice.Eq.{bytes_eq-Decides}
use Rattle.std.specs.Cmp.Lexicographic.{nat_list_eq_equiv}
use Rattle.std.specs.List.{list_all}
use Rattle.std.specs.Prelude.{is_some, bytes_eq}
use Rattle.wit_data.specs.declared.function.Function.{Function}
use Rattle.wit_data.specs.declared.function.FunctionKind.{FunctionKind}
use Rattle.wit_data.specs.declared.interface.Interface.{Interface}
use Rattle.wit_data.specs.declared.function.Param.{Param}
use Rattle.wit_data.specs.declared.types.Type_.{Type_}
use Rattle.wit_data.specs.declared.function.FunctionKind.TheVariants.{Freestanding, AsyncFreestanding, Method, AsyncMethod, Static, AsyncStatic, Constructor, Getter, Setter, MethodGetter, MethodSetter, StaticGetter, StaticSetter}
use Rattle.wit_data.specs.declared.types.Type_.TheVariants as type
use Rattle.wit_remap_spec.specs.FunctionMismatch.{AreOfOneKind, AreOfOneSort, FunctionMismatch, HaveFunctionMismatch, kinds_differ, parameter_counts_differ, parameter_names_differ, parameter_types_differ, result_counts_differ, results_differ}
use Rattle.wit_graph_theory.specs.facts.OptionFacts.{some_same}
use Rattle.wit_graph_theory.specs.examples.TestFacts.{all_are, implied, implies, none_some}
use Rattle.wit_remap_spec.specs.steps.Parts.{value_image, function_kind_image, one_place}

-- ---- functions

-- the kinds of functions by number
abbrev kind_number : FunctionKind → ℕ
kind_number Freestanding = 0
kind_number AsyncFreestanding = 1
kind_number (Method r) = 2
kind_number (AsyncMethod r) = 3
kind_number (Static r) = 4
kind_number (AsyncStatic r) = 5
kind_number (Constructor r) = 6
kind_number Getter = 7
kind_number Setter = 8
kind_number (MethodGetter r) = 9
kind_number (MethodSetter r) = 10
kind_number (StaticGetter r) = 11
kind_number (StaticSetter r) = 12

abbrev kind_numbered : ℕ → FunctionKind
kind_numbered n =
    get_or
    (Freestanding ∷ AsyncFreestanding ∷ Method 0 ∷ AsyncMethod 0 ∷ Static 0 ∷ AsyncStatic 0
    ∷ Constructor 0 ∷ Getter ∷ Setter ∷ MethodGetter 0 ∷ MethodSetter 0 ∷ StaticGetter 0
    ∷ StaticSetter 0 ∷ [])
    n Freestanding

numbered_kind : (k : FunctionKind) → function_kind_image one_place k ≡ kind_numbered (kind_number k)
numbered_kind Freestanding = refl
numbered_kind AsyncFreestanding = refl
numbered_kind (Method r) = refl
numbered_kind (AsyncMethod r) = refl
numbered_kind (Static r) = refl
numbered_kind (AsyncStatic r) = refl
numbered_kind (Constructor r) = refl
numbered_kind Getter = refl
numbered_kind Setter = refl
numbered_kind (MethodGetter r) = refl
numbered_kind (MethodSetter r) = refl
numbered_kind (StaticGetter r) = refl
numbered_kind (StaticSetter r) = refl

same_kinds : (k l : FunctionKind) → kind_number k ≡ kind_number l → AreOfOneKind k l
same_kinds k l same = numbered_kind k ∙ (ap kind_numbered same ∙ sym (numbered_kind l))

-- the sorts of types by number
abbrev sort_number : Type_ → ℕ
sort_number type.Bool = 0
sort_number type.U8 = 1
sort_number type.U16 = 2
sort_number type.U32 = 3
sort_number type.U64 = 4
sort_number type.S8 = 5
sort_number type.S16 = 6
sort_number type.S32 = 7
sort_number type.S64 = 8
sort_number type.F32 = 9
sort_number type.F64 = 10
sort_number type.Char = 11
sort_number type.String = 12
sort_number type.ErrorContext = 13
sort_number (type.Id t) = 14

abbrev sort_numbered : ℕ → Type_
sort_numbered n =
    get_or
    (type.Bool ∷ type.U8 ∷ type.U16 ∷ type.U32 ∷ type.U64 ∷ type.S8 ∷ type.S16 ∷ type.S32 ∷ type.S64
    ∷ type.F32 ∷ type.F64 ∷ type.Char ∷ type.String ∷ type.ErrorContext ∷ type.Id 0 ∷ [])
    n type.Bool

numbered_sort : (ty : Type_) → value_image one_place ty ≡ sort_numbered (sort_number ty)
numbered_sort type.Bool = refl
numbered_sort type.U8 = refl
numbered_sort type.U16 = refl
numbered_sort type.U32 = refl
numbered_sort type.U64 = refl
numbered_sort type.S8 = refl
numbered_sort type.S16 = refl
numbered_sort type.S32 = refl
numbered_sort type.S64 = refl
numbered_sort type.F32 = refl
numbered_sort type.F64 = refl
numbered_sort type.Char = refl
numbered_sort type.String = refl
numbered_sort type.ErrorContext = refl
numbered_sort (type.Id t) = refl

same_sorts : (ty ty' : Type_) → nat_eq (sort_number ty) (sort_number ty') ≡ true → AreOfOneSort ty ty'
same_sorts ty ty' same = numbered_sort ty ∙ (ap sort_numbered (eqb-true (sort_number ty) (sort_number ty') same) ∙ sym (numbered_sort ty'))

-- do the parameters agree?
abbrev params_agree : List Param → List Param → Bool
params_agree [] [] = true
params_agree (p ∷ ps) (q ∷ qs) =
    bytes_eq p.name q.name && (nat_eq (sort_number p.ty) (sort_number q.ty) && params_agree ps qs)
params_agree [] (q ∷ qs) = false
params_agree (p ∷ ps) [] = false

as_long : (ps qs : List Param) → params_agree ps qs ≡ true → length ps ≡ length qs
as_long [] [] all = refl
as_long (p ∷ ps) (q ∷ qs) all =
    let rest = (and_parts (nat_eq (sort_number p.ty) (sort_number q.ty)) (params_agree ps qs) (and_parts (bytes_eq p.name q.name) _ all).1).1 in
    ap suc (as_long ps qs rest)
as_long [] (q ∷ qs) all = absurd (false≢true all)
as_long (p ∷ ps) [] all = absurd (false≢true all)

params_at : (ps qs : List Param) → params_agree ps qs ≡ true → (i : ℕ) (p q : Param) → slice_get ps i ≡ Some p → slice_get qs i ≡ Some q → (p.name ≡ q.name) × (AreOfOneSort p.ty q.ty)
params_at [] qs all i p q at there = absurd (none_some p at)
params_at (a ∷ ps) [] all i p q at there = absurd (none_some q there)
params_at (a ∷ ps) (b ∷ qs) all zero p q at there =
    let first : a ≡ p = some_same a p at in
    let second : b ≡ q = some_same b q there in
    let parts = and_parts (bytes_eq a.name b.name) _ all in (
      sym (ap (λ (x : Param). x.name) first) ∙ ((bytes_eq-Decides a.name b.name).0 parts.0 ∙ ap (λ (x : Param). x.name) second),
      sym (ap (λ (x : Param). value_image one_place x.ty) first) ∙ (same_sorts a.ty b.ty (and_parts _ (params_agree ps qs) parts.1).0 ∙ ap (λ (x : Param). value_image one_place x.ty) second),
    )
params_at (a ∷ ps) (b ∷ qs) all (suc i) p q at there =
    params_at ps qs (and_parts (nat_eq (sort_number a.ty) (sort_number b.ty)) (params_agree ps qs) (and_parts (bytes_eq a.name b.name) _ all).1).1 i p q at there

abbrev results_agree : Option Type_ → Option Type_ → Bool
results_agree None None = true
results_agree (Some ty) (Some ty') = nat_eq (sort_number ty) (sort_number ty')
results_agree None (Some ty') = false
results_agree (Some ty) None = false

results_at : (a b : Option Type_) → results_agree a b ≡ true → (ty ty' : Type_) → a ≡ Some ty → b ≡ Some ty' → AreOfOneSort ty ty'
results_at None b all ty ty' at there = absurd (none_some ty at)
results_at (Some x) None all ty ty' at there = absurd (none_some ty' there)
results_at (Some x) (Some y) all ty ty' at there = sym (ap (value_image one_place) (some_same x ty at)) ∙ (same_sorts x y all ∙ ap (value_image one_place) (some_same y ty' there))

both_there : (a b : Option Type_) → results_agree a b ≡ true → is_some a ≡ is_some b
both_there None None all = refl
both_there (Some x) (Some y) all = refl
both_there None (Some y) all = absurd (false≢true all)
both_there (Some x) None all = absurd (false≢true all)

-- do two functions agree?
abbrev pub agree : Function → Function → Bool
agree f g =
    nat_eq (kind_number f.kind) (kind_number g.kind)
    && (params_agree f.params g.params && results_agree f.result_ g.result_)

pub functions_accepted : (f g : Function) → agree f g ≡ true → (text : List ℕ) → FunctionMismatch f g text → ⊥
functions_accepted f g all text c = by c
  where
    first : (nat_eq (kind_number f.kind) (kind_number g.kind) ≡ true) × (params_agree f.params g.params && results_agree f.result_ g.result_ ≡ true)
    first = and_parts _ _ all

    rest : (params_agree f.params g.params ≡ true) × (results_agree f.result_ g.result_ ≡ true)
    rest = and_parts _ _ first.1

    by : {text : List ℕ} → FunctionMismatch f g text → ⊥
    by (kinds_differ apart told) = apart (same_kinds f.kind g.kind (eqb-true _ _ first.0))
    by (parameter_counts_differ apart told) = apart (as_long f.params g.params rest.0)
    by (parameter_names_differ i p q at there apart told) = apart (params_at f.params g.params rest.0 i p q at there).0
    by (parameter_types_differ i p q at there apart told) = apart (params_at f.params g.params rest.0 i p q at there).1
    by (results_differ ty ty' at there apart told) = apart (results_at f.result_ g.result_ rest.1 ty ty' at there)
    by (result_counts_differ apart told) = apart (both_there f.result_ g.result_ rest.1)

-- ---- interfaces

-- do the functions of one name agree?
abbrev pub functions_pass : Interface → Interface → Bool
functions_pass from into =
    list_all (λ (e : List ℕ × Function).
    list_all (λ (e' : List ℕ × Function). implies (bytes_eq e.0 e'.0) (agree e.1 e'.1))
    into.functions) from.functions

pub interfaces_accepted : (from into : Interface) → functions_pass from into ≡ true → (text : List ℕ) → HaveFunctionMismatch from into text → ⊥
interfaces_accepted from into all text have =
    let one = all_are (λ (e : List ℕ × Function). list_all (λ (e' : List ℕ × Function). implies (bytes_eq e.0 e'.0) (agree e.1 e'.1)) into.functions) from.functions all (have.name, have.function) have.has in
    let two = all_are (λ (e' : List ℕ × Function). implies (bytes_eq have.name e'.0) (agree have.function e'.1)) into.functions one (have.name, have.other) have.other_has in
    functions_accepted have.function have.other (implied (bytes_eq have.name have.name) (agree have.function have.other) two (nat_list_eq_equiv.refl have.name)) have.ending have.mismatch
