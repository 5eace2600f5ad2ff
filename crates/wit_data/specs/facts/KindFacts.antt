-- Laws of what kinds hold, for the proofs of this crate and of the crates above: what goes over all kinds by cases is
-- here, so that nothing above does.
use Rattle.std.proofs.Common.{◌≡◌, ◌∙◌, ℕ, ◌+◌, ◌<◌, zero, suc, List, [], ◌∷◌, ◌++◌, length, map, Option, Some, None, option_and_then, option_map, slice_get, slice_index_or, refl, sym, ap, subst, arith, codes, decimal}
use Rattle.std.specs.List.{enumerate_from, flat_map}
use Rattle.std.proofs.lemmas.List.{append-nil}
use Rattle.std.proofs.lemmas.List.Folds.{flat_map-map}
use Rattle.wit_sources.specs.Span.{OptionalSpan}
use Rattle.wit_data.specs.Each.{Each}
use Rattle.wit_data.specs.Kind.{named_option, named_type, referred, KindPart, fixed_length, handle_resource, kind_parts, map_handle, map_kind, map_type, named_part, plain_part, variant_of}
use Rattle.wit_data.specs.facts.EachFacts.{EachAt-nil, EachAt-one, EachAt-two}
use Rattle.wit_data.specs.declared.types.Case.{Case}
use Rattle.wit_data.specs.declared.types.EnumCase.{EnumCase}
use Rattle.wit_data.specs.declared.types.Field.{Field}
use Rattle.wit_data.specs.declared.types.Flag.{Flag}
use Rattle.wit_data.specs.declared.types.Handle.{Handle}
use Rattle.wit_data.specs.declared.kind.PartRole.{PartRole}
use Rattle.wit_data.specs.declared.types.TypeDefKind.{TypeDefKind}
use Rattle.wit_data.specs.declared.types.Type_.{Type_}
use Rattle.wit_data.specs.declared.kind.Variant.{Variant}
use Rattle.wit_data.specs.declared.kind.PartRole.TheVariants.{Value, Target, Argument}
use Rattle.wit_data.specs.declared.kind.Variant.TheVariants as variants
use Rattle.wit_data.specs.declared.types.Handle.TheVariants as handle
use Rattle.wit_data.specs.declared.types.TypeDefKind.TheVariants as kind
use Rattle.wit_data.specs.declared.types.Type_.TheVariants as type

-- a part with its ids mapped by its role and its span moved
abbrev pub map_part : (PartRole → ℕ → ℕ) → (OptionalSpan → OptionalSpan) → KindPart → KindPart
map_part go move p =
    record p { ty = option_map (map_type (go p.role)) p.ty; span = option_map move p.span }

-- ---- lists of parts

-- the part at an index, with what is read of it
pub part_there : {A : Type 0} (read : KindPart → Option A) (ps : List KindPart) (i : ℕ) (o : Option A) → i < length ps → o ≡ option_and_then read (slice_get ps i)
    → (p : KindPart) × (slice_get ps i ≡ Some p) × (o ≡ read p)
part_there read [] i o below is = absurd (omega (arith, below))
part_there read (p ∷ ps) zero o below is = (p, refl, is)
part_there read (p ∷ ps) (suc i) o below is = part_there read ps i o (omega (arith, below)) is

-- of parts that are made of some things
made_each : {X : Type 0} (P : KindPart → Type 0) (make : X → KindPart) → ((x : X) → P (make x)) → (xs : List X) → Each P (map make xs)
made_each P make holds [] i p at = cc
made_each P make holds (x ∷ xs) zero p at = let same : make x ≡ p = cc in subst P same (holds x)
made_each P make holds (x ∷ xs) (suc i) p at = made_each P make holds xs i p at

-- of parts that are made of things that are changed
made_mapped : {X : Type 0} (change : X → X) (make : X → KindPart) (to : KindPart → KindPart) → ((x : X) → make (change x) ≡ to (make x)) → (xs : List X) → map make (map change xs) ≡ map to (map make xs)
made_mapped change make to same [] = refl
made_mapped change make to same (x ∷ xs) = λ j. same x j ∷ made_mapped change make to same xs j

tuple_mapped : (go : PartRole → ℕ → ℕ) (move : OptionalSpan → OptionalSpan) (n : ℕ) (types : List Type_)
    → map (λ (e : ℕ × Type_). plain_part Value (decimal e.0) (Some e.1)) (enumerate_from n (map (map_type (go Value)) types))
    ≡ map (map_part go move) (map (λ (e : ℕ × Type_). plain_part Value (decimal e.0) (Some e.1)) (enumerate_from n types))
tuple_mapped go move n [] = refl
tuple_mapped go move n (ty ∷ types) = λ j. plain_part Value (decimal n) (Some (map_type (go Value) ty)) ∷ tuple_mapped go move (n + 1) types j

-- ---- a kind with its parts changed

module _ (go : PartRole → ℕ → ℕ) (move : OptionalSpan → OptionalSpan) where
  -- its parts are the changed ones,
  pub parts_mapped : (k : TypeDefKind) → kind_parts (map_kind go move k) ≡ map (map_part go move) (kind_parts k)
  parts_mapped (kind.Record fields) =
      made_mapped (λ (f : Field). record f { ty = map_type (go Value) f.ty; span = move f.span }) (λ (f : Field). named_part f.name (Some f.ty) f.span) (map_part go move) (λ f. refl) fields
  parts_mapped kind.Resource = refl
  parts_mapped (kind.Handle (handle.Own t)) = refl
  parts_mapped (kind.Handle (handle.Borrow t)) = refl
  parts_mapped (kind.Flags flags) = made_mapped (λ (f : Flag). record f { span = move f.span }) (λ (f : Flag). named_part f.name None f.span) (map_part go move) (λ f. refl) flags
  parts_mapped (kind.Tuple types) = tuple_mapped go move 0 types
  parts_mapped (kind.Variant cases) =
      made_mapped (λ (c : Case). record c { ty = option_map (map_type (go Value)) c.ty; span = move c.span }) (λ (c : Case). named_part c.name c.ty c.span) (map_part go move) (λ c. refl) cases
  parts_mapped (kind.Enum cases) = made_mapped (λ (c : EnumCase). record c { span = move c.span }) (λ (c : EnumCase). named_part c.name None c.span) (map_part go move) (λ c. refl) cases
  parts_mapped other = refl

  -- and its variant and its length are the same
  pub variant_mapped : (k : TypeDefKind) → variant_of (map_kind go move k) ≡ variant_of k
  variant_mapped (kind.Handle (handle.Own t)) = refl
  variant_mapped (kind.Handle (handle.Borrow t)) = refl
  variant_mapped other = refl

  pub length_mapped : (k : TypeDefKind) → fixed_length (map_kind go move k) ≡ fixed_length k
  length_mapped (kind.FixedLengthList ty len) = refl
  length_mapped other = refl

-- where changes do the same to its parts, they do the same to it
module _ (go go' : PartRole → ℕ → ℕ) (move move' : OptionalSpan → OptionalSpan) where
  abbrev IsSame : KindPart → Type 0
  IsSame p = map_part go move p ≡ map_part go' move' p

  some_same : {X : Type 0} {x y : X} → Some x ≡ Some y → x ≡ y
  some_same same = cc

  type_same : (p : KindPart) → IsSame p → (map_part go move p).ty ≡ (map_part go' move' p).ty
  type_same p same = ap (λ (q : KindPart). q.ty) same

  span_same : (p : KindPart) → IsSame p → (map_part go move p).span ≡ (map_part go' move' p).span
  span_same p same = ap (λ (q : KindPart). q.span) same

  made_same : {X : Type 0} (f g : X → X) (make : X → KindPart) → ((x : X) → IsSame (make x) → f x ≡ g x) → (xs : List X) → Each IsSame (map make xs) → map f xs ≡ map g xs
  made_same f g make read [] each = refl
  made_same f g make read (x ∷ xs) each = λ j. read x (each 0 (make x) refl) j ∷ made_same f g make read xs (λ i p at. each (suc i) p at) j

  tuple_same : (n : ℕ) (types : List Type_) → Each IsSame (map (λ (e : ℕ × Type_). plain_part Value (decimal e.0) (Some e.1)) (enumerate_from n types))
      → map (map_type (go Value)) types ≡ map (map_type (go' Value)) types
  tuple_same n [] each = refl
  tuple_same n (ty ∷ types) each =
      let here : map_type (go Value) ty ≡ map_type (go' Value) ty = some_same (type_same (plain_part Value (decimal n) (Some ty)) (each 0 _ refl)) in
      λ j. here j ∷ tuple_same (n + 1) types (λ i p at. each (suc i) p at) j

  one_same : (role : PartRole) (step : List ℕ) (ty : Type_) (rest : List KindPart) → Each IsSame (plain_part role step (Some ty) ∷ rest) → map_type (go role) ty ≡ map_type (go' role) ty
  one_same role step ty rest each = some_same (type_same (plain_part role step (Some ty)) (each 0 _ refl))

  option_same : (role : PartRole) (step : List ℕ) (ty : Option Type_) (rest : List KindPart) → Each IsSame (plain_part role step ty ∷ rest) → option_map (map_type (go role)) ty ≡ option_map (map_type (go' role)) ty
  option_same role step ty rest each = type_same (plain_part role step ty) (each 0 _ refl)

  handle_same : (h : Handle) → map_type (go Argument) (type.Id (handle_resource h)) ≡ map_type (go' Argument) (type.Id (handle_resource h)) → map_handle (go Argument) h ≡ map_handle (go' Argument) h
  handle_same (handle.Own t) same = let ids : go Argument t ≡ go' Argument t = cc in ap (λ (u : ℕ). handle.Own u) ids
  handle_same (handle.Borrow t) same = let ids : go Argument t ≡ go' Argument t = cc in ap (λ (u : ℕ). handle.Borrow u) ids

  pub kind_same : (k : TypeDefKind) → Each IsSame (kind_parts k) → map_kind go move k ≡ map_kind go' move' k
  kind_same (kind.Record fields) each =
      let read : (f : Field) → IsSame (named_part f.name (Some f.ty) f.span) → record f { ty = map_type (go Value) f.ty; span = move f.span } ≡ record f { ty = map_type (go' Value) f.ty; span = move' f.span } =
      λ f same.
      let ty : map_type (go Value) f.ty ≡ map_type (go' Value) f.ty = some_same (type_same (named_part f.name (Some f.ty) f.span) same) in
      let span : move f.span ≡ move' f.span = some_same (span_same (named_part f.name (Some f.ty) f.span) same) in
      λ j. record f { ty = ty j; span = span j } in
      ap (λ (fs : List Field). kind.Record fs) (made_same _ _ (λ (f : Field). named_part f.name (Some f.ty) f.span) read fields each)
  kind_same kind.Resource each = refl
  kind_same (kind.Handle h) each = ap (λ (x : Handle). kind.Handle x) (handle_same h (one_same Argument (codes "handle") (type.Id (handle_resource h)) [] each))
  kind_same (kind.Flags flags) each =
      let read : (f : Flag) → IsSame (named_part f.name None f.span) → record f { span = move f.span } ≡ record f { span = move' f.span } =
      λ f same.
      let span : move f.span ≡ move' f.span = some_same (span_same (named_part f.name None f.span) same) in
      λ j. record f { span = span j } in
      ap (λ (fs : List Flag). kind.Flags fs) (made_same _ _ (λ (f : Flag). named_part f.name None f.span) read flags each)
  kind_same (kind.Tuple types) each = ap (λ (ts : List Type_). kind.Tuple ts) (tuple_same 0 types each)
  kind_same (kind.Variant cases) each =
      let read : (c : Case) → IsSame (named_part c.name c.ty c.span) → record c { ty = option_map (map_type (go Value)) c.ty; span = move c.span } ≡ record c { ty = option_map (map_type (go' Value)) c.ty; span = move' c.span } =
      λ c same.
      let ty : option_map (map_type (go Value)) c.ty ≡ option_map (map_type (go' Value)) c.ty = type_same (named_part c.name c.ty c.span) same in
      let span : move c.span ≡ move' c.span = some_same (span_same (named_part c.name c.ty c.span) same) in
      λ j. record c { ty = ty j; span = span j } in
      ap (λ (cs : List Case). kind.Variant cs) (made_same _ _ (λ (c : Case). named_part c.name c.ty c.span) read cases each)
  kind_same (kind.Enum cases) each =
      let read : (c : EnumCase) → IsSame (named_part c.name None c.span) → record c { span = move c.span } ≡ record c { span = move' c.span } =
      λ c same.
      let span : move c.span ≡ move' c.span = some_same (span_same (named_part c.name None c.span) same) in
      λ j. record c { span = span j } in
      ap (λ (cs : List EnumCase). kind.Enum cs) (made_same _ _ (λ (c : EnumCase). named_part c.name None c.span) read cases each)
  kind_same (kind.Option ty) each = ap (λ (y : Type_). kind.Option y) (one_same Value (codes "element") ty [] each)
  kind_same (kind.Result_ ok err) each =
      λ j. kind.Result_ (option_same Value (codes "ok") ok (plain_part Value (codes "err") err ∷ []) each j) (option_same Value (codes "err") err [] (λ i p at. each (suc i) p at) j)
  kind_same (kind.List ty) each = ap (λ (y : Type_). kind.List y) (one_same Value (codes "element") ty [] each)
  kind_same (kind.Map key value) each =
      λ j. kind.Map (one_same Value (codes "key") key (plain_part Value (codes "value") (Some value) ∷ []) each j) (one_same Value (codes "value") value [] (λ i p at. each (suc i) p at) j)
  kind_same (kind.FixedLengthList ty len) each = ap (λ (y : Type_). kind.FixedLengthList y len) (one_same Value (codes "element") ty [] each)
  kind_same (kind.Future ty) each = ap (λ (y : Option Type_). kind.Future y) (option_same Value (codes "element") ty [] each)
  kind_same (kind.Stream ty) each = ap (λ (y : Option Type_). kind.Stream y) (option_same Value (codes "element") ty [] each)
  kind_same (kind.Type_ ty) each = ap (λ (y : Type_). kind.Type_ y) (one_same Target (codes "alias") ty [] each)
  kind_same kind.Unknown each = refl

-- ---- roles

-- the role that all parts of a kind have, by its variant
abbrev pub variant_role : Variant → PartRole
variant_role variants.Own = Argument
variant_role variants.Borrow = Argument
variant_role variants.Alias = Target
variant_role other = Value

pub roles_are : (k : TypeDefKind) → Each (λ (p : KindPart). p.role ≡ variant_role (variant_of k)) (kind_parts k)
roles_are (kind.Record fields) = made_each (λ (p : KindPart). p.role ≡ Value) (λ (f : Field). named_part f.name (Some f.ty) f.span) (λ f. refl) fields
roles_are kind.Resource = EachAt-nil (λ _ (p : KindPart). p.role ≡ Value)
roles_are (kind.Handle (handle.Own t)) = EachAt-one (λ _ (p : KindPart). p.role ≡ Argument) _ refl
roles_are (kind.Handle (handle.Borrow t)) = EachAt-one (λ _ (p : KindPart). p.role ≡ Argument) _ refl
roles_are (kind.Flags flags) = made_each (λ (p : KindPart). p.role ≡ Value) (λ (f : Flag). named_part f.name None f.span) (λ f. refl) flags
roles_are (kind.Tuple types) = made_each (λ (p : KindPart). p.role ≡ Value) (λ (e : ℕ × Type_). plain_part Value (decimal e.0) (Some e.1)) (λ e. refl) (enumerate_from 0 types)
roles_are (kind.Variant cases) = made_each (λ (p : KindPart). p.role ≡ Value) (λ (c : Case). named_part c.name c.ty c.span) (λ c. refl) cases
roles_are (kind.Enum cases) = made_each (λ (p : KindPart). p.role ≡ Value) (λ (c : EnumCase). named_part c.name None c.span) (λ c. refl) cases
roles_are (kind.Result_ ok err) = EachAt-two (λ _ (p : KindPart). p.role ≡ Value) _ _ refl refl
roles_are (kind.Map key value) = EachAt-two (λ _ (p : KindPart). p.role ≡ Value) _ _ refl refl
roles_are (kind.Option ty) = EachAt-one (λ _ (p : KindPart). p.role ≡ Value) _ refl
roles_are (kind.List ty) = EachAt-one (λ _ (p : KindPart). p.role ≡ Value) _ refl
roles_are (kind.FixedLengthList ty len) = EachAt-one (λ _ (p : KindPart). p.role ≡ Value) _ refl
roles_are (kind.Future ty) = EachAt-one (λ _ (p : KindPart). p.role ≡ Value) _ refl
roles_are (kind.Stream ty) = EachAt-one (λ _ (p : KindPart). p.role ≡ Value) _ refl
roles_are (kind.Type_ ty) = EachAt-one (λ _ (p : KindPart). p.role ≡ Target) _ refl
roles_are kind.Unknown = EachAt-nil (λ _ (p : KindPart). p.role ≡ Value)

-- what is neither a handle nor an alias has values as its parts
value_role : (k : TypeDefKind) → ((h : Handle) → k ≡ kind.Handle h → ⊥) → ((ty : Type_) → k ≡ kind.Type_ ty → ⊥) → variant_role (variant_of k) ≡ Value
value_role (kind.Handle h) no_handle no_alias = absurd (no_handle h refl)
value_role (kind.Type_ ty) no_handle no_alias = absurd (no_alias ty refl)
value_role other no_handle no_alias = refl

pub value_parts : (k : TypeDefKind) → ((h : Handle) → k ≡ kind.Handle h → ⊥) → ((ty : Type_) → k ≡ kind.Type_ ty → ⊥) → Each (λ (p : KindPart). p.role ≡ Value) (kind_parts k)
value_parts k no_handle no_alias i p at = roles_are k i p at ∙ value_role k no_handle no_alias

-- ---- variants

-- they are told apart by numbers
pub all_variants : List Variant
all_variants =
    variants.Record ∷ variants.Resource ∷ variants.Own ∷ variants.Borrow ∷ variants.Flags ∷ variants.Tuple ∷ variants.Variant_ ∷ variants.Enum ∷ variants.Option ∷ variants.Result_
    ∷ variants.List ∷ variants.Map ∷ variants.FixedLengthList ∷ variants.Future ∷ variants.Stream ∷ variants.Alias ∷ variants.Unknown ∷ []

pub variant_number : Variant → ℕ
variant_number variants.Record = 0
variant_number variants.Resource = 1
variant_number variants.Own = 2
variant_number variants.Borrow = 3
variant_number variants.Flags = 4
variant_number variants.Tuple = 5
variant_number variants.Variant_ = 6
variant_number variants.Enum = 7
variant_number variants.Option = 8
variant_number variants.Result_ = 9
variant_number variants.List = 10
variant_number variants.Map = 11
variant_number variants.FixedLengthList = 12
variant_number variants.Future = 13
variant_number variants.Stream = 14
variant_number variants.Alias = 15
variant_number variants.Unknown = 16

pub variant_numbered : (v : Variant) → slice_index_or all_variants (variant_number v) variants.Unknown ≡ v
unfolding all_variants variant_number
variant_numbered variants.Record = refl
variant_numbered variants.Resource = refl
variant_numbered variants.Own = refl
variant_numbered variants.Borrow = refl
variant_numbered variants.Flags = refl
variant_numbered variants.Tuple = refl
variant_numbered variants.Variant_ = refl
variant_numbered variants.Enum = refl
variant_numbered variants.Option = refl
variant_numbered variants.Result_ = refl
variant_numbered variants.List = refl
variant_numbered variants.Map = refl
variant_numbered variants.FixedLengthList = refl
variant_numbered variants.Future = refl
variant_numbered variants.Stream = refl
variant_numbered variants.Alias = refl
variant_numbered variants.Unknown = refl

-- ---- what a kind refers to, kind by kind, as the code goes over it

abbrev pub named_types : TypeDefKind → List ℕ
named_types (kind.Record fields) = flat_map (λ (f : Field). named_type f.ty) fields
named_types kind.Resource = []
named_types (kind.Handle h) = handle_resource h ∷ []
named_types (kind.Flags flags) = []
named_types (kind.Tuple types) = flat_map named_type types
named_types (kind.Variant cases) = flat_map (λ (c : Case). named_option c.ty) cases
named_types (kind.Enum cases) = []
named_types (kind.Option ty) = named_type ty
named_types (kind.Result_ ok err) = named_option ok ++ named_option err
named_types (kind.List ty) = named_type ty
named_types (kind.Map key value) = named_type key ++ named_type value
named_types (kind.FixedLengthList ty len) = named_type ty
named_types (kind.Future ty) = named_option ty
named_types (kind.Stream ty) = named_option ty
named_types (kind.Type_ ty) = named_type ty
named_types kind.Unknown = []

abbrev names_of : KindPart → List ℕ
names_of p = named_option p.ty

none_named : {X : Type 0} (make : X → KindPart) → ((x : X) → (make x).ty ≡ None) → (xs : List X) → [] ≡ flat_map names_of (map make xs)
none_named make none [] = refl
none_named make none (x ∷ xs) = λ j. named_option (sym (none x) j) ++ none_named make none xs j

tuple_named : (n : ℕ) (types : List Type_) → flat_map named_type types ≡ flat_map names_of (map (λ (e : ℕ × Type_). plain_part Value (decimal e.0) (Some e.1)) (enumerate_from n types))
tuple_named n [] = refl
tuple_named n (ty ∷ types) = ap (λ (ids : List ℕ). named_type ty ++ ids) (tuple_named (n + 1) types)

-- it is what its parts name
pub names_same : (k : TypeDefKind) → named_types k ≡ referred k
names_same (kind.Record fields) = sym (flat_map-map names_of (λ (f : Field). named_part f.name (Some f.ty) f.span) fields)
names_same kind.Resource = refl
names_same (kind.Handle h) = refl
names_same (kind.Flags flags) = none_named (λ (f : Flag). named_part f.name None f.span) (λ f. refl) flags
names_same (kind.Tuple types) = tuple_named 0 types
names_same (kind.Variant cases) = sym (flat_map-map names_of (λ (c : Case). named_part c.name c.ty c.span) cases)
names_same (kind.Enum cases) = none_named (λ (c : EnumCase). named_part c.name None c.span) (λ c. refl) cases
names_same (kind.Option ty) = sym (append-nil (named_type ty))
names_same (kind.Result_ ok err) = ap (λ (ids : List ℕ). named_option ok ++ ids) (sym (append-nil (named_option err)))
names_same (kind.List ty) = sym (append-nil (named_type ty))
names_same (kind.Map key value) = ap (λ (ids : List ℕ). named_type key ++ ids) (sym (append-nil (named_type value)))
names_same (kind.FixedLengthList ty len) = sym (append-nil (named_type ty))
names_same (kind.Future ty) = sym (append-nil (named_option ty))
names_same (kind.Stream ty) = sym (append-nil (named_option ty))
names_same (kind.Type_ ty) = sym (append-nil (named_type ty))
names_same kind.Unknown = refl

-- ---- names and spans

-- nothing is read of parts without a name where a plain part has none of it
module _ {A : Type 0} (read : KindPart → Option A) (none : (role : PartRole) (step : List ℕ) (ty : Option Type_) → read (plain_part role step ty) ≡ None) where
  one_plain : (role : PartRole) (step : List ℕ) (ty : Option Type_) (i : ℕ) → None ≡ option_and_then read (slice_get (plain_part role step ty ∷ []) i)
  one_plain role step ty zero = sym (none role step ty)
  one_plain role step ty (suc i) = refl

  two_plain : (role : PartRole) (step step' : List ℕ) (ty ty' : Option Type_) (i : ℕ) → None ≡ option_and_then read (slice_get (plain_part role step ty ∷ plain_part role step' ty' ∷ []) i)
  two_plain role step step' ty ty' zero = sym (none role step ty)
  two_plain role step step' ty ty' (suc i) = one_plain role step' ty' i

  tuple_plain : (n : ℕ) (types : List Type_) (i : ℕ) → None ≡ option_and_then read (slice_get (map (λ (e : ℕ × Type_). plain_part Value (decimal e.0) (Some e.1)) (enumerate_from n types)) i)
  tuple_plain n [] i = refl
  tuple_plain n (ty ∷ types) zero = sym (none Value (decimal n) (Some ty))
  tuple_plain n (ty ∷ types) (suc i) = tuple_plain (n + 1) types i

  pub plain_read : (k : TypeDefKind) → ((fields : List Field) → k ≡ kind.Record fields → ⊥) → ((flags : List Flag) → k ≡ kind.Flags flags → ⊥)
      → ((cases : List Case) → k ≡ kind.Variant cases → ⊥) → ((cases : List EnumCase) → k ≡ kind.Enum cases → ⊥) → (i : ℕ) → None ≡ option_and_then read (slice_get (kind_parts k) i)
  plain_read (kind.Record fields) no_record no_flags no_variant no_enum i = absurd (no_record fields refl)
  plain_read (kind.Flags flags) no_record no_flags no_variant no_enum i = absurd (no_flags flags refl)
  plain_read (kind.Variant cases) no_record no_flags no_variant no_enum i = absurd (no_variant cases refl)
  plain_read (kind.Enum cases) no_record no_flags no_variant no_enum i = absurd (no_enum cases refl)
  plain_read kind.Resource no_record no_flags no_variant no_enum i = refl
  plain_read kind.Unknown no_record no_flags no_variant no_enum i = refl
  plain_read (kind.Tuple types) no_record no_flags no_variant no_enum i = tuple_plain 0 types i
  plain_read (kind.Result_ ok err) no_record no_flags no_variant no_enum i = two_plain _ _ _ _ _ i
  plain_read (kind.Map key value) no_record no_flags no_variant no_enum i = two_plain _ _ _ _ _ i
  plain_read other no_record no_flags no_variant no_enum i = one_plain _ _ _ i
