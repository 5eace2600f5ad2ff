-- Images under maps that send what a thing names to the same places are the same.
use Rattle.std.proofs.Common.{◌≡◌, ℕ, ◌<◌, List, [], ◌∷◌, ◌++◌, map, Option, None, Some, option_map, option_to_list, refl, ap, Contains}
use Rattle.std.proofs.lemmas.List.Elements.{Contains-append_left, Contains-append_right}
use Rattle.std.specs.List.{flat_map}
use Rattle.wit_digraph.specs.facts.MemberFacts.{Contains-flat_map, Contains-here, Contains-there}
use Rattle.wit_data.specs.Entries.{Entry}
use Rattle.wit_data.specs.Function.{resource_of}
use Rattle.wit_data.specs.Kind.{KindPart, kind_parts, map_type, function_references, named_option, named_type, referred}
use Rattle.wit_data.specs.facts.KindFacts.{kind_same as kinds_same, map_part}
use Rattle.wit_data.specs.declared.function.Function.{Function}
use Rattle.wit_data.specs.declared.function.FunctionKind.{FunctionKind}
use Rattle.wit_data.specs.declared.interface.Interface.{Interface}
use Rattle.wit_data.specs.declared.function.Param.{Param}
use Rattle.wit_data.specs.declared.kind.PartRole.{PartRole}
use Rattle.wit_data.specs.declared.types.TypeDef.{TypeDef}
use Rattle.wit_data.specs.declared.types.TypeDefKind.{TypeDefKind}
use Rattle.wit_data.specs.declared.types.TypeOwner.{TypeOwner}
use Rattle.wit_data.specs.declared.types.Type_.{Type_}
use Rattle.wit_data.specs.declared.world.WorldItem.{WorldItem}
use Rattle.wit_data.specs.declared.world.WorldKey.{WorldKey}
use Rattle.wit_data.specs.declared.function.FunctionKind.TheVariants.{Freestanding, AsyncFreestanding, Method, AsyncMethod, Static, AsyncStatic, Constructor, Getter, Setter, MethodGetter, MethodSetter, StaticGetter, StaticSetter}
use Rattle.wit_data.specs.declared.kind.PartRole.TheVariants.{Value}
use Rattle.wit_data.specs.declared.types.TypeOwner.TheVariants as owner
use Rattle.wit_data.specs.declared.types.Type_.TheVariants as type
use Rattle.wit_data.specs.declared.world.WorldItem.TheVariants as item
use Rattle.wit_data.specs.declared.world.WorldKey.TheVariants as key
use Rattle.wit_sources.specs.Span.{moved_by}
use Rattle.wit_graph_theory.specs.facts.ListFacts.{contained_at}
use Rattle.wit_merge.specs.steps.MergeSteps.{EntryWithin, ItemWithin, KeyWithin, OwnerWithin, Within}
use Rattle.wit_remap_spec.specs.Image.{Maps, entry_image, function_image, interface_image, item_image, key_image, name_image, owner_image, role_remap, type_image}
use Rattle.wit_remap_spec.specs.steps.Parts.{value_image, kind_image, param_image, function_kind_image}

-- maps that send the first so many types, interfaces and worlds to the same places
pub record Agree (a b : Maps) (types interfaces worlds : ℕ) : Type 0 where
  pub of_types : (x : ℕ) → x < types → a.types x ≡ b.types x
  pub of_values : (x : ℕ) → x < types → a.values x ≡ b.values x
  pub of_interfaces : (x : ℕ) → x < interfaces → a.interfaces x ≡ b.interfaces x
  pub of_worlds : (x : ℕ) → x < worlds → a.worlds x ≡ b.worlds x
  pub of_labels : a.labels ≡ b.labels
  pub of_offset : a.offset ≡ b.offset

-- what is the same of each is the same of all
pub each_same : {X Y : Type 0} (f g : X → Y) (xs : List X) → ((x : X) → Contains xs x → f x ≡ g x) → map f xs ≡ map g xs
each_same f g [] same = refl
each_same f g (x ∷ xs) same = λ j. same x (Contains-here x xs) j ∷ each_same f g xs (λ y has. same y (Contains-there x y xs has)) j

module _ (count : ℕ) where
  left_within : (xs ys : List ℕ) → Within count (xs ++ ys) → Within count xs
  left_within xs ys within x has = within x (Contains-append_left xs ys x has)

  right_within : (xs ys : List ℕ) → Within count (xs ++ ys) → Within count ys
  right_within xs ys within x has = within x (Contains-append_right xs ys x has)

  mapped_same : {X Y : Type 0} (f g : X → Y) (names : X → List ℕ) → ((x : X) → Within count (names x) → f x ≡ g x) → (xs : List X) → Within count (flat_map names xs) → map f xs ≡ map g xs
  mapped_same f g names same [] within = refl
  mapped_same f g names same (x ∷ xs) within =
      λ j. same x (left_within (names x) (flat_map names xs) within) j ∷ mapped_same f g names same xs (right_within (names x) (flat_map names xs) within) j

module _ (a b : Maps) (types interfaces worlds : ℕ) (agree : Agree a b types interfaces worlds) where
  value_same : (ty : Type_) → Within types (named_type ty) → value_image a ty ≡ value_image b ty
  value_same (type.Id x) within = ap (λ (y : ℕ). type.Id y) (agree.of_values x (within x (Contains-here x [])))
  value_same other within = refl

  option_same : (o : Option Type_) → Within types (named_option o) → option_map (value_image a) o ≡ option_map (value_image b) o
  option_same None within = refl
  option_same (Some ty) within = ap (λ (y : Type_). Some y) (value_same ty within)

  span_same : (span : Option (ℕ × ℕ)) → moved_by a.offset span ≡ moved_by b.offset span
  span_same span = ap (λ (n : ℕ). moved_by n span) agree.of_offset

  role_same : (role : PartRole) (x : ℕ) → x < types → role_remap a role x ≡ role_remap b role x
  role_same Value x below = agree.of_values x below
  role_same other x below = agree.of_types x below

  type_part_same : (role : PartRole) (o : Option Type_) → Within types (named_option o) → option_map (map_type (role_remap a role)) o ≡ option_map (map_type (role_remap b role)) o
  type_part_same role None within = refl
  type_part_same role (Some (type.Id x)) within = ap (λ (y : ℕ). Some (type.Id y)) (role_same role x (within x (Contains-here x [])))
  type_part_same role (Some other) within = refl

  part_same : (p : KindPart) → Within types (named_option p.ty) → map_part (role_remap a) (moved_by a.offset) p ≡ map_part (role_remap b) (moved_by b.offset) p
  part_same p within = λ j. record p { ty = type_part_same p.role p.ty within j; span = option_map (moved_by (agree.of_offset j)) p.span }

  kind_same : (k : TypeDefKind) → Within types (referred k) → kind_image a k ≡ kind_image b k
  kind_same k within =
      kinds_same (role_remap a) (role_remap b) (moved_by a.offset) (moved_by b.offset) k
      (λ i p at. part_same p (λ x has. within x (Contains-flat_map (λ (q : KindPart). named_option q.ty) (kind_parts k) p x (contained_at (kind_parts k) i p at) has)))

  owner_same : (of : TypeOwner) → OwnerWithin interfaces worlds of → owner_image a of ≡ owner_image b of
  owner_same (owner.World w) within = ap (λ (y : ℕ). owner.World y) (agree.of_worlds w within)
  owner_same (owner.Interface i) within = ap (λ (y : ℕ). owner.Interface y) (agree.of_interfaces i within)
  owner_same owner.None within = refl

  name_same : (of : TypeOwner) (name : Option (List ℕ)) → option_map (name_image a of) name ≡ option_map (name_image b of) name
  name_same of None = refl
  name_same (owner.World w) (Some name) = λ j. Some (agree.of_labels j w name)
  name_same (owner.Interface i) (Some name) = refl
  name_same owner.None (Some name) = refl

  pub type_same : (def : TypeDef) → Within types (referred def.kind) → OwnerWithin interfaces worlds def.owner → type_image a def ≡ type_image b def
  type_same def parts of =
      λ j. record def { name = name_same def.owner def.name j; kind = kind_same def.kind parts j; owner = owner_same def.owner of j; span = span_same def.span j }

  function_kind_same : (k : FunctionKind) → Within types (option_to_list (resource_of k)) → function_kind_image a k ≡ function_kind_image b k
  function_kind_same Freestanding within = refl
  function_kind_same AsyncFreestanding within = refl
  function_kind_same (Method r) within = ap (λ (y : ℕ). Method y) (agree.of_types r (within r (Contains-here r [])))
  function_kind_same (AsyncMethod r) within = ap (λ (y : ℕ). AsyncMethod y) (agree.of_types r (within r (Contains-here r [])))
  function_kind_same (Static r) within = ap (λ (y : ℕ). Static y) (agree.of_types r (within r (Contains-here r [])))
  function_kind_same (AsyncStatic r) within = ap (λ (y : ℕ). AsyncStatic y) (agree.of_types r (within r (Contains-here r [])))
  function_kind_same (Constructor r) within = ap (λ (y : ℕ). Constructor y) (agree.of_types r (within r (Contains-here r [])))
  function_kind_same Getter within = refl
  function_kind_same Setter within = refl
  function_kind_same (MethodGetter r) within = ap (λ (y : ℕ). MethodGetter y) (agree.of_types r (within r (Contains-here r [])))
  function_kind_same (MethodSetter r) within = ap (λ (y : ℕ). MethodSetter y) (agree.of_types r (within r (Contains-here r [])))
  function_kind_same (StaticGetter r) within = ap (λ (y : ℕ). StaticGetter y) (agree.of_types r (within r (Contains-here r [])))
  function_kind_same (StaticSetter r) within = ap (λ (y : ℕ). StaticSetter y) (agree.of_types r (within r (Contains-here r [])))

  param_same : (p : Param) → Within types (named_type p.ty) → param_image a p ≡ param_image b p
  param_same p within = λ j. record p { ty = value_same p.ty within j; span = span_same p.span j }

  pub function_same : (f : Function) → Within types (function_references f) → function_image a f ≡ function_image b f
  function_same f within =
      let own : List ℕ = option_to_list (resource_of f.kind) in
      let params : List ℕ = flat_map (λ (p : Param). named_type p.ty) f.params in
      let values = right_within types own (params ++ named_option f.result_) within in
      let kinds = function_kind_same f.kind (left_within types own (params ++ named_option f.result_) within) in
      let given = mapped_same types (param_image a) (param_image b) (λ (p : Param). named_type p.ty) param_same f.params (left_within types params (named_option f.result_) values) in
      let answered = option_same f.result_ (right_within types params (named_option f.result_) values) in
      λ j. record f { kind = kinds j; params = given j; result_ = answered j; span = span_same f.span j }

  pub interface_same : (interface : Interface) → a.home interface.package ≡ b.home interface.package → ((e : List ℕ × ℕ) → Contains interface.types e → e.1 < types)
      → ((e : List ℕ × Function) → Contains interface.functions e → Within types (function_references e.1)) → interface_image a interface ≡ interface_image b interface
  interface_same interface home listed within =
      let ids = each_same (λ (e : List ℕ × ℕ). (e.0, a.types e.1)) (λ (e : List ℕ × ℕ). (e.0, b.types e.1)) interface.types (λ e has j. (e.0, agree.of_types e.1 (listed e has) j)) in
      let functions =
      each_same (λ (e : List ℕ × Function). (e.0, function_image a e.1)) (λ (e : List ℕ × Function). (e.0, function_image b e.1)) interface.functions
      (λ e has j. (e.0, function_same e.1 (within e has) j)) in
      λ j. record interface { types = ids j; functions = functions j; «package» = home j; span = span_same interface.span j }

  key_same : (w : ℕ) (k : WorldKey) → KeyWithin interfaces k → key_image a w k ≡ key_image b w k
  key_same w (key.Name label) within = λ j. key.Name (agree.of_labels j w label)
  key_same w (key.Interface i) within = ap (λ (y : ℕ). key.Interface y) (agree.of_interfaces i within)

  item_same : (w : ℕ) (held : WorldItem) → ItemWithin types interfaces held → item_image a w held ≡ item_image b w held
  item_same w (item.Interface i stability docs span external_id) within = λ j. item.Interface (agree.of_interfaces i within j) stability docs (span_same span j) external_id
  item_same w (item.Function f) within = λ j. item.Function (record (function_same f within j) { name = agree.of_labels j w f.name })
  item_same w (item.Type_ t span) within = λ j. item.Type_ (agree.of_types t within j) (span_same span j)

  pub entries_same : (w : ℕ) (entries : List Entry) → ((e : Entry) → Contains entries e → EntryWithin types interfaces e) → map (entry_image a w) entries ≡ map (entry_image b w) entries
  entries_same w entries within =
      each_same (entry_image a w) (entry_image b w) entries (λ e has j. (key_same w e.0 (within e has).key j, item_same w e.1 (within e has).held j))
