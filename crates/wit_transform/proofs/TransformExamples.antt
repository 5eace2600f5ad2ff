-- The worked turns.
use Rattle.std.proofs.Common.{◌≡◌, ◌∙◌, ◌⊎◌, inl, inr, ℕ, false, List, [], ◌∷◌, None, Some, codes, eqb, slice_get, refl, sym, ap, subst, arith, Contains}
use Rattle.std.proofs.lemmas.Bool.{eqb-false}
use Rattle.wit_digraph.specs.facts.MemberFacts.{Contains-cons_cases, Contains-here, Contains-nil, Contains-there}
use Rattle.wit_digraph.specs.Relation.{direct}
use Rattle.wit_digraph.specs.PostOrder.{post_order, post_order_within}
use Rattle.wit_data.specs.declared.world.World.{World}
use Rattle.wit_data.specs.declared.world.WorldKey.TheVariants as key
use Rattle.wit_graph_data.specs.declared.graph.Graph.{Graph}
use Rattle.wit_graph_data.specs.declared.graph.Package.{Package}
use Rattle.wit_graph_data.specs.declared.error_kind.ResolveErrorKind.{ResolveErrorKind}
use Rattle.wit_graph_data.specs.declared.error_kind.ResolveErrorKind.TheVariants.{InvalidTransitiveDependency}
use Rattle.wit_elaboration.specs.Elaboration.{graph_uses}
use Rattle.wit_elaboration.specs.Entries.{Entry}
use Rattle.wit_elaboration.specs.Imported.{HasTransitiveConflict, IsEntryInConflict}
use Rattle.wit_graph_data.specs.examples.Samples.{entry_of, foo_bar_of, world_of}
use Rattle.wit_transform.specs.Transformed.{ExportizeCause, HasNameTaken, ImportizeCause, export_conflict, exportized_name_taken, importized_name_taken, label_clash, not_exported, exportized, importized}
use Rattle.wit_transform.specs.examples.TransformExamples.{ExamplesOfRefusedTransformations, ExamplesOfTransformations, a, b, chain, clashing, first_and_last, function_t, two, type_t}
use Rattle.wit_elaboration.specs.steps.Parts.{exported_keys}
use Rattle.wit_transform.specs.steps.Parts.{NameIsTakenIn}

first_table : List Package → List (List ℕ × ℕ)
first_table [] = []
first_table (p ∷ ps) = p.worlds

ids_in : List (List ℕ × ℕ) → List ℕ
ids_in [] = []
ids_in (e ∷ es) = e.1 ∷ ids_in es

first_imports : List World → List Entry
first_imports [] = []
first_imports (w ∷ ws) = w.imports

pub examples_of_transformations : ExamplesOfTransformations
unfolding post_order post_order_within first_table ids_in first_imports
examples_of_transformations = record {
  exports_transformed = refl;
  imports_transformed = refl;
  b_transformed = refl;
  a_transformed = refl;
  exports_dropped = refl;
  no_letters = refl;
  own_name = refl;
  nowhere = refl;
  not_both = λ same. let ids = ap (λ (g : Graph). ids_in (first_table g.packages)) same in cc;
  not_first = λ same. let ids = ap (λ (g : Graph). ids_in (first_table g.packages)) same in cc;
  not_all = λ same. let lists = ap (λ (g : Graph). first_imports g.worlds) same in cc;
  not_listed = λ same. let lists = ap (λ (g : Graph). first_imports g.worlds) same in cc;
}

-- ---- refusals

inside : {X : Type 0} (x y : X) → Some x ≡ Some y → x ≡ y
inside x y h = cc

abbrev table_entry : List ℕ → ℕ → List ℕ × ℕ
table_entry name v = (name, v)

-- world w alone is in the table
only_w : (name : List ℕ) (v : ℕ) → Contains (table_entry (codes "w") 0 ∷ []) (name, v) → v ≡ 0
only_w name v has = elim (Contains-cons_cases (table_entry (codes "w") 0) (name, v) [] has) [
  | inl same ↦ sym (ap (λ (e : List ℕ × ℕ). e.1) same)
  | inr none ↦ absurd (Contains-nil none)
]

-- w and v
w_or_v : (name : List ℕ) (v : ℕ) → Contains (table_entry (codes "w") 0 ∷ table_entry (codes "v") 1 ∷ []) (name, v) → (v ≡ 0) ⊎ (name ≡ codes "v")
w_or_v name v has = elim (Contains-cons_cases (table_entry (codes "w") 0) (name, v) (table_entry (codes "v") 1 ∷ []) has) [
  | inl same ↦ inl (sym (ap (λ (e : List ℕ × ℕ). e.1) same))
  | inr there ↦ elim (Contains-cons_cases (table_entry (codes "v") 1) (name, v) [] there) [ inl same ↦ inr (sym (ap (λ (e : List ℕ × ℕ). e.0) same)) | inr none ↦ absurd (Contains-nil none) ]
]

-- what is taken is so in the table of the one package
in_package : (g : Graph) (w : ℕ) (world : World) (name : List ℕ) (home only : Package) → world.package ≡ Some 0 → slice_get g.packages 0 ≡ Some only → HasNameTaken g w world name home → NameIsTakenIn only w name
in_package g w world name home only first there taken =
    let place : 0 ≡ taken.0 = inside 0 taken.0 (sym first ∙ taken.1) in
    let same : only ≡ home = inside only home (sym there ∙ ap (slice_get g.packages) place ∙ taken.2) in
    subst (λ (h : Package). NameIsTakenIn h w name) (sym same) taken.3

one_world : (name : List ℕ) (home only : Package) (g : Graph) (world : World) → world.package ≡ Some 0 → slice_get g.packages 0 ≡ Some only → only.worlds ≡ table_entry (codes "w") 0 ∷ [] → HasNameTaken g 0 world name home → ⊥
one_world name home only g world first there table taken =
    let in_it = in_package g 0 world name home only first there taken in
    in_it.2 (only_w name in_it.0 (subst (λ (es : List (List ℕ × ℕ)). Contains es (name, in_it.0)) table in_it.1))

two_worlds : (name : List ℕ) (home only : Package) (g : Graph) (world : World) → world.package ≡ Some 0 → slice_get g.packages 0 ≡ Some only → only.worlds ≡ table_entry (codes "w") 0 ∷ table_entry (codes "v") 1 ∷ []
    → (name ≡ codes "v" → ⊥) → HasNameTaken g 0 world name home → ⊥
two_worlds name home only g world first there table other taken =
    let in_it = in_package g 0 world name home only first there taken in
    elim (w_or_v name in_it.0 (subst (λ (es : List (List ℕ × ℕ)). Contains es (name, in_it.0)) table in_it.1)) [ inl same ↦ in_it.2 same | inr is_v ↦ other is_v ]

v_is_taken : Contains (table_entry (codes "w") 0 ∷ table_entry (codes "v") 1 ∷ []) (codes "v", 1)
v_is_taken = Contains-there (table_entry (codes "w") 0) (table_entry (codes "v") 1) (table_entry (codes "v") 1 ∷ []) (Contains-here (table_entry (codes "v") 1) [])

one_is_not_zero : (x : ℕ) → x ≡ 1 → x ≡ 0 → ⊥
one_is_not_zero x one zero = let both : 1 ≡ 0 = sym one ∙ zero in absurd (omega (arith, both))

first_code : List ℕ → ℕ
first_code [] = 0
first_code (x ∷ xs) = x

differ : (x y : ℕ) → eqb x y ≡ false → x ≡ y → ⊥
differ x y = eqb-false x y

w_is_not_v : codes "w" ≡ codes "v" → ⊥
unfolding first_code
w_is_not_v same = differ 119 118 refl (ap first_code same)

x_is_not_v : codes "x" ≡ codes "v" → ⊥
unfolding first_code
x_is_not_v same = differ 120 118 refl (ap first_code same)

abbrev world_w : List Entry → List Entry → World
world_w imports exports = world_of (codes "w") imports exports

no_clash_at : (world : World) (error : ResolveErrorKind) → world_w (type_t ∷ []) [] ≡ world → ImportizeCause (clashing []) 0 world (importized None world) error → ⊥
no_clash_at world error same cause =
    elim (subst (λ (x : World). ImportizeCause (clashing []) 0 x (importized None x) error) (sym same) cause) [
      | label_clash label has is ↦ Contains-nil has.0
      | importized_name_taken home taken is ↦ one_world (codes "w-importized") home (foo_bar_of [] ((codes "w", 0) ∷ [])) (clashing []) (world_w (type_t ∷ []) []) refl refl refl taken
    ]

own_name_at : (world : World) (error : ResolveErrorKind) → world_w [] [] ≡ world → ImportizeCause (two []) 0 world (importized (Some (codes "w")) world) error → ⊥
own_name_at world error same cause =
    elim (subst (λ (x : World). ImportizeCause (two []) 0 x (importized (Some (codes "w")) x) error) (sym same) cause) [
      | label_clash label has is ↦ Contains-nil has.0
      | importized_name_taken home taken is ↦
          two_worlds (codes "w") home (foo_bar_of ((codes "a", 0) ∷ (codes "b", 1) ∷ []) ((codes "w", 0) ∷ (codes "v", 1) ∷ [])) (two []) (world_w [] []) refl refl refl w_is_not_v taken
    ]

type_stays_at : (world : World) (error : ResolveErrorKind) → world_w (type_t ∷ []) [] ≡ world → ExportizeCause (clashing []) 0 world (exportized (false ∷ []) None world) error → ⊥
type_stays_at world error same cause =
    elim (subst (λ (x : World). ExportizeCause (clashing []) 0 x (exportized (false ∷ []) None x) error) (sym same) cause) [
      | export_conflict name free listed conflict refused is ↦ Contains-nil conflict.2
      | exportized_name_taken home taken is ↦ one_world (codes "w-exportized") home (foo_bar_of [] ((codes "w", 0) ∷ [])) (clashing []) (world_w (type_t ∷ []) []) refl refl refl taken
      | not_exported is ↦ let never : None ≡ Some error = is in cc
    ]

abbrev c : Entry
c = entry_of 2

abbrev chain_world : World
chain_world = world_w (a ∷ b ∷ c ∷ []) []

abbrev chain_home : Package
chain_home = foo_bar_of ((codes "a", 0) ∷ (codes "b", 1) ∷ (codes "c", 2) ∷ []) ((codes "w", 0) ∷ (codes "v", 1) ∷ [])

b_outside : Contains (exported_keys (a ∷ c ∷ [])) 1 → ⊥
b_outside has = elim (Contains-cons_cases 0 1 (2 ∷ []) has) [
  | inl same ↦ cc
  | inr there ↦ elim (Contains-cons_cases 2 1 [] there) [ inl same ↦ cc | inr none ↦ Contains-nil none ]
]

chain_conflict : HasTransitiveConflict (graph_uses chain) (a ∷ c ∷ [])
chain_conflict = (2, 1, Contains-there 0 2 (2 ∷ []) (Contains-here 2 []), Contains-here 1 [], (b_outside, 0, (0 ∷ [], (Contains-here 0 [], refl)), Contains-here 0 (2 ∷ [])))

c_leads : IsEntryInConflict (graph_uses chain) (a ∷ c ∷ []) c
c_leads = (2, Contains-here 2 [], (1, 1, Contains-here 1 [], ([], refl), (b_outside, 0, (0 ∷ [], (Contains-here 0 [], refl)), Contains-here 0 (2 ∷ []))))

a_safe : (f : Entry) → Contains (a ∷ []) f → IsEntryInConflict (graph_uses chain) (a ∷ c ∷ []) f → ⊥
a_safe f has conflict =
    elim (Contains-cons_cases a f [] has) [
      | inl same ↦ from_a (subst (λ (e : Entry). IsEntryInConflict (graph_uses chain) (a ∷ c ∷ []) e) (sym same) conflict)
      | inr none ↦ Contains-nil none
    ]
  where
    from_a : IsEntryInConflict (graph_uses chain) (a ∷ c ∷ []) a → ⊥
    from_a leads = elim (Contains-cons_cases 0 leads.0 [] leads.1) [
      | inl same ↦ Contains-nil (subst (λ (i : ℕ). Contains (direct (graph_uses chain) i) leads.2.0) (sym same) leads.2.2)
      | inr none ↦ Contains-nil none
    ]

chain_taken : HasNameTaken chain 0 chain_world (codes "v") chain_home
chain_taken = (0, refl, refl, (1, v_is_taken, one_is_not_zero 1 refl))

taken_before_at : (world : World) (name : List ℕ) → chain_world ≡ world → ExportizeCause chain 0 world (exportized first_and_last (Some (codes "v")) world) (InvalidTransitiveDependency None name) → ⊥
taken_before_at world name same cause =
    elim (subst (λ (x : World). ExportizeCause chain 0 x (exportized first_and_last (Some (codes "v")) x) (InvalidTransitiveDependency None name)) (sym same) cause) [
      | export_conflict n free listed conflict refused is ↦ free chain_home chain_taken
      | exportized_name_taken home taken is ↦ cc
      | not_exported is ↦ let never : None ≡ Some (InvalidTransitiveDependency None name) = is in cc
    ]

pub examples_of_refused_transformations : ExamplesOfRefusedTransformations
examples_of_refused_transformations = record {
  clash = (world_w (type_t ∷ []) (function_t ∷ []), refl, label_clash (codes "t") (Contains-here (key.Name (codes "t")) [], Contains-here (key.Name (codes "t")) []) refl);
  no_clash = λ error cause. no_clash_at cause.0 error (inside (world_w (type_t ∷ []) []) cause.0 cause.1) cause.2;
  taken = (
    world_w [] [],
    refl,
    importized_name_taken (foo_bar_of ((codes "a", 0) ∷ (codes "b", 1) ∷ []) ((codes "w", 0) ∷ (codes "v", 1) ∷ [])) (0, refl, refl, (1, v_is_taken, one_is_not_zero 1 refl)) refl,
  );
  own_name = λ error cause. own_name_at cause.0 error (inside (world_w [] []) cause.0 cause.1) cause.2;
  type_exported = (world_w (type_t ∷ []) [], refl, not_exported refl);
  type_stays = λ error cause. type_stays_at cause.0 error (inside (world_w (type_t ∷ []) []) cause.0 cause.1) cause.2;
  conflict = (
    chain_world,
    refl,
    export_conflict (codes "foo:bar/c") (λ home taken. two_worlds (codes "x") home chain_home chain chain_world refl refl refl x_is_not_v taken) refl chain_conflict
        (key.Interface 2, (c, record { before = a ∷ []; after = []; are = refl; earlier = a_safe; is = c_leads }, refl), refl) refl,
  );
  taken_before = λ name cause. taken_before_at cause.0 name (inside chain_world cause.0 cause.1) cause.2;
  taken_is = (chain_world, refl, exportized_name_taken chain_home chain_taken refl);
}
