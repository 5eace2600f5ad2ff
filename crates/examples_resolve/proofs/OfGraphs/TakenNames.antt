-- Which names are taken in a package, and which are free.
use Rattle.std.proofs.Common.{◌≡◌, ◌∙◌, ℕ, true, Bool, List, [], ◌∷◌, None, Some, codes, length, nat_eq, slice_get, refl, sym, ap, subst, arith, Contains}
use Rattle.std.proofs.lemmas.Bool.{eqb-true}
use Rattle.std.proofs.lemmas.Slice.Eq.{bytes_eq-Decides}
use Rattle.std.specs.List.{list_all}
use Rattle.std.specs.Option.{option_map_or}
use Rattle.std.specs.Str.{bytes_eq}
use Rattle.wit_digraph.specs.facts.MemberFacts.{Contains-here, Contains-nil, Contains-there}
use Rattle.wit_digraph.specs.Relation.{direct}
use Rattle.wit_digraph.specs.PostOrder.{post_order, post_order_within}
use Rattle.wit_values.specs.facts.Lists.{differ}
use Rattle.wit_data.specs.declared.world.World.{World}
use Rattle.wit_elaboration.specs.Elaboration.{graph_uses}
use Rattle.wit_elaboration.specs.Imported.{HasTransitiveConflict}
use Rattle.wit_graph_data.specs.examples.Samples.{foo_bar_of, world_of}
use Rattle.wit_graph_data.specs.declared.cause.Cause.TheVariants.{NameTaken}
use Rattle.wit_graph_data.specs.declared.graph.Graph.{Graph}
use Rattle.wit_graph_data.specs.declared.graph.Package.{Package}
use Rattle.wit_graph_data.specs.declared.error_kind.ResolveErrorKind.{ResolveErrorKind}
use Rattle.wit_graph_data.specs.declared.error_kind.ResolveErrorKind.TheVariants.{Semantic}
use Rattle.wit_graph_theory.specs.facts.OptionFacts.{some_same}
use Rattle.wit_graph_theory.specs.examples.TestFacts.{all_are, implied, implies, only_one}
use Rattle.wit_transform.specs.Transformed.{ExportizeCause, HasNameTaken, ImportizeCause, export_conflict, exportized_name_taken, importized_name_taken, label_clash, name_taken_text, not_exported, exportized, importized}
use Rattle.wit_transform.specs.examples.TransformExamples.{a}
use Rattle.examples_resolve.specs.graph.TransformCauses.{ExamplesOfNamesInUse, of_w, w_imports_a}

-- no other world than w has this name in the table
abbrev pub leaves_free : List ℕ → ℕ → List (List ℕ × ℕ) → Bool
leaves_free name w table = list_all (λ (e : List ℕ × ℕ). implies (bytes_eq name e.0) (nat_eq e.1 w)) table

module _ (g : Graph) (w p : ℕ) (world : World) (name : List ℕ) (only home : Package) (at : world.package ≡ Some p) (there : slice_get g.packages p ≡ Some only) where
  -- a name is taken in the one package of the world
  home_is : HasNameTaken g w world name home → only ≡ home
  home_is taken = some_same only home (sym there ∙ (ap (slice_get g.packages) (some_same p taken.0 (sym at ∙ taken.1)) ∙ taken.2))

  -- and not where the table leaves it free
  pub not_taken : leaves_free name w only.worlds ≡ true → HasNameTaken g w world name home → ⊥
  not_taken free taken =
      let inside : Contains only.worlds (name, taken.3.0) = subst (λ (h : Package). Contains h.worlds (name, taken.3.0)) (sym (home_is taken)) taken.3.1 in
      let passes = all_are _ only.worlds free (name, taken.3.0) inside in
      taken.3.2 (eqb-true taken.3.0 w (implied (bytes_eq name name) (nat_eq taken.3.0 w) passes ((bytes_eq-Decides name name).1 refl)))

-- ---- the two packages

abbrev v : List ℕ
v = codes "v"

abbrev u : List ℕ
u = codes "u"

abbrev bar : Package
bar = foo_bar_of ((codes "a", 0) ∷ (codes "b", 1) ∷ []) ((codes "w", 0) ∷ (codes "u", 1) ∷ [])

abbrev w_of_second : World
w_of_second = record (world_of v [] []) { «package» = Some 1 }

-- v is free for the first world, and w for that of the other package
v_is_free : (home : Package) → HasNameTaken of_w 0 w_imports_a v home → ⊥
v_is_free home taken = not_taken of_w 0 0 w_imports_a v _ home refl refl refl taken

importizes : (world : World) (error : ResolveErrorKind) → w_imports_a ≡ world → ImportizeCause of_w 0 world (importized (Some v) world) error → ⊥
importizes world error same cause =
    elim (subst (λ (x : World). ImportizeCause of_w 0 x (importized (Some v) x) error) (sym same) cause) [
      | label_clash label has is ↦ Contains-nil has.0
      | importized_name_taken home taken is ↦ v_is_free home taken
    ]

second_importizes : (world : World) (error : ResolveErrorKind) → w_of_second ≡ world → ImportizeCause of_w 2 world (importized (Some (codes "w")) world) error → ⊥
second_importizes world error same cause =
    elim (subst (λ (x : World). ImportizeCause of_w 2 x (importized (Some (codes "w")) x) error) (sym same) cause) [
      | label_clash label has is ↦ Contains-nil has.0
      | importized_name_taken home taken is ↦ not_taken of_w 2 1 w_of_second (codes "w") _ home refl refl refl taken
    ]

-- a alone is in no conflict
no_conflict : HasTransitiveConflict (graph_uses of_w) (a ∷ []) → ⊥
no_conflict conflict = Contains-nil (subst (λ (i : ℕ). Contains (direct (graph_uses of_w) i) conflict.1) (sym (only_one 0 conflict.0 conflict.2)) conflict.3)

exportizes : (world : World) (error : ResolveErrorKind) → w_imports_a ≡ world → ExportizeCause of_w 0 world (exportized (true ∷ []) (Some v) world) error → ⊥
exportizes world error same cause =
    elim (subst (λ (x : World). ExportizeCause of_w 0 x (exportized (true ∷ []) (Some v) x) error) (sym same) cause) [
      | export_conflict name free listed conflict refused is ↦ no_conflict conflict
      | exportized_name_taken home taken is ↦ v_is_free home taken
      | not_exported is ↦ let never : None ≡ Some error = is in cc
    ]

-- u is taken by world 1
u_is_taken : HasNameTaken of_w 0 w_imports_a u bar
u_is_taken = (0, refl, refl, (1, Contains-there (codes "w", 0) (u, 1) ((u, 1) ∷ []) (Contains-here (u, 1) []), λ same. absurd (omega (arith, same))))

-- in foo:bar
abbrev in_baz : List ℕ
in_baz = codes "world `u` is already defined in package `foo:baz`"

not_in_baz : (world : World) → w_imports_a ≡ world → ImportizeCause of_w 0 world (importized (Some u) world) (Semantic None in_baz NameTaken) → ⊥
not_in_baz world same cause =
    elim (subst (λ (x : World). ImportizeCause of_w 0 x (importized (Some u) x) (Semantic None in_baz NameTaken)) (sym same) cause) [
      | label_clash label has is ↦ cc
      | importized_name_taken home taken is ↦
          let told : in_baz ≡ name_taken_text u home.name = cc in
          differ in_baz (name_taken_text u bar.name) refl (told ∙ ap (λ (h : Package). name_taken_text u h.name) (sym (home_is of_w 0 0 w_imports_a u bar home refl refl taken)))
    ]

-- what tells the graphs apart
abbrev first_name : Graph → List ℕ
first_name g = option_map_or (λ (world : World). world.name) (slice_get g.worlds 0) []

abbrev second_count : Graph → ℕ
second_count g = option_map_or (λ (home : Package). length home.worlds) (slice_get g.packages 1) 0

pub taken_names_are : ExamplesOfNamesInUse
unfolding post_order post_order_within
taken_names_are = record {
  free_to_importize = λ error cause. importizes cause.0 error (some_same _ _ cause.1) cause.2;
  free_to_exportize = λ error cause. exportizes cause.0 error (some_same _ _ cause.1) cause.2;
  free_in_the_second = λ error cause. second_importizes cause.0 error (some_same _ _ cause.1) cause.2;
  importized_to_it = refl;
  exportized_to_it = refl;
  not_left = λ same. differ v (codes "w") refl (ap first_name same);
  not_in_its_place = λ same. let count : 1 ≡ 0 = ap second_count same in absurd (omega (arith, count));
  taken = (w_imports_a, refl, importized_name_taken bar u_is_taken refl);
  taken_to_exportize = (w_imports_a, refl, exportized_name_taken bar u_is_taken refl);
  not_in_the_other = λ cause. not_in_baz cause.0 (some_same _ _ cause.1) cause.2;
}
