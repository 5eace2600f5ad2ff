-- A world that is chosen is one of the graph.
use Rattle.std.proofs.Common.{◌≡◌, ◌<◌, ℕ, List, [], ◌∷◌, Option, None, Some, Result, Ok, Err, IfOk, length, slice_get, refl, sym, subst, Contains}
use Rattle.std.specs.Map.{lookup}
use Rattle.std.specs.Option.{ok_or, option_map_or}
use Rattle.std.specs.Str.{bytes_eq}
use Rattle.std.proofs.lemmas.Map.Views.{Contains-from_lookup}
use Rattle.std.proofs.lemmas.Option.{slice_get_within}
use Rattle.std.proofs.lemmas.Slice.Eq.{bytes_eq-Decides}
use Rattle.wit_digraph.specs.facts.MemberFacts.{Contains-here}
use Rattle.wit_names.specs.UsePath.{use_path_of}
use Rattle.wit_names.specs.declared.use_path.ParsedUsePath.{ParsedUsePath}
use Rattle.wit_data.specs.declared.world.World.{World}
use Rattle.wit_names.specs.declared.use_path.ParsedUsePath.TheVariants as path
use Rattle.wit_elaboration.specs.Valid.{IsValid}
use Rattle.wit_graph_data.specs.declared.graph.Graph.{Graph}
use Rattle.wit_graph_data.specs.declared.graph.Package.{Package}
use Rattle.wit_graph_data.specs.declared.error_kind.ResolveErrorKind.{ResolveErrorKind}
use Rattle.wit_graph_theory.specs.facts.ListFacts.{found_at, place_of}
use Rattle.wit_queries.specs.Selection.{Choice, IsSelection, by_path, by_reading, in_named, in_package, named_package, named_world, no_main_text, only_world, selected_world}
use Rattle.wit_queries.specs.steps.Parts.{no_world_text}

-- the world stands in the table of a package
record IsTabled (g : Graph) (id : ℕ) : Type 0 where
  pub p : ℕ
  pub home : Package
  pub name : List ℕ
  pub home_at : slice_get g.packages p ≡ Some home
  pub listed : Contains home.worlds (name, id)

module _ (g : Graph) where
  by_name : (p : ℕ) (home : Package) (name : List ℕ) (id : ℕ) → slice_get g.packages p ≡ Some home → named_world name home ≡ Ok id → IsTabled g id
  by_name p home name id at is = by (lookup (bytes_eq name) home.worlds) refl is
    where
      by : (o : Option ℕ) → lookup (bytes_eq name) home.worlds ≡ o → ok_or o (no_world_text name home.name) ≡ Ok id → IsTabled g id
      by None found told = cc
      by (Some w) found told =
          let same : w ≡ id = cc in
          record { p = p; home = home; name = name; home_at = at; listed = subst (λ n. Contains home.worlds (name, n)) same (Contains-from_lookup (λ x y. (bytes_eq-Decides x y).0) name w home.worlds found) }

  only_one : (p : ℕ) (home : Package) (id : ℕ) → slice_get g.packages p ≡ Some home → only_world g p home home.worlds ≡ Ok id → IsTabled g id
  only_one p home id at is = by home.worlds refl is
    where
      by : (es : List (List ℕ × ℕ)) → home.worlds ≡ es → only_world g p home es ≡ Ok id → IsTabled g id
      by [] are told = cc
      by (e ∷ []) are told =
          let same : e.1 ≡ id = cc in
          let has : Contains (e ∷ []) (e.0, e.1) = Contains-here e [] in
          record { p = p; home = home; name = e.0; home_at = at; listed = subst (λ (l : List (List ℕ × ℕ)). Contains l (e.0, id)) (sym are) (subst (λ n. Contains (e ∷ []) (e.0, n)) same has) }
      by (a ∷ b ∷ rest) are told = cc

  in_one : (p : ℕ) (choose : Package → Choice) (id : ℕ) → ((home : Package) → slice_get g.packages p ≡ Some home → choose home ≡ Ok id → IsTabled g id) → in_package g p choose ≡ Ok id → IsTabled g id
  in_one p choose id tabled is = by (slice_get g.packages p) refl is
    where
      by : (o : Option Package) → slice_get g.packages p ≡ o → option_map_or choose o (Err no_main_text) ≡ Ok id → IsTabled g id
      by None found told = cc
      by (Some home) found told = tabled home found told

  in_chosen : (name : List ℕ) (chosen : Choice) (id : ℕ) → in_named g name chosen ≡ Ok id → IsTabled g id
  in_chosen name (Ok p) id is = in_one p (named_world name) id (λ home at told. by_name p home name id at told) is
  in_chosen name (Err said) id is = cc

  tabled_by_path : (mains : List ℕ) (chosen : Option ParsedUsePath) (id : ℕ) → by_path g mains chosen ≡ Ok id → IsTabled g id
  tabled_by_path [] chosen id is = cc
  tabled_by_path (p ∷ mains) (Some (path.Package home name)) id is = in_chosen name (named_package g.package_names home) id is
  tabled_by_path (p ∷ []) (Some (path.Name name)) id is = in_one p (named_world name) id (λ home at told. by_name p home name id at told) is
  tabled_by_path (p ∷ []) None id is = in_one p (λ (home : Package). only_world g p home home.worlds) id (λ home at told. only_one p home id at told) is
  tabled_by_path (p ∷ q ∷ mains) (Some (path.Name name)) id is = cc
  tabled_by_path (p ∷ q ∷ mains) None id is = cc

  tabled_by_reading : (mains text : List ℕ) (chosen : Option ParsedUsePath) (id : ℕ) → by_reading g mains text chosen ≡ Ok id → IsTabled g id
  tabled_by_reading mains text None id is = cc
  tabled_by_reading mains text (Some chosen) id is = tabled_by_path mains (Some chosen) id is

  tabled : (mains : List ℕ) (text : Option (List ℕ)) (id : ℕ) → selected_world g mains text ≡ Ok id → IsTabled g id
  tabled mains None id is = tabled_by_path mains None id is
  tabled mains (Some text) id is = tabled_by_reading mains text (use_path_of text) id is

  -- what stands in the table of a package is there
  within : (id : ℕ) → IsValid g → IsTabled g id → id < length g.worlds
  within id valid t =
      let place = place_of t.home.worlds (t.name, id) t.listed in
      let world = found_at (λ (world : World). (world.name ≡ t.name) × (world.package ≡ Some t.p)) g.worlds id (valid.well_formed.tables.world_tables t.p t.home t.home_at place.0 (t.name, id) place.1) in
      slice_get_within g.worlds id world.0 world.1

-- a chosen world is there
pub chosen_within : (g : Graph) (mains : List ℕ) (text : Option (List ℕ)) (chosen : Result ℕ ResolveErrorKind) → IsValid g → IsSelection g mains text chosen → IfOk chosen (λ id. id < length g.worlds)
chosen_within g mains text (Ok id) valid is = within g id valid (tabled g mains text id is)
chosen_within g mains text (Err kind) valid is = tt
