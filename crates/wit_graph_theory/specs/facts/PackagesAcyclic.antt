-- Packages that grow by later ones, which use old ones alone, stay acyclic: an addition.
use Rattle.std.proofs.Common.{◌≡◌, ◌∙◌, inl, inr, ℕ, ◌+◌, ◌<◌, zero, suc, List, [], ◌∷◌, Option, None, Some, get_or, slice_get, refl, sym, ap, subst, arith, length, Contains}
use Rattle.std.proofs.lemmas.Bool.{cases_lt}
use Rattle.std.proofs.lemmas.List.{length-map}
use Rattle.std.proofs.lemmas.List.Elements.{All-contains, Contains-append_cases, Contains-append_left, Contains-append_right, Contains-get_or}
use Rattle.std.specs.List.{enumerate_from, flat_map}
use Rattle.std.specs.Option.{option_map_or}
use Rattle.wit_digraph.specs.facts.MemberFacts.{Contains-flat_map, Contains-flat_map_cases, Contains-nil}
use Rattle.wit_digraph.specs.Relation.{IsAcyclic, direct}
use Rattle.wit_data.specs.Entries.{Entry}
use Rattle.wit_data.specs.Uses.{interface_uses, type_interface_dep}
use Rattle.wit_data.specs.declared.world.World.{World}
use Rattle.wit_data.specs.declared.world.WorldItem.{WorldItem}
use Rattle.wit_data.specs.declared.world.WorldItem.TheVariants as item
use Rattle.wit_graph_data.specs.Queries.{entry_interface, other_package, package_interfaces, package_uses, world_interfaces, entry_interfaces}
use Rattle.wit_graph_data.specs.declared.graph.Graph.{Graph}
use Rattle.wit_graph_data.specs.declared.graph.Package.{Package}
use Rattle.wit_graph_theory.specs.facts.Growth.{PackagesGrow}
use Rattle.wit_graph_theory.specs.facts.DependencyFacts.{filter_map_from, filter_map_into}
use Rattle.wit_graph_theory.specs.facts.ListFacts.{from_row, in_row}
use Rattle.wit_graph_theory.specs.facts.RowFacts.{IsAcyclic-grown}
use Rattle.wit_graph_data.specs.steps.Parts.{package_needs}

-- ---- numbered lists

pub numbered_from : {X : Type 0} (from : ℕ) (xs : List X) (i : ℕ) (e : ℕ × X) → slice_get (enumerate_from from xs) i ≡ Some e → (e.0 ≡ from + i) × (slice_get xs i ≡ Some e.1)
numbered_from from [] i e at = cc
numbered_from from (x ∷ xs) zero e at = let same : (from, x) ≡ e = cc in (let first = ap (λ (p : ℕ × _). p.0) same in omega (arith, first), ap (λ (p : ℕ × _). Some p.1) same)
numbered_from from (x ∷ xs) (suc i) e at = let rest = numbered_from (from + 1) xs i e at in let place = rest.0 in (omega arith, rest.1)

pub numbered_into : {X : Type 0} (from : ℕ) (xs : List X) (i : ℕ) (x : X) → slice_get xs i ≡ Some x → slice_get (enumerate_from from xs) i ≡ Some (from + i, x)
numbered_into from [] i x at = cc
numbered_into from (y ∷ xs) zero x at = let same : y ≡ x = cc in let place : from ≡ from + 0 = omega arith in (λ i. Some (place i, same i))
numbered_into from (y ∷ xs) (suc i) x at = let place : (from + 1) + i ≡ from + suc i = omega arith in numbered_into (from + 1) xs i x at ∙ ap (λ (n : ℕ). Some (n, x)) place

pub length-numbered : {X : Type 0} (from : ℕ) (xs : List X) → length (enumerate_from from xs) ≡ length xs
length-numbered from [] = refl
length-numbered from (x ∷ xs) = ap suc (length-numbered (from + 1) xs)

-- what an element gives, where it is there
pub there_is : {X Y : Type 0} (f : X → List Y) (o : Option X) (y : Y) → Contains (option_map_or f o []) y → (x : X) × (o ≡ Some x) × Contains (f x) y
there_is f None y has = absurd (Contains-nil has)
there_is f (Some x) y has = (x, refl, has)

pub is_there : {X Y : Type 0} (f : X → List Y) (o : Option X) (x : X) (y : Y) → o ≡ Some x → Contains (f x) y → Contains (option_map_or f o []) y
is_there f o x y at has = subst (λ (p : Option _). Contains (option_map_or f p []) y) (sym at) has

module _ (old g : Graph) (grow : PackagesGrow old g) where
  abbrev needs_at : Graph → ℕ × Package → List ℕ
  needs_at h e = package_needs h.types h.interfaces h.worlds e.0 e.1

  entry_stays : (held : WorldItem) (i : ℕ) → ((t : ℕ) (span : _) → held ≡ item.Type_ t span → type_interface_dep g.types t ≡ Some i → type_interface_dep old.types t ≡ Some i)
      → entry_interface g.types held ≡ Some i → entry_interface old.types held ≡ Some i
  entry_stays (item.Interface f stability docs span external_id) i stays is = is
  entry_stays (item.Function f) i stays is = is
  entry_stays (item.Type_ t span) i stays is = stays t span refl is

  entries_stay : (es : List Entry) (i : ℕ) → ((e : Entry) → Contains es e → (t : ℕ) (span : _) → e.1 ≡ item.Type_ t span → type_interface_dep g.types t ≡ Some i → type_interface_dep old.types t ≡ Some i)
      → Contains (entry_interfaces g.types es) i → Contains (entry_interfaces old.types es) i
  entries_stay es i stays has =
      let from = filter_map_from (λ (e : Entry). entry_interface g.types e.1) es i has in
      filter_map_into (λ (e : Entry). entry_interface old.types e.1) es from.0 i from.1 (entry_stays from.0.1 i (stays from.0 from.1) from.2)

  world_stays : (w : ℕ) (world : World) (i : ℕ) → slice_get old.worlds w ≡ Some world → Contains (world_interfaces g.types world) i → Contains (world_interfaces old.types world) i
  world_stays w world i there has =
      elim (Contains-append_cases (entry_interfaces g.types world.imports) (entry_interfaces g.types world.exports) i has) [
        | inl among ↦ Contains-append_left (entry_interfaces old.types world.imports) (entry_interfaces old.types world.exports) i (entries_stay world.imports i (grow.imports w world i there) among)
        | inr among ↦ Contains-append_right (entry_interfaces old.types world.imports) (entry_interfaces old.types world.exports) i (entries_stay world.exports i (grow.exports w world i there) among)
      ]

  -- what an old package needs, it needed
  needs_stay : (p q : ℕ) (home : Package) → slice_get old.packages p ≡ Some home → Contains (needs_at g (p, home)) q → Contains (needs_at old (p, home)) q
  needs_stay p q home there has =
      let from = filter_map_from (other_package g.interfaces p) (package_interfaces g.types g.interfaces g.worlds home) q has in
      let named : Contains (package_interfaces old.types old.interfaces old.worlds home) from.0 =
      elim (Contains-append_cases (flat_map (λ (e : List ℕ × ℕ). option_map_or (interface_uses g.types) (slice_get g.interfaces e.1) []) home.interfaces) (flat_map (λ (e : List ℕ × ℕ). option_map_or (world_interfaces g.types) (slice_get g.worlds e.1) []) home.worlds) from.0 from.1) [
        | inl among ↦
            let e = Contains-flat_map_cases (λ (e : List ℕ × ℕ). option_map_or (interface_uses g.types) (slice_get g.interfaces e.1) []) home.interfaces from.0 among in
            let used = there_is (interface_uses g.types) (slice_get g.interfaces e.0.1) from.0 e.1.1 in
            let kept = grow.interfaces p home e.0 used.0 there e.1.0 used.1 in
            Contains-append_left _ _ from.0
            (Contains-flat_map (λ (e : List ℕ × ℕ). option_map_or (interface_uses old.types) (slice_get old.interfaces e.1) []) home.interfaces e.0 from.0 e.1.0
            (is_there (interface_uses old.types) (slice_get old.interfaces e.0.1) used.0 from.0 kept (grow.uses e.0.1 used.0 from.0 kept used.2)))
        | inr among ↦
            let e = Contains-flat_map_cases (λ (e : List ℕ × ℕ). option_map_or (world_interfaces g.types) (slice_get g.worlds e.1) []) home.worlds from.0 among in
            let held = there_is (world_interfaces g.types) (slice_get g.worlds e.0.1) from.0 e.1.1 in
            let kept = grow.worlds p home e.0 held.0 there e.1.0 held.1 in
            Contains-append_right _ _ from.0
            (Contains-flat_map (λ (e : List ℕ × ℕ). option_map_or (world_interfaces old.types) (slice_get old.worlds e.1) []) home.worlds e.0 from.0 e.1.0
            (is_there (world_interfaces old.types) (slice_get old.worlds e.0.1) held.0 from.0 kept (world_stays e.0.1 held.0 from.0 kept held.2)))
      ] in
      filter_map_into (other_package old.interfaces p) (package_interfaces old.types old.interfaces old.worlds home) from.0 q named (grow.others p q home from.0 there named from.2)

  abbrev old_rows : List (List ℕ)
  old_rows = package_uses old.types old.interfaces old.worlds old.packages

  abbrev rows : List (List ℕ)
  rows = package_uses g.types g.interfaces g.worlds g.packages

  long_old : length old_rows ≡ length old.packages
  long_old = length-map (enumerate_from 0 old.packages) (needs_at old) ∙ length-numbered 0 old.packages

  long : length rows ≡ length g.packages
  long = length-map (enumerate_from 0 g.packages) (needs_at g) ∙ length-numbered 0 g.packages

  row_at : (p q : ℕ) → Contains (direct rows p) q → (home : Package) × (slice_get g.packages p ≡ Some home) × Contains (needs_at g (p, home)) q
  row_at p q has =
      let from = from_row (needs_at g) (enumerate_from 0 g.packages) p q has in
      let numbered = numbered_from 0 g.packages p from.0 from.1 in
      let place : from.0.0 ≡ p = let is = numbered.0 in omega arith in
      (from.0.1, numbered.1, subst (λ (n : ℕ). Contains (needs_at g (n, from.0.1)) q) place from.2)

  stays : (p q : ℕ) → p < length old_rows → Contains (direct rows p) q → Contains (direct old_rows p) q
  stays p q before has =
      let row = row_at p q has in
      let there = grow.kept p row.0 (omega (arith, before, long_old)) row.1 in
      let place : 0 + p ≡ p = omega arith in
      in_row (needs_at old) (enumerate_from 0 old.packages) p (p, row.0) q (numbered_into 0 old.packages p row.0 there ∙ ap (λ (n : ℕ). Some (n, row.0)) place) (needs_stay p q row.0 there row.2)

  below : IsAcyclic old_rows → (p q : ℕ) → Contains (direct rows p) q → q < length old_rows
  below acyclic p q has =
      elim (cases_lt p (length old.packages)) [
        | inl before ↦ All-contains (λ x. x < length old_rows) (direct old_rows p) q (acyclic.in_range p) (stays p q (omega (arith, before, long_old)) has)
        | inr past ↦ let row = row_at p q has in let within = grow.new p q row.0 past row.1 row.2 in omega (arith, within, long_old)
      ]

  -- packages that grow so stay acyclic
  pub packages_acyclic : IsAcyclic old_rows → IsAcyclic rows
  packages_acyclic acyclic = IsAcyclic-grown (λ p r. Unit {0}) old_rows rows acyclic (record {
    in_range = λ p k d inside.
        let within = below acyclic p (get_or (direct rows p) k d) (Contains-get_or (direct rows p) k d inside) in
        let longer = grow.longer in
        omega (arith, within, longer, long, long_old);
    stays = stays;
    ranked = λ p past q has. (0, tt);
    down = λ p r q past rank has. inl (below acyclic p q has);
  })
