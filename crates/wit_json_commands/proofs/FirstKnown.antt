-- The first known span of the things of a package.
use Rattle.std.proofs.Common.{◌≡◌, ◌∙◌, ℕ, List, [], ◌∷◌, ◌++◌, Option, Some, None, Bool, true, false, IsTrue, map, ap, sym, refl}
use Rattle.std.specs.Prelude.{IsSome, is_some, slice_get}
use Rattle.std.proofs.lemmas.Bool.{false≢true}
use Rattle.wit_graph_data.specs.Named.{package_named}
use Rattle.wit_graph_data.specs.declared.graph.Graph.{Graph}
use Rattle.wit_graph_data.specs.declared.graph.Package.{Package}
use Rattle.wit_names.specs.declared.package_name.PackageName.{PackageName}
use Rattle.wit_sources.specs.Span.{OptionalSpan}
use Rattle.wit_json_commands.specs.Places.{first_known, interface_span, package_span, world_span}

-- a known one of the first list
known_before : (xs ys : List OptionalSpan) (span : OptionalSpan) → span ≡ first_known xs → IsSome span → span ≡ first_known (xs ++ ys)
known_before [] ys span is known = absurd (false≢true (sym (ap is_some is) ∙ known))
known_before (Some range ∷ xs) ys span is known = is
known_before (None ∷ xs) ys span is known = known_before xs ys span is known

-- where the first list has none it is that of the second
known_after : (xs ys : List OptionalSpan) (span : OptionalSpan) → span ≡ first_known xs → is_some span ≡ false → first_known (xs ++ ys) ≡ first_known ys
known_after [] ys span is unknown = refl
known_after (Some range ∷ xs) ys span is unknown = absurd (false≢true (sym unknown ∙ ap is_some is))
known_after (None ∷ xs) ys span is unknown = known_after xs ys span is unknown

unknown : (span : OptionalSpan) (told : Bool) → told ≡ false → (IsSome span → IsTrue told) → is_some span ≡ false
unknown None told is back = refl
unknown (Some range) told is back = absurd (false≢true (sym is ∙ back refl))

module _ (g : Graph) (name : PackageName) (id : ℕ) (home : Package) (there : package_named g name ≡ Some id) (is_home : slice_get g.packages id ≡ Some home) where
  -- a known one among those of interfaces
  pub of_interfaces : (span : OptionalSpan) → span ≡ first_known (map (λ e. interface_span g e.1) home.interfaces) → IsSome span → span ≡ package_span g name
  of_interfaces span is known = rw there (rw is_home (known_before (map (λ e. interface_span g e.1) home.interfaces) (map (λ e. world_span g e.1) home.worlds) span is known))

  -- else that of the worlds
  pub of_worlds : (span other : OptionalSpan) (told : Bool) → span ≡ first_known (map (λ e. interface_span g e.1) home.interfaces) → told ≡ false → (IsSome span → IsTrue told)
      → other ≡ first_known (map (λ e. world_span g e.1) home.worlds) → other ≡ package_span g name
  of_worlds span other told is none back other_is =
      rw there (rw is_home (other_is ∙ sym (known_after (map (λ e. interface_span g e.1) home.interfaces) (map (λ e. world_span g e.1) home.worlds) span is (unknown span told none back))))
