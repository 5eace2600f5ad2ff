-- What leads where, and ways.
use Rattle.std.specs.Prelude.{◌≡◌, ℕ, List, [], ◌∷◌, None, Some, false, codes}
use Rattle.wit_data.specs.New.{new_interface, new_interface_entry, new_type, new_world}
use Rattle.wit_data.specs.declared.stability.Stability.TheVariants.{Unknown, Unstable}
use Rattle.wit_data.specs.declared.types.TypeDefKind.TheVariants as kind
use Rattle.wit_data.specs.declared.types.TypeOwner.TheVariants as owner
use Rattle.wit_data.specs.declared.types.Type_.TheVariants as type
use Rattle.wit_data.specs.declared.unresolved.AstItem.TheVariants as item
use Rattle.wit_data.specs.declared.unresolved.UnresolvedPackage.{UnresolvedPackage}
use Rattle.wit_data.specs.declared.world.WorldKey.TheVariants as key
use Rattle.wit_graph_data.specs.declared.features.Features.{Features}
use Rattle.wit_graph_data.specs.declared.error_kind.ResolveErrorKind.TheVariants as error
use Rattle.wit_names.specs.declared.package_name.PackageName.{PackageName}
use Rattle.wit_resolve_graph.specs.State.{new_state}
use Rattle.wit_ways.specs.Arrows.{placed}
use Rattle.wit_ways.specs.Includes.{included_labels}
use Rattle.wit_ways.specs.Packages.{interface_names, package_arrows, package_dependencies, package_worlds}
use Rattle.wit_ways.specs.Told.{IsTold}
use Rattle.wit_ways.specs.Ways.{IsChosen, IsRound, way_names}
use Rattle.wit_ways.specs.Worlds.{find_world, label_text}
use Rattle.wit_ways.specs.declared.arrow.Arrow.{Arrow}
use Rattle.wit_ways.specs.declared.asked.Asked.TheVariants as asks
use Rattle.wit_ways.specs.declared.include.Include.{Include}

abbrev pub a_b : PackageName
a_b = record { namespace = codes "a"; name = codes "b"; version = Some (1, 0, 0, [], []) }

abbrev pub c_d : PackageName
c_d = record { namespace = codes "c"; name = codes "d"; version = None }

-- no feature, and one
abbrev pub none_on : Features
none_on = record { names = []; all = false }

abbrev pub f_on : Features
f_on = record { names = codes "f" ∷ []; all = false }

-- a package of which interface `k` uses a type of `c:d/i` under a gate, and world `w` exports `k`
abbrev pub using : UnresolvedPackage
using = record {
  name = a_b;
  package_name_span = None;
  docs = record { contents = None };
  worlds =
      record (new_world (codes "w"))
      { exports = (key.Interface 1, new_interface_entry 1) ∷ []; span = Some (20, 27) } ∷ [];
  interfaces =
      record (new_interface (Some (codes "i"))) { types = (codes "t", 0) ∷ [] }
      ∷ record (new_interface (Some (codes "k"))) { types = (codes "u", 1) ∷ [] } ∷ [];
  types = new_type (Some (codes "t")) kind.Unknown (owner.Interface 0)
      ∷ record (new_type (Some (codes "u")) (kind.Type_ (type.Id 0)) (owner.Interface 1))
      { stability = Unstable (codes "f") None; span = Some (10, 12) } ∷ [];
  foreign_deps = (c_d, (codes "i", (item.Interface 0, Unknown ∷ [])) ∷ []) ∷ [];
  foreign_dep_spans = Some (5, 8) ∷ [];
  unknown_type_spans = None ∷ [];
  required_resource_types = [];
}

-- world `w` includes `c:d/v`, whose `n` is `m` here
abbrev pub including : Include
including = record {
  world = record { «package» = a_b; name = codes "w" };
  included = record { «package» = c_d; name = codes "v" };
  names = record { name = codes "n"; as_ = codes "m" } ∷ [];
  span = None;
}

abbrev pub arrow : List ℕ → List ℕ → Arrow
arrow from to = record { from = from; to = to; span = None }

-- from `p` to `q`, from there to `r`, and back
abbrev pub circle : List Arrow
circle =
    arrow (codes "p") (codes "q") ∷ arrow (codes "q") (codes "r") ∷ arrow (codes "r") (codes "p")
    ∷ []

pub record ExamplesOfWays : Type 0 where
  -- spans further on, as far as positions go
  pub moved : placed 100 (Some (5, 8)) ≡ Some (105, 108)
  pub past_the_end : placed 4294967290 (Some (5, 8)) ≡ None
  -- a foreign interface is called by the other package
  pub named : interface_names using ≡ Some (codes "c:d/i") ∷ Some (codes "a:b/k@1.0.0") ∷ []
  -- a use that is active, and one that isn't; an export under its own key
  pub used : package_arrows f_on 100 using
      ≡ record { from = codes "a:b/k@1.0.0"; to = codes "c:d/i"; span = Some (110, 112) }
      ∷ arrow (codes "a:b/w.@1.0.0") (codes "a:b/k@1.0.0") ∷ []
  pub not_used : package_arrows none_on 100 using
      ≡ arrow (codes "a:b/w.@1.0.0") (codes "a:b/k@1.0.0") ∷ []
  pub depends : package_dependencies 100 using
      ≡ record { from = codes "a:b@1.0.0"; to = codes "c:d"; span = Some (105, 108) } ∷ []
  -- the world that stands at a span
  pub there : find_world (package_worlds 100 using) (Some (120, 127))
      ≡ Some (record { «package» = a_b; name = codes "w" })
  pub elsewhere : find_world (package_worlds 100 using) (Some (20, 27)) ≡ None
  pub nowhere : find_world (package_worlds 100 using) None ≡ None
  -- a label, and of which it may be by an include
  pub label : label_text including.world (codes "m") ≡ codes "a:b/w.m@1.0.0"
  pub included : included_labels (including ∷ []) (codes "m")
      ≡ arrow (codes "a:b/w.m@1.0.0") (codes "c:d/v.m")
      ∷ arrow (codes "a:b/w.m@1.0.0") (codes "c:d/v.n") ∷ []
  -- a way that leads back; a way to `r` past `q`, which is no goal; none to `q`, past nothing
  pub round : IsRound circle (codes "p") circle
  pub past : IsChosen circle (codes "r" ∷ []) (codes "p") false
      (arrow (codes "p") (codes "q") ∷ arrow (codes "q") (codes "r") ∷ [])
  pub not_past : IsChosen circle (codes "q" ∷ []) (codes "p") false
      (arrow (codes "p") (codes "q") ∷ []) → ⊥
  pub not_none : IsRound circle (codes "p") [] → ⊥
  pub shown : way_names circle ≡ codes "p -> q -> r -> p"
  -- another refusal has no way
  pub no_way : IsTold new_state asks.Other error.OutOfMemory []
  pub no_other : IsTold new_state asks.Other error.OutOfMemory circle → ⊥
