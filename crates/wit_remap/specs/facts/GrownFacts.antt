-- What grows keeps its beginning, and is cut back to it: facts for the proofs of the crates above.
use Rattle.std.proofs.Common.{◌≡◌, ◌≤◌, ℕ, List, [], ◌∷◌, ◌++◌, length, take, refl, sym, ap, subst, ◌∙◌, arith}
use Rattle.std.proofs.lemmas.List.{take_at, take_all, take-take}
use Rattle.wit_data.specs.declared.interface.Interface.{Interface}
use Rattle.wit_names.specs.declared.package_name.PackageName.{PackageName}
use Rattle.wit_data.specs.declared.types.TypeDef.{TypeDef}
use Rattle.wit_graph_data.specs.declared.graph.Graph.{Graph}
use Rattle.wit_graph_data.specs.declared.graph.Package.{Package}
use Rattle.wit_remap.specs.Grown.{Begins, Grown}
use Rattle.wit_remap.specs.steps.Grown.{cut_at, mark_of}

module _ {X : Type 0} where
  pub Begins-more : (old more : List X) → Begins old (old ++ more)
  Begins-more old more = take_at old more (length old) refl

  pub Begins-same : (old : List X) → Begins old old
  Begins-same old = take_all (length old) old (omega arith)

  -- the same of a list that is told to be so
  pub Begins-by : (old new more : List X) → new ≡ old ++ more → Begins old new
  Begins-by old new more is = subst (Begins old) (sym is) (Begins-more old more)

  pub Begins-as : (old new : List X) → new ≡ old → Begins old new
  Begins-as old new is = subst (Begins old) (sym is) (Begins-same old)

  -- a beginning is no longer than the whole
  pub length-Begins : (old new : List X) → Begins old new → length old ≤ length new
  length-Begins [] new h = omega arith
  length-Begins (x ∷ xs) [] h = cc
  length-Begins (x ∷ xs) (y ∷ ys) h = let rest : Begins xs ys = cc in omega (arith, length-Begins xs ys rest)

  pub Begins-then : (old mid new : List X) → Begins old mid → Begins mid new → Begins old new
  Begins-then old mid new h k =
      sym (take-take (length old) (length mid) new (length-Begins old mid h)) ∙ ap (take (length old)) k ∙ h

-- a graph that grew is cut back to what it was
pub cut_back : (old new : Graph) → Grown old new → cut_at (mark_of old) new ≡ old
cut_back old new h = rw (h.types, h.interfaces, h.worlds, h.packages, h.package_names) refl

pub Grown-then : (old mid new : Graph) → Grown old mid → Grown mid new → Grown old new
Grown-then old mid new h k = record {
  types = Begins-then old.types mid.types new.types h.types k.types;
  interfaces = Begins-then old.interfaces mid.interfaces new.interfaces h.interfaces k.interfaces;
  worlds = Begins-then old.worlds mid.worlds new.worlds h.worlds k.worlds;
  packages = Begins-then old.packages mid.packages new.packages h.packages k.packages;
  package_names = Begins-then old.package_names mid.package_names new.package_names h.package_names k.package_names;
}

pub Grown-same : (g : Graph) → Grown g g
Grown-same g = record {
  types = Begins-same g.types;
  interfaces = Begins-same g.interfaces;
  worlds = Begins-same g.worlds;
  packages = Begins-same g.packages;
  package_names = Begins-same g.package_names;
}

module _ (g : Graph) where
  -- a graph whose types grow, or its interfaces, or its packages with their names
  pub types_grow : (types : List TypeDef) → Begins g.types types → Grown g (record g { types = types })
  types_grow types begins = record {
    types = begins;
    interfaces = Begins-same g.interfaces;
    worlds = Begins-same g.worlds;
    packages = Begins-same g.packages;
    package_names = Begins-same g.package_names;
  }

  pub interfaces_grow : (interfaces : List Interface) → Begins g.interfaces interfaces → Grown g (record g { interfaces = interfaces })
  interfaces_grow interfaces begins = record {
    types = Begins-same g.types;
    interfaces = begins;
    worlds = Begins-same g.worlds;
    packages = Begins-same g.packages;
    package_names = Begins-same g.package_names;
  }

  pub packages_grow : (packages : List Package) (names : List (PackageName × ℕ)) → Begins g.packages packages → Begins g.package_names names → Grown g (record g { packages = packages; package_names = names })
  packages_grow packages names begins begin = record {
    types = Begins-same g.types;
    interfaces = Begins-same g.interfaces;
    worlds = Begins-same g.worlds;
    packages = begins;
    package_names = begin;
  }
