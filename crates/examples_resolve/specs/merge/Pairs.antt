-- Types that are compared where they become one: which, in which order, and what a message says of where they are.
use Rattle.std.specs.Prelude.{◌≡◌, ℕ, List, [], ◌∷◌, ◌++◌, Some, None, codes}
use Rattle.wit_data.specs.Entries.{Entry}
use Rattle.wit_data.specs.declared.types.TypeDefKind.TheVariants as kind
use Rattle.wit_data.specs.declared.types.TypeOwner.TheVariants as owner
use Rattle.wit_data.specs.declared.types.Type_.TheVariants as type
use Rattle.wit_data.specs.declared.world.WorldItem.TheVariants as item
use Rattle.wit_data.specs.declared.world.WorldKey.TheVariants as key
use Rattle.wit_graph_data.specs.examples.Samples.{instance, interface_of, type_of, world_of}
use Rattle.wit_graph_data.specs.declared.graph.Graph.{Graph}
use Rattle.wit_merge_spec.specs.Matches.{FirstDiffers, TypePair, type_pairs}
use Rattle.examples_resolve.specs.merge.Graphs.{alias_in, b_uses_a, foo_bar_alone, foo_named, inner, interface_in, merge_of_graphs, more, number_in, one_number, package_named}

-- ---- graphs

-- interface i with these two numbers, in this order
abbrev pub listing : List ℕ → List ℕ → Graph
listing first second =
    foo_bar_alone (number_in 0 first ∷ number_in 0 second ∷ [])
    (interface_of (Some (codes "i")) ((first, 0) ∷ (second, 1) ∷ []) ∷ []) []
    ((codes "i", 0) ∷ []) []

-- interfaces i and j, each with a number t, in a table in this order
abbrev pub two_interfaces : List (List ℕ × ℕ) → Graph
two_interfaces table =
    foo_bar_alone (number_in 0 (codes "t") ∷ number_in 1 (codes "t") ∷ [])
    (interface_of (Some (codes "i")) ((codes "t", 0) ∷ [])
    ∷ interface_of (Some (codes "j")) ((codes "t", 1) ∷ []) ∷ []) [] table []

-- world w, of interface i with a number t, with a number k of its own, and these entries beside it
abbrev pub with_k : List Entry → Graph
with_k others =
    foo_bar_alone (number_in 0 (codes "t")
    ∷ type_of (Some (codes "k")) (kind.Type_ type.U32) (owner.World 0) ∷ [])
    (interface_of (Some (codes "i")) ((codes "t", 0) ∷ []) ∷ [])
    (world_of (codes "w") ((key.Name (codes "k"), item.Type_ 1 None) ∷ others) [] ∷ [])
    ((codes "i", 0) ∷ []) ((codes "w", 0) ∷ [])

-- packages foo:b and foo:a, in this order; interface j of foo:b has another name of the number of i of foo:a, and world w
-- of foo:b a number k
abbrev pub b_before_a : Graph
b_before_a = record {
  types =
      alias_in 0 (codes "t") 1 ∷ number_in 1 (codes "t")
      ∷ type_of (Some (codes "k")) (kind.Type_ type.U32) (owner.World 0) ∷ [];
  interfaces =
      interface_in 0 (codes "j") ((codes "t", 0) ∷ [])
      ∷ interface_in 1 (codes "i") ((codes "t", 1) ∷ []) ∷ [];
  worlds = world_of (codes "w") ((key.Name (codes "k"), item.Type_ 2 None) ∷ []) [] ∷ [];
  packages =
      record (package_named (codes "b") ((codes "j", 0) ∷ [])) { worlds = (codes "w", 0) ∷ [] }
      ∷ package_named (codes "a") ((codes "i", 1) ∷ []) ∷ [];
  package_names = (foo_named (codes "b"), 0) ∷ (foo_named (codes "a"), 1) ∷ [];
}

-- the interface without a name among the exports
abbrev pub inner_export : Graph
inner_export =
    record (inner ((codes "t", 0) ∷ []) (number_in 0 (codes "t") ∷ []) [])
    { worlds = world_of (codes "w") [] ((key.Name (codes "x"), instance 0) ∷ []) ∷ [] }

-- ---- pairs

-- types t and t', and what a message says of where they are
abbrev pub pair : ℕ → ℕ → List (List ℕ) → TypePair
pair t t' links = record { from = t; into = t'; links = links }

abbrev pub in_i : List ℕ → List (List ℕ)
in_i told =
    codes "failed to merge package `foo:bar` into existing copy"
    ∷ codes "failed to merge interface `i`" ∷ told ∷ []

abbrev pub in_w : List ℕ → List ℕ → List (List ℕ)
in_w entry told =
    codes "failed to merge package `foo:bar` into existing copy" ∷ codes "failed to merge world `w`"
    ∷ entry ∷ told ∷ []

abbrev pub mismatch_t : List ℕ
mismatch_t = codes "mismatch in type `t`"

-- all pairs differ, and the message ends so
abbrev pub AllDiffer : ℕ → ℕ → List ℕ → Type 0
AllDiffer t t' ending = ending ≡ codes "different kinds of types"

-- those of type 1 of the incoming graph do
abbrev pub SecondDiffers : ℕ → ℕ → List ℕ → Type 0
SecondDiffers t t' ending = (t ≡ 1) × AllDiffer t t' ending

pub record ExamplesOfPairs : Type 0 where
  -- what both have, of interfaces of one name; what one alone has is none
  pub common : type_pairs (merge_of_graphs one_number more) ≡ pair 0 0 (in_i mismatch_t) ∷ []
  pub other_name : type_pairs (merge_of_graphs (two_interfaces ((codes "i", 0) ∷ []))
      (two_interfaces ((codes "j", 1) ∷ []))) ≡ []
  -- in the order of the lists of the incoming graph, not of the other, nor of ids
  pub by_list : type_pairs
      (merge_of_graphs (listing (codes "t") (codes "u")) (listing (codes "u") (codes "t")))
      ≡ pair 0 1 (in_i (codes "mismatch in type `u`")) ∷ pair 1 0 (in_i mismatch_t) ∷ []
  pub not_transformed : type_pairs
      (merge_of_graphs (listing (codes "t") (codes "u")) (listing (codes "u") (codes "t")))
      ≡ pair 1 0 (in_i mismatch_t) ∷ pair 0 1 (in_i (codes "mismatch in type `u`")) ∷ [] → ⊥
  -- and of its tables
  pub by_table : type_pairs (merge_of_graphs (two_interfaces ((codes "i", 0) ∷ (codes "j", 1) ∷ []))
      (two_interfaces ((codes "j", 1) ∷ (codes "i", 0) ∷ [])))
      ≡ pair 1 1 (codes "failed to merge package `foo:bar` into existing copy"
      ∷ codes "failed to merge interface `j`" ∷ mismatch_t ∷ []) ∷ pair 0 0 (in_i mismatch_t)
      ∷ []
  -- packages after those that they depend on; worlds after the interfaces of all packages
  pub by_package : type_pairs (merge_of_graphs b_before_a b_before_a)
      ≡ pair 1 1 (codes "failed to merge package `foo:a` into existing copy"
      ∷ codes "failed to merge interface `i`" ∷ mismatch_t ∷ [])
      ∷ pair 0 0 (codes "failed to merge package `foo:b` into existing copy"
      ∷ codes "failed to merge interface `j`" ∷ mismatch_t ∷ [])
      ∷ pair 2 2 (codes "failed to merge package `foo:b` into existing copy"
      ∷ codes "failed to merge world `w`" ∷ codes "import `k` didn't match target world"
      ∷ codes "mismatch in type `k`" ∷ []) ∷ []
  -- of a world its own types, which are told by the import and by the type; an interface with a
  -- name is none of its entries'
  pub of_a_world : type_pairs (merge_of_graphs (with_k ((key.Name (codes "x"), instance 0) ∷ []))
      (with_k ((key.Name (codes "x"), instance 0) ∷ [])))
      ≡ pair 0 0 (in_i mismatch_t)
      ∷ pair 1 1
      (in_w (codes "import `k` didn't match target world") (codes "mismatch in type `k`"))
      ∷ []
  pub not_without : type_pairs (merge_of_graphs (with_k []) (with_k []))
      ≡ pair 0 0 (in_i mismatch_t)
      ∷ pair 1 1 (codes "failed to merge package `foo:bar` into existing copy"
      ∷ codes "failed to merge world `w`" ∷ codes "import `k` didn't match target world"
      ∷ []) ∷ [] → ⊥
  -- those of an interface without a name, under its label, be it imported or exported
  pub unnamed : type_pairs
      (merge_of_graphs (inner ((codes "t", 0) ∷ []) (number_in 0 (codes "t") ∷ []) [])
      (inner ((codes "t", 0) ∷ []) (number_in 0 (codes "t") ∷ []) []))
      ≡ pair 0 0 (in_w (codes "import `x` didn't match target world") mismatch_t) ∷ []
  pub exported : type_pairs (merge_of_graphs inner_export inner_export)
      ≡ pair 0 0 (in_w (codes "export `x` didn't match target world") mismatch_t) ∷ []
  -- the first that differs is told, and no other
  pub first : FirstDiffers AllDiffer (type_pairs
      (merge_of_graphs (listing (codes "t") (codes "u")) (listing (codes "t") (codes "u"))))
      (codes "failed to merge package `foo:bar` into existing copy: "
      ++ codes "failed to merge interface `i`: mismatch in type `t`: different kinds of types")
  pub not_second : FirstDiffers AllDiffer (type_pairs
      (merge_of_graphs (listing (codes "t") (codes "u")) (listing (codes "t") (codes "u"))))
      (codes "failed to merge package `foo:bar` into existing copy: "
      ++ codes "failed to merge interface `i`: mismatch in type `u`: different kinds of types")
      → ⊥
  pub second : FirstDiffers SecondDiffers (type_pairs
      (merge_of_graphs (listing (codes "t") (codes "u")) (listing (codes "t") (codes "u"))))
      (codes "failed to merge package `foo:bar` into existing copy: "
      ++ codes "failed to merge interface `i`: mismatch in type `u`: different kinds of types")
  pub none : (message : List ℕ)
      → FirstDiffers AllDiffer (type_pairs (merge_of_graphs one_number b_uses_a)) message → ⊥
