-- An interface without a name stands once: said by places instead of by a filtered list, since what is
-- carried is carried place by place.
use Rattle.std.specs.Prelude.{◌≡◌, ◌⊎◌, ℕ, Bool, true, false, List, [], ◌∷◌, Some, slice_get}
use Rattle.wit_data.specs.Entries.{entries_of, Entry, is_unnamed, item_interface}
use Rattle.wit_data.specs.declared.interface.Interface.{Interface}
use Rattle.wit_data.specs.declared.world.World.{World}
use Rattle.wit_data.specs.declared.world.WorldKey.{WorldKey}
use Rattle.wit_graph_data.specs.declared.graph.Graph.{Graph}
use Rattle.wit_remap_spec.specs.Image.{key_image}
use Rattle.wit_graph_theory.specs.steps.Sources.{Source}

-- world w has interface f as entry i of its exports or imports
pub record Holds (worlds : List World) (w : ℕ) (exported : Bool) (i : ℕ) (f : ℕ) : Type 0 where
  pub world : World
  pub there : slice_get worlds w ≡ Some world
  pub entry : Entry
  pub at : slice_get (entries_of exported world) i ≡ Some entry
  pub held : item_interface entry.1 ≡ f ∷ []

-- no interface without a name has two places
abbrev pub StandsOnceOnly : List Interface → List World → Type 0
StandsOnceOnly interfaces worlds =
    (f w w' : ℕ) (b b' : Bool) (i i' : ℕ) → is_unnamed interfaces f ≡ true → Holds worlds w b i f
    → Holds worlds w' b' i' f → (w ≡ w') × (b ≡ b') × (i ≡ i')

-- a place of the target over a place of a source
pub record Origin (s : Source) (f' w' : ℕ) (k' : WorldKey) : Type 0 where
  pub f : ℕ
  pub takes : s.interfaces f ≡ true
  pub place : f' ≡ s.maps.interfaces f
  pub unnamed : is_unnamed s.graph.interfaces f ≡ true
  pub w : ℕ
  pub world_place : w' ≡ s.maps.worlds w
  pub b : Bool
  pub i : ℕ
  pub holds : Holds s.graph.worlds w b i f
  pub key : k' ≡ key_image s.maps w holds.entry.0

-- what keeps unnamed interfaces apart: two that are selected in one source don't go to one; where two of different
-- sources do (a merge matches them by their labels) they come to one label of one world; and one entry doesn't
-- come to stand among the imports and among the exports
pub record StayApart {K : Type 0} (at : K → Source) (g : Graph) : Type 0 where
  pub injective : (k : K) (f e : ℕ) → (at k).interfaces f ≡ true → (at k).interfaces e ≡ true
      → (at k).maps.interfaces f ≡ (at k).maps.interfaces e
      → is_unnamed (at k).graph.interfaces f ≡ true → f ≡ e
  pub meet : (f' w' v' : ℕ) (c d : WorldKey) (k l : K) → is_unnamed g.interfaces f' ≡ true
      → Origin (at k) f' w' c → Origin (at l) f' v' d → (k ≡ l) ⊎ ((w' ≡ v') × (c ≡ d))
  pub one_side : (w' i' j' f' : ℕ) → is_unnamed g.interfaces f' ≡ true
      → Holds g.worlds w' false i' f' → Holds g.worlds w' true j' f' → ⊥
