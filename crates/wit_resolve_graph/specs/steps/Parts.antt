-- Parts of the definitions under names of their own, for contracts of inner functions and for proofs. Each is what stands
-- in a definition in its place, so none has to be believed.
use Rattle.std.specs.Prelude.{◌≡◌, ℕ, Bool, true, List, map, Option, bytes_eq}
use Rattle.std.specs.List.{list_any}
use Rattle.wit_data.specs.declared.world.WorldKey.{WorldKey}
use Rattle.wit_graph_data.specs.declared.graph.Graph.{Graph}
use Rattle.wit_elaboration.specs.Entries.{Entry}
use Rattle.wit_graph_data.specs.IdText.{key_text}
use Rattle.std.specs.Option.{option_map_or}

-- what names a key is listed; without a list all are
abbrev pub is_listed_key : Graph → Option (List (List ℕ)) → WorldKey → Bool
is_listed_key g keys k =
    option_map_or
    (λ (listed : List (List ℕ)). list_any (bytes_eq (key_text g.packages g.interfaces k)) listed)
    keys true

-- two lists have the same texts
abbrev pub HaveSameTexts : List (List ℕ) → List (List ℕ) → Type 0
HaveSameTexts some others =
    (text : List ℕ) → list_any (bytes_eq text) some ≡ list_any (bytes_eq text) others

-- the same keys are listed
abbrev pub ListAlike : Option (List (List ℕ)) → Option (List (List ℕ)) → Type 0
ListAlike some others =
    (g : Graph) (k : WorldKey) → is_listed_key g some k ≡ is_listed_key g others k

-- for each of some entries, whether what names its key is listed
abbrev pub listed_answers : Graph → Option (List (List ℕ)) → List Entry → List Bool
listed_answers g keys entries = map (λ (e : Entry). is_listed_key g keys e.0) entries
