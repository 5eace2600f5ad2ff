-- The fault of a document whose graph isn't valid.
use Rattle.std.specs.Prelude.{List, [], ◌∷◌, ◌++◌, codes}
use Rattle.wit_graph_faults.specs.declared.fault.GraphFault.{GraphFault}
use Rattle.wit_graph_faults.specs.declared.place.GraphPlace.{GraphPlace}
use Rattle.wit_graph_faults.specs.declared.place.GraphPlace.TheVariants as place
use Rattle.wit_json_reading.specs.declared.fault.Expected.TheVariants as expected
use Rattle.wit_json_reading.specs.declared.fault.Fault.{Fault}
use Rattle.wit_json_reading.specs.declared.fault.Step.{Step}
use Rattle.wit_json_reading.specs.declared.fault.Step.TheVariants as step

-- the steps from the graph to a thing, or to the object of it whose entry is meant, the last step first; names of packages
-- stand in packages
abbrev pub thing_path : GraphPlace → List Step
thing_path (place.PackageName i) = step.Member (codes "packages") ∷ []
thing_path (place.Package p) = step.Item p ∷ step.Member (codes "packages") ∷ []
thing_path (place.PackageInterface p i) =
    step.Member (codes "interfaces") ∷ step.Item p ∷ step.Member (codes "packages") ∷ []
thing_path (place.PackageWorld p i) =
    step.Member (codes "worlds") ∷ step.Item p ∷ step.Member (codes "packages") ∷ []
thing_path (place.Interface f) = step.Item f ∷ step.Member (codes "interfaces") ∷ []
thing_path (place.World w) = step.Item w ∷ step.Member (codes "worlds") ∷ []
thing_path (place.Type_ t) = step.Item t ∷ step.Member (codes "types") ∷ []
thing_path (place.InterfaceType f i) =
    step.Member (codes "types") ∷ step.Item f ∷ step.Member (codes "interfaces") ∷ []
thing_path (place.Function f i) =
    step.Member (codes "functions") ∷ step.Item f ∷ step.Member (codes "interfaces") ∷ []
thing_path (place.Import w i) =
    step.Member (codes "imports") ∷ step.Item w ∷ step.Member (codes "worlds") ∷ []
thing_path (place.Export w i) =
    step.Member (codes "exports") ∷ step.Item w ∷ step.Member (codes "worlds") ∷ []

-- the steps from the document on
abbrev pub in_document : List Step → List Step
in_document path =
    (path ++ step.Member (codes "graph") ∷ []) ++ step.Member (codes "resolve") ∷ []

-- that of the graph which a document begins with
abbrev pub invalid_fault : GraphFault → Fault
invalid_fault why =
    record { path = in_document (thing_path why.place); expected = expected.ValidGraph why }
