use Rattle.std.proofs.Common.{ℕ, ◌++◌, subst, sym}
use Rattle.std.specs.Prelude.{codes, decimal}
use Rattle.std.specs.Fmt.{HasWritten}
use Rattle.wit_graph_faults.specs.FaultText.{graph_place_text}
use Rattle.wit_graph_faults.specs.declared.place.GraphPlace.{GraphPlace}
use Rattle.wit_graph_faults.proofs.place.GraphPlaceDisplay.fmt.Goals as goal

pub returns-in-PackageWorld-clause-writes : goal.returns-in-PackageWorld-clause-writes
returns-in-PackageWorld-clause-writes g c = λ plain ok.
    subst (λ (p : GraphPlace). HasWritten {W = g.row.W.Denot} g.W.Write.write_str_gives c.args.f.now (graph_place_text p) c.write-in-PackageWorld.new.self)
    (sym c.in-PackageWorld.is)
    (subst (λ (n : ℕ). HasWritten {W = g.row.W.Denot} g.W.Write.write_str_gives c.args.f.now (codes "entry " ++ (decimal c.in-PackageWorld.index ++ (codes " among the worlds of package " ++ decimal n))) c.write-in-PackageWorld.new.self)
    c.index-id-in-PackageWorld.ensures (c.write-in-PackageWorld.ensures.writes plain ok))
