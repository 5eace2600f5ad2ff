use Rattle.std.proofs.Common.{◌≡◌, ◌++◌, drop, length, Ok}
use Rattle.json.specs.Json.{Json}
use Rattle.json.specs.Value.{items_view, value_view}
use Rattle.wit_json_reading.specs.Reading.{◌>>=◌, Reading, items_from, read_list}
use Rattle.wit_json_reading.specs.steps.ByClosures.{ReadsBy}
use Rattle.wit_json_reading.proofs.reader.list_by.Given as goal

-- what the items that are left read as goes behind what is read
abbrev pub invariant-loop-item : goal.invariant-loop-item
invariant-loop-item g l =
    goal.F-IsAlwaysCallable g l.read
    × ((f : Json → Reading g.row.T.Denot) → ReadsBy g.F.Fn l.read f
    → read_list f (value_view l.fn.value)
    ≡ (items_from f (length l.things) (items_view (drop l.item-index l.item-items))
    >>= λ xs. Ok (l.things ++ xs)))
