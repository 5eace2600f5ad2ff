-- What one argument of a program asks for.
use Rattle.std.specs.Prelude.{ℕ, List, bytes_eq, codes, if◌then◌else◌}
use Rattle.wit_streams.specs.declared.asked.Asked.{Asked}
use Rattle.wit_streams.specs.declared.asked.Asked.TheVariants as asks

abbrev pub asked_by : List ℕ → Asked
asked_by word =
    if bytes_eq word (codes "--help") then asks.Help
    else if bytes_eq word (codes "--version") then asks.Version else asks.Unknown
