-- Words of inner contracts and proofs, beside `Kept`.
use Rattle.std.specs.Prelude.{true}
use Rattle.wit_remap_spec.specs.Kept.{KeptIds}

-- all of them are
abbrev pub everything : KeptIds
everything = record {
  types = λ t. true;
  interfaces = λ f. true;
  worlds = λ w. true;
  functions = λ f. true;
  items = λ held. true;
}
