use Rattle.std.proofs.Common.{◌≡◌, ◌++◌, ℕ, List, OnOk, codes, string_bytes, subst}
use Rattle.wit_print.specs.Headings.{attribute_wit}
use Rattle.wit_print.specs.Names.{name_wit}
use Rattle.wit_print.proofs.headings.write_unstable.Goals as goal

pub returns : goal.returns
returns c =
    subst (λ (feature : List ℕ). OnOk c.write.result (string_bytes c.write.new.self ≡ string_bytes c.args.text.now ++ attribute_wit c.args.indent.now (codes "@unstable(feature = ") (name_wit feature)))
    c.as_str.ensures c.write.ensures.bytes
