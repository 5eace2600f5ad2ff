use Rattle.std.proofs.Common.{◌≡◌, ◌++◌, OnOk, append_assoc, codes, rules, string_bytes}
use Rattle.wit_print.proofs.headings.write_external_id.Goals as goal

pub returns-in-Some : goal.returns-in-Some
returns-in-Some c =
    let had : OnOk c.write.result (string_bytes c.write.new.self ≡ string_bytes c.args.text.now ++ (c.args.indent.now ++ (codes "@external-id(\"" ++ (c.in-Some.id ++ codes "\")\n")))) = search rules in
    rw (c.in-Some.is, append_assoc) had
