use Rattle.std.proofs.Common.{refl, inl, inr, codes, lit<}
use Rattle.wit_names.specs.UsePath.{is_kebab_name, use_path_of}
use Rattle.wit_script.specs.Script.{new_reading}
use Rattle.examples_resolve.proofs.OfScripts.After.{after, before}
use Rattle.examples_resolve.proofs.script.examples_of_scripts.Goals as goal

pub returns : goal.returns
unfolding use_path_of is_kebab_name
returns c = record {
  first_package = refl;
  features = refl;
  tracks = refl;
  turns = refl;
  spaces = refl;
  nothing = record { reading = new_reading; read = refl; asked = refl; ready = tt; ended = refl; closed = refl };
  comments = record { reading = new_reading; read = refl; asked = refl; ready = tt; ended = refl; closed = refl };
  push_alone = inl (record { before = 1; reading = new_reading; read = refl; ready = tt; there = lit< tt; bad = tt; counted = refl });
  name_twice = inl (record { before = 2; reading = after (codes "package a:b\ninterface i"); read = refl; ready = tt; there = lit< tt; bad = tt; counted = refl });
  name_later = inl (record { before = 2; reading = after (codes "package a:b\nworld w"); read = refl; ready = tt; there = lit< tt; bad = tt; counted = refl });
  among_lines = inl (record { before = 1; reading = after (codes "package a:b"); read = refl; ready = tt; there = lit< tt; bad = tt; counted = refl });
  unended = inr (record { reading = after (codes "package a:b\ninterface i"); read = refl; ready = tt; waits = refl; counted = refl });
  foreign_twice = inl (record { before = 3; reading = before 3 (codes "package a:b\nworld w\nimport c:d/e\nimport c:d/e\n"); read = refl; ready = tt; there = lit< tt; bad = tt; counted = refl });
  foreign_twofold = inl (record { before = 3; reading = before 3 (codes "package a:b\nworld w\nimport c:d/e\ninclude c:d/e\n"); read = refl; ready = tt; there = lit< tt; bad = tt; counted = refl });
  unmerged = inr (record { reading = after (codes "other\nfeature f"); read = refl; ready = (tt, (tt, tt)); waits = refl; counted = refl });
  other_twice = inl (record { before = 2; reading = after (codes "feature f\nother"); read = refl; ready = (tt, (tt, tt)); there = lit< tt; bad = tt; counted = refl });
  merge_twice = inl (record { before = 2; reading = after (codes "other\nmerge"); read = refl; ready = (tt, (tt, tt)); there = lit< tt; bad = tt; counted = refl });
  other_among_lines = inl (record { before = 1; reading = after (codes "package a:b"); read = refl; ready = tt; there = lit< tt; bad = tt; counted = refl });
}
