-- A package of which some lines are read.
use Rattle.std.specs.Prelude.{ℕ, ◌+◌, List, [], ◌∷◌, ◌++◌, length, map, nat_le, Option, Some, None, if◌then◌else◌, option_map}
use Rattle.wit_names.specs.PackageName.{package_name_text}
use Rattle.wit_sources.specs.SourceMap.{Sources, with_file}
use Rattle.wit_names.specs.declared.package_name.PackageName.{PackageName}
use Rattle.wit_data.specs.declared.unresolved.UnresolvedPackageGroup.{UnresolvedPackageGroup}
use Rattle.wit_script_lines.specs.Line.{content_start_of, content_end_of}
use Rattle.wit_script_package.specs.Mention.{first_interfaces, first_types, first_worlds, foreign_interface, foreign_of, foreign_type, known_mentions, type_id_of, mentioned_at}
use Rattle.wit_script_package.specs.Naming.{OptionalSpan}
use Rattle.wit_script_package.specs.declared.draft.Draft.{Draft}
use Rattle.wit_script_package.specs.declared.draft.Scope.TheVariants as scope
use Rattle.wit_script_package.specs.declared.mention.Mention.{Mention}
use Rattle.wit_script_package.specs.Adding.{empty_world}

-- how many bytes a file of a source map may have
abbrev pub longest_file : ℕ
longest_file = 4294967294

-- the span of a line that goes, with a newline, to the end of a file of so many bytes: from its first to its last byte
-- that isn't a space. The file may not grow past the positions of a source map
abbrev pub span_after : ℕ → List ℕ → Option OptionalSpan
span_after len line =
    if nat_le (len + length line + 1) longest_file
    then Some (Some (len + content_start_of line, len + content_end_of line))
    else None

-- the package of which a first line gives the name, and whose lines mention this of other packages. What is foreign stands
-- in its lists before all that is its own
abbrev pub new_draft_at : PackageName → List ℕ → List Mention → OptionalSpan → Draft
new_draft_at name line ms span = record {
  name = name;
  name_span = span;
  contents = line ++ 10 ∷ [];
  interfaces = map (foreign_interface ms) (first_interfaces ms);
  worlds = map (λ (m : Mention). empty_world m.name (mentioned_at m)) (first_worlds ms);
  types = map (foreign_type ms) (first_types ms);
  roots = map (type_id_of ms) (first_types ms);
  required = [];
  interface_ids = [];
  world_ids = [];
  scope = scope.Package;
  foreign = foreign_of ms;
}

abbrev pub new_draft : PackageName → List ℕ → List Mention → Option Draft
new_draft name line ms = option_map (new_draft_at name line (known_mentions ms)) (span_after 0 line)

-- the package as a group of its own, where its file fits. The file has the text of the package's name as its path
abbrev pub as_group : Draft → Option UnresolvedPackageGroup
as_group p =
    option_map (λ (sources : Sources). record {
      main = record {
        name = p.name;
        package_name_span = p.name_span;
        docs = record { contents = None };
        worlds = p.worlds;
        interfaces = p.interfaces;
        types = p.types;
        foreign_deps = p.foreign.deps;
        foreign_dep_spans = p.foreign.dep_spans;
        unknown_type_spans = p.foreign.type_spans;
        required_resource_types = p.required;
      };
      nested = [];
      source_map = sources;
    })
    (if nat_le (length p.contents) longest_file
    then Some (with_file (record { files = []; end = 0 }) (package_name_text p.name) p.contents)
    else None)
