use Rattle.wit_merge_match.proofs.Matched.{interfaces_found, packages_found, types_found, unnamed_none, worlds_found}
use Rattle.wit_merge_match.proofs.matches.find_matches.Goals as goal

pub add_unnamed-requires-clause-worlds : goal.add_unnamed-requires-clause-worlds
add_unnamed-requires-clause-worlds c =
    let g = c.args.graph.now in
    let other = c.args.other.now in
    let packages = packages_found g other c.in_ok-packages.packages c.in_ok-packages.ensures in
    worlds_found g other c.in_ok-packages.packages packages c.in_ok-worlds.worlds c.in_ok-worlds.ensures

pub add_unnamed-requires-clause-unnamed : goal.add_unnamed-requires-clause-unnamed
add_unnamed-requires-clause-unnamed c =
    let g = c.args.graph.now in
    let other = c.args.other.now in
    let packages = packages_found g other c.in_ok-packages.packages c.in_ok-packages.ensures in
    unnamed_none g other c.in_ok-packages.packages packages c.in_ok-interfaces.interfaces c.in_ok-interfaces.ensures

pub returns : goal.returns
returns c =
    let g = c.args.graph.now in
    let other = c.args.other.now in
    let packages = packages_found g other c.in_ok-packages.packages c.in_ok-packages.ensures in
    let worlds = worlds_found g other c.in_ok-packages.packages packages c.in_ok-worlds.worlds c.in_ok-worlds.ensures in
    let interfaces = interfaces_found g other c.in_ok-packages.packages packages c.in_ok-interfaces.interfaces c.in_ok-interfaces.ensures c.add_unnamed.new.found c.add_unnamed.ensures in
    record {
      packages = packages;
      worlds = worlds;
      interfaces = interfaces;
      types = types_found g other c.in_ok-worlds.worlds c.add_unnamed.new.found c.in_ok-types.types worlds interfaces c.in_ok-types.ensures;
    }
