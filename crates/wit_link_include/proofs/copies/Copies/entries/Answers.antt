use Rattle.std.proofs.Common.{◌∙◌, ◌++◌, ◌∷◌, [], ap, map, refl}
use Rattle.std.specs.Map.Iter.{deref_pair}
use Rattle.std.proofs.lemmas.Map.Iter.{rest_more, rest_all}
use Rattle.wit_data.specs.Entries.{Entry}
use Rattle.wit_remap_spec.specs.Image.{entry_image}
use Rattle.wit_link_include.specs.steps.Included.{maps_of}
use Rattle.wit_link_include.proofs.Steps.{map_more, nothing_left}
use Rattle.wit_link_include.proofs.copies.Copies.entries.Goals as goal

pub loop-key-preserved : goal.loop-key-preserved
loop-key-preserved c =
    map_more (entry_image (maps_of c.args.self.now) c.args.self.now.from) c.loop-key.copies c.push.new.self _ _ _ _
    (rest_more deref_pair _ _ _ _ c.in-Some.is c.next.ensures.steps) c.loop-key.invariant (c.in_ok-push.ensures.ok ∙ ap (λ (e : Entry). c.loop-key.copies ++ e ∷ []) c.in_ok-entry.ensures)

pub returns : goal.returns
returns c =
    nothing_left (map (entry_image (maps_of c.args.self.now) c.args.self.now.from)) c.loop-key.copies _ _ (rest_all deref_pair _ _ _ c.in-None.is c.next.ensures.steps) refl c.loop-key.invariant
