use Rattle.wit_merge_spec.proofs.StructureExamples.{of_heads, of_parts, of_types, of_variants}
use Rattle.wit_merge_spec.proofs.laws.examples_of_structure.Goals as goal

pub returns-clause-variants : goal.returns-clause-variants
returns-clause-variants c = of_variants

pub returns-clause-heads : goal.returns-clause-heads
returns-clause-heads c = of_heads

pub returns-clause-parts : goal.returns-clause-parts
returns-clause-parts c = of_parts

pub returns-clause-types : goal.returns-clause-types
returns-clause-types c = of_types
