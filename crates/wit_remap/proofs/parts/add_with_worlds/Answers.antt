use Rattle.std.proofs.Common.{List, sym, subst}
use Rattle.wit_data.specs.Each.{Each}
use Rattle.wit_data.specs.declared.interface.Interface.{Interface}
use Rattle.wit_remap.specs.steps.Fits.{Fits, InterfaceFits}
use Rattle.wit_remap.specs.facts.GrownFacts.{Grown-then}
use Rattle.wit_remap.proofs.parts.add_with_worlds.Goals as goal

pub add_interfaces-requires-clause-fits : goal.add_interfaces-requires-clause-fits
add_interfaces-requires-clause-fits c = subst (λ (interfaces : List Interface). Each (InterfaceFits (Fits c.args.mover.now.offset)) interfaces) (sym c.replace-interfaces.ensures.value) c.requires.fits

pub add_interfaces-requires-clause-names : goal.add_interfaces-requires-clause-names
add_interfaces-requires-clause-names c = rw c.replace-interfaces.ensures.value c.requires.names

pub add_package-requires : goal.add_package-requires
add_package-requires c = rw (c.into_name.ensures, c.in_ok-interfaces.ensures.ok) c.requires.new

pub returns-in_err-interfaces-clause-grown : goal.returns-in_err-interfaces-clause-grown
returns-in_err-interfaces-clause-grown c = c.add_interfaces.ensures.grown

pub returns-clause-grown : goal.returns-clause-grown
returns-clause-grown c = Grown-then c.args.graph.now c.add_interfaces.new.graph c.add_package.new.graph c.add_interfaces.ensures.grown c.add_package.ensures.grown
