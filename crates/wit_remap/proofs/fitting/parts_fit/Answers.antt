use Rattle.wit_remap.proofs.fitting.parts_fit.Goals as goal

pub returns : goal.returns
returns c = (
  λ worlds. record {
    of_types = c.types_fit.ensures.0 c.if-not-types_fit.false;
    of_interfaces = c.interfaces_fit.ensures.0 c.if-not-interfaces_fit.false;
    of_worlds = c.worlds_fit.ensures.0 worlds;
  },
  λ fits. c.worlds_fit.ensures.1 fits.of_worlds,
)
