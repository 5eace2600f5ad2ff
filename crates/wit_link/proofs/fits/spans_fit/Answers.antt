use Rattle.wit_link.proofs.fits.spans_fit.Goals as goal

pub returns : goal.returns
returns c = (
  λ fitting. record {
    name = c.fits.ensures.0 c.if-not-fits.false;
    foreign = c.foreign_spans_fit.ensures.0 c.if-not-foreign_spans_fit.false;
    parts = rw (c.as_slice-types.ensures, c.as_slice-interfaces.ensures, c.as_slice.ensures) at (c.parts_fit.ensures.0 fitting);
  },
  λ fits. c.parts_fit.ensures.1 (rw (c.as_slice-types.ensures, c.as_slice-interfaces.ensures, c.as_slice.ensures) fits.parts),
)
