-- `fits` meets its contract: below a tenth of the limit, above it, or there.
use Rattle.text.proofs.NumberLaws.{far_below, far_above, just_below}
use Rattle.text.proofs.number.fits.Goals as goal

pub returns-then-value-tenth : goal.returns-then-value-tenth
returns-then-value-tenth c = far_below _ _ _ _ c.requires c.if-value-tenth.true

pub returns-then-tenth-value : goal.returns-then-tenth-value
returns-then-tenth-value c = far_above _ _ _ _ c.requires c.if-tenth-value.true

pub returns : goal.returns
returns c = just_below _ _ _ _ c.requires c.if-tenth-value.false
