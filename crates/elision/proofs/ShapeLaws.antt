-- What a verdict says of the shape of records.
use Rattle.std.specs.Prelude.{Ok, Err}
use mathlib.Core.Bool.{Bool, true, false}
use mathlib.Core.Path.{◌≡◌, refl, sym}
use Rattle.answers.specs.declared.Refusal.{Refusal}
use Rattle.answers.specs.declared.Refusal.TheVariants.{Malformed}
use Rattle.records.specs.Reading.{shape_verdict}
use Rattle.elision.proofs.OutcomeLaws.{both, same_refused}

pub shape_in : (a : Bool) → Ok (tt {0}) ≡ shape_verdict a → a ≡ true
shape_in true e = refl
shape_in false e = both (sym e)

pub shape_out : (a : Bool) {r : Refusal} → Err r ≡ shape_verdict a → (a ≡ false) × (r ≡ Malformed)
shape_out true e = both e
shape_out false e = (refl, same_refused e)
