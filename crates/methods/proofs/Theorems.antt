-- The main theorems: for each statement of specs/Theorems.antt a term of exactly its type, and nothing else.
use mathlib.Core.Path.{refl}
use mathlib.Core.List as list
use Rattle.answers.specs.Lists as lists
use Rattle.answers.specs.Refusals as refusals
use Rattle.lifetimes.specs.Sets as sets
use Rattle.lifetimes.specs.Bounds as bounds
use Rattle.lifetimes.specs.Env as env
use Rattle.records.specs.Reading as reading
use Rattle.hir_types.specs.LoweredTypes as types
use Rattle.hir_types.specs.Rows as rows
use Rattle.methods.specs.Used as used
use Rattle.methods.specs.Fields as fields
use Rattle.methods.specs.Theorems.{UsedLifetimesAre, ForceIsRetired, FieldPairsAre, ExamplesHold}
use Rattle.methods.proofs.UsedSetLaws.{used_are, force_is_refused}
use Rattle.methods.proofs.FieldPairLaws.{pairs_are}

pub used_lifetimes_are : UsedLifetimesAre
used_lifetimes_are = used_are

pub force_is_retired : ForceIsRetired
force_is_retired = force_is_refused

pub field_pairs_are : FieldPairsAre
field_pairs_are = pairs_are

pub examples_hold : ExamplesHold
unfolding used.used_set list.filter_map fields.field_pairs lists.numbered lists.any lists.all rows.read_known rows.read_types rows.read_row rows.method_in_shape
    types.read_opaque types.read_struct types.read_slice types.read_bare types.read_lowered reading.read_all reading.in_shape
    reading.items_of refusals.unless sets.insert sets.insert_all bounds.bounds_from env.env_of list.flat_map
examples_hold = (refl, (refl, (refl, (refl, (refl, (refl, (refl, (refl, (refl, (refl, (refl, (refl, (refl, tt)))))))))))))
