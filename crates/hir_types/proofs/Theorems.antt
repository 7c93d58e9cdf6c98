-- The main theorem: a term of exactly the type that specs/Theorems.antt states, and nothing else.
use Rattle.hir_types.specs.Theorems.{LifetimesInOrder}
use Rattle.hir_types.proofs.LifetimeLaws.{in_order}

pub lifetimes_in_order : LifetimesInOrder
lifetimes_in_order = in_order
