-- How much a method's listing has at most: the lifetimes of two output types, and to each one edge from each word of
-- each parameter.
use Prim.Native.Nat.{ℕ, ◌≤◌}
use mathlib.Core.List.{List}
use native.Mathlib.Omega.{arith}
use lib.ListN.{length}
use Rattle.lifetimes.specs.declared.env.LifetimeEnv.{LifetimeEnv}
use Rattle.answers.specs.Refusals.{NoneDue}
use Rattle.lifetimes.specs.Sets.{cardinality}
use Rattle.methods.specs.Method.{types_in, method_checks}
use Rattle.methods.specs.Used.{most_used}
use Rattle.methods.proofs.Theorems.{used_lifetimes_are}
use Rattle.borrowing_param.specs.declared.visitor.BorrowingParamVisitor.{BorrowingParamVisitor}
use Rattle.borrowing_param.specs.Visit.{used_of}
use Rattle.borrowing_param.specs.New.{method_visitor}
use Rattle.borrowing_param.specs.Borrows.{borrows_of}
use Rattle.borrowing_param.specs.Theorems.{Small}
use Rattle.borrowing_param.proofs.VisitorLaws.{param_short}
use Rattle.borrowing_param.proofs.ListedLaws.{alone_shape, few_types}
use Rattle.borrowing_param.proofs.ConsistentLaws.{edges_few}
use Rattle.borrowing_param.proofs.Condition3Laws.{params_none, created_new}

module _ (env : LifetimeEnv) (structs params output force : List ℕ)
    (none : NoneDue (method_checks env structs params output force)) where
  abbrev v : BorrowingParamVisitor
  v = method_visitor env structs output

  used_few : length (used_of v) ≤ most_used
  unfolding cardinality
  used_few =
      (used_lifetimes_are env structs params output force v.used
      (created_new env structs params output force none).used).few

  pub method_small : Small (borrows_of env structs params output)
  method_small =
      let alone = params_none env structs params output force none in
      let short = param_short structs params (alone_shape structs params alone).1 in
      record {
        few_used = used_few;
        few_edges = omega (arith, used_few, edges_few v (types_in structs params) (few_types structs params alone) short);
      }
