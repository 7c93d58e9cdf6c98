-- `number_by` meets its contract: no sum or product is large, what is taken away is there, and what is left is the
-- number in each of the four cases.
use mathlib.Core.Path.{refl}
use native.Mathlib.Omega.{arith}
use Rattle.borrowing_param.proofs.VisitorLaws.{fact_few, both_fewer, number_worked}
use Rattle.borrowing_param.proofs.visitor.number_by.Goals as goal

pub overflow_mul-result : goal.overflow_mul-result
overflow_mul-result c = omega (arith, fact_few c.args.borrowed)

pub overflow_add-result : goal.overflow_add-result
overflow_add-result c = omega (arith, fact_few c.args.slice, fact_few c.args.borrowed)

pub overflow_mul-result-2 : goal.overflow_mul-result-2
overflow_mul-result-2 c = omega (arith, fact_few c.args.borrowed, both_fewer c.args.slice c.args.borrowed)

pub overflow_mul-result-3 : goal.overflow_mul-result-3
overflow_mul-result-3 c = omega (arith, fact_few c.args.borrowed, both_fewer c.args.slice c.args.borrowed)

pub overflow_sub-result : goal.overflow_sub-result
overflow_sub-result c = omega (arith, both_fewer c.args.slice c.args.borrowed)

pub returns : goal.returns
returns c = number_worked _ _ refl refl c.args.slice c.args.borrowed
