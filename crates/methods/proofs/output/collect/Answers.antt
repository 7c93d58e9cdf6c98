-- `collect` meets its contract: static is in no set, and a lifetime below the count is put in.
use Rattle.methods.proofs.OutputLaws.{collect_static, collect_past, collect_one}
use native.Mathlib.Omega.{arith}
use borrow.Author.Rules.{rules}
use Rattle.methods.proofs.output.collect.Goals as goal

pub returns-in_default : goal.returns-in_default
returns-in_default c = search (collect_static, rules)

pub returns-then-count-index : goal.returns-then-count-index
returns-then-count-index c = collect_past _ _ c.in-NonStatic.is (omega (arith, c.index.ensures.answer))

pub returns : goal.returns
returns c = collect_one _ _ c.in-NonStatic.is
    c.requires (omega (arith, c.index.ensures.answer))
    c.insert.ensures.answer
