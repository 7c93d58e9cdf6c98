-- `join` meets its contract: each turn joins one set more.
use mathlib.Core.Path.{refl, sym, ap, ◌∙◌}
use native.Mathlib.Omega.{arith}
use lib.ListN.{get_or}
use Rattle.lifetimes.specs.declared.lifetime.Lifetime.{Lifetime}
use Rattle.lifetimes.specs.Sets.{member}
use Rattle.ast_lifetimes.proofs.OutlivedLaws.{joining_stays, joining_joins, joining_end}
use Rattle.ast_lifetimes.proofs.implied.Reach.join.Goals as goal
use Rattle.ast_lifetimes.proofs.implied.Reach.join.Goals.{then-contains, else-contains}

pub loop-x-preserved : goal.loop-x-preserved
loop-x-preserved c =
    let told =
    sym (c.contains.ensures.answer ∙ ap (λ (k : Lifetime). member (get_or c.loop-x.self.sets c.loop-x.x 0) k.0)
    c.new-short.ensures.answer) in
    elim c.if-contains.branch [
      | then-contains w ↦
          rw (w.self-is, w.union.ensures.answer)
          (joining_joins c.loop-x.invariant (omega (arith, c.requires)) (told ∙ w.if-contains.true) _ refl)
      | else-contains w ↦ rw w.self-is (joining_stays c.loop-x.invariant (told ∙ w.if-contains.false))
    ]

pub returns : goal.returns
returns c = joining_end c.loop-x.invariant c.args.named c.loop-x-test.false c.requires.1
