-- `Bounds::check` meets its contract. The loop's invariant is `Checking` of proofs/BoundsLaws.antt; the measure is how
-- many bounds are to be read.
use mathlib.Core.Path.{◌≡◌, sym, ◌∙◌}
use lib.ListN.{length}
use borrow.Author.Rules.{rules}
use Rattle.lifetimes.proofs.BoundsLaws.{check_many, checking_refused, checking_more}
use Rattle.lifetimes.proofs.BoundsLaws.{checking_end}
use Rattle.lifetimes.proofs.bounds.Bounds.check.Goals as goal

pub returns-then-pushed-gt-MAX : goal.returns-then-pushed-gt-MAX
returns-then-pushed-gt-MAX c = search (check_many, rules)

pub returns-then-not-both_below : goal.returns-then-not-both_below
returns-then-not-both_below c =
    let full : length c.args.self.list ≡ 256 = search rules in
    record {
      answer = checking_refused c.loop-i.invariant full c.loop-i-test.true
          (sym c.both_below.ensures ∙ c.if-not-both_below.true);
    }

pub loop-i-preserved : goal.loop-i-preserved
loop-i-preserved c =
    let full : length c.args.self.list ≡ 256 = search rules in
    checking_more c.loop-i.invariant full c.loop-i-test.true
    (sym c.both_below.ensures ∙ c.if-not-both_below.false)

pub returns : goal.returns
returns c = search (checking_end, rules)
