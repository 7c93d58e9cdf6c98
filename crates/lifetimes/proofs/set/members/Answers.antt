-- `set::members` meets its contract. The loop's invariant is `Listing` of proofs/SetLoops.antt; the measure is how
-- many lifetimes are to be looked at.
use mathlib.Core.Path.{sym, ◌∙◌}
use borrow.Author.Rules.{rules}
use Rattle.lifetimes.proofs.SetLoops.{too_short, listing_start, listing_room, listing_member}
use Rattle.lifetimes.proofs.SetLoops.{listing_other, listing_end}
use Rattle.lifetimes.proofs.set.members.Goals as goal
use Rattle.lifetimes.proofs.set.members.Goals.{then-holds, else-holds}

pub returns-then-out-n : goal.returns-then-out-n
returns-then-out-n c = let it = too_short c.args.set c.args.out.now c.count-n.ensures.answer c.if-out-n.true in
    record { answer = it.0; stored = it.1 }

pub loop-x-init : goal.loop-x-init
loop-x-init c = search (listing_start, rules)

pub bounds-out-at : goal.bounds-out-at
bounds-out-at c = listing_room c.loop-x.invariant c.loop-x-test.true
    (sym c.holds.ensures ∙ c.if-holds.true)

pub loop-x-preserved : goal.loop-x-preserved
loop-x-preserved c =
    let told = sym c.holds.ensures in
    elim c.if-holds.branch [
      | then-holds w ↦ rw (w.out-is, w.at-is) (listing_member c.loop-x.invariant c.loop-x-test.true (told ∙
          w.if-holds.true))
      | else-holds w ↦ rw (w.out-is, w.at-is) (listing_other c.loop-x.invariant c.loop-x-test.true (told ∙
          w.if-holds.false))
    ]

pub returns : goal.returns
returns c = let it = listing_end c.loop-x.invariant c.count-n.ensures.answer c.loop-x-test.false in
    record { answer = it.0; stored = it.1 }
