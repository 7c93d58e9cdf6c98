-- `put_word` meets its contract: digit by digit, or one digit, two digits or more where there is room for two.
use Prim.Native.Nat.{◌+◌, ◌≤◌}
use mathlib.Core.Path.{◌∙◌}
use native.Mathlib.Omega.{arith}
use lib.ListN.{length, length-set}
use borrow.Author.Rules.{rules}
use Rattle.text.specs.Decimal.{space}
use Rattle.text.proofs.PrintLaws.{word_digits, word_one, word_two, word_more}
use Rattle.text.proofs.print.put_word.Goals as goal

pub returns-then-safe-at : goal.returns-then-safe-at
returns-then-safe-at c = search (word_digits, rules)

pub bounds-out-at : goal.bounds-out-at
bounds-out-at c =
    let room : c.args.at + 3 ≤ length c.args.out.now = omega (arith, c.requires, c.if-safe-at.false) in
    search (room, rules)

pub overflow_add-out-then-word-lt10 : goal.overflow_add-out-then-word-lt10
overflow_add-out-then-word-lt10 c =
    let room : c.args.at + 3 ≤ length c.args.out.now = omega (arith, c.requires, c.if-safe-at.false) in
    search (room, rules)

pub bounds-out-at-then-word-lt10 : goal.bounds-out-at-then-word-lt10
bounds-out-at-then-word-lt10 c =
    let room : c.args.at + 3 ≤ length c.args.out.now = omega (arith, c.requires, c.if-safe-at.false) in
    rw length-set (omega (arith, room))

pub overflow_add-result : goal.overflow_add-result
overflow_add-result c =
    let room : c.args.at + 3 ≤ length c.args.out.now = omega (arith, c.requires, c.if-safe-at.false) in
    search (room, rules)

pub returns-then-word-lt10 : goal.returns-then-word-lt10
returns-then-word-lt10 c =
    let room : c.args.at + 3 ≤ length c.args.out.now = omega (arith, c.requires, c.if-safe-at.false) in
    search (word_one, room, rules)

pub overflow_add-out-then-word-lt100-2 : goal.overflow_add-out-then-word-lt100-2
overflow_add-out-then-word-lt100-2 c =
    let room : c.args.at + 3 ≤ length c.args.out.now = omega (arith, c.requires, c.if-safe-at.false) in
    search (room, rules)

pub bounds-out-at-then-word-lt100 : goal.bounds-out-at-then-word-lt100
bounds-out-at-then-word-lt100 c =
    let room : c.args.at + 3 ≤ length c.args.out.now = omega (arith, c.requires, c.if-safe-at.false) in
    rw length-set (omega (arith, room))

pub overflow_add-out-then-word-lt100-4 : goal.overflow_add-out-then-word-lt100-4
overflow_add-out-then-word-lt100-4 c =
    let room : c.args.at + 3 ≤ length c.args.out.now = omega (arith, c.requires, c.if-safe-at.false) in
    search (room, rules)

pub bounds-out-at-then-word-lt100-2 : goal.bounds-out-at-then-word-lt100-2
bounds-out-at-then-word-lt100-2 c =
    let room : c.args.at + 3 ≤ length c.args.out.now = omega (arith, c.requires, c.if-safe-at.false) in
    rw (length-set, length-set) (omega (arith, room))

pub overflow_add-result-then-word-lt100 : goal.overflow_add-result-then-word-lt100
overflow_add-result-then-word-lt100 c =
    let room : c.args.at + 3 ≤ length c.args.out.now = omega (arith, c.requires, c.if-safe-at.false) in
    search (room, rules)

pub returns-then-word-lt100 : goal.returns-then-word-lt100
returns-then-word-lt100 c =
    let room : c.args.at + 3 ≤ length c.args.out.now = omega (arith, c.requires, c.if-safe-at.false) in
    search (word_two, room, rules)

pub shape_of-out : goal.shape_of-out
shape_of-out c = c.put_digits-2.auto.out ∙ length-set c.args.out.now c.args.at space

pub returns : goal.returns
returns c =
    let room : c.args.at + 3 ≤ length c.args.out.now = omega (arith, c.requires, c.if-safe-at.false) in
    search (word_more, room, rules)
