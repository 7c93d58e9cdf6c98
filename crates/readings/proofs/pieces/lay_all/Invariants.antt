-- `lay_all` meets its contract: the size stays within the text, which stays as long as it was, and what is left of the
-- questions is what was left, from some place on.
use Rattle.std.proofs.Common.{◌≡◌, ◌≤◌, length}
use Rattle.input.specs.Left.{TakesFront}
use Rattle.readings.proofs.pieces.lay_all.Given as goal

abbrev pub invariant-loop : goal.invariant-loop
invariant-loop l =
    (l.size ≤ length l.text)
    × (length l.text ≡ length l.initial.text)
    × TakesFront l.initial.questions.left.now l.questions.left.now
