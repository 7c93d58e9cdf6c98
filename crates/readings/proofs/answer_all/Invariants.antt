-- `answer_all` ends: each question that is answered is taken off the front.
use Rattle.std.proofs.Common.{length}
use Rattle.readings.proofs.answer_all.Given as goal

abbrev pub invariant-loop-questions : goal.invariant-loop-questions
invariant-loop-questions g l = Unit {0}

abbrev pub decreases-loop-questions : goal.decreases-loop-questions
decreases-loop-questions g l = length l.questions.left.now
