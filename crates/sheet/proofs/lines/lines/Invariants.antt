-- `lines` meets its contract: each turn of the loop takes one line more.
use Rattle.sheet.proofs.LinesLaws.{Lining}
use Rattle.sheet.proofs.lines.lines.Given as goal

abbrev pub invariant-loop-i : goal.invariant-loop-i
invariant-loop-i l = Lining l.bytes l.from l.initial.words l.words l.ends l.at l.count l.short l.i
