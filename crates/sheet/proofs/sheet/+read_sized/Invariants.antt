-- `read_sized` calls itself with a larger size, 4,096 at most.
use Rattle.std.proofs.Common.{◌-◌}
use Rattle.sheet.proofs.sheet.+read_sized.Given as goal

abbrev pub decreases-read_sized : goal.decreases-read_sized
decreases-read_sized l = 4096 - l.bytes
