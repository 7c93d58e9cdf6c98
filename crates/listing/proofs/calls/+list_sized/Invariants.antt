-- `list_sized` calls itself with a larger size, 65,536 at most.
use Rattle.std.proofs.Common.{◌-◌}
use Rattle.listing.proofs.calls.+list_sized.Given as goal

abbrev pub decreases-list_sized : goal.decreases-list_sized
decreases-list_sized l = 65536 - l.bytes
