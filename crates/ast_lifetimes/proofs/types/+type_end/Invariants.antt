-- `type_end` calls itself with less nesting.
use Rattle.ast_lifetimes.proofs.types.+type_end.Given as goal

abbrev pub decreases-type_end : goal.decreases-type_end
decreases-type_end l = l.nesting
