-- A new visitor: the used lifetimes, for each of them the lifetimes that draw an edge to it, and no edges. `from_sets`
-- makes one of any sets, `new` of a method's.
use Rattle.std.specs.Prelude.{ℕ, true, cond, List, map, get_or}
use Rattle.lifetimes.specs.declared.env.LifetimeEnv.{LifetimeEnv}
use Rattle.answers.specs.Lists.{range}
use Rattle.answers.specs.Refusals.{Outcome, unless}
use Rattle.lifetimes.specs.Limits.{most_lifetimes}
use Rattle.lifetimes.specs.Sets.{empty, member, set_of}
use Rattle.lifetimes.specs.Reach.{all_sets}
use Rattle.methods.specs.Method.{method_checks}
use Rattle.methods.specs.Used.{output_numbers}
use Rattle.borrowing_param.specs.declared.visitor.BorrowingParamVisitor.{BorrowingParamVisitor}

-- what draws an edge to a used lifetime: its set. Nothing draws one to a lifetime that is not used
abbrev pub draws_to : ℕ → List ℕ → ℕ → ℕ
draws_to used sets lifetime = cond (member used lifetime) (get_or sets lifetime 0) empty

unfoldable pub visitor_from : ℕ → List ℕ → BorrowingParamVisitor
visitor_from used sets = record { used = used; draws = map (draws_to used sets) (range 0 most_lifetimes); stored = 0 }

-- the set of a lifetime of an environment is all that outlives it
abbrev pub new_visitor : ℕ → LifetimeEnv → BorrowingParamVisitor
new_visitor used env = visitor_from used (all_sets true env)

-- that of a method, by its environment, its structs and its output
abbrev pub method_visitor : LifetimeEnv → List ℕ → List ℕ → BorrowingParamVisitor
method_visitor env structs output = new_visitor (set_of (output_numbers structs output)) env

-- refused as the method is
unfoldable pub created : LifetimeEnv → List ℕ → List ℕ → List ℕ → List ℕ → Outcome BorrowingParamVisitor
created env structs params output force =
    unless (method_checks env structs params output force) (method_visitor env structs output)
