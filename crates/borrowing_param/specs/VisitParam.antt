-- `visit_param`: a visit of one parameter of the records `structs` and `params`, total on all words.
use Rattle.std.specs.Prelude.{ℕ, false, List, [], ◌∷◌, leb, length, get_or, Ok, Err}
use Rattle.answers.specs.declared.Refusal.TheVariants.{Malformed}
use Rattle.answers.specs.Refusals.{Check, check, Outcome, unless}
use Rattle.hir_types.specs.declared.types.Kind.TheVariants.{Plain}
use Rattle.hir_types.specs.declared.types.Own.TheVariants.{Absent}
use Rattle.hir_types.specs.LoweredTypes.{LoweredType, lowered_type}
use Rattle.methods.specs.Method.{types_in, structs_and_params_checks}
use Rattle.borrowing_param.specs.Visit.{State, VisitOutcome, outcome, visit}

-- the parameter's type
abbrev pub type_at : List LoweredType → ℕ → LoweredType
type_at types param = get_or types param (lowered_type false Plain [] Absent)

-- a parameter that is not there (1); else as any method with these two records is refused: 1, then 4 and 7 by place
abbrev pub visit_checks : List ℕ → List ℕ → ℕ → List Check
visit_checks structs params param =
    check (leb (length (types_in structs params)) param) Malformed
    ∷ structs_and_params_checks structs params

-- refused by these the visit leaves all as it was; else it goes on
abbrev pub visit_if : Outcome (Unit {0}) → State → LoweredType → ℕ → VisitOutcome
visit_if (Ok u) s t param = visit s t param
visit_if (Err r) s t param = outcome (Err r) s

unfoldable pub visit_param : List ℕ → List ℕ → State → ℕ → VisitOutcome
visit_param structs params s param =
    visit_if (unless (visit_checks structs params param) (tt {0})) s (type_at (types_in structs params) param) param
