-- A sheet's *method* (01's word): its environment beside the records structs, params, output and force; and the
-- refusals of a sheet, one list in the papers' order.
use Rattle.std.specs.Prelude.{ℕ, List, [], ◌∷◌, ◌++◌}
use Rattle.answers.specs.declared.Refusal.TheVariants.{OutOfRange}
use Rattle.lifetimes.specs.declared.env.LifetimeEnv.{LifetimeEnv}
use Rattle.answers.specs.Refusals.{Check, check, Outcome, unless, over}
use Rattle.ast_lifetimes.specs.declared.env.LifetimeEnv as ast-env
use Rattle.ast_lifetimes.specs.Env as ast
use Rattle.elision.specs.Steps.{receiver_of, steps_of}
use Rattle.elision.specs.Rfc as rfc
use Rattle.elision.specs.Lowering.{finished}
use Rattle.methods.specs.Method.{place_checks, output_lifetimes, any_past}
use Rattle.sheet.specs.Text.{Records, lists, words_of}
use Rattle.sheet.specs.Reading.{sheet_of}
use Rattle.answers.specs.Lists.{ends_from}
use Rattle.sheet.specs.Answer.{with_room}
use Rattle.sheet.specs.Shape.{sheet_checks}
use Rattle.borrowing_param.specs.declared.method.SheetMethod.{SheetMethod}

-- what RFC 141 says of the records self, steps and returns
abbrev pub lowered_of : Records → rfc.Method
lowered_of r =
    rfc.method_of (ast.all_names_of r.names) (receiver_of r.self) (steps_of r.steps) (steps_of r.returns)

-- the AST's environment, of names, bounds and types; and the method's
abbrev pub ast_env_of : Records → ast-env.LifetimeEnv
ast_env_of r = ast.named_env (ast.all_names_of r.names) (ast.method_bounds r.names r.bounds r.types)

abbrev pub env_of_sheet : Records → LifetimeEnv
env_of_sheet r = finished (ast_env_of r) (lowered_of r).count

-- Of records that were read, by place: names, bounds and types (2, 3, 4); self, steps and returns (3, 4, 5, 6);
-- structs, params and output (4, 7); then a lifetime of the output that there is not (8)
unfoldable pub lowering_checks : Records → List Check
lowering_checks r =
    ast.item_place_checks r.names r.bounds r.types
    ++ (rfc.elision_checks (ast.all_names_of r.names) (receiver_of r.self) (steps_of r.steps) (steps_of r.returns)
    ++ (place_checks r.structs r.params r.output
    ++ (check (any_past (lowered_of r).count (output_lifetimes r.structs r.output)) OutOfRange ∷ [])))

-- before them the reader's: 10, 1 over all records, 13
unfoldable pub sheet_refusals : List ℕ → List Check
sheet_refusals bytes = sheet_checks bytes ++ lowering_checks (sheet_of bytes)

-- `lower_sheet`: last 9, a slice too short for the words of the records
unfoldable pub lower_sheet : List ℕ → ℕ → Outcome Records
lower_sheet bytes room = unless (with_room (sheet_refusals bytes) room (sheet_of bytes)) (sheet_of bytes)

-- what the call answers, and what it writes
abbrev pub method_answer : Outcome Records → Outcome SheetMethod
method_answer o = over (λ r. record { ends = ends_from 0 (lists r); env = env_of_sheet r }) o

abbrev pub method_words : Outcome Records → Outcome (List ℕ)
method_words o = over words_of o
