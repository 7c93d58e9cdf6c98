-- The listing of a sheet (01, "The listing"): bytes, from the sheet's records. Each part is of the definitions that the
-- contracts of the crates below cite.
use Rattle.std.specs.Prelude.{ℕ, ◌*◌, true, ltb, length, Ok, Err}
use mathlib.Core.List.{List, [], ◌∷◌, ◌++◌, flat_map}
use Rattle.answers.specs.declared.Refusal.{Refusal}
use Rattle.answers.specs.declared.Refusal.TheVariants.{NoRoom}
use Rattle.lifetimes.specs.declared.env.LifetimeEnv.{LifetimeEnv}
use Rattle.answers.specs.Lists.{range, numbered}
use Rattle.answers.specs.Refusals.{Check, check, Outcome, unless, number_of}
use Rattle.answers.specs.Lent.{room_check}
use Rattle.lifetimes.specs.Reach.{reach_list}
use Rattle.elision.specs.Rfc as rfc
use Rattle.elision.specs.Lowering.{words}
use Rattle.text.specs.Decimal.{newline, space, line}
use Rattle.sheet.specs.Text.{Records, most_bytes}
use Rattle.sheet.specs.Reading.{sheet_of}
use Rattle.borrowing_param.specs.declared.visitor.LifetimeEdge.{LifetimeEdge}
use Rattle.borrowing_param.specs.Edges.{edge_words}
use Rattle.borrowing_param.specs.SheetMethod.{lowered_of, env_of_sheet, sheet_refusals}
use Rattle.borrowing_param.specs.Borrows.{Borrows, sheet_borrows}

-- "lifetimes used params edges", and how many there are of each
abbrev pub count_heading : List ℕ
count_heading = 108 ∷ 105 ∷ 102 ∷ 101 ∷ 116 ∷ 105 ∷ 109 ∷ 101 ∷ 115 ∷ space ∷ 117 ∷ 115 ∷ 101 ∷ 100 ∷ space ∷ 112 ∷ 97
    ∷ 114 ∷ 97 ∷ 109 ∷ 115 ∷ space ∷ 101 ∷ 100 ∷ 103 ∷ 101 ∷ 115 ∷ newline ∷ []

abbrev pub count_lines : ℕ → Borrows → List ℕ
count_lines lifetimes b =
    count_heading ++ line (lifetimes ∷ length b.used ∷ length b.answers ∷ length b.edges ∷ [])

-- "lowered", a line each for self, steps and returns
abbrev pub lowered_heading : List ℕ
lowered_heading = 108 ∷ 111 ∷ 119 ∷ 101 ∷ 114 ∷ 101 ∷ 100 ∷ newline ∷ []

abbrev pub lowered_lines : rfc.Method → List ℕ
lowered_lines m = lowered_heading ++ (line (words m.self) ++ (line (words m.steps) ++ line (words m.returns)))

-- "lifetime longer": each lifetime, then what outlives it, in the HIR's order
abbrev pub longer_heading : List ℕ
longer_heading =
    108 ∷ 105 ∷ 102 ∷ 101 ∷ 116 ∷ 105 ∷ 109 ∷ 101 ∷ space ∷ 108 ∷ 111 ∷ 110 ∷ 103 ∷ 101 ∷ 114 ∷ newline ∷ []

abbrev pub longer_line : LifetimeEnv → ℕ → List ℕ
longer_line env l = line (l ∷ reach_list true env l)

abbrev pub longer_lines : LifetimeEnv → List ℕ
longer_lines env = longer_heading ++ flat_map (longer_line env) (range 0 env.count)

-- "param answer": each parameter, from `param` on, and the number of its answer
abbrev pub answer_heading : List ℕ
answer_heading = 112 ∷ 97 ∷ 114 ∷ 97 ∷ 109 ∷ space ∷ 97 ∷ 110 ∷ 115 ∷ 119 ∷ 101 ∷ 114 ∷ newline ∷ []

abbrev pub answer_lines_from : ℕ → List ℕ → List ℕ
answer_lines_from param answers = numbered (λ p a. line (p ∷ a ∷ [])) param answers

abbrev pub answer_lines : List ℕ → List ℕ
answer_lines answers = answer_heading ++ answer_lines_from 0 answers

-- "used param kind def option": a line for each edge
abbrev pub edge_heading : List ℕ
edge_heading = 117 ∷ 115 ∷ 101 ∷ 100 ∷ space ∷ 112 ∷ 97 ∷ 114 ∷ 97 ∷ 109 ∷ space ∷ 107 ∷ 105 ∷ 110 ∷ 100 ∷ space ∷ 100
    ∷ 101 ∷ 102 ∷ space ∷ 111 ∷ 112 ∷ 116 ∷ 105 ∷ 111 ∷ 110 ∷ newline ∷ []

abbrev pub edge_line : LifetimeEdge → List ℕ
edge_line e = line (edge_words e)

abbrev pub edge_lines : List LifetimeEdge → List ℕ
edge_lines es = edge_heading ++ flat_map edge_line es

-- the whole
unfoldable pub listing_of : Records → List ℕ
listing_of r =
    let b = sheet_borrows r in
    count_lines (env_of_sheet r).count b
    ++ (lowered_lines (lowered_of r)
    ++ (longer_lines (env_of_sheet r)
    ++ (answer_lines b.answers
    ++ edge_lines b.edges)))

-- "It lends 4,096 edges": more are 9
abbrev pub most_edges : ℕ
most_edges = 4096

-- so many bytes take any answer of the program: twice as many as a sheet may have
abbrev pub room_bytes : ℕ
room_bytes = 2 * most_bytes

abbrev pub edges_check : Records → Check
edges_check r = check (ltb most_edges (length (sheet_borrows r).edges)) NoRoom

-- the refusals of a listing: those of the sheet, then too many edges
unfoldable pub listing_checks : List ℕ → List Check
listing_checks bytes = sheet_refusals bytes ++ (edges_check (sheet_of bytes) ∷ [])

-- `listing`: then a slice too short, also 9
unfoldable pub listing : List ℕ → ℕ → Outcome (List ℕ)
listing bytes room =
    unless (listing_checks bytes ++ (room_check room (listing_of (sheet_of bytes)) ∷ [])) (listing_of (sheet_of bytes))

-- `respond`, the program: "A refusal prints the line `refusal`, then a line with the number, and nothing else"
abbrev pub refusal_heading : List ℕ
refusal_heading = 114 ∷ 101 ∷ 102 ∷ 117 ∷ 115 ∷ 97 ∷ 108 ∷ newline ∷ []

abbrev pub refusal_text : Refusal → List ℕ
refusal_text k = refusal_heading ++ line (number_of k ∷ [])

abbrev pub said : Outcome (List ℕ) → List ℕ
said (Ok text) = text
said (Err k) = refusal_text k

unfoldable pub response : List ℕ → List ℕ
response bytes = said (unless (listing_checks bytes) (listing_of (sheet_of bytes)))
