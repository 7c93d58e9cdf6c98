-- For private functions only: a listing made in lent scratch. No public contract cites this file.
use Rattle.std.specs.Prelude.{ℕ, ◌*◌, ◌≤◌, ◌<◌, true, cond, ◌≡◌, List, [], ◌∷◌, ◌++◌, ltb, length, Ok, Err}
use Rattle.std.specs.Prelude.{Some, None, Option}
use Rattle.std.proofs.lemmas.List.Edits.{sets}
use Rattle.answers.specs.declared.Refusal.TheVariants.{NoRoom}
use Rattle.lifetimes.specs.declared.env.LifetimeEnv.{LifetimeEnv}
use Rattle.answers.specs.Refusals.{check, Outcome, unless, NoneDue}
use Rattle.lifetimes.specs.Limits.{most_lifetimes}
use Rattle.lifetimes.specs.Sets.{member}
use Rattle.lifetimes.specs.Env.{env_checks}
use Rattle.records.specs.Reading.{most_words}
use Rattle.sheet.specs.Text.{Records, record_count}
use Rattle.text.specs.Decimal.{line}
use Rattle.sheet.specs.Reading.{sheet_of}
use Rattle.borrowing_param.specs.Edges.{width}
use Rattle.borrowing_param.specs.New.{new_visitor}
use Rattle.borrowing_param.specs.SheetMethod.{lowering_checks}
use Rattle.borrowing_param.specs.Borrows.{Borrows, borrows_by}
use Rattle.borrowing_param.specs.InnerSheet.{OfMethod}
use Rattle.listing.specs.declared.within.Scratch.{Scratch}
use Rattle.listing.specs.Listing.{count_heading, count_lines, lowered_heading, longer_heading, longer_lines}
use Rattle.listing.specs.Listing.{answer_lines, edge_lines, most_edges, edges_check, listing_of, listing_checks}
use Rattle.listing.specs.Listing.{room_bytes}
use Rattle.listing.specs.InnerSections.{list_lines, cut_from, edges_of_words}

-- what is listed, or why not
abbrev pub listed_sheet : List ℕ → Outcome (List ℕ)
listed_sheet bytes = unless (listing_checks bytes) (listing_of (sheet_of bytes))

-- and of records that were read
abbrev pub listed_records : Records → Outcome (List ℕ)
listed_records r = unless (lowering_checks r ++ (edges_check r ∷ [])) (listing_of r)

-- a text from the front of a slice: how long it is, and that it is stored as far as the slice goes
pub record StandsInFront (text out : List ℕ) (n : ℕ) (out₁ : List ℕ) : Type 0 where
  pub size : n ≡ length text
  pub stored : out₁ ≡ sets out 0 text

-- what a function answers and leaves that lists into a slice: the text's length, and the text stored from the front as
-- far as the slice goes; or a refusal, and the slice as it was
abbrev pub ListsTo : Outcome (List ℕ) → List ℕ → Outcome ℕ → List ℕ → Type 0
ListsTo o out (Ok n) out₁ = (text : List ℕ) × (o ≡ Ok text) × StandsInFront text out n out₁
ListsTo o out (Err k) out₁ = (o ≡ Err k) × (out₁ ≡ out)

-- Scratch of these sizes is enough for any sheet. A step has two words or more and gives at most 16 lifetimes, so that
-- a word of steps or returns gives at most eight
abbrev pub per_word : ℕ
per_word = 8

abbrev pub lowered_room : ℕ
lowered_room = per_word * most_words

abbrev pub lists_room : ℕ
lists_room = most_lifetimes * most_lifetimes

abbrev pub edges_room : ℕ
edges_room = width * most_edges

abbrev pub Ample : ℕ → ℕ → ℕ → ℕ → Type 0
Ample given taken lists edges =
    (lowered_room ≤ given) × (lowered_room ≤ taken) × (lists_room ≤ lists) × (edges_room ≤ edges)

-- and no more than that is lent
abbrev pub NoWider : ℕ → ℕ → ℕ → ℕ → ℕ → Type 0
NoWider words given taken lists edges =
    (words ≤ record_count * most_words)
    × (given ≤ lowered_room) × (taken ≤ lowered_room) × (lists ≤ lists_room) × (edges ≤ edges_room)

abbrev pub Suffices : Scratch → Type 0
Suffices s = Ample (length s.given.now) (length s.taken.now) (length s.lists.now) (length s.edges.now)

-- the same in scratch that may be too short, when there is no length; only where it is not ample
abbrev pub ListsWithin : Outcome (List ℕ) → Type 0 → List ℕ → Outcome (Option ℕ) → List ℕ → Type 0
ListsWithin o ample out (Ok (Some n)) out₁ = ListsTo o out (Ok n) out₁
ListsWithin o ample out (Ok None) out₁ = (ample → ⊥) × (out₁ ≡ out)
ListsWithin o ample out (Err k) out₁ = ListsTo o out (Err k) out₁

-- an accepted method: its environment, used lifetimes, structs and params, and the lowered words of its records
abbrev pub method_borrows : LifetimeEnv → ℕ → List ℕ → List ℕ → Borrows
method_borrows env used structs params = borrows_by (new_visitor used env) structs params

unfoldable pub method_listing : LifetimeEnv → ℕ → List ℕ → List ℕ → List ℕ → List ℕ → List ℕ → List ℕ
method_listing env used structs params own given taken =
    count_lines env.count (method_borrows env used structs params)
    ++ ((lowered_heading ++ (line own ++ (line given ++ line taken)))
    ++ (longer_lines env
    ++ (answer_lines (method_borrows env used structs params).answers
    ++ edge_lines (method_borrows env used structs params).edges)))

unfoldable pub listed_method : LifetimeEnv → ℕ → List ℕ → List ℕ → List ℕ → List ℕ → List ℕ → Outcome (List ℕ)
listed_method env used structs params own given taken =
    unless (check (ltb most_edges (length (method_borrows env used structs params).edges)) NoRoom ∷ [])
    (method_listing env used structs params own given taken)

pub record Listable (env : LifetimeEnv) (used : ℕ) (structs params own given taken : List ℕ) : Type 0 where
  pub valid : NoneDue (env_checks env)
  pub of : OfMethod structs params
  pub below : (k : ℕ) → member used k ≡ true → k < env.count
  pub short : length (method_borrows env used structs params).edges ≤ most_edges
      → length (method_listing env used structs params own given taken) ≤ room_bytes

-- the sections by what stands in slices: counts of lifetimes, used lifetimes, parameters and edges; lowered words;
-- longer lists by their ends; answers; edges
unfoldable pub sections : List ℕ → List ℕ → List ℕ → List ℕ → List ℕ → List ℕ → List ℕ → List ℕ → List ℕ
sections counts own given taken lists ends answers edges =
    (count_heading ++ line counts)
    ++ ((lowered_heading ++ (line own ++ (line given ++ line taken)))
    ++ ((longer_heading ++ list_lines 0 (cut_from 0 lists ends))
    ++ (answer_lines answers
    ++ edge_lines (edges_of_words edges))))

-- the edges do not fit so many words
abbrev pub edges_overflow : ℕ → Outcome (Option ℕ)
edges_overflow room = cond (ltb room edges_room) (Ok None) (Err NoRoom)
