-- How long a listing can be: line by line, a line by how many digits each of its columns has at most. The sum is
-- `listing_bytes`.
use Prim.Native.Nat.{ℕ, suc, ◌+◌, ◌*◌, ◌≤◌, ◌<◌}
use mathlib.Core.Bool.{true}
use mathlib.Core.Path.{◌≡◌, refl}
use mathlib.Core.List.{List, [], ◌∷◌, ◌++◌, Memᴰ}
use native.Mathlib.Omega.{arith}
use lib.ListN.{length, get_or, replicate, length-append, length-map}
use borrow.Author.Tests.{ltb-false, not-false}
use Rattle.lifetimes.specs.declared.env.LifetimeEnv.{LifetimeEnv}
use Rattle.answers.specs.Lists.{range, numbered}
use Rattle.answers.specs.Refusals.{NoneDue}
use Rattle.lifetimes.specs.LoweredWords.{word_of}
use Rattle.lifetimes.specs.Limits.{most_lifetimes}
use Rattle.methods.specs.Method.{most_params}
use Rattle.lifetimes.specs.Env.{env_checks}
use Rattle.answers.proofs.RefusalLaws.{none_first, none_split}
use Rattle.lifetimes.proofs.ReachLaws.{reach_few, reach_inside}
use Rattle.answers.proofs.ListLaws.{range_has, length_range}
use Rattle.lifetimes.specs.Reach.{reach_list}
use Rattle.ast_lifetimes.specs.Env as ast
use Rattle.ast_lifetimes.proofs.AcceptedLaws.{accepted_names}
use Rattle.elision.specs.Steps.{receiver_of, steps_of}
use Rattle.elision.specs.Rfc as rfc
use Rattle.elision.specs.Lowering.{words}
use Rattle.elision.proofs.SmallLaws.{AllSmall}
use Rattle.elision.proofs.SizeLaws.{lowered_self_lem, lowered_steps_lem, lowered_returns_lem, accepted_small}
use Rattle.text.specs.Decimal.{digits, line}
use Rattle.sheet.specs.Text.{Records}
use Rattle.sheet.specs.Shape.{sheet_in_shape, records_checks}
use Rattle.text.proofs.DigitLaws.{digits_length}
use Rattle.text.proofs.LineLaws.{Under, line_bytes, line_short, even_line, lines_short}
use Rattle.sheet.proofs.Theorems.{shapes_are_short}
use Rattle.borrowing_param.specs.declared.visitor.LifetimeEdge.{LifetimeEdge}
use Rattle.borrowing_param.specs.Edges.{edge_words}
use Rattle.borrowing_param.specs.Consistent.{Consistent}
use Rattle.borrowing_param.specs.SheetMethod.{lowered_of, env_of_sheet, lowering_checks}
use Rattle.borrowing_param.specs.Borrows.{Borrows, sheet_borrows}
use Rattle.borrowing_param.specs.New.{method_visitor}
use Rattle.borrowing_param.proofs.Condition3Laws.{params_none}
use Rattle.borrowing_param.proofs.MethodLaws.{env_valid, accepted_method}
use Rattle.borrowing_param.proofs.ConsistentLaws.{listing_consistent}
use Rattle.listing.specs.Listing.{count_lines, lowered_lines, longer_line, longer_lines, answer_lines_from, answer_lines}
use Rattle.listing.specs.Listing.{count_heading, lowered_heading, longer_heading, answer_heading, edge_heading}
use Rattle.listing.specs.Listing.{edge_line, edge_lines, listing_of, most_edges, room_bytes}
use Rattle.listing.specs.InnerListing.{lowered_room}

-- ---- lines

pub one_digit : {w : ℕ} → w < 10 → length (digits w) ≤ 1
one_digit {w} h = digits_length 0 w (omega arith)

pub two_digits : {w : ℕ} → w < 100 → length (digits w) ≤ 2
two_digits {w} h = digits_length 1 w (omega arith)

-- any number of words of two digits
abbrev pub Below : ℕ → List ℕ → Type 0
Below n [] = Unit {0}
Below n (w ∷ ws) = (w < n) × Below n ws

abbrev pub words_bytes : ℕ → ℕ
words_bytes n = (1 + 2) * n + 1

two_each : (ws : List ℕ) → Below 100 ws → Under (replicate (length ws) 2) ws
two_each [] b = tt
two_each (w ∷ ws) b = (two_digits b.0, two_each ws b.1)

pub words_short : (ws : List ℕ) → Below 100 ws → length (line ws) ≤ words_bytes (length ws)
words_short ws b = omega (arith, line_short (replicate (length ws) 2) ws (two_each ws b), even_line 2 (length ws))

pub below_from : (n : ℕ) (ws : List ℕ) → ((w : ℕ) → Memᴰ w ws → w < n) → Below n ws
below_from n [] h = tt
below_from n (w ∷ ws) h = (h w (Memᴰ.head refl), below_from n ws (λ x m. h x (Memᴰ.tail m)))

-- ---- the parts of a listing

small_below : (ls : List rfc.MethodLifetime) → AllSmall ls → Below 100 (words ls)
small_below [] p = tt
small_below (l ∷ ls) p = (omega (arith, p.0), small_below ls p.1)

-- lifetimes, used, params, edges
abbrev count_columns : List ℕ
count_columns = 2 ∷ 2 ∷ 2 ∷ 4 ∷ []

abbrev count_bytes : ℕ
count_bytes = length count_heading + line_bytes count_columns

counts_short : (lifetimes : ℕ) (b : Borrows) → lifetimes ≤ most_lifetimes → Consistent b.used b.answers b.edges
    → length b.edges ≤ most_edges → length (count_lines lifetimes b) ≤ count_bytes
counts_short lifetimes b few c some =
    let words = lifetimes ∷ length b.used ∷ length b.answers ∷ length b.edges ∷ [] in
    let short =
    line_short count_columns words (
      two_digits (omega (arith, few)),
      (
        two_digits (omega (arith, c.few_used)),
        (two_digits (omega (arith, c.few_params)), (digits_length 3 (length b.edges) (omega (arith, some)), tt)),
      ),
    ) in
    omega (arith, length-append count_heading (line words), short)

-- param, answer
abbrev answer_columns : List ℕ
answer_columns = 2 ∷ 1 ∷ []

abbrev answer_bytes : ℕ
answer_bytes = length answer_heading + most_params * line_bytes answer_columns

answers_short : (param : ℕ) (l : List ℕ) → param + length l ≤ most_params → Below 10 l
    → length (answer_lines_from param l) ≤ line_bytes answer_columns * length l
unfolding numbered
answers_short param [] h b = omega arith
answers_short param (a ∷ l) h b =
    let first =
    line_short answer_columns (param ∷ a ∷ []) (two_digits (omega (arith, h)), (one_digit b.0, tt)) in
    let rest = answers_short (suc param) l (omega (arith, h)) b.1 in
    rw length-append (omega (arith, first, rest))

-- used, param, kind, def, option
abbrev edge_columns : List ℕ
edge_columns = 2 ∷ 2 ∷ 1 ∷ 2 ∷ 1 ∷ []

abbrev edge_bytes : ℕ
edge_bytes = length edge_heading + most_edges * line_bytes edge_columns

edge_short : {used answers : List ℕ} {edges : List LifetimeEdge} → Consistent used answers edges → (e : LifetimeEdge)
    → Memᴰ e edges → length (edge_line e) ≤ line_bytes edge_columns
edge_short c e m =
    line_short edge_columns (edge_words e) (
      two_digits (omega (arith, c.used_below e.used (c.edge_used e m))),
      (
        two_digits (omega (arith, c.edge_param e m, c.few_params)),
        (
          one_digit (omega (arith, c.edge_kind e m)),
          (two_digits (omega (arith, c.edge_def e m)), (one_digit (omega (arith, c.edge_option e m)), tt)),
        ),
      ),
    )

below_answers : (l : List ℕ) → ((p : ℕ) → p < length l → get_or l p 0 ≤ 4) → Below 10 l
below_answers [] h = tt
below_answers (a ∷ l) h = (omega (arith, h 0 (omega arith)), below_answers l (λ p k. h (suc p) (omega (arith, k))))

-- a lifetime, then what outlives it
abbrev longer_bytes : ℕ
longer_bytes = length longer_heading + most_lifetimes * words_bytes (1 + most_lifetimes)

module _ (env : LifetimeEnv) (valid : NoneDue (env_checks env)) where
  pub lifetimes_few : env.count ≤ most_lifetimes
  lifetimes_few = ltb-false most_lifetimes env.count (none_first valid)

  longer_short : (l : ℕ) → Memᴰ l (range 0 env.count) → length (longer_line env l) ≤ words_bytes (1 + most_lifetimes)
  longer_short l m =
      let here : l < env.count = omega (arith, (range_has 0 env.count l).0 m) in
      let small = below_from 100 (reach_list true env l)
      (λ y k. omega (arith, reach_inside true env valid l here y k, lifetimes_few)) in
      let short = words_short (l ∷ reach_list true env l) (omega (arith, here, lifetimes_few), small) in
      omega (arith, short, reach_few true env valid l here, lifetimes_few)

  all_longer_short : length (longer_lines env) ≤ longer_bytes
  all_longer_short =
      let short = lines_short (longer_line env) (words_bytes (1 + most_lifetimes)) (range 0 env.count) longer_short in
      rw length-append (omega (arith, short, length_range 0 env.count, lifetimes_few))

-- self, steps, returns
abbrev lowered_bytes : ℕ
lowered_bytes = length lowered_heading + (words_bytes 1 + (words_bytes lowered_room + words_bytes lowered_room))

-- ---- the whole

abbrev listing_bytes : ℕ
listing_bytes = count_bytes + lowered_bytes + longer_bytes + answer_bytes + edge_bytes

five_short : (a b c d e : List ℕ) {m n o p q : ℕ} → length a ≤ m → length b ≤ n → length c ≤ o → length d ≤ p
    → length e ≤ q → length (a ++ (b ++ (c ++ (d ++ e)))) ≤ m + n + o + p + q
five_short a b c d e h i j k l =
    omega (
      arith,
      h,
      i,
      j,
      k,
      l,
      length-append a (b ++ (c ++ (d ++ e))),
      length-append b (c ++ (d ++ e)),
      length-append c (d ++ e),
      length-append d e,
    )

module _ (r : Records) (first : NoneDue (records_checks r)) (none : NoneDue (lowering_checks r)) where
  abbrev names : List ℕ
  names = ast.all_names_of r.names

  abbrev elided : rfc.Method
  elided = lowered_of r

  parts : (sheet_in_shape r ≡ true)
      × NoneDue (ast.item_place_checks r.names r.bounds r.types)
      × NoneDue (rfc.elision_checks names (receiver_of r.self) (steps_of r.steps) (steps_of r.returns))
  unfolding lowering_checks
  parts =
      let p = none_split (ast.item_place_checks r.names r.bounds r.types) _ none in
      let q = none_split (rfc.elision_checks names (receiver_of r.self) (steps_of r.steps) (steps_of r.returns)) _ p.1 in
      (not-false (sheet_in_shape r) (none_first first), p.0, q.0)

  lowered_short : length (lowered_lines elided) ≤ lowered_bytes
  lowered_short =
      let small =
      accepted_small names (receiver_of r.self) (accepted_names r.names r.bounds r.types parts.1)
      (steps_of r.steps) (steps_of r.returns) parts.2 in
      let a = words_short (words elided.self) (small_below elided.self small.0) in
      let b = words_short (words elided.steps) (small_below elided.steps small.1.0) in
      let c = words_short (words elided.returns) (small_below elided.returns small.1.1) in
      let steps =
      shapes_are_short r parts.0 r.steps
      (Memᴰ.tail (Memᴰ.tail (Memᴰ.tail (Memᴰ.tail (Memᴰ.head refl))))) in
      let returns =
      shapes_are_short r parts.0 r.returns
      (Memᴰ.tail (Memᴰ.tail (Memᴰ.tail (Memᴰ.tail (Memᴰ.tail (Memᴰ.head refl)))))) in
      let d = lowered_self_lem names (receiver_of r.self) in
      let e = lowered_steps_lem names (receiver_of r.self) r.steps in
      let f = lowered_returns_lem names (receiver_of r.self) r.steps r.returns in
      rw (length-append, length-append, length-append)
      (omega (
        arith,
        a,
        b,
        c,
        d,
        e,
        f,
        steps,
        returns,
        length-map elided.self word_of,
        length-map elided.steps word_of,
        length-map elided.returns word_of,
      ))

  pub consistent : Consistent (sheet_borrows r).used (sheet_borrows r).answers (sheet_borrows r).edges
  consistent =
      listing_consistent (method_visitor (env_of_sheet r) r.structs r.output) r.structs r.params
      (params_none (env_of_sheet r) r.structs r.params r.output r.force (accepted_method r first none))

  listing_bytes_lem : length (sheet_borrows r).edges ≤ most_edges → length (listing_of r) ≤ listing_bytes
  unfolding listing_of
  listing_bytes_lem few =
      let valid = env_valid r parts.1 parts.2 in
      let b = sheet_borrows r in
      let counts = counts_short (env_of_sheet r).count b (lifetimes_few (env_of_sheet r) valid) consistent few in
      let longer = all_longer_short (env_of_sheet r) valid in
      let answers =
      answers_short 0 b.answers (omega (arith, consistent.few_params))
      (below_answers b.answers consistent.most) in
      let edges = lines_short edge_line (line_bytes edge_columns) b.edges (edge_short consistent) in
      let answered : length (answer_lines b.answers) ≤ answer_bytes =
      rw length-append (omega (arith, answers, consistent.few_params)) in
      let edged : length (edge_lines b.edges) ≤ edge_bytes = rw length-append (omega (arith, edges, few)) in
      five_short (count_lines (env_of_sheet r).count b) (lowered_lines elided) (longer_lines (env_of_sheet r))
      (answer_lines b.answers) (edge_lines b.edges) counts lowered_short longer answered edged

  -- the room is enough
  pub listing_short : length (sheet_borrows r).edges ≤ most_edges → length (listing_of r) ≤ room_bytes
  listing_short few = omega (arith, listing_bytes_lem few)
