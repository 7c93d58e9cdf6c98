-- The sections of a listing: what is left of each after its first parts.
use Prim.Native.Nat.{ℕ, suc, ◌+◌, ◌-◌, ◌/◌, ◌≤◌, ◌<◌, ◌^◌}
use mathlib.Core.Path.{◌≡◌, refl, ap, subst, ◌∙◌}
use mathlib.Core.List.{List, [], ◌∷◌, ◌++◌, flat_map, append_assoc}
use native.Mathlib.Omega.{arith}
use native.Mathlib.Numerals.{add-one}
use lib.ListN.{length, get_or, take, drop, length-append, drop_of_length-le}
use lib.Seq.{drop-cons, take-append_seam, drop-append_seam}
use Rattle.text.specs.Decimal.{digits, following, line}
use Rattle.text.specs.Printing.{Prints}
use Rattle.text.proofs.PrintLaws.{Leaves, leaves_all, leaves_rest, leaves_nothing, leaves_size}
use Rattle.sheet.proofs.LaidLaws.{part_is}
use Rattle.borrowing_param.specs.Edges.{width, edge_words, edge_at, edges_in}
use Rattle.listing.specs.Listing.{answer_lines_from, edge_line}
use Rattle.listing.specs.InnerSections.{list_lines, cut_from, Ascend, edges_of_words}
use Rattle.answers.specs.Lists.{numbered}

-- ---- `put_numbered`: lists by their ends

pub record Numbering (words ends : List ℕ) (at : ℕ) (out : List ℕ) (next : ℕ) (out₁ : List ℕ) (from i : ℕ) : Type 0 where
  pub ascends : Ascend from (length words) (drop i ends)
  pub left : Leaves (list_lines 0 (cut_from 0 words ends)) at out (list_lines i (cut_from from words (drop i ends))) next
      out₁

pub numbering_start : (words ends : List ℕ) (at : ℕ) (out : List ℕ) → Ascend 0 (length words) ends → length out < 2 ^ 64
    → at < 2 ^ 64 → Numbering words ends at out at out 0 0
numbering_start words ends at out a h k = record { ascends = a; left = leaves_all _ at out h k }

module _ {words ends : List ℕ} {at : ℕ} {out : List ℕ} {next : ℕ} {out₁ : List ℕ} {from i : ℕ}
    (inv : Numbering words ends at out next out₁ from i) where
  pub numbering_end : length ends ≤ i → Prints (list_lines 0 (cut_from 0 words ends)) at out next out₁
  unfolding numbered cut_from
  numbering_end h =
      let none : drop i ends ≡ [] = drop_of_length-le ends {i = i} h in
      leaves_nothing (rw none at inv.left)

  module _ (h : i < length ends) where
    -- the next end, and the list up to it
    abbrev to : ℕ
    to = get_or ends i 0

    ends_on : drop i ends ≡ to ∷ drop (suc i) ends
    ends_on = drop-cons ends i 0 h

    more : (from ≤ to) × (to ≤ length words) × Ascend to (length words) (drop (suc i) ends)
    unfolding Ascend
    more = rw ends_on at inv.ascends

    pub numbering_inside : (from ≤ to) × (to ≤ length words)
    numbering_inside = (more.0, more.1)

    abbrev listed : List ℕ
    listed = take (to - from) (drop from words)

    on : list_lines i (cut_from from words (drop i ends))
        ≡ digits i ++ (following listed ++ list_lines (suc i) (cut_from to words (drop (suc i) ends)))
    unfolding numbered cut_from line
    on = rw (ends_on, ← part_is from to words more.0) (append_assoc (digits i) (following listed) _)

    left_number : Leaves (list_lines 0 (cut_from 0 words ends)) at out
        (digits i ++ (following listed ++ list_lines (suc i) (cut_from to words (drop (suc i) ends)))) next out₁
    left_number = rw on at inv.left

    module _ {start : ℕ} {out₂ : List ℕ} (first : Prints (digits i) next out₁ start out₂) where
      left_list : Leaves (list_lines 0 (cut_from 0 words ends)) at out
          (following listed ++ list_lines (suc i) (cut_from to words (drop (suc i) ends))) start out₂
      left_list = leaves_rest _ left_number first

      pub numbering_more : {next₁ : ℕ} {out₃ : List ℕ} → Prints (following listed) start out₂ next₁ out₃
          → Numbering words ends at out next₁ out₃ to (i + 1)
      numbering_more second = rw (add-one i) (record { ascends = more.2; left = leaves_rest _ left_list second })

-- ---- `put_each_answer`

pub record Answering (answers : List ℕ) (at : ℕ) (out : List ℕ) (next : ℕ) (out₁ : List ℕ) (i : ℕ) : Type 0 where
  pub here : i ≤ length answers
  pub left : Leaves (answer_lines_from 0 answers) at out (answer_lines_from i (drop i answers)) next out₁

module _ {answers : List ℕ} {at : ℕ} {out : List ℕ} {next : ℕ} {out₁ : List ℕ} {i : ℕ}
    (inv : Answering answers at out next out₁ i) where
  pub answering_end : length answers ≤ i → Prints (answer_lines_from 0 answers) at out next out₁
  unfolding numbered
  answering_end h =
      let none : drop i answers ≡ [] = drop_of_length-le answers {i = i} h in
      leaves_nothing (rw none at inv.left)

  module _ (h : i < length answers) where
    answer_on : drop i answers ≡ get_or answers i 0 ∷ drop (suc i) answers
    answer_on = drop-cons answers i 0 h

    on_answer : answer_lines_from i (drop i answers)
        ≡ line (i ∷ get_or answers i 0 ∷ []) ++ answer_lines_from (suc i) (drop (suc i) answers)
    unfolding numbered
    on_answer = rw answer_on

    left_answer : Leaves (answer_lines_from 0 answers) at out
        (line (i ∷ get_or answers i 0 ∷ []) ++ answer_lines_from (suc i) (drop (suc i) answers)) next out₁
    left_answer = rw on_answer at inv.left

    pub answering_more : {next₁ : ℕ} {out₂ : List ℕ} → Prints (line (i ∷ get_or answers i 0 ∷ [])) next out₁ next₁ out₂
        → Answering answers at out next₁ out₂ (i + 1)
    answering_more first = rw (add-one i) (record { here = omega (arith, h); left = leaves_rest _ left_answer first })

-- ---- `put_each_edge`

-- what is left are the edges of the words that are left
pub record Edging (edges : List ℕ) (at : ℕ) (out : List ℕ) (next : ℕ) (out₁ rest : List ℕ) : Type 0 where
  pub left : Leaves (flat_map edge_line (edges_of_words edges)) at out (flat_map edge_line (edges_of_words rest)) next out₁

pub edging_start : (edges : List ℕ) (at : ℕ) (out : List ℕ) → length out < 2 ^ 64 → at < 2 ^ 64
    → Edging edges at out at out edges
edging_start edges at out h k = record { left = leaves_all _ at out h k }

-- the words of the first edge
first_words : (ws : List ℕ) → width ≤ length ws → edge_words (edge_at ws) ≡ take width ws
first_words [] h = absurd (omega arith)
first_words (a ∷ []) h = absurd (omega arith)
first_words (a ∷ b ∷ []) h = absurd (omega arith)
first_words (a ∷ b ∷ c ∷ []) h = absurd (omega arith)
first_words (a ∷ b ∷ c ∷ d ∷ []) h = absurd (omega arith)
first_words (a ∷ b ∷ c ∷ d ∷ e ∷ ws) h = refl

module _ {edges : List ℕ} {at : ℕ} {out : List ℕ} {next : ℕ} {out₁ rest : List ℕ}
    (inv : Edging edges at out next out₁ rest) where
  pub edging_end : length rest < width → Prints (flat_map edge_line (edges_of_words edges)) at out next out₁
  unfolding edges_in flat_map
  edging_end h =
      let none : length rest / width ≡ 0 = omega (arith, h) in
      leaves_nothing (rw none at inv.left)

  pub edging_more : (item rest₁ : List ℕ) {next₁ : ℕ} {out₂ : List ℕ} → rest ≡ item ++ rest₁ → length item ≡ width
      → Prints (line item) next out₁ next₁ out₂ → Edging edges at out next₁ out₂ rest₁
  unfolding edges_in flat_map
  edging_more item rest₁ split five first =
      let size : length rest ≡ width + length rest₁ = ap length split ∙ length-append item rest₁ ∙ omega (arith, five) in
      let one : length rest / width ≡ suc (length rest₁ / width) = omega (arith, size) in
      let front : take width rest ≡ item =
      rw split (subst (λ (n : ℕ). take n (item ++ rest₁) ≡ item) five (take-append_seam item rest₁)) in
      let behind : drop width rest ≡ rest₁ =
      rw split (subst (λ (n : ℕ). drop n (item ++ rest₁) ≡ rest₁) five (drop-append_seam item rest₁)) in
      let on : flat_map edge_line (edges_of_words rest) ≡ line item ++ flat_map edge_line (edges_of_words rest₁) =
      rw (one, first_words rest (omega (arith, size)), front, behind) in
      record { left = leaves_rest _ (rw on at inv.left) first }
