-- What stands in the scratch is what the listing lists: lists by their ends, numbered.
use Prim.Native.Nat.{ℕ, zero, suc, ◌+◌, ◌≤◌}
use mathlib.Core.Path.{◌≡◌, refl, sym, ap}
use mathlib.Core.List.{List, [], ◌∷◌, ◌++◌, map, flat_map, flatten, append_assoc}
use native.Mathlib.Nat.{zero-add}
use native.Mathlib.Omega.{arith}
use lib.ListN.{length, length-append}
use lib.Seq.{slice}
use Rattle.answers.specs.Lists.{range, numbered}
use Rattle.answers.specs.Lists.{ends_from}
use Rattle.text.specs.Decimal.{line}
use Rattle.listing.specs.InnerSections.{list_lines, cut_from, Ascend}

-- ---- lists by their ends

slice_middle : (before l rest : List ℕ) → slice (length before) (length before + length l) (before ++ (l ++ rest)) ≡ l
slice_middle [] l rest = rw zero-add (front l)
  where
    front : (l : List ℕ) → slice 0 (length l) (l ++ rest) ≡ l
    front [] = refl
    front (x ∷ l) = ap (λ (m : List ℕ). x ∷ m) (front l)
slice_middle (b ∷ before) l rest = let e : suc (length before) + length l ≡ suc (length before + length l) =
    omega arith in rw e (slice_middle before l rest)

pub cut_lists : (before : List ℕ) (ls : List (List ℕ)) (rest : List ℕ)
    → cut_from (length before) (before ++ (flatten ls ++ rest)) (ends_from (length before) ls) ≡ ls
unfolding cut_from ends_from flatten
cut_lists before [] rest = refl
cut_lists before (l ∷ ls) rest =
    let a : before ++ ((l ++ flatten ls) ++ rest) ≡ (before ++ l) ++ (flatten ls ++ rest) = simp append_assoc in
    let b : before ++ ((l ++ flatten ls) ++ rest) ≡ before ++ (l ++ (flatten ls ++ rest)) = simp append_assoc in
    let e : length before + length l ≡ length (before ++ l) = sym (length-append before l) in
    let first : slice (length before) (length before + length l) (before ++ ((l ++ flatten ls) ++ rest)) ≡ l =
    rw b (slice_middle before l (flatten ls ++ rest)) in
    let others : cut_from (length before + length l) (before ++ ((l ++ flatten ls) ++ rest))
    (ends_from (length before + length l) ls) ≡ ls =
    rw (a, e) (cut_lists (before ++ l) ls rest) in
    rw (first, others)

pub ends_ascend : (at size : ℕ) (ls : List (List ℕ)) → at + length (flatten ls) ≤ size → Ascend at size (ends_from at ls)
unfolding Ascend ends_from flatten
ends_ascend at size [] h = tt
ends_ascend at size (l ∷ ls) h =
    let e = length-append l (flatten ls) in
    (omega arith, omega (arith, h, e), ends_ascend (at + length l) size ls (omega (arith, h, e)))

-- ---- numbered

pub numbered_map : (f : ℕ → List ℕ) (x n : ℕ) → list_lines x (map f (range x n)) ≡ flat_map (λ l. line (l ∷ f l)) (range x n)
unfolding numbered range flat_map
numbered_map f x zero = refl
numbered_map f x (suc n) = ap (λ (t : List ℕ). line (x ∷ f x) ++ t) (numbered_map f (suc x) n)
